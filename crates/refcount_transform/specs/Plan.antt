-- Which structs are counted, and the numbers of the graphs that are made for each.
use Rattle.std.specs.Prelude.{ℕ, zero, suc, ◌+◌, ◌==◌, ◌||◌, ◌&&◌, nat_lt, Bool, true, false, cond, List, [], ◌∷◌, ◌++◌, length, slice_get, Option, Some, None, is_some, is_none}
use Rattle.ll_code.specs.declared.program.LlType.{LlType}
use Rattle.ll_code.specs.declared.program.LlType.TheVariants as type
use Rattle.ll_code.specs.declared.program.LlStruct.{LlStruct}
use Rattle.ll_code.specs.declared.program.LlOp.{LlOp}
use Rattle.ll_code.specs.declared.program.LlOp.TheVariants as op
use Rattle.ll_code.specs.declared.program.LlBlock.{LlBlock}
use Rattle.ll_code.specs.declared.program.LlGraph.{LlGraph}
use Rattle.ll_code.specs.declared.program.LlProgram.{LlProgram}
use Rattle.ll_code.specs.Typed.{base_of, items_of}
use Rattle.refcount_transform.specs.declared.plan.Counts.{Counts}
use Rattle.refcount_transform.specs.declared.plan.Held.{Held}
use Rattle.refcount_transform.specs.declared.slots.Slots.{Slots}

-- ---- roots

abbrev pub base_in : List LlStruct → ℕ → Option ℕ
base_in structs n = base_of (slice_get structs n)

abbrev pub above : (ℕ → ℕ) → ℕ → Option ℕ → ℕ
above go n None = n
above go n (Some base) = go base

-- the base of the base, and so on, a time for each of these structs at most
abbrev pub root_within : List LlStruct → List LlStruct → ℕ → ℕ
root_within structs [] n = n
root_within structs (time ∷ times) n = above (root_within structs times) n (base_in structs n)

-- the base that has none itself
abbrev pub root : List LlStruct → ℕ → ℕ
root structs n = root_within structs structs n

-- ---- structs of which blocks are made or written

abbrev pub made_by : LlOp → Option ℕ
made_by (op.New a m n) = Some n
made_by (op.NewArray a m n x) = Some n
made_by (op.SetField n b k x) = Some n
made_by (op.SetItem n b i x) = Some n
made_by other = None

abbrev pub has_root : List LlStruct → ℕ → Option ℕ → Bool
has_root structs r None = false
has_root structs r (Some n) = root structs n == r

-- whether blocks of a struct with this root are made or written
abbrev pub ops_make : List LlStruct → ℕ → List LlOp → Bool
ops_make structs r [] = false
ops_make structs r (o ∷ ops) = has_root structs r (made_by o) || ops_make structs r ops

abbrev pub blocks_make : List LlStruct → ℕ → List LlBlock → Bool
blocks_make structs r [] = false
blocks_make structs r (block ∷ blocks) = ops_make structs r block.ops || blocks_make structs r blocks

abbrev pub graphs_make : List LlStruct → ℕ → List LlGraph → Bool
graphs_make structs r [] = false
graphs_make structs r (graph ∷ graphs) = blocks_make structs r graph.blocks || graphs_make structs r graphs

abbrev pub is_made : List LlStruct → List LlGraph → ℕ → Bool
is_made structs graphs r = nat_lt r (length structs) && graphs_make structs r graphs

abbrev pub counted_from : List LlStruct → List LlGraph → ℕ → List LlStruct → List Bool
counted_from structs graphs n [] = []
counted_from structs graphs n (s ∷ ss) = is_made structs graphs (root structs n) ∷ counted_from structs graphs (suc n) ss

-- for each struct whether its blocks are counted
abbrev pub counted_structs : List LlStruct → List LlGraph → List Bool
counted_structs structs graphs = counted_from structs graphs 0 structs

-- ---- references

abbrev pub marked : Option Bool → Bool
marked None = false
marked (Some b) = b

abbrev pub is_marked : List Bool → ℕ → Bool
is_marked marks n = marked (slice_get marks n)

abbrev pub where_marked : ℕ → Bool → Option ℕ
where_marked n true = Some n
where_marked n false = None

-- the struct that values of the type refer to, where that is counted
abbrev pub reference_to : List Bool → LlType → Option ℕ
reference_to counted (type.Ptr n) = where_marked n (is_marked counted n)
reference_to counted other = None

abbrev pub reference_given : List Bool → Option LlType → Option ℕ
reference_given counted None = None
reference_given counted (Some t) = reference_to counted t

abbrev pub one_if : Option ℕ → ℕ
one_if None = 0
one_if (Some n) = 1

-- how many of these types are those of references
abbrev pub references_in : List Bool → List LlType → ℕ
references_in counted [] = 0
references_in counted (t ∷ ts) = one_if (reference_to counted t) + references_in counted ts

-- how many of the first k
abbrev pub references_before : List Bool → ℕ → List LlType → ℕ
references_before counted zero ts = 0
references_before counted (suc k) [] = 0
references_before counted (suc k) (t ∷ ts) = one_if (reference_to counted t) + references_before counted k ts

-- ---- the numbers of graphs

abbrev pub two_if : Bool → ℕ
two_if true = 2
two_if false = 0

abbrev pub counts_from : ℕ → ℕ → Bool → Counts
counts_from next references items = record {
  release = next;
  puts = next + 1;
  items = next + 1 + references;
  up = next + 1 + references + two_if items;
  down = next + 1 + references + two_if items + 1;
}

abbrev pub counts_for : List Bool → ℕ → LlStruct → Counts
counts_for counted next s = counts_from next (references_in counted s.fields) (is_some (reference_given counted s.items))

-- the number behind the graphs of the struct
abbrev pub next_behind : Bool → ℕ → LlStruct → Counts → ℕ
next_behind true next s counts = counts.up + two_if (is_none s.base)
next_behind false next s counts = next

abbrev pub counts_behind : List Bool → ℕ → ℕ → List LlStruct → List Counts
counts_behind counted n next [] = []
counts_behind counted n next (s ∷ ss) = counts_for counted next s ∷ counts_behind counted (suc n) (next_behind (is_marked counted n) next s (counts_for counted next s)) ss

-- ---- the exception slots

abbrev pub set_by_ops : List LlOp → Option (ℕ × ℕ)
set_by_ops [] = None
set_by_ops (op.ExcSet a b ∷ ops) = Some (a, b)
set_by_ops (other ∷ ops) = set_by_ops ops

abbrev pub or_found : Option (ℕ × ℕ) → Option (ℕ × ℕ) → Option (ℕ × ℕ)
or_found None other = other
or_found (Some x) other = Some x

abbrev pub set_by_blocks : List LlBlock → Option (ℕ × ℕ)
set_by_blocks [] = None
set_by_blocks (block ∷ blocks) = or_found (set_by_ops block.ops) (set_by_blocks blocks)

abbrev pub no_slots : ℕ → Slots
no_slots clear = record { kind = None; value = None; clear = clear }

-- what a variable refers to
abbrev pub referred_by : List Bool → List LlType → ℕ → Option ℕ
referred_by counted types v = reference_given counted (slice_get types v)

abbrev pub or_slots : List Bool → List LlType → ℕ → Option (ℕ × ℕ) → Slots → Slots
or_slots counted types clear None other = other
or_slots counted types clear (Some x) other = record { kind = referred_by counted types x.0; value = referred_by counted types x.1; clear = clear }

-- what the slots refer to tells the first operation that sets them
abbrev pub slots_of : List Bool → List LlGraph → ℕ → Slots
slots_of counted [] clear = no_slots clear
slots_of counted (graph ∷ graphs) clear = or_slots counted graph.types clear (set_by_blocks graph.blocks) (slots_of counted graphs clear)

-- whether some slot owns a reference
abbrev pub own_some : Slots → Bool
own_some slots = is_some slots.kind || is_some slots.value

abbrev pub behind : Slots → ℕ
behind slots = cond (own_some slots) (slots.clear + 1) slots.clear

-- ---- the plan of a program

pub record Plan : Type 0 where
  pub structs : List LlStruct
  pub counted : List Bool
  pub counts : List Counts
  pub slots : Slots

abbrev pub plan_with : List LlStruct → List Bool → List Counts → Slots → Plan
plan_with structs counted counts slots = record { structs = structs; counted = counted; counts = counts; slots = slots }

abbrev pub plan_by : List LlStruct → List Bool → Slots → Plan
plan_by structs counted slots = plan_with structs counted (counts_behind counted 0 (behind slots) structs) slots

abbrev pub plan_among : List LlStruct → List LlGraph → List Bool → Plan
plan_among structs graphs counted = plan_by structs counted (slots_of counted graphs (length graphs))

abbrev pub plan_of : LlProgram → Plan
plan_of program = plan_among program.structs program.graphs (counted_structs program.structs program.graphs)

-- ---- what is asked of a plan

abbrev pub is_counted : Plan → ℕ → Bool
is_counted plan n = is_marked plan.counted n

abbrev pub counts_given : Option Counts → Counts
counts_given None = record { release = 0; puts = 0; items = 0; up = 0; down = 0 }
counts_given (Some counts) = counts

abbrev pub counts_at : Plan → ℕ → Counts
counts_at plan n = counts_given (slice_get plan.counts n)

abbrev pub root_of : Plan → ℕ → ℕ
root_of plan n = root plan.structs n

abbrev pub base_at : Plan → ℕ → Option ℕ
base_at plan n = base_in plan.structs n

-- the struct that a value of this type refers to, where that is counted
abbrev pub referred : Plan → LlType → Option ℕ
referred plan t = reference_to plan.counted t

abbrev pub fields_given : Option LlStruct → List LlType
fields_given None = []
fields_given (Some s) = s.fields

abbrev pub fields_of : Plan → ℕ → List LlType
fields_of plan n = fields_given (slice_get plan.structs n)

-- what the items refer to, where they are references
abbrev pub items_referred : Plan → ℕ → Option ℕ
items_referred plan n = reference_given plan.counted (items_of (slice_get plan.structs n))

-- where a struct begins with the count and the graph that releases it
abbrev pub has_count : Plan → ℕ → Bool
has_count plan n = is_counted plan n && is_none (base_at plan n)

abbrev pub behind_count : Bool → ℕ → ℕ
behind_count true k = suc (suc k)
behind_count false k = k

-- the number of a field once the count stands before it
abbrev pub shifted : Plan → ℕ → ℕ → ℕ
shifted plan n k = behind_count (has_count plan n) k

abbrev pub place_behind : Option ℕ → ℕ → ℕ
place_behind None k = k
place_behind (Some m) zero = zero
place_behind (Some m) (suc k) = k

-- the place of a field among those of the struct itself
abbrev pub place_of : Plan → ℕ → ℕ → ℕ
place_of plan n k = place_behind (base_at plan n) k

abbrev pub number_behind : Plan → ℕ → Option ℕ → ℕ → ℕ
number_behind plan n None place = shifted plan n place
number_behind plan n (Some m) place = suc place

-- the number of the field at a place, in the struct with its count
abbrev pub field_number : Plan → ℕ → ℕ → ℕ
field_number plan n place = number_behind plan n (base_at plan n) place

-- what a field refers to, where it is a reference
abbrev pub field_referred : Plan → ℕ → ℕ → Option ℕ
field_referred plan n k = reference_given plan.counted (slice_get (fields_of plan n) (place_of plan n k))

-- the graph that sets a field which is a reference
abbrev pub put_of : Plan → ℕ → ℕ → ℕ
put_of plan n k = (counts_at plan n).puts + references_before plan.counted (place_of plan n k) (fields_of plan n)

-- ---- the fields that are references

abbrev pub held_if : ℕ → ℕ → Option ℕ → List Held → List Held
held_if n number None held = held
held_if n number (Some m) held = record { owner = n; number = number; to = m } ∷ held

abbrev pub held_from : Plan → ℕ → ℕ → List LlType → List Held
held_from plan n place [] = []
held_from plan n place (t ∷ ts) = held_if n (field_number plan n place) (referred plan t) (held_from plan n (suc place) ts)

-- those of the struct itself
abbrev pub own_held : Plan → ℕ → List Held
own_held plan n = held_from plan n 0 (fields_of plan n)

abbrev pub of_base : (ℕ → List Held) → Option ℕ → List Held
of_base go None = []
of_base go (Some m) = go m

abbrev pub held_within : Plan → List LlStruct → ℕ → List Held
held_within plan [] n = []
held_within plan (time ∷ times) n = own_held plan n ++ of_base (held_within plan times) (base_at plan n)

-- those of the struct and of its bases
abbrev pub held_of : Plan → ℕ → List Held
held_of plan n = held_within plan plan.structs n
