-- The strings of a list are joined, with a string between them.
use Rattle.std.specs.Prelude.{◌≡◌, ◌<◌, ◌≤◌, ◌⊎◌, ℕ, ◌+◌, true, List, [], ◌∷◌, ◌++◌, length, Option, Some, codes}
use Rattle.ann_element.specs.declared.element.Element.{Element}
use Rattle.rpy_base.specs.declared.outcome.Outcome.TheVariants.{Running}
use Rattle.rpy_tree.specs.Value.{Value as Meant, Nothing}
use Rattle.rpy_meaning.specs.declared.row.Covers.{Covers}
use Rattle.rpy_meaning.specs.declared.row.RowOp.{RowOp}
use Rattle.rpy_meaning.specs.declared.row.RowOp.TheVariants as row
use Rattle.rpy_meaning.specs.Operations.{op}
use Rattle.rpy_meaning.specs.World.{World, Answer, Lacks}
use Rattle.csub_tree.specs.State.{Value, Block, Core}
use Rattle.csub_tree.specs.Statement.{operand}
use Rattle.ll_code.specs.State.{Frame, State, At, Ends}
use Rattle.ll_code.specs.Machine.{step}
use Rattle.ll_code.specs.declared.program.LlType.{LlType}
use Rattle.ll_code.specs.declared.program.LlType.TheVariants as type
use Rattle.ll_code.specs.declared.program.LlOp.{LlOp}
use Rattle.ll_code.specs.declared.program.LlExit.{LlExit}
use Rattle.ll_code.specs.declared.program.LlProgram.{LlProgram}
use Rattle.ll_build.specs.declared.needs.Numbers.{Numbers}
use Rattle.ll_held.specs.Held.{times}
use Rattle.ll_held.specs.Places.{IsPlaced}
use Rattle.ll_held.specs.Roots.{core_of, roots}
use Rattle.ll_leads.specs.Path.{Leads}
use Rattle.ll_texts.specs.Texts.{found}
use Rattle.rtyper_layout.specs.declared.kind.Kind.TheVariants as kind
use Rattle.rtyper_layout.specs.Kinds.{is_text, kind_seen}
use Rattle.rtyper_data.specs.declared.small.Listed.TheVariants as listed
use Rattle.rtyper_data.specs.declared.small.Small.TheVariants as small
use Rattle.rtyper_data.specs.Seen.{Around, Operand, Place, kind_of, Writing}
use Rattle.rtyper_list.specs.Lowering.{lower_list_op}
use Rattle.lower_laws.specs.Asked.{Ask, Make, all_asked}
use Rattle.lower_laws.specs.Texted.{Takes, asks_of}
use Rattle.lower_laws.specs.Values.{AllBelow}
use Rattle.object_laws.specs.Done.{AllAsked, Follows, HasLayout}
use Rattle.object_laws.specs.Ghost.{Ghost}
use Rattle.object_laws.specs.Known.{Known}
use Rattle.object_laws.specs.Represents.{Represents}
use Rattle.object_laws.specs.Values.{Given}
use Rattle.list_laws.specs.Lists.{IsList}
use Rattle.join_laws.specs.Asked.{Has}

-- ---- where the steps do not suffice

-- the block or static that this value leads to refers to the block of this number
abbrev pub Names : Core → Value → ℕ → Type 0
Names core x b = (block : Block) × (found core.blocks core.statics x ≡ Some block) × (0 < times b block.fields)

-- The run ends over the blocks that were there, and holds no others than were held, and the array of the list that this value leads to.
pub record LackedOver (p : LlProgram) (args : List (List ℕ)) (s : State) (core : Core) (list : Value) : Type 0 where
  pub last : State
  pub leads : Leads p args 0 s [] last
  pub ends : step p args last ≡ Ends Running (core_of last)
  pub blocks : (core_of last).blocks ≡ core.blocks
  pub holds : IsPlaced p s → (b : ℕ) → 0 < times b (roots p last) → (0 < times b (roots p s)) ⊎ Names core list b

abbrev pub FollowsOver : Value → ℕ → Known → Around → Place → LlProgram → List (List ℕ) → State → List LlOp → LlExit → List Frame → Core → Ghost → (ℕ → Value) → ℕ → ℕ → World → Answer → Type 0
FollowsOver list blocks known around place p args s rest e frames core g raised most below w Lacks = LackedOver p args s core list
FollowsOver list blocks known around place p args s rest e frames core g raised most below w answer = Follows blocks known around place p args s rest e frames core g raised most below w answer

-- ---- the operation

-- the string between is there
abbrev pub IsThere : List Meant → Type 0
IsThere (Nothing ∷ vs) = ⊥
IsThere vs = Unit {0}

-- What is written behind what was there asks for this, and does what the operation does: in every program that has it at its numbers, over
-- every memory that represents the heap, whatever comes behind and waits. At most one block is made, and no reference is written.
pub record IsJoined (known : Known) (around : Around) (o : RowOp) (covers : Covers) (asks : List Ask) (place : Place) (a b : Operand) (w : Writing) : Type 0 where
  pub ops : List LlOp
  pub new : List LlType
  pub asked : (lower_list_op around o place (a ∷ b ∷ []) w).found ≡ all_asked asks w.found
  pub written : (lower_list_op around o place (a ∷ b ∷ []) w).body.ops ≡ w.body.ops ++ ops
  pub types : (lower_list_op around o place (a ∷ b ∷ []) w).body.types ≡ w.body.types ++ new
  pub follows : (p : LlProgram) (numbers : Numbers) (raised : ℕ → Value) (arguments : List (List ℕ)) (rest : List LlOp) (e : LlExit) (frames : List Frame) (core : Core) (g : Ghost) (world : World) (vs : List Meant)
      → HasLayout p around.layout → AllAsked (Has p around.layout numbers raised core) asks w.found → Represents around.layout known g world.heap world.left core.blocks core.statics → world.left ≡ core.steps
      → length w.body.types + length new ≤ length core.vars → place.variable < length w.body.types → AllBelow (length w.body.types) (a ∷ b ∷ []) → Given known around g core (a ∷ b ∷ []) vs → IsThere vs
      → FollowsOver (operand core.vars b.x) 1 known around place p arguments (At (ops ++ rest) e frames core) rest e frames core g raised 0 (length w.body.types) world (op known.program covers o vs world)

-- A string or a byte between the items of a list, which are strings or bytes, gives a string, at its cost.
abbrev pub StringsAreJoined : Type 0
StringsAreJoined = (site : Option ℕ) (known : Known) (around : Around) (place : Place) (a b : Operand) (w : Writing) (n : ℕ) (item : Element) → is_text (kind_of a) ≡ true → kind_of b ≡ kind.List → IsList around known b.element n item → is_text (kind_seen (Some item)) ≡ true → Takes around place (type.Ptr 0)
    → IsJoined known around (row.Method (codes "join") site) w.found.covered (asks_of a ++ Make (small.Listed (listed.Join n)) ∷ []) place a b w
