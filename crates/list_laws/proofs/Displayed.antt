-- A list without items is made.
use Rattle.std.proofs.Common.{◌≡◌, ◌<◌, ◌≤◌, ℕ, ◌+◌, ◌-◌, Bool, true, false, List, [], ◌∷◌, ◌++◌, length, Option, Some, None, pos, refl, sym, ap, ◌∙◌, subst, arith, append_assoc, length-append}
use Rattle.std.specs.Prelude.{nat_lt, if◌then◌else◌}
use Rattle.std.proofs.lemmas.Bool.Decides.{nat_tests}
use Rattle.std.proofs.lemmas.List.{append-nil, length-set}
use Rattle.csub_tree.specs.State.{Value, Ptr, Block, Core}
use Rattle.csub_tree.specs.Operation.{is_unset}
use Rattle.csub_tree.specs.Statement.{read}
use Rattle.csub_tree.specs.declared.tree.COperand.TheVariants.{Var}
use Rattle.rpy_tree.specs.Value.{Value as Meant, Ref, Listed as ListedObject}
use Rattle.rpy_meaning.specs.declared.row.Covers.{Covers}
use Rattle.rpy_meaning.specs.declared.row.RowOp.TheVariants as row
use Rattle.rpy_meaning.specs.Operations.{op as meant_op}
use Rattle.rpy_meaning.specs.World.{World, Answer, Gives, Lacks}
use Rattle.ll_code.specs.State.{Frame, State, At}
use Rattle.ll_code.specs.declared.program.LlType.TheVariants as type
use Rattle.ll_code.specs.declared.program.LlOp.{LlOp}
use Rattle.ll_code.specs.declared.program.LlOp.TheVariants as op
use Rattle.ll_code.specs.declared.program.LlExit.{LlExit}
use Rattle.ll_code.specs.declared.program.LlProgram.{LlProgram}
use Rattle.ll_build.specs.declared.needs.Numbers.{Numbers}
use Rattle.ll_leads.specs.Memory.{forgotten}
use Rattle.ll_leads.specs.Path.{Leads}
use Rattle.ll_leads.proofs.Joined.{leads_then, leads_more}
use Rattle.ll_leads.proofs.Ways.{on, rests, pays, lacks}
use Rattle.ll_texts.specs.Texts.{found}
use Rattle.ll_texts.proofs.Writing.{newest}
use Rattle.rtyper_layout.specs.Kinds.{kind_seen}
use Rattle.rtyper_layout.specs.Layout.{is_list}
use Rattle.rtyper_layout.specs.Types.{word, type_seen}
use Rattle.rtyper_data.specs.declared.small.Small.{Small}
use Rattle.rtyper_data.specs.declared.small.Small.TheVariants as small
use Rattle.rtyper_data.specs.declared.small.Listed.TheVariants as listed
use Rattle.rtyper_data.specs.Converting.{by_small}
use Rattle.rtyper_data.specs.Finding.{small_number}
use Rattle.rtyper_data.specs.Numbers.{word as word_operand}
use Rattle.rtyper_data.specs.Seen.{Around, Place, Writing, writing, push}
use Rattle.rtyper_data.specs.Tuples.{variable_of}
use Rattle.rtyper_list.specs.Displays.{display, display_to, display_of, made, filled, comprehension, comprehension_to}
use Rattle.rtyper_list.specs.Lowering.{lowered, lower_list_op}
use Rattle.rtyper_list.specs.Operands.{of_list, list_at, list_if, array_in, give_listed}
use Rattle.lower_laws.specs.Asked.{Make}
use Rattle.lower_laws.specs.Values.{AllBelow}
use Rattle.lower_laws.proofs.Doing.{after}
use Rattle.lower_laws.proofs.Items.{gives_same}
use Rattle.lower_laws.proofs.Single.{sets}
use Rattle.list_laws.specs.Done.{IsDone}
use Rattle.list_laws.specs.Asked.{HasList, HasAll}
use Rattle.object_laws.specs.Known.{Known}
use Rattle.object_laws.specs.Done.{Any, Follows, HasLayout, references}
use Rattle.object_laws.specs.Ghost.{Ghost, ListOf}
use Rattle.list_laws.specs.Lists.{EmptyListsAreMade}
use Rattle.object_laws.specs.Represents.{Represents, head_block, array_block}
use Rattle.object_laws.specs.Values.{Given, Holds, Listed, Empty}
use Rattle.object_laws.proofs.Blocks.{reads_field}
use Rattle.object_laws.proofs.Calling.{back, calls_back}
use Rattle.object_laws.proofs.Made.{get_first, with_list, list_grown, list_made}
use Rattle.list_laws.proofs.Making.{made_list}
use Rattle.object_laws.proofs.Passing.{Passed, none_passed, sets_more, is_set_at, is_kept_at}

-- ---- a list is begun, and what follows gives it to the place

-- the place takes what this variable has
record Finished (p : LlProgram) (args : List (List ℕ)) (tail rest : List LlOp) (e : LlExit) (frames : List Frame) (core : Core) (below variable : ℕ) (value : Value) : Type 0 where
  mid : Core
  passed : Passed below core mid
  way : Leads p args 0 (At (tail ++ rest) e frames core) [] (At rest e frames (after mid variable value))

abbrev pays_one : LlOp
pays_one = op.Step (word_operand (pos 1))

abbrev makes : ℕ → ℕ → LlOp
makes m number = op.Call (Some m) number (word_operand (pos 0) ∷ [])

abbrev begun_world : World → World
begun_world w = record w { heap = w.heap ++ ListedObject [] ∷ []; left = w.left - 1 }

module _ (known : Known) (around : Around) (place : Place) (n number m : ℕ) (lists : of_list (kind_seen place.element) ≡ true) (typed : type_seen around.layout place.element ≡ type.Ptr n) (struct : is_list around.layout n ≡ true)
    (p : LlProgram) (raised : ℕ → Value) (arguments : List (List ℕ)) (tail rest : List LlOp) (e : LlExit) (frames : List Frame) (core : Core) (g : Ghost) (world : World)
    (structs : HasLayout p around.layout) (has : HasList p around.layout raised (listed.Make n) number)
    (stands : Represents around.layout known g world.heap world.left core.blocks core.statics) (left : world.left ≡ core.steps) (room : m < length core.vars) (inside : place.variable < m)
    (finish : (core2 : Core) (head : ℕ) (array : Value) → length core2.vars ≡ length core.vars → is_unset array ≡ false → read core2.vars m ≡ Ptr head → found core2.blocks core2.statics (Ptr head) ≡ Some (head_block n 0 array) → Finished p arguments tail rest e frames core2 m place.variable (Ptr head)) where
  abbrev Here : State
  Here = At (pays_one ∷ makes m number ∷ (tail ++ rest)) e frames core

  abbrev Done : Answer → Type 0
  Done answer = Follows 2 known around place p arguments Here rest e frames core g raised 1 m world answer

  lacking : world.left < 1 → Done Lacks
  lacking short = record { last = Here; leads = rests; ends = lacks p arguments (makes m number ∷ (tail ++ rest)) e frames core (word_operand (pos 1)) 1 refl (omega (arith, short, left)); blocks = refl; holds = λ placed b h. h }

  abbrev bs1 : List (Option Block)
  bs1 = core.blocks ++ Some (array_block n []) ∷ []

  abbrev head : ℕ
  head = length bs1

  abbrev blocks2 : List (Option Block)
  blocks2 = bs1 ++ Some (head_block n 0 (Ptr (length core.blocks))) ∷ []

  abbrev core1 : Core
  core1 = record core { at = core.at + 1; steps = world.left - 1 }

  abbrev core2 : Core
  core2 = back core1 (record core1 { blocks = blocks2 }) (Some m) (Ptr head)

  abbrev ghost : Ghost
  ghost = with_list g n (length world.heap)

  both : blocks2 ≡ core.blocks ++ Some (array_block n []) ∷ Some (head_block n 0 (Ptr (length core.blocks))) ∷ []
  both = append_assoc core.blocks (Some (array_block n []) ∷ []) (Some (head_block n 0 (Ptr (length core.blocks))) ∷ [])

  head_is : head ≡ length g.blocks + 1
  head_is = length-append core.blocks (Some (array_block n []) ∷ []) ∙ ap (λ k. k + 1) (sym stands.made)

  represents : Represents around.layout known ghost (begun_world world).heap (world.left - 1) blocks2 core.statics
  represents = subst (λ bs. Represents around.layout known ghost (begun_world world).heap (world.left - 1) bs core.statics) (sym both) (list_made stands n (world.left - 1) [] [] (omega arith) struct Empty (omega arith) (let f = stands.few in omega (arith, f)) (structs.lists_apart n struct))

  held : Holds around.layout known ghost place.element (Ptr head) (Ref (length world.heap))
  held = Listed n (length world.heap) lists refl typed struct (get_first g.homes [] (record { sort = ListOf n; head = Ptr (length g.blocks + 1) }) (length world.heap) (sym stands.homes) ∙ ap (λ k. Some (record { sort = ListOf n; head = Ptr k })) (sym head_is))

  paying : 1 ≤ world.left → Finished p arguments tail rest e frames core2 m place.variable (Ptr head) → Done (Gives (Ref (length world.heap)) (begun_world world))
  paying enough last = record {
    end = after last.mid place.variable (Ptr head);
    text = [];
    leads = leads_more (0 + (1 + 0)) 1 (omega arith) (leads_then (pays 1 (world.left - 1) refl (omega (arith, left, enough))) (leads_then calls last.way));
    ghost = ghost;
    grown = list_grown g n (length world.heap);
    stands = subst (λ (c : Core). Represents around.layout known ghost (begun_world world).heap (world.left - 1) c.blocks c.statics) (sym last.passed.memory) represents;
    holds = subst (λ x. Holds around.layout known ghost place.element x (Ref (length world.heap))) (sym (is_set_at last.mid place.variable (Ptr head) (let r = last.passed.room in omega (arith, room, inside, r, long)))) held;
    few = (let l : length blocks2 ≡ length core.blocks + 2 = ap length both ∙ length-append core.blocks (Some (array_block n []) ∷ Some (head_block n 0 (Ptr (length core.blocks))) ∷ []) in let s : length last.mid.blocks ≡ length blocks2 = ap (λ (c : Core). length c.blocks) last.passed.memory in omega (arith, l, s));
    memory = last.passed.memory
        ∙ ap (λ bs. forgotten (record core { blocks = bs; steps = world.left - 1 })) (sym (ap (λ (c : Core). c.blocks) last.passed.memory))
        ∙ ap (λ ss. forgotten (record core { blocks = last.mid.blocks; statics = ss; steps = world.left - 1 })) (sym (ap (λ (c : Core). c.statics) last.passed.memory));
    others = λ k under other. is_kept_at last.mid place.variable k (Ptr head) other ∙ last.passed.others k under ∙ is_kept_at core m k (Ptr head) (λ q. omega (arith, under, q));
    room = length-set last.mid.vars place.variable (Ptr head) ∙ last.passed.room ∙ long;
    function = last.passed.function;
    block = last.passed.block;
    out = sym (append-nil world.out);
  }
    where
      long : length core2.vars ≡ length core.vars
      long = length-set core.vars m (Ptr head)

      calls : Leads p arguments 1 (At (makes m number ∷ (tail ++ rest)) e frames core1) [] (At (tail ++ rest) e frames core2)
      calls = calls_back 1 refl refl (made_list p arguments around.layout n number 0 (structs.heads n struct) (structs.arrays n struct) has.graph core1)

  begun : Done (if nat_lt world.left 1 then Lacks else Gives (Ref (length world.heap)) (begun_world world))
  begun = by (nat_lt world.left 1) refl
    where
      by : (c : Bool) → nat_lt world.left 1 ≡ c → Done (if c then Lacks else Gives (Ref (length world.heap)) (begun_world world))
      by true h = lacking (grind (arith, nat_tests, h))
      by false h = paying (grind (arith, nat_tests, h)) (finish core2 head (Ptr (length core.blocks)) (length-set core.vars m (Ptr head)) refl (is_set_at core m (Ptr head) room) (newest bs1 (Some (head_block n 0 (Ptr (length core.blocks)))) None))

-- ---- a display, and a comprehension

module _ (known : Known) (around : Around) (place : Place) (w : Writing) (covers : Covers) (site n : ℕ) (lists : of_list (kind_seen place.element) ≡ true) (typed : type_seen around.layout place.element ≡ type.Ptr n) (struct : is_list around.layout n ≡ true) where
  abbrev graph : Small
  graph = small.Listed (listed.Make n)

  abbrev number : ℕ
  number = (small_number graph w.found).0

  abbrev m1 : ℕ
  m1 = length w.body.types

  abbrev m2 : ℕ
  m2 = length (w.body.types ++ type.Ptr n ∷ [])

  abbrev gets_array : LlOp
  gets_array = op.GetField m2 n m1 1

  abbrev puts : LlOp
  puts = op.Set place.variable (Var m1)

  list_there : list_at around place ≡ Some n
  unfolding list_at
  list_there = ap (list_if around.layout) typed ∙ ap (λ c. if c then Some n else None) struct

  display_written : lower_list_op around (row.List site) place [] w ≡ writing (small_number graph w.found).1 (record { types = (w.body.types ++ type.Ptr n ∷ []) ++ type.Ptr (word (n + 1)) ∷ []; ops = (((w.body.ops ++ pays_one ∷ []) ++ makes m1 number ∷ []) ++ gets_array ∷ []) ++ puts ∷ [] })
  unfolding lowered display display_of made by_small variable_of filled array_in
  display_written = ap (λ r. display_to around place [] r (push pays_one w)) list_there

  comprehension_written : lower_list_op around (row.Comprehension site) place [] w ≡ writing (small_number graph w.found).1 (record { types = w.body.types ++ type.Ptr n ∷ []; ops = ((w.body.ops ++ pays_one ∷ []) ++ makes m1 number ∷ []) ++ puts ∷ [] })
  unfolding lowered comprehension give_listed by_small
  comprehension_written = ap (λ r. comprehension_to around place r (push pays_one w)) list_there
      ∙ gives_same around place (Var m1) (type.Ptr n) (writing (small_number graph w.found).1 (record { types = w.body.types ++ type.Ptr n ∷ []; ops = (w.body.ops ++ pays_one ∷ []) ++ makes m1 number ∷ [] })) (λ h. absurd (cc)) typed

  module _ (p : LlProgram) (arguments : List (List ℕ)) (rest : List LlOp) (e : LlExit) (frames : List Frame) (structs : HasLayout p around.layout) where
    -- the array is read, and is not used
    after_display : (core2 : Core) (head : ℕ) (array : Value) → m1 + 2 ≤ length core2.vars → is_unset array ≡ false → read core2.vars m1 ≡ Ptr head → found core2.blocks core2.statics (Ptr head) ≡ Some (head_block n 0 array) → Finished p arguments (gets_array ∷ puts ∷ []) rest e frames core2 m1 place.variable (Ptr head)
    after_display core2 head array room set at there = record {
      mid = after core2 m2 array;
      passed = sets_more m2 array (omega (arith, m2_is)) none_passed;
      way = on (reads_field 2 (head_block n 0 array) array (structs.heads n struct) (ap (found core2.blocks core2.statics) at ∙ there) refl set 1 refl) (sets (Ptr head) (is_kept_at core2 m2 m1 array (λ q. omega (arith, q, m2_is)) ∙ at) refl);
    }
      where
        m2_is : m2 ≡ m1 + 1
        m2_is = length-append w.body.types (type.Ptr n ∷ [])

    after_comprehension : (core2 : Core) (head : ℕ) → read core2.vars m1 ≡ Ptr head → Finished p arguments (puts ∷ []) rest e frames core2 m1 place.variable (Ptr head)
    after_comprehension core2 head at = record { mid = core2; passed = none_passed; way = sets (Ptr head) at refl }

  display_done : IsDone known around (row.List site) covers (Make graph ∷ []) place [] w
  display_done = record {
    ops = pays_one ∷ makes m1 number ∷ gets_array ∷ puts ∷ [];
    new = type.Ptr n ∷ type.Ptr (word (n + 1)) ∷ [];
    asked = ap (λ (r : Writing). r.found) display_written;
    written = ap (λ (r : Writing). r.body.ops) display_written ∙ append_assoc ((w.body.ops ++ pays_one ∷ []) ++ makes m1 number ∷ []) (gets_array ∷ []) (puts ∷ []) ∙ append_assoc (w.body.ops ++ pays_one ∷ []) (makes m1 number ∷ []) (gets_array ∷ puts ∷ []) ∙ append_assoc w.body.ops (pays_one ∷ []) (makes m1 number ∷ gets_array ∷ puts ∷ []);
    types = ap (λ (r : Writing). r.body.types) display_written ∙ append_assoc w.body.types (type.Ptr n ∷ []) (type.Ptr (word (n + 1)) ∷ []);
    follows = follows;
  }
    where
      follows : (p : LlProgram) (numbers : Numbers) (raised : ℕ → Value) (arguments : List (List ℕ)) (rest : List LlOp) (e : LlExit) (frames : List Frame) (core : Core) (g : Ghost) (world : World) (vs : List Meant)
          → HasLayout p around.layout → HasAll p around.layout numbers raised core (Make graph ∷ []) w.found → Represents around.layout known g world.heap world.left core.blocks core.statics → world.left ≡ core.steps → m1 + 2 ≤ length core.vars → place.variable < m1 → AllBelow m1 [] → Given known around g core [] vs → Any world vs
          → Follows 2 known around place p arguments (At (pays_one ∷ makes m1 number ∷ gets_array ∷ puts ∷ rest) e frames core) rest e frames core g raised (references world.heap vs) m1 world (meant_op known.program covers (row.List site) vs world)
      follows p numbers raised arguments rest e frames core g world [] structs has stands left room inside below given good =
          begun known around place n number m1 lists typed struct p raised arguments (gets_array ∷ puts ∷ []) rest e frames core g world structs has.0 stands left (omega (arith, room)) inside
          (λ core2 head array long set at there. after_display p arguments rest e frames structs core2 head array (omega (arith, room, long)) set at there)
      follows p numbers raised arguments rest e frames core g world (v ∷ vs) structs has stands left room inside below given good = absurd given

  comprehension_done : IsDone known around (row.Comprehension site) covers (Make graph ∷ []) place [] w
  comprehension_done = record {
    ops = pays_one ∷ makes m1 number ∷ puts ∷ [];
    new = type.Ptr n ∷ [];
    asked = ap (λ (r : Writing). r.found) comprehension_written;
    written = ap (λ (r : Writing). r.body.ops) comprehension_written ∙ append_assoc (w.body.ops ++ pays_one ∷ []) (makes m1 number ∷ []) (puts ∷ []) ∙ append_assoc w.body.ops (pays_one ∷ []) (makes m1 number ∷ puts ∷ []);
    types = ap (λ (r : Writing). r.body.types) comprehension_written;
    follows = follows;
  }
    where
      follows : (p : LlProgram) (numbers : Numbers) (raised : ℕ → Value) (arguments : List (List ℕ)) (rest : List LlOp) (e : LlExit) (frames : List Frame) (core : Core) (g : Ghost) (world : World) (vs : List Meant)
          → HasLayout p around.layout → HasAll p around.layout numbers raised core (Make graph ∷ []) w.found → Represents around.layout known g world.heap world.left core.blocks core.statics → world.left ≡ core.steps → m1 + 1 ≤ length core.vars → place.variable < m1 → AllBelow m1 [] → Given known around g core [] vs → Any world vs
          → Follows 2 known around place p arguments (At (pays_one ∷ makes m1 number ∷ puts ∷ rest) e frames core) rest e frames core g raised (references world.heap vs) m1 world (meant_op known.program covers (row.Comprehension site) vs world)
      follows p numbers raised arguments rest e frames core g world [] structs has stands left room inside below given good =
          begun known around place n number m1 lists typed struct p raised arguments (puts ∷ []) rest e frames core g world structs has.0 stands left (omega (arith, room)) inside
          (λ core2 head array long set at there. after_comprehension p arguments rest e frames structs core2 head at)
      follows p numbers raised arguments rest e frames core g world (v ∷ vs) structs has stands left room inside below given good = absurd given

pub displays_are_made : (site : ℕ) → EmptyListsAreMade (row.List site)
displays_are_made site known around place w covers n lists typed struct = display_done known around place w covers site n lists typed struct

pub comprehensions_begin : (site : ℕ) → EmptyListsAreMade (row.Comprehension site)
comprehensions_begin site known around place w covers n lists typed struct = comprehension_done known around place w covers site n lists typed struct
