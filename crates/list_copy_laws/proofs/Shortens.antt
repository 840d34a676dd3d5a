-- All items of a list but the last.
use Rattle.std.proofs.Common.{◌≡◌, ◌<◌, ◌≤◌, ℕ, ◌+◌, ◌-◌, ◌⊎◌, inl, inr, true, false, ◌||◌, List, [], ◌∷◌, ◌++◌, length, Some, None, sym, ap, ◌∙◌, subst, arith, append_assoc, length-append}
use Rattle.std.specs.Prelude.{slice_get, if◌then◌else◌, take}
use Rattle.ann_element.specs.declared.element.Element.{Element}
use Rattle.csub_tree.specs.State.{Value, Core}
use Rattle.csub_tree.specs.Statement.{operand, operands, any_unset}
use Rattle.csub_tree.specs.declared.tree.COperand.{COperand}
use Rattle.csub_tree.specs.declared.tree.COperand.TheVariants.{Var}
use Rattle.rpy_tree.specs.Value.{Value as Meant, Nothing, Ref}
use Rattle.rpy_meaning.specs.declared.row.RowOp.{RowOp}
use Rattle.rpy_meaning.specs.declared.row.RowOp.TheVariants as row
use Rattle.rpy_meaning.specs.Operations.{op as meant_op}
use Rattle.rpy_meaning.specs.World.{World, on_list, new_list}
use Rattle.ll_code.specs.State.{Frame, State, At}
use Rattle.ll_code.specs.declared.program.LlType.{LlType}
use Rattle.ll_code.specs.declared.program.LlType.TheVariants as type
use Rattle.ll_code.specs.declared.program.LlOp.{LlOp}
use Rattle.ll_code.specs.declared.program.LlOp.TheVariants as op
use Rattle.ll_code.specs.declared.program.LlExit.{LlExit}
use Rattle.ll_code.specs.declared.program.LlProgram.{LlProgram}
use Rattle.ll_build.specs.declared.needs.Numbers.{Numbers}
use Rattle.rtyper_layout.specs.Layout.{is_list}
use Rattle.rtyper_layout.specs.Types.{word, type_of as element_type}
use Rattle.rtyper_data.specs.declared.found.Found.{Found}
use Rattle.rtyper_data.specs.declared.small.Small.{Small}
use Rattle.rtyper_data.specs.declared.small.Small.TheVariants as small
use Rattle.rtyper_data.specs.declared.small.Listed.TheVariants as listed
use Rattle.rtyper_data.specs.Converting.{by_small}
use Rattle.rtyper_data.specs.Finding.{small_number}
use Rattle.rtyper_data.specs.Seen.{Around, Operand, Place, Writing, writing}
use Rattle.list_shape.specs.Shapes.{item_of, taking}
use Rattle.rtyper_list.specs.Displays.{but_last, but_last_to}
use Rattle.rtyper_list.specs.Lowering.{lowered, of_some, first_of_one, lower_list_op}
use Rattle.rtyper_list.specs.Operands.{list_of, list_at, list_if, pointed, give_listed}
use Rattle.lower_laws.specs.Asked.{Ask, Make, all_asked}
use Rattle.lower_laws.proofs.Items.{gives_same}
use Rattle.lower_laws.proofs.Stayed.{field_is}
use Rattle.list_laws.specs.Done.{IsDone}
use Rattle.list_laws.specs.Asked.{HasButLast, HasAll}
use Rattle.list_laws.specs.Lists.{IsList, there_asks}
use Rattle.list_laws.proofs.Indexed.{asked_both, has_first, has_more}
use Rattle.list_laws.proofs.Lowered.{list_comes, one_comes, first_is_list}
use Rattle.list_laws.proofs.Walked.{two_behind}
use Rattle.object_laws.specs.Known.{Known}
use Rattle.object_laws.specs.Done.{Follows, HasLayout, items_in, references}
use Rattle.object_laws.specs.Ghost.{Ghost, ListOf}
use Rattle.object_laws.specs.Staying.{Stays}
use Rattle.object_laws.specs.Represents.{Represents, ListAt}
use Rattle.object_laws.specs.Values.{Given, EachHolds}
use Rattle.object_laws.proofs.Blocks.{found_set, found_there}
use Rattle.object_laws.proofs.Valued.{Listing, Absent, list_or_none, stays_typed, stays_there}
use Rattle.list_copy_laws.specs.Joined.{Takes, LastItemsAreLeftOut}
use Rattle.list_copy_laws.proofs.Extends.{each_stays}
use Rattle.list_copy_laws.proofs.Newly.{after_list, list_given}
use Rattle.list_copy_laws.proofs.Ready.{Went, from_there, Ready, ready}
use Rattle.list_copy_laws.proofs.Shortening.{shortened, but_last_lacks}
use Rattle.list_copy_laws.proofs.Slicing.{cut, drop_none}

module _ (site : ℕ) (known : Known) (around : Around) (place : Place) (a : Operand) (w : Writing) (l n : ℕ) (item result : Element) (of : IsList around known a.element l item) (takes : Takes around known place n result) (stay : Stays around.layout known (Some item) (Some result)) where
  abbrev o : RowOp
  o = row.AllButLast site

  it : Ready around a w
  it = ready around a w of.is

  abbrev cuts : Small
  cuts = small.Listed (listed.ButLast l n)

  abbrev first : Found
  first = all_asked (there_asks around a w.found.covered) w.found

  abbrev asks : List Ask
  asks = there_asks around a w.found.covered ++ Make cuts ∷ []

  abbrev number : ℕ
  number = (small_number cuts first).0

  abbrev types0 : List LlType
  types0 = w.body.types ++ it.new

  abbrev m1 : ℕ
  m1 = length types0

  abbrev calls : LlOp
  calls = op.Call (Some m1) number (it.x ∷ [])

  abbrev puts : LlOp
  puts = op.Set place.variable (Var m1)

  list_is : list_of around a ≡ l
  unfolding list_of
  list_is = ap pointed of.typed

  list_there : list_at around place ≡ Some n
  unfolding list_at
  list_there = ap (list_if around.layout) takes.list.typed ∙ ap (λ c. if c then Some n else None) takes.struct

  result_there : element_type around.layout result ≡ type.Void → ⊥
  result_there h = stays_there stay h

  typed : item_of around.layout (word (l + 1)) ≡ item_of around.layout (word (n + 1))
  typed = of.items ∙ field_is (element_type around.layout item) (λ h. result_there (sym (stays_typed stay) ∙ h)) ∙ stays_typed stay ∙ sym (takes.list.items ∙ field_is (element_type around.layout result) result_there)

  each_as : (xs : List Value) (vs : List Meant) (g : Ghost) → EachHolds around.layout known g (known.items l) xs vs → EachHolds around.layout known g (known.items n) xs vs
  each_as xs vs g each = subst (λ seen. EachHolds around.layout known g seen xs vs) (sym takes.list.item_is) (each_stays stay (subst (λ seen. EachHolds around.layout known g seen xs vs) of.item_is each))

  abbrev entered : Writing
  entered = writing first (record { types = types0; ops = w.body.ops ++ it.ops })

  abbrev called_from : ℕ → COperand × Writing → Writing
  called_from k made = taking made (λ x next. give_listed around place (listed.ButLast k n) (type.Ptr n) (x ∷ []) next)

  is_written : lower_list_op around o place (a ∷ []) w ≡ writing (small_number cuts first).1 (record { types = types0 ++ type.Ptr n ∷ []; ops = ((w.body.ops ++ it.ops) ++ calls ∷ []) ++ puts ∷ [] })
  unfolding lowered of_some first_of_one but_last give_listed by_small
  is_written =
      one_comes around o place a w (list_comes a of.is)
      ∙ first_is_list around o place a w of.is
      ∙ ap (λ r. but_last_to around place a r w) list_there
      ∙ ap (called_from (list_of around a)) it.written
      ∙ ap (λ k. called_from k (it.x, entered)) list_is
      ∙ gives_same around place (Var m1) (type.Ptr n) (writing (small_number cuts first).1 (record { types = types0 ++ type.Ptr n ∷ []; ops = (w.body.ops ++ it.ops) ++ calls ∷ [] })) (λ h. absurd (cc)) takes.list.typed

  new_long : length (it.new ++ type.Ptr n ∷ []) ≡ length it.new + 1
  new_long = length-append it.new (type.Ptr n ∷ [])

  m1_is : m1 ≡ length w.body.types + length it.new
  m1_is = length-append w.body.types it.new

  module _ (p : LlProgram) (numbers : Numbers) (raised : ℕ → Value) (arguments : List (List ℕ)) (rest : List LlOp) (e : LlExit) (frames : List Frame) (core : Core) (g : Ghost) (world : World)
      (structs : HasLayout p around.layout) (has : HasAll p around.layout numbers raised core asks w.found)
      (stands : Represents around.layout known g world.heap world.left core.blocks core.statics) (left : world.left ≡ core.steps)
      (room : length w.body.types + length (it.new ++ type.Ptr n ∷ []) ≤ length core.vars) (inside : place.variable < length w.body.types) where
    abbrev Here : State
    Here = At (it.ops ++ (calls ∷ puts ∷ rest)) e frames core

    abbrev Done : List Meant → Type 0
    Done vs = Follows 2 known around place p arguments Here rest e frames core g raised (references world.heap vs) (length w.body.types) world (meant_op known.program w.found.covered o vs world)

    wide : length w.body.types + length it.new ≤ length core.vars
    wide = omega (arith, room, new_long)

    has_there : HasAll p around.layout numbers raised core (there_asks around a w.found.covered) w.found
    has_there = has_first p around numbers raised core (there_asks around a w.found.covered) (Make cuts ∷ []) w.found has

    has_graph : HasButLast p around.layout raised l n number
    has_graph = (has_more p around numbers raised core (there_asks around a w.found.covered) (Make cuts ∷ []) w.found has).0

    module _ (v : Meant) where
      missing : Absent a.element (operand core.vars a.x) v → Done (v ∷ [])
      missing gone = subst (λ v. Done (v ∷ [])) (sym gone.high)
          (it.misses 2 known place p numbers raised arguments (calls ∷ puts ∷ []) rest e frames core core g (references world.heap (Nothing ∷ [])) (length w.body.types) world has_there gone.may gone.low)

      module _ (found_list : Listing around.layout known g a.element (operand core.vars a.x) v) where
        struct : is_list around.layout l ≡ true
        struct = subst (λ k. is_list around.layout k ≡ true) (ap pointed (sym found_list.typed ∙ of.typed)) found_list.struct

        home : slice_get g.homes found_list.i ≡ Some (record { sort = ListOf l; head = operand core.vars a.x })
        home = subst (λ k. slice_get g.homes found_list.i ≡ Some (record { sort = ListOf k; head = operand core.vars a.x })) (ap pointed (sym found_list.typed ∙ of.typed)) found_list.home

        list : ListAt around.layout known g world.heap world.left core.blocks core.statics l found_list.i (operand core.vars a.x)
        list = stands.lists l found_list.i (operand core.vars a.x) home struct

        went : Went p arguments Here (calls ∷ puts ∷ rest) e frames core (length w.body.types) it.x (operand core.vars a.x)
        went = it.enters p numbers raised arguments (calls ∷ puts ∷ rest) e frames core core has_there wide (found_set core.blocks core.statics (operand core.vars a.x) _ list.head_is) (found_there core.blocks core.statics (operand core.vars a.x) _ list.head_is)

        abbrev mid : Core
        mid = went.mid

        stands_mid : Represents around.layout known g world.heap world.left mid.blocks mid.statics
        stands_mid = subst (λ (c : Core). Represents around.layout known g world.heap world.left c.blocks c.statics) (sym went.passed.memory) stands

        left_mid : world.left ≡ mid.steps
        left_mid = left ∙ sym (ap (λ (c : Core). c.steps) went.passed.memory)

        mid_list : ListAt around.layout known g world.heap world.left mid.blocks mid.statics l found_list.i (operand core.vars a.x)
        mid_list = stands_mid.lists l found_list.i (operand core.vars a.x) home struct

        many : length mid_list.items + 1 ≤ references world.heap (Ref found_list.i ∷ [])
        many = (let k : items_in (slice_get world.heap found_list.i) ≡ length mid_list.items = ap items_in mid_list.object in omega (arith, k))

        same : operands mid.vars (it.x ∷ []) ≡ operand core.vars a.x ∷ []
        same = ap (λ q. q ∷ []) went.is

        set : any_unset (operand core.vars a.x ∷ []) ≡ false
        set = ap (λ b. b || false) (found_set core.blocks core.statics (operand core.vars a.x) _ list.head_is)

        meant : meant_op known.program w.found.covered o (Ref found_list.i ∷ []) world ≡ after_list world (cut 0 (length mid_list.items - 1) mid_list.items)
        meant = ap (λ o. on_list (λ vs. new_list (take (length vs - 1) vs)) o world) mid_list.object ∙ ap (λ vs. after_list world vs) (sym (drop_none (take (length mid_list.items - 1) mid_list.items)))

        there_so : Done (v ∷ [])
        unfolding stands_mid mid_list
        there_so = subst (λ v. Done (v ∷ [])) (sym found_list.high)
            (subst (λ answer. Follows 2 known around place p arguments Here rest e frames core g raised (references world.heap (Ref found_list.i ∷ [])) (length w.body.types) world answer) (sym meant)
            (from_there 2 known around place p arguments rest e frames core g raised (references world.heap (Ref found_list.i ∷ [])) (length w.body.types) world (omega arith) went (after_list world (cut 0 (length mid_list.items - 1) mid_list.items))
            (list_given known around place n takes.list.is takes.list.typed takes.struct p raised arguments rest e frames mid g (references world.heap (Ref found_list.i ∷ [])) (length w.body.types) world number m1 (it.x ∷ []) (operand core.vars a.x ∷ [])
            (cut 0 (length mid_list.items - 1) mid_list.items) (length mid_list.items + 1) same set (omega (arith, inside, m1_is)) (let q = went.passed.room in omega (arith, room, new_long, m1_is, q)) (omega (arith, m1_is))
            (but_last_lacks p arguments around.layout known raised structs l n struct takes.struct number has_graph typed each_as g world.heap world.left mid stands_mid left_mid found_list.i (operand core.vars a.x) mid_list)
            (λ enough. (many, shortened p arguments around.layout known raised structs l n struct takes.struct number has_graph typed each_as g world.heap world.left mid stands_mid left_mid found_list.i (operand core.vars a.x) mid_list enough)))))

      either : Listing around.layout known g a.element (operand core.vars a.x) v ⊎ Absent a.element (operand core.vars a.x) v → Done (v ∷ [])
      either (inl is) = there_so is
      either (inr gone) = missing gone

    follow : (vs : List Meant) → Given known around g core (a ∷ []) vs → Follows 2 known around place p arguments (At ((it.ops ++ (calls ∷ puts ∷ [])) ++ rest) e frames core) rest e frames core g raised (references world.heap vs) (length w.body.types) world (meant_op known.program w.found.covered o vs world)
    follow [] given = absurd given
    follow (v ∷ []) given =
        subst (λ l. Follows 2 known around place p arguments (At l e frames core) rest e frames core g raised (references world.heap (v ∷ [])) (length w.body.types) world (meant_op known.program w.found.covered o (v ∷ []) world)) (sym (append_assoc it.ops (calls ∷ puts ∷ []) rest))
        (either v (list_or_none of.is given.0))
    follow (v ∷ u ∷ vs) given = absurd given.1

  but_last_done : IsDone known around o w.found.covered asks place (a ∷ []) w
  but_last_done = record {
    ops = it.ops ++ (calls ∷ puts ∷ []);
    new = it.new ++ type.Ptr n ∷ [];
    asked = ap (λ (r : Writing). r.found) is_written ∙ sym (asked_both (there_asks around a w.found.covered) (Make cuts ∷ []) w.found);
    written = ap (λ (r : Writing). r.body.ops) is_written ∙ two_behind w.body.ops it.ops calls puts;
    types = ap (λ (r : Writing). r.body.types) is_written ∙ append_assoc w.body.types it.new (type.Ptr n ∷ []);
    follows = λ p numbers raised arguments rest e frames core g world vs structs has stands left room inside below given good. follow p numbers raised arguments rest e frames core g world structs has stands left room inside vs given;
  }

pub last_items_are_left_out : LastItemsAreLeftOut
last_items_are_left_out site known around place a w l n item result of takes stay = but_last_done site known around place a w l n item result of takes stay
