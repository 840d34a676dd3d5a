-- Lists so many times.
use Rattle.std.proofs.Common.{◌≡◌, ◌<◌, ◌≤◌, ℕ, ◌+◌, ◌*◌, ◌⊎◌, inl, inr, true, false, ◌||◌, List, [], ◌∷◌, ◌++◌, length, Option, Some, None, ℤ, sym, ap, ◌∙◌, subst, arith, append_assoc, length-append}
use Rattle.std.specs.Prelude.{slice_get, if◌then◌else◌}
use Rattle.std.specs.List.{repeat}
use Rattle.ann_element.specs.declared.element.Element.{Element}
use Rattle.csub_tree.specs.State.{Value, Word, Core}
use Rattle.csub_tree.specs.Statement.{operand, operands, any_unset}
use Rattle.csub_tree.specs.declared.tree.COperand.{COperand}
use Rattle.csub_tree.specs.declared.tree.COperand.TheVariants.{Var}
use Rattle.rpy_tree.specs.Value.{Value as Meant, Word as MeantWord, Nothing, Ref, Listed as ListedObject}
use Rattle.rpy_tree.specs.declared.syntax.BinOp.TheVariants as bin
use Rattle.rpy_meaning.specs.declared.row.RowOp.{RowOp}
use Rattle.rpy_meaning.specs.declared.row.RowOp.TheVariants as row
use Rattle.rpy_meaning.specs.Operations.{op as meant_op}
use Rattle.rpy_meaning.specs.World.{World, on_list, paying, new_object}
use Rattle.rpy_meaning.specs.Sequences.{count as times_of}
use Rattle.rpy_meaning.specs.Costs.{list_cost}
use Rattle.ll_code.specs.State.{Frame, State, At}
use Rattle.ll_code.specs.declared.program.LlType.{LlType}
use Rattle.ll_code.specs.declared.program.LlType.TheVariants as type
use Rattle.ll_code.specs.declared.program.LlOp.{LlOp}
use Rattle.ll_code.specs.declared.program.LlOp.TheVariants as op
use Rattle.ll_code.specs.declared.program.LlExit.{LlExit}
use Rattle.ll_code.specs.declared.program.LlProgram.{LlProgram}
use Rattle.ll_build.specs.declared.needs.Numbers.{Numbers}
use Rattle.rtyper_layout.specs.declared.kind.Kind.TheVariants as kind
use Rattle.rtyper_layout.specs.Layout.{is_list}
use Rattle.rtyper_layout.specs.Types.{word, type_of as element_type}
use Rattle.rtyper_data.specs.declared.found.Found.{Found}
use Rattle.rtyper_data.specs.declared.small.Small.{Small}
use Rattle.rtyper_data.specs.declared.small.Small.TheVariants as small
use Rattle.rtyper_data.specs.declared.small.Listed.TheVariants as listed
use Rattle.rtyper_data.specs.Converting.{by_small}
use Rattle.rtyper_data.specs.Finding.{small_number}
use Rattle.rtyper_op.specs.Lowering.{never_comes}
use Rattle.rtyper_data.specs.Seen.{Around, Operand, Place, kind_of, Writing, writing}
use Rattle.list_shape.specs.Shapes.{item_of, taking}
use Rattle.rtyper_list.specs.Displays.{repeat as repeats, repeat_to}
use Rattle.rtyper_list.specs.Lowering.{lowered, of_some, first_of_two, lower_list_op}
use Rattle.rtyper_list.specs.Operands.{list_of, list_at, list_if, pointed, give_listed}
use Rattle.lower_laws.specs.Asked.{Ask, Make, all_asked}
use Rattle.lower_laws.specs.Values.{AllBelow, IsBelow}
use Rattle.lower_laws.proofs.Items.{gives_same}
use Rattle.lower_laws.proofs.Stayed.{field_is}
use Rattle.list_laws.specs.Asked.{HasRepeat, HasAll}
use Rattle.list_laws.specs.Lists.{IsList, there_asks}
use Rattle.list_laws.proofs.Indexed.{asked_both, has_first, has_more}
use Rattle.list_laws.proofs.Lowered.{list_comes, two_come, first_of_two_is_list}
use Rattle.list_laws.proofs.Walked.{two_behind}
use Rattle.object_laws.specs.Known.{Known}
use Rattle.object_laws.specs.Done.{Follows, HasLayout}
use Rattle.object_laws.specs.Ghost.{Ghost, ListOf}
use Rattle.object_laws.specs.Staying.{Stays}
use Rattle.object_laws.specs.Represents.{Represents, ListAt}
use Rattle.object_laws.specs.Values.{Given, EachHolds}
use Rattle.object_laws.proofs.Blocks.{found_set, found_there}
use Rattle.object_laws.proofs.Passing.{operand_kept}
use Rattle.object_laws.proofs.Valued.{Listing, Absent, list_or_none, word_held, stays_typed, stays_there}
use Rattle.list_copy_laws.specs.Done.{IsDoneWithin, references_paid}
use Rattle.list_copy_laws.specs.Joined.{Takes, ListsAreRepeated}
use Rattle.list_copy_laws.proofs.Extends.{each_stays}
use Rattle.list_copy_laws.proofs.Newly.{after_list, list_given}
use Rattle.list_copy_laws.proofs.Ready.{Went, from_there, Ready, ready}
use Rattle.list_copy_laws.proofs.Repeating.{repeat_long, repeated, repeat_lacks}

module _ (site : Option ℕ) (known : Known) (around : Around) (place : Place) (a b : Operand) (w : Writing) (l n : ℕ) (item result : Element) (words : kind_of b ≡ kind.Word) (of : IsList around known a.element l item) (takes : Takes around known place n result) (stay : Stays around.layout known (Some item) (Some result)) where
  abbrev o : RowOp
  o = row.Binary bin.Mul site

  it : Ready around a w
  it = ready around a w of.is

  abbrev cuts : Small
  cuts = small.Listed (listed.Repeat l n)

  abbrev first : Found
  first = all_asked (there_asks around a w.found.covered) w.found

  abbrev asks : List Ask
  asks = there_asks around a w.found.covered ++ Make cuts ∷ []

  abbrev number : ℕ
  number = (small_number cuts first).0

  abbrev types0 : List LlType
  types0 = w.body.types ++ it.new

  abbrev m1 : ℕ
  m1 = length types0

  abbrev calls : LlOp
  calls = op.Call (Some m1) number (it.x ∷ b.x ∷ [])

  abbrev puts : LlOp
  puts = op.Set place.variable (Var m1)

  list_is : list_of around a ≡ l
  unfolding list_of
  list_is = ap pointed of.typed

  list_there : list_at around place ≡ Some n
  unfolding list_at
  list_there = ap (list_if around.layout) takes.list.typed ∙ ap (λ c. if c then Some n else None) takes.struct

  result_there : element_type around.layout result ≡ type.Void → ⊥
  result_there h = stays_there stay h

  typed : item_of around.layout (word (l + 1)) ≡ item_of around.layout (word (n + 1))
  typed = of.items ∙ field_is (element_type around.layout item) (λ h. result_there (sym (stays_typed stay) ∙ h)) ∙ stays_typed stay ∙ sym (takes.list.items ∙ field_is (element_type around.layout result) result_there)

  each_as : (xs : List Value) (vs : List Meant) (g : Ghost) → EachHolds around.layout known g (known.items l) xs vs → EachHolds around.layout known g (known.items n) xs vs
  each_as xs vs g each = subst (λ seen. EachHolds around.layout known g seen xs vs) (sym takes.list.item_is) (each_stays stay (subst (λ seen. EachHolds around.layout known g seen xs vs) of.item_is each))

  abbrev entered : Writing
  entered = writing first (record { types = types0; ops = w.body.ops ++ it.ops })

  abbrev called_from : ℕ → COperand × Writing → Writing
  called_from k made = taking made (λ x next. give_listed around place (listed.Repeat k n) (type.Ptr n) (x ∷ b.x ∷ []) next)

  is_written : lower_list_op around o place (a ∷ b ∷ []) w ≡ writing (small_number cuts first).1 (record { types = types0 ++ type.Ptr n ∷ []; ops = ((w.body.ops ++ it.ops) ++ calls ∷ []) ++ puts ∷ [] })
  unfolding lowered of_some first_of_two repeats give_listed by_small
  is_written =
      two_come around o place a b w (list_comes a of.is) (ap never_comes words)
      ∙ first_of_two_is_list around o place a b w of.is
      ∙ ap (λ r. repeat_to around place a b.x r w) list_there
      ∙ ap (called_from (list_of around a)) it.written
      ∙ ap (λ k. called_from k (it.x, entered)) list_is
      ∙ gives_same around place (Var m1) (type.Ptr n) (writing (small_number cuts first).1 (record { types = types0 ++ type.Ptr n ∷ []; ops = (w.body.ops ++ it.ops) ++ calls ∷ [] })) (λ h. absurd (cc)) takes.list.typed

  new_long : length (it.new ++ type.Ptr n ∷ []) ≡ length it.new + 1
  new_long = length-append it.new (type.Ptr n ∷ [])

  m1_is : m1 ≡ length w.body.types + length it.new
  m1_is = length-append w.body.types it.new

  module _ (p : LlProgram) (numbers : Numbers) (raised : ℕ → Value) (arguments : List (List ℕ)) (rest : List LlOp) (e : LlExit) (frames : List Frame) (core : Core) (g : Ghost) (world : World)
      (structs : HasLayout p around.layout) (has : HasAll p around.layout numbers raised core asks w.found)
      (stands : Represents around.layout known g world.heap world.left core.blocks core.statics) (left : world.left ≡ core.steps)
      (room : length w.body.types + length (it.new ++ type.Ptr n ∷ []) ≤ length core.vars) (inside : place.variable < length w.body.types) where
    abbrev Here : State
    Here = At (it.ops ++ (calls ∷ puts ∷ rest)) e frames core

    abbrev Done : List Meant → Type 0
    Done vs = Follows 2 known around place p arguments Here rest e frames core g raised (references_paid world vs) (length w.body.types) world (meant_op known.program w.found.covered o vs world)

    wide : length w.body.types + length it.new ≤ length core.vars
    wide = omega (arith, room, new_long)

    has_there : HasAll p around.layout numbers raised core (there_asks around a w.found.covered) w.found
    has_there = has_first p around numbers raised core (there_asks around a w.found.covered) (Make cuts ∷ []) w.found has

    has_graph : HasRepeat p around.layout raised l n number
    has_graph = (has_more p around numbers raised core (there_asks around a w.found.covered) (Make cuts ∷ []) w.found has).0

    module _ (v u : Meant) where
      missing : Absent a.element (operand core.vars a.x) v → Done (v ∷ u ∷ [])
      missing gone = subst (λ v. Done (v ∷ u ∷ [])) (sym gone.high)
          (it.misses 2 known place p numbers raised arguments (calls ∷ puts ∷ []) rest e frames core core g (references_paid world (Nothing ∷ u ∷ [])) (length w.body.types) world has_there gone.may gone.low)

      module _ (z : ℤ) (low : operand core.vars b.x ≡ Word z) (high : u ≡ MeantWord z) (below_b : IsBelow (length w.body.types) b.x) (found_list : Listing around.layout known g a.element (operand core.vars a.x) v) where
        struct : is_list around.layout l ≡ true
        struct = subst (λ k. is_list around.layout k ≡ true) (ap pointed (sym found_list.typed ∙ of.typed)) found_list.struct

        home : slice_get g.homes found_list.i ≡ Some (record { sort = ListOf l; head = operand core.vars a.x })
        home = subst (λ k. slice_get g.homes found_list.i ≡ Some (record { sort = ListOf k; head = operand core.vars a.x })) (ap pointed (sym found_list.typed ∙ of.typed)) found_list.home

        list : ListAt around.layout known g world.heap world.left core.blocks core.statics l found_list.i (operand core.vars a.x)
        list = stands.lists l found_list.i (operand core.vars a.x) home struct

        went : Went p arguments Here (calls ∷ puts ∷ rest) e frames core (length w.body.types) it.x (operand core.vars a.x)
        went = it.enters p numbers raised arguments (calls ∷ puts ∷ rest) e frames core core has_there wide (found_set core.blocks core.statics (operand core.vars a.x) _ list.head_is) (found_there core.blocks core.statics (operand core.vars a.x) _ list.head_is)

        abbrev mid : Core
        mid = went.mid

        stands_mid : Represents around.layout known g world.heap world.left mid.blocks mid.statics
        stands_mid = subst (λ (c : Core). Represents around.layout known g world.heap world.left c.blocks c.statics) (sym went.passed.memory) stands

        left_mid : world.left ≡ mid.steps
        left_mid = left ∙ sym (ap (λ (c : Core). c.steps) went.passed.memory)

        mid_list : ListAt around.layout known g world.heap world.left mid.blocks mid.statics l found_list.i (operand core.vars a.x)
        mid_list = stands_mid.lists l found_list.i (operand core.vars a.x) home struct

        abbrev vs : List Meant
        vs = repeat (times_of z) mid_list.items

        same : operands mid.vars (it.x ∷ b.x ∷ []) ≡ operand core.vars a.x ∷ Word z ∷ []
        same = ap (λ q. q ∷ operand mid.vars b.x ∷ []) went.is ∙ ap (λ q. operand core.vars a.x ∷ q ∷ []) (operand_kept went.passed b.x below_b ∙ low)

        set : any_unset (operand core.vars a.x ∷ Word z ∷ []) ≡ false
        set = ap (λ t. t || (false || false)) (found_set core.blocks core.statics (operand core.vars a.x) _ list.head_is)

        meant : meant_op known.program w.found.covered o (Ref found_list.i ∷ MeantWord z ∷ []) world ≡ after_list world vs
        meant = ap (λ o. on_list (λ us. paying (list_cost (length us * times_of z)) (new_object (ListedObject (repeat (times_of z) us)))) o world) mid_list.object
            ∙ ap (λ k. paying (list_cost k) (new_object (ListedObject vs)) world) (sym (repeat_long (times_of z) mid_list.items))

        -- where the steps suffice, they are more than what is written
        answers : Follows 2 known around place p arguments (At (calls ∷ puts ∷ rest) e frames mid) rest e frames mid g raised (references_paid world (Ref found_list.i ∷ u ∷ [])) (length w.body.types) world (after_list world vs)
        answers = list_given known around place n takes.list.is takes.list.typed takes.struct p raised arguments rest e frames mid g (references_paid world (Ref found_list.i ∷ u ∷ [])) (length w.body.types) world number m1 (it.x ∷ b.x ∷ []) (operand core.vars a.x ∷ Word z ∷ [])
            vs (length vs + 1) same set (omega (arith, inside, m1_is)) (let q = went.passed.room in omega (arith, room, new_long, m1_is, q)) (omega (arith, m1_is))
            (repeat_lacks p arguments around.layout known raised structs l n struct takes.struct number has_graph typed each_as g world.heap world.left mid stands_mid left_mid found_list.i (operand core.vars a.x) mid_list z)
            (λ enough. (omega (arith, enough), repeated p arguments around.layout known raised structs l n struct takes.struct number has_graph typed each_as g world.heap world.left mid stands_mid left_mid found_list.i (operand core.vars a.x) mid_list z enough))

        there_so : Done (v ∷ u ∷ [])
        there_so = subst (λ v. Done (v ∷ u ∷ [])) (sym found_list.high)
            (subst (λ answer. Follows 2 known around place p arguments Here rest e frames core g raised (references_paid world (Ref found_list.i ∷ u ∷ [])) (length w.body.types) world answer) (sym (ap (λ u. meant_op known.program w.found.covered o (Ref found_list.i ∷ u ∷ []) world) high ∙ meant))
            (from_there 2 known around place p arguments rest e frames core g raised (references_paid world (Ref found_list.i ∷ u ∷ [])) (length w.body.types) world (omega arith) went (after_list world vs) answers))

      either : (z : ℤ) → operand core.vars b.x ≡ Word z → u ≡ MeantWord z → IsBelow (length w.body.types) b.x → Listing around.layout known g a.element (operand core.vars a.x) v ⊎ Absent a.element (operand core.vars a.x) v → Done (v ∷ u ∷ [])
      either z low high under (inl is) = there_so z low high under is
      either z low high under (inr gone) = missing gone

    follow : AllBelow (length w.body.types) (a ∷ b ∷ []) → (us : List Meant) → Given known around g core (a ∷ b ∷ []) us → Follows 2 known around place p arguments (At ((it.ops ++ (calls ∷ puts ∷ [])) ++ rest) e frames core) rest e frames core g raised (references_paid world us) (length w.body.types) world (meant_op known.program w.found.covered o us world)
    follow below [] given = absurd given
    follow below (v ∷ []) given = absurd given.1
    follow below (v ∷ u ∷ []) given =
        let h = word_held words given.1.0 in
        subst (λ l. Follows 2 known around place p arguments (At l e frames core) rest e frames core g raised (references_paid world (v ∷ u ∷ [])) (length w.body.types) world (meant_op known.program w.found.covered o (v ∷ u ∷ []) world)) (sym (append_assoc it.ops (calls ∷ puts ∷ []) rest))
        (either v u h.number h.low h.high below.1.0 (list_or_none of.is given.0))
    follow below (v ∷ u ∷ s ∷ us) given = absurd given.1.1

  repeat_done : IsDoneWithin references_paid known around o w.found.covered asks place (a ∷ b ∷ []) w
  repeat_done = record {
    ops = it.ops ++ (calls ∷ puts ∷ []);
    new = it.new ++ type.Ptr n ∷ [];
    asked = ap (λ (r : Writing). r.found) is_written ∙ sym (asked_both (there_asks around a w.found.covered) (Make cuts ∷ []) w.found);
    written = ap (λ (r : Writing). r.body.ops) is_written ∙ two_behind w.body.ops it.ops calls puts;
    types = ap (λ (r : Writing). r.body.types) is_written ∙ append_assoc w.body.types it.new (type.Ptr n ∷ []);
    follows = λ p numbers raised arguments rest e frames core g world vs structs has stands left room inside below given. follow p numbers raised arguments rest e frames core g world structs has stands left room inside below vs given;
  }

pub lists_are_repeated : ListsAreRepeated
lists_are_repeated site known around place a b w l n item result of words takes stay = repeat_done site known around place a b w l n item result words of takes stay
