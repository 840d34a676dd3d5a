-- Sums of two lists.
use Rattle.std.proofs.Common.{◌≡◌, ◌<◌, ◌≤◌, ℕ, ◌+◌, ◌⊎◌, inl, inr, true, false, ◌||◌, ◌&&◌, List, [], ◌∷◌, ◌++◌, length, Option, Some, None, sym, ap, ◌∙◌, subst, arith, append_assoc, length-append}
use Rattle.std.specs.Prelude.{slice_get, if◌then◌else◌}
use Rattle.ann_element.specs.declared.element.Element.{Element}
use Rattle.csub_tree.specs.State.{Value, Core}
use Rattle.csub_tree.specs.Statement.{operand, operands, any_unset}
use Rattle.csub_tree.specs.Operation.{is_unset}
use Rattle.csub_tree.specs.declared.tree.COperand.{COperand}
use Rattle.csub_tree.specs.declared.tree.COperand.TheVariants.{Var}
use Rattle.rpy_tree.specs.Value.{Value as Meant, Nothing, Ref}
use Rattle.rpy_tree.specs.declared.syntax.BinOp.TheVariants as bin
use Rattle.rpy_meaning.specs.declared.row.RowOp.{RowOp}
use Rattle.rpy_meaning.specs.declared.row.RowOp.TheVariants as row
use Rattle.rpy_meaning.specs.Operations.{op as meant_op}
use Rattle.rpy_meaning.specs.World.{World, on_list, with_list, new_list}
use Rattle.ll_code.specs.State.{Frame, State, At}
use Rattle.ll_code.specs.declared.program.LlType.{LlType}
use Rattle.ll_code.specs.declared.program.LlType.TheVariants as type
use Rattle.ll_code.specs.declared.program.LlOp.{LlOp}
use Rattle.ll_code.specs.declared.program.LlOp.TheVariants as op
use Rattle.ll_code.specs.declared.program.LlExit.{LlExit}
use Rattle.ll_code.specs.declared.program.LlProgram.{LlProgram}
use Rattle.ll_build.specs.declared.needs.Numbers.{Numbers}
use Rattle.rtyper_layout.specs.Layout.{is_list}
use Rattle.rtyper_layout.specs.Types.{word, type_of as element_type}
use Rattle.rtyper_data.specs.declared.found.Found.{Found}
use Rattle.rtyper_data.specs.declared.small.Small.{Small}
use Rattle.rtyper_data.specs.declared.small.Small.TheVariants as small
use Rattle.rtyper_data.specs.declared.small.Listed.TheVariants as listed
use Rattle.rtyper_data.specs.Converting.{by_small}
use Rattle.rtyper_data.specs.Finding.{small_number}
use Rattle.rtyper_op.specs.Lowering.{failure as failing}
use Rattle.rtyper_data.specs.Seen.{Around, Operand, Place, kind_of, Writing, writing}
use Rattle.list_shape.specs.Shapes.{item_of}
use Rattle.rtyper_list.specs.Displays.{concat, concat_to}
use Rattle.rtyper_list.specs.Lowering.{lowered, of_some, first_of_two, sum, lower_list_op}
use Rattle.rtyper_list.specs.Operands.{of_list, list_of, list_at, list_if, pointed, give_listed}
use Rattle.lower_laws.specs.Asked.{Ask, Make, all_asked}
use Rattle.lower_laws.specs.Values.{AllBelow}
use Rattle.lower_laws.proofs.Items.{gives_same}
use Rattle.lower_laws.proofs.Stayed.{field_is}
use Rattle.list_laws.specs.Done.{IsDone}
use Rattle.list_laws.specs.Asked.{HasConcat, HasAll}
use Rattle.list_laws.specs.Lists.{IsList}
use Rattle.list_laws.proofs.Indexed.{asked_both, has_first, has_more}
use Rattle.list_laws.proofs.Lowered.{list_comes, two_come, first_of_two_is_list}
use Rattle.list_laws.proofs.Walked.{two_behind}
use Rattle.object_laws.specs.Known.{Known}
use Rattle.object_laws.specs.Done.{Follows, HasLayout, items_in, references}
use Rattle.object_laws.specs.Ghost.{Ghost, ListOf}
use Rattle.object_laws.specs.Staying.{Stays}
use Rattle.object_laws.specs.Represents.{Represents, ListAt}
use Rattle.object_laws.specs.Values.{Given, EachHolds}
use Rattle.object_laws.proofs.Blocks.{found_set, found_there}
use Rattle.object_laws.proofs.Valued.{Listing, Absent, list_or_none, stays_typed, stays_there}
use Rattle.list_copy_laws.specs.Extended.{both_asks}
use Rattle.list_copy_laws.specs.Joined.{Takes, ListsAreJoined}
use Rattle.list_copy_laws.proofs.Both.{Both, WentBoth, both_lists}
use Rattle.list_copy_laws.proofs.Extends.{each_stays}
use Rattle.list_copy_laws.proofs.Joining.{joined, join_lacks}
use Rattle.list_copy_laws.proofs.Newly.{after_list, list_given}
use Rattle.list_copy_laws.proofs.Ready.{from_there}

module _ (site : Option ℕ) (known : Known) (around : Around) (place : Place) (a b : Operand) (w : Writing) (l m n : ℕ) (item other result : Element) (of : IsList around known a.element l item) (of2 : IsList around known b.element m other) (takes : Takes around known place n result)
    (stay : Stays around.layout known (Some item) (Some result)) (stay2 : Stays around.layout known (Some other) (Some result)) where
  abbrev o : RowOp
  o = row.Binary bin.Add site

  it : Both around a b w
  it = both_lists around a b w of.is of2.is

  abbrev joins : Small
  joins = small.Listed (listed.Concat l m n)

  abbrev first : Found
  first = all_asked (both_asks around a b w.found.covered) w.found

  abbrev asks : List Ask
  asks = both_asks around a b w.found.covered ++ Make joins ∷ []

  abbrev number : ℕ
  number = (small_number joins first).0

  abbrev types0 : List LlType
  types0 = w.body.types ++ it.new

  abbrev m1 : ℕ
  m1 = length types0

  abbrev calls : LlOp
  calls = op.Call (Some m1) number (it.x ∷ it.y ∷ [])

  abbrev puts : LlOp
  puts = op.Set place.variable (Var m1)

  list_is : list_of around a ≡ l
  unfolding list_of
  list_is = ap pointed of.typed

  list2_is : list_of around b ≡ m
  unfolding list_of
  list2_is = ap pointed of2.typed

  list_there : list_at around place ≡ Some n
  unfolding list_at
  list_there = ap (list_if around.layout) takes.list.typed ∙ ap (λ c. if c then Some n else None) takes.struct

  result_there : element_type around.layout result ≡ type.Void → ⊥
  result_there h = stays_there stay h

  item_typed : item_of around.layout (word (n + 1)) ≡ element_type around.layout result
  item_typed = takes.list.items ∙ field_is (element_type around.layout result) result_there

  typed : item_of around.layout (word (l + 1)) ≡ item_of around.layout (word (n + 1))
  typed = of.items ∙ field_is (element_type around.layout item) (λ h. result_there (sym (stays_typed stay) ∙ h)) ∙ stays_typed stay ∙ sym item_typed

  typed2 : item_of around.layout (word (m + 1)) ≡ item_of around.layout (word (n + 1))
  typed2 = of2.items ∙ field_is (element_type around.layout other) (λ h. result_there (sym (stays_typed stay2) ∙ h)) ∙ stays_typed stay2 ∙ sym item_typed

  each_as : (xs : List Value) (vs : List Meant) (g : Ghost) → EachHolds around.layout known g (known.items l) xs vs → EachHolds around.layout known g (known.items n) xs vs
  each_as xs vs g each = subst (λ seen. EachHolds around.layout known g seen xs vs) (sym takes.list.item_is) (each_stays stay (subst (λ seen. EachHolds around.layout known g seen xs vs) of.item_is each))

  each_as2 : (xs : List Value) (vs : List Meant) (g : Ghost) → EachHolds around.layout known g (known.items m) xs vs → EachHolds around.layout known g (known.items n) xs vs
  each_as2 xs vs g each = subst (λ seen. EachHolds around.layout known g seen xs vs) (sym takes.list.item_is) (each_stays stay2 (subst (λ seen. EachHolds around.layout known g seen xs vs) of2.item_is each))

  abbrev entered : Writing
  entered = writing first (record { types = types0; ops = w.body.ops ++ it.ops })

  abbrev called_from : ℕ → ℕ → COperand → COperand → Writing → Writing
  called_from k q x y last = give_listed around place (listed.Concat k q n) (type.Ptr n) (x ∷ y ∷ []) last

  is_written : lower_list_op around o place (a ∷ b ∷ []) w ≡ writing (small_number joins first).1 (record { types = types0 ++ type.Ptr n ∷ []; ops = ((w.body.ops ++ it.ops) ++ calls ∷ []) ++ puts ∷ [] })
  unfolding lowered of_some first_of_two sum concat give_listed by_small
  is_written =
      two_come around o place a b w (list_comes a of.is) (list_comes b of2.is)
      ∙ first_of_two_is_list around o place a b w of.is
      ∙ ap (λ c. if c && of_list (kind_of b) then concat around place a b w else failing around place w) of.is
      ∙ ap (λ c. if c then concat around place a b w else failing around place w) of2.is
      ∙ ap (λ r. concat_to around place a b r w) list_there
      ∙ it.written (called_from (list_of around a) (list_of around b))
      ∙ ap (λ k. called_from k (list_of around b) it.x it.y entered) list_is
      ∙ ap (λ k. called_from l k it.x it.y entered) list2_is
      ∙ gives_same around place (Var m1) (type.Ptr n) (writing (small_number joins first).1 (record { types = types0 ++ type.Ptr n ∷ []; ops = (w.body.ops ++ it.ops) ++ calls ∷ [] })) (λ h. absurd (cc)) takes.list.typed

  new_long : length (it.new ++ type.Ptr n ∷ []) ≡ length it.new + 1
  new_long = length-append it.new (type.Ptr n ∷ [])

  m1_is : m1 ≡ length w.body.types + length it.new
  m1_is = length-append w.body.types it.new

  module _ (p : LlProgram) (numbers : Numbers) (raised : ℕ → Value) (arguments : List (List ℕ)) (rest : List LlOp) (e : LlExit) (frames : List Frame) (core : Core) (g : Ghost) (world : World)
      (structs : HasLayout p around.layout) (has : HasAll p around.layout numbers raised core asks w.found)
      (stands : Represents around.layout known g world.heap world.left core.blocks core.statics) (left : world.left ≡ core.steps)
      (room : length w.body.types + length (it.new ++ type.Ptr n ∷ []) ≤ length core.vars) (inside : place.variable < length w.body.types) (below : AllBelow (length w.body.types) (a ∷ b ∷ [])) where
    abbrev Here : State
    Here = At (it.ops ++ (calls ∷ puts ∷ rest)) e frames core

    abbrev Done : List Meant → Type 0
    Done vs = Follows 2 known around place p arguments Here rest e frames core g raised (references world.heap vs) (length w.body.types) world (meant_op known.program w.found.covered o vs world)

    wide : length w.body.types + length it.new ≤ length core.vars
    wide = omega (arith, room, new_long)

    has_both : HasAll p around.layout numbers raised core (both_asks around a b w.found.covered) w.found
    has_both = has_first p around numbers raised core (both_asks around a b w.found.covered) (Make joins ∷ []) w.found has

    has_graph : HasConcat p around.layout raised l m n number
    has_graph = (has_more p around numbers raised core (both_asks around a b w.found.covered) (Make joins ∷ []) w.found has).0

    missing : (v u : Meant) → Absent a.element (operand core.vars a.x) v → Done (v ∷ u ∷ [])
    missing v u gone = subst (λ v. Done (v ∷ u ∷ [])) (sym gone.high)
        (it.misses 2 known place p numbers raised arguments (calls ∷ puts ∷ []) rest e frames core g (references world.heap (Nothing ∷ u ∷ [])) world has_both gone.may gone.low)

    module _ (v u : Meant) (found_list : Listing around.layout known g a.element (operand core.vars a.x) v) where
      struct : is_list around.layout l ≡ true
      struct = subst (λ k. is_list around.layout k ≡ true) (ap pointed (sym found_list.typed ∙ of.typed)) found_list.struct

      home : slice_get g.homes found_list.i ≡ Some (record { sort = ListOf l; head = operand core.vars a.x })
      home = subst (λ k. slice_get g.homes found_list.i ≡ Some (record { sort = ListOf k; head = operand core.vars a.x })) (ap pointed (sym found_list.typed ∙ of.typed)) found_list.home

      list : ListAt around.layout known g world.heap world.left core.blocks core.statics l found_list.i (operand core.vars a.x)
      list = stands.lists l found_list.i (operand core.vars a.x) home struct

      missing_second : Absent b.element (operand core.vars b.x) u → Done (v ∷ u ∷ [])
      missing_second gone = subst (λ v. Done (v ∷ u ∷ [])) (sym found_list.high) (subst (λ u. Done (Ref found_list.i ∷ u ∷ [])) (sym gone.high)
          (it.misses_second 2 known place p numbers raised arguments (calls ∷ puts ∷ []) rest e frames core g (references world.heap (Ref found_list.i ∷ Nothing ∷ [])) world has_both wide below.1.0
          (found_set core.blocks core.statics (operand core.vars a.x) _ list.head_is) (found_there core.blocks core.statics (operand core.vars a.x) _ list.head_is) gone.may gone.low))

      module _ (second : Listing around.layout known g b.element (operand core.vars b.x) u) where
        struct2 : is_list around.layout m ≡ true
        struct2 = subst (λ k. is_list around.layout k ≡ true) (ap pointed (sym second.typed ∙ of2.typed)) second.struct

        home2 : slice_get g.homes second.i ≡ Some (record { sort = ListOf m; head = operand core.vars b.x })
        home2 = subst (λ k. slice_get g.homes second.i ≡ Some (record { sort = ListOf k; head = operand core.vars b.x })) (ap pointed (sym second.typed ∙ of2.typed)) second.home

        list2 : ListAt around.layout known g world.heap world.left core.blocks core.statics m second.i (operand core.vars b.x)
        list2 = stands.lists m second.i (operand core.vars b.x) home2 struct2

        way : WentBoth p arguments Here (calls ∷ puts ∷ rest) e frames core (length w.body.types) it.x it.y (operand core.vars a.x) (operand core.vars b.x)
        way = it.enters p numbers raised arguments (calls ∷ puts ∷ rest) e frames core has_both wide below.0 below.1.0
            (found_set core.blocks core.statics (operand core.vars a.x) _ list.head_is) (found_there core.blocks core.statics (operand core.vars a.x) _ list.head_is)
            (found_set core.blocks core.statics (operand core.vars b.x) _ list2.head_is) (found_there core.blocks core.statics (operand core.vars b.x) _ list2.head_is)

        abbrev mid : Core
        mid = way.went.mid

        stands_mid : Represents around.layout known g world.heap world.left mid.blocks mid.statics
        stands_mid = subst (λ (c : Core). Represents around.layout known g world.heap world.left c.blocks c.statics) (sym way.went.passed.memory) stands

        left_mid : world.left ≡ mid.steps
        left_mid = left ∙ sym (ap (λ (c : Core). c.steps) way.went.passed.memory)

        mid_list : ListAt around.layout known g world.heap world.left mid.blocks mid.statics l found_list.i (operand core.vars a.x)
        mid_list = stands_mid.lists l found_list.i (operand core.vars a.x) home struct

        mid_list2 : ListAt around.layout known g world.heap world.left mid.blocks mid.statics m second.i (operand core.vars b.x)
        mid_list2 = stands_mid.lists m second.i (operand core.vars b.x) home2 struct2

        abbrev vs : List Meant
        vs = mid_list.items ++ mid_list2.items

        many : length mid_list.items + length mid_list2.items + 1 ≤ references world.heap (Ref found_list.i ∷ Ref second.i ∷ [])
        many = (let k : items_in (slice_get world.heap found_list.i) ≡ length mid_list.items = ap items_in mid_list.object in let q : items_in (slice_get world.heap second.i) ≡ length mid_list2.items = ap items_in mid_list2.object in omega (arith, k, q))

        same : operands mid.vars (it.x ∷ it.y ∷ []) ≡ operand core.vars a.x ∷ operand core.vars b.x ∷ []
        same = ap (λ q. q ∷ operand mid.vars it.y ∷ []) way.went.is ∙ ap (λ q. operand core.vars a.x ∷ q ∷ []) way.is

        set : any_unset (operand core.vars a.x ∷ operand core.vars b.x ∷ []) ≡ false
        set = ap (λ t. t || (is_unset (operand core.vars b.x) || false)) (found_set core.blocks core.statics (operand core.vars a.x) _ list.head_is) ∙ ap (λ t. t || false) (found_set core.blocks core.statics (operand core.vars b.x) _ list2.head_is)

        meant : meant_op known.program w.found.covered o (Ref found_list.i ∷ Ref second.i ∷ []) world ≡ after_list world vs
        meant = ap (λ o. on_list (λ vs. with_list second.i (λ us. new_list (vs ++ us))) o world) mid_list.object ∙ ap (λ o. on_list (λ us. new_list (mid_list.items ++ us)) o world) mid_list2.object

        there_both : Done (v ∷ u ∷ [])
        unfolding stands_mid mid_list mid_list2
        there_both = subst (λ v. Done (v ∷ u ∷ [])) (sym found_list.high) (subst (λ u. Done (Ref found_list.i ∷ u ∷ [])) (sym second.high)
            (subst (λ answer. Follows 2 known around place p arguments Here rest e frames core g raised (references world.heap (Ref found_list.i ∷ Ref second.i ∷ [])) (length w.body.types) world answer) (sym meant)
            (from_there 2 known around place p arguments rest e frames core g raised (references world.heap (Ref found_list.i ∷ Ref second.i ∷ [])) (length w.body.types) world (omega arith) way.went (after_list world vs)
            (list_given known around place n takes.list.is takes.list.typed takes.struct p raised arguments rest e frames mid g (references world.heap (Ref found_list.i ∷ Ref second.i ∷ [])) (length w.body.types) world number m1 (it.x ∷ it.y ∷ []) (operand core.vars a.x ∷ operand core.vars b.x ∷ [])
            vs (length mid_list.items + length mid_list2.items + 1) same set (omega (arith, inside, m1_is)) (let q = way.went.passed.room in omega (arith, room, new_long, m1_is, q)) (omega (arith, m1_is))
            (join_lacks p arguments around.layout known raised structs l m n struct struct2 takes.struct number has_graph typed typed2 each_as each_as2 g world.heap world.left mid stands_mid left_mid found_list.i (operand core.vars a.x) mid_list second.i (operand core.vars b.x) mid_list2)
            (λ enough. (many, joined p arguments around.layout known raised structs l m n struct struct2 takes.struct number has_graph typed typed2 each_as each_as2 g world.heap world.left mid stands_mid left_mid found_list.i (operand core.vars a.x) mid_list second.i (operand core.vars b.x) mid_list2 (let q : length vs ≡ length mid_list.items + length mid_list2.items = length-append mid_list.items mid_list2.items in omega (arith, enough, q))))))))

      either_second : Listing around.layout known g b.element (operand core.vars b.x) u ⊎ Absent b.element (operand core.vars b.x) u → Done (v ∷ u ∷ [])
      either_second (inl second) = there_both second
      either_second (inr gone) = missing_second gone

    either : (v u : Meant) → Listing around.layout known g b.element (operand core.vars b.x) u ⊎ Absent b.element (operand core.vars b.x) u → Listing around.layout known g a.element (operand core.vars a.x) v ⊎ Absent a.element (operand core.vars a.x) v → Done (v ∷ u ∷ [])
    either v u second (inl is) = either_second v u is second
    either v u second (inr gone) = missing v u gone

    follow : (us : List Meant) → Given known around g core (a ∷ b ∷ []) us → Follows 2 known around place p arguments (At ((it.ops ++ (calls ∷ puts ∷ [])) ++ rest) e frames core) rest e frames core g raised (references world.heap us) (length w.body.types) world (meant_op known.program w.found.covered o us world)
    follow [] given = absurd given
    follow (v ∷ []) given = absurd given.1
    follow (v ∷ u ∷ []) given =
        subst (λ l. Follows 2 known around place p arguments (At l e frames core) rest e frames core g raised (references world.heap (v ∷ u ∷ [])) (length w.body.types) world (meant_op known.program w.found.covered o (v ∷ u ∷ []) world)) (sym (append_assoc it.ops (calls ∷ puts ∷ []) rest))
        (either v u (list_or_none of2.is given.1.0) (list_or_none of.is given.0))
    follow (v ∷ u ∷ s ∷ us) given = absurd given.1.1

  join_done : IsDone known around o w.found.covered asks place (a ∷ b ∷ []) w
  join_done = record {
    ops = it.ops ++ (calls ∷ puts ∷ []);
    new = it.new ++ type.Ptr n ∷ [];
    asked = ap (λ (r : Writing). r.found) is_written ∙ sym (asked_both (both_asks around a b w.found.covered) (Make joins ∷ []) w.found);
    written = ap (λ (r : Writing). r.body.ops) is_written ∙ two_behind w.body.ops it.ops calls puts;
    types = ap (λ (r : Writing). r.body.types) is_written ∙ append_assoc w.body.types it.new (type.Ptr n ∷ []);
    follows = λ p numbers raised arguments rest e frames core g world vs structs has stands left room inside below given good. follow p numbers raised arguments rest e frames core g world structs has stands left room inside below vs given;
  }

pub lists_are_joined : ListsAreJoined
lists_are_joined site known around place a b w l m n item other result of of2 takes stay stay2 = join_done site known around place a b w l m n item other result of of2 takes stay stay2
