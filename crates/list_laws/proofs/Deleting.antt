-- The item at an index is deleted.
use Rattle.std.proofs.Common.{◌≡◌, ◌<◌, ◌≤◌, ℕ, ◌+◌, ◌^◌, ◌⊎◌, inl, inr, Bool, true, false, ◌||◌, List, [], ◌∷◌, ◌++◌, length, Option, Some, None, ℤ, pos, refl, sym, ap, ◌∙◌, subst, arith, append_assoc, length-append}
use Rattle.std.specs.Prelude.{slice_get, slice_set, remove}
use Rattle.std.proofs.lemmas.List.{length-set}
use Rattle.rpy_base.specs.Word.{Fits}
use Rattle.rpy_base.specs.declared.outcome.FailName.TheVariants as fail
use Rattle.csub_tree.specs.State.{Value, Word, Flag, Core}
use Rattle.csub_tree.specs.Statement.{read, operand, operands, any_unset}
use Rattle.csub_tree.specs.declared.tree.COperand.{COperand}
use Rattle.csub_tree.specs.declared.tree.COperand.TheVariants.{Var}
use Rattle.rpy_tree.specs.Value.{Value as Meant, Word as MeantWord, Nothing, Ref, Listed}
use Rattle.rpy_meaning.specs.declared.row.Covers.{Covers}
use Rattle.rpy_meaning.specs.declared.row.RowOp.TheVariants as row
use Rattle.rpy_meaning.specs.Operations.{op as meant_op}
use Rattle.rpy_meaning.specs.Sequences.{place as meant_place, delete_object}
use Rattle.rpy_meaning.specs.Tree.{Program}
use Rattle.rpy_meaning.specs.World.{World, Answer, Gives, index_error, if_some, set_object, failure}
use Rattle.ll_code.specs.State.{Frame, State, At}
use Rattle.ll_code.specs.declared.program.LlType.{LlType}
use Rattle.ll_code.specs.declared.program.LlType.TheVariants as type
use Rattle.ll_code.specs.declared.program.LlOp.{LlOp}
use Rattle.ll_code.specs.declared.program.LlOp.TheVariants as op
use Rattle.ll_code.specs.declared.program.LlExit.{LlExit}
use Rattle.ll_code.specs.declared.program.LlProgram.{LlProgram}
use Rattle.ll_build.specs.declared.needs.Numbers.{Numbers}
use Rattle.rtyper_layout.specs.declared.kind.Kind.TheVariants as kind
use Rattle.rtyper_layout.specs.Kinds.{kind_seen}
use Rattle.rtyper_layout.specs.Layout.{is_list}
use Rattle.rtyper_data.specs.declared.found.Found.{Found}
use Rattle.rtyper_data.specs.declared.small.Small.{Small}
use Rattle.rtyper_data.specs.declared.small.Small.TheVariants as small
use Rattle.rtyper_data.specs.declared.small.Listed.TheVariants as listed
use Rattle.rtyper_data.specs.Converting.{by_small, default_operand, nothing_to}
use Rattle.rtyper_data.specs.Finding.{small_number}
use Rattle.rtyper_op.specs.Lowering.{never_comes}
use Rattle.rtyper_op.specs.Placing.{says_nothing}
use Rattle.rtyper_data.specs.Seen.{Around, Operand, Place, kind_of, type_of, Writing, writing}
use Rattle.list_shape.specs.Shapes.{taking}
use Rattle.rtyper_list.specs.Items.{delete, placed}
use Rattle.rtyper_list.specs.Lowering.{lowered, lowered_unless, of_some, first_of_two, lower_list_op}
use Rattle.rtyper_list.specs.Operands.{of_list, list_of, pointed, done_by}
use Rattle.lower_laws.specs.Asked.{Ask, Make, all_asked}
use Rattle.lower_laws.specs.Values.{AllBelow}
use Rattle.lower_laws.proofs.Doing.{after}
use Rattle.lower_laws.proofs.Typing.{place_of_none}
use Rattle.list_laws.specs.Asked.{HasList, HasRemove, HasAll}
use Rattle.list_laws.specs.Lists.{there_asks}
use Rattle.list_laws.specs.Presence.{IsTold}
use Rattle.list_laws.specs.Taken.{take_asks, ItemsAreDeleted}
use Rattle.list_laws.proofs.Indexed.{asked_both, has_first, has_more, there_covers, three_behind, place_inside}
use Rattle.list_laws.proofs.Lengths.{count_fits}
use Rattle.list_laws.proofs.Lowered.{list_comes, two_come, first_of_two_is_list}
use Rattle.list_laws.proofs.Places.{PlaceGoes, place_is}
use Rattle.list_laws.proofs.Stored.{not_none}
use Rattle.list_laws.proofs.Taking.{no_block, takes}
use Rattle.list_laws.proofs.There.{Entered, entered}
use Rattle.object_laws.specs.Known.{Known}
use Rattle.object_laws.specs.Done.{Follows, HasLayout, items_in, references}
use Rattle.object_laws.specs.Ghost.{Ghost, ListOf}
use Rattle.object_laws.specs.Represents.{Represents, ListAt}
use Rattle.object_laws.specs.Values.{Given, Alone}
use Rattle.object_laws.proofs.Blocks.{found_set, found_there}
use Rattle.object_laws.proofs.Passing.{Pays, none_passed, sets_more, is_set_at, is_kept_at, operand_kept, behind, Went, calls_at, throws_at, fails_at}
use Rattle.object_laws.proofs.Valued.{Listing, Absent, list_or_none, word_held, each_long}

module _ (known : Known) (around : Around) (place : Place) (a b : Operand) (w : Writing) (n : ℕ) (lists : of_list (kind_of a) ≡ true) (typed : type_of around a ≡ type.Ptr n) (words : kind_of b ≡ kind.Word) (nothing : kind_seen place.element ≡ kind.Nothing) where
  ent : Entered around a w
  ent = entered around a w lists

  abbrev first : Found
  first = all_asked (there_asks around a w.found.covered) w.found

  abbrev outside : Small
  outside = small.Listed (listed.Place n w.found.covered.index)

  abbrev taking_out : Small
  taking_out = small.Listed (listed.Remove n)

  abbrev asks : List Ask
  asks = take_asks around a n w.found.covered

  abbrev number : ℕ
  number = (small_number outside first).0

  abbrev found1 : Found
  found1 = (small_number outside first).1

  abbrev number2 : ℕ
  number2 = (small_number taking_out found1).0

  abbrev found2 : Found
  found2 = (small_number taking_out found1).1

  abbrev types0 : List LlType
  types0 = w.body.types ++ ent.new

  abbrev m1 : ℕ
  m1 = length types0

  abbrev calls : LlOp
  calls = op.Call (Some m1) number (Var ent.x ∷ b.x ∷ [])

  abbrev takes_out : LlOp
  takes_out = op.Call None number2 (Var ent.x ∷ Var m1 ∷ [])

  abbrev puts : LlOp
  puts = op.Set place.variable (default_operand type.Bool)

  list_is : list_of around a ≡ n
  unfolding list_of
  list_is = ap pointed typed

  covered : first.covered.index ≡ w.found.covered.index
  covered = ap (λ (c : Covers). c.index) (there_covers around a w.found)

  abbrev entered_writing : Writing
  entered_writing = writing first (record { types = types0; ops = w.body.ops ++ ent.ops })

  abbrev delete_from : ℕ → COperand × Writing → Writing
  delete_from k made = taking made (λ at last. says_nothing around place (done_by (listed.Remove k) (Var ent.x ∷ at ∷ []) last))

  abbrev called_body : LlType → Writing
  called_body t = writing found2 (nothing_to place t (record { types = types0 ++ type.Signed ∷ []; ops = ((w.body.ops ++ ent.ops) ++ calls ∷ []) ++ takes_out ∷ [] }))

  is_written : lower_list_op around row.DeleteIndex place (a ∷ b ∷ []) w ≡ writing found2 (record { types = types0 ++ type.Signed ∷ []; ops = (((w.body.ops ++ ent.ops) ++ calls ∷ []) ++ takes_out ∷ []) ++ puts ∷ [] })
  unfolding lowered of_some first_of_two delete placed by_small done_by
  is_written =
      two_come around row.DeleteIndex place a b w (list_comes a lists) (ap never_comes words)
      ∙ ap (λ t. lowered_unless t around row.DeleteIndex place (a ∷ b ∷ []) w) (not_none (kind_of a) lists)
      ∙ first_of_two_is_list around row.DeleteIndex place a b w lists
      ∙ ap (λ made. taking made (λ x next. taking (placed (list_of around a) x b.x next) (λ at last. says_nothing around place (done_by (listed.Remove (list_of around a)) (Var x ∷ at ∷ []) last)))) ent.written
      ∙ ap (λ l. delete_from l (placed l ent.x b.x entered_writing)) list_is
      ∙ ap (λ c. delete_from n (by_small (small.Listed (listed.Place n c)) type.Signed (Var ent.x ∷ b.x ∷ []) entered_writing)) covered
      ∙ ap called_body (place_of_none around.layout place.element nothing)

  -- ---- once the list is in its variable

  module _ (p : LlProgram) (raised : ℕ → Value) (arguments : List (List ℕ)) (rest : List LlOp) (e : LlExit) (frames : List Frame) (core : Core) (g : Ghost) (most : ℕ) (world : World)
      (structs : HasLayout p around.layout) (has : HasList p around.layout raised (listed.Place n w.found.covered.index) number) (has2 : HasRemove p around.layout raised n number2)
      (stands : Represents around.layout known g world.heap world.left core.blocks core.statics) (left : world.left ≡ core.steps)
      (room : m1 + 1 ≤ length core.vars) (inside : place.variable < length w.body.types) (before : ent.x < m1)
      (head : Value) (z : ℤ) (at : read core.vars ent.x ≡ head) (index_at : operand core.vars b.x ≡ Word z) (i : ℕ) (struct : is_list around.layout n ≡ true) (home : slice_get g.homes i ≡ Some (record { sort = ListOf n; head = head })) where
    abbrev There : State
    There = At (calls ∷ takes_out ∷ puts ∷ rest) e frames core

    here : ListAt around.layout known g world.heap world.left core.blocks core.statics n i head
    here = stands.lists n i head home struct

    abbrev count : ℕ
    count = length here.items

    few : count < 2 ^ 63
    few = count_fits here.values here.spare here.items here.long (each_long here.each)

    same : operands core.vars (Var ent.x ∷ b.x ∷ []) ≡ head ∷ Word z ∷ []
    same = ap (λ y. y ∷ operand core.vars b.x ∷ []) at ∙ ap (λ y. head ∷ y ∷ []) index_at

    set : any_unset (head ∷ Word z ∷ []) ≡ false
    set = ap (λ c. c || (false || false)) (found_set core.blocks core.statics head _ here.head_is)

    types_before : length w.body.types ≤ m1
    types_before = (let l : m1 ≡ length w.body.types + length ent.new = length-append w.body.types ent.new in omega (arith, l))

    abbrev world2 : ℕ → World
    world2 k = record world { heap = slice_set world.heap i (Listed (remove here.items k)) }

    takes_item : (k : ℕ) → k < count → count ≤ most → PlaceGoes p around.layout arguments raised n number core head here.array count (structs.heads n struct) here.head_is few w.found.covered.index z (Some k)
        → Follows 0 known around place p arguments There rest e frames core g raised most (length w.body.types) world (Gives Nothing (world2 k))
    unfolding here
    takes_item k within many comes =
        let core1 : Core = after core m1 (Word (pos k)) in
        let long : length core1.vars ≡ length core.vars = length-set core.vars m1 (Word (pos k)) in
        behind 0 known around place p arguments rest e frames core g raised most (length w.body.types) world (sets_more m1 (Word (pos k)) types_before none_passed) (calls_at same set comes) (Gives Nothing (world2 k)) tt
        (takes known around place p raised arguments rest e frames core1 g most (length w.body.types) world structs n number2 struct has2 stands left (omega (arith, inside, types_before, room, long))
        (Var ent.x) (Var m1) (default_operand type.Bool) head (Flag false) k i Nothing (is_kept_at core m1 ent.x (Word (pos k)) (λ q. omega (arith, before, q)) ∙ at) (is_set_at core m1 (Word (pos k)) (omega (arith, room))) refl home refl (Alone nothing refl refl) within many)

    outside_of : (t : Bool) → PlaceGoes p around.layout arguments raised n number core head here.array count (structs.heads n struct) here.head_is few t z None
        → Follows 0 known around place p arguments There rest e frames core g raised most (length w.body.types) world (failure t 6 fail.Index world)
    outside_of true flies = throws_at same set (takes_out ∷ puts ∷ []) rest flies
    outside_of false ends = fails_at same set (takes_out ∷ puts ∷ rest) ends

    chosen : count ≤ most → (o : Option ℕ) → meant_place z count ≡ o → PlaceGoes p around.layout arguments raised n number core head here.array count (structs.heads n struct) here.head_is few w.found.covered.index z o
        → Follows 0 known around place p arguments There rest e frames core g raised most (length w.body.types) world (if_some (index_error w.found.covered) o (λ k. set_object i (Listed (remove here.items k)) Nothing) world)
    chosen many None q goes = outside_of w.found.covered.index goes
    chosen many (Some k) q goes = takes_item k (place_inside z count k q) many goes

    does : count ≤ most → Fits z → Follows 0 known around place p arguments There rest e frames core g raised most (length w.body.types) world (if_some (index_error w.found.covered) (meant_place z count) (λ k. set_object i (Listed (remove here.items k)) Nothing) world)
    does many fits = chosen many (meant_place z count) refl (place_is p around.layout arguments raised n number core head here.array count (structs.heads n struct) here.head_is few w.found.covered.index z has fits)

    pays : (o : Option ℕ) → Pays (if_some (index_error w.found.covered) o (λ k. set_object i (Listed (remove here.items k)) Nothing) world)
    pays (Some k) = tt
    pays None = by w.found.covered.index
      where
        by : (t : Bool) → Pays (failure t 6 fail.Index world)
        by true = tt
        by false = tt

  -- ---- the whole

  module _ (program : Program) (p : LlProgram) (numbers : Numbers) (raised : ℕ → Value) (arguments : List (List ℕ)) (rest : List LlOp) (e : LlExit) (frames : List Frame) (core : Core) (g : Ghost) (world : World)
      (structs : HasLayout p around.layout) (has : HasAll p around.layout numbers raised core asks w.found)
      (stands : Represents around.layout known g world.heap world.left core.blocks core.statics) (left : world.left ≡ core.steps)
      (room : length w.body.types + length (ent.new ++ type.Signed ∷ []) ≤ length core.vars) (inside : place.variable < length w.body.types)
      (below : AllBelow (length w.body.types) (a ∷ b ∷ [])) where
    abbrev Done : ℕ → Answer → Type 0
    Done most answer = Follows 0 known around place p arguments (At (ent.ops ++ (calls ∷ takes_out ∷ puts ∷ rest)) e frames core) rest e frames core g raised most (length w.body.types) world answer

    first_has : HasAll p around.layout numbers raised core (there_asks around a w.found.covered) w.found
    first_has = has_first p around numbers raised core (there_asks around a w.found.covered) (Make outside ∷ Make taking_out ∷ []) w.found has

    more_has : HasAll p around.layout numbers raised core (Make outside ∷ Make taking_out ∷ []) first
    more_has = has_more p around numbers raised core (there_asks around a w.found.covered) (Make outside ∷ Make taking_out ∷ []) w.found has

    long : length (ent.new ++ type.Signed ∷ []) ≡ length ent.new + 1
    long = length-append ent.new (type.Signed ∷ [])

    m1_is : m1 ≡ length w.body.types + length ent.new
    m1_is = length-append w.body.types ent.new

    there : (v u : Meant) → (z : ℤ) → operand core.vars b.x ≡ Word z → u ≡ MeantWord z → Fits z → Listing around.layout known g a.element (operand core.vars a.x) v → Done (references world.heap (v ∷ u ∷ [])) (meant_op program w.found.covered row.DeleteIndex (v ∷ u ∷ []) world)
    there v u z low high fits it =
        subst (Done most) (sym above)
        (behind 0 known around place p arguments rest e frames core g raised most (length w.body.types) world went.passed went.way (if_some (index_error w.found.covered) (meant_place z (length mid_here.items)) (λ k. set_object it.i (Listed (remove mid_here.items k)) Nothing) world)
        (pays p raised arguments rest e frames mid g most world structs more_has.0 more_has.1.0 stands_mid left_mid wide inside before x z went.is index_mid it.i struct home (meant_place z (length mid_here.items)))
        (does p raised arguments rest e frames mid g most world structs more_has.0 more_has.1.0 stands_mid left_mid wide inside before x z went.is index_mid it.i struct home many fits))
      where
        most : ℕ
        most = references world.heap (v ∷ u ∷ [])

        x : Value
        x = operand core.vars a.x

        number_is : it.n ≡ n
        number_is = ap pointed (sym it.typed ∙ typed)

        struct : is_list around.layout n ≡ true
        struct = subst (λ k. is_list around.layout k ≡ true) number_is it.struct

        home : slice_get g.homes it.i ≡ Some (record { sort = ListOf n; head = x })
        home = subst (λ k. slice_get g.homes it.i ≡ Some (record { sort = ListOf k; head = x })) number_is it.home

        l : ListAt around.layout known g world.heap world.left core.blocks core.statics n it.i x
        l = stands.lists n it.i x home struct

        went : Went p arguments (At (ent.ops ++ (calls ∷ takes_out ∷ puts ∷ rest)) e frames core) (calls ∷ takes_out ∷ puts ∷ rest) e frames core (length w.body.types) ent.x x
        went = ent.enters p numbers raised arguments (calls ∷ takes_out ∷ puts ∷ rest) e frames core first_has (omega (arith, room, long)) (found_set core.blocks core.statics x _ l.head_is) (found_there core.blocks core.statics x _ l.head_is)

        mid : Core
        mid = went.mid

        stands_mid : Represents around.layout known g world.heap world.left mid.blocks mid.statics
        stands_mid = subst (λ (c : Core). Represents around.layout known g world.heap world.left c.blocks c.statics) (sym went.passed.memory) stands

        left_mid : world.left ≡ mid.steps
        left_mid = left ∙ sym (ap (λ (c : Core). c.steps) went.passed.memory)

        wide : m1 + 1 ≤ length mid.vars
        wide = (let r = went.passed.room in omega (arith, room, long, m1_is, r))

        before : ent.x < m1
        before = (let i = ent.inside below.0 in omega (arith, i, m1_is))

        index_mid : operand mid.vars b.x ≡ Word z
        index_mid = operand_kept went.passed b.x below.1.0 ∙ low

        mid_here : ListAt around.layout known g world.heap world.left mid.blocks mid.statics n it.i x
        mid_here = here p raised arguments rest e frames mid g most world structs more_has.0 more_has.1.0 stands_mid left_mid wide inside before x z went.is index_mid it.i struct home

        many : length mid_here.items ≤ most
        many = (let q : references world.heap (v ∷ u ∷ []) ≡ references world.heap (Ref it.i ∷ u ∷ []) = ap (λ v. references world.heap (v ∷ u ∷ [])) it.high in let k : items_in (slice_get world.heap it.i) ≡ length mid_here.items = ap items_in mid_here.object in omega (arith, q, k))

        above : meant_op program w.found.covered row.DeleteIndex (v ∷ u ∷ []) world ≡ if_some (index_error w.found.covered) (meant_place z (length mid_here.items)) (λ k. set_object it.i (Listed (remove mid_here.items k)) Nothing) world
        above = ap (λ v. meant_op program w.found.covered row.DeleteIndex (v ∷ u ∷ []) world) it.high ∙ ap (λ u. meant_op program w.found.covered row.DeleteIndex (Ref it.i ∷ u ∷ []) world) high ∙ ap (λ o. delete_object w.found.covered it.i (MeantWord z) o world) mid_here.object

    missing : (most : ℕ) (v u : Meant) → Absent a.element (operand core.vars a.x) v → Done most (meant_op program w.found.covered row.DeleteIndex (v ∷ u ∷ []) world)
    missing most v u gone = subst (λ v. Done most (meant_op program w.found.covered row.DeleteIndex (v ∷ u ∷ []) world)) (sym gone.high)
        (no_block known around place p arguments (At (ent.ops ++ (calls ∷ takes_out ∷ puts ∷ rest)) e frames core) rest e frames core g raised most (length w.body.types) world w.found.covered.attribute (ent.misses known place p numbers raised arguments (calls ∷ takes_out ∷ puts ∷ []) rest e frames core g most world first_has gone.may gone.low))

    either : (v u : Meant) → (z : ℤ) → operand core.vars b.x ≡ Word z → u ≡ MeantWord z → Fits z → Listing around.layout known g a.element (operand core.vars a.x) v ⊎ Absent a.element (operand core.vars a.x) v → Done (references world.heap (v ∷ u ∷ [])) (meant_op program w.found.covered row.DeleteIndex (v ∷ u ∷ []) world)
    either v u z low high fits (inl it) = there v u z low high fits it
    either v u z low high fits (inr gone) = missing (references world.heap (v ∷ u ∷ [])) v u gone

    follow : (vs : List Meant) → Given known around g core (a ∷ b ∷ []) vs → Follows 0 known around place p arguments (At ((ent.ops ++ (calls ∷ takes_out ∷ puts ∷ [])) ++ rest) e frames core) rest e frames core g raised (references world.heap vs) (length w.body.types) world (meant_op program w.found.covered row.DeleteIndex vs world)
    follow [] given = absurd given
    follow (v ∷ []) given = absurd given.1
    follow (v ∷ u ∷ []) given =
        let y = word_held words given.1.0 in
        subst (λ l. Follows 0 known around place p arguments (At l e frames core) rest e frames core g raised (references world.heap (v ∷ u ∷ [])) (length w.body.types) world (meant_op program w.found.covered row.DeleteIndex (v ∷ u ∷ []) world)) (sym (append_assoc ent.ops (calls ∷ takes_out ∷ puts ∷ []) rest))
        (either v u y.number y.low y.high y.fits (list_or_none lists given.0))
    follow (v ∷ u ∷ s ∷ vs) given = absurd given.1.1

  pub delete_done : IsTold known around row.DeleteIndex w.found.covered asks place (a ∷ b ∷ []) w
  delete_done = record {
    ops = ent.ops ++ (calls ∷ takes_out ∷ puts ∷ []);
    new = ent.new ++ (type.Signed ∷ []);
    asked = ap (λ (r : Writing). r.found) is_written ∙ sym (asked_both (there_asks around a w.found.covered) (Make outside ∷ Make taking_out ∷ []) w.found);
    written = ap (λ (r : Writing). r.body.ops) is_written ∙ three_behind w.body.ops ent.ops calls takes_out puts;
    types = ap (λ (r : Writing). r.body.types) is_written ∙ append_assoc w.body.types ent.new (type.Signed ∷ []);
    follows = λ p numbers raised arguments rest e frames core g world vs structs has stands left room inside below given good. follow known.program p numbers raised arguments rest e frames core g world structs has stands left room inside below vs given;
  }

pub items_are_deleted : ItemsAreDeleted
items_are_deleted known around place a b w n lists typed words nothing = delete_done known around place a b w n lists typed words nothing
