-- An item is stored in a list.
use Rattle.std.proofs.Common.{◌≡◌, ◌<◌, ◌≤◌, ℕ, zero, suc, ◌+◌, ◌^◌, ◌⊎◌, inl, inr, Bool, true, false, ◌||◌, List, [], ◌∷◌, ◌++◌, length, Option, Some, None, ℤ, pos, refl, sym, ap, ◌∙◌, subst, arith, append_assoc, length-append}
use Rattle.std.specs.Prelude.{slice_get, slice_set, if◌then◌else◌}
use Rattle.std.proofs.lemmas.List.{append-nil, length-set}
use Rattle.ann_element.specs.declared.element.Element.{Element}
use Rattle.rpy_base.specs.Word.{Fits}
use Rattle.rpy_base.specs.declared.outcome.FailName.TheVariants as fail
use Rattle.csub_tree.specs.State.{Value, Word, Core}
use Rattle.csub_tree.specs.Operation.{is_unset}
use Rattle.csub_tree.specs.Statement.{read, operand, operands, any_unset}
use Rattle.csub_tree.specs.declared.tree.COperand.{COperand}
use Rattle.csub_tree.specs.declared.tree.COperand.TheVariants.{Var}
use Rattle.rpy_tree.specs.Value.{Value as Meant, Word as MeantWord, Ref, Listed}
use Rattle.rpy_meaning.specs.declared.row.Covers.{Covers}
use Rattle.rpy_meaning.specs.declared.row.RowOp.TheVariants as row
use Rattle.rpy_meaning.specs.Operations.{op as meant_op}
use Rattle.rpy_meaning.specs.Sequences.{place as meant_place, store_object}
use Rattle.rpy_meaning.specs.Tree.{Program}
use Rattle.rpy_meaning.specs.World.{World, Answer, Gives, index_error, if_some, set_object, failure}
use Rattle.ll_code.specs.State.{Frame, State, At}
use Rattle.ll_code.specs.declared.program.LlType.{LlType}
use Rattle.ll_code.specs.declared.program.LlType.TheVariants as type
use Rattle.ll_code.specs.declared.program.LlOp.{LlOp}
use Rattle.ll_code.specs.declared.program.LlOp.TheVariants as op
use Rattle.ll_code.specs.declared.program.LlExit.{LlExit}
use Rattle.ll_code.specs.declared.program.LlProgram.{LlProgram}
use Rattle.ll_build.specs.declared.needs.Numbers.{Numbers}
use Rattle.ll_leads.specs.Memory.{forgotten}
use Rattle.ll_leads.specs.Path.{Leads}
use Rattle.ll_leads.proofs.Joined.{leads_then, leads_more}
use Rattle.ll_leads.proofs.Ways.{on}
use Rattle.ll_texts.specs.Texts.{found}
use Rattle.rtyper_layout.specs.declared.kind.Kind.{Kind}
use Rattle.rtyper_layout.specs.declared.kind.Kind.TheVariants as kind
use Rattle.rtyper_layout.specs.Layout.{is_list}
use Rattle.rtyper_layout.specs.Types.{word, type_of as element_type}
use Rattle.rtyper_data.specs.declared.body.Body.{Body}
use Rattle.rtyper_data.specs.declared.found.Found.{Found}
use Rattle.rtyper_data.specs.declared.small.Small.{Small}
use Rattle.rtyper_data.specs.declared.small.Small.TheVariants as small
use Rattle.rtyper_data.specs.declared.small.Listed.TheVariants as listed
use Rattle.rtyper_data.specs.Converting.{by_small, given, give}
use Rattle.rtyper_data.specs.Finding.{small_number}
use Rattle.rtyper_op.specs.Lowering.{lower_op, never_comes}
use Rattle.rtyper_data.specs.Seen.{Around, Operand, Place, kind_of, type_of, Writing, writing}
use Rattle.list_shape.specs.declared.shape.Shape.{Shape}
use Rattle.list_shape.specs.Shapes.{item_of, shape_of, taking}
use Rattle.rtyper_list.specs.Items.{shape_in, store, stored, placed}
use Rattle.rtyper_list.specs.Lowering.{lowered, lowered_unless, of_some, of_three, first_of_three, lower_list_op}
use Rattle.rtyper_list.specs.Operands.{of_list, of_none, list_of, pointed, array_in}
use Rattle.lower_laws.specs.Asked.{Ask, Make, all_asked}
use Rattle.lower_laws.specs.Values.{IsBelow, AllBelow}
use Rattle.lower_laws.proofs.Doing.{after}
use Rattle.lower_laws.proofs.Items.{gives_same}
use Rattle.lower_laws.proofs.Single.{sets}
use Rattle.lower_laws.proofs.Stayed.{field_is}
use Rattle.lower_laws.proofs.Tupled.{given_same}
use Rattle.list_laws.specs.Done.{IsDone}
use Rattle.list_laws.specs.Asked.{HasList, HasAll}
use Rattle.object_laws.specs.Known.{Known}
use Rattle.object_laws.specs.Done.{Follows, HasLayout, references}
use Rattle.object_laws.specs.Ghost.{Ghost, Use, Head, Array, use_of, ListOf}
use Rattle.object_laws.specs.Staying.{Stays}
use Rattle.list_laws.specs.Lists.{IsList, there_asks, ItemsAreStored}
use Rattle.object_laws.specs.Represents.{Represents, ListAt, HasRoom, head_block, array_block}
use Rattle.object_laws.specs.Values.{Given, Holds, EachHolds, Empty, More}
use Rattle.object_laws.proofs.Blocks.{found_set, found_there, reads_field}
use Rattle.object_laws.proofs.Changing.{IsOf, Wrote, list_changes, settled_wrote, get_set_here, uses_apart}
use Rattle.list_laws.proofs.Indexed.{asked_both, has_first, has_more, there_covers, four_behind, place_inside}
use Rattle.list_laws.proofs.Lengths.{HeadFound, count_fits}
use Rattle.list_laws.proofs.Lowered.{list_comes, three_come}
use Rattle.object_laws.proofs.Growing.{grown_none}
use Rattle.object_laws.proofs.Passing.{Pays, Passed, none_passed, sets_more, is_set_at, is_kept_at, operand_kept, behind, Went, calls_at, throws_at, fails_at}
use Rattle.list_laws.proofs.Places.{PlaceGoes, place_is}
use Rattle.list_laws.proofs.There.{Entered, entered}
use Rattle.object_laws.proofs.Valued.{stays_comes, Listing, Absent, list_or_none, word_held, stays_typed, stays_there, stays_held, held_set, each_long}
use Rattle.list_laws.proofs.Walked.{two_behind}
use Rattle.object_laws.proofs.Writing.{Written, writes_item}

-- ---- kinds

pub not_none : (k : Kind) → of_list k ≡ true → of_none k ≡ false
not_none kind.List h = refl
not_none kind.MaybeList h = refl
not_none _ h = absurd (cc)

-- ---- lists

set_first : {A : Type 0} (xs ys : List A) (k : ℕ) (x : A) → k < length xs → slice_set (xs ++ ys) k x ≡ slice_set xs k x ++ ys
set_first [] ys k x h = absurd (omega (arith, h))
set_first (y ∷ xs) ys zero x h = refl
set_first (y ∷ xs) ys (suc k) x h = ap (λ l. y ∷ l) (set_first xs ys k x (omega (arith, h)))

-- one of the items is another
each_set : {known : Known} {g : Ghost} (around : Around) {seen : Option Element} {xs : List Value} {vs : List Meant} (k : ℕ) (x : Value) (v : Meant) → Holds around.layout known g seen x v → EachHolds around.layout known g seen xs vs → EachHolds around.layout known g seen (slice_set xs k x) (slice_set vs k v)
each_set around k x v held Empty = Empty
each_set around zero x v held (More other each) = More held each
each_set around (suc k) x v held (More other each) = More other (each_set around k x v held each)

-- ---- an item that is stored

module _ (known : Known) (around : Around) (place : Place) (a b c : Operand) (w : Writing) (n : ℕ) (item : Element) (of : IsList around known a.element n item) (words : kind_of b ≡ kind.Word) (stay : Stays around.layout known c.element (Some item)) (gives : Stays around.layout known c.element place.element) where
  ent : Entered around a w
  ent = entered around a w of.is

  abbrev first : Found
  first = all_asked (there_asks around a w.found.covered) w.found

  abbrev outside : Small
  outside = small.Listed (listed.Place n w.found.covered.index)

  abbrev asks : List Ask
  asks = there_asks around a w.found.covered ++ Make outside ∷ []

  abbrev number : ℕ
  number = (small_number outside first).0

  abbrev kept_type : LlType
  kept_type = item_of around.layout (word (n + 1))

  abbrev types0 : List LlType
  types0 = w.body.types ++ ent.new

  abbrev m1 : ℕ
  m1 = length types0

  abbrev m2 : ℕ
  m2 = length (types0 ++ type.Signed ∷ [])

  abbrev calls : LlOp
  calls = op.Call (Some m1) number (Var ent.x ∷ b.x ∷ [])

  abbrev gets_array : LlOp
  gets_array = op.GetField m2 n ent.x 1

  abbrev sets_item : LlOp
  sets_item = op.SetItem (word (n + 1)) m2 (Var m1) c.x

  abbrev puts : LlOp
  puts = op.Set place.variable c.x

  element_there : element_type around.layout item ≡ type.Void → ⊥
  element_there h = stays_there stay h

  typed : type_of around c ≡ kept_type
  typed = stays_typed stay ∙ sym (of.items ∙ field_is (element_type around.layout item) element_there)

  list_is : list_of around a ≡ n
  unfolding list_of
  list_is = ap pointed of.typed

  covered : first.covered.index ≡ w.found.covered.index
  covered = ap (λ (c : Covers). c.index) (there_covers around a w.found)

  abbrev entered_writing : Writing
  entered_writing = writing first (record { types = types0; ops = w.body.ops ++ ent.ops })

  abbrev store_at : Shape → COperand → COperand × Writing → Writing
  store_at s at value = give around place c.x (type_of around c) (writing value.1.found (stored s ent.x at value.0 value.1.body))

  abbrev store_from : Shape → COperand × Writing → Writing
  store_from s made = taking made (λ at next. taking (given around c s.item next) (λ value last. store_at s at (value, last)))

  abbrev found_last : Found
  found_last = (small_number outside first).1

  abbrev called_body : Body
  called_body = record { types = types0 ++ type.Signed ∷ []; ops = (w.body.ops ++ ent.ops) ++ calls ∷ [] }

  abbrev last_body : Body
  last_body = record { types = (types0 ++ type.Signed ∷ []) ++ type.Ptr (word (n + 1)) ∷ []; ops = (((w.body.ops ++ ent.ops) ++ calls ∷ []) ++ gets_array ∷ []) ++ sets_item ∷ [] }

  is_written : lower_list_op around row.StoreIndex place (a ∷ b ∷ c ∷ []) w ≡ writing found_last (record last_body { ops = last_body.ops ++ puts ∷ [] })
  unfolding lowered of_some of_three first_of_three store placed by_small stored array_in
  is_written =
      three_come around row.StoreIndex place a b c w (list_comes a of.is) (ap never_comes words) (stays_comes stay)
      ∙ ap (λ t. lowered_unless t around row.StoreIndex place (a ∷ b ∷ c ∷ []) w) (not_none (kind_of a) of.is)
      ∙ ap (λ t. if t then first_of_three around row.StoreIndex place a b c w else lower_op around row.StoreIndex place (a ∷ b ∷ c ∷ []) w) of.is
      ∙ ap (λ made. taking made (λ x next. taking (placed (list_of around a) x b.x next) (λ at later. taking (given around c (shape_in around a).item later) (λ value last. give around place c.x (type_of around c) (writing last.found (stored (shape_in around a) x at value last.body)))))) ent.written
      ∙ ap (λ l. store_from (shape_of around.layout l) (placed l ent.x b.x entered_writing)) list_is
      ∙ ap (λ t. store_from (shape_of around.layout n) (by_small (small.Listed (listed.Place n t)) type.Signed (Var ent.x ∷ b.x ∷ []) entered_writing)) covered
      ∙ ap (store_at (shape_of around.layout n) (Var m1)) (given_same around c kept_type (writing found_last called_body) typed)
      ∙ gives_same around place c.x (type_of around c) (writing found_last last_body) (λ h. element_there (sym (stays_typed stay) ∙ h)) (sym (stays_typed gives))

  -- ---- once the list is in its variable

  module _ (p : LlProgram) (raised : ℕ → Value) (arguments : List (List ℕ)) (rest : List LlOp) (e : LlExit) (frames : List Frame) (core : Core) (g : Ghost) (most : ℕ) (one : 1 ≤ most) (world : World)
      (structs : HasLayout p around.layout) (has : HasList p around.layout raised (listed.Place n w.found.covered.index) number)
      (stands : Represents around.layout known g world.heap world.left core.blocks core.statics) (left : world.left ≡ core.steps)
      (room : m1 + 2 ≤ length core.vars) (inside : place.variable < length w.body.types) (before : ent.x < m1)
      (head : Value) (z : ℤ) (at : read core.vars ent.x ≡ head) (index_at : operand core.vars b.x ≡ Word z) (i : ℕ) (struct : is_list around.layout n ≡ true) (home : slice_get g.homes i ≡ Some (record { sort = ListOf n; head = head }))
      (under : IsBelow (length w.body.types) c.x) (value : Value) (v : Meant) (value_at : operand core.vars c.x ≡ value) (held : Holds around.layout known g c.element value v) where
    abbrev There : State
    There = At (calls ∷ gets_array ∷ sets_item ∷ puts ∷ rest) e frames core

    here : ListAt around.layout known g world.heap world.left core.blocks core.statics n i head
    here = stands.lists n i head home struct

    abbrev count : ℕ
    count = length here.items

    few : count < 2 ^ 63
    few = count_fits here.values here.spare here.items here.long (each_long here.each)

    same : operands core.vars (Var ent.x ∷ b.x ∷ []) ≡ head ∷ Word z ∷ []
    same = ap (λ y. y ∷ operand core.vars b.x ∷ []) at ∙ ap (λ y. head ∷ y ∷ []) index_at

    set : any_unset (head ∷ Word z ∷ []) ≡ false
    set = ap (λ c. c || (false || false)) (found_set core.blocks core.statics head _ here.head_is)

    value_set : is_unset value ≡ false
    value_set = held_set stands held

    m2_is : m2 ≡ m1 + 1
    m2_is = length-append types0 (type.Signed ∷ [])

    types_before : length w.body.types ≤ m1
    types_before = (let l : m1 ≡ length w.body.types + length ent.new = length-append w.body.types ent.new in omega (arith, l))

    abbrev items2 : ℕ → List Meant
    items2 k = slice_set here.items k v

    abbrev world2 : ℕ → World
    world2 k = record world { heap = slice_set world.heap i (Listed (items2 k)) }

    heads_apart : head ≡ here.array → ⊥
    heads_apart e = uses_apart g head here.array (Head i) (Array i) here.head_use here.array_use (λ q. absurd (cc)) e

    -- what memory represents then
    represents : (k : ℕ) → k < count → (end : Core) → Wrote core.blocks core.statics here.array (record (array_block n (here.values ++ here.spare)) { items = slice_set (here.values ++ here.spare) k value }) end.blocks end.statics → Represents around.layout known g (world2 k).heap world.left end.blocks end.statics
    represents k below end wrote = list_changes n i head (items2 k) stands grown_none refl (omega arith) home (stands.made ∙ sym wrote.made) wrote.fixed (λ x block h. h) others (settled_wrote around.layout g stands.settled wrote (structs.lists_apart n struct).1) changed
      where
        short : k < length here.values
        short = (let l = each_long here.each in omega (arith, below, l))

        others : (x : Value) (u : Use) → use_of g x ≡ Some u → (IsOf i u → ⊥) → found end.blocks end.statics x ≡ found core.blocks core.statics x
        others x u h apart = wrote.others x (uses_apart g x here.array u (Array i) h here.array_use (λ q. apart (subst (IsOf i) (sym q) refl)))

        counts : length (items2 k) ≡ count
        counts = length-set here.items k v

        values_long : length (slice_set here.values k value ++ here.spare) ≡ length (here.values ++ here.spare)
        values_long = length-append (slice_set here.values k value) here.spare ∙ ap (λ l. l + length here.spare) (length-set here.values k value) ∙ sym (length-append here.values here.spare)

        changed : ListAt around.layout known g (world2 k).heap world.left end.blocks end.statics n i head
        changed = record {
          items = items2 k;
          object = get_set_here world.heap i (Listed (items2 k)) (Listed here.items) here.object;
          array = here.array;
          values = slice_set here.values k value;
          spare = here.spare;
          head_use = here.head_use;
          array_use = here.array_use;
          head_is = wrote.others head heads_apart ∙ here.head_is ∙ ap (λ l. Some (head_block n l here.array)) (sym counts);
          array_is = wrote.there ∙ ap (λ l. Some (record { kind = word (n + 1); fields = Word (pos (length (here.values ++ here.spare))) ∷ []; items = l })) (set_first here.values here.spare k value short)
              ∙ ap (λ l. Some (record { kind = word (n + 1); fields = Word (pos l) ∷ []; items = slice_set here.values k value ++ here.spare })) (sym values_long);
          each = each_set around k value v (subst (λ seen. Holds around.layout known g seen value v) (sym of.item_is) (stays_held stay held)) here.each;
          empty = here.empty;
          long = subst (λ l. l < 2 ^ 63) (sym values_long) here.long;
          room = subst (λ l. HasRoom l world.left) (sym counts) here.room;
        }

    stores_item : (k : ℕ) → k < count → PlaceGoes p around.layout arguments raised n number core head here.array count (structs.heads n struct) here.head_is few w.found.covered.index z (Some k)
        → Follows 2 known around place p arguments There rest e frames core g raised most (length w.body.types) world (Gives v (world2 k))
    stores_item k below comes = record {
      end = after wrote.end place.variable value;
      text = [];
      leads = leads_more (0 + (1 + 0)) most (omega (arith, one)) (leads_then (on way1 way2) (leads_then wrote.way way4));
      ghost = g;
      grown = grown_none;
      stands = represents k below wrote.end wrote.wrote;
      holds = subst (λ x. Holds around.layout known g place.element x v) (sym (is_set_at wrote.end place.variable value (omega (arith, inside, types_before, room, long3)))) (stays_held gives held);
      few = (let l = wrote.wrote.made in omega (arith, l));
      memory = wrote.memory ∙ ap (λ t. forgotten (record core { blocks = wrote.end.blocks; statics = wrote.end.statics; steps = t })) (sym left);
      others = λ j lower other. is_kept_at wrote.end place.variable j value other ∙ ap (λ vars. read vars j) wrote.vars ∙ passed.others j lower;
      room = length-set wrote.end.vars place.variable value ∙ long3;
      function = wrote.function;
      block = wrote.block_at;
      out = sym (append-nil world.out);
    }
      where
        core1 : Core
        core1 = after core m1 (Word (pos k))

        core2 : Core
        core2 = after core1 m2 here.array

        passed : Passed (length w.body.types) core core2
        passed = sets_more m2 here.array (omega (arith, types_before, m2_is)) (sets_more m1 (Word (pos k)) types_before none_passed)

        long1 : length core1.vars ≡ length core.vars
        long1 = length-set core.vars m1 (Word (pos k))

        head_at : read core1.vars ent.x ≡ head
        head_at = is_kept_at core m1 ent.x (Word (pos k)) (λ q. omega (arith, before, q)) ∙ at

        way1 : Leads p arguments 0 There [] (At (gets_array ∷ sets_item ∷ puts ∷ rest) e frames core1)
        way1 = calls_at same set comes

        way2 : Leads p arguments 0 (At (gets_array ∷ sets_item ∷ puts ∷ rest) e frames core1) [] (At (sets_item ∷ puts ∷ rest) e frames core2)
        way2 = reads_field 2 (head_block n count here.array) here.array (structs.heads n struct) (subst (λ y. HeadFound core y n count here.array) (sym head_at) here.head_is) refl (found_set core.blocks core.statics here.array _ here.array_is) 1 refl

        low : k < length (here.values ++ here.spare)
        low = (let l = each_long here.each in let s : length (here.values ++ here.spare) ≡ length here.values + length here.spare = length-append here.values here.spare in omega (arith, below, l, s))

        wrote : Written p arguments 1 sets_item (puts ∷ rest) e frames core2 here.array (record (array_block n (here.values ++ here.spare)) { items = slice_set (here.values ++ here.spare) k value })
        wrote = writes_item p arguments (puts ∷ rest) e frames core2 (word (n + 1)) m2 (Var m1) c.x 1 (array_block n (here.values ++ here.spare)) k value (structs.arrays n struct) refl (is_kept_at core1 m2 m1 here.array (λ q. omega (arith, m2_is, q)) ∙ is_set_at core m1 (Word (pos k)) (omega (arith, room))) low
            (operand_kept passed c.x under ∙ value_at) value_set here.array (is_set_at core1 m2 here.array (omega (arith, room, long1, m2_is))) here.array_is

        long3 : length wrote.end.vars ≡ length core.vars
        long3 = ap length wrote.vars ∙ passed.room

        way4 : Leads p arguments 0 (At (puts ∷ rest) e frames wrote.end) [] (At rest e frames (after wrote.end place.variable value))
        way4 = sets value (ap (λ vars. operand vars c.x) wrote.vars ∙ operand_kept passed c.x under ∙ value_at) value_set

    outside_of : (t : Bool) → PlaceGoes p around.layout arguments raised n number core head here.array count (structs.heads n struct) here.head_is few t z None
        → Follows 2 known around place p arguments There rest e frames core g raised most (length w.body.types) world (failure t 6 fail.Index world)
    outside_of true flies = throws_at same set (gets_array ∷ sets_item ∷ puts ∷ []) rest flies
    outside_of false ends = fails_at same set (gets_array ∷ sets_item ∷ puts ∷ rest) ends

    chosen : (o : Option ℕ) → meant_place z count ≡ o → PlaceGoes p around.layout arguments raised n number core head here.array count (structs.heads n struct) here.head_is few w.found.covered.index z o
        → Follows 2 known around place p arguments There rest e frames core g raised most (length w.body.types) world (if_some (index_error w.found.covered) o (λ k. set_object i (Listed (items2 k)) v) world)
    chosen None q goes = outside_of w.found.covered.index goes
    chosen (Some k) q goes = stores_item k (place_inside z count k q) goes

    does : Fits z → Follows 2 known around place p arguments There rest e frames core g raised most (length w.body.types) world (if_some (index_error w.found.covered) (meant_place z count) (λ k. set_object i (Listed (items2 k)) v) world)
    does fits = chosen (meant_place z count) refl (place_is p around.layout arguments raised n number core head here.array count (structs.heads n struct) here.head_is few w.found.covered.index z has fits)

    pays : (o : Option ℕ) → Pays (if_some (index_error w.found.covered) o (λ k. set_object i (Listed (items2 k)) v) world)
    pays (Some k) = tt
    pays None = by w.found.covered.index
      where
        by : (t : Bool) → Pays (failure t 6 fail.Index world)
        by true = tt
        by false = tt

  -- ---- the whole

  module _ (program : Program) (p : LlProgram) (numbers : Numbers) (raised : ℕ → Value) (arguments : List (List ℕ)) (rest : List LlOp) (e : LlExit) (frames : List Frame) (core : Core) (g : Ghost) (world : World)
      (structs : HasLayout p around.layout) (has : HasAll p around.layout numbers raised core asks w.found)
      (stands : Represents around.layout known g world.heap world.left core.blocks core.statics) (left : world.left ≡ core.steps)
      (room : length w.body.types + length (ent.new ++ type.Signed ∷ type.Ptr (word (n + 1)) ∷ []) ≤ length core.vars) (inside : place.variable < length w.body.types)
      (below : AllBelow (length w.body.types) (a ∷ b ∷ c ∷ [])) where
    abbrev Done : ℕ → Answer → Type 0
    Done most answer = Follows 2 known around place p arguments (At (ent.ops ++ (calls ∷ gets_array ∷ sets_item ∷ puts ∷ rest)) e frames core) rest e frames core g raised most (length w.body.types) world answer

    has_there : HasAll p around.layout numbers raised core (there_asks around a w.found.covered) w.found
    has_there = has_first p around numbers raised core (there_asks around a w.found.covered) (Make outside ∷ []) w.found has

    has_place : HasList p around.layout raised (listed.Place n w.found.covered.index) number
    has_place = (has_more p around numbers raised core (there_asks around a w.found.covered) (Make outside ∷ []) w.found has).0

    long : length (ent.new ++ type.Signed ∷ type.Ptr (word (n + 1)) ∷ []) ≡ length ent.new + 2
    long = length-append ent.new (type.Signed ∷ type.Ptr (word (n + 1)) ∷ [])

    m1_is : m1 ≡ length w.body.types + length ent.new
    m1_is = length-append w.body.types ent.new

    there : (most : ℕ) → 1 ≤ most → (v u s : Meant) → (z : ℤ) → operand core.vars b.x ≡ Word z → u ≡ MeantWord z → Fits z → Holds around.layout known g c.element (operand core.vars c.x) s → Listing around.layout known g a.element (operand core.vars a.x) v → Done most (meant_op program w.found.covered row.StoreIndex (v ∷ u ∷ s ∷ []) world)
    there most one v u s z low high fits held it =
        subst (Done most) (sym above)
        (behind 2 known around place p arguments rest e frames core g raised most (length w.body.types) world went.passed went.way (if_some (index_error w.found.covered) (meant_place z (length mid_here.items)) (λ k. set_object it.i (Listed (slice_set mid_here.items k s)) s) world)
        (pays p raised arguments rest e frames mid g most one world structs has_place stands_mid left_mid wide inside before x z went.is index_mid it.i struct home below.1.1.0 (operand core.vars c.x) s value_mid held (meant_place z (length mid_here.items)))
        (does p raised arguments rest e frames mid g most one world structs has_place stands_mid left_mid wide inside before x z went.is index_mid it.i struct home below.1.1.0 (operand core.vars c.x) s value_mid held fits))
      where
        x : Value
        x = operand core.vars a.x

        number_is : it.n ≡ n
        number_is = ap pointed (sym it.typed ∙ of.typed)

        struct : is_list around.layout n ≡ true
        struct = subst (λ k. is_list around.layout k ≡ true) number_is it.struct

        home : slice_get g.homes it.i ≡ Some (record { sort = ListOf n; head = x })
        home = subst (λ k. slice_get g.homes it.i ≡ Some (record { sort = ListOf k; head = x })) number_is it.home

        l : ListAt around.layout known g world.heap world.left core.blocks core.statics n it.i x
        l = stands.lists n it.i x home struct

        went : Went p arguments (At (ent.ops ++ (calls ∷ gets_array ∷ sets_item ∷ puts ∷ rest)) e frames core) (calls ∷ gets_array ∷ sets_item ∷ puts ∷ rest) e frames core (length w.body.types) ent.x x
        went = ent.enters p numbers raised arguments (calls ∷ gets_array ∷ sets_item ∷ puts ∷ rest) e frames core has_there (omega (arith, room, long)) (found_set core.blocks core.statics x _ l.head_is) (found_there core.blocks core.statics x _ l.head_is)

        mid : Core
        mid = went.mid

        stands_mid : Represents around.layout known g world.heap world.left mid.blocks mid.statics
        stands_mid = subst (λ (c : Core). Represents around.layout known g world.heap world.left c.blocks c.statics) (sym went.passed.memory) stands

        left_mid : world.left ≡ mid.steps
        left_mid = left ∙ sym (ap (λ (c : Core). c.steps) went.passed.memory)

        wide : m1 + 2 ≤ length mid.vars
        wide = (let r = went.passed.room in omega (arith, room, long, m1_is, r))

        before : ent.x < m1
        before = (let i = ent.inside below.0 in omega (arith, i, m1_is))

        index_mid : operand mid.vars b.x ≡ Word z
        index_mid = operand_kept went.passed b.x below.1.0 ∙ low

        value_mid : operand mid.vars c.x ≡ operand core.vars c.x
        value_mid = operand_kept went.passed c.x below.1.1.0

        mid_here : ListAt around.layout known g world.heap world.left mid.blocks mid.statics n it.i x
        mid_here = here p raised arguments rest e frames mid g most one world structs has_place stands_mid left_mid wide inside before x z went.is index_mid it.i struct home below.1.1.0 (operand core.vars c.x) s value_mid held

        above : meant_op program w.found.covered row.StoreIndex (v ∷ u ∷ s ∷ []) world ≡ if_some (index_error w.found.covered) (meant_place z (length mid_here.items)) (λ k. set_object it.i (Listed (slice_set mid_here.items k s)) s) world
        above = ap (λ v. meant_op program w.found.covered row.StoreIndex (v ∷ u ∷ s ∷ []) world) it.high ∙ ap (λ u. meant_op program w.found.covered row.StoreIndex (Ref it.i ∷ u ∷ s ∷ []) world) high ∙ ap (λ o. store_object w.found.covered it.i (MeantWord z) s o world) mid_here.object

    missing : (most : ℕ) (v u s : Meant) → Absent a.element (operand core.vars a.x) v → Done most (meant_op program w.found.covered row.StoreIndex (v ∷ u ∷ s ∷ []) world)
    missing most v u s gone = subst (λ v. Done most (meant_op program w.found.covered row.StoreIndex (v ∷ u ∷ s ∷ []) world)) (sym gone.high)
        (ent.misses known place p numbers raised arguments (calls ∷ gets_array ∷ sets_item ∷ puts ∷ []) rest e frames core g most world has_there gone.may gone.low)

    either : (most : ℕ) → 1 ≤ most → (v u s : Meant) → (z : ℤ) → operand core.vars b.x ≡ Word z → u ≡ MeantWord z → Fits z → Holds around.layout known g c.element (operand core.vars c.x) s → Listing around.layout known g a.element (operand core.vars a.x) v ⊎ Absent a.element (operand core.vars a.x) v → Done most (meant_op program w.found.covered row.StoreIndex (v ∷ u ∷ s ∷ []) world)
    either most one v u s z low high fits held (inl it) = there most one v u s z low high fits held it
    either most one v u s z low high fits held (inr gone) = missing most v u s gone

    follow : (vs : List Meant) → Given known around g core (a ∷ b ∷ c ∷ []) vs → Follows 2 known around place p arguments (At ((ent.ops ++ (calls ∷ gets_array ∷ sets_item ∷ puts ∷ [])) ++ rest) e frames core) rest e frames core g raised (references world.heap vs) (length w.body.types) world (meant_op program w.found.covered row.StoreIndex vs world)
    follow [] given = absurd given
    follow (v ∷ []) given = absurd given.1
    follow (v ∷ u ∷ []) given = absurd given.1.1
    follow (v ∷ u ∷ s ∷ []) given =
        let y = word_held words given.1.0 in
        subst (λ l. Follows 2 known around place p arguments (At l e frames core) rest e frames core g raised (references world.heap (v ∷ u ∷ s ∷ [])) (length w.body.types) world (meant_op program w.found.covered row.StoreIndex (v ∷ u ∷ s ∷ []) world)) (sym (append_assoc ent.ops (calls ∷ gets_array ∷ sets_item ∷ puts ∷ []) rest))
        (either (references world.heap (v ∷ u ∷ s ∷ [])) (omega arith) v u s y.number y.low y.high y.fits given.1.1.0 (list_or_none of.is given.0))
    follow (v ∷ u ∷ s ∷ t ∷ vs) given = absurd given.1.1.1

  pub store_done : IsDone known around row.StoreIndex w.found.covered asks place (a ∷ b ∷ c ∷ []) w
  store_done = record {
    ops = ent.ops ++ (calls ∷ gets_array ∷ sets_item ∷ puts ∷ []);
    new = ent.new ++ (type.Signed ∷ type.Ptr (word (n + 1)) ∷ []);
    asked = ap (λ (r : Writing). r.found) is_written ∙ sym (asked_both (there_asks around a w.found.covered) (Make outside ∷ []) w.found);
    written = ap (λ (r : Writing). r.body.ops) is_written ∙ four_behind w.body.ops ent.ops calls gets_array sets_item puts;
    types = ap (λ (r : Writing). r.body.types) is_written ∙ two_behind w.body.types ent.new type.Signed (type.Ptr (word (n + 1)));
    follows = λ p numbers raised arguments rest e frames core g world vs structs has stands left room inside below given good. follow known.program p numbers raised arguments rest e frames core g world structs has stands left room inside below vs given;
  }

pub items_are_stored : ItemsAreStored
items_are_stored known around place a b c w n item of words stay gives = store_done known around place a b c w n item of words stay gives
