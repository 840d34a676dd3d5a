-- The item at an index is read.
use Rattle.std.proofs.Common.{◌≡◌, ◌<◌, ◌≤◌, ℕ, zero, suc, ◌+◌, ◌-◌, ◌^◌, ◌⊎◌, inl, inr, Bool, true, false, ◌||◌, List, [], ◌∷◌, ◌++◌, length, Option, Some, None, ℤ, pos, negsuc, refl, sym, ap, ◌∙◌, subst, arith, append_assoc, length-append}
use Rattle.std.specs.Prelude.{slice_get, nat_lt, option_and_then, if◌then◌else◌}
use Rattle.std.proofs.lemmas.Bool.Decides.{nat_tests}
use Rattle.std.proofs.lemmas.List.{length-set}
use Rattle.ann_element.specs.declared.element.Element.{Element}
use Rattle.rpy_base.specs.Word.{Fits}
use Rattle.rpy_base.specs.declared.outcome.FailName.TheVariants as fail
use Rattle.csub_tree.specs.State.{Value, Word, Core}
use Rattle.csub_tree.specs.Statement.{read, operand, operands, any_unset}
use Rattle.csub_tree.specs.declared.tree.COperand.{COperand}
use Rattle.csub_tree.specs.declared.tree.COperand.TheVariants.{Var}
use Rattle.rpy_tree.specs.Value.{Value as Meant, Word as MeantWord, Ref}
use Rattle.rpy_meaning.specs.declared.row.Covers.{Covers}
use Rattle.rpy_meaning.specs.declared.row.RowOp.TheVariants as row
use Rattle.rpy_meaning.specs.Operations.{op as meant_op}
use Rattle.rpy_meaning.specs.Sequences.{place as meant_place, item_at, index_object}
use Rattle.rpy_meaning.specs.Tree.{Program}
use Rattle.rpy_meaning.specs.World.{World, Answer, Gives, index_error, if_some, give, failure}
use Rattle.ll_code.specs.State.{Frame, State, At}
use Rattle.ll_code.specs.declared.program.LlType.{LlType}
use Rattle.ll_code.specs.declared.program.LlType.TheVariants as type
use Rattle.ll_code.specs.declared.program.LlOp.{LlOp}
use Rattle.ll_code.specs.declared.program.LlOp.TheVariants as op
use Rattle.ll_code.specs.declared.program.LlExit.{LlExit}
use Rattle.ll_code.specs.declared.program.LlProgram.{LlProgram}
use Rattle.ll_build.specs.declared.needs.Numbers.{Numbers}
use Rattle.ll_leads.proofs.Ways.{on}
use Rattle.ll_texts.specs.Texts.{found}
use Rattle.rtyper_layout.specs.declared.kind.Kind.TheVariants as kind
use Rattle.rtyper_layout.specs.Layout.{is_list}
use Rattle.rtyper_layout.specs.Types.{word, type_of as element_type}
use Rattle.rtyper_data.specs.declared.body.Body.{Body}
use Rattle.rtyper_data.specs.declared.found.Found.{Found}
use Rattle.rtyper_data.specs.declared.small.Small.{Small}
use Rattle.rtyper_data.specs.declared.small.Small.TheVariants as small
use Rattle.rtyper_data.specs.declared.small.Listed.TheVariants as listed
use Rattle.rtyper_data.specs.Converting.{by_small}
use Rattle.rtyper_data.specs.Finding.{small_number, small_from, asked}
use Rattle.rtyper_op.specs.Lowering.{never_comes}
use Rattle.rtyper_data.specs.Seen.{Around, Operand, Place, kind_of, type_of, type_at, Writing, writing}
use Rattle.list_shape.specs.declared.shape.Shape.{Shape}
use Rattle.list_shape.specs.Shapes.{item_of, shape_of, taking}
use Rattle.rtyper_list.specs.Items.{shape_in, index, placed, give_item}
use Rattle.rtyper_list.specs.Lowering.{lowered, of_some, first_of_two, lower_list_op}
use Rattle.rtyper_list.specs.Operands.{of_list_or_none, list_of, pointed, array_in, read_item}
use Rattle.lower_laws.specs.Asked.{Ask, Make, all_asked, number_of}
use Rattle.lower_laws.specs.Values.{AllBelow}
use Rattle.lower_laws.proofs.Doing.{after}
use Rattle.lower_laws.proofs.Items.{gives_same}
use Rattle.lower_laws.proofs.Single.{sets}
use Rattle.lower_laws.proofs.Stayed.{field_is}
use Rattle.list_laws.specs.Done.{IsDone}
use Rattle.list_laws.specs.Asked.{HasList, HasAll}
use Rattle.object_laws.specs.Known.{Known}
use Rattle.object_laws.specs.Done.{Follows, HasLayout, references}
use Rattle.object_laws.specs.Ghost.{Ghost, ListOf}
use Rattle.object_laws.specs.Staying.{Stays}
use Rattle.list_laws.specs.Lists.{IsList, if_missing, there_asks, ItemsAreRead}
use Rattle.object_laws.specs.Represents.{Represents, ListAt}
use Rattle.object_laws.specs.Values.{Given, Holds}
use Rattle.object_laws.proofs.Blocks.{found_set, found_there}
use Rattle.list_laws.proofs.Fetched.{fetched}
use Rattle.list_laws.proofs.Lengths.{count_fits}
use Rattle.list_laws.proofs.Lowered.{list_comes, two_come, first_of_two_is_list}
use Rattle.object_laws.proofs.Passing.{Pays, none_passed, sets_more, sets_last, is_set_at, is_kept_at, operand_kept, behind, calls_at, throws_at, fails_at}
use Rattle.list_laws.proofs.Places.{PlaceGoes, place_is}
use Rattle.list_laws.proofs.There.{Entered, entered}
use Rattle.object_laws.proofs.Valued.{Listing, Absent, list_or_none, word_held, stays_typed, stays_there, stays_held, each_long}

-- ---- what is asked for

-- which failures are covered stays
pub number_covers : (s : Small) (found : Found) → (small_number s found).1.covered ≡ found.covered
unfolding small_number
number_covers s found = by (small_from 0 found.smalls s)
  where
    by : (o : Option ℕ) → (asked s found o).1.covered ≡ found.covered
    by (Some n) = refl
    by None = refl

pub there_covers : (around : Around) (a : Operand) (found : Found) → (all_asked (there_asks around a found.covered) found).covered ≡ found.covered
there_covers around a found = by (of_list_or_none (kind_of a))
  where
    by : (c : Bool) → (all_asked (if_missing c (type_of around a) found.covered) found).covered ≡ found.covered
    by true = number_covers (small.Present (type_of around a) found.covered.attribute) found
    by false = refl

pub asked_both : (asks more : List Ask) (found : Found) → all_asked (asks ++ more) found ≡ all_asked more (all_asked asks found)
asked_both [] more found = refl
asked_both (a ∷ asks) more found = asked_both asks more (number_of a found).1

module _ (p : LlProgram) (around : Around) (numbers : Numbers) (raised : ℕ → Value) (core : Core) where
  pub has_first : (asks more : List Ask) (found : Found) → HasAll p around.layout numbers raised core (asks ++ more) found → HasAll p around.layout numbers raised core asks found
  has_first [] more found h = tt
  has_first (a ∷ asks) more found h = (h.0, has_first asks more (number_of a found).1 h.1)

  pub has_more : (asks more : List Ask) (found : Found) → HasAll p around.layout numbers raised core (asks ++ more) found → HasAll p around.layout numbers raised core more (all_asked asks found)
  has_more [] more found h = h
  has_more (a ∷ asks) more found h = has_more asks more (number_of a found).1 h.1

-- ---- lists

pub three_behind : {A : Type 0} (xs ys : List A) (a b c : A) → (((xs ++ ys) ++ a ∷ []) ++ b ∷ []) ++ c ∷ [] ≡ xs ++ (ys ++ a ∷ b ∷ c ∷ [])
three_behind xs ys a b c = append_assoc ((xs ++ ys) ++ a ∷ []) (b ∷ []) (c ∷ []) ∙ append_assoc (xs ++ ys) (a ∷ []) (b ∷ c ∷ []) ∙ append_assoc xs ys (a ∷ b ∷ c ∷ [])

pub four_behind : {A : Type 0} (xs ys : List A) (a b c d : A) → ((((xs ++ ys) ++ a ∷ []) ++ b ∷ []) ++ c ∷ []) ++ d ∷ [] ≡ xs ++ (ys ++ a ∷ b ∷ c ∷ d ∷ [])
four_behind xs ys a b c d = append_assoc (((xs ++ ys) ++ a ∷ []) ++ b ∷ []) (c ∷ []) (d ∷ []) ∙ append_assoc ((xs ++ ys) ++ a ∷ []) (b ∷ []) (c ∷ d ∷ []) ∙ append_assoc (xs ++ ys) (a ∷ []) (b ∷ c ∷ d ∷ []) ∙ append_assoc xs ys (a ∷ b ∷ c ∷ d ∷ [])

pub inside_some : {A : Type 0} (xs : List A) (k : ℕ) → k < length xs → slice_get xs k ≡ None → ⊥
inside_some [] k h e = omega (arith, h)
inside_some (x ∷ xs) zero h e = absurd (cc)
inside_some (x ∷ xs) (suc k) h e = inside_some xs k (omega (arith, h)) e

pub place_inside : (z : ℤ) (n k : ℕ) → meant_place z n ≡ Some k → k < n
place_inside (pos i) n k e = by (nat_lt i n) refl e
  where
    by : (c : Bool) → nat_lt i n ≡ c → (if c then Some i else None) ≡ Some k → k < n
    by true l q = (let same : i ≡ k = cc in let m : i < n = grind (arith, nat_tests, l) in omega (arith, same, m))
    by false l q = absurd (cc)
place_inside (negsuc i) n k e = by (nat_lt i n) refl e
  where
    by : (c : Bool) → nat_lt i n ≡ c → (if c then Some (n - suc i) else None) ≡ Some k → k < n
    by true l q = (let same : n - suc i ≡ k = cc in let m : i < n = grind (arith, nat_tests, l) in omega (arith, same, m))
    by false l q = absurd (cc)

-- ---- an index

module _ (known : Known) (around : Around) (place : Place) (a b : Operand) (w : Writing) (literal : Option ℤ) (n : ℕ) (item : Element) (of : IsList around known a.element n item) (words : kind_of b ≡ kind.Word) (stay : Stays around.layout known (Some item) place.element) where
  ent : Entered around a w
  ent = entered around a w of.is

  abbrev first : Found
  first = all_asked (there_asks around a w.found.covered) w.found

  abbrev outside : Small
  outside = small.Listed (listed.Place n w.found.covered.index)

  abbrev asks : List Ask
  asks = there_asks around a w.found.covered ++ Make outside ∷ []

  abbrev number : ℕ
  number = (small_number outside first).0

  abbrev kept_type : LlType
  kept_type = item_of around.layout (word (n + 1))

  abbrev types0 : List LlType
  types0 = w.body.types ++ ent.new

  abbrev m1 : ℕ
  m1 = length types0

  abbrev m2 : ℕ
  m2 = length (types0 ++ type.Signed ∷ [])

  abbrev m3 : ℕ
  m3 = length ((types0 ++ type.Signed ∷ []) ++ type.Ptr (word (n + 1)) ∷ [])

  abbrev calls : LlOp
  calls = op.Call (Some m1) number (Var ent.x ∷ b.x ∷ [])

  abbrev gets_array : LlOp
  gets_array = op.GetField m2 n ent.x 1

  abbrev gets_item : LlOp
  gets_item = op.GetItem m3 (word (n + 1)) m2 (Var m1)

  abbrev puts : LlOp
  puts = op.Set place.variable (Var m3)

  element_there : element_type around.layout item ≡ type.Void → ⊥
  element_there h = stays_there stay (sym (stays_typed stay) ∙ h)

  kept_is : kept_type ≡ element_type around.layout item
  kept_is = of.items ∙ field_is (element_type around.layout item) element_there

  ht : type_at around place ≡ kept_type
  ht = sym (stays_typed stay) ∙ sym kept_is

  list_is : list_of around a ≡ n
  unfolding list_of
  list_is = ap pointed of.typed

  covered : first.covered.index ≡ w.found.covered.index
  covered = ap (λ (c : Covers). c.index) (there_covers around a w.found)

  abbrev entered_writing : Writing
  entered_writing = writing first (record { types = types0; ops = w.body.ops ++ ent.ops })

  abbrev item_from : Shape → COperand × Writing → Writing
  item_from s made = taking made (λ at last. give_item around place s last.found (read_item s ent.x at last.body))

  abbrev found_last : Found
  found_last = (small_number outside first).1

  abbrev last_body : Body
  last_body = record { types = ((types0 ++ type.Signed ∷ []) ++ type.Ptr (word (n + 1)) ∷ []) ++ kept_type ∷ []; ops = (((w.body.ops ++ ent.ops) ++ calls ∷ []) ++ gets_array ∷ []) ++ gets_item ∷ [] }

  is_written : lower_list_op around (row.Index literal) place (a ∷ b ∷ []) w ≡ writing found_last (record last_body { ops = last_body.ops ++ puts ∷ [] })
  unfolding lowered of_some first_of_two index placed by_small read_item array_in
  is_written =
      two_come around (row.Index literal) place a b w (list_comes a of.is) (ap never_comes words)
      ∙ first_of_two_is_list around (row.Index literal) place a b w of.is
      ∙ ap (λ made. taking made (λ x next. taking (placed (list_of around a) x b.x next) (λ at last. give_item around place (shape_in around a) last.found (read_item (shape_in around a) x at last.body)))) ent.written
      ∙ ap (λ l. item_from (shape_of around.layout l) (placed l ent.x b.x entered_writing)) list_is
      ∙ ap (λ c. item_from (shape_of around.layout n) (by_small (small.Listed (listed.Place n c)) type.Signed (Var ent.x ∷ b.x ∷ []) entered_writing)) covered
      ∙ gives_same around place (Var m3) kept_type (writing found_last last_body) (λ h. element_there (sym kept_is ∙ h)) ht

  -- ---- once the list is in its variable

  module _ (p : LlProgram) (raised : ℕ → Value) (arguments : List (List ℕ)) (rest : List LlOp) (e : LlExit) (frames : List Frame) (core : Core) (g : Ghost) (most : ℕ) (world : World)
      (structs : HasLayout p around.layout) (has : HasList p around.layout raised (listed.Place n w.found.covered.index) number)
      (stands : Represents around.layout known g world.heap world.left core.blocks core.statics) (left : world.left ≡ core.steps)
      (room : m1 + 3 ≤ length core.vars) (inside : place.variable < length w.body.types) (before : ent.x < m1)
      (head : Value) (z : ℤ) (at : read core.vars ent.x ≡ head) (index_at : operand core.vars b.x ≡ Word z) (i : ℕ) (struct : is_list around.layout n ≡ true) (home : slice_get g.homes i ≡ Some (record { sort = ListOf n; head = head })) where
    abbrev There : State
    There = At (calls ∷ gets_array ∷ gets_item ∷ puts ∷ rest) e frames core

    here : ListAt around.layout known g world.heap world.left core.blocks core.statics n i head
    here = stands.lists n i head home struct

    abbrev count : ℕ
    count = length here.items

    few : count < 2 ^ 63
    few = count_fits here.values here.spare here.items here.long (each_long here.each)

    same : operands core.vars (Var ent.x ∷ b.x ∷ []) ≡ head ∷ Word z ∷ []
    same = ap (λ y. y ∷ operand core.vars b.x ∷ []) at ∙ ap (λ y. head ∷ y ∷ []) index_at

    set : any_unset (head ∷ Word z ∷ []) ≡ false
    set = ap (λ c. c || (false || false)) (found_set core.blocks core.statics head _ here.head_is)

    m2_is : m2 ≡ m1 + 1
    m2_is = length-append types0 (type.Signed ∷ [])

    m3_is : m3 ≡ m1 + 2
    m3_is = length-append (types0 ++ type.Signed ∷ []) (type.Ptr (word (n + 1)) ∷ []) ∙ ap (λ k. k + 1) m2_is ∙ (let q : m1 + 1 + 1 ≡ m1 + 2 = omega arith in q)

    types_before : length w.body.types ≤ m1
    types_before = (let l : m1 ≡ length w.body.types + length ent.new = length-append w.body.types ent.new in omega (arith, l))

    gives_item : (k : ℕ) (v : Meant) → slice_get here.items k ≡ Some v → PlaceGoes p around.layout arguments raised n number core head here.array count (structs.heads n struct) here.head_is few w.found.covered.index z (Some k)
        → Follows 2 known around place p arguments There rest e frames core g raised most (length w.body.types) world (Gives v world)
    gives_item k v found_item comes =
        let core1 : Core = after core m1 (Word (pos k)) in
        let long : length core1.vars ≡ length core.vars = length-set core.vars m1 (Word (pos k)) in
        let head_at : read core1.vars ent.x ≡ head = is_kept_at core m1 ent.x (Word (pos k)) (λ q. omega (arith, before, q)) ∙ at in
        let it = fetched structs struct stands here ent.x m2 m3 (Var m1) k v head_at (is_set_at core m1 (Word (pos k)) (omega (arith, room))) (omega (arith, m2_is)) (omega (arith, m2_is, m3_is)) (omega (arith, room, long, m3_is)) found_item in
        let held : Holds around.layout known g (Some item) it.value v = subst (λ seen. Holds around.layout known g seen it.value v) of.item_is it.held in
        sets_last most (length w.body.types) (after (after core1 m2 here.array) m3 it.value) it.value v stands left
        (sets_more m3 it.value (omega (arith, types_before, m3_is)) (sets_more m2 here.array (omega (arith, types_before, m2_is)) (sets_more m1 (Word (pos k)) types_before none_passed))) (omega (arith, inside, types_before, room))
        (on (calls_at same set comes) (on it.way (sets it.value it.is it.set))) (stays_held stay held)

    outside_of : (c : Bool) → PlaceGoes p around.layout arguments raised n number core head here.array count (structs.heads n struct) here.head_is few c z None
        → Follows 2 known around place p arguments There rest e frames core g raised most (length w.body.types) world (failure c 6 fail.Index world)
    outside_of true flies = throws_at same set (gets_array ∷ gets_item ∷ puts ∷ []) rest flies
    outside_of false ends = fails_at same set (gets_array ∷ gets_item ∷ puts ∷ rest) ends

    chosen : (o : Option ℕ) → meant_place z count ≡ o → PlaceGoes p around.layout arguments raised n number core head here.array count (structs.heads n struct) here.head_is few w.found.covered.index z o
        → Follows 2 known around place p arguments There rest e frames core g raised most (length w.body.types) world (if_some (index_error w.found.covered) (option_and_then (slice_get here.items) o) give world)
    chosen None q goes = outside_of w.found.covered.index goes
    chosen (Some k) q goes = by (slice_get here.items k) refl
      where
        by : (o : Option Meant) → slice_get here.items k ≡ o → Follows 2 known around place p arguments There rest e frames core g raised most (length w.body.types) world (if_some (index_error w.found.covered) o give world)
        by None none = absurd (inside_some here.items k (place_inside z count k q) none)
        by (Some v) some = gives_item k v some goes

    reads : Fits z → Follows 2 known around place p arguments There rest e frames core g raised most (length w.body.types) world (if_some (index_error w.found.covered) (item_at z here.items) give world)
    reads fits = chosen (meant_place z count) refl (place_is p around.layout arguments raised n number core head here.array count (structs.heads n struct) here.head_is few w.found.covered.index z has fits)

    pays_items : (o : Option Meant) → Pays (if_some (index_error w.found.covered) o give world)
    pays_items (Some v) = tt
    pays_items None = by w.found.covered.index
      where
        by : (c : Bool) → Pays (failure c 6 fail.Index world)
        by true = tt
        by false = tt

  -- ---- the whole

  module _ (program : Program) (p : LlProgram) (numbers : Numbers) (raised : ℕ → Value) (arguments : List (List ℕ)) (rest : List LlOp) (e : LlExit) (frames : List Frame) (core : Core) (g : Ghost) (world : World)
      (structs : HasLayout p around.layout) (has : HasAll p around.layout numbers raised core asks w.found)
      (stands : Represents around.layout known g world.heap world.left core.blocks core.statics) (left : world.left ≡ core.steps)
      (room : length w.body.types + length (ent.new ++ type.Signed ∷ type.Ptr (word (n + 1)) ∷ kept_type ∷ []) ≤ length core.vars) (inside : place.variable < length w.body.types)
      (below : AllBelow (length w.body.types) (a ∷ b ∷ [])) where
    abbrev Here : State
    Here = At (ent.ops ++ (calls ∷ gets_array ∷ gets_item ∷ puts ∷ rest)) e frames core

    abbrev Done : ℕ → Answer → Type 0
    Done most answer = Follows 2 known around place p arguments Here rest e frames core g raised most (length w.body.types) world answer

    has_there : HasAll p around.layout numbers raised core (there_asks around a w.found.covered) w.found
    has_there = has_first p around numbers raised core (there_asks around a w.found.covered) (Make outside ∷ []) w.found has

    has_place : HasList p around.layout raised (listed.Place n w.found.covered.index) number
    has_place = (has_more p around numbers raised core (there_asks around a w.found.covered) (Make outside ∷ []) w.found has).0

    long : length (ent.new ++ type.Signed ∷ type.Ptr (word (n + 1)) ∷ kept_type ∷ []) ≡ length ent.new + 3
    long = length-append ent.new (type.Signed ∷ type.Ptr (word (n + 1)) ∷ kept_type ∷ [])

    m1_is : m1 ≡ length w.body.types + length ent.new
    m1_is = length-append w.body.types ent.new

    there : (most : ℕ) (v u : Meant) → (z : ℤ) → operand core.vars b.x ≡ Word z → u ≡ MeantWord z → Fits z → Listing around.layout known g a.element (operand core.vars a.x) v → Done most (meant_op program w.found.covered (row.Index literal) (v ∷ u ∷ []) world)
    there most v u z low high fits it =
        let x : Value = operand core.vars a.x in
        let number_is : it.n ≡ n = ap pointed (sym it.typed ∙ of.typed) in
        let struct : is_list around.layout n ≡ true = subst (λ k. is_list around.layout k ≡ true) number_is it.struct in
        let home : slice_get g.homes it.i ≡ Some (record { sort = ListOf n; head = x }) = subst (λ k. slice_get g.homes it.i ≡ Some (record { sort = ListOf k; head = x })) number_is it.home in
        let l = stands.lists n it.i x home struct in
        let went = ent.enters p numbers raised arguments (calls ∷ gets_array ∷ gets_item ∷ puts ∷ rest) e frames core has_there (omega (arith, room, long)) (found_set core.blocks core.statics x _ l.head_is) (found_there core.blocks core.statics x _ l.head_is) in
        let mid : Core = went.mid in
        let stands_mid : Represents around.layout known g world.heap world.left mid.blocks mid.statics = subst (λ (c : Core). Represents around.layout known g world.heap world.left c.blocks c.statics) (sym went.passed.memory) stands in
        let left_mid : world.left ≡ mid.steps = left ∙ sym (ap (λ (c : Core). c.steps) went.passed.memory) in
        let wide : m1 + 3 ≤ length mid.vars = (let r = went.passed.room in omega (arith, room, long, m1_is, r)) in
        let before : ent.x < m1 = (let i = ent.inside below.0 in omega (arith, i, m1_is)) in
        let index_mid : operand mid.vars b.x ≡ Word z = operand_kept went.passed b.x below.1.0 ∙ low in
        let mid_here = here p raised arguments rest e frames mid g most world structs has_place stands_mid left_mid wide inside before x z went.is index_mid it.i struct home in
        let above : meant_op program w.found.covered (row.Index literal) (v ∷ u ∷ []) world ≡ if_some (index_error w.found.covered) (item_at z mid_here.items) give world =
        ap (λ v. meant_op program w.found.covered (row.Index literal) (v ∷ u ∷ []) world) it.high ∙ ap (λ u. meant_op program w.found.covered (row.Index literal) (Ref it.i ∷ u ∷ []) world) high ∙ ap (λ o. index_object w.found.covered (MeantWord z) o world) mid_here.object in
        subst (Done most) (sym above)
        (behind 2 known around place p arguments rest e frames core g raised most (length w.body.types) world went.passed went.way (if_some (index_error w.found.covered) (item_at z mid_here.items) give world)
        (pays_items p raised arguments rest e frames mid g most world structs has_place stands_mid left_mid wide inside before x z went.is index_mid it.i struct home (item_at z mid_here.items))
        (reads p raised arguments rest e frames mid g most world structs has_place stands_mid left_mid wide inside before x z went.is index_mid it.i struct home fits))

    missing : (most : ℕ) (v u : Meant) → Absent a.element (operand core.vars a.x) v → Done most (meant_op program w.found.covered (row.Index literal) (v ∷ u ∷ []) world)
    missing most v u gone = subst (λ v. Done most (meant_op program w.found.covered (row.Index literal) (v ∷ u ∷ []) world)) (sym gone.high)
        (ent.misses known place p numbers raised arguments (calls ∷ gets_array ∷ gets_item ∷ puts ∷ []) rest e frames core g most world has_there gone.may gone.low)

    either : (most : ℕ) (v u : Meant) → (z : ℤ) → operand core.vars b.x ≡ Word z → u ≡ MeantWord z → Fits z → Listing around.layout known g a.element (operand core.vars a.x) v ⊎ Absent a.element (operand core.vars a.x) v → Done most (meant_op program w.found.covered (row.Index literal) (v ∷ u ∷ []) world)
    either most v u z low high fits (inl it) = there most v u z low high fits it
    either most v u z low high fits (inr gone) = missing most v u gone

    follow : (vs : List Meant) → Given known around g core (a ∷ b ∷ []) vs → Follows 2 known around place p arguments (At ((ent.ops ++ (calls ∷ gets_array ∷ gets_item ∷ puts ∷ [])) ++ rest) e frames core) rest e frames core g raised (references world.heap vs) (length w.body.types) world (meant_op program w.found.covered (row.Index literal) vs world)
    follow [] given = absurd given
    follow (v ∷ []) given = absurd given.1
    follow (v ∷ u ∷ []) given =
        let y = word_held words given.1.0 in
        subst (λ l. Follows 2 known around place p arguments (At l e frames core) rest e frames core g raised (references world.heap (v ∷ u ∷ [])) (length w.body.types) world (meant_op program w.found.covered (row.Index literal) (v ∷ u ∷ []) world)) (sym (append_assoc ent.ops (calls ∷ gets_array ∷ gets_item ∷ puts ∷ []) rest))
        (either (references world.heap (v ∷ u ∷ [])) v u y.number y.low y.high y.fits (list_or_none of.is given.0))
    follow (v ∷ u ∷ s ∷ vs) given = absurd given.1.1

  pub index_done : IsDone known around (row.Index literal) w.found.covered asks place (a ∷ b ∷ []) w
  index_done = record {
    ops = ent.ops ++ (calls ∷ gets_array ∷ gets_item ∷ puts ∷ []);
    new = ent.new ++ (type.Signed ∷ type.Ptr (word (n + 1)) ∷ kept_type ∷ []);
    asked = ap (λ (r : Writing). r.found) is_written ∙ sym (asked_both (there_asks around a w.found.covered) (Make outside ∷ []) w.found);
    written = ap (λ (r : Writing). r.body.ops) is_written ∙ four_behind w.body.ops ent.ops calls gets_array gets_item puts;
    types = ap (λ (r : Writing). r.body.types) is_written ∙ three_behind w.body.types ent.new type.Signed (type.Ptr (word (n + 1))) kept_type;
    follows = λ p numbers raised arguments rest e frames core g world vs structs has stands left room inside below given good. follow known.program p numbers raised arguments rest e frames core g world structs has stands left room inside below vs given;
  }

pub items_are_read : ItemsAreRead
items_are_read known around place a b w literal n item of words stay = index_done known around place a b w literal n item of words stay
