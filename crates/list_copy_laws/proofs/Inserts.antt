-- An item is inserted by the method of lists.
use Rattle.std.proofs.Common.{◌≡◌, ◌<◌, ◌≤◌, ℕ, ◌+◌, ◌-◌, ◌⊎◌, inl, inr, min, Bool, true, false, ◌||◌, List, [], ◌∷◌, ◌++◌, length, Option, Some, None, ℤ, pos, negsuc, refl, sym, ap, ◌∙◌, subst, arith, append_assoc}
use Rattle.std.specs.Prelude.{slice_get, slice_set, insert, nat_lt, if◌then◌else◌, codes}
use Rattle.ann_element.specs.declared.element.Element.{Element}
use Rattle.rpy_base.specs.declared.outcome.FailName.TheVariants as fail
use Rattle.csub_tree.specs.State.{Value, Word, Flag, Core}
use Rattle.csub_tree.specs.Statement.{operand, operands, any_unset}
use Rattle.csub_tree.specs.Operation.{is_unset}
use Rattle.csub_tree.specs.declared.tree.COperand.{COperand}
use Rattle.rpy_tree.specs.Value.{Value as Meant, Word as MeantWord, Nothing, Ref, Listed}
use Rattle.rpy_meaning.specs.declared.row.RowOp.{RowOp}
use Rattle.rpy_meaning.specs.declared.row.RowOp.TheVariants as row
use Rattle.rpy_meaning.specs.Operations.{op as meant_op, object_method}
use Rattle.rpy_meaning.specs.World.{World, Answer, Gives, Fails, Lacks}
use Rattle.ll_code.specs.State.{Frame, Calling, At}
use Rattle.ll_code.specs.declared.program.LlType.{LlType}
use Rattle.ll_code.specs.declared.program.LlType.TheVariants as type
use Rattle.ll_code.specs.declared.program.LlOp.{LlOp}
use Rattle.ll_code.specs.declared.program.LlOp.TheVariants as op
use Rattle.ll_code.specs.declared.program.LlExit.{LlExit}
use Rattle.ll_code.specs.declared.program.LlProgram.{LlProgram}
use Rattle.ll_build.specs.declared.needs.Numbers.{Numbers}
use Rattle.ll_texts.specs.Follows.{FailedAs}
use Rattle.rtyper_layout.specs.declared.kind.Kind.TheVariants as kind
use Rattle.rtyper_layout.specs.Kinds.{kind_seen}
use Rattle.rtyper_layout.specs.Layout.{is_list}
use Rattle.rtyper_layout.specs.Types.{word, type_of as element_type}
use Rattle.rtyper_data.specs.declared.found.Found.{Found}
use Rattle.rtyper_data.specs.declared.small.Small.{Small}
use Rattle.rtyper_data.specs.declared.small.Small.TheVariants as small
use Rattle.rtyper_data.specs.declared.small.Listed.TheVariants as listed
use Rattle.rtyper_data.specs.Converting.{given, default_operand, nothing_to}
use Rattle.rtyper_data.specs.Finding.{small_number}
use Rattle.rtyper_op.specs.Lowering.{lower_op, never_comes}
use Rattle.rtyper_op.specs.Placing.{says_nothing}
use Rattle.rtyper_data.specs.Seen.{Around, Operand, Place, kind_of, type_of, Writing, writing}
use Rattle.list_shape.specs.Shapes.{item_of, taking}
use Rattle.rtyper_list.specs.Lowering.{lowered, method_of, method_of_list, lower_list_op}
use Rattle.rtyper_list.specs.Methods.{insert as inserts, item_given, method, of_three}
use Rattle.rtyper_list.specs.Operands.{list_of, pointed, done_by}
use Rattle.lower_laws.specs.Asked.{Ask, Make, all_asked}
use Rattle.lower_laws.specs.Values.{AllBelow}
use Rattle.lower_laws.proofs.Stayed.{field_is}
use Rattle.lower_laws.proofs.Tupled.{given_same}
use Rattle.lower_laws.proofs.Typing.{place_of_none}
use Rattle.list_laws.specs.Asked.{HasInsert, HasAll}
use Rattle.list_laws.specs.Lists.{IsList, there_asks}
use Rattle.list_laws.proofs.Indexed.{asked_both, has_first, has_more}
use Rattle.list_laws.proofs.Lowered.{list_comes, three_come}
use Rattle.list_laws.proofs.Walked.{two_behind}
use Rattle.object_laws.specs.Known.{Known}
use Rattle.object_laws.specs.Done.{Follows, HasLayout, items_in}
use Rattle.object_laws.specs.Ghost.{Ghost, ListOf}
use Rattle.object_laws.specs.Staying.{Stays}
use Rattle.object_laws.specs.Represents.{Represents, ListAt}
use Rattle.object_laws.specs.Values.{Given, Holds, Alone}
use Rattle.object_laws.proofs.Blocks.{found_set, found_there}
use Rattle.object_laws.proofs.Passing.{operand_kept}
use Rattle.object_laws.proofs.Valued.{Listing, Absent, list_or_none, word_held, held_set, stays_comes, stays_typed, stays_there, stays_held}
use Rattle.list_copy_laws.specs.Done.{IsDoneWithin, references_moved}
use Rattle.list_copy_laws.specs.Inserted.{ItemsAreInserted}
use Rattle.list_copy_laws.proofs.Called.{call_fails, call_lacks, nothing_given}
use Rattle.list_copy_laws.proofs.Inserting.{inserted, insert_lacks, insert_fails}
use Rattle.list_copy_laws.proofs.Ready.{Went, from_there, Ready, ready}
use Rattle.list_copy_laws.proofs.Tests.{is_less, not_less}

-- what an insertion answers
abbrev after_insert : World → ℕ → List Meant → ℤ → Meant → Answer
after_insert w i items (pos at) v = if nat_lt w.left 1 then Lacks else Gives Nothing (record w { heap = slice_set w.heap i (Listed (insert items (min at (length items)) v)); left = w.left - 1 })
after_insert w i items (negsuc z) v = Fails fail.NegativeSlice

-- ---- the call, and `None` for the place

module _ (known : Known) (around : Around) (place : Place) (p : LlProgram) (raised : ℕ → Value) (arguments : List (List ℕ)) (rest : List LlOp) (e : LlExit) (frames : List Frame) (core : Core) (g : Ghost) (most below : ℕ) (world : World)
    (structs : HasLayout p around.layout) (n f : ℕ) (struct : is_list around.layout n ≡ true) (has : HasInsert p around.layout raised n f)
    (stands : Represents around.layout known g world.heap world.left core.blocks core.statics) (left : world.left ≡ core.steps) (inside : place.variable < length core.vars) (nothing : kind_seen place.element ≡ kind.Nothing)
    (x y u : COperand) (head value : Value) (z : ℤ) (v : Meant) (x_is : operand core.vars x ≡ head) (y_is : operand core.vars y ≡ Word z) (u_is : operand core.vars u ≡ value) (i : ℕ) (home : slice_get g.homes i ≡ Some (record { sort = ListOf n; head = head })) (held : Holds around.layout known g (known.items n) value v) where
  abbrev here : ListAt around.layout known g world.heap world.left core.blocks core.statics n i head
  here = stands.lists n i head home struct

  abbrev values : List Value
  values = head ∷ Word z ∷ value ∷ []

  abbrev Answered : Answer → Type 0
  Answered answer = Follows 2 known around place p arguments (At (op.Call None f (x ∷ y ∷ u ∷ []) ∷ op.Set place.variable (default_operand type.Bool) ∷ rest) e frames core) rest e frames core g raised most below world answer

  same : operands core.vars (x ∷ y ∷ u ∷ []) ≡ values
  same = ap (λ q. q ∷ operand core.vars y ∷ operand core.vars u ∷ []) x_is ∙ ap (λ q. head ∷ q ∷ operand core.vars u ∷ []) y_is ∙ ap (λ q. head ∷ Word z ∷ q ∷ []) u_is

  set : any_unset values ≡ false
  set = ap (λ b. b || (false || (is_unset value || false))) (found_set core.blocks core.statics head _ here.head_is) ∙ ap (λ b. b || false) (held_set stands held)

  does : length here.items + (length here.items + 3) ≤ most → (at : ℤ) → z ≡ at → Answered (after_insert world i here.items at v)
  does many (negsuc k) is = call_fails same set (op.Set place.variable (default_operand type.Bool) ∷ rest) (λ waits. subst (λ q. FailedAs p arguments (Calling f (head ∷ Word q ∷ value ∷ []) waits core) fail.NegativeSlice) (sym is)
      (insert_fails p arguments around.layout known raised structs n struct f has g world.heap world.left core stands left i head home here value v held k waits))
  does many (pos at) is = by (nat_lt world.left 1) refl
    where
      same_at : operands core.vars (x ∷ y ∷ u ∷ []) ≡ head ∷ Word (pos at) ∷ value ∷ []
      same_at = same ∙ ap (λ q. head ∷ Word q ∷ value ∷ []) is

      set_at : any_unset (head ∷ Word (pos at) ∷ value ∷ []) ≡ false
      set_at = ap (λ b. b || (false || (is_unset value || false))) (found_set core.blocks core.statics head _ here.head_is) ∙ ap (λ b. b || false) (held_set stands held)

      by : (c : Bool) → nat_lt world.left 1 ≡ c → Answered (if c then Lacks else Gives Nothing (record world { heap = slice_set world.heap i (Listed (insert here.items (min at (length here.items)) v)); left = world.left - 1 }))
      by true h = call_lacks same_at set_at (op.Set place.variable (default_operand type.Bool) ∷ rest) (insert_lacks p arguments around.layout known raised structs n struct f has g world.heap world.left core stands left i head home here value v held at (is_less world.left 1 h))
      by false h =
          let it = inserted p arguments around.layout known raised structs n struct f has g world.heap world.left core stands left i head home here value v held at (not_less world.left 1 h) in
          nothing_given known around place p arguments rest e frames core g it.ghost below world (slice_set world.heap i (Listed (insert here.items (min at (length here.items)) v))) (world.left - 1) it.blocks it.statics
          (length here.items + (length here.items + 3)) most (Flag false) Nothing many same_at set_at inside it.grown it.stands (let q = it.few in omega (arith, q)) it.returns refl refl (Alone nothing refl refl)

-- ---- the operation

module _ (site : Option ℕ) (known : Known) (around : Around) (place : Place) (a b c : Operand) (w : Writing) (n : ℕ) (item : Element) (of : IsList around known a.element n item) (words : kind_of b ≡ kind.Word) (stay : Stays around.layout known c.element (Some item)) (nothing : kind_seen place.element ≡ kind.Nothing) where
  abbrev o : RowOp
  o = row.Method (codes "insert") site

  it : Ready around a w
  it = ready around a w of.is

  abbrev puts_in : Small
  puts_in = small.Listed (listed.Insert n)

  abbrev first : Found
  first = all_asked (there_asks around a w.found.covered) w.found

  abbrev asks : List Ask
  asks = there_asks around a w.found.covered ++ Make puts_in ∷ []

  abbrev number : ℕ
  number = (small_number puts_in first).0

  abbrev calls : LlOp
  calls = op.Call None number (it.x ∷ b.x ∷ c.x ∷ [])

  abbrev puts : LlOp
  puts = op.Set place.variable (default_operand type.Bool)

  abbrev kept_type : LlType
  kept_type = item_of around.layout (word (n + 1))

  element_there : element_type around.layout item ≡ type.Void → ⊥
  element_there h = stays_there stay h

  typed : type_of around c ≡ kept_type
  typed = stays_typed stay ∙ sym (of.items ∙ field_is (element_type around.layout item) element_there)

  list_is : list_of around a ≡ n
  unfolding list_of
  list_is = ap pointed of.typed

  abbrev entered : Writing
  entered = writing first (record { types = w.body.types ++ it.new; ops = w.body.ops ++ it.ops })

  abbrev insert_from : ℕ → COperand × Writing → Writing
  insert_from k made = taking made (λ x next. taking (given around c (item_of around.layout (word (k + 1))) next) (λ y last. says_nothing around place (done_by (listed.Insert k) (x ∷ b.x ∷ y ∷ []) last)))

  is_written : lower_list_op around o place (a ∷ b ∷ c ∷ []) w ≡ writing (small_number puts_in first).1 (record { types = w.body.types ++ it.new; ops = ((w.body.ops ++ it.ops) ++ calls ∷ []) ++ puts ∷ [] })
  unfolding lowered method_of method_of_list method of_three inserts item_given done_by
  is_written =
      three_come around o place a b c w (list_comes a of.is) (ap never_comes words) (stays_comes stay)
      ∙ ap (λ t. if t then inserts around place a b.x c w else lower_op around o place (a ∷ b ∷ c ∷ []) w) of.is
      ∙ ap (insert_from (list_of around a)) it.written
      ∙ ap (λ k. insert_from k (it.x, entered)) list_is
      ∙ ap (λ made. taking made (λ y last. says_nothing around place (done_by (listed.Insert n) (it.x ∷ b.x ∷ y ∷ []) last))) (given_same around c kept_type entered typed)
      ∙ ap (λ t. writing (small_number puts_in first).1 (nothing_to place t (record { types = w.body.types ++ it.new; ops = (w.body.ops ++ it.ops) ++ calls ∷ [] }))) (place_of_none around.layout place.element nothing)

  module _ (p : LlProgram) (numbers : Numbers) (raised : ℕ → Value) (arguments : List (List ℕ)) (rest : List LlOp) (e : LlExit) (frames : List Frame) (core : Core) (g : Ghost) (world : World)
      (structs : HasLayout p around.layout) (has : HasAll p around.layout numbers raised core asks w.found)
      (stands : Represents around.layout known g world.heap world.left core.blocks core.statics) (left : world.left ≡ core.steps)
      (room : length w.body.types + length it.new ≤ length core.vars) (inside : place.variable < length w.body.types) (below : AllBelow (length w.body.types) (a ∷ b ∷ c ∷ [])) where
    abbrev Done : List Meant → Type 0
    Done vs = Follows 2 known around place p arguments (At (it.ops ++ (calls ∷ puts ∷ rest)) e frames core) rest e frames core g raised (references_moved world vs) (length w.body.types) world (meant_op known.program w.found.covered o vs world)

    has_there : HasAll p around.layout numbers raised core (there_asks around a w.found.covered) w.found
    has_there = has_first p around numbers raised core (there_asks around a w.found.covered) (Make puts_in ∷ []) w.found has

    has_graph : HasInsert p around.layout raised n number
    has_graph = (has_more p around numbers raised core (there_asks around a w.found.covered) (Make puts_in ∷ []) w.found has).0

    module _ (v u s : Meant) (z : ℤ) (low : operand core.vars b.x ≡ Word z) (high : u ≡ MeantWord z) (held : Holds around.layout known g c.element (operand core.vars c.x) s) (found_list : Listing around.layout known g a.element (operand core.vars a.x) v) where
      number_is : found_list.n ≡ n
      number_is = ap pointed (sym found_list.typed ∙ of.typed)

      struct : is_list around.layout n ≡ true
      struct = subst (λ k. is_list around.layout k ≡ true) number_is found_list.struct

      home : slice_get g.homes found_list.i ≡ Some (record { sort = ListOf n; head = operand core.vars a.x })
      home = subst (λ k. slice_get g.homes found_list.i ≡ Some (record { sort = ListOf k; head = operand core.vars a.x })) number_is found_list.home

      l : ListAt around.layout known g world.heap world.left core.blocks core.statics n found_list.i (operand core.vars a.x)
      l = stands.lists n found_list.i (operand core.vars a.x) home struct

      went : Went p arguments (At (it.ops ++ (calls ∷ puts ∷ rest)) e frames core) (calls ∷ puts ∷ rest) e frames core (length w.body.types) it.x (operand core.vars a.x)
      went = it.enters p numbers raised arguments (calls ∷ puts ∷ rest) e frames core core has_there room (found_set core.blocks core.statics (operand core.vars a.x) _ l.head_is) (found_there core.blocks core.statics (operand core.vars a.x) _ l.head_is)

      abbrev mid : Core
      mid = went.mid

      stands_mid : Represents around.layout known g world.heap world.left mid.blocks mid.statics
      stands_mid = subst (λ (c : Core). Represents around.layout known g world.heap world.left c.blocks c.statics) (sym went.passed.memory) stands

      left_mid : world.left ≡ mid.steps
      left_mid = left ∙ sym (ap (λ (c : Core). c.steps) went.passed.memory)

      mid_here : ListAt around.layout known g world.heap world.left mid.blocks mid.statics n found_list.i (operand core.vars a.x)
      mid_here = stands_mid.lists n found_list.i (operand core.vars a.x) home struct

      in_place : Holds around.layout known g (known.items n) (operand core.vars c.x) s
      in_place = subst (λ seen. Holds around.layout known g seen (operand core.vars c.x) s) (sym of.item_is) (stays_held stay held)

      many : length mid_here.items + (length mid_here.items + 3) ≤ references_moved world (Ref found_list.i ∷ u ∷ s ∷ [])
      many = (let k : items_in (slice_get world.heap found_list.i) ≡ length mid_here.items = ap items_in mid_here.object in omega (arith, k))

      above : meant_op known.program w.found.covered o (Ref found_list.i ∷ MeantWord z ∷ s ∷ []) world ≡ after_insert world found_list.i mid_here.items z s
      above = ap (λ object. object_method known.program w.found.covered (codes "insert") found_list.i (MeantWord z ∷ s ∷ []) object world) mid_here.object ∙ by z
        where
          by : (z : ℤ) → object_method known.program w.found.covered (codes "insert") found_list.i (MeantWord z ∷ s ∷ []) (Some (Listed mid_here.items)) world ≡ after_insert world found_list.i mid_here.items z s
          by (pos at) = refl
          by (negsuc at) = refl

      there : Done (v ∷ u ∷ s ∷ [])
      unfolding stands_mid mid_here
      there =
          subst (λ v. Done (v ∷ u ∷ s ∷ [])) (sym found_list.high)
          (subst (λ answer. Follows 2 known around place p arguments (At (it.ops ++ (calls ∷ puts ∷ rest)) e frames core) rest e frames core g raised (references_moved world (Ref found_list.i ∷ u ∷ s ∷ [])) (length w.body.types) world answer) (sym (ap (λ u. meant_op known.program w.found.covered o (Ref found_list.i ∷ u ∷ s ∷ []) world) high ∙ above))
          (from_there 2 known around place p arguments rest e frames core g raised (references_moved world (Ref found_list.i ∷ u ∷ s ∷ [])) (length w.body.types) world (omega arith) went (after_insert world found_list.i mid_here.items z s)
          (does known around place p raised arguments rest e frames mid g (references_moved world (Ref found_list.i ∷ u ∷ s ∷ [])) (length w.body.types) world structs n number struct has_graph stands_mid left_mid (let q = went.passed.room in omega (arith, room, inside, q)) nothing
          it.x b.x c.x (operand core.vars a.x) (operand core.vars c.x) z s went.is (operand_kept went.passed b.x below.1.0 ∙ low) (operand_kept went.passed c.x below.1.1.0) found_list.i home in_place many z refl)))

    missing : (v u s : Meant) → Absent a.element (operand core.vars a.x) v → Done (v ∷ u ∷ s ∷ [])
    missing v u s gone = subst (λ v. Done (v ∷ u ∷ s ∷ [])) (sym gone.high)
        (it.misses 2 known place p numbers raised arguments (calls ∷ puts ∷ []) rest e frames core core g (references_moved world (Nothing ∷ u ∷ s ∷ [])) (length w.body.types) world has_there gone.may gone.low)

    either : (v u s : Meant) → (z : ℤ) → operand core.vars b.x ≡ Word z → u ≡ MeantWord z → Holds around.layout known g c.element (operand core.vars c.x) s → Listing around.layout known g a.element (operand core.vars a.x) v ⊎ Absent a.element (operand core.vars a.x) v → Done (v ∷ u ∷ s ∷ [])
    either v u s z low high held (inl is) = there v u s z low high held is
    either v u s z low high held (inr gone) = missing v u s gone

    follow : (vs : List Meant) → Given known around g core (a ∷ b ∷ c ∷ []) vs → Follows 2 known around place p arguments (At ((it.ops ++ (calls ∷ puts ∷ [])) ++ rest) e frames core) rest e frames core g raised (references_moved world vs) (length w.body.types) world (meant_op known.program w.found.covered o vs world)
    follow [] given = absurd given
    follow (v ∷ []) given = absurd given.1
    follow (v ∷ u ∷ []) given = absurd given.1.1
    follow (v ∷ u ∷ s ∷ []) given =
        let word_is = word_held words given.1.0 in
        subst (λ l. Follows 2 known around place p arguments (At l e frames core) rest e frames core g raised (references_moved world (v ∷ u ∷ s ∷ [])) (length w.body.types) world (meant_op known.program w.found.covered o (v ∷ u ∷ s ∷ []) world)) (sym (append_assoc it.ops (calls ∷ puts ∷ []) rest))
        (either v u s word_is.number word_is.low word_is.high given.1.1.0 (list_or_none of.is given.0))
    follow (v ∷ u ∷ s ∷ t ∷ vs) given = absurd given.1.1.1

  insert_done : IsDoneWithin references_moved known around o w.found.covered asks place (a ∷ b ∷ c ∷ []) w
  insert_done = record {
    ops = it.ops ++ (calls ∷ puts ∷ []);
    new = it.new;
    asked = ap (λ (r : Writing). r.found) is_written ∙ sym (asked_both (there_asks around a w.found.covered) (Make puts_in ∷ []) w.found);
    written = ap (λ (r : Writing). r.body.ops) is_written ∙ two_behind w.body.ops it.ops calls puts;
    types = ap (λ (r : Writing). r.body.types) is_written;
    follows = λ p numbers raised arguments rest e frames core g world vs structs has stands left room inside below given. follow p numbers raised arguments rest e frames core g world structs has stands left room inside below vs given;
  }

pub items_are_inserted : ItemsAreInserted
items_are_inserted site known around place a b c w n item of words stay nothing = insert_done site known around place a b c w n item of words stay nothing
