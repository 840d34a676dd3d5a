-- Walks over lists: whether they go on, and the item that they have come to.
use Rattle.std.proofs.Common.{◌≡◌, ◌<◌, ◌≤◌, ℕ, ◌+◌, ◌⊎◌, inl, inr, Bool, true, List, [], ◌∷◌, ◌++◌, length, Option, Some, None, ℤ, pos, negsuc, refl, sym, ap, ◌∙◌, subst, arith, append_assoc, length-append}
use Rattle.std.specs.Prelude.{slice_get, nat_lt}
use Rattle.ann_element.specs.declared.element.Element.{Element}
use Rattle.csub_tree.specs.State.{Value, Word, Flag, Core}
use Rattle.csub_tree.specs.Operation.{binary_of}
use Rattle.csub_tree.specs.Statement.{read, operand}
use Rattle.csub_tree.specs.declared.tree.CBinary.TheVariants as binary
use Rattle.csub_tree.specs.declared.tree.COperand.{COperand}
use Rattle.csub_tree.specs.declared.tree.COperand.TheVariants.{Var, Const}
use Rattle.rpy_tree.specs.Value.{Value as Meant, Word as MeantWord, Flag as MeantFlag, Listed as ListedObject}
use Rattle.rpy_meaning.specs.declared.row.Covers.{Covers}
use Rattle.rpy_meaning.specs.declared.row.RowOp.TheVariants as row
use Rattle.rpy_meaning.specs.Operations.{op as meant_op}
use Rattle.rpy_meaning.specs.Tree.{Program}
use Rattle.rpy_meaning.specs.World.{World, Answer, Gives, on_list, flag, if_some, bad, give}
use Rattle.ll_code.specs.State.{Frame, At}
use Rattle.ll_code.specs.declared.program.LlType.{LlType}
use Rattle.ll_code.specs.declared.program.LlType.TheVariants as type
use Rattle.ll_code.specs.declared.program.LlOp.{LlOp}
use Rattle.ll_code.specs.declared.program.LlOp.TheVariants as op
use Rattle.ll_code.specs.declared.program.LlExit.{LlExit}
use Rattle.ll_code.specs.declared.program.LlProgram.{LlProgram}
use Rattle.ll_leads.specs.Path.{Leads}
use Rattle.ll_leads.proofs.Ways.{on, gives}
use Rattle.rtyper_layout.specs.declared.kind.Kind.TheVariants as kind
use Rattle.rtyper_layout.specs.Kinds.{kind_seen}
use Rattle.rtyper_layout.specs.Layout.{is_list}
use Rattle.rtyper_layout.specs.Types.{word, type_of as element_type}
use Rattle.rtyper_data.specs.declared.body.Body.{Body}
use Rattle.rtyper_op.specs.Lowering.{never_comes}
use Rattle.rtyper_data.specs.Numbers.{give_binary}
use Rattle.rtyper_data.specs.Seen.{Around, Operand, Place, kind_of, type_of, type_at, Writing, writing}
use Rattle.list_shape.specs.Shapes.{item_of, shape_of}
use Rattle.rtyper_list.specs.Items.{shape_in, has_item, below, length_in, walk_item, walked}
use Rattle.rtyper_list.specs.Lowering.{lowered, of_some, first_of_two, lower_list_op}
use Rattle.rtyper_list.specs.Operands.{of_list, list_of, pointed, array_in, read_item}
use Rattle.lower_laws.specs.Values.{IsBelow, AllBelow, is_plain}
use Rattle.lower_laws.proofs.Doing.{after, sets_place}
use Rattle.lower_laws.proofs.Items.{gives_same}
use Rattle.lower_laws.proofs.Single.{sets}
use Rattle.lower_laws.proofs.Stayed.{field_is}
use Rattle.lower_laws.proofs.Typing.{place_of_flags}
use Rattle.object_laws.specs.Known.{Known}
use Rattle.object_laws.specs.Done.{Follows, HasLayout, references}
use Rattle.object_laws.specs.Ghost.{Ghost, ListOf}
use Rattle.list_laws.specs.Done.{IsDone}
use Rattle.object_laws.specs.Staying.{Stays}
use Rattle.list_laws.specs.Lists.{IsList, WalksGoOn, WalksGive}
use Rattle.object_laws.specs.Represents.{Represents, ListAt, head_block}
use Rattle.object_laws.specs.Values.{Given, Holds, Plain, Stands, flag as a_flag}
use Rattle.object_laws.proofs.Blocks.{found_set, reads_field}
use Rattle.list_laws.proofs.Fetched.{fetched}
use Rattle.list_laws.proofs.Indexed.{three_behind}
use Rattle.list_laws.proofs.Lengths.{HeadShape, HeadFound}
use Rattle.list_laws.proofs.Lowered.{list_comes, two_come, first_of_two_is_list}
use Rattle.object_laws.proofs.Passing.{sets_more, sets_last, is_set_at, operand_kept}
use Rattle.object_laws.proofs.Valued.{Listing, Absent, list_or_none, word_held, stays_typed, stays_there, stays_held}
use Rattle.object_laws.proofs.Variables.{InVariable, in_variable}

pub two_behind : {A : Type 0} (xs ys : List A) (a b : A) → ((xs ++ ys) ++ a ∷ []) ++ b ∷ [] ≡ xs ++ (ys ++ a ∷ b ∷ [])
two_behind xs ys a b = append_assoc (xs ++ ys) (a ∷ []) (b ∷ []) ∙ append_assoc xs ys (a ∷ b ∷ [])

list_same : {xs ys : List Meant} → Some (ListedObject xs) ≡ Some (ListedObject ys) → xs ≡ ys
list_same h = cc

-- ---- whether it goes on

module _ (known : Known) (around : Around) (place : Place) (a b : Operand) (w : Writing) (covers : Covers) (lists : of_list (kind_of a) ≡ true) (words : kind_of b ≡ kind.Word) (flags : kind_seen place.element ≡ kind.Flag) where
  held : InVariable (type_of around a) a.x w.body
  held = in_variable (type_of around a) a.x w.body

  abbrev n : ℕ
  n = list_of around a

  abbrev m : ℕ
  m = length (w.body.types ++ held.new)

  abbrev reads : LlOp
  reads = op.GetField m n held.x 0

  abbrev tests : LlOp
  tests = op.Binary place.variable binary.Lt b.x (Var m)

  ht : type_at around place ≡ type.Bool
  ht = place_of_flags around.layout place.element flags

  is_written : lower_list_op around (row.HasItem None) place (a ∷ b ∷ []) w ≡ writing w.found (record { types = (w.body.types ++ held.new) ++ type.Signed ∷ []; ops = ((w.body.ops ++ held.ops) ++ reads ∷ []) ++ tests ∷ [] })
  unfolding lowered of_some first_of_two has_item give_binary
  is_written =
      two_come around (row.HasItem None) place a b w (list_comes a lists) (ap never_comes words)
      ∙ first_of_two_is_list around (row.HasItem None) place a b w lists
      ∙ ap (λ made. below around place b.x w.found (length_in (shape_in around a) made)) held.written
      ∙ sets_place around place type.Bool (λ v. op.Binary v binary.Lt b.x (Var m)) (writing w.found (record { types = (w.body.types ++ held.new) ++ type.Signed ∷ []; ops = (w.body.ops ++ held.ops) ++ reads ∷ [] })) ht

  module _ (program : Program) (p : LlProgram) (raised : ℕ → Value) (arguments : List (List ℕ)) (rest : List LlOp) (e : LlExit) (frames : List Frame) (core : Core) (g : Ghost) (world : World)
      (structs : HasLayout p around.layout) (stands : Represents around.layout known g world.heap world.left core.blocks core.statics) (left : world.left ≡ core.steps)
      (room : length w.body.types + length (held.new ++ type.Signed ∷ []) ≤ length core.vars) (inside : place.variable < length w.body.types) (under : AllBelow (length w.body.types) (a ∷ b ∷ [])) where
    abbrev Done : ℕ → Answer → Type 0
    Done most answer = Follows 2 known around place p arguments (At (held.ops ++ (reads ∷ tests ∷ rest)) e frames core) rest e frames core g raised most (length w.body.types) world answer

    long : length (held.new ++ type.Signed ∷ []) ≡ length held.new + 1
    long = length-append held.new (type.Signed ∷ [])

    m_is : m ≡ length w.body.types + length held.new
    m_is = length-append w.body.types held.new

    there : (most : ℕ) (v : Meant) (i : ℕ) → operand core.vars b.x ≡ Word (pos i) → Listing around.layout known g a.element (operand core.vars a.x) v → Done most (meant_op program covers (row.HasItem None) (v ∷ MeantWord (pos i) ∷ []) world)
    unfolding list_of
    there most v i low it =
        let x : Value = operand core.vars a.x in
        let l = stands.lists it.n it.i x it.home it.struct in
        let count : ℕ = length l.items in
        let t : Bool = nat_lt i count in
        let above : meant_op program covers (row.HasItem None) (v ∷ MeantWord (pos i) ∷ []) world ≡ Gives (MeantFlag t) world = ap (λ v. meant_op program covers (row.HasItem None) (v ∷ MeantWord (pos i) ∷ []) world) it.high ∙ ap (λ o. on_list (λ vs. flag (nat_lt i (length vs))) o world) l.object in
        let number : it.n ≡ n = ap pointed (sym it.typed) in
        let went = held.enters p arguments (reads ∷ tests ∷ rest) e frames core (omega (arith, room, long)) (found_set core.blocks core.statics x _ l.head_is) in
        let mid : Core = went.mid in
        let wide : m < length mid.vars = (let r = went.passed.room in omega (arith, room, long, m_is, r)) in
        let shape = subst (λ k. HeadShape p k) number (structs.heads it.n it.struct) in
        let block_there = subst (λ (c : Core). HeadFound c (read mid.vars held.x) it.n count l.array) (sym went.passed.memory) (subst (λ y. HeadFound core y it.n count l.array) (sym went.is) l.head_is) in
        let reads_it : Leads p arguments 0 (At (reads ∷ tests ∷ rest) e frames mid) [] (At (tests ∷ rest) e frames (after mid m (Word (pos count)))) =
        reads_field 2 (head_block it.n count l.array) (Word (pos count)) shape block_there number refl 0 refl in
        let middle : Core = after mid m (Word (pos count)) in
        let passed = sets_more m (Word (pos count)) (omega (arith, m_is)) went.passed in
        let tested = ap (λ y. binary_of binary.Lt y (read middle.vars m)) (operand_kept passed b.x under.1.0 ∙ low) ∙ ap (λ y. binary_of binary.Lt (Word (pos i)) y) (is_set_at mid m (Word (pos count)) wide) in
        let holds : Holds around.layout known g place.element (Flag t) (MeantFlag t) = Plain (ap is_plain flags) (subst (λ k. Stands g k (Flag t) (MeantFlag t)) (sym ht) (a_flag t)) in
        subst (Done most) (sym above) (sets_last most (length w.body.types) middle (Flag t) (MeantFlag t) stands left passed (omega (arith, room, inside)) (on went.way (on reads_it (gives (Flag t) tested))) holds)

    either : (most : ℕ) (v : Meant) (z : ℤ) → operand core.vars b.x ≡ Word z → Listing around.layout known g a.element (operand core.vars a.x) v ⊎ Absent a.element (operand core.vars a.x) v → Done most (meant_op program covers (row.HasItem None) (v ∷ MeantWord z ∷ []) world)
    either most v (pos i) low (inl it) = there most v i low it
    either most v (negsuc i) low (inl it) = subst (λ v. Done most (meant_op program covers (row.HasItem None) (v ∷ MeantWord (negsuc i) ∷ []) world)) (sym it.high) tt
    either most v (pos i) low (inr gone) = subst (λ v. Done most (meant_op program covers (row.HasItem None) (v ∷ MeantWord (pos i) ∷ []) world)) (sym gone.high) tt
    either most v (negsuc i) low (inr gone) = subst (λ v. Done most (meant_op program covers (row.HasItem None) (v ∷ MeantWord (negsuc i) ∷ []) world)) (sym gone.high) tt

    follow : (vs : List Meant) → Given known around g core (a ∷ b ∷ []) vs → Follows 2 known around place p arguments (At ((held.ops ++ (reads ∷ tests ∷ [])) ++ rest) e frames core) rest e frames core g raised (references world.heap vs) (length w.body.types) world (meant_op program covers (row.HasItem None) vs world)
    follow [] given = absurd given
    follow (v ∷ []) given = absurd given.1
    follow (v ∷ u ∷ []) given =
        let y = word_held words given.1.0 in
        subst (λ l. Follows 2 known around place p arguments (At l e frames core) rest e frames core g raised (references world.heap (v ∷ u ∷ [])) (length w.body.types) world (meant_op program covers (row.HasItem None) (v ∷ u ∷ []) world)) (sym (append_assoc held.ops (reads ∷ tests ∷ []) rest))
        (subst (λ s. Done (references world.heap (v ∷ u ∷ [])) (meant_op program covers (row.HasItem None) (v ∷ s ∷ []) world)) (sym y.high) (either (references world.heap (v ∷ u ∷ [])) v y.number y.low (list_or_none lists given.0)))
    follow (v ∷ u ∷ s ∷ vs) given = absurd given.1.1

  pub has_item_done : IsDone known around (row.HasItem None) covers [] place (a ∷ b ∷ []) w
  has_item_done = record {
    ops = held.ops ++ (reads ∷ tests ∷ []);
    new = held.new ++ type.Signed ∷ [];
    asked = ap (λ (r : Writing). r.found) is_written;
    written = ap (λ (r : Writing). r.body.ops) is_written ∙ two_behind w.body.ops held.ops reads tests;
    types = ap (λ (r : Writing). r.body.types) is_written ∙ append_assoc w.body.types held.new (type.Signed ∷ []);
    follows = λ p numbers raised arguments rest e frames core g world vs structs has stands left room inside under given good. follow known.program p raised arguments rest e frames core g world structs stands left room inside under vs given;
  }

pub walks_go_on : WalksGoOn
walks_go_on known around place a b w covers lists words flags = has_item_done known around place a b w covers lists words flags

-- ---- the item

module _ (known : Known) (around : Around) (place : Place) (a b : Operand) (w : Writing) (covers : Covers) (n : ℕ) (item : Element) (of : IsList around known a.element n item) (words : kind_of b ≡ kind.Word) (stay : Stays around.layout known (Some item) place.element) where
  held_list : InVariable (type_of around a) a.x w.body
  held_list = in_variable (type_of around a) a.x w.body

  abbrev kept_type : LlType
  kept_type = item_of around.layout (word (n + 1))

  abbrev m1 : ℕ
  m1 = length (w.body.types ++ held_list.new)

  abbrev m2 : ℕ
  m2 = length ((w.body.types ++ held_list.new) ++ type.Ptr (word (n + 1)) ∷ [])

  abbrev gets_array : LlOp
  gets_array = op.GetField m1 n held_list.x 1

  abbrev gets_item : LlOp
  gets_item = op.GetItem m2 (word (n + 1)) m1 b.x

  abbrev puts : LlOp
  puts = op.Set place.variable (Var m2)

  element_there : element_type around.layout item ≡ type.Void → ⊥
  element_there h = stays_there stay (sym (stays_typed stay) ∙ h)

  kept_is : kept_type ≡ element_type around.layout item
  kept_is = of.items ∙ field_is (element_type around.layout item) element_there

  typed_place : type_at around place ≡ kept_type
  typed_place = sym (stays_typed stay) ∙ sym kept_is

  list_is : list_of around a ≡ n
  unfolding list_of
  list_is = ap pointed of.typed

  abbrev last_body : Body
  last_body = record { types = ((w.body.types ++ held_list.new) ++ type.Ptr (word (n + 1)) ∷ []) ++ kept_type ∷ []; ops = ((w.body.ops ++ held_list.ops) ++ gets_array ∷ []) ++ gets_item ∷ [] }

  item_written : lower_list_op around (row.Item None) place (a ∷ b ∷ []) w ≡ writing w.found (record last_body { ops = last_body.ops ++ puts ∷ [] })
  unfolding lowered of_some first_of_two walk_item read_item array_in
  item_written =
      two_come around (row.Item None) place a b w (list_comes a of.is) (ap never_comes words)
      ∙ first_of_two_is_list around (row.Item None) place a b w of.is
      ∙ ap (λ made. walked around place (shape_in around a) b.x w.found made) held_list.written
      ∙ ap (λ l. walked around place (shape_of around.layout l) b.x w.found (held_list.x, record { types = w.body.types ++ held_list.new; ops = w.body.ops ++ held_list.ops })) list_is
      ∙ gives_same around place (Var m2) kept_type (writing w.found last_body) (λ h. element_there (sym kept_is ∙ h)) typed_place

  module _ (program : Program) (p : LlProgram) (raised : ℕ → Value) (arguments : List (List ℕ)) (rest : List LlOp) (e : LlExit) (frames : List Frame) (core : Core) (g : Ghost) (world : World)
      (structs : HasLayout p around.layout) (stands : Represents around.layout known g world.heap world.left core.blocks core.statics) (left : world.left ≡ core.steps)
      (room : length w.body.types + length (held_list.new ++ type.Ptr (word (n + 1)) ∷ kept_type ∷ []) ≤ length core.vars) (inside : place.variable < length w.body.types) (under : AllBelow (length w.body.types) (a ∷ b ∷ [])) where
    abbrev Gave : ℕ → Answer → Type 0
    Gave most answer = Follows 2 known around place p arguments (At (held_list.ops ++ (gets_array ∷ gets_item ∷ puts ∷ rest)) e frames core) rest e frames core g raised most (length w.body.types) world answer

    long_item : length (held_list.new ++ type.Ptr (word (n + 1)) ∷ kept_type ∷ []) ≡ length held_list.new + 2
    long_item = length-append held_list.new (type.Ptr (word (n + 1)) ∷ kept_type ∷ [])

    m1_is : m1 ≡ length w.body.types + length held_list.new
    m1_is = length-append w.body.types held_list.new

    m2_is : m2 ≡ m1 + 1
    m2_is = length-append (w.body.types ++ held_list.new) (type.Ptr (word (n + 1)) ∷ [])

    more_below : (x : COperand) → IsBelow (length w.body.types) x → IsBelow m1 x
    more_below (Var v) h = omega (arith, h, m1_is)
    more_below (Const c) h = tt

    there_item : (most : ℕ) (v : Meant) (i : ℕ) → operand core.vars b.x ≡ Word (pos i) → Listing around.layout known g a.element (operand core.vars a.x) v → Gave most (meant_op program covers (row.Item None) (v ∷ MeantWord (pos i) ∷ []) world)
    there_item most v i low it = subst (Gave most) (sym above) (by (slice_get l.items i) refl)
      where
        x : Value
        x = operand core.vars a.x

        number : it.n ≡ n
        number = ap pointed (sym it.typed ∙ of.typed)

        struct : is_list around.layout n ≡ true
        struct = subst (λ k. is_list around.layout k ≡ true) number it.struct

        l : ListAt around.layout known g world.heap world.left core.blocks core.statics n it.i x
        l = stands.lists n it.i x (subst (λ k. slice_get g.homes it.i ≡ Some (record { sort = ListOf k; head = x })) number it.home) struct

        above : meant_op program covers (row.Item None) (v ∷ MeantWord (pos i) ∷ []) world ≡ if_some bad (slice_get l.items i) give world
        above = ap (λ v. meant_op program covers (row.Item None) (v ∷ MeantWord (pos i) ∷ []) world) it.high ∙ ap (λ o. on_list (λ vs. if_some bad (slice_get vs i) give) o world) l.object

        by : (o : Option Meant) → slice_get l.items i ≡ o → Gave most (if_some bad o give world)
        by None q = tt
        by (Some u) q =
            let went = held_list.enters p arguments (gets_array ∷ gets_item ∷ puts ∷ rest) e frames core (omega (arith, room, long_item)) (found_set core.blocks core.statics x _ l.head_is) in
            let mid : Core = went.mid in
            let stands_mid : Represents around.layout known g world.heap world.left mid.blocks mid.statics = subst (λ (c : Core). Represents around.layout known g world.heap world.left c.blocks c.statics) (sym went.passed.memory) stands in
            let l_mid : ListAt around.layout known g world.heap world.left mid.blocks mid.statics n it.i x = subst (λ (c : Core). ListAt around.layout known g world.heap world.left c.blocks c.statics n it.i x) (sym went.passed.memory) l in
            let same_items : l_mid.items ≡ l.items = list_same (sym l_mid.object ∙ l.object) in
            let got = fetched structs struct stands_mid l_mid held_list.x m1 m2 b.x i u went.is (operand_kept went.passed b.x under.1.0 ∙ low) (more_below b.x under.1.0) (omega (arith, m2_is)) (let r = went.passed.room in omega (arith, room, long_item, m1_is, m2_is, r)) (ap (λ vs. slice_get vs i) same_items ∙ q) in
            let held : Holds around.layout known g (Some item) got.value u = subst (λ seen. Holds around.layout known g seen got.value u) of.item_is got.held in
            sets_last most (length w.body.types) (after (after mid m1 l_mid.array) m2 got.value) got.value u stands left
            (sets_more m2 got.value (omega (arith, m1_is, m2_is)) (sets_more m1 l_mid.array (omega (arith, m1_is)) went.passed)) (omega (arith, inside, room))
            (on went.way (on got.way (sets got.value got.is got.set))) (stays_held stay held)

    item_either : (most : ℕ) (v : Meant) (z : ℤ) → operand core.vars b.x ≡ Word z → Listing around.layout known g a.element (operand core.vars a.x) v ⊎ Absent a.element (operand core.vars a.x) v → Gave most (meant_op program covers (row.Item None) (v ∷ MeantWord z ∷ []) world)
    item_either most v (pos i) low (inl it) = there_item most v i low it
    item_either most v (negsuc i) low (inl it) = subst (λ v. Gave most (meant_op program covers (row.Item None) (v ∷ MeantWord (negsuc i) ∷ []) world)) (sym it.high) tt
    item_either most v (pos i) low (inr gone) = subst (λ v. Gave most (meant_op program covers (row.Item None) (v ∷ MeantWord (pos i) ∷ []) world)) (sym gone.high) tt
    item_either most v (negsuc i) low (inr gone) = subst (λ v. Gave most (meant_op program covers (row.Item None) (v ∷ MeantWord (negsuc i) ∷ []) world)) (sym gone.high) tt

    item_follow : (vs : List Meant) → Given known around g core (a ∷ b ∷ []) vs → Follows 2 known around place p arguments (At ((held_list.ops ++ (gets_array ∷ gets_item ∷ puts ∷ [])) ++ rest) e frames core) rest e frames core g raised (references world.heap vs) (length w.body.types) world (meant_op program covers (row.Item None) vs world)
    item_follow [] given = absurd given
    item_follow (v ∷ []) given = absurd given.1
    item_follow (v ∷ u ∷ []) given =
        let y = word_held words given.1.0 in
        subst (λ l. Follows 2 known around place p arguments (At l e frames core) rest e frames core g raised (references world.heap (v ∷ u ∷ [])) (length w.body.types) world (meant_op program covers (row.Item None) (v ∷ u ∷ []) world)) (sym (append_assoc held_list.ops (gets_array ∷ gets_item ∷ puts ∷ []) rest))
        (subst (λ s. Gave (references world.heap (v ∷ u ∷ [])) (meant_op program covers (row.Item None) (v ∷ s ∷ []) world)) (sym y.high) (item_either (references world.heap (v ∷ u ∷ [])) v y.number y.low (list_or_none of.is given.0)))
    item_follow (v ∷ u ∷ s ∷ vs) given = absurd given.1.1

  pub item_done : IsDone known around (row.Item None) covers [] place (a ∷ b ∷ []) w
  item_done = record {
    ops = held_list.ops ++ (gets_array ∷ gets_item ∷ puts ∷ []);
    new = held_list.new ++ (type.Ptr (word (n + 1)) ∷ kept_type ∷ []);
    asked = ap (λ (r : Writing). r.found) item_written;
    written = ap (λ (r : Writing). r.body.ops) item_written ∙ three_behind w.body.ops held_list.ops gets_array gets_item puts;
    types = ap (λ (r : Writing). r.body.types) item_written ∙ two_behind w.body.types held_list.new (type.Ptr (word (n + 1))) kept_type;
    follows = λ p numbers raised arguments rest e frames core g world vs structs has stands left room inside under given good. item_follow known.program p raised arguments rest e frames core g world structs stands left room inside under vs given;
  }

pub walks_give : WalksGive
walks_give known around place a b w covers n item of words stay = item_done known around place a b w covers n item of words stay
