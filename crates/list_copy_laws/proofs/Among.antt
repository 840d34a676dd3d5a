-- Values are looked for among the items of lists.
use Rattle.std.proofs.Common.{◌≡◌, ◌<◌, ◌≤◌, ℕ, suc, ◌+◌, ◌⊎◌, inl, inr, Bool, true, false, ◌||◌, ◌&&◌, List, [], ◌∷◌, ◌++◌, length, Option, Some, Ok, pos, refl, sym, ap, ◌∙◌, subst, arith, append_assoc, length-append}
use Rattle.std.specs.Prelude.{slice_get, if◌then◌else◌, option_map, not, nat_eq}
use Rattle.std.specs.Ordering.{int_eq}
use Rattle.std.proofs.lemmas.Bool.Decides.{nat_tests}
use Rattle.std.proofs.lemmas.List.{append-nil, length-set}
use Rattle.ann_element.specs.declared.element.Element.{Element}
use Rattle.rpy_base.specs.declared.outcome.FailName.TheVariants as fail
use Rattle.csub_tree.specs.State.{Value, Word, Flag, Block, Core}
use Rattle.csub_tree.specs.Operation.{is_unset, binary_of, unary_of}
use Rattle.csub_tree.specs.Statement.{operand, operands, any_unset}
use Rattle.csub_tree.specs.declared.tree.CBinary.TheVariants as binary
use Rattle.csub_tree.specs.declared.tree.CUnary.TheVariants as unary
use Rattle.csub_tree.specs.declared.tree.COperand.{COperand}
use Rattle.csub_tree.specs.declared.tree.COperand.TheVariants.{Var}
use Rattle.rpy_tree.specs.Value.{Heap, Value as Meant, Word as MeantWord, Flag as MeantFlag, Text, Nothing, Ref}
use Rattle.rpy_tree.specs.declared.syntax.CmpOp.{CmpOp}
use Rattle.rpy_tree.specs.declared.syntax.CmpOp.TheVariants as compared
use Rattle.rpy_meaning.specs.declared.row.Covers.{Covers}
use Rattle.rpy_meaning.specs.declared.row.RowOp.TheVariants as row
use Rattle.rpy_meaning.specs.Compare.{is_equal, is_among}
use Rattle.rpy_meaning.specs.Operations.{op as meant_op, within as meant_within}
use Rattle.rpy_meaning.specs.Sequences.{is_in_object}
use Rattle.rpy_meaning.specs.World.{World, Gives, flag_if_any, failure}
use Rattle.ll_code.specs.State.{Frame, State, Calling, At}
use Rattle.ll_code.specs.declared.program.LlType.{LlType}
use Rattle.ll_code.specs.declared.program.LlType.TheVariants as type
use Rattle.ll_code.specs.declared.program.LlOp.{LlOp}
use Rattle.ll_code.specs.declared.program.LlOp.TheVariants as op
use Rattle.ll_code.specs.declared.program.LlExit.{LlExit}
use Rattle.ll_code.specs.declared.program.LlProgram.{LlProgram}
use Rattle.ll_build.specs.declared.needs.Helper.TheVariants as helper
use Rattle.ll_build.specs.declared.needs.Numbers.{Numbers}
use Rattle.ll_texts.specs.Stands.{Stands as LowStands, text as low_text, missing as low_missing}
use Rattle.ll_leads.specs.Path.{Leads}
use Rattle.ll_leads.proofs.Ways.{Comes, on, turns}
use Rattle.rtyper_layout.specs.declared.kind.Kind.{Kind}
use Rattle.rtyper_layout.specs.declared.kind.Kind.TheVariants as kind
use Rattle.rtyper_layout.specs.declared.layout.Layout.{Layout}
use Rattle.rtyper_layout.specs.Kinds.{kind_seen}
use Rattle.rtyper_layout.specs.Layout.{is_list as is_list_struct}
use Rattle.rtyper_layout.specs.Types.{word, type_of as element_type, type_seen}
use Rattle.rtyper_data.specs.declared.found.Found.{Found}
use Rattle.rtyper_data.specs.declared.small.Small.{Small}
use Rattle.rtyper_data.specs.declared.small.Small.TheVariants as small
use Rattle.rtyper_data.specs.declared.small.Listed.TheVariants as listed
use Rattle.rtyper_data.specs.Comparing.{opposite_of, opposite_if}
use Rattle.rtyper_data.specs.Converting.{by_small, give_made}
use Rattle.rtyper_data.specs.Finding.{small_number, helper_number}
use Rattle.rtyper_op.specs.Lowering.{never_comes, lower_op}
use Rattle.rtyper_data.specs.Seen.{Around, Operand, Place, kind_of, type_of, Writing, writing}
use Rattle.list_shape.specs.Shapes.{item_of, shape_of, taking}
use Rattle.list_loops.specs.Loops.{contains}
use Rattle.rtyper_list.specs.Items.{within, is_within}
use Rattle.rtyper_list.specs.Lowering.{lowered, lowered_unless, of_some, of_two, first_of_two, second_of_two, within_or, lower_list_op}
use Rattle.rtyper_list.specs.Operands.{of_list, is_none, list_of, pointed, there}
use Rattle.lower_laws.specs.Asked.{Ask, Make, all_asked}
use Rattle.lower_laws.specs.Values.{AllBelow, is_plain}
use Rattle.lower_laws.proofs.Doing.{WordIs, FlagIs, after}
use Rattle.lower_laws.proofs.Single.{sets, gives_flag}
use Rattle.lower_laws.proofs.Stayed.{field_is}
use Rattle.lower_laws.proofs.Truths.{ByteIs}
use Rattle.lower_laws.proofs.Typing.{place_of_words, place_of_flags, place_of_bytes, place_of_strings, place_of_texts}
use Rattle.list_laws.specs.Asked.{HasContains, HasAll}
use Rattle.list_laws.specs.Lists.{IsList, there_asks}
use Rattle.list_laws.specs.Presence.{IsTold}
use Rattle.list_laws.proofs.Indexed.{asked_both, has_first, has_more}
use Rattle.list_laws.proofs.Lowered.{list_comes, two_come}
use Rattle.list_laws.proofs.Stored.{not_none}
use Rattle.list_laws.proofs.Told.{gives_flags}
use Rattle.object_laws.specs.Known.{Known}
use Rattle.object_laws.specs.Done.{Follows, HasLayout, references}
use Rattle.object_laws.specs.Ghost.{Ghost, ListOf}
use Rattle.object_laws.specs.Represents.{Represents, ListAt}
use Rattle.object_laws.specs.Values.{Stands, word as word_stands, flag as flag_stands, byte as byte_stands, text as text_stands, missing as missing_stands, Given, Holds}
use Rattle.object_laws.proofs.Blocks.{found_set, found_there}
use Rattle.object_laws.proofs.Passing.{Passed, sets_more, is_set_at, operand_kept, calls_at}
use Rattle.object_laws.proofs.Valued.{Listing, Absent, list_or_none, plain_stands, held_set}
use Rattle.list_copy_laws.specs.Among.{ValuesAreAmong}
use Rattle.list_copy_laws.proofs.Alike.{texts_alike}
use Rattle.list_copy_laws.proofs.Containing.{words_are, flags_are, bytes_are, texts_are, contains_one, contains_bytes, contains_texts}
use Rattle.list_copy_laws.proofs.Ready.{Went, Ready, ready}

-- ---- such values

of_word : {g : Ghost} (t : LlType) (x : Value) (v : Meant) → t ≡ type.Signed → Stands g t x v → WordIs x v
of_word type.Signed x v h (word_stands z f) = record { number = z; low = refl; high = refl; fits = f }
of_word _ x v h s = absurd (cc)

of_flag : {g : Ghost} (t : LlType) (x : Value) (v : Meant) → t ≡ type.Bool → Stands g t x v → FlagIs x v
of_flag type.Bool x v h (flag_stands b) = record { truth = b; low = refl; high = refl }
of_flag _ x v h s = absurd (cc)

of_byte : {g : Ghost} (t : LlType) (x : Value) (v : Meant) → t ≡ type.Char → Stands g t x v → ByteIs x v
of_byte type.Char x v h (byte_stands b k) = record { number = b; low = refl; high = refl; small = k }
of_byte _ x v h s = absurd (cc)

-- what is asked of such a value
record Asks (c : Covers) (f : Bool → Bool) (v : Meant) : Type 0 where
  there : (i : ℕ) (world : World) → meant_within c f v (Ref i) world ≡ flag_if_any (option_map f (is_in_object v (slice_get world.heap i))) world
  none : (world : World) → meant_within c f v Nothing world ≡ failure c.attribute 9 fail.Attribute world

asks_of : (c : Covers) (f : Bool → Bool) {g : Ghost} {t : LlType} {x : Value} {v : Meant} → Stands g t x v → Asks c f v
asks_of c f (word_stands z h) = record { there = λ i world. refl; none = λ world. refl }
asks_of c f (flag_stands b) = record { there = λ i world. refl; none = λ world. refl }
asks_of c f (byte_stands b h) = record { there = λ i world. refl; none = λ world. refl }
asks_of c f (text_stands x bytes h) = record { there = λ i world. refl; none = λ world. refl }
asks_of c f missing_stands = record { there = λ i world. refl; none = λ world. refl }

flags_same : (a b : Bool) → binary_of binary.Beq (Flag a) (Flag b) ≡ Ok (Flag (is_equal (MeantFlag a) (MeantFlag b)))
flags_same true b = refl
flags_same false b = refl

and_true : (t : Bool) → t ≡ (t && true)
and_true true = refl
and_true false = refl

same_number : (b c : ℕ) → int_eq (pos b) (pos c) ≡ nat_eq b c
same_number b c = by (nat_eq b c) refl
  where
    by : (t : Bool) → nat_eq b c ≡ t → int_eq (pos b) (pos c) ≡ t
    by true h = grind (arith, nat_tests, h)
    by false h = grind (arith, nat_tests, h)

bytes_same : (b c : ℕ) → binary_of binary.Eq (Word (pos b)) (Word (pos c)) ≡ Ok (Flag (is_equal (Text (b ∷ [])) (Text (c ∷ []))))
bytes_same b c = ap (λ t. Ok (Flag t)) (same_number b c ∙ and_true (nat_eq b c))

-- ---- the call

-- strings are what they are for helpers
low : {layout : Layout} {known : Known} {g : Ghost} {heap : Heap} {left : ℕ} {blocks : List (Option Block)} {statics : List Block} {t : LlType} {x : Value} {v : Meant} → t ≡ type.Ptr 0 → Represents layout known g heap left blocks statics → Stands g t x v → LowStands blocks statics (type.Ptr 0) x v
low h r (text_stands x bytes t) = low_text x bytes (record { is = r.stays x _ t.is; short = t.short; small = t.small })
low h r missing_stands = low_missing
low h r (word_stands z f) = absurd (cc)
low h r (flag_stands b) = absurd (cc)
low h r (byte_stands b s) = absurd (cc)

module _ (known : Known) (around : Around) (a b : Operand) (n : ℕ) (item : Element) (plain : is_plain (kind_of a) ≡ true) (item_plain : is_plain (kind_seen (Some item)) ≡ true) (item_typed : type_seen around.layout (Some item) ≡ type_of around a) (of : IsList around known b.element n item)
    (p : LlProgram) (numbers : Numbers) (raised : ℕ → Value) (arguments : List (List ℕ)) (f : ℕ) (structs : HasLayout p around.layout) (struct : is_list_struct around.layout n ≡ true) (before : Core) (has : HasContains p around.layout numbers raised before (type_of around a) n f)
    (g : Ghost) (world : World) (core : Core) (stands : Represents around.layout known g world.heap world.left core.blocks core.statics) (i : ℕ) (head : Value) (s : ListAt around.layout known g world.heap world.left core.blocks core.statics n i head)
    (x : Value) (v : Meant) (held : Holds around.layout known g a.element x v) where
  abbrev Tells : Type 0
  Tells = (waits : List Frame) → Comes p arguments (Calling f (x ∷ head ∷ []) waits core) [] (Flag (is_among v s.items)) waits core

  element_is : (t : LlType) → element_type around.layout item ≡ t → (t ≡ type.Void → ⊥) → item_of around.layout (word (n + 1)) ≡ t
  element_is t h there = of.items ∙ field_is (element_type around.layout item) (λ e. there (sym h ∙ e)) ∙ h

  -- the value, and the items
  value_stands : Stands g (type_of around a) x v
  value_stands = plain_stands plain held

  item_stands : (y : Value) (w : Meant) → Holds around.layout known g (known.items n) y w → Stands g (type_of around a) y w
  item_stands y w other = subst (λ t. Stands g t y w) item_typed (plain_stands item_plain (subst (λ seen. Holds around.layout known g seen y w) of.item_is other))

  x_set : is_unset x ≡ false
  x_set = held_set stands held

  graph_of : (t : LlType) → type_of around a ≡ t → slice_get p.graphs f ≡ Some (contains around.layout t (shape_of around.layout n) has.made).0
  graph_of t typed = has.graph ∙ ap (λ t. Some (contains around.layout t (shape_of around.layout n) has.made).0) typed

  words : type_of around a ≡ type.Signed → Tells
  words typed =
      let it = of_word (type_of around a) x v typed value_stands in
      contains_one p arguments around.layout known structs n struct f g world.heap world.left core stands i head s x v x_set type.Signed binary.Eq
      (graph_of type.Signed typed ∙ ap Some (words_are around.layout n has.made (element_is type.Signed (item_typed ∙ typed) (λ e. absurd (cc)))))
      (λ y w b other e. (let u = of_word (type_of around a) y w typed (item_stands y w other) in
      ap (λ y. binary_of binary.Eq y x) u.low ∙ ap (binary_of binary.Eq (Word u.number)) it.low
      ∙ ap (λ t. Ok (Flag t)) (sym (ap (λ w. is_equal w v) u.high ∙ ap (is_equal (MeantWord u.number)) it.high) ∙ e)))

  flags : type_of around a ≡ type.Bool → Tells
  flags typed =
      let it = of_flag (type_of around a) x v typed value_stands in
      contains_one p arguments around.layout known structs n struct f g world.heap world.left core stands i head s x v x_set type.Bool binary.Beq
      (graph_of type.Bool typed ∙ ap Some (flags_are around.layout n has.made (element_is type.Bool (item_typed ∙ typed) (λ e. absurd (cc)))))
      (λ y w b other e. (let u = of_flag (type_of around a) y w typed (item_stands y w other) in
      ap (λ y. binary_of binary.Beq y x) u.low ∙ ap (binary_of binary.Beq (Flag u.truth)) it.low ∙ flags_same u.truth it.truth
      ∙ ap (λ t. Ok (Flag t)) (sym (ap (λ w. is_equal w v) u.high ∙ ap (is_equal (MeantFlag u.truth)) it.high) ∙ e)))

  bytes : type_of around a ≡ type.Char → Tells
  bytes typed =
      let it = of_byte (type_of around a) x v typed value_stands in
      contains_bytes p arguments around.layout known structs n struct f g world.heap world.left core stands i head s x v x_set
      (graph_of type.Char typed ∙ ap Some (bytes_are around.layout n has.made (element_is type.Char (item_typed ∙ typed) (λ e. absurd (cc))))) it.number it.low
      (λ y w b other e. (let u = of_byte (type_of around a) y w typed (item_stands y w other) in
      (u.number, u.low, bytes_same u.number it.number ∙ ap (λ t. Ok (Flag t)) (sym (ap (λ w. is_equal w v) u.high ∙ ap (is_equal (Text (u.number ∷ []))) it.high) ∙ e))))

  texts : type_of around a ≡ type.Ptr 0 → Tells
  texts typed =
      contains_texts p arguments around.layout known structs n struct f g world.heap world.left core stands i head s x v x_set (helper_number helper.StrEqual has.made).0
      (graph_of (type.Ptr 0) typed ∙ ap Some (texts_are around.layout n has.made (element_is (type.Ptr 0) (item_typed ∙ typed) (λ e. absurd (cc)))))
      (λ y w b other e function block at vs waits. subst (λ t. Comes p arguments (Calling (helper_number helper.StrEqual has.made).0 (y ∷ x ∷ []) waits (record core { function = function; block = block; at = at; vars = vs })) [] (Flag t) waits (record core { function = function; block = block; at = at; vars = vs })) e
      (texts_alike p arguments numbers (helper_number helper.StrEqual has.made).0 before (record core { function = function; block = block; at = at; vars = vs }) (has.texts typed) waits y x w v (low typed stands (item_stands y w other)) (low typed stands value_stands)))

  tells : Tells
  tells = by (kind_of a) refl plain
    where
      by : (k : Kind) → kind_of a ≡ k → is_plain k ≡ true → Tells
      by kind.Word h q = words (place_of_words around.layout a.element h)
      by kind.Flag h q = flags (place_of_flags around.layout a.element h)
      by kind.Byte h q = bytes (place_of_bytes around.layout a.element h)
      by kind.Text h q = texts (place_of_strings around.layout a.element h)
      by kind.MaybeText h q = texts (place_of_texts around.layout a.element h)
      by _ h q = absurd (cc)

-- ---- the operation

-- the answer, or the opposite
abbrev turned : Bool → Bool → Bool
turned false t = t
turned true t = not t

module _ (reversed : Bool) (o : CmpOp) (known : Known) (around : Around) (place : Place) (a b : Operand) (w : Writing) (n : ℕ) (item : Element) (plain : is_plain (kind_of a) ≡ true) (item_plain : is_plain (kind_seen (Some item)) ≡ true) (item_typed : type_seen around.layout (Some item) ≡ type_of around a) (of : IsList around known b.element n item) (flags : kind_seen place.element ≡ kind.Flag)
    (l : lower_list_op around (row.Compare o) place (a ∷ b ∷ []) w ≡ within around place reversed a b w) (means : (v u : Meant) (world : World) → meant_op known.program w.found.covered (row.Compare o) (v ∷ u ∷ []) world ≡ meant_within w.found.covered (turned reversed) v u world) where
  it : Ready around b w
  it = ready around b w of.is

  abbrev looks : Small
  looks = small.Listed (listed.Contains (type_of around a) n)

  abbrev first : Found
  first = all_asked (there_asks around b w.found.covered) w.found

  abbrev asks : List Ask
  asks = there_asks around b w.found.covered ++ Make looks ∷ []

  abbrev number : ℕ
  number = (small_number looks first).0

  abbrev types0 : List LlType
  types0 = w.body.types ++ it.new

  abbrev m1 : ℕ
  m1 = length types0

  abbrev m2 : ℕ
  m2 = length (types0 ++ type.Bool ∷ [])

  abbrev calls : LlOp
  calls = op.Call (Some m1) number (a.x ∷ it.x ∷ [])

  abbrev tail : Bool → List LlOp
  tail false = op.Set place.variable (Var m1) ∷ []
  tail true = op.Unary m2 unary.Not (Var m1) ∷ op.Set place.variable (Var m2) ∷ []

  abbrev more : Bool → List LlType
  more false = []
  more true = type.Bool ∷ []

  list_is : list_of around b ≡ n
  unfolding list_of
  list_is = ap pointed of.typed

  abbrev called_from : ℕ → COperand × Writing → Writing
  called_from k made = give_made around place type.Bool (taking made (λ y next. opposite_of reversed (by_small (small.Listed (listed.Contains (type_of around a) k)) type.Bool (a.x ∷ y ∷ []) next)))

  abbrev called : Writing
  called = writing (small_number looks first).1 (record { types = types0 ++ type.Bool ∷ []; ops = (w.body.ops ++ it.ops) ++ calls ∷ [] })

  turned_written : (r : Bool) → give_made around place type.Bool (opposite_of r (Var m1, called)) ≡ writing (small_number looks first).1 (record { types = (types0 ++ type.Bool ∷ []) ++ more r; ops = ((w.body.ops ++ it.ops) ++ calls ∷ []) ++ tail r })
  unfolding opposite_if
  turned_written false = gives_flag around place (Var m1) called (place_of_flags around.layout place.element flags)
      ∙ ap (λ ts. writing (small_number looks first).1 (record { types = ts; ops = ((w.body.ops ++ it.ops) ++ calls ∷ []) ++ tail false })) (sym (append-nil (types0 ++ type.Bool ∷ [])))
  turned_written true = gives_flag around place (Var m2) (writing (small_number looks first).1 (record { types = (types0 ++ type.Bool ∷ []) ++ type.Bool ∷ []; ops = ((w.body.ops ++ it.ops) ++ calls ∷ []) ++ op.Unary m2 unary.Not (Var m1) ∷ [] })) (place_of_flags around.layout place.element flags)
      ∙ ap (λ os. writing (small_number looks first).1 (record { types = (types0 ++ type.Bool ∷ []) ++ type.Bool ∷ []; ops = os })) (append_assoc ((w.body.ops ++ it.ops) ++ calls ∷ []) (op.Unary m2 unary.Not (Var m1) ∷ []) (op.Set place.variable (Var m2) ∷ []))

  is_written : lower_list_op around (row.Compare o) place (a ∷ b ∷ []) w ≡ writing (small_number looks first).1 (record { types = (types0 ++ type.Bool ∷ []) ++ more reversed; ops = ((w.body.ops ++ it.ops) ++ calls ∷ []) ++ tail reversed })
  unfolding within is_within by_small
  is_written = l ∙ ap (called_from (list_of around b)) it.written ∙ ap (λ k. called_from k (it.x, writing first (record { types = types0; ops = w.body.ops ++ it.ops }))) list_is ∙ turned_written reversed

  m1_is : m1 ≡ length w.body.types + length it.new
  m1_is = length-append w.body.types it.new

  m2_is : m2 ≡ m1 + 1
  m2_is = length-append types0 (type.Bool ∷ [])

  module _ (p : LlProgram) (numbers : Numbers) (raised : ℕ → Value) (arguments : List (List ℕ)) (rest : List LlOp) (e : LlExit) (frames : List Frame) (core : Core) (g : Ghost) (world : World)
      (structs : HasLayout p around.layout) (has : HasAll p around.layout numbers raised core asks w.found)
      (stands : Represents around.layout known g world.heap world.left core.blocks core.statics) (left : world.left ≡ core.steps)
      (room : length w.body.types + length (it.new ++ (type.Bool ∷ more reversed)) ≤ length core.vars) (inside : place.variable < length w.body.types) (below : AllBelow (length w.body.types) (a ∷ b ∷ [])) where
    abbrev Here : State
    Here = At (it.ops ++ (calls ∷ (tail reversed ++ rest))) e frames core

    abbrev Done : List Meant → Type 0
    Done vs = Follows 0 known around place p arguments Here rest e frames core g raised (references world.heap vs) (length w.body.types) world (meant_op known.program w.found.covered (row.Compare o) vs world)

    long : length (it.new ++ (type.Bool ∷ more reversed)) ≡ length it.new + suc (length (more reversed))
    long = length-append it.new (type.Bool ∷ more reversed)

    wide : length w.body.types + length it.new ≤ length core.vars
    wide = omega (arith, room, long)

    has_there : HasAll p around.layout numbers raised core (there_asks around b w.found.covered) w.found
    has_there = has_first p around numbers raised core (there_asks around b w.found.covered) (Make looks ∷ []) w.found has

    has_graph : HasContains p around.layout numbers raised core (type_of around a) n number
    has_graph = (has_more p around numbers raised core (there_asks around b w.found.covered) (Make looks ∷ []) w.found has).0

    missing : (v u : Meant) → Holds around.layout known g a.element (operand core.vars a.x) v → Absent b.element (operand core.vars b.x) u → Done (v ∷ u ∷ [])
    missing v u held gone = subst (λ u. Done (v ∷ u ∷ [])) (sym gone.high)
        (subst (λ answer. Follows 0 known around place p arguments Here rest e frames core g raised (references world.heap (v ∷ Nothing ∷ [])) (length w.body.types) world answer) (sym (means v Nothing world ∙ (asks_of w.found.covered (turned reversed) (plain_stands plain held)).none world))
        (it.misses 0 known place p numbers raised arguments (calls ∷ tail reversed) rest e frames core core g (references world.heap (v ∷ Nothing ∷ [])) (length w.body.types) world has_there gone.may gone.low))

    module _ (v u : Meant) (held : Holds around.layout known g a.element (operand core.vars a.x) v) (found_list : Listing around.layout known g b.element (operand core.vars b.x) u) where
      struct : is_list_struct around.layout n ≡ true
      struct = subst (λ k. is_list_struct around.layout k ≡ true) (ap pointed (sym found_list.typed ∙ of.typed)) found_list.struct

      home : slice_get g.homes found_list.i ≡ Some (record { sort = ListOf n; head = operand core.vars b.x })
      home = subst (λ k. slice_get g.homes found_list.i ≡ Some (record { sort = ListOf k; head = operand core.vars b.x })) (ap pointed (sym found_list.typed ∙ of.typed)) found_list.home

      list : ListAt around.layout known g world.heap world.left core.blocks core.statics n found_list.i (operand core.vars b.x)
      list = stands.lists n found_list.i (operand core.vars b.x) home struct

      went : Went p arguments Here (calls ∷ (tail reversed ++ rest)) e frames core (length w.body.types) it.x (operand core.vars b.x)
      went = it.enters p numbers raised arguments (calls ∷ (tail reversed ++ rest)) e frames core core has_there wide (found_set core.blocks core.statics (operand core.vars b.x) _ list.head_is) (found_there core.blocks core.statics (operand core.vars b.x) _ list.head_is)

      abbrev mid : Core
      mid = went.mid

      stands_mid : Represents around.layout known g world.heap world.left mid.blocks mid.statics
      stands_mid = subst (λ (c : Core). Represents around.layout known g world.heap world.left c.blocks c.statics) (sym went.passed.memory) stands

      mid_list : ListAt around.layout known g world.heap world.left mid.blocks mid.statics n found_list.i (operand core.vars b.x)
      mid_list = stands_mid.lists n found_list.i (operand core.vars b.x) home struct

      abbrev t : Bool
      t = is_among v mid_list.items

      same : operands mid.vars (a.x ∷ it.x ∷ []) ≡ operand core.vars a.x ∷ operand core.vars b.x ∷ []
      same = ap (λ q. q ∷ operand mid.vars it.x ∷ []) (operand_kept went.passed a.x below.0) ∙ ap (λ q. operand core.vars a.x ∷ q ∷ []) went.is

      set : any_unset (operand core.vars a.x ∷ operand core.vars b.x ∷ []) ≡ false
      set = ap (λ q. q || (is_unset (operand core.vars b.x) || false)) (held_set stands held) ∙ ap (λ q. q || false) (found_set core.blocks core.statics (operand core.vars b.x) _ list.head_is)

      abbrev told : Core
      told = after mid m1 (Flag t)

      asked : Leads p arguments 0 Here [] (At (tail reversed ++ rest) e frames told)
      asked = on went.way (calls_at same set (tells known around a b n item plain item_plain item_typed of p numbers raised arguments number structs struct core has_graph g world mid stands_mid found_list.i (operand core.vars b.x) mid_list (operand core.vars a.x) v held))

      told_long : length told.vars ≡ length core.vars
      told_long = length-set mid.vars m1 (Flag t) ∙ went.passed.room

      told_is : operand told.vars (Var m1) ≡ Flag t
      told_is = is_set_at mid m1 (Flag t) (let q = went.passed.room in omega (arith, room, long, m1_is, q))

      told_passed : Passed (length w.body.types) core told
      told_passed = sets_more m1 (Flag t) (omega (arith, m1_is)) went.passed

      ends : (r : Bool) → r ≡ reversed → (last : Core) × (Passed (length w.body.types) core last) × Leads p arguments 0 (At (tail r ++ rest) e frames told) [] (At rest e frames (after last place.variable (Flag (turned r t))))
      ends false q = (told, told_passed, sets (Flag t) told_is refl)
      ends true q = (
        after told m2 (Flag (not t)),
        sets_more m2 (Flag (not t)) (omega (arith, m1_is, m2_is)) told_passed,
        on (turns (Flag (not t)) (ap (unary_of unary.Not) told_is)) (sets (Flag (not t)) (is_set_at told m2 (Flag (not t)) (let s = long in let k = ap (λ r. length (more r)) q in omega (arith, room, s, k, m1_is, m2_is, told_long))) refl),
      )

      meant : meant_op known.program w.found.covered (row.Compare o) (v ∷ Ref found_list.i ∷ []) world ≡ Gives (MeantFlag (turned reversed t)) world
      meant = means v (Ref found_list.i) world ∙ (asks_of w.found.covered (turned reversed) (plain_stands plain held)).there found_list.i world ∙ ap (λ o. flag_if_any (option_map (turned reversed) (is_in_object v o)) world) mid_list.object

      there_so : Done (v ∷ u ∷ [])
      there_so = (let it = ends reversed refl in subst (λ u. Done (v ∷ u ∷ [])) (sym found_list.high)
          (subst (λ answer. Follows 0 known around place p arguments Here rest e frames core g raised (references world.heap (v ∷ Ref found_list.i ∷ [])) (length w.body.types) world answer) (sym meant)
          (gives_flags around raised flags (references world.heap (v ∷ Ref found_list.i ∷ [])) (length w.body.types) it.0 (turned reversed t) stands left it.1 (omega (arith, room, inside)) (on asked it.2))))

    either : (v u : Meant) → Holds around.layout known g a.element (operand core.vars a.x) v → Listing around.layout known g b.element (operand core.vars b.x) u ⊎ Absent b.element (operand core.vars b.x) u → Done (v ∷ u ∷ [])
    either v u held (inl is) = there_so v u held is
    either v u held (inr gone) = missing v u held gone

    follow : (vs : List Meant) → Given known around g core (a ∷ b ∷ []) vs → Follows 0 known around place p arguments (At ((it.ops ++ (calls ∷ tail reversed)) ++ rest) e frames core) rest e frames core g raised (references world.heap vs) (length w.body.types) world (meant_op known.program w.found.covered (row.Compare o) vs world)
    follow [] given = absurd given
    follow (v ∷ []) given = absurd given.1
    follow (v ∷ u ∷ []) given =
        subst (λ l. Follows 0 known around place p arguments (At l e frames core) rest e frames core g raised (references world.heap (v ∷ u ∷ [])) (length w.body.types) world (meant_op known.program w.found.covered (row.Compare o) (v ∷ u ∷ []) world)) (sym (append_assoc it.ops (calls ∷ tail reversed) rest))
        (either v u given.0 (list_or_none of.is given.1.0))
    follow (v ∷ u ∷ s ∷ vs) given = absurd given.1.1

  among_done : IsTold known around (row.Compare o) w.found.covered asks place (a ∷ b ∷ []) w
  among_done = record {
    ops = it.ops ++ (calls ∷ tail reversed);
    new = it.new ++ (type.Bool ∷ more reversed);
    asked = ap (λ (r : Writing). r.found) is_written ∙ sym (asked_both (there_asks around b w.found.covered) (Make looks ∷ []) w.found);
    written = ap (λ (r : Writing). r.body.ops) is_written ∙ append_assoc (w.body.ops ++ it.ops) (calls ∷ []) (tail reversed) ∙ append_assoc w.body.ops it.ops (calls ∷ tail reversed);
    types = ap (λ (r : Writing). r.body.types) is_written ∙ append_assoc (w.body.types ++ it.new) (type.Bool ∷ []) (more reversed) ∙ append_assoc w.body.types it.new (type.Bool ∷ more reversed);
    follows = λ p numbers raised arguments rest e frames core g world vs structs has stands left room inside below given good. follow p numbers raised arguments rest e frames core g world structs has stands left room inside below vs given;
  }

-- ---- both

plain_comes : (k : Kind) → is_plain k ≡ true → never_comes k ≡ false
plain_comes kind.Word h = refl
plain_comes kind.Flag h = refl
plain_comes kind.Byte h = refl
plain_comes kind.Text h = refl
plain_comes kind.MaybeText h = refl
plain_comes _ h = absurd (cc)

plain_is_no_list : (k : Kind) → is_plain k ≡ true → of_list k ≡ false
plain_is_no_list kind.Word h = refl
plain_is_no_list kind.Flag h = refl
plain_is_no_list kind.Byte h = refl
plain_is_no_list kind.Text h = refl
plain_is_no_list kind.MaybeText h = refl
plain_is_no_list _ h = absurd (cc)

pub within_is : ValuesAreAmong compared.Within
unfolding lowered of_some of_two first_of_two second_of_two within_or
within_is known around place a b w n item plain item_plain item_typed of flags = among_done false compared.Within known around place a b w n item plain item_plain item_typed of flags
    (two_come around (row.Compare compared.Within) place a b w (plain_comes (kind_of a) plain) (list_comes b of.is)
    ∙ ap (λ t. lowered_unless (t && not (is_none a)) around (row.Compare compared.Within) place (a ∷ b ∷ []) w) (not_none (kind_of b) of.is)
    ∙ ap (λ t. if t then first_of_two around (row.Compare compared.Within) place a b w else second_of_two around (row.Compare compared.Within) place a b w) (plain_is_no_list (kind_of a) plain)
    ∙ ap (λ t. if t then within around place false a b w else lower_op around (row.Compare compared.Within) place (a ∷ b ∷ []) w) of.is)
    (λ v u world. refl)

pub not_within_is : ValuesAreAmong compared.NotWithin
unfolding lowered of_some of_two first_of_two second_of_two within_or
not_within_is known around place a b w n item plain item_plain item_typed of flags = among_done true compared.NotWithin known around place a b w n item plain item_plain item_typed of flags
    (two_come around (row.Compare compared.NotWithin) place a b w (plain_comes (kind_of a) plain) (list_comes b of.is)
    ∙ ap (λ t. lowered_unless (t && not (is_none a)) around (row.Compare compared.NotWithin) place (a ∷ b ∷ []) w) (not_none (kind_of b) of.is)
    ∙ ap (λ t. if t then first_of_two around (row.Compare compared.NotWithin) place a b w else second_of_two around (row.Compare compared.NotWithin) place a b w) (plain_is_no_list (kind_of a) plain)
    ∙ ap (λ t. if t then within around place true a b w else lower_op around (row.Compare compared.NotWithin) place (a ∷ b ∷ []) w) of.is)
    (λ v u world. refl)
