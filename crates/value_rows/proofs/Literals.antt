-- Literals and constants, and turns of loops.
use Rattle.std.proofs.Common.{◌≡◌, ◌<◌, ◌^◌, ℕ, Bool, true, false, List, [], ◌∷◌, length, map, Option, Some, refl, sym, ap, ◌∙◌, subst, arith}
use Rattle.std.specs.Prelude.{ℤ, ◌==◌, if◌then◌else◌}
use Rattle.std.proofs.lemmas.Bool.Decides.{nat_tests}
use Rattle.ann_element.specs.declared.element.Element.{Element}
use Rattle.ann_lattice.specs.Kind.{misfit}
use Rattle.ann_lattice.specs.Order.{Below}
use Rattle.ann_lattice.specs.Order as order
use Rattle.ann_lattice.specs.Join.{is_clash}
use Rattle.ann_lattice.specs.Row.{counted, of_none, of_one, of_three, of_two}
use Rattle.ann_lattice.specs.Shape.{One, Any, OrNone, Shape, Nothing, NoneOnly, Str, shape, shape_step}
use Rattle.class_desc.specs.Tables.{Tables}
use Rattle.conversion_laws.specs.Constants.{AreKept, IsGiven, IsValue}
use Rattle.conversion_laws.specs.Constants as constants
use Rattle.conversion_laws.specs.Going.{Goes, Never, Staying, Missing, Texted, Items as GoItems, takes_text}
use Rattle.conversion_laws.specs.Ordered as laid
use Rattle.lower_laws.specs.Tuples.{Same, Wider, Whole}
use Rattle.object_laws.specs.Known.{Known}
use Rattle.object_laws.specs.Staying.{Plainly, AsList, AsMaybe, AsDict, AsMaybeDict, AsInstance, AsFunction}
use Rattle.ll_texts.specs.Texts.{AreBytes}
use Rattle.rpy_tree.specs.declared.program.ClassInfo.{ClassInfo}
use Rattle.rpy_tree.specs.declared.program.Const.TheVariants as const
use Rattle.ann_element.specs.declared.element.Element.{fold-roll-Element}
use Rattle.ann_element.specs.declared.element.Element.TheOpen.{Element-F}
use Rattle.ann_element.specs.declared.element.Element.TheVariants as element
use Rattle.value_rows.proofs.Copies.{goes_there}
use Rattle.value_rows.proofs.Giving.{below_so}
use Rattle.typed_rows.proofs.Going.{elements_pass}
use Rattle.conversion_laws.proofs.Given.{constants_are_given, flags_are_given, none_is_given, strings_are_given, words_are_given}
use Rattle.conversion_laws.proofs.Turns.{turns_are_paid}
use Rattle.flow_graph.specs.declared.graph.Graph.{Graph}
use Rattle.flow_graph.specs.declared.graph.Op.{Op}
use Rattle.growth_laws.specs.Growing.{Grows}
use Rattle.growth_laws.proofs.Fronts.{stays}
use Rattle.rpy_meaning.specs.declared.row.Covers.{Covers}
use Rattle.rpy_meaning.specs.declared.row.RowOp.{RowOp}
use Rattle.rpy_meaning.specs.declared.row.RowOp.TheVariants as row
use Rattle.rpy_tree.specs.declared.program.Const.{Const}
use Rattle.rpy_tree.specs.Value.{Nothing as MeantNothing}
use Rattle.rtyper_class.specs.Lowering.{lowered as class_lowered, of_some as class_of_some, other as class_other}
use Rattle.rtyper_class.specs.Seen.{World}
use Rattle.rtyper_data.specs.Seen.{Around, Place, Writing}
use Rattle.rtyper_data.specs.declared.found.Found.{Found}
use Rattle.rtyper_layout.specs.declared.kind.Kind.TheVariants as kind
use Rattle.rtyper_layout.specs.Kinds.{kind_of as kind_of_element, kind_seen}
use Rattle.rtyper_list.specs.Lowering.{lowered as list_lowered, of_some as list_of_some, other as list_other}
use Rattle.rtyper_op.specs.Lowering.{lower_op}
use Rattle.rtyper_data.specs.Finding.{nothing}
use Rattle.rtyper_program.specs.Blocks.{lowered, op_of}
use Rattle.rtyper_program.specs.Seen.{element_at, place_of}
use Rattle.rtyped_runs.specs.Laws.{before, of_conversions}
use Rattle.rtyped_runs.proofs.Operations.{given_operations_are_written}
use Rattle.typed_rows.specs.Programs.{Typed, IsTyped, last, layout, same, world}
use Rattle.typed_rows.specs.Rows.{AreElements, IsOp, IsWritten, RowIsWrittenWhere, lowered_in}
use Rattle.typed_rows.proofs.Going.{inside}
use Rattle.rpy_meaning.specs.Costs.{turn_cost}
use Rattle.rpy_meaning.specs.World.{give}
use Rattle.value_rows.proofs.Missing.{none_kind}
use Rattle.value_rows.specs.Kinds.{ResultIs, is_none}
use Rattle.value_rows.specs.Literals.{ConstantFits, StaticsStay, Stay, StringFits, WordFits}
use Rattle.value_rows.proofs.Asking.{grows_from}
use Rattle.value_rows.proofs.Operands.{Above, IsPlain, misfits, row_is_met, with_args}
use Rattle.value_rows.proofs.Premises.{Few, is_written, throws_objects}
use Rattle.value_rows.proofs.Shaped.{kind_at, num_above, truth_above, flag_kind, word_kind, yes}
use Rattle.value_rows.proofs.Throwing.{none_fine, pays_fine}
use Rattle.value_rows.proofs.Words.{kind_given}

-- ---- operations without operands

module _ (t : Typed) (n : ℕ) (r : RowOp) (o : Op) (is : IsOp t n o) where
  none_of : (args : List ℕ) (es : List Element) → AreElements t n args es → o.args ≡ args → ((x : Shape) → of_one t.whole.tables r x Nothing ≡ misfit) → ((x y : Shape) → of_two t.whole.tables r x y Nothing ≡ misfit) → ((x y z : Shape) → of_three r x y z ≡ misfit)
      → Above t n r o is (counted t.whole.tables r (map shape es) Nothing) → (o.args ≡ []) × Above t n r o is (of_none r)
  none_of [] [] are eq one two three met = (eq, met)
  none_of (a ∷ []) (x ∷ []) are eq one two three met = absurd (misfits t n r o is _ (one (shape x)) met)
  none_of (a ∷ b ∷ []) (x ∷ y ∷ []) are eq one two three met = absurd (misfits t n r o is _ (two (shape x) (shape y)) met)
  none_of (a ∷ b ∷ c ∷ []) (x ∷ y ∷ z ∷ []) are eq one two three met = absurd (misfits t n r o is _ (three (shape x) (shape y) (shape z)) met)
  none_of (a ∷ b ∷ c ∷ d ∷ args) (x ∷ y ∷ z ∷ u ∷ es) are eq one two three met = absurd (misfits t n r o is _ refl met)
  none_of [] (x ∷ es) are eq one two three met = absurd are
  none_of (a ∷ args) [] are eq one two three met = absurd are
  none_of (a ∷ []) (x ∷ y ∷ es) are eq one two three met = absurd are.1
  none_of (a ∷ b ∷ args) (x ∷ []) are eq one two three met = absurd are.1
  none_of (a ∷ b ∷ []) (x ∷ y ∷ z ∷ es) are eq one two three met = absurd are.1.1
  none_of (a ∷ b ∷ c ∷ args) (x ∷ y ∷ []) are eq one two three met = absurd are.1.1
  none_of (a ∷ b ∷ c ∷ []) (x ∷ y ∷ z ∷ u ∷ es) are eq one two three met = absurd are.1.1.1
  none_of (a ∷ b ∷ c ∷ d ∷ args) (x ∷ y ∷ z ∷ []) are eq one two three met = absurd are.1.1.1

abbrev pub NoneIsWritten : (Typed → ℕ → Op → Type 0) → RowOp → Type 0
NoneIsWritten Told r = (t : Typed) → IsTyped t → (n : ℕ) (graph : Graph) (o : Op) (is : IsOp t n (with_args r [] o)) → Above t n r (with_args r [] o) is (of_none r) → Told t n (with_args r [] o) → IsWritten t n graph (with_args r [] o)

pub rows_of_none : (Told : Typed → ℕ → Op → Type 0) (r : RowOp) → IsPlain r → ((tables : Tables) (x : Shape) → of_one tables r x Nothing ≡ misfit) → ((tables : Tables) (x y : Shape) → of_two tables r x y Nothing ≡ misfit) → ((x y z : Shape) → of_three r x y z ≡ misfit) → NoneIsWritten Told r → RowIsWrittenWhere Told r
rows_of_none Told r plain one two three written t typed n graph o eq is told =
    let h = none_of t n r o is o.args is.elements is.are refl (one t.whole.tables) (two t.whole.tables) three (row_is_met t n r o plain eq is) in
    let q : o ≡ with_args r [] o = ap (λ r. record o { op = r }) eq ∙ ap (λ vs. record o { op = r; args = vs }) h.0 in
    let m = subst (λ other. (is : IsOp t n other) × Above t n r other is (of_none r) × Told t n other) q (is, h.1, told) in
    subst (IsWritten t n graph) (sym q) (written t typed n graph o m.0 m.1 m.2)

-- ---- what is given

-- what stays to the last moment stays before
kept_before : (t : Typed) (found : Found) → StaticsStay t → Grows found (last t) → AreKept t.p (layout t) t.seen found
kept_before t found stay late s static at settled = stay s static (stays found.statics (last t).statics s static late.statics at) settled

abbrev Lowers : RowOp → Type 0
Lowers r = (world : World) (place : Place) (w : Writing) → lowered world r place [] w ≡ lower_op world.around r place [] w

module _ (r : RowOp) (lowers : (world : World) (place : Place) (w : Writing) → lowered world r place [] w ≡ lower_op world.around r place [] w) (few : (t : Typed) (n : ℕ) (graph : Graph) (o : Op) → Few t n graph (with_args r [] o)) where
  given_written : (t : Typed) → IsTyped t → StaticsStay t → (n : ℕ) (graph : Graph) (q : Op) → IsOp t n (with_args r [] q) → ((w : Writing) (covers : Covers) → IsGiven t.seen (world t).around r covers (place_of (lowered_in t n graph) q.result) w) → IsWritten t n graph (with_args r [] q)
  unfolding op_of
  given_written t typed stay n graph q is law w early late room =
      let o : Op = with_args r [] q in
      let place : Place = place_of (lowered_in t n graph) q.result in
      let same = lowers (world t) place (before o w) in
      given_operations_are_written (lowered_in t n graph) t.seen t.graphs t.p t.arguments o w typed.small.has refl (inside t n graph o is w room).result (throws_objects t n graph o is (few t n graph q))
      (kept_before t (lower_op (world t).around r place [] (before o w)).found stay (subst (λ (m : Writing). Grows m.found (last t)) same (grows_from nothing late))) same (law (before o w) q.covered)

-- ---- words and truth values

word_lowers : (z : ℤ) → Lowers (row.Word z)
unfolding class_lowered class_of_some class_other list_lowered list_of_some list_other
word_lowers z in_world place w = refl

flag_lowers : (b : Bool) → Lowers (row.Bool b)
unfolding class_lowered class_of_some class_other list_lowered list_of_some list_other
flag_lowers b in_world place w = refl

string_lowers : (bytes : List ℕ) → Lowers (row.Str bytes)
unfolding class_lowered class_of_some class_other list_lowered list_of_some list_other
string_lowers bytes in_world place w = refl

none_lowers : Lowers row.None
unfolding class_lowered class_of_some class_other list_lowered list_of_some list_other
none_lowers in_world place w = refl

constant_lowers : (c : Const) → Lowers (row.Constant c)
unfolding class_lowered class_of_some class_other list_lowered list_of_some list_other
constant_lowers c in_world place w = refl

turn_lowers : Lowers row.Turn
unfolding class_lowered class_of_some class_other list_lowered list_of_some list_other
turn_lowers in_world place w = refl

pub words : (z : ℤ) → RowIsWrittenWhere (WordFits z) (row.Word z)
words z = rows_of_none (WordFits z) (row.Word z) (record { asks = λ p a g node xs. refl; fits = λ tables xs. refl }) (λ tables x. refl) (λ tables x y. refl) (λ x y z. refl) written
  where
    written : NoneIsWritten (WordFits z) (row.Word z)
    written t typed n graph q is met told =
        given_written (row.Word z) (word_lowers z) (λ t n graph o g core vs w given. none_fine _ _ (λ w. tt) vs w) t typed told.0 n graph q is
        (λ w covers. words_are_given t.seen (world t).around (place_of (lowered_in t n graph) q.result) w covers z (kind_given t n graph (with_args (row.Word z) [] q) is kind.Word (word_kind is.result (num_above t.whole.tables.classes t.assigned.same _ (shape is.result) met is.fits.free))) told.1)

pub flags : (b : Bool) → RowIsWrittenWhere Stay (row.Bool b)
flags b = rows_of_none Stay (row.Bool b) (record { asks = λ p a g node xs. refl; fits = λ tables xs. refl }) (λ tables x. refl) (λ tables x y. refl) (λ x y z. refl) written
  where
    written : NoneIsWritten Stay (row.Bool b)
    written t typed n graph q is met told =
        given_written (row.Bool b) (flag_lowers b) (λ t n graph o g core vs w given. none_fine _ _ (λ w. tt) vs w) t typed told n graph q is
        (λ w covers. flags_are_given t.seen (world t).around (place_of (lowered_in t n graph) q.result) w covers b (kind_given t n graph (with_args (row.Bool b) [] q) is kind.Flag (flag_kind is.result (truth_above t.whole.tables.classes t.assigned.same _ (shape is.result) met is.fits.free))))

-- ---- constants

pub constants_given : (c : Const) → RowIsWrittenWhere (ConstantFits c) (row.Constant c)
constants_given c = rows_of_none (ConstantFits c) (row.Constant c) (record { asks = λ p a g node xs. refl; fits = λ tables xs. refl }) (λ tables x. refl) (λ tables x y. refl) (λ x y z. refl) written
  where
    written : NoneIsWritten (ConstantFits c) (row.Constant c)
    written t typed n graph q is met told =
        given_written (row.Constant c) (constant_lowers c) (λ t n graph o g core vs w given. none_fine _ _ (λ w. tt) vs w) t typed told.0 n graph q is
        (λ w covers. constants_are_given t.seen (world t).around (place_of (lowered_in t n graph) q.result) w covers c told.1)

-- ---- turns of loops

pub turns : RowIsWrittenWhere (ResultIs is_none) row.Turn
turns = rows_of_none (ResultIs is_none) row.Turn (record { asks = λ p a g node xs. refl; fits = λ tables xs. refl }) (λ tables x. refl) (λ tables x y. refl) (λ x y z. refl) written
  where
    written : NoneIsWritten (ResultIs is_none) row.Turn
    written t typed n graph q is met told w early late room =
        let o : Op = with_args row.Turn [] q in
        is_written of_conversions t typed n graph o is (λ g core vs w given. none_fine _ _ (pays_fine _ turn_cost (give MeantNothing) (λ w. tt)) vs w) w late room 0 [] (λ l core g heap memory. tt) (lower_op (world t).around row.Turn (place_of (lowered_in t n graph) q.result) [] (before o w))
        (turn_lowers (world t) (place_of (lowered_in t n graph) q.result) (before o w)) (turns_are_paid t.seen (world t).around (place_of (lowered_in t n graph) q.result) (before o w) q.covered (none_kind _ told))

-- ---- `None` and strings

-- `None` goes to what takes it
none_value : (t : Typed) (n : ℕ) (z : Option Element) → Goes (layout t) t.seen (Some element.NoneOnly) z → IsValue (world t).around t.seen z const.None
none_value t n z (Never k) = absurd (let f : kind.Nothing ≡ kind.Never = k in cc)
none_value t n z (Staying (Plainly (Same kind.Nothing simple one two))) = constants.nothing two
none_value t n z (Staying (Plainly (Same k simple one two))) = constants.nothing (two ∙ sym one)
none_value t n z (Staying (Plainly (Wider one two))) = absurd (let f : kind.Nothing ≡ kind.Text = one in cc)
none_value t n z (Staying (Plainly (Whole k same two typed))) = absurd (let f : kind.Nothing ≡ kind.Tuple = ap kind_seen same ∙ two in cc)
none_value t n z (Staying (AsList k one two three four)) = absurd (let f : kind.Nothing ≡ kind.List = three in cc)
none_value t n z (Staying (AsMaybe k one two three four)) = absurd (let f : kind.Nothing ≡ kind.MaybeList = three in cc)
none_value t n z (Staying (AsDict k one two three four)) = absurd (let f : kind.Nothing ≡ kind.Dict = three in cc)
none_value t n z (Staying (AsMaybeDict k one two three four)) = absurd (let f : kind.Nothing ≡ kind.MaybeDict = three in cc)
none_value t n z (Staying (AsInstance k a b r s one two three four five six)) = absurd (not_made a r (ap kind_seen three))
  where
    not_made : (a : ℕ) (r : Bool) → kind.Nothing ≡ kind_of_element (element.Instance a r) → ⊥
    not_made a true e = cc
    not_made a false e = cc
none_value t n z (Staying (AsFunction fs gs r s one two three four)) = absurd (not_called fs r (ap kind_seen one))
  where
    not_called : (fs : List ℕ) (r : Bool) → kind.Nothing ≡ kind_of_element (element.Func fs r) → ⊥
    not_called fs true e = cc
    not_called fs false e = cc
none_value t n z (Missing k takes null) = constants.missing takes null
none_value t n z (Texted k takes) = absurd (let f : kind.Nothing ≡ kind.Byte = k in cc)
none_value t n z (GoItems l m parts others one two all) = absurd (let f : kind.Nothing ≡ kind.Tuple = ap kind_seen one.is in cc)

none_shape : shape element.NoneOnly ≡ NoneOnly
none_shape = ap shape (sym element.rolls-NoneOnly) ∙ fold-roll-Element Shape shape_step Element-F.NoneOnly

pub nones : RowIsWrittenWhere Stay row.None
nones = rows_of_none Stay row.None (record { asks = λ p a g node xs. refl; fits = λ tables xs. refl }) (λ tables x. refl) (λ tables x y. refl) (λ x y z. refl) written
  where
    written : NoneIsWritten Stay row.None
    written t typed n graph q is met told =
        given_written row.None none_lowers (λ t n graph o g core vs w given. none_fine _ _ (λ w. tt) vs w) t typed told n graph q is
        (λ w covers. none_is_given t.seen (world t).around (place_of (lowered_in t n graph) q.result) w covers
        (none_value t n (element_at t.known.annotation n q.result) (goes_there t n graph (with_args row.None [] q) is element.NoneOnly
        (elements_pass t typed element.NoneOnly is.result (laid.Simple refl) is.result_laid (subst (λ s. Below t.classes.classes (same t) s (shape is.result)) (sym none_shape) (below_so t typed NoneOnly (shape is.result) met))))))

-- strings of one byte stand as bytes
one_byte : (around : Around) (known : Known) (z : Option Element) (bytes : List ℕ) → (length bytes == 1) ≡ true → AreBytes bytes → kind_seen z ≡ kind.Byte → IsValue around known z (const.Str bytes)
one_byte around known z [] e small k = absurd (let f : false ≡ true = e in cc)
one_byte around known z (b ∷ []) e small k = constants.byte b k small.0
one_byte around known z (b ∷ c ∷ bytes) e small k = absurd (grind (arith, nat_tests, e))

string_value : (around : Around) (known : Known) (k : List ClassInfo) (t : List ℕ) (z : Element) (bytes : List ℕ) → length bytes < 2 ^ 63 → AreBytes bytes → (s : Shape) → shape z ≡ s → is_clash s ≡ false → (b : Bool) → (length bytes == 1) ≡ b → Below k t (if b then Str One else Str Any) s → IsValue around known (Some z) (const.Str bytes)
string_value around known k t z bytes short small _ e free true one (order.str a One h) = one_byte around known (Some z) bytes one small (kind_at z (Str One) e)
string_value around known k t z bytes short small _ e free true one (order.str a Any h) = constants.text bytes (ap takes_text (kind_at z (Str Any) e)) short small
string_value around known k t z bytes short small _ e free true one (order.str a OrNone h) = constants.text bytes (ap takes_text (kind_at z (Str OrNone) e)) short small
string_value around known k t z bytes short small _ e free true one (order.clash x o p h i) = absurd (yes free)
string_value around known k t z bytes short small _ e free false one (order.str a One h) = absurd h
string_value around known k t z bytes short small _ e free false one (order.str a Any h) = constants.text bytes (ap takes_text (kind_at z (Str Any) e)) short small
string_value around known k t z bytes short small _ e free false one (order.str a OrNone h) = constants.text bytes (ap takes_text (kind_at z (Str OrNone) e)) short small
string_value around known k t z bytes short small _ e free false one (order.clash x o p h i) = absurd (yes free)

pub strings : (bytes : List ℕ) → RowIsWrittenWhere (StringFits bytes) (row.Str bytes)
strings bytes = rows_of_none (StringFits bytes) (row.Str bytes) (record { asks = λ p a g node xs. refl; fits = λ tables xs. refl }) (λ tables x. refl) (λ tables x y. refl) (λ x y z. refl) written
  where
    written : NoneIsWritten (StringFits bytes) (row.Str bytes)
    written t typed n graph q is met told =
        given_written (row.Str bytes) (string_lowers bytes) (λ t n graph o g core vs w given. none_fine _ _ (λ w. tt) vs w) t typed told.0 n graph q is
        (λ w covers. strings_are_given t.seen (world t).around (place_of (lowered_in t n graph) q.result) w covers bytes
        (subst (λ e. IsValue (world t).around t.seen e (const.Str bytes)) (sym is.result_is)
        (string_value (world t).around t.seen t.whole.tables.classes t.assigned.same is.result bytes told.1 told.2 (shape is.result) refl is.fits.free (length bytes == 1) refl met)))
