-- The order of words, bytes and strings.
use Rattle.std.proofs.Common.{◌≡◌, ◌≢◌, ℕ, Bool, true, false, [], ◌∷◌, ◌++◌, None, refl, sym, ap, ◌∙◌, subst}
use Rattle.std.specs.Prelude.{◌&&◌, ◌||◌}
use Rattle.ann_element.specs.declared.element.Element.{Element}
use Rattle.ann_lattice.specs.Kind.{given, is_int, is_str, misfit}
use Rattle.ann_lattice.specs.Row.{both_int, less, of_none, of_one, of_three, of_two}
use Rattle.ann_lattice.specs.Shape.{One, Any as AnyWidth, OrNone, Shape, Nothing, Truth, Str, shape}
use Rattle.class_desc.specs.Tables.{Tables}
use Rattle.conversion_laws.specs.Compared.{BytesAreOrdered}
use Rattle.conversion_laws.proofs.Deciding.{at_least_is_done, at_most_is_done, greater_is_done, less_is_done}
use Rattle.flow_graph.specs.declared.graph.Graph.{Graph}
use Rattle.flow_graph.specs.declared.graph.Op.{Op}
use Rattle.ll_build.specs.declared.needs.Helper.TheVariants as helper
use Rattle.ll_code.specs.declared.program.LlType.TheVariants as type
use Rattle.lower_laws.specs.Asked.{Help}
use Rattle.lower_laws.specs.Done.{IsDone as IsPlainlyDone}
use Rattle.lower_laws.specs.Follows.{OnWords}
use Rattle.lower_laws.specs.Texted.{asks_of, text_asks}
use Rattle.lower_laws.specs.Values.{is_plain, is_simple}
use Rattle.lower_laws.proofs.Bridged.{followed_is_done}
use Rattle.lower_laws.proofs.Ordered.{at_least_is_followed, at_most_is_followed, greater_is_followed, less_is_followed}
use Rattle.lower_laws.proofs.Strung.{at_least_is_strung, at_most_is_strung, greater_is_strung, less_is_strung}
use Rattle.lower_laws.proofs.Typing.{is_word, place_of_flags}
use Rattle.rpy_meaning.specs.Operations.{compare}
use Rattle.rpy_meaning.specs.declared.row.RowOp.TheVariants as row
use Rattle.rpy_tree.specs.declared.syntax.CmpOp.{CmpOp}
use Rattle.rpy_tree.specs.declared.syntax.CmpOp.TheVariants as cmp
use Rattle.rtyper_class.specs.Lowering.{lowered as class_lowered, of_some as class_of_some, of_two as class_of_two}
use Rattle.rtyper_class.specs.Seen.{World}
use Rattle.rtyper_data.specs.Seen.{Around, Operand, Place, kind_of, Writing}
use Rattle.rtyper_layout.specs.declared.kind.Kind.{Kind}
use Rattle.rtyper_layout.specs.declared.kind.Kind.TheVariants as kind
use Rattle.rtyper_layout.specs.Kinds.{is_text, kind_of as kind_of_element, kind_seen}
use Rattle.rtyper_list.specs.Lowering.{lowered as list_lowered, of_some as list_of_some, second_of_two}
use Rattle.rtyper_list.specs.Operands.{is_list, of_list}
use Rattle.rtyper_op.specs.Lowering.{lower_op, never_comes}
use Rattle.rtyper_program.specs.Blocks.{lowered}
use Rattle.rtyper_program.specs.Raises.{is_covered}
use Rattle.rtyper_program.specs.Seen.{operand_of, place_of}
use Rattle.rtyped_runs.specs.Laws.{before, of_conversions}
use Rattle.typed_rows.specs.Programs.{Typed, IsTyped, world}
use Rattle.typed_rows.specs.Rows.{IsOp, IsWritten, RowIsWritten, lowered_in}
use Rattle.value_rows.proofs.Lowering.{two_unlisted}
use Rattle.value_rows.proofs.Operands.{Above, Any, IsOperand, IsPlain, TwoAreWritten, misfits, rows_of_two, whatever, with_args}
use Rattle.value_rows.proofs.Premises.{AsksStand, Few, helps_stand, is_written, lists_stand, nothing_stands}
use Rattle.value_rows.proofs.Shaped.{flag_kind, kind_at, no, truth_above, word_kind}
use Rattle.value_rows.proofs.Throwing.{compare_fine, two_fine}
use Rattle.value_rows.proofs.Words.{IsTwoRow, and_left, and_right, kind_given, kind_there, two_written}

-- an order: how it is lowered, and its laws
record IsOrder (o : CmpOp) : Type 0 where
  plain : IsPlain (row.Compare o)
  zero : of_none (row.Compare o) ≡ misfit
  one : (tables : Tables) (x : Shape) → of_one tables (row.Compare o) x Nothing ≡ misfit
  three : (x y z : Shape) → of_three (row.Compare o) x y z ≡ misfit
  two : (tables : Tables) (x y : Shape) → of_two tables (row.Compare o) x y Nothing ≡ less x y
  lowers : (world : World) (place : Place) (a b : Operand) (w : Writing) → never_comes (kind_of a) ≡ false → never_comes (kind_of b) ≡ false → is_list a ≡ false → lowered world (row.Compare o) place (a ∷ b ∷ []) w ≡ lower_op world.around (row.Compare o) place (a ∷ b ∷ []) w
  words : OnWords (row.Compare o) type.Bool
  bytes : BytesAreOrdered o
  texts : (around : Around) (place : Place) (a b : Operand) (w : Writing) → is_text (kind_of a) ≡ true → is_text (kind_of b) ≡ true → (kind_of a ≡ kind.Byte → kind_of b ≢ kind.Byte) → kind_seen place.element ≡ kind.Flag
      → IsPlainlyDone around (row.Compare o) w.found.covered (asks_of a ++ (asks_of b ++ Help helper.StrLess ∷ [])) place (a ∷ b ∷ []) w

-- ---- what is asked for

mixed_stand : AsksStand (Help helper.StrOfChar ∷ Help helper.StrLess ∷ [])
mixed_stand t typed found early late = lists_stand t typed (Help helper.StrOfChar ∷ Help helper.StrLess ∷ []) found early late (refl, (refl, tt))

string_stands : AsksStand (Help helper.StrLess ∷ [])
string_stands = helps_stand helper.StrLess (λ c. refl)

module _ (o : CmpOp) (it : IsOrder o) where
  few : (t : Typed) (n : ℕ) (graph : Graph) (q : Op) (a b : ℕ) → Few t n graph (with_args (row.Compare o) (a ∷ b ∷ []) q)
  few t n graph q a b g core vs w given = two_fine (is_covered q.covered) (compare q.covered o) (compare_fine (is_covered q.covered) q.covered (λ e. e) o) vs w

  word_row : IsTwoRow kind.Word kind.Word kind.Flag (row.Compare o) (λ c. [])
  word_row = record {
    law = λ around place a b w ka kb kc.
        followed_is_done around (row.Compare o) place (a ∷ b ∷ []) w (it.words around place a b w (is_word around a ka) (is_word around b kb) (place_of_flags around.layout place.element kc)) (ap is_plain kc)
        (ap (λ c. c && (is_plain (kind_of b) && true)) (ap is_plain ka) ∙ ap (λ c. c && true) (ap is_plain kb)) w.found.covered;
    lowers = λ world place a b w ka kb. it.lowers world place a b w (ap never_comes ka) (ap never_comes kb) (ap of_list ka);
    stand = λ c. nothing_stands;
    few = few;
    simple = (refl, refl, refl);
  }

  -- of two kinds of strings, not both of them bytes
  text_row : (s u : Kind) → is_text s ≡ true → is_text u ≡ true → (s ≡ kind.Byte → u ≢ kind.Byte) → of_list s ≡ false → (never_comes s ≡ false) × (never_comes u ≡ false) × (is_simple s ≡ true) × (is_simple u ≡ true) → AsksStand (text_asks s ++ (text_asks u ++ Help helper.StrLess ∷ []))
      → IsTwoRow s u kind.Flag (row.Compare o) (λ c. text_asks s ++ (text_asks u ++ Help helper.StrLess ∷ []))
  text_row s u ts tu apart unlisted are stand = record {
    law = λ around place a b w ka kb kc.
        subst (λ k. IsPlainlyDone around (row.Compare o) w.found.covered (text_asks k ++ (text_asks u ++ Help helper.StrLess ∷ [])) place (a ∷ b ∷ []) w) ka
        (subst (λ k. IsPlainlyDone around (row.Compare o) w.found.covered (asks_of a ++ (text_asks k ++ Help helper.StrLess ∷ [])) place (a ∷ b ∷ []) w) kb
        (it.texts around place a b w (ap is_text ka ∙ ts) (ap is_text kb ∙ tu) (λ h k. apart (sym ka ∙ h) (sym kb ∙ k)) kc));
    lowers = λ world place a b w ka kb. it.lowers world place a b w (ap never_comes ka ∙ are.0) (ap never_comes kb ∙ are.1) (ap of_list ka ∙ unlisted);
    stand = λ c. stand;
    few = few;
    simple = (are.2, are.3, refl);
  }

  module _ (t : Typed) (typed : IsTyped t) (n : ℕ) (graph : Graph) (q : Op) (a b : ℕ) (x y : Element) (is : IsOp t n (with_args (row.Compare o) (a ∷ b ∷ []) q)) (first : IsOperand t n a x) (second : IsOperand t n b y) where
    abbrev ordering : Op
    ordering = with_args (row.Compare o) (a ∷ b ∷ []) q

    bytes_written : kind_of_element x ≡ kind.Byte → kind_of_element y ≡ kind.Byte → kind_of_element is.result ≡ kind.Flag → IsWritten t n graph ordering
    bytes_written kx ky kz w early late room =
        let ka = kind_there t n graph a x kind.Byte first kx in
        let kb = kind_there t n graph b y kind.Byte second ky in
        is_written of_conversions t typed n graph ordering is (few t n graph q a b) w late room 0 [] (λ l core g heap memory. tt)
        (lower_op (world t).around (row.Compare o) (place_of (lowered_in t n graph) q.result) (operand_of (lowered_in t n graph) a ∷ operand_of (lowered_in t n graph) b ∷ []) (before ordering w))
        (it.lowers (world t) (place_of (lowered_in t n graph) q.result) (operand_of (lowered_in t n graph) a) (operand_of (lowered_in t n graph) b) (before ordering w) (ap never_comes ka) (ap never_comes kb) (ap of_list ka))
        (it.bytes t.seen (world t).around (place_of (lowered_in t n graph) q.result) (operand_of (lowered_in t n graph) a) (operand_of (lowered_in t n graph) b) (before ordering w) q.covered ka kb (kind_given t n graph ordering is kind.Flag kz))

    strings_written : kind_of_element is.result ≡ kind.Flag → (s u : Shape) → shape x ≡ s → shape y ≡ u → is_str s ≡ true → is_str u ≡ true → IsWritten t n graph ordering
    strings_written kz (Str One) (Str One) ex ey is_s is_u = bytes_written (kind_at x (Str One) ex) (kind_at y (Str One) ey) kz
    strings_written kz (Str One) (Str AnyWidth) ex ey is_s is_u =
        two_written kind.Byte kind.Text kind.Flag (row.Compare o) _ (text_row kind.Byte kind.Text refl refl (λ h k. cc) refl (refl, refl, refl, refl) mixed_stand) t typed n graph q a b x y is first second (kind_at x (Str One) ex) (kind_at y (Str AnyWidth) ey) kz
    strings_written kz (Str AnyWidth) (Str One) ex ey is_s is_u =
        two_written kind.Text kind.Byte kind.Flag (row.Compare o) _ (text_row kind.Text kind.Byte refl refl (λ h k. cc) refl (refl, refl, refl, refl) mixed_stand) t typed n graph q a b x y is first second (kind_at x (Str AnyWidth) ex) (kind_at y (Str One) ey) kz
    strings_written kz (Str AnyWidth) (Str AnyWidth) ex ey is_s is_u =
        two_written kind.Text kind.Text kind.Flag (row.Compare o) _ (text_row kind.Text kind.Text refl refl (λ h k. cc) refl (refl, refl, refl, refl) string_stands) t typed n graph q a b x y is first second (kind_at x (Str AnyWidth) ex) (kind_at y (Str AnyWidth) ey) kz
    strings_written kz (Str OrNone) u ex ey is_s is_u = absurd (no is_s)
    strings_written kz (Str One) (Str OrNone) ex ey is_s is_u = absurd (no is_u)
    strings_written kz (Str AnyWidth) (Str OrNone) ex ey is_s is_u = absurd (no is_u)
    strings_written kz (Str One) u ex ey is_s is_u = absurd (no is_u)
    strings_written kz (Str AnyWidth) u ex ey is_s is_u = absurd (no is_u)
    strings_written kz s u ex ey is_s is_u = absurd (no is_s)

    order_by : (w s : Bool) → both_int (shape x) (shape y) ≡ w → (is_str (shape x) && is_str (shape y)) ≡ s → Above t n (row.Compare o) ordering is (given (w || s) (Truth None)) → IsWritten t n graph ordering
    order_by true s ew es met =
        two_written kind.Word kind.Word kind.Flag (row.Compare o) (λ c. []) word_row t typed n graph q a b x y is first second (word_kind x (and_left (is_int (shape x)) (is_int (shape y)) ew)) (word_kind y (and_right (is_int (shape x)) (is_int (shape y)) ew))
        (flag_kind is.result (truth_above t.whole.tables.classes t.assigned.same None (shape is.result) met is.fits.free))
    order_by false true ew es met =
        strings_written (flag_kind is.result (truth_above t.whole.tables.classes t.assigned.same None (shape is.result) met is.fits.free)) (shape x) (shape y) refl refl (and_left (is_str (shape x)) (is_str (shape y)) es) (and_right (is_str (shape x)) (is_str (shape y)) es)
    order_by false false ew es met = absurd (misfits t n (row.Compare o) ordering is misfit refl met)

  order_row : RowIsWritten (row.Compare o)
  order_row = whatever (row.Compare o) (rows_of_two Any (row.Compare o) it.plain it.zero it.one it.three written)
    where
      written : TwoAreWritten Any (row.Compare o)
      written t typed n graph q a b x y is first second met told =
          order_by t typed n graph q a b x y is first second (both_int (shape x) (shape y)) (is_str (shape x) && is_str (shape y)) refl refl
          (subst (λ s. Above t n (row.Compare o) (with_args (row.Compare o) (a ∷ b ∷ []) q) is s) (it.two t.whole.tables (shape x) (shape y)) met)

lowers_less : (world : World) (place : Place) (a b : Operand) (w : Writing) → never_comes (kind_of a) ≡ false → never_comes (kind_of b) ≡ false → is_list a ≡ false → lowered world (row.Compare cmp.Lt) place (a ∷ b ∷ []) w ≡ lower_op world.around (row.Compare cmp.Lt) place (a ∷ b ∷ []) w
unfolding class_lowered class_of_some class_of_two list_lowered list_of_some second_of_two
lowers_less world place a b w ca cb plain = two_unlisted world (row.Compare cmp.Lt) place a b w ca cb plain refl refl refl refl refl

lowers_at_most : (world : World) (place : Place) (a b : Operand) (w : Writing) → never_comes (kind_of a) ≡ false → never_comes (kind_of b) ≡ false → is_list a ≡ false → lowered world (row.Compare cmp.Le) place (a ∷ b ∷ []) w ≡ lower_op world.around (row.Compare cmp.Le) place (a ∷ b ∷ []) w
unfolding class_lowered class_of_some class_of_two list_lowered list_of_some second_of_two
lowers_at_most world place a b w ca cb plain = two_unlisted world (row.Compare cmp.Le) place a b w ca cb plain refl refl refl refl refl

lowers_greater : (world : World) (place : Place) (a b : Operand) (w : Writing) → never_comes (kind_of a) ≡ false → never_comes (kind_of b) ≡ false → is_list a ≡ false → lowered world (row.Compare cmp.Gt) place (a ∷ b ∷ []) w ≡ lower_op world.around (row.Compare cmp.Gt) place (a ∷ b ∷ []) w
unfolding class_lowered class_of_some class_of_two list_lowered list_of_some second_of_two
lowers_greater world place a b w ca cb plain = two_unlisted world (row.Compare cmp.Gt) place a b w ca cb plain refl refl refl refl refl

lowers_at_least : (world : World) (place : Place) (a b : Operand) (w : Writing) → never_comes (kind_of a) ≡ false → never_comes (kind_of b) ≡ false → is_list a ≡ false → lowered world (row.Compare cmp.Ge) place (a ∷ b ∷ []) w ≡ lower_op world.around (row.Compare cmp.Ge) place (a ∷ b ∷ []) w
unfolding class_lowered class_of_some class_of_two list_lowered list_of_some second_of_two
lowers_at_least world place a b w ca cb plain = two_unlisted world (row.Compare cmp.Ge) place a b w ca cb plain refl refl refl refl refl

pub lesser : RowIsWritten (row.Compare cmp.Lt)
lesser = order_row cmp.Lt (record {
  plain = record { asks = λ p a g node xs. refl; fits = λ tables xs. refl };
  zero = refl;
  one = λ tables x. refl;
  three = λ x y z. refl;
  two = λ tables x y. refl;
  lowers = lowers_less;
  words = less_is_followed;
  bytes = less_is_done;
  texts = λ around place a b w ta tb apart kc. (let d = less_is_strung around place a b w ta tb apart kc in record { ops = d.ops; new = d.new; asked = d.asked; written = d.written; types = d.types; follows = d.follows });
})

pub at_most : RowIsWritten (row.Compare cmp.Le)
at_most = order_row cmp.Le (record {
  plain = record { asks = λ p a g node xs. refl; fits = λ tables xs. refl };
  zero = refl;
  one = λ tables x. refl;
  three = λ x y z. refl;
  two = λ tables x y. refl;
  lowers = lowers_at_most;
  words = at_most_is_followed;
  bytes = at_most_is_done;
  texts = λ around place a b w ta tb apart kc. (let d = at_most_is_strung around place a b w ta tb apart kc in record { ops = d.ops; new = d.new; asked = d.asked; written = d.written; types = d.types; follows = d.follows });
})

pub greater : RowIsWritten (row.Compare cmp.Gt)
greater = order_row cmp.Gt (record {
  plain = record { asks = λ p a g node xs. refl; fits = λ tables xs. refl };
  zero = refl;
  one = λ tables x. refl;
  three = λ x y z. refl;
  two = λ tables x y. refl;
  lowers = lowers_greater;
  words = greater_is_followed;
  bytes = greater_is_done;
  texts = λ around place a b w ta tb apart kc. (let d = greater_is_strung around place a b w ta tb apart kc in record { ops = d.ops; new = d.new; asked = d.asked; written = d.written; types = d.types; follows = d.follows });
})

pub at_least : RowIsWritten (row.Compare cmp.Ge)
at_least = order_row cmp.Ge (record {
  plain = record { asks = λ p a g node xs. refl; fits = λ tables xs. refl };
  zero = refl;
  one = λ tables x. refl;
  three = λ x y z. refl;
  two = λ tables x y. refl;
  lowers = lowers_at_least;
  words = at_least_is_followed;
  bytes = at_least_is_done;
  texts = λ around place a b w ta tb apart kc. (let d = at_least_is_strung around place a b w ta tb apart kc in record { ops = d.ops; new = d.new; asked = d.asked; written = d.written; types = d.types; follows = d.follows });
})
