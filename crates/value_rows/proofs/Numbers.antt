-- Sums and products of words, their results that have to fit, the smaller and the greater one.
use Rattle.std.proofs.Common.{◌≡◌, ℕ, Bool, true, false, List, [], ◌∷◌, Option, Some, None, refl, sym, ap, ◌∙◌, subst}
use Rattle.std.specs.Prelude.{◌&&◌, ◌||◌, if◌then◌else◌}
use Rattle.ann_element.specs.declared.element.Element.{Element}
use Rattle.ann_lattice.specs.Kind.{given, is_int, is_positive, misfit, positive_if}
use Rattle.ann_lattice.specs.Row.{add, binary, binary_other, both_int, of_two, can_be_checked, multiply, number}
use Rattle.ann_lattice.specs.Shape.{One, Any as AnyWidth, OrNone, Shape, Nothing, NoneOnly, Truth, Num, Str, Tup, Lst, Dct, Inst, Fun, Clash, shape}
use Rattle.flow_graph.specs.declared.graph.Graph.{Graph}
use Rattle.flow_graph.specs.declared.graph.Op.{Op}
use Rattle.ll_build.specs.declared.needs.Helper.{Helper}
use Rattle.ll_build.specs.declared.needs.Helper.TheVariants as helper
use Rattle.ll_code.specs.declared.program.LlType.TheVariants as type
use Rattle.lower_laws.specs.Asked.{Help, Make}
use Rattle.lower_laws.specs.Checked.{IsChecked}
use Rattle.lower_laws.specs.Done.{IsDone as IsPlainlyDone}
use Rattle.lower_laws.specs.Follows.{IsWord}
use Rattle.lower_laws.specs.Helped.{OnTwo}
use Rattle.lower_laws.specs.Values.{is_plain}
use Rattle.lower_laws.proofs.Bridged.{helped_is_done}
use Rattle.lower_laws.proofs.Checked.{difference_is_done, floor_is_done, product_is_done, quotient_is_done, rest_is_done, shift_is_done, sum_is_done}
use Rattle.lower_laws.proofs.Numbers.{greatest_is_helped, least_is_helped}
use Rattle.lower_laws.proofs.Typing.{is_word as is_a_word, place_of_words}
use Rattle.lower_laws.proofs.Words.{added_is_followed, product_is_followed, sum_is_followed}
use Rattle.rpy_meaning.specs.Arithmetic.{checked as meant_checked, greatest, least}
use Rattle.rpy_meaning.specs.Classes.{no_covers}
use Rattle.rpy_meaning.specs.Sequences.{add_to}
use Rattle.rpy_meaning.specs.declared.row.Covers.{Covers}
use Rattle.rpy_meaning.specs.declared.row.RowOp.{RowOp}
use Rattle.rpy_meaning.specs.declared.row.RowOp.TheVariants as row
use Rattle.rpy_tree.specs.declared.syntax.BinOp.{BinOp}
use Rattle.rpy_tree.specs.declared.syntax.BinOp.TheVariants as bin
use Rattle.rtyper_class.specs.Lowering.{lowered as class_lowered, of_some as class_of_some, of_two as class_of_two}
use Rattle.rtyper_class.specs.Seen.{World}
use Rattle.rtyper_data.specs.Seen.{Around, Operand, Place, kind_of, Writing}
use Rattle.rtyper_layout.specs.declared.kind.Kind.TheVariants as kind
use Rattle.rtyper_layout.specs.Kinds.{kind_seen}
use Rattle.rtyper_list.specs.Lowering.{lowered as list_lowered, of_some as list_of_some, second_of_two, sum_or}
use Rattle.rtyper_list.specs.Operands.{is_none}
use Rattle.rtyper_op.specs.Lowering.{checked_small, failure, lower_op, never_comes}
use Rattle.rtyper_program.specs.Blocks.{lowered}
use Rattle.rtyper_program.specs.Raises.{is_covered}
use Rattle.typed_rows.specs.Programs.{Typed}
use Rattle.typed_rows.specs.Rows.{FirstIs, IsOp, RowIsWritten, RowIsWrittenWhere, kind_at}
use Rattle.value_rows.specs.Kinds.{is_word}
use Rattle.value_rows.proofs.Lowering.{two_unlisted}
use Rattle.value_rows.proofs.Operands.{Above, Any, IsOperand, TwoAreWritten, misfits, rows_of_two, whatever, with_args}
use Rattle.value_rows.proofs.Premises.{AsksStand, Few, checks_stand, helps_stand, nothing_stands}
use Rattle.value_rows.proofs.Shaped.{kind_in, kind_is, no, num_above, word_kind}
use Rattle.value_rows.proofs.Throwing.{add_to_fine, checked_fine, two_fine, words_fine}
use Rattle.value_rows.proofs.Words.{AreWords, IsTwoRow, and_left, and_right, binary_words, followed_row, not_listed, number_is, two_written, words_followed}

-- ---- where the first operand is a word

word_test : (s : Shape) → is_word (kind_in s) ≡ is_int s
word_test Nothing = refl
word_test NoneOnly = refl
word_test (Truth b) = refl
word_test (Num b) = refl
word_test (Str One) = refl
word_test (Str AnyWidth) = refl
word_test (Str OrNone) = refl
word_test (Tup xs) = refl
word_test (Lst s true) = refl
word_test (Lst s false) = refl
word_test (Dct s true) = refl
word_test (Dct s false) = refl
word_test (Inst c true) = refl
word_test (Inst c false) = refl
word_test (Fun fs true) = refl
word_test (Fun fs false) = refl
word_test (Clash o p) = refl

pub int_first : (t : Typed) (n : ℕ) (r : RowOp) (o : Op) (a : ℕ) (more : List ℕ) (x : Element) → IsOperand t n a x → FirstIs is_word t n (with_args r (a ∷ more) o) → is_int (shape x) ≡ true
int_first t n r o a more x operand told =
    let q : Some a ≡ Some told.0 = told.1 in
    let v : a ≡ told.0 = cc in
    sym (word_test (shape x)) ∙ ap is_word (sym (kind_is x)) ∙ ap (λ e. is_word (kind_seen e)) (sym operand.is) ∙ ap (λ v. is_word (kind_at t n v)) v ∙ told.2

-- ---- sums and products

no_sum : (site : Option ℕ) (x y : Shape) → is_int x ≡ true → add site x y ≡ misfit
no_sum site (Num b) y e = refl
no_sum site x y e = absurd (no e)

given_none : (b : Bool) → given b misfit ≡ misfit
given_none true = refl
given_none false = refl

no_product : (site : Option ℕ) (x : Shape) → is_int x ≡ true → multiply site x ≡ misfit
no_product site (Num b) e = refl
no_product site x e = absurd (no e)

module _ (r : RowOp) (it : IsTwoRow kind.Word kind.Word kind.Word r (λ c. [])) (p : BinOp) (site : Option ℕ) (other : (x y : Shape) → is_int x ≡ true → binary_other p site x y ≡ misfit) where
  first_word : ((t : Typed) (n : ℕ) (o : Op) (is : IsOp t n o) (x y : Shape) → Above t n r o is (of_two t.whole.tables r x y Nothing) → Above t n r o is (binary p site x y)) → TwoAreWritten (FirstIs is_word) r
  first_word so t typed n graph q a b x y is first second met told =
      let k = binary_words t n r (with_args r (a ∷ b ∷ []) q) is x y p site (other (shape x) (shape y) (int_first t n r q a (b ∷ []) x first told)) (so t n (with_args r (a ∷ b ∷ []) q) is (shape x) (shape y) met) in
      two_written kind.Word kind.Word kind.Word r (λ c. []) it t typed n graph q a b x y is first second k.first k.second k.result

module _ (site : Option ℕ) where
  pub sums : RowIsWrittenWhere (FirstIs is_word) (row.Binary bin.Add site)
  sums = rows_of_two (FirstIs is_word) (row.Binary bin.Add site) (record { asks = λ p a g node xs. refl; fits = λ tables xs. refl }) refl (λ tables x. refl) (λ x y z. refl)
      (first_word (row.Binary bin.Add site) (followed_row bin.Add site (sum_is_followed site)) bin.Add site (no_sum site) (λ t n o is x y h. h))

  pub products : RowIsWrittenWhere (FirstIs is_word) (row.Binary bin.Mul site)
  products = rows_of_two (FirstIs is_word) (row.Binary bin.Mul site) (record { asks = λ p a g node xs. refl; fits = λ tables xs. refl }) refl (λ tables x. refl) (λ x y z. refl)
      (first_word (row.Binary bin.Mul site) (followed_row bin.Mul site (product_is_followed site)) bin.Mul site (λ x y e. ap (given (is_int y)) (no_product site x e) ∙ given_none (is_int y)) (λ t n o is x y h. h))

-- ---- rows of two words that are lowered without more

module _ (r : RowOp) where
  abbrev Lowers : Type 0
  Lowers = (world : World) (place : Place) (a b : Operand) (w : Writing) → kind_of a ≡ kind.Word → kind_of b ≡ kind.Word → lowered world r place (a ∷ b ∷ []) w ≡ lower_op world.around r place (a ∷ b ∷ []) w

added_lowers : Lowers row.AddTo
unfolding class_lowered class_of_some class_of_two list_lowered list_of_some second_of_two sum_or
added_lowers world place a b w ka kb =
    two_unlisted world row.AddTo place a b w (ap never_comes ka) (ap never_comes kb) (not_listed a ka) refl refl refl refl
    (ap (λ c. if c && is_none a then failure world.around place w else lower_op world.around row.AddTo place (a ∷ b ∷ []) w) (not_listed b kb))

pub added : RowIsWrittenWhere (FirstIs is_word) row.AddTo
added = rows_of_two (FirstIs is_word) row.AddTo (record { asks = λ p a g node xs. refl; fits = λ tables xs. refl }) refl (λ tables x. refl) (λ x y z. refl)
    (first_word row.AddTo (record { law = words_followed row.AddTo added_is_followed; lowers = added_lowers; stand = λ c. nothing_stands; few = few; simple = (refl, refl, refl) }) bin.Add None (no_sum None) (λ t n o is x y h. h))
  where
    few : (t : Typed) (n : ℕ) (graph : Graph) (o : Op) (a b : ℕ) → Few t n graph (with_args row.AddTo (a ∷ b ∷ []) o)
    few t n graph o a b g core vs w given = two_fine (is_covered o.covered) (add_to o.covered) (add_to_fine (is_covered o.covered) o.covered (λ e. e)) vs w

-- ---- the smaller and the greater

-- a law of two words by a helper that has nothing to raise, for an operation that is the same whatever is covered
helped_words : (h : Helper) (r : RowOp) → OnTwo IsWord IsWord h r type.Signed → (around : Around) (place : Place) (a b : Operand) (w : Writing) → kind_of a ≡ kind.Word → kind_of b ≡ kind.Word → kind_seen place.element ≡ kind.Word → IsPlainlyDone around r no_covers (Help h ∷ []) place (a ∷ b ∷ []) w
helped_words h r law around place a b w ka kb kc =
    helped_is_done around r h place (a ∷ b ∷ []) w (law around place a b w (is_a_word around a ka) (is_a_word around b kb) (place_of_words around.layout place.element kc)) (ap is_plain kc)
    (ap (λ c. c && (is_plain (kind_of b) && true)) (ap is_plain ka) ∙ ap (λ c. c && true) (ap is_plain kb))

least_lowers : Lowers row.Min
unfolding class_lowered class_of_some class_of_two list_lowered list_of_some second_of_two
least_lowers world place a b w ka kb = two_unlisted world row.Min place a b w (ap never_comes ka) (ap never_comes kb) (not_listed a ka) refl refl refl refl refl

greatest_lowers : Lowers row.Max
unfolding class_lowered class_of_some class_of_two list_lowered list_of_some second_of_two
greatest_lowers world place a b w ka kb = two_unlisted world row.Max place a b w (ap never_comes ka) (ap never_comes kb) (not_listed a ka) refl refl refl refl refl

-- of what is given for two integers
words_given : (t : Typed) (n : ℕ) (r : RowOp) (o : Op) (is : IsOp t n o) (x y : Element) (b : Bool) (z : Shape) (c : Bool) → both_int (shape x) (shape y) ≡ b → z ≡ Num c → Above t n r o is (given b z) → AreWords t n o is x y
words_given t n r o is x y true z c e so met = record {
  first = word_kind x (and_left (is_int (shape x)) (is_int (shape y)) e);
  second = word_kind y (and_right (is_int (shape x)) (is_int (shape y)) e);
  result = word_kind is.result (num_above t.whole.tables.classes t.assigned.same c (shape is.result) (subst (λ s. Above t n r o is s) so met) is.fits.free);
}
words_given t n r o is x y false z c e so met = absurd (misfits t n r o is misfit refl met)

least_row : IsTwoRow kind.Word kind.Word kind.Word row.Min (λ c. Help helper.WordMin ∷ [])
least_row = record {
  law = λ around place a b w ka kb kc. (let d = helped_words helper.WordMin row.Min least_is_helped around place a b w ka kb kc in record { ops = d.ops; new = d.new; asked = d.asked; written = d.written; types = d.types; follows = d.follows });
  lowers = least_lowers;
  stand = λ c. helps_stand helper.WordMin (λ c. refl);
  few = λ t n graph o a b g core vs w given. two_fine (is_covered o.covered) least (words_fine (is_covered o.covered) _ (λ a b w. tt)) vs w;
  simple = (refl, refl, refl);
}

greatest_row : IsTwoRow kind.Word kind.Word kind.Word row.Max (λ c. Help helper.WordMax ∷ [])
greatest_row = record {
  law = λ around place a b w ka kb kc. (let d = helped_words helper.WordMax row.Max greatest_is_helped around place a b w ka kb kc in record { ops = d.ops; new = d.new; asked = d.asked; written = d.written; types = d.types; follows = d.follows });
  lowers = greatest_lowers;
  stand = λ c. helps_stand helper.WordMax (λ c. refl);
  few = λ t n graph o a b g core vs w given. two_fine (is_covered o.covered) greatest (words_fine (is_covered o.covered) _ (λ a b w. tt)) vs w;
  simple = (refl, refl, refl);
}

pub smallest : RowIsWritten row.Min
smallest = whatever row.Min (rows_of_two Any row.Min (record { asks = λ p a g node xs. refl; fits = λ tables xs. refl }) refl (λ tables x. refl) (λ x y z. refl) written)
  where
    written : TwoAreWritten Any row.Min
    written t typed n graph q a b x y is first second met told =
        let k = words_given t n row.Min (with_args row.Min (a ∷ b ∷ []) q) is x y (both_int (shape x) (shape y)) (positive_if (is_positive (shape x) && is_positive (shape y))) _ refl refl met in
        two_written kind.Word kind.Word kind.Word row.Min (λ c. Help helper.WordMin ∷ []) least_row t typed n graph q a b x y is first second k.first k.second k.result

pub largest : RowIsWritten row.Max
largest = whatever row.Max (rows_of_two Any row.Max (record { asks = λ p a g node xs. refl; fits = λ tables xs. refl }) refl (λ tables x. refl) (λ x y z. refl) written)
  where
    written : TwoAreWritten Any row.Max
    written t typed n graph q a b x y is first second met told =
        let k = words_given t n row.Max (with_args row.Max (a ∷ b ∷ []) q) is x y (both_int (shape x) (shape y)) (positive_if (is_positive (shape x) || is_positive (shape y))) _ refl refl met in
        two_written kind.Word kind.Word kind.Word row.Max (λ c. Help helper.WordMax ∷ []) greatest_row t typed n graph q a b x y is first second k.first k.second k.result

-- ---- results that have to fit

checked_lowers : (p : BinOp) → Lowers (row.Checked p)
unfolding class_lowered class_of_some class_of_two list_lowered list_of_some second_of_two
checked_lowers p world place a b w ka kb = two_unlisted world (row.Checked p) place a b w (ap never_comes ka) (ap never_comes kb) (not_listed a ka) refl refl refl refl refl

module _ (p : BinOp) where
  checked_row : ((c : Covers) → AsksStand (Make (checked_small p c) ∷ [])) → IsChecked p → IsTwoRow kind.Word kind.Word kind.Word (row.Checked p) (λ c. Make (checked_small p c) ∷ [])
  checked_row stand law = record {
    law = law;
    lowers = checked_lowers p;
    stand = stand;
    few = λ t n graph o a b g core vs w given. two_fine true (meant_checked o.covered p) (checked_fine true o.covered refl p) vs w;
    simple = (refl, refl, refl);
  }

  checked_by : IsTwoRow kind.Word kind.Word kind.Word (row.Checked p) (λ c. Make (checked_small p c) ∷ []) → can_be_checked p ≡ true → RowIsWritten (row.Checked p)
  checked_by it can = whatever (row.Checked p) (rows_of_two Any (row.Checked p) (record { asks = λ p a g node xs. refl; fits = λ tables xs. refl }) refl (λ tables x. refl) (λ x y z. refl) written)
    where
      and_true : (b : Bool) → (b && true) ≡ b
      and_true true = refl
      and_true false = refl

      written : TwoAreWritten Any (row.Checked p)
      written t typed n graph q a b x y is first second met told =
          let m = number_is p (shape x) (shape y) in
          let k = words_given t n (row.Checked p) (with_args (row.Checked p) (a ∷ b ∷ []) q) is x y (both_int (shape x) (shape y)) (number p (shape x) (shape y)) m.0 refl m.1
          (subst (λ c. Above t n (row.Checked p) (with_args (row.Checked p) (a ∷ b ∷ []) q) is (given c (number p (shape x) (shape y)))) (ap (λ c. both_int (shape x) (shape y) && c) can ∙ and_true (both_int (shape x) (shape y))) met) in
          two_written kind.Word kind.Word kind.Word (row.Checked p) (λ c. Make (checked_small p c) ∷ []) it t typed n graph q a b x y is first second k.first k.second k.result

  -- what cannot be checked is no row
  unchecked : can_be_checked p ≡ false → RowIsWritten (row.Checked p)
  unchecked cannot = whatever (row.Checked p) (rows_of_two Any (row.Checked p) (record { asks = λ p a g node xs. refl; fits = λ tables xs. refl }) refl (λ tables x. refl) (λ x y z. refl) written)
    where
      and_false : (b : Bool) → (b && false) ≡ false
      and_false true = refl
      and_false false = refl

      written : TwoAreWritten Any (row.Checked p)
      written t typed n graph q a b x y is first second met told =
          absurd (misfits t n (row.Checked p) (with_args (row.Checked p) (a ∷ b ∷ []) q) is (given (both_int (shape x) (shape y) && can_be_checked p) (number p (shape x) (shape y)))
          (ap (λ c. given c (number p (shape x) (shape y))) (ap (λ c. both_int (shape x) (shape y) && c) cannot ∙ and_false (both_int (shape x) (shape y)))) met)

pub checks : (p : BinOp) → RowIsWritten (row.Checked p)
checks bin.Add = checked_by bin.Add (checked_row bin.Add (λ c. checks_stand _ _) sum_is_done) refl
checks bin.Sub = checked_by bin.Sub (checked_row bin.Sub (λ c. checks_stand _ _) difference_is_done) refl
checks bin.Mul = checked_by bin.Mul (checked_row bin.Mul (λ c. checks_stand _ _) product_is_done) refl
checks bin.Div = checked_by bin.Div (checked_row bin.Div (λ c. checks_stand _ _) quotient_is_done) refl
checks bin.FloorDiv = checked_by bin.FloorDiv (checked_row bin.FloorDiv (λ c. checks_stand _ _) floor_is_done) refl
checks bin.Mod = checked_by bin.Mod (checked_row bin.Mod (λ c. checks_stand _ _) rest_is_done) refl
checks bin.Shl = checked_by bin.Shl (checked_row bin.Shl (λ c. checks_stand _ _) shift_is_done) refl
checks bin.Shr = unchecked bin.Shr refl
checks bin.BitAnd = unchecked bin.BitAnd refl
checks bin.BitOr = unchecked bin.BitOr refl
checks bin.BitXor = unchecked bin.BitXor refl
