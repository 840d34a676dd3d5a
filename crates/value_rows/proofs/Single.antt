-- Operations on one word, truth value or byte.
use Rattle.std.proofs.Common.{◌≡◌, ℕ, Bool, true, false, List, [], ◌∷◌, refl, ap, ◌∙◌, subst}
use Rattle.std.specs.Prelude.{◌&&◌, not}
use Rattle.ann_element.specs.declared.element.Element.{Element}
use Rattle.ann_lattice.specs.Kind.{given, is_char, is_int, is_positive, misfit}
use Rattle.ann_lattice.specs.Row.{unary}
use Rattle.ann_lattice.specs.Shape.{Shape, Num, shape}
use Rattle.flow_graph.specs.declared.graph.Graph.{Graph}
use Rattle.flow_graph.specs.declared.graph.Op.{Op}
use Rattle.ll_code.specs.declared.program.LlType.TheVariants as type
use Rattle.lower_laws.specs.Asked.{Ask, Make}
use Rattle.lower_laws.specs.Done.{IsDone as IsPlainlyDone}
use Rattle.lower_laws.specs.Follows.{OnWord}
use Rattle.lower_laws.specs.Values.{is_plain, is_simple}
use Rattle.lower_laws.proofs.Bits.{bit_not_is_followed, plus_is_followed}
use Rattle.lower_laws.proofs.Bridged.{followed_is_done}
use Rattle.lower_laws.proofs.Checked.{neg_is_done}
use Rattle.lower_laws.proofs.Single.{masked_is_followed, opposite_is_followed}
use Rattle.lower_laws.proofs.Truths.{ord_is_followed}
use Rattle.lower_laws.proofs.Typing.{is_byte, is_word, place_of_words}
use Rattle.rpy_meaning.specs.Arithmetic.{checked_neg, on_word, unary as meant_unary}
use Rattle.rpy_meaning.specs.Methods.{ord}
use Rattle.rpy_meaning.specs.World.{give}
use Rattle.rpy_meaning.specs.declared.row.Covers.{Covers}
use Rattle.rpy_meaning.specs.declared.row.RowOp.{RowOp}
use Rattle.rpy_meaning.specs.declared.row.RowOp.TheVariants as row
use Rattle.rpy_tree.specs.declared.syntax.UnOp.{UnOp}
use Rattle.rpy_tree.specs.declared.syntax.UnOp.TheVariants as un
use Rattle.rpy_tree.specs.Value.{Value, Word, Text}
use Rattle.rtyper_class.specs.Lowering.{lowered as class_lowered, of_some as class_of_some, of_one as class_of_one}
use Rattle.rtyper_class.specs.Seen.{World}
use Rattle.rtyper_data.specs.declared.small.Small.TheVariants as small
use Rattle.rtyper_data.specs.Seen.{Around, Operand, Place, kind_of, Writing}
use Rattle.rtyper_layout.specs.declared.kind.Kind.{Kind}
use Rattle.rtyper_layout.specs.declared.kind.Kind.TheVariants as kind
use Rattle.rtyper_layout.specs.Kinds.{kind_of as kind_of_element, kind_seen}
use Rattle.rtyper_list.specs.Lowering.{lowered as list_lowered, of_some as list_of_some}
use Rattle.rtyper_list.specs.Operands.{is_list, of_list}
use Rattle.rtyper_op.specs.Lowering.{lower_op, never_comes}
use Rattle.rtyper_program.specs.Blocks.{lowered}
use Rattle.rtyper_program.specs.Raises.{is_covered}
use Rattle.rtyper_program.specs.Seen.{operand_of, place_of}
use Rattle.rtyped_runs.specs.Laws.{before}
use Rattle.typed_rows.specs.Programs.{Typed, IsTyped, world}
use Rattle.typed_rows.specs.Rows.{IsOp, IsWritten, RowIsWritten, lowered_in}
use Rattle.value_rows.proofs.Asking.{grows_to}
use Rattle.value_rows.proofs.Lowering.{one_unlisted}
use Rattle.value_rows.proofs.Operands.{Above, Any, IsOperand, OneIsWritten, misfits, rows_of_one, whatever, with_args}
use Rattle.value_rows.proofs.Premises.{AsksStand, Few, is_plainly_written, negations_stand, nothing_stands}
use Rattle.value_rows.proofs.Shaped.{byte_kind, num_above, word_kind}
use Rattle.value_rows.proofs.Throwing.{Fine, checked_neg_fine, one_fine, word_fine}
use Rattle.value_rows.proofs.Words.{kind_given, kind_there}

-- a row on an operand of this kind with a result of this kind: its law, how it is lowered, what it asks for and what it throws
pub record IsOneRow (s k : Kind) (r : RowOp) (asks : Covers → List Ask) : Type 0 where
  pub law : (around : Around) (place : Place) (a : Operand) (w : Writing) → kind_of a ≡ s → kind_seen place.element ≡ k → IsPlainlyDone around r w.found.covered (asks w.found.covered) place (a ∷ []) w
  pub lowers : (world : World) (place : Place) (a : Operand) (w : Writing) → kind_of a ≡ s → lowered world r place (a ∷ []) w ≡ lower_op world.around r place (a ∷ []) w
  pub stand : (c : Covers) → AsksStand (asks c)
  pub few : (t : Typed) (n : ℕ) (graph : Graph) (o : Op) (a : ℕ) → kind_of (operand_of (lowered_in t n graph) a) ≡ s → Few t n graph (with_args r (a ∷ []) o)
  pub simple : (is_simple s ≡ true) × (is_simple k ≡ true)

pub one_written : (s k : Kind) (r : RowOp) (asks : Covers → List Ask) → IsOneRow s k r asks → (t : Typed) → IsTyped t → (n : ℕ) (graph : Graph) (o : Op) (a : ℕ) (x : Element) (is : IsOp t n (with_args r (a ∷ []) o)) → IsOperand t n a x
    → kind_of_element x ≡ s → kind_of_element is.result ≡ k → IsWritten t n graph (with_args r (a ∷ []) o)
one_written s k r asks it t typed n graph o a x is operand kx kz w early late room =
    let q : Op = with_args r (a ∷ []) o in
    let ka = kind_there t n graph a x s operand kx in
    let kc = kind_given t n graph q is k kz in
    is_plainly_written t typed n graph q is (it.few t n graph o a ka) w late room (asks q.covered) (λ l. it.stand q.covered t typed (before q w).found (grows_to q.covered early) l)
    (it.lowers (world t) (place_of (lowered_in t n graph) q.result) (operand_of (lowered_in t n graph) a) (before q w) ka)
    (ap is_simple ka ∙ it.simple.0, tt) (ap is_simple kc ∙ it.simple.1)
    (it.law (world t).around (place_of (lowered_in t n graph) q.result) (operand_of (lowered_in t n graph) a) (before q w) ka kc)

-- ---- laws of one operand

pub plain_one : (a : Operand) (k : Kind) → is_plain k ≡ true → kind_of a ≡ k → (is_plain (kind_of a) && true) ≡ true
plain_one a k p e = ap (λ c. is_plain c && true) e ∙ ap (λ c. c && true) p

pub word_followed : (r : RowOp) → OnWord r type.Signed → (around : Around) (place : Place) (a : Operand) (w : Writing) → kind_of a ≡ kind.Word → kind_seen place.element ≡ kind.Word → IsPlainlyDone around r w.found.covered [] place (a ∷ []) w
word_followed r law around place a w ka kc = followed_is_done around r place (a ∷ []) w (law around place a w (is_word around a ka) (place_of_words around.layout place.element kc)) (ap is_plain kc) (plain_one a kind.Word refl ka) w.found.covered

pub unlisted : (a : Operand) (k : Kind) → of_list k ≡ false → kind_of a ≡ k → is_list a ≡ false
unlisted a k p e = ap of_list e ∙ p

-- ---- words

unary_lowers : (f : UnOp) (world : World) (place : Place) (a : Operand) (w : Writing) → kind_of a ≡ kind.Word → lowered world (row.Unary f) place (a ∷ []) w ≡ lower_op world.around (row.Unary f) place (a ∷ []) w
unfolding class_lowered class_of_some class_of_one list_lowered list_of_some
unary_lowers f world place a w ka = one_unlisted world (row.Unary f) place a w (ap never_comes ka) (unlisted a kind.Word refl ka) refl refl refl refl

masked_lowers : (world : World) (place : Place) (a : Operand) (w : Writing) → kind_of a ≡ kind.Word → lowered world row.Intmask place (a ∷ []) w ≡ lower_op world.around row.Intmask place (a ∷ []) w
unfolding class_lowered class_of_some class_of_one list_lowered list_of_some
masked_lowers world place a w ka = one_unlisted world row.Intmask place a w (ap never_comes ka) (unlisted a kind.Word refl ka) refl refl refl refl

negation_lowers : (world : World) (place : Place) (a : Operand) (w : Writing) → kind_of a ≡ kind.Word → lowered world row.CheckedNeg place (a ∷ []) w ≡ lower_op world.around row.CheckedNeg place (a ∷ []) w
unfolding class_lowered class_of_some class_of_one list_lowered list_of_some
negation_lowers world place a w ka = one_unlisted world row.CheckedNeg place a w (ap never_comes ka) (unlisted a kind.Word refl ka) refl refl refl refl

-- the operand and the result are words
pub record IsAWord (t : Typed) (n : ℕ) (o : Op) (is : IsOp t n o) (x : Element) : Type 0 where
  pub operand : kind_of_element x ≡ kind.Word
  pub result : kind_of_element is.result ≡ kind.Word

pub word_given : (t : Typed) (n : ℕ) (r : RowOp) (o : Op) (is : IsOp t n o) (x : Element) (b c : Bool) → is_int (shape x) ≡ b → Above t n r o is (given b (Num c)) → IsAWord t n o is x
word_given t n r o is x true c e met = record { operand = word_kind x e; result = word_kind is.result (num_above t.whole.tables.classes t.assigned.same c (shape is.result) met is.fits.free) }
word_given t n r o is x false c e met = absurd (misfits t n r o is misfit refl met)

unary_row : (f : UnOp) → OnWord (row.Unary f) type.Signed → IsOneRow kind.Word kind.Word (row.Unary f) (λ c. [])
unary_row f law = record {
  law = word_followed (row.Unary f) law;
  lowers = unary_lowers f;
  stand = λ c. nothing_stands;
  few = λ t n graph o a ka g core vs w given. one_fine (is_covered o.covered) (meant_unary f) (word_fine (is_covered o.covered) _ (λ a w. tt)) vs w;
  simple = (refl, refl);
}

unary_by : (f : UnOp) → OnWord (row.Unary f) type.Signed → ((x : Shape) → (c : Bool) × (unary f x ≡ given (is_int x) (Num c))) → RowIsWritten (row.Unary f)
unary_by f law gives = whatever (row.Unary f) (rows_of_one Any (row.Unary f) (record { asks = λ p a g node xs. refl; fits = λ tables xs. refl }) refl (λ tables x y. refl) (λ x y z. refl) written)
  where
    written : OneIsWritten Any (row.Unary f)
    written t typed n graph q a x is operand met told =
        let m = gives (shape x) in
        let k = word_given t n (row.Unary f) (with_args (row.Unary f) (a ∷ []) q) is x (is_int (shape x)) m.0 refl (subst (λ s. Above t n (row.Unary f) (with_args (row.Unary f) (a ∷ []) q) is s) m.1 met) in
        one_written kind.Word kind.Word (row.Unary f) (λ c. []) (unary_row f law) t typed n graph q a x is operand k.operand k.result

pub unaries : (f : UnOp) → RowIsWritten (row.Unary f)
unaries un.Neg = unary_by un.Neg opposite_is_followed (λ x. (true, refl))
unaries un.Invert = unary_by un.Invert bit_not_is_followed (λ x. (true, refl))
unaries un.Pos = unary_by un.Pos plus_is_followed (λ x. (not (is_positive x), refl))

pub masks : RowIsWritten row.Intmask
masks = whatever row.Intmask (rows_of_one Any row.Intmask (record { asks = λ p a g node xs. refl; fits = λ tables xs. refl }) refl (λ tables x y. refl) (λ x y z. refl) written)
  where
    it : IsOneRow kind.Word kind.Word row.Intmask (λ c. [])
    it = record {
      law = word_followed row.Intmask masked_is_followed;
      lowers = masked_lowers;
      stand = λ c. nothing_stands;
      few = λ t n graph o a ka g core vs w given. one_fine (is_covered o.covered) (on_word (λ z. give (Word z))) (word_fine (is_covered o.covered) (λ z. give (Word z)) (λ a w. tt)) vs w;
      simple = (refl, refl);
    }

    written : OneIsWritten Any row.Intmask
    written t typed n graph q a x is operand met told =
        let k = word_given t n row.Intmask (with_args row.Intmask (a ∷ []) q) is x (is_int (shape x)) _ refl met in
        one_written kind.Word kind.Word row.Intmask (λ c. []) it t typed n graph q a x is operand k.operand k.result

pub negations : RowIsWritten row.CheckedNeg
negations = whatever row.CheckedNeg (rows_of_one Any row.CheckedNeg (record { asks = λ p a g node xs. refl; fits = λ tables xs. refl }) refl (λ tables x y. refl) (λ x y z. refl) written)
  where
    it : IsOneRow kind.Word kind.Word row.CheckedNeg (λ c. Make small.CheckedNeg ∷ [])
    it = record { law = neg_is_done; lowers = negation_lowers; stand = λ c. negations_stand; few = λ t n graph o a ka g core vs w given. one_fine true checked_neg (checked_neg_fine true o.covered refl) vs w; simple = (refl, refl) }

    written : OneIsWritten Any row.CheckedNeg
    written t typed n graph q a x is operand met told =
        let k = word_given t n row.CheckedNeg (with_args row.CheckedNeg (a ∷ []) q) is x (is_int (shape x)) true refl met in
        one_written kind.Word kind.Word row.CheckedNeg (λ c. Make small.CheckedNeg ∷ []) it t typed n graph q a x is operand k.operand k.result

-- ---- bytes

ord_lowers : (world : World) (place : Place) (a : Operand) (w : Writing) → kind_of a ≡ kind.Byte → lowered world row.Ord place (a ∷ []) w ≡ lower_op world.around row.Ord place (a ∷ []) w
unfolding class_lowered class_of_some class_of_one list_lowered list_of_some
ord_lowers world place a w ka = one_unlisted world row.Ord place a w (ap never_comes ka) (unlisted a kind.Byte refl ka) refl refl refl refl

pub bytes_numbered : RowIsWritten row.Ord
bytes_numbered = whatever row.Ord (rows_of_one Any row.Ord (record { asks = λ p a g node xs. refl; fits = λ tables xs. refl }) refl (λ tables x y. refl) (λ x y z. refl) written)
  where
    ord_fine : (may : Bool) (x : Value) → Fine may (ord x)
    ord_fine may (Text (b ∷ [])) = λ w. tt
    ord_fine may x = λ w. tt

    it : IsOneRow kind.Byte kind.Word row.Ord (λ c. [])
    it = record {
      law = λ around place a w ka kc. followed_is_done around row.Ord place (a ∷ []) w (ord_is_followed around place a w (is_byte around a ka) (place_of_words around.layout place.element kc)) (ap is_plain kc) (plain_one a kind.Byte refl ka) w.found.covered;
      lowers = ord_lowers;
      stand = λ c. nothing_stands;
      few = λ t n graph o a ka g core vs w given. one_fine (is_covered o.covered) ord (ord_fine (is_covered o.covered)) vs w;
      simple = (refl, refl);
    }

    by : (t : Typed) → IsTyped t → (n : ℕ) (graph : Graph) (q : Op) (a : ℕ) (x : Element) (is : IsOp t n (with_args row.Ord (a ∷ []) q)) → IsOperand t n a x → (b : Bool) → is_char (shape x) ≡ b → Above t n row.Ord (with_args row.Ord (a ∷ []) q) is (given b (Num false)) → IsWritten t n graph (with_args row.Ord (a ∷ []) q)
    by t typed n graph q a x is operand true e met =
        one_written kind.Byte kind.Word row.Ord (λ c. []) it t typed n graph q a x is operand (byte_kind x e) (word_kind is.result (num_above t.whole.tables.classes t.assigned.same false (shape is.result) met is.fits.free))
    by t typed n graph q a x is operand false e met = absurd (misfits t n row.Ord (with_args row.Ord (a ∷ []) q) is misfit refl met)

    written : OneIsWritten Any row.Ord
    written t typed n graph q a x is operand met told = by t typed n graph q a x is operand (is_char (shape x)) refl met
