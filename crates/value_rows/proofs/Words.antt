-- Operations on words.
use Rattle.std.proofs.Common.{◌≡◌, ℕ, Bool, true, false, List, [], ◌∷◌, Option, refl, ap, ◌∙◌, subst}
use Rattle.std.specs.Prelude.{◌&&◌, if◌then◌else◌}
use Rattle.ann_element.specs.declared.element.Element.{Element}
use Rattle.ann_lattice.specs.Kind.{is_int, misfit}
use Rattle.ann_lattice.specs.Row.{binary, binary_other, both_int, number}
use Rattle.ann_lattice.specs.Shape.{Shape, Num, shape}
use Rattle.flow_graph.specs.declared.graph.Graph.{Graph}
use Rattle.flow_graph.specs.declared.graph.Op.{Op}
use Rattle.ll_build.specs.declared.needs.Helper.{Helper}
use Rattle.ll_build.specs.declared.needs.Helper.TheVariants as helper
use Rattle.ll_code.specs.declared.program.LlType.TheVariants as type
use Rattle.lower_laws.specs.Asked.{Ask, Raise}
use Rattle.lower_laws.specs.Done.{IsDone as IsPlainlyDone}
use Rattle.lower_laws.specs.Follows.{OnWords}
use Rattle.lower_laws.specs.Raised.{IsRaised}
use Rattle.lower_laws.specs.Values.{is_plain, is_simple}
use Rattle.lower_laws.proofs.Bits.{bit_and_is_followed, bit_or_is_followed, bit_xor_is_followed}
use Rattle.lower_laws.proofs.Bridged.{followed_is_done}
use Rattle.lower_laws.proofs.Raised.{div_is_raised, floor_is_raised, mod_is_raised, shl_is_raised, shr_is_raised}
use Rattle.lower_laws.proofs.Typing.{is_word, place_of_words}
use Rattle.lower_laws.proofs.Words.{difference_is_followed}
use Rattle.rpy_meaning.specs.declared.row.Covers.{Covers}
use Rattle.rpy_meaning.specs.declared.row.RowOp.{RowOp}
use Rattle.rpy_meaning.specs.declared.row.RowOp.TheVariants as row
use Rattle.rpy_meaning.specs.Sequences.{binary as meant_binary}
use Rattle.rpy_tree.specs.declared.syntax.BinOp.{BinOp}
use Rattle.rpy_tree.specs.declared.syntax.BinOp.TheVariants as bin
use Rattle.rtyper_class.specs.Lowering.{lowered as class_lowered, of_some as class_of_some, of_two as class_of_two}
use Rattle.rtyper_class.specs.Seen.{World}
use Rattle.rtyper_data.specs.Seen.{Around, Operand, Place, kind_of, Writing}
use Rattle.rtyper_layout.specs.declared.kind.Kind.{Kind}
use Rattle.rtyper_layout.specs.declared.kind.Kind.TheVariants as kind
use Rattle.rtyper_layout.specs.Kinds.{kind_of as kind_of_element, kind_seen}
use Rattle.rtyper_list.specs.Lowering.{lowered as list_lowered, of_some as list_of_some, second_of_two, sum_or}
use Rattle.rtyper_list.specs.Operands.{is_list, is_none, of_list}
use Rattle.rtyper_op.specs.Lowering.{failure, lower_op, never_comes}
use Rattle.rtyper_program.specs.Blocks.{lowered}
use Rattle.rtyper_program.specs.Raises.{is_covered}
use Rattle.rtyper_program.specs.Seen.{operand_of, place_of}
use Rattle.rtyped_runs.specs.Laws.{before}
use Rattle.typed_rows.specs.Programs.{Typed, IsTyped, world}
use Rattle.typed_rows.specs.Rows.{IsOp, IsWritten, RowIsWritten, lowered_in}
use Rattle.value_rows.proofs.Asking.{grows_to}
use Rattle.value_rows.proofs.Lowering.{two_unlisted}
use Rattle.value_rows.proofs.Operands.{Above, Any, IsOperand, TwoAreWritten, misfits, rows_of_two, whatever, with_args}
use Rattle.value_rows.proofs.Premises.{AsksStand, Few, is_plainly_written, nothing_stands, raises_stand}
use Rattle.value_rows.proofs.Shaped.{no, num_above, word_kind}
use Rattle.value_rows.proofs.Throwing.{binary_fine, two_fine}

-- ---- of two words

-- the kind of an operand, and of the place of a result
pub kind_there : (t : Typed) (n : ℕ) (graph : Graph) (v : ℕ) (x : Element) (k : Kind) → IsOperand t n v x → kind_of_element x ≡ k → kind_of (operand_of (lowered_in t n graph) v) ≡ k
kind_there t n graph v x k operand e = ap kind_seen operand.is ∙ e

pub kind_given : (t : Typed) (n : ℕ) (graph : Graph) (o : Op) (is : IsOp t n o) (k : Kind) → kind_of_element is.result ≡ k → kind_seen (place_of (lowered_in t n graph) o.result).element ≡ k
kind_given t n graph o is k e = ap kind_seen is.result_is ∙ e

-- a row on two operands of these kinds with a result of this kind: its law, how it is lowered, what it asks for and what it throws
pub record IsTwoRow (s u k : Kind) (r : RowOp) (asks : Covers → List Ask) : Type 0 where
  pub law : (around : Around) (place : Place) (a b : Operand) (w : Writing) → kind_of a ≡ s → kind_of b ≡ u → kind_seen place.element ≡ k → IsPlainlyDone around r w.found.covered (asks w.found.covered) place (a ∷ b ∷ []) w
  pub lowers : (world : World) (place : Place) (a b : Operand) (w : Writing) → kind_of a ≡ s → kind_of b ≡ u → lowered world r place (a ∷ b ∷ []) w ≡ lower_op world.around r place (a ∷ b ∷ []) w
  pub stand : (c : Covers) → AsksStand (asks c)
  pub few : (t : Typed) (n : ℕ) (graph : Graph) (o : Op) (a b : ℕ) → Few t n graph (with_args r (a ∷ b ∷ []) o)
  pub simple : (is_simple s ≡ true) × (is_simple u ≡ true) × (is_simple k ≡ true)

pub two_written : (s u k : Kind) (r : RowOp) (asks : Covers → List Ask) → IsTwoRow s u k r asks → (t : Typed) → IsTyped t → (n : ℕ) (graph : Graph) (o : Op) (a b : ℕ) (x y : Element) (is : IsOp t n (with_args r (a ∷ b ∷ []) o)) → IsOperand t n a x → IsOperand t n b y
    → kind_of_element x ≡ s → kind_of_element y ≡ u → kind_of_element is.result ≡ k → IsWritten t n graph (with_args r (a ∷ b ∷ []) o)
two_written s u k r asks it t typed n graph o a b x y is first second kx ky kz w early late room =
    let q : Op = with_args r (a ∷ b ∷ []) o in
    let ka = kind_there t n graph a x s first kx in
    let kb = kind_there t n graph b y u second ky in
    let kc = kind_given t n graph q is k kz in
    is_plainly_written t typed n graph q is (it.few t n graph o a b) w late room (asks q.covered) (λ l. it.stand q.covered t typed (before q w).found (grows_to q.covered early) l)
    (it.lowers (world t) (place_of (lowered_in t n graph) q.result) (operand_of (lowered_in t n graph) a) (operand_of (lowered_in t n graph) b) (before q w) ka kb)
    (ap is_simple ka ∙ it.simple.0, (ap is_simple kb ∙ it.simple.1, tt)) (ap is_simple kc ∙ it.simple.2)
    (it.law (world t).around (place_of (lowered_in t n graph) q.result) (operand_of (lowered_in t n graph) a) (operand_of (lowered_in t n graph) b) (before q w) ka kb kc)

-- ---- arithmetic

pub words_followed : (r : RowOp) → OnWords r type.Signed → (around : Around) (place : Place) (a b : Operand) (w : Writing) → kind_of a ≡ kind.Word → kind_of b ≡ kind.Word → kind_seen place.element ≡ kind.Word → IsPlainlyDone around r w.found.covered [] place (a ∷ b ∷ []) w
words_followed r law around place a b w ka kb kc =
    followed_is_done around r place (a ∷ b ∷ []) w (law around place a b w (is_word around a ka) (is_word around b kb) (place_of_words around.layout place.element kc)) (ap is_plain kc)
    (ap (λ c. c && (is_plain (kind_of b) && true)) (ap is_plain ka) ∙ ap (λ c. c && true) (ap is_plain kb)) w.found.covered

-- a word is no list, and it comes
pub not_listed : (a : Operand) → kind_of a ≡ kind.Word → is_list a ≡ false
not_listed a e = ap of_list e

pub binary_lowers : (o : BinOp) (site : Option ℕ) (world : World) (place : Place) (a b : Operand) (w : Writing) → kind_of a ≡ kind.Word → kind_of b ≡ kind.Word → lowered world (row.Binary o site) place (a ∷ b ∷ []) w ≡ lower_op world.around (row.Binary o site) place (a ∷ b ∷ []) w
unfolding class_lowered class_of_some class_of_two list_lowered list_of_some second_of_two sum_or
binary_lowers o site world place a b w ka kb = two_unlisted world (row.Binary o site) place a b w (ap never_comes ka) (ap never_comes kb) (not_listed a ka) refl refl refl refl (second o)
  where
    second : (o : BinOp) → second_of_two world.around (row.Binary o site) place a b w ≡ lower_op world.around (row.Binary o site) place (a ∷ b ∷ []) w
    second bin.Add = ap (λ c. if c && is_none a then failure world.around place w else lower_op world.around (row.Binary bin.Add site) place (a ∷ b ∷ []) w) (not_listed b kb)
    second o = refl

module _ (o : BinOp) (site : Option ℕ) where
  binary_few : (t : Typed) (n : ℕ) (graph : Graph) (q : Op) (a b : ℕ) → Few t n graph (with_args (row.Binary o site) (a ∷ b ∷ []) q)
  binary_few t n graph q a b g core vs w given = two_fine (is_covered q.covered) (meant_binary q.covered o) (binary_fine (is_covered q.covered) q.covered (λ e. e) o) vs w

  pub followed_row : OnWords (row.Binary o site) type.Signed → IsTwoRow kind.Word kind.Word kind.Word (row.Binary o site) (λ c. [])
  followed_row law = record { law = words_followed (row.Binary o site) law; lowers = binary_lowers o site; stand = λ c. nothing_stands; few = binary_few; simple = (refl, refl, refl) }

  pub raised_row : (h : Helper) → IsRaised h (row.Binary o site) → IsTwoRow kind.Word kind.Word kind.Word (row.Binary o site) (λ c. Raise h ∷ [])
  raised_row h law = record { law = law; lowers = binary_lowers o site; stand = λ c. raises_stand h; few = binary_few; simple = (refl, refl, refl) }

pub and_left : (a b : Bool) → (a && b) ≡ true → a ≡ true
and_left true b e = refl
and_left false b e = absurd (no e)

pub and_right : (a b : Bool) → (a && b) ≡ true → b ≡ true
and_right true b e = e
and_right false b e = absurd (no e)

-- what two integers give is one
pub number_is : (o : BinOp) (x y : Shape) → (b : Bool) × (number o x y ≡ Num b)
number_is bin.Add x y = (_, refl)
number_is bin.Sub x y = (_, refl)
number_is bin.Mul x y = (_, refl)
number_is bin.Div x y = (_, refl)
number_is bin.FloorDiv x y = (_, refl)
number_is bin.Mod x y = (_, refl)
number_is bin.Shl x y = (_, refl)
number_is bin.Shr x y = (_, refl)
number_is bin.BitAnd x y = (_, refl)
number_is bin.BitOr x y = (_, refl)
number_is bin.BitXor x y = (_, refl)

-- both operands and the result are words
pub record AreWords (t : Typed) (n : ℕ) (o : Op) (is : IsOp t n o) (x y : Element) : Type 0 where
  pub first : kind_of_element x ≡ kind.Word
  pub second : kind_of_element y ≡ kind.Word
  pub result : kind_of_element is.result ≡ kind.Word

module _ (t : Typed) (n : ℕ) (r : RowOp) (o : Op) (is : IsOp t n o) (x y : Element) where
  pub words_by : (p : BinOp) → both_int (shape x) (shape y) ≡ true → Above t n r o is (number p (shape x) (shape y)) → AreWords t n o is x y
  words_by p both met =
      let m = number_is p (shape x) (shape y) in
      record {
        first = word_kind x (and_left (is_int (shape x)) (is_int (shape y)) both);
        second = word_kind y (and_right (is_int (shape x)) (is_int (shape y)) both);
        result = word_kind is.result (num_above t.whole.tables.classes t.assigned.same m.0 (shape is.result) (subst (λ s. Above t n r o is s) m.1 met) is.fits.free);
      }

  pub binary_words : (p : BinOp) (site : Option ℕ) → binary_other p site (shape x) (shape y) ≡ misfit → Above t n r o is (binary p site (shape x) (shape y)) → AreWords t n o is x y
  binary_words p site other met = by (both_int (shape x) (shape y)) refl (subst (λ s. Above t n r o is (if both_int (shape x) (shape y) then number p (shape x) (shape y) else s)) other met)
    where
      by : (b : Bool) → both_int (shape x) (shape y) ≡ b → Above t n r o is (if b then number p (shape x) (shape y) else misfit) → AreWords t n o is x y
      by true e met = words_by p e met
      by false e met = absurd (misfits t n r o is misfit refl met)

-- operations on words alone
module _ (o : BinOp) (site : Option ℕ) (other : (x y : Shape) → binary_other o site x y ≡ misfit) (asks : Covers → List Ask) (it : IsTwoRow kind.Word kind.Word kind.Word (row.Binary o site) asks) where
  pub binary_row : RowIsWritten (row.Binary o site)
  binary_row = whatever (row.Binary o site) (rows_of_two Any (row.Binary o site) (record { asks = λ p a g node xs. refl; fits = λ tables xs. refl }) refl (λ tables x. refl) (λ x y z. refl) written)
    where
      written : TwoAreWritten Any (row.Binary o site)
      written t typed n graph q a b x y is first second met told =
          let k = binary_words t n (row.Binary o site) (with_args (row.Binary o site) (a ∷ b ∷ []) q) is x y o site (other (shape x) (shape y)) met in
          two_written kind.Word kind.Word kind.Word (row.Binary o site) asks it t typed n graph q a b x y is first second k.first k.second k.result

module _ (site : Option ℕ) where
  pub differences : RowIsWritten (row.Binary bin.Sub site)
  differences = binary_row bin.Sub site (λ x y. refl) (λ c. []) (followed_row bin.Sub site (difference_is_followed site))

  pub quotients : RowIsWritten (row.Binary bin.Div site)
  quotients = binary_row bin.Div site (λ x y. refl) (λ c. Raise helper.WordDiv ∷ []) (raised_row bin.Div site helper.WordDiv (div_is_raised site))

  pub floors : RowIsWritten (row.Binary bin.FloorDiv site)
  floors = binary_row bin.FloorDiv site (λ x y. refl) (λ c. Raise helper.WordDiv ∷ []) (raised_row bin.FloorDiv site helper.WordDiv (floor_is_raised site))

  pub rests : RowIsWritten (row.Binary bin.Mod site)
  rests = binary_row bin.Mod site (λ x y. refl) (λ c. Raise helper.WordMod ∷ []) (raised_row bin.Mod site helper.WordMod (mod_is_raised site))

  pub left_shifts : RowIsWritten (row.Binary bin.Shl site)
  left_shifts = binary_row bin.Shl site (λ x y. refl) (λ c. Raise helper.WordShl ∷ []) (raised_row bin.Shl site helper.WordShl (shl_is_raised site))

  pub right_shifts : RowIsWritten (row.Binary bin.Shr site)
  right_shifts = binary_row bin.Shr site (λ x y. refl) (λ c. Raise helper.WordShr ∷ []) (raised_row bin.Shr site helper.WordShr (shr_is_raised site))

  pub conjunctions : RowIsWritten (row.Binary bin.BitAnd site)
  conjunctions = binary_row bin.BitAnd site (λ x y. refl) (λ c. []) (followed_row bin.BitAnd site (bit_and_is_followed site))

  pub disjunctions : RowIsWritten (row.Binary bin.BitOr site)
  disjunctions = binary_row bin.BitOr site (λ x y. refl) (λ c. []) (followed_row bin.BitOr site (bit_or_is_followed site))

  pub exclusions : RowIsWritten (row.Binary bin.BitXor site)
  exclusions = binary_row bin.BitXor site (λ x y. refl) (λ c. []) (followed_row bin.BitXor site (bit_xor_is_followed site))
