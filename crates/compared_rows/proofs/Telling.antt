-- Values as strings, and strings as words and bytes.
use Rattle.std.proofs.Common.{◌≡◌, ◌⊎◌, inl, inr, ℕ, Bool, true, false, List, [], ◌∷◌, ◌++◌, Option, Some, refl, sym, ap, ◌∙◌, subst, arith}
use Rattle.std.specs.Fmt.{signed_decimal}
use Rattle.ann_element.specs.declared.element.Element.{Element}
use Rattle.ann_lattice.specs.Kind.{given, is_int, misfit}
use Rattle.ann_lattice.specs.Row.{to_int, to_str}
use Rattle.ann_lattice.specs.Shape.{One, Any as AnyWidth, OrNone, Shape, Truth, Num, Str, shape}
use Rattle.covered_text_laws.proofs.Bridged.{covered_is_done}
use Rattle.covered_text_laws.proofs.Operations.{chr_done}
use Rattle.covered_runs.specs.Writing.{of_texts}
use Rattle.csub_tree.specs.State.{Core, Value}
use Rattle.csub_tree.specs.declared.tree.COperand.TheVariants.{Var}
use Rattle.csub_tree.specs.Statement.{operand as value_of}
use Rattle.flow_graph.specs.declared.graph.Graph.{Graph}
use Rattle.flow_graph.specs.declared.graph.Op.{Op}
use Rattle.ll_build.specs.declared.needs.Helper.TheVariants as helper
use Rattle.ll_code.specs.declared.program.LlType.{LlType}
use Rattle.ll_code.specs.declared.program.LlType.TheVariants as type
use Rattle.lower_laws.specs.Asked.{Ask, Help, Make, Raise}
use Rattle.lower_laws.specs.Done.{IsDone as IsPlainlyDone}
use Rattle.lower_laws.specs.Texted.{text_asks}
use Rattle.lower_laws.specs.Values.{is_plain, is_simple}
use Rattle.lower_laws.proofs.Bridged.{followed_is_done, helped_is_done}
use Rattle.lower_laws.proofs.Coming.{Comes, one_comes}
use Rattle.lower_laws.proofs.Inline.{flag_number_is_followed}
use Rattle.lower_laws.proofs.Numbered.{int_is_done}
use Rattle.lower_laws.proofs.Numbers.{flag_text_is_helped, word_text_is_helped}
use Rattle.lower_laws.proofs.Single.{number_is_followed}
use Rattle.lower_laws.proofs.Typing.{is_flag, is_word, place_of_bytes, place_of_flags, place_of_strings, place_of_texts, place_of_words}
use Rattle.object_laws.specs.Bridged.{OnlyPays}
use Rattle.object_laws.specs.Ghost.{Ghost}
use Rattle.object_laws.specs.Known.{Known as Seen}
use Rattle.rpy_meaning.specs.Laws.{OnLater}
use Rattle.rpy_meaning.proofs.Lawful.{lawful}
use Rattle.object_laws.specs.Values.{Given, Holds, Stands}
use Rattle.object_laws.specs.Values as values
use Rattle.object_laws.proofs.Valued.{plain_stands}
use Rattle.rpy_meaning.specs.Methods.{chr, is_number, to_text, to_word}
use Rattle.rpy_meaning.specs.Operations.{op as meant_op}
use Rattle.rpy_meaning.specs.World.{World as MeantWorld, Bad, Gives, give, no_number}
use Rattle.rpy_meaning.specs.declared.row.Covers.{Covers}
use Rattle.rpy_meaning.specs.declared.row.RowOp.{RowOp}
use Rattle.rpy_meaning.specs.declared.row.RowOp.TheVariants as row
use Rattle.rpy_base.specs.Number.{trimmed}
use Rattle.rpy_tree.specs.Value.{Value as Meant, Word, Flag, Text, Nothing as MeantNothing}
use Rattle.rtyper_class.specs.Lowering.{lowered as class_lowered, of_some as class_of_some, of_one as class_of_one}
use Rattle.rtyper_class.specs.Seen.{World}
use Rattle.rtyper_data.specs.declared.small.Small.TheVariants as small
use Rattle.rtyper_data.specs.Converting.{give as give_value}
use Rattle.rtyper_data.specs.Seen.{Around, Operand, Place, kind_of, type_at, Writing}
use Rattle.rtyper_layout.specs.declared.kind.Kind.{Kind}
use Rattle.rtyper_layout.specs.declared.kind.Kind.TheVariants as kind
use Rattle.rtyper_layout.specs.Kinds.{is_text, kind_of as kind_of_element, kind_seen}
use Rattle.rtyper_layout.specs.Types.{type_of, type_seen}
use Rattle.rtyper_list.specs.Lowering.{lowered as list_lowered, of_some as list_of_some}
use Rattle.rtyper_list.specs.Operands.{is_list, of_list}
use Rattle.rtyper_op.specs.Lowering.{conversion, lower_op, never_comes, of_one as op_of_one, of_some}
use Rattle.rtyper_op.specs.Texts.{to_str as to_str_written, to_str_by}
use Rattle.rtyper_program.specs.Blocks.{lowered}
use Rattle.rtyper_program.specs.Raises.{is_covered}
use Rattle.rtyper_program.specs.Seen.{element_at, operand_of, place_of}
use Rattle.rtyped_runs.specs.Laws.{before}
use Rattle.typed_rows.specs.Programs.{Typed, IsTyped, layout, world}
use Rattle.typed_rows.specs.Rows.{IsOp, IsWritten, RowIsWritten, RowIsWrittenWhere, lowered_in}
use Rattle.typed_rows.proofs.Going.{elements_pass}
use Rattle.value_rows.specs.Kinds.{ResultIs}
use Rattle.value_rows.proofs.Asking.{grows_to}
use Rattle.value_rows.proofs.Copies.{comes, goes_there, held_by, typed_by}
use Rattle.value_rows.proofs.Giving.{GivesItIfAny, below_so, is_given_if_any}
use Rattle.value_rows.proofs.Lowering.{one_unlisted}
use Rattle.value_rows.proofs.Operands.{Above, Any, IsOperand, OneIsWritten, misfits, rows_of_one, whatever, with_args}
use Rattle.value_rows.proofs.Premises.{AsksStand, Few, ThrowsFew, helps_stand, is_written, lists_stand, nothing_stands, texts_stand}
use Rattle.value_rows.proofs.Shaped.{kind_at, kind_in, kind_is, no, num_above, texts_above, word_kind}
use Rattle.value_rows.proofs.Single.{IsOneRow, one_written, plain_one, word_followed}
use Rattle.value_rows.proofs.Throwing.{Fine, chr_fine, if_fine, one_fine, pays_fine}
use Rattle.value_rows.proofs.Words.{kind_there}
use Rattle.compared_rows.specs.Comparing.{is_byte}

only_pays : (known : Seen) (o : RowOp) (covers : Covers) → OnlyPays known o covers
only_pays known o covers vs world after v e = (subst (OnLater world) e ((lawful known.program covers o vs).law world)).steps

-- ---- words of values

int_lowers : (world : World) (place : Place) (a : Operand) (w : Writing) → Comes a → is_list a ≡ false → lowered world row.ToInt place (a ∷ []) w ≡ lower_op world.around row.ToInt place (a ∷ []) w
unfolding class_lowered class_of_some class_of_one list_lowered list_of_some
int_lowers world place a w h plain = one_unlisted world row.ToInt place a w h plain refl refl refl refl

-- where a string may be numbered, it may raise
number_fine : (x : Meant) → Fine true (to_word x)
number_fine (Word z) = λ w. tt
number_fine (Flag true) = λ w. tt
number_fine (Flag false) = λ w. tt
number_fine (Text text) = if_fine true (is_number (trimmed text)) _ no_number (λ w. tt) (λ w. (omega arith, refl))
number_fine x = λ w. tt

-- what is no string is numbered without more
plain_few : (may : Bool) (x : Meant) → ((text : List ℕ) → x ≡ Text text → ⊥) → Fine may (to_word x)
plain_few may (Word z) apart = λ w. tt
plain_few may (Flag true) apart = λ w. tt
plain_few may (Flag false) apart = λ w. tt
plain_few may (Text text) apart = λ w. absurd (apart text refl)
plain_few may x apart = λ w. tt

no_text : {g : Ghost} {u : LlType} {y : Value} {v : Meant} → Stands g u y v → (u ≡ type.Signed) ⊎ (u ≡ type.Bool) → (text : List ℕ) → v ≡ Text text → ⊥
no_text (values.word z f) h text e = (let q : Word z ≡ Text text = e in cc)
no_text (values.flag b) h text e = (let q : Flag b ≡ Text text = e in cc)
no_text (values.byte b f) (inl h) text e = (let q : type.Char ≡ type.Signed = h in cc)
no_text (values.byte b f) (inr h) text e = (let q : type.Char ≡ type.Bool = h in cc)
no_text (values.text y bytes f) (inl h) text e = (let q : type.Ptr 0 ≡ type.Signed = h in cc)
no_text (values.text y bytes f) (inr h) text e = (let q : type.Ptr 0 ≡ type.Bool = h in cc)
no_text values.missing h text e = (let q : MeantNothing ≡ Text text = e in cc)

module _ (t : Typed) (n : ℕ) (graph : Graph) (o : Op) (a : ℕ) where
  -- of operands that are no strings
  few_plain : (k : Kind) → is_plain k ≡ true → ((e : Option Element) → kind_seen e ≡ k → (type_seen (layout t) e ≡ type.Signed) ⊎ (type_seen (layout t) e ≡ type.Bool)) → kind_of (operand_of (lowered_in t n graph) a) ≡ k → Few t n graph (with_args row.ToInt (a ∷ []) o)
  few_plain k plain typed ka g core [] w given = absurd given
  few_plain k plain typed ka g core (v ∷ []) w given = plain_few _ v (no_text (plain_stands (ap is_plain ka ∙ plain) given.0) (typed (element_at t.known.annotation n a) ka)) w
  few_plain k plain typed ka g core (v ∷ u ∷ vs) w given = absurd given.1

  few_text : is_text (kind_of (operand_of (lowered_in t n graph) a)) ≡ true → Few t n graph (with_args row.ToInt (a ∷ []) o)
  few_text ta g core vs w given = subst (λ b. ThrowsFew b (meant_op t.seen.program o.covered row.ToInt vs w)) (sym ta) (one_fine true to_word number_fine vs w)

word_row : IsOneRow kind.Word kind.Word row.ToInt (λ c. [])
word_row = record {
  law = word_followed row.ToInt number_is_followed;
  lowers = λ world place a w ka. int_lowers world place a w (ap never_comes ka) (ap of_list ka);
  stand = λ c. nothing_stands;
  few = λ t n graph o a ka. few_plain t n graph o a kind.Word refl (λ e k. inl (place_of_words (layout t) e k)) ka;
  simple = (refl, refl);
}

flag_row : IsOneRow kind.Flag kind.Word row.ToInt (λ c. [])
flag_row = record {
  law = λ around place a w ka kc. followed_is_done around row.ToInt place (a ∷ []) w (flag_number_is_followed around place a w (is_flag around a ka) (place_of_words around.layout place.element kc)) (ap is_plain kc) (plain_one a kind.Flag refl ka) w.found.covered;
  lowers = λ world place a w ka. int_lowers world place a w (ap never_comes ka) (ap of_list ka);
  stand = λ c. nothing_stands;
  few = λ t n graph o a ka. few_plain t n graph o a kind.Flag refl (λ e k. inr (place_of_flags (layout t) e k)) ka;
  simple = (refl, refl);
}

text_row : (k : Kind) → is_text k ≡ true → (never_comes k ≡ false) × (of_list k ≡ false) × (is_simple k ≡ true) → AsksStand (text_asks k ++ Make small.IntOfText ∷ []) → IsOneRow k kind.Word row.ToInt (λ c. text_asks k ++ Make small.IntOfText ∷ [])
text_row k tk are stand = record {
  law = λ around place a w ka kc. subst (λ k. IsPlainlyDone around row.ToInt w.found.covered (text_asks k ++ Make small.IntOfText ∷ []) place (a ∷ []) w) ka (int_is_done around place a w w.found.covered (ap is_text ka ∙ tk) kc);
  lowers = λ world place a w ka. int_lowers world place a w (ap never_comes ka ∙ are.0) (ap of_list ka ∙ are.1);
  stand = λ c. stand;
  few = λ t n graph o a ka. few_text t n graph o a (ap is_text ka ∙ tk);
  simple = (are.2, refl);
}

numbered_stands : AsksStand (Make small.IntOfText ∷ [])
numbered_stands t typed found early late = lists_stand t typed (Make small.IntOfText ∷ []) found early late (refl, tt)

byte_stands : AsksStand (Help helper.StrOfChar ∷ Make small.IntOfText ∷ [])
byte_stands t typed found early late = lists_stand t typed (Help helper.StrOfChar ∷ Make small.IntOfText ∷ []) found early late (refl, (refl, tt))

pub numbers_written : RowIsWritten row.ToInt
numbers_written = whatever row.ToInt (rows_of_one Any row.ToInt (record { asks = λ p a g node xs. refl; fits = λ tables xs. refl }) refl (λ tables x y. refl) (λ x y z. refl) written)
  where
    by : (t : Typed) → IsTyped t → (n : ℕ) (graph : Graph) (q : Op) (a : ℕ) (x : Element) (is : IsOp t n (with_args row.ToInt (a ∷ []) q)) → IsOperand t n a x → (s : Shape) → shape x ≡ s → Above t n row.ToInt (with_args row.ToInt (a ∷ []) q) is (to_int s) → IsWritten t n graph (with_args row.ToInt (a ∷ []) q)
    by t typed n graph q a x is operand (Num b) e met = one_written kind.Word kind.Word row.ToInt (λ c. []) word_row t typed n graph q a x is operand (kind_at x (Num b) e) (word_kind is.result (num_above t.whole.tables.classes t.assigned.same b (shape is.result) met is.fits.free))
    by t typed n graph q a x is operand (Truth b) e met = one_written kind.Flag kind.Word row.ToInt (λ c. []) flag_row t typed n graph q a x is operand (kind_at x (Truth b) e) (word_kind is.result (num_above t.whole.tables.classes t.assigned.same false (shape is.result) met is.fits.free))
    by t typed n graph q a x is operand (Str One) e met = one_written kind.Byte kind.Word row.ToInt _ (text_row kind.Byte refl (refl, refl, refl) byte_stands) t typed n graph q a x is operand (kind_at x (Str One) e) (word_kind is.result (num_above t.whole.tables.classes t.assigned.same true (shape is.result) met is.fits.free))
    by t typed n graph q a x is operand (Str AnyWidth) e met = one_written kind.Text kind.Word row.ToInt _ (text_row kind.Text refl (refl, refl, refl) numbered_stands) t typed n graph q a x is operand (kind_at x (Str AnyWidth) e) (word_kind is.result (num_above t.whole.tables.classes t.assigned.same true (shape is.result) met is.fits.free))
    by t typed n graph q a x is operand (Str OrNone) e met = absurd (misfits t n row.ToInt (with_args row.ToInt (a ∷ []) q) is misfit refl met)
    by t typed n graph q a x is operand s e met = absurd (misfits t n row.ToInt (with_args row.ToInt (a ∷ []) q) is misfit refl met)

    written : OneIsWritten Any row.ToInt
    written t typed n graph q a x is operand met told = by t typed n graph q a x is operand (shape x) refl met

-- ---- bytes of words

chr_lowers : (world : World) (place : Place) (a : Operand) (w : Writing) → kind_of a ≡ kind.Word → lowered world row.Chr place (a ∷ []) w ≡ lower_op world.around row.Chr place (a ∷ []) w
unfolding class_lowered class_of_some class_of_one list_lowered list_of_some
chr_lowers world place a w ka = one_unlisted world row.Chr place a w (ap never_comes ka) (ap of_list ka) refl refl refl refl

byte_kind_of : (k : Kind) → is_byte k ≡ true → k ≡ kind.Byte
byte_kind_of kind.Byte h = refl
byte_kind_of k h = absurd (no h)

-- where a byte stands at the result
pub bytes_written : RowIsWrittenWhere (ResultIs is_byte) row.Chr
bytes_written = rows_of_one (ResultIs is_byte) row.Chr (record { asks = λ p a g node xs. refl; fits = λ tables xs. refl }) refl (λ tables x y. refl) (λ x y z. refl) written
  where
    by : (t : Typed) → IsTyped t → (n : ℕ) (graph : Graph) (q : Op) (a : ℕ) (x : Element) (is : IsOp t n (with_args row.Chr (a ∷ []) q)) → IsOperand t n a x → (b : Bool) → is_int (shape x) ≡ b → Above t n row.Chr (with_args row.Chr (a ∷ []) q) is (given b (Str One)) → kind_seen (element_at t.known.annotation n q.result) ≡ kind.Byte
        → IsWritten t n graph (with_args row.Chr (a ∷ []) q)
    by t typed n graph q a x is operand false e met kc w early late room = absurd (misfits t n row.Chr (with_args row.Chr (a ∷ []) q) is misfit refl met)
    by t typed n graph q a x is operand true e met kc w early late room =
        let o : Op = with_args row.Chr (a ∷ []) q in
        let ka = kind_there t n graph a x kind.Word operand (word_kind x e) in
        let asks : List Ask = Raise helper.WordChr ∷ [] in
        let place : Place = place_of (lowered_in t n graph) q.result in
        let held : Operand = operand_of (lowered_in t n graph) a in
        is_written of_texts t typed n graph o is (λ g core vs w given. one_fine (is_covered q.covered) (chr q.covered) (chr_fine (is_covered q.covered) q.covered (λ e. e)) vs w) w late room 1 asks (λ l. texts_stand t typed asks (before o w).found (grows_to q.covered early) l (tt, tt))
        (lower_op (world t).around row.Chr place (held ∷ []) (before o w)) (chr_lowers (world t) place held (before o w) ka)
        (covered_is_done t.seen (world t).around row.Chr q.covered asks place (held ∷ []) (before o w) (chr_done (world t).around place held (before o w) (is_word (world t).around held ka) (ap is_plain kc, place_of_bytes (layout t) place.element kc)) (ap is_simple ka, tt) (ap is_simple kc) (only_pays t.seen row.Chr q.covered))

    written : OneIsWritten (ResultIs is_byte) row.Chr
    written t typed n graph q a x is operand met told = by t typed n graph q a x is operand (is_int (shape x)) refl met (byte_kind_of _ told)

-- ---- strings of values

text_lowers : (world : World) (place : Place) (a : Operand) (w : Writing) → Comes a → is_list a ≡ false → lowered world row.ToStr place (a ∷ []) w ≡ lower_op world.around row.ToStr place (a ∷ []) w
unfolding class_lowered class_of_some class_of_one list_lowered list_of_some
text_lowers world place a w h plain = one_unlisted world row.ToStr place a w h plain refl refl refl refl

text_fine : (may : Bool) (x : Meant) → Fine may (to_text x)
text_fine may (Word z) = pays_fine may _ (give (Text (signed_decimal z))) (λ w. tt)
text_fine may (Flag true) = λ w. tt
text_fine may (Flag false) = λ w. tt
text_fine may (Text text) = λ w. tt
text_fine may x = λ w. tt

text_few : (t : Typed) (n : ℕ) (graph : Graph) (o : Op) (a : ℕ) → Few t n graph (with_args row.ToStr (a ∷ []) o)
text_few t n graph o a g core vs w given = one_fine (is_covered o.covered) to_text (text_fine (is_covered o.covered)) vs w

-- of a word, and of a truth value, where a string goes
module _ (k : Kind) (plain : is_plain k ≡ true) (goes : (around : Around) (place : Place) → kind_seen place.element ≡ k → type_at around place ≡ type.Ptr 0) (simple : is_simple k ≡ true) where
  word_told : IsOneRow kind.Word k row.ToStr (λ c. Help helper.StrOfWord ∷ [])
  word_told = record {
    law = λ around place a w ka kc. (let d = helped_is_done around row.ToStr helper.StrOfWord place (a ∷ []) w (word_text_is_helped around place a w (is_word around a ka) (goes around place kc)) (ap is_plain kc ∙ plain) (plain_one a kind.Word refl ka) in record { ops = d.ops; new = d.new; asked = d.asked; written = d.written; types = d.types; follows = d.follows });
    lowers = λ world place a w ka. text_lowers world place a w (ap never_comes ka) (ap of_list ka);
    stand = λ c. helps_stand helper.StrOfWord (λ c. refl);
    few = λ t n graph o a ka. text_few t n graph o a;
    simple = (refl, simple);
  }

  flag_told : IsOneRow kind.Flag k row.ToStr (λ c. Help helper.StrOfBool ∷ [])
  flag_told = record {
    law = λ around place a w ka kc. (let d = helped_is_done around row.ToStr helper.StrOfBool place (a ∷ []) w (flag_text_is_helped around place a w (is_flag around a ka) (goes around place kc)) (ap is_plain kc ∙ plain) (plain_one a kind.Flag refl ka) in record { ops = d.ops; new = d.new; asked = d.asked; written = d.written; types = d.types; follows = d.follows });
    lowers = λ world place a w ka. text_lowers world place a w (ap never_comes ka) (ap of_list ka);
    stand = λ c. helps_stand helper.StrOfBool (λ c. refl);
    few = λ t n graph o a ka. text_few t n graph o a;
    simple = (refl, simple);
  }

to_string : (around : Around) (place : Place) → kind_seen place.element ≡ kind.Text → type_at around place ≡ type.Ptr 0
to_string around place k = place_of_strings around.layout place.element k

to_maybe : (around : Around) (place : Place) → kind_seen place.element ≡ kind.MaybeText → type_at around place ≡ type.Ptr 0
to_maybe around place k = place_of_texts around.layout place.element k

-- a string is itself
text_tests : (k : Kind) (u : LlType) → ((around : Around) (place : Place) (a : Operand) (w : Writing) → to_str_by k around place a w ≡ give_value around place a.x u w) → (around : Around) (place : Place) (a : Operand) (w : Writing) → Comes a → kind_of a ≡ k → lower_op around row.ToStr place (a ∷ []) w ≡ give_value around place a.x u w
unfolding of_some op_of_one conversion to_str_written
text_tests k u so around place a w h ka = one_comes around row.ToStr place a w h ∙ ap (λ k. to_str_by k around place a w) ka ∙ so around place a w

-- what stands as a byte or a string is given, or is no string
text_itself : (t : Typed) {g : Ghost} {u : LlType} {y : Value} {v : Meant} → Stands g u y v → (u ≡ type.Char) ⊎ (u ≡ type.Ptr 0) → (c : Covers) (w : MeantWorld) → (meant_op t.seen.program c row.ToStr (v ∷ []) w ≡ Gives v w) ⊎ (meant_op t.seen.program c row.ToStr (v ∷ []) w ≡ Bad)
text_itself t (values.byte b f) h c w = inl refl
text_itself t (values.text y bytes f) h c w = inl refl
text_itself t values.missing h c w = inr refl
text_itself t (values.word z f) (inl h) c w = absurd (let q : type.Signed ≡ type.Char = h in cc)
text_itself t (values.word z f) (inr h) c w = absurd (let q : type.Signed ≡ type.Ptr 0 = h in cc)
text_itself t (values.flag b) (inl h) c w = absurd (let q : type.Bool ≡ type.Char = h in cc)
text_itself t (values.flag b) (inr h) c w = absurd (let q : type.Bool ≡ type.Ptr 0 = h in cc)

module _ (t : Typed) (typed : IsTyped t) (n : ℕ) (graph : Graph) (q : Op) (a : ℕ) (x : Element) (is : IsOp t n (with_args row.ToStr (a ∷ []) q)) (operand : IsOperand t n a x) where
  abbrev telling : Op
  telling = with_args row.ToStr (a ∷ []) q

  itself_written : (k : Kind) (u : LlType) → kind_of_element x ≡ k → is_plain k ≡ true → of_list k ≡ false → type_of (layout t) x ≡ u → (u ≡ type.Char) ⊎ (u ≡ type.Ptr 0) → ((around : Around) (place : Place) (a : Operand) (w : Writing) → to_str_by k around place a w ≡ give_value around place a.x u w)
      → Above t n row.ToStr telling is (shape x) → IsWritten t n graph telling
  itself_written k u kx plain unlisted ux one so met w early late room =
      let ka = kind_there t n graph a x k operand kx in
      let here = comes t n graph a x operand in
      let place : Place = place_of (lowered_in t n graph) q.result in
      let held : Operand = operand_of (lowered_in t n graph) a in
      is_given_if_any t typed n graph telling is a x is.under.0 w late room (goes_there t n graph telling is x (elements_pass t typed x is.result operand.laid is.result_laid (below_so t typed (shape x) (shape is.result) met))) (typed_by t n graph a x operand)
      (text_lowers (world t) place held (before telling w) here (ap of_list ka ∙ unlisted) ∙ text_tests k u so (world t).around place held (before telling w) here ka
      ∙ ap (λ u. give_value (world t).around place (Var a) u (before telling w)) (sym (typed_by t n graph a x operand ∙ ux))) gives
    where
      one_of : (v : Meant) (w : MeantWorld) (g : Ghost) (core : Core) → Holds (layout t) t.seen g (Some x) (value_of core.vars (Var a)) v → (meant_op t.seen.program q.covered row.ToStr (v ∷ []) w ≡ Gives v w) ⊎ (meant_op t.seen.program q.covered row.ToStr (v ∷ []) w ≡ Bad)
          → ((u : Meant) × (meant_op t.seen.program q.covered row.ToStr (v ∷ []) w ≡ Gives u w) × Holds (layout t) t.seen g (Some x) (value_of core.vars (Var a)) u) ⊎ (meant_op t.seen.program q.covered row.ToStr (v ∷ []) w ≡ Bad)
      one_of v w g core held (inl e) = inl (v, e, held)
      one_of v w g core held (inr e) = inr e

      gives : GivesItIfAny t n graph telling a x
      gives g core w [] memory given good = absurd given
      gives g core w (v ∷ []) memory given good =
          let held = held_by t n graph g core a x v operand given.0 in
          one_of v w g core held (text_itself t (subst (λ u. Stands g u (value_of core.vars (Var a)) v) ux (plain_stands (ap is_plain kx ∙ plain) held)) one q.covered w)
      gives g core w (v ∷ r ∷ vs) memory given good = absurd given.1

  told_by : (s : Shape) → shape x ≡ s → Above t n row.ToStr telling is (to_str s) → IsWritten t n graph telling
  told_by (Num b) e met = by (texts_above t.whole.tables.classes t.assigned.same (shape is.result) met is.fits.free)
    where
      by : (kind_in (shape is.result) ≡ kind.Text) ⊎ (kind_in (shape is.result) ≡ kind.MaybeText) → IsWritten t n graph telling
      by (inl k) = one_written kind.Word kind.Text row.ToStr _ (word_told kind.Text refl to_string refl) t typed n graph q a x is operand (kind_at x (Num b) e) (kind_is is.result ∙ k)
      by (inr k) = one_written kind.Word kind.MaybeText row.ToStr _ (word_told kind.MaybeText refl to_maybe refl) t typed n graph q a x is operand (kind_at x (Num b) e) (kind_is is.result ∙ k)
  told_by (Truth b) e met = by (texts_above t.whole.tables.classes t.assigned.same (shape is.result) met is.fits.free)
    where
      by : (kind_in (shape is.result) ≡ kind.Text) ⊎ (kind_in (shape is.result) ≡ kind.MaybeText) → IsWritten t n graph telling
      by (inl k) = one_written kind.Flag kind.Text row.ToStr _ (flag_told kind.Text refl to_string refl) t typed n graph q a x is operand (kind_at x (Truth b) e) (kind_is is.result ∙ k)
      by (inr k) = one_written kind.Flag kind.MaybeText row.ToStr _ (flag_told kind.MaybeText refl to_maybe refl) t typed n graph q a x is operand (kind_at x (Truth b) e) (kind_is is.result ∙ k)
  told_by (Str One) e met = (let k = kind_at x (Str One) e in itself_written kind.Byte type.Char k refl refl (place_of_bytes (layout t) (Some x) k) (inl refl) (λ around place a w. refl) (subst (λ s. Above t n row.ToStr telling is s) (sym e) met))
  told_by (Str AnyWidth) e met = (let k = kind_at x (Str AnyWidth) e in itself_written kind.Text (type.Ptr 0) k refl refl (place_of_strings (layout t) (Some x) k) (inr refl) (λ around place a w. refl) (subst (λ s. Above t n row.ToStr telling is s) (sym e) met))
  told_by (Str OrNone) e met = absurd (misfits t n row.ToStr telling is misfit refl met)
  told_by s e met = absurd (misfits t n row.ToStr telling is misfit refl met)

pub strings_written : RowIsWritten row.ToStr
strings_written = whatever row.ToStr (rows_of_one Any row.ToStr (record { asks = λ p a g node xs. refl; fits = λ tables xs. refl }) refl (λ tables x y. refl) (λ x y z. refl) written)
  where
    written : OneIsWritten Any row.ToStr
    written t typed n graph q a x is operand met told = told_by t typed n graph q a x is operand (shape x) refl met
