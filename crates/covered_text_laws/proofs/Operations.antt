-- The operations of helpers on strings, with what they raise.
use Rattle.std.proofs.Common.{◌≡◌, ℕ, true, false, ◌&&◌, ◌||◌, List, [], ◌∷◌, ◌++◌, Option, Some, ℤ, pos, refl, ap, ◌∙◌, subst, append_assoc}
use Rattle.std.specs.Prelude.{if◌then◌else◌, codes}
use Rattle.csub_tree.specs.State.{Core}
use Rattle.csub_tree.specs.Operation.{is_unset}
use Rattle.csub_tree.specs.Statement.{operand, operands, any_unset}
use Rattle.csub_tree.specs.declared.tree.COperand.{COperand}
use Rattle.ll_code.specs.State.{Frame, Calling}
use Rattle.ll_code.specs.declared.program.LlType.{LlType}
use Rattle.ll_code.specs.declared.program.LlType.TheVariants as type
use Rattle.ll_code.specs.declared.program.LlProgram.{LlProgram}
use Rattle.ll_build.specs.declared.needs.Helper.{Helper}
use Rattle.ll_build.specs.declared.needs.Helper.TheVariants as helper
use Rattle.ll_build.specs.declared.needs.Numbers.{Numbers}
use Rattle.ll_texts.specs.Stands.{Stands}
use Rattle.ll_texts.specs.Follows.{Follows as HelperFollows}
use Rattle.ll_strings.specs.Laws.{HasHelper, Is, IsTwo}
use Rattle.ll_strings.proofs.Adding.{add_is}
use Rattle.ll_strings.proofs.Asking.{len_is, index_is, walk_is}
use Rattle.ll_strings.proofs.Finding.{starts_is, ends_is, find_is}
use Rattle.ll_strings.proofs.Repeating.{mul_is}
use Rattle.ll_strings.proofs.Slices.{but_last_is, slice_is, up_to_is, from_is, all_is}
use Rattle.ll_strings.proofs.Stripping.{strip_is}
use Rattle.ll_strings.proofs.Words.{chr_is}
use Rattle.rpy_tree.specs.declared.syntax.BinOp.TheVariants as bin
use Rattle.rpy_tree.specs.Value.{Value as Meant}
use Rattle.rpy_meaning.specs.declared.row.RowOp.{RowOp}
use Rattle.rpy_meaning.specs.declared.row.RowOp.TheVariants as row
use Rattle.rpy_meaning.specs.Classes.{no_covers}
use Rattle.rpy_meaning.specs.Operations.{op as meant_op}
use Rattle.rpy_meaning.specs.Tree.{Program}
use Rattle.rpy_meaning.specs.World.{World}
use Rattle.rtyper_layout.specs.declared.kind.Kind.{Kind}
use Rattle.rtyper_layout.specs.declared.kind.Kind.TheVariants as kind
use Rattle.rtyper_layout.specs.Kinds.{is_text, is_text_or_none}
use Rattle.rtyper_data.specs.Converting.{give_helped, given, value_as}
use Rattle.rtyper_data.specs.Numbers.{word as word_operand}
use Rattle.rtyper_data.specs.Seen.{Around, Operand, Place, kind_of, type_of, Writing}
use Rattle.rtyper_op.specs.Lowering.{conversion, conversion_by, lower_op, never_comes, of_some, of_one, of_two, binary_to, method_by}
use Rattle.rtyper_op.specs.Placing.{len, len_by, index, index_by, sum, sum_by, product, product_by, walk, walk_by}
use Rattle.rtyper_op.specs.Texts.{of_text, of_texts, of_text_and_word, text_type, byte_method, method, of_byte, text_method_by}
use Rattle.rtyper_op.specs.Texts.{of_two as methods_of_two}
use Rattle.lower_laws.specs.Asked.{Raise}
use Rattle.lower_laws.specs.Bridged.{are_plain}
use Rattle.lower_laws.specs.Follows.{AllStand, IsWord}
use Rattle.lower_laws.specs.Helped.{IsText}
use Rattle.lower_laws.specs.Texted.{Takes, asks_of}
use Rattle.lower_laws.specs.Values.{is_plain}
use Rattle.lower_laws.proofs.Coming.{of_text_kind, one_comes, three_come, two_come, word_comes}
use Rattle.lower_laws.proofs.Coming.{text_comes as string_comes}
use Rattle.lower_laws.proofs.Helps.{Does, does_one, of_text_is, stands_set}
use Rattle.lower_laws.proofs.Strung.{text_is}
use Rattle.lower_laws.proofs.Texted.{text_comes}
use Rattle.covered_text_laws.specs.Done.{IsDone}
use Rattle.covered_text_laws.specs.Texts.{OnText, OnTexts, OnTextAndWord, IsMethod, IsMethodOfTwo, OnString, OnStringAndWord, OnStringAndWords, OnWord}
use Rattle.covered_text_laws.proofs.Answers.{Answers, IsNumber, IsTextOrNone, is_number, text_or_none, add_answers, but_last_answers, chr_answers, ends_answers, find_answers, from_answers, index_answers, len_answers, mul_answers, slice_answers, starts_answers, strip_answers, up_to_answers, walk_answers, whole_answers}
use Rattle.covered_text_laws.proofs.Operands.{A, First, Second, T, one_prepared, plainly_prepared, two_prepared, word_prepared}
use Rattle.covered_text_laws.proofs.Preparing.{raising_done}

-- ---- by what is written

module _ (o : RowOp) (h : Helper) (t : LlType) where
  pub on_text : Is h (type.Ptr 0) t o → ((v : Meant) → IsTextOrNone v → Answers h o (v ∷ [])) → (around : Around) (place : Place) (a : Operand) (w : Writing) → is_text_or_none (kind_of a) ≡ true → Takes around place t
      → lower_op around o place (a ∷ []) w ≡ of_text around place h t a w → IsDone around o w.found.covered (asks_of a ++ Raise h ∷ []) place (a ∷ []) w
  unfolding of_text
  on_text law answers around place a w ka takes l = raising_done place (one_prepared around o h t a w law answers ka) takes
      (l ∙ ap (λ (x : COperand × Writing). give_helped around place h t (x.0 ∷ []) x.1) (A around o h t a w law answers ka).is)

  pub on_text_and_word : IsTwo h (type.Ptr 0) type.Signed t o → ((v u : Meant) → IsTextOrNone v → IsNumber u → Answers h o (v ∷ u ∷ [])) → (around : Around) (place : Place) (a b : Operand) (w : Writing) → is_text_or_none (kind_of a) ≡ true → kind_of b ≡ kind.Word → Takes around place t
      → lower_op around o place (a ∷ b ∷ []) w ≡ of_text_and_word around place h t a b w → IsDone around o w.found.covered (asks_of a ++ Raise h ∷ []) place (a ∷ b ∷ []) w
  unfolding of_text_and_word
  on_text_and_word law answers around place a b w ka kb takes l = raising_done place (word_prepared around o h t a b w law answers ka kb) takes
      (l ∙ ap (λ (x : COperand × Writing). give_helped around place h t (x.0 ∷ b.x ∷ []) x.1) (T around o h t a b w law answers ka kb).is)

  pub on_texts : IsTwo h (type.Ptr 0) (type.Ptr 0) t o → ((v u : Meant) → IsTextOrNone v → IsTextOrNone u → Answers h o (v ∷ u ∷ [])) → (around : Around) (place : Place) (a b : Operand) (w : Writing) → is_text_or_none (kind_of a) ≡ true → is_text_or_none (kind_of b) ≡ true → Takes around place t
      → lower_op around o place (a ∷ b ∷ []) w ≡ of_texts around place h t a b w → IsDone around o w.found.covered (asks_of a ++ (asks_of b ++ Raise h ∷ [])) place (a ∷ b ∷ []) w
  unfolding of_texts
  on_texts law answers around place a b w ka kb takes l = subst (λ asks. IsDone around o w.found.covered asks place (a ∷ b ∷ []) w) (append_assoc (asks_of a) (asks_of b) (Raise h ∷ []))
      (raising_done place (two_prepared around o h t a b w law answers ka kb) takes
      (l ∙ ap (λ (x : COperand × Writing). give_helped around place h t (x.0 ∷ (given around b text_type x.1).0 ∷ []) (given around b text_type x.1).1) (First around o h t a b w law answers ka kb).is
      ∙ ap (λ (y : COperand × Writing). give_helped around place h t ((First around o h t a b w law answers ka kb).x ∷ y.0 ∷ []) y.1) (Second around o h t a b w law answers ka kb).is))

-- what is the same for each kind of string
by_kind : {A : Type 0} (f : Kind → A) (x : A) (k : Kind) → is_text_or_none k ≡ true → f kind.Byte ≡ x → f kind.Text ≡ x → f kind.MaybeText ≡ x → f kind.Nothing ≡ x → f k ≡ x
by_kind f x kind.Byte h a b c d = a
by_kind f x kind.Text h a b c d = b
by_kind f x kind.MaybeText h a b c d = c
by_kind f x kind.Nothing h a b c d = d
by_kind f x _ h a b c d = absurd (cc)

-- ---- strings and bytes

pub len_done : OnText helper.StrLen row.Len type.Signed
unfolding of_some of_one len
len_done around place a w ka takes = on_text row.Len helper.StrLen type.Signed len_is (λ v h. len_answers h) around place a w ka takes
    (one_comes around row.Len place a w (text_comes (kind_of a) ka) ∙ by_kind (λ k. len_by k around place a w) (of_text around place helper.StrLen type.Signed a w) (kind_of a) ka refl refl refl refl)

pub but_last_done : (site : ℕ) → OnText helper.StrButLast (row.AllButLast site) (type.Ptr 0)
unfolding of_some of_one
but_last_done site around place a w ka takes = on_text (row.AllButLast site) helper.StrButLast (type.Ptr 0) (but_last_is site) (λ v h. but_last_answers site h) around place a w ka takes
    (one_comes around (row.AllButLast site) place a w (text_comes (kind_of a) ka) ∙ ap (λ c. if c then of_text around place helper.StrButLast text_type a w else w) ka)

sum_written : (around : Around) (place : Place) (a b : Operand) (w : Writing) → is_text_or_none (kind_of a) ≡ true → is_text_or_none (kind_of b) ≡ true → sum around place a b w ≡ of_texts around place helper.StrAdd (type.Ptr 0) a b w
unfolding sum
sum_written around place a b w ka kb =
    by_kind (λ k. sum_by k (kind_of b) around place a b w) (if is_text_or_none (kind_of b) then of_texts around place helper.StrAdd text_type a b w else w) (kind_of a) ka refl refl refl refl
    ∙ ap (λ c. if c then of_texts around place helper.StrAdd text_type a b w else w) kb

pub add_done : (site : Option ℕ) → OnTexts helper.StrAdd (row.Binary bin.Add site) (type.Ptr 0)
unfolding of_some of_two binary_to
add_done site around place a b w ka kb takes = on_texts (row.Binary bin.Add site) helper.StrAdd (type.Ptr 0) (add_is site) (λ v u h k. add_answers site h k) around place a b w ka kb takes
    (two_come around (row.Binary bin.Add site) place a b w (text_comes (kind_of a) ka) (text_comes (kind_of b) kb) ∙ sum_written around place a b w ka kb)

pub mul_done : (site : Option ℕ) → OnTextAndWord helper.StrMul (row.Binary bin.Mul site) (type.Ptr 0)
unfolding of_some of_two binary_to product
mul_done site around place a b w ka kb takes = on_text_and_word (row.Binary bin.Mul site) helper.StrMul (type.Ptr 0) (mul_is site) (λ v u h k. mul_answers site h k) around place a b w ka kb takes
    (two_come around (row.Binary bin.Mul site) place a b w (text_comes (kind_of a) ka) (ap never_comes kb) ∙ by_kind (λ k. product_by k around place a b w) (of_text_and_word around place helper.StrMul text_type a b w) (kind_of a) ka refl refl refl refl)

pub index_done : (literal : Option ℤ) → OnTextAndWord helper.StrIndex (row.Index literal) type.Char
unfolding of_some of_two index
index_done literal around place a b w ka kb takes = on_text_and_word (row.Index literal) helper.StrIndex type.Char (index_is literal) (λ v u h k. index_answers literal h k) around place a b w ka kb takes
    (two_come around (row.Index literal) place a b w (text_comes (kind_of a) ka) (ap never_comes kb) ∙ by_kind (λ k. index_by k literal around place a b w) (of_text_and_word around place helper.StrIndex type.Char a b w) (kind_of a) ka refl refl refl refl)

-- ---- methods

-- one of `None` fails, and any other is one of a string
method_is : (around : Around) (place : Place) (name : List ℕ) (args : List Operand) (w : Writing) (k : Kind) → is_text_or_none k ≡ true → (k ≡ kind.Nothing → ⊥) → method_by k around place name args w ≡ method around place name args w
method_is around place name args w kind.Byte h n = refl
method_is around place name args w kind.Text h n = refl
method_is around place name args w kind.MaybeText h n = refl
method_is around place name args w kind.Nothing h n = absurd (n refl)
method_is around place name args w _ h n = absurd (cc)

pub strip_done : (site : Option ℕ) → IsMethod helper.StrStrip (row.Method (codes "strip") site) (type.Ptr 0)
unfolding byte_method of_byte
strip_done site around place a w ka none takes = on_text (row.Method (codes "strip") site) helper.StrStrip (type.Ptr 0) (strip_is site) (λ v h. strip_answers site h) around place a w ka takes
    (one_comes around (row.Method (codes "strip") site) place a w (text_comes (kind_of a) ka) ∙ method_is around place (codes "strip") (a ∷ []) w (kind_of a) ka none
    ∙ ap (λ c. if c then of_text around place helper.StrStrip text_type a w else w) ka)

of_two_is : (around : Around) (place : Place) (h : Helper) (t : LlType) (a b : Operand) (w : Writing) → is_text_or_none (kind_of a) ≡ true → is_text (kind_of b) ≡ true → text_method_by (Some (h, t)) (is_text_or_none (kind_of a) && is_text (kind_of b)) around place a b w ≡ of_texts around place h t a b w
of_two_is around place h t a b w ka kb = ap (λ c. text_method_by (Some (h, t)) (c && is_text (kind_of b)) around place a b w) ka ∙ ap (λ c. text_method_by (Some (h, t)) c around place a b w) kb

pub starts_done : (site : Option ℕ) → IsMethodOfTwo helper.StrStartsWith (row.Method (codes "startswith") site) type.Bool
unfolding methods_of_two
starts_done site around place a b w ka none kb takes = on_texts (row.Method (codes "startswith") site) helper.StrStartsWith type.Bool (starts_is site) (λ v u h k. starts_answers site h k) around place a b w ka (text_is (kind_of b) kb) takes
    (two_come around (row.Method (codes "startswith") site) place a b w (text_comes (kind_of a) ka) (text_comes (kind_of b) (text_is (kind_of b) kb)) ∙ method_is around place (codes "startswith") (a ∷ b ∷ []) w (kind_of a) ka none
    ∙ of_two_is around place helper.StrStartsWith type.Bool a b w ka kb)

pub ends_done : (site : Option ℕ) → IsMethodOfTwo helper.StrEndsWith (row.Method (codes "endswith") site) type.Bool
unfolding methods_of_two
ends_done site around place a b w ka none kb takes = on_texts (row.Method (codes "endswith") site) helper.StrEndsWith type.Bool (ends_is site) (λ v u h k. ends_answers site h k) around place a b w ka (text_is (kind_of b) kb) takes
    (two_come around (row.Method (codes "endswith") site) place a b w (text_comes (kind_of a) ka) (text_comes (kind_of b) (text_is (kind_of b) kb)) ∙ method_is around place (codes "endswith") (a ∷ b ∷ []) w (kind_of a) ka none
    ∙ of_two_is around place helper.StrEndsWith type.Bool a b w ka kb)

pub find_done : (site : Option ℕ) → IsMethodOfTwo helper.StrFind (row.Method (codes "find") site) type.Signed
unfolding methods_of_two
find_done site around place a b w ka none kb takes = on_texts (row.Method (codes "find") site) helper.StrFind type.Signed (find_is site) (λ v u h k. find_answers site h k) around place a b w ka (text_is (kind_of b) kb) takes
    (two_come around (row.Method (codes "find") site) place a b w (text_comes (kind_of a) ka) (text_comes (kind_of b) (text_is (kind_of b) kb)) ∙ method_is around place (codes "find") (a ∷ b ∷ []) w (kind_of a) ka none
    ∙ of_two_is around place helper.StrFind type.Signed a b w ka kb)

-- ---- operands as they are

plain_text : {around : Around} {a : Operand} → IsText around a → is_plain (kind_of a) ≡ true
plain_text h = of_text_kind is_plain h.kind refl refl

plain_word : {around : Around} {a : Operand} → IsWord around a → is_plain (kind_of a) ≡ true
plain_word h = ap is_plain h.kind

as_text : {around : Around} {a : Operand} → IsText around a → (core : Core) (v : Meant) → Stands core.blocks core.statics (type_of around a) (operand core.vars a.x) v → Stands core.blocks core.statics (type.Ptr 0) (operand core.vars a.x) v
as_text {a = a} h core v st = subst (λ t. Stands core.blocks core.statics t (operand core.vars a.x) v) h.type st

as_word : {around : Around} {a : Operand} → IsWord around a → (core : Core) (v : Meant) → Stands core.blocks core.statics (type_of around a) (operand core.vars a.x) v → Stands core.blocks core.statics type.Signed (operand core.vars a.x) v
as_word {a = a} h core v st = subst (λ t. Stands core.blocks core.statics t (operand core.vars a.x) v) h.type st

text_answers : {around : Around} {a : Operand} (o : RowOp) (h : Helper) → IsText around a → ((v : Meant) → IsTextOrNone v → Answers h o (v ∷ [])) → (core : Core) (vs : List Meant) → AllStand around core (a ∷ []) vs → Answers h o vs
text_answers o h ha answers core [] st = absurd st
text_answers o h ha answers core (v ∷ []) st = answers v (text_or_none (as_text ha core v st.0))
text_answers o h ha answers core (v ∷ u ∷ vs) st = absurd st.1

text_and_word_answers : {around : Around} {a b : Operand} (o : RowOp) (h : Helper) → IsText around a → IsWord around b → ((v u : Meant) → IsTextOrNone v → IsNumber u → Answers h o (v ∷ u ∷ [])) → (core : Core) (vs : List Meant) → AllStand around core (a ∷ b ∷ []) vs → Answers h o vs
text_and_word_answers o h ha hb answers core [] st = absurd st
text_and_word_answers o h ha hb answers core (v ∷ []) st = absurd st.1
text_and_word_answers o h ha hb answers core (v ∷ u ∷ []) st = answers v u (text_or_none (as_text ha core v st.0)) (is_number (as_word hb core u st.1.0))
text_and_word_answers o h ha hb answers core (v ∷ u ∷ s ∷ vs) st = absurd st.1.1

module _ (o : RowOp) (h : Helper) (t : LlType) where
  as_they_are : (around : Around) (place : Place) (args : List Operand) (xs : List COperand) (w : Writing) → are_plain args ≡ true → Takes around place t → Does around o h t args xs → ((core : Core) (vs : List Meant) → AllStand around core args vs → Answers h o vs)
      → lower_op around o place args w ≡ give_helped around place h t xs w → IsDone around o w.found.covered (Raise h ∷ []) place args w
  as_they_are around place args xs w plain takes d answers l = raising_done {around = around} {o = o} {h = h} {t = t} {asks = []} {args = args} {w = w} {xs = xs} {next = w} place (plainly_prepared {around = around} {o = o} {h = h} {t = t} {args = args} {xs = xs} w plain d answers) takes l

pub walk_done : (site : ℕ) → OnString helper.StrWalk (row.Walk site) (type.Ptr 0)
unfolding of_some of_one walk
walk_done site around place a w ha takes = as_they_are (row.Walk site) helper.StrWalk (type.Ptr 0) around place (a ∷ []) (a.x ∷ []) w (ap (λ b. b && true) (plain_text ha)) takes (does_one (λ e. absurd (cc)) (walk_is site) ha.type) (text_answers (row.Walk site) helper.StrWalk ha (λ v h. walk_answers site h))
    (one_comes around (row.Walk site) place a w (string_comes ha) ∙ of_text_kind (λ k. walk_by k around place a w) ha.kind refl refl ∙ of_text_is around place helper.StrWalk (type.Ptr 0) a w ha.type)

pub chr_done : OnWord helper.WordChr row.Chr type.Char
unfolding of_some of_one conversion
chr_done around place a w ha takes = as_they_are row.Chr helper.WordChr type.Char around place (a ∷ []) (a.x ∷ []) w (ap (λ b. b && true) (plain_word ha)) takes (does_one (λ e. absurd (cc)) chr_is ha.type) answers
    (one_comes around row.Chr place a w (word_comes ha) ∙ ap (λ k. conversion_by row.Chr k around place a w) ha.kind)
  where
    answers : (core : Core) (vs : List Meant) → AllStand around core (a ∷ []) vs → Answers helper.WordChr row.Chr vs
    answers core [] st = absurd st
    answers core (v ∷ []) st = chr_answers (is_number (as_word ha core v st.0))
    answers core (v ∷ u ∷ vs) st = absurd st.1

-- ---- slices

-- the greatest word, which is the end of any string
abbrev last : COperand
last = word_operand (pos 9223372036854775807)

abbrev first : COperand
first = word_operand (pos 0)

calls : (around : Around) (place : Place) (a : Operand) (x y : COperand) (w : Writing) → IsText around a
    → (if is_text_or_none (kind_of a) then give_helped around place helper.StrSlice text_type ((value_as around.layout a.x (type_of around a) text_type w).0 ∷ x ∷ y ∷ []) (value_as around.layout a.x (type_of around a) text_type w).1 else w)
    ≡ give_helped around place helper.StrSlice text_type (a.x ∷ x ∷ y ∷ []) w
unfolding value_as
calls around place a x y w ha =
    of_text_kind (λ k. if is_text_or_none k then give_helped around place helper.StrSlice text_type ((value_as around.layout a.x (type_of around a) text_type w).0 ∷ x ∷ y ∷ []) (value_as around.layout a.x (type_of around a) text_type w).1 else w) ha.kind refl refl
    ∙ ap (λ t. give_helped around place helper.StrSlice text_type ((value_as around.layout a.x t text_type w).0 ∷ x ∷ y ∷ []) (value_as around.layout a.x t text_type w).1) ha.type

text_set : {around : Around} {a : Operand} → IsText around a → (core : Core) (v : Meant) → Stands core.blocks core.statics (type_of around a) (operand core.vars a.x) v → is_unset (operand core.vars a.x) ≡ false
text_set h core v st = stands_set (λ e. absurd (cc)) (as_text h core v st)

word_set : {around : Around} {a : Operand} → IsWord around a → (core : Core) (v : Meant) → Stands core.blocks core.statics (type_of around a) (operand core.vars a.x) v → is_unset (operand core.vars a.x) ≡ false
word_set h core v st = stands_set (λ e. absurd (cc)) (as_word h core v st)

-- ---- both bounds

both_does : (site : ℕ) (around : Around) (a b c : Operand) → IsText around a → IsWord around b → IsWord around c → Does around (row.Slice site true true) helper.StrSlice (type.Ptr 0) (a ∷ b ∷ c ∷ []) (a.x ∷ b.x ∷ c.x ∷ [])
both_does site around a b c ha hb hc = record { set = set; does = does }
  where
    set : (core : Core) (vs : List Meant) → AllStand around core (a ∷ b ∷ c ∷ []) vs → any_unset (operands core.vars (a.x ∷ b.x ∷ c.x ∷ [])) ≡ false
    set core [] st = absurd st
    set core (v ∷ []) st = absurd st.1
    set core (v ∷ u ∷ []) st = absurd st.1.1
    set core (v ∷ u ∷ s ∷ []) st =
        ap (λ k. k || (is_unset (operand core.vars b.x) || (is_unset (operand core.vars c.x) || false))) (text_set ha core v st.0)
        ∙ ap (λ k. k || (is_unset (operand core.vars c.x) || false)) (word_set hb core u st.1.0)
        ∙ ap (λ k. k || false) (word_set hc core s st.1.1.0)
    set core (v ∷ u ∷ s ∷ r ∷ vs) st = absurd st.1.1.1

    does : (program : Program) (p : LlProgram) (numbers : Numbers) (arguments : List (List ℕ)) (f : ℕ) (waits : List Frame) (core : Core) (world : World) (vs : List Meant)
        → HasHelper p numbers helper.StrSlice f core → world.left ≡ core.steps → AllStand around core (a ∷ b ∷ c ∷ []) vs
        → HelperFollows p arguments (Calling f (operands core.vars (a.x ∷ b.x ∷ c.x ∷ [])) waits core) waits core (type.Ptr 0) world (meant_op program no_covers (row.Slice site true true) vs world)
    does program p numbers arguments f waits core world [] has left st = absurd st
    does program p numbers arguments f waits core world (v ∷ []) has left st = absurd st.1
    does program p numbers arguments f waits core world (v ∷ u ∷ []) has left st = absurd st.1.1
    does program p numbers arguments f waits core world (v ∷ u ∷ s ∷ []) has left st =
        slice_is site program p arguments numbers f waits core world has left (operand core.vars a.x) (operand core.vars b.x) (operand core.vars c.x) v u s (as_text ha core v st.0) (as_word hb core u st.1.0) (as_word hc core s st.1.1.0)
    does program p numbers arguments f waits core world (v ∷ u ∷ s ∷ r ∷ vs) has left st = absurd st.1.1.1

-- of two operands, by what the helper takes
one_bound : {o : RowOp} (around : Around) (a b : Operand) (xs : List COperand) → IsText around a → IsWord around b
    → ((core : Core) (v u : Meant) → is_unset (operand core.vars a.x) ≡ false → is_unset (operand core.vars b.x) ≡ false → any_unset (operands core.vars xs) ≡ false)
    → ((program : Program) (p : LlProgram) (numbers : Numbers) (arguments : List (List ℕ)) (f : ℕ) (waits : List Frame) (core : Core) (world : World) (v u : Meant) → HasHelper p numbers helper.StrSlice f core → world.left ≡ core.steps
    → Stands core.blocks core.statics (type.Ptr 0) (operand core.vars a.x) v → Stands core.blocks core.statics type.Signed (operand core.vars b.x) u
    → HelperFollows p arguments (Calling f (operands core.vars xs) waits core) waits core (type.Ptr 0) world (meant_op program no_covers o (v ∷ u ∷ []) world)) → Does around o helper.StrSlice (type.Ptr 0) (a ∷ b ∷ []) xs
one_bound {o = o} around a b xs ha hb are_set law = record { set = set; does = does }
  where
    set : (core : Core) (vs : List Meant) → AllStand around core (a ∷ b ∷ []) vs → any_unset (operands core.vars xs) ≡ false
    set core [] st = absurd st
    set core (v ∷ []) st = absurd st.1
    set core (v ∷ u ∷ []) st = are_set core v u (text_set ha core v st.0) (word_set hb core u st.1.0)
    set core (v ∷ u ∷ s ∷ vs) st = absurd st.1.1

    does : (program : Program) (p : LlProgram) (numbers : Numbers) (arguments : List (List ℕ)) (f : ℕ) (waits : List Frame) (core : Core) (world : World) (vs : List Meant)
        → HasHelper p numbers helper.StrSlice f core → world.left ≡ core.steps → AllStand around core (a ∷ b ∷ []) vs
        → HelperFollows p arguments (Calling f (operands core.vars xs) waits core) waits core (type.Ptr 0) world (meant_op program no_covers o vs world)
    does program p numbers arguments f waits core world [] has left st = absurd st
    does program p numbers arguments f waits core world (v ∷ []) has left st = absurd st.1
    does program p numbers arguments f waits core world (v ∷ u ∷ []) has left st = law program p numbers arguments f waits core world v u has left (as_text ha core v st.0) (as_word hb core u st.1.0)
    does program p numbers arguments f waits core world (v ∷ u ∷ s ∷ vs) has left st = absurd st.1.1

whole_does : (site : ℕ) (around : Around) (a : Operand) → IsText around a → Does around (row.Slice site false false) helper.StrSlice (type.Ptr 0) (a ∷ []) (a.x ∷ first ∷ last ∷ [])
whole_does site around a ha = record { set = set; does = does }
  where
    set : (core : Core) (vs : List Meant) → AllStand around core (a ∷ []) vs → any_unset (operands core.vars (a.x ∷ first ∷ last ∷ [])) ≡ false
    set core [] st = absurd st
    set core (v ∷ []) st = ap (λ k. k || false) (text_set ha core v st.0)
    set core (v ∷ u ∷ vs) st = absurd st.1

    does : (program : Program) (p : LlProgram) (numbers : Numbers) (arguments : List (List ℕ)) (f : ℕ) (waits : List Frame) (core : Core) (world : World) (vs : List Meant)
        → HasHelper p numbers helper.StrSlice f core → world.left ≡ core.steps → AllStand around core (a ∷ []) vs
        → HelperFollows p arguments (Calling f (operands core.vars (a.x ∷ first ∷ last ∷ [])) waits core) waits core (type.Ptr 0) world (meant_op program no_covers (row.Slice site false false) vs world)
    does program p numbers arguments f waits core world [] has left st = absurd st
    does program p numbers arguments f waits core world (v ∷ []) has left st = all_is site program p arguments numbers f waits core world has left (operand core.vars a.x) v (as_text ha core v st.0)
    does program p numbers arguments f waits core world (v ∷ u ∷ vs) has left st = absurd st.1

pub slice_done : (site : ℕ) → OnStringAndWords helper.StrSlice (row.Slice site true true) (type.Ptr 0)
slice_done site around place a b c w ha hb hc takes = as_they_are (row.Slice site true true) helper.StrSlice (type.Ptr 0) around place (a ∷ b ∷ c ∷ []) (a.x ∷ b.x ∷ c.x ∷ []) w plain takes (both_does site around a b c ha hb hc) answers
    (three_come around (row.Slice site true true) place a b c w (string_comes ha) (word_comes hb) (word_comes hc) ∙ calls around place a b.x c.x w ha)
  where
    plain : are_plain (a ∷ b ∷ c ∷ []) ≡ true
    plain = ap (λ k. k && (is_plain (kind_of b) && (is_plain (kind_of c) && true))) (plain_text ha) ∙ ap (λ k. k && (is_plain (kind_of c) && true)) (plain_word hb) ∙ ap (λ k. k && true) (plain_word hc)

    answers : (core : Core) (vs : List Meant) → AllStand around core (a ∷ b ∷ c ∷ []) vs → Answers helper.StrSlice (row.Slice site true true) vs
    answers core [] st = absurd st
    answers core (v ∷ []) st = absurd st.1
    answers core (v ∷ u ∷ []) st = absurd st.1.1
    answers core (v ∷ u ∷ s ∷ []) st = slice_answers site (text_or_none (as_text ha core v st.0)) (is_number (as_word hb core u st.1.0)) (is_number (as_word hc core s st.1.1.0))
    answers core (v ∷ u ∷ s ∷ r ∷ vs) st = absurd st.1.1.1

plain_two : {around : Around} {a b : Operand} → IsText around a → IsWord around b → are_plain (a ∷ b ∷ []) ≡ true
plain_two {b = b} ha hb = ap (λ k. k && (is_plain (kind_of b) && true)) (plain_text ha) ∙ ap (λ k. k && true) (plain_word hb)

pub up_to_done : (site : ℕ) → OnStringAndWord helper.StrSlice (row.Slice site false true) (type.Ptr 0)
up_to_done site around place a b w ha hb takes = as_they_are (row.Slice site false true) helper.StrSlice (type.Ptr 0) around place (a ∷ b ∷ []) (a.x ∷ first ∷ b.x ∷ []) w (plain_two ha hb) takes
    (one_bound around a b (a.x ∷ first ∷ b.x ∷ []) ha hb (λ core v u sa sb. ap (λ k. k || (is_unset (operand core.vars b.x) || false)) sa ∙ ap (λ k. k || false) sb)
    (λ program p numbers arguments f waits core world v u has left sv su. up_to_is site program p arguments numbers f waits core world has left (operand core.vars a.x) (operand core.vars b.x) v u sv su))
    (text_and_word_answers (row.Slice site false true) helper.StrSlice ha hb (λ v u h k. up_to_answers site h k))
    (two_come around (row.Slice site false true) place a b w (string_comes ha) (word_comes hb) ∙ calls around place a first b.x w ha)

pub from_done : (site : ℕ) → OnStringAndWord helper.StrSlice (row.Slice site true false) (type.Ptr 0)
from_done site around place a b w ha hb takes = as_they_are (row.Slice site true false) helper.StrSlice (type.Ptr 0) around place (a ∷ b ∷ []) (a.x ∷ b.x ∷ last ∷ []) w (plain_two ha hb) takes
    (one_bound around a b (a.x ∷ b.x ∷ last ∷ []) ha hb (λ core v u sa sb. ap (λ k. k || (is_unset (operand core.vars b.x) || false)) sa ∙ ap (λ k. k || false) sb)
    (λ program p numbers arguments f waits core world v u has left sv su. from_is site program p arguments numbers f waits core world has left (operand core.vars a.x) (operand core.vars b.x) v u sv su))
    (text_and_word_answers (row.Slice site true false) helper.StrSlice ha hb (λ v u h k. from_answers site h k))
    (two_come around (row.Slice site true false) place a b w (string_comes ha) (word_comes hb) ∙ calls around place a b.x last w ha)

pub whole_done : (site : ℕ) → OnString helper.StrSlice (row.Slice site false false) (type.Ptr 0)
whole_done site around place a w ha takes = as_they_are (row.Slice site false false) helper.StrSlice (type.Ptr 0) around place (a ∷ []) (a.x ∷ first ∷ last ∷ []) w (ap (λ b. b && true) (plain_text ha)) takes (whole_does site around a ha)
    (text_answers (row.Slice site false false) helper.StrSlice ha (λ v h. whole_answers site h))
    (one_comes around (row.Slice site false false) place a w (string_comes ha) ∙ calls around place a first last w ha)
