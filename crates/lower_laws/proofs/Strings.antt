-- Operations on strings, and on strings and words, that a helper does.
use Rattle.std.proofs.Common.{◌≡◌, ℕ, [], ◌∷◌, Option, None, ℤ, refl, ◌∙◌}
use Rattle.std.specs.Prelude.{if◌then◌else◌}
use Rattle.rpy_tree.specs.declared.syntax.BinOp.TheVariants as bin
use Rattle.rpy_meaning.specs.declared.row.RowOp.{RowOp}
use Rattle.rpy_meaning.specs.declared.row.RowOp.TheVariants as row
use Rattle.ll_code.specs.declared.program.LlType.{LlType}
use Rattle.ll_code.specs.declared.program.LlType.TheVariants as type
use Rattle.ll_build.specs.declared.needs.Helper.{Helper}
use Rattle.ll_build.specs.declared.needs.Helper.TheVariants as helper
use Rattle.ll_strings.specs.Laws.{Is, IsTwo}
use Rattle.ll_strings.proofs.Adding.{add_is}
use Rattle.ll_strings.proofs.Asking.{len_is, index_is, walk_is, has_item_is, item_is}
use Rattle.ll_strings.proofs.Repeating.{mul_is}
use Rattle.ll_strings.proofs.Slices.{but_last_is}
use Rattle.rtyper_layout.specs.declared.kind.Kind.TheVariants as kind
use Rattle.rtyper_layout.specs.Kinds.{is_text_or_none}
use Rattle.rtyper_op.specs.Lowering.{lowered, of_some, of_one, of_two, binary_to}
use Rattle.rtyper_op.specs.Placing.{index, index_by, len, len_by, walk, walk_by, has_item, walk_item, says_nothing, sum, sum_by, product, product_by}
use Rattle.rtyper_data.specs.Seen.{Around, Operand, Place, kind_of, Writing}
use Rattle.rtyper_op.specs.Texts.{of_text, of_texts, of_text_and_word, text_type}
use Rattle.lower_laws.specs.Follows.{IsWord}
use Rattle.lower_laws.specs.Helped.{IsText, OnOne, OnTwo}
use Rattle.lower_laws.proofs.Coming.{one_comes, two_come, word_comes, text_comes, of_text_kind}
use Rattle.lower_laws.proofs.Helps.{helped, does_one, does_two, of_text_is, of_texts_is, of_text_and_word_is}

-- ---- of one string

abbrev CallsOnText : RowOp → Helper → LlType → Type 0
CallsOnText o h t = (around : Around) (place : Place) (a : Operand) (w : Writing) → IsText around a → lowered around place o (a ∷ []) w ≡ of_text around place h t a w

on_text : {o : RowOp} {h : Helper} {t : LlType} → Is h (type.Ptr 0) t o → CallsOnText o h t → OnOne IsText h o t
on_text {o = o} {h = h} {t = t} law l around place a w ha ht =
    helped (does_one (λ e. absurd (cc)) law ha.type) (one_comes around o place a w (text_comes ha) ∙ l around place a w ha ∙ of_text_is around place h t a w ha.type) ht

pub len_is_helped : OnOne IsText helper.StrLen row.Len type.Signed
unfolding of_some of_one len
len_is_helped = on_text len_is (λ around place a w ha. of_text_kind (λ k. len_by k around place a w) ha.kind refl refl)

pub walk_is_helped : (site : ℕ) → OnOne IsText helper.StrWalk (row.Walk site) (type.Ptr 0)
unfolding of_some of_one walk
walk_is_helped site = on_text (walk_is site) (λ around place a w ha. of_text_kind (λ k. walk_by k around place a w) ha.kind refl refl)

pub but_last_is_helped : (site : ℕ) → OnOne IsText helper.StrButLast (row.AllButLast site) (type.Ptr 0)
unfolding of_some of_one
but_last_is_helped site = on_text (but_last_is site) (λ around place a w ha. of_text_kind (λ k. if is_text_or_none k then of_text around place helper.StrButLast text_type a w else w) ha.kind refl refl)

-- ---- of a string and a word

abbrev CallsOnTextAndWord : RowOp → Helper → LlType → Type 0
CallsOnTextAndWord o h t = (around : Around) (place : Place) (a b : Operand) (w : Writing) → IsText around a → lowered around place o (a ∷ b ∷ []) w ≡ of_text_and_word around place h t a b w

on_text_and_word : {o : RowOp} {h : Helper} {t : LlType} → IsTwo h (type.Ptr 0) type.Signed t o → CallsOnTextAndWord o h t → OnTwo IsText IsWord h o t
on_text_and_word {o = o} {h = h} {t = t} law l around place a b w ha hb ht =
    helped (does_two (λ e. absurd (cc)) (λ e. absurd (cc)) law ha.type hb.type)
    (two_come around o place a b w (text_comes ha) (word_comes hb) ∙ l around place a b w ha ∙ of_text_and_word_is around place h t a b w ha.type) ht

pub index_is_helped : (literal : Option ℤ) → OnTwo IsText IsWord helper.StrIndex (row.Index literal) type.Char
unfolding of_some of_two index
index_is_helped literal = on_text_and_word (index_is literal) (λ around place a b w ha. of_text_kind (λ k. index_by k literal around place a b w) ha.kind refl refl)

pub has_item_is_helped : OnTwo IsText IsWord helper.StrHasItem (row.HasItem None) type.Bool
unfolding of_some of_two has_item
has_item_is_helped = on_text_and_word has_item_is (λ around place a b w ha. of_text_kind (λ k. if is_text_or_none k then of_text_and_word around place helper.StrHasItem type.Bool a b w else says_nothing around place w) ha.kind refl refl)

pub item_is_helped : OnTwo IsText IsWord helper.StrItem (row.Item None) type.Char
unfolding of_some of_two walk_item
item_is_helped = on_text_and_word item_is (λ around place a b w ha. of_text_kind (λ k. if is_text_or_none k then of_text_and_word around place helper.StrItem type.Char a b w else says_nothing around place w) ha.kind refl refl)

pub mul_is_helped : (site : Option ℕ) → OnTwo IsText IsWord helper.StrMul (row.Binary bin.Mul site) (type.Ptr 0)
unfolding of_some of_two binary_to product
mul_is_helped site = on_text_and_word (mul_is site) (λ around place a b w ha. of_text_kind (λ k. product_by k around place a b w) ha.kind refl refl)

-- ---- of two strings

abbrev CallsOnTexts : RowOp → Helper → LlType → Type 0
CallsOnTexts o h t = (around : Around) (place : Place) (a b : Operand) (w : Writing) → IsText around a → IsText around b → lowered around place o (a ∷ b ∷ []) w ≡ of_texts around place h t a b w

on_texts : {o : RowOp} {h : Helper} {t : LlType} → IsTwo h (type.Ptr 0) (type.Ptr 0) t o → CallsOnTexts o h t → OnTwo IsText IsText h o t
on_texts {o = o} {h = h} {t = t} law l around place a b w ha hb ht =
    helped (does_two (λ e. absurd (cc)) (λ e. absurd (cc)) law ha.type hb.type)
    (two_come around o place a b w (text_comes ha) (text_comes hb) ∙ l around place a b w ha hb ∙ of_texts_is around place h t a b w ha.type hb.type) ht

joined : (around : Around) (place : Place) (a b : Operand) (w : Writing) → IsText around a → IsText around b → sum around place a b w ≡ of_texts around place helper.StrAdd text_type a b w
unfolding sum
joined around place a b w ha hb =
    of_text_kind (λ k. sum_by k (kind_of b) around place a b w) ha.kind
    (of_text_kind (λ k. sum_by kind.Text k around place a b w) hb.kind refl refl)
    (of_text_kind (λ k. sum_by kind.MaybeText k around place a b w) hb.kind refl refl)

pub add_is_helped : (site : Option ℕ) → OnTwo IsText IsText helper.StrAdd (row.Binary bin.Add site) (type.Ptr 0)
unfolding of_some of_two binary_to
add_is_helped site = on_texts (add_is site) (λ around place a b w ha hb. joined around place a b w ha hb)
