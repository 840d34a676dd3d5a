-- Operations on words that a helper does.
use Rattle.std.proofs.Common.{◌≡◌, ℕ, [], ◌∷◌, Option, ap, ◌∙◌}
use Rattle.rpy_tree.specs.declared.syntax.BinOp.TheVariants as bin
use Rattle.rpy_meaning.specs.declared.row.RowOp.{RowOp}
use Rattle.rpy_meaning.specs.declared.row.RowOp.TheVariants as row
use Rattle.ll_code.specs.declared.program.LlType.TheVariants as type
use Rattle.ll_build.specs.declared.needs.Helper.{Helper}
use Rattle.ll_build.specs.declared.needs.Helper.TheVariants as helper
use Rattle.ll_strings.specs.Laws.{IsTwo}
use Rattle.ll_strings.proofs.Words.{div_is, floor_div_is, shl_is, min_is, max_is, chr_is}
use Rattle.ll_strings.proofs.Ranges.{mod_is}
use Rattle.ll_strings.proofs.Shifts.{shr_is}
use Rattle.ll_strings.proofs.Decimals.{of_word_is}
use Rattle.ll_strings.proofs.Asking.{of_bool_is}
use Rattle.rtyper_layout.specs.declared.kind.Kind.TheVariants as kind
use Rattle.rtyper_data.specs.Converting.{give_helped}
use Rattle.rtyper_op.specs.Lowering.{lowered, of_some, of_one, of_two, binary_to, if_words, conversion, conversion_by, least}
use Rattle.rtyper_data.specs.Numbers.{binary_of as lowered_binary}
use Rattle.rtyper_data.specs.Seen.{Around, Operand, Place, kind_of, Writing}
use Rattle.rtyper_op.specs.Texts.{to_str, to_str_by}
use Rattle.lower_laws.specs.Follows.{IsWord, IsFlag}
use Rattle.lower_laws.specs.Helped.{OnOne, OnTwo}
use Rattle.lower_laws.proofs.Coming.{one_comes, two_come, word_comes, flag_comes}
use Rattle.lower_laws.proofs.Helps.{helped, does_one, does_two}

-- the operation on two words is a call of this helper
abbrev CallsOnWords : RowOp → Helper → Type 0
CallsOnWords o h = (around : Around) (place : Place) (a b : Operand) (w : Writing) → IsWord around a → IsWord around b → lowered around place o (a ∷ b ∷ []) w ≡ give_helped around place h type.Signed (a.x ∷ b.x ∷ []) w

on_words : {o : RowOp} {h : Helper} → IsTwo h type.Signed type.Signed type.Signed o → CallsOnWords o h → OnTwo IsWord IsWord h o type.Signed
on_words {o = o} {h = h} law l around place a b w ha hb ht =
    helped (does_two (λ e. absurd (cc)) (λ e. absurd (cc)) law ha.type hb.type) (two_come around o place a b w (word_comes ha) (word_comes hb) ∙ l around place a b w ha hb) ht

pub div_is_helped : (site : Option ℕ) → OnTwo IsWord IsWord helper.WordDiv (row.Binary bin.Div site) type.Signed
unfolding of_some of_two binary_to lowered_binary
div_is_helped site = on_words (div_is site) l
  where
    l : CallsOnWords (row.Binary bin.Div site) helper.WordDiv
    l around place a b w ha hb = ap (λ k. if_words k (kind_of b) (lowered_binary around place bin.Div a.x b.x w) w) ha.kind ∙ ap (λ k. if_words kind.Word k (lowered_binary around place bin.Div a.x b.x w) w) hb.kind

pub floor_div_is_helped : (site : Option ℕ) → OnTwo IsWord IsWord helper.WordDiv (row.Binary bin.FloorDiv site) type.Signed
unfolding of_some of_two binary_to lowered_binary
floor_div_is_helped site = on_words (floor_div_is site) l
  where
    l : CallsOnWords (row.Binary bin.FloorDiv site) helper.WordDiv
    l around place a b w ha hb = ap (λ k. if_words k (kind_of b) (lowered_binary around place bin.FloorDiv a.x b.x w) w) ha.kind ∙ ap (λ k. if_words kind.Word k (lowered_binary around place bin.FloorDiv a.x b.x w) w) hb.kind

pub rest_is_helped : (site : Option ℕ) → OnTwo IsWord IsWord helper.WordMod (row.Binary bin.Mod site) type.Signed
unfolding of_some of_two binary_to lowered_binary
rest_is_helped site = on_words (mod_is site) l
  where
    l : CallsOnWords (row.Binary bin.Mod site) helper.WordMod
    l around place a b w ha hb = ap (λ k. if_words k (kind_of b) (lowered_binary around place bin.Mod a.x b.x w) w) ha.kind ∙ ap (λ k. if_words kind.Word k (lowered_binary around place bin.Mod a.x b.x w) w) hb.kind

pub shl_is_helped : (site : Option ℕ) → OnTwo IsWord IsWord helper.WordShl (row.Binary bin.Shl site) type.Signed
unfolding of_some of_two binary_to lowered_binary
shl_is_helped site = on_words (shl_is site) l
  where
    l : CallsOnWords (row.Binary bin.Shl site) helper.WordShl
    l around place a b w ha hb = ap (λ k. if_words k (kind_of b) (lowered_binary around place bin.Shl a.x b.x w) w) ha.kind ∙ ap (λ k. if_words kind.Word k (lowered_binary around place bin.Shl a.x b.x w) w) hb.kind

pub shr_is_helped : (site : Option ℕ) → OnTwo IsWord IsWord helper.WordShr (row.Binary bin.Shr site) type.Signed
unfolding of_some of_two binary_to lowered_binary
shr_is_helped site = on_words (shr_is site) l
  where
    l : CallsOnWords (row.Binary bin.Shr site) helper.WordShr
    l around place a b w ha hb = ap (λ k. if_words k (kind_of b) (lowered_binary around place bin.Shr a.x b.x w) w) ha.kind ∙ ap (λ k. if_words kind.Word k (lowered_binary around place bin.Shr a.x b.x w) w) hb.kind

pub least_is_helped : OnTwo IsWord IsWord helper.WordMin row.Min type.Signed
unfolding of_some of_two least
least_is_helped = on_words min_is l
  where
    l : CallsOnWords row.Min helper.WordMin
    l around place a b w ha hb = ap (λ k. if_words k (kind_of b) (give_helped around place helper.WordMin type.Signed (a.x ∷ b.x ∷ []) w) w) ha.kind ∙ ap (λ k. if_words kind.Word k (give_helped around place helper.WordMin type.Signed (a.x ∷ b.x ∷ []) w) w) hb.kind

pub greatest_is_helped : OnTwo IsWord IsWord helper.WordMax row.Max type.Signed
unfolding of_some of_two least
greatest_is_helped = on_words max_is l
  where
    l : CallsOnWords row.Max helper.WordMax
    l around place a b w ha hb = ap (λ k. if_words k (kind_of b) (give_helped around place helper.WordMax type.Signed (a.x ∷ b.x ∷ []) w) w) ha.kind ∙ ap (λ k. if_words kind.Word k (give_helped around place helper.WordMax type.Signed (a.x ∷ b.x ∷ []) w) w) hb.kind

-- ---- of one word or truth value

pub chr_is_helped : OnOne IsWord helper.WordChr row.Chr type.Char
unfolding of_some of_one conversion
chr_is_helped around place a w ha ht = helped (does_one (λ e. absurd (cc)) chr_is ha.type) (one_comes around row.Chr place a w (word_comes ha) ∙ ap (λ k. conversion_by row.Chr k around place a w) ha.kind) ht

pub word_text_is_helped : OnOne IsWord helper.StrOfWord row.ToStr (type.Ptr 0)
unfolding of_some of_one conversion to_str
word_text_is_helped around place a w ha ht = helped (does_one (λ e. absurd (cc)) of_word_is ha.type) (one_comes around row.ToStr place a w (word_comes ha) ∙ ap (λ k. to_str_by k around place a w) ha.kind) ht

pub flag_text_is_helped : OnOne IsFlag helper.StrOfBool row.ToStr (type.Ptr 0)
unfolding of_some of_one conversion to_str
flag_text_is_helped around place a w ha ht = helped (does_one (λ e. absurd (cc)) of_bool_is ha.type) (one_comes around row.ToStr place a w (flag_comes ha) ∙ ap (λ k. to_str_by k around place a w) ha.kind) ht
