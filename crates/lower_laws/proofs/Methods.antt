-- Methods of strings, and of bytes, that a helper does.
use Rattle.std.proofs.Common.{ℕ, [], ◌∷◌, Option, Some, refl, ap, ◌∙◌}
use Rattle.std.specs.Prelude.{◌&&◌, if◌then◌else◌, codes}
use Rattle.rpy_meaning.specs.declared.row.RowOp.TheVariants as row
use Rattle.ll_code.specs.declared.program.LlType.TheVariants as type
use Rattle.ll_build.specs.declared.needs.Helper.TheVariants as helper
use Rattle.ll_strings.proofs.Words.{digit_is}
use Rattle.ll_strings.proofs.Letters.{alpha_is}
use Rattle.ll_strings.proofs.Bytes.{space_is}
use Rattle.ll_strings.proofs.Finding.{starts_is, ends_is, find_is}
use Rattle.ll_strings.proofs.Stripping.{strip_is}
use Rattle.rtyper_layout.specs.Kinds.{is_text, is_text_or_none}
use Rattle.rtyper_layout.specs.declared.kind.Kind.TheVariants as kind
use Rattle.rtyper_op.specs.Lowering.{method_by}
use Rattle.rtyper_data.specs.Seen.{kind_of}
use Rattle.rtyper_op.specs.Texts.{of_byte, of_two, byte_method, byte_method_by, method_of_one, text_method_by, of_text, text_type}
use Rattle.lower_laws.specs.Follows.{IsByte}
use Rattle.lower_laws.specs.Helped.{IsString, IsText, OnOne, OnTwo}
use Rattle.lower_laws.proofs.Coming.{one_comes, two_come, byte_comes, string_comes, text_comes, of_text_kind}
use Rattle.lower_laws.proofs.Helps.{helped, does_one, does_two, of_text_is, of_texts_is}

-- ---- what a byte is

pub digit_is_helped : (site : Option ℕ) → OnOne IsByte helper.IsDigit (row.Method (codes "isdigit") site) type.Bool
unfolding byte_method of_byte
digit_is_helped site around place a w ha ht =
    helped (does_one (λ e. absurd (cc)) (digit_is site) ha.type)
    (one_comes around (row.Method (codes "isdigit") site) place a w (byte_comes ha) ∙ ap (λ k. method_by k around place (codes "isdigit") (a ∷ []) w) ha.kind
    ∙ ap (λ k. method_of_one around place (codes "isdigit") a (byte_method_by (of_byte (codes "isdigit")) k around place a w)) ha.kind) ht

pub alpha_is_helped : (site : Option ℕ) → OnOne IsByte helper.IsAlpha (row.Method (codes "isalpha") site) type.Bool
unfolding byte_method of_byte
alpha_is_helped site around place a w ha ht =
    helped (does_one (λ e. absurd (cc)) (alpha_is site) ha.type)
    (one_comes around (row.Method (codes "isalpha") site) place a w (byte_comes ha) ∙ ap (λ k. method_by k around place (codes "isalpha") (a ∷ []) w) ha.kind
    ∙ ap (λ k. method_of_one around place (codes "isalpha") a (byte_method_by (of_byte (codes "isalpha")) k around place a w)) ha.kind) ht

pub space_is_helped : (site : Option ℕ) → OnOne IsByte helper.IsSpace (row.Method (codes "isspace") site) type.Bool
unfolding byte_method of_byte
space_is_helped site around place a w ha ht =
    helped (does_one (λ e. absurd (cc)) (space_is site) ha.type)
    (one_comes around (row.Method (codes "isspace") site) place a w (byte_comes ha) ∙ ap (λ k. method_by k around place (codes "isspace") (a ∷ []) w) ha.kind
    ∙ ap (λ k. method_of_one around place (codes "isspace") a (byte_method_by (of_byte (codes "isspace")) k around place a w)) ha.kind) ht

-- ---- of a string

pub strip_is_helped : (site : Option ℕ) → OnOne IsText helper.StrStrip (row.Method (codes "strip") site) (type.Ptr 0)
unfolding byte_method of_byte
strip_is_helped site around place a w ha ht =
    helped (does_one (λ e. absurd (cc)) (strip_is site) ha.type)
    (one_comes around (row.Method (codes "strip") site) place a w (text_comes ha) ∙ of_text_kind (λ k. method_by k around place (codes "strip") (a ∷ []) w) ha.kind refl refl
    ∙ of_text_kind (λ k. if is_text_or_none k then of_text around place helper.StrStrip text_type a w else w) ha.kind refl refl
    ∙ of_text_is around place helper.StrStrip text_type a w ha.type) ht

-- ---- of a string and another

pub starts_is_helped : (site : Option ℕ) → OnTwo IsText IsString helper.StrStartsWith (row.Method (codes "startswith") site) type.Bool
unfolding of_two
starts_is_helped site around place a b w ha hb ht =
    helped (does_two (λ e. absurd (cc)) (λ e. absurd (cc)) (starts_is site) ha.type hb.type)
    (two_come around (row.Method (codes "startswith") site) place a b w (text_comes ha) (string_comes hb) ∙ of_text_kind (λ k. method_by k around place (codes "startswith") (a ∷ b ∷ []) w) ha.kind refl refl
    ∙ of_text_kind (λ k. text_method_by (Some (helper.StrStartsWith, type.Bool)) (is_text_or_none k && is_text (kind_of b)) around place a b w) ha.kind refl refl
    ∙ ap (λ k. text_method_by (Some (helper.StrStartsWith, type.Bool)) (is_text k) around place a b w) hb.kind
    ∙ of_texts_is around place helper.StrStartsWith type.Bool a b w ha.type hb.type) ht

pub ends_is_helped : (site : Option ℕ) → OnTwo IsText IsString helper.StrEndsWith (row.Method (codes "endswith") site) type.Bool
unfolding of_two
ends_is_helped site around place a b w ha hb ht =
    helped (does_two (λ e. absurd (cc)) (λ e. absurd (cc)) (ends_is site) ha.type hb.type)
    (two_come around (row.Method (codes "endswith") site) place a b w (text_comes ha) (string_comes hb) ∙ of_text_kind (λ k. method_by k around place (codes "endswith") (a ∷ b ∷ []) w) ha.kind refl refl
    ∙ of_text_kind (λ k. text_method_by (Some (helper.StrEndsWith, type.Bool)) (is_text_or_none k && is_text (kind_of b)) around place a b w) ha.kind refl refl
    ∙ ap (λ k. text_method_by (Some (helper.StrEndsWith, type.Bool)) (is_text k) around place a b w) hb.kind
    ∙ of_texts_is around place helper.StrEndsWith type.Bool a b w ha.type hb.type) ht

pub find_is_helped : (site : Option ℕ) → OnTwo IsText IsString helper.StrFind (row.Method (codes "find") site) type.Signed
unfolding of_two
find_is_helped site around place a b w ha hb ht =
    helped (does_two (λ e. absurd (cc)) (λ e. absurd (cc)) (find_is site) ha.type hb.type)
    (two_come around (row.Method (codes "find") site) place a b w (text_comes ha) (string_comes hb) ∙ of_text_kind (λ k. method_by k around place (codes "find") (a ∷ b ∷ []) w) ha.kind refl refl
    ∙ of_text_kind (λ k. text_method_by (Some (helper.StrFind, type.Signed)) (is_text_or_none k && is_text (kind_of b)) around place a b w) ha.kind refl refl
    ∙ ap (λ k. text_method_by (Some (helper.StrFind, type.Signed)) (is_text k) around place a b w) hb.kind
    ∙ of_texts_is around place helper.StrFind type.Signed a b w ha.type hb.type) ht
