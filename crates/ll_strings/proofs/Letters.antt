-- Whether a byte is a letter.
use Rattle.std.proofs.Common.{◌≡◌, ◌<◌, ℕ, zero, suc, Bool, true, false, ◌&&◌, [], ◌∷◌, Option, Ok, ℤ, pos, refl, ap, subst, arith}
use Rattle.std.proofs.lemmas.Bool.Decides.{nat_tests}
use Rattle.std.specs.Int.{w64, int_bit_or}
use Rattle.std.specs.Prelude.{cond, int_lt, nat_eq, codes}
use Rattle.rpy_tree.specs.Value.{Flag as MeantFlag}
use Rattle.rpy_meaning.specs.declared.row.RowOp.TheVariants as row
use Rattle.rpy_meaning.specs.Methods.{is_letter}
use Rattle.csub_tree.specs.State.{Word, Byte, Flag}
use Rattle.csub_tree.specs.Operation.{same_flag}
use Rattle.ll_code.specs.State.{Calling}
use Rattle.ll_code.specs.declared.program.LlType.TheVariants as type
use Rattle.ll_leads.proofs.Ways.{on, many, enter, gives}
use Rattle.ll_texts.specs.Stands.{flag, byte}
use Rattle.ll_texts.specs.Follows.{Gave}
use Rattle.ll_texts.proofs.Following.{gave}
use Rattle.ll_build.specs.declared.needs.Helper.TheVariants as helper
use Rattle.ll_strings.specs.Laws.{Is}

-- with the bit by which the two cases differ
abbrev as_lower : ℕ → ℤ
as_lower b = int_bit_or w64 (pos b) (pos 32)

abbrev by_bits : ℕ → Bool
by_bits b = cond (int_lt (as_lower b) (pos 97)) false (int_lt (as_lower b) (pos 123))

abbrev all_agree : ℕ → Bool
all_agree zero = true
all_agree (suc b) = same_flag (by_bits b) (is_letter b) && all_agree b

-- each byte was tried
all_bytes : all_agree 256 ≡ true
all_bytes = refl

both : (a b : Bool) → (a && b) ≡ true → (a ≡ true) × (b ≡ true)
both true true h = (refl, refl)
both true false h = absurd (cc)
both false b h = absurd (cc)

are_same : (a b : Bool) → same_flag a b ≡ true → a ≡ b
are_same true true h = refl
are_same true false h = absurd (cc)
are_same false true h = absurd (cc)
are_same false false h = refl

agree : (n b : ℕ) → b < n → all_agree n ≡ true → by_bits b ≡ is_letter b
agree zero b h e = absurd (omega arith)
agree (suc n) b h e = one (nat_eq b n) refl (agree n b)
  where
    one : (c : Bool) → nat_eq b n ≡ c → (b < n → all_agree n ≡ true → by_bits b ≡ is_letter b) → by_bits b ≡ is_letter b
    one true q go = (let z : n ≡ b = grind (arith, nat_tests, q) in subst (λ k. by_bits k ≡ is_letter k) z (are_same (by_bits n) (is_letter n) (both (same_flag (by_bits n) (is_letter n)) (all_agree n) e).0))
    one false q go = (let z : b < n = grind (arith, nat_tests, q, h) in go z (both (same_flag (by_bits n) (is_letter n)) (all_agree n) e).1)

pub alpha_is : (site : Option ℕ) → Is helper.IsAlpha type.Char type.Bool (row.Method (codes "isalpha") site)
alpha_is site program p args numbers f frames core w h left x v (byte b small) = subst (λ c. Gave p args (Calling f (Byte b ∷ []) frames core) frames core type.Bool w (MeantFlag c) w) (agree 256 b small all_bytes) (by (int_lt (as_lower b) (pos 97)) refl)
  where
    by : (c : Bool) → int_lt (as_lower b) (pos 97) ≡ c → Gave p args (Calling f (Byte b ∷ []) frames core) frames core type.Bool w (MeantFlag (cond c false (int_lt (as_lower b) (pos 123)))) w
    by true e = gave left (on (enter h.graph refl) (on (many 1 h.graph refl refl) (on (gives (Word (as_lower b)) refl) (on (gives (Flag true) (ap (λ t. Ok (Flag t)) e)) (many 2 h.graph refl refl))))) refl (flag false)
    by false e = gave left (on (enter h.graph refl) (on (many 1 h.graph refl refl) (on (gives (Word (as_lower b)) refl) (on (gives (Flag false) (ap (λ t. Ok (Flag t)) e)) (many 3 h.graph refl refl))))) refl (flag (int_lt (as_lower b) (pos 123)))
