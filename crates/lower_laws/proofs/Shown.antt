-- Helpers that print put a text, and make nothing.
use Rattle.std.proofs.Common.{◌≡◌, ◌<◌, ◌≤◌, ℕ, suc, ◌+◌, ◌/◌, ◌%◌, ◌^◌, Bool, true, false, List, [], ◌∷◌, Ok, ℤ, pos, negsuc, refl, sym, ap, ◌∙◌, subst, arith}
use Rattle.std.proofs.lemmas.Bool.Decides.{nat_tests}
use Rattle.std.proofs.lemmas.Fmt.{decimal_digit, decimal_step}
use Rattle.std.specs.Fmt.{decimal, signed_decimal}
use Rattle.std.specs.Prelude.{nat_lt, nat_eq}
use Rattle.rpy_base.specs.Word.{Fits}
use Rattle.csub_tree.specs.State.{Value, Unset, Word, Flag, Core}
use Rattle.ll_code.specs.State.{Frame, Calling}
use Rattle.ll_code.specs.declared.program.LlProgram.{LlProgram}
use Rattle.ll_leads.proofs.Ways.{Comes, on, then, behind, many, enter, gives, call}
use Rattle.ll_texts.specs.Texts.{IsText}
use Rattle.ll_texts.proofs.Numbers.{less_false}
use Rattle.ll_texts.proofs.Reading.{is_set, is_there}
use Rattle.ll_build.specs.declared.needs.Helper.TheVariants as helper
use Rattle.ll_build.specs.declared.needs.Numbers.{Numbers}
use Rattle.ll_build.specs.declared.needs.Shared.TheVariants as shared
use Rattle.ll_strings.specs.Laws.{HasHelper}
use Rattle.ll_strings.proofs.Equal.{same_numbers}
use Rattle.ll_strings.proofs.Printing.{tens_below, digit_below, digits_put}
use Rattle.ll_strings.proofs.Putting.{puts, after, puts_all}

-- how a truth value prints
abbrev pub shown_flag : Bool → List ℕ
shown_flag true = 84 ∷ 114 ∷ 117 ∷ 101 ∷ []
shown_flag false = 70 ∷ 97 ∷ 108 ∷ 115 ∷ 101 ∷ []

module _ {p : LlProgram} {args : List (List ℕ)} {numbers : Numbers} {f : ℕ} {core : Core} where
  pub text_put : HasHelper p numbers helper.PrintStr f core → (x : Value) (bytes : List ℕ) → IsText core.blocks core.statics x bytes → (waits : List Frame) → Comes p args (Calling f (x ∷ []) waits core) bytes Unset waits core
  text_put h x bytes t waits = record {
    end = _;
    same = refl;
    leads =
        on (enter h.graph refl) (on (gives (Flag false) (is_there t)) (on (many 1 h.graph refl (simp (is_set t)))
        (then (call (simp (is_set t)) (λ waits. puts_all p args numbers.put_bytes (h.shared shared.PutBytes refl) h.text waits _ x bytes t)) (many 1 h.graph refl refl))));
  }

  pub flag_put : HasHelper p numbers helper.PrintBool f core → (b : Bool) (waits : List Frame) → Comes p args (Calling f (Flag b ∷ []) waits core) (shown_flag b) Unset waits core
  flag_put h true waits = record {
    end = _;
    same = refl;
    leads = on (enter h.graph refl) (on (many 1 h.graph refl refl) (after (puts 84 refl (omega arith)) (after (puts 114 refl (omega arith)) (after (puts 117 refl (omega arith)) (after (puts 101 refl (omega arith)) (many 1 h.graph refl refl))))));
  }
  flag_put h false waits = record {
    end = _;
    same = refl;
    leads = on (enter h.graph refl) (on (many 1 h.graph refl refl) (after (puts 70 refl (omega arith)) (after (puts 97 refl (omega arith)) (after (puts 108 refl (omega arith)) (after (puts 115 refl (omega arith)) (after (puts 101 refl (omega arith)) (many 1 h.graph refl refl)))))));
  }

  pub word_put : HasHelper p numbers helper.PrintWord f core → (z : ℤ) → Fits z → (waits : List Frame) → Comes p args (Calling f (Word z ∷ []) waits core) (signed_decimal z) Unset waits core
  word_put h (pos n) fits waits = record {
    end = _;
    same = refl;
    leads =
        on (enter h.graph refl) (on (gives (Flag false) (less_false n 0 (omega arith))) (on (many 1 h.graph refl refl)
        (then (call refl (λ waits. digits_put p args numbers.print_digits (h.shared shared.PrintDigits refl) n (omega (arith, fits.sfits)) waits _)) (many 1 h.graph refl refl))));
  }
  word_put h (negsuc m) fits waits = by (nat_lt (suc m) 10) refl
    where
      small : m < 2 ^ 63
      small = omega (arith, fits.sfits)

      by : (c : Bool) → nat_lt (suc m) 10 ≡ c → Comes p args (Calling f (Word (negsuc m) ∷ []) waits core) (45 ∷ decimal (suc m)) Unset waits core
      by true e =
          let few : suc m < 10 = grind (arith, nat_tests, e) in
          let none : suc m / 10 ≡ 0 = omega (arith, few) in
          let one : decimal (suc m) ≡ (48 + suc m % 10) ∷ [] = decimal_digit (suc m) few ∙ (let k : 48 + suc m ≡ 48 + suc m % 10 = omega (arith, few) in ap (λ d. d ∷ []) k) in
          subst (λ l. Comes p args (Calling f (Word (negsuc m) ∷ []) waits core) (45 ∷ l) Unset waits core) (sym one)
          (record {
            end = _;
            same = refl;
            leads =
                on (enter h.graph refl) (on (many 2 h.graph refl refl) (after (puts 45 refl (omega arith)) (on (gives (Word (pos (suc m / 10))) (tens_below m small))
                (on (gives (Flag true) (ap (λ t. Ok (Flag t)) (same_numbers (suc m / 10) 0 true (let z : nat_eq (suc m / 10) 0 ≡ true = grind (arith, nat_tests, none) in z)))) (on (many 2 h.graph refl refl)
                (on (gives (Word (pos (48 + suc m % 10))) (digit_below m)) (then (puts (48 + suc m % 10) refl (omega arith)) (many 1 h.graph refl refl))))))));
          })
      by false e =
          let more : 10 ≤ suc m = grind (arith, nat_tests, e) in
          let some : 0 < suc m / 10 = omega (arith, more) in
          subst (λ l. Comes p args (Calling f (Word (negsuc m) ∷ []) waits core) (45 ∷ l) Unset waits core) (sym (decimal_step (suc m) more (omega (arith, small))))
          (record {
            end = _;
            same = refl;
            leads =
                on (enter h.graph refl) (on (many 2 h.graph refl refl) (after (puts 45 refl (omega arith)) (on (gives (Word (pos (suc m / 10))) (tens_below m small))
                (on (gives (Flag false) (ap (λ t. Ok (Flag t)) (same_numbers (suc m / 10) 0 false (let z : nat_eq (suc m / 10) 0 ≡ false = grind (arith, nat_tests, some) in z)))) (on (many 1 h.graph refl refl)
                (behind (call refl (λ waits. digits_put p args numbers.print_digits (h.shared shared.PrintDigits refl) (suc m / 10) (omega (arith, small)) waits _)) (on (many 2 h.graph refl refl)
                (on (gives (Word (pos (48 + suc m % 10))) (digit_below m)) (then (puts (48 + suc m % 10) refl (omega arith)) (many 1 h.graph refl refl))))))))));
          })
