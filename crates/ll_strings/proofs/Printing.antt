-- Words are printed.
use Rattle.std.proofs.Common.{◌≡◌, ◌<◌, ◌≤◌, ℕ, suc, ◌+◌, ◌/◌, ◌%◌, ◌^◌, Bool, true, false, List, [], ◌∷◌, ◌++◌, Some, Ok, pos, negsuc, ◌+ℤ◌, ◌-ℤ◌, refl, sym, ap, ◌∙◌, subst, arith}
use Rattle.std.proofs.lemmas.Bool.Decides.{nat_tests}
use Rattle.std.proofs.lemmas.Fmt.{decimal_digit, decimal_step, decimal_by_steps}
use Rattle.std.proofs.lemmas.Int.{ints}
use Rattle.std.specs.Fmt.{decimal}
use Rattle.std.specs.Prelude.{slice_get, nat_lt, nat_eq}
use Rattle.rpy_base.specs.Word.{wrap, floor_rest}
use Rattle.rpy_tree.specs.Value.{Nothing}
use Rattle.csub_tree.specs.State.{Unset, Word, Flag, Core}
use Rattle.csub_tree.specs.Operation.{binary_of}
use Rattle.csub_tree.specs.declared.tree.CBinary.TheVariants.{Add, Div, Mod, Sub}
use Rattle.ll_code.specs.State.{Frame, Calling}
use Rattle.ll_code.specs.declared.program.LlType.TheVariants as type
use Rattle.ll_code.specs.declared.program.LlProgram.{LlProgram}
use Rattle.ll_leads.proofs.Ways.{Comes, on, then, behind, many, enter, gives, call}
use Rattle.ll_texts.specs.Stands.{word, nothing}
use Rattle.ll_texts.specs.Follows.{Gave}
use Rattle.ll_texts.proofs.Numbers.{less_true, less_false, wrap_count}
use Rattle.ll_helpers.specs.Print.{print_digits}
use Rattle.ll_build.specs.declared.needs.Helper.TheVariants as helper
use Rattle.ll_build.specs.declared.needs.Shared.TheVariants as shared
use Rattle.ll_strings.specs.Laws.{Shows}
use Rattle.ll_strings.proofs.Equal.{same_numbers}
use Rattle.ll_strings.proofs.Putting.{puts, after, gave_put}

-- ---- tens and digits

pub tens_of : (n : ℕ) → n < 2 ^ 63 → binary_of Div (Word (pos n)) (Word (pos 10)) ≡ Ok (Word (pos (n / 10)))
tens_of n h = ap (λ z. Ok (Word z)) (wrap_count (n / 10) (omega arith))

pub digit_of : (n : ℕ) → binary_of Mod (Word (pos n)) (Word (pos 10)) ≡ Ok (Word (pos (n % 10)))
digit_of n = ap (λ z. Ok (Word z)) (let e : floor_rest (pos n) (pos 10) ≡ pos (n % 10) = omega (arith, ints) in e)

pub shown : (d : ℕ) → d < 10 → binary_of Add (Word (pos d)) (Word (pos 48)) ≡ Ok (Word (pos (48 + d)))
shown d h = ap (λ z. Ok (Word z)) ((let e : pos d +ℤ pos 48 ≡ pos (48 + d) = omega (arith, ints) in ap wrap e) ∙ wrap_count (48 + d) (omega arith))

last : (n : ℕ) → n < 10 → binary_of Add (Word (pos (n % 10))) (Word (pos 48)) ≡ Ok (Word (pos (48 + n)))
last n h = (let e : n % 10 ≡ n = omega arith in ap (λ k. binary_of Add (Word (pos k)) (Word (pos 48))) e) ∙ shown n h

-- of a negative word, by a negative divisor
pub tens_below : (m : ℕ) → m < 2 ^ 63 → binary_of Div (Word (negsuc m)) (Word (negsuc 9)) ≡ Ok (Word (pos (suc m / 10)))
tens_below m h = ap (λ z. Ok (Word z)) (wrap_count (suc m / 10) (omega arith))

pub digit_below : (m : ℕ) → binary_of Sub (Word (pos 48)) (Word (floor_rest (negsuc m) (negsuc 9))) ≡ Ok (Word (pos (48 + suc m % 10)))
digit_below m = ap (λ z. Ok (Word z)) ((let e : pos 48 -ℤ floor_rest (negsuc m) (negsuc 9) ≡ pos (48 + suc m % 10) = omega (arith, ints) in ap wrap e) ∙ wrap_count (48 + suc m % 10) (omega arith))

-- ---- the digits of a word that is not negative

module _ (p : LlProgram) (args : List (List ℕ)) (number : ℕ) (of : slice_get p.graphs number ≡ Some (print_digits number)) where
  abbrev Puts : ℕ → List ℕ → Type 0
  Puts n ds = n < 2 ^ 63 → (frames : List Frame) (core : Core) → Comes p args (Calling number (Word (pos n) ∷ []) frames core) ds Unset frames core

  one_digit : (n : ℕ) → n < 10 → Puts n ((48 + n) ∷ [])
  one_digit n few small frames core = record {
    end = _;
    same = refl;
    leads = on (enter of refl) (on (gives (Flag true) (less_true n 10 few)) (on (many 1 of refl refl) (on (gives (Word (pos (n % 10))) (digit_of n)) (on (gives (Word (pos (48 + n))) (last n few))
        (then (puts (48 + n) refl (omega (arith, few))) (many 1 of refl refl))))));
  }

  more_digits : (n : ℕ) (ds : List ℕ) → 10 ≤ n → Puts (n / 10) ds → Puts n (ds ++ ((48 + n % 10) ∷ []))
  more_digits n ds many_more ih small frames core = record {
    end = _;
    same = refl;
    leads = on (enter of refl) (on (gives (Flag false) (less_false n 10 many_more)) (on (many 1 of refl refl) (on (gives (Word (pos (n / 10))) (tens_of n small))
        (behind (call refl (λ waits. ih (omega (arith, small)) waits _)) (on (many 1 of refl refl) (on (gives (Word (pos (n % 10))) (digit_of n)) (on (gives (Word (pos (48 + n % 10))) (shown (n % 10) (omega arith)))
        (then (puts (48 + n % 10) refl (omega arith)) (many 1 of refl refl)))))))));
  }

  pub digits_put : (n : ℕ) → n < 2 ^ 63 → (frames : List Frame) (core : Core) → Comes p args (Calling number (Word (pos n) ∷ []) frames core) (decimal n) Unset frames core
  digits_put n small = decimal_by_steps Puts one_digit more_digits n (omega (arith, small)) small

pub print_word_is : Shows helper.PrintWord type.Signed
print_word_is program p args numbers f frames core w h left x v (word (pos n) fits) =
    gave_put (decimal n) left
    (on (enter h.graph refl) (on (gives (Flag false) (less_false n 0 (omega arith))) (on (many 1 h.graph refl refl)
    (then (call refl (λ waits. digits_put p args numbers.print_digits (h.shared shared.PrintDigits refl) n (omega (arith, fits.sfits)) waits _)) (many 1 h.graph refl refl))))) refl nothing
print_word_is program p args numbers f frames core w h left x v (word (negsuc m) fits) = by (nat_lt (suc m) 10) refl
  where
    small : m < 2 ^ 63
    small = omega (arith, fits.sfits)

    by : (c : Bool) → nat_lt (suc m) 10 ≡ c → Gave p args (Calling f (Word (negsuc m) ∷ []) frames core) frames core type.Void w Nothing (record w { out = w.out ++ (45 ∷ decimal (suc m)) })
    by true e =
        let few : suc m < 10 = grind (arith, nat_tests, e) in
        let none : suc m / 10 ≡ 0 = omega (arith, few) in
        let one : decimal (suc m) ≡ (48 + suc m % 10) ∷ [] = decimal_digit (suc m) few ∙ (let k : 48 + suc m ≡ 48 + suc m % 10 = omega (arith, few) in ap (λ d. d ∷ []) k) in
        subst (λ l. Gave p args (Calling f (Word (negsuc m) ∷ []) frames core) frames core type.Void w Nothing (record w { out = w.out ++ (45 ∷ l) })) (sym one)
        (gave_put (45 ∷ (48 + suc m % 10) ∷ []) left
        (on (enter h.graph refl) (on (many 2 h.graph refl refl) (after (puts 45 refl (omega arith)) (on (gives (Word (pos (suc m / 10))) (tens_below m small))
        (on (gives (Flag true) (ap (λ t. Ok (Flag t)) (same_numbers (suc m / 10) 0 true (let z : nat_eq (suc m / 10) 0 ≡ true = grind (arith, nat_tests, none) in z)))) (on (many 2 h.graph refl refl)
        (on (gives (Word (pos (48 + suc m % 10))) (digit_below m)) (then (puts (48 + suc m % 10) refl (omega arith)) (many 1 h.graph refl refl))))))))) refl nothing)
    by false e =
        let more : 10 ≤ suc m = grind (arith, nat_tests, e) in
        let some : 0 < suc m / 10 = omega (arith, more) in
        subst (λ l. Gave p args (Calling f (Word (negsuc m) ∷ []) frames core) frames core type.Void w Nothing (record w { out = w.out ++ (45 ∷ l) })) (sym (decimal_step (suc m) more (omega (arith, small))))
        (gave_put (45 ∷ (decimal (suc m / 10) ++ ((48 + suc m % 10) ∷ []))) left
        (on (enter h.graph refl) (on (many 2 h.graph refl refl) (after (puts 45 refl (omega arith)) (on (gives (Word (pos (suc m / 10))) (tens_below m small))
        (on (gives (Flag false) (ap (λ t. Ok (Flag t)) (same_numbers (suc m / 10) 0 false (let z : nat_eq (suc m / 10) 0 ≡ false = grind (arith, nat_tests, some) in z)))) (on (many 1 h.graph refl refl)
        (behind (call refl (λ waits. digits_put p args numbers.print_digits (h.shared shared.PrintDigits refl) (suc m / 10) (omega (arith, small)) waits _)) (on (many 2 h.graph refl refl)
        (on (gives (Word (pos (48 + suc m % 10))) (digit_below m)) (then (puts (48 + suc m % 10) refl (omega arith)) (many 1 h.graph refl refl))))))))))) refl nothing)
