-- The text of a word is ASCII.
use Rattle.std.proofs.Common.{Bool, drop, ◌≤◌, subst, zero, suc, ◌≡◌, ℕ, List, [], ◌∷◌, true, false, cond, arith, ◌<◌, refl}
use Rattle.std.specs.Prelude.{◌==◌}
use Rattle.std.specs.Str.{IsAscii}
use Rattle.std.specs.Str.Parse.{AllDigits, without_leading_sign}
use Rattle.std.proofs.lemmas.Fmt.{IsAscii-from_digits}
use Rattle.std.proofs.lemmas.Str.Ascii.{IsAscii-nil, IsAscii-cons}
use Rattle.std.proofs.lemmas.Bool.Decides.{nat_tests}

by_sign : (p : Bool) (q : ℕ) (b : ℕ) (bs : List ℕ) → (p ≡ true → b < 128) → (0 < q → b < 128) → q ≤ 1
    → AllDigits 10 (cond p bs (drop q (b ∷ bs))) → IsAscii (b ∷ bs)
by_sign true q b bs minus plus small digits = IsAscii-cons b bs (minus refl) (IsAscii-from_digits bs digits)
by_sign false zero b bs minus plus small digits = IsAscii-from_digits (b ∷ bs) digits
by_sign false (suc q) b bs minus plus small digits =
    let e : q ≡ 0 = omega arith in
    let h : AllDigits 10 (drop q bs) = digits in
    let P : ℕ → Type 0 = λ n. AllDigits 10 (drop n bs) in
    IsAscii-cons b bs (plus (omega arith)) (IsAscii-from_digits bs (subst P e h))

pub ascii_of_word : (bs : List ℕ) → AllDigits 10 (without_leading_sign bs) → IsAscii bs
ascii_of_word [] digits = IsAscii-nil
ascii_of_word (b ∷ bs) digits =
    by_sign (b == 45) (cond (b == 43) 1 0) b bs (λ e. grind (arith, nat_tests)) (λ e. grind (arith, nat_tests)) (grind (arith, nat_tests)) digits
