-- Words that count.
use Rattle.std.proofs.Common.{◌≡◌, ◌<◌, ◌≤◌, ℕ, ◌+◌, ◌^◌, true, false, Ok, pos, ◌+ℤ◌, ◌-ℤ◌, refl, ap, ◌∙◌, arith}
use Rattle.std.proofs.lemmas.Bool.Decides.{nat_tests}
use Rattle.std.proofs.lemmas.Int.{int_wrap_fits}
use Rattle.std.specs.Int.{w64}
use Rattle.std.specs.Prelude.{int_lt}
use Rattle.std.specs.Ordering.{int_eq}
use Rattle.rpy_base.specs.Word.{Fits, wrap}
use Rattle.csub_tree.specs.State.{Word, Flag}
use Rattle.csub_tree.specs.Operation.{binary_of}
use Rattle.csub_tree.specs.declared.tree.CBinary.TheVariants.{Add, Sub, Lt, Eq}
use borrow.Author.Differences.{ints}

pub fits_count : (n : ℕ) → n < 2 ^ 63 → Fits (pos n)
fits_count n h = omega (arith, ints)

pub wrap_count : (n : ℕ) → n < 2 ^ 63 → wrap (pos n) ≡ pos n
wrap_count n h = int_wrap_fits w64 (pos n) (fits_count n h)

pub less_true : (m n : ℕ) → m < n → binary_of Lt (Word (pos m)) (Word (pos n)) ≡ Ok (Flag true)
less_true m n h = let e : int_lt (pos m) (pos n) ≡ true = grind (arith, nat_tests) in ap (λ b. Ok (Flag b)) e

pub less_false : (m n : ℕ) → n ≤ m → binary_of Lt (Word (pos m)) (Word (pos n)) ≡ Ok (Flag false)
less_false m n h = let e : int_lt (pos m) (pos n) ≡ false = grind (arith, nat_tests) in ap (λ b. Ok (Flag b)) e

pub adds : (m n : ℕ) → m + n < 2 ^ 63 → binary_of Add (Word (pos m)) (Word (pos n)) ≡ Ok (Word (pos (m + n)))
adds m n h = ap (λ z. Ok (Word z)) (ap wrap (the_sum m n) ∙ wrap_count (m + n) h)
  where
    the_sum : (m n : ℕ) → pos m +ℤ pos n ≡ pos (m + n)
    the_sum m n = refl

pub subs : (m n k : ℕ) → m ≡ n + k → m < 2 ^ 63 → binary_of Sub (Word (pos m)) (Word (pos n)) ≡ Ok (Word (pos k))
subs m n k e h = ap (λ z. Ok (Word z)) (ap wrap (the_rest m n k e) ∙ wrap_count k (omega (arith, e)))
  where
    the_rest : (m n k : ℕ) → m ≡ n + k → pos m -ℤ pos n ≡ pos k
    the_rest m n k e = omega (arith, ints, e)

pub same_true : (m n : ℕ) → m ≡ n → binary_of Eq (Word (pos m)) (Word (pos n)) ≡ Ok (Flag true)
same_true m n h = let e : int_eq (pos m) (pos n) ≡ true = grind (arith, nat_tests, h) in ap (λ b. Ok (Flag b)) e
