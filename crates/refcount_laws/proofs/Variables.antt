-- Variables of the graphs that are made, and words.
use Rattle.std.proofs.Common.{◌≡◌, ◌⊎◌, ⊎_elim, inl, inr, ◌<◌, ◌≤◌, ◌^◌, ℕ, zero, suc, ◌+◌, true, false, ◌||◌, List, [], ◌∷◌, ◌++◌, length, Ok, refl, ap, ◌∙◌, subst, arith}
use Rattle.std.proofs.Math.IntN.{pos, ◌+ℤ◌, ◌-ℤ◌}
use Rattle.std.proofs.lemmas.Int.{int_wrap_fits, ints}
use Rattle.std.proofs.lemmas.Bool.Decides.{nat_tests}
use Rattle.std.specs.Int.{w64}
use Rattle.std.specs.Prelude.{slice_set, int_lt, FitsSigned}
use Rattle.std.specs.Ordering.{int_eq}
use Rattle.csub_tree.specs.State.{Value, Unset, Word, Flag}
use Rattle.csub_tree.specs.Operation.{is_unset, binary_of}
use Rattle.csub_tree.specs.Statement.{read, operand, operands, any_unset}
use Rattle.csub_tree.specs.declared.tree.CBinary.TheVariants.{Add, Sub, Eq, Lt}
use Rattle.csub_tree.specs.declared.tree.COperand.{COperand}
use Rattle.ll_code.specs.Machine.{set_all}
use Rattle.refcount_laws.specs.Graphs.{variables, given}
use Rattle.refcount_laws.proofs.Touching.{is_or_not}
use Rattle.refcount_laws.proofs.Cells.{set_here, set_other, set_again}

-- ---- words

fits : (n : ℕ) → n < 2 ^ 63 → FitsSigned w64 (pos n)
fits n lt = record { sfits = omega (arith, lt) }

pub more_word : (n : ℕ) → suc n < 2 ^ 63 → binary_of Add (Word (pos n)) (Word (pos 1)) ≡ Ok (Word (pos (suc n)))
more_word n lt = ap (λ z. Ok (Word z)) (int_wrap_fits w64 (pos n +ℤ pos 1) (subst (FitsSigned w64) (let e : pos (suc n) ≡ pos n +ℤ pos 1 = omega (arith, ints) in e) (fits (suc n) lt)) ∙ (let e : pos n +ℤ pos 1 ≡ pos (suc n) = omega (arith, ints) in e))

pub less_word : (n : ℕ) → suc n < 2 ^ 63 → binary_of Sub (Word (pos (suc n))) (Word (pos 1)) ≡ Ok (Word (pos n))
less_word n lt = ap (λ z. Ok (Word z)) (int_wrap_fits w64 (pos (suc n) -ℤ pos 1) (subst (FitsSigned w64) (let e : pos n ≡ pos (suc n) -ℤ pos 1 = omega (arith, ints) in e) (fits n (omega (arith, lt)))) ∙ (let e : pos (suc n) -ℤ pos 1 ≡ pos n = omega (arith, ints) in e))

pub none_left : binary_of Eq (Word (pos 0)) (Word (pos 0)) ≡ Ok (Flag true)
none_left = refl

pub some_left : (n : ℕ) → binary_of Eq (Word (pos (suc n))) (Word (pos 0)) ≡ Ok (Flag false)
some_left n = ap (λ b. Ok (Flag b)) (let e : int_eq (pos (suc n)) (pos 0) ≡ false = grind (arith, nat_tests, ints) in e)

pub is_below : (m n : ℕ) → m < n → binary_of Lt (Word (pos m)) (Word (pos n)) ≡ Ok (Flag true)
is_below m n lt = ap (λ b. Ok (Flag b)) (let e : int_lt (pos m) (pos n) ≡ true = grind (arith, nat_tests, ints) in e)

pub not_below : (m n : ℕ) → n ≤ m → binary_of Lt (Word (pos m)) (Word (pos n)) ≡ Ok (Flag false)
not_below m n le = ap (λ b. Ok (Flag b)) (let e : int_lt (pos m) (pos n) ≡ false = grind (arith, nat_tests, ints) in e)

-- ---- variables

-- the first variables are set
pub record AllSet (vars : List Value) (n : ℕ) : Type 0 where
  pub at : (i : ℕ) → i < n → is_unset (read vars i) ≡ false

any_of : (vars : List Value) (n v m : ℕ) → AllSet vars m → v + n ≤ m → any_unset (operands vars (given v n)) ≡ false
any_of vars zero v m s le = refl
any_of vars (suc n) v m s le = ap (λ b. b || any_unset (operands vars (given (suc v) n))) (s.at v (omega (arith, le))) ∙ any_of vars n (suc v) m s (omega (arith, le))

pub none_unset : (vars : List Value) (n : ℕ) → AllSet vars n → any_unset (operands vars (given 0 n)) ≡ false
none_unset vars n s = any_of vars n 0 n s (omega arith)

any_behind : (vars : List Value) (n v m : ℕ) (x : COperand) → AllSet vars m → v + n ≤ m → is_unset (operand vars x) ≡ false → any_unset (operands vars (given v n ++ x ∷ [])) ≡ false
any_behind vars zero v m x s le e = ap (λ b. b || false) e
any_behind vars (suc n) v m x s le e = ap (λ b. b || any_unset (operands vars (given (suc v) n ++ x ∷ []))) (s.at v (omega (arith, le))) ∙ any_behind vars n (suc v) m x s (omega (arith, le)) e

pub none_unset_behind : (vars : List Value) (n : ℕ) (x : COperand) → AllSet vars n → is_unset (operand vars x) ≡ false → any_unset (operands vars (given 0 n ++ x ∷ [])) ≡ false
none_unset_behind vars n x s e = any_behind vars n 0 n x s (omega arith) e

-- variables that take their own values
pub same_again : (vars : List Value) (n v : ℕ) → set_all vars (variables v n) (operands vars (given v n)) ≡ vars
same_again vars zero v = refl
same_again vars (suc n) v = ap (λ l. set_all l (variables (suc v) n) (operands vars (given (suc v) n))) (set_again vars v Unset) ∙ same_again vars n (suc v)

-- and one more
pub same_but_last : (vars : List Value) (n v : ℕ) (x : COperand) → set_all vars (variables v (suc n)) (operands vars (given v n ++ x ∷ [])) ≡ slice_set vars (v + n) (operand vars x)
same_but_last vars zero v x = ap (λ w. slice_set vars w (operand vars x)) (let e : v ≡ v + 0 = omega arith in e)
same_but_last vars (suc n) v x =
    ap (λ l. set_all l (variables (suc v) (suc n)) (operands vars (given (suc v) n ++ x ∷ []))) (set_again vars v Unset) ∙ same_but_last vars n (suc v) x
    ∙ ap (λ w. slice_set vars w (operand vars x)) (let e : suc v + n ≡ v + suc n = omega arith in e)

pub last_set : (vars : List Value) (n : ℕ) (x : COperand) → set_all vars (variables 0 (suc n)) (operands vars (given 0 n ++ x ∷ [])) ≡ slice_set vars n (operand vars x)
last_set vars n x = same_but_last vars n 0 x ∙ ap (λ w. slice_set vars w (operand vars x)) (let e : 0 + n ≡ n = omega arith in e)

pub set_more : (vars : List Value) (n a : ℕ) (x : Value) → AllSet vars n → is_unset x ≡ false → AllSet (slice_set vars a x) n
set_more vars n a x s e = record { at = λ i lt. at i lt (set_or vars a i x) }
  where
    set_or : (vars : List Value) (a b : ℕ) (x : Value) → (read (slice_set vars a x) b ≡ read vars b) ⊎ (read (slice_set vars a x) b ≡ x)
    set_or [] a b x = inl refl
    set_or (y ∷ xs) zero zero x = inr refl
    set_or (y ∷ xs) zero (suc b) x = inl refl
    set_or (y ∷ xs) (suc a) zero x = inl refl
    set_or (y ∷ xs) (suc a) (suc b) x = set_or xs a b x

    at : (i : ℕ) → i < n → (read (slice_set vars a x) i ≡ read vars i) ⊎ (read (slice_set vars a x) i ≡ x) → is_unset (read (slice_set vars a x) i) ≡ false
    at i lt (inl same) = ap is_unset same ∙ s.at i lt
    at i lt (inr new) = ap is_unset new ∙ e

pub set_next : (vars : List Value) (n : ℕ) (x : Value) → n < length vars → AllSet vars n → is_unset x ≡ false → AllSet (slice_set vars n x) (suc n)
set_next vars n x room s e = record {
  at = λ i lt.
      ⊎_elim
      (λ q. subst (λ i. is_unset (read (slice_set vars n x) i) ≡ false) q (ap is_unset (set_here vars n x Unset room) ∙ e))
      (λ ne. let d : (n ≡ i) ⊎ (i < n) = grind arith in ⊎_elim (λ q. absurd (ne q)) (λ l. ap is_unset (set_other vars n i x Unset ne) ∙ s.at i l) d)
      (is_or_not n i);
}

-- values that stand in variables from this one on
abbrev pub HasFrom : List Value → ℕ → List Value → Type 0
HasFrom vars v [] = Unit {0}
HasFrom vars v (x ∷ xs) = (read vars v ≡ x) × HasFrom vars (suc v) xs

pub has_same : (vars vars' : List Value) (v : ℕ) (xs : List Value) → ((i : ℕ) → v ≤ i → i < v + length xs → read vars' i ≡ read vars i) → HasFrom vars v xs → HasFrom vars' v xs
has_same vars vars' v [] e h = tt
has_same vars vars' v (x ∷ xs) e h = (e v (omega arith) (omega arith) ∙ h.0, has_same vars vars' (suc v) xs (λ i le lt. e i (omega (arith, le)) (omega (arith, lt))) h.1)
