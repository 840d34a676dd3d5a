-- What a body computes, by itself: the words of its bound locals, its output and its result.
use Rattle.std.proofs.Common.{◌≡◌, ◌≢◌, ℕ, zero, suc, ◌+◌, ◌-◌, ◌^◌, ◌<◌, ◌≤◌, ◌⊎◌, Bool, true, false, cond, List, [], ◌∷◌, ◌++◌, length, get_or, set, refl, sym, ap, subst, ◌∙◌, arith, inl, inr}
use Rattle.std.specs.Prelude.{ℤ, pos, negsuc, ◌+ℤ◌, ◌-ℤ◌, ◌*ℤ◌, nat_lt, nat_le, ◌==◌, ◌&&◌, if◌then◌else◌}
use Rattle.std.specs.Int.{w64, int_wrap}
use Rattle.std.specs.Fmt.{signed_decimal}
use Rattle.std.proofs.lemmas.Int.{SFits-int_wrap}
use Rattle.std.proofs.lemmas.Bool.Decides.{nat_tests}
use Rattle.std.proofs.lemmas.Grind.{get_or-set_at}
use Rattle.std.proofs.lemmas.List.{get_or-set_other, length-set, length-append, get_or_append_left}
use Rattle.std.proofs.Math.Seq.{get_or-append_seam}
use Rattle.rpy_base.specs.Word.{Fits, wrap}
use Rattle.rpy_tree.specs.Pure.{Expr, Int, Local, Binary}
use Rattle.rpy_tree.specs.declared.syntax.BinOp.{BinOp}
use Rattle.rpy_tree.specs.declared.syntax.BinOp.TheVariants.{Add, Sub, Mul, Div, FloorDiv, Mod, Shl, Shr, BitAnd, BitOr, BitXor}
use Rattle.rpy_first.specs.declared.body.Sum.{Sum}
use Rattle.rpy_first.specs.declared.body.Line.{Line}
use Rattle.rpy_first.specs.declared.body.Line.TheVariants.{Assign, Print}
use Rattle.rpy_first.specs.Program.{expr_of, reads_bound, is_bound_local, is_literal, is_arithmetic, line_ok, lines_ok, bound_by}
use Rattle.rpy_words.proofs.Tests.{and_left, and_right}
use Rattle.first_lower.proofs.Printing.{IsWord}

abbrev pub apply : BinOp → ℤ → ℤ → ℤ
apply Add a b = wrap (a +ℤ b)
apply Sub a b = wrap (a -ℤ b)
apply Mul a b = wrap (a *ℤ b)
apply op a b = pos 0

abbrev pub eval : List ℤ → Expr → ℤ
eval env (Int z) = z
eval env (Local i) = get_or env (i - 1) (pos 0)
eval env (Binary f a b) = apply f (eval env a) (eval env b)

-- the words after local i is bound, which may be the next one
abbrev pub bind_at : ℕ → ℤ → List ℤ → List ℤ
bind_at i z env = cond (i == length env) (env ++ z ∷ []) (set env i z)

abbrev pub after_line : List ℤ → Line → List ℤ
after_line env (Assign i s) = bind_at i (eval env (expr_of s)) env
after_line env (Print s) = env

abbrev pub line_out : List ℤ → Line → List ℕ
line_out env (Assign i s) = []
line_out env (Print s) = signed_decimal (eval env (expr_of s)) ++ 10 ∷ []

abbrev pub lines_out : List ℤ → List Line → List ℕ
lines_out env [] = []
lines_out env (l ∷ ls) = line_out env l ++ lines_out (after_line env l) ls

abbrev pub lines_result : List ℤ → List Line → Sum → ℤ
lines_result env [] result = eval env (expr_of result)
lines_result env (l ∷ ls) result = lines_result (after_line env l) ls result

-- ---- tests that hold

pub lt_of : (m n : ℕ) → nat_lt m n ≡ true → m < n
lt_of m n h = grind (arith, nat_tests)

pub le_of : (m n : ℕ) → nat_le m n ≡ true → m ≤ n
le_of m n h = grind (arith, nat_tests)

pub eq_of : (m n : ℕ) → (m == n) ≡ true → m ≡ n
eq_of m n h = grind (arith, nat_tests)

bool_cases : (b : Bool) → (b ≡ true) ⊎ (b ≡ false)
bool_cases true = inl refl
bool_cases false = inr refl

pub eq_cases : (m n : ℕ) → ((m == n) ≡ true) ⊎ ((m == n) ≡ false)
eq_cases m n = bool_cases (m == n)

-- ---- what is computed is a word

word_of_fits : (z : ℤ) → Fits z → IsWord z
word_of_fits (pos n) f = f.sfits
word_of_fits (negsuc n) f = f.sfits

wrap_is_word : (z : ℤ) → IsWord (wrap z)
wrap_is_word z = word_of_fits (wrap z) (SFits-int_wrap w64 z)

apply_is_word : (f : BinOp) (a b : ℤ) → is_arithmetic f ≡ true → IsWord (apply f a b)
apply_is_word Add a b h = wrap_is_word (a +ℤ b)
apply_is_word Sub a b h = wrap_is_word (a -ℤ b)
apply_is_word Mul a b h = wrap_is_word (a *ℤ b)
apply_is_word f a b h = absurd cc

literal_is_word : (z : ℤ) → is_literal z ≡ true → IsWord z
literal_is_word (pos n) h = lt_of n (2 ^ 63) h
literal_is_word (negsuc n) h = absurd cc

-- all of these are words
abbrev pub AreWords : List ℤ → Type 0
AreWords env = (i : ℕ) → i < length env → IsWord (get_or env i (pos 0))

local_is_word : (env : List ℤ) (i : ℕ) → AreWords env → is_bound_local (length env) i ≡ true → IsWord (get_or env (i - 1) (pos 0))
local_is_word env zero words h = absurd cc
local_is_word env (suc i) words h =
    let e : i ≡ suc i - 1 = omega arith in
    let P : ℕ → Type 0 = λ n. IsWord (get_or env n (pos 0)) in
    subst P e (words i (lt_of i (length env) h))

pub eval_is_word : (e : Expr) (env : List ℤ) → AreWords env → reads_bound (length env) e ≡ true → IsWord (eval env e)
eval_is_word (Int z) env words h = literal_is_word z h
eval_is_word (Local i) env words h = local_is_word env i words h
eval_is_word (Binary f a b) env words h = apply_is_word f (eval env a) (eval env b) (and_left _ _ h)

-- ---- lists that show the words

-- each of the words, seen by f, stands in the list at its place
abbrev pub Shows : {A : Type 0} → (ℤ → A) → A → List ℤ → List A → Type 0
Shows f d env xs = (i : ℕ) → i < length env → get_or xs i d ≡ f (get_or env i (pos 0))

bind_next : (i : ℕ) (z : ℤ) (env : List ℤ) → (i == length env) ≡ true → bind_at i z env ≡ env ++ z ∷ []
bind_next i z env e = ap (λ b. cond b (env ++ z ∷ []) (set env i z)) e

bind_again : (i : ℕ) (z : ℤ) (env : List ℤ) → (i == length env) ≡ false → bind_at i z env ≡ set env i z
bind_again i z env e = ap (λ b. cond b (env ++ z ∷ []) (set env i z)) e

pub length_bind : (i : ℕ) (z : ℤ) (env : List ℤ) → length (bind_at i z env) ≡ cond (i == length env) (length env + 1) (length env)
length_bind i z env = elim (eq_cases i (length env)) [
  | inl e ↦ ap length (bind_next i z env e) ∙ length-append env (z ∷ []) ∙ sym (ap (λ b. cond b (length env + 1) (length env)) e)
  | inr e ↦ ap length (bind_again i z env e) ∙ length-set env i z ∙ sym (ap (λ b. cond b (length env + 1) (length env)) e)
]

-- the word that was bound, and the others
bound_here : (i : ℕ) (z : ℤ) (env : List ℤ) → i ≤ length env → get_or (bind_at i z env) i (pos 0) ≡ z
bound_here i z env h = elim (eq_cases i (length env)) [
  | inl e ↦ ap (λ l. get_or l i (pos 0)) (bind_next i z env e) ∙ ap (λ n. get_or (env ++ z ∷ []) n (pos 0)) (eq_of i (length env) e) ∙ get_or-append_seam env z [] (pos 0)
  | inr e ↦ ap (λ l. get_or l i (pos 0)) (bind_again i z env e) ∙ get_or-set_at env i i z (pos 0) refl (grind (arith, nat_tests))
]

bound_other : (i j : ℕ) (z : ℤ) (env : List ℤ) → j ≢ i → j < length env → get_or (bind_at i z env) j (pos 0) ≡ get_or env j (pos 0)
bound_other i j z env other h = elim (eq_cases i (length env)) [
  | inl e ↦ ap (λ l. get_or l j (pos 0)) (bind_next i z env e) ∙ get_or_append_left env (z ∷ []) (pos 0) j h
  | inr e ↦ ap (λ l. get_or l j (pos 0)) (bind_again i z env e) ∙ get_or-set_other env i j z (pos 0) other
]

within : (i j : ℕ) (z : ℤ) (env : List ℤ) → i ≤ length env → j ≢ i → j < length (bind_at i z env) → j < length env
within i j z env h other lt = elim (eq_cases i (length env)) [
  | inl e ↦ omega (arith, ap length (bind_next i z env e), length-append env (z ∷ []), eq_of i (length env) e)
  | inr e ↦ omega (arith, ap length (bind_again i z env e), length-set env i z)
]

same_or_not : (j i : ℕ) → (j ≡ i) ⊎ (j ≢ i)
same_or_not j i = elim (eq_cases j i) [
  | inl e ↦ inl (eq_of j i e)
  | inr e ↦ inr (λ q. absurd (grind (arith, nat_tests)))
]

pub shows_bind : {A : Type 0} (f : ℤ → A) (d : A) (env : List ℤ) (xs : List A) (i : ℕ) (z : ℤ)
    → Shows f d env xs → i ≤ length env → i < length xs → Shows f d (bind_at i z env) (set xs i (f z))
shows_bind f d env xs i z shows h room j lt = elim (same_or_not j i) [
  | inl e ↦ get_or-set_at xs i j (f z) d e room ∙ ap f (sym (ap (λ n. get_or (bind_at i z env) n (pos 0)) e ∙ bound_here i z env h))
  | inr other ↦ get_or-set_other xs i j (f z) d other ∙ shows j (within i j z env h other lt) ∙ ap f (sym (bound_other i j z env other (within i j z env h other lt)))
]

pub words_bind : (env : List ℤ) (i : ℕ) (z : ℤ) → AreWords env → IsWord z → i ≤ length env → AreWords (bind_at i z env)
words_bind env i z words word h j lt = elim (same_or_not j i) [
  | inl e ↦ (let P : ℤ → Type 0 = IsWord in subst P (sym (ap (λ n. get_or (bind_at i z env) n (pos 0)) e ∙ bound_here i z env h)) word)
  | inr other ↦ (let P : ℤ → Type 0 = IsWord in subst P (sym (bound_other i j z env other (within i j z env h other lt))) (words j (within i j z env h other lt)))
]

-- ---- lines

-- the locals of a body are at least those bound so far
pub at_most : (ls : List Line) (result : Sum) (k locals : ℕ) → lines_ok k ls result locals ≡ true → k ≤ locals
at_most [] result k locals h = omega (arith, eq_of k locals (and_left _ _ h))
at_most (Assign i s ∷ ls) result k locals h = elim (eq_cases i k) [
  | inl e ↦ omega (arith, at_most ls result (cond (i == k) (k + 1) k) locals (and_right _ _ h), ap (λ b. cond b (k + 1) k) e)
  | inr e ↦ omega (arith, at_most ls result (cond (i == k) (k + 1) k) locals (and_right _ _ h), ap (λ b. cond b (k + 1) k) e)
]
at_most (Print s ∷ ls) result k locals h = at_most ls result k locals (and_right _ _ h)

pub first_ok : (l : Line) (ls : List Line) (result : Sum) (k locals : ℕ) → lines_ok k (l ∷ ls) result locals ≡ true → line_ok k l ≡ true
first_ok l ls result k locals h = and_left (line_ok k l) (lines_ok (bound_by k l) ls result locals) h

pub rest_ok : (l : Line) (ls : List Line) (result : Sum) (k locals : ℕ) → lines_ok k (l ∷ ls) result locals ≡ true → lines_ok (bound_by k l) ls result locals ≡ true
rest_ok l ls result k locals h = and_right (line_ok k l) (lines_ok (bound_by k l) ls result locals) h
