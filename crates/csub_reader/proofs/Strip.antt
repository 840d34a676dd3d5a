-- Starts in two pieces, and starts that are longer than what is left.
use Rattle.std.proofs.Common.{◌≡◌, ℕ, suc, ◌<◌, ◌==◌, Bool, true, false, cond, List, [], ◌∷◌, ◌++◌, Some, None, refl, ap, ◌∙◌, arith, drop, get_or, length}
use Rattle.std.proofs.Math.Seq.{drop-cons}
use Rattle.csub_text.specs.Read.{stripped}

fail_at : (d : Bool) (a b i : List ℕ) → (stripped a i ≡ None → stripped (a ++ b) i ≡ None) → cond d (stripped a i) None ≡ None → cond d (stripped (a ++ b) i) None ≡ None
fail_at true a b i more e = more e
fail_at false a b i more e = refl

pub strips_fail : (a b i : List ℕ) → stripped a i ≡ None → stripped (a ++ b) i ≡ None
strips_fail [] b i e = cc
strips_fail (c ∷ a) b [] e = refl
strips_fail (c ∷ a) b (d ∷ i) e = fail_at (d == c) a b i (strips_fail a b i) e

on_at : (d : Bool) (a b i j : List ℕ) → (stripped a i ≡ Some j → stripped (a ++ b) i ≡ stripped b j) → cond d (stripped a i) None ≡ Some j → cond d (stripped (a ++ b) i) None ≡ stripped b j
on_at true a b i j more e = more e
on_at false a b i j more e = cc

pub strips_on : (a b i j : List ℕ) → stripped a i ≡ Some j → stripped (a ++ b) i ≡ stripped b j
strips_on [] b i j e = cc
strips_on (c ∷ a) b [] j e = cc
strips_on (c ∷ a) b (d ∷ i) j e = on_at (d == c) a b i j (strips_on a b i j) e

nothing : (rest : List ℕ) → length rest ≡ 0 → rest ≡ []
nothing [] none = refl
nothing (b ∷ bs) none = absurd (omega arith)

pub strips_short : (start : List ℕ) (k : ℕ) (rest : List ℕ) → k < length start → length rest ≡ 0 → stripped (drop k start) rest ≡ None
strips_short start k rest within none =
    let turn : drop k start ≡ get_or start k 0 ∷ drop (suc k) start = drop-cons start k 0 within in
    ap (λ s. stripped s rest) turn ∙ ap (stripped (get_or start k 0 ∷ drop (suc k) start)) (nothing rest none)
