-- Where there are no more operands for the inputs of a block.
use Rattle.std.proofs.Common.{◌≡◌, ℕ, zero, suc, ◌+◌, ◌<◌, ◌≤◌, Bool, true, false, ◌&&◌, ◌||◌, List, [], ◌∷◌, ◌++◌, length, drop, get_or, drop-cons, add-one, refl, sym, ap, ◌∙◌, arith}
use Rattle.std.specs.Prelude.{cond}
use Rattle.csub_tree.specs.declared.tree.COperand.TheVariants.{Var}
use Rattle.csub_tree.specs.declared.tree.CStmt.TheVariants as stmt
use Rattle.std.proofs.lemmas.List.{append-nil}
use Rattle.csub_tree.specs.declared.tree.COperand.{COperand}
use Rattle.csub_tree.specs.declared.tree.CStmt.{CStmt}
use Rattle.genc_lower.specs.declared.order.Order.{Order}
use Rattle.genc_lower.specs.Lower.{operand, changes, is_new, reads_changed, crosses_in, assigns, takes}

none_left : {A : Type 0} (xs : List A) (i : ℕ) → length xs ≤ i → drop i xs ≡ []
none_left [] zero le = refl
none_left [] (suc i) le = refl
none_left (x ∷ xs) zero le = absurd (omega (arith, le))
none_left (x ∷ xs) (suc i) le = none_left xs i (omega (arith, le))

no_change : (w : ℕ) (vs : List ℕ) → changes w vs [] ≡ false
no_change w [] = refl
no_change w (v ∷ vs) = refl

no_cross : (us : List ℕ) (ys : List COperand) (vs : List ℕ) → crosses_in us ys vs [] ≡ false
no_cross us ys [] = refl
no_cross us ys (v ∷ vs) = refl

no_assign : (order : Order) (above : ℕ) (us : List ℕ) (ys : List COperand) (vs : List ℕ) → assigns order above us ys vs [] ≡ []
no_assign order above us ys [] = refl
no_assign order above us ys (v ∷ vs) = refl

no_take : (above : ℕ) (us : List ℕ) (ys : List COperand) (vs : List ℕ) → takes above us ys vs [] ≡ []
no_take above us ys [] = refl
no_take above us ys (v ∷ vs) = refl

pub changes_short : (w : ℕ) (vs : List ℕ) (xs : List COperand) (i : ℕ) → length xs ≤ i → changes w (drop i vs) (drop i xs) ≡ false
changes_short w vs xs i le = ap (changes w (drop i vs)) (none_left xs i le) ∙ no_change w (drop i vs)

pub crosses_short : (us : List ℕ) (ys : List COperand) (vs : List ℕ) (xs : List COperand) (i : ℕ) → length xs ≤ i → crosses_in us ys (drop i vs) (drop i xs) ≡ false
crosses_short us ys vs xs i le = ap (crosses_in us ys (drop i vs)) (none_left xs i le) ∙ no_cross us ys (drop i vs)

pub assigns_short : (order : Order) (above : ℕ) (us : List ℕ) (ys : List COperand) (vs : List ℕ) (xs : List COperand) (i : ℕ) (into : List CStmt) → length xs ≤ i
    → into ++ assigns order above us ys (drop i vs) (drop i xs) ≡ into
assigns_short order above us ys vs xs i into le =
    ap (λ cs. into ++ cs) (ap (assigns order above us ys (drop i vs)) (none_left xs i le) ∙ no_assign order above us ys (drop i vs)) ∙ append-nil into

pub takes_short : (above : ℕ) (us : List ℕ) (ys : List COperand) (vs : List ℕ) (xs : List COperand) (i : ℕ) (into : List CStmt) → length xs ≤ i → into ++ takes above us ys (drop i vs) (drop i xs) ≡ into
takes_short above us ys vs xs i into le = ap (λ cs. into ++ cs) (ap (takes above us ys (drop i vs)) (none_left xs i le) ∙ no_take above us ys (drop i vs)) ∙ append-nil into

-- ---- one more input

from_place : {A : Type 0} (xs : List A) (i : ℕ) (d : A) → i < length xs → drop i xs ≡ get_or xs i d ∷ drop (i + 1) xs
from_place xs i d lt = drop-cons xs i d lt ∙ ap (λ j. get_or xs i d ∷ drop j xs) (sym (add-one i))

snoc_append : {A : Type 0} (into : List A) (x : A) (more : List A) → (into ++ x ∷ []) ++ more ≡ into ++ x ∷ more
snoc_append [] x more = refl
snoc_append (y ∷ into) x more = ap (λ l. y ∷ l) (snoc_append into x more)

pub no_new : (a b : Bool) → a ≡ false → (a && b) ≡ false
no_new false b e = refl
no_new true b e = absurd (cc)

pub no_read : (a b : Bool) → b ≡ false → (a && b) ≡ false
no_read false b e = refl
no_read true b e = e

pub crosses_over : (us : List ℕ) (ys : List COperand) (vs : List ℕ) (xs : List COperand) (i d : ℕ) (e : COperand) → i < length vs → i < length xs
    → (is_new us ys (get_or vs i d) && reads_changed us ys (get_or xs i e)) ≡ false → crosses_in us ys (drop (i + 1) vs) (drop (i + 1) xs) ≡ crosses_in us ys (drop i vs) (drop i xs)
crosses_over us ys vs xs i d e lt within is =
    sym (ap (λ vs. crosses_in us ys vs (drop i xs)) (from_place vs i d lt) ∙ ap (λ xs. crosses_in us ys (get_or vs i d ∷ drop (i + 1) vs) xs) (from_place xs i e within)
    ∙ ap (λ b. b || crosses_in us ys (drop (i + 1) vs) (drop (i + 1) xs)) is)

module _ (order : Order) (above : ℕ) (us : List ℕ) (ys : List COperand) (vs : List ℕ) (xs : List COperand) (i d : ℕ) (e : COperand) (into : List CStmt) (lt : i < length vs) (within : i < length xs) where
  assigns_first : assigns order above us ys (drop i vs) (drop i xs) ≡ assigns order above us ys (get_or vs i d ∷ drop (i + 1) vs) (get_or xs i e ∷ drop (i + 1) xs)
  assigns_first = ap (λ vs. assigns order above us ys vs (drop i xs)) (from_place vs i d lt) ∙ ap (λ xs. assigns order above us ys (get_or vs i d ∷ drop (i + 1) vs) xs) (from_place xs i e within)

  assigns_choice : (b : Bool) → is_new us ys (get_or vs i d) ≡ b → assigns order above us ys (drop i vs) (drop i xs)
      ≡ cond b (stmt.Set (above + get_or vs i d) (operand order (get_or xs i e)) ∷ assigns order above us ys (drop (i + 1) vs) (drop (i + 1) xs)) (assigns order above us ys (drop (i + 1) vs) (drop (i + 1) xs))
  assigns_choice b is = assigns_first ∙ ap (λ b. cond b (stmt.Set (above + get_or vs i d) (operand order (get_or xs i e)) ∷ assigns order above us ys (drop (i + 1) vs) (drop (i + 1) xs)) (assigns order above us ys (drop (i + 1) vs) (drop (i + 1) xs))) is

  pub assigns_on : is_new us ys (get_or vs i d) ≡ true
      → (into ++ stmt.Set (above + get_or vs i d) (operand order (get_or xs i e)) ∷ []) ++ assigns order above us ys (drop (i + 1) vs) (drop (i + 1) xs) ≡ into ++ assigns order above us ys (drop i vs) (drop i xs)
  assigns_on is = snoc_append into (stmt.Set (above + get_or vs i d) (operand order (get_or xs i e))) (assigns order above us ys (drop (i + 1) vs) (drop (i + 1) xs)) ∙ ap (λ l. into ++ l) (sym (assigns_choice true is))

  pub assigns_over : is_new us ys (get_or vs i d) ≡ false → into ++ assigns order above us ys (drop (i + 1) vs) (drop (i + 1) xs) ≡ into ++ assigns order above us ys (drop i vs) (drop i xs)
  assigns_over is = ap (λ l. into ++ l) (sym (assigns_choice false is))

module _ (above : ℕ) (us : List ℕ) (ys : List COperand) (vs : List ℕ) (xs : List COperand) (i d : ℕ) (e : COperand) (into : List CStmt) (lt : i < length vs) (within : i < length xs) where
  takes_first : takes above us ys (drop i vs) (drop i xs) ≡ takes above us ys (get_or vs i d ∷ drop (i + 1) vs) (get_or xs i e ∷ drop (i + 1) xs)
  takes_first = ap (λ vs. takes above us ys vs (drop i xs)) (from_place vs i d lt) ∙ ap (λ xs. takes above us ys (get_or vs i d ∷ drop (i + 1) vs) xs) (from_place xs i e within)

  takes_choice : (b : Bool) → is_new us ys (get_or vs i d) ≡ b → takes above us ys (drop i vs) (drop i xs)
      ≡ cond b (stmt.Set (get_or vs i d) (Var (above + get_or vs i d)) ∷ takes above us ys (drop (i + 1) vs) (drop (i + 1) xs)) (takes above us ys (drop (i + 1) vs) (drop (i + 1) xs))
  takes_choice b is = takes_first ∙ ap (λ b. cond b (stmt.Set (get_or vs i d) (Var (above + get_or vs i d)) ∷ takes above us ys (drop (i + 1) vs) (drop (i + 1) xs)) (takes above us ys (drop (i + 1) vs) (drop (i + 1) xs))) is

  pub takes_on : is_new us ys (get_or vs i d) ≡ true
      → (into ++ stmt.Set (get_or vs i d) (Var (above + get_or vs i d)) ∷ []) ++ takes above us ys (drop (i + 1) vs) (drop (i + 1) xs) ≡ into ++ takes above us ys (drop i vs) (drop i xs)
  takes_on is = snoc_append into (stmt.Set (get_or vs i d) (Var (above + get_or vs i d))) (takes above us ys (drop (i + 1) vs) (drop (i + 1) xs)) ∙ ap (λ l. into ++ l) (sym (takes_choice true is))

  pub takes_over : is_new us ys (get_or vs i d) ≡ false → into ++ takes above us ys (drop (i + 1) vs) (drop (i + 1) xs) ≡ into ++ takes above us ys (drop i vs) (drop i xs)
  takes_over is = ap (λ l. into ++ l) (sym (takes_choice false is))
