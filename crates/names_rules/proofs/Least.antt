-- The least of several faults.
use Rattle.std.proofs.Common.{◌≡◌, ◌≤◌, ℕ, List, [], ◌∷◌, ◌++◌, Bool, true, false, Option, Some, None, sym, ap, ◌∙◌, refl, arith, cond, subst}
use Rattle.std.specs.Prelude.{nat_eq, nat_lt, nat_le, ◌&&◌, ◌||◌}
use Rattle.std.specs.List.{AllByRecursion}
use Rattle.std.proofs.lemmas.Grind.{common_steps}
use Rattle.names_bound.specs.Fault.{number, comes_first, lesser, fault_if}
use Rattle.names_bound.specs.declared.fault.Fault.{Fault}
use Rattle.names_bound.specs.declared.fault.FaultKind.{FaultKind}
use Rattle.names_bound.specs.declared.fault.FaultKind.TheVariants.{Unknown, Twice, BadBase, BadConstant, NoModule}
use Rattle.names_rules.specs.Least.{Precedes, IsTold, least, faults_if}

abbrev first : ℕ → ℕ → ℕ → ℕ → Bool
first a m b n = nat_lt a b || (nat_eq a b && nat_le m n)

node_yes : (a m b n : ℕ) → first a m b n ≡ true → a ≤ b
node_yes a m b n h = grind (arith, common_steps)

number_yes : (a m b n : ℕ) → first a m b n ≡ true → a ≡ b → m ≤ n
number_yes a m b n h e = grind (arith, common_steps)

node_no : (a m b n : ℕ) → first a m b n ≡ false → b ≤ a
node_no a m b n h = grind (arith, common_steps)

number_no : (a m b n : ℕ) → first a m b n ≡ false → b ≡ a → n ≤ m
number_no a m b n h e = grind (arith, common_steps)

trans_yes : (a m b n c o : ℕ) → first a m b n ≡ true → first b n c o ≡ true → first a m c o ≡ true
trans_yes a m b n c o h k = grind (arith, common_steps)

trans_no : (a m b n c o : ℕ) → first a m b n ≡ false → first b n c o ≡ false → first a m c o ≡ false
trans_no a m b n c o h k = grind (arith, common_steps)

yes : (f g : Fault) → comes_first f g ≡ true → Precedes f g
yes f g h = (node_yes f.node (number f.kind) g.node (number g.kind) h, number_yes f.node (number f.kind) g.node (number g.kind) h)

no : (f g : Fault) → comes_first f g ≡ false → Precedes g f
no f g h = (node_no f.node (number f.kind) g.node (number g.kind) h, number_no f.node (number f.kind) g.node (number g.kind) h)

same_number : (a b c : ℕ) → a ≤ b → b ≤ c → a ≡ c → (a ≡ b) × (b ≡ c)
same_number a b c h k e = (omega arith, omega arith)

both : (l m n : ℕ) → l ≤ m → m ≤ n → l ≤ n
both l m n h k = omega arith

further : (f g h : Fault) → Precedes f g → Precedes g h → Precedes f h
further f g h p q = (
  both f.node g.node h.node p.0 q.0,
  λ e. both (number f.kind) (number g.kind) (number h.kind) (p.1 (same_number f.node g.node h.node p.0 q.0 e).0) (q.1 (same_number f.node g.node h.node p.0 q.0 e).1),
)

itself : (n : ℕ) → n ≤ n
itself n = omega arith

same : (f : Fault) → Precedes f f
same f = (itself f.node, λ e. itself (number f.kind))

all_further : (f g : Fault) (fs : List Fault) → Precedes f g → AllByRecursion (Precedes g) fs → AllByRecursion (Precedes f) fs
all_further f g [] h all = tt
all_further f g (x ∷ fs) h all = (further f g x h all.0, all_further f g fs h all.1)

told_by : (b : Bool) (f g : Fault) (fs : List Fault) → comes_first f g ≡ b → IsTold fs (Some g) → IsTold (f ∷ fs) (cond b (Some f) (Some g))
told_by true f g fs h t = (([], fs, refl), (same f, all_further f g fs (yes f g h) t.1))
told_by false f g fs h ((before, rest, e), all) = ((f ∷ before, rest, ap (λ gs. f ∷ gs) e), (no f g h, all))

told_one : (f : Fault) (fs : List Fault) (o : Option Fault) → IsTold fs o → IsTold (f ∷ fs) (lesser (Some f) o)
told_one f fs None t = (([], fs, refl), (same f, subst (λ gs. AllByRecursion (Precedes f) gs) (sym t) tt))
told_one f fs (Some g) t = told_by (comes_first f g) f g fs refl t

pub least_is_told : (fs : List Fault) → IsTold fs (least fs)
least_is_told [] = refl
least_is_told (f ∷ fs) = told_one f fs (least fs) (least_is_told fs)

-- ---- one fault is told

same_kind : (k l : FaultKind) → number k ≡ number l → k ≡ l
same_kind Unknown Unknown e = refl
same_kind Unknown Twice e = absurd (omega arith)
same_kind Unknown BadBase e = absurd (omega arith)
same_kind Unknown BadConstant e = absurd (omega arith)
same_kind Unknown NoModule e = absurd (omega arith)
same_kind Twice Unknown e = absurd (omega arith)
same_kind Twice Twice e = refl
same_kind Twice BadBase e = absurd (omega arith)
same_kind Twice BadConstant e = absurd (omega arith)
same_kind Twice NoModule e = absurd (omega arith)
same_kind BadBase Unknown e = absurd (omega arith)
same_kind BadBase Twice e = absurd (omega arith)
same_kind BadBase BadBase e = refl
same_kind BadBase BadConstant e = absurd (omega arith)
same_kind BadBase NoModule e = absurd (omega arith)
same_kind BadConstant Unknown e = absurd (omega arith)
same_kind BadConstant Twice e = absurd (omega arith)
same_kind BadConstant BadBase e = absurd (omega arith)
same_kind BadConstant BadConstant e = refl
same_kind BadConstant NoModule e = absurd (omega arith)
same_kind NoModule Unknown e = absurd (omega arith)
same_kind NoModule Twice e = absurd (omega arith)
same_kind NoModule BadBase e = absurd (omega arith)
same_kind NoModule BadConstant e = absurd (omega arith)
same_kind NoModule NoModule e = refl

equal : (a b : ℕ) → a ≤ b → b ≤ a → a ≡ b
equal a b h k = omega arith

one_fault : (f g : Fault) → Precedes f g → Precedes g f → f ≡ g
one_fault f g h k =
    let n : f.node ≡ g.node = equal f.node g.node h.0 k.0 in
    let s : f.kind ≡ g.kind = same_kind f.kind g.kind (equal (number f.kind) (number g.kind) (h.1 n) (k.1 (sym n))) in
    λ j. record { node = n j; kind = s j }

of_all : (P : Fault → Type 0) (before rest : List Fault) (f : Fault) → AllByRecursion P (before ++ f ∷ rest) → P f
of_all P [] rest f all = all.0
of_all P (x ∷ before) rest f all = of_all P before rest f all.1

no_end : (before rest : List Fault) (f : Fault) {R : Type 0} → before ++ f ∷ rest ≡ [] → R
no_end [] rest f e = absurd cc
no_end (x ∷ before) rest f e = absurd cc

-- what is told is the least
pub told_is_least : (fs : List Fault) (o p : Option Fault) → IsTold fs o → IsTold fs p → o ≡ p
told_is_least fs None None t u = refl
told_is_least fs None (Some g) t ((before, rest, e), all) = no_end before rest g (sym e ∙ t)
told_is_least fs (Some f) None ((before, rest, e), all) u = no_end before rest f (sym e ∙ u)
told_is_least fs (Some f) (Some g) ((before, rest, e), all) ((ahead, behind, d), every) = ap Some (one_fault f g
    (of_all (Precedes f) ahead behind g (subst (λ gs. AllByRecursion (Precedes f) gs) d all))
    (of_all (Precedes g) before rest f (subst (λ gs. AllByRecursion (Precedes g) gs) e every)))

-- ---- lists of faults beside one another

assoc_by : (f g h : Fault) (b c : Bool) → comes_first f g ≡ b → comes_first g h ≡ c → lesser (cond b (Some f) (Some g)) (Some h) ≡ lesser (Some f) (cond c (Some g) (Some h))
assoc_by f g h true true p q = ap (λ b. cond b (Some f) (Some h)) (trans_yes f.node (number f.kind) g.node (number g.kind) h.node (number h.kind) p q) ∙ sym (ap (λ b. cond b (Some f) (Some g)) p)
assoc_by f g h true false p q = refl
assoc_by f g h false true p q = ap (λ b. cond b (Some g) (Some h)) q ∙ sym (ap (λ b. cond b (Some f) (Some g)) p)
assoc_by f g h false false p q = ap (λ b. cond b (Some g) (Some h)) q ∙ sym (ap (λ b. cond b (Some f) (Some h)) (trans_no f.node (number f.kind) g.node (number g.kind) h.node (number h.kind) p q))

lesser_none : (o : Option Fault) → lesser o None ≡ o
lesser_none None = refl
lesser_none (Some f) = refl

pub lesser_assoc : (o p q : Option Fault) → lesser (lesser o p) q ≡ lesser o (lesser p q)
lesser_assoc None p q = refl
lesser_assoc (Some f) None q = refl
lesser_assoc (Some f) (Some g) None = lesser_none (cond (comes_first f g) (Some f) (Some g))
lesser_assoc (Some f) (Some g) (Some h) = assoc_by f g h (comes_first f g) (comes_first g h) refl refl

pub least_both : (fs gs : List Fault) → least (fs ++ gs) ≡ lesser (least fs) (least gs)
least_both [] gs = refl
least_both (f ∷ fs) gs = ap (lesser (Some f)) (least_both fs gs) ∙ sym (lesser_assoc (Some f) (least fs) (least gs))

pub least_if : (b : Bool) (node : ℕ) (kind : FaultKind) → fault_if b node kind ≡ least (faults_if b node kind)
least_if true node kind = refl
least_if false node kind = refl

-- faults that are added to those so far, and more after them
pub lesser_more : (o p : Option Fault) (fs gs : List Fault) → p ≡ lesser o (least fs) → lesser p (least gs) ≡ lesser o (least (fs ++ gs))
lesser_more o p fs gs e = ap (λ x. lesser x (least gs)) e ∙ lesser_assoc o (least fs) (least gs) ∙ ap (lesser o) (sym (least_both fs gs))

pub lesser_nothing : (o : Option Fault) → o ≡ lesser o (least [])
lesser_nothing o = sym (lesser_none o)
