-- A cell of the state is a cell of its assignment.
use Rattle.std.proofs.Common.{◌≡◌, ℕ, zero, suc, List, [], ◌∷◌, map, get_or, slice_get, Option, Some, None, Bool, true, false, refl, sym, ap, subst}
use Rattle.ann_element.specs.declared.element.Element.{Element}
use Rattle.rpy_tree.specs.declared.program.Const.{Const}
use Rattle.ann_lattice.specs.Shape.{Shape, Nothing, shape}
use Rattle.ann_rules.specs.Program.{Whole}
use Rattle.ann_rules.specs.Asks.{defaults_of}
use Rattle.ann_needs.specs.declared.plan.Callee.{Callee}
use Rattle.ann_needs.specs.View.{callee_of}

abbrev is_some : {A : Type 0} → Option A → Type 0
is_some None = ⊥
is_some (Some x) = Unit {0}

some_is_not_none : {A : Type 0} (x : A) → Some x ≡ None → ⊥
some_is_not_none x h = subst is_some h tt

abbrev some_or : {A : Type 0} → A → Option A → A
some_or d None = d
some_or d (Some x) = x

some_same : {A : Type 0} (x y : A) → Some x ≡ Some y → x ≡ y
some_same x y h = ap (some_or x) h

abbrev pub defaults_in : Option Callee → List (Option Const)
defaults_in None = []
defaults_in (Some c) = c.defaults

pub cell_none : (es : List Element) (c : ℕ) → None ≡ slice_get es c → Nothing ≡ get_or (map shape es) c Nothing
cell_none [] c h = refl
cell_none (e ∷ es) zero h = absurd (some_is_not_none e (sym h))
cell_none (e ∷ es) (suc c) h = cell_none es c h

pub cell_some : (es : List Element) (c : ℕ) (e : Element) → Some e ≡ slice_get es c → shape e ≡ get_or (map shape es) c Nothing
cell_some [] c e h = absurd (some_is_not_none e h)
cell_some (x ∷ es) zero e h = ap shape (some_same e x h)
cell_some (x ∷ es) (suc c) e h = cell_some es c e h

pub mark_none : (bs : List Bool) (m : ℕ) → None ≡ slice_get bs m → false ≡ get_or bs m false
mark_none [] m h = refl
mark_none (b ∷ bs) zero h = absurd (some_is_not_none b (sym h))
mark_none (b ∷ bs) (suc m) h = mark_none bs m h

pub mark_some : (bs : List Bool) (m : ℕ) (b : Bool) → Some b ≡ slice_get bs m → b ≡ get_or bs m false
mark_some [] m b h = absurd (some_is_not_none b h)
mark_some (x ∷ bs) zero b h = some_same b x h
mark_some (x ∷ bs) (suc m) b h = mark_some bs m b h

-- a function of the plan is a function of its program
pub get_callee : (p : Whole) (cs : List Callee) (f : ℕ) → defaults_of p (slice_get (map callee_of cs) f) ≡ defaults_in (slice_get cs f)
get_callee p [] f = refl
get_callee p (c ∷ cs) zero = refl
get_callee p (c ∷ cs) (suc f) = get_callee p cs f
