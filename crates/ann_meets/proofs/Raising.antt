-- A need is met piece by piece, and needs one after the other.
use Rattle.std.proofs.Common.{◌≡◌, ◌<◌, ℕ, zero, suc, Bool, true, false, List, [], ◌∷◌, length, map, set, get_or, slice_get, slice_set, Option, Some, None, refl, sym, ap, ◌∙◌, subst, arith}
use Rattle.std.specs.Prelude.{nat_lt, if◌then◌else◌, option_map}
use Rattle.std.proofs.lemmas.List.{length-set, length-map}
use Rattle.std.proofs.lemmas.Bool.{lt-ltb}
use Rattle.ann_element.specs.declared.element.Element.{Element}
use Rattle.ann_needs.specs.declared.plan.Callee.{Callee}
use Rattle.ann_needs.specs.View.{callee_of}
use Rattle.ann_needs.proofs.Read.{cell_some}
use Rattle.rpy_tree.specs.declared.program.ClassInfo.{ClassInfo}
use Rattle.ann_lattice.specs.Shape.{Shape, Nothing, shape}
use Rattle.ann_lattice.specs.Join.{join, classes_after}
use Rattle.ann_lattice.specs.Assign.{Assignment, at, Up, raised, raise, meet}

module _ (k : List ClassInfo) (c : ℕ) where
  split_by : (b : Bool) (e : Shape) (es : List Shape) (a : Assignment) → nat_lt c (length a.cells) ≡ b
      → meet k (Up c (e ∷ es)) a ≡ meet k (Up c es) (meet k (Up c (e ∷ [])) a)
  split_by true e es a h =
      ap (λ b. if b then raise k c (e ∷ es) a else a) h
      ∙ (sym (ap (λ n. if nat_lt c n then raise k c es (raised k c e a) else raised k c e a) (length-set a.cells c (join k (at a c) e))
      ∙ ap (λ b. if b then raise k c es (raised k c e a) else raised k c e a) h)
      ∙ sym (ap (λ b. meet k (Up c es) (if b then raised k c e a else a)) h))
  split_by false e es a h =
      ap (λ b. if b then raise k c (e ∷ es) a else a) h
      ∙ (sym (ap (λ b. if b then raise k c es a else a) h) ∙ sym (ap (λ b. meet k (Up c es) (if b then raised k c e a else a)) h))

  pub split : (e : Shape) (es : List Shape) (a : Assignment) → meet k (Up c (e ∷ es)) a ≡ meet k (Up c es) (meet k (Up c (e ∷ [])) a)
  split e es a = split_by (nat_lt c (length a.cells)) e es a refl

  nothing_by : (b : Bool) (a : Assignment) → (if b then a else a) ≡ a
  nothing_by true a = refl
  nothing_by false a = refl

  pub nothing : (a : Assignment) → meet k (Up c []) a ≡ a
  nothing a = nothing_by (nat_lt c (length a.cells)) a

set_shape : (es : List Element) (c : ℕ) (x : Element) → map shape (slice_set es c x) ≡ set (map shape es) c (shape x)
set_shape [] c x = refl
set_shape (e ∷ es) zero x = refl
set_shape (e ∷ es) (suc c) x = ap (λ l. shape e ∷ l) (set_shape es c x)

-- a cell that is there
pub raised_is : (k : List ClassInfo) (es : List Element) (marks : List Bool) (same after : List ℕ) (c : ℕ) (old joined : Element) (x : Shape) → c < length es → Some old ≡ slice_get es c
    → shape joined ≡ join k (shape old) x → after ≡ classes_after k same (shape old) x
    → record { cells = map shape (slice_set es c joined); marks = marks; same = after } ≡ meet k (Up c (x ∷ [])) (record { cells = map shape es; marks = marks; same = same })
raised_is k es marks same after c old joined x lt e j f =
    let n : length (map shape es) ≡ length es = length-map es shape in
    let is : shape old ≡ get_or (map shape es) c Nothing = cell_some es c old e in
    let there : nat_lt c (length (map shape es)) ≡ true = lt-ltb c (length (map shape es)) (omega (arith, lt, n)) in
    ap (λ l. record { cells = l; marks = marks; same = after }) (set_shape es c joined ∙ ap (set (map shape es) c) (j ∙ ap (λ y. join k y x) is))
    ∙ ap (λ t. record { cells = set (map shape es) c (join k (get_or (map shape es) c Nothing) x); marks = marks; same = t }) (f ∙ ap (λ y. classes_after k same y x) is)
    ∙ sym (ap (λ b. if b then raised k c x (record { cells = map shape es; marks = marks; same = same }) else (record { cells = map shape es; marks = marks; same = same })) there)

abbrev is_none_type : {A : Type 0} → Option A → Type 0
is_none_type None = Unit {0}
is_none_type (Some x) = ⊥

pub callee_there : (cs : List Callee) (f : ℕ) (c : Callee) → slice_get cs f ≡ Some c → slice_get (map callee_of cs) f ≡ Some (callee_of c)
callee_there [] f c e = absurd (subst is_none_type e tt)
callee_there (d ∷ cs) zero c e = ap (λ o. option_map callee_of o) e
callee_there (d ∷ cs) (suc f) c e = callee_there cs f c e
