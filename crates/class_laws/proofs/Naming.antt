-- Attributes by name, where one is another.
use Rattle.std.proofs.Common.{◌≡◌, Bool, true, false, ℕ, List, [], ◌∷◌, Some, None, refl, sym, ap, ◌∙◌}
use Rattle.std.specs.Prelude.{if◌then◌else◌}
use Rattle.std.specs.Str.{bytes_eq}
use Rattle.std.proofs.lemmas.Slice.Eq.{bytes_eq-Decides}
use Rattle.rpy_tree.specs.Value.{Value as Meant}
use Rattle.rpy_meaning.specs.Classes.{named, with_name}

pub same_name : (name : List ℕ) → bytes_eq name name ≡ true
same_name name = (bytes_eq-Decides name name).1 refl

pub named_same : (name : List ℕ) (v : Meant) (attributes : List (List ℕ × Meant)) → named name (with_name name v attributes) ≡ Some v
named_same name v [] = ap (λ c. if c then Some v else None) (same_name name)
named_same name v (entry ∷ entries) = by (bytes_eq entry.0 name) refl (named_same name v entries)
  where
    by : (b : Bool) → bytes_eq entry.0 name ≡ b → named name (with_name name v entries) ≡ Some v → named name (if b then (name, v) ∷ entries else entry ∷ with_name name v entries) ≡ Some v
    by true e more = ap (λ c. if c then Some v else named name entries) (same_name name)
    by false e more = ap (λ c. if c then Some entry.1 else named name (with_name name v entries)) e ∙ more

pub named_other : (name other : List ℕ) (v : Meant) (attributes : List (List ℕ × Meant)) → bytes_eq name other ≡ false → named other (with_name name v attributes) ≡ named other attributes
named_other name other v [] h = ap (λ c. if c then Some v else None) h
named_other name other v (entry ∷ entries) h = by (bytes_eq entry.0 name) refl (named_other name other v entries h)
  where
    by : (b : Bool) → bytes_eq entry.0 name ≡ b → named other (with_name name v entries) ≡ named other entries → named other (if b then (name, v) ∷ entries else entry ∷ with_name name v entries) ≡ named other (entry ∷ entries)
    by true e more = ap (λ c. if c then Some v else named other entries) h ∙ sym (ap (λ c. if c then Some entry.1 else named other entries) (ap (λ n. bytes_eq n other) ((bytes_eq-Decides entry.0 name).0 e) ∙ h))
    by false e more = ap (λ o. if bytes_eq entry.0 other then Some entry.1 else o) more
