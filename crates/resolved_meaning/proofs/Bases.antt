-- Lines of bases, a class at a time.
use Rattle.std.proofs.Common.{◌≡◌, ◌≢◌, ℕ, zero, suc, ◌-◌, Bool, true, false, List, [], ◌∷◌, ◌++◌, length, Option, Some, None, refl, ap, ◌∙◌, arith}
use Rattle.std.specs.Prelude.{slice_get, if◌then◌else◌}
use Rattle.std.specs.Str.{bytes_eq}
use Rattle.std.proofs.lemmas.List.{length-map, append-nil}
use Rattle.rpy_tree.specs.declared.program.Site.{Site}
use Rattle.rpy_resolved.specs.declared.tree.Class as code
use Rattle.rpy_tree.specs.Value.{Value}
use Rattle.rpy_meaning.specs.Tree.{Class}
use Rattle.rpy_meaning.specs.Classes.{line_of, base_of, constants_of, class_at, named}
use Rattle.resolved_meaning.specs.Programs.{class_of, classes_of}

pub class_there : (sites : List Site) (classes : List code.Class) (c : ℕ) (class : code.Class) → slice_get classes c ≡ Some class
    → class_at (classes_of sites classes) c ≡ Some (class_of sites class)
class_there sites [] c class h = cc
class_there sites (x ∷ xs) zero class h = cc
class_there sites (x ∷ xs) (suc c) class h = class_there sites xs c class h

pub class_missing : (sites : List Site) (classes : List code.Class) (c : ℕ) → slice_get classes c ≡ None → class_at (classes_of sites classes) c ≡ None
class_missing sites [] c h = refl
class_missing sites (x ∷ xs) zero h = cc
class_missing sites (x ∷ xs) (suc c) h = class_missing sites xs c h

pub no_constants : (sites : List Site) (classes : List code.Class) (c : ℕ) (entries : List (List ℕ × Value)) → slice_get classes c ≡ None
    → entries ++ constants_of (class_at (classes_of sites classes) c) ≡ entries
no_constants sites classes c entries h =
    ap (λ (o : Option Class). entries ++ constants_of o) (class_missing sites classes c h) ∙ append-nil entries

pub class_count : (sites : List Site) (classes : List code.Class) → length (classes_of sites classes) ≡ length classes
class_count sites classes = length-map classes (class_of sites)

pub line_step : (classes : List Class) (k c : ℕ) → k ≢ 0 → line_of classes k (Some c) ≡ c ∷ line_of classes (k - 1) (base_of (class_at classes c))
line_step classes zero c h = absurd (h refl)
line_step classes (suc k) c h =
    let e : k ≡ suc k - 1 = omega arith in ap (λ (n : ℕ). c ∷ line_of classes n (base_of (class_at classes c))) e

first_if : {A : Type 0} (x a : A) (o p : Option A) (b : Bool) → (o ≡ Some a → p ≡ Some a) → (if b then Some x else o) ≡ Some a → (if b then Some x else p) ≡ Some a
first_if x a o p true known h = h
first_if x a o p false known h = known h

pub named_first : {A : Type 0} (name : List ℕ) (xs ys : List (List ℕ × A)) (a : A) → named name xs ≡ Some a → named name (xs ++ ys) ≡ Some a
named_first name [] ys a h = cc
named_first name (x ∷ xs) ys a h = first_if x.1 a (named name xs) (named name (xs ++ ys)) (bytes_eq x.0 name) (named_first name xs ys a) h

later_if : {A : Type 0} (x : A) (o p q : Option A) (b : Bool) → (o ≡ None → p ≡ q) → (if b then Some x else o) ≡ None → (if b then Some x else p) ≡ q
later_if x o p q true known h = cc
later_if x o p q false known h = known h

pub named_later : {A : Type 0} (name : List ℕ) (xs ys : List (List ℕ × A)) → named name xs ≡ None → named name (xs ++ ys) ≡ named name ys
named_later name [] ys h = refl
named_later name (x ∷ xs) ys h = later_if x.1 (named name xs) (named name (xs ++ ys)) (named name ys) (bytes_eq x.0 name) (named_later name xs ys) h
