-- Where attributes stand among those of their class.
use Rattle.std.proofs.Common.{◌≡◌, ◌<◌, ◌≤◌, ℕ, ◌+◌, Bool, true, false, List, [], ◌∷◌, length, Option, Some, refl, sym, ap, ◌∙◌, arith, length-append}
use Rattle.std.specs.Prelude.{◌*◌, ◌==◌, if◌then◌else◌}
use Rattle.std.specs.Str.{bytes_eq}
use Rattle.std.proofs.lemmas.Slice.Eq.{bytes_eq-Decides}
use Rattle.ann_element.specs.declared.element.Element.{Element}
use Rattle.class_desc.proofs.Sums.{when}
use Rattle.ll_code.specs.declared.program.LlType.{LlType}
use Rattle.ll_code.specs.declared.program.LlType.TheVariants as type
use Rattle.rtyper_layout.specs.declared.layout.Layout.{Layout}
use Rattle.rtyper_layout.specs.Types.{field_type, type_of}
use Rattle.rtyper_layout.specs.Families.{place_from, attribute_fields, own_fields}
use Rattle.layout_laws.proofs.Places.{same_some, no_some}

abbrev Attributes : Type 0
Attributes = List (ℕ × List ℕ × Element)

-- how many attributes a class declares
abbrev pub declared : ℕ → List (ℕ × List ℕ × Element) → ℕ
declared home [] = 0
declared home (a ∷ more) = when (a.0 == home) 1 + declared home more

few_when : (b : Bool) → when b 1 ≤ 1
few_when true = omega arith
few_when false = omega arith

pub few_declared : (home : ℕ) (attributes : List (ℕ × List ℕ × Element)) → declared home attributes ≤ length attributes
few_declared home [] = omega arith
few_declared home (a ∷ more) = omega (arith, few_when (a.0 == home), few_declared home more)

pub length_fields : (layout : Layout) (home : ℕ) (attributes : List (ℕ × List ℕ × Element)) → length (own_fields layout home attributes) ≡ 2 * declared home attributes
length_fields layout home [] = omega arith
length_fields layout home (a ∷ more) =
    let both : length (own_fields layout home (a ∷ more)) ≡ length (attribute_fields layout home a) + length (own_fields layout home more) = length-append (attribute_fields layout home a) (own_fields layout home more) in
    let one : length (attribute_fields layout home a) ≡ 2 * when (a.0 == home) 1 = by (field_type (type_of layout a.2)) (a.0 == home) in
    omega (arith, both, one, length_fields layout home more)
  where
    by : (t : LlType) (b : Bool) → length (if b then t ∷ type.Bool ∷ [] else []) ≡ 2 * when b 1
    by t true = omega arith
    by t false = omega arith

-- ---- the place of an attribute

-- what the first of a list gives
abbrev pub stepped : Bool → Bool → ℕ → Element → Option (ℕ × Element) → Option (ℕ × Element) → Option (ℕ × Element)
stepped ours named n e further beside = if ours then if named then Some (n, e) else further else beside

pub place_within : (attributes : List (ℕ × List ℕ × Element)) (n home : ℕ) (name : List ℕ) (at : ℕ × Element) → place_from n attributes home name ≡ Some at → (n ≤ at.0) × (at.0 < n + declared home attributes)
place_within [] n home name at h = absurd (no_some h)
place_within (a ∷ more) n home name at h = by (λ m e. place_within more m home name at e) (a.0 == home) (bytes_eq a.1 name) h
  where
    by : ((m : ℕ) → place_from m more home name ≡ Some at → (m ≤ at.0) × (at.0 < m + declared home more)) → (b c : Bool) → stepped b c n a.2 (place_from (n + 1) more home name) (place_from n more home name) ≡ Some at → (n ≤ at.0) × (at.0 < n + (when b 1 + declared home more))
    by go true true e = (let same : n ≡ at.0 = ap (λ (p : ℕ × Element). p.0) (same_some e) in (omega (arith, same), omega (arith, same)))
    by go true false e = (let z = go (n + 1) e in (omega (arith, z.0), omega (arith, z.1)))
    by go false c e = (let z = go n e in (omega (arith, z.0), omega (arith, z.1)))

-- two names have two places
pub places_apart : (attributes : List (ℕ × List ℕ × Element)) (n home : ℕ) (a b : List ℕ) (at to : ℕ × Element) → (a ≡ b → ⊥) → place_from n attributes home a ≡ Some at → place_from n attributes home b ≡ Some to → at.0 ≡ to.0 → ⊥
places_apart [] n home a b at to differ h k same = no_some h
places_apart (x ∷ more) n home a b at to differ h k same = by (λ m p q. places_apart more m home a b at to differ p q same) (x.0 == home) (bytes_eq x.1 a) (bytes_eq x.1 b) refl refl h k
  where
    by : ((m : ℕ) → place_from m more home a ≡ Some at → place_from m more home b ≡ Some to → ⊥) → (o c d : Bool) → bytes_eq x.1 a ≡ c → bytes_eq x.1 b ≡ d
        → stepped o c n x.2 (place_from (n + 1) more home a) (place_from n more home a) ≡ Some at → stepped o d n x.2 (place_from (n + 1) more home b) (place_from n more home b) ≡ Some to → ⊥
    by go true true true e f p q = differ (sym ((bytes_eq-Decides x.1 a).0 e) ∙ (bytes_eq-Decides x.1 b).0 f)
    by go true true false e f p q = (let here : n ≡ at.0 = ap (λ (p : ℕ × Element). p.0) (same_some p) in let z = place_within more (n + 1) home b to q in omega (arith, here, z.0, same))
    by go true false true e f p q = (let here : n ≡ to.0 = ap (λ (p : ℕ × Element). p.0) (same_some q) in let z = place_within more (n + 1) home a at p in omega (arith, here, z.0, same))
    by go true false false e f p q = go (n + 1) p q
    by go false c d e f p q = go n p q
