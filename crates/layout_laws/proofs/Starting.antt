-- What a class and its bases declare is known at its place.
use Rattle.std.proofs.Common.{◌≡◌, ◌<◌, inl, inr, ℕ, zero, suc, ◌+◌, Bool, true, false, List, [], ◌∷◌, ◌++◌, length, Some, refl, sym, ap, ◌∙◌, subst, arith, append_assoc, length-append}
use Rattle.std.specs.Prelude.{◌^◌, ◌==◌, slice_get, option_map}
use Rattle.std.specs.Str.{bytes_eq}
use Rattle.std.proofs.lemmas.Bool.Decides.{eqb_tells}
use Rattle.std.proofs.lemmas.Slice.Eq.{bytes_eq-Decides}
use Rattle.ann_element.specs.declared.element.Element.{Element}
use Rattle.class_desc.specs.Line.{base, is_below}
use Rattle.class_desc.specs.Tables.{home as home_of}
use Rattle.class_desc.proofs.Sums.{when, same_is}
use Rattle.rtyper_layout.specs.declared.classes.Laid.{Laid}
use Rattle.rtyper_layout.specs.Families.{place_from, attribute_place}
use Rattle.rtyper_class.specs.Attributes.{standing, standing_in, standing_at, place_in}
use Rattle.rtyper_class.specs.Seen.{World, laid}
use Rattle.object_laws.specs.Known.{Known}
use Rattle.class_laws.specs.Classes.{standing_of}
use Rattle.class_laws.specs.Starting.{AreKnown, next_place}
use Rattle.layout_laws.specs.Layouts.{IsNumbered, KnowsAttributes}
use Rattle.layout_laws.specs.Starting.{AreDeclared, BasesAreLaid, AttributesAreKnown}
use Rattle.layout_laws.proofs.Attributes.{declared, few_declared, stepped}
use Rattle.layout_laws.proofs.Classes.{of_world}
use Rattle.layout_laws.proofs.Facts.{Sort, OnTop, OnBase}
use Rattle.layout_laws.proofs.Lines.{is_under, home_below}
use Rattle.layout_laws.proofs.Places.{same_some, no_some, not_true, is_same, get_left, get_right, get_within}
use Rattle.layout_laws.proofs.Structs.{word_same}

bytes_same : (xs : List ℕ) → bytes_eq xs xs ≡ true
bytes_same xs = (bytes_eq-Decides xs xs).1 refl

-- an attribute that does not stand before has the place behind those of its class
place_at : (before : List (ℕ × List ℕ × Element)) (a : ℕ × List ℕ × Element) (more : List (ℕ × List ℕ × Element)) (n : ℕ)
    → ((i : ℕ) (e : Element) → slice_get before i ≡ Some (a.0, a.1, e) → ⊥) → place_from n (before ++ a ∷ more) a.0 a.1 ≡ Some (n + declared a.0 before, a.2)
place_at [] a more n new =
    ap (λ b. stepped b (bytes_eq a.1 a.1) n a.2 (place_from (n + 1) more a.0 a.1) (place_from n more a.0 a.1)) (same_is a.0 a.0 refl)
    ∙ ap (λ b. stepped true b n a.2 (place_from (n + 1) more a.0 a.1) (place_from n more a.0 a.1)) (bytes_same a.1)
    ∙ ap (λ k. Some (k, a.2)) (let z : n ≡ n + 0 = omega arith in z)
place_at (p ∷ before) a more n new = by (λ m. place_at before a more m (λ i e h. new (suc i) e h)) (p.0 == a.0) (bytes_eq p.1 a.1) refl refl
  where
    by : ((m : ℕ) → place_from m (before ++ a ∷ more) a.0 a.1 ≡ Some (m + declared a.0 before, a.2)) → (b c : Bool) → (p.0 == a.0) ≡ b → bytes_eq p.1 a.1 ≡ c
        → stepped b c n p.2 (place_from (n + 1) (before ++ a ∷ more) a.0 a.1) (place_from n (before ++ a ∷ more) a.0 a.1) ≡ Some (n + (when b 1 + declared a.0 before), a.2)
    by go true true e f = absurd (elim (eqb_tells p.0 a.0) [
      | inl t ↦ new zero p.2 (ap (λ (q : ℕ × List ℕ). Some (q.0, q.1, p.2)) (ap (λ k. (k, p.1)) t.1 ∙ ap (λ name. (a.0, name)) ((bytes_eq-Decides p.1 a.1).0 f)))
      | inr t ↦ not_true (sym t.0 ∙ e)
    ])
    by go true false e f = go (n + 1) ∙ ap (λ k. Some (k, a.2)) (let z : n + 1 + declared a.0 before ≡ n + (1 + declared a.0 before) = omega arith in z)
    by go false c e f = go n ∙ ap (λ k. Some (k, a.2)) (let z : n + declared a.0 before ≡ n + (0 + declared a.0 before) = omega arith in z)

declared_more : (class : ℕ) (before : List (ℕ × List ℕ × Element)) (a : ℕ × List ℕ × Element) → declared class (before ++ a ∷ []) ≡ declared class before + when (a.0 == class) 1
declared_more class [] a = omega arith
declared_more class (p ∷ before) a = omega (arith, declared_more class before a)

module _ (world : World) (known : Known) (counted : IsNumbered world) (knows : KnowsAttributes world known) (are : AreDeclared world) (class home : ℕ) (l : Laid) (below : is_below world.classes.classes class home ≡ true) (laid_as : laid world home ≡ Some l) where
  standing_is : (name : List ℕ) (at : ℕ × Element) → home_of world.classes class name ≡ Some home → attribute_place world.attributes home name ≡ Some at → known.attribute class name ≡ Some (record { own = l.own; place = at.0; element = at.1 })
  unfolding place_in
  standing_is name at found placed =
      knows class name ∙ ap (λ o. option_map standing_of (standing_at world name o)) found ∙ ap (λ o. option_map standing_of (standing_in world home name o)) laid_as ∙ ap (λ o. option_map standing_of (standing l.own o)) placed

  -- one of them
  stands_before : (before : List (ℕ × List ℕ × Element)) (a : ℕ × List ℕ × Element) (more : List (ℕ × List ℕ × Element)) → world.attributes ≡ before ++ a ∷ more → slice_get world.attributes (length before) ≡ Some (a.0, a.1, a.2)
  stands_before before a more is = ap (λ xs. slice_get xs (length before)) is ∙ get_right before (a ∷ more) (length before) 0 (omega arith)

  new_there : (before : List (ℕ × List ℕ × Element)) (a : ℕ × List ℕ × Element) (more : List (ℕ × List ℕ × Element)) → world.attributes ≡ before ++ a ∷ more → (i : ℕ) (x : Element) → slice_get before i ≡ Some (a.0, a.1, x) → ⊥
  new_there before a more is i x h =
      let same : i ≡ length before = are.once i (length before) a.0 a.1 x a.2 (ap (λ xs. slice_get xs i) is ∙ get_left before (a ∷ more) i (a.0, a.1, x) h) (stands_before before a more is) in
      omega (arith, same, get_within before i (a.0, a.1, x) h)

  placed_at : (before : List (ℕ × List ℕ × Element)) (a : ℕ × List ℕ × Element) (more : List (ℕ × List ℕ × Element)) → world.attributes ≡ before ++ a ∷ more → a.0 ≡ home → attribute_place world.attributes home a.1 ≡ Some (declared home before, a.2)
  placed_at before a more is e =
      ap (λ h. attribute_place world.attributes h a.1) (sym e) ∙ ap (λ xs. attribute_place xs a.0 a.1) is ∙ place_at before a more 0 (new_there before a more is)
      ∙ ap (λ k. Some (k, a.2)) (let z : 0 + declared a.0 before ≡ declared a.0 before = omega arith in z) ∙ ap (λ h. Some (declared h before, a.2)) e

  known_at : (before : List (ℕ × List ℕ × Element)) (a : ℕ × List ℕ × Element) (more : List (ℕ × List ℕ × Element)) → world.attributes ≡ before ++ a ∷ more → a.0 ≡ home → known.attribute class a.1 ≡ Some (record { own = l.own; place = declared home before; element = a.2 })
  known_at before a more is e =
      let at : home_of world.classes home a.1 ≡ Some home = subst (λ h. home_of world.classes h a.1 ≡ Some h) e (are.at_home (length before) a.0 a.1 a.2 (stands_before before a more is)) in
      standing_is a.1 (declared home before, a.2) (home_below world.classes counted.forest home class home a.1 (is_under world.classes.classes class home below) at) (placed_at before a more is e)

  place_next : (b : Bool) (n : ℕ) → n + 1 < 2 ^ 64 → next_place b n ≡ n + when b 1
  place_next true n lt = word_same (n + 1) lt
  place_next false n lt = omega arith

  all_known : (before more : List (ℕ × List ℕ × Element)) (n : ℕ) → world.attributes ≡ before ++ more → n ≡ declared home before → AreKnown known class home l.own n more
  all_known before [] n is count = tt
  all_known before (a ∷ more) n is count =
      let few = few_declared home before in
      let long : length world.attributes ≡ length before + length (a ∷ more) = ap length is ∙ length-append before (a ∷ more) in
      let next : next_place (a.0 == home) n ≡ n + when (a.0 == home) 1 = place_next (a.0 == home) n (omega (arith, count, few, long, counted.attributes)) in (
        λ same. subst (λ k. known.attribute class a.1 ≡ Some (record { own = l.own; place = k; element = a.2 })) (sym count) (known_at before a more is (is_same a.0 home same)),
        all_known (before ++ a ∷ []) more (next_place (a.0 == home) n) (is ∙ sym (append_assoc before (a ∷ []) more)) (omega (arith, next, count, declared_more home before a)),
      )

pub attributes_are_known : AttributesAreKnown
attributes_are_known world known counted knows are class home l below laid_as = all_known world known counted knows are class home l below laid_as [] world.attributes 0 refl refl

pub bases_are_laid : BasesAreLaid
bases_are_laid program annotation raises world is counted c b l h e = by ((of_world program annotation raises world is counted).sort c l h)
  where
    by : Sort world.classes.classes world.attributes world.around.layout c l → (m : Laid) × (laid world b ≡ Some m)
    by (OnTop none root shape) = absurd (no_some (sym none ∙ e))
    by (OnBase a m base at root vtable shape) = (m, ap (laid world) (same_some (sym e ∙ base)) ∙ at)
