-- Where the objects of sites stand among the first objects.
use Rattle.std.proofs.Common.{◌≡◌, ℕ, zero, suc, ◌+◌, List, ◌∷◌, length, take, slice_get, Option, Some, None, refl, ap, ◌∙◌, arith, []}
use Rattle.std.specs.Prelude.{count_by, filter_map, is_some, if◌then◌else◌}
use Rattle.std.proofs.lemmas.List.Sums.{sum_by-cons}
use Rattle.rpy_tree.specs.Value.{Object}
use Rattle.object_laws.specs.Ghost.{Home}
use Rattle.layout_laws.proofs.Places.{same_some, no_some}

abbrev pub there : List (Option Object) → List Object
there sites = filter_map (λ object. object) sites

abbrev pub before : List (Option Object) → ℕ → ℕ
before sites s = count_by is_some (take s sites)

before_none : (sites : List (Option Object)) (s : ℕ) → before (None ∷ sites) (suc s) ≡ before sites s
before_none sites s = sum_by-cons (λ (x : Option Object). if is_some x then 1 else 0) None (take s sites) ∙ (let z : 0 + before sites s ≡ before sites s = omega arith in z)

before_some : (sites : List (Option Object)) (o : Object) (s : ℕ) → before (Some o ∷ sites) (suc s) ≡ suc (before sites s)
before_some sites o s = sum_by-cons (λ (x : Option Object). if is_some x then 1 else 0) (Some o) (take s sites) ∙ (let z : 1 + before sites s ≡ suc (before sites s) = omega arith in z)

-- the homes of sites that have an object, from a site on
abbrev pub homes_from : (ℕ → Home) → ℕ → List (Option Object) → List Home
homes_from home site [] = []
homes_from home site (None ∷ sites) = homes_from home (suc site) sites
homes_from home site (Some o ∷ sites) = home site ∷ homes_from home (suc site) sites

pub homes_long : (home : ℕ → Home) (site : ℕ) (sites : List (Option Object)) → length (homes_from home site sites) ≡ length (there sites)
homes_long home site [] = refl
homes_long home site (None ∷ sites) = homes_long home (suc site) sites
homes_long home site (Some o ∷ sites) = ap suc (homes_long home (suc site) sites)

pub at_home : (home : ℕ → Home) (site s : ℕ) (sites : List (Option Object)) (o : Object) → slice_get sites s ≡ Some (Some o) → slice_get (homes_from home site sites) (before sites s) ≡ Some (home (site + s))
at_home home site s [] o h = absurd (no_some h)
at_home home site zero (None ∷ sites) o h = absurd (let z : None ≡ Some o = same_some h in no_some z)
at_home home site zero (Some x ∷ sites) o h = ap (λ k. Some (home k)) (let z : site ≡ site + 0 = omega arith in z)
at_home home site (suc s) (None ∷ sites) o h = ap (slice_get (homes_from home site (None ∷ sites))) (before_none sites s) ∙ at_home home (suc site) s sites o h ∙ ap (λ k. Some (home k)) (let z : suc site + s ≡ site + suc s = omega arith in z)
at_home home site (suc s) (Some x ∷ sites) o h = ap (slice_get (homes_from home site (Some x ∷ sites))) (before_some sites x s) ∙ at_home home (suc site) s sites o h ∙ ap (λ k. Some (home k)) (let z : suc site + s ≡ site + suc s = omega arith in z)

-- each home is that of one site, whose object stands there
pub record HomeOf (home : ℕ → Home) (site : ℕ) (sites : List (Option Object)) (j : ℕ) (h : Home) : Type 0 where
  pub s : ℕ
  pub object : Object
  pub is : slice_get sites s ≡ Some (Some object)
  pub place : before sites s ≡ j
  pub home_is : home (site + s) ≡ h
  pub object_is : slice_get (there sites) j ≡ Some object

pub of_home : (home : ℕ → Home) (site : ℕ) (sites : List (Option Object)) (j : ℕ) (h : Home) → slice_get (homes_from home site sites) j ≡ Some h → HomeOf home site sites j h
of_home home site [] j h e = absurd (no_some e)
of_home home site (None ∷ sites) j h e =
    let r = of_home home (suc site) sites j h e in
    record { s = suc r.s; object = r.object; is = r.is; place = before_none sites r.s ∙ r.place; home_is = ap home (let z : site + suc r.s ≡ suc site + r.s = omega arith in z) ∙ r.home_is; object_is = r.object_is }
of_home home site (Some o ∷ sites) zero h e = record { s = 0; object = o; is = refl; place = refl; home_is = ap home (let z : site + 0 ≡ site = omega arith in z) ∙ same_some e; object_is = refl }
of_home home site (Some o ∷ sites) (suc j) h e =
    let r = of_home home (suc site) sites j h e in
    record { s = suc r.s; object = r.object; is = r.is; place = before_some sites o r.s ∙ ap suc r.place; home_is = ap home (let z : site + suc r.s ≡ suc site + r.s = omega arith in z) ∙ r.home_is; object_is = r.object_is }
