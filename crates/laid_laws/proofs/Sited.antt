-- Each site in an element of an annotation is among the sites of its layout.
use Rattle.std.proofs.Common.{◌≡◌, ℕ, zero, suc, ◌+◌, ◌==◌, Bool, true, false, List, [], ◌∷◌, ◌++◌, Option, Some, None, refl, sym, ap, ◌∙◌, subst, arith}
use Rattle.std.proofs.lemmas.Bool.Decides.{nat_tests}
use Rattle.std.specs.Prelude.{slice_get, is_some, if◌then◌else◌}
use Rattle.ann_element.specs.declared.annotation.Annotation.{Annotation}
use Rattle.ann_element.specs.declared.element.Element.{Element}
use Rattle.rtyper_layout.specs.Sites.{sites_of, with_site, with_sites, sites_in, sites_in_rows, sites_in_attributes, all_sites}
use Rattle.rtyper_layout.specs.Types.{site_from}
use Rattle.layout_laws.proofs.Places.{same_some, no_some}
use Rattle.laid_laws.specs.Laid.{InRow, StandsIn, Param, Result, Variable, Attribute, Item, Key}

-- the site has a place
abbrev pub Has : List ℕ → ℕ → Type 0
Has sites x = (k : ℕ) × (site_from 0 sites x ≡ Some k)

found_more : (n : ℕ) (xs ys : List ℕ) (x k : ℕ) → site_from n xs x ≡ Some k → site_from n (xs ++ ys) x ≡ Some k
found_more n [] ys x k h = absurd (no_some h)
found_more n (s ∷ xs) ys x k h = by (λ e. found_more (n + 1) xs ys x k e) (s == x) h
  where
    by : (site_from (n + 1) xs x ≡ Some k → site_from (n + 1) (xs ++ ys) x ≡ Some k) → (b : Bool) → (if b then Some n else site_from (n + 1) xs x) ≡ Some k → (if b then Some n else site_from (n + 1) (xs ++ ys) x) ≡ Some k
    by go true e = e
    by go false e = go e

found_last : (n : ℕ) (xs : List ℕ) (x : ℕ) → (k : ℕ) × (site_from n (xs ++ x ∷ []) x ≡ Some k)
found_last n [] x = (n, ap (λ b. if b then Some n else None) (let same : (x == x) ≡ true = grind (arith, nat_tests) in same))
found_last n (s ∷ xs) x = by (found_last (n + 1) xs x) (s == x)
  where
    by : ((k : ℕ) × (site_from (n + 1) (xs ++ x ∷ []) x ≡ Some k)) → (b : Bool) → (k : ℕ) × ((if b then Some n else site_from (n + 1) (xs ++ x ∷ []) x) ≡ Some k)
    by it true = (n, refl)
    by it false = it

one_keeps : (sites : List ℕ) (s x : ℕ) → Has sites x → Has (with_site sites s) x
one_keeps sites s x it = by (is_some (site_from 0 sites s))
  where
    by : (b : Bool) → Has (if b then sites else sites ++ s ∷ []) x
    by true = it
    by false = (it.0, found_more 0 sites (s ∷ []) x it.0 it.1)

one_has : (sites : List ℕ) (x : ℕ) → Has (with_site sites x) x
one_has sites x = by (site_from 0 sites x) refl
  where
    by : (o : Option ℕ) → site_from 0 sites x ≡ o → Has (if is_some o then sites else sites ++ x ∷ []) x
    by None e = found_last 0 sites x
    by (Some k) e = (k, e)

all_keep : (sites ss : List ℕ) (x : ℕ) → Has sites x → Has (with_sites sites ss) x
all_keep sites [] x it = it
all_keep sites (s ∷ ss) x it = all_keep (with_site sites s) ss x (one_keeps sites s x it)

all_have : (sites ss : List ℕ) (i x : ℕ) → slice_get ss i ≡ Some x → Has (with_sites sites ss) x
all_have sites [] i x h = absurd (no_some h)
all_have sites (s ∷ ss) zero x h = all_keep (with_site sites s) ss x (subst (λ y. Has (with_site sites s) y) (same_some h) (one_has sites s))
all_have sites (s ∷ ss) (suc i) x h = all_have (with_site sites s) ss i x h

module _ (d : Bool) where
  row_keeps : (sites : List ℕ) (es : List Element) (x : ℕ) → Has sites x → Has (sites_in d sites es) x
  row_keeps sites [] x it = it
  row_keeps sites (e ∷ es) x it = row_keeps (with_sites sites (sites_of d e)) es x (all_keep sites (sites_of d e) x it)

  rows_keep : (sites : List ℕ) (rows : List (List Element)) (x : ℕ) → Has sites x → Has (sites_in_rows d sites rows) x
  rows_keep sites [] x it = it
  rows_keep sites (row ∷ rows) x it = rows_keep (sites_in d sites row) rows x (row_keeps sites row x it)

  attributes_keep : (sites : List ℕ) (attributes : List (ℕ × List ℕ × Element)) (x : ℕ) → Has sites x → Has (sites_in_attributes d sites attributes) x
  attributes_keep sites [] x it = it
  attributes_keep sites (a ∷ more) x it = attributes_keep (with_sites sites (sites_of d a.2)) more x (all_keep sites (sites_of d a.2) x it)

  module _ (e : Element) (j x : ℕ) (there : slice_get (sites_of d e) j ≡ Some x) where
    row_has : (sites : List ℕ) (es : List Element) (i : ℕ) → slice_get es i ≡ Some e → Has (sites_in d sites es) x
    row_has sites [] i h = absurd (no_some h)
    row_has sites (y ∷ es) zero h = row_keeps (with_sites sites (sites_of d y)) es x (subst (λ z. Has (with_sites sites (sites_of d z)) x) (sym (same_some h)) (all_have sites (sites_of d e) j x there))
    row_has sites (y ∷ es) (suc i) h = row_has (with_sites sites (sites_of d y)) es i h

    rows_have : (sites : List ℕ) (rows : List (List Element)) (i : ℕ) (row : List Element) → slice_get rows i ≡ Some row → InRow row e → Has (sites_in_rows d sites rows) x
    rows_have sites [] i row h it = absurd (no_some h)
    rows_have sites (y ∷ rows) zero row h it = rows_keep (sites_in d sites y) rows x (row_has sites y it.0 (ap (λ r. slice_get r it.0) (same_some h) ∙ it.1))
    rows_have sites (y ∷ rows) (suc i) row h it = rows_have (sites_in d sites y) rows i row h it

    attributes_have : (sites : List ℕ) (attributes : List (ℕ × List ℕ × Element)) (i home : ℕ) (name : List ℕ) → slice_get attributes i ≡ Some (home, name, e) → Has (sites_in_attributes d sites attributes) x
    attributes_have sites [] i home name h = absurd (no_some h)
    attributes_have sites (y ∷ more) zero home name h =
        attributes_keep (with_sites sites (sites_of d y.2)) more x (subst (λ (z : ℕ × List ℕ × Element). Has (with_sites sites (sites_of d z.2)) x) (sym (same_some h)) (all_have sites (sites_of d e) j x there))
    attributes_have sites (y ∷ more) (suc i) home name h = attributes_have (with_sites sites (sites_of d y.2)) more i home name h

  pub sites_stand : (a : Annotation) (start : List ℕ) (e : Element) (j x : ℕ) → slice_get (sites_of d e) j ≡ Some x → StandsIn a e → Has (all_sites d start a) x
  sites_stand a start e j x there it = by it
    where
      one : List ℕ
      one = sites_in_rows d start a.params

      two : List ℕ
      two = sites_in d one a.results

      three : List ℕ
      three = sites_in_rows d two a.vars

      four : List ℕ
      four = sites_in_attributes d three a.attributes

      five : List ℕ
      five = sites_in d four a.items

      from_five : Has five x → Has (all_sites d start a) x
      from_five h = row_keeps five a.keys x h

      from_four : Has four x → Has (all_sites d start a) x
      from_four h = from_five (row_keeps four a.items x h)

      from_three : Has three x → Has (all_sites d start a) x
      from_three h = from_four (attributes_keep three a.attributes x h)

      from_two : Has two x → Has (all_sites d start a) x
      from_two h = from_three (rows_keep two a.vars x h)

      from_one : Has one x → Has (all_sites d start a) x
      from_one h = from_two (row_keeps one a.results x h)

      by : StandsIn a e → Has (all_sites d start a) x
      by (Param p) = from_one (rows_have e j x there start a.params p.0 p.1.0 p.1.1.0 p.1.1.1)
      by (Result p) = from_two (row_has e j x there one a.results p.0 p.1)
      by (Variable p) = from_three (rows_have e j x there two a.vars p.0 p.1.0 p.1.1.0 p.1.1.1)
      by (Attribute p) = from_four (attributes_have e j x there three a.attributes p.0 p.1.0 p.1.1.0 p.1.1.1)
      by (Item p) = from_five (row_has e j x there four a.items p.0 p.1)
      by (Key p) = row_has e j x there five a.keys p.0 p.1
