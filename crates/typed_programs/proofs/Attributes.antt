-- What an annotation has of an attribute stands in its cell.
use Rattle.std.proofs.Common.{◌≡◌, ◌<◌, ℕ, zero, suc, ◌+◌, ◌==◌, Bool, true, false, List, [], ◌∷◌, ◌++◌, Option, Some, None, refl, sym, ap, ◌∙◌, subst, arith}
use Rattle.std.proofs.lemmas.Bool.Decides.{nat_tests}
use Rattle.std.specs.Prelude.{if◌then◌else◌}
use Rattle.std.specs.Str.{bytes_eq}
use Rattle.ann_element.specs.declared.element.Element.{Element}
use Rattle.ann_needs.specs.View.{attribute_in, named}
use Rattle.ann_needs.specs.declared.state.State.{State}
use Rattle.ann_settled.specs.Read as read
use Rattle.class_desc.specs.Tables.{Tables, home}
use Rattle.sound_rows.proofs.Attributes.{same_name as same_bytes}
use Rattle.rtyper_layout.specs.Families.{place_from}
use Rattle.typed_programs.proofs.Cells.{no_some, same_some}

module _ (s : State) (t : Tables) (h : ℕ) (name : List ℕ) where
  abbrev Found : Option (ℕ × Element) → Type 0
  Found o = (n : ℕ) (e : Element) → o ≡ Some (n, e) → ⊥

  -- what stands at another class is passed over
  skips : (c : ℕ) → (c ≡ h → ⊥) → (n : ℕ) (entries : List (List ℕ × ℕ)) (more : List (ℕ × List ℕ × Element)) → place_from n (read.attributes_of s t c entries ++ more) h name ≡ place_from n more h name
  skips c other n [] more = refl
  skips c other n (entry ∷ entries) more = by (read.at_home c (home t c entry.0)) ∙ skips c other n entries more
    where
      apart : (c == h) ≡ false
      apart = grind (arith, nat_tests, other)

      by : (b : Bool) → place_from n (((if b then (c, entry.0, read.cell s entry.1) ∷ [] else []) ++ read.attributes_of s t c entries) ++ more) h name ≡ place_from n (read.attributes_of s t c entries ++ more) h name
      by true = ap (λ b. if b then if bytes_eq entry.0 name then Some (n, read.cell s entry.1) else place_from (n + 1) (read.attributes_of s t c entries ++ more) h name else place_from n (read.attributes_of s t c entries ++ more) h name) apart
      by false = refl

  behind : (c n : ℕ) → h < c → (rows : List (List (List ℕ × ℕ))) → place_from n (read.attributes s t c rows) h name ≡ None
  behind c n late [] = refl
  behind c n late (row ∷ rows) = skips c (λ q. absurd (omega (arith, late, q))) n row (read.attributes s t (suc c) rows) ∙ behind (suc c) n (omega (arith, late)) rows

  -- at its home it stands in the cell of the first entry of this name
  own : (n : ℕ) (entries : List (List ℕ × ℕ)) (more : List (ℕ × List ℕ × Element)) (k : ℕ) (e : Element) → ((m : ℕ) → place_from m more h name ≡ None) → place_from n (read.attributes_of s t h entries ++ more) h name ≡ Some (k, e)
      → (read.at_home h (home t h name) ≡ true) × (e ≡ read.cell s (named name entries))
  own n [] more k e none is = absurd (no_some (sym (none n) ∙ is))
  own n (entry ∷ entries) more k e none is = by (λ m r. own m entries more k e none r) (bytes_eq entry.0 name) refl (read.at_home h (home t h entry.0)) refl is
    where
      here : (h == h) ≡ true
      here = grind (arith, nat_tests)

      by : ((m : ℕ) → place_from m (read.attributes_of s t h entries ++ more) h name ≡ Some (k, e) → (read.at_home h (home t h name) ≡ true) × (e ≡ read.cell s (named name entries)))
          → (c : Bool) → bytes_eq entry.0 name ≡ c → (b : Bool) → read.at_home h (home t h entry.0) ≡ b → place_from n (((if b then (h, entry.0, read.cell s entry.1) ∷ [] else []) ++ read.attributes_of s t h entries) ++ more) h name ≡ Some (k, e)
          → (read.at_home h (home t h name) ≡ true) × (e ≡ read.cell s (if bytes_eq entry.0 name then entry.1 else named name entries))
      by go true p true q r = (
        ap (λ m. read.at_home h (home t h m)) (sym (same_bytes entry.0 name p)) ∙ q,
        (let z : Some (n, read.cell s entry.1) ≡ Some (k, e) = sym (ap (λ b. if b then if bytes_eq entry.0 name then Some (n, read.cell s entry.1) else place_from (n + 1) (read.attributes_of s t h entries ++ more) h name else place_from n (read.attributes_of s t h entries ++ more) h name) here
            ∙ ap (λ b. if b then Some (n, read.cell s entry.1) else place_from (n + 1) (read.attributes_of s t h entries ++ more) h name) p) ∙ r in sym (ap (λ (y : ℕ × Element). y.1) (same_some z))) ∙ ap (λ b. read.cell s (if b then entry.1 else named name entries)) (sym p),
      )
      by go true p false q r =
          let it = go n r in
          let bad : false ≡ true = sym q ∙ ap (λ m. read.at_home h (home t h m)) (same_bytes entry.0 name p) ∙ it.0 in
          absurd (cc)
      by go false p true q r =
          let z = sym (ap (λ b. if b then if bytes_eq entry.0 name then Some (n, read.cell s entry.1) else place_from (n + 1) (read.attributes_of s t h entries ++ more) h name else place_from n (read.attributes_of s t h entries ++ more) h name) here
          ∙ ap (λ b. if b then Some (n, read.cell s entry.1) else place_from (n + 1) (read.attributes_of s t h entries ++ more) h name) p) ∙ r in
          let it = go (n + 1) z in
          (it.0, it.1 ∙ ap (λ b. read.cell s (if b then entry.1 else named name entries)) (sym p))
      by go false p false q r = let it = go n r in (it.0, it.1 ∙ ap (λ b. read.cell s (if b then entry.1 else named name entries)) (sym p))

  -- of rows from the c-th class on, which is not behind its home
  found : (c n : ℕ) (rows : List (List (List ℕ × ℕ))) (j k : ℕ) (e : Element) → c + j ≡ h → place_from n (read.attributes s t c rows) h name ≡ Some (k, e) → e ≡ read.cell s (attribute_in rows j name)
  found c n [] j k e at is = absurd (no_some is)
  found c n (row ∷ rows) zero k e at is =
      let same : c ≡ h = omega (arith, at) in
      (own n row (read.attributes s t (suc c) rows) k e (λ m. behind (suc c) m (omega (arith, at)) rows) (subst (λ (d : ℕ). place_from n (read.attributes_of s t d row ++ read.attributes s t (suc c) rows) h name ≡ Some (k, e)) same is)).1
  found c n (row ∷ rows) (suc j) k e at is =
      found (suc c) n rows j k e (omega (arith, at)) (sym (skips c (λ q. absurd (omega (arith, at, q))) n row (read.attributes s t (suc c) rows)) ∙ is)

  pub attribute_found : (rows : List (List (List ℕ × ℕ))) (k : ℕ) (e : Element) → place_from 0 (read.attributes s t 0 rows) h name ≡ Some (k, e) → e ≡ read.cell s (attribute_in rows h name)
  attribute_found rows k e is = found 0 0 rows h k e (omega arith) is
