-- Tables of sites stay tables when classes become one.
use Rattle.std.proofs.Common.{◌≡◌, ◌<◌, ℕ, Bool, true, false, List, [], ◌∷◌, length, set, sym, ap, ◌∙◌, subst, ◌⊎◌, ⊎_elim}
use Rattle.std.specs.Prelude.{nat_lt, if◌then◌else◌}
use Rattle.std.proofs.lemmas.List.{length-map}
use Rattle.rpy_tree.specs.declared.program.ClassInfo.{ClassInfo}
use Rattle.ann_element.specs.Sites.{leader, least, collapse, unite}
use Rattle.ann_lattice.specs.Shape.{Shape}
use Rattle.ann_lattice.specs.Join.{unites, tied}
use Rattle.ann_lattice.specs.Assign.{Assignment, at, Need, Up, Set, raised, raise, meet, IsTable}
use Rattle.ann_lattice.proofs.Sites.{low_is, Kept, Moved, view, moved_p, moved_q, unite_lead}

module _ (n : ℕ) (t : List ℕ) (h : IsTable n t) (a b : ℕ) where
  abbrev p : ℕ
  p = leader t a

  abbrev q : ℕ
  q = leader t b

  -- of the least of both leaders holds what holds of each
  least_has : (P : ℕ → Type 0) → P p → P q → P (least p q)
  least_has P i j = ⊎_elim (λ (e : least p q ≡ p). subst P (sym e) i) (λ (e : least p q ≡ q). subst P (sym e) j) (low_is p q).one

  -- and of what a site comes to
  comes : (P : ℕ → Type 0) → P p → P q → (u : ℕ) → P u → P (collapse p q u)
  comes P i j u l = ⊎_elim (λ (k : Kept p q u). subst P (sym k.is) l) (λ (m : Moved p q u). subst P (sym m.is) (least_has P i j)) (view p q u)

  leads_on : (u : ℕ) → leader t u ≡ u → leader t (collapse p q u) ≡ collapse p q u
  leads_on u e = comes (λ v. leader t v ≡ v) (h.leads a) (h.leads b) u e

  least_again : collapse p q (least p q) ≡ least p q
  least_again = ⊎_elim
      (λ (e : least p q ≡ p). moved_p p q (least p q) e)
      (λ (e : least p q ≡ q). moved_q p q (least p q) e)
      (low_is p q).one

  twice : (u : ℕ) → collapse p q (collapse p q u) ≡ collapse p q u
  twice u = ⊎_elim
      (λ (k : Kept p q u). ap (collapse p q) k.is)
      (λ (m : Moved p q u). ap (collapse p q) m.is ∙ (least_again ∙ sym m.is))
      (view p q u)

  unite_table : IsTable n (unite t a b)
  unite_table = record {
    count = length-map t (collapse p q) ∙ h.count;
    leads = λ s.
        let now = unite_lead t a b s in
        unite_lead t a b (leader (unite t a b) s)
        ∙ ap (λ v. collapse p q (leader t v)) now
        ∙ ap (collapse p q) (leads_on (leader t s) (h.leads s))
        ∙ twice (leader t s) ∙ sym now;
    sites = λ s. subst (λ v. v < n) (sym (unite_lead t a b s)) (comes (λ v. v < n) (h.sites a) (h.sites b) (leader t s) (h.sites s));
  }

unites_table : (n : ℕ) (ps : List (ℕ × ℕ)) (t : List ℕ) → IsTable n t → IsTable n (unites t ps)
unites_table n [] t h = h
unites_table n (p ∷ ps) t h = unites_table n ps (unite t p.0 p.1) (unite_table n t h p.0 p.1)

raise_table : (n : ℕ) (k : List ClassInfo) (es : List Shape) (c : ℕ) (a : Assignment) → IsTable n a.same → IsTable n (raise k c es a).same
raise_table n k [] c a h = h
raise_table n k (e ∷ es) c a h = raise_table n k es c (raised k c e a) (unites_table n (tied k (at a c) e) a.same h)

up_table : (b : Bool) (n : ℕ) (k : List ClassInfo) (es : List Shape) (c : ℕ) (a : Assignment) → IsTable n a.same → IsTable n (if b then raise k c es a else a).same
up_table true n k es c a h = raise_table n k es c a h
up_table false n k es c a h = h

set_table : (b : Bool) (n m : ℕ) (a : Assignment) → IsTable n a.same
    → IsTable n (if b then record { cells = a.cells; marks = set a.marks m true; same = a.same } else a).same
set_table true n m a h = h
set_table false n m a h = h

pub meet_table : (n : ℕ) (k : List ClassInfo) (q : Need) (a : Assignment) → IsTable n a.same → IsTable n (meet k q a).same
meet_table n k (Up c es) a h = up_table (nat_lt c (length a.cells)) n k es c a h
meet_table n k (Set m) a h = set_table (nat_lt m (length a.marks)) n m a h
