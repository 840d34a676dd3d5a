-- Uniting classes of sites.
use Rattle.std.proofs.Common.{◌≡◌, ℕ, zero, suc, ◌<◌, ◌≤◌, ◌≢◌, Bool, true, false, List, [], ◌∷◌, ◌++◌, refl, sym, ap, ◌∙◌, arith, ◌⊎◌, ⊎_elim, inl, inr}
use Rattle.std.specs.Prelude.{map, nat_eq, nat_le}
use Rattle.std.proofs.lemmas.Bool.{eqb-true, eqb-false, leb-true, leb-false, eq-eqb}
use Rattle.ann_element.specs.Sites.{either, or, leader, Same, least, collapse, unite}
use Rattle.ann_lattice.specs.Join.{Within, AllSame, unites}

pub record Low (p q : ℕ) : Type 0 where
  pub one : (least p q ≡ p) ⊎ (least p q ≡ q)
  pub le_p : least p q ≤ p
  pub le_q : least p q ≤ q

low_of : (p q : ℕ) (b : Bool) → nat_le p q ≡ b → Low p q
low_of p q true e =
    let f : least p q ≡ p = ap (λ x. either x p q) e in
    let h : p ≤ q = leb-true p q e in
    record { one = inl f; le_p = omega (arith, f); le_q = omega (arith, f, h) }
low_of p q false e =
    let f : least p q ≡ q = ap (λ x. either x p q) e in
    let h : q < p = leb-false p q e in
    record { one = inr f; le_p = omega (arith, f, h); le_q = omega (arith, f) }

pub low_is : (p q : ℕ) → Low p q
low_is p q = low_of p q (nat_le p q) refl

-- another class, or one of the two
pub record Kept (p q u : ℕ) : Type 0 where
  pub is : collapse p q u ≡ u
  pub not_p : u ≢ p
  pub not_q : u ≢ q

pub record Moved (p q u : ℕ) : Type 0 where
  pub is : collapse p q u ≡ least p q
  pub was : (u ≡ p) ⊎ (u ≡ q)

view_of : (p q u : ℕ) (a b : Bool) → nat_eq u p ≡ a → nat_eq u q ≡ b → Kept p q u ⊎ Moved p q u
view_of p q u true b e f = inr (record { is = ap (λ x. either (or x (nat_eq u q)) (least p q) u) e; was = inl (eqb-true u p e) })
view_of p q u false true e f =
    inr (record { is = ap (λ x. either (or x (nat_eq u q)) (least p q) u) e ∙ ap (λ x. either x (least p q) u) f; was = inr (eqb-true u q f) })
view_of p q u false false e f =
    inl
    (record {
      is = ap (λ x. either (or x (nat_eq u q)) (least p q) u) e ∙ ap (λ x. either x (least p q) u) f;
      not_p = eqb-false u p e;
      not_q = eqb-false u q f;
    })

pub view : (p q u : ℕ) → Kept p q u ⊎ Moved p q u
view p q u = view_of p q u (nat_eq u p) (nat_eq u q) refl refl

pub moved_p : (p q u : ℕ) → u ≡ p → collapse p q u ≡ least p q
moved_p p q u e = ap (λ x. either (or x (nat_eq u q)) (least p q) u) (eq-eqb u p e)

pub moved_q : (p q u : ℕ) → u ≡ q → collapse p q u ≡ least p q
moved_q p q u e =
    ⊎_elim
    (λ (k : Kept p q u). absurd (k.not_q e))
    (λ (m : Moved p q u). m.is)
    (view p q u)

pub collapse_le : (p q u : ℕ) → collapse p q u ≤ u
collapse_le p q u =
    let l = low_is p q in
    ⊎_elim
    (λ (k : Kept p q u). omega (arith, k.is))
    (λ (m : Moved p q u). ⊎_elim (λ (e : u ≡ p). omega (arith, m.is, e, l.le_p)) (λ (e : u ≡ q). omega (arith, m.is, e, l.le_q)) m.was)
    (view p q u)

pub collapse_zero : (p q : ℕ) → collapse p q 0 ≡ 0
collapse_zero p q = omega (arith, collapse_le p q 0)

-- a class alone stays
pub collapse_self : (p u : ℕ) → collapse p p u ≡ u
collapse_self p u =
    let l = low_is p p in
    let s : least p p ≡ p = ⊎_elim (λ (e : least p p ≡ p). e) (λ (e : least p p ≡ p). e) l.one in
    ⊎_elim
    (λ (k : Kept p p u). k.is)
    (λ (m : Moved p p u). ⊎_elim (λ (e : u ≡ p). m.is ∙ s ∙ sym e) (λ (e : u ≡ p). m.is ∙ s ∙ sym e) m.was)
    (view p p u)

pub lead_map : (f : ℕ → ℕ) → f 0 ≡ 0 → (t : List ℕ) (s : ℕ) → leader (map f t) s ≡ f (leader t s)
lead_map f z [] s = sym z
lead_map f z (x ∷ t) zero = refl
lead_map f z (x ∷ t) (suc s) = lead_map f z t s

map_self : (f : ℕ → ℕ) → ((u : ℕ) → f u ≡ u) → (t : List ℕ) → map f t ≡ t
map_self f h [] = refl
map_self f h (x ∷ t) = ap (λ y. y ∷ map f t) (h x) ∙ ap (λ l. x ∷ l) (map_self f h t)

-- Tables as classes.
module _ (t : List ℕ) (a b : ℕ) where
  pub unite_lead : (s : ℕ) → leader (unite t a b) s ≡ collapse (leader t a) (leader t b) (leader t s)
  unite_lead s = lead_map (collapse (leader t a) (leader t b)) (collapse_zero (leader t a) (leader t b)) t s

  pub unite_old : Within t (unite t a b)
  unite_old = record { by = λ s u e. unite_lead s ∙ ap (collapse (leader t a) (leader t b)) e ∙ sym (unite_lead u) }

  pub unite_new : Same (unite t a b) a b
  unite_new = unite_lead a ∙ moved_p (leader t a) (leader t b) (leader t a) refl ∙ sym (unite_lead b ∙ moved_q (leader t a) (leader t b) (leader t b) refl)

  pub unite_least : (u : List ℕ) → Within t u → Same u a b → Within (unite t a b) u
  unite_least u w ab =
      let p = leader t a in
      let q = leader t b in
      let l = low_is p q in
      let near = λ (s : ℕ) (m : Moved p q (leader t s)). ⊎_elim (λ (e : leader t s ≡ p). w.by s a e) (λ (e : leader t s ≡ q). w.by s b e ∙ sym ab) m.was in
      let apart = λ (v : ℕ) (k : Kept p q v) (x : ℕ) (m : Moved p q x) (e : collapse p q v ≡ collapse p q x).
      let e' : v ≡ least p q = sym k.is ∙ e ∙ m.is in
      ⊎_elim (λ (f : least p q ≡ p). k.not_p (e' ∙ f)) (λ (f : least p q ≡ q). k.not_q (e' ∙ f)) l.one
      in
      record {
        by = λ s v e.
            let f : collapse p q (leader t s) ≡ collapse p q (leader t v) = sym (unite_lead s) ∙ e ∙ unite_lead v in
            ⊎_elim
            (λ (k : Kept p q (leader t s)). ⊎_elim
            (λ (k' : Kept p q (leader t v)). w.by s v (sym k.is ∙ f ∙ k'.is))
            (λ (m' : Moved p q (leader t v)). absurd (apart (leader t s) k (leader t v) m' f))
            (view p q (leader t v)))
            (λ (m : Moved p q (leader t s)). ⊎_elim
            (λ (k' : Kept p q (leader t v)). absurd (apart (leader t v) k' (leader t s) m (sym f)))
            (λ (m' : Moved p q (leader t v)). near s m ∙ sym (near v m'))
            (view p q (leader t v)))
            (view p q (leader t s));
      }

  pub unite_self : Same t a b → unite t a b ≡ t
  unite_self e =
      ap (λ q. map (collapse (leader t a) q) t) (sym e) ∙ map_self (collapse (leader t a) (leader t a)) (collapse_self (leader t a)) t

pub within_self : (t : List ℕ) → Within t t
within_self t = record { by = λ a b e. e }

pub within_on : {t u v : List ℕ} → Within t u → Within u v → Within t v
within_on a b = record { by = λ x y e. b.by x y (a.by x y e) }

-- ---- pairs

pub unites_old : (t : List ℕ) (ps : List (ℕ × ℕ)) → Within t (unites t ps)
unites_old t [] = within_self t
unites_old t (p ∷ ps) = within_on (unite_old t p.0 p.1) (unites_old (unite t p.0 p.1) ps)

pub unites_new : (t : List ℕ) (ps : List (ℕ × ℕ)) → AllSame (unites t ps) ps
unites_new t [] = tt
unites_new t (p ∷ ps) = ((unites_old (unite t p.0 p.1) ps).by p.0 p.1 (unite_new t p.0 p.1), unites_new (unite t p.0 p.1) ps)

pub unites_least : (t : List ℕ) (ps : List (ℕ × ℕ)) (u : List ℕ) → Within t u → AllSame u ps → Within (unites t ps) u
unites_least t [] u w a = w
unites_least t (p ∷ ps) u w a = unites_least (unite t p.0 p.1) ps u (unite_least t p.0 p.1 u w a.0) a.1

pub same_split : (t : List ℕ) (ps qs : List (ℕ × ℕ)) → AllSame t (ps ++ qs) → AllSame t ps × AllSame t qs
same_split t [] qs a = (tt, a)
same_split t (p ∷ ps) qs a = let r = same_split t ps qs a.1 in ((a.0, r.0), r.1)

pub same_append : (t : List ℕ) (ps qs : List (ℕ × ℕ)) → AllSame t ps → AllSame t qs → AllSame t (ps ++ qs)
same_append t [] qs a b = b
same_append t (p ∷ ps) qs a b = (a.0, same_append t ps qs a.1 b)
