-- What stands at the nodes of the tables.
use Rattle.std.proofs.Common.{◌≡◌, ℕ, zero, suc, ◌+◌, ◌-◌, ◌<◌, ◌≤◌, ◌&&◌, ◌==◌, nat_lt, max, Bool, true, false, List, [], ◌∷◌, ◌++◌, length, get_or, replicate, set, slice_set, slice_get, Option, Some, None, is_some, refl, sym, ap, subst, ◌∙◌, ◌⊎◌, inl, inr, arith, add-one, append_assoc, length-append}
use Rattle.std.specs.Prelude.{unwrap_or, if◌then◌else◌}
use Rattle.std.proofs.lemmas.Bool.{cases_eq, eq-eqb, ne_eqb, ltb-true, ltb-false, and_right}
use Rattle.std.proofs.lemmas.Option.{unwrap_or-slice_get}
use Rattle.std.proofs.lemmas.List.{get_or-set_same, get_or-set_other, append-nil, length-replicate}
use Rattle.rpy_tree.specs.declared.program.ClauseInfo.{ClauseInfo}
use Rattle.rpy_tree.specs.declared.program.Program.{Program}
use Rattle.rpy_tree.specs.declared.program.Site.{Site}
use Rattle.rpy_meaning.specs.Resolved.{Further, site_from, walk_from}
use Rattle.resolver_names.specs.Tables.{Table, grown, put, put_first, larger, put_largest, put_site, put_walk, put_sites, put_walks, put_clauses}
use Rattle.resolver_names.specs.Told.{look, place_from}

at_least : (a : ℕ) → a ≡ max a 0
at_least a = omega arith

and_true : (x : Bool) → x ≡ (x && true)
and_true true = refl
and_true false = refl

-- ---- growing

pub grown_step : (n : ℕ) (t : Table) → length t ≤ n → grown n (t ++ None ∷ []) ≡ grown n t
grown_step n t le =
    let e : n + 1 - length t ≡ suc (n - length t) = omega (arith, le) in
    let f : n + 1 - length (t ++ None ∷ []) ≡ n - length t = omega (arith, le, length-append t (None ∷ [])) in
    append_assoc t (None ∷ []) (replicate (n + 1 - length (t ++ None ∷ [])) None)
    ∙ ap (λ (k : ℕ). t ++ (None ∷ replicate k None)) f
    ∙ ap (λ (k : ℕ). t ++ replicate k None) (sym e)

pub grown_end : (n : ℕ) (t : Table) → n < length t → grown n t ≡ t
grown_end n t lt =
    let e : n + 1 - length t ≡ 0 = omega (arith, lt) in
    ap (λ (k : ℕ). t ++ replicate k None) e ∙ append-nil t

look_is : (t : Table) (n : ℕ) → look t n ≡ get_or t n None
look_is t n = unwrap_or-slice_get t n None

abbrev nothing : Option ℕ
nothing = None

nothing_there : (k n : ℕ) → get_or (replicate k nothing) n nothing ≡ nothing
nothing_there zero n = refl
nothing_there (suc k) zero = refl
nothing_there (suc k) (suc n) = nothing_there k n

same_there : (t : Table) (k n : ℕ) → get_or (t ++ replicate k None) n None ≡ get_or t n None
same_there [] k n = nothing_there k n
same_there (x ∷ t) k zero = refl
same_there (x ∷ t) k (suc n) = same_there t k n

if_yes : {A : Type 0} (b : Bool) (x y : A) → b ≡ true → (if b then x else y) ≡ x
if_yes true x y e = refl
if_yes false x y e = absurd cc

if_no : {A : Type 0} (b : Bool) (x y : A) → b ≡ false → (if b then x else y) ≡ y
if_no true x y e = absurd cc
if_no false x y e = refl

long : (m : ℕ) (t : Table) → m < length (grown m t)
long m t = omega (arith, length-append t (replicate (m + 1 - length t) None), length-replicate (m + 1 - length t) nothing)

put_there : (m number : ℕ) (t : Table) → look (put m number t) m ≡ Some number
put_there m number t = look_is (put m number t) m ∙ get_or-set_same (grown m t) m (Some number) None (long m t)

put_other : (m number : ℕ) (t : Table) (n : ℕ) → (m ≡ n → ⊥) → look (put m number t) n ≡ look t n
put_other m number t n ne =
    look_is (put m number t) n
    ∙ get_or-set_other (grown m t) m n (Some number) None (λ e. ne (sym e))
    ∙ same_there t (m + 1 - length t) n
    ∙ sym (look_is t n)

-- ---- what comes first

abbrev pub or_else : Option ℕ → Option ℕ → Option ℕ
or_else None other = other
or_else (Some x) other = Some x

or_none : (a : Option ℕ) → a ≡ or_else a None
or_none None = refl
or_none (Some x) = refl

first_there : (m number : ℕ) (t : Table) (o : Option ℕ) → look t m ≡ o → look (if is_some o then t else put m number t) m ≡ or_else o (Some number)
first_there m number t None e = put_there m number t
first_there m number t (Some x) e = e

first_other : (m number : ℕ) (t : Table) (n : ℕ) (b : Bool) → (m ≡ n → ⊥) → look (if b then t else put m number t) n ≡ look t n
first_other m number t n true ne = refl
first_other m number t n false ne = put_other m number t n ne

first_put : (m number : ℕ) (t : Table) (n : ℕ) → look (put_first m number t) n ≡ or_else (look t n) (if m == n then Some number else None)
first_put m number t n = by (cases_eq m n)
  where
    by : (m ≡ n) ⊎ (m ≡ n → ⊥) → look (put_first m number t) n ≡ or_else (look t n) (if m == n then Some number else None)
    by (inl e) =
        ap (look (put_first m number t)) (sym e)
        ∙ first_there m number t (look t m) refl
        ∙ ap (λ (k : ℕ). or_else (look t k) (Some number)) e
        ∙ ap (or_else (look t n)) (sym (if_yes (m == n) (Some number) None (eq-eqb m n e)))
    by (inr ne) =
        first_other m number t n (is_some (look t m)) ne
        ∙ or_none (look t n)
        ∙ ap (or_else (look t n)) (sym (if_no (m == n) (Some number) None (ne_eqb m n ne)))

-- a number, or else what follows
follows : (a : Option ℕ) (c : Bool) (i : ℕ) (r : Option ℕ) → or_else (or_else a (if c then Some i else None)) r ≡ or_else a (if c then Some i else r)
follows None true i r = refl
follows None false i r = refl
follows (Some x) c i r = refl

-- ---- clauses

pub clauses_look : (i : ℕ) (cs : List ClauseInfo) (t : Table) (n : ℕ) → look (put_clauses i cs t) n ≡ or_else (look t n) (place_from i cs n)
clauses_look i [] t n = or_none (look t n)
clauses_look i (c ∷ cs) t n =
    clauses_look (i + 1) cs (put_first c.node i t) n
    ∙ ap (λ (o : Option ℕ). or_else o (place_from (i + 1) cs n)) (first_put c.node i t n)
    ∙ follows (look t n) (c.node == n) i (place_from (i + 1) cs n)
    ∙ ap (λ (k : ℕ). or_else (look t n) (if c.node == n then Some i else place_from k cs n)) (add-one i)

-- ---- sites

guarded : (m i : ℕ) (t : Table) (n : ℕ) (b : Bool)
    → look (if b then put_first m i t else t) n ≡ or_else (look t n) (if (m == n) && b then Some i else None)
guarded m i t n true = first_put m i t n ∙ ap (λ (c : Bool). or_else (look t n) (if c then Some i else None)) (and_true (m == n))
guarded m i t n false = or_none (look t n) ∙ ap (λ (c : Bool). or_else (look t n) (if c then Some i else None)) (sym (and_right (m == n) false refl))

module _ (p : Program) (f : Further) where
  pub sites_look : (i : ℕ) (sites : List Site) (t : Table) (n : ℕ) → look (put_sites i sites t) n ≡ or_else (look t n) (site_from p f i sites n)
  sites_look i [] t n = or_none (look t n)
  sites_look i (s ∷ sites) t n =
      sites_look (i + 1) sites (put_site s i t) n
      ∙ ap (λ (o : Option ℕ). or_else o (site_from p f (i + 1) sites n)) (guarded s.node i t n (nat_lt 0 i))
      ∙ follows (look t n) ((s.node == n) && nat_lt 0 i) i (site_from p f (i + 1) sites n)
      ∙ ap (λ (k : ℕ). or_else (look t n) (if (s.node == n) && nat_lt 0 i then Some i else site_from p f k sites n)) (add-one i)

-- ---- walks

larger_is : (a b : ℕ) → larger a b ≡ max a b
larger_is a b = by (nat_lt a b) refl
  where
    by : (c : Bool) → nat_lt a b ≡ c → (if c then b else a) ≡ max a b
    by true e = let h : a < b = ltb-true a b e in omega (arith, h)
    by false e = let h : b ≤ a = ltb-false a b e in omega (arith, h)

most_put : (m i : ℕ) (t : Table) (n : ℕ) → unwrap_or (look (put_largest m i t) n) 0 ≡ max (unwrap_or (look t n) 0) (if m == n then i else 0)
most_put m i t n = by (cases_eq m n)
  where
    by : (m ≡ n) ⊎ (m ≡ n → ⊥) → unwrap_or (look (put_largest m i t) n) 0 ≡ max (unwrap_or (look t n) 0) (if m == n then i else 0)
    by (inl e) =
        ap (λ (k : ℕ). unwrap_or (look (put_largest m i t) k) 0) (sym e)
        ∙ ap (λ (o : Option ℕ). unwrap_or o 0) (put_there m (larger (unwrap_or (look t m) 0) i) t)
        ∙ larger_is (unwrap_or (look t m) 0) i
        ∙ ap (λ (k : ℕ). max (unwrap_or (look t k) 0) i) e
        ∙ ap (max (unwrap_or (look t n) 0)) (sym (if_yes (m == n) i 0 (eq-eqb m n e)))
    by (inr ne) =
        ap (λ (o : Option ℕ). unwrap_or o 0) (put_other m (larger (unwrap_or (look t m) 0) i) t n ne)
        ∙ at_least (unwrap_or (look t n) 0)
        ∙ ap (max (unwrap_or (look t n) 0)) (sym (if_no (m == n) i 0 (ne_eqb m n ne)))

walk_put : (m i : ℕ) (t : Table) (n : ℕ) (b : Bool)
    → unwrap_or (look (if b then put_largest m i t else t) n) 0 ≡ max (unwrap_or (look t n) 0) (if (m == n) && b then i else 0)
walk_put m i t n true = most_put m i t n ∙ ap (λ (c : Bool). max (unwrap_or (look t n) 0) (if c then i else 0)) (and_true (m == n))
walk_put m i t n false = at_least (unwrap_or (look t n) 0) ∙ ap (λ (c : Bool). max (unwrap_or (look t n) 0) (if c then i else 0)) (sym (and_right (m == n) false refl))

greatest : (a i r : ℕ) (c : Bool) → max (max a (if c then i else 0)) r ≡ max a (if c then max i r else r)
greatest a i r true = omega arith
greatest a i r false = omega arith

module _ (p : Program) (f : Further) where
  pub walks_look : (i : ℕ) (sites : List Site) (t : Table) (n : ℕ) → unwrap_or (look (put_walks i sites t) n) 0 ≡ max (unwrap_or (look t n) 0) (walk_from p f i sites n)
  walks_look i [] t n = at_least (unwrap_or (look t n) 0)
  walks_look i (s ∷ sites) t n =
      walks_look (i + 1) sites (put_walk s i t) n
      ∙ ap (λ (k : ℕ). max k (walk_from p f (i + 1) sites n)) (walk_put s.node i t n (nat_lt 0 i))
      ∙ greatest (unwrap_or (look t n) 0) i (walk_from p f (i + 1) sites n) ((s.node == n) && nat_lt 0 i)
      ∙ ap (λ (k : ℕ). max (unwrap_or (look t n) 0) (if (s.node == n) && nat_lt 0 i then max i (walk_from p f k sites n) else walk_from p f k sites n)) (add-one i)
