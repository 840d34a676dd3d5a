-- What is made at sites, and what sites then hold.
use Rattle.std.proofs.Common.{◌≡◌, ℕ, ◌+◌, ◌≤◌, ◌<◌, zero, suc, List, [], ◌∷◌, ◌++◌, length, Bool, true, false, Option, Some, None, sym, ap, ◌∙◌, refl, arith, subst, cond, ◌⊎◌, inl, inr}
use Rattle.std.specs.Prelude.{nat_eq, nat_lt, ◌||◌, slice_get, slice_set}
use Rattle.std.specs.List.{AllByRecursion}
use Rattle.std.proofs.lemmas.Grind.{common_steps}
use Rattle.rpy_tree.specs.declared.program.Site.{Site}
use Rattle.names_found.specs.declared.step.SiteAt.{SiteAt}
use Rattle.names_value.specs.Machine.{Pairs}
use Rattle.names_value.specs.declared.machine.Prebuilt.{Prebuilt}
use Rattle.names_whole.specs.Sites.{contents, sites_from}
use Rattle.rpy_names.specs.Tables as old

abbrev pub Made : Type 0
Made = List Prebuilt

-- ---- parts of what is made

abbrev pub In : Prebuilt → Made → Type 0
In p [] = ⊥
In p (m ∷ ms) = (p ≡ m) ⊎ In p ms

abbrev pub Among : Made → Made → Type 0
Among xs ys = AllByRecursion (λ p. In p ys) xs

in_first : (p : Prebuilt) (xs ys : Made) → In p xs → In p (xs ++ ys)
in_first p [] ys h = absurd h
in_first p (x ∷ xs) ys (inl e) = inl e
in_first p (x ∷ xs) ys (inr h) = inr (in_first p xs ys h)

in_rest : (p : Prebuilt) (xs ys : Made) → In p ys → In p (xs ++ ys)
in_rest p [] ys h = h
in_rest p (x ∷ xs) ys h = inr (in_rest p xs ys h)

pub among_nothing : (ys : Made) → Among [] ys
among_nothing ys = tt

pub among_first : (xs ys zs : Made) → Among xs ys → Among xs (ys ++ zs)
among_first [] ys zs h = tt
among_first (x ∷ xs) ys zs h = (in_first x ys zs h.0, among_first xs ys zs h.1)

pub among_rest : (xs ys zs : Made) → Among xs zs → Among xs (ys ++ zs)
among_rest [] ys zs h = tt
among_rest (x ∷ xs) ys zs h = (in_rest x ys zs h.0, among_rest xs ys zs h.1)

pub among_both : (xs ys zs : Made) → Among xs zs → Among ys zs → Among (xs ++ ys) zs
among_both [] ys zs h k = k
among_both (x ∷ xs) ys zs h k = (h.0, among_both xs ys zs h.1 k)

pub among_append : (xs xs' ys ys' : Made) → Among xs ys → Among xs' ys' → Among (xs ++ xs') (ys ++ ys')
among_append xs xs' ys ys' h k = among_both xs xs' (ys ++ ys') (among_first xs ys ys' h) (among_rest xs' ys ys' k)

one_among : (x : Prebuilt) (xs : Made) (ys : Made) → Among xs ys → Among xs (x ∷ ys)
one_among x [] ys h = tt
one_among x (z ∷ xs) ys h = (inr h.0, one_among x xs ys h.1)

pub among_itself : (xs : Made) → Among xs xs
among_itself [] = tt
among_itself (x ∷ xs) = (inl refl, one_among x xs xs (among_itself xs))

in_among : (p : Prebuilt) (ys zs : Made) → In p ys → Among ys zs → In p zs
in_among p [] zs h k = absurd h
in_among p (y ∷ ys) zs (inl e) k = subst (λ (q : Prebuilt). In q zs) (sym e) k.0
in_among p (y ∷ ys) zs (inr h) k = in_among p ys zs h k.1

pub among_trans : (xs ys zs : Made) → Among xs ys → Among ys zs → Among xs zs
among_trans [] ys zs h k = tt
among_trans (x ∷ xs) ys zs h k = (in_among x ys zs h.0 k, among_trans xs ys zs h.1 k)

-- ---- each site is made at once, and they rise

abbrev pub Rising : ℕ → ℕ → Made → Type 0
Rising from to [] = from ≤ to
Rising from to (p ∷ ps) = (from ≤ p.site) × Rising (p.site + 1) to ps

lower : (ps : Made) (from mid to : ℕ) → from ≤ mid → Rising mid to ps → Rising from to ps
lower [] from mid to h r = omega (arith, h, r)
lower (p ∷ ps) from mid to h r = (omega (arith, h, r.0), r.1)

pub rising_append : (xs ys : Made) (from mid to : ℕ) → Rising from mid xs → Rising mid to ys → Rising from to (xs ++ ys)
rising_append [] ys from mid to h k = lower ys from mid to h k
rising_append (x ∷ xs) ys from mid to h k = (h.0, rising_append xs ys (x.site + 1) mid to h.1 k)

at_least : (p : Prebuilt) (ms : Made) (from to : ℕ) → Rising from to ms → In p ms → from ≤ p.site
at_least p [] from to r h = absurd h
at_least p (m ∷ ms) from to r (inl e) = let s : p.site ≡ m.site = ap (λ q. q.site) e in let lo : from ≤ m.site = r.0 in omega (arith, s, lo)
at_least p (m ∷ ms) from to r (inr h) = let lo : from ≤ m.site = r.0 in let more : m.site + 1 ≤ p.site = at_least p ms (m.site + 1) to r.1 h in omega (arith, lo, more)

same_number : (n m : ℕ) → n ≡ m → nat_eq n m ≡ true
same_number n m e = grind (arith, common_steps)

other_number : (n m : ℕ) → n < m → nat_eq n m ≡ false
other_number n m h = grind (arith, common_steps)

held_by : (p : Prebuilt) (ms : Made) (from to : ℕ) → Rising from to ms → In p ms → contents ms p.site ≡ Some p.pairs
held_by p [] from to r h = absurd h
held_by p (m ∷ ms) from to r (inl e) = ap (λ b. cond b (Some m.pairs) (contents ms p.site)) (same_number m.site p.site (ap (λ q. q.site) (sym e))) ∙ ap (λ q. Some q.pairs) (sym e)
held_by p (m ∷ ms) from to r (inr h) =
    let more : m.site + 1 ≤ p.site = at_least p ms (m.site + 1) to r.1 h in
    ap (λ b. cond b (Some m.pairs) (contents ms p.site)) (other_number m.site p.site (omega (arith, more))) ∙ held_by p ms (m.site + 1) to r.1 h

-- these hold what is made
abbrev pub Agrees : Made → Made → Type 0
Agrees xs all = AllByRecursion (λ p. contents all p.site ≡ Some p.pairs) xs

pub agrees : (xs all : Made) (from to : ℕ) → Rising from to all → Among xs all → Agrees xs all
agrees [] all from to r h = tt
agrees (x ∷ xs) all from to r h = (held_by x all from to r h.0, agrees xs all from to r h.1)

pub agrees_both : (xs ys all : Made) → Agrees xs all → Agrees ys all → Agrees (xs ++ ys) all
agrees_both [] ys all h k = k
agrees_both (x ∷ xs) ys all h k = (h.0, agrees_both xs ys all h.1 k)

-- ---- the code puts them into the sites, one by one

abbrev with_pairs : (ℕ → Option Pairs) → ℕ → Pairs → ℕ → Option Pairs
with_pairs held site pairs n = cond (nat_eq site n) (Some pairs) (held n)

abbrev with_all : (ℕ → Option Pairs) → Made → ℕ → Option Pairs
with_all held [] = held
with_all held (p ∷ ps) = with_all (with_pairs held p.site p.pairs) ps

-- a site before these
not_yet : (held : ℕ → Option Pairs) (pairs : Pairs) (ss : List SiteAt) (site n : ℕ) → site < n → sites_from held n ss ≡ sites_from (with_pairs held site pairs) n ss
not_yet held pairs [] site n h = refl
not_yet held pairs (s ∷ ss) site n h = λ j. record { node = s.node; dict = s.dict; prebuilt = cond (sym (other_number site n h) j) (Some pairs) (held n) } ∷ not_yet held pairs ss site (n + 1) (omega (arith, h)) j

after_all : (held : ℕ → Option Pairs) (pairs : Pairs) (ss : List SiteAt) (n i : ℕ) → slice_get ss i ≡ None → sites_from held n ss ≡ sites_from (with_pairs held (n + i) pairs) n ss
after_all held pairs [] n i h = refl
after_all held pairs (s ∷ ss) n zero h = absurd cc
after_all held pairs (s ∷ ss) n (suc i) h = λ j. record { node = s.node; dict = s.dict; prebuilt = cond (sym (later n i) j) (Some pairs) (held n) } ∷ (after_all held pairs ss (n + 1) i h ∙ ap (λ m. sites_from (with_pairs held m pairs) (n + 1) ss) (moved n i)) j where
  later : (n i : ℕ) → nat_eq (n + suc i) n ≡ false
  later n i = grind (arith, common_steps)

  moved : (n i : ℕ) → (n + 1) + i ≡ n + suc i
  moved n i = omega arith

abbrev filled : Pairs → SiteAt → Site
filled pairs s = record { node = s.node; dict = s.dict; prebuilt = Some pairs }

put_there : (held : ℕ → Option Pairs) (pairs : Pairs) (ss : List SiteAt) (n i : ℕ) (s : SiteAt) → slice_get ss i ≡ Some s → slice_set (sites_from held n ss) i (filled pairs s) ≡ sites_from (with_pairs held (n + i) pairs) n ss
put_there held pairs [] n i s h = absurd cc
put_there held pairs (x ∷ ss) n zero s h = λ j. record { node = (same j).node; dict = (same j).dict; prebuilt = cond (sym (here n) j) (Some pairs) (held n) } ∷ not_yet held pairs ss (n + 0) (n + 1) (omega arith) j where
  or_else : SiteAt → Option SiteAt → SiteAt
  or_else d None = d
  or_else d (Some z) = z

  same : s ≡ x
  same = ap (or_else s) (sym h)

  here : (n : ℕ) → nat_eq (n + 0) n ≡ true
  here n = grind (arith, common_steps)
put_there held pairs (x ∷ ss) n (suc i) s h = λ j. record { node = x.node; dict = x.dict; prebuilt = cond (sym (later n i) j) (Some pairs) (held n) } ∷ (put_there held pairs ss (n + 1) i s h ∙ ap (λ m. sites_from (with_pairs held m pairs) (n + 1) ss) (moved n i)) j where
  later : (n i : ℕ) → nat_eq (n + suc i) n ≡ false
  later n i = grind (arith, common_steps)

  moved : (n i : ℕ) → (n + 1) + i ≡ n + suc i
  moved n i = omega arith

first_there : (n : ℕ) → nat_lt 0 (suc n) ≡ true
first_there n = grind (arith, common_steps)

later_there : (i n : ℕ) → nat_lt (suc i) (suc n) ≡ nat_lt i n
later_there i n = grind (arith, common_steps)

is_there : (held : ℕ → Option Pairs) (ss : List SiteAt) (n i : ℕ) (s : SiteAt) → slice_get ss i ≡ Some s → nat_lt i (length (sites_from held n ss)) ≡ true
is_there held [] n i s h = absurd cc
is_there held (x ∷ ss) n zero s h = first_there (length (sites_from held (n + 1) ss))
is_there held (x ∷ ss) n (suc i) s h = later_there i (length (sites_from held (n + 1) ss)) ∙ is_there held ss (n + 1) i s h

from_zero : (n : ℕ) → 0 + n ≡ n
from_zero n = omega arith

put_by : (held : ℕ → Option Pairs) (pairs : Pairs) (ss : List SiteAt) (i : ℕ) (o : Option SiteAt) → slice_get ss i ≡ o → old.fill_in o i pairs (sites_from held 0 ss) ≡ sites_from (with_pairs held i pairs) 0 ss
put_by held pairs ss i None h = after_all held pairs ss 0 i h ∙ ap (λ m. sites_from (with_pairs held m pairs) 0 ss) (from_zero i)
put_by held pairs ss i (Some s) h = ap (λ b. cond b (slice_set (sites_from held 0 ss) i (filled pairs s)) (sites_from held 0 ss)) (is_there held ss 0 i s h)
    ∙ put_there held pairs ss 0 i s h ∙ ap (λ m. sites_from (with_pairs held m pairs) 0 ss) (from_zero i)

put_all : (ps : Made) (held : ℕ → Option Pairs) (ss : List SiteAt) → old.fill_all ss ps (sites_from held 0 ss) ≡ sites_from (with_all held ps) 0 ss
put_all [] held ss = refl
put_all (p ∷ ps) held ss = ap (old.fill_all ss ps) (put_by held p.pairs ss p.site (slice_get ss p.site) refl) ∙ put_all ps (with_pairs held p.site p.pairs) ss

bare_is : (ss : List SiteAt) (done : List Site) (n : ℕ) → old.bare_onto done ss ≡ done ++ sites_from (λ m. None) n ss
bare_is [] done n = sym (Rattle.std.proofs.Common.append-nil done)
bare_is (s ∷ ss) done n = bare_is ss (done ++ record { node = s.node; dict = s.dict; prebuilt = None } ∷ []) (n + 1)
    ∙ Rattle.std.proofs.Common.append_assoc done (record { node = s.node; dict = s.dict; prebuilt = None } ∷ []) (sites_from (λ m. None) (n + 1) ss)

with_both : (xs ys : Made) (held : ℕ → Option Pairs) → with_all (with_all held xs) ys ≡ with_all held (xs ++ ys)
with_both [] ys held = refl
with_both (x ∷ xs) ys held = with_both xs ys (with_pairs held x.site x.pairs)

-- ---- where all agree with what is made, and all that is made is there

abbrev pub has : Made → ℕ → Bool
has [] n = false
has (p ∷ ps) n = nat_eq p.site n || has ps n

abbrev pub Covers : Made → Made → Type 0
Covers ps xs = AllByRecursion (λ p. has ps p.site ≡ true) xs

abbrev Ends : (ℕ → Option Pairs) → Made → Made → ℕ → Type 0
Ends held all ps n = ((with_all held ps n ≡ held n) × (has ps n ≡ false)) ⊎ (with_all held ps n ≡ contents all n)

ends : (ps all : Made) (held : ℕ → Option Pairs) (n : ℕ) → Agrees ps all → Ends held all ps n
ends [] all held n h = inl (refl, refl)
ends (p ∷ ps) all held n h = by_rest (ends ps all (with_pairs held p.site p.pairs) n h.1) where
  by_test : (b : Bool) → nat_eq p.site n ≡ b → with_all (with_pairs held p.site p.pairs) ps n ≡ cond b (Some p.pairs) (held n) → has ps n ≡ false → Ends held all (p ∷ ps) n
  by_test true t e k = inr (e ∙ sym h.0 ∙ ap (contents all) (number p.site n t)) where
    number : (a b : ℕ) → nat_eq a b ≡ true → a ≡ b
    number a b t = grind (arith, common_steps)
  by_test false t e k = inl (e, (λ j. t j || k j))

  by_rest : Ends (with_pairs held p.site p.pairs) all ps n → Ends held all (p ∷ ps) n
  by_rest (inr e) = inr e
  by_rest (inl e) = by_test (nat_eq p.site n) refl e.0 e.1

never : (ps all : Made) (n : ℕ) → Covers ps all → has ps n ≡ false → contents all n ≡ None
never ps [] n h k = refl
never ps (m ∷ all) n h k = ap (λ b. cond b (Some m.pairs) (contents all n)) (by_test (nat_eq m.site n) refl) ∙ never ps all n h.1 k where
  by_test : (b : Bool) → nat_eq m.site n ≡ b → b ≡ false
  by_test false t = refl
  by_test true t = sym h.0 ∙ ap (has ps) (number m.site n t) ∙ k where
    number : (a b : ℕ) → nat_eq a b ≡ true → a ≡ b
    number a b t = grind (arith, common_steps)

held_is : (ps all : Made) (n : ℕ) → Agrees ps all → Covers ps all → with_all (λ m. None) ps n ≡ contents all n
held_is ps all n h k = by_end (ends ps all (λ m. None) n h) where
  by_end : Ends (λ m. None) all ps n → with_all (λ m. None) ps n ≡ contents all n
  by_end (inl e) = e.0 ∙ sym (never ps all n k e.1)
  by_end (inr e) = e

pub sites_are : (ss : List SiteAt) (xs ys all : Made) → Agrees xs all → Agrees ys all → Covers (xs ++ ys) all → old.program_sites ss xs ys ≡ sites_from (contents all) 0 ss
sites_are ss xs ys all h k c =
    ap (λ bs. old.fill_all ss ys (old.fill_all ss xs bs)) (bare_is ss [] 0)
    ∙ ap (old.fill_all ss ys) (put_all xs (λ m. None) ss)
    ∙ put_all ys (with_all (λ m. None) xs) ss
    ∙ ap (λ held. sites_from held 0 ss) (with_both xs ys (λ m. None))
    ∙ ap (λ held. sites_from held 0 ss) (λ j n. held_is (xs ++ ys) all n (agrees_both xs ys all h k) c j)

-- ---- what covers

has_both : (xs ys : Made) (n : ℕ) → has (xs ++ ys) n ≡ (has xs n || has ys n)
has_both [] ys n = refl
has_both (x ∷ xs) ys n = ap (λ b. nat_eq x.site n || b) (has_both xs ys n) ∙ or_assoc (nat_eq x.site n) (has xs n) (has ys n) where
  or_assoc : (a b c : Bool) → (a || (b || c)) ≡ ((a || b) || c)
  or_assoc true b c = refl
  or_assoc false b c = refl

or_first : (a b : Bool) → a ≡ true → (a || b) ≡ true
or_first a b e = ap (λ x. x || b) e

or_last : (a b : Bool) → b ≡ true → (a || b) ≡ true
or_last true b e = refl
or_last false b e = e

pub covers_first : (xs ps qs : Made) → Covers ps xs → Covers (ps ++ qs) xs
covers_first [] ps qs h = tt
covers_first (x ∷ xs) ps qs h = (has_both ps qs x.site ∙ or_first (has ps x.site) (has qs x.site) h.0, covers_first xs ps qs h.1)

pub covers_last : (xs ps qs : Made) → Covers qs xs → Covers (ps ++ qs) xs
covers_last [] ps qs h = tt
covers_last (x ∷ xs) ps qs h = (has_both ps qs x.site ∙ or_last (has ps x.site) (has qs x.site) h.0, covers_last xs ps qs h.1)

pub covers_both : (xs ys ps : Made) → Covers ps xs → Covers ps ys → Covers ps (xs ++ ys)
covers_both [] ys ps h k = k
covers_both (x ∷ xs) ys ps h k = (h.0, covers_both xs ys ps h.1 k)

pub covers_itself : (xs : Made) → Covers xs xs
covers_itself [] = tt
covers_itself (x ∷ xs) = (or_first (nat_eq x.site x.site) (has xs x.site) (same_number x.site x.site refl), covers_last xs (x ∷ []) xs (covers_itself xs))
