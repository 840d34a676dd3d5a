-- What the attributes of a new instance start with is what the constants of its class are in the meaning.
use Rattle.std.proofs.Common.{◌≡◌, ℕ, Bool, true, false, ◌||◌, ◌&&◌, List, [], ◌∷◌, ◌++◌, map, Option, Some, None, refl, sym, ap, ◌∙◌}
use Rattle.std.specs.Prelude.{◌==◌, slice_get, is_some, option_map, unwrap_or, if◌then◌else◌}
use Rattle.std.specs.Str.{bytes_eq}
use Rattle.std.specs.List.{flat_map}
use Rattle.std.proofs.lemmas.List.{map-append}
use Rattle.std.proofs.lemmas.Slice.Eq.{bytes_eq-Decides}
use Rattle.rpy_meaning.specs.Classes.{named as meant_named, with_name as meant_with, nearest, constants_of}
use Rattle.rpy_meaning.specs.Tree.{Class}
use Rattle.rpy_tree.specs.Value.{Value as Meant}
use Rattle.rpy_tree.specs.declared.program.ClassInfo.{ClassInfo}
use Rattle.rpy_tree.specs.declared.program.Const.{Const}
use Rattle.class_desc.specs.declared.classes.Initial.{Initial}
use Rattle.class_desc.specs.Line.{above, constants_in, either_of, named}
use Rattle.class_desc.specs.Stores.{has, with_name}
use Rattle.class_desc.specs.Tables.{Tables, home, initial_of, with_initial, with_initials, from_classes, initial}
use Rattle.class_desc.proofs.Sums.{same_is}
use Rattle.rtyper_class.specs.Instances.{initial_of as initial_at}
use Rattle.layout_laws.specs.Starting.{AreConstants}
use Rattle.layout_laws.proofs.Places.{not_true}

same_bytes : (xs ys : List ℕ) → bytes_eq xs ys ≡ true → xs ≡ ys
same_bytes xs ys = (bytes_eq-Decides xs ys).0

bytes_same : (xs ys : List ℕ) → xs ≡ ys → bytes_eq xs ys ≡ true
bytes_same xs ys = (bytes_eq-Decides xs ys).1

bytes_turned : (xs ys : List ℕ) → bytes_eq xs ys ≡ bytes_eq ys xs
bytes_turned xs ys = by (bytes_eq xs ys) (bytes_eq ys xs) refl refl
  where
    by : (b c : Bool) → bytes_eq xs ys ≡ b → bytes_eq ys xs ≡ c → b ≡ c
    by true true e f = refl
    by false false e f = refl
    by true false e f = absurd (not_true (sym f ∙ bytes_same ys xs (sym (same_bytes xs ys e))))
    by false true e f = absurd (not_true (sym e ∙ bytes_same xs ys (sym (same_bytes ys xs f))))

-- ---- the meaning

-- a name has its value from then on, and others have theirs
named_with : (n m : List ℕ) (v : Meant) (es : List (List ℕ × Meant)) → meant_named m (meant_with n v es) ≡ (if bytes_eq n m then Some v else meant_named m es)
named_with n m v [] = refl
named_with n m v (e ∷ es) = by (bytes_eq e.0 n) (bytes_eq n m) (bytes_eq e.0 m) refl refl refl (named_with n m v es)
  where
    by : (b c d : Bool) → bytes_eq e.0 n ≡ b → bytes_eq n m ≡ c → bytes_eq e.0 m ≡ d → meant_named m (meant_with n v es) ≡ (if c then Some v else meant_named m es)
        → meant_named m (if b then (n, v) ∷ es else e ∷ meant_with n v es) ≡ (if c then Some v else if d then Some e.1 else meant_named m es)
    by true true d p q r go = ap (λ x. if x then Some v else meant_named m es) q
    by true false true p q r go = absurd (not_true (sym q ∙ bytes_same n m (sym (same_bytes e.0 n p) ∙ same_bytes e.0 m r)))
    by true false false p q r go = ap (λ x. if x then Some v else meant_named m es) q
    by false true true p q r go = absurd (not_true (sym p ∙ bytes_same e.0 n (same_bytes e.0 m r ∙ sym (same_bytes n m q))))
    by false true false p q r go = ap (λ x. if x then Some e.1 else meant_named m (meant_with n v es)) r ∙ go
    by false false d p q r go = ap (λ x. if x then Some e.1 else meant_named m (meant_with n v es)) r ∙ ap (λ o. if d then Some e.1 else o) go

named_nearest : (m : List ℕ) (es : List (List ℕ × Meant)) → meant_named m (nearest es) ≡ meant_named m es
named_nearest m [] = refl
named_nearest m (e ∷ es) = named_with e.0 m e.1 (nearest es) ∙ ap (λ o. if bytes_eq e.0 m then Some e.1 else o) (named_nearest m es)

module _ (value : Const → Meant) where
  abbrev valued : List ℕ × Const → List ℕ × Meant
  valued a = (a.0, value a.1)

  named_valued : (m : List ℕ) (ks : List (List ℕ × Const)) → meant_named m (map valued ks) ≡ option_map value (named m ks)
  named_valued m [] = refl
  named_valued m (k ∷ ks) = by (bytes_eq k.0 m) (named_valued m ks)
    where
      by : (b : Bool) → meant_named m (map valued ks) ≡ option_map value (named m ks) → (if b then Some (value k.1) else meant_named m (map valued ks)) ≡ option_map value (if b then Some k.1 else named m ks)
      by true go = refl
      by false go = go

  module _ (meant : List Class) (infos : List ClassInfo) (are : AreConstants value meant infos) where
    all_valued : (cs : List ℕ) → flat_map (λ d. constants_of (slice_get meant d)) cs ≡ map valued (flat_map (λ d. constants_in (slice_get infos d)) cs)
    all_valued [] = refl
    all_valued (c ∷ cs) =
        ap (λ es. es ++ flat_map (λ d. constants_of (slice_get meant d)) cs) (are c) ∙ ap (λ es. map valued (constants_in (slice_get infos c)) ++ es) (all_valued cs)
        ∙ sym (map-append valued (constants_in (slice_get infos c)) (flat_map (λ d. constants_in (slice_get infos d)) cs))

    pub meant_is : (m : List ℕ) (cs : List ℕ) → meant_named m (nearest (flat_map (λ d. constants_of (slice_get meant d)) cs)) ≡ option_map value (named m (flat_map (λ d. constants_in (slice_get infos d)) cs))
    meant_is m cs = named_nearest m (flat_map (λ d. constants_of (slice_get meant d)) cs) ∙ ap (meant_named m) (all_valued cs) ∙ named_valued m (flat_map (λ d. constants_in (slice_get infos d)) cs)

-- ---- the lowering

abbrev by_name : List ℕ → List Initial → Option Initial
by_name m [] = None
by_name m (i ∷ is) = if bytes_eq i.name m then Some i else by_name m is

abbrev one_if : Bool → Initial → Option Initial
one_if true i = Some i
one_if false i = None

name_last : (m : List ℕ) (is : List Initial) (i : Initial) → by_name m (is ++ i ∷ []) ≡ either_of (by_name m is) (one_if (bytes_eq i.name m) i)
name_last m [] i = by (bytes_eq i.name m)
  where
    by : (b : Bool) → (if b then Some i else None) ≡ one_if b i
    by true = refl
    by false = refl
name_last m (j ∷ is) i = by (bytes_eq j.name m) (name_last m is i)
  where
    by : (b : Bool) → by_name m (is ++ i ∷ []) ≡ either_of (by_name m is) (one_if (bytes_eq i.name m) i) → (if b then Some j else by_name m (is ++ i ∷ [])) ≡ either_of (if b then Some j else by_name m is) (one_if (bytes_eq i.name m) i)
    by true go = refl
    by false go = go

any_last : (m : List ℕ) (ns : List (List ℕ)) (n : List ℕ) → has (ns ++ n ∷ []) m ≡ (has ns m || bytes_eq m n)
any_last m [] n = by (bytes_eq m n)
  where
    by : (b : Bool) → (b || false) ≡ (false || b)
    by true = refl
    by false = refl
any_last m (k ∷ ns) n = by (bytes_eq m k) (any_last m ns n)
  where
    by : (b : Bool) → has (ns ++ n ∷ []) m ≡ (has ns m || bytes_eq m n) → (b || has (ns ++ n ∷ []) m) ≡ ((b || has ns m) || bytes_eq m n)
    by true go = refl
    by false go = go

module _ (t : Tables) (c : ℕ) where
  abbrev pub made : List ℕ → Const → Initial
  made m k = record { home = unwrap_or (home t c m) c; name = m; value = k }

  -- the names that were met are those of the values
  record Met (ns : List (List ℕ)) (vs : List Initial) : Type 0 where
    names : (m : List ℕ) → has ns m ≡ is_some (by_name m vs)

  either_none : (o : Option Initial) → either_of o None ≡ o
  either_none None = refl
  either_none (Some i) = refl

  is_either : (o : Option Initial) (b : Bool) (i : Initial) → is_some (either_of o (one_if b i)) ≡ (is_some o || b)
  is_either None true i = refl
  is_either None false i = refl
  is_either (Some j) b i = refl

  met_more : (k : List ℕ × Const) (ns : List (List ℕ)) (vs : List Initial) → Met ns vs → has ns k.0 ≡ false → Met (with_name ns k.0) (vs ++ initial_of t c k ∷ [])
  met_more k ns vs met e = record {
    names = λ m. ap (λ xs. has xs m) (ap (λ b. if b then ns else ns ++ k.0 ∷ []) e) ∙ any_last m ns k.0 ∙ ap (λ b. b || bytes_eq m k.0) (met.names m) ∙ ap (λ b. is_some (by_name m vs) || b) (bytes_turned m k.0)
        ∙ sym (is_either (by_name m vs) (bytes_eq k.0 m) (initial_of t c k)) ∙ ap is_some (sym (name_last m vs (initial_of t c k)));
  }

  -- a name that was met has its value
  was_met : (m : List ℕ) (k : List ℕ × Const) (rest : Option Const) (o : Option Initial) → is_some o ≡ true → either_of o (option_map (made m) rest) ≡ either_of o (Some (made m k.1))
  was_met m k rest None h = absurd (not_true h)
  was_met m k rest (Some i) h = refl

  one_met : (m : List ℕ) (k : List ℕ × Const) (ns : List (List ℕ)) (vs : List Initial) (rest : Option Const) → Met ns vs → has ns k.0 ≡ true → (d : Bool) → bytes_eq k.0 m ≡ d
      → either_of (by_name m vs) (option_map (made m) rest) ≡ either_of (by_name m vs) (option_map (made m) (if d then Some k.1 else rest))
  one_met m k ns vs rest met e true f = was_met m k rest (by_name m vs) (sym (met.names m) ∙ ap (has ns) (sym (same_bytes k.0 m f)) ∙ e)
  one_met m k ns vs rest met e false f = refl

  both_of : (m : List ℕ) (k : List ℕ × Const) (rest : Option Const) (o : Option Initial) (d : Bool) → bytes_eq k.0 m ≡ d → either_of (either_of o (one_if d (initial_of t c k))) (option_map (made m) rest) ≡ either_of o (option_map (made m) (if d then Some k.1 else rest))
  both_of m k rest None true f = ap (λ n. Some (record { home = unwrap_or (home t c n) c; name = n; value = k.1 })) (same_bytes k.0 m f)
  both_of m k rest None false f = refl
  both_of m k rest (Some i) true f = refl
  both_of m k rest (Some i) false f = refl

  one_new : (m : List ℕ) (k : List ℕ × Const) (vs : List Initial) (rest : Option Const) → either_of (by_name m (vs ++ initial_of t c k ∷ [])) (option_map (made m) rest) ≡ either_of (by_name m vs) (option_map (made m) (if bytes_eq k.0 m then Some k.1 else rest))
  one_new m k vs rest = ap (λ o. either_of o (option_map (made m) rest)) (name_last m vs (initial_of t c k)) ∙ both_of m k rest (by_name m vs) (bytes_eq k.0 m) refl

  names_are : (m : List ℕ) (ks : List (List ℕ × Const)) (ns : List (List ℕ)) (vs : List Initial) → Met ns vs → by_name m (with_initials t c ks (record { names = ns; values = vs })).values ≡ either_of (by_name m vs) (option_map (made m) (named m ks))
  names_are m [] ns vs met = sym (either_none (by_name m vs))
  names_are m (k ∷ ks) ns vs met = by (λ ns vs met. names_are m ks ns vs met) (has ns k.0) refl
    where
      by : ((ns : List (List ℕ)) (vs : List Initial) → Met ns vs → by_name m (with_initials t c ks (record { names = ns; values = vs })).values ≡ either_of (by_name m vs) (option_map (made m) (named m ks))) → (b : Bool) → has ns k.0 ≡ b
          → by_name m (with_initials t c ks (if b then record { names = ns; values = vs } else record { names = with_name ns k.0; values = vs ++ initial_of t c k ∷ [] })).values ≡ either_of (by_name m vs) (option_map (made m) (if bytes_eq k.0 m then Some k.1 else named m ks))
      by go true e = go ns vs met ∙ one_met m k ns vs (named m ks) met e (bytes_eq k.0 m) refl
      by go false e = go (with_name ns k.0) (vs ++ initial_of t c k ∷ []) (met_more k ns vs met e) ∙ one_new m k vs (named m ks)

  both_initials : (xs ys : List (List ℕ × Const)) (s : _) → with_initials t c (xs ++ ys) s ≡ with_initials t c ys (with_initials t c xs s)
  both_initials [] ys s = refl
  both_initials (x ∷ xs) ys s = both_initials xs ys (with_initial t c x s)

  classes_flat : (bs : List ℕ) (s : _) → from_classes t c bs s ≡ with_initials t c (flat_map (λ d. constants_in (slice_get t.classes d)) bs) s
  classes_flat [] s = refl
  classes_flat (b ∷ bs) s =
      classes_flat bs (with_initials t c (constants_in (slice_get t.classes b)) s)
      ∙ sym (both_initials (constants_in (slice_get t.classes b)) (flat_map (λ d. constants_in (slice_get t.classes d)) bs) s)

  -- ---- each at its home

  abbrev AtHome : List Initial → Type 0
  AtHome [] = Unit {0}
  AtHome (i ∷ is) = (i.home ≡ unwrap_or (home t c i.name) c) × AtHome is

  home_last : (is : List Initial) (i : Initial) → AtHome is → i.home ≡ unwrap_or (home t c i.name) c → AtHome (is ++ i ∷ [])
  home_last [] i all e = (e, tt)
  home_last (j ∷ is) i all e = (all.0, home_last is i all.1 e)

  all_home : (ks : List (List ℕ × Const)) (ns : List (List ℕ)) (vs : List Initial) → AtHome vs → AtHome (with_initials t c ks (record { names = ns; values = vs })).values
  all_home [] ns vs all = all
  all_home (k ∷ ks) ns vs all = by (λ ns vs all. all_home ks ns vs all) (has ns k.0)
    where
      by : ((ns : List (List ℕ)) (vs : List Initial) → AtHome vs → AtHome (with_initials t c ks (record { names = ns; values = vs })).values) → (b : Bool)
          → AtHome (with_initials t c ks (if b then record { names = ns; values = vs } else record { names = with_name ns k.0; values = vs ++ initial_of t c k ∷ [] })).values
      by go true = go ns vs all
      by go false = go (with_name ns k.0) (vs ++ initial_of t c k ∷ []) (home_last vs (initial_of t c k) all refl)

  at_is : (h : ℕ) (m : List ℕ) (is : List Initial) → home t c m ≡ Some h → AtHome is → initial_at is h m ≡ by_name m is
  at_is h m [] e all = refl
  at_is h m (i ∷ is) e all = by (bytes_eq i.name m) refl (at_is h m is e all.1)
    where
      here : bytes_eq i.name m ≡ true → (i.home == h) ≡ true
      here f = same_is i.home h (all.0 ∙ ap (λ n. unwrap_or (home t c n) c) (same_bytes i.name m f) ∙ ap (λ o. unwrap_or o c) e)

      none : (b : Bool) → (b && false) ≡ false
      none true = refl
      none false = refl

      by : (b : Bool) → bytes_eq i.name m ≡ b → initial_at is h m ≡ by_name m is → (if (i.home == h) && bytes_eq i.name m then Some i else initial_at is h m) ≡ (if b then Some i else by_name m is)
      by true f go = ap (λ b. if b && bytes_eq i.name m then Some i else initial_at is h m) (here f) ∙ ap (λ b. if b then Some i else initial_at is h m) f
      by false f go = ap (λ b. if (i.home == h) && b then Some i else initial_at is h m) f ∙ ap (λ b. if b then Some i else initial_at is h m) (none (i.home == h)) ∙ go

  pub initial_is : (h : ℕ) (m : List ℕ) → home t c m ≡ Some h → initial_at (initial t c) h m ≡ option_map (made m) (named m (flat_map (λ d. constants_in (slice_get t.classes d)) (above t.classes c)))
  initial_is h m e =
      let constants : List (List ℕ × Const) = flat_map (λ d. constants_in (slice_get t.classes d)) (above t.classes c) in
      ap (λ s. initial_at s.values h m) (classes_flat (above t.classes c) (record { names = []; values = [] })) ∙ at_is h m (with_initials t c constants (record { names = []; values = [] })).values e (all_home constants [] [] tt)
      ∙ names_are m constants [] [] (record { names = λ n. refl })
