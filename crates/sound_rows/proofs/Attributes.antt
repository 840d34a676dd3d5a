-- Names in lists of names, and what the attributes of a new instance are.
use Rattle.std.proofs.Common.{◌≡◌, ℕ, Bool, true, false, List, [], ◌∷◌, ◌++◌, Option, Some, refl, ap, sym, subst, ◌∙◌, ◌⊎◌, inl, inr}
use Rattle.std.specs.Prelude.{◌||◌, slice_get, if◌then◌else◌}
use Rattle.std.specs.List.{list_any, flat_map}
use Rattle.std.specs.Str.{bytes_eq}
use Rattle.std.proofs.lemmas.Slice.Eq.{bytes_eq-Decides}
use Rattle.rpy_tree.specs.declared.program.ClassInfo.{ClassInfo}
use Rattle.rpy_tree.specs.declared.program.Const.{Const}
use Rattle.rpy_tree.specs.Value.{Value, Object}
use Rattle.rpy_meaning.specs.Tree.{Program}
use Rattle.rpy_meaning.specs.Classes.{named, with_name, nearest, constants_of, class_at, with_bases, first_attributes}
use Rattle.rpy_meaning.specs.Operations.{constant}
use Rattle.class_desc.specs.Line as line
use Rattle.class_desc.specs.Stores as stores
use Rattle.class_desc.specs.Tables.{Tables, initial_of, with_initial, with_initials, from_classes, initial}
use Rattle.class_desc.specs.declared.classes.Initial.{Initial}
use Rattle.ann_lattice.specs.Assign.{Assignment, Need}
use Rattle.ann_rules.specs.Program.{Whole}
use Rattle.ann_rules.specs.Asks.{from_each}
use Rattle.sound_rows.specs.Seen.{values_of, is_there, AllThere, Sees}
use Rattle.sound_rows.specs.Sound.{AllMet}
use Rattle.sound_rows.proofs.Tools.{yes}
use Rattle.sound_rows.proofs.Containers.{met_append}
use Rattle.sound_rows.proofs.Classes.{same_bases, same_constants}

-- ---- names

pub same_name : (xs ys : List ℕ) → bytes_eq xs ys ≡ true → xs ≡ ys
same_name xs ys e = (bytes_eq-Decides xs ys).0 e

pub name_is : (xs ys : List ℕ) → xs ≡ ys → bytes_eq xs ys ≡ true
name_is xs ys e = (bytes_eq-Decides xs ys).1 e

other_name : (xs ys : List ℕ) → bytes_eq xs ys ≡ false → bytes_eq ys xs ≡ false
other_name xs ys e = by (bytes_eq ys xs) refl
  where
    by : (b : Bool) → bytes_eq ys xs ≡ b → b ≡ false
    by true h = absurd (yes (sym (name_is xs ys (sym (same_name ys xs h))) ∙ e))
    by false h = refl

-- what a name stands for once another is set
module _ {A : Type 0} (name : List ℕ) (a : A) (n : List ℕ) where
  set_by : (x : List ℕ × A) (xs : List (List ℕ × A)) (b : Bool) → bytes_eq x.0 name ≡ b → named n (with_name name a xs) ≡ (if bytes_eq name n then Some a else named n xs)
      → named n (if b then (name, a) ∷ xs else x ∷ with_name name a xs) ≡ (if bytes_eq name n then Some a else (if bytes_eq x.0 n then Some x.1 else named n xs))
  set_by x xs true e h = hidden (bytes_eq name n) (bytes_eq x.0 n) (ap (λ m. bytes_eq m n) (same_name x.0 name e))
    where
      hidden : (c b : Bool) → b ≡ c → (if c then Some a else named n xs) ≡ (if c then Some a else (if b then Some x.1 else named n xs))
      hidden true b i = refl
      hidden false true i = absurd (yes i)
      hidden false false i = refl
  set_by x xs false e h = ap (λ o. if bytes_eq x.0 n then Some x.1 else o) h ∙ turned (bytes_eq x.0 n) (bytes_eq name n) refl refl
    where
      turned : (b c : Bool) → bytes_eq x.0 n ≡ b → bytes_eq name n ≡ c → (if b then Some x.1 else (if c then Some a else named n xs)) ≡ (if c then Some a else (if b then Some x.1 else named n xs))
      turned true true f g = absurd (yes (sym (name_is x.0 name (same_name x.0 n f ∙ sym (same_name name n g))) ∙ e))
      turned true false f g = refl
      turned false true f g = refl
      turned false false f g = refl

  pub named_set : (xs : List (List ℕ × A)) → named n (with_name name a xs) ≡ (if bytes_eq name n then Some a else named n xs)
  named_set [] = refl
  named_set (x ∷ xs) = set_by x xs (bytes_eq x.0 name) refl (named_set xs)

pub named_nearest : (n : List ℕ) (es : List (List ℕ × Value)) → named n (nearest es) ≡ named n es
named_nearest n [] = refl
named_nearest n (e ∷ es) = named_set e.0 e.1 n (nearest es) ∙ ap (λ o. if bytes_eq e.0 n then Some e.1 else o) (named_nearest n es)

-- ---- first attributes

-- a constant with a name, and its value
pub record Valued (sites : List (Option Object)) (n : List ℕ) (constants : List (List ℕ × Const)) (v : Value) : Type 0 where
  pub const : Const
  pub named : line.named n constants ≡ Some const
  pub value : v ≡ constant sites const

pub some_is : {A : Type 0} (x y : A) → Some x ≡ Some y → x ≡ y
some_is x y e = cc

if_is : {A : Type 0} (b c : Bool) (x y : A) → b ≡ c → (if b then x else y) ≡ (if c then x else y)
if_is b c x y e = ap (λ d. if d then x else y) e

pub valued : (sites : List (Option Object)) (n : List ℕ) (constants : List (List ℕ × Const)) (v : Value) → named n (values_of sites constants) ≡ Some v → Valued sites n constants v
valued sites n [] v e = cc
valued sites n (x ∷ xs) v e = by (λ i. valued sites n xs v i) (bytes_eq x.0 n) refl e
  where
    by : (named n (values_of sites xs) ≡ Some v → Valued sites n xs v) → (b : Bool) → bytes_eq x.0 n ≡ b → (if b then Some (constant sites x.1) else named n (values_of sites xs)) ≡ Some v → Valued sites n (x ∷ xs) v
    by go true i e = record { const = x.1; named = if_is (bytes_eq x.0 n) true (Some x.1) (line.named n xs) i; value = sym (some_is (constant sites x.1) v e) }
    by go false i e = let r = go e in record { const = r.const; named = if_is (bytes_eq x.0 n) false (Some x.1) (line.named n xs) i ∙ r.named; value = r.value }

there_named : (sites : List (Option Object)) (n : List ℕ) (xs : List (List ℕ × Const)) (c : Const) → AllThere sites xs → line.named n xs ≡ Some c → is_there sites c ≡ true
there_named sites n [] c h e = cc
there_named sites n (x ∷ xs) c h e = by (there_named sites n xs c h.1) (bytes_eq x.0 n) e
  where
    by : (line.named n xs ≡ Some c → is_there sites c ≡ true) → (b : Bool) → (if b then Some x.1 else line.named n xs) ≡ Some c → is_there sites c ≡ true
    by go true e = subst (λ d. is_there sites d ≡ true) (some_is x.1 c e) h.0
    by go false e = go e

there_append : (sites : List (Option Object)) (xs ys : List (List ℕ × Const)) → AllThere sites xs → AllThere sites ys → AllThere sites (xs ++ ys)
there_append sites [] ys h j = j
there_append sites (x ∷ xs) ys h j = (h.0, there_append sites xs ys h.1 j)

values_append : (sites : List (Option Object)) (xs ys : List (List ℕ × Const)) → values_of sites (xs ++ ys) ≡ values_of sites xs ++ values_of sites ys
values_append sites [] ys = refl
values_append sites (x ∷ xs) ys = ap (λ vs. (x.0, constant sites x.1) ∷ vs) (values_append sites xs ys)

-- ---- which constants a class starts with

abbrev pub Within : {A : Type 0} → A → List A → Type 0
Within x [] = ⊥
Within x (y ∷ ys) = (x ≡ y) ⊎ Within x ys

within_more : {A : Type 0} (x : A) (xs ys : List A) → Within x xs → Within x (xs ++ ys)
within_more x [] ys h = absurd h
within_more x (y ∷ xs) ys (inl e) = inl e
within_more x (y ∷ xs) ys (inr h) = inr (within_more x xs ys h)

within_last : {A : Type 0} (x : A) (xs : List A) → Within x (xs ++ x ∷ [])
within_last x [] = inl refl
within_last x (y ∷ xs) = inr (within_last x xs)

pub met_within : {A : Type 0} (k : List ClassInfo) (a : Assignment) (f : A → List Need) (x : A) (xs : List A) → AllMet k a (from_each f xs) → Within x xs → AllMet k a (f x)
met_within k a f x [] m h = absurd h
met_within k a f x (y ∷ ys) m (inl e) = subst (λ z. AllMet k a (f z)) (sym e) (met_append k a (f y) (from_each f ys) m).0
met_within k a f x (y ∷ ys) m (inr h) = met_within k a f x ys (met_append k a (f y) (from_each f ys) m).1 h

any_append : (n : List ℕ) (xs ys : List (List ℕ)) → list_any (bytes_eq n) (xs ++ ys) ≡ (list_any (bytes_eq n) xs || list_any (bytes_eq n) ys)
any_append n [] ys = refl
any_append n (x ∷ xs) ys = ap (λ b. bytes_eq n x || b) (any_append n xs ys) ∙ or_turned (bytes_eq n x) (list_any (bytes_eq n) xs) (list_any (bytes_eq n) ys)
  where
    or_turned : (a b c : Bool) → (a || (b || c)) ≡ ((a || b) || c)
    or_turned true b c = refl
    or_turned false b c = refl

still_new : (names : List (List ℕ)) (m n : List ℕ) → stores.has names n ≡ false → bytes_eq m n ≡ false → stores.has (stores.with_name names m) n ≡ false
still_new names m n h e = by (list_any (bytes_eq m) names)
  where
    by : (b : Bool) → stores.has (if b then names else names ++ m ∷ []) n ≡ false
    by true = h
    by false = any_append n names (m ∷ []) ∙ ap (λ b. b || list_any (bytes_eq n) (m ∷ [])) h ∙ ap (λ b. b || false) (other_name m n e)

module _ (t : Tables) (c : ℕ) where
  kept : (i : Initial) (cs : List (List ℕ × Const)) (names : List (List ℕ)) (values : List Initial) → Within i values → Within i (with_initials t c cs (record { names = names; values = values })).values
  kept i [] names values h = h
  kept i (x ∷ cs) names values h = by (λ ns vs j. kept i cs ns vs j) (stores.has names x.0)
    where
      by : ((ns : List (List ℕ)) (vs : List Initial) → Within i vs → Within i (with_initials t c cs (record { names = ns; values = vs })).values) → (b : Bool) → Within i (with_initials t c cs (if b then record { names = names; values = values } else record { names = stores.with_name names x.0; values = values ++ initial_of t c x ∷ [] })).values
      by go true = go names values h
      by go false = go (stores.with_name names x.0) (values ++ initial_of t c x ∷ []) (within_more i values (initial_of t c x ∷ []) h)

  initial_in : (n : List ℕ) (const : Const) (cs : List (List ℕ × Const)) (names : List (List ℕ)) (values : List Initial) → stores.has names n ≡ false → line.named n cs ≡ Some const
      → Within (initial_of t c (n, const)) (with_initials t c cs (record { names = names; values = values })).values
  initial_in n const [] names values h e = cc
  initial_in n const (x ∷ cs) names values h e = by (λ ns vs i f. initial_in n const cs ns vs i f) (bytes_eq x.0 n) (stores.has names x.0) refl refl e
    where
      by : ((ns : List (List ℕ)) (vs : List Initial) → stores.has ns n ≡ false → line.named n cs ≡ Some const → Within (initial_of t c (n, const)) (with_initials t c cs (record { names = ns; values = vs })).values) → (b d : Bool) → bytes_eq x.0 n ≡ b → stores.has names x.0 ≡ d → (if b then Some x.1 else line.named n cs) ≡ Some const
          → Within (initial_of t c (n, const)) (with_initials t c cs (if d then record { names = names; values = values } else record { names = stores.with_name names x.0; values = values ++ initial_of t c x ∷ [] })).values
      by go true true f g e = absurd (yes (sym g ∙ (ap (λ m. stores.has names m) (same_name x.0 n f) ∙ h)))
      by go true false f g e =
          let same : initial_of t c x ≡ initial_of t c (n, const) = ap (λ m. initial_of t c (m, x.1)) (same_name x.0 n f) ∙ ap (λ d. initial_of t c (n, d)) (some_is x.1 const e) in
          kept (initial_of t c (n, const)) cs (stores.with_name names x.0) (values ++ initial_of t c x ∷ [])
          (subst (λ i. Within i (values ++ initial_of t c x ∷ [])) same (within_last (initial_of t c x) values))
      by go false true f g e = go names values h e
      by go false false f g e = go (stores.with_name names x.0) (values ++ initial_of t c x ∷ []) (still_new names x.0 n h f) e

  initials_append : (xs ys : List (List ℕ × Const)) (names : List (List ℕ)) (values : List Initial)
      → with_initials t c (xs ++ ys) (record { names = names; values = values }) ≡ with_initials t c ys (with_initials t c xs (record { names = names; values = values }))
  initials_append [] ys names values = refl
  initials_append (x ∷ xs) ys names values =
      initials_append xs ys (with_initial t c x (record { names = names; values = values })).names (with_initial t c x (record { names = names; values = values })).values

  abbrev pub all_constants : List ℕ → List (List ℕ × Const)
  all_constants cs = flat_map (λ d. line.constants_in (slice_get t.classes d)) cs

  starts_flat : (cs : List ℕ) (names : List (List ℕ)) (values : List Initial)
      → from_classes t c cs (record { names = names; values = values }) ≡ with_initials t c (all_constants cs) (record { names = names; values = values })
  starts_flat [] names values = refl
  starts_flat (d ∷ cs) names values =
      let s = with_initials t c (line.constants_in (slice_get t.classes d)) (record { names = names; values = values }) in
      starts_flat cs s.names s.values ∙ sym (initials_append (line.constants_in (slice_get t.classes d)) (all_constants cs) names values)

  pub initial_there : (n : List ℕ) (const : Const) → line.named n (all_constants (line.above t.classes c)) ≡ Some const → Within (initial_of t c (n, const)) (initial t c)
  initial_there n const e =
      let flat = starts_flat (line.above t.classes c) [] [] in
      subst (λ s. Within (initial_of t c (n, const)) s.values) (sym flat) (initial_in n const (all_constants (line.above t.classes c)) [] [] refl e)

module _ (p : Whole) (q : Program) (sees : Sees p q) (c : ℕ) where
  seen_constants : (cs : List ℕ) → flat_map (λ d. constants_of (class_at q.classes d)) cs ≡ values_of q.sites (all_constants p.tables c cs)
  seen_constants [] = refl
  seen_constants (d ∷ cs) =
      ap (λ vs. vs ++ flat_map (λ d. constants_of (class_at q.classes d)) cs) (same_constants p q sees d)
      ∙ ap (λ vs. values_of q.sites (line.constants_in (slice_get p.tables.classes d)) ++ vs) (seen_constants cs)
      ∙ sym (values_append q.sites (line.constants_in (slice_get p.tables.classes d)) (all_constants p.tables c cs))

  all_there : (cs : List ℕ) → AllThere q.sites (all_constants p.tables c cs)
  all_there [] = tt
  all_there (d ∷ cs) = there_append q.sites (line.constants_in (slice_get p.tables.classes d)) (all_constants p.tables c cs) (sees.constants d) (all_there cs)

  -- what a new instance has by a name is a constant that its class starts with
  pub record Starting (n : List ℕ) (v : Value) : Type 0 where
    pub const : Const
    pub within : Within (initial_of p.tables c (n, const)) (initial p.tables c)
    pub there : is_there q.sites const ≡ true
    pub value : v ≡ constant q.sites const

  pub starting : (n : List ℕ) (v : Value) → named n (first_attributes q.classes c) ≡ Some v → Starting n v
  starting n v e =
      let flat : named n (values_of q.sites (all_constants p.tables c (line.above p.tables.classes c))) ≡ Some v =
      sym (ap (λ es. named n es) (ap (λ cs. flat_map (λ d. constants_of (class_at q.classes d)) cs) (same_bases p q sees c) ∙ seen_constants (line.above p.tables.classes c)))
      ∙ sym (named_nearest n (flat_map (λ d. constants_of (class_at q.classes d)) (with_bases q.classes c))) ∙ e in
      let r = valued q.sites n (all_constants p.tables c (line.above p.tables.classes c)) v flat in
      record {
        const = r.const;
        within = initial_there p.tables c n r.const r.named;
        there = there_named q.sites n (all_constants p.tables c (line.above p.tables.classes c)) r.const (all_there (line.above p.tables.classes c)) r.named;
        value = r.value;
      }
