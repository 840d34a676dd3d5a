-- Classes and what is above them.
use Rattle.std.proofs.Common.{◌≡◌, ◌⊎◌, inl, inr, ◌<◌, ◌≤◌, ℕ, zero, suc, Bool, true, false, List, [], ◌∷◌, length, Option, Some, None, refl, sym, ap, ◌∙◌, subst, arith}
use Rattle.std.specs.Prelude.{slice_get}
use Rattle.rpy_tree.specs.declared.program.ClassInfo.{ClassInfo}
use Rattle.class_desc.specs.Line.{base, base_in, onward, line, above, is_below, higher, topmost}
use Rattle.class_desc.specs.Range.{ends, IsForest}
use Rattle.class_desc.specs.Tables.{Tables, declares, home}
use Rattle.class_desc.proofs.Intervals.{Among}
use Rattle.rtyper_layout.specs.Families.{top_step, top_within, top_of}
use Rattle.layout_laws.proofs.Places.{same_some, no_some, not_true, any_among, among_any, get_within}

-- the second class is the first or below it
pub data Under (classes : List ClassInfo) (d : ℕ) : ℕ → Type 0 where
  Here : (c : ℕ) → c ≡ d → Under classes d c
  Up : (c b : ℕ) → base classes c ≡ Some b → Under classes d b → Under classes d c

-- ---- the last of a list that passes

module _ (passes : ℕ → Bool) where
  found_so : (b : Bool) (x h : ℕ) (found : Option ℕ) (xs : List ℕ) → higher b x found ≡ Some h → (found ≡ Some h) ⊎ Among h (x ∷ xs)
  found_so true x h found xs e = inr (inl (same_some e))
  found_so false x h found xs e = inl e

  pub found_among : (xs : List ℕ) (found : Option ℕ) (h : ℕ) → topmost passes found xs ≡ Some h → (found ≡ Some h) ⊎ Among h xs
  found_among [] found h e = inl e
  found_among (x ∷ xs) found h e = by (found_among xs (higher (passes x) x found) h e)
    where
      by : (higher (passes x) x found ≡ Some h) ⊎ Among h xs → (found ≡ Some h) ⊎ Among h (x ∷ xs)
      by (inl s) = found_so (passes x) x h found xs s
      by (inr there) = inr (inr there)

  -- what was found before the list is given up where the list has one
  pub found_last : (xs : List ℕ) (found : Option ℕ) (h : ℕ) → topmost passes None xs ≡ Some h → topmost passes found xs ≡ Some h
  found_last [] found h e = absurd (no_some e)
  found_last (x ∷ xs) found h e = by (λ s. found_last xs found h s) (passes x) e
    where
      by : (topmost passes None xs ≡ Some h → topmost passes found xs ≡ Some h) → (b : Bool) → topmost passes (higher b x None) xs ≡ Some h → topmost passes (higher b x found) xs ≡ Some h
      by go true s = s
      by go false s = go s

-- ---- lines

module _ (classes : List ClassInfo) where
  on_from : (k c d : ℕ) (b : Option ℕ) → base classes c ≡ b → ((a : ℕ) → Among d (line classes k a) → Under classes d a) → Among d (onward (line classes k) b) → Under classes d c
  on_from k c d None e go there = absurd there
  on_from k c d (Some b) e go there = Up c b e (go b there)

  pub line_under : (k c d : ℕ) → Among d (line classes k c) → Under classes d c
  line_under zero c d there = absurd there
  line_under (suc k) c d (inl e) = Here c e
  line_under (suc k) c d (inr there) = on_from k c d (base classes c) refl (λ a h. line_under k a d h) there

  pub is_under : (c d : ℕ) → is_below classes c d ≡ true → Under classes d c
  is_under c d h = line_under (length classes) c d (among_any d (above classes c) h)

  pub based_within : (c b : ℕ) → base classes c ≡ Some b → c < length classes
  based_within c b h = by (slice_get classes c) refl h
    where
      by : (o : Option ClassInfo) → slice_get classes c ≡ o → base_in o ≡ Some b → c < length classes
      by None e h = absurd (no_some h)
      by (Some info) e h = get_within classes c info e

module _ (classes : List ClassInfo) (tree : IsForest classes) where
  longer : (k m : ℕ) (b : Option ℕ) → ends classes k b ≡ true → k ≤ m → onward (line classes k) b ≡ onward (line classes m) b
  longer k m None e le = refl
  longer zero m (Some c) e le = absurd (not_true e)
  longer (suc k) zero (Some c) e le = absurd (omega (arith, le))
  longer (suc k) (suc m) (Some c) e le = ap (λ cs. c ∷ cs) (longer k m (base classes c) e (omega (arith, le)))

  next_of : (n c : ℕ) → ends classes n (Some c) ≡ true → line classes n c ≡ c ∷ onward (line classes n) (base classes c)
  next_of zero c e = absurd (not_true e)
  next_of (suc n) c e = ap (λ cs. c ∷ cs) (longer n (suc n) (base classes c) e (omega arith))

  pub above_next : (c : ℕ) → c < length classes → above classes c ≡ c ∷ onward (above classes) (base classes c)
  above_next c lt = next_of (length classes) c (tree.ending c lt)

  pub above_base : (c b : ℕ) → base classes c ≡ Some b → above classes c ≡ c ∷ above classes b
  above_base c b h = above_next c (based_within classes c b h) ∙ ap (λ o. c ∷ onward (above classes) o) h

  pub among_above : (d c : ℕ) → c < length classes → Under classes d c → Among d (above classes c)
  among_above d _ lt (Here c e) = subst (Among d) (sym (above_next c lt)) (inl e)
  among_above d _ lt (Up c b h u) = subst (Among d) (sym (above_base c b h)) (inr (among_above d b (tree.bases c b h) u))

  pub below_of : (d c : ℕ) → c < length classes → Under classes d c → is_below classes c d ≡ true
  below_of d c lt u = any_among d (above classes c) (among_above d c lt u)

  pub under_within : (d c : ℕ) → c < length classes → Under classes d c → d < length classes
  under_within d _ lt (Here c e) = subst (λ x. x < length classes) e lt
  under_within d _ lt (Up c b h u) = under_within d b (tree.bases c b h) u

  -- ---- no class is above itself

  abbrev depth : ℕ → ℕ
  depth c = length (above classes c)

  deeper : (c b : ℕ) → base classes c ≡ Some b → depth c ≡ suc (depth b)
  deeper c b h = ap length (above_base c b h)

  under_depth : (d c : ℕ) → Under classes d c → depth d ≤ depth c
  under_depth d _ (Here c e) = (let same : depth c ≡ depth d = ap depth e in omega (arith, same))
  under_depth d _ (Up c b h u) = omega (arith, deeper c b h, under_depth d b u)

  pub no_cycle : (c b : ℕ) → base classes c ≡ Some b → Under classes c b → ⊥
  no_cycle c b h u = omega (arith, deeper c b h, under_depth c b u)

  pub one_of_both : (d c : ℕ) → Under classes d c → Under classes c d → c ≡ d
  one_of_both d _ (Here c e) v = e
  one_of_both d _ (Up c b h u) v = absurd (omega (arith, deeper c b h, under_depth d b u, under_depth c d v))

  -- two classes above one are above one another
  pub comparable : (h k c : ℕ) → Under classes h c → Under classes k c → Under classes h k ⊎ Under classes k h
  comparable h k _ (Here c e) v = inr (subst (Under classes k) e v)
  comparable h k _ (Up c b p u) (Here _ e) = inl (subst (Under classes h) e (Up c b p u))
  comparable h k _ (Up c b p u) (Up _ d q v) = comparable h k b u (subst (Under classes k) (same_some (sym q ∙ p)) v)

  -- ---- the topmost class

  top_longer : (k m c : ℕ) → ends classes k (Some c) ≡ true → k ≤ m → top_within classes k c ≡ top_within classes m c
  top_longer zero m c e le = absurd (not_true e)
  top_longer (suc k) zero c e le = absurd (omega (arith, le))
  top_longer (suc k) (suc m) c e le = by (λ b s. top_longer k m b s (omega (arith, le))) (base classes c) e
    where
      by : ((b : ℕ) → ends classes k (Some b) ≡ true → top_within classes k b ≡ top_within classes m b) → (o : Option ℕ) → ends classes k o ≡ true → top_step (top_within classes k) c o ≡ top_step (top_within classes m) c o
      by go None s = refl
      by go (Some b) s = go b s

  top_next : (n c b : ℕ) → base classes c ≡ Some b → ends classes n (Some c) ≡ true → top_within classes n c ≡ top_within classes n b
  top_next zero c b h e = absurd (not_true e)
  top_next (suc n) c b h e = ap (top_step (top_within classes n) c) h ∙ top_longer n (suc n) b (sym (ap (ends classes n) h) ∙ e) (omega arith)

  pub same_top : (c b : ℕ) → base classes c ≡ Some b → top_of classes c ≡ top_of classes b
  same_top c b h = top_next (length classes) c b h (tree.ending c (based_within classes c b h))

  pub record Topped (c : ℕ) : Type 0 where
    pub top : ℕ
    pub under : Under classes top c
    pub none : base classes top ≡ None

  top_from : (k c : ℕ) → ends classes k (Some c) ≡ true → Topped c
  top_from zero c e = absurd (not_true e)
  top_from (suc k) c e = by (λ b s. top_from k b s) (base classes c) refl e
    where
      by : ((b : ℕ) → ends classes k (Some b) ≡ true → Topped b) → (o : Option ℕ) → base classes c ≡ o → ends classes k o ≡ true → Topped c
      by go None h s = record { top = c; under = Here c refl; none = h }
      by go (Some b) h s = (let up = go b s in record { top = up.top; under = Up c b h up.under; none = up.none })

  pub topped : (c : ℕ) → c < length classes → Topped c
  topped c lt = top_from (length classes) c (tree.ending c lt)

-- ---- where attributes are declared

module _ (t : Tables) (tree : IsForest t.classes) where
  pub home_under : (c h : ℕ) (name : List ℕ) → home t c name ≡ Some h → Under t.classes h c
  home_under c h name e = by (found_among (declares t.attributes name) (above t.classes c) None h e)
    where
      by : (None ≡ Some h) ⊎ Among h (above t.classes c) → Under t.classes h c
      by (inl none) = absurd (no_some none)
      by (inr there) = line_under t.classes (length t.classes) c h there

  home_up : (c b h : ℕ) (name : List ℕ) → base t.classes c ≡ Some b → home t b name ≡ Some h → home t c name ≡ Some h
  home_up c b h name is e =
      ap (topmost (declares t.attributes name) None) (above_base t.classes tree c b is)
      ∙ found_last (declares t.attributes name) (above t.classes b) (higher (declares t.attributes name c) c None) h e

  -- a class has the attributes of what is above it
  pub home_below : (d c h : ℕ) (name : List ℕ) → Under t.classes d c → home t d name ≡ Some h → home t c name ≡ Some h
  home_below d _ h name (Here c is) e = subst (λ x. home t x name ≡ Some h) (sym is) e
  home_below d _ h name (Up c b is u) e = home_up c b h name is (home_below d b h name u e)
