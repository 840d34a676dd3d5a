-- Classes: above and below, and the nearest common base.
use Rattle.std.proofs.Common.{◌≡◌, ℕ, zero, suc, ◌<◌, ◌≤◌, Bool, true, false, List, [], ◌∷◌, Option, Some, None, length, refl, sym, ap, ◌∙◌, arith, ◌⊎◌, ⊎_elim, inl, inr}
use Rattle.std.specs.Prelude.{◌==◌, ◌||◌, if◌then◌else◌, find, nat_lt}
use Rattle.std.proofs.lemmas.Bool.{eqb-true, eq-eqb, ltb-true, ltb-false}
use Rattle.std.proofs.lemmas.Option.{slice_get_past}
use Rattle.rpy_tree.specs.declared.program.ClassInfo.{ClassInfo}
use Rattle.class_desc.specs.Line.{base_in, base, onward, line, above, is_below, common_base}
use Rattle.class_desc.specs.Range.{ends}
use Rattle.ann_lattice.specs.Order.{Sub, has}
use Rattle.ann_lattice.specs.Laws.{IsTree}

no : false ≡ true → ⊥
no e = cc

or_right : (a b : Bool) → b ≡ true → (a || b) ≡ true
or_right true b e = refl
or_right false b e = e

abbrev pub after : List ℕ → ℕ → List ℕ
after [] d = []
after (m ∷ ms) d = if m == d then m ∷ ms else after ms d

-- what is among the rest is among the whole
after_one : (b : Bool) (m : ℕ) (ms r : List ℕ) (e : ℕ) → (has r e ≡ true → has ms e ≡ true) → has (if b then m ∷ ms else r) e ≡ true → (m == e || has ms e) ≡ true
after_one true m ms r e h i = i
after_one false m ms r e h i = or_right (m == e) (has ms e) (h i)

has_after : (l : List ℕ) (d e : ℕ) → has (after l d) e ≡ true → has l e ≡ true
has_after [] d e i = i
has_after (m ∷ ms) d e i = after_one (m == d) m ms (after ms d) e (has_after ms d e) i

after_le_one : (b : Bool) (m : ℕ) (ms r : List ℕ) → length r ≤ length ms → length (if b then m ∷ ms else r) ≤ suc (length ms)
after_le_one true m ms r h = omega arith
after_le_one false m ms r h = omega (arith, h)

after_le : (l : List ℕ) (d : ℕ) → length (after l d) ≤ length l
after_le [] d = omega arith
after_le (m ∷ ms) d = after_le_one (m == d) m ms (after ms d) (after_le ms d)

-- the first of a line that passes: whatever else is in the line and passes stands after it
record Found (l : List ℕ) (passes : ℕ → Bool) (e : ℕ) : Type 0 where
  at : ℕ
  is : find passes l ≡ Some at
  later : has (after l at) e ≡ true

after_more : (b : Bool) (m : ℕ) (ms r : List ℕ) (e : ℕ) → has ms e ≡ true → has r e ≡ true → has (if b then m ∷ ms else r) e ≡ true
after_more true m ms r e h i = or_right (m == e) (has ms e) h
after_more false m ms r e h i = i

found_one : (b c : Bool) (x : ℕ) (ms : List ℕ) (passes : ℕ → Bool) (e : ℕ) → passes x ≡ b → (x == e) ≡ c → (c || has ms e) ≡ true → passes e ≡ true
    → (has ms e ≡ true → Found ms passes e) → Found (x ∷ ms) passes e
found_one true c x ms passes e f g h j rec =
    record {
      at = x;
      is = ap (λ y. if y then Some x else find passes ms) f;
      later = ap (λ y. has (if y then x ∷ ms else after ms x) e) (eq-eqb x x refl) ∙ ap (λ y. y || has ms e) g ∙ h;
    }
found_one false true x ms passes e f g h j rec =
    let q : x ≡ e = eqb-true x e g in
    absurd (no (sym f ∙ ap passes q ∙ j))
found_one false false x ms passes e f g h j rec =
    let o = rec h in
    record {
      at = o.at;
      is = ap (λ y. if y then Some x else find passes ms) f ∙ o.is;
      later = after_more (x == o.at) x ms (after ms o.at) e h o.later;
    }

find_in : (l : List ℕ) (passes : ℕ → Bool) (e : ℕ) → has l e ≡ true → passes e ≡ true → Found l passes e
find_in [] passes e h j = absurd (no h)
find_in (x ∷ ms) passes e h j = found_one (passes x) (x == e) x ms passes e refl refl h j (λ i. find_in ms passes e i j)

first_in_one : (b : Bool) (x : ℕ) (ms : List ℕ) (passes : ℕ → Bool) (m : ℕ) → passes x ≡ b → (if b then Some x else find passes ms) ≡ Some m
    → (find passes ms ≡ Some m → (has ms m ≡ true) × (passes m ≡ true)) → ((x == m || has ms m) ≡ true) × (passes m ≡ true)
first_in_one true x ms passes m g f rec =
    let i : x ≡ m = cc in
    (ap (λ y. y || has ms m) (eq-eqb x m i), sym (ap passes i) ∙ g)
first_in_one false x ms passes m g f rec = let o = rec f in (or_right (x == m) (has ms m) o.0, o.1)

first_in : (l : List ℕ) (passes : ℕ → Bool) (m : ℕ) → find passes l ≡ Some m → (has l m ≡ true) × (passes m ≡ true)
first_in [] passes m e = absurd (cc)
first_in (x ∷ ms) passes m e = first_in_one (passes x) x ms passes m refl e (λ (g : find passes ms ≡ Some m). first_in ms passes m g)

pub record Nearest (classes : List ClassInfo) (c d e : ℕ) : Type 0 where
  pub at : ℕ
  pub is : common_base classes c d ≡ Some at
  pub under : Sub classes at e

pub common_above : (classes : List ClassInfo) (c d m : ℕ) → common_base classes c d ≡ Some m → Sub classes c m × Sub classes d m
common_above classes c d m e = first_in (above classes c) (λ b. is_below classes d b) m e

depth_one : (b : Bool) (c d : ℕ) (ms u : List ℕ) → (c == d) ≡ b → (if b then c ∷ ms else after ms d) ≡ u → (c ≡ d) ⊎ (length u < suc (length ms))
depth_one true c d ms u e h = inl (eqb-true c d e)
depth_one false c d ms u e h = inr (omega (arith, ap length h, after_le ms d))

-- ---- lines of bases

module _ (classes : List ClassInfo) where
  same_onward : (j n : ℕ) (b : Option ℕ) → ends classes j b ≡ true → j ≤ n → ((c : ℕ) → ends classes j (Some c) ≡ true → line classes n c ≡ line classes j c)
      → onward (line classes n) b ≡ onward (line classes j) b
  same_onward j n None e le rec = refl
  same_onward j n (Some c) e le rec = rec c e

  same_line : (j n c : ℕ) → ends classes j (Some c) ≡ true → j ≤ n → line classes n c ≡ line classes j c
  same_line zero n c e le = absurd (no e)
  same_line (suc j) zero c e le = absurd (omega (arith, le))
  same_line (suc j) (suc n) c e le = ap (λ l. c ∷ l) (same_onward j n (base classes c) e (omega (arith, le)) (λ b f. same_line j n b f (omega (arith, le))))

  record From (m : ℕ) (l : List ℕ) (d : ℕ) : Type 0 where
    count : ℕ
    is : after l d ≡ line classes count d
    ending : ends classes count (Some d) ≡ true
    fewer : count ≤ m

  from_onward : (k d : ℕ) (b : Option ℕ) → ends classes k b ≡ true → has (onward (line classes k) b) d ≡ true
      → ((c : ℕ) → ends classes k (Some c) ≡ true → has (line classes k c) d ≡ true → From k (line classes k c) d) → From k (onward (line classes k) b) d
  from_onward k d None e h rec = absurd (no h)
  from_onward k d (Some c) e h rec = rec c e h

  from_one : (b : Bool) (k c d : ℕ) (ms : List ℕ) → (c == d) ≡ b → c ∷ ms ≡ line classes (suc k) c → ends classes (suc k) (Some c) ≡ true → (b || has ms d) ≡ true
      → (has ms d ≡ true → From k ms d) → From (suc k) (c ∷ ms) d
  from_one true k c d ms e is stop h rec =
      let q : c ≡ d = eqb-true c d e in
      record {
        count = suc k;
        is = ap (λ y. if y then c ∷ ms else after ms d) e ∙ is ∙ ap (line classes (suc k)) q;
        ending = ap (λ x. ends classes (suc k) (Some x)) (sym q) ∙ stop;
        fewer = omega arith;
      }
  from_one false k c d ms e is stop h rec =
      let r = rec h in
      record {
        count = r.count;
        is = ap (λ y. if y then c ∷ ms else after ms d) e ∙ r.is;
        ending = r.ending;
        fewer = omega (arith, r.fewer);
      }

  from_line : (m c d : ℕ) → ends classes m (Some c) ≡ true → has (line classes m c) d ≡ true → From m (line classes m c) d
  from_line zero c d e h = absurd (no e)
  from_line (suc k) c d e h =
      from_one (c == d) k c d (onward (line classes k) (base classes c)) refl refl e h
      (λ i. from_onward k d (base classes c) e i (λ b f j. from_line k b d f j))

  module _ (tree : IsTree classes) where
    no_base : (k c : ℕ) (b : Option ℕ) → b ≡ None → ends classes k b ≡ true
    no_base k c None e = refl
    no_base k c (Some b) e = absurd (cc)

    ends_past : (n c : ℕ) → 0 < n → length classes ≤ c → ends classes n (Some c) ≡ true
    ends_past zero c lt le = absurd (omega (arith, lt))
    ends_past (suc k) c lt le = no_base k c (base classes c) (ap base_in (slice_get_past classes c le))

    ends_by : (b : Bool) (c : ℕ) → nat_lt c (length classes) ≡ b → ends classes (length classes) (Some c) ≡ true
    ends_by true c e = tree.forest.ending c (ltb-true c (length classes) e)
    ends_by false c e = ends_past (length classes) c tree.some (ltb-false c (length classes) e)

    all_end : (c : ℕ) → ends classes (length classes) (Some c) ≡ true
    all_end c = ends_by (nat_lt c (length classes)) c refl

    -- from a base on, the bases are the base's own
    pub after_base : (c d : ℕ) → Sub classes c d → after (above classes c) d ≡ above classes d
    after_base c d h =
        let r = from_line (length classes) c d (all_end c) h in
        r.is ∙ sym (same_line r.count (length classes) d r.ending r.fewer)

    first_of : (n c : ℕ) → 0 < n → has (line classes n c) c ≡ true
    first_of zero c lt = absurd (omega (arith, lt))
    first_of (suc k) c lt = ap (λ x. x || has (onward (line classes k) (base classes c)) c) (eq-eqb c c refl)

    pub sub_self : (c : ℕ) → Sub classes c c
    sub_self c = first_of (length classes) c tree.some

    pub sub_on : (c d e : ℕ) → Sub classes c d → Sub classes d e → Sub classes c e
    sub_on c d e h j = has_after (above classes c) d e (ap (λ l. has l e) (after_base c d h) ∙ j)

    pub common_least : (c d e : ℕ) → Sub classes c e → Sub classes d e → Nearest classes c d e
    common_least c d e h j =
        let f = find_in (above classes c) (λ b. is_below classes d b) e h j in
        let a = common_above classes c d f.at f.is in
        record { at = f.at; is = f.is; under = sym (ap (λ l. has l e) (after_base c f.at a.0)) ∙ f.later }

    depth_of : (n c d : ℕ) (u : List ℕ) → 0 < n → after (line classes n c) d ≡ u → (c ≡ d) ⊎ (length u < length (line classes n c))
    depth_of zero c d u lt e = absurd (omega (arith, lt))
    depth_of (suc k) c d u lt e = depth_one (c == d) c d (onward (line classes k) (base classes c)) u refl e

    -- a base has fewer bases
    pub depth_less : (c d : ℕ) → Sub classes c d → (c ≡ d) ⊎ (length (above classes d) < length (above classes c))
    depth_less c d h = depth_of (length classes) c d (above classes d) tree.some (after_base c d h)

    pub sub_both : (c d : ℕ) → Sub classes c d → Sub classes d c → c ≡ d
    sub_both c d h j =
        ⊎_elim
        (λ (e : c ≡ d). e)
        (λ (l : length (above classes d) < length (above classes c)). ⊎_elim
        (λ (e : d ≡ c). sym e)
        (λ (m : length (above classes c) < length (above classes d)). absurd (omega (arith, l, m)))
        (depth_less d c j))
        (depth_less c d h)
