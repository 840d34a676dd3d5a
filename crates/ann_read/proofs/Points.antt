-- The point before a block: it is reached with the elements of the block's inputs, where these are above what is held.
use Rattle.std.proofs.Common.{◌≡◌, ◌+◌, ◌-◌, ◌<◌, ◌≤◌, ℕ, zero, suc, Bool, true, false, length, refl, sym, ap, ◌∙◌, arith, subst}
use Rattle.std.specs.Prelude.{◌&&◌, ◌==◌}
use Rattle.std.proofs.lemmas.Bool.{eqb-true, eqb-false}
use Rattle.ann_lattice.specs.Shape.{Shape as Element}
use Rattle.ann_lattice.specs.Order.{is_below}
use Rattle.ann_lattice.specs.Assign.{mark}
use Rattle.ann_lattice.proofs.Ordered.{and_left, and_right}
use Rattle.ann_lattice.proofs.Tested.{is_tested}
use Rattle.ann_tree.specs.Annotation.{Environment, Point, Never, With, elements_with, At, Leads}
use Rattle.ann_read.proofs.Places.{with_cases, with_at, with_before}
use Rattle.ann_read.proofs.Links.{Known, k, u, Fits, Onward, passes_on, self, in_at, formed_at, inputs, front, Enters, Wide}

abbrev pub Agree : ℕ → (ℕ → Element) → (ℕ → Element) → Type 0
Agree m g h = (j : ℕ) → j < m → g j ≡ h j

pub agree_with : (m : ℕ) (g h : ℕ → Element) (y : Element) → Agree m g h → Agree (m + 1) (elements_with g m y) (elements_with h m y)
agree_with m g h y a j lt =
    with_cases (λ x. x ≡ elements_with h m y j) g m y j
    (λ is. sym (ap (λ (i : ℕ). elements_with h m y i) is ∙ with_at h m y))
    (λ other. let l : j < m = omega (arith, lt, other) in a j l ∙ sym (with_before h m y j l))

pub agree_before : (m keep : ℕ) (h : ℕ → Element) (y : Element) → keep ≤ m → Agree keep (elements_with h m y) h
agree_before m keep h y le j lt = with_before h m y j (omega (arith, lt, le))

pub agree_on : (m keep : ℕ) (g h l : ℕ → Element) → keep ≤ m → Agree m g h → Agree keep h l → Agree keep g l
agree_on m keep g h l le a b j lt = a j (omega (arith, lt, le)) ∙ b j lt

pub agree_self : (m : ℕ) (h : ℕ → Element) → Agree m h h
agree_self m h j lt = refl

abbrev pub point_if : Bool → Environment → Point
point_if true e = With e
point_if false e = Never

pub at_point_if : (t : Bool) (e : Environment) (holds : Environment → Type 0) → (t ≡ true → holds e) → At (point_if t e) holds
at_point_if true e holds f = f refl
at_point_if false e holds f = tt

pub both : (a b : Bool) → a ≡ true → b ≡ true → (a && b) ≡ true
both a b e d = ap (λ x. x && b) e ∙ d

module _ (c : Known) where
  pub enters_less : (b m keep : ℕ) (e : Environment) (g h : ℕ → Element) → keep ≤ m → Agree keep g h → Enters c b m e g → Enters c b keep e h
  enters_less b m keep e g h le a enters = record {
    reached = enters.reached;
    locals = enters.locals;
    held = λ j ge lt lu. subst (λ x. Fits c x (in_at c b j)) (a j lt) (enters.held j ge (omega (arith, lt, le)) lu);
  }

  abbrev pub LeadsTo : Environment → Point → Type 0
  LeadsTo e q = Leads (k c) (u c) c.n e q

  -- ---- whether the inputs are above what is held

  abbrev under : ℕ → (ℕ → Element) → ℕ → ℕ → Bool
  under b h j zero = true
  under b h j (suc count) = is_below (k c) (u c) (h j) (in_at c b j) && under b h (suc j) count

  under_from : (b : ℕ) (h : ℕ → Element) (j count : ℕ) → ((i : ℕ) → j ≤ i → i < j + count → Fits c (h i) (in_at c b i)) → under b h j count ≡ true
  under_from b h j zero f = refl
  under_from b h j (suc count) f =
      both (is_below (k c) (u c) (h j) (in_at c b j)) (under b h (suc j) count)
      ((is_tested (k c) (u c)).no (h j) (in_at c b j) (f j (omega arith) (omega arith)))
      (under_from b h (suc j) count (λ i ge lt. f i (omega (arith, ge)) (omega (arith, lt))))

  under_at : (b : ℕ) (h : ℕ → Element) (j count : ℕ) → under b h j count ≡ true → (i : ℕ) → j ≤ i → i < j + count → Fits c (h i) (in_at c b i)
  under_at b h j zero t i ge lt = absurd (omega (arith, ge, lt))
  under_at b h j (suc count) t i ge lt =
      by_place (λ l. under_at b h (suc j) count (and_right (is_below (k c) (u c) (h j) (in_at c b j)) (under b h (suc j) count) t) i l (omega (arith, lt))) (j == i) refl
    where
      by_place : (suc j ≤ i → Fits c (h i) (in_at c b i)) → (r : Bool) → (j == i) ≡ r → Fits c (h i) (in_at c b i)
      by_place later true e =
          subst (λ q. Fits c (h q) (in_at c b q)) (eqb-true j i e)
          ((is_tested (k c) (u c)).yes (h j) (in_at c b j) (and_left (is_below (k c) (u c) (h j) (in_at c b j)) (under b h (suc j) count) t))
      by_place later false e = let ne = eqb-false j i e in later (omega (arith, ge, ne))

  -- ---- the point

  abbrev reaches : ℕ → (ℕ → Element) → ℕ → Bool
  reaches b h m = mark c.w (c.p.places.block c.f b) && under b h c.n (m - c.n)

  abbrev pub point : ℕ → (ℕ → Element) → ℕ → Point
  point b h m = point_if (reaches b h m) (front c b)

  reached : (b m : ℕ) (h : ℕ → Element) → reaches b h m ≡ true → Enters c b m (front c b) h
  reached b m h t = record {
    reached = λ lt. and_left (mark c.w (c.p.places.block c.f b)) (under b h c.n (m - c.n)) t;
    locals = λ i lt lu. (self c (in_at c b i), λ s. s);
    held = λ j ge lt lu. under_at b h c.n (m - c.n) (and_right (mark c.w (c.p.places.block c.f b)) (under b h c.n (m - c.n)) t) j ge (omega (arith, ge, lt));
  }

  -- what holds where the block is entered holds at its point
  pub at_point : (b m : ℕ) (h : ℕ → Element) (holds : Environment → Type 0) → (Enters c b m (front c b) h → holds (front c b)) → At (point b h m) holds
  at_point b m h holds f = at_point_if (reaches b h m) (front c b) holds (λ t. f (reached b m h t))

  -- a way to the block leads to its point
  pub to_point : (b m long : ℕ) (e : Environment) (h : ℕ → Element) → Wide c b long → m ≤ long → c.n ≤ m → Enters c b m e h → LeadsTo e (point b h m)
  to_point b m long e h wide le lu enters =
      let l : length (inputs c b) ≡ long = wide.long in
      let t : reaches b h m ≡ true =
      both (mark c.w (c.p.places.block c.f b)) (under b h c.n (m - c.n)) (enters.reached wide.there)
      (under_from b h c.n (m - c.n) (λ i ge lt. enters.held i ge (omega (arith, ge, lt, lu)) (omega (arith, ge, lt, lu, le, l)))) in
      subst (λ r. LeadsTo e (point_if r (front c b))) (sym t) (λ i lt. let h = enters.locals i lt (omega (arith, lt, lu, le, l)) in (passes_on c (e.element i) (in_at c b i) (formed_at c b i) h.0, h.1))

  -- and with one variable more, the input there
  pub with_input : (b m : ℕ) (e : Environment) (h : ℕ → Element) → Enters c b m e h → Enters c b (m + 1) e (elements_with h m (in_at c b m))
  with_input b m e h enters = record {
    reached = enters.reached;
    locals = enters.locals;
    held = λ j ge lt lu.
        with_cases (λ x. Fits c x (in_at c b j)) h m (in_at c b m) j
        (λ is. subst (λ i. Fits c (in_at c b m) (in_at c b i)) (sym is) (self c (in_at c b m)))
        (λ other. enters.held j ge (omega (arith, lt, other)) lu);
  }

  -- ---- where parts lead to

  -- each way to the block leads to the point
  abbrev pub Towards : ℕ → ℕ → (ℕ → Element) → Point → Type 0
  Towards q m h s = (g : Environment) → Enters c q m g h → LeadsTo g s

  -- and with a value, which is below the element
  abbrev pub Onto : ℕ → ℕ → (ℕ → Element) → Element → Point → Type 0
  Onto q m h x s = (g : Environment) (y : Element) → Enters c q (m + 1) g (elements_with h m y) → Onward c y x × LeadsTo g s

  pub towards_point : (q m long : ℕ) (h : ℕ → Element) → Wide c q long → m ≤ long → c.n ≤ m → Towards q m h (point q h m)
  towards_point q m long h wide le lu g enters = to_point q m long g h wide le lu enters

  pub onto_point : (q m : ℕ) (h : ℕ → Element) → Wide c q (m + 1) → c.n ≤ m → Onto q m h (in_at c q m) (point q h m)
  onto_point q m h wide le g y enters =
      let l : length (inputs c q) ≡ m + 1 = wide.long in (
        passes_on c y (in_at c q m) (formed_at c q m) (subst (λ x. Fits c x (in_at c q m)) (with_at h m y) (enters.held m le (omega arith) (omega (arith, l)))),
        to_point q m (m + 1) g h wide (omega arith) le (enters_less q (m + 1) m g (elements_with h m y) h (omega arith) (agree_before m m h y (omega arith)) enters),
      )
