-- What is held, one element after the other, and the blocks that do nothing but go on.
use Rattle.std.proofs.Common.{◌≡◌, ◌+◌, ◌<◌, ◌≤◌, ℕ, zero, suc, Bool, true, false, List, [], ◌∷◌, length, get_or, Option, Some, None, refl, ap, ◌∙◌, arith, subst}
use Rattle.rpy_meaning.specs.declared.row.RowOp.{RowOp}
use Rattle.flow_stands.specs.Places.{range, first_and, hand_jumps, Scope, Jump, Shape, Go, Fork, Does, link, numbered}
use Rattle.flow_trees.specs.Marks as marks
use Rattle.ann_lattice.specs.Shape.{Shape as Element, Nothing, Truth}
use Rattle.ann_lattice.specs.Order.{LessKnown, least, truth}
use Rattle.ann_rules.specs.Asks.{when}
use Rattle.ann_rules.specs.Rules as rule
use Rattle.ann_rules.specs.Hold.{AllHold}
use Rattle.ann_rules.proofs.Facts.{hold_left, hold_right}
use Rattle.ann_tree.specs.Annotation.{Environment, elements_with}
use Rattle.ann_read.proofs.Places.{with_at, with_before}
use Rattle.ann_read.proofs.Links.{Known, k, Fits, var, Enters, Inside, inside, Wide, wide, Linked, stands, needs_of}
use Rattle.ann_read.proofs.Points.{Agree}
use Rattle.ann_read.proofs.Acts.{Given, no}

-- from the place on
abbrev pub extend : (ℕ → Element) → ℕ → List Element → ℕ → Element
extend h m [] = h
extend h m (x ∷ xs) = extend (elements_with h m x) (m + 1) xs

pub extend_before : (h : ℕ → Element) (m : ℕ) (xs : List Element) (j : ℕ) → j < m → extend h m xs j ≡ h j
extend_before h m [] j lt = refl
extend_before h m (x ∷ xs) j lt = extend_before (elements_with h m x) (m + 1) xs j (omega (arith, lt)) ∙ with_before h m x j lt

pub extend_at : (h : ℕ → Element) (m : ℕ) (xs : List Element) (i j : ℕ) → i < length xs → j ≡ m + i → extend h m xs j ≡ get_or xs i Nothing
extend_at h m [] i j lt e = absurd (omega (arith, lt))
extend_at h m (x ∷ xs) zero j lt e =
    let is : j ≡ m = omega (arith, e) in
    extend_before (elements_with h m x) (m + 1) xs j (omega (arith, e)) ∙ ap (λ (i : ℕ). elements_with h m x i) is ∙ with_at h m x
extend_at h m (x ∷ xs) (suc i) j lt e = extend_at (elements_with h m x) (m + 1) xs i j (omega (arith, lt)) (omega (arith, e))

pub past_all : (xs : List Element) (i : ℕ) → length xs ≤ i → get_or xs i Nothing ≡ Nothing
past_all [] i le = refl
past_all (x ∷ xs) zero le = absurd (omega (arith, le))
past_all (x ∷ xs) (suc i) le = past_all xs i (omega (arith, le))

module _ (c : Known) where
  pub extend_agree : (h : ℕ → Element) (m : ℕ) (xs : List Element) → Agree m (extend h m xs) h
  extend_agree h m xs j lt = extend_before h m xs j lt

  pub given_range : (base top : ℕ) (e : Environment) (h : ℕ → Element) (m : ℕ) (xs : List Element) → Inside c base top e (extend h m xs) → c.n ≤ m → m + length xs ≤ top
      → Given c base (range m (length xs)) xs
  given_range base top e h m [] around le lu = tt
  given_range base top e h m (x ∷ xs) around le lu =
      let here : extend h m (x ∷ xs) m ≡ x = extend_before (elements_with h m x) (m + 1) xs m (omega arith) ∙ with_at h m x in (
        subst (λ y. Fits c y (var c (base + m))) here (around.held m le (omega (arith, lu))),
        given_range base top e (elements_with h m x) (m + 1) xs around (omega (arith, le)) (omega (arith, lu)),
      )

  pub wide_as : (b m l : ℕ) → m ≡ l → Wide c b m → Wide c b l
  wide_as b m l e w = subst (λ i. Wide c b i) e w

  pub marked_wide : (b m node : ℕ) (value : Bool) (shape : Shape) (lo hi : ℕ) → marks.Marked c.program c.graphs c.f c.n b m node value shape lo hi → Wide c b m
  marked_wide b m node value shape lo hi has = wide c b has.0.0 m node value shape (stands c b has.0.0 m node value shape has.0.1)

  pub acts_wide : (sc : Scope) (b node : ℕ) (value : Bool) (o : RowOp) (args : List ℕ) (m : ℕ) (norm : Jump) (lo hi : ℕ) → marks.Acts c.program c.graphs c.f c.n sc b node value o args m norm lo hi → Wide c b m
  acts_wide sc b node value o args m norm lo hi has = marked_wide b m node value (Does o args sc.covers (hand_jumps m sc.hands) (first_and sc.default.to sc.default.keep m) norm) lo hi has

  pub is_wide : (b m : ℕ) (shape : Shape) (lo hi : ℕ) → marks.Is c.program c.graphs c.f c.n b m shape lo hi → Wide c b m
  is_wide b m shape lo hi has = wide c b has.0.0 m has.0.1 has.0.2 shape (stands c b has.0.0 m has.0.1 has.0.2 shape has.0.3)

  -- ---- blocks without an operation

  pub record Went (base m : ℕ) (jump : Jump) (e : Environment) (h : ℕ → Element) : Type 0 where
    pub around : Inside c base m e h
    pub linked : Linked c None base jump

  pub goes_on : (b m : ℕ) (jump : Jump) (lo hi : ℕ) (e : Environment) (h : ℕ → Element) → (has : marks.Is c.program c.graphs c.f c.n b m (Go jump) lo hi) → c.n ≤ m → Enters c b m e h → Went has.0.0 m jump e h
  goes_on b m jump lo hi e h has le enters =
      let is = stands c b has.0.0 m has.0.1 has.0.2 (Go jump) has.0.3 in record {
        around = inside c b has.0.0 m has.0.1 has.0.2 (Go jump) e h is le enters;
        linked = needs_of c b m e h (numbered has.0.0 m has.0.1 has.0.2 (Go jump)) is enters;
      }

  -- ---- the ways of a truth

  goes_known : (way : Bool) (x y : Option Bool) → LessKnown x y → rule.goes way (Truth x) ≡ true → rule.goes way (Truth y) ≡ true
  goes_known way (Some true) (Some true) h e = e
  goes_known way (Some false) (Some false) h e = e
  goes_known way (Some true) (Some false) h e = absurd h
  goes_known way (Some false) (Some true) h e = absurd h
  goes_known way x None h e = refl
  goes_known way None (Some d) h e = absurd h

  pub goes_up : (way : Bool) (x y : Element) → Fits c x y → rule.goes way x ≡ true → rule.goes way y ≡ true
  goes_up way _ _ (least y) e = absurd (no e)
  goes_up way _ _ (truth x y h) e = goes_known way x y h e
  goes_up way _ _ h e = refl

  pub record Forked (base m test : ℕ) (so other_way : Jump) (e : Environment) (h : ℕ → Element) : Type 0 where
    pub around : Inside c base m e h
    pub so_linked : rule.goes true (var c (base + test)) ≡ true → Linked c None base so
    pub other_linked : rule.goes false (var c (base + test)) ≡ true → Linked c None base other_way

  pub forks : (b m test : ℕ) (so other_way : Jump) (lo hi : ℕ) (e : Environment) (h : ℕ → Element) → (has : marks.Is c.program c.graphs c.f c.n b m (Fork test so other_way) lo hi) → c.n ≤ m → Enters c b m e h
      → Forked has.0.0 m test so other_way e h
  forks b m test so other_way lo hi e h has le enters =
      let base : ℕ = has.0.0 in
      let is = stands c b base m has.0.1 has.0.2 (Fork test so other_way) has.0.3 in
      let needs = needs_of c b m e h (numbered base m has.0.1 has.0.2 (Fork test so other_way)) is enters in
      let one = rule.link_needs c.p c.w c.f c.graph None (link base so) in
      let two = rule.link_needs c.p c.w c.f c.graph None (link base other_way) in
      let goes_so = rule.goes true (var c (base + test)) in
      let goes_other = rule.goes false (var c (base + test)) in
      record {
        around = inside c b base m has.0.1 has.0.2 (Fork test so other_way) e h is le enters;
        so_linked = λ t. subst (λ r. AllHold (k c) c.w (when r one)) t (hold_left (k c) c.w (when goes_so one) (when goes_other two) needs);
        other_linked = λ t. subst (λ r. AllHold (k c) c.w (when r two)) t (hold_right (k c) c.w (when goes_so one) (when goes_other two) needs);
      }
