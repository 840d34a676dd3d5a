-- `and` and `or`, displays, and walks.
use Rattle.std.proofs.Common.{◌≡◌, ℕ, ◌+◌, ◌≤◌, ◌⊎◌, inl, inr, ℤ, Bool, true, false, List, [], ◌∷◌, ◌++◌, length, map, Option, Some, None, refl, sym, ap, ◌∙◌, subst, arith, append_assoc, length-append}
use Rattle.std.proofs.lemmas.Bool.{false≢true}
use Rattle.rpy_tree.specs.Value.{Object}
use Rattle.rpy_meaning.specs.declared.row.RowOp.TheVariants as row
use Rattle.rpy_meaning.specs.Tree as meaning
use Rattle.flow_graph.specs.declared.graph.Graphs.{Graphs}
use Rattle.flow_stands.specs.Places.{Scope, Jump, first, first_and}
use Rattle.flow_stands.specs.Stands.{Branch}
use Rattle.flow_trees.specs.Marks as marks
use Rattle.flow_trees.specs.Marks.{Place, Choice}
use Rattle.ann_lattice.specs.Shape.{Shape, NoneOnly}
use Rattle.ann_lattice.specs.Order.{none}
use Rattle.ann_lattice.specs.Laws.{IsTree}
use Rattle.ann_rules.specs.Program.{Whole}
use Rattle.ann_rules.specs.Rules.{goes}
use Rattle.ann_tree.specs.Annotation.{Annotation, Environment, Point, Never, With, Handler, At}
use Rattle.ann_tree.specs.Gives as part
use Rattle.ann_tree.specs.Gives.{Giving}
use Rattle.ann_lift.specs.Spots.{Spots}
use Rattle.ann_lift.proofs.Lists.{one_more, push}
use Rattle.ann_lift.proofs.Lifted.{under, so, seq, head}
use Rattle.ann_lift.proofs.States.{held_at, bound, at_in, loose_held}
use Rattle.ann_lift.proofs.Ways.{led_and, goes_keeping, goes_keeping_and}
use Rattle.ann_lift.proofs.Acting.{unmarked, act, fork, from_point}
use Rattle.ann_lift.proofs.Exprs.{goes_no_stop, On, Sees, watches}
use Rattle.ann_lift.proofs.Forms.{Lf, Idle, I, T, A, OfOne, OfTest, OfAsk, put, put_dropped, leaf, meet}
use Rattle.ann_lift.proofs.Idle as idle

-- operands that are held one behind the other
module _ (n : ℕ) where
  pub two_at : (g : Environment) (before : List Shape) (x y : Shape) (rest all : List Shape) (i j : ℕ) → all ≡ before ++ x ∷ y ∷ rest → i ≡ n + length before → j ≡ i + 1 → map (held_at n g all) (i ∷ j ∷ []) ≡ x ∷ y ∷ []
  two_at g before x y rest all i j is at next =
      let first_is = at_in n g before x (y ∷ rest) all i is at in
      let second_is = at_in n g (before ++ x ∷ []) y rest all j (is ∙ sym (push before x (y ∷ rest))) (omega (arith, at, next, one_more before x)) in
      ap (λ u. u ∷ held_at n g all j ∷ []) first_is ∙ ap (λ u. x ∷ u ∷ []) second_is

  pub three_at : (g : Environment) (before : List Shape) (x y w : Shape) (rest all : List Shape) (i j k : ℕ) → all ≡ before ++ x ∷ y ∷ w ∷ rest → i ≡ n + length before → j ≡ i + 1 → k ≡ i + 2 → map (held_at n g all) (i ∷ j ∷ k ∷ []) ≡ x ∷ y ∷ w ∷ []
  three_at g before x y w rest all i j k is at next last =
      let first_is = at_in n g before x (y ∷ w ∷ rest) all i is at in
      let others = two_at g (before ++ x ∷ []) y w rest all j k (is ∙ sym (push before x (y ∷ w ∷ rest))) (omega (arith, at, next, one_more before x)) (omega (arith, next, last)) in
      ap (λ u. u ∷ held_at n g all j ∷ held_at n g all k ∷ []) first_is ∙ ap (λ l. x ∷ l) others

module _ (p : Whole) (sites : List (Option Object)) (a : Annotation) (f n : ℕ) (gs : Graphs) (classes : IsTree p.tables.classes) (meant : meaning.Program) where
  abbrev S : ℕ → ℕ → (Spots → Type 0) → (Spots → Type 0) → Type 0
  S lo hi C E = Lf p sites a f n gs classes meant lo hi C E

  abbrev E : Spots → ℕ → Environment → List Shape → Type 0
  E at b e held = I p sites a f n gs classes meant at b e held

  abbrev Q : Spots → ℕ → Point → List Shape → Type 0
  Q at b r held = T p sites a f n gs classes meant at b r held

  abbrev R : Scope → List Handler → List Shape → Spots → Type 0
  R sc hs held at = A p sites a f n gs classes meant sc hs held at

  -- the same, as another list
  pub as_list : {lo hi : ℕ} {C : Spots → Type 0} (b : ℕ) (g : Environment) (xs ys : List Shape) → xs ≡ ys → S lo hi C (λ at. E at b g xs) → S lo hi C (λ at. E at b g ys)
  as_list b g xs ys same x = so p a f gs (λ at c i. subst (λ l. E at b g l) same i) x

  -- what is around the part is around more that is held
  pub more_around : (sc : Scope) (hs : List Handler) (held rest : List Shape) (at : Spots) → R sc hs held at → R sc hs (held ++ rest) at
  more_around sc hs held rest at c = (watches p sites a f n gs classes meant sc hs held rest at c, c.1)

  abbrev pub OfPairs : Scope → List Handler → Place → (Shape → Environment → Point → Type 0) → Type 0
  OfPairs sc hs P G = (b m q lo hi : ℕ) → P b m q lo hi → (held : List Shape) → m ≡ n + length held → (dict : Shape) (e : Environment) (r : Point) → G dict e r → S lo hi (λ at. R sc hs held at × Q at q r (held ++ dict ∷ [])) (λ at. E at b e (held ++ dict ∷ []))

  pub and_at : (sc : Scope) (hs : List Handler) (node : ℕ) (Left : ℕ → ℕ → Branch → Branch → ℕ → ℕ → Type 0) (Right : Place) (GL : Environment → part.Way → part.Way → Type 0) (GR : Giving)
      → OfAsk p sites a f n gs classes meant sc hs Left GL → OfOne p sites a f n gs classes meant sc hs Right GR → ((b m q lo hi : ℕ) → Right b m q lo hi → Idle p sites a f n gs classes meant lo hi)
      → OfOne p sites a f n gs classes meant sc hs (marks.AndAt meant gs f n sc node Left Right) (part.AndAt p sites a n hs node GL GR)
  and_at sc hs node Left Right GL GR left right nowhere b m q lo hi h held count e x r j =
      let y = j.0 in
      so p a f gs (λ at k e. e.1.1)
      (seq p a f gs (from_point p sites a f n gs classes meant h.0 (held ++ y ∷ []) (λ g. part.Acts p sites a n hs node true row.Copy (y ∷ []) g x r) j.2 j.5 (idle.meets p sites a f n gs classes meant sc node h.0 m q h.4) (λ g i. meet p sites a f n gs classes meant sc hs h.0 node m q h.4 held count y g x r i (λ at k. k.0) (λ at k. k.1)))
      (seq p a f gs (from_point p sites a f n gs classes meant h.1 held (λ g. GR g y j.2) j.1 j.4 (nowhere h.1 m h.0 h.2 h.3 h.5) (λ g i. under p a f gs (λ at k. (k.0.0, k.1)) (right h.1 m h.0 h.2 h.3 h.5 held count g y j.2 i)))
      (under p a f gs (λ at k. (k.0.0.0, k.1, k.0.1)) (left b m h.1 h.0 None (Some y) h.3 hi h.6 held count e j.1 j.2 j.3))))

  pub or_at : (sc : Scope) (hs : List Handler) (node : ℕ) (Left : ℕ → ℕ → Branch → Branch → ℕ → ℕ → Type 0) (Right : Place) (GL : Environment → part.Way → part.Way → Type 0) (GR : Giving)
      → OfAsk p sites a f n gs classes meant sc hs Left GL → OfOne p sites a f n gs classes meant sc hs Right GR → ((b m q lo hi : ℕ) → Right b m q lo hi → Idle p sites a f n gs classes meant lo hi)
      → OfOne p sites a f n gs classes meant sc hs (marks.OrAt meant gs f n sc node Left Right) (part.OrAt p sites a n hs node GL GR)
  or_at sc hs node Left Right GL GR left right nowhere b m q lo hi h held count e x r j =
      let y = j.0 in
      so p a f gs (λ at k e. e.1.1)
      (seq p a f gs (from_point p sites a f n gs classes meant h.0 (held ++ y ∷ []) (λ g. part.Acts p sites a n hs node true row.Copy (y ∷ []) g x r) j.2 j.5 (idle.meets p sites a f n gs classes meant sc node h.0 m q h.4) (λ g i. meet p sites a f n gs classes meant sc hs h.0 node m q h.4 held count y g x r i (λ at k. k.0) (λ at k. k.1)))
      (seq p a f gs (from_point p sites a f n gs classes meant h.1 held (λ g. GR g y j.2) j.1 j.4 (nowhere h.1 m h.0 h.2 h.3 h.5) (λ g i. under p a f gs (λ at k. (k.0.0, k.1)) (right h.1 m h.0 h.2 h.3 h.5 held count g y j.2 i)))
      (under p a f gs (λ at k. (k.0.0.0, k.0.1, k.1)) (left b m h.0 h.1 (Some y) None h.3 hi h.6 held count e j.2 j.1 j.3))))

  pub display_at : (sc : Scope) (hs : List Handler) (node site : ℕ) (Stores : Place) (G : Shape → Environment → Point → Type 0) → OfPairs sc hs Stores G → ((b m q lo hi : ℕ) → Stores b m q lo hi → Idle p sites a f n gs classes meant lo hi)
      → OfOne p sites a f n gs classes meant sc hs (marks.DisplayAt meant gs f n sc node site Stores) (part.DisplayAt p sites a n hs node site G)
  display_at sc hs node site Stores G pairs nowhere b m q lo hi h held count e x r j =
      let dict = j.0 in
      so p a f gs (λ at k e. e.1.1)
      (seq p a f gs (from_point p sites a f n gs classes meant h.1 (held ++ dict ∷ []) (λ g. part.Acts p sites a n hs node true row.Copy (dict ∷ []) g x r) j.2 j.5 (idle.meets p sites a f n gs classes meant sc node h.1 m q h.4) (λ g i. meet p sites a f n gs classes meant sc hs h.1 node m q h.4 held count dict g x r i (λ at k. k.0) (λ at k. k.1)))
      (seq p a f gs (from_point p sites a f n gs classes meant h.0 (held ++ dict ∷ []) (λ g. G dict g j.2) j.1 j.4 (nowhere h.0 m h.1 h.2 h.3 h.5) (λ g i. under p a f gs (λ at k. (k.0.0, k.1)) (pairs h.0 m h.1 h.2 h.3 h.5 held count dict g j.2 i)))
      (leaf p sites a f n gs classes meant sc hs b node false (row.Dict site) m h.0 h.6 held count e dict j.1 refl j.3 (λ at k. k.0.0.0) (λ at k. k.1))))

  -- ---- walks: over, and the place in it, stand behind what is held

  abbrev pub walked : List Shape → Shape → Shape → List Shape
  walked held over place = held ++ over ∷ place ∷ []

  walked_is : (held : List Shape) (over place : Shape) → (held ++ over ∷ []) ++ place ∷ [] ≡ walked held over place
  walked_is held over place = push held over (place ∷ [])

  walked_count : (held : List Shape) (over place : Shape) → length (walked held over place) ≡ length held + 2
  walked_count held over place = length-append held (over ∷ place ∷ [])

  -- on to the next place
  pub advance_at : {lo hi : ℕ} {C : Spots → Type 0} (sc : Scope) (hs : List Handler) (node : ℕ) (step : Option ℤ) (m head advance : ℕ) → marks.AdvanceAt meant gs f n sc node step m head advance lo hi → (held : List Shape) → m ≡ n + length held → (over place : Shape) (next begin : Point)
      → At next (λ g. part.Acts p sites a n hs node false (row.Advance step) (over ∷ place ∷ []) g place begin) → ((at : Spots) → C at → R sc hs held at) → ((at : Spots) → C at → Q at head begin (walked held over place)) → S lo hi C (λ at. Q at advance next (walked held over place))
  advance_at sc hs node step m head advance h held count over place next begin j around to =
      from_point p sites a f n gs classes meant advance (walked held over place) (λ g. part.Acts p sites a n hs node false (row.Advance step) (over ∷ place ∷ []) g place begin) next j
      (idle.op p sites a f n gs classes meant sc advance node false (row.Advance step) (m ∷ (m + 1) ∷ []) (m + 2) (first_and head (m + 1) (m + 2)) h)
      (λ g i.
      as_list advance g ((held ++ over ∷ []) ++ place ∷ []) (walked held over place) (walked_is held over place)
      (put p sites a f n gs classes meant sc hs advance node false (row.Advance step) (m ∷ (m + 1) ∷ []) (m + 1) (m + 2) head h (held ++ over ∷ []) (place ∷ []) (omega (arith, count, one_more held over)) (omega (arith, count, ap length (walked_is held over place), walked_count held over place)) (over ∷ place ∷ []) g place begin refl
      (λ z. two_at n g held over place (z ∷ []) (((held ++ over ∷ []) ++ place ∷ []) ++ z ∷ []) m (m + 1) (ap (λ l. l ++ z ∷ []) (walked_is held over place) ∙ append_assoc held (over ∷ place ∷ []) (z ∷ [])) count refl) (λ z. loose_held n g bound m (omega (arith, count))) i
      (λ at c. more_around sc hs held (over ∷ []) at (around at c)) (λ at c. at_head at begin (to at c))))
    where
      at_head : (at : Spots) (r : Point) → Q at head r (walked held over place) → Q at head r ((held ++ over ∷ []) ++ place ∷ [])
      at_head at Never k = tt
      at_head at (With g) k = subst (λ l. E at head g l) (sym (walked_is held over place)) k

  -- an item that is taken, where there is one
  abbrev pub Item : List Handler → ℕ → Option ℤ → (Environment → Shape → Point → Type 0) → Shape → Shape → Environment → Point → Type 0
  Item hs node step Bind over place h begin = (y : Shape) × (taken : Point) × part.Acts p sites a n hs node false (row.Item step) (over ∷ place ∷ []) h y taken × At taken (λ g. Bind g y begin)

  -- none is left, or one is taken
  abbrev pub Step : List Handler → ℕ → Option ℤ → (Environment → Shape → Point → Type 0) → Shape → Shape → Environment → Point → Shape → Type 0
  Step hs node step Bind over place h begin t = (goes true t ≡ false) ⊎ Item hs node step Bind over place h begin

  pub step_of : (hs : List Handler) (node : ℕ) (step : Option ℤ) (Bind : Environment → Shape → Point → Type 0) (over place : Shape) (h : Environment) (begin : Point) (t : Shape) → (goes true t ≡ true → Item hs node step Bind over place h begin) → Step hs node step Bind over place h begin t
  step_of hs node step Bind over place h begin t item = by (goes true t) refl
    where
      by : (b : Bool) → goes true t ≡ b → Step hs node step Bind over place h begin t
      by true is = inr (item is)
      by false is = inl is

  -- what is bound stands where it is taken
  module _ (hs : List Handler) (node : ℕ) (step : Option ℤ) (Bind : Environment → Shape → Point → Type 0) (over place : Shape) (h : Environment) (begin : Point) (t : Shape) where
    abbrev pub BoundBy : ℕ → List Shape → Step hs node step Bind over place h begin t → Spots → Type 0
    BoundBy turn held (inl no_item) at = Unit {0}
    BoundBy turn held (inr i) at = Q at turn i.1 (walked held over place ++ i.0 ∷ [])

    -- the targets of a walk take what is taken
    pub bound_at : {lo hi : ℕ} {C : Spots → Type 0} (turn : ℕ) (held : List Shape) (s : Step hs node step Bind over place h begin t) → Idle p sites a f n gs classes meant lo hi
        → ((g : Environment) (y : Shape) → Bind g y begin → S lo hi C (λ at. E at turn g (walked held over place ++ y ∷ []))) → S lo hi C (λ at. BoundBy turn held s at)
    bound_at turn held (inl no_item) nowhere lift = so p a f gs (λ at c e. tt) (under p a f gs (λ at c. tt) nowhere)
    bound_at turn held (inr i) nowhere lift = from_point p sites a f n gs classes meant turn (walked held over place ++ i.0 ∷ []) (λ g. Bind g i.0 begin) i.1 i.3 nowhere (λ g k. lift g i.0 k)

    pub turn_at : {lo hi : ℕ} {C : Spots → Type 0} (sc : Scope) (m turn : ℕ) (after : Jump) (b : ℕ) → marks.TurnAt meant gs f n sc node step m turn after b lo hi → (held : List Shape) → m ≡ n + length held → Sees p sites a f n gs classes meant hs h
        → part.Operates p sites a n (row.HasItem step) node (over ∷ place ∷ []) t → (s : Step hs node step Bind over place h begin t) → ((at : Spots) → C at → R sc hs held at) → ((at : Spots) → C at → BoundBy turn held s at)
        → ((at : Spots) → C at → goes false t ≡ true → On p sites a f n gs classes meant at h (walked held over place ++ t ∷ []) after) → S lo hi C (λ at. E at b h (walked held over place))
    turn_at {lo} {hi} {C} sc m turn after b u held count seen has s around bound_by on_after = by_step s bound_by
      where
        wide : m + 2 ≡ n + length (walked held over place)
        wide = omega (arith, count, walked_count held over place)

        operands_are : (z : Shape) → map (held_at n h (walked held over place ++ z ∷ [])) (m ∷ (m + 1) ∷ []) ≡ over ∷ place ∷ []
        operands_are z = two_at n h held over place (z ∷ []) (walked held over place ++ z ∷ []) m (m + 1) (append_assoc held (over ∷ place ∷ []) (z ∷ [])) count refl

        there : (z : Shape) → held_at n h (walked held over place ++ z ∷ []) (m + 2) ≡ z
        there z = at_in n h (walked held over place) z [] (walked held over place ++ z ∷ []) (m + 2) refl wide

        ask : {D : Spots → Type 0} {l r : ℕ} → marks.Acts meant gs f n sc b node false (row.HasItem step) (m ∷ (m + 1) ∷ []) (m + 2) (first_and u.0 (m + 2) (m + 2)) l r → ((at : Spots) → D at → C at) → ((at : Spots) → D at → E at u.0 h (walked held over place ++ t ∷ [])) → S l r D (λ at. E at b h (walked held over place))
        ask k from forked =
            act p sites a f n gs classes meant sc b node false (row.HasItem step) (m ∷ (m + 1) ∷ []) (m + 2) (first_and u.0 (m + 2) (m + 2)) k h (walked held over place) hs (over ∷ place ∷ []) t wide seen (operands_are t) (loose_held n h bound m (omega (arith, count))) has tt (unmarked p sites a f n gs classes meant node false (row.HasItem step) (over ∷ place ∷ []) refl refl)
            (λ at c. watches p sites a f n gs classes meant sc hs held (over ∷ place ∷ []) at (around at (from at c)))
            (λ go at c. goes_keeping_and p a f n classes at u.0 (m + 2) (m + 2) h (walked held over place) (t ∷ []) (walked held over place ++ t ∷ []) t refl wide (there t) (omega (arith, count)) (forked at c))

        by_step : (s : Step hs node step Bind over place h begin t) → ((at : Spots) → C at → BoundBy turn held s at) → S lo hi C (λ at. E at b h (walked held over place))
        by_step (inl no_item) by =
            so p a f gs (λ at c e. e.1.1.1)
            (seq p a f gs (under p a f gs (λ at c. tt) (idle.op p sites a f n gs classes meant sc u.2 node false (row.Item step) (m ∷ (m + 1) ∷ []) (m + 2) (first_and turn (m + 2) (m + 2)) u.6))
            (seq p a f gs (under p a f gs (λ at c. tt) (idle.op p sites a f n gs classes meant sc u.1 node false row.Turn [] (m + 2) (first u.2 (m + 2)) u.7))
            (seq p a f gs (fork p sites a f n gs classes meant u.0 (m + 2 + 1) (m + 2) (first u.1 (m + 2)) after u.8 h (walked held over place ++ t ∷ []) t (there t) (λ at c go. absurd (false≢true (sym no_item ∙ go))) (λ at c go. on_after at c.0.0 go))
            (ask u.9 (λ at c. c.0.0.0) (λ at c. c.1)))))
        by_step (inr i) by =
            let z = i.2.1.0 in
            so p a f gs (λ at c e. e.1.1.1)
            (seq p a f gs
            (act p sites a f n gs classes meant sc u.2 node false (row.Item step) (m ∷ (m + 1) ∷ []) (m + 2) (first_and turn (m + 2) (m + 2)) u.6 h (walked held over place) hs (over ∷ place ∷ []) z wide i.2.0 (operands_are z) (loose_held n h bound m (omega (arith, count))) i.2.1.1 tt i.2.1.4
            (λ at c. watches p sites a f n gs classes meant sc hs held (over ∷ place ∷ []) at (around at c))
            (λ go at c.
            let on = i.2.1.3 (goes_no_stop (row.Item step) z refl go) in
            goes_keeping_and p a f n classes at turn (m + 2) (m + 2) h (walked held over place) (z ∷ []) (walked held over place ++ z ∷ []) z refl wide (there z) (omega (arith, count)) (led_and p a f n classes at turn i.1 h (walked held over place) z i.0 on.0 on.1 (by at c))))
            (seq p a f gs
            (act p sites a f n gs classes meant sc u.1 node false row.Turn [] (m + 2) (first u.2 (m + 2)) u.7 h (walked held over place) hs [] NoneOnly wide seen refl refl (refl, (λ k. ((none, tt), tt)), λ f. record { sound = refl; shallow = omega arith }) tt (unmarked p sites a f n gs classes meant node false row.Turn [] refl refl)
            (λ at c. watches p sites a f n gs classes meant sc hs held (over ∷ place ∷ []) at (around at c.0))
            (λ go at c. goes_keeping p a f n classes at u.2 (m + 2) h (walked held over place) (NoneOnly ∷ []) (walked held over place ++ NoneOnly ∷ []) refl wide c.1))
            (seq p a f gs (fork p sites a f n gs classes meant u.0 (m + 2 + 1) (m + 2) (first u.1 (m + 2)) after u.8 h (walked held over place ++ t ∷ []) t (there t)
            (λ at c go. goes_keeping p a f n classes at u.1 (m + 2) h (walked held over place) (t ∷ []) (walked held over place ++ t ∷ []) refl wide c.1) (λ at c go. on_after at c.0.0 go))
            (ask u.9 (λ at c. c.0.0.0) (λ at c. c.1)))))

  -- ---- what a comprehension gathers

  pub gather_at : (sc : Scope) (hs : List Handler) (node : ℕ) (El : Place) (Tst : Choice) (GE : Giving) (GT : Environment → Point → Point → Type 0) → OfOne p sites a f n gs classes meant sc hs El GE → OfTest p sites a f n gs classes meant sc hs Tst GT
      → ((b m q lo hi : ℕ) → El b m q lo hi → Idle p sites a f n gs classes meant lo hi) → {lo hi : ℕ} (list b m advance : ℕ) → marks.GatherAt meant gs f n sc node El Tst list b m advance lo hi → (held : List Shape) → m ≡ n + length held → (list_of : Shape)
      → ((e : Environment) (y z : Shape) → map (held_at n e ((held ++ y ∷ []) ++ z ∷ [])) (list ∷ m ∷ []) ≡ list_of ∷ y ∷ []) → n ≤ list → (begin next : Point) → (e : Environment) → (so_point : Point) × GT e so_point next × At so_point (λ g. (y added : Shape) × (behind : Point) × GE g y behind × At behind (λ k. part.Acts p sites a n hs node false row.AddItem (list_of ∷ y ∷ []) k added next))
      → S lo hi (λ at. R sc hs held at × Q at advance next held) (λ at. E at b e held)
  gather_at sc hs node El Tst GE GT one_of test nowhere {lo} {hi} list b m advance u held count list_of operands inside begin next e j =
      so p a f gs (λ at c k. k.1)
      (seq p a f gs (added u.0 u.1 u.2 u.3 u.4 u.5 j.0 j.2)
      (under p a f gs (λ at c. (c.0.0, c.1, c.0.1)) (test b m u.0 advance u.3 hi u.6 held count e j.0 next j.1)))
    where
      added : (first_at add l1 l2 : ℕ) → marks.Acts meant gs f n sc add node false row.AddItem (list ∷ m ∷ []) (m + 1) (first advance m) lo l1 → El first_at m add l1 l2 → (r : Point) → At r (λ g. (y added : Shape) × (behind : Point) × GE g y behind × At behind (λ k. part.Acts p sites a n hs node false row.AddItem (list_of ∷ y ∷ []) k added next))
          → S lo l2 (λ at. R sc hs held at × Q at advance next held) (λ at. Q at first_at r held)
      added first_at add l1 l2 h k Never i = so p a f gs (λ at c e. tt) (under p a f gs (λ at c. tt) (idle.both_of p sites a f n gs classes meant (idle.op p sites a f n gs classes meant sc add node false row.AddItem (list ∷ m ∷ []) (m + 1) (first advance m) h) (nowhere first_at m add l1 l2 k)))
      added first_at add l1 l2 h k (With g) i =
          so p a f gs (λ at c e. e.1)
          (seq p a f gs
          (from_point p sites a f n gs classes meant add (held ++ i.0 ∷ []) (λ v. part.Acts p sites a n hs node false row.AddItem (list_of ∷ i.0 ∷ []) v i.1 next) i.2 i.4
          (idle.op p sites a f n gs classes meant sc add node false row.AddItem (list ∷ m ∷ []) (m + 1) (first advance m) h)
          (λ v w.
          put_dropped p sites a f n gs classes meant sc hs add node false row.AddItem (list ∷ m ∷ []) m (m + 1) advance h held (i.0 ∷ []) count (omega (arith, count, one_more held i.0)) (list_of ∷ i.0 ∷ []) v i.1 next refl
          (λ z. operands v i.0 z) (λ z. loose_held n v bound list inside) w (λ at c. c.0) (λ at c. c.1)))
          (under p a f gs (λ at c. (c.0.0, c.1)) (one_of first_at m add l1 l2 k held count g i.0 i.2 i.3)))
