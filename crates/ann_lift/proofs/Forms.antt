-- Expressions by what their parts are.
use Rattle.std.proofs.Common.{◌≡◌, ℕ, ◌+◌, ◌≢◌, ◌⊎◌, inl, inr, Bool, true, false, List, [], ◌∷◌, ◌++◌, length, map, Option, Some, None, refl, sym, ap, ◌∙◌, subst, arith, append_assoc, append-nil, length-append}
use Rattle.std.specs.Prelude.{is_some}
use Rattle.std.proofs.lemmas.Bool.{cases_lt, false≢true}
use Rattle.rpy_tree.specs.declared.program.Const.{Const}
use Rattle.rpy_tree.specs.Value.{Value, Object}
use Rattle.rpy_meaning.specs.declared.row.RowOp.{RowOp}
use Rattle.rpy_meaning.specs.declared.row.RowOp.TheVariants as row
use Rattle.rpy_meaning.specs.Tree as meaning
use Rattle.flow_graph.specs.declared.graph.Graphs.{Graphs}
use Rattle.flow_stands.specs.Places.{range, Scope, Does, hand_jumps, first, first_and}
use Rattle.flow_stands.specs.Stands.{Branch, onward, IsComparison}
use Rattle.flow_trees.specs.Tree.{Expr}
use Rattle.flow_trees.specs.Tells.{Telling, tells}
use Rattle.flow_trees.specs.Marks as marks
use Rattle.flow_trees.specs.Marks.{Place, Choice}
use Rattle.ann_lattice.specs.Shape.{Shape}
use Rattle.ann_lattice.specs.Laws.{IsTree}
use Rattle.ann_rules.specs.Program.{Whole}
use Rattle.ann_tree.specs.Annotation.{Annotation, Environment, Point, Handler}
use Rattle.ann_tree.specs.Gives as part
use Rattle.ann_tree.specs.Gives.{is_raise, stops, Weighing, Giving, GivingAll, Testing}
use Rattle.ann_lift.specs.Spots.{Spots, goes_on, first_unbound}
use Rattle.ann_lift.proofs.Lists.{one_more, push}
use Rattle.ann_lift.proofs.Lifted.{under, so, seq}
use Rattle.ann_lift.proofs.States.{held_at, bound, spot, at_local, at_in, loose_local, loose_held, Lower}
use Rattle.ann_lift.proofs.Ways.{map_range, clear_range, LeadsTo, led, led_and, goes_keeping, goes_keeping_and}
use Rattle.ann_lift.proofs.Acting.{idle_marked, act, act_with, go, from_point}
use Rattle.ann_lift.proofs.Telling.{Good, BesideIn, good_alone}
use Rattle.ann_lift.proofs.Exprs.{goes_no_stop, onward_is, onward_raises, L, In, To, On, Around, watches, WayTo, truth}
use Rattle.ann_lift.proofs.Idle as idle

module _ (p : Whole) (sites : List (Option Object)) (a : Annotation) (f n : ℕ) (gs : Graphs) (classes : IsTree p.tables.classes) (meant : meaning.Program) where
  abbrev pub Lf : ℕ → ℕ → (Spots → Type 0) → (Spots → Type 0) → Type 0
  Lf lo hi C E = L p sites a f n gs classes meant lo hi C E

  abbrev pub Idle : ℕ → ℕ → Type 0
  Idle lo hi = idle.Idle p sites a f n gs classes meant lo hi

  abbrev pub I : Spots → ℕ → Environment → List Shape → Type 0
  I at b e held = In p sites a f n gs classes meant at b e held

  abbrev pub T : Spots → ℕ → Point → List Shape → Type 0
  T at b r held = To p sites a f n gs classes meant at b r held

  abbrev pub W : Spots → ℕ → Point → Option Shape → List Shape → Type 0
  W at k r v held = WayTo p sites a f n gs classes meant at k r v held

  abbrev pub A : Scope → List Handler → List Shape → Spots → Type 0
  A sc hs held at = Around p sites a f n gs classes meant sc hs held at

  -- ---- what is found of parts

  -- an expression, where it gives what G says
  abbrev pub OfOne : Scope → List Handler → Place → Giving → Type 0
  OfOne sc hs E G = (b m q lo hi : ℕ) → E b m q lo hi → (held : List Shape) → m ≡ n + length held → (e : Environment) (x : Shape) (r : Point) → G e x r → Lf lo hi (λ at. A sc hs held at × T at q r (held ++ x ∷ [])) (λ at. I at b e held)

  abbrev pub OfAll : Scope → List Handler → Place → GivingAll → Type 0
  OfAll sc hs Es G = (b m q lo hi : ℕ) → Es b m q lo hi → (held : List Shape) → m ≡ n + length held → (e : Environment) (xs : List Shape) (r : Point) → G e xs r → Lf lo hi (λ at. A sc hs held at × T at q r (held ++ xs)) (λ at. I at b e held)

  abbrev pub OfTest : Scope → List Handler → Choice → Testing → Type 0
  OfTest sc hs Tst G = (b m q1 q2 lo hi : ℕ) → Tst b m q1 q2 lo hi → (held : List Shape) → m ≡ n + length held → (e : Environment) (r1 r2 : Point) → G e r1 r2 → Lf lo hi (λ at. A sc hs held at × T at q1 r1 held × T at q2 r2 held) (λ at. I at b e held)

  -- an operation whose operands stay: how many they are
  abbrev pub OfSides : Scope → List Handler → Choice → Weighing → Type 0
  OfSides sc hs S G = (b m c q lo hi : ℕ) → S b m c q lo hi → (held : List Shape) → m ≡ n + length held → (e : Environment) (xs : List Shape) (x : Shape) (r : Point) → G e xs x r
      → ((c ≡ length xs) × Lf lo hi (λ at. A sc hs held at × T at q r ((held ++ xs) ++ x ∷ [])) (λ at. I at b e held)) ⊎ Lf lo hi (λ at. A sc hs held at) (λ at. I at b e held)

  -- operands of which one stops, so that there are not as many as there should be
  abbrev pub OfStopped : Scope → List Handler → Place → GivingAll → ℕ → Type 0
  OfStopped sc hs Es G c = (b m q lo hi : ℕ) → Es b m q lo hi → (held : List Shape) → m ≡ n + length held → (e : Environment) (xs : List Shape) (r : Point) → G e xs r → length xs ≢ c → Lf lo hi (λ at. A sc hs held at) (λ at. I at b e held)

  pub same_or_not : (i j : ℕ) → (i ≡ j) ⊎ (i ≢ j)
  same_or_not i j = elim (cases_lt i j) [ inl less ↦ inr (λ e. omega (arith, less, e)) | inr le ↦ elim (cases_lt j i) [ inl more_than ↦ inr (λ e. omega (arith, more_than, e)) | inr ge ↦ inl (omega (arith, le, ge)) ] ]

  -- the branches of a test by what asks
  abbrev pub OfAsk : Scope → List Handler → (ℕ → ℕ → Branch → Branch → ℕ → ℕ → Type 0) → (Environment → part.Way → part.Way → Type 0) → Type 0
  OfAsk sc hs Tst G = (b m q1 q2 : ℕ) (v1 v2 : Option Shape) (lo hi : ℕ) → Tst b m (record { to = q1; value = is_some v1 }) (record { to = q2; value = is_some v2 }) lo hi → (held : List Shape) → m ≡ n + length held → (e : Environment) (r1 r2 : Point)
      → G e (record { to = r1; value = v1 }) (record { to = r2; value = v2 }) → Lf lo hi (λ at. A sc hs held at × W at q1 r1 v1 held × W at q2 r2 v2 held) (λ at. I at b e held)

  -- ---- operations of which the operands are held

  pub put : {lo hi : ℕ} {C : Spots → Type 0} (sc : Scope) (hs : List Handler) (b node : ℕ) (value : Bool) (o : RowOp) (args : List ℕ) (m w q : ℕ) → marks.Acts meant gs f n sc b node value o args w (first_and q m w) lo hi
      → (held xs : List Shape) → m ≡ n + length held → w ≡ n + length (held ++ xs) → (ys : List Shape) (g : Environment) (x : Shape) (r : Point) → is_raise o ≡ false
      → ((z : Shape) → map (held_at n g ((held ++ xs) ++ z ∷ [])) args ≡ ys) → ((z : Shape) → first_unbound (spot n g ((held ++ xs) ++ z ∷ []) bound) args ≡ false)
      → part.Acts p sites a n hs node value o ys g x r → ((at : Spots) → C at → A sc hs held at) → ((at : Spots) → C at → T at q r (held ++ x ∷ [])) → Lf lo hi C (λ at. I at b g (held ++ xs))
  put sc hs b node value o args m w q h held xs count wide ys g x r raises operands clear j around to =
      let z = j.1.0 in
      act p sites a f n gs classes meant sc b node value o args w (first_and q m w) h g (held ++ xs) hs ys z wide j.0 (operands z) (clear z) j.1.1 j.1.2 j.1.4
      (λ at c. watches p sites a f n gs classes meant sc hs held xs at (around at c))
      (λ k at c.
      let on = j.1.3 (goes_no_stop o z raises k) in
      goes_keeping_and p a f n classes at q m w g held (xs ++ z ∷ []) ((held ++ xs) ++ z ∷ []) z (append_assoc held xs (z ∷ [])) count (at_in n g (held ++ xs) z [] ((held ++ xs) ++ z ∷ []) w refl wide) (omega (arith, wide)) (led_and p a f n classes at q r g held z x on.0 on.1 (to at c)))

  -- and what it gives is dropped
  pub put_dropped : {lo hi : ℕ} {C : Spots → Type 0} (sc : Scope) (hs : List Handler) (b node : ℕ) (value : Bool) (o : RowOp) (args : List ℕ) (m w q : ℕ) → marks.Acts meant gs f n sc b node value o args w (first q m) lo hi
      → (held xs : List Shape) → m ≡ n + length held → w ≡ n + length (held ++ xs) → (ys : List Shape) (g : Environment) (x : Shape) (r : Point) → is_raise o ≡ false
      → ((z : Shape) → map (held_at n g ((held ++ xs) ++ z ∷ [])) args ≡ ys) → ((z : Shape) → first_unbound (spot n g ((held ++ xs) ++ z ∷ []) bound) args ≡ false)
      → part.Acts p sites a n hs node value o ys g x r → ((at : Spots) → C at → A sc hs held at) → ((at : Spots) → C at → T at q r held) → Lf lo hi C (λ at. I at b g (held ++ xs))
  put_dropped sc hs b node value o args m w q h held xs count wide ys g x r raises operands clear j around to =
      let z = j.1.0 in
      act p sites a f n gs classes meant sc b node value o args w (first q m) h g (held ++ xs) hs ys z wide j.0 (operands z) (clear z) j.1.1 j.1.2 j.1.4
      (λ at c. watches p sites a f n gs classes meant sc hs held xs at (around at c))
      (λ k at c.
      let on = j.1.3 (goes_no_stop o z raises k) in
      goes_keeping p a f n classes at q m g held (xs ++ z ∷ []) ((held ++ xs) ++ z ∷ []) (append_assoc held xs (z ∷ [])) count (led p a f n classes at q r g held on.1 (to at c)))

  -- without operands
  pub leaf : {lo hi : ℕ} {C : Spots → Type 0} (sc : Scope) (hs : List Handler) (b node : ℕ) (value : Bool) (o : RowOp) (m q : ℕ) → marks.Acts meant gs f n sc b node value o [] m (first_and q m m) lo hi
      → (held : List Shape) → m ≡ n + length held → (g : Environment) (x : Shape) (r : Point) → is_raise o ≡ false
      → part.Acts p sites a n hs node value o [] g x r → ((at : Spots) → C at → A sc hs held at) → ((at : Spots) → C at → T at q r (held ++ x ∷ [])) → Lf lo hi C (λ at. I at b g held)
  leaf sc hs b node value o m q h held count g x r raises j around to =
      so p a f gs (λ at c e. subst (λ l. I at b g l) (append-nil held) e)
      (put sc hs b node value o [] m m q h held [] count (omega (arith, count, ap length (append-nil held))) [] g x r raises (λ z. refl) (λ z. refl) j around to)

  -- a copy of the last one, in its place
  pub meet : {lo hi : ℕ} {C : Spots → Type 0} (sc : Scope) (hs : List Handler) (b node m q : ℕ) → marks.Meets meant gs f n sc node b m q lo hi → (held : List Shape) → m ≡ n + length held → (y : Shape) (g : Environment) (x : Shape) (r : Point)
      → part.Acts p sites a n hs node true row.Copy (y ∷ []) g x r → ((at : Spots) → C at → A sc hs held at) → ((at : Spots) → C at → T at q r (held ++ x ∷ [])) → Lf lo hi C (λ at. I at b g (held ++ y ∷ []))
  meet sc hs b node m q h held count y g x r j around to =
      put sc hs b node true row.Copy (m ∷ []) m (m + 1) q h held (y ∷ []) count (omega (arith, count, one_more held y)) (y ∷ []) g x r refl
      (λ z. ap (λ s. s ∷ []) (at_in n g held y (z ∷ []) ((held ++ y ∷ []) ++ z ∷ []) m (push held y (z ∷ [])) count)) (λ z. loose_held n g bound m (omega (arith, count))) j around to

  idle_meet : {lo hi : ℕ} (sc : Scope) (b node m q : ℕ) → marks.Meets meant gs f n sc node b m q lo hi → Idle lo hi
  idle_meet sc b node m q h = idle.meets p sites a f n gs classes meant sc node b m q h

  -- ---- expressions

  pub local_at : (sc : Scope) (hs : List Handler) (node i : ℕ) → OfOne sc hs (marks.LocalAt meant gs f n sc node i) (part.LocalAt p sites a n hs node i)
  local_at sc hs node i b m q lo hi h held count e x r j =
      let z = j.1.1.0 in
      let all = held ++ z ∷ [] in
      let loose : first_unbound (spot n e all bound) (i ∷ []) ≡ e.unbound i = loose_local n e bound i h.0 in
      act_with p sites a f n gs classes meant sc b node true row.Copy (i ∷ []) m (first_and q m m) h.1 e held bound hs (e.element i ∷ []) z count (λ k l g. refl) j.1.0 (ap (λ y. y ∷ []) (at_local n e all i h.0)) j.1.1.1 j.1.1.2 j.1.1.4
      (λ k. j.0 (sym loose ∙ k)) (λ k. absurd (false≢true k))
      (λ at c. c.0.0)
      (λ k at c.
      let on = j.1.1.3 (goes_no_stop row.Copy z refl k) in
      goes_keeping_and p a f n classes at q m m e held (z ∷ []) all z refl count (at_in n e held z [] all m refl count) (omega (arith, count)) (led_and p a f n classes at q r e held z x on.0 on.1 c.1))

  pub constant_at : (sc : Scope) (hs : List Handler) (node : ℕ) (k : Const) (v : Value) → OfOne sc hs (marks.ConstantAt meant gs f n sc node k v) (part.ConstantAt p sites a n hs node k)
  constant_at sc hs node k v b m q lo hi h held count e x r j = leaf sc hs b node true (row.Constant k) m q h.1 held count e x r refl j (λ at c. c.0) (λ at c. c.1)

  -- the operands, and then the operation
  all_applied : (sc : Scope) (hs : List Handler) (node : ℕ) (value : Bool) (o : RowOp) (c : ℕ) (Es : Place) (G : GivingAll) → OfAll sc hs Es G
      → (b m q lo hi : ℕ) → marks.AppliedAt meant gs f n sc node value o c Es b m q lo hi → (held : List Shape) → m ≡ n + length held → (e : Environment) (xs : List Shape) (x : Shape) (r : Point) → part.AppliedAt p sites a n hs node value o G e xs x r → length xs ≡ c
      → Lf lo hi (λ at. A sc hs held at × T at q r (held ++ x ∷ [])) (λ at. I at b e held)
  all_applied sc hs node value o c Es G all b m q lo hi h held count e xs x r j long =
      let wide : m + c ≡ n + length (held ++ xs) = omega (arith, count, long, length-append held xs) in
      so p a f gs (λ at k e. e.1)
      (seq p a f gs
      (from_point p sites a f n gs classes meant h.0 (held ++ xs) (λ g. part.Acts p sites a n hs node value o xs g x r) j.0 j.2
      (idle_marked p sites a f n gs classes meant h.0 (m + c) node value (Does o (range m c) sc.covers (hand_jumps (m + c) sc.hands) (first_and sc.default.to sc.default.keep (m + c)) (onward o q m (m + c))) h.2)
      (λ g i.
      act p sites a f n gs classes meant sc h.0 node value o (range m c) (m + c) (onward o q m (m + c)) h.2 g (held ++ xs) hs xs i.1.0 wide i.0
      (subst (λ k. map (held_at n g ((held ++ xs) ++ i.1.0 ∷ [])) (range m k) ≡ xs) long (map_range n g held xs (i.1.0 ∷ []) ((held ++ xs) ++ i.1.0 ∷ []) m (append_assoc held xs (i.1.0 ∷ [])) count))
      (clear_range n g ((held ++ xs) ++ i.1.0 ∷ []) m c (omega (arith, count))) i.1.1 i.1.2 i.1.4
      (λ at k. watches p sites a f n gs classes meant sc hs held xs at k.0)
      (λ go at k. on_to (is_raise o) refl i.1.0 go at k g i.1.3 wide long)))
      (under p a f gs (λ at k. (k.0.0, k.1)) (all b m h.0 h.1 hi h.3 held count e xs j.0 j.1)))
    where
      on_to : (raises : Bool) → is_raise o ≡ raises → (z : Shape) → goes_on o z ≡ true → (at : Spots) → A sc hs held at × T at q r (held ++ x ∷ []) → (g : Environment) → (stops o z ≡ false → Lower p a f n classes z x × LeadsTo p a f n classes g r) → m + c ≡ n + length (held ++ xs) → length xs ≡ c
          → On p sites a f n gs classes meant at g ((held ++ xs) ++ z ∷ []) (onward o q m (m + c))
      on_to true is z go at k g i wide long = subst (λ u. On p sites a f n gs classes meant at g ((held ++ xs) ++ z ∷ []) u) (sym (onward_raises o q m (m + c) is)) (k.0.1, tt)
      on_to false is z go at k g i wide long =
          let on = i (goes_no_stop o z is go) in
          subst (λ u. On p sites a f n gs classes meant at g ((held ++ xs) ++ z ∷ []) u) (sym (onward_is o q m (m + c) is))
          (goes_keeping_and p a f n classes at q m (m + c) g held (xs ++ z ∷ []) ((held ++ xs) ++ z ∷ []) z (append_assoc held xs (z ∷ [])) count (at_in n g (held ++ xs) z [] ((held ++ xs) ++ z ∷ []) (m + c) refl wide) (omega (arith, wide)) (led_and p a f n classes at q r g held z x on.0 on.1 k.1))

  pub applied : (sc : Scope) (hs : List Handler) (node : ℕ) (value : Bool) (o : RowOp) (c : ℕ) (Es : Place) (G : GivingAll) → OfAll sc hs Es G → OfStopped sc hs Es G c
      → (b m q lo hi : ℕ) → marks.AppliedAt meant gs f n sc node value o c Es b m q lo hi → (held : List Shape) → m ≡ n + length held → (e : Environment) (xs : List Shape) (x : Shape) (r : Point) → part.AppliedAt p sites a n hs node value o G e xs x r
      → Lf lo hi (λ at. A sc hs held at × T at q r (held ++ x ∷ [])) (λ at. I at b e held)
  applied sc hs node value o c Es G all stopped b m q lo hi h held count e xs x r j = elim (same_or_not (length xs) c) [ inl long ↦ all_applied sc hs node value o c Es G all b m q lo hi h held count e xs x r j long | inr differ ↦ so p a f gs (λ at k e. e.1) (seq p a f gs (under p a f gs (λ at k. tt) (idle.op p sites a f n gs classes meant sc h.0 node value o (range m c) (m + c) (onward o q m (m + c)) h.2)) (under p a f gs (λ at k. k.0.0) (stopped b m h.0 h.1 hi h.3 held count e xs j.0 j.1 differ))) ]

  -- `not` of a test whose ways lead to the two answers
  pub not_at : (sc : Scope) (hs : List Handler) (node : ℕ) (Tst : Choice) (G : Testing) → OfTest sc hs Tst G → OfOne sc hs (marks.NotAt meant gs f n sc node Tst) (part.NotAt p sites a n hs node G)
  not_at sc hs node Tst G test b m q lo hi h held count e x r j =
      let y = j.0 in
      so p a f gs (λ at k e. e.1.1.1)
      (seq p a f gs (from_point p sites a f n gs classes meant h.0 (held ++ y ∷ []) (λ g. part.Acts p sites a n hs node true row.Copy (y ∷ []) g x r) j.3 j.7 (idle_meet sc h.0 node m q h.6) (λ g i. meet sc hs h.0 node m q h.6 held count y g x r i (λ at k. k.0) (λ at k. k.1)))
      (seq p a f gs (from_point p sites a f n gs classes meant h.2 held (λ g. part.Acts p sites a n hs node false (row.Bool true) [] g y j.3) j.2 j.6 (idle.op p sites a f n gs classes meant sc h.2 node false (row.Bool true) [] m (first_and h.0 m m) h.7) (λ g i. leaf sc hs h.2 node false (row.Bool true) m h.0 h.7 held count g y j.3 refl i (λ at k. k.0.0) (λ at k. k.1)))
      (seq p a f gs (from_point p sites a f n gs classes meant h.1 held (λ g. part.Acts p sites a n hs node false (row.Bool false) [] g y j.3) j.1 j.5 (idle.op p sites a f n gs classes meant sc h.1 node false (row.Bool false) [] m (first_and h.0 m m) h.8) (λ g i. leaf sc hs h.1 node false (row.Bool false) m h.0 h.8 held count g y j.3 refl i (λ at k. k.0.0.0) (λ at k. k.0.1)))
      (under p a f gs (λ at k. (k.0.0.0.0, k.1, k.0.1)) (test b m h.1 h.2 h.5 hi h.9 held count e j.1 j.2 j.4)))))

  -- the operands of a comparison stay
  pub sides_at : (sc : Scope) (hs : List Handler) (node : ℕ) (value : Bool) (o : RowOp) (ways : Bool) (c : ℕ) (Es : Place) (G : GivingAll) (Tst : Testing) → OfAll sc hs Es G → OfStopped sc hs Es G c → (IsComparison o → ways ≡ false)
      → OfSides sc hs (marks.SidesAt meant gs f n sc node value o c Es) (part.WeighAt p sites a n hs node value o ways G Tst)
  sides_at sc hs node value o ways c Es G Tst all stopped compares b m d q lo hi h held count e xs x r (inr j) = absurd (false≢true (sym (compares h.1.2) ∙ j.0))
  sides_at sc hs node value o ways c Es G Tst all stopped compares b m d q lo hi h held count e xs x r (inl j) =
      let k = h.1 in
      let i = j.1 in
      elim (same_or_not (length xs) c) [ inl long ↦ inl (h.0 ∙ sym long, all_there (long ∙ sym h.0)) | inr differ ↦ inr (so p a f gs (λ at u e. e.1) (seq p a f gs (under p a f gs (λ at u. tt) (idle.op p sites a f n gs classes meant sc k.0 node value o (range m d) (m + d) (first_and q (m + d) (m + d)) k.3)) (under p a f gs (λ at u. u.0) (stopped b m k.0 k.1 hi k.4 held count e xs i.0 i.1 differ)))) ]
    where
      not_raise : (o : RowOp) → IsComparison o → is_raise o ≡ false
      not_raise (row.Compare w) h = refl
      not_raise o h = absurd h

      all_there : length xs ≡ d → Lf lo hi (λ at. A sc hs held at × T at q r ((held ++ xs) ++ x ∷ [])) (λ at. I at b e held)
      all_there long =
          let k = h.1 in
          let i = j.1 in
          let wide : m + d ≡ n + length (held ++ xs) = omega (arith, count, long, length-append held xs) in
          so p a f gs (λ at c e. e.1)
          (seq p a f gs
          (from_point p sites a f n gs classes meant k.0 (held ++ xs) (λ g. part.Acts p sites a n hs node value o xs g x r) i.0 i.2
          (idle.op p sites a f n gs classes meant sc k.0 node value o (range m d) (m + d) (first_and q (m + d) (m + d)) k.3)
          (λ g u.
          let z = u.1.0 in
          act p sites a f n gs classes meant sc k.0 node value o (range m d) (m + d) (first_and q (m + d) (m + d)) k.3 g (held ++ xs) hs xs z wide u.0
          (subst (λ c. map (held_at n g ((held ++ xs) ++ z ∷ [])) (range m c) ≡ xs) long (map_range n g held xs (z ∷ []) ((held ++ xs) ++ z ∷ []) m (append_assoc held xs (z ∷ [])) count))
          (clear_range n g ((held ++ xs) ++ z ∷ []) m d (omega (arith, count))) u.1.1 u.1.2 u.1.4
          (λ at c. watches p sites a f n gs classes meant sc hs held xs at c.0)
          (λ go at c.
          let on = u.1.3 (goes_no_stop o z (not_raise o k.2) go) in
          goes_keeping_and p a f n classes at q (m + d) (m + d) g (held ++ xs) (z ∷ []) ((held ++ xs) ++ z ∷ []) z refl wide (at_in n g (held ++ xs) z [] ((held ++ xs) ++ z ∷ []) (m + d) refl wide) (omega (arith, wide)) (led_and p a f n classes at q r g (held ++ xs) z x on.0 on.1 c.1))))
          (under p a f gs (λ at c. (c.0.0, c.1)) (all b m k.0 k.1 hi k.4 held count e xs i.0 i.1)))

  -- what stands beside no local is not asked for
  alone : (node : ℕ) (told : Option Telling) (v : Option Shape) (xs : List Shape) (x : Shape) (g : Environment) (r : Point) → Good 0 told → part.GoesOn p sites a n node told xs x g r v → part.GoesOn p sites a n node told [] x g r v
  alone node told (Some y) xs x g r good i = i
  alone node None None xs x g r good i = i
  alone node (Some t) None xs x g r good i = (i.0, none_beside t.beside good.2 i.1, i.2)
    where
      none_beside : (o : Option ℕ) → BesideIn o 0 → part.Operates p sites a n t.op node (g.element t.local ∷ part.beside o xs) i.0 → part.Operates p sites a n t.op node (g.element t.local ∷ part.beside o []) i.0
      none_beside None h k = k
      none_beside (Some place) h k = absurd (omega (arith, h))

  -- an expression whose truth is asked
  pub asks : (sc : Scope) (hs : List Handler) (node : ℕ) (l : Expr) (E : Place) (Sides : Choice) (G : Giving) (Weighs : Weighing) → OfOne sc hs E G → OfSides sc hs Sides Weighs → ((e : Environment) (xs : List Shape) (x : Shape) (r : Point) → Weighs e xs x r → G e x r)
      → ((b m c q lo hi : ℕ) → Sides b m c q lo hi → (way : Bool) → Good c (tells l way))
      → OfAsk sc hs (marks.Asks meant gs f n sc node l E Sides) (part.Asks p sites a n hs node l Weighs)
  asks sc hs node l E Sides G Weighs of_one of_sides gives good b m q1 q2 v1 v2 lo hi (inl h) held count e r1 r2 j =
      let xs = j.0 in
      let x = j.1 in
      let same : held ++ [] ≡ held = append-nil held in
      so p a f gs (λ at k e. e.1)
      (seq p a f gs
      (from_point p sites a f n gs classes meant h.0 (held ++ x ∷ []) (λ g. part.Decides p sites a n hs node l xs x g (record { to = r1; value = v1 }) (record { to = r2; value = v2 })) j.2 j.4
      (idle.truth p sites a f n gs classes meant sc node l h.0 m m (record { to = q1; value = is_some v1 }) (record { to = q2; value = is_some v2 }) lo h.1 h.3)
      (λ g d.
      so p a f gs (λ at k e. subst (λ u. I at h.0 g (u ++ x ∷ [])) same e)
      (truth p sites a f n gs classes meant (λ at. A sc hs held at × W at q1 r1 v1 held × W at q2 r2 v2 held) sc hs held [] x g m m count (omega (arith, count, ap length same)) (λ at k. k.0) d.0 node l h.0 q1 q2 v1 v2 lo h.1 h.3 r1 r2
      (good_alone l true 0 h.2) (good_alone l false 0 h.2) (d.0, d.1, d.2, (λ k. alone node (tells l true) v1 xs x g r1 (good_alone l true 0 h.2) (d.3 k)), (λ k. alone node (tells l false) v2 xs x g r2 (good_alone l false 0 h.2) (d.4 k))) (λ at k. k.1) (λ at k. k.2))))
      (under p a f gs (λ at k. (k.0.0, k.1)) (of_one b m h.0 h.1 hi h.4 held count e x j.2 (gives e xs x j.2 j.3))))
  asks sc hs node l E Sides G Weighs of_one of_sides gives good b m q1 q2 v1 v2 lo hi (inr h) held count e r1 r2 j = by_sides (of_sides b m h.1 h.0 h.2 hi h.4 held count e j.0 j.1 j.2 j.3) (good b m h.1 h.0 h.2 hi h.4 true) (good b m h.1 h.0 h.2 hi h.4 false)
    where
      by_sides : ((h.1 ≡ length j.0) × Lf h.2 hi (λ at. A sc hs held at × T at h.0 j.2 ((held ++ j.0) ++ j.1 ∷ [])) (λ at. I at b e held)) ⊎ Lf h.2 hi (λ at. A sc hs held at) (λ at. I at b e held) → Good h.1 (tells l true) → Good h.1 (tells l false)
          → Lf lo hi (λ at. A sc hs held at × W at q1 r1 v1 held × W at q2 r2 v2 held) (λ at. I at b e held)
      by_sides (inl s) good1 good2 =
          let xs = j.0 in
          let x = j.1 in
          so p a f gs (λ at k e. e.1)
          (seq p a f gs
          (from_point p sites a f n gs classes meant h.0 ((held ++ xs) ++ x ∷ []) (λ g. part.Decides p sites a n hs node l xs x g (record { to = r1; value = v1 }) (record { to = r2; value = v2 })) j.2 j.4
          (idle.truth p sites a f n gs classes meant sc node l h.0 m (m + h.1) (record { to = q1; value = is_some v1 }) (record { to = q2; value = is_some v2 }) lo h.2 h.3)
          (λ g d.
          truth p sites a f n gs classes meant (λ at. A sc hs held at × W at q1 r1 v1 held × W at q2 r2 v2 held) sc hs held xs x g m (m + h.1) count (omega (arith, count, s.0, length-append held xs)) (λ at k. k.0) d.0 node l h.0 q1 q2 v1 v2 lo h.2 h.3 r1 r2
          (subst (λ c. Good c (tells l true)) s.0 good1) (subst (λ c. Good c (tells l false)) s.0 good2) d (λ at k. k.1) (λ at k. k.2)))
          (under p a f gs (λ at k. (k.0.0, k.1)) s.1))
      by_sides (inr s) good1 good2 =
          so p a f gs (λ at k e. e.1)
          (seq p a f gs (under p a f gs (λ at k. tt) (idle.truth p sites a f n gs classes meant sc node l h.0 m (m + h.1) (record { to = q1; value = is_some v1 }) (record { to = q2; value = is_some v2 }) lo h.2 h.3))
          (under p a f gs (λ at k. k.0.0) s))
