-- What stands at the blocks of all statements that are reached.
use Rattle.std.proofs.Common.{◌≡◌, ℕ, ◌+◌, ◌<◌, inl, inr, Bool, true, false, List, [], ◌∷◌, ◌++◌, length, Option, Some, None, refl, sym, ap, ◌∙◌, subst, arith, append_assoc, append-nil, length-append}
use Rattle.std.specs.Prelude.{if◌then◌else◌}
use Rattle.std.proofs.lemmas.Bool.{false≢true}
use Rattle.rpy_tree.specs.Value.{Object}
use Rattle.rpy_meaning.specs.declared.row.RowOp.{RowOp}
use Rattle.rpy_meaning.specs.declared.row.RowOp.TheVariants as row
use Rattle.rpy_meaning.specs.Tree as meaning
use Rattle.rpy_meaning.specs.Classes.{covers_within}
use Rattle.flow_graph.specs.declared.graph.Graphs.{Graphs}
use Rattle.flow_stands.specs.Places.{stored, Aim, Hand, Scope, Ways, onto, Go, first, first_and, on_to}
use Rattle.flow_stands.specs.Stands.{within as graph_within, hands_of, LocalIn, never_block}
use Rattle.flow_trees.specs.Tree.{Expr, Target, Name, Attribute, Item, Parts, Targets, no_targets, more_targets, Stmt, Pass, Break, Continue, Return, Do, Assign, Augment, If, While, For, Try, Finally, Block, done, line, Clauses, no_clauses, clause, Subject, plain_clauses, node_of}
use Rattle.flow_trees.specs.Marks as marks
use Rattle.ann_lattice.specs.Shape.{Shape, Nothing, NoneOnly, Inst}
use Rattle.ann_lattice.specs.Order.{Below, none, clash}
use Rattle.ann_lattice.specs.Join.{is_clash}
use Rattle.ann_lattice.specs.Laws.{IsTree, IsFormed}
use Rattle.ann_lattice.specs.Kind.{given, misfit, some_nothing, some_clash}
use Rattle.ann_lattice.specs.Assign.{Under as BelowAll}
use Rattle.ann_lattice.proofs.Tree.{sub_self}
use Rattle.ann_rules.specs.Program.{Whole}
use Rattle.ann_rules.specs.Rules.{asked, goes}
use Rattle.ann_tree.specs.Annotation.{Annotation, Environment, Point, Never, With, Goal, Towards, Exits, within, Handler, handlers, At, bind}
use Rattle.ann_tree.specs.Gives as part
use Rattle.ann_tree.specs.Gives.{is_raise, step_of}
use Rattle.ann_tree.specs.Leaves as leave
use Rattle.ann_lift.specs.Spots.{Spot, Spots, goes_on, first_unbound}
use Rattle.ann_lift.proofs.Lists.{one_more, push}
use Rattle.ann_lift.proofs.Lifted.{under, so, seq, straight, head}
use Rattle.ann_lift.proofs.States.{bound, spot, at_in, at_local, loose_local, loose_held, Lower, self}
use Rattle.ann_lift.proofs.Ways.{LeadsTo, led, led_and, goes_keeping, goes_keeping_and, goes_binding}
use Rattle.ann_lift.proofs.Watched.{Watched}
use Rattle.ann_lift.proofs.Acting.{unmarked, act, act_with, go, from_point}
use Rattle.ann_lift.proofs.Exprs.{goes_no_stop, On, Sees, watches}
use Rattle.ann_lift.proofs.Forms.{Lf, I, T, A, put}
use Rattle.ann_lift.proofs.Walks.{two_at, three_at, as_list, more_around, advance_at, step_of as turn_of, bound_at, turn_at}
use Rattle.ann_lift.proofs.Taking.{itself}
use Rattle.ann_lift.proofs.Targets.{env_self}
use Rattle.ann_lift.proofs.Turns.{stands_there}
use Rattle.ann_lift.proofs.Trees.{expr, test, subject, turn, bind as bind_target}
use Rattle.ann_lift.proofs.Leaving.{result, Out, Outs, back_more, outs_onto, outs_next, drop_to, out_to, returns_on, gives_back}
use Rattle.ann_lift.proofs.Idle as idle

module _ (p : Whole) (sites : List (Option Object)) (a : Annotation) (f n : ℕ) (gs : Graphs) (classes : IsTree p.tables.classes) (meant : meaning.Program) where
  abbrev S : ℕ → ℕ → (Spots → Type 0) → (Spots → Type 0) → Type 0
  S lo hi C E = Lf p sites a f n gs classes meant lo hi C E

  abbrev Idle : ℕ → ℕ → Type 0
  Idle lo hi = idle.Idle p sites a f n gs classes meant lo hi

  abbrev E : Spots → ℕ → Environment → List Shape → Type 0
  E k b e held = I p sites a f n gs classes meant k b e held

  abbrev Q : Spots → ℕ → Point → List Shape → Type 0
  Q k b r held = T p sites a f n gs classes meant k b r held

  abbrev R : Scope → List Handler → List Shape → Spots → Type 0
  R sc hs held k = A p sites a f n gs classes meant sc hs held k

  abbrev O : Spots → Ways → Exits → List Shape → Type 0
  O k t x held = Outs p sites a f n gs classes meant k t x held

  abbrev See : List Handler → Environment → Type 0
  See hs e = Sees p sites a f n gs classes meant hs e

  -- ---- between statements

  -- an operation that gives `None`, and is dropped
  still : {lo hi : ℕ} {C : Spots → Type 0} (sc : Scope) (hs : List Handler) (b node m q : ℕ) (o : RowOp) → marks.Acts meant gs f n sc b node false o [] m (first q m) lo hi → part.Operates p sites a n o node [] NoneOnly → part.MarksFaults p sites a n node false o [] → (held : List Shape) → m ≡ n + length held → (e : Environment) → See hs e
      → ((k : Spots) → C k → R sc hs held k) → ((k : Spots) → C k → E k q e held) → S lo hi C (λ k. E k b e held)
  still sc hs b node m q o h does marked held count e seen around to =
      act p sites a f n gs classes meant sc b node false o [] m (first q m) h e held hs [] NoneOnly count seen refl refl does tt marked (λ k c. (around k c).0)
      (λ go k c. goes_keeping p a f n classes k q m e held (NoneOnly ∷ []) (held ++ NoneOnly ∷ []) refl count (to k c))

  mark_at : {lo hi : ℕ} {C : Spots → Type 0} (sc : Scope) (hs : List Handler) (tried : Bool) (node b m q : ℕ) → marks.MarkIf meant gs f n tried sc node b m q lo hi → (held : List Shape) → m ≡ n + length held → (e : Environment) → See hs e
      → ((k : Spots) → C k → R sc hs held k) → ((k : Spots) → C k → E k q e held) → S lo hi C (λ k. E k b e held)
  mark_at sc hs true node b m q h held count e seen around to = still sc hs b node m q row.None h (refl, (λ k. ((none, tt), tt)), λ f. record { sound = refl; shallow = omega arith }) (unmarked p sites a f n gs classes meant node false row.None [] refl refl) held count e seen around to
  mark_at sc hs false node b m q h held count e seen around to = straight p a f gs h.1 (λ k c. subst (λ i. E k i e held) (sym h.0) (to k c))

  mark_behind : {lo hi : ℕ} {C : Spots → Type 0} (sc : Scope) (hs : List Handler) (tried : Bool) (node b m q : ℕ) → marks.MarkIf meant gs f n tried sc node b m q lo hi → (held : List Shape) → m ≡ n + length held → (J : Environment → Type 0) (r : Point) → At r (λ g. See hs g × J g)
      → ((k : Spots) → C k → R sc hs held k) → ((k : Spots) → C k → Q k q r held) → S lo hi C (λ k. Q k b r held)
  mark_behind sc hs tried node b m q h held count J Never j around to = so p a f gs (λ k c i. tt) (under p a f gs (λ k c. tt) (idle.mark p sites a f n gs classes meant sc tried node b m q _ _ h))
  mark_behind sc hs tried node b m q h held count J (With g) j around to = mark_at sc hs tried node b m q h held count g j.0 around to

  -- ---- targets

  targets : (sc : Scope) (hs : List Handler) (ts : Targets) (b m q lo hi : ℕ) → marks.HasTargets meant gs f n sc ts b m q lo hi → (held : List Shape) → m ≡ n + length held → (e : Environment) (x : Shape) (r : Point) → leave.BindsEach p sites a f n hs ts e x r
      → S lo hi (λ k. R sc hs held k × Q k q r held) (λ k. E k b e (held ++ x ∷ []))
  targets sc hs no_targets b m q lo hi h held count e x r j =
      go p sites a f n gs classes meant b (m + 1) (first q m) h e (held ++ x ∷ []) (λ k c. goes_keeping p a f n classes k q m e held (x ∷ []) (held ++ x ∷ []) refl count (led p a f n classes k q r e held j c.1))
  targets sc hs (more_targets t no_targets) b m q lo hi h held count e x r j =
      under p a f gs (λ k c. (more_around p sites a f n gs classes meant sc hs held (x ∷ []) k c.0, behind k j.0 j.2 c.1))
      (bind_target p sites a f n gs classes meant sc hs t [] m (m + 1) m b q lo hi h (held ++ x ∷ []) held (x ∷ []) held [] (omega (arith, count, one_more held x)) refl count x x refl count e (inl refl) (itself x) (With e) j.0 (λ ok. env_self p sites a f n gs classes meant e) j.1)
    where
      behind : (k : Spots) (v : Point) → At v (λ g. LeadsTo p a f n classes g r) → Q k q r held → Q k q v held
      behind k Never i leads = tt
      behind k (With g) i leads = led p a f n classes k q r g held i leads
  targets sc hs (more_targets t (more_targets u ts)) b m q lo hi h held count e x r j =
      so p a f gs (λ k c i. i.1)
      (seq p a f gs (from_point p sites a f n gs classes meant h.0 (held ++ x ∷ []) (λ g. leave.BindsEach p sites a f n hs (more_targets u ts) g x r) j.0 j.2 (idle.targets p sites a f n gs classes meant sc (more_targets u ts) h.0 m q lo h.1 h.2)
      (λ g v. targets sc hs (more_targets u ts) h.0 m q lo h.1 h.2 held count g x r v))
      (under p a f gs (λ k c. (more_around p sites a f n gs classes meant sc hs held (x ∷ []) k c.0.0, c.1))
      (bind_target p sites a f n gs classes meant sc hs t [] m (m + 1) (m + 1) b h.0 h.1 hi h.3 (held ++ x ∷ []) (held ++ x ∷ []) [] held [] (omega (arith, count, one_more held x)) (sym (append-nil (held ++ x ∷ []))) (omega (arith, count, one_more held x)) x x refl count e (inl refl) (itself x) (With e) j.0
      (λ ok. env_self p sites a f n gs classes meant e) j.1)))

  -- ---- augmented assignments

  raise_stops : (o : RowOp) → is_raise o ≡ true → goes_on o Nothing ≡ false
  raise_stops row.Raise h = refl
  raise_stops o h = absurd (false≢true h)

  clashes : (z : Shape) → Below p.tables.classes a.parts.same misfit z → is_clash z ≡ false → ⊥
  clashes _ (clash _ _ _ _ _) free = false≢true (sym free)

  raise_pieces : (b c : Bool) → b ≡ false → (if b then [] else (if c then misfit ∷ [] else misfit ∷ [])) ≡ misfit ∷ []
  raise_pieces true c h = absurd (false≢true (sym h))
  raise_pieces false true h = refl
  raise_pieces false false h = refl

  raises_two : (o : RowOp) (node : ℕ) (x y z : Shape) → is_raise o ≡ true → part.Operates p sites a n o node (x ∷ y ∷ []) z → part.Operates p sites a n o node (x ∷ y ∷ []) Nothing
  raises_two row.Raise node x y z h does =
      (refl, (λ some. absurd (clashes z (subst (λ l. BelowAll p.tables.classes a.parts.same (l ++ []) z) (raise_pieces (some_nothing (x ∷ y ∷ [])) (some_clash (x ∷ y ∷ [])) some) (does.1 some).0).0 does.0)), λ f. record { sound = refl; shallow = omega arith })
  raises_two o node x y z h does = absurd (false≢true h)

  -- the operation, whose operands are the last two
  renew : {lo hi : ℕ} {C : Spots → Type 0} (sc : Scope) (hs : List Handler) (b node : ℕ) (o : RowOp) (m q : ℕ) → marks.NewAt meant gs f n sc node o b m q lo hi → (held : List Shape) → m ≡ n + length held → (x y : Shape) (g : Environment) (z : Shape) (r : Point)
      → part.Acts p sites a n hs node false o (x ∷ y ∷ []) g z r → ((k : Spots) → C k → R sc hs held k) → ((k : Spots) → C k → Q k q r (held ++ z ∷ [])) → S lo hi C (λ k. E k b g ((held ++ x ∷ []) ++ y ∷ []))
  renew {lo} {hi} {C} sc hs b node o m q h held count x y g z r j around to =
      as_list p sites a f n gs classes meant b g (held ++ x ∷ y ∷ []) ((held ++ x ∷ []) ++ y ∷ []) (sym (push held x (y ∷ []))) (by_raise (is_raise o) refl)
    where
      wide : m + 2 ≡ n + length (held ++ x ∷ y ∷ [])
      wide = omega (arith, count, length-append held (x ∷ y ∷ []))

      made : (u : Shape) → part.Operates p sites a n o node (x ∷ y ∷ []) u → (goes_on o u ≡ true → (k : Spots) → C k → On p sites a f n gs classes meant k g ((held ++ x ∷ y ∷ []) ++ u ∷ []) (first_and q m (m + 2))) → S lo hi C (λ k. E k b g (held ++ x ∷ y ∷ []))
      made u does on =
          act p sites a f n gs classes meant sc b node false o (m ∷ (m + 1) ∷ []) (m + 2) (first_and q m (m + 2)) h g (held ++ x ∷ y ∷ []) hs (x ∷ y ∷ []) u wide j.0
          (two_at n g held x y (u ∷ []) ((held ++ x ∷ y ∷ []) ++ u ∷ []) m (m + 1) (append_assoc held (x ∷ y ∷ []) (u ∷ [])) count refl) (loose_held n g bound m (omega (arith, count))) does tt j.1.4
          (λ k c. watches p sites a f n gs classes meant sc hs held (x ∷ y ∷ []) k (around k c)) on

      by_raise : (raises : Bool) → is_raise o ≡ raises → S lo hi C (λ k. E k b g (held ++ x ∷ y ∷ []))
      by_raise true is = made Nothing (raises_two o node x y j.1.0 is j.1.1) (λ go. absurd (false≢true (sym (raise_stops o is) ∙ go)))
      by_raise false is = made j.1.0 j.1.1 (λ go k c.
          let u = j.1.0 in
          let on = j.1.3 (goes_no_stop o u is go) in
          goes_keeping_and p a f n classes k q m (m + 2) g held (x ∷ y ∷ u ∷ []) ((held ++ x ∷ y ∷ []) ++ u ∷ []) u (append_assoc held (x ∷ y ∷ []) (u ∷ [])) count (at_in n g (held ++ x ∷ y ∷ []) u [] ((held ++ x ∷ y ∷ []) ++ u ∷ []) (m + 2) refl wide) (omega (arith, count)) (led_and p a f n classes k q r g held u z on.0 on.1 (to k c)))

  augment : (sc : Scope) (hs : List Handler) (node : ℕ) (t : Target) (o : RowOp) (l : Expr) (b m q lo hi : ℕ) → marks.HasAugment meant gs f n sc node t o l b m q lo hi → (held : List Shape) → m ≡ n + length held → (e : Environment) (r : Point) → leave.Augments p sites a f n hs node t o l e r
      → S lo hi (λ k. R sc hs held k × Q k q r held) (λ k. E k b e held)
  augment sc hs node (Name at i) o l b m q lo hi h held count e r j =
      let old = j.0 in
      let new = j.2 in
      let value = a.element at in
      let next : m + 1 ≡ n + length (held ++ old ∷ []) = omega (arith, count, one_more held old) in
      so p a f gs (λ k c u. u.1.1.1)
      (seq p a f gs (from_point p sites a f n gs classes meant h.2 (held ++ new ∷ []) (λ g. part.Stores p sites a n hs at row.Copy (new ∷ []) g (bind g i (a.element at)) r) j.5 j.10 (idle.op p sites a f n gs classes meant sc h.2 at true row.Copy (m ∷ []) (m + 1) (stored q m i (m + 1)) h.7)
      (λ g u.
      let all = (held ++ new ∷ []) ++ value ∷ [] in
      let wide : m + 1 ≡ n + length (held ++ new ∷ []) = omega (arith, count, one_more held new) in
      act p sites a f n gs classes meant sc h.2 at true row.Copy (m ∷ []) (m + 1) (stored q m i (m + 1)) h.7 g (held ++ new ∷ []) hs (new ∷ []) value wide u.0 (ap (λ s. s ∷ []) (at_in n g held new (value ∷ []) all m (push held new (value ∷ [])) count)) (loose_held n g bound m (omega (arith, count))) u.1 refl u.3
      (λ k c. watches p sites a f n gs classes meant sc hs held (new ∷ []) k c.0)
      (λ go k c. goes_binding p a f n classes k q m i (m + 1) g held (new ∷ value ∷ []) all value (push held new (value ∷ [])) count (at_in n g (held ++ new ∷ []) value [] all (m + 1) refl wide) (omega (arith, count)) h.6 (led p a f n classes k q r (bind g i value) held (u.2 (goes_no_stop row.Copy value refl go)) c.1))))
      (seq p a f gs (from_point p sites a f n gs classes meant h.1 ((held ++ old ∷ []) ++ j.1 ∷ []) (λ g. part.Acts p sites a n hs node false o (old ∷ j.1 ∷ []) g new j.5) j.4 j.9 (idle.op p sites a f n gs classes meant sc h.1 node false o (m ∷ (m + 1) ∷ []) (m + 2) (first_and h.2 m (m + 2)) h.8)
      (λ g u. renew sc hs h.1 node o m h.2 h.8 held count old j.1 g new j.5 u (λ k c. c.0.0) (λ k c. c.1)))
      (seq p a f gs (from_point p sites a f n gs classes meant h.0 (held ++ old ∷ []) (λ g. part.Gives p sites a n hs l g j.1 j.4) j.3 j.8 (idle.expr p sites a f n gs classes meant sc l h.0 (m + 1) h.1 h.4 h.5 h.9)
      (λ g u. under p a f gs (λ k c. (more_around p sites a f n gs classes meant sc hs held (old ∷ []) k c.0.0.0, c.1)) (expr p sites a f n gs classes meant sc hs l h.0 (m + 1) h.1 h.4 h.5 h.9 (held ++ old ∷ []) next g j.1 j.4 u)))
      (read_local h.0 h.5 h.10))))
    where
      read_local : (right l3 : ℕ) → marks.Acts meant gs f n sc b at false row.Copy (i ∷ []) m (first_and right m m) l3 hi → S l3 hi (λ k. (((R sc hs held k × Q k q r held) × Q k h.2 j.5 (held ++ j.2 ∷ [])) × Q k h.1 j.4 ((held ++ j.0 ∷ []) ++ j.1 ∷ [])) × Q k right j.3 (held ++ j.0 ∷ [])) (λ k. E k b e held)
      read_local right l3 u =
          let i7 = j.7 in
          let z = i7.1.0 in
          let all = held ++ z ∷ [] in
          let loose : first_unbound (spot n e all bound) (i ∷ []) ≡ e.unbound i = loose_local n e bound i h.6 in
          act_with p sites a f n gs classes meant sc b at false row.Copy (i ∷ []) m (first_and right m m) u e held bound hs (e.element i ∷ []) z count (λ k l g. refl) i7.0 (ap (λ y. y ∷ []) (at_local n e all i h.6)) i7.1.1 tt i7.1.4
          (λ k. j.6 (sym loose ∙ k)) (λ k. absurd (false≢true k)) (λ k c. c.0.0.0.0.0)
          (λ go k c.
          let on = i7.1.3 (goes_no_stop row.Copy z refl go) in
          goes_keeping_and p a f n classes k right m m e held (z ∷ []) all z refl count (at_in n e held z [] all m refl count) (omega (arith, count)) (led_and p a f n classes k right j.3 e held z j.0 on.0 on.1 c.1))
  augment sc hs node (Attribute at w name) o l b m q lo hi h held count e r j =
      let x = j.0 in
      let old = j.1 in
      let y = j.2 in
      let new = j.3 in
      let D = held ++ x ∷ [] in
      let value = a.element at in
      let next : m + 1 ≡ n + length D = omega (arith, count, one_more held x) in
      so p a f gs (λ k c u. u.1.1.1.1)
      (seq p a f gs (from_point p sites a f n gs classes meant h.3 (D ++ new ∷ []) (λ g. part.Stores p sites a n hs at (row.StoreAttr name) (x ∷ new ∷ []) g g r) j.7 j.12 (idle.op p sites a f n gs classes meant sc h.3 at true (row.StoreAttr name) (m ∷ (m + 1) ∷ []) (m + 2) (first q m) h.8)
      (λ g u.
      let all = (D ++ new ∷ []) ++ value ∷ [] in
      let wide : m + 2 ≡ n + length (D ++ new ∷ []) = omega (arith, next, one_more D new) in
      let flat : all ≡ held ++ x ∷ new ∷ value ∷ [] = push D new (value ∷ []) ∙ push held x (new ∷ value ∷ []) in
      act p sites a f n gs classes meant sc h.3 at true (row.StoreAttr name) (m ∷ (m + 1) ∷ []) (m + 2) (first q m) h.8 g (D ++ new ∷ []) hs (x ∷ new ∷ []) value wide u.0 (two_at n g held x new (value ∷ []) all m (m + 1) flat count refl) (loose_held n g bound m (omega (arith, count))) u.1 refl u.3
      (λ k c. subst (λ s. Watched p a f n classes k s hs sc.hands sc.default) (sym (push held x (new ∷ []))) (watches p sites a f n gs classes meant sc hs held (x ∷ new ∷ []) k c.0))
      (λ go k c. goes_keeping p a f n classes k q m g held (x ∷ new ∷ value ∷ []) all flat count (led p a f n classes k q r g held (u.2 (goes_no_stop (row.StoreAttr name) value refl go)) c.1))))
      (seq p a f gs (from_point p sites a f n gs classes meant h.2 ((D ++ old ∷ []) ++ y ∷ []) (λ g. part.Acts p sites a n hs node false o (old ∷ y ∷ []) g new j.7) j.6 j.11 (idle.op p sites a f n gs classes meant sc h.2 node false o ((m + 1) ∷ (m + 1 + 1) ∷ []) (m + 1 + 2) (first_and h.3 (m + 1) (m + 1 + 2)) h.9)
      (λ g u. renew sc hs h.2 node o (m + 1) h.3 h.9 D next old y g new j.7 u (λ k c. more_around p sites a f n gs classes meant sc hs held (x ∷ []) k c.0.0) (λ k c. c.1)))
      (seq p a f gs (from_point p sites a f n gs classes meant h.1 (D ++ old ∷ []) (λ g. part.Gives p sites a n hs l g y j.6) j.5 j.10 (idle.expr p sites a f n gs classes meant sc l h.1 (m + 1 + 1) h.2 h.5 h.6 h.10)
      (λ g u. under p a f gs (λ k c. (more_around p sites a f n gs classes meant sc hs D (old ∷ []) k (more_around p sites a f n gs classes meant sc hs held (x ∷ []) k c.0.0.0), c.1)) (expr p sites a f n gs classes meant sc hs l h.1 (m + 1 + 1) h.2 h.5 h.6 h.10 (D ++ old ∷ []) (omega (arith, next, one_more D old)) g y j.6 u)))
      (seq p a f gs (from_point p sites a f n gs classes meant h.0 D (λ g. part.Acts p sites a n hs at false (row.Attr name) (x ∷ []) g old j.5) j.4 j.9 (idle.op p sites a f n gs classes meant sc h.0 at false (row.Attr name) (m ∷ []) (m + 1) (first_and h.1 (m + 1) (m + 1)) h.11)
      (λ g u.
      as_list p sites a f n gs classes meant h.0 g (D ++ []) D (append-nil D)
      (put p sites a f n gs classes meant sc hs h.0 at false (row.Attr name) (m ∷ []) (m + 1) (m + 1) h.1 h.11 D [] next (omega (arith, next, ap length (append-nil D))) (x ∷ []) g old j.5 refl
      (λ z. ap (λ s. s ∷ []) (at_in n g held x (z ∷ []) ((D ++ []) ++ z ∷ []) m (ap (λ s. s ++ z ∷ []) (append-nil D) ∙ push held x (z ∷ [])) count)) (λ z. loose_held n g bound m (omega (arith, count))) u
      (λ k c. more_around p sites a f n gs classes meant sc hs held (x ∷ []) k c.0.0.0.0) (λ k c. c.1))))
      (under p a f gs (λ k c. (c.0.0.0.0.0, c.1)) (expr p sites a f n gs classes meant sc hs w b m h.0 h.7 hi h.12 held count e x j.4 j.8))))))
  augment sc hs node (Item at w i) o l b m q lo hi h held count e r j =
      let x = j.0 in
      let z = j.1 in
      let old = j.2 in
      let y = j.3 in
      let new = j.4 in
      let D = held ++ x ∷ [] in
      let F = D ++ z ∷ [] in
      let value = a.element at in
      let next : m + 1 ≡ n + length D = omega (arith, count, one_more held x) in
      let third : m + 2 ≡ n + length F = omega (arith, next, one_more D z) in
      so p a f gs (λ k c u. u.1.1.1.1.1)
      (seq p a f gs (from_point p sites a f n gs classes meant h.4 (F ++ new ∷ []) (λ g. part.Stores p sites a n hs at row.StoreIndex (x ∷ z ∷ new ∷ []) g g r) j.9 j.15 (idle.op p sites a f n gs classes meant sc h.4 at true row.StoreIndex (m ∷ (m + 1) ∷ (m + 2) ∷ []) (m + 3) (first q m) h.10)
      (λ g u.
      let all = (F ++ new ∷ []) ++ value ∷ [] in
      let wide : m + 3 ≡ n + length (F ++ new ∷ []) = omega (arith, third, one_more F new) in
      let flat : all ≡ held ++ x ∷ z ∷ new ∷ value ∷ [] = push F new (value ∷ []) ∙ (push D z (new ∷ value ∷ []) ∙ push held x (z ∷ new ∷ value ∷ [])) in
      act p sites a f n gs classes meant sc h.4 at true row.StoreIndex (m ∷ (m + 1) ∷ (m + 2) ∷ []) (m + 3) (first q m) h.10 g (F ++ new ∷ []) hs (x ∷ z ∷ new ∷ []) value wide u.0 (three_at n g held x z new (value ∷ []) all m (m + 1) (m + 2) flat count refl refl) (loose_held n g bound m (omega (arith, count))) u.1 refl u.3
      (λ k c. subst (λ s. Watched p a f n classes k s hs sc.hands sc.default) (sym (push D z (new ∷ []) ∙ push held x (z ∷ new ∷ []))) (watches p sites a f n gs classes meant sc hs held (x ∷ z ∷ new ∷ []) k c.0))
      (λ go k c. goes_keeping p a f n classes k q m g held (x ∷ z ∷ new ∷ value ∷ []) all flat count (led p a f n classes k q r g held (u.2 (goes_no_stop row.StoreIndex value refl go)) c.1))))
      (seq p a f gs (from_point p sites a f n gs classes meant h.3 ((F ++ old ∷ []) ++ y ∷ []) (λ g. part.Acts p sites a n hs node false o (old ∷ y ∷ []) g new j.9) j.8 j.14 (idle.op p sites a f n gs classes meant sc h.3 node false o ((m + 2) ∷ (m + 2 + 1) ∷ []) (m + 2 + 2) (first_and h.4 (m + 2) (m + 2 + 2)) h.11)
      (λ g u. renew sc hs h.3 node o (m + 2) h.4 h.11 F third old y g new j.9 u (λ k c. deep k c.0.0) (λ k c. c.1)))
      (seq p a f gs (from_point p sites a f n gs classes meant h.2 (F ++ old ∷ []) (λ g. part.Gives p sites a n hs l g y j.8) j.7 j.13 (idle.expr p sites a f n gs classes meant sc l h.2 (m + 2 + 1) h.3 h.6 h.7 h.12)
      (λ g u. under p a f gs (λ k c. (more_around p sites a f n gs classes meant sc hs F (old ∷ []) k (deep k c.0.0.0), c.1)) (expr p sites a f n gs classes meant sc hs l h.2 (m + 2 + 1) h.3 h.6 h.7 h.12 (F ++ old ∷ []) (omega (arith, third, one_more F old)) g y j.8 u)))
      (seq p a f gs (from_point p sites a f n gs classes meant h.1 F (λ g. part.Acts p sites a n hs at false (row.Index None) (x ∷ z ∷ []) g old j.7) j.6 j.12 (idle.op p sites a f n gs classes meant sc h.1 at false (row.Index None) (m ∷ (m + 1) ∷ []) (m + 2) (first_and h.2 (m + 2) (m + 2)) h.13)
      (λ g u.
      as_list p sites a f n gs classes meant h.1 g (F ++ []) F (append-nil F)
      (put p sites a f n gs classes meant sc hs h.1 at false (row.Index None) (m ∷ (m + 1) ∷ []) (m + 2) (m + 2) h.2 h.13 F [] third (omega (arith, third, ap length (append-nil F))) (x ∷ z ∷ []) g old j.7 refl
      (λ v. two_at n g held x z (v ∷ []) ((F ++ []) ++ v ∷ []) m (m + 1) (ap (λ s. s ++ v ∷ []) (append-nil F) ∙ (push D z (v ∷ []) ∙ push held x (z ∷ v ∷ []))) count refl) (λ v. loose_held n g bound m (omega (arith, count))) u
      (λ k c. deep k c.0.0.0.0) (λ k c. c.1))))
      (seq p a f gs (from_point p sites a f n gs classes meant h.0 D (λ g. part.Gives p sites a n hs i g z j.6) j.5 j.11 (idle.expr p sites a f n gs classes meant sc i h.0 (m + 1) h.1 h.8 h.9 h.14)
      (λ g u. under p a f gs (λ k c. (more_around p sites a f n gs classes meant sc hs held (x ∷ []) k c.0.0.0.0.0, c.1)) (expr p sites a f n gs classes meant sc hs i h.0 (m + 1) h.1 h.8 h.9 h.14 D next g z j.6 u)))
      (under p a f gs (λ k c. (c.0.0.0.0.0.0, c.1)) (expr p sites a f n gs classes meant sc hs w b m h.0 h.9 hi h.15 held count e x j.5 j.10)))))))
    where
      deep : (k : Spots) → R sc hs held k → R sc hs ((held ++ j.0 ∷ []) ++ j.1 ∷ []) k
      deep k c = more_around p sites a f n gs classes meant sc hs (held ++ j.0 ∷ []) (j.1 ∷ []) k (more_around p sites a f n gs classes meant sc hs held (j.0 ∷ []) k c)
  augment sc hs node (Parts at parts) o l b m q lo hi h held count e r j =
      let value = a.element at in
      act p sites a f n gs classes meant sc b at true row.Copy [] m (first q m) h e held hs [] value count j.0 refl refl j.1 refl j.3 (λ k c. c.0.0)
      (λ go k c. goes_keeping p a f n classes k q m e held (value ∷ []) (held ++ value ∷ []) refl count (led p a f n classes k q r e held (j.2 (goes_no_stop row.Copy value refl go)) c.1))

  -- ---- exceptions

  -- the handlers of a clause's classes stand before others
  watched_hands : (k : Spots) (held : List Shape) (local : Option ℕ) (to m : ℕ) (r : Point) (cs : List ℕ) (hs : List Handler) (hands : List Hand) (default : Aim) → m ≡ n + length held → LocalIn n local → Q k to r held → Watched p a f n classes k held hs hands default
      → Watched p a f n classes k held (handlers r local cs ++ hs) (hands_of local (record { to = to; keep = m }) cs hands) default
  watched_hands k held local to m r [] hs hands default count inside leads watched = watched
  watched_hands k held local to m r (c ∷ cs) hs hands default count inside leads watched =
      (held, [], r, handlers r local cs ++ hs, sym (append-nil held), count, inside, refl, leads, watched_hands k held local to m r cs hs hands default count inside leads watched)

  -- the exception is raised again
  raises_again : {lo hi : ℕ} {C : Spots → Type 0} (sc : Scope) (hs : List Handler) (b node m : ℕ) → marks.Acts meant gs f n sc b node false row.Raise (m ∷ []) (m + 1) (first never_block 0) lo hi → (held : List Shape) → m ≡ n + length held → (r : Point) → At r (λ g. See hs g)
      → ((k : Spots) → C k → R sc hs held k) → S lo hi C (λ k. Q k b r (held ++ Inst 0 false ∷ []))
  raises_again sc hs b node m h held count r j around =
      from_point p sites a f n gs classes meant b (held ++ Inst 0 false ∷ []) (λ g. See hs g) r j (idle.op p sites a f n gs classes meant sc b node false row.Raise (m ∷ []) (m + 1) (first never_block 0) h)
      (λ g seen.
      act p sites a f n gs classes meant sc b node false row.Raise (m ∷ []) (m + 1) (first never_block 0) h g (held ++ Inst 0 false ∷ []) hs (Inst 0 false ∷ []) NoneOnly (omega (arith, count, one_more held (Inst 0 false))) seen
      (ap (λ s. s ∷ []) (at_in n g held (Inst 0 false) (NoneOnly ∷ []) ((held ++ Inst 0 false ∷ []) ++ NoneOnly ∷ []) m (push held (Inst 0 false) (NoneOnly ∷ [])) count)) (loose_held n g bound m (omega (arith, count)))
      (refl, (λ some. (((subst (λ t. Lower p a f n classes (given t NoneOnly) NoneOnly) (sym (sub_self p.tables.classes classes 0)) (self p a f n classes NoneOnly)).0, tt), tt)), λ f. record { sound = refl; shallow = omega arith }) tt (unmarked p sites a f n gs classes meant node false row.Raise (Inst 0 false ∷ []) refl refl)
      (λ k c. watches p sites a f n gs classes meant sc hs held (Inst 0 false ∷ []) k (around k c)) (λ go k c. ((around k c).1, tt)))

  -- the element of the result is free, and it has its place
  module _ (free : is_clash (result p sites a f n gs classes meant) ≡ false) (formed : IsFormed (result p sites a f n gs classes meant)) (placed : p.places.result f < length a.parts.cells) where
    abbrev Res : Shape
    Res = result p sites a f n gs classes meant

    -- a block of statements
    abbrev pub OfLines : Scope → List Handler → Block → Type 0
    OfLines sc hs s = (b m : ℕ) (t : Ways) (lo hi : ℕ) → marks.HasBlock meant gs f n sc s b m t lo hi → (held : List Shape) → m ≡ n + length held → (e : Environment) (x : Exits) → leave.LeavesAll p sites a f n hs s e x → S lo hi (λ k. R sc hs held k × O k t x held) (λ k. E k b e held)

    -- ---- the turns of a `for`

    abbrev pub Head : List Handler → ℕ → Target → Subject → Shape → Shape → Point → Point → Environment → Type 0
    Head hs node target over top place begin next v =
        See hs v
        × (u : Shape) × part.Operates p sites a n (row.HasItem (step_of over)) node (top ∷ place ∷ []) u
        × (goes true u ≡ true → (y : Shape) × (taken : Point) × part.Acts p sites a n hs node false (row.Item (step_of over)) (top ∷ place ∷ []) v y taken × At taken (λ g. part.Binds p sites a n hs target g y begin))
        × (goes false u ≡ true → LeadsTo p a f n classes v next)

    for_outs : (k : Spots) (t : Ways) (x : Exits) (held : List Shape) (m advance : ℕ) (over place : Shape) (r : Point) → m ≡ n + length held → O k t x held → Q k advance r (held ++ over ∷ place ∷ [])
        → O k (graph_within meant gs f n t (record { to = advance; keep = m + 2 }) (record { to = t.norm; keep = m })) (within x r x.next) (held ++ over ∷ place ∷ [])
    for_outs k t x held m advance over place r count o there = record {
      next = there;
      broken = (held, over ∷ place ∷ [], refl, count, o.next);
      continued = (held ++ over ∷ place ∷ [], [], sym (append-nil (held ++ over ∷ place ∷ [])), omega (arith, count, length-append held (over ∷ place ∷ [])), there);
      returned = back_more p sites a f n gs classes meant k t.ret x.returned held (over ∷ place ∷ []) o.returned;
      reached = o.reached;
      gives = o.gives;
    }

    for_turns : (sc : Scope) (hs : List Handler) (node : ℕ) (target : Target) (over : Subject) (body : Block) → OfLines sc hs body → (m : ℕ) (t : Ways) (top asked advance begin turn_block lo l1 l2 l3 l4 hi : ℕ) → marks.HeadAt meant gs f n m top asked lo l1 → marks.AdvanceAt meant gs f n sc node (step_of over) m top advance l1 l2
        → marks.HasBlock meant gs f n sc body begin (m + 2) (graph_within meant gs f n t (record { to = advance; keep = m + 2 }) (record { to = t.norm; keep = m })) l2 l3 → marks.HasBind meant gs f n sc target [] (m + 2) (m + 2 + 1) (m + 2) turn_block begin l3 l4
        → marks.TurnAt meant gs f n sc node (step_of over) m turn_block (first t.norm m) asked l4 hi → (held : List Shape) → m ≡ n + length held → (x : Exits) (walk place : Shape) (starts next : Point) → At starts (λ g. leave.LeavesAll p sites a f n hs body g (within x next x.next))
        → (r : Point) → At r (Head hs node target over walk place starts x.next) → At next (λ g. part.Acts p sites a n hs node false (row.Advance (step_of over)) (walk ∷ place ∷ []) g place r) → S lo hi (λ k. R sc hs held k × O k t x held) (λ k. Q k top r (held ++ walk ∷ place ∷ []))
    for_turns sc hs node target over body body_of m t top asked advance begin turn_block lo l1 l2 l3 l4 hi h1 h2 h3 h4 h5 held count x walk place starts next inside Never i on =
        so p a f gs (λ k c u. tt) (under p a f gs (λ k c. tt)
        (idle.both_of p sites a f n gs classes meant (idle.block p sites a f n gs classes meant top (m + 2) (Go (first asked (m + 2))) h1)
        (idle.both_of p sites a f n gs classes meant (idle.op p sites a f n gs classes meant sc advance node false (row.Advance (step_of over)) (m ∷ (m + 1) ∷ []) (m + 2) (first_and top (m + 1) (m + 2)) h2)
        (idle.both_of p sites a f n gs classes meant (idle.lines p sites a f n gs classes meant sc body begin (m + 2) (graph_within meant gs f n t (record { to = advance; keep = m + 2 }) (record { to = t.norm; keep = m })) l2 l3 h3)
        (idle.both_of p sites a f n gs classes meant (idle.bind p sites a f n gs classes meant sc target [] (m + 2) (m + 2 + 1) (m + 2) turn_block begin l3 l4 h4)
        (idle.one_turn p sites a f n gs classes meant sc node (step_of over) m turn_block (first t.norm m) asked l4 hi h5))))))
    for_turns sc hs node target over body body_of m t top asked advance begin turn_block lo l1 l2 l3 l4 hi h1 h2 h3 h4 h5 held count x walk place starts next inside (With v) i on =
        let all = held ++ walk ∷ place ∷ [] in
        let wide : m + 2 ≡ n + length all = omega (arith, count, length-append held (walk ∷ place ∷ [])) in
        let here : Spot = spot n v all bound in
        let inner : Ways = graph_within meant gs f n t (record { to = advance; keep = m + 2 }) (record { to = t.norm; keep = m }) in
        let Bind : Environment → Shape → Point → Type 0 = λ g y r. part.Binds p sites a n hs target g y r in
        let s = turn_of p sites a f n gs classes meant hs node (step_of over) Bind walk place v starts i.1 i.3 in
        so p a f gs (λ k c u. stands_there p sites a f n gs classes meant k top v all u.0)
        (head p a f gs top h1.0.0 (m + 2) h1.0.1 h1.0.2 (Go (first asked (m + 2))) h1.1 h1.0.3 here tt
        (seq p a f gs (advance_at p sites a f n gs classes meant sc hs node (step_of over) m top advance h2 held count walk place next (With v) on (λ k c. c.0.0) (λ k c. stands_there p sites a f n gs classes meant k top v all c.1))
        (seq p a f gs (from_point p sites a f n gs classes meant begin all (λ g. leave.LeavesAll p sites a f n hs body g (within x next x.next)) starts inside (idle.lines p sites a f n gs classes meant sc body begin (m + 2) inner l2 l3 h3)
        (λ g u. under p a f gs (λ k c. (more_around p sites a f n gs classes meant sc hs held (walk ∷ place ∷ []) k c.0.0.0, for_outs k t x held m advance walk place next count c.0.0.1 c.1)) (body_of begin (m + 2) inner l2 l3 h3 all wide g (within x next x.next) u)))
        (seq p a f gs (bound_at p sites a f n gs classes meant hs node (step_of over) Bind walk place v starts i.1 turn_block held s (idle.bind p sites a f n gs classes meant sc target [] (m + 2) (m + 2 + 1) (m + 2) turn_block begin l3 l4 h4)
        (λ g y u. under p a f gs (λ k c. (more_around p sites a f n gs classes meant sc hs held (walk ∷ place ∷ []) k c.0.0.0.0, c.1)) (turn p sites a f n gs classes meant sc hs target (m + 2) turn_block begin l3 l4 h4 all wide g y starts u)))
        (turn_at p sites a f n gs classes meant hs node (step_of over) Bind walk place v starts i.1 sc m turn_block (first t.norm m) asked h5 held count i.0 i.2 s (λ k c. c.0.0.0.0.0) (λ k c. c.1)
        (λ k c go. goes_keeping p a f n classes k t.norm m v held ((walk ∷ place ∷ []) ++ i.1 ∷ []) (all ++ i.1 ∷ []) (append_assoc held (walk ∷ place ∷ []) (i.1 ∷ [])) count (led p a f n classes k t.norm x.next v held (i.4 go) c.0.0.0.0.1.next))))))
        (λ k c u reached. goes_keeping p a f n classes k asked (m + 2) v all [] all (sym (append-nil all)) wide u.1.1.1))

    -- ---- the last part of a `finally`, for each kind of exit

    module _ (sc : Scope) (hs : List Handler) (last : Block) (last_of : OfLines sc hs last) (m : ℕ) (t : Ways) (held : List Shape) (count : m ≡ n + length held) (x : Exits) where
      left : (r : Point) (aim : Aim) (goal : Goal) (out begin l1 l2 l3 : ℕ) → marks.Is meant gs f n out m (Go (on_to aim)) l1 l2 → marks.HasBlock meant gs f n sc last begin m (onto t out) l2 l3
          → At r (λ g. (behind : Point) × leave.LeavesAll p sites a f n hs last g (record x { next = behind }) × At behind (λ v. leave.GoesTo p sites a f n v goal)) → ((k : Spots) → O k t x held → Out p sites a f n gs classes meant k aim goal held) → S l1 l3 (λ k. R sc hs held k × O k t x held) (λ k. Q k begin r held)
      left Never aim goal out begin l1 l2 l3 u v i to = so p a f gs (λ k c w. tt) (under p a f gs (λ k c. tt) (idle.both_of p sites a f n gs classes meant (idle.block p sites a f n gs classes meant out m (Go (on_to aim)) u) (idle.lines p sites a f n gs classes meant sc last begin m (onto t out) l2 l3 v)))
      left (With g) aim goal out begin l1 l2 l3 u v i to =
          so p a f gs (λ k c w. w.1)
          (seq p a f gs (from_point p sites a f n gs classes meant out held (λ w. leave.GoesTo p sites a f n w goal) i.0 i.2 (idle.block p sites a f n gs classes meant out m (Go (on_to aim)) u) (λ w y. out_to p sites a f n gs classes meant out m aim u held w goal y (λ k c. to k c.1)))
          (under p a f gs (λ k c. (c.0.0, outs_next p sites a f n gs classes meant k t x held out i.0 c.0.1 c.1)) (last_of begin m (onto t out) l2 l3 v held count g (record x { next = i.0 }) i.1)))

      returned : (r : Point) (out begin l1 l2 l3 : ℕ) → marks.Is meant gs f n out (m + 1) (Go (first_and t.ret.to t.ret.keep m)) l1 l2 → marks.HasBlock meant gs f n sc last begin (m + 1) (onto t out) l2 l3
          → At r (λ g. (behind : Point) × leave.LeavesAll p sites a f n hs last g (record x { next = behind }) × At behind (λ v. leave.GoesTo p sites a f n v x.returned)) → S l1 l3 (λ k. R sc hs held k × O k t x held) (λ k. Q k begin r (held ++ result p sites a f n gs classes meant ∷ []))
      returned Never out begin l1 l2 l3 u v i = so p a f gs (λ k c w. tt) (under p a f gs (λ k c. tt) (idle.both_of p sites a f n gs classes meant (idle.block p sites a f n gs classes meant out (m + 1) (Go (first_and t.ret.to t.ret.keep m)) u) (idle.lines p sites a f n gs classes meant sc last begin (m + 1) (onto t out) l2 l3 v)))
      returned (With g) out begin l1 l2 l3 u v i =
          let value = result p sites a f n gs classes meant in
          let all = held ++ value ∷ [] in
          so p a f gs (λ k c w. w.1)
          (seq p a f gs (from_point p sites a f n gs classes meant out all (λ w. leave.GoesTo p sites a f n w x.returned) i.0 i.2 (idle.block p sites a f n gs classes meant out (m + 1) (Go (first_and t.ret.to t.ret.keep m)) u)
          (λ w y. go p sites a f n gs classes meant out (m + 1) (first_and t.ret.to t.ret.keep m) u w all (λ k c. subst (λ l. On p sites a f n gs classes meant k w l (first_and t.ret.to t.ret.keep m)) (append-nil all) (returns_on p sites a f n gs classes meant k w held [] value m t x.returned count (self p a f n classes value) y c.1.returned c.1.reached c.1.gives))))
          (under p a f gs (λ k c. (more_around p sites a f n gs classes meant sc hs held (value ∷ []) k c.0.0, outs_onto p sites a f n gs classes meant k t x held (value ∷ []) out i.0 c.0.1 c.1)) (last_of begin (m + 1) (onto t out) l2 l3 v all (omega (arith, count, one_more held value)) g (record x { next = i.0 }) i.1)))

      raised : (node : ℕ) (r : Point) (out begin l1 l2 l3 : ℕ) → marks.Acts meant gs f n sc out node false row.Raise (m ∷ []) (m + 1) (first never_block 0) l1 l2 → marks.HasBlock meant gs f n sc last begin (m + 1) (onto t out) l2 l3
          → At r (λ g. (behind : Point) × leave.LeavesAll p sites a f n hs last g (record x { next = behind }) × At behind (λ v. See hs v)) → S l1 l3 (λ k. R sc hs held k × O k t x held) (λ k. Q k begin r (held ++ Inst 0 false ∷ []))
      raised node Never out begin l1 l2 l3 u v i = so p a f gs (λ k c w. tt) (under p a f gs (λ k c. tt) (idle.both_of p sites a f n gs classes meant (idle.op p sites a f n gs classes meant sc out node false row.Raise (m ∷ []) (m + 1) (first never_block 0) u) (idle.lines p sites a f n gs classes meant sc last begin (m + 1) (onto t out) l2 l3 v)))
      raised node (With g) out begin l1 l2 l3 u v i =
          so p a f gs (λ k c w. w.1)
          (seq p a f gs (raises_again sc hs out node m u held count i.0 i.2 (λ k c. c.0))
          (under p a f gs (λ k c. (more_around p sites a f n gs classes meant sc hs held (Inst 0 false ∷ []) k c.0.0, outs_onto p sites a f n gs classes meant k t x held (Inst 0 false ∷ []) out i.0 c.0.1 c.1)) (last_of begin (m + 1) (onto t out) l2 l3 v (held ++ Inst 0 false ∷ []) (omega (arith, count, one_more held (Inst 0 false))) g (record x { next = i.0 }) i.1)))

    -- ---- a `while`

    while_outs : (k : Spots) (t : Ways) (x : Exits) (held : List Shape) (m b : ℕ) (v : Environment) → m ≡ n + length held → O k t x held → Q k b (With v) held → O k (graph_within meant gs f n t (record { to = b; keep = m }) (record { to = t.norm; keep = m })) (within x (With v) x.next) held
    while_outs k t x held m b v count o there = record {
      next = there;
      broken = (held, [], sym (append-nil held), count, o.next);
      continued = (held, [], sym (append-nil held), count, there);
      returned = o.returned;
      reached = o.reached;
      gives = o.gives;
    }

    mutual
      pub stmt : (sc : Scope) (hs : List Handler) (s : Stmt) (b m : ℕ) (t : Ways) (lo hi : ℕ) → marks.HasStmt meant gs f n sc s b m t lo hi → (held : List Shape) → m ≡ n + length held → (e : Environment) (x : Exits) → leave.Leaves p sites a f n hs s e x → S lo hi (λ k. R sc hs held k × O k t x held) (λ k. E k b e held)
      stmt sc hs (Pass node) b m t lo hi h held count e x j = straight p a f gs h.1 (λ k c. subst (λ i. E k i e held) (sym h.0) (led p a f n classes k t.norm x.next e held j c.1.next))
      stmt sc hs (Break node) b m t lo hi h held count e x j = out_to p sites a f n gs classes meant b m t.brk h held e x.broken j (λ k c. c.1.broken)
      stmt sc hs (Continue node) b m t lo hi h held count e x j = out_to p sites a f n gs classes meant b m t.cont h held e x.continued j (λ k c. c.1.continued)
      stmt sc hs (Return node l) b m t lo hi h held count e x j =
          so p a f gs (λ k c u. u.1)
          (seq p a f gs (from_point p sites a f n gs classes meant h.0 (held ++ j.0 ∷ []) (λ g. leave.Returns p sites a f n j.0 × leave.GoesTo p sites a f n g x.returned) j.1 j.3 (idle.gives_back p sites a f n gs classes meant sc node h.0 m t.ret lo h.1 h.2)
          (λ g u. gives_back p sites a f n gs classes meant sc node h.0 m t h.2 held count g j.0 x free ((u.0 placed).0, λ h. formed) u.1 (λ k c. c.1)))
          (under p a f gs (λ k c. (c.0.0, c.1)) (expr p sites a f n gs classes meant sc hs l b m h.0 h.1 hi h.3 held count e j.0 j.1 j.2)))
      stmt sc hs (Do node l) b m t lo hi h held count e x j =
          so p a f gs (λ k c u. u.1)
          (seq p a f gs (drop_to p sites a f n gs classes meant h.0 (m + 1) t.norm m h.2 held (j.0 ∷ []) count x.next (λ k c. c.1.next))
          (under p a f gs (λ k c. (c.0.0, c.1)) (expr p sites a f n gs classes meant sc hs l b m h.0 h.1 hi h.3 held count e j.0 x.next j.1)))
      stmt sc hs (Assign node ts l) b m t lo hi h held count e x j =
          so p a f gs (λ k c u. u.1)
          (seq p a f gs (from_point p sites a f n gs classes meant h.0 (held ++ j.0 ∷ []) (λ g. leave.BindsEach p sites a f n hs ts g j.0 x.next) j.1 j.3 (idle.targets p sites a f n gs classes meant sc ts h.0 m t.norm lo h.1 h.2)
          (λ g u. under p a f gs (λ k c. (c.0, c.1.next)) (targets sc hs ts h.0 m t.norm lo h.1 h.2 held count g j.0 x.next u)))
          (under p a f gs (λ k c. (c.0.0, c.1)) (expr p sites a f n gs classes meant sc hs l b m h.0 h.1 hi h.3 held count e j.0 j.1 j.2)))
      stmt sc hs (Augment node target o l) b m t lo hi h held count e x j = under p a f gs (λ k c. (c.0, c.1.next)) (augment sc hs node target o l b m t.norm lo hi h held count e x.next j)
      stmt sc hs (If node l one_way other) b m t lo hi h held count e x j =
          so p a f gs (λ k c u. u.1.1)
          (seq p a f gs (from_point p sites a f n gs classes meant h.1 held (λ g. leave.LeavesAll p sites a f n hs other g x) j.1 j.4 (idle.lines p sites a f n gs classes meant sc other h.1 m t lo h.2 h.4) (λ g u. lines sc hs other h.1 m t lo h.2 h.4 held count g x u))
          (seq p a f gs (from_point p sites a f n gs classes meant h.0 held (λ g. leave.LeavesAll p sites a f n hs one_way g x) j.0 j.3 (idle.lines p sites a f n gs classes meant sc one_way h.0 m t h.2 h.3 h.5) (λ g u. under p a f gs (λ k c. c.0) (lines sc hs one_way h.0 m t h.2 h.3 h.5 held count g x u)))
          (under p a f gs (λ k c. (c.0.0.0, c.1, c.0.1)) (test p sites a f n gs classes meant sc hs node l b m h.0 h.1 h.3 hi h.6 held count e j.0 j.1 j.2))))
      stmt sc hs (While node l body) b m t lo hi h held count e x (Never, start, leads, asking, turns) = absurd leads
      stmt sc hs (While node l body) b m t lo hi h held count e x (With v, start, leads, asking, turns) =
          let here : Spot = spot n v held bound in
          so p a f gs (λ k c u. led p a f n classes k b (With v) e held leads (stands_there p sites a f n gs classes meant k b v held u.0))
          (head p a f gs b h.6.0.0 m h.6.0.1 h.6.0.2 (Go (first h.0 m)) h.6.1 h.6.0.3 here tt
          (seq p a f gs (from_point p sites a f n gs classes meant h.2 held (λ g. See hs g × leave.LeavesAll p sites a f n hs body g (within x (With v) x.next)) start turns (idle.lines p sites a f n gs classes meant sc body h.2 m (graph_within meant gs f n t (record { to = b; keep = m }) (record { to = t.norm; keep = m })) h.3 h.4 h.7)
          (λ g u. under p a f gs (λ k c. (c.0.0, while_outs k t x held m b v count c.0.1 (stands_there p sites a f n gs classes meant k b v held c.1))) (lines sc hs body h.2 m (graph_within meant gs f n t (record { to = b; keep = m }) (record { to = t.norm; keep = m })) h.3 h.4 h.7 held count g (within x (With v) x.next) u.1)))
          (seq p a f gs (turn_in start turns)
          (under p a f gs (λ k c. (c.0.0.0.0, c.1, c.0.0.0.1.next)) (test p sites a f n gs classes meant sc hs node l h.0 m h.1 t.norm h.5 hi h.9 held count v start x.next asking))))
          (λ k c u reached. goes_keeping p a f n classes k h.0 m v held [] held (sym (append-nil held)) count u.1.1))
        where
          turn_in : (r : Point) → At r (λ g. See hs g × leave.LeavesAll p sites a f n hs body g (within x (With v) x.next)) → S h.4 h.5 (λ k. ((R sc hs held k × O k t x held) × (k b ≡ spot n v held bound)) × Q k h.2 r held) (λ k. Q k h.1 r held)
          turn_in Never u = so p a f gs (λ k c i. tt) (under p a f gs (λ k c. tt) (idle.op p sites a f n gs classes meant sc h.1 node false row.Turn [] m (first h.2 m) h.8))
          turn_in (With g) u = still sc hs h.1 node m h.2 row.Turn h.8 (refl, (λ k. ((none, tt), tt)), λ f. record { sound = refl; shallow = omega arith }) (unmarked p sites a f n gs classes meant node false row.Turn [] refl refl) held count g u.0 (λ k c. c.0.0.0) (λ k c. c.1)
      stmt sc hs (For node target over body) b m t lo hi h held count e x j =
          so p a f gs (λ k c u. u.1)
          (seq p a f gs (for_turns sc hs node target over body (lines sc hs body) m t h.0 h.1 h.2 h.3 h.4 lo h.5 h.6 h.7 h.8 h.9 h.10 h.11 h.12 h.13 h.14 held count x j.0 j.1 j.3 j.4 j.7 j.2 j.6.0 j.6.1)
          (under p a f gs (λ k c. (c.0.0, c.1)) (subject p sites a f n gs classes meant sc hs node over b m h.0 h.9 hi h.15 held count e j.0 j.1 j.2 j.5)))
      stmt sc hs (Try node body cs other) b m t lo hi h held count e x j =
          let inside : Scope = record { hands = h.3; default = h.4; covers = covers_within meant.classes (plain_clauses cs) sc.covers; tried = true } in
          so p a f gs (λ k c u. u.1.1)
          (seq p a f gs (from_point p sites a f n gs classes meant h.0 held (λ g. leave.LeavesAll p sites a f n hs other g x) j.1 j.4 (idle.lines p sites a f n gs classes meant sc other h.0 m t lo h.1 h.5) (λ g u. lines sc hs other h.0 m t lo h.1 h.5 held count g x u))
          (seq p a f gs (under p a f gs (λ k c. c.0) (clauses sc hs cs m t h.3 h.4 h.1 h.2 h.6 held count x j.0 j.2))
          (under p a f gs (λ k c. ((c.1, c.0.0.0.1), outs_next p sites a f n gs classes meant k t x held h.0 j.1 c.0.0.1 c.0.1)) (lines inside j.0 body b m (onto t h.0) h.2 hi h.7 held count e (record x { next = j.1 }) j.3))))
      stmt sc hs (Finally node body last) b m t lo hi h held count e x j =
          let inside : Scope = record { hands = []; default = record { to = h.4; keep = m }; covers = sc.covers; tried = true } in
          let ways : Ways = record { norm = h.0; brk = record { to = h.1; keep = m }; cont = record { to = h.2; keep = m }; ret = record { to = h.3; keep = m } } in
          let out : Exits = record { next = j.0; broken = Towards j.1; continued = Towards j.2; returned = Towards j.3 } in
          so p a f gs (λ k c u. u.1.1.1.1.1)
          (seq p a f gs (from_point p sites a f n gs classes meant h.0 held (λ g. leave.LeavesAll p sites a f n hs last g x) j.0 j.6 (idle.lines p sites a f n gs classes meant sc last h.0 m t lo h.9 h.18) (λ g u. lines sc hs last h.0 m t lo h.9 h.18 held count g x u))
          (seq p a f gs (under p a f gs (λ k c. c.0) (left sc hs last (lines sc hs last) m t held count x j.1 t.brk x.broken h.5 h.1 h.9 h.10 h.11 h.19 h.20 j.7 (λ k o. o.broken)))
          (seq p a f gs (under p a f gs (λ k c. c.0.0) (left sc hs last (lines sc hs last) m t held count x j.2 t.cont x.continued h.6 h.2 h.11 h.12 h.13 h.21 h.22 j.8 (λ k o. o.continued)))
          (seq p a f gs (under p a f gs (λ k c. c.0.0.0) (returned sc hs last (lines sc hs last) m t held count x j.3 h.7 h.3 h.13 h.14 h.15 h.23 h.24 j.9))
          (seq p a f gs (under p a f gs (λ k c. c.0.0.0.0) (raised sc hs last (lines sc hs last) m t held count x node j.4 h.8 h.4 h.15 h.16 h.17 h.25 h.26 j.10))
          (under p a f gs (λ k c. (
            (inr (held, [], j.4, sym (append-nil held), count, refl, c.1), c.0.0.0.0.0.0.1),
            record {
              next = c.0.0.0.0.1;
              broken = (held, [], sym (append-nil held), count, c.0.0.0.1);
              continued = (held, [], sym (append-nil held), count, c.0.0.1);
              returned = (held, [], sym (append-nil held), count, c.0.1);
              reached = c.0.0.0.0.0.1.reached;
              gives = c.0.0.0.0.0.1.gives;
            },
          )) (lines inside (record { point = j.4; bound = None } ∷ []) body b m ways h.17 hi h.27 held count e out j.5)))))))

      pub lines : (sc : Scope) (hs : List Handler) (s : Block) → OfLines sc hs s
      lines sc hs done b m t lo hi h held count e x j = straight p a f gs h.1 (λ k c. subst (λ i. E k i e held) (sym h.0) (led p a f n classes k t.norm x.next e held j c.1.next))
      lines sc hs (line s rest) b m t lo hi h held count e x j =
          so p a f gs (λ k c u. u.1.1.1)
          (seq p a f gs (from_point p sites a f n gs classes meant h.2 held (λ g. See hs g × leave.LeavesAll p sites a f n hs rest g x) j.0 j.3 (idle.lines p sites a f n gs classes meant sc rest h.2 m t lo h.3 h.6) (λ g u. lines sc hs rest h.2 m t lo h.3 h.6 held count g x u.1))
          (seq p a f gs (mark_behind sc hs sc.tried (node_of s) h.1 m h.2 h.7 held count (λ g. leave.LeavesAll p sites a f n hs rest g x) j.0 j.3 (λ k c. c.0.0) (λ k c. c.1))
          (seq p a f gs (under p a f gs (λ k c. (c.0.0.0, outs_next p sites a f n gs classes meant k t x held h.1 j.0 c.0.0.1 c.1)) (stmt sc hs s h.0 m (onto t h.1) h.4 h.5 h.8 held count e (record x { next = j.0 }) j.2))
          (mark_at sc hs sc.tried (node_of s) b m h.0 h.9 held count e j.1 (λ k c. c.0.0.0.0) (λ k c. c.1)))))

      -- the clauses give hands that stand for these handlers
      clauses : (sc : Scope) (hs : List Handler) (cs : Clauses) (m : ℕ) (t : Ways) (hands : List Hand) (default : Aim) (lo hi : ℕ) → marks.HasClauses meant gs f n sc cs m t hands default lo hi → (held : List Shape) → m ≡ n + length held → (x : Exits) (all : List Handler) → leave.Handles p sites a f n hs cs all x
          → S lo hi (λ k. R sc hs held k × O k t x held) (λ k. Watched p a f n classes k held all hands default)
      clauses sc hs no_clauses m t hands default lo hi h held count x all j =
          straight p a f gs h.2 (λ k c. subst (λ u. Watched p a f n classes k held u hands default) (sym j) (subst (λ u. Watched p a f n classes k held hs u default) (sym h.0) (subst (λ u. Watched p a f n classes k held hs sc.hands u) (sym h.1) c.0.0)))
      clauses sc hs (clause None local body rest) m t hands default lo hi h held count x all j =
          so p a f gs (λ k c u. subst (λ w. Watched p a f n classes k held all w default) (sym h.4) (subst (λ w. Watched p a f n classes k held all [] w) (sym h.5) (inr (held, [], j.0, sym (append-nil held), count, j.1, u.1))))
          (seq p a f gs (from_point p sites a f n gs classes meant h.0 held (λ g. leave.LeavesAll p sites a f n hs body g x) j.0 j.2 (idle.lines p sites a f n gs classes meant sc body h.0 m t lo h.2 h.6) (λ g u. lines sc hs body h.0 m t lo h.2 h.6 held count g x u))
          (drop_to p sites a f n gs classes meant h.1 (m + 1) h.0 m h.7 held (Inst 0 false ∷ []) count j.0 (λ k c. c.1)))
      clauses sc hs (clause (Some classes_of) local body rest) m t hands default lo hi h held count x all j =
          so p a f gs (λ k c u. subst (λ w. Watched p a f n classes k held w hands default) (sym j.2) (subst (λ w. Watched p a f n classes k held (handlers j.0 local classes_of ++ j.1) w default) (sym h.4)
          (watched_hands k held local h.0 m j.0 classes_of j.1 h.2 default count h.3 u.0 u.1)))
          (seq p a f gs (from_point p sites a f n gs classes meant h.0 held (λ g. leave.LeavesAll p sites a f n hs body g x) j.0 j.3 (idle.lines p sites a f n gs classes meant sc body h.0 m t lo h.1 h.5) (λ g u. lines sc hs body h.0 m t lo h.1 h.5 held count g x u))
          (under p a f gs (λ k c. c.0) (clauses sc hs rest m t h.2 default h.1 hi h.6 held count x j.1 j.4)))
