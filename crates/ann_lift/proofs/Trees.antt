-- What stands at the blocks of all expressions and targets that are reached.
use Rattle.std.proofs.Common.{◌≡◌, ℕ, suc, ◌+◌, inl, inr, pos, Bool, false, List, [], ◌∷◌, ◌++◌, length, Option, None, refl, sym, ap, ◌∙◌, subst, arith, append_assoc, append-nil, length-append}
use Rattle.std.proofs.lemmas.Bool.{false≢true}
use Rattle.rpy_tree.specs.Value.{Object}
use Rattle.rpy_meaning.specs.declared.row.RowOp.{RowOp}
use Rattle.rpy_meaning.specs.declared.row.RowOp.TheVariants as row
use Rattle.rpy_meaning.specs.Tree as meaning
use Rattle.flow_graph.specs.declared.graph.Graphs.{Graphs}
use Rattle.flow_stands.specs.Places.{range, Scope, Go, first, first_and}
use Rattle.flow_stands.specs.Stands.{count, IsComparison}
use Rattle.flow_trees.specs.Tree.{Expr, Local, Constant, Apply, And, Or, Display, Comprehension, Exprs, none, more, Pairs, no_pairs, pair, Subject, Over, UpTo, FromTo, Condition, Always, Where, Target, Name, Attribute, Item, Parts, Targets, no_targets, more_targets, plain_exprs}
use Rattle.flow_trees.specs.Tells.{tells, by_ways}
use Rattle.flow_trees.specs.Marks as marks
use Rattle.flow_trees.specs.Marks.{Path, Place, Choice}
use Rattle.ann_lattice.specs.Shape.{Shape}
use Rattle.ann_lattice.specs.Laws.{IsTree}
use Rattle.ann_rules.specs.Program.{Whole}
use Rattle.ann_tree.specs.Annotation.{Annotation, Environment, Point, Never, With, Handler, At}
use Rattle.ann_tree.specs.Gives as part
use Rattle.ann_tree.specs.Gives.{Giving, GivingAll, Testing, Weighing, step_of}
use Rattle.ann_lift.specs.Spots.{Spots}
use Rattle.ann_lift.proofs.Lists.{one_more, push}
use Rattle.ann_lift.proofs.Lifted.{under, so, seq, straight}
use Rattle.ann_lift.proofs.States.{bound, at_in, loose_held, with_two}
use Rattle.ann_lift.proofs.Ways.{led, led_both, goes_swapped}
use Rattle.ann_lift.proofs.Acting.{go, from_point}
use Rattle.ann_lift.proofs.Telling.{Good, good_operation}
use Rattle.ann_lift.proofs.Forms.{Lf, I, T, A, OfOne, OfAll, OfTest, OfSides, OfStopped, put, put_dropped, leaf, local_at, constant_at, applied, not_at, sides_at, asks}
use Rattle.ann_lift.proofs.Walks.{three_at, as_list, more_around, OfPairs, and_at, or_at, display_at}
use Rattle.ann_lift.proofs.Taking.{along_push}
use Rattle.ann_lift.proofs.Targets.{OfBind, OfItems, as_point, bind_name, bind_attribute, bind_item, bind_parts}
use Rattle.ann_lift.proofs.Turns.{OfSubject, OfTurn, bind_turn, comprehension_at}
use Rattle.ann_lift.proofs.Idle as idle

abbrev IsMore : Path → Type 0
IsMore [] = ⊥
IsMore (step ∷ path) = Unit {0}

pushed : (path : Path) (step : marks.Step) → path ++ step ∷ [] ≡ [] → ⊥
pushed [] step h = subst IsMore h tt
pushed (other ∷ path) step h = subst IsMore h tt

compares_no_ways : (o : RowOp) (es : Exprs) → IsComparison o → by_ways o es ≡ false
compares_no_ways (row.Compare w) es h = refl
compares_no_ways o es h = absurd h

module _ (p : Whole) (sites : List (Option Object)) (a : Annotation) (f n : ℕ) (gs : Graphs) (classes : IsTree p.tables.classes) (meant : meaning.Program) where
  abbrev S : ℕ → ℕ → (Spots → Type 0) → (Spots → Type 0) → Type 0
  S lo hi C E = Lf p sites a f n gs classes meant lo hi C E

  abbrev E : Spots → ℕ → Environment → List Shape → Type 0
  E at b e held = I p sites a f n gs classes meant at b e held

  abbrev Q : Spots → ℕ → Point → List Shape → Type 0
  Q at b r held = T p sites a f n gs classes meant at b r held

  abbrev R : Scope → List Handler → List Shape → Spots → Type 0
  R sc hs held at = A p sites a f n gs classes meant sc hs held at

  abbrev One : Scope → List Handler → Expr → Type 0
  One sc hs l = OfOne p sites a f n gs classes meant sc hs (marks.HasExpr meant gs f n sc l) (part.Gives p sites a n hs l)

  -- ---- of the parts of an operation

  gives_of : (hs : List Handler) (l : Expr) (e : Environment) (xs : List Shape) (x : Shape) (r : Point) → part.Weighs p sites a n hs l e xs x r → part.Gives p sites a n hs l e x r
  gives_of hs (Apply node value o es) e xs x r h = (xs, h)
  gives_of hs (Local node i) e xs x r h = h.1
  gives_of hs (Constant node c v) e xs x r h = h.1
  gives_of hs (And node l k) e xs x r h = h.1
  gives_of hs (Or node l k) e xs x r h = h.1
  gives_of hs (Display node site ps) e xs x r h = h.1
  gives_of hs (Comprehension node site item target subject c) e xs x r h = h.1

  goods : (sc : Scope) (l : Expr) (b m c q lo hi : ℕ) → marks.HasSides meant gs f n sc l b m c q lo hi → (way : Bool) → Good c (tells l way)
  goods sc (Apply node value o es) b m c q lo hi h way = subst (λ k. Good k (tells (Apply node value o es) way)) (sym h.0) (good_operation o es way)
  goods sc (Local node i) b m c q lo hi h way = absurd h
  goods sc (Constant node k v) b m c q lo hi h way = absurd h
  goods sc (And node l r) b m c q lo hi h way = absurd h
  goods sc (Or node l r) b m c q lo hi h way = absurd h
  goods sc (Display node site ps) b m c q lo hi h way = absurd h
  goods sc (Comprehension node site item target subject k) b m c q lo hi h way = absurd h

  none_goods : (l : Expr) (b m c q lo hi : ℕ) → ⊥ → (way : Bool) → Good c (tells l way)
  none_goods l b m c q lo hi h way = absurd h

  no_sides : (sc : Scope) (hs : List Handler) (G : Weighing) → OfSides p sites a f n gs classes meant sc hs (λ b m c q lo hi. ⊥) G
  no_sides sc hs G b m c q lo hi h held count e xs x r j = absurd h

  alone : (G : Giving) (e : Environment) (xs : List Shape) (x : Shape) (r : Point) → part.Alone p sites a n G e xs x r → G e x r
  alone G e xs x r h = h.1

  -- what an operation gives, as a value
  apply_at : (sc : Scope) (hs : List Handler) (node : ℕ) (value : Bool) (o : RowOp) (ways : Bool) (c : ℕ) (Es : Place) (G : GivingAll) (Tst : Choice) (GT : Testing) → OfAll p sites a f n gs classes meant sc hs Es G → OfStopped p sites a f n gs classes meant sc hs Es G c → OfTest p sites a f n gs classes meant sc hs Tst GT
      → OfOne p sites a f n gs classes meant sc hs (marks.ApplyAt meant gs f n sc node value o ways c Es Tst) (part.ApplyAt p sites a n hs node value o ways G GT)
  apply_at sc hs node value o ways c Es G Tst GT all stopped test b m q lo hi (inl h) held count e x r (xs, inl j) = applied p sites a f n gs classes meant sc hs node value o c Es G all stopped b m q lo hi h.1 held count e xs x r j.1
  apply_at sc hs node value o ways c Es G Tst GT all stopped test b m q lo hi (inl h) held count e x r (xs, inr j) = absurd (false≢true (sym h.0 ∙ j.0))
  apply_at sc hs node value o ways c Es G Tst GT all stopped test b m q lo hi (inr h) held count e x r (xs, inl j) = absurd (false≢true (sym j.0 ∙ h.0))
  apply_at sc hs node value o ways c Es G Tst GT all stopped test b m q lo hi (inr h) held count e x r (xs, inr j) = not_at p sites a f n gs classes meant sc hs node Tst GT test b m q lo hi h.2 held count e x r j.1.1

  -- the first turn of a walk
  starts_to : (k : Spots) (q : ℕ) (r last : Point) (held : List Shape) (over place y z : Shape) → At last (λ g. part.Starts p sites a n y z g over place r) → Q k q r (held ++ over ∷ place ∷ []) → Q k q last ((held ++ y ∷ []) ++ z ∷ [])
  starts_to k q r Never held over place y z j leads = tt
  starts_to k q r (With g) held over place y z j leads =
      subst (λ l. E k q g l) (sym (push held y (z ∷ []))) (led_both p a f n classes k q r g (held ++ y ∷ z ∷ []) (held ++ over ∷ place ∷ []) (with_two p a f n classes held y z over place j.0 j.1) j.2 leads)

  mutual
    pub expr : (sc : Scope) (hs : List Handler) (l : Expr) → One sc hs l
    expr sc hs (Local node i) b m q lo hi h held count e x r j = local_at p sites a f n gs classes meant sc hs node i b m q lo hi h held count e x r j
    expr sc hs (Constant node c v) b m q lo hi h held count e x r j = constant_at p sites a f n gs classes meant sc hs node c v b m q lo hi h held count e x r j
    expr sc hs (Apply node value o es) b m q lo hi h held count_is e x r j =
        apply_at sc hs node value o (by_ways o es) (count (plain_exprs es)) (marks.HasExprs meant gs f n sc es) (part.GivesAll p sites a n hs es) (marks.HasNegated meant gs f n sc node es) (part.Negated p sites a n hs node es) (exprs sc hs es) (stopped sc hs es) (negated sc hs node es) b m q lo hi h held count_is e x r j
    expr sc hs (And node l k) b m q lo hi h held count_is e x r j =
        and_at p sites a f n gs classes meant sc hs node (marks.Asks meant gs f n sc node l (marks.HasExpr meant gs f n sc l) (marks.HasSides meant gs f n sc l)) (marks.HasExpr meant gs f n sc k) (part.Asks p sites a n hs node l (part.Weighs p sites a n hs l)) (part.Gives p sites a n hs k)
        (asks p sites a f n gs classes meant sc hs node l (marks.HasExpr meant gs f n sc l) (marks.HasSides meant gs f n sc l) (part.Gives p sites a n hs l) (part.Weighs p sites a n hs l) (expr sc hs l) (sides sc hs l) (gives_of hs l) (goods sc l)) (expr sc hs k) (idle.expr p sites a f n gs classes meant sc k) b m q lo hi h held count_is e x r j
    expr sc hs (Or node l k) b m q lo hi h held count_is e x r j =
        or_at p sites a f n gs classes meant sc hs node (marks.Asks meant gs f n sc node l (marks.HasExpr meant gs f n sc l) (marks.HasSides meant gs f n sc l)) (marks.HasExpr meant gs f n sc k) (part.Asks p sites a n hs node l (part.Weighs p sites a n hs l)) (part.Gives p sites a n hs k)
        (asks p sites a f n gs classes meant sc hs node l (marks.HasExpr meant gs f n sc l) (marks.HasSides meant gs f n sc l) (part.Gives p sites a n hs l) (part.Weighs p sites a n hs l) (expr sc hs l) (sides sc hs l) (gives_of hs l) (goods sc l)) (expr sc hs k) (idle.expr p sites a f n gs classes meant sc k) b m q lo hi h held count_is e x r j
    expr sc hs (Display node site ps) b m q lo hi h held count_is e x r j =
        display_at p sites a f n gs classes meant sc hs node site (marks.HasPairs meant gs f n sc node ps) (part.Puts p sites a n hs node ps) (pairs sc hs node ps) (idle.pairs p sites a f n gs classes meant sc node ps) b m q lo hi h held count_is e x r j
    expr sc hs (Comprehension node site item target over c) b m q lo hi h held count_is e x r j =
        comprehension_at p sites a f n gs classes meant sc hs node site (step_of over) (marks.HasSubject meant gs f n sc node over) (marks.HasBind meant gs f n sc target []) (marks.HasCondition meant gs f n sc node c) (marks.HasExpr meant gs f n sc item)
        (part.Begins p sites a n hs node over) (part.Binds p sites a n hs target) (part.Guards p sites a n hs node c) (part.Gives p sites a n hs item) (subject sc hs node over)
        (λ w t q lo hi u all wide g y r j. bind_turn p sites a f n gs classes meant sc hs (marks.HasBind meant gs f n sc target) (part.Binds p sites a n hs target) (bind sc hs target) w t q u all wide g y r j) (guards sc hs node c) (expr sc hs item)
        (idle.walked p sites a f n gs classes meant sc node over) (idle.bind p sites a f n gs classes meant sc target []) (idle.condition p sites a f n gs classes meant sc node c) (idle.expr p sites a f n gs classes meant sc item) b m q lo hi h held count_is e x r j

    exprs : (sc : Scope) (hs : List Handler) (es : Exprs) → OfAll p sites a f n gs classes meant sc hs (marks.HasExprs meant gs f n sc es) (part.GivesAll p sites a n hs es)
    exprs sc hs none b m q lo hi h held count_is e [] r j = straight p a f gs h.1 (λ k c. subst (λ i. E k i e held) (sym h.0) (led p a f n classes k q r e held j (as_point p sites a f n gs classes meant k q r (append-nil held) c.1)))
    exprs sc hs none b m q lo hi h held count_is e (x ∷ xs) r j = absurd j
    exprs sc hs (more l ls) b m q lo hi h held count_is e [] r j = absurd j
    exprs sc hs (more l ls) b m q lo hi h held count_is e (x ∷ xs) r j =
        so p a f gs (λ k c i. i.1)
        (seq p a f gs (from_point p sites a f n gs classes meant h.0 (held ++ x ∷ []) (λ g. part.GivesAll p sites a n hs ls g xs r) j.0 j.2 (idle.exprs p sites a f n gs classes meant sc ls h.0 (m + 1) q lo h.1 h.2)
        (λ g u. under p a f gs (λ k c. (more_around p sites a f n gs classes meant sc hs held (x ∷ []) k c.0, as_point p sites a f n gs classes meant k q r (sym (push held x xs)) c.1))
        (exprs sc hs ls h.0 (m + 1) q lo h.1 h.2 (held ++ x ∷ []) (omega (arith, count_is, one_more held x)) g xs r u)))
        (under p a f gs (λ k c. (c.0.0, c.1)) (expr sc hs l b m h.0 h.1 hi h.3 held count_is e x j.0 j.1)))

    stopped : (sc : Scope) (hs : List Handler) (es : Exprs) → OfStopped p sites a f n gs classes meant sc hs (marks.HasExprs meant gs f n sc es) (part.GivesAll p sites a n hs es) (count (plain_exprs es))
    stopped sc hs none b m q lo hi h held count_is e [] r j differ = absurd (differ refl)
    stopped sc hs none b m q lo hi h held count_is e (x ∷ xs) r j differ = absurd j
    stopped sc hs (more l ls) b m q lo hi h held count_is e [] r j differ = absurd j
    stopped sc hs (more l ls) b m q lo hi h held count_is e (x ∷ xs) r j differ =
        so p a f gs (λ k c i. i.1)
        (seq p a f gs (from_point p sites a f n gs classes meant h.0 (held ++ x ∷ []) (λ g. part.GivesAll p sites a n hs ls g xs r) j.0 j.2 (idle.exprs p sites a f n gs classes meant sc ls h.0 (m + 1) q lo h.1 h.2)
        (λ g u. under p a f gs (λ k c. more_around p sites a f n gs classes meant sc hs held (x ∷ []) k c)
        (stopped sc hs ls h.0 (m + 1) q lo h.1 h.2 (held ++ x ∷ []) (omega (arith, count_is, one_more held x)) g xs r u (λ same. differ (ap suc same)))))
        (under p a f gs (λ k c. (c.0, c.1)) (expr sc hs l b m h.0 h.1 hi h.3 held count_is e x j.0 j.1)))

    sides : (sc : Scope) (hs : List Handler) (l : Expr) → OfSides p sites a f n gs classes meant sc hs (marks.HasSides meant gs f n sc l) (part.Weighs p sites a n hs l)
    sides sc hs (Apply node value o es) b m c q lo hi h held count_is e xs x r j =
        sides_at p sites a f n gs classes meant sc hs node value o (by_ways o es) (count (plain_exprs es)) (marks.HasExprs meant gs f n sc es) (part.GivesAll p sites a n hs es) (part.Negated p sites a n hs node es) (exprs sc hs es) (stopped sc hs es) (compares_no_ways o es) b m c q lo hi h held count_is e xs x r j
    sides sc hs (Local node i) b m c q lo hi h held count_is e xs x r j = absurd h
    sides sc hs (Constant node k v) b m c q lo hi h held count_is e xs x r j = absurd h
    sides sc hs (And node l k) b m c q lo hi h held count_is e xs x r j = absurd h
    sides sc hs (Or node l k) b m c q lo hi h held count_is e xs x r j = absurd h
    sides sc hs (Display node site ps) b m c q lo hi h held count_is e xs x r j = absurd h
    sides sc hs (Comprehension node site item target over k) b m c q lo hi h held count_is e xs x r j = absurd h

    pub test : (sc : Scope) (hs : List Handler) (node : ℕ) (l : Expr) → OfTest p sites a f n gs classes meant sc hs (marks.HasTest meant gs f n sc node l) (part.Test p sites a n hs node l)
    test sc hs node (And inner l k) b m q1 q2 lo hi h held count_is e r1 r2 j =
        so p a f gs (λ k c i. i.1)
        (seq p a f gs (from_point p sites a f n gs classes meant h.0 held (λ g. part.Test p sites a n hs inner k g r1 r2) j.0 j.2 (idle.test p sites a f n gs classes meant sc inner k h.0 m q1 q2 lo h.1 h.2) (λ g u. test sc hs inner k h.0 m q1 q2 lo h.1 h.2 held count_is g r1 r2 u))
        (under p a f gs (λ k c. (c.0.0, c.1, c.0.2)) (test sc hs inner l b m h.0 q2 h.1 hi h.3 held count_is e j.0 r2 j.1)))
    test sc hs node (Or inner l k) b m q1 q2 lo hi h held count_is e r1 r2 j =
        so p a f gs (λ k c i. i.1)
        (seq p a f gs (from_point p sites a f n gs classes meant h.0 held (λ g. part.Test p sites a n hs inner k g r1 r2) j.0 j.2 (idle.test p sites a f n gs classes meant sc inner k h.0 m q1 q2 lo h.1 h.2) (λ g u. test sc hs inner k h.0 m q1 q2 lo h.1 h.2 held count_is g r1 r2 u))
        (under p a f gs (λ k c. (c.0.0, c.0.1, c.1)) (test sc hs inner l b m q1 h.0 h.1 hi h.3 held count_is e r1 j.0 j.1)))
    test sc hs node (Apply inner value o es) b m q1 q2 lo hi (inl h) held count_is e r1 r2 (inl j) =
        asks p sites a f n gs classes meant sc hs node (Apply inner value o es) (marks.ApplyAt meant gs f n sc inner value o (by_ways o es) (count (plain_exprs es)) (marks.HasExprs meant gs f n sc es) (marks.HasNegated meant gs f n sc inner es)) (marks.SidesAt meant gs f n sc inner value o (count (plain_exprs es)) (marks.HasExprs meant gs f n sc es))
        (part.ApplyAt p sites a n hs inner value o (by_ways o es) (part.GivesAll p sites a n hs es) (part.Negated p sites a n hs inner es)) (part.WeighAt p sites a n hs inner value o (by_ways o es) (part.GivesAll p sites a n hs es) (part.Negated p sites a n hs inner es))
        (apply_at sc hs inner value o (by_ways o es) (count (plain_exprs es)) (marks.HasExprs meant gs f n sc es) (part.GivesAll p sites a n hs es) (marks.HasNegated meant gs f n sc inner es) (part.Negated p sites a n hs inner es) (exprs sc hs es) (stopped sc hs es) (negated sc hs inner es))
        (sides_at p sites a f n gs classes meant sc hs inner value o (by_ways o es) (count (plain_exprs es)) (marks.HasExprs meant gs f n sc es) (part.GivesAll p sites a n hs es) (part.Negated p sites a n hs inner es) (exprs sc hs es) (stopped sc hs es) (compares_no_ways o es))
        (λ e xs x r u. (xs, u)) (λ b m c q lo hi u way. subst (λ k. Good k (tells (Apply inner value o es) way)) (sym u.0) (good_operation o es way)) b m q1 q2 None None lo hi h.1 held count_is e r1 r2 j.1
    test sc hs node (Apply inner value o es) b m q1 q2 lo hi (inl h) held count_is e r1 r2 (inr j) = absurd (false≢true (sym h.0 ∙ j.0))
    test sc hs node (Apply inner value o es) b m q1 q2 lo hi (inr h) held count_is e r1 r2 (inl j) = absurd (false≢true (sym j.0 ∙ h.0))
    test sc hs node (Apply inner value o es) b m q1 q2 lo hi (inr h) held count_is e r1 r2 (inr j) =
        under p a f gs (λ k c. (c.0, c.2, c.1)) (negated sc hs inner es b m q2 q1 lo hi h.2 held count_is e r2 r1 j.1)
    test sc hs node (Local inner i) b m q1 q2 lo hi h held count_is e r1 r2 j =
        asks p sites a f n gs classes meant sc hs node (Local inner i) (marks.LocalAt meant gs f n sc inner i) (λ b m c q lo hi. ⊥) (part.LocalAt p sites a n hs inner i) (part.Alone p sites a n (part.LocalAt p sites a n hs inner i)) (local_at p sites a f n gs classes meant sc hs inner i) (no_sides sc hs (part.Alone p sites a n (part.LocalAt p sites a n hs inner i)))
        (alone (part.LocalAt p sites a n hs inner i)) (none_goods (Local inner i)) b m q1 q2 None None lo hi h held count_is e r1 r2 j
    test sc hs node (Constant inner c v) b m q1 q2 lo hi h held count_is e r1 r2 j =
        asks p sites a f n gs classes meant sc hs node (Constant inner c v) (marks.ConstantAt meant gs f n sc inner c v) (λ b m c q lo hi. ⊥) (part.ConstantAt p sites a n hs inner c) (part.Alone p sites a n (part.ConstantAt p sites a n hs inner c)) (constant_at p sites a f n gs classes meant sc hs inner c v) (no_sides sc hs (part.Alone p sites a n (part.ConstantAt p sites a n hs inner c)))
        (alone (part.ConstantAt p sites a n hs inner c)) (none_goods (Constant inner c v)) b m q1 q2 None None lo hi h held count_is e r1 r2 j
    test sc hs node (Display inner site ps) b m q1 q2 lo hi h held count_is e r1 r2 j =
        let G = part.DisplayAt p sites a n hs inner site (part.Puts p sites a n hs inner ps) in
        asks p sites a f n gs classes meant sc hs node (Display inner site ps) (marks.DisplayAt meant gs f n sc inner site (marks.HasPairs meant gs f n sc inner ps)) (λ b m c q lo hi. ⊥) G (part.Alone p sites a n G)
        (display_at p sites a f n gs classes meant sc hs inner site (marks.HasPairs meant gs f n sc inner ps) (part.Puts p sites a n hs inner ps) (pairs sc hs inner ps) (idle.pairs p sites a f n gs classes meant sc inner ps)) (no_sides sc hs (part.Alone p sites a n G)) (alone G) (none_goods (Display inner site ps)) b m q1 q2 None None lo hi h held count_is e r1 r2 j
    test sc hs node (Comprehension inner site item target over c) b m q1 q2 lo hi h held count_is e r1 r2 j =
        let G = part.Gives p sites a n hs (Comprehension inner site item target over c) in
        asks p sites a f n gs classes meant sc hs node (Comprehension inner site item target over c) (marks.HasExpr meant gs f n sc (Comprehension inner site item target over c)) (λ b m c q lo hi. ⊥) G (part.Alone p sites a n G)
        (comprehension_at p sites a f n gs classes meant sc hs inner site (step_of over) (marks.HasSubject meant gs f n sc inner over) (marks.HasBind meant gs f n sc target []) (marks.HasCondition meant gs f n sc inner c) (marks.HasExpr meant gs f n sc item)
        (part.Begins p sites a n hs inner over) (part.Binds p sites a n hs target) (part.Guards p sites a n hs inner c) (part.Gives p sites a n hs item) (subject sc hs inner over)
        (λ w t q lo hi u all wide g y r j. bind_turn p sites a f n gs classes meant sc hs (marks.HasBind meant gs f n sc target) (part.Binds p sites a n hs target) (bind sc hs target) w t q u all wide g y r j) (guards sc hs inner c) (expr sc hs item)
        (idle.walked p sites a f n gs classes meant sc inner over) (idle.bind p sites a f n gs classes meant sc target []) (idle.condition p sites a f n gs classes meant sc inner c) (idle.expr p sites a f n gs classes meant sc item)) (no_sides sc hs (part.Alone p sites a n G)) (alone G) (none_goods (Comprehension inner site item target over c)) b m q1 q2 None None lo hi h held count_is e r1 r2 j

    negated : (sc : Scope) (hs : List Handler) (node : ℕ) (es : Exprs) → OfTest p sites a f n gs classes meant sc hs (marks.HasNegated meant gs f n sc node es) (part.Negated p sites a n hs node es)
    negated sc hs node none b m q1 q2 lo hi h held count_is e r1 r2 j = absurd h
    negated sc hs node (more l none) b m q1 q2 lo hi h held count_is e r1 r2 j = test sc hs node l b m q1 q2 lo hi h held count_is e r1 r2 j
    negated sc hs node (more l (more k ks)) b m q1 q2 lo hi h held count_is e r1 r2 j = absurd h

    pairs : (sc : Scope) (hs : List Handler) (node : ℕ) (ps : Pairs) → OfPairs p sites a f n gs classes meant sc hs (marks.HasPairs meant gs f n sc node ps) (part.Puts p sites a n hs node ps)
    pairs sc hs node no_pairs b m q lo hi h held count_is dict e r j = straight p a f gs h.1 (λ k c. subst (λ i. E k i e (held ++ dict ∷ [])) (sym h.0) (led p a f n classes k q r e (held ++ dict ∷ []) j c.1))
    pairs sc hs node (pair key value rest) b m q lo hi h held count_is dict e r j =
        let D = held ++ dict ∷ [] in
        let next : m + 1 ≡ n + length D = omega (arith, count_is, one_more held dict) in
        so p a f gs (λ k c i. i.1.1.1)
        (seq p a f gs (from_point p sites a f n gs classes meant h.2 D (λ g. part.Puts p sites a n hs node rest dict g r) j.5 j.9 (idle.pairs p sites a f n gs classes meant sc node rest h.2 m q lo h.3 h.6) (λ g u. pairs sc hs node rest h.2 m q lo h.3 h.6 held count_is dict g r u))
        (seq p a f gs (from_point p sites a f n gs classes meant h.1 ((D ++ j.0 ∷ []) ++ j.1 ∷ []) (λ g. part.Acts p sites a n hs node false row.StoreIndex (dict ∷ j.0 ∷ j.1 ∷ []) g j.2 j.5) j.4 j.8 (idle.op p sites a f n gs classes meant sc h.1 node false row.StoreIndex (m ∷ (m + 1) ∷ (m + 2) ∷ []) (m + 3) (first h.2 (m + 1)) h.7)
        (λ g u.
        as_list p sites a f n gs classes meant h.1 g (D ++ (j.0 ∷ j.1 ∷ [])) ((D ++ j.0 ∷ []) ++ j.1 ∷ []) (sym (push D j.0 (j.1 ∷ [])))
        (put_dropped p sites a f n gs classes meant sc hs h.1 node false row.StoreIndex (m ∷ (m + 1) ∷ (m + 2) ∷ []) (m + 1) (m + 3) h.2 h.7 D (j.0 ∷ j.1 ∷ []) next (omega (arith, next, length-append D (j.0 ∷ j.1 ∷ []))) (dict ∷ j.0 ∷ j.1 ∷ []) g j.2 j.5 refl
        (λ z. three_at n g held dict j.0 j.1 (z ∷ []) ((D ++ (j.0 ∷ j.1 ∷ [])) ++ z ∷ []) m (m + 1) (m + 2) (append_assoc D (j.0 ∷ j.1 ∷ []) (z ∷ []) ∙ push held dict (j.0 ∷ j.1 ∷ z ∷ [])) count_is refl refl) (λ z. loose_held n g bound m (omega (arith, count_is))) u
        (λ k c. more_around p sites a f n gs classes meant sc hs held (dict ∷ []) k c.0.0) (λ k c. c.1))))
        (seq p a f gs (from_point p sites a f n gs classes meant h.0 (D ++ j.0 ∷ []) (λ g. part.Gives p sites a n hs value g j.1 j.4) j.3 j.7 (idle.expr p sites a f n gs classes meant sc value h.0 (m + 1 + 1) h.1 h.4 h.5 h.8)
        (λ g u. under p a f gs (λ k c. (more_around p sites a f n gs classes meant sc hs D (j.0 ∷ []) k (more_around p sites a f n gs classes meant sc hs held (dict ∷ []) k c.0.0.0), c.1))
        (expr sc hs value h.0 (m + 1 + 1) h.1 h.4 h.5 h.8 (D ++ j.0 ∷ []) (omega (arith, next, one_more D j.0)) g j.1 j.4 u)))
        (under p a f gs (λ k c. (more_around p sites a f n gs classes meant sc hs held (dict ∷ []) k c.0.0.0.0, c.1)) (expr sc hs key b (m + 1) h.0 h.5 hi h.9 D next e j.0 j.3 j.6)))))

    pub subject : (sc : Scope) (hs : List Handler) (node : ℕ) (over : Subject) → OfSubject p sites a f n gs classes meant sc hs (marks.HasSubject meant gs f n sc node over) (part.Begins p sites a n hs node over)
    subject sc hs node (Over site l) b m q lo hi h held count_is e over place r j =
        let D = held ++ j.1 ∷ [] in
        so p a f gs (λ k c i. i.1.1)
        (seq p a f gs (from_point p sites a f n gs classes meant h.1 D (λ g. part.Acts p sites a n hs node false (row.Word (pos 0)) [] g j.2 j.5) j.4 j.8 (idle.op p sites a f n gs classes meant sc h.1 node false (row.Word (pos 0)) [] (m + 1) (first_and q (m + 1) (m + 1)) h.4)
        (λ g u. leaf p sites a f n gs classes meant sc hs h.1 node false (row.Word (pos 0)) (m + 1) q h.4 D (omega (arith, count_is, one_more held j.1)) g j.2 j.5 refl u (λ k c. more_around p sites a f n gs classes meant sc hs held (j.1 ∷ []) k c.0) (λ k c. starts_to k q r j.5 held over place j.1 j.2 j.9 c.1)))
        (seq p a f gs (from_point p sites a f n gs classes meant h.0 (held ++ j.0 ∷ []) (λ g. part.Acts p sites a n hs node false (row.Walk site) (j.0 ∷ []) g j.1 j.4) j.3 j.7 (idle.op p sites a f n gs classes meant sc h.0 node false (row.Walk site) (m ∷ []) (m + 1) (first_and h.1 m (m + 1)) h.5)
        (λ g u. put p sites a f n gs classes meant sc hs h.0 node false (row.Walk site) (m ∷ []) m (m + 1) h.1 h.5 held (j.0 ∷ []) count_is (omega (arith, count_is, one_more held j.0)) (j.0 ∷ []) g j.1 j.4 refl
        (λ z. ap (λ v. v ∷ []) (at_in n g held j.0 (z ∷ []) ((held ++ j.0 ∷ []) ++ z ∷ []) m (push held j.0 (z ∷ [])) count_is)) (λ z. loose_held n g bound m (omega (arith, count_is))) u (λ k c. c.0.0) (λ k c. c.1)))
        (under p a f gs (λ k c. (c.0.0.0, c.1)) (expr sc hs l b m h.0 h.3 hi h.6 held count_is e j.0 j.3 j.6))))
    subject sc hs node (UpTo l) b m q lo hi h held count_is e over place r j =
        let D = held ++ j.0 ∷ [] in
        so p a f gs (λ k c i. i.1)
        (seq p a f gs (from_point p sites a f n gs classes meant h.0 D (λ g. part.Acts p sites a n hs node false (row.Word (pos 0)) [] g j.1 j.3) j.2 j.5 (idle.op p sites a f n gs classes meant sc h.0 node false (row.Word (pos 0)) [] (m + 1) (first_and q (m + 1) (m + 1)) h.2)
        (λ g u. leaf p sites a f n gs classes meant sc hs h.0 node false (row.Word (pos 0)) (m + 1) q h.2 D (omega (arith, count_is, one_more held j.0)) g j.1 j.3 refl u (λ k c. more_around p sites a f n gs classes meant sc hs held (j.0 ∷ []) k c.0) (λ k c. starts_to k q r j.3 held over place j.0 j.1 j.6 c.1)))
        (under p a f gs (λ k c. (c.0.0, c.1)) (expr sc hs l b m h.0 h.1 hi h.3 held count_is e j.0 j.2 j.4)))
    subject sc hs node (FromTo l u step) b m q lo hi h held count_is e over place r j =
        let D = held ++ j.1 ∷ [] in
        so p a f gs (λ k c i. i.1.1)
        (seq p a f gs (from_point p sites a f n gs classes meant h.1 (D ++ j.0 ∷ []) (λ g. part.Starts p sites a n j.0 j.1 g over place r) j.3 j.6 (idle.block p sites a f n gs classes meant h.1 (m + 2) (Go (record { to = q; places = (range 0 m ++ (m + 1) ∷ []) ++ m ∷ [] })) h.4)
        (λ g v. as_list p sites a f n gs classes meant h.1 g (held ++ (j.1 ∷ j.0 ∷ [])) (D ++ j.0 ∷ []) (sym (push held j.1 (j.0 ∷ [])))
        (go p sites a f n gs classes meant h.1 (m + 2) (record { to = q; places = (range 0 m ++ (m + 1) ∷ []) ++ m ∷ [] }) h.4 g (held ++ (j.1 ∷ j.0 ∷ []))
        (λ k c. goes_swapped p a f n classes k q m g held j.1 j.0 count_is (led_both p a f n classes k q r g (held ++ j.0 ∷ j.1 ∷ []) (held ++ over ∷ place ∷ []) (with_two p a f n classes held j.0 j.1 over place v.0 v.1) v.2 c.1)))))
        (seq p a f gs (from_point p sites a f n gs classes meant h.0 D (λ g. part.Gives p sites a n hs u g j.0 j.3) j.2 j.5 (idle.expr p sites a f n gs classes meant sc u h.0 (m + 1) h.1 h.2 h.3 h.5)
        (λ g v. under p a f gs (λ k c. (more_around p sites a f n gs classes meant sc hs held (j.1 ∷ []) k c.0.0, c.1)) (expr sc hs u h.0 (m + 1) h.1 h.2 h.3 h.5 D (omega (arith, count_is, one_more held j.1)) g j.0 j.3 v)))
        (under p a f gs (λ k c. (c.0.0.0, c.1)) (expr sc hs l b m h.0 h.3 hi h.6 held count_is e j.1 j.2 j.4))))

    guards : (sc : Scope) (hs : List Handler) (node : ℕ) (c : Condition) → OfTest p sites a f n gs classes meant sc hs (marks.HasCondition meant gs f n sc node c) (part.Guards p sites a n hs node c)
    guards sc hs node Always b m q1 q2 lo hi h held count_is e r1 r2 j = straight p a f gs h.1 (λ k c. subst (λ i. E k i e held) (sym h.0) (led p a f n classes k q1 r1 e held j c.1))
    guards sc hs node (Where l) b m q1 q2 lo hi h held count_is e r1 r2 j = test sc hs node l b m q1 q2 lo hi h held count_is e r1 r2 j

    pub bind : (sc : Scope) (hs : List Handler) (t : Target) → OfBind p sites a f n gs classes meant sc hs (marks.HasBind meant gs f n sc t) (part.Binds p sites a n hs t)
    bind sc hs (Name node i) path at m keep b q lo hi h base kept dropped before behind count_is is kept_is x y has placed e seen along taken r leads j =
        bind_name p sites a f n gs classes meant sc hs node i path at m keep b q lo hi h base kept dropped before behind count_is is kept_is x y has placed e seen along taken r leads j
    bind sc hs (Attribute node l name) path at m keep b q lo hi h base kept dropped before behind count_is is kept_is x y has placed e seen along taken r leads j =
        bind_attribute p sites a f n gs classes meant sc hs node l name (expr sc hs l) path at m keep b q lo hi h base kept dropped before behind count_is is kept_is x y has placed e seen along taken r leads j
    bind sc hs (Item node l i) path at m keep b q lo hi h base kept dropped before behind count_is is kept_is x y has placed e seen along taken r leads j =
        bind_item p sites a f n gs classes meant sc hs node l i (expr sc hs l) (expr sc hs i) path at m keep b q lo hi h base kept dropped before behind count_is is kept_is x y has placed e seen along taken r leads j
    bind sc hs (Parts node ts) path at m keep b q lo hi h base kept dropped before behind count_is is kept_is x y has placed e seen along taken r leads j =
        bind_parts p sites a f n gs classes meant sc hs node ts (items sc hs node ts) path at m keep b q lo hi h base kept dropped before behind count_is is kept_is x y has placed e seen along taken r leads j

    items : (sc : Scope) (hs : List Handler) (node : ℕ) (ts : Targets) → OfItems p sites a f n gs classes meant sc hs (marks.HasItems meant gs f n sc node ts) (part.BindsItems p sites a n hs node ts)
    items sc hs node no_targets c i path at b m q lo hi h base before behind count_is x y has placed along e r j = straight p a f gs h.1 (λ k u. subst (λ v. E k v e base) (sym h.0) (led p a f n classes k q r e base j u.1))
    items sc hs node (more_targets t ts) c i path at b m q lo hi h base before behind count_is x y has placed along e r j =
        so p a f gs (λ k u v. v.1)
        (seq p a f gs (from_point p sites a f n gs classes meant h.0 base (λ g. part.BindsItems p sites a n hs node ts c (suc i) g y r) j.2 j.5 (idle.items p sites a f n gs classes meant sc node ts c (suc i) path at h.0 m q lo h.1 h.2)
        (λ g u. items sc hs node ts c (suc i) path at h.0 m q lo h.1 h.2 base before behind count_is x y has placed along g r u))
        (under p a f gs (λ k u. (u.0.0, u.1))
        (bind sc hs t (path ++ record { node = node; count = c; place = i } ∷ []) at m m b h.0 h.1 hi h.3 base base [] before behind count_is (sym (append-nil base)) count_is x j.0 has placed e (inr j.3.0)
        (along_push p sites a f n gs classes meant path (record { node = node; count = c; place = i }) x y j.0 along j.3.1) j.1 j.2 (λ ok. elim ok [ inl bad ↦ absurd (pushed path (record { node = node; count = c; place = i }) bad) | inr good ↦ j.3.2 good ]) j.4)))

  pub turn : (sc : Scope) (hs : List Handler) (t : Target) → OfTurn p sites a f n gs classes meant sc hs (marks.HasBind meant gs f n sc t []) (part.Binds p sites a n hs t)
  turn sc hs t w turn_at q lo hi h all wide g y r j = bind_turn p sites a f n gs classes meant sc hs (marks.HasBind meant gs f n sc t) (part.Binds p sites a n hs t) (bind sc hs t) w turn_at q h all wide g y r j
