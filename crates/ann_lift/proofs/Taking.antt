-- Items of tuples, along paths.
use Rattle.std.proofs.Common.{◌≡◌, ℕ, ◌+◌, ◌≤◌, ◌⊎◌, inl, inr, false, List, [], ◌∷◌, ◌++◌, length, Option, refl, sym, ap, ◌∙◌, subst, arith, append_assoc, append-nil}
use Rattle.rpy_tree.specs.Value.{Object}
use Rattle.rpy_meaning.specs.declared.row.RowOp.TheVariants as row
use Rattle.rpy_meaning.specs.Tree as meaning
use Rattle.flow_graph.specs.declared.graph.Graphs.{Graphs}
use Rattle.flow_stands.specs.Places.{Scope, Jump, first, first_and}
use Rattle.flow_trees.specs.Marks as marks
use Rattle.flow_trees.specs.Marks.{Path, Step}
use Rattle.ann_lattice.specs.Shape.{Shape}
use Rattle.ann_lattice.specs.Laws.{IsTree}
use Rattle.ann_rules.specs.Program.{Whole}
use Rattle.ann_tree.specs.Annotation.{Annotation, Environment, Handler}
use Rattle.ann_tree.specs.Gives as part
use Rattle.ann_tree.specs.Gives.{stops}
use Rattle.ann_lift.specs.Spots.{Spots}
use Rattle.ann_lift.proofs.Lists.{one_more, push}
use Rattle.ann_lift.proofs.Lifted.{so, seq, straight}
use Rattle.ann_lift.proofs.States.{held_at, bound, at_in, loose_held}
use Rattle.ann_lift.proofs.Ways.{goes_keeping, goes_keeping_and}
use Rattle.ann_lift.proofs.Acting.{unmarked, act}
use Rattle.ann_lift.proofs.Exprs.{goes_no_stop, On, Sees, watches}
use Rattle.ann_lift.proofs.Forms.{Lf, I, A}

abbrev IsMore : Path → Type 0
IsMore [] = ⊥
IsMore (part_of ∷ path) = Unit {0}

module _ (p : Whole) (sites : List (Option Object)) (a : Annotation) (f n : ℕ) (gs : Graphs) (classes : IsTree p.tables.classes) (meant : meaning.Program) where
  -- what stands there has this item at the path
  pub data Along : Path → Shape → Shape → Type 0 where
    itself : (x : Shape) → Along [] x x
    item : (part_of : Step) (path : Path) (x y z : Shape) → part.Operates p sites a n (row.Unpack part_of.count part_of.place) part_of.node (x ∷ []) y → Along path y z → Along (part_of ∷ path) x z

  pub along_push : (path : Path) (part_of : Step) (x y z : Shape) → Along path x y → part.Operates p sites a n (row.Unpack part_of.count part_of.place) part_of.node (y ∷ []) z → Along (path ++ part_of ∷ []) x z
  along_push _ part_of _ y z (itself _) has = item part_of [] y z z has (itself z)
  along_push _ part_of x y z (item other path _ w _ has along) more_has = item other (path ++ part_of ∷ []) x w z has (along_push path part_of w y z along more_has)

  end_is : (x y : Shape) → Along [] x y → x ≡ y
  end_is _ _ (itself _) = refl

  first_item : (part_of : Step) (path : Path) (x z : Shape) → Along (part_of ∷ path) x z → (y : Shape) × part.Operates p sites a n (row.Unpack part_of.count part_of.place) part_of.node (x ∷ []) y × Along path y z
  first_item _ _ _ _ (item part_of path x y z has along) = (y, has, along)

  -- Unpacked along a path: the first variables stay, with at most one item behind them. The last item goes on as is said.
  module _ (sc : Scope) (hs : List Handler) (e : Environment) (C : Spots → Type 0) (base : List Shape) (m : ℕ) (count : m ≡ n + length base) (around : (at : Spots) → C at → A p sites a f n gs classes meant sc hs base at) where
    pub unpacks : Sees p sites a f n gs classes meant hs e → (last : ℕ → Jump) (path : Path) (at w b lo hi : ℕ) → marks.Unpacks meant gs f n sc last m path at w b lo hi → (extra : List Shape) → w ≡ n + length (base ++ extra) → n ≤ at → (x y : Shape) → ((z : Shape) → held_at n e ((base ++ extra) ++ z ∷ []) at ≡ x) → Along path x y
        → ((v : ℕ) (more_held : List Shape) → v ≡ n + length (base ++ more_held) → stops (row.Unpack 0 0) y ≡ false → (k : Spots) → C k → On p sites a f n gs classes meant k e ((base ++ more_held) ++ y ∷ []) (last v)) → Lf p sites a f n gs classes meant lo hi C (λ k. I p sites a f n gs classes meant k b e (base ++ extra))
    unpacks seen last [] at w b lo hi h extra wide inside x y there along on = absurd h
    unpacks seen last (part_of ∷ []) at w b lo hi h extra wide inside x y there along on =
        let i = first_item part_of [] x y along in
        let has = subst (λ (v : Shape). part.Operates p sites a n (row.Unpack part_of.count part_of.place) part_of.node (x ∷ []) v) (end_is i.0 y i.2) i.1 in
        act p sites a f n gs classes meant sc b part_of.node false (row.Unpack part_of.count part_of.place) (at ∷ []) w (last w) h e (base ++ extra) hs (x ∷ []) y wide seen (ap (λ s. s ∷ []) (there y)) (loose_held n e bound at inside) has tt (unmarked p sites a f n gs classes meant part_of.node false (row.Unpack part_of.count part_of.place) (x ∷ []) refl refl)
        (λ k c. watches p sites a f n gs classes meant sc hs base extra k (around k c)) (λ go k c. on w extra wide (goes_no_stop (row.Unpack 0 0) y refl go) k c)
    unpacks seen last (part_of ∷ next ∷ path) at w b lo hi h extra wide inside x y there along on =
        let i = first_item part_of (next ∷ path) x y along in
        let v = i.0 in
        so p a f gs (λ k c i. i.1)
        (seq p a f gs (unpacks seen last (next ∷ path) m (m + 1) h.0 lo h.1 h.2 (v ∷ []) (omega (arith, count, one_more base v)) (omega (arith, count)) v y (λ z. at_in n e base v (z ∷ []) ((base ++ v ∷ []) ++ z ∷ []) m (push base v (z ∷ [])) count) i.2 on)
        (act p sites a f n gs classes meant sc b part_of.node false (row.Unpack part_of.count part_of.place) (at ∷ []) w (first_and h.0 m w) h.3 e (base ++ extra) hs (x ∷ []) v wide seen (ap (λ s. s ∷ []) (there v)) (loose_held n e bound at inside) i.1 tt (unmarked p sites a f n gs classes meant part_of.node false (row.Unpack part_of.count part_of.place) (x ∷ []) refl refl)
        (λ k c. watches p sites a f n gs classes meant sc hs base extra k (around k c.0))
        (λ go k c. goes_keeping_and p a f n classes k h.0 m w e base (extra ++ v ∷ []) ((base ++ extra) ++ v ∷ []) v (append_assoc base extra (v ∷ [])) count (at_in n e (base ++ extra) v [] ((base ++ extra) ++ v ∷ []) w refl wide) (omega (arith, wide)) c.1)))

    -- ---- from the variables that are there

    -- the variable at a place holds x
    module _ (at : ℕ) (before behind : List Shape) (x : Shape) (is : base ≡ before ++ x ∷ behind) (placed : at ≡ n + length before) where
      root : (z : Shape) → held_at n e ((base ++ []) ++ z ∷ []) at ≡ x
      root z = at_in n e before x (behind ++ z ∷ []) ((base ++ []) ++ z ∷ []) at (ap (λ l. l ++ z ∷ []) (append-nil base ∙ is) ∙ append_assoc before (x ∷ behind) (z ∷ [])) placed

      straight_on : (lo hi b q : ℕ) → marks.Straight meant gs f n b q lo hi → ((k : Spots) → C k → I p sites a f n gs classes meant k q e base) → Lf p sites a f n gs classes meant lo hi C (λ k. I p sites a f n gs classes meant k b e base)
      straight_on lo hi b q h enters = straight p a f gs h.1 (λ k c. subst (λ i. I p sites a f n gs classes meant k i e base) (sym h.0) (enters k c))

      no_extra : (b lo hi : ℕ) → Lf p sites a f n gs classes meant lo hi C (λ k. I p sites a f n gs classes meant k b e (base ++ [])) → Lf p sites a f n gs classes meant lo hi C (λ k. I p sites a f n gs classes meant k b e base)
      no_extra b lo hi l = so p a f gs (λ k c i. subst (λ u. I p sites a f n gs classes meant k b e u) (append-nil base) i) l

      saw : (part_of : Step) (path : Path) → (part_of ∷ path ≡ [] ⊎ Sees p sites a f n gs classes meant hs e) → Sees p sites a f n gs classes meant hs e
      saw part_of path (inl h) = absurd (subst IsMore h tt)
      saw part_of path (inr h) = h

      -- whether the item is there is asked, and it is not kept; what is no item of a tuple is there
      pub there_at : (path : Path) → (path ≡ [] ⊎ Sees p sites a f n gs classes meant hs e) → (b q lo hi : ℕ) → marks.There meant gs f n sc path at b m q lo hi → (y : Shape) → Along path x y → ((k : Spots) → C k → (path ≡ [] ⊎ stops (row.Unpack 0 0) y ≡ false) → I p sites a f n gs classes meant k q e base) → Lf p sites a f n gs classes meant lo hi C (λ k. I p sites a f n gs classes meant k b e base)
      there_at [] seen b q lo hi h y along enters = straight_on lo hi b q h (λ k c. enters k c (inl refl))
      there_at (part_of ∷ path) seen b q lo hi h y along enters =
          no_extra b lo hi (unpacks (saw part_of path seen) (λ w. first q m) (part_of ∷ path) at m b lo hi h [] (omega (arith, count, ap length (append-nil base))) (omega (arith, placed)) x y root along
          (λ v more_held wide go k c. goes_keeping p a f n classes k q m e base (more_held ++ y ∷ []) ((base ++ more_held) ++ y ∷ []) (append_assoc base more_held (y ∷ [])) count (enters k c (inr go))))

      -- it stands at a place v of w variables, which hold this
      abbrev pub with_item : Path → Shape → List Shape
      with_item [] y = base
      with_item (part_of ∷ path) y = base ++ y ∷ []

      abbrev pub item_extra : Path → Shape → List Shape
      item_extra [] y = []
      item_extra (part_of ∷ path) y = y ∷ []

      pub with_is : (path : Path) (y : Shape) → with_item path y ≡ base ++ item_extra path y
      with_is [] y = sym (append-nil base)
      with_is (part_of ∷ path) y = refl

      pub taken_at : (path : Path) → (path ≡ [] ⊎ Sees p sites a f n gs classes meant hs e) → (b q v w lo hi : ℕ) → marks.Taken meant gs f n sc path at b m q v w lo hi → (y : Shape) → Along path x y → ((k : Spots) → C k → (path ≡ [] ⊎ stops (row.Unpack 0 0) y ≡ false) → I p sites a f n gs classes meant k q e (with_item path y)) → Lf p sites a f n gs classes meant lo hi C (λ k. I p sites a f n gs classes meant k b e base)
      taken_at [] seen b q v w lo hi h y along enters = straight_on lo hi b q h.2 (λ k c. enters k c (inl refl))
      taken_at (part_of ∷ path) seen b q v w lo hi h y along enters =
          no_extra b lo hi (unpacks (saw part_of path seen) (first_and q m) (part_of ∷ path) at m b lo hi h.2 [] (omega (arith, count, ap length (append-nil base))) (omega (arith, placed)) x y root along
          (λ u more_held wide go k c. goes_keeping_and p a f n classes k q m u e base (more_held ++ y ∷ []) ((base ++ more_held) ++ y ∷ []) y (append_assoc base more_held (y ∷ [])) count (at_in n e (base ++ more_held) y [] ((base ++ more_held) ++ y ∷ []) u refl wide) (omega (arith, wide)) (enters k c (inr go))))

      -- how many variables are there then, and where it stands
      pub item_wide : (path : Path) (b q v w lo hi : ℕ) → marks.Taken meant gs f n sc path at b m q v w lo hi → (y : Shape) → w ≡ n + length (with_item path y)
      item_wide [] b q v w lo hi h y = omega (arith, count, h.1)
      item_wide (part_of ∷ path) b q v w lo hi h y = omega (arith, count, h.1, one_more base y)

      pub item_there : (path : Path) (b q v w lo hi : ℕ) → marks.Taken meant gs f n sc path at b m q v w lo hi → (y : Shape) → Along path x y → (g : Environment) (rest : List Shape) → (held_at n g (with_item path y ++ rest) v ≡ y) × (n ≤ v)
      item_there [] b q v w lo hi h y along g rest = (at_in n g before x (behind ++ rest) (base ++ rest) v (ap (λ l. l ++ rest) is ∙ append_assoc before (x ∷ behind) rest) (omega (arith, placed, h.0)) ∙ end_is x y along, omega (arith, placed, h.0))
      item_there (part_of ∷ path) b q v w lo hi h y along g rest = (at_in n g base y rest ((base ++ y ∷ []) ++ rest) v (push base y rest) (omega (arith, count, h.0)), omega (arith, count, h.0))
