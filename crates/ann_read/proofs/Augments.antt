-- Assignments: targets that take a value from left to right, and what stands at a target and is stored to it again.
use Rattle.std.proofs.Common.{◌+◌, ◌≤◌, ℕ, true, false, List, [], ◌∷◌, None, refl, ◌∙◌, arith, subst}
use Rattle.rpy_meaning.specs.declared.row.RowOp.{RowOp}
use Rattle.rpy_meaning.specs.declared.row.RowOp.TheVariants as row
use Rattle.flow_stands.specs.Places.{Scope, Go, first, first_and, stored}
use Rattle.flow_trees.specs.Tree.{Expr, Target, Name, Attribute, Item, Parts, Targets, no_targets, more_targets}
use Rattle.flow_trees.specs.Marks as marks
use Rattle.flow_trees.specs.Marks.{Place}
use Rattle.ann_lattice.specs.Shape.{Shape as Element}
use Rattle.ann_tree.specs.Annotation.{Environment, Point, Handler, elements_with, bind}
use Rattle.ann_tree.specs.Gives as part
use Rattle.ann_tree.specs.Leaves as leaves
use Rattle.ann_read.proofs.Places.{with_at, with_before}
use Rattle.ann_read.proofs.Links.{Known, Fits, var, in_at, front, Enters, Wide, go_first, go_stored}
use Rattle.ann_read.proofs.Points.{Agree, agree_before, agree_on, agree_self, enters_less, point, at_point, with_input, Towards, towards_point, onto_point}
use Rattle.ann_read.proofs.Acts.{annotation, catches_on, acted, seen, acts_onto, stores, marks_read}
use Rattle.ann_read.proofs.Held.{wide_as, extend_agree, given_range, acts_wide, is_wide, goes_on}
use Rattle.ann_read.proofs.Values.{InTree, Caught, caught_more}
use Rattle.ann_read.proofs.Targets.{Storing}
use Rattle.ann_read.proofs.Trees.{expr_sims, bind_sims}
use Rattle.ann_read.proofs.Exits.{at_itself}

module _ (c : Known) (sc : Scope) (hs : List Handler) where
  abbrev pub HasExpr : Expr → Place
  HasExpr = marks.HasExpr c.program c.graphs c.f c.n sc

  abbrev pub Gives : Expr → part.Giving
  Gives = part.Gives c.p c.program.sites (annotation c) c.n hs

  -- ---- targets

  pub targets_wide : (ts : Targets) (b m q lo hi : ℕ) → marks.HasTargets c.program c.graphs c.f c.n sc ts b m q lo hi → Wide c b (m + 1)
  targets_wide no_targets b m q lo hi has = is_wide c b (m + 1) (Go (first q m)) lo hi has
  targets_wide (more_targets t no_targets) b m q lo hi has = (bind_sims c sc hs t).wide [] m (m + 1) m b q lo hi has
  targets_wide (more_targets t (more_targets v ts)) b m q lo hi has = (bind_sims c sc hs t).wide [] m (m + 1) (m + 1) b has.0 has.1 hi has.3

  pub targets_sim : (ts : Targets) (b m q lo hi : ℕ) (e : Environment) (h : ℕ → Element) → marks.HasTargets c.program c.graphs c.f c.n sc ts b m q lo hi → c.n ≤ m → Enters c b (m + 1) e h → Caught c sc hs (m + 1) h
      → (s : Point) → Towards c q m h s → leaves.BindsEach c.p c.program.sites (annotation c) c.f c.n hs ts e (h m) s
  targets_sim no_targets b m q lo hi e h has le enters catches s to =
      let went = goes_on c b (m + 1) (first q m) lo hi e h has (omega (arith, le)) enters in
      to e (go_first c has.0.0 (m + 1) e h went.around q m le (omega arith) went.linked)
  targets_sim (more_targets t no_targets) b m q lo hi e h has le enters catches s to =
      (s, (bind_sims c sc hs t).sim [] m (m + 1) m b q lo hi e h has le (omega arith) le (omega arith) enters catches tt s to, at_itself c s)
  targets_sim (more_targets t (more_targets v ts)) b m q lo hi e h has le enters catches s to =
      let mid : ℕ = has.0 in
      let at_mid = targets_wide (more_targets v ts) mid m q lo has.1 has.2 in
      let le1 : c.n ≤ m + 1 = omega (arith, le) in (
        point c mid h (m + 1),
        (bind_sims c sc hs t).sim [] m (m + 1) (m + 1) b mid has.1 hi e h has.3 le (omega arith) le1 (omega arith) enters catches tt (point c mid h (m + 1)) (towards_point c mid (m + 1) (m + 1) h at_mid (omega arith) le1),
        at_point c mid (m + 1) h (λ g. leaves.BindsEach c.p c.program.sites (annotation c) c.f c.n hs (more_targets v ts) g (h m) s)
            (λ i. targets_sim (more_targets v ts) mid m q lo has.1 (front c mid) h has.2 le i catches s to),
      )

  -- ---- what is augmented

  -- the operation on two held values
  new_sim : (node : ℕ) (o : RowOp) (b m q lo hi : ℕ) (e : Environment) (h : ℕ → Element) (x y : Element) → marks.NewAt c.program c.graphs c.f c.n sc node o b m q lo hi → c.n ≤ m
      → Enters c b (m + 1 + 1) e (elements_with (elements_with h m x) (m + 1) y) → Caught c sc hs m h → Wide c q (m + 1)
      → InTree c sc hs node false o (x ∷ y ∷ []) e (in_at c q m) (point c q h m)
  new_sim node o b m q lo hi e h x y has le enters catches there =
      let h1 : ℕ → Element = elements_with h m x in
      let g : ℕ → Element = elements_with h1 (m + 1) y in
      let norm = first_and q m (m + 2) in
      let args = m ∷ (m + 1) ∷ [] in
      let does = acted c sc b node false o args (m + 2) norm lo hi e g has (omega (arith, le)) (enters_less c b (m + 1 + 1) (m + 2) e g g (omega arith) (agree_self (m + 2) g) enters) in
      let base : ℕ = has.0.0 in
      let agree = extend_agree c h m (x ∷ y ∷ []) in
      acts_onto c sc base (m + 2) node false o args norm e g does hs (seen c sc base (m + 2) node false o args norm e g does hs m h (omega arith) agree catches) (x ∷ y ∷ [])
      (given_range c base (m + 2) e h m (x ∷ y ∷ []) does.around le (omega arith)) q m h (in_at c q m) (point c q h m) le (omega arith) agree (λ r. refl) (onto_point c q m h there le)

  abbrev Augments : ℕ → Target → RowOp → Expr → Environment → Point → Type 0
  Augments = leaves.Augments c.p c.program.sites (annotation c) c.f c.n hs

  pub augment_wide : (node : ℕ) (target : Target) (o : RowOp) (l : Expr) (b m q lo hi : ℕ) → marks.HasAugment c.program c.graphs c.f c.n sc node target o l b m q lo hi → Wide c b m
  augment_wide node (Name at i) o l b m q lo hi has = acts_wide c sc b at false row.Copy (i ∷ []) m (first_and has.0 m m) has.5 hi has.10
  augment_wide node (Attribute at a name) o l b m q lo hi has = (expr_sims c sc hs a).value.wide b m has.0 has.7 hi has.12
  augment_wide node (Item at a i) o l b m q lo hi has = (expr_sims c sc hs a).value.wide b m has.0 has.9 hi has.15
  augment_wide node (Parts at parts) o l b m q lo hi has = acts_wide c sc b at true row.Copy [] m (first q m) lo hi has

  pub augment_sim : (node : ℕ) (target : Target) (o : RowOp) (l : Expr) (b m q lo hi : ℕ) (e : Environment) (h : ℕ → Element) → marks.HasAugment c.program c.graphs c.f c.n sc node target o l b m q lo hi → c.n ≤ m → Enters c b m e h
      → Caught c sc hs m h → (s : Point) → Towards c q m h s → Augments node target o l e s
  augment_sim node (Name at i) o l b m q lo hi e h has le enters catches s to =
      let right : ℕ = has.0 in
      let new : ℕ = has.1 in
      let store : ℕ = has.2 in
      let first_norm = first_and right m m in
      let store_norm = stored q m i (m + 1) in
      let at_store = acts_wide c sc store at true row.Copy (m ∷ []) (m + 1) store_norm lo has.3 has.7 in
      let at_new = wide_as c new (m + 2) (m + 1 + 1) (omega arith) (acts_wide c sc new node false o (m ∷ (m + 1) ∷ []) (m + 2) (first_and store m (m + 2)) has.3 has.4 has.8) in
      let at_right = (expr_sims c sc hs l).value.wide right (m + 1) new has.4 has.5 has.9 in
      let old : Element = in_at c right m in
      let h1 : ℕ → Element = elements_with h m old in
      let y : Element = in_at c new (m + 1) in
      let made : Element = in_at c store m in
      let reads = acted c sc b at false row.Copy (i ∷ []) m first_norm has.5 hi e h has.10 le enters in
      let low : ℕ = has.10.0.0 in (
        old,
        y,
        made,
        point c right h m,
        point c new h1 (m + 1),
        point c store h m,
        marks_read c sc low m at false i first_norm e h reads has.6,
        acts_onto c sc low m at false row.Copy (i ∷ []) first_norm e h reads hs (seen c sc low m at false row.Copy (i ∷ []) first_norm e h reads hs m h (omega arith) (agree_self m h) catches) (e.element i ∷ [])
            ((reads.around.locals i has.6).0, tt) right m h old (point c right h m) le (omega arith) (agree_self m h) (λ r. refl) (onto_point c right m h at_right le),
        at_point c right m h (λ g. Gives l g y (point c new h1 (m + 1)))
            (λ j. (expr_sims c sc hs l).value.sim right (m + 1) new has.4 has.5 (front c right) h1 has.9 (omega (arith, le)) (with_input c right m (front c right) h j) (caught_more c sc hs m h old catches) y (point c new h1 (m + 1))
            (onto_point c new (m + 1) h1 at_new (omega (arith, le)))),
        at_point c new (m + 1) h1 (λ g. InTree c sc hs node false o (old ∷ y ∷ []) g made (point c store h m))
            (λ j. new_sim node o new m store has.3 has.4 (front c new) h old y has.8 le (with_input c new (m + 1) (front c new) h1 j) catches at_store),
        at_point c store m h (λ g. Storing c sc hs at row.Copy (made ∷ []) g (bind g i (c.element at)) s)
            (λ j.
            let g : ℕ → Element = elements_with h m made in
            let does = acted c sc store at true row.Copy (m ∷ []) (m + 1) store_norm lo has.3 (front c store) g has.7 (omega (arith, le)) (with_input c store m (front c store) h j) in
            let base : ℕ = has.7.0.0 in
            let agree : Agree m g h = agree_before m m h made (omega arith) in
            stores c sc base (m + 1) at true row.Copy (m ∷ []) store_norm (front c store) g does hs (seen c sc base (m + 1) at true row.Copy (m ∷ []) store_norm (front c store) g does hs m h (omega arith) agree catches) (made ∷ [])
            (subst (λ x. Fits c x (var c (base + m))) (with_at h m made) (does.around.held m le (omega arith)), tt) refl (bind (front c store) i (c.element at)) s
            (λ fits linked.
            to (bind (front c store) i (c.element at))
            (enters_less c q m m (bind (front c store) i (c.element at)) g h (omega arith) agree (go_stored c base (m + 1) (front c store) g does.around q m i (m + 1) (c.element at) has.6 le (omega arith) fits linked)))),
      )
  augment_sim node (Attribute at a name) o l b m q lo hi e h has le enters catches s to =
      let read : ℕ = has.0 in
      let right : ℕ = has.1 in
      let new : ℕ = has.2 in
      let store : ℕ = has.3 in
      let read_norm = first_and right (m + 1) (m + 1) in
      let store_norm = first q m in
      let le1 : c.n ≤ m + 1 = omega (arith, le) in
      let at_store = wide_as c store (m + 2) (m + 1 + 1) (omega arith) (acts_wide c sc store at true (row.StoreAttr name) (m ∷ (m + 1) ∷ []) (m + 2) store_norm lo has.4 has.8) in
      let at_new = wide_as c new (m + 1 + 2) (m + 1 + 1 + 1) (omega arith) (acts_wide c sc new node false o ((m + 1) ∷ (m + 1 + 1) ∷ []) (m + 1 + 2) (first_and store (m + 1) (m + 1 + 2)) has.4 has.5 has.9) in
      let at_right = (expr_sims c sc hs l).value.wide right (m + 1 + 1) new has.5 has.6 has.10 in
      let at_read = acts_wide c sc read at false (row.Attr name) (m ∷ []) (m + 1) read_norm has.6 has.7 has.11 in
      let x : Element = in_at c read m in
      let h1 : ℕ → Element = elements_with h m x in
      let old : Element = in_at c right (m + 1) in
      let h2 : ℕ → Element = elements_with h1 (m + 1) old in
      let y : Element = in_at c new (m + 1 + 1) in
      let made : Element = in_at c store (m + 1) in
      let c1 = caught_more c sc hs m h x catches in
      let agree1 : Agree m h1 h = agree_before m m h x (omega arith) in (
        x,
        old,
        y,
        made,
        point c read h m,
        point c right h1 (m + 1),
        point c new h2 (m + 1 + 1),
        point c store h1 (m + 1),
        (expr_sims c sc hs a).value.sim b m read has.7 hi e h has.12 le enters catches x (point c read h m) (onto_point c read m h at_read le),
        at_point c read m h (λ g. InTree c sc hs at false (row.Attr name) (x ∷ []) g old (point c right h1 (m + 1)))
            (λ j.
            let does = acted c sc read at false (row.Attr name) (m ∷ []) (m + 1) read_norm has.6 has.7 (front c read) h1 has.11 le1 (with_input c read m (front c read) h j) in
            let base : ℕ = has.11.0.0 in
            acts_onto c sc base (m + 1) at false (row.Attr name) (m ∷ []) read_norm (front c read) h1 does hs (seen c sc base (m + 1) at false (row.Attr name) (m ∷ []) read_norm (front c read) h1 does hs m h (omega arith) agree1 catches)
            (x ∷ []) (subst (λ z. Fits c z (var c (base + m))) (with_at h m x) (does.around.held m le (omega arith)), tt) right (m + 1) h1 old (point c right h1 (m + 1)) le1 (omega arith) (agree_self (m + 1) h1) (λ r. refl)
            (onto_point c right (m + 1) h1 at_right le1)),
        at_point c right (m + 1) h1 (λ g. Gives l g y (point c new h2 (m + 1 + 1)))
            (λ j. (expr_sims c sc hs l).value.sim right (m + 1 + 1) new has.5 has.6 (front c right) h2 has.10 (omega (arith, le)) (with_input c right (m + 1) (front c right) h1 j) (caught_more c sc hs (m + 1) h1 old c1) y
            (point c new h2 (m + 1 + 1)) (onto_point c new (m + 1 + 1) h2 at_new (omega (arith, le)))),
        at_point c new (m + 1 + 1) h2 (λ g. InTree c sc hs node false o (old ∷ y ∷ []) g made (point c store h1 (m + 1)))
            (λ j. new_sim node o new (m + 1) store has.4 has.5 (front c new) h1 old y has.9 le1 (with_input c new (m + 1 + 1) (front c new) h2 j) c1 at_store),
        at_point c store (m + 1) h1 (λ g. Storing c sc hs at (row.StoreAttr name) (x ∷ made ∷ []) g g s)
            (λ j.
            let g : ℕ → Element = elements_with h1 (m + 1) made in
            let inside = enters_less c store (m + 1 + 1) (m + 2) (front c store) g g (omega arith) (agree_self (m + 2) g) (with_input c store (m + 1) (front c store) h1 j) in
            let does = acted c sc store at true (row.StoreAttr name) (m ∷ (m + 1) ∷ []) (m + 2) store_norm lo has.4 (front c store) g has.8 (omega (arith, le)) inside in
            let base : ℕ = has.8.0.0 in
            let agree = extend_agree c h m (x ∷ made ∷ []) in
            stores c sc base (m + 2) at true (row.StoreAttr name) (m ∷ (m + 1) ∷ []) store_norm (front c store) g does hs
            (seen c sc base (m + 2) at true (row.StoreAttr name) (m ∷ (m + 1) ∷ []) store_norm (front c store) g does hs m h (omega arith) agree catches) (x ∷ made ∷ [])
            (given_range c base (m + 2) (front c store) h m (x ∷ made ∷ []) does.around le (omega arith)) refl (front c store) s
            (λ fits linked. to (front c store) (enters_less c q m m (front c store) g h (omega arith) agree (go_first c base (m + 2) (front c store) g does.around q m le (omega arith) linked)))),
      )
  augment_sim node (Item at a i) o l b m q lo hi e h has le enters catches s to =
      let place : ℕ = has.0 in
      let read : ℕ = has.1 in
      let right : ℕ = has.2 in
      let new : ℕ = has.3 in
      let store : ℕ = has.4 in
      let read_norm = first_and right (m + 2) (m + 2) in
      let store_norm = first q m in
      let args = m ∷ (m + 1) ∷ [] in
      let le1 : c.n ≤ m + 1 = omega (arith, le) in
      let le2 : c.n ≤ m + 2 = omega (arith, le) in
      let at_store = wide_as c store (m + 3) (m + 2 + 1) (omega arith) (acts_wide c sc store at true row.StoreIndex (m ∷ (m + 1) ∷ (m + 2) ∷ []) (m + 3) store_norm lo has.5 has.10) in
      let at_new = wide_as c new (m + 2 + 2) (m + 2 + 1 + 1) (omega arith) (acts_wide c sc new node false o ((m + 2) ∷ (m + 2 + 1) ∷ []) (m + 2 + 2) (first_and store (m + 2) (m + 2 + 2)) has.5 has.6 has.11) in
      let at_right = (expr_sims c sc hs l).value.wide right (m + 2 + 1) new has.6 has.7 has.12 in
      let at_read = wide_as c read (m + 2) (m + 1 + 1) (omega arith) (acts_wide c sc read at false (row.Index None) args (m + 2) read_norm has.7 has.8 has.13) in
      let at_place = (expr_sims c sc hs i).value.wide place (m + 1) read has.8 has.9 has.14 in
      let x : Element = in_at c place m in
      let h1 : ℕ → Element = elements_with h m x in
      let z : Element = in_at c read (m + 1) in
      let h2 : ℕ → Element = elements_with h1 (m + 1) z in
      let old : Element = in_at c right (m + 2) in
      let h3 : ℕ → Element = elements_with h2 (m + 2) old in
      let y : Element = in_at c new (m + 2 + 1) in
      let made : Element = in_at c store (m + 2) in
      let c1 = caught_more c sc hs m h x catches in
      let agree2 : Agree m h2 h = extend_agree c h m (x ∷ z ∷ []) in
      let c2 = catches_on c sc hs m (m + 2) h2 h (omega arith) agree2 catches in (
        x,
        z,
        old,
        y,
        made,
        point c place h m,
        point c read h1 (m + 1),
        point c right h2 (m + 2),
        point c new h3 (m + 2 + 1),
        point c store h2 (m + 2),
        (expr_sims c sc hs a).value.sim b m place has.9 hi e h has.15 le enters catches x (point c place h m) (onto_point c place m h at_place le),
        at_point c place m h (λ g. Gives i g z (point c read h1 (m + 1)))
            (λ j. (expr_sims c sc hs i).value.sim place (m + 1) read has.8 has.9 (front c place) h1 has.14 le1 (with_input c place m (front c place) h j) c1 z (point c read h1 (m + 1)) (onto_point c read (m + 1) h1 at_read le1)),
        at_point c read (m + 1) h1 (λ g. InTree c sc hs at false (row.Index None) (x ∷ z ∷ []) g old (point c right h2 (m + 2)))
            (λ j.
            let inside = enters_less c read (m + 1 + 1) (m + 2) (front c read) h2 h2 (omega arith) (agree_self (m + 2) h2) (with_input c read (m + 1) (front c read) h1 j) in
            let does = acted c sc read at false (row.Index None) args (m + 2) read_norm has.7 has.8 (front c read) h2 has.13 le2 inside in
            let base : ℕ = has.13.0.0 in
            acts_onto c sc base (m + 2) at false (row.Index None) args read_norm (front c read) h2 does hs (seen c sc base (m + 2) at false (row.Index None) args read_norm (front c read) h2 does hs m h (omega arith) agree2 catches)
            (x ∷ z ∷ []) (given_range c base (m + 2) (front c read) h m (x ∷ z ∷ []) does.around le (omega arith)) right (m + 2) h2 old (point c right h2 (m + 2)) le2 (omega arith) (agree_self (m + 2) h2) (λ r. refl)
            (onto_point c right (m + 2) h2 at_right le2)),
        at_point c right (m + 2) h2 (λ g. Gives l g y (point c new h3 (m + 2 + 1)))
            (λ j. (expr_sims c sc hs l).value.sim right (m + 2 + 1) new has.6 has.7 (front c right) h3 has.12 (omega (arith, le)) (with_input c right (m + 2) (front c right) h2 j) (caught_more c sc hs (m + 2) h2 old c2) y
            (point c new h3 (m + 2 + 1)) (onto_point c new (m + 2 + 1) h3 at_new (omega (arith, le)))),
        at_point c new (m + 2 + 1) h3 (λ g. InTree c sc hs node false o (old ∷ y ∷ []) g made (point c store h2 (m + 2)))
            (λ j. new_sim node o new (m + 2) store has.5 has.6 (front c new) h2 old y has.11 le2 (with_input c new (m + 2 + 1) (front c new) h3 j) c2 at_store),
        at_point c store (m + 2) h2 (λ g. Storing c sc hs at row.StoreIndex (x ∷ z ∷ made ∷ []) g g s)
            (λ j.
            let g : ℕ → Element = elements_with h2 (m + 2) made in
            let inside = enters_less c store (m + 2 + 1) (m + 3) (front c store) g g (omega arith) (agree_self (m + 3) g) (with_input c store (m + 2) (front c store) h2 j) in
            let does = acted c sc store at true row.StoreIndex (m ∷ (m + 1) ∷ (m + 2) ∷ []) (m + 3) store_norm lo has.5 (front c store) g has.10 (omega (arith, le)) inside in
            let base : ℕ = has.10.0.0 in
            let agree : Agree m g h = agree_on (m + 2) m g h2 h (omega arith) (agree_before (m + 2) (m + 2) h2 made (omega arith)) agree2 in
            stores c sc base (m + 3) at true row.StoreIndex (m ∷ (m + 1) ∷ (m + 2) ∷ []) store_norm (front c store) g does hs
            (seen c sc base (m + 3) at true row.StoreIndex (m ∷ (m + 1) ∷ (m + 2) ∷ []) store_norm (front c store) g does hs m h (omega arith) agree catches) (x ∷ z ∷ made ∷ []) (
              subst (λ v. Fits c v (var c (base + m))) (with_before h2 (m + 2) made m (omega arith) ∙ with_before h1 (m + 1) z m (omega arith) ∙ with_at h m x) (does.around.held m le (omega arith)),
              (
                subst (λ v. Fits c v (var c (base + (m + 1)))) (with_before h2 (m + 2) made (m + 1) (omega arith) ∙ with_at h1 (m + 1) z) (does.around.held (m + 1) le1 (omega arith)),
                (subst (λ v. Fits c v (var c (base + (m + 2)))) (with_at h2 (m + 2) made) (does.around.held (m + 2) le2 (omega arith)), tt),
              ),
            ) refl (front c store) s
            (λ fits linked. to (front c store) (enters_less c q m m (front c store) g h (omega arith) agree (go_first c base (m + 3) (front c store) g does.around q m le (omega arith) linked)))),
      )
  augment_sim node (Parts at parts) o l b m q lo hi e h has le enters catches s to =
      let does = acted c sc b at true row.Copy [] m (first q m) lo hi e h has le enters in
      let base : ℕ = has.0.0 in
      stores c sc base m at true row.Copy [] (first q m) e h does hs (seen c sc base m at true row.Copy [] (first q m) e h does hs m h (omega arith) (agree_self m h) catches) [] tt refl e s
      (λ fits linked. to e (go_first c base m e h does.around q m le (omega arith) linked))
