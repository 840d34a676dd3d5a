-- What stands at the blocks of all expressions and targets that are reached.
use Rattle.std.proofs.Common.{◌≡◌, ℕ, ◌+◌, ◌≤◌, ◌⊎◌, inr, true, false, List, [], ◌∷◌, ◌++◌, length, map, Option, refl, sym, ap, ◌∙◌, subst, arith, append_assoc, length-append}
use Rattle.rpy_tree.specs.Value.{Object}
use Rattle.rpy_meaning.specs.declared.row.RowOp.{RowOp}
use Rattle.rpy_meaning.specs.declared.row.RowOp.TheVariants as row
use Rattle.rpy_meaning.specs.Tree as meaning
use Rattle.rpy_meaning.specs.Meaning.{target_count}
use Rattle.flow_graph.specs.declared.graph.Graphs.{Graphs}
use Rattle.flow_stands.specs.Places.{stored, Scope, Go, first}
use Rattle.flow_stands.specs.Stands.{count}
use Rattle.flow_trees.specs.Tree.{Expr, Name, Attribute, Item, Parts, Targets, plain_targets}
use Rattle.flow_trees.specs.Marks as marks
use Rattle.flow_trees.specs.Marks.{Path}
use Rattle.ann_lattice.specs.Shape.{Shape}
use Rattle.ann_lattice.specs.Kind.{is_nothing}
use Rattle.ann_lattice.specs.Laws.{IsTree}
use Rattle.ann_rules.specs.Program.{Whole}
use Rattle.ann_tree.specs.Annotation.{Annotation, Environment, Point, Never, With, Handler, At, bind}
use Rattle.ann_tree.specs.Gives as part
use Rattle.ann_tree.specs.Gives.{stops}
use Rattle.ann_lift.specs.Spots.{Spot, Spots, goes_on, first_unbound}
use Rattle.ann_lift.proofs.Lists.{one_more, push}
use Rattle.ann_lift.proofs.Lifted.{under, so, seq}
use Rattle.ann_lift.proofs.States.{held_at, bound, spot, at_in, loose_held, self}
use Rattle.ann_lift.proofs.Ways.{LeadsTo, led, goes_keeping, goes_binding}
use Rattle.ann_lift.proofs.Watched.{Watched}
use Rattle.ann_lift.proofs.Acting.{act, go, from_point}
use Rattle.ann_lift.proofs.Exprs.{goes_no_stop, Sees, watches}
use Rattle.ann_lift.proofs.Forms.{Lf, I, T, A, OfOne}
use Rattle.ann_lift.proofs.Walks.{two_at, more_around}
use Rattle.ann_lift.proofs.Taking.{Along, there_at, with_item, item_extra, with_is, taken_at, item_wide, item_there}
use Rattle.ann_lift.proofs.Idle as idle

module _ (p : Whole) (sites : List (Option Object)) (a : Annotation) (f n : ℕ) (gs : Graphs) (classes : IsTree p.tables.classes) (meant : meaning.Program) where
  abbrev S : ℕ → ℕ → (Spots → Type 0) → (Spots → Type 0) → Type 0
  S lo hi C E = Lf p sites a f n gs classes meant lo hi C E

  abbrev Idle : ℕ → ℕ → Type 0
  Idle lo hi = idle.Idle p sites a f n gs classes meant lo hi

  abbrev E : Spots → ℕ → Environment → List Shape → Type 0
  E at b e held = I p sites a f n gs classes meant at b e held

  abbrev Q : Spots → ℕ → Point → List Shape → Type 0
  Q at b r held = T p sites a f n gs classes meant at b r held

  abbrev R : Scope → List Handler → List Shape → Spots → Type 0
  R sc hs held at = A p sites a f n gs classes meant sc hs held at

  abbrev Leading : Environment → Point → Type 0
  Leading e r = LeadsTo p a f n classes e r

  pub env_self : (e : Environment) → Leading e (With e)
  env_self e i lt = (self p a f n classes (e.element i), λ h. h)

  abbrev Taking : Type 1
  Taking = Environment → Shape → Point → Type 0

  pub as_point : (k : Spots) (b : ℕ) (r : Point) {xs ys : List Shape} → xs ≡ ys → Q k b r xs → Q k b r ys
  as_point k b r {xs} {ys} same leads = subst (λ l. Q k b r l) same leads

  -- A target takes y, which stands at the path from x, at a place among so many variables; the first of them go on.
  abbrev pub OfBind : Scope → List Handler → (Path → ℕ → ℕ → ℕ → ℕ → ℕ → ℕ → ℕ → Type 0) → (Environment → Shape → Point → Type 0) → Type 0
  OfBind sc hs B G =
      (path : Path) (at m keep b q lo hi : ℕ) → B path at m keep b q lo hi → (base kept dropped before behind : List Shape) → m ≡ n + length base → base ≡ kept ++ dropped → keep ≡ n + length kept → (x y : Shape) → base ≡ before ++ x ∷ behind → at ≡ n + length before
      → (e : Environment) → (path ≡ [] ⊎ Sees p sites a f n gs classes meant hs e) → Along p sites a f n gs classes meant path x y → (taken r : Point) → ((path ≡ [] ⊎ stops (row.Unpack 0 0) y ≡ false) → Leading e taken) → At taken (λ g. G g y r)
      → S lo hi (λ k. R sc hs base k × Q k q r kept) (λ k. E k b e base)

  -- a local
  pub bind_name : (sc : Scope) (hs : List Handler) (node i : ℕ) → OfBind sc hs (λ path at m keep b q lo hi. marks.HasBind meant gs f n sc (Name node i) path at m keep b q lo hi) (λ g y r. part.Binds p sites a n hs (Name node i) g y r)
  bind_name sc hs node i path at m keep b q lo hi h base kept dropped before behind count is kept_is x y has placed e seen along taken r leads j =
      let C : Spots → Type 0 = λ k. R sc hs base k × Q k q r kept in
      let item = with_item p sites a f n gs classes meant sc hs e C base m count (λ k c. c.0) at before behind x has placed path y in
      let item_is = with_is p sites a f n gs classes meant sc hs e C base m count (λ k c. c.0) at before behind x has placed path y in
      let extra = item_extra p sites a f n gs classes meant sc hs e C base m count (λ k c. c.0) at before behind x has placed path y in
      let wide = item_wide p sites a f n gs classes meant sc hs e C base m count (λ k c. c.0) at before behind x has placed path b h.0 h.1 h.2 h.3 hi h.6 y in
      let z = a.element node in
      let from_kept : item ++ z ∷ [] ≡ kept ++ (dropped ++ (extra ++ z ∷ [])) = ap (λ l. l ++ z ∷ []) item_is ∙ append_assoc base extra (z ∷ []) ∙ ap (λ l. l ++ (extra ++ z ∷ [])) is ∙ append_assoc kept dropped (extra ++ z ∷ []) in
      so p a f gs (λ k c i. i.1)
      (seq p a f gs
      (from_point p sites a f n gs classes meant h.0 item (λ g. part.Binds p sites a n hs (Name node i) g y r) taken j (idle.op p sites a f n gs classes meant sc h.0 node true row.Copy (h.1 ∷ []) h.2 (stored q keep i h.2) h.5)
      (λ g u.
      let there = item_there p sites a f n gs classes meant sc hs e C base m count (λ k c. c.0) at before behind x has placed path b h.0 h.1 h.2 h.3 hi h.6 y along g (z ∷ []) in
      act p sites a f n gs classes meant sc h.0 node true row.Copy (h.1 ∷ []) h.2 (stored q keep i h.2) h.5 g item hs (y ∷ []) z wide u.0 (ap (λ s. s ∷ []) there.0) (loose_held n g bound h.1 there.1) u.1 refl u.3
      (λ k c. subst (λ l. Watched p a f n classes k l hs sc.hands sc.default) (sym item_is) (watches p sites a f n gs classes meant sc hs base extra k c.0))
      (λ go k c.
      goes_binding p a f n classes k q keep i h.2 g kept (dropped ++ (extra ++ z ∷ [])) (item ++ z ∷ []) z from_kept kept_is (at_in n g item z [] (item ++ z ∷ []) h.2 refl wide) (omega (arith, wide)) h.4 (led p a f n classes k q r (bind g i z) kept (u.2 (goes_no_stop row.Copy z refl go)) c.1))))
      (taken_at p sites a f n gs classes meant sc hs e (λ k. C k × Q k h.0 taken item) base m count (λ k c. c.0.0) at before behind x has placed path seen b h.0 h.1 h.2 h.3 hi h.6 y along
      (λ k c ok. led p a f n classes k h.0 taken e item (leads ok) c.1)))

  -- the store to an attribute or to a place, behind the parts of the target: at a point, with operands behind the variables that were there
  stored_at : (sc : Scope) (hs : List Handler) (node : ℕ) (o : RowOp) (path : Path) (at w v i q k r keep lo mid hi m : ℕ) (base kept dropped before behind operands : List Shape) (args : List ℕ) → m ≡ n + length base → base ≡ kept ++ dropped → keep ≡ n + length kept → (x y : Shape) → base ≡ before ++ x ∷ behind → at ≡ n + length before
      → Along p sites a f n gs classes meant path x y → i ≡ n + length (base ++ operands) → marks.Acts meant gs f n sc r node true o args w (first q keep) lo mid → marks.Taken meant gs f n sc path at k i r v w mid hi
      → ((z : Shape) → goes_on o z ≡ true → is_nothing z ≡ false) → ((g : Environment) (rest : List Shape) (u : Shape) → held_at n g (rest ++ u ∷ []) v ≡ y → (l : List Shape) × (rest ≡ (base ++ operands) ++ l) → map (held_at n g (rest ++ u ∷ [])) args ≡ operands ++ y ∷ []) → ((s : Spot) → (s.unbound v ≡ false) → ((j : ℕ) → n ≤ j → s.unbound j ≡ false) → first_unbound s args ≡ false)
      → (point end : Point) → At point (λ g. part.Stores p sites a n hs node o (operands ++ y ∷ []) g g end) → S lo hi (λ c. R sc hs base c × Q c q end kept) (λ c. Q c k point (base ++ operands))
  stored_at sc hs node o path at w v i q k r keep lo mid hi m base kept dropped before behind operands args count is kept_is x y has placed along wide h u raises args_are clear Never end j =
      so p a f gs (λ at c e. tt) (under p a f gs (λ at c. tt) (idle.both_of p sites a f n gs classes meant (idle.op p sites a f n gs classes meant sc r node true o args w (first q keep) h) (idle.taken p sites a f n gs classes meant sc path at k i r v w mid hi u)))
  stored_at sc hs node o path at w v i q k r keep lo mid hi m base kept dropped before behind operands args count is kept_is x y has placed along wide h u raises args_are clear (With g) end j =
      let C : Spots → Type 0 = λ c. R sc hs base c × Q c q end kept in
      let all = base ++ operands in
      let has_all : all ≡ before ++ x ∷ (behind ++ operands) = ap (λ l. l ++ operands) has ∙ append_assoc before (x ∷ behind) operands in
      let around : (c : Spots) → C c → R sc hs all c = λ c d. more_around p sites a f n gs classes meant sc hs base operands c d.0 in
      let item = with_item p sites a f n gs classes meant sc hs g C all i wide around at before (behind ++ operands) x has_all placed path y in
      let item_is = with_is p sites a f n gs classes meant sc hs g C all i wide around at before (behind ++ operands) x has_all placed path y in
      let extra = item_extra p sites a f n gs classes meant sc hs g C all i wide around at before (behind ++ operands) x has_all placed path y in
      let z = a.element node in
      let wider = item_wide p sites a f n gs classes meant sc hs g C all i wide around at before (behind ++ operands) x has_all placed path k r v w mid hi u y in
      let there = item_there p sites a f n gs classes meant sc hs g C all i wide around at before (behind ++ operands) x has_all placed path k r v w mid hi u y along g (z ∷ []) in
      let from_kept : item ++ z ∷ [] ≡ kept ++ (dropped ++ (operands ++ (extra ++ z ∷ []))) =
      ap (λ l. l ++ z ∷ []) item_is ∙ append_assoc all extra (z ∷ []) ∙ append_assoc base operands (extra ++ z ∷ []) ∙ ap (λ l. l ++ (operands ++ (extra ++ z ∷ []))) is ∙ append_assoc kept dropped (operands ++ (extra ++ z ∷ [])) in
      so p a f gs (λ c d e. e.1)
      (seq p a f gs
      (act p sites a f n gs classes meant sc r node true o args w (first q keep) h g item hs (operands ++ y ∷ []) z wider j.0 (args_are g item z there.0 (extra, item_is)) (clear (spot n g (item ++ z ∷ []) bound) (loose_held n g bound v there.1) (λ j le. loose_held n g bound j le)) j.1 refl j.3
      (λ c d. subst (λ l. Watched p a f n classes c l hs sc.hands sc.default) (sym (item_is ∙ append_assoc base operands extra)) (watches p sites a f n gs classes meant sc hs base (operands ++ extra) c d.0))
      (λ go c d. goes_keeping p a f n classes c q keep g kept (dropped ++ (operands ++ (extra ++ z ∷ []))) (item ++ z ∷ []) from_kept kept_is (led p a f n classes c q end g kept (j.2 (raises z go)) d.1)))
      (taken_at p sites a f n gs classes meant sc hs g (λ c. C c × E c r g item) all i wide (λ c d. around c d.0) at before (behind ++ operands) x has_all placed path (inr j.0) k r v w mid hi u y along (λ c d ok. d.1)))

  pub bind_attribute : (sc : Scope) (hs : List Handler) (node : ℕ) (l : Expr) (name : List ℕ) → OfOne p sites a f n gs classes meant sc hs (marks.HasExpr meant gs f n sc l) (part.Gives p sites a n hs l)
      → OfBind sc hs (λ path at m keep b q lo hi. marks.HasBind meant gs f n sc (Attribute node l name) path at m keep b q lo hi) (λ g y r. part.Binds p sites a n hs (Attribute node l name) g y r)
  bind_attribute sc hs node l name one_of path at m keep b q lo hi h base kept dropped before behind count is kept_is x y has placed e seen along taken r leads j =
      let C : Spots → Type 0 = λ k. R sc hs base k × Q k q r kept in
      so p a f gs (λ k c i. i.1)
      (seq p a f gs (parts taken j)
      (there_at p sites a f n gs classes meant sc hs e (λ k. C k × Q k h.0 taken base) base m count (λ k c. c.0.0) at before behind x has placed path seen b h.0 h.7 hi h.11 y along (λ k c ok. led p a f n classes k h.0 taken e base (leads ok) c.1)))
    where
      parts : (taken : Point) → At taken (λ g. part.Binds p sites a n hs (Attribute node l name) g y r) → S lo h.7 (λ k. R sc hs base k × Q k q r kept) (λ k. Q k h.0 taken base)
      parts Never j =
          so p a f gs (λ k c i. tt) (under p a f gs (λ k c. tt) (idle.both_of p sites a f n gs classes meant (idle.op p sites a f n gs classes meant sc h.2 node true (row.StoreAttr name) (m ∷ h.3 ∷ []) h.4 (first q keep) h.8)
          (idle.both_of p sites a f n gs classes meant (idle.taken p sites a f n gs classes meant sc path at h.1 (m + 1) h.2 h.3 h.4 h.5 h.6 h.9) (idle.expr p sites a f n gs classes meant sc l h.0 m h.1 h.6 h.7 h.10))))
      parts (With g) j =
          so p a f gs (λ k c i. i.1)
          (seq p a f gs
          (stored_at sc hs node (row.StoreAttr name) path at h.4 h.3 (m + 1) q h.1 h.2 keep lo h.5 h.6 m base kept dropped before behind (j.0 ∷ []) (m ∷ h.3 ∷ []) count is kept_is x y has placed along (omega (arith, count, one_more base j.0)) h.8 h.9
          (λ z go. goes_no_stop (row.StoreAttr name) z refl go)
          (λ g rest u there more_is.
          let first_is = at_in n g base j.0 (more_is.0 ++ u ∷ []) (rest ++ u ∷ []) m (ap (λ k. k ++ u ∷ []) (more_is.1 ∙ push base j.0 more_is.0) ∙ append_assoc base (j.0 ∷ more_is.0) (u ∷ [])) count in
          ap (λ k. k ∷ held_at n g (rest ++ u ∷ []) h.3 ∷ []) first_is ∙ ap (λ k. j.0 ∷ k ∷ []) there)
          (λ s loose others. others m (omega (arith, count))) j.1 r j.3)
          (under p a f gs (λ k c. (c.0.0, c.1)) (one_of h.0 m h.1 h.6 h.7 h.10 base count g j.0 j.1 j.2)))

  pub bind_item : (sc : Scope) (hs : List Handler) (node : ℕ) (l i : Expr) → OfOne p sites a f n gs classes meant sc hs (marks.HasExpr meant gs f n sc l) (part.Gives p sites a n hs l) → OfOne p sites a f n gs classes meant sc hs (marks.HasExpr meant gs f n sc i) (part.Gives p sites a n hs i)
      → OfBind sc hs (λ path at m keep b q lo hi. marks.HasBind meant gs f n sc (Item node l i) path at m keep b q lo hi) (λ g y r. part.Binds p sites a n hs (Item node l i) g y r)
  bind_item sc hs node l i one_of place_of path at m keep b q lo hi h base kept dropped before behind count is kept_is x y has placed e seen along taken r leads j =
      let C : Spots → Type 0 = λ k. R sc hs base k × Q k q r kept in
      so p a f gs (λ k c i. i.1)
      (seq p a f gs (parts taken j)
      (there_at p sites a f n gs classes meant sc hs e (λ k. C k × Q k h.0 taken base) base m count (λ k c. c.0.0) at before behind x has placed path seen b h.0 h.9 hi h.14 y along (λ k c ok. led p a f n classes k h.0 taken e base (leads ok) c.1)))
    where
      parts : (taken : Point) → At taken (λ g. part.Binds p sites a n hs (Item node l i) g y r) → S lo h.9 (λ k. R sc hs base k × Q k q r kept) (λ k. Q k h.0 taken base)
      parts Never j =
          so p a f gs (λ k c i. tt) (under p a f gs (λ k c. tt) (idle.both_of p sites a f n gs classes meant (idle.op p sites a f n gs classes meant sc h.3 node true row.StoreIndex (m ∷ (m + 1) ∷ h.4 ∷ []) h.5 (first q keep) h.10)
          (idle.both_of p sites a f n gs classes meant (idle.taken p sites a f n gs classes meant sc path at h.2 (m + 2) h.3 h.4 h.5 h.6 h.7 h.11)
          (idle.both_of p sites a f n gs classes meant (idle.expr p sites a f n gs classes meant sc i h.1 (m + 1) h.2 h.7 h.8 h.12) (idle.expr p sites a f n gs classes meant sc l h.0 m h.1 h.8 h.9 h.13)))))
      parts (With g) j =
          let first = j.0 in
          let second = j.1 in
          so p a f gs (λ k c i. i.1.1)
          (seq p a f gs
          (stored_at sc hs node row.StoreIndex path at h.5 h.4 (m + 2) q h.2 h.3 keep lo h.6 h.7 m base kept dropped before behind (first ∷ second ∷ []) (m ∷ (m + 1) ∷ h.4 ∷ []) count is kept_is x y has placed along (omega (arith, count, length-append base (first ∷ second ∷ []))) h.10 h.11
          (λ z go. goes_no_stop row.StoreIndex z refl go)
          (λ g rest u there more_is.
          let both = two_at n g base first second (more_is.0 ++ u ∷ []) (rest ++ u ∷ []) m (m + 1) (ap (λ k. k ++ u ∷ []) (more_is.1 ∙ append_assoc base (first ∷ second ∷ []) more_is.0) ∙ append_assoc base (first ∷ second ∷ more_is.0) (u ∷ [])) count refl in
          ap (λ k. k ++ held_at n g (rest ++ u ∷ []) h.4 ∷ []) both ∙ ap (λ k. first ∷ second ∷ k ∷ []) there)
          (λ s loose others. others m (omega (arith, count))) j.3 r j.6)
          (seq p a f gs
          (from_point p sites a f n gs classes meant h.1 (base ++ first ∷ []) (λ v. part.Gives p sites a n hs i v second j.3) j.2 j.5 (idle.expr p sites a f n gs classes meant sc i h.1 (m + 1) h.2 h.7 h.8 h.12)
          (λ v u. under p a f gs (λ k c. (more_around p sites a f n gs classes meant sc hs base (first ∷ []) k c.0.0, as_point k h.2 j.3 (sym (push base first (second ∷ []))) c.1))
          (place_of h.1 (m + 1) h.2 h.7 h.8 h.12 (base ++ first ∷ []) (omega (arith, count, one_more base first)) v second j.3 u)))
          (under p a f gs (λ k c. (c.0.0.0, c.1)) (one_of h.0 m h.1 h.8 h.9 h.13 base count g first j.2 (j.4)))))

  -- ---- tuples

  abbrev pub OfItems : Scope → List Handler → (ℕ → ℕ → Path → ℕ → ℕ → ℕ → ℕ → ℕ → ℕ → Type 0) → (ℕ → ℕ → Environment → Shape → Point → Type 0) → Type 0
  OfItems sc hs B G =
      (c i : ℕ) (path : Path) (at b m q lo hi : ℕ) → B c i path at b m q lo hi → (base before behind : List Shape) → m ≡ n + length base → (x y : Shape) → base ≡ before ++ x ∷ behind → at ≡ n + length before
      → Along p sites a f n gs classes meant path x y → (e : Environment) (r : Point) → G c i e y r → S lo hi (λ k. R sc hs base k × Q k q r base) (λ k. E k b e base)

  pub bind_parts : (sc : Scope) (hs : List Handler) (node : ℕ) (ts : Targets) → OfItems sc hs (λ c i path at b m q lo hi. marks.HasItems meant gs f n sc node ts c i path at b m q lo hi) (λ c i e y r. part.BindsItems p sites a n hs node ts c i e y r)
      → OfBind sc hs (λ path at m keep b q lo hi. marks.HasBind meant gs f n sc (Parts node ts) path at m keep b q lo hi) (λ g y r. part.Binds p sites a n hs (Parts node ts) g y r)
  bind_parts sc hs node ts items path at m keep b q lo hi h base kept dropped before behind count is kept_is x y has placed e seen along taken r leads j =
      let C : Spots → Type 0 = λ k. R sc hs base k × Q k q r kept in
      let item = with_item p sites a f n gs classes meant sc hs e C base m count (λ k c. c.0) at before behind x has placed path y in
      so p a f gs (λ k c i. i.1)
      (seq p a f gs (parts taken j)
      (taken_at p sites a f n gs classes meant sc hs e (λ k. C k × Q k h.0 taken item) base m count (λ k c. c.0.0) at before behind x has placed path seen b h.0 h.3 h.4 h.7 hi h.11 y along (λ k c ok. led p a f n classes k h.0 taken e item (leads ok) c.1)))
    where
      back : (r : Point) → S lo h.5 (λ k. R sc hs base k × Q k q r kept) (λ k. Q k h.2 r base)
      back Never = so p a f gs (λ k c i. tt) (under p a f gs (λ k c. tt) (idle.block p sites a f n gs classes meant h.2 m (Go (first q keep)) h.8))
      back (With g) = go p sites a f n gs classes meant h.2 m (first q keep) h.8 g base (λ k c. goes_keeping p a f n classes k q keep g kept dropped base is kept_is c.1)

      parts : (taken : Point) → At taken (λ g. part.Binds p sites a n hs (Parts node ts) g y r)
          → S lo h.7 (λ k. R sc hs base k × Q k q r kept) (λ k. Q k h.0 taken (with_item p sites a f n gs classes meant sc hs e (λ k. R sc hs base k × Q k q r kept) base m count (λ k c. c.0) at before behind x has placed path y))
      parts Never j =
          so p a f gs (λ k c i. tt) (under p a f gs (λ k c. tt) (idle.both_of p sites a f n gs classes meant (idle.block p sites a f n gs classes meant h.2 m (Go (first q keep)) h.8)
          (idle.both_of p sites a f n gs classes meant (idle.items p sites a f n gs classes meant sc node ts (target_count (plain_targets ts)) 0 path at h.1 m h.2 h.5 h.6 h.9) (idle.op p sites a f n gs classes meant sc h.0 node true row.Copy (h.3 ∷ []) h.4 (first h.1 m) h.10))))
      parts (With g) j =
          let C : Spots → Type 0 = λ k. R sc hs base k × Q k q r kept in
          let item = with_item p sites a f n gs classes meant sc hs e C base m count (λ k c. c.0) at before behind x has placed path y in
          let item_is = with_is p sites a f n gs classes meant sc hs e C base m count (λ k c. c.0) at before behind x has placed path y in
          let extra = item_extra p sites a f n gs classes meant sc hs e C base m count (λ k c. c.0) at before behind x has placed path y in
          let wide = item_wide p sites a f n gs classes meant sc hs e C base m count (λ k c. c.0) at before behind x has placed path b h.0 h.3 h.4 h.7 hi h.11 y in
          let z = j.2.1.0 in
          let there = item_there p sites a f n gs classes meant sc hs e C base m count (λ k c. c.0) at before behind x has placed path b h.0 h.3 h.4 h.7 hi h.11 y along g (z ∷ []) in
          so p a f gs (λ k c i. i.1.1)
          (seq p a f gs (back r)
          (seq p a f gs
          (from_point p sites a f n gs classes meant h.1 base (λ v. part.BindsItems p sites a n hs node ts (part.count ts) 0 v y r) j.1 j.3 (idle.items p sites a f n gs classes meant sc node ts (target_count (plain_targets ts)) 0 path at h.1 m h.2 h.5 h.6 h.9)
          (λ v u. under p a f gs (λ k c. (c.0.0, c.1)) (items (part.count ts) 0 path at h.1 m h.2 h.5 h.6 h.9 base before behind count x y has placed along v r u)))
          (act p sites a f n gs classes meant sc h.0 node true row.Copy (h.3 ∷ []) h.4 (first h.1 m) h.10 g item hs (y ∷ []) z wide j.2.0 (ap (λ s. s ∷ []) there.0) (loose_held n g bound h.3 there.1) j.2.1.1 j.2.1.2 j.2.1.4
          (λ k c. subst (λ l. Watched p a f n classes k l hs sc.hands sc.default) (sym item_is) (watches p sites a f n gs classes meant sc hs base extra k c.0.0.0))
          (λ go k c.
          let on = j.2.1.3 (goes_no_stop row.Copy z refl go) in
          goes_keeping p a f n classes k h.1 m g base (extra ++ z ∷ []) (item ++ z ∷ []) (ap (λ l. l ++ z ∷ []) item_is ∙ append_assoc base extra (z ∷ [])) count (led p a f n classes k h.1 j.1 g base on.1 c.1)))))
