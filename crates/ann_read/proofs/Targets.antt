-- Names, attributes, places and tuples as targets.
use Rattle.std.proofs.Common.{◌≡◌, ◌+◌, ◌<◌, ◌≤◌, ℕ, suc, Bool, true, false, List, [], ◌∷◌, ◌++◌, refl, sym, ◌∙◌, arith, subst}
use Rattle.std.specs.Prelude.{not}
use Rattle.rpy_meaning.specs.declared.row.RowOp.{RowOp}
use Rattle.rpy_meaning.specs.declared.row.RowOp.TheVariants as row
use Rattle.flow_stands.specs.Places.{Scope, Go, first, stored}
use Rattle.flow_trees.specs.Marks as marks
use Rattle.flow_trees.specs.Marks.{Place, Step, Path}
use Rattle.ann_lattice.specs.Shape.{Shape as Element}
use Rattle.ann_lattice.specs.Laws.{IsFormed}
use Rattle.ann_lattice.specs.Assign.{Under}
use Rattle.ann_lattice.specs.Kind.{is_nothing}
use Rattle.ann_rules.specs.Rules as rule
use Rattle.ann_tree.specs.Annotation.{Environment, Point, Handler, At, elements_with, bind}
use Rattle.ann_tree.specs.Gives as part
use Rattle.ann_tree.specs.Gives.{Giving}
use Rattle.ann_read.proofs.Places.{with_at, with_before}
use Rattle.ann_read.proofs.Links.{Known, k, u, Fits, on, self, var, in_at, front, Enters, Wide, go_first, go_stored}
use Rattle.ann_read.proofs.Points.{Agree, agree_before, agree_on, agree_self, enters_less, LeadsTo, point, at_point, with_input, Towards, towards_point, onto_point, point_if, at_point_if}
use Rattle.ann_read.proofs.Acts.{annotation, catches_on, acted, seen, acts_towards, stores}
use Rattle.ann_read.proofs.Held.{wide_as, acts_wide, is_wide, goes_on}
use Rattle.ann_read.proofs.Values.{InGraph, InTree, Caught, caught_more, ValueSim}
use Rattle.ann_read.proofs.Binds.{item_of, asked_item, along, along_more, Some_item, some_more, First, first_taken, first_there, taken_at, there_at, taken_wide, there_wide, item_formed}

pub fewer : (m keep : ℕ) (g h : ℕ → Element) → keep ≤ m → Agree m g h → Agree keep g h
fewer m keep g h le a j lt = a j (omega (arith, lt, le))

module _ (c : Known) (sc : Scope) (hs : List Handler) where
  abbrev pub Bind : Type 1
  Bind = Path → ℕ → ℕ → ℕ → ℕ → ℕ → ℕ → ℕ → Type 0

  abbrev pub Storing : ℕ → RowOp → List Element → Environment → Environment → Point → Type 0
  Storing = part.Stores c.p c.program.sites (annotation c) c.n hs

  pub record BindSim (B : Bind) (S : Environment → Element → Point → Type 0) : Type 0 where
    pub wide : (path : Path) (at m keep b q lo hi : ℕ) → B path at m keep b q lo hi → Wide c b m
    pub first : (path : Path) (step : Step) (at m keep b q lo hi : ℕ) (e : Environment) (h : ℕ → Element) → B (path ++ step ∷ []) at m keep b q lo hi → c.n ≤ at → at < m → Enters c b m e h → Caught c sc hs m h
        → First c sc hs path step e (h at)
    pub sim : (path : Path) (at m keep b q lo hi : ℕ) (e : Environment) (h : ℕ → Element) → B path at m keep b q lo hi → c.n ≤ at → at < m → c.n ≤ keep → keep ≤ m → Enters c b m e h → Caught c sc hs m h
        → Some_item c path (h at) → (s : Point) → Towards c q keep h s → S e (along c path (h at)) s

  pub name_sim : (node i : ℕ)
      → BindSim
      (λ path at m keep b q lo hi. (k v w l1 : ℕ) × (i < c.n) × InGraph c sc hs k node true row.Copy (v ∷ []) w (stored q keep i w) lo l1 × marks.Taken c.program c.graphs c.f c.n sc path at b m k v w l1 hi)
      (λ e x q. Storing node row.Copy (x ∷ []) e (bind e i (c.element node)) q)
  name_sim node i = record {
    wide = λ path at m keep b q lo hi has. taken_wide c sc hs path at b m has.0 has.1 has.2 has.3 hi has.6 (acts_wide c sc has.0 node true row.Copy (has.1 ∷ []) has.2 (stored q keep i has.2) lo has.3 has.5);
    first = λ path step at m keep b q lo hi e h has ge lt enters catches. first_taken c sc hs path step at b m has.0 has.1 has.2 has.3 hi e h has.6 ge lt enters catches;
    sim = λ path at m keep b q lo hi e h has ge lt le lu enters catches some s to.
        let x : Element = along c path (h at) in
        let v : ℕ = has.1 in
        let w : ℕ = has.2 in
        let norm = stored q keep i w in
        let t = taken_at c sc hs path at b m has.0 v w has.3 hi e h (h at) has.6 ge lt enters catches (self c (h at)) some in
        let low = t.low in
        let high = t.high in
        let more = t.more in
        let does = acted c sc has.0 node true row.Copy (v ∷ []) w norm lo has.3 e t.g has.5 (omega (arith, low, high)) t.enters in
        let base : ℕ = has.5.0.0 in
        stores c sc base w node true row.Copy (v ∷ []) norm e t.g does hs (seen c sc base w node true row.Copy (v ∷ []) norm e t.g does hs m h more t.agree catches) (x ∷ [])
        (on c x (t.g v) (var c (base + v)) t.fits (does.around.held v low high), tt) refl (bind e i (c.element node)) s
        (λ fits linked.
        to (bind e i (c.element node))
        (enters_less c q keep keep (bind e i (c.element node)) t.g h (omega arith) (fewer m keep t.g h lu t.agree) (go_stored c base w e t.g does.around q keep i w (c.element node) has.4 le (omega (arith, lu, more)) fits linked)));
  }

  pub attribute_sim : (node : ℕ) (name : List ℕ) (E : Place) (G : Giving) → ValueSim c sc hs E G
      → BindSim
      (λ path at m keep b q lo hi.
      (k l r v w l1 l2 l3 : ℕ)
      × InGraph c sc hs r node true (row.StoreAttr name) (m ∷ v ∷ []) w (first q keep) lo l1
      × marks.Taken c.program c.graphs c.f c.n sc path at l (m + 1) r v w l1 l2
      × E k m l l2 l3
      × marks.There c.program c.graphs c.f c.n sc path at b m k l3 hi)
      (λ e x q. (y : Element) × (behind : Point) × G e y behind × At behind (λ g. Storing node (row.StoreAttr name) (y ∷ x ∷ []) g g q))
  attribute_sim node name E G value = record {
    wide = λ path at m keep b q lo hi has. there_wide c sc hs path at b m has.0 has.7 hi has.11 (value.wide has.0 m has.1 has.6 has.7 has.10);
    first = λ path step at m keep b q lo hi e h has ge lt enters catches. first_there c sc hs path step at b m has.0 has.7 hi e h has.11 ge lt enters catches;
    sim = λ path at m keep b q lo hi e h has ge lt le lu enters catches some s to.
        let x : Element = along c path (h at) in
        let mid : ℕ = has.0 in
        let last : ℕ = has.1 in
        let r : ℕ = has.2 in
        let v : ℕ = has.3 in
        let w : ℕ = has.4 in
        let o = row.StoreAttr name in
        let norm = first q keep in
        let at_r = acts_wide c sc r node true o (m ∷ v ∷ []) w norm lo has.5 has.8 in
        let at_last = taken_wide c sc hs path at last (m + 1) r v w has.5 has.6 has.9 at_r in
        let in_mid = there_at c sc hs path at b m mid has.7 hi e h has.11 ge lt enters catches some in
        let y : Element = in_at c last m in
        let h1 : ℕ → Element = elements_with h m y in
        let at_is : h1 at ≡ h at = with_before h m y at lt in
        let le1 : c.n ≤ m = omega (arith, ge, lt) in (
          y,
          point c last h m,
          value.sim mid m last has.6 has.7 e h has.10 le1 in_mid catches y (point c last h m) (onto_point c last m h at_last le1),
          at_point c last m h (λ g. Storing node o (y ∷ x ∷ []) g g s)
              (λ i.
              let t = taken_at c sc hs path at last (m + 1) r v w has.5 has.6 (front c last) h1 (h at) has.9 ge (omega (arith, lt)) (with_input c last m (front c last) h i) (caught_more c sc hs m h y catches)
              (subst (λ z. Fits c (h at) z) (sym at_is) (self c (h at))) some in
              let low = t.low in
              let high = t.high in
              let more = t.more in
              let agree : Agree m t.g h = agree_on (m + 1) m t.g h1 h (omega arith) t.agree (agree_before m m h y (omega arith)) in
              let does = acted c sc r node true o (m ∷ v ∷ []) w norm lo has.5 (front c last) t.g has.8 (omega (arith, low, high)) t.enters in
              let base : ℕ = has.8.0.0 in
              stores c sc base w node true o (m ∷ v ∷ []) norm (front c last) t.g does hs (seen c sc base w node true o (m ∷ v ∷ []) norm (front c last) t.g does hs m h (omega (arith, more)) agree catches) (y ∷ x ∷ []) (
                subst (λ z. Fits c z (var c (base + m))) (t.agree m (omega arith) ∙ with_at h m y) (does.around.held m le1 (omega (arith, more))),
                (on c x (t.g v) (var c (base + v)) t.fits (does.around.held v low high), tt),
              ) refl (front c last) s
              (λ fits linked.
              to (front c last) (enters_less c q keep keep (front c last) t.g h (omega arith) (fewer m keep t.g h lu agree) (go_first c base w (front c last) t.g does.around q keep le (omega (arith, lu, more)) linked)))),
        );
  }

  pub item_sim : (node : ℕ) (E F : Place) (G H : Giving) → ValueSim c sc hs E G → ValueSim c sc hs F H
      → BindSim
      (λ path at m keep b q lo hi.
      (k l o r v w l1 l2 l3 l4 : ℕ)
      × InGraph c sc hs r node true row.StoreIndex (m ∷ (m + 1) ∷ v ∷ []) w (first q keep) lo l1
      × marks.Taken c.program c.graphs c.f c.n sc path at o (m + 2) r v w l1 l2
      × F l (m + 1) o l2 l3
      × E k m l l3 l4
      × marks.There c.program c.graphs c.f c.n sc path at b m k l4 hi)
      (λ e x q. (y z : Element) × (first second : Point) × G e y first × At first (λ g. H g z second) × At second (λ g. Storing node row.StoreIndex (y ∷ z ∷ x ∷ []) g g q))
  item_sim node E F G H left right = record {
    wide = λ path at m keep b q lo hi has. there_wide c sc hs path at b m has.0 has.9 hi has.14 (left.wide has.0 m has.1 has.8 has.9 has.13);
    first = λ path step at m keep b q lo hi e h has ge lt enters catches. first_there c sc hs path step at b m has.0 has.9 hi e h has.14 ge lt enters catches;
    sim = λ path at m keep b q lo hi e h has ge lt le lu enters catches some s to.
        let x : Element = along c path (h at) in
        let mid : ℕ = has.0 in
        let next : ℕ = has.1 in
        let last : ℕ = has.2 in
        let r : ℕ = has.3 in
        let v : ℕ = has.4 in
        let w : ℕ = has.5 in
        let o = row.StoreIndex in
        let args = m ∷ (m + 1) ∷ v ∷ [] in
        let norm = first q keep in
        let at_r = acts_wide c sc r node true o args w norm lo has.6 has.10 in
        let at_last = taken_wide c sc hs path at last (m + 2) r v w has.6 has.7 has.11 at_r in
        let at_next = right.wide next (m + 1) last has.7 has.8 has.12 in
        let in_mid = there_at c sc hs path at b m mid has.9 hi e h has.14 ge lt enters catches some in
        let y : Element = in_at c next m in
        let h1 : ℕ → Element = elements_with h m y in
        let z : Element = in_at c last (m + 1) in
        let h2 : ℕ → Element = elements_with h1 (m + 1) z in
        let at_is : h2 at ≡ h at = with_before h1 (m + 1) z at (omega (arith, lt)) ∙ with_before h m y at lt in
        let le1 : c.n ≤ m = omega (arith, ge, lt) in
        let c1 = caught_more c sc hs m h y catches in (
          y,
          z,
          point c next h m,
          point c last h1 (m + 1),
          left.sim mid m next has.8 has.9 e h has.13 le1 in_mid catches y (point c next h m) (onto_point c next m h at_next le1),
          at_point c next m h (λ g. H g z (point c last h1 (m + 1)))
              (λ i. right.sim next (m + 1) last has.7 has.8 (front c next) h1 has.12 (omega (arith, le1)) (with_input c next m (front c next) h i) c1 z (point c last h1 (m + 1))
              (onto_point c last (m + 1) h1 (wide_as c last (m + 2) (m + 1 + 1) (omega arith) at_last) (omega (arith, le1)))),
          at_point c last (m + 1) h1 (λ g. Storing node o (y ∷ z ∷ x ∷ []) g g s)
              (λ i.
              let inside = enters_less c last (m + 1 + 1) (m + 2) (front c last) h2 h2 (omega arith) (agree_self (m + 2) h2) (with_input c last (m + 1) (front c last) h1 i) in
              let agree2 : Agree m h2 h = agree_on (m + 1) m h2 h1 h (omega arith) (agree_before (m + 1) (m + 1) h1 z (omega arith)) (agree_before m m h y (omega arith)) in
              let t = taken_at c sc hs path at last (m + 2) r v w has.6 has.7 (front c last) h2 (h at) has.11 ge (omega (arith, lt)) inside (catches_on c sc hs m (m + 2) h2 h (omega arith) agree2 catches)
              (subst (λ a. Fits c (h at) a) (sym at_is) (self c (h at))) some in
              let low = t.low in
              let high = t.high in
              let more = t.more in
              let agree : Agree m t.g h = agree_on (m + 2) m t.g h2 h (omega arith) t.agree agree2 in
              let does = acted c sc r node true o args w norm lo has.6 (front c last) t.g has.10 (omega (arith, low, high)) t.enters in
              let base : ℕ = has.10.0.0 in
              stores c sc base w node true o args norm (front c last) t.g does hs (seen c sc base w node true o args norm (front c last) t.g does hs m h (omega (arith, more)) agree catches) (y ∷ z ∷ x ∷ []) (
                subst (λ a. Fits c a (var c (base + m))) (t.agree m (omega arith) ∙ with_before h1 (m + 1) z m (omega arith) ∙ with_at h m y) (does.around.held m le1 (omega (arith, more))),
                (
                  subst (λ a. Fits c a (var c (base + (m + 1)))) (t.agree (m + 1) (omega arith) ∙ with_at h1 (m + 1) z) (does.around.held (m + 1) (omega (arith, le1)) (omega (arith, more))),
                  (on c x (t.g v) (var c (base + v)) t.fits (does.around.held v low high), tt),
                ),
              ) refl (front c last) s
              (λ fits linked.
              to (front c last) (enters_less c q keep keep (front c last) t.g h (omega arith) (fewer m keep t.g h lu agree) (go_first c base w (front c last) t.g does.around q keep le (omega (arith, lu, more)) linked)))),
        );
  }

  -- ---- tuples

  pub record ItemsSim (B : ℕ → Path → ℕ → Place) (S : ℕ → Environment → Element → Point → Type 0) : Type 0 where
    pub wide : (i : ℕ) (path : Path) (at b m q lo hi : ℕ) → B i path at b m q lo hi → Wide c q m → Wide c b m
    pub sim : (i : ℕ) (path : Path) (at b m q lo hi : ℕ) (e : Environment) (h : ℕ → Element) → B i path at b m q lo hi → c.n ≤ at → at < m → Wide c q m → Enters c b m e h → Caught c sc hs m h
        → (s : Point) → Towards c q m h s → S i e (along c path (h at)) s

  pub items_sim : (node count : ℕ) (B : Bind) (Bs : ℕ → Path → ℕ → Place) (S : Environment → Element → Point → Type 0) (Ss SM : ℕ → Environment → Element → Point → Type 0) → BindSim B S → ItemsSim Bs Ss
      → ((i : ℕ) (e : Environment) (x : Element) (q : Point)
      → ((y : Element) × (taken behind : Point) × part.Takes c.p c.program.sites (annotation c) c.n hs node (row.Unpack count i) (x ∷ []) e y taken × At taken (λ g. S g y behind) × At behind (λ g. Ss (suc i) g x q)) → SM i e x q)
      → ItemsSim (λ i path at b m q lo hi. (k l : ℕ) × Bs (suc i) path at k m q lo l × B (path ++ record { node = node; count = count; place = i } ∷ []) at m m b k l hi) SM
  items_sim node count B Bs S Ss SM one rest join = record {
    wide = λ i path at b m q lo hi has w. one.wide (path ++ record { node = node; count = count; place = i } ∷ []) at m m b has.0 has.1 hi has.3;
    sim = λ i path at b m q lo hi e h has ge lt w enters catches s to.
        let step : Step = record { node = node; count = count; place = i } in
        let x : Element = along c path (h at) in
        let longer : Path = path ++ step ∷ [] in
        let mid : ℕ = has.0 in
        let le : c.n ≤ m = omega (arith, ge, lt) in
        let at_mid = rest.wide (suc i) path at mid m q lo has.1 has.2 w in
        let firsts = one.first path step at m m b mid has.1 hi e h has.3 ge lt enters catches in
        let y : Element = along c longer (h at) in
        let is : y ≡ item_of c step x = along_more c path step (h at) in
        join i e x s (
          y,
          point_if (not (is_nothing y)) e,
          point c mid h m,
          (
            firsts.seen_by,
            (firsts.clear, (λ there. (subst (λ z. Under (k c) (u c) (rule.asked c.p c.w 0 (row.Unpack count i) (x ∷ []) node) z) (sym is) (asked_item c step node x), tt)), λ f. subst (λ z. IsFormed z) (sym is) (item_formed c step x f.0)),
            λ t. subst (λ b. LeadsTo c e (point_if (not b) e)) (sym t) (λ j l. ((self c (e.element j), λ z. z), λ z. z)),
          ),
          at_point_if (not (is_nothing y)) e (λ g. S g y (point c mid h m))
              (λ t. one.sim longer at m m b mid has.1 hi e h has.3 ge lt le (omega arith) enters catches (some_more c path step (h at) (not_true (is_nothing y) t)) (point c mid h m) (towards_point c mid m m h at_mid (omega arith) le)),
          at_point c mid m h (λ g. Ss (suc i) g x s) (λ j. rest.sim (suc i) path at mid m q lo has.1 (front c mid) h has.2 ge lt w j catches s to),
        );
  }
    where
      not_true : (b : Bool) → not b ≡ true → b ≡ false
      not_true true t = sym t
      not_true false t = refl

  pub parts_sim : (node : ℕ) (Bs : ℕ → Path → ℕ → Place) (Ss : ℕ → Environment → Element → Point → Type 0) → ItemsSim Bs Ss
      → BindSim
      (λ path at m keep b q lo hi.
      (k l r v w l1 l2 l3 : ℕ)
      × marks.Is c.program c.graphs c.f c.n r m (Go (first q keep)) lo l1
      × Bs 0 path at l m r l1 l2
      × InGraph c sc hs k node true row.Copy (v ∷ []) w (first l m) l2 l3
      × marks.Taken c.program c.graphs c.f c.n sc path at b m k v w l3 hi)
      (λ e x q. (all : Element) × (behind : Point) × InTree c sc hs node true row.Copy (x ∷ []) e all behind × At behind (λ g. Ss 0 g x q))
  parts_sim node Bs Ss items = record {
    wide = λ path at m keep b q lo hi has. taken_wide c sc hs path at b m has.0 has.3 has.4 has.7 hi has.11 (acts_wide c sc has.0 node true row.Copy (has.3 ∷ []) has.4 (first has.1 m) has.6 has.7 has.10);
    first = λ path step at m keep b q lo hi e h has ge lt enters catches. first_taken c sc hs path step at b m has.0 has.3 has.4 has.7 hi e h has.11 ge lt enters catches;
    sim = λ path at m keep b q lo hi e h has ge lt le lu enters catches some s to.
        let x : Element = along c path (h at) in
        let last : ℕ = has.1 in
        let r : ℕ = has.2 in
        let v : ℕ = has.3 in
        let w : ℕ = has.4 in
        let le1 : c.n ≤ m = omega (arith, ge, lt) in
        let norm = first last m in
        let at_r = is_wide c r m (Go (first q keep)) lo has.5 has.8 in
        let at_last = items.wide 0 path at last m r has.5 has.6 has.9 at_r in
        let t = taken_at c sc hs path at b m has.0 v w has.7 hi e h (h at) has.11 ge lt enters catches (self c (h at)) some in
        let low = t.low in
        let high = t.high in
        let does = acted c sc has.0 node true row.Copy (v ∷ []) w norm has.6 has.7 e t.g has.10 (omega (arith, low, high)) t.enters in
        let base : ℕ = has.10.0.0 in (
          var c (base + w),
          point c last h m,
          acts_towards c sc base w node true row.Copy (v ∷ []) norm e t.g does hs (seen c sc base w node true row.Copy (v ∷ []) norm e t.g does hs m h t.more t.agree catches) (x ∷ [])
              (on c x (t.g v) (var c (base + v)) t.fits (does.around.held v low high), tt) last m h (point c last h m) le1 t.more t.agree refl (towards_point c last m m h at_last (omega arith) le1),
          at_point c last m h (λ g. Ss 0 g x s)
              (λ i. items.sim 0 path at last m r has.5 has.6 (front c last) h has.9 ge lt at_r i catches s
              (λ env j.
              let went = goes_on c r m (first q keep) lo has.5 env h has.8 le1 j in
              to env (go_first c has.8.0.0 m env h went.around q keep le lu went.linked))),
        );
  }
