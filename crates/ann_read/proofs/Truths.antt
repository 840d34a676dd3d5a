-- Expressions whose truth is asked, and what is built of tests.
use Rattle.std.proofs.Common.{◌≡◌, ◌+◌, ◌<◌, ◌≤◌, ℕ, Bool, true, false, List, [], ◌∷◌, ◌⊎◌, inl, inr, length, get_or, Option, Some, None, refl, sym, ◌∙◌, arith, subst}
use Rattle.std.specs.Prelude.{is_some, not, if◌then◌else◌, nat_lt}
use Rattle.std.proofs.lemmas.Bool.{or_parts, ltb-true, ltb-false}
use Rattle.rpy_meaning.specs.declared.row.RowOp.{RowOp}
use Rattle.rpy_meaning.specs.declared.row.RowOp.TheVariants as row
use Rattle.rpy_tree.specs.declared.syntax.CmpOp.{CmpOp}
use Rattle.rpy_tree.specs.declared.syntax.CmpOp.TheVariants as cmp
use Rattle.flow_stands.specs.Places.{range, Scope, Jump, first_and, stored}
use Rattle.flow_stands.specs.Stands.{Branch}
use Rattle.flow_stands.specs.Stands as graph
use Rattle.flow_trees.specs.Tree.{Expr, Local, Apply, Exprs, none, more}
use Rattle.flow_trees.specs.Tells.{Telling, tells, asks_beside, has_beside, of_truth, of_none, of_class, at_least, of_less, of_comparison, of_operation, binds, is_none}
use Rattle.flow_trees.specs.Marks as marks
use Rattle.flow_trees.specs.Marks.{Place, Choice, beside_place, operands}
use Rattle.ann_lattice.specs.Shape.{Shape as Element, Nothing}
use Rattle.ann_lattice.specs.Order.{least}
use Rattle.ann_lattice.specs.Kind.{is_nothing}
use Rattle.ann_rules.specs.Rules as rule
use Rattle.ann_tree.specs.Annotation.{Environment, Point, Handler, At, elements_with, narrow}
use Rattle.ann_tree.specs.Gives as part
use Rattle.ann_tree.specs.Gives.{Giving, GivingAll, Weighing, Testing, Way, plainly, with_value, beside}
use Rattle.ann_read.proofs.Places.{with_at, with_before}
use Rattle.ann_read.proofs.Links.{Known, Fits, on, self, var, in_at, front, Enters, Inside, Wide, Linked, go_first, go_and, go_narrowed, formed_var}
use Rattle.ann_read.proofs.Points.{Agree, agree_with, agree_before, agree_on, agree_self, enters_less, point, at_point, with_input, Towards, Onto, towards_point, onto_point}
use Rattle.ann_read.proofs.Acts.{annotation, acted, Given, seen, operates, live, narrow_live, acts_onto, narrowed_loose, no}
use Rattle.ann_read.proofs.Held.{extend, extend_at, past_all, extend_agree, given_range, wide_as, acts_wide, goes_up, Forked, forks}
use Rattle.ann_read.proofs.Values.{InTree, Caught, ValueSim, ValuesSim, TestSim, meets_sim, applied_sim, not_sim}

-- ---- what a test tells is a narrowing

abbrev Narrows : Option Telling → Type 0
Narrows told = (t : Telling) → told ≡ Some t → rule.is_narrowing t.op ≡ true

untold : Narrows None
untold t e = cc

told_as : (i : ℕ) (o : RowOp) (b : Option ℕ) → rule.is_narrowing o ≡ true → Narrows (Some (record { local = i; op = o; beside = b }))
told_as i o b is t e = let s : record { local = i; op = o; beside = b } ≡ t = cc in subst (λ (t : Telling). rule.is_narrowing t.op ≡ true) s is

truth_narrows : (i : ℕ) (way : Bool) → Narrows (of_truth i way)
truth_narrows i true = told_as i row.DropNone None refl
truth_narrows i false = told_as i row.FalseNone None refl

none_narrows : (e : Expr) (named way : Bool) → Narrows (of_none e named way)
none_narrows (Local node i) true true = told_as i row.OnlyNone None refl
none_narrows (Local node i) true false = told_as i row.DropNone None refl
none_narrows e named way = untold

class_narrows : (d : ℕ) (e : Expr) (way : Bool) → Narrows (of_class d e way)
class_narrows d (Local node i) true = told_as i (row.Lower d) None refl
class_narrows d e way = untold

least_narrows : (a e : Expr) (place : ℕ) → Narrows (at_least a e place)
least_narrows (Local node i) e place = by_test (binds e i)
  where
    by_test : (b : Bool) → Narrows (if b then None else Some (record { local = i; op = row.NonNegative; beside = Some place }))
    by_test true = untold
    by_test false = told_as i row.NonNegative (Some place) refl
least_narrows a e place = untold

less_narrows : (a b : Expr) (way : Bool) → Narrows (of_less a b way)
less_narrows a b true = least_narrows b a 0
less_narrows a b false = least_narrows a b 1

comparison_narrows : (o : CmpOp) (a b : Expr) (way : Bool) → Narrows (of_comparison o a b way)
comparison_narrows cmp.Lt a b way = less_narrows a b way
comparison_narrows cmp.Le a b way = less_narrows a b way
comparison_narrows cmp.Gt a b way = less_narrows a b (not way)
comparison_narrows cmp.Ge a b way = less_narrows a b (not way)
comparison_narrows cmp.Is a b way = none_narrows a (is_none b) way
comparison_narrows cmp.IsNot a b way = none_narrows a (is_none b) (not way)
comparison_narrows o a b way = untold

operation_narrows : (o : RowOp) (es : Exprs) (way : Bool) → Narrows (of_operation o es way)
operation_narrows (row.IsInstance d) (more a none) way = class_narrows d a way
operation_narrows (row.Compare o) (more a (more b none)) way = comparison_narrows o a b way
operation_narrows o es way = untold

pub tells_narrow : (e : Expr) (way : Bool) → Narrows (tells e way)
tells_narrow (Local node i) way = truth_narrows i way
tells_narrow (Apply node value o es) way = operation_narrows o es way
tells_narrow e way = untold

goes_some : (way : Bool) (x : Element) → rule.goes way x ≡ true → is_nothing x ≡ false
goes_some way Nothing e = absurd (no e)
goes_some way x e = refl

module _ (c : Known) (sc : Scope) (hs : List Handler) where
  pub apply_sim : (node : ℕ) (value : Bool) (o : RowOp) (ways : Bool) (count : ℕ) (Es : Place) (Gs : GivingAll) (E : Choice) (T : Testing) → ValuesSim c sc hs count Es Gs → TestSim c sc hs E T
      → ValueSim c sc hs (marks.ApplyAt c.program c.graphs c.f c.n sc node value o ways count Es E) (part.ApplyAt c.p c.program.sites (annotation c) c.n hs node value o ways Gs T)
  apply_sim node value o ways count Es Gs E T values test = record {
    wide = λ b m q lo hi has. wide_at b m q lo hi has;
    sim = λ b m q lo hi e h has le enters catches x s onto. sim_at b m q lo hi e h has le enters catches x s onto;
  }
    where
      wide_at : (b m q lo hi : ℕ) → marks.ApplyAt c.program c.graphs c.f c.n sc node value o ways count Es E b m q lo hi → Wide c b m
      wide_at b m q lo hi (inl has) =
          let at = has.1 in
          values.wide b m at.0 at.1 hi at.3 (acts_wide c sc at.0 node value o (range m count) (m + count) (graph.onward o q m (m + count)) lo at.1 at.2)
      wide_at b m q lo hi (inr has) = (not_sim c sc hs node E T test).wide b m q lo hi has.2

      sim_at : (b m q lo hi : ℕ) (e : Environment) (h : ℕ → Element) → marks.ApplyAt c.program c.graphs c.f c.n sc node value o ways count Es E b m q lo hi → c.n ≤ m → Enters c b m e h → Caught c sc hs m h
          → (x : Element) (s : Point) → Onto c q m h x s → part.ApplyAt c.p c.program.sites (annotation c) c.n hs node value o ways Gs T e x s
      sim_at b m q lo hi e h (inl has) le enters catches x s onto =
          let r = applied_sim c sc hs node value o count Es Gs values b m q lo hi e h has.1 le enters catches x s onto in (r.0, inl (has.0, r.1))
      sim_at b m q lo hi e h (inr has) le enters catches x s onto =
          ([], inr (has.0, (refl, (not_sim c sc hs node E T test).sim b m q lo hi e h has.2 le enters catches x s onto)))

  -- ---- where a way of a test leads to

  abbrev pub Heads : ℕ → Bool → ℕ → (ℕ → Element) → Point → Option Element → Type 0
  Heads to false m h q None = Towards c to m h q
  Heads to true m h q (Some y) = Onto c to m h y q
  Heads to false m h q (Some y) = ⊥
  Heads to true m h q None = ⊥

  pub record AskSim (L : ℕ → ℕ → Branch → Branch → ℕ → ℕ → Type 0) (G : Environment → Way → Way → Type 0) : Type 0 where
    pub wide : (b m : ℕ) (so other_way : Branch) (lo hi : ℕ) → L b m so other_way lo hi → Wide c b m
    pub sim : (b m : ℕ) (so other_way : Branch) (lo hi : ℕ) (e : Environment) (h : ℕ → Element) → L b m so other_way lo hi → c.n ≤ m → Enters c b m e h → Caught c sc hs m h
        → (s t : Way) → Heads so.to so.value m h s.to s.value → Heads other_way.to other_way.value m h t.to t.value → G e s t

  pub and_sim : (node : ℕ) (L : ℕ → ℕ → Branch → Branch → ℕ → ℕ → Type 0) (E : Place) (H : Environment → Way → Way → Type 0) (G : Giving) → AskSim L H → ValueSim c sc hs E G
      → ValueSim c sc hs (marks.AndAt c.program c.graphs c.f c.n sc node L E) (part.AndAt c.p c.program.sites (annotation c) c.n hs node H G)
  and_sim node L E H G left right_sim = record {
    wide = λ b m q lo hi has. left.wide b m (graph.plainly has.1) (graph.with_value has.0) has.3 hi has.6;
    sim = λ b m q lo hi e h has le enters catches x s onto.
        let meet : ℕ = has.0 in
        let right : ℕ = has.1 in
        let at_meet = acts_wide c sc meet node true row.Copy (m ∷ []) (m + 1) (first_and q m (m + 1)) lo has.2 has.4 in
        let at_right = right_sim.wide right m meet has.2 has.3 has.5 in
        let y : Element = in_at c meet m in
        let meeting = onto_point c meet m h at_meet le in (
          y,
          point c right h m,
          point c meet h m,
          left.sim b m (graph.plainly right) (graph.with_value meet) has.3 hi e h has.6 le enters catches (plainly (point c right h m)) (with_value (point c meet h m) y)
              (towards_point c right m m h at_right (omega arith) le) meeting,
          at_point c right m h (λ g. G g y (point c meet h m)) (λ i. right_sim.sim right m meet has.2 has.3 (front c right) h has.5 le i catches y (point c meet h m) meeting),
          at_point c meet m h (λ g. InTree c sc hs node true row.Copy (y ∷ []) g x s)
              (λ i. meets_sim c sc hs node meet m q lo has.2 (front c meet) h y has.4 le (with_input c meet m (front c meet) h i) catches x s onto),
        );
  }

  pub or_sim : (node : ℕ) (L : ℕ → ℕ → Branch → Branch → ℕ → ℕ → Type 0) (E : Place) (H : Environment → Way → Way → Type 0) (G : Giving) → AskSim L H → ValueSim c sc hs E G
      → ValueSim c sc hs (marks.OrAt c.program c.graphs c.f c.n sc node L E) (part.OrAt c.p c.program.sites (annotation c) c.n hs node H G)
  or_sim node L E H G left right_sim = record {
    wide = λ b m q lo hi has. left.wide b m (graph.with_value has.0) (graph.plainly has.1) has.3 hi has.6;
    sim = λ b m q lo hi e h has le enters catches x s onto.
        let meet : ℕ = has.0 in
        let right : ℕ = has.1 in
        let at_meet = acts_wide c sc meet node true row.Copy (m ∷ []) (m + 1) (first_and q m (m + 1)) lo has.2 has.4 in
        let at_right = right_sim.wide right m meet has.2 has.3 has.5 in
        let y : Element = in_at c meet m in
        let meeting = onto_point c meet m h at_meet le in (
          y,
          point c right h m,
          point c meet h m,
          left.sim b m (graph.with_value meet) (graph.plainly right) has.3 hi e h has.6 le enters catches (with_value (point c meet h m) y) (plainly (point c right h m))
              meeting (towards_point c right m m h at_right (omega arith) le),
          at_point c right m h (λ g. G g y (point c meet h m)) (λ i. right_sim.sim right m meet has.2 has.3 (front c right) h has.5 le i catches y (point c meet h m) meeting),
          at_point c meet m h (λ g. InTree c sc hs node true row.Copy (y ∷ []) g x s)
              (λ i. meets_sim c sc hs node meet m q lo has.2 (front c meet) h y has.4 le (with_input c meet m (front c meet) h i) catches x s onto),
        );
  }

  -- ---- the truth of a value at a place, and what it tells of a local

  -- what stands beside the local is below what is held there
  abbrev pub Beside : ℕ → ℕ → (ℕ → Element) → List Element → Option ℕ → Type 0
  Beside value m g xs None = Unit {0}
  Beside value m g xs (Some place) = m + place < value + 1 → Fits c (get_or xs place Nothing) (g (m + place))

  beside_more : (value m : ℕ) (g : ℕ → Element) (xs : List Element) (r : Element) (o : Option ℕ) → Beside value m g xs o → Beside value m (elements_with g (value + 1) r) xs o
  beside_more value m g xs r None fits = tt
  beside_more value m g xs r (Some place) fits = λ lt. subst (λ y. Fits c (get_or xs place Nothing) y) (sym (with_before g (value + 1) r (m + place) lt)) (fits lt)

  beside_given : (base top m : ℕ) (e : Environment) (g : ℕ → Element) (xs : List Element) (o : Option ℕ) → Inside c base top e g → c.n ≤ m → (value : ℕ) → value + 1 ≤ top → marks.IsBefore c.program c.graphs c.f c.n o m value
      → Beside value m g xs o → Given c base (beside_place o m) (beside o xs)
  beside_given base top m e g xs None around le value lu there fits = tt
  beside_given base top m e g xs (Some place) around le value lu there fits =
      (on c (get_or xs place Nothing) (g (m + place)) (var c (base + (m + place))) (fits there) (around.held (m + place) (omega (arith, le)) (omega (arith, there, lu))), tt)

  -- a way on from the fork, where the value stands at a place
  way_on : (node : ℕ) (told : Option Telling) (m value to : ℕ) (carries : Bool) (jump : Jump) (lo hi : ℕ) (base : ℕ) (e : Environment) (g h : ℕ → Element) (xs : List Element) (x : Element)
      → marks.WayOn c.program c.graphs c.f c.n sc node told m value carries to jump lo hi → c.n ≤ m → m ≤ value → Inside c base (value + 1 + 1) e g → Agree m g h → Fits c x (g value)
      → Narrows told → ((t : Telling) → told ≡ Some t → Beside value m g xs t.beside)
      → Linked c None base jump → (q : Point) (y : Option Element) → Heads to carries m h q y → part.GoesOn c.p c.program.sites (annotation c) c.n node told xs x e q y
  way_on node told m value to true jump lo hi base e g h xs x has le lu around agree fits narrows besides linked q (Some y) heads =
      let there = go_and c base (value + 1 + 1) e g around to m value x le (omega (arith, lu)) (on c x (g value) (var c (base + value)) fits (around.held value (omega (arith, le, lu)) (omega arith)))
      (subst (λ j. Linked c None base j) has.0 linked) in
      heads e x (enters_less c to (m + 1) (m + 1) e (elements_with g m x) (elements_with h m x) (omega arith) (agree_with m g h x agree) there)
  way_on node told m value to true jump lo hi base e g h xs x has le lu around agree fits narrows besides linked q None heads = absurd heads
  way_on node told m value to false jump lo hi base e g h xs x has le lu around agree fits narrows besides linked q (Some y) heads = absurd heads
  way_on node None m value to false jump lo hi base e g h xs x has le lu around agree fits narrows besides linked q None heads =
      heads e (enters_less c to m m e g h (omega arith) agree (go_first c base (value + 1 + 1) e g around to m le (omega (arith, lu)) (subst (λ j. Linked c None base j) has.0 linked)))
  way_on node (Some t) m value to false jump lo hi base e g h xs x has le lu around agree fits narrows besides linked q None heads =
      let b : ℕ = has.0 in
      let norm = stored to m t.local (value + 1) in
      let enters = go_first c base (value + 1 + 1) e g around b (value + 1) (omega (arith, le, lu)) (omega arith) (subst (λ j. Linked c None base j) has.4 linked) in
      let does = acted c sc b node false t.op (operands t m) (value + 1) norm lo hi e g has.3 (omega (arith, le, lu)) enters in
      let low : ℕ = has.3.0.0 in
      let z : Element = var c (low + (value + 1)) in
      let narrow_is = narrows t refl in
      let given : Given c low (operands t m) (e.element t.local ∷ beside t.beside xs) =
      ((does.around.locals t.local has.1).0, beside_given low (value + 1) m e g xs t.beside does.around le value (omega arith) has.2 (besides t refl)) in (
        z,
        operates c sc low (value + 1) node false t.op (operands t m) norm e g does (e.element t.local ∷ beside t.beside xs) z given does.kept.free (formed_var c (low + (value + 1))) (self c z),
        heads (narrow e t.local z)
            (enters_less c to m m (narrow e t.local z) g h (omega arith) agree
            (go_narrowed c low (value + 1) e g does.around to m t.local (value + 1) z has.1 le (omega (arith, lu)) (self c z)
            (narrowed_loose c sc low (value + 1) node false t.op t.local (beside_place t.beside m) norm e g narrow_is does has.1)
            (narrow_live c sc low (value + 1) node false t.op (operands t m) norm e g does narrow_is))),
      )

  pub truth_sim : (node : ℕ) (asker : Expr) (b m value : ℕ) (so other_way : Branch) (lo hi : ℕ) (e : Environment) (g h : ℕ → Element) (xs : List Element) (x : Element)
      → marks.Truth c.program c.graphs c.f c.n sc node asker b m value so other_way lo hi → c.n ≤ m → m ≤ value → Enters c b (value + 1) e g → Agree m g h → Caught c sc hs m h → Fits c x (g value)
      → ((way : Bool) (t : Telling) → tells asker way ≡ Some t → Beside value m g xs t.beside)
      → (s t : Way) → Heads so.to so.value m h s.to s.value → Heads other_way.to other_way.value m h t.to t.value → part.Decides c.p c.program.sites (annotation c) c.n hs node asker xs x e s t
  truth_sim node asker b m value so other_way lo hi e g h xs x has le lu enters agree catches fits besides s t heads_so heads_other =
      let fork : ℕ = has.0 in
      let to_so = has.1 in
      let to_other = has.2 in
      let norm = first_and fork (value + 1) (value + 1) in
      let does = acted c sc b node false row.Truth (value ∷ []) (value + 1) norm has.5 hi e g has.9 (omega (arith, le, lu)) enters in
      let base : ℕ = has.9.0.0 in
      let r : Element = var c (base + (value + 1)) in
      let given : Given c base (value ∷ []) (x ∷ []) = (on c x (g value) (var c (base + value)) fits (does.around.held value (omega (arith, le, lu)) (omega arith)), tt) in
      let g2 : ℕ → Element = elements_with g (value + 1) r in
      let agree2 = agree_on (value + 1) m g2 g h (omega (arith, lu)) (agree_before (value + 1) (value + 1) g r (omega arith)) agree in
      let at_fork : (way : Bool) → rule.goes way r ≡ true → Forked c has.8.0.0 (value + 1 + 1) (value + 1) to_so to_other e g2 =
      λ way goes. forks c fork (value + 1 + 1) (value + 1) to_so to_other has.4 has.5 e g2 has.8 (omega (arith, le, lu))
      (go_and c base (value + 1) e g does.around fork (value + 1) (value + 1) r (omega (arith, le, lu)) (omega arith) (self c r)
      (live c sc base (value + 1) node false row.Truth (value ∷ []) norm e g does r (goes_some way r goes) (self c r))) in
      let fits2 : Fits c x (g2 value) = subst (λ y. Fits c x y) (sym (with_before g (value + 1) r value (omega arith))) fits in
      let at_test : Inside c has.8.0.0 (value + 1 + 1) e g2 → Fits c r (var c (has.8.0.0 + (value + 1))) =
      λ around. subst (λ y. Fits c y (var c (has.8.0.0 + (value + 1)))) (with_at g (value + 1) r) (around.held (value + 1) (omega (arith, le, lu)) (omega arith)) in
      let besides2 : (way : Bool) (t : Telling) → tells asker way ≡ Some t → Beside value m g2 xs t.beside = λ way t is. beside_more value m g xs r t.beside (besides way t is) in (
        seen c sc base (value + 1) node false row.Truth (value ∷ []) norm e g does hs m h (omega (arith, lu)) agree catches,
        r,
        operates c sc base (value + 1) node false row.Truth (value ∷ []) norm e g does (x ∷ []) r given does.kept.free (formed_var c (base + (value + 1))) (self c r),
        (λ goes.
            let fk = at_fork true goes in
            way_on node (tells asker true) m value so.to so.value to_so lo has.3 has.8.0.0 e g2 h xs x has.6 le lu fk.around agree2 fits2 (tells_narrow asker true) (besides2 true)
            (fk.so_linked (goes_up c true r (var c (has.8.0.0 + (value + 1))) (at_test fk.around) goes)) s.to s.value heads_so),
        (λ goes.
            let fk = at_fork false goes in
            way_on node (tells asker false) m value other_way.to other_way.value to_other has.3 has.4 has.8.0.0 e g2 h xs x has.7 le lu fk.around agree2 fits2 (tells_narrow asker false) (besides2 false)
            (fk.other_linked (goes_up c false r (var c (has.8.0.0 + (value + 1))) (at_test fk.around) goes)) t.to t.value heads_other),
      )

  -- ---- what is asked of an expression: of it alone, or of its operands, which stay

  pub record WeighSim (E : Place) (Sides : Choice) (W : Weighing) : Type 0 where
    pub wide : (b m q lo hi : ℕ) → E b m q lo hi → Wide c b m
    pub wide_sides : (b m count q lo hi : ℕ) → Sides b m count q lo hi → Wide c b m
    pub alone : (b m q lo hi : ℕ) (e : Environment) (h : ℕ → Element) → E b m q lo hi → c.n ≤ m → Enters c b m e h → Caught c sc hs m h → (x : Element) (s : Point) → Onto c q m h x s → (xs : List Element) × W e xs x s
    pub given : (b m count q lo hi : ℕ) → Sides b m count q lo hi → List Element
    pub counted : (b m count q lo hi : ℕ) (has : Sides b m count q lo hi) → length (given b m count q lo hi has) ≡ count
    pub beside : (b m count q lo hi : ℕ) (e : Environment) (h : ℕ → Element) → (has : Sides b m count q lo hi) → c.n ≤ m → Enters c b m e h → Caught c sc hs m h
        → (x : Element) (s : Point) → Onto c q (m + count) (extend h m (given b m count q lo hi has)) x s → W e (given b m count q lo hi has) x s

  no_beside : (asker : Expr) → asks_beside asker ≡ false → (value m : ℕ) (g : ℕ → Element) (xs : List Element) (way : Bool) (t : Telling) → tells asker way ≡ Some t → Beside value m g xs t.beside
  no_beside asker none_is value m g xs way t is = by_place t.beside (of_way way is)
    where
      of_way : (way : Bool) → tells asker way ≡ Some t → is_some t.beside ≡ false
      of_way true is = subst (λ told. has_beside told ≡ false) is (or_parts (has_beside (tells asker true)) (has_beside (tells asker false)) none_is).0
      of_way false is = subst (λ told. has_beside told ≡ false) is (or_parts (has_beside (tells asker true)) (has_beside (tells asker false)) none_is).1

      by_place : (o : Option ℕ) → is_some o ≡ false → Beside value m g xs o
      by_place None e = tt
      by_place (Some place) e = absurd (no (sym e))

  beside_held : (h : ℕ → Element) (m : ℕ) (xs : List Element) (x : Element) (value : ℕ) → value ≡ m + length xs → (o : Option ℕ) → Beside value m (elements_with (extend h m xs) value x) xs o
  beside_held h m xs x value is None = tt
  beside_held h m xs x value is (Some place) = λ lt. by_place (nat_lt place (length xs)) refl
    where
      by_place : (b : Bool) → nat_lt place (length xs) ≡ b → Fits c (get_or xs place Nothing) (elements_with (extend h m xs) value x (m + place))
      by_place true e =
          let l : place < length xs = ltb-true place (length xs) e in
          subst (λ y. Fits c (get_or xs place Nothing) y) (sym (with_before (extend h m xs) value x (m + place) (omega (arith, l, is)) ∙ extend_at h m xs place (m + place) l refl)) (self c (get_or xs place Nothing))
      by_place false e = subst (λ y. Fits c y (elements_with (extend h m xs) value x (m + place))) (sym (past_all xs place (ltb-false place (length xs) e))) (least (elements_with (extend h m xs) value x (m + place)))

  pub asks_sim : (node : ℕ) (asker : Expr) (E : Place) (Sides : Choice) (W : Weighing) → WeighSim E Sides W
      → AskSim (marks.Asks c.program c.graphs c.f c.n sc node asker E Sides) (part.Asks c.p c.program.sites (annotation c) c.n hs node asker W)
  asks_sim node asker E Sides W weigh = record { wide = wide_at; sim = sim_at }
    where
      wide_at : (b m : ℕ) (so other_way : Branch) (lo hi : ℕ) → marks.Asks c.program c.graphs c.f c.n sc node asker E Sides b m so other_way lo hi → Wide c b m
      wide_at b m so other_way lo hi (inl has) = weigh.wide b m has.0 has.1 hi has.4
      wide_at b m so other_way lo hi (inr has) = weigh.wide_sides b m has.1 has.0 has.2 hi has.4

      sim_at : (b m : ℕ) (so other_way : Branch) (lo hi : ℕ) (e : Environment) (h : ℕ → Element) → marks.Asks c.program c.graphs c.f c.n sc node asker E Sides b m so other_way lo hi → c.n ≤ m → Enters c b m e h
          → Caught c sc hs m h → (s t : Way) → Heads so.to so.value m h s.to s.value → Heads other_way.to other_way.value m h t.to t.value → part.Asks c.p c.program.sites (annotation c) c.n hs node asker W e s t
      sim_at b m so other_way lo hi e h (inl has) le enters catches s t to_so to_other =
          let mid : ℕ = has.0 in
          let tr = has.3 in
          let there = acts_wide c sc mid node false row.Truth (m ∷ []) (m + 1) (first_and tr.0 (m + 1) (m + 1)) tr.5 has.1 tr.9 in
          let x : Element = in_at c mid m in
          let w = weigh.alone b m mid has.1 hi e h has.4 le enters catches x (point c mid h m) (onto_point c mid m h there le) in (
            w.0,
            x,
            point c mid h m,
            w.1,
            at_point c mid m h (λ g. part.Decides c.p c.program.sites (annotation c) c.n hs node asker w.0 x g s t)
                (λ i. truth_sim node asker mid m m so other_way lo has.1 (front c mid) (elements_with h m x) h w.0 x tr le (omega arith) (with_input c mid m (front c mid) h i)
                (agree_before m m h x (omega arith)) catches (subst (λ y. Fits c x y) (sym (with_at h m x)) (self c x)) (no_beside asker has.2 m m (elements_with h m x) w.0) s t to_so to_other),
          )
      sim_at b m so other_way lo hi e h (inr has) le enters catches s t to_so to_other =
          let mid : ℕ = has.0 in
          let count : ℕ = has.1 in
          let tr = has.3 in
          let value : ℕ = m + count in
          let there = acts_wide c sc mid node false row.Truth (value ∷ []) (value + 1) (first_and tr.0 (value + 1) (value + 1)) tr.5 has.2 tr.9 in
          let xs : List Element = weigh.given b m count mid has.2 hi has.4 in
          let long : length xs ≡ count = weigh.counted b m count mid has.2 hi has.4 in
          let g : ℕ → Element = extend h m xs in
          let x : Element = in_at c mid value in (
            xs,
            x,
            point c mid g value,
            weigh.beside b m count mid has.2 hi e h has.4 le enters catches x (point c mid g value) (onto_point c mid value g there (omega (arith, le))),
            at_point c mid value g (λ env. part.Decides c.p c.program.sites (annotation c) c.n hs node asker xs x env s t)
                (λ i. truth_sim node asker mid m value so other_way lo has.2 (front c mid) (elements_with g value x) h xs x tr le (omega arith) (with_input c mid value (front c mid) g i)
                (agree_on value m (elements_with g value x) g h (omega arith) (agree_before value value g x (omega arith)) (extend_agree c h m xs)) catches
                (subst (λ y. Fits c x y) (sym (with_at g value x)) (self c x)) (λ way told is. beside_held h m xs x value (omega (arith, long)) told.beside) s t to_so to_other),
          )

  -- nothing but the expression
  pub only_sim : (E : Place) (G : Giving) → ValueSim c sc hs E G → WeighSim E (λ b m count q lo hi. ⊥) (part.Alone c.p c.program.sites (annotation c) c.n G)
  only_sim E G value = record {
    wide = value.wide;
    wide_sides = λ b m count q lo hi has. absurd has;
    alone = λ b m q lo hi e h has le enters catches x s onto. ([], (refl, value.sim b m q lo hi e h has le enters catches x s onto));
    given = λ b m count q lo hi has. absurd has;
    counted = λ b m count q lo hi has. absurd has;
    beside = λ b m count q lo hi e h has le enters catches x s onto. absurd has;
  }

  -- an operation, which may stay with its operands
  pub sides_sim : (node : ℕ) (value : Bool) (o : RowOp) (ways : Bool) → (graph.IsComparison o → ways ≡ false) → (count : ℕ) (Es : Place) (Gs : GivingAll) (E : Choice) (T : Testing) → ValuesSim c sc hs count Es Gs → TestSim c sc hs E T
      → WeighSim (marks.ApplyAt c.program c.graphs c.f c.n sc node value o ways count Es E) (marks.SidesAt c.program c.graphs c.f c.n sc node value o count Es) (part.WeighAt c.p c.program.sites (annotation c) c.n hs node value o ways Gs T)
  sides_sim node value o ways plain count Es Gs E T values test = record {
    wide = (apply_sim node value o ways count Es Gs E T values test).wide;
    wide_sides = λ b m l q lo hi has. values.wide b m has.1.0 has.1.1 hi has.1.4 (as_count m l has.1.0 has.0 (acts_wide c sc has.1.0 node value o (range m l) (m + l) (first_and q (m + l) (m + l)) lo has.1.1 has.1.3));
    alone = λ b m q lo hi e h has le enters catches x s onto. (apply_sim node value o ways count Es Gs E T values test).sim b m q lo hi e h has le enters catches x s onto;
    given = λ b m l q lo hi has. values.given b m has.1.0 has.1.1 hi has.1.4;
    counted = λ b m l q lo hi has. values.counted b m has.1.0 has.1.1 hi has.1.4 ∙ sym has.0;
    beside = λ b m l q lo hi e h has le enters catches x s onto.
        let mid : ℕ = has.1.0 in
        let xs : List Element = values.given b m mid has.1.1 hi has.1.4 in
        let long : length xs ≡ l = values.counted b m mid has.1.1 hi has.1.4 ∙ sym has.0 in
        let same : l ≡ count = has.0 in
        let g : ℕ → Element = extend h m xs in
        let norm = first_and q (m + l) (m + l) in
        let there = acts_wide c sc mid node value o (range m l) (m + l) norm lo has.1.1 has.1.3 in
        inl (
          plain has.1.2,
          (
            point c mid g (m + l),
            values.sim b m mid has.1.1 hi e h has.1.4 le (as_count m l mid same there) enters catches (point c mid g (m + l))
                (λ env i. towards_point c mid (m + l) (m + l) g there (omega arith) (omega (arith, le)) env (enters_less c mid (m + count) (m + l) env g g (omega (arith, same)) (agree_self (m + l) g) i)),
            at_point c mid (m + l) g (λ env. InTree c sc hs node value o xs env x s)
                (λ i.
                let does = acted c sc mid node value o (range m l) (m + l) norm lo has.1.1 (front c mid) g has.1.3 (omega (arith, le)) i in
                let base : ℕ = has.1.3.0.0 in
                acts_onto c sc base (m + l) node value o (range m l) norm (front c mid) g does hs
                (seen c sc base (m + l) node value o (range m l) norm (front c mid) g does hs m h (omega arith) (extend_agree c h m xs) catches) xs
                (subst (λ n. Given c base (range m n) xs) long (given_range c base (m + l) (front c mid) h m xs does.around le (omega (arith, long)))) q (m + l) g x s (omega (arith, le)) (omega arith)
                (agree_self (m + l) g) (λ r. refl) onto),
          ),
        );
  }
    where
      as_count : (m l b : ℕ) → l ≡ count → Wide c b (m + l) → Wide c b (m + count)
      as_count m l b same w = wide_as c b (m + l) (m + count) (omega (arith, same)) w

  -- ---- tests

  pub asked_sim : (node : ℕ) (asker : Expr) (E : Place) (Sides : Choice) (W : Weighing) → WeighSim E Sides W
      → TestSim c sc hs (λ b m so other_way lo hi. marks.Asks c.program c.graphs c.f c.n sc node asker E Sides b m (graph.plainly so) (graph.plainly other_way) lo hi) (part.Tests c.p c.program.sites (annotation c) c.n hs node asker W)
  asked_sim node asker E Sides W weigh = record {
    wide = λ b m so other_way lo hi has. (asks_sim node asker E Sides W weigh).wide b m (graph.plainly so) (graph.plainly other_way) lo hi has;
    sim = λ b m so other_way lo hi e h has le enters catches s t to_so to_other.
        (asks_sim node asker E Sides W weigh).sim b m (graph.plainly so) (graph.plainly other_way) lo hi e h has le enters catches (plainly s) (plainly t) to_so to_other;
  }

  pub and_test : (E F : Choice) (T U : Testing) → TestSim c sc hs E T → TestSim c sc hs F U
      → TestSim c sc hs (λ b m so other_way lo hi. (k l : ℕ) × F k m so other_way lo l × E b m k other_way l hi) (λ e so other. (right : Point) × T e right other × At right (λ g. U g so other))
  and_test E F T U left right = record {
    wide = λ b m so other_way lo hi has. left.wide b m has.0 other_way has.1 hi has.3;
    sim = λ b m so other_way lo hi e h has le enters catches s t to_so to_other.
        let mid : ℕ = has.0 in
        let there = right.wide mid m so other_way lo has.1 has.2 in (
          point c mid h m,
          left.sim b m mid other_way has.1 hi e h has.3 le enters catches (point c mid h m) t (towards_point c mid m m h there (omega arith) le) to_other,
          at_point c mid m h (λ g. U g s t) (λ i. right.sim mid m so other_way lo has.1 (front c mid) h has.2 le i catches s t to_so to_other),
        );
  }

  pub or_test : (E F : Choice) (T U : Testing) → TestSim c sc hs E T → TestSim c sc hs F U
      → TestSim c sc hs (λ b m so other_way lo hi. (k l : ℕ) × F k m so other_way lo l × E b m so k l hi) (λ e so other. (right : Point) × T e so right × At right (λ g. U g so other))
  or_test E F T U left right = record {
    wide = λ b m so other_way lo hi has. left.wide b m so has.0 has.1 hi has.3;
    sim = λ b m so other_way lo hi e h has le enters catches s t to_so to_other.
        let mid : ℕ = has.0 in
        let there = right.wide mid m so other_way lo has.1 has.2 in (
          point c mid h m,
          left.sim b m so mid has.1 hi e h has.3 le enters catches s (point c mid h m) to_so (towards_point c mid m m h there (omega arith) le),
          at_point c mid m h (λ g. U g s t) (λ i. right.sim mid m so other_way lo has.1 (front c mid) h has.2 le i catches s t to_so to_other),
        );
  }

  -- an operation that is asked, or `not` of a test, whose ways are exchanged
  pub either_test : (o : RowOp) (negated : Bool) (E F : Choice) (T U : Testing) → TestSim c sc hs E T → TestSim c sc hs F U
      → TestSim c sc hs (λ b m so other_way lo hi. ((negated ≡ false) × E b m so other_way lo hi) ⊎ ((negated ≡ true) × (o ≡ row.Not) × F b m other_way so lo hi))
      (λ e so other. ((negated ≡ false) × T e so other) ⊎ ((negated ≡ true) × U e other so))
  either_test o negated E F T U one two = record { wide = wide_at; sim = sim_at }
    where
      wide_at : (b m so other_way lo hi : ℕ) → ((negated ≡ false) × E b m so other_way lo hi) ⊎ ((negated ≡ true) × (o ≡ row.Not) × F b m other_way so lo hi) → Wide c b m
      wide_at b m so other_way lo hi (inl has) = one.wide b m so other_way lo hi has.1
      wide_at b m so other_way lo hi (inr has) = two.wide b m other_way so lo hi has.2

      sim_at : (b m so other_way lo hi : ℕ) (e : Environment) (h : ℕ → Element) → ((negated ≡ false) × E b m so other_way lo hi) ⊎ ((negated ≡ true) × (o ≡ row.Not) × F b m other_way so lo hi) → c.n ≤ m → Enters c b m e h
          → Caught c sc hs m h → (s t : Point) → Towards c so m h s → Towards c other_way m h t → ((negated ≡ false) × T e s t) ⊎ ((negated ≡ true) × U e t s)
      sim_at b m so other_way lo hi e h (inl has) le enters catches s t to_so to_other = inl (has.0, one.sim b m so other_way lo hi e h has.1 le enters catches s t to_so to_other)
      sim_at b m so other_way lo hi e h (inr has) le enters catches s t to_so to_other = inr (has.0, two.sim b m other_way so lo hi e h has.2 le enters catches t s to_other to_so)
