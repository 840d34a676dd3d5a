-- What a reached block of a graph passes on, in an assignment in which all that its graph asks holds.
use Rattle.std.proofs.Common.{◌≡◌, ◌+◌, ◌<◌, ◌≤◌, ℕ, zero, suc, Bool, true, false, List, [], ◌∷◌, ◌++◌, length, map, get_or, Option, Some, None, refl, sym, ap, ◌∙◌, arith, subst}
use Rattle.std.specs.Prelude.{◌==◌, ◌&&◌, not, if◌then◌else◌, slice_get, slice_set}
use Rattle.std.proofs.lemmas.Bool.{eqb-true, eqb-false, eq-eqb, ne_eqb}
use Rattle.rpy_tree.specs.declared.program.ClassInfo.{ClassInfo}
use Rattle.rpy_meaning.specs.Tree as tree
use Rattle.flow_graph.specs.declared.graph.Op.{Op}
use Rattle.flow_graph.specs.declared.graph.Block.{Block}
use Rattle.flow_graph.specs.declared.graph.Graph.{Graph}
use Rattle.flow_graph.specs.declared.graph.Graphs.{Graphs}
use Rattle.flow_meaning.specs.Machine.{block_in}
use Rattle.flow_stands.specs.Places.{range, shift, Jump, first, first_and, stored, Shape, Go, Fork, Does, Plain, GiveBack, GiveUp, link, numbered}
use Rattle.ann_lattice.specs.Shape.{Shape as Element, Inst}
use Rattle.ann_lattice.specs.Order.{Below}
use Rattle.ann_lattice.specs.Join.{is_clash}
use Rattle.ann_lattice.specs.Kind.{some_nothing}
use Rattle.ann_lattice.specs.Laws.{IsFormed}
use Rattle.ann_lattice.specs.Assign.{Assignment, at, mark, Set}
use Rattle.ann_lattice.proofs.Ordered.{below_self, below_on}
use Rattle.ann_rules.specs.Program.{Whole}
use Rattle.ann_rules.specs.Asks.{when}
use Rattle.ann_rules.specs.Rules as rule
use Rattle.ann_rules.specs.Hold.{AllHold}
use Rattle.ann_rules.proofs.Facts.{Facts, hold_left, hold_right}
use Rattle.ann_tree.specs.Faults.{Flaw, shows}
use Rattle.ann_tree.specs.Annotation.{Environment, Passes, elements_with, bind, narrow}
use Rattle.ann_read.proofs.Places.{range_length, shift_length, shift_at, first_at, and_at, and_last, and_length, set_length, set_here, set_there, with_cases}

-- the element of a node is that of the result, up to classes of sites
pub record IsAlike (p : Whole) (w : Assignment) (x y : Element) : Type 0 where
  pub there : Below p.tables.classes w.same x y
  pub back : Below p.tables.classes w.same y x
  pub free : is_clash x ≡ false
  pub formed : IsFormed x

-- the result has its cell and its mark, is in no conflict, and is the value of its node
pub record IsKept (p : Whole) (w : Assignment) (element : ℕ → Element) (f : ℕ) (o : Op) : Type 0 where
  pub cell : p.places.variable f o.result < length w.cells
  pub loose : p.places.loose f o.result < length w.marks
  pub free : is_clash (at w (p.places.variable f o.result)) ≡ false
  pub node : o.value ≡ true → IsAlike p w (element o.node) (at w (p.places.variable f o.result))

-- the node is marked where the operation shows a flaw
abbrev pub IsShown : Whole → Assignment → (Flaw → ℕ → Bool) → ℕ → Op → Type 0
IsShown p w faulty f o =
    (flaw : Flaw) → some_nothing (map (rule.value p w f) o.args) ≡ false → shows p w flaw o.value o.op (map (rule.value p w f) o.args) ≡ true → faulty flaw o.node ≡ true

-- A program with its graphs, an assignment, an element and marks of flaws for each node, and a function with n locals: all that its graph asks holds, and what it
-- speaks of has its place.
pub record Known : Type 0 where
  pub program : tree.Program
  pub graphs : Graphs
  pub p : Whole
  pub w : Assignment
  pub element : ℕ → Element
  pub faulty : Flaw → ℕ → Bool
  pub f : ℕ
  pub n : ℕ
  pub graph : Graph
  pub is : slice_get graphs.graphs f ≡ Some graph
  pub function : graph.function ≡ f
  pub facts : Facts p w w
  pub blocks : AllHold p.tables.classes w (rule.blocks_needs p w f graph zero graph.blocks)
  pub placed_blocks : (b : ℕ) (code : Block) → slice_get graph.blocks b ≡ Some code → p.places.block f b < length w.marks
  pub placed_inputs : (b j : ℕ) → j < length (rule.inputs_of (slice_get graph.blocks b))
      → (p.places.variable f (get_or (rule.inputs_of (slice_get graph.blocks b)) j 0) < length w.cells) × (p.places.loose f (get_or (rule.inputs_of (slice_get graph.blocks b)) j 0) < length w.marks)
  pub kept : (b : ℕ) (code : Block) (o : Op) (os : List Op) → slice_get graph.blocks b ≡ Some code → code.ops ≡ o ∷ os → IsKept p w element f o
  pub shown : (b : ℕ) (code : Block) (o : Op) (os : List Op) → slice_get graph.blocks b ≡ Some code → code.ops ≡ o ∷ os → mark w (p.places.block f b) ≡ true → IsShown p w faulty f o

module _ (c : Known) where
  abbrev pub k : List ClassInfo
  k = c.p.tables.classes

  abbrev pub u : List ℕ
  u = c.w.same

  abbrev pub Fits : Element → Element → Type 0
  Fits x y = Below k u x y

  pub on : (x y z : Element) → Fits x y → Fits y z → Fits x z
  on x y z h i = below_on k c.facts.classes.tree u x y h z i

  pub self : (x : Element) → Fits x x
  self x = below_self k c.facts.classes.tree u x

  abbrev pub Onward : Element → Element → Type 0
  Onward x y = Passes k u x y

  pub passes_on : (x y : Element) → IsFormed y → Fits x y → Onward x y
  passes_on x y formed h = (h, λ f. formed)

  -- the element of a variable, and whether it may be unbound
  abbrev pub var : ℕ → Element
  var v = at c.w (c.p.places.variable c.f v)

  abbrev pub loose : ℕ → Bool
  loose v = mark c.w (c.p.places.loose c.f v)

  abbrev pub inputs : ℕ → List ℕ
  inputs b = rule.inputs_of (slice_get c.graph.blocks b)

  abbrev pub in_at : ℕ → ℕ → Element
  in_at b j = var (get_or (inputs b) j 0)

  pub formed_var : (v : ℕ) → IsFormed (var v)
  formed_var v = c.facts.formed (c.p.places.variable c.f v)

  pub formed_at : (b j : ℕ) → IsFormed (in_at b j)
  formed_at b j = formed_var (get_or (inputs b) j 0)

  abbrev pub in_loose : ℕ → ℕ → Bool
  in_loose b j = loose (get_or (inputs b) j 0)

  -- the environment of a block's inputs
  abbrev pub front : ℕ → Environment
  front b = record { element = in_at b; unbound = in_loose b }

  -- the block is reached with m variables, its inputs above an environment and what is held
  pub record Enters (b m : ℕ) (e : Environment) (h : ℕ → Element) : Type 0 where
    pub reached : c.p.places.block c.f b < length c.w.marks → mark c.w (c.p.places.block c.f b) ≡ true
    pub locals : (i : ℕ) → i < c.n → i < length (inputs b) → Fits (e.element i) (in_at b i) × (e.unbound i ≡ true → in_loose b i ≡ true)
    pub held : (j : ℕ) → c.n ≤ j → j < m → j < length (inputs b) → Fits (h j) (in_at b j)

  -- the block is there, and has m inputs
  pub record Wide (b m : ℕ) : Type 0 where
    pub there : c.p.places.block c.f b < length c.w.marks
    pub long : length (inputs b) ≡ m

  -- the block has this shape, with m inputs from `base` on
  abbrev pub Stands : ℕ → ℕ → ℕ → ℕ → Bool → Shape → Type 0
  Stands b base m node value shape = slice_get c.graph.blocks b ≡ Some (numbered base m node value shape)

  pub stands : (b base m node : ℕ) (value : Bool) (shape : Shape) → block_in (slice_get c.graphs.graphs c.f) b ≡ Some (numbered base m node value shape) → Stands b base m node value shape
  stands b base m node value shape h = subst (λ g. block_in g b ≡ Some (numbered base m node value shape)) c.is h

  inputs_are : (base m node : ℕ) (value : Bool) (shape : Shape) → rule.inputs_of (Some (numbered base m node value shape)) ≡ shift base (range 0 m)
  inputs_are base m node value (Go jump) = refl
  inputs_are base m node value (Fork test so other_way) = refl
  inputs_are base m node value (Does o args covers hands default norm) = refl
  inputs_are base m node value (Plain o jump) = refl
  inputs_are base m node value GiveBack = refl
  inputs_are base m node value GiveUp = refl

  module _ (b base m node : ℕ) (value : Bool) (shape : Shape) (h : Stands b base m node value shape) where
    pub inputs_is : inputs b ≡ shift base (range 0 m)
    inputs_is = ap rule.inputs_of h ∙ inputs_are base m node value shape

    pub wide : Wide b m
    wide = record {
      there = c.placed_blocks b (numbered base m node value shape) h;
      long = ap length inputs_is ∙ shift_length base (range 0 m) ∙ range_length 0 m;
    }

    pub input_at : (j : ℕ) → j < m → get_or (inputs b) j 0 ≡ base + j
    input_at j lt =
        let l = range_length 0 m in
        ap (λ (vs : List ℕ). get_or vs j 0) inputs_is ∙ shift_at base (range 0 m) j (omega (arith, l, lt)) ∙ ap (λ (i : ℕ). base + i) (first_at m j lt)

  -- ---- what is asked of a block

  needs_from : (bs : List Block) (s b : ℕ) (code : Block) → AllHold k c.w (rule.blocks_needs c.p c.w c.f c.graph s bs) → slice_get bs b ≡ Some code
      → mark c.w (c.p.places.block c.f (s + b)) ≡ true → AllHold k c.w (rule.block_needs c.p c.w c.f c.graph code)
  needs_from [] s b code h is m = cc
  needs_from (x ∷ bs) s zero code h is m =
      let e : s + zero ≡ s = omega arith in
      let same : x ≡ code = cc in
      let set : mark c.w (c.p.places.block c.f s) ≡ true = subst (λ i. mark c.w (c.p.places.block c.f i) ≡ true) e m in
      let first = hold_left k c.w (when (mark c.w (c.p.places.block c.f s)) (rule.block_needs c.p c.w c.f c.graph x)) (rule.blocks_needs c.p c.w c.f c.graph (suc s) bs) h in
      subst (λ y. AllHold k c.w (rule.block_needs c.p c.w c.f c.graph y)) same
      (subst (λ t. AllHold k c.w (when t (rule.block_needs c.p c.w c.f c.graph x))) set first)
  needs_from (x ∷ bs) s (suc b) code h is m =
      let e : s + suc b ≡ suc s + b = omega arith in
      needs_from bs (suc s) b code (hold_right k c.w (when (mark c.w (c.p.places.block c.f s)) (rule.block_needs c.p c.w c.f c.graph x)) (rule.blocks_needs c.p c.w c.f c.graph (suc s) bs) h) is
      (subst (λ i. mark c.w (c.p.places.block c.f i) ≡ true) e m)

  pub needs_of : (b m : ℕ) (e : Environment) (h : ℕ → Element) (code : Block) → slice_get c.graph.blocks b ≡ Some code → Enters b m e h → AllHold k c.w (rule.block_needs c.p c.w c.f c.graph code)
  needs_of b m e h code is enters =
      let z : zero + b ≡ b = omega arith in
      needs_from c.graph.blocks zero b code c.blocks is
      (subst (λ i. mark c.w (c.p.places.block c.f i) ≡ true) (sym z) (enters.reached (c.placed_blocks b code is)))

  -- ---- in a block

  -- the variables are above an environment and what is held
  pub record Inside (base m : ℕ) (e : Environment) (h : ℕ → Element) : Type 0 where
    pub locals : (i : ℕ) → i < c.n → Fits (e.element i) (var (base + i)) × (e.unbound i ≡ true → loose (base + i) ≡ true)
    pub held : (j : ℕ) → c.n ≤ j → j < m → Fits (h j) (var (base + j))

  pub inside : (b base m node : ℕ) (value : Bool) (shape : Shape) (e : Environment) (h : ℕ → Element) → Stands b base m node value shape → c.n ≤ m → Enters b m e h → Inside base m e h
  inside b base m node value shape e h is le enters = record { locals = of_local; held = of_held }
    where
      of_local : (i : ℕ) → i < c.n → Fits (e.element i) (var (base + i)) × (e.unbound i ≡ true → loose (base + i) ≡ true)
      of_local i lt =
          let l = (wide b base m node value shape is).long in
          subst (λ v. Fits (e.element i) (var v) × (e.unbound i ≡ true → loose v ≡ true)) (input_at b base m node value shape is i (omega (arith, lt, le)))
          (enters.locals i lt (omega (arith, lt, le, l)))

      of_held : (j : ℕ) → c.n ≤ j → j < m → Fits (h j) (var (base + j))
      of_held j ge lt =
          let l = (wide b base m node value shape is).long in
          subst (λ v. Fits (h j) (var v)) (input_at b base m node value shape is j lt) (enters.held j ge lt (omega (arith, lt, l)))

  -- ---- along a link

  -- what comes of a variable, or of an exception with its class
  abbrev pub Comes : Option ℕ → ℕ → Element → Bool → Type 0
  Comes None v x b = Fits x (var v) × (b ≡ true → loose v ≡ true)
  Comes (Some d) v x b = Fits x (Inst d false) × (b ≡ true → ⊥)

  abbrev pub Linked : Option (ℕ × ℕ) → ℕ → Jump → Type 0
  Linked caught base jump = AllHold k c.w (rule.link_needs c.p c.w c.f c.graph caught (link base jump))

  pass_at : (caught : Option (ℕ × ℕ)) (is vs : List ℕ) → AllHold k c.w (rule.pass_all c.p c.w c.f caught is vs) → (j : ℕ) → j < length is → j < length vs
      → AllHold k c.w (rule.passed c.p c.w c.f (rule.caught_as caught (get_or vs j 0)) (get_or vs j 0) (get_or is j 0))
  pass_at caught [] vs h j lt lu = absurd (omega (arith, lt))
  pass_at caught (i ∷ is) [] h j lt lu = absurd (omega (arith, lu))
  pass_at caught (i ∷ is) (v ∷ vs) h zero lt lu = hold_left k c.w (rule.passed c.p c.w c.f (rule.caught_as caught v) v i) (rule.pass_all c.p c.w c.f caught is vs) h
  pass_at caught (i ∷ is) (v ∷ vs) h (suc j) lt lu =
      pass_at caught is vs (hold_right k c.w (rule.passed c.p c.w c.f (rule.caught_as caught v) v i) (rule.pass_all c.p c.w c.f caught is vs) h) j (omega (arith, lt)) (omega (arith, lu))

  comes : (o : Option ℕ) (v i : ℕ) (x : Element) (b : Bool) → AllHold k c.w (rule.passed c.p c.w c.f o v i) → c.p.places.variable c.f i < length c.w.cells → c.p.places.loose c.f i < length c.w.marks
      → Comes o v x b → Fits x (var i) × (b ≡ true → loose i ≡ true)
  comes None v i x b h cell mk z = (on x (var v) (var i) z.0 (h.0 cell).0, λ t. (subst (λ (q : Bool). AllHold k c.w (when q (Set (c.p.places.loose c.f i) ∷ []))) (z.1 t) h.1).0 mk)
  comes (Some d) v i x b h cell mk z = (on x (Inst d false) (var i) z.0 (h.0 cell).0, λ t. absurd (z.1 t))

  module _ (caught : Option (ℕ × ℕ)) (base : ℕ) (jump : Jump) (linked : Linked caught base jump) where
    abbrev pub place : ℕ → ℕ
    place j = base + get_or jump.places j 0

    pub arrives : (j : ℕ) (x : Element) (b : Bool) → j < length jump.places → j < length (inputs jump.to) → Comes (rule.caught_as caught (place j)) (place j) x b
        → Fits x (in_at jump.to j) × (b ≡ true → in_loose jump.to j ≡ true)
    arrives j x b lt lu z =
        let l = shift_length base jump.places in
        let placed = c.placed_inputs jump.to j lu in
        let at_place = shift_at base jump.places j lt in
        let passed : AllHold k c.w (rule.passed c.p c.w c.f (rule.caught_as caught (place j)) (place j) (get_or (inputs jump.to) j 0)) =
        subst (λ v. AllHold k c.w (rule.passed c.p c.w c.f (rule.caught_as caught v) v (get_or (inputs jump.to) j 0))) at_place
        (pass_at caught (inputs jump.to) (shift base jump.places) linked.1 j lu (omega (arith, lt, l))) in
        comes (rule.caught_as caught (place j)) (place j) (get_or (inputs jump.to) j 0) x b passed placed.0 placed.1 z

    pub go : (m : ℕ) (e : Environment) (h : ℕ → Element) → c.n ≤ m → length jump.places ≡ m
        → ((i : ℕ) → i < c.n → Comes (rule.caught_as caught (place i)) (place i) (e.element i) (e.unbound i))
        → ((j : ℕ) → c.n ≤ j → j < m → Comes (rule.caught_as caught (place j)) (place j) (h j) false)
        → Enters jump.to m e h
    go m e h le long of_local of_held = record {
      reached = λ lt. linked.0 lt;
      locals = λ i lt lu. arrives i (e.element i) (e.unbound i) (omega (arith, lt, le, long)) lu (of_local i lt);
      held = λ j ge lt lu. (arrives j (h j) false (omega (arith, lt, long)) lu (of_held j ge lt)).0;
    }

  -- ---- the kinds of jumps, from a block with m variables whose exception, or result, is the next one

  module _ (base m : ℕ) (e : Environment) (h : ℕ → Element) (around : Inside base m e h) where
    local_at : (v i : ℕ) → i < c.n → v ≡ i → Comes None (base + v) (e.element i) (e.unbound i)
    local_at v i lt is = subst (λ j. Comes None (base + j) (e.element i) (e.unbound i)) (sym is) (around.locals i lt)

    held_at : (v j : ℕ) → c.n ≤ j → j < m → v ≡ j → Comes None (base + v) (h j) false
    held_at v j ge lt is = subst (λ i. Comes None (base + i) (h j) false) (sym is) (around.held j ge lt, λ t. absurd_false t)
      where
        absurd_false : {A : Type 0} → false ≡ true → A
        absurd_false t = cc

    -- ---- without an exception

    pub go_first : (to keep : ℕ) → c.n ≤ keep → keep ≤ m → Linked None base (first to keep) → Enters to keep e h
    go_first to keep le lu linked =
        go None base (first to keep) linked keep e h le (range_length 0 keep)
        (λ i lt. local_at (get_or (range 0 keep) i 0) i lt (first_at keep i (omega (arith, lt, le))))
        (λ j ge lt. held_at (get_or (range 0 keep) j 0) j ge (omega (arith, lt, lu)) (first_at keep j lt))

    pub go_and : (to keep pl : ℕ) (y : Element) → c.n ≤ keep → keep ≤ m → Fits y (var (base + pl)) → Linked None base (first_and to keep pl) → Enters to (keep + 1) e (elements_with h keep y)
    go_and to keep pl y le lu fits linked =
        go None base (first_and to keep pl) linked (keep + 1) e (elements_with h keep y) (omega (arith, le)) (and_length keep pl)
        (λ i lt. local_at (get_or (range 0 keep ++ pl ∷ []) i 0) i lt (and_at keep pl i (omega (arith, lt, le))))
        (λ j ge lt.
        with_cases (λ x. Comes None (base + get_or (range 0 keep ++ pl ∷ []) j 0) x false) h keep y j
        (λ is. (subst (λ v. Fits y (var (base + v))) (sym (ap (λ (q : ℕ). get_or (range 0 keep ++ pl ∷ []) q 0) is ∙ and_last keep pl)) fits, λ t. cc))
        (λ other. held_at (get_or (range 0 keep ++ pl ∷ []) j 0) j ge (omega (arith, lt, lu, other)) (and_at keep pl j (omega (arith, lt, other)))))

    -- a local gets the element at a place
    pub go_stored : (to keep i pl : ℕ) (y : Element) → i < c.n → c.n ≤ keep → keep ≤ m → Fits y (var (base + pl)) → Linked None base (stored to keep i pl) → Enters to keep (bind e i y) h
    go_stored to keep i pl y il le lu fits linked =
        go None base (stored to keep i pl) linked keep (bind e i y) h le (set_length keep i pl)
        (λ j lt. one j lt (j == i) refl)
        (λ j ge lt. held_at (get_or (slice_set (range 0 keep) i pl) j 0) j ge (omega (arith, lt, lu)) (set_there keep i pl j lt (λ is. omega (arith, is, il, ge))))
      where
        one : (j : ℕ) → j < c.n → (b : Bool) → (j == i) ≡ b → Comes None (base + get_or (slice_set (range 0 keep) i pl) j 0) ((bind e i y).element j) ((bind e i y).unbound j)
        one j lt true is =
            subst (λ b. Comes None (base + get_or (slice_set (range 0 keep) i pl) j 0) (if b then y else e.element j) (not b && e.unbound j)) (sym is)
            (subst (λ v. Fits y (var (base + v))) (sym (ap (λ (q : ℕ). get_or (slice_set (range 0 keep) i pl) q 0) (eqb-true j i is) ∙ set_here keep i pl (omega (arith, il, le)))) fits, λ t. cc)
        one j lt false is =
            subst (λ b. Comes None (base + get_or (slice_set (range 0 keep) i pl) j 0) (if b then y else e.element j) (not b && e.unbound j)) (sym is)
            (local_at (get_or (slice_set (range 0 keep) i pl) j 0) j lt (set_there keep i pl j (omega (arith, lt, le)) (eqb-false j i is)))

    -- a local is known better
    pub go_narrowed : (to keep i pl : ℕ) (y : Element) → i < c.n → c.n ≤ keep → keep ≤ m → Fits y (var (base + pl)) → (e.unbound i ≡ true → loose (base + pl) ≡ true)
        → Linked None base (stored to keep i pl) → Enters to keep (narrow e i y) h
    go_narrowed to keep i pl y il le lu fits unbound linked =
        go None base (stored to keep i pl) linked keep (narrow e i y) h le (set_length keep i pl)
        (λ j lt. one j lt (j == i) refl)
        (λ j ge lt. held_at (get_or (slice_set (range 0 keep) i pl) j 0) j ge (omega (arith, lt, lu)) (set_there keep i pl j lt (λ is. omega (arith, is, il, ge))))
      where
        one : (j : ℕ) → j < c.n → (b : Bool) → (j == i) ≡ b → Comes None (base + get_or (slice_set (range 0 keep) i pl) j 0) ((narrow e i y).element j) (e.unbound j)
        one j lt true is =
            let same : j ≡ i = eqb-true j i is in
            let there : get_or (slice_set (range 0 keep) i pl) j 0 ≡ pl = ap (λ (q : ℕ). get_or (slice_set (range 0 keep) i pl) q 0) same ∙ set_here keep i pl (omega (arith, il, le)) in
            subst (λ b. Comes None (base + get_or (slice_set (range 0 keep) i pl) j 0) (if b then y else e.element j) (e.unbound j)) (sym is) (
              subst (λ v. Fits y (var (base + v))) (sym there) fits,
              subst (λ v. e.unbound j ≡ true → loose (base + v) ≡ true) (sym there) (λ t. unbound (sym (ap e.unbound same) ∙ t)),
            )
        one j lt false is =
            subst (λ b. Comes None (base + get_or (slice_set (range 0 keep) i pl) j 0) (if b then y else e.element j) (e.unbound j)) (sym is)
            (local_at (get_or (slice_set (range 0 keep) i pl) j 0) j lt (set_there keep i pl j (omega (arith, lt, le)) (eqb-false j i is)))

    -- ---- with an exception of a class

    kept_at : (d v i : ℕ) (x : Element) (b : Bool) → i < m → v ≡ i → Comes None (base + v) x b → Comes (rule.caught_as (Some (base + m, d)) (base + v)) (base + v) x b
    kept_at d v i x b lt is h =
        subst (λ t. Comes (if t then Some d else None) (base + v) x b) (sym (ne_eqb (base + m) (base + v) (λ z. omega (arith, z, lt, is)))) h

    thrown_at : (d v : ℕ) → v ≡ m → Comes (rule.caught_as (Some (base + m, d)) (base + v)) (base + v) (Inst d false) false
    thrown_at d v is = subst (λ t. Comes (if t then Some d else None) (base + v) (Inst d false) false) (sym (eq-eqb (base + m) (base + v) (omega (arith, is)))) (self (Inst d false), λ t. cc)

    pub throw_first : (d to keep : ℕ) → c.n ≤ keep → keep ≤ m → Linked (Some (base + m, d)) base (first to keep) → Enters to keep e h
    throw_first d to keep le lu linked =
        go (Some (base + m, d)) base (first to keep) linked keep e h le (range_length 0 keep)
        (λ i lt.
        let is = first_at keep i (omega (arith, lt, le)) in
        kept_at d (get_or (range 0 keep) i 0) i (e.element i) (e.unbound i) (omega (arith, lt, le, lu)) is (local_at (get_or (range 0 keep) i 0) i lt is))
        (λ j ge lt.
        let is = first_at keep j lt in
        kept_at d (get_or (range 0 keep) j 0) j (h j) false (omega (arith, lt, lu)) is (held_at (get_or (range 0 keep) j 0) j ge (omega (arith, lt, lu)) is))

    pub throw_and : (d to keep : ℕ) → c.n ≤ keep → keep ≤ m → Linked (Some (base + m, d)) base (first_and to keep m) → Enters to (keep + 1) e (elements_with h keep (Inst d false))
    throw_and d to keep le lu linked =
        go (Some (base + m, d)) base (first_and to keep m) linked (keep + 1) e (elements_with h keep (Inst d false)) (omega (arith, le)) (and_length keep m)
        (λ i lt.
        let is = and_at keep m i (omega (arith, lt, le)) in
        kept_at d (get_or (range 0 keep ++ m ∷ []) i 0) i (e.element i) (e.unbound i) (omega (arith, lt, le, lu)) is (local_at (get_or (range 0 keep ++ m ∷ []) i 0) i lt is))
        (λ j ge lt.
        let v : ℕ = get_or (range 0 keep ++ m ∷ []) j 0 in
        with_cases (λ x. Comes (rule.caught_as (Some (base + m, d)) (base + v)) (base + v) x false) h keep (Inst d false) j
        (λ is. thrown_at d v (ap (λ (q : ℕ). get_or (range 0 keep ++ m ∷ []) q 0) is ∙ and_last keep m))
        (λ other.
        let is = and_at keep m j (omega (arith, lt, other)) in
        kept_at d v j (h j) false (omega (arith, lt, lu, other)) is (held_at v j ge (omega (arith, lt, lu, other)) is)))

    pub throw_stored : (d to keep i : ℕ) → i < c.n → c.n ≤ keep → keep ≤ m → Linked (Some (base + m, d)) base (stored to keep i m) → Enters to keep (bind e i (Inst d false)) h
    throw_stored d to keep i il le lu linked =
        go (Some (base + m, d)) base (stored to keep i m) linked keep (bind e i (Inst d false)) h le (set_length keep i m)
        (λ j lt. one j lt (j == i) refl)
        (λ j ge lt.
        let is = set_there keep i m j lt (λ is. omega (arith, is, il, ge)) in
        kept_at d (get_or (slice_set (range 0 keep) i m) j 0) j (h j) false (omega (arith, lt, lu)) is (held_at (get_or (slice_set (range 0 keep) i m) j 0) j ge (omega (arith, lt, lu)) is))
      where
        one : (j : ℕ) → j < c.n → (b : Bool) → (j == i) ≡ b
            → Comes (rule.caught_as (Some (base + m, d)) (base + get_or (slice_set (range 0 keep) i m) j 0)) (base + get_or (slice_set (range 0 keep) i m) j 0)
            ((bind e i (Inst d false)).element j) ((bind e i (Inst d false)).unbound j)
        one j lt true is =
            let v : ℕ = get_or (slice_set (range 0 keep) i m) j 0 in
            subst (λ b. Comes (rule.caught_as (Some (base + m, d)) (base + v)) (base + v) (if b then Inst d false else e.element j) (not b && e.unbound j)) (sym is)
            (thrown_at d v (ap (λ (q : ℕ). get_or (slice_set (range 0 keep) i m) q 0) (eqb-true j i is) ∙ set_here keep i m (omega (arith, il, le))))
        one j lt false is =
            let v : ℕ = get_or (slice_set (range 0 keep) i m) j 0 in
            let there = set_there keep i m j (omega (arith, lt, le)) (eqb-false j i is) in
            subst (λ b. Comes (rule.caught_as (Some (base + m, d)) (base + v)) (base + v) (if b then Inst d false else e.element j) (not b && e.unbound j)) (sym is)
            (kept_at d v j (e.element j) (e.unbound j) (omega (arith, lt, le, lu)) there (local_at v j lt there))
