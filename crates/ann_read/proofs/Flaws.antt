-- The flaws that graphs show in an assignment they show in each larger one that is closed under all that they ask and free of conflict.
use Rattle.std.proofs.Common.{◌≡◌, ◌+◌, ◌<◌, ℕ, zero, suc, Bool, true, false, List, [], ◌∷◌, inl, inr, length, map, Some, refl, sym, ap, ◌∙◌, arith, subst}
use Rattle.std.specs.Prelude.{◌==◌, ◌&&◌, ◌||◌, not, slice_get}
use Rattle.std.specs.List.{flat_map}
use Rattle.std.proofs.lemmas.Bool.{false≢true}
use Rattle.rpy_tree.specs.declared.program.ClassInfo.{ClassInfo}
use Rattle.rpy_meaning.specs.Tree as tree
use Rattle.flow_graph.specs.declared.graph.Op.{Op}
use Rattle.flow_graph.specs.declared.graph.Block.{Block}
use Rattle.flow_graph.specs.declared.graph.Exit.{Exit}
use Rattle.flow_graph.specs.declared.graph.Graph.{Graph}
use Rattle.flow_graph.specs.declared.graph.Graphs.{Graphs}
use Rattle.flow_trees.specs.Tree.{Function}
use Rattle.ann_element.specs.Sites.{leader}
use Rattle.ann_lattice.specs.Shape.{Shape}
use Rattle.ann_lattice.specs.Kind.{is_nothing, some_nothing}
use Rattle.ann_lattice.specs.Assign.{Assignment, at, mark, Less, IsTable}
use Rattle.ann_laws.specs.Rows.{Operands}
use Rattle.ann_laws.proofs.Equal.{nothing_down}
use Rattle.ann_laws.proofs.Pairs.{both, and_left, and_right, or_first, or_second}
use Rattle.ann_laws.proofs.Whole.{nothing_all}
use Rattle.ann_rules.specs.Program.{Whole}
use Rattle.ann_rules.specs.Asks.{when}
use Rattle.ann_rules.specs.Rules as rule
use Rattle.ann_rules.specs.Hold.{AllHold}
use Rattle.ann_rules.proofs.Facts.{Facts, hold_left, hold_right}
use Rattle.ann_tree.specs.Faults.{Flaw, shows}
use Rattle.ann_tree.specs.Annotation.{Annotation}
use Rattle.ann_tree.proofs.Faulty.{shows_asked}
use Rattle.ann_read.specs.Reading.{In, ops_of, op_shows, ops_show, blocks_show, graphs_show}
use Rattle.ann_read.proofs.Whole as whole
use Rattle.ann_read.proofs.Whole.{Premises, in_left, in_right}

no_not : (b : Bool) → not b ≡ true → b ≡ false
no_not true h = absurd (false≢true h)
no_not false h = refl

not_up : (b c : Bool) → (c ≡ true → b ≡ true) → not b ≡ true → not c ≡ true
not_up b true f h = sym (ap not (f refl)) ∙ h
not_up b false f h = refl

or_up : (b c d e : Bool) → (b ≡ true → d ≡ true) → (c ≡ true → e ≡ true) → (b || c) ≡ true → (d || e) ≡ true
or_up true c d e f g h = or_first d e (f refl)
or_up false c d e f g h = or_second d e (g h)

and_up : (b c d e : Bool) → (b ≡ true → d ≡ true) → (c ≡ true → e ≡ true) → (b && c) ≡ true → (d && e) ≡ true
and_up b c d e f g h = both d e (f (and_left b c h)) (g (and_right b c h))

-- the larger assignment is that of an annotation
module _ (program : tree.Program) (gs : Graphs) (p : Whole) (functions : List Function) (spots : ℕ → Bool) (start : Assignment) (larger : Annotation) (h : Premises program gs p functions spots start larger)
    (a : Assignment) (table : IsTable (length start.same) a.same) (less : Less p.tables.classes a larger.parts) where
  abbrev b : Assignment
  b = larger.parts

  abbrev k : List ClassInfo
  k = p.tables.classes

  abbrev one : Facts p b b
  one = whole.facts program gs p functions spots start larger h

  facts : Facts p a b
  facts = record {
    classes = h.classes;
    less = less;
    formed = one.formed;
    leads = table.leads;
    within = λ s. let l : leader a.same s < length start.same = table.sites s in let e = h.placed.sites in omega (arith, l, e);
    within_too = one.within_too;
    items = one.items;
    keys = one.keys;
    item_there = one.item_there;
    key_there = one.key_there;
    item_free = one.item_free;
    key_free = one.key_free;
  }

  module _ (f : ℕ) where
    operands_of : (vs : List ℕ) → Operands k b.same (map (rule.value p a f) vs) (map (rule.value p b f) vs)
    operands_of [] = tt
    operands_of (v ∷ vs) = ((less.cells (p.places.variable f v), one.formed (p.places.variable f v)), operands_of vs)

    goes_up : (o : Op) → rule.goes_on p a f o ≡ true → rule.goes_on p b f o ≡ true
    goes_up o =
        let x = rule.value p a f o.result in
        let y = rule.value p b f o.result in
        or_up (rule.is_narrowing o.op) (not (is_nothing x)) (rule.is_narrowing o.op) (not (is_nothing y)) (λ e. e) (not_up (is_nothing x) (is_nothing y) (nothing_down k b.same x y (less.cells (p.places.variable f o.result))))

    module _ (graph : Graph) (is : slice_get p.graphs f ≡ Some graph) (flaw : Flaw) (node : ℕ) where
      op_up : (o : Op) → In (ops_of graph) o → AllHold k b (rule.op_needs p b f o) → op_shows p a flaw node f o ≡ true → op_shows p b flaw node f o ≡ true
      op_up o i needs =
          let xs = map (rule.value p a f) o.args in
          let ys = map (rule.value p b f) o.args in
          and_up (o.node == node) (not (some_nothing xs) && shows p a flaw o.value o.op xs) (o.node == node) (not (some_nothing ys) && shows p b flaw o.value o.op ys) (λ e. e)
          (λ e. shown xs ys refl refl (and_left (not (some_nothing xs)) (shows p a flaw o.value o.op xs) e) (and_right (not (some_nothing xs)) (shows p a flaw o.value o.op xs) e))
        where
          shown : (xs ys : List Shape) → map (rule.value p a f) o.args ≡ xs → map (rule.value p b f) o.args ≡ ys → not (some_nothing xs) ≡ true → shows p a flaw o.value o.op xs ≡ true → (not (some_nothing ys) && shows p b flaw o.value o.op ys) ≡ true
          shown xs ys xs_are ys_are some e =
              let operands : Operands k b.same xs ys = subst (λ l. Operands k b.same l ys) xs_are (subst (λ l. Operands k b.same (map (rule.value p a f) o.args) l) ys_are (operands_of o.args)) in
              let too : not (some_nothing ys) ≡ true = not_up (some_nothing xs) (some_nothing ys) (nothing_all p.tables h.classes b.same xs ys operands) some in
              let mine = hold_right k b (rule.loose_needs p b f o) (when (not (some_nothing (map (rule.value p b f) o.args))) (rule.reached_needs p b f o (map (rule.value p b f) o.args))) needs in
              let asked : AllHold k b (when (not (some_nothing ys)) (rule.reached_needs p b f o ys)) = subst (λ l. AllHold k b (when (not (some_nothing l)) (rule.reached_needs p b f o l))) ys_are mine in
              let reached : AllHold k b (rule.reached_needs p b f o ys) = subst (λ c. AllHold k b (when c (rule.reached_needs p b f o ys))) too asked in
              both (not (some_nothing ys)) (shows p b flaw o.value o.op ys) too
              (shows_asked p a b facts f flaw o.value o.op xs ys o.node (at b (p.places.variable f o.result)) operands
              (whole.free_of program gs p functions spots start larger h f graph is o i) (no_not (some_nothing xs) some)
              (reached.0 (whole.cell_of program gs p functions spots start larger h f graph is o i)) e)

      -- those of a block that are asked something
      ops_up : (os : List Op) (exit : Exit) → ((o : Op) → In os o → In (ops_of graph) o) → AllHold k b (rule.ops_needs p b f graph os exit) → ops_show p a flaw node f os ≡ true → ops_show p b flaw node f os ≡ true
      ops_up [] exit inside needs e = e
      ops_up (o ∷ os) exit inside needs e =
          let first = hold_left k b (rule.op_needs p b f o) (when (rule.goes_on p b f o) (rule.ops_needs p b f graph os exit)) needs in
          let rest = hold_right k b (rule.op_needs p b f o) (when (rule.goes_on p b f o) (rule.ops_needs p b f graph os exit)) needs in
          or_up (op_shows p a flaw node f o) (rule.goes_on p a f o && ops_show p a flaw node f os) (op_shows p b flaw node f o) (rule.goes_on p b f o && ops_show p b flaw node f os)
          (op_up o (inside o (inl refl)) first)
          (λ i.
          let goes = goes_up o (and_left (rule.goes_on p a f o) (ops_show p a flaw node f os) i) in
          both (rule.goes_on p b f o) (ops_show p b flaw node f os) goes
          (ops_up os exit (λ q j. inside q (inr j)) (subst (λ c. AllHold k b (when c (rule.ops_needs p b f graph os exit))) goes rest) (and_right (rule.goes_on p a f o) (ops_show p a flaw node f os) i))) e

      blocks_up : (n : ℕ) (bs : List Block) → ((o : Op) → In (flat_map (λ (x : Block). x.ops) bs) o → In (ops_of graph) o) → AllHold k b (rule.blocks_needs p b f graph n bs) → blocks_show p a flaw node f n bs ≡ true → blocks_show p b flaw node f n bs ≡ true
      blocks_up n [] inside needs e = e
      blocks_up n (x ∷ bs) inside needs e =
          let mine = when (mark b (p.places.block f n)) (rule.block_needs p b f graph x) in
          let first = hold_left k b mine (rule.blocks_needs p b f graph (suc n) bs) needs in
          let rest = hold_right k b mine (rule.blocks_needs p b f graph (suc n) bs) needs in
          or_up (mark a (p.places.block f n) && ops_show p a flaw node f x.ops) (blocks_show p a flaw node f (suc n) bs) (mark b (p.places.block f n) && ops_show p b flaw node f x.ops) (blocks_show p b flaw node f (suc n) bs)
          (λ i.
          let reached = less.marks (p.places.block f n) (and_left (mark a (p.places.block f n)) (ops_show p a flaw node f x.ops) i) in
          both (mark b (p.places.block f n)) (ops_show p b flaw node f x.ops) reached
          (ops_up x.ops x.exit (λ o j. inside o (in_left x.ops (flat_map (λ (y : Block). y.ops) bs) o j))
          (hold_right k b (rule.exception_needs p b f graph x.exit) (rule.ops_needs p b f graph x.ops x.exit) (subst (λ c. AllHold k b (when c (rule.block_needs p b f graph x))) reached first))
          (and_right (mark a (p.places.block f n)) (ops_show p a flaw node f x.ops) i)))
          (blocks_up (suc n) bs (λ o j. inside o (in_right x.ops (flat_map (λ (y : Block). y.ops) bs) o j)) rest) e

      graph_up : blocks_show p a flaw node f 0 graph.blocks ≡ true → blocks_show p b flaw node f 0 graph.blocks ≡ true
      graph_up =
          blocks_up 0 graph.blocks (λ o j. j)
          (hold_left k b (rule.blocks_needs p b f graph zero graph.blocks) (rule.tie_ops p b f graph (rule.all_ops p b f graph graph.blocks)) (whole.graph_holds program gs p functions spots start larger h f graph is))

  graphs_up : (flaw : Flaw) (node n : ℕ) (graphs : List Graph) → ((i : ℕ) (graph : Graph) → slice_get graphs i ≡ Some graph → slice_get p.graphs (n + i) ≡ Some graph) → graphs_show p a flaw node n graphs ≡ true → graphs_show p b flaw node n graphs ≡ true
  graphs_up flaw node n [] all e = e
  graphs_up flaw node n (graph ∷ graphs) all e =
      or_up (blocks_show p a flaw node n 0 graph.blocks) (graphs_show p a flaw node (suc n) graphs) (blocks_show p b flaw node n 0 graph.blocks) (graphs_show p b flaw node (suc n) graphs)
      (graph_up n graph (subst (λ j. slice_get p.graphs j ≡ Some graph) (here n) (all 0 graph refl)) flaw node)
      (graphs_up flaw node (suc n) graphs (λ i g is. subst (λ j. slice_get p.graphs j ≡ Some g) (sym (next n i)) (all (suc i) g is))) e
    where
      here : (n : ℕ) → n + 0 ≡ n
      here n = omega arith

      next : (n i : ℕ) → suc n + i ≡ n + suc i
      next n i = omega arith

  pub flaws_up : (flaw : Flaw) (node : ℕ) → graphs_show p a flaw node 0 p.graphs ≡ true → graphs_show p b flaw node 0 p.graphs ≡ true
  flaws_up flaw node = graphs_up flaw node 0 p.graphs (λ i graph is. subst (λ j. slice_get p.graphs j ≡ Some graph) (number i) is)
    where
      number : (i : ℕ) → i ≡ 0 + i
      number i = omega arith
