-- The blocks of graphs fit.
use Rattle.std.proofs.Common.{◌≡◌, ℕ, zero, suc, ◌+◌, ◌≤◌, Bool, true, false, List, [], ◌∷◌, ◌++◌, length, Option, Some, None, refl, ap, ◌∙◌, subst, arith}
use Rattle.std.specs.Prelude.{slice_get, ◌==◌, ◌||◌}
use Rattle.ll_live.specs.Live.{among}
use Rattle.flow_graph.specs.declared.graph.Block.{Block}
use Rattle.flow_graph.specs.declared.graph.Exit.{Exit}
use Rattle.flow_graph.specs.declared.graph.Exit.TheVariants as exit
use Rattle.flow_graph.specs.declared.graph.Graph.{Graph}
use Rattle.flow_graph.specs.declared.graph.Link.{Link}
use Rattle.flow_graph.specs.declared.graph.Op.{Op}
use Rattle.ann_lattice.specs.Assign.{Assignment, at}
use Rattle.ann_lattice.specs.Join.{is_clash}
use Rattle.ann_lattice.specs.Order.{has}
use Rattle.ann_rules.specs.Hold.{OpSpots, BlockSpots, GraphSpots}
use Rattle.ann_rules.specs.Program.{Whole}
use Rattle.ann_rules.specs.Rules.{value}
use Rattle.block_laws.specs.Links.{AllAmong}
use Rattle.rtyped_runs.specs.Parts.{names_behind}
use Rattle.graph_shapes.specs.Shapes.{Joins, AllJoin, OtherJoins, OpsRead, ExitReads}
use Rattle.sound_runs.specs.Graphs.{AreRead, AreKnown, LinkFits, LinksFit, OtherFits, ExitFits, CatchFits, RestFits}
use Rattle.sound_programs.specs.Whole.{AreBound, OperandsAreBound, ExitIsBound}

has_is : (vars : List ℕ) (v : ℕ) → has vars v ≡ among v vars
has_is [] v = refl
has_is (w ∷ vars) v = ap (λ b. (w == v) || b) (has_is vars v)

known : (vars : List ℕ) (v : ℕ) → among v vars ≡ true → has vars v ≡ true
known vars v h = has_is vars v ∙ h

-- ---- results are in no conflict

abbrev pub AreFree : Whole → Assignment → ℕ → List Op → Type 0
AreFree p a g [] = Unit {0}
AreFree p a g (o ∷ ops) = (is_clash (value p a g o.result) ≡ false) × AreFree p a g ops

module _ (p : Whole) (a : Assignment) (spots : ℕ → Bool) (n : ℕ) (free : (c : ℕ) → spots c ≡ true → is_clash (at a c) ≡ false) where
  ops_free : (g : ℕ) (ops : List Op) → OpSpots p spots n g ops → AreFree p a g ops
  ops_free g [] h = tt
  ops_free g (o ∷ ops) h = (free (p.places.variable g o.result) h.0.0, ops_free g ops h.1)

  block_free : (g : ℕ) (blocks : List Block) → BlockSpots p spots n g blocks → (k : ℕ) (b : Block) → slice_get blocks k ≡ Some b → AreFree p a g b.ops
  block_free g [] h k b is = cc
  block_free g (x ∷ blocks) h zero b is = let same : x ≡ b = cc in subst (λ (y : Block). AreFree p a g y.ops) same (ops_free g x.ops h.0)
  block_free g (x ∷ blocks) h (suc k) b is = block_free g blocks h.1 k b is

  pub graph_free : (first : ℕ) (graphs : List Graph) → GraphSpots p spots n first graphs → (g : ℕ) (graph : Graph) → slice_get graphs g ≡ Some graph
      → (k : ℕ) (b : Block) → slice_get graph.blocks k ≡ Some b → AreFree p a (first + g) b.ops
  graph_free first [] h g graph is k b there = cc
  graph_free first (x ∷ graphs) h zero graph is k b there =
      let same : x ≡ graph = cc in
      let e : first ≡ first + zero = omega arith in
      subst (λ m. AreFree p a m b.ops) e (block_free first x.blocks h.0 k b (ap (λ (y : Graph). slice_get y.blocks k) same ∙ there))
  graph_free first (x ∷ graphs) h (suc g) graph is k b there =
      let e : suc first + g ≡ first + suc g = omega arith in subst (λ m. AreFree p a m b.ops) e (graph_free (suc first) graphs h.1 g graph is k b there)

-- ---- blocks

module _ (p : Whole) (a : Assignment) (g : ℕ) (graph : Graph) where
  all_known : (vars vs : List ℕ) → AllAmong vs vars → AreKnown p a g vars vs
  all_known vars [] h = tt
  all_known vars (v ∷ vs) h = (known vars v h.0, all_known vars vs h.1)

  all_read : (vars vs : List ℕ) → AllAmong vs vars → AreBound p a g vs → AreRead p a g vars vs
  all_read vars [] h bound = tt
  all_read vars (v ∷ vs) h bound = ((known vars v h.0, bound.0), all_read vars vs h.1 bound.1)

  link_fits : (vars : List ℕ) (l : Link) → Joins graph.blocks vars l → LinkFits p a g graph vars l
  link_fits vars l j = record { block = j.block; there = j.is; count = j.counted; known = all_known vars l.args j.own }

  links_fit : (vars : List ℕ) (ls : List (ℕ × Link)) → AllJoin graph.blocks vars ls → LinksFit p a g graph vars ls
  links_fit vars [] j = tt
  links_fit vars (l ∷ ls) j = (link_fits vars l.1 j.0, links_fit vars ls j.1)

  other_fits : (vars : List ℕ) (o : Option Link) → OtherJoins graph.blocks vars o → OtherFits p a g graph vars o
  other_fits vars None j = tt
  other_fits vars (Some l) j = link_fits vars l j

  exit_fits : (inputs names : List ℕ) (e : Exit) → ExitReads graph.blocks inputs names e → ExitIsBound p a g e → ExitFits p a g graph names e
  exit_fits inputs names (exit.Goto l) h bound = link_fits names l h
  exit_fits inputs names (exit.If v one two) h bound = (((known names v h.0, bound.0), bound.1), (link_fits names one h.1, link_fits names two h.2))
  exit_fits inputs names (exit.OnRaise v hands by norm) h bound = link_fits names norm h.3
  exit_fits inputs names (exit.Return v) h bound = (known names v h, bound)
  exit_fits inputs names (exit.Raise v) h bound = ((known names v h, bound.0), bound.1)

  catch_fits : (inputs names : List ℕ) (e : Exit) → ExitReads graph.blocks inputs names e → CatchFits p a g graph inputs [] e
  catch_fits inputs names (exit.Goto l) h = tt
  catch_fits inputs names (exit.If v one two) h = tt
  catch_fits inputs names (exit.OnRaise v hands by norm) h = (has_is inputs v ∙ h.0, (links_fit (inputs ++ v ∷ []) hands h.1, other_fits (inputs ++ v ∷ []) by h.2))
  catch_fits inputs names (exit.Return v) h = tt
  catch_fits inputs names (exit.Raise v) h = tt

  pub rest_fits : (inputs : List ℕ) (ops : List Op) (e : Exit) → length ops ≤ 1 → OpsRead inputs ops → ExitReads graph.blocks inputs (names_behind inputs ops) e
      → OperandsAreBound p a g ops → ExitIsBound p a g e → AreFree p a g ops → RestFits p a g graph inputs ops e
  rest_fits inputs [] e few read h bound out free = exit_fits inputs inputs e h out
  rest_fits inputs (o ∷ []) e few read h bound out free = ((all_read inputs o.args read.0 bound.0, free.0), (catch_fits inputs (inputs ++ o.result ∷ []) e h, exit_fits inputs (inputs ++ o.result ∷ []) e h out))
  rest_fits inputs (o ∷ q ∷ ops) e few read h bound out free = absurd (omega (arith, few))
