-- Exceptions that nothing catches go on alone, to the block that raises them.
use Rattle.std.proofs.Common.{◌≡◌, ℕ, ◌+◌, inl, inr, Bool, true, false, List, [], ◌∷◌, ◌++◌, length, Option, Some, None, refl, sym, ap, ◌∙◌, subst, arith}
use Rattle.std.specs.Prelude.{slice_get, not}
use Rattle.std.proofs.lemmas.Bool.{false≢true}
use Rattle.rpy_resolved.specs.declared.tree.Resolved.{Resolved}
use Rattle.flow_graph.specs.declared.graph.Block.{Block as Code}
use Rattle.flow_graph.specs.declared.graph.Exit.TheVariants as exit
use Rattle.flow_graph.specs.declared.graph.Graph.{Graph}
use Rattle.flow_meaning.specs.Machine.{block_in}
use Rattle.flow_stands.specs.Places.{range, Jump, Shape, Go, Fork, Does, Plain, GiveBack, GiveUp, shift, link, numbered}
use Rattle.flow_stands.specs.Stands.{return_block, raise_block}
use Rattle.flow_space.specs.Placed.{NodesAt}
use Rattle.rtyper_program.specs.Raises.{only_raises, leaves_by, exit_catches}
use Rattle.run_laws.specs.Points.{Setting}
use Rattle.block_laws.specs.Escaping.{RaisesAgain, LetsPass}
use Rattle.block_laws.proofs.Escaping.{exceptions_escape}
use Rattle.graph_shapes.specs.Raising.{ExceptionsPass, NothingIsCaught}
use Rattle.graph_shapes.proofs.Parts as parts
use Rattle.graph_shapes.proofs.Functions.{block_good, function_stands}
use Rattle.graph_shapes.proofs.Shaped.{not_behind}

not_false : (b : Bool) → not b ≡ false → b ≡ true
not_false true e = refl
not_false false e = sym e

module _ (r : Resolved) (s : Setting) (nodes : NodesAt r s.graphs) (f : ℕ) (graph : Graph) (is : slice_get s.graphs.graphs f ≡ Some graph) where
  in_graph : (b : ℕ) → block_in (slice_get s.graphs.graphs f) b ≡ slice_get graph.blocks b
  in_graph b = ap (λ (g : Option Graph). block_in g b) is

  -- a block that only raises
  pub record Raiser (code : Code) : Type 0 where
    pub does : code.ops ≡ []
    pub input : ℕ
    pub takes : code.inputs ≡ input ∷ []
    pub raises : code.exit ≡ exit.Raise input

  shape_raises : (base m node : ℕ) (value : Bool) (shape : Shape) → parts.Fits s.graphs f m shape → only_raises (numbered base m node value shape).exit (numbered base m node value shape).ops ≡ true → Raiser (numbered base m node value shape)
  shape_raises base m node value (Go jump) fits e = absurd (false≢true e)
  shape_raises base m node value (Fork test so other_way) fits e = absurd (false≢true e)
  shape_raises base m node value (Does o args covers hands default norm) fits e = absurd (false≢true e)
  shape_raises base m node value (Plain o jump) fits e = absurd (false≢true e)
  shape_raises base m node value GiveBack fits e = absurd (false≢true e)
  shape_raises base m node value GiveUp fits e = record { does = refl; input = base + 0; takes = ap (λ i. shift base (range 0 i)) fits; raises = refl }

  block_raises : (b : ℕ) (code : Code) → slice_get graph.blocks b ≡ Some code → only_raises code.exit code.ops ≡ true → Raiser code
  block_raises b code there e =
      let good = block_good r s.graphs nodes f graph is b code there in
      subst (λ (c : Code). Raiser c) (sym good.is) (shape_raises good.base good.count good.node good.value good.shape good.fits (subst (λ (c : Code). only_raises c.exit c.ops ≡ true) good.is e))

  -- the block that returns does not raise
  return_stays : leaves_by (slice_get graph.blocks return_block) ≡ false
  return_stays =
      let h = function_stands r s.graphs nodes f graph is in
      let back = h.2.3 in
      ap leaves_by (sym (in_graph return_block) ∙ back.3)

  alone : (keep m : ℕ) (places : List ℕ) → places ≡ range 0 keep ++ m ∷ [] → length places ≡ 1 → places ≡ m ∷ []
  alone keep m places e count =
      let k : keep + 1 ≡ 1 = sym (ap length e ∙ parts.and_count 0 keep m) ∙ count in
      let none : keep ≡ 0 = omega (arith, k) in
      e ∙ ap (λ i. range 0 i ++ m ∷ []) none

  again : (base m : ℕ) (default : Jump) → parts.Escape s.graphs f m default → leaves_by (slice_get graph.blocks default.to) ≡ true → RaisesAgain s f (base + m) (link base default)
  again base m default (inr to_return, way) leaves = absurd (false≢true (sym return_stays ∙ (ap (λ b. leaves_by (slice_get graph.blocks b)) (sym to_return) ∙ leaves)))
  again base m default (inl (keep, e), way) leaves =
      let t = way.1 in
      let there : slice_get graph.blocks default.to ≡ Some t.1.0 = sym (in_graph default.to) ∙ t.1.1 in
      let raiser = block_raises default.to t.1.0 there (sym (ap leaves_by there) ∙ leaves) in
      let one : length default.places ≡ 1 = sym t.1.2 ∙ ap length raiser.takes in
      record {
        block = t.1.0;
        is = t.1.1;
        does = raiser.does;
        input = raiser.input;
        takes = raiser.takes;
        raises = raiser.raises;
        passes = ap (shift base) (alone keep m default.places e one);
      }

  shape_passes : (base m node : ℕ) (value : Bool) (shape : Shape) → parts.Fits s.graphs f m shape → exit_catches graph (numbered base m node value shape).exit ≡ false → LetsPass s f (numbered base m node value shape).inputs (numbered base m node value shape).exit
  shape_passes base m node value (Go jump) fits e = tt
  shape_passes base m node value (Fork test so other_way) fits e = tt
  shape_passes base m node value (Does o args covers [] default norm) fits e = (not_behind base 0 m m (omega arith), again base m default fits.2 (not_false (leaves_by (slice_get graph.blocks default.to)) e))
  shape_passes base m node value (Does o args covers (hand ∷ hands) default norm) fits e = absurd (false≢true (sym e))
  shape_passes base m node value (Plain o jump) fits e = tt
  shape_passes base m node value GiveBack fits e = tt
  shape_passes base m node value GiveUp fits e = tt

  pub passes : (b : ℕ) (code : Code) → slice_get graph.blocks b ≡ Some code → exit_catches graph code.exit ≡ false → LetsPass s f code.inputs code.exit
  passes b code there e =
      let good = block_good r s.graphs nodes f graph is b code there in
      subst (λ (c : Code). LetsPass s f c.inputs c.exit) (sym good.is) (shape_passes good.base good.count good.node good.value good.shape good.fits (subst (λ (c : Code). exit_catches graph c.exit ≡ false) good.is e))

pub exceptions_pass : ExceptionsPass
exceptions_pass r s nodes f graph is n b there e =
    let lets = passes r s nodes f graph is n b there e in
    (lets, λ ops. exceptions_escape s f b.inputs ops b.exit lets)

pub nothing_is_caught : NothingIsCaught
nothing_is_caught r gs nodes f graph is (exit.OnRaise v [] None without) leads = refl
nothing_is_caught r gs nodes f graph is (exit.OnRaise v [] (Some by) without) leads =
    let h = function_stands r gs nodes f graph is in
    let raised = h.2.4 in
    let there : slice_get graph.blocks by.to ≡ slice_get graph.blocks raise_block = ap (slice_get graph.blocks) leads in
    let at : slice_get graph.blocks raise_block ≡ block_in (slice_get gs.graphs f) raise_block = ap (λ (g : Option Graph). block_in g raise_block) (sym is) in
    ap (λ (o : Option Code). not (leaves_by o)) (there ∙ (at ∙ raised.3))
nothing_is_caught r gs nodes f graph is (exit.OnRaise v (hand ∷ hands) by without) leads = absurd leads
nothing_is_caught r gs nodes f graph is (exit.Goto link) leads = refl
nothing_is_caught r gs nodes f graph is (exit.If v there elsewhere) leads = refl
nothing_is_caught r gs nodes f graph is (exit.Return v) leads = refl
nothing_is_caught r gs nodes f graph is (exit.Raise v) leads = refl
