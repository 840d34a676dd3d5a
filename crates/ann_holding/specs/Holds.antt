-- Whether all that the graphs ask of an assignment holds in it, part by part.
use Rattle.std.specs.Prelude.{ℕ, zero, suc, ◌&&◌, ◌||◌, not, Bool, true, List, [], ◌∷◌}
use Rattle.rpy_tree.specs.declared.program.Site.{Site}
use Rattle.flow_graph.specs.declared.graph.Exit.{Exit}
use Rattle.flow_graph.specs.declared.graph.Op.{Op}
use Rattle.flow_graph.specs.declared.graph.Block.{Block}
use Rattle.flow_graph.specs.declared.graph.Graph.{Graph}
use Rattle.ann_lattice.specs.Assign.{Assignment, Need, mark}
use Rattle.ann_rules.specs.Program.{Whole}
use Rattle.ann_rules.specs.Rules as rule
use Rattle.ann_closed.specs.Met.{all_hold}
use Rattle.ann_needs.specs.View.{callee_of, graph_ties}
use Rattle.ann_needs.specs.declared.plan.Callee.{Callee}
use Rattle.ann_holding.specs.Links as unmet

module _ (p : Whole) (a : Assignment) where
  abbrev pub all_met : List Need → Bool
  all_met ns = all_hold p.tables.classes a ns

  module _ (g : ℕ) where
    abbrev pub op_holds : Op → Bool
    op_holds o = all_met (rule.op_needs p a g o)

    module _ (graph : Graph) where
      -- what links ask and does not hold yet
      abbrev pub exceptions_hold : Exit → Bool
      exceptions_hold e = all_met (unmet.exceptions p a g graph e)

      abbrev pub exit_holds : Exit → Bool
      exit_holds e = all_met (unmet.exits p a g graph e)

      abbrev pub ops_hold : List Op → Exit → Bool
      ops_hold [] e = exit_holds e
      ops_hold (o ∷ os) e = op_holds o && (not (rule.goes_on p a g o) || ops_hold os e)

      abbrev pub block_holds : Block → Bool
      block_holds b = exceptions_hold b.exit && ops_hold b.ops b.exit

      abbrev pub reached_holds : ℕ → Block → Bool
      reached_holds n b = not (mark a (p.places.block g n)) || block_holds b

      abbrev pub blocks_hold : ℕ → List Block → Bool
      blocks_hold n [] = true
      blocks_hold n (b ∷ bs) = reached_holds n b && blocks_hold (suc n) bs

      abbrev pub ties_hold : Bool
      ties_hold = all_met (graph_ties p a g graph)

      abbrev pub graph_holds : Bool
      graph_holds = blocks_hold zero graph.blocks && ties_hold

  abbrev pub graphs_hold : ℕ → List Graph → Bool
  graphs_hold g [] = true
  graphs_hold g (graph ∷ graphs) = graph_holds g graph && graphs_hold (suc g) graphs

  abbrev pub start_holds : ℕ → Callee → Bool
  start_holds f c = all_met (rule.start_needs p a f (callee_of c))

  abbrev pub starts_hold : ℕ → List Callee → Bool
  starts_hold f [] = true
  starts_hold f (c ∷ cs) = start_holds f c && starts_hold (suc f) cs

  abbrev pub site_holds : ℕ → Site → Bool
  site_holds s site = all_met (rule.site_needs p a s site)

  abbrev pub sites_hold : ℕ → List Site → Bool
  sites_hold s [] = true
  sites_hold s (site ∷ sites) = site_holds s site && sites_hold (suc s) sites

  abbrev pub entry_holds : Bool
  entry_holds = all_met (rule.entry_needs p a)

  abbrev pub holds : List Callee → Bool
  holds cs = entry_holds && (starts_hold zero cs && (graphs_hold zero p.graphs && sites_hold zero p.sites))
