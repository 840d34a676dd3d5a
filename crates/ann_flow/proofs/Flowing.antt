-- Graphs that are made of the trees of a program: closed assignments to them are read at the nodes of these trees.
use Rattle.std.proofs.Common.{refl, ap, ◌∙◌}
use Rattle.std.specs.Prelude.{option_map}
use Rattle.std.proofs.lemmas.Option.{slice_get-map}
use Rattle.rpy_tree.specs.declared.program.Program.{Program}
use Rattle.rpy_resolved.specs.declared.tree.Resolved.{Resolved}
use Rattle.resolved_meaning.specs.Trees.{program_of}
use Rattle.flow_graph.specs.declared.graph.Graphs.{Graphs}
use Rattle.flow_graph.specs.Whole.{CountFrom}
use Rattle.flow_space.specs.Placed.{NodesAt}
use Rattle.flow_space.specs.Trees.{function_of, functions_of}
use Rattle.class_desc.specs.Tables.{Tables}
use Rattle.ann_lattice.specs.Assign.{Assignment, Closed, Free, Fits}
use Rattle.ann_laws.specs.Rows.{HasClasses}
use Rattle.ann_rules.specs.Program.{Whole}
use Rattle.ann_rules.specs.Rules.{rules}
use Rattle.ann_needs.specs.View.{whole}
use Rattle.ann_layout.specs.Layout.{plan, planned}
use Rattle.ann_places.specs.Spots.{spots, start}
use Rattle.ann_tree.specs.Closed.{IsClosed}
use Rattle.ann_read.specs.Reading.{HasOps, HasGraphs, reading}
use Rattle.ann_read.proofs.Readings.{is_reading, are_apart}
use Rattle.ann_planned.proofs.Planning.{closed_plan}
use Rattle.ann_read.specs.Sound.{AreSound}

module _ (p : Program) (gs : Graphs) (t : Tables) (r : Resolved) (nodes : NodesAt r gs) where
  abbrev W : Whole
  W = whole (plan p gs t)

  has_ops : HasOps W (functions_of r)
  has_ops = record {
    of_graphs = λ f graph is.
        let h = nodes.only f graph is in
        (function_of r.sites h.0, slice_get-map (function_of r.sites) r.functions f ∙ ap (option_map (function_of r.sites)) h.1, h.2);
  }

  module _ (count : CountFrom 0 gs.graphs) (sound : AreSound W (functions_of r)) where
    has_graphs : HasGraphs (program_of r) gs W (functions_of r)
    has_graphs = record { graphs = refl; numbers = count; callees = sound.callees; stand = nodes.stand; plain = sound.plain }

    pub closed_flow : HasClasses t → (w : Assignment) → Fits t.classes (start (planned p gs t)) w → Closed t.classes (rules W) w → Free (spots (plan p gs t)) w → IsClosed W (program_of r).sites (reading W w) (functions_of r)
    closed_flow classes w fits closed free =
        closed_plan p gs t (program_of r) (functions_of r) (reading W w) has_graphs fits classes closed free (is_reading W w (are_apart W (functions_of r) has_ops sound.own))
