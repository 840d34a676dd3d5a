-- What links ask, but for elements that the inputs of a block are above already, and marks that they have.
use Rattle.std.specs.Prelude.{ℕ, ◌&&◌, ◌||◌, not, if◌then◌else◌, Bool, true, false, List, [], ◌∷◌, ◌++◌, Option, Some, None}
use Rattle.flow_graph.specs.declared.graph.Link.{Link}
use Rattle.flow_graph.specs.declared.graph.Exit.{Exit}
use Rattle.flow_graph.specs.declared.graph.Exit.TheVariants as exit
use Rattle.flow_graph.specs.declared.graph.Graph.{Graph}
use Rattle.ann_lattice.specs.Shape.{Inst}
use Rattle.ann_lattice.specs.Order.{is_below}
use Rattle.ann_lattice.specs.Assign.{Assignment, at, Need, Set}
use Rattle.ann_rules.specs.Program.{Whole}
use Rattle.ann_rules.specs.Asks.{when, from_each}
use Rattle.ann_rules.specs.Rules as rule

module _ (p : Whole) (a : Assignment) (g : ℕ) where
  -- all that goes on to an input is there
  abbrev pub is_passed : Option ℕ → ℕ → ℕ → Bool
  is_passed (Some c) v input = is_below p.tables.classes a.same (Inst c false) (at a (p.places.variable g input))
  is_passed None v input =
      is_below p.tables.classes a.same (at a (p.places.variable g v)) (at a (p.places.variable g input))
      && (not (rule.may_be_unbound p a g v) || rule.may_be_unbound p a g input)

  abbrev pub passed : Option ℕ → ℕ → ℕ → List Need
  passed c v input = if is_passed c v input then [] else rule.passed p a g c v input

  abbrev pub pass_all : Option (ℕ × ℕ) → List ℕ → List ℕ → List Need
  pass_all caught [] vs = []
  pass_all caught (input ∷ inputs) [] = []
  pass_all caught (input ∷ inputs) (v ∷ vs) = passed (rule.caught_as caught v) v input ++ pass_all caught inputs vs

  module _ (graph : Graph) where
    abbrev pub link : Option (ℕ × ℕ) → Link → List Need
    link caught l = Set (p.places.block g l.to) ∷ pass_all caught (rule.inputs_of (rule.block_at graph.blocks l.to)) l.args

    abbrev pub other_link : ℕ → Option Link → List Need
    other_link v None = []
    other_link v (Some l) = link (Some (v, 0)) l

    abbrev pub caught_links : ℕ → List (ℕ × Link) → List Need
    caught_links v links = from_each (λ l. link (Some (v, l.0)) l.1) links

    abbrev pub exceptions : Exit → List Need
    exceptions (exit.OnRaise v links other norm) = caught_links v links ++ other_link v other
    exceptions other = []

    abbrev pub way : Bool → Link → List Need
    way may l = when may (link None l)

    abbrev pub exits : Exit → List Need
    exits (exit.Goto l) = link None l
    exits (exit.If v one two) = way (rule.goes true (rule.value p a g v)) one ++ way (rule.goes false (rule.value p a g v)) two
    exits (exit.OnRaise v links other norm) = link None norm
    exits other = rule.exit_needs p a g graph other
