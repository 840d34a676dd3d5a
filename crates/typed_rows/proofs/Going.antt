-- Elements that go to others, and what laws of operations ask of operands and results.
use Rattle.std.proofs.Common.{◌≤◌, ℕ, List, [], ◌∷◌, length, map, arith}
use Rattle.flow_graph.specs.declared.graph.Graph.{Graph}
use Rattle.flow_graph.specs.declared.graph.Op.{Op}
use Rattle.rtyper_data.specs.Seen.{Writing}
use Rattle.rtyper_program.specs.Graphs.{variables}
use Rattle.rtyper_program.specs.Seen.{operand_of}
use Rattle.lower_laws.specs.Values.{AllBelow}
use Rattle.block_laws.specs.Links.{AllUnder}
use Rattle.conversion_laws.proofs.Ordered.{elements_go_up}
use Rattle.rtyped_runs.specs.Laws.{IsInside}
use Rattle.typed_rows.specs.Going.{ElementsPass}
use Rattle.typed_rows.specs.Programs.{Typed, layout, same, world}
use Rattle.typed_rows.specs.Rows.{IsOp, lowered_in}

pub elements_pass : ElementsPass
elements_pass t typed a b one two below = elements_go_up t.classes.classes (same t) (layout t) t.seen a b typed.classes.families one two below

-- its operands and its result are variables from before
module _ (t : Typed) (n : ℕ) (graph : Graph) where
  all_below : (vs : List ℕ) (m k : ℕ) → m ≤ k → AllUnder m vs → AllBelow k (map (operand_of (lowered_in t n graph)) vs)
  all_below [] m k le under = tt
  all_below (v ∷ vs) m k le under = let low = under.0 in (omega (arith, low, le), all_below vs m k le under.1)

  pub inside : (o : Op) → IsOp t n o → (w : Writing) → length (variables t.known (world t) n) ≤ length w.body.types → IsInside (lowered_in t n graph) o w
  inside o is w le = let low = is.result_under in record { result = omega (arith, low, le); operands = all_below o.args (length (variables t.known (world t) n)) (length w.body.types) le is.under }
