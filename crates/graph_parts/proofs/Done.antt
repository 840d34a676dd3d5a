-- What is asked of parts follows from the shapes of blocks.
use Rattle.std.proofs.Common.{◌≡◌, ℕ, zero, suc, ◌<◌, ◌≤◌, List, [], ◌∷◌, length, map, Some, refl, sym, ap, ◌∙◌, subst, arith}
use Rattle.std.specs.Prelude.{slice_get, option_map}
use Rattle.std.proofs.lemmas.List.{length-map}
use Rattle.std.proofs.lemmas.Option.{slice_get-map}
use Rattle.resolved_meaning.specs.Programs.{value_in}
use Rattle.resolved_meaning.specs.Trees as bare
use Rattle.resolved_meaning.specs.Trees.{program_of}
use Rattle.flow_graph.specs.declared.graph.Block.{Block}
use Rattle.flow_graph.specs.declared.graph.Exit.{Exit}
use Rattle.flow_graph.specs.declared.graph.Op.{Op}
use Rattle.rtyper_data.specs.declared.found.Found.{Found}
use Rattle.rtyper_data.specs.Seen.{Writing}
use Rattle.rtyper_program.specs.Blocks.{op_of}
use Rattle.rtyper_program.specs.Graphs.{variables}
use Rattle.rtyper_program.specs.Seen.{Lowered}
use Rattle.growth_laws.specs.Growing.{Grows}
use Rattle.run_laws.specs.Points.{Setting}
use Rattle.block_laws.specs.Links.{AllUnder}
use Rattle.block_laws.specs.Operations.{AreRead, IsUncaught}
use Rattle.rtyped_runs.specs.Parts.{OpIsWritten, OpsAreDone}
use Rattle.graph_shapes.specs.Shapes.{OpsRead}
use Rattle.graph_shapes.proofs.Shaped.{blocks_have_shapes}
use Rattle.graph_shapes.proofs.Escaping.{exceptions_pass}
use Rattle.graph_shapes.proofs.Beginning.{graphs_are_own, functions_begin, parameters_are_counted}
use Rattle.graph_counts.proofs.Counted.{variables_are_there, parameters_are_there}
use Rattle.graph_parts.specs.Done.{OperationsAreDone, LinksAreDone, ParametersAreTaken, GraphsBegin}

module _ (s : Setting) (l : Lowered) (first last : Found) (names : List ℕ) (e : Exit) where
  ops_done : (ops : List Op) → length ops ≤ 1 → OpsRead names ops → IsUncaught s l.number names [] e → ((o : Op) → slice_get ops 0 ≡ Some o → AreRead s l.number o.args)
      → ((o : Op) (w : Writing) → slice_get ops 0 ≡ Some o → Grows first w.found → Grows (op_of l o w).found last → length (variables l.known l.world l.number) ≤ length w.body.types → OpIsWritten s l o w)
      → OpsAreDone s l first last names ops e
  ops_done [] few reads uncaught free written = tt
  ops_done (o ∷ []) few reads uncaught free written = (λ w before after le. record { does = written o w refl before after le; are_read = free o refl; fresh = reads.1; uncaught = uncaught }, tt)
  ops_done (o ∷ x ∷ ops) few reads uncaught free written = absurd (omega (arith, few))

pub operations_are_done : OperationsAreDone
operations_are_done r s l first last stands n b is catches free written =
    let shape = blocks_have_shapes r s.graphs stands.nodes l.number l.graph stands.graph n b is in
    let passes = exceptions_pass r s stands.nodes l.number l.graph stands.graph n b is catches in
    ops_done s l first last b.inputs b.exit b.ops shape.few shape.ops (passes.1 []) free written

under_more : (n k : ℕ) → n ≤ k → (vs : List ℕ) → AllUnder n vs → AllUnder k vs
under_more n k le [] under = tt
under_more n k le (v ∷ vs) under = let lt = under.0 in (omega (arith, le, lt), under_more n k le vs under.1)

pub links_are_done : LinksAreDone
links_are_done r s numbers l stands names link w joins under le reached converts =
    let shape = blocks_have_shapes r s.graphs stands.nodes l.number l.graph stands.graph link.to joins.block joins.is in
    record {
      reached = reached;
      later = joins.later;
      block = joins.block;
      is = joins.is;
      apart = shape.apart;
      own = joins.own;
      inside = under_more (length (variables l.known l.world l.number)) (length w.body.types) le link.args under;
      converts = converts;
    }

-- ---- parameters

-- the last of them is there
last_there : (vs : List ℕ) (i : ℕ) → i < length vs → (v : ℕ) × (slice_get vs i ≡ Some v)
last_there [] i lt = absurd (omega (arith, lt))
last_there (v ∷ vs) zero lt = (v, refl)
last_there (v ∷ vs) (suc i) lt = last_there vs i (omega (arith, lt))

is_under : (n : ℕ) (vs : List ℕ) → AllUnder n vs → (i v : ℕ) → slice_get vs i ≡ Some v → v < n
is_under n [] under i v is = cc
is_under n (x ∷ vs) under zero v is = let same : x ≡ v = cc in let lt = under.0 in omega (arith, same, lt)
is_under n (x ∷ vs) under (suc i) v is = is_under n vs under.1 i v is

few_inputs : (n : ℕ) (vs : List ℕ) → AllUnder n vs → ((i v : ℕ) → slice_get vs i ≡ Some v → v ≡ i) → (k : ℕ) → length vs ≡ k → k ≤ n
few_inputs n vs under counted zero e = omega arith
few_inputs n vs under counted (suc k) e =
    let last = last_there vs k (omega (arith, e)) in
    let lt = is_under n vs under k last.0 last.1 in
    let same = counted k last.0 last.1 in
    omega (arith, lt, same)

pub parameters_are_taken : ParametersAreTaken
unfolding program_of
parameters_are_taken p gs t r known world nodes made read f graph is params b has there =
    let begun = functions_begin r gs nodes f graph is in
    let same : begun.2.0 ≡ b = some_same (sym begun.2.1 ∙ there) in
    let counted = parameters_are_counted r gs nodes f graph is b there in
    let function : slice_get (map (bare.function_of r.sites) r.functions) f ≡ Some (bare.function_of r.sites begun.0) = slice_get-map (bare.function_of r.sites) r.functions f ∙ ap (option_map (bare.function_of r.sites)) begun.1 in
    let defaults : length (bare.function_of r.sites begun.0).defaults ≡ length params = parameters_are_there p gs t r known.annotation made read f (bare.function_of r.sites begun.0) params function has in
    let mapped : length (bare.function_of r.sites begun.0).defaults ≡ length begun.0.defaults = length-map begun.0.defaults (option_map (value_in r.sites)) in
    let few : length begun.0.defaults ≤ length b.inputs = subst (λ (c : Block). length begun.0.defaults ≤ length c.inputs) same begun.2.2.params in
    let under = (variables_are_there p gs t r known world nodes read f graph is).1 0 b there in
    let inputs = few_inputs (length (variables known world f)) b.inputs under.inputs counted (length b.inputs) refl in
    record { counted = counted; enough = omega (arith, few, defaults, mapped); some = omega (arith, few, defaults, mapped, inputs) }
  where
    some_same : {x y : Block} → Some x ≡ Some y → x ≡ y
    some_same e = cc

pub graphs_begin : GraphsBegin
graphs_begin r s l stands counted =
    let begun = functions_begin r s.graphs stands.nodes l.number l.graph stands.graph in
    (graphs_are_own s.graphs counted l.number l.graph stands.graph, (begun.2.0, begun.2.1))
