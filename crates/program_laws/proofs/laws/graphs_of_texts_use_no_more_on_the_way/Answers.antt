use Rattle.std.specs.Prelude.{length}
use Rattle.rpy_resolved.specs.Count.{function_count}
use Rattle.resolved_laws.specs.Meant.{further_of}
use Rattle.program_laws.proofs.Asked.{flat, enough}
use Rattle.program_laws.proofs.laws.graphs_of_texts_use_no_more_on_the_way.Goals as goal

pub returns : goal.returns
returns c = λ sources names ms p gs are is for.
    c.flow_graphs_use_no_more_on_the_way.ensures p gs for (flat ms p is (c.modules_have_no_inner_classes.ensures.texts sources names ms are))
    (enough (function_count p.modules) (length p.functions) (c.programs_have_their_functions.ensures ms p is)) (c.builtins_stand_below_exception.ensures ms p is (further_of p))
