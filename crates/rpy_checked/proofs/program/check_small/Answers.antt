use Rattle.std.proofs.Common.{subst, sym, Ok}
use Rattle.rpy_checked.specs.Settles as spec
use Rattle.rpy_checked.proofs.Settling.{is_plan, are_few, types, faults, refused}
use Rattle.rpy_checked.proofs.program.check_small.Goals as goal

pub annotated-requires : goal.annotated-requires
annotated-requires c = is_plan c.args.program.now c.in_ok-graphs.graphs c.in_ok-classes.classes c.in_ok-planned.planned c.in_ok-classes.ensures c.in_ok-planned.ensures.plan

pub returns-in-Err-clause-checks : goal.returns-in-Err-clause-checks
returns-in-Err-clause-checks c =
    refused c.args.program.now c.in_ok-graphs.graphs c.in_ok-graphs.ensures.covers c.in_ok-graphs.ensures.stand
    (are_few c.args.program.now c.in_ok-graphs.graphs c.in_ok-classes.classes c.in_ok-planned.planned c.in_ok-classes.ensures c.in_ok-planned.ensures.plan c.requires.nodes c.requires.classes c.in_ok-planned.ensures.cells c.in_ok-planned.ensures.marks)
    c.in_ok-classes.classes c.in_ok-planned.planned c.in_ok-classes.ensures c.in_ok-planned.ensures.plan c.in-Err.fault c.in-Err.ensures

pub returns-in-Err-typed-clause-checks : goal.returns-in-Err-typed-clause-checks
returns-in-Err-typed-clause-checks c =
    faults c.args.program.now c.in_ok-graphs.graphs c.in_ok-graphs.ensures.covers c.in_ok-graphs.ensures.stand
    (are_few c.args.program.now c.in_ok-graphs.graphs c.in_ok-classes.classes c.in_ok-planned.planned c.in_ok-classes.ensures c.in_ok-planned.ensures.plan c.requires.nodes c.requires.classes c.in_ok-planned.ensures.cells c.in_ok-planned.ensures.marks)
    c.in_ok-classes.classes c.in_ok-planned.planned c.in-Ok.annotation c.in_ok-classes.ensures c.in_ok-planned.ensures.plan c.in-Ok.ensures
    c.in-Err-typed.fault c.in-Err-typed.ensures

pub returns-in-Ok-typed-clause-checks : goal.returns-in-Ok-typed-clause-checks
returns-in-Ok-typed-clause-checks c =
    subst (λ r. spec.HasTypes c.args.program.now r.graphs r.annotation) (sym c.checked_of.ensures)
    (types c.args.program.now c.in_ok-graphs.graphs c.in_ok-graphs.ensures.covers c.in_ok-graphs.ensures.stand
    (are_few c.args.program.now c.in_ok-graphs.graphs c.in_ok-classes.classes c.in_ok-planned.planned c.in_ok-classes.ensures c.in_ok-planned.ensures.plan c.requires.nodes c.requires.classes c.in_ok-planned.ensures.cells c.in_ok-planned.ensures.marks)
    c.in_ok-classes.classes c.in_ok-planned.planned c.in-Ok.annotation c.in_ok-classes.ensures c.in_ok-planned.ensures.plan c.in-Ok.ensures
    c.in-Ok-typed.ensures)
