use Rattle.std.proofs.Common.{map, refl}
use Rattle.rpy_words.specs.Command.{words_of}
use Rattle.rpy_edge.specs.Edge.{sunk}
use Rattle.rpy_crun.specs.Running.{asked_of, outcome_status, outcome_line}
use Rattle.rpy_crun.proofs.Reports.{unreported}
use Rattle.rpy_crun.proofs.command.say_outcome.Goals as goal

pub returns-in-Err : goal.returns-in-Err
returns-in-Err g c =
    unreported (outcome_status c.args.outcome.now) (outcome_line c.args.outcome.now)
    (asked_of (words_of c.args.asked.now) (map (λ b. (goal.HeapWatch-dyn g (b.vtable, b.value)).seen b.value) c.args.watch.now.items))
    (sunk g.E.Sink.faults g.E.Sink.taken c.args.err.now c.args.err.now) (refl, refl)
