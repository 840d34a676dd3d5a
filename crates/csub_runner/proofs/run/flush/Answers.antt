use Rattle.csub_runner.proofs.Output.{some_taken, some_of}
use Rattle.csub_runner.proofs.run.flush.Goals as goal

pub returns-in-Err-Failed-clause-some : goal.returns-in-Err-Failed-clause-some
returns-in-Err-Failed-clause-some g c = some_of (g.K.Sink.taken c.args.out.now) (g.K.Sink.taken c.put.new.self) c.as_slice.result.now c.args.held.now.items c.as_slice.ensures.value
    (some_taken (g.K.Sink.taken c.args.out.now) (g.K.Sink.taken c.put.new.self) c.as_slice.result.now (rw c.in-Err-Failed.field-0-is at c.in-Err-Failed.ensures.taken))
