use Rattle.std.proofs.Common.{subst, length}
use Rattle.std.specs.Prelude.{nat_le, Err}
use Rattle.rpy_edge.specs.Edge.{Took, PutEnds, filed, sunk}
use Rattle.rpy_top.proofs.Loading.{put_ends, put_fails}
use Rattle.rpy_top.proofs.building.write.Goals as goal

pub returns-in-Ok-put-clause-builds : goal.returns-in-Ok-put-clause-builds
returns-in-Ok-put-clause-builds g c =
    let p = subst (λ x. Took (sunk g.K.Sink.faults g.K.Sink.taken c.args.out.now c.put.new.sink) x) c.bytes.ensures c.in-Ok-put.ensures in
    put_ends c.args.task (nat_le (length c.args.names.now) 64) c.args.names.now (filed g.F.Files.held g.F.Files.faults c.args.files.now c.make.new.files) c.in-Ok.text _ c.in-Ok.ensures.makes p

pub returns-in-Ok-clause-builds : goal.returns-in-Ok-clause-builds
returns-in-Ok-clause-builds g c =
    let p = subst (λ x. PutEnds (Err c.in-Err-put.status) x (sunk g.K.Sink.faults g.K.Sink.taken c.args.out.now c.put.new.sink)) c.bytes.ensures c.in-Err-put.ensures in
    put_fails c.args.task (nat_le (length c.args.names.now) 64) c.args.names.now (filed g.F.Files.held g.F.Files.faults c.args.files.now c.make.new.files) c.in-Ok.text _ c.in-Err-put.status c.in-Ok.ensures.makes p
