use Rattle.std.proofs.Common.{[], ◌∷◌, refl}
use Rattle.rpy_sample.specs.Sample.{sample}
use Rattle.rpy_edge.specs.Edge.{sunk}
use Rattle.rpy_top.proofs.Samples.{starved}
use Rattle.rpy_top.proofs.sample.sample.Goals as goal

pub returns-in-Err : goal.returns-in-Err
returns-in-Err g c =
    starved (sample c.args.k ∷ []) (sunk g.K.Sink.faults g.K.Sink.taken c.args.out.now c.args.out.now) (sunk g.E.Sink.faults g.E.Sink.taken c.args.err.now c.args.err.now) _ (refl, refl) (refl, refl)

pub returns : goal.returns
returns g c =
    starved (sample c.args.k ∷ []) (sunk g.K.Sink.faults g.K.Sink.taken c.args.out.now c.args.out.now) (sunk g.E.Sink.faults g.E.Sink.taken c.args.err.now c.args.err.now) _ (refl, refl) (refl, refl)
