use Rattle.std.proofs.Common.{Some, length, refl, ap}
use Rattle.rpy_edge.specs.Edge.{Sunk, sunk}
use Rattle.rpy_top.proofs.Samples.{answered}
use Rattle.rpy_top.proofs.sample.sample_of.Goals as goal

pub returns : goal.returns
returns g c =
    let printed : Sunk = record {
      faults_before = c.new-printed.result.faults;
      faults = c.run_source-work.new.printed.faults;
      taken_before = Some c.new-printed.result.bytes.items;
      taken = Some c.run_source-work.new.printed.bytes.items;
    } in
    answered c.args.source.now c.run_source-work.result c.say_sample.result printed
    (sunk g.K.Sink.faults g.K.Sink.taken c.args.out.now c.say_sample.new.out) (sunk g.E.Sink.faults g.E.Sink.taken c.args.err.now c.say_sample.new.err)
    c.new-printed.result.bytes.items c.run_source-work.new.printed.bytes.items _ _ _ refl c.new-printed.ensures refl (ap length c.taken.ensures)
    c.run_source-work.ensures c.say_sample.ensures
