use Rattle.csub_runner.specs.Heap.{CellsOk}
use Rattle.csub_runner.proofs.Steps.{if_got}
use Rattle.csub_runner.proofs.machine.Machine.block_at.Goals as goal

pub returns-in-Static-clause-ok : goal.returns-in-Static-clause-ok
returns-in-Static-clause-ok c = if_got (CellsOk c.args.self.now.heap) c.args.self.now.statics.items c.in-Static.number c.static_at.result c.requires.ok.statics_ok c.static_at.ensures
