use Rattle.std.proofs.Common.{refl, sym}
use Rattle.csub_runner.proofs.Stands.{live_by}
use Rattle.csub_runner.proofs.heap.Heap.is_live.Goals as goal

pub returns-in-Some : goal.returns-in-Some
returns-in-Some c = live_by c.args.self.now c.args.ptr c.in-Some.entry.now (sym c.in-Some.ensures) _ refl
