use Rattle.std.proofs.Common.{ap, ◌∙◌, rules}
use Rattle.csub_runner.specs.Core.{core_of}
use Rattle.csub_runner.specs.Erased.{erase, erase_cells}
use Rattle.csub_runner.specs.Heap.{index_at}
use Rattle.csub_runner.proofs.Reached.{set_item_is, erased_length}
use Rattle.csub_runner.proofs.machine.Machine.set_item.Goals as goal

pub returns-clause-step : goal.returns-clause-step
returns-clause-step c = set_item_is (core_of c.args.self.now) c.args.shapes.now.items c.args.kind (erase c.args.pointer) (erase_cells c.in-Ok.cells.now) c.in-Ok.ensures.found c.store_item.result (core_of c.store_item.new.self)
    (erase c.args.index) c.in-Some.i c.in-Some-index_in.at (erase c.args.value) c.is_unset.result c.is_unset.ensures c.if-is_unset.false c.in-Some.ensures
    (ap (index_at c.in-Some.i) (erased_length c.in-Ok.cells.now.elements.items) ∙ search rules)
    c.store_item.ensures.step
