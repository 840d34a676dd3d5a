use Rattle.std.proofs.Common.{ap, ◌∙◌, min, sym}
use Rattle.csub_runner.specs.Core.{core_of}
use Rattle.csub_runner.specs.Erased.{erase, erase_cells}
use Rattle.csub_tree.specs.Layout.{place, shape_at}
use Rattle.csub_runner.proofs.Reached.{set_field_is, erased_length}
use Rattle.csub_runner.proofs.machine.Machine.set_field.Goals as goal

pub returns-clause-step : goal.returns-clause-step
returns-clause-step c = set_field_is (core_of c.args.self.now) c.args.shapes.now.items c.args.kind (erase c.args.pointer) (erase_cells c.in-Ok.cells.now) c.in-Ok.ensures.found c.store_field.result (core_of c.store_field.new.self)
    c.args.k c.place-at.result (erase c.args.value) c.is_unset.result c.is_unset.ensures c.if-is_unset.false
    (c.place-at.ensures ∙ ap (min (place (shape_at c.args.shapes.now.items c.args.kind) c.args.k)) (sym (erased_length c.in-Ok.cells.now.fields.items)))
    c.store_field.ensures.step
