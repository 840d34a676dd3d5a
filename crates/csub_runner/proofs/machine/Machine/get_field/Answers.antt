use Rattle.std.proofs.Common.{ap, ◌∙◌, get_or}
use Rattle.csub_runner.specs.Core.{core_of}
use Rattle.csub_runner.specs.Erased.{erase, erase_cells}
use Rattle.csub_tree.specs.Layout.{place, shape_at}
use Rattle.csub_runner.specs.declared.val.Val.TheVariants.{Unset}
use Rattle.csub_runner.proofs.Reached.{get_field_is, field_read}
use Rattle.csub_runner.proofs.machine.Machine.get_field.Goals as goal

pub returns-clause-step : goal.returns-clause-step
returns-clause-step c = get_field_is (core_of c.args.self.now) c.args.shapes.now.items c.args.kind (erase c.args.pointer) (erase_cells c.in-Ok.cells.now) c.in-Ok.ensures.found c.set.result (core_of c.set.new.self)
    c.args.a c.args.k c.read-value.result
    (ap erase (c.read-value.ensures ∙ ap (λ j. get_or c.in-Ok.cells.now.fields.items j Unset) c.place.ensures) ∙ field_read c.in-Ok.cells.now.fields.items (place (shape_at c.args.shapes.now.items c.args.kind) c.args.k))
    c.set.ensures.step
