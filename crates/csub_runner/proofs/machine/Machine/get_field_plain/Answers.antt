use Rattle.std.proofs.Common.{arith, sym, ap, ◌∙◌}
use Rattle.std.proofs.lemmas.Bool.Decides.{nat_tests}
use Rattle.csub_tree.specs.Statement.{read}
use Rattle.csub_runner.specs.Core.{core_of}
use Rattle.csub_runner.specs.Erased.{erase, erase_all, erase_cells}
use Rattle.csub_runner.proofs.Blocks.{read_erased}
use Rattle.csub_runner.proofs.PlainSteps.{get_goes}
use Rattle.csub_runner.proofs.Shapes.{begins_itself}
use Rattle.csub_runner.proofs.machine.Machine.get_field_plain.Goals as goal

pub returns-clause-step : goal.returns-clause-step
returns-clause-step c =
    let same = c.if-cells-kind.true in
    get_goes (core_of c.args.self.now) c.args.shapes.now.items c.args.kind c.in-Ptr.ptr.number (read (erase_all c.args.self.now.vars.items) c.args.b) (erase_cells c.in-Some-block.cells.now)
    (sym c.variable.ensures.is ∙ ap erase c.in-Ptr.is) (sym c.in-Some-block.ensures.is) (grind (arith, nat_tests))
    (begins_itself c.args.shapes.now.items c.args.file.now.structs c.args.kind c.requires.shapes c.in-Some.ensures.within)
    (core_of c.set_plain.new.self) c.args.a c.args.k (erase c.read-value.result) c.set_plain.result
    (ap erase c.read-value.ensures ∙ read_erased c.in-Some-block.cells.now.fields.items c.in-Some.at ∙ ap (read (erase_all c.in-Some-block.cells.now.fields.items)) c.in-Some.ensures.is)
    c.set_plain.ensures.step
