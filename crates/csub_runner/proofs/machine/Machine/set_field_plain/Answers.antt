use Rattle.std.proofs.Common.{refl, sym, ap, ◌∙◌, subst, get_or, None}
use Rattle.csub_tree.specs.Statement.{read, set_field}
use Rattle.csub_runner.specs.Core.{core_of}
use Rattle.csub_runner.specs.Erased.{erase, erase_all}
use Rattle.csub_runner.specs.Heap.{HasKind, blocks_of}
use Rattle.csub_runner.proofs.PlainSteps.{set_goes}
use Rattle.csub_runner.proofs.Shapes.{begins_itself}
use Rattle.csub_runner.proofs.Steps.{heap_ok}
use Rattle.csub_runner.proofs.machine.Machine.set_field_plain.Goals as goal

pub returns-clause-ok : goal.returns-clause-ok
returns-clause-ok c = heap_ok c.args.self.now.heap c.set_field.new.self c.args.self.now.vars.items c.args.self.now.callers.items c.args.self.now.statics.items c.args.self.now.exc_type c.args.self.now.exc_value
    c.set_field.ensures.pointers c.set_field.ensures.sound c.requires.ok

pub returns-clause-step : goal.returns-clause-step
returns-clause-step c =
    let kind = subst (λ t. HasKind t c.args.kind (get_or (blocks_of c.args.self.now.heap) c.in-Ptr.ptr.number None)) c.if-not-has_kind.false c.has_kind.ensures in (
      ap (set_field (core_of c.args.self.now) c.args.shapes.now.items c.args.kind (read (erase_all c.args.self.now.vars.items) c.args.b) c.args.k) (sym c.value-value.ensures.is)
          ∙ set_goes (core_of c.args.self.now) c.args.shapes.now.items c.args.kind c.in-Ptr.ptr.number (read (erase_all c.args.self.now.vars.items) c.args.b) kind.0
          (sym c.variable.ensures.is ∙ ap erase c.in-Ptr.is) kind.1 kind.2
          (begins_itself c.args.shapes.now.items c.args.file.now.structs c.args.kind c.requires.shapes c.in-Some.ensures.within)
          c.args.k c.in-Some.at (erase c.value-value.result) (blocks_of c.set_field.new.self)
          (sym c.is_unset.ensures ∙ c.if-is_unset.false) c.in-Some.ensures.is c.set_field.ensures.blocks,
      refl,
      refl,
    )
