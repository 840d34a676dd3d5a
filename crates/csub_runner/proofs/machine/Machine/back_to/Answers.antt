use Rattle.std.proofs.Common.{rules, refl, sym}
use Rattle.csub_runner.specs.Core.{core_of}
use Rattle.csub_runner.proofs.Waits.{back_ok, back_is}
use Rattle.csub_runner.proofs.machine.Machine.back_to.Goals as goal

pub returns-in-Some-clause-ok : goal.returns-in-Some-clause-ok
returns-in-Some-clause-ok c = back_ok c.args.self.now.heap c.args.self.now.vars.items c.taken_by.result.items c.args.self.now.callers.items c.pop_caller.new.callers.items c.args.self.now.statics.items c.args.self.now.exc_type c.args.self.now.exc_value
    c.in-Some.waiting _ c.args.value c.requires.ok c.requires.value (sym c.in-Some.ensures.last) c.waiting.view_is c.taken_by.ensures (c.in-Some.ensures.rest (search rules))

pub returns-in-Some-clause-step : goal.returns-in-Some-clause-step
returns-in-Some-clause-step c = back_is (core_of c.args.self.now) c.taken_by.result.items c.args.self.now.callers.items c.pop_caller.new.callers.items c.in-Some.waiting _ c.args.value refl (sym c.in-Some.ensures.last)
    c.waiting.view_is c.taken_by.ensures (c.in-Some.ensures.rest (search rules))
