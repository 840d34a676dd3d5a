use Rattle.std.proofs.Common.{rules, refl}
use Rattle.csub_runner.specs.Core.{core_of}
use Rattle.csub_runner.proofs.Waits.{entered_ok, entered_is}
use Rattle.csub_runner.proofs.machine.Machine.enter.Goals as goal

pub returns-clause-ok : goal.returns-clause-ok
returns-clause-ok c = entered_ok c.args.self.now.heap c.args.self.now.vars.items c.replace.new.dest.items c.args.self.now.callers.items c.push.new.self.items c.args.self.now.statics.items c.args.self.now.exc_type c.args.self.now.exc_value
    c.args.xs.now c.len.result _ c.requires.ok (search rules) (search rules) c.in_ok-push.ensures.items

pub returns-clause-core : goal.returns-clause-core
returns-clause-core c = entered_is (core_of c.args.self.now) c.args.self.now.vars.items c.replace.new.dest.items c.args.self.now.callers.items c.push.new.self.items c.args.into c.args.number c.len.result c.args.xs.now c.args.function.now
    _ refl refl (search rules) (search rules) c.in_ok-push.ensures.items (search rules)
