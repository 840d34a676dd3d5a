use Rattle.csub_runner.proofs.Steps.{heap_ok}
use Rattle.csub_runner.proofs.machine.Machine.free.Goals as goal

pub returns-then-free-clause-ok : goal.returns-then-free-clause-ok
returns-then-free-clause-ok c = heap_ok c.args.self.now.heap c.free.new.self c.args.self.now.vars.items c.args.self.now.callers.items c.args.self.now.statics.items c.args.self.now.exc_type c.args.self.now.exc_value
    c.free.ensures.pointers c.free.ensures.sound c.requires.ok

pub returns-else-free-clause-ok : goal.returns-else-free-clause-ok
returns-else-free-clause-ok c = heap_ok c.args.self.now.heap c.free.new.self c.args.self.now.vars.items c.args.self.now.callers.items c.args.self.now.statics.items c.args.self.now.exc_type c.args.self.now.exc_value
    c.free.ensures.pointers c.free.ensures.sound c.requires.ok
