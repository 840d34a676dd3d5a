use Rattle.csub_runner.proofs.Steps.{start_ok, start_is}
use Rattle.csub_runner.proofs.machine.Machine.new.Goals as goal

pub returns-clause-ok : goal.returns-clause-ok
returns-clause-ok c = start_ok c.new-2.result c.in_ok-unset_values.field-0.items c.new.result.items c.args.statics.items c.args.locals c.new-2.ensures.sound c.in_ok-unset_values.ensures c.new.ensures.items (c.requires c.new-2.result)

pub returns-clause-core : goal.returns-clause-core
returns-clause-core c = start_is c.new-2.result c.in_ok-unset_values.field-0.items c.new.result.items c.args.statics.items c.args.function c.args.locals c.args.steps c.new-2.ensures.blocks c.in_ok-unset_values.ensures c.new.ensures.items
