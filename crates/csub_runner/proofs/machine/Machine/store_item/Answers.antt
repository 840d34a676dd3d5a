use Rattle.std.proofs.Common.{refl, map}
use Rattle.csub_runner.specs.Core.{core_of}
use Rattle.csub_runner.specs.Erased.{erase, erase_cells}
use Rattle.csub_runner.specs.Heap.{with_item}
use Rattle.csub_runner.proofs.Reached.{static_step}
use Rattle.csub_runner.proofs.Steps.{heap_ok}
use Rattle.csub_runner.proofs.machine.Machine.store_item.Goals as goal

pub returns-in-Ptr-clause-ok : goal.returns-in-Ptr-clause-ok
returns-in-Ptr-clause-ok c = heap_ok c.args.self.now.heap c.set_item.new.self c.args.self.now.vars.items c.args.self.now.callers.items c.args.self.now.statics.items c.args.self.now.exc_type c.args.self.now.exc_value
    c.set_item.ensures.pointers c.set_item.ensures.sound c.requires.ok

pub returns-in-Static-clause-ok : goal.returns-in-Static-clause-ok
returns-in-Static-clause-ok c = record {
  sound = c.requires.ok.sound;
  vars_ok = c.requires.ok.vars_ok;
  callers_ok = c.requires.ok.callers_ok;
  statics_ok = c.put_static_item.ensures.ok c.args.self.now.heap c.requires.value c.requires.ok.statics_ok;
  type_ok = c.requires.ok.type_ok;
  value_ok = c.requires.ok.value_ok;
}

pub returns-in-Static-clause-step : goal.returns-in-Static-clause-step
returns-in-Static-clause-step c = static_step (core_of c.args.self.now) _ c.in-Static.number (with_item c.args.at (erase c.args.value)) c.args.pointer (map erase_cells c.put_static_item.new.statics.items)
    c.in-Static.is c.put_static_item.ensures.is refl
