use Rattle.std.proofs.Common.{refl, sym, ap, ◌∙◌, ◌+◌}
use Rattle.csub_tree.specs.State.{Onward}
use Rattle.csub_runner.specs.Core.{core_of}
use Rattle.csub_runner.specs.Erased.{erase_all}
use Rattle.csub_runner.proofs.Blocks.{erased_set}
use Rattle.csub_runner.proofs.machine.Machine.assign_plain.Goals as goal

pub returns-clause-step : goal.returns-clause-step
returns-clause-step c = (
  ap (λ vs. Onward (record (core_of c.args.self.now) { at = c.args.self.now.at + 1; vars = vs })) (sym (ap erase_all c.put.ensures ∙ erased_set c.args.self.now.vars.items c.args.a c.args.value)),
  refl,
  refl,
)
