use Rattle.std.proofs.Common.{rules, ◌∙◌, ap}
use Rattle.rpy_base.specs.Entries.{is_distinct, live_blocks}
use Rattle.rpy_base.proofs.Marking.{distinct_without}
use Rattle.rpy_base.proofs.watch.LeaksHeapWatch.gone.Goals as goal

pub invariant_of-self : goal.invariant_of-self
invariant_of-self c = record {
  distinct = ap is_distinct (c.sweep.ensures ∙ c.take_out.ensures) ∙ distinct_without c.args.block (live_blocks c.args.self.now.entries.items) c.args.self.now.distinct;
}
