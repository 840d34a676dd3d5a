use Rattle.std.proofs.Common.{rules}
use Rattle.refcount_checks.proofs.Passing.{passes_if}
use Rattle.refcount_checks.proofs.whole.passes.Goals as goal

-- src/whole.rt:52:1
pub returns : goal.returns
returns c = passes_if c.args.program.now c.as_slice-structs.result.now c.as_slice-3.result.now c.as_slice-4.result.now c.slots_of-slots.result c.as_slice-graphs.result.now c.parts_pass.result (search rules) (search rules) (search rules) (search rules) (search rules) c.parts_pass.ensures
