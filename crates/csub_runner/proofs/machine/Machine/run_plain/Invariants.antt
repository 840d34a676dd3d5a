use Rattle.std.proofs.Common.{◌≡◌, ℕ}
use Rattle.std.specs.Prelude.{slice_get}
use Rattle.csub_tree.specs.Machine.{stmt_in, block_in}
use Rattle.csub_runner.specs.Core.{core_of, MachineOk}
use Rattle.csub_runner.specs.Run.{LeadsOn}
use Rattle.csub_runner.proofs.machine.Machine.run_plain.Given as goal

abbrev pub invariant-loop-done : goal.invariant-loop-done
invariant-loop-done l = record {
  ok : MachineOk l.self;
  leads : LeadsOn l.file l.args l.done (core_of l.initial.self) (core_of l.self);
  stmts : (at : ℕ) → slice_get l.stmts at ≡ stmt_in (block_in (slice_get l.file.functions l.self.function) l.self.block) at;
}
