use Rattle.std.proofs.Common.{◌≡◌, ◌≤◌, ◌-◌, List, ℕ, map}
use Rattle.csub_tree.specs.State.{Event}
use Rattle.csub_runner.specs.Core.{core_of, MachineOk}
use Rattle.csub_runner.proofs.Runs.{IsAt}
use Rattle.csub_runner.proofs.run.run_on.Given as goal

abbrev pub invariant-loop-done : goal.invariant-loop-done
invariant-loop-done g l = record {
  at : (text : List ℕ) × (events : List Event) × IsAt l.file l.args (core_of l.initial.machine) (g.K.Sink.taken l.initial.out) (g.K.Sink.taken l.out) l.log.held.items
      (map (λ b. (goal.HeapWatch-dyn g (b.vtable, b.value)).seen b.value) l.initial.watch.items) (map (λ b. (goal.HeapWatch-dyn g (b.vtable, b.value)).seen b.value) l.watch.items) l.log.made l.log.gone l.done (core_of l.machine) text events;
  within : l.done ≤ l.most;
  ok : MachineOk l.machine;
  calm : g.K.Sink.faults l.out ≡ g.K.Sink.faults l.initial.out;
}

abbrev pub decreases-loop-done : goal.decreases-loop-done
decreases-loop-done g l = l.most - l.done
