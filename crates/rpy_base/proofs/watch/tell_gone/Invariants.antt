use Rattle.std.proofs.Common.{◌≡◌, map}
use Rattle.rpy_base.specs.Watching.{after_gone, first_told}
use Rattle.rpy_base.proofs.watch.tell_gone.Given as goal

abbrev pub invariant-loop-i : goal.invariant-loop-i
invariant-loop-i g l =
    map (λ b. (goal.HeapWatch-dyn g (b.vtable, b.value)).seen b.value) l.watch.items
    ≡ first_told l.i (after_gone l.block) (map (λ b. (goal.HeapWatch-dyn g (b.vtable, b.value)).seen b.value) l.initial.watch.items)
