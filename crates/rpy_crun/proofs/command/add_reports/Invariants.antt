use Rattle.std.proofs.Common.{map, drop}
use Rattle.rpy_words.specs.Command.{words_of}
use Rattle.rpy_crun.specs.Running.{asked_of}
use Rattle.rpy_crun.proofs.Reports.{Gathers}
use Rattle.rpy_crun.proofs.command.add_reports.Given as goal

abbrev pub invariant-loop-i : goal.invariant-loop-i
invariant-loop-i g l =
    Gathers (asked_of (words_of l.asked) (map (λ b. (goal.HeapWatch-dyn g (b.vtable, b.value)).seen b.value) l.watch.items))
    (asked_of (words_of l.asked) (drop l.i (map (λ b. (goal.HeapWatch-dyn g (b.vtable, b.value)).seen b.value) l.watch.items))) l.initial.text l.text
