use Rattle.std.proofs.Common.{ap, sym, map, ◌∷◌, [], ◌++◌}
use Rattle.csub_tree.specs.State.{Made, Freed}
use Rattle.csub_tree.specs.Machine.{step}
use Rattle.csub_runner.specs.Core.{core_of}
use Rattle.csub_runner.specs.Run.{put_by}
use Rattle.csub_runner.proofs.Law.{step_good}
use Rattle.csub_runner.proofs.Facts.{goes_is, puts_is, told_is, can_make, can_free, went_goes, went_puts, went_made, went_freed, none_told, watchers_same}
use Rattle.csub_runner.proofs.Output.{some_of}
use Rattle.csub_runner.proofs.run.advance.Goals as goal

pub returns-in-Err-clause-watchers : goal.returns-in-Err-clause-watchers
returns-in-Err-clause-watchers g c = none_told (map (λ b. (goal.HeapWatch-dyn g (b.vtable, b.value)).seen b.value) c.args.watch.now.items)

pub returns-then-number-ge-MOST_BLOCKS-clause-watchers : goal.returns-then-number-ge-MOST_BLOCKS-clause-watchers
returns-then-number-ge-MOST_BLOCKS-clause-watchers g c = none_told (map (λ b. (goal.HeapWatch-dyn g (b.vtable, b.value)).seen b.value) c.args.watch.now.items)

pub tell_made-requires : goal.tell_made-requires
tell_made-requires g c = can_make (core_of c.args.machine.now) (core_of c.step.new.self) (step c.args.file.now c.args.args.now (core_of c.args.machine.now)) c.in-Made.number c.in-Made.kind c.in-Made.cells (map (λ b. (goal.HeapWatch-dyn g (b.vtable, b.value)).seen b.value) c.args.watch.now.items)
    (step_good (core_of c.args.machine.now) c.args.file.now c.args.args.now) (rw c.in-Made.is at c.in-Ok.ensures.step) c.if-number-ge-MOST_BLOCKS.false c.requires.synced

pub tell_gone-requires : goal.tell_gone-requires
tell_gone-requires g c = can_free (core_of c.args.machine.now) (core_of c.step.new.self) (step c.args.file.now c.args.args.now (core_of c.args.machine.now)) c.in-Freed.number (map (λ b. (goal.HeapWatch-dyn g (b.vtable, b.value)).seen b.value) c.args.watch.now.items)
    (step_good (core_of c.args.machine.now) c.args.file.now c.args.args.now) (rw c.in-Freed.is at c.in-Ok.ensures.step) c.requires.synced

pub returns-in-Goes-clause-goes : goal.returns-in-Goes-clause-goes
returns-in-Goes-clause-goes g c = went_goes (step c.args.file.now c.args.args.now (core_of c.args.machine.now)) (core_of c.step.new.self) (g.K.Sink.taken c.args.out.now) c.args.log.now.held.items c.args.log.now.made c.args.log.now.gone (map (λ b. (goal.HeapWatch-dyn g (b.vtable, b.value)).seen b.value) c.args.watch.now.items) (goes_is (core_of c.args.machine.now) (core_of c.step.new.self) (step c.args.file.now c.args.args.now (core_of c.args.machine.now)) (rw c.in-Goes.is at c.in-Ok.ensures.step))

pub returns-in-Ok-collect-clause-goes : goal.returns-in-Ok-collect-clause-goes
returns-in-Ok-collect-clause-goes g c = went_puts (step c.args.file.now c.args.args.now (core_of c.args.machine.now)) (core_of c.step.new.self) (g.K.Sink.taken c.args.out.now) c.args.log.now.held.items c.args.log.now.made c.args.log.now.gone (map (λ b. (goal.HeapWatch-dyn g (b.vtable, b.value)).seen b.value) c.args.watch.now.items) c.in-Puts.byte (g.K.Sink.taken c.collect.new.out) c.collect.new.held.items
    (puts_is (core_of c.args.machine.now) (core_of c.step.new.self) (step c.args.file.now c.args.args.now (core_of c.args.machine.now)) c.in-Puts.byte (rw c.in-Puts.is at c.in-Ok.ensures.step)) c.in-Ok-collect.ensures.sends

pub returns-in-Err-collect-clause-some : goal.returns-in-Err-collect-clause-some
returns-in-Err-collect-clause-some g c = some_of (g.K.Sink.taken c.args.out.now) (g.K.Sink.taken c.collect.new.out) (c.args.log.now.held.items ++ c.in-Puts.byte ∷ []) (c.args.log.now.held.items ++ put_by (step c.args.file.now c.args.args.now (core_of c.args.machine.now)))
    (ap (λ p. c.args.log.now.held.items ++ p) (sym (puts_is (core_of c.args.machine.now) (core_of c.step.new.self) (step c.args.file.now c.args.args.now (core_of c.args.machine.now)) c.in-Puts.byte (rw c.in-Puts.is at c.in-Ok.ensures.step)).put_is)) c.in-Err-collect.ensures.some

pub returns-in-Err-collect-clause-watchers : goal.returns-in-Err-collect-clause-watchers
returns-in-Err-collect-clause-watchers g c = watchers_same c.in-Err-collect.fault (map (λ b. (goal.HeapWatch-dyn g (b.vtable, b.value)).seen b.value) c.args.watch.now.items)

pub returns-in-Err-collect-clause-causes : goal.returns-in-Err-collect-clause-causes
returns-in-Err-collect-clause-causes g c = c.in-Err-collect.ensures.causes

pub returns-in-Ok-tell_made-clause-goes : goal.returns-in-Ok-tell_made-clause-goes
returns-in-Ok-tell_made-clause-goes g c = went_made (step c.args.file.now c.args.args.now (core_of c.args.machine.now)) (core_of c.step.new.self) (g.K.Sink.taken c.args.out.now) c.args.log.now.held.items c.args.log.now.made c.args.log.now.gone (map (λ b. (goal.HeapWatch-dyn g (b.vtable, b.value)).seen b.value) c.args.watch.now.items) c.in-Made.number c.in-Made.kind c.in-Made.cells _ (map (λ b. (goal.HeapWatch-dyn g (b.vtable, b.value)).seen b.value) c.tell_made.new.watch.items)
    (told_is (core_of c.args.machine.now) (core_of c.step.new.self) (step c.args.file.now c.args.args.now (core_of c.args.machine.now)) (Made c.in-Made.number c.in-Made.kind c.in-Made.cells) (rw c.in-Made.is at c.in-Ok.ensures.step)) c.saturating_add-log.ensures c.in-Ok-tell_made.ensures.ok

pub returns-in-Freed-clause-goes : goal.returns-in-Freed-clause-goes
returns-in-Freed-clause-goes g c = went_freed (step c.args.file.now c.args.args.now (core_of c.args.machine.now)) (core_of c.step.new.self) (g.K.Sink.taken c.args.out.now) c.args.log.now.held.items c.args.log.now.made c.args.log.now.gone (map (λ b. (goal.HeapWatch-dyn g (b.vtable, b.value)).seen b.value) c.args.watch.now.items) c.in-Freed.number _ (map (λ b. (goal.HeapWatch-dyn g (b.vtable, b.value)).seen b.value) c.tell_gone.new.watch.items)
    (told_is (core_of c.args.machine.now) (core_of c.step.new.self) (step c.args.file.now c.args.args.now (core_of c.args.machine.now)) (Freed c.in-Freed.number) (rw c.in-Freed.is at c.in-Ok.ensures.step)) c.saturating_add-log-in-Freed.ensures c.tell_gone.ensures
