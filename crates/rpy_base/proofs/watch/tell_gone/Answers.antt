use Rattle.std.proofs.Common.{rules}
use Rattle.rpy_base.specs.Watching.{CanGo, after_gone}
use Rattle.rpy_base.proofs.Told.{told_ready, told_next}
use Rattle.rpy_base.proofs.watch.tell_gone.Goals as goal

pub tell_one_gone-requires : goal.tell_one_gone-requires
tell_one_gone-requires g c =
    told_ready (λ b. (goal.HeapWatch-dyn g (b.vtable, b.value)).seen b.value) (after_gone c.args.block)
    c.args.watch.now.items c.loop-i.watch.items c.loop-i.i c.index_mut.result.now c.loop-i.invariant c.index_mut.ensures.value
    (CanGo c.args.block) (search rules) c.requires

pub loop-i-preserved : goal.loop-i-preserved
loop-i-preserved g c =
    told_next (λ b. (goal.HeapWatch-dyn g (b.vtable, b.value)).seen b.value) (after_gone c.args.block)
    c.args.watch.now.items c.loop-i.watch.items c.loop-i.i c.index_mut.result.now c.loop-i.invariant c.index_mut.ensures.value
    c.tell_one_gone.new.watcher (search rules) c.tell_one_gone.ensures
