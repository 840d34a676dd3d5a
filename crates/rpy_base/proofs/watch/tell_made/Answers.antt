use Rattle.std.proofs.Common.{rules}
use Rattle.std.proofs.lemmas.Result.{err_from_is_err_and}
use Rattle.rpy_base.specs.Watching.{CanMake, after_made}
use Rattle.rpy_base.proofs.Told.{told_ready, told_next, told_stays}
use Rattle.rpy_base.proofs.watch.tell_made.Goals as goal

pub tell_one-requires : goal.tell_one-requires
tell_one-requires g c =
    told_ready (λ b. (goal.HeapWatch-dyn g (b.vtable, b.value)).seen b.value) (after_made (c.args.block, c.args.kind, c.args.cells))
    c.args.watch.now.items c.loop-i.watch.items c.loop-i.i c.index_mut.result.now c.loop-i.invariant c.index_mut.ensures.value
    (CanMake c.args.block) (search rules) c.requires

pub loop-i-preserved : goal.loop-i-preserved
loop-i-preserved g c =
    told_next (λ b. (goal.HeapWatch-dyn g (b.vtable, b.value)).seen b.value) (after_made (c.args.block, c.args.kind, c.args.cells))
    c.args.watch.now.items c.loop-i.watch.items c.loop-i.i c.index_mut.result.now c.loop-i.invariant c.index_mut.ensures.value
    c.tell_one.new.watcher (search rules) c.in_ok-tell_one.ensures.ok

pub returns-in_err-tell_one-clause-err : goal.returns-in_err-tell_one-clause-err
returns-in_err-tell_one-clause-err g c =
    let stays = told_stays (λ b. (goal.HeapWatch-dyn g (b.vtable, b.value)).seen b.value) (after_made (c.args.block, c.args.kind, c.args.cells))
    c.args.watch.now.items c.loop-i.watch.items c.loop-i.i c.index_mut.result.now c.loop-i.invariant c.index_mut.ensures.value
    c.tell_one.new.watcher c.in_err-tell_one.ensures.err in
    let p = err_from_is_err_and c.from_residual.result c.from_residual.ensures.1 in
    rw p.1 (c.loop-i.i, stays)
