use Rattle.std.proofs.Common.{◌+◌, drop}
use Rattle.ll_joined.specs.Joined.{joined_from, joined_blocks, joined_block, block_if, stays}
use Rattle.ll_joined.proofs.Steps.{joined_next, pushed_all}
use Rattle.ll_joined.proofs.join.joined_blocks.Goals as goal

pub loop-i-preserved : goal.loop-i-preserved
loop-i-preserved c =
    let blocks = c.args.blocks.now in
    let counts = c.args.counts.now in
    let taken = c.args.taken.now in
    let i = c.loop-i.i in
    pushed_all c.loop-i.all c.push_if.new.all (joined_from blocks counts taken i (drop i blocks)) (joined_from blocks counts taken (i + 1) (drop (i + 1) blocks)) (block_if (stays counts taken i) (joined_block blocks counts i)) (joined_blocks blocks counts taken)
    c.in_ok-push_if.ensures (joined_next blocks counts taken i c.loop-i-test.true) c.loop-i.invariant
