use Rattle.std.proofs.Common.{◌+◌, ◌++◌, drop, ap, ◌∙◌}
use Rattle.ll_joined.specs.Joined.{numbers_from, numbers_of, next_if, stays}
use Rattle.ll_joined.proofs.Steps.{numbers_next, pushed_one}
use Rattle.ll_joined.proofs.number.numbers_of.Goals as goal

pub loop-i-preserved : goal.loop-i-preserved
loop-i-preserved c =
    let counts = c.args.counts.now in
    let taken = c.args.taken.now in
    let i = c.loop-i.i in
    ap (λ n. c.push.new.self ++ numbers_from counts taken n (i + 1) (drop (i + 1) taken)) (c.next_if-next.ensures ∙ ap (λ b. next_if b c.loop-i.next) c.stays.ensures)
    ∙ pushed_one c.loop-i.numbers c.push.new.self (numbers_from counts taken c.loop-i.next i (drop i taken)) (numbers_from counts taken (next_if (stays counts taken i) c.loop-i.next) (i + 1) (drop (i + 1) taken)) (numbers_of counts taken) c.loop-i.next
    c.in_ok-push.ensures.ok (numbers_next counts taken c.loop-i.next i c.loop-i-test.true) c.loop-i.invariant
