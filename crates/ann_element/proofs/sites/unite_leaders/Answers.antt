use Rattle.std.proofs.Common.{◌≡◌, suc, ◌+◌, map, take, drop, set, get_or, ◌++◌, ap, ◌∙◌, arith}
use Rattle.ann_element.specs.Sites.{collapse}
use Rattle.ann_element.proofs.Loops.{map_step}
use Rattle.ann_element.proofs.sites.unite_leaders.Goals as goal

pub loop-leader-preserved : goal.loop-leader-preserved
loop-leader-preserved c =
    let i = c.loop-leader.leader-index in
    let s = c.args.leaders.now in
    let f = collapse c.args.p c.args.q in
    let e : suc i ≡ i + 1 = omega arith in
    ap (λ r. set c.loop-leader.leaders i r) c.collapsed.ensures
    ∙ ap (λ l. set l i (f (get_or l i 0))) c.loop-leader.invariant
    ∙ map_step f s i c.loop-leader-test.true
    ∙ ap (λ n. map f (take n s) ++ drop n s) e
