use Rattle.std.proofs.Common.{◌+◌, ap, ◌∙◌}
use Rattle.flow_space.proofs.Owned.{own_push, below_push}
use Rattle.flow_space.proofs.code.Code.put.Goals as goal

pub invariant_of-self : goal.invariant_of-self
invariant_of-self c = record { own = rw c.in_err-push.ensures.err c.args.self.now.own; below = rw c.in_err-push.ensures.err c.args.self.now.below }

pub invariant_of-self-2 : goal.invariant_of-self-2
invariant_of-self-2 c =
    let old = c.args.self.now in
    let next_is = c.in_ok-next.ensures ∙ ap (λ x. x + c.args.done) c.in_ok-inner.ensures in
    record {
      own = rw c.in_ok-push.ensures.ok (own_push old.blocks c.args.block old.next c.args.m c.args.done old.below c.requires.inputs c.requires.results old.own);
      below = rw c.in_ok-push.ensures.ok (below_push old.blocks c.args.block old.next c.args.m c.args.done old.below c.requires.inputs c.requires.results _ next_is);
    }
