use Rattle.std.proofs.Common.{ℕ, List, [], ◌++◌, sym, ap, ◌∙◌}
use Rattle.flow_graph.specs.declared.graph.Op.{Op}
use Rattle.flow_graph.specs.Owners.{results}
use Rattle.flow_space.proofs.Owned.{own_set, below_set}
use Rattle.flow_space.proofs.code.Code.aim.Goals as goal

pub invariant_of-self : goal.invariant_of-self
invariant_of-self c =
    let old = c.args.self.now in
    let same = ap (λ (xs : List ℕ). xs ++ []) (sym c.in_ok-inputs.ensures) ∙ ap (λ (ops : List Op). c.in_ok-inputs.field-0 ++ results ops) (sym c.new.ensures) in
    record {
      own = rw c.set.ensures (own_set old.blocks c.args.head.number _ _ c.requires same old.own);
      below = rw c.set.ensures (below_set old.blocks c.args.head.number _ _ c.requires same old.next old.below);
    }
