use Rattle.std.proofs.Common.{◌≡◌, ◌+◌, ◌∙◌, sym, ap, subst, true, Some}
use Rattle.std.specs.Prelude.{codes}
use Rattle.rpy_base.specs.Watching.{LeakLines}
use Rattle.rpy_base.specs.Entries.{is_distinct, live_blocks}
use Rattle.rpy_base.proofs.Marking.{live_push, distinct_push}
use Rattle.rpy_base.proofs.watch.LeaksHeapWatch.made.Goals as goal

pub invariant_of-self-2 : goal.invariant_of-self-2
invariant_of-self-2 c = record {
  distinct = subst (λ w. is_distinct (live_blocks w) ≡ true) (sym c.in_ok-push.ensures.items) (distinct_push c.args.self.now.entries.items c.args.block c.args.kind c.args.cells c.args.self.now.distinct c.requires.1);
}

pub returns-clause-ok : goal.returns-clause-ok
returns-clause-ok c =
    ap (λ w. record { name = codes "leaks"; style = LeakLines; made = c.args.self.now.made + 1; gone = c.args.self.now.gone; live = Some w })
    (ap live_blocks c.in_ok-push.ensures.items ∙ live_push c.args.self.now.entries.items c.args.block c.args.kind c.args.cells)
