use Rattle.std.proofs.Common.{sym, ◌∙◌}
use Rattle.std.proofs.lemmas.Result.{IfOk-weaker}
use Rattle.ann_settled.proofs.settle.is_closed.Goals as goal

pub returns-then-is_complete : goal.returns-then-is_complete
returns-then-is_complete c =
    IfOk-weaker c.all_holds.result _ _ (λ closed h e. record { complete = sym c.is_complete.ensures ∙ c.if-is_complete.true; closed = h e }) c.all_holds.ensures
