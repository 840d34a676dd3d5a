use Rattle.std.proofs.Common.{◌++◌, ◌∷◌, [], sym, ap, ◌∙◌}
use Rattle.flow_stands.specs.Places.{range}
use Rattle.flow_space.proofs.Parts.{range_push}
use Rattle.flow_space.proofs.places.range.Goals as goal

pub loop-k-preserved : goal.loop-k-preserved
loop-k-preserved c =
    c.in_ok-push.ensures.ok ∙ ap (λ l. l ++ c.in_ok-plus.field-0 ∷ []) c.loop-k.invariant ∙ ap (λ v. range c.args.from c.loop-k.k ++ v ∷ []) c.in_ok-plus.ensures ∙ sym (range_push c.args.from c.loop-k.k)
