use Rattle.std.proofs.Common.{◌≡◌, IfOk, subst}
use Rattle.ann_text.proofs.Labelled.{labelled}
use Rattle.ann_text.proofs.whole.annotation_text.Goals as goal

pub returns : goal.returns
returns c =
    subst (λ t. IfOk c.text_by.result (λ text. text ≡ t))
    (labelled c.in_ok-labels.labels c.args.program.now c.args.graphs.now c.args.annotation.now c.in_ok-labels.ensures.functions c.in_ok-labels.ensures.classes)
    c.text_by.ensures
