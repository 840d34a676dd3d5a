use Rattle.std.proofs.Common.{arith, ◌∷◌, [], ◌++◌, drop, ◌+◌, ap, sym, ◌∙◌}
use Rattle.csub_tree.specs.Layout.{shapes_from}
use Rattle.csub_runner.proofs.Shapes.{shapes_more, shapes_end}
use Rattle.csub_runner.proofs.shape.shapes_of.Goals as goal

pub loop-structure-preserved : goal.loop-structure-preserved
loop-structure-preserved c =
    ap (λ ss. shapes_from ss (drop (c.loop-structure.structure-index + 1) c.args.structs.now)) (c.in_ok-push.ensures.items ∙ ap (λ s. c.loop-structure.shapes.items ++ s ∷ []) c.in_ok-shape.ensures)
    ∙ sym (shapes_more c.loop-structure.shapes.items c.args.structs.now c.loop-structure.structure-index c.structure-item.result c.loop-structure-test.true c.structure-item.is)
    ∙ c.loop-structure.invariant

pub returns : goal.returns
returns c = let le = c.loop-structure-test.false in sym (shapes_end c.loop-structure.shapes.items c.args.structs.now c.loop-structure.structure-index (omega (arith, le))) ∙ c.loop-structure.invariant
