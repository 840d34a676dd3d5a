use Rattle.std.proofs.Common.{rules, ap, sym, ◌∙◌, ◌++◌, ◌∷◌, []}
use Rattle.csub_runner.proofs.Cells.{read_empty, read_value, read_parts, first_of_list, empty_list}
use Rattle.csub_runner.proofs.start.static_values.Goals as goal

pub loop-cells-preserved : goal.loop-cells-preserved
loop-cells-preserved c = read_empty c.loop-cells.values.items c.pop.new.self.items c.loop-cells.waiting.items c.args.cells.now c.in-Some.cells c.in-Some.ensures.items
    (empty_list c.in-Some.cells.now (search rules)) c.loop-cells.invariant

pub loop-cells-preserved-in-Continue-branch-3 : goal.loop-cells-preserved-in-Continue-branch-3
loop-cells-preserved-in-Continue-branch-3 c = read_value c.loop-cells.values.items c.pop.new.self.items c.loop-cells.waiting.items c.args.cells.now c.in-Some.cells c.in-Some.ensures.items
    c.index-cells-0.result c.behind_first.result
    (first_of_list c.in-Some.cells.now c.index-cells-0.result (search rules) c.index-cells-0.is ∙ ap (λ xs. c.index-cells-0.result ∷ xs) (sym c.behind_first.ensures))
    c.push-then-not-is_empty.new.self.items c.push-in-Value.new.self.items c.in-Value.value c.in_ok-push-2.ensures.items c.in-Value.ensures.0
    (c.in_ok-push-in-Value.ensures.items ∙ ap (λ v. c.loop-cells.values.items ++ v ∷ []) c.constant.ensures) c.loop-cells.invariant

pub loop-cells-preserved-in-Continue-branch-4 : goal.loop-cells-preserved-in-Continue-branch-4
loop-cells-preserved-in-Continue-branch-4 c = read_parts c.loop-cells.values.items c.pop.new.self.items c.loop-cells.waiting.items c.args.cells.now c.in-Some.cells c.in-Some.ensures.items
    c.index-cells-0.result c.behind_first.result
    (first_of_list c.in-Some.cells.now c.index-cells-0.result (search rules) c.index-cells-0.is ∙ ap (λ xs. c.index-cells-0.result ∷ xs) (sym c.behind_first.ensures))
    c.push-in-Parts.new.self.items c.in-Parts.parts (c.in_ok-push-in-Parts.ensures.items ∙ ap (λ xs. xs ++ c.in-Parts.parts ∷ []) c.in_ok-push-2.ensures.items) c.in-Parts.ensures.0 c.loop-cells.invariant
