use Rattle.std.proofs.Common.{rules, ap, ◌∙◌, map, take, drop}
use Rattle.csub_tree.specs.Layout.{cell_constants, joined, static_values}
use Rattle.csub_runner.proofs.Cells.{static_ok, static_is}
use Rattle.csub_runner.proofs.start.static_block.Goals as goal

pub returns-clause-ok : goal.returns-clause-ok
returns-clause-ok c = λ h. static_ok h (record { kind = c.args.block.now.kind; fields = c.in_ok-fields.fields; elements = c.in_ok-fields.elements }) (joined (map cell_constants c.args.block.now.cells)) c.size_of.result
    (c.in_ok-fields.ensures.first ∙ ap (take c.size_of.result) (search rules)) (c.in_ok-fields.ensures.rest ∙ ap (drop c.size_of.result) (search rules))

pub returns-clause-is : goal.returns-clause-is
returns-clause-is c = static_is (record { kind = c.args.block.now.kind; fields = c.in_ok-fields.fields; elements = c.in_ok-fields.elements }) (joined (map cell_constants c.args.block.now.cells)) c.size_of.result
    (c.in_ok-fields.ensures.first ∙ ap (take c.size_of.result) (search rules)) (c.in_ok-fields.ensures.rest ∙ ap (drop c.size_of.result) (search rules))
    ∙ ap (λ n. record { kind = c.args.block.now.kind; fields = take n (static_values c.args.block.now); items = drop n (static_values c.args.block.now) }) c.size_of.ensures
