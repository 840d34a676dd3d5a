use Rattle.std.proofs.Common.{◌+◌, ◌&&◌, drop, get_or, sym, ap, ◌∙◌}
use Rattle.ll_code.specs.declared.program.LlType.TheVariants.{Signed}
use Rattle.csub_tree.specs.Checked.{plain_cell, plain_cells}
use Rattle.ll_code.specs.Typed.{is_plain, fields_ok}
use Rattle.ll_code.proofs.Levels.{fields_step, fields_short}
use Rattle.ll_code.proofs.check.statics.fields_ok.Goals as goal
use Rattle.ll_code.proofs.check.statics.fields_ok.Goals.{then-i-cells-via-then-i-cells, then-i-cells-via-else-i-cells+then-not-is_plain}

pub returns-then-i-cells : goal.returns-then-i-cells
returns-then-i-cells c = elim c.then-i-cells.branch [
  | then-i-cells-via-then-i-cells w ↦ sym (fields_short c.args.program.now c.args.n c.args.kinds.now c.args.items c.args.cells.now c.loop-i.i Signed c.loop-i-test.true w.if-i-cells.true) ∙ c.loop-i.invariant.same
  | then-i-cells-via-else-i-cells+then-not-is_plain w ↦ sym (
      fields_step c.args.program.now c.args.n c.args.kinds.now c.args.items c.args.cells.now c.loop-i.i Signed w.index-cells-i.result c.loop-i-test.true w.if-i-cells.false
      ∙ ap (λ b. b && fields_ok c.args.program.now c.args.n (drop (c.loop-i.i + 1) c.args.kinds.now) c.args.items (plain_cells (drop (c.loop-i.i + 1) c.args.cells.now)))
      (ap (λ x. is_plain c.args.program.now c.args.n (get_or c.args.kinds.now c.loop-i.i Signed) (plain_cell x)) (sym w.index-cells-i.is) ∙ sym w.is_plain.ensures ∙ w.if-not-is_plain.true)
      ) ∙ c.loop-i.invariant.same
]
