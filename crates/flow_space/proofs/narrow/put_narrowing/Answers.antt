use Rattle.std.proofs.Common.{ap}
use Rattle.flow_space.specs.Placed.{jump_of}
use Rattle.resolved_meaning.specs.Trees.{program_of}
use Rattle.flow_space.proofs.Narrows.{args_are, is_before}
use Rattle.flow_space.proofs.Parts.{ok_map, part_map}
use Rattle.flow_space.proofs.narrow.put_narrowing.Goals as goal

pub returns : goal.returns
returns c =
    let args = rw c.in_ok-local.ensures.place at c.in_ok-args.ensures in
    let is = args_are c.args.narrowing.kind c.args.narrowing.local c.in_ok-args.args c.args.m c.args.value args in
    let act = rw (c.op_at-of.ensures, c.op.ensures, c.in_ok-jump.ensures, c.in_ok-count.ensures, is) at c.in_ok-block.ensures in
    let lt = c.in_ok-local.ensures.within in
    ok_map c.jump_first.result (λ jump e.
    part_map (λ r gs f lo hi h. (
      c.in_ok-block.block,
      lt,
      is_before (program_of r) gs f c.args.scope.now.locals c.args.narrowing.kind c.args.narrowing.local c.in_ok-args.args c.args.m c.args.value args,
      h,
      ap jump_of e,
    )) (λ r x g w k. (k.0, k.1)) act) (rw c.in_ok-count.ensures at c.jump_first.ensures)
