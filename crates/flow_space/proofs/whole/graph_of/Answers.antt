use Rattle.std.proofs.Common.{◌∙◌, arith}
use Rattle.flow_space.proofs.Graphs.{graph_stands}
use Rattle.flow_space.proofs.Parts.{part_then, kept}
use Rattle.flow_space.proofs.whole.graph_of.Goals as goal

pub aim-requires : goal.aim-requires
aim-requires c =
    kept _ _ (part_then (part_then (part_then (part_then c.in_ok-returning.ensures.put c.in_ok-raising.ensures.put) c.in_ok-_never.ensures.put) c.in_ok-end.ensures.put) c.in_ok-begin.ensures) c.in_ok-head.ensures.head

pub returns-clause-stands : goal.returns-clause-stands
returns-clause-stands c =
    graph_stands c.args.program.now c.args.function.now c.args.number c.as_slice.result.now c.new.result c.no_covers.result
    c.new-code.result.blocks c.put_head.new.self.blocks c.put_return.new.self.blocks c.put_raise.new.self.blocks c.put_never.new.code.blocks c.put_end.new.code.blocks c.put_block.new.code.blocks c.aim.new.self.blocks
    c.in_ok-head.head.number c.in_ok-head.head.base c.in_ok-head.head.m c.in_ok-returning.returning c.in_ok-raising.raising c.in_ok-_never._never c.in_ok-end.end c.in_ok-begin.begin
    c.new-code.ensures.blocks c.in_ok-head.ensures.grows
    c.in_ok-returning.ensures.put c.in_ok-returning.ensures.at c.in_ok-returning.ensures.count
    c.in_ok-raising.ensures.put c.in_ok-raising.ensures.at c.in_ok-raising.ensures.count
    c.in_ok-_never.ensures.put c.in_ok-_never.ensures.at c.in_ok-_never.ensures.count
    c.in_ok-end.ensures.put c.in_ok-end.ensures.at
    c.in_ok-begin.ensures c.in_ok-aim.ensures c.as_slice.ensures c.new.ensures c.no_covers.ensures
    (omega (arith, c.len.ensures, c.if-locals-len.false))
    c.aim.new.self.own (c.in_ok-head.ensures.base ∙ c.new-code.ensures.next)
