use Rattle.std.proofs.Common.{◌≡◌, ◌≤◌, length}
use Rattle.rpy_parse.specs.Rows.{reading}
use Rattle.rpy_parse.specs.Shapes.{MemberList}
use Rattle.rpy_parse.proofs.member.member_list.Given as goal

abbrev pub invariant-loop-alloc : goal.invariant-loop-alloc
invariant-loop-alloc l = (reading MemberList l.x l.tokens ≡ reading MemberList l.fn.x l.fn.tokens) × (length l.tokens ≤ length l.fn.tokens)

abbrev pub decreases-loop-alloc : goal.decreases-loop-alloc
decreases-loop-alloc l = length l.tokens
