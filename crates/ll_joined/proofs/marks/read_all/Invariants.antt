use Rattle.std.proofs.Common.{◌≡◌, drop}
use Rattle.ll_joined.specs.Marked.{read_all}
use Rattle.ll_joined.proofs.marks.read_all.Given as goal

abbrev pub invariant-loop-x : goal.invariant-loop-x
invariant-loop-x l = read_all (drop l.x-index l.xs) l.marks ≡ read_all l.xs l.initial.marks
