use Rattle.std.proofs.Common.{◌≡◌, drop}
use Rattle.ll_joined.specs.Marked.{ask_all}
use Rattle.ll_joined.proofs.marks.ask_all.Given as goal

abbrev pub invariant-loop-v : goal.invariant-loop-v
invariant-loop-v l = ask_all (drop l.v-index l.variables) l.marks ≡ ask_all l.variables l.initial.marks
