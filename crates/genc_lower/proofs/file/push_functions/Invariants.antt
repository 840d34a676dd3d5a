use Rattle.std.proofs.Common.{◌≡◌, ◌++◌, drop}
use Rattle.genc_lower.specs.Lower.{function_code, others}
use Rattle.genc_lower.proofs.file.push_functions.Given as goal

abbrev pub invariant-loop-i : goal.invariant-loop-i
invariant-loop-i l = l.into ++ others (function_code l.order) l.order.entry l.i (drop l.i l.graphs) ≡ l.initial.into ++ others (function_code l.order) l.order.entry 0 l.graphs
