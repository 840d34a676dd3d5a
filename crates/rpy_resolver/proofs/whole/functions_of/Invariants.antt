use Rattle.std.proofs.Common.{◌≡◌, ◌<◌, ◌^◌, List, ◌++◌, length, map, take, drop}
use Rattle.rpy_resolved.specs.Count.{function_count}
use Rattle.resolver_laws.specs.Listing.{tree_in, numbered, module_pairs}
use Rattle.resolver_laws.specs.Made.{Source, sources, AreFrom}
use Rattle.rpy_resolver.proofs.whole.functions_of.Given as goal

abbrev pub invariant-loop-module : goal.invariant-loop-module
invariant-loop-module l =
    (length l.functions ≡ function_count (take l.module-index l.program.modules))
    × (l.before < 2 ^ 63)
    × (map (tree_in l.program) l.functions ++ numbered l.program.functions (length l.functions) (module_pairs l.program l.before (drop l.module-index l.program.modules))
    ≡ numbered l.program.functions 0 (module_pairs l.program 0 l.program.modules))
    × ((more : List Source) × AreFrom l.functions more × (more ++ sources l.first (drop l.module-index l.program.modules) ≡ sources 0 l.program.modules))
