use Rattle.std.proofs.Common.{◌≡◌, ◌++◌, map, drop}
use Rattle.resolved_meaning.specs.Programs.{class_of}
use Rattle.resolver_laws.specs.Listing.{named_from}
use Rattle.rpy_resolver.proofs.parts.classes_of.Given as goal

abbrev pub invariant-loop-number : goal.invariant-loop-number
invariant-loop-number l =
    map (class_of l.program.sites) l.classes ++ named_from l.program l.labels l.number (drop l.number l.program.classes)
    ≡ named_from l.program l.labels 0 l.program.classes
