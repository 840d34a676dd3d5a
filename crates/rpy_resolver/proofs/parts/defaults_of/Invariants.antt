use Rattle.std.proofs.Common.{◌≡◌, ◌++◌, map, drop}
use Rattle.std.specs.Prelude.{option_map}
use Rattle.rpy_tree.specs.declared.syntax.Param.{Param}
use Rattle.rpy_meaning.specs.Resolved.{default_of}
use Rattle.resolved_meaning.specs.Programs.{value_in}
use Rattle.resolver_names.specs.Told.{the_names}
use Rattle.rpy_resolver.proofs.parts.defaults_of.Given as goal

abbrev pub invariant-loop-param : goal.invariant-loop-param
invariant-loop-param l =
    map (option_map (value_in l.names.program.now.sites)) l.defaults ++ map (λ (p : Param). default_of (the_names l.names) p.default) (drop l.param-index l.params)
    ≡ map (λ (p : Param). default_of (the_names l.names) p.default) l.params
