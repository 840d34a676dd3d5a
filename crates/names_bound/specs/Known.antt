-- What the names stand for that the language knows. They have the first numbers.
use Rattle.std.specs.Prelude.{ℕ, ◌-◌, Bool, ◌==◌, nat_lt, nat_le, if◌then◌else◌}
use Rattle.rpy_tree.specs.declared.program.Builtin.TheVariants as builtin
use Rattle.names_bound.specs.declared.stand.Stand.{Stand}
use Rattle.names_bound.specs.declared.stand.Stand.TheVariants as stand

-- the builtin functions by their place among them
abbrev pub builtin_function : ℕ → Stand
builtin_function at =
    if at == 0 then stand.Builtin builtin.Len else
    if at == 1 then stand.Builtin builtin.Ord else
    if at == 2 then stand.Builtin builtin.Chr else
    if at == 3 then stand.Builtin builtin.Str else
    if at == 4 then stand.Builtin builtin.Int else
    if at == 5 then stand.Builtin builtin.Bool else
    if at == 6 then stand.Builtin builtin.Min else
    if at == 7 then stand.Builtin builtin.Max else
    if at == 8 then stand.Builtin builtin.IsInstance else
    if at == 9 then stand.Builtin builtin.Range else
    if at == 10 then stand.Builtin builtin.Xrange else stand.Unknown

-- None, True, False and object
abbrev pub fixed_value : ℕ → Stand
fixed_value name =
    if name == 0 then stand.NoneValue else
    if name == 1 then stand.TrueValue else
    if name == 2 then stand.FalseValue else
    if name == 12 then stand.Object else stand.Unknown

-- 13 exception classes follow, then the builtin functions
abbrev pub known : ℕ → Stand
known name = if nat_lt name 13 then fixed_value name else if nat_lt name 26 then stand.Class (name - 13) else builtin_function (name - 26)

abbrev pub is_fixed : ℕ → Bool
is_fixed name = nat_le name 2
