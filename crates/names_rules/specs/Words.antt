-- What a name stands for that neither a function nor a module binds.
use Rattle.std.specs.Prelude.{ℕ, Bool, true, if◌then◌else◌, List, [], ◌∷◌, codes}
use Rattle.std.specs.Str.{bytes_eq}
use Rattle.rpy_tree.specs.declared.program.Builtin.TheVariants as builtin
use Rattle.names_bound.specs.declared.stand.Stand.{Stand}
use Rattle.names_bound.specs.declared.stand.Stand.TheVariants as stand

abbrev pub Table : Type 0
Table = List (List ℕ × Stand)

-- the values, the class above all, the exception classes by number, and the builtin functions
abbrev pub words : Table
words =
    (codes "None", stand.NoneValue) ∷ (codes "True", stand.TrueValue) ∷ (codes "False", stand.FalseValue)
    ∷ (codes "os", stand.Unknown) ∷ (codes "sys", stand.Unknown) ∷ (codes "rpython", stand.Unknown) ∷ (codes "rlib", stand.Unknown)
    ∷ (codes "rarithmetic", stand.Unknown) ∷ (codes "ovfcheck", stand.Unknown) ∷ (codes "intmask", stand.Unknown)
    ∷ (codes "write", stand.Unknown) ∷ (codes "maxint", stand.Unknown)
    ∷ (codes "object", stand.Object)
    ∷ (codes "Exception", stand.Class 0) ∷ (codes "StandardError", stand.Class 1) ∷ (codes "ArithmeticError", stand.Class 2)
    ∷ (codes "OverflowError", stand.Class 3) ∷ (codes "ZeroDivisionError", stand.Class 4) ∷ (codes "LookupError", stand.Class 5)
    ∷ (codes "IndexError", stand.Class 6) ∷ (codes "KeyError", stand.Class 7) ∷ (codes "ValueError", stand.Class 8)
    ∷ (codes "AttributeError", stand.Class 9) ∷ (codes "AssertionError", stand.Class 10) ∷ (codes "RuntimeError", stand.Class 11)
    ∷ (codes "NotImplementedError", stand.Class 12)
    ∷ (codes "len", stand.Builtin builtin.Len) ∷ (codes "ord", stand.Builtin builtin.Ord) ∷ (codes "chr", stand.Builtin builtin.Chr)
    ∷ (codes "str", stand.Builtin builtin.Str) ∷ (codes "int", stand.Builtin builtin.Int) ∷ (codes "bool", stand.Builtin builtin.Bool)
    ∷ (codes "min", stand.Builtin builtin.Min) ∷ (codes "max", stand.Builtin builtin.Max)
    ∷ (codes "isinstance", stand.Builtin builtin.IsInstance) ∷ (codes "range", stand.Builtin builtin.Range)
    ∷ (codes "xrange", stand.Builtin builtin.Xrange)
    ∷ []

abbrev pub find : Table → List ℕ → Stand
find [] name = stand.Unknown
find (w ∷ ws) name = if bytes_eq name w.0 then w.1 else find ws name

abbrev pub known : List ℕ → Stand
known name = find words name

-- these three may not be bound
abbrev pub is_fixed : List ℕ → Bool
is_fixed name = if bytes_eq name (codes "None") then true else if bytes_eq name (codes "True") then true else bytes_eq name (codes "False")
