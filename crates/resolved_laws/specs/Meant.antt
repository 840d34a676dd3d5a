-- The program that the meaning makes of a program with bound names, with what that program says of clauses and constants.
use Rattle.std.specs.Prelude.{ℕ, ◌==◌, List, [], ◌∷◌, Option, Some, None, if◌then◌else◌, slice_get}
use Rattle.rpy_tree.specs.declared.program.ClauseInfo.{ClauseInfo}
use Rattle.rpy_tree.specs.declared.program.Const.{Const}
use Rattle.rpy_tree.specs.declared.program.Const.TheVariants as const
use Rattle.rpy_tree.specs.declared.program.Program as tree
use Rattle.rpy_tree.specs.declared.program.Use.{Use}
use Rattle.rpy_tree.specs.declared.program.Use.TheVariants as use_of
use Rattle.rpy_meaning.specs.Resolved.{Further, program_of}
use Rattle.rpy_meaning.specs.Tree.{Program}

-- the first clause at a node
abbrev pub clause_at : List ClauseInfo → ℕ → Option ClauseInfo
clause_at [] n = None
clause_at (c ∷ cs) n = if c.node == n then Some c else clause_at cs n

abbrev pub classes_of : Option ClauseInfo → List ℕ
classes_of None = []
classes_of (Some c) = c.classes

abbrev pub local_of : Option ClauseInfo → Option ℕ
local_of None = None
local_of (Some c) = c.local

-- a constant expression has its value at the node where it ends
abbrev pub constant_in : Option Use → Const
constant_in (Some (use_of.Value c)) = c
constant_in other = const.None

abbrev pub further_of : tree.Program → Further
further_of p = record {
  caught = λ n. classes_of (clause_at p.clauses n);
  bound = λ n. local_of (clause_at p.clauses n);
  constant = λ n. constant_in (slice_get p.uses n);
}

abbrev pub meant_by : tree.Program → Program
meant_by p = program_of p (further_of p)
