-- The parts of expressions, each with what it says, and what is added to blocks and to functions.
use Rattle.std.specs.Prelude.{◌≡◌, Bool, List, [], ◌∷◌, ◌++◌, map, length, Result, Ok, Err, if◌then◌else◌}
use Rattle.rpy_base.specs.declared.fault.NoMem.{NoMem}
use Rattle.rpy_tree.specs.declared.syntax.Expr.{Expr}
use Rattle.rpy_tree.specs.declared.syntax.Function as syntax
use Rattle.rpy_tree.specs.declared.program.Program.{Program}
use Rattle.rpy_meaning.specs.Resolved.{Names, Part, said_by}
use Rattle.rpy_meaning.specs.Tree as tree
use Rattle.rpy_resolved.specs.declared.tree.Function.{Function}
use Rattle.rpy_resolved.specs.declared.tree.Stmt.{Stmt}
use Rattle.resolver_laws.specs.Listing.{tree_in, numbered}

abbrev pub part : Names → Expr → Part
part names e = (e, said_by names e)

abbrev pub parts : Names → List Expr → List Part
parts names es = map (part names) es

abbrev pub and_or : Bool → tree.Expr → tree.Expr → tree.Expr
and_or is_and a b = if is_and then tree.And a b else tree.Or a b

-- one more statement, where it was made
abbrev pub Put : Result Stmt NoMem → List Stmt → List Stmt → Type 0
Put (Ok s) old new = new ≡ old ++ s ∷ []
Put (Err e) old new = ⊥

-- functions that were added to those before them, as the meaning has them
abbrev pub Added : Program → List Function → List Function → List (Names × syntax.Function) → Type 0
Added p old new fs = map (tree_in p) new ≡ map (tree_in p) old ++ numbered p.functions (length old) fs
