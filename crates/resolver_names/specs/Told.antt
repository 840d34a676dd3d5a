-- What the tables of a program tell: what its names are, as its meaning sees them.
use Rattle.std.specs.Prelude.{◌≡◌, ℕ, suc, ◌+◌, ◌<◌, ◌^◌, ◌==◌, Bool, List, [], ◌∷◌, map, Option, Some, None, unwrap_or, slice_get, if◌then◌else◌}
use Rattle.std.specs.Str.{bytes_eq}
use Rattle.std.specs.List.{list_any}
use Rattle.rpy_tree.specs.declared.program.ClauseInfo.{ClauseInfo}
use Rattle.rpy_tree.specs.declared.program.Program.{Program}
use Rattle.rpy_tree.specs.declared.program.Use.TheVariants as use_of
use Rattle.rpy_meaning.specs.Resolved as meaning
use Rattle.rpy_meaning.specs.Tree as tree
use Rattle.rpy_resolved.specs.declared.tree.Expr.{Expr}
use Rattle.rpy_resolved.specs.declared.tree.Subject.{Subject}
use Rattle.rpy_resolved.specs.declared.tree.Target.{Target}
use Rattle.rpy_resolved.specs.declared.tree.Stmt.{Stmt}
use Rattle.rpy_resolved.specs.declared.tree.Clause.{Clause}
use Rattle.rpy_tree.specs.declared.syntax.Clause as syntax_clause
use Rattle.rpy_tree.specs.declared.syntax.Expr as syntax_expr
use Rattle.rpy_tree.specs.declared.syntax.Stmt as syntax_stmt
use Rattle.rpy_tree.specs.declared.syntax.Stmt.TheFolds.{fold-Clause}
use Rattle.resolved_meaning.specs.Trees.{expr_of, subject_of, target_of, stmt_of, block_of, heads}
use Rattle.resolved_laws.specs.Meant.{further_of}
use Rattle.resolved_laws.specs.Uncopied.{uncopied_expr, uncopied_subject, uncopied_target, uncopied_stmt, uncopied_block}
use Rattle.resolver_names.specs.declared.index.Index.{Index}
use Rattle.resolver_names.specs.declared.names.Names.{Names}

-- ---- tables

-- the number at a node of a table
abbrev pub look : List (Option ℕ) → ℕ → Option ℕ
look table n = unwrap_or (slice_get table n) None

abbrev pub has : List (List ℕ) → List ℕ → Bool
has names name = list_any (bytes_eq name) names

-- the place of the first clause at a node, from this one on
abbrev pub place_from : ℕ → List ClauseInfo → ℕ → Option ℕ
place_from i [] n = None
place_from i (c ∷ cs) n = if c.node == n then Some i else place_from (suc i) cs n

-- the tables tell of each node its site, its walk and its clause, and of each name whether it is a method's
pub record IsTold (p : Program) (index : Index) : Type 0 where
  pub sites : (n : ℕ) → look index.sites n ≡ meaning.site_from p (further_of p) 0 p.sites n
  pub walks : (n : ℕ) → unwrap_or (look index.walks n) 0 ≡ meaning.walk_from p (further_of p) 0 p.sites n
  pub clauses : (n : ℕ) → look index.clauses n ≡ place_from 0 p.clauses n
  pub methods : (name : List ℕ) → has index.methods name ≡ meaning.is_method p (further_of p) name
  pub nothing : index.nothing ≡ use_of.Nothing

-- the tables are those of the program, and few nodes stand before the module's
unfoldable pub Knows : Names → Type 0
Knows names = IsTold names.program.now names.index.now × (names.before < 2 ^ 63)

-- ---- trees

-- the names of the module, as the meaning sees them
abbrev pub the_names : Names → meaning.Names
the_names names = meaning.names_at names.program.now (further_of names.program.now) names.before

-- what trees that are made mean, without the copies of checked operations
abbrev pub tree_of : Names → Expr → tree.Expr
tree_of names e = uncopied_expr (expr_of names.program.now.sites e)

abbrev pub walked_of : Names → Subject → tree.Subject
walked_of names s = uncopied_subject (subject_of names.program.now.sites s)

abbrev pub aim_of : Names → Target → tree.Target
aim_of names t = uncopied_target (target_of names.program.now.sites t)

abbrev pub stmt_tree : Names → Stmt → tree.Stmt
stmt_tree names s = uncopied_stmt (stmt_of names.program.now.sites s)

abbrev pub block_tree : Names → List Stmt → tree.Block
block_tree names ss = uncopied_block (block_of names.program.now.sites ss)

-- a clause: its classes, the local that it binds, and its body
abbrev pub caught_tree : Names → Clause → Option (List ℕ) × Option ℕ × tree.Block
caught_tree names c = (heads c.bare c.classes, c.local, block_tree names c.body)

abbrev pub caught_by : (names : meaning.Names) → syntax_clause.Clause → meaning.Caught names
caught_by names = fold-Clause tree.Block (meaning.Caught names) (meaning.stmt_step names) (meaning.clause_step names)

-- a test with the statements under it
abbrev pub arm_by : meaning.Names → syntax_expr.Expr × List syntax_stmt.Stmt → syntax_expr.Expr × List tree.Block
arm_by names arm = (arm.0, map (meaning.stmt_by names) arm.1)
