-- The sites of trees in node order: the places that make lists or dicts, by what the callee of a call stands for.
use Rattle.std.specs.Prelude.{ℕ, ◌+◌, Bool, true, false, if◌then◌else◌, List, [], ◌∷◌, ◌++◌, map, Option, Some, None}
use Rattle.rpy_tree.specs.declared.syntax.BinOp.{BinOp}
use Rattle.rpy_tree.specs.declared.syntax.BinOp.TheVariants as binary
use Rattle.rpy_tree.specs.declared.syntax.Expr.{Expr, fold-Expr}
use Rattle.rpy_tree.specs.declared.syntax.Expr.TheFolds.{fold-Target}
use Rattle.rpy_tree.specs.declared.syntax.Expr.TheOpen.{Expr-F, Target-F}
use Rattle.rpy_tree.specs.declared.syntax.Target.{Target}
use Rattle.rpy_tree.specs.declared.syntax.Stmt.{Stmt, fold-Stmt}
use Rattle.rpy_tree.specs.declared.syntax.Stmt.TheOpen.{Stmt-F, Clause-F}
use Rattle.names_bound.specs.declared.stand.Stand.{Stand}
use Rattle.names_bound.specs.declared.stand.Stand.TheVariants as stand
use Rattle.names_found.specs.Part.{no_part}
use Rattle.names_found.specs.declared.part.Part.{Part}
use Rattle.names_rules.specs.Parts.{expr_parts, target_parts}
use Rattle.names_found.specs.declared.step.SiteAt.{SiteAt}

-- how many nodes a part of a tree has, its sites by the number of its first node, and what it stands for
pub record Found : Type 0 where
  pub nodes : ℕ
  pub sites : ℕ → List SiteAt
  pub part : Part

abbrev pub list_at : ℕ → SiteAt
list_at n = record { node = n; dict = false }

abbrev pub dict_at : ℕ → SiteAt
dict_at n = record { node = n; dict = true }

-- the sites of a node, by its number
abbrev pub no_site : ℕ → List SiteAt
no_site n = []

abbrev pub a_list : ℕ → List SiteAt
a_list n = list_at n ∷ []

abbrev pub a_dict : ℕ → List SiteAt
a_dict n = dict_at n ∷ []

-- a comprehension's own, then that of its walk
abbrev pub two_lists : ℕ → List SiteAt
two_lists n = list_at n ∷ list_at n ∷ []

abbrev pub operator : BinOp → ℕ → List SiteAt
operator binary.Add n = a_list n
operator binary.Mul n = a_list n
operator op n = []

-- split, keys and their like make a list, where the value that they are called on is neither a module nor a class
abbrev pub call_by : Stand → Bool → ℕ → List SiteAt
call_by (stand.Builtin b) makes n = []
call_by other makes n = if makes then a_list n else []

abbrev pub call : Part → ℕ → List SiteAt
call callee n = call_by callee.stand callee.makes n

-- only `*=` may make a list
abbrev pub augmented : BinOp → ℕ → List SiteAt
augmented binary.Mul n = a_list n
augmented op n = []

-- ---- one part after the other

abbrev pub nothing : Found
nothing = record { nodes = 0; sites = no_site; part = no_part }

abbrev pub beside : Found → Found → Found
beside a b = record { nodes = a.nodes + b.nodes; sites = λ n. a.sites n ++ b.sites (n + a.nodes); part = no_part }

abbrev pub all : List Found → Found
all [] = nothing
all (part ∷ parts) = beside part (all parts)

-- a node after its parts
abbrev pub node : List Found → (ℕ → List SiteAt) → Part → Found
node parts own part = record { nodes = (all parts).nodes + 1; sites = λ n. (all parts).sites n ++ own (n + (all parts).nodes); part = part }

-- ---- expressions and targets, by what a name, a bound name and a name after a dot stand for

module _ (name_part bound_part : List ℕ → Part) (attr_part : Part → List ℕ → Part) where
  abbrev pub expr_sites : Expr-F Found Found → ℕ → List SiteAt
  expr_sites (Expr-F.Binary n op a b) = operator op
  expr_sites (Expr-F.Call n f args) = call f.part
  expr_sites (Expr-F.Slice n a from to) = a_list
  expr_sites (Expr-F.List n items) = a_list
  expr_sites (Expr-F.Dict n pairs) = a_dict
  expr_sites (Expr-F.Comp n item target over test) = two_lists
  expr_sites other = no_site

  abbrev pub expr_part : Expr-F Found Found → Part
  expr_part (Expr-F.Expr::Name n name) = name_part name
  expr_part (Expr-F.Expr::Attr n a name) = attr_part a.part name
  expr_part other = no_part

  abbrev pub in_expr : Expr-F Found Found → Found
  in_expr x = node (expr_parts x) (expr_sites x) (expr_part x)

  abbrev pub target_part : Target-F Found Found → Part
  target_part (Target-F.Target::Name n name) = bound_part name
  target_part other = no_part

  abbrev pub in_target : Target-F Found Found → Found
  in_target x = node (target_parts x) no_site (target_part x)

  abbrev pub expr : Expr → Found
  expr = fold-Expr Found Found in_expr in_target

  abbrev pub target : Target → Found
  target = fold-Target Found Found in_expr in_target

  -- ---- statements

  abbrev pub returned : Option Expr → Found
  returned None = node [] no_site no_part
  returned (Some e) = node (expr e ∷ []) no_site no_part

  abbrev pub further_arms : List (Expr × List Found) → Found
  further_arms [] = nothing
  further_arms (arm ∷ arms) = beside (expr arm.0) (beside (all arm.1) (further_arms arms))

  abbrev pub all_arms : List (Expr × List Found) → Found
  all_arms [] = node [] no_site no_part
  all_arms (arm ∷ arms) = beside (node (expr arm.0 ∷ []) no_site no_part) (beside (all arm.1) (further_arms arms))

  abbrev pub finally : Option (List Found) → Found
  finally None = nothing
  finally (Some body) = all body

  abbrev pub in_stmt : Stmt-F Found Found → Found
  in_stmt (Stmt-F.Pass n) = node [] no_site no_part
  in_stmt (Stmt-F.Break n) = node [] no_site no_part
  in_stmt (Stmt-F.Continue n) = node [] no_site no_part
  in_stmt (Stmt-F.Return n e) = returned e
  in_stmt (Stmt-F.Raise n e) = node (expr e ∷ []) no_site no_part
  in_stmt (Stmt-F.Assert n e) = node (expr e ∷ []) no_site no_part
  in_stmt (Stmt-F.Del n a i) = node (expr a ∷ expr i ∷ []) no_site no_part
  in_stmt (Stmt-F.Print n es) = node (map expr es) no_site no_part
  in_stmt (Stmt-F.Assign n ts e) = node (map target ts ++ expr e ∷ []) no_site no_part
  in_stmt (Stmt-F.Aug n t op e) = node (target t ∷ expr e ∷ []) (augmented op) no_part
  in_stmt (Stmt-F.Expr n e) = node (expr e ∷ []) no_site no_part
  in_stmt (Stmt-F.If n arms other) = beside (all_arms arms) (all other)
  in_stmt (Stmt-F.While n e body) = beside (node (expr e ∷ []) no_site no_part) (all body)
  in_stmt (Stmt-F.For n t e body) = beside (node (target t ∷ expr e ∷ []) a_list no_part) (all body)
  in_stmt (Stmt-F.Try n body clauses other final) = beside (node [] no_site no_part) (beside (all body) (beside (all clauses) (beside (all other) (finally final))))

  abbrev pub in_clause : Clause-F Found Found → Found
  in_clause c = beside (node [] no_site no_part) (all c.body)

  abbrev pub stmt : Stmt → Found
  stmt = fold-Stmt Found Found in_stmt in_clause

  abbrev pub block : List Stmt → Found
  block body = all (map stmt body)
