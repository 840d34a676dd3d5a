-- The members of modules in the order of the text, each at its node. A function or class has its number before its parts, a
-- parameter before its default; an import has no parts, and a constant has its number after its value.
use Rattle.std.specs.Prelude.{ℕ, ◌+◌, Bool, true, false, List, [], ◌∷◌, ◌++◌, Option, Some, None}
use Rattle.rpy_tree.specs.declared.syntax.Expr.{Expr}
use Rattle.rpy_tree.specs.declared.syntax.Stmt.{Stmt}
use Rattle.rpy_tree.specs.declared.syntax.Param.{Param}
use Rattle.rpy_tree.specs.declared.syntax.Member.{Member, out-Member}
use Rattle.rpy_tree.specs.declared.syntax.Member.TheOpen.{Member-F}
use Rattle.rpy_tree.specs.declared.syntax.ClassDef.{ClassDef, out-ClassDef}
use Rattle.rpy_nodes.specs.declared.listing.Named.{Named}
use Rattle.names_rules.specs.Order.{Items, expr, block}
use Rattle.names_rules.specs.Numbering.{nodes, said}

-- an expression or a body, with the number of its first node
pub record Value : Type 0 where
  pub first : ℕ
  pub of : Expr

pub record Body : Type 0 where
  pub first : ℕ
  pub of : List Stmt

pub record Formal : Type 0 where
  pub node : ℕ
  pub name : List ℕ
  pub default : Option Value

pub data What : Type 0 where
  Import : List (List ℕ) → What
  From : List (List ℕ) → List (List ℕ) → What
  Constant : List ℕ → Value → What
  Def : List ℕ → List Formal → Bool → Body → What
  Class : List ℕ → List (List ℕ) → What

-- what stands in a file at a place among the members of its module, perhaps inside a class there
pub record Placed : Type 0 where
  pub file : ℕ
  pub place : ℕ
  pub inside : Bool
  pub node : ℕ
  pub what : What

abbrev pub value : ℕ → Expr → Value
value n e = record { first = n; of = e }

abbrev pub body_at : ℕ → List Stmt → Body
body_at n body = record { first = n; of = body }

-- ---- parameters

abbrev pub default_items : Option Expr → Items
default_items None = []
default_items (Some e) = expr e

abbrev pub default_at : ℕ → Option Expr → Option Value
default_at n None = None
default_at n (Some e) = Some (value n e)

abbrev pub formal : ℕ → Param → Formal
formal n p = record { node = n; name = p.name; default = default_at (n + 1) p.default }

abbrev pub formal_nodes : Param → ℕ
formal_nodes p = 1 + nodes (default_items p.default)

abbrev pub formal_said : Param → List (List ℕ)
formal_said p = p.name ∷ said (default_items p.default)

abbrev pub formals : ℕ → List Param → List Formal
formals n [] = []
formals n (p ∷ ps) = formal n p ∷ formals (n + formal_nodes p) ps

abbrev pub formals_nodes : List Param → ℕ
formals_nodes [] = 0
formals_nodes (p ∷ ps) = formal_nodes p + formals_nodes ps

abbrev pub formals_said : List Param → List (List ℕ)
formals_said [] = []
formals_said (p ∷ ps) = formal_said p ++ formals_said ps

-- ---- members: what they say from a first node on, their own node, how many nodes they have, and the names that they say in order

abbrev pub what : ℕ → Member-F Member ClassDef → What
what n (Member-F.Import k names) = Import names
what n (Member-F.From k path names) = From path names
what n (Member-F.Const k name e) = Constant name (value n e)
what n (Member-F.Def f) = Def f.name (formals (n + 1) f.params) f.star (body_at (n + 1 + formals_nodes f.params) f.body)
what n (Member-F.Class c) = Class (out-ClassDef c).name (out-ClassDef c).base

abbrev pub node : ℕ → Member-F Member ClassDef → ℕ
node n (Member-F.Const k name e) = n + nodes (expr e)
node n other = n

abbrev pub member_nodes : Member-F Member ClassDef → ℕ
member_nodes (Member-F.Const k name e) = nodes (expr e) + 1
member_nodes (Member-F.Def f) = 1 + (formals_nodes f.params + nodes (block f.body))
member_nodes other = 1

abbrev pub member_said : Member-F Member ClassDef → List (List ℕ)
member_said (Member-F.Import k names) = names
member_said (Member-F.From k path names) = path ++ names
member_said (Member-F.Const k name e) = said (expr e) ++ name ∷ []
member_said (Member-F.Def f) = f.name ∷ (formals_said f.params ++ said (block f.body))
member_said (Member-F.Class c) = (out-ClassDef c).name ∷ (out-ClassDef c).base

-- ---- modules

abbrev pub placed : ℕ → ℕ → Bool → ℕ → Member-F Member ClassDef → Placed
placed file place inside n m = record { file = file; place = place; inside = inside; node = node n m; what = what n m }

-- the members of a class body have the place of the class
abbrev pub body_in : Member-F Member ClassDef → List Member
body_in (Member-F.Class c) = (out-ClassDef c).members
body_in other = []

abbrev pub inside_of : ℕ → ℕ → ℕ → List Member → List Placed
inside_of file place n [] = []
inside_of file place n (m ∷ ms) = placed file place true n (out-Member m) ∷ inside_of file place (n + member_nodes (out-Member m)) ms

abbrev pub inside_nodes : List Member → ℕ
inside_nodes [] = 0
inside_nodes (m ∷ ms) = member_nodes (out-Member m) + inside_nodes ms

abbrev pub inside_said : List Member → List (List ℕ)
inside_said [] = []
inside_said (m ∷ ms) = member_said (out-Member m) ++ inside_said ms

abbrev pub members_of : ℕ → ℕ → ℕ → List Member → List Placed
members_of file place n [] = []
members_of file place n (m ∷ ms) =
    (placed file place false n (out-Member m) ∷ inside_of file place (n + member_nodes (out-Member m)) (body_in (out-Member m)))
    ++ members_of file (place + 1) (n + (member_nodes (out-Member m) + inside_nodes (body_in (out-Member m)))) ms

-- how many nodes a module has
abbrev pub module_nodes : List Member → ℕ
module_nodes [] = 0
module_nodes (m ∷ ms) = (member_nodes (out-Member m) + inside_nodes (body_in (out-Member m))) + module_nodes ms

abbrev pub module_said : List Member → List (List ℕ)
module_said [] = []
module_said (m ∷ ms) = (member_said (out-Member m) ++ inside_said (body_in (out-Member m))) ++ module_said ms

-- the numbers go on from module to module
abbrev pub modules_from : ℕ → ℕ → List Named → List Placed
modules_from file n [] = []
modules_from file n (m ∷ ms) = members_of file 0 n m.module.members ++ modules_from (file + 1) (n + module_nodes m.module.members) ms

abbrev pub modules_nodes : List Named → ℕ
modules_nodes [] = 0
modules_nodes (m ∷ ms) = module_nodes m.module.members + modules_nodes ms

abbrev pub modules_said : List Named → List (List ℕ)
modules_said [] = []
modules_said (m ∷ ms) = module_said m.module.members ++ modules_said ms

-- all members of a program
abbrev pub members : List Named → List Placed
members ms = modules_from 0 0 ms

-- the names that a member says
abbrev pub value_said : Option Value → List (List ℕ)
value_said None = []
value_said (Some v) = said (expr v.of)

abbrev pub params_said : List Formal → List (List ℕ)
params_said [] = []
params_said (p ∷ ps) = (p.name ∷ value_said p.default) ++ params_said ps

abbrev pub what_said : What → List (List ℕ)
what_said (Import names) = names
what_said (From path names) = path ++ names
what_said (Constant name v) = said (expr v.of) ++ name ∷ []
what_said (Def name params star body) = name ∷ (params_said params ++ said (block body.of))
what_said (Class name base) = name ∷ base
