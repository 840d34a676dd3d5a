-- Modules of the first path, and the programs that they are. Such a module has one member, the function `entry_point`, with one
-- parameter. Its statements are `NAME = SUM`, `print SUM` and, last and only there, `return SUM`.
use Rattle.std.specs.Prelude.{ℕ, ◌+◌, ◌||◌, ◌&&◌, not, Bool, true, false, if◌then◌else◌, List, [], ◌∷◌, ◌++◌, length, Option, Some, None, codes}
use Rattle.std.specs.Str.{bytes_eq}
use Rattle.rpy_tree.specs.declared.syntax.BinOp.{BinOp}
use Rattle.rpy_tree.specs.declared.syntax.BinOp.TheVariants as op
use Rattle.rpy_tree.specs.declared.syntax.Expr.{Expr, fold-Expr}
use Rattle.rpy_tree.specs.declared.syntax.Expr.TheOpen.{Expr-F, Target-F}
use Rattle.rpy_tree.specs.declared.syntax.Target.{Target, out-Target}
use Rattle.rpy_tree.specs.declared.syntax.Stmt.{Stmt, out-Stmt}
use Rattle.rpy_tree.specs.declared.syntax.Stmt.TheOpen.{Stmt-F}
use Rattle.rpy_tree.specs.declared.syntax.Clause.{Clause}
use Rattle.rpy_tree.specs.declared.syntax.Param.{Param}
use Rattle.rpy_tree.specs.declared.syntax.Function.{Function}
use Rattle.rpy_tree.specs.declared.syntax.Member.{Member, out-Member}
use Rattle.rpy_tree.specs.declared.syntax.Member.TheOpen.{Member-F}
use Rattle.rpy_tree.specs.declared.syntax.ClassDef.{ClassDef}
use Rattle.rpy_tree.specs.declared.syntax.Module.{Module}
use Rattle.rpy_first.specs.Program.{is_bound}
use Rattle.rpy_first.specs.declared.body.Arith.{Arith}
use Rattle.rpy_first.specs.declared.body.Arith.TheVariants.{Add, Sub, Mul}
use Rattle.rpy_first.specs.declared.body.Sum.{Sum}
use Rattle.rpy_first.specs.declared.body.Sum.TheVariants.{Word, Local, Binary}
use Rattle.rpy_first.specs.declared.body.Line.{Line}
use Rattle.rpy_first.specs.declared.body.Line.TheVariants.{Assign, Print}
use Rattle.rpy_first.specs.declared.body.Body.{Body}
use Rattle.rpy_first.specs.declared.reader.Read.{Read}
use Rattle.rpy_first.specs.declared.reader.Read.TheVariants.{Assign as Bound, Print as Printed, Return as Returned}

-- names that are bound, the first one being local 0
abbrev pub Names : Type 0
Names = List (List ℕ)

abbrev pub place_from : ℕ → Names → List ℕ → Option ℕ
place_from i [] name = None
place_from i (other ∷ names) name = if bytes_eq other name then Some i else place_from (i + 1) names name

abbrev pub place_of : Names → List ℕ → Option ℕ
place_of names name = place_from 0 names name

abbrev pub is_constant : List ℕ → Bool
is_constant name = bytes_eq name (codes "None") || bytes_eq name (codes "True") || bytes_eq name (codes "False")

-- the names that no sum has and no statement binds: the parameter, and those of constants
abbrev pub is_reserved : List ℕ → List ℕ → Bool
is_reserved parameter name = bytes_eq name parameter || is_constant name

-- ---- sums

abbrev pub found_at : Option ℕ → Option Sum
found_at None = None
found_at (Some place) = Some (Local place)

-- a name that is bound
abbrev pub local : List ℕ → Names → List ℕ → Option Sum
local parameter names name = if is_reserved parameter name then None else found_at (place_of names name)

abbrev pub arith_of : BinOp → Option Arith
arith_of op.Add = Some Add
arith_of op.Sub = Some Sub
arith_of op.Mul = Some Mul
arith_of other = None

abbrev pub both : Option Arith → Option Sum → Option Sum → Option Sum
both (Some f) (Some a) (Some b) = Some (Binary f a b)
both f a b = None

abbrev pub sum_step : List ℕ → Names → Expr-F (Option Sum) (Unit {0}) → Option Sum
sum_step parameter names (Expr-F.Int n z) = Some (Word z)
sum_step parameter names (Expr-F.Expr::Name n name) = local parameter names name
sum_step parameter names (Expr-F.Binary n f a b) = both (arith_of f) a b
sum_step parameter names other = None

abbrev pub no_step : Target-F (Option Sum) (Unit {0}) → Unit {0}
no_step target = tt

-- the sum of literals and bound names that an expression is
abbrev pub sum_of : List ℕ → Names → Expr → Option Sum
sum_of parameter names = fold-Expr (Option Sum) (Unit {0}) (sum_step parameter names) no_step

-- ---- statements

abbrev pub name_in : Target-F Expr Target → Option (List ℕ)
name_in (Target-F.Target::Name n name) = Some name
name_in other = None

-- the one name that is bound
abbrev pub name_of : List Target → Option (List ℕ)
name_of (target ∷ []) = name_in (out-Target target)
name_of targets = None

abbrev pub bound : List ℕ → Option (List ℕ) → Option Sum → Option Read
bound parameter (Some name) (Some s) = if is_reserved parameter name then None else Some (Bound name s)
bound parameter name s = None

abbrev pub printed : Option Sum → Option Read
printed None = None
printed (Some s) = Some (Printed s)

abbrev pub returned : Option Sum → Option Read
returned None = None
returned (Some s) = Some (Returned s)

-- what a statement binds, prints or returns
abbrev pub read_in : List ℕ → Names → Stmt-F Stmt Clause → Option Read
read_in parameter names (Stmt-F.Assign n targets e) = bound parameter (name_of targets) (sum_of parameter names e)
read_in parameter names (Stmt-F.Print n (e ∷ [])) = printed (sum_of parameter names e)
read_in parameter names (Stmt-F.Return n (Some e)) = returned (sum_of parameter names e)
read_in parameter names other = None

abbrev pub read_statement : List ℕ → Names → Stmt → Option Read
read_statement parameter names s = read_in parameter names (out-Stmt s)

-- the local of a name, which is a new one where the name is not bound yet
abbrev pub local_or_new : Names → Option ℕ → ℕ
local_or_new names None = length names
local_or_new names (Some place) = place

abbrev pub names_with : Names → List ℕ → Option ℕ → Names
names_with names name None = names ++ name ∷ []
names_with names name (Some place) = names

-- a return is the last statement
abbrev pub finished : List Line → Names → Sum → List Stmt → Option Body
finished lines names result [] = Some (record { lines = lines; result = result; locals = length names })
finished lines names result (s ∷ rest) = None

-- what follows by a statement, where `go` goes on with the rest
abbrev pub body_after : (List Line → Names → Option Body) → List Stmt → List Line → Names → Option Read → Option Body
body_after go rest lines names None = None
body_after go rest lines names (Some (Returned s)) = finished lines names s rest
body_after go rest lines names (Some (Printed s)) = go (lines ++ Print s ∷ []) names
body_after go rest lines names (Some (Bound name s)) = go (lines ++ Assign (local_or_new names (place_of names name)) s ∷ []) (names_with names name (place_of names name))

-- the body of these statements after those lines
unfoldable pub body_of : List ℕ → List Stmt → List Line → Names → Option Body
body_of parameter [] lines names = None
body_of parameter (s ∷ rest) lines names = body_after (body_of parameter rest) rest lines names (read_statement parameter names s)

-- ---- a module

-- the name of a plain parameter
abbrev pub plain : List ℕ → Option Expr → Option (List ℕ)
plain name None = if is_constant name then None else Some name
plain name (Some default) = None

abbrev pub body_under : Option (List ℕ) → List Stmt → Option Body
body_under None statements = None
body_under (Some parameter) statements = body_of parameter statements [] []

-- the one parameter of a function without a star
abbrev pub parameter_of : Bool → List Param → Option (List ℕ)
parameter_of false (p ∷ []) = plain p.name p.default
parameter_of star params = None

abbrev pub function_body : Function → Option Body
function_body f = if bytes_eq f.name (codes "entry_point") then body_under (parameter_of f.star f.params) f.body else None

abbrev pub member_body : Member-F Member ClassDef → Option Body
member_body (Member-F.Def f) = function_body f
member_body other = None

abbrev pub members_body : List Member → Option Body
members_body (x ∷ []) = member_body (out-Member x)
members_body xs = None

-- a body whose locals are bound where they are read
abbrev pub if_bound : Option Body → Option Body
if_bound None = None
if_bound (Some whole) = if is_bound whole then Some whole else None

-- the program that a module is, where it is one of the first path
abbrev pub first_path : Module → Option Body
first_path m = if_bound (members_body m.members)
