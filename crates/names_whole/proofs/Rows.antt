-- Worked rows of the tables of a program, which compute.
use Rattle.std.proofs.Common.{◌≡◌, [], ◌∷◌, pos, codes, true, false, Some, None, refl}
use Rattle.rpy_tree.specs.declared.program.Const.TheVariants as const
use Rattle.rpy_tree.specs.declared.program.Use.TheVariants as use_
use Rattle.rpy_tree.specs.declared.syntax.Expr.TheVariants as expr
use Rattle.names_bound.specs.declared.stand.Stand.TheVariants as stand
use Rattle.names_rules.specs.Members.{Constant, Placed}
use Rattle.names_rules.specs.Order.{CaughtEnd, Clause_of}
use Rattle.names_whole.specs.Classes.{constants_in}
use Rattle.names_whole.specs.Clauses.{no_heads, head_at}
use Rattle.names_whole.specs.Sites.{contents, sites_from}
use Rattle.names_whole.specs.Uses.{used, put_all, nothings}

-- of two modules os has number 2
os_is : used [] 2 7 stand.Os ≡ (7, use_.Module 2) ∷ []
os_is = refl

-- what stands for nothing has no use
nothing_is : used [] 2 7 stand.Nothing ≡ []
nothing_is = refl

-- a constant's name has its value
constant_is : used (Some const.None ∷ []) 1 4 (stand.Constant 0) ≡ (4, use_.Value const.None) ∷ []
constant_is = refl

-- the later use of a node stands, and a node that none is told of has none
uses_put : put_all ((0, use_.Function 1) ∷ (2, use_.Local 0) ∷ (0, use_.Value const.None) ∷ []) (nothings 3) ≡ use_.Value const.None ∷ use_.Nothing ∷ use_.Local 0 ∷ []
uses_put = refl

-- a clause has the classes of its head, and the next one has none yet
clause_has : head_at [] [] [] 0 [] 9 stand.Nothing Clause_of (head_at [] [] [] 0 [] 8 (stand.Class 3) CaughtEnd no_heads) ≡ record { clauses = record { node = 9; classes = 3 ∷ []; local = None } ∷ []; classes = []; local = None }
clause_has = refl

-- a constant inside a class and one behind it
abbrev inside : Placed
inside = record { file = 0; place = 1; inside = true; node = 3; what = Constant (codes "x") (record { first = 2; of = expr.Int 2 (pos 7) }) }

abbrev behind : Placed
behind = record { file = 0; place = 2; inside = false; node = 5; what = Constant (codes "y") (record { first = 4; of = expr.Int 4 (pos 8) }) }

-- the first class lists the constant that stands in its body, and not the one behind it
class_lists : constants_in (Some (const.Word (pos 7)) ∷ Some (const.Word (pos 8)) ∷ []) 13 (record { functions = 0; classes = 1; constants = 0 }) (inside ∷ behind ∷ []) ≡ (codes "x", const.Word (pos 7)) ∷ []
class_lists = refl

-- site 1 holds what is made at it
sites_hold : sites_from (contents (record { site = 1; pairs = (const.None, const.Word (pos 7)) ∷ [] } ∷ [])) 0 (record { node = 2; dict = false } ∷ record { node = 5; dict = false } ∷ [])
    ≡ record { node = 2; dict = false; prebuilt = None } ∷ record { node = 5; dict = false; prebuilt = Some ((const.None, const.Word (pos 7)) ∷ []) } ∷ []
sites_hold = refl
