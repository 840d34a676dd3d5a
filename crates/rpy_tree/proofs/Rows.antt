-- Worked runs, which compute.
use Rattle.std.proofs.Common.{◌≡◌, ℕ, List, [], ◌∷◌, Some, None, codes, refl}
use Rattle.std.specs.Prelude.{ℤ, pos, negsuc}
use Rattle.std.specs.Fmt.{digits}
use Rattle.std.specs.Int.{int_wrap}
use Rattle.rpy_base.specs.declared.outcome.Outcome.TheVariants.{Returned, Running}
use Rattle.rpy_tree.specs.declared.syntax.BinOp.TheVariants.{Add, Sub, Mul}
use Rattle.rpy_tree.specs.Pure.{Expr, Int, Local, Binary, none, more, Name, Stmt, Assign, Print, Return, Block, done, line, Program}
use Rattle.rpy_tree.specs.Value.{Text, Ref, Object, Listed}
use Rattle.rpy_tree.specs.Held.{held}
use Rattle.rpy_tree.specs.Meaning.{Meant, mean}

abbrev program : Block → Program
program body = record { functions = record { locals = 3; body = body } ∷ []; entry = 0; classes = [] }

abbrev args : List (List ℕ)
args = codes "program" ∷ codes "x" ∷ []

abbrev objects : List Object
objects = Listed (Text (codes "program") ∷ Text (codes "x") ∷ []) ∷ []

-- a body that only returns, at each bound up to 2
returns_at_1 : mean (program (line (Return (Int (pos 0))) done)) args 1 ≡ record { outcome = Some (Returned (pos 0)); output = []; roots = []; heap = objects }
returns_at_1 = refl

returns_at_2 : mean (program (line (Return (Int (pos 0))) done)) args 2 ≡ record { outcome = Some (Returned (pos 0)); output = []; roots = []; heap = objects }
returns_at_2 = refl

spent_at_0 : mean (program (line (Return (Int (pos 0))) done)) args 0 ≡ record { outcome = Some Running; output = []; roots = Ref 0 ∷ []; heap = objects }
spent_at_0 = refl

-- the list of arguments and its two strings are held there
held_at_0 : held 0 (Ref 0 ∷ []) objects ≡ 3
held_at_0 = refl

held_at_end : held 0 [] objects ≡ 0
held_at_end = refl

-- the greatest word and 1 is the smallest
wraps : mean (program (line (Print (more (Binary Add (Int (pos 9223372036854775807)) (Int (pos 1))) none)) (line (Return (Int (pos 0))) done))) args 1
    ≡ record { outcome = Some (Returned (pos 0)); output = codes "-9223372036854775808\n"; roots = []; heap = objects }
unfolding digits int_wrap
wraps = refl

-- a name that is bound again, and a product of two differences
sums : mean (program (line (Assign (Name 1) (Binary Sub (Int (pos 2)) (Int (pos 5)))) (line (Assign (Name 1) (Binary Mul (Local 1) (Local 1)))
    (line (Print (more (Local 1) (more (Int (pos 7)) none))) (line (Return (Local 1)) done))))) args 1
    ≡ record { outcome = Some (Returned (pos 9)); output = codes "9 7\n"; roots = []; heap = objects }
unfolding digits int_wrap
sums = refl

-- below the smallest word, and past the greatest
wraps_down : mean (program (line (Return (Binary Sub (Binary Sub (Int (pos 0)) (Int (pos 9223372036854775807))) (Int (pos 2)))) done)) args 1
    ≡ record { outcome = Some (Returned (pos 9223372036854775807)); output = []; roots = []; heap = objects }
unfolding int_wrap
wraps_down = refl

wraps_up : mean (program (line (Return (Binary Mul (Int (pos 9223372036854775807)) (Int (pos 2)))) done)) args 1
    ≡ record { outcome = Some (Returned (negsuc 1)); output = []; roots = []; heap = objects }
unfolding int_wrap
wraps_up = refl

-- a local that is not bound
unbound : mean (program (line (Return (Local 1)) done)) args 1 ≡ record { outcome = None; output = []; roots = []; heap = [] }
unbound = refl
