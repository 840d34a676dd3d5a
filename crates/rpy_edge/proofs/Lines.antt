-- Lines that are said.
use Rattle.std.proofs.Common.{◌≡◌, ℕ, List, Result, Ok, Err, subst, inr}
use Rattle.std.specs.Prelude.{IfOk}
use Rattle.rpy_edge.specs.Edge.{Sunk, Says, SaysLine}
use Rattle.rpy_edge.specs.declared.status.Status.{Status}

-- a line whose text is known
pub said_line : {N : Type 0} (status answered : Status) (text : Result (List ℕ) N) (wanted : List ℕ) (err : Sunk) → IfOk text (λ t. t ≡ wanted) → SaysLine status answered text err → Says status answered wanted err
said_line status answered (Ok t) wanted err e s = subst (λ x. Says status answered x err) e s
said_line status answered (Err n) wanted err e s = inr (inr s)
