-- The module that tokens are, and the token that no module goes on with.
use Rattle.std.specs.Prelude.{◌≡◌, ℕ, suc, ◌<◌, ◌≤◌, [], ◌++◌, length, take}
use Rattle.rpy_tree.specs.declared.syntax.Module.{Module}
use Rattle.rpy_parse.specs.declared.fault.ParseFault.{ParseFault}
use Rattle.rpy_parse.specs.declared.fault.ParseFault.TheVariants.{Syntax, NoMem}
use Rattle.rpy_parse.specs.Input.{Input}
use Rattle.rpy_parse.specs.Rule.{Lang}
use Rattle.rpy_parse.specs.Shapes.{Whole}
use Rattle.rpy_parse.specs.Rows.{python}

-- the module is what all of the tokens are
abbrev pub IsModule : Input → Module → Type 0
IsModule ts m = Lang python Whole tt ts m []

-- Some module begins with the tokens before i, and none with those up to and with i. Where i is the number of the
-- tokens, they are no module.
pub record IsDead (ts : Input) (i : ℕ) : Type 0 where
  pub within : i ≤ length ts
  pub before : (c : Input) × (m : Module) × IsModule (take i ts ++ c) m
  pub none : i < length ts → (c : Input) (m : Module) → IsModule (take (suc i) ts ++ c) m → ⊥
  pub short : i ≡ length ts → (m : Module) → IsModule ts m → ⊥

-- why tokens are no module; memory may always fail
abbrev pub IsCause : Input → ParseFault → Type 0
IsCause ts (Syntax i) = IsDead ts i
IsCause ts NoMem = Unit {0}
