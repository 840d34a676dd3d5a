-- Names of bytes.
use Rattle.std.proofs.Common.{ℕ, List, ◌++◌, Some, None}
use Rattle.std.specs.Prelude.{Option}

-- bytes behind others
abbrev pub behind : List ℕ → Option (List ℕ) → Option (List ℕ)
behind bytes None = None
behind bytes (Some more) = Some (bytes ++ more)
