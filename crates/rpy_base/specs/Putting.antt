-- What a sink took, where it tells it.
use Rattle.std.specs.Prelude.{◌≡◌, ℕ, List, ◌++◌, take, Option, Some, None, Result, Ok, Err}
use Rattle.rpy_base.specs.declared.sink.PutError.{PutError}
use Rattle.rpy_base.specs.declared.sink.PutError.TheVariants.{Failed, NoMem}

-- all of the bytes after what was taken before; at a fault some first part of them; for want of memory nothing
abbrev pub Takes : Option (List ℕ) → Option (List ℕ) → List ℕ → Result (Unit {0}) PutError → Type 0
Takes None after bytes result = after ≡ None
Takes (Some before) after bytes (Ok done) = after ≡ Some (before ++ bytes)
Takes (Some before) after bytes (Err Failed) = (k : ℕ) × (after ≡ Some (before ++ take k bytes))
Takes (Some before) after bytes (Err NoMem) = after ≡ Some before
