-- When a fault may be answered: the count of faults rose in the call, or stands at its last value.
use Rattle.std.specs.Prelude.{◌≡◌, ℕ, ◌+◌, ◌-◌, ◌^◌, ◌≤◌, min, Result, Ok, Err}
use Rattle.rpy_base.specs.declared.files.Got.{Got}
use Rattle.rpy_base.specs.declared.files.ReadError.{ReadError}
use Rattle.rpy_base.specs.declared.files.ReadError.TheVariants.{Failed, NoMem}
use Rattle.rpy_base.specs.declared.sink.PutError.{PutError}
use Rattle.rpy_base.specs.declared.sink.PutError.TheVariants.{Failed as PutFailed, NoMem as PutNoMem}

-- the count rose, or stands at its last value
abbrev pub Rose : ℕ → ℕ → Type 0
Rose before now = min (before + 1) (2 ^ 64 - 1) ≤ now

-- a fault of reading has its cause, and no other answer counts as one
abbrev pub ReadCause : ℕ → ℕ → Result Got ReadError → Type 0
ReadCause before now (Ok got) = now ≡ before
ReadCause before now (Err Failed) = (before ≤ now) × Rose before now
ReadCause before now (Err NoMem) = now ≡ before

abbrev pub PutCause : ℕ → ℕ → Result (Unit {0}) PutError → Type 0
PutCause before now (Ok done) = now ≡ before
PutCause before now (Err PutFailed) = (before ≤ now) × Rose before now
PutCause before now (Err PutNoMem) = now ≡ before
