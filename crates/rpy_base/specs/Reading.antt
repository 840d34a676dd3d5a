-- What a read of a file gives.
use Rattle.std.specs.Prelude.{◌≡◌, ℕ, ◌<◌, ◌≤◌, List, [], length, take, Option, Some, None, IfSome, Result, Ok, Err}
use Rattle.rpy_base.specs.declared.files.Got.{Got}
use Rattle.rpy_base.specs.declared.files.Got.TheVariants.{Whole, TooLong, Missing}
use Rattle.rpy_base.specs.declared.files.ReadError.{ReadError}

-- bytes under names; none where there is no file of the name
abbrev pub Disk : Type 0
Disk = List ℕ → Option (List ℕ)

-- the file has more bytes than the limit, and these begin it
abbrev pub IsLonger : Option (List ℕ) → ℕ → List ℕ → Type 0
IsLonger file limit start = (bytes : List ℕ) × (file ≡ Some bytes) × (limit < length bytes) × (take (length start) bytes ≡ start)

-- what stands in the buffer after the read of a name, where the files tell what they hold
abbrev pub ReadsFile : Option Disk → List ℕ → ℕ → List ℕ → Result Got ReadError → Type 0
ReadsFile told name limit into (Ok Whole) = (length into ≤ limit) × IfSome told (λ disk. disk name ≡ Some into)
ReadsFile told name limit into (Ok TooLong) = IfSome told (λ disk. IsLonger (disk name) limit into)
ReadsFile told name limit into (Ok Missing) = (into ≡ []) × IfSome told (λ disk. disk name ≡ None)
ReadsFile told name limit into (Err fault) = Unit {0}
