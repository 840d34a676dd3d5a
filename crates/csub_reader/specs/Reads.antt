-- What a function ensures that reads from the front of bytes: what there is to be read and what is left, unless memory fails.
use Rattle.std.specs.Prelude.{◌≡◌, ℕ, List, Option, Some, None, Result, Ok, Err}
use Rattle.std.specs.Borrow.{Bor}
use Rattle.csub_text.specs.Read.{Got}
use Rattle.csub_reader.specs.declared.fault.Stop.{Stop}
use Rattle.csub_reader.specs.declared.fault.Stop.TheVariants.{NoText, NoMem}

abbrev pub Reads : {A : Type 0} → Got A → Result A Stop → List ℕ → Type 0
Reads got (Ok x) new = got ≡ Some (x, new)
Reads got (Err NoText) new = got ≡ None
Reads got (Err NoMem) new = Unit {0}

-- the same of one that takes no memory
abbrev pub Finds : {A : Type 0} → Got A → Result A Stop → List ℕ → Type 0
Finds got (Ok x) new = got ≡ Some (x, new)
Finds got (Err NoText) new = got ≡ None
Finds got (Err NoMem) new = ⊥

-- the same of one that goes past a start
abbrev pub Strips : Option (List ℕ) → Result (Unit {0}) Stop → List ℕ → Type 0
Strips left (Ok done) new = left ≡ Some new
Strips left (Err NoText) new = left ≡ None
Strips left (Err NoMem) new = ⊥

-- the bytes that are left, where there are some
abbrev pub Same : Option (List ℕ) → Option (Bor (List ℕ)) → Type 0
Same left (Some rest) = left ≡ Some rest.now
Same left None = left ≡ None

-- the same of what has nothing after it
abbrev pub ReadsWhole : {A : Type 0} → Option A → Result A Stop → Type 0
ReadsWhole found (Ok x) = found ≡ Some x
ReadsWhole found (Err NoText) = found ≡ None
ReadsWhole found (Err NoMem) = Unit {0}
