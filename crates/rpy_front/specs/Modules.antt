-- The modules that sources are, and the first source that is none.
use Rattle.std.specs.Prelude.{◌≡◌, ◌≤◌, ◌<◌, ◌&&◌, nat_le, Bool, true, ℕ, List, [], ◌∷◌, length, slice_get, Option, Some, None, OnSome, Result, Ok, Err}
use Rattle.rpy_nodes.specs.declared.listing.Named.{Named}
use Rattle.rpy_first.specs.Source.{HasModule, IsRefused}
use Rattle.rpy_first.specs.declared.fault.SourceKind.{SourceKind}
use Rattle.rpy_first.specs.declared.fault.TranslateFault.{TranslateFault}
use Rattle.rpy_first.specs.declared.fault.TranslateFault.TheVariants.{Source, Name, NotFirst, NoMem}

-- whether each source has at most as many bytes as one may have
abbrev pub are_short : List (List ℕ) → Bool
are_short [] = true
are_short (source ∷ sources) = nat_le (length source) 1048576 && are_short sources

-- the source is the module, which has this name
pub record IsNamed (source name : List ℕ) (m : Named) : Type 0 where
  pub has : HasModule source m.module
  pub named : m.name ≡ name

-- these are the modules of the first sources, with their names
abbrev pub AreFirst : List (List ℕ) → List (List ℕ) → List Named → Type 0
AreFirst sources names [] = Unit {0}
AreFirst (source ∷ sources) (name ∷ names) (m ∷ ms) = IsNamed source name m × AreFirst sources names ms
AreFirst sources names ms = ⊥

-- and there are no further sources
abbrev pub AreModules : List (List ℕ) → List (List ℕ) → List Named → Type 0
AreModules sources names ms = AreFirst sources names ms × (length ms ≡ length sources)

-- the source at this place is no module, and those before it are
pub record StopsAt (sources names : List (List ℕ)) (file line : ℕ) (kind : SourceKind) : Type 0 where
  pub before : List Named
  pub first : AreFirst sources names before
  pub place : file ≡ length before
  pub source : List ℕ
  pub stands : slice_get sources file ≡ Some source
  pub refused : IsRefused source line kind

-- what a function ensures that reads a module
abbrev pub ReadsNamed : List ℕ → List ℕ → Result Named TranslateFault → Type 0
ReadsNamed source name (Ok m) = IsNamed source name m
ReadsNamed source name (Err (Source file line kind)) = IsRefused source line kind
ReadsNamed source name (Err (Name file line kind)) = ⊥
ReadsNamed source name (Err NotFirst) = ⊥
ReadsNamed source name (Err NoMem) = Unit {0}

-- and what one does that reads all of them
abbrev pub StopsBy : List (List ℕ) → List (List ℕ) → TranslateFault → Type 0
StopsBy sources names (Source file line kind) = StopsAt sources names file line kind
StopsBy sources names (Name file line kind) = ⊥
StopsBy sources names NotFirst = ⊥
StopsBy sources names NoMem = Unit {0}

abbrev pub ReadsModules : List (List ℕ) → List (List ℕ) → Result (List Named) TranslateFault → Type 0
ReadsModules sources names (Ok ms) = AreModules sources names ms
ReadsModules sources names (Err fault) = StopsBy sources names fault

-- the fault of the source at a place
abbrev pub at_file : ℕ → TranslateFault → TranslateFault
at_file file (Source of line kind) = Source file line kind
at_file file (Name of line kind) = Name file line kind
at_file file NotFirst = NotFirst
at_file file NoMem = NoMem
