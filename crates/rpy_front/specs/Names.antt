-- Where the names of modules make no program, and what is said of it.
use Rattle.std.specs.Prelude.{◌≡◌, ℕ, List, codes, Some}
use Rattle.rpy_nodes.specs.declared.listing.Named.{Named}
use Rattle.rpy_names.specs.Resolve.{namefault}
use Rattle.rpy_names.specs.Place.{place}
use Rattle.rpy_names.specs.declared.fault.NameFault.{NameFault}
use Rattle.rpy_names.specs.declared.fault.NameFault.TheVariants as fault
use Rattle.rpy_first.specs.Source.{line_at}
use Rattle.rpy_first.specs.declared.fault.TranslateFault.{TranslateFault}
use Rattle.rpy_first.specs.declared.fault.TranslateFault.TheVariants.{Name, NoMem}
use Rattle.rpy_first.specs.declared.fault.NameKind.{NameKind}
use Rattle.rpy_first.specs.declared.fault.NameKind.TheVariants.{Unknown, Twice, NoEntryPoint, BadBase, BadConstant, NoModule}

abbrev pub words_of : NameKind → List ℕ
words_of Unknown = codes "unknown name"
words_of Twice = codes "bound twice"
words_of NoEntryPoint = codes "no entry point"
words_of BadBase = codes "bad base"
words_of BadConstant = codes "bad constant"
words_of NoModule = codes "no module"

-- what is said of a file with a fault of names
abbrev pub name_refusal : List ℕ → ℕ → NameKind → List ℕ
name_refusal file line kind = line_at file line (words_of kind)

-- a node stands in this file and line
abbrev pub IsPlace : List Named → ℕ → ℕ → ℕ → Type 0
IsPlace modules node file line = (file, line) ≡ place modules node

-- a fault has this kind and stands in this file and line; that there is no entry point is said of line 1 of the first file
abbrev pub StandsAt : List Named → NameFault → ℕ → ℕ → NameKind → Type 0
StandsAt modules (fault.Unknown node) file line kind = (kind ≡ Unknown) × IsPlace modules node file line
StandsAt modules (fault.Twice node) file line kind = (kind ≡ Twice) × IsPlace modules node file line
StandsAt modules fault.NoEntryPoint file line kind = (kind ≡ NoEntryPoint) × (file ≡ 0) × (line ≡ 1)
StandsAt modules (fault.BadBase node) file line kind = (kind ≡ BadBase) × IsPlace modules node file line
StandsAt modules (fault.BadConstant node) file line kind = (kind ≡ BadConstant) × IsPlace modules node file line
StandsAt modules (fault.NoModule node) file line kind = (kind ≡ NoModule) × IsPlace modules node file line
StandsAt modules fault.NoMem file line kind = ⊥

-- the modules make no program, and this is the fault that is told
pub record IsMisnamed (modules : List Named) (file line : ℕ) (kind : NameKind) : Type 0 where
  pub fault : NameFault
  pub has : namefault modules ≡ Some fault
  pub stands : StandsAt modules fault file line kind

-- what functions ensure that place a fault
abbrev pub PlacedAs : List Named → ℕ → NameKind → TranslateFault → Type 0
PlacedAs modules node kind (Name file line said) = (said ≡ kind) × IsPlace modules node file line
PlacedAs modules node kind NoMem = Unit {0}
PlacedAs modules node kind other = ⊥

abbrev pub Refuses : List Named → TranslateFault → Type 0
Refuses modules (Name file line kind) = IsMisnamed modules file line kind
Refuses modules NoMem = Unit {0}
Refuses modules other = ⊥
