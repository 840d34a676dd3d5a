-- Which graphs that are asked for give something.
use Rattle.std.specs.Prelude.{◌≡◌, ◌≢◌, Bool, true, false, Some}
use Rattle.ll_code.specs.declared.program.LlType.{LlType}
use Rattle.ll_code.specs.declared.program.LlType.TheVariants as type
use Rattle.ll_build.specs.declared.needs.Helper.{Helper}
use Rattle.ll_build.specs.declared.needs.Helper.TheVariants as helper
use Rattle.rtyper_layout.specs.declared.classes.Laid.{Laid}
use Rattle.rtyper_data.specs.declared.small.Small.{Small}
use Rattle.rtyper_data.specs.declared.small.Small.TheVariants as small
use Rattle.rtyper_data.specs.declared.small.Listed.{Listed}
use Rattle.rtyper_data.specs.declared.small.Listed.TheVariants as listed
use Rattle.rtyper_data.specs.declared.small.Keyed.{Keyed}
use Rattle.rtyper_data.specs.declared.small.Keyed.TheVariants as keyed
use Rattle.rtyper_class.specs.Seen.{World, laid}

-- all helpers but those that print
abbrev pub helper_gives : Helper → Bool
helper_gives helper.PrintWord = false
helper_gives helper.PrintBool = false
helper_gives helper.PrintStr = false
helper_gives other = true

abbrev pub GivesType : LlType → Type 0
GivesType t = t ≢ type.Void

-- those that make lists or strings, and those that ask
abbrev pub ListedGives : Listed → Type 0
ListedGives (listed.Place l raises) = Unit {0}
ListedGives (listed.Make l) = Unit {0}
ListedGives (listed.Concat l m r) = Unit {0}
ListedGives (listed.Repeat l r) = Unit {0}
ListedGives (listed.Slice l r) = Unit {0}
ListedGives (listed.ButLast l r) = Unit {0}
ListedGives (listed.Contains kind l) = Unit {0}
ListedGives (listed.Truth l) = Unit {0}
ListedGives (listed.Join l) = Unit {0}
ListedGives (listed.Split l) = Unit {0}
ListedGives other = ⊥

-- a type that is named is one of values
abbrev pub KeyedGives : Keyed → Type 0
KeyedGives (keyed.Make d) = Unit {0}
KeyedGives (keyed.Find d) = Unit {0}
KeyedGives (keyed.Entry d) = Unit {0}
KeyedGives (keyed.Value d) = Unit {0}
KeyedGives (keyed.Get d kind) = GivesType kind
KeyedGives (keyed.Truth d) = Unit {0}
KeyedGives (keyed.Keys d l) = Unit {0}
KeyedGives (keyed.Values d l) = Unit {0}
KeyedGives (keyed.Items d l) = Unit {0}
KeyedGives other = ⊥

-- an instance is of a class that has structs
abbrev pub SmallGives : World → Small → Type 0
SmallGives world (small.Fail raises) = ⊥
SmallGives world (small.Raise class) = ⊥
SmallGives world (small.Present t raises) = GivesType t
SmallGives world (small.New class) = (l : Laid) × (laid world class ≡ Some l)
SmallGives world (small.Listed l) = ListedGives l
SmallGives world (small.Keyed k) = KeyedGives k
SmallGives world other = Unit {0}
