-- What is asked for only grows: what stands at a number stays there.
use Rattle.std.specs.Prelude.{◌≡◌, ℕ, ◌+◌, List, ◌++◌, length}
use Rattle.csub_tree.specs.declared.tree.CCell.{CCell}
use Rattle.ll_build.specs.declared.needs.Helper.{Helper}
use Rattle.rtyper_data.specs.declared.found.Found.{Found}
use Rattle.rtyper_data.specs.declared.small.Small.{Small}
use Rattle.rtyper_data.specs.Finding.{helper_number, small_number, static_of}

-- the second list begins with the first
abbrev pub Begins : {A : Type 0} → List A → List A → Type 0
Begins {A} xs ys = (more : List A) × (xs ++ more ≡ ys)

-- a helper and the failures that it is asked for to raise come together
pub record Grows (before after : Found) : Type 0 where
  pub needs : Begins before.needs after.needs
  pub caught : Begins before.caught after.caught
  pub together : length after.needs + length before.caught ≡ length before.needs + length after.caught
  pub statics : Begins before.statics after.statics
  pub smalls : Begins before.smalls after.smalls
  pub sites : Begins before.prebuilt after.prebuilt
  pub first : after.first_small ≡ before.first_small

abbrev pub HelpersGrow : Type 0
HelpersGrow = (h : Helper) (found : Found) → Grows found (helper_number h found).1

abbrev pub SmallsGrow : Type 0
SmallsGrow = (s : Small) (found : Found) → Grows found (small_number s found).1

abbrev pub StaticsGrow : Type 0
StaticsGrow = (kind : ℕ) (cells : List CCell) (found : Found) → Grows found (static_of kind cells found).1

-- and so does it over any number of them
abbrev pub GrowthIsOne : Type 0
GrowthIsOne = (a b c : Found) → Grows a b → Grows b c → Grows a c
