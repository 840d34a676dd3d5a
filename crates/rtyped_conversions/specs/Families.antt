-- Classes that are laid out are families, as the order of elements takes them.
use Rattle.class_desc.specs.Range.{IsForest}
use Rattle.rtyper_class.specs.Seen.{World}
use Rattle.object_laws.specs.Known.{Known}
use Rattle.class_laws.specs.Classes.{IsOf, IsLaidOut}
use Rattle.conversion_laws.specs.Ordered.{AreFamilies}

-- what is of a class is of each that is above it, and both have one topmost struct
abbrev pub ClassesAreFamilies : Type 0
ClassesAreFamilies = (world : World) (known : Known) → IsForest world.classes.classes → IsOf world known → IsLaidOut world known → AreFamilies world.classes.classes world.around.layout known
