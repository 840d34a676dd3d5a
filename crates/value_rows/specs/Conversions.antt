-- What conversions and comparisons ask for stands in every program that has types.
use Rattle.std.specs.Prelude.{List, Some}
use Rattle.ann_element.specs.declared.element.Element.{Element}
use Rattle.ann_lattice.specs.Order.{Below}
use Rattle.ann_lattice.specs.Shape.{shape}
use Rattle.block_laws.specs.Links.{Converts, Stood}
use Rattle.conversion_laws.specs.Asked.{asks_for}
use Rattle.conversion_laws.specs.Ordered.{IsLaid}
use Rattle.csub_tree.specs.declared.tree.COperand.{COperand}
use Rattle.growth_laws.specs.Growing.{Grows}
use Rattle.lower_laws.specs.Asked.{Ask, all_asked}
use Rattle.rtyped_conversions.specs.Having.{AllOfValues}
use Rattle.rtyper_data.specs.declared.found.Found.{Found}
use Rattle.rtyper_data.specs.Seen.{Writing}
use Rattle.rtyper_layout.specs.Types.{type_of}
use Rattle.typed_rows.specs.Programs.{Typed, IsTyped, last, layout, numbers, same, setting}

-- whenever it was asked for, up to the last moment
abbrev pub ConversionsStand : Type 0
ConversionsStand = (t : Typed) → IsTyped t → (asks : List Ask) (found : Found) → AllOfValues asks → Grows (all_asked asks found) (last t) → Stood (setting t) (numbers t) asks found

-- What is of an element that has its structs is converted to each above it.
abbrev pub ElementsConvert : Type 0
ElementsConvert = (t : Typed) → IsTyped t → (a b : Element) (x : COperand) (w : Writing) → IsLaid (layout t) (same t) a → IsLaid (layout t) (same t) b → Below t.classes.classes (same t) (shape a) (shape b)
    → Grows (all_asked (asks_for (layout t) (type_of (layout t) a) (type_of (layout t) b)) w.found) (last t) → Converts (setting t) (numbers t) (Some a) (Some b) x w
