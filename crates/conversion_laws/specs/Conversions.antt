-- Values keep what they are where they are converted.
use Rattle.std.specs.Prelude.{◌≡◌, false, Option}
use Rattle.ann_element.specs.declared.element.Element.{Element}
use Rattle.csub_tree.specs.declared.tree.COperand.{COperand}
use Rattle.rtyper_layout.specs.declared.layout.Layout.{Layout}
use Rattle.rtyper_layout.specs.Layout.{is_tuple}
use Rattle.rtyper_layout.specs.Types.{type_seen}
use Rattle.rtyper_data.specs.Seen.{Writing}
use Rattle.object_laws.specs.Known.{Known}
use Rattle.conversion_laws.specs.Asked.{Has, asks_for}
use Rattle.conversion_laws.specs.Converted.{IsConverted}
use Rattle.conversion_laws.specs.Going.{Goes}

-- a value is converted where it goes from the one element to the other; the struct of strings is no tuple
abbrev pub ValuesAreConverted : Type 0
ValuesAreConverted = (known : Known) (layout : Layout) (from to : Option Element) (x : COperand) (w : Writing) → is_tuple layout 0 ≡ false → Goes layout known from to
    → IsConverted (λ p. Has p layout) known layout from to (asks_for layout (type_seen layout from) (type_seen layout to)) x w
