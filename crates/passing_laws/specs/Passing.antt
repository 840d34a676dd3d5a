-- Operands that go to what is known of their places, and what is asked for to convert them.
use Rattle.std.specs.Prelude.{ℕ, ◌+◌, List, [], ◌∷◌, ◌++◌, Some}
use Rattle.ann_element.specs.declared.element.Element.{Element}
use Rattle.csub_tree.specs.declared.tree.COperand.{COperand}
use Rattle.rtyper_layout.specs.declared.layout.Layout.{Layout}
use Rattle.rtyper_layout.specs.Types.{type_of as type_of_element, type_seen}
use Rattle.rtyper_data.specs.Converting.{given}
use Rattle.rtyper_data.specs.Seen.{Around, Operand, Writing}
use Rattle.rtyper_data.specs.Tuples.{with_first}
use Rattle.lower_laws.specs.Asked.{Ask}
use Rattle.lower_laws.specs.Values.{IsBelow}
use Rattle.object_laws.specs.Known.{Known}
use Rattle.conversion_laws.specs.Asked.{asks_for}
use Rattle.conversion_laws.specs.Converted.{tuples_in, items_in}
use Rattle.conversion_laws.specs.Going.{Goes}

-- each operand goes to what is known of its place
abbrev pub AllPass : Layout → Known → List Operand → List Element → Type 0
AllPass layout known [] [] = Unit {0}
AllPass layout known (a ∷ args) (e ∷ es) = Goes layout known a.element (Some e) × AllPass layout known args es
AllPass layout known args es = ⊥

-- what is written: one after the other is converted
abbrev pub each_given : Around → List Operand → List Element → Writing → List COperand × Writing
each_given around [] es w = ([], w)
each_given around (a ∷ args) [] w = ([], w)
each_given around (a ∷ args) (e ∷ es) w = with_first (given around a (type_of_element around.layout e) w) (λ next. each_given around args es next)

-- what is asked for
abbrev pub pass_asks : Layout → List Operand → List Element → List Ask
pass_asks layout [] es = []
pass_asks layout (a ∷ args) [] = []
pass_asks layout (a ∷ args) (e ∷ es) = asks_for layout (type_seen layout a.element) (type_of_element layout e) ++ pass_asks layout args es

-- the tuples in values of these elements, and the items that they have
abbrev pub tuples_of : List Element → ℕ
tuples_of [] = 0
tuples_of (e ∷ es) = tuples_in (Some e) + tuples_of es

abbrev pub items_of : List Element → ℕ
items_of [] = 0
items_of (e ∷ es) = items_in (Some e) + items_of es

abbrev pub AllUnder : ℕ → List COperand → Type 0
AllUnder n [] = Unit {0}
AllUnder n (x ∷ xs) = IsBelow n x × AllUnder n xs
