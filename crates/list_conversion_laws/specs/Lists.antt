-- What is done with lists, where items are converted on the way.
use Rattle.std.specs.Prelude.{◌≡◌, ℕ, ◌+◌, Bool, true, false, List, [], ◌∷◌, ◌++◌, Option, Some, codes}
use Rattle.ann_element.specs.declared.element.Element.{Element}
use Rattle.ann_element.specs.declared.element.Element.TheVariants as element
use Rattle.rpy_meaning.specs.declared.row.Covers.{Covers}
use Rattle.rpy_meaning.specs.declared.row.RowOp.{RowOp}
use Rattle.rpy_meaning.specs.declared.row.RowOp.TheVariants as row
use Rattle.rpy_meaning.specs.World.{World}
use Rattle.rpy_tree.specs.Value.{Value as Meant}
use Rattle.rtyper_layout.specs.declared.kind.Kind.TheVariants as kind
use Rattle.rtyper_layout.specs.declared.layout.Layout.{Layout}
use Rattle.rtyper_layout.specs.Kinds.{kind_seen}
use Rattle.rtyper_layout.specs.Layout.{is_list, is_tuple}
use Rattle.rtyper_layout.specs.Types.{type_of as type_of_element}
use Rattle.rtyper_op.specs.Lowering.{is_never, never_comes}
use Rattle.rtyper_data.specs.declared.small.Listed.TheVariants as listed
use Rattle.rtyper_data.specs.declared.small.Small.TheVariants as small
use Rattle.rtyper_data.specs.Seen.{Around, Operand, Place, kind_of, type_of, Writing}
use Rattle.rtyper_list.specs.Lowering.{lower_list_op}
use Rattle.lower_laws.specs.Asked.{Ask, Make}
use Rattle.object_laws.specs.Done.{references}
use Rattle.object_laws.specs.Known.{Known}
use Rattle.object_laws.specs.Staying.{Stays}
use Rattle.conversion_laws.specs.Asked.{asks_for}
use Rattle.conversion_laws.specs.Converted.{tuples_in, items_in}
use Rattle.conversion_laws.specs.Going.{Goes}
use Rattle.list_laws.specs.Asked.{Has}
use Rattle.list_laws.specs.Lists.{IsList, there_asks}
use Rattle.list_copy_laws.specs.Done.{references_moved}
use Rattle.passing_laws.specs.Done.{IsDoneBehind}
use Rattle.passing_laws.specs.Passing.{AllPass, pass_asks, tuples_of, items_of}
use Rattle.passing_laws.specs.Standing.{HasOne, With}

abbrev pub HasLists : Layout → HasOne
HasLists layout = With (λ p. Has p layout) layout

abbrev pub references_of : World → List Meant → ℕ
references_of world vs = references world.heap vs

-- A list of this struct, from these sites, which may be missing; of its items this is known, and what is known so has its structs.
pub record IsListOf (around : Around) (known : Known) (seen : Option Element) (site : ℕ) (r : Bool) (n : ℕ) (item : Element) : Type 0 where
  pub is : seen ≡ Some (element.List site r)
  pub list : IsList around known seen n item
  pub settled : Stays around.layout known (Some item) (Some item)

-- the operand may be there and goes to what is known of the items; the struct of strings is no tuple
pub record GoesIn (around : Around) (known : Known) (b : Operand) (item : Element) : Type 0 where
  pub apart : is_tuple around.layout 0 ≡ false
  pub comes : never_comes (kind_of b) ≡ false
  pub goes : Goes around.layout known b.element (Some item)

-- what is asked for: whether the list is there, for the conversion, and for what adds the item
abbrev pub adding_asks : Around → Operand → Operand → Element → Ask → Writing → List Ask
adding_asks around a b item adds w = there_asks around a w.found.covered ++ (asks_for around.layout (type_of around b) (type_of_element around.layout item) ++ adds ∷ [])

-- an item is appended, at its cost, once it is converted
abbrev pub ItemsAreAppended : RowOp → Type 0
ItemsAreAppended o = (known : Known) (around : Around) (place : Place) (a b : Operand) (w : Writing) (site n : ℕ) (r : Bool) (item : Element) → IsListOf around known a.element site r n item → GoesIn around known b item → kind_seen place.element ≡ kind.Nothing
    → IsDoneBehind (HasLists around.layout) references_of 2 (items_in (Some item)) (tuples_in (Some item)) known around o w.found.covered (adding_asks around a b item (Make (small.Listed (listed.Append n))) w) (lower_list_op around o place (a ∷ b ∷ []) w) place (a ∷ b ∷ []) w

-- an item is inserted before a place, at its cost, once it is converted
abbrev pub ItemsAreInserted : Type 0
ItemsAreInserted = (method : Option ℕ) (known : Known) (around : Around) (place : Place) (a b c : Operand) (w : Writing) (site n : ℕ) (r : Bool) (item : Element) → IsListOf around known a.element site r n item → kind_of b ≡ kind.Word → GoesIn around known c item → kind_seen place.element ≡ kind.Nothing
    → IsDoneBehind (HasLists around.layout) references_moved 2 (items_in (Some item)) (tuples_in (Some item)) known around (row.Method (codes "insert") method) w.found.covered (adding_asks around a c item (Make (small.Listed (listed.Insert n))) w)
    (lower_list_op around (row.Method (codes "insert") method) place (a ∷ b ∷ c ∷ []) w) place (a ∷ b ∷ c ∷ []) w

-- ---- displays

-- what is known of each item
abbrev pub each_item : List Operand → Element → List Element
each_item [] item = []
each_item (a ∷ args) item = item ∷ each_item args item

abbrev pub references_made : List Operand → Element → World → List Meant → ℕ
references_made args item world vs = items_of (each_item args item) + references world.heap vs

-- A list of the operands is made, at its cost, once they are converted to its items. Each may be there; what is known of the items has its structs, and the struct of strings is no tuple.
abbrev pub ListsAreMade : Type 0
ListsAreMade = (site : ℕ) (known : Known) (around : Around) (place : Place) (args : List Operand) (w : Writing) (covers : Covers) (n : ℕ) (item : Element) → IsList around known place.element n item → is_list around.layout n ≡ true → Stays around.layout known (Some item) (Some item)
    → is_tuple around.layout 0 ≡ false → is_never args ≡ false → AllPass around.layout known args (each_item args item)
    → IsDoneBehind (HasLists around.layout) (references_made args item) (2 + tuples_of (each_item args item)) 0 0 known around (row.List site) covers (pass_asks around.layout args (each_item args item) ++ Make (small.Listed (listed.Make n)) ∷ []) (lower_list_op around (row.List site) place args w) place args w
