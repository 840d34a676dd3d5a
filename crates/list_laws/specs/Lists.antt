-- What is done with lists, where no value is converted on the way.
use Rattle.std.specs.Prelude.{◌≡◌, ℕ, ◌+◌, ℤ, Bool, true, if◌then◌else◌, List, [], ◌∷◌, ◌++◌, Option, Some, None}
use Rattle.ann_element.specs.declared.element.Element.{Element}
use Rattle.ll_code.specs.declared.program.LlType.{LlType}
use Rattle.ll_code.specs.declared.program.LlType.TheVariants as type
use Rattle.rpy_meaning.specs.declared.row.Covers.{Covers}
use Rattle.rpy_meaning.specs.declared.row.RowOp.{RowOp}
use Rattle.rpy_meaning.specs.declared.row.RowOp.TheVariants as row
use Rattle.rtyper_layout.specs.declared.kind.Kind.TheVariants as kind
use Rattle.rtyper_layout.specs.Kinds.{kind_seen}
use Rattle.rtyper_layout.specs.Layout.{is_list}
use Rattle.rtyper_layout.specs.Types.{word, type_of as element_type, type_seen, field_type}
use Rattle.rtyper_data.specs.declared.small.Listed.TheVariants as listed
use Rattle.rtyper_data.specs.declared.small.Small.TheVariants as small
use Rattle.rtyper_data.specs.Seen.{Around, Operand, Place, kind_of, type_of, Writing}
use Rattle.list_shape.specs.Shapes.{item_of}
use Rattle.rtyper_list.specs.Operands.{of_list, of_list_or_none}
use Rattle.lower_laws.specs.Asked.{Ask, Make}
use Rattle.object_laws.specs.Known.{Known}
use Rattle.object_laws.specs.Staying.{Stays}
use Rattle.list_laws.specs.Done.{IsDone}

-- ---- lists

-- a list of this struct, of whose items this is known
pub record IsList (around : Around) (known : Known) (seen : Option Element) (n : ℕ) (item : Element) : Type 0 where
  pub is : of_list (kind_seen seen) ≡ true
  pub typed : type_seen around.layout seen ≡ type.Ptr n
  pub item_is : known.items n ≡ Some item
  pub items : item_of around.layout (word (n + 1)) ≡ field_type (element_type around.layout item)

-- where a list may be `None`, this is asked first
abbrev pub if_missing : Bool → LlType → Covers → List Ask
if_missing or_none t c = if or_none then Make (small.Present t c.attribute) ∷ [] else []

abbrev pub there_asks : Around → Operand → Covers → List Ask
there_asks around a c = if_missing (of_list_or_none (kind_of a)) (type_of around a) c

-- ---- what is done with them

-- the length
abbrev pub LengthsAreRead : Type 0
LengthsAreRead = (known : Known) (around : Around) (place : Place) (a : Operand) (w : Writing) → of_list (kind_of a) ≡ true → kind_seen place.element ≡ kind.Word
    → IsDone known around row.Len w.found.covered (there_asks around a w.found.covered) place (a ∷ []) w

-- what is walked is the list itself
abbrev pub WalksBegin : Type 0
WalksBegin = (known : Known) (around : Around) (place : Place) (a : Operand) (w : Writing) (site n : ℕ) → of_list (kind_of a) ≡ true → of_list (kind_seen place.element) ≡ true → type_of around a ≡ type.Ptr n → type_seen around.layout place.element ≡ type.Ptr n
    → IsDone known around (row.Walk site) w.found.covered (there_asks around a w.found.covered) place (a ∷ []) w

-- whether a walk goes on, and the item that it has come to
abbrev pub WalksGoOn : Type 0
WalksGoOn = (known : Known) (around : Around) (place : Place) (a b : Operand) (w : Writing) (covers : Covers) → of_list (kind_of a) ≡ true → kind_of b ≡ kind.Word → kind_seen place.element ≡ kind.Flag
    → IsDone known around (row.HasItem None) covers [] place (a ∷ b ∷ []) w

abbrev pub WalksGive : Type 0
WalksGive = (known : Known) (around : Around) (place : Place) (a b : Operand) (w : Writing) (covers : Covers) (n : ℕ) (item : Element) → IsList around known a.element n item → kind_of b ≡ kind.Word → Stays around.layout known (Some item) place.element
    → IsDone known around (row.Item None) covers [] place (a ∷ b ∷ []) w

-- a list without items is made, at its cost
abbrev pub EmptyListsAreMade : RowOp → Type 0
EmptyListsAreMade o = (known : Known) (around : Around) (place : Place) (w : Writing) (covers : Covers) (n : ℕ) → of_list (kind_seen place.element) ≡ true → type_seen around.layout place.element ≡ type.Ptr n → is_list around.layout n ≡ true
    → IsDone known around o covers (Make (small.Listed (listed.Make n)) ∷ []) place [] w

-- each operand is an item as it is
abbrev pub AllStay : Around → Known → List Operand → Element → Type 0
AllStay around known [] item = Unit {0}
AllStay around known (a ∷ args) item = Stays around.layout known a.element (Some item) × AllStay around known args item

-- a list of the operands is made, at its cost
abbrev pub ListsAreMade : Type 0
ListsAreMade = (site : ℕ) (known : Known) (around : Around) (place : Place) (args : List Operand) (w : Writing) (covers : Covers) (n : ℕ) (item : Element) → IsList around known place.element n item → is_list around.layout n ≡ true → AllStay around known args item
    → IsDone known around (row.List site) covers (Make (small.Listed (listed.Make n)) ∷ []) place args w

-- an item is stored; the value of that is the item
abbrev pub ItemsAreStored : Type 0
ItemsAreStored = (known : Known) (around : Around) (place : Place) (a b c : Operand) (w : Writing) (n : ℕ) (item : Element) → IsList around known a.element n item → kind_of b ≡ kind.Word → Stays around.layout known c.element (Some item) → Stays around.layout known c.element place.element
    → IsDone known around row.StoreIndex w.found.covered (there_asks around a w.found.covered ++ Make (small.Listed (listed.Place n w.found.covered.index)) ∷ []) place (a ∷ b ∷ c ∷ []) w

-- an item is appended, at its cost; a full array is made anew
abbrev pub ItemsAreAppended : RowOp → Type 0
ItemsAreAppended o = (known : Known) (around : Around) (place : Place) (a b : Operand) (w : Writing) (n : ℕ) (item : Element) → IsList around known a.element n item → Stays around.layout known b.element (Some item) → kind_seen place.element ≡ kind.Nothing
    → IsDone known around o w.found.covered (there_asks around a w.found.covered ++ Make (small.Listed (listed.Append n)) ∷ []) place (a ∷ b ∷ []) w

-- the item at an index
abbrev pub ItemsAreRead : Type 0
ItemsAreRead = (known : Known) (around : Around) (place : Place) (a b : Operand) (w : Writing) (literal : Option ℤ) (n : ℕ) (item : Element) → IsList around known a.element n item → kind_of b ≡ kind.Word → Stays around.layout known (Some item) place.element
    → IsDone known around (row.Index literal) w.found.covered (there_asks around a w.found.covered ++ Make (small.Listed (listed.Place n w.found.covered.index)) ∷ []) place (a ∷ b ∷ []) w
