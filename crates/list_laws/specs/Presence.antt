-- Whether lists have items, are the same and are there, and what is known of them then.
use Rattle.std.specs.Prelude.{◌≡◌, ◌≢◌, ◌⊎◌, ℕ, true, List, [], ◌∷◌}
use Rattle.ll_code.specs.declared.program.LlType.TheVariants as type
use Rattle.rpy_tree.specs.Value.{Value as Meant, Nothing}
use Rattle.rpy_tree.specs.declared.syntax.CmpOp.{CmpOp}
use Rattle.rpy_meaning.specs.declared.row.Covers.{Covers}
use Rattle.rpy_meaning.specs.declared.row.RowOp.{RowOp}
use Rattle.rpy_meaning.specs.declared.row.RowOp.TheVariants as row
use Rattle.rpy_meaning.specs.World.{World}
use Rattle.rtyper_layout.specs.declared.kind.Kind.TheVariants as kind
use Rattle.rtyper_layout.specs.Kinds.{kind_seen}
use Rattle.rtyper_data.specs.declared.small.Listed.TheVariants as listed
use Rattle.rtyper_data.specs.declared.small.Small.TheVariants as small
use Rattle.rtyper_data.specs.Seen.{Around, Operand, Place, kind_of, type_of, type_at, Writing}
use Rattle.rtyper_list.specs.Lowering.{lower_list_op}
use Rattle.rtyper_list.specs.Operands.{of_list}
use Rattle.lower_laws.specs.Asked.{Ask, Make}
use Rattle.object_laws.specs.Done.{IsDoneWhere, Any}
use Rattle.object_laws.specs.Known.{Known}
use Rattle.list_laws.specs.Asked.{Has}

-- what is written asks for this, and does what the operation does of such values, with no block more
abbrev pub IsToldWhere : (World → List Meant → Type 0) → Known → Around → RowOp → Covers → List Ask → Place → List Operand → Writing → Type 0
IsToldWhere Good known around o covers asks place args w = IsDoneWhere Good (λ p. Has p around.layout) 0 known around o covers asks (lower_list_op around o place args w) place args w

-- whatever the values are
abbrev pub IsTold : Known → Around → RowOp → Covers → List Ask → Place → List Operand → Writing → Type 0
IsTold = IsToldWhere Any

-- ---- truth and identity

-- a list that has items counts as true, and one that has none or is missing as false; and the opposite
abbrev pub ListsCountAsTrue : RowOp → Type 0
ListsCountAsTrue o = (known : Known) (around : Around) (place : Place) (a : Operand) (w : Writing) (covers : Covers) (n : ℕ) → of_list (kind_of a) ≡ true → type_of around a ≡ type.Ptr n → kind_seen place.element ≡ kind.Flag
    → IsTold known around o covers (Make (small.Listed (listed.Truth n)) ∷ []) place (a ∷ []) w

-- two lists of one struct are the same where they stand at the same place
abbrev pub ListsAreCompared : CmpOp → Type 0
ListsAreCompared o = (known : Known) (around : Around) (place : Place) (a b : Operand) (w : Writing) (covers : Covers) (n : ℕ)
    → of_list (kind_of a) ≡ true → of_list (kind_of b) ≡ true → type_of around a ≡ type.Ptr n → type_of around b ≡ type.Ptr n → kind_seen place.element ≡ kind.Flag
    → IsTold known around (row.Compare o) covers [] place (a ∷ b ∷ []) w

-- two of different structs are the same where both are missing
abbrev pub ListsAreApart : CmpOp → Type 0
ListsAreApart o = (known : Known) (around : Around) (place : Place) (a b : Operand) (w : Writing) (covers : Covers) (m n : ℕ) → m ≢ n
    → of_list (kind_of a) ≡ true → of_list (kind_of b) ≡ true → type_of around a ≡ type.Ptr m → type_of around b ≡ type.Ptr n → kind_seen place.element ≡ kind.Flag
    → IsTold known around (row.Compare o) covers [] place (a ∷ b ∷ []) w

-- a list beside `None`
abbrev pub ListsAreBesideNone : CmpOp → Type 0
ListsAreBesideNone o = (known : Known) (around : Around) (place : Place) (a b : Operand) (w : Writing) (covers : Covers) (n : ℕ) → kind_seen place.element ≡ kind.Flag
    → ((of_list (kind_of a) ≡ true) × (type_of around a ≡ type.Ptr n) × (kind_of b ≡ kind.Nothing)) ⊎ ((kind_of a ≡ kind.Nothing) × (of_list (kind_of b) ≡ true) × (type_of around b ≡ type.Ptr n))
    → IsTold known around (row.Compare o) covers [] place (a ∷ b ∷ []) w

-- ---- narrowings

abbrev pub IsThere : World → List Meant → Type 0
IsThere world (v ∷ []) = v ≢ Nothing
IsThere world vs = Unit {0}

-- of a list that is there it is known that it is
abbrev pub ListsAreThere : Type 0
ListsAreThere = (known : Known) (around : Around) (place : Place) (a : Operand) (w : Writing) (covers : Covers) (n : ℕ) → of_list (kind_of a) ≡ true → of_list (kind_seen place.element) ≡ true → type_of around a ≡ type.Ptr n → type_at around place ≡ type.Ptr n
    → IsToldWhere IsThere known around row.DropNone covers [] place (a ∷ []) w

abbrev pub IsMissing : World → List Meant → Type 0
IsMissing world (v ∷ []) = v ≡ Nothing
IsMissing world vs = Unit {0}

-- of one that is `None` it is known that it is
abbrev pub ListsAreMissing : RowOp → Type 0
ListsAreMissing o = (known : Known) (around : Around) (place : Place) (a : Operand) (w : Writing) (covers : Covers) (n : ℕ) → of_list (kind_of a) ≡ true → kind_seen place.element ≡ kind.Nothing → type_of around a ≡ type.Ptr n
    → IsToldWhere IsMissing known around o covers [] place (a ∷ []) w
