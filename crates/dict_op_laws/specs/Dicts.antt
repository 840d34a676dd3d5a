-- What the low-level operations of operations on dicts ask for and do.
use Rattle.std.specs.Prelude.{◌≡◌, ◌⊎◌, ℕ, Bool, true, List, [], ◌∷◌, Some, if◌then◌else◌}
use Rattle.ll_code.specs.declared.program.LlType.{LlType}
use Rattle.ll_code.specs.declared.program.LlType.TheVariants as type
use Rattle.rpy_tree.specs.declared.syntax.CmpOp.{CmpOp}
use Rattle.rpy_meaning.specs.declared.row.Covers.{Covers}
use Rattle.rpy_meaning.specs.declared.row.RowOp.{RowOp}
use Rattle.rpy_meaning.specs.declared.row.RowOp.TheVariants as row
use Rattle.rtyper_layout.specs.declared.dicts.Mapping.{Mapping}
use Rattle.rtyper_layout.specs.declared.kind.Kind.TheVariants as kind
use Rattle.rtyper_layout.specs.Kinds.{kind_seen}
use Rattle.rtyper_layout.specs.Layout.{mapping_at}
use Rattle.rtyper_layout.specs.Types.{type_seen}
use Rattle.rtyper_data.specs.declared.small.Keyed.TheVariants as keyed
use Rattle.rtyper_data.specs.declared.small.Small.TheVariants as small
use Rattle.rtyper_data.specs.Seen.{Around, Operand, Place, type_of, kind_of, Writing}
use Rattle.rtyper_list.specs.Lowering.{lower_list_op}
use Rattle.rtyper_dict.specs.Lowering.{lower_dict_op}
use Rattle.rtyper_dict.specs.Operands.{of_dict, of_dict_or_none}
use Rattle.lower_laws.specs.Asked.{Ask, Make}
use Rattle.object_laws.specs.Done.{IsDone as IsDoneBy}
use Rattle.object_laws.specs.Known.{Known}
use Rattle.list_laws.specs.Presence.{IsTold as IsToldAsLists}
use Rattle.dict_op_laws.specs.Asked.{Has}

-- what is written asks for this, and does what the operation does, with at most so many blocks more
abbrev pub IsDone : ℕ → Known → Around → RowOp → Covers → List Ask → Place → List Operand → Writing → Type 0
IsDone blocks known around o covers asks place args w = IsDoneBy (λ p. Has p around.layout) blocks known around o covers asks (lower_dict_op around o place args w) place args w

-- the operand is a dict of this mapping, or `None` where it may be missing
pub record IsDictOf (around : Around) (a : Operand) (n : ℕ) (m : Mapping) : Type 0 where
  pub dicts : of_dict (kind_of a) ≡ true
  pub typed : type_of around a ≡ type.Ptr n
  pub mapping : mapping_at around.layout.mappings n ≡ Some m

abbrev pub if_missing : Bool → LlType → Covers → List Ask
if_missing or_none t c = if or_none then Make (small.Present t c.attribute) ∷ [] else []

-- where it may be missing, it is tested
abbrev pub there_asks : Around → Operand → Covers → List Ask
there_asks around a c = if_missing (of_dict_or_none (kind_of a)) (type_of around a) c

-- the number of entries
abbrev pub DictsHaveLengths : Type 0
DictsHaveLengths = (known : Known) (around : Around) (place : Place) (a : Operand) (w : Writing) (n : ℕ) (m : Mapping) → IsDictOf around a n m → kind_seen place.element ≡ kind.Word
    → IsDone 0 known around row.Len w.found.covered (there_asks around a w.found.covered) place (a ∷ []) w

-- what is written for an operation that is not of dicts alone does what it does, with no block more
abbrev pub IsTold : Known → Around → RowOp → Covers → List Ask → Place → List Operand → Writing → Type 0
IsTold known around o covers asks place args w = IsDoneBy (λ p. Has p around.layout) 0 known around o covers asks (lower_list_op around o place args w) place args w

-- a dict that has entries counts as true, and one that has none or is missing as false; and the opposite
abbrev pub DictsCountAsTrue : RowOp → Type 0
DictsCountAsTrue o = (known : Known) (around : Around) (place : Place) (a : Operand) (w : Writing) (covers : Covers) (n : ℕ) (m : Mapping) → IsDictOf around a n m → kind_seen place.element ≡ kind.Flag
    → IsTold known around o covers (Make (small.Keyed (keyed.Truth n)) ∷ []) place (a ∷ []) w

-- two dicts of one mapping are the same where they stand at the same place
abbrev pub DictsAreCompared : CmpOp → Type 0
DictsAreCompared o = (known : Known) (around : Around) (place : Place) (a b : Operand) (w : Writing) (covers : Covers) (n : ℕ) (m : Mapping) → IsDictOf around a n m → IsDictOf around b n m → kind_seen place.element ≡ kind.Flag
    → IsToldAsLists known around (row.Compare o) covers [] place (a ∷ b ∷ []) w

-- a dict beside `None`
abbrev pub DictsAreBesideNone : CmpOp → Type 0
DictsAreBesideNone o = (known : Known) (around : Around) (place : Place) (a b : Operand) (w : Writing) (covers : Covers) (n : ℕ) (m : Mapping) → kind_seen place.element ≡ kind.Flag
    → (IsDictOf around a n m × (kind_of b ≡ kind.Nothing)) ⊎ ((kind_of a ≡ kind.Nothing) × IsDictOf around b n m)
    → IsToldAsLists known around (row.Compare o) covers [] place (a ∷ b ∷ []) w

-- a dict without entries is made, in one block, at its cost
abbrev pub EmptyDictsAreMade : Type 0
EmptyDictsAreMade = (known : Known) (around : Around) (place : Place) (w : Writing) (covers : Covers) (site n : ℕ) (m : Mapping) → of_dict (kind_seen place.element) ≡ true → type_seen around.layout place.element ≡ type.Ptr n → mapping_at around.layout.mappings n ≡ Some m
    → IsDone 1 known around (row.Dict site) covers (Make (small.Keyed (keyed.Make n)) ∷ []) place [] w
