-- Lists are turned around.
use Rattle.std.specs.Prelude.{◌≡◌, ℕ, true, [], ◌∷◌, ◌++◌, Option, codes}
use Rattle.ll_code.specs.declared.program.LlType.TheVariants as type
use Rattle.rpy_meaning.specs.declared.row.RowOp.TheVariants as row
use Rattle.rtyper_layout.specs.declared.kind.Kind.TheVariants as kind
use Rattle.rtyper_layout.specs.Kinds.{kind_seen}
use Rattle.rtyper_data.specs.declared.small.Listed.TheVariants as listed
use Rattle.rtyper_data.specs.declared.small.Small.TheVariants as small
use Rattle.rtyper_data.specs.Seen.{Around, Operand, Place, kind_of, type_of, Writing}
use Rattle.rtyper_list.specs.Operands.{of_list}
use Rattle.lower_laws.specs.Asked.{Make}
use Rattle.object_laws.specs.Known.{Known}
use Rattle.list_laws.specs.Lists.{there_asks}
use Rattle.list_laws.specs.Presence.{IsTold}

-- the items of the list come in the opposite order
abbrev pub ListsAreReversed : Type 0
ListsAreReversed = (site : Option ℕ) (known : Known) (around : Around) (place : Place) (a : Operand) (w : Writing) (n : ℕ) → of_list (kind_of a) ≡ true → type_of around a ≡ type.Ptr n → kind_seen place.element ≡ kind.Nothing
    → IsTold known around (row.Method (codes "reverse") site) w.found.covered (there_asks around a w.found.covered ++ Make (small.Listed (listed.Reverse n)) ∷ []) place (a ∷ []) w
