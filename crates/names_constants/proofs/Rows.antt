-- Worked rows of nodes of constant expressions, which compute.
use Rattle.std.proofs.Common.{◌≡◌, ℕ, codes, List, [], ◌∷◌, Bool, true, false, Option, Some, None, refl}
use Rattle.std.specs.Prelude.{pos}
use Rattle.rpy_tree.specs.declared.program.Builtin.TheVariants as builtin
use Rattle.rpy_tree.specs.declared.program.Const.{Const}
use Rattle.rpy_tree.specs.declared.program.Const.TheVariants as const
use Rattle.names_bound.specs.declared.fault.FaultKind.TheVariants as fault
use Rattle.names_bound.specs.declared.stand.Stand.TheVariants as stand
use Rattle.names_found.specs.Part.{no_part}
use Rattle.names_found.specs.declared.part.Part.{Part}
use Rattle.names_rules.specs.Order.{Item, Str, Name, Tuple, List_of, Dict, For}
use Rattle.names_constants.specs.Stands.{is_maker}
use Rattle.names_constants.specs.Value.{Piece, of_called, argument_faults, value, made, sites}

abbrev one : Const
one = const.Word (pos 1)

abbrev two : Const
two = const.Word (pos 2)

abbrev piece : ℕ → Option Const → Piece
piece n v = record { part = no_part; node = n; value = v }

-- a name stands for constant 0, which is bound only later or not
abbrev stands : Bool → List ℕ → Part
stands late name = record { stand = stand.Constant 0; late = late; makes = false }

abbrev dotted : Part → List ℕ → Part
dotted p name = no_part

abbrev read : Bool → Bool → Item → ℕ → List Piece → Option Const
read whole late i site ps = value (stands late) (stands late) dotted whole (Some one ∷ []) i site ps

-- [1, 2] is the list of its site, which has the two
list_is : read true false (List_of 2) 7 (piece 0 (Some one) ∷ piece 1 (Some two) ∷ []) ≡ Some (const.List 7)
list_is = refl

list_has : made (stands false) (stands false) dotted true [] (List_of 2) 7 (piece 0 (Some one) ∷ piece 1 (Some two) ∷ []) ≡ record { site = 7; pairs = (const.None, one) ∷ (const.None, two) ∷ [] } ∷ []
list_has = refl

-- {1: 2}
dict_has : made (stands false) (stands false) dotted true [] (Dict 1) 4 (piece 0 (Some one) ∷ piece 1 (Some two) ∷ []) ≡ record { site = 4; pairs = (one, two) ∷ [] } ∷ []
dict_has = refl

-- a tuple with a part that has no value has none
tuple_without : read true false (Tuple 2) 0 (piece 0 (Some one) ∷ piece 1 None ∷ []) ≡ None
tuple_without = refl

-- a constant's name has its value, unless it is bound only later
name_has : read true false (Name (codes "X")) 0 [] ≡ Some one
name_has = refl

later_has_none : read true true (Name (codes "X")) 0 [] ≡ None
later_has_none = refl

-- in a body a string is no word
text_in_a_body : read false false (Str (codes "a")) 0 [] ≡ None
text_in_a_body = refl

-- range(1, 2, f()) is at fault at its third argument; range(1, f()) is not
step_without_a_value : argument_faults (of_called (stand.Builtin builtin.Range) (piece 4 (Some one) ∷ piece 5 (Some two) ∷ piece 7 None ∷ [])) ≡ record { node = 7; kind = fault.BadConstant } ∷ []
step_without_a_value = refl

no_step : argument_faults (of_called (stand.Builtin builtin.Range) (piece 4 (Some one) ∷ piece 6 None ∷ [])) ≡ []
no_step = refl

-- os.write(f(), s)
write_to_no_constant : argument_faults (of_called (stand.Builtin builtin.OsWrite) (piece 3 None ∷ piece 5 None ∷ [])) ≡ record { node = 3; kind = fault.BadConstant } ∷ []
write_to_no_constant = refl

-- the walk of a loop has a site
walk_has_a_site : sites (stands false) (stands false) dotted false [] For 9 (piece 7 None ∷ piece 8 None ∷ []) ≡ record { node = 9; dict = false } ∷ []
walk_has_a_site = refl

-- x.split(y) makes a list, x.strip() does not
split_makes : is_maker (codes "split") ≡ true
split_makes = refl

strip_makes_none : is_maker (codes "strip") ≡ false
strip_makes_none = refl
