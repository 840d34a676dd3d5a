-- The values of the parts of an expression that wait for what takes them.
use Rattle.std.specs.Prelude.{ℕ, zero, suc, ◌-◌, List, [], ◌∷◌, ◌++◌, length, take, slice_get, Option, Some, None}
use Rattle.rpy_tree.specs.declared.program.Const.{Const}
use Rattle.names_value.specs.declared.slots.Slot.{Slot}

abbrev pub no_slot : Slot
no_slot = record { node = 0; value = None }

abbrev pub or_no_slot : Option Slot → Slot
or_no_slot None = no_slot
or_no_slot (Some s) = s

abbrev pub last_slot : List Slot → Slot
last_slot slots = or_no_slot (slice_get slots (length slots - 1))

abbrev pub without_last : List Slot → List Slot
without_last slots = take (length slots - 1) slots

-- so many parts, the last one first, after those
abbrev pub taken_onto : ℕ → List Slot → List Slot → List Slot × List Slot
taken_onto zero done slots = (done, slots)
taken_onto (suc n) done slots = taken_onto n (done ++ last_slot slots ∷ []) (without_last slots)

abbrev pub take_slots : ℕ → List Slot → List Slot × List Slot
take_slots n slots = taken_onto n [] slots

abbrev pub with_value : Option (List Const) → Option Const → Option (List Const)
with_value None value = None
with_value (Some values) None = None
with_value (Some values) (Some v) = Some (values ++ v ∷ [])

-- the values of parts that were taken last one first, where each has one
abbrev pub values_onto : ℕ → List Slot → Option (List Const) → Option (List Const)
values_onto zero taken values = values
values_onto (suc n) taken values = values_onto n (without_last taken) (with_value values (last_slot taken).value)

abbrev pub values_of : List Slot → Option (List Const)
values_of taken = values_onto (length taken) taken (Some [])

-- parts are dropped
abbrev pub without : ℕ → List Slot → List Slot
without zero slots = slots
without (suc n) slots = without n (without_last slots)
