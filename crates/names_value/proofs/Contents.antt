-- One more turn of the parts of a display.
use Rattle.std.proofs.Common.{◌≡◌, ℕ, suc, ◌<◌, List, ◌+◌, ◌-◌, Option, arith, refl}
use Rattle.names_value.specs.Machine.{Pairs, items_onto, with_item, pairs_onto, with_pair}
use Rattle.names_value.specs.Slots.{last_slot, without_last}
use Rattle.names_value.specs.declared.slots.Slot.{Slot}

pub items_turn : (n i : ℕ) (taken : List Slot) (pairs : Option Pairs) → i < n → items_onto (n - i) taken pairs ≡ items_onto (n - (i + 1)) (without_last taken) (with_item pairs (last_slot taken).value)
items_turn n i taken pairs lt = let e : n - i ≡ suc (n - (i + 1)) = omega arith in rw e refl

pub pairs_turn : (n i : ℕ) (taken : List Slot) (pairs : Option Pairs) → i < n → pairs_onto (n - i) taken pairs ≡ pairs_onto (n - (i + 1)) (without_last (without_last taken)) (with_pair pairs (last_slot taken).value (last_slot (without_last taken)).value)
pairs_turn n i taken pairs lt = let e : n - i ≡ suc (n - (i + 1)) = omega arith in rw e refl
