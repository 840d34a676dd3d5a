-- The last of a list is taken, turn by turn.
use Rattle.std.proofs.Common.{◌≡◌, ℕ, suc, ◌<◌, List, [], ◌∷◌, ◌++◌, ◌+◌, ◌-◌, length, take, Option, Some, None, arith, refl, ap, length-append}
use Rattle.std.specs.Prelude.{slice_get}
use Rattle.std.proofs.lemmas.Grind.{common_steps}
use Rattle.rpy_tree.specs.declared.program.Const.{Const}
use Rattle.names_value.specs.Slots.{last_slot, without_last, or_no_slot, taken_onto, values_onto, with_value, without}
use Rattle.names_value.specs.declared.slots.Slot.{Slot}

pub last_taken : (xs : List Slot) (x : Slot) → take (length (xs ++ x ∷ []) - 1) (xs ++ x ∷ []) ≡ xs
last_taken xs x = grind (arith, common_steps)

at_end : (xs : List Slot) (x : Slot) → slice_get (xs ++ x ∷ []) (length xs) ≡ Some x
at_end [] x = refl
at_end (y ∷ ys) x = at_end ys x

pub last_is : (xs : List Slot) (x : Slot) → slice_get (xs ++ x ∷ []) (length (xs ++ x ∷ []) - 1) ≡ Some x
last_is xs x = let e : length (xs ++ x ∷ []) - 1 ≡ length xs = omega (arith, length-append xs (x ∷ [])) in rw e (at_end xs x)

pub taken_turn : (n i : ℕ) (done slots : List Slot) → i < n → taken_onto (n - i) done slots ≡ taken_onto (n - (i + 1)) (done ++ last_slot slots ∷ []) (without_last slots)
taken_turn n i done slots lt = let e : n - i ≡ suc (n - (i + 1)) = omega arith in rw e refl

pub without_turn : (n i : ℕ) (slots : List Slot) → i < n → without (n - i) slots ≡ without (n - (i + 1)) (without_last slots)
without_turn n i slots lt = let e : n - i ≡ suc (n - (i + 1)) = omega arith in rw e refl

pub values_turn : (n i : ℕ) (taken : List Slot) (values : Option (List Const)) → i < n → values_onto (n - i) taken values ≡ values_onto (n - (i + 1)) (without_last taken) (with_value values (last_slot taken).value)
values_turn n i taken values lt = let e : n - i ≡ suc (n - (i + 1)) = omega arith in rw e refl
