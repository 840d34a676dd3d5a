-- Rows: two blocks are made and the first goes; and what is in no order.
use Rattle.std.proofs.Common.{◌≡◌, List, [], ◌∷◌, Some, None, refl, arith}
use Rattle.csub_tree.specs.State.{Event, Made, Freed}
use Rattle.csub_tree.specs.Meaning.{made_in, gone_in}
use Rattle.ll_events.specs.Told.{told, InOrder}

abbrev two : List Event
two = Made 0 3 5 ∷ Made 1 4 2 ∷ Freed 0 ∷ []

pub two_in_order : InOrder [] two
two_in_order = (refl, (refl, (((3, 5), refl), tt)))

pub two_leave_one : told [] two ≡ None ∷ Some (4, 2) ∷ []
two_leave_one = refl

pub two_made : made_in two ≡ (0, 3, 5) ∷ (1, 4, 2) ∷ []
two_made = refl

pub two_gone : gone_in two ≡ 0 ∷ []
two_gone = refl

-- a block goes once
pub none_goes_twice : InOrder [] (Made 0 3 5 ∷ Freed 0 ∷ Freed 0 ∷ []) → ⊥
none_goes_twice h = let e : None ≡ Some h.1.1.0.0 = h.1.1.0.1 in absurd (cc)

-- and not before it is made
pub none_goes_early : InOrder [] (Freed 0 ∷ Made 0 3 5 ∷ []) → ⊥
none_goes_early h = let e : None ≡ Some h.0.0 = h.0.1 in absurd (cc)

-- no number is left out
pub none_is_left_out : InOrder [] (Made 1 3 5 ∷ []) → ⊥
none_is_left_out h = let e : 1 ≡ 0 = h.0 in (omega (arith, e))
