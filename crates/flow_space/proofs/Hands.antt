-- The hands of a clause, before others.
use Rattle.std.proofs.Common.{◌≡◌, ℕ, List, [], ◌∷◌, ◌++◌, map, Option, refl, ap}
use Rattle.flow_stands.specs.Places as places
use Rattle.flow_stands.specs.Stands as stands
use Rattle.flow_space.specs.declared.code.Aim.{Aim}
use Rattle.flow_space.specs.declared.code.Hand.{Hand}
use Rattle.flow_space.specs.Placed.{aim_of, hand_of, hands_of}

abbrev pub hand_for : Option ℕ → Aim → ℕ → Hand
hand_for local aim class = record { class = class; local = local; aim = aim }

pub hands_are : (local : Option ℕ) (aim : Aim) (classes : List ℕ) (others : List Hand) → hands_of (map (hand_for local aim) classes ++ others) ≡ stands.hands_of local (aim_of aim) classes (hands_of others)
hands_are local aim [] others = refl
hands_are local aim (class ∷ classes) others = ap (λ (l : List places.Hand). hand_of (hand_for local aim class) ∷ l) (hands_are local aim classes others)
