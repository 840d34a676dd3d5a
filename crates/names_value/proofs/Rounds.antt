-- One more round.
use Rattle.std.proofs.Common.{◌≡◌, ℕ, suc, ◌<◌, List, ◌+◌, ◌-◌, cond, arith, refl}
use Rattle.names_bound.specs.declared.declare.ConstantAt.{ConstantAt}
use Rattle.names_found.specs.declared.unit.Found.{Found}
use Rattle.names_value.specs.Constants.{rounds, pass}
use Rattle.names_value.specs.declared.constants.Values.{Values}

pub rounds_turn : (names : List (List ℕ)) (found : List Found) (cs : List ConstantAt) (n i : ℕ) (v : Values) → i < n → rounds names found cs (n - i) v ≡ cond v.changed (rounds names found cs (n - (i + 1)) (pass names found cs v)) v
rounds_turn names found cs n i v lt = let e : n - i ≡ suc (n - (i + 1)) = omega arith in rw e refl
