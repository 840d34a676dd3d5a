use Rattle.std.proofs.Common.{◌≡◌, ℕ, ◌+◌, [], ◌∷◌, ◌++◌, add-one, arith, refl}
use Rattle.std.proofs.lemmas.Grind.{common_steps}
use Rattle.ll_helpers.specs.Statics.{singles, text}
use Rattle.ll_helpers.proofs.statics.push_singles.Goals as goal

next : (n : ℕ) → singles (n + 1) ≡ singles n ++ text (n ∷ []) ∷ []
unfolding singles
next n = rw add-one refl

pub loop-byte-init : goal.loop-byte-init
unfolding singles
loop-byte-init c = grind (arith, common_steps)

pub loop-byte-preserved : goal.loop-byte-preserved
loop-byte-preserved c = grind (arith, common_steps, next)
