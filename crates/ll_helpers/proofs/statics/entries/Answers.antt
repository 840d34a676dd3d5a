use Rattle.std.proofs.Common.{◌≡◌, ℕ, suc, ◌+◌, [], ◌∷◌, ◌++◌, ap, arith}
use Rattle.std.proofs.lemmas.Grind.{common_steps}
use Rattle.csub_tree.specs.declared.tree.CConst.TheVariants.{Static}
use Rattle.csub_tree.specs.declared.tree.CCell.TheVariants.{Const}
use Rattle.ll_helpers.specs.Statics.{entries}
use Rattle.ll_helpers.proofs.statics.entries.Goals as goal

next : (n : ℕ) → entries (n + 1) ≡ entries n ++ Const (Static 0 (n + 1)) ∷ []
unfolding entries
next n = let e : n + 1 ≡ suc n = omega arith in ap entries e

pub loop-byte-init : goal.loop-byte-init
unfolding entries
loop-byte-init c = grind (arith, common_steps)

pub loop-byte-preserved : goal.loop-byte-preserved
loop-byte-preserved c = grind (arith, common_steps, next)
