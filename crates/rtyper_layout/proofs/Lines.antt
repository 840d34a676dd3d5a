-- The line of bases above a class.
use Rattle.std.proofs.Common.{◌≡◌, ◌<◌, ℕ, suc, ◌+◌, ◌-◌, List, ap, arith}
use Rattle.rpy_tree.specs.declared.program.ClassInfo.{ClassInfo}
use Rattle.class_desc.specs.Line.{base}
use Rattle.rtyper_layout.specs.Families.{top_step, top_within}

pub next_top : (classes : List ClassInfo) (n seen class : ℕ) → seen < n → top_within classes (n - seen) class ≡ top_step (top_within classes (n - (seen + 1))) class (base classes class)
next_top classes n seen class h = let k : n - seen ≡ suc (n - (seen + 1)) = omega (arith, h) in ap (λ k. top_within classes k class) k
