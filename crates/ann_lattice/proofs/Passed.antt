-- Classes, one after the other.
use Rattle.std.proofs.Common.{◌≡◌, ℕ, suc, ◌+◌, ◌-◌, ◌<◌, Bool, true, false, List, refl, sym, ap, ◌∙◌, arith}
use Rattle.std.specs.Prelude.{◌||◌}
use Rattle.rpy_tree.specs.declared.program.ClassInfo.{ClassInfo}
use Rattle.ann_lattice.specs.Methods.{has_method, some_method}

pub passed : (k : List ClassInfo) (name : List ℕ) (c n : ℕ) → c < n → has_method k name c ≡ false → some_method k name (c + 1) (n - (c + 1)) ≡ some_method k name c (n - c)
passed k name c n lt h =
    let e : n - c ≡ suc (n - (c + 1)) = omega (arith, lt) in
    let next : c + 1 ≡ suc c = omega arith in
    ap (λ d. some_method k name d (n - (c + 1))) next ∙ sym (ap (some_method k name c) e ∙ ap (λ b. b || some_method k name (suc c) (n - (c + 1))) h)
