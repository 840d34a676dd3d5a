-- Statics after one was written, and lists of types.
use Rattle.std.proofs.Common.{◌≡◌, ℕ, zero, suc, ◌<◌, ◌≤◌, List, [], ◌∷◌, length, map, get_or, set, refl, ap, arith}
use Rattle.csub_tree.specs.State.{Block}
use Rattle.csub_runner.specs.Erased.{erase_cells}
use Rattle.csub_runner.specs.Heap.{at_static}
use Rattle.csub_runner.specs.declared.val.Cells.{Cells}

pub static_is : (f : Block → Block) (statics : List Cells) (n : ℕ) (d now : Cells) → n < length statics → erase_cells now ≡ f (erase_cells (get_or statics n d))
    → map erase_cells (set statics n now) ≡ at_static f n (map erase_cells statics)
static_is f [] n d now lt is = absurd (omega (arith, lt))
static_is f (s ∷ statics) zero d now lt is = ap (λ b. b ∷ map erase_cells statics) is
static_is f (s ∷ statics) (suc n) d now lt is = ap (λ bs. erase_cells s ∷ bs) (static_is f statics n d now (omega (arith, lt)) is)

pub static_none : (f : Block → Block) (statics : List Cells) (n : ℕ) → length statics ≤ n → map erase_cells statics ≡ at_static f n (map erase_cells statics)
static_none f [] n le = refl
static_none f (s ∷ statics) zero le = absurd (omega (arith, le))
static_none f (s ∷ statics) (suc n) le = ap (λ bs. erase_cells s ∷ bs) (static_none f statics n (omega (arith, le)))
