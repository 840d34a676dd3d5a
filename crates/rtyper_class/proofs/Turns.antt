-- One more turn of a walk along bases.
use Rattle.std.proofs.Common.{◌≡◌, ◌<◌, ℕ, suc, ◌-◌, ◌+◌, List, ap, arith, slice_get}
use Rattle.csub_tree.specs.declared.tree.CCell.{CCell}
use Rattle.ll_code.specs.declared.program.LlStruct.{LlStruct}
use Rattle.rpy_tree.specs.declared.program.ClassInfo.{ClassInfo}
use Rattle.class_desc.specs.declared.classes.Initial.{Initial}
use Rattle.class_desc.specs.Line.{base}
use Rattle.rtyper_layout.specs.Families.{top_step}
use Rattle.rtyper_data.specs.Seen.{Writing}
use Rattle.rtyper_class.specs.Instances.{base_in, root_within, starts_next, starts_within}
use Rattle.rtyper_class.specs.Seen.{World, laid}
use Rattle.rtyper_class.specs.Vtables.{wrap_next, wrapped}

pub next_wrapped : (classes : List ClassInfo) (n turn class : ℕ) (cells : List CCell) → turn < n → wrapped classes (n - turn) class cells ≡ wrap_next (wrapped classes (n - (turn + 1))) (base classes class) cells
next_wrapped classes n turn class cells h = let k : n - turn ≡ suc (n - (turn + 1)) = omega (arith, h) in ap (λ k. wrapped classes k class cells) k

pub next_root : (structs : List LlStruct) (n turn at : ℕ) → turn < n → root_within structs (n - turn) at ≡ top_step (root_within structs (n - (turn + 1))) at (base_in (slice_get structs at))
next_root structs n turn at h = let k : n - turn ≡ suc (n - (turn + 1)) = omega (arith, h) in ap (λ k. root_within structs k at) k

pub next_starts : (world : World) (initials : List Initial) (n turn class : ℕ) (w : Writing) → turn < n
    → starts_within world initials (n - turn) class w ≡ starts_next (starts_within world initials (n - (turn + 1))) world initials class (laid world class) w
next_starts world initials n turn class w h = let k : n - turn ≡ suc (n - (turn + 1)) = omega (arith, h) in ap (λ k. starts_within world initials k class w) k
