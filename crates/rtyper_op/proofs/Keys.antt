-- Keys of dicts that are constants, and their index.
use Rattle.std.proofs.Common.{◌≡◌, ◌<◌, ◌≤◌, ℕ, suc, ◌+◌, ◌-◌, ◌*◌, List, map, ℤ, sym, ap, ◌∙◌, arith}
use Rattle.std.specs.Prelude.{nat_le, if◌then◌else◌}
use Rattle.ll_code.specs.declared.program.LlType.{LlType}
use Rattle.rpy_tree.specs.declared.program.Const.{Const, fold-roll-Const}
use Rattle.rpy_tree.specs.declared.program.Const.TheVariants as const
use Rattle.rpy_tree.specs.declared.program.Const.TheOpen.{Const-F}
use Rattle.rtyper_layout.specs.declared.layout.Layout.{Layout}
use Rattle.rtyper_layout.specs.Types.{word}
use Rattle.rtyper_op.specs.Mapped.{hash_of, hash_of_tuple, hash_step, size_from, enter_from, enter_next}

pub tuple_is : (layout : Layout) (parts : List Const) (kind : LlType) → hash_of layout (const.Tuple parts) kind ≡ hash_of_tuple layout (map (hash_of layout) parts) kind
tuple_is layout parts kind =
    ap (λ c. hash_of layout c kind) (sym (const.rolls-Tuple parts)) ∙ ap (λ f. f kind) (fold-roll-Const (LlType → ℤ) (hash_step layout) (Const-F.Tuple parts))

pub next_size : (n turn size least : ℕ) → turn < n → size_from (n - turn) size least ≡ (if nat_le least size then size else size_from (n - (turn + 1)) (word (size * 2)) least)
unfolding size_from
next_size n turn size least h = let k : n - turn ≡ suc (n - (turn + 1)) = omega (arith, h) in ap (λ k. size_from k size least) k

pub last_size : (n turn size least : ℕ) → n ≤ turn → size_from (n - turn) size least ≡ size
unfolding size_from
last_size n turn size least h = let k : n - turn ≡ 0 = omega (arith, h) in ap (λ k. size_from k size least) k

pub next_place : (n turn at : ℕ) (w : ℤ) (words : List ℤ) → turn < n → enter_from (n - turn) at w words ≡ enter_next (n - (turn + 1)) at w words
next_place n turn at w words h = let k : n - turn ≡ suc (n - (turn + 1)) = omega (arith, h) in ap (λ k. enter_from k at w words) k
