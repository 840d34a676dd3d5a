-- What a watcher has seen is what stands in the heap.
use Rattle.std.specs.Prelude.{◌≡◌, ℕ, ◌+◌, List, [], ◌∷◌, length, map, Option, Some, None, IfSome}
use Rattle.rpy_base.specs.Watching.{Seen, Block}

-- the numbers of the allocated blocks, the first place being i
abbrev pub numbers_from : {X : Type 0} → ℕ → List (Option X) → List ℕ
numbers_from i [] = []
numbers_from i (None ∷ blocks) = numbers_from (i + 1) blocks
numbers_from i (Some cells ∷ blocks) = i ∷ numbers_from (i + 1) blocks

-- how many are gone
abbrev pub gone_among : {X : Type 0} → List (Option X) → ℕ
gone_among [] = 0
gone_among (None ∷ blocks) = gone_among blocks + 1
gone_among (Some cells ∷ blocks) = gone_among blocks

abbrev pub number_of : Block → ℕ
number_of block = block.0

pub record Synced {X : Type 0} (blocks : List (Option X)) (seen : Seen) : Type 0 where
  pub made : seen.made ≡ length blocks
  pub gone : seen.gone ≡ gone_among blocks
  pub live : IfSome seen.live (λ live. map number_of live ≡ numbers_from 0 blocks)
