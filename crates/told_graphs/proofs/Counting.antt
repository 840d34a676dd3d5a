-- Graphs that have few blocks.
use Rattle.std.proofs.Common.{◌≡◌, ◌<◌, ◌^◌, ℕ, zero, suc, Bool, true, List, [], ◌∷◌, ◌++◌, length, slice_get, Some, subst, arith}
use Rattle.std.specs.Prelude.{nat_lt}
use Rattle.ll_code.specs.declared.program.LlGraph.{LlGraph}
use Rattle.ll_laws.proofs.Values.{is_less}

-- as helpers and small graphs have
abbrev pub is_small : LlGraph → Bool
is_small g = nat_lt (length g.blocks) 64

abbrev pub AllSmall : List LlGraph → Type 0
AllSmall [] = Unit {0}
AllSmall (g ∷ gs) = (is_small g ≡ true) × AllSmall gs

abbrev pub AllFew : List LlGraph → Type 0
AllFew [] = Unit {0}
AllFew (g ∷ gs) = (length g.blocks < 2 ^ 64) × AllFew gs

pub small_is_few : (g : LlGraph) → is_small g ≡ true → length g.blocks < 2 ^ 64
small_is_few g h = (let k : length g.blocks < 64 = is_less (length g.blocks) 64 h in omega (arith, k))

pub small_are_few : (gs : List LlGraph) → AllSmall gs → AllFew gs
small_are_few [] h = tt
small_are_few (g ∷ gs) (h, hs) = (small_is_few g h, small_are_few gs hs)

pub one_more : (gs : List LlGraph) (g : LlGraph) → AllFew gs → length g.blocks < 2 ^ 64 → AllFew (gs ++ g ∷ [])
one_more [] g h k = (k, tt)
one_more (f ∷ gs) g (h, hs) k = (h, one_more gs g hs k)

pub few_in : (gs : List LlGraph) → AllFew gs → (n : ℕ) (g : LlGraph) → slice_get gs n ≡ Some g → length g.blocks < 2 ^ 64
few_in [] h n g e = absurd (cc)
few_in (f ∷ gs) (h, hs) zero g e = (let q : f ≡ g = cc in subst (λ (x : LlGraph). length x.blocks < 2 ^ 64) q h)
few_in (f ∷ gs) (h, hs) (suc n) g e = few_in gs hs n g e
