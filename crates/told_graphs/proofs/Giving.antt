-- Graphs with a result give something.
use Rattle.std.proofs.Common.{◌≡◌, ℕ, zero, suc, Bool, true, false, ◌&&◌, List, [], ◌∷◌, ◌++◌, Some, None, refl, subst}
use Rattle.std.specs.Prelude.{slice_get}
use Rattle.ll_code.specs.declared.program.LlType.{LlType}
use Rattle.ll_code.specs.declared.program.LlType.TheVariants as type
use Rattle.ll_code.specs.declared.program.LlExit.{LlExit}
use Rattle.ll_code.specs.declared.program.LlExit.TheVariants as exit
use Rattle.ll_code.specs.declared.program.LlBlock.{LlBlock}
use Rattle.ll_code.specs.declared.program.LlGraph.{LlGraph}
use Rattle.ll_code.specs.declared.program.LlProgram.{LlProgram}
use Rattle.ll_laws.proofs.Values.{and_left, and_right}
use Rattle.told_laws.specs.Tests.{AlwaysGive, GivesSomething}

abbrev pub is_void : LlType → Bool
is_void type.Void = true
is_void other = false

-- the exit of a graph with this result
abbrev pub gives : LlType → LlExit → Bool
gives result (exit.Return None) = is_void result
gives result other = true

abbrev pub all_give : LlType → List LlBlock → Bool
all_give result [] = true
all_give result (b ∷ bs) = gives result b.exit && all_give result bs

abbrev pub graph_gives : LlGraph → Bool
graph_gives g = all_give g.result g.blocks

abbrev pub AllGive : List LlGraph → Type 0
AllGive [] = Unit {0}
AllGive (g ∷ gs) = (graph_gives g ≡ true) × AllGive gs

pub both : (a b : Bool) → a ≡ true → b ≡ true → (a && b) ≡ true
both true b h k = k
both false b h k = h

pub both_give : (result : LlType) (bs cs : List LlBlock) → all_give result bs ≡ true → all_give result cs ≡ true → all_give result (bs ++ cs) ≡ true
both_give result [] cs h k = k
both_give result (b ∷ bs) cs h k = both (gives result b.exit) (all_give result (bs ++ cs)) (and_left _ _ h) (both_give result bs cs (and_right _ _ h) k)

pub one_more : (gs : List LlGraph) (g : LlGraph) → AllGive gs → graph_gives g ≡ true → AllGive (gs ++ g ∷ [])
one_more [] g h k = (k, tt)
one_more (f ∷ gs) g (h, hs) k = (h, one_more gs g hs k)

-- ---- what that says of a program

void_is : (t : LlType) → is_void t ≡ true → t ≡ type.Void
void_is type.Void h = refl
void_is _ h = absurd (cc)

something : (result : LlType) (e : LlExit) → (result ≡ type.Void → ⊥) → gives result e ≡ true → GivesSomething e
something result (exit.Return None) n h = n (void_is result h)
something result (exit.Return (Some x)) n h = tt
something result (exit.Goto link) n h = tt
something result (exit.If a there elsewhere) n h = tt
something result (exit.OnRaise v by next) n h = tt
something result (exit.Raise v) n h = tt
something result (exit.Fail k) n h = tt
something result (exit.Raised v) n h = tt

block_gives : (result : LlType) (bs : List LlBlock) → (result ≡ type.Void → ⊥) → all_give result bs ≡ true → (n : ℕ) (b : LlBlock) → slice_get bs n ≡ Some b → GivesSomething b.exit
block_gives result [] v h n b e = absurd (cc)
block_gives result (c ∷ bs) v h zero b e = (let q : c ≡ b = cc in subst (λ (b : LlBlock). GivesSomething b.exit) q (something result c.exit v (and_left _ _ h)))
block_gives result (c ∷ bs) v h (suc n) b e = block_gives result bs v (and_right _ _ h) n b e

graph_in : (gs : List LlGraph) → AllGive gs → (g : ℕ) (graph : LlGraph) → slice_get gs g ≡ Some graph → graph_gives graph ≡ true
graph_in [] a g graph e = absurd (cc)
graph_in (h ∷ gs) (a, rest) zero graph e = (let q : h ≡ graph = cc in subst (λ (x : LlGraph). graph_gives x ≡ true) q a)
graph_in (h ∷ gs) (a, rest) (suc g) graph e = graph_in gs rest g graph e

pub always_give : (p : LlProgram) → AllGive p.graphs → AlwaysGive p
always_give p all g graph e v n b f = block_gives graph.result graph.blocks v (graph_in p.graphs all g graph e) n b f
