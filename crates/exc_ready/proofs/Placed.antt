-- What holds of each rest of a block holds of what is left to do.
use Rattle.std.proofs.Common.{◌≡◌, ℕ, zero, suc, List, [], ◌∷◌, drop, Option, Some, None, refl, subst}
use Rattle.std.specs.Prelude.{slice_get}
use Rattle.ll_code.specs.Machine.{block_in}
use Rattle.ll_code.specs.declared.program.LlOp.{LlOp}
use Rattle.ll_code.specs.declared.program.LlExit.{LlExit}
use Rattle.ll_code.specs.declared.program.LlBlock.{LlBlock}
use Rattle.ll_code.specs.declared.program.LlGraph.{LlGraph}
use Rattle.ll_code.specs.declared.program.LlProgram.{LlProgram}
use Rattle.ll_held.specs.Places.{PlacedAt}

-- a block of a graph of the program
pub record BlockOf (p : LlProgram) (f n : ℕ) (block : LlBlock) : Type 0 where
  pub graph : LlGraph
  pub of : slice_get p.graphs f ≡ Some graph
  pub at : slice_get graph.blocks n ≡ Some block

pub block_of : (p : LlProgram) (f n : ℕ) (block : LlBlock) → block_in (slice_get p.graphs f) n ≡ Some block → BlockOf p f n block
block_of p f n block e = one (slice_get p.graphs f) refl e
  where
    one : (o : Option LlGraph) → slice_get p.graphs f ≡ o → block_in o n ≡ Some block → BlockOf p f n block
    one None is e = absurd (cc)
    one (Some graph) is e = record { graph = graph; of = is; at = e }

-- what goes over to the rest behind an operation goes over to each rest
pub dropped : {P : List LlOp → Type 0} → ((o : LlOp) (ops : List LlOp) → P (o ∷ ops) → P ops) → (n : ℕ) (ops : List LlOp) → P ops → P (drop n ops)
dropped next zero [] h = h
dropped next zero (o ∷ ops) h = h
dropped next (suc n) [] h = h
dropped {P = P} next (suc n) (o ∷ ops) h = dropped {P = P} next n ops (next o ops h)

pub placed_holds : (p : LlProgram) (P : List LlOp → LlExit → Type 0) → ((e : LlExit) (o : LlOp) (ops : List LlOp) → P (o ∷ ops) e → P ops e) → (f n place : ℕ) (ops : List LlOp) (e : LlExit)
    → ((graph : LlGraph) (block : LlBlock) → slice_get p.graphs f ≡ Some graph → slice_get graph.blocks n ≡ Some block → P block.ops block.exit) → PlacedAt p f n place ops e → P ops e
placed_holds p P next f n place ops e each h =
    let b : BlockOf p f n h.block = block_of p f n h.block h.of in
    subst (λ ops. P ops e) h.left (subst (λ e. P (drop place h.block.ops) e) h.end (dropped {P = λ ops. P ops h.block.exit} (next h.block.exit) place h.block.ops (each b.graph h.block b.of b.at)))
