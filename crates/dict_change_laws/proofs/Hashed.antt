-- Keys whose hashes the graph for them gives.
use Rattle.std.specs.Prelude.{◌≡◌, ℕ, ℤ, false, List, [], ◌∷◌, Option}
use Rattle.csub_tree.specs.State.{Value, Word, Block, Core}
use Rattle.csub_tree.specs.Operation.{is_unset}
use Rattle.ll_code.specs.State.{Frame, Calling}
use Rattle.ll_code.specs.declared.program.LlProgram.{LlProgram}
use Rattle.ll_leads.proofs.Ways.{Comes}

-- a call of the graph with the key gives the hash, over such memory
abbrev pub HashIs : LlProgram → List (List ℕ) → (List (Option Block) → List Block → Type 0) → ℕ → Value → ℤ → Type 0
HashIs p args Fine h x z = (core : Core) (waits : List Frame) → Fine core.blocks core.statics → Comes p args (Calling h (x ∷ []) waits core) [] (Word z) waits core

pub data AllHashed (p : LlProgram) (args : List (List ℕ)) (Fine : List (Option Block) → List Block → Type 0) (h : ℕ) : List Value → List ℤ → Type 0 where
  None : AllHashed p args Fine h [] []
  More : {x : Value} {xs : List Value} {z : ℤ} {zs : List ℤ} → HashIs p args Fine h x z → is_unset x ≡ false → AllHashed p args Fine h xs zs → AllHashed p args Fine h (x ∷ xs) (z ∷ zs)
