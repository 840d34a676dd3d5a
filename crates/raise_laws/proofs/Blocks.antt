-- The blocks of a graph that raises, and the program that has the graph that fails.
use Rattle.std.proofs.Common.{◌≡◌, ◌≢◌, ℕ, zero, suc, List, [], ◌∷◌, ◌++◌, Option, Some, None, refl, sym, ap, subst}
use Rattle.std.specs.Prelude.{slice_get, slice_set}
use Rattle.csub_tree.specs.State.{Value}
use Rattle.ll_code.specs.declared.program.LlOp.{LlOp}
use Rattle.ll_code.specs.declared.program.LlOp.TheVariants as op
use Rattle.ll_code.specs.declared.program.LlExit.{LlExit}
use Rattle.ll_code.specs.declared.program.LlBlock.{LlBlock}
use Rattle.ll_code.specs.declared.program.LlProgram.{LlProgram}
use Rattle.rpy_meaning.specs.declared.row.Covers.{Covers}
use Rattle.rtyper_data.specs.declared.found.Found.{Found}
use Rattle.rtyper_raising.specs.Raising.{failing_with, raising_block, raising_blocks, raised_in, with_block, with_class}
use Rattle.lower_laws.specs.Asked.{AllRaise, Raises}

pub get_same : {A : Type 0} (xs : List A) (i : ℕ) (x y : A) → slice_get xs i ≡ Some x → slice_get (slice_set xs i y) i ≡ Some y
get_same [] i x y e = absurd (cc)
get_same (z ∷ xs) zero x y e = refl
get_same (z ∷ xs) (suc i) x y e = get_same xs i x y e

pub get_other : {A : Type 0} (xs : List A) (i j : ℕ) (y : A) → j ≢ i → slice_get (slice_set xs i y) j ≡ slice_get xs j
get_other [] i j y n = refl
get_other (z ∷ xs) zero zero y n = absurd (n refl)
get_other (z ∷ xs) zero (suc j) y n = refl
get_other (z ∷ xs) (suc i) zero y n = refl
get_other (z ∷ xs) (suc i) (suc j) y n = get_other xs i j y (λ e. n (ap suc e))

module _ (p : LlProgram) (raised : ℕ → Value) (covers : Covers) where
  -- what a block with this exit has more
  pub data Behind (e : LlExit) : List LlOp → Type 0 where
    Nothing : failing_with e covers ≡ None → Behind e []
    Throws : (n class : ℕ) → failing_with e covers ≡ Some class → Raises p n (raised class) → Behind e (op.Call None n [] ∷ [])

  pub record BlockAt (list : List LlBlock) (n : ℕ) (block : LlBlock) : Type 0 where
    pub extra : List LlOp
    pub behind : Behind block.exit extra
    pub at : slice_get list n ≡ Some (record block { ops = block.ops ++ extra })

  -- each block of the graph has its own
  pub block_at : (blocks : List LlBlock) (found : Found) → AllRaise p raised (raised_in covers blocks) found → (n : ℕ) (block : LlBlock) → slice_get blocks n ≡ Some block → BlockAt (raising_blocks covers blocks found).0 n block
  block_at [] found all n block e = absurd (cc)
  block_at (b ∷ blocks) found all n block e = by (failing_with b.exit covers) refl all (λ next more k h. block_at blocks next more k block h) n e
    where
      Rest : Type 0
      Rest = (next : Found) → AllRaise p raised (raised_in covers blocks) next → (k : ℕ) → slice_get blocks k ≡ Some block → BlockAt (raising_blocks covers blocks next).0 k block

      by : (o : Option ℕ) → failing_with b.exit covers ≡ o → AllRaise p raised (with_class o (raised_in covers blocks)) found → Rest → (n : ℕ) → slice_get (b ∷ blocks) n ≡ Some block
          → BlockAt (with_block (raising_block b o found) (λ next. raising_blocks covers blocks next)).0 n block
      by None h all rest zero e =
          let same : b ≡ block = cc in
          subst (λ (c : LlBlock). BlockAt (b ∷ (raising_blocks covers blocks found).0) 0 c) same (record { extra = []; behind = Nothing h; at = ap (λ ops. Some (record b { ops = ops })) (sym (nil b.ops)) })
        where
          nil : (ops : List LlOp) → ops ++ [] ≡ ops
          nil [] = refl
          nil (o ∷ ops) = ap (λ os. o ∷ os) (nil ops)
      by (Some class) h all rest zero e = (let same : b ≡ block = cc in subst (λ (c : LlBlock). BlockAt (with_block (raising_block b (Some class) found) (λ next. raising_blocks covers blocks next)).0 0 c) same (record { extra = _; behind = Throws _ class h all.0; at = refl }))
      by None h all rest (suc n) e = (let it = rest found all n e in record { extra = it.extra; behind = it.behind; at = it.at })
      by (Some class) h all rest (suc n) e = (let it = rest _ all.1 n e in record { extra = it.extra; behind = it.behind; at = it.at })

-- there are as many blocks
pub blocks_end : (covers : Covers) (blocks : List LlBlock) (found : Found) (n : ℕ) → slice_get blocks n ≡ None → slice_get (raising_blocks covers blocks found).0 n ≡ None
blocks_end covers [] found n e = refl
blocks_end covers (b ∷ blocks) found zero e = absurd (cc)
blocks_end covers (b ∷ blocks) found (suc n) e = blocks_end covers blocks (raising_block b (failing_with b.exit covers) found).1 n e
