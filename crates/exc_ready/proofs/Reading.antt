-- Each block of the explicit program reads its inputs alone.
use Rattle.std.proofs.Common.{◌≡◌, ℕ, zero, suc, Bool, true, false, ◌&&◌, ◌||◌, List, [], ◌∷◌, Some, refl, sym, ap, ◌∙◌, subst}
use Rattle.std.specs.Prelude.{slice_get, cond, not}
use Rattle.ll_code.specs.declared.program.LlOp.{LlOp}
use Rattle.ll_code.specs.declared.program.LlExit.{LlExit}
use Rattle.ll_code.specs.declared.program.LlExit.TheVariants as exit
use Rattle.ll_code.specs.declared.program.LlBlock.{LlBlock}
use Rattle.ll_code.specs.declared.program.LlGraph.{LlGraph}
use Rattle.ll_code.specs.declared.program.LlProgram.{LlProgram}
use Rattle.ll_laws.proofs.Values.{and_left, and_right}
use Rattle.ll_live.specs.Live.{among, reads, set_by, sets, exit_variables, exit_reads}
use Rattle.ll_live.specs.Live as live
use Rattle.ll_held.specs.Quiet.{ReadsInputs}
use Rattle.exc_transform.specs.Explicit.{are_calm, leaves_calmly, block_calm, blocks_calm, graphs_calm}
use Rattle.exc_transform.specs.Raising.{may_raise}
use Rattle.exc_transform.specs.Pieces.{graphs_of, explicit}
use Rattle.exc_laws.specs.Ready.{marks_of, any_of}
use Rattle.exc_laws.specs.Stands.{needs}
use Rattle.exc_laws.proofs.Lives.{needed_live, reads_needed, rest_needed, more_needed}
use Rattle.exc_laws.proofs.Roots.{explicit_reads}
use Rattle.exc_ready.specs.Raisable.{IsRaisable}
use Rattle.exc_ready.proofs.Passes.{closed}

calm_at : (graphs : List LlGraph) (f : ℕ) (g : LlGraph) → graphs_calm graphs ≡ true → slice_get graphs f ≡ Some g → blocks_calm g.blocks ≡ true
calm_at [] f g h e = absurd (cc)
calm_at (x ∷ graphs) zero g h e = let s : x ≡ g = cc in subst (λ (g : LlGraph). blocks_calm g.blocks ≡ true) s (and_left _ _ h)
calm_at (x ∷ graphs) (suc f) g h e = calm_at graphs f g (and_right (blocks_calm x.blocks) _ h) e

block_at : (blocks : List LlBlock) (n : ℕ) (b : LlBlock) → blocks_calm blocks ≡ true → slice_get blocks n ≡ Some b → block_calm b ≡ true
block_at [] n b h e = absurd (cc)
block_at (x ∷ blocks) zero b h e = let s : x ≡ b = cc in subst (λ b. block_calm b ≡ true) s (and_left _ _ h)
block_at (x ∷ blocks) (suc n) b h e = block_at blocks n b (and_right (block_calm x) _ h) e

-- where nothing is caught, what is live is needed
exit_needed : (e : LlExit) (v : ℕ) → leaves_calmly e ≡ true → exit_reads e v ≡ true → among v (exit_variables e) ≡ true
exit_needed (exit.OnRaise a by without) v c h = absurd (cc)
exit_needed (exit.Raise a) v c h = absurd (cc)
exit_needed other v c h = no_more _ h
  where
    no_more : (b : Bool) → (b || false) ≡ true → b ≡ true
    no_more true h = refl
    no_more false h = absurd (cc)

module _ (p : LlProgram) where
  live_needed : (ops : List LlOp) (e : LlExit) (v : ℕ) → leaves_calmly e ≡ true → live.live ops e v ≡ true → needs p false ops e v ≡ true
  live_needed [] e v c h = exit_needed e v c h
  live_needed (o ∷ ops) e v c h = by (live_needed ops e v c) (among v (reads o)) refl (sets (set_by o) v) refl h
    where
      by : (live.live ops e v ≡ true → needs p false ops e v ≡ true) → (a : Bool) → among v (reads o) ≡ a → (b : Bool) → sets (set_by o) v ≡ b → (a || (not b && live.live ops e v)) ≡ true → needs p false (o ∷ ops) e v ≡ true
      by go true r b s h = reads_needed p false o ops e v r
      by go false r true s h = absurd (cc)
      by go false r false s h = rest_needed p false o ops e v s (more_needed p (may_raise (marks_of p) (any_of p) o) ops e v (go h))

  same : IsRaisable p → graphs_calm p.graphs ≡ true → (f : ℕ) (g : LlGraph) → slice_get p.graphs f ≡ Some g → (n : ℕ) (block : LlBlock) → slice_get g.blocks n ≡ Some block → (v : ℕ)
      → live.live block.ops block.exit v ≡ true → among v block.inputs ≡ true
  same passes c f g of n block is v h =
      let calm : block_calm block ≡ true = block_at g.blocks n block (calm_at p.graphs f g c of) is in
      closed p passes f g of n block is v (needed_live p block.exit v block.ops (live_needed block.ops block.exit v (and_right (are_calm block.ops) _ calm) h))

  pub explicit_reads_inputs : IsRaisable p → ReadsInputs (explicit p)
  explicit_reads_inputs passes = by (graphs_calm p.graphs) refl
    where
      by : (b : Bool) → graphs_calm p.graphs ≡ b → ReadsInputs (explicit p)
      by true e = λ f g of n block is v h. same passes e f g (ap (λ b. slice_get (cond b p.graphs (graphs_of p.structs p.graphs)) f) (sym e) ∙ of) n block is v h
      by false e = explicit_reads p e (closed p passes)
