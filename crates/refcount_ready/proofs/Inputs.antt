-- A test of a program: each block reads its inputs alone, and what it sets itself.
use Rattle.std.proofs.Common.{◌≡◌, ◌⊎◌, inl, inr, ⊎_elim, ℕ, zero, suc, Bool, true, false, ◌&&◌, ◌||◌, List, [], ◌∷◌, ◌++◌, Option, Some, None, refl, sym, ap, ◌∙◌, subst}
use Rattle.std.specs.Prelude.{slice_get, not}
use Rattle.ll_code.specs.declared.program.LlOp.{LlOp}
use Rattle.ll_code.specs.declared.program.LlExit.{LlExit}
use Rattle.ll_code.specs.declared.program.LlExit.TheVariants as exit
use Rattle.ll_code.specs.declared.program.LlBlock.{LlBlock}
use Rattle.ll_code.specs.declared.program.LlGraph.{LlGraph}
use Rattle.ll_code.specs.declared.program.LlProgram.{LlProgram}
use Rattle.ll_held.specs.Quiet.{ReadsInputs}
use Rattle.ll_held.proofs.Keeping.{or_one}
use Rattle.ll_laws.proofs.Values.{and_left, and_right}
use Rattle.ll_live.specs.Live.{among, reads, set_by, sets, live, exit_variables, handler_variable}
use Rattle.refcount_transform.specs.Changes.{variable_set}
use Rattle.refcount_checks.specs.Countable.{all_among}
use Rattle.refcount_ready.proofs.Lists.{all_are}

abbrev catches_none : LlExit → Bool
catches_none (exit.OnRaise a by without) = false
catches_none other = true

abbrev knows : List ℕ → List LlOp → LlExit → Bool
knows known [] e = all_among (exit_variables e) known && catches_none e
knows known (o ∷ ops) e = all_among (reads o) known && knows (variable_set (set_by o) ++ known) ops e

no_handler : (e : LlExit) (v : ℕ) → catches_none e ≡ true → handler_variable e v ≡ true → ⊥
no_handler (exit.OnRaise a by without) v h k = absurd (cc)
no_handler (exit.Goto link) v h k = cc
no_handler (exit.If a there elsewhere) v h k = cc
no_handler (exit.Return x) v h k = cc
no_handler (exit.Raise a) v h k = cc
no_handler (exit.Fail n) v h k = cc
no_handler (exit.Raised a) v h k = cc

old : (s : Option ℕ) (known : List ℕ) (v : ℕ) → sets s v ≡ false → among v (variable_set s ++ known) ≡ true → among v known ≡ true
old None known v h k = k
old (Some a) known v h k = ap (λ b. b || among v known) (sym h) ∙ k

later : (a b : Bool) → (not a && b) ≡ true → (a ≡ false) × (b ≡ true)
later true b h = absurd (cc)
later false b h = (refl, h)

known_live : (known : List ℕ) (ops : List LlOp) (e : LlExit) (v : ℕ) → knows known ops e ≡ true → live ops e v ≡ true → among v known ≡ true
known_live known [] e v h k =
    ⊎_elim (λ a. all_are (exit_variables e) known v (and_left (all_among (exit_variables e) known) (catches_none e) h) a)
    (λ a. absurd (no_handler e v (and_right (all_among (exit_variables e) known) (catches_none e) h) a)) (or_one (among v (exit_variables e)) (handler_variable e v) k)
known_live known (o ∷ ops) e v h k = by (known_live (variable_set (set_by o) ++ known) ops e v (and_right (all_among (reads o) known) (knows (variable_set (set_by o) ++ known) ops e) h)) (or_one (among v (reads o)) (not (sets (set_by o) v) && live ops e v) k)
  where
    by : (live ops e v ≡ true → among v (variable_set (set_by o) ++ known) ≡ true) → (among v (reads o) ≡ true) ⊎ ((not (sets (set_by o) v) && live ops e v) ≡ true) → among v known ≡ true
    by go (inl a) = all_are (reads o) known v (and_left (all_among (reads o) known) (knows (variable_set (set_by o) ++ known) ops e) h) a
    by go (inr a) = let w : (sets (set_by o) v ≡ false) × (live ops e v ≡ true) = later (sets (set_by o) v) (live ops e v) a in old (set_by o) known v w.0 (go w.1)

abbrev blocks_know : List LlBlock → Bool
blocks_know [] = true
blocks_know (block ∷ blocks) = knows block.inputs block.ops block.exit && blocks_know blocks

abbrev graphs_know : List LlGraph → Bool
graphs_know [] = true
graphs_know (graph ∷ graphs) = blocks_know graph.blocks && graphs_know graphs

in_blocks : (blocks : List LlBlock) (n : ℕ) (block : LlBlock) → blocks_know blocks ≡ true → slice_get blocks n ≡ Some block → knows block.inputs block.ops block.exit ≡ true
in_blocks [] n block h e = absurd (cc)
in_blocks (x ∷ blocks) zero block h e = let f : x ≡ block = cc in subst (λ b. knows b.inputs b.ops b.exit ≡ true) f (and_left _ _ h)
in_blocks (x ∷ blocks) (suc n) block h e = in_blocks blocks n block (and_right _ _ h) e

in_graphs : (graphs : List LlGraph) (f : ℕ) (graph : LlGraph) → graphs_know graphs ≡ true → slice_get graphs f ≡ Some graph → blocks_know graph.blocks ≡ true
in_graphs [] f graph h e = absurd (cc)
in_graphs (x ∷ graphs) zero graph h e = let k : x ≡ graph = cc in subst (λ g. blocks_know g.blocks ≡ true) k (and_left _ _ h)
in_graphs (x ∷ graphs) (suc f) graph h e = in_graphs graphs f graph (and_right _ _ h) e

pub known_reads : (p : LlProgram) → graphs_know p.graphs ≡ true → ReadsInputs p
known_reads p h f graph e n block b v l = known_live block.inputs block.ops block.exit v (in_blocks graph.blocks n block (in_graphs p.graphs f graph h e) b) l
