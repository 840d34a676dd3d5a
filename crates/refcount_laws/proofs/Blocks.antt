-- Where the blocks of a counted graph stand: each at its number, and the ways of its test behind all.
use Rattle.std.proofs.Common.{◌≡◌, ◌<◌, ℕ, zero, suc, ◌+◌, List, [], ◌∷◌, ◌++◌, length, map, Some, refl, ap, ◌∙◌, subst, arith}
use Rattle.std.specs.Prelude.{slice_get}
use Rattle.ll_code.specs.declared.program.LlBlock.{LlBlock}
use Rattle.ll_code.specs.declared.program.LlGraph.{LlGraph}
use Rattle.ll_code.specs.declared.program.LlProgram.{LlProgram}
use Rattle.ll_code.specs.Machine.{block_in}
use Rattle.refcount_transform.specs.Plan.{plan_of}
use Rattle.refcount_transform.specs.Made.{all_made}
use Rattle.refcount_transform.specs.Changes.{Around, around_of}
use Rattle.refcount_transform.specs.Blocks.{behind_exit, block_of, firsts, others, blocks_of, graph_of}
use Rattle.refcount_transform.specs.Counted.{counted}
use Rattle.refcount_laws.specs.Leaves.{From}
use Rattle.refcount_laws.proofs.Numbers.{get_left, get_right}

pub from_left : (all : List LlBlock) (n : ℕ) (xs ys : List LlBlock) → From all n (xs ++ ys) → From all n xs
from_left all n [] ys h = tt
from_left all n (x ∷ xs) ys h = (h.0, from_left all (n + 1) xs ys h.1)

pub from_right : (all : List LlBlock) (n : ℕ) (xs ys : List LlBlock) → From all n (xs ++ ys) → From all (n + length xs) ys
from_right all n [] ys h = let e : n ≡ n + 0 = omega arith in subst (λ k. From all k ys) e h
from_right all n (x ∷ xs) ys h = let e : n + 1 + length xs ≡ n + suc (length xs) = omega arith in subst (λ k. From all k ys) e (from_right all (n + 1) xs ys h.1)

-- what stands behind other blocks
from_behind : (xs zs all : List LlBlock) (n : ℕ) → ((i : ℕ) → slice_get all (n + i) ≡ slice_get zs i) → From all n zs
from_behind xs [] all n e = tt
from_behind xs (z ∷ zs) all n e = ((let f : n ≡ n + 0 = omega arith in ap (slice_get all) f) ∙ e 0, from_behind xs zs all (n + 1) (λ i. (let f : n + 1 + i ≡ n + suc i = omega arith in ap (slice_get all) f) ∙ e (suc i)))

get_there : {A : Type 0} (xs : List A) (n : ℕ) (x : A) → slice_get xs n ≡ Some x → n < length xs
get_there [] n x e = absurd (cc)
get_there (y ∷ xs) zero x e = omega arith
get_there (y ∷ xs) (suc n) x e = omega (arith, get_there xs n x e)

-- a block with the number that its ways begin at
pub record Placed (around : Around) (all : List LlBlock) (n : ℕ) (block : LlBlock) : Type 0 where
  pub next : ℕ
  pub is : slice_get all n ≡ Some (block_of around next block)
  pub ways : From all next (behind_exit around block.exit)

module _ (around : Around) where
  firsts_count : (next : ℕ) (blocks : List LlBlock) → length (firsts around next blocks) ≡ length blocks
  firsts_count next [] = refl
  firsts_count next (b ∷ blocks) = ap suc (firsts_count (next + length (behind_exit around b.exit)) blocks)

  placed_from : (all : List LlBlock) (next : ℕ) (blocks : List LlBlock) → From all next (others around blocks) → (n : ℕ) (block : LlBlock) → slice_get blocks n ≡ Some block
      → (m : ℕ) × (slice_get (firsts around next blocks) n ≡ Some (block_of around m block)) × From all m (behind_exit around block.exit)
  placed_from all next [] h n block e = absurd (cc)
  placed_from all next (x ∷ blocks) h zero block e =
      let f : x ≡ block = cc in
      (next, ap (λ x. Some (block_of around next x)) f, subst (λ (x : LlBlock). From all next (behind_exit around x.exit)) f (from_left all next (behind_exit around x.exit) (others around blocks) h))
  placed_from all next (x ∷ blocks) h (suc n) block e =
      placed_from all (next + length (behind_exit around x.exit)) blocks (from_right all next (behind_exit around x.exit) (others around blocks) h) n block e

  pub block_placed : (blocks : List LlBlock) (n : ℕ) (block : LlBlock) → slice_get blocks n ≡ Some block → Placed around (blocks_of around blocks) n block
  block_placed blocks n block e =
      let first : List LlBlock = firsts around (length blocks) blocks in
      let behind : From (blocks_of around blocks) (length blocks) (others around blocks) =
      from_behind first (others around blocks) (blocks_of around blocks) (length blocks)
      (λ i. (let f : length blocks + i ≡ length first + i = omega (arith, firsts_count (length blocks) blocks) in ap (slice_get (blocks_of around blocks)) f) ∙ get_right first (others around blocks) i) in
      let w : (m : ℕ) × (slice_get first n ≡ Some (block_of around m block)) × From (blocks_of around blocks) m (behind_exit around block.exit) = placed_from (blocks_of around blocks) (length blocks) blocks behind n block e in
      record {
        next = w.0;
        is = get_left first (others around blocks) n (get_there first n (block_of around w.0 block) w.1) ∙ w.1;
        ways = w.2;
      }

-- graphs keep their numbers
pub graph_placed : (p : LlProgram) (f : ℕ) (graph : LlGraph) → slice_get p.graphs f ≡ Some graph → slice_get (counted p).graphs f ≡ Some (graph_of (plan_of p) graph)
graph_placed p f graph e =
    get_left (map (graph_of (plan_of p)) p.graphs) (all_made (plan_of p)) f (get_there (map (graph_of (plan_of p)) p.graphs) f (graph_of (plan_of p) graph) (mapped p.graphs f e)) ∙ mapped p.graphs f e
  where
    mapped : (graphs : List LlGraph) (f : ℕ) → slice_get graphs f ≡ Some graph → slice_get (map (graph_of (plan_of p)) graphs) f ≡ Some (graph_of (plan_of p) graph)
    mapped [] f e = absurd (cc)
    mapped (x ∷ graphs) zero e = let g : x ≡ graph = cc in ap (λ x. Some (graph_of (plan_of p) x)) g
    mapped (x ∷ graphs) (suc f) e = mapped graphs f e

-- so a block of the program has its place in the counted one
pub there_in : (p : LlProgram) (f : ℕ) (graph : LlGraph) (n : ℕ) (block : LlBlock) → slice_get p.graphs f ≡ Some graph → slice_get graph.blocks n ≡ Some block
    → (w : Placed (around_of (plan_of p) graph.types) (blocks_of (around_of (plan_of p) graph.types) graph.blocks) n block) × (block_in (slice_get (counted p).graphs f) n ≡ Some (block_of (around_of (plan_of p) graph.types) w.next block))
there_in p f graph n block e there =
    let w : Placed (around_of (plan_of p) graph.types) (blocks_of (around_of (plan_of p) graph.types) graph.blocks) n block = block_placed (around_of (plan_of p) graph.types) graph.blocks n block there in
    (w, ap (λ o. block_in o n) (graph_placed p f graph e) ∙ w.is)
