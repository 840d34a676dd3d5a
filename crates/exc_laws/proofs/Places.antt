-- Where the pieces of blocks stand.
use Rattle.std.proofs.Common.{◌≡◌, ℕ, zero, suc, ◌+◌, List, [], ◌∷◌, ◌++◌, length, Some, refl, ap, ◌∙◌, subst, arith}
use Rattle.std.specs.Prelude.{slice_get}
use Rattle.ll_code.specs.declared.program.LlBlock.{LlBlock}
use Rattle.exc_transform.specs.Pieces.{Around, piece, behind, behind_block, firsts, others, blocks_of}
use Rattle.exc_laws.specs.Stands.{From}
use Rattle.exc_laws.proofs.Tests.{get_left, get_right, length_both}

pub from_left : (all : List LlBlock) (n : ℕ) (xs ys : List LlBlock) → From all n (xs ++ ys) → From all n xs
from_left all n [] ys h = tt
from_left all n (x ∷ xs) ys h = (h.0, from_left all (n + 1) xs ys h.1)

pub from_right : (all : List LlBlock) (n : ℕ) (xs ys : List LlBlock) → From all n (xs ++ ys) → From all (n + length xs) ys
from_right all n [] ys h = let e : n ≡ n + 0 = omega arith in subst (λ k. From all k ys) e h
from_right all n (x ∷ xs) ys h = let e : n + 1 + length xs ≡ n + suc (length xs) = omega arith in subst (λ k. From all k ys) e (from_right all (n + 1) xs ys h.1)

from_within : (xs ys zs : List LlBlock) (n : ℕ) → n ≡ length xs + length ys → From (xs ++ (ys ++ zs)) n zs
from_within xs ys [] n e = tt
from_within xs ys (z ∷ zs) n e = (
  ap (slice_get (xs ++ (ys ++ z ∷ zs))) e ∙ get_right xs (ys ++ z ∷ zs) (length ys) ∙ first ys,
  subst (λ l. From l (n + 1) zs) (more xs ys) (from_within xs (ys ++ z ∷ []) zs (n + 1) (let f : length (ys ++ z ∷ []) ≡ length ys + 1 = length_both ys (z ∷ []) in omega (arith, e, f))),
)
  where
    first : (ys : List LlBlock) → slice_get (ys ++ z ∷ zs) (length ys) ≡ Some z
    first [] = refl
    first (y ∷ ys) = first ys

    inner : (ys : List LlBlock) → (ys ++ z ∷ []) ++ zs ≡ ys ++ z ∷ zs
    inner [] = refl
    inner (y ∷ ys) = ap (λ l. y ∷ l) (inner ys)

    more : (xs ys : List LlBlock) → xs ++ ((ys ++ z ∷ []) ++ zs) ≡ xs ++ (ys ++ z ∷ zs)
    more xs ys = ap (λ l. xs ++ l) (inner ys)

pub from_behind : (xs ys : List LlBlock) → From (xs ++ ys) (length xs) ys
from_behind xs ys = from_within xs [] ys (length xs) (omega arith)

-- ---- blocks of a graph

module _ (around : Around) where
  pub firsts_count : (next : ℕ) (blocks : List LlBlock) → length (firsts around next blocks) ≡ length blocks
  firsts_count next [] = refl
  firsts_count next (b ∷ blocks) = ap suc (firsts_count (next + length (behind_block around next b)) blocks)

  -- the first piece of a block stands at its number, and the others behind it
  placed_from : (all : List LlBlock) (next : ℕ) (blocks : List LlBlock) → From all next (others around next blocks) → (n : ℕ) (b : LlBlock) → slice_get blocks n ≡ Some b
      → (way : ℕ) × (slice_get (firsts around next blocks) n ≡ Some (piece around b.inputs b.ops b.exit way)) × From all way (behind around way b.ops b.exit)
  placed_from all next [] h n b e = absurd (cc)
  placed_from all next (x ∷ blocks) h zero b e =
      let f : x ≡ b = cc in
      (next, ap (λ (x : LlBlock). Some (piece around x.inputs x.ops x.exit next)) f, subst (λ (x : LlBlock). From all next (behind around next x.ops x.exit)) f (from_left all next (behind_block around next x) (others around (next + length (behind_block around next x)) blocks) h))
  placed_from all next (x ∷ blocks) h (suc n) b e =
      placed_from all (next + length (behind_block around next x)) blocks (from_right all next (behind_block around next x) (others around (next + length (behind_block around next x)) blocks) h) n b e

  pub others_from : (blocks : List LlBlock) → From (blocks_of around blocks) (length blocks) (others around (length blocks) blocks)
  others_from blocks =
      subst (λ n. From (blocks_of around blocks) n (others around (length blocks) blocks)) (firsts_count (length blocks) blocks) (from_behind (firsts around (length blocks) blocks) (others around (length blocks) blocks))

  pub block_placed : (blocks : List LlBlock) (n : ℕ) (b : LlBlock) → slice_get blocks n ≡ Some b
      → (way : ℕ) × (slice_get (blocks_of around blocks) n ≡ Some (piece around b.inputs b.ops b.exit way)) × From (blocks_of around blocks) way (behind around way b.ops b.exit)
  block_placed blocks n b e =
      let f = placed_from (blocks_of around blocks) (length blocks) blocks (others_from blocks) n b e in
      (f.0, get_left (firsts around (length blocks) blocks) (others around (length blocks) blocks) n (piece around b.inputs b.ops b.exit f.0) f.1, f.2)
