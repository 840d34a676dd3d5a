-- What is taken from the end of what was turned stands behind what was made.
use Rattle.std.proofs.Common.{◌≡◌, ℕ, ◌+◌, List, [], ◌∷◌, ◌++◌, length, reverse, sym, ap, ◌∙◌, arith, append_assoc}
use Rattle.std.proofs.lemmas.List.{reverse-append}
use Rattle.ll_code.specs.declared.program.LlBlock.{LlBlock}
use Rattle.ll_code.specs.declared.program.LlGraph.{LlGraph}
use Rattle.rpy_meaning.specs.declared.row.Covers.{Covers}
use Rattle.rtyper_data.specs.declared.found.Found.{Found}
use Rattle.rtyper_raising.specs.Raising.{failing_with, raising_block, raising_blocks, caught_at, raising_graph, raising_graphs}

-- the last one of what is left stands first in the other order
pub last_first : {A : Type 0} (made left : List A) (x : A) → (made ++ x ∷ []) ++ reverse left ≡ made ++ reverse (left ++ x ∷ [])
last_first made left x = append_assoc made (x ∷ []) (reverse left) ∙ ap (λ l. made ++ l) (sym (reverse-append left (x ∷ [])))

pub last_block : (c : Covers) (made left : List LlBlock) (x : LlBlock) (found : Found)
    → (made ++ (raising_block x (failing_with x.exit c) found).0 ∷ []) ++ (raising_blocks c (reverse left) (raising_block x (failing_with x.exit c) found).1).0
    ≡ made ++ (raising_blocks c (reverse (left ++ x ∷ [])) found).0
last_block c made left x found =
    append_assoc made ((raising_block x (failing_with x.exit c) found).0 ∷ []) (raising_blocks c (reverse left) (raising_block x (failing_with x.exit c) found).1).0
    ∙ ap (λ l. made ++ (raising_blocks c l found).0) (sym (reverse-append left (x ∷ [])))

pub block_left : (c : Covers) (left : List LlBlock) (x : LlBlock) (found : Found)
    → (raising_blocks c (reverse left) (raising_block x (failing_with x.exit c) found).1).1 ≡ (raising_blocks c (reverse (left ++ x ∷ [])) found).1
block_left c left x found = ap (λ l. (raising_blocks c l found).1) (sym (reverse-append left (x ∷ [])))

longer : {A : Type 0} (xs : List A) (x : A) → length (xs ++ x ∷ []) ≡ length xs + 1
longer [] x = omega arith
longer (y ∷ xs) x = let e : length (xs ++ x ∷ []) ≡ length xs + 1 = longer xs x in omega (arith, e)

pub last_graph : (made left : List LlGraph) (x : LlGraph) (found : Found)
    → (made ++ raising_graph (caught_at found (length made)) x found ∷ [])
    ++ (raising_graphs (length (made ++ raising_graph (caught_at found (length made)) x found ∷ [])) (reverse left) (raising_blocks (caught_at found (length made)) x.blocks found).1).0
    ≡ made ++ (raising_graphs (length made) (reverse (left ++ x ∷ [])) found).0
last_graph made left x found =
    ap (λ n. (made ++ raising_graph (caught_at found (length made)) x found ∷ []) ++ (raising_graphs n (reverse left) (raising_blocks (caught_at found (length made)) x.blocks found).1).0) (longer made (raising_graph (caught_at found (length made)) x found))
    ∙ append_assoc made (raising_graph (caught_at found (length made)) x found ∷ []) (raising_graphs (length made + 1) (reverse left) (raising_blocks (caught_at found (length made)) x.blocks found).1).0
    ∙ ap (λ l. made ++ (raising_graphs (length made) l found).0) (sym (reverse-append left (x ∷ [])))

pub graph_left : (made left : List LlGraph) (x : LlGraph) (found : Found)
    → (raising_graphs (length (made ++ raising_graph (caught_at found (length made)) x found ∷ [])) (reverse left) (raising_blocks (caught_at found (length made)) x.blocks found).1).1
    ≡ (raising_graphs (length made) (reverse (left ++ x ∷ [])) found).1
graph_left made left x found =
    ap (λ n. (raising_graphs n (reverse left) (raising_blocks (caught_at found (length made)) x.blocks found).1).1) (longer made (raising_graph (caught_at found (length made)) x found))
    ∙ ap (λ l. (raising_graphs (length made) l found).1) (sym (reverse-append left (x ∷ [])))
