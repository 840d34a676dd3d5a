-- One more turn of the loops.
use Rattle.std.proofs.Common.{◌≡◌, ◌<◌, ◌≤◌, ℕ, zero, suc, ◌+◌, ◌-◌, false, List, [], ◌∷◌, ◌++◌, length, drop, refl, sym, ap, ◌∙◌, arith, append_assoc}
use Rattle.csub_tree.specs.declared.tree.COperand.{COperand}
use Rattle.csub_tree.specs.declared.tree.COperand.TheVariants.{Var}
use Rattle.ll_code.specs.declared.program.LlBlock.{LlBlock}
use Rattle.ll_code.specs.declared.program.LlGraph.{LlGraph}
use Rattle.ll_code.specs.declared.program.LlExit.{LlExit}
use Rattle.ll_joined.specs.declared.count.Counts.{Counts}
use Rattle.ll_joined.specs.declared.join.Way.{Way}
use Rattle.ll_joined.specs.Named.{Naming}
use Rattle.ll_joined.specs.Counted.{are_named, zeros, counts_of, taken_in}
use Rattle.ll_joined.specs.Marked.{marks_of}
use Rattle.ll_joined.specs.Copied.{own_from}
use Rattle.ll_joined.specs.Joined.{pairs_of, constants_of, numbers_from, numbers_of, next_if, stays, joined_from, joined_block, joined_blocks, block_if, way_from, then_on, goes_on, plain_ways, numbered, joined_graph}

-- what was pushed comes before what is left
pub pushed_one : {A : Type 0} (made new rest more all : List A) (x : A) → new ≡ made ++ x ∷ [] → rest ≡ x ∷ more → made ++ rest ≡ all → new ++ more ≡ all
pushed_one made new rest more all x e f g = ap (λ l. l ++ more) e ∙ append_assoc made (x ∷ []) more ∙ ap (λ l. made ++ l) (sym f) ∙ g

pub pushed_all : {A : Type 0} (made new rest more xs all : List A) → new ≡ made ++ xs → rest ≡ xs ++ more → made ++ rest ≡ all → new ++ more ≡ all
pushed_all made new rest more xs all e f g = ap (λ l. l ++ more) e ∙ append_assoc made xs more ∙ ap (λ l. made ++ l) (sym f) ∙ g

append_none : {A : Type 0} (xs : List A) → xs ++ [] ≡ xs
append_none [] = refl
append_none (x ∷ xs) = ap (λ l. x ∷ l) (append_none xs)

pub nothing_left : {A : Type 0} (made rest all : List A) → rest ≡ [] → made ++ rest ≡ all → made ≡ all
nothing_left made rest all e f = sym (append_none made) ∙ ap (λ l. made ++ l) (sym e) ∙ f

-- the first one of what is left
next_of : {A : Type 0} (xs : List A) (i : ℕ) → i < length xs → (x : A) × (drop i xs ≡ x ∷ drop (i + 1) xs)
next_of [] i lt = absurd (omega (arith, lt))
next_of (x ∷ xs) zero lt = (x, refl)
next_of (x ∷ xs) (suc i) lt =
    let n = next_of xs i (omega (arith, lt)) in
    let e : suc i + 1 ≡ suc (i + 1) = omega arith in
    (n.0, n.1 ∙ ap (λ k. n.0 ∷ drop k (x ∷ xs)) (sym e))

none_left : {A : Type 0} (xs : List A) (i : ℕ) → length xs ≤ i → drop i xs ≡ []
none_left [] zero le = refl
none_left [] (suc i) le = refl
none_left (x ∷ xs) zero le = absurd (omega (arith, le))
none_left (x ∷ xs) (suc i) le = none_left xs i (omega (arith, le))

pub named_ends : (counts : Counts) (inputs : List ℕ) (args : List COperand) (i : ℕ) → i < length inputs → length args ≤ i → are_named counts (drop i inputs) (drop i args) ≡ false
named_ends counts [] args i lt le = absurd (omega (arith, lt))
named_ends counts (v ∷ inputs) [] zero lt le = refl
named_ends counts (v ∷ inputs) (x ∷ args) zero lt le = absurd (omega (arith, le))
named_ends counts (v ∷ inputs) [] (suc i) lt le = ap (are_named counts (drop i inputs)) (sym (none_left {A = COperand} [] i (omega arith))) ∙ named_ends counts inputs [] i (omega (arith, lt)) (omega arith)
named_ends counts (v ∷ inputs) (x ∷ args) (suc i) lt le = named_ends counts inputs args i (omega (arith, lt)) (omega (arith, le))

no_pairs : (names : Naming) (inputs : List ℕ) → pairs_of names inputs [] ≡ []
no_pairs names [] = refl
no_pairs names (v ∷ inputs) = refl

no_constants : (inputs : List ℕ) → constants_of inputs [] ≡ []
no_constants [] = refl
no_constants (v ∷ inputs) = refl

pub pairs_end : (names : Naming) (inputs : List ℕ) (args : List COperand) (i : ℕ) → length args ≤ i → pairs_of names (drop i inputs) (drop i args) ≡ []
pairs_end names inputs args i le = ap (pairs_of names (drop i inputs)) (none_left args i le) ∙ no_pairs names (drop i inputs)

pub constants_end : (inputs : List ℕ) (args : List COperand) (i : ℕ) → length args ≤ i → constants_of (drop i inputs) (drop i args) ≡ []
constants_end inputs args i le = ap (constants_of (drop i inputs)) (none_left args i le) ∙ no_constants (drop i inputs)

pub own_next : (i count : ℕ) → i < count → own_from i (count - i) ≡ Var i ∷ own_from (i + 1) (count - (i + 1))
own_next i count lt = let e : count - i ≡ suc (count - (i + 1)) = omega (arith, lt) in ap (own_from i) e

pub zeros_next : (i count : ℕ) → i < count → zeros (count - i) ≡ 0 ∷ zeros (count - (i + 1))
zeros_next i count lt = let e : count - i ≡ suc (count - (i + 1)) = omega (arith, lt) in ap zeros e

pub numbers_next : (counts : Counts) (taken : List ℕ) (next i : ℕ) → i < length taken → numbers_from counts taken next i (drop i taken) ≡ next ∷ numbers_from counts taken (next_if (stays counts taken i) next) (i + 1) (drop (i + 1) taken)
numbers_next counts taken next i lt = let n = next_of taken i lt in ap (numbers_from counts taken next i) n.1

pub joined_next : (blocks : List LlBlock) (counts : Counts) (taken : List ℕ) (i : ℕ) → i < length blocks
    → joined_from blocks counts taken i (drop i blocks) ≡ block_if (stays counts taken i) (joined_block blocks counts i) ++ joined_from blocks counts taken (i + 1) (drop (i + 1) blocks)
joined_next blocks counts taken i lt = let n = next_of blocks i lt in ap (joined_from blocks counts taken i) n.1

pub way_next : (blocks : List LlBlock) (counts : Counts) (i most : ℕ) (way : Way) → i < most → way_from blocks counts (most - i) way ≡ then_on (way_from blocks counts (most - (i + 1))) (goes_on blocks counts way)
unfolding way_from
way_next blocks counts i most way lt = let e : most - i ≡ suc (most - (i + 1)) = omega (arith, lt) in ap (λ k. way_from blocks counts k way) e

pub way_end : (blocks : List LlBlock) (counts : Counts) (i most : ℕ) (way : Way) → most ≤ i → way_from blocks counts (most - i) way ≡ (way.ops, LlExit.Fail 4)
unfolding way_from
way_end blocks counts i most way le = let e : most - i ≡ 0 = omega (arith, le) in ap (λ k. way_from blocks counts k way) e

pub joined_is : (graph : LlGraph) (counts : Counts) (taken numbers : List ℕ) (ways plain : List LlBlock) (made : LlGraph) → counts ≡ counts_of (length graph.types) graph.blocks → taken ≡ taken_in graph.blocks counts → numbers ≡ numbers_of counts taken
    → ways ≡ joined_blocks graph.blocks counts taken → plain ≡ plain_ways graph.params graph.types ways → made ≡ numbered graph (marks_of (length graph.types) graph.params plain).named numbers plain → made ≡ joined_graph graph
unfolding joined_graph
joined_is graph counts taken numbers ways plain made a b c d e f = cc
