-- The marks that are set one after the other are those of the structs of which something is made.
use Rattle.std.proofs.Common.{◌≡◌, ℕ, zero, suc, ◌<◌, ◌≤◌, Bool, true, false, ◌||◌, ◌&&◌, List, [], ◌∷◌, length, Option, Some, None, refl, sym, ap, ◌∙◌, arith}
use Rattle.std.specs.Prelude.{nat_lt, ◌==◌, slice_set}
use Rattle.std.proofs.lemmas.Bool.{le-ltb, lt-ltb}
use Rattle.std.proofs.Math.Dec.{eqb-zero-suc, eqb-suc-zero, eqb-suc-suc, leb-suc-suc}
use Rattle.ll_code.specs.declared.program.LlStruct.{LlStruct}
use Rattle.ll_code.specs.declared.program.LlOp.{LlOp}
use Rattle.ll_code.specs.declared.program.LlBlock.{LlBlock}
use Rattle.ll_code.specs.declared.program.LlGraph.{LlGraph}
use Rattle.refcount_transform.specs.Plan.{root, made_by, has_root, ops_make, blocks_make, graphs_make, is_made, is_marked, counted_from, counted_structs}
use Rattle.refcount_transform.specs.Marks.{mark_at, mark_made, mark_ops, mark_blocks, mark_graphs, none_marked, roots_made, marks_from}

-- ---- tests

or_left : (a b c d : Bool) → ((a || (b && c)) || (b && d)) ≡ (a || (b && (c || d)))
or_left true b c d = refl
or_left false true c d = refl
or_left false false c d = refl

and_none : (a b : Bool) → (a || (b && false)) ≡ a
and_none true b = refl
and_none false true = refl
and_none false false = refl

-- ---- one mark

pub mark_within : (marks : List Bool) (r : ℕ) → r < length marks → mark_at r marks ≡ slice_set marks r true
mark_within [] r h = absurd (omega (arith, h))
mark_within (b ∷ marks) zero h = refl
mark_within (b ∷ marks) (suc r) h = ap (λ l. b ∷ l) (mark_within marks r (omega (arith, h)))

pub mark_past : (marks : List Bool) (r : ℕ) → length marks ≤ r → mark_at r marks ≡ marks
mark_past [] r h = refl
mark_past (b ∷ marks) zero h = absurd (omega (arith, h))
mark_past (b ∷ marks) (suc r) h = ap (λ l. b ∷ l) (mark_past marks r (omega (arith, h)))

or_no : (a b : Bool) → b ≡ false → a ≡ (a || b)
or_no true b e = refl
or_no false b e = sym e

and_no : (a b : Bool) → b ≡ false → (a && b) ≡ false
and_no true b e = e
and_no false b e = refl

or_yes : (a b c : Bool) → b ≡ true → c ≡ true → true ≡ (a || (b && c))
or_yes true b c e f = refl
or_yes false b c e f = sym (ap (λ x. x && c) e ∙ f)

none_below : (i : ℕ) → nat_lt i 0 ≡ false
none_below i = le-ltb i 0 (omega arith)

some_below : (n : ℕ) → nat_lt 0 (suc n) ≡ true
some_below n = lt-ltb 0 (suc n) (omega arith)

next_below : (i n : ℕ) → nat_lt (suc i) (suc n) ≡ nat_lt i n
next_below i n = leb-suc-suc (suc i) n

at_within : (marks : List Bool) (r i : ℕ) → is_marked (mark_at r marks) i ≡ (is_marked marks i || (nat_lt i (length marks) && (r == i)))
at_within [] r i = ap (λ b. b && (r == i)) (sym (none_below i))
at_within (b ∷ marks) zero zero = or_yes b (nat_lt 0 (suc (length marks))) (0 == 0) (some_below (length marks)) refl
at_within (b ∷ marks) zero (suc i) = or_no (is_marked marks i) (nat_lt (suc i) (suc (length marks)) && (0 == suc i)) (and_no (nat_lt (suc i) (suc (length marks))) (0 == suc i) (eqb-zero-suc i))
at_within (b ∷ marks) (suc r) zero = or_no b (nat_lt 0 (suc (length marks)) && (suc r == 0)) (and_no (nat_lt 0 (suc (length marks))) (suc r == 0) (eqb-suc-zero r))
at_within (b ∷ marks) (suc r) (suc i) =
    at_within marks r i
    ∙ sym (ap (λ c. is_marked marks i || (c && (suc r == suc i))) (next_below i (length marks)) ∙ ap (λ c. is_marked marks i || (nat_lt i (length marks) && c)) (eqb-suc-suc r i))

-- ---- marks of operations, blocks and graphs

-- what is marked for this struct
abbrev Marked : List Bool → ℕ → Bool → Bool
Marked marks i b = is_marked marks i || (nat_lt i (length marks) && b)

size_at : (marks : List Bool) (r : ℕ) → length (mark_at r marks) ≡ length marks
size_at [] r = refl
size_at (b ∷ marks) zero = refl
size_at (b ∷ marks) (suc r) = ap suc (size_at marks r)

size_made : (structs : List LlStruct) (o : Option ℕ) (marks : List Bool) → length (mark_made structs o marks) ≡ length marks
size_made structs None marks = refl
size_made structs (Some n) marks = size_at marks (root structs n)

size_ops : (structs : List LlStruct) (ops : List LlOp) (marks : List Bool) → length (mark_ops structs ops marks) ≡ length marks
size_ops structs [] marks = refl
size_ops structs (o ∷ ops) marks = size_ops structs ops (mark_made structs (made_by o) marks) ∙ size_made structs (made_by o) marks

size_blocks : (structs : List LlStruct) (blocks : List LlBlock) (marks : List Bool) → length (mark_blocks structs blocks marks) ≡ length marks
size_blocks structs [] marks = refl
size_blocks structs (block ∷ blocks) marks = size_blocks structs blocks (mark_ops structs block.ops marks) ∙ size_ops structs block.ops marks

-- marks that are set one after the other
joined : (before marks after : List Bool) (i : ℕ) (b c : Bool)
    → length marks ≡ length before → is_marked marks i ≡ Marked before i b → is_marked after i ≡ Marked marks i c → is_marked after i ≡ Marked before i (b || c)
joined before marks after i b c e f g =
    g ∙ ap (λ x. x || (nat_lt i (length marks) && c)) f ∙ ap (λ n. (is_marked before i || (nat_lt i (length before) && b)) || (nat_lt i n && c)) e
    ∙ or_left (is_marked before i) (nat_lt i (length before)) b c

made_within : (structs : List LlStruct) (o : Option ℕ) (marks : List Bool) (i : ℕ) → is_marked (mark_made structs o marks) i ≡ Marked marks i (has_root structs i o)
made_within structs None marks i = sym (and_none (is_marked marks i) (nat_lt i (length marks)))
made_within structs (Some n) marks i = at_within marks (root structs n) i

ops_within : (structs : List LlStruct) (ops : List LlOp) (marks : List Bool) (i : ℕ) → is_marked (mark_ops structs ops marks) i ≡ Marked marks i (ops_make structs i ops)
ops_within structs [] marks i = sym (and_none (is_marked marks i) (nat_lt i (length marks)))
ops_within structs (o ∷ ops) marks i =
    joined marks (mark_made structs (made_by o) marks) (mark_ops structs (o ∷ ops) marks) i (has_root structs i (made_by o)) (ops_make structs i ops) (size_made structs (made_by o) marks)
    (made_within structs (made_by o) marks i) (ops_within structs ops (mark_made structs (made_by o) marks) i)

blocks_within : (structs : List LlStruct) (blocks : List LlBlock) (marks : List Bool) (i : ℕ) → is_marked (mark_blocks structs blocks marks) i ≡ Marked marks i (blocks_make structs i blocks)
blocks_within structs [] marks i = sym (and_none (is_marked marks i) (nat_lt i (length marks)))
blocks_within structs (block ∷ blocks) marks i =
    joined marks (mark_ops structs block.ops marks) (mark_blocks structs (block ∷ blocks) marks) i (ops_make structs i block.ops) (blocks_make structs i blocks)
    (size_ops structs block.ops marks) (ops_within structs block.ops marks i) (blocks_within structs blocks (mark_ops structs block.ops marks) i)

graphs_within : (structs : List LlStruct) (graphs : List LlGraph) (marks : List Bool) (i : ℕ) → is_marked (mark_graphs structs graphs marks) i ≡ Marked marks i (graphs_make structs i graphs)
graphs_within structs [] marks i = sym (and_none (is_marked marks i) (nat_lt i (length marks)))
graphs_within structs (graph ∷ graphs) marks i =
    joined marks (mark_blocks structs graph.blocks marks) (mark_graphs structs (graph ∷ graphs) marks) i (blocks_make structs i graph.blocks) (graphs_make structs i graphs)
    (size_blocks structs graph.blocks marks) (blocks_within structs graph.blocks marks i) (graphs_within structs graphs (mark_blocks structs graph.blocks marks) i)

-- ---- from no mark on

none_size : (structs : List LlStruct) → length (none_marked structs) ≡ length structs
none_size [] = refl
none_size (s ∷ structs) = ap suc (none_size structs)

none_within : (structs : List LlStruct) (i : ℕ) → is_marked (none_marked structs) i ≡ false
none_within [] i = refl
none_within (s ∷ structs) zero = refl
none_within (s ∷ structs) (suc i) = none_within structs i

is_made_marked : (structs : List LlStruct) (graphs : List LlGraph) (r : ℕ) → is_marked (roots_made structs graphs) r ≡ is_made structs graphs r
is_made_marked structs graphs r =
    graphs_within structs graphs (none_marked structs) r ∙ ap (λ b. b || (nat_lt r (length (none_marked structs)) && graphs_make structs r graphs)) (none_within structs r)
    ∙ ap (λ n. nat_lt r n && graphs_make structs r graphs) (none_size structs)

from_marked : (structs : List LlStruct) (graphs : List LlGraph) (n : ℕ) (ss : List LlStruct) → marks_from structs (roots_made structs graphs) n ss ≡ counted_from structs graphs n ss
from_marked structs graphs n [] = refl
from_marked structs graphs n (s ∷ ss) =
    ap (λ b. b ∷ marks_from structs (roots_made structs graphs) (suc n) ss) (is_made_marked structs graphs (root structs n))
    ∙ ap (λ l. is_made structs graphs (root structs n) ∷ l) (from_marked structs graphs (suc n) ss)

pub all_marked : (structs : List LlStruct) (graphs : List LlGraph) → marks_from structs (roots_made structs graphs) 0 structs ≡ counted_structs structs graphs
all_marked structs graphs = from_marked structs graphs 0 structs
