-- The block and the place where a variable is found are its own.
use Rattle.std.proofs.Common.{◌≡◌, ◌<◌, ◌≤◌, ℕ, zero, suc, ◌+◌, max, Bool, true, false, List, [], ◌∷◌, ◌++◌, length, get_or, Option, Some, None, refl, sym, ap, ◌∙◌, arith}
use Rattle.std.specs.Prelude.{◌==◌, if◌then◌else◌, slice_get, option_map, Contains}
use Rattle.std.proofs.lemmas.Bool.{eqb-true, eq-eqb, ne_eqb}
use Rattle.flow_graph.specs.declared.graph.Op.{Op}
use Rattle.flow_graph.specs.declared.graph.Block.{Block}
use Rattle.flow_graph.specs.Owners.{results, variables_of, HaveOwnVariables}
use Rattle.flow_stands.specs.Places.{Shape as Form, Go, Fork, Does, Plain, GiveBack, GiveUp, range, shift, numbered}
use Rattle.ann_layout.specs.Layout.{past_all, past_ops, past_blocks}
use Rattle.ann_lift.specs.Lift.{has_result}
use Rattle.ann_filled.specs.Filled.{place_of, here_or, owner}

-- ---- places in a list

at_first : (v w : ℕ) (vs : List ℕ) → w ≡ v → place_of v (w ∷ vs) ≡ Some 0
at_first v w vs e = ap (λ b. if b then Some 0 else option_map suc (place_of v vs)) (eq-eqb w v e)

at_later : (v w : ℕ) (vs : List ℕ) (j : ℕ) → (w ≡ v → ⊥) → place_of v vs ≡ Some j → place_of v (w ∷ vs) ≡ Some (suc j)
at_later v w vs j other e = ap (λ b. if b then Some 0 else option_map suc (place_of v vs)) (ne_eqb w v other) ∙ ap (λ o. option_map suc o) e

-- the numbers from base + a on, and more behind them
pub in_range : (base a m : ℕ) (more : List ℕ) (j v : ℕ) → j < m → v ≡ base + (a + j) → place_of v (shift base (range a m) ++ more) ≡ Some j
in_range base a zero more j v lt e = absurd (omega (arith, lt))
in_range base a (suc m) more zero v lt e = at_first v (base + a) (shift base (range (a + 1) m) ++ more) (omega (arith, e))
in_range base a (suc m) more (suc j) v lt e =
    at_later v (base + a) (shift base (range (a + 1) m) ++ more) j (λ same. omega (arith, same, e)) (in_range base (a + 1) m more j v (omega (arith, lt)) (omega (arith, e)))

-- the first number behind them
pub behind_range : (base a m : ℕ) (more : List ℕ) (v : ℕ) → v ≡ base + (a + m) → place_of v (shift base (range a m) ++ v ∷ more) ≡ Some m
behind_range base a zero more v e = at_first v v more refl
behind_range base a (suc m) more v e =
    at_later v (base + a) (shift base (range (a + 1) m) ++ v ∷ more) m (λ same. omega (arith, same, e)) (behind_range base (a + 1) m more v (omega (arith, e)))

-- inputs of a block stand at their places, and its result behind them
pub input_place : (base m node : ℕ) (value : Bool) (form : Form) (j : ℕ) → j < m → place_of (base + j) (variables_of (numbered base m node value form)) ≡ Some j
input_place base m node value (Go jump) j lt = in_range base 0 m [] j (base + j) lt (omega arith)
input_place base m node value (Fork test so other_way) j lt = in_range base 0 m [] j (base + j) lt (omega arith)
input_place base m node value (Does o args covers hands default norm) j lt = in_range base 0 m ((base + m) ∷ []) j (base + j) lt (omega arith)
input_place base m node value (Plain o jump) j lt = in_range base 0 m ((base + m) ∷ []) j (base + j) lt (omega arith)
input_place base m node value GiveBack j lt = in_range base 0 m [] j (base + j) lt (omega arith)
input_place base m node value GiveUp j lt = in_range base 0 m [] j (base + j) lt (omega arith)

pub result_place : (base m node : ℕ) (value : Bool) (form : Form) → has_result form ≡ true → place_of (base + m) (variables_of (numbered base m node value form)) ≡ Some m
result_place base m node value (Go jump) e = cc
result_place base m node value (Fork test so other_way) e = cc
result_place base m node value (Does o args covers hands default norm) e = behind_range base 0 m [] (base + m) (omega arith)
result_place base m node value (Plain o jump) e = behind_range base 0 m [] (base + m) (omega arith)
result_place base m node value GiveBack e = cc
result_place base m node value GiveUp e = cc

-- what is found at a place is there
pub is_there : (v : ℕ) (vs : List ℕ) (j : ℕ) → place_of v vs ≡ Some j → Contains vs v
is_there v [] j e = cc
is_there v (w ∷ vs) j e = by_test (w == v) refl e (λ k found. is_there v vs k found)
  where
    later : Contains vs v → Contains (w ∷ vs) v
    later c = (suc c.0, omega (arith, c.1), c.2)

    by_place : (o : Option ℕ) → place_of v vs ≡ o → option_map suc o ≡ Some j → ((k : ℕ) → place_of v vs ≡ Some k → Contains vs v) → Contains (w ∷ vs) v
    by_place None found same rest = cc
    by_place (Some k) found same rest = later (rest k found)

    by_test : (b : Bool) → (w == v) ≡ b → (if b then Some 0 else option_map suc (place_of v vs)) ≡ Some j → ((k : ℕ) → place_of v vs ≡ Some k → Contains vs v) → Contains (w ∷ vs) v
    by_test true same found rest = (0, omega arith, eqb-true w v same)
    by_test false same found rest = by_place (place_of v vs) refl found rest

-- ---- numbers of variables

past_all_least : (vs : List ℕ) (most : ℕ) → most ≤ past_all vs most
past_all_least [] most = omega arith
past_all_least (v ∷ vs) most = let rest = past_all_least vs (max most (v + 1)) in omega (arith, rest)

past_ops_least : (os : List Op) (most : ℕ) → most ≤ past_ops os most
past_ops_least [] most = omega arith
past_ops_least (o ∷ os) most = let rest = past_ops_least os (max most (o.result + 1)) in omega (arith, rest)

past_blocks_least : (bs : List Block) (most : ℕ) → most ≤ past_blocks bs most
past_blocks_least [] most = omega arith
past_blocks_least (b ∷ bs) most =
    let one = past_all_least b.inputs most in
    let two = past_ops_least b.ops (past_all b.inputs most) in
    let rest = past_blocks_least bs (past_ops b.ops (past_all b.inputs most)) in
    omega (arith, one, two, rest)

-- those of a block, inputs and results as one
past_results : (os : List Op) (most : ℕ) → past_ops os most ≡ past_all (results os) most
past_results [] most = refl
past_results (o ∷ os) most = past_results os (max most (o.result + 1))

past_both : (vs ws : List ℕ) (most : ℕ) → past_all (vs ++ ws) most ≡ past_all ws (past_all vs most)
past_both [] ws most = refl
past_both (v ∷ vs) ws most = past_both vs ws (max most (v + 1))

past_variables : (b : Block) (most : ℕ) → past_ops b.ops (past_all b.inputs most) ≡ past_all (variables_of b) most
past_variables b most = past_results b.ops (past_all b.inputs most) ∙ sym (past_both b.inputs (results b.ops) most)

below_all : (v : ℕ) (vs : List ℕ) (most k : ℕ) → k < length vs → get_or vs k v ≡ v → v < past_all vs most
below_all v [] most k lt e = absurd (omega (arith, lt))
below_all v (w ∷ vs) most zero lt e =
    let rest = past_all_least vs (max most (w + 1)) in
    let same : w ≡ v = e in
    omega (arith, rest, same)
below_all v (w ∷ vs) most (suc k) lt e = below_all v vs (max most (w + 1)) k (omega (arith, lt)) e

pub below_blocks : (v : ℕ) (bs : List Block) (most b : ℕ) (block : Block) → slice_get bs b ≡ Some block → Contains (variables_of block) v → v < past_blocks bs most
below_blocks v [] most b block e c = cc
below_blocks v (x ∷ bs) most zero block e c =
    let same : x ≡ block = cc in
    let here : v < past_all (variables_of block) most = below_all v (variables_of block) most c.0 c.1 c.2 in
    let one : past_ops x.ops (past_all x.inputs most) ≡ past_all (variables_of block) most = past_variables x most ∙ ap (λ (y : Block). past_all (variables_of y) most) same in
    let rest = past_blocks_least bs (past_ops x.ops (past_all x.inputs most)) in
    omega (arith, here, one, rest)
below_blocks v (x ∷ bs) most (suc b) block e c = below_blocks v bs (past_ops x.ops (past_all x.inputs most)) b block e c

-- ---- owners

-- a variable that no other block has is found at its place in its block
found : (v j first : ℕ) (bs : List Block) (b : ℕ) (block : Block) (n : ℕ) → n ≡ first + b → slice_get bs b ≡ Some block → place_of v (variables_of block) ≡ Some j
    → ((i : ℕ) (other : Block) → slice_get bs i ≡ Some other → Contains (variables_of other) v → i ≡ b) → owner v first bs ≡ Some (n, j)
found v j first [] b block n is e place only = cc
found v j first (x ∷ bs) zero block n is e place only =
    let same : x ≡ block = cc in
    let number : first ≡ n = omega (arith, is) in
    ap (λ (y : Block). here_or first (place_of v (variables_of y)) (owner v (suc first) bs)) same
    ∙ ap (λ o. here_or first o (owner v (suc first) bs)) place
    ∙ ap (λ k. Some (k, j)) number
found v j first (x ∷ bs) (suc b) block n is e place only =
    by_place (place_of v (variables_of x)) refl (found v j (suc first) bs b block n (omega (arith, is)) e place (λ i other at c. let k : suc i ≡ suc b = only (suc i) other at c in omega (arith, k)))
  where
    by_place : (o : Option ℕ) → place_of v (variables_of x) ≡ o → owner v (suc first) bs ≡ Some (n, j) → here_or first o (owner v (suc first) bs) ≡ Some (n, j)
    by_place None there rest = rest
    by_place (Some k) there rest = let zeroth : 0 ≡ suc b = only 0 x refl (is_there v (variables_of x) k there) in absurd (omega (arith, zeroth))

pub owned : (blocks : List Block) → HaveOwnVariables blocks → (v j b : ℕ) (block : Block) → slice_get blocks b ≡ Some block → place_of v (variables_of block) ≡ Some j → owner v 0 blocks ≡ Some (b, j)
owned blocks own v j b block e place = found v j 0 blocks b block b (omega arith) e place (λ i other at c. own i b v other block at e c (is_there v (variables_of block) j place))
