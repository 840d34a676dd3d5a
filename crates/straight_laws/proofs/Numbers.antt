-- Blocks that stay are numbered anew, and the program of them does what the program does.
use Rattle.std.proofs.Common.{◌≡◌, ◌<◌, ◌≤◌, ◌^◌, ℕ, zero, suc, ◌+◌, ◌-◌, Bool, true, false, ◌||◌, ◌&&◌, not, ◌==◌, cond, List, [], ◌∷◌, ◌++◌, length, map, Option, Some, None, refl, sym, ap, ◌∙◌, subst, arith, ◌⊎◌, inl, inr}
use Rattle.std.specs.Prelude.{slice_get, option_map, min}
use Rattle.ll_code.specs.Typed.{IsWellTyped, graph_ok, blocks_ok}
use Rattle.ll_code.specs.declared.program.LlOp.{LlOp}
use Rattle.ll_code.specs.declared.program.LlExit.{LlExit}
use Rattle.ll_code.specs.declared.program.LlBlock.{LlBlock}
use Rattle.ll_code.specs.declared.program.LlGraph.{LlGraph}
use Rattle.ll_code.specs.declared.program.LlProgram.{LlProgram}
use Rattle.ll_laws.proofs.Values.{and_left, and_right, is_same, is_less}
use Rattle.ll_joined.specs.declared.count.Counts.{Counts}
use Rattle.ll_joined.specs.Named.{ByPairs, or_own, number_of}
use Rattle.ll_joined.specs.Counted.{one_more, has, zeros, taken_in}
use Rattle.ll_joined.specs.Joined.{inputs_of, way_from, way_at, joined_block, stays, block_if, joined_from, joined_blocks, next_if, numbers_from, numbers_of, numbers_in, ways_of}
use Rattle.joined_laws.proofs.Runs.{graph_typed}
use Rattle.joined_laws.proofs.Steps.{get_map}
use Rattle.joined_laws.specs.Straight.{block_at, exit_at}
use Rattle.turned_laws.specs.Ordered.{IsOrdered}
use Rattle.turned_laws.specs.Turned.{Turned, IsTurned, MayTurn, GraphTurned, MayTurnGraph, AreTurned}
use Rattle.turned_laws.proofs.Lists.{known, differ, none_true, opposite, same, either_of, or_left, or_right, within_list}
use Rattle.straight_laws.specs.Passes.{counts_in, ways_graph, ways, HasBlockNumbers}
use Rattle.straight_laws.proofs.Counting.{one_if, adds_size, zeros_size, each, taken_of, taken_is, has_within}
use Rattle.straight_laws.proofs.Trails.{C, T, Begins}
use Rattle.straight_laws.proofs.Ways.{heads, Calling, own_here, WayTurned, way_turned}

pub get_some : {A : Type 0} (xs : List A) (n : ℕ) → n < length xs → (x : A) × (slice_get xs n ≡ Some x)
get_some [] n lt = absurd (omega (arith, lt))
get_some (x ∷ xs) zero lt = (x, refl)
get_some (x ∷ xs) (suc n) lt = get_some xs n (omega (arith, lt))

module _ (all : List LlBlock) (counts : Counts) (taken : List ℕ) where
  -- how many of so many blocks stay, from this one on
  abbrev pub rank : ℕ → ℕ → ℕ
  rank i zero = 0
  rank i (suc j) = one_if (stays counts taken i) + rank (i + 1) j

  number_at : (next i : ℕ) (rest : List ℕ) (j : ℕ) → j < length rest → next + length rest < 2 ^ 64 → slice_get (numbers_from counts taken next i rest) j ≡ Some (next + rank i j)
  number_at next i [] j lt few = absurd (omega (arith, lt))
  number_at next i (n ∷ rest) zero lt few = ap Some (let e : next ≡ next + 0 = omega arith in e)
  number_at next i (n ∷ rest) (suc j) lt few = one (λ next few. number_at next (i + 1) rest j (omega (arith, lt)) few) (stays counts taken i)
    where
      one : ((next : ℕ) → next + length rest < 2 ^ 64 → slice_get (numbers_from counts taken next (i + 1) rest) j ≡ Some (next + rank (i + 1) j)) → (b : Bool) → slice_get (numbers_from counts taken (next_if b next) (i + 1) rest) j ≡ Some (next + (one_if b + rank (i + 1) j))
      one go true =
          let e : one_more next ≡ next + 1 = omega (arith, few) in
          ap (λ m. slice_get (numbers_from counts taken m (i + 1) rest) j) e ∙ go (next + 1) (omega (arith, few)) ∙ ap Some (let g : next + 1 + rank (i + 1) j ≡ next + (1 + rank (i + 1) j) = omega arith in g)
      one go false = go next (omega (arith, few)) ∙ ap Some (let g : next + rank (i + 1) j ≡ next + (0 + rank (i + 1) j) = omega arith in g)

  -- a block that stays stands at its number
  block_there : (i : ℕ) (blocks : List LlBlock) (j : ℕ) → j < length blocks → stays counts taken (i + j) ≡ true → slice_get (joined_from all counts taken i blocks) (rank i j) ≡ Some (joined_block all counts (i + j))
  block_there i [] j lt h = absurd (omega (arith, lt))
  block_there i (b ∷ blocks) zero lt h =
      let e : i + 0 ≡ i = omega arith in
      ap (λ t. slice_get (block_if t (joined_block all counts i) ++ joined_from all counts taken (i + 1) blocks) 0) (ap (stays counts taken) (sym e) ∙ h) ∙ ap (λ n. Some (joined_block all counts n)) (sym e)
  block_there i (b ∷ blocks) (suc j) lt h =
      let e : i + 1 + j ≡ i + suc j = omega arith in
      one (stays counts taken i) (block_there (i + 1) blocks j (omega (arith, lt)) (ap (stays counts taken) e ∙ h)) ∙ ap (λ n. Some (joined_block all counts n)) e
    where
      one : (t : Bool) → slice_get (joined_from all counts taken (i + 1) blocks) (rank (i + 1) j) ≡ Some (joined_block all counts (i + 1 + j)) → slice_get (block_if t (joined_block all counts i) ++ joined_from all counts taken (i + 1) blocks) (one_if t + rank (i + 1) j) ≡ Some (joined_block all counts (i + 1 + j))
      one true k = ap (slice_get (joined_block all counts i ∷ joined_from all counts taken (i + 1) blocks)) (let g : 1 + rank (i + 1) j ≡ suc (rank (i + 1) j) = omega arith in g) ∙ k
      one false k = ap (slice_get (joined_from all counts taken (i + 1) blocks)) (let g : 0 + rank (i + 1) j ≡ rank (i + 1) j = omega arith in g) ∙ k

  -- there are no others
  pub record Stayed (i most : ℕ) (block : LlBlock) : Type 0 where
    pub n : ℕ
    pub within : n < i + most
    pub stays : stays counts taken n ≡ true
    pub is : block ≡ joined_block all counts n

  block_from : (i : ℕ) (blocks : List LlBlock) (m : ℕ) (block : LlBlock) → slice_get (joined_from all counts taken i blocks) m ≡ Some block → Stayed i (length blocks) block
  block_from i [] m block e = absurd (cc)
  block_from i (b ∷ blocks) m block e = one (stays counts taken i) refl m (λ m e. block_from (i + 1) blocks m block e) e
    where
      further : Stayed (i + 1) (length blocks) block → Stayed i (length (b ∷ blocks)) block
      further s = record { n = s.n; within = (let h : s.n < i + 1 + length blocks = s.within in omega (arith, h)); stays = s.stays; is = s.is }

      one : (t : Bool) → stays counts taken i ≡ t → (m : ℕ) → ((m : ℕ) → slice_get (joined_from all counts taken (i + 1) blocks) m ≡ Some block → Stayed (i + 1) (length blocks) block) → slice_get (block_if t (joined_block all counts i) ++ joined_from all counts taken (i + 1) blocks) m ≡ Some block → Stayed i (length (b ∷ blocks)) block
      one true s zero go e = record { n = i; within = omega arith; stays = s; is = (let f : joined_block all counts i ≡ block = cc in sym f) }
      one true s (suc m) go e = further (go m e)
      one false s m go e = further (go m e)

module _ (p : LlProgram) (ok : IsWellTyped p) (ordered : IsOrdered p) (few : HasBlockNumbers p) (f : ℕ) (graph : LlGraph) (of : slice_get p.graphs f ≡ Some graph) where
  abbrev blocks : List LlBlock
  blocks = graph.blocks

  abbrev counts : Counts
  counts = C (length graph.types) blocks

  abbrev taken : List ℕ
  taken = T (length graph.types) blocks

  abbrev numbers : List ℕ
  numbers = numbers_of counts taken

  good : graph_ok p graph ≡ true
  good = graph_typed p p.graphs f graph (and_right _ _ (and_left _ _ ok)) of

  good_blocks : blocks_ok p graph blocks ≡ true
  good_blocks = and_right _ _ good

  some_block : 0 < length blocks
  some_block = is_less 0 (length blocks) (and_right _ _ (and_left _ _ good))

  taken_size : length taken ≡ length blocks
  taken_size = ap length (taken_is blocks counts) ∙ adds_size (each (taken_of blocks counts) blocks) (zeros (length blocks)) ∙ zeros_size (length blocks)

  head_within : (n : ℕ) → stays counts taken n ≡ true → n < length blocks
  head_within n h = one (either_of (n == 0) _ h)
    where
      one : (n == 0) ≡ true ⊎ (not (has 0 n counts.to) && has 0 n taken) ≡ true → n < length blocks
      one (inl e) = let z : n ≡ 0 = is_same n 0 e in let s : 0 < length blocks = some_block in omega (arith, z, s)
      one (inr e) = has_within (each (taken_of blocks counts) blocks) (length blocks) 0 n (sym (ap (has 0 n) (taken_is blocks counts)) ∙ and_right (not (has 0 n counts.to)) _ e)

  number_is : (n : ℕ) → n < length blocks → number_of numbers n ≡ rank blocks counts taken 0 n
  number_is n lt =
      ap (or_own n) (number_at blocks counts taken 0 0 taken n (let s : length taken ≡ length blocks = taken_size in omega (arith, s, lt)) (let s : length taken ≡ length blocks = taken_size in let l : length blocks + 1 < 2 ^ 64 = few f graph of in omega (arith, s, l)))
      ∙ (let e : 0 + rank blocks counts taken 0 n ≡ rank blocks counts taken 0 n = omega arith in e)

  -- a way does what its first block leads to
  way_does : (n : ℕ) → stays counts taken n ≡ true → (block : LlBlock) → slice_get blocks n ≡ Some block → IsTurned graph.types blocks numbers (λ n. stays counts taken n) block (block_at numbers (joined_block blocks counts n))
  way_does n h block at = record {
    inputs = ap inputs_of at;
    names = ByPairs [];
    own = λ v i. refl;
    moves = way.moves;
    text = subst (λ made. Turned graph.types blocks numbers (λ n. stays counts taken n) way.moves (ByPairs []) block.ops block.exit made.0 (exit_at numbers made.1)) (sym way.is) way.text;
  }
    where
      way : WayTurned p graph good_blocks (λ n b e. ordered.reads f graph of n b e) (λ n b e. ordered.apart f graph of n b e) numbers [] [] block (way_from blocks counts (length blocks) (way_at n))
      way = way_turned p graph good_blocks (λ n b e. ordered.reads f graph of n b e) (λ n b e. ordered.apart f graph of n b e) numbers (length blocks) n h n [] [] block [] Begins at (record { others = λ v i. refl; values = λ v. inl refl; kinds = λ v. refl }) (own_here p graph good_blocks (λ n b e. ordered.reads f graph of n b e) (λ n b e. ordered.apart f graph of n b e) numbers block) (omega arith)

  made_there : (n : ℕ) → stays counts taken n ≡ true → slice_get (ways_graph graph).blocks (number_of numbers n) ≡ Some (block_at numbers (joined_block blocks counts n))
  made_there n h =
      let lt : n < length blocks = head_within n h in
      let e : 0 + n ≡ n = omega arith in
      ap (slice_get (ways_graph graph).blocks) (number_is n lt) ∙ get_map (block_at numbers) (joined_from blocks counts taken 0 blocks) (rank blocks counts taken 0 n)
      ∙ ap (option_map (block_at numbers)) (block_there blocks counts taken 0 blocks n lt (ap (stays counts taken) e ∙ h) ∙ ap (λ n. Some (joined_block blocks counts n)) e)

  pub way_graph_turned : GraphTurned graph (ways_graph graph)
  way_graph_turned = record {
    name = refl;
    params = refl;
    result = refl;
    types = refl;
    numbers = numbers;
    heads = λ n. stays counts taken n;
    first = refl;
    first_number = number_is 0 some_block;
    blocks = λ n h. (let found = get_some blocks n (head_within n h) in
        subst (λ o. MayTurn graph.types blocks numbers (λ n. stays counts taken n) o (slice_get (ways_graph graph).blocks (number_of numbers n))) (sym found.1)
        (subst (λ o. MayTurn graph.types blocks numbers (λ n. stays counts taken n) (Some found.0) o) (sym (made_there n h)) (way_does n h found.0 found.1)));
    from = λ m block e. one m block e (slice_get (joined_from blocks counts taken 0 blocks) m) refl (sym (get_map (block_at numbers) (joined_from blocks counts taken 0 blocks) m) ∙ e);
  }
    where
      one : (m : ℕ) (block : LlBlock) → slice_get (ways_graph graph).blocks m ≡ Some block → (o : Option LlBlock) → slice_get (joined_from blocks counts taken 0 blocks) m ≡ o → option_map (block_at numbers) o ≡ Some block
          → (n : ℕ) × (old : LlBlock) × (slice_get blocks n ≡ Some old) × IsTurned graph.types blocks numbers (λ n. stays counts taken n) old block
      one m block e None g h = absurd (cc)
      one m block e (Some made) g h =
          let s = block_from blocks counts taken 0 blocks m made g in
          let lt : s.n < 0 + length blocks = s.within in
          let found = get_some blocks s.n (omega (arith, lt)) in
          let same_block : block_at numbers made ≡ block = cc in
          (s.n, found.0, found.1, subst (IsTurned graph.types blocks numbers (λ n. stays counts taken n) found.0) (ap (block_at numbers) (sym s.is) ∙ same_block) (way_does s.n s.stays found.0 found.1))

pub ways_turned : (p : LlProgram) → IsWellTyped p → IsOrdered p → HasBlockNumbers p → AreTurned p (map ways_graph p.graphs)
ways_turned p ok ordered few f = subst (MayTurnGraph (slice_get p.graphs f)) (sym (get_map ways_graph p.graphs f)) (one (slice_get p.graphs f) refl)
  where
    one : (o : Option LlGraph) → slice_get p.graphs f ≡ o → MayTurnGraph o (option_map ways_graph o)
    one None e = tt
    one (Some graph) e = way_graph_turned p ok ordered few f graph e
