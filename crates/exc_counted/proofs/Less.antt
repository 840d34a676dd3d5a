-- The explicit program makes no blocks but of structs of which the program makes some: what it counts the program counts.
use Rattle.std.proofs.Common.{◌≡◌, ℕ, zero, suc, Bool, true, false, ◌&&◌, ◌||◌, List, [], ◌∷◌, length, map, Option, Some, None, refl, sym, ap, ◌∙◌}
use Rattle.std.specs.Prelude.{cond, not, nat_lt}
use Rattle.ll_code.specs.declared.program.LlType.{LlType}
use Rattle.ll_code.specs.declared.program.LlType.TheVariants as type
use Rattle.ll_code.specs.declared.program.LlStruct.{LlStruct}
use Rattle.ll_code.specs.declared.program.LlOp.{LlOp}
use Rattle.ll_code.specs.declared.program.LlExit.{LlExit}
use Rattle.ll_code.specs.declared.program.LlBlock.{LlBlock}
use Rattle.ll_code.specs.declared.program.LlGraph.{LlGraph}
use Rattle.ll_code.specs.declared.program.LlProgram.{LlProgram}
use Rattle.ll_laws.proofs.Values.{and_left, and_right}
use Rattle.exc_transform.specs.Explicit.{graphs_calm}
use Rattle.exc_transform.specs.Pieces.{blocks_of, graph_of, graphs_of, explicit}
use Rattle.exc_laws.specs.Ready.{marks_of, exceptions_of}
use Rattle.exc_laws.specs.Stands.{around_in, explicit_graph}
use Rattle.exc_laws.proofs.Tests.{and_both}
use Rattle.exc_ready.specs.Raisable.{graph_raisable, graphs_raisable, IsRaisable}
use Rattle.exc_ready.proofs.Filled.{none_first, none_second}
use Rattle.exc_ready.proofs.Passes.{is_not}
use Rattle.exc_ready.proofs.Made.{ops_all, blocks_all, Accepts, Own, OwnAll, on_ops, graph_holds}
use Rattle.refcount_transform.specs.Plan.{Plan, plan_of, root, made_by, has_root, ops_make, blocks_make, graphs_make, counted_from, is_marked, reference_to, reference_given, where_marked}
use Rattle.refcount_laws.specs.Made.{is_root_given, all_lead, structs_lead}
use Rattle.refcount_typed.specs.Numbered.{number_first, structs_numbered}

neither : (a b : Bool) → a ≡ false → b ≡ false → (a || b) ≡ false
neither true b e f = absurd (cc)
neither false b e f = f

-- ---- which blocks are made

module _ (p : LlProgram) (r : ℕ) where
  abbrev Any : List LlOp → LlExit → Type 0
  Any ops e = Unit {0}

  any_next : (o : LlOp) (ops : List LlOp) (e : LlExit) → Any (o ∷ ops) e → Any ops e
  any_next o ops e h = tt

  -- the operation makes and writes no block of a struct with this root
  abbrev makes_none : LlOp → Bool
  makes_none o = not (has_root p.structs r (made_by o))

  module _ (g : LlGraph) where
    accepts : Accepts p Any any_next g makes_none
    accepts = record { alone = λ v e h. refl; names = λ t n v e h. refl; puts = λ t v h. refl; asks = λ t. refl; tests = λ t. refl; takes = λ a h. refl; clears = refl; gives = λ a v by without o h k. refl }

    own_none : (ops : List LlOp) → ops_make p.structs r ops ≡ false → Own p Any any_next g makes_none accepts ops
    own_none [] h = tt
    own_none (o ∷ ops) h = (λ c. ap not (none_first (has_root p.structs r (made_by o)) _ h), own_none ops (none_second (has_root p.structs r (made_by o)) _ h))

    own_all : (blocks : List LlBlock) → blocks_make p.structs r blocks ≡ false → OwnAll p Any any_next g makes_none accepts blocks
    own_all [] h = tt
    own_all (b ∷ blocks) h = (own_none b.ops (none_first (ops_make p.structs r b.ops) _ h), tt, own_all blocks (none_second (ops_make p.structs r b.ops) _ h))

    ops_none : (ops : List LlOp) → ops_all makes_none ops ≡ true → ops_make p.structs r ops ≡ false
    ops_none [] h = refl
    ops_none (o ∷ ops) h = neither (has_root p.structs r (made_by o)) (ops_make p.structs r ops) (is_not (has_root p.structs r (made_by o)) (and_left _ _ h)) (ops_none ops (and_right (makes_none o) _ h))

    blocks_none : (blocks : List LlBlock) → blocks_all (on_ops p Any any_next g makes_none accepts) blocks ≡ true → blocks_make p.structs r blocks ≡ false
    blocks_none [] h = refl
    blocks_none (b ∷ blocks) h = neither (ops_make p.structs r b.ops) (blocks_make p.structs r blocks) (ops_none b.ops (and_left _ _ h)) (blocks_none blocks (and_right (ops_all makes_none b.ops) _ h))

    graph_none : graph_raisable p g ≡ true → blocks_make p.structs r g.blocks ≡ false → blocks_make p.structs r (explicit_graph p g).blocks ≡ false
    graph_none h k = blocks_none (blocks_of (around_in p g) g.blocks) (graph_holds p Any any_next g makes_none accepts (and_right _ _ h) (own_all g.blocks k))

  graphs_none : (graphs : List LlGraph) → graphs_raisable p graphs ≡ true → graphs_make p.structs r graphs ≡ false → graphs_make p.structs r (map (graph_of (exceptions_of p) (marks_of p)) graphs) ≡ false
  graphs_none [] h k = refl
  graphs_none (g ∷ graphs) h k =
      neither (blocks_make p.structs r (explicit_graph p g).blocks) (graphs_make p.structs r (map (graph_of (exceptions_of p) (marks_of p)) graphs)) (graph_none g (and_left _ _ h) (none_first (blocks_make p.structs r g.blocks) _ k))
      (graphs_none graphs (and_right (graph_raisable p g) _ h) (none_second (blocks_make p.structs r g.blocks) _ k))

  made_less : IsRaisable p → graphs_make p.structs r (explicit p).graphs ≡ true → graphs_make p.structs r p.graphs ≡ true
  made_less passes h = one (graphs_make p.structs r p.graphs) refl
    where
      calm : (b : Bool) → graphs_make p.structs r p.graphs ≡ false → graphs_make p.structs r (cond b p.graphs (graphs_of p.structs p.graphs)) ≡ false
      calm true e = e
      calm false e = graphs_none p.graphs (and_left _ _ passes) e

      one : (b : Bool) → graphs_make p.structs r p.graphs ≡ b → graphs_make p.structs r p.graphs ≡ true
      one true e = e
      one false e = absurd (let f : true ≡ false = sym h ∙ calm (graphs_calm p.graphs) e in cc)

-- ---- what is counted

counted_from_less : (structs : List LlStruct) (graphs more : List LlGraph) → ((r : ℕ) → graphs_make structs r graphs ≡ true → graphs_make structs r more ≡ true) → (k : ℕ) (ss : List LlStruct) (n : ℕ)
    → is_marked (counted_from structs graphs k ss) n ≡ true → is_marked (counted_from structs more k ss) n ≡ true
counted_from_less structs graphs more less k [] n h = absurd (cc)
counted_from_less structs graphs more less k (s ∷ ss) zero h = and_both (nat_lt (root structs k) (length structs)) (graphs_make structs (root structs k) more) (and_left _ _ h) (less (root structs k) (and_right (nat_lt (root structs k) (length structs)) _ h))
counted_from_less structs graphs more less k (s ∷ ss) (suc n) h = counted_from_less structs graphs more less (suc k) ss n h

module _ (p : LlProgram) (passes : IsRaisable p) where
  abbrev pub First : Plan
  First = plan_of p

  abbrev pub Second : Plan
  Second = plan_of (explicit p)

  pub counted_less : (n : ℕ) → is_marked Second.counted n ≡ true → is_marked First.counted n ≡ true
  counted_less n h = counted_from_less p.structs (explicit p).graphs p.graphs (λ r. made_less p r passes) 0 p.structs n h

  -- what refers in the explicit program refers in the program
  marked_less : (n m : ℕ) (b c : Bool) → (b ≡ true → c ≡ true) → where_marked n b ≡ Some m → where_marked n c ≡ Some m
  marked_less n m true true f e = e
  marked_less n m true false f e = absurd (let g : false ≡ true = f refl in cc)
  marked_less n m false c f e = absurd (cc)

  reference_less : (t : LlType) (m : ℕ) → reference_to Second.counted t ≡ Some m → reference_to First.counted t ≡ Some m
  reference_less (type.Ptr n) m e = marked_less n m (is_marked Second.counted n) (is_marked First.counted n) (counted_less n) e
  reference_less other m e = absurd (cc)

  pub given_less : (o : Option LlType) (m : ℕ) → reference_given Second.counted o ≡ Some m → reference_given First.counted o ≡ Some m
  given_less None m e = absurd (cc)
  given_less (Some t) m e = reference_less t m e

  -- what holds of each reference of the program
  pub if_referred : (holds : Option ℕ → Bool) → holds None ≡ true → (o : Option LlType) → holds (reference_given First.counted o) ≡ true → holds (reference_given Second.counted o) ≡ true
  if_referred holds none o h = one (reference_given Second.counted o) refl
    where
      one : (x : Option ℕ) → reference_given Second.counted o ≡ x → holds x ≡ true
      one None e = none
      one (Some m) e = ap holds (sym (given_less o m e)) ∙ h

  pub lead_less : (o : Option LlType) → is_root_given First (reference_given First.counted o) ≡ true → is_root_given Second (reference_given Second.counted o) ≡ true
  lead_less o h = if_referred (is_root_given First) refl o h

  pub all_lead_less : (ts : List LlType) → all_lead First ts ≡ true → all_lead Second ts ≡ true
  all_lead_less [] h = refl
  all_lead_less (t ∷ ts) h = and_both (is_root_given Second (reference_to Second.counted t)) (all_lead Second ts) (lead_less (Some t) (and_left _ _ h)) (all_lead_less ts (and_right (is_root_given First (reference_to First.counted t)) _ h))

  pub structs_lead_less : (ss : List LlStruct) → structs_lead First ss ≡ true → structs_lead Second ss ≡ true
  structs_lead_less [] h = refl
  structs_lead_less (s ∷ ss) h =
      and_both (all_lead Second s.fields && is_root_given Second (reference_given Second.counted s.items)) (structs_lead Second ss)
      (and_both (all_lead Second s.fields) (is_root_given Second (reference_given Second.counted s.items)) (all_lead_less s.fields (and_left _ _ (and_left _ _ h))) (lead_less s.items (and_right (all_lead First s.fields) _ (and_left _ _ h))))
      (structs_lead_less ss (and_right (all_lead First s.fields && is_root_given First (reference_given First.counted s.items)) _ h))

  pub numbered_less : (ss : List LlStruct) → structs_numbered First ss ≡ true → structs_numbered Second ss ≡ true
  numbered_less [] h = refl
  numbered_less (s ∷ ss) h =
      and_both (number_first s.fields (reference_given Second.counted s.items)) (structs_numbered Second ss) (if_referred (number_first s.fields) refl s.items (and_left _ _ h))
      (numbered_less ss (and_right (number_first s.fields (reference_given First.counted s.items)) _ h))
