-- What holds of the operations and blocks that the explicit program is made of.
use Rattle.std.proofs.Common.{◌≡◌, ℕ, ◌+◌, Bool, true, false, ◌&&◌, ◌||◌, List, [], ◌∷◌, ◌++◌, length, Option, Some, None, refl, sym, ap, ◌∙◌, subst, arith}
use Rattle.std.specs.Prelude.{slice_get, cond, is_some}
use Rattle.csub_tree.specs.declared.tree.CBinary.TheVariants.{Peq}
use Rattle.csub_tree.specs.declared.tree.CConst.TheVariants as constant
use Rattle.csub_tree.specs.declared.tree.COperand.TheVariants.{Var, Const}
use Rattle.ll_code.specs.declared.program.LlType.{LlType}
use Rattle.ll_code.specs.declared.program.LlType.TheVariants as type
use Rattle.ll_code.specs.declared.program.LlLink.{LlLink}
use Rattle.ll_code.specs.declared.program.LlOp.{LlOp}
use Rattle.ll_code.specs.declared.program.LlOp.TheVariants as op
use Rattle.ll_code.specs.declared.program.LlExit.{LlExit}
use Rattle.ll_code.specs.declared.program.LlExit.TheVariants as exit
use Rattle.ll_code.specs.declared.program.LlBlock.{LlBlock}
use Rattle.ll_code.specs.declared.program.LlGraph.{LlGraph}
use Rattle.ll_code.specs.declared.program.LlProgram.{LlProgram}
use Rattle.ll_laws.proofs.Values.{and_left, and_right, has_type_is}
use Rattle.exc_transform.specs.declared.pieces.Ending.{Ending}
use Rattle.exc_transform.specs.declared.pieces.Ending.TheVariants.{Leaves, Raises, Tested}
use Rattle.exc_transform.specs.Explicit.{is_calm, led_to, or_else, kind_of, raising_by, raising, testing, taking, same_led, giving, left_ops, way_ops, raised_ops}
use Rattle.exc_transform.specs.Explicit as spec
use Rattle.exc_transform.specs.Raising.{may_raise, exit_leaves, some_raises, raises_within}
use Rattle.exc_transform.specs.Pieces.{Around, test_types, way_block, onward, ending_in, ops_by, piece, piece_ops, rest_block, rest_blocks, behind_by, behind, behind_block, firsts, others, blocks_of}
use Rattle.exc_transform.proofs.Without.{raises_is, tested_calm, leaves_calm}
use Rattle.exc_laws.specs.Ready.{marks_of, any_of, exceptions_of}
use Rattle.exc_laws.specs.Stands.{around_in}
use Rattle.exc_laws.proofs.Tests.{and_both, or_first, or_second, get_right}
use Rattle.exc_laws.proofs.Pieces.{tested_raises}
use Rattle.exc_ready.specs.Raisable.{root_of, is_exception, raises_alike, exit_raises_alike, ops_raisable, block_raisable, blocks_raisable}

-- ---- lists of operations and of blocks

abbrev pub ops_all : (LlOp → Bool) → List LlOp → Bool
ops_all holds [] = true
ops_all holds (o ∷ ops) = holds o && ops_all holds ops

abbrev pub blocks_all : (LlBlock → Bool) → List LlBlock → Bool
blocks_all holds [] = true
blocks_all holds (block ∷ blocks) = holds block && blocks_all holds blocks

pub ops_both : (holds : LlOp → Bool) (xs ys : List LlOp) → ops_all holds xs ≡ true → ops_all holds ys ≡ true → ops_all holds (xs ++ ys) ≡ true
ops_both holds [] ys h k = k
ops_both holds (x ∷ xs) ys h k = and_both (holds x) (ops_all holds (xs ++ ys)) (and_left _ _ h) (ops_both holds xs ys (and_right (holds x) _ h) k)

pub blocks_both : (holds : LlBlock → Bool) (xs ys : List LlBlock) → blocks_all holds xs ≡ true → blocks_all holds ys ≡ true → blocks_all holds (xs ++ ys) ≡ true
blocks_both holds [] ys h k = k
blocks_both holds (x ∷ xs) ys h k = and_both (holds x) (blocks_all holds (xs ++ ys)) (and_left _ _ h) (blocks_both holds xs ys (and_right (holds x) _ h) k)

-- ---- blocks that are made: what holds of the rests of blocks

module _ (around : Around) (holds : LlBlock → Bool) (Rest : List LlOp → LlExit → Type 0) (next : (o : LlOp) (ops : List LlOp) (e : LlExit) → Rest (o ∷ ops) e → Rest ops e)
    (way_holds : (rest : List LlOp) (e : LlExit) → Rest rest e → holds (way_block around rest e) ≡ true) (rest_holds : (o : LlOp) (rest : List LlOp) (e : LlExit) (way : ℕ) → ending_in around o ≡ Tested → Rest (o ∷ rest) e → holds (rest_block around rest e way) ≡ true) where
  behind_all : (ops : List LlOp) (e : LlExit) (way : ℕ) → Rest ops e → blocks_all holds (behind around way ops e) ≡ true
  behind_all [] e way r = refl
  behind_all (o ∷ rest) e way r = by (λ way. behind_all rest e way (next o rest e r)) (ending_in around o) refl
    where
      rests : ending_in around o ≡ Tested → ((way : ℕ) → blocks_all holds (behind around way rest e) ≡ true) → (b : Bool) → blocks_all holds (rest_blocks around rest e way b (behind around (way + 2) rest e)) ≡ true
      rests f go true = refl
      rests f go false = and_both (holds (rest_block around rest e (way + 2))) (blocks_all holds (behind around (way + 2) rest e)) (rest_holds o rest e (way + 2) f r) (go (way + 2))

      by : ((way : ℕ) → blocks_all holds (behind around way rest e) ≡ true) → (x : Ending) → ending_in around o ≡ x → blocks_all holds (behind_by around rest e way x (behind around (way + 2) rest e) (behind around way rest e)) ≡ true
      by go (Raises v) f = refl
      by go Tested f = and_both (holds (way_block around rest e)) (blocks_all holds (rest_blocks around rest e way (is_some (onward rest e)) (behind around (way + 2) rest e))) (way_holds rest e (next o rest e r)) (rests f go (is_some (onward rest e)))
      by go Leaves f = go way

  -- each block, and the first piece of each
  abbrev pub AllFirst : List LlBlock → Type 0
  AllFirst [] = Unit {0}
  AllFirst (block ∷ blocks) = Rest block.ops block.exit × ((way : ℕ) → holds (piece around block.inputs block.ops block.exit way) ≡ true) × AllFirst blocks

  firsts_all : (blocks : List LlBlock) (n : ℕ) → AllFirst blocks → blocks_all holds (firsts around n blocks) ≡ true
  firsts_all [] n h = refl
  firsts_all (block ∷ blocks) n h =
      and_both (holds (piece around block.inputs block.ops block.exit n)) (blocks_all holds (firsts around (n + length (behind_block around n block)) blocks)) (h.1 n) (firsts_all blocks (n + length (behind_block around n block)) h.2)

  others_all : (blocks : List LlBlock) (n : ℕ) → AllFirst blocks → blocks_all holds (others around n blocks) ≡ true
  others_all [] n h = refl
  others_all (block ∷ blocks) n h =
      blocks_both holds (behind_block around n block) (others around (n + length (behind_block around n block)) blocks) (behind_all block.ops block.exit n h.0) (others_all blocks (n + length (behind_block around n block)) h.2)

  pub made_all : (blocks : List LlBlock) → AllFirst blocks → blocks_all holds (blocks_of around blocks) ≡ true
  made_all blocks h = blocks_both holds (firsts around (length blocks) blocks) (others around (length blocks) blocks) (firsts_all blocks (length blocks) h) (others_all blocks (length blocks) h)

-- ---- operations that are made

-- and of what is asked besides of each rest of a block
module _ (p : LlProgram) (Other : List LlOp → LlExit → Type 0) (other_next : (o : LlOp) (ops : List LlOp) (e : LlExit) → Other (o ∷ ops) e → Other ops e) (g : LlGraph) where
  abbrev pub More : List LlType
  More = test_types (exceptions_of p) (raises_within (marks_of p) (any_of p) g.blocks)

  abbrev pub Types : List LlType
  Types = g.types ++ More

  abbrev pub Excepts : ℕ → Type 0
  Excepts a = is_exception (root_of p) g.types a ≡ true

  -- the two variables for tests are there
  abbrev pub HasTests : Type 0
  HasTests = (slice_get Types (length g.types) ≡ Some (type.Ptr (kind_of (exceptions_of p)))) × (slice_get Types (length g.types + 1) ≡ Some type.Bool)

  pub has_tests : raises_within (marks_of p) (any_of p) g.blocks ≡ true → HasTests
  has_tests e =
      let f : length g.types ≡ length g.types + 0 = omega arith in
      (ap (slice_get Types) f ∙ get_right g.types More 0 ∙ ap (λ b. slice_get (test_types (exceptions_of p) b) 0) e, get_right g.types More 1 ∙ ap (λ b. slice_get (test_types (exceptions_of p) b) 1) e)

  -- what holds of each operation that is made
  pub record Accepts (holds : LlOp → Bool) : Type 0 where
    pub alone : (v : ℕ) → (exceptions_of p).kind ≡ None → Excepts v → holds (op.ExcSet v v) ≡ true
    pub names : HasTests → (n v : ℕ) → (exceptions_of p).kind ≡ Some n → Excepts v → holds (op.GetField (length g.types) (root_of p) v 0) ≡ true
    pub puts : HasTests → (v : ℕ) → Excepts v → holds (op.ExcSet (length g.types) v) ≡ true
    pub asks : HasTests → holds (op.ExcType (length g.types) (kind_of (exceptions_of p))) ≡ true
    pub tests : HasTests → holds (op.Binary (length g.types + 1) Peq (Var (length g.types)) (Const constant.Null)) ≡ true
    pub takes : (a : ℕ) → Excepts a → holds (op.ExcValue a (root_of p)) ≡ true
    pub clears : holds op.ExcClear ≡ true
    pub gives : (a v : ℕ) (by without : LlLink) → Other (op.Raise v ∷ []) (exit.OnRaise a (Some by) without) → Excepts a → Excepts v → holds (op.Set a (Var v)) ≡ true

  module _ (holds : LlOp → Bool) (accepts : Accepts holds) where
    abbrev Holds : List LlOp → Type 0
    Holds ops = ops_all holds ops ≡ true

    pub raising_all : HasTests → (v : ℕ) → Excepts v → Holds (raising (exceptions_of p) (length g.types) v)
    raising_all t v h = by (exceptions_of p).kind refl
      where
        by : (o : Option ℕ) → (exceptions_of p).kind ≡ o → Holds (raising_by (root_of p) o (length g.types) v)
        by None e = and_both (holds (op.ExcSet v v)) true (accepts.alone v e h) refl
        by (Some n) e = and_both (holds (op.GetField (length g.types) (root_of p) v 0)) (ops_all holds (op.ExcSet (length g.types) v ∷ [])) (accepts.names t n v e h) (and_both (holds (op.ExcSet (length g.types) v)) true (accepts.puts t v h) refl)

    pub testing_all : HasTests → Holds (testing (exceptions_of p) (length g.types) (length g.types + 1))
    testing_all t =
        and_both (holds (op.ExcType (length g.types) (kind_of (exceptions_of p)))) (ops_all holds (op.Binary (length g.types + 1) Peq (Var (length g.types)) (Const constant.Null) ∷ [])) (accepts.asks t)
        (and_both (holds (op.Binary (length g.types + 1) Peq (Var (length g.types)) (Const constant.Null))) true (accepts.tests t) refl)

    pub taking_all : (a : ℕ) → Excepts a → Holds (taking (exceptions_of p) g.types a)
    taking_all a h =
        let led : led_to g.types a ≡ Some (root_of p) = ap spec.pointed (has_type_is (type.Ptr (root_of p)) (slice_get g.types a) h) in
        and_both (holds (op.ExcValue a (or_else (root_of p) (led_to g.types a)))) (ops_all holds (op.ExcClear ∷ [])) (ap (λ o. holds (op.ExcValue a (or_else (root_of p) o))) led ∙ accepts.takes a h)
        (and_both (holds op.ExcClear) true accepts.clears refl)

    pub giving_all : HasTests → (a v : ℕ) (by without : LlLink) → Other (op.Raise v ∷ []) (exit.OnRaise a (Some by) without) → Excepts a → Excepts v → Holds (giving (exceptions_of p) g.types (length g.types) a v)
    giving_all t a v way without other h k = choose (same_led (led_to g.types a) (led_to g.types v))
      where
        choose : (b : Bool) → Holds (cond b (op.Set a (Var v) ∷ []) (raising (exceptions_of p) (length g.types) v ++ taking (exceptions_of p) g.types a))
        choose true = and_both (holds (op.Set a (Var v))) true (accepts.gives a v way without other h k) refl
        choose false = ops_both holds (raising (exceptions_of p) (length g.types) v) (taking (exceptions_of p) g.types a) (raising_all t v k) (taking_all a h)

    pub left_all : (e : LlExit) → exit_raises_alike (root_of p) g.types e ≡ true → (exit_leaves e ≡ true → HasTests) → Holds (left_ops (exceptions_of p) (length g.types) e)
    left_all (exit.Raise v) h t = raising_all (t refl) v h
    left_all other h t = refl

    pub way_all : (rest : List LlOp) (e : LlExit) → exit_raises_alike (root_of p) g.types e ≡ true → Holds (way_ops (exceptions_of p) g.types rest e)
    way_all [] (exit.OnRaise a (Some by) without) h = taking_all a h
    way_all [] (exit.OnRaise a None without) h = refl
    way_all [] other h = refl
    way_all (o ∷ rest) e h = refl

    pub raised_all : HasTests → (v : ℕ) → Excepts v → (rest : List LlOp) (e : LlExit) → Other (op.Raise v ∷ rest) e → exit_raises_alike (root_of p) g.types e ≡ true
        → Holds (raised_ops (exceptions_of p) g.types (length g.types) v rest e)
    raised_all t v k [] (exit.OnRaise a (Some by) without) other h = giving_all t a v by without other h k
    raised_all t v k [] (exit.OnRaise a None without) other h = raising_all t v k
    raised_all t v k [] else other h = raising_all t v k
    raised_all t v k (o ∷ rest) e other h = raising_all t v k

    -- ---- rests of blocks

    -- it holds of each operation that raises nothing itself
    abbrev pub Own : List LlOp → Type 0
    Own [] = Unit {0}
    Own (o ∷ ops) = (is_calm o ≡ true → holds o ≡ true) × Own ops

    pub record Rest (ops : List LlOp) (e : LlExit) : Type 0 where
      pub own : Own ops
      pub other : Other ops e
      pub raises : ops_raisable (root_of p) g.types ops e ≡ true
      pub end : exit_raises_alike (root_of p) g.types e ≡ true
      pub need : (exit_leaves e || some_raises (marks_of p) (any_of p) ops) ≡ true → HasTests

    pub rest_next : (o : LlOp) (ops : List LlOp) (e : LlExit) → Rest (o ∷ ops) e → Rest ops e
    rest_next o ops e r = record { own = r.own.1; other = other_next o ops e r.other; raises = and_right _ _ r.raises; end = r.end; need = λ h. r.need (more (exit_leaves e) (may_raise (marks_of p) (any_of p) o) (some_raises (marks_of p) (any_of p) ops) h) }
      where
        more : (a b c : Bool) → (a || c) ≡ true → (a || (b || c)) ≡ true
        more true b c h = refl
        more false b c h = or_second b c h

    pub need_here : (o : LlOp) (ops : List LlOp) (e : LlExit) → Rest (o ∷ ops) e → may_raise (marks_of p) (any_of p) o ≡ true → HasTests
    need_here o ops e r m = r.need (or_second (exit_leaves e) _ (or_first (may_raise (marks_of p) (any_of p) o) _ m))

    pub piece_all : (ops : List LlOp) (e : LlExit) → Rest ops e → Holds (piece_ops (around_in p g) ops e)
    piece_all [] e r = left_all e r.end (λ f. r.need (or_first (exit_leaves e) false f))
    piece_all (o ∷ rest) e r = by (piece_all rest e (rest_next o rest e r)) (ending_in (around_in p g) o) refl
      where
        by : Holds (piece_ops (around_in p g) rest e) → (x : Ending) → ending_in (around_in p g) o ≡ x → Holds (ops_by (around_in p g) o rest e x (piece_ops (around_in p g) rest e))
        by go (Raises v) f =
            let is : o ≡ op.Raise v = raises_is (marks_of p) (any_of p) o v f in
            raised_all (need_here o rest e r (subst (λ o. may_raise (marks_of p) (any_of p) o ≡ true) (sym is) refl)) v
            (subst (λ o. raises_alike (root_of p) g.types o ≡ true) is (and_left _ _ (and_left _ _ (and_left _ _ r.raises)))) rest e (subst (λ o. Other (o ∷ rest) e) is r.other) r.end
        by go Tested f =
            let c = tested_calm (marks_of p) (any_of p) o f in
            and_both (holds o) (ops_all holds (testing (exceptions_of p) (length g.types) (length g.types + 1))) (r.own.0 c.0) (testing_all (need_here o rest e r (tested_raises (marks_of p) (any_of p) o c.1)))
        by go Leaves f = and_both (holds o) (ops_all holds (piece_ops (around_in p g) rest e)) (r.own.0 (leaves_calm (marks_of p) (any_of p) o f)) go

    -- ---- the blocks of the graph

    abbrev pub on_ops : LlBlock → Bool
    on_ops block = ops_all holds block.ops

    abbrev pub OwnAll : List LlBlock → Type 0
    OwnAll [] = Unit {0}
    OwnAll (block ∷ blocks) = Own block.ops × Other block.ops block.exit × OwnAll blocks

    pub block_rest : (block : LlBlock) → block_raisable p g.types block ≡ true → Own block.ops → Other block.ops block.exit
        → ((exit_leaves block.exit || some_raises (marks_of p) (any_of p) block.ops) ≡ true → HasTests) → Rest block.ops block.exit
    block_rest block h own other t = record { own = own; other = other; raises = and_right _ _ (and_left _ _ h); end = and_right _ _ h; need = t }

    way_holds : (rest : List LlOp) (e : LlExit) → Rest rest e → on_ops (way_block (around_in p g) rest e) ≡ true
    way_holds rest e r = way_all rest e r.end

    rest_holds : (o : LlOp) (rest : List LlOp) (e : LlExit) (way : ℕ) → ending_in (around_in p g) o ≡ Tested → Rest (o ∷ rest) e → on_ops (rest_block (around_in p g) rest e way) ≡ true
    rest_holds o rest e way f r = piece_all rest e (rest_next o rest e r)

    firsts_hold : (blocks : List LlBlock) → blocks_raisable p g.types blocks ≡ true → OwnAll blocks → (raises_within (marks_of p) (any_of p) blocks ≡ true → HasTests)
        → AllFirst (around_in p g) on_ops Rest rest_next way_holds rest_holds blocks
    firsts_hold [] h own t = tt
    firsts_hold (b ∷ blocks) h own t =
        let rest : Rest b.ops b.exit = block_rest b (and_left _ _ h) own.0 own.1 (λ f. t (or_first (exit_leaves b.exit || some_raises (marks_of p) (any_of p) b.ops) _ f)) in
        (rest, (λ way. piece_all b.ops b.exit rest), firsts_hold blocks (and_right (block_raisable p g.types b) _ h) own.2 (λ f. t (or_second (exit_leaves b.exit || some_raises (marks_of p) (any_of p) b.ops) _ f)))

    pub graph_holds : blocks_raisable p g.types g.blocks ≡ true → OwnAll g.blocks → blocks_all on_ops (blocks_of (around_in p g) g.blocks) ≡ true
    graph_holds h own = made_all (around_in p g) on_ops Rest rest_next way_holds rest_holds g.blocks (firsts_hold g.blocks h own has_tests)
