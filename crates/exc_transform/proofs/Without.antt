-- Nothing raises in what is made, and nothing catches.
use Rattle.std.proofs.Common.{arith, ◌≡◌, ℕ, ◌+◌, Bool, true, false, ◌&&◌, List, [], ◌∷◌, ◌++◌, length, map, Option, Some, None, refl, ap, ◌∙◌}
use Rattle.std.specs.Prelude.{cond, is_some}
use Rattle.csub_tree.specs.declared.tree.COperand.TheVariants.{Var}
use Rattle.ll_code.specs.declared.program.LlStage.TheVariants.{Explicit}
use Rattle.ll_code.specs.declared.program.LlType.{LlType}
use Rattle.ll_code.specs.declared.program.LlStruct.{LlStruct}
use Rattle.ll_code.specs.declared.program.LlOp.{LlOp}
use Rattle.ll_code.specs.declared.program.LlOp.TheVariants as op
use Rattle.ll_code.specs.declared.program.LlExit.{LlExit}
use Rattle.ll_code.specs.declared.program.LlExit.TheVariants as exit
use Rattle.ll_code.specs.declared.program.LlBlock.{LlBlock}
use Rattle.ll_code.specs.declared.program.LlGraph.{LlGraph}
use Rattle.ll_code.specs.declared.program.LlProgram.{LlProgram}
use Rattle.exc_transform.specs.declared.family.Family.{Family}
use Rattle.exc_transform.specs.declared.pieces.Ending.{Ending}
use Rattle.exc_transform.specs.declared.pieces.Ending.TheVariants.{Leaves, Raises, Tested}
use Rattle.exc_transform.specs.Explicit.{is_calm, are_calm, leaves_calmly, block_calm, blocks_calm, graphs_calm, IsWithoutExceptions, restaged, head_of, is_tested, raising_by, raising, testing, taking, same_led, led_to, giving, left_ops, left_exit, way_ops, way_exit, raised_ops}
use Rattle.exc_transform.specs.Raising.{raising_graphs}
use Rattle.exc_transform.specs.Live.{live}
use Rattle.exc_transform.specs.Families.{family_of}
use Rattle.exc_transform.specs.Pieces.{Around, way_block, onward, called, ending_of, ending_in, ops_by, exit_by, piece_ops, piece_exit, piece, rest_blocks, behind_by, behind, behind_block, firsts, others, blocks_of, graph_of, graphs_of, explicit_graphs, explicit}

and_both : (a b : Bool) → a ≡ true → b ≡ true → (a && b) ≡ true
and_both true b e f = f
and_both false b e f = absurd (cc)

and_left : (a b : Bool) → (a && b) ≡ true → a ≡ true
and_left true b e = refl
and_left false b e = e

and_right : (a b : Bool) → (a && b) ≡ true → b ≡ true
and_right true b e = e
and_right false b e = absurd (cc)

-- ---- what an ending tells of an operation

called_not : (b : Bool) (v : ℕ) → called b ≡ Raises v → ⊥
called_not true v e = absurd (cc)
called_not false v e = absurd (cc)

called_tested : (b : Bool) → called b ≡ Tested → b ≡ true
called_tested true e = refl
called_tested false e = absurd (cc)

pub raises_is : (marks : List Bool) (any : Bool) (o : LlOp) (v : ℕ) → ending_of marks any o ≡ Raises v → o ≡ op.Raise v
raises_is marks any (op.Raise a) v e = let f : a ≡ v = cc in ap op.Raise f
raises_is marks any other v e = absurd (called_not (is_tested marks any other) v e)

pub tested_calm : (marks : List Bool) (any : Bool) (o : LlOp) → ending_of marks any o ≡ Tested → (is_calm o ≡ true) × (is_tested marks any o ≡ true)
tested_calm marks any (op.Raise a) e = absurd (cc)
tested_calm marks any other e = (refl, called_tested (is_tested marks any other) e)

pub leaves_calm : (marks : List Bool) (any : Bool) (o : LlOp) → ending_of marks any o ≡ Leaves → is_calm o ≡ true
leaves_calm marks any (op.Raise a) e = absurd (cc)
leaves_calm marks any other e = refl

-- ---- operations

are_both : (xs ys : List LlOp) → are_calm xs ≡ true → are_calm ys ≡ true → are_calm (xs ++ ys) ≡ true
are_both [] ys h k = k
are_both (x ∷ xs) ys h k = and_both (is_calm x) (are_calm (xs ++ ys)) (and_left _ _ h) (are_both xs ys (and_right (is_calm x) _ h) k)

raising_by_calm : (root : ℕ) (led : Option ℕ) (kind v : ℕ) → are_calm (raising_by root led kind v) ≡ true
raising_by_calm root None kind v = refl
raising_by_calm root (Some n) kind v = refl

raising_calm : (family : Family) (kind v : ℕ) → are_calm (raising family kind v) ≡ true
raising_calm family kind v = raising_by_calm family.root family.kind kind v

chosen_calm : (same : Bool) (family : Family) (types : List LlType) (kind a v : ℕ) → are_calm (cond same (op.Set a (Var v) ∷ []) (raising family kind v ++ taking family types a)) ≡ true
chosen_calm true family types kind a v = refl
chosen_calm false family types kind a v = are_both (raising family kind v) (taking family types a) (raising_calm family kind v) refl

giving_calm : (family : Family) (types : List LlType) (kind a v : ℕ) → are_calm (giving family types kind a v) ≡ true
giving_calm family types kind a v = chosen_calm (same_led (led_to types a) (led_to types v)) family types kind a v

left_ops_calm : (family : Family) (kind : ℕ) (e : LlExit) → are_calm (left_ops family kind e) ≡ true
left_ops_calm family kind (exit.Raise v) = raising_calm family kind v
left_ops_calm family kind other = refl

left_exit_calm : (result : LlType) (e : LlExit) → leaves_calmly (left_exit result e) ≡ true
left_exit_calm result e = grind arith

raised_ops_calm : (family : Family) (types : List LlType) (kind v : ℕ) (rest : List LlOp) (e : LlExit) → are_calm (raised_ops family types kind v rest e) ≡ true
raised_ops_calm family types kind v (o ∷ ops) e = raising_calm family kind v
raised_ops_calm family types kind v [] (exit.Goto by) = raising_calm family kind v
raised_ops_calm family types kind v [] (exit.If a on by) = raising_calm family kind v
raised_ops_calm family types kind v [] (exit.OnRaise a None on) = raising_calm family kind v
raised_ops_calm family types kind v [] (exit.OnRaise a (Some by) on) = giving_calm family types kind a v
raised_ops_calm family types kind v [] (exit.Return x) = raising_calm family kind v
raised_ops_calm family types kind v [] (exit.Raise w) = raising_calm family kind v
raised_ops_calm family types kind v [] (exit.Fail n) = raising_calm family kind v
raised_ops_calm family types kind v [] (exit.Raised w) = raising_calm family kind v

way_ops_calm : (family : Family) (types : List LlType) (rest : List LlOp) (e : LlExit) → are_calm (way_ops family types rest e) ≡ true
way_ops_calm family types (o ∷ ops) e = refl
way_ops_calm family types [] (exit.Goto by) = refl
way_ops_calm family types [] (exit.If a on by) = refl
way_ops_calm family types [] (exit.OnRaise a None on) = refl
way_ops_calm family types [] (exit.OnRaise a (Some by) on) = refl
way_ops_calm family types [] (exit.Return x) = refl
way_ops_calm family types [] (exit.Raise w) = refl
way_ops_calm family types [] (exit.Fail n) = refl
way_ops_calm family types [] (exit.Raised w) = refl

way_exit_calm : (result : LlType) (rest : List LlOp) (e : LlExit) → leaves_calmly (way_exit result rest e) ≡ true
way_exit_calm result (o ∷ ops) e = refl
way_exit_calm result [] (exit.Goto by) = refl
way_exit_calm result [] (exit.If a on by) = refl
way_exit_calm result [] (exit.OnRaise a None on) = refl
way_exit_calm result [] (exit.OnRaise a (Some by) on) = refl
way_exit_calm result [] (exit.Return x) = refl
way_exit_calm result [] (exit.Raise w) = refl
way_exit_calm result [] (exit.Fail n) = refl
way_exit_calm result [] (exit.Raised w) = refl

-- ---- pieces and blocks

module _ (around : Around) where
  piece_calm : (ops : List LlOp) (e : LlExit) (way : ℕ) → (are_calm (piece_ops around ops e) ≡ true) × (leaves_calmly (piece_exit around ops e way) ≡ true)
  piece_calm [] e way = (left_ops_calm around.family around.kind e, left_exit_calm around.result e)
  piece_calm (o ∷ rest) e way = by (piece_calm rest e way) (ending_in around o) refl
    where
      by : (are_calm (piece_ops around rest e) ≡ true) × (leaves_calmly (piece_exit around rest e way) ≡ true) → (x : Ending) → ending_in around o ≡ x → (are_calm (ops_by around o rest e x (piece_ops around rest e)) ≡ true) × (leaves_calmly (exit_by around rest e way x (piece_exit around rest e way)) ≡ true)
      by more (Raises v) f = (raised_ops_calm around.family around.types around.kind v rest e, way_exit_calm around.result rest e)
      by more Tested f = (and_both (is_calm o) (are_calm (testing around.family around.kind around.test)) (tested_calm around.marks around.any o f).0 refl, refl)
      by more Leaves f = (and_both (is_calm o) (are_calm (piece_ops around rest e)) (leaves_calm around.marks around.any o f) more.0, more.1)

  own_calm : (inputs : List ℕ) (ops : List LlOp) (e : LlExit) (way : ℕ) → block_calm (piece around inputs ops e way) ≡ true
  own_calm inputs ops e way = let both = piece_calm ops e way in and_both (are_calm (piece_ops around ops e)) (leaves_calmly (piece_exit around ops e way)) both.0 both.1

  way_calm : (rest : List LlOp) (e : LlExit) → block_calm (way_block around rest e) ≡ true
  way_calm rest e = and_both _ (leaves_calmly (way_exit around.result rest e)) (way_ops_calm around.family around.types rest e) (way_exit_calm around.result rest e)

  behind_calm : (ops : List LlOp) (e : LlExit) (way : ℕ) → blocks_calm (behind around way ops e) ≡ true
  behind_calm [] e way = refl
  behind_calm (o ∷ rest) e way = by (behind_calm rest e (way + 2)) (behind_calm rest e way) (ending_in around o)
    where
      rests : blocks_calm (behind around (way + 2) rest e) ≡ true → (b : Bool) → blocks_calm (rest_blocks around rest e way b (behind around (way + 2) rest e)) ≡ true
      rests more true = refl
      rests more false = and_both _ (blocks_calm (behind around (way + 2) rest e)) (own_calm (live around.marks around.any rest e) rest e (way + 2)) more

      by : blocks_calm (behind around (way + 2) rest e) ≡ true → blocks_calm (behind around way rest e) ≡ true → (x : Ending) → blocks_calm (behind_by around rest e way x (behind around (way + 2) rest e) (behind around way rest e)) ≡ true
      by more same (Raises v) = refl
      by more same Tested = and_both _ (blocks_calm (rest_blocks around rest e way (is_some (onward rest e)) (behind around (way + 2) rest e))) (way_calm rest e) (rests more (is_some (onward rest e)))
      by more same Leaves = same

  calm_both : (xs ys : List LlBlock) → blocks_calm xs ≡ true → blocks_calm ys ≡ true → blocks_calm (xs ++ ys) ≡ true
  calm_both [] ys h k = k
  calm_both (x ∷ xs) ys h k = and_both (block_calm x) (blocks_calm (xs ++ ys)) (and_left _ _ h) (calm_both xs ys (and_right (block_calm x) _ h) k)

  firsts_calm : (next : ℕ) (blocks : List LlBlock) → blocks_calm (firsts around next blocks) ≡ true
  firsts_calm next [] = refl
  firsts_calm next (b ∷ blocks) = and_both _ (blocks_calm (firsts around (next + length (behind_block around next b)) blocks)) (own_calm b.inputs b.ops b.exit next) (firsts_calm (next + length (behind_block around next b)) blocks)

  others_calm : (next : ℕ) (blocks : List LlBlock) → blocks_calm (others around next blocks) ≡ true
  others_calm next [] = refl
  others_calm next (b ∷ blocks) =
      calm_both (behind_block around next b) (others around (next + length (behind_block around next b)) blocks) (behind_calm b.ops b.exit next) (others_calm (next + length (behind_block around next b)) blocks)

  all_calm : (blocks : List LlBlock) → blocks_calm (blocks_of around blocks) ≡ true
  all_calm blocks = calm_both (firsts around (length blocks) blocks) (others around (length blocks) blocks) (firsts_calm (length blocks) blocks) (others_calm (length blocks) blocks)

-- ---- graphs

module _ (family : Family) (marks : List Bool) where
  each_calm : (graphs : List LlGraph) → graphs_calm (map (graph_of family marks) graphs) ≡ true
  each_calm [] = refl
  each_calm (g ∷ graphs) = and_both _ (graphs_calm (map (graph_of family marks) graphs)) (all_calm _ g.blocks) (each_calm graphs)

  each_head : (graphs : List LlGraph) → map head_of (map (graph_of family marks) graphs) ≡ map head_of graphs
  each_head [] = refl
  each_head (g ∷ graphs) = ap (λ l. head_of g ∷ l) (each_head graphs)

module _ (structs : List LlStruct) (graphs : List LlGraph) where
  graphs_are_calm : graphs_calm (explicit_graphs structs graphs) ≡ true
  graphs_are_calm = one (graphs_calm graphs) refl
    where
      one : (b : Bool) → graphs_calm graphs ≡ b → graphs_calm (cond b graphs (graphs_of structs graphs)) ≡ true
      one true e = e
      one false e = each_calm (family_of structs graphs) (raising_graphs graphs) graphs

  heads_are : map head_of (explicit_graphs structs graphs) ≡ map head_of graphs
  heads_are = one (graphs_calm graphs)
    where
      one : (b : Bool) → map head_of (cond b graphs (graphs_of structs graphs)) ≡ map head_of graphs
      one true = refl
      one false = each_head (family_of structs graphs) (raising_graphs graphs) graphs

-- ---- the program

pub made_calm : (structs : List LlStruct) (graphs made : List LlGraph) → made ≡ explicit_graphs structs graphs → graphs_calm made ≡ true
made_calm structs graphs made e = ap graphs_calm e ∙ graphs_are_calm structs graphs

pub made_heads : (structs : List LlStruct) (graphs made : List LlGraph) → made ≡ explicit_graphs structs graphs → map head_of made ≡ map head_of graphs
made_heads structs graphs made e = ap (map head_of) e ∙ heads_are structs graphs

pub explicit_same : (program : LlProgram) → IsWithoutExceptions program → explicit program ≡ restaged program
explicit_same program e = ap (λ b. record program { stage = Explicit; graphs = cond b program.graphs (graphs_of program.structs program.graphs) }) e
