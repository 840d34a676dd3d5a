-- The graphs of functions give something, where they have a result.
use Rattle.std.proofs.Common.{◌≡◌, ℕ, ◌+◌, Bool, true, false, List, [], ◌∷◌, Option, Some, None, refl}
use Rattle.std.specs.Prelude.{if◌then◌else◌}
use Rattle.ll_code.specs.declared.program.LlType.{LlType}
use Rattle.ll_code.specs.declared.program.LlType.TheVariants as type
use Rattle.ll_code.specs.declared.program.LlOp.{LlOp}
use Rattle.ll_code.specs.declared.program.LlLink.{LlLink}
use Rattle.ll_code.specs.declared.program.LlExit.{LlExit}
use Rattle.ll_code.specs.declared.program.LlBlock.{LlBlock}
use Rattle.flow_graph.specs.declared.graph.Block.{Block}
use Rattle.flow_graph.specs.declared.graph.Exit.{Exit}
use Rattle.flow_graph.specs.declared.graph.Exit.TheVariants as exit
use Rattle.flow_graph.specs.declared.graph.Graph.{Graph}
use Rattle.flow_graph.specs.declared.graph.Link.{Link}
use Rattle.rtyper_layout.specs.Types.{root_of}
use Rattle.rtyper_data.specs.declared.body.Body.{Body}
use Rattle.rtyper_data.specs.declared.found.Found.{Found}
use Rattle.rtyper_data.specs.Seen.{Writing, fresh, writing}
use Rattle.rtyper_op.specs.declared.text.Test.{Test}
use Rattle.rtyper_op.specs.declared.text.Test.TheVariants.{Known as Sure, By}
use Rattle.rtyper_class.specs.Seen.{World, laid}
use Rattle.rtyper_program.specs.declared.extra.Extra.{Extra}
use Rattle.rtyper_program.specs.declared.links.Caught.{Caught}
use Rattle.rtyper_program.specs.Blocks.{block_of, exit_of, ops_of, raise_as}
use Rattle.rtyper_program.specs.Cuts.{any_raises, caught_in, cut, cut_pieces, on_raise, piece, pieces, pieces_of, raised_before, tail, Cut}
use Rattle.rtyper_program.specs.Graphs.{block_at, blocks_from, blocks_of, graph_of, lowered_graph, nothing_behind, paid, variables, with_block}
use Rattle.rtyper_program.specs.Handlers.{Work, work, added, any_other, handler, handlers, land, landing, taken, tested}
use Rattle.rtyper_program.specs.Links.{branch, by_test, give_as, give_back, link_of, truth_test}
use Rattle.rtyper_program.specs.Raises.{catches}
use Rattle.rtyper_program.specs.Seen.{Known, Lowered, is_block_reached, operand_of, type_at}
use Rattle.told_graphs.proofs.Giving.{all_give, both, both_give, gives, graph_gives}

module _ (t : LlType) where
  -- the blocks that are made on the way
  abbrev pub Behind : Extra → Type 0
  Behind e = all_give t e.blocks ≡ true

  added_gives : (b : LlBlock) (e : Extra) → gives t b.exit ≡ true → Behind e → Behind (added b e).1
  added_gives b e h k = both_give t e.blocks (b ∷ []) k (both (gives t b.exit) true h refl)

  -- ---- pieces

  tail_gives : (ops : List LlOp) (next : LlLink) (e : Extra) → Behind e → Behind (tail ops next e).1
  tail_gives [] next e h = h
  tail_gives (o ∷ ops) next e h = added_gives _ e refl h

  piece_gives : (v : ℕ) (by : LlLink) (ops : List LlOp) (next : LlLink × Extra) → Behind next.1 → Behind (piece v by ops next).1
  unfolding piece
  piece_gives v by ops next h = added_gives _ next.1 refl h

  pieces_give : (v : ℕ) (by : LlLink) (more : List (List LlOp)) (next : LlLink × Extra) → Behind next.1 → Behind (pieces v by more next).1
  pieces_give v by [] next h = h
  pieces_give v by (ops ∷ more) next h = piece_gives v by ops (pieces v by more next) (pieces_give v by more next h)

  abbrev CutGives : Cut → Type 0
  CutGives c = (gives t c.exit ≡ true) × Behind c.extra

  cut_pieces_give : (v : ℕ) (by last : LlLink) (ended : List (List LlOp)) (left : List LlOp) (body : Body) (e : Extra) → Behind e → CutGives (cut_pieces v by last ended left body e)
  cut_pieces_give v by last [] left body e h = (refl, h)
  cut_pieces_give v by last (ops ∷ more) left body e h = (refl, pieces_give v by more (tail left last e) (tail_gives left last e h))

  cut_gives : (v : ℕ) (by last : LlLink) (least : ℕ) (found : Found) (body : Body) (e : Extra) → Behind e → CutGives (cut v by last least found body e)
  unfolding cut
  cut_gives v by last least found body e h = cut_pieces_give v by last (pieces_of found least body.ops).ended (pieces_of found least body.ops).left body e h

module _ (l : Lowered) where
  -- ---- ways of exceptions

  land_gives : (link : Link) (caught : Caught) (w : Work) → Behind l.result w.extra → Behind l.result (land l link caught w).1.extra
  unfolding land landing
  land_gives link caught w h = added_gives l.result _ w.extra refl h

  handler_gives : (caught : Caught) (hand : ℕ × Link) (next : LlLink × Work) → Behind l.result next.1.extra → Behind l.result (handler l caught hand next).1.extra
  unfolding handler tested
  handler_gives caught hand next h = added_gives l.result _ (land l hand.1 caught next.1).1.extra refl (land_gives hand.1 caught next.1 h)

  handlers_give : (caught : Caught) (hands : List (ℕ × Link)) (next : LlLink × Work) → Behind l.result next.1.extra → Behind l.result (handlers l caught hands next).1.extra
  handlers_give caught [] next h = h
  handlers_give caught (hand ∷ hands) next h = handler_gives caught hand (handlers l caught hands next) (handlers_give caught hands next h)

  any_other_gives : (caught : Caught) (by : Option Link) (w : Work) → Behind l.result w.extra → Behind l.result (any_other l caught by w).1.extra
  any_other_gives caught None w h = added_gives l.result _ w.extra refl h
  any_other_gives caught (Some link) w h = land_gives link caught w h

  taken_gives : (caught : Caught) (hands : List (ℕ × Link)) (by : Option Link) (w : Work) → Behind l.result w.extra → Behind l.result (taken l caught hands by w).1.extra
  unfolding taken
  taken_gives caught hands by w h = handlers_give caught hands (any_other l caught by w) (any_other_gives caught by w h)

  -- ---- exits

  abbrev ExitGives : LlExit × Work → Type 0
  ExitGives made = (gives l.result made.0 ≡ true) × Behind l.result made.1.extra

  either : (b : Bool) (x y : LlExit × Work) → ExitGives x → ExitGives y → ExitGives (if b then x else y)
  either true x y h k = h
  either false x y h k = k

  raised_gives : (v : ℕ) (hands : List (ℕ × Link)) (by : Option Link) (least : ℕ) (e : Extra) (last : LlLink × Writing) → Behind l.result e → ExitGives (raised_before l v hands by least e last)
  raised_gives v hands by least e last h =
      let made : ℕ × Body = fresh (root_of (laid l.world 0)) last.1.body in
      let way : LlLink × Work = taken l (caught_in l v hands by made) hands by (work (writing last.1.found made.1) e) in
      cut_gives l.result made.0 way.0 last.0 least way.1.writing.found way.1.writing.body way.1.extra (taken_gives (caught_in l v hands by made) hands by (work (writing last.1.found made.1) e) h)

  on_raise_gives : (v : ℕ) (hands : List (ℕ × Link)) (by : Option Link) (without : Link) (least : ℕ) (w : Work) → Behind l.result w.extra → ExitGives (on_raise l v hands by without least w)
  unfolding on_raise
  on_raise_gives v hands by without least w h =
      either (any_raises w.writing.found least w.writing.body.ops) _ _ (raised_gives v hands by least w.extra (link_of l None without w.writing) h) (refl, h)

  test_gives : (there elsewhere : Link) (test : Test) (w : Writing) → gives l.result (by_test l there elsewhere test w).0 ≡ true
  test_gives there elsewhere (Sure true) w = refl
  test_gives there elsewhere (Sure false) w = refl
  test_gives there elsewhere (By x) w = refl

  branch_gives : (v : ℕ) (there elsewhere : Link) (w : Writing) → gives l.result (branch l v there elsewhere w).0 ≡ true
  unfolding branch
  branch_gives v there elsewhere w = test_gives there elsewhere (truth_test l.world.around (operand_of l v) w).0 (truth_test l.world.around (operand_of l v) w).1

  give_as_gives : (v : ℕ) (to : LlType) (w : Writing) → gives to (give_as l v to w).0 ≡ true
  give_as_gives v type.Void w = refl
  give_as_gives v _ w = refl

  give_back_gives : (v : ℕ) (w : Writing) → gives l.result (give_back l v w).0 ≡ true
  unfolding give_back
  give_back_gives v w = give_as_gives v l.result w

  raise_gives : (v : ℕ) (t : LlType) → gives l.result (raise_as v t) ≡ true
  raise_gives v type.Void = refl
  raise_gives v _ = refl

  exit_gives : (e : Exit) (least : ℕ) (w : Work) → Behind l.result w.extra → ExitGives (exit_of l e least w)
  unfolding exit_of
  exit_gives (exit.Goto link) least w h = (refl, h)
  exit_gives (exit.If v there elsewhere) least w h = (branch_gives v there elsewhere w.writing, h)
  exit_gives (exit.OnRaise v hands by without) least w h = either (catches l.graph hands by) _ _ (on_raise_gives v hands by without least w h) (refl, h)
  exit_gives (exit.Return v) least w h = (give_back_gives v w.writing, h)
  exit_gives (exit.Raise v) least w h = (raise_gives v (type_at l v), h)

  -- ---- blocks

  abbrev BlockGives : LlBlock × Work → Type 0
  BlockGives made = (gives l.result made.0.exit ≡ true) × Behind l.result made.1.extra

  block_gives : (block : Block) (w : Work) → Behind l.result w.extra → BlockGives (block_of l block w)
  unfolding block_of
  block_gives block w h = let ops : ℕ × Writing = ops_of l block.ops w.writing in exit_gives block.exit ops.0 (work ops.1 w.extra) h

  either_block : (b : Bool) (x y : LlBlock × Work) → BlockGives x → BlockGives y → BlockGives (if b then x else y)
  either_block true x y h k = h
  either_block false x y h k = k

  block_at_gives : (n : ℕ) (block : Block) (w : Work) → Behind l.result w.extra → BlockGives (block_at l n block w)
  block_at_gives n block w h = either_block (is_block_reached l.known.annotation l.number n) _ _ (block_gives block (paid n w) h) (refl, h)

  abbrev BlocksGive : List LlBlock × Work → Type 0
  BlocksGive made = (all_give l.result made.0 ≡ true) × Behind l.result made.1.extra

  blocks_give : (n : ℕ) (blocks : List Block) (made : List LlBlock × Work) → BlocksGive made → BlocksGive (blocks_from l n blocks made)
  blocks_give n [] made h = h
  blocks_give n (block ∷ blocks) made h =
      let it = block_at_gives n block made.1 h.1 in
      blocks_give (n + 1) blocks (with_block made.0 (block_at l n block made.1))
      (both_give l.result made.0 ((block_at l n block made.1).0 ∷ []) h.0 (both (gives l.result (block_at l n block made.1).0.exit) true it.0 refl), it.1)

pub function_gives : (known : Known) (world : World) (n : ℕ) (graph : Graph) (found : Found) → graph_gives (graph_of known world n graph found).0 ≡ true
unfolding graph_of blocks_of
function_gives known world n graph found =
    let l : Lowered = lowered_graph known world n graph in
    let made : List LlBlock × Work = blocks_from l 0 graph.blocks ([], work (writing found (record { types = variables known world n; ops = [] })) (nothing_behind graph.blocks)) in
    let it = blocks_give l 0 graph.blocks ([], work (writing found (record { types = variables known world n; ops = [] })) (nothing_behind graph.blocks)) (refl, refl) in
    both_give l.result made.0 made.1.extra.blocks it.0 it.1
