-- Blocks that were made on the way stay.
use Rattle.std.proofs.Common.{ℕ, ◌+◌, Bool, true, false, List, [], ◌∷◌, Option, Some, None}
use Rattle.std.specs.Prelude.{if◌then◌else◌}
use Rattle.ll_code.specs.declared.program.LlOp.{LlOp}
use Rattle.ll_code.specs.declared.program.LlExit.{LlExit}
use Rattle.ll_code.specs.declared.program.LlLink.{LlLink}
use Rattle.ll_code.specs.declared.program.LlBlock.{LlBlock}
use Rattle.flow_graph.specs.declared.graph.Block.{Block}
use Rattle.flow_graph.specs.declared.graph.Exit.{Exit}
use Rattle.flow_graph.specs.declared.graph.Exit.TheVariants as exit
use Rattle.flow_graph.specs.declared.graph.Link.{Link}
use Rattle.rtyper_data.specs.declared.body.Body.{Body}
use Rattle.rtyper_data.specs.declared.found.Found.{Found}
use Rattle.rtyper_program.specs.declared.extra.Extra.{Extra}
use Rattle.rtyper_program.specs.declared.links.Caught.{Caught}
use Rattle.rtyper_program.specs.Blocks.{block_of, dead_block, exit_of}
use Rattle.rtyper_program.specs.Cuts.{any_raises, cut, cut_as, on_raise, piece, pieces, pieces_of, raised_before, tail}
use Rattle.rtyper_program.specs.Graphs.{block_at, blocks_from, paid, with_block}
use Rattle.rtyper_program.specs.Handlers.{Work, added, any_other, handler, handlers, land, landing, taken, tested}
use Rattle.rtyper_program.specs.Links.{link_of}
use Rattle.rtyper_program.specs.Raises.{catches}
use Rattle.rtyper_program.specs.Seen.{Lowered, is_block_reached}
use Rattle.rtyper_data.specs.Seen.{Writing}

-- what holds of the blocks with one more holds before
module _ (P : Extra → Type 0) (before : (b : LlBlock) (e : Extra) → P (added b e).1 → P e) where
  either_in : (b : Bool) (x y : LlExit × Work) (e : Extra) → (P x.1.extra → P e) → (P y.1.extra → P e) → P (if b then x else y).1.extra → P e
  either_in true x y e h k = h
  either_in false x y e h k = k

  tail_in : (last : LlLink) (left : List LlOp) (e : Extra) → P (tail left last e).1 → P e
  tail_in last [] e h = h
  tail_in last (o ∷ ops) e h = before _ e h

  pieces_in : (v : ℕ) (by last : LlLink) (more : List (List LlOp)) (left : List LlOp) (e : Extra) → P (pieces v by more (tail left last e)).1 → P e
  unfolding piece
  pieces_in v by last [] left e h = tail_in last left e h
  pieces_in v by last (ops ∷ more) left e h = pieces_in v by last more left e (before _ (pieces v by more (tail left last e)).1 h)

  as_in : (v : ℕ) (by last : LlLink) (ended : List (List LlOp)) (left : List LlOp) (body : Body) (e : Extra) → P (cut_as v by last (record { ended = ended; left = left }) body e).extra → P e
  as_in v by last [] left body e h = h
  as_in v by last (ops ∷ more) left body e h = pieces_in v by last more left e h

  cut_in : (v : ℕ) (by last : LlLink) (least : ℕ) (found : Found) (body : Body) (e : Extra) → P (cut v by last least found body e).extra → P e
  unfolding cut
  cut_in v by last least found body e h = as_in v by last (pieces_of found least body.ops).ended (pieces_of found least body.ops).left body e h

  module _ (l : Lowered) where
    land_in : (link : Link) (caught : Caught) (w : Work) → P (land l link caught w).1.extra → P w.extra
    unfolding land landing
    land_in link caught w h = before _ w.extra h

    handlers_in : (caught : Caught) (hands : List (ℕ × Link)) (next : LlLink × Work) (e : Extra) → (P next.1.extra → P e) → P (handlers l caught hands next).1.extra → P e
    unfolding handler tested
    handlers_in caught [] next e go h = go h
    handlers_in caught (hand ∷ hands) next e go h =
        handlers_in caught hands next e go (land_in hand.1 caught (handlers l caught hands next).1 (before _ (land l hand.1 caught (handlers l caught hands next).1).1.extra h))

    any_in : (caught : Caught) (any : Option Link) (w : Work) → P (any_other l caught any w).1.extra → P w.extra
    any_in caught None w h = before _ w.extra h
    any_in caught (Some link) w h = land_in link caught w h

    taken_in : (caught : Caught) (hands : List (ℕ × Link)) (any : Option Link) (w : Work) → P (taken l caught hands any w).1.extra → P w.extra
    unfolding taken
    taken_in caught hands any w h = handlers_in caught hands (any_other l caught any w) w.extra (any_in caught any w) h

    raised_in_graph : (v : ℕ) (hands : List (ℕ × Link)) (any : Option Link) (least : ℕ) (e : Extra) (last : LlLink × Writing) → P (raised_before l v hands any least e last).1.extra → P e
    raised_in_graph v hands any least e last h = taken_in _ hands any _ (cut_in _ _ last.0 least _ _ _ h)

    on_raise_in : (v : ℕ) (hands : List (ℕ × Link)) (any : Option Link) (without : Link) (least : ℕ) (w : Work) → P (on_raise l v hands any without least w).1.extra → P w.extra
    unfolding on_raise
    on_raise_in v hands any without least w = either_in (any_raises w.writing.found least w.writing.body.ops) _ _ w.extra (raised_in_graph v hands any least w.extra (link_of l None without w.writing)) (λ h. h)

    exit_in : (e : Exit) (least : ℕ) (w : Work) → P (exit_of l e least w).1.extra → P w.extra
    unfolding exit_of
    exit_in (exit.Goto link) least w h = h
    exit_in (exit.If v there elsewhere) least w h = h
    exit_in (exit.OnRaise v hands any without) least w h = either_in (catches l.graph hands any) _ _ w.extra (on_raise_in v hands any without least w) (λ h. h) h
    exit_in (exit.Return v) least w h = h
    exit_in (exit.Raise v) least w h = h

    pub block_in_graph : (b : Block) (w : Work) → P (block_of l b w).1.extra → P w.extra
    unfolding block_of
    block_in_graph b w h = exit_in b.exit _ _ h

    pub at_in_graph : (n : ℕ) (b : Block) (w : Work) → P (block_at l n b w).1.extra → P w.extra
    at_in_graph n b w = by (is_block_reached l.known.annotation l.number n)
      where
        by : (c : Bool) → P (if c then block_of l b (paid n w) else (dead_block, w)).1.extra → P w.extra
        by true h = block_in_graph b (paid n w) h
        by false h = h

    pub blocks_in_graph : (n : ℕ) (bs : List Block) (made : List LlBlock × Work) → P (blocks_from l n bs made).1.extra → P made.1.extra
    blocks_in_graph n [] made h = h
    blocks_in_graph n (b ∷ bs) made h = at_in_graph n b made.1 (blocks_in_graph (n + 1) bs (with_block made.0 (block_at l n b made.1)) h)
