-- The roots of a state of the explicit program are held where it stands for one of the program.
use Rattle.std.proofs.Common.{◌≡◌, ◌<◌, ◌≤◌, ℕ, zero, suc, ◌+◌, Bool, true, false, ◌&&◌, List, [], ◌∷◌, ◌++◌, length, Option, Some, None, refl, sym, ap, ◌∙◌, subst, arith, ◌⊎◌, inl, inr}
use Rattle.std.specs.Prelude.{not, cond, slice_get, is_some}
use Rattle.csub_tree.specs.State.{Null, Ptr, Core}
use Rattle.csub_tree.specs.Statement.{read}
use Rattle.ll_code.specs.State.{Frame, State, Calling, At, Returning, Throwing}
use Rattle.ll_code.specs.declared.program.LlOp.{LlOp}
use Rattle.ll_code.specs.declared.program.LlExit.{LlExit}
use Rattle.ll_code.specs.declared.program.LlBlock.{LlBlock}
use Rattle.ll_code.specs.declared.program.LlGraph.{LlGraph}
use Rattle.ll_code.specs.declared.program.LlProgram.{LlProgram}
use Rattle.ll_live.specs.Live.{among, sets, live as reads_on}
use Rattle.ll_held.specs.Roots.{kept, under_way, read_by, waits_for, waiting_roots, slots, roots, core_of}
use Rattle.ll_held.specs.Held.{times, references, Held, Root}
use Rattle.ll_held.specs.Quiet.{ReadsInputs, StaticsAreApart}
use Rattle.ll_held.proofs.Keeping.{or_left, or_right, or_one, references_append, in_parts, in_first, in_second, at_head, head_in, tail_in, used_from, used_to, kept_fewer, held_on}
use Rattle.exc_transform.specs.declared.pieces.Ending.{Ending}
use Rattle.exc_transform.specs.declared.pieces.Ending.TheVariants.{Leaves, Raises, Tested}
use Rattle.exc_transform.specs.Explicit.{is_marked, graphs_calm}
use Rattle.exc_transform.specs.Live.{handler_reads}
use Rattle.exc_transform.specs.Pieces.{explicit, graphs_of, graph_of, onward, ending_in, rest_blocks, behind_by, behind, firsts, others, behind_block}
use Rattle.exc_laws.specs.Ready.{marks_of, any_of, exceptions_of, IsClosed}
use Rattle.exc_laws.specs.Stands.{explicit_graph, around_in, needs, Waits, Wait, SameHandled, PieceAt, TestAt, Tests, StandsAt, Stands}
use Rattle.exc_laws.proofs.Lives.{needed_live}
use Rattle.exc_laws.proofs.Tests.{get_map}
use Rattle.exc_laws.proofs.Holding.{needed_plain, handled_plain, left_live, tested_live, piece_live, way_live}

not_set : (b x : Bool) → (not b && x) ≡ true → (b ≡ false) × (x ≡ true)
not_set true x h = absurd (cc)
not_set false x h = (refl, h)

null_apart : (b : ℕ) → Null ≡ Ptr b → ⊥
null_apart b e = absurd (cc)

module _ (p : LlProgram) where
  -- ---- who waits

  waits_use : (f : ℕ) (graph : LlGraph) (frame x_frame : Frame) → Waits p f graph frame x_frame → (v : ℕ) → waits_for (explicit p) x_frame v ≡ true → (waits_for p frame v ≡ true) × (read x_frame.vars v ≡ read frame.vars v)
  waits_use f graph frame x_frame w v h = one (or_one (read_by (under_way (explicit p) x_frame) v) _ h)
    where
      more : sets frame.into v ≡ false → reads_on frame.ops frame.exit v ≡ true → waits_for p frame v ≡ true
      more s l = or_right (read_by (under_way p frame) v) _ (ap (λ b. not b && reads_on frame.ops frame.exit v) s ∙ l)

      needed : sets frame.into v ≡ false → needs p false frame.ops frame.exit v ≡ true → (waits_for p frame v ≡ true) × (read x_frame.vars v ≡ read frame.vars v)
      needed s n = (more s (needed_plain p false frame.ops frame.exit v n), w.vars v n s)

      handled : sets frame.into v ≡ false → Tests p graph frame x_frame → (needs p false frame.ops frame.exit v ≡ true) ⊎ (among v (handler_reads frame.ops frame.exit) ≡ true) → (waits_for p frame v ≡ true) × (read x_frame.vars v ≡ read frame.vars v)
      handled s t (inl n) = needed s n
      handled s t (inr k) = (more s (handled_plain p frame.ops frame.exit v k), (t.handled v k).same)

      left : sets frame.into v ≡ false → reads_on x_frame.ops x_frame.exit v ≡ true → (PieceAt p graph frame.ops frame.exit x_frame.ops x_frame.exit × (is_marked (marks_of p) f ≡ false)) ⊎ Tests p graph frame x_frame → (waits_for p frame v ≡ true) × (read x_frame.vars v ≡ read frame.vars v)
      left s l (inl t) = needed s (left_live p graph frame.ops frame.exit x_frame.ops x_frame.exit v t.0 l)
      left s l (inr t) = handled s t (tested_live p graph frame.ops frame.exit x_frame.ops x_frame.exit v t.test l)

      one : (read_by (under_way (explicit p) x_frame) v ≡ true) ⊎ ((not (sets x_frame.into v) && reads_on x_frame.ops x_frame.exit v) ≡ true) → (waits_for p frame v ≡ true) × (read x_frame.vars v ≡ read frame.vars v)
      one (inl k) = (let u = w.under v k in (or_left (read_by (under_way p frame) v) _ u.0, u.1))
      one (inr k) = (let u = not_set (sets x_frame.into v) (reads_on x_frame.ops x_frame.exit v) k in left (ap (λ o. sets o v) (sym w.into) ∙ u.0) u.1 w.left)

  waiting_in : (f : ℕ) (frames x_frames : List Frame) → Wait p f frames x_frames → (b : ℕ) → 0 < times b (waiting_roots (explicit p) x_frames) → 0 < times b (waiting_roots p frames)
  waiting_in f [] [] w b h = h
  waiting_in f (frame ∷ frames) (x_frame ∷ x_frames) (graph, w, ws) b h = one (waiting_in frame.graph frames x_frames ws b) (in_parts b (kept (waits_for (explicit p) x_frame) 0 x_frame.vars) (waiting_roots (explicit p) x_frames) h)
    where
      from : (v : ℕ) × (waits_for (explicit p) x_frame v ≡ true) × (read x_frame.vars v ≡ Ptr b) → 0 < times b (kept (waits_for p frame) 0 frame.vars)
      from (v, u, r) = let k = waits_use f graph frame x_frame w v u in used_to (waits_for p frame) frame.vars b v k.0 (sym k.1 ∙ r)

      one : (0 < times b (waiting_roots (explicit p) x_frames) → 0 < times b (waiting_roots p frames)) → (0 < times b (kept (waits_for (explicit p) x_frame) 0 x_frame.vars)) ⊎ (0 < times b (waiting_roots (explicit p) x_frames))
          → 0 < times b (kept (waits_for p frame) 0 frame.vars ++ waiting_roots p frames)
      one go (inl h) = in_first b (kept (waits_for p frame) 0 frame.vars) (waiting_roots p frames) (from (used_from (waits_for (explicit p) x_frame) x_frame.vars b h))
      one go (inr h) = in_second b (kept (waits_for p frame) 0 frame.vars) (waiting_roots p frames) (go h)
  waiting_in f [] (x_frame ∷ x_frames) w b h = absurd w
  waiting_in f (frame ∷ frames) [] w b h = absurd w

  pub waiting_fewer : (f : ℕ) (frames x_frames : List Frame) → Wait p f frames x_frames → references (waiting_roots (explicit p) x_frames) ≤ references (waiting_roots p frames)
  waiting_fewer f [] [] w = omega arith
  waiting_fewer f (frame ∷ frames) (x_frame ∷ x_frames) (graph, w, ws) =
      let a : references (kept (waits_for (explicit p) x_frame) 0 x_frame.vars ++ waiting_roots (explicit p) x_frames) ≡ references (kept (waits_for (explicit p) x_frame) 0 x_frame.vars) + references (waiting_roots (explicit p) x_frames) =
      references_append (kept (waits_for (explicit p) x_frame) 0 x_frame.vars) (waiting_roots (explicit p) x_frames) in
      let b : references (kept (waits_for p frame) 0 frame.vars ++ waiting_roots p frames) ≡ references (kept (waits_for p frame) 0 frame.vars) + references (waiting_roots p frames) = references_append (kept (waits_for p frame) 0 frame.vars) (waiting_roots p frames) in
      let c : references (waiting_roots (explicit p) x_frames) ≤ references (waiting_roots p frames) = waiting_fewer frame.graph frames x_frames ws in
      let d : references (kept (waits_for (explicit p) x_frame) 0 x_frame.vars) ≤ references (kept (waits_for p frame) 0 frame.vars) =
      kept_fewer (waits_for (explicit p) x_frame) (waits_for p frame) 0 x_frame.vars frame.vars
      (λ v u r. (let z : 0 + v ≡ v = omega arith in let k = waits_use f graph frame x_frame w v (ap (waits_for (explicit p) x_frame) (sym z) ∙ u) in (ap (waits_for p frame) z ∙ k.0, sym k.1))) in
      omega (arith, a, b, c, d)
  waiting_fewer f [] (x_frame ∷ x_frames) w = absurd w
  waiting_fewer f (frame ∷ frames) [] w = absurd w

  -- ---- states

  at_use : (ops : List LlOp) (e : LlExit) (frames : List Frame) (core : Core) (x_ops : List LlOp) (x_exit : LlExit) (x_frames : List Frame) (x_core : Core) (graph : LlGraph) → StandsAt p ops e frames core x_ops x_exit x_frames x_core graph
      → (v : ℕ) → reads_on x_ops x_exit v ≡ true → (reads_on ops e v ≡ true) × (read x_core.vars v ≡ read core.vars v)
  at_use ops e frames core x_ops x_exit x_frames x_core graph s v h = one s.left
    where
      needed : needs p false ops e v ≡ true → (reads_on ops e v ≡ true) × (read x_core.vars v ≡ read core.vars v)
      needed n = (needed_plain p false ops e v n, s.vars v n)

      handled : SameHandled ops e core x_core → (needs p false ops e v ≡ true) ⊎ (among v (handler_reads ops e) ≡ true) → (reads_on ops e v ≡ true) × (read x_core.vars v ≡ read core.vars v)
      handled same (inl n) = needed n
      handled same (inr k) = (handled_plain p ops e v k, same v k)

      one : PieceAt p graph ops e x_ops x_exit ⊎ (TestAt p graph ops e x_ops x_exit × SameHandled ops e core x_core) → (reads_on ops e v ≡ true) × (read x_core.vars v ≡ read core.vars v)
      one (inl t) = needed (left_live p graph ops e x_ops x_exit v t h)
      one (inr t) = handled t.1 (tested_live p graph ops e x_ops x_exit v t.0 h)

  -- the slots name no block
  clear_apart : (core : Core) → (core.exc_type ≡ Null) × (core.exc_value ≡ Null) → (b : ℕ) → 0 < times b (slots core) → ⊥
  clear_apart core c b h = one (at_head b core.exc_type (core.exc_value ∷ []) h)
    where
      two : (core.exc_value ≡ Ptr b) ⊎ (0 < times b []) → ⊥
      two (inl e) = null_apart b (sym c.1 ∙ e)
      two (inr h) = absurd (omega (arith, h))

      one : (core.exc_type ≡ Ptr b) ⊎ (0 < times b (core.exc_value ∷ [])) → ⊥
      one (inl e) = null_apart b (sym c.0 ∙ e)
      one (inr h) = two (at_head b core.exc_value [] h)

  pub stands_held : (s x : State) → Stands p s x → StaticsAreApart (core_of s) → (b : ℕ) → 0 < times b (roots (explicit p) x) → Held (core_of s).blocks (roots p s) b
  stands_held (Calling f values frames core) (Calling x_f x_values x_frames x_core) s apart b h = one (in_parts b (x_values ++ slots x_core) (waiting_roots (explicit p) x_frames) h)
    where
      two : (0 < times b x_values) ⊎ (0 < times b (slots x_core)) → Held core.blocks (roots p (Calling f values frames core)) b
      two (inl h) = Root {b = b} (in_first b (values ++ slots core) (waiting_roots p frames) (in_first b values (slots core) (subst (λ vs. 0 < times b vs) s.given h)))
      two (inr h) = absurd (clear_apart x_core s.clear b h)

      one : (0 < times b (x_values ++ slots x_core)) ⊎ (0 < times b (waiting_roots (explicit p) x_frames)) → Held core.blocks (roots p (Calling f values frames core)) b
      one (inl h) = two (in_parts b x_values (slots x_core) h)
      one (inr h) = Root {b = b} (in_second b (values ++ slots core) (waiting_roots p frames) (waiting_in f frames x_frames s.waiting b h))
  stands_held (At ops e frames core) (At x_ops x_exit x_frames x_core) (graph, s) apart b h = one (in_parts b (kept (reads_on x_ops x_exit) 0 x_core.vars ++ slots x_core) (waiting_roots (explicit p) x_frames) h)
    where
      from : (v : ℕ) × (reads_on x_ops x_exit v ≡ true) × (read x_core.vars v ≡ Ptr b) → 0 < times b (kept (reads_on ops e) 0 core.vars)
      from (v, u, r) = let k = at_use ops e frames core x_ops x_exit x_frames x_core graph s v u in used_to (reads_on ops e) core.vars b v k.0 (sym k.1 ∙ r)

      two : (0 < times b (kept (reads_on x_ops x_exit) 0 x_core.vars)) ⊎ (0 < times b (slots x_core)) → Held core.blocks (roots p (At ops e frames core)) b
      two (inl h) = Root {b = b} (in_first b (kept (reads_on ops e) 0 core.vars ++ slots core) (waiting_roots p frames) (in_first b (kept (reads_on ops e) 0 core.vars) (slots core) (from (used_from (reads_on x_ops x_exit) x_core.vars b h))))
      two (inr h) = absurd (clear_apart x_core s.clear b h)

      one : (0 < times b (kept (reads_on x_ops x_exit) 0 x_core.vars ++ slots x_core)) ⊎ (0 < times b (waiting_roots (explicit p) x_frames)) → Held core.blocks (roots p (At ops e frames core)) b
      one (inl h) = two (in_parts b (kept (reads_on x_ops x_exit) 0 x_core.vars) (slots x_core) h)
      one (inr h) = Root {b = b} (in_second b (kept (reads_on ops e) 0 core.vars ++ slots core) (waiting_roots p frames) (waiting_in core.function frames x_frames s.waiting b h))
  stands_held (Returning value frames core) (Returning x_value x_frames x_core) s apart b h = one (at_head b x_value (slots x_core ++ waiting_roots (explicit p) x_frames) h)
    where
      two : (0 < times b (slots x_core)) ⊎ (0 < times b (waiting_roots (explicit p) x_frames)) → Held core.blocks (roots p (Returning value frames core)) b
      two (inl h) = absurd (clear_apart x_core s.clear b h)
      two (inr h) = Root {b = b} (tail_in b value (slots core ++ waiting_roots p frames) (in_second b (slots core) (waiting_roots p frames) (waiting_in core.function frames x_frames s.waiting b h)))

      one : (x_value ≡ Ptr b) ⊎ (0 < times b (slots x_core ++ waiting_roots (explicit p) x_frames)) → Held core.blocks (roots p (Returning value frames core)) b
      one (inl h) = Root {b = b} (head_in b value (slots core ++ waiting_roots p frames) (sym s.gives ∙ h))
      one (inr h) = two (in_parts b (slots x_core) (waiting_roots (explicit p) x_frames) h)
  stands_held (Throwing value frames core) (Returning x_value x_frames x_core) s apart b h = one (at_head b x_value (slots x_core ++ waiting_roots (explicit p) x_frames) h)
    where
      raised : (n : ℕ) → 0 < times n (value ∷ []) → Held core.blocks (roots p (Throwing value frames core)) n
      raised n h = by (at_head n value [] h)
        where
          by : (value ≡ Ptr n) ⊎ (0 < times n []) → Held core.blocks (roots p (Throwing value frames core)) n
          by (inl e) = Root {b = n} (head_in n value (slots core ++ waiting_roots p frames) e)
          by (inr h) = absurd (omega (arith, h))

      four : (x_core.exc_value ≡ Ptr b) ⊎ (0 < times b []) → Held core.blocks (roots p (Throwing value frames core)) b
      four (inl e) = Root {b = b} (head_in b value (slots core ++ waiting_roots p frames) (sym s.slot ∙ e))
      four (inr h) = absurd (omega (arith, h))

      three : (x_core.exc_type ≡ Ptr b) ⊎ (0 < times b (x_core.exc_value ∷ [])) → Held core.blocks (roots p (Throwing value frames core)) b
      three (inl e) = held_on core.blocks (value ∷ []) (roots p (Throwing value frames core)) raised b (s.known apart b e)
      three (inr h) = four (at_head b x_core.exc_value [] h)

      two : (0 < times b (slots x_core)) ⊎ (0 < times b (waiting_roots (explicit p) x_frames)) → Held core.blocks (roots p (Throwing value frames core)) b
      two (inl h) = three (at_head b x_core.exc_type (x_core.exc_value ∷ []) h)
      two (inr h) = Root {b = b} (tail_in b value (slots core ++ waiting_roots p frames) (in_second b (slots core) (waiting_roots p frames) (waiting_in core.function frames x_frames s.waiting b h)))

      one : (x_value ≡ Ptr b) ⊎ (0 < times b (slots x_core ++ waiting_roots (explicit p) x_frames)) → Held core.blocks (roots p (Throwing value frames core)) b
      one (inl h) = absurd (s.gives b h)
      one (inr h) = two (in_parts b (slots x_core) (waiting_roots (explicit p) x_frames) h)
  stands_held s x stands apart b h = absurd stands

-- ---- the blocks of the explicit program read their inputs alone

abbrev Reads : LlBlock → Type 0
Reads block = (v : ℕ) → reads_on block.ops block.exit v ≡ true → among v block.inputs ≡ true

abbrev AllRead : List LlBlock → Type 0
AllRead [] = Unit {0}
AllRead (block ∷ blocks) = Reads block × AllRead blocks

both_read : (xs ys : List LlBlock) → AllRead xs → AllRead ys → AllRead (xs ++ ys)
both_read [] ys h k = k
both_read (x ∷ xs) ys (h, hs) k = (h, both_read xs ys hs k)

read_at : (blocks : List LlBlock) (n : ℕ) (block : LlBlock) → AllRead blocks → slice_get blocks n ≡ Some block → Reads block
read_at [] n block h e = absurd (cc)
read_at (x ∷ blocks) zero block (h, hs) e = let i : x ≡ block = cc in subst Reads i h
read_at (x ∷ blocks) (suc n) block (h, hs) e = read_at blocks n block hs e

module _ (p : LlProgram) (graph : LlGraph) where
  behind_read : (ops : List LlOp) (e : LlExit) (way : ℕ) → AllRead (behind (around_in p graph) way ops e)
  behind_read [] e way = tt
  behind_read (o ∷ rest) e way = by (behind_read rest e (way + 2)) (behind_read rest e way) (ending_in (around_in p graph) o)
    where
      rests : (b : Bool) → AllRead (behind (around_in p graph) (way + 2) rest e) → AllRead (rest_blocks (around_in p graph) rest e way b (behind (around_in p graph) (way + 2) rest e))
      rests true h = tt
      rests false h = (λ v k. needed_live p e v rest (piece_live p graph rest e (way + 2) v k), h)

      by : AllRead (behind (around_in p graph) (way + 2) rest e) → AllRead (behind (around_in p graph) way rest e) → (y : Ending) → AllRead (behind_by (around_in p graph) rest e way y (behind (around_in p graph) (way + 2) rest e) (behind (around_in p graph) way rest e))
      by h k (Raises v) = tt
      by h k Tested = (λ v k. way_live (exceptions_of p) graph.types graph.result rest e v k, rests (is_some (onward rest e)) h)
      by h k Leaves = k

  others_read : (blocks : List LlBlock) (next : ℕ) → AllRead (others (around_in p graph) next blocks)
  others_read [] next = tt
  others_read (block ∷ blocks) next = both_read (behind_block (around_in p graph) next block) (others (around_in p graph) (next + length (behind_block (around_in p graph) next block)) blocks) (behind_read block.ops block.exit next)
      (others_read blocks (next + length (behind_block (around_in p graph) next block)))

  firsts_read : (blocks : List LlBlock) (next : ℕ) → ((n : ℕ) (block : LlBlock) → slice_get blocks n ≡ Some block → (v : ℕ) → Rattle.exc_laws.specs.Ready.is_live p block.ops block.exit v ≡ true → among v block.inputs ≡ true) → AllRead (firsts (around_in p graph) next blocks)
  firsts_read [] next closed = tt
  firsts_read (block ∷ blocks) next closed =
      (λ v k. closed 0 block refl v (needed_live p block.exit v block.ops (piece_live p graph block.ops block.exit next v k)), firsts_read blocks (next + length (behind_block (around_in p graph) next block)) (λ n b e. closed (suc n) b e))

  graph_read : ((n : ℕ) (block : LlBlock) → slice_get graph.blocks n ≡ Some block → (v : ℕ) → Rattle.exc_laws.specs.Ready.is_live p block.ops block.exit v ≡ true → among v block.inputs ≡ true) → AllRead (explicit_graph p graph).blocks
  graph_read closed = both_read (firsts (around_in p graph) (length graph.blocks) graph.blocks) (others (around_in p graph) (length graph.blocks) graph.blocks) (firsts_read graph.blocks (length graph.blocks) closed) (others_read graph.blocks (length graph.blocks))

pub explicit_reads : (p : LlProgram) → graphs_calm p.graphs ≡ false → IsClosed p → ReadsInputs (explicit p)
explicit_reads p raises closed f graph of n block at = one (slice_get p.graphs f) refl (sym (ap (λ b. slice_get (cond b p.graphs (graphs_of p.structs p.graphs)) f) raises ∙ get_map (graph_of (exceptions_of p) (marks_of p)) p.graphs f) ∙ of)
  where
    one : (o : Option LlGraph) → slice_get p.graphs f ≡ o → Rattle.std.specs.Prelude.option_map (graph_of (exceptions_of p) (marks_of p)) (slice_get p.graphs f) ≡ Some graph → Reads block
    one None e i = absurd (let j : None ≡ Some graph = ap (Rattle.std.specs.Prelude.option_map (graph_of (exceptions_of p) (marks_of p))) (sym e) ∙ i in cc)
    one (Some g) e i =
        let j : Some (explicit_graph p g) ≡ Some graph = ap (Rattle.std.specs.Prelude.option_map (graph_of (exceptions_of p) (marks_of p))) (sym e) ∙ i in
        let k : explicit_graph p g ≡ graph = cc in
        read_at (explicit_graph p g).blocks n block (graph_read p g (λ m b h. closed f g e m b h)) (ap (λ (g : LlGraph). slice_get g.blocks n) k ∙ at)
