-- The blocks of a graph, one after the other.
use Rattle.std.proofs.Common.{◌≡◌, ◌≤◌, ℕ, zero, suc, ◌+◌, Bool, true, false, List, [], ◌∷◌, ◌++◌, length, Some, refl, sym, ap, ◌∙◌, subst, arith}
use Rattle.std.specs.Prelude.{slice_get, if◌then◌else◌}
use Rattle.std.proofs.lemmas.List.{length-append}
use Rattle.ll_code.specs.declared.program.LlBlock.{LlBlock}
use Rattle.ll_code.specs.declared.program.LlType.{LlType}
use Rattle.ll_code.specs.declared.program.LlProgram.{LlProgram}
use Rattle.ll_build.specs.declared.needs.Numbers.{Numbers}
use Rattle.flow_graph.specs.declared.graph.Block.{Block}
use Rattle.flow_graph.specs.declared.graph.Graphs.{Graphs}
use Rattle.rtyper_data.specs.declared.found.Found.{Found}
use Rattle.rtyper_program.specs.Blocks.{block_of, dead_block}
use Rattle.rtyper_program.specs.Graphs.{block_at, blocks_from, paid, variables, with_block}
use Rattle.rtyper_program.specs.Handlers.{Work}
use Rattle.rtyper_program.specs.Links.{typed}
use Rattle.rtyper_program.specs.Seen.{Lowered, is_block_reached}
use Rattle.growth_laws.specs.Growing.{Grows}
use Rattle.growth_laws.proofs.Data.{then_grows}
use Rattle.growth_laws.proofs.Fronts.{in_front, last_one, longer}
use Rattle.growth_laws.proofs.Growing.{same_found}
use Rattle.object_laws.specs.Done.{HasLayout}
use Rattle.object_laws.specs.Known.{Known as Seen}
use Rattle.block_laws.specs.Operations.{HasTypes}
use Rattle.block_laws.specs.Links.{setting, HasBlocks}
use Rattle.rtyped_runs.specs.Parts.{BlockIsDone}
use Rattle.program_asks.proofs.WritingBlocks.{block_at_grows, blocks_grow}
use Rattle.rtyped_runs.proofs.Blocks.{BlockWritten, block_written}

-- ---- where a block stands

module _ (l : Lowered) where
  -- what was there stays
  pub blocks_kept : (n : ℕ) (bs : List Block) (made : List LlBlock × Work) (i : ℕ) (b : LlBlock) → slice_get made.0 i ≡ Some b → slice_get (blocks_from l n bs made).0 i ≡ Some b
  blocks_kept n [] made i b h = h
  blocks_kept n (x ∷ bs) made i b h = blocks_kept (n + 1) bs (with_block made.0 (block_at l n x made.1)) i b (in_front made.0 ((block_at l n x made.1).0 ∷ []) i b h)

  block_resets : (b : Block) (w : Work) → (block_of l b w).1.writing.body.ops ≡ []
  unfolding block_of
  block_resets b w = refl

  pub block_inputs : (b : Block) (w : Work) → (block_of l b w).0.inputs ≡ typed l b.inputs
  unfolding block_of
  block_inputs b w = refl

  resets : (n : ℕ) (b : Block) (w : Work) → w.writing.body.ops ≡ [] → (block_at l n b w).1.writing.body.ops ≡ []
  resets n b w h = by (is_block_reached l.known.annotation l.number n)
    where
      by : (c : Bool) → (if c then block_of l b (paid n w) else (dead_block, w)).1.writing.body.ops ≡ []
      by true = block_resets b (paid n w)
      by false = h

  -- a block stands at its number, as it is written behind some moment
  pub record Stands (m : ℕ) (b : Block) (made result : List LlBlock × Work) : Type 0 where
    pub w : Work
    pub there : slice_get result.0 m ≡ Some (block_at l m b w).0
    pub reset : w.writing.body.ops ≡ []
    pub early : Grows made.1.writing.found w.writing.found
    pub late : Grows (block_at l m b w).1.writing.found result.1.writing.found

  pub stand : (n : ℕ) (bs : List Block) (made : List LlBlock × Work) (j : ℕ) (b : Block) → length made.0 ≡ n → made.1.writing.body.ops ≡ [] → slice_get bs j ≡ Some b → Stands (n + j) b made (blocks_from l n bs made)
  stand n [] made j b e o h = absurd (cc)
  stand n (x ∷ bs) made zero b e o h =
      let same : x ≡ b = (let q : Some x ≡ Some b = h in cc) in
      let here : n + 0 ≡ n = omega arith in
      subst (λ (c : Block). Stands (n + 0) c made (blocks_from l n (x ∷ bs) made)) same
      (subst (λ (m : ℕ). Stands m x made (blocks_from l n (x ∷ bs) made)) (sym here) (record {
        w = made.1;
        there = blocks_kept (n + 1) bs (with_block made.0 (block_at l n x made.1)) n (block_at l n x made.1).0 (ap (slice_get (made.0 ++ (block_at l n x made.1).0 ∷ [])) (sym e) ∙ last_one made.0 (block_at l n x made.1).0);
        reset = o;
        early = same_found made.1.writing.found;
        late = blocks_grow l (n + 1) bs (with_block made.0 (block_at l n x made.1));
      }))
  stand n (x ∷ bs) made (suc j) b e o h =
      let it = stand (n + 1) bs (with_block made.0 (block_at l n x made.1)) j b (longer made.0 (block_at l n x made.1).0 ∙ ap (λ k. k + 1) e) (resets n x made.1 o) h in
      let here : n + 1 + j ≡ n + suc j = omega arith in
      subst (λ (m : ℕ). Stands m b made (blocks_from l n (x ∷ bs) made)) here (record { w = it.w; there = it.there; reset = it.reset; early = then_grows (block_at_grows l n x made.1) it.early; late = it.late })

-- ---- the variables of a graph

module _ (l : Lowered) (seen : Seen) (graphs : Graphs) (p : LlProgram) (arguments : List (List ℕ)) (numbers : Numbers) (first last : Found) (has : HasLayout p l.world.around.layout)
    (types : HasTypes (setting l seen graphs p arguments) l.number (length (variables l.known l.world l.number)))
    (graph : slice_get graphs.graphs l.number ≡ Some l.graph) (blocks : HasBlocks (setting l seen graphs p arguments) l) where
  abbrev below : ℕ
  below = length (variables l.known l.world l.number)

  abbrev count : Work → ℕ
  count w = length w.writing.body.types

  paid_count : (n : ℕ) (w : Work) → count (paid n w) ≡ count w
  paid_count zero w = refl
  paid_count (suc n) w = refl

  paid_found : (n : ℕ) (w : Work) → (paid n w).writing.found ≡ w.writing.found
  paid_found zero w = refl
  paid_found (suc n) w = refl

  abbrev Done : ℕ → Block → Type 0
  Done n b = is_block_reached l.known.annotation l.number n ≡ true → BlockIsDone (setting l seen graphs p arguments) numbers l first last b

  -- a block that is reached, as it is written
  pub written_at : (n : ℕ) (b : Block) (w : Work) → Done n b → is_block_reached l.known.annotation l.number n ≡ true → Grows first w.writing.found → Grows (block_at l n b w).1.writing.found last → below ≤ count w
      → BlockWritten l seen graphs p arguments numbers first last has types graph blocks b (paid n w)
  written_at n b w done reached early late enough =
      block_written l seen graphs p arguments numbers first last has types graph blocks b (paid n w) (done reached) (subst (λ (f : Found). Grows first f) (sym (paid_found n w)) early)
      (subst (λ (c : Bool). Grows (if c then block_of l b (paid n w) else (dead_block, w)).1.writing.found last) reached late) (let k = paid_count n w in omega (arith, k, enough))

  longer_at : (n : ℕ) (b : Block) (w : Work) → Done n b → Grows first w.writing.found → Grows (block_at l n b w).1.writing.found last → below ≤ count w → count w ≤ count (block_at l n b w).1
  longer_at n b w done early late enough = by (is_block_reached l.known.annotation l.number n) refl
    where
      by : (c : Bool) → is_block_reached l.known.annotation l.number n ≡ c → count w ≤ count (if is_block_reached l.known.annotation l.number n then block_of l b (paid n w) else (dead_block, w)).1
      by true e =
          let it = written_at n b w done e early late enough in
          let more : count (block_of l b (paid n w)).1 ≡ count (paid n w) + length it.new = ap (λ (ts : List LlType). length ts) it.added ∙ length-append (paid n w).writing.body.types it.new in
          subst (λ (c : Bool). count w ≤ count (if c then block_of l b (paid n w) else (dead_block, w)).1) (sym e) (let k = paid_count n w in omega (arith, k, more))
      by false e = subst (λ (c : Bool). count w ≤ count (if c then block_of l b (paid n w) else (dead_block, w)).1) (sym e) (omega arith)

  pub longer_all : (n : ℕ) (bs : List Block) (made : List LlBlock × Work) → ((j : ℕ) (b : Block) → slice_get bs j ≡ Some b → Done (n + j) b) → Grows first made.1.writing.found → Grows (blocks_from l n bs made).1.writing.found last → below ≤ count made.1 → count made.1 ≤ count (blocks_from l n bs made).1
  longer_all n [] made done early late enough = omega arith
  longer_all n (b ∷ bs) made done early late enough =
      let next = with_block made.0 (block_at l n b made.1) in
      let here : n + 0 ≡ n = omega arith in
      let one = longer_at n b made.1 (subst (λ (m : ℕ). Done m b) here (done 0 b refl)) early (then_grows (blocks_grow l (n + 1) bs next) late) enough in
      let rest = longer_all (n + 1) bs next (λ j c h. (let k : n + suc j ≡ n + 1 + j = omega arith in subst (λ (m : ℕ). Done m c) k (done (suc j) c h))) (then_grows early (block_at_grows l n b made.1)) late (omega (arith, enough, one)) in
      omega (arith, one, rest)

  -- a block, with room for its variables
  pub record StandsWell (m : ℕ) (b : Block) (made result : List LlBlock × Work) : Type 0 where
    pub stands : Stands l m b made result
    pub enough : below ≤ count stands.w
    pub most : count (block_at l m b stands.w).1 ≤ count result.1

  pub stand_well : (n : ℕ) (bs : List Block) (made : List LlBlock × Work) (j : ℕ) (b : Block) → length made.0 ≡ n → made.1.writing.body.ops ≡ [] → ((j : ℕ) (b : Block) → slice_get bs j ≡ Some b → Done (n + j) b) → Grows first made.1.writing.found → Grows (blocks_from l n bs made).1.writing.found last
      → below ≤ count made.1 → slice_get bs j ≡ Some b → StandsWell (n + j) b made (blocks_from l n bs made)
  stand_well n [] made j b e o done early late enough h = absurd (cc)
  stand_well n (x ∷ bs) made zero b e o done early late enough h =
      let next = with_block made.0 (block_at l n x made.1) in
      let same : x ≡ b = (let q : Some x ≡ Some b = h in cc) in
      let here : n + 0 ≡ n = omega arith in
      let one = longer_at n x made.1 (subst (λ (m : ℕ). Done m x) here (done 0 x refl)) early (then_grows (blocks_grow l (n + 1) bs next) late) enough in
      let rest = longer_all (n + 1) bs next (λ j c k. (let z : n + suc j ≡ n + 1 + j = omega arith in subst (λ (m : ℕ). Done m c) z (done (suc j) c k))) (then_grows early (block_at_grows l n x made.1)) late (omega (arith, enough, one)) in
      subst (λ (c : Block). StandsWell (n + 0) c made (blocks_from l n (x ∷ bs) made)) same
      (subst (λ (m : ℕ). StandsWell m x made (blocks_from l n (x ∷ bs) made)) (sym here) (record {
        stands = record {
          w = made.1;
          there = blocks_kept l (n + 1) bs next n (block_at l n x made.1).0 (ap (slice_get (made.0 ++ (block_at l n x made.1).0 ∷ [])) (sym e) ∙ last_one made.0 (block_at l n x made.1).0);
          reset = o;
          early = same_found made.1.writing.found;
          late = blocks_grow l (n + 1) bs next;
        };
        enough = enough;
        most = rest;
      }))
  stand_well n (x ∷ bs) made (suc j) b e o done early late enough h =
      let next = with_block made.0 (block_at l n x made.1) in
      let back : n + 0 ≡ n = omega arith in
      let one = longer_at n x made.1 (subst (λ (m : ℕ). Done m x) back (done 0 x refl)) early (then_grows (blocks_grow l (n + 1) bs next) late) enough in
      let it = stand_well (n + 1) bs next j b (longer made.0 (block_at l n x made.1).0 ∙ ap (λ k. k + 1) e) (resets l n x made.1 o) (λ j c k. (let z : n + suc j ≡ n + 1 + j = omega arith in subst (λ (m : ℕ). Done m c) z (done (suc j) c k)))
      (then_grows early (block_at_grows l n x made.1)) late (omega (arith, enough, one)) h in
      let here : n + 1 + j ≡ n + suc j = omega arith in
      subst (λ (m : ℕ). StandsWell m b made (blocks_from l n (x ∷ bs) made)) here
      (record {
        stands = record { w = it.stands.w; there = it.stands.there; reset = it.stands.reset; early = then_grows (block_at_grows l n x made.1) it.stands.early; late = it.stands.late };
        enough = it.enough;
        most = it.most;
      })
