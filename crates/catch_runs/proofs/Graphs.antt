-- The blocks of a graph, one after the other.
use Rattle.std.proofs.Common.{◌≡◌, ◌<◌, ◌≤◌, ◌^◌, ℕ, zero, suc, ◌+◌, Bool, true, false, List, [], ◌∷◌, ◌++◌, length, Some, refl, sym, ap, ◌∙◌, subst, arith}
use Rattle.std.specs.Prelude.{slice_get, if◌then◌else◌}
use Rattle.std.proofs.lemmas.List.{length-append}
use Rattle.ll_code.specs.declared.program.LlBlock.{LlBlock}
use Rattle.ll_code.specs.declared.program.LlGraph.{LlGraph}
use Rattle.ll_code.specs.declared.program.LlType.{LlType}
use Rattle.ll_code.specs.declared.program.LlProgram.{LlProgram}
use Rattle.ll_build.specs.declared.needs.Numbers.{Numbers}
use Rattle.flow_graph.specs.declared.graph.Block.{Block}
use Rattle.flow_graph.specs.declared.graph.Graphs.{Graphs}
use Rattle.rtyper_data.specs.declared.found.Found.{Found}
use Rattle.rtyper_program.specs.Blocks.{block_of, dead_block}
use Rattle.rtyper_program.specs.Graphs.{block_at, blocks_from, paid, variables, with_block}
use Rattle.rtyper_program.specs.Handlers.{Work}
use Rattle.rtyper_program.specs.Seen.{Lowered, is_block_reached}
use Rattle.growth_laws.specs.Growing.{Grows}
use Rattle.growth_laws.proofs.Data.{then_grows}
use Rattle.growth_laws.proofs.Fronts.{last_one, longer}
use Rattle.growth_laws.proofs.Growing.{same_found}
use Rattle.layout_laws.proofs.Structs.{word_same}
use Rattle.object_laws.specs.Done.{HasLayout}
use Rattle.object_laws.specs.Known.{Known as Seen}
use Rattle.block_laws.specs.Operations.{HasTypes}
use Rattle.block_laws.specs.Links.{setting, HasBlocks}
use Rattle.catch_laws.specs.Caught.{IsTold}
use Rattle.catch_laws.specs.Exits.{quiet_by}
use Rattle.catch_laws.specs.Handlers.{AreInGraph}
use Rattle.catch_laws.proofs.Handling.{before_added}
use Rattle.program_asks.proofs.WritingBlocks.{block_at_grows, blocks_grow}
use Rattle.rtyped_runs.proofs.Graphs.{Stands, blocks_kept}
use Rattle.catch_runs.specs.Parts.{BlockIsDoneSo}
use Rattle.catch_runs.proofs.Blocks.{BlockWrittenSo, block_written_so}
use Rattle.catch_runs.proofs.Extras.{blocks_in_graph}

-- ---- blocks that were made on the way

beyond : (xs ys : List LlBlock) (i : ℕ) → slice_get (xs ++ ys) (length xs + i) ≡ slice_get ys i
beyond [] ys i = ap (slice_get ys) (let z : 0 + i ≡ i = omega arith in z)
beyond (x ∷ xs) ys i = ap (slice_get (x ∷ (xs ++ ys))) (let z : suc (length xs) + i ≡ suc (length xs + i) = omega arith in z) ∙ beyond xs ys i

within : (xs : List LlBlock) (i : ℕ) (b : LlBlock) → slice_get xs i ≡ Some b → i < length xs
within [] i b h = absurd (cc)
within (x ∷ xs) zero b h = omega arith
within (x ∷ xs) (suc i) b h = (let k = within xs i b h in omega (arith, k))

module _ (l : Lowered) where
  counted : (n : ℕ) (bs : List Block) (made : List LlBlock × Work) → length (blocks_from l n bs made).0 ≡ length made.0 + length bs
  counted n [] made = omega arith
  counted n (b ∷ bs) made = (let a = counted (n + 1) bs (with_block made.0 (block_at l n b made.1)) in let c = longer made.0 (block_at l n b made.1).0 in omega (arith, a, c))

  -- they are counted from the same number on
  first_same : (n k : ℕ) (bs : List Block) (made : List LlBlock × Work) → made.1.extra.first ≡ k → (blocks_from l n bs made).1.extra.first ≡ k
  first_same n k bs made = blocks_in_graph (λ e. e.first ≡ k → (blocks_from l n bs made).1.extra.first ≡ k) (λ b e h. h) l n bs made (λ h. h)

  -- those of the whole graph stand behind its blocks
  pub extra_stands : (bs : List Block) (made : List LlBlock × Work) (graph : LlGraph) → made.0 ≡ [] → made.1.extra.first ≡ length bs → graph.blocks ≡ (blocks_from l 0 bs made).0 ++ (blocks_from l 0 bs made).1.extra.blocks → length graph.blocks < 2 ^ 64 → AreInGraph graph (blocks_from l 0 bs made).1.extra
  extra_stands bs made graph none start are few i b h =
      let result = blocks_from l 0 bs made in
      let count : length result.0 ≡ length bs = counted 0 bs made ∙ ap (λ (ys : List LlBlock). length ys + length bs) none ∙ (let z : 0 + length bs ≡ length bs = omega arith in z) in
      let first : result.1.extra.first ≡ length result.0 = first_same 0 (length bs) bs made start ∙ sym count in
      let all : length graph.blocks ≡ length result.0 + length result.1.extra.blocks = ap (λ (ys : List LlBlock). length ys) are ∙ length-append result.0 result.1.extra.blocks in
      let under = within result.1.extra.blocks i b h in
      let small : result.1.extra.first + i < 2 ^ 64 = omega (arith, first, all, under, few) in
      ap (slice_get graph.blocks) (word_same (result.1.extra.first + i) small ∙ ap (λ m. m + i) first) ∙ ap (λ (ys : List LlBlock). slice_get ys (length result.0 + i)) are ∙ beyond result.0 result.1.extra.blocks i ∙ h

  block_resets : (b : Block) (w : Work) → (block_of l b w).1.writing.body.ops ≡ []
  unfolding block_of
  block_resets b w = refl

  resets : (n : ℕ) (b : Block) (w : Work) → w.writing.body.ops ≡ [] → (block_at l n b w).1.writing.body.ops ≡ []
  resets n b w h = by (is_block_reached l.known.annotation l.number n)
    where
      by : (c : Bool) → (if c then block_of l b (paid n w) else (dead_block, w)).1.writing.body.ops ≡ []
      by true = block_resets b (paid n w)
      by false = h

  extra_before : (n : ℕ) (bs : List Block) (made : List LlBlock × Work) (graph : LlGraph) → AreInGraph graph (blocks_from l n bs made).1.extra → AreInGraph graph made.1.extra
  extra_before n bs made graph h = blocks_in_graph (AreInGraph graph) (λ b e k. before_added graph b e k) l n bs made h

-- ---- the variables of a graph

module _ (l : Lowered) (seen : Seen) (graphs : Graphs) (p : LlProgram) (arguments : List (List ℕ)) (numbers : Numbers) (first last : Found) (has : HasLayout p l.world.around.layout)
    (types : HasTypes (setting l seen graphs p arguments) l.number (length (variables l.known l.world l.number)))
    (graph : slice_get graphs.graphs l.number ≡ Some l.graph) (blocks : HasBlocks (setting l seen graphs p arguments) l)
    (told : (found : Found) → Grows first found → Grows found last → IsTold (setting l seen graphs p arguments) (quiet_by found)) where
  abbrev below : ℕ
  below = length (variables l.known l.world l.number)

  abbrev count : Work → ℕ
  count w = length w.writing.body.types

  paid_count : (n : ℕ) (w : Work) → count (paid n w) ≡ count w
  paid_count zero w = refl
  paid_count (suc n) w = refl

  paid_found : (n : ℕ) (w : Work) → (paid n w).writing.found ≡ w.writing.found
  paid_found zero w = refl
  paid_found (suc n) w = refl

  abbrev Done : ℕ → Block → Type 0
  Done n b = is_block_reached l.known.annotation l.number n ≡ true → BlockIsDoneSo (setting l seen graphs p arguments) numbers l first last b

  -- a block that is reached, as it is written
  pub written_at : (n : ℕ) (b : Block) (w : Work) → Done n b → is_block_reached l.known.annotation l.number n ≡ true → Grows first w.writing.found → Grows (block_at l n b w).1.writing.found last → below ≤ count w
      → BlockWrittenSo l seen graphs p arguments numbers first last has types graph blocks told b (paid n w)
  written_at n b w done reached early late enough =
      block_written_so l seen graphs p arguments numbers first last has types graph blocks told b (paid n w) (subst (λ (f : Found). Grows first f) (sym (paid_found n w)) early)
      (subst (λ (c : Bool). Grows (if c then block_of l b (paid n w) else (dead_block, w)).1.writing.found last) reached late) (let k = paid_count n w in omega (arith, k, enough)) (done reached)

  longer_at : (n : ℕ) (b : Block) (w : Work) → Done n b → Grows first w.writing.found → Grows (block_at l n b w).1.writing.found last → below ≤ count w → count w ≤ count (block_at l n b w).1
  longer_at n b w done early late enough = by (is_block_reached l.known.annotation l.number n) refl
    where
      by : (c : Bool) → is_block_reached l.known.annotation l.number n ≡ c → count w ≤ count (if is_block_reached l.known.annotation l.number n then block_of l b (paid n w) else (dead_block, w)).1
      by true e =
          let it = written_at n b w done e early late enough in
          let more : count (block_of l b (paid n w)).1 ≡ count (paid n w) + length it.new = ap (λ (ts : List LlType). length ts) it.added ∙ length-append (paid n w).writing.body.types it.new in
          subst (λ (c : Bool). count w ≤ count (if c then block_of l b (paid n w) else (dead_block, w)).1) (sym e) (let k = paid_count n w in omega (arith, k, more))
      by false e = subst (λ (c : Bool). count w ≤ count (if c then block_of l b (paid n w) else (dead_block, w)).1) (sym e) (omega arith)

  pub longer_all : (n : ℕ) (bs : List Block) (made : List LlBlock × Work) → ((j : ℕ) (b : Block) → slice_get bs j ≡ Some b → Done (n + j) b) → Grows first made.1.writing.found → Grows (blocks_from l n bs made).1.writing.found last → below ≤ count made.1 → count made.1 ≤ count (blocks_from l n bs made).1
  longer_all n [] made done early late enough = omega arith
  longer_all n (b ∷ bs) made done early late enough =
      let next = with_block made.0 (block_at l n b made.1) in
      let here : n + 0 ≡ n = omega arith in
      let one = longer_at n b made.1 (subst (λ (m : ℕ). Done m b) here (done 0 b refl)) early (then_grows (blocks_grow l (n + 1) bs next) late) enough in
      let rest = longer_all (n + 1) bs next (λ j c h. (let k : n + suc j ≡ n + 1 + j = omega arith in subst (λ (m : ℕ). Done m c) k (done (suc j) c h))) (then_grows early (block_at_grows l n b made.1)) late (omega (arith, enough, one)) in
      omega (arith, one, rest)

  -- a block, with room for its variables
  pub record StandsWell (m : ℕ) (b : Block) (made result : List LlBlock × Work) : Type 0 where
    pub stands : Stands l m b made result
    pub enough : below ≤ count stands.w
    pub most : count (block_at l m b stands.w).1 ≤ count result.1
    pub extra : (graph : LlGraph) → AreInGraph graph result.1.extra → AreInGraph graph (block_at l m b stands.w).1.extra

  pub stand_well : (n : ℕ) (bs : List Block) (made : List LlBlock × Work) (j : ℕ) (b : Block) → length made.0 ≡ n → made.1.writing.body.ops ≡ [] → ((j : ℕ) (b : Block) → slice_get bs j ≡ Some b → Done (n + j) b) → Grows first made.1.writing.found → Grows (blocks_from l n bs made).1.writing.found last
      → below ≤ count made.1 → slice_get bs j ≡ Some b → StandsWell (n + j) b made (blocks_from l n bs made)
  stand_well n [] made j b e o done early late enough h = absurd (cc)
  stand_well n (x ∷ bs) made zero b e o done early late enough h =
      let next = with_block made.0 (block_at l n x made.1) in
      let same : x ≡ b = (let q : Some x ≡ Some b = h in cc) in
      let here : n + 0 ≡ n = omega arith in
      let one = longer_at n x made.1 (subst (λ (m : ℕ). Done m x) here (done 0 x refl)) early (then_grows (blocks_grow l (n + 1) bs next) late) enough in
      let rest = longer_all (n + 1) bs next (λ j c k. (let z : n + suc j ≡ n + 1 + j = omega arith in subst (λ (m : ℕ). Done m c) z (done (suc j) c k))) (then_grows early (block_at_grows l n x made.1)) late (omega (arith, enough, one)) in
      subst (λ (c : Block). StandsWell (n + 0) c made (blocks_from l n (x ∷ bs) made)) same
      (subst (λ (m : ℕ). StandsWell m x made (blocks_from l n (x ∷ bs) made)) (sym here) (record {
        stands = record {
          w = made.1;
          there = blocks_kept l (n + 1) bs next n (block_at l n x made.1).0 (ap (slice_get (made.0 ++ (block_at l n x made.1).0 ∷ [])) (sym e) ∙ last_one made.0 (block_at l n x made.1).0);
          reset = o;
          early = same_found made.1.writing.found;
          late = blocks_grow l (n + 1) bs next;
        };
        enough = enough;
        most = rest;
        extra = λ graph h. extra_before l (n + 1) bs next graph h;
      }))
  stand_well n (x ∷ bs) made (suc j) b e o done early late enough h =
      let next = with_block made.0 (block_at l n x made.1) in
      let back : n + 0 ≡ n = omega arith in
      let one = longer_at n x made.1 (subst (λ (m : ℕ). Done m x) back (done 0 x refl)) early (then_grows (blocks_grow l (n + 1) bs next) late) enough in
      let it = stand_well (n + 1) bs next j b (longer made.0 (block_at l n x made.1).0 ∙ ap (λ k. k + 1) e) (resets l n x made.1 o) (λ j c k. (let z : n + suc j ≡ n + 1 + j = omega arith in subst (λ (m : ℕ). Done m c) z (done (suc j) c k)))
      (then_grows early (block_at_grows l n x made.1)) late (omega (arith, enough, one)) h in
      let here : n + 1 + j ≡ n + suc j = omega arith in
      subst (λ (m : ℕ). StandsWell m b made (blocks_from l n (x ∷ bs) made)) here
      (record {
        stands = record { w = it.stands.w; there = it.stands.there; reset = it.stands.reset; early = then_grows (block_at_grows l n x made.1) it.stands.early; late = it.stands.late };
        enough = it.enough;
        most = it.most;
        extra = it.extra;
      })
