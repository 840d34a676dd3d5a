-- What the effects of steps add to what is held, and to the references there.
use Rattle.std.proofs.Common.{◌≡◌, ◌<◌, ◌≤◌, ℕ, ◌+◌, Bool, true, false, ◌&&◌, ◌==◌, List, [], ◌∷◌, ◌++◌, length, Option, Some, None, refl, sym, ap, ◌∙◌, subst, arith, ◌⊎◌, inl, inr, ◌≢◌}
use Rattle.std.specs.Prelude.{not, slice_index_or, slice_set}
use Rattle.csub_tree.specs.State.{Value, Block}
use Rattle.ll_code.specs.State.{State}
use Rattle.ll_code.specs.declared.program.LlProgram.{LlProgram}
use Rattle.ll_laws.proofs.Values.{and_left, and_right}
use Rattle.ll_laws.proofs.Cells.{new_at, old_at, is_new as is_it}
use Rattle.ll_laws.proofs.Operations.{set_at}
use Rattle.ll_held.specs.Roots.{roots}
use Rattle.ll_held.proofs.Keeping.{same_number}
use Rattle.ll_held.specs.Held.{times, references, cells, cells_at, Refers, Reaches, Next, Then, Held, Root, Cycle, From, is_new, are_distinct, AllHeld, references_in}
use Rattle.ll_leads.specs.Path.{stored}
use Rattle.ll_leads.specs.Effect.{blocks_of, IsHeld, RootsAre, Effect, Same, Makes, Writes, WritesStatic, HeldStore}

-- ---- what is held

-- the blocks of the one list refer to nothing but what those of the other do, or to what is good
module _ (old new : List (Option Block)) (roots : List Value) (good : ℕ → Type 0) (edge : (a b : ℕ) → Refers new a b → Refers old a b ⊎ good b) (on : (a b : ℕ) → good a → Refers old a b → good b) (cycle : (b : ℕ) → Reaches old b b → good b) where
  way : {a b : ℕ} → Reaches new a b → Reaches old a b ⊎ good b
  way (Next {a = a} {b = b} r) = one (edge a b r)
    where
      one : Refers old a b ⊎ good b → Reaches old a b ⊎ good b
      one (inl h) = inl (Next h)
      one (inr g) = inr g
  way (Then {a = a} {b = b} {c = c} r w) = two (edge a b r) (way w)
    where
      reached : {b c : ℕ} → good b → Reaches old b c → good c
      reached g (Next {a = x} {b = y} h) = on x y g h
      reached g (Then {a = x} {b = y} {c = z} h v) = reached (on x y g h) v

      two : Refers old a b ⊎ good b → Reaches old b c ⊎ good c → Reaches old a c ⊎ good c
      two (inl h) (inl v) = inl (Then h v)
      two (inr g) (inl v) = inr (reached g v)
      two h (inr g) = inr g

  pub held_good : ((b : ℕ) → 0 < times b roots → good b) → (b : ℕ) → Held new roots b → good b
  held_good root b (Root h) = root b h
  held_good root b (Cycle w) = one (way w)
    where
      one : Reaches old b b ⊎ good b → good b
      one (inl v) = cycle b v
      one (inr g) = g
  held_good root b (From {a = a} h r) = one (held_good root a h) (edge a b r)
    where
      one : good a → Refers old a b ⊎ good b → good b
      one g (inl r) = on a b g r
      one g (inr k) = k

both : (a b : Bool) → a ≡ true → b ≡ true → (a && b) ≡ true
both true b h k = k
both false b h k = absurd (cc)

-- ---- blocks at their places

-- where a block was made the others are as they were
made_at : (blocks : List (Option Block)) (block : Block) (n : ℕ) → n ≢ length blocks → cells_at (blocks ++ Some block ∷ []) n ≡ cells_at blocks n
made_at blocks block n ne = ap cells (old_at blocks (Some block) None n ne)

made_there : (blocks : List (Option Block)) (block : Block) → cells_at (blocks ++ Some block ∷ []) (length blocks) ≡ cells (Some block)
made_there blocks block = ap cells (new_at blocks (Some block) None)

past : (blocks : List (Option Block)) → cells_at blocks (length blocks) ≡ []
past [] = refl
past (block ∷ blocks) = past blocks

-- a block that is written, or another
wrote_at : (blocks : List (Option Block)) (n k : ℕ) (old new : Block) → slice_index_or blocks n None ≡ Some old → (cells_at (slice_set blocks n (Some new)) k ≡ cells_at blocks k) ⊎ ((n ≡ k) × (cells_at (slice_set blocks n (Some new)) k ≡ cells (Some new)))
wrote_at blocks n k old new is = one (set_at blocks n k (Some new) None)
  where
    one : (slice_index_or (slice_set blocks n (Some new)) k None ≡ slice_index_or blocks k None) ⊎ ((n ≡ k) × (slice_index_or (slice_set blocks n (Some new)) k None ≡ Some new))
        → (cells_at (slice_set blocks n (Some new)) k ≡ cells_at blocks k) ⊎ ((n ≡ k) × (cells_at (slice_set blocks n (Some new)) k ≡ cells (Some new)))
    one (inl e) = inl (ap cells e)
    one (inr e) = inr (e.0, ap cells e.1)

-- ---- steps

module _ (p : LlProgram) (s t : State) where
  on_held : (a b : ℕ) → IsHeld p s a → Refers (blocks_of s) a b → IsHeld p s b
  on_held a b h r = From h r

  same_holds : blocks_of t ≡ blocks_of s → RootsAre p t (IsHeld p s) → (b : ℕ) → IsHeld p t b → IsHeld p s b
  same_holds blocks root b h = held_good (blocks_of s) (blocks_of s) (roots p t) (IsHeld p s) (λ a b r. inl r) on_held (λ b w. Cycle w) root b (subst (λ bs. Held bs (roots p t) b) blocks h)

  -- a block that is written: what is held then was held before
  written_holds : (n : ℕ) (old new : Block) → slice_index_or (blocks_of s) n None ≡ Some old → blocks_of t ≡ slice_set (blocks_of s) n (Some new) → ((b : ℕ) → 0 < times b (cells (Some new)) → (0 < times b (cells (Some old))) ⊎ IsHeld p s b) → RootsAre p t (IsHeld p s) → (b : ℕ) → IsHeld p t b → IsHeld p s b
  written_holds n old new is blocks names root b h =
      held_good (blocks_of s) (slice_set (blocks_of s) n (Some new)) (roots p t) (IsHeld p s) edge on_held (λ b w. Cycle w) root b (subst (λ bs. Held bs (roots p t) b) blocks h)
    where
      edge : (a b : ℕ) → Refers (slice_set (blocks_of s) n (Some new)) a b → Refers (blocks_of s) a b ⊎ IsHeld p s b
      edge a b r = one (wrote_at (blocks_of s) n a old new is)
        where
          was : n ≡ a → 0 < times b (cells (Some old)) → Refers (blocks_of s) a b
          was e h = subst (λ (o : Option Block). 0 < times b (cells o)) (sym (sym (ap (λ k. slice_index_or (blocks_of s) k None) e) ∙ is)) h

          two : n ≡ a → (0 < times b (cells (Some old))) ⊎ IsHeld p s b → Refers (blocks_of s) a b ⊎ IsHeld p s b
          two e (inl h) = inl (was e h)
          two e (inr h) = inr h

          one : (cells_at (slice_set (blocks_of s) n (Some new)) a ≡ cells_at (blocks_of s) a) ⊎ ((n ≡ a) × (cells_at (slice_set (blocks_of s) n (Some new)) a ≡ cells (Some new))) → Refers (blocks_of s) a b ⊎ IsHeld p s b
          one (inl e) = inl (subst (λ vs. 0 < times b vs) e r)
          one (inr e) = two e.0 (names b (subst (λ vs. 0 < times b vs) e.1 r))

  -- what is held after a step was held before it, or is the block that it makes
  pub effect_holds : Effect p s t → (b : ℕ) → IsHeld p t b → IsHeld p s b ⊎ (b ≡ length (blocks_of s))
  effect_holds (Same memory root) b h = inl (same_holds (ap (λ m. m.0) memory) root b h)
  effect_holds (Makes block none few blocks statics root) b h =
      held_good (blocks_of s) (blocks_of s ++ Some block ∷ []) (roots p t) Good edge on (λ b w. inl (Cycle w)) root b (subst (λ bs. Held bs (roots p t) b) blocks h)
    where
      Good : ℕ → Type 0
      Good b = IsHeld p s b ⊎ (b ≡ length (blocks_of s))

      edge : (a b : ℕ) → Refers (blocks_of s ++ Some block ∷ []) a b → Refers (blocks_of s) a b ⊎ Good b
      edge a b r = one (is_it a (length (blocks_of s)))
        where
          one : (a ≡ length (blocks_of s)) ⊎ (a ≢ length (blocks_of s)) → Refers (blocks_of s) a b ⊎ Good b
          one (inl e) =
              let h : 0 < times b (cells_at (blocks_of s ++ Some block ∷ []) (length (blocks_of s))) = subst (λ k. 0 < times b (cells_at (blocks_of s ++ Some block ∷ []) k)) e r in
              let k : 0 < times b (cells (Some block)) = subst (λ vs. 0 < times b vs) (made_there (blocks_of s) block) h in
              absurd (let z : times b (cells (Some block)) ≡ 0 = none b in omega (arith, z, k))
          one (inr ne) = inl (subst (λ vs. 0 < times b vs) (made_at (blocks_of s) block a ne) r)

      on : (a b : ℕ) → Good a → Refers (blocks_of s) a b → Good b
      on a b (inl h) r = inl (From h r)
      on a b (inr e) r = absurd (let z : times b (cells_at (blocks_of s) a) ≡ 0 = ap (λ k. times b (cells_at (blocks_of s) k)) e ∙ ap (times b) (past (blocks_of s)) in let k : 0 < times b (cells_at (blocks_of s) a) = r in omega (arith, z, k))
  effect_holds (Writes n old new is blocks statics names few root) b h = inl (written_holds n old new is blocks names root b h)
  effect_holds (WritesStatic g old new is blocks statics names root) b h = inl (same_holds blocks root b h)

  -- ---- references

  all_held : ((b : ℕ) → IsHeld p t b → IsHeld p s b) → (bs : List ℕ) → AllHeld (blocks_of t) (roots p t) bs → AllHeld (blocks_of s) (roots p s) bs
  all_held h [] k = tt
  all_held h (b ∷ bs) (k, ks) = (h b k, all_held h bs ks)

  -- ---- a block that is made

  module _ (block : Block) (few : references (cells (Some block)) ≡ 0) (blocks : blocks_of t ≡ blocks_of s ++ Some block ∷ []) (holds : (b : ℕ) → IsHeld p t b → IsHeld p s b ⊎ (b ≡ length (blocks_of s))) where
    -- the same list without the new block
    record Old (bs : List ℕ) : Type 0 where
      kept : List ℕ
      distinct : are_distinct kept ≡ true
      held : AllHeld (blocks_of s) (roots p s) kept
      same : references_in (blocks_of t) bs ≡ references_in (blocks_of s) kept
      new : (b : ℕ) → is_new b bs ≡ true → is_new b kept ≡ true

    old : (bs : List ℕ) → are_distinct bs ≡ true → AllHeld (blocks_of t) (roots p t) bs → Old bs
    old [] d h = record { kept = []; distinct = refl; held = tt; same = refl; new = λ b n. refl }
    old (b ∷ bs) d (h, hs) = one (old bs (and_right _ _ d) hs) (is_it b (length (blocks_of s))) (holds b h)
      where
        at_new : b ≡ length (blocks_of s) → references (cells_at (blocks_of t) b) ≡ 0
        at_new e = ap (λ k. references (cells_at (blocks_of t) k)) e ∙ (ap (λ bs. references (cells_at bs (length (blocks_of s)))) blocks ∙ (ap references (made_there (blocks_of s) block) ∙ few))

        at_old : b ≢ length (blocks_of s) → references (cells_at (blocks_of t) b) ≡ references (cells_at (blocks_of s) b)
        at_old ne = ap (λ bs. references (cells_at bs b)) blocks ∙ ap references (made_at (blocks_of s) block b ne)

        one : Old bs → (b ≡ length (blocks_of s)) ⊎ (b ≢ length (blocks_of s)) → IsHeld p s b ⊎ (b ≡ length (blocks_of s)) → Old (b ∷ bs)
        one o (inl e) k = record { kept = o.kept; distinct = o.distinct; held = o.held; same = (let z : references (cells_at (blocks_of t) b) ≡ 0 = at_new e in let q : references_in (blocks_of t) bs ≡ references_in (blocks_of s) o.kept = o.same in omega (arith, z, q)); new = λ c n. o.new c (and_right _ _ n) }
        one o (inr ne) (inr e) = absurd (ne e)
        one o (inr ne) (inl k) = record {
          kept = b ∷ o.kept;
          distinct = both (is_new b o.kept) (are_distinct o.kept) (o.new b (and_left _ _ d)) o.distinct;
          held = (k, o.held);
          same = (let z : references (cells_at (blocks_of t) b) ≡ references (cells_at (blocks_of s) b) = at_old ne in let q : references_in (blocks_of t) bs ≡ references_in (blocks_of s) o.kept = o.same in omega (arith, z, q));
          new = λ c n. both (not (c == b)) (is_new c o.kept) (and_left _ _ n) (o.new c (and_right _ _ n));
        }

  -- ---- a block that is written

  module _ (n : ℕ) (old new : Block) (is : slice_index_or (blocks_of s) n None ≡ Some old) (blocks : blocks_of t ≡ slice_set (blocks_of s) n (Some new)) (few : references (cells (Some new)) ≤ references (cells (Some old)) + stored s) where
    elsewhere : (b : ℕ) → ((n ≡ b) → ⊥) → references (cells_at (blocks_of t) b) ≡ references (cells_at (blocks_of s) b)
    elsewhere b ne = ap (λ bs. references (cells_at bs b)) blocks ∙ one (wrote_at (blocks_of s) n b old new is)
      where
        one : (cells_at (slice_set (blocks_of s) n (Some new)) b ≡ cells_at (blocks_of s) b) ⊎ ((n ≡ b) × (cells_at (slice_set (blocks_of s) n (Some new)) b ≡ cells (Some new))) → references (cells_at (slice_set (blocks_of s) n (Some new)) b) ≡ references (cells_at (blocks_of s) b)
        one (inl e) = ap references e
        one (inr e) = absurd (ne e.0)

    here : (b : ℕ) → n ≡ b → references (cells_at (blocks_of t) b) ≤ references (cells_at (blocks_of s) b) + stored s
    here b e = subst (λ vs. references vs ≤ references (cells_at (blocks_of s) b) + stored s) (sym (ap (λ bs. cells_at bs b) blocks)) (one (wrote_at (blocks_of s) n b old new is))
      where
        was : cells_at (blocks_of s) b ≡ cells (Some old)
        was = ap (λ k. cells_at (blocks_of s) k) (sym e) ∙ ap cells is

        one : (cells_at (slice_set (blocks_of s) n (Some new)) b ≡ cells_at (blocks_of s) b) ⊎ ((n ≡ b) × (cells_at (slice_set (blocks_of s) n (Some new)) b ≡ cells (Some new))) → references (cells_at (slice_set (blocks_of s) n (Some new)) b) ≤ references (cells_at (blocks_of s) b) + stored s
        one (inl e) = let q : references (cells_at (slice_set (blocks_of s) n (Some new)) b) ≡ references (cells_at (blocks_of s) b) = ap references e in omega (arith, q)
        one (inr e) =
            let q : references (cells_at (slice_set (blocks_of s) n (Some new)) b) ≡ references (cells (Some new)) = ap references e.1 in
            let w : references (cells_at (blocks_of s) b) ≡ references (cells (Some old)) = ap references was in
            let l : references (cells (Some new)) ≤ references (cells (Some old)) + stored s = few in omega (arith, q, w, l)

    apart : (b : ℕ) (bs : List ℕ) → is_new b bs ≡ true → n ≡ b → references_in (blocks_of t) bs ≡ references_in (blocks_of s) bs
    apart b [] d e = refl
    apart b (c ∷ bs) d e =
        let ne : (n ≡ c) → ⊥ = λ f. let g : (b == c) ≡ true = ap (λ k. k == c) (sym e ∙ f) ∙ same_number c in let h : not (b == c) ≡ true = and_left _ _ d in let k : not true ≡ true = ap not (sym g) ∙ h in absurd (cc) in
        let q : references (cells_at (blocks_of t) c) ≡ references (cells_at (blocks_of s) c) = elsewhere c ne in
        let r : references_in (blocks_of t) bs ≡ references_in (blocks_of s) bs = apart b bs (and_right _ _ d) e in omega (arith, q, r)

    written : (bs : List ℕ) → are_distinct bs ≡ true → references_in (blocks_of t) bs ≤ references_in (blocks_of s) bs + stored s
    written [] d = omega arith
    written (b ∷ bs) d = one (written bs (and_right _ _ d)) (is_it n b)
      where
        one : references_in (blocks_of t) bs ≤ references_in (blocks_of s) bs + stored s → (n ≡ b) ⊎ (n ≢ b) → references_in (blocks_of t) (b ∷ bs) ≤ references_in (blocks_of s) (b ∷ bs) + stored s
        one w (inl e) =
            let q : references (cells_at (blocks_of t) b) ≤ references (cells_at (blocks_of s) b) + stored s = here b e in
            let r : references_in (blocks_of t) bs ≡ references_in (blocks_of s) bs = apart b bs (and_left _ _ d) e in omega (arith, q, r)
        one w (inr ne) =
            let q : references (cells_at (blocks_of t) b) ≡ references (cells_at (blocks_of s) b) = elsewhere b ne in
            let r : references_in (blocks_of t) bs ≤ references_in (blocks_of s) bs + stored s = w in omega (arith, q, r)

  unwritten : blocks_of t ≡ blocks_of s → RootsAre p t (IsHeld p s) → (most : ℕ) → HeldStore p s most → HeldStore p t (most + stored s)
  unwritten blocks root most h bs d k =
      let q : references_in (blocks_of t) bs ≡ references_in (blocks_of s) bs = ap (λ l. references_in l bs) blocks in
      let r : references_in (blocks_of s) bs ≤ most = h bs d (all_held (same_holds blocks root) bs k) in omega (arith, q, r)

  -- a step adds no more references to what is held than it writes
  pub effect_adds : Effect p s t → (most : ℕ) → HeldStore p s most → HeldStore p t (most + stored s)
  effect_adds (Same memory root) most h bs d k = unwritten (ap (λ m. m.0) memory) root most h bs d k
  effect_adds (WritesStatic g old new is blocks statics names root) most h bs d k = unwritten blocks root most h bs d k
  effect_adds (Makes block none few blocks statics root) most h bs d k = one (old block few blocks (effect_holds (Makes block none few blocks statics root)) bs d k)
    where
      one : Old block few blocks (effect_holds (Makes block none few blocks statics root)) bs → references_in (blocks_of t) bs ≤ most + stored s
      one o = let q : references_in (blocks_of t) bs ≡ references_in (blocks_of s) o.kept = o.same in let r : references_in (blocks_of s) o.kept ≤ most = h o.kept o.distinct o.held in omega (arith, q, r)
  effect_adds (Writes n old new is blocks statics names few root) most h bs d k =
      let q : references_in (blocks_of t) bs ≤ references_in (blocks_of s) bs + stored s = written n old new is blocks few bs d in
      let r : references_in (blocks_of s) bs ≤ most = h bs d (all_held (written_holds n old new is blocks names root) bs k) in omega (arith, q, r)
