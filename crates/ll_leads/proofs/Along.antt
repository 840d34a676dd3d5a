-- What is added along a way.
use Rattle.std.proofs.Common.{◌≡◌, ◌<◌, ◌≤◌, ℕ, zero, suc, ◌+◌, List, [], ◌∷◌, ◌++◌, Some, refl, sym, ap, ◌∙◌, subst, arith, ◌⊎◌, inl, inr}
use Rattle.std.specs.Prelude.{slice_get, slice_set}
use Rattle.csub_tree.specs.State.{Block}
use Rattle.ll_code.specs.State.{State, Next, Goes, Puts, Tells}
use Rattle.ll_code.specs.Machine.{step}
use Rattle.ll_code.specs.declared.program.LlProgram.{LlProgram}
use Rattle.ll_laws.specs.States.{StateFits, NextFits}
use Rattle.ll_laws.proofs.Steps.{step_fits}
use Rattle.ll_held.specs.Roots.{core_of}
use Rattle.ll_held.specs.Held.{times, cells}
use Rattle.ll_held.specs.Places.{IsPlaced}
use Rattle.ll_held.proofs.Placing.{NextPlaced, step_placed}
use Rattle.ll_leads.specs.Path.{Path, Stay, Go, Put, Tell, stored, total}
use Rattle.ll_leads.specs.Effect.{statics_of, StaticsNameNone, Effect, Same, Makes, Writes, WritesStatic, HeldStore, AllOn, into_static, into_statics}
use Rattle.ll_leads.specs.Bounded.{IsRaw, IsSound}
use Rattle.ll_leads.proofs.Counting.{effect_adds}
use Rattle.ll_leads.proofs.Effects.{NextEffect, step_effect}

-- ---- statics

get_set : {A : Type 0} (xs : List A) (a b : ℕ) (x y : A) → slice_get (slice_set xs a x) b ≡ Some y → (slice_get xs b ≡ Some y) ⊎ ((a ≡ b) × (x ≡ y))
get_set [] a b x y e = inl e
get_set (z ∷ xs) zero zero x y e = inr (refl, cc)
get_set (z ∷ xs) zero (suc b) x y e = inl e
get_set (z ∷ xs) (suc a) zero x y e = inl e
get_set (z ∷ xs) (suc a) (suc b) x y e = one (get_set xs a b x y e)
  where
    one : (slice_get xs b ≡ Some y) ⊎ ((a ≡ b) × (x ≡ y)) → (slice_get xs b ≡ Some y) ⊎ ((suc a ≡ suc b) × (x ≡ y))
    one (inl h) = inl h
    one (inr h) = inr (ap suc h.0, h.1)

-- where no reference is written into a static, no static names a block
keeps_statics : (p : LlProgram) (s t : State) → Effect p s t → into_static s ≡ 0 → StaticsNameNone (core_of s) → StaticsNameNone (core_of t)
keeps_statics p s t (Same memory root) z h g block at b = h g block (ap (λ m. slice_get m.1 g) (sym memory) ∙ at) b
keeps_statics p s t (Makes made none few blocks statics root) z h g block at b = h g block (ap (λ l. slice_get l g) (sym statics) ∙ at) b
keeps_statics p s t (Writes n old new is blocks statics names few root) z h g block at b = h g block (ap (λ l. slice_get l g) (sym statics) ∙ at) b
keeps_statics p s t (WritesStatic k old new is blocks statics names root) z h g block at b = one (get_set (statics_of s) k g new block (ap (λ l. slice_get l g) (sym statics) ∙ at))
  where
    none : (n : ℕ) → times b (new.fields ++ new.items) ≡ n → times b (new.fields ++ new.items) ≡ 0
    none zero e = e
    none (suc n) e = absurd (let l : 0 < times b (cells (Some new)) = omega (arith, e) in let m : 0 < times b (cells (Some old)) = names z b l in let o : times b (old.fields ++ old.items) ≡ 0 = h k old is b in omega (arith, m, o))

    one : (slice_get (statics_of s) g ≡ Some block) ⊎ ((k ≡ g) × (new ≡ block)) → times b (block.fields ++ block.items) ≡ 0
    one (inl e) = h g block e b
    one (inr e) = subst (λ (c : Block). times b (c.fields ++ c.items) ≡ 0) e.1 (none (times b (new.fields ++ new.items)) refl)

-- ---- ways

module _ (p : LlProgram) (raw : IsRaw p) (args : List (List ℕ)) where
  next_of : (s t : State) → IsSound p s → (next : Next) → step p args s ≡ next → (next ≡ Goes t) ⊎ (((byte : ℕ) × (next ≡ Puts byte t)) ⊎ ((event : _) × (next ≡ Tells event t))) → StateFits p t × IsPlaced p t × Effect p s t
  next_of s t h next e (inl i) =
      (subst (NextFits p) (e ∙ i) (step_fits p raw.typed args s h.fits), subst (NextPlaced p) (e ∙ i) (step_placed p args s h.placed), subst (NextEffect p s) (e ∙ i) (step_effect p raw.closed args raw.handlers raw.stage s h.fits h.placed h.statics))
  next_of s t h next e (inr (inl (byte, i))) =
      (subst (NextFits p) (e ∙ i) (step_fits p raw.typed args s h.fits), subst (NextPlaced p) (e ∙ i) (step_placed p args s h.placed), subst (NextEffect p s) (e ∙ i) (step_effect p raw.closed args raw.handlers raw.stage s h.fits h.placed h.statics))
  next_of s t h next e (inr (inr (event, i))) =
      (subst (NextFits p) (e ∙ i) (step_fits p raw.typed args s h.fits), subst (NextPlaced p) (e ∙ i) (step_placed p args s h.placed), subst (NextEffect p s) (e ∙ i) (step_effect p raw.closed args raw.handlers raw.stage s h.fits h.placed h.statics))

  sound_next : (s t : State) → IsSound p s → into_static s ≡ 0 → StateFits p t × IsPlaced p t × Effect p s t → IsSound p t
  sound_next s t h z (fits, placed, effect) = record { fits = fits; placed = placed; statics = keeps_statics p s t effect z h.statics }

  more_store : (s : State) (few most : ℕ) → few ≤ most → HeldStore p s few → HeldStore p s most
  more_store s few most le h bs d k = let q : _ ≤ few = h bs d k in omega (arith, le, q)

  adds : (s t : State) → StateFits p t × IsPlaced p t × Effect p s t → (most : ℕ) → HeldStore p s most → HeldStore p t (most + stored s)
  adds s t (fits, placed, effect) most k = effect_adds p s t effect most k

  -- along a way no more references are added to what is held than are written
  pub along : {s t : State} {text : List ℕ} (path : Path p args s text t) → IsSound p s → into_statics path ≡ 0 → (most top : ℕ) → most + total path ≤ top → HeldStore p s most → AllOn (λ u. IsSound p u × HeldStore p u top) path
  along (Stay s) h z most top le k = (h, more_store s most top (omega (arith, le)) k)
  along (Go {s = s} {t = t} e path) h z most top le k =
      let found = next_of s t h (Goes t) e (inl refl) in
      ((h, more_store s most top (omega (arith, le)) k), along path (sound_next s t h (omega (arith, z)) found) (omega (arith, z)) (most + stored s) top (omega (arith, le)) (adds s t found most k))
  along (Put {s = s} {t = t} {byte = byte} e path) h z most top le k =
      let found = next_of s t h (Puts byte t) e (inr (inl (byte, refl))) in
      ((h, more_store s most top (omega (arith, le)) k), along path (sound_next s t h (omega (arith, z)) found) (omega (arith, z)) (most + stored s) top (omega (arith, le)) (adds s t found most k))
  along (Tell {s = s} {t = t} {event = event} e path) h z most top le k =
      let found = next_of s t h (Tells event t) e (inr (inr (event, refl))) in
      ((h, more_store s most top (omega (arith, le)) k), along path (sound_next s t h (omega (arith, z)) found) (omega (arith, z)) (most + stored s) top (omega (arith, le)) (adds s t found most k))
