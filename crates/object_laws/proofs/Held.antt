-- What calls hold: no other blocks than were held before.
use Rattle.std.proofs.Common.{◌≡◌, ◌<◌, ◌⊎◌, inl, inr, ℕ, zero, suc, ◌+◌, true, false, List, [], ◌∷◌, ◌++◌, Option, Some, refl, sym, ap, ◌∙◌, arith}
use Rattle.std.specs.Prelude.{drop, not, ◌&&◌, ◌||◌}
use Rattle.std.proofs.lemmas.Bool.Decides.{nat_tests}
use Rattle.csub_tree.specs.State.{Core, Ptr}
use Rattle.csub_tree.specs.Statement.{read, operand, operands}
use Rattle.csub_tree.specs.declared.tree.COperand.{COperand}
use Rattle.ll_code.specs.State.{Frame, State, Calling, At}
use Rattle.ll_code.specs.Machine.{waiting}
use Rattle.ll_code.specs.declared.program.LlOp.{LlOp}
use Rattle.ll_code.specs.declared.program.LlOp.TheVariants as op
use Rattle.ll_code.specs.declared.program.LlExit.{LlExit}
use Rattle.ll_code.specs.declared.program.LlProgram.{LlProgram}
use Rattle.ll_live.specs.Live.{among, live, sets, variables_of, variables_in}
use Rattle.ll_held.specs.Held.{times}
use Rattle.ll_held.specs.Places.{IsPlaced, PlacedAt}
use Rattle.ll_held.specs.Roots.{kept, read_by, waits_for, waiting_roots, slots, roots}
use Rattle.ll_held.proofs.Keeping.{in_parts, in_first, in_second, used_from, used_to, operand_from, operands_from, set_read, or_left, or_right}
use Rattle.ll_held.proofs.Placing.{under_is}
use Rattle.lower_laws.proofs.Doing.{after}

module _ (p : LlProgram) (rest : List LlOp) (e : LlExit) (frames : List Frame) (core : Core) (into : Option ℕ) (f : ℕ) (xs : List COperand) where
  abbrev call : List LlOp
  call = op.Call into f xs ∷ rest

  abbrev Here : State
  Here = At call e frames core

  abbrev frame : Frame
  frame = waiting core into rest e

  abbrev There : State
  There = Calling f (operands core.vars xs) (frame ∷ frames) core

  is_used : PlacedAt p core.function core.block core.at call e → (v : ℕ) → waits_for p frame v ≡ true → live call e v ≡ true
  is_used placed v w = ap (λ l. read_by l v || (not (sets into v) && live rest e v)) (sym (under_is p (op.Call into f xs) rest e into core placed)) ∙ w

  own : (b : ℕ) → 0 < times b (kept (live call e) 0 core.vars) → 0 < times b (roots p Here)
  own b h = in_first b (kept (live call e) 0 core.vars ++ slots core) (waiting_roots p frames) (in_first b (kept (live call e) 0 core.vars) (slots core) h)

  pub variable : (b v : ℕ) → live call e v ≡ true → read core.vars v ≡ Ptr b → 0 < times b (roots p Here)
  variable b v l r = own b (used_to (live call e) core.vars b v l r)

  pub slot : (b : ℕ) → 0 < times b (slots core) → 0 < times b (roots p Here)
  slot b k = in_first b (kept (live call e) 0 core.vars ++ slots core) (waiting_roots p frames) (in_second b (kept (live call e) 0 core.vars) (slots core) k)

  pub waiting_one : (b : ℕ) → 0 < times b (waiting_roots p frames) → 0 < times b (roots p Here)
  waiting_one b k = in_second b (kept (live call e) 0 core.vars ++ slots core) (waiting_roots p frames) k

  pub call_holds : IsPlaced p Here → (b : ℕ) → 0 < times b (roots p There) → 0 < times b (roots p Here)
  call_holds placed b h = outer (in_parts b (operands core.vars xs ++ slots core) (waiting_roots p (frame ∷ frames)) h)
    where
      given : (v : ℕ) × (among v (variables_in xs) ≡ true) × (read core.vars v ≡ Ptr b) → 0 < times b (roots p Here)
      given (v, a, r) = variable b v (or_left (among v (variables_in xs)) (not (sets into v) && live rest e v) a) r

      kept_one : (v : ℕ) × (waits_for p frame v ≡ true) × (read core.vars v ≡ Ptr b) → 0 < times b (roots p Here)
      kept_one (v, u, r) = variable b v (is_used placed.0 v u) r

      inner : (0 < times b (operands core.vars xs)) ⊎ (0 < times b (slots core)) → 0 < times b (roots p Here)
      inner (inl k) = given (operands_from core.vars xs b k)
      inner (inr k) = slot b k

      waits : (0 < times b (kept (waits_for p frame) 0 core.vars)) ⊎ (0 < times b (waiting_roots p frames)) → 0 < times b (roots p Here)
      waits (inl k) = kept_one (used_from (waits_for p frame) core.vars b k)
      waits (inr k) = waiting_one b k

      outer : (0 < times b (operands core.vars xs ++ slots core)) ⊎ (0 < times b (waiting_roots p (frame ∷ frames))) → 0 < times b (roots p Here)
      outer (inl k) = inner (in_parts b (operands core.vars xs) (slots core) k)
      outer (inr k) = waits (in_parts b (kept (waits_for p frame) 0 core.vars) (waiting_roots p frames) k)

-- ---- a call that gives its one operand back

one_less : {A : Type 0} (xs : List A) (n : ℕ) (x : A) (ys : List A) → drop n xs ≡ x ∷ ys → drop (n + 1) xs ≡ ys
one_less [] zero x ys h = absurd (cc)
one_less [] (suc n) x ys h = absurd (cc)
one_less (z ∷ xs) zero x ys h = cc
one_less (z ∷ xs) (suc n) x ys h = (let e : suc n + 1 ≡ suc (n + 1) = omega arith in ap (λ k. drop k (z ∷ xs)) e ∙ one_less xs n x ys h)

module _ (p : LlProgram) (m f : ℕ) (x : COperand) (ops : List LlOp) (e : LlExit) (frames : List Frame) (core : Core) where
  abbrev gives : List LlOp
  gives = op.Call (Some m) f (x ∷ []) ∷ ops

  abbrev next : Core
  next = after core m (operand core.vars x)

  pub gives_placed : IsPlaced p (At gives e frames core) → IsPlaced p (At ops e frames next)
  gives_placed h = (record { block = h.0.block; of = h.0.of; left = one_less h.0.block.ops core.at (op.Call (Some m) f (x ∷ [])) ops h.0.left; end = h.0.end }, h.1)

  pub gives_holds : (b : ℕ) → 0 < times b (roots p (At ops e frames next)) → 0 < times b (roots p (At gives e frames core))
  gives_holds b h = outer (in_parts b (kept (live ops e) 0 next.vars ++ slots next) (waiting_roots p frames) h)
    where
      apart : (v : ℕ) → ((m ≡ v) → ⊥) → sets (Some m) v ≡ false
      apart v n = grind (arith, nat_tests, n)

      of_operand : (v : ℕ) × (among v (variables_of x) ≡ true) × (read core.vars v ≡ Ptr b) → 0 < times b (roots p (At gives e frames core))
      of_operand (v, a, r) = variable p ops e frames core (Some m) f (x ∷ []) b v (or_left (among v (variables_in (x ∷ []))) (not (sets (Some m) v) && live ops e v) (ap (among v) (nothing_more (variables_of x)) ∙ a)) r
        where
          nothing_more : (vs : List ℕ) → vs ++ [] ≡ vs
          nothing_more [] = refl
          nothing_more (v ∷ vs) = ap (λ l. v ∷ l) (nothing_more vs)

      one : (v : ℕ) → live ops e v ≡ true → ((m ≡ v) × (operand core.vars x ≡ Ptr b)) ⊎ (((m ≡ v) → ⊥) × (read core.vars v ≡ Ptr b)) → 0 < times b (roots p (At gives e frames core))
      one v l (inl k) = of_operand (operand_from core.vars x b k.1)
      one v l (inr k) = variable p ops e frames core (Some m) f (x ∷ []) b v (or_right (among v (variables_in (x ∷ []))) (not (sets (Some m) v) && live ops e v) (ap (λ c. not c && live ops e v) (apart v k.0) ∙ l)) k.1

      inner : (0 < times b (kept (live ops e) 0 next.vars)) ⊎ (0 < times b (slots next)) → 0 < times b (roots p (At gives e frames core))
      inner (inl k) = (let u = used_from (live ops e) next.vars b k in one u.0 u.1 (set_read core.vars m u.0 b (operand core.vars x) u.2))
      inner (inr k) = slot p ops e frames core (Some m) f (x ∷ []) b k

      outer : (0 < times b (kept (live ops e) 0 next.vars ++ slots next)) ⊎ (0 < times b (waiting_roots p frames)) → 0 < times b (roots p (At gives e frames core))
      outer (inl k) = inner (in_parts b (kept (live ops e) 0 next.vars) (slots next) k)
      outer (inr k) = waiting_one p ops e frames core (Some m) f (x ∷ []) b k
