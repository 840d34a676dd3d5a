-- What an operator that gives no pointer holds: no other blocks than were held before.
use Rattle.std.proofs.Common.{◌≡◌, ◌<◌, ◌⊎◌, inl, inr, ℕ, zero, suc, ◌+◌, true, false, List, [], ◌∷◌, ◌++◌, Some, ap, ◌∙◌, arith}
use Rattle.std.specs.Prelude.{drop, not, ◌&&◌}
use Rattle.std.proofs.lemmas.Bool.Decides.{nat_tests}
use Rattle.csub_tree.specs.State.{Value, Ptr, Core}
use Rattle.csub_tree.specs.Statement.{read}
use Rattle.csub_tree.specs.declared.tree.COperand.{COperand}
use Rattle.csub_tree.specs.declared.tree.CUnary.{CUnary}
use Rattle.ll_code.specs.State.{Frame, At}
use Rattle.ll_code.specs.declared.program.LlOp.{LlOp}
use Rattle.ll_code.specs.declared.program.LlOp.TheVariants as op
use Rattle.ll_code.specs.declared.program.LlExit.{LlExit}
use Rattle.ll_code.specs.declared.program.LlProgram.{LlProgram}
use Rattle.ll_live.specs.Live.{among, live, sets, variables_of}
use Rattle.ll_held.specs.Held.{times}
use Rattle.ll_held.specs.Places.{IsPlaced}
use Rattle.ll_held.specs.Roots.{kept, waiting_roots, slots, roots}
use Rattle.ll_held.proofs.Keeping.{in_parts, in_first, in_second, used_from, used_to, set_read, or_right}
use Rattle.lower_laws.proofs.Doing.{after}

one_less : {A : Type 0} (xs : List A) (n : ℕ) (x : A) (ys : List A) → drop n xs ≡ x ∷ ys → drop (n + 1) xs ≡ ys
one_less [] zero x ys h = absurd (cc)
one_less [] (suc n) x ys h = absurd (cc)
one_less (z ∷ xs) zero x ys h = cc
one_less (z ∷ xs) (suc n) x ys h = (let e : suc n + 1 ≡ suc (n + 1) = omega arith in ap (λ k. drop k (z ∷ xs)) e ∙ one_less xs n x ys h)

module _ (p : LlProgram) (k : ℕ) (u : CUnary) (x : COperand) (value : Value) (ops : List LlOp) (e : LlExit) (frames : List Frame) (core : Core) (plain : (b : ℕ) → value ≡ Ptr b → ⊥) where
  abbrev turn : List LlOp
  turn = op.Unary k u x ∷ ops

  abbrev next : Core
  next = after core k value

  pub turns_placed : IsPlaced p (At turn e frames core) → IsPlaced p (At ops e frames next)
  turns_placed h = (record { block = h.0.block; of = h.0.of; left = one_less h.0.block.ops core.at (op.Unary k u x) ops h.0.left; end = h.0.end }, h.1)

  own : (b : ℕ) → 0 < times b (kept (live turn e) 0 core.vars) → 0 < times b (roots p (At turn e frames core))
  own b h = in_first b (kept (live turn e) 0 core.vars ++ slots core) (waiting_roots p frames) (in_first b (kept (live turn e) 0 core.vars) (slots core) h)

  pub turns_holds : (b : ℕ) → 0 < times b (roots p (At ops e frames next)) → 0 < times b (roots p (At turn e frames core))
  turns_holds b h = outer (in_parts b (kept (live ops e) 0 next.vars ++ slots next) (waiting_roots p frames) h)
    where
      apart : (v : ℕ) → ((k ≡ v) → ⊥) → sets (Some k) v ≡ false
      apart v n = grind (arith, nat_tests, n)

      one : (v : ℕ) → live ops e v ≡ true → ((k ≡ v) × (value ≡ Ptr b)) ⊎ (((k ≡ v) → ⊥) × (read core.vars v ≡ Ptr b)) → 0 < times b (roots p (At turn e frames core))
      one v l (inl q) = absurd (plain b q.1)
      one v l (inr q) = own b (used_to (live turn e) core.vars b v (or_right (among v (variables_of x)) (not (sets (Some k) v) && live ops e v) (ap (λ c. not c && live ops e v) (apart v q.0) ∙ l)) q.1)

      inner : (0 < times b (kept (live ops e) 0 next.vars)) ⊎ (0 < times b (slots next)) → 0 < times b (roots p (At turn e frames core))
      inner (inl q) = (let s = used_from (live ops e) next.vars b q in one s.0 s.1 (set_read core.vars k s.0 b value s.2))
      inner (inr q) = in_first b (kept (live turn e) 0 core.vars ++ slots core) (waiting_roots p frames) (in_second b (kept (live turn e) 0 core.vars) (slots core) q)

      outer : (0 < times b (kept (live ops e) 0 next.vars ++ slots next)) ⊎ (0 < times b (waiting_roots p frames)) → 0 < times b (roots p (At turn e frames core))
      outer (inl q) = inner (in_parts b (kept (live ops e) 0 next.vars) (slots next) q)
      outer (inr q) = in_second b (kept (live turn e) 0 core.vars ++ slots core) (waiting_roots p frames) q
