-- What is held where the steps do not suffice.
use Rattle.std.proofs.Common.{◌≡◌, ◌<◌, ℕ, ◌⊎◌, inl, inr, Bool, List, ◌∷◌, ◌++◌, subst}
use Rattle.csub_tree.specs.State.{Value, Core}
use Rattle.ll_code.specs.State.{Frame, Calling, At}
use Rattle.ll_code.specs.declared.program.LlOp.{LlOp}
use Rattle.ll_code.specs.declared.program.LlExit.{LlExit}
use Rattle.ll_code.specs.declared.program.LlProgram.{LlProgram}
use Rattle.ll_live.specs.Live.{live}
use Rattle.ll_held.specs.Held.{times}
use Rattle.ll_held.specs.Roots.{kept, waits_for, waiting_roots, slots, roots}
use Rattle.ll_held.proofs.Keeping.{in_parts, in_first, in_second, kept_from, read_in}

-- these values name no other blocks than those
abbrev pub Within : List Value → List Value → Type 0
Within xs ys = (b : ℕ) → 0 < times b xs → 0 < times b ys

kept_in : (uses : ℕ → Bool) (n : ℕ) (vars : List Value) → Within (kept uses n vars) vars
kept_in uses n vars b h = (let k = kept_from uses n vars b h in read_in b vars k.0 k.2)

module _ (p : LlProgram) (f : ℕ) (values : List Value) (frames : List Frame) (core : Core) where
  root : (b : ℕ) → (0 < times b values) ⊎ ((0 < times b (slots core)) ⊎ (0 < times b (waiting_roots p frames))) → 0 < times b (roots p (Calling f values frames core))
  root b (inl h) = in_first b (values ++ slots core) (waiting_roots p frames) (in_first b values (slots core) h)
  root b (inr (inl h)) = in_first b (values ++ slots core) (waiting_roots p frames) (in_second b values (slots core) h)
  root b (inr (inr h)) = in_second b (values ++ slots core) (waiting_roots p frames) h

  -- of a graph whose variables name no other blocks than its operands
  pub holds_at : (ops : List LlOp) (e : LlExit) (next : Core) → slots next ≡ slots core → Within next.vars values → Within (roots p (At ops e frames next)) (roots p (Calling f values frames core))
  holds_at ops e next same vars b h = outer (in_parts b (kept (live ops e) 0 next.vars ++ slots next) (waiting_roots p frames) h)
    where
      inner : (0 < times b (kept (live ops e) 0 next.vars)) ⊎ (0 < times b (slots next)) → 0 < times b (roots p (Calling f values frames core))
      inner (inl k) = root b (inl (vars b (kept_in (live ops e) 0 next.vars b k)))
      inner (inr k) = root b (inr (inl (subst (λ l. 0 < times b l) same k)))

      outer : (0 < times b (kept (live ops e) 0 next.vars ++ slots next)) ⊎ (0 < times b (waiting_roots p frames)) → 0 < times b (roots p (Calling f values frames core))
      outer (inl k) = inner (in_parts b (kept (live ops e) 0 next.vars) (slots next) k)
      outer (inr k) = root b (inr (inr k))

  -- of one that it calls
  pub holds_call : (g : ℕ) (given : List Value) (frame : Frame) (next : Core) → slots next ≡ slots core → Within given values → Within frame.vars values → Within (roots p (Calling g given (frame ∷ frames) next)) (roots p (Calling f values frames core))
  holds_call g given frame next same fine vars b h = outer (in_parts b (given ++ slots next) (kept (waits_for p frame) 0 frame.vars ++ waiting_roots p frames) h)
    where
      inner : (0 < times b given) ⊎ (0 < times b (slots next)) → 0 < times b (roots p (Calling f values frames core))
      inner (inl k) = root b (inl (fine b k))
      inner (inr k) = root b (inr (inl (subst (λ l. 0 < times b l) same k)))

      waits : (0 < times b (kept (waits_for p frame) 0 frame.vars)) ⊎ (0 < times b (waiting_roots p frames)) → 0 < times b (roots p (Calling f values frames core))
      waits (inl k) = root b (inl (vars b (kept_in (waits_for p frame) 0 frame.vars b k)))
      waits (inr k) = root b (inr (inr k))

      outer : (0 < times b (given ++ slots next)) ⊎ (0 < times b (kept (waits_for p frame) 0 frame.vars ++ waiting_roots p frames)) → 0 < times b (roots p (Calling f values frames core))
      outer (inl k) = inner (in_parts b given (slots next) k)
      outer (inr k) = waits (in_parts b (kept (waits_for p frame) 0 frame.vars) (waiting_roots p frames) k)
