-- A call of a helper does what the helper does.
use Rattle.std.proofs.Common.{◌≡◌, ◌<◌, ℕ, ◌+◌, ◌⊎◌, inl, inr, true, false, List, [], ◌∷◌, ◌++◌, length, Some, refl, sym, ap, ◌∙◌, subst}
use Rattle.std.specs.Prelude.{slice_set, cond, not, ◌||◌, ◌&&◌}
use Rattle.std.proofs.lemmas.List.{get_or-set_same, get_or-set_other, length-set}
use Rattle.csub_tree.specs.State.{Value, Core, Ptr}
use Rattle.csub_tree.specs.Statement.{read, operands, any_unset}
use Rattle.csub_tree.specs.declared.stuck.StuckReason.TheVariants.{Unset as IsUnset}
use Rattle.csub_tree.specs.declared.tree.COperand.{COperand}
use Rattle.rpy_tree.specs.Value.{Value as Meant}
use Rattle.rpy_meaning.specs.World.{World, Answer, Gives, Throws, Fails, Lacks, Enters, Bad}
use Rattle.ll_code.specs.State.{Frame, State, Calling, At, Returning, Goes, Sticks}
use Rattle.ll_code.specs.Machine.{waiting}
use Rattle.ll_code.specs.declared.program.LlType.{LlType}
use Rattle.ll_code.specs.declared.program.LlOp.{LlOp}
use Rattle.ll_code.specs.declared.program.LlOp.TheVariants as op
use Rattle.ll_code.specs.declared.program.LlExit.{LlExit}
use Rattle.ll_code.specs.declared.program.LlProgram.{LlProgram}
use Rattle.ll_live.specs.Live.{among, live, sets, variables_in}
use Rattle.ll_held.specs.Held.{times}
use Rattle.ll_held.specs.Places.{IsPlaced, PlacedAt}
use Rattle.ll_held.specs.Roots.{kept, read_by, waits_for, waiting_roots, slots, roots}
use Rattle.ll_held.proofs.Keeping.{in_parts, in_first, in_second, used_from, used_to, operands_from}
use Rattle.ll_held.proofs.Placing.{under_is}
use Rattle.ll_leads.specs.Path.{Leads}
use Rattle.ll_leads.proofs.Ways.{on, then, one}
use Rattle.ll_texts.specs.Stands.{Stands}
use Rattle.ll_texts.specs.Follows.{Follows as HelperFollows, Gave, text_blocks}
use Rattle.lower_laws.specs.Helped.{Called, Follows}

module _ (p : LlProgram) (args : List (List ℕ)) (rest : List LlOp) (e : LlExit) (frames : List Frame) (core : Core) (into f : ℕ) (xs : List COperand) where
  abbrev Here : State
  Here = At (op.Call (Some into) f xs ∷ rest) e frames core

  abbrev frame : Frame
  frame = waiting core (Some into) rest e

  abbrev There : State
  There = Calling f (operands core.vars xs) (frame ∷ frames) core

  enters : any_unset (operands core.vars xs) ≡ false → Leads p args 0 Here [] There
  enters u = one (ap (λ b. cond b (Sticks IsUnset) (Goes There)) u) refl

  -- ---- what the call holds

  is_used : PlacedAt p core.function core.block core.at (op.Call (Some into) f xs ∷ rest) e → (v : ℕ) → waits_for p frame v ≡ true → live (op.Call (Some into) f xs ∷ rest) e v ≡ true
  is_used placed v w = ap (λ l. read_by l v || (not (sets (Some into) v) && live rest e v)) (sym (under_is p (op.Call (Some into) f xs) rest e (Some into) core placed)) ∙ w

  is_read : (v : ℕ) → among v (variables_in xs) ≡ true → live (op.Call (Some into) f xs ∷ rest) e v ≡ true
  is_read v a = ap (λ b. b || (not (sets (Some into) v) && live rest e v)) a

  own : (b : ℕ) → 0 < times b (kept (live (op.Call (Some into) f xs ∷ rest) e) 0 core.vars) → 0 < times b (roots p Here)
  own b h = in_first b (kept (live (op.Call (Some into) f xs ∷ rest) e) 0 core.vars ++ slots core) (waiting_roots p frames) (in_first b (kept (live (op.Call (Some into) f xs ∷ rest) e) 0 core.vars) (slots core) h)

  variable : (b v : ℕ) → live (op.Call (Some into) f xs ∷ rest) e v ≡ true → read core.vars v ≡ Ptr b → 0 < times b (roots p Here)
  variable b v l r = own b (used_to (live (op.Call (Some into) f xs ∷ rest) e) core.vars b v l r)

  holds : IsPlaced p Here → (b : ℕ) → 0 < times b (roots p There) → 0 < times b (roots p Here)
  holds placed b h = outer (in_parts b (operands core.vars xs ++ slots core) (waiting_roots p (frame ∷ frames)) h)
    where
      given : (v : ℕ) × (among v (variables_in xs) ≡ true) × (read core.vars v ≡ Ptr b) → 0 < times b (roots p Here)
      given (v, a, r) = variable b v (is_read v a) r

      kept_one : (v : ℕ) × (waits_for p frame v ≡ true) × (read core.vars v ≡ Ptr b) → 0 < times b (roots p Here)
      kept_one (v, u, r) = variable b v (is_used placed.0 v u) r

      inner : (0 < times b (operands core.vars xs)) ⊎ (0 < times b (slots core)) → 0 < times b (roots p Here)
      inner (inl k) = given (operands_from core.vars xs b k)
      inner (inr k) = in_first b (kept (live (op.Call (Some into) f xs ∷ rest) e) 0 core.vars ++ slots core) (waiting_roots p frames) (in_second b (kept (live (op.Call (Some into) f xs ∷ rest) e) 0 core.vars) (slots core) k)

      waits : (0 < times b (kept (waits_for p frame) 0 core.vars)) ⊎ (0 < times b (waiting_roots p frames)) → 0 < times b (roots p Here)
      waits (inl k) = kept_one (used_from (waits_for p frame) core.vars b k)
      waits (inr k) = in_second b (kept (live (op.Call (Some into) f xs ∷ rest) e) 0 core.vars ++ slots core) (waiting_roots p frames) k

      outer : (0 < times b (operands core.vars xs ++ slots core)) ⊎ (0 < times b (waiting_roots p (frame ∷ frames))) → 0 < times b (roots p Here)
      outer (inl k) = inner (in_parts b (operands core.vars xs) (slots core) k)
      outer (inr k) = waits (in_parts b (kept (waits_for p frame) 0 core.vars) (waiting_roots p frames) k)

  -- ---- what it leads to

  -- over this memory, and with the result
  abbrev left : Core → Value → Core
  left memory value = record memory { function = core.function; block = core.block; at = core.at + 1; vars = slice_set core.vars into value }

  came : {t : LlType} {below : ℕ} {w : World} {v : Meant} {w' : World} → into < length core.vars → any_unset (operands core.vars xs) ≡ false → Gave p args There (frame ∷ frames) core t w v w' → Called p args Here rest e frames core t into below w v w'
  came {t = t} {v = v} {w' = w'} r u g =
      let memory : Core = record core { blocks = core.blocks ++ text_blocks g.texts; steps = w'.left } in
      let back : Leads p args 0 (Returning g.value (frame ∷ frames) g.end) [] (At rest e frames (left memory g.value)) =
      subst (λ (c : Core). Leads p args 0 (Returning g.value (frame ∷ frames) g.end) [] (At rest e frames (left c g.value))) g.memory (one refl refl) in
      let kept_stands : Stands memory.blocks memory.statics t g.value v = subst (λ (c : Core). Stands c.blocks c.statics t g.value v) g.memory g.stands in
      record {
        end = left memory g.value;
        text = g.text;
        leads = on (enters u) (then g.leads back);
        texts = g.texts;
        few = g.few;
        memory = refl;
        stands = subst (λ x. Stands memory.blocks memory.statics t x v) (sym (get_or-set_same core.vars into g.value _ r)) kept_stands;
        others = λ n below other. get_or-set_other core.vars into n g.value _ other;
        room = length-set core.vars into g.value;
        function = refl;
        block = refl;
        out = g.out;
        heap = g.heap;
      }

  pub called : (t : LlType) (below : ℕ) (w : World) (answer : Answer) → into < length core.vars → any_unset (operands core.vars xs) ≡ false
      → ((waits : List Frame) → HelperFollows p args (Calling f (operands core.vars xs) waits core) waits core t w answer) → Follows p args Here rest e frames core t into below w answer
  called t below w (Gives v w') r u go = came r u (go (frame ∷ frames))
  called t below w (Throws exception w') r u go = go []
  called t below w (Fails name) r u go = let g = go (frame ∷ frames) in record { last = g.last; leads = on (enters u) g.leads; ends = g.ends }
  called t below w Lacks r u go = let g = go (frame ∷ frames) in record { last = g.last; leads = on (enters u) g.leads; ends = g.ends; blocks = g.blocks; holds = λ placed b h. holds placed b (g.holds b h) }
  called t below w (Enters function values instead w') r u go = go []
  called t below w Bad r u go = tt
