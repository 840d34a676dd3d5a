-- Each state of a run of a well-typed program fits.
use Rattle.std.proofs.Common.{◌≡◌, ℕ, zero, suc, true, List, ◌++◌, ◌∷◌, [], length, map, Option, Some, None, refl, ap, arith}
use Rattle.std.specs.Prelude.{slice_get}
use Rattle.csub_tree.specs.Layout.{static_block}
use Rattle.csub_tree.specs.State.{Null}
use Rattle.ll_code.specs.declared.program.LlType.{LlType}
use Rattle.ll_code.specs.declared.program.LlType.TheVariants as type
use Rattle.ll_code.specs.declared.program.LlGraph.{LlGraph}
use Rattle.csub_tree.specs.State.{Event}
use Rattle.ll_code.specs.declared.program.LlProgram.{LlProgram}
use Rattle.ll_code.specs.State.{State, Next, Goes, Puts, Tells, Ends, Sticks}
use Rattle.ll_code.specs.Machine.{step, start, shapes_of}
use Rattle.ll_code.specs.Meaning.{run, follow}
use Rattle.ll_code.specs.Typed.{IsWellTyped, begins_run, is_signed, takes_nothing}
use Rattle.ll_laws.specs.States.{StateFits, NextFits, RanFits}
use Rattle.ll_laws.specs.Fits.{MemoryFits}
use Rattle.ll_laws.proofs.Values.{and_left, and_right}
use Rattle.ll_laws.proofs.Statics.{statics_fit}
use Rattle.ll_laws.proofs.Steps.{step_fits}

module _ (p : LlProgram) (ok : IsWellTyped p) (args : List (List ℕ)) where
  on_next : (k : ℕ) → ((s : State) (text : List ℕ) (events : List Event) → StateFits p s → RanFits p (run p args k s text events)) → (text : List ℕ) (events : List Event) (next : Next) → NextFits p next
      → RanFits p (follow (run p args k) text events next)
  on_next k go text events (Goes s) h = go s text events h
  on_next k go text events (Puts byte s) h = go s (text ++ byte ∷ []) events h
  on_next k go text events (Tells event s) h = go s text (events ++ event ∷ []) h
  on_next k go text events (Ends outcome core) h = tt
  on_next k go text events (Sticks reason) h = tt

  pub run_fits : (k : ℕ) (s : State) (text : List ℕ) (events : List Event) → StateFits p s → RanFits p (run p args k s text events)
  unfolding run
  run_fits zero s text events fit = fit
  run_fits (suc k) s text events fit = on_next k (run_fits k) text events (step p args s) (step_fits p ok args s fit)

-- ---- the start

length_map : {A B : Type 0} (f : A → B) (xs : List A) → length (map f xs) ≡ length xs
length_map f [] = refl
length_map f (x ∷ xs) = ap suc (length_map f xs)

none : (vs : List ℕ) → takes_nothing vs ≡ true → 0 ≡ length vs
none [] e = refl
none (v ∷ vs) e = absurd (cc)

signed : (t : LlType) → is_signed t ≡ true → t ≡ type.Signed
signed type.Signed e = refl
signed other e = absurd (cc)

module _ (p : LlProgram) (ok : IsWellTyped p) where
  first_memory : MemoryFits p [] (map (static_block (shapes_of p.structs)) p.statics) Null Null
  first_memory = record {
    each = λ k block e. absurd (cc);
    static_count = length_map (static_block (shapes_of p.structs)) p.statics;
    each_static = statics_fit p 0 (and_left _ _ (and_left _ _ (and_left _ _ ok))) 0 p.statics (omega arith) (and_right _ _ (and_left _ _ (and_left _ _ ok)));
    slot_type = tt;
    slot_value = tt;
  }

  called : (steps : ℕ) (o : Option LlGraph) → slice_get p.graphs p.entry ≡ o → begins_run o ≡ true → StateFits p (start p steps)
  called steps None e h = absurd (cc)
  called steps (Some g) e h = (g, record { of = e; count = none g.params (and_left _ _ h); given = λ a t is. tt; waiting = signed g.result (and_right _ _ h); memory = first_memory })

  pub start_fits : (steps : ℕ) → StateFits p (start p steps)
  start_fits steps = called steps (slice_get p.graphs p.entry) refl (and_right _ _ ok)

  pub whole_run_fits : (args : List (List ℕ)) (steps k : ℕ) → RanFits p (run p args k (start p steps) [] [])
  whole_run_fits args steps k = run_fits p ok args k (start p steps) [] [] (start_fits steps)
