-- In each state of a run of a well-typed program that raises and frees nothing, pointers lead to their structs.
use Rattle.std.proofs.Common.{◌≡◌, ℕ, zero, suc, true, List, ◌++◌, ◌∷◌, [], map, Option, Some, None, refl}
use Rattle.std.specs.Prelude.{slice_get}
use Rattle.csub_tree.specs.Layout.{static_block}
use Rattle.csub_tree.specs.State.{Event, Core, Null}
use Rattle.ll_code.specs.declared.program.LlGraph.{LlGraph}
use Rattle.ll_code.specs.declared.program.LlProgram.{LlProgram}
use Rattle.ll_code.specs.State.{State, Next, Goes, Puts, Tells, Ends, Sticks}
use Rattle.ll_code.specs.Machine.{step, start, shapes_of}
use Rattle.ll_code.specs.Meaning.{run, follow}
use Rattle.ll_code.specs.Typed.{IsWellTyped, begins_run}
use Rattle.ll_laws.specs.States.{StateFits, NextFits}
use Rattle.ll_laws.proofs.Values.{and_left, and_right}
use Rattle.ll_laws.proofs.Steps.{step_fits}
use Rattle.ll_laws.proofs.Runs.{start_fits}
use Rattle.ll_points.specs.Agrees.{Slots, Agrees}
use Rattle.ll_points.specs.Points.{SlotsLead, MemoryLeads, StateLeads, NextLeads, RanLeads}
use Rattle.ll_points.proofs.Leading.{unset_leads}
use Rattle.ll_points.proofs.Statics.{statics_lead, statics_stand}
use Rattle.ll_points.proofs.Steps.{step_leads}

module _ (p : LlProgram) (slots : Slots) (ok : IsWellTyped p) (agrees : Agrees slots p) where
  pub one_step : (args : List (List ℕ)) (s : State) → StateFits p s → StateLeads p slots s → NextLeads p slots (step p args s)
  one_step args s fit l = step_leads p slots (and_right _ _ (and_left _ _ ok)) (and_left _ _ (and_left _ _ (and_left _ _ ok))) agrees args s fit l

  module _ (args : List (List ℕ)) where
    on_next : (k : ℕ) → ((s : State) (text : List ℕ) (events : List Event) → StateFits p s → StateLeads p slots s → RanLeads p slots (run p args k s text events)) → (text : List ℕ) (events : List Event)
        → (next : Next) → NextFits p next → NextLeads p slots next → RanLeads p slots (follow (run p args k) text events next)
    on_next k go text events (Goes s) h l = go s text events h l
    on_next k go text events (Puts byte s) h l = go s (text ++ byte ∷ []) events h l
    on_next k go text events (Tells event s) h l = go s text (events ++ event ∷ []) h l
    on_next k go text events (Ends outcome core) h l = tt
    on_next k go text events (Sticks reason) h l = tt

    run_leads : (k : ℕ) (s : State) (text : List ℕ) (events : List Event) → StateFits p s → StateLeads p slots s → RanLeads p slots (run p args k s text events)
    unfolding run
    run_leads zero s text events fit l = l
    run_leads (suc k) s text events fit l = on_next k (run_leads k) text events (step p args s) (step_fits p ok args s fit) (one_step args s fit l)

  -- ---- the start

  abbrev first : ℕ → Core
  first steps = record { function = p.entry; block = 0; at = 0; vars = []; callers = []; blocks = []; statics = map (static_block (shapes_of p.structs)) p.statics; exc_type = Null; exc_value = Null; steps = steps }

  first_slots : (s : Slots) (steps : ℕ) → SlotsLead p s (first steps)
  first_slots None steps = (refl, refl)
  first_slots (Some (k, v)) steps = (tt, tt)

  first_memory : (steps : ℕ) → MemoryLeads p slots (first steps)
  first_memory steps = record {
    each = λ b block e. absurd (cc);
    each_static = statics_lead p [] (first steps).statics (and_left _ _ (and_left _ _ (and_left _ _ ok))) (statics_stand p) 0 p.statics (and_right _ _ (and_left _ _ (and_left _ _ ok)));
    stand = statics_stand p;
    held = first_slots slots steps;
  }

  called : (steps : ℕ) (o : Option LlGraph) → slice_get p.graphs p.entry ≡ o → begins_run o ≡ true → StateLeads p slots (start p steps)
  called steps None e h = absurd (cc)
  called steps (Some g) e h = (g, record { of = e; given = λ a t is. unset_leads p [] (first steps).statics t; waiting = tt; memory = first_memory steps })

  pub whole_run_leads : (args : List (List ℕ)) (steps k : ℕ) → RanLeads p slots (run p args k (start p steps) [] [])
  whole_run_leads args steps k = run_leads args k (start p steps) [] [] (start_fits p ok steps) (called steps (slice_get p.graphs p.entry) refl (and_right _ _ ok))
