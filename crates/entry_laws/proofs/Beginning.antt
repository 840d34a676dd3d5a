-- The entry point is called with the list of arguments.
use Rattle.std.proofs.Common.{◌≡◌, ℕ, false, ◌||◌, List, [], ◌∷◌, length, Option, Some, None, refl, sym, ap, ◌∙◌, subst}
use Rattle.std.proofs.lemmas.List.{append-nil}
use Rattle.std.specs.Prelude.{slice_get, cond}
use Rattle.csub_tree.specs.State.{Value, Unset, Core}
use Rattle.csub_tree.specs.Operation.{is_unset}
use Rattle.csub_tree.specs.declared.stuck.StuckReason.TheVariants.{Unset as IsUnset}
use Rattle.csub_tree.specs.declared.tree.COperand.TheVariants.{Var}
use Rattle.ll_code.specs.State.{Frame, Calling, Returning, Goes, Sticks}
use Rattle.ll_code.specs.Machine as machine
use Rattle.ll_code.specs.declared.program.LlOp.TheVariants as op
use Rattle.ll_held.specs.Roots.{core_of}
use Rattle.ll_leads.proofs.Ways.{on, one}
use Rattle.flow_meaning.specs.Meaning.{start}
use Rattle.rtyper_layout.specs.declared.classes.Laid.{Laid}
use Rattle.rtyper_class.specs.Seen.{World, laid}
use Rattle.rtyper_program.specs.Entry.{entry_graph, graph_to, into_of, number_of, types}
use Rattle.rtyper_program.specs.Graphs.{result_of}
use Rattle.object_laws.specs.Represents.{Represents}
use Rattle.object_laws.specs.Values.{Next, End}
use Rattle.object_laws.proofs.Valued.{held_set}
use Rattle.run_laws.specs.Points.{Setting, Way}
use Rattle.run_laws.specs.States.{Calls, Entry}
use Rattle.run_laws.proofs.Steps.{way_then}
use Rattle.run_laws.proofs.Whole.{behind_if, runs_are_followed}
use Rattle.entry_laws.specs.Begins.{ArgumentsAreGiven, BeginsThere, Comes, EntryPointsAreCalled, IsStarted, WholeRunsAreFollowed, first_list, first_world}
use Rattle.entry_laws.specs.Ends.{entry_waits, exit_of, waits}
use Rattle.entry_laws.proofs.Ending.{entry_points_are_entries}

module _ (s : Setting) (number called arguments list : ℕ) (into : Option ℕ) (steps : ℕ) where
  abbrev begun : Core
  begun = core_of (machine.start s.low steps)

  -- the variables with the list, behind the first call
  abbrev vars_of : Value → Option Laid → List Value
  vars_of x None = x ∷ Unset ∷ []
  vars_of x (Some l) = x ∷ Unset ∷ Unset ∷ Unset ∷ []

  abbrev unset_of : Option Laid → List Value
  unset_of None = Unset ∷ Unset ∷ []
  unset_of (Some l) = Unset ∷ Unset ∷ Unset ∷ Unset ∷ []

  -- who waits for the list
  abbrev first_waits : Option Laid → Frame
  first_waits o = record { graph = number; block = 0; at = 1; vars = unset_of o; into = Some 0; ops = op.Call into called (Var 0 ∷ []) ∷ []; exit = exit_of into o }

  abbrev inside : Option Laid → Core
  inside o = record begun { function = number; block = 0; at = 0; vars = unset_of o }

  -- the graph is entered, and calls the one that makes the list
  asks : (o : Option Laid) → slice_get s.low.graphs number ≡ Some (graph_to called into arguments list o) → s.low.entry ≡ number → Way s (machine.start s.low steps) [] (Calling arguments [] (first_waits o ∷ []) (inside o))
  asks None has first = record { most = 0; leads = on (one (ap (λ f. machine.entered f [] [] begun (slice_get s.low.graphs f)) first ∙ ap (machine.entered number [] [] begun) has) refl) (one refl refl) }
  asks (Some l) has first = record { most = 0; leads = on (one (ap (λ f. machine.entered f [] [] begun (slice_get s.low.graphs f)) first ∙ ap (machine.entered number [] [] begun) has) refl) (one refl refl) }

  -- and then the entry point, with what that gives
  calls : (o : Option Laid) (x : Value) (end : Core) → is_unset x ≡ false
      → Way s (Returning x (first_waits o ∷ []) end) [] (Calling called (x ∷ []) (waits number into o (vars_of x o) ∷ []) (record end { function = number; block = 0; at = 1; vars = vars_of x o }))
  calls None x end set = record {
    most = 0;
    leads = on (one refl refl) (one (ap (λ u. cond (u || false) (Sticks IsUnset) (Goes (Calling called (x ∷ []) (waits number into None (vars_of x None) ∷ []) (record end { function = number; block = 0; at = 1; vars = vars_of x None })))) set) refl);
  }
  calls (Some l) x end set = record {
    most = 0;
    leads = on (one refl refl) (one (ap (λ u. cond (u || false) (Sticks IsUnset) (Goes (Calling called (x ∷ []) (waits number into (Some l) (vars_of x (Some l)) ∷ []) (record end { function = number; block = 0; at = 1; vars = vars_of x (Some l) })))) set) refl);
  }

  pub room : (o : Option Laid) (x : Value) → length (vars_of x o) ≡ length (types list o)
  room None x = refl
  room (Some l) x = refl

module _ (world : World) (s : Setting) (number arguments steps : ℕ) (there : BeginsThere world s number arguments) (list : ArgumentsAreGiven s arguments steps) where
  abbrev entry : ℕ
  entry = s.known.program.entry

  abbrev function : ℕ
  function = number_of world entry

  abbrev gives : Option ℕ
  gives = into_of (result_of world.around entry)

  graph_is : slice_get s.low.graphs number ≡ Some (graph_to function gives arguments world.around.layout.first_list (laid world 0))
  unfolding entry_graph
  graph_is = there.has.graph

  abbrev waiting : Frame
  waiting = first_waits s number function arguments world.around.layout.first_list gives steps (laid world 0)

  came : Comes s (Calling arguments [] (waiting ∷ []) (inside s number function arguments world.around.layout.first_list gives steps (laid world 0))) list.x waiting list.memory
  came = list.gives waiting (inside s number function arguments world.around.layout.first_list gives steps (laid world 0)) refl

  abbrev vars : List Value
  vars = vars_of s number function arguments world.around.layout.first_list gives steps list.x (laid world 0)

  abbrev last : Core
  last = record came.end { function = number; block = 0; at = 1; vars = vars }

  pub started : IsStarted s steps
  started = record {
    ghost = list.ghost;
    state = Calling function (list.x ∷ []) (entry_waits world s.known number vars ∷ []) last;
    way = way_then s (asks s number function arguments world.around.layout.first_list gives steps (laid world 0) graph_is there.first)
        (way_then s came.way (calls s number function arguments world.around.layout.first_list gives steps (laid world 0) list.x came.end (held_set list.stands list.holds)));
    stands = Calls entry function (list.param ∷ []) (first_list s ∷ []) None [] (first_world s steps) (list.x ∷ []) (entry_waits world s.known number vars ∷ []) last there.entry list.takes
        (λ f is. record { all = first_list s ∷ []; are = list.one f is; hold = Next list.holds End })
        (subst (λ (c : Core). Represents s.around.layout s.known list.ghost (first_world s steps).heap (first_world s steps).left c.blocks c.statics) (sym came.same) list.stands)
        (list.left ∙ ap (λ (c : Core). c.steps) (sym came.same))
        (Entry (entry_waits world s.known number vars) (entry_points_are_entries world s number arguments vars there.has (room s number function arguments world.around.layout.first_list gives steps (laid world 0) list.x)));
  }

pub entry_points_are_called : EntryPointsAreCalled
entry_points_are_called world s number arguments steps there list = started world s number arguments steps there list

-- ---- whole runs

pub whole_runs_are_followed : WholeRunsAreFollowed
whole_runs_are_followed world s number arguments steps there list lowered good k end ran =
    let it = started world s number arguments steps there list in
    behind_if s (first_world s steps) (first_world s steps) end.world end.outcome it.way (sym (append-nil (first_world s steps).out)) (runs_are_followed s lowered it.ghost (start s.known.program s.arguments steps) it.state it.stands good k end ran)
