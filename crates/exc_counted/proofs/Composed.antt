-- The file of the explicit program, what is there and what is left, seen from the program.
use Rattle.std.proofs.Common.{◌≡◌, ℕ, Bool, true, false, List, [], ◌∷◌, refl, ap, ◌∙◌, subst}
use Rattle.csub_tree.specs.State.{Value, Null, Core, Event}
use Rattle.csub_tree.specs.Meaning as c
use Rattle.ll_code.specs.State.{State, Calling, At, Returning, Throwing}
use Rattle.ll_code.specs.Machine.{start}
use Rattle.ll_code.specs.Meaning as l
use Rattle.ll_code.specs.Meaning.{Unfinished, run}
use Rattle.ll_code.specs.declared.program.LlProgram.{LlProgram}
use Rattle.ll_held.specs.Held.{Held, Reaches}
use Rattle.ll_held.specs.Roots.{roots, core_of}
use Rattle.ll_held.specs.Quiet.{StaticsAreApart}
use Rattle.ll_held.proofs.Keeping.{held_on}
use Rattle.exc_transform.specs.Explicit.{graphs_calm}
use Rattle.exc_transform.specs.Pieces.{explicit}
use Rattle.exc_transform.proofs.Without.{explicit_same}
use Rattle.exc_laws.specs.Alike.{Allows}
use Rattle.exc_laws.specs.Stands.{Stands}
use Rattle.exc_laws.proofs.Roots.{stands_held}
use Rattle.exc_laws.proofs.Holds.{beside_blocks, same_holds}
use Rattle.exc_laws.proofs.Whole.{means_forth, means_back, goes_on}
use Rattle.exc_laws.proofs.Without.{run_same}
use Rattle.exc_ready.specs.Along.{EachState}
use Rattle.exc_ready.specs.Classes.{names_classes, RaisesSome}
use Rattle.exc_ready.proofs.Classes.{classed}
use Rattle.exc_ready.proofs.Leading.{state_clear}
use Rattle.exc_ready.proofs.Whole.{allowed}
use Rattle.refcount_ready.specs.Programs.{RunsSmall, ComesAlong, LeavesNothing}
use Rattle.refcount_ready.proofs.Composed as counts
use Rattle.ll_compiled.specs.Compiled.{compiled, MeansAlike, SameRuns}
use Rattle.ll_compiled.proofs.Whole as whole
use Rattle.exc_counted.specs.Along.{HasFile, RunsWell, HoldsWhatIsThere}
use Rattle.exc_counted.proofs.Standing.{ComesFor, comes_along, state_apart}

-- where exceptions name their classes, it is enough that NULL is never raised
pub runs_well : (p : LlProgram) → HasFile p → names_classes p ≡ true → (args : List (List ℕ)) (steps : ℕ) → EachState (RaisesSome p) p args steps → RunsSmall (explicit p) args steps → RunsWell p args steps
runs_well p has names args steps some small = record { classed = classed p has.typed has.raw has.raisable args steps some names; small = small }

module _ (p : LlProgram) (has : HasFile p) (args : List (List ℕ)) (steps : ℕ) (well : RunsWell p args steps) where
  allows : Allows p args steps
  allows = allowed p has.typed has.raw has.raisable args steps well.classed

  file : SameRuns (explicit p) (compiled (explicit p)) args steps
  file = whole.same_runs (explicit p) has.can args steps well.small

  forth : (m : l.Meant) → l.LMeans p args steps m → l.LMeans (explicit p) args steps m
  forth m h = means_forth p has.typed has.raw args steps allows m h

  back : (m : l.Meant) → l.LMeans (explicit p) args steps m → l.LMeans p args steps m
  back m h = means_back p has.typed has.raw args steps allows m h

  -- ---- meaning

  pub same_runs : SameRuns p (compiled (explicit p)) args steps
  same_runs = record {
    forth = λ m means ends. file.forth m (forth m means) ends;
    back = λ free c_meant means. on (file.back (λ m h. free m (back m h)) c_meant means);
    on = λ runs. file.on (goes_on p has.typed has.raw args steps allows runs);
  }
    where
      on : {c_meant : c.Meant} → (m : l.Meant) × l.LMeans (explicit p) args steps m × MeansAlike m c_meant → (m : l.Meant) × l.LMeans p args steps m × MeansAlike m c_meant
      on (m, h, alike) = (m, back m h, alike)

  -- ---- states

  -- where nothing raises both run alike
  same_run : graphs_calm p.graphs ≡ true → (k : ℕ) → run (explicit p) args k (start (explicit p) steps) [] [] ≡ run p args k (start p steps) [] []
  same_run calm k = ap (λ q. run q args k (start q steps) [] []) (explicit_same p calm) ∙ run_same p args k (start p steps) [] []

  comes : (k : ℕ) (x : State) (text : List ℕ) (events : List Event) → run (explicit p) args k (start (explicit p) steps) [] [] ≡ Unfinished x text events → ComesAlong (explicit p) args steps k x text
  comes k x text events e = counts.comes_along (explicit p) has.can.counts args steps well.small k x text events e

  holds : (s x : State) (text : List ℕ) (k : ℕ) → ComesAlong (explicit p) args steps k x text → ((b : ℕ) → Held (core_of x).blocks (roots (explicit p) x) b → Held (core_of s).blocks (roots p s) b) → HoldsWhatIsThere p args steps s text
  holds s x text k w less = record { taken = w.taken; state = w.state; events = w.events; runs = w.runs; held = λ b block is. less b (w.held b block is) }

  pub holds_what_is_there : (k : ℕ) (s : State) (text : List ℕ) (events : List Event) → run p args k (start p steps) [] [] ≡ Unfinished s text events → HoldsWhatIsThere p args steps s text
  holds_what_is_there k s text events e = by (graphs_calm p.graphs) refl
    where
      from : (raises : graphs_calm p.graphs ≡ false) → ComesFor p has.typed has.raw raises allows.closed args (start (explicit p) steps) [] [] s text events → HoldsWhatIsThere p args steps s text
      from raises (j, x, f, stands) =
          let same = beside_blocks p has.typed has.raw raises allows.closed args s x stands in
          let apart : StaticsAreApart (core_of x) = state_apart (explicit p) has.can.counts args steps well.small.blocks j x text events f in
          holds s x text j (comes j x text events f)
          (λ b h. held_on (core_of s).blocks (roots (explicit p) x) (roots p s) (stands_held p s x stands (λ g block is. apart g block (ap (λ l. Rattle.std.specs.Prelude.slice_get l g) same.1 ∙ is))) b
          (subst (λ blocks. Held blocks (roots (explicit p) x) b) same.0 h))

      by : (b : Bool) → graphs_calm p.graphs ≡ b → HoldsWhatIsThere p args steps s text
      by true calm = holds s s text k (comes k s text events (same_run calm k ∙ e)) (same_holds p (explicit_same p calm) s).held
      by false raises = from raises (comes_along p has.typed has.raw raises allows.closed args steps allows.ready k s text events e)

  pub leaves_nothing : (k : ℕ) (value : Value) (core : Core) (text : List ℕ) (events : List Event) → run p args k (start p steps) [] [] ≡ Unfinished (Returning value [] core) text events → ((b : ℕ) → Reaches core.blocks b b → ⊥)
      → LeavesNothing (explicit p) args steps text
  leaves_nothing k value core text events e apart = by (graphs_calm p.graphs) refl
    where
      left : (j : ℕ) (x_value : Value) (x_core : Core) → run (explicit p) args j (start (explicit p) steps) [] [] ≡ Unfinished (Returning x_value [] x_core) text events → x_core.exc_type ≡ Null → x_core.exc_value ≡ Null → x_core.blocks ≡ core.blocks
          → LeavesNothing (explicit p) args steps text
      left j x_value x_core f kind exception same =
          counts.leaves_nothing (explicit p) has.can.counts args steps well.small j x_value x_core text events f kind exception (λ b r. apart b (subst (λ blocks. Reaches blocks b b) same r))

      from : (raises : graphs_calm p.graphs ≡ false) (j : ℕ) (x : State) → run (explicit p) args j (start (explicit p) steps) [] [] ≡ Unfinished x text events → Stands p (Returning value [] core) x → LeavesNothing (explicit p) args steps text
      from raises j (Returning x_value [] x_core) f s = left j x_value x_core f s.clear.0 s.clear.1 s.beside.blocks
      from raises j (Returning x_value (frame ∷ frames) x_core) f s = absurd s.waiting
      from raises j (Calling g values frames x_core) f s = absurd s
      from raises j (At ops exit frames x_core) f s = absurd s
      from raises j (Throwing x_value frames x_core) f s = absurd s

      on : (raises : graphs_calm p.graphs ≡ false) → ComesFor p has.typed has.raw raises allows.closed args (start (explicit p) steps) [] [] (Returning value [] core) text events → LeavesNothing (explicit p) args steps text
      on raises (j, x, f, stands) = from raises j x f stands

      by : (b : Bool) → graphs_calm p.graphs ≡ b → LeavesNothing (explicit p) args steps text
      by true calm = let clear = state_clear p has.typed has.raw has.raisable args steps k (Returning value [] core) text events e in left k value core (same_run calm k ∙ e) clear.0 clear.1 refl
      by false raises = on raises (comes_along p has.typed has.raw raises allows.closed args steps allows.ready k (Returning value [] core) text events e)
