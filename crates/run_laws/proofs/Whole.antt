-- Runs are followed, step by step.
use Rattle.std.proofs.Common.{◌≡◌, ℕ, zero, suc, List, [], ◌++◌, Option, Some, None, refl, sym, ap, ◌∙◌, subst}
use Rattle.std.proofs.lemmas.List.{append_assoc}
use Rattle.rpy_base.specs.declared.outcome.Outcome.{Outcome}
use Rattle.ll_code.specs.State as low
use Rattle.rpy_meaning.specs.World.{World}
use Rattle.rpy_meaning.specs.Meaning.{Run}
use Rattle.flow_meaning.specs.Machine.{State, Next, Goes as Onto, Ends as Ended, Stops, Strays, world_of, step}
use Rattle.flow_meaning.specs.Meaning.{Ended as HasEnded, follow, no_world, run}
use Rattle.flow_meaning.specs.Roots.{roots}
use Rattle.rpy_base.specs.declared.outcome.Outcome.TheVariants.{Running}
use Rattle.flow_runs.specs.Runs.{AreGood, Then}
use Rattle.object_laws.specs.Ghost.{Ghost}
use Rattle.run_laws.specs.Points.{Setting, is_keyed, truth_known, Way}
use Rattle.run_laws.specs.States.{IsLowered, Stands}
use Rattle.run_laws.specs.Runs.{Ends, EndsIf, RunsAreFollowed}
use Rattle.run_laws.proofs.Steps.{Followed, steps_are_followed, way_then}

module _ (s : Setting) where
  behind : {outcome : Outcome} {before mid w : World} {from to : low.State} {text : List ℕ} → Way s from text to → mid.out ≡ before.out ++ text → Ends s outcome mid w to → Ends s outcome before w from
  behind {before = before} {text = text} way out it = record {
    text = text ++ it.text;
    last = it.last;
    way = way_then s way it.way;
    over = it.over;
    out = it.out ∙ ap (λ o. o ++ it.text) out ∙ append_assoc before.out text it.text;
  }

  pub behind_if : {from to : low.State} {text : List ℕ} (before mid w : World) (outcome : Option Outcome) → Way s from text to → mid.out ≡ before.out ++ text → EndsIf s outcome mid w to → EndsIf s outcome before w from
  behind_if before mid w None way out it = tt
  behind_if before mid w (Some outcome) way out it = behind way out it

  module _ (lowered : IsLowered s) where
    runs : (k : ℕ) (g : Ghost) (state : State) (from : low.State) → Stands s g state from → AreGood s.known.program s.graphs s.made (is_keyed s) (truth_known s) state → (end : Run) → run s.known.program s.graphs k state ≡ HasEnded end → EndsIf s end.outcome (world_of state) end.world from
    unfolding run
    runs zero g state from stands good end e = absurd (cc)
    runs (suc k) g state from stands good end e = by (λ h t there stood more last is. runs k h t there stood more last is) (step s.known.program s.graphs state) refl (steps_are_followed s lowered g state from stands good) e
      where
        by : ((h : Ghost) (t : State) (there : low.State) → Stands s h t there → AreGood s.known.program s.graphs s.made (is_keyed s) (truth_known s) t → (last : Run) → run s.known.program s.graphs k t ≡ HasEnded last → EndsIf s last.outcome (world_of t) last.world there) → (next : Next) → step s.known.program s.graphs state ≡ next → Followed s (world_of state) from next → follow (run s.known.program s.graphs k) state next ≡ HasEnded end → EndsIf s end.outcome (world_of state) end.world from
        by go (Onto to) is moved h = behind_if (world_of state) (world_of to) end.world end.outcome moved.way moved.out (go moved.ghost to moved.state moved.stands (record {
          operations = λ f o ops exit env instead frames w vs more. good.operations f o ops exit env instead frames w vs (Then is more);
          tests = λ f exit env instead frames w more. good.tests f exit env instead frames w (Then is more);
        }) end h)
        by go (Ended outcome w) is it h = let same : end ≡ record { outcome = outcome; held = []; world = w } = cc in subst (λ (r : Run). EndsIf s r.outcome (world_of state) r.world from) (sym same) it
        by go (Stops w) is it h = let same : end ≡ record { outcome = Some Running; held = roots state; world = w } = cc in subst (λ (r : Run). EndsIf s r.outcome (world_of state) r.world from) (sym same) it
        by go Strays is it h = let same : end ≡ record { outcome = None; held = []; world = no_world } = cc in subst (λ (r : Run). EndsIf s r.outcome (world_of state) r.world from) (sym same) tt

pub runs_are_followed : RunsAreFollowed
runs_are_followed s lowered g state from stands good k end e = runs s lowered k g state from stands good end e
