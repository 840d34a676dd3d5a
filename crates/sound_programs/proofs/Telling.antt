-- What is told holds along each run.
use Rattle.std.proofs.Common.{◌≡◌, ℕ, zero, suc, Bool, true, false, List, [], ◌∷◌, Some, refl, sym, ap, ◌∙◌, subst}
use Rattle.rpy_tree.specs.Value.{Value, Flag}
use Rattle.rpy_tree.specs.declared.program.Program.{Program}
use Rattle.rpy_meaning.specs.Classes.{no_covers}
use Rattle.rpy_meaning.specs.Operations.{is_instance, is_instance_object}
use Rattle.rpy_meaning.specs.Tree as meaning
use Rattle.rpy_meaning.specs.World.{World, Gives}
use Rattle.rpy_meaning.specs.declared.row.RowOp.{RowOp}
use Rattle.rpy_meaning.specs.declared.row.RowOp.TheVariants as row
use Rattle.resolved_laws.specs.Meant.{meant_by}
use Rattle.flow_graph.specs.declared.graph.Graphs.{Graphs}
use Rattle.flow_meaning.specs.Machine.{State, Calling, At, Returning, Throwing, Next, Goes, Ends, Stops, Strays, step, values_of}
use Rattle.flow_meaning.specs.Meaning.{start}
use Rattle.flow_runs.specs.Runs.{Reaches, Here, Then}
use Rattle.graph_told.specs.Plain.{narrows}
use Rattle.graph_told.specs.Told as told
use Rattle.graph_plain.specs.Made.{ProgramsTellTheTruth}
use Rattle.ann_element.specs.declared.annotation.Annotation.{Annotation}
use Rattle.ann_needs.specs.View.{assignment}
use Rattle.ann_lattice.specs.Assign.{Assignment}
use Rattle.ann_rules.specs.Program.{Whole}
use Rattle.rpy_checked.specs.Settles.{HasTypes}
use Rattle.sound_rows.specs.Told as sound
use Rattle.sound_runs.specs.Runs.{IsToldIn, ToldOn, ToldAlong, StepsAreRight, IsRight}
use Rattle.sound_runs.specs.States.{IsSound}
use Rattle.sound_runs.specs.Start.{StartsAreSound}
use Rattle.sound_runs.proofs.Starting.{programs_are_never_wrong}
use Rattle.sound_programs.specs.Whole.{whole_of, IsWhole}
use Rattle.sound_programs.specs.Never.{TypesAreSettled}
use Rattle.sound_programs.specs.Told.{IsAsMade, RunsAreTold, RunsAreSound, MadeRunsAreNeverWrong}

-- ---- narrowings

instance_told : (q : meaning.Program) (c : ℕ) (w : World) (x : Value) → told.IsOf q c w x → is_instance q no_covers c x w ≡ Gives (Flag true) w
instance_told q c w x h =
    ap (λ v. is_instance q no_covers c v w) h.is ∙ ap (λ o. is_instance_object q no_covers c o w) h.there ∙ ap (λ b. Gives (Flag b) w) h.below

narrowing_told : (q : meaning.Program) (o : RowOp) (w : World) (vs : List Value) → narrows o ≡ true → told.IsTold q o w vs → sound.IsTold q w o vs
narrowing_told q row.DropNone w vs n h = subst (λ us. sound.IsTold q w row.DropNone us) (sym h.1) h.2
narrowing_told q row.OnlyNone w vs n h = subst (λ us. sound.IsTold q w row.OnlyNone us) (sym h) refl
narrowing_told q row.FalseNone w vs n h = subst (λ us. sound.IsTold q w row.FalseNone us) (sym h.1) h.2
narrowing_told q (row.Lower c) w vs n h = subst (λ us. sound.IsTold q w (row.Lower c) us) (sym h.1) (instance_told q c w h.0 h.2)
narrowing_told q row.NonNegative w vs n h = tt
narrowing_told q o w vs n h = absurd cc

-- ---- along a run

module _ (q : meaning.Program) (gs : Graphs) where
  then_on : (one two three : State) → Reaches q gs one two → step q gs two ≡ Goes three → Reaches q gs one three
  then_on one _ three Here e = Then e Here
  then_on one two three (Then first more) e = Then first (then_on _ two three more e)

  on_next : (k : ℕ) (state : State) → ((mid : State) → ((last : State) → Reaches q gs mid last → IsToldIn q last) → ToldAlong q gs k mid) → ((last : State) → Reaches q gs state last → IsToldIn q last)
      → (next : Next) → step q gs state ≡ next → ToldOn q gs (ToldAlong q gs k) next
  on_next k state go all (Goes mid) e = go mid (λ last reaches. all last (Then e reaches))
  on_next k state go all (Ends outcome world) e = tt
  on_next k state go all (Stops world) e = tt
  on_next k state go all Strays e = tt

  told_along : (k : ℕ) (state : State) → ((last : State) → Reaches q gs state last → IsToldIn q last) → ToldAlong q gs k state
  told_along zero state all = tt
  told_along (suc k) state all = (all state Here, on_next k state (told_along k) all (step q gs state) refl)

  module _ (p : Whole) (a : Assignment) (right : (state : State) → IsSound p a q state → IsToldIn q state → IsRight p a q (step q gs state)) where
    sound_along : (state last : State) → Reaches q gs state last → IsSound p a q state → ((mid : State) → Reaches q gs state mid → IsToldIn q mid) → IsSound p a q last
    sound_along state _ Here h all = h
    sound_along state last (Then {mid = mid} e more) h all =
        sound_along mid last more (subst (IsRight p a q) e (right state h (all state Here))) (λ x reaches. all x (Then e reaches))

-- ---- programs

module _ (truth : ProgramsTellTheTruth) where
  by_state : (p : Program) (gs : Graphs) (n : Annotation) (types : HasTypes p gs n) → IsWhole p gs (assignment types.state) → (args : List (List ℕ)) (steps : ℕ)
      → (state : State) → Reaches (meant_by p) gs (start (meant_by p) args steps) state → IsAsMade (meant_by p) state → IsToldIn (meant_by p) state
  by_state p gs n types w args steps (Calling f vs instead frames world) reaches made = made
  by_state p gs n types w args steps (At f [] e env instead frames world) reaches made = tt
  by_state p gs n types w args steps (At f (o ∷ ops) e env instead frames world) reaches made = λ vs is. by vs is (narrows o.op) refl
    where
      by : (vs : List Value) → values_of env o.args ≡ Some vs → (b : Bool) → narrows o.op ≡ b → sound.IsTold (meant_by p) world o.op vs
      by vs is true h = narrowing_told (meant_by p) o.op world vs h (truth p gs types.stand w.flat w.functions args steps f o ops e env instead frames world reaches vs is)
      by vs is false h = made h vs is
  by_state p gs n types w args steps (Returning v frames world) reaches made = tt
  by_state p gs n types w args steps (Throwing r frames world) reaches made = tt

  pub runs_are_told : RunsAreTold
  runs_are_told p gs n types w args steps made state reaches = by_state p gs n types w args steps state reaches (made state reaches)

  module _ (settled : TypesAreSettled) (right : StepsAreRight) (begins : StartsAreSound) where
    pub runs_are_sound : RunsAreSound
    runs_are_sound p gs n types w bound args steps made state reaches =
        let ok = settled p gs n types w bound in
        sound_along (meant_by p) gs (whole_of p gs) (assignment types.state) (right (whole_of p gs) (assignment types.state) (meant_by p) gs ok.0) (start (meant_by p) args steps) state reaches
        (begins (whole_of p gs) (assignment types.state) (meant_by p) gs ok.0 ok.1 args steps) (runs_are_told p gs n types w args steps made)

    pub made_runs_are_never_wrong : MadeRunsAreNeverWrong
    made_runs_are_never_wrong p gs n types w bound args steps made k =
        let ok = settled p gs n types w bound in
        programs_are_never_wrong (whole_of p gs) (assignment types.state) (meant_by p) gs ok.0 ok.1 args steps k (told_along (meant_by p) gs k (start (meant_by p) args steps) (runs_are_told p gs n types w args steps made))
