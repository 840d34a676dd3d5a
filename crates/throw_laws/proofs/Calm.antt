-- Step by step, nothing is thrown.
use Rattle.std.proofs.Common.{◌≡◌, ℕ, Bool, true, false, List, [], ◌∷◌, ◌++◌, length, Option, Some, None, refl, sym, ap, ◌∙◌, subst, ◌-◌}
use Rattle.std.specs.Prelude.{slice_get, replicate, cond}
use Rattle.csub_tree.specs.State.{Value, Unset, Core, After, Onward, Puts as PutsByte, Told, Over as Ran, Stuck}
use Rattle.csub_tree.specs.Statement.{operands, any_unset, taken_by}
use Rattle.csub_tree.specs.declared.stuck.StuckReason.TheVariants.{Unset as IsUnset}
use Rattle.ll_code.specs.State.{Frame, State, Calling, At, Returning, Throwing, Next, Goes, Puts, Tells, Ends, Sticks}
use Rattle.ll_code.specs.Machine.{step, does, goes_on, resumed, waiting, entered, enters}
use Rattle.ll_code.specs.declared.program.LlOp.{LlOp}
use Rattle.ll_code.specs.declared.program.LlOp.TheVariants as op
use Rattle.ll_code.specs.declared.program.LlExit.{LlExit}
use Rattle.ll_code.specs.declared.program.LlBlock.{LlBlock}
use Rattle.ll_code.specs.declared.program.LlGraph.{LlGraph}
use Rattle.ll_code.specs.declared.program.LlProgram.{LlProgram}
use Rattle.ll_leads.specs.Path.{Path, Stay, Go, Put, Tell}
use Rattle.ll_leads.specs.Lifted.{over, next_over}
use Rattle.ll_leads.proofs.Joined.{path_then}
use Rattle.ll_leads.proofs.Lifting.{entered_over, leaves_over, operates_over, caught_over}
use Rattle.throw_laws.specs.Pieces.{AreQuiet, IsSetting, IsEntered, nowhere}
use Rattle.throw_laws.specs.Quiet.{IsLoud, QuietOperationsNeverThrow}
use Rattle.throw_laws.proofs.Catching.{nowhere_sticks, stays}
use Rattle.throw_laws.proofs.Entering.{NextEntered, next_entered}

module _ (p : LlProgram) (args : List (List ℕ)) (quiet : ℕ → Bool) (f : ℕ) (graph : LlGraph) (setting : IsSetting p args quiet f graph) where
  abbrev stop : LlExit
  stop = nowhere graph

  abbrev IsSilent : State → Type 0
  IsSilent s = (end : Core) (text : List ℕ) (x : Value) → Path p args s text (Throwing x [] end) → ⊥

  record WaitsCalm (frame : Frame) : Type 0 where
    exit : frame.exit ≡ stop
    of : frame.graph ≡ f
    rest : AreQuiet quiet frame.ops

  data IsCalm : State → Type 0 where
    Here : (ops : List LlOp) (core : Core) → core.function ≡ f → AreQuiet quiet ops → IsCalm (At ops stop [] core)
    Called : (g : ℕ) (values : List Value) (frame : Frame) (core : Core) → WaitsCalm frame → quiet g ≡ true → IsCalm (Calling g values (frame ∷ []) core)
    Inner : (s : State) (frame : Frame) → WaitsCalm frame → IsEntered s → IsSilent s → IsCalm (over (frame ∷ []) s)

  abbrev NextCalm : Next → Type 0
  NextCalm (Goes t) = IsCalm t
  NextCalm (Puts byte t) = IsCalm t
  NextCalm (Tells event t) = IsCalm t
  NextCalm (Ends outcome core) = Unit {0}
  NextCalm (Sticks reason) = Unit {0}

  module _ (o : LlOp) (ops : List LlOp) (core : Core) (of : core.function ≡ f) (rest : AreQuiet quiet ops) where
    ordinary : NextCalm (goes_on (At ops stop []) (does p args core o))
    ordinary = on (does p args core o) refl
      where
        on : (a : After) → does p args core o ≡ a → NextCalm (goes_on (At ops stop []) a)
        on (Onward c) h = Here ops c (stays p args core o (Onward c) h ∙ of) rest
        on (PutsByte byte c) h = Here ops c (stays p args core o (PutsByte byte c) h ∙ of) rest
        on (Told event c) h = Here ops c (stays p args core o (Told event c) h ∙ of) rest
        on (Ran outcome c) h = tt
        on (Stuck reason) h = tt

  on_cond : (t : Bool) (next : Next) → NextCalm next → NextCalm (cond t (Sticks IsUnset) next)
  on_cond true next h = tt
  on_cond false next h = h

  operation : (o : LlOp) (ops : List LlOp) (core : Core) → core.function ≡ f → AreQuiet quiet (o ∷ ops) → NextCalm (step p args (At (o ∷ ops) stop [] core))
  operation (op.Call into g xs) ops core of calm = on_cond (any_unset (operands core.vars xs)) _ (Called g (operands core.vars xs) (waiting core into ops stop) core (record { exit = refl; of = of; rest = calm.1 }) calm.0)
  operation (op.CallFn into result params b xs) ops core of calm = absurd (let q : false ≡ true = calm.0 in cc)
  operation (op.Raise a) ops core of calm = absurd (let q : false ≡ true = calm.0 in cc)
  operation (op.Set a x) ops core of calm = ordinary (op.Set a x) ops core of calm.1
  operation (op.Unary a o x) ops core of calm = ordinary (op.Unary a o x) ops core of calm.1
  operation (op.Binary a o x y) ops core of calm = ordinary (op.Binary a o x y) ops core of calm.1
  operation (op.GetField a m b k) ops core of calm = ordinary (op.GetField a m b k) ops core of calm.1
  operation (op.SetField m b k x) ops core of calm = ordinary (op.SetField m b k x) ops core of calm.1
  operation (op.GetItem a m b i) ops core of calm = ordinary (op.GetItem a m b i) ops core of calm.1
  operation (op.SetItem m b i x) ops core of calm = ordinary (op.SetItem m b i x) ops core of calm.1
  operation (op.New a m k) ops core of calm = ordinary (op.New a m k) ops core of calm.1
  operation (op.NewArray a m k x) ops core of calm = ordinary (op.NewArray a m k x) ops core of calm.1
  operation (op.Free a) ops core of calm = ordinary (op.Free a) ops core of calm.1
  operation (op.Step x) ops core of calm = ordinary (op.Step x) ops core of calm.1
  operation (op.ExcType a m) ops core of calm = ordinary (op.ExcType a m) ops core of calm.1
  operation (op.ExcValue a m) ops core of calm = ordinary (op.ExcValue a m) ops core of calm.1
  operation (op.ExcSet a b) ops core of calm = ordinary (op.ExcSet a b) ops core of calm.1
  operation op.ExcClear ops core of calm = ordinary op.ExcClear ops core of calm.1
  operation (op.Argc a) ops core of calm = ordinary (op.Argc a) ops core of calm.1
  operation (op.ArgLen a x) ops core of calm = ordinary (op.ArgLen a x) ops core of calm.1
  operation (op.Arg a x y) ops core of calm = ordinary (op.Arg a x y) ops core of calm.1
  operation (op.Put x) ops core of calm = ordinary (op.Put x) ops core of calm.1

  called : (g : ℕ) (values : List Value) (frame : Frame) (core : Core) → WaitsCalm frame → quiet g ≡ true → (o : Option LlGraph) → slice_get p.graphs g ≡ o → NextCalm (entered g values (frame ∷ []) core o)
  called g values frame core w q None is = tt
  called g values frame core w q (Some callee) is = on (slice_get callee.blocks 0) refl
    where
      on : (o : Option LlBlock) → slice_get callee.blocks 0 ≡ o → NextCalm (enters g values (frame ∷ []) core callee o)
      on None first = tt
      on (Some first) known =
          let inner : State = At first.ops first.exit [] (record core { function = g; block = 0; at = 0; vars = values ++ replicate (length callee.types - length callee.params) Unset }) in
          Inner inner frame w tt (λ end text x path. setting.silent g q values core end text x (Go (ap (entered g values [] core) is ∙ ap (enters g values [] core callee) known) path))

  back : (value : Value) (core : Core) (frame : Frame) → WaitsCalm frame → IsCalm (At frame.ops frame.exit [] (record (resumed frame core) { vars = taken_by frame.vars frame.into value }))
  back value core frame w = subst (λ (e : LlExit). IsCalm (At frame.ops e [] (record (resumed frame core) { vars = taken_by frame.vars frame.into value }))) (sym w.exit) (Here frame.ops (record (resumed frame core) { vars = taken_by frame.vars frame.into value }) w.of w.rest)

  module _ (s : State) (frame : Frame) (w : WaitsCalm frame) (silent : IsSilent s) where
    still : {t : State} {text : List ℕ} → Path p args s text t → IsSilent t
    still {text = text} path end more x rest = silent end (text ++ more) x (path_then path rest)

    over_calm : (next : Next) → step p args s ≡ next → step p args (over (frame ∷ []) s) ≡ next_over (frame ∷ []) next → NextCalm (step p args (over (frame ∷ []) s))
    over_calm next here h = subst NextCalm (sym h) (on next here (subst NextEntered here (next_entered p args s)))
      where
        on : (next : Next) → step p args s ≡ next → NextEntered next → NextCalm (next_over (frame ∷ []) next)
        on (Goes t) i n = Inner t frame w n (still (Go i (Stay t)))
        on (Puts byte t) i n = Inner t frame w n (still (Put i (Stay t)))
        on (Tells event t) i n = Inner t frame w n (still (Tell i (Stay t)))
        on (Ends outcome core) i n = tt
        on (Sticks reason) i n = tt

  within : (s : State) (frame : Frame) → WaitsCalm frame → IsSilent s → NextCalm (step p args (over (frame ∷ []) s))
  within (Calling g values below core) frame w r = over_calm (Calling g values below core) frame w r (step p args (Calling g values below core)) refl (entered_over (frame ∷ []) p args g values below core (slice_get p.graphs g))
  within (At [] x below core) frame w r = over_calm (At [] x below core) frame w r (step p args (At [] x below core)) refl (leaves_over (frame ∷ []) p args x below core)
  within (At (o ∷ ops) x below core) frame w r = over_calm (At (o ∷ ops) x below core) frame w r (step p args (At (o ∷ ops) x below core)) refl (operates_over (frame ∷ []) p args o ops x below core)
  within (Returning value (inner ∷ below) core) frame w r = over_calm (Returning value (inner ∷ below) core) frame w r (step p args (Returning value (inner ∷ below) core)) refl refl
  within (Throwing value (inner ∷ below) core) frame w r = over_calm (Throwing value (inner ∷ below) core) frame w r (step p args (Throwing value (inner ∷ below) core)) refl (caught_over (frame ∷ []) p args value inner.ops inner.exit below (resumed inner core))
  within (Returning value [] core) frame w r = back value core frame w
  within (Throwing value [] core) frame w r = absurd (r core [] value (Stay _))

  step_calm : {s : State} → IsCalm s → NextCalm (step p args s)
  step_calm (Here [] core of calm) = subst NextCalm (sym (nowhere_sticks p args quiet (λ ops. []) f graph 0 (record { to = 0; args = [] }) stop setting [] core of)) tt
  step_calm (Here (o ∷ ops) core of calm) = operation o ops core of calm
  step_calm (Called g values frame core w q) = called g values frame core w q (slice_get p.graphs g) refl
  step_calm (Inner s frame w n silent) = within s frame w silent

  calm_along : {s t : State} {text : List ℕ} → IsCalm s → Path p args s text t → IsCalm t
  calm_along calm (Stay s) = calm
  calm_along calm (Go {t = u} h path) = calm_along (subst NextCalm h (step_calm calm)) path
  calm_along calm (Put {t = u} h path) = calm_along (subst NextCalm h (step_calm calm)) path
  calm_along calm (Tell {t = u} h path) = calm_along (subst NextCalm h (step_calm calm)) path

  not_loud : {u : State} → IsCalm u → IsLoud quiet graph u → ⊥
  not_loud (Here (op.Raise a ∷ ops) core of calm) loud = absurd (let q : false ≡ true = calm.0 in cc)
  not_loud (Here [] core of calm) loud = loud
  not_loud (Called g values frame core w q) loud = loud q
  not_loud (Inner (Throwing x [] core) frame w n silent) loud = silent core [] x (Stay _)
  not_loud (Inner (Calling g values [] core) frame w n silent) loud = n
  not_loud (Here (op.Call into g xs ∷ ops) core of calm) loud = loud
  not_loud (Here (op.CallFn into result params b xs ∷ ops) core of calm) loud = loud
  not_loud (Here (op.Set a x ∷ ops) core of calm) loud = loud
  not_loud (Here (op.Unary a o x ∷ ops) core of calm) loud = loud
  not_loud (Here (op.Binary a o x y ∷ ops) core of calm) loud = loud
  not_loud (Here (op.GetField a m b k ∷ ops) core of calm) loud = loud
  not_loud (Here (op.SetField m b k x ∷ ops) core of calm) loud = loud
  not_loud (Here (op.GetItem a m b i ∷ ops) core of calm) loud = loud
  not_loud (Here (op.SetItem m b i x ∷ ops) core of calm) loud = loud
  not_loud (Here (op.New a m k ∷ ops) core of calm) loud = loud
  not_loud (Here (op.NewArray a m k x ∷ ops) core of calm) loud = loud
  not_loud (Here (op.Free a ∷ ops) core of calm) loud = loud
  not_loud (Here (op.Step x ∷ ops) core of calm) loud = loud
  not_loud (Here (op.ExcType a m ∷ ops) core of calm) loud = loud
  not_loud (Here (op.ExcValue a m ∷ ops) core of calm) loud = loud
  not_loud (Here (op.ExcSet a b ∷ ops) core of calm) loud = loud
  not_loud (Here (op.ExcClear ∷ ops) core of calm) loud = loud
  not_loud (Here (op.Argc a ∷ ops) core of calm) loud = loud
  not_loud (Here (op.ArgLen a x ∷ ops) core of calm) loud = loud
  not_loud (Here (op.Arg a x y ∷ ops) core of calm) loud = loud
  not_loud (Here (op.Put x ∷ ops) core of calm) loud = loud
  not_loud (Inner (Throwing x (inner ∷ []) core) frame w n silent) loud = loud
  not_loud (Inner (Throwing x (inner ∷ second ∷ below) core) frame w n silent) loud = loud
  not_loud (Inner (Calling g values (inner ∷ []) core) frame w n silent) loud = loud
  not_loud (Inner (Calling g values (inner ∷ second ∷ below) core) frame w n silent) loud = loud
  not_loud (Inner (Returning x below core) frame w n silent) loud = loud
  not_loud (Inner (At ops e [] core) frame w n silent) loud = loud
  not_loud (Inner (At ops e (inner ∷ below) core) frame w n silent) loud = loud

pub quiet_operations_never_throw : QuietOperationsNeverThrow
quiet_operations_never_throw p args quiet f graph ops core text u setting of calm path loud = not_loud p args quiet f graph setting (calm_along p args quiet f graph setting (Here ops core of calm) path) loud
