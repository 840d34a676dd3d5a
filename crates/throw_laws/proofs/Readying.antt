-- Step by step, what is needed is set.
use Rattle.std.proofs.Common.{◌≡◌, ◌<◌, ◌⊎◌, inl, inr, ℕ, ◌==◌, Bool, true, false, ◌||◌, List, [], ◌∷◌, ◌++◌, map, length, Option, Some, None, refl, sym, ap, ◌∙◌, subst, arith}
use Rattle.std.specs.Prelude.{slice_get, slice_set, cond, ◌&&◌}
use Rattle.std.proofs.lemmas.Bool.Decides.{nat_tests}
use Rattle.std.proofs.lemmas.List.{get_or-set_same, get_or-set_other, length-set}
use Rattle.csub_tree.specs.State.{Value, Unset, Core, After, Onward, Puts as PutsByte, Told, Over as Ran, Stuck}
use Rattle.csub_tree.specs.Operation.{is_unset}
use Rattle.csub_tree.specs.Statement.{read, operands, any_unset, fun_of, same_result, same_types, taken_by}
use Rattle.csub_tree.specs.declared.stuck.StuckReason.TheVariants.{Unset as IsUnset, Signature, Outside}
use Rattle.csub_tree.specs.declared.tree.COperand.{COperand}
use Rattle.ll_code.specs.State.{Frame, State, Calling, At, Returning, Throwing, Next, Goes, Puts, Tells, Ends, Sticks}
use Rattle.ll_code.specs.Machine.{step, does, goes_on, resumed, waiting, caught, entered, called_as, called_value, c_result, c_type, param_types}
use Rattle.ll_code.specs.declared.program.LlType.{LlType}
use Rattle.ll_code.specs.declared.program.LlType.TheVariants as type
use Rattle.ll_code.specs.declared.program.LlLink.{LlLink}
use Rattle.ll_code.specs.declared.program.LlOp.{LlOp}
use Rattle.ll_code.specs.declared.program.LlOp.TheVariants as op
use Rattle.ll_code.specs.declared.program.LlExit.{LlExit}
use Rattle.ll_code.specs.declared.program.LlGraph.{LlGraph}
use Rattle.ll_code.specs.declared.program.LlProgram.{LlProgram}
use Rattle.ll_leads.specs.Path.{Path, Stay, Go, Put, Tell}
use Rattle.ll_leads.specs.Lifted.{over, next_over}
use Rattle.ll_leads.proofs.Joined.{path_then}
use Rattle.ll_leads.proofs.Lifting.{entered_over, leaves_over, operates_over, caught_over}
use Rattle.ll_live.specs.Live.{among, set_by}
use Rattle.ll_live.proofs.Appended.{among_append}
use Rattle.throw_laws.specs.Pieces.{AllIn, AreSet, IsSetting, nowhere}
use Rattle.throw_laws.specs.Ready.{with_set, through, ReadIn, uses_slots, TakesFrom, TakesOf, SetsUnder, AllFit, GiveValues, IsEnough, OperationsAreReady, ReturnsAreReady}
use Rattle.throw_laws.proofs.Catching.{nowhere_sticks, stays}
use Rattle.throw_laws.proofs.Setting.{Sets, AfterSets, does_sets}

equal : (u v : ℕ) → (u == v) ≡ true → u ≡ v
equal u v h = grind (arith, nat_tests, h)

unequal : (u v : ℕ) → (u == v) ≡ false → v ≡ u → ⊥
unequal u v h k = absurd (grind (arith, nat_tests, h, k))

-- one variable more is set
more_set : (set : List ℕ) (vars : List Value) (a : ℕ) (x : Value) → AreSet set vars → a < length vars → is_unset x ≡ false → AreSet (set ++ a ∷ []) (slice_set vars a x)
more_set set vars a x are inside h u k = by (a == u) refl
  where
    before : (a == u) ≡ false → among u set ≡ true
    before e = on (among u set) refl
      where
        on : (b : Bool) → among u set ≡ b → among u set ≡ true
        on true f = f
        on false f = absurd (let q : false ≡ true = sym (among_append u set (a ∷ []) ∙ ap (λ b. b || among u (a ∷ [])) f ∙ ap (λ b. b || false) e) ∙ k in cc)

    by : (b : Bool) → (a == u) ≡ b → is_unset (read (slice_set vars a x) u) ≡ false
    by true e = ap (λ n. is_unset (read (slice_set vars a x) n)) (sym (equal a u e)) ∙ ap is_unset (get_or-set_same vars a x Unset inside) ∙ h
    by false e = ap is_unset (get_or-set_other vars a u x Unset (unequal a u e)) ∙ are u (before e)

module _ (p : LlProgram) (args : List (List ℕ)) (quiet : ℕ → Bool) (f : ℕ) (graph : LlGraph) (setting : IsSetting p args quiet f graph) (gives : GiveValues p args) (n : ℕ) (base further : List ℕ) where
  abbrev stop : LlExit
  stop = nowhere graph

  taken_set : (set : List ℕ) (vars : List Value) (into : Option ℕ) (x : Value) → AreSet set vars → length vars ≡ n → SetsUnder p n into → (into ≡ None) ⊎ (is_unset x ≡ false) → AreSet (with_set into set) (taken_by vars into x)
  taken_set set vars None x are room under h = are
  taken_set set vars (Some a) x are room under (inl h) = absurd (cc)
  taken_set set vars (Some a) x are room under (inr h) = more_set set vars a x are (omega (arith, under, room)) h

  taken_long : (vars : List Value) (into : Option ℕ) (x : Value) → length (taken_by vars into x) ≡ length vars
  taken_long vars None x = refl
  taken_long vars (Some a) x = length-set vars a x

  set_grows : (set : List ℕ) (into : Option ℕ) → AllIn base set → AllIn base (with_set into set)
  set_grows set None h = h
  set_grows set (Some a) h = λ u k. among_append u set (a ∷ []) ∙ ap (λ b. b || among u (a ∷ [])) (h u k)

  -- ---- where all is set

  record HereGood (ops : List LlOp) (core : Core) : Type 0 where
    set : List ℕ
    of : core.function ≡ f
    room : length core.vars ≡ n
    reads : ReadIn ops set
    fits : AllFit p n ops
    first : AllIn base set
    last : AllIn further (through ops set)
    are : AreSet set core.vars

  record WaitsGood (frame : Frame) : Type 0 where
    set : List ℕ
    exit : frame.exit ≡ stop
    of : frame.graph ≡ f
    room : length frame.vars ≡ n
    reads : ReadIn frame.ops (with_set frame.into set)
    fits : AllFit p n frame.ops
    under : SetsUnder p n frame.into
    first : AllIn base set
    last : AllIn further (through frame.ops (with_set frame.into set))
    are : AreSet set frame.vars

  abbrev ReturnsSet : State → Type 0
  ReturnsSet s = (end : Core) (text : List ℕ) (x : Value) → Path p args s text (Returning x [] end) → is_unset x ≡ false

  data IsGood : State → Type 0 where
    Here : (ops : List LlOp) (core : Core) → HereGood ops core → IsGood (At ops stop [] core)
    Inner : (s : State) (frame : Frame) → WaitsGood frame → (frame.into ≡ None) ⊎ ReturnsSet s → IsGood (over (frame ∷ []) s)
    Out : (x : Value) (core : Core) → IsGood (Throwing x [] core)

  abbrev NextGood : Next → Type 0
  NextGood (Goes t) = IsGood t
  NextGood (Puts byte t) = IsGood t
  NextGood (Tells event t) = IsGood t
  NextGood (Ends outcome core) = Unit {0}
  NextGood (Sticks reason) = Unit {0}

  -- ---- at an operation

  module _ (o : LlOp) (ops : List LlOp) (core : Core) (here : HereGood (o ∷ ops) core) where
    goes : (into : Option ℕ) → set_by o ≡ into → SetsUnder p n into → (c : Core) → c.function ≡ core.function → Sets into core c → IsGood (At ops stop [] c)
    goes into is under c kept it = Here ops c (record {
      set = with_set into here.set;
      of = kept ∙ here.of;
      room = ap (λ (vs : List Value). length vs) it.vars ∙ taken_long core.vars into it.value ∙ here.room;
      reads = subst (λ i. ReadIn ops (with_set i here.set)) is here.reads.1;
      fits = here.fits.1;
      first = set_grows here.set into here.first;
      last = subst (λ i. AllIn further (through ops (with_set i here.set))) is here.last;
      are = subst (AreSet (with_set into here.set)) (sym it.vars) (taken_set here.set core.vars into it.value here.are here.room under (inr it.set));
    })

    ordinary : uses_slots o ≡ false → SetsUnder p n (set_by o) → NextGood (goes_on (At ops stop []) (does p args core o))
    ordinary slots under = on (does p args core o) refl (does_sets core p args o slots)
      where
        on : (a : After) → does p args core o ≡ a → AfterSets (set_by o) core a → NextGood (goes_on (At ops stop []) a)
        on (Onward c) h it = goes (set_by o) refl under c (stays p args core o (Onward c) h) it
        on (PutsByte byte c) h it = goes (set_by o) refl under c (stays p args core o (PutsByte byte c) h) it
        on (Told event c) h it = goes (set_by o) refl under c (stays p args core o (Told event c) h) it
        on (Ran outcome c) h it = tt
        on (Stuck reason) h it = tt

    calls : (into : Option ℕ) (g : ℕ) (values : List Value) → set_by o ≡ into → SetsUnder p n into → (into ≡ None) ⊎ ReturnsSet (Calling g values [] core) → IsGood (Calling g values (waiting core into ops stop ∷ []) core)
    calls into g values is under returns = Inner (Calling g values [] core) (waiting core into ops stop) (record {
      set = here.set;
      exit = refl;
      of = here.of;
      room = here.room;
      reads = subst (λ i. ReadIn ops (with_set i here.set)) is here.reads.1;
      fits = here.fits.1;
      under = under;
      first = here.first;
      last = subst (λ i. AllIn further (through ops (with_set i here.set))) is here.last;
      are = here.are;
    }) returns

  -- a graph that is not there gives nothing back
  none_back : (g : ℕ) (values : List Value) (core : Core) → slice_get p.graphs g ≡ None → ReturnsSet (Calling g values [] core)
  none_back g values core is end text x (Go h path) = absurd (let q : Sticks Outside ≡ Goes _ = sym (ap (entered g values [] core) is) ∙ h in cc)
  none_back g values core is end text x (Put h path) = absurd (let q : Sticks Outside ≡ Puts _ _ = sym (ap (entered g values [] core) is) ∙ h in cc)
  none_back g values core is end text x (Tell h path) = absurd (let q : Sticks Outside ≡ Tells _ _ = sym (ap (entered g values [] core) is) ∙ h in cc)

  takes_of : (into : Option ℕ) (g : ℕ) (values : List Value) (core : Core) (o : Option LlGraph) → slice_get p.graphs g ≡ o → TakesOf p n into o → (into ≡ None) ⊎ ReturnsSet (Calling g values [] core)
  takes_of None g values core o is it = inl refl
  takes_of (Some a) g values core None is it = inr (none_back g values core is)
  takes_of (Some a) g values core (Some callee) is it = inr (λ end text x path. gives g callee is it.1 values core end text x path)

  under_of : (into : Option ℕ) (o : Option LlGraph) → TakesOf p n into o → SetsUnder p n into
  under_of None None it = tt
  under_of None (Some callee) it = tt
  under_of (Some a) None it = it
  under_of (Some a) (Some callee) it = it.0

  under_from : (into : Option ℕ) (t : LlType) → TakesFrom p n into t → SetsUnder p n into
  under_from None t it = tt
  under_from (Some a) t it = it.0

  -- a result of the same type is one
  same_result_too : (t u : LlType) → (u ≡ type.Void → ⊥) → same_result (c_result t) (c_result u) ≡ true → t ≡ type.Void → ⊥
  same_result_too t type.Void there same void = there refl
  same_result_too t type.Signed there same void = absurd (let q : same_result (c_result type.Void) (c_result type.Signed) ≡ true = sym (ap (λ z. same_result (c_result z) (c_result type.Signed)) void) ∙ same in cc)
  same_result_too t type.Char there same void = absurd (let q : same_result (c_result type.Void) (c_result type.Char) ≡ true = sym (ap (λ z. same_result (c_result z) (c_result type.Char)) void) ∙ same in cc)
  same_result_too t type.Bool there same void = absurd (let q : same_result (c_result type.Void) (c_result type.Bool) ≡ true = sym (ap (λ z. same_result (c_result z) (c_result type.Bool)) void) ∙ same in cc)
  same_result_too t type.Fn there same void = absurd (let q : same_result (c_result type.Void) (c_result type.Fn) ≡ true = sym (ap (λ z. same_result (c_result z) (c_result type.Fn)) void) ∙ same in cc)
  same_result_too t (type.Ptr k) there same void = absurd (let q : same_result (c_result type.Void) (c_result (type.Ptr k)) ≡ true = sym (ap (λ z. same_result (c_result z) (c_result (type.Ptr k))) void) ∙ same in cc)

  first_of : (a b : Bool) → (a && b) ≡ true → a ≡ true
  first_of true b h = refl
  first_of false b h = absurd (cc)

  module _ (into : Option ℕ) (result : LlType) (params : List LlType) (b : ℕ) (xs : List COperand) (ops : List LlOp) (core : Core) (here : HereGood (op.CallFn into result params b xs ∷ ops) core) where
    abbrev passed : List Value
    passed = operands core.vars xs

    abbrev frame_here : Frame
    frame_here = waiting core into ops stop

    takes_value : (o : Option ℕ) → TakesFrom p n o result → (g : ℕ) (callee : LlGraph) → slice_get p.graphs g ≡ Some callee → same_result (c_result callee.result) (c_result result) ≡ true → (o ≡ None) ⊎ ReturnsSet (Calling g passed [] core)
    takes_value None it g callee is same = inl refl
    takes_value (Some a) it g callee is same = inr (λ end text x path. gives g callee is (same_result_too callee.result result it.1 same) passed core end text x path)

    fits_value : (g : ℕ) (callee : LlGraph) → slice_get p.graphs g ≡ Some callee → (s t : Bool) → same_result (c_result callee.result) (c_result result) ≡ s → NextGood (cond (s && t) (Goes (Calling g passed (frame_here ∷ []) core)) (Sticks Signature))
    fits_value g callee is false t h = tt
    fits_value g callee is true false h = tt
    fits_value g callee is true true h = calls (op.CallFn into result params b xs) ops core here into g passed refl (under_from into result here.fits.0) (takes_value into here.fits.0 g callee is h)

    as_graph : (g : ℕ) (o : Option LlGraph) → slice_get p.graphs g ≡ o → NextGood (called_as (c_result result) (map c_type params) g passed (frame_here ∷ []) core o)
    as_graph g None is = tt
    as_graph g (Some callee) is = fits_value g callee is (same_result (c_result callee.result) (c_result result)) (same_types (param_types callee) (map c_type params)) refl

    as_value : (o : Option ℕ) → NextGood (called_value p (c_result result) (map c_type params) o passed (frame_here ∷ []) core)
    as_value None = tt
    as_value (Some g) = as_graph g (slice_get p.graphs g) refl

    value_called : (t : Bool) → NextGood (cond t (Sticks IsUnset) (called_value p (c_result result) (map c_type params) (fun_of (read core.vars b)) passed (frame_here ∷ []) core))
    value_called true = tt
    value_called false = as_value (fun_of (read core.vars b))

  raised : (x : Value) (ops : List LlOp) (core : Core) → NextGood (caught p x ops stop [] core)
  raised x [] core = Out x core
  raised x (o ∷ ops) core = Out x core

  on_cond : (t : Bool) (next : Next) → NextGood next → NextGood (cond t (Sticks IsUnset) next)
  on_cond true next h = tt
  on_cond false next h = h

  operation : (o : LlOp) (ops : List LlOp) (core : Core) → HereGood (o ∷ ops) core → NextGood (step p args (At (o ∷ ops) stop [] core))
  operation (op.Call into g xs) ops core here = on_cond (any_unset (operands core.vars xs)) _
      (calls (op.Call into g xs) ops core here into g (operands core.vars xs) refl (under_of into (slice_get p.graphs g) here.fits.0) (takes_of into g (operands core.vars xs) core (slice_get p.graphs g) refl here.fits.0))
  operation (op.CallFn into result params b xs) ops core here = value_called into result params b xs ops core here (is_unset (read core.vars b) || any_unset (operands core.vars xs))
  operation (op.Raise a) ops core here = on_cond (is_unset (read core.vars a)) _ (raised (read core.vars a) ops core)
  operation (op.Set a x) ops core here = ordinary (op.Set a x) ops core here here.fits.0.0 here.fits.0.1
  operation (op.Unary a o x) ops core here = ordinary (op.Unary a o x) ops core here here.fits.0.0 here.fits.0.1
  operation (op.Binary a o x y) ops core here = ordinary (op.Binary a o x y) ops core here here.fits.0.0 here.fits.0.1
  operation (op.GetField a m b k) ops core here = ordinary (op.GetField a m b k) ops core here here.fits.0.0 here.fits.0.1
  operation (op.SetField m b k x) ops core here = ordinary (op.SetField m b k x) ops core here here.fits.0.0 here.fits.0.1
  operation (op.GetItem a m b i) ops core here = ordinary (op.GetItem a m b i) ops core here here.fits.0.0 here.fits.0.1
  operation (op.SetItem m b i x) ops core here = ordinary (op.SetItem m b i x) ops core here here.fits.0.0 here.fits.0.1
  operation (op.New a m k) ops core here = ordinary (op.New a m k) ops core here here.fits.0.0 here.fits.0.1
  operation (op.NewArray a m k x) ops core here = ordinary (op.NewArray a m k x) ops core here here.fits.0.0 here.fits.0.1
  operation (op.Free a) ops core here = ordinary (op.Free a) ops core here here.fits.0.0 here.fits.0.1
  operation (op.Step x) ops core here = ordinary (op.Step x) ops core here here.fits.0.0 here.fits.0.1
  operation (op.ExcType a m) ops core here = absurd (let q = here.fits.0.0 in cc)
  operation (op.ExcValue a m) ops core here = absurd (let q = here.fits.0.0 in cc)
  operation (op.ExcSet a b) ops core here = absurd (let q = here.fits.0.0 in cc)
  operation op.ExcClear ops core here = absurd (let q = here.fits.0.0 in cc)
  operation (op.Argc a) ops core here = ordinary (op.Argc a) ops core here here.fits.0.0 here.fits.0.1
  operation (op.ArgLen a x) ops core here = ordinary (op.ArgLen a x) ops core here here.fits.0.0 here.fits.0.1
  operation (op.Arg a x y) ops core here = ordinary (op.Arg a x y) ops core here here.fits.0.0 here.fits.0.1
  operation (op.Put x) ops core here = ordinary (op.Put x) ops core here here.fits.0.0 here.fits.0.1

  -- ---- within a call

  back : (value : Value) (core : Core) (frame : Frame) → WaitsGood frame → (frame.into ≡ None) ⊎ (is_unset value ≡ false) → IsGood (At frame.ops frame.exit [] (record (resumed frame core) { vars = taken_by frame.vars frame.into value }))
  back value core frame w h =
      let after : Core = record (resumed frame core) { vars = taken_by frame.vars frame.into value } in
      subst (λ (e : LlExit). IsGood (At frame.ops e [] after)) (sym w.exit) (Here frame.ops after (record {
        set = with_set frame.into w.set;
        of = w.of;
        room = taken_long frame.vars frame.into value ∙ w.room;
        reads = w.reads;
        fits = w.fits;
        first = set_grows w.set frame.into w.first;
        last = w.last;
        are = taken_set w.set frame.vars frame.into value w.are w.room w.under h;
      }))

  thrown_out : (value : Value) (core : Core) (frame : Frame) → WaitsGood frame → NextGood (caught p value frame.ops frame.exit [] (resumed frame core))
  thrown_out value core frame w = subst (λ (e : LlExit). NextGood (caught p value frame.ops e [] (resumed frame core))) (sym w.exit) (raised value frame.ops (resumed frame core))

  module _ (s : State) (frame : Frame) (w : WaitsGood frame) (returns : (frame.into ≡ None) ⊎ ReturnsSet s) where
    still : {t : State} {text : List ℕ} → Path p args s text t → (frame.into ≡ None) ⊎ ReturnsSet s → (frame.into ≡ None) ⊎ ReturnsSet t
    still path (inl h) = inl h
    still {text = text} path (inr h) = inr (λ end more x rest. h end (text ++ more) x (path_then path rest))

    over_good : (next : Next) → step p args s ≡ next → step p args (over (frame ∷ []) s) ≡ next_over (frame ∷ []) next → NextGood (step p args (over (frame ∷ []) s))
    over_good next here h = subst NextGood (sym h) (on next here)
      where
        on : (next : Next) → step p args s ≡ next → NextGood (next_over (frame ∷ []) next)
        on (Goes t) i = Inner t frame w (still (Go i (Stay t)) returns)
        on (Puts byte t) i = Inner t frame w (still (Put i (Stay t)) returns)
        on (Tells event t) i = Inner t frame w (still (Tell i (Stay t)) returns)
        on (Ends outcome core) i = tt
        on (Sticks reason) i = tt

  value_of : (value : Value) (core : Core) (frame : Frame) → (frame.into ≡ None) ⊎ ReturnsSet (Returning value [] core) → (frame.into ≡ None) ⊎ (is_unset value ≡ false)
  value_of value core frame (inl h) = inl h
  value_of value core frame (inr h) = inr (h core [] value (Stay _))

  within : (s : State) (frame : Frame) → WaitsGood frame → (frame.into ≡ None) ⊎ ReturnsSet s → NextGood (step p args (over (frame ∷ []) s))
  within (Calling g values below core) frame w r = over_good (Calling g values below core) frame w r (step p args (Calling g values below core)) refl (entered_over (frame ∷ []) p args g values below core (slice_get p.graphs g))
  within (At [] x below core) frame w r = over_good (At [] x below core) frame w r (step p args (At [] x below core)) refl (leaves_over (frame ∷ []) p args x below core)
  within (At (o ∷ ops) x below core) frame w r = over_good (At (o ∷ ops) x below core) frame w r (step p args (At (o ∷ ops) x below core)) refl (operates_over (frame ∷ []) p args o ops x below core)
  within (Returning value (inner ∷ below) core) frame w r = over_good (Returning value (inner ∷ below) core) frame w r (step p args (Returning value (inner ∷ below) core)) refl refl
  within (Throwing value (inner ∷ below) core) frame w r = over_good (Throwing value (inner ∷ below) core) frame w r (step p args (Throwing value (inner ∷ below) core)) refl (caught_over (frame ∷ []) p args value inner.ops inner.exit below (resumed inner core))
  within (Returning value [] core) frame w r = back value core frame w (value_of value core frame r)
  within (Throwing value [] core) frame w r = thrown_out value core frame w

  -- ---- ways

  nowhere_on : (v : ℕ) (by : LlLink) (e : LlExit) (core : Core) → core.function ≡ f → step p args (At [] stop [] core) ≡ Sticks Outside
  nowhere_on v by e core of = nowhere_sticks p args quiet (λ ops. []) f graph v by e setting [] core of

  step_good : {s : State} → IsGood s → NextGood (step p args s)
  step_good (Here [] core here) = subst NextGood (sym (nowhere_on 0 (record { to = 0; args = [] }) stop core here.of)) tt
  step_good (Here (o ∷ ops) core here) = operation o ops core here
  step_good (Inner s frame w r) = within s frame w r
  step_good (Out x core) = tt

  good_along : {s t : State} {text : List ℕ} → IsGood s → Path p args s text t → IsGood t
  good_along good (Stay s) = good
  good_along {s = s} good (Go {t = u} h path) = good_along (subst NextGood h (step_good good)) path
  good_along {s = s} good (Put {t = u} h path) = good_along (subst NextGood h (step_good good)) path
  good_along {s = s} good (Tell {t = u} h path) = good_along (subst NextGood h (step_good good)) path

  -- ---- what is needed

  module _ (needed : List LlOp → List ℕ) (enough : IsEnough needed base further) where
    here_set : {s : State} → IsGood s → (left : List LlOp) (end : Core) → s ≡ At left stop [] end → AreSet (needed left) end.vars
    here_set (Here ops core here) left end h =
        let same : ops ≡ left = cc in
        let cores : core ≡ end = cc in
        subst (λ (c : Core). AreSet (needed left) c.vars) cores (subst (λ (l : List LlOp). AreSet (needed l) core.vars) same (λ u m. here.are u (enough ops here.set here.reads here.first here.last u m)))
    here_set (Inner (Calling g values below core) frame w r) left end h = absurd (cc)
    here_set (Inner (At ops x [] core) frame w r) left end h = absurd (cc)
    here_set (Inner (At ops x (inner ∷ below) core) frame w r) left end h = absurd (cc)
    here_set (Inner (Returning value below core) frame w r) left end h = absurd (cc)
    here_set (Inner (Throwing value below core) frame w r) left end h = absurd (cc)
    here_set (Out x core) left end h = absurd (cc)

    good_ready : {s : State} → IsGood s → (left : List LlOp) (end : Core) (text : List ℕ) → Path p args s text (At left stop [] end) → AreSet (needed left) end.vars
    good_ready good left end text path = here_set (good_along good path) left end refl

    frame_waits : {s : State} → IsGood s → (g : ℕ) (values : List Value) (frame : Frame) (end : Core) → s ≡ Calling g values (frame ∷ []) end → WaitsGood frame
    frame_waits (Here ops core here) g values fr end h = absurd (cc)
    frame_waits (Inner (Calling k ys [] core) frame w r) g values fr end h = let same : frame ≡ fr = cc in subst WaitsGood same w
    frame_waits (Inner (Calling k ys (inner ∷ []) core) frame w r) g values fr end h = absurd (cc)
    frame_waits (Inner (Calling k ys (inner ∷ second ∷ below) core) frame w r) g values fr end h = absurd (cc)
    frame_waits (Inner (At ops x below core) frame w r) g values fr end h = absurd (cc)
    frame_waits (Inner (Returning value below core) frame w r) g values fr end h = absurd (cc)
    frame_waits (Inner (Throwing value below core) frame w r) g values fr end h = absurd (cc)
    frame_waits (Out x core) g values fr end h = absurd (cc)

    back_ready : (x : Value) (frame : Frame) (later : Core) → WaitsGood frame → is_unset x ≡ false → (left : List LlOp) (end : Core) (text : List ℕ) → Path p args (Returning x (frame ∷ []) later) text (At left stop [] end) → AreSet (needed left) end.vars
    back_ready x frame later w set left end text (Go {t = t} {text = more} h path) =
        let next : State = At frame.ops frame.exit [] (record (resumed frame later) { vars = taken_by frame.vars frame.into x }) in
        let same : next ≡ t = cc in
        good_ready (subst IsGood same (back x later frame w (inr set))) left end more path
    back_ready x frame later w set left end text (Put h path) = absurd (cc)
    back_ready x frame later w set left end text (Tell h path) = absurd (cc)

pub operations_are_ready : OperationsAreReady
operations_are_ready p args quiet needed f graph v by e base further set ops core setting gives enough of reads fits first last are =
    good_ready p args quiet f graph setting gives (length core.vars) base further needed enough (Here ops core (record { set = set; of = of; room = refl; reads = reads; fits = fits; first = first; last = last; are = are }))

pub returns_are_ready : ReturnsAreReady
returns_are_ready p args quiet needed f graph v by e base further set ops core setting gives enough of reads fits first last are g values frame end later text x path is_set =
    back_ready p args quiet f graph setting gives (length core.vars) base further needed enough x frame later
    (frame_waits p args quiet f graph setting gives (length core.vars) base further needed enough (good_along p args quiet f graph setting gives (length core.vars) base further
    (Here ops core (record { set = set; of = of; room = refl; reads = reads; fits = fits; first = first; last = last; are = are })) path) g values frame end refl) is_set
