-- Where the counted program pays, it stands for a state of the program that does.
use Rattle.std.proofs.Common.{◌≡◌, ◌⊎◌, ⊎_elim, ◌<◌, ◌≤◌, ℕ, ℤ, pos, negsuc, zero, suc, ◌+◌, ◌-◌, Bool, true, false, List, [], ◌∷◌, ◌++◌, map, Option, Some, None, refl, sym, ap, ◌∙◌, subst, arith}
use Rattle.std.specs.Prelude.{nat_le, cond}
use Rattle.rpy_base.specs.declared.outcome.Outcome.TheVariants.{Running}
use Rattle.csub_tree.specs.Operation.{word_of}
use Rattle.csub_tree.specs.State.{Block, Core, Event, Made, Freed, Onward, Over}
use Rattle.csub_tree.specs.Statement.{operand, on, pay_steps}
use Rattle.ll_code.specs.Machine.{step, start, goes_on}
use Rattle.ll_code.specs.Meaning.{Unfinished, Meant, LMeans, run, follow, meant_by, comes}
use Rattle.ll_code.specs.State.{Frame, State, Calling, At, Returning, Throwing, Next, Goes, Puts, Tells, Ends, Sticks}
use Rattle.ll_code.specs.declared.program.LlOp.{LlOp}
use Rattle.ll_code.specs.declared.program.LlOp.TheVariants as op
use Rattle.ll_code.specs.declared.program.LlExit.{LlExit}
use Rattle.ll_code.specs.declared.program.LlProgram.{LlProgram}
use Rattle.ll_held.specs.Roots.{core_of}
use Rattle.ll_laws.specs.States.{RanFits}
use Rattle.ll_laws.proofs.Runs.{whole_run_fits}
use Rattle.ll_laws.proofs.Values.{and_left}
use Rattle.ll_points.specs.Agrees.{slots_of}
use Rattle.ll_points.specs.Points.{RanLeads}
use Rattle.ll_points.proofs.Runs.{whole_run_leads}
use Rattle.ll_events.proofs.Costs as costs
use Rattle.ll_events.proofs.Stepping.{ends_here}
use Rattle.ll_events.proofs.Telling.{run_on, Halts}
use Rattle.refcount_transform.specs.Counted.{counted}
use Rattle.refcount_laws.specs.Ghost.{Ghost}
use Rattle.refcount_laws.specs.Run.{ReadyAlong, ReadyNext, IsReady}
use Rattle.refcount_laws.specs.Runs.{Leads}
use Rattle.refcount_laws.specs.Whole.{Call, StandsFor, ComesFor, NextStands}
use Rattle.refcount_laws.proofs.Starting.{ghost, starts_stand}
use Rattle.refcount_laws.proofs.Stepping.{step_stands}
use Rattle.refcount_ready.specs.Programs.{CanBeCounted, RunsSmall}
use Rattle.refcount_ready.proofs.Composed.{ready_so}
use Rattle.refcount_exact.specs.Payments.{Pays, StandsExact}
use Rattle.refcount_exact.proofs.Counts.{exact_at}
use Rattle.refcount_exact.proofs.Halting.{stands_halts}

-- ---- steps that are left, in any run

module _ (q : LlProgram) (args : List (List ℕ)) where
  never_more : (k : ℕ) (s : State) (text : List ℕ) (events : List Event) (t : State) (out : List ℕ) (told : List Event) → run q args k s text events ≡ Unfinished t out told → (core_of t).steps ≤ (core_of s).steps
  unfolding run
  never_more zero s text events t out told e = let f : s ≡ t = cc in subst (λ u. (core_of u).steps ≤ (core_of s).steps) f (omega arith)
  never_more (suc k) s text events t out told e = by (step q args s) (costs.step_tells q args s) e (λ s text events e. never_more k s text events t out told e)
    where
      by : (next : Next) → costs.NextKeeps (core_of s) next → follow (run q args k) text events next ≡ Unfinished t out told → ((s : State) (text : List ℕ) (events : List Event) → run q args k s text events ≡ Unfinished t out told → (core_of t).steps ≤ (core_of s).steps)
          → (core_of t).steps ≤ (core_of s).steps
      by (Goes u) h e go = omega (arith, h, go u text events e)
      by (Puts byte u) h e go = omega (arith, h, go u (text ++ byte ∷ []) events e)
      by (Tells event u) h e go = omega (arith, h, go u text (events ++ event ∷ []) e)
      by (Ends outcome core) h e go = absurd (cc)
      by (Sticks reason) h e go = absurd (cc)

  one_on : (k : ℕ) (s : State) (text : List ℕ) (events : List Event) → run q args (suc k) s text events ≡ follow (run q args k) text events (step q args s)
  unfolding run
  one_on k s text events = refl

  none_on : (s : State) (text : List ℕ) (events : List Event) → run q args 0 s text events ≡ Unfinished s text events
  unfolding run
  none_on s text events = refl

  -- a payment leaves fewer
  paid_less : (k : ℕ) (ops : List LlOp) (e : LlExit) (frames : List Frame) (core : Core) (n : ℕ) (text : List ℕ) (events : List Event) (t : State) (out : List ℕ) (told : List Event)
      → follow (run q args k) text events (goes_on (At ops e frames) (on (pay_steps core) (Some (pos (suc n))))) ≡ Unfinished t out told → (core_of t).steps < core.steps
  paid_less k ops e frames core n text events t out told f = by (nat_le (suc n) core.steps) refl f
    where
      by : (b : Bool) → nat_le (suc n) core.steps ≡ b → follow (run q args k) text events (goes_on (At ops e frames) (cond b (Onward (record core { at = core.at + 1; steps = core.steps - suc n })) (Over Running core))) ≡ Unfinished t out told → (core_of t).steps < core.steps
      by true h f =
          let x : (core_of t).steps ≤ core.steps - suc n = never_more k (At ops e frames (record core { at = core.at + 1; steps = core.steps - suc n })) text events t out told f in
          let y : suc n ≤ core.steps = is_most (suc n) core.steps h in
          omega (arith, x, y)
        where
          is_most : (a b : ℕ) → nat_le a b ≡ true → a ≤ b
          is_most a b h = grind arith
      by false h f = absurd (cc)

  pays_less : (k : ℕ) (s : State) (text : List ℕ) (events : List Event) (t : State) (out : List ℕ) (told : List Event) → Pays s → run q args (suc k) s text events ≡ Unfinished t out told → (core_of t).steps < (core_of s).steps
  pays_less k (At (op.Step x ∷ ops) e frames core) text events t out told (n, is) f =
      paid_less k ops e frames core n text events t out told (ap (λ v. follow (run q args k) text events (goes_on (At ops e frames) (on (pay_steps core) (word_of v)))) (sym is) ∙ sym (one_on k (At (op.Step x ∷ ops) e frames core) text events) ∙ f)
  pays_less k other text events t out told h f = absurd h

  halts_not : (k : ℕ) (s : State) (text : List ℕ) (events : List Event) (t : State) (out : List ℕ) (told : List Event) → (next : Next) → Halts q args next → follow (run q args k) text events next ≡ Unfinished t out told → ⊥
  halts_not k s text events t out told (Ends outcome core) h e = cc
  halts_not k s text events t out told (Sticks reason) h e = cc
  halts_not k s text events t out told (Goes u) h e = h
  halts_not k s text events t out told (Puts byte u) h e = h
  halts_not k s text events t out told (Tells event u) h e = h

-- what a payment leads to, where as many steps are left there
abbrev OnPaid : Next → Next → Type 0
OnPaid (Goes s) next = (t : State) × (next ≡ Goes t) × ((core_of t).steps ≡ (core_of s).steps)
OnPaid (Puts byte s) next = ⊥
OnPaid (Tells event s) next = ⊥
OnPaid (Ends outcome core) next = Unit {0}
OnPaid (Sticks reason) next = Unit {0}

on_paid : (ops rest : List LlOp) (e x : LlExit) (frames others : List Frame) (core other : Core) (o : Option ℤ) → other.steps ≡ core.steps → OnPaid (goes_on (At ops e frames) (on (pay_steps core) o)) (goes_on (At rest x others) (on (pay_steps other) o))
on_paid ops rest e x frames others core other None same = tt
on_paid ops rest e x frames others core other (Some (negsuc z)) same = tt
on_paid ops rest e x frames others core other (Some (pos z)) same = by (nat_le z core.steps) (ap (nat_le z) same)
  where
    by : (b : Bool) → nat_le z other.steps ≡ b → OnPaid (goes_on (At ops e frames) (cond b (Onward (record core { at = core.at + 1; steps = core.steps - z })) (Over Running core))) (goes_on (At rest x others) (cond (nat_le z other.steps) (Onward (record other { at = other.at + 1; steps = other.steps - z })) (Over Running other)))
    by true f = (At rest x others (record other { at = other.at + 1; steps = other.steps - z }), ap (λ b. goes_on (At rest x others) (cond b (Onward (record other { at = other.at + 1; steps = other.steps - z })) (Over Running other))) f, ap (λ n. n - z) same)
    by false f = tt

-- ---- the run of the counted program

module _ (p : LlProgram) (can : CanBeCounted p) (args : List (List ℕ)) (steps : ℕ) (small : RunsSmall p args steps) (free : (m : Meant) → LMeans p args steps m → comes m.ending) where
  abbrev q : LlProgram
  q = counted p

  steps_same : (s t : State) (calls : List Call) (others : List Frame) (g : Ghost) (h : List (Option Block)) → StandsFor p calls others s t g h → (core_of t).steps ≡ (core_of s).steps
  steps_same (At ops e frames core) t calls others g h both = ap (λ t. (core_of t).steps) both.is ∙ both.stands.steps
  steps_same (Calling f values frames core) t calls others g h both = ap (λ t. (core_of t).steps) both.is ∙ both.stands.steps
  steps_same (Returning value frames core) t calls others g h both = ap (λ t. (core_of t).steps) both.is ∙ both.stands.steps
  steps_same (Throwing value frames core) t calls others g h both = absurd both

  -- each state of the run is ready
  ready_from : (k : ℕ) (s0 : State) (text : List ℕ) (events : List Event) (s : State) (out : List ℕ) (told : List Event) → ReadyAlong p args (suc k) s0 → run p args k s0 text events ≡ Unfinished s out told → IsReady p s
  unfolding run ReadyAlong
  ready_from zero s0 text events s out told r e = let f : s0 ≡ s = cc in subst (IsReady p) f r.0
  ready_from (suc k) s0 text events s out told r e = by (step p args s0) r.1 e (λ s0 text events r e. ready_from k s0 text events s out told r e)
    where
      by : (next : Next) → ReadyNext (ReadyAlong p args (suc k)) next → follow (run p args k) text events next ≡ Unfinished s out told → ((s0 : State) (text : List ℕ) (events : List Event) → ReadyAlong p args (suc k) s0 → run p args k s0 text events ≡ Unfinished s out told → IsReady p s) → IsReady p s
      by (Goes u) r e go = go u text events r e
      by (Puts byte u) r e go = go u (text ++ byte ∷ []) events r e
      by (Tells event u) r e go = go u text (events ++ event ∷ []) r e
      by (Ends outcome core) r e go = absurd (cc)
      by (Sticks reason) r e go = absurd (cc)

  -- some steps on the counted program stands for the next state
  record Far (t : State) (s : State) : Type 0 where
    total : ℕ
    some : 0 < total
    later : State
    calls : List Call
    others : List Frame
    g : Ghost
    h : List (Option Block)
    stands : StandsFor p calls others s later g h
    by : (k : ℕ) (text : List ℕ) (events : List Event) → (out : List ℕ) × (told : List Event) × (run q args (k + total) t text events ≡ run q args k later out told)

  far_goes : (t s : State) → (x : ComesFor p args t s) → 0 < x.leads.count → Far t s
  far_goes t s x lt = record { total = x.leads.count; some = lt; later = x.state; calls = x.calls; others = x.others; g = x.g; h = x.h; stands = x.stands; by = λ k text events. (text, events ++ map Freed x.leads.gone, x.leads.by k text events) }

  far_on : (t t1 later s : State) (l : Leads q args t t1) (next : Next) (add_text : List ℕ → List ℕ) (add_events : List Event → List Event) → step q args t1 ≡ next → ((k : ℕ) (text : List ℕ) (events : List Event) → follow (run q args k) text events next ≡ run q args k later (add_text text) (add_events events)) → ComesFor p args later s → Far t s
  far_on t t1 later s l next add_text add_events e goes x = record {
    total = x.leads.count + suc l.count;
    some = omega arith;
    later = x.state;
    calls = x.calls;
    others = x.others;
    g = x.g;
    h = x.h;
    stands = x.stands;
    by = λ k text events. (
      add_text text,
      add_events (events ++ map Freed l.gone) ++ map Freed x.leads.gone,
      (let n : k + (x.leads.count + suc l.count) ≡ suc (k + x.leads.count) + l.count = omega arith in ap (λ n. run q args n t text events) n) ∙ l.by (suc (k + x.leads.count)) text events
          ∙ one_on q args (k + x.leads.count) t1 text (events ++ map Freed l.gone) ∙ ap (follow (run q args (k + x.leads.count)) text (events ++ map Freed l.gone)) e ∙ goes (k + x.leads.count) text (events ++ map Freed l.gone)
          ∙ x.leads.by k (add_text text) (add_events (events ++ map Freed l.gone)),
    );
  }

  -- what comes after the first step has no more steps left than the next state
  abbrev LessBy : State → State → Next → Type 0
  LessBy s t (Goes u) = (i : ℕ) (text : List ℕ) (events : List Event) (v : State) (out : List ℕ) (told : List Event) → run q args (suc i) t text events ≡ Unfinished v out told → (core_of v).steps ≤ (core_of u).steps
  LessBy s t (Puts byte u) = (i : ℕ) (text : List ℕ) (events : List Event) (v : State) (out : List ℕ) (told : List Event) → run q args (suc i) t text events ≡ Unfinished v out told → (core_of v).steps ≤ (core_of u).steps
  LessBy s t (Tells event u) = (i : ℕ) (text : List ℕ) (events : List Event) (v : State) (out : List ℕ) (told : List Event) → run q args (suc i) t text events ≡ Unfinished v out told → (core_of v).steps ≤ (core_of u).steps
  LessBy s t (Ends outcome core) = Unit {0}
  LessBy s t (Sticks reason) = Unit {0}

  less_same : (s t : State) → (core_of t).steps ≡ (core_of s).steps → (next : Next) → costs.SameSteps (core_of s) next → LessBy s t next
  less_same s t same (Goes u) h = λ i text events v out told e. (let x : (core_of v).steps ≤ (core_of t).steps = never_more q args (suc i) t text events v out told e in omega (arith, x, same, h))
  less_same s t same (Puts byte u) h = λ i text events v out told e. (let x : (core_of v).steps ≤ (core_of t).steps = never_more q args (suc i) t text events v out told e in omega (arith, x, same, h))
  less_same s t same (Tells event u) h = λ i text events v out told e. (let x : (core_of v).steps ≤ (core_of t).steps = never_more q args (suc i) t text events v out told e in omega (arith, x, same, h))
  less_same s t same (Ends outcome core) h = tt
  less_same s t same (Sticks reason) h = tt

  less_paid : (s t : State) (next : Next) → OnPaid next (step q args t) → LessBy s t next
  less_paid s t (Goes u) (t1, e, same) = λ i text events v out told f.
      (let x : (core_of v).steps ≤ (core_of t1).steps = never_more q args i t1 text events v out told (ap (follow (run q args i) text events) (sym e) ∙ sym (one_on q args i t text events) ∙ f) in omega (arith, x, same))
  less_paid s t (Puts byte u) h = absurd h
  less_paid s t (Tells event u) h = absurd h
  less_paid s t (Ends outcome core) h = tt
  less_paid s t (Sticks reason) h = tt

  less : (s t : State) (calls : List Call) (others : List Frame) (g : Ghost) (h : List (Option Block)) → StandsFor p calls others s t g h → LessBy s t (step p args s)
  less (At (op.Step x ∷ ops) e frames core) t calls others g h both =
      less_paid (At (op.Step x ∷ ops) e frames core) t _ (subst (λ t. OnPaid (step p args (At (op.Step x ∷ ops) e frames core)) (step q args t)) (sym both.is) (on_paid ops _ e _ frames others core _ (word_of (operand core.vars x)) both.stands.steps))
  less other t calls others g h both = less_same other t (steps_same other t calls others g h both) (step p args other) (costs.step_same p args other (λ h. h))

  -- ---- back to the state of the program

  next_at : (k : ℕ) (s : State) (text : List ℕ) (events : List Event) → run p args k (start p steps) [] [] ≡ Unfinished s text events → run p args (suc k) (start p steps) [] [] ≡ follow (run p args 0) text events (step p args s)
  next_at k s text events e = run_on p args k 1 (suc k) (start p steps) [] [] s text events e (let n : suc k ≡ k + 1 = omega arith in n) ∙ one_on p args 0 s text events

  not_stuck : (k : ℕ) (s : State) (text : List ℕ) (events : List Event) → run p args k (start p steps) [] [] ≡ Unfinished s text events → (reason : _) → step p args s ≡ Sticks reason → ⊥
  not_stuck k s text events e reason f = free _ (suc k, ap (meant_by steps) (next_at k s text events e ∙ ap (follow (run p args 0) text events) f))

  -- no state before the next one pays
  none_between : (s s2 t : State) (calls : List Call) (others : List Frame) (g : Ghost) (h : List (Option Block)) → StandsFor p calls others s t g h → (far : Far t s2) → (i : ℕ) (text : List ℕ) (events : List Event) (u : State) (out : List ℕ) (told : List Event)
      → run q args (suc i) t text events ≡ Unfinished u out told → suc i < far.total → Pays u → (core_of u).steps ≤ (core_of s2).steps → ⊥
  none_between s s2 t calls others g h both far i text events u out told e lt pays le =
      let w : (out2 : List ℕ) × (told2 : List Event) × (run q args (0 + far.total) t text events ≡ run q args 0 far.later out2 told2) = far.by 0 text events in
      let m : ℕ = far.total - suc (suc i) in
      let on : run q args (0 + far.total) t text events ≡ run q args (suc m) u out told = run_on q args (suc i) (suc m) (0 + far.total) t text events u out told e (omega (arith, lt)) in
      let x : (core_of far.later).steps < (core_of u).steps = pays_less q args m u out told far.later w.0 w.1 pays (sym on ∙ w.2 ∙ none_on q args far.later w.0 w.1) in
      let y : (core_of far.later).steps ≡ (core_of s2).steps = steps_same s2 far.later far.calls far.others far.g far.h far.stands in
      omega (arith, x, y, le)

  abbrev Walk : ℕ → Type 0
  Walk n = (k : ℕ) (s : State) (text : List ℕ) (events : List Event) → run p args k (start p steps) [] [] ≡ Unfinished s text events → (calls : List Call) (others : List Frame) (t : State) (g : Ghost) (h : List (Option Block)) → StandsFor p calls others s t g h
      → (j : ℕ) → j ≤ n → (text2 : List ℕ) (events2 : List Event) (u : State) (out : List ℕ) (told : List Event) → run q args j t text2 events2 ≡ Unfinished u out told → Pays u → StandsExact p args steps u

  walk_far : (n : ℕ) → Walk n → (k : ℕ) (s s2 : State) (text2 : List ℕ) (events2 : List Event) → run p args (suc k) (start p steps) [] [] ≡ Unfinished s2 text2 events2 → (calls : List Call) (others : List Frame) (t : State) (g : Ghost) (h : List (Option Block)) → StandsFor p calls others s t g h → Far t s2
      → (i : ℕ) → suc i ≤ suc n → (text : List ℕ) (events : List Event) (u : State) (out : List ℕ) (told : List Event) → run q args (suc i) t text events ≡ Unfinished u out told → Pays u → (core_of u).steps ≤ (core_of s2).steps → StandsExact p args steps u
  walk_far n go k s s2 text2 events2 reached calls others t g h both far i le text events u out told e pays less =
      ⊎_elim (λ lt. absurd (none_between s s2 t calls others g h both far i text events u out told e lt pays less)) further (let d : (suc i < far.total) ⊎ (far.total ≤ suc i) = grind arith in d)
    where
      further : far.total ≤ suc i → StandsExact p args steps u
      further more =
          let w : (out2 : List ℕ) × (told2 : List Event) × (run q args ((suc i - far.total) + far.total) t text events ≡ run q args (suc i - far.total) far.later out2 told2) = far.by (suc i - far.total) text events in
          let same : (suc i - far.total) + far.total ≡ suc i = omega (arith, more) in
          let lt : 0 < far.total = far.some in
          go (suc k) s2 text2 events2 reached far.calls far.others far.later far.g far.h far.stands (suc i - far.total) (omega (arith, le, more, lt)) w.0 w.1 u out told (sym w.2 ∙ ap (λ n. run q args n t text events) same ∙ e) pays

  walk : (n : ℕ) → Walk n
  walk n k s text events r calls others t g h both zero le text2 events2 u out told e pays =
      let f : t ≡ u = (let x : Unfinished t text2 events2 ≡ Unfinished u out told = sym (none_on q args t text2 events2) ∙ e in cc) in
      subst (StandsExact p args steps) f
      (record {
        taken = k;
        state = s;
        text = text;
        events = events;
        runs = r;
        calls = calls;
        others = others;
        g = g;
        h = h;
        stands = both;
        exact = exact_at p can s t calls others g h both (subst (RanFits p) r (whole_run_fits p can.typed args steps k)) (subst (RanLeads p (slots_of p)) r (whole_run_leads p (slots_of p) can.typed can.agrees args steps k));
      })
  walk zero k s text events r calls others t g h both (suc i) le text2 events2 u out told e pays = absurd (omega (arith, le))
  walk (suc n) k s text events r calls others t g h both (suc i) le text2 events2 u out told e pays =
      by (walk n) (step p args s) refl (step_stands p can.typed (and_left _ _ can.leads) can.inputs args calls others s t g h both (ready_from k (start p steps) [] [] s text events (ready_so p can args steps small (suc k)) r calls others t g h both)) (less s t calls others g h both)
    where
      by : Walk n → (next : Next) → step p args s ≡ next → NextStands p args t next → LessBy s t next → StandsExact p args steps u
      by go (Goes s2) f (x, lt) l =
          walk_far n go k s s2 text events (next_at k s text events r ∙ ap (follow (run p args 0) text events) f ∙ none_on p args s2 text events) calls others t g h both (far_goes t s2 x lt) i le text2 events2 u out told e pays (l i text2 events2 u out told e)
      by go (Puts byte s2) f (t1, later, leads, d, x) l =
          walk_far n go k s s2 (text ++ byte ∷ []) events (next_at k s text events r ∙ ap (follow (run p args 0) text events) f ∙ none_on p args s2 (text ++ byte ∷ []) events) calls others t g h both
          (far_on t t1 later s2 leads (Puts byte later) (λ l. l ++ byte ∷ []) (λ l. l) d (λ k text events. refl) x) i le text2 events2 u out told e pays (l i text2 events2 u out told e)
      by go (Tells (Made number kind cells) s2) f (t1, later, leads, d, x) l =
          walk_far n go k s s2 text (events ++ Made number kind cells ∷ []) (next_at k s text events r ∙ ap (follow (run p args 0) text events) f ∙ none_on p args s2 text (events ++ Made number kind cells ∷ [])) calls others t g h both
          (far_on t t1 later s2 leads (Tells (Made number kind (cells + 2)) later) (λ l. l) (λ l. l ++ Made number kind (cells + 2) ∷ []) d (λ k text events. refl) x) i le text2 events2 u out told e pays (l i text2 events2 u out told e)
      by go (Tells (Freed number) s2) f x l = absurd x
      by go (Ends outcome core) f x l =
          absurd (halts_not q args i t text2 events2 u out told (step q args t) (stands_halts p args s t calls others g h both (ends_here p args s outcome core f) outcome core f) (sym (one_on q args i t text2 events2) ∙ e))
      by go (Sticks reason) f x l = absurd (not_stuck k s text events r reason f)

  pub payments_counted : (j : ℕ) (t : State) (text : List ℕ) (events : List Event) → run q args j (start q steps) [] [] ≡ Unfinished t text events → Pays t → StandsExact p args steps t
  payments_counted j t text events e pays =
      walk j 0 (start p steps) [] [] (none_on p args (start p steps) [] []) [] [] (start q steps) (ghost p can.typed steps) [] (starts_stand p can.typed steps) j (omega arith) [] [] t text events e pays
