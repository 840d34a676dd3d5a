-- What is left at the end is held, and where nothing is held nothing is left.
use Rattle.std.proofs.Common.{◌≡◌, ⊎_elim, ◌<◌, ◌≤◌, ℕ, ℤ, pos, zero, suc, ◌+◌, Bool, true, false, List, [], ◌∷◌, ◌++◌, length, map, Option, Some, None, refl, sym, ap, ◌∙◌, subst, arith}
use Rattle.std.specs.Prelude.{cond, slice_index_or, ◌==◌, ◌||◌}
use Rattle.rpy_base.specs.declared.outcome.Outcome.TheVariants.{Returned}
use Rattle.csub_tree.specs.Meaning.{made_in, gone_in}
use Rattle.csub_tree.specs.Statement.{read}
use Rattle.csub_tree.specs.State.{Value, Word, Null, Ptr, Static, Block, Core, Event}
use Rattle.ll_code.specs.Machine.{start}
use Rattle.ll_code.specs.Meaning.{Unfinished, Came, Meant, run, within, comes}
use Rattle.ll_code.specs.State.{Frame, State, At, Returning}
use Rattle.ll_code.specs.declared.program.LlExit.TheVariants as exit
use Rattle.ll_code.specs.declared.program.LlProgram.{LlProgram}
use Rattle.ll_live.specs.Live.{live}
use Rattle.ll_held.specs.Held.{times, Reaches, Held, Root, Cycle, From}
use Rattle.ll_held.specs.Roots.{kept, roots, slots, core_of}
use Rattle.ll_held.proofs.Keeping.{times_append, used_from, or_one}
use Rattle.ll_laws.proofs.Values.{and_left, is_same}
use Rattle.ll_events.specs.Told.{often, TellOf, EndsAt, IsLast, AddsTo}
use Rattle.ll_events.proofs.Stepping.{ends_here}
use Rattle.ll_events.proofs.Telling.{LastStep, last_step_is, halts_at, run_ends, ending_tells, whole_run_tells, adds_to, return_is_last}
use Rattle.refcount_transform.specs.Counted.{counted}
use Rattle.refcount_laws.specs.Ghost.{Ghost}
use Rattle.refcount_laws.specs.Means.{SameMeaning}
use Rattle.refcount_laws.specs.Run.{RunStands, wider}
use Rattle.refcount_laws.specs.Whole.{Call, StandsFor}
use Rattle.refcount_laws.proofs.Running.{run_stands}
use Rattle.refcount_laws.proofs.Starting.{ghost, starts_stand}
use Rattle.refcount_ready.specs.Programs.{CanBeCounted, RunsSmall}
use Rattle.refcount_ready.proofs.Composed.{ready_so, means_the_same}
use Rattle.refcount_exact.proofs.There.{there_at}
use Rattle.ll_points.specs.Agrees.{slots_of}
use Rattle.ll_points.specs.Points.{RanLeads}
use Rattle.ll_points.proofs.Runs.{whole_run_leads}
use Rattle.ll_laws.specs.States.{RanFits}
use Rattle.ll_laws.proofs.Runs.{whole_run_fits}
use Rattle.refcount_exact.specs.Exact.{inner, HasCount, IsExact}
use Rattle.refcount_exact.specs.Endings.{EndsHolding, ReturnsExact, EndsEmpty, IsClear}
use Rattle.refcount_exact.proofs.Counts.{exact_at}
use Rattle.refcount_exact.proofs.Halting.{stands_halts}

often_left : (b : ℕ) (xs ys : List ℕ) → often b (xs ++ ys) ≡ 0 → often b xs ≡ 0
often_left b [] ys e = refl
often_left b (x ∷ xs) ys e = by (b == x) (often_left b xs ys) e
  where
    by : (y : Bool) → (often b (xs ++ ys) ≡ 0 → often b xs ≡ 0) → cond y (suc (often b (xs ++ ys))) (often b (xs ++ ys)) ≡ 0 → cond y (suc (often b xs)) (often b xs) ≡ 0
    by true go e = absurd (omega (arith, e))
    by false go e = go e

-- ---- where no root names a block

only : (a v : ℕ) → live [] (exit.Raised a) v ≡ true → a ≡ v
only a v e = ⊎_elim (λ f. ⊎_elim (λ g. is_same a v g) (λ g. absurd (cc)) (or_one (a == v) false f)) (λ f. absurd (cc)) (or_one (a == v || false) false e)

pub returned_none : (p : LlProgram) (n : ℤ) (value : Value) (core : Core) → value ≡ Word n → core.exc_type ≡ Null → core.exc_value ≡ Null → (b : ℕ) → times b (roots p (Returning value [] core)) ≡ 0
returned_none p n value core e f g b = ap (λ x. times b (x ∷ core.exc_type ∷ core.exc_value ∷ [])) e ∙ ap (λ x. times b (Word n ∷ x ∷ core.exc_value ∷ [])) f ∙ ap (λ x. times b (Word n ∷ Null ∷ x ∷ [])) g

pub raised_none : (p : LlProgram) (a g : ℕ) (core : Core) → read core.vars a ≡ Static g → core.exc_type ≡ Null → core.exc_value ≡ Null → (b : ℕ) → times b (roots p (At [] (exit.Raised a) [] core)) ≡ 0
raised_none p a g core e kind value b = none (times b (roots p (At [] (exit.Raised a) [] core))) refl
  where
    kept_none : 0 < times b (kept (live [] (exit.Raised a)) 0 core.vars) → ⊥
    kept_none h = by (used_from (live [] (exit.Raised a)) core.vars b h)
      where
        by : (v : ℕ) × (live [] (exit.Raised a) v ≡ true) × (read core.vars v ≡ Ptr b) → ⊥
        by (v, u, f) = let x : Static g ≡ Ptr b = sym e ∙ ap (read core.vars) (only a v u) ∙ f in cc

    slots_none : times b (core.exc_type ∷ core.exc_value ∷ []) ≡ 0
    slots_none = ap (λ x. times b (x ∷ core.exc_value ∷ [])) kind ∙ ap (λ x. times b (Null ∷ x ∷ [])) value

    none : (n : ℕ) → times b ((kept (live [] (exit.Raised a)) 0 core.vars ++ slots core) ++ []) ≡ n → n ≡ 0
    none zero f = refl
    none (suc n) f =
        let x : times b ((kept (live [] (exit.Raised a)) 0 core.vars ++ slots core) ++ []) ≡ times b (kept (live [] (exit.Raised a)) 0 core.vars ++ slots core) + 0 = times_append b (kept (live [] (exit.Raised a)) 0 core.vars ++ slots core) [] in
        let y : times b (kept (live [] (exit.Raised a)) 0 core.vars ++ slots core) ≡ times b (kept (live [] (exit.Raised a)) 0 core.vars) + times b (slots core) = times_append b (kept (live [] (exit.Raised a)) 0 core.vars) (slots core) in
        absurd (kept_none (omega (arith, f, x, y, slots_none)))

pub none_held : (blocks : List (Option Block)) (rs : List Value) → ((b : ℕ) → times b rs ≡ 0) → ((b : ℕ) → Reaches blocks b b → ⊥) → (b : ℕ) → Held blocks rs b → ⊥
none_held blocks rs empty apart b (Root h) = let e : times b rs ≡ 0 = empty b in absurd (omega (arith, e, h))
none_held blocks rs empty apart b (Cycle c) = apart b c
none_held blocks rs empty apart b (From h r) = none_held blocks rs empty apart _ h

-- ---- what is not gone is held

module _ (p : LlProgram) (can : CanBeCounted p) (args : List (List ℕ)) (steps : ℕ) (small : RunsSmall p args steps) where
  -- where the counted program stands, with the same blocks made
  record Along (s : State) (events : List Event) : Type 0 where
    taken : ℕ
    state : State
    text : List ℕ
    told : List Event
    runs : run (counted p) args taken (start (counted p) steps) [] [] ≡ Unfinished state text told
    made : made_in told ≡ map wider (made_in events)
    calls : List Call
    others : List Frame
    g : Ghost
    h : List (Option Block)
    stands : StandsFor p calls others s state g h

  along : (k : ℕ) (s : State) (text : List ℕ) (events : List Event) → run p args k (start p steps) [] [] ≡ Unfinished s text events → Along s events
  along k s text events e =
      by (subst (RunStands p args k (start (counted p) steps) [] []) e (run_stands p can.typed (and_left _ _ can.leads) can.inputs args k [] [] (start p steps) (start (counted p) steps) (ghost p can.typed steps) [] [] [] [] (starts_stand p can.typed steps) (ready_so p can args steps small k) refl))
    where
      by : RunStands p args k (start (counted p) steps) [] [] (Unfinished s text events) → Along s events
      by (j, t, told, enough, runs, made, calls, others, g, h, stands) = record { taken = j; state = t; text = text; told = told; runs = runs; made = made; calls = calls; others = others; g = g; h = h; stands = stands }

  pub ends_holding : (s : State) (m : Meant) → EndsAt p args steps s m → comes m.ending → EndsHolding p args steps s m
  ends_holding s m w c = record {
    same = same;
    last = a.state;
    ends = last_ends;
    exact = exact_at p can s a.state a.calls a.others a.g a.h a.stands (subst (RanFits p) w.comes (whole_run_fits p can.typed args steps w.taken)) (subst (RanLeads p (slots_of p)) w.comes (whole_run_leads p (slots_of p) can.typed can.agrees args steps w.taken));
    tells = tells;
    held = λ b lt e. one b lt e (slice_index_or (core_of a.state).blocks b None) refl;
  }
    where
      same : SameMeaning p args steps m
      same = means_the_same p can args steps small m (suc w.taken, w.ends) c

      a : Along s w.events
      a = along w.taken s w.text w.events w.comes

      step_ : LastStep p args s
      step_ = last_step_is p args steps s m w c

      halts : (n : Meant) × (within (counted p) args steps (suc a.taken) ≡ Some n)
      halts = halts_at (counted p) args steps a.taken a.state a.text a.told a.runs (stands_halts p args s a.state a.calls a.others a.g a.h a.stands (ends_here p args s step_.outcome step_.end step_.is) step_.outcome step_.end step_.is)

      last_ends : EndsAt (counted p) args steps a.state same.other
      last_ends = record { taken = a.taken; text = a.text; events = a.told; comes = a.runs; ends = halts.1 ∙ ap Some (same.only halts.0 (suc a.taken, halts.1)) }

      tells : TellOf (core_of a.state).blocks same.other.made same.other.gone
      tells = ending_tells (counted p) args steps a.state same.other last_ends

      one : (b : ℕ) → b < length same.other.made → often b same.other.gone ≡ 0 → (o : Option Block) → slice_index_or (core_of a.state).blocks b None ≡ o → Held (core_of s).blocks (roots p s) b
      one b lt e (Some block) f = there_at p s a.state a.calls a.others a.g a.h a.stands b block f
      one b lt e None f = let x : often b same.other.gone ≡ 1 = tells.once b (omega (arith, lt, tells.count)) f in absurd (omega (arith, x, e))

  -- what is not gone at the end is held in each state behind which no block is made
  pub still_held : (k : ℕ) (x : State) (text : List ℕ) (events : List Event) (m : Meant) (same : SameMeaning p args steps m) → run p args k (start p steps) [] [] ≡ Unfinished x text events → made_in events ≡ m.made → (b : ℕ) → b < length same.other.made → often b same.other.gone ≡ 0
      → Held (core_of x).blocks (roots p x) b
  still_held k x text events m same e made b lt none = by (run_ends (counted p) args steps same.other same.means)
    where
      a : Along x events
      a = along k x text events e

      tells : TellOf (core_of a.state).blocks (made_in a.told) (gone_in a.told)
      tells = whole_run_tells (counted p) args steps a.taken a.state a.text a.told a.runs

      long : length same.other.made ≡ length (core_of a.state).blocks
      long = ap length same.made ∙ ap (λ l. length (map wider l)) (sym made) ∙ ap length (sym a.made) ∙ tells.count

      one : AddsTo a.told same.other → (o : Option Block) → slice_index_or (core_of a.state).blocks b None ≡ o → Held (core_of x).blocks (roots p x) b
      one adds (Some block) f = there_at p x a.state a.calls a.others a.g a.h a.stands b block f
      one adds None f =
          let u : often b (gone_in a.told) ≡ 1 = tells.once b (omega (arith, lt, long)) f in
          let v : often b (gone_in a.told) ≡ 0 = often_left b (gone_in a.told) adds.gone (ap (often b) (sym adds.more_gone) ∙ none) in
          absurd (omega (arith, u, v))

      by : (t : State) × EndsAt (counted p) args steps t same.other → Held (core_of x).blocks (roots p x) b
      by (t, v) = one (adds_to (counted p) args steps a.taken a.state t a.text a.told same.other a.runs v) (slice_index_or (core_of a.state).blocks b None) refl

  -- ---- no frame is left

  is_inner : (n : ℤ) (t : State) → IsLast n t → IsExact t → (b : ℕ) (block : Block) → slice_index_or (core_of t).blocks b None ≡ Some block → read block.fields 0 ≡ Word (pos (inner (core_of t) b))
  is_inner n (Returning value [] core) e exact b block is =
      let w : HasCount (Returning value [] core) b block = exact b block is in
      let none : times b (value ∷ []) ≡ 0 = ap (λ v. times b (v ∷ [])) e in
      let most : w.count ≤ inner core b + (times b (value ∷ []) + 0) = w.most in
      let least : inner core b ≤ w.count = w.least in
      let same : w.count ≡ inner core b = omega (arith, most, least, none) in
      w.first ∙ ap (λ n. Word (pos n)) same
  is_inner n other e exact b block is = absurd e

  pub returns_exact : (n : ℤ) (s : State) (m : Meant) → EndsAt p args steps s m → m.ending ≡ Came (Returned n) → ReturnsExact p args steps m
  returns_exact n s m w e =
      let x : EndsHolding p args steps s m = ends_holding s m w (subst comes (sym e) tt) in
      record { same = x.same; last = x.last; ends = x.ends; counts = is_inner n x.last (return_is_last (counted p) args steps n x.last x.same.other x.ends (x.same.ending ∙ e)) x.exact }

  -- ---- nothing is held

  ends_empty : (s : State) (m : Meant) → EndsAt p args steps s m → comes m.ending → ((b : ℕ) → times b (roots p s) ≡ 0) → ((b : ℕ) → Reaches (core_of s).blocks b b → ⊥) → EndsEmpty p args steps m
  ends_empty s m w c empty apart = by (ends_holding s m w c)
    where
      by : EndsHolding p args steps s m → EndsEmpty p args steps m
      by x = record { same = x.same; gone = λ b lt. one b lt (slice_index_or (core_of x.last).blocks b None) refl }
        where
          one : (b : ℕ) → b < length x.same.other.made → (o : Option Block) → slice_index_or (core_of x.last).blocks b None ≡ o → often b x.same.other.gone ≡ 1
          one b lt None e = x.tells.once b (omega (arith, lt, x.tells.count)) e
          one b lt (Some block) e = absurd (none_held (core_of s).blocks (roots p s) empty apart b (x.held b lt (x.tells.there b block e)))

  last_empty : (s : State) (m : Meant) → EndsAt p args steps s m → comes m.ending → (n : ℤ) → IsLast n s → IsClear (core_of s) → EndsEmpty p args steps m
  last_empty (Returning value [] core) m w c n e clear = ends_empty (Returning value [] core) m w c (returned_none p n value core e clear.kind clear.value) clear.apart
  last_empty other m w c n e clear = absurd (e)

  pub returns_empty : (n : ℤ) (s : State) (m : Meant) → EndsAt p args steps s m → m.ending ≡ Came (Returned n) → IsClear (core_of s) → EndsEmpty p args steps m
  returns_empty n s m w e clear = last_empty s m w (subst comes (sym e) tt) n (return_is_last p args steps n s m w e) clear

  -- ---- the exception that leaves the first graph

  pub raises_empty : (a g : ℕ) (core : Core) (m : Meant) → EndsAt p args steps (At [] (exit.Raised a) [] core) m → comes m.ending → read core.vars a ≡ Static g → IsClear core → EndsEmpty p args steps m
  raises_empty a g core m w c e clear = ends_empty (At [] (exit.Raised a) [] core) m w c (raised_none p a g core e clear.kind clear.value) clear.apart
