-- Along a run the events tell memory; and a run that ends has a state at which it does.
use Rattle.std.proofs.Common.{◌≡◌, ℕ, zero, suc, ◌+◌, ◌≤◌, ◌<◌, ◌-◌, ◌⊎◌, ⊎_elim, ℤ, pos, negsuc, Bool, true, false, Result, Ok, Err, List, [], ◌∷◌, ◌++◌, Option, Some, None, refl, sym, ap, ◌∙◌, subst, arith}
use Rattle.rpy_base.specs.declared.outcome.Outcome.{Outcome}
use Rattle.rpy_base.specs.declared.outcome.Outcome.TheVariants.{Returned, Running}
use Rattle.csub_tree.specs.State.{Value, Unset, Word, Byte, Flag, Fun, Null, Ptr, Static, Block, Core, Event, Made, Freed, Onward, Over}
use Rattle.csub_tree.specs.Operation.{word_of}
use Rattle.csub_tree.specs.Statement.{read, operand, on, pay_steps, fail, fail_name_of, raised, raised_as, reached, on_block, bytes_of}
use Rattle.csub_tree.specs.declared.stuck.StuckReason.{StuckReason}
use Rattle.csub_tree.specs.declared.tree.CType.{CType}
use Rattle.csub_tree.specs.declared.tree.CType.TheVariants as c
use Rattle.std.specs.Prelude.{slice_get, nat_le, cond}
use Rattle.ll_code.specs.declared.program.LlOp.TheVariants as op
use Rattle.ll_code.specs.declared.program.LlExit.TheVariants as exit
use Rattle.csub_tree.specs.Meaning.{made_in, gone_in}
use Rattle.ll_code.specs.State.{State, At, Returning, Next, Goes, Puts, Tells, Ends, Sticks}
use Rattle.ll_code.specs.Machine.{step, start, goes_on, shapes_of, type_in}
use Rattle.ll_code.specs.Meaning.{Ran, Ended, Unfinished, Ending, Came, StuckFor, Meant, LMeans, follow, run, meant_by, within, comes}
use Rattle.ll_code.specs.declared.program.LlProgram.{LlProgram}
use Rattle.ll_held.specs.Roots.{core_of}
use Rattle.ll_events.specs.Told.{told, InOrder, TellOf, EndsAt, EndsHere, IsLast, AddsTo}
use Rattle.ll_events.proofs.Orders.{told_both, order_both, events_tell}
use Rattle.ll_events.proofs.Stepping.{marks_of, Hears, NextKeeps, step_tells, ends_here}

pub record Told (events : List Event) (s : State) : Type 0 where
  pub order : InOrder [] events
  pub memory : told [] events ≡ marks_of (core_of s)

module _ (p : LlProgram) (args : List (List ℕ)) where
  abbrev RanTells : Ran → Type 0
  RanTells (Unfinished s text events) = Told events s
  RanTells (Ended ending left text events) = Unit {0}

  next_told : (events : List Event) (event : Event) (s t : State) → Told events s → Hears (marks_of (core_of s)) event (marks_of (core_of t)) → Told (events ++ event ∷ []) t
  next_told events event s t w (h, e) = record {
    order = order_both [] events (event ∷ []) w.order (subst (λ m. InOrder m (event ∷ [])) (sym w.memory) h);
    memory = told_both [] events (event ∷ []) ∙ ap (λ m. told m (event ∷ [])) w.memory ∙ e;
  }

  on_next : (k : ℕ) → ((s : State) (text : List ℕ) (events : List Event) → Told events s → RanTells (run p args k s text events)) → (text : List ℕ) (events : List Event) (s : State) → Told events s → (next : Next) → NextKeeps (core_of s) next
      → RanTells (follow (run p args k) text events next)
  on_next k go text events s w (Goes t) h = go t text events (record { order = w.order; memory = w.memory ∙ h })
  on_next k go text events s w (Puts byte t) h = go t (text ++ byte ∷ []) events (record { order = w.order; memory = w.memory ∙ h })
  on_next k go text events s w (Tells event t) h = go t text (events ++ event ∷ []) (next_told events event s t w h)
  on_next k go text events s w (Ends outcome core) h = tt
  on_next k go text events s w (Sticks reason) h = tt

  run_tells : (k : ℕ) (s : State) (text : List ℕ) (events : List Event) → Told events s → RanTells (run p args k s text events)
  unfolding run
  run_tells zero s text events w = w
  run_tells (suc k) s text events w = on_next k (run_tells k) text events s w (step p args s) (step_tells p args s)

  pub whole_run_told : (steps k : ℕ) (s : State) (text : List ℕ) (events : List Event) → run p args k (start p steps) [] [] ≡ Unfinished s text events → Told events s
  whole_run_told steps k s text events e = subst RanTells e (run_tells k (start p steps) [] [] (record { order = tt; memory = refl }))

  pub whole_run_tells : (steps k : ℕ) (s : State) (text : List ℕ) (events : List Event) → run p args k (start p steps) [] [] ≡ Unfinished s text events → TellOf (core_of s).blocks (made_in events) (gone_in events)
  whole_run_tells steps k s text events e = let w : Told events s = whole_run_told steps k s text events e in events_tell events (core_of s).blocks w.order w.memory

  -- ---- the state at which a run ends

  -- the run goes on from where it is
  pub run_on : (j k n : ℕ) (s : State) (text : List ℕ) (events : List Event) (t : State) (out : List ℕ) (later : List Event) → run p args j s text events ≡ Unfinished t out later → n ≡ j + k → run p args n s text events ≡ run p args k t out later
  unfolding run
  run_on zero k n s text events t out later e f =
      let g : Unfinished s text events ≡ Unfinished t out later = e in
      let a : s ≡ t = cc in let b : text ≡ out = cc in let c : events ≡ later = cc in let m : n ≡ k = omega (arith, f) in
      ap (λ n. run p args n s text events) m ∙ ap (λ s. run p args k s text events) a ∙ ap (λ text. run p args k t text events) b ∙ ap (run p args k t out) c
  run_on (suc j) k zero s text events t out later e f = absurd (omega (arith, f))
  run_on (suc j) k (suc n) s text events t out later e f = by (step p args s) (λ s text events e. run_on j k n s text events t out later e (omega (arith, f))) e
    where
      by : (next : Next) → ((s : State) (text : List ℕ) (events : List Event) → run p args j s text events ≡ Unfinished t out later → run p args n s text events ≡ run p args k t out later) → follow (run p args j) text events next ≡ Unfinished t out later
          → follow (run p args n) text events next ≡ run p args k t out later
      by (Goes s) go e = go s text events e
      by (Puts byte s) go e = go s (text ++ byte ∷ []) events e
      by (Tells event s) go e = go s text (events ++ event ∷ []) e
      by (Ends outcome core) go e = absurd (cc)
      by (Sticks reason) go e = absurd (cc)

  record LastOf (s : State) (text : List ℕ) (events : List Event) (ran : Ran) : Type 0 where
    taken : ℕ
    last : State
    out : List ℕ
    later : List Event
    comes : run p args taken s text events ≡ Unfinished last out later
    ends : run p args (suc taken) s text events ≡ ran

  last_of : (k : ℕ) (s : State) (text : List ℕ) (events : List Event) (ending : Ending) (left : ℕ) (out : List ℕ) (later : List Event) → run p args k s text events ≡ Ended ending left out later → LastOf s text events (Ended ending left out later)
  unfolding run
  last_of zero s text events ending left out later e = absurd (cc)
  last_of (suc k) s text events ending left out later e = by (step p args s) refl (λ s text events e. last_of k s text events ending left out later e) e
    where
      more : (next : Next) (t : State) (text2 : List ℕ) (events2 : List Event) → step p args s ≡ next → ((j : ℕ) → follow (run p args j) text events next ≡ run p args j t text2 events2) → LastOf t text2 events2 (Ended ending left out later) → LastOf s text events (Ended ending left out later)
      more next t text2 events2 f same w = record {
        taken = suc w.taken;
        last = w.last;
        out = w.out;
        later = w.later;
        comes = ap (follow (run p args w.taken) text events) f ∙ same w.taken ∙ w.comes;
        ends = ap (follow (run p args (suc w.taken)) text events) f ∙ same (suc w.taken) ∙ w.ends;
      }

      here : (next : Next) → step p args s ≡ next → follow (run p args 0) text events next ≡ Ended ending left out later → LastOf s text events (Ended ending left out later)
      here next f e = record { taken = 0; last = s; out = text; later = events; comes = refl; ends = ap (follow (run p args 0) text events) f ∙ e }

      by : (next : Next) → step p args s ≡ next → ((s : State) (text : List ℕ) (events : List Event) → run p args k s text events ≡ Ended ending left out later → LastOf s text events (Ended ending left out later)) → follow (run p args k) text events next ≡ Ended ending left out later
          → LastOf s text events (Ended ending left out later)
      by (Goes t) f go e = more (Goes t) t text events f (λ j. refl) (go t text events e)
      by (Puts byte t) f go e = more (Puts byte t) t (text ++ byte ∷ []) events f (λ j. refl) (go t (text ++ byte ∷ []) events e)
      by (Tells event t) f go e = more (Tells event t) t text (events ++ event ∷ []) f (λ j. refl) (go t text (events ++ event ∷ []) e)
      by (Ends outcome core) f go e = here (Ends outcome core) f e
      by (Sticks reason) f go e = here (Sticks reason) f e

  pub run_ends : (steps : ℕ) (m : Meant) → LMeans p args steps m → (s : State) × EndsAt p args steps s m
  run_ends steps m (k, e) = by (run p args k (start p steps) [] []) refl e
    where
      by : (ran : Ran) → run p args k (start p steps) [] [] ≡ ran → meant_by steps ran ≡ Some m → (s : State) × EndsAt p args steps s m
      by (Unfinished s text events) f e = absurd (cc)
      by (Ended ending left text events) f e =
          let w : LastOf (start p steps) [] [] (Ended ending left text events) = last_of k (start p steps) [] [] ending left text events f in
          (w.last, record { taken = w.taken; text = w.out; events = w.later; comes = w.comes; ends = ap (meant_by steps) w.ends ∙ e })

  -- ---- what is made and gone at the end

  -- the last step tells nothing more
  last_step : (steps : ℕ) (s : State) (text : List ℕ) (events : List Event) (m : Meant) (next : Next) → meant_by steps (follow (run p args 0) text events next) ≡ Some m → (made_in events ≡ m.made) × (gone_in events ≡ m.gone)
  unfolding run
  last_step steps s text events m (Goes t) e = absurd (cc)
  last_step steps s text events m (Puts byte t) e = absurd (cc)
  last_step steps s text events m (Tells event t) e = absurd (cc)
  last_step steps s text events m (Ends outcome core) e = (cc, cc)
  last_step steps s text events m (Sticks reason) e = (cc, cc)

  from_last : (s : State) (text : List ℕ) (events : List Event) → run p args 1 s text events ≡ follow (run p args 0) text events (step p args s)
  unfolding run
  from_last s text events = refl

  pub last_told : (steps : ℕ) (s : State) (m : Meant) → (w : EndsAt p args steps s m) → (made_in w.events ≡ m.made) × (gone_in w.events ≡ m.gone)
  last_told steps s m w =
      last_step steps s w.text w.events m (step p args s)
      (ap (meant_by steps) (sym (from_last s w.text w.events) ∙ sym (run_on w.taken 1 (suc w.taken) (start p steps) [] [] s w.text w.events w.comes (let e : suc w.taken ≡ w.taken + 1 = omega arith in e))) ∙ w.ends)

  pub ending_tells : (steps : ℕ) (s : State) (m : Meant) → EndsAt p args steps s m → TellOf (core_of s).blocks m.made m.gone
  ending_tells steps s m w =
      let told : (made_in w.events ≡ m.made) × (gone_in w.events ≡ m.gone) = last_told steps s m w in
      subst (λ l. TellOf (core_of s).blocks l m.gone) told.0 (subst (TellOf (core_of s).blocks (made_in w.events)) told.1 (whole_run_tells steps w.taken s w.text w.events w.comes))

  pub ends_unchanged : (s : State) (outcome : _) (core : Core) → step p args s ≡ Ends outcome core → core.blocks ≡ (core_of s).blocks
  ends_unchanged s outcome core e = subst (NextKeeps (core_of s)) e (step_tells p args s)

  -- ---- a run that returns

  by_word : (n : ℤ) (value : Value) (core end : Core) → step p args (Returning value [] core) ≡ Ends (Returned n) end → value ≡ Word n
  by_word n (Word z) core end e = (let f : z ≡ n = cc in ap Word f)
  by_word n Unset core end e = absurd (cc)
  by_word n (Byte z) core end e = absurd (cc)
  by_word n (Flag z) core end e = absurd (cc)
  by_word n (Fun z) core end e = absurd (cc)
  by_word n Null core end e = absurd (cc)
  by_word n (Ptr z) core end e = absurd (cc)
  by_word n (Static z) core end e = absurd (cc)

  paid_is : (core : Core) (o : Option ℤ) (n : ℤ) (end : Core) (go : Core → State) → goes_on go (on (pay_steps core) o) ≡ Ends (Returned n) end → ⊥
  paid_is core None n end go e = cc
  paid_is core (Some (negsuc z)) n end go e = cc
  paid_is core (Some (pos z)) n end go e = by (nat_le z core.steps) e
    where
      by : (b : Bool) → goes_on go (cond b (Onward (record core { at = core.at + 1; steps = core.steps - z })) (Over Running core)) ≡ Ends (Returned n) end → ⊥
      by true e = cc
      by false e = cc

  failed_is : (core : Core) (o : Option _) (n : ℤ) (end : Core) (go : Core → State) → goes_on go (fail core o) ≡ Ends (Returned n) end → ⊥
  failed_is core None n end go e = cc
  failed_is core (Some name) n end go e = cc

  raised_is : (core : Core) (a n : ℤ) (end : Core) (go : Core → State) (t : Option CType) (value : Value) → goes_on go (raised core (shapes_of p.structs) t value) ≡ Ends (Returned n) end → ⊥
  raised_is core a n end go (Some (c.Ptr m)) value e = by (reached core (shapes_of p.structs) m value) e
    where
      named : (o : Option (List ℕ)) → goes_on go (raised_as core o) ≡ Ends (Returned n) end → ⊥
      named None e = cc
      named (Some name) e = cc

      by : (r : Result Block StuckReason) → goes_on go (on_block (λ block. raised_as core (bytes_of block.items)) r) ≡ Ends (Returned n) end → ⊥
      by (Ok block) e = named (bytes_of block.items) e
      by (Err reason) e = cc
  raised_is core a n end go None value e = cc
  raised_is core a n end go (Some c.Signed) value e = cc
  raised_is core a n end go (Some c.Char) value e = cc
  raised_is core a n end go (Some c.Bool) value e = cc
  raised_is core a n end go (Some c.Fn) value e = cc

  last_by : (n : ℤ) (s : State) (end : Core) → step p args s ≡ Ends (Returned n) end → EndsHere s → IsLast n s
  last_by n (Returning value [] core) end e h = by_word n value core end e
  last_by n (At (op.Step x ∷ ops) y frames core) end e h = absurd (paid_is core (word_of (operand core.vars x)) n end (At ops y frames) e)
  last_by n (At [] (exit.Fail number) frames core) end e h = absurd (failed_is core (fail_name_of number) n end (At [] (exit.Fail number) frames) e)
  last_by n (At [] (exit.Raised a) frames core) end e h = absurd (raised_is core (pos a) n end (At [] (exit.Raised a) frames) (type_in (slice_get p.graphs core.function) a) (read core.vars a) e)
  last_by n other end e h = absurd (h)

  last_return : (steps : ℕ) (n : ℤ) (s : State) (text : List ℕ) (events : List Event) (m : Meant) → m.ending ≡ Came (Returned n) → (next : Next) → step p args s ≡ next → meant_by steps (follow (run p args 0) text events next) ≡ Some m → IsLast n s
  unfolding run
  last_return steps n s text events m f (Goes t) g e = absurd (cc)
  last_return steps n s text events m f (Puts byte t) g e = absurd (cc)
  last_return steps n s text events m f (Tells event t) g e = absurd (cc)
  last_return steps n s text events m f (Ends outcome core) g e =
      (let a : Came outcome ≡ m.ending = cc in let b : Came outcome ≡ Came (Returned n) = a ∙ f in let c : outcome ≡ Returned n = cc in let d : step p args s ≡ Ends (Returned n) core = g ∙ ap (λ o. Ends o core) c in last_by n s core d (ends_here p args s (Returned n) core d))
  last_return steps n s text events m f (Sticks reason) g e = absurd (let a : StuckFor reason ≡ m.ending = cc in let b : StuckFor reason ≡ Came (Returned n) = a ∙ f in cc)

  pub return_is_last : (steps : ℕ) (n : ℤ) (s : State) (m : Meant) → EndsAt p args steps s m → m.ending ≡ Came (Returned n) → IsLast n s
  return_is_last steps n s m w f =
      last_return steps n s w.text w.events m f (step p args s) refl
      (ap (meant_by steps) (sym (from_last s w.text w.events) ∙ sym (run_on w.taken 1 (suc w.taken) (start p steps) [] [] s w.text w.events w.comes (let e : suc w.taken ≡ w.taken + 1 = omega arith in e))) ∙ w.ends)

  -- ---- events are added

  record Added (events later : List Event) : Type 0 where
    more : List Event
    is : later ≡ events ++ more

  append_twice : (xs ys : List Event) (y : Event) → (xs ++ y ∷ []) ++ ys ≡ xs ++ (y ∷ ys)
  append_twice [] ys y = refl
  append_twice (x ∷ xs) ys y = ap (λ l. x ∷ l) (append_twice xs ys y)

  append_none : (xs : List Event) → xs ≡ xs ++ []
  append_none [] = refl
  append_none (x ∷ xs) = ap (λ l. x ∷ l) (append_none xs)

  adds : (k : ℕ) (s : State) (text : List ℕ) (events : List Event) (t : State) (out : List ℕ) (later : List Event) → run p args k s text events ≡ Unfinished t out later → Added events later
  unfolding run
  adds zero s text events t out later e = record { more = []; is = (let f : later ≡ events = cc in f ∙ append_none events) }
  adds (suc k) s text events t out later e = by (step p args s) (λ s text events e. adds k s text events t out later e) e
    where
      by : (next : Next) → ((s : State) (text : List ℕ) (events : List Event) → run p args k s text events ≡ Unfinished t out later → Added events later) → follow (run p args k) text events next ≡ Unfinished t out later → Added events later
      by (Goes s) go e = go s text events e
      by (Puts byte s) go e = go s (text ++ byte ∷ []) events e
      by (Tells event s) go e = let w : Added (events ++ event ∷ []) later = go s text (events ++ event ∷ []) e in record { more = event ∷ w.more; is = w.is ∙ append_twice events w.more event }
      by (Ends outcome core) go e = absurd (cc)
      by (Sticks reason) go e = absurd (cc)

  -- what has ended has ended
  stays_ended : (j n : ℕ) (s : State) (text : List ℕ) (events : List Event) (ending : Ending) (left : ℕ) (out : List ℕ) (told : List Event) (t : State) (text2 : List ℕ) (events2 : List Event) → run p args j s text events ≡ Ended ending left out told → j ≤ n → run p args n s text events ≡ Unfinished t text2 events2 → ⊥
  unfolding run
  stays_ended zero n s text events ending left out told t text2 events2 e le f = cc
  stays_ended (suc j) zero s text events ending left out told t text2 events2 e le f = omega (arith, le)
  stays_ended (suc j) (suc n) s text events ending left out told t text2 events2 e le f = by (step p args s) (λ s text events e f. stays_ended j n s text events ending left out told t text2 events2 e (omega (arith, le)) f) e f
    where
      by : (next : Next) → ((s : State) (text : List ℕ) (events : List Event) → run p args j s text events ≡ Ended ending left out told → run p args n s text events ≡ Unfinished t text2 events2 → ⊥) → follow (run p args j) text events next ≡ Ended ending left out told
          → follow (run p args n) text events next ≡ Unfinished t text2 events2 → ⊥
      by (Goes s) go e f = go s text events e f
      by (Puts byte s) go e f = go s (text ++ byte ∷ []) events e f
      by (Tells event s) go e f = go s text (events ++ event ∷ []) e f
      by (Ends outcome core) go e f = cc
      by (Sticks reason) go e f = cc

  not_past : (steps k taken : ℕ) (m : Meant) (s : State) (text : List ℕ) (events : List Event) → within p args steps (suc taken) ≡ Some m → run p args k (start p steps) [] [] ≡ Unfinished s text events → k ≤ taken
  not_past steps k taken m s text events e f = ⊎_elim (λ h. h) (λ h. absurd (by h (run p args (suc taken) (start p steps) [] []) refl e)) (let d : (k ≤ taken) ⊎ (taken < k) = grind arith in d)
    where
      by : taken < k → (ran : Ran) → run p args (suc taken) (start p steps) [] [] ≡ ran → meant_by steps ran ≡ Some m → ⊥
      by h (Unfinished t out later) g e = cc
      by h (Ended ending left out later) g e = stays_ended (suc taken) k (start p steps) [] [] ending left out later s text events g (omega (arith, h)) f

  made_both : (xs ys : List Event) → made_in (xs ++ ys) ≡ made_in xs ++ made_in ys
  made_both [] ys = refl
  made_both (Made number kind cells ∷ xs) ys = ap (λ l. (number, kind, cells) ∷ l) (made_both xs ys)
  made_both (Freed number ∷ xs) ys = made_both xs ys

  gone_both : (xs ys : List Event) → gone_in (xs ++ ys) ≡ gone_in xs ++ gone_in ys
  gone_both [] ys = refl
  gone_both (Made number kind cells ∷ xs) ys = gone_both xs ys
  gone_both (Freed number ∷ xs) ys = ap (λ l. number ∷ l) (gone_both xs ys)

  pub adds_to : (steps k : ℕ) (s t : State) (text : List ℕ) (events : List Event) (m : Meant) → run p args k (start p steps) [] [] ≡ Unfinished s text events → EndsAt p args steps t m → AddsTo events m
  adds_to steps k s t text events m e w =
      let le : k ≤ w.taken = not_past steps k w.taken m s text events w.ends e in
      let on : run p args w.taken (start p steps) [] [] ≡ run p args (w.taken - k) s text events = run_on k (w.taken - k) w.taken (start p steps) [] [] s text events e (omega (arith, le)) in
      let more : Added events w.events = adds (w.taken - k) s text events t w.text w.events (sym on ∙ w.comes) in
      let told : (made_in w.events ≡ m.made) × (gone_in w.events ≡ m.gone) = last_told steps t m w in
      record {
        made = made_in more.more;
        gone = gone_in more.more;
        more_made = sym told.0 ∙ ap made_in more.is ∙ made_both events more.more;
        more_gone = sym told.1 ∙ ap gone_in more.is ∙ gone_both events more.more;
      }

  -- ---- the last step

  pub record LastStep (s : State) : Type 0 where
    pub outcome : Outcome
    pub end : Core
    pub is : step p args s ≡ Ends outcome end

  step_of : (steps : ℕ) (s : State) (text : List ℕ) (events : List Event) (m : Meant) → comes m.ending → (next : Next) → step p args s ≡ next → meant_by steps (follow (run p args 0) text events next) ≡ Some m → LastStep s
  unfolding run
  step_of steps s text events m f (Goes t) g e = absurd (cc)
  step_of steps s text events m f (Puts byte t) g e = absurd (cc)
  step_of steps s text events m f (Tells event t) g e = absurd (cc)
  step_of steps s text events m f (Ends outcome core) g e = record { outcome = outcome; end = core; is = g }
  step_of steps s text events m f (Sticks reason) g e = absurd (let a : m.ending ≡ StuckFor reason = cc in subst comes a f)

  pub last_step_is : (steps : ℕ) (s : State) (m : Meant) → EndsAt p args steps s m → comes m.ending → LastStep s
  last_step_is steps s m w f =
      step_of steps s w.text w.events m f (step p args s) refl
      (ap (meant_by steps) (sym (from_last s w.text w.events) ∙ sym (run_on w.taken 1 (suc w.taken) (start p steps) [] [] s w.text w.events w.comes (let e : suc w.taken ≡ w.taken + 1 = omega arith in e))) ∙ w.ends)

  -- a run that comes to a state which halts ends there
  abbrev pub Halts : Next → Type 0
  Halts (Ends outcome core) = Unit {0}
  Halts (Sticks reason) = Unit {0}
  Halts other = ⊥

  halts_so : (steps : ℕ) (text : List ℕ) (events : List Event) (next : Next) → Halts next → (m : Meant) × (meant_by steps (follow (run p args 0) text events next) ≡ Some m)
  halts_so steps text events (Ends outcome core) h = (_, refl)
  halts_so steps text events (Sticks reason) h = (_, refl)
  halts_so steps text events (Goes s) h = absurd h
  halts_so steps text events (Puts byte s) h = absurd h
  halts_so steps text events (Tells event s) h = absurd h

  pub halts_at : (steps k : ℕ) (s : State) (text : List ℕ) (events : List Event) → run p args k (start p steps) [] [] ≡ Unfinished s text events → Halts (step p args s) → (m : Meant) × (within p args steps (suc k) ≡ Some m)
  halts_at steps k s text events e h =
      let w : (m : Meant) × (meant_by steps (follow (run p args 0) text events (step p args s)) ≡ Some m) = halts_so steps text events (step p args s) h in
      (w.0, ap (meant_by steps) (run_on k 1 (suc k) (start p steps) [] [] s text events e (let e : suc k ≡ k + 1 = omega arith in e) ∙ from_last s text events) ∙ w.1)
