-- The run of a counted program, step by step of its program.
use Rattle.std.proofs.Common.{◌≡◌, ◌≤◌, arith, true, ℕ, zero, suc, ◌+◌, List, [], ◌∷◌, ◌++◌, map, Option, refl, sym, ap, ◌∙◌, subst}
use Rattle.csub_tree.specs.State.{Block, Event, Made, Freed}
use Rattle.csub_tree.specs.Meaning.{made_in}
use Rattle.ll_code.specs.State.{Frame, State, Next, Goes, Puts, Tells, Ends, Sticks}
use Rattle.ll_code.specs.Machine.{step}
use Rattle.ll_code.specs.Meaning.{Ran, Ended, Unfinished, Came, StuckFor, run, follow}
use Rattle.ll_code.specs.Typed.{IsWellTyped}
use Rattle.ll_code.specs.declared.program.LlProgram.{LlProgram}
use Rattle.ll_held.specs.Quiet.{ReadsInputs}
use Rattle.refcount_transform.specs.Counted.{counted}
use Rattle.refcount_laws.specs.Made.{leads_to_roots}
use Rattle.refcount_laws.specs.Ghost.{Ghost}
use Rattle.refcount_laws.specs.Runs.{Leads}
use Rattle.refcount_laws.specs.Whole.{Call, StandsFor, NextStands}
use Rattle.refcount_laws.specs.Run.{ReadyNext, ReadyAlong, wider, RunStands}
use Rattle.refcount_laws.proofs.Steps.{one_more}
use Rattle.refcount_laws.proofs.Stepping.{step_stands}

made_both : (events others : List Event) → made_in (events ++ others) ≡ made_in events ++ made_in others
made_both [] others = refl
made_both (Made number kind cells ∷ events) others = ap (λ l. (number, kind, cells) ∷ l) (made_both events others)
made_both (Freed number ∷ events) others = made_both events others

none_freed : (gone : List ℕ) → made_in (map Freed gone) ≡ []
none_freed [] = refl
none_freed (number ∷ gone) = none_freed gone

none_right : {A : Type 0} (xs : List A) → xs ++ [] ≡ xs
none_right [] = refl
none_right (x ∷ xs) = ap (λ l. x ∷ l) (none_right xs)

map_one : {A B : Type 0} (f : A → B) (xs ys : List A) → map f (xs ++ ys) ≡ map f xs ++ map f ys
map_one f [] ys = refl
map_one f (x ∷ xs) ys = ap (λ l. f x ∷ l) (map_one f xs ys)

-- blocks that are freed on the way make none
still_made : (events told : List Event) (gone : List ℕ) → made_in events ≡ map wider (made_in told) → made_in (events ++ map Freed gone) ≡ map wider (made_in told)
still_made events told gone e = made_both events (map Freed gone) ∙ ap (λ l. made_in events ++ l) (none_freed gone) ∙ none_right (made_in events) ∙ e

more_made : (events told : List Event) (number kind cells : ℕ) → made_in events ≡ map wider (made_in told) → made_in (events ++ Made number kind (cells + 2) ∷ []) ≡ map wider (made_in (told ++ Made number kind cells ∷ []))
more_made events told number kind cells e =
    made_both events (Made number kind (cells + 2) ∷ []) ∙ ap (λ l. l ++ (number, kind, cells + 2) ∷ []) e ∙ sym (ap (map wider) (made_both told (Made number kind cells ∷ [])) ∙ map_one wider (made_in told) ((number, kind, cells) ∷ []))

module _ (p : LlProgram) (args : List (List ℕ)) where
  q : LlProgram
  q = counted p

  -- a run that is led to by another
  later_stands : (k i : ℕ) (t u : State) (text : List ℕ) (events : List Event) (l : Leads (counted p) args t u) → i ≤ k + l.count → (ran : Ran) → RunStands p args k u text (events ++ map Freed l.gone) ran → RunStands p args i t text events ran
  later_stands k i t u text events l le (Unfinished s out told) (j, t', events', most, is, made, calls, others, g, h, stands) = (j + l.count, t', events', omega (arith, le, most), l.by j text events ∙ is, made, calls, others, g, h, stands)
  later_stands k i t u text events l le (Ended (Came outcome) left out told) (j, events', is, rest) = (j + l.count, events', l.by j text events ∙ is, rest)
  later_stands k i t u text events l le (Ended (StuckFor reason) left out told) x = tt

  -- a run after a step that puts or tells
  step_on : (k : ℕ) (t u : State) (text text2 : List ℕ) (events events2 : List Event) → ((j : ℕ) → run (counted p) args (suc j) t text events ≡ run (counted p) args j u text2 events2) → (ran : Ran) → RunStands p args k u text2 events2 ran → RunStands p args (suc k) t text events ran
  step_on k t u text text2 events events2 by (Unfinished s out told) (j, t', events', most, is, made, calls, others, g, h, stands) = (suc j, t', events', omega (arith, most), by j ∙ is, made, calls, others, g, h, stands)
  step_on k t u text text2 events events2 by (Ended (Came outcome) left out told) (j, events', is, rest) = (suc j, events', by j ∙ is, rest)
  step_on k t u text text2 events events2 by (Ended (StuckFor reason) left out told) x = tt

module _ (p : LlProgram) (ok : IsWellTyped p) (leads : leads_to_roots p ≡ true) (closed : ReadsInputs p) (args : List (List ℕ)) where
  abbrev Stood : ℕ → Type 0
  Stood k = (calls : List Call) (others : List Frame) (s t : State) (g : Ghost) (h : List (Option Block)) (text : List ℕ) (events told : List Event) → StandsFor p calls others s t g h → ReadyAlong p args k s → made_in events ≡ map wider (made_in told)
      → RunStands p args k t text events (run p args k s text told)

  next_stands : (k : ℕ) → Stood k → (t : State) (text : List ℕ) (events told : List Event) (next : Next) → NextStands p args t next → ReadyNext (ReadyAlong p args k) next → made_in events ≡ map wider (made_in told) → RunStands p args (suc k) t text events (follow (run p args k) text told next)
  next_stands k go t text events told (Goes s) (x, moves) ready made =
      later_stands p args k (suc k) t x.state text events x.leads (omega (arith, moves)) (run p args k s text told) (go x.calls x.others s x.state x.g x.h text (events ++ map Freed x.leads.gone) told x.stands ready (still_made events told x.leads.gone made))
  next_stands k go t text events told (Puts byte s) (u, later, l, moves, x) ready made =
      let events1 : List Event = events ++ map Freed l.gone in
      let out : List ℕ = text ++ byte ∷ [] in
      later_stands p args (suc k) (suc k) t u text events l (omega arith) (run p args k s out told)
      (step_on p args k u later text out events1 events1 (λ j. one_more (counted p) args j u text events1 ∙ ap (follow (run (counted p) args j) text events1) moves) (run p args k s out told)
      (later_stands p args k k later x.state out events1 x.leads (omega arith) (run p args k s out told)
      (go x.calls x.others s x.state x.g x.h out (events1 ++ map Freed x.leads.gone) told x.stands ready (still_made events1 told x.leads.gone (still_made events told l.gone made)))))
  next_stands k go t text events told (Tells (Made number kind cells) s) (u, later, l, moves, x) ready made =
      let events1 : List Event = events ++ map Freed l.gone in
      let events2 : List Event = events1 ++ Made number kind (cells + 2) ∷ [] in
      let told2 : List Event = told ++ Made number kind cells ∷ [] in
      later_stands p args (suc k) (suc k) t u text events l (omega arith) (run p args k s text told2)
      (step_on p args k u later text text events1 events2 (λ j. one_more (counted p) args j u text events1 ∙ ap (follow (run (counted p) args j) text events1) moves) (run p args k s text told2)
      (later_stands p args k k later x.state text events2 x.leads (omega arith) (run p args k s text told2)
      (go x.calls x.others s x.state x.g x.h text (events2 ++ map Freed x.leads.gone) told2 x.stands ready (still_made events2 told2 x.leads.gone (more_made events1 told number kind cells (still_made events told l.gone made))))))
  next_stands k go t text events told (Tells (Freed number) s) x ready made = absurd x
  next_stands k go t text events told (Ends outcome core) (u, end, l, moves, same) ready made =
      let events1 : List Event = events ++ map Freed l.gone in
      (1 + l.count, events1, l.by 1 text events ∙ one_more (counted p) args 0 u text events1 ∙ ap (follow (run (counted p) args 0) text events1) moves ∙ ap (λ n. Ended (Came outcome) n text events1) same, still_made events told l.gone made)
  next_stands k go t text events told (Sticks reason) x ready made = tt

  unfold_run : (k : ℕ) (s : State) (text : List ℕ) (told : List Event) → follow (run p args k) text told (step p args s) ≡ run p args (suc k) s text told
  unfolding run
  unfold_run k s text told = refl

  pub run_stands : (k : ℕ) → Stood k
  unfolding run ReadyAlong
  run_stands zero calls others s t g h text events told stands ready made = (0, t, events, omega arith, refl, made, calls, others, g, h, stands)
  run_stands (suc k) calls others s t g h text events told stands ready made =
      subst (RunStands p args (suc k) t text events) (unfold_run k s text told) (next_stands k (run_stands k) t text events told (step p args s) (step_stands p ok leads closed args calls others s t g h stands (ready.0 calls others t g h stands)) ready.1 made)
