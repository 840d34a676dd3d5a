-- A counted program means what its program does, where each state of the run is ready.
use Rattle.std.proofs.Common.{◌≡◌, ◌≤◌, ℕ, zero, suc, ◌+◌, ◌-◌, true, List, [], ◌∷◌, ◌++◌, Option, Some, None, refl, sym, ap, ◌∙◌, subst, arith}
use Rattle.csub_tree.specs.Meaning.{made_in, gone_in}
use Rattle.csub_tree.specs.State.{Event}
use Rattle.ll_code.specs.State.{State, Next, Goes, Puts, Tells, Ends, Sticks}
use Rattle.ll_code.specs.Machine.{start, step}
use Rattle.ll_code.specs.Meaning.{Ran, Ending, Ended, Unfinished, Came, StuckFor, Meant, LMeans, RunsOn, meant_by, within, run, follow, comes}
use Rattle.ll_code.specs.Typed.{IsWellTyped}
use Rattle.ll_code.specs.declared.program.LlProgram.{LlProgram}
use Rattle.ll_held.specs.Quiet.{ReadsInputs}
use Rattle.refcount_transform.specs.Counted.{counted}
use Rattle.refcount_laws.specs.Made.{leads_to_roots}
use Rattle.refcount_laws.specs.Run.{ReadyAlong, RunStands}
use Rattle.refcount_laws.specs.Means.{SameMeaning, Starts}
use Rattle.refcount_laws.proofs.Running.{run_stands}
use Rattle.refcount_laws.proofs.Starting.{ghost, starts_stand}

module _ (q : LlProgram) (args : List (List ℕ)) where
  -- a run that has ended ends so with more steps of the machine
  longer : (m i : ℕ) (s : State) (text : List ℕ) (events : List Event) (ending : Ending) (left : ℕ) (out : List ℕ) (told : List Event) → run q args m s text events ≡ Ended ending left out told → run q args (m + i) s text events ≡ Ended ending left out told
  unfolding run
  longer zero i s text events ending left out told e = absurd (cc)
  longer (suc m) i s text events ending left out told e =
      let f : suc m + i ≡ suc (m + i) = omega arith in ap (λ k. run q args k s text events) f ∙ after (step q args s) (λ s text events. longer m i s text events ending left out told) e
    where
      after : (next : Next) → ((s : State) (text : List ℕ) (events : List Event) → run q args m s text events ≡ Ended ending left out told → run q args (m + i) s text events ≡ Ended ending left out told)
          → follow (run q args m) text events next ≡ Ended ending left out told → follow (run q args (m + i)) text events next ≡ Ended ending left out told
      after (Goes t) go e = go t text events e
      after (Puts byte t) go e = go t (text ++ byte ∷ []) events e
      after (Tells event t) go e = go t text (events ++ event ∷ []) e
      after (Ends outcome core) go e = e
      after (Sticks reason) go e = e

  still : (steps k i : ℕ) (m : Meant) → within q args steps k ≡ Some m → within q args steps (k + i) ≡ Some m
  still steps k i m e = by (run q args k (start q steps) [] []) refl e
    where
      by : (r : Ran) → run q args k (start q steps) [] [] ≡ r → meant_by steps r ≡ Some m → within q args steps (k + i) ≡ Some m
      by (Unfinished s text events) is e = absurd (cc)
      by (Ended ending left out told) is e = ap (meant_by steps) (longer k i (start q steps) [] [] ending left out told is) ∙ e

  one_meaning : (steps : ℕ) (a b : Meant) → LMeans q args steps a → LMeans q args steps b → a ≡ b
  one_meaning steps a b (j, d) (k, e) =
      let f : j + k ≡ k + j = omega arith in
      let g : Some a ≡ Some b = sym (still steps j k a d) ∙ ap (within q args steps) f ∙ still steps k j b e in cc

pub starts_so : (p : LlProgram) → IsWellTyped p → (steps : ℕ) → Starts p steps
starts_so p w steps = record { g = ghost p w steps; stands = starts_stand p w steps }

pub means_so : (p : LlProgram) → IsWellTyped p → leads_to_roots p ≡ true → ReadsInputs p → (args : List (List ℕ)) (steps k : ℕ) (m : Meant) → ReadyAlong p args k (start p steps) → within p args steps k ≡ Some m → comes m.ending → SameMeaning p args steps m
means_so p w leads closed args steps k m ready e c =
    by (run p args k (start p steps) [] []) (run_stands p w leads closed args k [] [] (start p steps) (start (counted p) steps) (ghost p w steps) [] [] [] [] (starts_stand p w steps) ready refl) e c
  where
    by : (r : Ran) → RunStands p args k (start (counted p) steps) [] [] r → meant_by steps r ≡ Some m → comes m.ending → SameMeaning p args steps m
    by (Unfinished s text events) x e c = absurd (cc)
    by (Ended (Came outcome) left text told) (j, events, is, made) e c =
        let f : record { ending = Came outcome; output = text; paid = steps - left; made = made_in told; gone = gone_in told } ≡ m = cc in
        subst (λ m. SameMeaning p args steps m) f (record {
          other = record { ending = Came outcome; output = text; paid = steps - left; made = made_in events; gone = gone_in events };
          means = (j, ap (meant_by steps) is);
          ending = refl;
          output = refl;
          paid = refl;
          made = made;
          only = λ last l. one_meaning (counted p) args steps last (record { ending = Came outcome; output = text; paid = steps - left; made = made_in events; gone = gone_in events }) l (j, ap (meant_by steps) is);
        })
    by (Ended (StuckFor reason) left text told) x e c =
        let f : record { ending = StuckFor reason; output = text; paid = steps - left; made = made_in told; gone = gone_in told } ≡ m = cc in
        absurd (subst (λ m. comes m.ending) (sym f) c)

module _ (p : LlProgram) (w : IsWellTyped p) (leads : leads_to_roots p ≡ true) (closed : ReadsInputs p) (args : List (List ℕ)) (steps : ℕ) (ready : (k : ℕ) → ReadyAlong p args k (start p steps)) where
  abbrev ran_to : ℕ → Ran
  ran_to k = run p args k (start p steps) [] []

  stood : (k : ℕ) → RunStands p args k (start (counted p) steps) [] [] (ran_to k)
  stood k = run_stands p w leads closed args k [] [] (start p steps) (start (counted p) steps) (ghost p w steps) [] [] [] [] (starts_stand p w steps) (ready k) refl

  -- a run that has not come to an ending later has come to none before
  not_before : (j k : ℕ) (t : State) (text : List ℕ) (events : List Event) (m : Meant) → k ≤ j → run (counted p) args j (start (counted p) steps) [] [] ≡ Unfinished t text events → within (counted p) args steps k ≡ Some m → ⊥
  not_before j k t text events m le is e =
      let i : (n : ℕ) × (j ≡ k + n) = difference j k le in
      let later : within (counted p) args steps (k + i.0) ≡ Some m = still (counted p) args steps k i.0 m e in
      absurd (let z : Some m ≡ None = sym later ∙ ap (within (counted p) args steps) (sym i.1) ∙ ap (meant_by steps) is in cc)
    where
      difference : (j k : ℕ) → k ≤ j → (n : ℕ) × (j ≡ k + n)
      difference j zero le = (j, let z : j ≡ 0 + j = omega arith in z)
      difference zero (suc k) le = absurd (omega (arith, le))
      difference (suc j) (suc k) le = (let d : (n : ℕ) × (j ≡ k + n) = difference j k (omega (arith, le)) in (d.0, let z : suc j ≡ suc k + d.0 = omega (arith, d.1) in z))

  pub runs_on_so : ((k : ℕ) → RunsOn k p args steps) → (k : ℕ) → RunsOn k (counted p) args steps
  runs_on_so on k = by (ran_to k) (stood k) (on k) (within (counted p) args steps k) refl
    where
      by : (r : Ran) → RunStands p args k (start (counted p) steps) [] [] r → meant_by steps r ≡ None → (o : Option Meant) → within (counted p) args steps k ≡ o → within (counted p) args steps k ≡ None
      by (Unfinished s text told) (j, t, events, most, is, made, calls, others, g, h, stands) e None f = f
      by (Unfinished s text told) (j, t, events, most, is, made, calls, others, g, h, stands) e (Some m) f = absurd (not_before j k t text events m most is f)
      by (Ended ending left text told) x e o f = absurd (cc)

  pub ends_so : ((m : Meant) → LMeans p args steps m → comes m.ending) → (last : Meant) → LMeans (counted p) args steps last → (m : Meant) × LMeans p args steps m × SameMeaning p args steps m
  ends_so comes_out last (k, e) = by (ran_to (suc k)) refl (stood (suc k))
    where
      by : (r : Ran) → ran_to (suc k) ≡ r → RunStands p args (suc k) (start (counted p) steps) [] [] r → (m : Meant) × LMeans p args steps m × SameMeaning p args steps m
      by (Unfinished s text told) is (j, t, events, most, ran, made, calls, others, g, h, stands) = absurd (not_before j k t text events last (omega (arith, most)) ran e)
      by (Ended ending left text told) is x =
          let m : Meant = record { ending = ending; output = text; paid = steps - left; made = made_in told; gone = gone_in told } in
          let f : within p args steps (suc k) ≡ Some m = ap (meant_by steps) is in
          (m, (suc k, f), means_so p w leads closed args steps (suc k) m (ready (suc k)) f (comes_out m (suc k, f)))
