-- From a program with exceptions to its file: what is not gone at the end is held, and where nothing is held all is gone.
use Rattle.std.proofs.Common.{◌≡◌, ◌⊎◌, inl, inr, ⊎_elim, ◌<◌, ◌≤◌, ℕ, ℤ, zero, suc, Bool, true, false, List, [], length, Option, Some, None, refl, sym, ap, ◌∙◌, subst, arith}
use Rattle.std.specs.Prelude.{slice_get, slice_index_or}
use Rattle.rpy_base.specs.declared.outcome.Outcome.TheVariants.{Returned}
use Rattle.csub_tree.specs.Meaning as c
use Rattle.csub_tree.specs.Meaning.{made_in, gone_in}
use Rattle.csub_tree.specs.State.{Null, Static, Block, Core, Event}
use Rattle.csub_tree.specs.Statement.{read}
use Rattle.ll_code.specs.Machine.{start}
use Rattle.ll_code.specs.Meaning as l
use Rattle.ll_code.specs.Meaning.{Unfinished, Came, run}
use Rattle.ll_code.specs.State.{State, At, Returning}
use Rattle.ll_code.specs.Typed.{IsWellTyped}
use Rattle.ll_code.specs.declared.program.LlExit.TheVariants as exit
use Rattle.ll_code.specs.declared.program.LlProgram.{LlProgram}
use Rattle.ll_held.specs.Held.{times, Held, Reaches}
use Rattle.ll_held.specs.Quiet.{StaticsAreApart}
use Rattle.ll_held.specs.Roots.{roots, core_of}
use Rattle.ll_held.proofs.Keeping.{held_on}
use Rattle.exc_transform.specs.Explicit.{graphs_calm}
use Rattle.exc_transform.specs.Pieces.{explicit}
use Rattle.exc_transform.proofs.Without.{explicit_same}
use Rattle.exc_laws.specs.Alike.{Allows}
use Rattle.exc_laws.proofs.Roots.{stands_held}
use Rattle.exc_laws.proofs.Holds.{beside_blocks, same_holds}
use Rattle.exc_laws.proofs.Whole.{means_forth, means_back}
use Rattle.exc_laws.proofs.Without.{run_same}
use Rattle.exc_ready.proofs.Leading.{state_clear}
use Rattle.exc_ready.proofs.Whole.{allowed}
use Rattle.genc_laws.specs.Alike.{SameMeant, IsStuckAtLink, SameEnding}
use Rattle.genc_laws.proofs.Whole.{ends_alike}
use Rattle.refcount_transform.specs.Counted.{counted}
use Rattle.refcount_typed.proofs.Whole.{counted_typed}
use Rattle.refcount_laws.specs.Means.{SameMeaning}
use Rattle.refcount_ready.proofs.Composed.{means_the_same}
use Rattle.ll_compiled.specs.Compiled.{compiled}
use Rattle.exc_counted.specs.Along.{HasFile, RunsWell}
use Rattle.exc_counted.proofs.Standing.{ComesFor, comes_along, state_apart}
use Rattle.ll_events.specs.Told.{often, TellOf, EndsAt, IsLast}
use Rattle.ll_events.proofs.Telling.{run_ends, ending_tells, last_told, return_is_last}
use Rattle.refcount_exact.proofs.Endings.{still_held, none_held, returned_none, raised_none}
use Rattle.refcount_exact.specs.Exact.{IsExact, ComesExact}
use Rattle.refcount_exact.specs.Payments.{Pays, StandsExact}
use Rattle.refcount_exact.proofs.Payments.{payments_counted}
use Rattle.refcount_exact.proofs.Counts.{comes_exact}
use Rattle.exc_exact.specs.Ends.{FileHolds, FileEmpty, CountsExactly}

-- no block goes twice
tells_once : (blocks : List (Option Block)) (made : List (ℕ × ℕ × ℕ)) (gone : List ℕ) → TellOf blocks made gone → (b : ℕ) → often b gone ≤ 1
tells_once blocks made gone w b = ⊎_elim (λ le. omega (arith, w.never b le)) (λ lt. by lt (slice_index_or blocks b None) refl) (let d : (length blocks ≤ b) ⊎ (b < length blocks) = grind arith in d)
  where
    by : b < length blocks → (o : Option Block) → slice_index_or blocks b None ≡ o → often b gone ≤ 1
    by lt None e = omega (arith, w.once b lt e)
    by lt (Some block) e = omega (arith, w.there b block e)

module _ (p : LlProgram) (has : HasFile p) (args : List (List ℕ)) (steps : ℕ) (well : RunsWell p args steps) where
  allows : Allows p args steps
  allows = allowed p has.typed has.raw has.raisable args steps well.classed

  same_run : graphs_calm p.graphs ≡ true → (k : ℕ) → run (explicit p) args k (start (explicit p) steps) [] [] ≡ run p args k (start p steps) [] []
  same_run calm k = ap (λ q. run q args k (start q steps) [] []) (explicit_same p calm) ∙ run_same p args k (start p steps) [] []

  -- what the explicit program holds where it stands for this state, this holds
  record Stood (s : State) (text : List ℕ) (events : List Event) : Type 0 where
    taken : ℕ
    state : State
    comes : run (explicit p) args taken (start (explicit p) steps) [] [] ≡ Unfinished state text events
    less : (b : ℕ) → Held (core_of state).blocks (roots (explicit p) state) b → Held (core_of s).blocks (roots p s) b

  stood : (k : ℕ) (s : State) (text : List ℕ) (events : List Event) → run p args k (start p steps) [] [] ≡ Unfinished s text events → Stood s text events
  stood k s text events e = by (graphs_calm p.graphs) refl
    where
      from : (raises : graphs_calm p.graphs ≡ false) → ComesFor p has.typed has.raw raises allows.closed args (start (explicit p) steps) [] [] s text events → Stood s text events
      from raises (j, x, f, stands) =
          let same = beside_blocks p has.typed has.raw raises allows.closed args s x stands in
          let apart : StaticsAreApart (core_of x) = state_apart (explicit p) has.can.counts args steps well.small.blocks j x text events f in
          record {
            taken = j;
            state = x;
            comes = f;
            less = λ b h. held_on (core_of s).blocks (roots (explicit p) x) (roots p s) (stands_held p s x stands (λ g block is. apart g block (ap (λ l. slice_get l g) same.1 ∙ is))) b (subst (λ blocks. Held blocks (roots (explicit p) x) b) same.0 h);
          }

      by : (b : Bool) → graphs_calm p.graphs ≡ b → Stood s text events
      by true calm = record { taken = k; state = s; comes = same_run calm k ∙ e; less = (same_holds p (explicit_same p calm) s).held }
      by false raises = from raises (comes_along p has.typed has.raw raises allows.closed args steps allows.ready k s text events e)

  pub counts_exactly : (k : ℕ) (s : State) (text : List ℕ) (events : List Event) → run p args k (start p steps) [] [] ≡ Unfinished s text events → CountsExactly p args steps text
  counts_exactly k s text events e = by (stood k s text events e)
    where
      from : (j : ℕ) (x : State) → ComesExact (explicit p) args steps j x text → CountsExactly p args steps text
      from j x w = record { taken = w.along.taken; state = w.along.state; events = w.along.events; runs = w.along.runs; exact = w.exact }

      by : Stood s text events → CountsExactly p args steps text
      by w = from w.taken w.state (comes_exact (explicit p) has.can.counts args steps well.small w.taken w.state text events w.comes)

  pub payments_exact : ((m : l.Meant) → l.LMeans p args steps m → l.comes m.ending) → (j : ℕ) (t : State) (text : List ℕ) (events : List Event) → run (counted (explicit p)) args j (start (counted (explicit p)) steps) [] [] ≡ Unfinished t text events → Pays t → IsExact t
  payments_exact free j t text events e pays = by (payments_counted (explicit p) has.can.counts args steps well.small (λ m h. free m (means_back p has.typed has.raw args steps allows m h)) j t text events e pays)
    where
      by : StandsExact (explicit p) args steps t → IsExact t
      by w = w.exact

  -- ---- the end

  pub file_holds : (s : State) (m : l.Meant) → EndsAt p args steps s m → l.comes m.ending → FileHolds p args steps s m
  file_holds s m w ends = on (ends_alike (counted (explicit p)) typed refl args steps same.other same.means)
    where
      same : SameMeaning (explicit p) args steps m
      same = means_the_same (explicit p) has.can.counts args steps well.small m (means_forth p has.typed has.raw args steps allows m (suc w.taken, w.ends)) ends

      typed : IsWellTyped (counted (explicit p))
      typed = counted_typed (explicit p) has.can.counts.typed has.can.explicit has.can.counts.leads has.can.counts.numbers

      x : Stood s w.text w.events
      x = stood w.taken s w.text w.events w.comes

      held : (b : ℕ) → b < length same.other.made → often b same.other.gone ≡ 0 → Held (core_of s).blocks (roots p s) b
      held b lt e = x.less b (still_held (explicit p) has.can.counts args steps well.small x.taken x.state w.text w.events m same x.comes (last_told p args steps s m w).0 b lt e)

      last : (t : State) × EndsAt (counted (explicit p)) args steps t same.other
      last = run_ends (counted (explicit p)) args steps same.other same.means

      once : (b : ℕ) → often b same.other.gone ≤ 1
      once b = tells_once (core_of last.0).blocks same.other.made same.other.gone (ending_tells (counted (explicit p)) args steps last.0 same.other last.1) b

      on : (((file : c.Meant) × c.CMeans (compiled (explicit p)) args steps file × SameMeant same.other file) ⊎ IsStuckAtLink (counted (explicit p)) args steps same.other) → FileHolds p args steps s m
      on (inl (file, means, f)) = record {
        file = file;
        means = means;
        alike = record {
          ending = subst (λ e. SameEnding e file.ending) same.ending f.ending;
          output = f.output ∙ same.output;
          paid = f.paid (subst l.comes (sym same.ending) ends) ∙ same.paid;
          made = f.made ∙ same.made;
        };
        once = λ b. subst (λ l. often b l ≤ 1) (sym f.gone) (once b);
        held = λ b lt e. held b (subst (λ l. b < length l) f.made lt) (ap (often b) (sym f.gone) ∙ e);
      }
      on (inr stuck) = absurd (subst l.comes (sym same.ending ∙ stuck.ending) ends)

  -- ---- nothing is held

  file_empty : (s : State) (m : l.Meant) → EndsAt p args steps s m → l.comes m.ending → ((b : ℕ) → times b (roots p s) ≡ 0) → ((b : ℕ) → Reaches (core_of s).blocks b b → ⊥) → FileEmpty p args steps m
  file_empty s m w ends empty apart = by (file_holds s m w ends)
    where
      by : FileHolds p args steps s m → FileEmpty p args steps m
      by x = record { file = x.file; means = x.means; alike = x.alike; gone = λ b lt. one b lt (often b x.file.gone) refl }
        where
          one : (b : ℕ) → b < length x.file.made → (n : ℕ) → often b x.file.gone ≡ n → often b x.file.gone ≡ 1
          one b lt zero e = absurd (none_held (core_of s).blocks (roots p s) empty apart b (x.held b lt e))
          one b lt (suc n) e = let u : often b x.file.gone ≤ 1 = x.once b in omega (arith, e, u)

  clear_at : (s : State) (m : l.Meant) → EndsAt p args steps s m → ((core_of s).exc_type ≡ Null) × ((core_of s).exc_value ≡ Null)
  clear_at s m w = state_clear p has.typed has.raw has.raisable args steps w.taken s w.text w.events w.comes

  last_empty : (n : ℤ) (s : State) (m : l.Meant) → EndsAt p args steps s m → l.comes m.ending → IsLast n s → ((core_of s).exc_type ≡ Null) × ((core_of s).exc_value ≡ Null) → ((b : ℕ) → Reaches (core_of s).blocks b b → ⊥) → FileEmpty p args steps m
  last_empty n (Returning value [] core) m w ends e clear apart = file_empty (Returning value [] core) m w ends (returned_none p n value core e clear.0 clear.1) apart
  last_empty n other m w ends e clear apart = absurd (e)

  pub returned_empty : (n : ℤ) (s : State) (m : l.Meant) → EndsAt p args steps s m → m.ending ≡ Came (Returned n) → ((b : ℕ) → Reaches (core_of s).blocks b b → ⊥) → FileEmpty p args steps m
  returned_empty n s m w e apart = last_empty n s m w (subst l.comes (sym e) tt) (return_is_last p args steps n s m w e) (clear_at s m w) apart

  pub raised_empty : (a g : ℕ) (core : Core) (m : l.Meant) → EndsAt p args steps (At [] (exit.Raised a) [] core) m → l.comes m.ending → read core.vars a ≡ Static g → ((b : ℕ) → Reaches core.blocks b b → ⊥) → FileEmpty p args steps m
  raised_empty a g core m w ends e apart = let clear = clear_at (At [] (exit.Raised a) [] core) m w in file_empty (At [] (exit.Raised a) [] core) m w ends (raised_none p a g core e clear.0 clear.1) apart
