-- What a whole run answers.
use Rattle.std.proofs.Common.{◌≡◌, ℕ, ◌+◌, ◌-◌, ◌≤◌, ◌^◌, List, [], ◌∷◌, ◌++◌, map, refl, sym, ap, ◌∙◌, Ok, Err, subst}
use Rattle.std.specs.Prelude.{Option, Result}
use Rattle.std.proofs.lemmas.List.{append-nil, map-id}
use Rattle.rpy_base.specs.Watching.{Seen}
use Rattle.csub_tree.specs.State.{Core, Event, After, Onward, Puts, Told, Over, Stuck}
use Rattle.csub_tree.specs.Machine.{step, start, statement_number}
use Rattle.csub_tree.specs.Meaning.{Ran, Ended, Unfinished, Ending, run, follow, made_in, gone_in, Came, StuckAt, Meant, meant_by}
use Rattle.csub_tree.specs.declared.tree.CFile.{CFile}
use Rattle.csub_runner.specs.declared.run.CRan.{CRan}
use Rattle.csub_runner.specs.declared.run.RunFault.{RunFault}
use Rattle.csub_runner.specs.declared.run.RunFault.TheVariants.{Stuck as FaultStuck, WriteFault, WorkSpent, NoMem}
use Rattle.csub_runner.specs.declared.run.Stop.{Stop}
use Rattle.csub_runner.specs.declared.run.Stop.TheVariants.{Ended as StopEnded, Stuck as StopStuck, Spent}
use Rattle.csub_runner.specs.Run.{told_all, put_by, HasTaken, HasTakenSome, RanTo, Finished, Broken, Stands, PutsSoFar, StandsAfter, EndsSo, Runs, Concludes, IsOwnFault}
use Rattle.csub_runner.proofs.Runs.{run_suc, run_zero, made_grown, gone_grown}
use Rattle.csub_runner.proofs.Output.{taken_more, nothing_of, some_behind}

-- before the first statement
pub nothing_yet : (file : CFile) (args : List (List ℕ)) (steps : ℕ) (t : Option (List ℕ)) (seen : List Seen) → StandsAfter NoMem file args steps t t seen seen
nothing_yet file args steps t seen = (
  [],
  [],
  (0, subst (λ r. Stands r [] []) (sym (run_zero file args (start file steps) [] [])) (refl, refl)),
  nothing_of t [],
  (0, (0, 0, 0), sym (map-id seen)),
)

module _ (file : CFile) (args : List (List ℕ)) (steps : ℕ) where
  stands_by : (k : ℕ) (r : Ran) (text : List ℕ) (events : List Event) → run file args k (start file steps) [] [] ≡ r → Stands r text events → PutsSoFar file args steps text events
  stands_by k r text events e s = (k, subst (λ x. Stands x text events) (sym e) s)

  so_far : (most : ℕ) (stop : Stop) (core : Core) (text : List ℕ) (events : List Event) → RanTo most file args (start file steps) stop core text events → PutsSoFar file args steps text events
  so_far most (StopEnded outcome) core text events r = stands_by r.0 (Ended (Came outcome) core text events) text events r.2 (refl, refl)
  so_far most (StopStuck reason) core text events r = stands_by r.0 (Ended (StuckAt reason (statement_number file.functions core)) core text events) text events r.2 (refl, refl)
  so_far most Spent core text events r = stands_by most (Unfinished core text events) text events r (refl, refl)

  module _ (before : Option (List ℕ)) (seen : List Seen) where
    module _ (stop : Stop) (core : Core) (mid after : Option (List ℕ)) (held : List ℕ) (made gone : ℕ) (now : List Seen)
        (f : Finished (2 ^ 63) file args (start file steps) stop core before mid held made gone seen now) where
      all_taken : HasTaken mid after held → HasTaken before after f.text
      all_taken h = subst (HasTaken before after) (sym f.text_is) (taken_more before mid after f.sent held f.taken h)

      some_taken : HasTakenSome mid after held → HasTakenSome before after f.text
      some_taken h = some_behind before mid after f.sent held f.text f.text_is f.taken h

      taken_whole : HasTaken mid after held → HasTakenSome before after f.text
      taken_whole h = (f.text, [], sym (append-nil f.text), all_taken h)

      flush_by : (fault : RunFault) → IsOwnFault fault → HasTakenSome mid after held → Runs file args steps before after seen now (Err fault)
      flush_by (FaultStuck r n) own h = absurd own
      flush_by WorkSpent own h = absurd own
      flush_by WriteFault own h = (f.text, f.events, so_far (2 ^ 63) stop core f.text f.events f.ran, some_taken h, f.told_is)
      flush_by NoMem own h = (f.text, f.events, so_far (2 ^ 63) stop core f.text f.events f.ran, some_taken h, (0, (0, 0, 0), f.told_is))

    meant_of : Ending → Core → List ℕ → List Event → Meant
    meant_of ending core text events = record { ending = ending; output = text; paid = steps - core.steps; made = made_in events; gone = gone_in events }

    ends_by : (ending given : Ending) (core : Core) (text : List ℕ) (events : List Event) (after : Option (List ℕ)) (now : List Seen) (k : ℕ) → k ≤ 2 ^ 63 → run file args k (start file steps) [] [] ≡ Ended ending core text events
        → ending ≡ given → HasTaken before after text → now ≡ map (told_all events) seen → EndsSo given file args steps before after seen now (meant_of ending core text events)
    unfolding meant_of
    ends_by ending given core text events after now k le ran same h t = ((k, le, ap (meant_by steps) ran), same, h, (events, refl, refl, t, made_grown events seen now t, gone_grown events seen now t))

    conclude_by : (stop : Stop) (core : Core) (mid after : Option (List ℕ)) (held : List ℕ) (made gone : ℕ) (now : List Seen) (result : Result CRan RunFault)
        → Finished (2 ^ 63) file args (start file steps) stop core before mid held made gone seen now → HasTaken mid after held → Concludes file steps core made gone stop result → Runs file args steps before after seen now result
    unfolding meant_of
    conclude_by (StopEnded outcome) core mid after held made gone now (Ok ran) f h c = (
      meant_of (Came outcome) core f.text f.events,
      ends_by (Came outcome) (Came ran.outcome) core f.text f.events after now f.ran.0 f.ran.1 f.ran.2 (ap Came (sym c.0)) (all_taken (StopEnded outcome) core mid after held made gone now f h) f.told_is,
      c.1,
      c.2 ∙ f.made_is,
      c.3 ∙ f.gone_is,
    )
    conclude_by (StopEnded outcome) core mid after held made gone now (Err (FaultStuck r n)) f h c = absurd c
    conclude_by (StopEnded outcome) core mid after held made gone now (Err WriteFault) f h c = absurd c
    conclude_by (StopEnded outcome) core mid after held made gone now (Err WorkSpent) f h c = absurd c
    conclude_by (StopEnded outcome) core mid after held made gone now (Err NoMem) f h c = absurd c
    conclude_by (StopStuck reason) core mid after held made gone now (Ok ran) f h c = absurd c
    conclude_by (StopStuck reason) core mid after held made gone now (Err (FaultStuck r n)) f h c = (
      meant_of (StuckAt reason (statement_number file.functions core)) core f.text f.events,
      ends_by (StuckAt reason (statement_number file.functions core)) (StuckAt r n) core f.text f.events after now f.ran.0 f.ran.1 f.ran.2
          (ap (λ x. StuckAt x (statement_number file.functions core)) (sym c.0) ∙ ap (StuckAt r) (sym c.1)) (all_taken (StopStuck reason) core mid after held made gone now f h) f.told_is,
    )
    conclude_by (StopStuck reason) core mid after held made gone now (Err WriteFault) f h c = absurd c
    conclude_by (StopStuck reason) core mid after held made gone now (Err WorkSpent) f h c = absurd c
    conclude_by (StopStuck reason) core mid after held made gone now (Err NoMem) f h c =
        (f.text, f.events, so_far (2 ^ 63) (StopStuck reason) core f.text f.events f.ran, taken_whole (StopStuck reason) core mid after held made gone now f h, (0, (0, 0, 0), f.told_is))
    conclude_by Spent core mid after held made gone now (Ok ran) f h c = absurd c
    conclude_by Spent core mid after held made gone now (Err (FaultStuck r n)) f h c = absurd c
    conclude_by Spent core mid after held made gone now (Err WriteFault) f h c = absurd c
    conclude_by Spent core mid after held made gone now (Err NoMem) f h c = absurd c
    conclude_by Spent core mid after held made gone now (Err WorkSpent) f h c =
        (ap (meant_by steps) f.ran, (f.text, f.events, so_far (2 ^ 63) Spent core f.text f.events f.ran, taken_whole Spent core mid after held made gone now f h, f.told_is))

    puts_by : (k : ℕ) (core : Core) (text : List ℕ) (events : List Event) (a : After) → step file args core ≡ a → ((m : ℕ) → run file args (k + m) (start file steps) [] [] ≡ run file args m core text events) → PutsSoFar file args steps (text ++ put_by a) events
    puts_by k core text events (Puts b c) e go = stands_by (k + 1) (Unfinished c (text ++ b ∷ []) events) (text ++ b ∷ []) events
        (go 1 ∙ run_suc file args 0 core text events ∙ ap (follow file (run file args 0) core text events) e ∙ run_zero file args c (text ++ b ∷ []) events) (refl, refl)
    puts_by k core text events (Onward c) e go = stands_by (k + 0) (Unfinished core text events) (text ++ []) events (go 0 ∙ run_zero file args core text events) (sym (append-nil text), refl)
    puts_by k core text events (Told d c) e go = stands_by (k + 0) (Unfinished core text events) (text ++ []) events (go 0 ∙ run_zero file args core text events) (sym (append-nil text), refl)
    puts_by k core text events (Over o c) e go = stands_by (k + 0) (Unfinished core text events) (text ++ []) events (go 0 ∙ run_zero file args core text events) (sym (append-nil text), refl)
    puts_by k core text events (Stuck r) e go = stands_by (k + 0) (Unfinished core text events) (text ++ []) events (go 0 ∙ run_zero file args core text events) (sym (append-nil text), refl)

    broken_by : (fault : RunFault) (after : Option (List ℕ)) (now : List Seen) → Broken (2 ^ 63) file args (start file steps) fault before after seen now → IsOwnFault fault → Runs file args steps before after seen now (Err fault)
    broken_by (FaultStuck r n) after now b own = absurd own
    broken_by WorkSpent after now b own = absurd own
    broken_by WriteFault after now b own = (b.text ++ put_by (step file args b.core), b.events, puts_by b.k b.core b.text b.events (step file args b.core) refl b.goes_on, b.some, b.watchers)
    broken_by NoMem after now b own = (b.text ++ put_by (step file args b.core), b.events, puts_by b.k b.core b.text b.events (step file args b.core) refl b.goes_on, b.some, b.watchers)

  pub finished_runs : (begin : Core) (stop : Stop) (core : Core) (before mid after : Option (List ℕ)) (held : List ℕ) (made gone : ℕ) (seen now : List Seen) (result : Result CRan RunFault) → begin ≡ start file steps
      → Finished (2 ^ 63) file args begin stop core before mid held made gone seen now → HasTaken mid after held → Concludes file steps core made gone stop result → Runs file args steps before after seen now result
  finished_runs begin stop core before mid after held made gone seen now result e f h c =
      conclude_by before seen stop core mid after held made gone now result (subst (λ b. Finished (2 ^ 63) file args b stop core before mid held made gone seen now) e f) h c

  pub flush_failed : (begin : Core) (stop : Stop) (core : Core) (before mid after : Option (List ℕ)) (held : List ℕ) (made gone : ℕ) (seen now : List Seen) (fault : RunFault) → begin ≡ start file steps
      → Finished (2 ^ 63) file args begin stop core before mid held made gone seen now → HasTakenSome mid after held → IsOwnFault fault → Runs file args steps before after seen now (Err fault)
  flush_failed begin stop core before mid after held made gone seen now fault e f h own =
      flush_by before seen stop core mid after held made gone now (subst (λ b. Finished (2 ^ 63) file args b stop core before mid held made gone seen now) e f) fault own h

  pub broken_runs : (begin : Core) (fault : RunFault) (before after : Option (List ℕ)) (seen now : List Seen) → begin ≡ start file steps
      → Broken (2 ^ 63) file args begin fault before after seen now → IsOwnFault fault → Runs file args steps before after seen now (Err fault)
  broken_runs begin fault before after seen now e b own = broken_by before seen fault after now (subst (λ x. Broken (2 ^ 63) file args x fault before after seen now) e b) own
