-- What the code's answer tells of a statement.
use Rattle.std.proofs.Common.{◌≡◌, ℕ, ◌+◌, ◌<◌, ◌^◌, ◌-◌, min, List, [], ◌∷◌, length, map, get_or, refl, sym, ap, ◌∙◌, None, subst, arith}
use Rattle.std.specs.Prelude.{Option, IsSome}
use Rattle.std.specs.List.{All}
use Rattle.rpy_base.specs.Watching.{Seen, CanMake, CanGo, after_made, after_gone}
use Rattle.rpy_base.specs.declared.outcome.Outcome.{Outcome}
use Rattle.csub_tree.specs.State.{Core, Event, Made, Freed, After, Onward, Puts, Told, Over, Stuck}
use Rattle.csub_tree.specs.declared.stuck.StuckReason.{StuckReason}
use Rattle.csub_runner.specs.declared.machine.Next.{Next}
use Rattle.csub_runner.specs.declared.machine.Next.TheVariants.{Goes, Puts as NextPuts, Made as NextMade, Freed as NextFreed, Ends, Stuck as NextStuck}
use Rattle.csub_runner.specs.declared.run.RunFault.{RunFault}
use Rattle.csub_runner.specs.declared.run.RunFault.TheVariants.{Stuck as FaultStuck, WriteFault, WorkSpent, NoMem}
use Rattle.csub_runner.specs.declared.run.Stop.{Stop}
use Rattle.csub_runner.specs.declared.run.Stop.TheVariants.{Ended as StopEnded, Stuck as StopStuck}
use Rattle.csub_runner.specs.Core.{IsStep, named}
use Rattle.csub_tree.specs.Meaning.{made_in, gone_in}
use Rattle.csub_runner.specs.Run.{GoesOn, Stops, Sends, SomeTold, WatchersAfter, Advances, put_by, told_by, told_all}
use Rattle.csub_runner.proofs.Output.{sends_nothing}
use Rattle.std.proofs.lemmas.List.{map-id}
use Rattle.csub_runner.specs.Synced.{Synced}
use Rattle.csub_runner.proofs.Law.{Good}
use Rattle.csub_runner.proofs.InStep.{make_ready, free_ready}

-- the run goes on, and this was put and told
pub record Went (after : After) (new : Core) (put : List ℕ) (events : List Event) : Type 0 where
  pub goes : GoesOn after new
  pub put_is : put_by after ≡ put
  pub told_is : told_by after ≡ events

pub record Stood (old : Core) (after : After) (stop : Stop) (new : Core) : Type 0 where
  pub stops : Stops old after stop new
  pub put_is : put_by after ≡ []
  pub told_is : told_by after ≡ []

event_same : (e f : Event) → ◌≡◌ {A = Next} (named e) (named f) → e ≡ f
event_same (Made n k c) (Made m j d) e = let a : n ≡ m = cc in let b : k ≡ j = cc in let d2 : c ≡ d = cc in ap (λ x. Made x k c) a ∙ ap (λ x. Made m x c) b ∙ ap (Made m j) d2
event_same (Made n k c) (Freed m) e = absurd (cc)
event_same (Freed n) (Made m j d) e = absurd (cc)
event_same (Freed n) (Freed m) e = let a : n ≡ m = cc in ap Freed a

module _ (old new : Core) where
  pub goes_is : (after : After) → IsStep old after Goes new → Went after new [] []
  goes_is (Onward core) h = record { goes = h.1; put_is = refl; told_is = refl }
  goes_is (Puts b core) h = absurd (cc)
  goes_is (Told (Made n k c) core) h = absurd (cc)
  goes_is (Told (Freed n) core) h = absurd (cc)
  goes_is (Over o core) h = absurd (cc)
  goes_is (Stuck r) h = absurd (cc)

  pub puts_is : (after : After) (byte : ℕ) → IsStep old after (NextPuts byte) new → Went after new (byte ∷ []) []
  puts_is (Onward core) byte h = absurd (cc)
  puts_is (Puts b core) byte h = let e : b ≡ byte = cc in record { goes = h.1; put_is = ap (λ x. x ∷ []) e; told_is = refl }
  puts_is (Told (Made n k c) core) byte h = absurd (cc)
  puts_is (Told (Freed n) core) byte h = absurd (cc)
  puts_is (Over o core) byte h = absurd (cc)
  puts_is (Stuck r) byte h = absurd (cc)

  pub told_is : (after : After) (event : Event) → IsStep old after (named event) new → Went after new [] (event ∷ [])
  told_is (Onward core) (Made n k c) h = absurd (cc)
  told_is (Onward core) (Freed n) h = absurd (cc)
  told_is (Puts b core) (Made n k c) h = absurd (cc)
  told_is (Puts b core) (Freed n) h = absurd (cc)
  told_is (Told e core) event h = record { goes = h.1; put_is = refl; told_is = ap (λ x. x ∷ []) (event_same e event (sym h.0)) }
  told_is (Over o core) (Made n k c) h = absurd (cc)
  told_is (Over o core) (Freed n) h = absurd (cc)
  told_is (Stuck r) (Made n k c) h = absurd (cc)
  told_is (Stuck r) (Freed n) h = absurd (cc)

  pub ends_is : (after : After) (outcome : Outcome) → IsStep old after (Ends outcome) new → Stood old after (StopEnded outcome) new
  ends_is (Onward core) outcome h = absurd (cc)
  ends_is (Puts b core) outcome h = absurd (cc)
  ends_is (Told (Made n k c) core) outcome h = absurd (cc)
  ends_is (Told (Freed n) core) outcome h = absurd (cc)
  ends_is (Over o core) outcome h = let e : outcome ≡ o = cc in record { stops = (ap StopEnded e, h.1); put_is = refl; told_is = refl }
  ends_is (Stuck r) outcome h = absurd (cc)

  pub stuck_is : (after : After) (reason : StuckReason) → IsStep old after (NextStuck reason) new → Stood old after (StopStuck reason) new
  stuck_is (Onward core) reason h = absurd (cc)
  stuck_is (Puts b core) reason h = absurd (cc)
  stuck_is (Told (Made n k c) core) reason h = absurd (cc)
  stuck_is (Told (Freed n) core) reason h = absurd (cc)
  stuck_is (Over o core) reason h = absurd (cc)
  stuck_is (Stuck r) reason h = let e : reason ≡ r = cc in record { stops = (ap StopStuck e, h.1); put_is = refl; told_is = refl }

  -- the watchers may be told
  pub can_make : (after : After) (n k c : ℕ) (seen : List Seen) → Good old after → IsStep old after (NextMade n k c) new → n < 2 ^ 62 → All (Synced old.blocks) seen → All (CanMake n) seen
  can_make (Onward core) n k c seen g h lt s = absurd (cc)
  can_make (Puts b core) n k c seen g h lt s = absurd (cc)
  can_make (Told (Freed m) core) n k c seen g h lt s = absurd (cc)
  can_make (Over o core) n k c seen g h lt s = absurd (cc)
  can_make (Stuck r) n k c seen g h lt s = absurd (cc)
  can_make (Told (Made m j d) core) n k c seen g h lt s =
      let same : n ≡ m = cc in let len = same ∙ g.0 in
      make_ready old.blocks n seen len (omega (arith, lt, len)) s

  pub can_free : (after : After) (n : ℕ) (seen : List Seen) → Good old after → IsStep old after (NextFreed n) new → All (Synced old.blocks) seen → All (CanGo n) seen
  can_free (Onward core) n seen g h s = absurd (cc)
  can_free (Puts b core) n seen g h s = absurd (cc)
  can_free (Told (Made m k c) core) n seen g h s = absurd (cc)
  can_free (Over o core) n seen g h s = absurd (cc)
  can_free (Stuck r) n seen g h s = absurd (cc)
  can_free (Told (Freed m) core) n seen g h s =
      let same : m ≡ n = cc in free_ready old.blocks n (subst (λ j. IsSome (get_or old.blocks j None)) same g.0) seen s

module _ (after : After) (new : Core) (t : Option (List ℕ)) (held : List ℕ) (made gone : ℕ) (seen : List Seen) where
  counted_same : (n : ℕ) (events : List Event) → events ≡ [] → n ≡ n + length (made_in events)
  counted_same n events e = let h : length (made_in events) ≡ 0 = ap (λ es. length (made_in es)) e in omega (arith, h)

  gone_same : (n : ℕ) (events : List Event) → events ≡ [] → n ≡ n + length (gone_in events)
  gone_same n events e = let h : length (gone_in events) ≡ 0 = ap (λ es. length (gone_in es)) e in omega (arith, h)

  untold : (events : List Event) → events ≡ [] → seen ≡ map (told_all events) seen
  untold events e = sym (ap (λ es. map (told_all es) seen) e ∙ map-id seen)

  pub went_goes : Went after new [] [] → Advances after new t t held held made made gone gone seen seen
  went_goes w = record {
    goes = w.goes;
    sends = subst (λ p. Sends t t held p held) (sym w.put_is) (sends_nothing t held);
    told_is = untold (told_by after) w.told_is;
    made_is = λ h. counted_same made (told_by after) w.told_is;
    gone_is = λ h. gone_same gone (told_by after) w.told_is;
  }

  pub went_puts : (byte : ℕ) (t2 : Option (List ℕ)) (held2 : List ℕ) → Went after new (byte ∷ []) [] → Sends t t2 held (byte ∷ []) held2 → Advances after new t t2 held held2 made made gone gone seen seen
  went_puts byte t2 held2 w s = record {
    goes = w.goes;
    sends = subst (λ p. Sends t t2 held p held2) (sym w.put_is) s;
    told_is = untold (told_by after) w.told_is;
    made_is = λ h. counted_same made (told_by after) w.told_is;
    gone_is = λ h. gone_same gone (told_by after) w.told_is;
  }

  pub went_made : (n k c made2 : ℕ) (seen2 : List Seen) → Went after new [] (Made n k c ∷ []) → made2 ≡ min (made + 1) (2 ^ 64 - 1) → seen2 ≡ map (after_made (n, k, c)) seen
      → Advances after new t t held held made made2 gone gone seen seen2
  went_made n k c made2 seen2 w m s = record {
    goes = w.goes;
    sends = subst (λ p. Sends t t held p held) (sym w.put_is) (sends_nothing t held);
    told_is = s ∙ ap (λ es. map (told_all es) seen) (sym w.told_is);
    made_is = λ h. let e : length (made_in (told_by after)) ≡ 1 = ap (λ es. length (made_in es)) w.told_is in omega (arith, e, m, h);
    gone_is = λ h. let e : length (gone_in (told_by after)) ≡ 0 = ap (λ es. length (gone_in es)) w.told_is in omega (arith, e);
  }

  pub went_freed : (n gone2 : ℕ) (seen2 : List Seen) → Went after new [] (Freed n ∷ []) → gone2 ≡ min (gone + 1) (2 ^ 64 - 1) → seen2 ≡ map (after_gone n) seen
      → Advances after new t t held held made made gone gone2 seen seen2
  went_freed n gone2 seen2 w m s = record {
    goes = w.goes;
    sends = subst (λ p. Sends t t held p held) (sym w.put_is) (sends_nothing t held);
    told_is = s ∙ ap (λ es. map (told_all es) seen) (sym w.told_is);
    made_is = λ h. let e : length (made_in (told_by after)) ≡ 0 = ap (λ es. length (made_in es)) w.told_is in omega (arith, e);
    gone_is = λ h. let e : length (gone_in (told_by after)) ≡ 1 = ap (λ es. length (gone_in es)) w.told_is in omega (arith, e, m, h);
  }

-- no watcher was told of a block
pub none_told : (seen : List Seen) → SomeTold seen seen
none_told seen = (0, (0, 0, 0), refl)

pub watchers_same : (fault : RunFault) (seen : List Seen) → WatchersAfter fault seen seen
watchers_same (FaultStuck r n) seen = refl
watchers_same WriteFault seen = refl
watchers_same WorkSpent seen = refl
watchers_same NoMem seen = none_told seen
