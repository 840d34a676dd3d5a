-- One statement more of a run.
use Rattle.std.proofs.Common.{◌≡◌, ℕ, suc, ◌+◌, ◌<◌, ◌≤◌, ◌^◌, List, [], ◌∷◌, ◌++◌, map, length, refl, sym, ap, ◌∙◌, arith, append_assoc, subst}
use Rattle.std.specs.Prelude.{Option}
use Rattle.std.specs.List.{All}
use Rattle.std.proofs.lemmas.List.{append-nil, map-id}
use Rattle.std.proofs.lemmas.List.Elements.{All-weaker, All-map, All-same}
use Rattle.rpy_base.specs.Watching.{Seen}
use Rattle.csub_tree.specs.State.{Core, Event, Made, Freed, After, Onward, Puts, Told, Over, Stuck}
use Rattle.csub_tree.specs.Machine.{step, statement_number}
use Rattle.csub_tree.specs.Meaning.{Ran, Ended, Unfinished, run, follow, made_in, gone_in, Came, StuckAt}
use Rattle.csub_tree.specs.declared.tree.CFile.{CFile}
use Rattle.csub_runner.specs.declared.run.RunFault.{RunFault}
use Rattle.csub_runner.specs.declared.run.Stop.{Stop}
use Rattle.csub_runner.specs.declared.run.Stop.TheVariants.{Spent}
use Rattle.csub_runner.specs.Synced.{Synced}
use Rattle.csub_runner.specs.Run.{told, told_all, told_by, put_by, GoesOn, Stops, HasTaken, HasTakenSome, Advances, WatchersAfter, LeadsOn, RanTo, Finished, Broken}
use Rattle.csub_runner.proofs.Law.{Good, step_good}
use Rattle.csub_runner.proofs.Output.{taken_more, taken_nothing, some_behind}

-- after i statements: the text and the events so far, and that the run from the start goes on from here
pub record IsAt (file : CFile) (args : List (List ℕ)) (start : Core) (before now : Option (List ℕ)) (held : List ℕ) (seen_before seen : List Seen) (made gone i : ℕ) (core : Core) (text : List ℕ) (events : List Event) : Type 0 where
  pub sent : List ℕ
  pub text_is : text ≡ sent ++ held
  pub taken : HasTaken before now sent
  pub seen_is : seen ≡ map (told_all events) seen_before
  pub synced : All (Synced core.blocks) seen
  pub made_is : made ≡ length (made_in events)
  pub gone_is : gone ≡ length (gone_in events)
  pub few_made : length (made_in events) ≤ i
  pub few_gone : length (gone_in events) ≤ i
  pub goes_on : (k : ℕ) → run file args (i + k) start [] [] ≡ run file args k core text events

told_more : (events more : List Event) (seen : List Seen) → map (told_all more) (map (told_all events) seen) ≡ map (told_all (events ++ more)) seen
told_more events more [] = refl
told_more events more (s ∷ seen) = ap (λ x. x ∷ map (told_all more) (map (told_all events) seen)) (one events s) ∙ ap (λ xs. told_all (events ++ more) s ∷ xs) (told_more events more seen)
  where
    one : (es : List Event) (s : Seen) → told_all more (told_all es s) ≡ told_all (es ++ more) s
    one [] s = refl
    one (e ∷ es) s = one es (told e s)

made_append : (xs ys : List Event) → length (made_in (xs ++ ys)) ≡ length (made_in xs) + length (made_in ys)
made_append [] ys = omega arith
made_append (Made n k c ∷ xs) ys = let h = made_append xs ys in omega (arith, h)
made_append (Freed n ∷ xs) ys = made_append xs ys

gone_append : (xs ys : List Event) → length (gone_in (xs ++ ys)) ≡ length (gone_in xs) + length (gone_in ys)
gone_append [] ys = omega arith
gone_append (Made n k c ∷ xs) ys = gone_append xs ys
gone_append (Freed n ∷ xs) ys = let h = gone_append xs ys in omega (arith, h)

few_events : (after : After) → (length (made_in (told_by after)) ≤ 1) × (length (gone_in (told_by after)) ≤ 1)
few_events (Onward c) = (omega arith, omega arith)
few_events (Puts b c) = (omega arith, omega arith)
few_events (Told (Made n k j) c) = (omega arith, omega arith)
few_events (Told (Freed n) c) = (omega arith, omega arith)
few_events (Over o c) = (omega arith, omega arith)
few_events (Stuck r) = (omega arith, omega arith)

pub run_suc : (file : CFile) (args : List (List ℕ)) (k : ℕ) (core : Core) (text : List ℕ) (events : List Event) → run file args (suc k) core text events ≡ follow file (run file args k) core text events (step file args core)
unfolding run
run_suc file args k core text events = refl

pub run_zero : (file : CFile) (args : List (List ℕ)) (core : Core) (text : List ℕ) (events : List Event) → run file args 0 core text events ≡ Unfinished core text events
unfolding run
run_zero file args core text events = refl

synced_next : (old new : Core) (after : After) (seen : List Seen) → Good old after → GoesOn after new → All (Synced old.blocks) seen → All (Synced new.blocks) (map (told_all (told_by after)) seen)
synced_next old new (Onward c) seen g is s = All-same (Synced new.blocks) (map (told_all []) seen) seen (map-id seen) (subst (λ d. All (Synced d.blocks) seen) (sym is) (All-weaker (Synced old.blocks) (Synced c.blocks) g seen s))
synced_next old new (Puts b c) seen g is s = All-same (Synced new.blocks) (map (told_all []) seen) seen (map-id seen) (subst (λ d. All (Synced d.blocks) seen) (sym is) (All-weaker (Synced old.blocks) (Synced c.blocks) g seen s))
synced_next old new (Told (Made n k j) c) seen g is s = subst (λ d. All (Synced d.blocks) (map (told (Made n k j)) seen)) (sym is)
    (All-map (Synced c.blocks) (told (Made n k j)) seen (All-weaker (Synced old.blocks) (λ x. Synced c.blocks (told (Made n k j) x)) g.1 seen s))
synced_next old new (Told (Freed n) c) seen g is s = subst (λ d. All (Synced d.blocks) (map (told (Freed n)) seen)) (sym is)
    (All-map (Synced c.blocks) (told (Freed n)) seen (All-weaker (Synced old.blocks) (λ x. Synced c.blocks (told (Freed n) x)) g.1 seen s))
synced_next old new (Over o c) seen g is s = absurd is
synced_next old new (Stuck r) seen g is s = absurd is

follow_on : (file : CFile) (go : Core → List ℕ → List Event → Ran) (old new : Core) (text : List ℕ) (events : List Event) (after : After) → GoesOn after new → follow file go old text events after ≡ go new (text ++ put_by after) (events ++ told_by after)
follow_on file go old new text events (Onward c) is = ap (λ d. go d text events) (sym is) ∙ ap (λ t. go new t events) (sym (append-nil text)) ∙ ap (go new (text ++ [])) (sym (append-nil events))
follow_on file go old new text events (Puts b c) is = ap (λ d. go d (text ++ b ∷ []) events) (sym is) ∙ ap (go new (text ++ b ∷ [])) (sym (append-nil events))
follow_on file go old new text events (Told e c) is = ap (λ d. go d text (events ++ e ∷ [])) (sym is) ∙ ap (λ t. go new t (events ++ e ∷ [])) (sym (append-nil text))
follow_on file go old new text events (Over o c) is = absurd is
follow_on file go old new text events (Stuck r) is = absurd is

-- statements that put nothing and tell nobody
module _ (file : CFile) (args : List (List ℕ)) (old : Core) where
  pub leads_none : LeadsOn file args 0 old old
  leads_none = record { runs = λ m text events. ap (λ n. run file args n old text events) (omega arith); synced = λ seen ok. ok }

  pub leads_more : (mid new : Core) (k : ℕ) → LeadsOn file args k old mid → step file args mid ≡ Onward new → LeadsOn file args (k + 1) old new
  leads_more mid new k leads e = record {
    runs = λ m text events. ap (λ n. run file args n old text events) (omega arith) ∙ leads.runs (suc m) text events ∙ run_suc file args m mid text events ∙ ap (follow file (run file args m) mid text events) e;
    synced = λ seen ok. All-weaker (Synced mid.blocks) (Synced new.blocks) (subst (Good mid) e (step_good mid file args)) seen (leads.synced seen ok);
  }

pub led : (file : CFile) (args : List (List ℕ)) (start core new : Core) (before mid : Option (List ℕ)) (held : List ℕ) (seen_before seen : List Seen) (made gone i k : ℕ) (text : List ℕ) (events : List Event)
    → LeadsOn file args k core new → IsAt file args start before mid held seen_before seen made gone i core text events → IsAt file args start before mid held seen_before seen made gone (i + k) new text events
led file args start core new before mid held seen_before seen made gone i k text events leads at = let m = at.few_made in let g = at.few_gone in record {
  sent = at.sent;
  text_is = at.text_is;
  taken = at.taken;
  seen_is = at.seen_is;
  synced = leads.synced seen at.synced;
  made_is = at.made_is;
  gone_is = at.gone_is;
  few_made = omega (arith, m);
  few_gone = omega (arith, g);
  goes_on = λ n. ap (λ j. run file args j start [] []) (omega arith) ∙ at.goes_on (k + n) ∙ leads.runs n text events;
}

module _ (file : CFile) (args : List (List ℕ)) (start core : Core) (before mid : Option (List ℕ)) (held : List ℕ) (seen_before seen : List Seen) (made gone i : ℕ) (text : List ℕ) (events : List Event)
    (at : IsAt file args start before mid held seen_before seen made gone i core text events) where
  pub next_at : (new : Core) (now : Option (List ℕ)) (held2 : List ℕ) (seen2 : List Seen) (made2 gone2 : ℕ) → i < 2 ^ 63
      → Advances (step file args core) new mid now held held2 made made2 gone gone2 seen seen2
      → IsAt file args start before now held2 seen_before seen2 made2 gone2 (i + 1) new (text ++ put_by (step file args core)) (events ++ told_by (step file args core))
  next_at new now held2 seen2 made2 gone2 lt a =
      let after = step file args core in
      let few = few_events after in
      let m = at.made_is in let g = at.gone_is in let fm = at.few_made in let fg = at.few_gone in let f0 = few.0 in let f1 = few.1 in
      let ma = made_append events (told_by after) in let ga = gone_append events (told_by after) in
      let m2 = a.made_is (omega (arith, m, fm, f0, lt)) in
      let g2 = a.gone_is (omega (arith, g, fg, f1, lt)) in
      record {
        sent = at.sent ++ a.sends.0;
        text_is = ap (λ t. t ++ put_by after) at.text_is ∙ append_assoc at.sent held (put_by after) ∙ ap (λ t. at.sent ++ t) a.sends.1 ∙ sym (append_assoc at.sent a.sends.0 held2);
        taken = taken_more before mid now at.sent a.sends.0 at.taken a.sends.2;
        seen_is = a.told_is ∙ ap (map (told_all (told_by after))) at.seen_is ∙ told_more events (told_by after) seen_before;
        synced = All-same (Synced new.blocks) seen2 (map (told_all (told_by after)) seen) a.told_is (synced_next core new after seen (step_good core file args) a.goes at.synced);
        made_is = omega (arith, m2, m, ma);
        gone_is = omega (arith, g2, g, ga);
        few_made = omega (arith, ma, fm, f0);
        few_gone = omega (arith, ga, fg, f1);
        goes_on = λ k. ap (λ n. run file args n start [] []) (omega arith) ∙ at.goes_on (suc k) ∙ run_suc file args k core text events ∙ follow_on file (run file args k) core new text events after a.goes;
      }

  stop_by : (new : Core) (stop : Stop) (most : ℕ) → i < most → (after : After) → step file args core ≡ after → Stops core after stop new → RanTo most file args start stop new text events
  stop_by new stop most lt (Onward c) e s = absurd s
  stop_by new stop most lt (Puts b c) e s = absurd s
  stop_by new stop most lt (Told d c) e s = absurd s
  stop_by new stop most lt (Over outcome c) e s = subst (λ x. RanTo most file args start x new text events) (sym s.0)
      (i + 1, omega (arith, lt), at.goes_on 1 ∙ run_suc file args 0 core text events ∙ ap (follow file (run file args 0) core text events) e ∙ ap (λ d. Ended (Came outcome) d text events) (sym s.1))
  stop_by new stop most lt (Stuck reason) e s = subst (λ x. RanTo most file args start x new text events) (sym s.0)
      (i + 1, omega (arith, lt), at.goes_on 1 ∙ run_suc file args 0 core text events ∙ ap (follow file (run file args 0) core text events) e ∙ ap (λ d. Ended (StuckAt reason (statement_number file.functions d)) d text events) (sym s.1))

  pub stopped : (new : Core) (stop : Stop) (most : ℕ) (now : Option (List ℕ)) (held2 : List ℕ) (seen2 : List Seen) (made2 gone2 : ℕ) → i < most → Stops core (step file args core) stop new
      → now ≡ mid → held2 ≡ held → made2 ≡ made → gone2 ≡ gone → seen2 ≡ seen → Finished most file args start stop new before now held2 made2 gone2 seen_before seen2
  stopped new stop most now held2 seen2 made2 gone2 lt s t h m g w = record {
    text = text;
    events = events;
    ran = stop_by new stop most lt (step file args core) refl s;
    sent = at.sent;
    text_is = at.text_is ∙ ap (λ x. at.sent ++ x) (sym h);
    taken = t ∙ at.taken;
    told_is = w ∙ at.seen_is;
    made_is = m ∙ at.made_is;
    gone_is = g ∙ at.gone_is;
  }

  pub spent : (most : ℕ) → i ≡ most → Finished most file args start Spent core before mid held made gone seen_before seen
  spent most e = record {
    text = text;
    events = events;
    ran = ap (λ n. run file args n start [] []) (sym e) ∙ ap (λ n. run file args n start [] []) (omega arith) ∙ at.goes_on 0 ∙ run_zero file args core text events;
    sent = at.sent;
    text_is = at.text_is;
    taken = at.taken;
    told_is = at.seen_is;
    made_is = at.made_is;
    gone_is = at.gone_is;
  }

  pub broken : (fault : RunFault) (most : ℕ) (now : Option (List ℕ)) (seen2 : List Seen) → i < most → HasTakenSome mid now (held ++ put_by (step file args core)) → WatchersAfter fault seen seen2
      → Broken most file args start fault before now seen_before seen2
  broken fault most now seen2 lt h w = record {
    k = i;
    core = core;
    text = text;
    events = events;
    inside = lt;
    goes_on = at.goes_on;
    some = some_behind before mid now at.sent (held ++ put_by (step file args core)) (text ++ put_by (step file args core)) (ap (λ t. t ++ put_by (step file args core)) at.text_is ∙ append_assoc at.sent held (put_by (step file args core))) at.taken h;
    watchers = subst (λ s. WatchersAfter fault s seen2) at.seen_is w;
  }

pub at_start : (file : CFile) (args : List (List ℕ)) (start : Core) (before : Option (List ℕ)) (held : List ℕ) (seen : List Seen) (made gone : ℕ) → held ≡ [] → made ≡ 0 → gone ≡ 0 → All (Synced start.blocks) seen
    → (text : List ℕ) × (events : List Event) × IsAt file args start before before held seen seen made gone 0 start text events
at_start file args start before held seen made gone e m g synced = (
  [],
  [],
  record {
    sent = [];
    text_is = sym e;
    taken = taken_nothing before;
    seen_is = sym (map-id seen);
    synced = synced;
    made_is = m;
    gone_is = g;
    few_made = omega arith;
    few_gone = omega arith;
    goes_on = λ k. ap (λ n. run file args n start [] []) (omega arith);
  },
)

told_made : (events : List Event) (s : Seen) → (told_all events s).made ≡ s.made + length (made_in events)
told_made [] s = omega arith
told_made (Made n k c ∷ events) s = let h = told_made events (told (Made n k c) s) in omega (arith, h)
told_made (Freed n ∷ events) s = told_made events (told (Freed n) s)

told_gone : (events : List Event) (s : Seen) → (told_all events s).gone ≡ s.gone + length (gone_in events)
told_gone [] s = omega arith
told_gone (Made n k c ∷ events) s = told_gone events (told (Made n k c) s)
told_gone (Freed n ∷ events) s = let h = told_gone events (told (Freed n) s) in omega (arith, h)

-- in each watcher the two numbers grew
pub made_grown : (events : List Event) (seen now : List Seen) → now ≡ map (told_all events) seen → map (λ s. s.made) now ≡ map (λ s. s.made + length (made_in events)) seen
made_grown events seen now e = ap (map (λ s. s.made)) e ∙ by seen
  where
    by : (seen : List Seen) → map (λ s. s.made) (map (told_all events) seen) ≡ map (λ s. s.made + length (made_in events)) seen
    by [] = refl
    by (s ∷ seen) = ap (λ n. n ∷ map (λ x. x.made) (map (told_all events) seen)) (told_made events s) ∙ ap (λ ns. (s.made + length (made_in events)) ∷ ns) (by seen)

pub gone_grown : (events : List Event) (seen now : List Seen) → now ≡ map (told_all events) seen → map (λ s. s.gone) now ≡ map (λ s. s.gone + length (gone_in events)) seen
gone_grown events seen now e = ap (map (λ s. s.gone)) e ∙ by seen
  where
    by : (seen : List Seen) → map (λ s. s.gone) (map (told_all events) seen) ≡ map (λ s. s.gone + length (gone_in events)) seen
    by [] = refl
    by (s ∷ seen) = ap (λ n. n ∷ map (λ x. x.gone) (map (told_all events) seen)) (told_gone events s) ∙ ap (λ ns. (s.gone + length (gone_in events)) ∷ ns) (by seen)
