-- How many references stand in the states of a call that leads somewhere.
use Rattle.std.proofs.Common.{◌≡◌, ◌<◌, ◌≤◌, ℕ, ◌+◌, ◌-◌, List, [], ◌∷◌, ◌++◌, refl, ◌∙◌, subst, arith}
use Rattle.csub_tree.specs.State.{Value, Core}
use Rattle.ll_code.specs.State.{Frame, State, Calling, At, Returning, Throwing}
use Rattle.ll_code.specs.declared.program.LlProgram.{LlProgram}
use Rattle.ll_laws.specs.States.{StateFits}
use Rattle.ll_live.specs.Live.{live}
use Rattle.ll_held.specs.Roots.{kept, waiting_roots, slots, roots}
use Rattle.ll_held.specs.Held.{references, references_in, IsBelow}
use Rattle.ll_held.proofs.Keeping.{references_append}
use Rattle.ll_leads.specs.Path.{Path, Stay, Go, Put, Tell, total}
use Rattle.ll_leads.specs.Effect.{blocks_of, HeldStore, AllOn, into_statics}
use Rattle.ll_leads.specs.Lifted.{over}
use Rattle.ll_leads.specs.Weight.{Weighs}
use Rattle.ll_leads.specs.Bounded.{IsRaw, IsSound, CallsStaySmall}
use Rattle.ll_leads.proofs.Along.{along}
use Rattle.ll_leads.proofs.Lifting.{lifted, lifted_total, lifted_statics}
use Rattle.ll_leads.proofs.Weighing.{Inside, NextInside, Ground, step_inside, roots_inside, waiting_both}

own_over : (p : LlProgram) (below frames : List Frame) (own : List Value) → references (own ++ waiting_roots p (frames ++ below)) ≡ references (own ++ waiting_roots p frames) + references (waiting_roots p below)
own_over p below frames own =
    let a : references (own ++ waiting_roots p (frames ++ below)) ≡ references own + references (waiting_roots p (frames ++ below)) = references_append own (waiting_roots p (frames ++ below)) in
    let b : references (waiting_roots p (frames ++ below)) ≡ references (waiting_roots p frames) + references (waiting_roots p below) = waiting_both p frames below in
    let c : references (own ++ waiting_roots p frames) ≡ references own + references (waiting_roots p frames) = references_append own (waiting_roots p frames) in omega (arith, a, b, c)

-- the roots of a state are those that it has by itself, and those of who waits below
roots_over : (p : LlProgram) (below : List Frame) (s : State) → references (roots p (over below s)) ≡ references (roots p s) + references (waiting_roots p below)
roots_over p below (Calling f values frames core) = own_over p below frames (values ++ slots core)
roots_over p below (At ops e frames core) = own_over p below frames (kept (live ops e) 0 core.vars ++ slots core)
roots_over p below (Returning value frames core) = own_over p below frames (value ∷ slots core)
roots_over p below (Throwing value frames core) = own_over p below frames (value ∷ slots core)

all_more : {p : LlProgram} {args : List (List ℕ)} {s t : State} {text : List ℕ} {good better : State → Type 0} (path : Path p args s text t) → ((u : State) → good u → better u) → AllOn good path → AllOn better path
all_more (Stay s) h k = h s k
all_more (Go {s = s} e path) h (k, ks) = (h s k, all_more path h ks)
all_more (Put {s = s} e path) h (k, ks) = (h s k, all_more path h ks)
all_more (Tell {s = s} e path) h (k, ks) = (h s k, all_more path h ks)

module _ (p : LlProgram) (raw : IsRaw p) (args : List (List ℕ)) (w : ℕ) (below : List Frame) where
  -- the state on the way above has the roots of a state that is inside
  FewRoots : State → Type 0
  FewRoots u = references (roots p u) ≤ w + 3 + references (waiting_roots p below)

  few_over : (s : State) → StateFits p (over below s) → Inside p w s → FewRoots (over below s)
  unfolding FewRoots
  few_over s fit h = let a : references (roots p (over below s)) ≡ references (roots p s) + references (waiting_roots p below) = roots_over p below s in let b : references (roots p s) ≤ w + 3 = roots_inside p w below s fit h in omega (arith, a, b)

  -- along the way above, each state has few roots and holds few references
  FewAt : ℕ → State → Type 0
  FewAt top u = IsBelow (top + w + 4 + references (waiting_roots p below)) (blocks_of u) (roots p u)

  few_at : (top : ℕ) (u : State) → FewRoots u → HeldStore p u top → FewAt top u
  unfolding FewRoots FewAt
  few_at top u few store bs d k = let a : references_in (blocks_of u) bs ≤ top = store bs d k in omega (arith, few, a)

  module _ (top : ℕ) where
    Good : State → Type 0
    Good u = IsSound p u × HeldStore p u top

    bounded : {s t : State} {text : List ℕ} (path : Path p args s text t) → AllOn Good (lifted below p args path) → Inside p w s → AllOn (FewAt top) (lifted below p args path)
    unfolding lifted Good
    bounded (Stay s) (sound, store) h = few_at top (over below s) (few_over s sound.fits h) store
    bounded (Go {s = s} {t = t} e path) ((sound, store), rest) h =
        (few_at top (over below s) (few_over s sound.fits h) store, bounded path rest (subst (NextInside p w) e (step_inside p w args below s sound.fits sound.placed h)))
    bounded (Put {s = s} {t = t} e path) ((sound, store), rest) h =
        (few_at top (over below s) (few_over s sound.fits h) store, bounded path rest (subst (NextInside p w) e (step_inside p w args below s sound.fits sound.placed h)))
    bounded (Tell {s = s} {t = t} e path) ((sound, store), rest) h =
        (few_at top (over below s) (few_over s sound.fits h) store, bounded path rest (subst (NextInside p w) e (step_inside p w args below s sound.fits sound.placed h)))

  -- a call that leads somewhere while nothing waits: while others wait it goes the same way, and in each state there stand no more than
  -- so many references more
  pub calls_are_bounded : {f : ℕ} {values : List Value} {core : Core} {text : List ℕ} {t : State} → Weighs p f w → (path : Path p args (Calling f values [] core) text t) → into_statics path ≡ 0 → IsSound p (Calling f values below core)
      → (most : ℕ) → IsBelow most core.blocks (roots p (Calling f values below core)) → AllOn (λ u. IsBelow (most + (total path + (w + 3))) (blocks_of u) (roots p u)) (lifted below p args path)
  unfolding FewAt Good
  calls_are_bounded {f = f} {values = values} {core = core} weighs path z sound most small =
      all_more (lifted below p args path) (λ u few. at_most u few)
      (bounded top path (along p raw args (lifted below p args path) sound (lifted_statics below p args path ∙ z) room top (let a : total (lifted below p args path) ≡ total path = lifted_total below p args path in omega (arith, a)) store) (w, weighs, Ground (omega arith)))
    where
      own : ℕ
      own = references (roots p (Calling f values below core))

      room : ℕ
      room = most - 1 - own

      top : ℕ
      top = room + total path

      some : own < most
      some = let a : own + references_in core.blocks [] < most = small [] refl tt in omega (arith, a)

      store : HeldStore p (Calling f values below core) room
      store bs d k = let a : own + references_in core.blocks bs < most = small bs d k in omega (arith, a)

      fewer : references (waiting_roots p below) ≤ own
      fewer = let a : own ≡ references (values ++ slots core) + references (waiting_roots p below) = references_append (values ++ slots core) (waiting_roots p below) in omega (arith, a)

      at_most : (u : State) → FewAt top u → IsBelow (most + (total path + (w + 3))) (blocks_of u) (roots p u)
      at_most u few bs d k = let a : references (roots p u) + references_in (blocks_of u) bs < top + w + 4 + references (waiting_roots p below) = few bs d k in omega (arith, a, some, fewer)

pub calls_stay_small : (p : LlProgram) → CallsStaySmall p
calls_stay_small p raw args f w weighs values core text t path z below sound most small = record { way = lifted below p args path; small = calls_are_bounded p raw args w below weighs path z sound most small }
