-- What it is that the machine follows a part of a tree, and how that is put together.
use Rattle.std.proofs.Common.{◌≡◌, ℕ, suc, ◌+◌, ◌<◌, ◌≤◌, Bool, true, false, cond, List, [], ◌∷◌, ◌++◌, length, take, Some, None, Option, refl, sym, ap, ◌∙◌, subst, arith, append_assoc, length-append}
use Rattle.std.specs.Prelude.{map, slice_get, slice_set}
use Rattle.std.proofs.lemmas.List.{length-map, map-append}
use Rattle.rpy_base.specs.declared.outcome.Outcome.{Outcome}
use Rattle.rpy_base.specs.declared.outcome.Outcome.TheVariants as outcome
use Rattle.rpy_tree.specs.Value.{Value, Ref}
use Rattle.rpy_meaning.specs.Tree.{Program}
use Rattle.rpy_meaning.specs.World.{World}
use Rattle.rpy_meaning.specs.Classes.{is_below}
use Rattle.rpy_meaning.specs.Evaluation.{State, Ending, Done, Raised, Failed, Running, Wrong, Eval, then_go, add_held, values_of}
use Rattle.rpy_meaning.specs.Meaning.{Run, over, class_in}
use Rattle.flow_graph.specs.declared.graph.Link.{Link}
use Rattle.flow_graph.specs.declared.graph.Block.{Block}
use Rattle.flow_graph.specs.declared.graph.Graphs.{Graphs}
use Rattle.flow_meaning.specs.Machine.{Bound, look, Frame, State as Spot, At, Next, Goes, Ends as Stands, Stops, Strays, block_in, begins, jump, step}
use Rattle.flow_meaning.specs.Meaning.{Ran, Ended, follow, run, run_of, no_world}
use Rattle.flow_meaning.specs.Moments.{is_at, is_behind, past, stopped, on_past, follow_past, step_past, run_to}
use Rattle.flow_meaning.specs.Roots.{and_some, waiting_roots, roots}
use Rattle.flow_meaning.proofs.One.{one_more, one_past}
use Rattle.flow_stands.proofs.Watches.{Counts, counts_none, Watching}
use Rattle.flow_stands.specs.Places.{range, Aim, Hand, Scope, Jump, Shape, Go, Fork, Does, Plain, GiveBack, GiveUp, shift, link, numbered}
use Rattle.flow_stands.proofs.Worlds.{total, total_append, Weight, Later, same, later_on, Sound, sound_on, Thrown}
use Rattle.flow_stands.proofs.Lists.{Env, pick, named, bound, passed_is, bound_named, picks_named}

-- a block, and the values with which it is entered
pub record Place : Type 0 where
  pub to : ℕ
  pub vs : Env

abbrev pub place : ℕ → Env → Place
place to vs = record { to = to; vs = vs }

-- the locals, and what is held
abbrev pub env : State → List Value → Env
env t held = t.locals ++ map Some held

pub env_push : (t : State) (held xs : List Value) → env t (held ++ xs) ≡ env t held ++ map Some xs
env_push t held xs = ap (λ l. t.locals ++ l) (map-append Some held xs) ∙ sym (append_assoc t.locals (map Some held) (map Some xs))

abbrev pub IsBound : Env → ℕ → Type 0
IsBound ls i = (v : Value) × (slice_get ls i ≡ Some (Some v))

-- before and after a part of a run in one function
pub record After (s t : State) : Type 0 where
  pub later : Later s.world t.world
  pub long : length t.locals ≡ length s.locals
  pub bound : (i : ℕ) → IsBound s.locals i → IsBound t.locals i

pub at_once : (s : State) → After s s
at_once s = record { later = same s.world; long = refl; bound = λ i b. b }

pub after_on : {s t u : State} → After s t → After t u → After s u
after_on a b = record { later = later_on a.later b.later; long = b.long ∙ a.long; bound = λ i x. b.bound i (a.bound i x) }

-- what a part may begin with: fewer steps than `top`, n locals
pub record Fit (top n : ℕ) (s : State) : Type 0 where
  pub low : s.world.left < top
  pub long : length s.locals ≡ n
  pub sound : Sound s.world.heap

pub fit_on : {top n : ℕ} {s t : State} → Fit top n s → After s t → Fit top n t
fit_on f a = record { low = omega (arith, f.low, a.later.left); long = a.long ∙ f.long; sound = sound_on a.later f.sound }

pub length_env : {top n : ℕ} {s : State} (held : List Value) → Fit top n s → length (env s held) ≡ n + length held
length_env {s = s} held f = omega (arith, length-append s.locals (map Some held), length-map held Some, f.long)

-- the end of what never wants steps
abbrev pub Quiet : {A : Type 0} → Ending A → Type 0
Quiet (Running held s) = ⊥
Quiet other = Unit {0}

-- where an exception is taken, by its class
abbrev pub stored_value : Env → Option ℕ → ℕ → Env
stored_value vs None r = vs
stored_value vs (Some i) r = slice_set vs i (Some (Ref r))

abbrev pub Below : ℕ → List Hand → Type 0
Below m [] = Unit {0}
Below m (hand ∷ hands) = (hand.aim.keep ≤ m) × Below m hands

module _ (p : Program) (gs : Graphs) (wa : Watching) where
  abbrev pub hand_place : List Hand → Aim → Env → ℕ → ℕ → Place
  hand_place [] default vs r class = place default.to (take default.keep vs ++ Some (Ref r) ∷ [])
  hand_place (hand ∷ hands) default vs r class =
      cond (is_below p.classes class hand.class) (place hand.aim.to (stored_value (take hand.aim.keep vs) hand.local r)) (hand_place hands default vs r class)

  -- where exceptions of a scope go, while this is held
  pub record Catches (n m : ℕ) (sc : Scope) (held : List Value) (R : ℕ → State → Place) : Type 0 where
    pub all : n + length held ≡ m
    pub default : sc.default.keep ≤ m
    pub hands : Below m sc.hands
    pub taken : (r : ℕ) (t : State) → length t.locals ≡ n → hand_place sc.hands sc.default (env t held) r (class_in t.world r) ≡ R r t

  abbrev pub wrong_run : Run
  wrong_run = record { outcome = None; held = []; world = no_world }

  -- what k steps lead to, up to the moment c where moments are counted
  abbrev pub seen : Bool → ℕ → ℕ → Spot → Ran
  seen stops k c s = cond stops (run_to p gs k c s) (run p gs k s)

  -- the machine comes to this end, or stands so at the moment c
  pub record Ends (s : Spot) (q : Run) (c : ℕ) : Type 0 where
    pub k : ℕ
    pub is : seen wa.stops k c s ≡ Ended q

  -- whatever comes from there, at one moment, comes from here at another
  pub record By (c d : ℕ) (P Q : Run → ℕ → Type 0) : Type 0 where
    pub by : (q : Run) → Q q d → P q c

  pub by_on : {c d e : ℕ} {P Q R : Run → ℕ → Type 0} → By c d P Q → By d e Q R → By c e P R
  by_on a b = record { by = λ q r. a.by q (b.by q r) }

  -- no moment is on the way
  pub record Leads (P Q : Run → ℕ → Type 0) : Type 0 where
    pub by : (q : Run) (c : ℕ) → Q q c → P q c

  pub stays : {P : Run → ℕ → Type 0} → Leads P P
  stays = record { by = λ q c r. r }

  pub leads_on : {P Q R : Run → ℕ → Type 0} → Leads P Q → Leads Q R → Leads P R
  leads_on a b = record { by = λ q c r. a.by q c (b.by q c r) }

  pub at_moment : {P Q : Run → ℕ → Type 0} (c : ℕ) → Leads P Q → By c c P Q
  at_moment c l = record { by = λ q r. l.by q c r }

  -- ---- steps

  past_some : (moment : Bool) (c d : ℕ) → Counts true moment c d → past moment c ≡ Some d
  past_some false c d e = ap Some e
  past_some true c d e = ap (past true) e

  one_step : (stops : Bool) (k c d : ℕ) (s : Spot) (next : Next) → Counts stops (is_at p gs s) c d → step p gs s ≡ next
      → seen stops (suc k) c s ≡ cond stops (follow_past (run_to p gs k) s (is_behind p s) d next) (follow (run p gs k) s next)
  one_step true k c d s next counts e =
      one_past p gs k c s ∙ ap (step_past p gs (run_to p gs k) s) (past_some (is_at p gs s) c d counts) ∙ ap (follow_past (run_to p gs k) s (is_behind p s) d) e
  one_step false k c d s next counts e = one_more p gs k s ∙ ap (follow (run p gs k) s) e

  behind_step : (stops : Bool) (k c d : ℕ) (s t : Spot) → Counts stops (is_behind p s) c d → cond stops (follow_past (run_to p gs k) s (is_behind p s) c (Goes t)) (follow (run p gs k) s (Goes t)) ≡ seen stops k d t
  behind_step true k c d s t counts = ap (on_past (run_to p gs k) t) (past_some (is_behind p s) c d counts)
  behind_step false k c d s t counts = refl

  pub step_by : (s t : Spot) (c j d : ℕ) → step p gs s ≡ Goes t → Counts wa.stops (is_at p gs s) c j → Counts wa.stops (is_behind p s) j d → By c d (Ends s) (Ends t)
  step_by s t c j d e before_it behind_it =
      record { by = λ q r. record { k = suc r.k; is = one_step wa.stops r.k c j s (Goes t) before_it e ∙ behind_step wa.stops r.k j d s t behind_it ∙ r.is } }

  -- a state at no moment, whose step leads behind no operation
  abbrev pub Free : Spot → Type 0
  Free s = (is_at p gs s ≡ false) × (is_behind p s ≡ false)

  pub not_at : (s : Spot) (c : ℕ) → is_at p gs s ≡ false → Counts wa.stops (is_at p gs s) c c
  not_at s c none = subst (λ b. Counts wa.stops b c c) (sym none) (counts_none wa.stops c)

  pub not_behind : (s : Spot) (c : ℕ) → is_behind p s ≡ false → Counts wa.stops (is_behind p s) c c
  not_behind s c none = subst (λ b. Counts wa.stops b c c) (sym none) (counts_none wa.stops c)

  pub step_go : (s t : Spot) → Free s → step p gs s ≡ Goes t → Leads (Ends s) (Ends t)
  step_go s t free e = record { by = λ q c r. (step_by s t c c c e (not_at s c free.0) (not_behind s c free.1)).by q r }

  over_by : (stops : Bool) (s : Spot) (next : Next) (q : Run) (d : ℕ) → follow_past (run_to p gs 0) s (is_behind p s) d next ≡ Ended q → follow (run p gs 0) s next ≡ Ended q
      → cond stops (follow_past (run_to p gs 0) s (is_behind p s) d next) (follow (run p gs 0) s next) ≡ Ended q
  over_by true s next q d a b = a
  over_by false s next q d a b = b

  pub step_ends : (s : Spot) (o : Option Outcome) (w : World) (c d : ℕ) → Counts wa.stops (is_at p gs s) c d → step p gs s ≡ Stands o w → Ends s (run_of o [] w) c
  step_ends s o w c d counts e = record { k = 1; is = one_step wa.stops 0 c d s (Stands o w) counts e ∙ over_by wa.stops s (Stands o w) (run_of o [] w) d refl refl }

  pub step_stops : (s : Spot) (w : World) (c d : ℕ) → Counts wa.stops (is_at p gs s) c d → step p gs s ≡ Stops w → Ends s (run_of (Some outcome.Running) (roots s) w) c
  step_stops s w c d counts e = record { k = 1; is = one_step wa.stops 0 c d s (Stops w) counts e ∙ over_by wa.stops s (Stops w) (run_of (Some outcome.Running) (roots s) w) d refl refl }

  pub step_strays : (s : Spot) (c d : ℕ) → Counts wa.stops (is_at p gs s) c d → step p gs s ≡ Strays → Ends s wrong_run c
  step_strays s c d counts e = record { k = 1; is = one_step wa.stops 0 c d s Strays counts e ∙ over_by wa.stops s Strays wrong_run d refl refl }

  -- it is stopped before an operation, or at an entry
  stopped_before : (stops : Bool) (s : Spot) → stops ≡ true → is_at p gs s ≡ true → seen stops 1 0 s ≡ Ended (stopped s)
  stopped_before true s on is = one_past p gs 0 0 s ∙ ap (λ b. step_past p gs (run_to p gs 0) s (past b 0)) is
  stopped_before false s on is = absurd (cc on)

  pub halts_at : (s : Spot) → wa.stops ≡ true → is_at p gs s ≡ true → Ends s (stopped s) 0
  halts_at s on is = record { k = 1; is = stopped_before wa.stops s on is }

  -- or behind one
  stopped_behind : (stops : Bool) (s t : Spot) (c : ℕ) → stops ≡ true → step p gs s ≡ Goes t → Counts stops (is_at p gs s) c 0 → is_behind p s ≡ true → seen stops 1 c s ≡ Ended (stopped t)
  stopped_behind true s t c on e counts is = one_step true 0 c 0 s (Goes t) counts e ∙ ap (λ b. on_past (run_to p gs 0) t (past b 0)) is
  stopped_behind false s t c on e counts is = absurd (cc on)

  pub halts_behind : (s t : Spot) (c : ℕ) → wa.stops ≡ true → step p gs s ≡ Goes t → Counts wa.stops (is_at p gs s) c 0 → is_behind p s ≡ true → Ends s (stopped t) c
  halts_behind s t c on e counts is = record { k = 1; is = stopped_behind wa.stops s t c on e counts is }

  -- graph f, what its caller is given in place of its result, and who waits
  module _ (f : ℕ) (instead : Option Value) (frs : List Frame) where
    abbrev pub block_point : Option Block → Env → World → Run → ℕ → Type 0
    block_point None vs w q c = q ≡ wrong_run
    block_point (Some b) vs w q c = Ends (At f b.ops b.exit (bound b.inputs vs) instead frs w) q c

    abbrev pub enter : Place → World → Run → ℕ → Type 0
    enter at w q c = block_point (block_in (slice_get gs.graphs f) at.to) at.vs w q c

    outer : Weight → ℕ
    outer wt = total wt.of (and_some instead (waiting_roots frs))

    begins_to : (s : Spot) (e : List Bound) (l : Link) (w : World) (c d : ℕ) → Counts wa.stops (is_at p gs s) c d → is_behind p s ≡ false → (ob : Option Block) → step p gs s ≡ begins f frs w instead e l ob
        → By c d (Ends s) (block_point ob (map (λ x. look e x) l.args) w)
    begins_to s e l w c d counts behind None z = record { by = λ q r. subst (λ q. Ends s q c) (sym r) (step_strays s c d counts z) }
    begins_to s e l w c d counts behind (Some b) z =
        step_by s (At f b.ops b.exit (bound b.inputs (map (λ x. look e x) l.args)) instead frs w) c d d
        (z ∙ ap (λ c. Goes (At f b.ops b.exit c instead frs w)) (passed_is e b.inputs l.args)) counts (not_behind s d behind)

    -- a link is followed
    pub jump_by : (s : Spot) (base : ℕ) (vs : Env) (j : Jump) (w : World) (c d : ℕ) → Counts wa.stops (is_at p gs s) c d → is_behind p s ≡ false → step p gs s ≡ jump gs f frs w instead (named base vs) (link base j)
        → By c d (Ends s) (enter (place j.to (pick vs j.places)) w)
    jump_by s base vs j w c d counts behind z =
        subst (λ v. By c d (Ends s) (block_point (block_in (slice_get gs.graphs f) j.to) v w)) (picks_named base vs j.places)
        (begins_to s (named base vs) (link base j) w c d counts behind (block_in (slice_get gs.graphs f) j.to) z)

    pub jump_to : (s : Spot) (base : ℕ) (vs : Env) (j : Jump) (w : World) → Free s → step p gs s ≡ jump gs f frs w instead (named base vs) (link base j) → Leads (Ends s) (enter (place j.to (pick vs j.places)) w)
    jump_to s base vs j w free z = record { by = λ q c r. (jump_by s base vs j w c c (not_at s c free.0) free.1 z).by q r }

    inputs_of : (base m node : ℕ) (value : Bool) (b : Shape) → (numbered base m node value b).inputs ≡ shift base (range 0 m)
    inputs_of base m node value (Go j) = refl
    inputs_of base m node value (Fork x a b) = refl
    inputs_of base m node value (Does o args cs hs d l) = refl
    inputs_of base m node value (Plain o j) = refl
    inputs_of base m node value GiveBack = refl
    inputs_of base m node value GiveUp = refl

    -- a block is entered
    pub enter_block : (b m base node : ℕ) (value : Bool) (shape : Shape) (vs : Env) (w : World) → block_in (slice_get gs.graphs f) b ≡ Some (numbered base m node value shape) → length vs ≡ m
        → Leads (enter (place b vs) w) (Ends (At f (numbered base m node value shape).ops (numbered base m node value shape).exit (named base vs) instead frs w))
    enter_block b m base node value shape vs w is len = record {
      by = λ q k r.
          let e : bound (numbered base m node value shape).inputs vs ≡ named base vs = ap (λ is. bound is vs) (inputs_of base m node value shape) ∙ bound_named base m vs len in
          subst (λ ob. block_point ob vs w q k) (sym is)
          (subst (λ c. Ends (At f (numbered base m node value shape).ops (numbered base m node value shape).exit c instead frs w) q k) (sym e) r);
    }

    -- ---- a part of a tree

    pub record Reached (P Q : Run → ℕ → Type 0) (s t : State) (X : Type 0) : Type 0 where
      pub leads : By s.moments t.moments P Q
      pub after : After s t
      pub post : X

    -- the machine stops where the tree does, and uses no more than the tree holds, what enclosing parts hold, the locals, and what callers use
    pub record Holds (P : Run → ℕ → Type 0) (held rs : List Value) (t : State) (c : ℕ) : Type 0 where
      pub used : List Value
      pub ends : P (over (Some outcome.Running) used t) c
      pub more : (wt : Weight) → total wt.of used ≤ total wt.of rs + total wt.of (values_of t.locals) + total wt.of held + total wt.of (and_some instead (waiting_roots frs))

    -- From P, the machine does what the ending says. A result leads to the place D, an exception to R.
    abbrev pub Sim : {A : Type 0} → (Run → ℕ → Type 0) → List Value → State → (A → State → Place) → (ℕ → State → Place) → (A → State → Type 0) → Ending A → Type 0
    Sim P held s D R X (Done a t) = Reached P (enter (D a t) t.world) s t (X a t)
    Sim P held s D R X (Raised r t) = Reached P (enter (R r t) t.world) s t (Thrown p t.world.heap r)
    Sim P held s D R X (Failed name t) = P (over (Some (outcome.Failed name)) [] t) s.moments
    Sim P held s D R X (Running rs t) = Holds P held rs t s.moments
    Sim P held s D R X Wrong = P wrong_run s.moments

    pub record Runs {A : Type 0} (P : Run → ℕ → Type 0) (held : List Value) (s : State) (D : A → State → Place) (R : ℕ → State → Place) (X : A → State → Type 0) (e : Ending A) : Type 0 where
      pub sim : Sim P held s D R X e

    -- after a stretch of the machine
    before_sim : {A : Type 0} (P Q : Run → ℕ → Type 0) (held : List Value) (s t : State) (D : A → State → Place) (R : ℕ → State → Place) (X : A → State → Type 0) (e : Ending A) → By s.moments t.moments P Q → After s t → Sim Q held t D R X e → Sim P held s D R X e
    before_sim P Q held s t D R X (Done a u) l c r = record { leads = by_on l r.leads; after = after_on c r.after; post = r.post }
    before_sim P Q held s t D R X (Raised x u) l c r = record { leads = by_on l r.leads; after = after_on c r.after; post = r.post }
    before_sim P Q held s t D R X (Failed name u) l c r = l.by _ r
    before_sim P Q held s t D R X (Running rs u) l c r = record { used = r.used; ends = l.by _ r.ends; more = r.more }
    before_sim P Q held s t D R X Wrong l c r = l.by _ r

    pub before : {A : Type 0} {P Q : Run → ℕ → Type 0} {held : List Value} {s t : State} {D : A → State → Place} {R : ℕ → State → Place} {X : A → State → Type 0} {e : Ending A} → By s.moments t.moments P Q → After s t → Runs Q held t D R X e → Runs P held s D R X e
    before {A} {P} {Q} {held} {s} {t} {D} {R} {X} {e} l c r = record { sim = before_sim P Q held s t D R X e l c r.sim }

    pub moved : {A : Type 0} {P Q : Run → ℕ → Type 0} {held : List Value} {s : State} {D : A → State → Place} {R : ℕ → State → Place} {X : A → State → Type 0} {e : Ending A} → Leads P Q → Runs Q held s D R X e → Runs P held s D R X e
    moved {s = s} l r = before (at_moment s.moments l) (at_once s) r

    -- what follows a result
    then_sim : {A B : Type 0} (P : Run → ℕ → Type 0) (held : List Value) (s : State) (D : A → State → Place) (D' : B → State → Place) (R : ℕ → State → Place) (X : A → State → Type 0) (X' : B → State → Type 0) (e : Ending A) (k : A → Eval B)
        → Sim P held s D R X e → ((a : A) (t : State) → After s t → X a t → Runs (enter (D a t) t.world) held t D' R X' (k a t)) → Sim P held s D' R X' (then_go e k)
    then_sim P held s D D' R X X' (Done a t) k r g = before_sim P (enter (D a t) t.world) held s t D' R X' (k a t) r.leads r.after (g a t r.after r.post).sim
    then_sim P held s D D' R X X' (Raised x t) k r g = r
    then_sim P held s D D' R X X' (Failed name t) k r g = r
    then_sim P held s D D' R X X' (Running rs t) k r g = r
    then_sim P held s D D' R X X' Wrong k r g = r

    pub seq : {A B : Type 0} {P : Run → ℕ → Type 0} {held : List Value} {s : State} {D : A → State → Place} {D' : B → State → Place} {R : ℕ → State → Place} {X : A → State → Type 0} {X' : B → State → Type 0} {e : Ending A} {k : A → Eval B}
        → Runs P held s D R X e → ((a : A) (t : State) → After s t → X a t → Runs (enter (D a t) t.world) held t D' R X' (k a t)) → Runs P held s D' R X' (then_go e k)
    seq {A} {B} {P} {held} {s} {D} {D'} {R} {X} {X'} {e} {k} r g = record { sim = then_sim P held s D D' R X X' e k r.sim g }

    -- the same, where what was given is known
    seq_is_sim : {A B : Type 0} (P : Run → ℕ → Type 0) (held : List Value) (s : State) (D : A → State → Place) (D' : B → State → Place) (R : ℕ → State → Place) (X : A → State → Type 0) (X' : B → State → Type 0) (e : Ending A) (k : A → Eval B)
        → Sim P held s D R X e → ((a : A) (t : State) → e ≡ Done a t → After s t → X a t → Runs (enter (D a t) t.world) held t D' R X' (k a t)) → Sim P held s D' R X' (then_go e k)
    seq_is_sim P held s D D' R X X' (Done a t) k r g = before_sim P (enter (D a t) t.world) held s t D' R X' (k a t) r.leads r.after (g a t refl r.after r.post).sim
    seq_is_sim P held s D D' R X X' (Raised x t) k r g = r
    seq_is_sim P held s D D' R X X' (Failed name t) k r g = r
    seq_is_sim P held s D D' R X X' (Running rs t) k r g = r
    seq_is_sim P held s D D' R X X' Wrong k r g = r

    pub seq_is : {A B : Type 0} {P : Run → ℕ → Type 0} {held : List Value} {s : State} {D : A → State → Place} {D' : B → State → Place} {R : ℕ → State → Place} {X : A → State → Type 0} {X' : B → State → Type 0} {e : Ending A} {k : A → Eval B}
        → Runs P held s D R X e → ((a : A) (t : State) → e ≡ Done a t → After s t → X a t → Runs (enter (D a t) t.world) held t D' R X' (k a t)) → Runs P held s D' R X' (then_go e k)
    seq_is {A} {B} {P} {held} {s} {D} {D'} {R} {X} {X'} {e} {k} r g = record { sim = seq_is_sim P held s D D' R X X' e k r.sim g }

    -- the same part, where the machine goes further
    led_sim : {A : Type 0} (P : Run → ℕ → Type 0) (held : List Value) (s : State) (D D' : A → State → Place) (R : ℕ → State → Place) (X X' : A → State → Type 0) (e : Ending A)
        → Sim P held s D R X e → ((a : A) (t : State) → After s t → X a t → Leads (enter (D a t) t.world) (enter (D' a t) t.world) × X' a t) → Sim P held s D' R X' e
    led_sim P held s D D' R X X' (Done a t) r g = let l = g a t r.after r.post in record { leads = by_on r.leads (at_moment t.moments l.0); after = r.after; post = l.1 }
    led_sim P held s D D' R X X' (Raised x t) r g = r
    led_sim P held s D D' R X X' (Failed name t) r g = r
    led_sim P held s D D' R X X' (Running rs t) r g = r
    led_sim P held s D D' R X X' Wrong r g = r

    pub led : {A : Type 0} {P : Run → ℕ → Type 0} {held : List Value} {s : State} {D D' : A → State → Place} {R : ℕ → State → Place} {X X' : A → State → Type 0} {e : Ending A}
        → Runs P held s D R X e → ((a : A) (t : State) → After s t → X a t → Leads (enter (D a t) t.world) (enter (D' a t) t.world) × X' a t) → Runs P held s D' R X' e
    led {A} {P} {held} {s} {D} {D'} {R} {X} {X'} {e} r g = record { sim = led_sim P held s D D' R X X' e r.sim g }

    -- what a part adds to what is held
    hold_sim : {A : Type 0} (P : Run → ℕ → Type 0) (held vs : List Value) (s : State) (D : A → State → Place) (R : ℕ → State → Place) (X : A → State → Type 0) (e : Ending A) → Sim P (held ++ vs) s D R X e → Sim P held s D R X (add_held vs e)
    hold_sim P held vs s D R X (Done a t) r = r
    hold_sim P held vs s D R X (Raised x t) r = r
    hold_sim P held vs s D R X (Failed name t) r = r
    hold_sim P held vs s D R X (Running rs t) r =
        record { used = r.used; ends = r.ends; more = λ wt. omega (arith, r.more wt, total_append wt.of held vs, total_append wt.of rs vs) }
    hold_sim P held vs s D R X Wrong r = r

    pub hold : {A : Type 0} {P : Run → ℕ → Type 0} {held : List Value} {s : State} {D : A → State → Place} {R : ℕ → State → Place} {X : A → State → Type 0} {e : Ending A} (vs : List Value) → Runs P (held ++ vs) s D R X e → Runs P held s D R X (add_held vs e)
    hold {A} {P} {held} {s} {D} {R} {X} {e} vs r = record { sim = hold_sim P held vs s D R X e r.sim }

    -- a part that never runs on holds nothing
    loosen_sim : {A : Type 0} (P : Run → ℕ → Type 0) (held less : List Value) (s : State) (D : A → State → Place) (R : ℕ → State → Place) (X : A → State → Type 0) (e : Ending A) → Quiet e → Sim P held s D R X e → Sim P less s D R X e
    loosen_sim P held less s D R X (Done a t) q r = r
    loosen_sim P held less s D R X (Raised x t) q r = r
    loosen_sim P held less s D R X (Failed name t) q r = r
    loosen_sim P held less s D R X (Running rs t) q r = record { used = r.used; ends = r.ends; more = λ wt. absurd q }
    loosen_sim P held less s D R X Wrong q r = r

    pub loosen : {A : Type 0} {P : Run → ℕ → Type 0} {held : List Value} {s : State} {D : A → State → Place} {R : ℕ → State → Place} {X : A → State → Type 0} {e : Ending A} (less : List Value) → Quiet e → Runs P held s D R X e → Runs P less s D R X e
    loosen {A} {P} {held} {s} {D} {R} {X} {e} less q r = record { sim = loosen_sim P held less s D R X e q r.sim }

    pub reheld : {A : Type 0} {P : Run → ℕ → Type 0} {held : List Value} {s : State} {D : A → State → Place} {R : ℕ → State → Place} {X : A → State → Type 0} {e : Ending A} (other : List Value) → held ≡ other → Runs P held s D R X e → Runs P other s D R X e
    reheld {A} {P} {held} {s} {D} {R} {X} {e} other z r = subst (λ h. Runs P h s D R X e) z r

    -- a result, at once
    pub here : {A : Type 0} {P : Run → ℕ → Type 0} {held : List Value} {s : State} {D : A → State → Place} {R : ℕ → State → Place} {X : A → State → Type 0} {a : A} → Leads P (enter (D a s) s.world) → X a s → Runs P held s D R X (Done a s)
    here {s = s} l x = record { sim = record { leads = at_moment s.moments l; after = at_once s; post = x } }

    pub same_place : (at to : Place) (w : World) → at ≡ to → Leads (enter at w) (enter to w)
    same_place at to w e = record { by = λ q c r. subst (λ x. enter x w q c) (sym e) r }
