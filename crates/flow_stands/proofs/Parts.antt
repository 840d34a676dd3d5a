-- The machine follows what parts of trees are made of.
use Rattle.std.proofs.Common.{◌≡◌, ℕ, zero, suc, ◌+◌, ◌<◌, ◌≤◌, inl, Bool, true, false, cond, List, [], ◌∷◌, ◌++◌, length, get_or, take, Some, None, Option, refl, sym, ap, ◌∙◌, subst, arith, append_assoc, length-append}
use Rattle.std.specs.Prelude.{not, ◌&&◌, map, slice_get, slice_set, if◌then◌else◌}
use Rattle.std.proofs.lemmas.List.{append-nil, length-map, take-append-le}
use Rattle.std.proofs.lemmas.Option.{get_or_from_slice_get}
use Rattle.std.proofs.lemmas.List.{get_or_append_left}
use Rattle.rpy_base.specs.declared.outcome.FailName.{FailName}
use Rattle.rpy_tree.specs.Value.{Value, Ref, Nothing, Object, Listed, Mapped, Instance}
use Rattle.rpy_meaning.specs.declared.row.Covers.{Covers}
use Rattle.rpy_meaning.specs.declared.row.RowOp.{RowOp}
use Rattle.rpy_meaning.specs.declared.row.RowOp.TheVariants as row
use Rattle.rpy_meaning.specs.Tree.{Expr, Program}
use Rattle.rpy_meaning.specs.World.{World, Answer, Gives, Throws, Enters, Bad, throw, bad, failure}
use Rattle.rpy_meaning.specs.Classes.{is_below}
use Rattle.rpy_meaning.specs.Operations.{op, builtin_classes, truth_in, raise_object, raise}
use Rattle.rpy_meaning.specs.Evaluation.{State, Ending, Done, Raised, Failed, Running, Wrong, Eval, then_go, pure}
use Rattle.rpy_meaning.specs.Moments.{is_slight, is_passed_over}
use Rattle.rpy_meaning.specs.Meaning.{Run, class_in, Sem, Behind, operate_holding, operate}
use Rattle.flow_graph.specs.declared.graph.Exit.TheVariants as exit
use Rattle.flow_graph.specs.declared.graph.Graphs.{Graphs}
use Rattle.flow_meaning.specs.Machine.{bind, Frame, State as Spot, Calling, At, Returning, Throwing, jump, answered, operates, chooses, truth_of, step}
use Rattle.flow_meaning.specs.Moments.{gives_value}
use Rattle.flow_meaning.specs.Roots.{waits_for}
use Rattle.flow_stands.proofs.Watches.{Watching}
use Rattle.flow_stands.specs.Places.{range, Aim, Hand, Scope, Jump, first, first_and, hand_jumps, Go, Fork, Does, link, links, act}
use Rattle.flow_stands.specs.Stands.{Is, Acts, Reads, Stand}
use Rattle.flow_stands.proofs.Worlds.{total, Weight, class_of, same, sound_on, Thrown}
use Rattle.flow_stands.proofs.Lists.{Env, pick, named, named_push, look_named, operands_named, operand_none, pick_last, pick_first, pick_kept_and, pick_set, take_first, get_at, among_append, among_range, among_last}
use Rattle.flow_stands.proofs.Core.{Place, place, env, env_push, IsBound, Fit, stored_value, Below, hand_place, Catches, Ends, Leads, leads_on, Free, not_at, step_go, step_strays, enter, jump_to, enter_block, wrong_run, Runs, moved, hold, same_place}
use Rattle.flow_stands.proofs.Acts.{Drops, goes_on, slight_free, throws, behind_is, behind_sim, told_sim, frame, used_here}
use Rattle.flow_stands.proofs.Calls.{Good, called_sim}

-- ---- what stands where

-- locals and values, as many as said
module _ (n : ℕ) (t : State) (long : length t.locals ≡ n) where
  pub wide : (hs : List Value) → length (env t hs) ≡ n + length hs
  wide hs = omega (arith, length-append t.locals (map Some hs), length-map hs Some, long)

  split : (W hs ys : List Value) (rest : Env) → W ≡ hs ++ ys → env t W ++ rest ≡ env t hs ++ (map Some ys ++ rest)
  split W hs ys rest e = ap (λ l. env t l ++ rest) e ∙ ap (λ l. l ++ rest) (env_push t hs ys) ∙ append_assoc (env t hs) (map Some ys) rest

  -- the first ones
  pub land_first : (W hs ys : List Value) (k : ℕ) (rest : Env) → W ≡ hs ++ ys → n + length hs ≡ k → pick (env t W ++ rest) (range 0 k) ≡ env t hs
  land_first W hs ys k rest e at = ap (λ l. pick l (range 0 k)) (split W hs ys rest e) ∙ pick_first k (env t hs) (map Some ys ++ rest) (wide hs ∙ at)

  -- the first ones and the last
  pub land_result : (W hs ys : List Value) (k q : ℕ) (v : Value) → W ≡ hs ++ ys → n + length hs ≡ k → n + length W ≡ q → pick (env t W ++ Some v ∷ []) (range 0 k ++ q ∷ []) ≡ env t (hs ++ v ∷ [])
  land_result W hs ys k q v e at at_q =
      let z : get_or (env t W ++ Some v ∷ []) q None ≡ Some v = get_at q (env t W) (Some v) [] (wide W ∙ at_q) in
      let full : length (env t hs) ≡ k = wide hs ∙ at in
      ap (λ l. pick l (range 0 k ++ q ∷ [])) (split W hs ys (Some v ∷ []) e)
      ∙ pick_kept_and k q (env t hs) (map Some ys ++ Some v ∷ []) (Some v) (omega (arith, full)) (ap (λ l. get_or l q None) (sym (split W hs ys (Some v ∷ []) e)) ∙ z)
      ∙ ap (λ l. l ++ Some v ∷ []) (ap (take k) (sym (append-nil (env t hs))) ∙ take_first k (env t hs) [] full)
      ∙ sym (env_push t hs (v ∷ []))

  pub jump_first : (W hs ys : List Value) (k : ℕ) → W ≡ hs ++ ys → n + length hs ≡ k → pick (env t W) (range 0 k) ≡ env t hs
  jump_first W hs ys k e at = ap (λ l. pick l (range 0 k)) (sym (append-nil (env t W))) ∙ land_first W hs ys k [] e at

  pub jump_and : (W hs ys : List Value) (k q : ℕ) (v : Value) → W ≡ hs ++ ys → n + length hs ≡ k → get_or (env t W) q None ≡ Some v → pick (env t W) (range 0 k ++ q ∷ []) ≡ env t (hs ++ v ∷ [])
  jump_and W hs ys k q v e at z =
      let full : length (env t hs) ≡ k = wide hs ∙ at in
      let is : env t W ≡ env t hs ++ map Some ys = ap (env t) e ∙ env_push t hs ys in
      ap (λ l. pick l (range 0 k ++ q ∷ [])) is
      ∙ pick_kept_and k q (env t hs) (map Some ys) (Some v) (omega (arith, full)) (ap (λ l. get_or l q None) (sym is) ∙ z)
      ∙ ap (λ l. l ++ Some v ∷ []) (ap (take k) (sym (append-nil (env t hs))) ∙ take_first k (env t hs) [] full)
      ∙ sym (env_push t hs (v ∷ []))

  -- the last one as a local
  pub land_store : (W hs ys : List Value) (k q i : ℕ) (v : Value) → W ≡ hs ++ ys → n + length hs ≡ k → n + length W ≡ q → pick (env t W ++ Some v ∷ []) (slice_set (range 0 k) i q) ≡ slice_set (env t hs) i (Some v)
  land_store W hs ys k q i v e at at_q =
      let z : get_or (env t W ++ Some v ∷ []) q None ≡ Some v = get_at q (env t W) (Some v) [] (wide W ∙ at_q) in
      let full : length (env t hs) ≡ k = wide hs ∙ at in
      ap (λ l. pick l (slice_set (range 0 k) i q)) (split W hs ys (Some v ∷ []) e)
      ∙ pick_set k i q (env t hs) (map Some ys ++ Some v ∷ []) (Some v) (omega (arith, full)) (ap (λ l. get_or l q None) (sym (split W hs ys (Some v ∷ []) e)) ∙ z)
      ∙ ap (λ l. slice_set l i (Some v)) (ap (take k) (sym (append-nil (env t hs))) ∙ take_first k (env t hs) [] full)

  -- one of them
  pub land_at : (W hs ys : List Value) (x : Value) (k : ℕ) → W ≡ hs ++ (x ∷ ys) → n + length hs ≡ k → get_or (env t W) k None ≡ Some x
  land_at W hs ys x k e at =
      ap (λ l. get_or l k None) (sym (append-nil (env t W)) ∙ split W hs (x ∷ ys) [] e) ∙ get_at k (env t hs) (Some x) (map Some ys ++ []) (wide hs ∙ at)

  -- the last ones
  pub land_last : (W hs vs : List Value) (k : ℕ) → W ≡ hs ++ vs → n + length hs ≡ k → pick (env t W) (range k (length vs)) ≡ map Some vs
  land_last W hs vs k e at =
      ap (λ l. pick l (range k (length vs))) (ap (env t) e ∙ env_push t hs vs)
      ∙ ap (λ c. pick (env t hs ++ map Some vs) (range k c)) (sym (length-map vs Some))
      ∙ pick_last k (env t hs) (map Some vs) (wide hs ∙ at)

  pub land_local : (W : List Value) (i : ℕ) → i < n → get_or (env t W) i None ≡ get_or t.locals i None
  land_local W i lt = get_or_append_left t.locals (map Some W) None i (omega (arith, lt, long))

some_at : (vs : List Value) (k : ℕ) → k < length vs → (y : Value) × (get_or (map Some vs) k None ≡ Some y)
some_at [] k lt = absurd (omega arith)
some_at (v ∷ vs) zero lt = (v, refl)
some_at (v ∷ vs) (suc k) lt = some_at vs k (omega arith)

-- what is behind the locals is bound
pub bound_at : (base : Env) (vs : List Value) (k : ℕ) → length base ≤ k → k < length base + length vs → (y : Value) × (get_or (base ++ map Some vs) k None ≡ Some y)
bound_at [] vs k le lt = some_at vs k (omega arith)
bound_at (b ∷ base) vs zero le lt = absurd (omega arith)
bound_at (b ∷ base) vs (suc k) le lt = bound_at base vs k (omega arith) (omega arith)

-- a local that is bound
pub bound_read : (t : State) (i : ℕ) (v : Value) → slice_get t.locals i ≡ Some (Some v) → get_or t.locals i None ≡ Some v
bound_read t i v e = get_or_from_slice_get t.locals i (Some v) None e

-- what goes on behind an operation: the first variables, perhaps with its result
pub result_goes_on : (m q to : ℕ) (o : RowOp) (xs st : List Value) → Drops m q o (first_and to m q) xs st
result_goes_on m q to o xs st = inl (λ i le lt. among_append i (range 0 m) (q ∷ []) (among_range 0 m i (omega (arith, le))) (among_last i q lt))

pub first_go_on : (m q to keep : ℕ) (o : RowOp) (xs st : List Value) → keep ≤ m → Drops m q o (first to keep) xs st
first_go_on m q to keep o xs st less = inl (λ i le lt. among_range 0 keep i (omega (arith, less, le)))

-- ---- endings

pub assoc : {A B C : Type 0} (e : Ending A) (f : A → Eval B) (g : B → Eval C) → then_go (then_go e f) g ≡ then_go e (λ a s. then_go (f a s) g)
assoc (Done a s) f g = refl
assoc (Raised r s) f g = refl
assoc (Failed name s) f g = refl
assoc (Running rs s) f g = refl
assoc Wrong f g = refl

module _ (p : Program) (gs : Graphs) (wa : Watching) where
  pub take_less : (n : ℕ) (t : State) (held vs : List Value) (k m : ℕ) → length t.locals ≡ n → n + length held ≡ m → k ≤ m → take k (env t (held ++ vs)) ≡ take k (env t held)
  take_less n t held vs k m long at le =
      ap (take k) (env_push t held vs) ∙ take-append-le k (env t held) (map Some vs) (omega (arith, wide n t long held, at, le))

  hand_less : (hands : List Hand) (d : Aim) (a b : Env) (r c m : ℕ) → ((k : ℕ) → k ≤ m → take k a ≡ take k b) → d.keep ≤ m → Below m hands → hand_place p gs wa hands d a r c ≡ hand_place p gs wa hands d b r c
  hand_less [] d a b r c m same le below = ap (λ l. place d.to (l ++ Some (Ref r) ∷ [])) (same d.keep le)
  hand_less (h ∷ hands) d a b r c m same le below =
      ap (λ l. cond (is_below p.classes c h.class) (place h.aim.to (stored_value l h.local r)) (hand_place p gs wa hands d a r c)) (same h.aim.keep below.0)
      ∙ ap (cond (is_below p.classes c h.class) (place h.aim.to (stored_value (take h.aim.keep b) h.local r))) (hand_less hands d a b r c m same le below.1)

  pub below_more : (hands : List Hand) (m k : ℕ) → m ≤ k → Below m hands → Below k hands
  below_more [] m k le h = tt
  below_more (x ∷ hands) m k le h = (omega (arith, le, h.0), below_more hands m k le h.1)

  -- what is held besides is dropped on the way to a handler
  pub catches_more : {n m : ℕ} {sc : Scope} {held : List Value} {R : ℕ → State → Place} (vs : List Value) (k : ℕ) → m + length vs ≡ k → Catches p gs wa n m sc held R → Catches p gs wa n k sc (held ++ vs) R
  catches_more {n} {m} {sc} {held} {R} vs k at c = record {
    all = omega (arith, c.all, length-append held vs, at);
    default = omega (arith, c.default, at);
    hands = below_more sc.hands m k (omega (arith, at)) c.hands;
    taken = λ r t long.
        hand_less sc.hands sc.default (env t (held ++ vs)) (env t held) r (class_in t.world r) m (λ k le. take_less n t held vs k m long c.all le) c.default c.hands
        ∙ c.taken r t long;
  }

-- a value, one variable more
abbrev pub vals : ℕ → List Value → Value → State → Place
vals q held v t = place q (env t (held ++ v ∷ []))

-- values
abbrev pub lists : ℕ → List Value → List Value → State → Place
lists q held vs t = place q (env t (held ++ vs))

abbrev pub stay_at : ℕ → List Value → {A : Type 0} → A → State → Place
stay_at q held a t = place q (env t held)

-- the locals that a test reads are bound behind it
abbrev pub Reading : Expr → {A : Type 0} → A → State → Type 0
Reading e a t = (i : ℕ) → Reads e i → IsBound t.locals i

-- the locals that were read are bound
abbrev pub ReadBy : Expr → Value → State → Type 0
ReadBy e v t = (i : ℕ) → Reads e i → IsBound t.locals i

module _ (p : Program) (gs : Graphs) (wa : Watching) (builtins : (k : ℕ) → k < builtin_classes → is_below p.classes k 0 ≡ true) (stand : Stand p gs) (prev : Sem) (top : ℕ) (good : Good p gs wa prev top) (f n : ℕ) (instead : Option Value) (frs : List Frame) where
  abbrev pub Follow : {A : Type 0} → (Run → ℕ → Type 0) → List Value → State → (A → State → Place) → (ℕ → State → Place) → (A → State → Type 0) → Ending A → Type 0
  Follow P held s D R X e = Runs p gs wa f instead frs P held s D R X e

  abbrev pub go_in : Place → World → Run → ℕ → Type 0
  go_in = enter p gs wa f instead frs

  abbrev pub To : (Run → ℕ → Type 0) → (Run → ℕ → Type 0) → Type 0
  To P Q = Leads p gs wa P Q

  abbrev pub Holding : ℕ → Scope → List Value → (ℕ → State → Place) → Type 0
  Holding m sc held R = Catches p gs wa n m sc held R

  pub same_as : (at to : Place) (w : World) → at ≡ to → To (go_in at w) (go_in to w)
  same_as at to w e = same_place p gs wa f instead frs at to w e

  -- a block that goes on at once
  pub jumps : (b m : ℕ) (j : Jump) (W : List Value) (s : State) (vs : Env) → Is p gs f n b m (Go j) → length (env s W) ≡ m → pick (env s W) j.places ≡ vs → To (go_in (place b (env s W)) s.world) (go_in (place j.to vs) s.world)
  jumps b m j W s vs is len e =
      leads_on p gs wa (enter_block p gs wa f instead frs b m is.0 is.1 is.2 (Go j) (env s W) s.world is.3 len)
      (leads_on p gs wa (jump_to p gs wa f instead frs (At f [] (exit.Goto (link is.0 j)) (named is.0 (env s W)) instead frs s.world) is.0 (env s W) j s.world (refl, refl) refl)
      (same_as (place j.to (pick (env s W) j.places)) (place j.to vs) s.world (ap (place j.to) e)))

  module _ (m : ℕ) (sc : Scope) (held : List Value) (R : ℕ → State → Place) (c : Holding m sc held R) (s : State) (fit : Fit (suc top) n s) where
    -- a block of an operation, with more variables
    module _ (W xs : List Value) (are : W ≡ held ++ xs) (b q : ℕ) (o : RowOp) (args : List ℕ) (norm : Jump) (vs : List Value) (is : Acts p gs f n sc b o args q norm) (at_q : m + length xs ≡ q) (picked : pick (env s W) args ≡ map Some vs) where
      vars_is : env s W ≡ env s held ++ map Some xs
      vars_is = ap (env s) are ∙ env_push s held xs

      at_len : q ≡ length (env s held ++ map Some xs)
      at_len = omega (arith, length-append (env s held) (map Some xs), length-map xs Some, wide n s fit.long held, c.all, at_q)

      picked' : pick (env s held ++ map Some xs) args ≡ map Some vs
      picked' = ap (λ l. pick l args) (sym vars_is) ∙ picked

      entered_block : To (go_in (place b (env s W)) s.world) (Ends p gs wa (At f (act is.0 q is.1 is.2 o args sc.covers ∷ []) (exit.OnRaise (is.0 + q) (links is.0 (hand_jumps q sc.hands)) (Some (link is.0 (first_and sc.default.to sc.default.keep q))) (link is.0 norm)) (named is.0 (env s held ++ map Some xs)) instead frs s.world))
      entered_block =
          leads_on p gs wa (same_as (place b (env s W)) (place b (env s held ++ map Some xs)) s.world (ap (place b) vars_is))
          (enter_block p gs wa f instead frs b q is.0 is.1 is.2 (Does o args sc.covers (hand_jumps q sc.hands) (first_and sc.default.to sc.default.keep q) norm) (env s held ++ map Some xs) s.world is.3 (sym at_len))

      does : (w : World) → step p gs (At f (act is.0 q is.1 is.2 o args sc.covers ∷ []) (exit.OnRaise (is.0 + q) (links is.0 (hand_jumps q sc.hands)) (Some (link is.0 (first_and sc.default.to sc.default.keep q))) (link is.0 norm)) (named is.0 (env s held ++ map Some xs)) instead frs w)
          ≡ answered p gs f (act is.0 q is.1 is.2 o args sc.covers) [] (exit.OnRaise (is.0 + q) (links is.0 (hand_jumps q sc.hands)) (Some (link is.0 (first_and sc.default.to sc.default.keep q))) (link is.0 norm)) (named is.0 (env s held ++ map Some xs)) instead frs w (op p sc.covers o vs w)
      does w = ap (λ us. operates p gs f (act is.0 q is.1 is.2 o args sc.covers) [] (exit.OnRaise (is.0 + q) (links is.0 (hand_jumps q sc.hands)) (Some (link is.0 (first_and sc.default.to sc.default.keep q))) (link is.0 norm)) (named is.0 (env s held ++ map Some xs)) instead frs w us) (operands_named is.0 (env s held ++ map Some xs) args vs picked')

      -- a slight one that gives a value
      pub gives_on : is_slight o ≡ true → (v : Value) (to : Env) → op p sc.covers o vs s.world ≡ Gives v s.world → pick (env s W ++ Some v ∷ []) norm.places ≡ to → To (go_in (place b (env s W)) s.world) (go_in (place norm.to to) s.world)
      gives_on slight v to e land =
          let its = act is.0 q is.1 is.2 o args sc.covers in
          let ex = exit.OnRaise (is.0 + q) (links is.0 (hand_jumps q sc.hands)) (Some (link is.0 (first_and sc.default.to sc.default.keep q))) (link is.0 norm) in
          let at = At f (its ∷ []) ex (named is.0 (env s held ++ map Some xs)) instead frs s.world in
          let z : step p gs at ≡ answered p gs f its [] ex (named is.0 (env s held ++ map Some xs)) instead frs s.world (Gives v s.world) = does s.world ∙ ap (answered p gs f its [] ex (named is.0 (env s held ++ map Some xs)) instead frs s.world) e in
          leads_on p gs wa entered_block
          (leads_on p gs wa
          (goes_on p gs wa builtins f instead frs n m sc held R c (suc top) s fit xs q is.0 is.1 is.2 o args norm vs at_len picked' at v s.world
          (slight_free p gs wa builtins f instead frs n m sc held R c (suc top) s fit xs q is.0 is.1 is.2 o args norm vs at_len picked' v s.world slight e) z)
          (same_as (place norm.to (pick ((env s held ++ map Some xs) ++ Some v ∷ []) norm.places)) (place norm.to to) s.world (ap (place norm.to) (ap (λ l. pick (l ++ Some v ∷ []) norm.places) (sym vars_is) ∙ land))))

      -- one that no operands are for
      pub strays_on : is_slight o ≡ true → op p sc.covers o vs s.world ≡ Bad → (moment : ℕ) → go_in (place b (env s W)) s.world (wrong_run p gs wa) moment
      strays_on slight e moment =
          let its = act is.0 q is.1 is.2 o args sc.covers in
          let ex = exit.OnRaise (is.0 + q) (links is.0 (hand_jumps q sc.hands)) (Some (link is.0 (first_and sc.default.to sc.default.keep q))) (link is.0 norm) in
          let at = At f (its ∷ []) ex (named is.0 (env s held ++ map Some xs)) instead frs s.world in
          entered_block.by _ moment
          (step_strays p gs wa at moment moment (not_at p gs wa at moment (ap not slight)) (does s.world ∙ ap (answered p gs f its [] ex (named is.0 (env s held ++ map Some xs)) instead frs s.world) e))

      -- one that throws
      pub throws_on : is_slight o ≡ true → (r : ℕ) → op p sc.covers o vs s.world ≡ Throws r s.world → To (go_in (place b (env s W)) s.world) (go_in (R r s) s.world)
      throws_on slight r e =
          let its = act is.0 q is.1 is.2 o args sc.covers in
          let ex = exit.OnRaise (is.0 + q) (links is.0 (hand_jumps q sc.hands)) (Some (link is.0 (first_and sc.default.to sc.default.keep q))) (link is.0 norm) in
          let at = At f (its ∷ []) ex (named is.0 (env s held ++ map Some xs)) instead frs s.world in
          leads_on p gs wa entered_block
          (record {
            by = λ run moment go.
                (throws p gs wa builtins f instead frs n m sc held R c (suc top) s fit xs q is.0 is.1 is.2 o args norm vs at_len picked' at moment moment (not_at p gs wa at moment (ap not slight))
                (behind_is p gs wa builtins f instead frs n m sc held R c (suc top) s fit xs q is.0 is.1 is.2 o args norm vs at_len picked' (Throws r s.world) s.world e) r s.world s.moments
                (does s.world ∙ ap (answered p gs f its [] ex (named is.0 (env s held ++ map Some xs)) instead frs s.world) e)).by run go;
          })

      -- the tree does it, too
      pub acts_holding : (st hold : List Value) (D : Value → State → Place) (X : Value → State → Type 0) → Drops m q o norm xs st → ((wt : Weight) → total wt.of xs ≤ total wt.of hold) → ((wt : Weight) → total wt.of xs ≤ total wt.of vs)
          → ((v : Value) (w : World) (k : ℕ) → (place norm.to (pick (env s W ++ Some v ∷ []) norm.places) ≡ D v (record s { world = w; moments = k })) × X v (record s { world = w; moments = k }))
          → Follow (go_in (place b (env s W)) s.world) held s D R X (operate_holding p wa.watch prev st hold sc.covers o vs s)
      acts_holding st hold D X drops small operands lands =
          let its = act is.0 q is.1 is.2 o args sc.covers in
          let ex = exit.OnRaise (is.0 + q) (links is.0 (hand_jumps q sc.hands)) (Some (link is.0 (first_and sc.default.to sc.default.keep q))) (link is.0 norm) in
          let fr = frame p gs wa builtins f instead frs n m sc held R c (suc top) s fit xs q is.0 is.1 is.2 o args norm vs at_len picked' in
          let place_is = λ (v : Value). let z : place norm.to (pick ((env s held ++ map Some xs) ++ Some v ∷ []) norm.places) ≡ place norm.to (pick (env s W ++ Some v ∷ []) norm.places) = ap (λ l. place norm.to (pick (l ++ Some v ∷ []) norm.places)) (sym vars_is) in z in
          moved p gs wa f instead frs entered_block
          (told_sim p gs wa builtins f instead frs n m sc held R c (suc top) s fit xs q is.0 is.1 is.2 o args norm vs at_len picked' D X st drops prev hold small
          (λ v w k e. let l = lands v w k in (place_is v ∙ l.0, l.1))
          (λ g us other w j e later passes.
          called_sim p gs wa f instead frs fr held vs s D R X (λ v u. then_go (wa.watch (Behind o) (v ∷ st) u) (λ a. pure v))
          (λ v w k.
          behind_sim p gs wa builtins f instead frs n m sc held R c (suc top) s fit xs q is.0 is.1 is.2 o args norm vs at_len picked' D X st drops (Returning v (fr ∷ frs) w) v w k k (not_at p gs wa (Returning v (fr ∷ frs) w) k refl) refl refl
          (λ i. let l = lands v w i in (place_is v ∙ l.0, l.1)))
          (λ r w k.
          throws p gs wa builtins f instead frs n m sc held R c (suc top) s fit xs q is.0 is.1 is.2 o args norm vs at_len picked' (Throwing r (fr ∷ frs) w) k k (not_at p gs wa (Throwing r (fr ∷ frs) w) k refl) refl r w k refl)
          (λ wt. let z = used_here p gs wa builtins f instead frs n m sc held R c (suc top) s fit xs q is.0 is.1 is.2 o args norm vs at_len picked' wt (waits_for fr) in omega (arith, z, operands wt))
          g us other passes prev top good (Calling g us other (fr ∷ frs) w) w j (slice_get p.functions g) (stand g) (omega (arith, later.left, fit.low)) (sound_on later fit.sound) refl refl refl refl refl))

      pub acts : (hold : List Value) (D : Value → State → Place) (X : Value → State → Type 0) → Drops m q o norm xs [] → ((wt : Weight) → total wt.of xs ≤ total wt.of hold) → ((wt : Weight) → total wt.of xs ≤ total wt.of vs)
          → ((v : Value) (w : World) (k : ℕ) → (place norm.to (pick (env s W ++ Some v ∷ []) norm.places) ≡ D v (record s { world = w; moments = k })) × X v (record s { world = w; moments = k }))
          → Follow (go_in (place b (env s W)) s.world) held s D R X (operate p wa.watch prev hold sc.covers o vs s)
      acts hold D X drops small operands lands = acts_holding [] hold D X drops small operands lands

  -- ---- a raise

  abbrev pub OnlyThrows : Answer → Type 0
  OnlyThrows (Gives v w) = ⊥
  OnlyThrows (Enters g us other w) = ⊥
  OnlyThrows other = Unit {0}

  raise_object_throws : (c : Covers) (r : ℕ) (o : Option Object) (w : World) → OnlyThrows (raise_object p c r o w)
  raise_object_throws c r (Some (Instance class attributes)) w = either (is_below p.classes class 0)
    where
      either : (b : Bool) → OnlyThrows ((if b then throw r else bad) w)
      either true = tt
      either false = tt
  raise_object_throws c r o w = tt

  failure_throws : (b : Bool) (class : ℕ) (name : FailName) (w : World) → OnlyThrows (failure b class name w)
  failure_throws true class name w = tt
  failure_throws false class name w = tt

  raise_one : (c : Covers) (x : Value) (w : World) → OnlyThrows (raise p c x w)
  raise_one c (Ref r) w = raise_object_throws c r (slice_get w.heap r) w
  raise_one c Nothing w = failure_throws c.attribute _ _ w
  raise_one c x w = tt

  raise_throws : (c : Covers) (vs : List Value) (w : World) → OnlyThrows (op p c row.Raise vs w)
  raise_throws c [] w = tt
  raise_throws c (x ∷ []) w = raise_one c x w
  raise_throws c (x ∷ y ∷ vs) w = tt

  raised_by : (c : Covers) (r class : ℕ) (o : Option Object) (w : World) → class_of o ≡ Some class → is_below p.classes class 0 ≡ true → raise_object p c r o w ≡ Throws r w
  raised_by c r class (Some (Instance d attributes)) w e below =
      let x : d ≡ class = cc in
      ap (λ b. (if b then throw r else bad) w) (ap (λ k. is_below p.classes k 0) x ∙ below)
  raised_by c r class (Some (Listed vs)) w e below = absurd (cc e)
  raised_by c r class (Some (Mapped pairs)) w e below = absurd (cc e)
  raised_by c r class None w e below = absurd (cc e)

  -- an exception is raised again
  pub raised_again : (c : Covers) (r : ℕ) (w : World) → Thrown p w.heap r → op p c row.Raise (Ref r ∷ []) w ≡ Throws r w
  raised_again c r w t = raised_by c r t.class (slice_get w.heap r) w t.is t.below

  pub raises_sim : (m : ℕ) (sc : Scope) (held : List Value) (R : ℕ → State → Place) → Holding m sc held R → (s : State) → Fit (suc top) n s
      → (W xs : List Value) → W ≡ held ++ xs → (b q : ℕ) (args : List ℕ) (norm : Jump) (vs : List Value) → Acts p gs f n sc b row.Raise args q norm → m + length xs ≡ q → pick (env s W) args ≡ map Some vs
      → (hold : List Value) (D : Value → State → Place) (X : Value → State → Type 0) → Drops m q row.Raise norm xs [] → ((wt : Weight) → total wt.of xs ≤ total wt.of hold)
      → Follow (go_in (place b (env s W)) s.world) held s D R X (operate p wa.watch prev hold sc.covers row.Raise vs s)
  raises_sim m sc held R c s fit W xs are b q args norm vs is at_q picked hold D X drops small =
      let len = at_len m sc held R c s fit W xs are b q row.Raise args norm vs is at_q picked in
      let pk = picked' m sc held R c s fit W xs are b q row.Raise args norm vs is at_q picked in
      moved p gs wa f instead frs (entered_block m sc held R c s fit W xs are b q row.Raise args norm vs is at_q picked)
      (told_sim p gs wa builtins f instead frs n m sc held R c (suc top) s fit xs q is.0 is.1 is.2 row.Raise args norm vs len pk D X [] drops prev hold small
      (λ v w k e. absurd (subst OnlyThrows e (raise_throws sc.covers vs s.world)))
      (λ g us other w j e later passes. absurd (subst OnlyThrows e (raise_throws sc.covers vs s.world))))

  -- a block of an operation whose operand is unbound
  pub unbound_on : (m : ℕ) (sc : Scope) (W : List Value) (s : State) (b i : ℕ) (o : RowOp) (norm : Jump) → Acts p gs f n sc b o (i ∷ []) m norm → length (env s W) ≡ m → get_or (env s W) i None ≡ None → is_slight o ≡ true → (moment : ℕ) → go_in (place b (env s W)) s.world (wrong_run p gs wa) moment
  unbound_on m sc W s b i o norm is len e slight moment =
      let its = act is.0 m is.1 is.2 o (i ∷ []) sc.covers in
      let ex = exit.OnRaise (is.0 + m) (links is.0 (hand_jumps m sc.hands)) (Some (link is.0 (first_and sc.default.to sc.default.keep m))) (link is.0 norm) in
      (enter_block p gs wa f instead frs b m is.0 is.1 is.2 (Does o (i ∷ []) sc.covers (hand_jumps m sc.hands) (first_and sc.default.to sc.default.keep m) norm) (env s W) s.world is.3 len).by _ moment
      (step_strays p gs wa (At f (its ∷ []) ex (named is.0 (env s W)) instead frs s.world) moment moment (not_at p gs wa (At f (its ∷ []) ex (named is.0 (env s W)) instead frs s.world) moment (ap not slight)) (ap (operates p gs f its [] ex (named is.0 (env s W)) instead frs s.world) (operand_none is.0 (env s W) i e)))

  -- ---- a copy, which raises nothing, wherever it has its ways by exception

  pub copy_on : (b q i : ℕ) (covers : Covers) (hands : List (ℕ × Jump)) (default norm : Jump) (W : List Value) (t : State) (v : Value) (to : Env) → Is p gs f n b q (Does row.Copy (i ∷ []) covers hands default norm) → length (env t W) ≡ q → get_or (env t W) i None ≡ Some v
      → pick (env t W ++ Some v ∷ []) norm.places ≡ to → To (go_in (place b (env t W)) t.world) (go_in (place norm.to to) t.world)
  copy_on b q i covers hands default norm W t v to is len at land =
      let its = act is.0 q is.1 is.2 row.Copy (i ∷ []) covers in
      let ex = exit.OnRaise (is.0 + q) (links is.0 hands) (Some (link is.0 default)) (link is.0 norm) in
      let spot = At f (its ∷ []) ex (named is.0 (env t W)) instead frs t.world in
      let behind = At f [] ex (named is.0 (env t W) ++ bind (is.0 + q) (Some v) ∷ []) instead frs t.world in
      let read = operands_named is.0 (env t W) (i ∷ []) (v ∷ []) (ap (λ (x : Option Value). x ∷ []) at) in
      leads_on p gs wa (enter_block p gs wa f instead frs b q is.0 is.1 is.2 (Does row.Copy (i ∷ []) covers hands default norm) (env t W) t.world is.3 len)
      (leads_on p gs wa
      (step_go p gs wa spot behind (refl, ap (λ us. gives_value p its t.world us && not (is_passed_over (Behind row.Copy))) read) (ap (λ us. operates p gs f its [] ex (named is.0 (env t W)) instead frs t.world us) read))
      (leads_on p gs wa
      (jump_to p gs wa f instead frs behind is.0 (env t W ++ Some v ∷ []) norm t.world (refl, refl) (ap (λ c. jump gs f frs t.world instead c (link is.0 norm)) (ap (λ k. named is.0 (env t W) ++ bind (is.0 + k) (Some v) ∷ []) (sym len) ∙ sym (named_push is.0 (env t W) (Some v)))))
      (same_as (place norm.to (pick (env t W ++ Some v ∷ []) norm.places)) (place norm.to to) t.world (ap (place norm.to) land))))

  -- ---- a fork

  pub fork_on : (b q test : ℕ) (so other : Jump) (W : List Value) (t : State) (x : Value) (go : Bool) → Is p gs f n b q (Fork test so other) → length (env t W) ≡ q → get_or (env t W) test None ≡ Some x → truth_in t.world x ≡ Some go
      → To (go_in (place b (env t W)) t.world) (go_in (place (cond go so other).to (pick (env t W) (cond go so other).places)) t.world)
  fork_on b q test so other W t x go is len at z =
      let spot = At f [] (exit.If (is.0 + test) (link is.0 so) (link is.0 other)) (named is.0 (env t W)) instead frs t.world in
      leads_on p gs wa (enter_block p gs wa f instead frs b q is.0 is.1 is.2 (Fork test so other) (env t W) t.world is.3 len)
      (forked go spot (refl, refl) is.0 (ap (λ v. chooses gs f frs t.world instead (named is.0 (env t W)) (link is.0 so) (link is.0 other) (truth_of t.world v)) (look_named is.0 test (env t W) ∙ at) ∙ ap (chooses gs f frs t.world instead (named is.0 (env t W)) (link is.0 so) (link is.0 other)) z))
    where
      forked : (go : Bool) (spot : Spot) → Free p gs wa spot → (base : ℕ) → step p gs spot ≡ chooses gs f frs t.world instead (named base (env t W)) (link base so) (link base other) (Some go) → To (Ends p gs wa spot) (go_in (place (cond go so other).to (pick (env t W) (cond go so other).places)) t.world)
      forked true spot free base e = jump_to p gs wa f instead frs spot base (env t W) so t.world free e
      forked false spot free base e = jump_to p gs wa f instead frs spot base (env t W) other t.world free e

  pub fork_strays : (b q test : ℕ) (so other : Jump) (W : List Value) (t : State) (x : Value) → Is p gs f n b q (Fork test so other) → length (env t W) ≡ q → get_or (env t W) test None ≡ Some x → truth_in t.world x ≡ None
      → (moment : ℕ) → go_in (place b (env t W)) t.world (wrong_run p gs wa) moment
  fork_strays b q test so other W t x is len at z moment =
      let spot = At f [] (exit.If (is.0 + test) (link is.0 so) (link is.0 other)) (named is.0 (env t W)) instead frs t.world in
      (enter_block p gs wa f instead frs b q is.0 is.1 is.2 (Fork test so other) (env t W) t.world is.3 len).by _ moment
      (step_strays p gs wa spot moment moment (not_at p gs wa spot moment refl) (ap (λ v. chooses gs f frs t.world instead (named is.0 (env t W)) (link is.0 so) (link is.0 other) (truth_of t.world v)) (look_named is.0 test (env t W) ∙ at) ∙ ap (chooses gs f frs t.world instead (named is.0 (env t W)) (link is.0 so) (link is.0 other)) z))
