-- With more steps, and at a higher level, a run ends the same, unless it was still running.
use Rattle.std.proofs.Common.{◌≡◌, ℕ, zero, suc, ◌+◌, ◌-◌, ◌<◌, ◌≤◌, List, [], ◌∷◌, Bool, true, false, Some, None, Option, refl, sym, ap, ◌∙◌, subst, arith}
use Rattle.std.specs.Prelude.{length, slice_get, nat_lt, if◌then◌else◌}
use Rattle.std.proofs.Math.Nat.{le_refl}
use Rattle.std.proofs.lemmas.Bool.{ltb-false, le-ltb}
use Rattle.rpy_base.specs.declared.outcome.Outcome.{Outcome}
use Rattle.rpy_base.specs.declared.outcome.Outcome.TheVariants as outcome
use Rattle.std.specs.Prelude.{ℤ}
use Rattle.rpy_tree.specs.Value.{Value, Nothing, Ref}
use Rattle.rpy_meaning.specs.declared.row.Covers.{Covers}
use Rattle.rpy_meaning.specs.declared.row.RowOp.{RowOp}
use Rattle.rpy_meaning.specs.declared.row.RowOp.TheVariants as row
use Rattle.rpy_meaning.specs.Tree.{Expr, Local, Constant, Apply, And, Or, Display, Comprehension, Exprs, none, more, Pairs, no_pairs, pair, Subject, Over, UpTo, FromTo, Condition, Always, Where, Target, Name, Attribute, Item, Parts, Targets, no_targets, more_targets, Stmt, Pass, Break, Continue, Return, Do, Assign, Augment, If, While, For, Try, Finally, Block, done, line, Clauses, no_clauses, clause, Function, Program}
use Rattle.rpy_meaning.specs.World.{Answer, Gives, Throws, Fails, Lacks, Enters, Bad}
use Rattle.rpy_meaning.specs.Laws.{with_more, SameWithMore, OnLater}
use Rattle.rpy_meaning.specs.Operations.{op}
use Rattle.rpy_meaning.specs.Classes.{takes, covers_within, no_covers}
use Rattle.rpy_meaning.specs.Evaluation.{State, Ending, Done, Raised, Failed, Running, Wrong, Eval, then_go, ◌>>=◌, ◌>>◌, pure, raised, wrong, holding, add_held, pay, bound, local, set_local, set_local_if_any, known, is_so, Flow, Next, Broken, Continued, Returned, next_or, after_turn, pending, finally, leaving, parameters}
use Rattle.rpy_meaning.specs.Meaning.{Sem, Task, Body, Loop, Turns, Gather, Walking, walk_holds, unwatched, frame, entered, called, answered, operate, perform, on_walk, turn, turns, gather, value, values, store_pairs, begin, keeps, take, take_parts, bind, target_count, assign, augment, loop, each_item, tried, statement, block, handle, task, within, class_in, start, over, returned, name_of, ended, mean, prebuilt}
use Rattle.rpy_meaning.specs.Bounds.{EndsAlike}
use Rattle.rpy_meaning.proofs.Lawful.{lawful}
use Rattle.rpy_meaning.proofs.Steady.{none_more, steady}

module _ (k : ℕ) where
  abbrev add : State → State
  add s = record s { world = with_more k s.world }

  -- an ending, with at most so many steps left, and that with more steps
  abbrev Follows : {A : Type 0} → ℕ → Ending A → Ending A → Type 0
  Follows most (Done a t) e = (t.world.left ≤ most) × (e ≡ Done a (add t))
  Follows most (Raised r t) e = (t.world.left ≤ most) × (e ≡ Raised r (add t))
  Follows most (Failed name t) e = e ≡ Failed name (add t)
  Follows most (Running held t) e = k ≡ 0 → e ≡ Running held t
  Follows most Wrong e = e ≡ Wrong

  weaker : {A : Type 0} (low high : ℕ) (e e' : Ending A) → low ≤ high → Follows low e e' → Follows high e e'
  weaker low high (Done a t) e' le h = (omega (arith, le, h.0), h.1)
  weaker low high (Raised r t) e' le h = (omega (arith, le, h.0), h.1)
  weaker low high (Failed name t) e' le h = h
  weaker low high (Running held t) e' le h = h
  weaker low high Wrong e' le h = h

  -- from each state with fewer steps
  record Good {A : Type 0} (most : ℕ) (m m' : Eval A) : Type 0 where
    law : (s : State) → s.world.left < most → Follows s.world.left (m s) (m' (add s))

  lower : {A : Type 0} {most : ℕ} {m m' : Eval A} → Good (suc most) m m' → Good most m m'
  lower g = record { law = λ s le. g.law s (omega (arith, le)) }

  pure_good : {A : Type 0} {most : ℕ} (a : A) → Good most (pure a) (pure a)
  pure_good a = record { law = λ s le. (le_refl s.world.left, refl) }

  wrong_good : {A : Type 0} {most : ℕ} → Good {A = A} most wrong wrong
  wrong_good = record { law = λ s le. refl }

  raised_good : {A : Type 0} {most : ℕ} (r : ℕ) → Good {A = A} most (raised r) (raised r)
  raised_good r = record { law = λ s le. (le_refl s.world.left, refl) }

  then_follows : {A B : Type 0} (most left : ℕ) (f f' : A → Eval B) → ((a : A) → Good most (f a) (f' a)) → left < most → (e e' : Ending A) → Follows left e e' → Follows left (then_go e f) (then_go e' f')
  then_follows most left f f' g le (Done a t) e' h =
      subst (λ e. Follows left (f a t) (then_go e f')) (sym h.1) (weaker t.world.left left (f a t) (f' a (add t)) h.0 ((g a).law t (omega (arith, le, h.0))))
  then_follows most left f f' g le (Raised r t) e' h = (h.0, ap (λ e. then_go e f') h.1)
  then_follows most left f f' g le (Failed name t) e' h = ap (λ e. then_go e f') h
  then_follows most left f f' g le (Running held t) e' h = λ z. ap (λ e. then_go e f') (h z)
  then_follows most left f f' g le Wrong e' h = ap (λ e. then_go e f') h

  bind_good : {A B : Type 0} {most : ℕ} {m m' : Eval A} {f f' : A → Eval B} → Good most m m' → ((a : A) → Good most (f a) (f' a)) → Good most (m >>= f) (m' >>= f')
  bind_good {most} {m} {m'} {f} {f'} g h = record { law = λ s le. then_follows most s.world.left f f' h le (m s) (m' (add s)) (g.law s le) }

  then_good : {A B : Type 0} {most : ℕ} {m m' : Eval A} {n n' : Eval B} → Good most m m' → Good most n n' → Good most (m >> n) (m' >> n')
  then_good g h = bind_good g (λ a. h)

  held_follows : {A : Type 0} (left : ℕ) (vs : List Value) (e e' : Ending A) → Follows left e e' → Follows left (add_held vs e) (add_held vs e')
  held_follows left vs (Done a t) e' h = (h.0, ap (add_held vs) h.1)
  held_follows left vs (Raised r t) e' h = (h.0, ap (add_held vs) h.1)
  held_follows left vs (Failed name t) e' h = ap (add_held vs) h
  held_follows left vs (Running held t) e' h = λ z. ap (add_held vs) (h z)
  held_follows left vs Wrong e' h = ap (add_held vs) h

  holding_good : {A : Type 0} {most : ℕ} (vs : List Value) {m m' : Eval A} → Good most m m' → Good most (holding vs m) (holding vs m')
  holding_good vs {m} {m'} g = record { law = λ s le. held_follows s.world.left vs (m s) (m' (add s)) (g.law s le) }

  if_good : {A : Type 0} {most : ℕ} (b : Bool) {m m' n n' : Eval A} → Good most m m' → Good most n n' → Good most (if b then m else n) (if b then m' else n')
  if_good true g h = g
  if_good false g h = h

  -- ---- locals and tests

  bound_good : {most : ℕ} (x : Option (Option Value)) → Good most (bound x) (bound x)
  bound_good None = wrong_good
  bound_good (Some None) = wrong_good
  bound_good (Some (Some v)) = pure_good v

  local_good : {most : ℕ} (i : ℕ) → Good most (local i) (local i)
  local_good i = record { law = λ s le. (bound_good (slice_get s.locals i)).law s le }

  set_good : {most : ℕ} (i : ℕ) (v : Value) → Good most (set_local i v) (set_local i v)
  set_good i v = record { law = λ s le. (le_refl s.world.left, refl) }

  set_if_good : {most : ℕ} (i : Option ℕ) (v : Value) → Good most (set_local_if_any i v) (set_local_if_any i v)
  set_if_good None v = pure_good tt
  set_if_good (Some i) v = set_good i v

  known_good : {most : ℕ} (b : Option Bool) → Good most (known b) (known b)
  known_good None = wrong_good
  known_good (Some b) = pure_good b

  so_good : {most : ℕ} (v : Value) → Good most (is_so v) (is_so v)
  so_good v = record { law = λ s le. (known_good _).law s le }

  next_good : {most : ℕ} (flow : Flow) {m m' : Eval Flow} → Good most m m' → Good most (next_or flow m) (next_or flow m')
  next_good Next g = g
  next_good Broken g = pure_good Broken
  next_good Continued g = pure_good Continued
  next_good (Returned v) g = pure_good (Returned v)

  turn_good : {most : ℕ} (flow : Flow) {m m' : Eval Flow} → Good most m m' → Good most (after_turn flow m) (after_turn flow m')
  turn_good Next g = g
  turn_good Continued g = g
  turn_good Broken g = pure_good Next
  turn_good (Returned v) g = pure_good (Returned v)

  leaving_follows : (low high : ℕ) → low ≤ high → (ls : List (Option Value)) (args : List Value) (instead : Option Value) (e e' : Ending Flow) → Follows low e e' → Follows high (leaving ls args instead e) (leaving ls args instead e')
  leaving_follows low high le ls args instead (Done a t) e' h = (omega (arith, le, h.0), ap (leaving ls args instead) h.1)
  leaving_follows low high le ls args instead (Raised r t) e' h = (omega (arith, le, h.0), ap (leaving ls args instead) h.1)
  leaving_follows low high le ls args instead (Failed name t) e' h = ap (leaving ls args instead) h
  leaving_follows low high le ls args instead (Running held t) e' h = λ z. ap (leaving ls args instead) (h z)
  leaving_follows low high le ls args instead Wrong e' h = ap (leaving ls args instead) h

  -- the first of them holds no steps back
  same_state : (s : State) → k ≡ 0 → add s ≡ s
  same_state s z = subst (λ k. (record s { world = with_more k s.world }) ≡ s) (sym z) (ap (λ w. record s { world = w }) (none_more s.world))

  -- ---- a cost

  abbrev spent : ℕ → State → State
  spent cost s = record s { world = record s.world { left = s.world.left - cost } }

  -- a cost, and then what is done with fewer steps
  paid_follows : {A : Type 0} (cost : ℕ) (held : List Value) (m m' : Eval A) (s : State)
      → (cost ≤ s.world.left → Follows (s.world.left - cost) (m (spent cost s)) (m' (add (spent cost s))))
      → (b : Bool) → nat_lt s.world.left cost ≡ b
      → Follows s.world.left (then_go (if b then Running held s else Done tt (spent cost s)) (λ (u : Unit {0}). m)) (then_go (pay cost held (add s)) (λ (u : Unit {0}). m'))
  paid_follows cost held m m' s g true e = λ z.
      ap (λ t. then_go (pay cost held t) (λ (u : Unit {0}). m')) (same_state s z) ∙ ap (λ b. then_go (if b then Running held s else Done tt (spent cost s)) (λ (u : Unit {0}). m')) e
  paid_follows cost held m m' s g false e =
      let c : cost ≤ s.world.left = ltb-false s.world.left cost e in
      let d : nat_lt (s.world.left + k) cost ≡ false = le-ltb (s.world.left + k) cost (omega (arith, c)) in
      let f : (s.world.left - cost) + k ≡ (s.world.left + k) - cost = omega (arith, c) in
      subst (λ b. Follows s.world.left (m (spent cost s)) (then_go (if b then Running held (add s) else Done tt (spent cost (add s))) (λ (u : Unit {0}). m'))) (sym d)
      (subst (λ n. Follows s.world.left (m (spent cost s)) (m' (record s { world = record s.world { left = n } }))) f
      (weaker (s.world.left - cost) s.world.left (m (spent cost s)) (m' (add (spent cost s))) (omega arith) (g c)))

  module _ (p : Program) (d : ℕ) (prev prev' : Sem) (prev_good : (t : Task) → Good d (prev t) (prev' t)) where
    -- ---- calls and operations

    entered_follows : (f : Function) (args : List Value) (instead : Option Value) (vs : Option (List Value)) (s : State) → s.world.left < suc d
        → Follows s.world.left (entered p unwatched prev f args instead vs s) (entered p unwatched prev' f args instead vs (add s))
    entered_follows f args instead None s le = refl
    entered_follows f args instead (Some vs) s le =
        paid_follows 1 args (λ s. leaving s.locals args instead (prev (Body f.body) (record s { locals = frame p unwatched prev f vs })))
        (λ s. leaving s.locals args instead (prev' (Body f.body) (record s { locals = frame p unwatched prev' f vs }))) s
        (λ c. leaving_follows (s.world.left - 1) (s.world.left - 1) (le_refl (s.world.left - 1)) s.locals args instead _ _
        ((prev_good (Body f.body)).law (record (spent 1 s) { locals = frame p unwatched prev f vs }) (omega (arith, c, le))))
        (nat_lt s.world.left 1) refl

    called_follows : (f : Option Function) (args : List Value) (instead : Option Value) (s : State) → s.world.left < suc d
        → Follows s.world.left (called p unwatched prev f args instead s) (called p unwatched prev' f args instead (add s))
    called_follows None args instead s le = refl
    called_follows (Some f) args instead s le = either f.takes_more
      where
        either : (b : Bool) → Follows s.world.left ((if b then wrong else entered p unwatched prev f args instead (parameters f.defaults args)) s) ((if b then wrong else entered p unwatched prev' f args instead (parameters f.defaults args)) (add s))
        either true = refl
        either false = entered_follows f args instead (parameters f.defaults args) s le

    answer_follows : (a a' : Answer) (held : List Value) (s : State) → s.world.left < suc d → OnLater s.world a → SameWithMore k a a'
        → Follows s.world.left (answered p unwatched prev a held s) (answered p unwatched prev' a' held (add s))
    answer_follows (Gives v w) a' held s le later h = (later.steps, ap (λ a. answered p unwatched prev' a held (add s)) h)
    answer_follows (Throws r w) a' held s le later h = (later.steps, ap (λ a. answered p unwatched prev' a held (add s)) h)
    answer_follows (Fails name) a' held s le later h = ap (λ a. answered p unwatched prev' a held (add s)) h
    answer_follows Lacks a' held s le later h = λ z. ap (λ a. answered p unwatched prev' a held (add s)) (h z) ∙ ap (Running held) (same_state s z)
    answer_follows (Enters f args instead w) a' held s le later h =
        subst (λ a. Follows s.world.left (called p unwatched prev (slice_get p.functions f) args instead (record s { world = w })) (answered p unwatched prev' a held (add s))) (sym h)
        (weaker w.left s.world.left (called p unwatched prev (slice_get p.functions f) args instead (record s { world = w })) (called p unwatched prev' (slice_get p.functions f) args instead (add (record s { world = w })))
        later.steps (called_follows (slice_get p.functions f) args instead (record s { world = w }) (omega (arith, later.steps, le))))
    answer_follows Bad a' held s le later h = ap (λ a. answered p unwatched prev' a held (add s)) h

    answer_good : (held : List Value) (c : Covers) (o : RowOp) (vs : List Value)
        → Good (suc d) (λ s. answered p unwatched prev (op p c o vs s.world) held s) (λ s. answered p unwatched prev' (op p c o vs s.world) held s)
    answer_good held c o vs = record {
      law = λ s le. answer_follows (op p c o vs s.world) (op p c o vs (with_more k s.world)) held s le ((lawful p c o vs).law s.world) ((steady p c o vs).law k s.world);
    }

    operate_good : (held : List Value) (c : Covers) (o : RowOp) (vs : List Value) → Good (suc d) (operate p unwatched prev held c o vs) (operate p unwatched prev' held c o vs)
    operate_good held c o vs = bind_good (answer_good held c o vs) (λ v. pure_good v)

    perform_good : (c : Covers) (o : RowOp) (vs : List Value) → Good (suc d) (perform p unwatched prev c o vs) (perform p unwatched prev' c o vs)
    perform_good c o vs = operate_good vs c o vs

    -- ---- turns

    abbrev paid_turn : Sem → Bool → State → Ending Value
    paid_turn q b s = then_go (answered p unwatched q (if b then Lacks else Gives Nothing (record s.world { left = s.world.left - 1 })) [] s) (λ v s. Done v s)

    turn_follows : {A : Type 0} (m m' : Eval A) (s : State) → s.world.left < suc d → Good d m m' → (b : Bool) → nat_lt s.world.left 1 ≡ b
        → Follows s.world.left (then_go (paid_turn prev b s) (λ (v : Value). m)) (then_go (perform p unwatched prev' no_covers row.Turn [] (add s)) (λ (v : Value). m'))
    turn_follows m m' s le g true e = λ z.
        ap (λ t. then_go (perform p unwatched prev' no_covers row.Turn [] t) (λ (v : Value). m')) (same_state s z) ∙ ap (λ b. then_go (paid_turn prev' b s) (λ (v : Value). m')) e
    turn_follows m m' s le g false e =
        let c : 1 ≤ s.world.left = ltb-false s.world.left 1 e in
        let n : nat_lt (s.world.left + k) 1 ≡ false = le-ltb (s.world.left + k) 1 (omega (arith, c)) in
        let f : (s.world.left - 1) + k ≡ (s.world.left + k) - 1 = omega (arith, c) in
        subst (λ b. Follows s.world.left (m (spent 1 s)) (then_go (paid_turn prev' b (add s)) (λ (v : Value). m'))) (sym n)
        (subst (λ n. Follows s.world.left (m (spent 1 s)) (m' (record s { world = record s.world { left = n } }))) f
        (weaker (s.world.left - 1) s.world.left (m (spent 1 s)) (m' (add (spent 1 s))) (omega arith) (g.law (spent 1 s) (omega (arith, c, le)))))

    held_turn_follows : {A : Type 0} (hs : List Value) (m m' : Eval A) (s : State) → s.world.left < suc d → Good d m m' → (b : Bool) → nat_lt s.world.left 1 ≡ b
        → Follows s.world.left (then_go (add_held hs (paid_turn prev b s)) (λ (v : Value). m)) (then_go (holding hs (perform p unwatched prev' no_covers row.Turn []) (add s)) (λ (v : Value). m'))
    held_turn_follows hs m m' s le g true e = λ z.
        ap (λ t. then_go (holding hs (perform p unwatched prev' no_covers row.Turn []) t) (λ (v : Value). m')) (same_state s z) ∙ ap (λ b. then_go (add_held hs (paid_turn prev' b s)) (λ (v : Value). m')) e
    held_turn_follows hs m m' s le g false e =
        let c : 1 ≤ s.world.left = ltb-false s.world.left 1 e in
        let n : nat_lt (s.world.left + k) 1 ≡ false = le-ltb (s.world.left + k) 1 (omega (arith, c)) in
        let f : (s.world.left - 1) + k ≡ (s.world.left + k) - 1 = omega (arith, c) in
        subst (λ b. Follows s.world.left (m (spent 1 s)) (then_go (add_held hs (paid_turn prev' b (add s))) (λ (v : Value). m'))) (sym n)
        (subst (λ n. Follows s.world.left (m (spent 1 s)) (m' (record s { world = record s.world { left = n } }))) f
        (weaker (s.world.left - 1) s.world.left (m (spent 1 s)) (m' (add (spent 1 s))) (omega arith) (g.law (spent 1 s) (omega (arith, c, le)))))

    turn_then : {A : Type 0} {m m' : Eval A} → Good d m m'
        → Good (suc d) (perform p unwatched prev no_covers row.Turn [] >> m) (perform p unwatched prev' no_covers row.Turn [] >> m')
    turn_then {m = m} {m' = m'} g = record { law = λ s le. turn_follows m m' s le g (nat_lt s.world.left 1) refl }

    held_turn_then : {A : Type 0} (hs : List Value) {m m' : Eval A} → Good d m m'
        → Good (suc d) (holding hs (perform p unwatched prev no_covers row.Turn []) >> m) (holding hs (perform p unwatched prev' no_covers row.Turn []) >> m')
    held_turn_then hs {m = m} {m' = m'} g = record { law = λ s le. held_turn_follows hs m m' s le g (nat_lt s.world.left 1) refl }

    -- ---- walks

    walk_good : (o : Option ℤ → RowOp) (x : Walking) → Good (suc d) (on_walk p unwatched prev o x) (on_walk p unwatched prev' o x)
    walk_good o x = perform_good no_covers (o x.step) (walk_holds x)

    one_turn_good : {each each' : Value → Eval Flow} {rest rest' : Walking → Eval Flow} → ((v : Value) → Good (suc d) (each v) (each' v)) → ((x : Walking) → Good d (rest x) (rest' x))
        → (x : Walking) → Good (suc d) (turn p unwatched prev each rest x) (turn p unwatched prev' each' rest' x)
    one_turn_good g h x =
        held_turn_then (walk_holds x) (bind_good (lower (walk_good row.Item x)) (λ v.
        bind_good (holding_good (walk_holds x) (lower (g v))) (λ flow.
        turn_good flow (bind_good (lower (walk_good row.Advance x)) (λ next. h (record x { at = next }))))))

    turns_good : {each each' : Value → Eval Flow} {rest rest' : Walking → Eval Flow} → ((v : Value) → Good (suc d) (each v) (each' v)) → ((x : Walking) → Good d (rest x) (rest' x))
        → (x : Walking) → Good (suc d) (turns p unwatched prev each rest x) (turns p unwatched prev' each' rest' x)
    turns_good g h x = bind_good (bind_good (walk_good row.HasItem x) so_good) (λ there. if_good there (one_turn_good g h x) (pure_good Next))

    gather_good : {bind bind' : Value → Eval (Unit {0})} {condition condition' : Eval Bool} {item item' : Eval Value} → ((v : Value) → Good (suc d) (bind v) (bind' v))
        → Good (suc d) condition condition' → Good (suc d) item item' → (c : Covers) (list v : Value)
        → Good (suc d) (gather p unwatched prev bind condition item c list v) (gather p unwatched prev' bind' condition' item' c list v)
    gather_good f g h c list v =
        then_good (holding_good (v ∷ []) (f v)) (bind_good g (λ wanted. if_good wanted
        (bind_good h (λ x. then_good (operate_good (x ∷ []) c row.AddItem (list ∷ x ∷ [])) (pure_good Next)))
        (pure_good Next)))

    -- ---- expressions

    mutual
      value_good : (c : Covers) (e : Expr) → Good (suc d) (value p unwatched prev c e) (value p unwatched prev' c e)
      value_good c (Local i) = local_good i
      value_good c (Constant v) = pure_good v
      value_good c (Apply o es) = bind_good (values_good c es) (λ vs. perform_good c o vs)
      value_good c (And a b) = bind_good (value_good c a) (λ x. bind_good (so_good x) (λ go. if_good go (value_good c b) (pure_good x)))
      value_good c (Or a b) = bind_good (value_good c a) (λ x. bind_good (so_good x) (λ stop. if_good stop (pure_good x) (value_good c b)))
      value_good c (Display site pairs) =
          bind_good (perform_good c (row.Dict site) []) (λ dict. then_good (holding_good (dict ∷ []) (store_good c dict pairs)) (pure_good dict))
      value_good c (Comprehension site item target subject condition) =
          bind_good (perform_good c (row.Comprehension site) []) (λ list.
          bind_good (holding_good (list ∷ []) (begin_good c subject)) (λ x.
          then_good (holding_good (list ∷ []) (turns_good (gather_good (take_good_at c target []) (keeps_good c condition) (value_good c item) c list) (λ rest. prev_good (Gather c item target condition list rest)) x))
          (pure_good list)))

      values_good : (c : Covers) (es : Exprs) → Good (suc d) (values p unwatched prev c es) (values p unwatched prev' c es)
      values_good c none = pure_good []
      values_good c (more e es) = bind_good (value_good c e) (λ v. bind_good (holding_good (v ∷ []) (values_good c es)) (λ vs. pure_good (v ∷ vs)))

      store_good : (c : Covers) (dict : Value) (pairs : Pairs) → Good (suc d) (store_pairs p unwatched prev c dict pairs) (store_pairs p unwatched prev' c dict pairs)
      store_good c dict no_pairs = pure_good tt
      store_good c dict (pair a e rest) =
          bind_good (value_good c a) (λ key. bind_good (holding_good (key ∷ []) (value_good c e)) (λ v.
          then_good (operate_good (key ∷ v ∷ []) c row.StoreIndex (dict ∷ key ∷ v ∷ [])) (store_good c dict rest)))

      begin_good : (c : Covers) (subject : Subject) → Good (suc d) (begin p unwatched prev c subject) (begin p unwatched prev' c subject)
      begin_good c (Over site e) = bind_good (value_good c e) (λ x. bind_good (perform_good c (row.Walk site) (x ∷ [])) (λ over. pure_good _))
      begin_good c (UpTo e) = bind_good (value_good c e) (λ end. pure_good _)
      begin_good c (FromTo a b step) = bind_good (value_good c a) (λ x. bind_good (holding_good (x ∷ []) (value_good c b)) (λ end. pure_good _))

      keeps_good : (c : Covers) (condition : Condition) → Good (suc d) (keeps p unwatched prev c condition) (keeps p unwatched prev' c condition)
      keeps_good c Always = pure_good true
      keeps_good c (Where e) = bind_good (value_good c e) so_good

      take_good_at : (c : Covers) (t : Target) (own : List Value) (v : Value) → Good (suc d) (take p unwatched prev c t own v) (take p unwatched prev' c t own v)
      take_good_at c (Name i) own v = set_good i v
      take_good_at c (Attribute e name) own v = bind_good (value_good c e) (λ x. then_good (operate_good (x ∷ own) c (row.StoreAttr name) (x ∷ v ∷ [])) (pure_good tt))
      take_good_at c (Item a i) own v =
          bind_good (value_good c a) (λ x. bind_good (holding_good (x ∷ []) (value_good c i)) (λ y.
          then_good (operate_good (x ∷ y ∷ own) c row.StoreIndex (x ∷ y ∷ v ∷ [])) (pure_good tt)))
      take_good_at c (Parts ts) own v = parts_good c (target_count ts) 0 ts v

      parts_good : (c : Covers) (n i : ℕ) (ts : Targets) (v : Value) → Good (suc d) (take_parts p unwatched prev c n i ts v) (take_parts p unwatched prev' c n i ts v)
      parts_good c n i no_targets v = pure_good tt
      parts_good c n i (more_targets t ts) v = bind_good (operate_good [] c (row.Unpack n i) (v ∷ [])) (λ x. then_good (take_good_at c t (x ∷ []) x) (parts_good c n (suc i) ts v))

    bind_good_at : (c : Covers) (t : Target) (v : Value) → Good (suc d) (bind p unwatched prev c t v) (bind p unwatched prev' c t v)
    bind_good_at c t v = take_good_at c t [] v

    -- ---- statements

    assign_good : (c : Covers) (ts : Targets) (v : Value) → Good (suc d) (assign p unwatched prev c ts v) (assign p unwatched prev' c ts v)
    assign_good c no_targets v = pure_good tt
    assign_good c (more_targets t ts) v = then_good (bind_good_at c t v) (assign_good c ts v)

    augment_good : (c : Covers) (t : Target) (o : RowOp) (e : Expr) → Good (suc d) (augment p unwatched prev c t o e) (augment p unwatched prev' c t o e)
    augment_good c (Name i) o e =
        bind_good (local_good i) (λ old. bind_good (holding_good (old ∷ []) (value_good c e)) (λ v. bind_good (perform_good c o (old ∷ v ∷ [])) (λ new. set_good i new)))
    augment_good c (Attribute a name) o e =
        bind_good (value_good c a) (λ x. bind_good (perform_good c (row.Attr name) (x ∷ [])) (λ old.
        bind_good (holding_good (x ∷ old ∷ []) (value_good c e)) (λ v. bind_good (holding_good (x ∷ []) (perform_good c o (old ∷ v ∷ []))) (λ new.
        then_good (perform_good c (row.StoreAttr name) (x ∷ new ∷ [])) (pure_good tt)))))
    augment_good c (Item a i) o e =
        bind_good (value_good c a) (λ x. bind_good (holding_good (x ∷ []) (value_good c i)) (λ y.
        bind_good (perform_good c (row.Index None) (x ∷ y ∷ [])) (λ old.
        bind_good (holding_good (x ∷ y ∷ old ∷ []) (value_good c e)) (λ v. bind_good (holding_good (x ∷ y ∷ []) (perform_good c o (old ∷ v ∷ []))) (λ new.
        then_good (perform_good c row.StoreIndex (x ∷ y ∷ new ∷ [])) (pure_good tt))))))
    augment_good c (Parts ts) o e = wrong_good

    loop_good : {test test' : Eval Bool} {body body' rest rest' : Eval Flow} → Good (suc d) test test' → Good (suc d) body body' → Good d rest rest'
        → Good (suc d) (loop p unwatched prev test body rest) (loop p unwatched prev' test' body' rest')
    loop_good f g h = bind_good f (λ go. if_good go (turn_then (bind_good (lower g) (λ flow. turn_good flow h))) (pure_good Next))

    each_good : {bind bind' : Value → Eval (Unit {0})} {body body' : Eval Flow} → ((v : Value) → Good (suc d) (bind v) (bind' v)) → Good (suc d) body body'
        → (v : Value) → Good (suc d) (each_item p unwatched prev bind body v) (each_item p unwatched prev' bind' body' v)
    each_good f g v = then_good (holding_good (v ∷ []) (f v)) g

    finally_follows : (left : ℕ) (last last' : Eval Flow) → left < suc d → Good (suc d) last last' → (e e' : Ending Flow) → Follows left e e' → Follows left (finally last e) (finally last' e')
    finally_follows left last last' le g (Done flow t) e' h =
        subst (λ e. Follows left (finally last (Done flow t)) (finally last' e)) (sym h.1)
        (weaker t.world.left left (finally last (Done flow t)) (finally last' (Done flow (add t))) h.0
        ((bind_good (holding_good (pending flow) g) (λ f. next_good f (pure_good flow))).law t (omega (arith, le, h.0))))
    finally_follows left last last' le g (Raised r t) e' h =
        subst (λ e. Follows left (finally last (Raised r t)) (finally last' e)) (sym h.1)
        (weaker t.world.left left (finally last (Raised r t)) (finally last' (Raised r (add t))) h.0
        ((bind_good (holding_good (Ref r ∷ []) g) (λ f. next_good f (raised_good r))).law t (omega (arith, le, h.0))))
    finally_follows left last last' le g (Failed name t) e' h = ap (finally last') h
    finally_follows left last last' le g (Running held t) e' h = λ z. ap (finally last') (h z)
    finally_follows left last last' le g Wrong e' h = ap (finally last') h

    tried_follows : (left : ℕ) (other other' : Eval Flow) (handle handle' : ℕ → Eval Flow) → left < suc d → Good (suc d) other other' → ((r : ℕ) → Good (suc d) (handle r) (handle' r))
        → (e e' : Ending Flow) → Follows left e e' → Follows left (tried p unwatched prev e other handle) (tried p unwatched prev' e' other' handle')
    tried_follows left other other' handle handle' le f g (Done Next t) e' h =
        subst (λ e. Follows left (other t) (tried p unwatched prev' e other' handle')) (sym h.1) (weaker t.world.left left (other t) (other' (add t)) h.0 (f.law t (omega (arith, le, h.0))))
    tried_follows left other other' handle handle' le f g (Done Broken t) e' h = (h.0, ap (λ e. tried p unwatched prev' e other' handle') h.1)
    tried_follows left other other' handle handle' le f g (Done Continued t) e' h = (h.0, ap (λ e. tried p unwatched prev' e other' handle') h.1)
    tried_follows left other other' handle handle' le f g (Done (Returned v) t) e' h = (h.0, ap (λ e. tried p unwatched prev' e other' handle') h.1)
    tried_follows left other other' handle handle' le f g (Raised r t) e' h =
        subst (λ e. Follows left (handle r t) (tried p unwatched prev' e other' handle')) (sym h.1) (weaker t.world.left left (handle r t) (handle' r (add t)) h.0 ((g r).law t (omega (arith, le, h.0))))
    tried_follows left other other' handle handle' le f g (Failed name t) e' h = ap (λ e. tried p unwatched prev' e other' handle') h
    tried_follows left other other' handle handle' le f g (Running held t) e' h = λ z. ap (λ e. tried p unwatched prev' e other' handle') (h z)
    tried_follows left other other' handle handle' le f g Wrong e' h = ap (λ e. tried p unwatched prev' e other' handle') h

    mutual
      statement_good : (c : Covers) (s : Stmt) → Good (suc d) (statement p unwatched prev c s) (statement p unwatched prev' c s)
      statement_good c Pass = pure_good Next
      statement_good c Break = pure_good Broken
      statement_good c Continue = pure_good Continued
      statement_good c (Return e) = bind_good (value_good c e) (λ v. pure_good (Returned v))
      statement_good c (Do e) = then_good (value_good c e) (pure_good Next)
      statement_good c (Assign ts e) = bind_good (value_good c e) (λ v. then_good (holding_good (v ∷ []) (assign_good c ts v)) (pure_good Next))
      statement_good c (Augment t o e) = then_good (augment_good c t o e) (pure_good Next)
      statement_good c (If e a b) = bind_good (bind_good (value_good c e) so_good) (λ go. if_good go (block_good c a) (block_good c b))
      statement_good c (While e body) = loop_good (bind_good (value_good c e) so_good) (block_good c body) (prev_good (Loop c e body))
      statement_good c (For t subject body) =
          bind_good (begin_good c subject) (turns_good (each_good (bind_good_at c t) (block_good c body)) (λ rest. prev_good (Turns c t body rest)))
      statement_good c (Try body clauses other) = record {
        law = λ s le.
            tried_follows s.world.left (block p unwatched prev c other) (block p unwatched prev' c other) (handle p unwatched prev c clauses) (handle p unwatched prev' c clauses) le (block_good c other) (handle_good c clauses)
            (block p unwatched prev (covers_within p.classes clauses c) body s) (block p unwatched prev' (covers_within p.classes clauses c) body (add s)) ((block_good (covers_within p.classes clauses c) body).law s le);
      }
      statement_good c (Finally body last) = record {
        law = λ s le.
            finally_follows s.world.left (block p unwatched prev c last) (block p unwatched prev' c last) le (block_good c last)
            (block p unwatched prev c body s) (block p unwatched prev' c body (add s)) ((block_good c body).law s le);
      }

      block_good : (c : Covers) (b : Block) → Good (suc d) (block p unwatched prev c b) (block p unwatched prev' c b)
      block_good c done = pure_good Next
      block_good c (line s rest) = bind_good (statement_good c s) (λ flow. next_good flow (block_good c rest))

      handle_good : (c : Covers) (clauses : Clauses) (r : ℕ) → Good (suc d) (handle p unwatched prev c clauses r) (handle p unwatched prev' c clauses r)
      handle_good c no_clauses r = raised_good r
      handle_good c (clause classes name body rest) r = record {
        law = λ s le.
            (if_good (takes p.classes classes (class_in s.world r)) (then_good (set_if_good name (Ref r)) (block_good c body)) (handle_good c rest r)).law s le;
      }

    task_good : (t : Task) → Good (suc d) (task p unwatched prev t) (task p unwatched prev' t)
    task_good (Body b) = block_good no_covers b
    task_good (Loop c e body) = loop_good (bind_good (value_good c e) so_good) (block_good c body) (prev_good (Loop c e body))
    task_good (Turns c t body x) = turns_good (each_good (bind_good_at c t) (block_good c body)) (λ rest. prev_good (Turns c t body rest)) x
    task_good (Gather c item t condition list x) =
        turns_good (gather_good (bind_good_at c t) (keeps_good c condition) (value_good c item) c list) (λ rest. prev_good (Gather c item t condition list rest)) x

  -- ---- a run

  -- each level gives what a higher one gives, where no more steps are left than its number
  within_good : (p : Program) (n n' : ℕ) → n ≤ n' → (t : Task) → Good (suc n) (within p unwatched n t) (within p unwatched n' t)
  within_good p zero zero le t = task_good p 0 (λ asked. wrong) (λ asked. wrong) (λ t. record { law = λ s lt. absurd (omega (arith, lt)) }) t
  within_good p zero (suc n') le t = task_good p 0 (λ asked. wrong) (within p unwatched n') (λ t. record { law = λ s lt. absurd (omega (arith, lt)) }) t
  within_good p (suc n) zero le t = absurd (omega (arith, le))
  within_good p (suc n) (suc n') le t = task_good p (suc n) (within p unwatched n) (within p unwatched n') (within_good p n n' (omega (arith, le))) t

  over_alike : (o : Option Outcome) (t : State) → EndsAlike k (over o [] t) (over o [] (add t))
  over_alike None t = refl
  over_alike (Some outcome.Running) t = tt
  over_alike (Some (outcome.Returned z)) t = (refl, refl)
  over_alike (Some (outcome.Raised name)) t = (refl, refl)
  over_alike (Some (outcome.Failed name)) t = (refl, refl)

  ended_alike : (p : Program) (most : ℕ) (e e' : Ending Value) → Follows most e e' → EndsAlike k (ended p e) (ended p e')
  ended_alike p most (Done v t) e' h = subst (λ e. EndsAlike k (ended p (Done v t)) (ended p e)) (sym h.1) (over_alike (returned v) t)
  ended_alike p most (Raised r t) e' h = subst (λ e. EndsAlike k (ended p (Raised r t)) (ended p e)) (sym h.1) (over_alike (name_of (slice_get p.classes (class_in t.world r))) t)
  ended_alike p most (Failed name t) e' h = subst (λ e. EndsAlike k (ended p (Failed name t)) (ended p e)) (sym h) (over_alike (Some (outcome.Failed name)) t)
  ended_alike p most (Running held t) e' h = tt
  ended_alike p most Wrong e' h = ap (λ e. (ended p e).outcome) h

  only_stops : (p : Program) (args : List (List ℕ)) (n : ℕ) → EndsAlike k (mean p args n) (mean p args (n + k))
  only_stops p args n =
      ended_alike p n (called p unwatched (within p unwatched n) (slice_get p.functions p.entry) (Ref (length (prebuilt p)) ∷ []) None (start p args n 0))
      (called p unwatched (within p unwatched (n + k)) (slice_get p.functions p.entry) (Ref (length (prebuilt p)) ∷ []) None (start p args (n + k) 0))
      (called_follows p n (within p unwatched n) (within p unwatched (n + k)) (λ t. lower (within_good p n (n + k) (omega arith) t)) (slice_get p.functions p.entry) (Ref (length (prebuilt p)) ∷ []) None (start p args n 0) (omega arith))

pub bound_stops : (p : Program) (args : List (List ℕ)) (n k : ℕ) → EndsAlike k (mean p args n) (mean p args (n + k))
bound_stops p args n k = only_stops k p args n
