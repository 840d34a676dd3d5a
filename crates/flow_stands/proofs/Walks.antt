-- The machine follows the turns of a walk.
use Rattle.std.proofs.Common.{◌≡◌, ℕ, suc, ◌+◌, ◌-◌, ◌<◌, ◌⊎◌, inl, inr, Bool, true, false, List, [], ◌∷◌, ◌++◌, length, get_or, take, Some, None, Option, refl, sym, ap, ◌∙◌, subst, arith, append_assoc, length-append}
use Rattle.std.specs.Prelude.{map, nat_lt, if◌then◌else◌}
use Rattle.std.proofs.lemmas.List.{append-nil}
use Rattle.std.proofs.lemmas.Bool.{ltb-false}
use Rattle.rpy_tree.specs.Value.{Value, Nothing}
use Rattle.rpy_meaning.specs.declared.row.RowOp.{RowOp}
use Rattle.rpy_meaning.specs.declared.row.RowOp.TheVariants as row
use Rattle.rpy_meaning.specs.Tree.{Program}
use Rattle.rpy_meaning.specs.World.{World, Gives, Lacks}
use Rattle.rpy_meaning.specs.Classes.{is_below, no_covers}
use Rattle.rpy_meaning.specs.Operations.{builtin_classes, truth_in}
use Rattle.rpy_meaning.specs.Evaluation.{State, Ending, Done, Raised, Failed, Running, Wrong, Eval, then_go, add_held, is_so, known, pure, Flow, Next as Onward, Broken, Continued, Returned, after_turn}
use Rattle.rpy_meaning.specs.Meaning.{Run, Sem, Moment, Before, Behind, answered as told, operate_holding, perform, Walking, walk_holds, turn, turns, on_walk}
use Rattle.flow_graph.specs.declared.graph.Graphs.{Graphs}
use Rattle.flow_meaning.specs.Machine.{Frame}
use Rattle.flow_stands.proofs.Watches.{Passed, Halted, Watching}
use Rattle.flow_stands.specs.Places.{range, Scope, Ways, first, first_and}
use Rattle.flow_stands.specs.Stands.{Acts, TurnsAt, within, Stand}
use Rattle.flow_stands.proofs.Lists.{pick, take_first}
use Rattle.flow_stands.proofs.Core.{Place, place, env, env_push, After, Fit, fit_on, Catches, leads_on, enter, Runs, moved, seq, seq_is, hold, here}
use Rattle.flow_stands.proofs.Calls.{Any, Good, flow_place, Keeps}
use Rattle.flow_stands.proofs.Parts.{wide, land_first, land_result, land_at, jump_first, assoc, catches_more, take_less, vals, stay_at, same_as, jumps, first_go_on, acts_holding, acts, fork_on, fork_strays}

pub lower : {top n : ℕ} {s : State} → Fit top n s → Fit (suc top) n s
lower f = record { low = let l = f.low in omega (arith, l); long = f.long; sound = f.sound }

-- after a turn fewer steps are left
module _ (wa : Watching) (p : Program) (prev : Sem) where
  abbrev behind_turn : Value → Eval Value
  behind_turn v = λ u. then_go (wa.watch (Behind row.Turn) (v ∷ []) u) (λ b. pure v)

  abbrev turned : Unit {0} → Eval Value
  turned a = λ u. then_go (told p wa.watch prev (if nat_lt u.world.left 1 then Lacks else Gives Nothing (record u.world { left = u.world.left - 1 })) [] u) behind_turn

  -- a result after the entry of an operation comes after a moment
  on_from : {A : Type 0} (at : Moment) (hs : List Value) (s : State) (k : Unit {0} → Eval A) (a : A) (t : State) → then_go (wa.watch at hs s) k ≡ Done a t → (j : ℕ) × (k tt (record s { moments = j }) ≡ Done a t)
  on_from at hs s k a t e = by (wa.either at hs s)
    where
      by : Passed wa.stops wa.watch at hs s ⊎ Halted wa.stops wa.watch at hs s → (j : ℕ) × (k tt (record s { moments = j }) ≡ Done a t)
      by (inl (j, counts, same)) = (j, sym (ap (λ x. then_go x k) same) ∙ e)
      by (inr (on, here, last, same)) = let z : Running hs s ≡ Done a t = sym (ap (λ x. then_go x k) same) ∙ e in absurd (cc z)

  paid_by : (b : Bool) (s t : State) (v : Value) → nat_lt s.world.left 1 ≡ b → then_go (told p wa.watch prev (if b then Lacks else Gives Nothing (record s.world { left = s.world.left - 1 })) [] s) behind_turn ≡ Done v t → t.world.left < s.world.left
  paid_by true s t v z e = absurd (cc e)
  paid_by false s t v z e =
      let some = ltb-false s.world.left 1 z in
      let u : State = record s { world = record s.world { left = s.world.left - 1 } } in
      let r = on_from {A = Value} (Behind row.Turn) (Nothing ∷ []) u (λ b. pure Nothing) v t e in
      let x : record u { moments = r.0 } ≡ t = let g = r.1 in cc in
      let y : s.world.left - 1 ≡ t.world.left = ap (λ u. u.world.left) x in
      omega (arith, some, y)

  pub turn_paid : (s t : State) (v : Value) → perform p wa.watch prev no_covers row.Turn [] s ≡ Done v t → t.world.left < s.world.left
  turn_paid s t v e =
      let r = on_from {A = Value} (Before row.Turn) [] s turned v t e in
      paid_by (nat_lt s.world.left 1) (record s { moments = r.0 }) t v refl r.1

  unheld : (hs : List Value) (x : Ending Value) (v : Value) (t : State) → add_held hs x ≡ Done v t → x ≡ Done v t
  unheld hs (Done u s) v t e = e
  unheld hs (Raised r s) v t e = absurd (cc e)
  unheld hs (Failed name s) v t e = absurd (cc e)
  unheld hs (Running rs s) v t e = absurd (cc e)
  unheld hs Wrong v t e = absurd (cc e)

  pub turn_held : (hs : List Value) (s t : State) (v : Value) → add_held hs (perform p wa.watch prev no_covers row.Turn [] s) ≡ Done v t → t.world.left < s.world.left
  turn_held hs s t v e = turn_paid s t v (unheld hs (perform p wa.watch prev no_covers row.Turn [] s) v t e)

pub after_low : {top n : ℕ} {s t : State} → Fit (suc top) n s → After s t → t.world.left < s.world.left → Fit top n t
after_low f a lt =
    let g = fit_on f a in record { low = let l = f.low in omega (arith, l, lt); long = g.long; sound = g.sound }

module _ (p : Program) (gs : Graphs) (wa : Watching) (builtins : (k : ℕ) → k < builtin_classes → is_below p.classes k 0 ≡ true) (stand : Stand p gs) (prev : Sem) (top : ℕ) (good : Good p gs wa prev top) (f n : ℕ) (instead : Option Value) (frs : List Frame) where
  abbrev F : {A : Type 0} → (Run → ℕ → Type 0) → List Value → State → (A → State → Place) → (ℕ → State → Place) → (A → State → Type 0) → Ending A → Type 0
  F P held s D R X e = Runs p gs wa f instead frs P held s D R X e

  abbrev at_place : Place → World → Run → ℕ → Type 0
  at_place = enter p gs wa f instead frs

  abbrev Keep : ℕ → Scope → List Value → (ℕ → State → Place) → Type 0
  Keep m sc held R = Catches p gs wa n m sc held R

  -- a turn is paid, while some variables are there that go on
  pub pay_sim : (m : ℕ) (sc : Scope) (held : List Value) (R : ℕ → State → Place) → Keep m sc held R → (s : State) → Fit (suc top) n s → (b q : ℕ) → Acts p gs f n sc b row.Turn [] m (first q m)
      → F (at_place (place b (env s held)) s.world) held s (stay_at q held) R Any (perform p wa.watch prev no_covers row.Turn [] s)
  pay_sim m sc held R c s fit b q is =
      acts p gs wa builtins stand prev top good f n instead frs m sc held R c s fit held [] (sym (append-nil held)) b m row.Turn [] (first q m) [] is (omega arith) refl [] (stay_at q held) Any (first_go_on m m q m row.Turn [] [] (omega arith)) (λ wt. omega arith) (λ wt. omega arith)
      (λ v w k. (ap (place q) (land_first n s fit.long held held [] m (Some v ∷ []) (sym (append-nil held)) c.all), tt))

  -- on a walk
  module _ (m : ℕ) (sc : Scope) (held : List Value) (R : ℕ → State → Place) (c : Keep m sc held R) (over at : Value) where
    abbrev walked : List Value
    walked = held ++ over ∷ at ∷ []

    operands : (s : State) → length s.locals ≡ n → pick (env s walked) (m ∷ (m + 1) ∷ []) ≡ map Some (over ∷ at ∷ [])
    operands s long =
        let e : walked ≡ (held ++ over ∷ []) ++ at ∷ [] = sym (append_assoc held (over ∷ []) (at ∷ [])) in
        ap (λ x. x ∷ get_or (env s walked) (m + 1) None ∷ []) (land_at n s long walked held (at ∷ []) over m refl c.all)
        ∙ ap (λ x. Some over ∷ x ∷ []) (land_at n s long walked (held ++ over ∷ []) [] at (m + 1) e (let z = length-append held (over ∷ []) in let a = c.all in omega (arith, z, a)))

    many : n + length walked ≡ m + 2
    many = let z = length-append held (over ∷ at ∷ []) in let a = c.all in omega (arith, z, a)

    -- an operation on the walk, whose result is one variable more
    pub walk_sim : (s : State) → Fit (suc top) n s → (b q : ℕ) (o : RowOp) → Acts p gs f n sc b o (m ∷ (m + 1) ∷ []) (m + 2) (first_and q (m + 2) (m + 2))
        → F (at_place (place b (env s walked)) s.world) held s (vals q walked) R Any (operate_holding p wa.watch prev (over ∷ at ∷ []) (over ∷ at ∷ []) sc.covers o (over ∷ at ∷ []) s)
    walk_sim s fit b q o is =
        acts_holding p gs wa builtins stand prev top good f n instead frs m sc held R c s fit walked (over ∷ at ∷ []) refl b (m + 2) o (m ∷ (m + 1) ∷ []) (first_and q (m + 2) (m + 2)) (over ∷ at ∷ []) is (omega arith) (operands s fit.long) (over ∷ at ∷ []) (over ∷ at ∷ []) (vals q walked) Any (inr (inl (λ wt. omega arith))) (λ wt. omega arith) (λ wt. omega arith)
        (λ v w k. (ap (place q) (land_result n s fit.long walked walked [] (m + 2) (m + 2) v (sym (append-nil walked)) many many), tt))

    -- the next place stands for the last one
    pub advance_sim : (s : State) → Fit (suc top) n s → (b q : ℕ) (o : RowOp) → Acts p gs f n sc b o (m ∷ (m + 1) ∷ []) (m + 2) (first_and q (m + 1) (m + 2))
        → F (at_place (place b (env s walked)) s.world) held s (λ next t. place q (env t (held ++ over ∷ next ∷ []))) R Any (operate_holding p wa.watch prev (over ∷ at ∷ []) (over ∷ at ∷ []) sc.covers o (over ∷ at ∷ []) s)
    advance_sim s fit b q o is =
        acts_holding p gs wa builtins stand prev top good f n instead frs m sc held R c s fit walked (over ∷ at ∷ []) refl b (m + 2) o (m ∷ (m + 1) ∷ []) (first_and q (m + 1) (m + 2)) (over ∷ at ∷ []) is (omega arith) (operands s fit.long) (over ∷ at ∷ []) (over ∷ at ∷ []) (λ next t. place q (env t (held ++ over ∷ next ∷ []))) Any (inr (inl (λ wt. omega arith))) (λ wt. omega arith) (λ wt. omega arith)
        (λ v w k. (
          ap (place q) (
              land_result n s fit.long walked (held ++ over ∷ []) (at ∷ []) (m + 1) (m + 2) v (sym (append_assoc held (over ∷ []) (at ∷ []))) (let z = length-append held (over ∷ []) in let a = c.all in omega (arith, z, a)) many
              ∙ ap (env s) (append_assoc held (over ∷ []) (v ∷ []))),
          tt,
        ))

  -- all turns
  module _ (m : ℕ) (sc : Scope) (held : List Value) (R : ℕ → State → Place) (c : Keep m sc held R) (t : Ways) (keeps : Keeps t m) (each : Value → Eval Flow) (rest : Walking → Eval Flow) (X Xe : Flow → State → Type 0) (head turn_at advance : ℕ)
      (none_left : (s : State) → X Onward s) (broken : (s : State) → Xe Broken s → X Onward s) (returned : (v : Value) (s : State) → Xe (Returned v) s → X (Returned v) s) (walking : Walking)
      (is : TurnsAt p gs f n sc walking.step m head turn_at (first t.norm m) advance)
      (each_sim : (v : Value) (s : State) → Fit (suc top) n s → F (at_place (place turn_at (env s ((held ++ walk_holds walking) ++ v ∷ []))) s.world) (held ++ walk_holds walking) s (flow_place (within p gs f n t (record { to = advance; keep = m + 2 }) (record { to = t.norm; keep = m })) (held ++ walk_holds walking)) R Xe (each v s))
      (rest_sim : (next : Value) (s : State) → Fit top n s → F (at_place (place head (env s (held ++ walking.over ∷ next ∷ []))) s.world) held s (flow_place t held) R X (rest (record walking { at = next }) s)) where
    abbrev W : List Value
    W = held ++ walk_holds walking

    all : n + length W ≡ m + 2
    all = many m sc held R c walking.over walking.at

    c2 : Keep (m + 2) sc W R
    c2 = catches_more p gs wa (walk_holds walking) (m + 2) (omega arith) c

    abbrev goes_on : State → Ending Flow
    goes_on u = then_go (on_walk p wa.watch prev row.Advance walking u) (λ next u. rest (record walking { at = next }) u)

    next_sim : (u : State) → Fit top n u → F (at_place (place advance (env u W)) u.world) held u (flow_place t held) R X (goes_on u)
    next_sim u fit =
        seq p gs wa f instead frs (advance_sim m sc held R c walking.over walking.at u (lower fit) advance head (row.Advance walking.step) is.9)
        (λ next u2 after x. rest_sim next u2 (fit_on fit after))

    flow_sim : (flow : Flow) (u : State) → Fit top n u → Xe flow u → F (at_place (flow_place (within p gs f n t (record { to = advance; keep = m + 2 }) (record { to = t.norm; keep = m })) W flow u) u.world) held u (flow_place t held) R X (after_turn flow goes_on u)
    flow_sim Onward u fit x = next_sim u fit
    flow_sim Continued u fit x =
        moved p gs wa f instead frs
        (same_as p gs wa builtins stand prev top good f n instead frs (place advance (take (m + 2) (env u W))) (place advance (env u W)) u.world (ap (place advance) (ap (take (m + 2)) (sym (append-nil (env u W))) ∙ take_first (m + 2) (env u W) [] (wide n u fit.long W ∙ all))))
        (next_sim u fit)
    flow_sim Broken u fit x =
        here p gs wa f instead frs
        (same_as p gs wa builtins stand prev top good f n instead frs (place t.norm (take m (env u W))) (place t.norm (env u held)) u.world (ap (place t.norm) (ap (take m) (env_push u held (walk_holds walking)) ∙ take_first m (env u held) (map Some (walk_holds walking)) (wide n u fit.long held ∙ c.all))))
        (broken u x)
    flow_sim (Returned v) u fit x =
        here p gs wa f instead frs
        (same_as p gs wa builtins stand prev top good f n instead frs (place t.ret.to (take t.ret.keep (env u W) ++ Some v ∷ [])) (place t.ret.to (take t.ret.keep (env u held) ++ Some v ∷ [])) u.world (ap (λ l. place t.ret.to (l ++ Some v ∷ [])) (take_less p gs wa n u held (walk_holds walking) t.ret.keep m fit.long c.all keeps.ret)))
        (returned v u x)

    turn_sim : (s : State) → Fit (suc top) n s → F (at_place (place is.2 (env s W)) s.world) held s (flow_place t held) R X (turn p wa.watch prev each rest walking s)
    turn_sim s fit =
        seq_is p gs wa f instead frs (hold p gs wa f instead frs (walk_holds walking) (pay_sim (m + 2) sc W R c2 s fit is.2 is.3 is.7))
        (λ a u e after x.
        let fit_u = after_low fit after (turn_held wa p prev (walk_holds walking) s u a e) in
        seq p gs wa f instead frs (walk_sim m sc held R c walking.over walking.at u (lower fit_u) is.3 turn_at (row.Item walking.step) is.8)
        (λ v u2 after2 x2.
        let fit_2 = fit_on fit_u after2 in
        seq p gs wa f instead frs (hold p gs wa f instead frs (walk_holds walking) (each_sim v u2 (lower fit_2)))
        (λ flow u3 after3 x3. flow_sim flow u3 (fit_on fit_2 after3) x3)))

    there_by : (s : State) → Fit (suc top) n s → (x : Value) (o : Option Bool) → truth_in s.world x ≡ o
        → F (at_place (place is.1 (env s (W ++ x ∷ []))) s.world) held s (flow_place t held) R X (then_go (known o s) (λ there u. (if there then turn p wa.watch prev each rest walking else pure Onward) u))
    there_by s fit x None z =
        record {
          sim = fork_strays p gs wa builtins stand prev top good f n instead frs is.1 (m + 2 + 1) (m + 2) (first is.2 (m + 2)) (first t.norm m) (W ++ x ∷ []) s x is.6 (wide n s fit.long (W ++ x ∷ []) ∙ (let y = length-append W (x ∷ []) in omega (arith, y, all))) (land_at n s fit.long (W ++ x ∷ []) W [] x (m + 2) refl all) z s.moments;
        }
    there_by s fit x (Some true) z =
        moved p gs wa f instead frs
        (leads_on p gs wa
        (fork_on p gs wa builtins stand prev top good f n instead frs is.1 (m + 2 + 1) (m + 2) (first is.2 (m + 2)) (first t.norm m) (W ++ x ∷ []) s x true is.6 (wide n s fit.long (W ++ x ∷ []) ∙ (let y = length-append W (x ∷ []) in omega (arith, y, all))) (land_at n s fit.long (W ++ x ∷ []) W [] x (m + 2) refl all) z)
        (same_as p gs wa builtins stand prev top good f n instead frs (place is.2 (pick (env s (W ++ x ∷ [])) (range 0 (m + 2)))) (place is.2 (env s W)) s.world (ap (place is.2) (jump_first n s fit.long (W ++ x ∷ []) W (x ∷ []) (m + 2) refl all))))
        (turn_sim s fit)
    there_by s fit x (Some false) z =
        here p gs wa f instead frs
        (leads_on p gs wa
        (fork_on p gs wa builtins stand prev top good f n instead frs is.1 (m + 2 + 1) (m + 2) (first is.2 (m + 2)) (first t.norm m) (W ++ x ∷ []) s x false is.6 (wide n s fit.long (W ++ x ∷ []) ∙ (let y = length-append W (x ∷ []) in omega (arith, y, all))) (land_at n s fit.long (W ++ x ∷ []) W [] x (m + 2) refl all) z)
        (same_as p gs wa builtins stand prev top good f n instead frs (place t.norm (pick (env s (W ++ x ∷ [])) (range 0 m))) (place t.norm (env s held)) s.world (ap (place t.norm) (jump_first n s fit.long (W ++ x ∷ []) held (walk_holds walking ++ x ∷ []) m (append_assoc held (walk_holds walking) (x ∷ [])) c.all))))
        (none_left s)

    pub turns_sim : (s : State) → Fit (suc top) n s → F (at_place (place head (env s W)) s.world) held s (flow_place t held) R X (turns p wa.watch prev each rest walking s)
    turns_sim s fit =
        moved p gs wa f instead frs
        (jumps p gs wa builtins stand prev top good f n instead frs head (m + 2) (first is.0 (m + 2)) W s (env s W) is.4 (wide n s fit.long W ∙ all) (jump_first n s fit.long W W [] (m + 2) (sym (append-nil W)) all))
        (subst (λ e. F (at_place (place is.0 (env s W)) s.world) held s (flow_place t held) R X e)
        (sym (assoc (on_walk p wa.watch prev row.HasItem walking s) is_so (λ there u. (if there then turn p wa.watch prev each rest walking else pure Onward) u)))
        (seq p gs wa f instead frs (walk_sim m sc held R c walking.over walking.at s fit is.0 is.1 (row.HasItem walking.step) is.5)
        (λ x u after y. there_by u (fit_on fit after) x (truth_in u.world x) refl)))
