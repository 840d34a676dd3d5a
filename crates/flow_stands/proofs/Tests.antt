-- The machine follows what expressions are made of: leaves, tests and the ways on from them.
use Rattle.std.proofs.Common.{◌≡◌, ℕ, suc, ◌+◌, ◌<◌, Bool, true, false, cond, List, [], ◌∷◌, ◌++◌, inl, inr, length, get_or, Some, None, Option, refl, sym, ap, ◌∙◌, subst, arith, append_assoc, length-append}
use Rattle.std.specs.Prelude.{map, slice_get, slice_set}
use Rattle.std.proofs.lemmas.List.{append-nil, set-append_left}
use Rattle.std.proofs.lemmas.Option.{get_or_from_slice_get, slice_get-get_or}
use Rattle.rpy_tree.specs.Value.{Value, Flag}
use Rattle.rpy_meaning.specs.declared.row.RowOp.{RowOp}
use Rattle.rpy_meaning.specs.declared.row.RowOp.TheVariants as row
use Rattle.rpy_meaning.specs.Tree.{Expr, Local, Constant, Program}
use Rattle.rpy_meaning.specs.World.{World, Gives, flag_if_any}
use Rattle.rpy_meaning.specs.Classes.{is_below}
use Rattle.rpy_meaning.specs.Operations.{op, builtin_classes, truth_in}
use Rattle.rpy_meaning.specs.Evaluation.{State, Ending, Eval, then_go, is_so, known, bound as bound_value}
use Rattle.rpy_meaning.specs.Moments.{is_slight}
use Rattle.rpy_meaning.specs.Meaning.{Run, Sem, value}
use Rattle.flow_graph.specs.declared.graph.Exit.TheVariants as exit
use Rattle.flow_graph.specs.declared.graph.Graphs.{Graphs}
use Rattle.flow_meaning.specs.Machine.{look, Frame, State as Spot, At, chooses, truth_of, step}
use Rattle.flow_stands.proofs.Watches.{Watching}
use Rattle.flow_stands.specs.Places.{range, Scope, Jump, first, first_and, stored, Fork, link}
use Rattle.flow_stands.specs.Stands.{Acts, Meets, Branch, Narrows, Way, Truth, LocalAt, ConstantAt, Stand}
use Rattle.flow_stands.proofs.Lists.{pick, named, look_named, set_same}
use Rattle.flow_stands.proofs.Core.{Place, place, env, env_push, IsBound, Fit, Catches, Ends, Leads, Free, leads_on, enter, jump_to, enter_block, Runs, moved, here}
use Rattle.flow_stands.proofs.Calls.{Good}
use Rattle.flow_stands.proofs.Parts.{wide, land_result, land_at, land_local, jump_first, jump_and, land_store, bound_at, bound_read, vals, ReadBy, same_as, gives_on, strays_on, unbound_on}

-- where a branch leads, with the value that was tested
abbrev pub branch_place : Branch → List Value → Value → State → Place
branch_place branch held x t = place branch.to (cond branch.value (env t (held ++ x ∷ [])) (env t held))

abbrev pub by_truth : Bool → Branch → Branch → Branch
by_truth go so other = cond go so other

module _ (p : Program) (gs : Graphs) (wa : Watching) (builtins : (k : ℕ) → k < builtin_classes → is_below p.classes k 0 ≡ true) (stand : Stand p gs) (prev : Sem) (top : ℕ) (good : Good p gs wa prev top) (f n : ℕ) (instead : Option Value) (frs : List Frame) where
  abbrev F : {A : Type 0} → (Run → ℕ → Type 0) → List Value → State → (A → State → Place) → (ℕ → State → Place) → (A → State → Type 0) → Ending A → Type 0
  F P held s D R X e = Runs p gs wa f instead frs P held s D R X e

  abbrev at_place : Place → World → Run → ℕ → Type 0
  at_place = enter p gs wa f instead frs

  abbrev Keep : ℕ → Scope → List Value → (ℕ → State → Place) → Type 0
  Keep m sc held R = Catches p gs wa n m sc held R

  -- a block that gives a value and goes on with it, instead of some variables
  pub gives_value : (m : ℕ) (sc : Scope) (held : List Value) (R : ℕ → State → Place) → Keep m sc held R → (s : State) → Fit (suc top) n s
      → (W xs : List Value) → W ≡ held ++ xs → (b q : ℕ) (o : RowOp) (args : List ℕ) (to : ℕ) (vs : List Value) (v : Value) → Acts p gs f n sc b o args q (first_and to m q) → m + length xs ≡ q → pick (env s W) args ≡ map Some vs → is_slight o ≡ true
      → op p sc.covers o vs s.world ≡ Gives v s.world → Leads p gs wa (at_place (place b (env s W)) s.world) (at_place (vals to held v s) s.world)
  gives_value m sc held R c s fit W xs are b q o args to vs v is at_q picked slight e =
      gives_on p gs wa builtins stand prev top good f n instead frs m sc held R c s fit W xs are b q o args (first_and to m q) vs is at_q picked slight v (env s (held ++ v ∷ [])) e
      (land_result n s fit.long W held xs m q v are c.all (let z = ap length are in omega (arith, z, length-append held xs, c.all, at_q)))

  local_by : (m : ℕ) (sc : Scope) (held : List Value) (R : ℕ → State → Place) → Keep m sc held R → (s : State) → Fit (suc top) n s → (i b q : ℕ) → LocalAt p gs f n sc i b m q → (o : Option (Option Value)) → slice_get s.locals i ≡ o
      → F (at_place (place b (env s held)) s.world) held s (vals q held) R (ReadBy (Local i)) (bound_value o s)
  local_by m sc held R c s fit i b q has None e =
      let z = slice_get-get_or s.locals i None (let l = fit.long in let h = has.0 in omega (arith, l, h)) in absurd (cc)
  local_by m sc held R c s fit i b q has (Some None) e =
      record {
        sim = unbound_on p gs wa builtins stand prev top good f n instead frs m sc held s b i row.Copy (first_and q m m) has.1 (wide n s fit.long held ∙ c.all) (land_local n s fit.long held i has.0 ∙ get_or_from_slice_get s.locals i None None e) refl s.moments;
      }
  local_by m sc held R c s fit i b q has (Some (Some v)) e =
      here p gs wa f instead frs
      (gives_value m sc held R c s fit held [] (sym (append-nil held)) b m row.Copy (i ∷ []) q (v ∷ []) v has.1 (omega arith) (ap (λ x. x ∷ []) (land_local n s fit.long held i has.0 ∙ get_or_from_slice_get s.locals i (Some v) None e)) refl refl)
      (λ j same. (v, subst (λ k. slice_get s.locals k ≡ Some (Some v)) same e))

  pub local_sim : (m : ℕ) (sc : Scope) (held : List Value) (R : ℕ → State → Place) → Keep m sc held R → (s : State) → Fit (suc top) n s → (i b q : ℕ) → LocalAt p gs f n sc i b m q
      → F (at_place (place b (env s held)) s.world) held s (vals q held) R (ReadBy (Local i)) (value p wa.watch prev sc.covers (Local i) s)
  local_sim m sc held R c s fit i b q has = local_by m sc held R c s fit i b q has (slice_get s.locals i) refl

  pub constant_sim : (m : ℕ) (sc : Scope) (held : List Value) (R : ℕ → State → Place) → Keep m sc held R → (s : State) → Fit (suc top) n s → (v : Value) (b q : ℕ) → ConstantAt p gs f n sc v b m q
      → F (at_place (place b (env s held)) s.world) held s (vals q held) R (ReadBy (Constant v)) (value p wa.watch prev sc.covers (Constant v) s)
  constant_sim m sc held R c s fit v b q has =
      here p gs wa f instead frs
      (gives_value m sc held R c s fit held [] (sym (append-nil held)) b m (row.Constant has.0) [] q [] v has.2 (omega arith) refl refl (ap (λ u. Gives u s.world) has.1))
      (λ j h. absurd h)

  -- the last variable goes on
  pub meets : (m : ℕ) (sc : Scope) (held : List Value) (R : ℕ → State → Place) → Keep m sc held R → (s : State) → Fit (suc top) n s → (v : Value) (b q : ℕ) → Meets p gs f n sc b m q
      → Leads p gs wa (at_place (place b (env s (held ++ v ∷ []))) s.world) (at_place (vals q held v s) s.world)
  meets m sc held R c s fit v b q has =
      gives_value m sc held R c s fit (held ++ v ∷ []) (v ∷ []) refl b (m + 1) row.Copy (m ∷ []) q (v ∷ []) v has (omega arith)
      (ap (λ x. x ∷ []) (land_at n s fit.long (held ++ v ∷ []) held [] v m refl c.all)) refl refl

  -- ---- the ways on from a test

  -- with W, the last one the value x, at the place `value`
  module _ (m : ℕ) (sc : Scope) (held : List Value) (R : ℕ → State → Place) (c : Keep m sc held R) (t : State) (fit : Fit (suc top) n t) (e : Expr) (x : Value) (ys W : List Value) (are : W ≡ held ++ (ys ++ x ∷ [])) (reads : ReadBy e x t) where
    count_is : n + length W ≡ m + length ys + 1
    count_is = let z = ap length are in omega (arith, z, length-append held (ys ++ x ∷ []), length-append ys (x ∷ []), c.all)

    x_at : (value : ℕ) → m + length ys ≡ value → (rest : List Value) (V : List Value) → V ≡ W ++ rest → get_or (env t V) value None ≡ Some x
    x_at value at rest V e =
        land_at n t fit.long V (held ++ ys) rest x value
        (e ∙ ap (λ l. l ++ rest) (are ∙ sym (append_assoc held ys (x ∷ []))) ∙ append_assoc (held ++ ys) (x ∷ []) rest)
        (omega (arith, length-append held ys, c.all, at))

    -- what a local is given again
    same_locals : (i : ℕ) (v : Value) → slice_get t.locals i ≡ Some (Some v) → i < n → slice_set (env t held) i (Some v) ≡ env t held
    same_locals i v e lt = set-append_left t.locals (map Some held) i (Some v) (let l = fit.long in omega (arith, l, lt)) ∙ ap (λ l. l ++ map Some held) (set_same t.locals i (Some v) e)

    kept : (at_value : ℕ) (i : ℕ) (v : Value) → m + length ys ≡ at_value → slice_get t.locals i ≡ Some (Some v) → i < n → pick (env t W ++ Some v ∷ []) (slice_set (range 0 m) i (at_value + 1)) ≡ env t held
    kept at_value i v at e lt =
        land_store n t fit.long W held (ys ++ x ∷ []) m (at_value + 1) i v are c.all (omega (arith, count_is, at)) ∙ same_locals i v e lt

    narrow : (at_value : ℕ) → m + length ys ≡ at_value → (branch : Branch) (b i : ℕ) (o : RowOp) (args : List ℕ) → i < n → IsBound t.locals i → Narrows p gs f n sc.covers o i args m at_value → Acts p gs f n sc b o args (at_value + 1) (stored branch.to m i (at_value + 1))
        → Leads p gs wa (at_place (place b (env t W)) t.world) (at_place (place branch.to (env t held)) t.world)
    narrow at_value at branch b i o args lt bd (slight, inl (e_args, gives)) is =
        let v = bd.0 in
        let read : get_or (env t W) i None ≡ Some v = land_local n t fit.long W i lt ∙ bound_read t i v bd.1 in
        gives_on p gs wa builtins stand prev top good f n instead frs m sc held R c t fit W (ys ++ x ∷ []) are b (at_value + 1) o args (stored branch.to m i (at_value + 1)) (v ∷ []) is (omega (arith, length-append ys (x ∷ []), at))
        (ap (pick (env t W)) e_args ∙ ap (λ z. z ∷ []) read) slight v (env t held) (gives v t.world) (kept at_value i v at bd.1 lt)
    narrow at_value at branch b i o args lt bd (slight, inr (side, e_args, above, under, gives)) is =
        let v = bd.0 in
        let read : get_or (env t W) i None ≡ Some v = land_local n t fit.long W i lt ∙ bound_read t i v bd.1 in
        let full = wide n t fit.long held in
        let other = bound_at (env t held) (ys ++ x ∷ []) side (omega (arith, full, c.all, above)) (omega (arith, full, c.all, under, at, length-append ys (x ∷ []))) in
        let read_other : get_or (env t W) side None ≡ Some other.0 = ap (λ l. get_or l side None) (ap (env t) are ∙ env_push t held (ys ++ x ∷ [])) ∙ other.1 in
        gives_on p gs wa builtins stand prev top good f n instead frs m sc held R c t fit W (ys ++ x ∷ []) are b (at_value + 1) o args (stored branch.to m i (at_value + 1)) (v ∷ other.0 ∷ []) is (omega (arith, length-append ys (x ∷ []), at))
        (ap (pick (env t W)) e_args ∙ ap (λ z. z ∷ get_or (env t W) side None ∷ []) read ∙ ap (λ z. Some v ∷ z ∷ []) read_other) slight v (env t held) (gives v other.0 t.world) (kept at_value i v at bd.1 lt)

    module _ (at_value : ℕ) (at : m + length ys ≡ at_value) (truth : Value) where
      abbrev V : List Value
      V = W ++ truth ∷ []

      V_is : V ≡ held ++ ((ys ++ x ∷ []) ++ truth ∷ [])
      V_is = ap (λ l. l ++ truth ∷ []) are ∙ append_assoc held (ys ++ x ∷ []) (truth ∷ [])

      directly : (b : Bool) (to : ℕ) → place (cond b (first_and to m at_value) (first to m)).to (pick (env t V) (cond b (first_and to m at_value) (first to m)).places) ≡ place to (cond b (env t (held ++ x ∷ [])) (env t held))
      directly true to = ap (place to) (jump_and n t fit.long V held ((ys ++ x ∷ []) ++ truth ∷ []) m at_value x V_is c.all (x_at at_value at (truth ∷ []) V refl))
      directly false to = ap (place to) (jump_first n t fit.long V held ((ys ++ x ∷ []) ++ truth ∷ []) m V_is c.all)

      -- on from the fork, in which the truth stands behind W
      way_on : (branch : Branch) (j : Jump) → Way p gs f n sc e m at_value branch j
          → Leads p gs wa (at_place (place j.to (pick (env t V) j.places)) t.world) (at_place (branch_place branch held x t) t.world)
      way_on branch j (inl e_j) =
          same_as p gs wa builtins stand prev top good f n instead frs (place j.to (pick (env t V) j.places)) (branch_place branch held x t) t.world
          (ap (λ k. place k.to (pick (env t V) k.places)) e_j ∙ directly branch.value branch.to)
      way_on branch j (inr (b, i, o, args, plain, lt, rd, nar, is, e_j)) =
          leads_on p gs wa
          (same_as p gs wa builtins stand prev top good f n instead frs (place j.to (pick (env t V) j.places)) (place b (env t W)) t.world
          (ap (λ k. place k.to (pick (env t V) k.places)) e_j ∙ ap (place b) (jump_first n t fit.long V W (truth ∷ []) (at_value + 1) refl (omega (arith, count_is, at)))))
          (leads_on p gs wa (narrow at_value at branch b i o args lt (reads i rd) nar is)
          (same_as p gs wa builtins stand prev top good f n instead frs (place branch.to (env t held)) (branch_place branch held x t) t.world (ap (λ d. place branch.to (cond d (env t (held ++ x ∷ [])) (env t held))) (sym plain))))

    -- the truth of x, and on
    forked : (at_value : ℕ) → m + length ys ≡ at_value → (b : ℕ) (so other : Branch) → Truth p gs f n sc e b m at_value so other → (go : Bool) → truth_in t.world x ≡ Some go
        → Leads p gs wa (at_place (place b (env t W)) t.world) (at_place (branch_place (by_truth go so other) held x t) t.world)
    forked at_value at b so other is go z =
        let fork = is.0 in
        let V = W ++ Flag go ∷ [] in
        let wide_V : length (env t V) ≡ at_value + 1 + 1 = wide n t fit.long V ∙ (let y = length-append W (Flag go ∷ []) in omega (arith, count_is, at, y)) in
        let its = is.4 in
        let spot = At f [] (exit.If (its.0 + (at_value + 1)) (link its.0 is.1) (link its.0 is.2)) (named its.0 (env t V)) instead frs t.world in
        let seen : look (named its.0 (env t V)) (its.0 + (at_value + 1)) ≡ Some (Flag go) = look_named its.0 (at_value + 1) (env t V) ∙ land_at n t fit.long V W [] (Flag go) (at_value + 1) refl (omega (arith, count_is, at)) in
        let chosen : step p gs spot ≡ chooses gs f frs t.world instead (named its.0 (env t V)) (link its.0 is.1) (link its.0 is.2) (Some go) = ap (λ v. chooses gs f frs t.world instead (named its.0 (env t V)) (link its.0 is.1) (link its.0 is.2) (truth_of t.world v)) seen in
        leads_on p gs wa
        (gives_value_at at_value at b fork (Flag go) is.3 (ap (λ o. flag_if_any o t.world) z))
        (leads_on p gs wa (enter_block p gs wa f instead frs fork (at_value + 1 + 1) its.0 its.1 its.2 (Fork (at_value + 1) is.1 is.2) (env t V) t.world its.3 wide_V)
        (by_go go spot (refl, refl) its.0 chosen (way_on at_value at (Flag go) so is.1 is.5) (way_on at_value at (Flag go) other is.2 is.6)))
      where
        gives_value_at : (at_value : ℕ) → m + length ys ≡ at_value → (b fork : ℕ) (v : Value) → Acts p gs f n sc b row.Truth (at_value ∷ []) (at_value + 1) (first_and fork (at_value + 1) (at_value + 1)) → op p sc.covers row.Truth (x ∷ []) t.world ≡ Gives v t.world → Leads p gs wa (at_place (place b (env t W)) t.world) (at_place (place fork (env t (W ++ v ∷ []))) t.world)
        gives_value_at at_value at b fork v is e =
            gives_on p gs wa builtins stand prev top good f n instead frs m sc held R c t fit W (ys ++ x ∷ []) are b (at_value + 1) row.Truth (at_value ∷ []) (first_and fork (at_value + 1) (at_value + 1)) (x ∷ []) is (omega (arith, length-append ys (x ∷ []), at))
            (ap (λ z. z ∷ []) (x_at at_value at [] W (sym (append-nil W)))) refl v (env t (W ++ v ∷ [])) e
            (land_result n t fit.long W W [] (at_value + 1) (at_value + 1) v (sym (append-nil W)) (omega (arith, count_is, at)) (omega (arith, count_is, at)))

        by_go : (go : Bool) (spot : Spot) → Free p gs wa spot → (base : ℕ) → step p gs spot ≡ chooses gs f frs t.world instead (named base (env t (W ++ Flag go ∷ []))) (link base is.1) (link base is.2) (Some go)
            → Leads p gs wa (at_place (place is.1.to (pick (env t (W ++ Flag go ∷ [])) is.1.places)) t.world) (at_place (branch_place so held x t) t.world)
            → Leads p gs wa (at_place (place is.2.to (pick (env t (W ++ Flag go ∷ [])) is.2.places)) t.world) (at_place (branch_place other held x t) t.world)
            → Leads p gs wa (Ends p gs wa spot) (at_place (branch_place (by_truth go so other) held x t) t.world)
        by_go true spot free base e a b = leads_on p gs wa (jump_to p gs wa f instead frs spot base (env t (W ++ Flag true ∷ [])) is.1 t.world free e) a
        by_go false spot free base e a b = leads_on p gs wa (jump_to p gs wa f instead frs spot base (env t (W ++ Flag false ∷ [])) is.2 t.world free e) b

    truth_by : {B : Type 0} (D : B → State → Place) (X : B → State → Type 0) (K : Bool → Eval B) (at_value : ℕ) → m + length ys ≡ at_value → (b : ℕ) (so other : Branch) → Truth p gs f n sc e b m at_value so other
        → ((go : Bool) → F (at_place (branch_place (by_truth go so other) held x t) t.world) held t D R X (K go t))
        → (o : Option Bool) → truth_in t.world x ≡ o → F (at_place (place b (env t W)) t.world) held t D R X (then_go (known o t) K)
    truth_by D X K at_value at b so other is k None z =
        record {
          sim = strays_on p gs wa builtins stand prev top good f n instead frs m sc held R c t fit W (ys ++ x ∷ []) are b (at_value + 1) row.Truth (at_value ∷ []) (first_and is.0 (at_value + 1) (at_value + 1)) (x ∷ []) is.3 (omega (arith, length-append ys (x ∷ []), at)) (ap (λ z. z ∷ []) (x_at at_value at [] W (sym (append-nil W)))) refl (ap (λ o. flag_if_any o t.world) z) t.moments;
        }
    truth_by D X K at_value at b so other is k (Some go) z = moved p gs wa f instead frs (forked at_value at b so other is go z) (k go)

    pub truth_sim : {B : Type 0} (D : B → State → Place) (X : B → State → Type 0) (K : Bool → Eval B) (at_value : ℕ) → m + length ys ≡ at_value → (b : ℕ) (so other : Branch) → Truth p gs f n sc e b m at_value so other
        → ((go : Bool) → F (at_place (branch_place (by_truth go so other) held x t) t.world) held t D R X (K go t))
        → F (at_place (place b (env t W)) t.world) held t D R X (then_go (is_so x t) K)
    truth_sim D X K at_value at b so other is k = truth_by D X K at_value at b so other is k (truth_in t.world x) refl
