-- Graphs that stand for the functions of a program mean what it means.
use Rattle.std.proofs.Common.{◌≡◌, ℕ, zero, suc, ◌+◌, ◌-◌, ◌^◌, ◌<◌, ◌≤◌, List, [], ◌∷◌, ◌++◌, length, Some, None, refl, sym, ap, ◌∙◌, subst, arith, append_assoc}
use Rattle.std.specs.Prelude.{map, slice_get, sum_by, filter, filter_map}
use Rattle.std.specs.List.{flat_map, range_with_len}
use Rattle.std.proofs.lemmas.List.Sums.{sum_by-cons}
use Rattle.rpy_base.specs.declared.outcome.Outcome.TheVariants as outcome
use Rattle.rpy_tree.specs.Value.{Value, Word, Flag, Text, Nothing, Tuple, Fun, Ref, Listed, Heap}
use Rattle.rpy_tree.specs.Held.{refs, texts, values_at, is_among, with_next, reached, on_cycles}
use Rattle.rpy_meaning.specs.Tree.{Program}
use Rattle.rpy_meaning.specs.Operations.{builtin_classes}
use Rattle.rpy_meaning.specs.Evaluation.{State, Ending, Done, Raised, Failed, Running, Wrong, Flow, wrong, values_of, leaving, result_of}
use Rattle.rpy_meaning.specs.Meaning.{Run, run, Sem, class_in, returned, name_of, task, within, over, ended as ending_of, exceptions_from, prebuilt, start as begin, mean}
use Rattle.rpy_meaning.specs.Moments.{held, references, held_by, references_of, NoMore, moment, Few}
use Rattle.rpy_meaning.proofs.Held.{held_no_more, references_no_more}
use Rattle.flow_graph.specs.declared.graph.Graphs.{Graphs}
use Rattle.flow_meaning.specs.Machine.{State as Spot, Returning, Throwing}
use Rattle.flow_meaning.specs.Meaning.{ended, start, GMeans}
use Rattle.flow_meaning.specs.Moments.{IsMoment}
use Rattle.flow_meaning.specs.Roots.{roots}
use Rattle.flow_meaning.proofs.One.{one_meaning, one_moment}
use Rattle.rpy_meaning.specs.declared.row.RowOp.TheVariants as row
use Rattle.flow_stands.proofs.Watches.{counts_none, Watching, never, by_number}
use Rattle.flow_stands.specs.Places.{first_and, Plain, GiveBack, GiveUp}
use Rattle.flow_stands.specs.Stands.{Is, outside, no_try, return_block, raise_block, end_block, HasExpr, HasBind, HasCondition, Stand}
use Rattle.flow_stands.specs.Follows.{HasBuiltins, EndsLike, UsesNoMore}
use Rattle.flow_stands.proofs.Worlds.{total, total_append, Weight, class_at, Sound}
use Rattle.flow_stands.proofs.Core.{by_on, at_moment, wrong_run, Ends, step_ends, Sim}
use Rattle.flow_stands.proofs.Calls.{Any, Good, leaves_by, left_at, raises_value, called_any, flow_place}
use Rattle.flow_stands.proofs.Trees.{sim_value, sim_bind, sim_condition, gathers_sim}
use Rattle.flow_stands.proofs.Stmts.{sim_block, loop_sim, for_sim}

-- ---- levels

module _ (p : Program) (gs : Graphs) (wa : Watching) (builtins : HasBuiltins p) (stand : Stand p gs) where
  no_level : (sem : Sem) → Good p gs wa sem 0
  no_level sem = record {
    body = λ f n instead frs b body s has fit. absurd (let l = fit.low in omega (arith, l));
    loop = λ f n instead frs m sc held R b t e body s has c keeps fit. absurd (let l = fit.low in omega (arith, l));
    turns = λ f n instead frs m sc held R b t target body walking s has c keeps fit. absurd (let l = fit.low in omega (arith, l));
    gather = λ f n instead frs m sc held R b whole item target condition list walking s has c fit. absurd (let l = fit.low in omega (arith, l));
  }

  level : (prev : Sem) (top : ℕ) → Good p gs wa prev top → Good p gs wa (task p wa.watch prev) (suc top)
  level prev top good = record {
    body = λ f n instead frs b body s has fit.
        sim_block p gs wa builtins stand prev top good f n instead frs body no_try n b [] (leaves_by p gs wa)
        (record { all = omega arith; default = omega arith; hands = tt; taken = λ r t long. refl }) (outside n) (record { brk = omega arith; cont = omega arith; ret = omega arith }) s fit has;
    loop = λ f n instead frs m sc held R b t e body s has c keeps fit.
        loop_sim p gs wa builtins stand prev top good f n instead frs sc e body (sim_block p gs wa builtins stand prev top good f n instead frs body sc) m b held R c t keeps s fit has;
    turns = λ f n instead frs m sc held R b t target body walking s has c keeps fit.
        for_sim p gs wa builtins stand prev top good f n instead frs sc target body (sim_block p gs wa builtins stand prev top good f n instead frs body sc) m b held R c t keeps walking has s fit;
    gather = λ f n instead frs m sc held R b whole item target condition list walking s has c fit.
        gathers_sim p gs wa builtins stand prev top good f n instead frs sc item target condition (HasExpr p gs f n sc item) (HasBind p gs f n sc target []) (HasCondition p gs f n sc condition)
        (sim_value p gs wa builtins stand prev top good f n instead frs sc item) (sim_bind p gs wa builtins stand prev top good f n instead frs sc target) (sim_condition p gs wa builtins stand prev top good f n instead frs sc condition)
        m b whole held list R c walking (λ next u fit_u. good.gather f n instead frs m sc held R b whole item target condition list (record walking { at = next }) u has c fit_u) has s fit;
  }

  good_within : (d : ℕ) → Good p gs wa (within p wa.watch d) (suc d)
  good_within zero = level (λ asked. wrong) 0 (no_level _)
  good_within (suc d) = level (within p wa.watch d) (suc d) (good_within d)

  -- ---- a run

  -- the machine comes to the ending, or stands so at the moment c
  pub record Comes (P : Run → ℕ → Type 0) (c : ℕ) (r : Run) : Type 0 where
    pub run : Run
    pub there : P run c
    pub outcome : run.outcome ≡ r.outcome
    pub world : run.world ≡ r.world
    pub more : (wt : Weight) → total wt.of run.held ≤ total wt.of r.held

  exception_class : (c k i : ℕ) (rest : Heap) → i < k → class_at (exceptions_from c k ++ rest) i ≡ Some (c + i)
  exception_class c zero i rest lt = absurd (omega arith)
  exception_class c (suc k) zero rest lt = let e : c ≡ c + 0 = omega arith in ap (λ x. Some x) e
  exception_class c (suc k) (suc i) rest lt = let e : suc c + i ≡ c + suc i = omega arith in exception_class (suc c) k i rest (omega arith) ∙ ap (λ x. Some x) e

  sound_start : (rest more : Heap) → Sound ((exceptions_from 0 builtin_classes ++ rest) ++ more)
  sound_start rest more = record {
    builtin = λ i lt.
        let e : 0 + i ≡ i = omega arith in
        ap (λ h. class_at h i) (append_assoc (exceptions_from 0 builtin_classes) rest more) ∙ exception_class 0 builtin_classes i (rest ++ more) lt ∙ ap (λ x. Some x) e;
  }

  module _ (g : ℕ) (args : List Value) (s0 : State) where
    leaves : (at : Spot) (n j : ℕ) → Is p gs g n return_block 1 GiveBack → Is p gs g n raise_block 1 GiveUp → Is p gs g n end_block n (Plain row.None (first_and return_block 0 n)) → (e : Ending Flow) (s1 : State) → length s1.locals ≡ n → s1.moments ≡ j → Sim p gs wa g None [] (Ends p gs wa at) [] s1 (flow_place (outside n) []) (leaves_by p gs wa) Any e → Comes (Ends p gs wa at) j (ending_of p (leaving s0.locals args None e))
    leaves at n j is_return is_raise is_end (Done flow t) s1 long same_j r =
        record {
          run = over (returned (result_of flow)) [] t;
          there =
              subst (λ c. Ends p gs wa at (over (returned (result_of flow)) [] t) c) same_j
              ((by_on p gs wa r.leads (at_moment p gs wa t.moments (left_at p gs wa [] g None n is_return is_raise is_end flow t (r.after.long ∙ long)))).by _
              (step_ends p gs wa (Returning (result_of flow) [] t.world) (returned (result_of flow)) t.world t.moments t.moments (counts_none wa.stops t.moments) refl));
          outcome = refl;
          world = refl;
          more = λ wt. omega arith;
        }
    leaves at n j is_return is_raise is_end (Raised x t) s1 long same_j r =
        record {
          run = over (name_of (slice_get p.classes (class_in t.world x))) [] t;
          there =
              subst (λ c. Ends p gs wa at (over (name_of (slice_get p.classes (class_in t.world x))) [] t) c) same_j
              ((by_on p gs wa r.leads (at_moment p gs wa t.moments (raises_value p gs wa [] g None n is_return is_raise is_end x t.world))).by _
              (step_ends p gs wa (Throwing x [] t.world) (name_of (slice_get p.classes (class_in t.world x))) t.world t.moments t.moments (counts_none wa.stops t.moments) refl));
          outcome = refl;
          world = refl;
          more = λ wt. omega arith;
        }
    leaves at n j is_return is_raise is_end (Failed name t) s1 long same_j r = record { run = over (Some (outcome.Failed name)) [] t; there = subst (λ c. Ends p gs wa at (over (Some (outcome.Failed name)) [] t) c) same_j r; outcome = refl; world = refl; more = λ wt. omega arith }
    leaves at n j is_return is_raise is_end (Running rs t) s1 long same_j r =
        record {
          run = over (Some outcome.Running) r.used t;
          there = subst (λ c. Ends p gs wa at (over (Some outcome.Running) r.used t) c) same_j r.ends;
          outcome = refl;
          world = refl;
          more = λ wt. omega (arith, r.more wt, total_append wt.of (rs ++ values_of t.locals) args, total_append wt.of rs (values_of t.locals));
        }
    leaves at n j is_return is_raise is_end Wrong s1 long same_j r = record { run = wrong_run p gs wa; there = subst (λ c. Ends p gs wa at (wrong_run p gs wa) c) same_j r; outcome = refl; world = refl; more = λ wt. omega arith }

  pub comes : (args : List (List ℕ)) (n m : ℕ) → Comes (Ends p gs wa (start p args n)) m (run p wa.watch args n m)
  comes args n m =
      let s0 = begin p args n m in
      let vs : List Value = Ref (length (prebuilt p)) ∷ [] in
      called_any p gs wa [] p.entry vs None s0 (within p wa.watch n) (suc n) (good_within n) (λ w j P e. Comes P j (ending_of p e))
      (λ at w j x. record { run = _; there = x; outcome = refl; world = refl; more = λ wt. omega arith })
      (λ at w j k same x. record { run = _; there = x; outcome = refl; world = refl; more = λ wt. let y = ap (total wt.of) same in omega (arith, y, total_append wt.of vs []) })
      (λ at w j s1 k is_return is_raise is_end e later long same_j x. leaves p.entry vs s0 at k j is_return is_raise is_end e s1 long same_j x)
      (start p args n) s0.world m (slice_get p.functions p.entry) (stand p.entry) (omega arith) (sound_start (filter_map (λ object. object) p.sites) (Listed (map Text args) ∷ [])) refl refl refl refl refl

-- ---- as it ends

module _ (p : Program) (gs : Graphs) (builtins : HasBuiltins p) (stand : Stand p gs) where
  unwatched_run : (args : List (List ℕ)) (n : ℕ) → Comes p gs never builtins stand (Ends p gs never (start p args n)) 0 (mean p args n)
  unwatched_run args n = comes p gs never builtins stand args n 0

  pub has_ending : (args : List (List ℕ)) (n : ℕ) → (q : Run) × GMeans p gs args n q × EndsLike q (mean p args n)
  has_ending args n =
      let c = unwatched_run args n in
      (c.run, (c.there.k, ap ended c.there.is), (c.outcome, c.world))

  pub only_ending : (args : List (List ℕ)) (n : ℕ) (q : Run) → GMeans p gs args n q → EndsLike q (mean p args n)
  only_ending args n q means =
      let c = unwatched_run args n in
      let same : q ≡ c.run = one_meaning p gs args n q c.run means (c.there.k, ap ended c.there.is) in
      (ap (λ r. r.outcome) same ∙ c.outcome, ap (λ r. r.world) same ∙ c.world)

  holds : (args : List (List ℕ)) (n : ℕ) (q : Run) → GMeans p gs args n q → (wt : Weight) → total wt.of q.held ≤ total wt.of (mean p args n).held
  holds args n q means wt =
      let c = unwatched_run args n in
      let same : q ≡ c.run = one_meaning p gs args n q c.run means (c.there.k, ap ended c.there.is) in
      subst (λ r. total wt.of r.held ≤ total wt.of (mean p args n).held) (sym same) (c.more wt)

-- ---- functions hold nothing

total_is : (f : Value → ℕ) (vs : List Value) → total f vs ≡ sum_by f vs
total_is f [] = refl
total_is f (v ∷ vs) = let ih = total_is f vs in omega (arith, ih, sum_by-cons f v vs)

bare : List Value → List Value
bare [] = []
bare (Fun g ∷ vs) = bare vs
bare (v ∷ vs) = v ∷ bare vs

abbrev without : (Value → ℕ) → Value → ℕ
without f (Fun g) = 0
without f v = f v

bare_total : (f : Value → ℕ) (vs : List Value) → total f (bare vs) ≡ total (without f) vs
unfolding bare
bare_total f [] = refl
bare_total f (Fun g ∷ vs) = let ih = bare_total f vs in omega (arith, ih)
bare_total f (Word z ∷ vs) = let ih = bare_total f vs in omega (arith, ih)
bare_total f (Flag b ∷ vs) = let ih = bare_total f vs in omega (arith, ih)
bare_total f (Text t ∷ vs) = let ih = bare_total f vs in omega (arith, ih)
bare_total f (Nothing ∷ vs) = let ih = bare_total f vs in omega (arith, ih)
bare_total f (Tuple us ∷ vs) = let ih = bare_total f vs in omega (arith, ih)
bare_total f (Ref r ∷ vs) = let ih = bare_total f vs in omega (arith, ih)

bare_refs : (vs : List Value) → flat_map refs (bare vs) ≡ flat_map refs vs
unfolding bare
bare_refs [] = refl
bare_refs (Fun g ∷ vs) = bare_refs vs
bare_refs (Word z ∷ vs) = bare_refs vs
bare_refs (Flag b ∷ vs) = bare_refs vs
bare_refs (Text t ∷ vs) = bare_refs vs
bare_refs (Nothing ∷ vs) = bare_refs vs
bare_refs (Tuple us ∷ vs) = ap (λ l. refs (Tuple us) ++ l) (bare_refs vs)
bare_refs (Ref r ∷ vs) = ap (λ l. refs (Ref r) ++ l) (bare_refs vs)

-- a weight that functions do not have weighs both alike
bare_sum : (f : Value → ℕ) → ((g : ℕ) → f (Fun g) ≡ 0) → (vs : List Value) → sum_by f (bare vs) ≡ sum_by f vs
unfolding bare
bare_sum f none [] = refl
bare_sum f none (Fun g ∷ vs) = let ih = bare_sum f none vs in let z = none g in omega (arith, ih, z, sum_by-cons f (Fun g) vs)
bare_sum f none (Word x ∷ vs) = let ih = bare_sum f none vs in omega (arith, ih, sum_by-cons f (Word x) vs, sum_by-cons f (Word x) (bare vs))
bare_sum f none (Flag x ∷ vs) = let ih = bare_sum f none vs in omega (arith, ih, sum_by-cons f (Flag x) vs, sum_by-cons f (Flag x) (bare vs))
bare_sum f none (Text x ∷ vs) = let ih = bare_sum f none vs in omega (arith, ih, sum_by-cons f (Text x) vs, sum_by-cons f (Text x) (bare vs))
bare_sum f none (Nothing ∷ vs) = let ih = bare_sum f none vs in omega (arith, ih, sum_by-cons f Nothing vs, sum_by-cons f Nothing (bare vs))
bare_sum f none (Tuple x ∷ vs) = let ih = bare_sum f none vs in omega (arith, ih, sum_by-cons f (Tuple x) vs, sum_by-cons f (Tuple x) (bare vs))
bare_sum f none (Ref x ∷ vs) = let ih = bare_sum f none vs in omega (arith, ih, sum_by-cons f (Ref x) vs, sum_by-cons f (Ref x) (bare vs))

abbrev counted_by : List ℕ → ℕ → Heap → List ℕ
counted_by roots built heap =
    filter (λ n. is_among n (reached heap (length heap) (with_next heap [] (roots ++ on_cycles heap (length heap))))) (range_with_len built (length heap - built))

bare_held : (built : ℕ) (vs : List Value) (heap : Heap) → held built (bare vs) heap ≡ held built vs heap
bare_held built vs heap =
    ap (λ l. length (counted_by l built heap) + (sum_by texts (bare vs) + sum_by (λ n. sum_by texts (values_at heap n)) (counted_by l built heap))) (bare_refs vs)
    ∙ ap (λ k. length (counted_by (flat_map refs vs) built heap) + (k + sum_by (λ n. sum_by texts (values_at heap n)) (counted_by (flat_map refs vs) built heap))) (bare_sum texts (λ g. refl) vs)

bare_references : (built : ℕ) (vs : List Value) (heap : Heap) → references built (bare vs) heap ≡ references built vs heap
bare_references built vs heap =
    ap (λ l. sum_by (λ v. length (refs v)) (bare vs) + sum_by (λ n. sum_by (λ v. length (refs v)) (values_at heap n)) (counted_by l built heap)) (bare_refs vs)
    ∙ ap (λ k. k + sum_by (λ n. sum_by (λ v. length (refs v)) (values_at heap n)) (counted_by (flat_map refs vs) built heap)) (bare_sum (λ v. length (refs v)) (λ g. refl) vs)

bare_less : (vs us : List Value) → ((wt : Weight) → total wt.of vs ≤ total wt.of us) → NoMore (bare vs) (bare us)
bare_less vs us less f =
    let w : Weight = record { of = without f; functions = λ g. refl } in
    let x = less w in
    omega (arith, x, total_is f (bare vs), total_is f (bare us), bare_total f vs, bare_total f us)

-- what is used is no more in every way
used_less : (p : Program) (q r : Run) → q.world ≡ r.world → ((wt : Weight) → total wt.of q.held ≤ total wt.of r.held) → UsesNoMore p q r
used_less p q r same less =
    let bared = bare_less q.held r.held less in
    record {
      values = λ f none. let x = less (record { of = f; functions = none }) in omega (arith, x, total_is f q.held, total_is f r.held);
      held =
          subst (λ w. held (length (prebuilt p)) q.held w.heap ≤ held_by p r) (sym same)
          (let x = held_no_more (bare q.held) (bare r.held) bared r.world.heap (length (prebuilt p)) in
          let a = bare_held (length (prebuilt p)) q.held r.world.heap in
          let b = bare_held (length (prebuilt p)) r.held r.world.heap in
          omega (arith, x, a, b));
      references =
          subst (λ w. references (length (prebuilt p)) q.held w.heap ≤ references_of p r) (sym same)
          (let x = references_no_more (bare q.held) (bare r.held) bared r.world.heap (length (prebuilt p)) in
          let a = bare_references (length (prebuilt p)) q.held r.world.heap in
          let b = bare_references (length (prebuilt p)) r.held r.world.heap in
          omega (arith, x, a, b));
    }

module _ (p : Program) (gs : Graphs) (builtins : HasBuiltins p) (stand : Stand p gs) where
  pub uses : (args : List (List ℕ)) (n : ℕ) (q : Run) → GMeans p gs args n q → UsesNoMore p q (mean p args n)
  uses args n q means = used_less p q (mean p args n) (only_ending p gs builtins stand args n q means).1 (holds p gs builtins stand args n q means)

  -- ---- on the way

  -- its moments
  stands_so : (args : List (List ℕ)) (n m : ℕ) → Comes p gs by_number builtins stand (Ends p gs by_number (start p args n)) m (moment p args n m)
  stands_so args n m = comes p gs by_number builtins stand args n m

  pub has_moment : (args : List (List ℕ)) (n m : ℕ) → (q : Run) × IsMoment p gs args n m q × EndsLike q (moment p args n m)
  has_moment args n m =
      let c = stands_so args n m in
      (c.run, (c.there.k, ap ended c.there.is), (c.outcome, c.world))

  same_moment : (args : List (List ℕ)) (n m : ℕ) (q : Run) → IsMoment p gs args n m q → q ≡ (stands_so args n m).run
  same_moment args n m q is = let c = stands_so args n m in one_moment p gs args n m q c.run is (c.there.k, ap ended c.there.is)

  pub only_moment : (args : List (List ℕ)) (n m : ℕ) (q : Run) → IsMoment p gs args n m q → EndsLike q (moment p args n m)
  only_moment args n m q is =
      let c = stands_so args n m in
      (ap (λ r. r.outcome) (same_moment args n m q is) ∙ c.outcome, ap (λ r. r.world) (same_moment args n m q is) ∙ c.world)

  pub uses_there : (args : List (List ℕ)) (n m : ℕ) (q : Run) → IsMoment p gs args n m q → UsesNoMore p q (moment p args n m)
  uses_there args n m q is =
      let c = stands_so args n m in
      used_less p q (moment p args n m) (only_moment args n m q is).1
      (λ wt. subst (λ r. total wt.of r.held ≤ total wt.of (moment p args n m).held) (sym (same_moment args n m q is)) (c.more wt))

  pub holds_few : (args : List (List ℕ)) (n m : ℕ) (q : Run) → Few p args n → IsMoment p gs args n m q → held_by p q + references_of p q < 2 ^ 58
  holds_few args n m q few is =
      let less = uses_there args n m q is in
      below (held_by p q) (references_of p q) (held_by p (moment p args n m)) (references_of p (moment p args n m)) (2 ^ 58) less.held less.references (few m)
    where
      below : (a b c d bound : ℕ) → a ≤ c → b ≤ d → c + d < bound → a + b < bound
      below a b c d bound x y z = omega (arith, x, y, z)
