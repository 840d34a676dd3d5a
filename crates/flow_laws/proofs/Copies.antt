-- Graphs run in a program as in the same without the copies of checked operations.
use Rattle.std.proofs.Common.{◌≡◌, ◌+◌, ◌^◌, ◌<◌, ◌≤◌, arith, ℕ, zero, suc, List, [], ◌∷◌, length, false, Option, Some, None, refl, sym, ap, subst, ◌∙◌}
use Rattle.std.specs.Prelude.{Bool, ◌&&◌, not, slice_get, option_map, cond}
use Rattle.rpy_tree.specs.Value.{Value}
use Rattle.rpy_tree.specs.declared.program.Program as source
use Rattle.rpy_meaning.specs.Tree.{Function, Program}
use Rattle.rpy_meaning.specs.World.{World, Answer, Gives, Throws, Fails, Lacks, Enters, Bad}
use Rattle.rpy_meaning.specs.Classes.{is_below}
use Rattle.rpy_meaning.specs.Operations.{op}
use Rattle.rpy_meaning.specs.Meaning.{Run, Behind, mean, class_in}
use Rattle.rpy_meaning.specs.Moments.{held_by, references_of, is_passed_over, moment, Few}
use Rattle.rpy_resolved.specs.Count.{function_count}
use Rattle.resolved_meaning.specs.Trees.{program_of}
use Rattle.resolved_laws.specs.Meant.{meant_by}
use Rattle.resolved_laws.specs.Uncopied.{uncopied, uncopied_function}
use Rattle.resolved_laws.proofs.Ops.{op_same}
use Rattle.resolved_laws.proofs.Same.{there, mean_same, moment_same}
use Rattle.resolver_laws.specs.Listing.{HasNoInnerClasses}
use Rattle.flow_graph.specs.declared.graph.Link.{Link}
use Rattle.flow_graph.specs.declared.graph.Exit.{Exit}
use Rattle.flow_graph.specs.declared.graph.Exit.TheVariants as exit
use Rattle.flow_graph.specs.declared.graph.Op.{Op}
use Rattle.flow_graph.specs.declared.graph.Graphs.{Graphs}
use Rattle.flow_meaning.specs.Machine.{Bound, Frame, State, Calling, At, Returning, Throwing, Next, Goes, Ends, Stops, Strays, values_of, catching, caught_on, caught_by, caught, answered, operates, leaves, entered, step}
use Rattle.flow_meaning.specs.Meaning.{Ran, follow, run, start, ended, gmean, GMeans}
use Rattle.flow_meaning.specs.Moments.{is_value, gives_value, is_way, is_at, is_behind, past, on_past, follow_past, step_past, run_to, gmoment, IsMoment}
use Rattle.flow_stands.specs.Follows.{HasBuiltins, EndsLike, UsesNoMore}
use Rattle.flow_stands.specs.Stands.{Stand}
use Rattle.flow_stands.proofs.Top.{has_ending, only_ending, uses, has_moment, only_moment, uses_there}
use Rattle.flow_space.specs.Placed.{StandFor}

module _ (p : Program) (gs : Graphs) where
  catching_same : (class : ℕ) (cs : List (ℕ × Link)) (any : Option Link) → catching (uncopied p) class cs any ≡ catching p class cs any
  catching_same class [] any = refl
  catching_same class (c ∷ cs) any = ap (cond (is_below p.classes class c.0) (Some c.1)) (catching_same class cs any)

  caught_by_same : (f r : ℕ) (frames : List Frame) (world : World) (instead : Option Value) (env : List Bound) (x : Exit) → caught_by (uncopied p) gs f r frames world instead env x ≡ caught_by p gs f r frames world instead env x
  caught_by_same f r frames world instead env (exit.Goto link) = refl
  caught_by_same f r frames world instead env (exit.If v there elsewhere) = refl
  caught_by_same f r frames world instead env (exit.OnRaise v classes any link) = ap (caught_on gs f r frames world instead env v) (catching_same (class_in world r) classes any)
  caught_by_same f r frames world instead env (exit.Return v) = refl
  caught_by_same f r frames world instead env (exit.Raise v) = refl

  caught_same : (f r : ℕ) (frames : List Frame) (world : World) (instead : Option Value) (env : List Bound) (ops : List Op) (x : Exit) → caught (uncopied p) gs f r frames world instead env ops x ≡ caught p gs f r frames world instead env ops x
  caught_same f r frames world instead env [] x = caught_by_same f r frames world instead env x
  caught_same f r frames world instead env (o ∷ ops) x = refl

  answered_same : (f : ℕ) (o : Op) (ops : List Op) (x : Exit) (env : List Bound) (instead : Option Value) (frames : List Frame) (before : World) (a : Answer)
      → answered (uncopied p) gs f o ops x env instead frames before a ≡ answered p gs f o ops x env instead frames before a
  answered_same f o ops x env instead frames before (Gives v world) = refl
  answered_same f o ops x env instead frames before (Throws r world) = caught_same f r frames world instead env ops x
  answered_same f o ops x env instead frames before (Fails name) = refl
  answered_same f o ops x env instead frames before Lacks = refl
  answered_same f o ops x env instead frames before (Enters g args other world) = refl
  answered_same f o ops x env instead frames before Bad = refl

  operates_same : (f : ℕ) (o : Op) (ops : List Op) (x : Exit) (env : List Bound) (instead : Option Value) (frames : List Frame) (world : World) (vs : Option (List Value))
      → operates (uncopied p) gs f o ops x env instead frames world vs ≡ operates p gs f o ops x env instead frames world vs
  operates_same f o ops x env instead frames world None = refl
  operates_same f o ops x env instead frames world (Some vs) =
      answered_same f o ops x env instead frames world (op (uncopied p) o.covered o.op vs world)
      ∙ ap (λ (a : World → Answer). answered p gs f o ops x env instead frames world (a world)) (op_same p o.covered o.op vs)

  leaves_same : (f : ℕ) (x : Exit) (env : List Bound) (instead : Option Value) (frames : List Frame) (world : World) → leaves (uncopied p) gs f x env instead frames world ≡ leaves p gs f x env instead frames world
  leaves_same f (exit.Goto link) env instead frames world = refl
  leaves_same f (exit.If v there elsewhere) env instead frames world = refl
  leaves_same f (exit.OnRaise v classes any link) env instead frames world = refl
  leaves_same f (exit.Return v) env instead frames world = refl
  leaves_same f (exit.Raise v) env instead frames world = refl

  entered_same : (f : ℕ) (args : List Value) (instead : Option Value) (frames : List Frame) (world : World) (x : Option Function)
      → entered gs f args instead frames world (option_map uncopied_function x) ≡ entered gs f args instead frames world x
  entered_same f args instead frames world None = refl
  entered_same f args instead frames world (Some x) = refl

  step_same : (s : State) → step (uncopied p) gs s ≡ step p gs s
  step_same (Calling f args instead frames world) =
      ap (entered gs f args instead frames world) (there p.functions f) ∙ entered_same f args instead frames world (slice_get p.functions f)
  step_same (At f [] x env instead frames world) = leaves_same f x env instead frames world
  step_same (At f (o ∷ ops) x env instead frames world) = operates_same f o ops x env instead frames world (values_of env o.args)
  step_same (Returning v [] world) = refl
  step_same (Returning v (frame ∷ frames) world) = refl
  step_same (Throwing r [] world) = refl
  step_same (Throwing r (frame ∷ frames) world) = caught_same frame.graph r frames world frame.instead frame.env frame.ops frame.exit

  follow_same : (go went : State → Ran) (s : State) (next : Next) → ((t : State) → go t ≡ went t) → follow go s next ≡ follow went s next
  follow_same go went s (Goes t) h = h t
  follow_same go went s (Ends outcome world) h = refl
  follow_same go went s (Stops world) h = refl
  follow_same go went s Strays h = refl

  run_same : (k : ℕ) (s : State) → run (uncopied p) gs k s ≡ run p gs k s
  unfolding run
  run_same zero s = refl
  run_same (suc k) s = ap (follow (run (uncopied p) gs k) s) (step_same s) ∙ follow_same (run (uncopied p) gs k) (run p gs k) s (step p gs s) (run_same k)

  gmean_same : (args : List (List ℕ)) (n k : ℕ) → gmean (uncopied p) gs args n k ≡ gmean p gs args n k
  gmean_same args n k = ap ended (run_same k (start p args n))

  ending : Stand p gs → HasBuiltins (uncopied p) → (args : List (List ℕ)) (n : ℕ) → (q : Run) × GMeans (uncopied p) gs args n q × EndsLike q (mean (uncopied p) args n)
  ending stand builtins args n =
      let x = has_ending p gs builtins stand args n in
      (x.0, (x.1.0, gmean_same args n x.1.0 ∙ x.1.1), subst (EndsLike x.0) (sym (mean_same p args n)) x.2)

  only : Stand p gs → HasBuiltins (uncopied p) → (args : List (List ℕ)) (n : ℕ) (q : Run) → GMeans (uncopied p) gs args n q → EndsLike q (mean (uncopied p) args n)
  only stand builtins args n q means =
      subst (EndsLike q) (sym (mean_same p args n)) (only_ending p gs builtins stand args n q (means.0, sym (gmean_same args n means.0) ∙ means.1))

  -- ---- moments

  at_same : (s : State) → is_at (uncopied p) gs s ≡ is_at p gs s
  at_same (Calling f args instead frames world) = ap is_way (step_same (Calling f args instead frames world))
  at_same (At f [] x env instead frames world) = refl
  at_same (At f (o ∷ ops) x env instead frames world) = refl
  at_same (Returning v frames world) = refl
  at_same (Throwing r frames world) = refl

  gives_same : (o : Op) (world : World) (vs : Option (List Value)) → gives_value (uncopied p) o world vs ≡ gives_value p o world vs
  gives_same o world None = refl
  gives_same o world (Some vs) = ap (λ (a : World → Answer). is_value (a world)) (op_same p o.covered o.op vs)

  behind_same : (s : State) → is_behind (uncopied p) s ≡ is_behind p s
  behind_same (Calling f args instead frames world) = refl
  behind_same (At f [] x env instead frames world) = refl
  behind_same (At f (o ∷ ops) x env instead frames world) = ap (λ b. b && not (is_passed_over (Behind o.op))) (gives_same o world (values_of env o.args))
  behind_same (Returning v [] world) = refl
  behind_same (Returning v (frame ∷ frames) world) = refl
  behind_same (Throwing r frames world) = refl

  on_same : (go went : ℕ → State → Ran) → ((m : ℕ) (t : State) → go m t ≡ went m t) → (t : State) (m : Option ℕ) → on_past go t m ≡ on_past went t m
  on_same go went h t None = refl
  on_same go went h t (Some m) = h m t

  follow_past_same : (go went : ℕ → State → Ran) → ((m : ℕ) (t : State) → go m t ≡ went m t) → (s : State) (behind : Bool) (m : ℕ) (next : Next) → follow_past go s behind m next ≡ follow_past went s behind m next
  follow_past_same go went h s behind m (Goes t) = on_same go went h t (past behind m)
  follow_past_same go went h s behind m (Ends outcome world) = refl
  follow_past_same go went h s behind m (Stops world) = refl
  follow_past_same go went h s behind m Strays = refl

  step_past_same : (go went : ℕ → State → Ran) → ((m : ℕ) (t : State) → go m t ≡ went m t) → (s : State) (m : Option ℕ) → step_past (uncopied p) gs go s m ≡ step_past p gs went s m
  step_past_same go went h s None = refl
  step_past_same go went h s (Some m) =
      ap (λ b. follow_past go s b m (step (uncopied p) gs s)) (behind_same s) ∙ ap (follow_past go s (is_behind p s) m) (step_same s) ∙ follow_past_same go went h s (is_behind p s) m (step p gs s)

  run_to_same : (k m : ℕ) (s : State) → run_to (uncopied p) gs k m s ≡ run_to p gs k m s
  unfolding run_to
  run_to_same zero m s = refl
  run_to_same (suc k) m s =
      ap (λ b. step_past (uncopied p) gs (run_to (uncopied p) gs k) s (past b m)) (at_same s) ∙ step_past_same (run_to (uncopied p) gs k) (run_to p gs k) (run_to_same k) s (past (is_at p gs s) m)

  gmoment_same : (args : List (List ℕ)) (n m k : ℕ) → gmoment (uncopied p) gs args n m k ≡ gmoment p gs args n m k
  gmoment_same args n m k = ap ended (run_to_same k m (start p args n))

  at_moments : Stand p gs → HasBuiltins (uncopied p) → (args : List (List ℕ)) (n m : ℕ) → (q : Run) × IsMoment (uncopied p) gs args n m q × EndsLike q (moment (uncopied p) args n m)
  at_moments stand builtins args n m =
      let x = has_moment p gs builtins stand args n m in
      (x.0, (x.1.0, gmoment_same args n m x.1.0 ∙ x.1.1), subst (EndsLike x.0) (sym (moment_same p args n m)) x.2)

  moments_only : Stand p gs → HasBuiltins (uncopied p) → (args : List (List ℕ)) (n m : ℕ) (q : Run) → IsMoment (uncopied p) gs args n m q → EndsLike q (moment (uncopied p) args n m)
  moments_only stand builtins args n m q is =
      subst (EndsLike q) (sym (moment_same p args n m)) (only_moment p gs builtins stand args n m q (is.0, sym (gmoment_same args n m is.0) ∙ is.1))

  no_more_there : Stand p gs → HasBuiltins (uncopied p) → (args : List (List ℕ)) (n m : ℕ) (q : Run) → IsMoment (uncopied p) gs args n m q → UsesNoMore (uncopied p) q (moment (uncopied p) args n m)
  no_more_there stand builtins args n m q is =
      let u = uses_there p gs builtins stand args n m q (is.0, sym (gmoment_same args n m is.0) ∙ is.1) in
      subst (UsesNoMore (uncopied p) q) (sym (moment_same p args n m)) (record { values = u.values; held = u.held; references = u.references })

  no_more : Stand p gs → HasBuiltins (uncopied p) → (args : List (List ℕ)) (n : ℕ) (q : Run) → GMeans (uncopied p) gs args n q → UsesNoMore (uncopied p) q (mean (uncopied p) args n)
  no_more stand builtins args n q means =
      let u = uses p gs builtins stand args n q (means.0, sym (gmean_same args n means.0) ∙ means.1) in
      subst (UsesNoMore (uncopied p) q) (sym (mean_same p args n)) (record { values = u.values; held = u.held; references = u.references })

module _ (p : source.Program) (gs : Graphs) where
  pub ends : StandFor p gs → HasNoInnerClasses p.modules → function_count p.modules ≤ length p.functions → HasBuiltins (meant_by p)
      → (args : List (List ℕ)) (n : ℕ) → (q : Run) × GMeans (meant_by p) gs args n q × EndsLike q (mean (meant_by p) args n)
  ends for flat many builtins =
      let same = for.meant flat many in
      subst (λ m. HasBuiltins m → (args : List (List ℕ)) (n : ℕ) → (q : Run) × GMeans m gs args n q × EndsLike q (mean m args n)) same (ending (program_of for.resolved) gs for.stand) builtins

  pub ends_so : StandFor p gs → HasNoInnerClasses p.modules → function_count p.modules ≤ length p.functions → HasBuiltins (meant_by p)
      → (args : List (List ℕ)) (n : ℕ) (q : Run) → GMeans (meant_by p) gs args n q → EndsLike q (mean (meant_by p) args n)
  ends_so for flat many builtins =
      let same = for.meant flat many in
      subst (λ m. HasBuiltins m → (args : List (List ℕ)) (n : ℕ) (q : Run) → GMeans m gs args n q → EndsLike q (mean m args n)) same (only (program_of for.resolved) gs for.stand) builtins

  pub use_no_more : StandFor p gs → HasNoInnerClasses p.modules → function_count p.modules ≤ length p.functions → HasBuiltins (meant_by p)
      → (args : List (List ℕ)) (n : ℕ) (q : Run) → GMeans (meant_by p) gs args n q → UsesNoMore (meant_by p) q (mean (meant_by p) args n)
  use_no_more for flat many builtins =
      let same = for.meant flat many in
      subst (λ m. HasBuiltins m → (args : List (List ℕ)) (n : ℕ) (q : Run) → GMeans m gs args n q → UsesNoMore m q (mean m args n)) same (no_more (program_of for.resolved) gs for.stand) builtins

  pub have_moments : StandFor p gs → HasNoInnerClasses p.modules → function_count p.modules ≤ length p.functions → HasBuiltins (meant_by p)
      → (args : List (List ℕ)) (n m : ℕ) → (q : Run) × IsMoment (meant_by p) gs args n m q × EndsLike q (moment (meant_by p) args n m)
  have_moments for flat many builtins =
      let same = for.meant flat many in
      subst (λ r. HasBuiltins r → (args : List (List ℕ)) (n m : ℕ) → (q : Run) × IsMoment r gs args n m q × EndsLike q (moment r args n m)) same (at_moments (program_of for.resolved) gs for.stand) builtins

  pub stand_so : StandFor p gs → HasNoInnerClasses p.modules → function_count p.modules ≤ length p.functions → HasBuiltins (meant_by p)
      → (args : List (List ℕ)) (n m : ℕ) (q : Run) → IsMoment (meant_by p) gs args n m q → EndsLike q (moment (meant_by p) args n m)
  stand_so for flat many builtins =
      let same = for.meant flat many in
      subst (λ r. HasBuiltins r → (args : List (List ℕ)) (n m : ℕ) (q : Run) → IsMoment r gs args n m q → EndsLike q (moment r args n m)) same (moments_only (program_of for.resolved) gs for.stand) builtins

  pub use_no_more_there : StandFor p gs → HasNoInnerClasses p.modules → function_count p.modules ≤ length p.functions → HasBuiltins (meant_by p)
      → (args : List (List ℕ)) (n m : ℕ) (q : Run) → IsMoment (meant_by p) gs args n m q → UsesNoMore (meant_by p) q (moment (meant_by p) args n m)
  use_no_more_there for flat many builtins =
      let same = for.meant flat many in
      subst (λ r. HasBuiltins r → (args : List (List ℕ)) (n m : ℕ) (q : Run) → IsMoment r gs args n m q → UsesNoMore r q (moment r args n m)) same (no_more_there (program_of for.resolved) gs for.stand) builtins

  pub hold_few : StandFor p gs → HasNoInnerClasses p.modules → function_count p.modules ≤ length p.functions → HasBuiltins (meant_by p)
      → (args : List (List ℕ)) (n m : ℕ) (q : Run) → Few (meant_by p) args n → IsMoment (meant_by p) gs args n m q → held_by (meant_by p) q + references_of (meant_by p) q < 2 ^ 58
  hold_few for flat many builtins args n m q few is =
      let less = use_no_more_there for flat many builtins args n m q is in
      below (held_by (meant_by p) q) (references_of (meant_by p) q) (held_by (meant_by p) (moment (meant_by p) args n m)) (references_of (meant_by p) (moment (meant_by p) args n m)) (2 ^ 58) less.held less.references (few m)
    where
      below : (a b c d bound : ℕ) → a ≤ c → b ≤ d → c + d < bound → a + b < bound
      below a b c d bound x y z = omega (arith, x, y, z)
