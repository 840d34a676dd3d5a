-- The machine does an operation as the tree does.
use Rattle.std.proofs.Common.{◌≡◌, ℕ, ◌+◌, ◌-◌, ◌<◌, ◌≤◌, ◌⊎◌, inl, inr, Bool, true, false, cond, List, [], ◌∷◌, ◌++◌, length, get_or, take, Some, None, Option, refl, sym, ap, ◌∙◌, subst, arith, append_assoc, length-append}
use Rattle.std.specs.Prelude.{◌==◌, ◌&&◌, ◌||◌, not, map, slice_get, slice_set}
use Rattle.std.proofs.lemmas.List.{length-map}
use Rattle.rpy_tree.specs.Value.{Value, Ref}
use Rattle.rpy_meaning.specs.declared.row.RowOp.{RowOp}
use Rattle.rpy_meaning.specs.declared.row.RowOp.TheVariants as row
use Rattle.rpy_meaning.specs.Tree.{Program}
use Rattle.rpy_meaning.specs.World.{World, Answer, Gives, Throws, Fails, Lacks, Enters, Bad}
use Rattle.rpy_meaning.specs.Classes.{is_below}
use Rattle.rpy_meaning.specs.Operations.{op, builtin_classes}
use Rattle.rpy_meaning.specs.Evaluation.{State, Ending, Done, Running, Eval, then_go, pure, values_of}
use Rattle.rpy_meaning.specs.Moments.{is_slight, is_passed_over}
use Rattle.rpy_meaning.specs.Meaning.{Run, class_in, Sem, Before, Behind, called, answered as told, operate_holding}
use Rattle.flow_graph.specs.declared.graph.Exit.{Exit}
use Rattle.flow_graph.specs.declared.graph.Exit.TheVariants as exit
use Rattle.flow_graph.specs.declared.graph.Op.{Op}
use Rattle.flow_graph.specs.declared.graph.Graphs.{Graphs}
use Rattle.flow_meaning.specs.Machine.{bind, Frame, State as Spot, Calling, At, Next, Goes, jump, catching, caught_on, caught, waiting, answered, operates, step}
use Rattle.flow_meaning.specs.Moments.{is_value, gives_value, is_at, is_behind, stopped}
use Rattle.flow_meaning.specs.Roots.{among, caught_args, live, kept, and_some, waiting_roots, roots}
use Rattle.flow_stands.proofs.Watches.{Counts, counts_none, Passed, Halted, Watching}
use Rattle.flow_stands.specs.Places.{range, shift, Hand, Scope, Jump, first_and, stored_if_any, hand_jumps, link, links, act}
use Rattle.flow_stands.proofs.Worlds.{total, total_append, Weight, Later, same, Passes as Passes_on, Fine}
use Rattle.flow_stands.proofs.Answering.{fine}
use Rattle.flow_stands.proofs.Lists.{Env, pick, named, named_push, operands_named, pick_kept, pick_kept_and, pick_set, get_at, among_shift, among_append, among_range, among_set, among_last, total_kept, total_env, total_locals, total_more, total_unused}
use Rattle.flow_stands.proofs.Core.{Place, place, env, Fit, length_env, stored_value, Below, hand_place, Catches, Ends, By, by_on, Leads, stays, leads_on, at_moment, Free, not_behind, step_by, step_go, step_ends, step_stops, step_strays, halts_at, halts_behind, enter, jump_by, jump_to, Runs, before, same_place}

-- Behind an operation of block with q variables of which m stand before its own ones, xs: these are not read, or they stay held; or
-- there is no moment.
abbrev pub Drops : ℕ → ℕ → RowOp → Jump → List Value → List Value → Type 0
Drops m q o norm xs st =
    ((i : ℕ) → m ≤ i → i < q → among i norm.places ≡ false)
    ⊎ (((wt : Weight) → total wt.of xs ≤ total wt.of st)
    ⊎ (is_passed_over (Behind o) ≡ true))

pub slight_behind : (o : RowOp) → is_slight o ≡ true → is_passed_over (Behind o) ≡ true
slight_behind (row.Compare f) e = refl
slight_behind o e = e

module _ (p : Program) (gs : Graphs) (wa : Watching) (builtins : (k : ℕ) → k < builtin_classes → is_below p.classes k 0 ≡ true) (f : ℕ) (instead : Option Value) (frs : List Frame) where
  abbrev Follow : {A : Type 0} → (Run → ℕ → Type 0) → List Value → State → (A → State → Place) → (ℕ → State → Place) → (A → State → Type 0) → Ending A → Type 0
  Follow P held s D R X e = Runs p gs wa f instead frs P held s D R X e

  abbrev go_in : Place → World → Run → ℕ → Type 0
  go_in = enter p gs wa f instead frs

  module _ (n m : ℕ) (sc : Scope) (held : List Value) (R : ℕ → State → Place) (catches : Catches p gs wa n m sc held R) where
    -- the block b of an operation, with the variables xs besides; its operands are vs
    module _ (top : ℕ) (s : State) (fit : Fit top n s) (xs : List Value) (q base node : ℕ) (value : Bool) (o : RowOp) (args : List ℕ) (norm : Jump) (vs : List Value) (at_q : q ≡ length (env s held ++ map Some xs)) (picked : pick (env s held ++ map Some xs) args ≡ map Some vs) where
      abbrev vars : Env
      vars = env s held ++ map Some xs

      abbrev its_exit : Exit
      its_exit = exit.OnRaise (base + q) (links base (hand_jumps q sc.hands)) (Some (link base (first_and sc.default.to sc.default.keep q))) (link base norm)

      abbrev its_op : Op
      its_op = act base q node value o args sc.covers

      abbrev spot : World → Spot
      spot w = At f (its_op ∷ []) its_exit (named base vars) instead frs w

      does : (w : World) → step p gs (spot w) ≡ answered p gs f its_op [] its_exit (named base vars) instead frs w (op p sc.covers o vs w)
      does w = ap (λ us. operates p gs f its_op [] its_exit (named base vars) instead frs w us) (operands_named base vars args vs picked)

      pushed : (v : Option Value) → named base vars ++ bind (base + q) v ∷ [] ≡ named base (vars ++ v ∷ [])
      pushed v = ap (λ k. named base vars ++ bind (base + k) v ∷ []) at_q ∙ sym (named_push base vars v)

      abbrev pub next_spot : Value → World → Spot
      next_spot v w = At f [] its_exit (named base vars ++ bind (base + q) (Some v) ∷ []) instead frs w

      -- from behind the operation
      from_next : (v : Value) (w : World) → Leads p gs wa (Ends p gs wa (next_spot v w)) (go_in (place norm.to (pick (vars ++ Some v ∷ []) norm.places)) w)
      from_next v w = jump_to p gs wa f instead frs (next_spot v w) base (vars ++ Some v ∷ []) norm w (refl, refl) (ap (λ c. jump gs f frs w instead c (link base norm)) (pushed (Some v)))

      -- what the machine knows of the operation when it stands before it
      pub behind_is : (a : Answer) (w : World) → op p sc.covers o vs w ≡ a → is_behind p (spot w) ≡ (is_value a && not (is_passed_over (Behind o)))
      behind_is a w e = ap (λ us. gives_value p its_op w us && not (is_passed_over (Behind o))) (operands_named base vars args vs picked) ∙ ap (λ a. is_value a && not (is_passed_over (Behind o))) e

      -- one that is no moment gives a value
      pub goes_on : (at : Spot) (v : Value) (w : World) → Free p gs wa at → step p gs at ≡ Goes (next_spot v w) → Leads p gs wa (Ends p gs wa at) (go_in (place norm.to (pick (vars ++ Some v ∷ []) norm.places)) w)
      goes_on at v w free e = leads_on p gs wa (step_go p gs wa at (next_spot v w) free e) (from_next v w)

      -- a slight one
      pub slight_free : (v : Value) (w : World) → is_slight o ≡ true → op p sc.covers o vs w ≡ Gives v w → Free p gs wa (spot w)
      slight_free v w slight e = (ap not slight, behind_is (Gives v w) w e ∙ ap not (slight_behind o slight))

      base_long : length (env s held) ≡ m
      base_long = length_env held fit ∙ catches.all

      -- a handler's variables
      regroup : (y : Env) → vars ++ y ≡ env s held ++ (map Some xs ++ y)
      regroup y = append_assoc (env s held) (map Some xs) y

      last_is : (v : Option Value) → get_or (env s held ++ (map Some xs ++ v ∷ [])) q None ≡ v
      last_is v = ap (λ l. get_or l q None) (sym (regroup (v ∷ []))) ∙ get_at q vars v [] (sym at_q)

      -- it is left by an exception
      module _ (at : Spot) (c d : ℕ) (counts : Counts wa.stops (is_at p gs at) c d) (behind : is_behind p at ≡ false) where
        jump_on : (r : ℕ) (w : World) (j : Jump) (to : Env) → step p gs at ≡ jump gs f frs w instead (named base vars ++ bind (base + q) (Some (Ref r)) ∷ []) (link base j) → pick (env s held ++ (map Some xs ++ Some (Ref r) ∷ [])) j.places ≡ to → By p gs wa c d (Ends p gs wa at) (go_in (place j.to to) w)
        jump_on r w j to e k =
            let l = jump_by p gs wa f instead frs at base (vars ++ Some (Ref r) ∷ []) j w c d counts behind (e ∙ ap (λ c. jump gs f frs w instead c (link base j)) (pushed (Some (Ref r)))) in
            by_on p gs wa l (at_moment p gs wa d (same_place p gs wa f instead frs (place j.to (pick (vars ++ Some (Ref r) ∷ []) j.places)) (place j.to to) w (ap (place j.to) (ap (λ l. pick l j.places) (regroup (Some (Ref r) ∷ [])) ∙ k))))

        taken_by : (hand : Hand) (r : ℕ) (w : World) (local : Option ℕ) → hand.aim.keep ≤ m → step p gs at ≡ jump gs f frs w instead (named base vars ++ bind (base + q) (Some (Ref r)) ∷ []) (link base (stored_if_any hand.aim local q)) → By p gs wa c d (Ends p gs wa at) (go_in (place hand.aim.to (stored_value (take hand.aim.keep (env s held)) local r)) w)
        taken_by hand r w None le e =
            jump_on r w (stored_if_any hand.aim None q) (take hand.aim.keep (env s held)) e (pick_kept hand.aim.keep (env s held) (map Some xs ++ Some (Ref r) ∷ []) (omega (arith, base_long, le)))
        taken_by hand r w (Some i) le e =
            jump_on r w (stored_if_any hand.aim (Some i) q) (slice_set (take hand.aim.keep (env s held)) i (Some (Ref r))) e (pick_set hand.aim.keep i q (env s held) (map Some xs ++ Some (Ref r) ∷ []) (Some (Ref r)) (omega (arith, base_long, le)) (last_is (Some (Ref r))))

        abbrev caught_at : ℕ → World → List Hand → Next
        caught_at r w hands =
            caught_on gs f r frs w instead (named base vars) (base + q) (catching p (class_in w r) (links base (hand_jumps q hands)) (Some (link base (first_and sc.default.to sc.default.keep q))))

        choose : (either : Bool) (a b : Place) (r : ℕ) (w : World) (l k : Option _) → step p gs at ≡ caught_on gs f r frs w instead (named base vars) (base + q) (cond either l k)
            → (step p gs at ≡ caught_on gs f r frs w instead (named base vars) (base + q) l → By p gs wa c d (Ends p gs wa at) (go_in a w))
            → (step p gs at ≡ caught_on gs f r frs w instead (named base vars) (base + q) k → By p gs wa c d (Ends p gs wa at) (go_in b w))
            → By p gs wa c d (Ends p gs wa at) (go_in (cond either a b) w)
        choose true a b r w l k e x y = x e
        choose false a b r w l k e x y = y e

        throw_on : (hands : List Hand) (r : ℕ) (w : World) → Below m hands → step p gs at ≡ caught_at r w hands → By p gs wa c d (Ends p gs wa at) (go_in (hand_place p gs wa hands sc.default (env s held) r (class_in w r)) w)
        throw_on [] r w below e =
            jump_on r w (first_and sc.default.to sc.default.keep q) (take sc.default.keep (env s held) ++ Some (Ref r) ∷ []) e
            (pick_kept_and sc.default.keep q (env s held) (map Some xs ++ Some (Ref r) ∷ []) (Some (Ref r)) (omega (arith, base_long, catches.default)) (last_is (Some (Ref r))))
        throw_on (hand ∷ hands) r w below e =
            choose (is_below p.classes (class_in w r) hand.class) _ _ r w (Some (link base (stored_if_any hand.aim hand.local q))) (catching p (class_in w r) (links base (hand_jumps q hands)) (Some (link base (first_and sc.default.to sc.default.keep q)))) e
            (λ z. taken_by hand r w hand.local below.0 z)
            (λ z. throw_on hands r w below.1 z)

        pub throws : (r : ℕ) (w : World) (k : ℕ) → step p gs at ≡ caught p gs f r frs w instead (named base vars) [] its_exit → By p gs wa c d (Ends p gs wa at) (go_in (R r (record s { world = w; moments = k })) w)
        throws r w k e =
            by_on p gs wa (throw_on sc.hands r w catches.hands e)
            (at_moment p gs wa d (same_place p gs wa f instead frs _ _ w (catches.taken r (record s { world = w; moments = k }) fit.long)))

      abbrev pub frame : Frame
      frame = waiting f its_op [] its_exit (named base vars) instead

      -- what is used here and by callers
      pub used_here : (wt : Weight) (uses : ℕ → Bool) → total wt.of (kept uses (named base vars) ++ and_some instead (waiting_roots frs)) ≤ total wt.of (values_of s.locals) + total wt.of held + total wt.of xs + total wt.of (and_some instead (waiting_roots frs))
      used_here wt uses =
          omega (arith, total_append wt.of (kept uses (named base vars)) (and_some instead (waiting_roots frs)), total_kept wt.of uses base vars, total_env wt.of s.locals held xs)

      -- ---- behind the operation

      -- the ways to handlers read the first variables and the exception alone
      hands_read : (i : ℕ) → m ≤ i → i < q → (hands : List Hand) → Below m hands → among (base + i) (caught_args (links base (hand_jumps q hands))) ≡ false
      hands_read i le lt [] below = refl
      hands_read i le lt (hand ∷ hands) below =
          among_append (base + i) (shift base (stored_if_any hand.aim hand.local q).places) (caught_args (links base (hand_jumps q hands)))
          (among_shift base i (stored_if_any hand.aim hand.local q).places (by hand.local)) (hands_read i le lt hands below.1)
        where
          by : (local : Option ℕ) → among i (stored_if_any hand.aim local q).places ≡ false
          by None = among_range 0 hand.aim.keep i (let b = below.0 in omega (arith, b, le))
          by (Some l) = among_set i q l (range 0 hand.aim.keep) lt (among_range 0 hand.aim.keep i (let b = below.0 in omega (arith, b, le)))

      raised_reads : (i : ℕ) → m ≤ i → i < q → among (base + i) (caught_args (links base (hand_jumps q sc.hands)) ++ (link base (first_and sc.default.to sc.default.keep q)).args) ≡ false
      raised_reads i le lt =
          among_append (base + i) (caught_args (links base (hand_jumps q sc.hands))) (link base (first_and sc.default.to sc.default.keep q)).args (hands_read i le lt sc.hands catches.hands)
          (among_shift base i (range 0 sc.default.keep ++ q ∷ []) (among_append i (range 0 sc.default.keep) (q ∷ []) (among_range 0 sc.default.keep i (let d = catches.default in omega (arith, d, le))) (among_last i q lt)))

      exit_unused : ((i : ℕ) → m ≤ i → i < q → among i norm.places ≡ false) → (i : ℕ) → m ≤ i → i < q → live [] its_exit (base + i) ≡ false
      exit_unused drops i le lt =
          ap (λ b. b || (not ((base + q) == (base + i)) && among (base + i) (caught_args (links base (hand_jumps q sc.hands)) ++ (link base (first_and sc.default.to sc.default.keep q)).args))) (among_shift base i norm.places (drops i le lt))
          ∙ ap (λ b. not ((base + q) == (base + i)) && b) (raised_reads i le lt) ∙ and_no (not ((base + q) == (base + i)))
        where
          and_no : (b : Bool) → (b && false) ≡ false
          and_no true = refl
          and_no false = refl

      many : q ≡ m + length xs
      many = omega (arith, at_q, length-append (env s held) (map Some xs), length-map xs Some, base_long)

      -- the variables behind those of the enclosing parts are dropped
      dropped_behind : (wt : Weight) (v : Value) (w : World) → ((i : ℕ) → m ≤ i → i < q → among i norm.places ≡ false)
          → total wt.of (roots (next_spot v w)) ≤ total wt.of (values_of s.locals) + total wt.of held + wt.of v + total wt.of (and_some instead (waiting_roots frs))
      dropped_behind wt v w drops =
          let unused = total_unused wt.of (live [] its_exit) base (env s held) (map Some xs) (Some v ∷ [])
          (λ j le lt.
          let from : m ≤ j - base = omega (arith, le, base_long) in
          let to : j - base < q = omega (arith, le, lt, base_long, length-map xs Some, many) in
          let same_j : base + (j - base) ≡ j = omega (arith, le) in
          ap (live [] its_exit) (sym same_j) ∙ exit_unused drops (j - base) from to) in
          let here_is : named base vars ++ bind (base + q) (Some v) ∷ [] ≡ named base (env s held ++ (map Some xs ++ Some v ∷ [])) = pushed (Some v) ∙ ap (named base) (regroup (Some v ∷ [])) in
          let light = subst (λ e. total wt.of (kept (live [] its_exit) e) ≤ total wt.of (values_of (env s held)) + total wt.of (values_of (Some v ∷ []))) (sym here_is) unused in
          omega (arith, light, total_locals wt.of s.locals held, total_append wt.of (kept (live [] its_exit) (named base vars ++ bind (base + q) (Some v) ∷ [])) (and_some instead (waiting_roots frs)))

      -- or they stay
      kept_behind : (wt : Weight) (v : Value) (w : World)
          → total wt.of (roots (next_spot v w)) ≤ total wt.of (values_of s.locals) + total wt.of held + total wt.of xs + wt.of v + total wt.of (and_some instead (waiting_roots frs))
      kept_behind wt v w =
          let all = total_kept wt.of (live [] its_exit) base (vars ++ Some v ∷ []) in
          let light = subst (λ e. total wt.of (kept (live [] its_exit) e) ≤ total wt.of (values_of (vars ++ Some v ∷ []))) (sym (pushed (Some v))) all in
          omega (arith, light, total_more wt.of vars v, total_env wt.of s.locals held xs, total_append wt.of (kept (live [] its_exit) (named base vars ++ bind (base + q) (Some v) ∷ [])) (and_some instead (waiting_roots frs)))

      module _ (D : Value → State → Place) (X : Value → State → Type 0) (st : List Value) (drops : Drops m q o norm xs st) where
        abbrev behind : Value → Eval Value
        behind v = λ u. then_go (wa.watch (Behind o) (v ∷ st) u) (λ a. pure v)

        -- a value was given, and the machine is to go on from there
        module _ (at : Spot) (v : Value) (w : World) (c j : ℕ) (counts : Counts wa.stops (is_at p gs at) c j) (behind_it : is_behind p at ≡ not (is_passed_over (Behind o))) (goes : step p gs at ≡ Goes (next_spot v w))
            (lands : (k : ℕ) → (place norm.to (pick (vars ++ Some v ∷ []) norm.places) ≡ D v (record s { world = w; moments = k })) × X v (record s { world = w; moments = k })) where
          abbrev Watched : Ending Value → Type 0
          Watched e = Follow (Ends p gs wa at) held (record s { world = w; moments = c }) D R X e

          went : (k : ℕ) → Counts wa.stops (not (is_passed_over (Behind o))) j k → Watched (Done v (record s { world = w; moments = k }))
          went k left =
              record {
                sim = record {
                  leads =
                      by_on p gs wa (step_by p gs wa at (next_spot v w) c j k goes counts (subst (λ b. Counts wa.stops b j k) (sym behind_it) left))
                      (at_moment p gs wa k (leads_on p gs wa (from_next v w) (same_place p gs wa f instead frs _ _ w (lands k).0)));
                  after = record { later = same w; long = refl; bound = λ i x. x };
                  post = (lands k).1;
                };
              }

          halted : wa.stops ≡ true → is_passed_over (Behind o) ≡ false → j ≡ 0 → ((wt : Weight) → total wt.of (roots (next_spot v w)) ≤ total wt.of (v ∷ st) + total wt.of (values_of s.locals) + total wt.of held + total wt.of (and_some instead (waiting_roots frs)))
              → Watched (Running (v ∷ st) (record s { world = w; moments = j }))
          halted on here last more =
              record {
                sim = record {
                  used = roots (next_spot v w);
                  ends = halts_behind p gs wa at (next_spot v w) c on goes (subst (λ k. Counts wa.stops (is_at p gs at) c k) last counts) (behind_it ∙ ap not here);
                  more = more;
                };
              }

          watched : ((wt : Weight) → total wt.of (roots (next_spot v w)) ≤ total wt.of (v ∷ st) + total wt.of (values_of s.locals) + total wt.of held + total wt.of (and_some instead (waiting_roots frs)))
              → Watched (behind v (record s { world = w; moments = j }))
          watched more = by (wa.either (Behind o) (v ∷ st) (record s { world = w; moments = j }))
            where
              by : Passed wa.stops wa.watch (Behind o) (v ∷ st) (record s { world = w; moments = j }) ⊎ Halted wa.stops wa.watch (Behind o) (v ∷ st) (record s { world = w; moments = j }) → Watched (behind v (record s { world = w; moments = j }))
              by (inl (k, left, e)) = subst (λ x. Watched (then_go x (λ a. pure v))) (sym e) (went k left)
              by (inr (on, here, last, e)) = subst (λ x. Watched (then_go x (λ a. pure v))) (sym e) (halted on here last more)

          behind_by : Drops m q o norm xs st → Watched (behind v (record s { world = w; moments = j }))
          behind_by (inl none) = watched (λ wt. let z = dropped_behind wt v w none in omega (arith, z))
          behind_by (inr (inl less)) = watched (λ wt. let z = kept_behind wt v w in omega (arith, z, less wt))
          behind_by (inr (inr over)) =
              subst (λ x. Watched (then_go x (λ a. pure v))) (sym (wa.quiet (Behind o) over (v ∷ st) (record s { world = w; moments = j })))
              (went j (subst (λ b. Counts wa.stops (not b) j j) (sym over) (counts_none wa.stops j)))

          pub behind_sim : Watched (behind v (record s { world = w; moments = j }))
          behind_sim = behind_by drops

        module _ (prev : Sem) (hold : List Value) (small : (wt : Weight) → total wt.of xs ≤ total wt.of hold)
            (lands : (v : Value) (w : World) (k : ℕ) → op p sc.covers o vs s.world ≡ Gives v w → (place norm.to (pick (vars ++ Some v ∷ []) norm.places) ≡ D v (record s { world = w; moments = k })) × X v (record s { world = w; moments = k }))
            (calls : (g : ℕ) (us : List Value) (other : Option Value) (w : World) (j : ℕ) → op p sc.covers o vs s.world ≡ Enters g us other w → Later s.world w → Passes_on vs us other → Follow (Ends p gs wa (Calling g us other (frame ∷ frs) w)) held (record s { world = w; moments = j }) D R X (then_go (called p wa.watch prev (slice_get p.functions g) us other (record s { world = w; moments = j })) behind)) where
          leads_to : (a : Answer) → op p sc.covers o vs s.world ≡ a → step p gs (spot s.world) ≡ answered p gs f its_op [] its_exit (named base vars) instead frs s.world a
          leads_to a e = does s.world ∙ ap (answered p gs f its_op [] its_exit (named base vars) instead frs s.world) e

          answers : (j : ℕ) → Counts wa.stops (not (is_passed_over (Before o))) s.moments j → (a : Answer) → op p sc.covers o vs s.world ≡ a → Fine p vs s.world a → Follow (Ends p gs wa (spot s.world)) held s D R X (then_go (told p wa.watch prev a hold (record s { moments = j })) behind)
          answers j counts (Gives v w) e h =
              before p gs wa f instead frs (at_moment p gs wa s.moments (stays p gs wa)) (record { later = h; long = refl; bound = λ i x. x })
              (behind_sim (spot s.world) v w s.moments j counts (behind_is (Gives v w) s.world e) (leads_to (Gives v w) e) (λ k. lands v w k e))
          answers j counts (Throws r w) e h =
              record {
                sim = record {
                  leads = throws (spot s.world) s.moments j counts (behind_is (Throws r w) s.world e) r w j (leads_to (Throws r w) e);
                  after = record { later = h.0; long = refl; bound = λ i x. x };
                  post = h.1;
                };
              }
          answers j counts (Fails name) e h = record { sim = step_ends p gs wa (spot s.world) _ s.world s.moments j counts (leads_to (Fails name) e) }
          answers j counts Lacks e h =
              record {
                sim = record {
                  used = roots (spot s.world);
                  ends = step_stops p gs wa (spot s.world) s.world s.moments j counts (leads_to Lacks e);
                  more = λ wt. omega (arith, used_here wt (live (its_op ∷ []) its_exit), small wt);
                };
              }
          answers j counts (Enters g us other w) e h =
              before p gs wa f instead frs
              (step_by p gs wa (spot s.world) (Calling g us other (frame ∷ frs) w) s.moments j j (leads_to (Enters g us other w) e) counts (not_behind p gs wa (spot s.world) j (behind_is (Enters g us other w) s.world e)))
              (record { later = h.0; long = refl; bound = λ i x. x })
              (calls g us other w j e h.0 h.1)
          answers j counts Bad e h = record { sim = step_strays p gs wa (spot s.world) s.moments j counts (leads_to Bad e) }

          abbrev after_it : Unit {0} → Eval Value
          after_it a = λ u. then_go (told p wa.watch prev (op p sc.covers o vs u.world) hold u) behind

          pub told_sim : Follow (Ends p gs wa (spot s.world)) held s D R X (operate_holding p wa.watch prev st hold sc.covers o vs s)
          told_sim = by (wa.either (Before o) hold s)
            where
              by : Passed wa.stops wa.watch (Before o) hold s ⊎ Halted wa.stops wa.watch (Before o) hold s → Follow (Ends p gs wa (spot s.world)) held s D R X (operate_holding p wa.watch prev st hold sc.covers o vs s)
              by (inl (j, counts, e)) =
                  subst (λ x. Follow (Ends p gs wa (spot s.world)) held s D R X (then_go x after_it)) (sym e)
                  (answers j counts (op p sc.covers o vs s.world) refl (fine p builtins sc.covers o vs s.world fit.sound))
              by (inr (on, here, last, e)) =
                  subst (λ x. Follow (Ends p gs wa (spot s.world)) held s D R X (then_go x after_it)) (sym e)
                  (record {
                    sim = record {
                      used = roots (spot s.world);
                      ends = subst (λ c. Ends p gs wa (spot s.world) (stopped (spot s.world)) c) (sym last) (halts_at p gs wa (spot s.world) on (ap not here));
                      more = λ wt. omega (arith, used_here wt (live (its_op ∷ []) its_exit), small wt);
                    };
                  })
