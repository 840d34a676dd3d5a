-- What is known at blocks is so wherever a run comes.
use Rattle.std.proofs.Common.{◌≡◌, ℕ, ◌+◌, Bool, true, false, List, [], ◌∷◌, ◌++◌, length, Option, Some, None, refl, sym, ap, ◌∙◌, subst}
use Rattle.std.specs.Prelude.{cond, nat_lt, slice_get, ◌-◌}
use Rattle.rpy_tree.specs.Value.{Value, Ref}
use Rattle.rpy_meaning.specs.Costs.{entry_cost}
use Rattle.rpy_meaning.specs.declared.row.Covers.{Covers}
use Rattle.rpy_meaning.specs.declared.row.RowOp.{RowOp}
use Rattle.rpy_meaning.specs.Classes.{is_below, no_covers}
use Rattle.rpy_meaning.specs.Evaluation.{parameters}
use Rattle.rpy_meaning.specs.Meaning.{class_in}
use Rattle.rpy_meaning.specs.Operations.{op}
use Rattle.rpy_meaning.specs.Tree.{Program, Function}
use Rattle.rpy_meaning.specs.World.{World, Answer, Gives, Throws, Fails, Lacks, Enters, Bad}
use Rattle.flow_graph.specs.declared.graph.Block.{Block as Code}
use Rattle.flow_graph.specs.declared.graph.Exit.{Exit}
use Rattle.flow_graph.specs.declared.graph.Exit.TheVariants as exit
use Rattle.flow_graph.specs.declared.graph.Graphs.{Graphs}
use Rattle.flow_graph.specs.declared.graph.Link.{Link}
use Rattle.flow_graph.specs.declared.graph.Op.{Op}
use Rattle.flow_meaning.specs.Machine.{Bound, Frame, State, Calling, At as Stood, Returning, Throwing, Goes, Stops, Strays, step, look, values_of, bind, passed, taken, block_in, begins, caught, caught_on, catching, answered, operates, chooses, truth_of, returns, raises, begun, given, entered}
use Rattle.flow_stands.specs.Places.{range, Jump, Shape, Go, Fork, Does, Plain, GiveBack, GiveUp, shift, link, links, numbered, act}
use Rattle.graph_shapes.specs.Shapes.{Joins, HasShape}
use Rattle.graph_shapes.proofs.Parts.{inputs_are, shift_count, range_count}
use Rattle.flow_runs.specs.Runs.{Reaches, Here, Then}
use Rattle.graph_told.specs.Told.{IsTold}
use Rattle.graph_told.proofs.Facts.{At, Facts, pick, with_value, Free, AllFree, Keeps, KeptAt, Operates}
use Rattle.graph_told.proofs.Environments.{names, places, passed_names, taken_names, values_are, passed_is, bound_is}

goes_same : {a b : State} → Goes a ≡ Goes b → a ≡ b
goes_same e = cc

ends_apart : {s : State} → Strays ≡ Goes s → ⊥
ends_apart e = cc

-- functions that are the same everywhere
same_places : {at at' : At} → ((j : ℕ) → at j ≡ at' j) → at ≡ at'
same_places h = λ i j. h j i

module _ (P : Program) (gs : Graphs) (J : ℕ → Facts)
    (kept : (f b : ℕ) (code : Code) → block_in (slice_get gs.graphs f) b ≡ Some code → KeptAt P (J f) b code)
    (first_free : (f : ℕ) (code : Code) → block_in (slice_get gs.graphs f) 0 ≡ Some code → Free (J f) 0)
    (shaped : (f b : ℕ) (code : Code) → block_in (slice_get gs.graphs f) b ≡ Some code → (blocks : List Code) × ((i : ℕ) → block_in (slice_get gs.graphs f) i ≡ slice_get blocks i) × HasShape blocks code) where
  abbrev pub Is : ℕ → ℕ → Code → Type 0
  Is f b code = block_in (slice_get gs.graphs f) b ≡ Some code

  -- where a run stands in a block: at its begin, or behind its operation
  pub data Standing (f : ℕ) (ops : List Op) (e : Exit) (env : List Bound) (w : World) : Type 0 where
    Begun : (b base m node : ℕ) (value : Bool) (shape : Shape) → Is f b (numbered base m node value shape) → Keeps P (J f) (J f b) m shape → names env ≡ shift base (range 0 m) → J f b w (places base env)
        → ops ≡ (numbered base m node value shape).ops → e ≡ (numbered base m node value shape).exit → Standing f ops e env w
    Behind : (b base m node : ℕ) (value : Bool) (o : RowOp) (args : List ℕ) (covers : Covers) (hands : List (ℕ × Jump)) (default norm : Jump) → Is f b (numbered base m node value (Does o args covers hands default norm))
        → ops ≡ [] → e ≡ exit.OnRaise (base + m) (links base hands) (Some (link base default)) (link base norm) → J f norm.to w (pick (places base env) norm.places) → Standing f ops e env w
    BehindPlain : (b base m node : ℕ) (value : Bool) (o : RowOp) (jump : Jump) → Is f b (numbered base m node value (Plain o jump)) → ops ≡ [] → e ≡ exit.Goto (link base jump) → J f jump.to w (pick (places base env) jump.places) → Standing f ops e env w

  -- a call that waits, whatever it is given
  pub data Waits (frame : Frame) : Type 0 where
    Operation : (b base m node : ℕ) (value : Bool) (o : RowOp) (args : List ℕ) (covers : Covers) (hands : List (ℕ × Jump)) (default norm : Jump) → Is frame.graph b (numbered base m node value (Does o args covers hands default norm))
        → frame.call.result ≡ base + m → frame.ops ≡ [] → frame.exit ≡ exit.OnRaise (base + m) (links base hands) (Some (link base default)) (link base norm) → names frame.env ≡ shift base (range 0 m)
        → AllFree (J frame.graph) hands → Free (J frame.graph) default.to → ((v : Value) (w : World) → J frame.graph norm.to w (pick (with_value (places base frame.env) m v) norm.places)) → Waits frame
    PlainOne : (b base m node : ℕ) (value : Bool) (o : RowOp) (jump : Jump) → Is frame.graph b (numbered base m node value (Plain o jump)) → frame.call.result ≡ base + m → frame.ops ≡ [] → frame.exit ≡ exit.Goto (link base jump) → names frame.env ≡ shift base (range 0 m)
        → ((v : Value) (w : World) → J frame.graph jump.to w (pick (with_value (places base frame.env) m v) jump.places)) → Waits frame

  abbrev pub AllWait : List Frame → Type 0
  AllWait [] = Unit {0}
  AllWait (frame ∷ frames) = Waits frame × AllWait frames

  abbrev pub Sound : State → Type 0
  Sound (Calling g args instead frames w) = AllWait frames
  Sound (Stood f ops e env instead frames w) = Standing f ops e env w × AllWait frames
  Sound (Returning v frames w) = AllWait frames
  Sound (Throwing r frames w) = AllWait frames

  -- ---- entering blocks

  -- a block with these inputs bound
  opens : (f b : ℕ) (code : Code) (env : List Bound) (w : World) → Is f b code → names env ≡ code.inputs → ((base k : ℕ) → code.inputs ≡ shift base (range 0 k) → J f b w (places base env)) → Standing f code.ops code.exit env w
  opens f b code env w is named fact =
      let k = kept f b code is in
      let inputs : code.inputs ≡ shift k.base (range 0 k.count) = ap (λ (c : Code). c.inputs) k.is ∙ inputs_are k.base k.count k.node k.value k.shape in
      Begun b k.base k.count k.node k.value k.shape (is ∙ ap Some k.is) k.keeps (named ∙ inputs) (fact k.base k.count inputs) (ap (λ (c : Code). c.ops) k.is) (ap (λ (c : Code). c.exit) k.is)

  goes_to : (f b : ℕ) (code : Code) (env : List Bound) (instead : Option Value) (frames : List Frame) (w : World) (s : State) → Standing f code.ops code.exit env w → AllWait frames → Goes (Stood f code.ops code.exit env instead frames w) ≡ Goes s → Sound s
  goes_to f b code env instead frames w s stands wait e = subst Sound (goes_same e) (stands, wait)

  enters_free : (f : ℕ) (frames : List Frame) (w : World) (instead : Option Value) (env : List Bound) (l : Link) (s : State) → Free (J f) l.to → AllWait frames → (o : Option Code) → block_in (slice_get gs.graphs f) l.to ≡ o → begins f frames w instead env l o ≡ Goes s → Sound s
  enters_free f frames w instead env l s free wait None is e = absurd (ends_apart e)
  enters_free f frames w instead env l s free wait (Some code) is e =
      goes_to f l.to code (passed env code.inputs l.args) instead frames w s
      (opens f l.to code (passed env code.inputs l.args) w is (passed_names env code.inputs l.args) (λ base k inputs. free w (places base (passed env code.inputs l.args)) tt)) wait e

  enters_at : (f : ℕ) (frames : List Frame) (w : World) (instead : Option Value) (env : List Bound) (base : ℕ) (jump : Jump) (blocks : List Code) (set : List ℕ) (s : State) → ((i : ℕ) → block_in (slice_get gs.graphs f) i ≡ slice_get blocks i) → Joins blocks set (link base jump)
      → J f jump.to w (pick (places base env) jump.places) → AllWait frames → begins f frames w instead env (link base jump) (block_in (slice_get gs.graphs f) jump.to) ≡ Goes s → Sound s
  enters_at f frames w instead env base jump blocks set s same joins fact wait e =
      let code = joins.block in
      let args = shift base jump.places in
      let is : Is f jump.to code = same jump.to ∙ joins.is in
      goes_to f jump.to code (passed env code.inputs args) instead frames w s
      (opens f jump.to code (passed env code.inputs args) w is (passed_names env code.inputs args)
      (λ to k inputs.
      let count : length jump.places ≡ k = sym (shift_count base jump.places) ∙ (joins.counted ∙ (ap length inputs ∙ (shift_count to (range 0 k) ∙ range_count 0 k))) in
      let are : places to (passed env code.inputs args) ≡ pick (places base env) jump.places = same_places (λ j. ap (λ (l : List ℕ). places to (passed env l args) j) inputs ∙ passed_is env to base k jump.places count j) in
      subst (λ (at : At). J f jump.to w at) (sym are) fact)) wait (sym (ap (begins f frames w instead env (link base jump)) is) ∙ e)

  -- ---- exceptions

  abbrev IfFree : ℕ → Option Link → Type 0
  IfFree f None = Unit {0}
  IfFree f (Some l) = Free (J f) l.to

  catch_free : (f class base : ℕ) (hands : List (ℕ × Jump)) (default : Jump) → AllFree (J f) hands → Free (J f) default.to → IfFree f (catching P class (links base hands) (Some (link base default)))
  catch_free f class base [] default all free = free
  catch_free f class base (hand ∷ hands) default all free = by (is_below P.classes class hand.0) (catch_free f class base hands default all.1 free)
    where
      by : (b : Bool) → IfFree f (catching P class (links base hands) (Some (link base default))) → IfFree f (cond b (Some (link base hand.1)) (catching P class (links base hands) (Some (link base default))))
      by true rest = all.0
      by false rest = rest

  caught_sound : (f r : ℕ) (frames : List Frame) (w : World) (instead : Option Value) (env : List Bound) (v : ℕ) (o : Option Link) (s : State) → IfFree f o → AllWait frames → caught_on gs f r frames w instead env v o ≡ Goes s → Sound s
  caught_sound f r frames w instead env v None s free wait e = subst Sound (goes_same e) wait
  caught_sound f r frames w instead env v (Some l) s free wait e = enters_free f frames w instead (env ++ bind v (Some (Ref r)) ∷ []) l s free wait (block_in (slice_get gs.graphs f) l.to) refl e

  -- ---- operations

  -- what is bound behind an operation
  bound_fact : (f to base m : ℕ) (env : List Bound) (v : Value) (w : World) (jump : Jump) → names env ≡ shift base (range 0 m) → J f to w (pick (with_value (places base env) m v) jump.places) → J f to w (pick (places base (env ++ bind (base + m) (Some v) ∷ [])) jump.places)
  bound_fact f to base m env v w jump named fact =
      let are : places base (env ++ bind (base + m) (Some v) ∷ []) ≡ with_value (places base env) m v = same_places (λ j. bound_is env base m v named j) in
      subst (λ (at : At). J f to w (pick at jump.places)) (sym are) fact

  does_step : (f b base m node : ℕ) (value : Bool) (o : RowOp) (args : List ℕ) (covers : Covers) (hands : List (ℕ × Jump)) (default norm : Jump) (env : List Bound) (instead : Option Value) (frames : List Frame) (w : World) (s : State)
      → Is f b (numbered base m node value (Does o args covers hands default norm)) → Keeps P (J f) (J f b) m (Does o args covers hands default norm) → names env ≡ shift base (range 0 m) → J f b w (places base env) → AllWait frames
      → (vs : Option (List Value)) → values_of env (shift base args) ≡ vs → operates P gs f (act base m node value o args covers) [] (exit.OnRaise (base + m) (links base hands) (Some (link base default)) (link base norm)) env instead frames w vs ≡ Goes s → Sound s
  does_step f b base m node value o args covers hands default norm env instead frames w s is keeps named fact wait None given_is e = absurd (ends_apart e)
  does_step f b base m node value o args covers hands default norm env instead frames w s is keeps named fact wait (Some vs) given_is e = by (op P covers o vs w) refl e
    where
      x : Exit
      x = exit.OnRaise (base + m) (links base hands) (Some (link base default)) (link base norm)

      does : Operates P (J f) m o covers norm w (places base env) vs
      does = keeps.2 w (places base env) vs fact (sym (values_are base env args) ∙ given_is)

      by : (a : Answer) → op P covers o vs w ≡ a → answered P gs f (act base m node value o args covers) [] x env instead frames w a ≡ Goes s → Sound s
      by (Gives v w') is_a e = subst Sound (goes_same e) (Behind b base m node value o args covers hands default norm is refl refl (bound_fact f norm.to base m env v w' norm named (does.gives v w' is_a)), wait)
      by (Throws r w') is_a e = caught_sound f r frames w' instead env (base + m) (catching P (class_in w' r) (links base hands) (Some (link base default))) s (catch_free f (class_in w' r) base hands default keeps.0 keeps.1) wait e
      by (Fails name) is_a e = cc
      by Lacks is_a e = cc
      by (Enters g args' other w') is_a e =
          subst Sound (goes_same e) (Operation b base m node value o args covers hands default norm is refl refl refl named keeps.0 keeps.1 (λ v w''. does.enters g args' other w' is_a v w''), wait)
      by Bad is_a e = absurd (ends_apart e)

  plain_step : (f b base m node : ℕ) (value : Bool) (o : RowOp) (jump : Jump) (env : List Bound) (instead : Option Value) (frames : List Frame) (w : World) (s : State)
      → Is f b (numbered base m node value (Plain o jump)) → Keeps P (J f) (J f b) m (Plain o jump) → names env ≡ shift base (range 0 m) → J f b w (places base env) → AllWait frames
      → operates P gs f (act base m node value o [] no_covers) [] (exit.Goto (link base jump)) env instead frames w (Some []) ≡ Goes s → Sound s
  plain_step f b base m node value o jump env instead frames w s is keeps named fact wait e = by (op P no_covers o [] w) refl e
    where
      does : Operates P (J f) m o no_covers jump w (places base env) []
      does = keeps w (places base env) fact

      by : (a : Answer) → op P no_covers o [] w ≡ a → answered P gs f (act base m node value o [] no_covers) [] (exit.Goto (link base jump)) env instead frames w a ≡ Goes s → Sound s
      by (Gives v w') is_a e = subst Sound (goes_same e) (BehindPlain b base m node value o jump is refl refl (bound_fact f jump.to base m env v w' jump named (does.gives v w' is_a)), wait)
      by (Throws r w') is_a e = subst Sound (goes_same e) wait
      by (Fails name) is_a e = cc
      by Lacks is_a e = cc
      by (Enters g args' other w') is_a e = subst Sound (goes_same e) (PlainOne b base m node value o jump is refl refl refl named (λ v w''. does.enters g args' other w' is_a v w''), wait)
      by Bad is_a e = absurd (ends_apart e)

  -- ---- exits

  fork_step : (f b base m node : ℕ) (value : Bool) (test : ℕ) (so other_way : Jump) (env : List Bound) (instead : Option Value) (frames : List Frame) (w : World) (s : State) → Is f b (numbered base m node value (Fork test so other_way)) → Keeps P (J f) (J f b) m (Fork test so other_way)
      → J f b w (places base env) → AllWait frames → (t : Option Bool) → truth_of w (look env (base + test)) ≡ t → chooses gs f frames w instead env (link base so) (link base other_way) t ≡ Goes s → Sound s
  fork_step f b base m node value test so other_way env instead frames w s is keeps fact wait None t_is e = absurd (ends_apart e)
  fork_step f b base m node value test so other_way env instead frames w s is keeps fact wait (Some true) t_is e =
      let h = shaped f b (numbered base m node value (Fork test so other_way)) is in
      enters_at f frames w instead env base so h.0 (shift base (range 0 m)) s h.1 h.2.exit.1 ((keeps w (places base env) fact).0 t_is) wait e
  fork_step f b base m node value test so other_way env instead frames w s is keeps fact wait (Some false) t_is e =
      let h = shaped f b (numbered base m node value (Fork test so other_way)) is in
      enters_at f frames w instead env base other_way h.0 (shift base (range 0 m)) s h.1 h.2.exit.2 ((keeps w (places base env) fact).1 t_is) wait e

  return_step : (instead : Option Value) (frames : List Frame) (w : World) (s : State) → AllWait frames → (o : Option Value) → returns instead frames w o ≡ Goes s → Sound s
  return_step instead frames w s wait None e = absurd (ends_apart e)
  return_step instead frames w s wait (Some v) e = subst Sound (goes_same e) wait

  raise_step : (frames : List Frame) (w : World) (s : State) → AllWait frames → (o : Option Value) → raises frames w o ≡ Goes s → Sound s
  raise_step frames w s wait (Some (Ref r)) e = subst Sound (goes_same e) wait
  raise_step frames w s wait o e = absurd (ends_apart e)

  begun_step : (f b base m node : ℕ) (value : Bool) (shape : Shape) (env : List Bound) (instead : Option Value) (frames : List Frame) (w : World) (s : State) → Is f b (numbered base m node value shape) → Keeps P (J f) (J f b) m shape → names env ≡ shift base (range 0 m) → J f b w (places base env) → AllWait frames
      → step P gs (Stood f (numbered base m node value shape).ops (numbered base m node value shape).exit env instead frames w) ≡ Goes s → Sound s
  begun_step f b base m node value (Go jump) env instead frames w s is keeps named fact wait e =
      let h = shaped f b (numbered base m node value (Go jump)) is in
      enters_at f frames w instead env base jump h.0 (shift base (range 0 m)) s h.1 h.2.exit (keeps w (places base env) fact) wait e
  begun_step f b base m node value (Fork test so other_way) env instead frames w s is keeps named fact wait e = fork_step f b base m node value test so other_way env instead frames w s is keeps fact wait (truth_of w (look env (base + test))) refl e
  begun_step f b base m node value (Does o args covers hands default norm) env instead frames w s is keeps named fact wait e = does_step f b base m node value o args covers hands default norm env instead frames w s is keeps named fact wait (values_of env (shift base args)) refl e
  begun_step f b base m node value (Plain o jump) env instead frames w s is keeps named fact wait e = plain_step f b base m node value o jump env instead frames w s is keeps named fact wait e
  begun_step f b base m node value GiveBack env instead frames w s is keeps named fact wait e = return_step instead frames w s wait (look env (base + 0)) e
  begun_step f b base m node value GiveUp env instead frames w s is keeps named fact wait e = raise_step frames w s wait (look env (base + 0)) e

  stood_step : (f : ℕ) (ops : List Op) (x : Exit) (env : List Bound) (instead : Option Value) (frames : List Frame) (w : World) (s : State) → Standing f ops x env w → AllWait frames → step P gs (Stood f ops x env instead frames w) ≡ Goes s → Sound s
  stood_step f ops x env instead frames w s (Begun b base m node value shape is keeps named fact ops_is exit_is) wait e =
      begun_step f b base m node value shape env instead frames w s is keeps named fact wait
      (sym (ap (λ (l : List Op). step P gs (Stood f l x env instead frames w)) ops_is ∙ ap (λ (y : Exit). step P gs (Stood f (numbered base m node value shape).ops y env instead frames w)) exit_is) ∙ e)
  stood_step f ops x env instead frames w s (Behind b base m node value o args covers hands default norm is ops_is exit_is fact) wait e =
      let h = shaped f b (numbered base m node value (Does o args covers hands default norm)) is in
      enters_at f frames w instead env base norm h.0 (shift base (range 0 m) ++ (base + m) ∷ []) s h.1 h.2.exit.3 fact wait
      (sym (ap (λ (l : List Op). step P gs (Stood f l x env instead frames w)) ops_is ∙ ap (λ (y : Exit). step P gs (Stood f [] y env instead frames w)) exit_is) ∙ e)
  stood_step f ops x env instead frames w s (BehindPlain b base m node value o jump is ops_is exit_is fact) wait e =
      let h = shaped f b (numbered base m node value (Plain o jump)) is in
      enters_at f frames w instead env base jump h.0 (shift base (range 0 m) ++ (base + m) ∷ []) s h.1 h.2.exit fact wait
      (sym (ap (λ (l : List Op). step P gs (Stood f l x env instead frames w)) ops_is ∙ ap (λ (y : Exit). step P gs (Stood f [] y env instead frames w)) exit_is) ∙ e)

  -- ---- calls

  called : (g : ℕ) (args : List Value) (instead : Option Value) (frames : List Frame) (w : World) (s : State) → AllWait frames → (o : Option Function) → entered gs g args instead frames w o ≡ Goes s → Sound s
  called g args instead frames w s wait None e = absurd (ends_apart e)
  called g args instead frames w s wait (Some function) e = by function.takes_more e
    where
      opened : (w' : World) (vs : List Value) (o : Option Code) → block_in (slice_get gs.graphs g) 0 ≡ o → begun g vs instead frames w' o ≡ Goes s → Sound s
      opened w' vs None is e = absurd (ends_apart e)
      opened w' vs (Some code) is e =
          goes_to g 0 code (taken code.inputs vs) instead frames w' s (opens g 0 code (taken code.inputs vs) w' is (taken_names code.inputs vs) (λ base k inputs. first_free g code is w' (places base (taken code.inputs vs)) tt)) wait e

      paid : (vs : List Value) (t : Bool) → cond t (Stops w) (begun g vs instead frames (record w { left = w.left - entry_cost }) (block_in (slice_get gs.graphs g) 0)) ≡ Goes s → Sound s
      paid vs true e = cc
      paid vs false e = opened (record w { left = w.left - entry_cost }) vs (block_in (slice_get gs.graphs g) 0) refl e

      passes : (o : Option (List Value)) → given gs g instead frames w o ≡ Goes s → Sound s
      passes None e = absurd (ends_apart e)
      passes (Some vs) e = paid vs (nat_lt w.left entry_cost) e

      by : (t : Bool) → cond t Strays (given gs g instead frames w (parameters function.defaults args)) ≡ Goes s → Sound s
      by true e = absurd (ends_apart e)
      by false e = passes (parameters function.defaults args) e

  returned_step : (v : Value) (frame : Frame) (frames : List Frame) (w : World) (s : State) → Waits frame → AllWait frames → step P gs (Returning v (frame ∷ frames) w) ≡ Goes s → Sound s
  returned_step v frame frames w s (Operation b base m node value o args covers hands default norm is result ops_is exit_is named all free fact) wait e =
      subst Sound (goes_same e) (
        subst (λ (i : ℕ). Standing frame.graph frame.ops frame.exit (frame.env ++ bind i (Some v) ∷ []) w) (sym result)
            (Behind b base m node value o args covers hands default norm is ops_is exit_is (bound_fact frame.graph norm.to base m frame.env v w norm named (fact v w))),
        wait,
      )
  returned_step v frame frames w s (PlainOne b base m node value o jump is result ops_is exit_is named fact) wait e =
      subst Sound (goes_same e) (
        subst (λ (i : ℕ). Standing frame.graph frame.ops frame.exit (frame.env ++ bind i (Some v) ∷ []) w) (sym result)
            (BehindPlain b base m node value o jump is ops_is exit_is (bound_fact frame.graph jump.to base m frame.env v w jump named (fact v w))),
        wait,
      )

  thrown_step : (r : ℕ) (frame : Frame) (frames : List Frame) (w : World) (s : State) → Waits frame → AllWait frames → caught P gs frame.graph r frames w frame.instead frame.env frame.ops frame.exit ≡ Goes s → Sound s
  thrown_step r frame frames w s (Operation b base m node value o args covers hands default norm is result ops_is exit_is named all free fact) wait e =
      caught_sound frame.graph r frames w frame.instead frame.env (base + m) (catching P (class_in w r) (links base hands) (Some (link base default))) s (catch_free frame.graph (class_in w r) base hands default all free) wait
      (sym (ap (λ (l : List Op). caught P gs frame.graph r frames w frame.instead frame.env l frame.exit) ops_is ∙ ap (λ (y : Exit). caught P gs frame.graph r frames w frame.instead frame.env [] y) exit_is) ∙ e)
  thrown_step r frame frames w s (PlainOne b base m node value o jump is result ops_is exit_is named fact) wait e =
      subst Sound (goes_same (sym (ap (λ (l : List Op). caught P gs frame.graph r frames w frame.instead frame.env l frame.exit) ops_is ∙ ap (λ (y : Exit). caught P gs frame.graph r frames w frame.instead frame.env [] y) exit_is) ∙ e)) wait

  -- ---- runs

  sound_step : (s t : State) → Sound s → step P gs s ≡ Goes t → Sound t
  sound_step (Calling g args instead frames w) t sound e = called g args instead frames w t sound (slice_get P.functions g) e
  sound_step (Stood f ops x env instead frames w) t sound e = stood_step f ops x env instead frames w t sound.0 sound.1 e
  sound_step (Returning v [] w) t sound e = cc
  sound_step (Returning v (frame ∷ frames) w) t sound e = returned_step v frame frames w t sound.0 sound.1 e
  sound_step (Throwing r [] w) t sound e = cc
  sound_step (Throwing r (frame ∷ frames) w) t sound e = thrown_step r frame frames w t sound.0 sound.1 e

  pub sound_reaches : (s t : State) → Reaches P gs s t → Sound s → Sound t
  sound_reaches _ _ Here sound = sound
  sound_reaches s t (Then {mid = mid} e rest) sound = sound_reaches mid t rest (sound_step s mid sound e)

  -- ---- what is told

  shape_told : (f b base m node : ℕ) (value : Bool) (shape : Shape) (o : Op) (ops : List Op) (env : List Bound) (w : World) (vs : List Value) → Keeps P (J f) (J f b) m shape → J f b w (places base env) → o ∷ ops ≡ (numbered base m node value shape).ops → values_of env o.args ≡ Some vs → IsTold P o.op w vs
  shape_told f b base m node value (Go jump) o ops env w vs keeps fact ops_is g = cc
  shape_told f b base m node value (Fork test so other_way) o ops env w vs keeps fact ops_is g = cc
  shape_told f b base m node value (Does row args covers hands default norm) o ops env w vs keeps fact ops_is g =
      let same : o ≡ act base m node value row args covers = cc in
      subst (λ (x : Op). IsTold P x.op w vs) (sym same) (keeps.2 w (places base env) vs fact (sym (ap (λ (x : Op). values_of env x.args) same ∙ values_are base env args) ∙ g)).told
  shape_told f b base m node value (Plain row jump) o ops env w vs keeps fact ops_is g =
      let same : o ≡ act base m node value row [] no_covers = cc in
      let none : Some [] ≡ Some vs = sym (ap (λ (x : Op). values_of env x.args) same) ∙ g in
      let empty : [] ≡ vs = cc in
      subst (λ (x : Op). IsTold P x.op w vs) (sym same) (subst (λ (l : List Value). IsTold P row w l) empty (keeps w (places base env) fact).told)
  shape_told f b base m node value GiveBack o ops env w vs keeps fact ops_is g = cc
  shape_told f b base m node value GiveUp o ops env w vs keeps fact ops_is g = cc

  pub standing_told : (f : ℕ) (o : Op) (ops : List Op) (x : Exit) (env : List Bound) (w : World) (vs : List Value) → Standing f (o ∷ ops) x env w → values_of env o.args ≡ Some vs → IsTold P o.op w vs
  standing_told f o ops x env w vs (Begun b base m node value shape is keeps named fact ops_is exit_is) g = shape_told f b base m node value shape o ops env w vs keeps fact ops_is g
  standing_told f o ops x env w vs (Behind b base m node value row args covers hands default norm is ops_is exit_is fact) g = cc
  standing_told f o ops x env w vs (BehindPlain b base m node value row jump is ops_is exit_is fact) g = cc
