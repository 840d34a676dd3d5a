-- Steps of sound states.
use Rattle.std.proofs.Common.{◌≡◌, ℕ, Bool, true, false, List, [], ◌∷◌, ◌++◌, length, Option, Some, None, refl, ap, sym, subst, ◌∙◌, arith}
use Rattle.std.specs.Prelude.{◌==◌, ◌||◌, not, cond, map, slice_get, if◌then◌else◌}
use Rattle.std.proofs.lemmas.Bool.{eqb-true, eq-eqb}
use Rattle.rpy_tree.specs.Value.{Value, Ref}
use Rattle.rpy_meaning.specs.Tree.{Program}
use Rattle.rpy_meaning.specs.World.{World, Answer, Gives, Throws, Fails, Lacks, Enters, Bad}
use Rattle.rpy_meaning.specs.Classes.{is_below}
use Rattle.rpy_meaning.specs.Meaning.{class_of, class_in}
use Rattle.rpy_meaning.specs.Operations.{op}
use Rattle.flow_graph.specs.declared.graph.Link.{Link}
use Rattle.flow_graph.specs.declared.graph.Exit.{Exit}
use Rattle.flow_graph.specs.declared.graph.Exit.TheVariants as exit
use Rattle.flow_graph.specs.declared.graph.Op.{Op}
use Rattle.flow_graph.specs.declared.graph.Graph.{Graph}
use Rattle.flow_graph.specs.declared.graph.Graphs.{Graphs}
use Rattle.flow_meaning.specs.Machine as machine
use Rattle.flow_meaning.specs.Machine.{Bound, Frame, State, Calling, At, Returning, Throwing, Next, Goes, Ends, Stops, Strays, look, bind, block_in, begins, jump, catching, caught_on, caught_by, caught, gives, waiting, answered, operates, chooses, leaves, ended_by}
use Rattle.ann_lattice.specs.Shape.{Shape, Inst, Truth}
use Rattle.ann_lattice.specs.Shape as shape
use Rattle.ann_lattice.specs.Join.{is_clash}
use Rattle.ann_lattice.specs.Kind.{is_nothing, some_nothing, some_clash}
use Rattle.ann_lattice.specs.Order.{Sub, has}
use Rattle.ann_lattice.specs.Assign as assign
use Rattle.ann_lattice.specs.Assign.{Assignment, at, mark, Need, Up, Set}
use Rattle.ann_rules.specs.Program.{Whole}
use Rattle.ann_rules.specs.Asks.{asks, when, from_each}
use Rattle.ann_rules.specs.Rules as rules
use Rattle.ann_rules.specs.Rules.{value, may_be_unbound, asked, reached_needs, op_needs, loose_needs, goes_on, is_narrowing, caught_as, pass_all, link_needs, exception_needs, exit_needs, ops_needs, inputs_of, block_at}
use Rattle.sound_values.specs.Values.{Sort, Keeps, inst}
use Rattle.sound_values.specs.Heaps.{IsOf, AreOf, IsTyped}
use Rattle.sound_values.proofs.Larger.{larger}
use Rattle.sound_values.proofs.Objects.{instance_at}
use Rattle.sound_rows.specs.Sound.{AllMet, Fits, Sound, is_raise}
use Rattle.sound_rows.specs.Told.{IsTold}
use Rattle.sound_rows.proofs.Tools.{no, yes, Setting, above_clash}
use Rattle.sound_rows.proofs.Containers.{met_append}
use Rattle.sound_rows.proofs.Classes.{same_below}
use Rattle.sound_rows.proofs.Tests.{reached}
use Rattle.sound_rows.proofs.Whole.{all_reached, each_is_sound}
use Rattle.sound_runs.specs.Graphs.{AreKnown, LinkFits, LinksFit, OtherFits, CatchFits, RestFits, IsSettled}
use Rattle.sound_runs.specs.States.{names, BoundIs, EnvIs, GivesBack, Runs, Waits, AllWait, IsThrowable}
use Rattle.sound_runs.specs.Runs.{IsRight}
use Rattle.sound_runs.proofs.Needs.{met_when, block_met}
use Rattle.sound_runs.proofs.Env.{names_append, names_passed, look_is, operands, env_append, env_grows}

-- ---- where variables stand

look_old_by : (c : Bool) (x : Option Value) (env : List Bound) (b : Bound) (u : ℕ) → (c || has (names env) u) ≡ true → (has (names env) u ≡ true → look (env ++ b ∷ []) u ≡ look env u)
    → cond c x (look (env ++ b ∷ []) u) ≡ cond c x (look env u)
look_old_by true x env b u e go = refl
look_old_by false x env b u e go = go e

look_old : (env : List Bound) (b : Bound) (u : ℕ) → has (names env) u ≡ true → look (env ++ b ∷ []) u ≡ look env u
look_old [] b u e = absurd (no e)
look_old (c ∷ env) b u e = look_old_by (c.variable == u) c.value env b u e (look_old env b u)

look_new_by : (c : Bool) (x y : Option Value) (env : List Bound) (b : Bound) (u : ℕ) → (c || has (names env) u) ≡ false → (has (names env) u ≡ false → look (env ++ b ∷ []) u ≡ y)
    → cond c x (look (env ++ b ∷ []) u) ≡ y
look_new_by true x y env b u e go = absurd (yes e)
look_new_by false x y env b u e go = go e

look_new : (env : List Bound) (b : Bound) (u : ℕ) → has (names env) u ≡ false → b.variable ≡ u → look (env ++ b ∷ []) u ≡ b.value
look_new [] b u e same = ap (λ c. cond c b.value None) (eq-eqb b.variable u same)
look_new (c ∷ env) b u e same = look_new_by (c.variable == u) c.value b.value env b u e (λ i. look_new env b u i same)

has_last : (vars : List ℕ) (v u : ℕ) → has (vars ++ v ∷ []) u ≡ true → (v == u) ≡ false → has vars u ≡ true
has_last [] v u e f = absurd (yes (sym e ∙ ap (λ b. b || false) f))
has_last (x ∷ vars) v u e f = by (x == u) e (λ i. has_last vars v u i f)
  where
    by : (c : Bool) → (c || has (vars ++ v ∷ []) u) ≡ true → (has (vars ++ v ∷ []) u ≡ true → has vars u ≡ true) → (c || has vars u) ≡ true
    by true e go = refl
    by false e go = go e

module _ (p : Whole) (a : Assignment) (q : Program) (gs : Graphs) (settled : IsSettled p a q gs) where
  abbrev pub Met : List Need → Type 0
  Met ns = AllMet p.tables.classes a ns

  pub split : (ms ns : List Need) → Met (ms ++ ns) → Met ms × Met ns
  split ms ns h = met_append p.tables.classes a ms ns h

  pub raise_up : (sorts : List Sort) (x y : Shape) (v : Value) → assign.Under p.tables.classes a.same (x ∷ []) y → IsOf p a sorts x v → IsOf p a sorts y v
  raise_up sorts x y v b h = larger p.tables.classes settled.sees.tree.tree a.same sorts x y v b.0 h

  -- ---- links

  -- what a link passes: an exception of a class, or what stands in a variable
  abbrev PassIs : List Sort → ℕ → Option ℕ → ℕ → Option Value → Type 0
  PassIs sorts g (Some c) v None = ⊥
  PassIs sorts g (Some c) v (Some u) = IsOf p a sorts (Inst c false) u
  PassIs sorts g None v o = BoundIs p a q sorts g v o

  pass_one : (sorts : List Sort) (g : ℕ) (c : Option ℕ) (v input : ℕ) (o : Option Value) → PassIs sorts g c v o → Met (rules.passed p a g c v input) → BoundIs p a q sorts g input o
  pass_one sorts g (Some c) v input None h m = absurd h
  pass_one sorts g (Some c) v input (Some u) h m = raise_up sorts (Inst c false) (value p a g input) u m.0 h
  pass_one sorts g None v input (Some u) h m = raise_up sorts (value p a g v) (value p a g input) u m.0 h
  pass_one sorts g None v input None h m = (met_when p.tables.classes a (may_be_unbound p a g v) (Set (p.places.loose g input) ∷ []) h m.1).0

  passed_are : (sorts : List Sort) (g : ℕ) (c : Option (ℕ × ℕ)) (env : List Bound) (vars inputs vs : List ℕ) → length vs ≡ length inputs → AreKnown p a g vars vs
      → ((v : ℕ) → has vars v ≡ true → PassIs sorts g (caught_as c v) v (look env v)) → Met (pass_all p a g c inputs vs) → EnvIs p a q sorts g (machine.passed env inputs vs)
  passed_are sorts g c env vars [] vs e k known m = tt
  passed_are sorts g c env vars (input ∷ inputs) [] e k known m = absurd (omega (arith, e))
  passed_are sorts g c env vars (input ∷ inputs) (v ∷ vs) e k known m =
      let ms = split (rules.passed p a g (caught_as c v) v input) (pass_all p a g c inputs vs) m in
      (pass_one sorts g (caught_as c v) v input (look env v) (known v k.0) ms.0, passed_are sorts g c env vars inputs vs (omega (arith, e)) k.1 known ms.1)

  pub jump_ok : (sorts : List Sort) (g : ℕ) (graph : Graph) → slice_get p.graphs g ≡ Some graph → graph.function ≡ g → (c : Option (ℕ × ℕ)) (env : List Bound) (l : Link) (instead : Option Value) (frames : List Frame) (world : World)
      → IsTyped p a q.sites sorts world.heap → AllWait p a q sorts frames → GivesBack p a q sorts g instead frames → LinkFits p a g graph (names env) l
      → ((v : ℕ) → has (names env) v ≡ true → PassIs sorts g (caught_as c v) v (look env v)) → Met (link_needs p a g graph c l) → IsRight p a q (jump gs g frames world instead env l)
  jump_ok sorts g graph there number c env l instead frames world typed waits back fits known m =
      let found : block_in (slice_get gs.graphs g) l.to ≡ Some fits.block = ap (λ graphs. block_in (slice_get graphs g) l.to) settled.graphs ∙ ap (λ o. block_in o l.to) there ∙ fits.there in
      let ms = block_met p a settled.met g l.to graph fits.block there fits.there m.0 in
      let passes : Met (pass_all p a g c fits.block.inputs l.args) = subst (λ o. Met (pass_all p a g c (inputs_of o) l.args)) fits.there m.1 in
      let env' : List Bound = machine.passed env fits.block.inputs l.args in
      subst (λ o. IsRight p a q (begins g frames world instead env l o)) (sym found) (
        sorts,
        (
          typed,
          (
            waits,
            record {
              graph = graph;
              there = there;
              number = number;
              vars = passed_are sorts g c env (names env) fits.block.inputs l.args fits.count fits.known known passes;
              rest = subst (λ vars. RestFits p a g graph vars fits.block.ops fits.block.exit) (sym (names_passed env fits.block.inputs l.args)) (settled.blocks g l.to graph fits.block there fits.there m.0);
              met = ms.1;
              caught = ms.0;
              back = back;
            },
          ),
        ),
      )

  -- ---- exceptions

  caught_known : (sorts : List Sort) (g r v class : ℕ) (env : List Bound) → EnvIs p a q sorts g env → has (names env) v ≡ false → IsOf p a sorts (Inst class false) (Ref r) → (u : ℕ)
      → has (names (env ++ bind v (Some (Ref r)) ∷ [])) u ≡ true → PassIs sorts g (caught_as (Some (v, class)) u) u (look (env ++ bind v (Some (Ref r)) ∷ []) u)
  caught_known sorts g r v class env h new i u e = by (v == u) refl
    where
      by : (b : Bool) → (v == u) ≡ b → PassIs sorts g (if b then Some class else None) u (look (env ++ bind v (Some (Ref r)) ∷ []) u)
      by true f =
          let same = eqb-true v u f in
          subst (λ o. PassIs sorts g (Some class) u o) (sym (look_new env (bind v (Some (Ref r))) u (subst (λ x. has (names env) x ≡ false) same new) same)) i
      by false f =
          let old = has_last (names env) v u (subst (λ vars. has vars u ≡ true) (names_append env (bind v (Some (Ref r)))) e) f in
          subst (λ o. BoundIs p a q sorts g u o) (sym (look_old env (bind v (Some (Ref r))) u old)) (look_is p a q sorts g env u h old)

  pub record Catch (sorts : List Sort) (g r v : ℕ) (graph : Graph) (env : List Bound) (instead : Option Value) (frames : List Frame) (world : World) : Type 0 where
    pub there : slice_get p.graphs g ≡ Some graph
    pub number : graph.function ≡ g
    pub typed : IsTyped p a q.sites sorts world.heap
    pub waits : AllWait p a q sorts frames
    pub back : GivesBack p a q sorts g instead frames
    pub vars : EnvIs p a q sorts g env
    pub new : has (names env) v ≡ false
    pub thrown : IsThrowable p a q sorts r

  -- a link takes an exception of a class
  link_ok : (sorts : List Sort) (g r v : ℕ) (graph : Graph) (env : List Bound) (instead : Option Value) (frames : List Frame) (world : World) (k : Catch sorts g r v graph env instead frames world) (c : ℕ) (l : Link)
      → Sub p.tables.classes k.thrown.class c → LinkFits p a g graph (names env ++ v ∷ []) l → Met (link_needs p a g graph (Some (v, c)) l)
      → IsRight p a q (jump gs g frames world instead (env ++ bind v (Some (Ref r)) ∷ []) l)
  link_ok sorts g r v graph env instead frames world k c l below fits m =
      jump_ok sorts g graph k.there k.number (Some (v, c)) (env ++ bind v (Some (Ref r)) ∷ []) l instead frames world k.typed k.waits k.back
      (subst (λ vars. LinkFits p a g graph vars l) (sym (names_append env (bind v (Some (Ref r))))) fits)
      (caught_known sorts g r v c env k.vars k.new (inst c false r k.thrown.class k.thrown.sort below)) m

  catching_ok : (sorts : List Sort) (g r v : ℕ) (graph : Graph) (env : List Bound) (instead : Option Value) (frames : List Frame) (world : World) (k : Catch sorts g r v graph env instead frames world)
      (links : List (ℕ × Link)) (other : Option Link) → LinksFit p a g graph (names env ++ v ∷ []) links → OtherFits p a g graph (names env ++ v ∷ []) other
      → Met (from_each (λ (l : ℕ × Link). link_needs p a g graph (Some (v, l.0)) l.1) links) → Met (rules.other_link p a g graph v other)
      → IsRight p a q (caught_on gs g r frames world instead env v (catching q k.thrown.class links other))
  catching_ok sorts g r v graph env instead frames world k [] None fs f ms m = (sorts, (k.typed, (k.waits, k.thrown)))
  catching_ok sorts g r v graph env instead frames world k [] (Some l) fs f ms m = link_ok sorts g r v graph env instead frames world k 0 l k.thrown.exception f m
  catching_ok sorts g r v graph env instead frames world k (l ∷ links) other fs f ms m =
      let ns = split (link_needs p a g graph (Some (v, l.0)) l.1) (from_each (λ (l : ℕ × Link). link_needs p a g graph (Some (v, l.0)) l.1) links) ms in
      by (is_below q.classes k.thrown.class l.0) refl
      (λ below. link_ok sorts g r v graph env instead frames world k l.0 l.1 (sym (same_below p q settled.sees k.thrown.class l.0) ∙ below) fs.0 ns.0)
      (catching_ok sorts g r v graph env instead frames world k links other fs.1 f ns.1 m)
    where
      by : (b : Bool) → is_below q.classes k.thrown.class l.0 ≡ b → (is_below q.classes k.thrown.class l.0 ≡ true → IsRight p a q (caught_on gs g r frames world instead env v (Some l.1)))
          → IsRight p a q (caught_on gs g r frames world instead env v (catching q k.thrown.class links other)) → IsRight p a q (caught_on gs g r frames world instead env v (cond b (Some l.1) (catching q k.thrown.class links other)))
      by true e here later = here e
      by false e here later = later

  -- the class of the object
  pub class_is : (sorts : List Sort) (world : World) (r : ℕ) → IsTyped p a q.sites sorts world.heap → (t : IsThrowable p a q sorts r) → class_in world r ≡ t.class
  class_is sorts world r typed t =
      let o = instance_at p a q.sites sorts world.heap typed r t.class t.sort in
      ap class_of o.there

  catch_exit : (sorts : List Sort) (g r : ℕ) (graph : Graph) (e : Exit) (env : List Bound) (instead : Option Value) (frames : List Frame) (world : World) → slice_get p.graphs g ≡ Some graph → graph.function ≡ g
      → IsTyped p a q.sites sorts world.heap → AllWait p a q sorts frames → GivesBack p a q sorts g instead frames → EnvIs p a q sorts g env → CatchFits p a g graph (names env) [] e
      → Met (exception_needs p a g graph e) → IsThrowable p a q sorts r → IsRight p a q (caught_by q gs g r frames world instead env e)
  catch_exit sorts g r graph (exit.OnRaise v links other norm) env instead frames world there number typed waits back vars fits m thrown =
      let k : Catch sorts g r v graph env instead frames world = record { there = there; number = number; typed = typed; waits = waits; back = back; vars = vars; new = fits.0; thrown = thrown } in
      let ms = split (from_each (λ (l : ℕ × Link). link_needs p a g graph (Some (v, l.0)) l.1) links) (rules.other_link p a g graph v other) m in
      subst (λ c. IsRight p a q (caught_on gs g r frames world instead env v (catching q c links other))) (sym (class_is sorts world r typed thrown))
      (catching_ok sorts g r v graph env instead frames world k links other fits.1.0 fits.1.1 ms.0 ms.1)
  catch_exit sorts g r graph e env instead frames world there number typed waits back vars fits m thrown = (sorts, (typed, (waits, thrown)))

  pub catch_ok : (sorts : List Sort) (r : ℕ) (frame : Frame) (frames : List Frame) (world : World) (ops : List Op) → IsTyped p a q.sites sorts world.heap → AllWait p a q sorts frames → (w : Waits p a q sorts frame frames)
      → CatchFits p a frame.graph w.graph (names frame.env) ops frame.exit → IsThrowable p a q sorts r → IsRight p a q (caught q gs frame.graph r frames world frame.instead frame.env ops frame.exit)
  catch_ok sorts r frame frames world [] typed waits w fits thrown =
      catch_exit sorts frame.graph r w.graph frame.exit frame.env frame.instead frames world w.there w.number typed waits w.back w.vars fits w.caught thrown
  catch_ok sorts r frame frames world (o ∷ ops) typed waits w fits thrown = (sorts, (typed, (waits, thrown)))

  -- ---- who waits

  back_grows : (sorts later : List Sort) → Keeps sorts later → (f : ℕ) (instead : Option Value) (frames : List Frame) → GivesBack p a q sorts f instead frames → GivesBack p a q later f instead frames
  back_grows sorts later keeps f instead frames h last more v i = h last (λ r sort e. more r sort (keeps r sort e)) v i

  wait_grows : (sorts later : List Sort) → Keeps sorts later → (frame : Frame) (frames : List Frame) → Waits p a q sorts frame frames → Waits p a q later frame frames
  wait_grows sorts later keeps frame frames w = record {
    graph = w.graph;
    there = w.there;
    number = w.number;
    vars = env_grows p a q sorts later keeps frame.graph frame.env w.vars;
    catch = w.catch;
    rest = w.rest;
    met = w.met;
    caught = w.caught;
    back = back_grows sorts later keeps frame.graph frame.instead frames w.back;
  }

  all_wait_grow : (sorts later : List Sort) → Keeps sorts later → (frames : List Frame) → AllWait p a q sorts frames → AllWait p a q later frames
  all_wait_grow sorts later keeps [] h = tt
  all_wait_grow sorts later keeps (frame ∷ frames) h = (wait_grows sorts later keeps frame frames h.0, all_wait_grow sorts later keeps frames h.1)

  -- a setting in which nothing is to be given
  abbrev pub bare : (sorts : List Sort) (world : World) → IsTyped p a q.sites sorts world.heap → Setting
  bare sorts world typed = record { p = p; a = a; q = q; sees = settled.sees; sorts = sorts; heap = world.heap; typed = typed; raises = false; z = shape.Nothing; free = refl }

  not_nothing : (b : Bool) (x : Shape) → is_nothing x ≡ false → (b || not (is_nothing x)) ≡ true
  not_nothing true x e = refl
  not_nothing false x e = ap not e

  pub resume_ok : (sorts : List Sort) (frame : Frame) (frames : List Frame) (world : World) (v : Value) → IsTyped p a q.sites sorts world.heap → AllWait p a q sorts frames → Waits p a q sorts frame frames
      → IsOf p a sorts (value p a frame.graph frame.call.result) v → IsRight p a q (gives frame.graph frame.call frame.ops frame.exit frame.env frame.instead frames world v)
  resume_ok sorts frame frames world v typed waits w h =
      let goes = not_nothing (is_narrowing frame.call.op) (value p a frame.graph frame.call.result) (reached (bare sorts world typed) (value p a frame.graph frame.call.result) v h) in
      let bound = bind frame.call.result (Some v) in (
        sorts,
        (
          typed,
          (
            waits,
            record {
              graph = w.graph;
              there = w.there;
              number = w.number;
              vars = env_append p a q sorts frame.graph frame.env bound w.vars h;
              rest = subst (λ vars. RestFits p a frame.graph w.graph vars frame.ops frame.exit) (sym (names_append frame.env bound)) w.rest;
              met = met_when p.tables.classes a (goes_on p a frame.graph frame.call) (ops_needs p a frame.graph w.graph frame.ops frame.exit) goes w.met;
              caught = w.caught;
              back = w.back;
            },
          ),
        ),
      )

  -- ---- operations

  clear_by : (x : Shape) (b : Bool) (r : Bool) → is_clash x ≡ b → (b ≡ true → ⊥) → r ≡ false → (is_clash x || r) ≡ false
  clear_by x true r e n f = absurd (n refl)
  clear_by x false r e n f = ap (λ c. c || r) e ∙ f

  all_clear : (es : List Shape) (z : Shape) → assign.Under p.tables.classes a.same es z → is_clash z ≡ false → some_clash es ≡ false
  all_clear [] z h f = refl
  all_clear (e ∷ es) z h f = clear_by e (is_clash e) (some_clash es) refl (λ i. above_clash p.tables.classes a.same e z h.0 i f) (all_clear es z h.1 f)

  pub fits_of : (sorts : List Sort) (g : ℕ) (o : Op) (vs : List Value) (world : World) → IsTyped p a q.sites sorts world.heap → AreOf p a sorts (map (value p a g) o.args) vs → is_clash (value p a g o.result) ≡ false
      → Met (op_needs p a g o) → Fits p a g o.op o.node (map (value p a g) o.args) (value p a g o.result)
  fits_of sorts g o vs world typed are free m =
      let xs = map (value p a g) o.args in
      let reached = all_reached (bare sorts world typed) xs vs are in
      let ms = met_when p.tables.classes a (not (some_nothing xs)) (reached_needs p a g o xs) (ap not reached) (split (loose_needs p a g o) (when (not (some_nothing xs)) (reached_needs p a g o xs)) m).1 in
      record {
        above = ms.0;
        free = free;
        met = met_when p.tables.classes a (not (some_clash (asked p a g o.op xs o.node))) (asks p a o.op xs) (ap not (all_clear (asked p a g o.op xs o.node) (value p a g o.result) ms.0 free)) ms.1;
      }

  answer_ok : (sorts : List Sort) (g : ℕ) (o : Op) (ops : List Op) (e : Exit) (env : List Bound) (instead : Option Value) (frames : List Frame) (before : World) → AllWait p a q sorts frames
      → Waits p a q sorts (waiting g o ops e env instead) frames → (answer : Answer) → Sound p a q (is_raise o.op) sorts (value p a g o.result) answer
      → IsRight p a q (answered q gs g o ops e env instead frames before answer)
  answer_ok sorts g o ops e env instead frames before waits w (Gives v world) h =
      resume_ok h.later (waiting g o ops e env instead) frames world v h.typed (all_wait_grow sorts h.later h.keeps frames waits) (wait_grows sorts h.later h.keeps (waiting g o ops e env instead) frames w) h.is
  answer_ok sorts g o ops e env instead frames before waits w (Throws r world) h =
      let grown = wait_grows sorts h.later h.keeps (waiting g o ops e env instead) frames w in
      catch_ok h.later r (waiting g o ops e env instead) frames world ops h.typed (all_wait_grow sorts h.later h.keeps frames waits) grown grown.catch (record { class = h.class; sort = h.sort; exception = h.exception })
  answer_ok sorts g o ops e env instead frames before waits w (Enters f args other world) h = (
    h.later,
    (
      h.typed,
      (
        (wait_grows sorts h.later h.keeps (waiting g o ops e env instead) frames w, all_wait_grow sorts h.later h.keeps frames waits),
        record {
          reached = h.reached;
          arguments = h.arguments;
          back = h.result;
        },
      ),
    ),
  )
  answer_ok sorts g o ops e env instead frames before waits w (Fails name) h = tt
  answer_ok sorts g o ops e env instead frames before waits w Lacks h = tt
  answer_ok sorts g o ops e env instead frames before waits w Bad h = h

  pub operation_ok : (sorts : List Sort) (g : ℕ) (o : Op) (ops : List Op) (e : Exit) (env : List Bound) (instead : Option Value) (frames : List Frame) (world : World) → IsTyped p a q.sites sorts world.heap
      → AllWait p a q sorts frames → Runs p a q sorts g (o ∷ ops) e env instead frames → ((vs : List Value) → machine.values_of env o.args ≡ Some vs → IsTold q world o.op vs)
      → IsRight p a q (operates q gs g o ops e env instead frames world (machine.values_of env o.args))
  operation_ok sorts g o ops e env instead frames world typed waits r told =
      let vs = operands p a q sorts g env o.args r.vars r.rest.0.0 in
      let ms = split (op_needs p a g o) (when (goes_on p a g o) (ops_needs p a g r.graph ops e)) r.met in
      let fits = fits_of sorts g o vs.values world typed vs.are r.rest.0.1 ms.0 in
      let w : Waits p a q sorts (waiting g o ops e env instead) frames = record {
        graph = r.graph;
        there = r.there;
        number = r.number;
        vars = r.vars;
        catch = r.rest.1.0;
        rest = r.rest.1.1;
        met = ms.1;
        caught = r.caught;
        back = r.back;
      } in
      subst (λ o'. IsRight p a q (operates q gs g o ops e env instead frames world o')) (sym vs.there)
      (answer_ok sorts g o ops e env instead frames world waits w (op q o.covered o.op vs.values world)
      (each_is_sound o.op p a q settled.sees o.covered g o.node (map (value p a g) o.args) vs.values sorts world (value p a g o.result) typed vs.are (told vs.values vs.there) fits))
