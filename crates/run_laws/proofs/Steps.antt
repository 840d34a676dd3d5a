-- Each step of flow graphs is followed.
use Rattle.std.proofs.Common.{◌≡◌, ◌<◌, ◌≤◌, ℕ, ◌+◌, ◌-◌, Bool, true, false, List, [], ◌∷◌, ◌++◌, length, Option, Some, None, pos, refl, sym, ap, ◌∙◌, subst, arith}
use Rattle.std.proofs.lemmas.Bool.Decides.{nat_tests}
use Rattle.std.proofs.lemmas.List.{append-nil, append_assoc}
use Rattle.std.specs.Prelude.{slice_get, replicate, cond, nat_lt, unwrap_or}
use Rattle.ann_element.specs.declared.element.Element.{Element}
use Rattle.rpy_base.specs.declared.outcome.Outcome.{Outcome}
use Rattle.rpy_base.specs.declared.outcome.Outcome.TheVariants.{Running}
use Rattle.csub_tree.specs.declared.tree.COperand.TheVariants.{Const}
use Rattle.csub_tree.specs.declared.tree.CConst.TheVariants as constant
use Rattle.csub_tree.specs.State.{Value, Unset, Block as Memory, Core}
use Rattle.ll_code.specs.State as low
use Rattle.ll_code.specs.declared.program.LlOp.{LlOp}
use Rattle.ll_code.specs.declared.program.LlOp.TheVariants.{Step}
use Rattle.ll_code.specs.declared.program.LlExit.{LlExit}
use Rattle.ll_leads.proofs.Joined.{leads_then}
use Rattle.ll_leads.proofs.Ways.{enter, pays, lacks, rests}
use Rattle.rpy_tree.specs.Value.{Value as Meant, Word, Flag, Text, Nothing, Tuple, Fun, Ref}
use Rattle.rpy_meaning.specs.Tree.{Function}
use Rattle.rpy_meaning.specs.Evaluation.{parameters}
use Rattle.rpy_meaning.specs.World.{World, Answer, Gives as Gave, Throws as Threw, Fails, Lacks, Enters, Bad}
use Rattle.rpy_meaning.specs.Meaning.{class_in, returned, name_of}
use Rattle.rpy_meaning.specs.Operations.{op}
use Rattle.flow_graph.specs.declared.graph.Block.{Block}
use Rattle.flow_graph.specs.declared.graph.Exit.{Exit}
use Rattle.flow_graph.specs.declared.graph.Exit.TheVariants as exit
use Rattle.flow_graph.specs.declared.graph.Link.{Link}
use Rattle.flow_graph.specs.declared.graph.Op.{Op}
use Rattle.flow_meaning.specs.Machine as flow
use Rattle.flow_meaning.specs.Machine.{Frame, State, Calling, At, Returning, Throwing, Next, Goes as Onto, Ends as Ended, Stops, Strays, Bound, bind, look, block_in, begins, chooses, truth_of, raises, returns, answered, operates, values_of, entered, given, begun, taken, waiting, world_of, step, passed}
use Rattle.flow_runs.specs.Good.{IsGood}
use Rattle.flow_runs.specs.Runs.{AreGood, Here}
use Rattle.object_laws.specs.Ghost.{Ghost, Grown}
use Rattle.object_laws.specs.Represents.{Represents}
use Rattle.object_laws.specs.Values.{Holds}
use Rattle.object_laws.proofs.Growing.{grown_none}
use Rattle.object_laws.proofs.Changing.{list_kept}
use Rattle.object_laws.specs.Known.{Known}
use Rattle.rpy_tree.specs.Value.{Heap}
use Rattle.rtyper_layout.specs.declared.layout.Layout.{Layout}
use Rattle.run_laws.specs.Points.{Stand}
use Rattle.run_laws.specs.Points.{Setting, is_keyed, truth_known, names_of, IsAt, Way, IsException}
use Rattle.run_laws.specs.Does.{Does, Over, Passed, Entered, Thrown, Handled, Left, Again, Begins, Leaves, Came, Follows, Jumps, Exits}
use Rattle.run_laws.specs.States.{IsLowered, BeginsAs, OverIf, Wait, Entry, Call, Stands, Calls, Goes, Gives, Throws, Raises}
use Rattle.run_laws.specs.Runs.{Ends, EndsIf}

pub grown_both : {a b c : Ghost} → Grown a b → Grown b c → Grown a c
grown_both {a = a} {b = b} {c = c} x y = record {
  uses = x.uses ++ y.uses;
  objects = x.objects ++ y.objects;
  blocks = y.blocks ∙ ap (λ us. us ++ y.uses) x.blocks ∙ append_assoc a.blocks x.uses y.uses;
  statics = y.statics ∙ x.statics;
  homes = y.homes ∙ ap (λ hs. hs ++ y.objects) x.homes ∙ append_assoc a.homes x.objects y.objects;
}

pub taken_named : (inputs : List ℕ) (vs : List Meant) → names_of (taken inputs vs) ≡ inputs
taken_named [] vs = refl
taken_named (input ∷ inputs) [] = ap (λ ns. input ∷ ns) (taken_named inputs [])
taken_named (input ∷ inputs) (v ∷ vs) = ap (λ ns. input ∷ ns) (taken_named inputs vs)

-- steps were paid
pub fewer_steps : {layout : Layout} {known : Known} {g : Ghost} {heap : Heap} {left fewer : ℕ} {blocks : List (Option Memory)} {statics : List Memory} → fewer ≤ left → Represents layout known g heap left blocks statics → Represents layout known g heap fewer blocks statics
fewer_steps less r = record {
  made = r.made;
  fixed = r.fixed;
  homes = r.homes;
  few = (let f = r.few in omega (arith, f, less));
  stays = r.stays;
  settled = r.settled;
  constants = r.constants;
  vtables = r.vtables;
  exceptions = r.exceptions;
  sites = r.sites;
  lists = λ n i head h struct. list_kept grown_none i head (λ o k. k) (λ x u b k of is. is) n less (r.lists n i head h struct);
  instances = r.instances;
  dicts = r.dicts;
}

module _ (s : Setting) where
  pub stays : {from : low.State} → Way s from [] from
  stays {from = from} = record { most = 0; leads = rests }

  pub way_then : {a b c : low.State} {x y : List ℕ} → Way s a x b → Way s b y c → Way s a (x ++ y) c
  way_then v w = record { most = v.most + w.most; leads = leads_then v.leads w.leads }

  wait_grows : {g new : Ghost} {calls : List Frame} {frames : List low.Frame} {f : ℕ} {instead : Option Meant} → Grown g new → Wait s g calls frames f instead → Wait s new calls frames f instead
  wait_grows grown (Entry frame is) = Entry frame is
  wait_grows grown (Call waits names calls frame frames callee instead before more it rest) = Call waits names calls frame frames callee instead before (grown_both more grown) it (wait_grows grown rest)

  -- ---- what a step leads to

  pub record Moved (before : World) (from : low.State) (to : State) : Type 0 where
    pub ghost : Ghost
    pub text : List ℕ
    pub state : low.State
    pub way : Way s from text state
    pub stands : Stands s ghost to state
    pub out : (world_of to).out ≡ before.out ++ text

  abbrev pub Followed : World → low.State → Next → Type 0
  Followed before from (Onto to) = Moved before from to
  Followed before from (Ended outcome w) = EndsIf s outcome before w from
  Followed before from (Stops w) = Ends s Running before w from
  Followed before from Strays = Unit {0}

  -- it ends, and puts nothing
  ends_now : {outcome : Outcome} {before w : World} {from : low.State} → w.out ≡ before.out → Over s outcome w from → Ends s outcome before w from
  ends_now {before = before} {from = from} same over = record { text = []; last = from; way = stays; over = over; out = same ∙ sym (append-nil before.out) }

  ends_if : (before w : World) (from : low.State) (outcome : Option Outcome) → w.out ≡ before.out → OverIf s outcome w from → EndsIf s outcome before w from
  ends_if before w from None same over = tt
  ends_if before w from (Some outcome) same over = ends_now same over

  module _ (lowered : IsLowered s) where
    -- ---- blocks

    begins_at : {f n : ℕ} {b : Block} {env : List Bound} {w before : World} {g : Ghost} {frames : List low.Frame} {from : low.State} {calls : List Frame} {instead : Option Meant}
        → w.out ≡ before.out → Wait s g calls frames f instead → Begins s f n b env w g frames from → Moved before from (At f b.ops b.exit env instead calls w)
    begins_at {f = f} {n = n} {b = b} {env = env} {w = w} {before = before} {frames = frames} {calls = calls} {instead = instead} same waits it = record {
      ghost = it.ghost;
      text = [];
      state = low.At it.low.ops it.low.exit frames it.end;
      way = it.way;
      stands = Goes f b.inputs b.ops b.exit env instead calls w it.low.ops it.low.exit frames it.end (lowered.blocks f n b it.low it.block) it.at (wait_grows it.grown waits);
      out = same ∙ sym (append-nil before.out);
    }

    jumps : (f : ℕ) (link : Link) (env : List Bound) (w : World) (g : Ghost) (frames : List low.Frame) (from : low.State) (calls : List Frame) (instead : Option Meant)
        → Wait s g calls frames f instead → Jumps s f link env w g frames from → (o : Option Block) → block_in (slice_get s.graphs.graphs f) link.to ≡ o → Followed w from (begins f calls w instead env link o)
    jumps f link env w g frames from calls instead waits it None e = tt
    jumps f link env w g frames from calls instead waits it (Some b) e = begins_at refl waits (it b e)

    -- ---- exceptions

    leaves_as : {f r : ℕ} {w before : World} {g : Ghost} {frames : List low.Frame} {from : low.State} {calls : List Frame} {instead : Option Meant} → w.out ≡ before.out → Wait s g calls frames f instead → Leaves s r w g frames from → Moved before from (Throwing r calls w)
    leaves_as {f = f} {r = r} {w = w} {before = before} {frames = frames} {calls = calls} {instead = instead} same waits it = record {
      ghost = it.ghost;
      text = [];
      state = low.Throwing it.x frames it.end;
      way = it.way;
      stands = Throws f r instead calls w it.x frames it.end it.is it.stands it.left (wait_grows it.grown waits);
      out = same ∙ sym (append-nil before.out);
    }

    leaves_again : {f r v : ℕ} {env : List Bound} {w before : World} {g : Ghost} {frames : List low.Frame} {from : low.State} {calls : List Frame} {instead : Option Meant} → w.out ≡ before.out → Wait s g calls frames f instead → look env v ≡ Some (Ref r) → Leaves s r w g frames from
        → Moved before from (At f [] (exit.Raise v) env instead calls w)
    leaves_again {f = f} {r = r} {v = v} {env = env} {w = w} {before = before} {frames = frames} {calls = calls} {instead = instead} same waits has it = record {
      ghost = it.ghost;
      text = [];
      state = low.Throwing it.x frames it.end;
      way = it.way;
      stands = Raises f v r env instead calls w it.x frames it.end has it.is it.stands it.left (wait_grows it.grown waits);
      out = same ∙ sym (append-nil before.out);
    }

    thrown : {f r : ℕ} {w : World} {g : Ghost} {frames : List low.Frame} {env : List Bound} {ops : List Op} {e : Exit} {from : low.State} (before : World) (calls : List Frame) (instead : Option Meant)
        → w.out ≡ before.out → Wait s g calls frames f instead → Thrown s f r w g frames env ops e from → Followed before from (flow.caught s.known.program s.graphs f r calls w instead env ops e)
    thrown {from = from} before calls instead same waits (Handled n b inner is it) = subst (Followed before from) (sym (is instead calls)) (begins_at same waits it)
    thrown {from = from} before calls instead same waits (Left is it) = subst (Followed before from) (sym (is instead calls)) (leaves_as same waits it)
    thrown {from = from} before calls instead same waits (Again v inner is has it) = subst (Followed before from) (sym (is instead calls)) (leaves_again same waits has it)

    -- ---- operations

    came : {f : ℕ} {names : List ℕ} {env : List Bound} {o : Op} {ops : List Op} {e : Exit} {w w' : World} {v : Meant} {g : Ghost} {frames : List low.Frame} {from : low.State} {calls : List Frame} {instead : Option Meant}
        → Wait s g calls frames f instead → Came s (Does s f (names ++ o.result ∷ []) ops e) f names env o w v w' g frames from → Moved w from (At f ops e (env ++ bind o.result (Some v) ∷ []) instead calls w')
    came {f = f} {names = names} {env = env} {o = o} {ops = ops} {e = e} {w' = w'} {v = v} {frames = frames} {calls = calls} {instead = instead} waits it = record {
      ghost = it.ghost;
      text = it.text;
      state = low.At it.ops it.exit frames it.end;
      way = it.way;
      stands = Goes f (names ++ o.result ∷ []) ops e (env ++ bind o.result (Some v) ∷ []) instead calls w' it.ops it.exit frames it.end it.rest it.at (wait_grows it.grown waits);
      out = it.out;
    }

    calls_on : {f callee : ℕ} {names : List ℕ} {env : List Bound} {o : Op} {ops : List Op} {e : Exit} {args : List Meant} {other : Option Meant} {w w' : World} {g : Ghost} {frames : List low.Frame} {from : low.State} {calls : List Frame} {instead : Option Meant}
        → Wait s g calls frames f instead → Entered s (Does s f (names ++ o.result ∷ []) ops e) f names env o ops e callee args other w w' g frames from → Moved w from (Calling callee args other (waiting f o ops e env instead ∷ calls) w')
    calls_on {f = f} {callee = callee} {names = names} {env = env} {o = o} {ops = ops} {e = e} {args = args} {other = other} {w = w} {w' = w'} {frames = frames} {calls = calls} {instead = instead} waits it = record {
      ghost = it.ghost;
      text = [];
      state = low.Calling it.number it.xs (it.frame ∷ frames) it.end;
      way = it.way;
      stands = Calls callee it.number it.params args other (waiting f o ops e env instead ∷ calls) w' it.xs (it.frame ∷ frames) it.end it.is it.takes it.passed it.stands it.left
          (Call (waiting f o ops e env instead) names calls it.frame frames callee other it.ghost grown_none it.waits (wait_grows it.grown waits));
      out = it.out ∙ sym (append-nil w.out);
    }

    module _ (f : ℕ) (names : List ℕ) (env : List Bound) (w : World) (g : Ghost) (frames : List low.Frame) (calls : List Frame) (instead : Option Meant) (waits : Wait s g calls frames f instead) where
      follows : (o : Op) (ops : List Op) (e : Exit) (from : low.State) (answer : Answer) → Follows s (Does s f (names ++ o.result ∷ []) ops e) f names env o ops e w g frames from answer → Followed w from (answered s.known.program s.graphs f o ops e env instead calls w answer)
      follows o ops e from (Gave v w') it = came waits it
      follows o ops e from (Threw r w') it = thrown w calls instead it.0 waits it.1
      follows o ops e from (Fails name) it = ends_now refl it
      follows o ops e from Lacks it = ends_now refl it
      follows o ops e from (Enters callee args other w') it = calls_on waits it
      follows o ops e from Bad it = tt

      operated : (o : Op) (ops : List Op) (e : Exit) (written : List LlOp) (ends : LlExit) (core : Core) → IsAt s g f names env w core → Does s f names (o ∷ ops) e written ends → ((vs : List Meant) → values_of env o.args ≡ Some vs → IsGood s.known.program s.made (is_keyed s f o) o.op w vs) → (vs : Option (List Meant)) → values_of env o.args ≡ vs
          → Followed w (low.At written ends frames core) (operates s.known.program s.graphs f o ops e env instead calls w vs)
      operated o ops e written ends core at does good None is = tt
      operated o ops e written ends core at does good (Some vs) is = follows o ops e (low.At written ends frames core) (op s.known.program o.covered o.op vs w) (does frames core g env w vs at is (good vs is))

      -- ---- exits

      module _ (from : low.State) where
        jumping : (link : Link) → Jumps s f link env w g frames from → Followed w from (flow.jump s.graphs f calls w instead env link)
        jumping link it = jumps f link env w g frames from calls instead waits it (block_in (slice_get s.graphs.graphs f) link.to) refl

        chosen : (v : ℕ) (there elsewhere : Link) → Exits s f (exit.If v there elsewhere) env w g frames from → (o : Option Bool) → truth_of w (look env v) ≡ o → Followed w from (chooses s.graphs f calls w instead env there elsewhere o)
        chosen v there elsewhere it None e = tt
        chosen v there elsewhere it (Some true) e = jumping there (it true e)
        chosen v there elsewhere it (Some false) e = jumping elsewhere (it false e)

        gives_back : (v : ℕ) → Exits s f (exit.Return v) env w g frames from → (o : Option Meant) → look env v ≡ o → Followed w from (returns instead calls w o)
        gives_back v it None e = tt
        gives_back v it (Some x) e =
            let r = it x e in
            record {
              ghost = r.ghost;
              text = [];
              state = low.Returning r.x frames r.end;
              way = r.way;
              stands = Gives f x instead calls w r.x frames r.end r.holds r.stands r.left (wait_grows r.grown waits);
              out = sym (append-nil w.out);
            }

        raised : (v : ℕ) → Exits s f (exit.Raise v) env w g frames from → (o : Option Meant) → look env v ≡ o → Followed w from (raises calls w o)
        raised v it None e = tt
        raised v it (Some (Ref r)) e = leaves_as refl waits (it r e)
        raised v it (Some (Word z)) e = tt
        raised v it (Some (Flag b)) e = tt
        raised v it (Some (Text bytes)) e = tt
        raised v it (Some Nothing) e = tt
        raised v it (Some (Tuple vs)) e = tt
        raised v it (Some (Fun h)) e = tt

        leaves : (e : Exit) → Exits s f e env w g frames from → Followed w from (flow.leaves s.known.program s.graphs f e env instead calls w)
        leaves (exit.Goto link) it = jumping link it
        leaves (exit.If v there elsewhere) it = chosen v there elsewhere it (truth_of w (look env v)) refl
        leaves (exit.OnRaise v classes any link) it = jumping link it
        leaves (exit.Return v) it = gives_back v it (look env v) refl
        leaves (exit.Raise v) it = raised v it (look env v) refl

    -- ---- calls

    module _ (f number : ℕ) (function : Function) (params : List Element) (it : BeginsAs s f function params) (args all : List Meant) (g : Ghost) (xs : List Value) (frames : List low.Frame) (core : Core) (w : World) (calls : List Frame) (instead : Option Meant)
        (same : number ≡ it.number) (pass : Passed s function params args g xs) (are : pass.all ≡ all)
        (memory : Represents s.around.layout s.known g w.heap w.left core.blocks core.statics) (left : w.left ≡ core.steps) (waits : Wait s g calls frames f instead) where
      abbrev inside : Core
      inside = record core { function = it.number; block = 0; at = 0; vars = xs ++ replicate (length it.graph.types - length it.graph.params) Unset }

      enters : Way s (low.Calling number xs frames core) [] (low.At (Step (Const (constant.Word (pos 1))) ∷ it.ops) it.first.exit frames inside)
      enters = subst (λ n. Way s (low.Calling n xs frames core) [] (low.At (Step (Const (constant.Word (pos 1))) ∷ it.ops) it.first.exit frames inside)) (sym same)
          (subst (λ ops. Way s (low.Calling it.number xs frames core) [] (low.At ops it.first.exit frames inside)) it.pays (record { most = 0; leads = enter it.stands it.block }))

      poor : core.steps < 1 → Ends s Running w w (low.Calling number xs frames core)
      poor few = record {
        text = [];
        last = low.At (Step (Const (constant.Word (pos 1))) ∷ it.ops) it.first.exit frames inside;
        way = enters;
        over = record {
          last = low.At (Step (Const (constant.Word (pos 1))) ∷ it.ops) it.first.exit frames inside;
          way = stays;
          core = inside;
          ends = lacks s.low s.arguments it.ops it.first.exit frames inside (Const (constant.Word (pos 1))) 1 refl few;
          memory = (g, (core.statics, memory));
        };
        out = sym (append-nil w.out);
      }

      rich : core.steps ≡ 1 + (core.steps - 1) → (b : Block) → block_in (slice_get s.graphs.graphs f) 0 ≡ Some b → Moved w (low.Calling number xs frames core) (At f b.ops b.exit (taken b.inputs all) instead calls (record w { left = w.left - 1 }))
      rich some b first =
          let paid : Way s (low.At (Step (Const (constant.Word (pos 1))) ∷ it.ops) it.first.exit frames inside) [] (low.At it.ops it.first.exit frames (record inside { at = 1; steps = core.steps - 1 })) =
          record { most = 0; leads = pays {ops = it.ops} {e = it.first.exit} {frames = frames} {core = inside} {x = Const (constant.Word (pos 1))} 1 (core.steps - 1) refl some } in
          let less : w.left - 1 ≡ core.steps - 1 = ap (λ n. n - 1) left in
          record {
            ghost = g;
            text = [];
            state = low.At it.ops it.first.exit frames (record inside { at = 1; steps = core.steps - 1 });
            way = way_then enters paid;
            stands = Goes f b.inputs b.ops b.exit (taken b.inputs all) instead calls (record w { left = w.left - 1 }) it.ops it.first.exit frames (record inside { at = 1; steps = core.steps - 1 }) (it.does b first)
                (record {
                  named = taken_named b.inputs all;
                  stands = fewer_steps (omega arith) memory;
                  left = less;
                  variables = subst (λ (vs : List Meant). Stand s g f (taken b.inputs vs) (xs ++ replicate (length it.graph.types - length it.graph.params) Unset)) are (it.takes b args g xs first pass);
                  runs = it.is;
                  room = it.room xs g pass.all pass.hold;
                }) waits;
            out = sym (append-nil w.out);
          }

      begun_at : core.steps ≡ 1 + (core.steps - 1) → (o : Option Block) → block_in (slice_get s.graphs.graphs f) 0 ≡ o → Followed w (low.Calling number xs frames core) (begun f all instead calls (record w { left = w.left - 1 }) o)
      begun_at some None e = tt
      begun_at some (Some b) e = rich some b e

      paying : (poorer : Bool) → nat_lt w.left 1 ≡ poorer → Followed w (low.Calling number xs frames core) (cond poorer (Stops w) (begun f all instead calls (record w { left = w.left - 1 }) (block_in (slice_get s.graphs.graphs f) 0)))
      paying true e = poor (let few : w.left < 1 = grind (arith, nat_tests, e) in omega (arith, few, left))
      paying false e = begun_at (let some : 1 ≤ w.left = grind (arith, nat_tests, e) in omega (arith, some, left)) _ refl

    entering : (f number : ℕ) (params : List Element) (args : List Meant) (g : Ghost) (xs : List Value) (frames : List low.Frame) (core : Core) (w : World) (calls : List Frame) (instead : Option Meant)
        → s.known.graph f ≡ Some number → slice_get s.around.params f ≡ Some params → ((function : Function) → slice_get s.known.program.functions f ≡ Some function → Passed s function params args g xs)
        → Represents s.around.layout s.known g w.heap w.left core.blocks core.statics → w.left ≡ core.steps → Wait s g calls frames f instead
        → (o : Option Function) → slice_get s.known.program.functions f ≡ o → Followed w (low.Calling number xs frames core) (entered s.graphs f args instead calls w o)
    entering f number params args g xs frames core w calls instead is takes pass memory left waits None e = tt
    entering f number params args g xs frames core w calls instead is takes pass memory left waits (Some function) e = by function.takes_more
      where
        it : BeginsAs s f function params
        it = lowered.functions f number function params is e takes

        same : number ≡ it.number
        same = (let a = it.is in cc)

        taken_as : (o : Option (List Meant)) → parameters function.defaults args ≡ o → Followed w (low.Calling number xs frames core) (given s.graphs f instead calls w o)
        taken_as None k = absurd (let a = (pass function e).are in cc)
        taken_as (Some all) k = paying f number function params it args all g xs frames core w calls instead same (pass function e) (let a = (pass function e).are in let b : Some (pass function e).all ≡ Some all = sym a ∙ k in cc) memory left waits (nat_lt w.left 1) refl

        by : (more : Bool) → Followed w (low.Calling number xs frames core) (cond more Strays (given s.graphs f instead calls w (parameters function.defaults args)))
        by true = tt
        by false = taken_as (parameters function.defaults args) refl

    -- ---- what waits

    gives_to : (g : Ghost) (f : ℕ) (v : Meant) (instead : Option Meant) (calls : List Frame) (w : World) (x : Value) (frames : List low.Frame) (core : Core)
        → Holds s.around.layout s.known g (slice_get s.around.results f) x v → Represents s.around.layout s.known g w.heap w.left core.blocks core.statics → w.left ≡ core.steps → Wait s g calls frames f instead → Followed w (low.Returning x frames core) (step s.known.program s.graphs (Returning (unwrap_or instead v) calls w))
    gives_to g f v instead calls w x frames core holds memory left (Entry frame is) = ends_if w w (low.Returning x (frame ∷ []) core) (returned v) refl (is.back core g x v w memory left holds)
    gives_to g f v instead more w x all core holds memory left (Call waits names calls frame frames callee other before grown it rest) = came rest (it.back core g x v w grown memory left holds)

    throws_to : (g : Ghost) (f r : ℕ) (instead : Option Meant) (calls : List Frame) (w : World) (x : Value) (frames : List low.Frame) (core : Core)
        → IsException s g r x → Represents s.around.layout s.known g w.heap w.left core.blocks core.statics → w.left ≡ core.steps → Wait s g calls frames f instead → Followed w (low.Throwing x frames core) (step s.known.program s.graphs (Throwing r calls w))
    throws_to g f r instead calls w x frames core is memory left (Entry frame entry) = ends_if w w (low.Throwing x (frame ∷ []) core) (name_of (slice_get s.known.program.classes (class_in w r))) refl (entry.throws core g x r w memory left is)
    throws_to g f r instead more w x all core is memory left (Call waits names calls frame frames callee other before grown it rest) = thrown w calls waits.instead refl rest (it.throws core g x r w grown memory left is)

    -- ---- each step

    pub steps_are_followed : (g : Ghost) (state : State) (from : low.State) → Stands s g state from → AreGood s.known.program s.graphs s.made (is_keyed s) (truth_known s) state → Followed (world_of state) from (step s.known.program s.graphs state)
    steps_are_followed g state from (Calls f number params args instead calls w xs frames core is takes pass memory left waits) good =
        entering f number params args g xs frames core w calls instead is takes pass memory left waits (slice_get s.known.program.functions f) refl
    steps_are_followed g state from (Goes f names [] e env instead calls w written ends frames core does at waits) good = leaves f names env w g frames calls instead waits (low.At written ends frames core) e (does frames core g env w at (good.tests f e env instead calls w Here))
    steps_are_followed g state from (Goes f names (o ∷ ops) e env instead calls w written ends frames core does at waits) good = operated f names env w g frames calls instead waits o ops e written ends core at does (λ vs. good.operations f o ops e env instead calls w vs Here) (values_of env o.args) refl
    steps_are_followed g state from (Gives f v instead calls w x frames core holds memory left waits) good = gives_to g f v instead calls w x frames core holds memory left waits
    steps_are_followed g state from (Throws f r instead calls w x frames core is memory left waits) good = throws_to g f r instead calls w x frames core is memory left waits
    steps_are_followed g state from (Raises f v r env instead calls w x frames core has is memory left waits) good =
        subst (λ o. Followed w (low.Throwing x frames core) (raises calls w o)) (sym has) (record {
          ghost = g;
          text = [];
          state = low.Throwing x frames core;
          way = stays;
          stands = Throws f r instead calls w x frames core is memory left waits;
          out = sym (append-nil w.out);
        })
