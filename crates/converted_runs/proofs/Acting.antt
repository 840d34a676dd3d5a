-- What operations come to behind conversions, as blocks ask it.
use Rattle.std.proofs.Common.{◌≡◌, ◌<◌, inl, inr, ℕ, List, [], length, Option, refl, sym, ap, ◌∙◌}
use Rattle.std.specs.Prelude.{slice_get, unwrap_or}
use Rattle.csub_tree.specs.State.{Value, Core}
use Rattle.csub_tree.specs.Statement.{read}
use Rattle.ll_code.specs.State.{Frame, State}
use Rattle.ll_code.specs.declared.program.LlOp.{LlOp}
use Rattle.ll_code.specs.declared.program.LlExit.{LlExit}
use Rattle.rpy_tree.specs.Value.{Value as Meant}
use Rattle.rpy_meaning.specs.World.{World, Answer, Gives, Throws, Fails, Lacks, Enters, Bad}
use Rattle.flow_graph.specs.declared.graph.Op.{Op}
use Rattle.object_laws.specs.Ghost.{Ghost, Grown}
use Rattle.object_laws.specs.Represents.{Represents}
use Rattle.object_laws.specs.Values.{Holds}
use Rattle.object_laws.proofs.Growing.{get_more}
use Rattle.call_conversion_laws.specs.Called as called
use Rattle.dict_conversion_laws.specs.Done as dict
use Rattle.run_laws.specs.Points.{Setting, IsException, Way}
use Rattle.run_laws.proofs.Steps.{grown_both, way_then}
use Rattle.block_laws.specs.Operations.{Acts, Called, Resumed, Keeps, place_of}
use Rattle.rtyped_runs.proofs.Acting.{gives_so, fails_so, lacks_so, throws_so}

-- an exception stays one
pub exception_grows : {s : Setting} {old new : Ghost} {r : ℕ} {x : Value} → Grown old new → IsException s old r x → IsException s new r x
exception_grows {old = old} {new = new} {r = r} grown is = record { class = is.class; home = ap (λ hs. slice_get hs r) grown.homes ∙ get_more old.homes grown.objects r _ is.home; above = is.above }

-- ---- behind operations that keep the heap

module _ (s : Setting) (f : ℕ) (o : Op) (below : ℕ) (from mid : State) (rest : List LlOp) (e : LlExit) (frames : List Frame) (core middle : Core) (g ghost : Ghost) (way : Way s from [] mid) (grown : Grown g ghost)
    (others : (n : ℕ) → n < below → read middle.vars n ≡ read core.vars n) (room : length middle.vars ≡ length core.vars) (function : middle.function ≡ core.function) where
  keeps_on : {vars : List Value} {graph : ℕ} → Keeps s f o below mid rest e frames middle ghost vars graph → Keeps s f o below from rest e frames core g vars graph
  keeps_on k = record { others = λ n h q. k.others n h q ∙ others n h; room = k.room ∙ room; function_is = k.function_is ∙ function }

  pub acts_behind : (w : World) (answer : Answer) → Acts s f o below mid rest e frames middle ghost w answer → Acts s f o below from rest e frames core g w answer
  acts_behind w (Gives v w') c = record { end = c.end; text = c.text; way = way_then s way c.way; out = c.out; ghost = c.ghost; grown = grown_both grown c.grown; stands = c.stands; left = c.left; holds = c.holds; keeps = keeps_on c.keeps }
  acts_behind w (Throws r w') (inl t) = inl (record { x = t.x; frame = t.frame; end = t.end; way = way_then s way t.way; out = t.out; ghost = t.ghost; grown = grown_both grown t.grown; is = t.is; stands = t.stands; left = t.left; before = t.before; ops = t.ops; exit = t.exit; keeps = keeps_on t.keeps })
  acts_behind w (Throws r w') (inr t) = inr (record { variable = t.variable; end = t.end; way = way_then s way t.way; out = t.out; ghost = t.ghost; grown = grown_both grown t.grown; is = t.is; stands = t.stands; left = t.left; keeps = keeps_on t.keeps })
  acts_behind w (Fails name) d = record { last = d.last; way = way_then s way d.way; ends = d.ends }
  acts_behind w Lacks d = record { last = d.last; way = way_then s way d.way; ends = d.ends; ghost = d.ghost; statics = d.statics; stands = d.stands }
  acts_behind w (Enters callee values instead w') c = record {
    number = c.number;
    is = c.is;
    params = c.params;
    takes = c.takes;
    xs = c.xs;
    frame = c.frame;
    end = c.end;
    way = way_then s way c.way;
    out = c.out;
    ghost = c.ghost;
    grown = grown_both grown c.grown;
    stands = c.stands;
    left = c.left;
    passed = c.passed;
    before = c.before;
    ops = c.ops;
    exit = c.exit;
    keeps = keeps_on c.keeps;
    back = λ later g2 x v w2 more stands left holds.
        let r = c.back later g2 x v w2 more stands left holds in
        record { end = r.end; way = r.way; ghost = r.ghost; grown = r.grown; stands = r.stands; left = r.left; holds = r.holds; keeps = keeps_on r.keeps };
  }
  acts_behind w Bad it = tt

-- ---- calls and dicts

module _ (s : Setting) (f : ℕ) (o : Op) (below : ℕ) (from : State) (rest : List LlOp) (e : LlExit) (frames : List Frame) (core : Core) (g : Ghost) (w : World) (memory : Represents s.around.layout s.known g w.heap w.left core.blocks core.statics) (same_left : w.left ≡ core.steps) where
  abbrev So : Answer → Type 0
  So = Acts s f o below from rest e frames core g w

  calls_on : {blocks most : ℕ} (callee : ℕ) (values : List Meant) (instead : Option Meant) (w' : World) → called.Called blocks s.known s.around (place_of s f o.result) s.low s.arguments from rest e frames core g most below w callee values instead w'
      → Called s f o below from rest e frames core g w callee values instead w'
  calls_on {most = most} callee values instead w' c =
      let waits = c.waits in
      record {
        number = c.number;
        is = c.graph;
        params = c.params;
        takes = c.takes;
        xs = c.xs;
        frame = c.frame;
        end = c.end;
        way = record { most = most; leads = c.leads };
        out = c.out;
        ghost = c.ghost;
        grown = c.grown;
        stands = c.stands;
        left = sym (ap (λ (k : Core). k.steps) c.memory);
        passed = λ function is. let k = c.passed function is in record { all = k.all; are = k.are; hold = k.hold };
        before = waits.left;
        ops = waits.ops;
        exit = waits.exit;
        keeps = record { others = waits.others; room = waits.room; function_is = waits.function };
        back = back;
      }
    where
      back : (later : Core) (g2 : Ghost) (x : Value) (v : Meant) (w2 : World) → Grown c.ghost g2 → Represents s.around.layout s.known g2 w2.heap w2.left later.blocks later.statics → w2.left ≡ later.steps → Holds s.around.layout s.known g2 (slice_get s.around.results callee) x v
          → Resumed s f o below from rest e frames core g c.frame later g2 x (unwrap_or instead v) w2
      back later g2 x v w2 grown stands left holds =
          let r = c.back later g2 x v w2 grown stands left holds in
          record {
            end = r.end;
            way = record { most = _; leads = r.leads };
            ghost = r.ghost;
            grown = r.grown;
            stands = r.stands;
            left = left ∙ sym (ap (λ (k : Core). k.steps) r.memory);
            holds = r.holds;
            keeps = record { others = r.others; room = r.room; function_is = r.function };
          }

  pub acts_called : (blocks most : ℕ) (answer : Answer) → ((r : ℕ) (w' : World) → answer ≡ Throws r w' → IsException s g r (s.known.exception r)) → called.FollowsOrCalls blocks s.known s.around (place_of s f o.result) s.low s.arguments from rest e frames core g s.known.exception most below w answer → So answer
  acts_called blocks most (Gives v w') there it = gives_so s f o below from rest e frames core g w memory same_left v w' it
  acts_called blocks most (Throws r w') there it = inl (throws_so s f o below from rest e frames core g w memory same_left r w' (there r w' refl) it)
  acts_called blocks most (Fails name) there it = fails_so s f o below from rest e frames core g w memory same_left name it
  acts_called blocks most Lacks there it = lacks_so s f o below from rest e frames core g w memory same_left it
  acts_called blocks most (Enters callee values instead w') there it = calls_on callee values instead w' it
  acts_called blocks most Bad there it = tt

  pub acts_dict : (blocks most : ℕ) (answer : Answer) → ((r : ℕ) (w' : World) → answer ≡ Throws r w' → IsException s g r (s.known.exception r)) → dict.Follows blocks s.known s.around (place_of s f o.result) s.low s.arguments from rest e frames core g s.known.exception most below w answer → So answer
  acts_dict blocks most (Gives v w') there it = gives_so s f o below from rest e frames core g w memory same_left v w' it
  acts_dict blocks most (Throws r w') there t = inl (record {
    x = s.known.exception r;
    frame = t.frame;
    end = t.end;
    way = record { most = most; leads = t.leads };
    out = ap (λ (v : World). v.out) t.same;
    ghost = t.ghost;
    grown = t.grown;
    is = exception_grows t.grown (there r w' refl);
    stands = t.stands;
    left = ap (λ (v : World). v.left) t.same ∙ same_left ∙ sym (ap (λ (k : Core). k.steps) t.memory);
    before = t.left;
    ops = t.ops;
    exit = t.exit;
    keeps = record { others = λ n h q. t.others n h; room = t.room; function_is = t.function };
  })
  acts_dict blocks most (Fails name) there d = record { last = d.last; way = record { most = most; leads = d.leads }; ends = d.ends }
  acts_dict blocks most Lacks there d = record { last = d.last; way = record { most = most; leads = d.leads }; ends = d.ends; ghost = d.ghost; statics = core.statics; stands = d.stands }
  acts_dict blocks most (Enters callee values instead w') there it = absurd it
  acts_dict blocks most Bad there it = tt
