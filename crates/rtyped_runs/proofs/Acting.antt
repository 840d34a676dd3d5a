-- What operations come to, by their laws, as blocks ask it.
use Rattle.std.proofs.Common.{◌≡◌, inl, ℕ, suc, List, [], ◌∷◌, length, Option, Some, None, refl, sym, ap, ◌∙◌, subst, arith}
use Rattle.std.specs.Prelude.{slice_get, unwrap_or}
use Rattle.rpy_base.specs.declared.outcome.FailName.{FailName}
use Rattle.ann_element.specs.declared.element.Element.{Element}
use Rattle.csub_tree.specs.State.{Value, Core}
use Rattle.ll_code.specs.State.{Frame, State}
use Rattle.ll_code.specs.declared.program.LlOp.{LlOp}
use Rattle.ll_code.specs.declared.program.LlExit.{LlExit}
use Rattle.ll_texts.specs.Follows.{FailedAs}
use Rattle.rpy_tree.specs.Value.{Value as Meant}
use Rattle.rpy_meaning.specs.Evaluation.{parameters, with_value}
use Rattle.rpy_meaning.specs.World.{World, Answer, Gives, Throws, Fails, Lacks, Enters, Bad}
use Rattle.flow_graph.specs.declared.graph.Op.{Op}
use Rattle.rtyper_layout.specs.declared.layout.Layout.{Layout}
use Rattle.lower_laws.specs.Done.{Threw as ThrewBy}
use Rattle.lower_laws.specs.Helped.{Lacked as LackedBy}
use Rattle.object_laws.specs.Done.{Came as Done, Follows}
use Rattle.object_laws.specs.Ghost.{Ghost, Grown}
use Rattle.object_laws.specs.Known.{Known}
use Rattle.object_laws.specs.Represents.{Represents}
use Rattle.object_laws.specs.Values.{Holds, AllHold, End, Next}
use Rattle.object_laws.proofs.Growing.{grown_none}
use Rattle.call_laws.specs.Entered.{Entered as EntersBy, FollowsOrEnters}
use Rattle.call_laws.specs.Raised.{Raised as RaisedBy}
use Rattle.run_laws.specs.Points.{Setting, IsException}
use Rattle.block_laws.specs.Operations.{Acts, Gave, Threw, Raised, Failed, Lacked, Called, Resumed, place_of}
use Rattle.rtyped_runs.specs.Laws.{HasParameters}

-- an argument for each parameter
all_long : {layout : Layout} {known : Known} {g : Ghost} {params : List Element} {xs : List Value} {vs : List Meant} → AllHold layout known g params xs vs → length vs ≡ length params
all_long End = refl
all_long (Next held all) = ap suc (all_long all)

full_parameters : (defaults : List (Option Meant)) (vs : List Meant) → length defaults ≡ length vs → parameters defaults vs ≡ Some vs
full_parameters [] [] h = refl
full_parameters [] (v ∷ vs) h = absurd (cc)
full_parameters (d ∷ defaults) [] h = absurd (cc)
full_parameters (None ∷ defaults) (v ∷ vs) h = ap (with_value v) (full_parameters defaults vs (let q : suc (length defaults) ≡ suc (length vs) = h in omega (arith, q)))
full_parameters (Some d ∷ defaults) (v ∷ vs) h = ap (with_value v) (full_parameters defaults vs (let q : suc (length defaults) ≡ suc (length vs) = h in omega (arith, q)))

module _ (s : Setting) (f : ℕ) (o : Op) (below : ℕ) (from : State) (rest : List LlOp) (e : LlExit) (frames : List Frame) (core : Core) (g : Ghost) (w : World) (memory : Represents s.around.layout s.known g w.heap w.left core.blocks core.statics) (same_left : w.left ≡ core.steps) where
  abbrev So : Answer → Type 0
  So = Acts s f o below from rest e frames core g w

  pub gives_so : {blocks most : ℕ} (v : Meant) (w' : World) → Done blocks s.known s.around (place_of s f o.result) s.low s.arguments from rest e frames core g most below w v w' → Gave s f o below from rest e frames core g w v w'
  gives_so {most = most} v w' c = record {
    end = c.end;
    text = c.text;
    way = record { most = most; leads = c.leads };
    out = c.out;
    ghost = c.ghost;
    grown = c.grown;
    stands = c.stands;
    left = sym (ap (λ (k : Core). k.steps) c.memory);
    holds = c.holds;
    keeps = record { others = c.others; room = c.room; function_is = c.function };
  }

  -- memory, and the steps left, are those of before
  still : (end : Core) (w' : World) → w' ≡ w → end.blocks ≡ core.blocks → end.statics ≡ core.statics → Represents s.around.layout s.known g w'.heap w'.left end.blocks end.statics
  still end w' same blocks statics =
      subst (λ (v : World). Represents s.around.layout s.known g v.heap v.left end.blocks end.statics) (sym same)
      (subst (λ bs. Represents s.around.layout s.known g w.heap w.left bs end.statics) (sym blocks) (subst (λ ss. Represents s.around.layout s.known g w.heap w.left core.blocks ss) (sym statics) memory))

  pub throws_so : (r : ℕ) (w' : World) → IsException s g r (s.known.exception r) → ThrewBy s.low s.arguments from rest e frames core (s.known.exception r) below w w' → Threw s f o below from rest e frames core g r w w'
  throws_so r w' is t =
      let same = t.memory in
      record {
        x = s.known.exception r;
        frame = t.frame;
        end = t.end;
        way = record { most = 0; leads = t.leads };
        out = ap (λ (v : World). v.out) t.same;
        ghost = g;
        grown = grown_none;
        is = is;
        stands = still t.end w' t.same (ap (λ (k : Core). k.blocks) same) (ap (λ (k : Core). k.statics) same);
        left = ap (λ (v : World). v.left) t.same ∙ same_left ∙ sym (ap (λ (k : Core). k.steps) same);
        before = t.left;
        ops = t.ops;
        exit = t.exit;
        keeps = record { others = λ n h q. t.others n h; room = t.room; function_is = t.function };
      }

  pub raises_so : (r : ℕ) (w' : World) → RaisedBy s.known.program.classes s.low s.arguments from rest e frames core g r below w w' → Raised s f o below from rest e frames core g r w w'
  raises_so r w' t =
      let same = t.memory in
      record {
        variable = t.variable;
        end = t.end;
        way = record { most = 0; leads = t.leads };
        out = ap (λ (v : World). v.out) t.same;
        ghost = g;
        grown = grown_none;
        is = record { class = t.class; home = t.home; above = t.above };
        stands = still t.end w' t.same (ap (λ (k : Core). k.blocks) same) (ap (λ (k : Core). k.statics) same);
        left = ap (λ (v : World). v.left) t.same ∙ same_left ∙ sym (ap (λ (k : Core). k.steps) same);
        keeps = record { others = λ n h q. t.others n h; room = t.room; function_is = t.function };
      }

  pub fails_so : (name : FailName) → FailedAs s.low s.arguments from name → Failed s f o below from rest e frames core g name
  fails_so name d = record { last = d.last; way = record { most = 0; leads = d.leads }; ends = d.ends }

  pub lacks_so : LackedBy s.low s.arguments from core → Lacked s f o below from rest e frames core g w
  lacks_so d = record {
    last = d.last;
    way = record { most = 0; leads = d.leads };
    ends = d.ends;
    ghost = g;
    statics = core.statics;
    stands = subst (λ bs. Represents s.around.layout s.known g w.heap w.left bs core.statics) (sym d.blocks) memory;
  }

  pub calls_so : HasParameters s → {blocks most : ℕ} (callee : ℕ) (values : List Meant) (instead : Option Meant) (w' : World) → EntersBy blocks s.known s.around (place_of s f o.result) s.low s.arguments from rest e frames core g most below w callee values instead w'
      → Called s f o below from rest e frames core g w callee values instead w'
  calls_so params_fit {most = most} callee values instead w' c =
      let waits = c.waits in
      record {
        number = c.number;
        is = c.graph;
        params = c.params;
        takes = c.takes;
        xs = c.xs;
        frame = c.frame;
        end = c.end;
        way = record { most = most; leads = c.leads };
        out = c.out;
        ghost = c.ghost;
        grown = c.grown;
        stands = c.stands;
        left = sym (ap (λ (k : Core). k.steps) c.memory);
        passed = λ function is. record { all = values; are = full_parameters function.defaults values (params_fit callee function c.params is c.takes ∙ sym (all_long c.passed)); hold = c.passed };
        before = waits.left;
        ops = waits.ops;
        exit = waits.exit;
        keeps = record { others = waits.others; room = waits.room; function_is = waits.function };
        back = back;
      }
    where
      back : (later : Core) (g2 : Ghost) (x : Value) (v : Meant) (w2 : World) → Grown c.ghost g2 → Represents s.around.layout s.known g2 w2.heap w2.left later.blocks later.statics → w2.left ≡ later.steps → Holds s.around.layout s.known g2 (slice_get s.around.results callee) x v
          → Resumed s f o below from rest e frames core g c.frame later g2 x (unwrap_or instead v) w2
      back later g2 x v w2 grown stands left holds =
          let r = c.back later g2 x v grown holds in
          let same = r.memory in
          record {
            end = r.end;
            way = record { most = 0; leads = r.leads };
            ghost = g2;
            grown = grown_none;
            stands = subst (λ bs. Represents s.around.layout s.known g2 w2.heap w2.left bs r.end.statics) (sym (ap (λ (k : Core). k.blocks) same)) (subst (λ ss. Represents s.around.layout s.known g2 w2.heap w2.left later.blocks ss) (sym (ap (λ (k : Core). k.statics) same)) stands);
            left = left ∙ sym (ap (λ (k : Core). k.steps) same);
            holds = r.holds;
            keeps = record { others = r.others; room = r.room; function_is = r.function };
          }

  -- what follows or enters
  pub acts_so : HasParameters s → (blocks most : ℕ) (answer : Answer) → ((r : ℕ) (w' : World) → answer ≡ Throws r w' → IsException s g r (s.known.exception r)) → FollowsOrEnters blocks s.known s.around (place_of s f o.result) s.low s.arguments from rest e frames core g s.known.exception most below w answer → So answer
  acts_so params_fit blocks most (Gives v w') there it = gives_so v w' it
  acts_so params_fit blocks most (Throws r w') there it = inl (throws_so r w' (there r w' refl) it)
  acts_so params_fit blocks most (Fails name) there it = fails_so name it
  acts_so params_fit blocks most Lacks there it = lacks_so it
  acts_so params_fit blocks most (Enters callee values instead w') there it = calls_so params_fit callee values instead w' it
  acts_so params_fit blocks most Bad there it = tt

  -- what enters no function
  pub follows_so : (blocks most : ℕ) (answer : Answer) → ((r : ℕ) (w' : World) → answer ≡ Throws r w' → IsException s g r (s.known.exception r)) → Follows blocks s.known s.around (place_of s f o.result) s.low s.arguments from rest e frames core g s.known.exception most below w answer → So answer
  follows_so blocks most (Gives v w') there it = gives_so v w' it
  follows_so blocks most (Throws r w') there it = inl (throws_so r w' (there r w' refl) it)
  follows_so blocks most (Fails name) there it = fails_so name it
  follows_so blocks most Lacks there it = lacks_so it
  follows_so blocks most (Enters callee values instead w') there it = absurd it
  follows_so blocks most Bad there it = tt
