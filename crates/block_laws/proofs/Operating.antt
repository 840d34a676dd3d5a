-- Operations of a block.
use Rattle.std.proofs.Common.{◌≡◌, ◌≤◌, ◌⊎◌, inl, inr, ℕ, ◌+◌, false, List, [], ◌∷◌, ◌++◌, Option, Some, refl, sym, ap, ◌∙◌, arith}
use Rattle.std.specs.Prelude.{cond, slice_get, unwrap_or}
use Rattle.std.proofs.lemmas.List.{append-nil}
use Rattle.rpy_base.specs.declared.outcome.FailName.{FailName}
use Rattle.rpy_base.specs.declared.outcome.Outcome.TheVariants as outcome
use Rattle.csub_tree.specs.declared.stuck.StuckReason.TheVariants.{Unset as IsUnset}
use Rattle.csub_tree.specs.State.{Value, Core}
use Rattle.csub_tree.specs.Statement.{read}
use Rattle.csub_tree.specs.Operation.{is_unset}
use Rattle.ll_code.specs.State.{Frame, State, At, Returning, Throwing, Goes, Sticks}
use Rattle.ll_code.specs.Machine.{caught, resumed}
use Rattle.ll_code.specs.declared.program.LlOp.{LlOp}
use Rattle.ll_code.specs.declared.program.LlOp.TheVariants.{Raise}
use Rattle.ll_code.specs.declared.program.LlExit.{LlExit}
use Rattle.ll_held.specs.Roots.{core_of}
use Rattle.ll_live.specs.Live.{among}
use Rattle.ll_leads.proofs.Ways.{one}
use Rattle.rpy_tree.specs.Value.{Value as Meant}
use Rattle.rpy_meaning.specs.Operations.{op}
use Rattle.rpy_meaning.specs.World.{World, Answer, Gives, Throws, Fails, Lacks, Enters, Bad}
use Rattle.flow_graph.specs.declared.graph.Exit.{Exit}
use Rattle.flow_graph.specs.declared.graph.Op.{Op}
use Rattle.flow_meaning.specs.Machine.{Bound, bind, values_of}
use Rattle.object_laws.specs.Ghost.{Ghost, Grown}
use Rattle.object_laws.specs.Represents.{Represents}
use Rattle.object_laws.specs.Values.{Holds}
use Rattle.object_laws.proofs.Growing.{grown_none}
use Rattle.object_laws.proofs.Blocks.{found_set}
use Rattle.flow_runs.specs.Good.{IsGood}
use Rattle.run_laws.specs.Points.{Setting, is_keyed, names_of, IsAt, Way, IsException}
use Rattle.run_laws.specs.Does.{Does, Came, Thrown, Left, Again, Leaves, Entered, Over, Follows as FollowsSo}
use Rattle.run_laws.proofs.Steps.{grown_both, way_then}
use Rattle.block_laws.specs.Operations.{AreRead, HasTypes, IsOperation, IsUncaught, Escapes, AtOnce, ByBlock, CatchesNothing, NeverGives, Acts, Gave, Threw, Raised, Failed, Lacked, Called, OperationsAreFollowed}
use Rattle.block_laws.proofs.Variables.{names_more, stand_more, none_given, operands_given}

module _ (s : Setting) (f : ℕ) (names : List ℕ) (o : Op) (ops : List Op) (e : Exit) (below new : ℕ) (written rest : List LlOp) (ends : LlExit)
    (types : HasTypes s f below) (does_it : IsOperation s f o below new written) (are_read : AreRead s f o.args) (room : below + new ≤ s.size f) (fresh : among o.result names ≡ false) (uncaught : IsUncaught s f names ops e) (catches : CatchesNothing s ends)
    (behind : NeverGives s f o ⊎ Does s f (names ++ o.result ∷ []) ops e rest ends)
    (frames : List Frame) (core : Core) (g : Ghost) (env : List Bound) (w : World) (vs : List Meant) (at : IsAt s g f names env w core) (args : values_of env o.args ≡ Some vs) (good : IsGood s.known.program s.made (is_keyed s f o) o.op w vs) where
  abbrev Rest : List LlOp → LlExit → Type 0
  Rest = Does s f (names ++ o.result ∷ []) ops e

  abbrev here : State
  here = At (written ++ rest) ends frames core

  new_name : among o.result (names_of env) ≡ false
  new_name = ap (among o.result) at.named ∙ fresh

  named_more : (value : Option Meant) → names_of (env ++ bind o.result value ∷ []) ≡ names ++ o.result ∷ []
  named_more value = names_more env (bind o.result value) ∙ ap (λ ns. ns ++ o.result ∷ []) at.named

  -- what stands behind is next where a value is given
  goes_behind : {g2 : Ghost} {x : Value} {v : Meant} → Holds s.around.layout s.known g2 (s.element f o.result) x v → Rest rest ends
  goes_behind {g2 = g2} {x = x} {v = v} held = by behind
    where
      by : NeverGives s f o ⊎ Does s f (names ++ o.result ∷ []) ops e rest ends → Rest rest ends
      by (inl never) = absurd (never g2 x v held)
      by (inr does) = does

  -- ---- what is thrown

  escapes : {from : State} (r : ℕ) (w' : World) (g2 : Ghost) → Leaves s r w' g2 frames from → Escapes s f r w' env ops e → Thrown s f r w' g2 frames env ops e from
  escapes r w' g2 it (AtOnce is) = Left is it
  escapes r w' g2 it (ByBlock v inner is has) = Again v inner is has it

  -- out of what is left of the block nothing catches it
  comes_out : (x : Value) (left : List LlOp) (later : Core) → caught s.low x (left ++ rest) ends frames later ≡ Goes (Throwing x frames later)
  comes_out x left later = by (left ++ rest)
    where
      by : (l : List LlOp) → caught s.low x l ends frames later ≡ Goes (Throwing x frames later)
      by [] = catches x frames later
      by (a ∷ l) = refl

  flies : (x : Value) (frame : Frame) (left : List LlOp) (later : Core) → frame.ops ≡ left ++ rest → frame.exit ≡ ends → Way s (Throwing x (frame ∷ frames) later) [] (Throwing x frames (resumed frame later))
  flies x frame left later is ends_so = record {
    most = 0;
    leads = one (ap (λ l. caught s.low x l frame.exit frames (resumed frame later)) is ∙ ap (λ k. caught s.low x (left ++ rest) k frames (resumed frame later)) ends_so ∙ comes_out x left (resumed frame later)) refl;
  }

  threw : (r : ℕ) (w' : World) → Threw s f o below here rest ends frames core g r w w' → (w'.out ≡ w.out) × Thrown s f r w' g frames env ops e here
  threw r w' t = (
    t.out,
    escapes r w' g (record {
      x = t.x;
      end = resumed t.frame t.end;
      way = way_then s t.way (flies t.x t.frame t.before t.end t.ops t.exit);
      ghost = t.ghost;
      grown = t.grown;
      is = t.is;
      stands = t.stands;
      left = t.left;
    }) (uncaught r w' env at.named),
  )

  raised : (r : ℕ) (w' : World) → Raised s f o below here rest ends frames core g r w w' → (w'.out ≡ w.out) × Thrown s f r w' g frames env ops e here
  raised r w' t =
      let is = t.is in
      let set : is_unset (read t.end.vars t.variable) ≡ false = found_set t.end.blocks t.end.statics (read t.end.vars t.variable) _ (t.stands.instances is.class r (read t.end.vars t.variable) is.home).block_is in
      let goes : Way s (At (Raise t.variable ∷ rest) ends frames t.end) [] (Throwing (read t.end.vars t.variable) frames t.end) = record {
        most = 0;
        leads = one (ap (λ b. cond b (Sticks IsUnset) (caught s.low (read t.end.vars t.variable) rest ends frames t.end)) set ∙ comes_out (read t.end.vars t.variable) [] t.end) refl;
      } in (
        t.out,
        escapes r w' g (record {
          x = read t.end.vars t.variable;
          end = t.end;
          way = way_then s t.way goes;
          ghost = t.ghost;
          grown = t.grown;
          is = is;
          stands = t.stands;
          left = t.left;
        }) (uncaught r w' env at.named),
      )

  -- ---- what is done

  gave : (v : Meant) (w' : World) → Gave s f o below here rest ends frames core g w v w' → Came s Rest f names env o w v w' g frames here
  gave v w' c =
      let kept = c.keeps in
      record {
        ops = rest;
        exit = ends;
        rest = goes_behind c.holds;
        text = c.text;
        end = c.end;
        way = c.way;
        out = c.out;
        ghost = c.ghost;
        grown = c.grown;
        at = record {
          named = named_more (Some v);
          stands = c.stands;
          left = c.left;
          variables = stand_more s f below types o.result v c.grown new_name at.variables kept.others c.holds;
          runs = at.runs ∙ ap Some (sym kept.function_is);
          room = kept.room ∙ at.room;
        };
      }

  over_failed : (name : FailName) → Failed s f o below here rest ends frames core g name → Over s (outcome.Failed name) w here
  over_failed name d = record { last = d.last; way = d.way; core = core_of d.last; ends = d.ends; memory = tt }

  over_lacked : Lacked s f o below here rest ends frames core g w → Over s outcome.Running w here
  over_lacked d = record { last = d.last; way = d.way; core = core_of d.last; ends = d.ends; memory = (d.ghost, (d.statics, d.stands)) }

  entered : (callee : ℕ) (values : List Meant) (instead : Option Meant) (w' : World) → Called s f o below here rest ends frames core g w callee values instead w' → Entered s Rest f names env o ops e callee values instead w w' g frames here
  entered callee values instead w' c = record {
    number = c.number;
    is = c.is;
    params = c.params;
    takes = c.takes;
    xs = c.xs;
    frame = c.frame;
    end = c.end;
    way = c.way;
    out = c.out;
    ghost = c.ghost;
    grown = c.grown;
    stands = c.stands;
    left = c.left;
    passed = c.passed;
    waits = record { back = back; throws = throws };
  }
    where
      back : (later : Core) (g2 : Ghost) (x : Value) (v : Meant) (w2 : World) → Grown c.ghost g2 → Represents s.around.layout s.known g2 w2.heap w2.left later.blocks later.statics → w2.left ≡ later.steps → Holds s.around.layout s.known g2 (slice_get s.around.results callee) x v
          → Came s Rest f names env o w2 (unwrap_or instead v) w2 g2 frames (Returning x (c.frame ∷ frames) later)
      back later g2 x v w2 grown stands left holds =
          let r = c.back later g2 x v w2 grown stands left holds in
          let kept = r.keeps in
          record {
            ops = rest;
            exit = ends;
            rest = goes_behind r.holds;
            text = [];
            end = r.end;
            way = r.way;
            out = sym (append-nil w2.out);
            ghost = r.ghost;
            grown = r.grown;
            at = record {
              named = named_more (Some (unwrap_or instead v));
              stands = r.stands;
              left = r.left;
              variables = stand_more s f below types o.result (unwrap_or instead v) (grown_both c.grown (grown_both grown r.grown)) new_name at.variables kept.others r.holds;
              runs = at.runs ∙ ap Some (sym kept.function_is);
              room = kept.room ∙ at.room;
            };
          }

      throws : (later : Core) (g2 : Ghost) (x : Value) (r : ℕ) (w2 : World) → Grown c.ghost g2 → Represents s.around.layout s.known g2 w2.heap w2.left later.blocks later.statics → w2.left ≡ later.steps → IsException s g2 r x
          → Thrown s f r w2 g2 frames env ops e (Throwing x (c.frame ∷ frames) later)
      throws later g2 x r w2 grown stands left is = escapes r w2 g2 (record {
        x = x;
        end = resumed c.frame later;
        way = flies x c.frame c.before later c.ops c.exit;
        ghost = g2;
        grown = grown_none;
        is = is;
        stands = stands;
        left = left;
      }) (uncaught r w2 env at.named)

  follows_so : (answer : Answer) → Acts s f o below here rest ends frames core g w answer → FollowsSo s Rest f names env o ops e w g frames here answer
  follows_so (Gives v w') it = gave v w' it
  follows_so (Throws r w') (inl it) = threw r w' it
  follows_so (Throws r w') (inr it) = raised r w' it
  follows_so (Fails name) it = over_failed name it
  follows_so Lacks it = over_lacked it
  follows_so (Enters callee values instead w') it = entered callee values instead w' it
  follows_so Bad it = tt

  pub operation_followed : FollowsSo s Rest f names env o ops e w g frames here (op s.known.program o.covered o.op vs w)
  operation_followed = by are_read
    where
      by : AreRead s f o.args → FollowsSo s Rest f names env o ops e w g frames here (op s.known.program o.covered o.op vs w)
      by (inl free) = follows_so (op s.known.program o.covered o.op vs w) (does_it rest ends frames core g w vs at.stands at.left (let r = at.room in omega (arith, r, room)) (operands_given s f g env core at.variables o.args vs free args) good)
      by (inr never) = absurd (none_given s f g env core at.variables o.args vs never args)

pub operations_are_followed : OperationsAreFollowed
operations_are_followed s f names o ops e below new written rest ends types does_it are_read room fresh uncaught catches behind frames core g env w vs at args good =
    operation_followed s f names o ops e below new written rest ends types does_it are_read room fresh uncaught catches behind frames core g env w vs at args good
