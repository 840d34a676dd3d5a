-- A call behind a way that changes variables alone.
use Rattle.std.proofs.Common.{◌≡◌, ◌≤◌, ℕ, zero, suc, ◌+◌, Bool, true, false, List, [], ◌∷◌, length, Option, Some, refl, ap, ◌∙◌, arith}
use Rattle.std.specs.Prelude.{slice_get, unwrap_or}
use Rattle.ann_element.specs.declared.element.Element.{Element}
use Rattle.csub_tree.specs.State.{Value, Core}
use Rattle.csub_tree.specs.declared.tree.COperand.{COperand}
use Rattle.ll_code.specs.State.{Frame, State}
use Rattle.ll_code.specs.declared.program.LlOp.{LlOp}
use Rattle.ll_code.specs.declared.program.LlExit.{LlExit}
use Rattle.ll_code.specs.declared.program.LlType.{LlType}
use Rattle.ll_code.specs.declared.program.LlType.TheVariants as type
use Rattle.ll_code.specs.declared.program.LlProgram.{LlProgram}
use Rattle.ll_leads.specs.Path.{Leads}
use Rattle.ll_leads.proofs.Joined.{leads_then, leads_more}
use Rattle.ll_build.specs.declared.needs.Numbers.{Numbers}
use Rattle.rpy_meaning.specs.World.{World as MeantWorld}
use Rattle.rpy_meaning.specs.declared.row.Covers.{Covers}
use Rattle.rpy_resolved.specs.declared.tree.Function.{Function}
use Rattle.rpy_tree.specs.Value.{Value as Meant}
use Rattle.rtyper_layout.specs.Types.{type_seen}
use Rattle.rtyper_op.specs.Calls.{argument_if}
use Rattle.rtyper_data.specs.declared.found.Found.{Found}
use Rattle.rtyper_data.specs.Converting.{value_as}
use Rattle.rtyper_data.specs.Seen.{Around, Operand, Place, Writing}
use Rattle.rtyper_class.specs.Seen.{World}
use Rattle.object_laws.specs.Done.{AllAsked}
use Rattle.object_laws.specs.Ghost.{Ghost, Grown}
use Rattle.object_laws.specs.Known.{Known}
use Rattle.object_laws.specs.Represents.{Represents}
use Rattle.object_laws.specs.Values.{Holds}
use Rattle.object_laws.proofs.Passing.{Passed}
use Rattle.class_laws.specs.Asked.{Has as HasOther}
use Rattle.class_laws.specs.Instances.{present_asks}
use Rattle.call_conversion_laws.specs.Called.{Has, Resumes, Called}
use Rattle.call_conversion_laws.proofs.Arguments.{IsLike}

pub called_behind : {blocks : ℕ} {known : Known} {around : Around} {place : Place} {p : LlProgram} {args : List (List ℕ)} {s t : State} {rest : List LlOp} {e : LlExit} {frames : List Frame} {core mid : Core} {g : Ghost} {most below above : ℕ} {w : MeantWorld} {f : ℕ} {vs : List Meant} {instead : Option Meant} {w' : MeantWorld}
    → below ≤ above → Passed below core mid → Leads p args 0 s [] t → Called blocks known around place p args t rest e frames mid g most above w f vs instead w' → Called blocks known around place p args s rest e frames core g most below w f vs instead w'
called_behind {known = known} {around = around} {place = place} {p = p} {args = args} {rest = rest} {e = e} {frames = frames} {core = core} {mid = mid} {most = most} {below = below} {f = f} {instead = instead} {w' = w'} h passed way c = record {
  number = c.number;
  graph = c.graph;
  params = c.params;
  takes = c.takes;
  xs = c.xs;
  frame = c.frame;
  end = c.end;
  leads = leads_more (0 + most) most (omega arith) (leads_then way c.leads);
  ghost = c.ghost;
  grown = c.grown;
  stands = c.stands;
  passed = c.passed;
  few = (let few = c.few in let same : length mid.blocks ≡ length core.blocks = ap (λ (c : Core). length c.blocks) passed.memory in omega (arith, few, same));
  memory = c.memory ∙ ap (λ (m : Core). record m { blocks = c.end.blocks; statics = c.end.statics; steps = w'.left }) passed.memory;
  out = c.out;
  waits = record {
    left = c.waits.left;
    ops = c.waits.ops;
    exit = c.waits.exit;
    others = λ n under other. c.waits.others n (omega (arith, under, h)) other ∙ passed.others n under;
    room = c.waits.room ∙ passed.room;
    function = c.waits.function ∙ passed.function;
    block = c.waits.block ∙ passed.block;
  };
  back = back;
}
  where
    back : (later : Core) (g2 : Ghost) (x : Value) (v : Meant) (w2 : MeantWorld) → Grown c.ghost g2 → Represents around.layout known g2 w2.heap w2.left later.blocks later.statics → w2.left ≡ later.steps → Holds around.layout known g2 (slice_get around.results f) x v
        → Resumes known around place p args rest e frames core below c.frame later g2 x (unwrap_or instead v) w2
    back later g2 x v w2 more stands steps held =
        let r = c.back later g2 x v w2 more stands steps held in
        record {
          end = r.end;
          leads = r.leads;
          ghost = r.ghost;
          grown = r.grown;
          stands = r.stands;
          few = r.few;
          memory = r.memory;
          holds = r.holds;
          others = λ n under other. r.others n (omega (arith, under, h)) other ∙ passed.others n under;
          room = r.room ∙ passed.room;
          function = r.function ∙ passed.function;
          block = r.block ∙ passed.block;
        }

-- ---- the first operand

-- an operand of which something else is known is written as it is, where the types are one
same_argument : (around : Around) (function : Option Function) (i : ℕ) (x : COperand) (seen other : Option Element) (t : LlType) (w : Writing) → type_seen around.layout seen ≡ type_seen around.layout other
    → argument_if around function i (Some (record { x = x; element = seen })) t w ≡ argument_if around function i (Some (record { x = x; element = other })) t w
unfolding argument_if
same_argument around function i x seen other type.Void w h = refl
same_argument around function i x seen other type.Signed w h = ap (λ s. ((value_as around.layout x s type.Signed w).0 ∷ [], (value_as around.layout x s type.Signed w).1)) h
same_argument around function i x seen other type.Char w h = ap (λ s. ((value_as around.layout x s type.Char w).0 ∷ [], (value_as around.layout x s type.Char w).1)) h
same_argument around function i x seen other type.Bool w h = ap (λ s. ((value_as around.layout x s type.Bool w).0 ∷ [], (value_as around.layout x s type.Bool w).1)) h
same_argument around function i x seen other type.Fn w h = ap (λ s. ((value_as around.layout x s type.Fn w).0 ∷ [], (value_as around.layout x s type.Fn w).1)) h
same_argument around function i x seen other (type.Ptr n) w h = ap (λ s. ((value_as around.layout x s (type.Ptr n) w).0 ∷ [], (value_as around.layout x s (type.Ptr n) w).1)) h

pub first_like : (around : Around) (function : Option Function) (x : COperand) (seen other : Option Element) (args : List Operand) → type_seen around.layout seen ≡ type_seen around.layout other
    → IsLike around function (record { x = x; element = seen } ∷ args) 0 (record { x = x; element = other } ∷ args)
first_like around function x seen other args h k t w = ap (λ n. argument_if around function (0 + k) (slice_get (record { x = x; element = seen } ∷ args) n) t w) (let z : 0 + k ≡ k = omega arith in z) ∙ by k
  where
    by : (k : ℕ) → argument_if around function (0 + k) (slice_get (record { x = x; element = seen } ∷ args) k) t w ≡ argument_if around function (0 + k) (slice_get (record { x = x; element = other } ∷ args) k) t w
    by zero = same_argument around function (0 + 0) x seen other t w h
    by (suc k) = refl

-- what is asked for whether it is there
pub present_had : (world : World) (p : LlProgram) (numbers : Numbers) (raised : ℕ → Value) (core : Core) (a : Operand) (r : Bool) (covers : Covers) (found : Found) → AllAsked (Has world p numbers raised core) (present_asks world a r covers) found → AllAsked (HasOther world p numbers raised core) (present_asks world a r covers) found
present_had world p numbers raised core a true covers found h = h
present_had world p numbers raised core a false covers found h = h
