-- An instance that has to be there: `None` fails, or raises.
use Rattle.std.proofs.Common.{◌≡◌, ◌≤◌, ℕ, ◌+◌, ◌||◌, Bool, true, false, List, [], ◌∷◌, ◌++◌, length, Some, Ok, refl, sym, ap, ◌∙◌, arith}
use Rattle.std.proofs.lemmas.List.{append-nil}
use Rattle.rpy_base.specs.declared.outcome.FailName.TheVariants as fail
use Rattle.csub_tree.specs.State.{Value, Flag, Null, Core}
use Rattle.csub_tree.specs.Operation.{is_unset, compared}
use Rattle.csub_tree.specs.Statement.{operand}
use Rattle.csub_tree.specs.declared.tree.COperand.{COperand}
use Rattle.csub_tree.specs.declared.tree.COperand.TheVariants.{Var, Const}
use Rattle.ll_code.specs.State.{Frame, At}
use Rattle.ll_code.specs.declared.program.LlType.{LlType}
use Rattle.ll_code.specs.declared.program.LlOp.{LlOp}
use Rattle.ll_code.specs.declared.program.LlOp.TheVariants as op
use Rattle.ll_code.specs.declared.program.LlExit.{LlExit}
use Rattle.ll_code.specs.declared.program.LlProgram.{LlProgram}
use Rattle.ll_build.specs.declared.needs.Numbers.{Numbers}
use Rattle.ll_leads.specs.Path.{Leads}
use Rattle.ll_leads.proofs.Ways.{call, rests}
use Rattle.rpy_meaning.specs.World.{World as MeantWorld, failure}
use Rattle.rtyper_data.specs.declared.found.Found.{Found}
use Rattle.rtyper_data.specs.declared.small.Small.TheVariants as small
use Rattle.rtyper_data.specs.Converting.{by_small, present}
use Rattle.rtyper_data.specs.Finding.{small_number}
use Rattle.rtyper_data.specs.Seen.{Operand, Place, type_of, Writing, writing}
use Rattle.rtyper_class.specs.Seen.{World}
use Rattle.lower_laws.specs.Asked.{Ask, all_asked, number_of, HasSmall}
use Rattle.lower_laws.specs.Values.{IsBelow}
use Rattle.lower_laws.proofs.Doing.{after}
use Rattle.list_laws.specs.Lists.{if_missing}
use Rattle.list_laws.proofs.Indexed.{number_covers}
use Rattle.object_laws.specs.Done.{AllAsked, Follows}
use Rattle.object_laws.specs.Ghost.{Ghost}
use Rattle.object_laws.specs.Known.{Known}
use Rattle.object_laws.proofs.Passing.{Passed, none_passed, sets_more, is_set_at, throws_at, fails_at}
use Rattle.object_laws.proofs.Present.{present_comes, present_flies, present_fails}
use Rattle.class_laws.specs.Asked.{Has}
use Rattle.class_laws.specs.Instances.{present_asks}

-- ---- what is asked for

pub first_asked : (Holds : Ask → Found → Type 0) (asks more : List Ask) (found : Found) → AllAsked Holds (asks ++ more) found → AllAsked Holds asks found
first_asked Holds [] more found h = tt
first_asked Holds (a ∷ asks) more found h = (h.0, first_asked Holds asks more (number_of a found).1 h.1)

pub more_asked : (Holds : Ask → Found → Type 0) (asks more : List Ask) (found : Found) → AllAsked Holds (asks ++ more) found → AllAsked Holds more (all_asked asks found)
more_asked Holds [] more found h = h
more_asked Holds (a ∷ asks) more found h = more_asked Holds asks more (number_of a found).1 h.1

pub present_covers : (t : LlType) (r : Bool) (found : Found) → (all_asked (if_missing r t found.covered) found).covered ≡ found.covered
present_covers t true found = number_covers (small.Present t found.covered.attribute) found
present_covers t false found = refl

-- ---- what is written for it, and what that does

pub record Present (world : World) (a : Operand) (r : Bool) (w : Writing) : Type 0 where
  pub x : COperand
  pub ops : List LlOp
  pub new : List LlType
  pub written : present world.around a r w ≡ (x, writing (all_asked (present_asks world a r w.found.covered) w.found) (record { types = w.body.types ++ new; ops = w.body.ops ++ ops }))
  pub below : IsBelow (length w.body.types) a.x → IsBelow (length w.body.types + length new) x
  pub enters : (p : LlProgram) (numbers : Numbers) (raised : ℕ → Value) (arguments : List (List ℕ)) (rest : List LlOp) (e : LlExit) (frames : List Frame) (core : Core)
      → AllAsked (Has world p numbers raised core) (present_asks world a r w.found.covered) w.found → length w.body.types + length new ≤ length core.vars
      → is_unset (operand core.vars a.x) ≡ false → compared (operand core.vars a.x) Null ≡ Ok (Flag false)
      → (mid : Core) × Leads p arguments 0 (At (ops ++ rest) e frames core) [] (At rest e frames mid) × Passed (length w.body.types) core mid × (operand mid.vars x ≡ operand core.vars a.x)
  pub misses : (count : ℕ) (known : Known) (place : Place) (p : LlProgram) (numbers : Numbers) (raised : ℕ → Value) (arguments : List (List ℕ)) (later rest : List LlOp) (e : LlExit) (frames : List Frame) (core : Core) (g : Ghost) (most : ℕ) (meant : MeantWorld)
      → AllAsked (Has world p numbers raised core) (present_asks world a r w.found.covered) w.found → r ≡ true → operand core.vars a.x ≡ Null
      → Follows count known world.around place p arguments (At (ops ++ (later ++ rest)) e frames core) rest e frames core g raised most (length w.body.types) meant (failure w.found.covered.attribute 9 fail.Attribute meant)

module _ (world : World) (a : Operand) (w : Writing) where
  abbrev m : ℕ
  m = length w.body.types

  -- it is there

  itself : present world.around a false w ≡ (a.x, writing w.found (record { types = w.body.types ++ []; ops = w.body.ops ++ [] }))
  itself = ap (λ ts. (a.x, writing w.found (record { types = ts; ops = w.body.ops }))) (sym (append-nil w.body.types)) ∙ ap (λ os. (a.x, writing w.found (record { types = w.body.types ++ []; ops = os }))) (sym (append-nil w.body.ops))

  no_more : (x : COperand) → IsBelow m x → IsBelow (m + 0) x
  no_more (Var v) h = omega (arith, h)
  no_more (Const c) h = tt

  by_itself : Present world a false w
  by_itself = record {
    x = a.x;
    ops = [];
    new = [];
    written = itself;
    below = no_more a.x;
    enters = λ p numbers raised arguments rest e frames core has room set there. (core, rests, none_passed, refl);
    misses = λ count known place p numbers raised arguments later rest e frames core g most meant has may low. absurd (cc);
  }

  -- it may be missing

  abbrev number : ℕ
  number = (small_number (small.Present (type_of world.around a) w.found.covered.attribute) w.found).0

  called : present world.around a true w ≡ (Var m, writing (small_number (small.Present (type_of world.around a) w.found.covered.attribute) w.found).1 (record { types = w.body.types ++ type_of world.around a ∷ []; ops = w.body.ops ++ op.Call (Some m) number (a.x ∷ []) ∷ [] }))
  unfolding by_small
  called = refl

  module _ (p : LlProgram) (raised : ℕ → Value) (arguments : List (List ℕ)) (core : Core) where
    missing_follows : (count : ℕ) (known : Known) (place : Place) (later rest : List LlOp) (e : LlExit) (frames : List Frame) (g : Ghost) (most : ℕ) (meant : MeantWorld) → operand core.vars a.x ≡ Null
        → (c : Bool) → HasSmall p world.around.layout raised (small.Present (type_of world.around a) c) number
        → Follows count known world.around place p arguments (At (op.Call (Some m) number (a.x ∷ []) ∷ (later ++ rest)) e frames core) rest e frames core g raised most m meant (failure c 9 fail.Attribute meant)
    missing_follows count known place later rest e frames g most meant low true s = throws_at (ap (λ x. x ∷ []) low) refl later rest (present_flies p world.around.layout arguments raised (type_of world.around a) number core s)
    missing_follows count known place later rest e frames g most meant low false s = fails_at (ap (λ x. x ∷ []) low) refl (later ++ rest) (present_fails p world.around.layout arguments raised (type_of world.around a) number core s)

  by_call : Present world a true w
  by_call = record {
    x = Var m;
    ops = op.Call (Some m) number (a.x ∷ []) ∷ [];
    new = type_of world.around a ∷ [];
    written = called;
    below = λ h. omega arith;
    enters = λ p numbers raised arguments rest e frames core has room set there. (
      after core m (operand core.vars a.x),
      call (ap (λ b. b || false) set) (present_comes p world.around.layout arguments raised (type_of world.around a) number core w.found.covered.attribute has.0 (operand core.vars a.x) set there),
      sets_more m (operand core.vars a.x) (omega arith) none_passed,
      is_set_at core m (operand core.vars a.x) (omega (arith, room)),
    );
    misses = λ count known place p numbers raised arguments later rest e frames core g most meant has may low. missing_follows p raised arguments core count known place later rest e frames g most meant low w.found.covered.attribute has.0;
  }

  pub presence : (r : Bool) → Present world a r w
  presence true = by_call
  presence false = by_itself
