-- Two lists that have to be there, one after the other.
use Rattle.std.proofs.Common.{◌≡◌, ◌≤◌, ℕ, ◌+◌, false, true, List, ◌++◌, length, Ok, sym, ap, ◌∙◌, subst, arith, append_assoc, length-append}
use Rattle.rpy_base.specs.declared.outcome.FailName.TheVariants as fail
use Rattle.csub_tree.specs.State.{Value, Flag, Null, Core}
use Rattle.csub_tree.specs.Operation.{is_unset, compared}
use Rattle.csub_tree.specs.Statement.{operand}
use Rattle.csub_tree.specs.declared.tree.COperand.{COperand}
use Rattle.ll_code.specs.State.{Frame, State, At}
use Rattle.ll_code.specs.declared.program.LlType.{LlType}
use Rattle.ll_code.specs.declared.program.LlOp.{LlOp}
use Rattle.ll_code.specs.declared.program.LlExit.{LlExit}
use Rattle.ll_code.specs.declared.program.LlProgram.{LlProgram}
use Rattle.ll_build.specs.declared.needs.Numbers.{Numbers}
use Rattle.ll_leads.proofs.Ways.{on}
use Rattle.rpy_meaning.specs.declared.row.Covers.{Covers}
use Rattle.rpy_meaning.specs.World.{World, failure}
use Rattle.rtyper_layout.specs.declared.kind.Kind.TheVariants as kind
use Rattle.rtyper_data.specs.declared.found.Found.{Found}
use Rattle.rtyper_data.specs.Seen.{Around, Operand, Place, kind_of, Writing, writing}
use Rattle.list_shape.specs.Shapes.{taking}
use Rattle.rtyper_list.specs.Operands.{of_list, there}
use Rattle.lower_laws.specs.Asked.{all_asked}
use Rattle.lower_laws.specs.Values.{IsBelow}
use Rattle.list_laws.specs.Asked.{HasAll}
use Rattle.list_laws.specs.Lists.{there_asks}
use Rattle.list_laws.proofs.Indexed.{there_covers, has_first, has_more, asked_both}
use Rattle.object_laws.specs.Known.{Known}
use Rattle.object_laws.specs.Done.{Follows}
use Rattle.object_laws.specs.Ghost.{Ghost}
use Rattle.object_laws.proofs.Passing.{both_passed, operand_kept}
use Rattle.list_copy_laws.specs.Extended.{both_asks}
use Rattle.list_copy_laws.proofs.Ready.{Went, from_there, Ready, ready}

-- the way to where both are known
pub record WentBoth (p : LlProgram) (args : List (List ℕ)) (s : State) (ops : List LlOp) (e : LlExit) (frames : List Frame) (core : Core) (below : ℕ) (x y : COperand) (value value2 : Value) : Type 0 where
  pub went : Went p args s ops e frames core below x value
  pub is : operand went.mid.vars y ≡ value2

-- what is written for them, and what that does
pub record Both (around : Around) (a b : Operand) (w : Writing) : Type 0 where
  pub x : COperand
  pub y : COperand
  pub ops : List LlOp
  pub new : List LlType
  pub written : (K : COperand → COperand → Writing → Writing) → taking (there around a w) (λ x next. taking (there around b next) (λ y last. K x y last))
      ≡ K x y (writing (all_asked (both_asks around a b w.found.covered) w.found) (record { types = w.body.types ++ new; ops = w.body.ops ++ ops }))
  pub enters : (p : LlProgram) (numbers : Numbers) (raised : ℕ → Value) (arguments : List (List ℕ)) (rest : List LlOp) (e : LlExit) (frames : List Frame) (core : Core)
      → HasAll p around.layout numbers raised core (both_asks around a b w.found.covered) w.found → length w.body.types + length new ≤ length core.vars → IsBelow (length w.body.types) a.x → IsBelow (length w.body.types) b.x
      → is_unset (operand core.vars a.x) ≡ false → compared (operand core.vars a.x) Null ≡ Ok (Flag false) → is_unset (operand core.vars b.x) ≡ false → compared (operand core.vars b.x) Null ≡ Ok (Flag false)
      → WentBoth p arguments (At (ops ++ rest) e frames core) rest e frames core (length w.body.types) x y (operand core.vars a.x) (operand core.vars b.x)
  pub misses : (count : ℕ) (known : Known) (place : Place) (p : LlProgram) (numbers : Numbers) (raised : ℕ → Value) (arguments : List (List ℕ)) (later rest : List LlOp) (e : LlExit) (frames : List Frame) (core : Core) (g : Ghost) (most : ℕ) (world : World)
      → HasAll p around.layout numbers raised core (both_asks around a b w.found.covered) w.found → kind_of a ≡ kind.MaybeList → operand core.vars a.x ≡ Null
      → Follows count known around place p arguments (At (ops ++ (later ++ rest)) e frames core) rest e frames core g raised most (length w.body.types) world (failure w.found.covered.attribute 9 fail.Attribute world)
  pub misses_second : (count : ℕ) (known : Known) (place : Place) (p : LlProgram) (numbers : Numbers) (raised : ℕ → Value) (arguments : List (List ℕ)) (later rest : List LlOp) (e : LlExit) (frames : List Frame) (core : Core) (g : Ghost) (most : ℕ) (world : World)
      → HasAll p around.layout numbers raised core (both_asks around a b w.found.covered) w.found → length w.body.types + length new ≤ length core.vars → IsBelow (length w.body.types) b.x
      → is_unset (operand core.vars a.x) ≡ false → compared (operand core.vars a.x) Null ≡ Ok (Flag false) → kind_of b ≡ kind.MaybeList → operand core.vars b.x ≡ Null
      → Follows count known around place p arguments (At (ops ++ (later ++ rest)) e frames core) rest e frames core g raised most (length w.body.types) world (failure w.found.covered.attribute 9 fail.Attribute world)

module _ (around : Around) (a b : Operand) (w : Writing) (lists : of_list (kind_of a) ≡ true) (lists2 : of_list (kind_of b) ≡ true) where
  abbrev c : Covers
  c = w.found.covered

  abbrev first : Found
  first = all_asked (there_asks around a c) w.found

  one : Ready around a w
  one = ready around a w lists

  abbrev entered : Writing
  entered = writing first (record { types = w.body.types ++ one.new; ops = w.body.ops ++ one.ops })

  two : Ready around b entered
  two = ready around b entered lists2

  covers : first.covered ≡ c
  covers = there_covers around a w.found

  long : length (one.new ++ two.new) ≡ length one.new + length two.new
  long = length-append one.new two.new

  types_long : length (w.body.types ++ one.new) ≡ length w.body.types + length one.new
  types_long = length-append w.body.types one.new

  both_written : (K : COperand → COperand → Writing → Writing) → taking (there around a w) (λ x next. taking (there around b next) (λ y last. K x y last))
      ≡ K one.x two.x (writing (all_asked (both_asks around a b c) w.found) (record { types = w.body.types ++ (one.new ++ two.new); ops = w.body.ops ++ (one.ops ++ two.ops) }))
  both_written K =
      ap (λ made. taking made (λ x next. taking (there around b next) (λ y last. K x y last))) one.written
      ∙ ap (λ made. taking made (λ y last. K one.x y last)) two.written
      ∙ ap (λ cs. K one.x two.x (writing (all_asked (there_asks around b cs) first) (record { types = (w.body.types ++ one.new) ++ two.new; ops = (w.body.ops ++ one.ops) ++ two.ops }))) covers
      ∙ ap (λ f. K one.x two.x (writing f (record { types = (w.body.types ++ one.new) ++ two.new; ops = (w.body.ops ++ one.ops) ++ two.ops }))) (sym (asked_both (there_asks around a c) (there_asks around b c) w.found))
      ∙ ap (λ ts. K one.x two.x (writing (all_asked (both_asks around a b c) w.found) (record { types = ts; ops = (w.body.ops ++ one.ops) ++ two.ops }))) (append_assoc w.body.types one.new two.new)
      ∙ ap (λ os. K one.x two.x (writing (all_asked (both_asks around a b c) w.found) (record { types = w.body.types ++ (one.new ++ two.new); ops = os }))) (append_assoc w.body.ops one.ops two.ops)

  module _ (p : LlProgram) (numbers : Numbers) (raised : ℕ → Value) (arguments : List (List ℕ)) (core : Core) (has : HasAll p around.layout numbers raised core (both_asks around a b c) w.found) where
    has_one : HasAll p around.layout numbers raised core (there_asks around a c) w.found
    has_one = has_first p around numbers raised core (there_asks around a c) (there_asks around b c) w.found has

    has_two : HasAll p around.layout numbers raised core (there_asks around b first.covered) first
    has_two = subst (λ cs. HasAll p around.layout numbers raised core (there_asks around b cs) first) (sym covers) (has_more p around numbers raised core (there_asks around a c) (there_asks around b c) w.found has)

    module _ (rest : List LlOp) (e : LlExit) (frames : List Frame) (room : length w.body.types + length (one.new ++ two.new) ≤ length core.vars) (set : is_unset (operand core.vars a.x) ≡ false) (is_there : compared (operand core.vars a.x) Null ≡ Ok (Flag false)) (below : IsBelow (length w.body.types) b.x) where
      went1 : Went p arguments (At (one.ops ++ (two.ops ++ rest)) e frames core) (two.ops ++ rest) e frames core (length w.body.types) one.x (operand core.vars a.x)
      went1 = one.enters p numbers raised arguments (two.ops ++ rest) e frames core core has_one (omega (arith, room, long)) set is_there

      kept : operand went1.mid.vars b.x ≡ operand core.vars b.x
      kept = operand_kept went1.passed b.x below

      wide : length (w.body.types ++ one.new) + length two.new ≤ length went1.mid.vars
      wide = (let q = went1.passed.room in omega (arith, room, long, types_long, q))

      both_went : IsBelow (length w.body.types) a.x → is_unset (operand core.vars b.x) ≡ false → compared (operand core.vars b.x) Null ≡ Ok (Flag false) → WentBoth p arguments (At (one.ops ++ (two.ops ++ rest)) e frames core) rest e frames core (length w.body.types) one.x two.x (operand core.vars a.x) (operand core.vars b.x)
      both_went below_a set2 is_there2 = record {
        went = record {
          mid = went2.mid;
          way = on went1.way went2.way;
          passed = both_passed (omega (arith, types_long)) went1.passed went2.passed;
          is = operand_kept went2.passed one.x (subst (λ k. IsBelow k one.x) (sym types_long) (one.inside below_a)) ∙ went1.is;
          lacks = λ d. went1.lacks (went2.lacks d);
        };
        is = went2.is ∙ kept;
      }
        where
          went2 : Went p arguments (At (two.ops ++ rest) e frames went1.mid) rest e frames went1.mid (length (w.body.types ++ one.new)) two.x (operand went1.mid.vars b.x)
          went2 = two.enters p numbers raised arguments rest e frames core went1.mid has_two wide (ap is_unset kept ∙ set2) (ap (λ v. compared v Null) kept ∙ is_there2)

  both : Both around a b w
  both = record {
    x = one.x;
    y = two.x;
    ops = one.ops ++ two.ops;
    new = one.new ++ two.new;
    written = both_written;
    enters = λ p numbers raised arguments rest e frames core has room below_a below_b set is_there set2 is_there2.
        subst (λ os. WentBoth p arguments (At os e frames core) rest e frames core (length w.body.types) one.x two.x (operand core.vars a.x) (operand core.vars b.x)) (sym (append_assoc one.ops two.ops rest))
        (both_went p numbers raised arguments core has rest e frames room set is_there below_b below_a set2 is_there2);
    misses = λ count known place p numbers raised arguments later rest e frames core g most world has k low.
        subst (λ os. Follows count known around place p arguments (At os e frames core) rest e frames core g raised most (length w.body.types) world (failure c.attribute 9 fail.Attribute world)) (ap (λ os. one.ops ++ os) (append_assoc two.ops later rest) ∙ sym (append_assoc one.ops two.ops (later ++ rest)))
        (one.misses count known place p numbers raised arguments (two.ops ++ later) rest e frames core core g most (length w.body.types) world (has_one p numbers raised arguments core has) k low);
    misses_second = λ count known place p numbers raised arguments later rest e frames core g most world has room below_b set is_there k low.
        let went = went1 p numbers raised arguments core has (later ++ rest) e frames room set is_there below_b in
        subst (λ os. Follows count known around place p arguments (At os e frames core) rest e frames core g raised most (length w.body.types) world (failure c.attribute 9 fail.Attribute world)) (sym (append_assoc one.ops two.ops (later ++ rest)))
        (from_there count known around place p arguments rest e frames core g raised most (length w.body.types) world (omega arith) went (failure c.attribute 9 fail.Attribute world)
        (subst (λ (cs : Covers). Follows count known around place p arguments (At (two.ops ++ (later ++ rest)) e frames went.mid) rest e frames went.mid g raised most (length w.body.types) world (failure cs.attribute 9 fail.Attribute world)) covers
        (two.misses count known place p numbers raised arguments later rest e frames core went.mid g most (length w.body.types) world (has_two p numbers raised arguments core has) k (kept p numbers raised arguments core has (later ++ rest) e frames room set is_there below_b ∙ low))));
  }

pub both_lists : (around : Around) (a b : Operand) (w : Writing) → of_list (kind_of a) ≡ true → of_list (kind_of b) ≡ true → Both around a b w
both_lists around a b w lists lists2 = both around a b w lists lists2
