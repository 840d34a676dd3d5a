-- An instance is raised.
use Rattle.std.proofs.Common.{◌≡◌, ◌≤◌, ◌⊎◌, inl, inr, ℕ, ◌+◌, Bool, true, false, List, [], ◌∷◌, ◌++◌, length, Some, refl, sym, ap, ◌∙◌, subst, arith, append_assoc, length-append}
use Rattle.std.specs.Prelude.{if◌then◌else◌}
use Rattle.csub_tree.specs.State.{Value, Core}
use Rattle.csub_tree.specs.Operation.{is_unset}
use Rattle.csub_tree.specs.Statement.{operand}
use Rattle.ll_code.specs.State.{Frame, At}
use Rattle.ll_code.specs.declared.program.LlType.TheVariants as type
use Rattle.ll_code.specs.declared.program.LlOp.{LlOp}
use Rattle.ll_code.specs.declared.program.LlOp.TheVariants as op
use Rattle.ll_code.specs.declared.program.LlExit.{LlExit}
use Rattle.ll_code.specs.declared.program.LlProgram.{LlProgram}
use Rattle.ll_build.specs.declared.needs.Numbers.{Numbers}
use Rattle.ll_leads.proofs.Joined.{leads_then}
use Rattle.rpy_base.specs.declared.outcome.FailName.TheVariants as fail
use Rattle.rpy_meaning.specs.Classes.{is_below}
use Rattle.rpy_meaning.specs.declared.row.RowOp.TheVariants as row
use Rattle.rpy_meaning.specs.Operations.{op as meant_op, raise_object}
use Rattle.rpy_meaning.specs.World.{World as MeantWorld, Answer, Throws, failure, throw, bad}
use Rattle.rpy_tree.specs.Value.{Value as Meant}
use Rattle.rtyper_layout.specs.declared.classes.Laid.{Laid}
use Rattle.rtyper_data.specs.Converting.{nothing_to, present}
use Rattle.rtyper_data.specs.Seen.{Operand, Place, type_of, type_at, Writing, writing}
use Rattle.rtyper_class.specs.Calls.{raise, raise_by, raise_value}
use Rattle.rtyper_class.specs.Lowering.{lowered, lower_class_op, instance_in, of_some, of_one, raise_on}
use Rattle.rtyper_class.specs.Seen.{World}
use Rattle.lower_laws.specs.Asked.{all_asked}
use Rattle.object_laws.specs.Done.{AllAsked, Follows}
use Rattle.object_laws.specs.Ghost.{Ghost, InstanceOf}
use Rattle.object_laws.specs.Known.{Known}
use Rattle.object_laws.specs.Represents.{Represents, InstanceAt}
use Rattle.object_laws.specs.Values.{Given}
use Rattle.object_laws.proofs.Blocks.{found_set, found_there}
use Rattle.object_laws.proofs.Passing.{Passed, Went, both_passed}
use Rattle.object_laws.proofs.Valued.{Instancing, Gone, instance_or_none, missing_instance}
use Rattle.object_laws.proofs.Variables.{InVariable, in_variable}
use Rattle.class_laws.specs.Asked.{Has}
use Rattle.class_laws.specs.Instances.{IsInstance, present_asks}
use Rattle.class_laws.proofs.Copied.{instance_comes}
use Rattle.class_laws.proofs.Lowered.{class_one}
use Rattle.class_laws.proofs.Presence.{Present, presence}
use Rattle.call_laws.specs.Raised.{Raises, IsRaised, ExceptionsAreRaised}

module _ (world : World) (known : Known) (class : ℕ) (r : Bool) (l : Laid) (place : Place) (a : Operand) (w : Writing) (inst : IsInstance world a.element class r l) (gives_none : type_at world.around place ≡ type.Void) where
  it : Present world a r w
  it = presence world a w r

  abbrev behind : Writing
  behind = writing (all_asked (present_asks world a r w.found.covered) w.found) (record { types = w.body.types ++ it.new; ops = w.body.ops ++ it.ops })

  at : InVariable (type_of world.around a) it.x behind.body
  at = in_variable (type_of world.around a) it.x behind.body

  abbrev raises : LlOp
  raises = op.Raise at.x

  abbrev ops : List LlOp
  ops = it.ops ++ (at.ops ++ raises ∷ [])

  is_written : lower_class_op world row.Raise place (a ∷ []) w ≡ writing behind.found (record { types = behind.body.types ++ at.new; ops = (behind.body.ops ++ at.ops) ++ raises ∷ [] })
  unfolding lowered of_some of_one raise
  is_written =
      class_one world row.Raise place a w (instance_comes a class r inst.is)
      ∙ ap (λ e. raise_on world place a (instance_in e) w) inst.is
      ∙ ap (λ t. raise_value (type_of world.around a) (present world.around a r (writing w.found (nothing_to place t w.body)))) gives_none
      ∙ ap (λ x. raise_value (type_of world.around a) x) it.written
      ∙ ap (λ v. raise_by behind.found v) at.written

  all_ops : (w.body.ops ++ it.ops) ++ (at.ops ++ raises ∷ []) ≡ w.body.ops ++ ops
  all_ops = append_assoc w.body.ops it.ops (at.ops ++ raises ∷ [])

  module _ (p : LlProgram) (numbers : Numbers) (raised : ℕ → Value) (arguments : List (List ℕ)) (rest : List LlOp) (e : LlExit) (frames : List Frame) (core : Core) (g : Ghost) (meant : MeantWorld)
      (has : AllAsked (Has world p numbers raised core) (present_asks world a r w.found.covered) w.found)
      (stands : Represents world.around.layout known g meant.heap meant.left core.blocks core.statics)
      (room : length w.body.types + length (it.new ++ at.new) ≤ length core.vars) where
    abbrev Did : Answer → Type 0
    Did answer = Raises known.program.classes p arguments (At (it.ops ++ (at.ops ++ (raises ∷ rest))) e frames core) rest e frames core g raised (length w.body.types) meant answer

    -- what fails or throws elsewhere
    elsewhere : (c : Bool) → Follows 0 known world.around place p arguments (At (it.ops ++ (at.ops ++ (raises ∷ rest))) e frames core) rest e frames core g raised 0 (length w.body.types) meant (failure c 9 fail.Attribute meant) → Did (failure c 9 fail.Attribute meant)
    elsewhere true h = inr (omega arith, h)
    elsewhere false h = h

    long : length (it.new ++ at.new) ≡ length it.new + length at.new
    long = length-append it.new at.new

    is_there : (v : Meant) → Instancing known g class (operand core.vars a.x) v → Did (meant_op known.program w.found.covered row.Raise (v ∷ []) meant)
    is_there v one =
        let x : Value = operand core.vars a.x in
        let here : InstanceAt world.around.layout known g meant.heap core.blocks core.statics one.c one.i x = stands.instances one.c one.i x one.home in
        let x_set : is_unset x ≡ false = found_set core.blocks core.statics x _ here.block_is in
        let went = it.enters p numbers raised arguments (at.ops ++ (raises ∷ rest)) e frames core has (omega (arith, room, long)) x_set (found_there core.blocks core.statics x _ here.block_is) in
        let mid : Core = went.0 in
        let passed : Passed (length w.body.types) core mid = went.2 in
        let types_long : length (w.body.types ++ it.new) ≡ length w.body.types + length it.new = length-append w.body.types it.new in
        let holds : Went p arguments (At (at.ops ++ (raises ∷ rest)) e frames mid) (raises ∷ rest) e frames mid (length (w.body.types ++ it.new)) at.x (operand mid.vars it.x) =
        at.enters p arguments (raises ∷ rest) e frames mid (let q = passed.room in omega (arith, room, long, types_long, q)) (ap is_unset went.3 ∙ x_set) in
        let all : Passed (length w.body.types) core holds.mid = both_passed (omega (arith, types_long)) passed holds.passed in
        let above : meant_op known.program w.found.covered row.Raise (v ∷ []) meant ≡ (if is_below known.program.classes one.c 0 then throw one.i else bad) meant =
        ap (λ v. meant_op known.program w.found.covered row.Raise (v ∷ []) meant) one.high ∙ ap (λ o. raise_object known.program w.found.covered one.i o meant) here.object in
        let raised_here : is_below known.program.classes one.c 0 ≡ true → Did (Throws one.i meant) = λ high. inl (record {
          variable = at.x;
          end = holds.mid;
          leads = leads_then went.1 holds.way;
          class = one.c;
          home = one.home ∙ ap (λ y. Some (record { sort = InstanceOf one.c; head = y })) (sym (holds.is ∙ went.3));
          above = high;
          memory = all.memory;
          others = all.others;
          room = all.room;
          function = all.function;
          block = all.block;
          same = refl;
        }) in
        subst Did (sym above) (by (is_below known.program.classes one.c 0) one.i raised_here)
      where
        by : (c : Bool) (i : ℕ) → (c ≡ true → Did (Throws i meant)) → Did ((if c then throw i else bad) meant)
        by true i h = h refl
        by false i h = tt

    missing : (v : Meant) → r ≡ true → Gone (missing_instance true) a.element (operand core.vars a.x) v → Did (meant_op known.program w.found.covered row.Raise (v ∷ []) meant)
    missing v may gone = subst (λ v. Did (meant_op known.program w.found.covered row.Raise (v ∷ []) meant)) (sym gone.high)
        (elsewhere w.found.covered.attribute
        (subst (λ os. Follows 0 known world.around place p arguments (At (it.ops ++ os) e frames core) rest e frames core g raised 0 (length w.body.types) meant (failure w.found.covered.attribute 9 fail.Attribute meant)) (append_assoc at.ops (raises ∷ []) rest)
        (it.misses 0 known place p numbers raised arguments (at.ops ++ raises ∷ []) rest e frames core g 0 meant has may gone.low)))

    follow : (vs : List Meant) → Given known world.around g core (a ∷ []) vs → Did (meant_op known.program w.found.covered row.Raise vs meant)
    follow [] given = absurd given
    follow (v ∷ []) given = by (instance_or_none class r inst.is given.0)
      where
        by : Instancing known g class (operand core.vars a.x) v ⊎ ((r ≡ true) × Gone (missing_instance true) a.element (operand core.vars a.x) v) → Did (meant_op known.program w.found.covered row.Raise (v ∷ []) meant)
        by (inl one) = is_there v one
        by (inr (may, gone)) = missing v may gone
    follow (v ∷ u ∷ vs) given = absurd given.1

  both : (rest : List LlOp) → ops ++ rest ≡ it.ops ++ (at.ops ++ (raises ∷ rest))
  both rest = append_assoc it.ops (at.ops ++ raises ∷ []) rest ∙ ap (λ os. it.ops ++ os) (append_assoc at.ops (raises ∷ []) rest)

  raise_done : IsRaised world known w.found.covered (present_asks world a r w.found.covered) place a w
  raise_done = record {
    ops = ops;
    new = it.new ++ at.new;
    asked = ap (λ (r : Writing). r.found) is_written;
    written = ap (λ (r : Writing). r.body.ops) is_written ∙ append_assoc (w.body.ops ++ it.ops) at.ops (raises ∷ []) ∙ all_ops;
    types = ap (λ (r : Writing). r.body.types) is_written ∙ append_assoc w.body.types it.new at.new;
    follows = λ p numbers raised arguments rest e frames core g meant vs structs has stands room under given.
        subst (λ os. Raises known.program.classes p arguments (At os e frames core) rest e frames core g raised (length w.body.types) meant (meant_op known.program w.found.covered row.Raise vs meant)) (sym (both rest))
        (follow p numbers raised arguments rest e frames core g meant has stands room vs given);
  }

pub exceptions_are_raised : ExceptionsAreRaised
exceptions_are_raised world known class r l place a w inst gives_none = raise_done world known class r l place a w inst gives_none
