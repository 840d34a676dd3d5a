-- Exceptions that are raised.
use Rattle.std.proofs.Common.{◌≡◌, ◌≢◌, ◌<◌, ◌≤◌, inl, inr, ℕ, ◌+◌, Bool, true, false, List, [], ◌∷◌, ◌++◌, length, map, Some, None, refl, sym, ap, ◌∙◌, subst, arith, append_assoc, length-set, get_or-set_other}
use Rattle.std.proofs.lemmas.Bool.Decides.{nat_tests}
use Rattle.ann_element.specs.declared.element.Element.TheVariants as element
use Rattle.ann_lattice.specs.Order.{Below}
use Rattle.ann_lattice.specs.Shape.{Shape, NoneOnly, Inst, shape}
use Rattle.csub_tree.specs.State.{Value, Unset, Core}
use Rattle.csub_tree.specs.Operation.{is_unset}
use Rattle.csub_tree.specs.Statement.{operand as operand_value, read}
use Rattle.flow_graph.specs.declared.graph.Graph.{Graph}
use Rattle.flow_graph.specs.declared.graph.Op.{Op}
use Rattle.ll_code.specs.State.{Frame, State, At}
use Rattle.ll_code.specs.declared.program.LlExit.{LlExit}
use Rattle.ll_code.specs.declared.program.LlOp.{LlOp}
use Rattle.ll_code.specs.declared.program.LlProgram.{LlProgram}
use Rattle.ll_code.specs.declared.program.LlType.{LlType}
use Rattle.ll_code.specs.declared.program.LlType.TheVariants as type
use Rattle.ll_leads.specs.Memory.{forgotten}
use Rattle.ll_leads.specs.Path.{Leads}
use Rattle.ll_leads.proofs.Ways.{rests}
use Rattle.ll_live.specs.Live.{among}
use Rattle.ll_code.specs.declared.program.LlOp.TheVariants as op
use Rattle.rpy_base.specs.declared.outcome.FailName.{FailName}
use Rattle.rpy_meaning.specs.declared.row.Covers.{Covers}
use Rattle.rpy_meaning.specs.declared.row.RowOp.{RowOp}
use Rattle.rpy_meaning.specs.declared.row.RowOp.TheVariants as row
use Rattle.rpy_meaning.specs.Operations.{op as meant_op, builtin_classes}
use Rattle.rpy_meaning.specs.World.{World as MeantWorld, Answer, Gives, Throws, Fails, Lacks, Enters, Bad, attribute_error}
use Rattle.rpy_tree.specs.Value.{Value as Meant}
use Rattle.rtyper_class.specs.Calls.{raise, raise_value}
use Rattle.rtyper_class.specs.Lowering.{lower_class_op, lowered, of_one, of_some, raise_on, instance_in}
use Rattle.rtyper_class.specs.Seen.{World}
use Rattle.rtyper_data.specs.Converting.{default_operand, present}
use Rattle.rtyper_data.specs.Seen.{Operand, Place, Writing, kind_of, type_at, type_of, writing}
use Rattle.rtyper_data.specs.declared.body.Body.{Body}
use Rattle.rtyper_data.specs.declared.small.Small.TheVariants as small
use Rattle.rtyper_layout.specs.Kinds.{kind_seen}
use Rattle.rtyper_layout.specs.declared.classes.Laid.{Laid}
use Rattle.rtyper_layout.specs.declared.kind.Kind.TheVariants as kind
use Rattle.rtyper_op.specs.Lowering.{failure}
use Rattle.rtyper_program.specs.Blocks.{op_of}
use Rattle.rtyper_program.specs.Blocks as blocks
use Rattle.rtyper_program.specs.Graphs.{variables}
use Rattle.rtyper_program.specs.Raises.{has_exceptions}
use Rattle.rtyper_program.specs.Seen.{Lowered, operand_of, place_of}
use Rattle.lower_laws.specs.Asked.{Make}
use Rattle.lower_laws.proofs.Doing.{after}
use Rattle.lower_laws.proofs.Single.{sets}
use Rattle.object_laws.specs.Done.{AllAsked}
use Rattle.object_laws.specs.Ghost.{Ghost}
use Rattle.object_laws.specs.Known.{Known}
use Rattle.object_laws.specs.Represents.{Represents}
use Rattle.object_laws.specs.Values.{Given, Holds}
use Rattle.object_laws.proofs.Nothings.{nothing_held}
use Rattle.class_laws.specs.Instances.{present_asks}
use Rattle.class_laws.proofs.Copied.{instance_comes}
use Rattle.class_laws.proofs.Lowered.{class_one}
use Rattle.call_laws.specs.Raised.{IsRaised, Raises}
use Rattle.call_laws.proofs.Raising.{exceptions_are_raised as raised_of}
use Rattle.growth_laws.specs.Growing.{Grows}
use Rattle.helper_stands.specs.Asks.{MayBeAsked}
use Rattle.rtyped_laws.specs.Objects.{OfClasses}
use Rattle.run_laws.specs.Points.{Setting, IsException}
use Rattle.run_laws.proofs.Steps.{way_then}
use Rattle.block_laws.specs.Operations.{Acts, Failed, Threw, operands_of}
use Rattle.block_laws.specs.Links.{AllUnder}
use Rattle.block_laws.specs.Operations as operations
use Rattle.rtyped_runs.specs.Laws.{ExceptionsAreLaid, StandsSo, ThrowsObjects, args_of, before, of_classes}
use Rattle.rtyped_runs.specs.Parts.{OpIsWritten}
use Rattle.rtyped_runs.proofs.Acting.{fails_so, raises_so, throws_so}
use Rattle.typed_rows.specs.Programs.{Typed, IsTyped, first, last, numbers, setting, world}
use Rattle.typed_rows.specs.Rows.{IsOp, lowered_in}
use Rattle.class_rows.specs.Classes.{ExceptionsAreRaised, ResultIsNew}
use Rattle.class_rows.proofs.Common.{as_class, class_asks_so, error_thrown, first_laid, laid_operand}
use Rattle.class_rows.proofs.Failing.{failure_done, nothing_is, set_nothing}
use Rattle.class_rows.proofs.Fitting.{OneOperand}
use Rattle.class_rows.proofs.One.{asked_of, never_asked, one, operand, writes_as}
use Rattle.class_rows.proofs.Shapes.{instance_at, none_at}
use Rattle.class_rows.proofs.Telling.{none_comes, none_is_no_instance}

-- ---- what is set before

record Set (p : LlProgram) (arguments : List (List ℕ)) (s : State) (rest : List LlOp) (e : LlExit) (frames : List Frame) (core : Core) (at : ℕ) : Type 0 where
  mid : Core
  leads : Leads p arguments 0 s [] (At rest e frames mid)
  memory : forgotten mid ≡ forgotten core
  others : (k : ℕ) → k ≢ at → read mid.vars k ≡ read core.vars k
  room : length mid.vars ≡ length core.vars
  function : mid.function ≡ core.function

module _ (p : LlProgram) (arguments : List (List ℕ)) (rest : List LlOp) (e : LlExit) (frames : List Frame) (core : Core) (place : Place) where
  set_as : (t : LlType) (value : Value) → operand_value core.vars (default_operand t) ≡ value → is_unset value ≡ false → Set p arguments (At (op.Set place.variable (default_operand t) ∷ rest) e frames core) rest e frames core place.variable
  set_as t value is there = record {
    mid = after core place.variable value;
    leads = sets value is there;
    memory = refl;
    others = λ k other. get_or-set_other core.vars place.variable k value Unset other;
    room = length-set core.vars place.variable value;
    function = refl;
  }

  set_first : (t : LlType) → Set p arguments (At (set_nothing place t ++ rest) e frames core) rest e frames core place.variable
  set_first type.Void = record { mid = core; leads = rests; memory = refl; others = λ k other. refl; room = refl; function = refl }
  set_first type.Signed = set_as type.Signed _ refl refl
  set_first type.Bool = set_as type.Bool _ refl refl
  set_first type.Char = set_as type.Char _ refl refl
  set_first type.Fn = set_as type.Fn _ refl refl
  set_first (type.Ptr n) = set_as (type.Ptr n) _ refl refl

-- ---- what is written

-- nothing is known of the result
abbrev bare : Place → Place
bare place = record { variable = place.variable; element = None }

module _ (world : World) (place : Place) (a : Operand) (w : Writing) where
  abbrev behind : Writing
  behind = writing w.found (record { types = w.body.types; ops = w.body.ops ++ set_nothing place (type_at world.around place) })

  module _ (c : ℕ) (r : Bool) (is : a.element ≡ Some (element.Instance c r)) where
    raise_is : (at : Place) (v : Writing) → lower_class_op world row.Raise at (a ∷ []) v ≡ raise world.around at a r v
    unfolding lowered of_some of_one
    raise_is at v = class_one world row.Raise at a v (instance_comes a c r is) ∙ ap (λ e. raise_on world at a (instance_in e) v) is

    same_raise : lower_class_op world row.Raise place (a ∷ []) w ≡ lower_class_op world row.Raise (bare place) (a ∷ []) behind
    unfolding raise
    same_raise = raise_is place w
        ∙ ap (λ (body : Body). raise_value (type_of world.around a) (present world.around a r (writing w.found body))) (nothing_is place (type_at world.around place) w.body)
        ∙ sym (raise_is (bare place) behind)

none_written : (world : World) (place : Place) (a : Operand) (w : Writing) → kind_of a ≡ kind.Nothing → lower_class_op world row.Raise place (a ∷ []) w ≡ failure world.around place w
unfolding lowered of_some of_one
none_written world place a w none = class_one world row.Raise place a w (none_comes a none) ∙ ap (λ i. raise_on world place a i w) (none_is_no_instance a.element none)

none_means : (around : World) (known : Known) (a : Operand) (c : Covers) → kind_of a ≡ kind.Nothing → (core : Core) (g : Ghost) (vs : List Meant) (meant : MeantWorld) → Given known around.around g core (a ∷ []) vs → meant_op known.program c row.Raise vs meant ≡ attribute_error c meant
none_means around known a c none core g [] meant given = absurd given
none_means around known a c none core g (v ∷ []) meant given = ap (λ v. meant_op known.program c row.Raise (v ∷ []) meant) (nothing_held none given.0)
none_means around known a c none core g (v ∷ u ∷ vs) meant given = absurd given.1

-- ---- what is done

module _ (s : Setting) (f : ℕ) (o : Op) (below : ℕ) (from mid_from : State) (rest : List LlOp) (e : LlExit) (frames : List Frame) (core mid : Core) (g : Ghost) (w : MeantWorld) (leads : Leads s.low s.arguments 0 from [] mid_from)
    (others : (k : ℕ) → k ≢ o.result → read mid.vars k ≡ read core.vars k) (room : length mid.vars ≡ length core.vars) (function : mid.function ≡ core.function) where
  abbrev Keeps : List Value → ℕ → Type 0
  Keeps vars number = operations.Keeps s f o below from rest e frames core g vars number

  threw_before : (r : ℕ) (w' : MeantWorld) → Threw s f o below mid_from rest e frames mid g r w w' → Threw s f o below from rest e frames core g r w w'
  threw_before r w' it = record {
    x = it.x;
    frame = it.frame;
    end = it.end;
    way = way_then s (record { most = 0; leads = leads }) it.way;
    out = it.out;
    ghost = it.ghost;
    grown = it.grown;
    is = it.is;
    stands = it.stands;
    left = it.left;
    before = it.before;
    ops = it.ops;
    exit = it.exit;
    keeps = record { others = λ k h q. it.keeps.others k h q ∙ others k q; room = it.keeps.room ∙ room; function_is = it.keeps.function_is ∙ function };
  }

  raised_before : (r : ℕ) (w' : MeantWorld) → operations.Raised s f o below mid_from rest e frames mid g r w w' → operations.Raised s f o below from rest e frames core g r w w'
  raised_before r w' it = record {
    variable = it.variable;
    end = it.end;
    way = way_then s (record { most = 0; leads = leads }) it.way;
    out = it.out;
    ghost = it.ghost;
    grown = it.grown;
    is = it.is;
    stands = it.stands;
    left = it.left;
    keeps = record { others = λ k h q. it.keeps.others k h q ∙ others k q; room = it.keeps.room ∙ room; function_is = it.keeps.function_is ∙ function };
  }

  failed_before : (name : FailName) → Failed s f o below mid_from rest e frames mid g name → Failed s f o below from rest e frames core g name
  failed_before name it = record { last = it.last; way = way_then s (record { most = 0; leads = leads }) it.way; ends = it.ends }

  module _ (memory : Represents s.around.layout s.known g w.heap w.left mid.blocks mid.statics) (left : w.left ≡ mid.steps) (there : (r : ℕ) → r < builtin_classes → IsException s g r (s.known.exception r)) where
    acts : (answer : Answer) → Raises s.known.program.classes s.low s.arguments mid_from rest e frames mid g s.known.exception below w answer → Acts s f o below from rest e frames core g w answer
    acts (Gives v w') it = absurd it
    acts (Throws r w') (inl it) = inr (raised_before r w' (raises_so s f o below mid_from rest e frames mid g w memory left r w' it))
    acts (Throws r w') (inr (few, it)) = inl (threw_before r w' (throws_so s f o below mid_from rest e frames mid g w memory left r w' (there r few) it))
    acts (Fails name) it = failed_before name (fails_so s f o below mid_from rest e frames mid g w memory left name it)
    acts Lacks it = absurd it
    acts (Enters callee vs instead w') it = absurd it
    acts Bad it = tt

-- ---- the row

-- another variable
pub among_first : (v u : ℕ) → among v (u ∷ []) ≡ false → u ≢ v
among_first v u h e = grind (arith, nat_tests, h, e)

module _ (t : Typed) (typed : IsTyped t) (n : ℕ) (graph : Graph) (o : Op) (row_is : o.op ≡ row.Raise) (is : IsOp t n o) (fresh : ResultIsNew t n o) (w : Writing) (early : Grows (first t) w.found)
    (late : Grows (op_of (lowered_in t n graph) o w).found (last t)) (enough : length (variables t.known (world t) n) ≤ length w.body.types) where
  abbrev l : Lowered
  l = lowered_in t n graph

  abbrev s : Setting
  s = setting t

  abbrev place : Place
  place = place_of l o.result

  abbrev Asked : Shape → Type 0
  Asked x = Below t.whole.tables.classes t.assigned.same x (shape is.result)

  abbrev x : Shape
  x = (one row.Raise t typed n graph o row_is is (λ xs. refl) refl (λ x y. refl) (λ x y u. refl)).0

  abbrev there : OneOperand t n o.args is.elements x
  there = operand row.Raise t typed n graph o row_is is (λ xs. refl) refl (λ x y. refl) (λ x y u. refl)

  abbrev a : Operand
  a = operand_of l there.v

  throws : has_exceptions t.known.annotation n o ≡ true
  throws = subst (λ r. has_exceptions t.known.annotation n (record o { op = r }) ≡ true) (sym row_is) refl

  exceptions : ExceptionsAreLaid s
  exceptions = is.raising throws

  objects : (g : Ghost) (core : Core) (meant : MeantWorld) → Represents s.around.layout s.known g meant.heap meant.left core.blocks core.statics → (r : ℕ) → r < builtin_classes → IsException s g r (s.known.exception r)
  objects g core meant memory r few = let k = exceptions r few in record { class = r; home = memory.exceptions r k.1.0 few k.1.1; above = k.0 }

  args_is : args_of l o ≡ a ∷ []
  args_is = ap (map (operand_of l)) there.args_are

  made_is : blocks.lowered (world t) o.op place (args_of l o) (before o w) ≡ lower_class_op (world t) row.Raise place (a ∷ []) (before o w)
  made_is = ap (λ r. blocks.lowered (world t) r place (args_of l o) (before o w)) row_is ∙ ap (λ args. blocks.lowered (world t) row.Raise place args (before o w)) args_is ∙ as_class (world t) row.Raise place (a ∷ []) (before o w) refl

  may_present : (r : Bool) → AllAsked (MayBeAsked OfClasses) (present_asks (world t) a r o.covered) (before o w).found
  may_present true = (refl, tt)
  may_present false = tt

  of_instance : (c : ℕ) (r : Bool) → x ≡ Inst c r → OpIsWritten s l o w
  unfolding op_of
  of_instance c r e =
      let at : there.e ≡ element.Instance c r = instance_at there.e c r (there.shaped ∙ e) in
      let of = laid_operand t n there.e c r (first_laid t is.elements there.e [] there.elements_are is.laid) at in
      let element_is : a.element ≡ Some (element.Instance c r) = there.at ∙ ap Some at in
      written c r of.0 element_is (raised_of (world t) t.seen c r of.0 (bare place) a (behind (world t) place a (before o w)) (record { is = element_is; laid_as = of.1 }) refl)
    where
      written : (c : ℕ) (r : Bool) (k : Laid) → a.element ≡ Some (element.Instance c r) → IsRaised (world t) t.seen o.covered (present_asks (world t) a r o.covered) (bare place) a (behind (world t) place a (before o w)) → OpIsWritten s l o w
      written c r k element_is law = record {
        ops = set_nothing place (type_at (world t).around place) ++ law.ops;
        new = law.new;
        written = ap (λ (made : Writing). made.body.ops) all_is ∙ law.written ∙ append_assoc w.body.ops (set_nothing place (type_at (world t).around place)) law.ops;
        types = ap (λ (made : Writing). made.body.types) all_is ∙ law.types;
        is = λ rest e frames core g meant vs memory left room given good.
            subst (λ (y : RowOp). Acts s n o (length w.body.types) (At ((set_nothing place (type_at (world t).around place) ++ law.ops) ++ rest) e frames core) rest e frames core g meant (meant_op t.seen.program o.covered y vs meant)) (sym row_is)
            (subst (λ (ops : List LlOp). Acts s n o (length w.body.types) (At ops e frames core) rest e frames core g meant (meant_op t.seen.program o.covered row.Raise vs meant)) (sym (append_assoc (set_nothing place (type_at (world t).around place)) law.ops rest))
            (done rest e frames core g meant vs memory left room (subst (λ args. Given t.seen (world t).around g core args vs) args_is given)));
      }
        where
          all_is : blocks.lowered (world t) o.op place (args_of l o) (before o w) ≡ lower_class_op (world t) row.Raise (bare place) (a ∷ []) (behind (world t) place a (before o w))
          all_is = made_is ∙ same_raise (world t) place a (before o w) c r element_is

          stands : StandsSo s (of_classes (world t) t.p (numbers t) t.seen.exception) (present_asks (world t) a r o.covered) (before o w).found
          stands = class_asks_so t typed n graph o w early late (present_asks (world t) a r o.covered) (may_present r) (ap (λ (made : Writing). made.found) all_is ∙ law.asked)

          done : (rest : List LlOp) (e : LlExit) (frames : List Frame) (core : Core) (g : Ghost) (meant : MeantWorld) (vs : List Meant) → Represents s.around.layout s.known g meant.heap meant.left core.blocks core.statics → meant.left ≡ core.steps → length w.body.types + length law.new ≤ length core.vars
              → Given t.seen (world t).around g core (a ∷ []) vs → Acts s n o (length w.body.types) (At (set_nothing place (type_at (world t).around place) ++ (law.ops ++ rest)) e frames core) rest e frames core g meant (meant_op t.seen.program o.covered row.Raise vs meant)
          done rest e frames core g meant vs memory left room given =
              let it = set_first t.p t.arguments (law.ops ++ rest) e frames core place (type_at (world t).around place) in
              let here : Represents s.around.layout s.known g meant.heap meant.left it.mid.blocks it.mid.statics = subst (λ (c : Core). Represents s.around.layout s.known g meant.heap meant.left c.blocks c.statics) (sym it.memory) memory in
              let left_here : meant.left ≡ it.mid.steps = left ∙ sym (ap (λ (c : Core). c.steps) it.memory) in
              acts s n o (length w.body.types) (At (set_nothing place (type_at (world t).around place) ++ (law.ops ++ rest)) e frames core) (At (law.ops ++ rest) e frames it.mid) rest e frames core it.mid g meant it.leads it.others it.room it.function here left_here (objects g it.mid meant here)
              (meant_op t.seen.program o.covered row.Raise vs meant)
              (law.follows t.p (numbers t) t.seen.exception t.arguments rest e frames it.mid g meant vs typed.small.has (stands it.mid g meant.heap meant.left here left_here) here (let q = it.room in omega (arith, q, room)) (under, tt) (given_there it.mid (it.others there.v other) vs given))
            where
              other : there.v ≢ o.result
              other = among_first o.result there.v (subst (λ args. among o.result args ≡ false) there.args_are fresh)

              under : there.v < length w.body.types
              under = (let low = (subst (AllUnder (length (variables t.known (world t) n))) there.args_are is.under).0 in omega (arith, low, enough))

              given_there : (mid : Core) → read mid.vars there.v ≡ read core.vars there.v → (vs : List Meant) → Given t.seen (world t).around g core (a ∷ []) vs → Given t.seen (world t).around g mid (a ∷ []) vs
              given_there mid same [] given = absurd given
              given_there mid same (v ∷ []) given = (subst (λ y. Holds (world t).around.layout t.seen g a.element y v) (sym same) given.0, tt)
              given_there mid same (v ∷ u ∷ vs) given = absurd given.1

  of_none : x ≡ NoneOnly → OpIsWritten s l o w
  of_none e =
      writes_as row.Raise t typed n graph o row_is is (λ xs. refl) refl (λ x y. refl) (λ x y u. refl) w early late enough throws_objects (λ args. refl) 0 (Make (small.Fail o.covered.attribute) ∷ []) (refl, tt)
      (failure_done (world t) t.seen row.Raise place (a ∷ []) (before o w) (none_written (world t) place a (before o w) none) (none_means (world t) t.seen a o.covered none))
    where
      none : kind_of a ≡ kind.Nothing
      none = ap kind_seen there.at ∙ none_at there.e (there.shaped ∙ e)

      throws_objects : ThrowsObjects s l o
      throws_objects g core meant after vs r memory given h =
          let same = none_means (world t) t.seen a o.covered none core g vs meant (subst (λ args. Given t.seen (world t).around g core args vs) args_is given) in
          objects g core meant memory r (error_thrown o.covered meant after r (sym same ∙ ap (λ p. meant_op t.seen.program o.covered p vs meant) (sym row_is) ∙ h)).0

  by_shape : (y : Shape) → x ≡ y → OpIsWritten s l o w
  by_shape NoneOnly e = of_none e
  by_shape (Inst c r) e = of_instance c r e
  by_shape y e = absurd (never_asked row.Raise t typed n graph o row_is is (λ xs. refl) refl (λ x y. refl) (λ x y u. refl) (asked_of row.Raise t typed n graph o row_is is (λ xs. refl) refl (λ x y. refl) (λ x y u. refl) y e))

pub exceptions_are_raised : ExceptionsAreRaised
exceptions_are_raised t typed n graph o row_is is fresh w early late enough = by_shape t typed n graph o row_is is fresh w early late enough (x t typed n graph o row_is is fresh w early late enough) refl
