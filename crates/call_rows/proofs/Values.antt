-- Values that are called.
use Rattle.std.proofs.Common.{◌≡◌, ◌≤◌, ℕ, Bool, true, false, List, [], ◌∷◌, ◌++◌, length, map, Option, Some, None, refl, sym, ap, ◌∙◌, subst, arith}
use Rattle.std.specs.Prelude.{slice_get}
use Rattle.ann_element.specs.declared.element.Element.{Element}
use Rattle.ann_lattice.specs.Assign.{at}
use Rattle.ann_lattice.specs.Order.{Below}
use Rattle.ann_lattice.specs.Shape.{Shape, shape}
use Rattle.ann_rules.specs.Asks.{asks, reach}
use Rattle.flow_graph.specs.declared.graph.Graph.{Graph}
use Rattle.flow_graph.specs.declared.graph.Op.{Op}
use Rattle.rpy_meaning.specs.declared.row.RowOp.TheVariants as row
use Rattle.rpy_meaning.specs.Operations.{op as meant_op}
use Rattle.rpy_meaning.specs.World.{World as MeantWorld, Throws}
use Rattle.rpy_tree.specs.Value.{Value as Meant}
use Rattle.rtyper_class.specs.Lowering.{lower_class_op}
use Rattle.rtyper_data.specs.Seen.{Operand, Place, Writing}
use Rattle.rtyper_layout.specs.Types.{type_of, type_seen}
use Rattle.rtyper_op.specs.Lowering.{is_never}
use Rattle.rtyper_program.specs.Blocks.{op_of}
use Rattle.rtyper_program.specs.Graphs.{variables}
use Rattle.rtyper_program.specs.Seen.{Lowered, element_at, operand_of, place_of}
use Rattle.call_conversion_laws.specs.Calls.{Takes}
use Rattle.conversion_laws.specs.Asked.{asks_for}
use Rattle.growth_laws.specs.Growing.{Grows}
use Rattle.passing_laws.specs.Passing.{items_of, pass_asks, tuples_of}
use Rattle.rtyped_runs.specs.Laws.{args_of, before}
use Rattle.rtyped_runs.specs.Parts.{OpIsWritten}
use Rattle.sound_rows.specs.Sound.{AllMet, Fits}
use Rattle.typed_rows.specs.Programs.{Typed, IsTyped, first, last, layout, setting, world}
use Rattle.typed_rows.specs.Rows.{IsOp, lowered_in}
use Rattle.class_rows.proofs.Common.{all_come}
use Rattle.class_rows.proofs.Fitting.{misfits, of_parts}
use Rattle.class_rows.proofs.Standing.{AllAlways, both_always, converts_always}
use Rattle.call_rows.specs.Calls as calls
use Rattle.call_rows.specs.Calls.{FunctionsAreCalled, MethodsOfClassesAreCalled, TakesOperands}
use Rattle.call_rows.proofs.Arguments.{takes_so}
use Rattle.call_rows.proofs.Calling.{call_met}
use Rattle.call_rows.proofs.Written.{called_so, passing_always}
use Rattle.std.specs.Prelude.{if◌then◌else◌}
use Rattle.ann_element.specs.declared.element.Element.TheVariants as element
use Rattle.ann_lattice.specs.Kind.{is_nothing, some_nothing}
use Rattle.ann_lattice.specs.Row.{call_value}
use Rattle.ann_lattice.specs.Shape.{NoneOnly, Fun}
use Rattle.ann_lattice.specs.Shape.{Nothing as ShapeNothing}
use Rattle.csub_tree.specs.State.{Core}
use Rattle.rpy_meaning.specs.declared.row.Covers.{Covers}
use Rattle.rpy_meaning.specs.Tree.{Program}
use Rattle.rpy_meaning.specs.World.{attribute_error}
use Rattle.rpy_tree.specs.Value.{Flag, Word, Text, Nothing, Tuple, Ref, Fun as MeantFun}
use Rattle.rtyper_class.specs.Lowering.{functions_in, lowered as class_lowered, value_call, value_call_of}
use Rattle.rtyper_class.specs.Seen.{World}
use Rattle.rtyper_data.specs.Seen.{kind_of}
use Rattle.rtyper_data.specs.declared.small.Small.TheVariants as small
use Rattle.rtyper_layout.specs.Kinds.{kind_seen}
use Rattle.rtyper_layout.specs.declared.kind.Kind.TheVariants as kind
use Rattle.rtyper_list.specs.Lowering.{lower_list_op}
use Rattle.rtyper_op.specs.Lowering.{failure}
use Rattle.rtyper_program.specs.Raises.{has_exceptions}
use Rattle.lower_laws.specs.Asked.{Make}
use Rattle.object_laws.specs.Ghost.{Ghost}
use Rattle.object_laws.specs.Known.{Known}
use Rattle.object_laws.specs.Values.{Given}
use Rattle.object_laws.proofs.Nothings.{nothing_held}
use Rattle.class_laws.specs.Instances.{present_asks}
use Rattle.call_conversion_laws.proofs.Methods.{values_are_called as value_of}
use Rattle.typed_rows.specs.Rows.{AreElements}
use Rattle.class_rows.proofs.Common.{ThrowsBuiltin, as_done, classes_write, error_thrown, or_second, rest_laid, throws_objects}
use Rattle.class_rows.proofs.Failing.{failure_done}
use Rattle.class_rows.proofs.Fitting.{plain as plain_of}
use Rattle.class_rows.proofs.Shapes.{function_at, none_at}
use Rattle.class_rows.proofs.Standing.{both_always}
use Rattle.call_rows.specs.Calls.{IsOneFunction, ValuesAreCalled}

-- ---- what is thrown

value_throws : (p : Program) (c : Covers) (vs : List Meant) (w after : MeantWorld) (r : ℕ) → meant_op p c row.CallValue vs w ≡ Throws r after → attribute_error c w ≡ Throws r after
value_throws p c [] w after r e = absurd (cc)
value_throws p c (MeantFun f ∷ vs) w after r e = absurd (cc)
value_throws p c (Nothing ∷ vs) w after r e = e
value_throws p c (Ref i ∷ vs) w after r e = absurd (cc)
value_throws p c (Word z ∷ vs) w after r e = absurd (cc)
value_throws p c (Flag z ∷ vs) w after r e = absurd (cc)
value_throws p c (Text z ∷ vs) w after r e = absurd (cc)
value_throws p c (Tuple z ∷ vs) w after r e = absurd (cc)

-- ---- `None`

none_is_no_function : (s : Option Element) → kind_seen s ≡ kind.Nothing → functions_in s ≡ None
none_is_no_function None h = refl
none_is_no_function (Some (element.Func fs true)) h = absurd (cc)
none_is_no_function (Some (element.Func fs false)) h = absurd (cc)
none_is_no_function (Some _) h = refl

none_written : (world : World) (place : Place) (a : Operand) (args : List Operand) (w : Writing) → kind_of a ≡ kind.Nothing → is_never (a ∷ args) ≡ false → lower_class_op world row.CallValue place (a ∷ args) w ≡ failure world.around place w
unfolding class_lowered value_call
none_written world place a args w none comes = ap (λ b. if b then lower_list_op world.around row.CallValue place (a ∷ args) w else class_lowered world row.CallValue place (a ∷ args) w) comes ∙ ap (λ fs. value_call_of world place a fs args w) (none_is_no_function a.element none)

none_means : (around : World) (known : Known) (a : Operand) (args : List Operand) (c : Covers) → kind_of a ≡ kind.Nothing → (core : Core) (g : Ghost) (vs : List Meant) (meant : MeantWorld) → Given known around.around g core (a ∷ args) vs → meant_op known.program c row.CallValue vs meant ≡ attribute_error c meant
none_means around known a args c none core g [] meant given = absurd given
none_means around known a args c none core g (v ∷ vs) meant given = ap (λ v. meant_op known.program c row.CallValue (v ∷ vs) meant) (nothing_held none given.0)

-- ---- the operands

record FirstOperand (t : Typed) (n : ℕ) (args : List ℕ) (es : List Element) : Type 0 where
  v : ℕ
  vs : List ℕ
  e : Element
  cs : List Element
  args_are : args ≡ v ∷ vs
  elements_are : es ≡ e ∷ cs
  at_first : element_at t.known.annotation n v ≡ Some e
  others : AreElements t n vs cs

module _ (t : Typed) (typed : IsTyped t) (n : ℕ) (graph : Graph) (o : Op) (row_is : o.op ≡ row.CallValue) (is : IsOp t n o) (told : IsOneFunction t n o) (w : Writing) (early : Grows (first t) w.found) (late : Grows (op_of (lowered_in t n graph) o w).found (last t)) (enough : length (variables t.known (world t) n) ≤ length w.body.types) where
  abbrev l : Lowered
  l = lowered_in t n graph

  abbrev place : Place
  place = place_of l o.result

  abbrev xs : List Shape
  xs = map shape is.elements

  abbrev z : Shape
  z = shape is.result

  fits : Fits t.whole t.assigned n row.CallValue o.node xs z
  fits = subst (λ r. Fits t.whole t.assigned n r o.node xs z) row_is is.fits

  asked : Below t.whole.tables.classes t.assigned.same (call_value xs ShapeNothing) z
  asked = (plain_of t.whole t.assigned n o.node row.CallValue xs z fits is.some).0

  first_there : FirstOperand t n o.args is.elements
  first_there = by o.args is.elements is.are asked
    where
      by : (args : List ℕ) (es : List Element) → AreElements t n args es → Below t.whole.tables.classes t.assigned.same (call_value (map shape es) ShapeNothing) z → FirstOperand t n args es
      by [] [] are b = absurd (misfits t.whole t.assigned n o.node row.CallValue xs z fits b)
      by [] (e ∷ es) are b = absurd are
      by (v ∷ vs) [] are b = absurd are
      by (v ∷ vs) (e ∷ es) are b = record { v = v; vs = vs; e = e; cs = es; args_are = refl; elements_are = refl; at_first = are.0; others = are.1 }

  abbrev a : Operand
  a = operand_of l first_there.v

  abbrev args : List Operand
  args = map (operand_of l) first_there.vs

  abbrev ys : List Shape
  ys = map shape first_there.cs

  args_is : args_of l o ≡ a ∷ args
  args_is = ap (map (operand_of l)) first_there.args_are

  builtin : ThrowsBuiltin t typed n graph o w early late
  builtin vs meant after x e =
      let b = error_thrown o.covered meant after x (value_throws t.seen.program o.covered vs meant after x (ap (λ p. meant_op t.seen.program o.covered p vs meant) (sym row_is) ∙ e)) in
      (b.0, subst (λ r. has_exceptions t.known.annotation n (record o { op = r }) ≡ true) (sym row_is) b.1)

  comes : is_never (a ∷ args) ≡ false
  comes = all_come t n graph (first_there.v ∷ first_there.vs) (first_there.e ∷ first_there.cs) (first_there.at_first, first_there.others) (subst (λ es. some_nothing (map shape es) ≡ false) first_there.elements_are is.some)

  comes_behind : is_never args ≡ false
  comes_behind = all_come t n graph first_there.vs first_there.cs first_there.others (or_second (is_nothing (shape first_there.e)) (some_nothing ys) (subst (λ es. some_nothing (map shape es) ≡ false) first_there.elements_are is.some))

  of_none : shape first_there.e ≡ NoneOnly → OpIsWritten (setting t) l o w
  of_none e =
      let none : kind_of a ≡ kind.Nothing = ap kind_seen first_there.at_first ∙ none_at first_there.e e in
      classes_write t typed n graph o w early late is enough builtin 0 (Make (small.Fail o.covered.attribute) ∷ []) (refl, tt)
      (as_done t typed n graph o w early late row.CallValue (a ∷ args) row_is args_is refl 0 (Make (small.Fail o.covered.attribute) ∷ [])
      (failure_done (world t) t.seen row.CallValue place (a ∷ args) (before o w) (none_written (world t) place a args (before o w) none comes) (none_means (world t) t.seen a args o.covered none)))

  module _ (fs : List ℕ) (q : Bool) (e : shape first_there.e ≡ Fun fs q) where
    at_is : first_there.e ≡ element.Func fs q
    at_is = function_at first_there.e fs q e

    element_is : a.element ≡ Some (element.Func fs q)
    element_is = first_there.at_first ∙ ap Some at_is

    so : (f : ℕ) × ((fs ≡ f ∷ []) × calls.Takes t f (length first_there.vs))
    so = told first_there.v first_there.vs fs q first_there.args_are element_is

    abbrev f : ℕ
    f = so.0

    shapes_are : xs ≡ Fun (f ∷ []) q ∷ ys
    shapes_are = ap (map shape) first_there.elements_are ∙ ap (λ x. x ∷ ys) (e ∙ ap (λ fs. Fun fs q) so.1.0)

    met : AllMet t.whole.tables.classes t.assigned (reach t.whole f ys)
    met = call_met t f ys (subst (λ us. AllMet t.whole.tables.classes t.assigned (asks t.whole t.assigned row.CallValue us)) shapes_are fits.met)

    under : Below t.whole.tables.classes t.assigned.same (at t.assigned (t.whole.places.result f)) z
    under = (of_parts t.whole t.assigned n o.node row.CallValue (Fun (f ∷ []) q ∷ ys) z (subst (λ us. Fits t.whole t.assigned n row.CallValue o.node us z) shapes_are fits) (subst (λ us. some_nothing us ≡ false) shapes_are is.some)).0.0

    abbrev it : Takes (world t) t.seen f args place
    it = takes_so t typed f n graph first_there.vs first_there.cs first_there.others (rest_laid t is.elements first_there.e first_there.cs first_there.elements_are is.laid) so.1.1 met o.result is.result is.result_is is.result_laid under

    of_function : OpIsWritten (setting t) l o w
    of_function =
        called_so row.CallValue t typed n graph o row_is is (a ∷ args) args_is refl w early late enough (throws_objects t typed n graph o w early late is builtin) so.1.1.stay (tuples_of it.here) (items_of it.here)
        (present_asks (world t) a q o.covered ++ pass_asks (layout t) args it.here) (asks_for (layout t) (type_of (layout t) it.result) (type_seen (layout t) place.element)) (slice_get (world t).around.functions f) (length args) it.missing
        (both_always (present_asks (world t) a q o.covered) (pass_asks (layout t) args it.here) (present_always q) (passing_always t args it.here)) (converts_always (layout t) (type_of (layout t) it.result) (type_seen (layout t) place.element))
        (value_of (world t) t.seen f q place a args (before o w) typed.small.no_tuple comes_behind (let low = is.result_under in omega (arith, low, enough)) (element_is ∙ ap (λ fs. Some (element.Func fs q)) so.1.0) it)
      where
        present_always : (q : Bool) → AllAlways (present_asks (world t) a q o.covered)
        present_always true = (refl, tt)
        present_always false = tt

  by_shape : (x : Shape) → shape first_there.e ≡ x → OpIsWritten (setting t) l o w
  by_shape NoneOnly e = of_none e
  by_shape (Fun fs q) e = of_function fs q e
  by_shape x e = absurd (misfits t.whole t.assigned n o.node row.CallValue xs z fits (subst (λ us. Below t.whole.tables.classes t.assigned.same (call_value us ShapeNothing) z) (ap (map shape) first_there.elements_are ∙ ap (λ x. x ∷ ys) e) asked))

pub values_are_called : ValuesAreCalled
values_are_called t typed n graph o row_is is told w early late enough = by_shape t typed n graph o row_is is told w early late enough (shape (first_there t typed n graph o row_is is told w early late enough).e) refl
