-- Functions that are called by their names.
use Rattle.std.proofs.Common.{◌≡◌, ◌<◌, ◌≤◌, ℕ, false, List, [], ◌∷◌, length, map, refl, sym, ap, ◌∙◌, subst, arith}
use Rattle.std.specs.Prelude.{slice_get}
use Rattle.ann_lattice.specs.Assign.{at}
use Rattle.ann_lattice.specs.Order.{Below}
use Rattle.ann_lattice.specs.Row.{call_of}
use Rattle.ann_lattice.specs.Shape.{Shape, Inst, shape}
use Rattle.ann_rules.specs.Asks.{asks, from_each, reach, tie_each}
use Rattle.class_desc.specs.Line as line
use Rattle.flow_graph.specs.declared.graph.Graph.{Graph}
use Rattle.flow_graph.specs.declared.graph.Op.{Op}
use Rattle.rpy_meaning.specs.declared.row.RowOp.{RowOp}
use Rattle.rpy_meaning.specs.declared.row.RowOp.TheVariants as row
use Rattle.rpy_meaning.specs.Operations.{op as meant_op}
use Rattle.rpy_meaning.specs.World.{World as MeantWorld, Throws}
use Rattle.rpy_tree.specs.Value.{Value as Meant}
use Rattle.rtyper_data.specs.Seen.{Place, Writing}
use Rattle.rtyper_dict.specs.Lowering.{is_of_dicts}
use Rattle.rtyper_layout.specs.Types.{type_of, type_seen}
use Rattle.rtyper_op.specs.Lowering.{is_never}
use Rattle.rtyper_program.specs.Blocks.{op_of}
use Rattle.rtyper_program.specs.Graphs.{variables}
use Rattle.rtyper_program.specs.Seen.{Lowered, place_of}
use Rattle.call_conversion_laws.specs.Called.{IsCalled}
use Rattle.call_conversion_laws.specs.Calls.{Takes}
use Rattle.call_conversion_laws.specs.Defaults.{stood_in}
use Rattle.call_conversion_laws.proofs.Functions.{calls_are_done, calls_of_classes_are_done}
use Rattle.conversion_laws.specs.Asked.{asks_for}
use Rattle.growth_laws.specs.Growing.{Grows}
use Rattle.passing_laws.specs.Passing.{items_of, pass_asks, tuples_of}
use Rattle.rtyped_runs.specs.Laws.{ThrowsObjects, args_of, before}
use Rattle.rtyped_runs.specs.Parts.{OpIsWritten}
use Rattle.sound_rows.proofs.Containers.{met_append}
use Rattle.sound_rows.specs.Sound.{AllMet, Fits}
use Rattle.typed_rows.specs.Programs.{Typed, IsTyped, first, last, layout, setting, world}
use Rattle.typed_rows.specs.Rows.{IsOp, lowered_in}
use Rattle.class_rows.proofs.Common.{all_come}
use Rattle.class_rows.proofs.Fitting.{given_so, misfits, of_parts}
use Rattle.class_rows.proofs.Standing.{converts_always}
use Rattle.call_rows.specs.Calls.{FunctionsAreCalled, MethodsOfClassesAreCalled, TakesOperands}
use Rattle.call_rows.proofs.Arguments.{takes_so}
use Rattle.call_rows.proofs.Written.{called_so, passing_always}

-- ---- the rows

pub call_met : (t : Typed) (f : ℕ) (xs : List Shape) → AllMet t.whole.tables.classes t.assigned (asks t.whole t.assigned (row.Call f) xs) → AllMet t.whole.tables.classes t.assigned (reach t.whole f xs)
call_met t f xs met =
    (met_append t.whole.tables.classes t.assigned (reach t.whole f xs) [] (met_append t.whole.tables.classes t.assigned (from_each (λ f. reach t.whole f xs) (f ∷ [])) (tie_each t.whole t.assigned false (f ∷ []) (f ∷ [])) met).0).0

-- a call of a function by its name, as its law says
module _ (r : RowOp) (f : ℕ) (t : Typed) (typed : IsTyped t) (n : ℕ) (graph : Graph) (o : Op) (row_is : o.op ≡ r) (is : IsOp t n o) (told : TakesOperands f t n o) (met : AllMet t.whole.tables.classes t.assigned (reach t.whole f (map shape is.elements)))
    (under : Below t.whole.tables.classes t.assigned.same (at t.assigned (t.whole.places.result f)) (shape is.result)) (plain : is_of_dicts r (args_of (lowered_in t n graph) o) ≡ false) (no_throw : (vs : List Meant) (meant after : MeantWorld) (x : ℕ) → meant_op t.seen.program o.covered r vs meant ≡ Throws x after → ⊥)
    (w : Writing) (early : Grows (first t) w.found) (late : Grows (op_of (lowered_in t n graph) o w).found (last t)) (enough : length (variables t.known (world t) n) ≤ length w.body.types) where
  abbrev l : Lowered
  l = lowered_in t n graph

  abbrev place : Place
  place = place_of l o.result

  abbrev takes : Takes (world t) t.seen f (args_of l o) place
  takes = takes_so t typed f n graph o.args is.elements is.are is.laid told met o.result is.result is.result_is is.result_laid under

  throws : ThrowsObjects (setting t) l o
  throws g core meant after vs x stands given e = absurd (no_throw vs meant after x (ap (λ p. meant_op t.seen.program o.covered p vs meant) (sym row_is) ∙ e))

  comes : is_never (args_of l o) ≡ false
  comes = all_come t n graph o.args is.elements is.are is.some

  inside_place : place.variable < length w.body.types
  inside_place = (let low = is.result_under in omega (arith, low, enough))

  abbrev Law : Type 0
  Law = IsCalled (tuples_of takes.here) (items_of takes.here) (world t) t.seen r o.covered (pass_asks (layout t) (args_of l o) takes.here) (stood_in (world t).around (slice_get (world t).around.functions f) (length (args_of l o)) takes.missing)
      (asks_for (layout t) (type_of (layout t) takes.result) (type_seen (layout t) place.element)) place (args_of l o) (before o w)

  call_written : (is_never (args_of l o) ≡ false → place.variable < length w.body.types → Law) → OpIsWritten (setting t) l o w
  call_written law =
      called_so r t typed n graph o row_is is (args_of l o) refl plain w early late enough throws told.stay (tuples_of takes.here) (items_of takes.here) (pass_asks (layout t) (args_of l o) takes.here) (asks_for (layout t) (type_of (layout t) takes.result) (type_seen (layout t) place.element))
      (slice_get (world t).around.functions f) (length (args_of l o)) takes.missing (passing_always t (args_of l o) takes.here) (converts_always (layout t) (type_of (layout t) takes.result) (type_seen (layout t) place.element)) (law comes inside_place)

pub functions_are_called : FunctionsAreCalled
functions_are_called f t typed n graph o row_is is told w early late enough =
    let xs : List Shape = map shape is.elements in
    let fits : Fits t.whole t.assigned n (row.Call f) o.node xs (shape is.result) = subst (λ r. Fits t.whole t.assigned n r o.node xs (shape is.result)) row_is is.fits in
    let met = call_met t f xs fits.met in
    let under = (of_parts t.whole t.assigned n o.node (row.Call f) xs (shape is.result) fits is.some).0.0 in
    call_written (row.Call f) f t typed n graph o row_is is told met under refl (λ vs meant after x e. absurd (cc)) w early late enough
    (λ comes inside. calls_are_done (world t) t.seen f (place_of (lowered_in t n graph) o.result) (args_of (lowered_in t n graph) o) (before o w) o.covered typed.small.no_tuple comes inside
    (takes (row.Call f) f t typed n graph o row_is is told met under refl (λ vs meant after x e. absurd (cc)) w early late enough))

-- what is given where the first operand is an instance of the class
called_under : (t : Typed) (n : ℕ) (o : Op) (r : RowOp) (xs ys : List Shape) (z p : Shape) (fits : Fits t.whole t.assigned n r o.node ys z) (class : ℕ) → Below t.whole.tables.classes t.assigned.same (call_of t.whole.tables.classes class xs p) z → Below t.whole.tables.classes t.assigned.same p z
called_under t n o r (Inst d false ∷ xs) ys z p fits class under = (given_so t.whole t.assigned n o.node r ys z fits (line.is_below t.whole.tables.classes d class) p under).1
called_under t n o r xs ys z p fits class under = absurd (misfits t.whole t.assigned n o.node r ys z fits under)

method_met : (t : Typed) (c f : ℕ) (xs : List Shape) → AllMet t.whole.tables.classes t.assigned (asks t.whole t.assigned (row.CallOf c f) xs) → AllMet t.whole.tables.classes t.assigned (reach t.whole f xs)
method_met t c f xs met =
    (met_append t.whole.tables.classes t.assigned (reach t.whole f xs) [] (met_append t.whole.tables.classes t.assigned (from_each (λ f. reach t.whole f xs) (f ∷ [])) (tie_each t.whole t.assigned false (f ∷ []) (f ∷ [])) met).0).0

pub methods_of_classes_are_called : MethodsOfClassesAreCalled
methods_of_classes_are_called c f t typed n graph o row_is is told w early late enough =
    let xs : List Shape = map shape is.elements in
    let fits : Fits t.whole t.assigned n (row.CallOf c f) o.node xs (shape is.result) = subst (λ r. Fits t.whole t.assigned n r o.node xs (shape is.result)) row_is is.fits in
    let met = method_met t c f xs fits.met in
    let under = called_under t n o (row.CallOf c f) xs xs (shape is.result) (at t.assigned (t.whole.places.result f)) fits c (of_parts t.whole t.assigned n o.node (row.CallOf c f) xs (shape is.result) fits is.some).0.0 in
    call_written (row.CallOf c f) f t typed n graph o row_is is told met under refl (λ vs meant after x e. absurd (cc)) w early late enough
    (λ comes inside. calls_of_classes_are_done c (world t) t.seen f (place_of (lowered_in t n graph) o.result) (args_of (lowered_in t n graph) o) (before o w) o.covered typed.small.no_tuple comes inside
    (takes (row.CallOf c f) f t typed n graph o row_is is told met under refl (λ vs meant after x e. absurd (cc)) w early late enough))
