-- Operations with one operand, in a program that has types: what is known of the operand and of the result.
use Rattle.std.proofs.Common.{◌≡◌, ◌≤◌, ℕ, Bool, true, false, List, [], ◌∷◌, length, map, Some, ap, subst}
use Rattle.ann_lattice.specs.Assign.{Under}
use Rattle.ann_lattice.specs.Kind.{given, misfit}
use Rattle.ann_lattice.specs.Order.{Below}
use Rattle.ann_lattice.specs.Row.{counted, fitting, of_none, of_one, of_three, of_two}
use Rattle.ann_lattice.specs.Shape.{Shape, Nothing, shape}
use Rattle.conversion_laws.specs.Ordered.{IsLaid}
use Rattle.flow_graph.specs.declared.graph.Graph.{Graph}
use Rattle.flow_graph.specs.declared.graph.Op.{Op}
use Rattle.growth_laws.specs.Growing.{Grows}
use Rattle.helper_stands.specs.Asks.{MayBeAsked}
use Rattle.lower_laws.specs.Asked.{Ask}
use Rattle.object_laws.specs.Done.{AllAsked, IsDone}
use Rattle.rpy_meaning.specs.declared.row.RowOp.{RowOp}
use Rattle.rtyped_laws.specs.Objects.{OfClasses}
use Rattle.rtyped_runs.specs.Laws.{ThrowsObjects, args_of, before, of_classes}
use Rattle.rtyped_runs.specs.Parts.{OpIsWritten}
use Rattle.rtyper_class.specs.Lowering.{lower_class_op}
use Rattle.rtyper_data.specs.Seen.{Operand, Place, Writing}
use Rattle.rtyper_dict.specs.Lowering.{is_of_dicts}
use Rattle.rtyper_program.specs.Blocks.{op_of}
use Rattle.rtyper_program.specs.Graphs.{variables}
use Rattle.rtyper_program.specs.Seen.{Lowered, operand_of, place_of}
use Rattle.sound_rows.specs.Sound.{Fits}
use Rattle.typed_rows.specs.Programs.{Typed, IsTyped, first, last, layout, same, setting, world}
use Rattle.typed_rows.specs.Rows.{IsOp, lowered_in}
use Rattle.class_rows.proofs.Common.{ThrowsBuiltin, as_done, classes_write, classes_write_as, first_laid}
use Rattle.class_rows.proofs.Fitting.{OneOperand, given_so, misfits, one_operand, one_shape, plain}

module _ (r : RowOp) (t : Typed) (typed : IsTyped t) (n : ℕ) (graph : Graph) (o : Op) (row_is : o.op ≡ r) (is : IsOp t n o)
    (counts : (xs : List Shape) → fitting t.whole.tables r xs Nothing ≡ counted t.whole.tables r xs Nothing ∷ []) (zero : of_none r ≡ misfit) (two : (x y : Shape) → of_two t.whole.tables r x y Nothing ≡ misfit) (three : (x y u : Shape) → of_three r x y u ≡ misfit) where
  abbrev pub xs : List Shape
  xs = map shape is.elements

  abbrev pub z : Shape
  z = shape is.result

  abbrev pub l : Lowered
  l = lowered_in t n graph

  abbrev pub Asked : Shape → Type 0
  Asked x = Below t.whole.tables.classes t.assigned.same x z

  pub fits : Fits t.whole t.assigned n r o.node xs z
  fits = subst (λ r. Fits t.whole t.assigned n r o.node xs z) row_is is.fits

  asked : Asked (counted t.whole.tables r xs Nothing)
  asked = (subst (λ (ys : List Shape). Under t.whole.tables.classes t.assigned.same ys z) (counts xs) (plain t.whole t.assigned n o.node r xs z fits is.some)).0

  pub one : (x : Shape) × (xs ≡ x ∷ [])
  one = one_shape t.whole t.assigned n o.node r xs z fits zero two three xs asked

  pub operand : OneOperand t n o.args is.elements one.0
  operand = one_operand t n o.args is.elements one.0 is.are one.1

  abbrev pub a : Operand
  a = operand_of l operand.v

  pub args_is : args_of l o ≡ a ∷ []
  args_is = ap (map (operand_of l)) operand.args_are

  pub element_is : a.element ≡ Some operand.e
  element_is = operand.at

  pub operand_laid : IsLaid (layout t) (same t) operand.e
  operand_laid = first_laid t is.elements operand.e [] operand.elements_are is.laid

  -- what the row asks of an operand of this shape
  pub asked_of : (x : Shape) → one.0 ≡ x → Asked (of_one t.whole.tables r x Nothing)
  asked_of x e = subst (λ x. Asked (of_one t.whole.tables r x Nothing)) e (subst (λ ys. Asked (counted t.whole.tables r ys Nothing)) one.1 asked)

  pub given_in : (b : Bool) (x : Shape) → Asked (given b x) → (b ≡ true) × Asked x
  given_in b x h = given_so t.whole t.assigned n o.node r xs z fits b x h

  pub never_asked : Asked misfit → ⊥
  never_asked b = misfits t.whole t.assigned n o.node r xs z fits b

  module _ (w : Writing) (early : Grows (first t) w.found) (late : Grows (op_of l o w).found (last t)) (enough : length (variables t.known (world t) n) ≤ length w.body.types) where
    abbrev pub place : Place
    place = place_of l o.result

    pub writes_so : ThrowsBuiltin t typed n graph o w early late → ((args : List Operand) → is_of_dicts r args ≡ false) → (blocks : ℕ) (asks : List Ask) → AllAsked (MayBeAsked OfClasses) asks (before o w).found
        → IsDone (of_classes (world t)) blocks t.seen (world t).around r o.covered asks (lower_class_op (world t) r place (a ∷ []) (before o w)) place (a ∷ []) (before o w) → OpIsWritten (setting t) l o w
    writes_so builtin no_dict blocks asks may law = classes_write t typed n graph o w early late is enough builtin blocks asks may (as_done t typed n graph o w early late r (a ∷ []) row_is args_is (no_dict (a ∷ [])) blocks asks law)

    pub writes_as : ThrowsObjects (setting t) l o → ((args : List Operand) → is_of_dicts r args ≡ false) → (blocks : ℕ) (asks : List Ask) → AllAsked (MayBeAsked OfClasses) asks (before o w).found
        → IsDone (of_classes (world t)) blocks t.seen (world t).around r o.covered asks (lower_class_op (world t) r place (a ∷ []) (before o w)) place (a ∷ []) (before o w) → OpIsWritten (setting t) l o w
    writes_as throws no_dict blocks asks may law = classes_write_as t typed n graph o w early late is enough throws blocks asks may (as_done t typed n graph o w early late r (a ∷ []) row_is args_is (no_dict (a ∷ [])) blocks asks law)
