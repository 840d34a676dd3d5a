-- Attributes that are stored.
use Rattle.std.proofs.Common.{◌≡◌, ◌≤◌, ℕ, suc, ◌+◌, ◌==◌, Bool, true, false, List, [], ◌∷◌, ◌++◌, length, map, Option, Some, None, refl, sym, ap, ◌∙◌, subst}
use Rattle.std.specs.Prelude.{◌||◌, slice_get, if◌then◌else◌}
use Rattle.std.specs.Str.{bytes_eq}
use Rattle.ann_element.specs.declared.element.Element.{Element}
use Rattle.ann_element.specs.declared.element.Element.TheVariants as element
use Rattle.ann_lattice.specs.Assign.{at}
use Rattle.ann_lattice.specs.Kind.{is_nothing, some_nothing}
use Rattle.ann_lattice.specs.Order.{Below}
use Rattle.ann_lattice.specs.Row.{counted, has_home, store_attribute}
use Rattle.ann_lattice.specs.Shape.{Shape, NoneOnly, Inst, shape}
use Rattle.ann_lattice.specs.Shape.{Nothing as ShapeNothing}
use Rattle.ann_rules.specs.Asks.{asks, store, to_attribute}
use Rattle.class_desc.specs.Tables.{Tables, home}
use Rattle.csub_tree.specs.State.{Core}
use Rattle.flow_graph.specs.declared.graph.Graph.{Graph}
use Rattle.flow_graph.specs.declared.graph.Op.{Op}
use Rattle.laid_laws.specs.Laid.{Attribute, InAttributes}
use Rattle.rpy_meaning.specs.declared.row.Covers.{Covers}
use Rattle.rpy_meaning.specs.declared.row.RowOp.{RowOp}
use Rattle.rpy_meaning.specs.declared.row.RowOp.TheVariants as row
use Rattle.rpy_meaning.specs.Operations.{op as meant_op, set_attribute as meant_set}
use Rattle.rpy_meaning.specs.Tree.{Program}
use Rattle.rpy_meaning.specs.World.{World as MeantWorld, Throws, attribute_error}
use Rattle.rpy_tree.specs.Value.{Value as Meant, Flag, Word, Text, Nothing, Tuple, Fun, Ref, Object, Listed, Mapped, Instance}
use Rattle.rtyper_class.specs.Attributes.{Standing, place_in, standing, standing_at, standing_in}
use Rattle.rtyper_class.specs.Lowering.{lower_class_op, lowered, of_some, of_two, set_attribute, set_attribute_of}
use Rattle.rtyper_class.specs.Seen.{World, laid}
use Rattle.rtyper_data.specs.Seen.{Operand, Place, Writing, kind_of}
use Rattle.rtyper_data.specs.declared.small.Small.TheVariants as small
use Rattle.rtyper_layout.specs.Families.{attribute_place, place_from}
use Rattle.rtyper_layout.specs.Kinds.{kind_seen}
use Rattle.rtyper_layout.specs.Types.{type_of, type_seen}
use Rattle.rtyper_layout.specs.declared.classes.Laid.{Laid}
use Rattle.rtyper_layout.specs.declared.kind.Kind.TheVariants as kind
use Rattle.rtyper_op.specs.Lowering.{failure, never_comes}
use Rattle.rtyper_program.specs.Blocks as blocks
use Rattle.rtyper_program.specs.Blocks.{op_of}
use Rattle.rtyper_program.specs.Graphs.{variables}
use Rattle.rtyper_program.specs.Raises.{has_exceptions}
use Rattle.rtyper_program.specs.Seen.{Lowered, operand_of, place_of}
use Rattle.lower_laws.specs.Asked.{Ask, Make}
use Rattle.lower_laws.proofs.Coming.{Comes}
use Rattle.object_laws.specs.Done.{Any}
use Rattle.object_laws.specs.Ghost.{Ghost}
use Rattle.object_laws.specs.Known.{Known}
use Rattle.object_laws.specs.Values.{Given}
use Rattle.object_laws.proofs.Nothings.{nothing_held}
use Rattle.class_laws.specs.Instances.{present_asks}
use Rattle.class_laws.proofs.Lowered.{class_two}
use Rattle.class_conversion_laws.specs.Attributes.{GoesBoth, HasClasses, references_stored, storing_asks}
use Rattle.class_conversion_laws.proofs.Storing.{attributes_are_stored as stored_of}
use Rattle.conversion_laws.specs.Asked.{asks_for}
use Rattle.conversion_laws.specs.Converted.{tuples_in}
use Rattle.conversion_laws.specs.Going.{Goes}
use Rattle.conversion_laws.specs.Ordered.{IsLaid}
use Rattle.converted_runs.proofs.Writing.{behind_operations_are_written}
use Rattle.growth_laws.specs.Growing.{Grows}
use Rattle.passing_laws.specs.Done.{IsDoneBehindWhere}
use Rattle.rtyped_runs.specs.Laws.{args_of, before}
use Rattle.rtyped_runs.specs.Parts.{OpIsWritten}
use Rattle.sound_rows.specs.Sound.{AllMet, Fits}
use Rattle.typed_rows.specs.Programs.{Typed, IsTyped, first, last, layout, numbers, same, setting, world}
use Rattle.typed_rows.specs.Rows.{IsOp, lowered_in}
use Rattle.typed_rows.proofs.Going.{elements_pass, inside}
use Rattle.class_rows.specs.Classes.{AttributesAreStored}
use Rattle.class_rows.proofs.Common.{ThrowsBuiltin, as_class, as_done, below_so, classes_write, early_before, error_thrown, first_laid, laid_operand, late_made, or_first, or_second, rest_laid, throws_objects}
use Rattle.class_rows.proofs.Failing.{failure_done}
use Rattle.class_rows.proofs.Fitting.{TwoOperands, given_so, misfits, plain, two_operands, two_shapes}
use Rattle.class_rows.proofs.Reading.{home_there}
use Rattle.class_rows.proofs.Shapes.{comes_at, instance_at, none_at}
use Rattle.class_rows.proofs.Standing.{AllAlways, both_always, converts_always, stood_so}
use Rattle.class_rows.proofs.Telling.{none_comes, none_is_no_instance}

-- ---- what is thrown

set_throws : (p : Program) (c : Covers) (name : List ℕ) (i : ℕ) (v : Meant) (o : Option Object) (w after : MeantWorld) (r : ℕ) → meant_set p c name i v o w ≡ Throws r after → attribute_error c w ≡ Throws r after
set_throws p c name i v None w after r e = absurd (cc)
set_throws p c name i v (Some (Listed vs)) w after r e = absurd (cc)
set_throws p c name i v (Some (Mapped vs)) w after r e = absurd (cc)
set_throws p c name i v (Some (Instance class vs)) w after r e = absurd (cc)

store_throws : (p : Program) (c : Covers) (name : List ℕ) (vs : List Meant) (w after : MeantWorld) (r : ℕ) → meant_op p c (row.StoreAttr name) vs w ≡ Throws r after → attribute_error c w ≡ Throws r after
store_throws p c name [] w after r e = absurd (cc)
store_throws p c name (v ∷ []) w after r e = absurd (cc)
store_throws p c name (Ref i ∷ v ∷ []) w after r e = set_throws p c name i v (slice_get w.heap i) w after r e
store_throws p c name (Nothing ∷ v ∷ []) w after r e = e
store_throws p c name (Word z ∷ v ∷ []) w after r e = absurd (cc)
store_throws p c name (Flag z ∷ v ∷ []) w after r e = absurd (cc)
store_throws p c name (Text z ∷ v ∷ []) w after r e = absurd (cc)
store_throws p c name (Tuple z ∷ v ∷ []) w after r e = absurd (cc)
store_throws p c name (Fun z ∷ v ∷ []) w after r e = absurd (cc)
store_throws p c name (v ∷ u ∷ x ∷ vs) w after r e = absurd (cc)

-- ---- `None`

none_written : (world : World) (name : List ℕ) (place : Place) (a b : Operand) (w : Writing) → kind_of a ≡ kind.Nothing → Comes b → lower_class_op world (row.StoreAttr name) place (a ∷ b ∷ []) w ≡ failure world.around place w
unfolding lowered of_some of_two set_attribute
none_written world name place a b w none comes = class_two world (row.StoreAttr name) place a b w (none_comes a none) comes ∙ ap (λ i. set_attribute_of world place name a b i w) (none_is_no_instance a.element none)

none_means : (around : World) (known : Known) (name : List ℕ) (a b : Operand) (c : Covers) → kind_of a ≡ kind.Nothing → (core : Core) (g : Ghost) (vs : List Meant) (meant : MeantWorld) → Given known around.around g core (a ∷ b ∷ []) vs → meant_op known.program c (row.StoreAttr name) vs meant ≡ attribute_error c meant
none_means around known name a b c none core g [] meant given = absurd given
none_means around known name a b c none core g (v ∷ []) meant given = absurd given.1
none_means around known name a b c none core g (v ∷ u ∷ []) meant given = ap (λ v. meant_op known.program c (row.StoreAttr name) (v ∷ u ∷ []) meant) (nothing_held none given.0)
none_means around known name a b c none core g (v ∷ u ∷ x ∷ vs) meant given = absurd given.1.1

-- ---- attributes stand in the annotation

later_in : (a : ℕ × List ℕ × Element) (more : List (ℕ × List ℕ × Element)) (e : Element) → InAttributes more e → InAttributes (a ∷ more) e
later_in a more e h = (suc h.0, h.1)

abbrev element_of : Option (ℕ × Element) → Element
element_of None = element.Unreached
element_of (Some at) = at.1

found_in : (n : ℕ) (attributes : List (ℕ × List ℕ × Element)) (h : ℕ) (name : List ℕ) (k : ℕ) (e : Element) → place_from n attributes h name ≡ Some (k, e) → InAttributes attributes e
found_in n [] h name k e q = absurd (cc)
found_in n (a ∷ more) h name k e q = by (found_in (n + 1) more h name k e) (found_in n more h name k e) (a.0 == h) (bytes_eq a.1 name) q
  where
    by : (place_from (n + 1) more h name ≡ Some (k, e) → InAttributes more e) → (place_from n more h name ≡ Some (k, e) → InAttributes more e) → (b c : Bool) → (if b then if c then Some (n, a.2) else place_from (n + 1) more h name else place_from n more h name) ≡ Some (k, e) → InAttributes (a ∷ more) e
    by next again true true q = (let same : a.2 ≡ e = ap element_of q in (0, (a.0, (a.1, ap (λ e. Some (a.0, a.1, e)) same))))
    by next again true false q = later_in a more e (next q)
    by next again false c q = later_in a more e (again q)

abbrev element_in : Option Standing → Element
element_in None = element.Unreached
element_in (Some s) = s.element

pub attribute_laid : (t : Typed) → IsTyped t → (c : ℕ) (name : List ℕ) (s : Standing) → place_in (world t) c name ≡ Some s → IsLaid (layout t) (same t) s.element
unfolding place_in
attribute_laid t typed c name s placed = typed.parts.laid s.element (Attribute (by (home t.classes c name) placed)) (typed.parts.free_attributes c name s placed)
  where
    of_place : (h : ℕ) (own : ℕ) (o : Option (ℕ × Element)) → attribute_place (world t).attributes h name ≡ o → standing own o ≡ Some s → InAttributes t.known.annotation.attributes s.element
    of_place h own None q e = absurd (cc)
    of_place h own (Some (k, d)) q e = (let same : d ≡ s.element = ap element_in e in found_in 0 (world t).attributes h name k s.element (q ∙ ap (λ d. Some (k, d)) same))

    of_laid : (h : ℕ) (o : Option Laid) → standing_in (world t) h name o ≡ Some s → InAttributes t.known.annotation.attributes s.element
    of_laid h None e = absurd (cc)
    of_laid h (Some l) e = of_place h l.own (attribute_place (world t).attributes h name) refl e

    by : (o : Option ℕ) → standing_at (world t) name o ≡ Some s → InAttributes t.known.annotation.attributes s.element
    by None e = absurd (cc)
    by (Some h) e = of_laid h (laid (world t) h) e

-- ---- the row

module _ (name : List ℕ) (t : Typed) (typed : IsTyped t) (n : ℕ) (graph : Graph) (o : Op) (row_is : o.op ≡ row.StoreAttr name) (is : IsOp t n o) (w : Writing) (early : Grows (first t) w.found)
    (late : Grows (op_of (lowered_in t n graph) o w).found (last t)) (enough : length (variables t.known (world t) n) ≤ length w.body.types) where
  abbrev r : RowOp
  r = row.StoreAttr name

  abbrev l : Lowered
  l = lowered_in t n graph

  abbrev place : Place
  place = place_of l o.result

  abbrev xs : List Shape
  xs = map shape is.elements

  abbrev z : Shape
  z = shape is.result

  abbrev Asked : Shape → Type 0
  Asked x = Below t.whole.tables.classes t.assigned.same x z

  fits : Fits t.whole t.assigned n r o.node xs z
  fits = subst (λ r. Fits t.whole t.assigned n r o.node xs z) row_is is.fits

  asked : Asked (counted t.whole.tables r xs ShapeNothing)
  asked = (plain t.whole t.assigned n o.node r xs z fits is.some).0

  two : (x : Shape) × ((y : Shape) × (xs ≡ x ∷ y ∷ []))
  two = two_shapes t.whole t.assigned n o.node r xs z fits refl (λ x. refl) (λ x y u. refl) xs asked

  abbrev x : Shape
  x = two.0

  abbrev y : Shape
  y = two.1.0

  there : TwoOperands t n o.args is.elements x y
  there = two_operands t n o.args is.elements x y is.are two.1.1

  abbrev a : Operand
  a = operand_of l there.v

  abbrev b : Operand
  b = operand_of l there.u

  args_is : args_of l o ≡ a ∷ b ∷ []
  args_is = ap (map (operand_of l)) there.args_are

  first_so : IsLaid (layout t) (same t) there.e
  first_so = first_laid t is.elements there.e (there.d ∷ []) there.elements_are is.laid

  second_so : IsLaid (layout t) (same t) there.d
  second_so = first_laid t (there.d ∷ []) there.d [] refl (rest_laid t is.elements there.e (there.d ∷ []) there.elements_are is.laid)

  some : some_nothing (x ∷ y ∷ []) ≡ false
  some = subst (λ ys. some_nothing ys ≡ false) two.1.1 is.some

  comes : Comes b
  comes = ap (λ e. never_comes (kind_seen e)) there.second_at ∙ comes_at there.d (ap is_nothing there.second_shaped ∙ or_first (is_nothing y) false (or_second (is_nothing x) (is_nothing y || false) some))

  builtin : ThrowsBuiltin t typed n graph o w early late
  builtin vs meant after i e =
      let b = error_thrown o.covered meant after i (store_throws t.seen.program o.covered name vs meant after i (ap (λ p. meant_op t.seen.program o.covered p vs meant) (sym row_is) ∙ e)) in
      (b.0, subst (λ r. has_exceptions t.known.annotation n (record o { op = r }) ≡ true) (sym row_is) b.1)

  asked_of : (u : Shape) → x ≡ u → Asked (store_attribute t.whole.tables name u y)
  asked_of u e = subst (λ x. Asked (store_attribute t.whole.tables name x y)) e (subst (λ ys. Asked (counted t.whole.tables r ys ShapeNothing)) two.1.1 asked)

  of_none : x ≡ NoneOnly → OpIsWritten (setting t) l o w
  of_none e =
      let none : kind_of a ≡ kind.Nothing = ap kind_seen there.first_at ∙ none_at there.e (there.first_shaped ∙ e) in
      classes_write t typed n graph o w early late is enough builtin 0 (Make (small.Fail o.covered.attribute) ∷ []) (refl, tt)
      (as_done t typed n graph o w early late r (a ∷ b ∷ []) row_is args_is refl 0 (Make (small.Fail o.covered.attribute) ∷ [])
      (failure_done (world t) t.seen r place (a ∷ b ∷ []) (before o w) (none_written (world t) name place a b (before o w) none comes) (none_means (world t) t.seen name a b o.covered none)))

  module _ (c : ℕ) (q : Bool) (e : x ≡ Inst c q) where
    at_is : there.e ≡ element.Instance c q
    at_is = instance_at there.e c q (there.first_shaped ∙ e)

    of : (k : Laid) × (laid (world t) c ≡ Some k)
    of = laid_operand t n there.e c q first_so at_is

    fitted : (has_home t.whole.tables name c ≡ true) × Asked y
    fitted = given_so t.whole t.assigned n o.node r xs z fits (has_home t.whole.tables name c) y (asked_of (Inst c q) e)

    h : (h : ℕ) × (home t.classes c name ≡ Some h)
    h = home_there t.classes name c (ap (λ tables. has_home tables name c) (sym typed.sees.classes_are) ∙ fitted.0)

    s : (s : Standing) × (place_in (world t) c name ≡ Some s)
    s = typed.classes.placed c of.0 h.0 name of.1 h.1

    met_at : AllMet t.whole.tables.classes t.assigned (to_attribute t.whole t.assigned (home t.whole.tables c name) name y)
    met_at = subst (λ u. AllMet t.whole.tables.classes t.assigned (store t.whole t.assigned name u y)) e (subst (λ ys. AllMet t.whole.tables.classes t.assigned (asks t.whole t.assigned r ys)) two.1.1 fits.met)

    met : Below t.whole.tables.classes t.assigned.same y (at t.assigned (t.whole.places.attribute h.0 name))
    met = (subst (λ k. AllMet t.whole.tables.classes t.assigned (to_attribute t.whole t.assigned k name y)) (ap (λ (tables : Tables). home tables c name) typed.sees.classes_are ∙ h.1) met_at).0.0

    goes : Goes (layout t) t.seen b.element (Some s.0.element)
    goes = subst (λ d. Goes (layout t) t.seen d (Some s.0.element)) (sym there.second_at) (elements_pass t typed there.d s.0.element second_so (attribute_laid t typed c name s.0 s.1)
        (subst (λ u. Below t.classes.classes (same t) u (shape s.0.element)) (sym there.second_shaped) (subst (Below t.classes.classes (same t) y) (typed.sees.attributes c h.0 name s.0 h.1 s.1) (below_so t typed y (at t.assigned (t.whole.places.attribute h.0 name)) met))))

    gives : Goes (layout t) t.seen b.element place.element
    gives = subst (Goes (layout t) t.seen b.element) (sym is.result_is) (subst (λ d. Goes (layout t) t.seen d (Some is.result)) (sym there.second_at) (elements_pass t typed there.d is.result second_so is.result_laid
        (subst (λ u. Below t.classes.classes (same t) u z) (sym there.second_shaped) (below_so t typed y z fitted.1))))

    both : GoesBoth (world t) t.seen b s.0 place
    both = record { apart = typed.small.no_tuple; comes = comes; goes = goes; gives = gives }

    abbrev its_asks : List Ask
    its_asks = storing_asks (world t) a b q s.0 place (before o w)

    its_always : AllAlways its_asks
    its_always = both_always (present_asks (world t) a q o.covered) (asks_for (layout t) (type_seen (layout t) b.element) (type_of (layout t) s.0.element) ++ asks_for (layout t) (type_seen (layout t) b.element) (type_seen (layout t) place.element)) (present_always q)
        (both_always (asks_for (layout t) (type_seen (layout t) b.element) (type_of (layout t) s.0.element)) (asks_for (layout t) (type_seen (layout t) b.element) (type_seen (layout t) place.element)) (converts_always (layout t) (type_seen (layout t) b.element) (type_of (layout t) s.0.element)) (converts_always (layout t) (type_seen (layout t) b.element) (type_seen (layout t) place.element)))
      where
        present_always : (q : Bool) → AllAlways (present_asks (world t) a q o.covered)
        present_always true = (refl, tt)
        present_always false = tt

    abbrev Law : RowOp → List Operand → Writing → Type 0
    Law r args made = IsDoneBehindWhere Any (HasClasses (world t)) (references_stored s.0 place) (tuples_in (Some s.0.element) + tuples_in place.element) 0 0 t.seen (world t).around r o.covered its_asks made place args (before o w)

    law : Law r (a ∷ b ∷ []) (lower_class_op (world t) r place (a ∷ b ∷ []) (before o w))
    law = stored_of (world t) t.seen typed.classes.is_of typed.classes.out place name a b (before o w) c q of.0 s.0 (record { is = there.first_at ∙ ap Some at_is; laid_as = of.1 }) s.1 both

    abbrev made : Writing
    made = blocks.lowered (world t) o.op place (args_of l o) (before o w)

    law_here : Law o.op (args_of l o) made
    law_here = subst (λ args. Law o.op args (blocks.lowered (world t) o.op place args (before o w))) (sym args_is)
        (subst (λ r. Law r (a ∷ b ∷ []) (blocks.lowered (world t) r place (a ∷ b ∷ []) (before o w))) (sym row_is)
        (subst (Law r (a ∷ b ∷ [])) (sym (as_class (world t) r place (a ∷ b ∷ []) (before o w) refl)) law))

    of_instance : OpIsWritten (setting t) l o w
    of_instance = behind_operations_are_written HasClasses Any l t.seen t.graphs t.p t.arguments (numbers t) (references_stored s.0 place) (tuples_in (Some s.0.element) + tuples_in place.element) 0 0 o its_asks w typed.small.has (inside t n graph o is w enough)
        (throws_objects t typed n graph o w early late is builtin) (λ g core meant vs stands given good. tt)
        (stood_so t typed its_asks (before o w).found its_always (early_before t typed n graph o w early late) (subst (λ f. Grows f (last t)) law_here.asked (late_made t typed n graph o w early late))) law_here

  by_shape : (u : Shape) → x ≡ u → OpIsWritten (setting t) l o w
  by_shape NoneOnly e = of_none e
  by_shape (Inst c q) e = of_instance c q e
  by_shape u e = absurd (misfits t.whole t.assigned n o.node r xs z fits (asked_of u e))

pub attributes_are_stored : AttributesAreStored
attributes_are_stored name t typed n graph o row_is is w early late enough = by_shape name t typed n graph o row_is is w early late enough (x name t typed n graph o row_is is w early late enough) refl
