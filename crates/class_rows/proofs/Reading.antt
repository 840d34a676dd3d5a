-- Attributes that are read.
use Rattle.std.proofs.Common.{◌≡◌, ◌≤◌, ℕ, Bool, true, false, List, [], ◌∷◌, ◌++◌, length, Option, Some, None, refl, sym, ap, ◌∙◌, subst}
use Rattle.std.specs.Prelude.{is_some, slice_get}
use Rattle.ann_element.specs.declared.element.Element.TheVariants as element
use Rattle.ann_lattice.specs.Order.{Below}
use Rattle.ann_lattice.specs.Row.{attribute, has_home}
use Rattle.ann_lattice.specs.Shape.{Shape, NoneOnly, Inst, shape}
use Rattle.ann_lattice.specs.Shape.{Nothing as ShapeNothing}
use Rattle.class_desc.specs.Tables.{Tables, home}
use Rattle.csub_tree.specs.State.{Core}
use Rattle.flow_graph.specs.declared.graph.Graph.{Graph}
use Rattle.flow_graph.specs.declared.graph.Op.{Op}
use Rattle.rpy_meaning.specs.Classes.{named}
use Rattle.rpy_meaning.specs.declared.row.Covers.{Covers}
use Rattle.rpy_meaning.specs.declared.row.RowOp.TheVariants as row
use Rattle.rpy_meaning.specs.Operations.{op as meant_op, read_attribute}
use Rattle.rpy_meaning.specs.Tree.{Program}
use Rattle.rpy_meaning.specs.World.{World as MeantWorld, Throws, attribute_error, give, if_some}
use Rattle.rpy_tree.specs.Value.{Value as Meant, Flag, Word, Text, Nothing, Tuple, Fun, Ref, Object, Listed, Mapped, Instance}
use Rattle.rtyper_class.specs.Lowering.{attribute as attribute_lowered, attribute_of, lower_class_op, lowered, of_one, of_some}
use Rattle.rtyper_class.specs.Seen.{World}
use Rattle.rtyper_data.specs.Seen.{Operand, Place, Writing, kind_of}
use Rattle.rtyper_data.specs.declared.small.Small.TheVariants as small
use Rattle.rtyper_layout.specs.Kinds.{kind_seen}
use Rattle.rtyper_layout.specs.declared.kind.Kind.TheVariants as kind
use Rattle.rtyper_op.specs.Lowering.{failure}
use Rattle.rtyper_program.specs.Blocks.{op_of}
use Rattle.rtyper_program.specs.Graphs.{variables}
use Rattle.rtyper_program.specs.Raises.{has_exceptions}
use Rattle.rtyper_program.specs.Seen.{Lowered, operand_of, place_of}
use Rattle.lower_laws.specs.Asked.{Ask, Make}
use Rattle.object_laws.specs.Done.{AllAsked}
use Rattle.object_laws.specs.Ghost.{Ghost}
use Rattle.object_laws.specs.Known.{Known}
use Rattle.object_laws.specs.Values.{Given}
use Rattle.object_laws.proofs.Nothings.{nothing_held}
use Rattle.class_laws.specs.Done.{IsDone}
use Rattle.class_laws.specs.Instances.{present_asks}
use Rattle.class_laws.proofs.Attributes.{attributes_are_read as read_of}
use Rattle.class_laws.proofs.Lowered.{class_one}
use Rattle.growth_laws.specs.Growing.{Grows}
use Rattle.helper_stands.specs.Asks.{MayBeAsked}
use Rattle.rtyped_laws.specs.Objects.{OfClasses}
use Rattle.rtyped_runs.specs.Laws.{before}
use Rattle.rtyped_runs.specs.Parts.{OpIsWritten}
use Rattle.typed_rows.specs.Programs.{Typed, IsTyped, first, last, setting, world}
use Rattle.typed_rows.specs.Rows.{IsOp, lowered_in}
use Rattle.class_rows.specs.Classes.{AttributesAreRead, ResultIsAttribute}
use Rattle.class_rows.proofs.Common.{ThrowsBuiltin, error_thrown, first_laid, laid_operand}
use Rattle.class_rows.proofs.Failing.{failure_done}
use Rattle.class_rows.proofs.Fitting.{OneOperand}
use Rattle.class_rows.proofs.One.{asked_of, given_in, never_asked, one, operand, writes_so}
use Rattle.class_rows.proofs.Shapes.{instance_at, none_at}
use Rattle.class_rows.proofs.Telling.{none_comes, none_is_no_instance}

-- ---- what is thrown

read_throws : (p : Program) (c : Covers) (name : List ℕ) (o : Option Object) (w after : MeantWorld) (r : ℕ) → read_attribute p c name o w ≡ Throws r after → attribute_error c w ≡ Throws r after
read_throws p c name None w after r e = absurd (cc)
read_throws p c name (Some (Listed vs)) w after r e = absurd (cc)
read_throws p c name (Some (Mapped vs)) w after r e = absurd (cc)
read_throws p c name (Some (Instance class attributes)) w after r e = by (named name attributes) e
  where
    by : (v : Option Meant) → if_some (attribute_error c) v give w ≡ Throws r after → attribute_error c w ≡ Throws r after
    by None e = e
    by (Some v) e = absurd (cc)

attr_throws : (p : Program) (c : Covers) (name : List ℕ) (vs : List Meant) (w after : MeantWorld) (r : ℕ) → meant_op p c (row.Attr name) vs w ≡ Throws r after → attribute_error c w ≡ Throws r after
attr_throws p c name [] w after r e = absurd (cc)
attr_throws p c name (Ref i ∷ []) w after r e = read_throws p c name (slice_get w.heap i) w after r e
attr_throws p c name (Nothing ∷ []) w after r e = e
attr_throws p c name (Word z ∷ []) w after r e = absurd (cc)
attr_throws p c name (Flag z ∷ []) w after r e = absurd (cc)
attr_throws p c name (Text z ∷ []) w after r e = absurd (cc)
attr_throws p c name (Tuple z ∷ []) w after r e = absurd (cc)
attr_throws p c name (Fun z ∷ []) w after r e = absurd (cc)
attr_throws p c name (v ∷ u ∷ vs) w after r e = absurd (cc)

-- ---- `None`

none_written : (world : World) (name : List ℕ) (place : Place) (a : Operand) (w : Writing) → kind_of a ≡ kind.Nothing → lower_class_op world (row.Attr name) place (a ∷ []) w ≡ failure world.around place w
unfolding lowered of_some of_one attribute_lowered
none_written world name place a w none = class_one world (row.Attr name) place a w (none_comes a none) ∙ ap (λ i. attribute_of world place name a i w) (none_is_no_instance a.element none)

none_means : (around : World) (known : Known) (name : List ℕ) (a : Operand) (c : Covers) → kind_of a ≡ kind.Nothing → (core : Core) (g : Ghost) (vs : List Meant) (meant : MeantWorld) → Given known around.around g core (a ∷ []) vs → meant_op known.program c (row.Attr name) vs meant ≡ attribute_error c meant
none_means around known name a c none core g [] meant given = absurd given
none_means around known name a c none core g (v ∷ []) meant given = ap (λ v. meant_op known.program c (row.Attr name) (v ∷ []) meant) (nothing_held none given.0)
none_means around known name a c none core g (v ∷ u ∷ vs) meant given = absurd given.1

-- ---- the row

pub home_there : (t : Tables) (name : List ℕ) (c : ℕ) → has_home t name c ≡ true → (h : ℕ) × (home t c name ≡ Some h)
home_there t name c e = by (home t c name) refl e
  where
    by : (o : Option ℕ) → home t c name ≡ o → is_some o ≡ true → (h : ℕ) × (home t c name ≡ Some h)
    by None i e = absurd (cc)
    by (Some h) i e = (h, i)

module _ (name : List ℕ) (t : Typed) (typed : IsTyped t) (n : ℕ) (graph : Graph) (o : Op) (row_is : o.op ≡ row.Attr name) (is : IsOp t n o) (told : ResultIsAttribute name t n o) (w : Writing) (early : Grows (first t) w.found)
    (late : Grows (op_of (lowered_in t n graph) o w).found (last t)) (enough : length (variables t.known (world t) n) ≤ length w.body.types) where
  abbrev l : Lowered
  l = lowered_in t n graph

  abbrev place : Place
  place = place_of l o.result

  abbrev Asked : Shape → Type 0
  Asked x = Below t.whole.tables.classes t.assigned.same x (shape is.result)

  abbrev x : Shape
  x = (one (row.Attr name) t typed n graph o row_is is (λ xs. refl) refl (λ x y. refl) (λ x y u. refl)).0

  abbrev there : OneOperand t n o.args is.elements x
  there = operand (row.Attr name) t typed n graph o row_is is (λ xs. refl) refl (λ x y. refl) (λ x y u. refl)

  abbrev a : Operand
  a = operand_of l there.v

  builtin : ThrowsBuiltin t typed n graph o w early late
  builtin vs meant after r e =
      let b = error_thrown o.covered meant after r (attr_throws t.seen.program o.covered name vs meant after r (ap (λ p. meant_op t.seen.program o.covered p vs meant) (sym row_is) ∙ e)) in
      (b.0, subst (λ r. has_exceptions t.known.annotation n (record o { op = r }) ≡ true) (sym row_is) b.1)

  writes : (asks : List Ask) → AllAsked (MayBeAsked OfClasses) asks (before o w).found → IsDone 0 (world t) t.seen (row.Attr name) o.covered asks place (a ∷ []) (before o w) → OpIsWritten (setting t) l o w
  writes asks may law = writes_so (row.Attr name) t typed n graph o row_is is (λ xs. refl) refl (λ x y. refl) (λ x y u. refl) w early late enough builtin (λ args. refl) 0 asks may law

  of_none : x ≡ NoneOnly → OpIsWritten (setting t) l o w
  of_none e =
      let none : kind_of a ≡ kind.Nothing = ap kind_seen there.at ∙ none_at there.e (there.shaped ∙ e) in
      writes (Make (small.Fail o.covered.attribute) ∷ []) (refl, tt) (failure_done (world t) t.seen (row.Attr name) place (a ∷ []) (before o w) (none_written (world t) name place a (before o w) none) (none_means (world t) t.seen name a o.covered none))

  may_present : (r : Bool) (own at : ℕ) → AllAsked (MayBeAsked OfClasses) (present_asks (world t) a r o.covered ++ Make (small.Attribute own at o.covered.attribute) ∷ []) (before o w).found
  may_present true own at = (refl, (tt, tt))
  may_present false own at = (tt, tt)

  of_instance : (c : ℕ) (r : Bool) → x ≡ Inst c r → OpIsWritten (setting t) l o w
  of_instance c r e =
      let at : there.e ≡ element.Instance c r = instance_at there.e c r (there.shaped ∙ e) in
      let of = laid_operand t n there.e c r (first_laid t is.elements there.e [] there.elements_are is.laid) at in
      let asked : Asked (attribute t.whole.tables name (Inst c r) ShapeNothing) = asked_of (row.Attr name) t typed n graph o row_is is (λ xs. refl) refl (λ x y. refl) (λ x y u. refl) (Inst c r) e in
      let has : has_home t.whole.tables name c ≡ true = (given_in (row.Attr name) t typed n graph o row_is is (λ xs. refl) refl (λ x y. refl) (λ x y u. refl) (has_home t.whole.tables name c) ShapeNothing asked).0 in
      let h = home_there t.classes name c (ap (λ tables. has_home tables name c) (sym typed.sees.classes_are) ∙ has) in
      let s = typed.classes.placed c of.0 h.0 name of.1 h.1 in
      let element_is : a.element ≡ Some (element.Instance c r) = there.at ∙ ap Some at in
      writes (present_asks (world t) a r o.covered ++ Make (small.Attribute s.0.own s.0.place o.covered.attribute) ∷ []) (may_present r s.0.own s.0.place)
      (read_of (world t) t.seen typed.classes.is_of typed.classes.out place name a (before o w) c r of.0 s.0 (record { is = element_is; laid_as = of.1 }) s.1 (told there.v c r s.0 there.args_are element_is s.1))

  by_shape : (y : Shape) → x ≡ y → OpIsWritten (setting t) l o w
  by_shape NoneOnly e = of_none e
  by_shape (Inst c r) e = of_instance c r e
  by_shape y e = absurd (never_asked (row.Attr name) t typed n graph o row_is is (λ xs. refl) refl (λ x y. refl) (λ x y u. refl) (asked_of (row.Attr name) t typed n graph o row_is is (λ xs. refl) refl (λ x y. refl) (λ x y u. refl) y e))

pub attributes_are_read : AttributesAreRead
attributes_are_read name t typed n graph o row_is is told w early late enough = by_shape name t typed n graph o row_is is told w early late enough (x name t typed n graph o row_is is told w early late enough) refl
