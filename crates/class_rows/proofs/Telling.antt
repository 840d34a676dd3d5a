-- Whether an instance, or `None`, is of a class.
use Rattle.std.proofs.Common.{◌≡◌, ◌<◌, ◌≤◌, ◌||◌, ℕ, ◌+◌, Bool, true, false, List, [], ◌∷◌, ◌++◌, length, Option, Some, None, refl, sym, ap, ◌∙◌, subst, append-nil, arith}
use Rattle.std.specs.Prelude.{if◌then◌else◌}
use Rattle.ann_element.specs.declared.element.Element.{Element}
use Rattle.ann_element.specs.declared.element.Element.TheVariants as element
use Rattle.ann_lattice.specs.Join.{is_clash}
use Rattle.ann_lattice.specs.Order as order
use Rattle.ann_lattice.specs.Order.{Below}
use Rattle.ann_lattice.specs.Row.{is_instance}
use Rattle.ann_lattice.specs.Shape.{Shape, NoneOnly, Truth, Inst, shape}
use Rattle.class_desc.specs.Line as line
use Rattle.csub_tree.specs.State.{Value, Flag, Core}
use Rattle.flow_graph.specs.declared.graph.Graph.{Graph}
use Rattle.flow_graph.specs.declared.graph.Op.{Op}
use Rattle.ll_code.specs.State.{Frame, At}
use Rattle.ll_code.specs.declared.program.LlExit.{LlExit}
use Rattle.ll_code.specs.declared.program.LlOp.{LlOp}
use Rattle.ll_code.specs.declared.program.LlOp.TheVariants as op
use Rattle.ll_code.specs.declared.program.LlProgram.{LlProgram}
use Rattle.ll_code.specs.declared.program.LlType.TheVariants as type
use Rattle.rpy_meaning.specs.declared.row.Covers.{Covers}
use Rattle.rpy_meaning.specs.declared.row.RowOp.TheVariants as row
use Rattle.rpy_meaning.specs.Operations.{op as meant_op, is_instance_object}
use Rattle.rpy_meaning.specs.Tree.{Program}
use Rattle.rpy_meaning.specs.World.{World as MeantWorld, Throws}
use Rattle.rpy_tree.specs.Value.{Value as Meant, Flag as MeantFlag, Word, Text, Nothing, Tuple, Fun, Ref, Object, Listed, Mapped, Instance}
use Rattle.rpy_tree.specs.declared.program.ClassInfo.{ClassInfo}
use Rattle.rtyper_class.specs.Lowering.{instance_in, is_instance_on, lower_class_op, lowered as class_lowered, of_some as class_of_some, of_one as class_of_one}
use Rattle.rtyper_class.specs.Seen.{World}
use Rattle.rtyper_data.specs.Comparing.{flag as flag_operand}
use Rattle.rtyper_data.specs.Seen.{Operand, Place, Writing, kind_of, type_at, writing}
use Rattle.rtyper_layout.specs.Kinds.{kind_seen}
use Rattle.rtyper_layout.specs.declared.kind.Kind.TheVariants as kind
use Rattle.rtyper_list.specs.Lowering.{lowered as list_lowered, of_some as list_of_some, first_of_one}
use Rattle.rtyper_op.specs.Lowering.{conversion, conversion_by, of_one, of_some}
use Rattle.lower_laws.proofs.Coming.{Comes, one_comes}
use Rattle.lower_laws.proofs.Single.{gives_flag, sets}
use Rattle.lower_laws.proofs.Typing.{place_of_flags}
use Rattle.object_laws.specs.Done.{Follows, references}
use Rattle.object_laws.specs.Ghost.{Ghost}
use Rattle.object_laws.specs.Known.{Known}
use Rattle.object_laws.specs.Represents.{Represents}
use Rattle.object_laws.specs.Values.{Given}
use Rattle.object_laws.proofs.Nothings.{nothing_held}
use Rattle.object_laws.proofs.Passing.{none_passed}
use Rattle.class_laws.specs.Done.{IsDone}
use Rattle.class_laws.proofs.Comparing.{gives_flags}
use Rattle.class_laws.proofs.Lowered.{one_plain}
use Rattle.class_laws.proofs.Telling.{instances_are_told}
use Rattle.growth_laws.specs.Growing.{Grows}
use Rattle.helper_stands.specs.Asks.{MayBeAsked}
use Rattle.lower_laws.specs.Asked.{Ask, Make}
use Rattle.object_laws.specs.Done.{AllAsked}
use Rattle.rtyped_laws.specs.Objects.{OfClasses}
use Rattle.rtyped_runs.specs.Laws.{before}
use Rattle.rtyped_runs.specs.Parts.{OpIsWritten}
use Rattle.rtyper_data.specs.declared.small.Small.TheVariants as small
use Rattle.rtyper_op.specs.Lowering.{never_comes}
use Rattle.class_desc.specs.Range.{range}
use Rattle.rtyper_program.specs.Blocks.{op_of}
use Rattle.rtyper_program.specs.Graphs.{variables}
use Rattle.rtyper_program.specs.Seen.{Lowered, element_at, operand_of, place_of}
use Rattle.std.specs.Prelude.{slice_get}
use Rattle.typed_rows.specs.Programs.{Typed, IsTyped, first, last, setting, world}
use Rattle.typed_rows.specs.Rows.{IsOp, lowered_in}
use Rattle.class_rows.specs.Classes.{ClassesAreTold}
use Rattle.class_rows.proofs.Common.{ThrowsBuiltin, first_laid, laid_operand}
use Rattle.class_rows.proofs.Fitting.{OneOperand}
use Rattle.class_rows.proofs.One.{asked_of, never_asked, one, operand, writes_so}
use Rattle.class_rows.proofs.Shapes.{flag_at, instance_at, none_at}

-- ---- `None`

-- what is `None` alone is no instance
pub none_is_no_instance : (s : Option Element) → kind_seen s ≡ kind.Nothing → instance_in s ≡ None
none_is_no_instance None h = refl
none_is_no_instance (Some (element.Instance c true)) h = absurd (cc)
none_is_no_instance (Some (element.Instance c false)) h = absurd (cc)
none_is_no_instance (Some _) h = refl

pub none_comes : (a : Operand) → kind_of a ≡ kind.Nothing → Comes a
none_comes a h = ap never_comes h

module _ (world : World) (known : Known) (d : ℕ) (place : Place) (a : Operand) (w : Writing) (covers : Covers) (none : kind_of a ≡ kind.Nothing) (flags : kind_seen place.element ≡ kind.Flag) where
  abbrev puts : LlOp
  puts = op.Set place.variable (flag_operand false)

  ht : type_at world.around place ≡ type.Bool
  ht = place_of_flags world.around.layout place.element flags

  is_written : lower_class_op world (row.IsInstance d) place (a ∷ []) w ≡ writing w.found (record { types = w.body.types; ops = w.body.ops ++ puts ∷ [] })
  unfolding class_lowered class_of_some class_of_one list_lowered list_of_some first_of_one of_some of_one conversion
  is_written = one_plain world (row.IsInstance d) place a w (none_comes a none) (ap (λ i. is_instance_on world (row.IsInstance d) place d a i w) (none_is_no_instance a.element none)) refl refl refl
      ∙ one_comes world.around (row.IsInstance d) place a w (none_comes a none)
      ∙ ap (λ k. conversion_by (row.IsInstance d) k world.around place a w) none ∙ gives_flag world.around place (flag_operand false) w ht

  module _ (p : LlProgram) (raised : ℕ → Value) (arguments : List (List ℕ)) (rest : List LlOp) (e : LlExit) (frames : List Frame) (core : Core) (g : Ghost) (meant : MeantWorld) (most : ℕ)
      (stands : Represents world.around.layout known g meant.heap meant.left core.blocks core.statics) (left : meant.left ≡ core.steps) (room : length w.body.types + 0 ≤ length core.vars) (inside : place.variable < length w.body.types) where
    follow : (vs : List Meant) → Given known world.around g core (a ∷ []) vs → Follows 0 known world.around place p arguments (At (puts ∷ rest) e frames core) rest e frames core g raised most (length w.body.types) meant (meant_op known.program covers (row.IsInstance d) vs meant)
    follow [] given = absurd given
    follow (v ∷ []) given =
        subst (λ v. Follows 0 known world.around place p arguments (At (puts ∷ rest) e frames core) rest e frames core g raised most (length w.body.types) meant (meant_op known.program covers (row.IsInstance d) (v ∷ []) meant)) (sym (nothing_held none given.0))
        (gives_flags world raised flags most (length w.body.types) core false stands left none_passed (omega (arith, inside, room)) (sets (Flag false) refl refl))
    follow (v ∷ u ∷ vs) given = absurd given.1

  pub none_told : IsDone 0 world known (row.IsInstance d) covers [] place (a ∷ []) w
  none_told = record {
    ops = puts ∷ [];
    new = [];
    asked = ap (λ (r : Writing). r.found) is_written;
    written = ap (λ (r : Writing). r.body.ops) is_written;
    types = ap (λ (r : Writing). r.body.types) is_written ∙ sym (append-nil w.body.types);
    follows = λ p numbers raised arguments rest e frames core g meant vs structs has stands left room inside below given good. follow p raised arguments rest e frames core g meant (references meant.heap vs) stands left room inside vs given;
  }

-- ---- nothing is thrown

instance_gives : (p : Program) (c : Covers) (d : ℕ) (o : Option Object) (world after : MeantWorld) (r : ℕ) → is_instance_object p c d o world ≡ Throws r after → ⊥
instance_gives p c d None world after r e = absurd (cc)
instance_gives p c d (Some (Listed vs)) world after r e = absurd (cc)
instance_gives p c d (Some (Mapped vs)) world after r e = absurd (cc)
instance_gives p c d (Some (Instance class vs)) world after r e = absurd (cc)

told_throws : (p : Program) (c : Covers) (d : ℕ) (vs : List Meant) (world after : MeantWorld) (r : ℕ) → meant_op p c (row.IsInstance d) vs world ≡ Throws r after → ⊥
told_throws p c d [] world after r e = absurd (cc)
told_throws p c d (Ref i ∷ []) world after r e = instance_gives p c d (slice_get world.heap i) world after r e
told_throws p c d (Word z ∷ []) world after r e = absurd (cc)
told_throws p c d (MeantFlag z ∷ []) world after r e = absurd (cc)
told_throws p c d (Text z ∷ []) world after r e = absurd (cc)
told_throws p c d (Nothing ∷ []) world after r e = absurd (cc)
told_throws p c d (Tuple z ∷ []) world after r e = absurd (cc)
told_throws p c d (Fun z ∷ []) world after r e = absurd (cc)
told_throws p c d (v ∷ u ∷ vs) world after r e = absurd (cc)

-- ---- what the row gives

pub above_truth : (k : List ClassInfo) (t : List ℕ) (b : Option Bool) (z : Shape) → Below k t (Truth b) z → is_clash z ≡ false → (c : Option Bool) × (z ≡ Truth c)
above_truth k t b _ (order.truth a c l) free = (c, refl)
above_truth k t b _ (order.clash x o p h j) free = absurd (cc)

is_truth : (k : List ClassInfo) (d c : ℕ) (r : Bool) → (b : Option Bool) × (is_instance k d (Inst c r) ≡ Truth b)
is_truth k d c false = by (line.is_below k c d) (line.is_below k d c)
  where
    by : (f g : Bool) → (b : Option Bool) × ((if f then Truth (Some true) else if g then Truth None else Truth (Some false)) ≡ Truth b)
    by true g = (Some true, refl)
    by false true = (None, refl)
    by false false = (Some false, refl)
is_truth k d c true = by (line.is_below k c d || line.is_below k d c)
  where
    by : (f : Bool) → (b : Option Bool) × ((if f then Truth None else Truth (Some false)) ≡ Truth b)
    by true = (None, refl)
    by false = (Some false, refl)

-- ---- the row

module _ (d : ℕ) (t : Typed) (typed : IsTyped t) (n : ℕ) (graph : Graph) (o : Op) (row_is : o.op ≡ row.IsInstance d) (is : IsOp t n o) (named : d < length t.classes.classes) (w : Writing) (early : Grows (first t) w.found)
    (late : Grows (op_of (lowered_in t n graph) o w).found (last t)) (enough : length (variables t.known (world t) n) ≤ length w.body.types) where
  abbrev l : Lowered
  l = lowered_in t n graph

  abbrev place : Place
  place = place_of l o.result

  abbrev Asked : Shape → Type 0
  Asked x = Below t.whole.tables.classes t.assigned.same x (shape is.result)

  abbrev x : Shape
  x = (one (row.IsInstance d) t typed n graph o row_is is (λ xs. refl) refl (λ x y. refl) (λ x y u. refl)).0

  abbrev operand_there : OneOperand t n o.args is.elements x
  operand_there = operand (row.IsInstance d) t typed n graph o row_is is (λ xs. refl) refl (λ x y. refl) (λ x y u. refl)

  abbrev a : Operand
  a = operand_of l operand_there.v

  builtin : ThrowsBuiltin t typed n graph o w early late
  builtin vs meant after r e = absurd (told_throws t.seen.program o.covered d vs meant after r (ap (λ p. meant_op t.seen.program o.covered p vs meant) (sym row_is) ∙ e))

  writes : (asks : List Ask) → AllAsked (MayBeAsked OfClasses) asks (before o w).found → IsDone 0 (world t) t.seen (row.IsInstance d) o.covered asks place (a ∷ []) (before o w) → OpIsWritten (setting t) l o w
  writes asks may law = writes_so (row.IsInstance d) t typed n graph o row_is is (λ xs. refl) refl (λ x y. refl) (λ x y u. refl) w early late enough builtin (λ args. refl) 0 asks may law

  under_of : (y : Shape) → x ≡ y → Asked (is_instance t.whole.tables.classes d y)
  under_of y e = asked_of (row.IsInstance d) t typed n graph o row_is is (λ xs. refl) refl (λ x y. refl) (λ x y u. refl) y e

  flag_result : (b : Option Bool) → Asked (Truth b) → kind_seen (element_at t.known.annotation n o.result) ≡ kind.Flag
  flag_result b under = (let up = above_truth t.whole.tables.classes t.assigned.same b (shape is.result) under is.fits.free in ap kind_seen is.result_is ∙ flag_at is.result up.0 up.1)

  of_none : x ≡ NoneOnly → OpIsWritten (setting t) l o w
  of_none e = writes [] tt (none_told (world t) t.seen d place a (before o w) o.covered (ap kind_seen operand_there.at ∙ none_at operand_there.e (operand_there.shaped ∙ e)) (flag_result (Some false) (under_of NoneOnly e)))

  of_instance : (c : ℕ) (r : Bool) → x ≡ Inst c r → OpIsWritten (setting t) l o w
  of_instance c r e =
      let at : operand_there.e ≡ element.Instance c r = instance_at operand_there.e c r (operand_there.shaped ∙ e) in
      let truth = is_truth t.whole.tables.classes d c r in
      let laid_so = laid_operand t n operand_there.e c r (first_laid t is.elements operand_there.e [] operand_there.elements_are is.laid) at in
      let flags = flag_result truth.0 (subst Asked truth.1 (under_of (Inst c r) e)) in
      writes (Make (small.IsInstance laid_so.0.root laid_so.0.vtable (range t.classes.classes d).0 (range t.classes.classes d).1) ∷ []) (tt, tt)
      (instances_are_told (world t) t.seen typed.classes.is_of typed.classes.out place a (before o w) d c r laid_so.0 o.covered (record { is = operand_there.at ∙ ap Some at; laid_as = laid_so.1 }) named flags)

  by_shape : (y : Shape) → x ≡ y → OpIsWritten (setting t) l o w
  by_shape NoneOnly e = of_none e
  by_shape (Inst c r) e = of_instance c r e
  by_shape y e = absurd (never_asked (row.IsInstance d) t typed n graph o row_is is (λ xs. refl) refl (λ x y. refl) (λ x y u. refl) (under_of y e))

pub classes_are_told : ClassesAreTold
classes_are_told d t typed n graph o row_is is named w early late enough = by_shape d t typed n graph o row_is is named w early late enough (x d t typed n graph o row_is is named w early late enough) refl
