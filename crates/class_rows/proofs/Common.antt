-- What laws of operations take, of an operation of a program that has types.
use Rattle.std.proofs.Common.{◌≡◌, ◌<◌, ◌≤◌, ◌⊎◌, inl, inr, ℕ, Bool, true, false, List, [], ◌∷◌, length, Some, refl, sym, ap, ◌∙◌, subst, arith}
use Rattle.std.specs.Prelude.{not, ◌&&◌, ◌||◌, if◌then◌else◌}
use Rattle.rtyper_class.specs.Lowering.{lower_class_op}
use Rattle.rtyper_dict.specs.Lowering.{is_of_dicts, lower_dict_op}
use Rattle.rtyper_op.specs.Lowering.{is_never, never_comes}
use Rattle.ann_element.specs.declared.element.Element.{Element}
use Rattle.csub_tree.specs.State.{Value}
use Rattle.flow_graph.specs.declared.graph.Graph.{Graph}
use Rattle.flow_graph.specs.declared.graph.Op.{Op}
use Rattle.rpy_meaning.specs.declared.row.Covers.{Covers}
use Rattle.rpy_meaning.specs.declared.row.RowOp.{RowOp}
use Rattle.ann_element.specs.declared.element.Element.TheVariants as element
use Rattle.conversion_laws.specs.Ordered.{AllLaid, IsLaid, Next}
use Rattle.rtyper_layout.specs.declared.classes.Laid.{Laid}
use Rattle.ann_lattice.specs.Order.{Below}
use Rattle.ann_lattice.specs.Shape.{Shape}
use Rattle.class_desc.specs.Tables.{Tables}
use Rattle.std.proofs.Common.{map}
use Rattle.ann_lattice.specs.Kind.{is_nothing, some_nothing}
use Rattle.ann_lattice.specs.Shape.{shape}
use Rattle.rtyper_layout.specs.Kinds.{kind_seen}
use Rattle.typed_rows.specs.Rows.{AreElements}
use Rattle.class_rows.proofs.Shapes.{class_laid, comes_at}
use Rattle.rpy_meaning.specs.Operations.{op as meant_op, builtin_classes}
use Rattle.rpy_meaning.specs.World.{World as MeantWorld, Throws, attribute_error, failure}
use Rattle.rpy_base.specs.declared.outcome.FailName.TheVariants as fail
use Rattle.rpy_tree.specs.Value.{Value as Meant}
use Rattle.rtyper_class.specs.Seen.{World, laid}
use Rattle.rtyper_data.specs.declared.found.Found.{Found}
use Rattle.rtyper_data.specs.Finding.{nothing}
use Rattle.rtyper_data.specs.Seen.{Operand, Place, Writing}
use Rattle.rtyper_program.specs.Blocks.{lowered, op_of}
use Rattle.rtyper_program.specs.Graphs.{variables}
use Rattle.rtyper_program.specs.Raises.{has_exceptions, is_covered}
use Rattle.rtyper_program.specs.Seen.{Lowered, operand_of, place_of}
use Rattle.lower_laws.specs.Asked.{Ask, all_asked}
use Rattle.object_laws.specs.Done.{AllAsked, IsDone}
use Rattle.object_laws.specs.Represents.{Represents}
use Rattle.class_laws.specs.Asked as classes
use Rattle.growth_laws.specs.Growing.{Grows}
use Rattle.helper_stands.specs.Asks.{MayBeAsked}
use Rattle.helper_stands.proofs.Asks.{class_asks_stand}
use Rattle.rtyped_laws.specs.Having.{raised_in}
use Rattle.rtyped_laws.specs.Objects.{OfClasses}
use Rattle.rtyped_runs.specs.Laws.{StandsSo, ThrowsObjects, args_of, before, of_classes}
use Rattle.rtyped_runs.specs.Parts.{OpIsWritten}
use Rattle.rtyped_runs.proofs.Operations.{done_operations_are_written}
use Rattle.typed_rows.specs.Programs.{Typed, IsTyped, first, last, layout, numbers, same, setting, world}
use Rattle.typed_rows.specs.Rows.{IsOp, lowered_in}
use Rattle.typed_rows.proofs.Going.{inside}

-- ---- what is asked for

-- what is covered says nothing of what was asked for
grows_to : (a b : Found) (c : Covers) → Grows a b → Grows a (record b { covered = c })
grows_to a b c h = record { needs = h.needs; caught = h.caught; together = h.together; statics = h.statics; smalls = h.smalls; sites = h.sites; first = h.first }

grows_from : (a b : Found) (c : Covers) → Grows (record a { covered = c }) b → Grows a b
grows_from a b c h = record { needs = h.needs; caught = h.caught; together = h.together; statics = h.statics; smalls = h.smalls; sites = h.sites; first = h.first }

-- ---- what the rules say

-- what the rules say of elements is said of the classes and sites of the program
pub below_so : (t : Typed) → IsTyped t → (x z : Shape) → Below t.whole.tables.classes t.assigned.same x z → Below t.classes.classes (same t) x z
below_so t typed x z below = subst (λ (tables : Tables). Below tables.classes (same t) x z) typed.sees.classes_are (subst (λ s. Below t.whole.tables.classes s x z) typed.sees.same_is below)

pub or_first : (a b : Bool) → (a || b) ≡ false → a ≡ false
or_first false b e = refl
or_first true b e = absurd (cc)

pub or_second : (a b : Bool) → (a || b) ≡ false → b ≡ false
or_second false b e = e
or_second true b e = absurd (cc)

-- ---- operands that may be there

pub all_come : (t : Typed) (n : ℕ) (graph : Graph) (vs : List ℕ) (cs : List Element) → AreElements t n vs cs → some_nothing (map shape cs) ≡ false → is_never (map (operand_of (lowered_in t n graph)) vs) ≡ false
all_come t n graph [] [] are some = refl
all_come t n graph [] (c ∷ cs) are some = absurd are
all_come t n graph (v ∷ vs) [] are some = absurd are
all_come t n graph (v ∷ vs) (c ∷ cs) are some =
    ap (λ b. if b then true else is_never (map (operand_of (lowered_in t n graph)) vs)) (ap (λ e. never_comes (kind_seen e)) are.0 ∙ comes_at c (or_first (is_nothing (shape c)) (some_nothing (map shape cs)) some))
    ∙ all_come t n graph vs cs are.1 (or_second (is_nothing (shape c)) (some_nothing (map shape cs)) some)

-- ---- failures that are covered

covered_by : (a b c d : Bool) → (a ≡ true) ⊎ ((b ≡ true) ⊎ ((c ≡ true) ⊎ (d ≡ true))) → is_covered (record { index = a; zero = b; number = c; attribute = d }) ≡ true
covered_by true b c d h = refl
covered_by false true c d h = refl
covered_by false false true d h = refl
covered_by false false false true h = refl
covered_by false false false false (inl h) = absurd (cc)
covered_by false false false false (inr (inl h)) = absurd (cc)
covered_by false false false false (inr (inr (inl h))) = absurd (cc)
covered_by false false false false (inr (inr (inr h))) = absurd (cc)

pub attribute_covered : (c : Covers) → c.attribute ≡ true → is_covered c ≡ true
attribute_covered c h = covered_by c.index c.zero c.number c.attribute (inr (inr (inr h)))

pub error_thrown : (c : Covers) (w after : MeantWorld) (r : ℕ) → attribute_error c w ≡ Throws r after → (r < builtin_classes) × (is_covered c ≡ true)
error_thrown c w after r e = by c.attribute refl e
  where
    by : (b : Bool) → c.attribute ≡ b → failure b 9 fail.Attribute w ≡ Throws r after → (r < builtin_classes) × (is_covered c ≡ true)
    by true h e = (let q : 9 ≡ r = cc in omega (arith, q), attribute_covered c h)
    by false h e = absurd (cc)

-- ---- what is lowered as operations on instances are

pub as_class : (world : World) (r : RowOp) (place : Place) (args : List Operand) (w : Writing) → is_of_dicts r args ≡ false → lowered world r place args w ≡ lower_class_op world r place args w
as_class world r place args w plain = ap (λ b. if not (is_never args) && b then lower_dict_op world.around r place args w else lower_class_op world r place args w) plain ∙ by (is_never args)
  where
    by : (b : Bool) → (if not b && false then lower_dict_op world.around r place args w else lower_class_op world r place args w) ≡ lower_class_op world r place args w
    by true = refl
    by false = refl

-- ---- one operation

module _ (t : Typed) (typed : IsTyped t) where
  pub exception_is : t.seen.exception ≡ raised_in (world t)
  exception_is = λ i class. typed.classes.is_of.exception class i

  module _ (n : ℕ) (graph : Graph) (o : Op) (w : Writing) (early : Grows (first t) w.found) (late : Grows (op_of (lowered_in t n graph) o w).found (last t)) where
    abbrev pub l : Lowered
    l = lowered_in t n graph

    abbrev pub place : Place
    place = place_of l o.result

    abbrev pub made : Writing
    made = lowered (world t) o.op place (args_of l o) (before o w)

    pub early_before : Grows (first t) (before o w).found
    early_before = grows_to (first t) w.found o.covered early

    pub late_made : Grows made.found (last t)
    unfolding op_of
    late_made = grows_from made.found (last t) nothing late

    -- what is asked for stands
    pub class_asks_so : (asks : List Ask) → AllAsked (MayBeAsked OfClasses) asks (before o w).found → made.found ≡ all_asked asks (before o w).found → StandsSo (setting t) (of_classes (world t) t.p (numbers t) t.seen.exception) asks (before o w).found
    class_asks_so asks may same core g heap left stands e =
        subst (λ (raised : ℕ → Value). AllAsked (classes.Has (world t) t.p (numbers t) raised core) asks (before o w).found) (sym exception_is)
        (class_asks_stand t.known t.classes t.p t.made t.seen typed.small.graphs typed.small.structs typed.small.texts asks (before o w).found may early_before (subst (λ f. Grows f (last t)) same late_made)
        g heap core (subst (λ k. Represents (layout t) t.seen g heap k core.blocks core.statics) e stands))

    -- what is thrown is one of the builtin exceptions
    abbrev pub ThrowsBuiltin : Type 0
    ThrowsBuiltin = (vs : List Meant) (world after : MeantWorld) (r : ℕ) → meant_op t.seen.program o.covered o.op vs world ≡ Throws r after → (r < builtin_classes) × (has_exceptions t.known.annotation n o ≡ true)

    pub throws_objects : IsOp t n o → ThrowsBuiltin → ThrowsObjects (setting t) l o
    throws_objects is builtin g core world after vs r stands given e =
        let b = builtin vs world after r e in
        let there = is.raising b.1 r b.0 in
        record { class = r; home = stands.exceptions r there.1.0 b.0 there.1.1; above = there.0 }

    -- an operation that is done, as laws of classes say it
    pub classes_write_as : IsOp t n o → length (variables t.known (world t) n) ≤ length w.body.types → ThrowsObjects (setting t) l o → (blocks : ℕ) (asks : List Ask) → AllAsked (MayBeAsked OfClasses) asks (before o w).found
        → IsDone (of_classes (world t)) blocks t.seen (world t).around o.op o.covered asks made place (args_of l o) (before o w) → OpIsWritten (setting t) l o w
    classes_write_as is enough throws blocks asks may done =
        done_operations_are_written of_classes l t.seen t.graphs t.p t.arguments (numbers t) blocks o asks w typed.small.has (inside t n graph o is w enough) throws (class_asks_so asks may done.asked) done

    pub classes_write : IsOp t n o → length (variables t.known (world t) n) ≤ length w.body.types → ThrowsBuiltin → (blocks : ℕ) (asks : List Ask) → AllAsked (MayBeAsked OfClasses) asks (before o w).found
        → IsDone (of_classes (world t)) blocks t.seen (world t).around o.op o.covered asks made place (args_of l o) (before o w) → OpIsWritten (setting t) l o w
    classes_write is enough builtin blocks asks may done = classes_write_as is enough (throws_objects is builtin) blocks asks may done

    -- the same of the row and the operands that the law speaks of
    pub as_done : (r : RowOp) (args : List Operand) → o.op ≡ r → args_of l o ≡ args → is_of_dicts r args ≡ false → (blocks : ℕ) (asks : List Ask) → IsDone (of_classes (world t)) blocks t.seen (world t).around r o.covered asks (lower_class_op (world t) r place args (before o w)) place args (before o w)
        → IsDone (of_classes (world t)) blocks t.seen (world t).around o.op o.covered asks made place (args_of l o) (before o w)
    as_done r args row_is args_are plain blocks asks law =
        subst (λ args. IsDone (of_classes (world t)) blocks t.seen (world t).around o.op o.covered asks (lowered (world t) o.op place args (before o w)) place args (before o w)) (sym args_are)
        (subst (λ r. IsDone (of_classes (world t)) blocks t.seen (world t).around r o.covered asks (lowered (world t) r place args (before o w)) place args (before o w)) (sym row_is)
        (subst (λ (made : Writing). IsDone (of_classes (world t)) blocks t.seen (world t).around r o.covered asks made place args (before o w)) (sym (as_class (world t) r place args (before o w) plain)) law))

-- ---- operands with their structs

pub first_laid : (t : Typed) (es : List Element) (e : Element) (rest : List Element) → es ≡ e ∷ rest → AllLaid (layout t) (same t) es → IsLaid (layout t) (same t) e
first_laid t es e rest are all = by (subst (AllLaid (layout t) (same t)) are all)
  where
    by : AllLaid (layout t) (same t) (e ∷ rest) → IsLaid (layout t) (same t) e
    by (Next one others) = one

pub rest_laid : (t : Typed) (es : List Element) (e : Element) (rest : List Element) → es ≡ e ∷ rest → AllLaid (layout t) (same t) es → AllLaid (layout t) (same t) rest
rest_laid t es e rest are all = by (subst (AllLaid (layout t) (same t)) are all)
  where
    by : AllLaid (layout t) (same t) (e ∷ rest) → AllLaid (layout t) (same t) rest
    by (Next one others) = others

pub laid_operand : (t : Typed) (n : ℕ) (e : Element) (c : ℕ) (r : Bool) → IsLaid (layout t) (same t) e → e ≡ element.Instance c r → (k : Laid) × (laid (world t) c ≡ Some k)
laid_operand t n e c r is at = class_laid {layout = layout t} {same = same t} c r (subst (IsLaid (layout t) (same t)) at is)
