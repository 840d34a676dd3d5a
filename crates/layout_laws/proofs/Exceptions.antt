-- The statics of builtin exceptions are their one instances.
use Rattle.std.proofs.Common.{◌≡◌, ◌<◌, ◌⊎◌, inl, inr, ℕ, zero, suc, ◌+◌, Bool, List, [], ◌∷◌, ◌++◌, length, take, drop, Option, Some, None, refl, sym, ap, ◌∙◌, arith, length-append}
use Rattle.std.specs.Prelude.{◌==◌, slice_get, option_map}
use Rattle.std.proofs.lemmas.Bool.Decides.{eqb_tells}
use Rattle.std.proofs.lemmas.Bool.{cases_eq}
use Rattle.std.proofs.lemmas.Option.{slice_get-map}
use Rattle.std.proofs.lemmas.List.{length-map}
use Rattle.ann_element.specs.declared.element.Element.{Element}
use Rattle.csub_tree.specs.State.{Value, Static}
use Rattle.csub_tree.specs.Layout.{Shape, constant, shape_at, static_block, static_values}
use Rattle.csub_tree.specs.declared.tree.CCell.{CCell}
use Rattle.csub_tree.specs.declared.tree.CCell.TheVariants as cell
use Rattle.csub_tree.specs.declared.tree.CStatic.{CStatic}
use Rattle.ll_code.specs.Machine.{shapes_of}
use Rattle.ll_code.specs.declared.program.LlProgram.{LlProgram}
use Rattle.ll_texts.specs.Texts.{found}
use Rattle.rpy_meaning.specs.Operations.{builtin_classes}
use Rattle.rpy_resolved.specs.declared.tree.Resolved.{Resolved}
use Rattle.rpy_tree.specs.declared.program.ClassInfo.{ClassInfo}
use Rattle.class_desc.specs.Line.{base}
use Rattle.class_desc.proofs.Sums.{when}
use Rattle.rtyper_layout.specs.declared.classes.Laid.{Laid}
use Rattle.rtyper_layout.specs.Types.{word}
use Rattle.rtyper_class.specs.Seen.{World, laid}
use Rattle.rtyper_class.specs.Vtables.{vtable, vtables, wrap_next, wrapped, exception, exception_by, exceptions_to, exceptions_if, exceptions, vtable_at}
use Rattle.object_laws.specs.Represents.{shapes}
use Rattle.layout_laws.specs.Knowing.{values}
use Rattle.layout_laws.specs.Layouts.{IsNumbered}
use Rattle.layout_laws.specs.Statics.{statics_of, HasStatics, IsBare, ExceptionsStand}
use Rattle.layout_laws.proofs.Attributes.{declared}
use Rattle.layout_laws.proofs.Cells.{value_first, values_in}
use Rattle.layout_laws.proofs.Classes.{of_world}
use Rattle.layout_laws.proofs.Facts.{Facts, Sort, OnTop, OnBase}
use Rattle.layout_laws.proofs.Lines.{Under, Here, Up, topped, below_of}
use Rattle.layout_laws.proofs.Places.{same_some, no_some, not_true, get_left, get_right, get_within}
use Rattle.layout_laws.proofs.Shapes.{shape_kept}
use Rattle.layout_laws.proofs.Structs.{word_same}

-- ---- the cells

wrapped_values : (classes : List ClassInfo) (n class : ℕ) (cells : List CCell) → values (wrapped classes n class cells) ≡ values cells
wrapped_values classes zero class cells = refl
wrapped_values classes (suc n) class cells = by (λ b more. wrapped_values classes n b more) (base classes class)
  where
    by : ((b : ℕ) (more : List CCell) → values (wrapped classes n b more) ≡ values more) → (o : Option ℕ) → values (wrap_next (wrapped classes n) o cells) ≡ values cells
    by go None = refl
    by go (Some b) = go b (cell.Braces cells ∷ []) ∙ values_in cells

-- ---- the list of them

length_to : (world : World) (n : ℕ) → length (exceptions_to world n) ≡ n
length_to world zero = refl
length_to world (suc n) = length-append (exceptions_to world n) (exception world n ∷ []) ∙ omega (arith, length_to world n)

one_of : (world : World) (n class : ℕ) → class < n → slice_get (exceptions_to world n) class ≡ Some (exception world class)
one_of world zero class lt = absurd (omega (arith, lt))
one_of world (suc n) class lt = by (λ less. one_of world n class less) (cases_eq class n)
  where
    by : (class < n → slice_get (exceptions_to world n) class ≡ Some (exception world class)) → (class ≡ n) ⊎ (class ≡ n → ⊥) → slice_get (exceptions_to world n ++ exception world n ∷ []) class ≡ Some (exception world class)
    by go (inl same) = get_right (exceptions_to world n) (exception world n ∷ []) class 0 (omega (arith, same, length_to world n)) ∙ ap (λ c. Some (exception world c)) (sym same)
    by go (inr other) = get_left (exceptions_to world n) (exception world n ∷ []) class (exception world class) (go (omega (arith, lt, other)))

-- ---- a class without attributes

pub none_declared : (class : ℕ) (attributes : List (ℕ × List ℕ × Element)) → ((i : ℕ) (name : List ℕ) (e : Element) → slice_get attributes i ≡ Some (class, name, e) → ⊥) → declared class attributes ≡ 0
none_declared class [] none = refl
none_declared class (a ∷ more) none = elim (eqb_tells a.0 class) [
  | inl t ↦ absurd (none 0 a.1 a.2 (ap (λ k. Some (k, a.1, a.2)) t.1))
  | inr t ↦ (let here : when (a.0 == class) 1 ≡ 0 = ap (λ b. when b 1) t.0 in omega (arith, here, none_declared class more (λ i name e h. none (suc i) name e h)))
]

module _ (world : World) (counted : IsNumbered world) (of : Facts world.classes.classes world.attributes world.around.layout) where
  size_from : (top c : ℕ) → Under world.classes.classes top c → base world.classes.classes top ≡ None → ((h : ℕ) → Under world.classes.classes h c → declared h world.attributes ≡ 0) → (l : Laid) → laid world c ≡ Some l → (shape_at (shapes world.around.layout) l.own).size ≡ 1
  size_from top _ (Here c e) none bare l h = by (of.sort c l h)
    where
      by : Sort world.classes.classes world.attributes world.around.layout c l → (shape_at (shapes world.around.layout) l.own).size ≡ 1
      by (OnTop is root shape) = ap (λ (s : Shape). s.size) shape ∙ (let z = bare c (Here c refl) in omega (arith, z))
      by (OnBase b m is at root vtable shape) = absurd (no_some (sym none ∙ ap (base world.classes.classes) (sym e) ∙ is))
  size_from top _ (Up c b p u) none bare l h = by (λ m k. size_from top b u none (λ d v. bare d (Up c b p v)) m k) (of.sort c l h)
    where
      by : ((m : Laid) → laid world b ≡ Some m → (shape_at (shapes world.around.layout) m.own).size ≡ 1) → Sort world.classes.classes world.attributes world.around.layout c l → (shape_at (shapes world.around.layout) l.own).size ≡ 1
      by go (OnTop is root shape) = absurd (no_some (sym is ∙ p))
      by go (OnBase d m is at root vtable shape) =
          let above : (shape_at (shapes world.around.layout) m.own).size ≡ 1 = go m (ap (laid world) (same_some (sym p ∙ is)) ∙ at) in
          ap (λ (s : Shape). s.size) shape ∙ (let z = bare c (Here c refl) in omega (arith, z, above))

  size_is : (class : ℕ) (l : Laid) → laid world class ≡ Some l → IsBare world class → (shape_at (shapes world.around.layout) l.own).size ≡ 1
  size_is class l h bare =
      let within : class < length world.classes.classes = of.within class l h in
      let up = topped world.classes.classes counted.forest class within in
      size_from up.top class up.under up.none (λ d u. none_declared d world.attributes (λ i name e k. not_true (sym (bare i d name e k) ∙ below_of world.classes.classes counted.forest d class within u))) l h

  module _ (program : Resolved) (reached : List Bool) (p : LlProgram) (has : HasStatics world program reached p) (class : ℕ) (l top : Laid) (lt : class < builtin_classes) (is : laid world class ≡ Some l) (first : laid world 0 ≡ Some top) (bare : IsBare world class) where
    abbrev vtable_value : Value
    vtable_value = constant (vtable_at world l)

    abbrev whole : CStatic
    whole = exception_by world (Some l) class

    values_are : static_values whole ≡ vtable_value ∷ []
    values_are = wrapped_values world.classes.classes (length world.classes.classes) class (cell.Const (vtable_at world l) ∷ []) ∙ value_first (vtable_at world l) []

    small : (shape_at (shapes_of p.structs) l.own).size ≡ 1
    small = ap (λ ss. (shape_at (shapes_of ss) l.own).size) has.structs ∙ ap (λ (s : Shape). s.size) (shape_kept world.around.layout.structs has.more l.own (of.inside class l is)) ∙ size_is class l is bare

    block_is : static_block (shapes_of p.structs) whole ≡ record { kind = l.own; fields = vtable_value ∷ []; items = [] }
    block_is =
        ap (λ vs. record { kind = l.own; fields = take (shape_at (shapes_of p.structs) l.own).size vs; items = drop (shape_at (shapes_of p.structs) l.own).size vs }) values_are
        ∙ ap (λ n. record { kind = l.own; fields = take n (vtable_value ∷ []); items = drop n (vtable_value ∷ []) }) small

    listed : slice_get (exceptions world) class ≡ Some whole
    listed = ap (λ o. slice_get (exceptions_if world o) class) first ∙ one_of world 13 class lt ∙ ap (λ o. Some (exception_by world o class)) is

    abbrev vtables_now : List CStatic
    vtables_now = vtables world program reached

    count_vtables : length vtables_now ≡ length world.around.layout.order
    count_vtables = length-map world.around.layout.order (vtable world program reached)

    at_place : slice_get p.statics (world.first_vtable + length world.around.layout.order + class) ≡ Some whole
    at_place =
        ap (λ ss. slice_get ss (world.first_vtable + length world.around.layout.order + class)) has.statics
        ∙ get_right has.before (vtables_now ++ (exceptions world ++ has.rest)) (world.first_vtable + length world.around.layout.order + class) (length world.around.layout.order + class) (omega (arith, has.first))
        ∙ get_right vtables_now (exceptions world ++ has.rest) (length world.around.layout.order + class) class (omega (arith, count_vtables))
        ∙ get_left (exceptions world) has.rest class whole listed

    place_is : word (world.first_exception + class) ≡ world.first_vtable + length world.around.layout.order + class
    place_is =
        let within = get_within p.statics (world.first_vtable + length world.around.layout.order + class) whole at_place in
        let from : world.first_exception ≡ world.first_vtable + length world.around.layout.order = has.next ∙ word_same (world.first_vtable + length world.around.layout.order) (omega (arith, within, has.few)) in
        ap (λ n. word (n + class)) from ∙ word_same (world.first_vtable + length world.around.layout.order + class) (omega (arith, within, has.few))

    stands : found [] (statics_of p) (Static (word (world.first_exception + class))) ≡ Some (record { kind = l.own; fields = vtable_value ∷ []; items = [] })
    stands =
        ap (slice_get (statics_of p)) place_is ∙ slice_get-map (static_block (shapes_of p.structs)) p.statics (world.first_vtable + length world.around.layout.order + class)
        ∙ ap (option_map (static_block (shapes_of p.structs))) at_place ∙ ap Some block_is

pub exceptions_stand : ExceptionsStand
exceptions_stand program annotation raises world reached p is counted has class l top lt laid_as first bare =
    let of = of_world program annotation raises world is counted in
    (size_is world counted of class l laid_as bare, stands world counted of program reached p has class l top lt laid_as first bare)
