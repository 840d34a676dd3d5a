-- The row of two classes computes, and meets what the laws ask.
use Rattle.std.proofs.Common.{◌≡◌, ◌<◌, ℕ, zero, suc, ◌+◌, Bool, true, false, List, [], ◌∷◌, length, Some, None, refl, sym, ap, ◌∙◌, arith}
use Rattle.std.specs.Prelude.{◌*◌, slice_get, option_map}
use Rattle.ann_element.specs.declared.element.Element.{Element, fold-roll-Element}
use Rattle.ann_element.specs.declared.element.Element.TheOpen.{Element-F}
use Rattle.ann_element.specs.declared.element.Element.TheVariants as element
use Rattle.ll_code.specs.Machine.{shapes_from}
use Rattle.rpy_tree.specs.Value.{Nothing}
use Rattle.rpy_meaning.specs.Classes.{base_of}
use Rattle.class_desc.specs.Line.{base}
use Rattle.class_desc.specs.Range.{ends, IsForest}
use Rattle.class_desc.specs.Tables.{home}
use Rattle.rtyper_layout.specs.declared.layout.Layout.{Layout}
use Rattle.rtyper_layout.specs.Layout.{with_classes, with_mappings, with_structs}
use Rattle.rtyper_layout.specs.Sites.{sites_step, sites_of, with_sites, all_sites, lists, dicts, tuples_step, tuples_of, with_shapes, all_shapes}
use Rattle.rtyper_layout.specs.Types.{word as number, laid_in}
use Rattle.rtyper_class.specs.Attributes.{standing_in, place_in}
use Rattle.object_laws.specs.Represents.{shapes}
use Rattle.class_laws.specs.Classes.{standing_of}
use Rattle.layout_laws.specs.Layouts.{IsNumbered}
use Rattle.layout_laws.specs.Rows.{infos, program, annotation, layout, world, meant, known, x, y, HasShapes, HasClasses, HasAttributes, IsKnown, IsStarted}
use Rattle.layout_laws.specs.Starting.{AreConstants}
use Rattle.layout_laws.proofs.Classes.{layouts_lay_out_classes}
use Rattle.layout_laws.proofs.Instances.{instances_start}
use Rattle.layout_laws.proofs.Knowing.{classes_are_known}
use Rattle.layout_laws.proofs.Places.{same_some, no_some}

-- ---- neither a word nor an instance has lists, dicts or tuples in it

no_sites : (d : Bool) → (sites_of d element.Int ≡ []) × (sites_of d (element.Instance 0 true) ≡ [])
no_sites d = (
  ap (sites_of d) (sym element.rolls-Int) ∙ fold-roll-Element (List ℕ) (sites_step d) Element-F.Int,
  ap (sites_of d) (sym (element.rolls-Instance 0 true)) ∙ fold-roll-Element (List ℕ) (sites_step d) (Element-F.Instance 0 true),
)

no_tuples : (tuples_of element.Int ≡ []) × (tuples_of (element.Instance 0 true) ≡ [])
no_tuples = (
  ap tuples_of (sym element.rolls-Int) ∙ ap (λ p. p.1) (fold-roll-Element (Element × List (List Element)) tuples_step Element-F.Int),
  ap tuples_of (sym (element.rolls-Instance 0 true)) ∙ ap (λ p. p.1) (fold-roll-Element (Element × List (List Element)) tuples_step (Element-F.Instance 0 true)),
)

no_sites_with : (d : Bool) (sites : List ℕ) → all_sites d sites annotation ≡ sites
no_sites_with d sites =
    ap (λ xs. with_sites (with_sites sites xs) (sites_of d (element.Instance 0 true))) (no_sites d).0 ∙ ap (with_sites sites) (no_sites d).1

no_shapes : (l : Layout) → all_shapes l annotation ≡ l
no_shapes l = ap (λ xs. with_shapes (with_shapes l xs) (tuples_of (element.Instance 0 true))) no_tuples.0 ∙ ap (with_shapes l) no_tuples.1

-- ---- the layout

begun : List ℕ → List ℕ → Layout
begun listed keyed = record (with_classes program infos annotation.made false) {
  lists = listed;
  first_dict = number (4 + number (length listed * 2));
  dicts = keyed;
  first_tuple = number (number (4 + number (length listed * 2)) + number (length keyed * 3));
}

whole : Layout → Layout
whole l = with_structs infos annotation (with_mappings annotation l)

layout_is : layout ≡ whole (begun (0 ∷ []) [])
unfolding begun whole
layout_is =
    ap whole (no_shapes (begun (lists annotation) (dicts annotation))) ∙ ap (λ xs. whole (begun xs (dicts annotation))) (no_sites_with false (0 ∷ [])) ∙ ap (λ xs. whole (begun (0 ∷ []) xs)) (no_sites_with true [])

pub has_shapes : HasShapes
unfolding shapes_from begun whole
has_shapes = ap shapes layout_is

pub has_classes : HasClasses
unfolding begun whole
has_classes = ap (λ (l : Layout). l.classes) layout_is

pub has_attributes : HasAttributes
unfolding place_in
has_attributes = (
  ap (λ classes. option_map standing_of (standing_in world 0 x (laid_in classes 0))) has_classes,
  ap (λ classes. option_map standing_of (standing_in world 1 y (laid_in classes 1))) has_classes,
)

-- ---- what the laws ask

bases : (c b : ℕ) → base infos c ≡ Some b → b < length infos
bases zero b h = absurd (no_some h)
bases (suc zero) b h = (let e : 0 ≡ b = same_some h in omega (arith, e))
bases (suc (suc c)) b h = absurd (no_some h)

ending : (c : ℕ) → c < length infos → ends infos (length infos) (Some c) ≡ true
ending zero lt = refl
ending (suc zero) lt = refl
ending (suc (suc c)) lt = absurd (omega (arith, lt))

forest : IsForest infos
forest = record { bases = bases; ending = ending }

numbered : IsNumbered world
numbered = record { forest = forest; classes = omega arith; attributes = omega arith }

same_bases : (c : ℕ) → base_of (slice_get meant.classes c) ≡ base infos c
same_bases zero = refl
same_bases (suc zero) = refl
same_bases (suc (suc c)) = refl

pub is_known : IsKnown
is_known = (
  layouts_lay_out_classes program annotation false world known (record { layout = refl; attributes = refl }) numbered (λ class name. refl),
  classes_are_known world program annotation.reached meant (λ n. None) (λ n. None) (λ s. None) (λ s. None) forest (record { count = refl; bases = same_bases }),
)

-- ---- new instances

at_home : (i class : ℕ) (name : List ℕ) (e : Element) → slice_get world.attributes i ≡ Some (class, name, e) → home world.classes class name ≡ Some class
at_home zero class name e h = (let q = same_some h in ap (λ (p : ℕ × List ℕ × Element). home world.classes p.0 p.1) (sym q) ∙ ap (λ (p : ℕ × List ℕ × Element). Some p.0) q)
at_home (suc zero) class name e h = (let q = same_some h in ap (λ (p : ℕ × List ℕ × Element). home world.classes p.0 p.1) (sym q) ∙ ap (λ (p : ℕ × List ℕ × Element). Some p.0) q)
at_home (suc (suc i)) class name e h = absurd (no_some h)

two_homes : (class : ℕ) (name : List ℕ) (e f : Element) → slice_get world.attributes 0 ≡ Some (class, name, e) → slice_get world.attributes 1 ≡ Some (class, name, f) → ⊥
two_homes class name e f h k =
    let a : 0 ≡ class = ap (λ (p : ℕ × List ℕ × Element). p.0) (same_some h) in
    let b : 1 ≡ class = ap (λ (p : ℕ × List ℕ × Element). p.0) (same_some k) in
    omega (arith, a, b)

once : (i j class : ℕ) (name : List ℕ) (e f : Element) → slice_get world.attributes i ≡ Some (class, name, e) → slice_get world.attributes j ≡ Some (class, name, f) → i ≡ j
once zero zero class name e f h k = refl
once (suc zero) (suc zero) class name e f h k = refl
once zero (suc zero) class name e f h k = absurd (two_homes class name e f h k)
once (suc zero) zero class name e f h k = absurd (two_homes class name f e k h)
once (suc (suc i)) j class name e f h k = absurd (no_some h)
once zero (suc (suc j)) class name e f h k = absurd (no_some k)
once (suc zero) (suc (suc j)) class name e f h k = absurd (no_some k)

no_constants : AreConstants (λ c. Nothing) meant.classes infos
no_constants zero = refl
no_constants (suc zero) = refl
no_constants (suc (suc c)) = refl

pub is_started : IsStarted
is_started =
    instances_start program annotation false world known (λ c. Nothing) 1 (record { layout = refl; attributes = refl }) numbered (λ class name. refl) (record { at_home = at_home; once = once })
    (record { count = refl; bases = same_bases }) no_constants (λ home name s i found h k. absurd (no_some k))
