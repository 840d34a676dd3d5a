-- The elements of an annotation have their structs in its layout.
use Rattle.std.proofs.Common.{◌≡◌, ◌<◌, ℕ, zero, suc, ◌+◌, ◌-◌, Bool, true, false, ◌&&◌, List, [], ◌∷◌, ◌++◌, length, Option, Some, refl, sym, ap, ◌∙◌, subst, arith}
use Rattle.std.proofs.lemmas.Bool.Decides.{nat_tests}
use Rattle.std.proofs.lemmas.List.{append-nil}
use Rattle.std.specs.List.{flat_map}
use Rattle.std.specs.Prelude.{◌^◌, ◌*◌, slice_get, nat_le, nat_lt}
use Rattle.std.proofs.lemmas.List.Folds.{flat_map-map}
use Rattle.ann_element.specs.Sites.{leader}
use Rattle.ann_element.specs.declared.annotation.Annotation.{Annotation}
use Rattle.ann_element.specs.declared.element.Element.{Element, fold-roll-Element}
use Rattle.ann_element.specs.declared.element.Element.TheVariants as element
use Rattle.ann_element.specs.declared.element.Element.TheOpen.{Element-F}
use Rattle.ll_code.specs.declared.program.LlStruct.{LlStruct}
use Rattle.ll_code.specs.declared.program.LlType.{LlType}
use Rattle.ll_code.specs.declared.program.LlType.TheVariants as type
use Rattle.rpy_resolved.specs.declared.tree.Resolved.{Resolved}
use Rattle.rpy_tree.specs.declared.program.ClassInfo.{ClassInfo}
use Rattle.rtyper_layout.specs.declared.classes.Laid.{Laid}
use Rattle.rtyper_layout.specs.declared.layout.Layout.{Layout}
use Rattle.rtyper_layout.specs.Layout.{layout_of, all_lists, all_dicts, all_tuples, tuple_struct, before_lists, is_tuple, fields_in}
use Rattle.rtyper_layout.specs.Sites.{same, sites_step, sites_of, all_shapes, all_sites}
use Rattle.rtyper_layout.specs.declared.kind.Kind.{Kind}
use Rattle.rtyper_layout.specs.declared.kind.Kind.TheVariants as kind
use Rattle.rtyper_layout.specs.Kinds.{kind_of}
use Rattle.lower_laws.specs.Values.{is_simple}
use Rattle.lower_laws.proofs.Typing.{place_of_words, place_of_flags, place_of_bytes, place_of_strings, place_of_texts, place_of_none}
use Rattle.rtyper_layout.specs.Types.{word, laid_in, root_of, type_step, pointer_to, shape, shape_from, site_from, struct_at, type_of}
use Rattle.rtyper_layout.proofs.Tuples.{tuple_is}
use Rattle.conversion_laws.specs.Going.{IsTuple}
use Rattle.conversion_laws.specs.Ordered as laid
use Rattle.layout_laws.proofs.Places.{get_left, get_right, get_within, no_some, same_some}
use Rattle.layout_laws.proofs.Numbers.{count_all, first_tuple_is, length_dicts, length_lists, count_mappings}
use Rattle.layout_laws.proofs.Structs.{bare_mapped, mapped, started, word_same}
use Rattle.laid_laws.specs.Laid.{ElementsAreLaid, StandsIn, IsPlanned, AllPlanned, Listed, Mapped, Instanced, Items, Nowhere, Simple, Called, End, Next}
use Rattle.laid_laws.proofs.Shaped.{AllBuilt, AllShaped, Alone, Built, IsAlone, Made, None_left, One, Plain, Shaped, Tupled, shape_found, shaped_stays, shapes_stand}
use Rattle.laid_laws.proofs.Shaped as shaped
use Rattle.laid_laws.proofs.Sited.{Has, sites_stand}

-- ---- the sites of a tuple are those of its parts

sites_inside : (d : Bool) (parts : List Element) → sites_of d (element.Tuple parts) ≡ flat_map (sites_of d) parts
sites_inside d parts =
    ap (sites_of d) (sym (element.rolls-Tuple parts)) ∙ fold-roll-Element (List ℕ) (sites_step d) (Element-F.Tuple parts)
    ∙ flat_map-map same (sites_of d) parts

-- ---- the types of elements

list_type : (l : Layout) (site : ℕ) (r : Bool) → type_of l (element.List site r) ≡ pointer_to l.first_list 2 (site_from 0 l.lists site)
list_type l site r = ap (type_of l) (sym (element.rolls-List site r)) ∙ fold-roll-Element LlType (type_step l) (Element-F.List site r)

dict_type : (l : Layout) (site : ℕ) (r : Bool) → type_of l (element.Dict site r) ≡ pointer_to l.first_dict 3 (site_from 0 l.dicts site)
dict_type l site r = ap (type_of l) (sym (element.rolls-Dict site r)) ∙ fold-roll-Element LlType (type_step l) (Element-F.Dict site r)

class_type : (l : Layout) (class : ℕ) (r : Bool) → type_of l (element.Instance class r) ≡ root_of (laid_in l.classes class)
class_type l class r = ap (type_of l) (sym (element.rolls-Instance class r)) ∙ fold-roll-Element LlType (type_step l) (Element-F.Instance class r)

function_type : (l : Layout) (functions : List ℕ) (r : Bool) → type_of l (element.Func functions r) ≡ type.Fn
function_type l functions r = ap (type_of l) (sym (element.rolls-Func functions r)) ∙ fold-roll-Element LlType (type_step l) (Element-F.Func functions r)

never_type : (l : Layout) (e : Element) → kind_of e ≡ kind.Never → type_of l e ≡ type.Void
never_type l element.Unreached h = ap (type_of l) (sym element.rolls-Unreached) ∙ fold-roll-Element LlType (type_step l) Element-F.Unreached
never_type l element.NoneOnly h = absurd (cc)
never_type l element.KnownTrue h = absurd (cc)
never_type l element.KnownFalse h = absurd (cc)
never_type l element.Bool h = absurd (cc)
never_type l element.IntPos h = absurd (cc)
never_type l element.Int h = absurd (cc)
never_type l element.Char h = absurd (cc)
never_type l element.Str h = absurd (cc)
never_type l element.StrOrNone h = absurd (cc)
never_type l (element.List site true) h = absurd (cc)
never_type l (element.List site false) h = absurd (cc)
never_type l (element.Instance class true) h = absurd (cc)
never_type l (element.Instance class false) h = absurd (cc)
never_type l (element.Func functions true) h = absurd (cc)
never_type l (element.Func functions false) h = absurd (cc)
never_type l (element.Dict site true) h = absurd (cc)
never_type l (element.Dict site false) h = absurd (cc)
never_type l (element.Conflict lists dicts) h = absurd (cc)
never_type l other h = absurd (cc)

simple_alone : (e : Element) (k : Kind) → kind_of e ≡ k → is_simple k ≡ true → IsAlone e
simple_alone e kind.Word q h = λ l m same. place_of_words l (Some e) q ∙ sym (place_of_words m (Some e) q)
simple_alone e kind.Flag q h = λ l m same. place_of_flags l (Some e) q ∙ sym (place_of_flags m (Some e) q)
simple_alone e kind.Byte q h = λ l m same. place_of_bytes l (Some e) q ∙ sym (place_of_bytes m (Some e) q)
simple_alone e kind.Text q h = λ l m same. place_of_strings l (Some e) q ∙ sym (place_of_strings m (Some e) q)
simple_alone e kind.MaybeText q h = λ l m same. place_of_texts l (Some e) q ∙ sym (place_of_texts m (Some e) q)
simple_alone e kind.Nothing q h = λ l m same. place_of_none l (Some e) q ∙ sym (place_of_none m (Some e) q)
simple_alone e kind.Never q h = absurd (cc)
simple_alone e kind.List q h = absurd (cc)
simple_alone e kind.MaybeList q h = absurd (cc)
simple_alone e kind.Dict q h = absurd (cc)
simple_alone e kind.MaybeDict q h = absurd (cc)
simple_alone e kind.Instance q h = absurd (cc)
simple_alone e kind.MaybeInstance q h = absurd (cc)
simple_alone e kind.Function q h = absurd (cc)
simple_alone e kind.MaybeFunction q h = absurd (cc)
simple_alone e kind.Tuple q h = absurd (cc)
simple_alone e kind.Other q h = absurd (cc)

-- ---- what is no tuple

-- what is known of it; its class has a struct among these
data Leaf (classes : List (Option Laid)) (leaders : List ℕ) : Element → Type 0 where
  OfList : (site : ℕ) (r : Bool) → leader leaders site ≡ site → Leaf classes leaders (element.List site r)
  OfDict : (site : ℕ) (r : Bool) → leader leaders site ≡ site → Leaf classes leaders (element.Dict site r)
  OfClass : (class : ℕ) (r : Bool) (l : Laid) → laid_in classes class ≡ Some l → Leaf classes leaders (element.Instance class r)
  OfNone : {e : Element} → kind_of e ≡ kind.Never → Leaf classes leaders e
  OfSimple : {e : Element} → is_simple (kind_of e) ≡ true → Leaf classes leaders e
  OfFunctions : (functions : List ℕ) (r : Bool) → Leaf classes leaders (element.Func functions r)

module _ (classes : List (Option Laid)) (leaders : List ℕ) (layout : Layout) (same_classes : layout.classes ≡ classes) where
  mutual
    built : {e : Element} → IsPlanned layout leaders e → Built (Leaf classes leaders) e
    built (Listed site r led) =
        Plain {e = element.List site r} (λ l m h. list_type l site r ∙ ap (λ (b : Layout). pointer_to b.first_list 2 (site_from 0 b.lists site)) h ∙ sym (list_type m site r)) (OfList site r led)
    built (Mapped site r led) =
        Plain {e = element.Dict site r} (λ l m h. dict_type l site r ∙ ap (λ (b : Layout). pointer_to b.first_dict 3 (site_from 0 b.dicts site)) h ∙ sym (dict_type m site r)) (OfDict site r led)
    built (Instanced class r l it) =
        Plain {e = element.Instance class r} (λ l m h. class_type l class r ∙ ap (λ (b : Layout). root_of (laid_in b.classes class)) h ∙ sym (class_type m class r))
        (OfClass class r l (ap (λ cs. laid_in cs class) (sym same_classes) ∙ it))
    built (Items parts each) = Made parts (all_built each)
    built (Nowhere {e = e} k) = Plain {e = e} (λ l m h. never_type l e k ∙ sym (never_type m e k)) (OfNone k)
    built (Simple {e = e} k) = Plain {e = e} (simple_alone e (kind_of e) refl k) (OfSimple k)
    built (Called functions r) = Plain {e = element.Func functions r} (λ l m h. function_type l functions r ∙ sym (function_type m functions r)) (OfFunctions functions r)

    all_built : {es : List Element} → AllPlanned layout leaders es → AllBuilt (Leaf classes leaders) es
    all_built End = None_left
    all_built (Next it more) = One (built it) (all_built more)

-- ---- a layout in which shapes stand at their numbers

-- where a shape stands
record ShapeStands (l : Layout) (i : ℕ) (s : List LlType) : Type 0 where
  number : struct_at l.first_tuple 1 i ≡ l.first_tuple + i
  struct : fields_in (slice_get l.structs (l.first_tuple + i)) ≡ s
  is : is_tuple l (l.first_tuple + i) ≡ true

-- the sites of an element have their places
abbrev HasSites : Layout → Element → Type 0
HasSites l e = ((j x : ℕ) → slice_get (sites_of false e) j ≡ Some x → Has l.lists x) × ((j x : ℕ) → slice_get (sites_of true e) j ≡ Some x → Has l.dicts x)

abbrev HasSitesOf : Layout → List Element → Type 0
HasSitesOf l es = ((j x : ℕ) → slice_get (flat_map (sites_of false) es) j ≡ Some x → Has l.lists x) × ((j x : ℕ) → slice_get (flat_map (sites_of true) es) j ≡ Some x → Has l.dicts x)

in_first : (xs ys : List ℕ) (j x : ℕ) → slice_get xs j ≡ Some x → slice_get (xs ++ ys) j ≡ Some x
in_first xs ys j x h = get_left xs ys j x h

in_second : (xs ys : List ℕ) (j x : ℕ) → slice_get ys j ≡ Some x → slice_get (xs ++ ys) (length xs + j) ≡ Some x
in_second xs ys j x h = get_right xs ys (length xs + j) j refl ∙ h

first_sites : (l : Layout) (e : Element) (es : List Element) → HasSitesOf l (e ∷ es) → HasSites l e
first_sites l e es h = (
  λ j x k. h.0 j x (in_first (sites_of false e) (flat_map (sites_of false) es) j x k),
  λ j x k. h.1 j x (in_first (sites_of true e) (flat_map (sites_of true) es) j x k),
)

other_sites : (l : Layout) (e : Element) (es : List Element) → HasSitesOf l (e ∷ es) → HasSitesOf l es
other_sites l e es h = (
  λ j x k. h.0 (length (sites_of false e) + j) x (in_second (sites_of false e) (flat_map (sites_of false) es) j x k),
  λ j x k. h.1 (length (sites_of true e) + j) x (in_second (sites_of true e) (flat_map (sites_of true) es) j x k),
)

tuple_sites : (l : Layout) (parts : List Element) → HasSites l (element.Tuple parts) → HasSitesOf l parts
tuple_sites l parts h = (
  λ j x k. h.0 j x (ap (λ xs. slice_get xs j) (sites_inside false parts) ∙ k),
  λ j x k. h.1 j x (ap (λ xs. slice_get xs j) (sites_inside true parts) ∙ k),
)

list_sites : (site : ℕ) (r : Bool) → sites_of false (element.List site r) ≡ site ∷ []
list_sites site r = ap (sites_of false) (sym (element.rolls-List site r)) ∙ fold-roll-Element (List ℕ) (sites_step false) (Element-F.List site r)

dict_sites : (site : ℕ) (r : Bool) → sites_of true (element.Dict site r) ≡ site ∷ []
dict_sites site r = ap (sites_of true) (sym (element.rolls-Dict site r)) ∙ fold-roll-Element (List ℕ) (sites_step true) (Element-F.Dict site r)

module _ (l : Layout) (leaders : List ℕ) (stand : (i : ℕ) (s : List LlType) → slice_get l.shapes i ≡ Some s → ShapeStands l i s) where
  leaf_laid : {e : Element} → Leaf l.classes leaders e → HasSites l e → laid.IsLaid l leaders e
  leaf_laid (OfList site r led) sites =
      let at = sites.0 0 site (ap (λ xs. slice_get xs 0) (list_sites site r)) in
      laid.Listed (struct_at l.first_list 2 at.0) site r led (list_type l site r ∙ ap (pointer_to l.first_list 2) at.1)
  leaf_laid (OfDict site r led) sites =
      let at = sites.1 0 site (ap (λ xs. slice_get xs 0) (dict_sites site r)) in
      laid.Mapped (struct_at l.first_dict 3 at.0) site r led (dict_type l site r ∙ ap (pointer_to l.first_dict 3) at.1)
  leaf_laid (OfClass class r m it) sites = laid.Instanced class r m it
  leaf_laid (OfNone k) sites = laid.Nowhere k
  leaf_laid (OfSimple k) sites = laid.Simple k
  leaf_laid (OfFunctions functions r) sites = laid.Called functions r

  tuple_laid : (parts : List Element) (k : ℕ) → shape_from 0 l.shapes (shape l parts) ≡ Some k → IsTuple l (Some (element.Tuple parts)) (l.first_tuple + k) parts
  tuple_laid parts k there =
      let at = shape_found 0 l.shapes (shape l parts) k there in
      let same : at.0 ≡ k = (let q = at.1.0 in omega (arith, q)) in
      let it : ShapeStands l k (shape l parts) = subst (λ i. ShapeStands l i (shape l parts)) same (stand at.0 (shape l parts) at.1.1) in
      record {
        is = refl;
        typed = tuple_is l parts ∙ ap (pointer_to l.first_tuple 1) there ∙ ap type.Ptr it.number;
        struct = it.is;
        fields = it.struct;
      }

  mutual
    laid_so : {e : Element} → Shaped (Leaf l.classes leaders) l e → HasSites l e → laid.IsLaid l leaders e
    laid_so (Alone alone leaf) sites = leaf_laid leaf sites
    laid_so (Tupled parts k each there) sites = laid.Items (l.first_tuple + k) parts (tuple_laid parts k there) (all_laid_so each (tuple_sites l parts sites))

    all_laid_so : {es : List Element} → AllShaped (Leaf l.classes leaders) l es → HasSitesOf l es → laid.AllLaid l leaders es
    all_laid_so shaped.End sites = laid.End
    all_laid_so (shaped.Next {e = e} {es = es} it more) sites = laid.Next (laid_so it (first_sites l e es sites)) (all_laid_so more (other_sites l e es sites))

-- ---- the layout of an annotation

get_tuple : (shapes : List (List LlType)) (i : ℕ) (s : List LlType) → slice_get shapes i ≡ Some s → slice_get (all_tuples shapes) i ≡ Some (tuple_struct s)
get_tuple [] i s h = absurd (no_some h)
get_tuple (t ∷ shapes) zero s h = ap (λ x. Some (tuple_struct x)) (same_some h)
get_tuple (t ∷ shapes) (suc i) s h = get_tuple shapes i s h

tuple_stands : (before listed dicts : List LlStruct) (shapes : List (List LlType)) (first lists mapped i : ℕ) (s : List LlType) → first ≡ length before + (2 * lists + 3 * mapped) → length listed ≡ 2 * lists → length dicts ≡ 3 * mapped → slice_get shapes i ≡ Some s
    → slice_get (before ++ (listed ++ (dicts ++ all_tuples shapes))) (first + i) ≡ Some (tuple_struct s)
tuple_stands before listed dicts shapes first lists mapped i s e f g h =
    get_right before (listed ++ (dicts ++ all_tuples shapes)) (first + i) (2 * lists + (3 * mapped + i)) (omega (arith, e))
    ∙ get_right listed (dicts ++ all_tuples shapes) (2 * lists + (3 * mapped + i)) (3 * mapped + i) (omega (arith, f))
    ∙ get_right dicts (all_tuples shapes) (3 * mapped + i) i (omega (arith, g)) ∙ get_tuple shapes i s h

number_stands : (first i : ℕ) → first + i < 2 ^ 64 → struct_at first 1 i ≡ first + i
number_stands first i few =
    ap (λ n. word (first + n)) (word_same (i * 1) (omega (arith, few)) ∙ (let one : i * 1 ≡ i = omega arith in one)) ∙ word_same (first + i) few

within : (first i count : ℕ) → i < count → (nat_le first (first + i) && nat_lt (first + i - first) count) ≡ true
within first i count few =
    let low : nat_le first (first + i) ≡ true = grind (arith, nat_tests) in
    let back : first + i - first ≡ i = omega arith in
    let high : nat_lt (first + i - first) count ≡ true = ap (λ n. nat_lt n count) back ∙ (let q : nat_lt i count ≡ true = grind (arith, nat_tests, few) in q) in
    ap (λ b. b && nat_lt (first + i - first) count) low ∙ high

module _ (program : Resolved) (infos : List ClassInfo) (a : Annotation) (raises : Bool) (small : length (layout_of program infos a raises).structs < 2 ^ 64) where
  abbrev all : Layout
  all = layout_of program infos a raises

  abbrev given : Layout
  given = mapped program infos a raises

  abbrev before : List LlStruct
  before = before_lists given infos a

  stands : (i : ℕ) (s : List LlType) → slice_get all.shapes i ≡ Some s → ShapeStands all i s
  stands i s h =
      let few : i < length all.shapes = get_within all.shapes i s h in
      let first : all.first_tuple ≡ length before + (2 * length all.lists + 3 * length all.dicts) = first_tuple_is program infos a raises small in
      let maps : length given.mappings ≡ length all.dicts = count_mappings program infos a raises small in
      record {
        number = number_stands all.first_tuple i (omega (arith, first, few, small, count_all program infos a raises small));
        struct = ap fields_in (tuple_stands before (all_lists given a (length before) given.lists) (all_dicts given.mappings) all.shapes all.first_tuple (length all.lists) (length all.dicts) i s first
            (length_lists given a (length before) given.lists) (omega (arith, length_dicts given.mappings, maps)) h);
        is = within all.first_tuple i (length all.shapes) few;
      }

  has_shapes : (e : Element) → StandsIn a e → IsPlanned all a.same e → Shaped (Leaf all.classes a.same) all e
  has_shapes e there planned =
      shaped_stays (Leaf all.classes a.same) (all_shapes (started program infos a raises) a) all (record { more = []; same = refl; is = sym (append-nil all.shapes) })
      (shapes_stand (Leaf all.classes a.same) (started program infos a raises) a e (built all.classes a.same all refl planned) there)

  sites_are : (all.lists ≡ all_sites false (0 ∷ []) a) × (all.dicts ≡ all_sites true [] a)
  sites_are = (ap (λ (l : Layout). l.lists) (bare_mapped program infos a raises), ap (λ (l : Layout). l.dicts) (bare_mapped program infos a raises))

  has_sites : (e : Element) → StandsIn a e → HasSites all e
  has_sites e there = (
    λ j x k. subst (λ xs. Has xs x) (sym sites_are.0) (sites_stand false a (0 ∷ []) e j x k there),
    λ j x k. subst (λ xs. Has xs x) (sym sites_are.1) (sites_stand true a [] e j x k there),
  )

pub elements_are_laid : ElementsAreLaid
elements_are_laid program infos a raises small e there planned =
    laid_so (layout_of program infos a raises) a.same (stands program infos a raises small) (has_shapes program infos a raises small e there planned) (has_sites program infos a raises small e there)
