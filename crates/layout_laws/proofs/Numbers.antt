-- Lists, dicts, strings, tuples and classes have the structs of these numbers.
use Rattle.std.proofs.Common.{◌≡◌, ◌<◌, ◌≤◌, ◌⊎◌, inl, inr, ℕ, zero, suc, ◌+◌, ◌-◌, Bool, true, false, List, [], ◌∷◌, ◌++◌, length, Option, Some, None, refl, sym, ap, ◌∙◌, subst, arith, length-append}
use Rattle.std.specs.Prelude.{◌^◌, ◌*◌, ◌/◌, ◌%◌, ◌==◌, ◌&&◌, ◌||◌, not, nat_lt, nat_le, slice_get, slice_set, replicate, if◌then◌else◌}
use Rattle.std.proofs.lemmas.Bool.{ltb-true, ltb-false, leb-true, cases_eq}
use Rattle.std.proofs.lemmas.Bool.Decides.{eqb_tells}
use Rattle.ann_element.specs.declared.annotation.Annotation.{Annotation}
use Rattle.csub_tree.specs.Layout.{shape_at, shape_over}
use Rattle.ll_code.specs.Machine.{shapes_of}
use Rattle.ll_code.specs.declared.program.LlProgram.{LlProgram}
use Rattle.ll_code.specs.declared.program.LlStruct.{LlStruct}
use Rattle.ll_code.specs.declared.program.LlType.{LlType}
use Rattle.rpy_resolved.specs.declared.tree.Resolved.{Resolved}
use Rattle.rpy_tree.specs.declared.program.ClassInfo.{ClassInfo}
use Rattle.class_desc.specs.Line.{base}
use Rattle.rtyper_layout.specs.declared.classes.Laid.{Laid}
use Rattle.rtyper_layout.specs.declared.dicts.Mapping.{Mapping}
use Rattle.rtyper_layout.specs.declared.layout.Layout.{Layout}
use Rattle.rtyper_layout.specs.Dicts.{type_in, first, second, dict_structs}
use Rattle.rtyper_layout.specs.Families.{one_more, tops, under, laid_of, set_laid, lay_from}
use Rattle.rtyper_layout.specs.Layout.{layout_of, list_structs, all_lists, all_dicts, all_tuples, tuple_struct, before_lists, mappings_from, mapping_at, vtables, is_list, is_tuple, fields_in}
use Rattle.rtyper_layout.specs.Sites.{all_shapes}
use Rattle.rtyper_layout.specs.Types.{word, laid_in}
use Rattle.object_laws.specs.Done.{HasLayout, HasDict}
use Rattle.object_laws.specs.Represents.{shapes, is_settled}
use Rattle.layout_laws.specs.Layouts.{LayoutsAreHad}
use Rattle.layout_laws.proofs.Places.{is_same, same_some, no_some, not_true, get_right, laid_here, laid_there, none_laid}
use Rattle.layout_laws.proofs.Shapes.{shape_kept, Plain, plain_shape, plain_left, plain_right}
use Rattle.layout_laws.proofs.Structs.{word_same, started, mapped, inorder, vtables_now, classes_now, bare_mapped, classes_are, order_is, count_vtables, length_classes, length_names}

-- ---- stretches of structs

module _ (layout : Layout) (a : Annotation) where
  pub length_lists : (n : ℕ) (sites : List ℕ) → length (all_lists layout a n sites) ≡ 2 * length sites
  length_lists n [] = omega arith
  length_lists n (site ∷ sites) = omega (arith, length_lists (n + 2) sites)

  head_at : (n i : ℕ) (sites : List ℕ) → i < length sites → Plain (all_lists layout a n sites) (2 * i) 2
  head_at n i [] lt = absurd (omega (arith, lt))
  head_at n zero (site ∷ sites) lt = record { struct = _; is = refl; base = refl; count = refl }
  head_at n (suc i) (site ∷ sites) lt =
      plain_right (list_structs n (type_in layout (slice_get a.items site))) (all_lists layout a (n + 2) sites) (2 * suc i) (2 * i) 2 (omega arith) (head_at (n + 2) i sites (omega (arith, lt)))

  array_at : (n i : ℕ) (sites : List ℕ) → i < length sites → Plain (all_lists layout a n sites) (2 * i + 1) 1
  array_at n i [] lt = absurd (omega (arith, lt))
  array_at n zero (site ∷ sites) lt = record { struct = _; is = refl; base = refl; count = refl }
  array_at n (suc i) (site ∷ sites) lt =
      plain_right (list_structs n (type_in layout (slice_get a.items site))) (all_lists layout a (n + 2) sites) (2 * suc i + 1) (2 * i + 1) 1 (omega arith) (array_at (n + 2) i sites (omega (arith, lt)))

  length_mappings : (n : ℕ) (sites : List ℕ) → length (mappings_from layout a n sites) ≡ length sites
  length_mappings n [] = refl
  length_mappings n (site ∷ sites) = ap suc (length_mappings (word (n + 3)) sites)

  -- each has the number that is three more than that of the one before
  number_of : (n : ℕ) (sites : List ℕ) (i : ℕ) (m : Mapping) → n + 3 * length sites < 2 ^ 64 → slice_get (mappings_from layout a n sites) i ≡ Some m → (m.dict ≡ n + 3 * i) × (i < length sites)
  number_of n [] i m few h = absurd (no_some h)
  number_of n (site ∷ sites) zero m few h = (ap (λ (m : Mapping). m.dict) (sym (same_some h)) ∙ (let z : n ≡ n + 3 * 0 = omega arith in z), omega arith)
  number_of n (site ∷ sites) (suc i) m few h =
      let next : word (n + 3) ≡ n + 3 = word_same (n + 3) (omega (arith, few)) in
      let it = number_of (word (n + 3)) sites i m (omega (arith, few, next)) h in
      (omega (arith, it.0, next), omega (arith, it.1))

-- a mapping that is found has a place
record Placed (ms : List Mapping) (m : Mapping) : Type 0 where
  place : ℕ
  is : slice_get ms place ≡ Some m

placed : (ms : List Mapping) (n : ℕ) (m : Mapping) → mapping_at ms n ≡ Some m → Placed ms m
placed [] n m h = absurd (no_some h)
placed (k ∷ ms) n m h = by (k.dict == n) (placed ms n m) h
  where
    by : (b : Bool) → (mapping_at ms n ≡ Some m → Placed ms m) → (if b then Some k else mapping_at ms n) ≡ Some m → Placed (k ∷ ms) m
    by true rest h = record { place = 0; is = h }
    by false rest h = (let it = rest h in record { place = suc it.place; is = it.is })

-- its three structs
record HasThree (structs : List LlStruct) (n : ℕ) : Type 0 where
  head : Plain structs n 4
  one : Plain structs (n + 1) 1
  two : Plain structs (n + 2) 1

three_right : (xs ys : List LlStruct) (n i : ℕ) → n ≡ length xs + i → HasThree ys i → HasThree (xs ++ ys) n
three_right xs ys n i e t = record { head = plain_right xs ys n i 4 e t.head; one = plain_right xs ys (n + 1) (i + 1) 1 (omega (arith, e)) t.one; two = plain_right xs ys (n + 2) (i + 2) 1 (omega (arith, e)) t.two }

three_left : (xs ys : List LlStruct) (n : ℕ) → HasThree xs n → HasThree (xs ++ ys) n
three_left xs ys n t = record { head = plain_left xs ys n 4 t.head; one = plain_left xs ys (n + 1) 1 t.one; two = plain_left xs ys (n + 2) 1 t.two }

three_at : (ms : List Mapping) (i : ℕ) → i < length ms → HasThree (all_dicts ms) (3 * i)
three_at [] i lt = absurd (omega (arith, lt))
three_at (m ∷ ms) zero lt = record {
  head = record { struct = _; is = refl; base = refl; count = refl };
  one = record { struct = _; is = refl; base = refl; count = refl };
  two = record { struct = _; is = refl; base = refl; count = refl };
}
three_at (m ∷ ms) (suc i) lt = three_right (dict_structs m) (all_dicts ms) (3 * suc i) (3 * i) (omega arith) (three_at ms i (omega (arith, lt)))

pub length_dicts : (ms : List Mapping) → length (all_dicts ms) ≡ 3 * length ms
length_dicts [] = omega arith
length_dicts (m ∷ ms) = omega (arith, length_dicts ms)

length_tuples : (shapes : List (List LlType)) → length (all_tuples shapes) ≡ length shapes
length_tuples [] = refl
length_tuples (s ∷ shapes) = ap suc (length_tuples shapes)

get_tuple : (shapes : List (List LlType)) (i : ℕ) → i < length shapes → (s : List LlType) × (slice_get (all_tuples shapes) i ≡ Some (tuple_struct s))
get_tuple [] i lt = absurd (omega (arith, lt))
get_tuple (s ∷ shapes) zero lt = (s, refl)
get_tuple (s ∷ shapes) (suc i) lt = get_tuple shapes i (omega (arith, lt))

-- ---- the structs of classes have these numbers, whatever the classes are

module _ (classes : List ClassInfo) (first : ℕ) where
  record Numbered (most : ℕ) (all : List (Option Laid)) : Type 0 where
    each : (c : ℕ) (l : Laid) → laid_in all c ≡ Some l → (l.own ≡ word (first + l.place)) × (l.place < most)

  own_of : (o : Option ℕ) (own place vtable : ℕ) (all : List (Option Laid)) → ((laid_of o own place vtable all).own ≡ own) × ((laid_of o own place vtable all).place ≡ place)
  own_of None own place vtable all = (refl, refl)
  own_of (Some b) own place vtable all = by (laid_in all b)
    where
      by : (o : Option Laid) → ((under own vtable place o).own ≡ own) × ((under own vtable place o).place ≡ place)
      by None = (refl, refl)
      by (Some m) = (refl, refl)

  numbers_more : (place c : ℕ) (all : List (Option Laid)) (l : Laid) → l.own ≡ word (first + place) → l.place ≡ place → Numbered place all → (b : Bool) → nat_lt c (length all) ≡ b → Numbered (place + 1) (if b then slice_set all c (Some l) else all)
  numbers_more place c all l own at old true e = record { each = λ d m h. by d m h (cases_eq c d) }
    where
      by : (d : ℕ) (m : Laid) → laid_in (slice_set all c (Some l)) d ≡ Some m → (c ≡ d) ⊎ (c ≡ d → ⊥) → (m.own ≡ word (first + m.place)) × (m.place < place + 1)
      by d m h (inl q) =
          let same : l ≡ m = same_some (sym (laid_here all c l (ltb-true c (length all) e)) ∙ ap (laid_in (slice_set all c (Some l))) q ∙ h) in
          let here : l.own ≡ word (first + l.place) = own ∙ ap (λ n. word (first + n)) (sym at) in
          let placed : m.place ≡ place = ap (λ (x : Laid). x.place) (sym same) ∙ at in
          (subst (λ (x : Laid). x.own ≡ word (first + x.place)) same here, omega (arith, placed))
      by d m h (inr ne) = (let was = old.each d m (sym (laid_there all c d (Some l) ne) ∙ h) in (was.0, omega (arith, was.1)))
  numbers_more place c all l own at old false e = record { each = λ d m h. (let was = old.each d m h in (was.0, omega (arith, was.1))) }

  numbers_all : (cs : List ℕ) (place vtable : ℕ) (all : List (Option Laid)) → Numbered place all → Numbered (place + length cs) (lay_from classes first place vtable all cs)
  numbers_all [] place vtable all old = record { each = λ d m h. (let was = old.each d m h in (was.0, omega (arith, was.1))) }
  numbers_all (c ∷ cs) place vtable all old =
      let l : Laid = laid_of (base classes c) (word (first + place)) place (one_more (base classes c) vtable) all in
      let is = own_of (base classes c) (word (first + place)) place (one_more (base classes c) vtable) all in
      let rest = numbers_all cs (place + 1) (one_more (base classes c) vtable) (set_laid c l all) (numbers_more place c all l is.0 is.1 old (nat_lt c (length all)) refl) in
      record { each = λ d m h. (let was = rest.each d m h in (was.0, omega (arith, was.1))) }

-- ---- what a number of a struct says

and_both : (b c : Bool) → (b && c) ≡ true → (b ≡ true) × (c ≡ true)
and_both true c e = (refl, e)
and_both false c e = absurd (not_true e)

not_so : (b : Bool) → not b ≡ true → b ≡ false
not_so true e = absurd (not_true e)
not_so false e = refl

not_same : (n : ℕ) → 0 < n → (n == 0) ≡ false
not_same n lt = elim (eqb_tells n 0) [ inl t ↦ absurd (omega (arith, lt, t.1)) | inr t ↦ t.0 ]

record OfList (l : Layout) (n : ℕ) : Type 0 where
  place : ℕ
  within : place < length l.lists
  is : n ≡ l.first_list + 2 * place

of_list : (l : Layout) (n : ℕ) → is_list l n ≡ true → OfList l n
of_list l n e =
    let whole = and_both (not (nat_lt n l.first_list) && ((n - l.first_list) % 2 == 0)) (nat_lt ((n - l.first_list) / 2) (length l.lists)) e in
    let front = and_both (not (nat_lt n l.first_list)) ((n - l.first_list) % 2 == 0) whole.0 in
    let low : l.first_list ≤ n = ltb-false n l.first_list (not_so (nat_lt n l.first_list) front.0) in
    let even : (n - l.first_list) % 2 ≡ 0 = is_same ((n - l.first_list) % 2) 0 front.1 in
    record { place = (n - l.first_list) / 2; within = ltb-true ((n - l.first_list) / 2) (length l.lists) whole.1; is = omega (arith, low, even) }

-- a struct that is none of the tuples and not that of strings
pub unsettled : (l : Layout) (n : ℕ) → 0 < n → n < l.first_tuple → is_settled l n ≡ false
unsettled l n low high = ap (λ b. b || is_tuple l n) (not_same n low) ∙ by (nat_le l.first_tuple n) refl
  where
    by : (b : Bool) → nat_le l.first_tuple n ≡ b → (b && nat_lt (n - l.first_tuple) (length l.shapes)) ≡ false
    by true e = absurd (omega (arith, high, leb-true l.first_tuple n e))
    by false e = refl

-- ---- a layout whose structs are few enough for their numbers

module _ (program : Resolved) (infos : List ClassInfo) (a : Annotation) (raises : Bool) (small : length (layout_of program infos a raises).structs < 2 ^ 64) where
  abbrev all : Layout
  all = layout_of program infos a raises

  abbrev given : Layout
  given = mapped program infos a raises

  abbrev classed : List ℕ
  classed = inorder program infos a raises

  abbrev before : List LlStruct
  before = before_lists given infos a

  abbrev listed : List LlStruct
  listed = all_lists given a (length before) given.lists

  abbrev dicts : List LlStruct
  dicts = all_dicts given.mappings

  abbrev tuples : List LlStruct
  tuples = all_tuples given.shapes

  structs : all.structs ≡ before ++ (listed ++ (dicts ++ tuples))
  structs = refl

  pub count_before : length before ≡ suc (tops infos classed + length classed)
  count_before =
      let apart : length before ≡ suc (length (vtables_now program infos a raises ++ classes_now program infos a raises)) = refl in
      let both : length (vtables_now program infos a raises ++ classes_now program infos a raises) ≡ length (vtables_now program infos a raises) + length (classes_now program infos a raises) =
      length-append (vtables_now program infos a raises) (classes_now program infos a raises) in
      let right : length (classes_now program infos a raises) ≡ length classed = length_classes infos given a.attributes all.order ∙ ap length (order_is program infos a raises) in
      omega (arith, apart, both, right, count_vtables program infos a raises)

  pub count_mappings : length given.mappings ≡ length all.dicts
  count_mappings = length_mappings (all_shapes (started program infos a raises) a) a (all_shapes (started program infos a raises) a).first_dict (all_shapes (started program infos a raises) a).dicts

  pub count_all : length all.structs ≡ length before + (2 * length all.lists + (3 * length all.dicts + length all.shapes))
  count_all =
      let one : length all.structs ≡ length before + length (listed ++ (dicts ++ tuples)) = length-append before (listed ++ (dicts ++ tuples)) in
      let two : length (listed ++ (dicts ++ tuples)) ≡ length listed + length (dicts ++ tuples) = length-append listed (dicts ++ tuples) in
      let three : length (dicts ++ tuples) ≡ length dicts + length tuples = length-append dicts tuples in
      omega (arith, one, two, three, length_lists given a (length before) given.lists, length_dicts given.mappings, count_mappings, length_tuples given.shapes)

  -- ---- the first of each kind

  pub first_list_is : all.first_list ≡ length before
  first_list_is =
      let names : length (vtables infos program classed) ≡ tops infos classed = length_names infos program.classes classed classed in
      let inner : word (length (vtables infos program classed) + length classed) ≡ tops infos classed + length classed =
      ap (λ n. word (n + length classed)) names ∙ word_same (tops infos classed + length classed) (omega (arith, small, count_all, count_before)) in
      ap (λ (l : Layout). l.first_list) (bare_mapped program infos a raises) ∙ ap (λ n. word (n + 1)) inner
      ∙ word_same (tops infos classed + length classed + 1) (omega (arith, small, count_all, count_before)) ∙ omega (arith, count_before)

  pub first_dict_is : all.first_dict ≡ length before + 2 * length all.lists
  first_dict_is =
      let inner : word (length all.lists * 2) ≡ 2 * length all.lists = word_same (length all.lists * 2) (omega (arith, small, count_all)) ∙ omega arith in
      let from : all.first_dict ≡ word (all.first_list + word (length all.lists * 2)) =
      ap (λ (l : Layout). l.first_dict) (bare_mapped program infos a raises)
      ∙ sym (ap (λ (l : Layout). word (l.first_list + word (length l.lists * 2))) (bare_mapped program infos a raises)) in
      from ∙ ap (λ n. word (all.first_list + n)) inner ∙ ap (λ n. word (n + 2 * length all.lists)) first_list_is
      ∙ word_same (length before + 2 * length all.lists) (omega (arith, small, count_all))

  pub first_tuple_is : all.first_tuple ≡ length before + (2 * length all.lists + 3 * length all.dicts)
  first_tuple_is =
      let inner : word (length all.dicts * 3) ≡ 3 * length all.dicts = word_same (length all.dicts * 3) (omega (arith, small, count_all)) ∙ omega arith in
      let from : all.first_tuple ≡ word (all.first_dict + word (length all.dicts * 3)) =
      ap (λ (l : Layout). l.first_tuple) (bare_mapped program infos a raises)
      ∙ sym (ap (λ (l : Layout). word (l.first_dict + word (length l.dicts * 3))) (bare_mapped program infos a raises)) in
      let sum : length before + 2 * length all.lists + 3 * length all.dicts ≡ length before + (2 * length all.lists + 3 * length all.dicts) = omega arith in
      from ∙ ap (λ n. word (all.first_dict + n)) inner ∙ ap (λ n. word (n + 3 * length all.dicts)) first_dict_is
      ∙ word_same (length before + 2 * length all.lists + 3 * length all.dicts) (omega (arith, small, count_all)) ∙ sum

  -- ---- which structs these are

  head_is : (i : ℕ) → i < length all.lists → Plain all.structs (all.first_list + 2 * i) 2
  head_is i lt =
      plain_right before (listed ++ (dicts ++ tuples)) (all.first_list + 2 * i) (2 * i) 2 (omega (arith, first_list_is))
      (plain_left listed (dicts ++ tuples) (2 * i) 2 (head_at given a (length before) i given.lists lt))

  array_is : (i : ℕ) → i < length all.lists → Plain all.structs (all.first_list + 2 * i + 1) 1
  array_is i lt =
      plain_right before (listed ++ (dicts ++ tuples)) (all.first_list + 2 * i + 1) (2 * i + 1) 1 (omega (arith, first_list_is))
      (plain_left listed (dicts ++ tuples) (2 * i + 1) 1 (array_at given a (length before) i given.lists lt))

  three_is : (i : ℕ) → i < length all.dicts → HasThree all.structs (all.first_dict + 3 * i)
  three_is i lt =
      three_right before (listed ++ (dicts ++ tuples)) (all.first_dict + 3 * i) (2 * length all.lists + 3 * i) (omega (arith, first_dict_is))
      (three_right listed (dicts ++ tuples) (2 * length all.lists + 3 * i) (3 * i) (let z = length_lists given a (length before) given.lists in omega (arith, z))
      (three_left dicts tuples (3 * i) (three_at given.mappings i (omega (arith, lt, count_mappings)))))

  -- the number of a dict that is found
  record OfDict (m : Mapping) : Type 0 where
    place : ℕ
    within : place < length all.dicts
    is : m.dict ≡ all.first_dict + 3 * place
    one : first m ≡ m.dict + 1
    two : second m ≡ m.dict + 2

  of_dict : (n : ℕ) (m : Mapping) → mapping_at all.mappings n ≡ Some m → OfDict m
  of_dict n m h =
      let at = placed given.mappings n m h in
      let few : all.first_dict + 3 * length all.dicts < 2 ^ 64 = omega (arith, first_dict_is, count_all, small) in
      let number = number_of (all_shapes (started program infos a raises) a) a (all_shapes (started program infos a raises) a).first_dict (all_shapes (started program infos a raises) a).dicts at.place m few at.is in
      record {
        place = at.place;
        within = number.1;
        is = number.0;
        one = word_same (m.dict + 1) (omega (arith, number.0, number.1, few));
        two = word_same (m.dict + 2) (omega (arith, number.0, number.1, few));
      }

  text_is : Plain all.structs 0 1
  text_is = record { struct = _; is = refl; base = refl; count = refl }

  tuple_at : (i : ℕ) → i < length all.shapes → (s : List LlType) × (slice_get all.structs (all.first_tuple + i) ≡ Some (tuple_struct s))
  tuple_at i lt =
      let found = get_tuple given.shapes i lt in (
        found.0,
        get_right before (listed ++ (dicts ++ tuples)) (all.first_tuple + i) (2 * length all.lists + (3 * length all.dicts + i)) (omega (arith, first_tuple_is))
            ∙ get_right listed (dicts ++ tuples) (2 * length all.lists + (3 * length all.dicts + i)) (3 * length all.dicts + i) (let z = length_lists given a (length before) given.lists in omega (arith, z))
            ∙ get_right dicts tuples (3 * length all.dicts + i) i (let z = length_dicts given.mappings in omega (arith, z, count_mappings)) ∙ found.1,
      )

  pub own_numbers : (c : ℕ) (l : Laid) → laid_in all.classes c ≡ Some l → (0 < l.own) × (l.own < all.first_tuple)
  own_numbers c l h =
      let none : Numbered infos (word (tops infos classed + 1)) 0 (replicate (length infos) None) = record { each = λ d m k. absurd (no_some (sym (none_laid (length infos) d) ∙ k)) } in
      let numbers = numbers_all infos (word (tops infos classed + 1)) classed 0 0 (replicate (length infos) None) none in
      let is = numbers.each c l (sym (ap (λ classes. laid_in classes c) (classes_are program infos a raises)) ∙ h) in
      let first : word (tops infos classed + 1) ≡ tops infos classed + 1 = word_same (tops infos classed + 1) (omega (arith, small, count_all, count_before)) in
      let own : l.own ≡ tops infos classed + 1 + l.place =
      is.0 ∙ ap (λ n. word (n + l.place)) first ∙ word_same (tops infos classed + 1 + l.place) (omega (arith, is.1, small, count_all, count_before)) in
      (omega (arith, own), omega (arith, own, is.1, first_tuple_is, count_before))

  -- ---- a program that has them

  module _ (p : LlProgram) (more : List LlStruct) (had : p.structs ≡ all.structs ++ more) where
    shape_had : (n fields : ℕ) → Plain all.structs n fields → shape_at (shapes_of p.structs) n ≡ shape_over n fields None
    shape_had n fields plain = ap (λ ss. shape_at (shapes_of ss) n) had ∙ plain_shape (all.structs ++ more) n fields (plain_left all.structs more n fields plain)

    tuple_had : (n : ℕ) → is_tuple all n ≡ true → shape_at (shapes_of p.structs) n ≡ shape_over n (length (fields_in (slice_get all.structs n))) None
    tuple_had n e =
        let both = and_both (nat_le all.first_tuple n) (nat_lt (n - all.first_tuple) (length all.shapes)) e in
        let low : all.first_tuple ≤ n = leb-true all.first_tuple n both.0 in
        let found = tuple_at (n - all.first_tuple) (ltb-true (n - all.first_tuple) (length all.shapes) both.1) in
        let place : n ≡ all.first_tuple + (n - all.first_tuple) = omega (arith, low) in
        let at : slice_get all.structs n ≡ Some (tuple_struct found.0) = ap (slice_get all.structs) place ∙ found.1 in
        shape_had n (length found.0) (record { struct = tuple_struct found.0; is = at; base = refl; count = refl }) ∙ ap (λ s. shape_over n (length (fields_in s)) None) (sym at)

    next_is : (n : ℕ) (o : OfList all n) → word (n + 1) ≡ n + 1
    next_is n o = word_same (n + 1) (omega (arith, o.is, o.within, first_list_is, count_all, small))

    array_had : (n : ℕ) → OfList all n → shape_at (shapes_of p.structs) (word (n + 1)) ≡ shape_over (word (n + 1)) 1 None
    array_had n o =
        let e : word (n + 1) ≡ all.first_list + 2 * o.place + 1 = next_is n o ∙ omega (arith, o.is) in
        subst (λ k. shape_at (shapes_of p.structs) k ≡ shape_over k 1 None) (sym e) (shape_had (all.first_list + 2 * o.place + 1) 1 (array_is o.place o.within))

    head_had : (n : ℕ) → OfList all n → shape_at (shapes_of p.structs) n ≡ shape_over n 2 None
    head_had n o = subst (λ k. shape_at (shapes_of p.structs) k ≡ shape_over k 2 None) (sym o.is) (shape_had (all.first_list + 2 * o.place) 2 (head_is o.place o.within))

    lists_unsettled : (n : ℕ) → OfList all n → (is_settled all n ≡ false) × (is_settled all (word (n + 1)) ≡ false)
    lists_unsettled n o = (
      unsettled all n (omega (arith, o.is, first_list_is, count_before)) (omega (arith, o.is, o.within, first_list_is, first_tuple_is)),
      unsettled all (word (n + 1)) (omega (arith, next_is n o)) (omega (arith, next_is n o, o.is, o.within, first_list_is, first_tuple_is)),
    )

    has_dict : (m : Mapping) → OfDict m → HasDict p m
    has_dict m o =
        let three = three_is o.place o.within in
        record {
          head = subst (λ k. shape_at (shapes_of p.structs) k ≡ shape_over k 4 None) (sym o.is) (shape_had (all.first_dict + 3 * o.place) 4 three.head);
          first = subst (λ k. shape_at (shapes_of p.structs) k ≡ shape_over k 1 None) (sym (o.one ∙ ap (λ k. k + 1) o.is)) (shape_had (all.first_dict + 3 * o.place + 1) 1 three.one);
          second = subst (λ k. shape_at (shapes_of p.structs) k ≡ shape_over k 1 None) (sym (o.two ∙ ap (λ k. k + 2) o.is)) (shape_had (all.first_dict + 3 * o.place + 2) 1 three.two);
        }

    dicts_unsettled : (m : Mapping) → OfDict m → (is_settled all m.dict ≡ false) × (is_settled all (first m) ≡ false) × (is_settled all (second m) ≡ false)
    dicts_unsettled m o = (
      unsettled all m.dict (omega (arith, o.is, first_dict_is, count_before)) (omega (arith, o.is, o.within, first_dict_is, first_tuple_is)),
      unsettled all (first m) (omega (arith, o.one)) (omega (arith, o.one, o.is, o.within, first_dict_is, first_tuple_is)),
      unsettled all (second m) (omega (arith, o.two)) (omega (arith, o.two, o.is, o.within, first_dict_is, first_tuple_is)),
    )

    has_layout : HasLayout p all
    has_layout = record {
      plain = record { text = shape_had 0 1 text_is; tuples = tuple_had };
      heads = λ n e. head_had n (of_list all n e);
      arrays = λ n e. array_had n (of_list all n e);
      dicts = λ n m e. has_dict m (of_dict n m e);
      shapes = λ n lt. ap (λ ss. shape_at (shapes_of ss) n) had ∙ shape_kept all.structs more n lt;
      lists_apart = λ n e. lists_unsettled n (of_list all n e);
      dicts_apart = λ n m e. dicts_unsettled m (of_dict n m e);
      classes_apart = λ class l h. (let own = own_numbers class l h in unsettled all l.own own.0 own.1);
    }

pub layouts_are_had : LayoutsAreHad
layouts_are_had program infos annotation raises p more had small = has_layout program infos annotation raises small p more had
