-- The structs of a layout keep the rules.
use Rattle.std.proofs.Common.{◌≡◌, ◌<◌, ◌≤◌, ℕ, zero, suc, ◌+◌, Bool, true, false, ◌&&◌, List, [], ◌∷◌, ◌++◌, length, Option, Some, None, refl, sym, ap, ◌∙◌, subst, arith}
use Rattle.std.specs.Prelude.{◌^◌, ◌*◌, nat_lt, is_none, not, slice_get, replicate, if◌then◌else◌}
use Rattle.ann_element.specs.declared.annotation.Annotation.{Annotation}
use Rattle.ll_code.specs.Typed.{is_type, are_types, items_of, is_base, is_type_if_any, struct_ok, structs_ok}
use Rattle.ll_code.specs.declared.program.LlStruct.{LlStruct}
use Rattle.ll_code.specs.declared.program.LlType.{LlType}
use Rattle.ll_code.specs.declared.program.LlType.TheVariants as type
use Rattle.rpy_resolved.specs.declared.tree.Resolved.{Resolved}
use Rattle.rpy_tree.specs.declared.program.ClassInfo.{ClassInfo}
use Rattle.class_desc.specs.Line.{base}
use Rattle.class_desc.specs.Range.{IsForest}
use Rattle.class_desc.proofs.Intervals.{Among}
use Rattle.rtyper_layout.specs.declared.classes.Laid.{Laid}
use Rattle.rtyper_layout.specs.declared.dicts.Mapping.{Mapping}
use Rattle.rtyper_layout.specs.declared.layout.Layout.{Layout}
use Rattle.rtyper_layout.specs.Dicts.{is_plain, first_item, second_item, type_in, mapping, dict_structs, array}
use Rattle.rtyper_layout.specs.Families.{tops, own_struct, struct_above, vtable_of, first_fields, own_fields, class_struct, class_structs, vtable_struct}
use Rattle.rtyper_layout.specs.Layout.{layout_of, texts, vtable_structs, list_structs, all_lists, all_dicts, all_tuples, tuple_struct, before_lists, mappings_from}
use Rattle.rtyper_layout.specs.Sites.{with_shapes, shapes_in, shapes_in_rows, shapes_in_attributes, all_shapes}
use Rattle.rtyper_layout.specs.Types.{word, laid_in}
use Rattle.layout_laws.specs.Typing.{StructsAreTyped}
use Rattle.layout_laws.proofs.Chains.{topmost_of}
use Rattle.layout_laws.proofs.Facts.{Facts}
use Rattle.layout_laws.proofs.Laying.{Above}
use Rattle.layout_laws.proofs.Numbers.{length_lists, length_dicts, count_before, count_mappings, count_all, first_list_is, first_dict_is, first_tuple_is}
use Rattle.layout_laws.proofs.Order.{Ordered}
use Rattle.layout_laws.proofs.Places.{same_some, no_some, get_among, among_left, among_last}
use Rattle.layout_laws.proofs.Structs.{bare, started, mapped, inorder, vtables_now, classes_now, bare_mapped, order_is, count_vtables, in_order, lying, own_is, struct_is, facts}
use Rattle.layout_laws.proofs.Typing.{both_true, is_less, Bounds, in_good, fields_good, types_both, AllGood, good_all, more_shapes, tuples_in, tuples_rows, tuples_attributes, in_flat, rows_flat, attributes_flat}

-- ---- a class stands once in the order

not_before : (classes : List ClassInfo) (done cs : List ℕ) (i c : ℕ) → Ordered classes done cs → slice_get cs i ≡ Some c → Among c done → ⊥
not_before classes done [] i c all h there = no_some h
not_before classes done (d ∷ cs) zero c all h there = all.1 (subst (λ x. Among x done) (sym (same_some h)) there)
not_before classes done (d ∷ cs) (suc i) c all h there = not_before classes (done ++ d ∷ []) cs i c all.3 h (among_left c done (d ∷ []) there)

one_place : (classes : List ClassInfo) (done cs : List ℕ) (i j c : ℕ) → Ordered classes done cs → slice_get cs i ≡ Some c → slice_get cs j ≡ Some c → i ≡ j
one_place classes done [] i j c all h k = absurd (no_some h)
one_place classes done (d ∷ cs) zero zero c all h k = refl
one_place classes done (d ∷ cs) zero (suc j) c all h k = absurd (not_before classes (done ++ d ∷ []) cs j c all.3 k (among_last c done d (same_some h)))
one_place classes done (d ∷ cs) (suc i) zero c all h k = absurd (not_before classes (done ++ d ∷ []) cs i c all.3 h (among_last c done d (same_some k)))
one_place classes done (d ∷ cs) (suc i) (suc j) c all h k = ap suc (one_place classes (done ++ d ∷ []) cs i j c all.3 h k)

-- ---- stretches of structs

module _ (structs : List LlStruct) where
  ok_both : (n m : ℕ) (xs ys : List LlStruct) → m ≡ n + length xs → structs_ok structs n xs ≡ true → structs_ok structs m ys ≡ true → structs_ok structs n (xs ++ ys) ≡ true
  ok_both n m [] ys e h k = subst (λ i. structs_ok structs i ys ≡ true) (let z : m ≡ n = omega (arith, e) in z) k
  ok_both n m (x ∷ xs) ys e h k = by (struct_ok structs n x) (λ g. ok_both (n + 1) m xs ys (omega (arith, e)) g k) h
    where
      by : (b : Bool) → (structs_ok structs (n + 1) xs ≡ true → structs_ok structs (n + 1) (xs ++ ys) ≡ true) → (b && structs_ok structs (n + 1) xs) ≡ true → (b && structs_ok structs (n + 1) (xs ++ ys)) ≡ true
      by true go g = go g
      by false go g = g

  one_ok : (n : ℕ) (s : LlStruct) → is_base structs n s.base ≡ true → are_types structs s.fields ≡ true → is_type_if_any structs s.items ≡ true → struct_ok structs n s ≡ true
  one_ok n s b f i = both_true (is_base structs n s.base && are_types structs s.fields) (is_type_if_any structs s.items) (both_true (is_base structs n s.base) (are_types structs s.fields) b f) i

  functions_ok : (k : ℕ) → are_types structs (replicate k type.Fn) ≡ true
  functions_ok zero = refl
  functions_ok (suc k) = functions_ok k

  vtables_ok : (n : ℕ) (ms : List (List (List ℕ))) → structs_ok structs n (vtable_structs ms) ≡ true
  vtables_ok n [] = refl
  vtables_ok n (m ∷ ms) = both_true (struct_ok structs n (vtable_struct (length m))) (structs_ok structs (n + 1) (vtable_structs ms)) (one_ok n (vtable_struct (length m)) refl (functions_ok (length m)) refl) (vtables_ok (n + 1) ms)

  tuples_ok : (n : ℕ) (shapes : List (List LlType)) → AllGood structs shapes → structs_ok structs n (all_tuples shapes) ≡ true
  tuples_ok n [] all = refl
  tuples_ok n (s ∷ shapes) all = both_true (struct_ok structs n (tuple_struct s)) (structs_ok structs (n + 1) (all_tuples shapes)) (one_ok n (tuple_struct s) refl all.0 refl) (tuples_ok (n + 1) shapes all.1)

  word_less : (n : ℕ) → n < length structs → nat_lt (word n) (length structs) ≡ true
  word_less n lt = is_less (word n) (length structs) (omega (arith, lt))

  module _ (l : Layout) (bounds : Bounds structs l) (a : Annotation) where
    lists_ok : (n : ℕ) (sites : List ℕ) → n + 2 * length sites ≤ length structs → structs_ok structs n (all_lists l a n sites) ≡ true
    lists_ok n [] le = refl
    lists_ok n (site ∷ sites) le =
        let item : LlType = type_in l (slice_get a.items site) in
        let head : struct_ok structs n (record { base = None; fields = type.Signed ∷ type.Ptr (word (n + 1)) ∷ []; items = None }) ≡ true =
        one_ok n (record { base = None; fields = type.Signed ∷ type.Ptr (word (n + 1)) ∷ []; items = None }) refl (both_true (nat_lt (word (n + 1)) (length structs)) true (word_less (n + 1) (omega (arith, le))) refl) refl in
        let body : struct_ok structs (n + 1) (array item) ≡ true = one_ok (n + 1) (array item) refl refl (in_good structs l bounds (slice_get a.items site)) in
        ok_both n (n + 2) (list_structs n item) (all_lists l a (n + 2) sites) (omega arith)
        (both_true (struct_ok structs n (record { base = None; fields = type.Signed ∷ type.Ptr (word (n + 1)) ∷ []; items = None })) (struct_ok structs (n + 1) (array item) && true) head (both_true (struct_ok structs (n + 1) (array item)) true body refl))
        (lists_ok (n + 2) sites (omega (arith, le)))

    item_ok : (m : Mapping) → is_type structs m.key ≡ true → is_type structs m.value ≡ true → (is_type structs (first_item m) ≡ true) × (is_type structs (second_item m) ≡ true)
    item_ok m k v = by (is_plain m.key) (is_plain m.value)
      where
        by : (b c : Bool) → (is_type structs (if b then (if not b && c then type.Signed else m.value) else (if b then type.Signed else m.key)) ≡ true) × (is_type structs (if b then (if b then type.Signed else m.key) else (if not b && c then type.Signed else m.value)) ≡ true)
        by true true = (v, refl)
        by true false = (v, refl)
        by false true = (k, refl)
        by false false = (k, v)

    dicts_ok : (n d : ℕ) (sites : List ℕ) → d + 3 * length sites ≤ length structs → structs_ok structs n (all_dicts (mappings_from l a d sites)) ≡ true
    dicts_ok n d [] le = refl
    dicts_ok n d (site ∷ sites) le =
        let m : Mapping = mapping l a site d in
        let items = item_ok m (in_good structs l bounds (slice_get a.keys site)) (in_good structs l bounds (slice_get a.items site)) in
        let one : nat_lt (word (d + 1)) (length structs) ≡ true = word_less (d + 1) (omega (arith, le)) in
        let two : nat_lt (word (d + 2)) (length structs) ≡ true = word_less (d + 2) (omega (arith, le)) in
        let head : struct_ok structs n (record { base = None; fields = type.Signed ∷ type.Signed ∷ type.Ptr (word (d + 1)) ∷ type.Ptr (word (d + 2)) ∷ []; items = None }) ≡ true =
        one_ok n (record { base = None; fields = type.Signed ∷ type.Signed ∷ type.Ptr (word (d + 1)) ∷ type.Ptr (word (d + 2)) ∷ []; items = None }) refl
        (both_true (nat_lt (word (d + 1)) (length structs)) (nat_lt (word (d + 2)) (length structs) && true) one (both_true (nat_lt (word (d + 2)) (length structs)) true two refl)) refl in
        let first : struct_ok structs (n + 1) (array (first_item m)) ≡ true = one_ok (n + 1) (array (first_item m)) refl refl items.0 in
        let second : struct_ok structs (n + 1 + 1) (array (second_item m)) ≡ true = one_ok (n + 1 + 1) (array (second_item m)) refl refl items.1 in
        ok_both n (n + 3) (dict_structs m) (all_dicts (mappings_from l a (word (d + 3)) sites)) (omega arith)
        (both_true (struct_ok structs n (record { base = None; fields = type.Signed ∷ type.Signed ∷ type.Ptr (word (d + 1)) ∷ type.Ptr (word (d + 2)) ∷ []; items = None })) (struct_ok structs (n + 1) (array (first_item m)) && (struct_ok structs (n + 1 + 1) (array (second_item m)) && true)) head
        (both_true (struct_ok structs (n + 1) (array (first_item m))) (struct_ok structs (n + 1 + 1) (array (second_item m)) && true) first (both_true (struct_ok structs (n + 1 + 1) (array (second_item m))) true second refl)))
        (dicts_ok (n + 3) (word (d + 3)) sites (omega (arith, le)))

-- ---- the whole

module _ (program : Resolved) (infos : List ClassInfo) (a : Annotation) (raises : Bool) (tree : IsForest infos) (few : length infos ≤ 2 ^ 32) (small : length (layout_of program infos a raises).structs < 2 ^ 64) where
  abbrev all : Layout
  all = layout_of program infos a raises

  abbrev plain : Layout
  plain = started program infos a raises

  abbrev shaped : Layout
  shaped = all_shapes plain a

  abbrev given : Layout
  given = mapped program infos a raises

  abbrev ordered : List ℕ
  ordered = inorder program infos a raises

  of : Facts infos a.attributes all
  of = facts program infos a raises tree few

  root_inside : (c : ℕ) (l : Laid) → laid_in all.classes c ≡ Some l → l.root < length all.structs
  root_inside c l h = (let top = topmost_of infos a.attributes all of tree c l h in subst (λ n. n < length all.structs) (sym top.root) (of.inside top.class top.m top.is))

  bounds : (l : Layout) → bare l ≡ bare plain → length l.shapes ≤ length all.shapes → Bounds all.structs l
  bounds l same le =
      let is : bare l ≡ bare shaped = same ∙ sym (bare_mapped program infos a raises) in
      let lists : l.lists ≡ all.lists = ap (λ (x : Layout). x.lists) is in
      let first_list : l.first_list ≡ all.first_list = ap (λ (x : Layout). x.first_list) is in
      let dicts : length l.dicts ≡ length all.dicts = ap (λ (x : Layout). length x.dicts) is in
      let first_dict : l.first_dict ≡ all.first_dict = ap (λ (x : Layout). x.first_dict) is in
      let first_tuple : l.first_tuple ≡ all.first_tuple = ap (λ (x : Layout). x.first_tuple) is in
      let count_lists : length l.lists ≡ length all.lists = ap length lists in
      let whole = count_all program infos a raises small in
      let one = first_list_is program infos a raises small in
      let two = first_dict_is program infos a raises small in
      let three = first_tuple_is program infos a raises small in
      record {
        some = (let z = count_before program infos a raises small in omega (arith, z, whole));
        lists = λ k lt. omega (arith, lt, count_lists, first_list, whole, one);
        dicts = λ k lt. omega (arith, lt, dicts, first_dict, whole, two);
        tuples = λ k lt. omega (arith, lt, le, first_tuple, whole, three);
        roots = λ c m h. root_inside c m (sym (ap (λ (x : Layout). laid_in x.classes c) is) ∙ h);
      }

  shapes_flat : shaped ≡ with_shapes plain (((((tuples_rows a.params ++ tuples_in a.results) ++ tuples_rows a.vars) ++ tuples_attributes a.attributes) ++ tuples_in a.items) ++ tuples_in a.keys)
  shapes_flat =
      let p = tuples_rows a.params in
      let r = tuples_in a.results in
      let v = tuples_rows a.vars in
      let t = tuples_attributes a.attributes in
      let i = tuples_in a.items in
      let one : shapes_in_rows plain a.params ≡ with_shapes plain p = rows_flat plain a.params in
      let two : shapes_in (shapes_in_rows plain a.params) a.results ≡ with_shapes plain (p ++ r) = in_flat (shapes_in_rows plain a.params) a.results ∙ ap (λ l. with_shapes l r) one ∙ sym (more_shapes plain p r) in
      let three : shapes_in_rows (shapes_in (shapes_in_rows plain a.params) a.results) a.vars ≡ with_shapes plain ((p ++ r) ++ v) = rows_flat (shapes_in (shapes_in_rows plain a.params) a.results) a.vars ∙ ap (λ l. with_shapes l v) two ∙ sym (more_shapes plain (p ++ r) v) in
      let four : shapes_in_attributes (shapes_in_rows (shapes_in (shapes_in_rows plain a.params) a.results) a.vars) a.attributes ≡ with_shapes plain (((p ++ r) ++ v) ++ t) =
      attributes_flat (shapes_in_rows (shapes_in (shapes_in_rows plain a.params) a.results) a.vars) a.attributes ∙ ap (λ l. with_shapes l t) three ∙ sym (more_shapes plain ((p ++ r) ++ v) t) in
      let five : shapes_in (shapes_in_attributes (shapes_in_rows (shapes_in (shapes_in_rows plain a.params) a.results) a.vars) a.attributes) a.items ≡ with_shapes plain ((((p ++ r) ++ v) ++ t) ++ i) =
      in_flat (shapes_in_attributes (shapes_in_rows (shapes_in (shapes_in_rows plain a.params) a.results) a.vars) a.attributes) a.items ∙ ap (λ l. with_shapes l i) four ∙ sym (more_shapes plain (((p ++ r) ++ v) ++ t) i) in
      in_flat (shapes_in (shapes_in_attributes (shapes_in_rows (shapes_in (shapes_in_rows plain a.params) a.results) a.vars) a.attributes) a.items) a.keys ∙ ap (λ l. with_shapes l (tuples_in a.keys)) five ∙ sym (more_shapes plain ((((p ++ r) ++ v) ++ t) ++ i) (tuples_in a.keys))

  shapes_good : AllGood all.structs all.shapes
  shapes_good =
      let xs = ((((tuples_rows a.params ++ tuples_in a.results) ++ tuples_rows a.vars) ++ tuples_attributes a.attributes) ++ tuples_in a.items) ++ tuples_in a.keys in
      subst (λ (l : Layout). AllGood all.structs l.shapes) (sym shapes_flat)
      (good_all all.structs plain (length all.shapes) bounds xs plain refl tt (let z : length (with_shapes plain xs).shapes ≡ length all.shapes = ap (λ (l : Layout). length l.shapes) (sym shapes_flat) in omega (arith, z)))

  here : Bounds all.structs given
  here = (let b = bounds shaped (bare_mapped program infos a raises) (omega arith) in record { some = b.some; lists = b.lists; dicts = b.dicts; tuples = b.tuples; roots = b.roots })

  there : Bounds all.structs shaped
  there = bounds shaped (bare_mapped program infos a raises) (omega arith)

  -- ---- classes

  is_under : (c : ℕ) (l : Laid) → laid_in all.classes c ≡ Some l → (o : Option ℕ) → base infos c ≡ o → Above all.classes l o → is_base all.structs l.own (struct_above given o) ≡ true
  is_under c l h None e above = refl
  is_under c l h (Some b) e above =
      let lower : above.m.own < l.own = omega (arith, own_is program infos a raises tree few c l h, own_is program infos a raises tree few b above.m above.is, above.place) in
      let none : is_none (items_of (slice_get all.structs above.m.own)) ≡ true = ap (λ s. is_none (items_of s)) (struct_is program infos a raises tree few b above.m above.is) in
      ap (λ o. is_base all.structs l.own (own_struct o)) above.is ∙ both_true (nat_lt above.m.own l.own) (is_none (items_of (slice_get all.structs above.m.own))) (is_less above.m.own l.own lower) none

  firsts_ok : (c : ℕ) → is_type all.structs (type.Ptr (vtable_of (laid_in given.classes c))) ≡ true → (o : Option ℕ) → are_types all.structs (first_fields given c o) ≡ true
  firsts_ok c v None = both_true (is_type all.structs (type.Ptr (vtable_of (laid_in given.classes c)))) true v refl
  firsts_ok c v (Some b) = refl

  class_ok : (j c : ℕ) → slice_get ordered j ≡ Some c → struct_ok all.structs (tops infos ordered + 1 + j) (class_struct given infos a.attributes c) ≡ true
  class_ok j c h =
      let lies = lying program infos a raises tree few in
      let found = lies.have c (get_among ordered j c h) in
      let fits = lies.each c found.0 found.1 in
      let place : found.0.place ≡ j = one_place infos [] ordered found.0.place j c (in_order program infos a raises tree few) fits.at h in
      let number : found.0.own ≡ tops infos ordered + 1 + j = own_is program infos a raises tree few c found.0 found.1 ∙ ap (λ k. tops infos ordered + 1 + k) place in
      let vtable : is_type all.structs (type.Ptr (vtable_of (laid_in given.classes c))) ≡ true = ap (λ o. is_type all.structs (type.Ptr (vtable_of o))) found.1 ∙ is_less found.0.vtable (length all.structs) (of.vtable c found.0 found.1).inside in
      one_ok all.structs (tops infos ordered + 1 + j) (class_struct given infos a.attributes c)
      (subst (λ n. is_base all.structs n (struct_above given (base infos c)) ≡ true) number (is_under c found.0 found.1 (base infos c) refl fits.above))
      (types_both all.structs (first_fields given c (struct_above given (base infos c))) (own_fields given c a.attributes) (firsts_ok c vtable (struct_above given (base infos c))) (fields_good all.structs given here c a.attributes))
      refl

  classes_ok : (cs : List ℕ) (n j : ℕ) → n ≡ tops infos ordered + 1 + j → ((i c : ℕ) → slice_get cs i ≡ Some c → slice_get ordered (j + i) ≡ Some c) → structs_ok all.structs n (class_structs given infos a.attributes cs) ≡ true
  classes_ok [] n j e at = refl
  classes_ok (c ∷ cs) n j e at =
      let first : slice_get ordered j ≡ Some c = ap (slice_get ordered) (let z : j ≡ j + 0 = omega arith in z) ∙ at 0 c refl in
      both_true (struct_ok all.structs n (class_struct given infos a.attributes c)) (structs_ok all.structs (n + 1) (class_structs given infos a.attributes cs))
      (subst (λ k. struct_ok all.structs k (class_struct given infos a.attributes c) ≡ true) (sym e) (class_ok j c first))
      (classes_ok cs (n + 1) (j + 1) (omega (arith, e)) (λ i d h. ap (slice_get ordered) (let z : j + 1 + i ≡ j + suc i = omega arith in z) ∙ at (suc i) d h))

  -- ---- all of them

  abbrev front : List LlStruct
  front = before_lists given infos a

  abbrev rest : List LlStruct
  rest = all_lists given a (length front) given.lists ++ (all_dicts given.mappings ++ all_tuples given.shapes)

  lists_length : length (all_lists given a (length front) given.lists) ≡ 2 * length all.lists
  lists_length = length_lists given a (length front) given.lists

  rest_ok : structs_ok all.structs (length front) rest ≡ true
  rest_ok =
      let whole = count_all program infos a raises small in
      let maps = count_mappings program infos a raises small in
      let two = first_dict_is program infos a raises small in
      ok_both all.structs (length front) (length front + 2 * length all.lists) (all_lists given a (length front) given.lists) (all_dicts given.mappings ++ all_tuples given.shapes) (omega (arith, lists_length))
      (lists_ok all.structs given here a (length front) given.lists (omega (arith, whole)))
      (ok_both all.structs (length front + 2 * length all.lists) (length front + 2 * length all.lists + 3 * length given.mappings) (all_dicts given.mappings) (all_tuples given.shapes) (let z = length_dicts given.mappings in omega (arith, z))
      (dicts_ok all.structs shaped there a (length front + 2 * length all.lists) shaped.first_dict shaped.dicts (omega (arith, whole, two)))
      (tuples_ok all.structs (length front + 2 * length all.lists + 3 * length given.mappings) given.shapes shapes_good))

  front_ok : structs_ok all.structs 0 front ≡ true
  front_ok =
      let text : structs_ok all.structs 0 (texts ∷ []) ≡ true = both_true (struct_ok all.structs 0 texts) true (one_ok all.structs 0 texts refl refl refl) refl in
      ok_both all.structs 0 1 (texts ∷ []) (vtables_now program infos a raises ++ classes_now program infos a raises) (omega arith) text
      (ok_both all.structs 1 (tops infos ordered + 1) (vtables_now program infos a raises) (classes_now program infos a raises) (let z = count_vtables program infos a raises in omega (arith, z))
      (vtables_ok all.structs 1 all.methods)
      (classes_ok all.order (tops infos ordered + 1) 0 (omega arith) (λ i c h. ap (λ xs. slice_get xs (0 + i)) (sym (order_is program infos a raises)) ∙ ap (slice_get all.order) (let z : 0 + i ≡ i = omega arith in z) ∙ h)))

  typed : structs_ok all.structs 0 all.structs ≡ true
  typed = ok_both all.structs 0 (length front) front rest (omega arith) front_ok rest_ok

pub structs_are_typed : StructsAreTyped
structs_are_typed program infos annotation raises tree few small = typed program infos annotation raises tree few small
