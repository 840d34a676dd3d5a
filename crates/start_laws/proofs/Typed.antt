-- The structs of lists and dicts have the types of what the annotation says of their items, keys and values.
use Rattle.std.proofs.Common.{◌≡◌, ◌<◌, ◌≤◌, ℕ, zero, suc, ◌+◌, Bool, true, false, List, ◌∷◌, ◌++◌, length, slice_get, Option, Some, None, refl, sym, ap, ◌∙◌, arith, []}
use Rattle.std.specs.Prelude.{◌^◌, ◌*◌, ◌/◌, ◌%◌, ◌-◌, ◌==◌, ◌&&◌, not, nat_lt, if◌then◌else◌}
use Rattle.std.proofs.lemmas.Bool.{ltb-true, ltb-false}
use Rattle.ann_element.specs.declared.annotation.Annotation.{Annotation}
use Rattle.ann_element.specs.declared.element.Element.{Element}
use Rattle.ll_code.specs.declared.program.LlStruct.{LlStruct}
use Rattle.rpy_resolved.specs.declared.tree.Resolved.{Resolved}
use Rattle.rpy_tree.specs.declared.program.ClassInfo.{ClassInfo}
use Rattle.rtyper_layout.specs.declared.dicts.Mapping.{Mapping}
use Rattle.rtyper_layout.specs.declared.layout.Layout.{Layout}
use Rattle.rtyper_layout.specs.Dicts.{array, mapping, type_in}
use Rattle.rtyper_layout.specs.Layout.{all_dicts, all_lists, all_tuples, before_lists, is_list, layout_of, list_structs, mapping_at, mappings_from}
use Rattle.rtyper_layout.specs.Sites.{all_shapes}
use Rattle.rtyper_layout.specs.Types.{field_type, type_of, word}
use Rattle.rtyper_op.specs.Prebuilt.{item_in}
use Rattle.layout_laws.proofs.Numbers.{count_all, first_dict_is, first_list_is}
use Rattle.layout_laws.proofs.Places.{get_left, get_right, get_there, is_same, no_some, not_true, same_some}
use Rattle.layout_laws.proofs.Structs.{mapped, started, word_same}
use Rattle.start_laws.specs.Knowing.{element_of, items_of, keys_of, site_of}

-- ---- types rest on neither structs nor mappings

abbrev bare : Layout → Layout
bare l = record l { structs = []; mappings = [] }

types_bare : (l : Layout) (e : Element) → type_of l e ≡ type_of (bare l) e
types_bare l e = refl

pub alone_in : (l m : Layout) → bare l ≡ bare m → (o : Option Element) → type_in l o ≡ type_in m o
alone_in l m h None = refl
alone_in l m h (Some e) = ap field_type (types_bare l e ∙ ap (λ (k : Layout). type_of k e) h ∙ sym (types_bare m e))

-- ---- places

and_both : (b c : Bool) → (b && c) ≡ true → (b ≡ true) × (c ≡ true)
and_both true c e = (refl, e)
and_both false c e = absurd (not_true e)

and_none : (b c d : Bool) → d ≡ false → (b && c && d) ≡ false
and_none true true d e = e
and_none true false d e = refl
and_none false c d e = refl

not_so : (b : Bool) → not b ≡ true → b ≡ false
not_so true e = absurd (not_true e)
not_so false e = refl

record OfList (l : Layout) (n : ℕ) : Type 0 where
  within : (n - l.first_list) / 2 < length l.lists
  is : n ≡ l.first_list + 2 * ((n - l.first_list) / 2)

of_list : (l : Layout) (n : ℕ) → is_list l n ≡ true → OfList l n
of_list l n e =
    let whole = and_both (not (nat_lt n l.first_list) && ((n - l.first_list) % 2 == 0)) (nat_lt ((n - l.first_list) / 2) (length l.lists)) e in
    let front = and_both (not (nat_lt n l.first_list)) ((n - l.first_list) % 2 == 0) whole.0 in
    let low : l.first_list ≤ n = ltb-false n l.first_list (not_so (nat_lt n l.first_list) front.0) in
    let even : (n - l.first_list) % 2 ≡ 0 = is_same ((n - l.first_list) % 2) 0 front.1 in
    record { within = ltb-true ((n - l.first_list) / 2) (length l.lists) whole.1; is = omega (arith, low, even) }

array_struct : (layout : Layout) (a : Annotation) (n i : ℕ) (sites : List ℕ) (site : ℕ) → slice_get sites i ≡ Some site → slice_get (all_lists layout a n sites) (2 * i + 1) ≡ Some (array (type_in layout (slice_get a.items site)))
array_struct layout a n i [] site h = absurd (no_some h)
array_struct layout a n zero (s ∷ sites) site h = ap (λ k. Some (array (type_in layout (slice_get a.items k)))) (same_some h)
array_struct layout a n (suc i) (s ∷ sites) site h =
    get_right (list_structs n (type_in layout (slice_get a.items s))) (all_lists layout a (n + 2) sites) (2 * suc i + 1) (2 * i + 1) (omega arith) ∙ array_struct layout a (n + 2) i sites site h

-- a mapping that is found is that of a site
record MappingOf (layout : Layout) (a : Annotation) (first : ℕ) (sites : List ℕ) (n : ℕ) (m : Mapping) : Type 0 where
  place : ℕ
  site : ℕ
  at : slice_get sites place ≡ Some site
  number : n ≡ first + 3 * place
  dict : m.dict ≡ n
  key : m.key ≡ type_in layout (slice_get a.keys site)
  value : m.value ≡ type_in layout (slice_get a.items site)

mapping_of : (layout : Layout) (a : Annotation) (first : ℕ) (sites : List ℕ) (n : ℕ) (m : Mapping) → first + 3 * length sites < 2 ^ 64 → mapping_at (mappings_from layout a first sites) n ≡ Some m → MappingOf layout a first sites n m
mapping_of layout a first [] n m few h = absurd (no_some h)
mapping_of layout a first (site ∷ sites) n m few h =
    by (λ k. mapping_of layout a (word (first + 3)) sites n m (let z : word (first + 3) ≡ first + 3 = word_same (first + 3) (omega (arith, few)) in omega (arith, few, z)) k) (first == n) refl h
  where
    by : (mapping_at (mappings_from layout a (word (first + 3)) sites) n ≡ Some m → MappingOf layout a (word (first + 3)) sites n m) → (b : Bool) → (first == n) ≡ b
        → (if b then Some (mapping layout a site first) else mapping_at (mappings_from layout a (word (first + 3)) sites) n) ≡ Some m → MappingOf layout a first (site ∷ sites) n m
    by rest true e h =
        let same : mapping layout a site first ≡ m = same_some h in
        let at : first ≡ n = is_same first n e in
        record { place = 0; site = site; at = refl; number = omega (arith, at); dict = ap (λ (x : Mapping). x.dict) (sym same) ∙ at; key = ap (λ (x : Mapping). x.key) (sym same); value = ap (λ (x : Mapping). x.value) (sym same) }
    by rest false e h =
        let it = rest h in
        let next : word (first + 3) ≡ first + 3 = word_same (first + 3) (omega (arith, few)) in
        let number = it.number in
        record { place = suc it.place; site = it.site; at = it.at; number = omega (arith, number, next); dict = it.dict; key = it.key; value = it.value }

-- ---- a layout whose structs are few enough for their numbers

module _ (program : Resolved) (infos : List ClassInfo) (a : Annotation) (raises : Bool) (small : length (layout_of program infos a raises).structs < 2 ^ 64) where
  abbrev all : Layout
  all = layout_of program infos a raises

  abbrev given : Layout
  given = mapped program infos a raises

  abbrev partial : Layout
  partial = all_shapes (started program infos a raises) a

  abbrev before : List LlStruct
  before = before_lists given infos a

  abbrev listed : List LlStruct
  listed = all_lists given a (length before) given.lists

  abbrev behind : List LlStruct
  behind = all_dicts given.mappings ++ all_tuples given.shapes

  pub lists_typed : (n : ℕ) → is_list all n ≡ true → item_in (slice_get all.structs (word (n + 1))) ≡ type_in all (items_of all a n)
  lists_typed n e =
      let o = of_list all n e in
      let place : ℕ = (n - all.first_list) / 2 in
      let there = get_there all.lists place o.within in
      let first = first_list_is program infos a raises small in
      let counted = count_all program infos a raises small in
      let next : word (n + 1) ≡ all.first_list + 2 * place + 1 = word_same (n + 1) (let z = o.is in let w = o.within in omega (arith, z, w, first, counted, small)) ∙ (let z = o.is in omega (arith, z)) in
      let struct : slice_get all.structs (word (n + 1)) ≡ Some (array (type_in given (slice_get a.items there.0))) =
      ap (slice_get all.structs) next ∙ get_right before (listed ++ behind) (all.first_list + 2 * place + 1) (2 * place + 1) (omega (arith, first))
      ∙ get_left listed behind (2 * place + 1) (array (type_in given (slice_get a.items there.0))) (array_struct given a (length before) place given.lists there.0 there.1) in
      let site : site_of all n ≡ Some there.0 = ap (λ b. if b then slice_get all.lists place else slice_get all.dicts ((n - all.first_dict) / 3)) e ∙ there.1 in
      ap item_in struct ∙ alone_in given all refl (slice_get a.items there.0) ∙ ap (λ o. type_in all (element_of a.items o)) (sym site)

  pub record DictTyped (n : ℕ) (m : Mapping) : Type 0 where
    pub dict : m.dict ≡ n
    pub key : m.key ≡ type_in all (keys_of all a n)
    pub value : m.value ≡ type_in all (items_of all a n)

  pub dicts_typed : (n : ℕ) (m : Mapping) → mapping_at all.mappings n ≡ Some m → DictTyped n m
  dicts_typed n m h =
      let first = first_list_is program infos a raises small in
      let first_d = first_dict_is program infos a raises small in
      let counted = count_all program infos a raises small in
      let o = mapping_of partial a all.first_dict all.dicts n m (omega (arith, first_d, counted, small)) h in
      let number = o.number in
      let none : is_list all n ≡ false = and_none (not (nat_lt n all.first_list)) ((n - all.first_list) % 2 == 0) (nat_lt ((n - all.first_list) / 2) (length all.lists)) (no_less (nat_lt ((n - all.first_list) / 2) (length all.lists)) refl (omega (arith, number, first, first_d))) in
      let place : (n - all.first_dict) / 3 ≡ o.place = omega (arith, number) in
      let site : site_of all n ≡ Some o.site = ap (λ b. if b then slice_get all.lists ((n - all.first_list) / 2) else slice_get all.dicts ((n - all.first_dict) / 3)) none ∙ ap (slice_get all.dicts) place ∙ o.at in
      record {
        dict = o.dict;
        key = o.key ∙ alone_in partial all refl (slice_get a.keys o.site) ∙ ap (λ o. type_in all (element_of a.keys o)) (sym site);
        value = o.value ∙ alone_in partial all refl (slice_get a.items o.site) ∙ ap (λ o. type_in all (element_of a.items o)) (sym site);
      }
    where
      no_less : (b : Bool) → nat_lt ((n - all.first_list) / 2) (length all.lists) ≡ b → length all.lists ≤ (n - all.first_list) / 2 → b ≡ false
      no_less true e le = absurd (let z = ltb-true ((n - all.first_list) / 2) (length all.lists) e in omega (arith, z, le))
      no_less false e le = refl
