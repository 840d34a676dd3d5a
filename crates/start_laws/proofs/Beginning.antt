-- Where all sites have their uses, memory represents the first objects.
use Rattle.std.proofs.Common.{◌≡◌, ◌<◌, ◌⊎◌, inl, inr, ℕ, zero, suc, ◌+◌, Bool, true, false, List, ◌∷◌, ◌++◌, length, map, slice_get, Option, Some, None, pos, refl, sym, ap, ◌∙◌, subst, arith, length-append, []}
use Rattle.std.specs.Prelude.{◌-◌, nat_lt, option_map}
use Rattle.std.proofs.lemmas.Bool.{ltb-true, ltb-false}
use Rattle.std.proofs.lemmas.List.{append-nil}
use Rattle.ann_element.specs.declared.element.Element.{Element}
use Rattle.csub_tree.specs.State.{Value, Unset, Word, Byte, Flag, Fun, Null, Ptr, Static, Block}
use Rattle.csub_tree.specs.Layout.{constant, static_block}
use Rattle.csub_tree.specs.declared.tree.CConst.TheVariants as low
use Rattle.csub_tree.specs.declared.tree.CStatic.{CStatic}
use Rattle.ll_code.specs.Machine.{shapes_of}
use Rattle.ll_code.specs.declared.program.LlType.{LlType}
use Rattle.ll_code.specs.declared.program.LlType.TheVariants as type
use Rattle.ll_code.specs.declared.program.LlProgram.{LlProgram}
use Rattle.ll_texts.specs.Texts.{found}
use Rattle.rpy_tree.specs.Value.{Value as Meant, Object, Listed, Mapped, Instance, Heap}
use Rattle.rpy_tree.specs.declared.program.Const.{Const}
use Rattle.rpy_tree.specs.declared.program.Site.{Site}
use Rattle.rpy_meaning.specs.Meaning.{exceptions_from, prebuilt}
use Rattle.rpy_meaning.specs.Operations.{builtin_classes, object_of}
use Rattle.rpy_meaning.specs.Classes.{named}
use Rattle.rpy_meaning.specs.Compare.{is_equal}
use Rattle.rtyper_layout.specs.declared.classes.Laid.{Laid}
use Rattle.rtyper_layout.specs.declared.dicts.Mapping.{Mapping}
use Rattle.rtyper_layout.specs.declared.layout.Layout.{Layout}
use Rattle.rtyper_layout.specs.Dicts.{first, second}
use Rattle.rtyper_layout.specs.Layout.{is_list, mapping_at}
use Rattle.rtyper_layout.specs.Types.{word, laid_in}
use Rattle.rtyper_data.specs.Finding.{prebuilt_at}
use Rattle.rtyper_data.specs.Seen.{Around}
use Rattle.rtyper_op.specs.Prebuilt.{type_of_site}
use Rattle.dict_laws.specs.Keys.{AreApart}
use Rattle.layout_laws.specs.Beginning.{unseen}
use Rattle.layout_laws.specs.Statics.{statics_of}
use Rattle.layout_laws.proofs.Places.{get_left, get_there, get_within, same_some, no_some}
use Rattle.object_laws.specs.Dicts.{Arrays, DictAt, dict_block, keys_of}
use Rattle.object_laws.specs.Done.{HasDict, HasLayout}
use Rattle.object_laws.specs.Ghost.{Ghost, Use, Stays, Head, Array, Whole, Table, Sort, ListOf, InstanceOf, DictOf, Unseen, Home, use_of}
use Rattle.object_laws.specs.Known.{Known, vtable_block}
use Rattle.object_laws.specs.Represents.{HasRoom, Represents, ListAt, InstanceAt, Shows, head_block, is_settled}
use Rattle.object_laws.specs.Values.{EachHolds, Empty, More}
use Rattle.sound_runs.specs.Start.{SiteAt, contents}
use Rattle.start_laws.specs.Begins as start
use Rattle.start_laws.specs.Begins.{AreSites}
use Rattle.start_laws.specs.Constants.{AreConstants, IsDictOf, IsSite}
use Rattle.start_laws.specs.Knowing.{home_at, home_by, home_of, sort_of}
use Rattle.start_laws.proofs.Building.{ArraysBuilt, Built, ListBuilt, DictBuilt, NoneBuilt, SiteBuilt, OfList, OfDict, count, values_meant, get_behind, get_first, get_map}
use Rattle.start_laws.proofs.Arrays.{arrays_stand, entries, keys_same}
use Rattle.start_laws.proofs.Homes.{at_home, before, homes_from, homes_long, of_home, there}
use Rattle.start_laws.proofs.Serving.{Homes, Texts, array_in, flat_in, map_long}

pub each_long : {layout : Layout} {known : Known} {g : Ghost} {seen : Option Element} {xs : List Value} {vs : List Meant} → EachHolds layout known g seen xs vs → length xs ≡ length vs
each_long Empty = refl
each_long (More h each) = ap suc (each_long each)

get_exceptions : (class n i : ℕ) → i < n → slice_get (exceptions_from class n) i ≡ Some (Instance (class + i) [])
get_exceptions class zero i lt = absurd (omega (arith, lt))
get_exceptions class (suc n) zero lt = ap (λ k. Some (Instance k [])) (let z : class ≡ class + 0 = omega arith in z)
get_exceptions class (suc n) (suc i) lt = get_exceptions (suc class) n i (omega (arith, lt)) ∙ ap (λ k. Some (Instance k [])) (let z : suc class + i ≡ class + suc i = omega arith in z)

-- ---- where a site stands

abbrev pub or_unseen : Option Home → Home
or_unseen None = unseen
or_unseen (Some home) = home

module _ (p : LlProgram) (around : Around) (base : Known) (sites : List Site) (same : List ℕ) (has : HasLayout p around.layout) (made : List (ℕ × ℕ)) where
  -- where the lists and dicts of modules stand is known
  abbrev known : Known
  known = record base { site = home_of around sites same made }

  module _ (uses begin : List Use) (front : List Home) (old : Ghost) (left : ℕ)
      (built : Built p around known sites same has begin p.statics made uses) (are : AreSites sites known.program.sites) (first_homes : (i : ℕ) → i < builtin_classes → slice_get front i ≡ slice_get old.homes i) (count_front : length front ≡ builtin_classes)
      (was : Represents around.layout base old (prebuilt known.program) left [] (statics_of p)) where
    abbrev layout : Layout
    layout = around.layout

    abbrev objects : List (Option Object)
    objects = known.program.sites

    abbrev home : ℕ → Home
    home site = or_unseen (home_of around sites same made site)

    abbrev ghost : Ghost
    ghost = record { blocks = []; statics = uses; homes = front ++ homes_from home 0 objects }

    abbrev heap : Heap
    heap = prebuilt known.program

    -- a site that is seen
    record SeenSite (site : ℕ) (sort : Sort) (head : Value) : Type 0 where
      dict : Bool
      n : ℕ
      number : ℕ
      is_site : IsSite around known sites same dict site n
      at : prebuilt_at made site ≡ Some number
      sort_is : sort_of dict n ≡ sort
      head_is : Static number ≡ head

    seen_site : (site : ℕ) (sort : Sort) (head : Value) → home_of around sites same made site ≡ Some (record { sort = sort; head = head }) → SeenSite site sort head
    seen_site site sort head e = by (prebuilt_at made site) (slice_get sites site) refl refl e
      where
        to : (number : ℕ) (s : Site) → prebuilt_at made site ≡ Some number → slice_get sites site ≡ Some s → (t : LlType) → type_of_site around sites same site s.dict ≡ t → home_at s.dict t number ≡ Some (record { sort = sort; head = head }) → SeenSite site sort head
        to number s at is (type.Ptr n) typed h =
            let q : record { sort = sort_of s.dict n; head = Static number } ≡ record { sort = sort; head = head } = same_some h in
            record { dict = s.dict; n = n; number = number; is_site = record { of = s; is = is; so = refl; typed = typed }; at = at; sort_is = ap (λ (x : Home). x.sort) q; head_is = ap (λ (x : Home). x.head) q }
        to number s at is _ typed h = absurd (no_some h)

        by : (o : Option ℕ) (s : Option Site) → prebuilt_at made site ≡ o → slice_get sites site ≡ s → home_by around sites same site s o ≡ Some (record { sort = sort; head = head }) → SeenSite site sort head
        by (Some number) (Some s) at is h = to number s at is (type_of_site around sites same site s.dict) refl h
        by None (Some s) at is h = absurd (no_some h)
        by None None at is h = absurd (no_some h)
        by (Some number) None at is h = absurd (no_some h)

    -- one whose home is seen is known
    known_home : (site : ℕ) (sort : Sort) (head : Value) → (Unseen ≡ sort → ⊥) → home site ≡ record { sort = sort; head = head } → SeenSite site sort head
    known_home site sort head some e = by (home_of around sites same made site) refl e
      where
        by : (o : Option Home) → home_of around sites same made site ≡ o → or_unseen o ≡ record { sort = sort; head = head } → SeenSite site sort head
        by None is h = absurd (some (ap (λ (x : Home). x.sort) h))
        by (Some h) is k = seen_site site sort head (is ∙ ap Some k)

    site_known : (dict : Bool) (site n number : ℕ) → IsSite around known sites same dict site n → prebuilt_at made site ≡ Some number → home_of around sites same made site ≡ Some (record { sort = sort_of dict n; head = Static number })
    site_known dict site n number it at =
        ap (λ s. home_by around sites same site s (prebuilt_at made site)) it.is ∙ ap (home_by around sites same site (Some it.of)) at
        ∙ ap (λ d. home_at d (type_of_site around sites same site d) number) it.so ∙ ap (λ t. home_at dict t number) it.typed

    site_home : (dict : Bool) (site n number : ℕ) → IsSite around known sites same dict site n → prebuilt_at made site ≡ Some number → home site ≡ record { sort = sort_of dict n; head = Static number }
    site_home dict site n number it at = ap or_unseen (site_known dict site n number it at)

    -- what a site holds in the meaning
    object_there : (site : ℕ) (s : Site) (pairs : List (Const × Const)) → slice_get sites site ≡ Some s → s.prebuilt ≡ Some pairs → slice_get objects site ≡ Some (Some (contents objects s.dict pairs))
    object_there site s pairs is filled = by (slice_get objects site) refl (subst (λ o. SiteAt objects o (slice_get objects site)) is (are site))
      where
        by : (o : Option (Option Object)) → slice_get objects site ≡ o → SiteAt objects (Some s) (slice_get objects site) → slice_get objects site ≡ Some (Some (contents objects s.dict pairs))
        by None e h = absurd (subst (λ o. SiteAt objects (Some s) o) e h)
        by (Some o) e h = e ∙ ap Some ((subst (λ o. SiteAt objects (Some s) o) e h).0 ∙ ap (option_map (contents objects s.dict)) filled)

    pairs_of : (site number : ℕ) → SiteBuilt p around known sites same has p.statics made uses site number → (s : Site) → slice_get sites site ≡ Some s → (pairs : List (Const × Const)) × (s.prebuilt ≡ Some pairs)
    pairs_of site number (OfList n pairs it is l) s at = (pairs, ap (λ (x : Site). x.prebuilt) (same_some (sym at ∙ it.is)) ∙ is)
    pairs_of site number (OfDict n m pairs it is found d) s at = (pairs, ap (λ (x : Site). x.prebuilt) (same_some (sym at ∙ it.is)) ∙ is)

    -- those that are made stand at their statics
    homes_are : Homes p around known sites same has ghost made
    homes_are dict site n number it at =
        let pairs = pairs_of site number (built.each site number at) it.of it.is in
        get_behind front (homes_from home 0 objects) (object_of objects site) (before objects site) (omega (arith, count_front))
        ∙ at_home home 0 site objects (contents objects it.of.dict pairs.0) (object_there site it.of pairs.0 it.is pairs.1)
        ∙ ap (λ k. Some (home k)) (let z : 0 + site ≡ site = omega arith in z) ∙ ap Some (site_home dict site n number it at)

    texts_are : Texts p layout ghost p.statics
    texts_are s static h e = built.settled s static h e

    -- a home is one of the first, or that of a site
    data Where (i : ℕ) (sort : Sort) (head : Value) : Type 0 where
      First : i < builtin_classes → slice_get old.homes i ≡ Some (record { sort = sort; head = head }) → Where i sort head
      Later : (site : ℕ) (object : Object) → slice_get objects site ≡ Some (Some object) → object_of objects site ≡ i → slice_get heap i ≡ Some object → home site ≡ record { sort = sort; head = head } → Where i sort head

    count_exceptions : (class n : ℕ) → length (exceptions_from class n) ≡ n
    count_exceptions class zero = refl
    count_exceptions class (suc n) = ap suc (count_exceptions (suc class) n)

    where_is : (i : ℕ) (sort : Sort) (head : Value) → slice_get ghost.homes i ≡ Some (record { sort = sort; head = head }) → Where i sort head
    where_is i sort head h = by (nat_lt i builtin_classes) refl
      where
        by : (b : Bool) → nat_lt i builtin_classes ≡ b → Where i sort head
        by true e = (let lt = ltb-true i builtin_classes e in First lt (sym (first_homes i lt) ∙ sym (get_first front (homes_from home 0 objects) i (omega (arith, count_front, lt))) ∙ h))
        by false e =
            let ge = ltb-false i builtin_classes e in
            let j : ℕ = i - builtin_classes in
            let at : i ≡ builtin_classes + j = omega (arith, ge) in
            let it = of_home home 0 objects j (record { sort = sort; head = head }) (sym (get_behind front (homes_from home 0 objects) i j (omega (arith, count_front, at))) ∙ h) in
            Later it.s it.object it.is (omega (arith, it.place, at)) (get_behind (exceptions_from 0 builtin_classes) (there objects) i j (omega (arith, at, count_exceptions 0 builtin_classes)) ∙ it.object_is) (sym (ap home (let z : 0 + it.s ≡ it.s = omega arith in z)) ∙ it.home_is)

    -- ---- lists

    block_at : (s : ℕ) (static : CStatic) → slice_get p.statics s ≡ Some static → slice_get (statics_of p) s ≡ Some (static_block (shapes_of p.structs) static)
    block_at s static h = get_map (static_block (shapes_of p.structs)) p.statics s static h

    no_instance : (i : ℕ) (o : Object) → i < builtin_classes → slice_get heap i ≡ Some o → o ≡ Instance i []
    no_instance i o lt h =
        same_some (sym h ∙ get_left (exceptions_from 0 builtin_classes) (there objects) i (Instance i []) (get_exceptions 0 builtin_classes i lt ∙ ap (λ k. Some (Instance k [])) (let z : 0 + i ≡ i = omega arith in z)))

    sorts_list : (dict : Bool) (m n : ℕ) → sort_of dict m ≡ ListOf n → (dict ≡ false) × (m ≡ n)
    sorts_list false m n h = (refl, (let q : m ≡ n = cc in q))
    sorts_list true m n h = absurd (let q : DictOf m ≡ ListOf n = h in cc)

    sorts_dict : (dict : Bool) (m n : ℕ) → sort_of dict m ≡ DictOf n → (dict ≡ true) × (m ≡ n)
    sorts_dict true m n h = (refl, (let q : m ≡ n = cc in q))
    sorts_dict false m n h = absurd (let q : ListOf m ≡ DictOf n = h in cc)

    abbrev pub meant_at : ℕ → Object → Type 0
    meant_at i o = slice_get heap i ≡ Some o

    module _ (constants : AreConstants around known sites same left) where
      -- the list that stands at a site
      list_at : (site n number i : ℕ) (pairs : List (Const × Const)) (it : IsSite around known sites same false site n) → it.of.prebuilt ≡ Some pairs → ListBuilt p around known sites same has p.statics made uses site number n pairs
          → object_of objects site ≡ i → slice_get heap i ≡ Some (Listed (values_meant p around known sites same has pairs)) → ListAt layout known ghost heap left [] (statics_of p) n i (Static number)
      list_at site n number i pairs it is l at object =
          let of = constants.lists site n pairs it is in
          let each = l.holds ghost texts_are homes_are in
          let values : List Value = map constant l.values in
          let items : List Meant = values_meant p around known sites same has pairs in
          let many : length items ≡ length pairs = map_long _ pairs in
          let long : length (values ++ []) ≡ length pairs = ap length (append-nil values) ∙ each_long each ∙ many in
          let room = of.room in
          record {
            items = items;
            object = object;
            array = Static l.array;
            values = values;
            spare = [];
            head_use = l.head_use ∙ ap (λ k. Some (Head k)) at;
            array_use = l.array_use ∙ ap (λ k. Some (Array k)) at;
            head_is = block_at number _ l.head_is ∙ ap Some (flat_in (shapes_of p.structs) n (count (length pairs) ∷ low.Static (word (n + 1)) l.array ∷ []) (has.heads n of.struct)) ∙ ap (λ k. Some (head_block n k (Static l.array))) (sym many);
            array_is = block_at l.array _ l.array_is ∙ ap Some (array_in (shapes_of p.structs) (word (n + 1)) (count (length pairs)) l.values (has.arrays n of.struct))
                ∙ ap (λ k. Some (record { kind = word (n + 1); fields = Word (pos k) ∷ []; items = values })) (sym long) ∙ ap (λ xs. Some (record { kind = word (n + 1); fields = Word (pos (length (values ++ []))) ∷ []; items = xs })) (sym (append-nil values));
            each = each;
            empty = tt;
            long = omega (arith, long, room);
            room = subst (λ k. HasRoom k left) (sym many) room;
          }

      lists_are : (n i : ℕ) (head : Value) → slice_get ghost.homes i ≡ Some (record { sort = ListOf n; head = head }) → is_list layout n ≡ true → ListAt layout known ghost heap left [] (statics_of p) n i head
      lists_are n i head h e = by (where_is i (ListOf n) head h)
        where
          site_at : (site number : ℕ) (o : Object) → SiteBuilt p around known sites same has p.statics made uses site number → IsSite around known sites same false site n → slice_get objects site ≡ Some (Some o) → object_of objects site ≡ i → slice_get heap i ≡ Some o
              → ListAt layout known ghost heap left [] (statics_of p) n i (Static number)
          site_at site number o (OfList k pairs it is l) other there at object =
              let same_n : k ≡ n = (let q : type.Ptr k ≡ type.Ptr n = sym it.typed ∙ other.typed in cc) in
              let is_object : o ≡ Listed (values_meant p around known sites same has pairs) = same_some (same_some (sym there ∙ object_there site it.of pairs it.is is)) ∙ ap (λ d. contents objects d pairs) it.so in
              subst (λ k. ListAt layout known ghost heap left [] (statics_of p) k i (Static number)) same_n (list_at site k number i pairs it is l at (object ∙ ap Some is_object))
          site_at site number o (OfDict k m pairs it is found d) other there at object = absurd (let q : true ≡ false = sym it.so ∙ ap (λ (s : Site). s.dict) (same_some (sym it.is ∙ other.is)) ∙ other.so in cc)

          by : Where i (ListOf n) head → ListAt layout known ghost heap left [] (statics_of p) n i head
          by (First lt was_home) = (let old_list = was.lists n i head was_home e in absurd (let q : Listed old_list.items ≡ Instance i [] = no_instance i (Listed old_list.items) lt old_list.object in cc))
          by (Later site object there at in_heap home_is) =
              let s = known_home site (ListOf n) head (λ q. let z : Unseen ≡ ListOf n = q in cc) home_is in
              let sorts = sorts_list s.dict s.n n s.sort_is in
              let it : IsSite around known sites same false site n = subst (λ k. IsSite around known sites same false site k) sorts.1 (subst (λ d. IsSite around known sites same d site s.n) sorts.0 s.is_site) in
              subst (λ x. ListAt layout known ghost heap left [] (statics_of p) n i x) s.head_is (site_at site s.number object (built.each site s.number s.at) it there at in_heap)

      -- ---- dicts

      abbrev entries_of : List (Const × Const) → List (Meant × Meant)
      entries_of pairs = entries p around known sites same has pairs

      dict_at : (site n number i : ℕ) (m : Mapping) (pairs : List (Const × Const)) (it : IsSite around known sites same true site n) → it.of.prebuilt ≡ Some pairs → mapping_at layout.mappings n ≡ Some m → DictBuilt p around known sites same has p.statics made uses site number m pairs
          → object_of objects site ≡ i → slice_get heap i ≡ Some (Mapped (entries_of pairs)) → DictAt layout known ghost heap [] (statics_of p) m i (Static number)
      dict_at site n number i m pairs it is found_at d at object = by d.arrays
        where
          of : IsDictOf around known sites same m pairs
          of = constants.dicts site n pairs m it is found_at

          laid : HasDict p m
          laid = has.dicts n m found_at

          many : length (entries_of pairs) ≡ length pairs
          many = map_long _ pairs

          apart : AreApart is_equal (keys_of (entries_of pairs))
          apart = subst (λ vs. AreApart is_equal vs) (sym (keys_same p around known sites same has pairs)) of.apart

          use_is : use_of ghost (Static number) ≡ Some (Table i)
          use_is = d.head_use ∙ ap (λ k. Some (Table k)) at

          by : NoneBuilt p around known sites same has p.statics number m pairs ⊎ ArraysBuilt p around known sites same has p.statics uses site number m pairs d.keys d.values → DictAt layout known ghost heap [] (statics_of p) m i (Static number)
          by (inl none) = record {
            pairs = entries_of pairs;
            object = object;
            places = 0;
            one = Null;
            two = Null;
            head_use = use_is;
            head_is = block_at number _ none.head_is ∙ ap Some (flat_in (shapes_of p.structs) m.dict (count 0 ∷ count 0 ∷ low.Null ∷ low.Null ∷ []) laid.head)
                ∙ ap (λ (ps : List (Const × Const)). Some (dict_block m.dict (length ps) 0 Null Null)) (sym none.empty) ∙ ap (λ k. Some (dict_block m.dict k 0 Null Null)) (sym many);
            arrays = inl (record { empty = ap entries_of none.empty; no_places = refl; first_null = refl; second_null = refl });
            apart = apart;
            few = omega arith;
          }
          by (inr a) = record {
            pairs = entries_of pairs;
            object = object;
            places = length pairs;
            one = Static a.one;
            two = Static a.two;
            head_use = use_is;
            head_is = block_at number _ a.head_is ∙ ap Some (flat_in (shapes_of p.structs) m.dict (count (length pairs) ∷ count (length pairs) ∷ low.Static (first m) a.one ∷ low.Static (second m) a.two ∷ []) laid.head)
                ∙ ap (λ k. Some (dict_block m.dict k (length pairs) (Static a.one) (Static a.two))) (sym many);
            arrays = inr (subst (λ k. Arrays layout known ghost [] (statics_of p) m k (entries_of pairs) (length pairs) (Static a.one) (Static a.two)) at
                (arrays_stand p around known sites same has ghost uses site number m pairs d.keys d.values refl laid a (d.each_key ghost texts_are homes_are) (d.each_value ghost texts_are homes_are)));
            apart = apart;
            few = (let z = of.few in omega (arith, z));
          }

      dicts_are : (n i : ℕ) (head : Value) (m : Mapping) → slice_get ghost.homes i ≡ Some (record { sort = DictOf n; head = head }) → mapping_at layout.mappings n ≡ Some m → DictAt layout known ghost heap [] (statics_of p) m i head
      dicts_are n i head m h e = by (where_is i (DictOf n) head h)
        where
          site_at : (site number : ℕ) (o : Object) → SiteBuilt p around known sites same has p.statics made uses site number → IsSite around known sites same true site n → slice_get objects site ≡ Some (Some o) → object_of objects site ≡ i → slice_get heap i ≡ Some o
              → DictAt layout known ghost heap [] (statics_of p) m i (Static number)
          site_at site number o (OfDict k m2 pairs it is found_at d) other there at object =
              let same_n : k ≡ n = (let q : type.Ptr k ≡ type.Ptr n = sym it.typed ∙ other.typed in cc) in
              let same_m : m2 ≡ m = same_some (sym found_at ∙ ap (mapping_at layout.mappings) same_n ∙ e) in
              let is_object : o ≡ Mapped (entries_of pairs) = same_some (same_some (sym there ∙ object_there site it.of pairs it.is is)) ∙ ap (λ d. contents objects d pairs) it.so in
              subst (λ x. DictAt layout known ghost heap [] (statics_of p) x i (Static number)) same_m (dict_at site k number i m2 pairs it is found_at d at (object ∙ ap Some is_object))
          site_at site number o (OfList k pairs it is l) other there at object = absurd (let q : false ≡ true = sym it.so ∙ ap (λ (s : Site). s.dict) (same_some (sym it.is ∙ other.is)) ∙ other.so in cc)

          by : Where i (DictOf n) head → DictAt layout known ghost heap [] (statics_of p) m i head
          by (First lt was_home) = (let old_dict = was.dicts n i head m was_home e in absurd (let q : Mapped old_dict.pairs ≡ Instance i [] = no_instance i (Mapped old_dict.pairs) lt old_dict.object in cc))
          by (Later site object there at in_heap home_is) =
              let s = known_home site (DictOf n) head (λ q. let z : Unseen ≡ DictOf n = q in cc) home_is in
              let sorts = sorts_dict s.dict s.n n s.sort_is in
              let it : IsSite around known sites same true site n = subst (λ k. IsSite around known sites same true site k) sorts.1 (subst (λ d. IsSite around known sites same d site s.n) sorts.0 s.is_site) in
              subst (λ x. DictAt layout known ghost heap [] (statics_of p) m i x) s.head_is (site_at site s.number object (built.each site s.number s.at) it there at in_heap)

      -- ---- instances

      module _ (no_blocks : old.blocks ≡ []) (heads : (i s : ℕ) → i < builtin_classes → slice_get old.statics s ≡ Some (Whole i) → slice_get uses s ≡ Some (Whole i))
          (vtables : (class : ℕ) (l : Laid) → laid_in layout.classes class ≡ Some l → (s : ℕ) × ((known.vtable class).at ≡ Static s) × (slice_get uses s ≡ Some (Stays (vtable_block l.vtable (known.vtable class)))))
          (fixed : (s : ℕ) (block : Block) → known.static s ≡ Some block → slice_get uses s ≡ Some (Stays block)) where
        nothing_shown : (e : Element) (o : Option Meant) (x is_set : Value) → o ≡ None → Shows layout base old e o x is_set → Shows layout known ghost e o x is_set
        nothing_shown e None x is_set h shown = shown
        nothing_shown e (Some v) x is_set h shown = absurd (no_some (sym h))

        head_used : (i : ℕ) (x : Value) → i < builtin_classes → use_of old x ≡ Some (Whole i) → use_of ghost x ≡ Some (Whole i)
        head_used i (Static s) lt h = heads i s lt h
        head_used i (Ptr n) lt h = absurd (no_some (ap (λ bs. slice_get bs n) (sym no_blocks) ∙ h))
        head_used i Unset lt h = absurd (no_some h)
        head_used i (Word z) lt h = absurd (no_some h)
        head_used i (Byte b) lt h = absurd (no_some h)
        head_used i (Flag b) lt h = absurd (no_some h)
        head_used i (Fun f) lt h = absurd (no_some h)
        head_used i Null lt h = absurd (no_some h)

        instances_are : (class i : ℕ) (head : Value) → slice_get ghost.homes i ≡ Some (record { sort = InstanceOf class; head = head }) → InstanceAt layout known ghost heap [] (statics_of p) class i head
        instances_are class i head h = by (where_is i (InstanceOf class) head h)
          where
            no_sort : (dict : Bool) (n : ℕ) → sort_of dict n ≡ InstanceOf class → ⊥
            no_sort false n q = (let z : ListOf n ≡ InstanceOf class = q in cc)
            no_sort true n q = (let z : DictOf n ≡ InstanceOf class = q in cc)

            by : Where i (InstanceOf class) head → InstanceAt layout known ghost heap [] (statics_of p) class i head
            by (Later site object there at in_heap home_is) = (let s = known_home site (InstanceOf class) head (λ q. let z : Unseen ≡ InstanceOf class = q in cc) home_is in absurd (no_sort s.dict s.n s.sort_is))
            by (First lt was_home) =
                let it = was.instances class i head was_home in
                let none : it.attributes ≡ [] = (let q : Instance class it.attributes ≡ Instance i [] = no_instance i (Instance class it.attributes) lt it.object in cc) in
                record {
                  attributes = it.attributes;
                  object = it.object;
                  laid = it.laid;
                  is_laid = it.is_laid;
                  fields = it.fields;
                  head_use = head_used i head lt it.head_use;
                  block_is = it.block_is;
                  size = it.size;
                  vtable = it.vtable;
                  shows = λ name s k. nothing_shown s.element (named name it.attributes) _ _ (ap (named name) none) (it.shows name s k);
                }

        stay_so : (s : ℕ) (block : Block) → slice_get uses s ≡ Some (Stays block) → slice_get (statics_of p) s ≡ Some block
        stay_so s block h =
            let there = get_there p.statics s (let z = built.long in let y = get_within uses s (Stays block) h in omega (arith, z, y)) in
            block_at s there.0 there.1 ∙ ap Some (built.staying s there.0 block there.1 h)

        stays_are : (x : Value) (block : Block) → use_of ghost x ≡ Some (Stays block) → found [] (statics_of p) x ≡ Some block
        stays_are (Static s) block h = stay_so s block h
        stays_are (Ptr n) block h = absurd (no_some h)
        stays_are Unset block h = absurd (no_some h)
        stays_are (Word z) block h = absurd (no_some h)
        stays_are (Byte b) block h = absurd (no_some h)
        stays_are (Flag b) block h = absurd (no_some h)
        stays_are (Fun f) block h = absurd (no_some h)
        stays_are Null block h = absurd (no_some h)

        settle_so : (s : ℕ) (block : Block) → slice_get (statics_of p) s ≡ Some block → is_settled layout block.kind ≡ true → slice_get uses s ≡ Some (Stays block)
        settle_so s block h e =
            let within : s < length p.statics = (let y = get_within (statics_of p) s block h in let z = map_long (static_block (shapes_of p.structs)) p.statics in omega (arith, y, z)) in
            let there = get_there p.statics s within in
            let same_one : static_block (shapes_of p.structs) there.0 ≡ block = same_some (sym (block_at s there.0 there.1) ∙ h) in
            built.settled s there.0 there.1 (ap (λ (b : Block). is_settled layout b.kind) same_one ∙ e) ∙ ap (λ b. Some (Stays b)) same_one

        settled_are : (x : Value) (block : Block) → found [] (statics_of p) x ≡ Some block → is_settled layout block.kind ≡ true → use_of ghost x ≡ Some (Stays block)
        settled_are (Static s) block h e = settle_so s block h e
        settled_are (Ptr n) block h e = absurd (no_some h)
        settled_are Unset block h e = absurd (no_some h)
        settled_are (Word z) block h e = absurd (no_some h)
        settled_are (Byte b) block h e = absurd (no_some h)
        settled_are (Flag b) block h e = absurd (no_some h)
        settled_are (Fun f) block h e = absurd (no_some h)
        settled_are Null block h e = absurd (no_some h)

        -- what is known of sites is so
        sites_are : (site : ℕ) (h : Home) → home_of around sites same made site ≡ Some h → slice_get ghost.homes (object_of objects site) ≡ Some h
        sites_are site h e =
            let s = seen_site site h.sort h.head e in
            homes_are s.dict site s.n s.number s.is_site s.at ∙ ap (λ sort. Some (record { sort = sort; head = Static s.number })) s.sort_is ∙ ap (λ head. Some (record { sort = h.sort; head = head })) s.head_is

        represents : Represents layout known ghost heap left [] (statics_of p)
        represents = record {
          made = refl;
          fixed = built.long ∙ sym (map_long (static_block (shapes_of p.structs)) p.statics);
          homes = length-append front (homes_from home 0 objects) ∙ (let a = homes_long home 0 objects in let b = count_exceptions 0 builtin_classes in let c = length-append (exceptions_from 0 builtin_classes) (there objects) in omega (arith, a, b, c, count_front));
          few = was.few;
          stays = stays_are;
          settled = settled_are;
          constants = fixed;
          vtables = λ class l h. (let it = vtables class l h in ap (use_of ghost) it.1 ∙ it.2);
          exceptions = λ class l lt h. get_first front (homes_from home 0 objects) class (omega (arith, count_front, lt)) ∙ first_homes class lt ∙ was.exceptions class l lt h;
          sites = sites_are;
          lists = lists_are;
          instances = instances_are;
          dicts = dicts_are;
        }

        pub begins : start.Begins p around known left
        begins = record { ghost = ghost; stands = represents }
