-- The dict of a site is made, once its parts are.
use Rattle.std.proofs.Common.{◌≡◌, ◌<◌, inl, inr, ℕ, ◌+◌, ◌^◌, Bool, true, false, List, ◌∷◌, ◌++◌, length, map, replicate, slice_get, Some, ℤ, pos, refl, sym, ap, ◌∙◌, subst, arith, []}
use Rattle.std.specs.Prelude.{if◌then◌else◌}
use Rattle.std.proofs.lemmas.List.{map-append}
use Rattle.csub_tree.specs.Layout.{constant}
use Rattle.csub_tree.specs.declared.tree.CCell.{CCell}
use Rattle.csub_tree.specs.declared.tree.CCell.TheVariants as cell
use Rattle.csub_tree.specs.declared.tree.CConst.{CConst}
use Rattle.csub_tree.specs.declared.tree.CConst.TheVariants as low
use Rattle.csub_tree.specs.declared.tree.CStatic.{CStatic}
use Rattle.ll_code.specs.declared.program.LlProgram.{LlProgram}
use Rattle.rpy_tree.specs.declared.program.Const.{Const}
use Rattle.rpy_tree.specs.declared.program.Site.{Site}
use Rattle.rpy_meaning.specs.Operations.{constant as meant_of, object_of}
use Rattle.rtyper_layout.specs.declared.dicts.Mapping.{Mapping}
use Rattle.rtyper_layout.specs.Dicts.{first, is_indexed, keys_last, second, stored_key, stored_value, type_in}
use Rattle.rtyper_layout.specs.Layout.{mapping_at}
use Rattle.rtyper_data.specs.declared.found.Found.{Found}
use Rattle.rtyper_data.specs.Seen.{Around}
use Rattle.rtyper_op.specs.Mapped.{count_cell, dict_cells, enter_all, entries_from, first_array, first_cells, array_of, index_cells, index_of, key_cells, mapped_by, prebuilt_by, second_array, second_cells, size_of, value_cells, word_cell}
use Rattle.rtyper_op.specs.Prebuilt.{all_ready}
use Rattle.growth_laws.specs.Growing.{Begins}
use Rattle.growth_laws.proofs.Fronts.{further, last_one, stays}
use Rattle.conversion_laws.proofs.Cells.{consts}
use Rattle.object_laws.specs.Dicts.{IsIndex, IsIndexIf, hash}
use Rattle.object_laws.specs.Done.{HasLayout}
use Rattle.object_laws.specs.Ghost.{First, Ghost, Second, Table, Use}
use Rattle.object_laws.specs.Known.{Known}
use Rattle.object_laws.specs.Values.{EachHolds}
use Rattle.start_laws.specs.Constants.{IsDictOf, IsSite}
use Rattle.start_laws.proofs.Building.{ArraysBuilt, Built, DictBuilt, OfDict, built_more, built_one, built_site, count, firsts, keys_meant, kept_as, numbers, one_kept, seconds, stand_later, values_meant}
use Rattle.start_laws.proofs.Entries.{EntriesMade, Entry, entries_made, hashes_in, keys_in, nothing_made, values_in}
use Rattle.start_laws.proofs.Index.{as_words, enter_hashes, index_right}
use Rattle.start_laws.proofs.Listing.{HasUses, StandSo}
use Rattle.start_laws.proofs.Serving.{Texts, array_static, flat_static, map_long}

-- ---- what is written

key_consts : (entries : List Entry) → key_cells entries ≡ consts (keys_in entries)
key_consts [] = refl
key_consts (e ∷ entries) = ap (λ cs. cell.Const e.key ∷ cs) (key_consts entries)

value_consts : (entries : List Entry) → value_cells entries ≡ consts (values_in entries)
value_consts [] = refl
value_consts (e ∷ entries) = ap (λ cs. cell.Const e.value ∷ cs) (value_consts entries)

hashes_enter : (entries : List Entry) (n : ℕ) (words : List ℤ) → enter_all entries n words ≡ enter_hashes (hashes_in entries) n words
hashes_enter [] n words = refl
hashes_enter (e ∷ entries) n words = hashes_enter entries (n + 1) _

number_cells : (words : List ℕ) → map word_cell (as_words words) ≡ consts (numbers words)
number_cells [] = refl
number_cells (w ∷ words) = ap (λ cs. word_cell (pos w) ∷ cs) (number_cells words)

-- the index that is written, where there is one
record Indexed (m : Mapping) (entries : List Entry) : Type 0 where
  index : List ℕ
  cells : (if is_indexed m then index_cells entries else []) ≡ consts (numbers index)
  is : IsIndexIf (is_indexed m) (hashes_in entries) (length entries) index

indexed : (m : Mapping) (entries : List Entry) → length entries < 2 ^ 61 → Indexed m entries
unfolding index_of
indexed m entries few = by (is_indexed m) refl
  where
    many : length (hashes_in entries) ≡ length entries
    many = map_long (λ (e : Entry). e.hash) entries

    by : (b : Bool) → is_indexed m ≡ b → Indexed m entries
    by true e =
        let right = index_right (hashes_in entries) (omega (arith, many, few)) in
        let words : index_of entries ≡ as_words right.0 = hashes_enter entries 1 (replicate (size_of (length entries)) (pos 0)) ∙ ap (λ k. enter_hashes (hashes_in entries) 1 (replicate (size_of k) (pos 0))) (sym many) ∙ right.1 in
        record {
          index = right.0;
          cells = ap (λ b. if b then index_cells entries else []) e ∙ ap (map word_cell) words ∙ number_cells right.0;
          is = subst (λ b. IsIndexIf b (hashes_in entries) (length entries) right.0) (sym e) (subst (λ k. IsIndex (hashes_in entries) k right.0) many right.2);
        }
    by false e = record { index = []; cells = ap (λ b. if b then index_cells entries else []) e; is = subst (λ b. IsIndexIf b (hashes_in entries) (length entries) []) (sym e) refl }

module _ (p : LlProgram) (around : Around) (known : Known) (sites : List Site) (same : List ℕ) (has : HasLayout p around.layout) where
  -- ---- the dict

  module _ (begin uses : List Use) (xs : List CStatic) (made : List (ℕ × ℕ)) (site n : ℕ) (m : Mapping) (pairs : List (Const × Const)) (keys values : List CConst) (old : Built p around known sites same has begin xs made uses)
      (it : IsSite around known sites same true site n) (is : it.of.prebuilt ≡ Some pairs) (at : mapping_at around.layout.mappings n ≡ Some m)
      (each_key : StandSo p around known sites same has xs made (λ g. EachHolds around.layout known g (known.keys m.dict) (map constant keys) (keys_meant p around known sites same has pairs)))
      (each_value : StandSo p around known sites same has xs made (λ g. EachHolds around.layout known g (known.items m.dict) (map constant values) (values_meant p around known sites same has pairs))) where
    abbrev i : ℕ
    i = object_of known.program.sites site

    abbrev empty_head : CStatic
    empty_head = flat_static m.dict (count 0 ∷ count 0 ∷ low.Null ∷ low.Null ∷ [])

    pub empty_built : pairs ≡ [] → (more : List Use) × Built p around known sites same has begin (xs ++ empty_head ∷ []) (made ++ (site, length xs) ∷ []) more
    empty_built none =
        let apart = has.dicts_apart n m at in
        let one = built_one p around known sites same has empty_head (Table i) apart.0 (λ b h. cc) old in
        let after : List CStatic = xs ++ empty_head ∷ [] in
        let dict : DictBuilt p around known sites same has after (made ++ (site, length xs) ∷ []) (uses ++ Table i ∷ []) site (length xs) m pairs = record {
          keys = keys;
          values = values;
          head_use = ap (slice_get (uses ++ Table i ∷ [])) (sym old.long) ∙ last_one uses (Table i);
          each_key = stand_later p around known sites same has _ xs after made (made ++ (site, length xs) ∷ []) (empty_head ∷ [], refl) (one_kept made (site, length xs)) each_key;
          each_value = stand_later p around known sites same has _ xs after made (made ++ (site, length xs) ∷ []) (empty_head ∷ [], refl) (one_kept made (site, length xs)) each_value;
          arrays = inl (record { empty = none; head_is = last_one xs empty_head });
        } in
        (uses ++ Table i ∷ [], built_site p around known sites same has site (length xs) (OfDict n m pairs it is at dict) one)

    module _ (index : List ℕ) (index_is : IsIndexIf (is_indexed m) (map (hash around.layout m.key) (keys_meant p around known sites same has pairs)) (length pairs) index) where
      abbrev one_static : CStatic
      one_static = array_static (first m) (count (length (firsts m keys values))) (firsts m keys values)

      abbrev two_static : CStatic
      two_static = array_static (second m) (count (length (numbers index ++ seconds m keys values))) (numbers index ++ seconds m keys values)

      abbrev with_one : List CStatic
      with_one = xs ++ one_static ∷ []

      abbrev with_two : List CStatic
      with_two = with_one ++ two_static ∷ []

      abbrev head : CStatic
      head = flat_static m.dict (count (length pairs) ∷ count (length pairs) ∷ low.Static (first m) (length xs) ∷ low.Static (second m) (length with_one) ∷ [])

      abbrev after : List CStatic
      after = with_two ++ head ∷ []

      abbrev uses_one : List Use
      uses_one = uses ++ First i ∷ []

      abbrev uses_two : List Use
      uses_two = uses_one ++ Second i ∷ []

      abbrev uses_after : List Use
      uses_after = uses_two ++ Table i ∷ []

      pub dict_built : (more : List Use) × Built p around known sites same has begin after (made ++ (site, length with_two) ∷ []) more
      dict_built =
          let apart = has.dicts_apart n m at in
          let one = built_one p around known sites same has one_static (First i) apart.1 (λ b h. cc) old in
          let two = built_one p around known sites same has two_static (Second i) apart.2 (λ b h. cc) one in
          let three = built_one p around known sites same has head (Table i) apart.0 (λ b h. cc) two in
          let begun : Begins xs after = further xs with_one after (one_static ∷ [], refl) (further with_one with_two after (two_static ∷ [], refl) (head ∷ [], refl)) in
          let arrays : ArraysBuilt p around known sites same has after uses_after site (length with_two) m pairs keys values = record {
            one = length xs;
            two = length with_one;
            index = index;
            head_is = last_one with_two head;
            first_is = stays with_one after (length xs) one_static (further with_one with_two after (two_static ∷ [], refl) (head ∷ [], refl)) (last_one xs one_static);
            second_is = stays with_two after (length with_one) two_static (head ∷ [], refl) (last_one with_one two_static);
            first_use = stays uses_one uses_after (length xs) (First i) (further uses_one uses_two uses_after (Second i ∷ [], refl) (Table i ∷ [], refl)) (ap (slice_get uses_one) (sym old.long) ∙ last_one uses (First i));
            second_use = stays uses_two uses_after (length with_one) (Second i) (Table i ∷ [], refl) (ap (slice_get uses_two) (sym one.long) ∙ last_one uses_one (Second i));
            indexed = index_is;
          } in
          let dict : DictBuilt p around known sites same has after (made ++ (site, length with_two) ∷ []) uses_after site (length with_two) m pairs = record {
            keys = keys;
            values = values;
            head_use = ap (slice_get uses_after) (sym two.long) ∙ last_one uses_two (Table i);
            each_key = stand_later p around known sites same has _ xs after made (made ++ (site, length with_two) ∷ []) begun (one_kept made (site, length with_two)) each_key;
            each_value = stand_later p around known sites same has _ xs after made (made ++ (site, length with_two) ∷ []) begun (one_kept made (site, length with_two)) each_value;
            arrays = inr arrays;
          } in
          (uses_after, built_site p around known sites same has site (length with_two) (OfDict n m pairs it is at dict) three)

  -- the three statics of a dict, as they are written
  abbrev statics_with : Found → Mapping → ℕ → ℕ → List CCell → List CCell → List CStatic
  statics_with f m n k one two =
      ((f.statics ++ record { kind = first m; cells = one } ∷ []) ++ record { kind = second m; cells = two } ∷ [])
      ++ record { kind = n; cells = count_cell k ∷ count_cell k ∷ cell.Const (low.Static (first m) (length f.statics)) ∷ cell.Const (low.Static (second m) (length (f.statics ++ record { kind = first m; cells = one } ∷ []))) ∷ [] } ∷ []

  abbrev number_with : Found → Mapping → List CCell → List CCell → ℕ
  number_with f m one two = length ((f.statics ++ record { kind = first m; cells = one } ∷ []) ++ record { kind = second m; cells = two } ∷ [])

  abbrev BuiltWith : List Use → Found → ℕ → Mapping → ℕ → ℕ → List (ℕ × ℕ) → List CCell → List CCell → Type 0
  BuiltWith begin f site m n k made one two = (uses : List Use) × Built p around known sites same has begin (statics_with f m n k one two) (made ++ (site, number_with f m one two) ∷ []) uses

  array_cells : (k : ℕ) (cells : List CCell) (cs : List CConst) → cells ≡ consts cs → (array_static k (count (length cs)) cs).cells ≡ count_cell (length cells) ∷ cell.Braces cells ∷ []
  array_cells k cells cs e = ap (λ n. count_cell n ∷ cell.Braces (consts cs) ∷ []) (sym (map_long cell.Const cs)) ∙ ap (λ ds. count_cell (length ds) ∷ cell.Braces ds ∷ []) (sym e)

  no_pairs : {A B : Type 0} (f : B → A) (g : Const × Const → B) (pairs : List (Const × Const)) → [] ≡ map f (map g pairs) → pairs ≡ []
  no_pairs f g [] h = refl
  no_pairs f g (q ∷ pairs) h = absurd (cc)

  either : {a b : List CCell} (c d : List CConst) (t : Bool) → a ≡ consts c → b ≡ consts d → (if t then a else b) ≡ consts (if t then c else d)
  either c d true x y = x
  either c d false x y = y

  module _ (begin : List Use) (site n : ℕ) (pairs : List (Const × Const)) (m : Mapping) (found : Found) (key : m.key ≡ type_in around.layout (known.keys m.dict)) (value : m.value ≡ type_in around.layout (known.items m.dict))
      (ghosts : (ys : List CStatic) → Begins found.statics ys → (g : Ghost) × Texts p around.layout g ys) (old : HasUses p around known sites same has begin found)
      (it : IsSite around known sites same true site n) (is : it.of.prebuilt ≡ Some pairs) (at : mapping_at around.layout.mappings n ≡ Some m) (few : length pairs < 2 ^ 61) (dict : m.dict ≡ n) where
    module _ (entries : List Entry) (f : Found) (made : EntriesMade p around known sites same has m key value found ghosts pairs (entries, f)) where
      each_key : StandSo p around known sites same has f.statics found.prebuilt (λ g. EachHolds around.layout known g (known.keys m.dict) (map constant made.keys) (keys_meant p around known sites same has pairs))
      each_key g texts homes = made.each_key g texts

      many : length entries ≡ length pairs
      many = sym (map_long (λ (e : Entry). e.hash) entries) ∙ ap length made.hashes_are ∙ map_long (hash around.layout m.key) (keys_meant p around known sites same has pairs) ∙ map_long (λ (q : Const × Const). meant_of known.program.sites q.0) pairs

      keys_so : key_cells entries ≡ consts (map (kept_as m.key (stored_key m)) made.keys)
      keys_so = key_consts entries ∙ ap consts made.keys_are

      values_so : value_cells entries ≡ consts (map (kept_as m.value (stored_value m)) made.values)
      values_so = value_consts entries ∙ ap consts made.values_are

      firsts_so : first_cells m entries ≡ consts (firsts m made.keys made.values)
      firsts_so = either (map (kept_as m.value (stored_value m)) made.values) (map (kept_as m.key (stored_key m)) made.keys) (keys_last m) values_so keys_so

      abbrev one : List CCell
      one = count_cell (length (first_cells m entries)) ∷ cell.Braces (first_cells m entries) ∷ []

      abbrev two : List CCell
      two = count_cell (length (second_cells m entries)) ∷ cell.Braces (second_cells m entries) ∷ []

      with_index : Indexed m entries → BuiltWith begin f site m n (length entries) f.prebuilt one two
      with_index index =
          let more = built_more p around known sites same has made.begins old.1 in
          let index_is : IsIndexIf (is_indexed m) (map (hash around.layout m.key) (keys_meant p around known sites same has pairs)) (length pairs) index.index =
          subst (λ k. IsIndexIf (is_indexed m) (map (hash around.layout m.key) (keys_meant p around known sites same has pairs)) k index.index) many (subst (λ hs. IsIndexIf (is_indexed m) hs (length entries) index.index) made.hashes_are index.is) in
          let seconds_so : second_cells m entries ≡ consts (numbers index.index ++ seconds m made.keys made.values) =
          ap (λ cs. cs ++ (if keys_last m then key_cells entries else value_cells entries)) index.cells
          ∙ ap (λ cs. consts (numbers index.index) ++ cs) (either (map (kept_as m.key (stored_key m)) made.keys) (map (kept_as m.value (stored_value m)) made.values) (keys_last m) keys_so values_so)
          ∙ sym (map-append cell.Const (numbers index.index) (seconds m made.keys made.values)) in
          let one_was : List CCell = (array_static (first m) (count (length (firsts m made.keys made.values))) (firsts m made.keys made.values)).cells in
          let two_was : List CCell = (array_static (second m) (count (length (numbers index.index ++ seconds m made.keys made.values))) (numbers index.index ++ seconds m made.keys made.values)).cells in
          let one_is : one_was ≡ one = array_cells (first m) (first_cells m entries) (firsts m made.keys made.values) firsts_so in
          let two_is : two_was ≡ two = array_cells (second m) (second_cells m entries) (numbers index.index ++ seconds m made.keys made.values) seconds_so in
          let start : BuiltWith begin f site m m.dict (length pairs) found.prebuilt one_was two_was = dict_built begin _ f.statics found.prebuilt site n m pairs made.keys made.values more it is at each_key made.each_value index.index index_is in
          subst (λ ps. BuiltWith begin f site m n (length entries) ps one two) (sym made.kept)
          (subst (λ k. BuiltWith begin f site m n k found.prebuilt one two) (sym many)
          (subst (λ k. BuiltWith begin f site m k (length pairs) found.prebuilt one two) dict
          (subst (λ cs. BuiltWith begin f site m m.dict (length pairs) found.prebuilt one cs) two_is (subst (λ cs. BuiltWith begin f site m m.dict (length pairs) found.prebuilt cs two_was) one_is start))))

    finished : (entries : List Entry) (f : Found) → EntriesMade p around known sites same has m key value found ghosts pairs (entries, f) → HasUses p around known sites same has begin (prebuilt_by site n (dict_cells m entries f))
    unfolding dict_cells first_array second_array array_of
    finished [] f made =
        let more = built_more p around known sites same has made.begins old.1 in
        let none : pairs ≡ [] = no_pairs (hash around.layout m.key) (λ (q : Const × Const). meant_of known.program.sites q.0) pairs made.hashes_are in
        let done = empty_built begin _ f.statics found.prebuilt site n m pairs made.keys made.values more it is at (each_key [] f made) made.each_value none in (
          done.0,
          subst (λ ps. Built p around known sites same has begin (f.statics ++ flat_static n (count 0 ∷ count 0 ∷ low.Null ∷ low.Null ∷ []) ∷ []) (ps ++ (site, length f.statics) ∷ []) done.0) (sym made.kept)
              (subst (λ k. Built p around known sites same has begin (f.statics ++ flat_static k (count 0 ∷ count 0 ∷ low.Null ∷ low.Null ∷ []) ∷ []) (found.prebuilt ++ (site, length f.statics) ∷ []) done.0) dict done.1),
        )
    finished (x ∷ es) f made = with_index (x ∷ es) f made (indexed m (x ∷ es) (let z = many (x ∷ es) f made in omega (arith, z, few)))

  pub mapped_built : (begin : List Use) (site n : ℕ) (pairs : List (Const × Const)) (m : Mapping) (found : Found) → HasUses p around known sites same has begin found
      → (it : IsSite around known sites same true site n) → it.of.prebuilt ≡ Some pairs → all_ready found pairs ≡ true → mapping_at around.layout.mappings n ≡ Some m → IsDictOf around known sites same m pairs → m.dict ≡ n
      → m.key ≡ type_in around.layout (known.keys m.dict) → m.value ≡ type_in around.layout (known.items m.dict) → HasUses p around known sites same has begin (mapped_by around site n pairs (Some m) found)
  mapped_built begin site n pairs m found old it is ready at of dict key value =
      let made = entries_made p around known sites same has m key value found ghosts [] pairs ([], found) (nothing_made p around known sites same has m key value found ghosts) of.keys of.values ready of.apart in
      finished begin site n pairs m found key value ghosts old it is at of.few dict (entries_from around m pairs ([], found)).0 (entries_from around m pairs ([], found)).1 made
    where
      ghosts : (ys : List CStatic) → Begins found.statics ys → (g : Ghost) × Texts p around.layout g ys
      ghosts ys b =
          let more = built_more p around known sites same has b old.1 in
          (record { blocks = []; statics = _; homes = [] }, λ s static h e. more.settled s static h e)
