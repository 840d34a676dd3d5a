-- Keys are found: by the index, where keys or values are words, and else from the front.
use Rattle.std.proofs.Common.{◌≡◌, ◌<◌, ◌≤◌, ◌⊎◌, inl, inr, ℕ, zero, suc, ◌^◌, ◌||◌, Bool, true, false, List, [], ◌∷◌, ◌++◌, length, Some, Ok, pos, refl, sym, ap, ◌∙◌, subst, arith}
use Rattle.std.specs.Prelude.{slice_get, if◌then◌else◌}
use Rattle.csub_tree.specs.State.{Value, Word, Flag, Core}
use Rattle.csub_tree.specs.Operation.{is_unset, binary_of}
use Rattle.csub_tree.specs.Statement.{read}
use Rattle.csub_tree.specs.declared.tree.CBinary.TheVariants as binary
use Rattle.ll_code.specs.State.{Frame, Calling}
use Rattle.ll_code.specs.declared.program.LlType.TheVariants as type
use Rattle.ll_code.specs.declared.program.LlProgram.{LlProgram}
use Rattle.ll_build.specs.declared.needs.Helper.TheVariants as helper
use Rattle.ll_build.specs.declared.needs.Numbers.{Numbers}
use Rattle.ll_leads.proofs.Ways.{Comes, gives, one}
use Rattle.ll_strings.specs.Laws.{HasHelper}
use Rattle.ll_texts.specs.Texts.{found}
use Rattle.ll_texts.proofs.Reading.{below_length}
use Rattle.rpy_tree.specs.Value.{Value as Meant, Heap}
use Rattle.rpy_meaning.specs.Compare.{is_equal}
use Rattle.rtyper_layout.specs.declared.dicts.Mapping.{Mapping}
use Rattle.rtyper_layout.specs.declared.layout.Layout.{Layout}
use Rattle.rtyper_layout.specs.Dicts.{first, second, is_indexed, is_plain, stored_key}
use Rattle.rtyper_layout.specs.Layout.{mapping_at}
use Rattle.rtyper_data.specs.Finding.{helper_number}
use Rattle.rtyper_data.specs.declared.small.Keyed.TheVariants as keyed
use Rattle.rtyper_dict.specs.Graphs.{dict_graph}
use Rattle.rtyper_dict.specs.Looking.{find}
use Rattle.rtyper_dict.specs.Parts.{dict_at, keyed_number}
use Rattle.rtyper_dict.specs.declared.parts.DictShape.{DictShape}
use Rattle.dict_laws.specs.Keys.{is_key, position_from}
use Rattle.list_copy_laws.proofs.Alike.{texts_alike}
use Rattle.object_laws.specs.Dicts.{DictAt, Lacks, as_item, dict_block, hash, index_values, items_block, keys_of}
use Rattle.object_laws.specs.Done.{HasDict, HasLayout}
use Rattle.object_laws.specs.Ghost.{Ghost}
use Rattle.object_laws.specs.Known.{Known}
use Rattle.object_laws.specs.Represents.{Represents}
use Rattle.object_laws.specs.Values.{Stands}
use Rattle.object_laws.proofs.Blocks.{found_set, reads_field}
use Rattle.object_laws.proofs.Passing.{calls_at}
use Rattle.object_laws.proofs.Valued.{held_set}
use Rattle.dict_find_laws.specs.Asked.{HasFind, HasHash, compared}
use Rattle.dict_find_laws.specs.Finding.{StandsStill, Answers, HasKeys, IsKey, KeysAreFound, as_key, place_word}
use Rattle.dict_find_laws.proofs.Alike.{equal_words, hash_word, number_of}
use Rattle.dict_find_laws.proofs.Compared.{compares_first, compares_last}
use Rattle.dict_find_laws.proofs.Hashed.{key_stands, keys_are_hashed, low, word_stored, words_asked}
use Rattle.dict_find_laws.proofs.Hashing.{word_hashed}
use Rattle.dict_find_laws.proofs.Indexed.{types}
use Rattle.dict_find_laws.proofs.Keyed.{KeyAt, Tests, key_at}
use Rattle.dict_find_laws.proofs.Places.{Has, by_index, entries_few, has, keys_long, none, pairs_long, stored_keys, stored_values}
use Rattle.dict_find_laws.proofs.Probing.{Graph}
use Rattle.dict_find_laws.proofs.Scanned.{key_scanned, none_scanned}
use Rattle.dict_find_laws.proofs.Shaped.{compared_texts, compared_words, find_texts, find_words, scan_texts, shape_is, shaped, text_test, word_test}
use Rattle.std.specs.Prelude.{◌==◌}
use Rattle.ann_element.specs.declared.element.Element.{Element}
use Rattle.object_laws.specs.Values.{Holds}
use Rattle.csub_tree.specs.State.{Flag}
use Rattle.rtyper_layout.specs.Kinds.{kind_seen}
use Rattle.rtyper_layout.specs.Layout.{is_tuple}
use Rattle.rtyper_data.specs.declared.found.Found.{Found}
use Rattle.rtyper_data.specs.declared.small.Small.TheVariants as small
use Rattle.rtyper_data.specs.Finding.{small_number}
use Rattle.rtyper_dict.specs.Looking.{find, find_graph, find_reads, find_types, scan_graph, scan_reads, scan_types}
use Rattle.lower_laws.specs.Asked.{Make}
use Rattle.conversion_laws.specs.Asked.{Has as HasConversion}
use Rattle.conversion_laws.specs.Going.{IsTuple}
use Rattle.dict_find_laws.specs.Keys.{AllAreKeys, AreKeys}
use Rattle.dict_find_laws.specs.Keys as sorts
use Rattle.dict_find_laws.proofs.Hashed.{pointer_stored}
use Rattle.dict_find_laws.proofs.Keying.{no_string, plain_sort}
use Rattle.dict_find_laws.proofs.Shaped.{compared_tuples, find_tuples, scan_tuples}
use Rattle.dict_find_laws.proofs.Telling.{tuples_alike}

more_than_none : (n k : ℕ) → n ≡ suc k → 0 < n
more_than_none n k e = omega (arith, e)

same_some : {A : Type 0} (a b : A) → Some a ≡ Some b → a ≡ b
same_some a b e = cc

module _ (layout : Layout) (known : Known) (p : LlProgram) (numbers : Numbers) (raised : ℕ → Value) (args : List (List ℕ)) (n f : ℕ) (m : Mapping) (before core : Core) (g : Ghost) (heap : Heap) (left i : ℕ) (head x : Value) (v : Meant)
    (mapping : mapping_at layout.mappings n ≡ Some m) (keys : HasKeys layout known m) (structs : HasLayout p layout) (asked : HasFind p layout numbers raised before n f) (stands : Represents layout known g heap left core.blocks core.statics)
    (d : DictAt layout known g heap core.blocks core.statics m i head) (key : IsKey layout known g m x v) (still : StandsStill m before core) where
  abbrev Finds : Value → Type 0
  Finds y = (waits : List Frame) → Comes p args (Calling f (head ∷ y ∷ []) waits core) [] (place_word (position_from is_equal 0 (keys_of d.pairs) v)) waits core

  abbrev pairs : List (Meant × Meant)
  pairs = d.pairs

  abbrev All : Type 0
  All = Has layout known p args f m core g heap i head v (structs.dicts n m mapping) d

  abbrev stored : All → List Value
  stored a = stored_keys layout known p args f m core g heap i head v (structs.dicts n m mapping) d a

  dict_structs : HasDict p m
  dict_structs = structs.dicts n m mapping

  stored_at : (a : All) (entry : ℕ) → entry < length pairs → KeyAt layout known g (known.keys m.dict) (as_item m.key (stored_key m)) (stored a) (keys_of pairs) entry
  stored_at a entry lt = key_at (as_item m.key (stored_key m)) a.spare_keys entry a.each_key (let q = pairs_long pairs in omega (arith, lt, q))

  few : length pairs ≤ d.places → length pairs < 2 ^ 62
  few h = (let k = d.few in omega (arith, h, k))

  graph_of : (s : DictShape) → dict_at layout n ≡ s → slice_get p.graphs f ≡ Some (find layout s asked.made).0
  unfolding dict_graph
  graph_of s h = asked.graph ∙ ap (λ s. Some (find layout s asked.made).0) h

  hash_of : (s : DictShape) → dict_at layout n ≡ s → s.is_indexed ≡ true → HasHash p layout s.stored_key (keyed_number (keyed.Hash s.stored_key) (compared layout s asked.made)).0
  hash_of s h indexed = subst (λ (s : DictShape). s.is_indexed ≡ true → HasHash p layout s.stored_key (keyed_number (keyed.Hash s.stored_key) (compared layout s asked.made)).0) h asked.hashes indexed

  -- ---- words

  module _ (plain : is_plain m.key ≡ true) where
    key_here : Stands g m.key x v
    key_here = key_stands layout known m keys (inl plain) key.held

    abbrev c : Bool
    c = is_plain m.value

    abbrev words_number : ℕ
    words_number = (keyed_number (keyed.Hash type.Signed) asked.made).0

    word_shape : dict_at layout n ≡ shaped m true c type.Signed
    word_shape = shape_is layout n m mapping ∙ ap (λ b. shaped m b c m.key) plain

    indexed : is_indexed m ≡ true
    indexed = ap (λ b. b || is_plain m.value) plain

    abbrev looked : Value
    looked = Word (number_of v)

    hash_graph_is : HasHash p layout type.Signed words_number
    hash_graph_is = subst (λ made. HasHash p layout type.Signed (keyed_number (keyed.Hash type.Signed) made).0) (compared_words layout m c asked.made) (hash_of (shaped m true c type.Signed) word_shape refl)

    word_at : (a : All) (entry : ℕ) (lt : entry < length pairs) → read (stored a) entry ≡ Word (number_of (stored_at a entry lt).meant)
    word_at a entry lt = (let k = stored_at a entry lt in k.low ∙ word_stored m k.value plain (key_stands layout known m keys (inl plain) k.held))

    tests_words : (a : All) (entry : ℕ) → entry < length pairs → Tests p args core word_test looked (read (stored a) entry) (has layout known p args f m core g heap i head v dict_structs d entry)
    tests_words a entry lt at r ops e waits function block place vars ry rx =
        let k = stored_at a entry lt in
        gives (Flag (is_key is_equal (slice_get (keys_of pairs) entry) v))
        (ap (λ y. binary_of binary.Eq y (read vars 1)) (ry ∙ word_at a entry lt) ∙ ap (binary_of binary.Eq (Word (number_of k.meant))) rx
        ∙ ap (λ t. Ok (Flag t)) (sym (ap (λ o. is_key is_equal o v) k.is ∙ equal_words plain key_here (key_stands layout known m keys (inl plain) k.held))))

    abbrev d_words : DictShape
    d_words = shaped m true c type.Signed

    word_graph : Graph p args f words_number d_words (types p args f words_number d_words (word_test 14 17) core head looked (Word (pos 0)) d.one d.two (length pairs) d.places) (word_test 14 17) core head looked (Word (pos 0)) d.two 0 0
    word_graph = graph_of d_words word_shape ∙ ap Some (find_words layout m c asked.made)

    word_hash : (function block at : ℕ) (vars : List Value) (waits : List Frame) → Comes p args (Calling words_number (looked ∷ []) waits (record core { function = function; block = block; at = at; vars = vars })) [] (Word (hash layout m.key v)) waits (record core { function = function; block = block; at = at; vars = vars })
    word_hash function block at vars waits =
        subst (λ z. Comes p args (Calling words_number (looked ∷ []) waits (record core { function = function; block = block; at = at; vars = vars })) [] (Word z) waits (record core { function = function; block = block; at = at; vars = vars })) (sym (hash_word layout plain key_here))
        (word_hashed p args words_number (words_asked p layout words_number hash_graph_is) (number_of v) (record core { function = function; block = block; at = at; vars = vars }) waits)

    words_second : (a : All) → found core.blocks core.statics d.two ≡ Some (items_block d_words.second (index_values a.index ++ stored a))
    words_second a = subst (λ b. found core.blocks core.statics d.two ≡ Some (items_block (second m) (index_values a.index ++ (if b then stored a else stored_values layout known p args f m core g heap i head v dict_structs d a)))) plain a.second_is

    words_there : (a : All) → 0 < d.places → Finds looked
    words_there a some =
        let many = few (entries_few layout known p args f m core g heap i head v dict_structs d a) in
        let places = keys_long layout known p args f m core g heap i head v dict_structs d a in
        let below = entries_few layout known p args f m core g heap i head v dict_structs d a in
        by_index layout known p args f m core g heap i head v dict_structs d true c type.Signed words_number word_test looked (Word (pos 0)) word_graph refl indexed a some refl (λ ops e waits. one refl refl) word_hash
        (λ bits small size. compares_last p args f words_number m c (types p args f words_number d_words (word_test 14 17) core head looked (Word (pos 0)) d.one d.two (length pairs) d.places) word_test core head looked (Word (pos 0)) d.two bits small
        (has layout known p args f m core g heap i head v dict_structs d) (length pairs) many (stored a) (tests_words a) (λ entry lt. ap is_unset (word_at a entry lt)) type.Signed a.index size (omega (arith, below, places)) dict_structs.second (words_second a))

    words_missing : d.places ≡ 0 → Finds looked
    words_missing nothing = none layout known p args f m core g heap i head v dict_structs d true c type.Signed words_number word_test looked (Word (pos 0)) word_graph refl indexed nothing

    words_found : Finds looked
    words_found = by d.arrays d.places refl
      where
        by : Lacks layout known g core.blocks core.statics m i d.pairs d.places d.one d.two ⊎ All → (k : ℕ) → d.places ≡ k → Finds looked
        by (inl l) k e = words_missing l.no_places
        by (inr a) zero e = words_missing e
        by (inr a) (suc k) e = words_there a (more_than_none d.places k e)

  -- ---- strings and tuples

  module _ (q : ℕ) (text : m.key ≡ type.Ptr q) (alike : ℕ) (next : Found) (compared_so : (c : Bool) → compared layout (shaped m false c (type.Ptr q)) asked.made ≡ next)
      (find_so : (find layout (shaped m false true (type.Ptr q)) asked.made).0 ≡ find_graph (keyed_number (keyed.Hash (type.Ptr q)) next).0 17 (shaped m false true (type.Ptr q)) (record { types = find_types (shaped m false true (type.Ptr q)) ++ type.Bool ∷ []; ops = find_reads (shaped m false true (type.Ptr q)) ++ text_test alike 14 17 ∷ [] }))
      (scan_so : (find layout (shaped m false false (type.Ptr q)) asked.made).0 ≡ scan_graph 8 (shaped m false false (type.Ptr q)) (record { types = scan_types (shaped m false false (type.Ptr q)) ++ type.Bool ∷ []; ops = scan_reads (shaped m false false (type.Ptr q)) ++ text_test alike 6 8 ∷ [] }))
      (alike_so : (function block at : ℕ) (vars : List Value) (y : Value) (u : Meant) → Holds layout known g (known.keys m.dict) y u → (waits : List Frame)
      → Comes p args (Calling alike (y ∷ x ∷ []) waits (record core { function = function; block = block; at = at; vars = vars })) [] (Flag (is_equal u v)) waits (record core { function = function; block = block; at = at; vars = vars })) where
    key_is_text : is_plain m.key ≡ false
    key_is_text = ap is_plain text

    text_shape : (b : Bool) → is_plain m.value ≡ b → dict_at layout n ≡ shaped m false b (type.Ptr q)
    text_shape b e = shape_is layout n m mapping ∙ ap (λ t. shaped m (is_plain t) (is_plain m.value) t) text ∙ ap (λ b. shaped m false b (type.Ptr q)) e

    x_set : is_unset x ≡ false
    x_set = held_set stands key.held

    text_at : (a : All) (entry : ℕ) (lt : entry < length pairs) → read (stored a) entry ≡ (stored_at a entry lt).value
    text_at a entry lt = (let k = stored_at a entry lt in k.low ∙ pointer_stored m k.value q text)

    texts_set : (a : All) (entry : ℕ) → entry < length pairs → is_unset (read (stored a) entry) ≡ false
    texts_set a entry lt = (let k = stored_at a entry lt in ap is_unset (text_at a entry lt) ∙ held_set stands k.held)

    tests_texts : (a : All) (entry : ℕ) (lt : entry < length pairs) → Tests p args core (text_test alike) x (read (stored a) entry) (is_equal (stored_at a entry lt).meant v)
    tests_texts a entry lt at r ops e waits function block place vars ry rx =
        let k = stored_at a entry lt in
        let y_set : is_unset k.value ≡ false = held_set stands k.held in
        calls_at (ap (λ y. y ∷ read vars 1 ∷ []) (ry ∙ text_at a entry lt) ∙ ap (λ z. k.value ∷ z ∷ []) rx) (ap (λ b. b || (is_unset x || false)) y_set ∙ ap (λ b. b || false) x_set)
        (λ waits. alike_so function block place vars k.value k.meant k.held waits)

    text_first : (a : All) → found core.blocks core.statics d.one ≡ Some (items_block (first m) (stored a))
    text_first a = subst (λ b. found core.blocks core.statics d.one ≡ Some (items_block (first m) (if b then stored_values layout known p args f m core g heap i head v dict_structs d a else stored a))) key_is_text a.first_is

    -- by the index

    module _ (value_plain : is_plain m.value ≡ true) where
      abbrev d_texts : DictShape
      d_texts = shaped m false true (type.Ptr q)

      abbrev texts_number : ℕ
      texts_number = (keyed_number (keyed.Hash (type.Ptr q)) next).0

      texts_indexed : is_indexed m ≡ true
      texts_indexed = ap (λ b. b || is_plain m.value) key_is_text ∙ value_plain

      text_graph : Graph p args f texts_number d_texts (types p args f texts_number d_texts (text_test alike 14 17) core head x d.one d.one d.two (length pairs) d.places) (text_test alike 14 17) core head x d.one d.two 0 0
      text_graph = graph_of d_texts (text_shape true value_plain) ∙ ap Some find_so

      text_hash_is : HasHash p layout (stored_key m) texts_number
      text_hash_is = subst (λ t. HasHash p layout (if is_plain t then type.Signed else t) texts_number) (sym text)
          (subst (λ made. HasHash p layout (type.Ptr q) (keyed_number (keyed.Hash (type.Ptr q)) made).0) (compared_so true) (hash_of d_texts (text_shape true value_plain) refl))

      text_hash : (function block at : ℕ) (vars : List Value) (waits : List Frame) → Comes p args (Calling texts_number (x ∷ []) waits (record core { function = function; block = block; at = at; vars = vars })) [] (Word (hash layout m.key v)) waits (record core { function = function; block = block; at = at; vars = vars })
      text_hash function block at vars waits =
          let it = keys_are_hashed layout known p args texts_number m (record core { function = function; block = block; at = at; vars = vars }) g heap left x v keys structs text_hash_is stands key.held (key.there texts_indexed) waits in
          subst (λ y. Comes p args (Calling texts_number (y ∷ []) waits (record core { function = function; block = block; at = at; vars = vars })) [] (Word (hash layout m.key v)) waits (record core { function = function; block = block; at = at; vars = vars })) (pointer_stored m x q text)
          (record { end = it.end; same = it.same; leads = it.leads })

      texts_there : (a : All) → 0 < d.places → Finds x
      texts_there a some =
          let below = entries_few layout known p args f m core g heap i head v dict_structs d a in
          let places = keys_long layout known p args f m core g heap i head v dict_structs d a in
          let one_set : is_unset d.one ≡ false = found_set core.blocks core.statics d.one _ a.first_is in
          by_index layout known p args f m core g heap i head v dict_structs d false true (type.Ptr q) texts_number (text_test alike) x d.one text_graph x_set texts_indexed a some one_set
          (λ ops e waits. reads_field 4 (dict_block m.dict (length pairs) d.places d.one d.two) d.one dict_structs.head d.head_is refl one_set 2 refl) text_hash
          (λ bits small size. compares_first p args f texts_number m true (types p args f texts_number d_texts (text_test alike 14 17) core head x d.one d.one d.two (length pairs) d.places) (text_test alike) core head x d.one d.two bits small
          (has layout known p args f m core g heap i head v dict_structs d) (length pairs) (few below) (stored a) (λ entry lt. subst (Tests p args core (text_test alike) x (read (stored a) entry)) (sym (ap (λ o. is_key is_equal o v) (stored_at a entry lt).is)) (tests_texts a entry lt))
          (texts_set a) (type.Ptr q) (omega (arith, below, places)) dict_structs.first (text_first a))

      texts_missing : d.places ≡ 0 → Finds x
      texts_missing nothing = none layout known p args f m core g heap i head v dict_structs d false true (type.Ptr q) texts_number (text_test alike) x d.one text_graph x_set texts_indexed nothing

      by_index_found : Finds x
      by_index_found = by d.arrays d.places refl
        where
          by : Lacks layout known g core.blocks core.statics m i d.pairs d.places d.one d.two ⊎ All → (k : ℕ) → d.places ≡ k → Finds x
          by (inl l) k e = texts_missing l.no_places
          by (inr a) zero e = texts_missing e
          by (inr a) (suc k) e = texts_there a (more_than_none d.places k e)

    -- from the front

    module _ (value_else : is_plain m.value ≡ false) where
      abbrev d_scan : DictShape
      d_scan = shaped m false false (type.Ptr q)

      head_here : found core.blocks core.statics head ≡ Some (dict_block m.dict (length (keys_of pairs)) d.places d.one d.two)
      head_here = d.head_is ∙ ap (λ k. Some (dict_block m.dict k d.places d.one d.two)) (sym (pairs_long pairs))

      scan_found : Finds x
      scan_found waits = by d.arrays
        where
          by : Lacks layout known g core.blocks core.statics m i d.pairs d.places d.one d.two ⊎ All → Comes p args (Calling f (head ∷ x ∷ []) waits core) [] (place_word (position_from is_equal 0 (keys_of pairs) v)) waits core
          by (inl l) =
              subst (λ ps. Comes p args (Calling f (head ∷ x ∷ []) waits core) [] (place_word (position_from is_equal 0 (keys_of ps) v)) waits core) (sym l.empty)
              (none_scanned p args f d_scan (text_test alike) core head x d.one d.two d.places (keys_of pairs) v (graph_of d_scan (text_shape false value_else) ∙ ap Some scan_so) x_set (ap is_unset l.first_null) dict_structs.head head_here waits (ap keys_of l.empty))
          by (inr a) =
              let below = entries_few layout known p args f m core g heap i head v dict_structs d a in
              let places = keys_long layout known p args f m core g heap i head v dict_structs d a in
              let long = pairs_long pairs in
              let small = few below in
              key_scanned p args f d_scan (text_test alike) core head x d.one d.two d.places (keys_of pairs) v (graph_of d_scan (text_shape false value_else) ∙ ap Some scan_so) x_set (found_set core.blocks core.statics d.one _ a.first_is) dict_structs.head head_here waits
              (stored a) (omega (arith, below, places, long)) (omega (arith, long, small)) dict_structs.first (text_first a)
              (λ entry w is. (let lt : entry < length pairs = omega (arith, below_length (keys_of pairs) entry w is, long) in subst (λ u. Tests p args core (text_test alike) x (read (stored a) entry) (is_equal u v)) (same_some (stored_at a entry lt).meant w (sym (stored_at a entry lt).is ∙ is)) (tests_texts a entry lt)))
              (λ entry lt. texts_set a entry (omega (arith, lt, long)))

    found_text : (b : Bool) → is_plain m.value ≡ b → Finds x
    found_text true e = by_index_found e
    found_text false e = scan_found e

  -- ---- strings

  module _ (text : m.key ≡ type.Ptr 0) where
    texts_found : Finds x
    texts_found = found_text 0 text (helper_number helper.StrEqual asked.made).0 (helper_number helper.StrEqual asked.made).1 (λ c. compared_texts layout m c asked.made) (find_texts layout m asked.made) (scan_texts layout m asked.made)
        (λ function block at vars y u held waits. texts_alike p args numbers (helper_number helper.StrEqual asked.made).0 before (record core { function = function; block = block; at = at; vars = vars }) compares waits y x u v
        (low text stands (key_stands layout known m keys (inr text) held)) (low text stands (key_stands layout known m keys (inr text) key.held))) (is_plain m.value) refl
      where
        compares : HasHelper p numbers helper.StrEqual (helper_number helper.StrEqual asked.made).0 before
        compares = asked.texts (ap (λ (s : DictShape). s.stored_key) (shape_is layout n m mapping ∙ ap (λ t. shaped m (is_plain t) (is_plain m.value) t) text))

  -- ---- tuples

  module _ (q : ℕ) (parts : List Element) (apart : is_tuple layout 0 ≡ false) (of : IsTuple layout (Some keys.key) q parts) (all : AllAreKeys layout parts) where
    tuple_key : m.key ≡ type.Ptr q
    tuple_key = sym keys.typed ∙ of.typed

    other : (q == 0) ≡ false
    other = no_string layout q apart of.struct

    tuples_found : Finds x
    tuples_found = found_text q tuple_key (small_number (small.Equal q q) asked.made).0 (small_number (small.Equal q q) asked.made).1 (λ c. compared_tuples layout q other of.struct m c asked.made) (find_tuples layout q other of.struct m asked.made) (scan_tuples layout q other of.struct m asked.made)
        (λ function block at vars y u held waits. tuples_alike p args numbers raised asked.made before (record core { function = function; block = block; at = at; vars = vars }) g heap left structs (still q tuple_key other) q compares stands apart parts of all waits y x u v (in_place held) (in_place key.held)) (is_plain m.value) refl
      where
        in_place : {y : Value} {u : Meant} → Holds layout known g (known.keys m.dict) y u → Holds layout known g (Some keys.key) y u
        in_place {y = y} {u = u} held = subst (λ seen. Holds layout known g seen y u) keys.key_is held

        compares : HasConversion p layout numbers raised before (Make (small.Equal q q)) asked.made
        compares = asked.tuples q (ap (λ (s : DictShape). s.stored_key) (shape_is layout n m mapping ∙ ap (λ t. shaped m (is_plain t) (is_plain m.value) t) tuple_key)) other

  -- ---- either

  found_so : (waits : List Frame) → Answers p args f (head ∷ as_key m x ∷ []) core (place_word (position_from is_equal 0 (keys_of pairs) v)) waits
  found_so waits = by keys.are
    where
      answers : (y : Value) → as_key m x ≡ y → Finds y → Answers p args f (head ∷ as_key m x ∷ []) core (place_word (position_from is_equal 0 (keys_of pairs) v)) waits
      answers y e finds = subst (λ y. Answers p args f (head ∷ y ∷ []) core (place_word (position_from is_equal 0 (keys_of pairs) v)) waits) (sym e) (let it = finds waits in record { end = it.end; same = it.same; leads = it.leads })

      of_plain : (is_plain m.key ≡ true) ⊎ (m.key ≡ type.Ptr 0) → Answers p args f (head ∷ as_key m x ∷ []) core (place_word (position_from is_equal 0 (keys_of pairs) v)) waits
      of_plain (inl plain) = answers (looked plain) (word_stored m x plain (key_stands layout known m keys (inl plain) key.held)) (words_found plain)
      of_plain (inr text) = answers x (pointer_stored m x 0 text) (texts_found text)

      by : AreKeys layout (Some keys.key) → Answers p args f (head ∷ as_key m x ∷ []) core (place_word (position_from is_equal 0 (keys_of pairs) v)) waits
      by (sorts.Plain p) = of_plain (subst (λ t. (is_plain t ≡ true) ⊎ (t ≡ type.Ptr 0)) keys.typed (plain_sort layout (Some keys.key) (kind_seen (Some keys.key)) refl p))
      by (sorts.Items q parts apart of all) = answers x (pointer_stored m x q (tuple_key q parts apart of all)) (tuples_found q parts apart of all)

pub keys_are_found : KeysAreFound
keys_are_found layout known p numbers raised args n f m before core g heap left i head x v mapping keys structs asked stands d key still waits = found_so layout known p numbers raised args n f m before core g heap left i head x v mapping keys structs asked stands d key still waits
