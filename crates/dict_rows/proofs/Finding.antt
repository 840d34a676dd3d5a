-- Graphs that look for keys stand at their numbers, with those that they call.
use Rattle.std.proofs.Common.{◌≡◌, ℕ, zero, suc, ◌+◌, Bool, true, false, List, [], ◌∷◌, ◌++◌, Some, refl, sym, ap, ◌∙◌, subst}
use Rattle.std.specs.Prelude.{◌==◌, ◌&&◌, if◌then◌else◌, pos}
use Rattle.csub_tree.specs.State.{Value, Core}
use Rattle.csub_tree.specs.declared.tree.COperand.{COperand}
use Rattle.csub_tree.specs.declared.tree.COperand.TheVariants.{Var}
use Rattle.ll_build.specs.declared.needs.Helper.TheVariants as helper
use Rattle.ll_build.specs.Build.{word}
use Rattle.ll_code.specs.declared.program.LlOp.{LlOp}
use Rattle.ll_code.specs.declared.program.LlType.{LlType}
use Rattle.ll_code.specs.declared.program.LlType.TheVariants as type
use Rattle.rpy_tree.specs.Value.{Heap}
use Rattle.rtyper_data.specs.Converting.{by_small}
use Rattle.rtyper_data.specs.Graphs.{failing, fields_at}
use Rattle.rtyper_data.specs.Seen.{Writing}
use Rattle.rtyper_data.specs.declared.found.Found.{Found}
use Rattle.rtyper_data.specs.declared.small.Keyed.{Keyed}
use Rattle.rtyper_data.specs.declared.small.Keyed.TheVariants as keyed
use Rattle.rtyper_data.specs.declared.small.Small.TheVariants as small
use Rattle.rtyper_data.specs.Finding.{small_number}
use Rattle.rtyper_layout.specs.declared.dicts.Mapping.{Mapping}
use Rattle.rtyper_layout.specs.Layout.{is_tuple, mapping_at}
use Rattle.rtyper_dict.specs.declared.parts.DictShape.{DictShape}
use Rattle.rtyper_dict.specs.Graphs.{dict_graph}
use Rattle.rtyper_dict.specs.Hashing.{hash_graph, hashed, item_mixed, items_mixed, key_item, of_text, of_tuple, tuple_mixed}
use Rattle.rtyper_dict.specs.Listing.{get, got}
use Rattle.rtyper_dict.specs.Looking.{entry, find, find_by_index, find_by_scan, find_reads, find_types, is_key, scan_reads, scan_types, test_of}
use Rattle.rtyper_dict.specs.Parts.{dict_at, dict_or, keyed_number, shape_of}
use Rattle.lower_laws.specs.Asked.{AllRaise, Ask, Help, Make, all_asked, number_of}
use Rattle.object_laws.specs.Ghost.{Ghost}
use Rattle.object_laws.specs.Represents.{Represents}
use Rattle.conversion_laws.specs.Asked.{equal_asks}
use Rattle.conversion_laws.proofs.Testing.{asks_are, equal_is}
use Rattle.dict_find_laws.specs.Asked.{FieldsHashed, HasEntry, HasFind, HasHash, HashesTo, compared, fields_asked, HasGet, valued}
use Rattle.dict_find_laws.proofs.Arriving.{own_number}
use Rattle.dict_find_laws.specs.Asked as lookups
use Rattle.dict_find_laws.specs.Finding.{HasKeys}
use Rattle.dict_find_laws.specs.Keys.{AreKeys, Items, Plain}
use Rattle.dict_op_laws.specs.Asked.{HasKeyed}
use Rattle.dict_op_laws.specs.Dicts.{if_missing, there_asks}
use Rattle.lower_laws.proofs.Typing.{place_of_bytes, place_of_flags, place_of_strings, place_of_texts, place_of_words}
use Rattle.lower_laws.specs.Values.{is_plain as is_plain_kind}
use Rattle.object_laws.specs.Done.{AllAsked}
use Rattle.object_laws.specs.Known.{Known}
use Rattle.rpy_meaning.specs.declared.row.Covers.{Covers}
use Rattle.rtyped_laws.proofs.Asking.{all_have}
use Rattle.rtyped_runs.specs.Laws.{StandsSo, of_lookups}
use Rattle.rtyper_data.specs.Seen.{Around, Operand, kind_of as kind_of_operand, type_of}
use Rattle.rtyper_dict.specs.Operands.{of_dict_or_none}
use Rattle.rtyper_layout.specs.declared.kind.Kind.{Kind}
use Rattle.rtyper_layout.specs.declared.kind.Kind.TheVariants as kind
use Rattle.rtyper_layout.specs.declared.layout.Layout.{Layout}
use Rattle.rtyper_layout.specs.Dicts.{is_plain as is_plain_type, stored_key}
use Rattle.rtyper_layout.specs.Kinds.{kind_of}
use Rattle.rtyper_layout.specs.Types.{type_seen}
use Rattle.list_rows.proofs.Shapes.{no}
use Rattle.dict_rows.proofs.Standing.{dicts_stand}
use Rattle.growth_laws.specs.Growing.{Grows}
use Rattle.growth_laws.proofs.Data.{then_grows, value_as_grows}
use Rattle.growth_laws.proofs.Growing.{same_found, smalls_grow}
use Rattle.program_asks.specs.Standing.{HasAsked, Stands}
use Rattle.rtyped_laws.proofs.Objects.{has_keyed}
use Rattle.rtyped_laws.proofs.Programs.{asked_is_had}
use Rattle.rtyped_laws.proofs.Raised.{one_raises}
use Rattle.typed_rows.specs.Programs.{IsTyped, Typed, first, last, layout, numbers, setting, world}
use Rattle.value_rows.proofs.Asking.{helper_stands}
use Rattle.value_rows.proofs.Conversions.{conversions_stand}

-- ---- what is asked for

-- the dict has this mapping, and where its keys stand in blocks but are no strings they are tuples
abbrev pub KeyOf : Typed → ℕ → Type 0
KeyOf t n = (m : Mapping) × ((mapping_at (layout t).mappings n ≡ Some m) × ((q : ℕ) → (dict_at (layout t) n).stored_key ≡ type.Ptr q → (q == 0) ≡ false → is_tuple (layout t) q ≡ true))

abbrev pub Looks : Typed → Ask → Type 0
Looks t (Make (small.Present u c)) = Unit {0}
Looks t (Make (small.Keyed (keyed.Find n))) = KeyOf t n
Looks t (Make (small.Keyed (keyed.Entry n))) = KeyOf t n
Looks t (Make (small.Keyed (keyed.Value n))) = Unit {0}
Looks t (Make (small.Keyed (keyed.Get n u))) = KeyOf t n
Looks t other = ⊥

abbrev pub AllLook : Typed → List Ask → Type 0
AllLook t [] = Unit {0}
AllLook t (a ∷ asks) = Looks t a × AllLook t asks

pub look_both : (t : Typed) (asks more : List Ask) → AllLook t asks → AllLook t more → AllLook t (asks ++ more)
look_both t [] more h k = k
look_both t (a ∷ asks) more h k = (h.0, look_both t asks more h.1 k)

missing_look : (t : Typed) (b : Bool) (u : LlType) (c : Covers) → AllLook t (if_missing b u c)
missing_look t true u c = (tt, tt)
missing_look t false u c = tt

pub there_look : (t : Typed) (around : Around) (a : Operand) (c : Covers) → AllLook t (there_asks around a c)
there_look t around a c = missing_look t (of_dict_or_none (kind_of_operand a)) (type_of around a) c

-- what a key is at low level
key_type : (layout : Layout) (known : Known) (m : Mapping) (h : HasKeys layout known m) (q : ℕ) → (if is_plain_type (type_seen layout (Some h.key)) then type.Signed else type_seen layout (Some h.key)) ≡ type.Ptr q → (q == 0) ≡ false → AreKeys layout (Some h.key) → is_tuple layout q ≡ true
key_type layout known m h q e other (Plain p) = by (kind_of h.key) refl p
  where
    stored : LlType → LlType
    stored u = if is_plain_type u then type.Signed else u

    zero_is : type.Ptr 0 ≡ type.Ptr q → is_tuple layout q ≡ true
    zero_is same = (let z : 0 ≡ q = cc in no (sym other ∙ ap (λ (k : ℕ). k == 0) (sym z)))

    by : (k : Kind) → kind_of h.key ≡ k → is_plain_kind k ≡ true → is_tuple layout q ≡ true
    by kind.Word is p = absurd (let z : type.Signed ≡ type.Ptr q = sym (ap (λ (u : LlType). if is_plain_type u then type.Signed else u) (place_of_words layout (Some h.key) is)) ∙ e in cc)
    by kind.Flag is p = absurd (let z : type.Signed ≡ type.Ptr q = sym (ap (λ (u : LlType). if is_plain_type u then type.Signed else u) (place_of_flags layout (Some h.key) is)) ∙ e in cc)
    by kind.Byte is p = absurd (let z : type.Signed ≡ type.Ptr q = sym (ap (λ (u : LlType). if is_plain_type u then type.Signed else u) (place_of_bytes layout (Some h.key) is)) ∙ e in cc)
    by kind.Text is p = zero_is (sym (ap (λ (u : LlType). if is_plain_type u then type.Signed else u) (place_of_strings layout (Some h.key) is)) ∙ e)
    by kind.MaybeText is p = zero_is (sym (ap (λ (u : LlType). if is_plain_type u then type.Signed else u) (place_of_texts layout (Some h.key) is)) ∙ e)
    by _ is p = no p
key_type layout known m h q e other (Items n parts apart of all) =
    let z : type.Ptr n ≡ type.Ptr q = sym (ap (λ (u : LlType). if is_plain_type u then type.Signed else u) of.typed) ∙ e in
    let same : n ≡ q = cc in
    subst (λ (k : ℕ). is_tuple layout k ≡ true) same of.struct

stored_is : (layout : Layout) (n : ℕ) (m : Mapping) → mapping_at layout.mappings n ≡ Some m → (dict_at layout n).stored_key ≡ stored_key m
unfolding dict_at shape_of
stored_is layout n m is = ap (λ o. (dict_or n o).stored_key) is

pub key_of : (t : Typed) (n : ℕ) (m : Mapping) → mapping_at (layout t).mappings n ≡ Some m → HasKeys (layout t) t.seen m → KeyOf t n
key_of t n m is h = (m, (is, λ q e other. key_type (layout t) t.seen m h q (ap (λ (u : LlType). if is_plain_type u then type.Signed else u) h.typed ∙ sym (stored_is (layout t) n m is) ∙ e) other h.are))

pub dict_is : (t : Typed) (n : ℕ) (m : Mapping) → mapping_at (layout t).mappings n ≡ Some m → (dict_at (layout t) n).dict ≡ n
unfolding dict_at shape_of
dict_is t n m is = ap (λ o. (dict_or n o).dict) is ∙ own_number (layout t).mappings n m is

-- ---- hashes

fields_grow : (ts : List LlType) (found : Found) → Grows found (fields_asked ts found)
fields_grow [] found = same_found found
fields_grow (t ∷ ts) found = then_grows (smalls_grow (small.Keyed (keyed.Hash (key_item t))) found) (fields_grow ts (keyed_number (keyed.Hash (key_item t)) found).1)

item_found : (n i : ℕ) (t : LlType) (h : COperand) (w : Writing) → (item_mixed n i t h w).1.found ≡ (keyed_number (keyed.Hash (key_item t)) w.found).1
unfolding item_mixed hashed by_small
item_found n i t h w = refl

items_found : (n i : ℕ) (ts : List LlType) (made : COperand × Writing) → (items_mixed n i ts made).1.found ≡ fields_asked ts made.1.found
items_found n i [] made = refl
items_found n i (t ∷ ts) made = items_found n (i + 1) ts (item_mixed n i t made.0 made.1) ∙ ap (fields_asked ts) (item_found n i t made.0 made.1)

module _ (t : Typed) (typed : IsTyped t) where
  pub asked_stands : HasAsked t.p t.known (world t) (numbers t) (first t) (last t)
  asked_stands = asked_is_had t.known t.classes (layout t) t.p t.made

  pub keyed_stands : (k : Keyed) (found : Found) → Grows (keyed_number k found).1 (last t) → Stands t.p.graphs (world t) (last t) (keyed_number k found).0 (small.Keyed k)
  keyed_stands k found late = asked_stands.smalls typed.small.graphs (small.Keyed k) found late

  pub plain_stands : (k : Keyed) (found : Found) → Grows (keyed_number k found).1 (last t) → HasKeyed t.p (layout t) k (keyed_number k found).0
  plain_stands k found late = has_keyed t.p t.known (world t) (numbers t) (first t) (last t) asked_stands typed.small.graphs k found late

  text_grows : (u : LlType) (made : Found) → u ≡ type.Ptr 0 → Grows (dict_graph (layout t) (keyed.Hash u) made).1 (last t) → Grows (keyed_number (keyed.Hash type.Signed) made).1 (last t)
  unfolding dict_graph hash_graph of_text
  text_grows u made e late = subst (λ (u : LlType). Grows (dict_graph (layout t) (keyed.Hash u) made).1 (last t)) e late

  tuple_found : (n : ℕ) (made : Found) → (of_tuple (layout t) n made).1 ≡ (keyed_number (keyed.Hash type.Signed) (fields_asked (fields_at (layout t) n) made)).1
  unfolding of_tuple tuple_mixed by_small
  tuple_found n made = ap (λ (f : Found). (keyed_number (keyed.Hash type.Signed) f).1) (items_found n 0 (fields_at (layout t) n) (word (pos 0), _))

  tuple_grows : (u : LlType) (n : ℕ) (made : Found) → u ≡ type.Ptr n → (n == 0) ≡ false → Grows (dict_graph (layout t) (keyed.Hash u) made).1 (last t) → Grows (keyed_number (keyed.Hash type.Signed) (fields_asked (fields_at (layout t) n) made)).1 (last t)
  unfolding dict_graph hash_graph
  tuple_grows u n made e other late =
      subst (λ (f : Found). Grows f (last t)) (tuple_found n made)
      (subst (λ (b : Bool). Grows (if b then of_text made else of_tuple (layout t) n made).1 (last t)) other (subst (λ (u : LlType). Grows (dict_graph (layout t) (keyed.Hash u) made).1 (last t)) e late))

  fields_hashed : (Hashes : LlType → ℕ → Type 0) → ((u : LlType) (found : Found) → Grows (keyed_number (keyed.Hash u) found).1 (last t) → Hashes u (keyed_number (keyed.Hash u) found).0) → (ts : List LlType) (found : Found) → Grows (fields_asked ts found) (last t) → FieldsHashed Hashes ts found
  fields_hashed Hashes one [] found late = tt
  fields_hashed Hashes one (u ∷ ts) found late =
      let next : Found = (keyed_number (keyed.Hash (key_item u)) found).1 in
      (one (key_item u) found (then_grows (fields_grow ts next) late), fields_hashed Hashes one ts next late)

  hashes_to : (k : ℕ) (u : LlType) (found : Found) → Grows (keyed_number (keyed.Hash u) found).1 (last t) → HashesTo k t.p (layout t) u (keyed_number (keyed.Hash u) found).0
  hashes_to zero u found late = tt
  hashes_to (suc k) u found late =
      let s = keyed_stands (keyed.Hash u) found late in
      record {
        made = s.made;
        graph = s.graph;
        words = λ e. plain_stands (keyed.Hash type.Signed) s.made (text_grows u s.made e s.grows);
        fields = λ n e other. fields_hashed (HashesTo k t.p (layout t)) (hashes_to k) (fields_at (layout t) n) s.made (then_grows (smalls_grow (small.Keyed (keyed.Hash type.Signed)) (fields_asked (fields_at (layout t) n) s.made)) (tuple_grows u n s.made e other s.grows));
        mixes = λ n e other. plain_stands (keyed.Hash type.Signed) (fields_asked (fields_at (layout t) n) s.made) (tuple_grows u n s.made e other s.grows);
      }

  pub has_hash : (u : LlType) (found : Found) → Grows (keyed_number (keyed.Hash u) found).1 (last t) → HasHash t.p (layout t) u (keyed_number (keyed.Hash u) found).0
  has_hash u found late k = hashes_to k u found late

  -- ---- looking for a key

  is_key_found : (d : DictShape) (v : ℕ) (types : List LlType) (ops : List LlOp) (made : Found) → (is_key (layout t) d v (test_of types ops made)).1.found ≡ all_asked (equal_asks (layout t) d.stored_key d.stored_key) made
  unfolding is_key
  is_key_found d v types ops made =
      ap (λ (m : COperand × Writing). m.1.found) (equal_is (layout t) d.stored_key d.stored_key (Var v) (Var 1) (test_of types ops made)) ∙ asks_are (layout t) d.stored_key d.stored_key (test_of types ops made)

  find_grows : (n : ℕ) (made : Found) → Grows (dict_graph (layout t) (keyed.Find n) made).1 (last t)
      → Grows (all_asked (equal_asks (layout t) (dict_at (layout t) n).stored_key (dict_at (layout t) n).stored_key) made) (last t)
      × ((dict_at (layout t) n).is_indexed ≡ true → Grows (keyed_number (keyed.Hash (dict_at (layout t) n).stored_key) (compared (layout t) (dict_at (layout t) n) made)).1 (last t))
  unfolding dict_graph find find_by_index find_by_scan
  find_grows n made late = by (dict_at (layout t) n).is_indexed refl late
    where
      d : DictShape
      d = dict_at (layout t) n

      by : (b : Bool) → (dict_at (layout t) n).is_indexed ≡ b → Grows (if b then find_by_index (layout t) (dict_at (layout t) n) made else find_by_scan (layout t) (dict_at (layout t) n) made).1 (last t)
          → Grows (all_asked (equal_asks (layout t) (dict_at (layout t) n).stored_key (dict_at (layout t) n).stored_key) made) (last t)
          × ((dict_at (layout t) n).is_indexed ≡ true → Grows (keyed_number (keyed.Hash (dict_at (layout t) n).stored_key) (compared (layout t) (dict_at (layout t) n) made)).1 (last t))
      by true e late = (
        subst (λ (f : Found). Grows f (last t)) (is_key_found (dict_at (layout t) n) 14 (find_types (dict_at (layout t) n)) (find_reads (dict_at (layout t) n)) made)
            (then_grows (smalls_grow (small.Keyed (keyed.Hash (dict_at (layout t) n).stored_key)) (compared (layout t) (dict_at (layout t) n) made)) late),
        λ i. late,
      )
      by false e late = (
        subst (λ (f : Found). Grows f (last t)) (is_key_found (dict_at (layout t) n) 6 (scan_types (dict_at (layout t) n)) (scan_reads (dict_at (layout t) n)) made) late,
        λ i. absurd (let q : false ≡ true = sym e ∙ i in cc),
      )

  module _ (core : Core) (g : Ghost) (heap : Heap) (memory : Represents (layout t) t.seen g heap core.steps core.blocks core.statics) where
    pub has_find : (n : ℕ) → ((q : ℕ) → (dict_at (layout t) n).stored_key ≡ type.Ptr q → (q == 0) ≡ false → is_tuple (layout t) q ≡ true) → (found : Found) → Grows (keyed_number (keyed.Find n) found).1 (last t)
        → HasFind t.p (layout t) (numbers t) t.seen.exception core n (keyed_number (keyed.Find n) found).0
    has_find n tuples found late =
        let s = keyed_stands (keyed.Find n) found late in
        let grown = find_grows n s.made s.grows in
        record {
          made = s.made;
          graph = s.graph;
          texts = λ e. helper_stands t.known t.classes t.p t.made t.seen typed.small.graphs typed.small.structs typed.small.texts helper.StrEqual s.made refl refl
              (subst (λ (k : LlType). Grows (all_asked (equal_asks (layout t) k k) s.made) (last t)) e grown.0) g heap core memory;
          tuples = λ q e other. (conversions_stand t typed (Make (small.Equal q q) ∷ []) s.made (tt, tt)
              (subst (λ (b : Bool). Grows (all_asked (if b && b then Make (small.Equal q q) ∷ [] else []) s.made) (last t)) (tuples q e other)
              (subst (λ (b : Bool). Grows (all_asked (if b && b then Help helper.StrEqual ∷ [] else if is_tuple (layout t) q && is_tuple (layout t) q then Make (small.Equal q q) ∷ [] else []) s.made) (last t)) other
              (subst (λ (k : LlType). Grows (all_asked (equal_asks (layout t) k k) s.made) (last t)) e grown.0)))
              core g heap core.steps memory refl).0;
          hashes = λ i. has_hash (dict_at (layout t) n).stored_key (compared (layout t) (dict_at (layout t) n) s.made) (grown.1 i);
        }

    -- ---- the place of a key that has to be there

    entry_grows : (n : ℕ) (made : Found) → Grows (dict_graph (layout t) (keyed.Entry n) made).1 (last t) → Grows (small_number (small.Raise 7) (keyed_number (keyed.Find (dict_at (layout t) n).dict) made).1).1 (last t)
    unfolding dict_graph entry failing
    entry_grows n made late = late

    pub has_entry : (n : ℕ) (m : Mapping) → mapping_at (layout t).mappings n ≡ Some m → ((q : ℕ) → (dict_at (layout t) n).stored_key ≡ type.Ptr q → (q == 0) ≡ false → is_tuple (layout t) q ≡ true) → (found : Found) → Grows (keyed_number (keyed.Entry n) found).1 (last t)
        → HasEntry t.p (layout t) (numbers t) t.seen.exception core n (keyed_number (keyed.Entry n) found).0
    has_entry n m is tuples found late =
        let s = keyed_stands (keyed.Entry n) found late in
        let grown = entry_grows n s.made s.grows in
        let finding : Found = (keyed_number (keyed.Find (dict_at (layout t) n).dict) s.made).1 in
        let own : (dict_at (layout t) n).dict ≡ n = dict_is t n m is in
        record {
          made = s.made;
          graph = s.graph;
          finds = subst (λ (k : ℕ). HasFind t.p (layout t) (numbers t) t.seen.exception core n (keyed_number (keyed.Find k) s.made).0) (sym own)
              (has_find n tuples s.made (subst (λ (k : ℕ). Grows (keyed_number (keyed.Find k) s.made).1 (last t)) own (then_grows (smalls_grow (small.Raise 7) finding) grown)));
          raises = subst (λ (raised : ℕ → Value). AllRaise t.p raised (7 ∷ []) (keyed_number (keyed.Find (dict_at (layout t) n).dict) s.made).1) (λ i class. (sym (typed.classes.is_of.exception class)) i)
              (one_raises t.p (world t) (last t) 7 (small_number (small.Raise 7) finding).0 (asked_stands.smalls typed.small.graphs (small.Raise 7) finding grown), tt);
        }

    -- ---- the value of a key, or another

    get_late : (n : ℕ) (kind : LlType) (made : Found) → Grows (dict_graph (layout t) (keyed.Get n kind) made).1 (last t) → Grows (keyed_number (keyed.Find (dict_at (layout t) n).dict) (valued (layout t) (dict_at (layout t) n) kind made)).1 (last t)
    unfolding dict_graph get
    get_late n kind made late = late

    value_first : (n : ℕ) (kind : LlType) (made : Found) → Grows (keyed_number (keyed.Value (dict_at (layout t) n).dict) made).1 (valued (layout t) (dict_at (layout t) n) kind made)
    unfolding got
    value_first n kind made = value_as_grows (layout t) _ (dict_at (layout t) n).value kind _

    pub has_get : (n : ℕ) (kind : LlType) → KeyOf t n → (found : Found) → Grows (keyed_number (keyed.Get n kind) found).1 (last t) → HasGet t.p (layout t) (numbers t) t.seen.exception core n kind (keyed_number (keyed.Get n kind) found).0
    has_get n kind key found late =
        let s = keyed_stands (keyed.Get n kind) found late in
        let grown = get_late n kind s.made s.grows in
        let reading : Found = valued (layout t) (dict_at (layout t) n) kind s.made in
        let own : (dict_at (layout t) n).dict ≡ n = dict_is t n key.0 key.1.0 in
        record {
          made = s.made;
          graph = s.graph;
          reads = subst (λ (k : ℕ). HasKeyed t.p (layout t) (keyed.Value n) (keyed_number (keyed.Value k) s.made).0) (sym own)
              (plain_stands (keyed.Value n) s.made (subst (λ (k : ℕ). Grows (keyed_number (keyed.Value k) s.made).1 (last t)) own (then_grows (value_first n kind s.made) (then_grows (smalls_grow (small.Keyed (keyed.Find (dict_at (layout t) n).dict)) reading) grown))));
          finds = subst (λ (k : ℕ). HasFind t.p (layout t) (numbers t) t.seen.exception core n (keyed_number (keyed.Find k) reading).0) (sym own) (has_find n key.1.1 reading (subst (λ (k : ℕ). Grows (keyed_number (keyed.Find k) reading).1 (last t)) own grown));
        }

    -- ---- what operations that look into dicts ask for

    pub one_lookup : (a : Ask) (found : Found) → Looks t a → Grows (first t) found → Grows (number_of a found).1 (last t) → lookups.Has t.p (layout t) (numbers t) t.seen.exception core a found
    one_lookup (Make (small.Present u c)) found good early late = (dicts_stand t typed (Make (small.Present u c) ∷ []) found (refl, tt) early late core g heap core.steps memory refl).0
    one_lookup (Make (small.Keyed (keyed.Find n))) found good early late = has_find n good.1.1 found late
    one_lookup (Make (small.Keyed (keyed.Entry n))) found good early late = has_entry n good.0 good.1.0 good.1.1 found late
    one_lookup (Make (small.Keyed (keyed.Value n))) found good early late = plain_stands (keyed.Value n) found late
    one_lookup (Make (small.Keyed (keyed.Get n u))) found good early late = has_get n u good found late
    one_lookup _ found good early late = absurd good

  good_all : (asks : List Ask) (found : Found) → AllLook t asks → AllAsked (λ a f. Looks t a) asks found
  good_all [] found h = tt
  good_all (a ∷ asks) found h = (h.0, good_all asks (number_of a found).1 h.1)

  pub lookups_stand : (asks : List Ask) (found : Found) → AllLook t asks → Grows (first t) found → Grows (all_asked asks found) (last t) → StandsSo (setting t) (of_lookups (world t) t.p (numbers t) t.seen.exception) asks found
  lookups_stand asks found look early late core g heap left memory same =
      all_have (first t) (last t) (λ a f. Looks t a) (lookups.Has t.p (layout t) (numbers t) t.seen.exception core) (one_lookup core g heap (subst (λ (k : ℕ). Represents (layout t) t.seen g heap k core.blocks core.statics) same memory))
      asks found (good_all asks found look) early late
