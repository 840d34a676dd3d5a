-- The graph that makes room for one entry more.
use Rattle.std.proofs.Common.{◌≡◌, ◌<◌, ◌≤◌, ◌⊎◌, inl, inr, ℕ, zero, suc, ◌+◌, ◌-◌, ◌^◌, ◌||◌, Bool, true, false, List, [], ◌∷◌, ◌++◌, length, map, Option, Some, None, ℤ, pos, refl, sym, ap, ◌∙◌, subst, arith, append_assoc, length-append}
use Rattle.std.specs.Prelude.{slice_get, slice_set, slice_index_or, if◌then◌else◌, min, nat_lt}
use Rattle.std.proofs.lemmas.Bool.Decides.{nat_tests}
use Rattle.std.proofs.lemmas.List.{append-nil, length-map}
use Rattle.csub_tree.specs.State.{Value, Unset, Word, Flag, Ptr, Static, Block, Core}
use Rattle.csub_tree.specs.Operation.{is_unset}
use Rattle.csub_tree.specs.declared.tree.COperand.TheVariants.{Var}
use Rattle.ll_code.specs.State.{Frame, Calling, At, Returning}
use Rattle.ll_code.specs.declared.program.LlType.{LlType}
use Rattle.ll_code.specs.declared.program.LlExit.TheVariants as exit
use Rattle.ll_code.specs.declared.program.LlProgram.{LlProgram}
use Rattle.ll_helpers.specs.Words.{word_min}
use Rattle.ll_leads.specs.Path.{Leads}
use Rattle.ll_leads.proofs.Joined.{leads_then, leads_more}
use Rattle.ll_leads.proofs.Ways.{many}
use Rattle.ll_texts.specs.Texts.{found}
use Rattle.ll_texts.proofs.Reading.{below_length}
use Rattle.rpy_tree.specs.Value.{Value as Meant, Mapped, Heap}
use Rattle.rtyper_layout.specs.declared.dicts.Mapping.{Mapping}
use Rattle.rtyper_layout.specs.declared.layout.Layout.{Layout}
use Rattle.rtyper_layout.specs.Dicts.{first, second, keys_last, is_indexed, stored_key, stored_value}
use Rattle.rtyper_layout.specs.Layout.{mapping_at}
use Rattle.rtyper_dict.specs.Growing.{grow_asks, grow_counts, grow_makes, grow_copies, grow_ends, grow_types}
use Rattle.rtyper_dict.specs.Indexing.{enter_graph, index_graph}
use Rattle.rtyper_dict.specs.Parts.{and_call}
use Rattle.dict_laws.specs.Index.{EntersAll, IsRight}
use Rattle.dict_laws.specs.Masks.{place_of, IsLength}
use Rattle.list_laws.proofs.Copying.{AllSet}
use Rattle.list_laws.proofs.Roomed.{all_set}
use Rattle.list_copy_laws.proofs.Between.{the_copy}
use Rattle.object_laws.specs.Dicts.{DictAt, Arrays, Lacks, IsIndex, IsIndexIf, as_item, hash, dict_block, items_block, index_values, keys_of, values_of, in_first, in_second}
use Rattle.object_laws.specs.Done.{HasLayout}
use Rattle.object_laws.specs.Ghost.{Ghost, Grown, Use, Stays, Table, First, Second, DictOf, use_of}
use Rattle.object_laws.specs.Known.{Known}
use Rattle.object_laws.specs.Represents.{Represents, Settled}
use Rattle.object_laws.specs.Values.{EachHolds, Empty as NoneHeld, AreEmpty}
use Rattle.object_laws.proofs.Blocks.{found_set}
use Rattle.object_laws.proofs.Calling.{Returns, back, calls_back}
use Rattle.object_laws.proofs.Changing.{wrote_at, put_block, put_static, get_set_here, uses_apart}
use Rattle.object_laws.proofs.Growing.{grown_none, use_grows, each_grows, get_more}
use Rattle.object_laws.proofs.Made.{get_first, last_one, settled_more, never_settled}
use Rattle.object_laws.proofs.Valued.{each_long}
use Rattle.dict_change_laws.proofs.Changes.{Mine, three_mine, dict_rewritten, not_mine}
use Rattle.dict_change_laws.proofs.Counting.{the_grow, SizesBy, LengthIf, more_places, most_more, places_small, places_grow, new_length, length_is, length_short, enough, counts}
use Rattle.dict_change_laws.proofs.Ending.{FillsBy, nothing_in, nothing_long, nothing_empty, reached, Reached}
use Rattle.dict_change_laws.proofs.Enlarging.{raw, raw_long, enlarged, Enlarged}
use Rattle.dict_change_laws.proofs.Adding.{empty_block}
use Rattle.dict_change_laws.proofs.Entering.{all_long, words_long}
use Rattle.dict_laws.proofs.Entering.{makes_indices}
use Rattle.dict_change_laws.proofs.Indexing.{indexes, zeros, zeros_long}
use Rattle.dict_change_laws.specs.Changed.{AreThere}
use Rattle.dict_change_laws.proofs.Keyed.{Staying, Hashes, items_set, map_long, all_hashed, all_below}
use Rattle.dict_laws.proofs.Masked.{masks_lead}
use Rattle.dict_change_laws.proofs.Putting.{put, array_of}
use Rattle.dict_change_laws.proofs.Rewriting.{Have, Three, have_second}
use Rattle.dict_change_laws.proofs.Standing.{the_shape, all_keys, all_values, keys_count, values_count, total_small, both_long, no_more}

-- ---- the graphs that it calls

-- the graph that makes an index anew, where there is one
abbrev pub IndexesBy : LlProgram → List (List ℕ) → Layout → Known → Mapping → Bool → Option ℕ → Type 0
IndexesBy p args layout known m true (Some x) = (e : ℕ) × ((h : ℕ) × ((slice_get p.graphs x ≡ Some (index_graph e (the_shape m))) × ((slice_get p.graphs e ≡ Some (enter_graph h (the_shape m))) × Hashes p args layout known m h)))
IndexesBy p args layout known m true None = ⊥
IndexesBy p args layout known m false o = o ≡ None

pub record GrowsBy (p : LlProgram) (args : List (List ℕ)) (layout : Layout) (known : Known) (m : Mapping) (f : ℕ) : Type 0 where
  pub least : ℕ
  pub sizes : Option ℕ
  pub copies : ℕ
  pub copies2 : ℕ
  pub fills : Option ℕ
  pub fills2 : Option ℕ
  pub indexer : Option ℕ
  pub t1 : LlType
  pub t2 : LlType
  pub graph : slice_get p.graphs f ≡ Some (the_grow least sizes copies copies2 fills fills2 indexer (the_shape m))
  pub least_is : slice_get p.graphs least ≡ Some word_min
  pub sizing : SizesBy p (is_indexed m) sizes
  pub copying : slice_get p.graphs copies ≡ Some (the_copy (first m) (first m) t1)
  pub copying2 : slice_get p.graphs copies2 ≡ Some (the_copy (second m) (second m) t2)
  pub filling : FillsBy p (first m) fills
  pub filling2 : FillsBy p (second m) fills2
  pub indexing : IndexesBy p args layout known m (is_indexed m) indexer

-- ---- the dict before

-- its keys and values, and where they stand
record Old (layout : Layout) (known : Known) (g : Ghost) (m : Mapping) (core : Core) (pairs : List (Meant × Meant)) (places : ℕ) (one two : Value) : Type 0 where
  keys : List Value
  values : List Value
  words : List ℕ
  each_key : EachHolds layout known g (known.keys m.dict) keys (keys_of pairs)
  each_value : EachHolds layout known g (known.items m.dict) values (values_of pairs)
  keys_long : length keys ≡ places
  values_long : length values ≡ places
  source : (places ≡ 0) ⊎ ((found core.blocks core.statics one ≡ Some (items_block (first m) (in_first m (map (as_item m.key (stored_key m)) keys) (map (as_item m.value (stored_value m)) values))))
      × ((found core.blocks core.statics two ≡ Some (items_block (second m) (index_values words ++ in_second m (map (as_item m.key (stored_key m)) keys) (map (as_item m.value (stored_value m)) values)))) × (length words + places < 2 ^ 63)))

none_there : (xs : List Value) → length xs ≡ 0 → xs ≡ []
none_there [] h = refl
none_there (x ∷ xs) h = absurd (omega (arith, h))

old_of : {layout : Layout} {known : Known} {g : Ghost} {m : Mapping} (i : ℕ) (core : Core) (pairs : List (Meant × Meant)) (places : ℕ) (one two : Value) → places ≤ length pairs → places < 2 ^ 62
    → Lacks layout known g core.blocks core.statics m i pairs places one two ⊎ Arrays layout known g core.blocks core.statics m i pairs places one two → Old layout known g m core pairs places one two
old_of {layout = layout} {known = known} {g = g} {m = m} i core pairs places one two full few (inl a) = record {
  keys = [];
  values = [];
  words = [];
  each_key = subst (λ ps. EachHolds layout known g (known.keys m.dict) [] (keys_of ps)) (sym a.empty) NoneHeld;
  each_value = subst (λ ps. EachHolds layout known g (known.items m.dict) [] (values_of ps)) (sym a.empty) NoneHeld;
  keys_long = sym a.no_places;
  values_long = sym a.no_places;
  source = inl a.no_places;
}
old_of {layout = layout} {known = known} {g = g} {m = m} i core pairs places one two full few (inr a) = record {
  keys = a.keys;
  values = a.values;
  words = a.index;
  each_key = a.each_key;
  each_value = a.each_value;
  keys_long = (let k = keys_count a in let n = no_more a in omega (arith, k, n, full));
  values_long = (let k = values_count a in let n = no_more a in omega (arith, k, n, full));
  source = inr (
    a.first_is ∙ ap Some (ap (items_block (first m)) (ap (λ ks. in_first m ks (all_values a)) keys_are ∙ ap (in_first m (map (as_item m.key (stored_key m)) a.keys)) values_are)),
    (a.second_is ∙ ap (λ l. Some (items_block (second m) (index_values a.index ++ l))) (ap (λ ks. in_second m ks (all_values a)) keys_are ∙ ap (in_second m (map (as_item m.key (stored_key m)) a.keys)) values_are), total_small a few),
  );
}
  where
    keys_are : all_keys a ≡ map (as_item m.key (stored_key m)) a.keys
    keys_are = ap (λ l. map (as_item m.key (stored_key m)) a.keys ++ l) (none_there a.spare_keys (let k = keys_count a in let h = a.key_places in omega (arith, k, h, full))) ∙ append-nil (map (as_item m.key (stored_key m)) a.keys)

    values_are : all_values a ≡ map (as_item m.value (stored_value m)) a.values
    values_are = ap (λ l. map (as_item m.value (stored_value m)) a.values ++ l) (none_there a.spare_values (let k = values_count a in let h = a.value_places in omega (arith, k, h, full))) ∙ append-nil (map (as_item m.value (stored_value m)) a.values)

-- ---- lists

set_either : (c : Bool) (xs ys : List Value) → AllSet xs → AllSet ys → AllSet (if c then xs else ys)
set_either true xs ys h k = h
set_either false xs ys h k = k

empty_either : (c : Bool) (xs ys : List Value) → AreEmpty xs → AreEmpty ys → AreEmpty (if c then xs else ys)
empty_either true xs ys h k = h
empty_either false xs ys h k = k

-- what stands behind in each array
first_behind : (c : Bool) (keys values one two : List Value) → (if c then values else keys) ++ one ≡ (if c then values ++ (if c then one else two) else keys ++ (if c then two else one))
first_behind true keys values one two = refl
first_behind false keys values one two = refl

second_behind : (c : Bool) (keys values one two : List Value) → (if c then keys else values) ++ two ≡ (if c then keys ++ (if c then two else one) else values ++ (if c then one else two))
second_behind true keys values one two = refl
second_behind false keys values one two = refl

set_same : {A : Type 0} (xs : List A) (i : ℕ) (x : A) → slice_get xs i ≡ Some x → slice_set xs i x ≡ xs
set_same [] i x h = refl
set_same (y ∷ xs) zero x h = (let q : y ≡ x = cc in ap (λ y. y ∷ xs) (sym q))
set_same (y ∷ xs) (suc i) x h = ap (λ l. y ∷ l) (set_same xs i x h)

index_same : (bs more : List (Option Block)) (n : ℕ) → n < length bs → slice_index_or (bs ++ more) n None ≡ slice_index_or bs n None
index_same [] more n h = absurd (omega (arith, h))
index_same (b ∷ bs) more zero h = refl
index_same (b ∷ bs) more (suc n) h = index_same bs more n (omega (arith, h))

-- what has a use is no block that is made later
found_same : (g : Ghost) (bs more : List (Option Block)) (statics : List Block) (x : Value) (u : Use) → length g.blocks ≡ length bs → use_of g x ≡ Some u → found (bs ++ more) statics x ≡ found bs statics x
found_same g bs more statics (Ptr n) u same h = index_same bs more n (let l = below_length g.blocks n u h in omega (arith, l, same))
found_same g bs more statics (Static s) u same h = refl
found_same g bs more statics _ u same h = absurd (cc)

-- ---- memory with room

-- the same dicts, and this one has a free place
pub record Roomy (layout : Layout) (known : Known) (g : Ghost) (heap : Heap) (left : ℕ) (blocks : List (Option Block)) (statics : List Block) (m : Mapping) (i : ℕ) (head : Value) (pairs : List (Meant × Meant)) : Type 0 where
  pub stands : Represents layout known g heap left blocks statics
  pub dict : DictAt layout known g heap blocks statics m i head
  pub arrays : Arrays layout known g blocks statics m i dict.pairs dict.places dict.one dict.two
  pub same : dict.pairs ≡ pairs
  pub room : length dict.pairs < dict.places

pub record Roomed (p : LlProgram) (args : List (List ℕ)) (layout : Layout) (known : Known) (g : Ghost) (heap : Heap) (left : ℕ) (m : Mapping) (i : ℕ) (head : Value) (pairs : List (Meant × Meant)) (f : ℕ) (core : Core) : Type 0 where
  pub blocks : List (Option Block)
  pub statics : List Block
  pub ghost : Ghost
  pub grown : Grown g ghost
  pub homes : ghost.homes ≡ g.homes
  pub roomy : Roomy layout known ghost heap left blocks statics m i head pairs
  pub few : length blocks ≤ length core.blocks + 2
  pub returns : (waits : List Frame) → Returns p args (length pairs + length pairs + 2) (Calling f (head ∷ []) waits core) Unset waits (record core { blocks = blocks; statics = statics })

module _ (p : LlProgram) (args : List (List ℕ)) (layout : Layout) (known : Known) (structs : HasLayout p layout) (n : ℕ) (m : Mapping) (mapping : mapping_at layout.mappings n ≡ Some m) (f : ℕ) (by : GrowsBy p args layout known m f)
    (g : Ghost) (heap : Heap) (left : ℕ) (core : Core) (r : Represents layout known g heap left core.blocks core.statics) (i : ℕ) (head : Value) (home : slice_get g.homes i ≡ Some (record { sort = DictOf n; head = head })) (l : DictAt layout known g heap core.blocks core.statics m i head) (there : is_indexed m ≡ true → AreThere (keys_of l.pairs)) where
  abbrev count : ℕ
  count = length l.pairs

  -- ---- where a place is free

  arrays_of : count < l.places → Lacks layout known g core.blocks core.statics m i l.pairs l.places l.one l.two ⊎ Arrays layout known g core.blocks core.statics m i l.pairs l.places l.one l.two → Arrays layout known g core.blocks core.statics m i l.pairs l.places l.one l.two
  arrays_of room (inl a) = absurd (let z = a.no_places in omega (arith, z, room))
  arrays_of room (inr a) = a

  free : count < l.places → Roomed p args layout known g heap left m i head l.pairs f core
  free room = record {
    blocks = core.blocks;
    statics = core.statics;
    ghost = g;
    grown = grown_none;
    homes = refl;
    roomy = record { stands = r; dict = l; arrays = arrays_of room l.arrays; same = refl; room = room };
    few = omega arith;
    returns = λ waits. (let it = enough p args (the_shape m) f by.least by.sizes by.copies by.copies2 by.fills by.fills2 by.indexer by.graph by.least_is (is_indexed m) by.sizing (structs.dicts n m mapping).head core head l.one l.two count l.places l.head_is waits room in record {
      end = it.end;
      same = it.same;
      leads = leads_more 0 (count + count + 2) (omega arith) it.leads;
    });
  }

  -- ---- where none is

  module _ (full : l.places ≤ count) (few_places : l.places + 1 < 2 ^ 62) where
    old : Old layout known g m core l.pairs l.places l.one l.two
    old = old_of i core l.pairs l.places l.one l.two full l.few l.arrays

    abbrev keys1 : List Value
    keys1 = map (as_item m.key (stored_key m)) old.keys

    abbrev values1 : List Value
    values1 = map (as_item m.value (stored_value m)) old.values

    abbrev firsts : List Value
    firsts = in_first m keys1 values1

    abbrev seconds : List Value
    seconds = in_second m keys1 values1

    keys1_long : length keys1 ≡ l.places
    keys1_long = map_long (as_item m.key (stored_key m)) old.keys ∙ old.keys_long

    values1_long : length values1 ≡ l.places
    values1_long = map_long (as_item m.value (stored_value m)) old.values ∙ old.values_long

    keys1_set : AllSet keys1
    keys1_set = items_set m.key (stored_key m) old.keys (all_set r old.each_key)

    values1_set : AllSet values1
    values1_set = items_set m.value (stored_value m) old.values (all_set r old.each_value)

    count_is : count ≡ l.places
    count_is = sym (sym old.keys_long ∙ each_long old.each_key ∙ length-map l.pairs (λ (q : Meant × Meant). q.0))

    abbrev places2 : ℕ
    places2 = more_places l.places

    small2 : places2 < 2 ^ 62
    small2 = places_small l.places

    grows : l.places < places2
    grows = places_grow l.places few_places

    abbrev size : ℕ
    size = new_length (is_indexed m) places2 (places_small l.places)

    short : size ≤ 2 ^ 62
    short = length_short (is_indexed m) places2 (places_small l.places)

    abbrev spare : ℕ
    spare = places2 - l.places

    abbrev total : ℕ
    total = size + places2

    abbrev first0 : Block
    first0 = array_of (first m) (Word (pos places2) ∷ []) (raw places2)

    abbrev second0 : Block
    second0 = array_of (second m) (Word (pos total) ∷ []) (raw total)

    abbrev bs0 : List (Option Block)
    bs0 = core.blocks ++ Some first0 ∷ []

    abbrev bs1 : List (Option Block)
    bs1 = bs0 ++ Some second0 ∷ []

    abbrev new1 : Value
    new1 = Ptr (length core.blocks)

    abbrev new2 : Value
    new2 = Ptr (length bs0)

    abbrev uses0 : List Use
    uses0 = g.blocks ++ First i ∷ []

    abbrev ghost : Ghost
    ghost = record { blocks = uses0 ++ Second i ∷ []; statics = g.statics; homes = g.homes }

    uses_long : length uses0 ≡ length bs0
    uses_long = length-append g.blocks (First i ∷ []) ∙ ap (λ k. k + 1) r.made ∙ sym (length-append core.blocks (Some first0 ∷ []))

    made_long : length ghost.blocks ≡ length bs1
    made_long = length-append uses0 (Second i ∷ []) ∙ ap (λ k. k + 1) uses_long ∙ sym (length-append bs0 (Some second0 ∷ []))

    ghost_grown : Grown g ghost
    ghost_grown = record { uses = First i ∷ Second i ∷ []; objects = []; blocks = append_assoc g.blocks (First i ∷ []) (Second i ∷ []); statics = refl; homes = sym (append-nil g.homes) }

    first_use : use_of ghost new1 ≡ Some (First i)
    first_use = get_more uses0 (Second i ∷ []) (length core.blocks) (First i) (get_first g.blocks [] (First i) (length core.blocks) (sym r.made))

    second_use : use_of ghost new2 ≡ Some (Second i)
    second_use = get_first uses0 [] (Second i) (length bs0) (sym uses_long)

    head_use : use_of ghost head ≡ Some (Table i)
    head_use = use_grows ghost_grown head _ l.head_use

    three : Three (Mine ghost i) head new1 new2
    three = three_mine ghost i head new1 new2 head_use first_use second_use

    kept_stays : (x : Value) (block : Block) → use_of ghost x ≡ Some (Stays block) → use_of g x ≡ Some (Stays block)
    kept_stays (Ptr b) block h = by_last (last_one uses0 (Second i) b (Stays block) h)
      where
        by_first : (slice_get g.blocks b ≡ Some (Stays block)) ⊎ ((b ≡ length g.blocks) × (Stays block ≡ First i)) → slice_get g.blocks b ≡ Some (Stays block)
        by_first (inl k) = k
        by_first (inr k) = (let q = k.1 in absurd (cc))

        by_last : (slice_get uses0 b ≡ Some (Stays block)) ⊎ ((b ≡ length uses0) × (Stays block ≡ Second i)) → slice_get g.blocks b ≡ Some (Stays block)
        by_last (inl k) = by_first (last_one g.blocks (First i) b (Stays block) k)
        by_last (inr k) = (let q = k.1 in absurd (cc))
    kept_stays (Static s) block h = h
    kept_stays _ block h = absurd (cc)

    before : (x : Value) (u : Use) → use_of g x ≡ Some u → found bs1 core.statics x ≡ found core.blocks core.statics x
    before x u h = ap (λ bs. found bs core.statics x) (append_assoc core.blocks (Some first0 ∷ []) (Some second0 ∷ [])) ∙ found_same g core.blocks (Some first0 ∷ Some second0 ∷ []) core.statics x u r.made h

    settled1 : Settled layout ghost bs1 core.statics
    settled1 = settled_more layout uses0 g.statics g.homes g.homes bs0 core.statics (Second i) second0 uses_long
        (settled_more layout g.blocks g.statics g.homes g.homes core.blocks core.statics (First i) first0 r.made r.settled (never_settled layout (First i) first0 (structs.dicts_apart n m mapping).1))
        (never_settled layout (Second i) second0 (structs.dicts_apart n m mapping).2)

    -- ---- what is made

    larger : Enlarged p args (the_shape m) f by.least by.sizes by.copies by.copies2 by.fills by.fills2 by.indexer by.graph by.t1 by.t2 by.copying by.copying2 (structs.dicts n m mapping).head (structs.dicts n m mapping).first (structs.dicts n m mapping).second (Mine ghost i) core head l.one l.two count l.places l.head_is firsts seconds
        (set_either (keys_last m) values1 keys1 values1_set keys1_set) (set_either (keys_last m) keys1 values1 keys1_set values1_set) (both_long (keys_last m) values1 keys1 l.places values1_long keys1_long) (both_long (keys_last m) keys1 values1 l.places keys1_long values1_long) old.words places2 size grows small2 short
        (Word (pos count)) (Word (pos (min l.places most_more + 4))) (Word (pos (min l.places most_more + 4 + l.places)))
    larger = enlarged p args (the_shape m) f by.least by.sizes by.copies by.copies2 by.fills by.fills2 by.indexer by.graph by.t1 by.t2 by.copying by.copying2 (structs.dicts n m mapping).head (structs.dicts n m mapping).first (structs.dicts n m mapping).second (Mine ghost i) core head l.one l.two count l.places l.head_is firsts seconds
        (set_either (keys_last m) values1 keys1 values1_set keys1_set) (set_either (keys_last m) keys1 values1 keys1_set values1_set) (both_long (keys_last m) values1 keys1 l.places values1_long keys1_long) (both_long (keys_last m) keys1 values1 l.places keys1_long values1_long) old.words places2 size grows small2 short
        three old.source (Word (pos count)) (Word (pos (min l.places most_more + 4))) (Word (pos (min l.places most_more + 4 + l.places)))

    pieces : places2 ≡ l.places + spare
    pieces = omega (arith, grows)

    abbrev nothing1 : List Value
    nothing1 = nothing_in p (first m) by.fills by.filling spare

    abbrev nothing2 : List Value
    nothing2 = nothing_in p (second m) by.fills2 by.filling2 spare

    abbrev head2 : Block
    head2 = dict_block m.dict count places2 new1 new2

    abbrev first1 : List Value → Block
    first1 xs = array_of (first m) (Word (pos places2) ∷ []) xs

    abbrev second1 : List Value → Block
    second1 xs = array_of (second m) (Word (pos total) ∷ []) xs

    ends : Reached p args (the_shape m) by.fills by.fills2 by.filling by.filling2 (structs.dicts n m mapping).head (structs.dicts n m mapping).first (structs.dicts n m mapping).second (Mine ghost i) core f head l.one l.two new1 new2 three count l.places places2 size spare pieces small2 short bs1 firsts seconds (both_long (keys_last m) values1 keys1 l.places values1_long keys1_long) (both_long (keys_last m) keys1 values1 l.places keys1_long values1_long) (Word (pos count)) larger.v3 (Word (pos (min l.places most_more + 4))) larger.v10 larger.v11 larger.v12 (Word (pos (min l.places most_more + 4 + l.places))) 2 0 larger.blocks larger.statics larger.v13 (grow_ends by.fills by.fills2 by.indexer (the_shape m)).ops (and_call by.indexer (Var 0 ∷ []) []) head2 (first1 (firsts ++ nothing1)) (second1 (raw size ++ (seconds ++ nothing2)))
    ends = reached p args (the_shape m) by.fills by.fills2 by.filling by.filling2 (structs.dicts n m mapping).head (structs.dicts n m mapping).first (structs.dicts n m mapping).second (Mine ghost i) core f head l.one l.two new1 new2 three count l.places places2 size spare pieces small2 short bs1 firsts seconds (both_long (keys_last m) values1 keys1 l.places values1_long keys1_long) (both_long (keys_last m) keys1 values1 l.places keys1_long values1_long) (Word (pos count)) larger.v3 (Word (pos (min l.places most_more + 4))) larger.v10 larger.v11 larger.v12 (Word (pos (min l.places most_more + 4 + l.places))) by.indexer larger.blocks larger.statics larger.v13 larger.have

    -- ---- the arrays

    abbrev spare_keys : List Value
    spare_keys = if keys_last m then nothing2 else nothing1

    abbrev spare_values : List Value
    spare_values = if keys_last m then nothing1 else nothing2

    abbrev keys2 : List Value
    keys2 = keys1 ++ spare_keys

    abbrev values2 : List Value
    values2 = values1 ++ spare_values

    nothing1_long : length nothing1 ≡ spare
    nothing1_long = nothing_long p (first m) by.fills by.filling spare

    nothing2_long : length nothing2 ≡ spare
    nothing2_long = nothing_long p (second m) by.fills2 by.filling2 spare

    keys2_long : length keys2 ≡ places2
    keys2_long = (let a = length-append keys1 spare_keys in let b = both_long (keys_last m) nothing2 nothing1 spare nothing2_long nothing1_long in omega (arith, a, b, keys1_long, pieces))

    values2_long : length values2 ≡ places2
    values2_long = (let a = length-append values1 spare_values in let b = both_long (keys_last m) nothing1 nothing2 spare nothing1_long nothing2_long in omega (arith, a, b, values1_long, pieces))

    abbrev second_of : List ℕ → Block
    second_of words = second1 (index_values words ++ in_second m keys2 values2)

    have2 : Have (Mine ghost i) head new1 new2 bs1 core.statics ends.blocks ends.statics head2 (first1 (in_first m keys2 values2)) (second1 (raw size ++ in_second m keys2 values2))
    have2 = subst (λ items. Have (Mine ghost i) head new1 new2 bs1 core.statics ends.blocks ends.statics head2 (first1 items) (second1 (raw size ++ in_second m keys2 values2))) (first_behind (keys_last m) keys1 values1 nothing1 nothing2)
        (subst (λ items. Have (Mine ghost i) head new1 new2 bs1 core.statics ends.blocks ends.statics head2 (first1 (firsts ++ nothing1)) (second1 (raw size ++ items))) (second_behind (keys_last m) keys1 values1 nothing1 nothing2) ends.have)

    -- ---- the index

    abbrev later : Core
    later = record core { function = f; block = 5; at = ends.n2; vars = head ∷ Word (pos count) ∷ Word (pos l.places) ∷ larger.v3 ∷ Word (pos (min l.places most_more + 4)) ∷ Word (pos places2) ∷ Word (pos size) ∷ Word (pos total) ∷ new1 ∷ new2 ∷ larger.v10 ∷ larger.v11 ∷ larger.v12 ∷ Word (pos (size + l.places)) ∷ Word (pos (min l.places most_more + 4 + l.places)) ∷ []; blocks = ends.blocks; statics = ends.statics }

    head_set : is_unset head ≡ false
    head_set = found_set core.blocks core.statics head _ l.head_is

    total_fits : total < 2 ^ 63
    total_fits = omega (arith, small2, short)

    record Ended : Type 0 where
      blocks : List (Option Block)
      statics : List Block
      words : List ℕ
      have : Have (Mine ghost i) head new1 new2 bs1 core.statics blocks statics head2 (first1 (in_first m keys2 values2)) (second_of words)
      long : length words ≡ size
      indexed : IsIndexIf (is_indexed m) (map (hash layout m.key) (keys_of l.pairs)) places2 words
      returns : (waits : List Frame) → Returns p args 0 (At (and_call by.indexer (Var 0 ∷ []) []) (exit.Return None) waits later) Unset waits (record core { blocks = blocks; statics = statics })

    without : is_indexed m ≡ false → by.indexer ≡ None → Ended
    unfolding and_call grow_asks grow_counts grow_makes grow_copies grow_ends grow_types
    without none e = record {
      blocks = ends.blocks;
      statics = ends.statics;
      words = [];
      have = subst (λ n. Have (Mine ghost i) head new1 new2 bs1 core.statics ends.blocks ends.statics head2 (first1 (in_first m keys2 values2)) (second1 (raw n ++ in_second m keys2 values2))) no_size have2;
      long = sym no_size;
      indexed = subst (λ c. IsIndexIf c (map (hash layout m.key) (keys_of l.pairs)) places2 []) (sym none) refl;
      returns = λ waits. record {
        end = _;
        same = refl;
        leads = subst (λ o. Leads p args 0 (At (and_call o (Var 0 ∷ []) []) (exit.Return None) waits later) [] (Returning Unset waits later)) (sym e) (many 1 by.graph refl refl);
      };
    }
      where
        no_size : size ≡ 0
        no_size = subst (λ c. LengthIf c places2 size) none (length_is (is_indexed m) places2 (places_small l.places))

    -- it is made anew
    module _ (some : is_indexed m ≡ true) (x : ℕ) (is_indexer : by.indexer ≡ Some x) (e h : ℕ) (index_is : slice_get p.graphs x ≡ Some (index_graph e (the_shape m))) (enter_is : slice_get p.graphs e ≡ Some (enter_graph h (the_shape m))) (hashes : Hashes p args layout known m h) where
      length_so : IsLength places2 size
      length_so = subst (λ c. LengthIf c places2 size) some (length_is (is_indexed m) places2 (places_small l.places))

      abbrev bits : ℕ
      bits = length_so.bits

      abbrev zs : List ℤ
      zs = map (hash layout m.key) (keys_of l.pairs)

      abbrev starts : List ℕ
      starts = map (place_of bits) zs

      zs_long : length zs ≡ count
      zs_long = map_long (hash layout m.key) (keys_of l.pairs) ∙ length-map l.pairs (λ (q : Meant × Meant). q.0)

      starts_long : length starts ≡ count
      starts_long = map_long (place_of bits) zs ∙ zs_long

      abbrev EntersThem : Type 0
      EntersThem = (words : List ℕ) × EntersAll (zeros (2 ^ bits)) 0 starts words

      both_so : EntersThem × ((words : List ℕ) → EntersAll (zeros (2 ^ bits)) 0 starts words → IsRight words starts)
      both_so = makes_indices (2 ^ bits) starts (all_below masks_lead bits length_so.few zs) (let q = length_so.longer in let s = length_so.is in let t = starts_long in let c = count_is in omega (arith, q, s, t, c, grows))

      abbrev words2 : List ℕ
      words2 = both_so.0.0

      words_same : length words2 ≡ size
      words_same = all_long (zeros (2 ^ bits)) 0 starts words2 both_so.0.1 ∙ zeros_long (2 ^ bits) ∙ sym length_so.is

      indexed2 : IsIndex zs places2 words2
      indexed2 = record { long = record { bits = bits; few = length_so.few; is = words_same ∙ length_so.is; longer = (let q = length_so.longer in let w = words_same in omega (arith, q, w)) }; right = both_so.1 words2 both_so.0.1 }

      fine : (c : Core) (olds news : List Value) → found c.blocks c.statics new2 ≡ Some (array_of (second m) (Word (pos total) ∷ []) olds) → Staying ghost c.blocks c.statics → Staying ghost (put_block new2 (array_of (second m) (Word (pos total) ∷ []) news) c.blocks) (put_static new2 (array_of (second m) (Word (pos total) ∷ []) news) c.statics)
      fine c olds news is stays x block used = (wrote_at c.blocks c.statics new2 (array_of (second m) (Word (pos total) ∷ []) olds) (array_of (second m) (Word (pos total) ∷ []) news) is).others x (uses_apart ghost x new2 (Stays block) (Second i) used second_use (λ q. absurd (cc))) ∙ stays x block used

      stays_now : Staying ghost ends.blocks ends.statics
      stays_now x block used = have2.rewrote.others x (not_mine ghost i x (Stays block) used (λ e. e)) ∙ before x (Stays block) (kept_stays x block used) ∙ r.stays x block (kept_stays x block used)

      first_set : (c : Bool) → is_unset (if c then Word (pos 0) else new1) ≡ false
      first_set true = refl
      first_set false = refl

      keys_counted : count ≡ length keys1
      keys_counted = count_is ∙ sym keys1_long

      calls : (waits : List Frame) → Returns p args 0 (Calling x (head ∷ []) waits later) Unset waits (put later new2 (second_of words2))
      calls waits = indexes p args (the_shape m) e h (structs.dicts n m mapping).head (structs.dicts n m mapping).first (structs.dicts n m mapping).second enter_is masks_lead (Staying ghost) head new1 new2 count places2 bits length_so.few keys2 values2
          (let q = keys2_long in let t = total_fits in let s = length_so.is in omega (arith, q, t, s)) (let q = keys2_long in let c = count_is in omega (arith, q, c, grows)) (Word (pos places2) ∷ []) total fine (first_set (keys_last m)) three.first_second three.head_second (let c = count_is in omega (arith, c, few_places))
          (let s = length_so.is in omega (arith, s)) total_fits (let q = length_so.longer in let s = length_so.is in omega (arith, q, s)) x index_is keys1 zs (all_hashed p args layout known ghost m h hashes (each_grows ghost_grown old.each_key) (all_set r old.each_key) (there some)) spare_keys refl keys_counted words2 both_so.0.1
          (raw size) later (raw_long size ∙ length_so.is) stays_now have2.head_is have2.first_is have2.second_is waits

      within : Ended
      unfolding and_call grow_asks grow_counts grow_makes grow_copies grow_ends grow_types
      within = record {
        blocks = put_block new2 (second_of words2) ends.blocks;
        statics = put_static new2 (second_of words2) ends.statics;
        words = words2;
        have = have_second three have2 refl (wrote_at ends.blocks ends.statics new2 (second1 (raw size ++ in_second m keys2 values2)) (second_of words2) have2.second_is);
        long = words_same;
        indexed = subst (λ c. IsIndexIf c (map (hash layout m.key) (keys_of l.pairs)) places2 words2) (sym some) indexed2;
        returns = λ waits. record {
          end = _;
          same = refl;
          leads = subst (λ o. Leads p args 0 (At (and_call o (Var 0 ∷ []) []) (exit.Return None) waits later) [] (Returning Unset waits (back later (put later new2 (second_of words2)) None Unset))) (sym is_indexer)
              (leads_more (0 + 0) 0 (omega arith) (leads_then (calls_back {core = later} 0 refl (ap (λ b. b || false) head_set) calls) (many 1 by.graph refl refl)));
        };
      }

    ended : Ended
    ended = choose (is_indexed m) refl by.indexer refl by.indexing
      where
        choose : (c : Bool) → is_indexed m ≡ c → (o : Option ℕ) → by.indexer ≡ o → IndexesBy p args layout known m c o → Ended
        choose true q (Some x) is it = within q x is it.0 it.1.0 it.1.1.0 it.1.1.1.0 it.1.1.1.1
        choose true q None is it = absurd it
        choose false q o is it = without q (is ∙ it)

    -- ---- the dict

    arrays2 : Arrays layout known ghost ended.blocks ended.statics m i l.pairs places2 new1 new2
    arrays2 = record {
      keys = old.keys;
      values = old.values;
      spare_keys = spare_keys;
      spare_values = spare_values;
      index = ended.words;
      first_use = first_use;
      second_use = second_use;
      first_is = ended.have.first_is ∙ ap Some (empty_block (first m) places2 (in_first m keys2 values2) (sym (both_long (keys_last m) values2 keys2 places2 values2_long keys2_long)));
      second_is = ended.have.second_is ∙ ap Some (empty_block (second m) total (index_values ended.words ++ in_second m keys2 values2) (sym (words_long ended.words (in_second m keys2 values2) ∙ ap (λ n. n + length (in_second m keys2 values2)) ended.long ∙ ap (λ n. size + n) (both_long (keys_last m) keys2 values2 places2 keys2_long values2_long))));
      each_key = each_grows ghost_grown old.each_key;
      each_value = each_grows ghost_grown old.each_value;
      no_keys = empty_either (keys_last m) nothing2 nothing1 (nothing_empty p (second m) by.fills2 by.filling2 spare) (nothing_empty p (first m) by.fills by.filling spare);
      no_values = empty_either (keys_last m) nothing1 nothing2 (nothing_empty p (first m) by.fills by.filling spare) (nothing_empty p (second m) by.fills2 by.filling2 spare);
      key_places = (let b = both_long (keys_last m) nothing2 nothing1 spare nothing2_long nothing1_long in let q = old.keys_long in omega (arith, b, q, pieces));
      value_places = (let b = both_long (keys_last m) nothing1 nothing2 spare nothing1_long nothing2_long in let q = old.values_long in omega (arith, b, q, pieces));
      indexed = ended.indexed;
    }

    changed : DictAt layout known ghost (slice_set heap i (Mapped l.pairs)) ended.blocks ended.statics m i head
    changed = record {
      pairs = l.pairs;
      object = get_set_here heap i (Mapped l.pairs) (Mapped l.pairs) l.object;
      places = places2;
      one = new1;
      two = new2;
      head_use = head_use;
      head_is = ended.have.head_is;
      arrays = inr arrays2;
      apart = l.apart;
      few = small2;
    }

    roomy : Roomy layout known ghost heap left ended.blocks ended.statics m i head l.pairs
    unfolding changed
    roomy = subst (λ hp. Roomy layout known ghost hp left ended.blocks ended.statics m i head l.pairs) (set_same heap i (Mapped l.pairs) l.object) (record {
      stands = dict_rewritten n i head m l.pairs r ghost_grown refl home mapping made_long kept_stays before settled1 (λ x u h. use_grows ghost_grown x u h) ended.have.rewrote changed;
      dict = changed;
      arrays = arrays2;
      same = refl;
      room = (let c = count_is in omega (arith, c, grows));
    })

    grown_so : Roomed p args layout known g heap left m i head l.pairs f core
    unfolding grow_ends
    grown_so = record {
      blocks = ended.blocks;
      statics = ended.statics;
      ghost = ghost;
      grown = ghost_grown;
      homes = refl;
      roomy = roomy;
      few = (let q = ended.have.rewrote.made in let a = length-append bs0 (Some second0 ∷ []) in let b = length-append core.blocks (Some first0 ∷ []) in omega (arith, q, a, b));
      returns = λ waits. (let it = ended.returns waits in let c = count_is in record {
        end = it.end;
        same = it.same;
        leads = leads_more (0 + ((l.places + l.places) + (2 + 0))) (count + count + 2) (omega (arith, c))
            (leads_then (counts p args (the_shape m) f by.least by.sizes by.copies by.copies2 by.fills by.fills2 by.indexer by.graph by.least_is (is_indexed m) by.sizing (structs.dicts n m mapping).head core head l.one l.two count l.places l.head_is waits full few_places)
            (leads_then (larger.leads (Flag false) waits) (leads_then (ends.leads waits) it.leads)));
      });
    }

  pub makes_room : count + 1 < 2 ^ 62 → Roomed p args layout known g heap left m i head l.pairs f core
  makes_room few = choose (nat_lt count l.places) refl
    where
      choose : (c : Bool) → nat_lt count l.places ≡ c → Roomed p args layout known g heap left m i head l.pairs f core
      choose true h = free (grind (arith, nat_tests, h))
      choose false h = (let q : l.places ≤ count = grind (arith, nat_tests, h) in grown_so q (omega (arith, q, few)))
