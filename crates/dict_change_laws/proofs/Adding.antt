-- The graph that puts an entry behind the last, where a place is free.
use Rattle.dict_find_laws.specs.Keys.{IsThere}
use Rattle.std.proofs.Common.{◌≡◌, ◌<◌, ℕ, suc, ◌+◌, ◌^◌, ◌||◌, Bool, true, false, List, [], ◌∷◌, ◌++◌, length, map, Option, Some, None, ℤ, pos, refl, sym, ap, ◌∙◌, subst, arith, append_assoc, length-append, inr}
use Rattle.std.specs.Prelude.{slice_get, slice_set, if◌then◌else◌}
use Rattle.std.proofs.lemmas.List.{length-set, length-map}
use Rattle.ann_element.specs.declared.element.Element.{Element}
use Rattle.csub_tree.specs.State.{Value, Unset, Word, Block, Core}
use Rattle.csub_tree.specs.Operation.{is_unset}
use Rattle.csub_tree.specs.Statement.{read, operand}
use Rattle.csub_tree.specs.declared.tree.COperand.TheVariants.{Var}
use Rattle.ll_code.specs.State.{Frame, Calling, At}
use Rattle.ll_code.specs.declared.program.LlOp.{LlOp}
use Rattle.ll_code.specs.declared.program.LlOp.TheVariants as op
use Rattle.ll_code.specs.declared.program.LlExit.TheVariants as exit
use Rattle.ll_code.specs.declared.program.LlProgram.{LlProgram}
use Rattle.ll_leads.specs.Path.{Leads, reference_in}
use Rattle.ll_leads.proofs.Joined.{leads_then, leads_more}
use Rattle.ll_leads.proofs.Ways.{many, enter, gives}
use Rattle.ll_texts.specs.Texts.{found}
use Rattle.ll_texts.proofs.Numbers.{adds, subs}
use Rattle.ll_texts.proofs.Writing.{put_mid}
use Rattle.rpy_tree.specs.Value.{Value as Meant, Mapped, Heap}
use Rattle.rtyper_layout.specs.declared.dicts.Mapping.{Mapping}
use Rattle.rtyper_layout.specs.declared.layout.Layout.{Layout}
use Rattle.rtyper_layout.specs.Dicts.{first, second, keys_last, is_indexed, stored_key, stored_value}
use Rattle.rtyper_layout.specs.Layout.{mapping_at}
use Rattle.rtyper_dict.specs.Changing.{add_graph, add_done, add_ops, add_types}
use Rattle.rtyper_dict.specs.Indexing.{enter_graph}
use Rattle.rtyper_dict.specs.Parts.{shape_of, and_call}
use Rattle.dict_laws.specs.Index.{Enters, done as all_entered, more, IsRight}
use Rattle.dict_laws.specs.Masks.{place_of}
use Rattle.dict_laws.proofs.Entering.{enters_keys}
use Rattle.dict_laws.proofs.Masked.{masks_lead}
use Rattle.object_laws.specs.Dicts.{DictAt, Arrays, IsIndex, IsIndexIf, as_item, hash, dict_block, items_block, index_values, keys_of, in_first, in_second}
use Rattle.object_laws.specs.Done.{HasLayout}
use Rattle.object_laws.specs.Ghost.{Ghost, DictOf, Stays, Second}
use Rattle.object_laws.specs.Known.{Known}
use Rattle.object_laws.specs.Represents.{Represents}
use Rattle.object_laws.specs.Values.{Holds, EachHolds, Empty, More, AreEmpty}
use Rattle.object_laws.proofs.Blocks.{found_set, reads_field}
use Rattle.object_laws.proofs.Calling.{Returns, calls_back}
use Rattle.object_laws.proofs.Changing.{Wrote, wrote_at, put_block, put_static, get_set_here, uses_apart}
use Rattle.object_laws.proofs.Growing.{grown_none}
use Rattle.object_laws.proofs.Valued.{held_set}
use Rattle.dict_change_laws.proofs.Changes.{Mine, three_mine, dict_rewritten, not_mine}
use Rattle.dict_change_laws.proofs.Entering.{enters_from, same_long, words_long}
use Rattle.dict_change_laws.proofs.Hashed.{None as NoneHashed, More as MoreHashed}
use Rattle.dict_change_laws.proofs.Keyed.{Staying, Hashes, item_set, map_both, map_long}
use Rattle.dict_change_laws.proofs.Pairs.{New, apart_more}
use Rattle.dict_change_laws.proofs.Putting.{put, array_of, puts_item, puts_field, at_most_one}
use Rattle.dict_change_laws.proofs.Rewriting.{Have, Three, have_head, have_first, have_second, rewrote_none}
use Rattle.dict_change_laws.proofs.Standing.{all_keys, all_values, keys_count, values_count, keys_long, values_long, firsts_long, total_long, total_small, index_of, both_long}

-- ---- of one array or the other

abbrev pub either : Bool → Value → Value → Value
either c x y = if c then x else y

pub either_set : (c : Bool) (x y : Value) → is_unset x ≡ false → is_unset y ≡ false → is_unset (either c x y) ≡ false
either_set true x y h k = h
either_set false x y h k = k

operand_is : (c : Bool) (vars : List Value) (m n : ℕ) → operand vars (if c then Var m else Var n) ≡ either c (read vars m) (read vars n)
operand_is true vars m n = refl
operand_is false vars m n = refl

pub set_either : (c : Bool) (xs ys : List Value) (i : ℕ) (x y : Value) → slice_set (if c then xs else ys) i (either c x y) ≡ (if c then slice_set xs i x else slice_set ys i y)
set_either true xs ys i x y = refl
set_either false xs ys i x y = refl

pub set_behind : (ws : List ℕ) (rest : List Value) (i : ℕ) (x : Value) → slice_set (index_values ws ++ rest) (length ws + i) x ≡ index_values ws ++ slice_set rest i x
set_behind [] rest i x = ap (λ i. slice_set rest i x) (let q : 0 + i ≡ i = omega arith in q)
set_behind (w ∷ ws) rest i x = ap (λ n. slice_set (index_values (w ∷ ws) ++ rest) n x) (let q : suc (length ws) + i ≡ suc (length ws + i) = omega arith in q) ∙ ap (λ l. Word (pos w) ∷ l) (set_behind ws rest i x)

-- the first of some
record Begins (xs : List Value) : Type 0 where
  x : Value
  others : List Value
  are : xs ≡ x ∷ others

begins : (xs : List Value) → 0 < length xs → Begins xs
begins [] h = absurd (omega (arith, h))
begins (x ∷ xs) h = record { x = x; others = xs; are = refl }

empty_others : (xs : List Value) (b : Begins xs) → AreEmpty xs → AreEmpty b.others
empty_others xs b h = (subst AreEmpty b.are h).1

pub each_more : {layout : Layout} {known : Known} {g : Ghost} {seen : Option Element} {xs : List Value} {vs : List Meant} {x : Value} {v : Meant} → EachHolds layout known g seen xs vs → Holds layout known g seen x v → EachHolds layout known g seen (xs ++ x ∷ []) (vs ++ v ∷ [])
each_more Empty held = More held Empty
each_more (More h each) held = More h (each_more each held)

pub empty_block : (n k : ℕ) (items : List Value) → k ≡ length items → array_of n (Word (pos k) ∷ []) items ≡ items_block n items
empty_block n k items h = ap (λ k. array_of n (Word (pos k) ∷ []) items) h

-- ---- the graph that enters, where there is an index

abbrev pub EntersBy : LlProgram → List (List ℕ) → Layout → Known → Mapping → Bool → Option ℕ → Type 0
EntersBy p args layout known m true (Some e) = (h : ℕ) × ((slice_get p.graphs e ≡ Some (enter_graph h (shape_of m))) × Hashes p args layout known m h)
EntersBy p args layout known m true None = ⊥
EntersBy p args layout known m false o = o ≡ None

-- what the call leaves
pub record Added (p : LlProgram) (args : List (List ℕ)) (layout : Layout) (known : Known) (g : Ghost) (heap : Heap) (left i : ℕ) (head : Value) (pairs : List (Meant × Meant)) (f : ℕ) (x y : Value) (core : Core) : Type 0 where
  pub blocks : List (Option Block)
  pub statics : List Block
  pub stands : Represents layout known g (slice_set heap i (Mapped pairs)) left blocks statics
  pub few : length blocks ≡ length core.blocks
  pub returns : (waits : List Frame) → Returns p args 2 (Calling f (head ∷ x ∷ y ∷ []) waits core) Unset waits (record core { blocks = blocks; statics = statics })

module _ (p : LlProgram) (args : List (List ℕ)) (layout : Layout) (known : Known) (structs : HasLayout p layout) (n : ℕ) (m : Mapping) (mapping : mapping_at layout.mappings n ≡ Some m) (f : ℕ) (enterer : Option ℕ) (graph : slice_get p.graphs f ≡ Some (add_graph enterer (shape_of m))) (entering : EntersBy p args layout known m (is_indexed m) enterer)
    (g : Ghost) (heap : Heap) (left : ℕ) (core : Core) (r : Represents layout known g heap left core.blocks core.statics) (i : ℕ) (head : Value) (home : slice_get g.homes i ≡ Some (record { sort = DictOf n; head = head })) (l : DictAt layout known g heap core.blocks core.statics m i head)
    (a : Arrays layout known g core.blocks core.statics m i l.pairs l.places l.one l.two) (room : length l.pairs < l.places) (kx vx : Value) (k v : Meant) (new : New k l.pairs) (k_held : Holds layout known g (known.keys m.dict) kx k) (v_held : Holds layout known g (known.items m.dict) vx v) (k_there : is_indexed m ≡ true → IsThere k) where
  abbrev count : ℕ
  count = length l.pairs

  abbrev x : Value
  x = as_item m.key (stored_key m) kx

  abbrev y : Value
  y = as_item m.value (stored_value m) vx

  x_set : is_unset x ≡ false
  x_set = item_set m.key (stored_key m) kx (held_set r k_held)

  y_set : is_unset y ≡ false
  y_set = item_set m.value (stored_value m) vx (held_set r v_held)

  abbrev pairs2 : List (Meant × Meant)
  pairs2 = l.pairs ++ (k, v) ∷ []

  abbrev keys2 : List Value
  keys2 = slice_set (all_keys a) count x

  abbrev values2 : List Value
  values2 = slice_set (all_values a) count y

  abbrev size : ℕ
  size = length a.index

  abbrev total : ℕ
  total = length (index_values a.index ++ in_second m (all_keys a) (all_values a))

  abbrev fields1 : List Value
  fields1 = Word (pos (length (in_first m (all_keys a) (all_values a)))) ∷ []

  three : Three (Mine g i) head l.one l.two
  three = three_mine g i head l.one l.two l.head_use a.first_use a.second_use

  head_set : is_unset head ≡ false
  head_set = found_set core.blocks core.statics head _ l.head_is

  one_set : is_unset l.one ≡ false
  one_set = found_set core.blocks core.statics l.one _ a.first_is

  two_set : is_unset l.two ≡ false
  two_set = found_set core.blocks core.statics l.two _ a.second_is

  -- ---- what is written

  abbrev first2 : Block
  first2 = array_of (first m) fields1 (slice_set (in_first m (all_keys a) (all_values a)) count (either (keys_last m) y x))

  abbrev second2 : Block
  second2 = array_of (second m) (Word (pos total) ∷ []) (slice_set (index_values a.index ++ in_second m (all_keys a) (all_values a)) (size + count) (either (keys_last m) x y))

  abbrev head2 : Block
  head2 = dict_block m.dict (count + 1) l.places l.one l.two

  abbrev core1 : Core
  core1 = put core l.one first2

  abbrev core2 : Core
  core2 = put core1 l.two second2

  abbrev core3 : Core
  core3 = put core2 head head2

  have1 : Have (Mine g i) head l.one l.two core.blocks core.statics core1.blocks core1.statics (dict_block m.dict count l.places l.one l.two) first2 (items_block (second m) (index_values a.index ++ in_second m (all_keys a) (all_values a)))
  have1 = have_first three (record { rewrote = rewrote_none; head_is = l.head_is; first_is = a.first_is; second_is = a.second_is }) refl (wrote_at core.blocks core.statics l.one _ first2 a.first_is)

  have2 : Have (Mine g i) head l.one l.two core.blocks core.statics core2.blocks core2.statics (dict_block m.dict count l.places l.one l.two) first2 second2
  have2 = have_second three have1 refl (wrote_at core1.blocks core1.statics l.two _ second2 have1.second_is)

  have3 : Have (Mine g i) head l.one l.two core.blocks core.statics core3.blocks core3.statics head2 first2 second2
  have3 = have_head three have2 refl (wrote_at core2.blocks core2.statics head _ head2 have2.head_is)

  -- ---- the way

  total_is : total ≡ size + l.places
  total_is = total_long a

  total_fits : total < 2 ^ 63
  total_fits = (let t = total_small a l.few in let e = total_is in omega (arith, t, e))

  abbrev begun : Core
  begun = record core { function = f; block = 0; at = 0; vars = head ∷ x ∷ y ∷ Unset ∷ Unset ∷ Unset ∷ Unset ∷ Unset ∷ Unset ∷ Unset ∷ Unset ∷ [] }

  abbrev ended : Core
  ended = record core3 { function = f; block = 0; at = 11; vars = head ∷ x ∷ y ∷ Word (pos count) ∷ l.one ∷ l.two ∷ Word (pos total) ∷ Word (pos l.places) ∷ Word (pos size) ∷ Word (pos (size + count)) ∷ Word (pos (count + 1)) ∷ [] }

  abbrev now : List Value
  now = head ∷ x ∷ y ∷ Word (pos count) ∷ l.one ∷ l.two ∷ Word (pos total) ∷ Word (pos l.places) ∷ Word (pos size) ∷ Word (pos (size + count)) ∷ Unset ∷ []

  way : (later : List LlOp) (waits : List Frame) → Leads p args 2 (At (add_ops (shape_of m) ++ later) (exit.Return None) waits begun) [] (At later (exit.Return None) waits ended)
  unfolding add_ops shape_of
  way later waits =
      let o = at_most_one (either (keys_last m) y x) in
      let t = at_most_one (either (keys_last m) x y) in
      let fits : size + count < 2 ^ 63 = (let t = total_fits in let e = total_is in omega (arith, t, e, room)) in
      let few = l.few in
      leads_more (0 + (0 + (0 + (0 + (0 + (0 + (0 + (reference_in (either (keys_last m) y x) + (reference_in (either (keys_last m) x y) + (0 + 0)))))))))) 2 (omega (arith, o, t))
      (leads_then (reads_field 4 (dict_block m.dict count l.places l.one l.two) (Word (pos count)) (structs.dicts n m mapping).head l.head_is refl refl 0 refl)
      (leads_then (reads_field 4 (dict_block m.dict count l.places l.one l.two) l.one (structs.dicts n m mapping).head l.head_is refl one_set 2 refl)
      (leads_then (reads_field 4 (dict_block m.dict count l.places l.one l.two) l.two (structs.dicts n m mapping).head l.head_is refl two_set 3 refl)
      (leads_then (reads_field 1 (items_block (second m) (index_values a.index ++ in_second m (all_keys a) (all_values a))) (Word (pos total)) (structs.dicts n m mapping).second a.second_is refl refl 0 refl)
      (leads_then (reads_field 4 (dict_block m.dict count l.places l.one l.two) (Word (pos l.places)) (structs.dicts n m mapping).head l.head_is refl refl 1 refl)
      (leads_then (gives (Word (pos size)) (subs total l.places size (let e = total_is in omega (arith, e)) total_fits))
      (leads_then (gives (Word (pos (size + count))) (adds size count fits))
      (leads_then (puts_item p args _ _ waits _ (first m) 4 (Var 3) (if keys_last m then Var 2 else Var 1) 1 (items_block (first m) (in_first m (all_keys a) (all_values a))) count (either (keys_last m) y x) (structs.dicts n m mapping).first refl refl (let e = firsts_long a in omega (arith, e, room)) (operand_is (keys_last m) now 2 1) (either_set (keys_last m) y x y_set x_set) l.one refl a.first_is)
      (leads_then (puts_item p args _ _ waits _ (second m) 5 (Var 9) (if keys_last m then Var 1 else Var 2) 1 (items_block (second m) (index_values a.index ++ in_second m (all_keys a) (all_values a))) (size + count) (either (keys_last m) x y) (structs.dicts n m mapping).second refl refl (let e = total_is in omega (arith, e, room)) (operand_is (keys_last m) now 1 2) (either_set (keys_last m) x y x_set y_set) l.two refl have1.second_is)
      (leads_then (gives (Word (pos (count + 1))) (adds count 1 (omega (arith, room, few))))
      (puts_field p args _ _ waits _ m.dict 0 0 (Var 10) 4 (dict_block m.dict count l.places l.one l.two) (Word (pos (count + 1))) (structs.dicts n m mapping).head refl refl refl head refl have2.head_is)))))))))))

  -- ---- the new arrays

  abbrev keys3 : List Value
  keys3 = map (as_item m.key (stored_key m)) (a.keys ++ kx ∷ [])

  abbrev values3 : List Value
  values3 = map (as_item m.value (stored_value m)) (a.values ++ vx ∷ [])

  key_room : Begins a.spare_keys
  key_room = begins a.spare_keys (let k = keys_count a in let h = a.key_places in omega (arith, k, h, room))

  value_room : Begins a.spare_values
  value_room = begins a.spare_values (let k = values_count a in let h = a.value_places in omega (arith, k, h, room))

  put_last : (f : Value → Value) (xs spare : List Value) (b : Begins spare) (x : Value) (n : ℕ) → n ≡ length xs → slice_set (map f xs ++ spare) n (f x) ≡ map f (xs ++ x ∷ []) ++ b.others
  put_last f xs spare b x n at =
      ap (λ l. slice_set (map f xs ++ l) n (f x)) b.are ∙ put_mid (map f xs) b.x b.others n (f x) (at ∙ sym (map_long f xs))
      ∙ sym (append_assoc (map f xs) (f x ∷ []) b.others) ∙ ap (λ l. l ++ b.others) (sym (map_both f xs (x ∷ [])))

  keys_are : keys2 ≡ keys3 ++ key_room.others
  keys_are = put_last (as_item m.key (stored_key m)) a.keys a.spare_keys key_room kx count (sym (keys_count a))

  values_are : values2 ≡ values3 ++ value_room.others
  values_are = put_last (as_item m.value (stored_value m)) a.values a.spare_values value_room vx count (sym (values_count a))

  keys2_long : length keys2 ≡ l.places
  keys2_long = length-set (all_keys a) count x ∙ keys_long a

  values2_long : length values2 ≡ l.places
  values2_long = length-set (all_values a) count y ∙ values_long a

  firsts_are : slice_set (in_first m (all_keys a) (all_values a)) count (either (keys_last m) y x) ≡ in_first m keys2 values2
  firsts_are = set_either (keys_last m) (all_values a) (all_keys a) count y x

  seconds_are : slice_set (index_values a.index ++ in_second m (all_keys a) (all_values a)) (size + count) (either (keys_last m) x y) ≡ index_values a.index ++ in_second m keys2 values2
  seconds_are = set_behind a.index (in_second m (all_keys a) (all_values a)) count (either (keys_last m) x y) ∙ ap (λ l. index_values a.index ++ l) (set_either (keys_last m) (all_keys a) (all_values a) count x y)

  abbrev first3 : Block
  first3 = array_of (first m) fields1 (in_first m keys2 values2)

  abbrev second_of : List ℕ → Block
  second_of words = array_of (second m) (Word (pos total) ∷ []) (index_values words ++ in_second m keys2 values2)

  have4 : Have (Mine g i) head l.one l.two core.blocks core.statics core3.blocks core3.statics head2 first3 (second_of a.index)
  have4 = subst (λ items. Have (Mine g i) head l.one l.two core.blocks core.statics core3.blocks core3.statics head2 (array_of (first m) fields1 items) (second_of a.index)) firsts_are
      (subst (λ items. Have (Mine g i) head l.one l.two core.blocks core.statics core3.blocks core3.statics head2 first2 (array_of (second m) (Word (pos total) ∷ []) items)) seconds_are have3)

  -- ---- the index

  record Ended : Type 0 where
    blocks : List (Option Block)
    statics : List Block
    words : List ℕ
    have : Have (Mine g i) head l.one l.two core.blocks core.statics blocks statics head2 first3 (second_of words)
    long : length words ≡ size
    indexed : IsIndexIf (is_indexed m) (map (hash layout m.key) (keys_of pairs2)) l.places words
    returns : (waits : List Frame) → Returns p args 2 (Calling f (head ∷ x ∷ y ∷ []) waits core) Unset waits (record core { blocks = blocks; statics = statics })

  without : is_indexed m ≡ false → enterer ≡ None → Ended
  unfolding add_graph add_done add_types add_ops shape_of and_call
  without none e = record {
    blocks = core3.blocks;
    statics = core3.statics;
    words = a.index;
    have = have4;
    long = refl;
    indexed = subst (λ c. IsIndexIf c (map (hash layout m.key) (keys_of pairs2)) l.places a.index) (sym none) (subst (λ c. IsIndexIf c (map (hash layout m.key) (keys_of l.pairs)) l.places a.index) none a.indexed);
    returns = λ waits. record {
      end = _;
      same = refl;
      leads = leads_more (0 + (2 + 0)) 2 (omega arith)
          (leads_then (enter graph_is refl)
          (leads_then (way [] waits) (many 1 graph_is refl refl)));
    };
  }
    where
      graph_is : slice_get p.graphs f ≡ Some (add_graph None (shape_of m))
      graph_is = graph ∙ ap (λ o. Some (add_graph o (shape_of m))) e

  -- the key comes into the index
  module _ (some : is_indexed m ≡ true) (e : ℕ) (is_entered : enterer ≡ Some e) (h : ℕ) (enter_is : slice_get p.graphs e ≡ Some (enter_graph h (shape_of m))) (hashes : Hashes p args layout known m h) where
    here : IsIndex (map (hash layout m.key) (keys_of l.pairs)) l.places a.index
    here = index_of some a.indexed

    abbrev bits : ℕ
    bits = here.long.bits

    abbrev z : ℤ
    z = hash layout m.key k

    abbrev starts : List ℕ
    starts = map (place_of bits) (map (hash layout m.key) (keys_of l.pairs))

    abbrev start : ℕ
    start = place_of bits z

    starts_long : length starts ≡ count
    starts_long = map_long (place_of bits) (map (hash layout m.key) (keys_of l.pairs)) ∙ map_long (hash layout m.key) (keys_of l.pairs) ∙ length-map l.pairs (λ (q : Meant × Meant). q.0)

    start_inside : start < size
    start_inside = (let lead = ((masks_lead bits here.long.few).0 z).1 in let e = here.long.is in omega (arith, lead, e))

    abbrev EntersIt : Type 0
    EntersIt = (words : List ℕ) × Enters a.index (length starts) start words

    both_so : EntersIt × ((words : List ℕ) → Enters a.index (length starts) start words → IsRight words (starts ++ start ∷ []))
    both_so = enters_keys a.index starts start here.right (let e = starts_long in let q = here.long.longer in omega (arith, e, q, room)) start_inside

    abbrev words2 : List ℕ
    words2 = both_so.0.0

    words_same : length words2 ≡ size
    words_same = same_long a.index (length starts) start words2 both_so.0.1

    indexed2 : IsIndex (map (hash layout m.key) (keys_of pairs2)) l.places words2
    indexed2 = record {
      long = record { bits = bits; few = here.long.few; is = words_same ∙ here.long.is; longer = (let q = here.long.longer in let e = words_same in omega (arith, q, e)) };
      right = subst (IsRight words2) (sym starts2) (both_so.1 words2 both_so.0.1);
    }
      where
        starts2 : map (place_of bits) (map (hash layout m.key) (keys_of pairs2)) ≡ starts ++ start ∷ []
        starts2 = ap (λ vs. map (place_of bits) (map (hash layout m.key) vs)) (map_both (λ (q : Meant × Meant). q.0) l.pairs ((k, v) ∷ []))
            ∙ ap (map (place_of bits)) (map_both (hash layout m.key) (keys_of l.pairs) (k ∷ []))
            ∙ map_both (place_of bits) (map (hash layout m.key) (keys_of l.pairs)) (z ∷ [])

    fine : (c : Core) (old news : List Value) → found c.blocks c.statics l.two ≡ Some (array_of (second m) (Word (pos total) ∷ []) old) → Staying g c.blocks c.statics → Staying g (put_block l.two (array_of (second m) (Word (pos total) ∷ []) news) c.blocks) (put_static l.two (array_of (second m) (Word (pos total) ∷ []) news) c.statics)
    fine c old news is stays x block used = (wrote_at c.blocks c.statics l.two (array_of (second m) (Word (pos total) ∷ []) old) (array_of (second m) (Word (pos total) ∷ []) news) is).others x (uses_apart g x l.two (Stays block) (Second i) used a.second_use (λ q. absurd (cc))) ∙ stays x block used

    stays_now : Staying g core3.blocks core3.statics
    stays_now x block used = have4.rewrote.others x (not_mine g i x (Stays block) used (λ e. e)) ∙ r.stays x block used

    wrote_last : Wrote core3.blocks core3.statics l.two (second_of words2) (put_block l.two (second_of words2) core3.blocks) (put_static l.two (second_of words2) core3.statics)
    wrote_last = wrote_at core3.blocks core3.statics l.two (second_of a.index) (second_of words2) have4.second_is

    first_set : (c : Bool) → is_unset (if c then Word (pos 0) else l.one) ≡ false
    first_set true = refl
    first_set false = one_set

    count_is : count ≡ length (map (as_item m.key (stored_key m)) a.keys)
    count_is = sym (map_long (as_item m.key (stored_key m)) a.keys ∙ keys_count a)

    calls : (waits : List Frame) → Returns p args 0 (Calling e (head ∷ Word (pos count) ∷ []) waits ended) Unset waits (put ended l.two (second_of words2))
    unfolding shape_of
    calls waits = subst (λ n. Returns p args 0 (Calling e (head ∷ Word (pos n) ∷ []) waits ended) Unset waits (put ended l.two (second_of words2))) (sym count_is)
        (enters_from p args (shape_of m) e h (structs.dicts n m mapping).head (structs.dicts n m mapping).first (structs.dicts n m mapping).second enter_is masks_lead (Staying g) head l.one l.two (count + 1) l.places bits here.long.few keys2 values2
        (let e = total_is in let t = total_fits in let q = keys2_long in let s = here.long.is in omega (arith, e, t, q, s)) (let q = keys2_long in omega (arith, q, room)) fields1 total fine (first_set (keys_last m)) three.first_second (let f = l.few in omega (arith, room, f))
        (x ∷ []) (z ∷ []) (MoreHashed (λ c waits stays. hashes g c waits kx k stays k_held (k_there some)) x_set NoneHashed) ended a.index (map (as_item m.key (stored_key m)) a.keys) key_room.others words2
        (more a.index (length (map (as_item m.key (stored_key m)) a.keys)) start [] words2 words2 (subst (λ n. Enters a.index n start words2) (starts_long ∙ count_is) both_so.0.1) (all_entered words2 (suc (length (map (as_item m.key (stored_key m)) a.keys)))))
        here.long.is (keys_are ∙ ap (λ l. l ++ key_room.others) (map_both (as_item m.key (stored_key m)) a.keys (kx ∷ [])) ∙ append_assoc (map (as_item m.key (stored_key m)) a.keys) (x ∷ []) key_room.others)
        (let q = count_is in omega (arith, q)) (let e = total_is in let s = here.long.is in omega (arith, e, s)) total_fits (let q = here.long.longer in let s = here.long.is in omega (arith, q, s)) stays_now have4.head_is have4.first_is have4.second_is waits)

    within : Ended
    unfolding add_graph add_done add_types add_ops shape_of and_call
    within = record {
      blocks = put_block l.two (second_of words2) core3.blocks;
      statics = put_static l.two (second_of words2) core3.statics;
      words = words2;
      have = have_second three have4 refl wrote_last;
      long = words_same;
      indexed = subst (λ c. IsIndexIf c (map (hash layout m.key) (keys_of pairs2)) l.places words2) (sym some) indexed2;
      returns = λ waits. record {
        end = _;
        same = refl;
        leads = leads_more (0 + (2 + (0 + 0))) 2 (omega arith)
            (leads_then (enter graph_is refl)
            (leads_then (way (op.Call None e (Var 0 ∷ Var 3 ∷ []) ∷ []) waits)
            (leads_then (calls_back {core = ended} 0 refl (ap (λ b. b || (false || false)) head_set) calls) (many 1 graph_is refl refl))));
      };
    }
      where
        graph_is : slice_get p.graphs f ≡ Some (add_graph (Some e) (shape_of m))
        graph_is = graph ∙ ap (λ o. Some (add_graph o (shape_of m))) is_entered

  ended_so : Ended
  ended_so = by (is_indexed m) refl enterer refl entering
    where
      by : (c : Bool) → is_indexed m ≡ c → (o : Option ℕ) → enterer ≡ o → EntersBy p args layout known m c o → Ended
      by true q (Some e) is it = within q e is it.0 it.1.0 it.1.1
      by true q None is it = absurd it
      by false q o is it = without q (is ∙ it)

  -- ---- the dict

  changed : DictAt layout known g (slice_set heap i (Mapped pairs2)) ended_so.blocks ended_so.statics m i head
  changed = record {
    pairs = pairs2;
    object = get_set_here heap i (Mapped pairs2) (Mapped l.pairs) l.object;
    places = l.places;
    one = l.one;
    two = l.two;
    head_use = l.head_use;
    head_is = ended_so.have.head_is ∙ ap (λ n. Some (dict_block m.dict n l.places l.one l.two)) (sym (length-append l.pairs ((k, v) ∷ [])));
    arrays = inr (record {
      keys = a.keys ++ kx ∷ [];
      values = a.values ++ vx ∷ [];
      spare_keys = key_room.others;
      spare_values = value_room.others;
      index = ended_so.words;
      first_use = a.first_use;
      second_use = a.second_use;
      first_is = ended_so.have.first_is ∙ ap Some (empty_block (first m) (length (in_first m (all_keys a) (all_values a))) (in_first m keys2 values2) (firsts_long a ∙ sym (both_long (keys_last m) values2 keys2 l.places values2_long keys2_long))) ∙ ap (λ items. Some (items_block (first m) items)) (ap (λ ks. in_first m ks values2) keys_are ∙ ap (in_first m (keys3 ++ key_room.others)) values_are);
      second_is = ended_so.have.second_is ∙ ap Some (empty_block (second m) total (index_values ended_so.words ++ in_second m keys2 values2) (total_is ∙ sym (words_long ended_so.words (in_second m keys2 values2) ∙ ap (λ n. n + length (in_second m keys2 values2)) ended_so.long ∙ ap (λ n. size + n) (both_long (keys_last m) keys2 values2 l.places keys2_long values2_long))))
          ∙ ap (λ items. Some (items_block (second m) (index_values ended_so.words ++ items))) (ap (λ ks. in_second m ks values2) keys_are ∙ ap (in_second m (keys3 ++ key_room.others)) values_are);
      each_key = subst (EachHolds layout known g (known.keys m.dict) (a.keys ++ kx ∷ [])) (sym (map_both (λ (q : Meant × Meant). q.0) l.pairs ((k, v) ∷ []))) (each_more a.each_key k_held);
      each_value = subst (EachHolds layout known g (known.items m.dict) (a.values ++ vx ∷ [])) (sym (map_both (λ (q : Meant × Meant). q.1) l.pairs ((k, v) ∷ []))) (each_more a.each_value v_held);
      no_keys = empty_others a.spare_keys key_room a.no_keys;
      no_values = empty_others a.spare_values value_room a.no_values;
      key_places = one_moved a.keys kx a.spare_keys key_room ∙ a.key_places;
      value_places = one_moved a.values vx a.spare_values value_room ∙ a.value_places;
      indexed = ended_so.indexed;
    });
    apart = apart_more k v l.pairs new l.apart;
    few = l.few;
  }
    where
      one_moved : (xs : List Value) (x : Value) (spare : List Value) (b : Begins spare) → length (xs ++ x ∷ []) + length b.others ≡ length xs + length spare
      one_moved xs x spare b = (let p = length-append xs (x ∷ []) in let q : length spare ≡ suc (length b.others) = ap length b.are in omega (arith, p, q))

  pub added : Added p args layout known g heap left i head pairs2 f x y core
  added = record {
    blocks = ended_so.blocks;
    statics = ended_so.statics;
    stands = dict_rewritten n i head m pairs2 r grown_none refl home mapping r.made (λ x block h. h) (λ x u h. refl) r.settled (λ x u h. h) ended_so.have.rewrote changed;
    few = ended_so.have.rewrote.made;
    returns = ended_so.returns;
  }
