-- A call of the graph that lists the pairs of a dict: it lacks steps, or makes the list of them.
use Rattle.std.proofs.Common.{◌≡◌, ◌<◌, ◌≤◌, ◌⊎◌, inl, inr, ℕ, ◌+◌, ◌-◌, ◌*◌, ◌^◌, true, false, Bool, List, [], ◌∷◌, ◌++◌, length, map, Option, Some, None, pos, refl, sym, ap, ◌∙◌, subst, arith, length-append}
use Rattle.std.specs.Prelude.{slice_get, if◌then◌else◌, not, unwrap_or}
use Rattle.std.proofs.lemmas.List.{length-map}
use Rattle.ann_element.specs.declared.element.Element.{Element}
use Rattle.ann_element.specs.declared.element.Element.TheVariants as element
use Rattle.csub_tree.specs.State.{Value, Word, Ptr, Block, Core}
use Rattle.csub_tree.specs.Layout.{shape_at, shape_over}
use Rattle.ll_code.specs.Machine.{shapes_of}
use Rattle.ll_code.specs.State.{Frame, Calling}
use Rattle.ll_code.specs.declared.program.LlType.TheVariants as type
use Rattle.ll_code.specs.declared.program.LlProgram.{LlProgram}
use Rattle.ll_texts.specs.Follows.{Lacked}
use Rattle.ll_texts.specs.Texts.{found}
use Rattle.rpy_tree.specs.Value.{Value as Meant, Listed, Heap}
use Rattle.rtyper_layout.specs.declared.dicts.Mapping.{Mapping}
use Rattle.rtyper_layout.specs.declared.layout.Layout.{Layout}
use Rattle.rtyper_layout.specs.Dicts.{first, second, is_plain, stored_key, stored_value}
use Rattle.rtyper_layout.specs.Layout.{mapping_at}
use Rattle.rtyper_layout.specs.Types.{field_type, type_of as element_type, word}
use Rattle.rtyper_data.specs.declared.small.Keyed.TheVariants as keyed
use Rattle.rtyper_data.specs.Seen.{Around, Place, Writing, writing}
use Rattle.rtyper_dict.specs.declared.lists.Part.TheVariants as part
use Rattle.rtyper_dict.specs.declared.parts.DictShape.{DictShape}
use Rattle.rtyper_dict.specs.Graphs.{dict_graph}
use Rattle.rtyper_dict.specs.Listing.{asking, field_at, item_of, item_set, key_as, list, list_over, list_reads, list_types, pair, pair_as, set_in, tuple_of, value_of}
use Rattle.list_shape.specs.Shapes.{shape_of, taking}
use Rattle.lower_laws.proofs.Stayed.{field_is}
use Rattle.lower_laws.specs.Tuples.{IsTuple}
use Rattle.object_laws.specs.Dicts.{Arrays, DictAt, Lacks, as_item, in_second, index_values, items_block, keys_of, values_of}
use Rattle.object_laws.specs.Done.{HasLayout}
use Rattle.object_laws.specs.Ghost.{Array, Ghost, Head, ListOf}
use Rattle.object_laws.specs.Known.{Known}
use Rattle.object_laws.specs.Represents.{HasRoom, Represents, array_block, head_block}
use Rattle.object_laws.specs.Staying.{Stays}
use Rattle.object_laws.specs.Values.{EachHolds, Empty}
use Rattle.object_laws.proofs.Blocks.{found_set}
use Rattle.object_laws.proofs.Made.{get_first, list_home, with_object}
use Rattle.object_laws.proofs.Valued.{each_long, held_set, stays_there, stays_typed}
use Rattle.list_laws.proofs.Copying.{array_with}
use Rattle.list_copy_laws.specs.Joined.{Takes}
use Rattle.dict_find_laws.specs.Asked.{HasListing}
use Rattle.dict_find_laws.specs.Listings.{KeysAre}
use Rattle.dict_find_laws.specs.Lookups.{HasValues}
use Rattle.dict_find_laws.proofs.Brought.{pair_blocks_long, pair_uses, pointers_long}
use Rattle.dict_find_laws.proofs.Coupled.{pairs_all}
use Rattle.dict_find_laws.proofs.Entries.{each_stays, held_at, index_few, few_entries, second_size}
use Rattle.dict_find_laws.proofs.Gathered.{gathered, grown, tuples_of}
use Rattle.dict_find_laws.proofs.Many.{MadeMany}
use Rattle.dict_find_laws.proofs.Pairing.{pair_blocks, pointers}
use Rattle.dict_find_laws.proofs.Places.{pairs_long}
use Rattle.dict_find_laws.proofs.Restored.{IsOf, is_of}
use Rattle.dict_find_laws.proofs.Shaped.{shape_is, shaped}
use Rattle.dict_find_laws.proofs.Zipped.{In, Pairs, SetPair, There, zipped, zipped_long}

same_element : (a b : Element) → Some a ≡ Some b → a ≡ b
same_element a b h = cc

module _ (known : Known) (around : Around) (place : Place) (p : LlProgram) (args : List (List ℕ)) (raised : ℕ → Value) (l t f : ℕ) (m : Mapping) (core : Core) (g : Ghost) (heap : Heap) (left i : ℕ) (head : Value) (structs : HasLayout p around.layout) (n : ℕ) (mapping : mapping_at around.layout.mappings n ≡ Some m)
    (stands : Represents around.layout known g heap left core.blocks core.statics) (steps : left ≡ core.steps) (d : DictAt around.layout known g heap core.blocks core.statics m i head)
    (key value item one_part two_part : Element) (keys : KeysAre around known m key) (values : HasValues around known m value) (takes : Takes around known place l item) (of : IsTuple around (Some item) t (one_part ∷ two_part ∷ []))
    (key_stays : Stays around.layout known (Some key) (Some one_part)) (value_stays : Stays around.layout known (Some value) (Some two_part)) (asked : HasListing p around.layout raised (keyed.Items n l) l f) where
  abbrev layout : Layout
  layout = around.layout

  abbrev k : ℕ
  k = length d.pairs

  abbrev whole : DictShape
  whole = shaped m (is_plain m.key) (is_plain m.value) m.key

  abbrev All : Type 0
  All = Arrays layout known g core.blocks core.statics m i d.pairs d.places d.one d.two

  -- ---- where they stand

  record Columns : Type 0 where
    pub xs : List Value
    pub us : List Value
    pub each_key : EachHolds layout known g (Some key) xs (keys_of d.pairs)
    pub each_value : EachHolds layout known g (Some value) us (values_of d.pairs)
    pub stands_so : (k ≡ 0) ⊎ There p args layout l whole t (is_plain m.key) f asked.made core left head d.one d.two k d.places (stored_key m) m.key (stored_value m) m.value xs us

  abbrev kept_keys : All → List Value
  kept_keys a = map (as_item m.key (stored_key m)) a.keys ++ a.spare_keys

  abbrev kept_values : All → List Value
  kept_values a = map (as_item m.value (stored_value m)) a.values ++ a.spare_values

  columns : Columns
  columns = by d.arrays
    where
      by : Lacks layout known g core.blocks core.statics m i d.pairs d.places d.one d.two ⊎ All → Columns
      by (inl none) = record {
        xs = [];
        us = [];
        each_key = subst (λ ps. EachHolds layout known g (Some key) [] (keys_of ps)) (sym none.empty) Empty;
        each_value = subst (λ ps. EachHolds layout known g (Some value) [] (values_of ps)) (sym none.empty) Empty;
        stands_so = inl (ap length none.empty);
      }
      by (inr a) = record {
        xs = a.keys;
        us = a.values;
        each_key = subst (λ s. EachHolds layout known g s a.keys (keys_of d.pairs)) keys.key_is a.each_key;
        each_value = subst (λ s. EachHolds layout known g s a.values (values_of d.pairs)) values.value_is a.each_value;
        stands_so = inr (record {
          index = a.index;
          spare_keys = a.spare_keys;
          spare_values = a.spare_values;
          items = index_values a.index ++ in_second m (kept_keys a) (kept_values a);
          items_long = second_size layout known p args raised l f m core g heap left i head takes.struct structs n mapping stands steps d a;
          fits = (let q = index_few layout known p args raised l f m core g heap left i head takes.struct structs n mapping stands steps d a in let s = d.few in omega (arith, q, s));
          enough = few_entries layout known p args raised l f m core g heap left i head takes.struct structs n mapping stands steps d a;
          one_set = found_set core.blocks core.statics d.one _ a.first_is;
          second_is = a.second_is;
          keys_in = keys_side (is_plain m.key) refl;
          values_in = values_side (is_plain m.key) refl;
        });
      }
        where
          keys_side : (b : Bool) → is_plain m.key ≡ b → In p args layout l whole t (is_plain m.key) f asked.made core left head d.one d.two k d.places (stored_key m) m.key (stored_value m) m.value a.keys a.values b a.index (kept_keys a)
          keys_side true e = subst (λ b. found core.blocks core.statics d.two ≡ Some (items_block (second m) (index_values a.index ++ (if b then (kept_keys a) else (kept_values a))))) e a.second_is
          keys_side false e = subst (λ b. found core.blocks core.statics d.one ≡ Some (items_block (first m) (if b then (kept_values a) else (kept_keys a)))) e a.first_is

          values_side : (b : Bool) → is_plain m.key ≡ b → In p args layout l whole t (is_plain m.key) f asked.made core left head d.one d.two k d.places (stored_key m) m.key (stored_value m) m.value a.keys a.values (not b) a.index (kept_values a)
          values_side true e = subst (λ b. found core.blocks core.statics d.one ≡ Some (items_block (first m) (if b then (kept_values a) else (kept_keys a)))) e a.first_is
          values_side false e = subst (λ b. found core.blocks core.statics d.two ≡ Some (items_block (second m) (index_values a.index ++ (if b then (kept_keys a) else (kept_values a))))) e a.second_is

  abbrev xs : List Value
  xs = columns.xs

  abbrev us : List Value
  us = columns.us

  keys_long : length xs ≡ k
  keys_long = each_long columns.each_key ∙ pairs_long d.pairs

  values_long : length us ≡ k
  values_long = each_long columns.each_value ∙ length-map d.pairs (λ (q : Meant × Meant). q.1)

  -- ---- the graph

  target : (shape_of layout l).item ≡ type.Ptr t
  target = takes.list.items ∙ ap field_type of.typed

  key_typed : field_at layout t 0 ≡ m.key
  key_typed = ap (λ fields. unwrap_or (slice_get fields 0) type.Bool) of.fields ∙ sym (ap field_type (stays_typed key_stays)) ∙ sym keys.typed

  value_typed : field_at layout t 1 ≡ m.value
  value_typed = ap (λ fields. unwrap_or (slice_get fields 1) type.Bool) of.fields ∙ sym (ap field_type (stays_typed value_stays)) ∙ sym values.typed

  abbrev begun : Writing
  begun = writing asked.made (record { types = list_types whole (shape_of layout l); ops = list_reads })

  graph_is : slice_get p.graphs f ≡ Some (list_over part.Both whole (shape_of layout l) (SetPair layout l whole t asked.made (is_plain m.key) (stored_key m) m.key m.key (stored_value m) m.value m.value)).0
  unfolding dict_graph list item_set item_of pair key_as value_of
  graph_is = asked.graph_is ∙ ap (λ s. Some (list layout s (shape_of layout l) part.Both asked.made).0) (shape_is layout n m mapping)
      ∙ ap (λ ty. Some (list_over part.Both whole (shape_of layout l) (set_in (shape_of layout l) (pair_as layout whole ty begun))).0) target
      ∙ ap (λ ty. Some (list_over part.Both whole (shape_of layout l) (set_in (shape_of layout l) (taking (key_as layout whole ty begun) (λ k next. taking (value_of layout whole (field_at layout t 1) next) (λ v last. asking last.found (tuple_of t k v last.body)))))).0) key_typed
      ∙ ap (λ ty. Some (list_over part.Both whole (shape_of layout l) (set_in (shape_of layout l) (taking (key_as layout whole m.key begun) (λ k next. taking (value_of layout whole ty next) (λ v last. asking last.found (tuple_of t k v last.body)))))).0) value_typed

  key_there : element_type layout key ≡ type.Void → ⊥
  key_there h = stays_there key_stays (sym (stays_typed key_stays) ∙ h)

  value_there : element_type layout value ≡ type.Void → ⊥
  value_there h = stays_there value_stays (sym (stays_typed value_stays) ∙ h)

  tuples : shape_at (shapes_of p.structs) t ≡ shape_over t 2 None
  tuples = structs.plain.tuples t of.struct ∙ ap (λ fields. shape_over t (length fields) None) of.fields

  calls : Pairs p args layout l whole t (is_plain m.key) f asked.made core left head d.one d.two k d.places (stored_key m) m.key (stored_value m) m.value xs us
  calls = pairs_all p args layout l whole t (is_plain m.key) f asked.made core left head d.one d.two k d.places xs us (structs.dicts n m mapping).first (structs.dicts n m mapping).second (structs.dicts n m mapping).head (structs.heads l takes.struct) (structs.arrays l takes.struct) tuples asked.makes.graph d.head_is steps
      (λ j x h. held_set stands (held_at columns.each_key j x h).1) (λ j x h. held_set stands (held_at columns.each_value j x h).1) keys_long values_long (is_plain m.key) (is_plain m.value) m.key m.value (λ h. h) (λ h. h)
      (λ j x h. subst (λ t. IsOf t x) (sym (keys.typed ∙ field_is (element_type layout key) key_there)) (is_of key_stays (held_at columns.each_key j x h).1)) (λ j x h. subst (λ t. IsOf t x) (sym (values.typed ∙ field_is (element_type layout value) value_there)) (is_of value_stays (held_at columns.each_value j x h).1)) graph_is columns.stands_so

  pub pairs_lack_steps : left < 1 + 2 * k → (waits : List Frame) → Lacked p args (Calling f (head ∷ []) waits core) core
  pairs_lack_steps = calls.0

  tuples_long : length (tuples_of d.pairs) ≡ k
  tuples_long = length-map d.pairs _

  zs_long : length (zipped xs us) ≡ k
  zs_long = zipped_long xs us (keys_long ∙ sym values_long) ∙ keys_long

  abbrev more : List (Option Block)
  more = Some (array_with (word (l + 1)) (Word (pos k) ∷ []) (pointers (length core.blocks) 0 k)) ∷ Some (head_block l k (Ptr (length core.blocks))) ∷ pair_blocks t (zipped xs us)

  abbrev fewer : ℕ
  fewer = left - (1 + 2 * k)

  abbrev new_ghost : Ghost
  new_ghost = with_object g (Array (length heap) ∷ Head (length heap) ∷ pair_uses t (zipped xs us)) (list_home g l)

  pub pairs_are_made : 1 + 2 * k ≤ left → MadeMany p args layout known g heap (left - (1 + 2 * k)) l (tuples_of d.pairs) (2 + k) (3 * k + 1) (λ waits. Calling f (head ∷ []) waits core) core
  pairs_are_made enough = record {
    blocks = core.blocks ++ more;
    head = Ptr (length core.blocks + 1);
    ghost = new_ghost;
    grown = grown stands l t fewer xs us d.pairs item one_part two_part less takes.struct takes.list.item_is tuple_is of.typed each_one each_two zs_long short room tuples_long (structs.lists_apart l takes.struct);
    stands = subst (λ bs. Represents layout known new_ghost (heap ++ Listed (tuples_of d.pairs) ∷ []) fewer bs core.statics) same (gathered stands l t fewer xs us d.pairs item one_part two_part less takes.struct takes.list.item_is tuple_is of.typed each_one each_two zs_long short room tuples_long (structs.lists_apart l takes.struct));
    home = get_first g.homes [] (record { sort = ListOf l; head = Ptr (length g.blocks + 1) }) (length heap) (sym stands.homes) ∙ ap (λ q. Some (record { sort = ListOf l; head = Ptr (q + 1) })) stands.made;
    set = refl;
    few = (let a = length-append core.blocks more in let b = pair_blocks_long t (zipped xs us) in let c = zs_long in omega (arith, a, b, c));
    returns = calls.1 enough;
  }
    where
      less : fewer ≤ left
      less = omega arith

      tuple_is : item ≡ element.Tuple (one_part ∷ two_part ∷ [])
      tuple_is = same_element item _ of.is

      each_one : EachHolds layout known g (Some one_part) xs (keys_of d.pairs)
      each_one = each_stays key_stays columns.each_key

      each_two : EachHolds layout known g (Some two_part) us (values_of d.pairs)
      each_two = each_stays value_stays columns.each_value

      short : k < 2 ^ 63
      short = (let s = stands.few in omega (arith, s, enough))

      room : HasRoom k fewer
      room = (let s = stands.few in omega (arith, s, enough))

      same : core.blocks ++ Some (array_block l (pointers (length core.blocks) 0 k)) ∷ Some (head_block l (length (tuples_of d.pairs)) (Ptr (length core.blocks))) ∷ pair_blocks t (zipped xs us) ≡ core.blocks ++ more
      same = ap (λ q. core.blocks ++ Some (array_with (word (l + 1)) (Word (pos q) ∷ []) (pointers (length core.blocks) 0 k)) ∷ Some (head_block l (length (tuples_of d.pairs)) (Ptr (length core.blocks))) ∷ pair_blocks t (zipped xs us)) (pointers_long (length core.blocks) 0 k)
          ∙ ap (λ q. core.blocks ++ Some (array_with (word (l + 1)) (Word (pos k) ∷ []) (pointers (length core.blocks) 0 k)) ∷ Some (head_block l q (Ptr (length core.blocks))) ∷ pair_blocks t (zipped xs us)) tuples_long
