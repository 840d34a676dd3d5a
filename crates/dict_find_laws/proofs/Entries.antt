-- A call of the graph that lists the keys, or the values, of a dict makes that list.
use Rattle.std.proofs.Common.{◌≡◌, ◌<◌, ◌≤◌, ◌⊎◌, inl, inr, ℕ, zero, suc, ◌+◌, ◌-◌, ◌^◌, ◌&&◌, false, true, Bool, List, [], ◌∷◌, ◌++◌, length, map, Option, Some, pos, refl, sym, ap, ◌∙◌, subst, arith, length-append}
use Rattle.std.specs.Prelude.{slice_get, if◌then◌else◌, not}
use Rattle.std.proofs.lemmas.List.{length-map}
use Rattle.ann_element.specs.declared.element.Element.{Element}
use Rattle.csub_tree.specs.State.{Value, Word, Core}
use Rattle.ll_code.specs.State.{Frame, Calling}
use Rattle.ll_code.specs.declared.program.LlType.{LlType}
use Rattle.csub_tree.specs.declared.tree.COperand.TheVariants.{Var}
use Rattle.ll_build.specs.Build.{word as word_operand}
use Rattle.ll_code.specs.declared.program.LlOp.TheVariants as op
use Rattle.ll_code.specs.declared.program.LlType.TheVariants as type
use Rattle.rtyper_data.specs.declared.found.Found.{Found}
use Rattle.ll_code.specs.declared.program.LlProgram.{LlProgram}
use Rattle.ll_texts.specs.Follows.{Lacked}
use Rattle.ll_texts.specs.Texts.{found}
use Rattle.rpy_tree.specs.Value.{Value as Meant, Nothing, Heap}
use Rattle.rtyper_layout.specs.declared.dicts.Mapping.{Mapping}
use Rattle.rtyper_layout.specs.declared.layout.Layout.{Layout}
use Rattle.rtyper_layout.specs.Dicts.{first, second, is_indexed, is_plain, stored_key, stored_value}
use Rattle.rtyper_layout.specs.Layout.{is_list, mapping_at}
use Rattle.rtyper_layout.specs.Types.{field_type, type_of as element_type, word}
use Rattle.rtyper_data.specs.declared.small.Keyed.{Keyed}
use Rattle.rtyper_data.specs.declared.small.Keyed.TheVariants as keyed
use Rattle.list_shape.specs.Shapes.{item_of as list_item, shape_of}
use Rattle.rtyper_dict.specs.declared.lists.Part.{Part}
use Rattle.rtyper_dict.specs.declared.lists.Part.TheVariants as part
use Rattle.rtyper_dict.specs.declared.parts.DictShape.{DictShape}
use Rattle.rtyper_dict.specs.Graphs.{dict_graph}
use Rattle.rtyper_dict.specs.Listing.{item_of, item_set, key_as, list, list_over, paid, value_of}
use Rattle.lower_laws.proofs.Stayed.{field_is}
use Rattle.object_laws.specs.Dicts.{Arrays, DictAt, IsIndexIf, Lacks, as_item, hash, in_second, index_values, items_block, keys_of, values_of}
use Rattle.object_laws.specs.Done.{HasLayout}
use Rattle.object_laws.specs.Ghost.{Ghost}
use Rattle.object_laws.specs.Known.{Known}
use Rattle.object_laws.specs.Represents.{HasRoom, Represents}
use Rattle.object_laws.specs.Staying.{Stays}
use Rattle.object_laws.specs.Values.{EachHolds, Empty, Holds, More}
use Rattle.object_laws.proofs.Blocks.{found_set}
use Rattle.object_laws.proofs.Valued.{each_long, held_set, stays_held, stays_there, stays_typed}
use Rattle.list_copy_laws.proofs.Fresh.{MadeList, made_so, raw}
use Rattle.dict_find_laws.specs.Asked.{HasListing}
use Rattle.dict_find_laws.proofs.Columns.{In, Lists, Set, There, lists_all}
use Rattle.dict_find_laws.proofs.Got.{and_second}
use Rattle.dict_laws.proofs.Masked.{two_more}
use Rattle.dict_find_laws.proofs.Places.{entries_few, pairs_long, second_long}
use Rattle.dict_find_laws.proofs.Restored.{IsOf, is_of}
use Rattle.dict_find_laws.proofs.Shaped.{shape_is, shaped}

-- what is known of each
pub held_at : {layout : Layout} {known : Known} {g : Ghost} {seen : Option Element} {xs : List Value} {vs : List Meant} → EachHolds layout known g seen xs vs → (j : ℕ) (x : Value) → slice_get xs j ≡ Some x → (v : Meant) × Holds layout known g seen x v
held_at Empty j x h = absurd (cc)
held_at {layout = layout} {known = known} {g = g} {seen = seen} (More {x = y} {v = v} held each) zero x h = (let q : y ≡ x = cc in (v, subst (λ x. Holds layout known g seen x v) q held))
held_at (More held each) (suc j) x h = held_at each j x h

pub each_stays : {layout : Layout} {known : Known} {g : Ghost} {from to : Option Element} {xs : List Value} {vs : List Meant} → Stays layout known from to → EachHolds layout known g from xs vs → EachHolds layout known g to xs vs
each_stays stay Empty = Empty
each_stays stay (More held each) = More (stays_held stay held) (each_stays stay each)

module _ (layout : Layout) (known : Known) (p : LlProgram) (args : List (List ℕ)) (raised : ℕ → Value) (l f : ℕ) (m : Mapping) (core : Core) (g : Ghost) (heap : Heap) (left i : ℕ) (head : Value) (struct : is_list layout l ≡ true) (structs : HasLayout p layout) (n : ℕ) (mapping : mapping_at layout.mappings n ≡ Some m)
    (stands : Represents layout known g heap left core.blocks core.statics) (steps : left ≡ core.steps) (d : DictAt layout known g heap core.blocks core.statics m i head) where
  abbrev pub k : ℕ
  k = length d.pairs

  abbrev All : Type 0
  All = Arrays layout known g core.blocks core.statics m i d.pairs d.places d.one d.two

  abbrev pub whole : DictShape
  whole = shaped m (is_plain m.key) (is_plain m.value) m.key

  pub index_few : (a : All) → length a.index ≤ 2 ^ 62
  index_few a = by (is_indexed m) a.indexed
    where
      by : (b : Bool) → IsIndexIf b (map (hash layout m.key) (keys_of d.pairs)) d.places a.index → length a.index ≤ 2 ^ 62
      by true it = (let q = two_more it.long.bits 62 (let k = it.long.few in omega (arith, k)) in let k = it.long.is in omega (arith, q, k))
      by false it = (let q = ap length it in omega (arith, q))

  abbrev stored_keys : All → List Value
  stored_keys a = map (as_item m.key (stored_key m)) a.keys ++ a.spare_keys

  abbrev stored_values : All → List Value
  stored_values a = map (as_item m.value (stored_value m)) a.values ++ a.spare_values

  nothing_meant : Meant
  nothing_meant = Nothing

  pub second_size : (a : All) → length (index_values a.index ++ in_second m (stored_keys a) (stored_values a)) ≡ length a.index + d.places
  second_size a = (let x = length-append (index_values a.index) (in_second m (stored_keys a) (stored_values a)) in let y = length-map a.index (λ (n : ℕ). Word (pos n)) in let z = second_long layout known p args f m core g heap i head nothing_meant (structs.dicts n m mapping) d a in omega (arith, x, y, z))

  pub few_entries : (a : All) → k ≤ d.places
  few_entries a = entries_few layout known p args f m core g heap i head nothing_meant (structs.dicts n m mapping) d a

  -- values of one kind, and where they stand
  pub record Column (of : Part) (made : Found) (in_the_second : Bool) (item t : LlType) (seen : Option Element) (vs : List Meant) : Type 0 where
    pub xs : List Value
    pub each : EachHolds layout known g seen xs vs
    pub stands_so : (k ≡ 0) ⊎ There p args layout l whole of in_the_second f made core left head d.one d.two k d.places item t xs

  module _ (of : Part) (made : Found) where
    keys_column : Column of made (is_plain m.key) (stored_key m) m.key (known.keys m.dict) (keys_of d.pairs)
    keys_column = by d.arrays
      where
        by : Lacks layout known g core.blocks core.statics m i d.pairs d.places d.one d.two ⊎ All → Column of made (is_plain m.key) (stored_key m) m.key (known.keys m.dict) (keys_of d.pairs)
        by (inl none) = record { xs = []; each = subst (λ ps. EachHolds layout known g (known.keys m.dict) [] (keys_of ps)) (sym none.empty) Empty; stands_so = inl (ap length none.empty) }
        by (inr a) = record {
          xs = a.keys;
          each = a.each_key;
          stands_so = inr (record {
            index = a.index;
            spare = a.spare_keys;
            items = index_values a.index ++ in_second m (stored_keys a) (stored_values a);
            items_long = second_size a;
            fits = (let q = index_few a in let s = d.few in omega (arith, q, s));
            enough = few_entries a;
            one_set = found_set core.blocks core.statics d.one _ a.first_is;
            second_is = a.second_is;
            stands = side (is_plain m.key) refl;
          });
        }
          where
            side : (b : Bool) → is_plain m.key ≡ b → In p args layout l whole of (is_plain m.key) f made core left head d.one d.two k d.places (stored_key m) m.key a.keys b a.index a.spare_keys
            side true e = subst (λ b. found core.blocks core.statics d.two ≡ Some (items_block (second m) (index_values a.index ++ (if b then stored_keys a else stored_values a)))) e a.second_is
            side false e = subst (λ b. found core.blocks core.statics d.one ≡ Some (items_block (first m) (if b then stored_values a else stored_keys a))) e a.first_is

    values_column : Column of made (not (is_plain m.key)) (stored_value m) m.value (known.items m.dict) (values_of d.pairs)
    values_column = by d.arrays
      where
        by : Lacks layout known g core.blocks core.statics m i d.pairs d.places d.one d.two ⊎ All → Column of made (not (is_plain m.key)) (stored_value m) m.value (known.items m.dict) (values_of d.pairs)
        by (inl none) = record { xs = []; each = subst (λ ps. EachHolds layout known g (known.items m.dict) [] (values_of ps)) (sym none.empty) Empty; stands_so = inl (ap length none.empty) }
        by (inr a) = record {
          xs = a.values;
          each = a.each_value;
          stands_so = inr (record {
            index = a.index;
            spare = a.spare_values;
            items = index_values a.index ++ in_second m (stored_keys a) (stored_values a);
            items_long = second_size a;
            fits = (let q = index_few a in let s = d.few in omega (arith, q, s));
            enough = few_entries a;
            one_set = found_set core.blocks core.statics d.one _ a.first_is;
            second_is = a.second_is;
            stands = side (is_plain m.key) refl;
          });
        }
          where
            side : (b : Bool) → is_plain m.key ≡ b → In p args layout l whole of (not (is_plain m.key)) f made core left head d.one d.two k d.places (stored_value m) m.value a.values (not b) a.index a.spare_values
            side true e = subst (λ b. found core.blocks core.statics d.one ≡ Some (items_block (first m) (if b then stored_values a else stored_keys a))) e a.first_is
            side false e = subst (λ b. found core.blocks core.statics d.two ≡ Some (items_block (second m) (index_values a.index ++ (if b then stored_keys a else stored_values a)))) e a.second_is

  -- ---- the call

  module _ (graph : Keyed) (asked : HasListing p layout raised graph l f) (of : Part) (in_the_second q : Bool) (t : LlType) (seen item : Element) (vs : List Meant) (column : Column of asked.made in_the_second (if q then type.Signed else t) t (Some seen) vs) (count : length vs ≡ k) (plain : q ≡ true → is_plain t ≡ true)
      (typed : t ≡ field_type (element_type layout seen)) (stay : Stays layout known (Some seen) (Some item)) (item_is : known.items l ≡ Some item) (target : list_item layout (word (l + 1)) ≡ field_type (element_type layout item))
      (paid_is : paid of whole ≡ op.GetField 1 m.dict 0 0 ∷ op.Step (word_operand (pos 1)) ∷ op.Step (Var 1) ∷ []) (graph_is : slice_get p.graphs f ≡ Some (list_over of whole (shape_of layout l) (Set layout l whole in_the_second asked.made (if q then type.Signed else t) t)).0) where
    abbrev xs : List Value
    xs = column.xs

    seen_there : element_type layout seen ≡ type.Void → ⊥
    seen_there h = stays_there stay (sym (stays_typed stay) ∙ h)

    typed_so : t ≡ element_type layout seen
    typed_so = typed ∙ field_is (element_type layout seen) seen_there

    target_so : t ≡ (shape_of layout l).item
    target_so = typed ∙ ap field_type (stays_typed stay) ∙ sym target

    long : length xs ≡ k
    long = each_long column.each ∙ count

    calls : Lists p args layout l whole of in_the_second f asked.made core left head d.one d.two k d.places (if q then type.Signed else t) t xs
    calls = lists_all p args layout l whole of in_the_second f asked.made core left head d.one d.two k d.places xs (structs.dicts n m mapping).first (structs.dicts n m mapping).second (structs.dicts n m mapping).head (structs.heads l struct) (structs.arrays l struct) asked.makes.graph d.head_is steps
        (λ j x h. held_set stands (held_at column.each j x h).1) long paid_is q t plain target_so (λ j x h. subst (λ t. IsOf t x) (sym typed_so) (is_of stay (held_at column.each j x h).1)) graph_is column.stands_so

    pub call_lacks_steps : left < 1 + length vs → (waits : List Frame) → Lacked p args (Calling f (head ∷ []) waits core) core
    call_lacks_steps short = calls.0 (omega (arith, short, count))

    pub call_makes : 1 + length vs ≤ left → MadeList p args layout known g heap (left - (1 + length vs)) l vs (k + 1) (λ waits. Calling f (head ∷ []) waits core) core
    call_makes enough = subst (λ q. MadeList p args layout known g heap (left - (1 + q)) l vs (k + 1) (λ waits. Calling f (head ∷ []) waits core) core) (sym count)
        (made_so p args layout known g heap left (left - (1 + k)) l vs (k + 1) (λ waits. Calling f (head ∷ []) waits core) core xs (raw k) k stands (omega arith) struct (subst (λ s. EachHolds layout known g s xs vs) (sym item_is) (each_stays stay column.each)) (sym count)
        (let s = stands.few in omega (arith, s, enough, count, long)) (subst (λ c. HasRoom c (left - (1 + k))) (sym count) (let s = stands.few in omega (arith, s, enough, count))) (structs.lists_apart l struct) (calls.1 (omega (arith, enough, count))))

  -- ---- keys, and values

  abbrev pub Calls : List Meant → Type 0
  Calls vs = (left < 1 + length vs → (waits : List Frame) → Lacked p args (Calling f (head ∷ []) waits core) core) × (1 + length vs ≤ left → MadeList p args layout known g heap (left - (1 + length vs)) l vs (k + 1) (λ waits. Calling f (head ∷ []) waits core) core)

  module _ (seen item : Element) (stay : Stays layout known (Some seen) (Some item)) (item_is : known.items l ≡ Some item) (target : list_item layout (word (l + 1)) ≡ field_type (element_type layout item)) where
    pub keys_are_made : known.keys m.dict ≡ Some seen → m.key ≡ field_type (element_type layout seen) → HasListing p layout raised (keyed.Keys n l) l f → Calls (keys_of d.pairs)
    unfolding dict_graph list item_set item_of key_as paid
    keys_are_made seen_is typed asked =
        let column = subst (λ s. Column part.Key asked.made (is_plain m.key) (stored_key m) m.key s (keys_of d.pairs)) seen_is (keys_column part.Key asked.made) in
        let count = pairs_long d.pairs in
        let graph_is = asked.graph_is ∙ ap (λ s. Some (list layout s (shape_of layout l) part.Key asked.made).0) (shape_is layout n m mapping) in (
          call_lacks_steps (keyed.Keys n l) asked part.Key (is_plain m.key) (is_plain m.key) m.key seen item (keys_of d.pairs) column count (λ h. h) typed stay item_is target refl graph_is,
          call_makes (keyed.Keys n l) asked part.Key (is_plain m.key) (is_plain m.key) m.key seen item (keys_of d.pairs) column count (λ h. h) typed stay item_is target refl graph_is,
        )

    pub values_are_made : known.items m.dict ≡ Some seen → m.value ≡ field_type (element_type layout seen) → HasListing p layout raised (keyed.Values n l) l f → Calls (values_of d.pairs)
    unfolding dict_graph list item_set item_of value_of paid
    values_are_made seen_is typed asked =
        let column = subst (λ s. Column part.Value asked.made (not (is_plain m.key)) (stored_value m) m.value s (values_of d.pairs)) seen_is (values_column part.Value asked.made) in
        let count = length-map d.pairs (λ (q : Meant × Meant). q.1) in
        let graph_is = asked.graph_is ∙ ap (λ s. Some (list layout s (shape_of layout l) part.Value asked.made).0) (shape_is layout n m mapping) in (
          call_lacks_steps (keyed.Values n l) asked part.Value (not (is_plain m.key)) (not (is_plain m.key) && is_plain m.value) m.value seen item (values_of d.pairs) column count (and_second (not (is_plain m.key)) (is_plain m.value)) typed stay item_is target refl graph_is,
          call_makes (keyed.Values n l) asked part.Value (not (is_plain m.key)) (not (is_plain m.key) && is_plain m.value) m.value seen item (values_of d.pairs) column count (and_second (not (is_plain m.key)) (is_plain m.value)) typed stay item_is target refl graph_is,
        )
