-- A key that is there keeps its place, and its value is another.
use Rattle.std.proofs.Common.{◌≡◌, ◌<◌, ℕ, ◌+◌, ◌^◌, Bool, true, false, List, [], ◌∷◌, ◌++◌, length, map, Option, Some, None, pos, refl, sym, ap, ◌∙◌, subst, arith, append_assoc, length-append, inr}
use Rattle.std.specs.Prelude.{slice_get, slice_set, if◌then◌else◌}
use Rattle.std.proofs.lemmas.List.{length-set}
use Rattle.csub_tree.specs.State.{Value, Unset, Word, Block, Core}
use Rattle.csub_tree.specs.Operation.{is_unset}
use Rattle.csub_tree.specs.declared.tree.COperand.TheVariants.{Var}
use Rattle.ll_code.specs.State.{Frame, At}
use Rattle.ll_code.specs.declared.program.LlExit.TheVariants as exit
use Rattle.ll_code.specs.declared.program.LlProgram.{LlProgram}
use Rattle.ll_leads.specs.Path.{Leads}
use Rattle.ll_leads.proofs.Joined.{leads_then, leads_more}
use Rattle.ll_leads.proofs.Ways.{gives}
use Rattle.ll_texts.specs.Texts.{found}
use Rattle.ll_texts.proofs.Numbers.{adds, subs}
use Rattle.ll_texts.proofs.Writing.{put_mid}
use Rattle.rpy_tree.specs.Value.{Value as Meant, Mapped, Heap}
use Rattle.rpy_meaning.specs.Compare.{is_equal}
use Rattle.rtyper_layout.specs.declared.dicts.Mapping.{Mapping}
use Rattle.rtyper_layout.specs.declared.layout.Layout.{Layout}
use Rattle.rtyper_layout.specs.Dicts.{first, second, keys_last, is_indexed, stored_value}
use Rattle.rtyper_layout.specs.Layout.{mapping_at}
use Rattle.rtyper_dict.specs.Changing.{store_ops, store_in_first, store_in_second}
use Rattle.dict_laws.specs.Keys.{AreApart}
use Rattle.object_laws.specs.Dicts.{DictAt, Arrays, IsIndexIf, as_item, hash, dict_block, items_block, index_values, keys_of, values_of, in_first, in_second}
use Rattle.object_laws.specs.Done.{HasLayout}
use Rattle.object_laws.specs.Ghost.{Ghost, DictOf}
use Rattle.object_laws.specs.Known.{Known}
use Rattle.object_laws.specs.Represents.{Represents}
use Rattle.object_laws.specs.Values.{Holds, EachHolds}
use Rattle.object_laws.proofs.Blocks.{found_set, reads_field}
use Rattle.object_laws.proofs.Changing.{wrote_at, put_block, put_static, get_set_here}
use Rattle.object_laws.proofs.Growing.{grown_none}
use Rattle.object_laws.proofs.Valued.{held_set}
use Rattle.dict_change_laws.proofs.Adding.{empty_block, set_behind}
use Rattle.dict_change_laws.proofs.Changes.{Mine, three_mine, dict_rewritten}
use Rattle.dict_change_laws.proofs.Entering.{words_long}
use Rattle.dict_change_laws.proofs.Keyed.{item_set, map_both, map_long}
use Rattle.dict_change_laws.proofs.Pairs.{Split}
use Rattle.dict_change_laws.proofs.Parting.{Parted, parted}
use Rattle.dict_change_laws.proofs.Putting.{array_of, puts_item, at_most_one}
use Rattle.dict_change_laws.proofs.Rewriting.{Have, Three, have_first, have_second, rewrote_none}
use Rattle.dict_change_laws.proofs.Standing.{the_shape, all_keys, all_values, keys_long, values_long, values_count, firsts_long, total_long, total_small, both_long}

module _ (p : LlProgram) (args : List (List ℕ)) (layout : Layout) (known : Known) (structs : HasLayout p layout) (n : ℕ) (m : Mapping) (mapping : mapping_at layout.mappings n ≡ Some m)
    (g : Ghost) (heap : Heap) (left : ℕ) (core : Core) (r : Represents layout known g heap left core.blocks core.statics) (i : ℕ) (head : Value) (home : slice_get g.homes i ≡ Some (record { sort = DictOf n; head = head })) (l : DictAt layout known g heap core.blocks core.statics m i head)
    (a : Arrays layout known g core.blocks core.statics m i l.pairs l.places l.one l.two) (at : ℕ) (k : Meant) (s : Split k l.pairs at) (vx : Value) (v : Meant) (v_held : Holds layout known g (known.items m.dict) vx v) where
  abbrev count : ℕ
  count = length l.pairs

  abbrev y : Value
  y = as_item m.value (stored_value m) vx

  y_set : is_unset y ≡ false
  y_set = item_set m.value (stored_value m) vx (held_set r v_held)

  abbrev pairs2 : List (Meant × Meant)
  pairs2 = s.pre ++ (s.pair.0, v) ∷ s.post

  abbrev values2 : List Value
  values2 = slice_set (all_values a) at y

  abbrev size : ℕ
  size = length a.index

  abbrev total : ℕ
  total = length (index_values a.index ++ in_second m (all_keys a) (all_values a))

  abbrev fields1 : List Value
  fields1 = Word (pos (length (in_first m (all_keys a) (all_values a)))) ∷ []

  three : Three (Mine g i) head l.one l.two
  three = three_mine g i head l.one l.two l.head_use a.first_use a.second_use

  head_set : is_unset head ≡ false
  head_set = found_set core.blocks core.statics head _ l.head_is

  one_set : is_unset l.one ≡ false
  one_set = found_set core.blocks core.statics l.one _ a.first_is

  two_set : is_unset l.two ≡ false
  two_set = found_set core.blocks core.statics l.two _ a.second_is

  total_is : total ≡ size + l.places
  total_is = total_long a

  total_fits : total < 2 ^ 63
  total_fits = (let t = total_small a l.few in let e = total_is in omega (arith, t, e))

  within : at < count
  within = (let q = ap length s.are in let w = length-append s.pre (s.pair ∷ s.post) in let e = s.long in omega (arith, q, w, e))

  inside : at < l.places
  inside = (let c = values_count a in let h = a.value_places in omega (arith, c, h, within))

  -- ---- what is written

  abbrev head1 : Block
  head1 = dict_block m.dict count l.places l.one l.two

  pub record Written (x : Value) (flag : Value) (f : ℕ) : Type 0 where
    pub blocks : List (Option Block)
    pub statics : List Block
    pub n2 : ℕ
    pub vars : List Value
    pub have : Have (Mine g i) head l.one l.two core.blocks core.statics blocks statics head1 (array_of (first m) fields1 (in_first m (all_keys a) values2)) (array_of (second m) (Word (pos total) ∷ []) (index_values a.index ++ in_second m (all_keys a) values2))
    pub leads : (waits : List Frame) → Leads p args 1 (At (store_ops (the_shape m)) (exit.Return None) waits (record core { function = f; block = 2; at = 0; vars = head ∷ x ∷ y ∷ Word (pos at) ∷ flag ∷ Unset ∷ Unset ∷ Unset ∷ Unset ∷ Unset ∷ Unset ∷ [] })) [] (At [] (exit.Return None) waits (record core { function = f; block = 2; at = n2; vars = vars; blocks = blocks; statics = statics }))

  have0 : Have (Mine g i) head l.one l.two core.blocks core.statics core.blocks core.statics head1 (items_block (first m) (in_first m (all_keys a) (all_values a))) (items_block (second m) (index_values a.index ++ in_second m (all_keys a) (all_values a)))
  have0 = record { rewrote = rewrote_none; head_is = l.head_is; first_is = a.first_is; second_is = a.second_is }

  -- values in the first array
  module _ (last : keys_last m ≡ true) (x flag : Value) (f : ℕ) where
    firsts_are : in_first m (all_keys a) (all_values a) ≡ all_values a
    firsts_are = ap (λ c. if c then all_values a else all_keys a) last

    firsts2 : all_values a ≡ in_first m (all_keys a) (all_values a)
    firsts2 = sym firsts_are

    first_there : found core.blocks core.statics l.one ≡ Some (array_of (first m) fields1 (all_values a))
    first_there = a.first_is ∙ ap (λ xs. Some (array_of (first m) fields1 xs)) firsts_are

    abbrev first2 : Block
    first2 = array_of (first m) fields1 values2

    in_first_array : Written x flag f
    unfolding store_ops
    in_first_array = record {
      blocks = put_block l.one first2 core.blocks;
      statics = put_static l.one first2 core.statics;
      n2 = 2;
      vars = head ∷ x ∷ y ∷ Word (pos at) ∷ flag ∷ l.one ∷ Unset ∷ Unset ∷ Unset ∷ Unset ∷ Unset ∷ [];
      have = subst (λ xs. Have (Mine g i) head l.one l.two core.blocks core.statics (put_block l.one first2 core.blocks) (put_static l.one first2 core.statics) head1 (array_of (first m) fields1 xs) (array_of (second m) (Word (pos total) ∷ []) (index_values a.index ++ in_second m (all_keys a) values2))) (ap (λ c. if c then values2 else all_keys a) (sym last))
          (subst (λ xs. Have (Mine g i) head l.one l.two core.blocks core.statics (put_block l.one first2 core.blocks) (put_static l.one first2 core.statics) head1 first2 (array_of (second m) (Word (pos total) ∷ []) (index_values a.index ++ xs))) (ap (λ c. if c then all_keys a else all_values a) last ∙ ap (λ c. if c then all_keys a else values2) (sym last))
          (have_first three have0 refl (wrote_at core.blocks core.statics l.one _ first2 a.first_is)));
      leads = λ waits. subst (λ c. Leads p args 1 (At (if c then store_in_first (the_shape m) else store_in_second (the_shape m)) (exit.Return None) waits begun) [] (At [] (exit.Return None) waits (record core { function = f; block = 2; at = 2; vars = head ∷ x ∷ y ∷ Word (pos at) ∷ flag ∷ l.one ∷ Unset ∷ Unset ∷ Unset ∷ Unset ∷ Unset ∷ []; blocks = put_block l.one first2 core.blocks; statics = put_static l.one first2 core.statics }))) (sym last)
          (leads_more (0 + _) 1 (let o = at_most_one y in omega (arith, o))
          (leads_then (reads_field 4 head1 l.one (structs.dicts n m mapping).head l.head_is refl one_set 2 refl)
          (puts_item p args _ _ waits _ (first m) 5 (Var 3) (Var 2) 1 (array_of (first m) fields1 (all_values a)) at y (structs.dicts n m mapping).first refl refl (let e = values_long a in omega (arith, e, inside)) refl y_set l.one refl first_there)));
    }
      where
        begun : Core
        begun = record core { function = f; block = 2; at = 0; vars = head ∷ x ∷ y ∷ Word (pos at) ∷ flag ∷ Unset ∷ Unset ∷ Unset ∷ Unset ∷ Unset ∷ Unset ∷ [] }

  -- and in the second one
  module _ (last : keys_last m ≡ false) (x flag : Value) (f : ℕ) where
    seconds_are : in_second m (all_keys a) (all_values a) ≡ all_values a
    seconds_are = ap (λ c. if c then all_keys a else all_values a) last

    second_there : found core.blocks core.statics l.two ≡ Some (array_of (second m) (Word (pos total) ∷ []) (index_values a.index ++ all_values a))
    second_there = a.second_is ∙ ap (λ xs. Some (array_of (second m) (Word (pos total) ∷ []) (index_values a.index ++ xs))) seconds_are

    abbrev second2 : Block
    second2 = array_of (second m) (Word (pos total) ∷ []) (slice_set (index_values a.index ++ all_values a) (size + at) y)

    abbrev ended : List Value
    ended = head ∷ x ∷ y ∷ Word (pos at) ∷ flag ∷ Unset ∷ l.two ∷ Word (pos total) ∷ Word (pos l.places) ∷ Word (pos size) ∷ Word (pos (size + at)) ∷ []

    in_second_array : Written x flag f
    unfolding store_ops
    in_second_array = record {
      blocks = put_block l.two second2 core.blocks;
      statics = put_static l.two second2 core.statics;
      n2 = 6;
      vars = ended;
      have = subst (λ xs. Have (Mine g i) head l.one l.two core.blocks core.statics (put_block l.two second2 core.blocks) (put_static l.two second2 core.statics) head1 (array_of (first m) fields1 xs) (array_of (second m) (Word (pos total) ∷ []) (index_values a.index ++ in_second m (all_keys a) values2))) (ap (λ c. if c then all_values a else all_keys a) last ∙ ap (λ c. if c then values2 else all_keys a) (sym last))
          (subst (λ xs. Have (Mine g i) head l.one l.two core.blocks core.statics (put_block l.two second2 core.blocks) (put_static l.two second2 core.statics) head1 (items_block (first m) (in_first m (all_keys a) (all_values a))) (array_of (second m) (Word (pos total) ∷ []) xs))
          (set_behind a.index (all_values a) at y ∙ ap (λ c. index_values a.index ++ (if c then all_keys a else values2)) (sym last))
          (have_second three have0 refl (wrote_at core.blocks core.statics l.two _ second2 a.second_is)));
      leads = λ waits. subst (λ c. Leads p args 1 (At (if c then store_in_first (the_shape m) else store_in_second (the_shape m)) (exit.Return None) waits begun) [] (At [] (exit.Return None) waits (record core { function = f; block = 2; at = 6; vars = ended; blocks = put_block l.two second2 core.blocks; statics = put_static l.two second2 core.statics }))) (sym last)
          (leads_more (0 + (0 + (0 + (0 + (0 + _))))) 1 (let o = at_most_one y in omega (arith, o))
          (leads_then (reads_field 4 head1 l.two (structs.dicts n m mapping).head l.head_is refl two_set 3 refl)
          (leads_then (reads_field 1 (array_of (second m) (Word (pos total) ∷ []) (index_values a.index ++ all_values a)) (Word (pos total)) (structs.dicts n m mapping).second second_there refl refl 0 refl)
          (leads_then (reads_field 4 head1 (Word (pos l.places)) (structs.dicts n m mapping).head l.head_is refl refl 1 refl)
          (leads_then (gives (Word (pos size)) (subs total l.places size (let e = total_is in omega (arith, e)) total_fits))
          (leads_then (gives (Word (pos (size + at))) (adds size at (let e = total_is in let t = total_fits in omega (arith, e, t, inside))))
          (puts_item p args _ _ waits _ (second m) 6 (Var 10) (Var 2) 1 (array_of (second m) (Word (pos total) ∷ []) (index_values a.index ++ all_values a)) (size + at) y (structs.dicts n m mapping).second refl refl (let w = words_long a.index (all_values a) in let e = values_long a in omega (arith, w, e, inside)) refl y_set l.two refl second_there)))))));
    }
      where
        begun : Core
        begun = record core { function = f; block = 2; at = 0; vars = head ∷ x ∷ y ∷ Word (pos at) ∷ flag ∷ Unset ∷ Unset ∷ Unset ∷ Unset ∷ Unset ∷ Unset ∷ [] }

  pub written : (x flag : Value) (f : ℕ) → Written x flag f
  written x flag f = by (keys_last m) refl
    where
      by : (c : Bool) → keys_last m ≡ c → Written x flag f
      by true h = in_first_array h x flag f
      by false h = in_second_array h x flag f

  -- ---- the dict

  values_part : Parted layout known g (known.items m.dict) a.values (values_of s.pre) (values_of s.post)
  values_part = parted (values_of s.pre) s.pair.1 (values_of s.post) (subst (EachHolds layout known g (known.items m.dict) a.values) (ap values_of s.are ∙ map_both (λ (q : Meant × Meant). q.1) s.pre (s.pair ∷ s.post)) a.each_value)

  abbrev values3 : List Value
  values3 = values_part.pre ++ vx ∷ values_part.post

  put_value : (f : Value → Value) (xs pre post spare : List Value) (gap w : Value) (n : ℕ) → xs ≡ pre ++ gap ∷ post → length pre ≡ n → slice_set (map f xs ++ spare) n (f w) ≡ map f (pre ++ w ∷ post) ++ spare
  put_value f xs pre post spare gap w n are long =
      ap (λ l. slice_set l n (f w)) (ap (λ xs. map f xs ++ spare) are ∙ ap (λ l. l ++ spare) (map_both f pre (gap ∷ post)) ∙ append_assoc (map f pre) (f gap ∷ map f post) spare)
      ∙ put_mid (map f pre) (f gap) (map f post ++ spare) n (f w) (sym (map_long f pre ∙ long))
      ∙ sym (ap (λ l. l ++ spare) (map_both f pre (w ∷ post)) ∙ append_assoc (map f pre) (f w ∷ map f post) spare)

  values_are : values2 ≡ map (as_item m.value (stored_value m)) values3 ++ a.spare_values
  values_are = put_value (as_item m.value (stored_value m)) a.values values_part.pre values_part.post a.spare_values values_part.gap vx at values_part.are (values_part.long ∙ map_long (λ (q : Meant × Meant). q.1) s.pre ∙ s.long)

  values2_long : length values2 ≡ l.places
  values2_long = length-set (all_values a) at y ∙ values_long a

  keys_same : keys_of l.pairs ≡ keys_of pairs2
  keys_same = ap keys_of s.are ∙ map_both (λ (q : Meant × Meant). q.0) s.pre (s.pair ∷ s.post) ∙ sym (map_both (λ (q : Meant × Meant). q.0) s.pre ((s.pair.0, v) ∷ s.post))

  count_same : count ≡ length pairs2
  count_same = sym (map_long (λ (q : Meant × Meant). q.0) l.pairs) ∙ ap length keys_same ∙ map_long (λ (q : Meant × Meant). q.0) pairs2

  module _ (x flag : Value) (f : ℕ) (w : Written x flag f) where
    changed : DictAt layout known g (slice_set heap i (Mapped pairs2)) w.blocks w.statics m i head
    changed = record {
      pairs = pairs2;
      object = get_set_here heap i (Mapped pairs2) (Mapped l.pairs) l.object;
      places = l.places;
      one = l.one;
      two = l.two;
      head_use = l.head_use;
      head_is = w.have.head_is ∙ ap (λ n. Some (dict_block m.dict n l.places l.one l.two)) count_same;
      arrays = inr (record {
        keys = a.keys;
        values = values3;
        spare_keys = a.spare_keys;
        spare_values = a.spare_values;
        index = a.index;
        first_use = a.first_use;
        second_use = a.second_use;
        first_is = w.have.first_is ∙ ap Some (empty_block (first m) (length (in_first m (all_keys a) (all_values a))) (in_first m (all_keys a) values2) (firsts_long a ∙ sym (both_long (keys_last m) values2 (all_keys a) l.places values2_long (keys_long a)))) ∙ ap (λ vs. Some (items_block (first m) (in_first m (all_keys a) vs))) values_are;
        second_is = w.have.second_is ∙ ap Some (empty_block (second m) total (index_values a.index ++ in_second m (all_keys a) values2) (total_is ∙ sym (words_long a.index (in_second m (all_keys a) values2) ∙ ap (λ n. size + n) (both_long (keys_last m) (all_keys a) values2 l.places (keys_long a) values2_long)))) ∙ ap (λ vs. Some (items_block (second m) (index_values a.index ++ in_second m (all_keys a) vs))) values_are;
        each_key = subst (EachHolds layout known g (known.keys m.dict) a.keys) keys_same a.each_key;
        each_value = subst (EachHolds layout known g (known.items m.dict) values3) (sym (map_both (λ (q : Meant × Meant). q.1) s.pre ((s.pair.0, v) ∷ s.post))) (values_part.with vx v v_held);
        no_keys = a.no_keys;
        no_values = a.no_values;
        key_places = a.key_places;
        value_places = (let e = ap length values_part.are in let q = length-append values_part.pre (values_part.gap ∷ values_part.post) in let u = length-append values_part.pre (vx ∷ values_part.post) in let h = a.value_places in omega (arith, e, q, u, h));
        indexed = subst (λ ks. IsIndexIf (is_indexed m) (map (hash layout m.key) ks) l.places a.index) keys_same a.indexed;
      });
      apart = subst (AreApart is_equal) keys_same l.apart;
      few = l.few;
    }

    pub kept_stands : Represents layout known g (slice_set heap i (Mapped pairs2)) left w.blocks w.statics
    kept_stands = dict_rewritten n i head m pairs2 r grown_none refl home mapping r.made (λ x block h. h) (λ x u h. refl) r.settled (λ x u h. h) w.have.rewrote changed

    pub kept_few : length w.blocks ≡ length core.blocks
    kept_few = w.have.rewrote.made
