-- The graph that takes an entry out.
use Rattle.std.proofs.Common.{◌≡◌, ◌<◌, ◌≤◌, ℕ, suc, ◌+◌, ◌^◌, ◌||◌, Bool, true, false, List, [], ◌∷◌, ◌++◌, length, map, Option, Some, None, ℤ, pos, refl, sym, ap, ◌∙◌, subst, arith, append_assoc, length-append, inr}
use Rattle.std.specs.Prelude.{slice_get, slice_set, if◌then◌else◌}
use Rattle.csub_tree.specs.State.{Value, Unset, Word, Block, Core}
use Rattle.csub_tree.specs.Operation.{is_unset}
use Rattle.csub_tree.specs.declared.tree.COperand.TheVariants.{Var}
use Rattle.ll_code.specs.State.{Frame, Calling, At}
use Rattle.ll_code.specs.declared.program.LlType.{LlType}
use Rattle.ll_code.specs.declared.program.LlOp.{LlOp}
use Rattle.ll_code.specs.declared.program.LlExit.TheVariants as exit
use Rattle.ll_code.specs.declared.program.LlProgram.{LlProgram}
use Rattle.ll_held.specs.Held.{is_reference}
use Rattle.ll_leads.specs.Path.{Leads, reference_in}
use Rattle.ll_leads.proofs.Joined.{leads_then, leads_more}
use Rattle.ll_leads.proofs.Ways.{many, enter, gives}
use Rattle.ll_texts.specs.Texts.{found}
use Rattle.ll_texts.proofs.Numbers.{adds, subs}
use Rattle.ll_texts.proofs.Writing.{put_mid}
use Rattle.rpy_tree.specs.Value.{Value as Meant, Mapped, Heap}
use Rattle.rpy_meaning.specs.Compare.{is_equal}
use Rattle.rpy_meaning.specs.Sequences.{without_key}
use Rattle.rtyper_layout.specs.declared.dicts.Mapping.{Mapping}
use Rattle.rtyper_layout.specs.declared.layout.Layout.{Layout}
use Rattle.rtyper_layout.specs.Dicts.{first, second, keys_last, is_indexed, stored_key, stored_value}
use Rattle.rtyper_layout.specs.Layout.{mapping_at}
use Rattle.rtyper_data.specs.Converting.{default_operand}
use Rattle.rtyper_dict.specs.Changing.{remove_graph, remove_moves, remove_ends, remove_ops, remove_types}
use Rattle.rtyper_dict.specs.Indexing.{enter_graph, index_graph}
use Rattle.rtyper_dict.specs.Parts.{and_call, first_item, second_item}
use Rattle.dict_laws.specs.Index.{EntersAll, IsRight}
use Rattle.dict_laws.specs.Masks.{place_of}
use Rattle.dict_laws.specs.Keys.{AreApart}
use Rattle.list_laws.proofs.Copying.{AllSet}
use Rattle.list_laws.proofs.Moving.{Moved, moved}
use Rattle.list_laws.proofs.Roomed.{all_set}
use Rattle.list_copy_laws.proofs.Between.{the_copy}
use Rattle.object_laws.specs.Dicts.{DictAt, Arrays, IsIndex, IsIndexIf, as_item, hash, dict_block, index_values, keys_of, values_of, in_first, in_second}
use Rattle.object_laws.specs.Done.{HasLayout}
use Rattle.object_laws.specs.Ghost.{Ghost, DictOf, Stays, Second}
use Rattle.object_laws.specs.Known.{Known}
use Rattle.object_laws.specs.Represents.{Represents}
use Rattle.object_laws.specs.Values.{EachHolds}
use Rattle.object_laws.proofs.Blocks.{found_set, reads_field}
use Rattle.object_laws.proofs.Calling.{Returns, calls_back}
use Rattle.object_laws.proofs.Changing.{wrote_at, put_block, put_static, get_set_here, uses_apart}
use Rattle.object_laws.proofs.Growing.{grown_none}
use Rattle.dict_change_laws.proofs.Adding.{empty_block}
use Rattle.dict_change_laws.proofs.Changes.{Mine, three_mine, dict_rewritten, not_mine}
use Rattle.dict_change_laws.proofs.Entering.{words_long, index_long, all_long}
use Rattle.dict_laws.proofs.Entering.{makes_indices}
use Rattle.dict_change_laws.proofs.Filling.{default_of, default_set, default_empty, default_counts}
use Rattle.dict_change_laws.proofs.Growing.{IndexesBy}
use Rattle.dict_change_laws.proofs.Indexing.{indexes, zeros, zeros_long}
use Rattle.dict_change_laws.specs.Changed.{AreThere}
use Rattle.dict_change_laws.proofs.Keyed.{Staying, Hashes, items_set, map_both, map_long, all_hashed, all_below}
use Rattle.dict_laws.proofs.Masked.{masks_lead}
use Rattle.dict_change_laws.proofs.Pairs.{Split, apart_less}
use Rattle.dict_change_laws.proofs.Parting.{Parted, parted, set_behind}
use Rattle.dict_change_laws.proofs.Putting.{put, array_of, puts_item, puts_field}
use Rattle.dict_change_laws.proofs.Rewriting.{Have, Three, have_head, have_first, have_second, rewrote_none}
use Rattle.dict_change_laws.proofs.Standing.{the_shape, all_keys, all_values, keys_count, values_count, firsts_long, total_long, total_small, index_of, both_long}

pub record RemovesBy (p : LlProgram) (args : List (List ℕ)) (layout : Layout) (known : Known) (m : Mapping) (f : ℕ) : Type 0 where
  pub moves : ℕ
  pub moves2 : ℕ
  pub indexer : Option ℕ
  pub t1 : LlType
  pub t2 : LlType
  pub graph : slice_get p.graphs f ≡ Some (remove_graph moves moves2 indexer (the_shape m))
  pub moving : slice_get p.graphs moves ≡ Some (the_copy (first m) (first m) t1)
  pub moving2 : slice_get p.graphs moves2 ≡ Some (the_copy (second m) (second m) t2)
  pub indexing : IndexesBy p args layout known m (is_indexed m) indexer

-- ---- lists of one array or the other

abbrev both : Bool → List Value → List Value → List Value
both c xs ys = if c then xs else ys

parts_of : (c : Bool) (x y : Value) (a b e d g h : List Value) → both c (a ++ x ∷ (b ++ e)) (d ++ y ∷ (g ++ h)) ≡ both c a d ++ (if c then x else y) ∷ (both c b g ++ both c e h)
parts_of true x y a b e d g h = refl
parts_of false x y a b e d g h = refl

parts_left : (c : Bool) (x y : Value) (a b e d g h : List Value) → both c a d ++ (both c b g ++ (if c then x else y) ∷ both c e h) ≡ both c (a ++ (b ++ x ∷ e)) (d ++ (g ++ y ∷ h))
parts_left true x y a b e d g h = refl
parts_left false x y a b e d g h = refl

either_is : (c : Bool) (x : Value) → (if c then x else x) ≡ x
either_is true x = refl
either_is false x = refl

both_set : (c : Bool) (xs ys : List Value) → AllSet xs → AllSet ys → AllSet (both c xs ys)
both_set true xs ys h k = h
both_set false xs ys h k = k

either_empty : (c : Bool) (s t : LlType) → is_reference (if c then default_of s else default_of t) ≡ false
either_empty true s t = default_empty s
either_empty false s t = default_empty t

there_less : (pre : List Meant) (x : Meant) (post : List Meant) → AreThere (pre ++ x ∷ post) → AreThere (pre ++ post)
there_less [] x post h = h.1
there_less (y ∷ pre) x post h = (h.0, there_less pre x post h.1)

-- what the call leaves
pub record Removed (p : LlProgram) (args : List (List ℕ)) (layout : Layout) (known : Known) (g : Ghost) (heap : Heap) (left i : ℕ) (head : Value) (pairs : List (Meant × Meant)) (at f most : ℕ) (core : Core) : Type 0 where
  pub blocks : List (Option Block)
  pub statics : List Block
  pub stands : Represents layout known g (slice_set heap i (Mapped pairs)) left blocks statics
  pub few : length blocks ≡ length core.blocks
  pub returns : (waits : List Frame) → Returns p args most (Calling f (head ∷ Word (pos at) ∷ []) waits core) Unset waits (record core { blocks = blocks; statics = statics })

module _ (p : LlProgram) (args : List (List ℕ)) (layout : Layout) (known : Known) (structs : HasLayout p layout) (n : ℕ) (m : Mapping) (mapping : mapping_at layout.mappings n ≡ Some m) (f : ℕ) (by : RemovesBy p args layout known m f)
    (g : Ghost) (heap : Heap) (left : ℕ) (core : Core) (r : Represents layout known g heap left core.blocks core.statics) (i : ℕ) (head : Value) (home : slice_get g.homes i ≡ Some (record { sort = DictOf n; head = head })) (l : DictAt layout known g heap core.blocks core.statics m i head)
    (a : Arrays layout known g core.blocks core.statics m i l.pairs l.places l.one l.two) (at : ℕ) (k : Meant) (s : Split k l.pairs at) (there : is_indexed m ≡ true → AreThere (keys_of l.pairs)) where
  abbrev c : Bool
  c = keys_last m

  abbrev count : ℕ
  count = length l.pairs

  abbrev pairs2 : List (Meant × Meant)
  pairs2 = s.pre ++ s.post

  keys_part : Parted layout known g (known.keys m.dict) a.keys (keys_of s.pre) (keys_of s.post)
  keys_part = parted (keys_of s.pre) s.pair.0 (keys_of s.post) (subst (EachHolds layout known g (known.keys m.dict) a.keys) (ap keys_of s.are ∙ map_both (λ (q : Meant × Meant). q.0) s.pre (s.pair ∷ s.post)) a.each_key)

  values_part : Parted layout known g (known.items m.dict) a.values (values_of s.pre) (values_of s.post)
  values_part = parted (values_of s.pre) s.pair.1 (values_of s.post) (subst (EachHolds layout known g (known.items m.dict) a.values) (ap values_of s.are ∙ map_both (λ (q : Meant × Meant). q.1) s.pre (s.pair ∷ s.post)) a.each_value)

  abbrev ai : Value → Value
  ai = as_item m.key (stored_key m)

  abbrev av : Value → Value
  av = as_item m.value (stored_value m)

  cut_apart : (f : Value → Value) (xs pre post spare : List Value) (gap : Value) → xs ≡ pre ++ gap ∷ post → map f xs ++ spare ≡ map f pre ++ f gap ∷ (map f post ++ spare)
  cut_apart f xs pre post spare gap are = ap (λ xs. map f xs ++ spare) are ∙ ap (λ l. l ++ spare) (map_both f pre (gap ∷ post)) ∙ append_assoc (map f pre) (f gap ∷ map f post) spare

  keys_are : all_keys a ≡ map ai keys_part.pre ++ ai keys_part.gap ∷ (map ai keys_part.post ++ a.spare_keys)
  keys_are = cut_apart ai a.keys keys_part.pre keys_part.post a.spare_keys keys_part.gap keys_part.are

  values_are : all_values a ≡ map av values_part.pre ++ av values_part.gap ∷ (map av values_part.post ++ a.spare_values)
  values_are = cut_apart av a.values values_part.pre values_part.post a.spare_values values_part.gap values_part.are

  -- ---- both arrays in parts

  abbrev fpre : List Value
  fpre = both c (map av values_part.pre) (map ai keys_part.pre)

  abbrev fgap : Value
  fgap = if c then av values_part.gap else ai keys_part.gap

  abbrev fpost : List Value
  fpost = both c (map av values_part.post) (map ai keys_part.post)

  abbrev fspare : List Value
  fspare = both c a.spare_values a.spare_keys

  abbrev spre : List Value
  spre = both c (map ai keys_part.pre) (map av values_part.pre)

  abbrev sgap : Value
  sgap = if c then ai keys_part.gap else av values_part.gap

  abbrev spost : List Value
  spost = both c (map ai keys_part.post) (map av values_part.post)

  abbrev sspare : List Value
  sspare = both c a.spare_keys a.spare_values

  firsts_are : in_first m (all_keys a) (all_values a) ≡ fpre ++ fgap ∷ (fpost ++ fspare)
  firsts_are = ap (λ ks. both c (all_values a) ks) keys_are ∙ ap (λ vs. both c vs (map ai keys_part.pre ++ ai keys_part.gap ∷ (map ai keys_part.post ++ a.spare_keys))) values_are
      ∙ parts_of c (av values_part.gap) (ai keys_part.gap) (map av values_part.pre) (map av values_part.post) a.spare_values (map ai keys_part.pre) (map ai keys_part.post) a.spare_keys

  seconds_are : in_second m (all_keys a) (all_values a) ≡ spre ++ sgap ∷ (spost ++ sspare)
  seconds_are = ap (λ ks. both c ks (all_values a)) keys_are ∙ ap (λ vs. both c (map ai keys_part.pre ++ ai keys_part.gap ∷ (map ai keys_part.post ++ a.spare_keys)) vs) values_are
      ∙ parts_of c (ai keys_part.gap) (av values_part.gap) (map ai keys_part.pre) (map ai keys_part.post) a.spare_keys (map av values_part.pre) (map av values_part.post) a.spare_values

  abbrev behind : ℕ
  behind = length s.post

  keys_pre_long : length (map ai keys_part.pre) ≡ at
  keys_pre_long = map_long ai keys_part.pre ∙ keys_part.long ∙ map_long (λ (q : Meant × Meant). q.0) s.pre ∙ s.long

  values_pre_long : length (map av values_part.pre) ≡ at
  values_pre_long = map_long av values_part.pre ∙ values_part.long ∙ map_long (λ (q : Meant × Meant). q.1) s.pre ∙ s.long

  keys_post_long : length (map ai keys_part.post) ≡ behind
  keys_post_long = map_long ai keys_part.post ∙ keys_part.post_long ∙ map_long (λ (q : Meant × Meant). q.0) s.post

  values_post_long : length (map av values_part.post) ≡ behind
  values_post_long = map_long av values_part.post ∙ values_part.post_long ∙ map_long (λ (q : Meant × Meant). q.1) s.post

  fpre_long : length fpre ≡ at
  fpre_long = both_long c (map av values_part.pre) (map ai keys_part.pre) at values_pre_long keys_pre_long

  spre_long : length spre ≡ at
  spre_long = both_long c (map ai keys_part.pre) (map av values_part.pre) at keys_pre_long values_pre_long

  fpost_long : length fpost ≡ behind
  fpost_long = both_long c (map av values_part.post) (map ai keys_part.post) behind values_post_long keys_post_long

  spost_long : length spost ≡ behind
  spost_long = both_long c (map ai keys_part.post) (map av values_part.post) behind keys_post_long values_post_long

  count_is : count ≡ suc (at + behind)
  count_is = (let q = ap length s.are in let w = length-append s.pre (s.pair ∷ s.post) in let e = s.long in omega (arith, q, w, e))

  within : count ≤ l.places
  within = (let k = keys_count a in let h = a.key_places in omega (arith, k, h))

  post_set : (xs pre post : List Value) (gap : Value) → xs ≡ pre ++ gap ∷ post → AllSet xs → AllSet post
  post_set xs pre post gap are h = set_behind (pre ++ gap ∷ []) post (subst AllSet (are ∙ sym (append_assoc pre (gap ∷ []) post)) h)

  keys_post_set : AllSet (map ai keys_part.post)
  keys_post_set = items_set m.key (stored_key m) keys_part.post (post_set a.keys keys_part.pre keys_part.post keys_part.gap keys_part.are (all_set r a.each_key))

  values_post_set : AllSet (map av values_part.post)
  values_post_set = items_set m.value (stored_value m) values_part.post (post_set a.values values_part.pre values_part.post values_part.gap values_part.are (all_set r a.each_value))

  fpost_set : AllSet fpost
  fpost_set = both_set c (map av values_part.post) (map ai keys_part.post) values_post_set keys_post_set

  spost_set : AllSet spost
  spost_set = both_set c (map ai keys_part.post) (map av values_part.post) keys_post_set values_post_set

  -- ---- what stands behind then

  abbrev nothing1 : Value
  nothing1 = default_of (first_item (the_shape m))

  abbrev nothing2 : Value
  nothing2 = default_of (second_item (the_shape m))

  abbrev spare_keys2 : List Value
  spare_keys2 = (if c then nothing2 else nothing1) ∷ a.spare_keys

  abbrev spare_values2 : List Value
  spare_values2 = (if c then nothing1 else nothing2) ∷ a.spare_values

  abbrev keys2 : List Value
  keys2 = map ai (keys_part.pre ++ keys_part.post) ++ spare_keys2

  abbrev values2 : List Value
  values2 = map av (values_part.pre ++ values_part.post) ++ spare_values2

  joined : (f : Value → Value) (pre post spare : List Value) → map f (pre ++ post) ++ spare ≡ map f pre ++ (map f post ++ spare)
  joined f pre post spare = ap (λ l. l ++ spare) (map_both f pre post) ∙ append_assoc (map f pre) (map f post) spare

  firsts2 : fpre ++ (fpost ++ nothing1 ∷ fspare) ≡ in_first m keys2 values2
  firsts2 = ap (λ y. fpre ++ (fpost ++ y ∷ fspare)) (of c nothing1 nothing2)
      ∙ parts_left c (if c then nothing1 else nothing2) (if c then nothing2 else nothing1) (map av values_part.pre) (map av values_part.post) a.spare_values (map ai keys_part.pre) (map ai keys_part.post) a.spare_keys
      ∙ ap (λ ks. both c (map av values_part.pre ++ (map av values_part.post ++ spare_values2)) ks) (sym (joined ai keys_part.pre keys_part.post spare_keys2)) ∙ ap (λ vs. both c vs keys2) (sym (joined av values_part.pre values_part.post spare_values2))
    where
      of : (c : Bool) (x y : Value) → x ≡ (if c then (if c then x else y) else (if c then y else x))
      of true x y = refl
      of false x y = refl

  seconds2 : spre ++ (spost ++ nothing2 ∷ sspare) ≡ in_second m keys2 values2
  seconds2 = ap (λ y. spre ++ (spost ++ y ∷ sspare)) (of c nothing1 nothing2)
      ∙ parts_left c (if c then nothing2 else nothing1) (if c then nothing1 else nothing2) (map ai keys_part.pre) (map ai keys_part.post) a.spare_keys (map av values_part.pre) (map av values_part.post) a.spare_values
      ∙ ap (λ ks. both c ks (map av values_part.pre ++ (map av values_part.post ++ spare_values2))) (sym (joined ai keys_part.pre keys_part.post spare_keys2)) ∙ ap (λ vs. both c keys2 vs) (sym (joined av values_part.pre values_part.post spare_values2))
    where
      of : (c : Bool) (x y : Value) → y ≡ (if c then (if c then y else x) else (if c then x else y))
      of true x y = refl
      of false x y = refl

  -- ---- memory

  abbrev size : ℕ
  size = length a.index

  abbrev total : ℕ
  total = length (index_values a.index ++ in_second m (all_keys a) (all_values a))

  abbrev fields1 : List Value
  fields1 = Word (pos (length (in_first m (all_keys a) (all_values a)))) ∷ []

  abbrev fields2 : List Value
  fields2 = Word (pos total) ∷ []

  three : Three (Mine g i) head l.one l.two
  three = three_mine g i head l.one l.two l.head_use a.first_use a.second_use

  head_set : is_unset head ≡ false
  head_set = found_set core.blocks core.statics head _ l.head_is

  one_set : is_unset l.one ≡ false
  one_set = found_set core.blocks core.statics l.one _ a.first_is

  two_set : is_unset l.two ≡ false
  two_set = found_set core.blocks core.statics l.two _ a.second_is

  total_is : total ≡ size + l.places
  total_is = total_long a

  total_fits : total < 2 ^ 63
  total_fits = (let t = total_small a l.few in let e = total_is in omega (arith, t, e))

  abbrev last : ℕ
  last = at + behind

  abbrev head1 : Block
  head1 = dict_block m.dict count l.places l.one l.two

  abbrev head2 : Block
  head2 = dict_block m.dict last l.places l.one l.two

  abbrev before_index : List Value
  before_index = index_values a.index ++ spre

  before_long : length before_index ≡ size + at
  before_long = length-append (index_values a.index) spre ∙ ap (λ n. n + length spre) (index_long a.index) ∙ ap (λ n. size + n) spre_long

  first_there : found core.blocks core.statics l.one ≡ Some (array_of (first m) fields1 (fpre ++ fgap ∷ (fpost ++ fspare)))
  first_there = a.first_is ∙ ap (λ xs. Some (array_of (first m) fields1 xs)) firsts_are

  second_there : found core.blocks core.statics l.two ≡ Some (array_of (second m) fields2 (before_index ++ sgap ∷ (spost ++ sspare)))
  second_there = a.second_is ∙ ap (λ xs. Some (array_of (second m) fields2 (index_values a.index ++ xs))) seconds_are ∙ ap (λ xs. Some (array_of (second m) fields2 xs)) (sym (append_assoc (index_values a.index) spre (sgap ∷ (spost ++ sspare))))

  first_short : length (fpre ++ fgap ∷ (fpost ++ fspare)) < 2 ^ 63
  first_short = (let e : length (in_first m (all_keys a) (all_values a)) ≡ length (fpre ++ fgap ∷ (fpost ++ fspare)) = ap length firsts_are in let q = firsts_long a in let f = l.few in omega (arith, e, q, f))

  second_short : length (before_index ++ sgap ∷ (spost ++ sspare)) < 2 ^ 63
  second_short = (let e : total ≡ length (before_index ++ sgap ∷ (spost ++ sspare)) = ap (λ xs. length (index_values a.index ++ xs)) seconds_are ∙ ap length (sym (append_assoc (index_values a.index) spre (sgap ∷ (spost ++ sspare)))) in let t = total_fits in omega (arith, e, t))

  have0 : Have (Mine g i) head l.one l.two core.blocks core.statics core.blocks core.statics head1 (array_of (first m) fields1 (fpre ++ fgap ∷ (fpost ++ fspare))) (array_of (second m) fields2 (before_index ++ sgap ∷ (spost ++ sspare)))
  have0 = record { rewrote = rewrote_none; head_is = l.head_is; first_is = first_there; second_is = second_there }

  -- ---- the first array

  abbrev vars1 : List Value
  vars1 = head ∷ Word (pos at) ∷ Word (pos count) ∷ Word (pos last) ∷ Word (pos (at + 1)) ∷ Word (pos behind) ∷ l.one ∷ Unset ∷ Unset ∷ Unset ∷ Unset ∷ Unset ∷ Unset ∷ Unset ∷ []

  abbrev core0 : Core
  core0 = record core { function = f; block = 0; at = 5; vars = vars1 }

  moving1 : Moved p args (length fpost) (λ waits. Calling by.moves (l.one ∷ Word (pos (length fpre + 1)) ∷ l.one ∷ Word (pos (length fpre)) ∷ Word (pos (length fpost)) ∷ []) waits core0) core0 l.one (first m) fields1 fpre fpost fspare
  moving1 = moved p args (first m) by.moves by.t1 (structs.dicts n m mapping).first by.moving l.one fields1 core0 fpost fpre fgap fspare first_there fpost_set first_short

  abbrev first1 : Block
  first1 = array_of (first m) fields1 (fpre ++ (fpost ++ moving1.last ∷ fspare))

  have1 : Have (Mine g i) head l.one l.two core.blocks core.statics moving1.blocks moving1.statics head1 first1 (array_of (second m) fields2 (before_index ++ sgap ∷ (spost ++ sspare)))
  have1 = have_first three have0 refl moving1.wrote

  abbrev first2 : Block
  first2 = array_of (first m) fields1 (slice_set (fpre ++ (fpost ++ moving1.last ∷ fspare)) last nothing1)

  abbrev core1 : Core
  core1 = record core { function = f; block = 0; at = 6; vars = vars1; blocks = moving1.blocks; statics = moving1.statics }

  abbrev core2 : Core
  core2 = put core1 l.one first2

  have2 : Have (Mine g i) head l.one l.two core.blocks core.statics core2.blocks core2.statics head1 first2 (array_of (second m) fields2 (before_index ++ sgap ∷ (spost ++ sspare)))
  have2 = have_first three have1 refl (wrote_at moving1.blocks moving1.statics l.one first1 first2 have1.first_is)

  put_last : (pre post : List Value) (x y : Value) (spare : List Value) (n : ℕ) → n ≡ length pre + length post → slice_set (pre ++ (post ++ x ∷ spare)) n y ≡ pre ++ (post ++ y ∷ spare)
  put_last pre post x y spare n h = ap (λ l. slice_set l n y) (sym (append_assoc pre post (x ∷ spare))) ∙ put_mid (pre ++ post) x spare n y (h ∙ sym (length-append pre post)) ∙ append_assoc pre post (y ∷ spare)

  first2_are : slice_set (fpre ++ (fpost ++ moving1.last ∷ fspare)) last nothing1 ≡ in_first m keys2 values2
  first2_are = put_last fpre fpost moving1.last nothing1 fspare last (let p = fpre_long in let q = fpost_long in omega (arith, p, q)) ∙ firsts2

  -- ---- the second array

  abbrev vars2 : List Value
  vars2 = head ∷ Word (pos at) ∷ Word (pos count) ∷ Word (pos last) ∷ Word (pos (at + 1)) ∷ Word (pos behind) ∷ l.one ∷ l.two ∷ Word (pos total) ∷ Word (pos l.places) ∷ Word (pos size) ∷ Word (pos (size + at)) ∷ Word (pos (size + at + 1)) ∷ Word (pos (size + last)) ∷ []

  abbrev core3 : Core
  core3 = record core { function = f; block = 1; at = 7; vars = vars2; blocks = core2.blocks; statics = core2.statics }

  moving2 : Moved p args (length spost) (λ waits. Calling by.moves2 (l.two ∷ Word (pos (length before_index + 1)) ∷ l.two ∷ Word (pos (length before_index)) ∷ Word (pos (length spost)) ∷ []) waits core3) core3 l.two (second m) fields2 before_index spost sspare
  moving2 = moved p args (second m) by.moves2 by.t2 (structs.dicts n m mapping).second by.moving2 l.two fields2 core3 spost before_index sgap sspare have2.second_is spost_set second_short

  abbrev second1 : Block
  second1 = array_of (second m) fields2 (before_index ++ (spost ++ moving2.last ∷ sspare))

  have3 : Have (Mine g i) head l.one l.two core.blocks core.statics moving2.blocks moving2.statics head1 first2 second1
  have3 = have_second three have2 refl moving2.wrote

  abbrev second2 : Block
  second2 = array_of (second m) fields2 (slice_set (before_index ++ (spost ++ moving2.last ∷ sspare)) (size + last) nothing2)

  abbrev core4 : Core
  core4 = record core { function = f; block = 1; at = 8; vars = vars2; blocks = moving2.blocks; statics = moving2.statics }

  abbrev core5 : Core
  core5 = put core4 l.two second2

  have4 : Have (Mine g i) head l.one l.two core.blocks core.statics core5.blocks core5.statics head1 first2 second2
  have4 = have_second three have3 refl (wrote_at moving2.blocks moving2.statics l.two second1 second2 have3.second_is)

  abbrev core6 : Core
  core6 = put core5 head head2

  have5 : Have (Mine g i) head l.one l.two core.blocks core.statics core6.blocks core6.statics head2 first2 second2
  have5 = have_head three have4 refl (wrote_at core5.blocks core5.statics head head1 head2 have4.head_is)

  second2_are : slice_set (before_index ++ (spost ++ moving2.last ∷ sspare)) (size + last) nothing2 ≡ index_values a.index ++ in_second m keys2 values2
  second2_are = put_last before_index spost moving2.last nothing2 sspare (size + last) (let p = before_long in let q = spost_long in omega (arith, p, q)) ∙ append_assoc (index_values a.index) spre (spost ++ nothing2 ∷ sspare) ∙ ap (λ l. index_values a.index ++ l) seconds2

  abbrev first3 : Block
  first3 = array_of (first m) fields1 (in_first m keys2 values2)

  abbrev second_of : List ℕ → Block
  second_of words = array_of (second m) fields2 (index_values words ++ in_second m keys2 values2)

  have6 : Have (Mine g i) head l.one l.two core.blocks core.statics core6.blocks core6.statics head2 first3 (second_of a.index)
  have6 = subst (λ xs. Have (Mine g i) head l.one l.two core.blocks core.statics core6.blocks core6.statics head2 (array_of (first m) fields1 xs) (second_of a.index)) first2_are
      (subst (λ xs. Have (Mine g i) head l.one l.two core.blocks core.statics core6.blocks core6.statics head2 first2 (array_of (second m) fields2 xs)) second2_are have5)

  -- ---- the way

  abbrev most : ℕ
  most = behind + behind

  places_fit : l.places < 2 ^ 63
  places_fit = (let f = l.few in omega (arith, f))

  way1 : (waits : List Frame) → Leads p args behind (Calling f (head ∷ Word (pos at) ∷ []) waits core) [] (At (remove_ends by.moves2 by.indexer (the_shape m)).ops (remove_ends by.moves2 by.indexer (the_shape m)).exit waits (record core2 { function = f; block = 1; at = 0; vars = vars1 }))
  unfolding remove_graph remove_moves remove_ends remove_ops remove_types
  way1 waits =
      leads_more (0 + (0 + (0 + (0 + (0 + (0 + (behind + (reference_in nothing1 + 0)))))))) behind (omega (arith, default_counts (first_item (the_shape m))))
      (leads_then (enter by.graph refl)
      (leads_then (reads_field 4 head1 (Word (pos count)) (structs.dicts n m mapping).head l.head_is refl refl 0 refl)
      (leads_then (gives (Word (pos last)) (subs count 1 last (omega (arith, count_is)) (omega (arith, within, places_fit))))
      (leads_then (gives (Word (pos (at + 1))) (adds at 1 (omega (arith, count_is, within, places_fit))))
      (leads_then (gives (Word (pos behind)) (subs last at behind refl (omega (arith, count_is, within, places_fit))))
      (leads_then (reads_field 4 head1 l.one (structs.dicts n m mapping).head l.head_is refl one_set 2 refl)
      (leads_then (calls_back {core = core0} behind what_is (ap (λ b. b || (false || (b || (false || (false || false))))) one_set) moves_first)
      (leads_then (puts_item p args _ _ waits core1 (first m) 6 (Var 3) (default_operand (first_item (the_shape m))) 1 first1 last nothing1 (structs.dicts n m mapping).first refl refl (let w = length-append fpre (fpost ++ moving1.last ∷ fspare) in let u = length-append fpost (moving1.last ∷ fspare) in let e = fpre_long in let q = fpost_long in omega (arith, w, u, e, q)) refl (default_set (first_item (the_shape m))) l.one refl have1.first_is)
      (many 1 by.graph refl (ap (λ b. b || (false || (false || (false || false)))) head_set))))))))))
    where
      what_is : l.one ∷ Word (pos (at + 1)) ∷ l.one ∷ Word (pos at) ∷ Word (pos behind) ∷ [] ≡ l.one ∷ Word (pos (at + 1)) ∷ l.one ∷ Word (pos at) ∷ Word (pos behind) ∷ []
      what_is = refl

      moves_first : (waits : List Frame) → Returns p args behind (Calling by.moves (l.one ∷ Word (pos (at + 1)) ∷ l.one ∷ Word (pos at) ∷ Word (pos behind) ∷ []) waits core0) Unset waits (record core0 { blocks = moving1.blocks; statics = moving1.statics })
      moves_first waits = subst (λ n. Returns p args n (Calling by.moves (l.one ∷ Word (pos (at + 1)) ∷ l.one ∷ Word (pos at) ∷ Word (pos n) ∷ []) waits core0) Unset waits (record core0 { blocks = moving1.blocks; statics = moving1.statics })) fpost_long
          (subst (λ n. Returns p args (length fpost) (Calling by.moves (l.one ∷ Word (pos (n + 1)) ∷ l.one ∷ Word (pos n) ∷ Word (pos (length fpost)) ∷ []) waits core0) Unset waits (record core0 { blocks = moving1.blocks; statics = moving1.statics })) fpre_long (moving1.returns waits))

  way2 : (later : List LlOp) (waits : List Frame) → Leads p args behind (At (remove_ops by.moves2 (the_shape m) ++ later) (exit.Return None) waits (record core2 { function = f; block = 1; at = 0; vars = vars1 })) [] (At later (exit.Return None) waits (record core6 { at = 10 }))
  unfolding remove_graph remove_moves remove_ends remove_ops remove_types
  way2 later waits =
      leads_more (0 + (0 + (0 + (0 + (0 + (0 + (0 + (behind + (reference_in nothing2 + 0))))))))) behind (omega (arith, default_counts (second_item (the_shape m))))
      (leads_then (reads_field 4 head1 l.two (structs.dicts n m mapping).head have2.head_is refl two_set 3 refl)
      (leads_then (reads_field 1 (array_of (second m) fields2 (before_index ++ sgap ∷ (spost ++ sspare))) (Word (pos total)) (structs.dicts n m mapping).second have2.second_is refl refl 0 refl)
      (leads_then (reads_field 4 head1 (Word (pos l.places)) (structs.dicts n m mapping).head have2.head_is refl refl 1 refl)
      (leads_then (gives (Word (pos size)) (subs total l.places size (omega (arith, total_is)) total_fits))
      (leads_then (gives (Word (pos (size + at))) (adds size at (omega (arith, total_is, total_fits, count_is, within))))
      (leads_then (gives (Word (pos (size + at + 1))) (adds (size + at) 1 (omega (arith, total_is, total_fits, count_is, within))))
      (leads_then (gives (Word (pos (size + last))) (adds size last (omega (arith, total_is, total_fits, count_is, within))))
      (leads_then (calls_back {core = core3} behind refl (ap (λ b. b || (false || (b || (false || (false || false))))) two_set) moves_second)
      (leads_then (puts_item p args _ _ waits core4 (second m) 7 (Var 13) (default_operand (second_item (the_shape m))) 1 second1 (size + last) nothing2 (structs.dicts n m mapping).second refl refl (let w = length-append before_index (spost ++ moving2.last ∷ sspare) in let u = length-append spost (moving2.last ∷ sspare) in let e = before_long in let q = spost_long in omega (arith, w, u, e, q)) refl (default_set (second_item (the_shape m))) l.two refl have3.second_is)
      (puts_field p args _ _ waits (record core5 { at = 9 }) m.dict 0 0 (Var 3) 4 head1 (Word (pos last)) (structs.dicts n m mapping).head refl refl refl head refl have4.head_is))))))))))
    where
      moves_second : (waits : List Frame) → Returns p args behind (Calling by.moves2 (l.two ∷ Word (pos (size + at + 1)) ∷ l.two ∷ Word (pos (size + at)) ∷ Word (pos behind) ∷ []) waits core3) Unset waits (record core3 { blocks = moving2.blocks; statics = moving2.statics })
      moves_second waits = subst (λ n. Returns p args n (Calling by.moves2 (l.two ∷ Word (pos (size + at + 1)) ∷ l.two ∷ Word (pos (size + at)) ∷ Word (pos n) ∷ []) waits core3) Unset waits (record core3 { blocks = moving2.blocks; statics = moving2.statics })) spost_long
          (subst (λ n. Returns p args (length spost) (Calling by.moves2 (l.two ∷ Word (pos (n + 1)) ∷ l.two ∷ Word (pos n) ∷ Word (pos (length spost)) ∷ []) waits core3) Unset waits (record core3 { blocks = moving2.blocks; statics = moving2.statics })) before_long (moving2.returns waits))

  -- ---- the index

  keys2_long : length keys2 ≡ l.places
  keys2_long = (let j = joined ai keys_part.pre keys_part.post spare_keys2 in let e : length keys2 ≡ length (map ai keys_part.pre ++ (map ai keys_part.post ++ spare_keys2)) = ap length j in let w = length-append (map ai keys_part.pre) (map ai keys_part.post ++ spare_keys2) in let u = length-append (map ai keys_part.post) spare_keys2 in let p = keys_pre_long in let q = keys_post_long in let k = keys_count a in let h = a.key_places in omega (arith, e, w, u, p, q, k, h, count_is))

  values2_long : length values2 ≡ l.places
  values2_long = (let j = joined av values_part.pre values_part.post spare_values2 in let e : length values2 ≡ length (map av values_part.pre ++ (map av values_part.post ++ spare_values2)) = ap length j in let w = length-append (map av values_part.pre) (map av values_part.post ++ spare_values2) in let u = length-append (map av values_part.post) spare_values2 in let p = values_pre_long in let q = values_post_long in let k = values_count a in let h = a.value_places in omega (arith, e, w, u, p, q, k, h, count_is))

  abbrev ended_core : Core
  ended_core = record core6 { at = 10 }

  record Ended : Type 0 where
    blocks : List (Option Block)
    statics : List Block
    words : List ℕ
    have : Have (Mine g i) head l.one l.two core.blocks core.statics blocks statics head2 first3 (second_of words)
    long : length words ≡ size
    indexed : IsIndexIf (is_indexed m) (map (hash layout m.key) (keys_of pairs2)) l.places words
    returns : (waits : List Frame) → Returns p args most (Calling f (head ∷ Word (pos at) ∷ []) waits core) Unset waits (record core { blocks = blocks; statics = statics })

  ends_are : (o : Option ℕ) → and_call o (Var 0 ∷ []) (remove_ops by.moves2 (the_shape m)) ≡ remove_ops by.moves2 (the_shape m) ++ and_call o (Var 0 ∷ []) []
  unfolding and_call remove_ops
  ends_are None = refl
  ends_are (Some x) = refl

  -- up to the index
  way : (waits : List Frame) → Leads p args most (Calling f (head ∷ Word (pos at) ∷ []) waits core) [] (At (and_call by.indexer (Var 0 ∷ []) []) (exit.Return None) waits ended_core)
  unfolding remove_ends
  way waits = leads_then (way1 waits) (subst (λ ops. Leads p args behind (At ops (exit.Return None) waits (record core2 { function = f; block = 1; at = 0; vars = vars1 })) [] (At (and_call by.indexer (Var 0 ∷ []) []) (exit.Return None) waits ended_core)) (sym (ends_are by.indexer)) (way2 (and_call by.indexer (Var 0 ∷ []) []) waits))

  without : is_indexed m ≡ false → by.indexer ≡ None → Ended
  unfolding remove_graph remove_moves remove_ends remove_ops remove_types and_call
  without none e = record {
    blocks = core6.blocks;
    statics = core6.statics;
    words = a.index;
    have = have6;
    long = refl;
    indexed = subst (λ c. IsIndexIf c (map (hash layout m.key) (keys_of pairs2)) l.places a.index) (sym none) (subst (λ c. IsIndexIf c (map (hash layout m.key) (keys_of l.pairs)) l.places a.index) none a.indexed);
    returns = λ waits. record {
      end = _;
      same = refl;
      leads = leads_more (most + 0) most (omega arith) (leads_then (subst (λ o. Leads p args most (Calling f (head ∷ Word (pos at) ∷ []) waits core) [] (At (and_call o (Var 0 ∷ []) []) (exit.Return None) waits ended_core)) e (way waits)) (many 1 by.graph refl refl));
    };
  }

  module _ (some : is_indexed m ≡ true) (x : ℕ) (is_indexer : by.indexer ≡ Some x) (e h : ℕ) (index_is : slice_get p.graphs x ≡ Some (index_graph e (the_shape m))) (enter_is : slice_get p.graphs e ≡ Some (enter_graph h (the_shape m))) (hashes : Hashes p args layout known m h) where
    here : IsIndex (map (hash layout m.key) (keys_of l.pairs)) l.places a.index
    here = index_of some a.indexed

    abbrev bits : ℕ
    bits = here.long.bits

    abbrev zs : List ℤ
    zs = map (hash layout m.key) (keys_of pairs2)

    abbrev starts : List ℕ
    starts = map (place_of bits) zs

    abbrev xs : List Value
    xs = map ai (keys_part.pre ++ keys_part.post)

    starts_long : length starts ≡ last
    starts_long = map_long (place_of bits) zs ∙ map_long (hash layout m.key) (keys_of pairs2) ∙ map_long (λ (q : Meant × Meant). q.0) pairs2 ∙ length-append s.pre s.post ∙ ap (λ n. n + length s.post) s.long

    xs_long : last ≡ length xs
    xs_long = (let q = map_long ai (keys_part.pre ++ keys_part.post) in let w = length-append keys_part.pre keys_part.post in let a = keys_pre_long in let b = keys_post_long in let e = map_long ai keys_part.pre in let u = map_long ai keys_part.post in omega (arith, q, w, a, b, e, u))

    abbrev EntersThem : Type 0
    EntersThem = (words : List ℕ) × EntersAll (zeros (2 ^ bits)) 0 starts words

    both_so : EntersThem × ((words : List ℕ) → EntersAll (zeros (2 ^ bits)) 0 starts words → IsRight words starts)
    both_so = makes_indices (2 ^ bits) starts (all_below masks_lead bits here.long.few zs) (let q = here.long.longer in let s = here.long.is in let t = starts_long in omega (arith, q, s, t, count_is, within))

    abbrev words2 : List ℕ
    words2 = both_so.0.0

    words_same : length words2 ≡ size
    words_same = all_long (zeros (2 ^ bits)) 0 starts words2 both_so.0.1 ∙ zeros_long (2 ^ bits) ∙ sym here.long.is

    indexed2 : IsIndex zs l.places words2
    indexed2 = record { long = record { bits = bits; few = here.long.few; is = words_same ∙ here.long.is; longer = (let q = here.long.longer in let w = words_same in omega (arith, q, w)) }; right = both_so.1 words2 both_so.0.1 }

    fine : (c : Core) (olds news : List Value) → found c.blocks c.statics l.two ≡ Some (array_of (second m) fields2 olds) → Staying g c.blocks c.statics → Staying g (put_block l.two (array_of (second m) fields2 news) c.blocks) (put_static l.two (array_of (second m) fields2 news) c.statics)
    fine c olds news is stays x block used = (wrote_at c.blocks c.statics l.two (array_of (second m) fields2 olds) (array_of (second m) fields2 news) is).others x (uses_apart g x l.two (Stays block) (Second i) used a.second_use (λ q. absurd (cc))) ∙ stays x block used

    stays_now : Staying g core6.blocks core6.statics
    stays_now x block used = have6.rewrote.others x (not_mine g i x (Stays block) used (λ e. e)) ∙ r.stays x block used

    first_set : (c : Bool) → is_unset (if c then Word (pos 0) else l.one) ≡ false
    first_set true = refl
    first_set false = one_set

    keys_left : AllSet (keys_part.pre ++ keys_part.post)
    keys_left = all_set r keys_part.without

    each_left : EachHolds layout known g (known.keys m.dict) (keys_part.pre ++ keys_part.post) (keys_of pairs2)
    each_left = subst (EachHolds layout known g (known.keys m.dict) (keys_part.pre ++ keys_part.post)) (sym (map_both (λ (q : Meant × Meant). q.0) s.pre s.post)) keys_part.without

    there_left : AreThere (keys_of pairs2)
    there_left = subst AreThere (sym (map_both (λ (q : Meant × Meant). q.0) s.pre s.post)) (there_less (keys_of s.pre) s.pair.0 (keys_of s.post) (subst AreThere (ap keys_of s.are ∙ map_both (λ (q : Meant × Meant). q.0) s.pre (s.pair ∷ s.post)) (there some)))

    calls : (waits : List Frame) → Returns p args 0 (Calling x (head ∷ []) waits ended_core) Unset waits (put ended_core l.two (second_of words2))
    calls waits = indexes p args (the_shape m) e h (structs.dicts n m mapping).head (structs.dicts n m mapping).first (structs.dicts n m mapping).second enter_is masks_lead (Staying g) head l.one l.two last l.places bits here.long.few keys2 values2
        (let q = keys2_long in let t = total_fits in let u = total_is in let s = here.long.is in omega (arith, q, t, s, u)) (let q = keys2_long in omega (arith, q, count_is, within)) fields1 total fine (first_set (keys_last m)) three.first_second three.head_second (omega (arith, count_is, within, places_fit))
        (let u = total_is in let s = here.long.is in omega (arith, s, u)) total_fits (let q = here.long.longer in let s = here.long.is in omega (arith, q, s)) x index_is xs zs (all_hashed p args layout known g m h hashes each_left keys_left there_left) spare_keys2 refl xs_long words2 both_so.0.1
        (index_values a.index) ended_core (index_long a.index ∙ here.long.is) stays_now have6.head_is have6.first_is have6.second_is waits

    with_index : Ended
    unfolding remove_graph remove_moves remove_ends remove_ops remove_types and_call
    with_index = record {
      blocks = put_block l.two (second_of words2) core6.blocks;
      statics = put_static l.two (second_of words2) core6.statics;
      words = words2;
      have = have_second three have6 refl (wrote_at core6.blocks core6.statics l.two (second_of a.index) (second_of words2) have6.second_is);
      long = words_same;
      indexed = subst (λ c. IsIndexIf c (map (hash layout m.key) (keys_of pairs2)) l.places words2) (sym some) indexed2;
      returns = λ waits. record {
        end = _;
        same = refl;
        leads = leads_more (most + (0 + 0)) most (omega arith)
            (leads_then (subst (λ o. Leads p args most (Calling f (head ∷ Word (pos at) ∷ []) waits core) [] (At (and_call o (Var 0 ∷ []) []) (exit.Return None) waits ended_core)) is_indexer (way waits))
            (leads_then (calls_back {core = ended_core} 0 refl (ap (λ b. b || false) head_set) calls) (many 1 by.graph refl refl)));
      };
    }

  ended : Ended
  ended = choose (is_indexed m) refl by.indexer refl by.indexing
    where
      choose : (c : Bool) → is_indexed m ≡ c → (o : Option ℕ) → by.indexer ≡ o → IndexesBy p args layout known m c o → Ended
      choose true q (Some x) is it = with_index q x is it.0 it.1.0 it.1.1.0 it.1.1.1.0 it.1.1.1.1
      choose true q None is it = absurd it
      choose false q o is it = without q (is ∙ it)

  -- ---- the dict

  changed : DictAt layout known g (slice_set heap i (Mapped pairs2)) ended.blocks ended.statics m i head
  changed = record {
    pairs = pairs2;
    object = get_set_here heap i (Mapped pairs2) (Mapped l.pairs) l.object;
    places = l.places;
    one = l.one;
    two = l.two;
    head_use = l.head_use;
    head_is = ended.have.head_is ∙ ap (λ n. Some (dict_block m.dict n l.places l.one l.two)) (sym (length-append s.pre s.post ∙ ap (λ n. n + length s.post) s.long));
    arrays = inr (record {
      keys = keys_part.pre ++ keys_part.post;
      values = values_part.pre ++ values_part.post;
      spare_keys = spare_keys2;
      spare_values = spare_values2;
      index = ended.words;
      first_use = a.first_use;
      second_use = a.second_use;
      first_is = ended.have.first_is ∙ ap Some (empty_block (first m) (length (in_first m (all_keys a) (all_values a))) (in_first m keys2 values2) (firsts_long a ∙ sym (both_long c values2 keys2 l.places values2_long keys2_long)));
      second_is = ended.have.second_is ∙ ap Some (empty_block (second m) total (index_values ended.words ++ in_second m keys2 values2) (total_is ∙ sym (words_long ended.words (in_second m keys2 values2) ∙ ap (λ n. n + length (in_second m keys2 values2)) ended.long ∙ ap (λ n. size + n) (both_long c keys2 values2 l.places keys2_long values2_long))));
      each_key = subst (EachHolds layout known g (known.keys m.dict) (keys_part.pre ++ keys_part.post)) (sym (map_both (λ (q : Meant × Meant). q.0) s.pre s.post)) keys_part.without;
      each_value = subst (EachHolds layout known g (known.items m.dict) (values_part.pre ++ values_part.post)) (sym (map_both (λ (q : Meant × Meant). q.1) s.pre s.post)) values_part.without;
      no_keys = (either_empty c (second_item (the_shape m)) (first_item (the_shape m)), a.no_keys);
      no_values = (either_empty c (first_item (the_shape m)) (second_item (the_shape m)), a.no_values);
      key_places = (let w = length-append (map ai (keys_part.pre ++ keys_part.post)) spare_keys2 in let u = map_long ai (keys_part.pre ++ keys_part.post) in let q = keys2_long in omega (arith, w, u, q));
      value_places = (let w = length-append (map av (values_part.pre ++ values_part.post)) spare_values2 in let u = map_long av (values_part.pre ++ values_part.post) in let q = values2_long in omega (arith, w, u, q));
      indexed = ended.indexed;
    });
    apart = subst (AreApart is_equal) (sym (map_both (λ (q : Meant × Meant). q.0) s.pre s.post)) (apart_less (keys_of s.pre) s.pair.0 (keys_of s.post) (subst (AreApart is_equal) (ap keys_of s.are ∙ map_both (λ (q : Meant × Meant). q.0) s.pre (s.pair ∷ s.post)) l.apart));
    few = l.few;
  }

  pub removed : Removed p args layout known g heap left i head (without_key k l.pairs) at f (behind + behind) core
  removed = record {
    blocks = ended.blocks;
    statics = ended.statics;
    stands = subst (λ ps. Represents layout known g (slice_set heap i (Mapped ps)) left ended.blocks ended.statics) (sym s.removed) (dict_rewritten n i head m pairs2 r grown_none refl home mapping r.made (λ x block h. h) (λ x u h. refl) r.settled (λ x u h. h) ended.have.rewrote changed);
    few = ended.have.rewrote.made;
    returns = ended.returns;
  }
