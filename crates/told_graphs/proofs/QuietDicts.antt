-- The graphs of dicts call only graphs that are told not to raise.
use Rattle.std.proofs.Common.{◌≡◌, ℕ, ◌+◌, ◌==◌, Bool, true, false, not, List, [], ◌∷◌, pos, Option, Some, None, refl}
use Rattle.std.specs.Prelude.{if◌then◌else◌}
use Rattle.csub_tree.specs.declared.tree.COperand.{COperand}
use Rattle.csub_tree.specs.declared.tree.COperand.TheVariants.{Var}
use Rattle.ll_code.specs.declared.program.LlType.{LlType}
use Rattle.ll_code.specs.declared.program.LlType.TheVariants as type
use Rattle.ll_code.specs.declared.program.LlOp.{LlOp}
use Rattle.ll_build.specs.Build.{word}
use Rattle.ll_build.specs.declared.needs.Helper.TheVariants.{WordMin}
use Rattle.rtyper_layout.specs.declared.layout.Layout.{Layout}
use Rattle.rtyper_data.specs.declared.body.Body.{Body}
use Rattle.rtyper_data.specs.declared.found.Found.{Found}
use Rattle.rtyper_data.specs.declared.small.Keyed.{Keyed}
use Rattle.rtyper_data.specs.declared.small.Keyed.TheVariants as keyed
use Rattle.rtyper_data.specs.declared.small.Listed.{Listed}
use Rattle.rtyper_data.specs.declared.small.Listed.TheVariants as listed
use Rattle.rtyper_data.specs.declared.small.Small.TheVariants as small
use Rattle.rtyper_data.specs.Comparing.{equal, field_of}
use Rattle.rtyper_data.specs.Finding.{helper_number, same_type}
use Rattle.rtyper_data.specs.Graphs.{body_of, fields_at}
use Rattle.rtyper_data.specs.Seen.{Writing, writing}
use Rattle.list_shape.specs.Shapes.{gives, item_of as item_type, number_of}
use Rattle.rtyper_dict.specs.declared.parts.DictShape.{DictShape}
use Rattle.rtyper_dict.specs.Parts.{and_call, as_word, dict_at, first_item, from_word, keyed_number, number_if, second_item, stored, unstored}
use Rattle.rtyper_dict.specs.Hashing.{hash_graph, hashed, item_hashed, item_mixed, items_mixed, key_item, of_text, of_tuple, of_word, text_asks, text_blocks, text_graph, text_mixed, text_start, text_turn, tuple_graph, tuple_mixed, with_item, word_mixed}
use Rattle.rtyper_dict.specs.Looking.{find, find_asks, find_blocks, find_by_index, find_by_scan, find_compares, find_graph, find_probes, find_reads, find_starts, find_types, is_key, scan_asks, scan_blocks, scan_compares, scan_graph, scan_reads, scan_starts, scan_types, test_of}
use Rattle.rtyper_dict.specs.Indexing.{enter, enter_asks, enter_blocks, enter_graph, enter_hashes, enter_next, enter_probes, enter_puts, enter_starts, fill, fill_asks, fill_blocks, fill_starts, fill_turn, index, index_asks, index_blocks, index_empties, index_enters, index_graph, index_starts, size, size_blocks, size_doubles, size_enough, size_greatest, size_starts}
use Rattle.rtyper_dict.specs.Growing.{copied, counted, ended, fill_number, grow, grow_asks, grow_blocks, grow_copies, grow_counts, grow_ends, grow_makes, grow_sets, index_length, is_pointer, make, make_given}
use Rattle.rtyper_dict.specs.Changing.{add_done, add_entry, add_graph, add_ops, remove, remove_ends, remove_graph, remove_moves, remove_ops, store, store_adds, store_asks, store_blocks, store_graph, store_in_first, store_in_second, store_ops, store_puts}
use Rattle.rtyper_dict.specs.Graphs.{changing}
use Rattle.rtyper_program.specs.Cuts.{small_raises}
use Rattle.growth_laws.specs.Growing.{Grows}
use Rattle.growth_laws.proofs.Data.{then_grows}
use Rattle.growth_laws.proofs.DictGraphs.{keyed_grows, listed_grows}
use Rattle.growth_laws.proofs.Growing.{same_found, helpers_grow}
use Rattle.throw_laws.specs.Pieces.{AreQuiet, is_quiet}
use Rattle.told_laws.specs.Tests.{IsQuietBlock}
use Rattle.told_graphs.proofs.Keeping.{Calm, Keeps, Quiet, Telling, all_calm, by_small_keeps, calm, chain, if_calm, kept, more, writes}
use Rattle.told_graphs.proofs.QuietData.{equal_keeps, field_keeps, variable_keeps}

module _ (t : Telling) where
  told : (graph : Keyed) (found : Found) → small_raises (small.Keyed graph) ≡ false → Grows (keyed_number graph found).1 t.last → t.quiet (keyed_number graph found).0 ≡ true
  told graph found h late = t.smalls (small.Keyed graph) found h late

  listed_told : (graph : Listed) (found : Found) → small_raises (small.Listed graph) ≡ false → Grows (number_of graph found).1 t.last → t.quiet (number_of graph found).0 ≡ true
  listed_told graph found h late = t.smalls (small.Listed graph) found h late

  pub if_op : (b : Bool) (x y : LlOp) → is_quiet t.quiet x ≡ true → is_quiet t.quiet y ≡ true → is_quiet t.quiet (if b then x else y) ≡ true
  if_op true x y h k = h
  if_op false x y h k = k

  pub if_ops : (b : Bool) (xs ys : List LlOp) → AreQuiet t.quiet xs → AreQuiet t.quiet ys → AreQuiet t.quiet (if b then xs else ys)
  if_ops true xs ys h k = h
  if_ops false xs ys h k = k

  -- ---- graphs that may not be needed

  abbrev ToldIf : Option ℕ → Type 0
  ToldIf None = Unit {0}
  ToldIf (Some g) = t.quiet g ≡ true

  if_told : (c : Bool) (graph : Keyed) (found : Found) → small_raises (small.Keyed graph) ≡ false → Grows (number_if c graph found).1 t.last → ToldIf (number_if c graph found).0
  unfolding number_if
  if_told true graph found h late = told graph found h late
  if_told false graph found h late = tt

  if_grows : (c : Bool) (graph : Keyed) (found : Found) → Grows found (number_if c graph found).1
  unfolding number_if
  if_grows true graph found = keyed_grows graph found
  if_grows false graph found = same_found found

  and_call_stays : (o : Option ℕ) (xs : List COperand) (ops : List LlOp) → AreQuiet t.quiet ops → ToldIf o → AreQuiet t.quiet (and_call o xs ops)
  unfolding and_call
  and_call_stays None xs ops q e = q
  and_call_stays (Some g) xs ops q e = more t ops _ q e

  -- ---- items as they stand

  stored_keeps : (kind item : LlType) (x : COperand) (w : Writing) → Keeps t w (writing w.found (stored kind item x w.body).1)
  unfolding stored
  stored_keeps kind item x w = by (same_type kind item)
    where
      word_keeps : (kind : LlType) → Quiet t w.body → Quiet t (as_word kind x w.body).1
      word_keeps type.Bool q = more t w.body.ops _ q refl
      word_keeps _ q = more t w.body.ops _ q refl

      by : (b : Bool) → Keeps t w (writing w.found (if b then (x, w.body) else as_word kind x w.body).1)
      by true = kept t w
      by false = writes t w _ (word_keeps kind)

  pub unstored_keeps : (item kind : LlType) (x : COperand) (w : Writing) → Keeps t w (writing w.found (unstored item kind x w.body).1)
  unfolding unstored
  unstored_keeps item kind x w = by (same_type kind item)
    where
      word_keeps : (kind : LlType) → Quiet t w.body → Quiet t (from_word kind x w.body).1
      word_keeps type.Bool q = more t w.body.ops _ q refl
      word_keeps _ q = more t w.body.ops _ q refl

      by : (b : Bool) → Keeps t w (writing w.found (if b then (x, w.body) else from_word kind x w.body).1)
      by true = kept t w
      by false = writes t w _ (word_keeps kind)

  -- ---- hashes

  of_text_calm : (found : Found) → Calm t (of_text found)
  unfolding of_text text_graph text_blocks text_start text_asks text_turn text_mixed
  of_text_calm found late = all_calm t (of_text found).0.blocks refl (told (keyed.Hash type.Signed) found refl late, tt)

  hashed_keeps : (a : LlType) (x : COperand) (w : Writing) → Keeps t w (hashed a x w).1
  unfolding hashed
  hashed_keeps a x w = chain t (stored_keeps a (key_item a) x w) (by_small_keeps t (small.Keyed (keyed.Hash (key_item a))) type.Signed _ _ refl)

  item_mixed_keeps : (n i : ℕ) (a : LlType) (h : COperand) (w : Writing) → Keeps t w (item_mixed n i a h w).1
  unfolding item_mixed with_item
  item_mixed_keeps n i a h w =
      let item : COperand × Body = field_of n 0 i a w.body in
      let x : COperand × Writing = item_hashed a w.found item in
      chain t (field_keeps t n 0 i a w) (chain t (hashed_keeps a item.0 (writing w.found item.1)) (writes t x.1 _ (λ q. more t _ _ (more t x.1.body.ops _ q refl) refl)))

  items_mixed_keep : (n i : ℕ) (ts : List LlType) (made : COperand × Writing) → Keeps t made.1 (items_mixed n i ts made).1
  items_mixed_keep n i [] made = kept t made.1
  items_mixed_keep n i (a ∷ ts) made = chain t (item_mixed_keeps n i a made.0 made.1) (items_mixed_keep n (i + 1) ts (item_mixed n i a made.0 made.1))

  tuple_mixed_keeps : (layout : Layout) (n : ℕ) (w : Writing) → Keeps t w (tuple_mixed layout n w).1
  unfolding tuple_mixed
  tuple_mixed_keeps layout n w = items_mixed_keep n 0 (fields_at layout n) (word (pos 0), w)

  of_tuple_calm : (layout : Layout) (n : ℕ) (found : Found) → Calm t (of_tuple layout n found)
  unfolding of_tuple tuple_graph
  of_tuple_calm layout n found late =
      let w : Writing = writing found (body_of (type.Ptr n ∷ [])) in
      let h : COperand × Writing = tuple_mixed layout n w in
      (record { ops = (chain t (tuple_mixed_keeps layout n w) (by_small_keeps t (small.Keyed (keyed.Hash type.Signed)) type.Signed (h.0 ∷ []) h.1 refl)).stays late tt; exit = tt }, tt)

  pub hash_calm : (layout : Layout) (a : LlType) (found : Found) → Calm t (hash_graph layout a found)
  unfolding hash_graph of_word word_mixed
  hash_calm layout (type.Ptr n) found = if_calm t _ _ (n == 0) (of_text_calm found) (of_tuple_calm layout n found)
  hash_calm layout _ found = λ late. all_calm t of_word.blocks refl tt

  -- ---- keys that are looked for

  is_key_keeps : (layout : Layout) (d : DictShape) (v : ℕ) (w : Writing) → Keeps t w (is_key layout d v w).1
  unfolding is_key
  is_key_keeps layout d v w =
      let same : COperand × Writing = equal layout (Var v) d.stored_key (Var 1) d.stored_key w in
      chain t (equal_keeps t layout (Var v) d.stored_key (Var 1) d.stored_key w) (variable_keeps t same.0 type.Bool same.1)

  find_reads_quiet : (d : DictShape) → AreQuiet t.quiet (find_reads d)
  unfolding find_reads
  find_reads_quiet d = (refl, (if_op d.keys_last _ _ refl refl, (if_op d.keys_last _ _ refl refl, (refl, (refl, tt)))))

  find_by_index_calm : (layout : Layout) (d : DictShape) (found : Found) → Calm t (find_by_index layout d found)
  unfolding find_by_index find_graph find_blocks find_asks find_starts find_probes find_compares gives
  find_by_index_calm layout d found late =
      let w : Writing = test_of (find_types d) (find_reads d) found in
      let key : ℕ × Writing = is_key layout d 14 w in
      let hash : t.quiet (keyed_number (keyed.Hash d.stored_key) key.1.found).0 ≡ true = told (keyed.Hash d.stored_key) key.1.found refl late in (
        calm t _ refl tt,
        (
          calm t _ refl tt,
          (
            record { ops = (if_op d.keys_last _ _ refl refl, (refl, (refl, (refl, (hash, (refl, (refl, tt))))))); exit = tt },
            (
              calm t _ refl tt,
              (record { ops = (is_key_keeps layout d 14 w).stays (then_grows (keyed_grows (keyed.Hash d.stored_key) key.1.found) late) (find_reads_quiet d); exit = tt }, (calm t _ refl tt, tt)),
            ),
          ),
        ),
      )

  find_by_scan_calm : (layout : Layout) (d : DictShape) (found : Found) → Calm t (find_by_scan layout d found)
  unfolding find_by_scan scan_graph scan_blocks scan_starts scan_asks scan_compares scan_reads gives
  find_by_scan_calm layout d found late =
      let w : Writing = test_of (scan_types d) (scan_reads d) found in
      (calm t _ refl tt, (calm t _ refl tt, (calm t _ refl tt, (record { ops = (is_key_keeps layout d 6 w).stays late (refl, (refl, tt)); exit = tt }, (calm t _ refl tt, tt)))))

  pub find_calm : (layout : Layout) (d : DictShape) (found : Found) → Calm t (find layout d found)
  unfolding find
  find_calm layout d found = if_calm t _ _ d.is_indexed (find_by_index_calm layout d found) (find_by_scan_calm layout d found)

  -- ---- the index, and room

  enter_calm : (d : DictShape) (found : Found) → Calm t (enter d found)
  unfolding enter enter_graph enter_blocks enter_starts enter_asks enter_hashes enter_probes enter_puts enter_next
  enter_calm d found late =
      let hash : t.quiet (keyed_number (keyed.Hash d.stored_key) found).0 ≡ true = told (keyed.Hash d.stored_key) found refl late in (
        record { ops = (refl, (refl, (refl, (refl, (refl, (refl, (if_op d.keys_last _ _ refl refl, tt))))))); exit = tt },
        (
          calm t _ refl tt,
          (
            record { ops = (if_op d.keys_last _ _ refl refl, (if_op d.keys_last _ _ refl refl, (hash, (refl, tt)))); exit = tt },
            (calm t _ refl tt, (calm t _ refl tt, (calm t _ refl tt, (calm t _ refl tt, tt)))),
          ),
        ),
      )

  index_calm : (d : DictShape) (found : Found) → Calm t (index d found)
  unfolding index index_graph index_blocks index_starts index_asks index_empties index_enters
  index_calm d found late = all_calm t (index d found).0.blocks refl (told (keyed.Enter d.dict) found refl late, tt)

  length_quiet : (o : Option ℕ) → ToldIf o → is_quiet t.quiet (index_length o) ≡ true
  length_quiet None e = refl
  length_quiet (Some g) e = e

  counted_grows : (d : DictShape) (found : Found) → Grows found (counted d found).1
  unfolding counted
  counted_grows d found = then_grows (helpers_grow WordMin found) (if_grows d.is_indexed keyed.Size (helper_number WordMin found).1)

  copied_grows : (d : DictShape) (found : Found) → Grows found (copied d found).1
  unfolding copied
  copied_grows d found = then_grows (listed_grows (listed.Copy d.first d.first) found) (listed_grows (listed.Copy d.second d.second) _)

  ended_grows : (d : DictShape) (found : Found) → Grows found (ended d found).1
  unfolding ended fill_number
  ended_grows d found = then_grows (if_grows _ (keyed.Fill d.first) found) (then_grows (if_grows _ (keyed.Fill d.second) _) (if_grows d.is_indexed (keyed.Index d.dict) _))

  counted_calm : (d : DictShape) (found : Found) → Grows (counted d found).1 t.last → IsQuietBlock t.quiet (counted d found).0
  unfolding counted grow_counts
  counted_calm d found late =
      let next : Found = (helper_number WordMin found).1 in
      let least : t.quiet (helper_number WordMin found).0 ≡ true = t.helpers WordMin found refl (then_grows (if_grows d.is_indexed keyed.Size next) late) in
      record { ops = (least, (refl, (refl, (least, (length_quiet (number_if d.is_indexed keyed.Size next).0 (if_told d.is_indexed keyed.Size next refl late), tt))))); exit = tt }

  copied_calm : (d : DictShape) (found : Found) → Grows (copied d found).1 t.last → IsQuietBlock t.quiet (copied d found).0
  unfolding copied grow_copies
  copied_calm d found late =
      let next : Found = (number_of (listed.Copy d.first d.first) found).1 in
      calm t _ refl (listed_told (listed.Copy d.first d.first) found refl (then_grows (listed_grows (listed.Copy d.second d.second) next) late), (listed_told (listed.Copy d.second d.second) next refl late, tt))

  ended_calm : (d : DictShape) (found : Found) → Grows (ended d found).1 t.last → IsQuietBlock t.quiet (ended d found).0
  unfolding ended grow_ends fill_number grow_sets
  ended_calm d found late =
      let a : Bool = not (is_pointer (first_item d)) in
      let b : Bool = not (is_pointer (second_item d)) in
      let next : Found = (number_if a (keyed.Fill d.first) found).1 in
      let last : Found = (number_if b (keyed.Fill d.second) next).1 in
      let behind : Grows last t.last = then_grows (if_grows d.is_indexed (keyed.Index d.dict) last) late in
      record {
        ops = and_call_stays (number_if d.is_indexed (keyed.Index d.dict) last).0 _ _
            (and_call_stays (number_if b (keyed.Fill d.second) next).0 _ _
            (and_call_stays (number_if a (keyed.Fill d.first) found).0 _ _ (refl, (refl, (refl, (refl, tt)))) (if_told a (keyed.Fill d.first) found refl (then_grows (if_grows b (keyed.Fill d.second) next) behind)))
            (if_told b (keyed.Fill d.second) next refl behind))
            (if_told d.is_indexed (keyed.Index d.dict) last refl late);
        exit = tt;
      }

  grow_calm : (d : DictShape) (found : Found) → Calm t (grow d found)
  unfolding grow grow_blocks grow_asks grow_makes
  grow_calm d found late =
      let next : Found = (counted d found).1 in
      let last : Found = (copied d next).1 in
      let behind : Grows last t.last = then_grows (ended_grows d last) late in
      (calm t _ refl tt, (calm t _ refl tt, (counted_calm d found (then_grows (copied_grows d next) behind), (calm t _ refl tt, (copied_calm d next behind, (ended_calm d last late, tt))))))

  -- ---- dicts that change

  add_calm : (d : DictShape) (found : Found) → Calm t (add_entry d found)
  unfolding add_entry add_graph add_done add_ops
  add_calm d found late =
      (record { ops = and_call_stays (number_if d.is_indexed (keyed.Enter d.dict) found).0 _ _ (refl, (refl, (refl, (refl, (refl, (refl, (refl, (refl, (refl, (refl, (refl, tt))))))))))) (if_told d.is_indexed (keyed.Enter d.dict) found refl late); exit = tt }, tt)

  store_calm : (d : DictShape) (found : Found) → Calm t (store d found)
  unfolding store store_graph store_blocks store_asks store_adds store_puts store_ops
  store_calm d found late =
      let next : Found = (keyed_number (keyed.Find d.dict) found).1 in
      let last : Found = (keyed_number (keyed.Grow d.dict) next).1 in
      let behind : Grows last t.last = then_grows (keyed_grows (keyed.Add d.dict) last) late in (
        calm t _ refl (told (keyed.Find d.dict) found refl (then_grows (keyed_grows (keyed.Grow d.dict) next) behind), tt),
        (
          calm t _ refl (told (keyed.Grow d.dict) next refl behind, (told (keyed.Add d.dict) last refl late, tt)),
          (
            record { ops = if_ops d.keys_last (store_in_first d) (store_in_second d) (refl, (refl, tt)) (refl, (refl, (refl, (refl, (refl, (refl, tt)))))); exit = tt },
            tt,
          ),
        ),
      )

  remove_calm : (d : DictShape) (found : Found) → Calm t (remove d found)
  unfolding remove remove_graph remove_moves remove_ends remove_ops
  remove_calm d found late =
      let next : Found = (number_of (listed.Copy d.first d.first) found).1 in
      let last : Found = (number_of (listed.Copy d.second d.second) next).1 in
      let behind : Grows last t.last = then_grows (if_grows d.is_indexed (keyed.Index d.dict) last) late in
      let two : t.quiet (number_of (listed.Copy d.second d.second) next).0 ≡ true = listed_told (listed.Copy d.second d.second) next refl behind in (
        calm t _ refl (listed_told (listed.Copy d.first d.first) found refl (then_grows (listed_grows (listed.Copy d.second d.second) next) behind), tt),
        (
          record {
            ops = and_call_stays (number_if d.is_indexed (keyed.Index d.dict) last).0 _ _ (refl, (refl, (refl, (refl, (refl, (refl, (refl, (two, (refl, (refl, tt)))))))))) (if_told d.is_indexed (keyed.Index d.dict) last refl late);
            exit = tt;
          },
          tt,
        ),
      )

  pub changing_calm : (layout : Layout) (graph : Keyed) (found : Found) → Calm t (changing layout graph found)
  unfolding changing make make_given fill fill_blocks fill_starts fill_asks fill_turn size size_blocks size_starts size_enough size_greatest size_doubles gives
  changing_calm layout (keyed.Make d) found = λ late. all_calm t (make (dict_at layout d)).blocks refl tt
  changing_calm layout (keyed.Fill array) found = λ late. all_calm t (fill array (item_type layout array)).blocks refl tt
  changing_calm layout (keyed.Enter d) found = enter_calm (dict_at layout d) found
  changing_calm layout (keyed.Index d) found = index_calm (dict_at layout d) found
  changing_calm layout (keyed.Grow d) found = grow_calm (dict_at layout d) found
  changing_calm layout (keyed.Add d) found = add_calm (dict_at layout d) found
  changing_calm layout (keyed.Store d) found = store_calm (dict_at layout d) found
  changing_calm layout (keyed.Remove d) found = remove_calm (dict_at layout d) found
  changing_calm layout _ found = λ late. all_calm t size.blocks refl tt
