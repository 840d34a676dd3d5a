-- The graphs of lists call only graphs that are told not to raise.
use Rattle.std.proofs.Common.{◌≡◌, ℕ, Bool, true, false, [], ◌∷◌, pos, None, refl}
use Rattle.csub_tree.specs.declared.tree.COperand.{COperand}
use Rattle.csub_tree.specs.declared.tree.COperand.TheVariants.{Var}
use Rattle.ll_code.specs.declared.program.LlType.{LlType}
use Rattle.ll_code.specs.declared.program.LlType.TheVariants as type
use Rattle.ll_code.specs.declared.program.LlOp.TheVariants as op
use Rattle.csub_tree.specs.declared.tree.CBinary.TheVariants as binary
use Rattle.ll_build.specs.Build.{word}
use Rattle.ll_build.specs.declared.needs.Helper.TheVariants.{StrOfChar}
use Rattle.rtyper_layout.specs.declared.layout.Layout.{Layout}
use Rattle.rtyper_data.specs.declared.body.Body.{Body}
use Rattle.rtyper_data.specs.declared.found.Found.{Found}
use Rattle.rtyper_data.specs.declared.small.Listed.{Listed}
use Rattle.rtyper_data.specs.declared.small.Listed.TheVariants as listed
use Rattle.rtyper_data.specs.declared.small.Small.TheVariants as small
use Rattle.rtyper_data.specs.Converting.{value_as}
use Rattle.rtyper_data.specs.Finding.{helper_number}
use Rattle.rtyper_data.specs.Graphs.{body_of, failing}
use Rattle.rtyper_data.specs.Seen.{Writing, push, writing}
use Rattle.rtyper_data.specs.Tuples.{variable_of}
use Rattle.list_shape.specs.declared.shape.Shape.{Shape}
use Rattle.list_shape.specs.Shapes.{gives, item_of, new_by, number_of, shape_of}
use Rattle.list_loops.specs.Changing.{append, append_done, append_graph, extend, extend_done, extend_graph, insert, insert_done, insert_graph, insert_low, insert_room, remove, remove_done, remove_graph, room, room_asks, room_graph, room_grows}
use Rattle.list_loops.specs.Loops.{contains, contains_asks, contains_graph, contains_start, contains_turn, contains_types, copied, copy_asks, copy_graph, copy_items, copy_start, copy_turn, copy_types, move_up, place, place_from_end, place_high, place_low, place_start, place_tests, reverse, reverse_asks, reverse_start, reverse_turn, same_item, truth, truth_asks, truth_given, up_asks, up_start, up_turn}
use Rattle.list_loops.specs.Making.{bound, but_last, but_last_given, but_last_graph, but_last_shorter, but_last_start, concat, concat_given, concat_graph, make, make_given, repeat, repeat_asks, repeat_beyond, repeat_copies, repeat_graph, repeat_makes, repeat_more, repeat_paid, repeat_start, repeat_turn, slice, slice_cut, slice_end, slice_graph}
use Rattle.list_texts.specs.Arguments.{arguments, arguments_graph, asks, first_blocks, last_blocks, next_byte, next_text, start, text_asks, text_done}
use Rattle.list_texts.specs.Splitting.{counted, counted_block, empty, item_text, join, join_asks, join_behind_first, join_between, join_graph, join_made, join_more, join_next, join_separated, join_short, join_shortened, join_start, join_types, part, part_byte, part_graph, part_more, part_none, part_one, part_short, put, put_block, split, split_asks, split_counted, split_graph, split_last, split_more, split_next, split_paid, split_part, split_start, split_tested}
use Rattle.list_helpers.specs.Listing.{list_graph, made}
use Rattle.rtyper_program.specs.Cuts.{small_raises}
use Rattle.growth_laws.specs.Growing.{Grows}
use Rattle.growth_laws.proofs.Data.{then_grows}
use Rattle.growth_laws.proofs.DictGraphs.{listed_grows}
use Rattle.told_graphs.proofs.Keeping.{AllQuiet, Calm, Keeps, Telling, all_calm, calm, chain, more, pushed, writes}
use Rattle.told_graphs.proofs.QuietData.{equal_keeps, value_as_keeps, variable_keeps}

module _ (t : Telling) where
  -- what a graph of lists asks for
  told : (graph : Listed) (found : Found) → small_raises (small.Listed graph) ≡ false → Grows (number_of graph found).1 t.last → t.quiet (number_of graph found).0 ≡ true
  told graph found h late = t.smalls (small.Listed graph) found h late

  -- ---- lists that change

  remove_calm : (s : Shape) (found : Found) → Calm t (remove s found)
  unfolding remove remove_graph remove_done
  remove_calm s found late = all_calm t (remove s found).0.blocks refl (told (listed.Copy s.array s.array) found refl late, tt)

  room_calm : (s : Shape) (found : Found) → Calm t (room s found)
  unfolding room room_graph room_asks room_grows
  room_calm s found late = all_calm t (room s found).0.blocks refl (told (listed.Copy s.array s.array) found refl late, tt)

  append_calm : (s : Shape) (found : Found) → Calm t (append s found)
  unfolding append append_graph append_done
  append_calm s found late = all_calm t (append s found).0.blocks refl (told (listed.Room s.list) found refl late, tt)

  insert_calm : (s : Shape) (found : Found) → Calm t (insert s found)
  unfolding insert insert_graph insert_low insert_room insert_done
  insert_calm s found late =
      let next : Found = (number_of (listed.Room s.list) found).1 in
      all_calm t (insert s found).0.blocks refl (told (listed.Room s.list) found refl (then_grows (listed_grows (listed.MoveUp s.array) next) late), (told (listed.MoveUp s.array) next refl late, tt))

  extend_calm : (s by : Shape) (found : Found) → Calm t (extend s by found)
  unfolding extend extend_graph extend_done
  extend_calm s by found late =
      let next : Found = (number_of (listed.Room s.list) found).1 in
      all_calm t (extend s by found).0.blocks refl (told (listed.Room s.list) found refl (then_grows (listed_grows (listed.Copy by.array s.array) next) late), (told (listed.Copy by.array s.array) next refl late, tt))

  -- ---- loops

  copied_keeps : (layout : Layout) (a b : ℕ) (w : Writing) → Keeps t w (copied layout a b w)
  unfolding copied
  copied_keeps layout a b w =
      let item : COperand × Body = new_by (item_of layout a) (λ v. op.GetItem v a 0 (Var 1)) w.body in
      let value : COperand × Writing = value_as layout item.0 (item_of layout a) (item_of layout b) (writing w.found item.1) in
      chain t (writes t w item.1 (λ q. more t w.body.ops _ q refl)) (chain t (value_as_keeps t layout item.0 (item_of layout a) (item_of layout b) (writing w.found item.1))
      (chain t (pushed t (op.SetItem b 2 (Var 3) value.0) value.1 refl) (chain t (pushed t (op.Binary 6 binary.Add (Var 1) (word (pos 1))) _ refl) (chain t (pushed t (op.Binary 7 binary.Add (Var 3) (word (pos 1))) _ refl) (pushed t (op.Binary 8 binary.Sub (Var 4) (word (pos 1))) _ refl)))))

  copy_calm : (layout : Layout) (a b : ℕ) (found : Found) → Calm t (copy_items layout a b found)
  unfolding copy_items copy_graph copy_start copy_asks copy_turn
  copy_calm layout a b found late =
      (calm t _ refl tt, (calm t _ refl tt, (record { ops = (copied_keeps layout a b (writing found (body_of (copy_types a b)))).stays late tt; exit = tt }, (calm t _ refl tt, tt))))

  same_item_keeps : (layout : Layout) (kind : LlType) (s : Shape) (w : Writing) → Keeps t w (same_item layout kind s w).1
  unfolding same_item
  same_item_keeps layout kind s w =
      let item : COperand × Body = new_by s.item (λ v. op.GetItem v s.array 2 (Var 4)) w.body in
      chain t (writes t w item.1 (λ q. more t w.body.ops _ q refl)) (chain t (pushed t (op.Binary 6 binary.Add (Var 4) (word (pos 1))) (writing w.found item.1) refl) (equal_keeps t layout item.0 s.item (Var 0) kind _))

  contains_calm : (layout : Layout) (kind : LlType) (s : Shape) (found : Found) → Calm t (contains layout kind s found)
  unfolding contains contains_graph contains_start contains_asks contains_turn
  contains_calm layout kind s found late =
      let w : Writing = writing found (body_of (contains_types kind s)) in
      let same : COperand × Writing = same_item layout kind s w in
      (calm t _ refl tt, (calm t _ refl tt, (record { ops = (chain t (same_item_keeps layout kind s w) (variable_keeps t same.0 type.Bool same.1)).stays late tt; exit = tt }, (calm t _ refl tt, (calm t _ refl tt, tt)))))

  -- ---- lists that are made

  concat_calm : (a b r : Shape) (found : Found) → Calm t (concat a b r found)
  unfolding concat concat_graph concat_given
  concat_calm a b r found late =
      let next : Found = (number_of (listed.Make r.list) found).1 in
      let last : Found = (number_of (listed.Copy a.array r.array) next).1 in
      let behind : Grows last t.last = then_grows (listed_grows (listed.Copy b.array r.array) last) late in
      all_calm t (concat a b r found).0.blocks refl (
        told (listed.Make r.list) found refl (then_grows (listed_grows (listed.Copy a.array r.array) next) behind),
        (told (listed.Copy a.array r.array) next refl behind, (told (listed.Copy b.array r.array) last refl late, tt)),
      )

  repeat_calm : (a r : Shape) (found : Found) → Calm t (repeat a r found)
  unfolding repeat repeat_graph repeat_makes repeat_copies repeat_start repeat_asks repeat_beyond repeat_paid repeat_turn repeat_more gives
  repeat_calm a r found late =
      let next : Found = (number_of (listed.Make r.list) found).1 in
      all_calm t (repeat a r found).0.blocks refl (told (listed.Make r.list) found refl (then_grows (listed_grows (listed.Copy a.array r.array) next) late), (told (listed.Copy a.array r.array) next refl late, tt))

  slice_calm : (a r : Shape) (found : Found) → Calm t (slice a r found)
  unfolding slice slice_graph slice_cut slice_end bound
  slice_calm a r found late =
      let next : Found = (number_of (listed.Make r.list) found).1 in
      all_calm t (slice a r found).0.blocks refl (told (listed.Make r.list) found refl (then_grows (listed_grows (listed.Copy a.array r.array) next) late), (told (listed.Copy a.array r.array) next refl late, tt))

  but_last_calm : (a r : Shape) (found : Found) → Calm t (but_last a r found)
  unfolding but_last but_last_graph but_last_given but_last_shorter but_last_start
  but_last_calm a r found late = all_calm t (but_last a r found).0.blocks refl (told (listed.Slice a.list r.list) found refl late, tt)

  arguments_calm : (s : Shape) (found : Found) → Calm t (arguments s found)
  unfolding arguments arguments_graph first_blocks last_blocks start asks next_text text_asks next_byte text_done gives
  arguments_calm s found late = all_calm t (arguments s found).0.blocks refl (told (listed.Make s.list) found refl late, tt)

  -- ---- strings and lists

  part_calm : (found : Found) → Calm t (part found)
  unfolding part part_graph part_short part_none part_one part_byte part_more
  part_calm found late =
      let next : Found = (empty found).1 in
      let last : Found = (helper_number StrOfChar next).1 in
      all_calm t (part found).0.blocks refl (t.helpers StrOfChar next refl (then_grows (listed_grows (listed.Copy 0 0) last) late), (told (listed.Copy 0 0) last refl late, tt))

  item_text_keeps : (layout : Layout) (s : Shape) (w : Writing) → Keeps t w (item_text layout s w).1
  unfolding item_text
  item_text_keeps layout s w =
      let item : COperand × Body = new_by s.item (λ v. op.GetItem v s.array 2 (Var 5)) w.body in
      let value : COperand × Writing = value_as layout item.0 s.item (type.Ptr 0) (writing w.found item.1) in
      chain t (writes t w item.1 (λ q. more t w.body.ops _ q refl)) (chain t (value_as_keeps t layout item.0 s.item (type.Ptr 0) (writing w.found item.1))
      (chain t (variable_keeps t value.0 (type.Ptr 0) value.1) (pushed t (op.GetField 12 0 (variable_of value.0 (type.Ptr 0) value.1.body).0 0) _ refl)))

  abbrev Counts : Layout → Shape → Writing → Writing
  Counts layout s w = push (op.Binary 7 binary.Gt (Var 5) (word (pos 0))) (push (op.Binary 11 binary.Add (Var 6) (Var 12)) (push (op.Step (Var 12)) (item_text layout s w).1))

  counts_keep : (layout : Layout) (s : Shape) (w : Writing) → Keeps t w (Counts layout s w)
  counts_keep layout s w = chain t (item_text_keeps layout s w) (chain t (pushed t (op.Step (Var 12)) _ refl) (chain t (pushed t (op.Binary 11 binary.Add (Var 6) (Var 12)) _ refl) (pushed t (op.Binary 7 binary.Gt (Var 5) (word (pos 0))) _ refl)))

  abbrev Puts : Layout → Shape → ℕ → Writing → Writing
  Puts layout s copies w =
      push (op.Binary 10 binary.Add (Var 5) (word (pos 1)))
      (push (op.Binary 11 binary.Add (Var 9) (Var 12))
      (push (op.Call None copies (Var (item_text layout s w).0 ∷ word (pos 0) ∷ Var 8 ∷ Var 9 ∷ Var 12 ∷ [])) (item_text layout s w).1))

  puts_keep : (layout : Layout) (s : Shape) (copies : ℕ) (w : Writing) → t.quiet copies ≡ true → Keeps t w (Puts layout s copies w)
  puts_keep layout s copies w e =
      chain t (item_text_keeps layout s w) (chain t (pushed t (op.Call None copies (Var (item_text layout s w).0 ∷ word (pos 0) ∷ Var 8 ∷ Var 9 ∷ Var 12 ∷ [])) _ e)
      (chain t (pushed t (op.Binary 11 binary.Add (Var 9) (Var 12)) _ refl) (pushed t (op.Binary 10 binary.Add (Var 5) (word (pos 1))) _ refl)))

  join_calm : (layout : Layout) (s : Shape) (found : Found) → Calm t (join layout s found)
  unfolding join counted put join_graph join_start join_asks counted_block join_between join_next join_made join_more join_behind_first join_separated put_block join_short join_shortened gives
  join_calm layout s found late =
      let w : Writing = writing found (body_of (join_types s)) in
      let counts : Writing = Counts layout s w in
      let copies : ℕ × Found = number_of (listed.Copy 0 0) counts.found in
      let v : Writing = writing copies.1 (body_of counts.body.types) in
      let puts : Writing = Puts layout s copies.0 v in
      let behind_puts : Grows puts.found t.last = then_grows (listed_grows listed.Part puts.found) late in
      let behind_copies : Grows copies.1 t.last = then_grows (item_text_keeps layout s v).grows behind_puts in
      let copy : t.quiet copies.0 ≡ true = told (listed.Copy 0 0) counts.found refl behind_copies in (
        calm t _ refl tt,
        (
          calm t _ refl tt,
          (
            record { ops = (counts_keep layout s w).stays (then_grows (listed_grows (listed.Copy 0 0) counts.found) behind_copies) tt; exit = tt },
            (
              calm t _ refl tt,
              (
                calm t _ refl tt,
                (
                  calm t _ refl tt,
                  (
                    calm t _ refl tt,
                    (
                      calm t _ refl tt,
                      (
                        calm t _ refl (copy, tt),
                        (
                          record { ops = (puts_keep layout s copies.0 v copy).stays behind_puts tt; exit = tt },
                          (
                            calm t _ refl tt,
                            (calm t _ refl (told listed.Part puts.found refl late, tt), (calm t _ refl tt, tt)),
                          ),
                        ),
                      ),
                    ),
                  ),
                ),
              ),
            ),
          ),
        ),
      )

  split_calm : (s : Shape) (found : Found) → Calm t (split s found)
  unfolding split split_graph split_start split_asks split_counted split_paid split_more split_tested split_part split_next split_last
  split_calm s found late =
      let next : Found = (number_of (listed.Make s.list) found).1 in
      let part : t.quiet (number_of listed.Part next).0 ≡ true = told listed.Part next refl late in
      all_calm t (split s found).0.blocks refl (told (listed.Make s.list) found refl (then_grows (listed_grows listed.Part next) late), (part, (part, tt)))

  -- ---- all

  made_calm : (layout : Layout) (graph : Listed) (found : Found) → Calm t (made layout graph found)
  unfolding make make_given
  made_calm layout (listed.Concat l m r) found = concat_calm (shape_of layout l) (shape_of layout m) (shape_of layout r) found
  made_calm layout (listed.Repeat l r) found = repeat_calm (shape_of layout l) (shape_of layout r) found
  made_calm layout (listed.Slice l r) found = slice_calm (shape_of layout l) (shape_of layout r) found
  made_calm layout (listed.ButLast l r) found = but_last_calm (shape_of layout l) (shape_of layout r) found
  made_calm layout (listed.Arguments l) found = arguments_calm (shape_of layout l) found
  made_calm layout (listed.Join l) found = join_calm layout (shape_of layout l) found
  made_calm layout (listed.Split l) found = split_calm (shape_of layout l) found
  made_calm layout (listed.Make l) found = λ late. all_calm t (make (shape_of layout l)).blocks refl tt
  made_calm layout other found = part_calm found

  place_calm : (s : Shape) (raises : Bool) (found : Found) → raises ≡ false → AllQuiet t.quiet (place s (failing 1 6 raises found).0).blocks
  unfolding place place_tests place_start place_from_end place_low place_high failing gives
  place_calm s true found h = absurd (cc)
  place_calm s false found h = all_calm t (place s (failing 1 6 false found).0).blocks refl tt

  pub list_graph_calm : (layout : Layout) (graph : Listed) (found : Found) → small_raises (small.Listed graph) ≡ false → Calm t (list_graph layout graph found)
  unfolding truth truth_asks truth_given move_up up_start up_asks up_turn reverse reverse_start reverse_asks reverse_turn
  list_graph_calm layout (listed.Place l raises) found h = λ late. place_calm (shape_of layout l) raises found h
  list_graph_calm layout (listed.Truth l) found h = λ late. all_calm t (truth (shape_of layout l)).blocks refl tt
  list_graph_calm layout (listed.Remove l) found h = remove_calm (shape_of layout l) found
  list_graph_calm layout (listed.Copy a b) found h = copy_calm layout a b found
  list_graph_calm layout (listed.MoveUp a) found h = λ late. all_calm t (move_up layout a).blocks refl tt
  list_graph_calm layout (listed.Room l) found h = room_calm (shape_of layout l) found
  list_graph_calm layout (listed.Append l) found h = append_calm (shape_of layout l) found
  list_graph_calm layout (listed.Insert l) found h = insert_calm (shape_of layout l) found
  list_graph_calm layout (listed.Extend l m) found h = extend_calm (shape_of layout l) (shape_of layout m) found
  list_graph_calm layout (listed.Reverse l) found h = λ late. all_calm t (reverse (shape_of layout l)).blocks refl tt
  list_graph_calm layout (listed.Contains kind l) found h = contains_calm layout kind (shape_of layout l) found
  list_graph_calm layout other found h = made_calm layout other found
