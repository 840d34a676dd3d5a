-- What is written of lists is tidy.
use Rattle.std.proofs.Common.{◌≡◌, ◌<◌, ℕ, ◌+◌, Bool, true, false, List, [], ◌∷◌, ◌++◌, length, Option, Some, None, refl}
use Rattle.std.specs.Prelude.{if◌then◌else◌, ◌≢◌, negsuc, codes, pos}
use Rattle.std.specs.Str.{bytes_eq}
use Rattle.csub_tree.specs.declared.tree.CBinary.TheVariants.{Lt}
use Rattle.csub_tree.specs.declared.tree.COperand.{COperand}
use Rattle.csub_tree.specs.declared.tree.COperand.TheVariants.{Var}
use Rattle.ll_code.specs.declared.program.LlType.{LlType}
use Rattle.ll_code.specs.declared.program.LlType.TheVariants.{Signed, Bool as Flag, Ptr}
use Rattle.ll_code.specs.declared.program.LlType.TheVariants as type
use Rattle.ll_code.specs.declared.program.LlOp.{LlOp}
use Rattle.ll_code.specs.declared.program.LlOp.TheVariants.{Call, GetItem, SetItem, Step}
use Rattle.ll_live.specs.Live.{reads, set_by, variables_of}
use Rattle.rtyper_layout.specs.declared.layout.Layout.{Layout}
use Rattle.rtyper_layout.specs.Layout.{is_list as is_list_struct}
use Rattle.rtyper_data.specs.declared.body.Body.{Body}
use Rattle.rtyper_data.specs.declared.found.Found.{Found}
use Rattle.rtyper_data.specs.declared.small.Listed.{Listed as Graph}
use Rattle.rtyper_data.specs.declared.small.Listed.TheVariants as listed
use Rattle.rtyper_data.specs.declared.small.Small.TheVariants.{Listed}
use Rattle.rtyper_data.specs.Comparing.{opposite_of}
use Rattle.rtyper_data.specs.Converting.{by_small, give, given, present}
use Rattle.rtyper_data.specs.Numbers.{word}
use Rattle.rtyper_data.specs.Seen.{Operand, fresh, kind_of, push, type_at, type_of, with_op, Writing, writing}
use Rattle.rtyper_data.specs.Tuples.{variable_of}
use Rattle.list_shape.specs.declared.shape.Shape.{Shape}
use Rattle.list_shape.specs.Shapes.{array_read, length_read, new_by, number_of, shape_of}
use Rattle.rtyper_list.specs.Operands.{array_in, done_by, give_listed, item_at, list_at, list_if, list_of, of_list_or_none, read_item, there, there_in, variable_in}
use Rattle.rtyper_list.specs.Displays.{but_last, but_last_to, bounds, comprehension, comprehension_to, concat, concat_to, cost_of, display, display_of, display_to, filled, items_as, made, put_list, repeat, repeat_to, set_items, slice, slice_between, slice_of}
use Rattle.rtyper_list.specs.Items.{delete, has_item, index, is_within, len, length_in, placed, pop, popped, shape_in, store, stored, walk, walk_item, within}
use Rattle.growth_laws.proofs.Growing.{same_found, smalls_grow}
use Rattle.throw_laws.specs.Pieces.{AllIn}
use Rattle.throw_laws.specs.Ready.{OpFits}
use Rattle.catch_laws.proofs.Reading.{both_in}
use Rattle.reading_laws.specs.Results.{SmallGives}
use Rattle.reading_laws.specs.Tidy.{AreSet, AreThere, IsSet, IsThere, Setup, Stands, Tidy, Wider, taken}
use Rattle.reading_laws.proofs.Steps.{AreGiven, all_given, all_more, args_more, as_tidy, given_more, held, if_tidy, more, nothing, operand_set, pushed, set_fresh, sets_in, still, takes_none, then_tidy, there_more, wider}
use Rattle.reading_laws.proofs.Values.{by_small_tidy, give_made_tidy, give_tidy, given_tidy, present_tidy, typed_tidy}
use Rattle.reading_laws.proofs.Comparisons.{opposite_of_tidy, two_in, variable_of_tidy}
use Rattle.reading_laws.proofs.Writers.{give_binary_tidy, paid_tidy, word_set}
use Rattle.reading_laws.proofs.Operating.{failure_tidy, says_nothing_tidy}

three_in : (a : ℕ) (x y : COperand) (s : List ℕ) → IsSet (Var a) s → IsSet x s → IsSet y s → AllIn (a ∷ (variables_of x ++ variables_of y)) s
three_in a x y s g h k = both_in (a ∷ []) (variables_of x ++ variables_of y) s g.it (two_in x y s h k)

-- the list that a place takes is of a type
list_typed : (layout : Layout) (t : LlType) (r : ℕ) → list_if layout t ≡ Some r → t ≡ Ptr r
list_typed layout (Ptr n) r e = on (is_list_struct layout n) e
  where
    on : (b : Bool) → (if b then Some n else None) ≡ Some r → Ptr n ≡ Ptr r
    on true e = cc
    on false e = absurd (cc)
list_typed layout type.Void r e = absurd (cc)
list_typed layout type.Signed r e = absurd (cc)
list_typed layout type.Char r e = absurd (cc)
list_typed layout type.Bool r e = absurd (cc)
list_typed layout type.Fn r e = absurd (cc)

module _ {f : Setup} where
  -- ---- operations with new variables

  pub new_by_tidy : {s : List ℕ} (t : LlType) (o : ℕ → LlOp) (w : Writing) → ((v : ℕ) → AllIn (reads (o v)) s) → ((v : ℕ) → set_by (o v) ≡ Some v) → ((v : ℕ) → v < f.size → OpFits f.program f.size (o v))
      → Tidy f s ((new_by t o w.body).0 ∷ []) w (writing w.found (new_by t o w.body).1)
  new_by_tidy t o w r sets fit = set_fresh t o w.found w r sets (same_found w.found) (λ a i v j. fit v j)

  pub array_in_tidy : {s : List ℕ} (shape : Shape) (list : ℕ) (w : Writing) → IsSet (Var list) s → Tidy f s (Var (array_in shape list w.body).0 ∷ []) w (writing w.found (array_in shape list w.body).1)
  unfolding array_in
  array_in_tidy shape list w h = set_fresh (Ptr shape.array) (λ v. array_read v shape list) w.found w (λ v. h.it) (λ v. refl) (same_found w.found) (λ a i v j. (refl, j))

  pub read_item_tidy : {s : List ℕ} (shape : Shape) (list : ℕ) (at : COperand) (w : Writing) → IsSet (Var list) s → IsSet at s → Tidy f s ((read_item shape list at w.body).0 ∷ []) w (writing w.found (read_item shape list at w.body).1)
  unfolding read_item
  read_item_tidy shape list at w h j =
      then_tidy (array_in_tidy shape list w h) (λ t m k.
      new_by_tidy shape.item (λ v. GetItem v shape.array (array_in shape list w.body).0 at) (writing w.found (array_in shape list w.body).1) (λ v. two_in (Var (array_in shape list w.body).0) at t k.0 (more m j)) (λ v. refl) (λ v j. (refl, j)))

  stored_tidy : {s : List ℕ} (shape : Shape) (list : ℕ) (at value : COperand) (w : Writing) → IsSet (Var list) s → IsSet at s → IsSet value s → Tidy f s [] w (writing w.found (stored shape list at value w.body))
  unfolding stored
  stored_tidy shape list at value w g h k =
      then_tidy (array_in_tidy shape list w g) (λ t m j.
      pushed [] (SetItem shape.array (array_in shape list w.body).0 at value) w.found (writing w.found (array_in shape list w.body).1) (three_in (array_in shape list w.body).0 at value t j.0 (more m h) (more m k)) tt (same_found w.found) (λ a i. (refl, tt)))

  length_in_tidy : {s : List ℕ} (shape : Shape) (list : ℕ × Body) (w : Writing) → IsSet (Var list.0) s → Tidy f s ((length_in shape list).0 ∷ []) (writing w.found list.1) (writing w.found (length_in shape list).1)
  length_in_tidy shape list w h = new_by_tidy Signed (λ v. length_read v shape list.0) (writing w.found list.1) (λ v. h.it) (λ v. refl) (λ v j. (refl, j))

  pub variable_in_tidy : {s : List ℕ} {w : Writing} (t : LlType) (made : COperand × Writing) → Tidy f s (made.0 ∷ []) w made.1 → Tidy f s (Var (variable_in t made).0 ∷ []) w (variable_in t made).1
  variable_in_tidy t made one = then_tidy one (λ u m k. variable_of_tidy made.0 t made.1 k.0)

  set_items_tidy : {s : List ℕ} (array into i : ℕ) (xs : List COperand) (w : Writing) → IsSet (Var into) s → AreSet xs s → Tidy f s [] w (writing w.found (set_items array into i xs w.body))
  set_items_tidy array into i [] w h k = nothing
  set_items_tidy {s} array into i (x ∷ xs) w h k =
      then_tidy (pushed [] (SetItem array into (word (pos i)) x) w.found w (three_in into (word (pos i)) x s h (word_set (pos i) s) k.0) tt (same_found w.found) (λ a j. (refl, tt)))
      (λ t m q. set_items_tidy array into (i + 1) xs (writing w.found (with_op (SetItem array into (word (pos i)) x) w.body)) (more m h) (all_more xs m k.1))

  filled_tidy : {s : List ℕ} (shape : Shape) (list : ℕ) (xs : List COperand) (w : Writing) → IsSet (Var list) s → AreSet xs s → Tidy f s [] w (writing w.found (filled shape list xs w.body))
  unfolding filled
  filled_tidy shape list xs w h k = then_tidy (array_in_tidy shape list w h) (λ t m j. set_items_tidy shape.array (array_in shape list w.body).0 0 xs (writing w.found (array_in shape list w.body).1) j.0 (all_more xs m k))

module _ {f : Setup} (c : Stands f) where
  -- ---- lists, and calls of their graphs

  pub there_tidy : {s : List ℕ} (a : Operand) (w : Writing) → IsThere f a s → Tidy f s ((there f.world.around a w).0 ∷ []) w (there f.world.around a w).1
  unfolding there
  there_tidy a w h = present_tidy c a (of_list_or_none (kind_of a)) w h

  pub there_in_tidy : {s : List ℕ} (a : Operand) (w : Writing) → IsThere f a s → Tidy f s (Var (there_in f.world.around a w).0 ∷ []) w (there_in f.world.around a w).1
  unfolding there_in
  there_in_tidy a w h = variable_in_tidy (type_of f.world.around a) (there f.world.around a w) (there_tidy a w h)

  pub done_by_tidy : {s : List ℕ} (graph : Graph) (xs : List COperand) (w : Writing) → AreSet xs s → Tidy f s [] w (done_by graph xs w)
  unfolding done_by
  done_by_tidy {s} graph xs w h = pushed [] (Call None (number_of graph w.found).0 xs) (number_of graph w.found).1 w (sets_in xs s h) tt (smalls_grow (Listed graph) w.found) (λ a i. takes_none f.program f.size _)

  pub give_listed_tidy : {s : List ℕ} (graph : Graph) (gives : LlType) (xs : List COperand) (w : Writing) → SmallGives f.world (Listed graph) → AreSet xs s → Tidy f s (taken true f) w (give_listed f.world.around f.place graph gives xs w)
  unfolding give_listed
  give_listed_tidy graph gives xs w g h = give_made_tidy c gives w _ (by_small_tidy c (Listed graph) gives xs w g h)

  -- ---- displays

  items_as_tidy : {s : List ℕ} (t : LlType) (args : List Operand) (w : Writing) → AreThere f args s → Tidy f s (items_as f.world.around t args w).0 w (items_as f.world.around t args w).1
  items_as_tidy t [] w h = nothing
  items_as_tidy t (a ∷ args) w h =
      then_tidy (given_tidy c a t w h.0.inside) (λ u m k.
      as_tidy _ (items_as_tidy t args (given f.world.around a t w).1 (args_more f args m h.1)) (λ z r j. (more r k.0, j)))

  made_tidy : {s : List ℕ} (r count : ℕ) (w : Writing) → Tidy f s (Var (made r count w).0 ∷ []) w (made r count w).1
  unfolding made
  made_tidy {s} r count w = variable_in_tidy (Ptr r) _ (by_small_tidy c (Listed (listed.Make r)) (Ptr r) (word (pos count) ∷ []) w tt (word_set (pos count) s, tt))

  put_list_tidy : {s : List ℕ} (shape : Shape) (r : ℕ) (items : List COperand) (list : ℕ × Writing) → type_at f.world.around f.place ≡ Ptr r → IsSet (Var list.0) s → AreSet items s → Tidy f s (taken true f) list.1 (put_list f.place shape items list)
  put_list_tidy shape r items list is h k = then_tidy (filled_tidy shape list.0 items list.1 h k) (λ t m j. typed_tidy c (Var list.0) (Ptr r) (writing list.1.found (filled shape list.0 items list.1.body)) (λ e. absurd (cc)) is (more m h))

  display_of_tidy : {s : List ℕ} (r : ℕ) (args : List Operand) (w : Writing) → type_at f.world.around f.place ≡ Ptr r → AreThere f args s → Tidy f s (taken true f) w (display_of f.world.around f.place r args w)
  unfolding display_of
  display_of_tidy r args w is h =
      then_tidy (items_as_tidy (shape_of f.world.around.layout r).item args w h) (λ t m k.
      then_tidy (made_tidy r (length args) (items_as f.world.around (shape_of f.world.around.layout r).item args w).1) (λ u n j.
      put_list_tidy (shape_of f.world.around.layout r) r (items_as f.world.around (shape_of f.world.around.layout r).item args w).0 (made r (length args) (items_as f.world.around (shape_of f.world.around.layout r).item args w).1) is j.0 (all_more _ n k)))

  display_to_tidy : {s : List ℕ} (args : List Operand) (r : Option ℕ) (w : Writing) → list_if f.world.around.layout (type_at f.world.around f.place) ≡ r → AreThere f args s → Tidy f s (taken true f) w (display_to f.world.around f.place args r w)
  display_to_tidy args None w is h = says_nothing_tidy c w
  display_to_tidy args (Some r) w is h = display_of_tidy r args w (list_typed f.world.around.layout (type_at f.world.around f.place) r is) h

  pub display_tidy : {s : List ℕ} (args : List Operand) (w : Writing) → AreThere f args s → Tidy f s (taken true f) w (display f.world.around f.place args w)
  unfolding display list_at
  display_tidy {s} args w h = then_tidy (paid_tidy c (cost_of (length args)) w (word_set (pos (length args + 1)) s)) (λ t m k. display_to_tidy args (list_at f.world.around f.place) (push (Step (cost_of (length args))) w) refl (args_more f args m h))

  comprehension_to_tidy : {s : List ℕ} (r : Option ℕ) (w : Writing) → Tidy f s (taken true f) w (comprehension_to f.world.around f.place r w)
  comprehension_to_tidy None w = says_nothing_tidy c w
  comprehension_to_tidy {s} (Some r) w = give_listed_tidy (listed.Make r) (Ptr r) (word (pos 0) ∷ []) w tt (word_set (pos 0) s, tt)

  pub comprehension_tidy : {s : List ℕ} (w : Writing) → Tidy f s (taken true f) w (comprehension f.world.around f.place w)
  unfolding comprehension
  comprehension_tidy {s} w = then_tidy (paid_tidy c (word (pos 1)) w (word_set (pos 1) s)) (λ t m k. comprehension_to_tidy (list_at f.world.around f.place) (push (Step (word (pos 1))) w))

  concat_to_tidy : {s : List ℕ} (a b : Operand) (r : Option ℕ) (w : Writing) → IsThere f a s → IsThere f b s → Tidy f s (taken true f) w (concat_to f.world.around f.place a b r w)
  concat_to_tidy a b None w h j = failure_tidy c w
  concat_to_tidy a b (Some r) w h j =
      then_tidy (there_tidy a w h) (λ t m k.
      then_tidy (there_tidy b (there f.world.around a w).1 (there_more m j)) (λ u n i.
      give_listed_tidy (listed.Concat (list_of f.world.around a) (list_of f.world.around b) r) (Ptr r) _ _ tt (more n k.0, (i.0, tt))))

  pub concat_tidy : {s : List ℕ} (a b : Operand) (w : Writing) → IsThere f a s → IsThere f b s → Tidy f s (taken true f) w (concat f.world.around f.place a b w)
  unfolding concat
  concat_tidy a b w h j = concat_to_tidy a b (list_at f.world.around f.place) w h j

  repeat_to_tidy : {s : List ℕ} (a : Operand) (times : COperand) (r : Option ℕ) (w : Writing) → IsThere f a s → IsSet times s → Tidy f s (taken true f) w (repeat_to f.world.around f.place a times r w)
  repeat_to_tidy a times None w h j = failure_tidy c w
  repeat_to_tidy a times (Some r) w h j = then_tidy (there_tidy a w h) (λ t m k. give_listed_tidy (listed.Repeat (list_of f.world.around a) r) (Ptr r) _ _ tt (k.0, (more m j, tt)))

  pub repeat_tidy : {s : List ℕ} (a : Operand) (times : COperand) (w : Writing) → IsThere f a s → IsSet times s → Tidy f s (taken true f) w (repeat f.world.around f.place a times w)
  unfolding repeat
  repeat_tidy a times w h j = repeat_to_tidy a times (list_at f.world.around f.place) w h j

  bounds_set : (s : List ℕ) (low high : Bool) (args : List Operand) → AreGiven args s → IsSet (bounds low high args).0 s × IsSet (bounds low high args).1 s
  bounds_set s true true [] h = (word_set (pos 0) s, word_set (pos 9223372036854775807) s)
  bounds_set s true true (a ∷ []) h = (word_set (pos 0) s, word_set (pos 9223372036854775807) s)
  bounds_set s true true (a ∷ b ∷ args) h = (h.0, h.1.0)
  bounds_set s true false [] h = (word_set (pos 0) s, word_set (pos 9223372036854775807) s)
  bounds_set s true false (a ∷ args) h = (h.0, word_set (pos 9223372036854775807) s)
  bounds_set s false true [] h = (word_set (pos 0) s, word_set (pos 9223372036854775807) s)
  bounds_set s false true (a ∷ args) h = (word_set (pos 0) s, h.0)
  bounds_set s false false args h = (word_set (pos 0) s, word_set (pos 9223372036854775807) s)

  slice_between_tidy : {s : List ℕ} (a : Operand) (ends : COperand × COperand) (r : Option ℕ) (w : Writing) → IsThere f a s → IsSet ends.0 s → IsSet ends.1 s → Tidy f s (taken true f) w (slice_between f.world.around f.place a ends r w)
  slice_between_tidy a ends None w h j l = failure_tidy c w
  slice_between_tidy a ends (Some r) w h j l = then_tidy (there_tidy a w h) (λ t m k. give_listed_tidy (listed.Slice (list_of f.world.around a) r) (Ptr r) _ _ tt (k.0, (more m j, (more m l, tt))))

  slice_of_tidy : {s : List ℕ} (a : Operand) (ends : COperand × COperand) (w : Writing) → IsThere f a s → IsSet ends.0 s → IsSet ends.1 s → Tidy f s (taken true f) w (slice_of f.world.around f.place a ends w)
  unfolding slice_of
  slice_of_tidy a ends w h j l = slice_between_tidy a ends (list_at f.world.around f.place) w h j l

  pub slice_tidy : {s : List ℕ} (low high : Bool) (args : List Operand) (w : Writing) → AreThere f args s → Tidy f s (taken true f) w (slice f.world.around f.place low high args w)
  unfolding slice
  slice_tidy low high [] w h = failure_tidy c w
  slice_tidy {s} low high (a ∷ args) w h = slice_of_tidy a (bounds low high args) w h.0 (bounds_set s low high args (all_given f s args h.1)).0 (bounds_set s low high args (all_given f s args h.1)).1

  but_last_to_tidy : {s : List ℕ} (a : Operand) (r : Option ℕ) (w : Writing) → IsThere f a s → Tidy f s (taken true f) w (but_last_to f.world.around f.place a r w)
  but_last_to_tidy a None w h = failure_tidy c w
  but_last_to_tidy a (Some r) w h = then_tidy (there_tidy a w h) (λ t m k. give_listed_tidy (listed.ButLast (list_of f.world.around a) r) (Ptr r) _ _ tt k)

  pub but_last_tidy : {s : List ℕ} (a : Operand) (w : Writing) → IsThere f a s → Tidy f s (taken true f) w (but_last f.world.around f.place a w)
  unfolding but_last
  but_last_tidy a w h = but_last_to_tidy a (list_at f.world.around f.place) w h

  -- ---- items, and walks

  placed_tidy : {s : List ℕ} (list x : ℕ) (index : COperand) (w : Writing) → IsSet (Var x) s → IsSet index s → Tidy f s ((placed list x index w).0 ∷ []) w (placed list x index w).1
  unfolding placed
  placed_tidy list x index w h j = by_small_tidy c (Listed (listed.Place list w.found.covered.index)) Signed (Var x ∷ index ∷ []) w tt (h, (j, tt))

  -- an item is read, and given
  item_given : {s : List ℕ} (shape : Shape) (list : ℕ) (at : COperand) (w : Writing) → IsSet (Var list) s → IsSet at s → Tidy f s (taken true f) w (give f.world.around f.place (read_item shape list at w.body).0 shape.item (writing w.found (read_item shape list at w.body).1))
  item_given shape list at w h j = then_tidy (read_item_tidy shape list at w h j) (λ t m k. give_tidy c (read_item shape list at w.body).0 shape.item (writing w.found (read_item shape list at w.body).1) k.0)

  pub index_tidy : {s : List ℕ} (a : Operand) (i : COperand) (w : Writing) → IsThere f a s → IsSet i s → Tidy f s (taken true f) w (index f.world.around f.place a i w)
  unfolding index
  index_tidy a i w h j =
      then_tidy (there_in_tidy a w h) (λ t m k.
      then_tidy (placed_tidy (list_of f.world.around a) (there_in f.world.around a w).0 i (there_in f.world.around a w).1 k.0 (more m j)) (λ u n l.
      item_given (shape_in f.world.around a) (there_in f.world.around a w).0 _ _ (more n k.0) l.0))

  pub store_tidy : {s : List ℕ} (a : Operand) (i : COperand) (d : Operand) (w : Writing) → IsThere f a s → IsSet i s → IsSet d.x s → Tidy f s (taken true f) w (store f.world.around f.place a i d w)
  unfolding store
  store_tidy a i d w h j g =
      then_tidy (there_in_tidy a w h) (λ t m k.
      then_tidy (placed_tidy (list_of f.world.around a) (there_in f.world.around a w).0 i (there_in f.world.around a w).1 k.0 (more m j)) (λ u n l.
      then_tidy (given_tidy c d (shape_in f.world.around a).item _ (more (wider m n) g)) (λ v r q.
      then_tidy (stored_tidy (shape_in f.world.around a) (there_in f.world.around a w).0 _ _ _ (more (wider n r) k.0) (more r l.0) q.0) (λ z o p.
      give_tidy c d.x (type_of f.world.around d) _ (more (wider (wider m n) (wider r o)) g)))))

  pub delete_tidy : {s : List ℕ} (a : Operand) (i : COperand) (w : Writing) → IsThere f a s → IsSet i s → Tidy f s (taken true f) w (delete f.world.around f.place a i w)
  unfolding delete
  delete_tidy a i w h j =
      then_tidy (there_in_tidy a w h) (λ t m k.
      then_tidy (placed_tidy (list_of f.world.around a) (there_in f.world.around a w).0 i (there_in f.world.around a w).1 k.0 (more m j)) (λ u n l.
      then_tidy (done_by_tidy (listed.Remove (list_of f.world.around a)) (Var (there_in f.world.around a w).0 ∷ _ ∷ []) _ (more n k.0, (l.0, tt))) (λ v r q.
      says_nothing_tidy c _)))

  pub pop_tidy : {s : List ℕ} (a : Operand) (i : COperand) (w : Writing) → IsThere f a s → IsSet i s → Tidy f s (taken true f) w (pop f.world.around f.place a i w)
  unfolding pop
  pop_tidy a i w h j =
      then_tidy (there_in_tidy a w h) (λ t m k.
      then_tidy (placed_tidy (list_of f.world.around a) (there_in f.world.around a w).0 i (there_in f.world.around a w).1 k.0 (more m j)) (λ u n l.
      then_tidy (read_item_tidy (shape_in f.world.around a) (there_in f.world.around a w).0 _ _ (more n k.0) l.0) (λ v r q.
      then_tidy (done_by_tidy (listed.Remove (list_of f.world.around a)) (Var (there_in f.world.around a w).0 ∷ _ ∷ []) _ (more (wider n r) k.0, (more r l.0, tt))) (λ z o p.
      give_tidy c _ (shape_in f.world.around a).item _ (more o q.0)))))

  pub has_item_tidy : {s : List ℕ} (a : Operand) (at : COperand) (w : Writing) → IsSet a.x s → IsSet at s → Tidy f s (taken true f) w (has_item f.world.around f.place a at w)
  unfolding has_item
  has_item_tidy a at w h j =
      then_tidy (variable_of_tidy a.x (type_of f.world.around a) w h) (λ t m k.
      then_tidy (length_in_tidy (shape_in f.world.around a) (variable_of a.x (type_of f.world.around a) w.body) w k.0) (λ u n l.
      give_binary_tidy c Lt Flag at _ _ (λ e. absurd (cc)) (more (wider m n) j) l.0))

  pub walk_item_tidy : {s : List ℕ} (a : Operand) (at : COperand) (w : Writing) → IsSet a.x s → IsSet at s → Tidy f s (taken true f) w (walk_item f.world.around f.place a at w)
  unfolding walk_item
  walk_item_tidy a at w h j =
      then_tidy (variable_of_tidy a.x (type_of f.world.around a) w h) (λ t m k.
      item_given (shape_in f.world.around a) (variable_of a.x (type_of f.world.around a) w.body).0 at (writing w.found (variable_of a.x (type_of f.world.around a) w.body).1) k.0 (more m j))

  pub len_tidy : {s : List ℕ} (a : Operand) (w : Writing) → IsThere f a s → Tidy f s (taken true f) w (len f.world.around f.place a w)
  unfolding len
  len_tidy a w h =
      then_tidy (there_in_tidy a w h) (λ t m k.
      then_tidy (length_in_tidy (shape_in f.world.around a) ((there_in f.world.around a w).0, (there_in f.world.around a w).1.body) (there_in f.world.around a w).1 k.0) (λ u n l.
      give_tidy c _ Signed _ l.0))

  pub walk_tidy : {s : List ℕ} (a : Operand) (w : Writing) → IsThere f a s → Tidy f s (taken true f) w (walk f.world.around f.place a w)
  unfolding walk
  walk_tidy a w h = then_tidy (there_tidy a w h) (λ t m k. give_tidy c (there f.world.around a w).0 (type_of f.world.around a) (there f.world.around a w).1 k.0)

  is_within_tidy : {s : List ℕ} (reversed : Bool) (a b : Operand) (w : Writing) → IsSet a.x s → IsThere f b s → Tidy f s ((is_within f.world.around reversed a b w).0 ∷ []) w (is_within f.world.around reversed a b w).1
  unfolding is_within
  is_within_tidy reversed a b w h j =
      then_tidy (there_tidy b w j) (λ t m k.
      opposite_of_tidy reversed _ (by_small_tidy c (Listed (listed.Contains (type_of f.world.around a) (list_of f.world.around b))) Flag (a.x ∷ (there f.world.around b w).0 ∷ []) (there f.world.around b w).1 tt (more m h, (k.0, tt))))

  pub within_tidy : {s : List ℕ} (reversed : Bool) (a b : Operand) (w : Writing) → IsSet a.x s → IsThere f b s → Tidy f s (taken true f) w (within f.world.around f.place reversed a b w)
  unfolding within
  within_tidy reversed a b w h j = give_made_tidy c Flag w _ (is_within_tidy reversed a b w h j)
