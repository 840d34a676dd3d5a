-- Operations on lists are tidy.
use Rattle.std.proofs.Common.{◌≡◌, ℕ, ◌&&◌, Bool, true, false, List, [], ◌∷◌, Option, Some, None, refl, sym, subst}
use Rattle.std.specs.Prelude.{if◌then◌else◌, negsuc, codes}
use Rattle.std.specs.Str.{bytes_eq}
use Rattle.csub_tree.specs.declared.tree.COperand.{COperand}
use Rattle.ll_code.specs.declared.program.LlType.TheVariants.{Ptr}
use Rattle.rpy_meaning.specs.declared.row.RowOp.{RowOp}
use Rattle.rpy_meaning.specs.declared.row.RowOp.TheVariants as row
use Rattle.rpy_tree.specs.declared.syntax.BinOp.TheVariants as bin
use Rattle.rpy_tree.specs.declared.syntax.CmpOp.TheVariants as compared
use Rattle.rtyper_data.specs.declared.small.Listed.TheVariants as listed
use Rattle.rtyper_data.specs.Converting.{given, present}
use Rattle.rtyper_data.specs.Numbers.{word}
use Rattle.rtyper_data.specs.Seen.{Operand, kind_of, type_of, Writing}
use Rattle.rtyper_op.specs.Lowering.{is_never, lower_op}
use Rattle.rtyper_list.specs.Operands.{done_by, is_list, is_none, list_at, list_of, there}
use Rattle.rtyper_list.specs.Items.{shape_in}
use Rattle.rtyper_list.specs.Methods.{append, extend, extend_by, extend_if, extended, insert, item_given, join, method, of_one as method_of_one, of_text_or_none, of_three as method_of_three, of_two as method_of_two, reverse, split, split_to, text_there, with_value}
use Rattle.rtyper_list.specs.Lowering.{fails, first_is_list, first_of_one, first_of_three, first_of_two, joined, joins, lower_list_op, lowered, lowered_unless, method_of, method_of_list, method_of_two as any_method_of_two, of_one, of_some, of_three, of_two, other, second_of_two, slice_or, split_by, splits, sum, sum_or, within_or}
use Rattle.reading_laws.specs.Suits.{any_method_suits, first_of_one_suits, first_of_three_suits, first_of_two_suits, joined_suits, list_method_suits, list_one_suits, list_op_suits, list_suits_unless, list_two_suits, lower_list_suits, lower_suits, method_of_list_suits, second_of_two_suits, some_list_suits, split_suits}
use Rattle.reading_laws.specs.Tidy.{AreThere, IsSet, IsThere, Setup, Stands, Tidy, taken}
use Rattle.reading_laws.proofs.Steps.{if_sets, if_taken, if_tidy, more, nothing, then_tidy, there_more, wider}
use Rattle.reading_laws.proofs.Values.{give_tidy, given_tidy, present_tidy}
use Rattle.reading_laws.proofs.Writers.{word_set}
use Rattle.reading_laws.proofs.Operating.{failure_tidy, lower_op_tidy, never_tidy, says_nothing_tidy}
use Rattle.reading_laws.proofs.Listed.{but_last_tidy, comprehension_tidy, concat_tidy, delete_tidy, display_tidy, done_by_tidy, give_listed_tidy, has_item_tidy, index_tidy, len_tidy, pop_tidy, repeat_tidy, slice_tidy, store_tidy, there_tidy, walk_item_tidy, walk_tidy, within_tidy}

module _ {f : Setup} (c : Stands f) where
  -- ---- methods

  item_given_tidy : {s : List ℕ} (a b : Operand) (w : Writing) → IsSet b.x s → Tidy f s ((item_given f.world.around a b w).0 ∷ []) w (item_given f.world.around a b w).1
  unfolding item_given
  item_given_tidy a b w h = given_tidy c b (shape_in f.world.around a).item w h

  append_tidy : {s : List ℕ} (a b : Operand) (w : Writing) → IsThere f a s → IsSet b.x s → Tidy f s (taken true f) w (append f.world.around f.place a b w)
  unfolding append
  append_tidy a b w h j =
      then_tidy (there_tidy c a w h) (λ t m k.
      then_tidy (item_given_tidy a b (there f.world.around a w).1 (more m j)) (λ u n l.
      then_tidy (done_by_tidy c (listed.Append (list_of f.world.around a)) (_ ∷ _ ∷ []) _ (more n k.0, (l.0, tt))) (λ v r q.
      says_nothing_tidy c _)))

  insert_tidy : {s : List ℕ} (a : Operand) (i : COperand) (d : Operand) (w : Writing) → IsThere f a s → IsSet i s → IsSet d.x s → Tidy f s (taken true f) w (insert f.world.around f.place a i d w)
  unfolding insert
  insert_tidy a i d w h j g =
      then_tidy (there_tidy c a w h) (λ t m k.
      then_tidy (item_given_tidy a d (there f.world.around a w).1 (more m g)) (λ u n l.
      then_tidy (done_by_tidy c (listed.Insert (list_of f.world.around a)) (_ ∷ i ∷ _ ∷ []) _ (more n k.0, (more (wider m n) j, (l.0, tt)))) (λ v r q.
      says_nothing_tidy c _)))

  extended_tidy : {s : List ℕ} (a : Operand) (x : COperand) (gives : Bool) (w : Writing) → IsSet x s → Tidy f s (taken true f) w (extended f.world.around f.place a x gives w)
  extended_tidy a x true w h = give_tidy c x (type_of f.world.around a) w h
  extended_tidy a x false w h = says_nothing_tidy c w

  extend_by_tidy : {s : List ℕ} (a : Operand) (x : COperand) (b : Operand) (gives : Bool) (w : Writing) → IsSet x s → IsThere f b s → Tidy f s (taken true f) w (extend_by f.world.around f.place a x b gives w)
  unfolding extend_by
  extend_by_tidy a x b gives w h j =
      then_tidy (there_tidy c b w j) (λ t m k.
      then_tidy (done_by_tidy c (listed.Extend (list_of f.world.around a) (list_of f.world.around b)) (x ∷ _ ∷ []) _ (more m h, (k.0, tt))) (λ u n l.
      extended_tidy a x gives _ (more (wider m n) h)))

  extend_if_tidy : {s : List ℕ} (b0 : Bool) (a : Operand) (x : COperand) (b : Operand) (gives : Bool) (w : Writing) → IsSet x s → IsThere f b s → Tidy f s (taken true f) w (extend_if b0 f.world.around f.place a x b gives w)
  extend_if_tidy true a x b gives w h j = extend_by_tidy a x b gives w h j
  extend_if_tidy false a x b gives w h j = failure_tidy c w

  extend_tidy : {s : List ℕ} (a b : Operand) (gives : Bool) (w : Writing) → IsThere f a s → IsThere f b s → Tidy f s (taken true f) w (extend f.world.around f.place a b gives w)
  unfolding extend
  extend_tidy a b gives w h j = then_tidy (there_tidy c a w h) (λ t m k. extend_if_tidy (is_list b) a (there f.world.around a w).0 b gives (there f.world.around a w).1 k.0 (there_more m j))

  reverse_tidy : {s : List ℕ} (a : Operand) (w : Writing) → IsThere f a s → Tidy f s (taken true f) w (reverse f.world.around f.place a w)
  unfolding reverse
  reverse_tidy a w h =
      then_tidy (there_tidy c a w h) (λ t m k.
      then_tidy (done_by_tidy c (listed.Reverse (list_of f.world.around a)) ((there f.world.around a w).0 ∷ []) (there f.world.around a w).1 k) (λ u n l.
      says_nothing_tidy c _))

  method_of_one_tidy : {s : List ℕ} (name : List ℕ) (a : Operand) (w : Writing) → IsThere f a s → Tidy f s (taken (list_one_suits name) f) w (method_of_one f.world.around f.place name a w)
  unfolding method_of_one
  method_of_one_tidy {s} name a w h =
      if_taken (bytes_eq name (codes "pop")) true _ _ _ (pop_tidy c a (word (negsuc 0)) w h (word_set (negsuc 0) s))
      (if_taken (bytes_eq name (codes "reverse")) true false _ w (reverse_tidy a w h) nothing)

  method_of_two_tidy : {s : List ℕ} (name : List ℕ) (a b : Operand) (w : Writing) → IsThere f a s → IsThere f b s → Tidy f s (taken (list_two_suits name) f) w (method_of_two f.world.around f.place name a b w)
  unfolding method_of_two
  method_of_two_tidy name a b w h j =
      if_taken (bytes_eq name (codes "append")) true _ _ _ (append_tidy a b w h j.inside)
      (if_taken (bytes_eq name (codes "extend")) true _ _ _ (extend_tidy a b false w h j)
      (if_taken (bytes_eq name (codes "pop")) true false _ w (pop_tidy c a b.x w h j.inside) nothing))

  method_of_three_tidy : {s : List ℕ} (name : List ℕ) (a b d : Operand) (w : Writing) → IsThere f a s → IsThere f b s → IsThere f d s → Tidy f s (taken (bytes_eq name (codes "insert")) f) w (method_of_three f.world.around f.place name a b d w)
  unfolding method_of_three
  method_of_three_tidy name a b d w h j g = if_sets (bytes_eq name (codes "insert")) _ (insert_tidy a b.x d w h j.inside g.inside)

  method_tidy : {s : List ℕ} (name : List ℕ) (args : List Operand) (w : Writing) → AreThere f args s → Tidy f s (taken (list_method_suits name args) f) w (method f.world.around f.place name args w)
  unfolding method
  method_tidy name (a ∷ []) w h = method_of_one_tidy name a w h.0
  method_tidy name (a ∷ b ∷ []) w h = method_of_two_tidy name a b w h.0 h.1.0
  method_tidy name (a ∷ b ∷ d ∷ []) w h = method_of_three_tidy name a b d w h.0 h.1.0 h.1.1.0
  method_tidy name args w h = nothing

  -- ---- strings and lists

  join_tidy : {s : List ℕ} (a b : Operand) (w : Writing) → IsSet a.x s → IsThere f b s → Tidy f s (taken true f) w (join f.world.around f.place a b w)
  unfolding join
  join_tidy a b w h j =
      then_tidy (given_tidy c a (Ptr 0) w h) (λ t m k.
      then_tidy (there_tidy c b (given f.world.around a (Ptr 0) w).1 (there_more m j)) (λ u n l.
      give_listed_tidy c (listed.Join (list_of f.world.around b)) (Ptr 0) (_ ∷ _ ∷ []) _ tt (more n k.0, (l.0, tt))))

  text_there_tidy : {s : List ℕ} (a : Operand) (w : Writing) → IsThere f a s → Tidy f s ((text_there f.world.around a w).0 ∷ []) w (text_there f.world.around a w).1
  unfolding text_there
  text_there_tidy a w h =
      then_tidy (present_tidy c a (of_text_or_none (kind_of a)) w h) (λ t m k. given_tidy c (with_value a (present f.world.around a (of_text_or_none (kind_of a)) w).0) (Ptr 0) (present f.world.around a (of_text_or_none (kind_of a)) w).1 k.0)

  split_to_tidy : {s : List ℕ} (a : Operand) (byte : COperand) (r : Option ℕ) (w : Writing) → IsThere f a s → IsSet byte s → Tidy f s (taken true f) w (split_to f.world.around f.place a byte r w)
  split_to_tidy a byte None w h j = failure_tidy c w
  split_to_tidy a byte (Some r) w h j = then_tidy (text_there_tidy a w h) (λ t m k. give_listed_tidy c (listed.Split r) (Ptr r) (_ ∷ byte ∷ []) _ tt (k.0, (more m j, tt)))

  split_tidy : {s : List ℕ} (a : Operand) (byte : COperand) (w : Writing) → IsThere f a s → IsSet byte s → Tidy f s (taken true f) w (split f.world.around f.place a byte w)
  unfolding split
  split_tidy a byte w h j = split_to_tidy a byte (list_at f.world.around f.place) w h j

  -- ---- by the operands; where no operand is a list, an operation is lowered as others are

  method_of_list_tidy : {s : List ℕ} (o : RowOp) (name : List ℕ) (args : List Operand) (w : Writing) → AreThere f args s → Tidy f s (taken (method_of_list_suits f.world.around o f.place name args) f) w (method_of_list f.world.around o f.place name args w)
  unfolding method_of_list
  method_of_list_tidy o name args w h = if_taken (first_is_list args) _ _ _ _ (method_tidy name args w h) (lower_op_tidy c o args w h)

  joined_tidy : {s : List ℕ} (o : RowOp) (a b : Operand) (w : Writing) → AreThere f (a ∷ b ∷ []) s → Tidy f s (taken (joined_suits f.world.around o f.place a b) f) w (joined f.world.around o f.place a b w)
  unfolding joined
  joined_tidy o a b w h = if_taken (joins a b) true _ _ _ (join_tidy a b w h.0.inside h.1.0) (lower_op_tidy c o (a ∷ b ∷ []) w h)

  split_by_tidy : {s : List ℕ} (o : RowOp) (a b : Operand) (w : Writing) → AreThere f (a ∷ b ∷ []) s → Tidy f s (taken (split_suits f.world.around o f.place a b) f) w (split_by f.world.around o f.place a b w)
  unfolding split_by
  split_by_tidy o a b w h = if_taken (splits a b) true _ _ _ (split_tidy a b.x w h.0 h.1.0.inside) (lower_op_tidy c o (a ∷ b ∷ []) w h)

  any_method_of_two_tidy : {s : List ℕ} (o : RowOp) (name : List ℕ) (a b : Operand) (w : Writing) → AreThere f (a ∷ b ∷ []) s → Tidy f s (taken (any_method_suits f.world.around o f.place name (a ∷ b ∷ [])) f) w (any_method_of_two f.world.around o f.place name a b w)
  unfolding any_method_of_two
  any_method_of_two_tidy o name a b w h =
      if_taken (bytes_eq name (codes "join")) (joined_suits f.world.around o f.place a b) _ _ _ (joined_tidy o a b w h)
      (if_taken (bytes_eq name (codes "split")) (split_suits f.world.around o f.place a b) (method_of_list_suits f.world.around o f.place name (a ∷ b ∷ [])) _ _ (split_by_tidy o a b w h) (method_of_list_tidy o name (a ∷ b ∷ []) w h))

  method_of_tidy : {s : List ℕ} (o : RowOp) (name : List ℕ) (args : List Operand) (w : Writing) → AreThere f args s → Tidy f s (taken (any_method_suits f.world.around o f.place name args) f) w (method_of f.world.around o f.place name args w)
  unfolding method_of
  method_of_tidy o name (a ∷ b ∷ []) w h = any_method_of_two_tidy o name a b w h
  method_of_tidy o name args w h = method_of_list_tidy o name args w h

  first_of_one_tidy : {s : List ℕ} (o : RowOp) (a : Operand) (w : Writing) → IsThere f a s → Tidy f s (taken (first_of_one_suits f.world.around o f.place a) f) w (first_of_one f.world.around o f.place a w)
  unfolding first_of_one
  first_of_one_tidy row.Len a w h = len_tidy c a w h
  first_of_one_tidy (row.AllButLast site) a w h = but_last_tidy c a w h
  first_of_one_tidy (row.Walk site) a w h = walk_tidy c a w h
  first_of_one_tidy o a w h = lower_op_tidy c o (a ∷ []) w (h, tt)

  sum_tidy : {s : List ℕ} (a b : Operand) (w : Writing) → IsThere f a s → IsThere f b s → Tidy f s (taken true f) w (sum f.world.around f.place a b w)
  unfolding sum
  sum_tidy a b w h j = if_tidy (is_list a && is_list b) _ _ (concat_tidy c a b w h j) (failure_tidy c w)

  within_or_tidy : {s : List ℕ} (o : RowOp) (reversed : Bool) (a b : Operand) (w : Writing) → AreThere f (a ∷ b ∷ []) s → Tidy f s (taken (if is_list b then true else lower_suits f.world.around o f.place (a ∷ b ∷ [])) f) w (within_or f.world.around o f.place reversed a b w)
  unfolding within_or
  within_or_tidy o reversed a b w h = if_taken (is_list b) true _ _ _ (within_tidy c reversed a b w h.0.inside h.1.0) (lower_op_tidy c o (a ∷ b ∷ []) w h)

  sum_or_tidy : {s : List ℕ} (o : RowOp) (a b : Operand) (w : Writing) → AreThere f (a ∷ b ∷ []) s → Tidy f s (taken (if is_list b && is_none a then true else lower_suits f.world.around o f.place (a ∷ b ∷ [])) f) w (sum_or f.world.around o f.place a b w)
  unfolding sum_or
  sum_or_tidy o a b w h = if_taken (is_list b && is_none a) true _ _ _ (failure_tidy c w) (lower_op_tidy c o (a ∷ b ∷ []) w h)

  second_of_two_tidy : {s : List ℕ} (o : RowOp) (a b : Operand) (w : Writing) → AreThere f (a ∷ b ∷ []) s → Tidy f s (taken (second_of_two_suits f.world.around o f.place a b) f) w (second_of_two f.world.around o f.place a b w)
  unfolding second_of_two
  second_of_two_tidy (row.Compare compared.Within) a b w h = within_or_tidy (row.Compare compared.Within) false a b w h
  second_of_two_tidy (row.Compare compared.NotWithin) a b w h = within_or_tidy (row.Compare compared.NotWithin) true a b w h
  second_of_two_tidy (row.Binary bin.Add site) a b w h = sum_or_tidy (row.Binary bin.Add site) a b w h
  second_of_two_tidy row.AddTo a b w h = sum_or_tidy row.AddTo a b w h
  second_of_two_tidy o a b w h = lower_op_tidy c o (a ∷ b ∷ []) w h

  first_of_two_tidy : {s : List ℕ} (o : RowOp) (a b : Operand) (w : Writing) → AreThere f (a ∷ b ∷ []) s → Tidy f s (taken (first_of_two_suits f.world.around o f.place a b) f) w (first_of_two f.world.around o f.place a b w)
  unfolding first_of_two
  first_of_two_tidy (row.Index i) a b w h = index_tidy c a b.x w h.0 h.1.0.inside
  first_of_two_tidy row.DeleteIndex a b w h = delete_tidy c a b.x w h.0 h.1.0.inside
  first_of_two_tidy (row.Binary bin.Add site) a b w h = sum_tidy a b w h.0 h.1.0
  first_of_two_tidy (row.Binary bin.Mul site) a b w h = repeat_tidy c a b.x w h.0 h.1.0.inside
  first_of_two_tidy row.AddTo a b w h = extend_tidy a b true w h.0 h.1.0
  first_of_two_tidy row.AddItem a b w h = append_tidy a b w h.0 h.1.0.inside
  first_of_two_tidy (row.HasItem None) a b w h = has_item_tidy c a b.x w h.0.inside h.1.0.inside
  first_of_two_tidy (row.Item None) a b w h = walk_item_tidy c a b.x w h.0.inside h.1.0.inside
  first_of_two_tidy o a b w h = second_of_two_tidy o a b w h

  of_two_tidy : {s : List ℕ} (o : RowOp) (a b : Operand) (w : Writing) → AreThere f (a ∷ b ∷ []) s → Tidy f s (taken (some_list_suits f.world.around o f.place (a ∷ b ∷ [])) f) w (of_two f.world.around o f.place a b w)
  unfolding of_two
  of_two_tidy o a b w h = if_taken (is_list a) _ _ _ _ (first_of_two_tidy o a b w h) (second_of_two_tidy o a b w h)

  of_one_tidy : {s : List ℕ} (o : RowOp) (a : Operand) (w : Writing) → IsThere f a s → Tidy f s (taken (some_list_suits f.world.around o f.place (a ∷ [])) f) w (of_one f.world.around o f.place a w)
  unfolding of_one
  of_one_tidy o a w h = if_taken (is_list a) _ _ _ _ (first_of_one_tidy o a w h) (lower_op_tidy c o (a ∷ []) w (h, tt))

  first_of_three_tidy : {s : List ℕ} (o : RowOp) (a b d : Operand) (w : Writing) → AreThere f (a ∷ b ∷ d ∷ []) s → Tidy f s (taken (first_of_three_suits f.world.around o f.place a b d) f) w (first_of_three f.world.around o f.place a b d w)
  unfolding first_of_three
  first_of_three_tidy row.StoreIndex a b d w h = store_tidy c a b.x d w h.0 h.1.0.inside h.1.1.0.inside
  first_of_three_tidy o a b d w h = lower_op_tidy c o (a ∷ b ∷ d ∷ []) w h

  of_three_tidy : {s : List ℕ} (o : RowOp) (a b d : Operand) (w : Writing) → AreThere f (a ∷ b ∷ d ∷ []) s → Tidy f s (taken (some_list_suits f.world.around o f.place (a ∷ b ∷ d ∷ [])) f) w (of_three f.world.around o f.place a b d w)
  unfolding of_three
  of_three_tidy o a b d w h = if_taken (is_list a) _ _ _ _ (first_of_three_tidy o a b d w h) (lower_op_tidy c o (a ∷ b ∷ d ∷ []) w h)

  of_some_tidy : {s : List ℕ} (o : RowOp) (args : List Operand) (w : Writing) → AreThere f args s → Tidy f s (taken (some_list_suits f.world.around o f.place args) f) w (of_some f.world.around o f.place args w)
  unfolding of_some other
  of_some_tidy o (a ∷ []) w h = of_one_tidy o a w h.0
  of_some_tidy o (a ∷ b ∷ []) w h = of_two_tidy o a b w h
  of_some_tidy o (a ∷ b ∷ d ∷ []) w h = of_three_tidy o a b d w h
  of_some_tidy o args w h = lower_op_tidy c o args w h

  slice_or_tidy : {s : List ℕ} (o : RowOp) (low high : Bool) (args : List Operand) (w : Writing) → AreThere f args s → Tidy f s (taken (if first_is_list args then true else lower_suits f.world.around o f.place args) f) w (slice_or f.world.around o f.place low high args w)
  unfolding slice_or
  slice_or_tidy o low high args w h = if_taken (first_is_list args) true _ _ _ (slice_tidy c low high args w h) (lower_op_tidy c o args w h)

  lowered_tidy : {s : List ℕ} (o : RowOp) (args : List Operand) (w : Writing) → AreThere f args s → Tidy f s (taken (list_op_suits f.world.around o f.place args) f) w (lowered f.world.around o f.place args w)
  unfolding lowered
  lowered_tidy (row.List site) args w h = display_tidy c args w h
  lowered_tidy (row.Comprehension site) args w h = comprehension_tidy c w
  lowered_tidy (row.Method name site) args w h = method_of_tidy (row.Method name site) name args w h
  lowered_tidy (row.Slice site low high) args w h = slice_or_tidy (row.Slice site low high) low high args w h
  lowered_tidy o args w h = of_some_tidy o args w h

  lowered_unless_tidy : {s : List ℕ} (b : Bool) (o : RowOp) (args : List Operand) (w : Writing) → AreThere f args s → Tidy f s (taken (list_suits_unless b f.world.around o f.place args) f) w (lowered_unless b f.world.around o f.place args w)
  lowered_unless_tidy true o args w h = failure_tidy c w
  lowered_unless_tidy false o args w h = lowered_tidy o args w h

  -- what never comes is not read
  pub never_list_tidy : {s : List ℕ} (o : RowOp) (args : List Operand) (w : Writing) → is_never args ≡ true → Tidy f s (taken (lower_list_suits f.world.around o f.place args) f) w (lower_list_op f.world.around o f.place args w)
  never_list_tidy {s} o args w e = on (is_never args) e
    where
      on : (b : Bool) → b ≡ true → Tidy f s (taken (if b then lower_suits f.world.around o f.place args else list_suits_unless (fails o args) f.world.around o f.place args) f) w (if b then lower_op f.world.around o f.place args w else lowered_unless (fails o args) f.world.around o f.place args w)
      on true q = never_tidy c o args w e
      on false q = absurd (cc)

  pub lower_list_op_tidy : {s : List ℕ} (o : RowOp) (args : List Operand) (w : Writing) → AreThere f args s → Tidy f s (taken (lower_list_suits f.world.around o f.place args) f) w (lower_list_op f.world.around o f.place args w)
  lower_list_op_tidy o args w h = if_taken (is_never args) (lower_suits f.world.around o f.place args) (list_suits_unless (fails o args) f.world.around o f.place args) _ _ (lower_op_tidy c o args w h) (lowered_unless_tidy (fails o args) o args w h)
