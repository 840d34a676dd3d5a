-- Each operation answers so, by its parts.
use Rattle.std.proofs.Common.{◌≡◌, ℕ, List, [], ◌∷◌, ◌++◌, Bool, true, false, Some, None, Option, refl, sym, ap, ◌∙◌, subst, arith, ◌<◌, ◌-◌}
use Rattle.std.specs.Prelude.{nat_lt, ℤ, pos, negsuc, nat_eq, length, slice_get, remove, option_map, not, if◌then◌else◌, codes}
use Rattle.std.specs.List.{join_by, slice_split}
use Rattle.std.specs.Str.{bytes_eq}
use Rattle.rpy_base.specs.declared.outcome.FailName.{FailName}
use Rattle.rpy_tree.specs.declared.syntax.BinOp.{BinOp}
use Rattle.rpy_tree.specs.declared.syntax.BinOp.TheVariants.{Add, Mul, Div, FloorDiv, Mod, Shl, Shr}
use Rattle.rpy_tree.specs.declared.syntax.CmpOp.{CmpOp}
use Rattle.rpy_tree.specs.declared.syntax.CmpOp.TheVariants.{Lt, Le, Gt, Ge, Eq, Ne, Within, NotWithin, Is, IsNot}
use Rattle.rpy_tree.specs.Value.{Value, Word, Flag, Text, Nothing, Tuple, Fun, Ref, Object, Listed, Mapped, Instance, Heap}
use Rattle.rpy_meaning.specs.declared.row.Covers.{Covers}
use Rattle.rpy_meaning.specs.declared.row.RowOp.{RowOp}
use Rattle.rpy_meaning.specs.declared.row.RowOp.TheVariants as row
use Rattle.rpy_meaning.specs.Tree.{Program}
use Rattle.rpy_meaning.specs.Compare.{truth}
use Rattle.rpy_meaning.specs.Classes.{named, method_of, first_attributes, is_below}
use Rattle.rpy_meaning.specs.World.{World, Op, Fails, Lacks, Enters, bad, give, throw, flag_if_any, paying, write, new_object, set_object, at_object, on_list, with_list, new_text, new_list, failure, index_error, attribute_error, negative_slice, if_some}
use Rattle.rpy_meaning.specs.Arithmetic.{word, word_that_fits, arithmetic, on_word, on_words}
use Rattle.rpy_base.specs.Number.{trimmed}
use Rattle.rpy_meaning.specs.Sequences.{place, item_at, index_object, index, store_object, store_index, delete_object, delete_index, Cut, part, part_between, between, slice, but_last, plus, times, binary, extend, add_to, is_in_object}
use Rattle.rpy_meaning.specs.Walks.{walk_object, walk, has_item, item, advance}
use Rattle.rpy_meaning.specs.Methods.{texts_of, new_parts, join, split, find, begins, ends, strip, is_byte, text_methods, append, insert_at, extend_by, reverse_list, taken_out, pop, list_methods, get, keys, values, items, dict_methods, object_length, len, ord, chr, to_text, number, to_word}
use Rattle.rpy_meaning.specs.Operations.{with_none, with_one, with_two, with_three, within, compare, write_if_any, os_write, unpack, add_item, read_attribute, attribute, set_attribute, store_attribute, is_instance_object, is_instance, raise_object, raise, builtin_classes, initialised, new_instance, new, call_value, object_method, method, op}
use Rattle.flow_stands.proofs.Worlds.{total, class_of, same, Sound, Thrown, Passes, Fine, set_kinds, new_kinds, fine_on}

-- what a call passes on, by its operands
record Passing (operands vs : List Value) : Type 0 where
  all : Passes operands vs None
  value : (f : ℕ) (args : List Value) → vs ≡ Fun f ∷ args → Passes operands args None
  instance : (x : Value) → Passes operands (x ∷ vs) (Some x)

passing : (vs : List Value) → Passing vs vs
passing vs = record {
  all = λ wt. omega arith;
  value = λ f args e wt. let x = ap (total wt.of) e in let y = wt.functions f in omega (arith, x, y);
  instance = λ x wt. omega arith;
}

module _ (p : Program) (builtins : (k : ℕ) → k < builtin_classes → is_below p.classes k 0 ≡ true) (operands : List Value) (heap : Heap) (sound : Sound heap) where
  -- in worlds with this heap
  record L (o : Op) : Type 0 where
    law : (w : World) → w.heap ≡ heap → Fine p operands w (o w)

  bad_ok : L bad
  bad_ok = record { law = λ w e. tt }

  give_ok : {v : Value} → L (give v)
  give_ok = record { law = λ w e. same w }

  builtin : (k : ℕ) → k < builtin_classes → Thrown p heap k
  builtin k lt = record { class = k; is = sound.builtin k lt; below = builtins k lt }

  throw_ok : {r : ℕ} → Thrown p heap r → L (throw r)
  throw_ok {r} h = record { law = λ w e. (same w, subst (λ x. Thrown p x r) (sym e) h) }

  fail_ok : {name : FailName} → L (λ w. Fails name)
  fail_ok = record { law = λ w e. tt }

  enters_ok : {f : ℕ} {args : List Value} {instead : Option Value} → Passes operands args instead → L (λ w. Enters f args instead w)
  enters_ok h = record { law = λ w e. (same w, h) }

  flag_if_any_ok : (b : Option Bool) → L (flag_if_any b)
  flag_if_any_ok None = bad_ok
  flag_if_any_ok (Some b) = give_ok

  write_ok : {text : List ℕ} {v : Value} → L (write text v)
  write_ok = record { law = λ w e. record { left = omega arith; kinds = λ r c x. x } }

  paying_ok : (cost : ℕ) {go : Op} → L go → L (paying cost go)
  paying_ok cost {go} h = record { law = λ w e. paid w e (nat_lt w.left cost) }
    where
      paid : (w : World) → w.heap ≡ heap → (b : Bool) → Fine p operands w (if b then Lacks else go (record w { left = w.left - cost }))
      paid w e true = tt
      paid w e false = fine_on p operands w (record w { left = w.left - cost }) (go (record w { left = w.left - cost })) (record { left = omega arith; kinds = λ r c x. x }) (h.law (record w { left = w.left - cost }) e)

  new_object_ok : (cost : ℕ) (o : Object) → L (paying cost (new_object o))
  new_object_ok cost o = paying_ok cost {go = new_object o} (record { law = λ w e. record { left = omega arith; kinds = new_kinds w.heap o } })

  set_object_ok : {r : ℕ} {n : Object} {v : Value} (o : Object) → slice_get heap r ≡ Some o → class_of (Some o) ≡ class_of (Some n) → L (set_object r n v)
  set_object_ok {r} {n} {v} o e k = record {
    law = λ w z. record { left = omega arith; kinds = λ i c x. set_kinds w.heap r i o n (ap (λ h. slice_get h r) z ∙ e) k ∙ x };
  }

  grow_ok : (cost r : ℕ) (n : Object) (v : Value) (o : Object) → slice_get heap r ≡ Some o → class_of (Some o) ≡ class_of (Some n) → L (paying cost (set_object r n v))
  grow_ok cost r n v o e k = paying_ok cost {go = set_object r n v} (set_object_ok {r = r} {n = n} {v = v} o e k)

  if_ok : (b : Bool) {x y : Op} → L x → L y → L (if b then x else y)
  if_ok true h k = h
  if_ok false h k = k

  look_ok : (f : Heap → Op) → L (f heap) → L (λ w. f w.heap w)
  look_ok f h = record { law = λ w e. subst (λ x. Fine p operands w (f x w)) (sym e) (h.law w e) }

  at_object_ok : {r : ℕ} {f : Option Object → Op} → ((o : Option Object) → slice_get heap r ≡ o → L (f o)) → L (at_object r f)
  at_object_ok {r} {f} h = look_ok (λ heap. f (slice_get heap r)) (h (slice_get heap r) refl)

  with_list_ok : {r : ℕ} {f : List Value → Op} → ((vs : List Value) → slice_get heap r ≡ Some (Listed vs) → L (f vs)) → L (with_list r f)
  with_list_ok {r} {f} h = at_object_ok listed
    where
      listed : (o : Option Object) → slice_get heap r ≡ o → L (on_list f o)
      listed (Some (Listed vs)) e = h vs e
      listed o e = bad_ok

  failure_ok : (b : Bool) (class : ℕ) (name : FailName) → class < builtin_classes → L (failure b class name)
  failure_ok true class name lt = throw_ok (builtin class lt)
  failure_ok false class name lt = fail_ok

  negative_ok : L negative_slice
  negative_ok = fail_ok

  if_some_ok : {A : Type 0} {missing : Op} (a : Option A) {f : A → Op} → L missing → ((x : A) → L (f x)) → L (if_some missing a f)
  if_some_ok None h k = h
  if_some_ok (Some x) h k = k x

  new_text_ok : (text : List ℕ) → L (new_text text)
  new_text_ok text = paying_ok _ give_ok

  new_list_ok : (vs : List Value) → L (new_list vs)
  new_list_ok vs = new_object_ok _ _

  -- ---- words

  word_ok : (z : ℤ) → L (word z)
  word_ok z = give_ok

  fits_ok : (z : ℤ) → L (word_that_fits z)
  fits_ok z = if_ok _ give_ok (throw_ok (builtin 3 (omega arith)))

  arithmetic_ok : (c : Covers) {f : ℤ → Op} → ((z : ℤ) → L (f z)) → (op : BinOp) (a b : ℤ) → L (arithmetic c f op a b)
  arithmetic_ok c h Div a b = if_ok _ (failure_ok c.zero 4 _ (omega arith)) (h _)
  arithmetic_ok c h FloorDiv a b = if_ok _ (failure_ok c.zero 4 _ (omega arith)) (h _)
  arithmetic_ok c h Mod a b = if_ok _ (failure_ok c.zero 4 _ (omega arith)) (h _)
  arithmetic_ok c h Shl a b = if_ok _ (h _) (failure_ok c.number 8 _ (omega arith))
  arithmetic_ok c h Shr a b = if_ok _ (h _) (failure_ok c.number 8 _ (omega arith))
  arithmetic_ok c h o a b = h _

  on_word_ok : {f : ℤ → Op} → ((z : ℤ) → L (f z)) → (x : Value) → L (on_word f x)
  on_word_ok h (Word a) = h a
  on_word_ok h x = bad_ok

  on_words_ok : {f : ℤ → ℤ → Op} → ((a b : ℤ) → L (f a b)) → (x y : Value) → L (on_words f x y)
  on_words_ok h (Word a) (Word b) = h a b
  on_words_ok h x y = bad_ok

  -- ---- strings, lists, dicts and tuples

  miss : (c : Covers) → L (index_error c)
  miss c = failure_ok c.index 6 _ (omega arith)

  none_ok : (c : Covers) → L (attribute_error c)
  none_ok c = failure_ok c.attribute 9 _ (omega arith)

  index_object_ok : (c : Covers) (i : Value) (o : Option Object) → L (index_object c i o)
  index_object_ok c i (Some (Listed vs)) = on_word_ok (λ z. if_some_ok _ (miss c) (λ x. give_ok)) i
  index_object_ok c key (Some (Mapped pairs)) = if_some_ok _ (throw_ok (builtin 7 (omega arith))) (λ x. give_ok)
  index_object_ok c i o = bad_ok

  index_ok : (c : Covers) (x i : Value) → L (index c x i)
  index_ok c (Text text) i = on_word_ok (λ z. if_some_ok _ (miss c) (λ b. give_ok)) i
  index_ok c (Ref r) i = at_object_ok (λ o e. index_object_ok c i o)
  index_ok c (Tuple vs) i = on_word_ok (λ z. if_some_ok _ bad_ok (λ x. give_ok)) i
  index_ok c Nothing i = none_ok c
  index_ok c x i = bad_ok

  store_object_ok : (c : Covers) (r : ℕ) (i v : Value) (o : Option Object) → slice_get heap r ≡ o → L (store_object c r i v o)
  store_object_ok c r i v (Some (Listed vs)) e =
      on_word_ok (λ z. if_some_ok _ (miss c) (λ k. set_object_ok (Listed vs) e refl)) i
  store_object_ok c r key v (Some (Mapped pairs)) e = grow_ok _ _ _ _ (Mapped pairs) e refl
  store_object_ok c r i v o e = bad_ok

  store_index_ok : (c : Covers) (x i v : Value) → L (store_index c x i v)
  store_index_ok c (Ref r) i v = at_object_ok (store_object_ok c r i v)
  store_index_ok c Nothing i v = none_ok c
  store_index_ok c x i v = bad_ok

  delete_object_ok : (c : Covers) (r : ℕ) (i : Value) (o : Option Object) → slice_get heap r ≡ o → L (delete_object c r i o)
  delete_object_ok c r i (Some (Listed vs)) e = on_word_ok (λ z. if_some_ok _ (miss c) (λ k. set_object_ok (Listed vs) e refl)) i
  delete_object_ok c r key (Some (Mapped pairs)) e = if_ok _ (set_object_ok (Mapped pairs) e refl) (throw_ok (builtin 7 (omega arith)))
  delete_object_ok c r i o e = bad_ok

  delete_index_ok : (c : Covers) (x i : Value) → L (delete_index c x i)
  delete_index_ok c (Ref r) i = at_object_ok (delete_object_ok c r i)
  delete_index_ok c Nothing i = none_ok c
  delete_index_ok c x i = bad_ok

  part_ok : (c : Covers) (cut : Cut) (x : Value) → L (part c cut x)
  part_ok c cut (Text text) = new_text_ok _
  part_ok c cut (Ref r) = with_list_ok (λ vs e. new_list_ok _)
  part_ok c cut Nothing = none_ok c
  part_ok c cut x = bad_ok

  part_between_ok : (c : Covers) (low high : Option ℤ) (x : Value) → L (part_between c low high x)
  part_between_ok c low high Nothing = none_ok c
  part_between_ok c low high x = if_ok _ (part_ok c (between low high) x) negative_ok

  slice_ok : (c : Covers) (low high : Bool) (vs : List Value) → L (slice c low high vs)
  slice_ok c false false (x ∷ []) = part_between_ok c None None x
  slice_ok c true false (x ∷ Word a ∷ []) = part_between_ok c (Some a) None x
  slice_ok c false true (x ∷ Word b ∷ []) = part_between_ok c None (Some b) x
  slice_ok c true true (x ∷ Word a ∷ Word b ∷ []) = part_between_ok c (Some a) (Some b) x
  slice_ok c low high vs = bad_ok

  plus_ok : (c : Covers) (x y : Value) → L (plus c x y)
  plus_ok c (Text a) (Text b) = new_text_ok _
  plus_ok c (Ref r) (Ref s) = with_list_ok (λ vs e. with_list_ok (λ us e'. new_list_ok _))
  plus_ok c (Word a) (Word b) = arithmetic_ok c word_ok Add a b
  plus_ok c Nothing y = none_ok c
  plus_ok c x Nothing = none_ok c
  plus_ok c x y = bad_ok

  times_ok : (c : Covers) (x y : Value) → L (times c x y)
  times_ok c (Text text) (Word n) = paying_ok _ give_ok
  times_ok c (Ref r) (Word n) = with_list_ok (λ vs e. new_object_ok _ _)
  times_ok c (Word a) (Word b) = arithmetic_ok c word_ok Mul a b
  times_ok c Nothing y = none_ok c
  times_ok c x y = bad_ok

  binary_ok : (c : Covers) (op : BinOp) (x y : Value) → L (binary c op x y)
  binary_ok c Add x y = plus_ok c x y
  binary_ok c Mul x y = times_ok c x y
  binary_ok c o x y = on_words_ok (arithmetic_ok c word_ok o) x y

  extend_ok : (r s : ℕ) (v : Value) → L (extend r s v)
  extend_ok r s v =
      with_list_ok (λ vs e. with_list_ok (λ us e'. grow_ok _ _ _ _ (Listed vs) e refl))

  add_to_ok : (c : Covers) (x y : Value) → L (add_to c x y)
  add_to_ok c (Ref r) (Ref s) = extend_ok r s (Ref r)
  add_to_ok c x y = plus_ok c x y

  -- ---- walks

  walk_object_ok : (r : ℕ) (o : Option Object) → L (walk_object r o)
  walk_object_ok r (Some (Listed vs)) = give_ok
  walk_object_ok r (Some (Mapped pairs)) = new_object_ok _ _
  walk_object_ok r o = bad_ok

  walk_ok : (c : Covers) (x : Value) → L (walk c x)
  walk_ok c (Text text) = give_ok
  walk_ok c (Ref r) = at_object_ok (λ o e. walk_object_ok r o)
  walk_ok c Nothing = none_ok c
  walk_ok c x = bad_ok

  has_item_ok : (step : Option ℤ) (x y : Value) → L (has_item step x y)
  has_item_ok None (Text text) (Word (pos i)) = give_ok
  has_item_ok None (Ref r) (Word (pos i)) = with_list_ok (λ vs e. give_ok)
  has_item_ok (Some step) (Word end) (Word i) = give_ok
  has_item_ok step x y = bad_ok

  item_ok : (step : Option ℤ) (x y : Value) → L (item step x y)
  item_ok None (Text text) (Word (pos i)) = if_some_ok _ bad_ok (λ b. give_ok)
  item_ok None (Ref r) (Word (pos i)) = with_list_ok (λ vs e. if_some_ok _ bad_ok (λ v. give_ok))
  item_ok (Some step) end i = give_ok
  item_ok step x y = bad_ok

  advance_ok : (step : Option ℤ) (x y : Value) → L (advance step x y)
  advance_ok None x (Word i) = give_ok
  advance_ok (Some step) (Word end) (Word i) = give_ok
  advance_ok step x y = bad_ok

  -- ---- methods

  texts_ok : (text : List ℕ) (t : Option (List (List ℕ))) → L (if_some bad t (λ texts. new_text (join_by (λ t. t) text texts)))
  texts_ok text t = if_some_ok t bad_ok (λ texts. new_text_ok _)

  join_ok : (text : List ℕ) (args : List Value) → L (join text args)
  join_ok text (Ref r ∷ []) = with_list_ok (λ vs e. texts_ok text (texts_of vs))
  join_ok text args = bad_ok

  parts_ok : (parts : List (List ℕ)) → L (new_parts parts)
  parts_ok parts = new_object_ok _ _

  split_ok : (text : List ℕ) (args : List Value) → L (split text args)
  split_ok text (Text (b ∷ []) ∷ []) = parts_ok (slice_split (nat_eq b) text)
  split_ok text args = bad_ok

  find_ok : (text : List ℕ) (args : List Value) → L (find text args)
  find_ok text (Text part ∷ []) = give_ok
  find_ok text args = bad_ok

  begins_ok : (text : List ℕ) (args : List Value) → L (begins text args)
  begins_ok text (Text part ∷ []) = give_ok
  begins_ok text args = bad_ok

  ends_ok : (text : List ℕ) (args : List Value) → L (ends text args)
  ends_ok text (Text part ∷ []) = give_ok
  ends_ok text args = bad_ok

  strip_ok : (text : List ℕ) (args : List Value) → L (strip text args)
  strip_ok text [] = new_text_ok _
  strip_ok text args = bad_ok

  is_byte_ok : (f : ℕ → Bool) (text : List ℕ) (args : List Value) → L (is_byte f text args)
  is_byte_ok f (b ∷ []) [] = give_ok
  is_byte_ok f text args = bad_ok

  append_ok : (r : ℕ) (vs args : List Value) → slice_get heap r ≡ Some (Listed vs) → L (append r vs args)
  append_ok r vs (v ∷ []) e = grow_ok _ _ _ _ (Listed vs) e refl
  append_ok r vs args e = bad_ok

  insert_ok : (r : ℕ) (vs args : List Value) → slice_get heap r ≡ Some (Listed vs) → L (insert_at r vs args)
  insert_ok r vs (Word (pos i) ∷ v ∷ []) e = grow_ok _ _ _ _ (Listed vs) e refl
  insert_ok r vs (Word (negsuc i) ∷ v ∷ []) e = negative_ok
  insert_ok r vs args e = bad_ok

  extend_by_ok : (c : Covers) (r : ℕ) (vs args : List Value) → L (extend_by c r vs args)
  extend_by_ok c r vs (Ref s ∷ []) = extend_ok r s Nothing
  extend_by_ok c r vs (Nothing ∷ []) = none_ok c
  extend_by_ok c r vs args = bad_ok

  reverse_list_ok : (r : ℕ) (vs args : List Value) → slice_get heap r ≡ Some (Listed vs) → L (reverse_list r vs args)
  reverse_list_ok r vs [] e = set_object_ok (Listed vs) e refl
  reverse_list_ok r vs args e = bad_ok

  taken_out_ok : (c : Covers) (r : ℕ) (vs : List Value) (z : ℤ) → slice_get heap r ≡ Some (Listed vs) → L (taken_out c r vs z)
  taken_out_ok c r vs z e =
      if_some_ok (place z (length vs)) (miss c) (λ i. if_some_ok (item_at z vs) bad_ok (λ v. set_object_ok {r = r} {n = Listed (remove vs i)} {v = v} (Listed vs) e refl))

  pop_ok : (c : Covers) (r : ℕ) (vs args : List Value) → slice_get heap r ≡ Some (Listed vs) → L (pop c r vs args)
  pop_ok c r vs [] e = taken_out_ok c r vs (negsuc 0) e
  pop_ok c r vs (Word z ∷ []) e = taken_out_ok c r vs z e
  pop_ok c r vs args e = bad_ok

  get_ok : (pairs : List (Value × Value)) (args : List Value) → L (get pairs args)
  get_ok pairs (key ∷ []) = give_ok
  get_ok pairs (key ∷ v ∷ []) = give_ok
  get_ok pairs args = bad_ok

  keys_ok : (pairs : List (Value × Value)) (args : List Value) → L (keys pairs args)
  keys_ok pairs [] = new_object_ok _ _
  keys_ok pairs args = bad_ok

  values_ok : (pairs : List (Value × Value)) (args : List Value) → L (values pairs args)
  values_ok pairs [] = new_object_ok _ _
  values_ok pairs args = bad_ok

  items_ok : (pairs : List (Value × Value)) (args : List Value) → L (items pairs args)
  items_ok pairs [] = new_object_ok _ _
  items_ok pairs args = bad_ok

  -- each entry of a table is lawful, and so is the one that a name finds
  abbrev Each : {A : Type 0} → (A → Op) → List (List ℕ × A) → Type 0
  Each g [] = Unit {0}
  Each g (entry ∷ entries) = L (g entry.1) × Each g entries

  named_ok : {A : Type 0} (g : A → Op) (name : List ℕ) (entries : List (List ℕ × A)) → Each g entries → L (if_some bad (named name entries) g)
  named_ok g name [] each = bad_ok
  named_ok {A} g name (entry ∷ entries) each = either (bytes_eq entry.0 name) (named_ok g name entries each.1)
    where
      either : (b : Bool) → L (if_some bad (named name entries) g) → L (if_some bad (if b then Some entry.1 else named name entries) g)
      either true rest = each.0
      either false rest = rest

  text_method_ok : (name text : List ℕ) (args : List Value) → L (if_some bad (named name text_methods) (λ f. f text args))
  text_method_ok name text args =
      named_ok (λ f. f text args) name text_methods (
        join_ok text args,
        (
          split_ok text args,
          (
            find_ok text args,
            (
              begins_ok text args,
              (
                ends_ok text args,
                (
                  strip_ok text args,
                  (is_byte_ok _ text args, (is_byte_ok _ text args, (is_byte_ok _ text args, tt))),
                ),
              ),
            ),
          ),
        ),
      )

  list_method_ok : (c : Covers) (name : List ℕ) (r : ℕ) (vs args : List Value) → slice_get heap r ≡ Some (Listed vs) → L (if_some bad (named name (list_methods c)) (λ f. f r vs args))
  list_method_ok c name r vs args e =
      named_ok (λ f. f r vs args) name (list_methods c)
      (append_ok r vs args e, (insert_ok r vs args e, (extend_by_ok c r vs args, (reverse_list_ok r vs args e, (pop_ok c r vs args e, tt)))))

  dict_method_ok : (name : List ℕ) (pairs : List (Value × Value)) (args : List Value) → L (if_some bad (named name dict_methods) (λ f. f pairs args))
  dict_method_ok name pairs args =
      named_ok (λ f. f pairs args) name dict_methods
      (get_ok pairs args, (keys_ok pairs args, (keys_ok pairs args, (values_ok pairs args, (values_ok pairs args, (items_ok pairs args, (items_ok pairs args, tt)))))))

  -- ---- functions of one value

  object_length_ok : (o : Option Object) → L (object_length o)
  object_length_ok (Some (Listed vs)) = give_ok
  object_length_ok (Some (Mapped pairs)) = give_ok
  object_length_ok o = bad_ok

  len_ok : (c : Covers) (x : Value) → L (len c x)
  len_ok c (Text text) = give_ok
  len_ok c (Tuple vs) = give_ok
  len_ok c (Ref r) = at_object_ok (λ o e. object_length_ok o)
  len_ok c Nothing = none_ok c
  len_ok c x = bad_ok

  ord_ok : (x : Value) → L (ord x)
  ord_ok (Text (b ∷ [])) = give_ok
  ord_ok x = bad_ok

  chr_ok : (c : Covers) (x : Value) → L (chr c x)
  chr_ok c (Word (pos n)) = if_ok _ give_ok (failure_ok c.number 8 _ (omega arith))
  chr_ok c (Word (negsuc n)) = failure_ok c.number 8 _ (omega arith)
  chr_ok c x = bad_ok

  to_text_ok : (x : Value) → L (to_text x)
  to_text_ok (Word z) = new_text_ok _
  to_text_ok (Flag true) = give_ok
  to_text_ok (Flag false) = give_ok
  to_text_ok (Text text) = give_ok
  to_text_ok x = bad_ok

  number_ok : (text : List ℕ) → L (number text)
  number_ok text = if_ok _ give_ok (throw_ok (builtin 8 (omega arith)))

  to_word_ok : (x : Value) → L (to_word x)
  to_word_ok (Word z) = give_ok
  to_word_ok (Flag true) = give_ok
  to_word_ok (Flag false) = give_ok
  to_word_ok (Text text) = number_ok (trimmed text)
  to_word_ok x = bad_ok

  -- ---- comparison, printing, unpacking

  within_ok : (c : Covers) (f : Bool → Bool) (x y : Value) → L (within c f x y)
  within_ok c f (Text part) (Text text) = give_ok
  within_ok c f x (Ref r) =
      at_object_ok {r = r} {f = λ o. flag_if_any (option_map f (is_in_object x o))} (λ o e. flag_if_any_ok (option_map f (is_in_object x o)))
  within_ok c f x (Tuple vs) = give_ok
  within_ok c f x Nothing = none_ok c
  within_ok c f x y = bad_ok

  compare_ok : (c : Covers) (op : CmpOp) (x y : Value) → L (compare c op x y)
  compare_ok c Within x y = within_ok c (λ b. b) x y
  compare_ok c NotWithin x y = within_ok c not x y
  compare_ok c Lt x y = flag_if_any_ok _
  compare_ok c Le x y = flag_if_any_ok _
  compare_ok c Gt x y = flag_if_any_ok _
  compare_ok c Ge x y = flag_if_any_ok _
  compare_ok c Eq x y = flag_if_any_ok _
  compare_ok c Ne x y = flag_if_any_ok _
  compare_ok c Is x y = flag_if_any_ok _
  compare_ok c IsNot x y = flag_if_any_ok _

  truth_ok : (f : Heap → Option Bool) → L (λ w. flag_if_any (f w.heap) w)
  truth_ok f = look_ok (λ heap. flag_if_any (f heap)) (flag_if_any_ok (f heap))

  write_if_any_ok : (t : Option (List ℕ)) → L (write_if_any t)
  write_if_any_ok None = bad_ok
  write_if_any_ok (Some t) = write_ok

  os_write_ok : (x y : Value) → L (os_write x y)
  os_write_ok (Word z) (Text text) = if_ok _ write_ok bad_ok
  os_write_ok x y = bad_ok

  unpack_ok : (n i : ℕ) (x : Value) → L (unpack n i x)
  unpack_ok n i (Tuple vs) = if_ok _ (if_some_ok _ bad_ok (λ v. give_ok)) bad_ok
  unpack_ok n i x = bad_ok

  add_item_ok : (x v : Value) → L (add_item x v)
  add_item_ok (Ref r) v = with_list_ok (λ vs e. grow_ok _ _ _ _ (Listed vs) e refl)
  add_item_ok x v = bad_ok

  module _ (c : Covers) where
    -- ---- attributes, classes and calls

    read_ok : (name : List ℕ) (o : Option Object) → L (read_attribute p c name o)
    read_ok name (Some (Instance d attributes)) = if_some_ok (named name attributes) (none_ok c) (λ v. give_ok)
    read_ok name o = bad_ok

    attribute_ok : (name : List ℕ) (x : Value) → L (attribute p c name x)
    attribute_ok name (Ref r) = at_object_ok (λ o e. read_ok name o)
    attribute_ok name Nothing = none_ok c
    attribute_ok name x = bad_ok

    set_ok : (name : List ℕ) (r : ℕ) (v : Value) (o : Option Object) → slice_get heap r ≡ o → L (set_attribute p c name r v o)
    set_ok name r v (Some (Instance d attributes)) e = set_object_ok (Instance d attributes) e refl
    set_ok name r v o e = bad_ok

    store_attribute_ok : (name : List ℕ) (x v : Value) → L (store_attribute p c name x v)
    store_attribute_ok name (Ref r) v = at_object_ok (set_ok name r v)
    store_attribute_ok name Nothing v = none_ok c
    store_attribute_ok name x v = bad_ok

    is_instance_object_ok : (d : ℕ) (o : Option Object) → L (is_instance_object p c d o)
    is_instance_object_ok d (Some (Instance e attributes)) = give_ok
    is_instance_object_ok d o = bad_ok

    is_instance_ok : (d : ℕ) (x : Value) → L (is_instance p c d x)
    is_instance_ok d (Ref r) = at_object_ok (λ o e. is_instance_object_ok d o)
    is_instance_ok d Nothing = give_ok
    is_instance_ok d x = bad_ok

    raise_object_ok : (r : ℕ) (o : Option Object) → slice_get heap r ≡ o → L (raise_object p c r o)
    raise_object_ok r (Some (Instance d attributes)) e = either (is_below p.classes d 0) refl
      where
        either : (b : Bool) → is_below p.classes d 0 ≡ b → L (if b then throw r else bad)
        either true below = throw_ok (record { class = d; is = ap class_of e; below = below })
        either false below = bad_ok
    raise_object_ok r o e = bad_ok

    raise_ok : (x : Value) → L (raise p c x)
    raise_ok (Ref r) = at_object_ok (λ o e. raise_object_ok r o e)
    raise_ok Nothing = none_ok c
    raise_ok x = bad_ok

    -- an instance is made, and `__init__` is called
    initialised_ok : (init : Option ℕ) (x : Value) (args : List Value) → Passes operands (x ∷ args) (Some x) → (w : World) → Fine p operands w (initialised p c init x args w)
    initialised_ok None x args h w = same w
    initialised_ok (Some f) x args h w = (same w, h)

    new_instance_ok : (d : ℕ) (args : List Value) → ((x : Value) → Passes operands (x ∷ args) (Some x)) → L (new_instance p c d args)
    new_instance_ok d args h = record {
      law = λ w e.
          let o = Instance d (first_attributes p.classes d) in
          let u : World = record w { heap = w.heap ++ o ∷ [] } in
          fine_on p operands w u _ (record { left = omega arith; kinds = new_kinds w.heap o })
          (initialised_ok (method_of p.classes d (codes "__init__")) (Ref (length w.heap)) args (h _) u);
    }

    new_ok : (d : ℕ) (args : List Value) → ((x : Value) → Passes operands (x ∷ args) (Some x)) → L (new p c d args)
    new_ok d args h = if_ok _ give_ok (paying_ok _ (new_instance_ok d args h))

    call_value_ok : (vs : List Value) → ((f : ℕ) (args : List Value) → vs ≡ Fun f ∷ args → Passes operands args None) → L (call_value p c vs)
    call_value_ok (Fun f ∷ args) h = enters_ok (h f args refl)
    call_value_ok (Nothing ∷ args) h = none_ok c
    call_value_ok vs h = bad_ok

    object_method_ok : (name : List ℕ) (r : ℕ) (args : List Value) (o : Option Object) → slice_get heap r ≡ o → Passes operands (Ref r ∷ args) None → L (object_method p c name r args o)
    object_method_ok name r args (Some (Listed vs)) e h = list_method_ok c name r vs args e
    object_method_ok name r args (Some (Mapped pairs)) e h = dict_method_ok name pairs args
    object_method_ok name r args (Some (Instance d attributes)) e h = if_some_ok (method_of p.classes d name) bad_ok (λ f. enters_ok h)
    object_method_ok name r args None e h = bad_ok

    method_ok : (name : List ℕ) (vs : List Value) → Passes operands vs None → L (method p c name vs)
    method_ok name (Text text ∷ args) h = text_method_ok name text args
    method_ok name (Ref r ∷ args) h = at_object_ok (λ o e. object_method_ok name r args o e h)
    method_ok name (Nothing ∷ args) h = none_ok c
    method_ok name vs h = bad_ok

    -- ---- all operations

    with_none_ok : {f : Op} → L f → (vs : List Value) → L (with_none f vs)
    with_none_ok h [] = h
    with_none_ok h vs = bad_ok

    with_one_ok : {f : Value → Op} → ((x : Value) → L (f x)) → (vs : List Value) → L (with_one f vs)
    with_one_ok h (x ∷ []) = h x
    with_one_ok h vs = bad_ok

    with_two_ok : {f : Value → Value → Op} → ((x y : Value) → L (f x y)) → (vs : List Value) → L (with_two f vs)
    with_two_ok h (x ∷ y ∷ []) = h x y
    with_two_ok h vs = bad_ok

    with_three_ok : {f : Value → Value → Value → Op} → ((x y z : Value) → L (f x y z)) → (vs : List Value) → L (with_three f vs)
    with_three_ok h (x ∷ y ∷ z ∷ []) = h x y z
    with_three_ok h vs = bad_ok

    gives : (x : Value) → L (give x)
    gives x = give_ok

    all_ok : (o : RowOp) (vs : List Value) → Passing operands vs → L (op p c o vs)
    all_ok (row.Word z) vs h = with_none_ok give_ok vs
    all_ok (row.Str text) vs h = with_none_ok give_ok vs
    all_ok (row.Bool b) vs h = with_none_ok give_ok vs
    all_ok row.None vs h = with_none_ok give_ok vs
    all_ok (row.Constant a) vs h = with_none_ok give_ok vs
    all_ok row.Copy vs h = with_one_ok gives vs
    all_ok (row.Unary f) vs h = with_one_ok (on_word_ok (λ z. give_ok)) vs
    all_ok (row.Binary f site) vs h = with_two_ok (binary_ok c f) vs
    all_ok row.AddTo vs h = with_two_ok (add_to_ok c) vs
    all_ok row.CheckedNeg vs h = with_one_ok (on_word_ok (λ z. fits_ok _)) vs
    all_ok (row.Checked f) vs h = with_two_ok (on_words_ok (arithmetic_ok c fits_ok f)) vs
    all_ok (row.Compare f) vs h = with_two_ok (compare_ok c f) vs
    all_ok row.Not vs h = with_one_ok (λ x. truth_ok (λ heap. option_map not (truth (slice_get heap) x))) vs
    all_ok row.Truth vs h = with_one_ok (λ x. truth_ok (λ heap. truth (slice_get heap) x)) vs
    all_ok row.Intmask vs h = with_one_ok (on_word_ok (λ z. give_ok)) vs
    all_ok row.Min vs h = with_two_ok (on_words_ok (λ a b. give_ok)) vs
    all_ok row.Max vs h = with_two_ok (on_words_ok (λ a b. give_ok)) vs
    all_ok row.Len vs h = with_one_ok (len_ok c) vs
    all_ok row.Ord vs h = with_one_ok ord_ok vs
    all_ok row.Chr vs h = with_one_ok (chr_ok c) vs
    all_ok row.ToStr vs h = with_one_ok to_text_ok vs
    all_ok row.ToInt vs h = with_one_ok to_word_ok vs
    all_ok row.Write vs h = with_two_ok os_write_ok vs
    all_ok (row.IsInstance d) vs h = with_one_ok (is_instance_ok d) vs
    all_ok (row.Index literal) vs h = with_two_ok (index_ok c) vs
    all_ok row.StoreIndex vs h = with_three_ok (store_index_ok c) vs
    all_ok row.DeleteIndex vs h = with_two_ok (delete_index_ok c) vs
    all_ok (row.Attr name) vs h = with_one_ok (attribute_ok name) vs
    all_ok (row.StoreAttr name) vs h = with_two_ok (store_attribute_ok name) vs
    all_ok (row.Slice site low high) vs h = slice_ok c low high vs
    all_ok (row.AllButLast site) vs h = with_one_ok (part_ok c but_last) vs
    all_ok row.Tuple vs h = paying_ok _ give_ok
    all_ok (row.List site) vs h = new_list_ok vs
    all_ok (row.Dict site) vs h = with_none_ok (new_object_ok _ _) vs
    all_ok (row.Comprehension site) vs h = with_none_ok (new_object_ok _ _) vs
    all_ok row.AddItem vs h = with_two_ok add_item_ok vs
    all_ok (row.Call f) vs h = enters_ok h.all
    all_ok (row.CallOf d f) vs h = enters_ok h.all
    all_ok row.CallValue vs h = call_value_ok vs h.value
    all_ok (row.New d) vs h = new_ok d vs h.instance
    all_ok (row.Method name site) vs h = method_ok name vs h.all
    all_ok row.Raise vs h = with_one_ok raise_ok vs
    all_ok row.Print vs h = write_if_any_ok _
    all_ok (row.Walk site) vs h = with_one_ok (walk_ok c) vs
    all_ok (row.HasItem step) vs h = with_two_ok (has_item_ok step) vs
    all_ok (row.Item step) vs h = with_two_ok (item_ok step) vs
    all_ok (row.Advance step) vs h = with_two_ok (advance_ok step) vs
    all_ok row.Turn vs h = with_none_ok (paying_ok _ give_ok) vs
    all_ok (row.Unpack n i) vs h = with_one_ok (unpack_ok n i) vs
    all_ok row.DropNone vs h = with_one_ok gives vs
    all_ok row.OnlyNone vs h = with_one_ok gives vs
    all_ok row.FalseNone vs h = with_one_ok gives vs
    all_ok (row.Lower d) vs h = with_one_ok gives vs
    all_ok row.NonNegative vs h = with_two_ok (λ x y. give_ok) vs

-- every operation answers so
pub fine : (p : Program) → ((k : ℕ) → k < builtin_classes → is_below p.classes k 0 ≡ true) → (c : Covers) (o : RowOp) (vs : List Value) (w : World) → Sound w.heap → Fine p vs w (op p c o vs w)
fine p builtins c o vs w sound = (all_ok p builtins vs w.heap sound c o vs (passing vs)).law w refl
