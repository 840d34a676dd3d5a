-- Operations on dicts are tidy.
use Rattle.std.proofs.Common.{◌≡◌, ◌<◌, ℕ, Bool, true, false, List, [], ◌∷◌, Option, Some, None, refl, pos}
use Rattle.std.specs.Prelude.{if◌then◌else◌, ◌≢◌, codes}
use Rattle.std.specs.Str.{bytes_eq}
use Rattle.csub_tree.specs.declared.tree.CBinary.TheVariants.{Ge, Ne}
use Rattle.csub_tree.specs.declared.tree.CConst.TheVariants as constant
use Rattle.csub_tree.specs.declared.tree.CUnary.TheVariants as unary
use Rattle.csub_tree.specs.declared.tree.COperand.{COperand}
use Rattle.csub_tree.specs.declared.tree.COperand.TheVariants.{Var}
use Rattle.ll_code.specs.declared.program.LlType.{LlType}
use Rattle.ll_code.specs.declared.program.LlType.TheVariants as type
use Rattle.ll_code.specs.declared.program.LlOp.TheVariants.{Call, Step}
use Rattle.ll_build.specs.Build.{word}
use Rattle.rpy_meaning.specs.declared.row.RowOp.{RowOp}
use Rattle.rpy_meaning.specs.declared.row.RowOp.TheVariants as row
use Rattle.rpy_tree.specs.declared.syntax.CmpOp.{CmpOp}
use Rattle.rtyper_data.specs.declared.body.Body.{Body}
use Rattle.rtyper_data.specs.declared.small.Keyed.{Keyed as Graph}
use Rattle.rtyper_data.specs.declared.small.Keyed.TheVariants as keyed
use Rattle.rtyper_data.specs.declared.small.Small.TheVariants.{Keyed}
use Rattle.rtyper_data.specs.Comparing.{binary_in}
use Rattle.rtyper_data.specs.Converting.{by_small, default_constant, default_operand, give, given}
use Rattle.rtyper_data.specs.Finding.{same_type, small_number}
use Rattle.rtyper_data.specs.Seen.{Operand, kind_of, push, set, type_at, type_of, Writing, writing}
use Rattle.rtyper_data.specs.Tuples.{variable_of}
use Rattle.rtyper_dict.specs.declared.parts.DictShape.{DictShape}
use Rattle.rtyper_dict.specs.Parts.{as_word, count_read, from_word, keyed_number, stored, unstored}
use Rattle.rtyper_dict.specs.Operands.{dict_of, done_by, entry_in, key_in, list_at, of_dict_or_none, stored_in, there, value_in}
use Rattle.rtyper_dict.specs.Lowering.{compare, counted, delete, display, display_to, get, get_as, get_if, get_to, give_value, index, is_either, is_reversed, is_there, len, list, list_if, list_named, list_to, lower_dict_op, method_of_one, of_dict, of_dict_or, of_first, of_one, of_second, of_three, of_two, other_value, store, within, within_or}
use Rattle.growth_laws.proofs.Growing.{same_found, smalls_grow}
use Rattle.reading_laws.specs.Results.{SmallGives}
use Rattle.reading_laws.specs.Suits.{dict_compare_suits, dict_one_suits, dict_suits_or, dict_three_suits, dict_two_suits, first_dict_suits, is_some, lower_dict_suits, some_dict_suits}
use Rattle.reading_laws.specs.Tidy.{AreSet, AreThere, IsSet, IsThere, Setup, Stands, Tidy, Wider, taken, target}
use Rattle.reading_laws.proofs.Steps.{as_tidy, held, if_sets, more, nothing, pushed, sets_in, still, takes_none, then_tidy, there_more, wider}
use Rattle.reading_laws.proofs.Values.{by_small_tidy, give_made_tidy, give_tidy, given_tidy, present_tidy, set_place, typed_tidy}
use Rattle.reading_laws.proofs.Comparisons.{binary_in_tidy, if_in, opposite_of_tidy, unary_in_tidy, variable_of_tidy}
use Rattle.reading_laws.proofs.Writers.{paid_tidy, word_set}
use Rattle.reading_laws.proofs.Operating.{failure_tidy, says_nothing_tidy}
use Rattle.reading_laws.proofs.Listed.{new_by_tidy}

module _ {f : Setup} where
  -- ---- keys and values as they stand in arrays

  as_word_tidy : {s : List ℕ} (kind : LlType) (x : COperand) (w : Writing) → IsSet x s → Tidy f s ((as_word kind x w.body).0 ∷ []) w (writing w.found (as_word kind x w.body).1)
  as_word_tidy type.Bool x w h = unary_in_tidy unary.B2S type.Signed x w h
  as_word_tidy kind x w h = unary_in_tidy unary.C2S type.Signed x w h

  stored_tidy : {s : List ℕ} (kind item : LlType) (x : COperand) (w : Writing) → IsSet x s → Tidy f s ((stored kind item x w.body).0 ∷ []) w (writing w.found (stored kind item x w.body).1)
  unfolding stored
  stored_tidy kind item x w h = if_in (same_type kind item) (x, w.body) (as_word kind x w.body) (still (x ∷ []) (h, tt)) (as_word_tidy kind x w h)

  from_word_tidy : {s : List ℕ} (kind : LlType) (x : COperand) (w : Writing) → IsSet x s → Tidy f s ((from_word kind x w.body).0 ∷ []) w (writing w.found (from_word kind x w.body).1)
  from_word_tidy {s} type.Bool x w h = binary_in_tidy Ne type.Bool x (word (pos 0)) w h (held (constant.Word (pos 0)) s)
  from_word_tidy type.Char x w h = unary_in_tidy unary.S2C type.Char x w h
  from_word_tidy type.Signed x w h = unary_in_tidy unary.S2C type.Signed x w h
  from_word_tidy type.Void x w h = unary_in_tidy unary.S2C type.Void x w h
  from_word_tidy type.Fn x w h = unary_in_tidy unary.S2C type.Fn x w h
  from_word_tidy (type.Ptr n) x w h = unary_in_tidy unary.S2C (type.Ptr n) x w h

  unstored_tidy : {s : List ℕ} (item kind : LlType) (x : COperand) (w : Writing) → IsSet x s → Tidy f s ((unstored item kind x w.body).0 ∷ []) w (writing w.found (unstored item kind x w.body).1)
  unfolding unstored
  unstored_tidy item kind x w h = if_in (same_type kind item) (x, w.body) (from_word kind x w.body) (still (x ∷ []) (h, tt)) (from_word_tidy kind x w h)

  stored_in_tidy : {s : List ℕ} {w : Writing} (kind item : LlType) (x : COperand × Writing) → Tidy f s (x.0 ∷ []) w x.1 → Tidy f s ((stored_in kind item x).0 ∷ []) w (stored_in kind item x).1
  stored_in_tidy kind item x one = then_tidy one (λ t m k. stored_tidy kind item x.0 x.1 k.0)

  counted_tidy : {s : List ℕ} (d : DictShape) (dict : ℕ × Body) (w : Writing) → IsSet (Var dict.0) s → Tidy f s ((counted d dict).0 ∷ []) (writing w.found dict.1) (writing w.found (counted d dict).1)
  counted_tidy d dict w h = new_by_tidy type.Signed (λ v. count_read v d dict.0) (writing w.found dict.1) (λ v. h.it) (λ v. refl) (λ v j. (refl, j))

module _ {f : Setup} (c : Stands f) where
  there_tidy : {s : List ℕ} (a : Operand) (w : Writing) → IsThere f a s → Tidy f s ((there f.world.around a w).0 ∷ []) w (there f.world.around a w).1
  unfolding there
  there_tidy a w h = present_tidy c a (of_dict_or_none (kind_of a)) w h

  key_in_tidy : {s : List ℕ} (d : DictShape) (b : Operand) (w : Writing) → IsSet b.x s → Tidy f s ((key_in f.world.around d b w).0 ∷ []) w (key_in f.world.around d b w).1
  unfolding key_in
  key_in_tidy d b w h = stored_in_tidy d.key d.stored_key _ (given_tidy c b d.key w h)

  value_in_tidy : {s : List ℕ} (d : DictShape) (b : Operand) (w : Writing) → IsSet b.x s → Tidy f s ((value_in f.world.around d b w).0 ∷ []) w (value_in f.world.around d b w).1
  unfolding value_in
  value_in_tidy d b w h = stored_in_tidy d.value d.stored_value _ (given_tidy c b d.value w h)

  done_by_tidy : {s : List ℕ} (graph : Graph) (xs : List COperand) (w : Writing) → AreSet xs s → Tidy f s [] w (done_by graph xs w)
  unfolding done_by
  done_by_tidy {s} graph xs w h = pushed [] (Call None (keyed_number graph w.found).0 xs) (keyed_number graph w.found).1 w (sets_in xs s h) tt (smalls_grow (Keyed graph) w.found) (λ a i. takes_none f.program f.size _)

  -- the dict, and what the graph gives
  entry_in_tidy : {s : List ℕ} (d : DictShape) (a b : Operand) (graph : Graph) (w : Writing) → SmallGives f.world (Keyed graph) → IsThere f a s → IsSet b.x s
      → Tidy f s ((entry_in f.world.around d a b graph w).0.0 ∷ (entry_in f.world.around d a b graph w).0.1 ∷ []) w (entry_in f.world.around d a b graph w).1
  unfolding entry_in
  entry_in_tidy d a b graph w g h j =
      then_tidy (there_tidy a w h) (λ t m k.
      then_tidy (key_in_tidy d b (there f.world.around a w).1 (more m j)) (λ u n l.
      as_tidy _ (by_small_tidy c (Keyed graph) type.Signed (_ ∷ _ ∷ []) _ g (more n k.0, (l.0, tt))) (λ v r q. (more (wider n r) k.0, q))))

  -- ---- operations

  display_to_tidy : {s : List ℕ} (t : LlType) (w : Writing) → type_at f.world.around f.place ≡ t → Tidy f s (taken true f) w (display_to f.world.around f.place t w)
  display_to_tidy (type.Ptr n) w is = then_tidy (by_small_tidy c (Keyed (keyed.Make n)) (type.Ptr n) [] w tt tt) (λ t m k. typed_tidy c _ (type.Ptr n) _ (λ e. absurd (cc)) is k.0)
  display_to_tidy t w is = says_nothing_tidy c w

  display_tidy : {s : List ℕ} (w : Writing) → Tidy f s (taken true f) w (display f.world.around f.place w)
  unfolding display
  display_tidy {s} w = then_tidy (paid_tidy c (word (pos 1)) w (held (constant.Word (pos 1)) s)) (λ t m k. display_to_tidy (type_at f.world.around f.place) (push (Step (word (pos 1))) w) refl)

  give_value_tidy : {s : List ℕ} (d : DictShape) (w : Writing) (v : COperand × Writing) → Tidy f s (v.0 ∷ []) w v.1 → Tidy f s (taken true f) w (give_value f.world.around f.place d v)
  give_value_tidy d w v one = give_made_tidy c d.value w _ (then_tidy one (λ t m k. unstored_tidy d.stored_value d.value v.0 v.1 k.0))

  index_tidy : {s : List ℕ} (d : DictShape) (a b : Operand) (w : Writing) → IsThere f a s → IsSet b.x s → Tidy f s (taken true f) w (index f.world.around f.place d a b w)
  unfolding index
  index_tidy d a b w h j =
      then_tidy (entry_in_tidy d a b (keyed.Entry d.dict) w tt h j) (λ t m k.
      give_value_tidy d _ _ (by_small_tidy c (Keyed (keyed.Value d.dict)) d.stored_value (_ ∷ _ ∷ []) _ tt k))

  store_tidy : {s : List ℕ} (d : DictShape) (a b e : Operand) (w : Writing) → IsThere f a s → IsSet b.x s → IsSet e.x s → Tidy f s (taken true f) w (store f.world.around f.place d a b e w)
  unfolding store
  store_tidy d a b e w h j g =
      then_tidy (there_tidy a w h) (λ t m k.
      then_tidy (key_in_tidy d b (there f.world.around a w).1 (more m j)) (λ u n l.
      then_tidy (value_in_tidy d e _ (more (wider m n) g)) (λ v r q.
      then_tidy (done_by_tidy (keyed.Store d.dict) (_ ∷ _ ∷ _ ∷ []) _ (more (wider n r) k.0, (more r l.0, (q.0, tt)))) (λ z o p.
      give_tidy c e.x (type_of f.world.around e) _ (more (wider (wider m n) (wider r o)) g)))))

  delete_tidy : {s : List ℕ} (d : DictShape) (a b : Operand) (w : Writing) → IsThere f a s → IsSet b.x s → Tidy f s (taken true f) w (delete f.world.around f.place d a b w)
  unfolding delete
  delete_tidy d a b w h j =
      then_tidy (entry_in_tidy d a b (keyed.Entry d.dict) w tt h j) (λ t m k.
      then_tidy (done_by_tidy (keyed.Remove d.dict) (_ ∷ _ ∷ []) _ k) (λ u n l.
      says_nothing_tidy c _))

  is_there_tidy : {s : List ℕ} (d : DictShape) (reversed : Bool) (a b : Operand) (w : Writing) → IsSet a.x s → IsThere f b s → Tidy f s ((is_there f.world.around d reversed a b w).0 ∷ []) w (is_there f.world.around d reversed a b w).1
  unfolding is_there
  is_there_tidy d reversed a b w h j =
      then_tidy (entry_in_tidy d b a (keyed.Find d.dict) w tt j h) (λ t m k.
      opposite_of_tidy reversed _ (binary_in_tidy Ge type.Bool _ (word (pos 0)) _ k.1.0 (held (constant.Word (pos 0)) t)))

  within_tidy : {s : List ℕ} (d : DictShape) (reversed : Bool) (a b : Operand) (w : Writing) → IsSet a.x s → IsThere f b s → Tidy f s (taken true f) w (within f.world.around f.place d reversed a b w)
  unfolding within
  within_tidy d reversed a b w h j = give_made_tidy c type.Bool w _ (is_there_tidy d reversed a b w h j)

  len_tidy : {s : List ℕ} (d : DictShape) (a : Operand) (w : Writing) → IsThere f a s → Tidy f s (taken true f) w (len f.world.around f.place d a w)
  unfolding len
  len_tidy d a w h =
      then_tidy (there_tidy a w h) (λ t m k.
      give_made_tidy c type.Signed (there f.world.around a w).1 _
      (then_tidy (variable_of_tidy (there f.world.around a w).0 (type.Ptr d.dict) (there f.world.around a w).1 k.0) (λ u n l.
      counted_tidy d (variable_of (there f.world.around a w).0 (type.Ptr d.dict) (there f.world.around a w).1.body) (there f.world.around a w).1 l.0)))

  -- ---- methods

  abbrev IsGiven : Option Operand → List ℕ → Type 0
  IsGiven None s = Unit {0}
  IsGiven (Some b) s = IsSet b.x s

  given_later : {s t : List ℕ} (o : Option Operand) → Wider s t → IsGiven o s → IsGiven o t
  given_later None m h = tt
  given_later (Some b) m h = more m h

  other_value_tidy : {s : List ℕ} (kind : LlType) (o : Option Operand) (w : Writing) → IsGiven o s → Tidy f s ((other_value f.world.around kind o w).0 ∷ []) w (other_value f.world.around kind o w).1
  other_value_tidy {s} kind None w h = still (default_operand kind ∷ []) (held (default_constant kind) s, tt)
  other_value_tidy kind (Some b) w h = given_tidy c b kind w h

  get_as_tidy : {s : List ℕ} (d : DictShape) (x : COperand) (b : Operand) (o : Option Operand) (t : LlType) (w : Writing) → t ≢ type.Void → type_at f.world.around f.place ≡ t → IsSet x s → IsSet b.x s → IsGiven o s
      → Tidy f s (target t f.place.variable) w (get_as f.world.around f.place d x b o t w)
  unfolding get_as
  get_as_tidy d x b o kind w there is h j g =
      then_tidy (key_in_tidy d b w j) (λ t m k.
      then_tidy (other_value_tidy kind o _ (given_later o m g)) (λ u n l.
      then_tidy (by_small_tidy c (Keyed (keyed.Get d.dict kind)) kind (x ∷ _ ∷ _ ∷ []) _ there (more (wider m n) h, (more n k.0, (l.0, tt)))) (λ v r q.
      set_place c kind _ _ there is q.0)))

  get_to_tidy : {s : List ℕ} (d : DictShape) (x : COperand) (b : Operand) (o : Option Operand) (t : LlType) (w : Writing) → type_at f.world.around f.place ≡ t → IsSet x s → IsSet b.x s → IsGiven o s → Tidy f s (target t f.place.variable) w (get_to f.world.around f.place d x b o t w)
  get_to_tidy d x b o type.Void w is h j g = nothing
  get_to_tidy d x b o type.Signed w is h j g = get_as_tidy d x b o type.Signed w (λ e. absurd (cc)) is h j g
  get_to_tidy d x b o type.Char w is h j g = get_as_tidy d x b o type.Char w (λ e. absurd (cc)) is h j g
  get_to_tidy d x b o type.Bool w is h j g = get_as_tidy d x b o type.Bool w (λ e. absurd (cc)) is h j g
  get_to_tidy d x b o type.Fn w is h j g = get_as_tidy d x b o type.Fn w (λ e. absurd (cc)) is h j g
  get_to_tidy d x b o (type.Ptr n) w is h j g = get_as_tidy d x b o (type.Ptr n) w (λ e. absurd (cc)) is h j g

  get_tidy : {s : List ℕ} (d : DictShape) (a b : Operand) (o : Option Operand) (w : Writing) → IsThere f a s → IsSet b.x s → IsGiven o s → Tidy f s (taken true f) w (get f.world.around f.place d a b o w)
  unfolding get
  get_tidy d a b o w h j g = then_tidy (there_tidy a w h) (λ t m k. get_to_tidy d (there f.world.around a w).0 b o (type_at f.world.around f.place) (there f.world.around a w).1 refl k.0 (more m j) (given_later o m g))

  list_to_tidy : {s : List ℕ} (graph : Graph) (x : COperand) (t : LlType) (w : Writing) → SmallGives f.world (Keyed graph) → type_at f.world.around f.place ≡ t → IsSet x s → Tidy f s (taken true f) w (list_to f.world.around f.place graph x t w)
  list_to_tidy graph x (type.Ptr n) w g is h = then_tidy (by_small_tidy c (Keyed graph) (type.Ptr n) (x ∷ []) w g (h, tt)) (λ t m k. typed_tidy c _ (type.Ptr n) _ (λ e. absurd (cc)) is k.0)
  list_to_tidy graph x t w g is h = says_nothing_tidy c w

  list_tidy : {s : List ℕ} (graph : Graph) (a : Operand) (w : Writing) → SmallGives f.world (Keyed graph) → IsThere f a s → Tidy f s (taken true f) w (list f.world.around f.place graph a w)
  unfolding list
  list_tidy graph a w g h = then_tidy (there_tidy a w h) (λ t m k. list_to_tidy graph (there f.world.around a w).0 (type_at f.world.around f.place) (there f.world.around a w).1 g refl k.0)

  -- each that has a name gives something
  abbrev NamedGives : Option Graph → Type 0
  NamedGives None = Unit {0}
  NamedGives (Some graph) = SmallGives f.world (Keyed graph)

  named_if : (b : Bool) (x y : Option Graph) → NamedGives x → NamedGives y → NamedGives (if b then x else y)
  named_if true x y g h = g
  named_if false x y g h = h

  abbrev items_or : List ℕ → ℕ → ℕ → Option Graph
  items_or name d l = if is_either name (codes "items") (codes "iteritems") then Some (keyed.Items d l) else None

  abbrev values_or : List ℕ → ℕ → ℕ → Option Graph
  values_or name d l = if is_either name (codes "values") (codes "itervalues") then Some (keyed.Values d l) else items_or name d l

  named_gives : (name : List ℕ) (d l : ℕ) → NamedGives (list_named name d l)
  named_gives name d l =
      named_if (is_either name (codes "keys") (codes "iterkeys")) (Some (keyed.Keys d l)) (values_or name d l) tt
      (named_if (is_either name (codes "values") (codes "itervalues")) (Some (keyed.Values d l)) (items_or name d l) tt (named_if (is_either name (codes "items") (codes "iteritems")) (Some (keyed.Items d l)) None tt tt))

  list_if_tidy : {s : List ℕ} (graph : Option Graph) (a : Operand) (w : Writing) → NamedGives graph → IsThere f a s → Tidy f s (taken (is_some graph) f) w (list_if f.world.around f.place graph a w)
  list_if_tidy None a w g h = nothing
  list_if_tidy (Some graph) a w g h = list_tidy graph a w g h

  method_of_one_tidy : {s : List ℕ} (d : DictShape) (name : List ℕ) (a : Operand) (w : Writing) → IsThere f a s → Tidy f s (taken (is_some (list_named name d.dict (list_at f.world.around f.place))) f) w (method_of_one f.world.around f.place d name a w)
  unfolding method_of_one
  method_of_one_tidy d name a w h = list_if_tidy (list_named name d.dict (list_at f.world.around f.place)) a w (named_gives name d.dict (list_at f.world.around f.place)) h

  get_if_tidy : {s : List ℕ} (d : DictShape) (name : List ℕ) (a b : Operand) (o : Option Operand) (w : Writing) → IsThere f a s → IsSet b.x s → IsGiven o s → Tidy f s (taken (bytes_eq name (codes "get")) f) w (get_if f.world.around f.place d name a b o w)
  unfolding get_if
  get_if_tidy d name a b o w h j g = if_sets (bytes_eq name (codes "get")) (get f.world.around f.place d a b o w) (get_tidy d a b o w h j g)

  -- ---- by the operands

  of_one_tidy : {s : List ℕ} (o : RowOp) (d : DictShape) (a : Operand) (w : Writing) → IsThere f a s → Tidy f s (taken (dict_one_suits f.world.around o f.place d) f) w (of_one f.world.around o f.place d a w)
  unfolding of_one
  of_one_tidy row.Len d a w h = len_tidy d a w h
  of_one_tidy (row.Walk site) d a w h = list_tidy (keyed.Keys d.dict (list_at f.world.around f.place)) a w tt h
  of_one_tidy (row.Method name site) d a w h = method_of_one_tidy d name a w h
  of_one_tidy o d a w h = nothing

  of_two_tidy : {s : List ℕ} (o : RowOp) (d : DictShape) (a b : Operand) (w : Writing) → IsThere f a s → IsSet b.x s → Tidy f s (taken (dict_two_suits o) f) w (of_two f.world.around o f.place d a b w)
  unfolding of_two
  of_two_tidy (row.Index i) d a b w h j = index_tidy d a b w h j
  of_two_tidy row.DeleteIndex d a b w h j = delete_tidy d a b w h j
  of_two_tidy (row.Method name site) d a b w h j = get_if_tidy d name a b None w h j tt
  of_two_tidy o d a b w h j = nothing

  of_three_tidy : {s : List ℕ} (o : RowOp) (d : DictShape) (a b e : Operand) (w : Writing) → IsThere f a s → IsSet b.x s → IsSet e.x s → Tidy f s (taken (dict_three_suits o) f) w (of_three f.world.around o f.place d a b e w)
  unfolding of_three
  of_three_tidy row.StoreIndex d a b e w h j g = store_tidy d a b e w h j g
  of_three_tidy (row.Method name site) d a b e w h j g = get_if_tidy d name a b (Some e) w h j g
  of_three_tidy o d a b e w h j g = nothing

  of_dict_tidy : {s : List ℕ} (o : RowOp) (d : DictShape) (args : List Operand) (w : Writing) → AreThere f args s → Tidy f s (taken (some_dict_suits f.world.around o f.place d args) f) w (of_dict f.world.around o f.place d args w)
  unfolding of_dict
  of_dict_tidy o d (a ∷ []) w h = of_one_tidy o d a w h.0
  of_dict_tidy o d (a ∷ b ∷ []) w h = of_two_tidy o d a b w h.0 h.1.0.inside
  of_dict_tidy o d (a ∷ b ∷ e ∷ []) w h = of_three_tidy o d a b e w h.0 h.1.0.inside h.1.1.0.inside
  of_dict_tidy o d args w h = nothing

  of_dict_or_tidy : {s : List ℕ} (o : RowOp) (d : Option DictShape) (args : List Operand) (w : Writing) → AreThere f args s → Tidy f s (taken (dict_suits_or f.world.around o f.place d args) f) w (of_dict_or f.world.around o f.place d args w)
  of_dict_or_tidy o None args w h = failure_tidy c w
  of_dict_or_tidy o (Some d) args w h = of_dict_tidy o d args w h

  of_first_tidy : {s : List ℕ} (o : RowOp) (args : List Operand) (w : Writing) → AreThere f args s → Tidy f s (taken (first_dict_suits f.world.around o f.place args) f) w (of_first f.world.around o f.place args w)
  unfolding of_first
  of_first_tidy o [] w h = nothing
  of_first_tidy o (a ∷ args) w h = of_dict_or_tidy o (dict_of f.world.around a) (a ∷ args) w h

  within_or_tidy : {s : List ℕ} (d : Option DictShape) (reversed : Bool) (a b : Operand) (w : Writing) → IsSet a.x s → IsThere f b s → Tidy f s (taken true f) w (within_or f.world.around f.place d reversed a b w)
  within_or_tidy None reversed a b w h j = failure_tidy c w
  within_or_tidy (Some d) reversed a b w h j = within_tidy d reversed a b w h j

  of_second_tidy : {s : List ℕ} (o : CmpOp) (a b : Operand) (w : Writing) → IsSet a.x s → IsThere f b s → Tidy f s (taken true f) w (of_second f.world.around o f.place a b w)
  unfolding of_second
  of_second_tidy o a b w h j = within_or_tidy (dict_of f.world.around b) (is_reversed o) a b w h j

  compare_tidy : {s : List ℕ} (o : RowOp) (e : CmpOp) (args : List Operand) (w : Writing) → AreThere f args s → Tidy f s (taken (dict_compare_suits f.world.around o f.place args) f) w (compare f.world.around o e f.place args w)
  unfolding compare
  compare_tidy o e (a ∷ b ∷ []) w h = of_second_tidy e a b w h.0.inside h.1.0
  compare_tidy o e args w h = of_first_tidy o args w h

  pub lower_dict_op_tidy : {s : List ℕ} (o : RowOp) (args : List Operand) (w : Writing) → AreThere f args s → Tidy f s (taken (lower_dict_suits f.world.around o f.place args) f) w (lower_dict_op f.world.around o f.place args w)
  unfolding lower_dict_op
  lower_dict_op_tidy (row.Dict site) args w h = display_tidy w
  lower_dict_op_tidy (row.Compare e) args w h = compare_tidy (row.Compare e) e args w h
  lower_dict_op_tidy o args w h = of_first_tidy o args w h
