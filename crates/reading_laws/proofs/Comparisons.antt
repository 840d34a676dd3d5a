-- Comparisons are tidy.
use Rattle.std.proofs.Common.{◌≡◌, ℕ, ◌+◌, ◌==◌, ◌&&◌, Bool, true, false, List, [], ◌∷◌, ◌++◌, refl, pos}
use Rattle.std.specs.Prelude.{if◌then◌else◌}
use Rattle.csub_tree.specs.declared.tree.CBinary.{CBinary}
use Rattle.csub_tree.specs.declared.tree.CBinary.TheVariants as binary
use Rattle.csub_tree.specs.declared.tree.CConst.TheVariants as constant
use Rattle.csub_tree.specs.declared.tree.CUnary.{CUnary}
use Rattle.csub_tree.specs.declared.tree.CUnary.TheVariants as unary
use Rattle.csub_tree.specs.declared.tree.COperand.{COperand}
use Rattle.csub_tree.specs.declared.tree.COperand.TheVariants.{Var, Const}
use Rattle.ll_code.specs.declared.program.LlType.{LlType}
use Rattle.ll_code.specs.declared.program.LlType.TheVariants as type
use Rattle.ll_code.specs.declared.program.LlOp.TheVariants as op
use Rattle.ll_build.specs.declared.needs.Helper.TheVariants as helper
use Rattle.rpy_tree.specs.declared.syntax.CmpOp.{CmpOp}
use Rattle.rpy_tree.specs.declared.syntax.CmpOp.TheVariants as compared
use Rattle.rtyper_layout.specs.declared.kind.Kind.{Kind}
use Rattle.rtyper_layout.specs.declared.kind.Kind.TheVariants as kind
use Rattle.rtyper_layout.specs.declared.layout.Layout.{Layout}
use Rattle.rtyper_layout.specs.Kinds.{is_text, is_text_or_none}
use Rattle.rtyper_layout.specs.Layout.{is_tuple}
use Rattle.rtyper_data.specs.declared.body.Body.{Body}
use Rattle.rtyper_data.specs.declared.small.Small.TheVariants as small
use Rattle.rtyper_data.specs.Seen.{Operand, type_of, kind_of, Writing, writing}
use Rattle.rtyper_data.specs.Converting.{given, value_as}
use Rattle.rtyper_data.specs.Comparing.{any_equal, beside_none, beside_none_of, binary_in, both_null, compare, equal, field_equal, field_of, flag, identical, identical_by, is_no_function, is_null, joined, null, not_zero, of_bytes, of_words, opposite_if, opposite_of, or_word, ordered, ordered_by, pointers_equal, same_pointer, same_pointer_of, texts_equal, texts_less, texts_less_by, unary_in, within, within_by, within_of, within_text, within_tuple, zero_word}
use Rattle.rtyper_data.specs.Tuples.{fields_of, variable_of}
use Rattle.growth_laws.proofs.Growing.{same_found}
use Rattle.throw_laws.specs.Pieces.{AllIn}
use Rattle.catch_laws.proofs.Reading.{both_in}
use Rattle.ll_live.specs.Live.{variables_of}
use Rattle.reading_laws.specs.Tidy.{IsSet, IsThere, Setup, Stands, Tidy, Wider}
use Rattle.reading_laws.proofs.Steps.{held, if_given, more, set_fresh, still, then_tidy, wider}
use Rattle.reading_laws.proofs.Values.{by_small_tidy, given_tidy, helped_tidy, value_as_tidy}

pub two_in : (x y : COperand) (s : List ℕ) → IsSet x s → IsSet y s → AllIn (variables_of x ++ variables_of y) s
two_in x y s h k = both_in (variables_of x) (variables_of y) s h.it k.it

null_set : (s : List ℕ) → IsSet null s
null_set s = held constant.Null s

zero_set : (s : List ℕ) → IsSet zero_word s
zero_set s = held (constant.Word (pos 0)) s

module _ {f : Setup} where
  -- ---- results with variables of their own

  pub binary_in_tidy : {s : List ℕ} (o : CBinary) (gives : LlType) (x y : COperand) (w : Writing) → IsSet x s → IsSet y s → Tidy f s ((binary_in o gives x y w.body).0 ∷ []) w (writing w.found (binary_in o gives x y w.body).1)
  binary_in_tidy {s} o gives x y w h k = set_fresh gives (λ v. op.Binary v o x y) w.found w (λ v. two_in x y s h k) (λ v. refl) (same_found w.found) (λ a i v j. (refl, j))

  pub unary_in_tidy : {s : List ℕ} (o : CUnary) (gives : LlType) (x : COperand) (w : Writing) → IsSet x s → Tidy f s ((unary_in o gives x w.body).0 ∷ []) w (writing w.found (unary_in o gives x w.body).1)
  unary_in_tidy o gives x w h = set_fresh gives (λ v. op.Unary v o x) w.found w (λ v. h.it) (λ v. refl) (same_found w.found) (λ a i v j. (refl, j))

  pub opposite_if_tidy : {s : List ℕ} (reversed : Bool) (x : COperand) (w : Writing) → IsSet x s → Tidy f s ((opposite_if reversed x w.body).0 ∷ []) w (writing w.found (opposite_if reversed x w.body).1)
  unfolding opposite_if
  opposite_if_tidy true x w h = unary_in_tidy unary.Not type.Bool x w h
  opposite_if_tidy false x w h = still (x ∷ []) (h, tt)

  pub flag_tidy : {s : List ℕ} (b : Bool) (w : Writing) → Tidy f s (flag b ∷ []) w w
  flag_tidy {s} b w = still (flag b ∷ []) (held (constant.Bool b) s, tt)

  pub of_bytes_tidy : {s : List ℕ} (o : CBinary) (x y : COperand) (w : Writing) → IsSet x s → IsSet y s → Tidy f s ((of_bytes o x y w.body).0 ∷ []) w (writing w.found (of_bytes o x y w.body).1)
  of_bytes_tidy o x y w h k =
      then_tidy (unary_in_tidy unary.C2S type.Signed x w h) (λ t m a.
      then_tidy (unary_in_tidy unary.C2S type.Signed y (writing w.found (unary_in unary.C2S type.Signed x w.body).1) (more m k)) (λ u n b.
      binary_in_tidy o type.Bool _ _ _ (more n a.0) b.0))

  pub is_null_tidy : {s : List ℕ} (x : COperand) (w : Writing) → IsSet x s → Tidy f s ((is_null x w.body).0 ∷ []) w (writing w.found (is_null x w.body).1)
  is_null_tidy {s} x w h = binary_in_tidy binary.Peq type.Bool x null w h (null_set s)

  pub is_no_function_tidy : {s : List ℕ} (x : COperand) (w : Writing) → IsSet x s → Tidy f s ((is_no_function x w.body).0 ∷ []) w (writing w.found (is_no_function x w.body).1)
  is_no_function_tidy {s} x w h = binary_in_tidy binary.Feq type.Bool x null w h (null_set s)

  pub opposite_of_tidy : {s : List ℕ} {w : Writing} (reversed : Bool) (made : COperand × Writing) → Tidy f s (made.0 ∷ []) w made.1 → Tidy f s ((opposite_of reversed made).0 ∷ []) w (opposite_of reversed made).1
  opposite_of_tidy reversed made one = then_tidy one (λ t m k. opposite_if_tidy reversed made.0 made.1 k.0)

  -- ---- identity

  both_null_tidy : {s : List ℕ} (x y : COperand) (w : Writing) → IsSet x s → IsSet y s → Tidy f s ((both_null x y w.body).0 ∷ []) w (writing w.found (both_null x y w.body).1)
  both_null_tidy x y w h k =
      then_tidy (is_null_tidy x w h) (λ t m a.
      then_tidy (is_null_tidy y (writing w.found (is_null x w.body).1) (more m k)) (λ u n b.
      then_tidy (unary_in_tidy unary.B2S type.Signed (is_null x w.body).0 _ (more n a.0)) (λ v q d.
      then_tidy (unary_in_tidy unary.B2S type.Signed _ _ (more q b.0)) (λ z r e.
      then_tidy (binary_in_tidy binary.And type.Signed _ _ _ (more r d.0) e.0) (λ last i g.
      binary_in_tidy binary.Ne type.Bool _ zero_word _ g.0 (zero_set last))))))

  beside_none_of_tidy : {s : List ℕ} (t : LlType) (x : COperand) (w : Writing) → IsSet x s → Tidy f s ((beside_none_of t x w.body).0 ∷ []) w (writing w.found (beside_none_of t x w.body).1)
  beside_none_of_tidy (type.Ptr n) x w h = is_null_tidy x w h
  beside_none_of_tidy type.Fn x w h = is_no_function_tidy x w h
  beside_none_of_tidy t x w h = flag_tidy false w

  -- one of two bodies
  pub if_in : {s : List ℕ} {w : Writing} (b : Bool) (x y : COperand × Body) → Tidy f s (x.0 ∷ []) w (writing w.found x.1) → Tidy f s (y.0 ∷ []) w (writing w.found y.1)
      → Tidy f s ((if b then x else y).0 ∷ []) w (writing w.found (if b then x else y).1)
  if_in true x y g h = g
  if_in false x y g h = h

  same_pointer_of_tidy : {s : List ℕ} (p q : LlType) (x y : COperand) (w : Writing) → IsSet x s → IsSet y s → Tidy f s ((same_pointer_of p q x y w.body).0 ∷ []) w (writing w.found (same_pointer_of p q x y w.body).1)
  same_pointer_of_tidy (type.Ptr m) (type.Ptr n) x y w h k = if_in (m == n) _ _ (binary_in_tidy binary.Peq type.Bool x y w h k) (both_null_tidy x y w h k)
  same_pointer_of_tidy p q x y w h k = flag_tidy false w

  identical_by_tidy : {s : List ℕ} (p q : Kind) (a b : Operand) (w : Writing) → IsSet a.x s → IsSet b.x s → Tidy f s ((identical_by p q f.world.around a b w.body).0 ∷ []) w (writing w.found (identical_by p q f.world.around a b w.body).1)
  identical_by_tidy kind.Nothing kind.Nothing a b w h k = flag_tidy true w
  identical_by_tidy kind.Nothing q a b w h k = beside_none_of_tidy (type_of f.world.around b) b.x w k
  identical_by_tidy p kind.Nothing a b w h k = beside_none_of_tidy (type_of f.world.around a) a.x w h
  identical_by_tidy p q a b w h k = same_pointer_of_tidy (type_of f.world.around a) (type_of f.world.around b) a.x b.x w h k

  identical_tidy : {s : List ℕ} (a b : Operand) (w : Writing) → IsSet a.x s → IsSet b.x s → Tidy f s ((identical f.world.around a b w.body).0 ∷ []) w (writing w.found (identical f.world.around a b w.body).1)
  unfolding identical
  identical_tidy a b w h k = identical_by_tidy (kind_of a) (kind_of b) a b w h k

  -- ---- fields

  pub field_of_tidy : {s : List ℕ} (n tuple i : ℕ) (t : LlType) (w : Writing) → IsSet (Var tuple) s → Tidy f s ((field_of n tuple i t w.body).0 ∷ []) w (writing w.found (field_of n tuple i t w.body).1)
  field_of_tidy n tuple i t w h = set_fresh t (λ v. op.GetField v n tuple i) w.found w (λ v. h.it) (λ v. refl) (same_found w.found) (λ a k v j. (refl, j))

  pub variable_of_tidy : {s : List ℕ} (x : COperand) (t : LlType) (w : Writing) → IsSet x s → Tidy f s (Var (variable_of x t w.body).0 ∷ []) w (writing w.found (variable_of x t w.body).1)
  unfolding variable_of
  variable_of_tidy (Var v) t w h = still (Var v ∷ []) (h, tt)
  variable_of_tidy (Const k) t w h = set_fresh t (λ v. op.Set v (Const k)) w.found w (λ v. h.it) (λ v. refl) (same_found w.found) (λ a i v j. (refl, j))

  or_word_tidy : {s : List ℕ} (any same : COperand) (w : Writing) → IsSet any s → IsSet same s → Tidy f s ((or_word any same w.body).0 ∷ []) w (writing w.found (or_word any same w.body).1)
  or_word_tidy any same w h k = then_tidy (unary_in_tidy unary.B2S type.Signed same w k) (λ t m a. binary_in_tidy binary.Or type.Signed any _ _ (more m h) a.0)

module _ {f : Setup} (c : Stands f) where
  -- ---- equality

  texts_equal_tidy : {s : List ℕ} (layout : Layout) (x : COperand) (p : LlType) (y : COperand) (q : LlType) (w : Writing) → IsSet x s → IsSet y s → Tidy f s ((texts_equal layout x p y q w).0 ∷ []) w (texts_equal layout x p y q w).1
  unfolding texts_equal
  texts_equal_tidy layout x p y q w h k =
      then_tidy (value_as_tidy c layout x p (type.Ptr 0) w h) (λ t m a.
      then_tidy (value_as_tidy c layout y q (type.Ptr 0) (value_as layout x p (type.Ptr 0) w).1 (more m k)) (λ u n b.
      helped_tidy c helper.StrEqual type.Bool _ _ refl (more n a.0, (b.0, tt))))

  pointers_equal_tidy : {s : List ℕ} (layout : Layout) (x : COperand) (m : ℕ) (y : COperand) (n : ℕ) (w : Writing) → IsSet x s → IsSet y s → Tidy f s ((pointers_equal layout x m y n w).0 ∷ []) w (pointers_equal layout x m y n w).1
  pointers_equal_tidy layout x m y n w h k =
      if_given ((m == 0) && (n == 0)) _ _ (helped_tidy c helper.StrEqual type.Bool (x ∷ y ∷ []) w refl (h, (k, tt)))
      (if_given (is_tuple layout m && is_tuple layout n) _ _ (by_small_tidy c (small.Equal m n) type.Bool (x ∷ y ∷ []) w tt (h, (k, tt))) (flag_tidy false w))

  pub equal_tidy : {s : List ℕ} (layout : Layout) (x : COperand) (p : LlType) (y : COperand) (q : LlType) (w : Writing) → IsSet x s → IsSet y s → Tidy f s ((equal layout x p y q w).0 ∷ []) w (equal layout x p y q w).1
  unfolding equal
  equal_tidy layout x type.Signed y type.Signed w h k = binary_in_tidy binary.Eq type.Bool x y w h k
  equal_tidy layout x type.Bool y type.Bool w h k = binary_in_tidy binary.Beq type.Bool x y w h k
  equal_tidy layout x type.Char y type.Char w h k = of_bytes_tidy binary.Eq x y w h k
  equal_tidy layout x type.Char y (type.Ptr n) w h k = if_given (n == 0) _ _ (texts_equal_tidy layout x type.Char y (type.Ptr n) w h k) (flag_tidy false w)
  equal_tidy layout x (type.Ptr m) y type.Char w h k = if_given (m == 0) _ _ (texts_equal_tidy layout x (type.Ptr m) y type.Char w h k) (flag_tidy false w)
  equal_tidy layout x type.Bool y (type.Ptr n) w h k = is_null_tidy y w k
  equal_tidy layout x (type.Ptr m) y type.Bool w h k = is_null_tidy x w h
  equal_tidy layout x (type.Ptr m) y (type.Ptr n) w h k = pointers_equal_tidy layout x m y n w h k
  equal_tidy layout x p y q w h k = flag_tidy false w

  -- ---- order

  texts_less_by_tidy : {s : List ℕ} (o : CmpOp) (x : COperand) (y : COperand × Writing) → IsSet x s → IsSet y.0 s → Tidy f s ((texts_less_by o x y).0 ∷ []) y.1 (texts_less_by o x y).1
  texts_less_by_tidy compared.Lt x y h k = opposite_of_tidy false _ (helped_tidy c helper.StrLess type.Bool (x ∷ y.0 ∷ []) y.1 refl (h, (k, tt)))
  texts_less_by_tidy compared.Le x y h k = opposite_of_tidy true _ (helped_tidy c helper.StrLess type.Bool (y.0 ∷ x ∷ []) y.1 refl (k, (h, tt)))
  texts_less_by_tidy compared.Gt x y h k = opposite_of_tidy false _ (helped_tidy c helper.StrLess type.Bool (y.0 ∷ x ∷ []) y.1 refl (k, (h, tt)))
  texts_less_by_tidy o x y h k = opposite_of_tidy true _ (helped_tidy c helper.StrLess type.Bool (x ∷ y.0 ∷ []) y.1 refl (h, (k, tt)))

  texts_less_tidy : {s : List ℕ} (o : CmpOp) (a b : Operand) (w : Writing) → IsSet a.x s → IsSet b.x s → Tidy f s ((texts_less f.world.around o a b w).0 ∷ []) w (texts_less f.world.around o a b w).1
  texts_less_tidy o a b w h k =
      then_tidy (given_tidy c a (type.Ptr 0) w h) (λ t m i.
      then_tidy (given_tidy c b (type.Ptr 0) (given f.world.around a (type.Ptr 0) w).1 (more m k)) (λ u n j.
      texts_less_by_tidy o _ _ (more n i.0) j.0))

  ordered_by_tidy : {s : List ℕ} (p q : Kind) (o : CmpOp) (a b : Operand) (w : Writing) → IsSet a.x s → IsSet b.x s → Tidy f s ((ordered_by p q f.world.around o a b w).0 ∷ []) w (ordered_by p q f.world.around o a b w).1
  ordered_by_tidy kind.Word kind.Word o a b w h k = binary_in_tidy (of_words o) type.Bool a.x b.x w h k
  ordered_by_tidy kind.Byte kind.Byte o a b w h k = of_bytes_tidy (of_words o) a.x b.x w h k
  ordered_by_tidy p q o a b w h k = if_given (is_text p && is_text q) (texts_less f.world.around o a b w) (flag false, w) (texts_less_tidy o a b w h k) (flag_tidy false w)

  ordered_tidy : {s : List ℕ} (o : CmpOp) (a b : Operand) (w : Writing) → IsSet a.x s → IsSet b.x s → Tidy f s ((ordered f.world.around o a b w).0 ∷ []) w (ordered f.world.around o a b w).1
  unfolding ordered
  ordered_tidy o a b w h k = ordered_by_tidy (kind_of a) (kind_of b) o a b w h k

  -- ---- within

  within_text_tidy : {s : List ℕ} (a b : Operand) (w : Writing) → IsSet a.x s → IsSet b.x s → Tidy f s ((within_text f.world.around a b w).0 ∷ []) w (within_text f.world.around a b w).1
  within_text_tidy a b w h k =
      then_tidy (given_tidy c a (type.Ptr 0) w h) (λ t m i.
      then_tidy (given_tidy c b (type.Ptr 0) (given f.world.around a (type.Ptr 0) w).1 (more m k)) (λ u n j.
      helped_tidy c helper.StrContains type.Bool _ _ refl (more n i.0, (j.0, tt))))

  -- one field more
  field_equal_tidy : {s : List ℕ} (layout : Layout) (n tuple : ℕ) (x : COperand) (p : LlType) (i : ℕ) (q : LlType) (any : COperand × Writing) → IsSet x s → IsSet (Var tuple) s → IsSet any.0 s
      → Tidy f s ((joined any.0 (field_equal layout x p q any.1.found (field_of n tuple i q any.1.body))).0 ∷ []) any.1 (joined any.0 (field_equal layout x p q any.1.found (field_of n tuple i q any.1.body))).1
  field_equal_tidy layout n tuple x p i q any h k g =
      then_tidy (field_of_tidy n tuple i q any.1 k) (λ t m a.
      then_tidy (equal_tidy layout _ q x p (writing any.1.found (field_of n tuple i q any.1.body).1) a.0 (more m h)) (λ u r b.
      or_word_tidy any.0 _ _ (more (wider m r) g) b.0))

  any_equal_tidy : {s : List ℕ} {w : Writing} (layout : Layout) (n tuple : ℕ) (x : COperand) (p : LlType) (i : ℕ) (ts : List LlType) (any : COperand × Writing) → IsSet x s → IsSet (Var tuple) s → Tidy f s (any.0 ∷ []) w any.1
      → Tidy f s ((any_equal layout n tuple x p i ts any).0 ∷ []) w (any_equal layout n tuple x p i ts any).1
  any_equal_tidy layout n tuple x p i [] any h k one = one
  any_equal_tidy layout n tuple x p i (q ∷ ts) any h k one =
      any_equal_tidy layout n tuple x p (i + 1) ts (joined any.0 (field_equal layout x p q any.1.found (field_of n tuple i q any.1.body))) h k (then_tidy one (λ t m a. field_equal_tidy layout n tuple x p i q any (more m h) (more m k) a.0))

  within_tuple_tidy : {s : List ℕ} (a : Operand) (b : COperand) (n : ℕ) (w : Writing) → IsSet a.x s → IsSet b s → Tidy f s ((within_tuple f.world.around a b n w).0 ∷ []) w (within_tuple f.world.around a b n w).1
  within_tuple_tidy a b n w h k =
      then_tidy (variable_of_tidy b (type.Ptr n) w k) (λ t m i.
      then_tidy (any_equal_tidy f.world.around.layout n (variable_of b (type.Ptr n) w.body).0 a.x (type_of f.world.around a) 0 (fields_of f.world.around n) (zero_word, writing w.found (variable_of b (type.Ptr n) w.body).1) (more m h) i.0 (still (zero_word ∷ []) (held (constant.Word (pos 0)) t, tt)))
      (λ u r j. binary_in_tidy binary.Ne type.Bool _ zero_word _ j.0 (held (constant.Word (pos 0)) u)))

  within_of_tidy : {s : List ℕ} (t : LlType) (a b : Operand) (w : Writing) → IsSet a.x s → IsSet b.x s → Tidy f s ((within_of t f.world.around a b w).0 ∷ []) w (within_of t f.world.around a b w).1
  within_of_tidy (type.Ptr n) a b w h k = within_tuple_tidy a b.x n w h k
  within_of_tidy t a b w h k = flag_tidy false w

  within_by_tidy : {s : List ℕ} (p q : Kind) (a b : Operand) (w : Writing) → IsSet a.x s → IsSet b.x s → Tidy f s ((within_by p q f.world.around a b w).0 ∷ []) w (within_by p q f.world.around a b w).1
  within_by_tidy kind.Byte kind.Byte a b w h k = of_bytes_tidy binary.Eq a.x b.x w h k
  within_by_tidy p kind.Tuple a b w h k = within_of_tidy (type_of f.world.around b) a b w h k
  within_by_tidy p q a b w h k = if_given (is_text p && is_text_or_none q) (within_text f.world.around a b w) (flag false, w) (within_text_tidy a b w h k) (flag_tidy false w)

  within_tidy : {s : List ℕ} (a b : Operand) (w : Writing) → IsSet a.x s → IsSet b.x s → Tidy f s ((within f.world.around a b w).0 ∷ []) w (within f.world.around a b w).1
  unfolding within
  within_tidy a b w h k = within_by_tidy (kind_of a) (kind_of b) a b w h k

  pub compare_tidy : {s : List ℕ} (o : CmpOp) (a b : Operand) (w : Writing) → IsSet a.x s → IsSet b.x s → Tidy f s ((compare f.world.around o a b w).0 ∷ []) w (compare f.world.around o a b w).1
  unfolding compare
  compare_tidy compared.Eq a b w h k = opposite_of_tidy false _ (equal_tidy f.world.around.layout a.x (type_of f.world.around a) b.x (type_of f.world.around b) w h k)
  compare_tidy compared.Ne a b w h k = opposite_of_tidy true _ (equal_tidy f.world.around.layout a.x (type_of f.world.around a) b.x (type_of f.world.around b) w h k)
  compare_tidy compared.Is a b w h k = opposite_of_tidy false _ (identical_tidy a b w h k)
  compare_tidy compared.IsNot a b w h k = opposite_of_tidy true _ (identical_tidy a b w h k)
  compare_tidy compared.Within a b w h k = opposite_of_tidy false _ (within_tidy a b w h k)
  compare_tidy compared.NotWithin a b w h k = opposite_of_tidy true _ (within_tidy a b w h k)
  compare_tidy o a b w h k = ordered_tidy o a b w h k
