-- Comparisons.
use Rattle.std.specs.Prelude.{ℕ, ◌==◌, ◌&&◌, ◌+◌, Bool, true, false, if◌then◌else◌, List, [], ◌∷◌, pos}
use Rattle.csub_tree.specs.declared.tree.CBinary.{CBinary}
use Rattle.csub_tree.specs.declared.tree.CBinary.TheVariants as binary
use Rattle.csub_tree.specs.declared.tree.CUnary.{CUnary}
use Rattle.csub_tree.specs.declared.tree.CUnary.TheVariants as unary
use Rattle.csub_tree.specs.declared.tree.CConst.TheVariants as constant
use Rattle.csub_tree.specs.declared.tree.COperand.{COperand}
use Rattle.csub_tree.specs.declared.tree.COperand.TheVariants.{Var, Const}
use Rattle.ll_code.specs.declared.program.LlType.{LlType}
use Rattle.ll_code.specs.declared.program.LlType.TheVariants as type
use Rattle.ll_code.specs.declared.program.LlOp.TheVariants as op
use Rattle.ll_build.specs.declared.needs.Helper.TheVariants as helper
use Rattle.rpy_tree.specs.declared.syntax.CmpOp.{CmpOp}
use Rattle.rpy_tree.specs.declared.syntax.CmpOp.TheVariants as compared
use Rattle.rtyper_layout.specs.declared.kind.Kind.{Kind}
use Rattle.rtyper_layout.specs.declared.kind.Kind.TheVariants as kind
use Rattle.rtyper_layout.specs.declared.layout.Layout.{Layout}
use Rattle.rtyper_layout.specs.Kinds.{is_text, is_text_or_none}
use Rattle.rtyper_layout.specs.Layout.{is_tuple}
use Rattle.rtyper_data.specs.declared.body.Body.{Body}
use Rattle.rtyper_data.specs.declared.found.Found.{Found}
use Rattle.rtyper_data.specs.declared.small.Small.TheVariants as small
use Rattle.rtyper_data.specs.Converting.{helped, by_small, value_as, given}
use Rattle.rtyper_data.specs.Seen.{Around, Operand, type_of, kind_of, with_op, fresh, Writing, writing}
use Rattle.rtyper_data.specs.Tuples.{variable_of, fields_of}

abbrev pub flag : Bool → COperand
flag b = Const (constant.Bool b)

abbrev pub null : COperand
null = Const constant.Null

abbrev pub zero_word : COperand
zero_word = Const (constant.Word (pos 0))

-- ---- results with variables of their own

abbrev pub binary_in : CBinary → LlType → COperand → COperand → Body → COperand × Body
binary_in o gives x y body = (Var (fresh gives body).0, with_op (op.Binary (fresh gives body).0 o x y) (fresh gives body).1)

abbrev pub unary_in : CUnary → LlType → COperand → Body → COperand × Body
unary_in o gives x body = (Var (fresh gives body).0, with_op (op.Unary (fresh gives body).0 o x) (fresh gives body).1)

unfoldable pub opposite_if : Bool → COperand → Body → COperand × Body
opposite_if reversed x body = if reversed then unary_in unary.Not type.Bool x body else (x, body)

-- of the numbers of two bytes
abbrev pub of_bytes : CBinary → COperand → COperand → Body → COperand × Body
of_bytes o x y body = second (unary_in unary.C2S type.Signed x body)
  where
    last : COperand → COperand × Body → COperand × Body
    last a b = binary_in o type.Bool a b.0 b.1

    second : COperand × Body → COperand × Body
    second a = last a.0 (unary_in unary.C2S type.Signed y a.1)

abbrev pub is_null : COperand → Body → COperand × Body
is_null x body = binary_in binary.Peq type.Bool x null body

abbrev pub is_no_function : COperand → Body → COperand × Body
is_no_function x body = binary_in binary.Feq type.Bool x null body

-- what asks for nothing
abbrev pub alone : Found → COperand × Body → COperand × Writing
alone found made = (made.0, writing found made.1)

-- ---- equality

unfoldable pub texts_equal : Layout → COperand → LlType → COperand → LlType → Writing → COperand × Writing
texts_equal layout x s y t w = second (value_as layout x s (type.Ptr 0) w)
  where
    last : COperand → COperand × Writing → COperand × Writing
    last a b = helped helper.StrEqual type.Bool (a ∷ b.0 ∷ []) b.1

    second : COperand × Writing → COperand × Writing
    second a = last a.0 (value_as layout y t (type.Ptr 0) a.1)

abbrev pub pointers_equal : Layout → COperand → ℕ → COperand → ℕ → Writing → COperand × Writing
pointers_equal layout x m y n w =
    if (m == 0) && (n == 0) then helped helper.StrEqual type.Bool (x ∷ y ∷ []) w
    else if is_tuple layout m && is_tuple layout n then by_small (small.Equal m n) type.Bool (x ∷ y ∷ []) w
    else (flag false, w)

-- whether two values of these types are equal; `None` alone is a truth value
unfoldable pub equal : Layout → COperand → LlType → COperand → LlType → Writing → COperand × Writing
equal layout x type.Signed y type.Signed w = alone w.found (binary_in binary.Eq type.Bool x y w.body)
equal layout x type.Bool y type.Bool w = alone w.found (binary_in binary.Beq type.Bool x y w.body)
equal layout x type.Char y type.Char w = alone w.found (of_bytes binary.Eq x y w.body)
equal layout x type.Char y (type.Ptr n) w = if n == 0 then texts_equal layout x type.Char y (type.Ptr n) w else (flag false, w)
equal layout x (type.Ptr m) y type.Char w = if m == 0 then texts_equal layout x (type.Ptr m) y type.Char w else (flag false, w)
equal layout x type.Bool y (type.Ptr n) w = alone w.found (is_null y w.body)
equal layout x (type.Ptr m) y type.Bool w = alone w.found (is_null x w.body)
equal layout x (type.Ptr m) y (type.Ptr n) w = pointers_equal layout x m y n w
equal layout x s y t w = (flag false, w)

-- ---- identity

abbrev pub beside_none_of : LlType → COperand → Body → COperand × Body
beside_none_of (type.Ptr n) x body = is_null x body
beside_none_of type.Fn x body = is_no_function x body
beside_none_of t x body = (flag false, body)

-- a value beside `None`
abbrev pub beside_none : Around → Operand → Body → COperand × Body
beside_none around a body = beside_none_of (type_of around a) a.x body

-- two lists, or two dicts, of different types are the same where both are `None`
abbrev pub both_null : COperand → COperand → Body → COperand × Body
both_null x y body = second (is_null x body)
  where
    fifth : COperand × Body → COperand × Body
    fifth all = binary_in binary.Ne type.Bool all.0 zero_word all.1

    fourth : COperand → COperand × Body → COperand × Body
    fourth a b = fifth (binary_in binary.And type.Signed a b.0 b.1)

    third : COperand → COperand × Body → COperand × Body
    third b a = fourth a.0 (unary_in unary.B2S type.Signed b a.1)

    next : COperand → COperand × Body → COperand × Body
    next a b = third b.0 (unary_in unary.B2S type.Signed a b.1)

    second : COperand × Body → COperand × Body
    second a = next a.0 (is_null y a.1)

abbrev pub same_pointer_of : LlType → LlType → COperand → COperand → Body → COperand × Body
same_pointer_of (type.Ptr m) (type.Ptr n) x y body = if m == n then binary_in binary.Peq type.Bool x y body else both_null x y body
same_pointer_of s t x y body = (flag false, body)

-- two instances of one family, two lists or two dicts
abbrev pub same_pointer : Around → Operand → Operand → Body → COperand × Body
same_pointer around a b body = same_pointer_of (type_of around a) (type_of around b) a.x b.x body

abbrev pub identical_by : Kind → Kind → Around → Operand → Operand → Body → COperand × Body
identical_by kind.Nothing kind.Nothing around a b body = (flag true, body)
identical_by kind.Nothing t around a b body = beside_none around b body
identical_by s kind.Nothing around a b body = beside_none around a body
identical_by s t around a b body = same_pointer around a b body

unfoldable pub identical : Around → Operand → Operand → Body → COperand × Body
identical around a b body = identical_by (kind_of a) (kind_of b) around a b body

-- ---- order

abbrev pub of_words : CmpOp → CBinary
of_words compared.Lt = binary.Lt
of_words compared.Le = binary.Le
of_words compared.Gt = binary.Gt
of_words compared.Ge = binary.Ge
of_words compared.Ne = binary.Ne
of_words other = binary.Eq

abbrev pub opposite_of : Bool → COperand × Writing → COperand × Writing
opposite_of reversed made = alone made.1.found (opposite_if reversed made.0 made.1.body)

-- the first string is less, by one helper: the other orders turn its operands or its answer around
abbrev pub texts_less_by : CmpOp → COperand → COperand × Writing → COperand × Writing
texts_less_by compared.Lt x y = opposite_of false (helped helper.StrLess type.Bool (x ∷ y.0 ∷ []) y.1)
texts_less_by compared.Le x y = opposite_of true (helped helper.StrLess type.Bool (y.0 ∷ x ∷ []) y.1)
texts_less_by compared.Gt x y = opposite_of false (helped helper.StrLess type.Bool (y.0 ∷ x ∷ []) y.1)
texts_less_by other x y = opposite_of true (helped helper.StrLess type.Bool (x ∷ y.0 ∷ []) y.1)

abbrev pub texts_less : Around → CmpOp → Operand → Operand → Writing → COperand × Writing
texts_less around o a b w = second (given around a (type.Ptr 0) w)
  where
    second : COperand × Writing → COperand × Writing
    second x = texts_less_by o x.0 (given around b (type.Ptr 0) x.1)

abbrev pub ordered_by : Kind → Kind → Around → CmpOp → Operand → Operand → Writing → COperand × Writing
ordered_by kind.Word kind.Word around o a b w = alone w.found (binary_in (of_words o) type.Bool a.x b.x w.body)
ordered_by kind.Byte kind.Byte around o a b w = alone w.found (of_bytes (of_words o) a.x b.x w.body)
ordered_by s t around o a b w = if is_text s && is_text t then texts_less around o a b w else (flag false, w)

unfoldable pub ordered : Around → CmpOp → Operand → Operand → Writing → COperand × Writing
ordered around o a b w = ordered_by (kind_of a) (kind_of b) around o a b w

-- ---- within

abbrev pub within_text : Around → Operand → Operand → Writing → COperand × Writing
within_text around a b w = second (given around a (type.Ptr 0) w)
  where
    last : COperand → COperand × Writing → COperand × Writing
    last part text = helped helper.StrContains type.Bool (part ∷ text.0 ∷ []) text.1

    second : COperand × Writing → COperand × Writing
    second part = last part.0 (given around b (type.Ptr 0) part.1)

-- the field of a tuple at a place
abbrev pub field_of : ℕ → ℕ → ℕ → LlType → Body → COperand × Body
field_of n tuple i t body = (Var (fresh t body).0, with_op (op.GetField (fresh t body).0 n tuple i) (fresh t body).1)

-- a word that is not zero where the word is not, or the truth value holds
abbrev pub or_word : COperand → COperand → Body → COperand × Body
or_word any same body = joined (unary_in unary.B2S type.Signed same body)
  where
    joined : COperand × Body → COperand × Body
    joined word = binary_in binary.Or type.Signed any word.0 word.1

abbrev pub joined : COperand → COperand × Writing → COperand × Writing
joined any same = alone same.1.found (or_word any same.0 same.1.body)

abbrev pub field_equal : Layout → COperand → LlType → LlType → Found → COperand × Body → COperand × Writing
field_equal layout x s t found field = equal layout field.0 t x s (writing found field.1)

-- the fields of a tuple from a place on: whether any before, or one of these, is equal to the value
abbrev pub any_equal : Layout → ℕ → ℕ → COperand → LlType → ℕ → List LlType → COperand × Writing → COperand × Writing
any_equal layout n tuple x s i [] any = any
any_equal layout n tuple x s i (t ∷ ts) any = any_equal layout n tuple x s (i + 1) ts (joined any.0 (field_equal layout x s t any.1.found (field_of n tuple i t any.1.body)))

abbrev pub not_zero : COperand × Writing → COperand × Writing
not_zero made = alone made.1.found (binary_in binary.Ne type.Bool made.0 zero_word made.1.body)

-- whether one of the items of a tuple is equal to the value
abbrev pub within_tuple : Around → Operand → COperand → ℕ → Writing → COperand × Writing
within_tuple around a b n w = in_fields (variable_of b (type.Ptr n) w.body)
  where
    in_fields : ℕ × Body → COperand × Writing
    in_fields tuple = not_zero (any_equal around.layout n tuple.0 a.x (type_of around a) 0 (fields_of around n) (zero_word, writing w.found tuple.1))

abbrev pub within_of : LlType → Around → Operand → Operand → Writing → COperand × Writing
within_of (type.Ptr n) around a b w = within_tuple around a b.x n w
within_of t around a b w = (flag false, w)

abbrev pub within_by : Kind → Kind → Around → Operand → Operand → Writing → COperand × Writing
within_by kind.Byte kind.Byte around a b w = alone w.found (of_bytes binary.Eq a.x b.x w.body)
within_by s kind.Tuple around a b w = within_of (type_of around b) around a b w
within_by s t around a b w = if is_text s && is_text_or_none t then within_text around a b w else (flag false, w)

unfoldable pub within : Around → Operand → Operand → Writing → COperand × Writing
within around a b w = within_by (kind_of a) (kind_of b) around a b w

-- the truth value that a comparison gives
unfoldable pub compare : Around → CmpOp → Operand → Operand → Writing → COperand × Writing
compare around compared.Eq a b w = opposite_of false (equal around.layout a.x (type_of around a) b.x (type_of around b) w)
compare around compared.Ne a b w = opposite_of true (equal around.layout a.x (type_of around a) b.x (type_of around b) w)
compare around compared.Is a b w = opposite_of false (alone w.found (identical around a b w.body))
compare around compared.IsNot a b w = opposite_of true (alone w.found (identical around a b w.body))
compare around compared.Within a b w = opposite_of false (within around a b w)
compare around compared.NotWithin a b w = opposite_of true (within around a b w)
compare around o a b w = ordered around o a b w
