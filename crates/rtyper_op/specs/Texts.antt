-- Operations on strings, and the truth and the text of values.
use Rattle.std.specs.Prelude.{ℕ, ◌&&◌, not, Bool, true, false, if◌then◌else◌, List, [], ◌∷◌, Option, Some, None, pos, codes}
use Rattle.std.specs.Str.{bytes_eq}
use Rattle.csub_tree.specs.declared.tree.CBinary.TheVariants as binary
use Rattle.csub_tree.specs.declared.tree.CUnary.TheVariants as unary
use Rattle.csub_tree.specs.declared.tree.COperand.{COperand}
use Rattle.csub_tree.specs.declared.tree.COperand.TheVariants.{Var}
use Rattle.ll_code.specs.declared.program.LlType.{LlType}
use Rattle.ll_code.specs.declared.program.LlType.TheVariants as type
use Rattle.ll_code.specs.declared.program.LlOp.TheVariants as op
use Rattle.ll_build.specs.declared.needs.Helper.{Helper}
use Rattle.ll_build.specs.declared.needs.Helper.TheVariants as helper
use Rattle.rtyper_layout.specs.declared.kind.Kind.{Kind}
use Rattle.rtyper_layout.specs.declared.kind.Kind.TheVariants as kind
use Rattle.rtyper_layout.specs.Kinds.{is_text, is_text_or_none}
use Rattle.rtyper_data.specs.declared.body.Body.{Body}
use Rattle.rtyper_data.specs.declared.found.Found.{Found}
use Rattle.rtyper_data.specs.declared.small.Small.TheVariants as small
use Rattle.rtyper_data.specs.declared.small.Listed.TheVariants as listed
use Rattle.rtyper_data.specs.declared.small.Keyed.TheVariants as keyed
use Rattle.rtyper_op.specs.declared.text.Test.{Test}
use Rattle.rtyper_op.specs.declared.text.Test.TheVariants.{Known, By}
use Rattle.rtyper_data.specs.Comparing.{flag, binary_in, is_null, is_no_function, opposite_if, alone}
use Rattle.rtyper_data.specs.Converting.{helped, by_small, given, give, give_nothing, give_helped}
use Rattle.rtyper_data.specs.Finding.{helper_number}
use Rattle.rtyper_data.specs.Numbers.{word, give_unary}
use Rattle.rtyper_data.specs.Seen.{Around, Operand, Place, operand_at, type_of, kind_of, with_op, fresh, Writing, writing, push}

abbrev pub text_type : LlType
text_type = type.Ptr 0

-- ---- truth

abbrev pub by : COperand × Writing → Test × Writing
by made = (By made.0, made.1)

-- that a pointer is not NULL
abbrev pub is_there : Found → COperand × Body → Test × Writing
is_there found null = by (alone found (opposite_if true null.0 null.1))

abbrev pub list_truth : LlType → COperand → Writing → Test × Writing
list_truth (type.Ptr n) x w = by (by_small (small.Listed (listed.Truth n)) type.Bool (x ∷ []) w)
list_truth t x w = (Known true, w)

abbrev pub dict_truth : LlType → COperand → Writing → Test × Writing
dict_truth (type.Ptr n) x w = by (by_small (small.Keyed (keyed.Truth n)) type.Bool (x ∷ []) w)
dict_truth t x w = (Known true, w)

abbrev pub truth_by : Kind → Around → Operand → Writing → Test × Writing
truth_by kind.Word around a w = by (alone w.found (binary_in binary.Ne type.Bool a.x (word (pos 0)) w.body))
truth_by kind.Flag around a w = (By a.x, w)
truth_by kind.Nothing around a w = (Known false, w)
truth_by kind.Text around a w = by (helped helper.StrTruth type.Bool (a.x ∷ []) w)
truth_by kind.MaybeText around a w = by (helped helper.StrTruth type.Bool (a.x ∷ []) w)
truth_by kind.MaybeInstance around a w = is_there w.found (is_null a.x w.body)
truth_by kind.MaybeFunction around a w = is_there w.found (is_no_function a.x w.body)
truth_by kind.List around a w = list_truth (type_of around a) a.x w
truth_by kind.MaybeList around a w = list_truth (type_of around a) a.x w
truth_by kind.Dict around a w = dict_truth (type_of around a) a.x w
truth_by kind.MaybeDict around a w = dict_truth (type_of around a) a.x w
truth_by _ around a w = (Known true, w)

-- whether a value counts as true
unfoldable pub truth_of : Around → Operand → Writing → Test × Writing
truth_of around a w = truth_by (kind_of a) around a w

abbrev pub tested_to : Around → Place → Bool → Test → Writing → Writing
tested_to around place reversed (Known b) w = give around place (flag (if reversed then not b else b)) type.Bool w
tested_to around place reversed (By x) w = if reversed then give_unary around place unary.Not type.Bool x w else give around place x type.Bool w

abbrev pub truth_to : Around → Place → Operand → Bool → Writing → Writing
truth_to around place a reversed w = tested_to around place reversed (truth_of around a w).0 (truth_of around a w).1

-- ---- printing

abbrev pub called_by : COperand → ℕ × Found → Body → Writing
called_by x number body = writing number.1 (with_op (op.Call None number.0 (x ∷ [])) body)

abbrev pub printed_by : Helper → COperand → Writing → Writing
printed_by h x w = called_by x (helper_number h w.found) w.body

abbrev pub put_by : Kind → COperand → Writing → Writing
put_by kind.Word x w = printed_by helper.PrintWord x w
put_by kind.Flag x w = printed_by helper.PrintBool x w
put_by kind.Byte x w = writing w.found (with_op (op.Put (Var (fresh type.Signed w.body).0)) (with_op (op.Unary (fresh type.Signed w.body).0 unary.C2S x) (fresh type.Signed w.body).1))
put_by kind.Text x w = printed_by helper.PrintStr x w
put_by _ x w = w

unfoldable pub put : Operand → Writing → Writing
put a w = put_by (kind_of a) a.x w

-- those behind the first, each behind a space
abbrev pub put_more : List Operand → Writing → Writing
put_more [] w = w
put_more (a ∷ args) w = put_more args (put a (push (op.Put (word (pos 32))) w))

abbrev pub put_all : List Operand → Writing → Writing
put_all [] w = w
put_all (a ∷ args) w = put_more args (put a w)

-- the texts of the operands, with spaces between and a newline
abbrev pub print : List Operand → Writing → Writing
print args w = push (op.Put (word (pos 10))) (put_all args w)

-- ---- strings

abbrev pub to_str_by : Kind → Around → Place → Operand → Writing → Writing
to_str_by kind.Word around place a w = give_helped around place helper.StrOfWord text_type (a.x ∷ []) w
to_str_by kind.Flag around place a w = give_helped around place helper.StrOfBool text_type (a.x ∷ []) w
to_str_by kind.Byte around place a w = give around place a.x type.Char w
to_str_by kind.Text around place a w = give around place a.x text_type w
to_str_by _ around place a w = w

unfoldable pub to_str : Around → Place → Operand → Writing → Writing
to_str around place a w = to_str_by (kind_of a) around place a w

-- a helper of a string, or `None`
unfoldable pub of_text : Around → Place → Helper → LlType → Operand → Writing → Writing
of_text around place h gives a w = one (given around a text_type w)
  where
    one : COperand × Writing → Writing
    one x = give_helped around place h gives (x.0 ∷ []) x.1

-- of two strings
unfoldable pub of_texts : Around → Place → Helper → LlType → Operand → Operand → Writing → Writing
of_texts around place h gives a b w = one (given around a text_type w)
  where
    two : COperand → COperand × Writing → Writing
    two x y = give_helped around place h gives (x ∷ y.0 ∷ []) y.1

    one : COperand × Writing → Writing
    one x = two x.0 (given around b text_type x.1)

-- of a string and a word
unfoldable pub of_text_and_word : Around → Place → Helper → LlType → Operand → Operand → Writing → Writing
of_text_and_word around place h gives a b w = one (given around a text_type w)
  where
    one : COperand × Writing → Writing
    one x = give_helped around place h gives (x.0 ∷ b.x ∷ []) x.1

-- ---- slices

-- an absent lower bound is the start, an absent upper one the end of any string
abbrev pub lower : Bool → List Operand → COperand
lower true args = (operand_at args 1).x
lower false args = word (pos 0)

abbrev pub upper : Bool → Bool → List Operand → COperand
upper low false args = word (pos 9223372036854775807)
upper false true args = (operand_at args 1).x
upper true true args = (operand_at args 2).x

abbrev pub slice : Around → Place → Bool → Bool → List Operand → Writing → Writing
slice around place low high args w = if is_text_or_none (kind_of (operand_at args 0)) then one (given around (operand_at args 0) text_type w) else w
  where
    one : COperand × Writing → Writing
    one x = give_helped around place helper.StrSlice text_type (x.0 ∷ lower low args ∷ upper low high args ∷ []) x.1

-- ---- methods

-- what a method of one byte asks
unfoldable pub of_byte : List ℕ → Option Helper
of_byte name =
    if bytes_eq name (codes "isdigit") then Some helper.IsDigit
    else if bytes_eq name (codes "isalpha") then Some helper.IsAlpha
    else if bytes_eq name (codes "isspace") then Some helper.IsSpace
    else None

unfoldable pub of_two : List ℕ → Option (Helper × LlType)
of_two name =
    if bytes_eq name (codes "find") then Some (helper.StrFind, type.Signed)
    else if bytes_eq name (codes "startswith") then Some (helper.StrStartsWith, type.Bool)
    else if bytes_eq name (codes "endswith") then Some (helper.StrEndsWith, type.Bool)
    else None

-- a method of one byte, if it is one
abbrev pub byte_method_by : Option Helper → Kind → Around → Place → Operand → Writing → Bool × Writing
byte_method_by (Some h) kind.Byte around place a w = (true, give_helped around place h type.Bool (a.x ∷ []) w)
byte_method_by h k around place a w = (false, w)

unfoldable pub byte_method : Around → Place → List ℕ → Operand → Writing → Bool × Writing
byte_method around place name a w = byte_method_by (of_byte name) (kind_of a) around place a w

abbrev pub text_method_by : Option (Helper × LlType) → Bool → Around → Place → Operand → Operand → Writing → Writing
text_method_by (Some h) true around place a b w = of_texts around place h.0 h.1 a b w
text_method_by h are_texts around place a b w = w

-- a method of a string and another
abbrev pub text_method : Around → Place → List ℕ → Operand → Operand → Writing → Writing
text_method around place name a b w = text_method_by (of_two name) (is_text_or_none (kind_of a) && is_text (kind_of b)) around place a b w

abbrev pub strip : Around → Place → List ℕ → Operand → Writing → Writing
strip around place name a w = if bytes_eq name (codes "strip") && is_text_or_none (kind_of a) then of_text around place helper.StrStrip text_type a w else w

abbrev pub strip_unless : Bool → Around → Place → List ℕ → Operand → Writing → Writing
strip_unless true around place name a w = w
strip_unless false around place name a w = strip around place name a w

abbrev pub method_of_one : Around → Place → List ℕ → Operand → Bool × Writing → Writing
method_of_one around place name a made = strip_unless made.0 around place name a made.1

abbrev pub method : Around → Place → List ℕ → List Operand → Writing → Writing
method around place name (a ∷ []) w = method_of_one around place name a (byte_method around place name a w)
method around place name (a ∷ b ∷ []) w = text_method around place name a b w
method around place name args w = w

-- `os.write(1, s)`
abbrev pub write : Around → Place → Operand → Writing → Writing
write around place a w = if is_text (kind_of a) then of_text around place helper.StrWrite type.Signed a w else writing w.found (give_nothing around place w.body)
