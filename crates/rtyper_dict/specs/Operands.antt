-- Operands that are dicts, keys and values, and how graphs of dicts are called.
use Rattle.std.specs.Prelude.{ℕ, Bool, true, false, ◌||◌, List, [], ◌∷◌, Option, Some, None}
use Rattle.csub_tree.specs.declared.tree.COperand.{COperand}
use Rattle.ll_code.specs.declared.program.LlType.{LlType}
use Rattle.ll_code.specs.declared.program.LlType.TheVariants.{Signed, Ptr}
use Rattle.ll_code.specs.declared.program.LlOp.TheVariants.{Call}
use Rattle.rtyper_layout.specs.declared.dicts.Mapping.{Mapping}
use Rattle.rtyper_layout.specs.declared.kind.Kind.{Kind}
use Rattle.rtyper_layout.specs.declared.kind.Kind.TheVariants as kind
use Rattle.rtyper_layout.specs.declared.layout.Layout.{Layout}
use Rattle.rtyper_layout.specs.Layout.{mapping_at}
use Rattle.rtyper_data.specs.declared.body.Body.{Body}
use Rattle.rtyper_data.specs.declared.found.Found.{Found}
use Rattle.rtyper_data.specs.declared.small.Keyed.{Keyed as Graph}
use Rattle.rtyper_data.specs.declared.small.Small.TheVariants.{Keyed}
use Rattle.rtyper_data.specs.Comparing.{alone}
use Rattle.rtyper_data.specs.Converting.{by_small, given, present}
use Rattle.rtyper_data.specs.Seen.{Around, Operand, Place, type_of, type_at, kind_of, with_op, Writing, writing}
use Rattle.list_shape.specs.Shapes.{taking}
use Rattle.rtyper_dict.specs.declared.parts.DictShape.{DictShape}
use Rattle.rtyper_dict.specs.Parts.{shape_of, keyed_number, stored}

abbrev pub of_dict : Kind → Bool
of_dict kind.Dict = true
of_dict kind.MaybeDict = true
of_dict _ = false

abbrev pub is_dict : Operand → Bool
is_dict a = of_dict (kind_of a)

abbrev pub of_none : Kind → Bool
of_none kind.Nothing = true
of_none _ = false

-- what may be a dict where nothing else is known of it
abbrev pub is_dict_or_none : Operand → Bool
is_dict_or_none a = is_dict a || of_none (kind_of a)

abbrev pub of_dict_or_none : Kind → Bool
of_dict_or_none kind.MaybeDict = true
of_dict_or_none _ = false

-- ---- dicts, keys and values

abbrev pub shape_in : Option Mapping → Option DictShape
shape_in None = None
shape_in (Some m) = Some (shape_of m)

abbrev pub dict_pointed : Layout → LlType → Option DictShape
dict_pointed layout (Ptr n) = shape_in (mapping_at layout.mappings n)
dict_pointed layout other = None

-- the dict of an operand
unfoldable pub dict_of : Around → Operand → Option DictShape
dict_of around a = dict_pointed around.layout (type_of around a)

abbrev pub pointed : LlType → ℕ
pointed (Ptr n) = n
pointed other = 0

-- the struct of the list that a place takes
unfoldable pub list_at : Around → Place → ℕ
list_at around place = pointed (type_at around place)

-- the dict itself; `None` fails
unfoldable pub there : Around → Operand → Writing → COperand × Writing
there around a w = present around a (of_dict_or_none (kind_of a)) w

abbrev pub stored_in : LlType → LlType → COperand × Writing → COperand × Writing
stored_in kind item x = alone x.1.found (stored kind item x.0 x.1.body)

-- a key and a value as they stand in a dict
unfoldable pub key_in : Around → DictShape → Operand → Writing → COperand × Writing
key_in around d b w = stored_in d.key d.stored_key (given around b d.key w)

unfoldable pub value_in : Around → DictShape → Operand → Writing → COperand × Writing
value_in around d c w = stored_in d.value d.stored_value (given around c d.value w)

-- ---- calls of graphs

abbrev pub called_for_nothing : List COperand → ℕ × Found → Body → Writing
called_for_nothing xs number body = writing number.1 (with_op (Call None number.0 xs) body)

-- a graph without a result
unfoldable pub done_by : Graph → List COperand → Writing → Writing
done_by graph xs w = called_for_nothing xs (keyed_number graph w.found) w.body

abbrev pub beside : COperand → COperand × Writing → (COperand × COperand) × Writing
beside x made = ((x, made.0), made.1)

-- the dict, and what a graph gives for it and a key: the place of the entry
unfoldable pub entry_in : Around → DictShape → Operand → Operand → Graph → Writing → (COperand × COperand) × Writing
entry_in around d a b graph w =
    taking (there around a w) (λ x next.
    taking (key_in around d b next) (λ k last. beside x (by_small (Keyed graph) Signed (x ∷ k ∷ []) last)))
