-- Indices, lengths and walks.
use Rattle.std.specs.Prelude.{◌&&◌, if◌then◌else◌, Option, Some, None, ℤ, pos}
use Rattle.csub_tree.specs.declared.tree.CBinary.TheVariants as binary
use Rattle.ll_code.specs.declared.program.LlType.TheVariants as type
use Rattle.ll_build.specs.declared.needs.Helper.TheVariants as helper
use Rattle.rtyper_layout.specs.declared.kind.Kind.{Kind}
use Rattle.rtyper_layout.specs.declared.kind.Kind.TheVariants as kind
use Rattle.rtyper_layout.specs.Kinds.{is_text_or_none}
use Rattle.rtyper_data.specs.Converting.{give, give_nothing}
use Rattle.rtyper_data.specs.Numbers.{word, give_binary, range_has, range_advance}
use Rattle.rtyper_data.specs.Seen.{Around, Operand, Place, kind_of, Writing, writing}
use Rattle.rtyper_op.specs.Texts.{text_type, of_text, of_texts, of_text_and_word}
use Rattle.rtyper_data.specs.Tuples.{item_of, length_of, place_of}

abbrev pub says_nothing : Around → Place → Writing → Writing
says_nothing around place w = writing w.found (give_nothing around place w.body)

abbrev pub index_by : Kind → Option ℤ → Around → Place → Operand → Operand → Writing → Writing
index_by kind.Tuple (Some i) around place a b w = item_of around place a (place_of i (length_of around a)) w
index_by k literal around place a b w = if is_text_or_none k then of_text_and_word around place helper.StrIndex type.Char a b w else w

-- the item at an index, with the literal that the index is
unfoldable pub index : Around → Place → Option ℤ → Operand → Operand → Writing → Writing
index around place literal a b w = index_by (kind_of a) literal around place a b w

abbrev pub len_by : Kind → Around → Place → Operand → Writing → Writing
len_by kind.Tuple around place a w = give around place (word (pos (length_of around a))) type.Signed w
len_by k around place a w = if is_text_or_none k then of_text around place helper.StrLen type.Signed a w else w

unfoldable pub len : Around → Place → Operand → Writing → Writing
len around place a w = len_by (kind_of a) around place a w

abbrev pub walk_by : Kind → Around → Place → Operand → Writing → Writing
walk_by kind.Byte around place a w = give around place a.x type.Char w
walk_by k around place a w = if is_text_or_none k then of_text around place helper.StrWalk text_type a w else says_nothing around place w

-- what a `for` walks: a string of length one is there, and stays what it is
unfoldable pub walk : Around → Place → Operand → Writing → Writing
walk around place a w = walk_by (kind_of a) around place a w

-- whether an item is there
unfoldable pub has_item : Around → Place → Option ℤ → Operand → Operand → Writing → Writing
has_item around place (Some step) a b w = range_has around place step a.x b.x w
has_item around place None a b w = if is_text_or_none (kind_of a) then of_text_and_word around place helper.StrHasItem type.Bool a b w else says_nothing around place w

-- the item that is there
unfoldable pub walk_item : Around → Place → Option ℤ → Operand → Operand → Writing → Writing
walk_item around place (Some step) a b w = give around place b.x type.Signed w
walk_item around place None a b w = if is_text_or_none (kind_of a) then of_text_and_word around place helper.StrItem type.Char a b w else says_nothing around place w

-- the next place of a walk
unfoldable pub advance : Around → Place → Option ℤ → Operand → Operand → Writing → Writing
advance around place (Some step) a b w = range_advance around place step a.x b.x w
advance around place None a b w = give_binary around place binary.Add type.Signed b.x (word (pos 1)) w

abbrev pub sum_by : Kind → Kind → Around → Place → Operand → Operand → Writing → Writing
sum_by kind.Word kind.Word around place a b w = give_binary around place binary.Add type.Signed a.x b.x w
sum_by s t around place a b w = if is_text_or_none s && is_text_or_none t then of_texts around place helper.StrAdd text_type a b w else w

-- the sum of words, or of strings
unfoldable pub sum : Around → Place → Operand → Operand → Writing → Writing
sum around place a b w = sum_by (kind_of a) (kind_of b) around place a b w

abbrev pub product_by : Kind → Around → Place → Operand → Operand → Writing → Writing
product_by kind.Word around place a b w = give_binary around place binary.Mul type.Signed a.x b.x w
product_by s around place a b w = if is_text_or_none s then of_text_and_word around place helper.StrMul text_type a b w else w

unfoldable pub product : Around → Place → Operand → Operand → Writing → Writing
product around place a b w = product_by (kind_of a) around place a b w
