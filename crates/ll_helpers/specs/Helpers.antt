-- The helpers of a program.
use Rattle.std.specs.Prelude.{ℕ, cond, List, [], ◌∷◌, ◌++◌, length, map, Some, None}
use Rattle.ll_code.specs.declared.program.LlStage.TheVariants.{Raw}
use Rattle.ll_code.specs.declared.program.LlType.TheVariants.{Signed, Ptr}
use Rattle.ll_code.specs.declared.program.LlStruct.{LlStruct}
use Rattle.csub_tree.specs.declared.tree.CStatic.{CStatic}
use Rattle.ll_code.specs.declared.program.LlGraph.{LlGraph}
use Rattle.ll_code.specs.declared.program.LlProgram.{LlProgram}
use Rattle.ll_helpers.specs.Loops.{alike_bytes, copy_bytes, count_digits, find_bytes, less_bytes, put_bytes, repeat_bytes, skip_backwards, skip_forwards, write_digits}
use Rattle.ll_build.specs.Needs.{all_shared, is_used, numbers_of, uses_texts}
use Rattle.ll_helpers.specs.Print.{print_word, print_bool, print_digits}
use Rattle.ll_helpers.specs.Statics.{texts}
use Rattle.ll_helpers.specs.StringsAsk.{print_str, str_contains, str_ends_with, str_equal, str_find, str_has_item, str_index, str_item, str_len, str_less, str_starts_with, str_truth, str_walk, str_write}
use Rattle.ll_helpers.specs.StringsMake.{str_add, str_but_last, str_mul, str_of_bool, str_of_char, str_of_word, str_slice, str_strip, string_part}
use Rattle.ll_helpers.specs.Words.{is_alpha, is_digit, is_space, range_down, range_up, word_chr, word_div, word_max, word_min, word_mod, word_shl, word_shr}
use Rattle.ll_build.specs.declared.needs.Helper.{Helper}
use Rattle.ll_build.specs.declared.needs.Helper.TheVariants.{PrintWord, PrintBool, WordDiv, WordMod, WordShl, WordShr, WordChr, WordMin, WordMax, RangeUp, RangeDown, IsDigit, IsAlpha, IsSpace, PrintStr, StrWrite, StrOfChar, StrOfWord, StrOfBool, StrAdd, StrMul, StrIndex, StrSlice, StrButLast, StrLen, StrTruth, StrEqual, StrLess, StrContains, StrFind, StrStartsWith, StrEndsWith, StrStrip, StrWalk, StrHasItem, StrItem}
use Rattle.ll_build.specs.declared.needs.Need.{Need}
use Rattle.ll_build.specs.declared.needs.Numbers.{Numbers}
use Rattle.ll_build.specs.declared.needs.Shared.{Shared}
use Rattle.ll_build.specs.declared.needs.Shared.TheVariants as shared

-- the graph of a helper, where the graphs that it calls have these numbers
abbrev pub graph_for : Numbers → Helper → LlGraph
graph_for numbers PrintWord = print_word numbers.print_digits
graph_for numbers PrintBool = print_bool
graph_for numbers WordDiv = word_div
graph_for numbers WordMod = word_mod
graph_for numbers WordShl = word_shl
graph_for numbers WordShr = word_shr
graph_for numbers WordChr = word_chr
graph_for numbers WordMin = word_min
graph_for numbers WordMax = word_max
graph_for numbers RangeUp = range_up
graph_for numbers RangeDown = range_down
graph_for numbers IsDigit = is_digit
graph_for numbers IsAlpha = is_alpha
graph_for numbers IsSpace = is_space
graph_for numbers PrintStr = print_str numbers.put_bytes
graph_for numbers StrWrite = str_write numbers.put_bytes
graph_for numbers StrOfChar = str_of_char numbers.table
graph_for numbers StrOfWord = str_of_word numbers.table numbers.count_digits numbers.write_digits
graph_for numbers StrOfBool = str_of_bool
graph_for numbers StrAdd = str_add numbers.copy_bytes numbers.string_part
graph_for numbers StrMul = str_mul numbers.string_part numbers.repeat_bytes
graph_for numbers StrIndex = str_index
graph_for numbers StrSlice = str_slice numbers.string_part
graph_for numbers StrButLast = str_but_last numbers.string_part
graph_for numbers StrLen = str_len
graph_for numbers StrTruth = str_truth
graph_for numbers StrEqual = str_equal numbers.alike_bytes
graph_for numbers StrLess = str_less numbers.less_bytes
graph_for numbers StrContains = str_contains numbers.find_bytes
graph_for numbers StrFind = str_find numbers.find_bytes
graph_for numbers StrStartsWith = str_starts_with numbers.alike_bytes
graph_for numbers StrEndsWith = str_ends_with numbers.alike_bytes
graph_for numbers StrStrip = str_strip numbers.string_part numbers.skip_forwards numbers.skip_backwards
graph_for numbers StrWalk = str_walk
graph_for numbers StrHasItem = str_has_item
graph_for numbers StrItem = str_item

abbrev pub helper_graph : Numbers → Need → LlGraph
helper_graph numbers need = graph_for numbers need.helper

-- a graph that helpers call
abbrev pub shared_graph : Numbers → Shared → LlGraph
shared_graph numbers shared.PrintDigits = print_digits numbers.print_digits
shared_graph numbers shared.PutBytes = put_bytes
shared_graph numbers shared.CopyBytes = copy_bytes
shared_graph numbers shared.StringPart = string_part numbers.table numbers.copy_bytes
shared_graph numbers shared.RepeatBytes = repeat_bytes numbers.copy_bytes
shared_graph numbers shared.AlikeBytes = alike_bytes
shared_graph numbers shared.FindBytes = find_bytes numbers.alike_bytes
shared_graph numbers shared.LessBytes = less_bytes
shared_graph numbers shared.CountDigits = count_digits
shared_graph numbers shared.WriteDigits = write_digits
shared_graph numbers shared.IsSpace = is_space
shared_graph numbers shared.SkipForwards = skip_forwards numbers.is_space
shared_graph numbers shared.SkipBackwards = skip_backwards numbers.is_space

abbrev pub if_used : Numbers → List Need → Shared → List LlGraph
if_used numbers needs graph = cond (is_used needs graph) (shared_graph numbers graph ∷ []) []

abbrev pub shared_graphs : Numbers → List Need → List Shared → List LlGraph
shared_graphs numbers needs [] = []
shared_graphs numbers needs (graph ∷ graphs) = if_used numbers needs graph ++ shared_graphs numbers needs graphs

abbrev pub all_graphs : Numbers → List Need → List Shared → List LlGraph
all_graphs numbers needs order = map (helper_graph numbers) needs ++ shared_graphs numbers needs order

-- graph i is that of need i, and the graphs that these call follow
abbrev pub helper_graphs : List Need → ℕ → List LlGraph
helper_graphs needs table = all_graphs (numbers_of needs all_shared table) needs all_shared

-- the struct of the table of strings: how many there are, and the strings
abbrev pub table_struct : LlStruct
table_struct = record { base = None; fields = Signed ∷ []; items = Some (Ptr 0) }

abbrev pub all_structs : List LlStruct → List Need → List LlStruct
all_structs structs needs = structs ++ cond (uses_texts needs) (table_struct ∷ []) []

abbrev pub all_statics : List Need → ℕ → List CStatic
all_statics needs table = cond (uses_texts needs) (texts table) []

-- struct 0 is that of strings; the struct of the table, where it is used, is the last
abbrev pub helpers : List LlStruct → List Need → LlProgram
helpers structs needs = record { stage = Raw; structs = all_structs structs needs; statics = all_statics needs (length structs); graphs = helper_graphs needs (length structs); entry = 0 }
