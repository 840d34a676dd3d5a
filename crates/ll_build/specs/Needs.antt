-- Which graphs and statics the needs of a program use.
use Rattle.std.specs.Prelude.{ℕ, ◌+◌, ◌||◌, ◌&&◌, nat_lt, Bool, true, false, cond, List, [], ◌∷◌, length}
use Rattle.ll_build.specs.declared.needs.Helper.{Helper}
use Rattle.ll_build.specs.declared.needs.Helper.TheVariants.{PrintWord, PrintStr, StrWrite, StrOfChar, StrOfWord, StrOfBool, StrAdd, StrMul, StrSlice, StrButLast, StrEqual, StrLess, StrContains, StrFind, StrStartsWith, StrEndsWith, StrStrip}
use Rattle.ll_build.specs.declared.needs.Need.{Need}
use Rattle.ll_build.specs.declared.needs.Shared.{Shared}
use Rattle.ll_build.specs.declared.needs.Shared.TheVariants.{PrintDigits, PutBytes, CopyBytes, StringPart, RepeatBytes, AlikeBytes, FindBytes, LessBytes, CountDigits, WriteDigits, IsSpace, SkipForwards, SkipBackwards}
use Rattle.ll_build.specs.declared.needs.Numbers.{Numbers}

-- the digits of a word are printed
abbrev pub prints_digits : Helper → Bool
prints_digits PrintWord = true
prints_digits other = false

-- the bytes of a string are printed
abbrev pub puts_bytes : Helper → Bool
puts_bytes PrintStr = true
puts_bytes StrWrite = true
puts_bytes other = false

-- bytes are copied
abbrev pub copies_bytes : Helper → Bool
copies_bytes StrAdd = true
copies_bytes StrMul = true
copies_bytes StrSlice = true
copies_bytes StrButLast = true
copies_bytes StrStrip = true
copies_bytes other = false

-- the part of a string is made
abbrev pub takes_parts : Helper → Bool
takes_parts StrAdd = true
takes_parts StrMul = true
takes_parts StrSlice = true
takes_parts StrButLast = true
takes_parts StrStrip = true
takes_parts other = false

-- a string is repeated
abbrev pub repeats_bytes : Helper → Bool
repeats_bytes StrMul = true
repeats_bytes other = false

-- stretches are compared
abbrev pub compares_bytes : Helper → Bool
compares_bytes StrEqual = true
compares_bytes StrContains = true
compares_bytes StrFind = true
compares_bytes StrStartsWith = true
compares_bytes StrEndsWith = true
compares_bytes other = false

-- a part is looked for
abbrev pub finds_bytes : Helper → Bool
finds_bytes StrContains = true
finds_bytes StrFind = true
finds_bytes other = false

-- strings are ordered
abbrev pub orders_bytes : Helper → Bool
orders_bytes StrLess = true
orders_bytes other = false

-- digits are counted
abbrev pub counts_digits : Helper → Bool
counts_digits StrOfWord = true
counts_digits other = false

-- digits are written
abbrev pub writes_digits : Helper → Bool
writes_digits StrOfWord = true
writes_digits other = false

-- blanks are asked for
abbrev pub asks_blanks : Helper → Bool
asks_blanks StrStrip = true
asks_blanks other = false

-- blanks are skipped
abbrev pub skips_forwards : Helper → Bool
skips_forwards StrStrip = true
skips_forwards other = false

-- blanks are skipped from the end
abbrev pub skips_backwards : Helper → Bool
skips_backwards StrStrip = true
skips_backwards other = false

-- a helper calls the graph, or one that calls it
abbrev pub uses : Shared → Helper → Bool
uses PrintDigits helper = prints_digits helper
uses PutBytes helper = puts_bytes helper
uses CopyBytes helper = copies_bytes helper
uses StringPart helper = takes_parts helper
uses RepeatBytes helper = repeats_bytes helper
uses AlikeBytes helper = compares_bytes helper
uses FindBytes helper = finds_bytes helper
uses LessBytes helper = orders_bytes helper
uses CountDigits helper = counts_digits helper
uses WriteDigits helper = writes_digits helper
uses IsSpace helper = asks_blanks helper
uses SkipForwards helper = skips_forwards helper
uses SkipBackwards helper = skips_backwards helper

abbrev pub is_used : List Need → Shared → Bool
is_used [] graph = false
is_used (need ∷ needs) graph = uses graph need.helper || is_used needs graph

-- what may give a string of one byte or none names the static ones
abbrev pub names_texts : Helper → Bool
names_texts StrOfChar = true
names_texts StrOfWord = true
names_texts StrOfBool = true
names_texts StrAdd = true
names_texts StrMul = true
names_texts StrSlice = true
names_texts StrButLast = true
names_texts StrStrip = true
names_texts other = false

abbrev pub uses_texts : List Need → Bool
uses_texts [] = false
uses_texts (need ∷ needs) = names_texts need.helper || uses_texts needs

-- the order in which they follow the graphs of the needs
unfoldable pub all_shared : List Shared
all_shared = PrintDigits ∷ PutBytes ∷ CopyBytes ∷ StringPart ∷ RepeatBytes ∷ AlikeBytes ∷ FindBytes ∷ LessBytes ∷ CountDigits ∷ WriteDigits ∷ IsSpace ∷ SkipForwards ∷ SkipBackwards ∷ []

abbrev pub rank : Shared → ℕ
rank PrintDigits = 0
rank PutBytes = 1
rank CopyBytes = 2
rank StringPart = 3
rank RepeatBytes = 4
rank AlikeBytes = 5
rank FindBytes = 6
rank LessBytes = 7
rank CountDigits = 8
rank WriteDigits = 9
rank IsSpace = 10
rank SkipForwards = 11
rank SkipBackwards = 12

abbrev pub stands_before : List Need → Shared → Shared → Bool
stands_before needs other graph = nat_lt (rank other) (rank graph) && is_used needs other

abbrev pub one_more : ℕ → Bool → ℕ
one_more n test = cond test (n + 1) n

abbrev pub number_from : List Need → Shared → ℕ → List Shared → ℕ
number_from needs graph n [] = n
number_from needs graph n (other ∷ others) = number_from needs graph (one_more n (stands_before needs other graph)) others

-- the number of a graph: that of the first behind the needs, and one more for each graph before it that is used
abbrev pub number : List Need → List Shared → Shared → ℕ
number needs order graph = number_from needs graph (length needs) order

abbrev pub numbers_of : List Need → List Shared → ℕ → Numbers
numbers_of needs order table = record {
  table = table;
  print_digits = number needs order PrintDigits;
  put_bytes = number needs order PutBytes;
  copy_bytes = number needs order CopyBytes;
  string_part = number needs order StringPart;
  repeat_bytes = number needs order RepeatBytes;
  alike_bytes = number needs order AlikeBytes;
  find_bytes = number needs order FindBytes;
  less_bytes = number needs order LessBytes;
  count_digits = number needs order CountDigits;
  write_digits = number needs order WriteDigits;
  is_space = number needs order IsSpace;
  skip_forwards = number needs order SkipForwards;
  skip_backwards = number needs order SkipBackwards;
}
