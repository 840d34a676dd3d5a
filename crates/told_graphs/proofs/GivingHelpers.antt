-- The graphs of helpers, and those that they call, give something.
use Rattle.std.proofs.Common.{◌≡◌, ℕ, ◌+◌, Bool, true, false, List, [], ◌∷◌, ◌++◌, map, Option, Some, None, refl, ◌∙◌}
use Rattle.std.specs.Prelude.{cond}
use Rattle.ll_code.specs.declared.program.LlType.{LlType}
use Rattle.ll_code.specs.declared.program.LlBlock.{LlBlock}
use Rattle.ll_code.specs.declared.program.LlGraph.{LlGraph}
use Rattle.ll_laws.proofs.Values.{and_left, and_right}
use Rattle.ll_helpers.specs.Helpers.{graph_for, helper_graph, helper_graphs, shared_graph, shared_graphs}
use Rattle.ll_helpers.specs.StringsMake.{str_add_makes}
use Rattle.ll_build.specs.Needs.{is_used, all_shared, numbers_of}
use Rattle.ll_build.specs.declared.needs.Helper.{Helper}
use Rattle.ll_build.specs.declared.needs.Helper.TheVariants as helper
use Rattle.ll_build.specs.declared.needs.Need.{Need}
use Rattle.ll_build.specs.declared.needs.Numbers.{Numbers}
use Rattle.ll_build.specs.declared.needs.Shared.{Shared}
use Rattle.ll_build.specs.declared.needs.Shared.TheVariants as shared
use Rattle.rpy_meaning.specs.declared.row.Covers.{Covers}
use Rattle.rtyper_data.specs.declared.found.Found.{Found}
use Rattle.rtyper_raising.specs.Raising.{caught_at, failing_with, raising_block, raising_blocks, raising_graphs}
use Rattle.told_graphs.proofs.Giving.{AllGive, all_give, both, gives, graph_gives}

helper_gives : (numbers : Numbers) (h : Helper) → graph_gives (graph_for numbers h) ≡ true
unfolding str_add_makes
helper_gives numbers helper.PrintWord = refl
helper_gives numbers helper.PrintBool = refl
helper_gives numbers helper.WordDiv = refl
helper_gives numbers helper.WordMod = refl
helper_gives numbers helper.WordShl = refl
helper_gives numbers helper.WordShr = refl
helper_gives numbers helper.WordChr = refl
helper_gives numbers helper.WordMin = refl
helper_gives numbers helper.WordMax = refl
helper_gives numbers helper.RangeUp = refl
helper_gives numbers helper.RangeDown = refl
helper_gives numbers helper.IsDigit = refl
helper_gives numbers helper.IsAlpha = refl
helper_gives numbers helper.IsSpace = refl
helper_gives numbers helper.PrintStr = refl
helper_gives numbers helper.StrWrite = refl
helper_gives numbers helper.StrOfChar = refl
helper_gives numbers helper.StrOfWord = refl
helper_gives numbers helper.StrOfBool = refl
helper_gives numbers helper.StrAdd = refl
helper_gives numbers helper.StrMul = refl
helper_gives numbers helper.StrIndex = refl
helper_gives numbers helper.StrSlice = refl
helper_gives numbers helper.StrButLast = refl
helper_gives numbers helper.StrLen = refl
helper_gives numbers helper.StrTruth = refl
helper_gives numbers helper.StrEqual = refl
helper_gives numbers helper.StrLess = refl
helper_gives numbers helper.StrContains = refl
helper_gives numbers helper.StrFind = refl
helper_gives numbers helper.StrStartsWith = refl
helper_gives numbers helper.StrEndsWith = refl
helper_gives numbers helper.StrStrip = refl
helper_gives numbers helper.StrWalk = refl
helper_gives numbers helper.StrHasItem = refl
helper_gives numbers helper.StrItem = refl

shared_gives : (numbers : Numbers) (g : Shared) → graph_gives (shared_graph numbers g) ≡ true
shared_gives numbers shared.PrintDigits = refl
shared_gives numbers shared.PutBytes = refl
shared_gives numbers shared.CopyBytes = refl
shared_gives numbers shared.StringPart = refl
shared_gives numbers shared.RepeatBytes = refl
shared_gives numbers shared.AlikeBytes = refl
shared_gives numbers shared.FindBytes = refl
shared_gives numbers shared.LessBytes = refl
shared_gives numbers shared.CountDigits = refl
shared_gives numbers shared.WriteDigits = refl
shared_gives numbers shared.IsSpace = refl
shared_gives numbers shared.SkipForwards = refl
shared_gives numbers shared.SkipBackwards = refl

both_all : (gs hs : List LlGraph) → AllGive gs → AllGive hs → AllGive (gs ++ hs)
both_all [] hs a b = b
both_all (g ∷ gs) hs (a, rest) b = (a, both_all gs hs rest b)

needs_give : (numbers : Numbers) (needs : List Need) → AllGive (map (helper_graph numbers) needs)
needs_give numbers [] = tt
needs_give numbers (need ∷ needs) = (helper_gives numbers need.helper, needs_give numbers needs)

shared_give : (numbers : Numbers) (needs : List Need) (order : List Shared) → AllGive (shared_graphs numbers needs order)
shared_give numbers needs [] = tt
shared_give numbers needs (g ∷ gs) = one (is_used needs g) (shared_give numbers needs gs)
  where
    one : (c : Bool) → AllGive (shared_graphs numbers needs gs) → AllGive (cond c (shared_graph numbers g ∷ []) [] ++ shared_graphs numbers needs gs)
    one true rest = (shared_gives numbers g, rest)
    one false rest = rest

pub helpers_give : (needs : List Need) (table : ℕ) → AllGive (helper_graphs needs table)
helpers_give needs table =
    let numbers : Numbers = numbers_of needs all_shared table in
    both_all (map (helper_graph numbers) needs) (shared_graphs numbers needs all_shared) (needs_give numbers needs) (shared_give numbers needs all_shared)

-- ---- and so where they raise

block_stays : (result : LlType) (b : LlBlock) (o : Option ℕ) (found : Found) → gives result (raising_block b o found).0.exit ≡ gives result b.exit
block_stays result b None found = refl
block_stays result b (Some class) found = refl

raising_gives : (result : LlType) (c : Covers) (bs : List LlBlock) (found : Found) → all_give result bs ≡ true → all_give result (raising_blocks c bs found).0 ≡ true
raising_gives result c [] found h = refl
raising_gives result c (b ∷ bs) found h =
    both _ _ (block_stays result b (failing_with b.exit c) found ∙ and_left _ _ h) (raising_gives result c bs (raising_block b (failing_with b.exit c) found).1 (and_right _ _ h))

pub raising_give : (n : ℕ) (gs : List LlGraph) (found : Found) → AllGive gs → AllGive (raising_graphs n gs found).0
raising_give n [] found h = tt
raising_give n (g ∷ gs) found (h, hs) = (raising_gives g.result (caught_at found n) g.blocks found h, raising_give (n + 1) gs (raising_blocks (caught_at found n) g.blocks found).1 hs)
