-- The graphs of helpers, and those that they call, have few blocks.
use Rattle.std.proofs.Common.{◌≡◌, ℕ, suc, ◌+◌, Bool, true, false, List, [], ◌∷◌, ◌++◌, length, map, refl, ◌∙◌, ap}
use Rattle.std.specs.Prelude.{cond, nat_lt}
use Rattle.ll_code.specs.declared.program.LlBlock.{LlBlock}
use Rattle.ll_code.specs.declared.program.LlGraph.{LlGraph}
use Rattle.ll_helpers.specs.Helpers.{graph_for, helper_graph, helper_graphs, shared_graph, shared_graphs}
use Rattle.ll_helpers.specs.StringsMake.{str_add_makes}
use Rattle.ll_build.specs.Needs.{is_used, all_shared, numbers_of}
use Rattle.ll_build.specs.declared.needs.Helper.{Helper}
use Rattle.ll_build.specs.declared.needs.Helper.TheVariants as helper
use Rattle.ll_build.specs.declared.needs.Need.{Need}
use Rattle.ll_build.specs.declared.needs.Numbers.{Numbers}
use Rattle.ll_build.specs.declared.needs.Shared.{Shared}
use Rattle.ll_build.specs.declared.needs.Shared.TheVariants as shared
use Rattle.rpy_meaning.specs.declared.row.Covers.{Covers}
use Rattle.rtyper_data.specs.declared.found.Found.{Found}
use Rattle.rtyper_raising.specs.Raising.{caught_at, failing_with, raising_block, raising_blocks, raising_graphs}
use Rattle.told_graphs.proofs.Counting.{AllSmall, is_small}

helper_small : (numbers : Numbers) (h : Helper) → is_small (graph_for numbers h) ≡ true
unfolding str_add_makes
helper_small numbers helper.PrintWord = refl
helper_small numbers helper.PrintBool = refl
helper_small numbers helper.WordDiv = refl
helper_small numbers helper.WordMod = refl
helper_small numbers helper.WordShl = refl
helper_small numbers helper.WordShr = refl
helper_small numbers helper.WordChr = refl
helper_small numbers helper.WordMin = refl
helper_small numbers helper.WordMax = refl
helper_small numbers helper.RangeUp = refl
helper_small numbers helper.RangeDown = refl
helper_small numbers helper.IsDigit = refl
helper_small numbers helper.IsAlpha = refl
helper_small numbers helper.IsSpace = refl
helper_small numbers helper.PrintStr = refl
helper_small numbers helper.StrWrite = refl
helper_small numbers helper.StrOfChar = refl
helper_small numbers helper.StrOfWord = refl
helper_small numbers helper.StrOfBool = refl
helper_small numbers helper.StrAdd = refl
helper_small numbers helper.StrMul = refl
helper_small numbers helper.StrIndex = refl
helper_small numbers helper.StrSlice = refl
helper_small numbers helper.StrButLast = refl
helper_small numbers helper.StrLen = refl
helper_small numbers helper.StrTruth = refl
helper_small numbers helper.StrEqual = refl
helper_small numbers helper.StrLess = refl
helper_small numbers helper.StrContains = refl
helper_small numbers helper.StrFind = refl
helper_small numbers helper.StrStartsWith = refl
helper_small numbers helper.StrEndsWith = refl
helper_small numbers helper.StrStrip = refl
helper_small numbers helper.StrWalk = refl
helper_small numbers helper.StrHasItem = refl
helper_small numbers helper.StrItem = refl

shared_small : (numbers : Numbers) (g : Shared) → is_small (shared_graph numbers g) ≡ true
shared_small numbers shared.PrintDigits = refl
shared_small numbers shared.PutBytes = refl
shared_small numbers shared.CopyBytes = refl
shared_small numbers shared.StringPart = refl
shared_small numbers shared.RepeatBytes = refl
shared_small numbers shared.AlikeBytes = refl
shared_small numbers shared.FindBytes = refl
shared_small numbers shared.LessBytes = refl
shared_small numbers shared.CountDigits = refl
shared_small numbers shared.WriteDigits = refl
shared_small numbers shared.IsSpace = refl
shared_small numbers shared.SkipForwards = refl
shared_small numbers shared.SkipBackwards = refl

small_both : (gs hs : List LlGraph) → AllSmall gs → AllSmall hs → AllSmall (gs ++ hs)
small_both [] hs a b = b
small_both (g ∷ gs) hs (a, rest) b = (a, small_both gs hs rest b)

needs_small : (numbers : Numbers) (needs : List Need) → AllSmall (map (helper_graph numbers) needs)
needs_small numbers [] = tt
needs_small numbers (need ∷ needs) = (helper_small numbers need.helper, needs_small numbers needs)

shared_all : (numbers : Numbers) (needs : List Need) (order : List Shared) → AllSmall (shared_graphs numbers needs order)
shared_all numbers needs [] = tt
shared_all numbers needs (g ∷ gs) = one (is_used needs g) (shared_all numbers needs gs)
  where
    one : (c : Bool) → AllSmall (shared_graphs numbers needs gs) → AllSmall (cond c (shared_graph numbers g ∷ []) [] ++ shared_graphs numbers needs gs)
    one true rest = (shared_small numbers g, rest)
    one false rest = rest

pub helpers_small : (needs : List Need) (table : ℕ) → AllSmall (helper_graphs needs table)
helpers_small needs table =
    let numbers : Numbers = numbers_of needs all_shared table in
    small_both (map (helper_graph numbers) needs) (shared_graphs numbers needs all_shared) (needs_small numbers needs) (shared_all numbers needs all_shared)

-- ---- and so where they raise

raising_counted : (c : Covers) (bs : List LlBlock) (found : Found) → length (raising_blocks c bs found).0 ≡ length bs
raising_counted c [] found = refl
raising_counted c (b ∷ bs) found = ap suc (raising_counted c bs (raising_block b (failing_with b.exit c) found).1)

pub raising_small : (n : ℕ) (gs : List LlGraph) (found : Found) → AllSmall gs → AllSmall (raising_graphs n gs found).0
raising_small n [] found h = tt
raising_small n (g ∷ gs) found (h, hs) = (ap (λ k. nat_lt k 64) (raising_counted (caught_at found n) g.blocks found) ∙ h, raising_small (n + 1) gs (raising_blocks (caught_at found n) g.blocks found).1 hs)
