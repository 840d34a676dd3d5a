-- Helpers catch nothing.
use Rattle.std.proofs.Common.{◌≡◌, ℕ, zero, suc, Bool, true, false, ◌&&◌, List, [], ◌∷◌, ◌++◌, map, Some, refl, subst}
use Rattle.std.specs.Prelude.{slice_get, cond}
use Rattle.ll_code.specs.declared.program.LlExit.{LlExit}
use Rattle.ll_code.specs.declared.program.LlExit.TheVariants as exit
use Rattle.ll_code.specs.declared.program.LlBlock.{LlBlock}
use Rattle.ll_code.specs.declared.program.LlGraph.{LlGraph}
use Rattle.ll_live.specs.Live.{handler_variable}
use Rattle.ll_laws.proofs.Values.{and_left, and_right}
use Rattle.ll_helpers.specs.Helpers.{graph_for, helper_graph, shared_graph, shared_graphs, helper_graphs}
use Rattle.ll_build.specs.Needs.{is_used, all_shared, numbers_of}
use Rattle.ll_helpers.specs.StringsMake.{str_add_makes}
use Rattle.ll_build.specs.declared.needs.Helper.{Helper}
use Rattle.ll_build.specs.declared.needs.Helper.TheVariants as helper
use Rattle.ll_build.specs.declared.needs.Need.{Need}
use Rattle.ll_build.specs.declared.needs.Numbers.{Numbers}
use Rattle.ll_build.specs.declared.needs.Shared.{Shared}
use Rattle.ll_build.specs.declared.needs.Shared.TheVariants as shared
use Rattle.ll_strings.specs.Laws.{CatchesNothing}

abbrev no_handler : LlExit → Bool
no_handler (exit.OnRaise a by elsewhere) = false
no_handler other = true

abbrev no_handlers : List LlBlock → Bool
no_handlers [] = true
no_handlers (b ∷ bs) = no_handler b.exit && no_handlers bs

catches : (e : LlExit) → no_handler e ≡ true → (v : ℕ) → handler_variable e v ≡ false
catches (exit.OnRaise a by elsewhere) h v = absurd (cc)
catches other h v = refl

catch_at : (bs : List LlBlock) → no_handlers bs ≡ true → (n : ℕ) (b : LlBlock) → slice_get bs n ≡ Some b → (v : ℕ) → handler_variable b.exit v ≡ false
catch_at [] h n b e v = absurd (cc)
catch_at (c ∷ bs) h zero b e v = (let q : c ≡ b = cc in subst (λ (b : LlBlock). handler_variable b.exit v ≡ false) q (catches c.exit (and_left _ _ h) v))
catch_at (c ∷ bs) h (suc n) b e v = catch_at bs (and_right _ _ h) n b e v

helper_catches : (numbers : Numbers) (h : Helper) → no_handlers (graph_for numbers h).blocks ≡ true
unfolding str_add_makes
helper_catches numbers helper.PrintWord = refl
helper_catches numbers helper.PrintBool = refl
helper_catches numbers helper.WordDiv = refl
helper_catches numbers helper.WordMod = refl
helper_catches numbers helper.WordShl = refl
helper_catches numbers helper.WordShr = refl
helper_catches numbers helper.WordChr = refl
helper_catches numbers helper.WordMin = refl
helper_catches numbers helper.WordMax = refl
helper_catches numbers helper.RangeUp = refl
helper_catches numbers helper.RangeDown = refl
helper_catches numbers helper.IsDigit = refl
helper_catches numbers helper.IsAlpha = refl
helper_catches numbers helper.IsSpace = refl
helper_catches numbers helper.PrintStr = refl
helper_catches numbers helper.StrWrite = refl
helper_catches numbers helper.StrOfChar = refl
helper_catches numbers helper.StrOfWord = refl
helper_catches numbers helper.StrOfBool = refl
helper_catches numbers helper.StrAdd = refl
helper_catches numbers helper.StrMul = refl
helper_catches numbers helper.StrIndex = refl
helper_catches numbers helper.StrSlice = refl
helper_catches numbers helper.StrButLast = refl
helper_catches numbers helper.StrLen = refl
helper_catches numbers helper.StrTruth = refl
helper_catches numbers helper.StrEqual = refl
helper_catches numbers helper.StrLess = refl
helper_catches numbers helper.StrContains = refl
helper_catches numbers helper.StrFind = refl
helper_catches numbers helper.StrStartsWith = refl
helper_catches numbers helper.StrEndsWith = refl
helper_catches numbers helper.StrStrip = refl
helper_catches numbers helper.StrWalk = refl
helper_catches numbers helper.StrHasItem = refl
helper_catches numbers helper.StrItem = refl

shared_catches : (numbers : Numbers) (g : Shared) → no_handlers (shared_graph numbers g).blocks ≡ true
shared_catches numbers shared.PrintDigits = refl
shared_catches numbers shared.PutBytes = refl
shared_catches numbers shared.CopyBytes = refl
shared_catches numbers shared.StringPart = refl
shared_catches numbers shared.RepeatBytes = refl
shared_catches numbers shared.AlikeBytes = refl
shared_catches numbers shared.FindBytes = refl
shared_catches numbers shared.LessBytes = refl
shared_catches numbers shared.CountDigits = refl
shared_catches numbers shared.WriteDigits = refl
shared_catches numbers shared.IsSpace = refl
shared_catches numbers shared.SkipForwards = refl
shared_catches numbers shared.SkipBackwards = refl

abbrev AllCatch : List LlGraph → Type 0
AllCatch [] = Unit {0}
AllCatch (g ∷ gs) = CatchesNothing g × AllCatch gs

catch_both : (gs hs : List LlGraph) → AllCatch gs → AllCatch hs → AllCatch (gs ++ hs)
catch_both [] hs a b = b
catch_both (g ∷ gs) hs (a, rest) b = (a, catch_both gs hs rest b)

catch_in : (gs : List LlGraph) → AllCatch gs → (f : ℕ) (graph : LlGraph) → slice_get gs f ≡ Some graph → CatchesNothing graph
catch_in [] a f graph e = absurd (cc)
catch_in (g ∷ gs) (a, rest) zero graph e = (let q : g ≡ graph = cc in subst CatchesNothing q a)
catch_in (g ∷ gs) (a, rest) (suc f) graph e = catch_in gs rest f graph e

needs_catch : (numbers : Numbers) (needs : List Need) → AllCatch (map (helper_graph numbers) needs)
needs_catch numbers [] = tt
needs_catch numbers (need ∷ needs) = (catch_at (graph_for numbers need.helper).blocks (helper_catches numbers need.helper), needs_catch numbers needs)

shared_catch : (numbers : Numbers) (needs : List Need) (order : List Shared) → AllCatch (shared_graphs numbers needs order)
shared_catch numbers needs [] = tt
shared_catch numbers needs (g ∷ gs) = one (is_used needs g) (shared_catch numbers needs gs)
  where
    one : (c : Bool) → AllCatch (shared_graphs numbers needs gs) → AllCatch (cond c (shared_graph numbers g ∷ []) [] ++ shared_graphs numbers needs gs)
    one true rest = (catch_at (shared_graph numbers g).blocks (shared_catches numbers g), rest)
    one false rest = rest

pub helpers_catch : (needs : List Need) (table f : ℕ) (graph : LlGraph) → slice_get (helper_graphs needs table) f ≡ Some graph → CatchesNothing graph
helpers_catch needs table f graph e =
    let numbers : Numbers = numbers_of needs all_shared table in
    catch_in (helper_graphs needs table) (catch_both (map (helper_graph numbers) needs) (shared_graphs numbers needs all_shared) (needs_catch numbers needs) (shared_catch numbers needs all_shared)) f graph e
