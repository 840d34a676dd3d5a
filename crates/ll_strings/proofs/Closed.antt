-- Each block of a helper reads its inputs alone, and what it sets itself.
use Rattle.std.proofs.Common.{◌≡◌, ◌⊎◌, inl, inr, ℕ, zero, suc, Bool, true, false, ◌&&◌, ◌||◌, ◌==◌, List, [], ◌∷◌, ◌++◌, map, Option, Some, None, refl, sym, ap, ◌∙◌, subst}
use Rattle.std.specs.Prelude.{slice_get, cond, not}
use Rattle.ll_code.specs.declared.program.LlOp.{LlOp}
use Rattle.ll_code.specs.declared.program.LlExit.{LlExit}
use Rattle.ll_code.specs.declared.program.LlExit.TheVariants as exit
use Rattle.ll_code.specs.declared.program.LlBlock.{LlBlock}
use Rattle.ll_code.specs.declared.program.LlGraph.{LlGraph}
use Rattle.ll_live.specs.Live.{among, reads, set_by, sets, variables_in, exit_variables, handler_variable, live}
use Rattle.ll_live.proofs.Appended.{among_append}
use Rattle.ll_laws.proofs.Values.{and_left, and_right, is_same}
use Rattle.ll_held.proofs.Keeping.{or_left, or_right, or_one}
use Rattle.ll_helpers.specs.Helpers.{graph_for, helper_graph, shared_graph, shared_graphs, helper_graphs}
use Rattle.ll_build.specs.Needs.{is_used, all_shared, numbers_of}
use Rattle.ll_helpers.specs.StringsMake.{str_add_makes}
use Rattle.ll_build.specs.declared.needs.Helper.{Helper}
use Rattle.ll_build.specs.declared.needs.Helper.TheVariants as helper
use Rattle.ll_build.specs.declared.needs.Need.{Need}
use Rattle.ll_build.specs.declared.needs.Numbers.{Numbers}
use Rattle.ll_build.specs.declared.needs.Shared.{Shared}
use Rattle.ll_build.specs.declared.needs.Shared.TheVariants as shared
use Rattle.ll_strings.specs.Laws.{ReadsInputsAlone}

-- ---- what is live, as a list

abbrev without : Option ℕ → List ℕ → List ℕ
without None vs = vs
without (Some a) [] = []
without (Some a) (v ∷ vs) = cond (a == v) (without (Some a) vs) (v ∷ without (Some a) vs)

abbrev handled : LlExit → List ℕ
handled (exit.OnRaise a (Some by) elsewhere) = variables_in by.args
handled other = []

abbrev lives : List LlOp → LlExit → List ℕ
lives [] e = exit_variables e ++ handled e
lives (o ∷ ops) e = reads o ++ without (set_by o) (lives ops e)

abbrev all_among : List ℕ → List ℕ → Bool
all_among [] ys = true
all_among (x ∷ xs) ys = among x ys && all_among xs ys

without_in : (o : Option ℕ) (v : ℕ) (vs : List ℕ) → sets o v ≡ false → among v vs ≡ true → among v (without o vs) ≡ true
without_in None v vs s h = h
without_in (Some a) v [] s h = h
without_in (Some a) v (w ∷ vs) s h = one (a == w) refl (or_one (w == v) (among v vs) h) (λ k. without_in (Some a) v vs s k)
  where
    one : (c : Bool) → (a == w) ≡ c → ((w == v) ≡ true) ⊎ (among v vs ≡ true) → (among v vs ≡ true → among v (without (Some a) vs) ≡ true) → among v (cond c (without (Some a) vs) (w ∷ without (Some a) vs)) ≡ true
    one true e (inr k) go = go k
    one true e (inl k) go = absurd (let q : w ≡ v = is_same w v k in let r : (a == v) ≡ true = ap (λ n. a == n) (sym q) ∙ e in let f : true ≡ false = sym r ∙ s in cc)
    one false e (inl k) go = or_left (w == v) (among v (without (Some a) vs)) k
    one false e (inr k) go = or_right (w == v) (among v (without (Some a) vs)) (go k)

handled_in : (e : LlExit) (v : ℕ) → handler_variable e v ≡ true → among v (handled e) ≡ true
handled_in (exit.OnRaise a (Some by) elsewhere) v h = and_right _ _ h
handled_in (exit.OnRaise a None elsewhere) v h = absurd (cc)
handled_in (exit.Goto link) v h = absurd (cc)
handled_in (exit.If a there elsewhere) v h = absurd (cc)
handled_in (exit.Return x) v h = absurd (cc)
handled_in (exit.Raise a) v h = absurd (cc)
handled_in (exit.Fail n) v h = absurd (cc)
handled_in (exit.Raised a) v h = absurd (cc)

live_in : (ops : List LlOp) (e : LlExit) (v : ℕ) → live ops e v ≡ true → among v (lives ops e) ≡ true
live_in [] e v h = among_append v (exit_variables e) (handled e) ∙ one (or_one (among v (exit_variables e)) (handler_variable e v) h)
  where
    one : (among v (exit_variables e) ≡ true) ⊎ (handler_variable e v ≡ true) → (among v (exit_variables e) || among v (handled e)) ≡ true
    one (inl k) = or_left (among v (exit_variables e)) (among v (handled e)) k
    one (inr k) = or_right (among v (exit_variables e)) (among v (handled e)) (handled_in e v k)
live_in (o ∷ ops) e v h = among_append v (reads o) (without (set_by o) (lives ops e)) ∙ one (or_one (among v (reads o)) (not (sets (set_by o) v) && live ops e v) h) (λ k. live_in ops e v k)
  where
    unset : (c : Bool) → not c ≡ true → c ≡ false
    unset true k = absurd (cc)
    unset false k = refl

    one : (among v (reads o) ≡ true) ⊎ ((not (sets (set_by o) v) && live ops e v) ≡ true) → (live ops e v ≡ true → among v (lives ops e) ≡ true) → (among v (reads o) || among v (without (set_by o) (lives ops e))) ≡ true
    one (inl k) go = or_left (among v (reads o)) (among v (without (set_by o) (lives ops e))) k
    one (inr k) go = or_right (among v (reads o)) (among v (without (set_by o) (lives ops e))) (without_in (set_by o) v (lives ops e) (unset (sets (set_by o) v) (and_left _ _ k)) (go (and_right _ _ k)))

all_in : (xs ys : List ℕ) (v : ℕ) → all_among xs ys ≡ true → among v xs ≡ true → among v ys ≡ true
all_in [] ys v h k = absurd (cc)
all_in (x ∷ xs) ys v h k = one (or_one (x == v) (among v xs) k) (λ k. all_in xs ys v (and_right _ _ h) k)
  where
    one : ((x == v) ≡ true) ⊎ (among v xs ≡ true) → (among v xs ≡ true → among v ys ≡ true) → among v ys ≡ true
    one (inl q) go = (let e : x ≡ v = is_same x v q in subst (λ n. among n ys ≡ true) e (and_left _ _ h))
    one (inr q) go = go q

-- ---- graphs

abbrev closed_blocks : List LlBlock → Bool
closed_blocks [] = true
closed_blocks (b ∷ bs) = all_among (lives b.ops b.exit) b.inputs && closed_blocks bs

block_closed : (bs : List LlBlock) → closed_blocks bs ≡ true → (n : ℕ) (b : LlBlock) → slice_get bs n ≡ Some b → all_among (lives b.ops b.exit) b.inputs ≡ true
block_closed [] h n b e = absurd (cc)
block_closed (c ∷ bs) h zero b e = (let q : c ≡ b = cc in subst (λ (b : LlBlock). all_among (lives b.ops b.exit) b.inputs ≡ true) q (and_left _ _ h))
block_closed (c ∷ bs) h (suc n) b e = block_closed bs (and_right _ _ h) n b e

alone : (graph : LlGraph) → closed_blocks graph.blocks ≡ true → ReadsInputsAlone graph
alone graph h n b e v l = all_in (lives b.ops b.exit) b.inputs v (block_closed graph.blocks h n b e) (live_in b.ops b.exit v l)

helper_closed : (numbers : Numbers) (h : Helper) → closed_blocks (graph_for numbers h).blocks ≡ true
unfolding str_add_makes
helper_closed numbers helper.PrintWord = refl
helper_closed numbers helper.PrintBool = refl
helper_closed numbers helper.WordDiv = refl
helper_closed numbers helper.WordMod = refl
helper_closed numbers helper.WordShl = refl
helper_closed numbers helper.WordShr = refl
helper_closed numbers helper.WordChr = refl
helper_closed numbers helper.WordMin = refl
helper_closed numbers helper.WordMax = refl
helper_closed numbers helper.RangeUp = refl
helper_closed numbers helper.RangeDown = refl
helper_closed numbers helper.IsDigit = refl
helper_closed numbers helper.IsAlpha = refl
helper_closed numbers helper.IsSpace = refl
helper_closed numbers helper.PrintStr = refl
helper_closed numbers helper.StrWrite = refl
helper_closed numbers helper.StrOfChar = refl
helper_closed numbers helper.StrOfWord = refl
helper_closed numbers helper.StrOfBool = refl
helper_closed numbers helper.StrAdd = refl
helper_closed numbers helper.StrMul = refl
helper_closed numbers helper.StrIndex = refl
helper_closed numbers helper.StrSlice = refl
helper_closed numbers helper.StrButLast = refl
helper_closed numbers helper.StrLen = refl
helper_closed numbers helper.StrTruth = refl
helper_closed numbers helper.StrEqual = refl
helper_closed numbers helper.StrLess = refl
helper_closed numbers helper.StrContains = refl
helper_closed numbers helper.StrFind = refl
helper_closed numbers helper.StrStartsWith = refl
helper_closed numbers helper.StrEndsWith = refl
helper_closed numbers helper.StrStrip = refl
helper_closed numbers helper.StrWalk = refl
helper_closed numbers helper.StrHasItem = refl
helper_closed numbers helper.StrItem = refl

shared_closed : (numbers : Numbers) (g : Shared) → closed_blocks (shared_graph numbers g).blocks ≡ true
shared_closed numbers shared.PrintDigits = refl
shared_closed numbers shared.PutBytes = refl
shared_closed numbers shared.CopyBytes = refl
shared_closed numbers shared.StringPart = refl
shared_closed numbers shared.RepeatBytes = refl
shared_closed numbers shared.AlikeBytes = refl
shared_closed numbers shared.FindBytes = refl
shared_closed numbers shared.LessBytes = refl
shared_closed numbers shared.CountDigits = refl
shared_closed numbers shared.WriteDigits = refl
shared_closed numbers shared.IsSpace = refl
shared_closed numbers shared.SkipForwards = refl
shared_closed numbers shared.SkipBackwards = refl

-- ---- all of them

abbrev AllAlone : List LlGraph → Type 0
AllAlone [] = Unit {0}
AllAlone (g ∷ gs) = ReadsInputsAlone g × AllAlone gs

alone_both : (gs hs : List LlGraph) → AllAlone gs → AllAlone hs → AllAlone (gs ++ hs)
alone_both [] hs a b = b
alone_both (g ∷ gs) hs (a, rest) b = (a, alone_both gs hs rest b)

alone_at : (gs : List LlGraph) → AllAlone gs → (f : ℕ) (graph : LlGraph) → slice_get gs f ≡ Some graph → ReadsInputsAlone graph
alone_at [] a f graph e = absurd (cc)
alone_at (g ∷ gs) (a, rest) zero graph e = (let q : g ≡ graph = cc in subst ReadsInputsAlone q a)
alone_at (g ∷ gs) (a, rest) (suc f) graph e = alone_at gs rest f graph e

needs_alone : (numbers : Numbers) (needs : List Need) → AllAlone (map (helper_graph numbers) needs)
needs_alone numbers [] = tt
needs_alone numbers (need ∷ needs) = (alone (graph_for numbers need.helper) (helper_closed numbers need.helper), needs_alone numbers needs)

shared_alone : (numbers : Numbers) (needs : List Need) (order : List Shared) → AllAlone (shared_graphs numbers needs order)
shared_alone numbers needs [] = tt
shared_alone numbers needs (g ∷ gs) = one (is_used needs g) (shared_alone numbers needs gs)
  where
    one : (c : Bool) → AllAlone (shared_graphs numbers needs gs) → AllAlone (cond c (shared_graph numbers g ∷ []) [] ++ shared_graphs numbers needs gs)
    one true rest = (alone (shared_graph numbers g) (shared_closed numbers g), rest)
    one false rest = rest

pub helpers_alone : (needs : List Need) (table f : ℕ) (graph : LlGraph) → slice_get (helper_graphs needs table) f ≡ Some graph → ReadsInputsAlone graph
helpers_alone needs table f graph e =
    let numbers : Numbers = numbers_of needs all_shared table in
    alone_at (helper_graphs needs table) (alone_both (map (helper_graph numbers) needs) (shared_graphs numbers needs all_shared) (needs_alone numbers needs) (shared_alone numbers needs all_shared)) f graph e
