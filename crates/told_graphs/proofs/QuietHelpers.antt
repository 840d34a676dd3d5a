-- Helpers, and the graphs that they call, raise nothing themselves, and call only such graphs.
use Rattle.std.proofs.Common.{◌≡◌, ◌≤◌, ℕ, zero, suc, Bool, true, false, ◌||◌, List, [], ◌∷◌, ◌++◌, length, Some, refl, arith}
use Rattle.std.specs.Prelude.{slice_get, cond}
use Rattle.ll_code.specs.declared.program.LlGraph.{LlGraph}
use Rattle.ll_helpers.specs.Helpers.{graph_for, shared_graph, shared_graphs}
use Rattle.ll_helpers.specs.StringsMake.{str_add_makes}
use Rattle.ll_build.specs.Needs.{all_shared, is_used, number_from, numbers_of, one_more, stands_before, uses}
use Rattle.ll_build.specs.declared.needs.Helper.{Helper}
use Rattle.ll_build.specs.declared.needs.Helper.TheVariants as helper
use Rattle.ll_build.specs.declared.needs.Need.{Need}
use Rattle.ll_build.specs.declared.needs.Numbers.{Numbers}
use Rattle.ll_build.specs.declared.needs.Shared.{Shared}
use Rattle.ll_build.specs.declared.needs.Shared.TheVariants as shared
use Rattle.ll_strings.specs.Laws.{number_in}
use Rattle.told_graphs.proofs.Keeping.{AllQuiet, calm_blocks}

-- ---- which graphs are used with others

takes_copies : (h : Helper) → uses shared.StringPart h ≡ true → uses shared.CopyBytes h ≡ true
takes_copies helper.StrAdd u = refl
takes_copies helper.StrMul u = refl
takes_copies helper.StrSlice u = refl
takes_copies helper.StrButLast u = refl
takes_copies helper.StrStrip u = refl
takes_copies _ u = absurd (cc)

repeats_copy : (h : Helper) → uses shared.RepeatBytes h ≡ true → uses shared.CopyBytes h ≡ true
repeats_copy helper.StrMul u = refl
repeats_copy _ u = absurd (cc)

finds_compare : (h : Helper) → uses shared.FindBytes h ≡ true → uses shared.AlikeBytes h ≡ true
finds_compare helper.StrContains u = refl
finds_compare helper.StrFind u = refl
finds_compare _ u = absurd (cc)

forwards_ask : (h : Helper) → uses shared.SkipForwards h ≡ true → uses shared.IsSpace h ≡ true
forwards_ask helper.StrStrip u = refl
forwards_ask _ u = absurd (cc)

backwards_ask : (h : Helper) → uses shared.SkipBackwards h ≡ true → uses shared.IsSpace h ≡ true
backwards_ask helper.StrStrip u = refl
backwards_ask _ u = absurd (cc)

module _ (quiet : ℕ → Bool) (numbers : Numbers) (h : Helper) (told : (g : Shared) → uses g h ≡ true → quiet (number_in numbers g) ≡ true) where
  -- ---- the graphs that helpers call

  pub shared_quiet : (g : Shared) → uses g h ≡ true → AllQuiet quiet (shared_graph numbers g).blocks
  shared_quiet shared.PrintDigits u = calm_blocks quiet (shared_graph numbers shared.PrintDigits).blocks refl (told shared.PrintDigits u, tt)
  shared_quiet shared.PutBytes u = calm_blocks quiet (shared_graph numbers shared.PutBytes).blocks refl tt
  shared_quiet shared.CopyBytes u = calm_blocks quiet (shared_graph numbers shared.CopyBytes).blocks refl tt
  shared_quiet shared.StringPart u = calm_blocks quiet (shared_graph numbers shared.StringPart).blocks refl (told shared.CopyBytes (takes_copies h u), tt)
  shared_quiet shared.RepeatBytes u = calm_blocks quiet (shared_graph numbers shared.RepeatBytes).blocks refl (told shared.CopyBytes (repeats_copy h u), tt)
  shared_quiet shared.AlikeBytes u = calm_blocks quiet (shared_graph numbers shared.AlikeBytes).blocks refl tt
  shared_quiet shared.FindBytes u = calm_blocks quiet (shared_graph numbers shared.FindBytes).blocks refl (told shared.AlikeBytes (finds_compare h u), tt)
  shared_quiet shared.LessBytes u = calm_blocks quiet (shared_graph numbers shared.LessBytes).blocks refl tt
  shared_quiet shared.CountDigits u = calm_blocks quiet (shared_graph numbers shared.CountDigits).blocks refl tt
  shared_quiet shared.WriteDigits u = calm_blocks quiet (shared_graph numbers shared.WriteDigits).blocks refl tt
  shared_quiet shared.IsSpace u = calm_blocks quiet (shared_graph numbers shared.IsSpace).blocks refl tt
  shared_quiet shared.SkipForwards u = calm_blocks quiet (shared_graph numbers shared.SkipForwards).blocks refl (told shared.IsSpace (forwards_ask h u), tt)
  shared_quiet shared.SkipBackwards u = calm_blocks quiet (shared_graph numbers shared.SkipBackwards).blocks refl (told shared.IsSpace (backwards_ask h u), tt)

-- ---- helpers

pub helper_quiet : (quiet : ℕ → Bool) (numbers : Numbers) (h : Helper) → ((g : Shared) → uses g h ≡ true → quiet (number_in numbers g) ≡ true) → AllQuiet quiet (graph_for numbers h).blocks
unfolding str_add_makes
helper_quiet quiet numbers helper.PrintWord told = calm_blocks quiet (graph_for numbers helper.PrintWord).blocks refl (told shared.PrintDigits refl, (told shared.PrintDigits refl, tt))
helper_quiet quiet numbers helper.PrintBool told = calm_blocks quiet (graph_for numbers helper.PrintBool).blocks refl tt
helper_quiet quiet numbers helper.WordDiv told = calm_blocks quiet (graph_for numbers helper.WordDiv).blocks refl tt
helper_quiet quiet numbers helper.WordMod told = calm_blocks quiet (graph_for numbers helper.WordMod).blocks refl tt
helper_quiet quiet numbers helper.WordShl told = calm_blocks quiet (graph_for numbers helper.WordShl).blocks refl tt
helper_quiet quiet numbers helper.WordShr told = calm_blocks quiet (graph_for numbers helper.WordShr).blocks refl tt
helper_quiet quiet numbers helper.WordChr told = calm_blocks quiet (graph_for numbers helper.WordChr).blocks refl tt
helper_quiet quiet numbers helper.WordMin told = calm_blocks quiet (graph_for numbers helper.WordMin).blocks refl tt
helper_quiet quiet numbers helper.WordMax told = calm_blocks quiet (graph_for numbers helper.WordMax).blocks refl tt
helper_quiet quiet numbers helper.RangeUp told = calm_blocks quiet (graph_for numbers helper.RangeUp).blocks refl tt
helper_quiet quiet numbers helper.RangeDown told = calm_blocks quiet (graph_for numbers helper.RangeDown).blocks refl tt
helper_quiet quiet numbers helper.IsDigit told = calm_blocks quiet (graph_for numbers helper.IsDigit).blocks refl tt
helper_quiet quiet numbers helper.IsAlpha told = calm_blocks quiet (graph_for numbers helper.IsAlpha).blocks refl tt
helper_quiet quiet numbers helper.IsSpace told = calm_blocks quiet (graph_for numbers helper.IsSpace).blocks refl tt
helper_quiet quiet numbers helper.PrintStr told = calm_blocks quiet (graph_for numbers helper.PrintStr).blocks refl (told shared.PutBytes refl, tt)
helper_quiet quiet numbers helper.StrWrite told = calm_blocks quiet (graph_for numbers helper.StrWrite).blocks refl (told shared.PutBytes refl, tt)
helper_quiet quiet numbers helper.StrOfChar told = calm_blocks quiet (graph_for numbers helper.StrOfChar).blocks refl tt
helper_quiet quiet numbers helper.StrOfWord told =
    calm_blocks quiet (graph_for numbers helper.StrOfWord).blocks refl (told shared.CountDigits refl, (told shared.WriteDigits refl, (told shared.CountDigits refl, (told shared.WriteDigits refl, tt))))
helper_quiet quiet numbers helper.StrOfBool told = calm_blocks quiet (graph_for numbers helper.StrOfBool).blocks refl tt
helper_quiet quiet numbers helper.StrAdd told =
    calm_blocks quiet (graph_for numbers helper.StrAdd).blocks refl (told shared.StringPart refl, (told shared.StringPart refl, (told shared.CopyBytes refl, (told shared.CopyBytes refl, tt))))
helper_quiet quiet numbers helper.StrMul told =
    calm_blocks quiet (graph_for numbers helper.StrMul).blocks refl (told shared.StringPart refl, (told shared.StringPart refl, (told shared.RepeatBytes refl, tt)))
helper_quiet quiet numbers helper.StrIndex told = calm_blocks quiet (graph_for numbers helper.StrIndex).blocks refl tt
helper_quiet quiet numbers helper.StrSlice told = calm_blocks quiet (graph_for numbers helper.StrSlice).blocks refl (told shared.StringPart refl, (told shared.StringPart refl, tt))
helper_quiet quiet numbers helper.StrButLast told = calm_blocks quiet (graph_for numbers helper.StrButLast).blocks refl (told shared.StringPart refl, tt)
helper_quiet quiet numbers helper.StrLen told = calm_blocks quiet (graph_for numbers helper.StrLen).blocks refl tt
helper_quiet quiet numbers helper.StrTruth told = calm_blocks quiet (graph_for numbers helper.StrTruth).blocks refl tt
helper_quiet quiet numbers helper.StrEqual told = calm_blocks quiet (graph_for numbers helper.StrEqual).blocks refl (told shared.AlikeBytes refl, tt)
helper_quiet quiet numbers helper.StrLess told = calm_blocks quiet (graph_for numbers helper.StrLess).blocks refl (told shared.LessBytes refl, tt)
helper_quiet quiet numbers helper.StrContains told = calm_blocks quiet (graph_for numbers helper.StrContains).blocks refl (told shared.FindBytes refl, tt)
helper_quiet quiet numbers helper.StrFind told = calm_blocks quiet (graph_for numbers helper.StrFind).blocks refl (told shared.FindBytes refl, tt)
helper_quiet quiet numbers helper.StrStartsWith told = calm_blocks quiet (graph_for numbers helper.StrStartsWith).blocks refl (told shared.AlikeBytes refl, tt)
helper_quiet quiet numbers helper.StrEndsWith told = calm_blocks quiet (graph_for numbers helper.StrEndsWith).blocks refl (told shared.AlikeBytes refl, tt)
helper_quiet quiet numbers helper.StrStrip told =
    calm_blocks quiet (graph_for numbers helper.StrStrip).blocks refl (told shared.SkipForwards refl, (told shared.SkipBackwards refl, (told shared.StringPart refl, tt)))
helper_quiet quiet numbers helper.StrWalk told = calm_blocks quiet (graph_for numbers helper.StrWalk).blocks refl tt
helper_quiet quiet numbers helper.StrHasItem told = calm_blocks quiet (graph_for numbers helper.StrHasItem).blocks refl tt
helper_quiet quiet numbers helper.StrItem told = calm_blocks quiet (graph_for numbers helper.StrItem).blocks refl tt

-- ---- their numbers

no_less : (n : ℕ) (b : Bool) → n ≤ one_more n b
no_less n true = omega arith
no_less n false = omega arith

from_no_less : (needs : List Need) (g : Shared) (n : ℕ) (os : List Shared) → n ≤ number_from needs g n os
from_no_less needs g n [] = omega arith
from_no_less needs g n (o ∷ os) =
    let a : n ≤ one_more n (stands_before needs o g) = no_less n (stands_before needs o g) in
    let b : one_more n (stands_before needs o g) ≤ number_from needs g (one_more n (stands_before needs o g)) os = from_no_less needs g (one_more n (stands_before needs o g)) os in
    omega (arith, a, b)

-- they come behind those of the needs
pub number_behind_needs : (needs : List Need) (table : ℕ) (g : Shared) → length needs ≤ number_in (numbers_of needs all_shared table) g
number_behind_needs needs table shared.PrintDigits = from_no_less needs shared.PrintDigits (length needs) all_shared
number_behind_needs needs table shared.PutBytes = from_no_less needs shared.PutBytes (length needs) all_shared
number_behind_needs needs table shared.CopyBytes = from_no_less needs shared.CopyBytes (length needs) all_shared
number_behind_needs needs table shared.StringPart = from_no_less needs shared.StringPart (length needs) all_shared
number_behind_needs needs table shared.RepeatBytes = from_no_less needs shared.RepeatBytes (length needs) all_shared
number_behind_needs needs table shared.AlikeBytes = from_no_less needs shared.AlikeBytes (length needs) all_shared
number_behind_needs needs table shared.FindBytes = from_no_less needs shared.FindBytes (length needs) all_shared
number_behind_needs needs table shared.LessBytes = from_no_less needs shared.LessBytes (length needs) all_shared
number_behind_needs needs table shared.CountDigits = from_no_less needs shared.CountDigits (length needs) all_shared
number_behind_needs needs table shared.WriteDigits = from_no_less needs shared.WriteDigits (length needs) all_shared
number_behind_needs needs table shared.IsSpace = from_no_less needs shared.IsSpace (length needs) all_shared
number_behind_needs needs table shared.SkipForwards = from_no_less needs shared.SkipForwards (length needs) all_shared
number_behind_needs needs table shared.SkipBackwards = from_no_less needs shared.SkipBackwards (length needs) all_shared

-- a need by which a graph is used
pub record UsedBy (needs : List Need) (g : Shared) : Type 0 where
  pub place : ℕ
  pub need : Need
  pub there : slice_get needs place ≡ Some need
  pub use_it : uses g need.helper ≡ true

used_here : (need : Need) (needs : List Need) (g : Shared) (b : Bool) → uses g need.helper ≡ b → (is_used needs g ≡ true → UsedBy needs g) → (b || is_used needs g) ≡ true → UsedBy (need ∷ needs) g
used_here need needs g true e further k = record { place = 0; need = need; there = refl; use_it = e }
used_here need needs g false e further k = (let it = further k in record { place = suc it.place; need = it.need; there = it.there; use_it = it.use_it })

pub used_by : (needs : List Need) (g : Shared) → is_used needs g ≡ true → UsedBy needs g
used_by [] g h = absurd (cc)
used_by (need ∷ needs) g h = used_here need needs g (uses g need.helper) refl (λ k. used_by needs g k) h

-- what stands behind the graphs of the needs is that of a graph that is used
pub record IsShared (needs : List Need) (numbers : Numbers) (x : LlGraph) : Type 0 where
  pub graph : Shared
  pub used : is_used needs graph ≡ true
  pub is : shared_graph numbers graph ≡ x

shared_here : (numbers : Numbers) (needs : List Need) (o : Shared) (rest : List LlGraph) (x : LlGraph) (b : Bool) → is_used needs o ≡ b → ((k : ℕ) → slice_get rest k ≡ Some x → IsShared needs numbers x)
    → (k : ℕ) → slice_get (cond b (shared_graph numbers o ∷ []) [] ++ rest) k ≡ Some x → IsShared needs numbers x
shared_here numbers needs o rest x true u further zero f = record { graph = o; used = u; is = (let q : Some (shared_graph numbers o) ≡ Some x = f in let r : shared_graph numbers o ≡ x = cc in r) }
shared_here numbers needs o rest x true u further (suc k) f = further k f
shared_here numbers needs o rest x false u further k f = further k f

pub shared_at : (numbers : Numbers) (needs : List Need) (os : List Shared) (k : ℕ) (x : LlGraph) → slice_get (shared_graphs numbers needs os) k ≡ Some x → IsShared needs numbers x
shared_at numbers needs [] k x e = absurd (cc)
shared_at numbers needs (o ∷ os) k x e = shared_here numbers needs o (shared_graphs numbers needs os) x (is_used needs o) refl (λ i f. shared_at numbers needs os i x f) k e

pub behind_front : {A : Type 0} (xs ys : List A) (n : ℕ) (x : A) → slice_get (xs ++ ys) n ≡ Some x → length xs ≤ n → (k : ℕ) × (slice_get ys k ≡ Some x)
behind_front [] ys n x e h = (n, e)
behind_front (z ∷ xs) ys zero x e h = absurd (omega (arith, h))
behind_front (z ∷ xs) ys (suc n) x e h = behind_front xs ys n x e (omega (arith, h))
