-- The graph of each helper, with those that it calls, has few variables.
use Rattle.std.proofs.Common.{◌≡◌, ◌≤◌, ℕ, zero, suc, ◌+◌, Bool, true, false, ◌||◌, List, [], ◌∷◌, ◌++◌, length, Option, Some, refl, sym, subst, arith}
use Rattle.std.specs.Prelude.{slice_get}
use Rattle.csub_tree.specs.declared.tree.COperand.{COperand}
use Rattle.ll_code.specs.declared.program.LlType.{LlType}
use Rattle.ll_code.specs.declared.program.LlOp.{LlOp}
use Rattle.ll_code.specs.declared.program.LlOp.TheVariants as op
use Rattle.ll_code.specs.declared.program.LlBlock.{LlBlock}
use Rattle.ll_code.specs.declared.program.LlGraph.{LlGraph}
use Rattle.ll_code.specs.declared.program.LlProgram.{LlProgram}
use Rattle.ll_helpers.specs.Helpers.{graph_for, shared_graph}
use Rattle.ll_helpers.specs.StringsMake.{str_add_makes}
use Rattle.ll_build.specs.declared.needs.Helper.TheVariants as helper
use Rattle.ll_build.specs.declared.needs.Numbers.{Numbers}
use Rattle.ll_build.specs.declared.needs.Shared.{Shared}
use Rattle.ll_build.specs.declared.needs.Shared.TheVariants as shared
use Rattle.ll_leads.specs.Weight.{Weighs, Weigh}
use Rattle.ll_strings.specs.Laws.{number_in}
use Rattle.ll_strings.specs.Small.{most_variables, WeighsLittle}

-- ---- the calls of a graph

abbrev calls_in : List LlOp → List ℕ
calls_in [] = []
calls_in (op.Call into g xs ∷ ops) = g ∷ calls_in ops
calls_in (o ∷ ops) = calls_in ops

abbrev calls_of : List LlBlock → List ℕ
calls_of [] = []
calls_of (block ∷ blocks) = calls_in block.ops ++ calls_of blocks

abbrev has_value_call : List LlOp → Bool
has_value_call [] = false
has_value_call (op.CallFn into result params b xs ∷ ops) = true
has_value_call (o ∷ ops) = has_value_call ops

abbrev have_value_calls : List LlBlock → Bool
have_value_calls [] = false
have_value_calls (block ∷ blocks) = has_value_call block.ops || have_value_calls blocks

abbrev All : (ℕ → Type 0) → List ℕ → Type 0
All good [] = Unit {0}
All good (g ∷ gs) = good g × All good gs

all_left : (good : ℕ → Type 0) (xs ys : List ℕ) → All good (xs ++ ys) → All good xs
all_left good [] ys h = tt
all_left good (x ∷ xs) ys (h, hs) = (h, all_left good xs ys hs)

all_right : (good : ℕ → Type 0) (xs ys : List ℕ) → All good (xs ++ ys) → All good ys
all_right good [] ys h = h
all_right good (x ∷ xs) ys (h, hs) = all_right good xs ys hs

rest_of : (good : ℕ → Type 0) (o : LlOp) (ops : List LlOp) → All good (calls_in (o ∷ ops)) → All good (calls_in ops)
rest_of good (op.Call into g xs) ops (h, hs) = hs
rest_of good other ops h = h

call_at : (good : ℕ → Type 0) (ops : List LlOp) (place : ℕ) (into : Option ℕ) (g : ℕ) (xs : List COperand) → slice_get ops place ≡ Some (op.Call into g xs) → All good (calls_in ops) → good g
call_at good [] place into g xs e h = absurd (cc)
call_at good (o ∷ ops) zero into g xs e h = let same : o ≡ op.Call into g xs = cc in one (subst (λ (o : LlOp). All good (calls_in (o ∷ ops))) same h)
  where
    one : good g × All good (calls_in ops) → good g
    one (k, ks) = k
call_at good (o ∷ ops) (suc place) into g xs e h = call_at good ops place into g xs e (rest_of good o ops h)

block_at : (good : ℕ → Type 0) (blocks : List LlBlock) (n : ℕ) (block : LlBlock) → slice_get blocks n ≡ Some block → All good (calls_of blocks) → All good (calls_in block.ops)
block_at good [] n block e h = absurd (cc)
block_at good (b ∷ blocks) zero block e h = let same : b ≡ block = cc in subst (λ (b : LlBlock). All good (calls_in b.ops)) same (all_left good (calls_in b.ops) (calls_of blocks) h)
block_at good (b ∷ blocks) (suc n) block e h = block_at good blocks n block e (all_right good (calls_in b.ops) (calls_of blocks) h)

-- ---- calls of function values

or_false_left : (a b : Bool) → (a || b) ≡ false → a ≡ false
or_false_left true b h = h
or_false_left false b h = refl

or_false_right : (a b : Bool) → (a || b) ≡ false → b ≡ false
or_false_right true b h = absurd (cc)
or_false_right false b h = h

rest_apart : (o : LlOp) (ops : List LlOp) → has_value_call (o ∷ ops) ≡ false → has_value_call ops ≡ false
rest_apart (op.CallFn into result params b xs) ops h = absurd (cc)
rest_apart other ops h = h

no_call_at : (ops : List LlOp) (place : ℕ) (into : Option ℕ) (result : LlType) (params : List LlType) (b : ℕ) (xs : List COperand) → slice_get ops place ≡ Some (op.CallFn into result params b xs) → has_value_call ops ≡ false → ⊥
no_call_at [] place into result params b xs e h = cc
no_call_at (o ∷ ops) zero into result params b xs e h =
    let same : o ≡ op.CallFn into result params b xs = cc in let k : has_value_call (op.CallFn into result params b xs ∷ ops) ≡ false = subst (λ (o : LlOp). has_value_call (o ∷ ops) ≡ false) same h in absurd (one k)
  where
    one : true ≡ false → ⊥
    one h = cc
no_call_at (o ∷ ops) (suc place) into result params b xs e h = no_call_at ops place into result params b xs e (rest_apart o ops h)

no_block_at : (blocks : List LlBlock) (n : ℕ) (block : LlBlock) → slice_get blocks n ≡ Some block → have_value_calls blocks ≡ false → has_value_call block.ops ≡ false
no_block_at [] n block e h = absurd (cc)
no_block_at (b ∷ blocks) zero block e h = let same : b ≡ block = cc in subst (λ (b : LlBlock). has_value_call b.ops ≡ false) same (or_false_left (has_value_call b.ops) (have_value_calls blocks) h)
no_block_at (b ∷ blocks) (suc n) block e h = no_block_at blocks n block e (or_false_right (has_value_call b.ops) (have_value_calls blocks) h)

-- ---- graphs

module _ (p : LlProgram) where
  weigh : (f w below : ℕ) (graph : LlGraph) → slice_get p.graphs f ≡ Some graph → length graph.types + below ≤ w → length graph.params ≤ w → have_value_calls graph.blocks ≡ false → All (λ g. Weighs p g below) (calls_of graph.blocks) → Weighs p f w
  weigh f w below graph of le few apart all =
      Weigh graph below of le few (λ into g xs h. call_at (λ g. Weighs p g below) h.block.ops h.place into g xs h.at (block_at (λ g. Weighs p g below) graph.blocks h.n h.block h.of all))
      (λ into result params b xs h. no_call_at h.block.ops h.place into result params b xs h.at (no_block_at graph.blocks h.n h.block h.of apart))

  module _ (numbers : Numbers) where
    abbrev At : Shared → Type 0
    At g = slice_get p.graphs (number_in numbers g) ≡ Some (shared_graph numbers g)

    -- graphs that call none
    put_bytes : At shared.PutBytes → Weighs p numbers.put_bytes 16
    put_bytes h = weigh numbers.put_bytes 16 0 (shared_graph numbers shared.PutBytes) h (omega arith) (omega arith) refl tt

    copy_bytes : At shared.CopyBytes → Weighs p numbers.copy_bytes 16
    copy_bytes h = weigh numbers.copy_bytes 16 0 (shared_graph numbers shared.CopyBytes) h (omega arith) (omega arith) refl tt

    alike_bytes : At shared.AlikeBytes → Weighs p numbers.alike_bytes 16
    alike_bytes h = weigh numbers.alike_bytes 16 0 (shared_graph numbers shared.AlikeBytes) h (omega arith) (omega arith) refl tt

    less_bytes : At shared.LessBytes → Weighs p numbers.less_bytes 16
    less_bytes h = weigh numbers.less_bytes 16 0 (shared_graph numbers shared.LessBytes) h (omega arith) (omega arith) refl tt

    count_digits : At shared.CountDigits → Weighs p numbers.count_digits 16
    count_digits h = weigh numbers.count_digits 16 0 (shared_graph numbers shared.CountDigits) h (omega arith) (omega arith) refl tt

    write_digits : At shared.WriteDigits → Weighs p numbers.write_digits 16
    write_digits h = weigh numbers.write_digits 16 0 (shared_graph numbers shared.WriteDigits) h (omega arith) (omega arith) refl tt

    is_space : At shared.IsSpace → Weighs p numbers.is_space 16
    is_space h = weigh numbers.is_space 16 0 (shared_graph numbers shared.IsSpace) h (omega arith) (omega arith) refl tt

    -- graphs that call these
    string_part : At shared.StringPart → At shared.CopyBytes → Weighs p numbers.string_part 32
    string_part h c = weigh numbers.string_part 32 16 (shared_graph numbers shared.StringPart) h (omega arith) (omega arith) refl (copy_bytes c, tt)

    repeat_bytes : At shared.RepeatBytes → At shared.CopyBytes → Weighs p numbers.repeat_bytes 32
    repeat_bytes h c = weigh numbers.repeat_bytes 32 16 (shared_graph numbers shared.RepeatBytes) h (omega arith) (omega arith) refl (copy_bytes c, tt)

    find_bytes : At shared.FindBytes → At shared.AlikeBytes → Weighs p numbers.find_bytes 32
    find_bytes h a = weigh numbers.find_bytes 32 16 (shared_graph numbers shared.FindBytes) h (omega arith) (omega arith) refl (alike_bytes a, tt)

    skip_forwards : At shared.SkipForwards → At shared.IsSpace → Weighs p numbers.skip_forwards 32
    skip_forwards h s = weigh numbers.skip_forwards 32 16 (shared_graph numbers shared.SkipForwards) h (omega arith) (omega arith) refl (is_space s, tt)

    skip_backwards : At shared.SkipBackwards → At shared.IsSpace → Weighs p numbers.skip_backwards 32
    skip_backwards h s = weigh numbers.skip_backwards 32 16 (shared_graph numbers shared.SkipBackwards) h (omega arith) (omega arith) refl (is_space s, tt)

-- what weighs little weighs no more than this
at_most : (p : LlProgram) (f w v : ℕ) → w ≤ v → Weighs p f w → Weighs p f v
at_most p f w v up (Weigh graph below of le few calls apart) = Weigh graph below of (omega (arith, up, le)) (omega (arith, up, few)) calls apart

leaf : (p : LlProgram) (f : ℕ) (graph : LlGraph) → slice_get p.graphs f ≡ Some graph → length graph.types ≤ most_variables → length graph.params ≤ most_variables → have_value_calls graph.blocks ≡ false → calls_of graph.blocks ≡ [] → Weighs p f most_variables
leaf p f graph of le few apart none = weigh p f most_variables 0 graph of (omega (arith, le)) few apart (subst (All (λ g. Weighs p g 0)) (sym none) tt)

-- ---- helpers

pub weighs_little : WeighsLittle
unfolding str_add_makes
weighs_little p numbers helper.PrintWord f core apart h = absurd (apart refl)
weighs_little p numbers helper.PrintBool f core apart h = leaf p f (graph_for numbers helper.PrintBool) h.graph (omega arith) (omega arith) refl refl
weighs_little p numbers helper.WordDiv f core apart h = leaf p f (graph_for numbers helper.WordDiv) h.graph (omega arith) (omega arith) refl refl
weighs_little p numbers helper.WordMod f core apart h = leaf p f (graph_for numbers helper.WordMod) h.graph (omega arith) (omega arith) refl refl
weighs_little p numbers helper.WordShl f core apart h = leaf p f (graph_for numbers helper.WordShl) h.graph (omega arith) (omega arith) refl refl
weighs_little p numbers helper.WordShr f core apart h = leaf p f (graph_for numbers helper.WordShr) h.graph (omega arith) (omega arith) refl refl
weighs_little p numbers helper.WordChr f core apart h = leaf p f (graph_for numbers helper.WordChr) h.graph (omega arith) (omega arith) refl refl
weighs_little p numbers helper.WordMin f core apart h = leaf p f (graph_for numbers helper.WordMin) h.graph (omega arith) (omega arith) refl refl
weighs_little p numbers helper.WordMax f core apart h = leaf p f (graph_for numbers helper.WordMax) h.graph (omega arith) (omega arith) refl refl
weighs_little p numbers helper.RangeUp f core apart h = leaf p f (graph_for numbers helper.RangeUp) h.graph (omega arith) (omega arith) refl refl
weighs_little p numbers helper.RangeDown f core apart h = leaf p f (graph_for numbers helper.RangeDown) h.graph (omega arith) (omega arith) refl refl
weighs_little p numbers helper.IsDigit f core apart h = leaf p f (graph_for numbers helper.IsDigit) h.graph (omega arith) (omega arith) refl refl
weighs_little p numbers helper.IsAlpha f core apart h = leaf p f (graph_for numbers helper.IsAlpha) h.graph (omega arith) (omega arith) refl refl
weighs_little p numbers helper.IsSpace f core apart h = leaf p f (graph_for numbers helper.IsSpace) h.graph (omega arith) (omega arith) refl refl
weighs_little p numbers helper.PrintStr f core apart h = weigh p f most_variables 32 (graph_for numbers helper.PrintStr) h.graph (omega arith) (omega arith) refl (at_most p numbers.put_bytes 16 32 (omega arith) (put_bytes p numbers (h.shared shared.PutBytes refl)), tt)
weighs_little p numbers helper.StrWrite f core apart h = weigh p f most_variables 32 (graph_for numbers helper.StrWrite) h.graph (omega arith) (omega arith) refl (at_most p numbers.put_bytes 16 32 (omega arith) (put_bytes p numbers (h.shared shared.PutBytes refl)), tt)
weighs_little p numbers helper.StrOfChar f core apart h = leaf p f (graph_for numbers helper.StrOfChar) h.graph (omega arith) (omega arith) refl refl
weighs_little p numbers helper.StrOfWord f core apart h = weigh p f most_variables 32 (graph_for numbers helper.StrOfWord) h.graph (omega arith) (omega arith) refl (at_most p numbers.count_digits 16 32 (omega arith) (count_digits p numbers (h.shared shared.CountDigits refl)), (at_most p numbers.write_digits 16 32 (omega arith) (write_digits p numbers (h.shared shared.WriteDigits refl)), (at_most p numbers.count_digits 16 32 (omega arith) (count_digits p numbers (h.shared shared.CountDigits refl)), (at_most p numbers.write_digits 16 32 (omega arith) (write_digits p numbers (h.shared shared.WriteDigits refl)), tt))))
weighs_little p numbers helper.StrOfBool f core apart h = leaf p f (graph_for numbers helper.StrOfBool) h.graph (omega arith) (omega arith) refl refl
weighs_little p numbers helper.StrAdd f core apart h = weigh p f most_variables 32 (graph_for numbers helper.StrAdd) h.graph (omega arith) (omega arith) refl (string_part p numbers (h.shared shared.StringPart refl) (h.shared shared.CopyBytes refl), (string_part p numbers (h.shared shared.StringPart refl) (h.shared shared.CopyBytes refl), (at_most p numbers.copy_bytes 16 32 (omega arith) (copy_bytes p numbers (h.shared shared.CopyBytes refl)), (at_most p numbers.copy_bytes 16 32 (omega arith) (copy_bytes p numbers (h.shared shared.CopyBytes refl)), tt))))
weighs_little p numbers helper.StrMul f core apart h = weigh p f most_variables 32 (graph_for numbers helper.StrMul) h.graph (omega arith) (omega arith) refl (string_part p numbers (h.shared shared.StringPart refl) (h.shared shared.CopyBytes refl), (string_part p numbers (h.shared shared.StringPart refl) (h.shared shared.CopyBytes refl), (repeat_bytes p numbers (h.shared shared.RepeatBytes refl) (h.shared shared.CopyBytes refl), tt)))
weighs_little p numbers helper.StrIndex f core apart h = leaf p f (graph_for numbers helper.StrIndex) h.graph (omega arith) (omega arith) refl refl
weighs_little p numbers helper.StrSlice f core apart h = weigh p f most_variables 32 (graph_for numbers helper.StrSlice) h.graph (omega arith) (omega arith) refl (string_part p numbers (h.shared shared.StringPart refl) (h.shared shared.CopyBytes refl), (string_part p numbers (h.shared shared.StringPart refl) (h.shared shared.CopyBytes refl), tt))
weighs_little p numbers helper.StrButLast f core apart h = weigh p f most_variables 32 (graph_for numbers helper.StrButLast) h.graph (omega arith) (omega arith) refl (string_part p numbers (h.shared shared.StringPart refl) (h.shared shared.CopyBytes refl), tt)
weighs_little p numbers helper.StrLen f core apart h = leaf p f (graph_for numbers helper.StrLen) h.graph (omega arith) (omega arith) refl refl
weighs_little p numbers helper.StrTruth f core apart h = leaf p f (graph_for numbers helper.StrTruth) h.graph (omega arith) (omega arith) refl refl
weighs_little p numbers helper.StrEqual f core apart h = weigh p f most_variables 32 (graph_for numbers helper.StrEqual) h.graph (omega arith) (omega arith) refl (at_most p numbers.alike_bytes 16 32 (omega arith) (alike_bytes p numbers (h.shared shared.AlikeBytes refl)), tt)
weighs_little p numbers helper.StrLess f core apart h = weigh p f most_variables 32 (graph_for numbers helper.StrLess) h.graph (omega arith) (omega arith) refl (at_most p numbers.less_bytes 16 32 (omega arith) (less_bytes p numbers (h.shared shared.LessBytes refl)), tt)
weighs_little p numbers helper.StrContains f core apart h = weigh p f most_variables 32 (graph_for numbers helper.StrContains) h.graph (omega arith) (omega arith) refl (find_bytes p numbers (h.shared shared.FindBytes refl) (h.shared shared.AlikeBytes refl), tt)
weighs_little p numbers helper.StrFind f core apart h = weigh p f most_variables 32 (graph_for numbers helper.StrFind) h.graph (omega arith) (omega arith) refl (find_bytes p numbers (h.shared shared.FindBytes refl) (h.shared shared.AlikeBytes refl), tt)
weighs_little p numbers helper.StrStartsWith f core apart h = weigh p f most_variables 32 (graph_for numbers helper.StrStartsWith) h.graph (omega arith) (omega arith) refl (at_most p numbers.alike_bytes 16 32 (omega arith) (alike_bytes p numbers (h.shared shared.AlikeBytes refl)), tt)
weighs_little p numbers helper.StrEndsWith f core apart h = weigh p f most_variables 32 (graph_for numbers helper.StrEndsWith) h.graph (omega arith) (omega arith) refl (at_most p numbers.alike_bytes 16 32 (omega arith) (alike_bytes p numbers (h.shared shared.AlikeBytes refl)), tt)
weighs_little p numbers helper.StrStrip f core apart h = weigh p f most_variables 32 (graph_for numbers helper.StrStrip) h.graph (omega arith) (omega arith) refl (skip_forwards p numbers (h.shared shared.SkipForwards refl) (h.shared shared.IsSpace refl), (skip_backwards p numbers (h.shared shared.SkipBackwards refl) (h.shared shared.IsSpace refl), (string_part p numbers (h.shared shared.StringPart refl) (h.shared shared.CopyBytes refl), tt)))
weighs_little p numbers helper.StrWalk f core apart h = leaf p f (graph_for numbers helper.StrWalk) h.graph (omega arith) (omega arith) refl refl
weighs_little p numbers helper.StrHasItem f core apart h = leaf p f (graph_for numbers helper.StrHasItem) h.graph (omega arith) (omega arith) refl refl
weighs_little p numbers helper.StrItem f core apart h = leaf p f (graph_for numbers helper.StrItem) h.graph (omega arith) (omega arith) refl refl
