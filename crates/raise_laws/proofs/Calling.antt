-- What helpers call never fails, and what they do before they fail only sets variables.
use Rattle.std.proofs.Common.{◌≡◌, ◌≢◌, ◌⊎◌, inl, inr, ℕ, zero, suc, Bool, true, false, ◌||◌, ◌&&◌, List, [], ◌∷◌, ◌++◌, Option, Some, refl, sym, ap, ◌∙◌, subst, arith}
use Rattle.std.specs.Prelude.{slice_get, slice_index_or}
use Rattle.csub_tree.specs.State.{Value, Core}
use Rattle.csub_tree.specs.declared.tree.COperand.{COperand}
use Rattle.ll_code.specs.declared.program.LlType.{LlType}
use Rattle.ll_code.specs.declared.program.LlOp.{LlOp}
use Rattle.ll_code.specs.declared.program.LlOp.TheVariants as op
use Rattle.ll_code.specs.declared.program.LlExit.{LlExit}
use Rattle.ll_code.specs.declared.program.LlExit.TheVariants as exit
use Rattle.ll_code.specs.declared.program.LlBlock.{LlBlock}
use Rattle.ll_code.specs.declared.program.LlGraph.{LlGraph}
use Rattle.ll_code.specs.declared.program.LlProgram.{LlProgram}
use Rattle.ll_build.specs.Needs.{uses}
use Rattle.ll_build.specs.declared.needs.Helper.{Helper}
use Rattle.ll_build.specs.declared.needs.Helper.TheVariants as helper
use Rattle.ll_build.specs.declared.needs.Numbers.{Numbers}
use Rattle.ll_build.specs.declared.needs.Shared.{Shared}
use Rattle.ll_build.specs.declared.needs.Shared.TheVariants as shared
use Rattle.ll_helpers.specs.Helpers.{graph_for, shared_graph}
use Rattle.ll_helpers.specs.StringsMake.{str_add_makes}
use Rattle.ll_strings.specs.Laws.{HasHelper, number_in}
use Rattle.rpy_meaning.specs.declared.row.Covers.{Covers}
use Rattle.rtyper_data.specs.Finding.{nothing, failures_of}
use Rattle.rtyper_raising.specs.Raising.{raising_graph}
use Rattle.raise_laws.specs.Helpers.{HasRaisingHelper}
use Rattle.raise_laws.specs.Raising.{IsRaising, NeverFails, Never, all_only_set, gives_back, with_graph}
use Rattle.raise_laws.proofs.Blocks.{get_other, get_same}

-- ---- the calls of a graph

abbrev calls_in : List LlOp → List ℕ
calls_in [] = []
calls_in (op.Call into g xs ∷ ops) = g ∷ calls_in ops
calls_in (o ∷ ops) = calls_in ops

abbrev calls_of : List LlBlock → List ℕ
calls_of [] = []
calls_of (block ∷ blocks) = calls_in block.ops ++ calls_of blocks

abbrev has_value_call : List LlOp → Bool
has_value_call [] = false
has_value_call (op.CallFn into result params b xs ∷ ops) = true
has_value_call (o ∷ ops) = has_value_call ops

abbrev have_value_calls : List LlBlock → Bool
have_value_calls [] = false
have_value_calls (block ∷ blocks) = has_value_call block.ops || have_value_calls blocks

abbrev All : (ℕ → Type 0) → List ℕ → Type 0
All good [] = Unit {0}
All good (g ∷ gs) = good g × All good gs

all_left : (good : ℕ → Type 0) (xs ys : List ℕ) → All good (xs ++ ys) → All good xs
all_left good [] ys h = tt
all_left good (x ∷ xs) ys (h, hs) = (h, all_left good xs ys hs)

all_right : (good : ℕ → Type 0) (xs ys : List ℕ) → All good (xs ++ ys) → All good ys
all_right good [] ys h = h
all_right good (x ∷ xs) ys (h, hs) = all_right good xs ys hs

rest_of : (good : ℕ → Type 0) (o : LlOp) (ops : List LlOp) → All good (calls_in (o ∷ ops)) → All good (calls_in ops)
rest_of good (op.Call into g xs) ops (h, hs) = hs
rest_of good other ops h = h

call_at : (good : ℕ → Type 0) (ops : List LlOp) (place : ℕ) (into : Option ℕ) (g : ℕ) (xs : List COperand) → slice_get ops place ≡ Some (op.Call into g xs) → All good (calls_in ops) → good g
call_at good [] place into g xs e h = absurd (cc)
call_at good (o ∷ ops) zero into g xs e h = let same : o ≡ op.Call into g xs = cc in one (subst (λ (o : LlOp). All good (calls_in (o ∷ ops))) same h)
  where
    one : good g × All good (calls_in ops) → good g
    one (k, ks) = k
call_at good (o ∷ ops) (suc place) into g xs e h = call_at good ops place into g xs e (rest_of good o ops h)

block_at : (good : ℕ → Type 0) (blocks : List LlBlock) (n : ℕ) (block : LlBlock) → slice_get blocks n ≡ Some block → All good (calls_of blocks) → All good (calls_in block.ops)
block_at good [] n block e h = absurd (cc)
block_at good (b ∷ blocks) zero block e h = let same : b ≡ block = cc in subst (λ (b : LlBlock). All good (calls_in b.ops)) same (all_left good (calls_in b.ops) (calls_of blocks) h)
block_at good (b ∷ blocks) (suc n) block e h = block_at good blocks n block e (all_right good (calls_in b.ops) (calls_of blocks) h)

-- ---- calls of function values

or_false_left : (a b : Bool) → (a || b) ≡ false → a ≡ false
or_false_left true b h = h
or_false_left false b h = refl

or_false_right : (a b : Bool) → (a || b) ≡ false → b ≡ false
or_false_right true b h = absurd (cc)
or_false_right false b h = h

rest_apart : (o : LlOp) (ops : List LlOp) → has_value_call (o ∷ ops) ≡ false → has_value_call ops ≡ false
rest_apart (op.CallFn into result params b xs) ops h = absurd (cc)
rest_apart other ops h = h

no_call_at : (ops : List LlOp) (place : ℕ) (into : Option ℕ) (result : LlType) (params : List LlType) (b : ℕ) (xs : List COperand) → slice_get ops place ≡ Some (op.CallFn into result params b xs) → has_value_call ops ≡ false → ⊥
no_call_at [] place into result params b xs e h = cc
no_call_at (o ∷ ops) zero into result params b xs e h =
    let same : o ≡ op.CallFn into result params b xs = cc in let k : has_value_call (op.CallFn into result params b xs ∷ ops) ≡ false = subst (λ (o : LlOp). has_value_call (o ∷ ops) ≡ false) same h in absurd (one k)
  where
    one : true ≡ false → ⊥
    one h = cc
no_call_at (o ∷ ops) (suc place) into result params b xs e h = no_call_at ops place into result params b xs e (rest_apart o ops h)

no_block_at : (blocks : List LlBlock) (n : ℕ) (block : LlBlock) → slice_get blocks n ≡ Some block → have_value_calls blocks ≡ false → has_value_call block.ops ≡ false
no_block_at [] n block e h = absurd (cc)
no_block_at (b ∷ blocks) zero block e h = let same : b ≡ block = cc in subst (λ (b : LlBlock). has_value_call b.ops ≡ false) same (or_false_left (has_value_call b.ops) (have_value_calls blocks) h)
no_block_at (b ∷ blocks) (suc n) block e h = no_block_at blocks n block e (or_false_right (has_value_call b.ops) (have_value_calls blocks) h)

-- ---- blocks

abbrev no_failure : LlExit → Bool
no_failure (exit.Fail n) = false
no_failure other = true

abbrev no_failures : List LlBlock → Bool
no_failures [] = true
no_failures (block ∷ blocks) = no_failure block.exit && no_failures blocks

abbrev work_last : List LlBlock → Bool
work_last [] = true
work_last (block ∷ blocks) = (all_only_set block.ops || gives_back block.exit) && work_last blocks

and_first : (a b : Bool) → (a && b) ≡ true → a ≡ true
and_first true b h = refl
and_first false b h = h

and_second : (a b : Bool) → (a && b) ≡ true → b ≡ true
and_second true b h = h
and_second false b h = absurd (cc)

nowhere : (blocks : List LlBlock) → no_failures blocks ≡ true → (n : ℕ) (block : LlBlock) (number : ℕ) → slice_get blocks n ≡ Some block → block.exit ≡ exit.Fail number → ⊥
nowhere [] h n block number e k = absurd (cc)
nowhere (b ∷ blocks) h zero block number e k = (let same : b ≡ block = cc in let q : no_failure (exit.Fail number) ≡ true = subst (λ e. no_failure e ≡ true) (ap (λ (c : LlBlock). c.exit) same ∙ k) (and_first (no_failure b.exit) (no_failures blocks) h) in absurd (cc))
nowhere (b ∷ blocks) h (suc n) block number e k = nowhere blocks (and_second (no_failure b.exit) (no_failures blocks) h) n block number e k

works_last : (blocks : List LlBlock) → work_last blocks ≡ true → (n : ℕ) (block : LlBlock) → slice_get blocks n ≡ Some block → (all_only_set block.ops || gives_back block.exit) ≡ true
works_last [] h n block e = absurd (cc)
works_last (b ∷ blocks) h zero block e = (let same : b ≡ block = cc in subst (λ (c : LlBlock). (all_only_set c.ops || gives_back c.exit) ≡ true) same (and_first (all_only_set b.ops || gives_back b.exit) (work_last blocks) h))
works_last (b ∷ blocks) h (suc n) block e = works_last blocks (and_second (all_only_set b.ops || gives_back b.exit) (work_last blocks) h) n block e

-- ---- graphs

module _ (p : LlProgram) (numbers : Numbers) (f : ℕ) where
  never : (g : ℕ) (graph : LlGraph) → g ≢ f → slice_get p.graphs g ≡ Some graph → no_failures graph.blocks ≡ true → have_value_calls graph.blocks ≡ false → All (NeverFails p f) (calls_of graph.blocks) → NeverFails p f g
  never g graph apart at none values all =
      Never graph apart at (nowhere graph.blocks none)
      (λ into result params b xs h. no_call_at h.block.ops h.place into result params b xs h.at (no_block_at graph.blocks h.n h.block h.of values))
      (λ into k xs h. call_at (NeverFails p f) h.block.ops h.place into k xs h.at (block_at (NeverFails p f) graph.blocks h.n h.block h.of all))

  -- it stands at its number, which is another
  abbrev pub At : Shared → Type 0
  At g = (number_in numbers g ≢ f) × (slice_get p.graphs (number_in numbers g) ≡ Some (shared_graph numbers g))

  copy_bytes : At shared.CopyBytes → NeverFails p f numbers.copy_bytes
  copy_bytes a = never numbers.copy_bytes (shared_graph numbers shared.CopyBytes) a.0 a.1 refl refl tt

  alike_bytes : At shared.AlikeBytes → NeverFails p f numbers.alike_bytes
  alike_bytes a = never numbers.alike_bytes (shared_graph numbers shared.AlikeBytes) a.0 a.1 refl refl tt

  is_space : At shared.IsSpace → NeverFails p f numbers.is_space
  is_space a = never numbers.is_space (shared_graph numbers shared.IsSpace) a.0 a.1 refl refl tt

  string_part : At shared.StringPart → At shared.CopyBytes → NeverFails p f numbers.string_part
  string_part a b = never numbers.string_part (shared_graph numbers shared.StringPart) a.0 a.1 refl refl (copy_bytes b, tt)

  repeat_bytes : At shared.RepeatBytes → At shared.CopyBytes → NeverFails p f numbers.repeat_bytes
  repeat_bytes a b = never numbers.repeat_bytes (shared_graph numbers shared.RepeatBytes) a.0 a.1 refl refl (copy_bytes b, tt)

  find_bytes : At shared.FindBytes → At shared.AlikeBytes → NeverFails p f numbers.find_bytes
  find_bytes a b = never numbers.find_bytes (shared_graph numbers shared.FindBytes) a.0 a.1 refl refl (alike_bytes b, tt)

  skip_forwards : At shared.SkipForwards → At shared.IsSpace → NeverFails p f numbers.skip_forwards
  skip_forwards a b = never numbers.skip_forwards (shared_graph numbers shared.SkipForwards) a.0 a.1 refl refl (is_space b, tt)

  skip_backwards : At shared.SkipBackwards → At shared.IsSpace → NeverFails p f numbers.skip_backwards
  skip_backwards a b = never numbers.skip_backwards (shared_graph numbers shared.SkipBackwards) a.0 a.1 refl refl (is_space b, tt)

  -- ---- helpers that may raise

  abbrev Calls : Helper → Type 0
  Calls h = All (NeverFails p f) (calls_of (graph_for numbers h).blocks)

  pub record Fits (h : Helper) : Type 0 where
    pub works : work_last (graph_for numbers h).blocks ≡ true
    pub values : have_value_calls (graph_for numbers h).blocks ≡ false
    pub calls : Calls h

  -- each other one has none
  pub fits : (h : Helper) → ((g : Shared) → uses g h ≡ true → At g) → Fits h ⊎ ((c : Covers) → failures_of h c ≡ nothing)
  unfolding str_add_makes
  fits helper.WordDiv at = inl (record { works = refl; values = refl; calls = tt })
  fits helper.WordMod at = inl (record { works = refl; values = refl; calls = tt })
  fits helper.WordShl at = inl (record { works = refl; values = refl; calls = tt })
  fits helper.WordShr at = inl (record { works = refl; values = refl; calls = tt })
  fits helper.WordChr at = inl (record { works = refl; values = refl; calls = tt })
  fits helper.StrIndex at = inl (record { works = refl; values = refl; calls = tt })
  fits helper.StrLen at = inl (record { works = refl; values = refl; calls = tt })
  fits helper.StrWalk at = inl (record { works = refl; values = refl; calls = tt })
  fits helper.StrAdd at = inl (record { works = refl; values = refl; calls = (string_part (at shared.StringPart refl) (at shared.CopyBytes refl), (string_part (at shared.StringPart refl) (at shared.CopyBytes refl), (copy_bytes (at shared.CopyBytes refl), (copy_bytes (at shared.CopyBytes refl), tt)))) })
  fits helper.StrMul at = inl (record { works = refl; values = refl; calls = (string_part (at shared.StringPart refl) (at shared.CopyBytes refl), (string_part (at shared.StringPart refl) (at shared.CopyBytes refl), (repeat_bytes (at shared.RepeatBytes refl) (at shared.CopyBytes refl), tt))) })
  fits helper.StrSlice at = inl (record { works = refl; values = refl; calls = (string_part (at shared.StringPart refl) (at shared.CopyBytes refl), (string_part (at shared.StringPart refl) (at shared.CopyBytes refl), tt)) })
  fits helper.StrButLast at = inl (record { works = refl; values = refl; calls = (string_part (at shared.StringPart refl) (at shared.CopyBytes refl), tt) })
  fits helper.StrContains at = inl (record { works = refl; values = refl; calls = (find_bytes (at shared.FindBytes refl) (at shared.AlikeBytes refl), tt) })
  fits helper.StrFind at = inl (record { works = refl; values = refl; calls = (find_bytes (at shared.FindBytes refl) (at shared.AlikeBytes refl), tt) })
  fits helper.StrStartsWith at = inl (record { works = refl; values = refl; calls = (alike_bytes (at shared.AlikeBytes refl), tt) })
  fits helper.StrEndsWith at = inl (record { works = refl; values = refl; calls = (alike_bytes (at shared.AlikeBytes refl), tt) })
  fits helper.StrStrip at = inl (record { works = refl; values = refl; calls = (skip_forwards (at shared.SkipForwards refl) (at shared.IsSpace refl), (skip_backwards (at shared.SkipBackwards refl) (at shared.IsSpace refl), (string_part (at shared.StringPart refl) (at shared.CopyBytes refl), tt))) })
  fits _ at = inr (λ c. refl)

-- ---- numbers are apart, for graphs have names

other_name : (numbers : Numbers) (g : Shared) (h : Helper) → uses g h ≡ true → (shared_graph numbers g).name ≡ (graph_for numbers h).name → ⊥
other_name numbers shared.PrintDigits helper.PrintWord u e = (let q : 100 ≡ 119 = ap (λ name. slice_index_or name 6 0) e in absurd (omega (arith, q)))
other_name numbers shared.PrintDigits _ u e = absurd (cc)
other_name numbers shared.PutBytes helper.PrintStr u e = (let q : 117 ≡ 114 = ap (λ name. slice_index_or name 1 0) e in absurd (omega (arith, q)))
other_name numbers shared.PutBytes helper.StrWrite u e = (let q : 112 ≡ 115 = ap (λ name. slice_index_or name 0 0) e in absurd (omega (arith, q)))
other_name numbers shared.PutBytes _ u e = absurd (cc)
other_name numbers shared.CopyBytes helper.StrAdd u e = (let q : 99 ≡ 115 = ap (λ name. slice_index_or name 0 0) e in absurd (omega (arith, q)))
other_name numbers shared.CopyBytes helper.StrMul u e = (let q : 99 ≡ 115 = ap (λ name. slice_index_or name 0 0) e in absurd (omega (arith, q)))
other_name numbers shared.CopyBytes helper.StrSlice u e = (let q : 99 ≡ 115 = ap (λ name. slice_index_or name 0 0) e in absurd (omega (arith, q)))
other_name numbers shared.CopyBytes helper.StrButLast u e = (let q : 99 ≡ 115 = ap (λ name. slice_index_or name 0 0) e in absurd (omega (arith, q)))
other_name numbers shared.CopyBytes helper.StrStrip u e = (let q : 99 ≡ 115 = ap (λ name. slice_index_or name 0 0) e in absurd (omega (arith, q)))
other_name numbers shared.CopyBytes _ u e = absurd (cc)
other_name numbers shared.StringPart helper.StrAdd u e = (let q : 105 ≡ 95 = ap (λ name. slice_index_or name 3 0) e in absurd (omega (arith, q)))
other_name numbers shared.StringPart helper.StrMul u e = (let q : 105 ≡ 95 = ap (λ name. slice_index_or name 3 0) e in absurd (omega (arith, q)))
other_name numbers shared.StringPart helper.StrSlice u e = (let q : 105 ≡ 95 = ap (λ name. slice_index_or name 3 0) e in absurd (omega (arith, q)))
other_name numbers shared.StringPart helper.StrButLast u e = (let q : 105 ≡ 95 = ap (λ name. slice_index_or name 3 0) e in absurd (omega (arith, q)))
other_name numbers shared.StringPart helper.StrStrip u e = (let q : 105 ≡ 95 = ap (λ name. slice_index_or name 3 0) e in absurd (omega (arith, q)))
other_name numbers shared.StringPart _ u e = absurd (cc)
other_name numbers shared.RepeatBytes helper.StrMul u e = (let q : 114 ≡ 115 = ap (λ name. slice_index_or name 0 0) e in absurd (omega (arith, q)))
other_name numbers shared.RepeatBytes _ u e = absurd (cc)
other_name numbers shared.AlikeBytes helper.StrEqual u e = (let q : 97 ≡ 115 = ap (λ name. slice_index_or name 0 0) e in absurd (omega (arith, q)))
other_name numbers shared.AlikeBytes helper.StrContains u e = (let q : 97 ≡ 115 = ap (λ name. slice_index_or name 0 0) e in absurd (omega (arith, q)))
other_name numbers shared.AlikeBytes helper.StrFind u e = (let q : 97 ≡ 115 = ap (λ name. slice_index_or name 0 0) e in absurd (omega (arith, q)))
other_name numbers shared.AlikeBytes helper.StrStartsWith u e = (let q : 97 ≡ 115 = ap (λ name. slice_index_or name 0 0) e in absurd (omega (arith, q)))
other_name numbers shared.AlikeBytes helper.StrEndsWith u e = (let q : 97 ≡ 115 = ap (λ name. slice_index_or name 0 0) e in absurd (omega (arith, q)))
other_name numbers shared.AlikeBytes _ u e = absurd (cc)
other_name numbers shared.FindBytes helper.StrContains u e = (let q : 102 ≡ 115 = ap (λ name. slice_index_or name 0 0) e in absurd (omega (arith, q)))
other_name numbers shared.FindBytes helper.StrFind u e = (let q : 102 ≡ 115 = ap (λ name. slice_index_or name 0 0) e in absurd (omega (arith, q)))
other_name numbers shared.FindBytes _ u e = absurd (cc)
other_name numbers shared.LessBytes helper.StrLess u e = (let q : 108 ≡ 115 = ap (λ name. slice_index_or name 0 0) e in absurd (omega (arith, q)))
other_name numbers shared.LessBytes _ u e = absurd (cc)
other_name numbers shared.CountDigits helper.StrOfWord u e = (let q : 99 ≡ 115 = ap (λ name. slice_index_or name 0 0) e in absurd (omega (arith, q)))
other_name numbers shared.CountDigits _ u e = absurd (cc)
other_name numbers shared.WriteDigits helper.StrOfWord u e = (let q : 119 ≡ 115 = ap (λ name. slice_index_or name 0 0) e in absurd (omega (arith, q)))
other_name numbers shared.WriteDigits _ u e = absurd (cc)
other_name numbers shared.IsSpace helper.StrStrip u e = (let q : 105 ≡ 115 = ap (λ name. slice_index_or name 0 0) e in absurd (omega (arith, q)))
other_name numbers shared.IsSpace _ u e = absurd (cc)
other_name numbers shared.SkipForwards helper.StrStrip u e = (let q : 107 ≡ 116 = ap (λ name. slice_index_or name 1 0) e in absurd (omega (arith, q)))
other_name numbers shared.SkipForwards _ u e = absurd (cc)
other_name numbers shared.SkipBackwards helper.StrStrip u e = (let q : 107 ≡ 116 = ap (λ name. slice_index_or name 1 0) e in absurd (omega (arith, q)))
other_name numbers shared.SkipBackwards _ u e = absurd (cc)

-- ---- what has a helper that raises

module _ (p : LlProgram) (numbers : Numbers) (raised : ℕ → Value) (h : Helper) (covers : Covers) (f : ℕ) (core : Core) (has : HasRaisingHelper p numbers raised h covers f core) where
  apart : (g : Shared) → uses g h ≡ true → number_in numbers g ≢ f
  apart g u e =
      let same : Some (shared_graph numbers g) ≡ Some (raising_graph covers (graph_for numbers h) has.raising.made) = sym (has.shared g u) ∙ ap (slice_get p.graphs) e ∙ has.raising.graph in
      let graphs : shared_graph numbers g ≡ raising_graph covers (graph_for numbers h) has.raising.made = cc in
      other_name numbers g h u (ap (λ (graph : LlGraph). graph.name) graphs)

  -- so has the program with the helper that fails it at its number
  pub has_plain : HasHelper (with_graph p f (graph_for numbers h)) numbers h f core
  has_plain = record {
    graph = get_same p.graphs f (raising_graph covers (graph_for numbers h) has.raising.made) (graph_for numbers h) has.raising.graph;
    shared = λ g u. get_other p.graphs f (number_in numbers g) (graph_for numbers h) (apart g u) ∙ has.shared g u;
    text = has.text;
    statics = λ n. (let s = has.statics n in record { shape = s.shape; empty = s.empty; singles = s.singles; strings = s.strings; listed = s.listed; count = s.count; each = s.each; yes = s.yes; no = s.no });
    small = has.small;
  }

  pub is_raising : Fits p numbers f h → IsRaising p raised covers f (graph_for numbers h)
  is_raising fits = record {
    made = has.raising.made;
    is = has.raising.graph;
    raises = has.raising.raises;
    calls = λ into k xs w. call_at (NeverFails p f) w.block.ops w.place into k xs w.at (block_at (NeverFails p f) (graph_for numbers h).blocks w.n w.block w.of fits.calls);
    values = λ into result params b xs w. no_call_at w.block.ops w.place into result params b xs w.at (no_block_at (graph_for numbers h).blocks w.n w.block w.of fits.values);
    last = works_last (graph_for numbers h).blocks fits.works;
  }

  pub graphs_apart : (g : Shared) → uses g h ≡ true → At p numbers f g
  graphs_apart g u = (apart g u, has.shared g u)
