-- One step of the writing after another.
use Rattle.std.proofs.Common.{◌≡◌, ◌≤◌, ◌<◌, ℕ, zero, suc, pos, ◌+◌, ◌==◌, Bool, true, false, List, [], ◌∷◌, ◌++◌, length, Option, Some, None, refl, sym, ap, ◌∙◌, subst, arith, append_assoc, length-append}
use Rattle.std.specs.Prelude.{if◌then◌else◌, slice_get, unwrap_or}
use Rattle.std.proofs.lemmas.List.{append-nil}
use Rattle.csub_tree.specs.declared.tree.CConst.{CConst}
use Rattle.csub_tree.specs.declared.tree.CConst.TheVariants as constant
use Rattle.csub_tree.specs.declared.tree.COperand.{COperand}
use Rattle.csub_tree.specs.declared.tree.COperand.TheVariants.{Var, Const}
use Rattle.ll_code.specs.declared.program.LlType.{LlType}
use Rattle.ll_code.specs.declared.program.LlType.TheVariants as type
use Rattle.ll_code.specs.declared.program.LlOp.{LlOp}
use Rattle.ll_code.specs.declared.program.LlGraph.{LlGraph}
use Rattle.ll_code.specs.declared.program.LlProgram.{LlProgram}
use Rattle.ll_live.specs.Live.{among, variables_in, variables_of, reads, set_by}
use Rattle.rtyper_data.specs.declared.found.Found.{Found}
use Rattle.rtyper_data.specs.declared.body.Body.{Body}
use Rattle.rtyper_data.specs.Seen.{Operand, operand_at, Writing, writing, with_op, fresh, push}
use Rattle.growth_laws.specs.Growing.{Grows}
use Rattle.growth_laws.proofs.Growing.{growth_is_one, same_found}
use Rattle.throw_laws.specs.Pieces.{AllIn}
use Rattle.throw_laws.specs.Ready.{AllFit, OpFits, ReadIn, TakesOf, through, with_set}
use Rattle.catch_laws.proofs.Reading.{both_in, here_in, none_in, one_in, read_append, right_in, through_append, through_more}
use Rattle.reading_laws.specs.Tidy.{AreSet, AreThere, IsSet, IsThere, Setup, StepsFollow, Tidy, Wider, taken, target}

-- ---- operands

pub held : (c : CConst) (s : List ℕ) → IsSet (Const c) s
held c s = record { it = none_in s }

pub variable : (v : ℕ) (s : List ℕ) → among v s ≡ true → IsSet (Var v) s
variable v s h = record { it = one_in v s h }

pub among_set : (v : ℕ) (s : List ℕ) → IsSet (Var v) s → among v s ≡ true
among_set v s h = h.it v (here_in v [])

pub sets_in : (xs : List COperand) (s : List ℕ) → AreSet xs s → AllIn (variables_in xs) s
sets_in [] s h = none_in s
sets_in (x ∷ xs) s h = both_in (variables_of x) (variables_in xs) s h.0.it (sets_in xs s h.1)

pub more : {s t : List ℕ} {x : COperand} → Wider s t → IsSet x s → IsSet x t
more m h = record { it = λ v k. m.it v (h.it v k) }

pub wider : {s t u : List ℕ} → Wider s t → Wider t u → Wider s u
wider m n = record { it = λ v k. n.it v (m.it v k) }

pub all_more : {s t : List ℕ} (xs : List COperand) → Wider s t → AreSet xs s → AreSet xs t
all_more [] m h = tt
all_more (x ∷ xs) m h = (more m h.0, all_more xs m h.1)

pub there_more : {f : Setup} {s t : List ℕ} {a : Operand} → Wider s t → IsThere f a s → IsThere f a t
there_more m h = record { inside = more m h.inside; typed = h.typed }

pub args_more : {s t : List ℕ} (f : Setup) (args : List Operand) → Wider s t → AreThere f args s → AreThere f args t
args_more f [] m h = tt
args_more f (a ∷ args) m h = (there_more m h.0, args_more f args m h.1)

pub both_set : (s : List ℕ) (xs ys : List COperand) → AreSet xs s → AreSet ys s → AreSet (xs ++ ys) s
both_set s [] ys h k = k
both_set s (x ∷ xs) ys h k = (h.0, both_set s xs ys h.1 k)

pub target_set : (s : List ℕ) (t : LlType) (v : ℕ) → IsSet (Var v) s → AreSet (target t v) s
target_set s type.Void v h = tt
target_set s type.Signed v h = (h, tt)
target_set s type.Char v h = (h, tt)
target_set s type.Bool v h = (h, tt)
target_set s type.Fn v h = (h, tt)
target_set s (type.Ptr n) v h = (h, tt)

-- ---- steps

fit_append : (p : LlProgram) (n : ℕ) (xs ys : List LlOp) → AllFit p n xs → AllFit p n ys → AllFit p n (xs ++ ys)
fit_append p n [] ys h k = k
fit_append p n (x ∷ xs) ys h k = (h.0, fit_append p n xs ys h.1 k)

-- what is longer has more
no_longer : (before new after : List LlType) (n : ℕ) → after ≡ before ++ new → length after ≤ n → length before ≤ n
no_longer before new after n e h = let q : length after ≡ length before + length new = ap (λ (ts : List LlType). length ts) e ∙ length-append before new in omega (arith, q, h)

pub steps_follow : StepsFollow
steps_follow f s xs ys a b c one next =
    let two : Tidy f (through one.ops s) ys b c = next (through one.ops s) (record { it = through_more one.ops s }) one.sets in record {
      ops = one.ops ++ two.ops;
      new = one.new ++ two.new;
      written = two.written ∙ ap (λ (ops : List LlOp). ops ++ two.ops) one.written ∙ append_assoc a.body.ops one.ops two.ops;
      types = two.types ∙ ap (λ (ts : List LlType). ts ++ two.new) one.types ∙ append_assoc a.body.types one.new two.new;
      grows = growth_is_one a.found b.found c.found one.grows two.grows;
      reads = read_append one.ops two.ops s one.reads two.reads;
      sets = subst (AreSet ys) (sym (through_append one.ops two.ops s)) two.sets;
      fits = λ g h i. fit_append f.program f.size one.ops two.ops
          (one.fits g (growth_is_one b.found c.found f.last two.grows h) (no_longer b.body.types two.new c.body.types f.size two.types i))
          (two.fits (growth_is_one f.first a.found b.found g one.grows) h i);
    }

pub then_tidy : {f : Setup} {s : List ℕ} {xs ys : List COperand} {a b c : Writing} → Tidy f s xs a b → ((t : List ℕ) → Wider s t → AreSet xs t → Tidy f t ys b c) → Tidy f s ys a c
then_tidy {f} {s} {xs} {ys} {a} {b} {c} one next = steps_follow f s xs ys a b c one next

-- what is given reads something else that is set behind it
pub as_tidy : {f : Setup} {s : List ℕ} {xs : List COperand} {a b : Writing} (ys : List COperand) → Tidy f s xs a b → ((t : List ℕ) → Wider s t → AreSet xs t → AreSet ys t) → Tidy f s ys a b
as_tidy {f} {s} {xs} {a} {b} ys one give = record {
  ops = one.ops;
  new = one.new;
  written = one.written;
  types = one.types;
  grows = one.grows;
  reads = one.reads;
  sets = give (through one.ops s) (record { it = through_more one.ops s }) one.sets;
  fits = one.fits;
}

-- nothing is written
pub still : {f : Setup} {s : List ℕ} {w : Writing} (xs : List COperand) → AreSet xs s → Tidy f s xs w w
still {f} {s} {w} xs h = record { ops = []; new = []; written = sym (append-nil w.body.ops); types = sym (append-nil w.body.types); grows = same_found w.found; reads = tt; sets = h; fits = λ g i j. tt }

pub nothing : {f : Setup} {s : List ℕ} {w : Writing} → Tidy f s [] w w
nothing = still [] tt

-- it is asked for more
pub asked : {f : Setup} {s : List ℕ} (found : Found) (w : Writing) → Grows w.found found → Tidy f s [] w (writing found w.body)
asked found w g = record { ops = []; new = []; written = sym (append-nil w.body.ops); types = sym (append-nil w.body.types); grows = g; reads = tt; sets = tt; fits = λ a i j. tt }

-- an operation that sets no new variable
pub pushed : {f : Setup} {s : List ℕ} (xs : List COperand) (o : LlOp) (found : Found) (w : Writing) → AllIn (reads o) s → AreSet xs (with_set (set_by o) s) → Grows w.found found
    → (Grows f.first w.found → Grows found f.last → OpFits f.program f.size o) → Tidy f s xs w (writing found (with_op o w.body))
pushed xs o found w r h g fit = record { ops = o ∷ []; new = []; written = refl; types = sym (append-nil w.body.types); grows = g; reads = (r, tt); sets = h; fits = λ a i j. (fit a i, tt) }

-- an operation that sets a new variable
pub set_fresh : {f : Setup} {s : List ℕ} (t : LlType) (o : ℕ → LlOp) (found : Found) (w : Writing) → ((v : ℕ) → AllIn (reads (o v)) s) → ((v : ℕ) → set_by (o v) ≡ Some v) → Grows w.found found
    → (Grows f.first w.found → Grows found f.last → (v : ℕ) → v < f.size → OpFits f.program f.size (o v)) → Tidy f s (Var (fresh t w.body).0 ∷ []) w (writing found (with_op (o (fresh t w.body).0) (fresh t w.body).1))
set_fresh {f} {s} t o found w r sets g fit = record {
  ops = o (length w.body.types) ∷ [];
  new = t ∷ [];
  written = refl;
  types = refl;
  grows = g;
  reads = (r (length w.body.types), tt);
  sets = (subst (λ (by : Option ℕ). IsSet (Var (length w.body.types)) (with_set by s)) (sym (sets (length w.body.types))) (variable (length w.body.types) (s ++ length w.body.types ∷ []) (right_in (length w.body.types) s (length w.body.types ∷ []) (here_in (length w.body.types) []))), tt);
  fits = λ a i j. (fit a i (length w.body.types) (let q : length (w.body.types ++ t ∷ []) ≡ length w.body.types + 1 = length-append w.body.types (t ∷ []) in omega (arith, q, j)), tt);
}

-- ---- either

pub if_tidy : {f : Setup} {s : List ℕ} {w : Writing} {xs : List COperand} (c : Bool) (x y : Writing) → Tidy f s xs w x → Tidy f s xs w y → Tidy f s xs w (if c then x else y)
if_tidy true x y g h = g
if_tidy false x y g h = h

pub if_taken : {f : Setup} {s : List ℕ} {w : Writing} (c a b : Bool) (x y : Writing) → Tidy f s (taken a f) w x → Tidy f s (taken b f) w y → Tidy f s (taken (if c then a else b) f) w (if c then x else y)
if_taken true a b x y g h = g
if_taken false a b x y g h = h

pub if_given : {f : Setup} {s : List ℕ} {w : Writing} (c : Bool) (x y : COperand × Writing) → Tidy f s (x.0 ∷ []) w x.1 → Tidy f s (y.0 ∷ []) w y.1 → Tidy f s ((if c then x else y).0 ∷ []) w (if c then x else y).1
if_given true x y g h = g
if_given false x y g h = h

-- ---- calls that give nothing

pub takes_none : (p : LlProgram) (n : ℕ) (graph : Option LlGraph) → TakesOf p n None graph
takes_none p n None = tt
takes_none p n (Some graph) = tt

-- what is written in one case alone is given there alone
pub if_sets : {f : Setup} {s : List ℕ} {w : Writing} (c : Bool) (x : Writing) → Tidy f s (taken true f) w x → Tidy f s (taken c f) w (if c then x else w)
if_sets true x g = g
if_sets false x g = nothing

-- ---- operands by their places

-- their variables are set
abbrev pub AreGiven : List Operand → List ℕ → Type 0
AreGiven [] set = Unit {0}
AreGiven (a ∷ args) set = IsSet a.x set × AreGiven args set

pub all_given : (f : Setup) (s : List ℕ) (args : List Operand) → AreThere f args s → AreGiven args s
all_given f s [] h = tt
all_given f s (a ∷ args) h = (h.0.inside, all_given f s args h.1)

pub given_more : {s t : List ℕ} (args : List Operand) → Wider s t → AreGiven args s → AreGiven args t
given_more [] m h = tt
given_more (a ∷ args) m h = (more m h.0, given_more args m h.1)

abbrev pub IsGivenIf : Option Operand → List ℕ → Type 0
IsGivenIf None set = Unit {0}
IsGivenIf (Some a) set = IsSet a.x set

pub given_at : (s : List ℕ) (args : List Operand) (i : ℕ) → AreGiven args s → IsGivenIf (slice_get args i) s
given_at s [] i h = tt
given_at s (a ∷ args) zero h = h.0
given_at s (a ∷ args) (suc i) h = given_at s args i h.1

pub operand_set : (s : List ℕ) (args : List Operand) (i : ℕ) → AreGiven args s → IsSet (operand_at args i).x s
operand_set s args i h = on (slice_get args i) (given_at s args i h)
  where
    on : (o : Option Operand) → IsGivenIf o s → IsSet (unwrap_or o (record { x = Const (constant.Word (pos 0)); element = None })).x s
    on None h = held (constant.Word (pos 0)) s
    on (Some a) h = h
