-- A test of a run that ends: each of its states is small, and writes no reference into a static.
use Rattle.std.proofs.Common.{◌≡◌, ◌<◌, ◌≤◌, ◌^◌, ℕ, zero, suc, ◌+◌, pos, Bool, true, false, ◌&&◌, ◌==◌, List, [], ◌∷◌, ◌++◌, Option, Some, None, refl, sym, ap, ◌∙◌, subst, arith}
use Rattle.std.specs.Prelude.{slice_set, not, nat_lt}
use Rattle.csub_tree.specs.State.{Value, Word, Static, Block, Core, Event}
use Rattle.csub_tree.specs.Statement.{read, operand}
use Rattle.ll_code.specs.Machine.{step, start}
use Rattle.ll_code.specs.Meaning.{Unfinished, run, follow}
use Rattle.ll_code.specs.State.{State, Calling, At, Returning, Throwing, Next, Goes, Puts, Tells, Ends, Sticks}
use Rattle.ll_code.specs.declared.program.LlOp.{LlOp}
use Rattle.ll_code.specs.declared.program.LlOp.TheVariants as op
use Rattle.ll_code.specs.declared.program.LlProgram.{LlProgram}
use Rattle.ll_held.specs.Held.{references, cells, cells_at, is_new, are_distinct, references_in, IsBelow}
use Rattle.ll_held.specs.Roots.{roots, core_of}
use Rattle.ll_laws.proofs.Values.{and_left, and_right, is_less}
use Rattle.refcount_transform.specs.Plan.{plan_of, field_referred, items_referred}
use Rattle.refcount_laws.specs.Ready.{InBlock}
use Rattle.refcount_laws.proofs.Cells.{set_other}
use Rattle.refcount_checks.specs.Countable.{most}
use Rattle.refcount_ready.specs.Along.{MakesShort, MakesShortNext, IsSmall, WritesBlocks, LeavesStatics}
use Rattle.refcount_ready.specs.Programs.{RunsSmall}

-- ---- all references that stand in blocks

abbrev all_references : List (Option Block) → ℕ
all_references [] = 0
all_references (b ∷ blocks) = references (cells b) + all_references blocks

-- one block less
less : (blocks : List (Option Block)) (b : ℕ) → all_references blocks ≡ references (cells_at blocks b) + all_references (slice_set blocks b None)
less [] b = refl
less (x ∷ blocks) zero = omega arith
less (x ∷ blocks) (suc b) = omega (arith, less blocks b)

not_same : (b d : ℕ) → not (b == d) ≡ true → b ≡ d → ⊥
not_same b d h e = let x : not (d == d) ≡ true = subst (λ b. not (b == d) ≡ true) e h in let y : (d == d) ≡ true = Rattle.ll_held.proofs.Keeping.same_number d in let z : not true ≡ true = ap not (sym y) ∙ x in cc

others_same : (blocks : List (Option Block)) (b : ℕ) (bs : List ℕ) → is_new b bs ≡ true → references_in (slice_set blocks b None) bs ≡ references_in blocks bs
others_same blocks b [] h = refl
others_same blocks b (d ∷ bs) h =
    ap (λ o. references (cells o) + references_in (slice_set blocks b None) bs) (set_other blocks b d None None (not_same b d (and_left _ _ h)))
    ∙ ap (λ n. references (cells_at blocks d) + n) (others_same blocks b bs (and_right _ _ h))

in_all : (bs : List ℕ) (blocks : List (Option Block)) → are_distinct bs ≡ true → references_in blocks bs ≤ all_references blocks
in_all [] blocks h = omega arith
in_all (b ∷ bs) blocks h =
    let x : references_in (slice_set blocks b None) bs ≤ all_references (slice_set blocks b None) = in_all bs (slice_set blocks b None) (and_right _ _ h) in
    omega (arith, x, less blocks b, others_same blocks b bs (and_left _ _ h))

below_all : (bound : ℕ) (blocks : List (Option Block)) (rs : List Value) → references rs + all_references blocks < bound → IsBelow bound blocks rs
below_all bound blocks rs h bs distinct held = let x : references_in blocks bs ≤ all_references blocks = in_all bs blocks distinct in omega (arith, x, h)

-- ---- what is asked of a state

abbrev is_short_by : Option ℕ → Value → Bool
is_short_by None value = true
is_short_by (Some to) (Word (pos k)) = nat_lt k (2 ^ 63)
is_short_by (Some to) value = true

abbrev in_block_by : Option ℕ → Value → Bool
in_block_by None value = true
in_block_by (Some to) (Static s) = false
in_block_by (Some to) value = true

abbrev op_fine : LlProgram → Core → LlOp → Bool
op_fine p core (op.NewArray a m n x) = is_short_by (items_referred (plan_of p) n) (operand core.vars x)
op_fine p core (op.SetField n v i x) = in_block_by (field_referred (plan_of p) n i) (read core.vars v)
op_fine p core (op.SetItem n v i x) = in_block_by (items_referred (plan_of p) n) (read core.vars v)
op_fine p core other = true

abbrev next_fine : LlProgram → State → Bool
next_fine p (At (o ∷ ops) exit frames core) = op_fine p core o
next_fine p other = true

abbrev is_fine : LlProgram → State → Bool
is_fine p s = nat_lt (references (roots p s) + all_references (core_of s).blocks) most && next_fine p s

short_by : (o : Option ℕ) (value : Value) → is_short_by o value ≡ true → (to k : ℕ) → o ≡ Some to → value ≡ Word (pos k) → k < 2 ^ 63
short_by None value h to k e f = absurd (cc)
short_by (Some u) value h to k e f = is_less k (2 ^ 63) (subst (λ v. is_short_by (Some u) v ≡ true) f h)

in_block : (core : Core) (v : ℕ) (o : Option ℕ) → in_block_by o (read core.vars v) ≡ true → InBlock core v o
in_block core v None h m s e f = absurd (cc)
in_block core v (Some u) h m s e f = absurd (let x : false ≡ true = subst (λ w. in_block_by (Some u) w ≡ true) f h in cc)

op_short : (p : LlProgram) (core : Core) (o : LlOp) → op_fine p core o ≡ true → MakesShort p core o
op_short p core (op.NewArray a m n x) h = λ to k e f. short_by (items_referred (plan_of p) n) (operand core.vars x) h to k e f
op_short p core other h = tt

op_writes : (p : LlProgram) (core : Core) (o : LlOp) → op_fine p core o ≡ true → WritesBlocks p core o
op_writes p core (op.SetField n v i x) h = in_block core v (field_referred (plan_of p) n i) h
op_writes p core (op.SetItem n v i x) h = in_block core v (items_referred (plan_of p) n) h
op_writes p core other h = tt

is_small : (p : LlProgram) (s : State) → is_fine p s ≡ true → IsSmall p s
is_small p s h = record { few = below_all most (core_of s).blocks (roots p s) (is_less _ most (and_left _ _ h)); short = by s (and_right (nat_lt (references (roots p s) + all_references (core_of s).blocks) most) (next_fine p s) h) }
  where
    by : (s : State) → next_fine p s ≡ true → MakesShortNext p s
    by (At (o ∷ ops) exit frames core) h = op_short p core o h
    by (At [] exit frames core) h = tt
    by (Calling f values frames core) h = tt
    by (Returning value frames core) h = tt
    by (Throwing value frames core) h = tt

leaves_statics : (p : LlProgram) (s : State) → is_fine p s ≡ true → LeavesStatics p s
leaves_statics p s h = by s (and_right (nat_lt (references (roots p s) + all_references (core_of s).blocks) most) (next_fine p s) h)
  where
    by : (s : State) → next_fine p s ≡ true → LeavesStatics p s
    by (At (o ∷ ops) exit frames core) h = op_writes p core o h
    by (At [] exit frames core) h = tt
    by (Calling f values frames core) h = tt
    by (Returning value frames core) h = tt
    by (Throwing value frames core) h = tt

-- ---- runs that end within so many steps

abbrev pub then_fine : (State → Bool) → Next → Bool
then_fine go (Goes s) = go s
then_fine go (Puts byte s) = go s
then_fine go (Tells event s) = go s
then_fine go (Ends outcome core) = true
then_fine go (Sticks reason) = true

unfoldable pub fine_within : LlProgram → List (List ℕ) → ℕ → State → Bool
fine_within p args zero s = false
fine_within p args (suc n) s = is_fine p s && then_fine (fine_within p args n) (step p args s)

module _ (p : LlProgram) (args : List (List ℕ)) where
  record Both (s : State) : Type 0 where
    small : IsSmall p s
    blocks : LeavesStatics p s

  each : (k n : ℕ) (from : State) (text : List ℕ) (events : List Event) (s : State) (out : List ℕ) (told : List Event) → fine_within p args n from ≡ true → run p args k from text events ≡ Unfinished s out told → Both s
  unfolding run fine_within
  each k zero from text events s out told h e = absurd (cc)
  each zero (suc n) from text events s out told h e =
      let f : from ≡ s = cc in
      let g : is_fine p s ≡ true = subst (λ s. is_fine p s ≡ true) f (and_left (is_fine p from) (then_fine (fine_within p args n) (step p args from)) h) in
      record { small = is_small p s g; blocks = leaves_statics p s g }
  each (suc k) (suc n) from text events s out told h e = by (step p args from) (and_right (is_fine p from) (then_fine (fine_within p args n) (step p args from)) h) e (λ from text events g e. each k n from text events s out told g e)
    where
      by : (next : Next) → then_fine (fine_within p args n) next ≡ true → follow (run p args k) text events next ≡ Unfinished s out told
          → ((from : State) (text : List ℕ) (events : List Event) → fine_within p args n from ≡ true → run p args k from text events ≡ Unfinished s out told → Both s) → Both s
      by (Goes t) g e go = go t text events g e
      by (Puts byte t) g e go = go t (text ++ byte ∷ []) events g e
      by (Tells event t) g e go = go t text (events ++ event ∷ []) g e
      by (Ends outcome core) g e go = absurd (cc)
      by (Sticks reason) g e go = absurd (cc)

  pub small_run : (n steps : ℕ) → fine_within p args n (start p steps) ≡ true → RunsSmall p args steps
  small_run n steps h = record {
    small = λ k s text events e. (each k n (start p steps) [] [] s text events h e).small;
    blocks = λ k s text events e. (each k n (start p steps) [] [] s text events h e).blocks;
  }
