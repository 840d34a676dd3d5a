-- How often a number stands in a list, and what the counts say of that.
use Rattle.std.proofs.Common.{◌≡◌, ◌<◌, ◌≤◌, ◌^◌, ℕ, zero, suc, ◌+◌, ◌-◌, Bool, true, false, ◌||◌, ◌&&◌, not, ◌==◌, cond, List, [], ◌∷◌, ◌++◌, length, Option, Some, None, refl, sym, ap, ◌∙◌, subst, arith, ◌⊎◌, inl, inr}
use Rattle.std.specs.Prelude.{slice_get, slice_set, min}
use Rattle.csub_tree.specs.declared.tree.COperand.{COperand}
use Rattle.ll_code.specs.declared.program.LlLink.{LlLink}
use Rattle.ll_code.specs.declared.program.LlOp.{LlOp}
use Rattle.ll_code.specs.declared.program.LlExit.{LlExit}
use Rattle.ll_code.specs.declared.program.LlExit.TheVariants as exit
use Rattle.ll_code.specs.declared.program.LlBlock.{LlBlock}
use Rattle.ll_laws.proofs.Values.{is_same}
use Rattle.ll_live.specs.Live.{among, set_by}
use Rattle.ll_joined.specs.declared.count.Counts.{Counts}
use Rattle.ll_joined.specs.Counted.{one_more, more_at, add_one, is, has, zeros, add_if, sets_in, inputs_in, set_by_exit, led_if, led_by, counted, counted_in, counts_of, follows, taken_from, taken_in}
use Rattle.turned_laws.proofs.Lists.{known, differ, none_true, same, equal, unequal, set_size}

-- ---- how often

abbrev pub one_if : Bool → ℕ
one_if true = 1
one_if false = 0

abbrev pub times : ℕ → List ℕ → ℕ
times v [] = 0
times v (w ∷ vs) = one_if (w == v) + times v vs

pub times_both : (v : ℕ) (vs ws : List ℕ) → times v (vs ++ ws) ≡ times v vs + times v ws
times_both v [] ws = omega arith
times_both v (w ∷ vs) ws = let h : times v (vs ++ ws) ≡ times v vs + times v ws = times_both v vs ws in omega (arith, h)

pub times_among : (v : ℕ) (vs : List ℕ) → among v vs ≡ true → 0 < times v vs
times_among v [] h = none_true (sym h)
times_among v (w ∷ vs) h = one (times_among v vs) (w == v) h
  where
    one : (among v vs ≡ true → 0 < times v vs) → (b : Bool) → (b || among v vs) ≡ true → 0 < one_if b + times v vs
    one go true h = omega arith
    one go false h = let k : 0 < times v vs = go h in omega (arith, k)

pub among_times : (v : ℕ) (vs : List ℕ) → 0 < times v vs → among v vs ≡ true
among_times v [] h = absurd (omega (arith, h))
among_times v (w ∷ vs) h = one (among_times v vs) (w == v) h
  where
    one : (0 < times v vs → among v vs ≡ true) → (b : Bool) → 0 < one_if b + times v vs → (b || among v vs) ≡ true
    one go true h = refl
    one go false h = go (omega (arith, h))

-- ---- counts

abbrev pub adds : List ℕ → List ℕ → List ℕ
adds [] counts = counts
adds (v ∷ vs) counts = adds vs (add_one v counts)

pub adds_both : (vs ws counts : List ℕ) → adds (vs ++ ws) counts ≡ adds ws (adds vs counts)
adds_both [] ws counts = refl
adds_both (v ∷ vs) ws counts = adds_both vs ws (add_one v counts)

get_here : {A : Type 0} (xs : List A) (a : ℕ) (x y : A) → slice_get xs a ≡ Some y → slice_get (slice_set xs a x) a ≡ Some x
get_here [] a x y e = absurd (cc)
get_here (z ∷ xs) zero x y e = refl
get_here (z ∷ xs) (suc a) x y e = get_here xs a x y e

pub get_elsewhere : {A : Type 0} (xs : List A) (a b : ℕ) (x : A) → (a ≡ b → ⊥) → slice_get (slice_set xs a x) b ≡ slice_get xs b
get_elsewhere [] a b x ne = refl
get_elsewhere (y ∷ xs) zero zero x ne = absurd (ne refl)
get_elsewhere (y ∷ xs) zero (suc b) x ne = refl
get_elsewhere (y ∷ xs) (suc a) zero x ne = refl
get_elsewhere (y ∷ xs) (suc a) (suc b) x ne = get_elsewhere xs a b x (λ e. ne (ap suc e))

-- what a count is where it was this, and more come
abbrev Grown : ℕ → ℕ → Option ℕ → Type 0
Grown old more None = ⊥
Grown old more (Some new) = (old + more < 2 ^ 64 - 1 → new ≡ old + more) × (2 ^ 64 - 1 ≤ old + more → new ≡ 2 ^ 64 - 1)

add_grown : (w v : ℕ) (counts : List ℕ) (old : ℕ) → slice_get counts v ≡ Some old → old ≤ 2 ^ 64 - 1 → (new : ℕ) × (slice_get (add_one w counts) v ≡ Some new) × (new ≡ min (old + one_if (w == v)) (2 ^ 64 - 1))
add_grown w v counts old e le = one (known (w == v))
  where
    here : (u : ℕ) → u ≡ v → slice_get (more_at u counts (slice_get counts u)) v ≡ Some (one_more old)
    here u s = subst (λ u. slice_get (more_at u counts (slice_get counts u)) v ≡ Some (one_more old)) (sym s) (ap (λ o. slice_get (more_at v counts o) v) e ∙ get_here counts v (one_more old) old e)

    other : (o : Option ℕ) → (w ≡ v → ⊥) → slice_get (more_at w counts o) v ≡ Some old
    other None ne = e
    other (Some n) ne = get_elsewhere counts w v (one_more n) ne ∙ e

    one : (w == v) ≡ true ⊎ (w == v) ≡ false → (new : ℕ) × (slice_get (add_one w counts) v ≡ Some new) × (new ≡ min (old + one_if (w == v)) (2 ^ 64 - 1))
    one (inl s) = (one_more old, here w (is_same w v s), ap (λ b. min (old + one_if b) (2 ^ 64 - 1)) (sym s))
    one (inr s) = (old, other (slice_get counts w) (differ w v s), (let k : old ≡ min (old + 0) (2 ^ 64 - 1) = omega (arith, le) in k) ∙ ap (λ b. min (old + one_if b) (2 ^ 64 - 1)) (sym s))

pub adds_grown : (vs : List ℕ) (v : ℕ) (counts : List ℕ) (old : ℕ) → slice_get counts v ≡ Some old → old ≤ 2 ^ 64 - 1 → slice_get (adds vs counts) v ≡ Some (min (old + times v vs) (2 ^ 64 - 1))
adds_grown [] v counts old e le = e ∙ ap Some (let k : old ≡ min (old + 0) (2 ^ 64 - 1) = omega (arith, le) in k)
adds_grown (w ∷ vs) v counts old e le =
    let (new, f, g) = add_grown w v counts old e le in
    adds_grown vs v (add_one w counts) new f (omega (arith, g)) ∙ ap Some (let k : min (new + times v vs) (2 ^ 64 - 1) ≡ min (old + (one_if (w == v) + times v vs)) (2 ^ 64 - 1) = omega (arith, g) in k)

zeros_get : (k v : ℕ) → v < k → slice_get (zeros k) v ≡ Some 0
zeros_get zero v lt = absurd (omega (arith, lt))
zeros_get (suc k) zero lt = refl
zeros_get (suc k) (suc v) lt = zeros_get k v (omega (arith, lt))

add_size : (at : ℕ) (c : List ℕ) → length (add_one at c) ≡ length c
add_size at c = one (slice_get c at)
  where
    one : (o : Option ℕ) → length (more_at at c o) ≡ length c
    one None = refl
    one (Some n) = set_size c at (one_more n)

pub adds_size : (vs c : List ℕ) → length (adds vs c) ≡ length c
adds_size [] c = refl
adds_size (v ∷ vs) c = adds_size vs (add_one v c) ∙ add_size v c

pub zeros_size : (k : ℕ) → length (zeros k) ≡ k
zeros_size zero = refl
zeros_size (suc k) = ap suc (zeros_size k)

pub get_outside : {A : Type 0} (xs : List A) (v : ℕ) → length xs ≤ v → slice_get xs v ≡ None
get_outside [] v le = refl
get_outside (x ∷ xs) zero le = absurd (omega (arith, le))
get_outside (x ∷ xs) (suc v) le = get_outside xs v (omega (arith, le))

module _ (vs : List ℕ) (k : ℕ) where
  abbrev all_counts : List ℕ
  all_counts = adds vs (zeros k)

  count_at : (v : ℕ) → v < k → slice_get all_counts v ≡ Some (min (0 + times v vs) (2 ^ 64 - 1))
  count_at v lt = adds_grown vs v (zeros k) 0 (zeros_get k v lt) (omega arith)

  count_out : (v : ℕ) → k ≤ v → slice_get all_counts v ≡ None
  count_out v le = get_outside all_counts v (let s : length all_counts ≡ k = adds_size vs (zeros k) ∙ zeros_size k in omega (arith, s, le))

  in_or_out : (n m : ℕ) → (n < m) ⊎ (m ≤ n)
  in_or_out n zero = inr (omega arith)
  in_or_out zero (suc m) = inl (omega arith)
  in_or_out (suc n) (suc m) = one (in_or_out n m)
    where
      one : (n < m) ⊎ (m ≤ n) → (suc n < suc m) ⊎ (suc m ≤ suc n)
      one (inl h) = inl (omega (arith, h))
      one (inr h) = inr (omega (arith, h))

  pub has_within : (n v : ℕ) → has n v all_counts ≡ true → v < k
  has_within n v h = one (in_or_out v k)
    where
      one : (v < k) ⊎ (k ≤ v) → v < k
      one (inl lt) = lt
      one (inr le) = none_true (sym (sym (ap (is n) (count_out v le)) ∙ h))

  pub has_one : (v : ℕ) → has 1 v all_counts ≡ true → times v vs ≡ 1
  has_one v h =
      let lt : v < k = has_within 1 v h in
      let e : min (0 + times v vs) (2 ^ 64 - 1) ≡ 1 = is_same (min (0 + times v vs) (2 ^ 64 - 1)) 1 (sym (ap (is 1) (count_at v lt)) ∙ h) in
      omega (arith, e)

  pub has_none : (v : ℕ) → has 0 v all_counts ≡ true → times v vs ≡ 0
  has_none v h =
      let lt : v < k = has_within 0 v h in
      let e : min (0 + times v vs) (2 ^ 64 - 1) ≡ 0 = is_same (min (0 + times v vs) (2 ^ 64 - 1)) 0 (sym (ap (is 0) (count_at v lt)) ∙ h) in
      omega (arith, e)

  pub none_has : (v : ℕ) → v < k → times v vs ≡ 0 → has 0 v all_counts ≡ true
  none_has v lt e = ap (is 0) (count_at v lt) ∙ equal (min (0 + times v vs) (2 ^ 64 - 1)) 0 (omega (arith, e))

  pub some_has : (v : ℕ) → v < k → 0 < times v vs → has 0 v all_counts ≡ false
  some_has v lt h = ap (is 0) (count_at v lt) ∙ unequal (min (0 + times v vs) (2 ^ 64 - 1)) 0 (λ e. let f : times v vs ≡ 0 = omega (arith, e) in omega (arith, f, h))

-- ---- over blocks

abbrev pub each : (LlBlock → List ℕ) → List LlBlock → List ℕ
each f [] = []
each f (block ∷ blocks) = f block ++ each f blocks

pub times_one : (f : LlBlock → List ℕ) (v : ℕ) (blocks : List LlBlock) (n : ℕ) (block : LlBlock) → slice_get blocks n ≡ Some block → times v (f block) ≤ times v (each f blocks)
times_one f v [] n block e = absurd (cc)
times_one f v (b ∷ blocks) zero block e =
    let same : b ≡ block = cc in
    let k : times v (each f (b ∷ blocks)) ≡ times v (f b) + times v (each f blocks) = times_both v (f b) (each f blocks) in
    subst (λ block. times v (f block) ≤ times v (each f (b ∷ blocks))) same (omega (arith, k))
times_one f v (b ∷ blocks) (suc n) block e =
    let h : times v (f block) ≤ times v (each f blocks) = times_one f v blocks n block e in
    let k : times v (each f (b ∷ blocks)) ≡ times v (f b) + times v (each f blocks) = times_both v (f b) (each f blocks) in
    omega (arith, h, k)

pub times_two : (f : LlBlock → List ℕ) (v : ℕ) (blocks : List LlBlock) (m n : ℕ) (one two : LlBlock) → slice_get blocks m ≡ Some one → slice_get blocks n ≡ Some two → (m ≡ n → ⊥) → times v (f one) + times v (f two) ≤ times v (each f blocks)
times_two f v [] m n one two e g ne = absurd (cc)
times_two f v (b ∷ blocks) zero zero one two e g ne = absurd (ne refl)
times_two f v (b ∷ blocks) zero (suc n) one two e g ne =
    let same : b ≡ one = cc in
    let h : times v (f two) ≤ times v (each f blocks) = times_one f v blocks n two g in
    let k : times v (each f (b ∷ blocks)) ≡ times v (f b) + times v (each f blocks) = times_both v (f b) (each f blocks) in
    subst (λ one. times v (f one) + times v (f two) ≤ times v (each f (b ∷ blocks))) same (omega (arith, h, k))
times_two f v (b ∷ blocks) (suc m) zero one two e g ne =
    let same : b ≡ two = cc in
    let h : times v (f one) ≤ times v (each f blocks) = times_one f v blocks m one e in
    let k : times v (each f (b ∷ blocks)) ≡ times v (f b) + times v (each f blocks) = times_both v (f b) (each f blocks) in
    subst (λ two. times v (f one) + times v (f two) ≤ times v (each f (b ∷ blocks))) same (omega (arith, h, k))
times_two f v (b ∷ blocks) (suc m) (suc n) one two e g ne =
    let h : times v (f one) + times v (f two) ≤ times v (each f blocks) = times_two f v blocks m n one two e g (λ s. ne (ap suc s)) in
    let k : times v (each f (b ∷ blocks)) ≡ times v (f b) + times v (each f blocks) = times_both v (f b) (each f blocks) in
    omega (arith, h, k)

-- one that stands there stands in a block
pub times_from : (f : LlBlock → List ℕ) (v : ℕ) (blocks : List LlBlock) → 0 < times v (each f blocks) → (n : ℕ) × (block : LlBlock) × (slice_get blocks n ≡ Some block) × (0 < times v (f block))
times_from f v [] h = absurd (omega (arith, h))
times_from f v (b ∷ blocks) h = one (times_from f v blocks) (times v (f b)) refl
  where
    one : (0 < times v (each f blocks) → (n : ℕ) × (block : LlBlock) × (slice_get blocks n ≡ Some block) × (0 < times v (f block))) → (k : ℕ) → times v (f b) ≡ k → (n : ℕ) × (block : LlBlock) × (slice_get (b ∷ blocks) n ≡ Some block) × (0 < times v (f block))
    one go zero e =
        let k : times v (each f (b ∷ blocks)) ≡ times v (f b) + times v (each f blocks) = times_both v (f b) (each f blocks) in
        let (n, block, at, more) = go (omega (arith, h, k, e)) in
        (suc n, block, at, more)
    one go (suc k) e = (0, b, refl, omega (arith, e))

-- ---- what sets variables, and where links lead

abbrev pub if_any : Option ℕ → List ℕ
if_any None = []
if_any (Some a) = a ∷ []

abbrev pub op_sets : List LlOp → List ℕ
op_sets [] = []
op_sets (o ∷ ops) = if_any (set_by o) ++ op_sets ops

abbrev pub exit_sets : LlExit → List ℕ
exit_sets (exit.OnRaise a by without) = a ∷ []
exit_sets other = []

abbrev pub sets_of : LlBlock → List ℕ
sets_of block = block.inputs ++ (op_sets block.ops ++ exit_sets block.exit)

abbrev pub target_if : Option LlLink → List ℕ
target_if None = []
target_if (Some link) = link.to ∷ []

abbrev pub targets : LlExit → List ℕ
targets (exit.Goto link) = link.to ∷ []
targets (exit.If a there elsewhere) = there.to ∷ elsewhere.to ∷ []
targets (exit.OnRaise a by without) = target_if by ++ without.to ∷ []
targets other = []

abbrev pub targets_of : LlBlock → List ℕ
targets_of block = targets block.exit

abbrev pub taken_of : List LlBlock → Counts → LlBlock → List ℕ
taken_of all counts block = target_if (follows all counts block.exit)

inputs_adds : (vs counts : List ℕ) → inputs_in vs counts ≡ adds vs counts
inputs_adds [] counts = refl
inputs_adds (v ∷ vs) counts = inputs_adds vs (add_one v counts)

if_adds : (o : Option ℕ) (counts : List ℕ) → add_if o counts ≡ adds (if_any o) counts
if_adds None counts = refl
if_adds (Some a) counts = refl

pub sets_adds : (ops : List LlOp) (counts : List ℕ) → sets_in ops counts ≡ adds (op_sets ops) counts
sets_adds [] counts = refl
sets_adds (o ∷ ops) counts = sets_adds ops (add_if (set_by o) counts) ∙ ap (adds (op_sets ops)) (if_adds (set_by o) counts) ∙ sym (adds_both (if_any (set_by o)) (op_sets ops) counts)

pub exit_adds : (e : LlExit) (counts : List ℕ) → set_by_exit e counts ≡ adds (exit_sets e) counts
exit_adds (exit.OnRaise a by without) counts = refl
exit_adds (exit.Goto link) counts = refl
exit_adds (exit.If a one two) counts = refl
exit_adds (exit.Return x) counts = refl
exit_adds (exit.Raise a) counts = refl
exit_adds (exit.Fail n) counts = refl
exit_adds (exit.Raised a) counts = refl

led_adds : (e : LlExit) (counts : List ℕ) → led_by e counts ≡ adds (targets e) counts
led_adds (exit.OnRaise a None without) counts = refl
led_adds (exit.OnRaise a (Some by) without) counts = refl
led_adds (exit.Goto link) counts = refl
led_adds (exit.If a one two) counts = refl
led_adds (exit.Return x) counts = refl
led_adds (exit.Raise a) counts = refl
led_adds (exit.Fail n) counts = refl
led_adds (exit.Raised a) counts = refl

block_adds : (block : LlBlock) (counts : List ℕ) → set_by_exit block.exit (sets_in block.ops (inputs_in block.inputs counts)) ≡ adds (sets_of block) counts
block_adds block counts =
    exit_adds block.exit _ ∙ ap (adds (exit_sets block.exit)) (sets_adds block.ops _ ∙ ap (adds (op_sets block.ops)) (inputs_adds block.inputs counts))
    ∙ sym (adds_both (op_sets block.ops) (exit_sets block.exit) (adds block.inputs counts)) ∙ sym (adds_both block.inputs (op_sets block.ops ++ exit_sets block.exit) counts)

set_adds : (blocks : List LlBlock) (counts : Counts) → (counted_in blocks counts).set ≡ adds (each sets_of blocks) counts.set
set_adds [] counts = refl
set_adds (b ∷ blocks) counts = set_adds blocks (counted b counts) ∙ ap (adds (each sets_of blocks)) (block_adds b counts.set) ∙ sym (adds_both (sets_of b) (each sets_of blocks) counts.set)

to_adds : (blocks : List LlBlock) (counts : Counts) → (counted_in blocks counts).to ≡ adds (each targets_of blocks) counts.to
to_adds [] counts = refl
to_adds (b ∷ blocks) counts = to_adds blocks (counted b counts) ∙ ap (adds (each targets_of blocks)) (led_adds b.exit counts.to) ∙ sym (adds_both (targets_of b) (each targets_of blocks) counts.to)

pub set_is : (k : ℕ) (blocks : List LlBlock) → (counts_of k blocks).set ≡ adds (each sets_of blocks) (zeros k)
set_is k blocks = set_adds blocks (record { to = zeros (length blocks); set = zeros k })

pub to_is : (k : ℕ) (blocks : List LlBlock) → (counts_of k blocks).to ≡ adds (each targets_of blocks) (zeros (length blocks))
to_is k blocks = to_adds blocks (record { to = zeros (length blocks); set = zeros k })

taken_adds : (all : List LlBlock) (counts : Counts) (blocks : List LlBlock) (taken : List ℕ) → taken_from all counts blocks taken ≡ adds (each (taken_of all counts) blocks) taken
taken_adds all counts [] taken = refl
taken_adds all counts (b ∷ blocks) taken = taken_adds all counts blocks (led_if (follows all counts b.exit) taken) ∙ ap (adds (each (taken_of all counts) blocks)) (one (follows all counts b.exit)) ∙ sym (adds_both (taken_of all counts b) (each (taken_of all counts) blocks) taken)
  where
    one : (o : Option LlLink) → led_if o taken ≡ adds (target_if o) taken
    one None = refl
    one (Some link) = refl

pub taken_is : (blocks : List LlBlock) (counts : Counts) → taken_in blocks counts ≡ adds (each (taken_of blocks counts) blocks) (zeros (length blocks))
taken_is blocks counts = taken_adds blocks counts blocks (zeros (length blocks))
