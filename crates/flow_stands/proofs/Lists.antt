-- What links pick, what blocks bind, and what roots weigh.
use Rattle.std.proofs.Common.{◌≡◌, ℕ, zero, suc, ◌+◌, ◌≤◌, ◌≢◌, ◌<◌, Bool, true, false, cond, List, [], ◌∷◌, ◌++◌, length, get_or, take, drop, Some, None, Option, refl, sym, ap, ◌∙◌, subst, arith, append_assoc, length-append}
use Rattle.std.specs.Prelude.{◌==◌, ◌||◌, map, slice_get, slice_set, replicate}
use Rattle.std.proofs.lemmas.Bool.{eq-eqb, ne_eqb}
use Rattle.std.proofs.Math.Seq.{get_or-append_seam, take-length}
use Rattle.std.proofs.lemmas.List.{append-nil, length-take-le, take-append-drop, take-append-le, map-append, map-set, set-get_or}
use Rattle.std.proofs.lemmas.Option.{get_or_from_slice_get}
use Rattle.rpy_tree.specs.Value.{Value}
use Rattle.rpy_meaning.specs.Evaluation.{values_of}
use Rattle.flow_meaning.specs.Machine.{Bound, look, and_value, values_of as operands_of, bind, passed, taken}
use Rattle.flow_meaning.specs.Roots.{among, kept, and_some}
use Rattle.flow_stands.specs.Places.{range, shift}
use Rattle.flow_stands.proofs.Worlds.{total, total_append}

abbrev pub Env : Type 0
Env = List (Option Value)

-- by places
abbrev pub pick : Env → List ℕ → Env
pick env ps = map (λ p. get_or env p None) ps

-- the variables of a block whose first has the number base
abbrev pub named : ℕ → Env → List Bound
named base [] = []
named base (v ∷ vs) = bind base v ∷ named (base + 1) vs

-- inputs take these values; where there are too few they are unbound
abbrev pub bound : List ℕ → Env → List Bound
bound [] vs = []
bound (i ∷ is) [] = bind i None ∷ bound is []
bound (i ∷ is) (v ∷ vs) = bind i v ∷ bound is vs

pub passed_is : (env : List Bound) (is args : List ℕ) → passed env is args ≡ bound is (map (λ x. look env x) args)
passed_is env [] args = refl
passed_is env (i ∷ is) [] = ap (λ l. bind i None ∷ l) (passed_is env is [])
passed_is env (i ∷ is) (a ∷ args) = ap (λ l. bind i (look env a) ∷ l) (passed_is env is args)

pub taken_is : (is : List ℕ) (vs : List Value) → taken is vs ≡ bound is (map Some vs)
taken_is [] vs = refl
taken_is (i ∷ is) [] = ap (λ l. bind i None ∷ l) (taken_is is [])
taken_is (i ∷ is) (v ∷ vs) = ap (λ l. bind i (Some v) ∷ l) (taken_is is vs)

bound_none : (is : List ℕ) (k : ℕ) → bound is (replicate k None) ≡ bound is []
bound_none [] k = refl
bound_none (i ∷ is) zero = refl
bound_none (i ∷ is) (suc k) = ap (λ l. bind i None ∷ l) (bound_none is k)

pub bound_short : (is : List ℕ) (vs : Env) (k : ℕ) → bound is (vs ++ replicate k None) ≡ bound is vs
bound_short is [] k = bound_none is k
bound_short [] (v ∷ vs) k = refl
bound_short (i ∷ is) (v ∷ vs) k = ap (λ l. bind i v ∷ l) (bound_short is vs k)

bound_from : (base a : ℕ) (vs : Env) → bound (shift base (range a (length vs))) vs ≡ named (base + a) vs
bound_from base a [] = refl
bound_from base a (v ∷ vs) =
    let e : base + (a + 1) ≡ base + a + 1 = omega arith in
    ap (λ l. bind (base + a) v ∷ l) (bound_from base (a + 1) vs ∙ ap (λ b. named b vs) e)

pub bound_named : (base m : ℕ) (vs : Env) → length vs ≡ m → bound (shift base (range 0 m)) vs ≡ named base vs
bound_named base m vs len =
    let e : base + 0 ≡ base = omega arith in
    ap (λ k. bound (shift base (range 0 k)) vs) (sym len) ∙ bound_from base 0 vs ∙ ap (λ b. named b vs) e

pub named_push : (base : ℕ) (vs : Env) (v : Option Value) → named base (vs ++ v ∷ []) ≡ named base vs ++ bind (base + length vs) v ∷ []
named_push base [] v = let e : base ≡ base + 0 = omega arith in ap (λ n. bind n v ∷ []) e
named_push base (u ∷ vs) v =
    let e : base + 1 + length vs ≡ base + length (u ∷ vs) = omega arith in
    ap (λ l. bind base u ∷ l) (named_push (base + 1) vs v ∙ ap (λ n. named (base + 1) vs ++ bind n v ∷ []) e)

-- the number base + i names the value at i
pub look_named : (base i : ℕ) (env : Env) → look (named base env) (base + i) ≡ get_or env i None
look_named base i [] = refl
look_named base zero (v ∷ env) =
    let e : base ≡ base + 0 = omega arith in
    ap (λ b. cond b v (look (named (base + 1) env) (base + 0))) (eq-eqb base (base + 0) e)
look_named base (suc i) (v ∷ env) =
    let ne : base ≢ base + suc i = omega arith in
    let e : base + suc i ≡ base + 1 + i = omega arith in
    ap (λ b. cond b v (look (named (base + 1) env) (base + suc i))) (ne_eqb base (base + suc i) ne)
    ∙ ap (look (named (base + 1) env)) e
    ∙ look_named (base + 1) i env

pub picks_named : (base : ℕ) (env : Env) (ps : List ℕ) → map (λ x. look (named base env) x) (shift base ps) ≡ pick env ps
picks_named base env [] = refl
picks_named base env (p ∷ ps) =
    ap (λ v. v ∷ map (λ x. look (named base env) x) (shift base ps)) (look_named base p env) ∙ ap (λ l. get_or env p None ∷ l) (picks_named base env ps)

-- operands that are all bound
abbrev all_bound : Env → Option (List Value)
all_bound [] = Some []
all_bound (v ∷ vs) = and_value v (all_bound vs)

operands_all : (env : List Bound) (args : List ℕ) → operands_of env args ≡ all_bound (map (λ x. look env x) args)
operands_all env [] = refl
operands_all env (a ∷ args) = ap (and_value (look env a)) (operands_all env args)

all_some : (vs : List Value) → all_bound (map Some vs) ≡ Some vs
all_some [] = refl
all_some (v ∷ vs) = ap (and_value (Some v)) (all_some vs)

pub operands_named : (base : ℕ) (env : Env) (ps : List ℕ) (vs : List Value) → pick env ps ≡ map Some vs → operands_of (named base env) (shift base ps) ≡ Some vs
operands_named base env ps vs e =
    operands_all (named base env) (shift base ps) ∙ ap all_bound (picks_named base env ps ∙ e) ∙ all_some vs

-- an operand that is unbound
pub operand_none : (base : ℕ) (env : Env) (i : ℕ) → get_or env i None ≡ None → operands_of (named base env) (shift base (i ∷ [])) ≡ None
operand_none base env i e =
    operands_all (named base env) (shift base (i ∷ [])) ∙ ap (λ v. and_value v (Some [])) (look_named base i env ∙ e)

pub pick_mid : (pre xs post : Env) → pick (pre ++ (xs ++ post)) (range (length pre) (length xs)) ≡ xs
pick_mid pre [] post = refl
pick_mid pre (x ∷ xs) post =
    let ih = pick_mid (pre ++ x ∷ []) xs post in
    let e : length (pre ++ x ∷ []) ≡ length pre + 1 = omega (arith, length-append pre (x ∷ [])) in
    let a : (pre ++ x ∷ []) ++ (xs ++ post) ≡ pre ++ (x ∷ (xs ++ post)) = append_assoc pre (x ∷ []) (xs ++ post) in
    ap (λ h. h ∷ pick (pre ++ (x ∷ (xs ++ post))) (range (length pre + 1) (length xs))) (get_or-append_seam pre x (xs ++ post) None)
    ∙ ap (λ t. x ∷ t) (ap (λ l. pick l (range (length pre + 1) (length xs))) (sym a) ∙ ap (λ n. pick ((pre ++ x ∷ []) ++ (xs ++ post)) (range n (length xs))) (sym e) ∙ ih)

-- operands at the end
pub pick_last : (m : ℕ) (base vs : Env) → length base ≡ m → pick (base ++ vs) (range m (length vs)) ≡ vs
pick_last m base vs e =
    ap (λ k. pick (base ++ vs) (range k (length vs))) (sym e)
    ∙ subst (λ l. pick (base ++ l) (range (length base) (length vs)) ≡ vs) (append-nil vs) (pick_mid base vs [])

pub pick_take : (n : ℕ) (env : Env) → n ≤ length env → pick env (range 0 n) ≡ take n env
pick_take n env le =
    let len : length (take n env) ≡ n = length-take-le n env le in
    ap (λ l. pick l (range 0 n)) (sym (take-append-drop n env))
    ∙ ap (λ m. pick (take n env ++ drop n env) (range 0 m)) (sym len)
    ∙ pick_mid [] (take n env) (drop n env)

-- the first m, where more stand behind them
pub take_first : (m : ℕ) (base rest : Env) → length base ≡ m → take m (base ++ rest) ≡ base
take_first m base rest e =
    take-append-le m base rest (omega (arith, e)) ∙ ap (λ k. take k base) (sym e) ∙ take-length base

pub pick_first : (m : ℕ) (base rest : Env) → length base ≡ m → pick (base ++ rest) (range 0 m) ≡ base
pick_first m base rest e = pick_take m (base ++ rest) (omega (arith, e, length-append base rest)) ∙ take_first m base rest e

-- the first k of the first ones
pub pick_kept : (k : ℕ) (base rest : Env) → k ≤ length base → pick (base ++ rest) (range 0 k) ≡ take k base
pick_kept k base rest le = pick_take k (base ++ rest) (omega (arith, le, length-append base rest)) ∙ take-append-le k base rest le

-- the variable behind the first ones
pub get_at : (m : ℕ) (base : Env) (v : Option Value) (rest : Env) → length base ≡ m → get_or (base ++ v ∷ rest) m None ≡ v
get_at m base v rest e = ap (λ k. get_or (base ++ v ∷ rest) k None) (sym e) ∙ get_or-append_seam base v rest None

-- the first k, and the one at a place
pub pick_kept_and : (k q : ℕ) (base rest : Env) (v : Option Value) → k ≤ length base → get_or (base ++ rest) q None ≡ v → pick (base ++ rest) (range 0 k ++ q ∷ []) ≡ take k base ++ v ∷ []
pick_kept_and k q base rest v le e =
    map-append (λ p. get_or (base ++ rest) p None) (range 0 k) (q ∷ [])
    ∙ ap (λ l. l ++ get_or (base ++ rest) q None ∷ []) (pick_kept k base rest le)
    ∙ ap (λ x. take k base ++ x ∷ []) e

-- the first k, where the one at a place stands for x
pub pick_set : (k x q : ℕ) (base rest : Env) (v : Option Value) → k ≤ length base → get_or (base ++ rest) q None ≡ v → pick (base ++ rest) (slice_set (range 0 k) x q) ≡ slice_set (take k base) x v
pick_set k x q base rest v le e =
    map-set (λ p. get_or (base ++ rest) p None) (range 0 k) x q
    ∙ ap (λ l. slice_set l x (get_or (base ++ rest) q None)) (pick_kept k base rest le)
    ∙ ap (λ u. slice_set (take k base) x u) e

-- what stands there already
pub set_same : (xs : Env) (i : ℕ) (v : Option Value) → slice_get xs i ≡ Some v → slice_set xs i v ≡ xs
set_same xs i v e = ap (λ u. slice_set xs i u) (sym (get_or_from_slice_get xs i v None e)) ∙ set-get_or xs i None

-- ---- what is held

pub values_append : (a b : Env) → values_of (a ++ b) ≡ values_of a ++ values_of b
values_append [] b = refl
values_append (None ∷ a) b = values_append a b
values_append (Some v ∷ a) b = ap (λ l. v ∷ l) (values_append a b)

pub values_some : (vs : List Value) → values_of (map Some vs) ≡ vs
values_some [] = refl
values_some (v ∷ vs) = ap (λ l. v ∷ l) (values_some vs)

pub total_some : (wt : Value → ℕ) (v : Option Value) (vs : List Value) → total wt (and_some v vs) ≡ total wt (and_some v []) + total wt vs
total_some wt None vs = omega arith
total_some wt (Some v) vs = omega arith

total_cond : (wt : Value → ℕ) (b : Bool) (v : Option Value) (l : List Value) (e : Env) → total wt l ≤ total wt (values_of e) → total wt (cond b (and_some v l) l) ≤ total wt (values_of (v ∷ e))
total_cond wt true None l e h = h
total_cond wt true (Some v) l e h = omega (arith, h)
total_cond wt false None l e h = h
total_cond wt false (Some v) l e h = omega (arith, h)

pub total_kept : (wt : Value → ℕ) (uses : ℕ → Bool) (base : ℕ) (env : Env) → total wt (kept uses (named base env)) ≤ total wt (values_of env)
total_kept wt uses base [] = omega arith
total_kept wt uses base (v ∷ env) = total_cond wt (uses base) v (kept uses (named (base + 1) env)) env (total_kept wt uses (base + 1) env)

-- locals, what is held, and more
pub total_env : (wt : Value → ℕ) (ls : Env) (held xs : List Value) → total wt (values_of ((ls ++ map Some held) ++ map Some xs)) ≡ total wt (values_of ls) + total wt held + total wt xs
total_env wt ls held xs =
    ap (total wt) (values_append (ls ++ map Some held) (map Some xs))
    ∙ total_append wt (values_of (ls ++ map Some held)) (values_of (map Some xs))
    ∙ ap (λ k. k + total wt (values_of (map Some xs))) (ap (total wt) (values_append ls (map Some held)) ∙ total_append wt (values_of ls) (values_of (map Some held)) ∙ ap (λ l. total wt (values_of ls) + total wt l) (values_some held))
    ∙ ap (λ l. total wt (values_of ls) + total wt held + total wt l) (values_some xs)

-- ---- what is not read

among_or : (a b : Bool) → a ≡ false → b ≡ false → (a || b) ≡ false
among_or a b x y = ap (λ c. c || b) x ∙ y

-- neither the first nor one of the others
among_split : (i a : ℕ) (ps : List ℕ) → among i (a ∷ ps) ≡ false → ((a == i) ≡ false) × (among i ps ≡ false)
among_split i a ps e = by (a == i) e
  where
    by : (b : Bool) → (b || among i ps) ≡ false → (b ≡ false) × (among i ps ≡ false)
    by true z = absurd (cc z)
    by false z = (refl, z)

is_other : (a i : ℕ) → (a == i) ≡ false → a ≡ i → ⊥
is_other a i no_match e = let yes_match = eq-eqb a i e in absurd (cc)

pub among_shift : (base i : ℕ) (ps : List ℕ) → among i ps ≡ false → among (base + i) (shift base ps) ≡ false
among_shift base i [] e = refl
among_shift base i (a ∷ ps) e =
    let z = among_split i a ps e in
    among_or ((base + a) == (base + i)) (among (base + i) (shift base ps)) (ne_eqb (base + a) (base + i) (λ y. is_other a i z.0 (omega (arith, y)))) (among_shift base i ps z.1)

pub among_append : (i : ℕ) (xs ys : List ℕ) → among i xs ≡ false → among i ys ≡ false → among i (xs ++ ys) ≡ false
among_append i [] ys x y = y
among_append i (a ∷ xs) ys x y = let z = among_split i a xs x in among_or (a == i) (among i (xs ++ ys)) z.0 (among_append i xs ys z.1 y)

pub among_range : (a k i : ℕ) → a + k ≤ i → among i (range a k) ≡ false
among_range a zero i le = refl
among_range a (suc k) i le = among_or (a == i) (among i (range (a + 1) k)) (ne_eqb a i (λ e. absurd (omega (arith, le, e)))) (among_range (a + 1) k i (omega (arith, le)))

pub among_set : (i q local : ℕ) (ps : List ℕ) → i < q → among i ps ≡ false → among i (slice_set ps local q) ≡ false
among_set i q local [] lt x = refl
among_set i q zero (a ∷ ps) lt x = among_or (q == i) (among i ps) (ne_eqb q i (λ e. absurd (omega (arith, lt, e)))) (among_split i a ps x).1
among_set i q (suc local) (a ∷ ps) lt x = let z = among_split i a ps x in among_or (a == i) (among i (slice_set ps local q)) z.0 (among_set i q local ps lt z.1)

pub among_last : (i q : ℕ) → i < q → among i (q ∷ []) ≡ false
among_last i q lt = among_or (q == i) false (ne_eqb q i (λ e. absurd (omega (arith, lt, e)))) refl

-- variables that are not used weigh nothing
kept_further : (wt : Value → ℕ) (b : Bool) (v : Option Value) (l : List Value) (a : Env) (k : ℕ) → total wt l ≤ total wt (values_of a) + k → total wt (cond b (and_some v l) l) ≤ total wt (values_of (v ∷ a)) + k
kept_further wt true None l a k h = h
kept_further wt false None l a k h = h
kept_further wt true (Some v) l a k h = omega (arith, h)
kept_further wt false (Some v) l a k h = omega (arith, h)

pub total_unused : (wt : Value → ℕ) (uses : ℕ → Bool) (base : ℕ) (a xs rest : Env) → ((j : ℕ) → base + length a ≤ j → j < base + length a + length xs → uses j ≡ false)
    → total wt (kept uses (named base (a ++ (xs ++ rest)))) ≤ total wt (values_of a) + total wt (values_of rest)
total_unused wt uses base [] [] rest h = omega (arith, total_kept wt uses base rest)
total_unused wt uses base [] (x ∷ xs) rest h =
    let e : uses base ≡ false = h base (omega arith) (omega arith) in
    let ih = total_unused wt uses (base + 1) [] xs rest (λ j le lt. h j (omega (arith, le)) (omega (arith, lt))) in
    subst (λ b. total wt (cond b (and_some x (kept uses (named (base + 1) (xs ++ rest)))) (kept uses (named (base + 1) (xs ++ rest)))) ≤ total wt (values_of []) + total wt (values_of rest)) (sym e) ih
total_unused wt uses base (v ∷ a) xs rest h =
    kept_further wt (uses base) v (kept uses (named (base + 1) (a ++ (xs ++ rest)))) a (total wt (values_of rest))
    (total_unused wt uses (base + 1) a xs rest (λ j le lt. h j (omega (arith, le)) (omega (arith, lt))))

pub total_locals : (wt : Value → ℕ) (ls : Env) (held : List Value) → total wt (values_of (ls ++ map Some held)) ≡ total wt (values_of ls) + total wt held
total_locals wt ls held = ap (total wt) (values_append ls (map Some held)) ∙ total_append wt (values_of ls) (values_of (map Some held)) ∙ ap (λ l. total wt (values_of ls) + total wt l) (values_some held)

pub total_more : (wt : Value → ℕ) (ls : Env) (v : Value) → total wt (values_of (ls ++ Some v ∷ [])) ≡ total wt (values_of ls) + wt v
total_more wt ls v =
    let z = ap (total wt) (values_append ls (Some v ∷ [])) in
    let y = total_append wt (values_of ls) (values_of (Some v ∷ [])) in
    omega (arith, z, y)
