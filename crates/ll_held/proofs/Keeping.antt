-- What the roots of states name.
use Rattle.std.proofs.Common.{◌≡◌, ◌<◌, ◌≤◌, ℕ, zero, suc, ◌+◌, Bool, true, false, ◌||◌, ◌==◌, List, [], ◌∷◌, ◌++◌, length, refl, sym, ap, ◌∙◌, subst, arith, ◌⊎◌, inl, inr}
use Rattle.std.specs.Prelude.{cond, slice_set, Option}
use Rattle.csub_tree.specs.State.{Value, Unset, Ptr, Block}
use Rattle.csub_tree.specs.Layout.{constant}
use Rattle.csub_tree.specs.Statement.{read, operand, operands}
use Rattle.csub_tree.specs.declared.tree.CConst.{CConst}
use Rattle.csub_tree.specs.declared.tree.CConst.TheVariants as constant
use Rattle.csub_tree.specs.declared.tree.COperand.{COperand}
use Rattle.csub_tree.specs.declared.tree.COperand.TheVariants.{Var, Const}
use Rattle.ll_code.specs.Machine.{set_all}
use Rattle.ll_laws.proofs.Values.{is_same}
use Rattle.ll_live.specs.Live.{among, variables_of, variables_in}
use Rattle.ll_live.proofs.Appended.{among_append}
use Rattle.ll_held.specs.Roots.{kept}
use Rattle.ll_held.specs.Held.{is_block, times, is_reference, references, Held, Root, Cycle, From}

-- ---- truth values

pub or_left : (a b : Bool) → a ≡ true → (a || b) ≡ true
or_left true b h = refl
or_left false b h = absurd (cc)

pub or_right : (a b : Bool) → b ≡ true → (a || b) ≡ true
or_right true b h = refl
or_right false b h = h

pub or_one : (a b : Bool) → (a || b) ≡ true → (a ≡ true) ⊎ (b ≡ true)
or_one true b h = inl refl
or_one false b h = inr h

pub same_number : (n : ℕ) → (n == n) ≡ true
same_number n = grind arith

-- ---- lists of values

pub times_append : (b : ℕ) (xs ys : List Value) → times b (xs ++ ys) ≡ times b xs + times b ys
times_append b [] ys = omega arith
times_append b (x ∷ xs) ys = one (is_block b x) (times_append b xs ys)
  where
    one : (c : Bool) → times b (xs ++ ys) ≡ times b xs + times b ys → cond c (suc (times b (xs ++ ys))) (times b (xs ++ ys)) ≡ cond c (suc (times b xs)) (times b xs) + times b ys
    one true e = omega (arith, e)
    one false e = e

pub references_append : (xs ys : List Value) → references (xs ++ ys) ≡ references xs + references ys
references_append [] ys = omega arith
references_append (x ∷ xs) ys = one (is_reference x) (references_append xs ys)
  where
    one : (c : Bool) → references (xs ++ ys) ≡ references xs + references ys → cond c (suc (references (xs ++ ys))) (references (xs ++ ys)) ≡ cond c (suc (references xs)) (references xs) + references ys
    one true e = omega (arith, e)
    one false e = e

-- a list that names a block names it in one of its parts
pub in_parts : (b : ℕ) (xs ys : List Value) → 0 < times b (xs ++ ys) → (0 < times b xs) ⊎ (0 < times b ys)
in_parts b xs ys h = let e : times b (xs ++ ys) ≡ times b xs + times b ys = times_append b xs ys in one (times b xs) refl e
  where
    one : (n : ℕ) → times b xs ≡ n → times b (xs ++ ys) ≡ times b xs + times b ys → (0 < times b xs) ⊎ (0 < times b ys)
    one zero f e = inr (omega (arith, f, e, h))
    one (suc n) f e = inl (omega (arith, f))

pub in_first : (b : ℕ) (xs ys : List Value) → 0 < times b xs → 0 < times b (xs ++ ys)
in_first b xs ys h = let e : times b (xs ++ ys) ≡ times b xs + times b ys = times_append b xs ys in omega (arith, e, h)

pub in_second : (b : ℕ) (xs ys : List Value) → 0 < times b ys → 0 < times b (xs ++ ys)
in_second b xs ys h = let e : times b (xs ++ ys) ≡ times b xs + times b ys = times_append b xs ys in omega (arith, e, h)

pub block_is : (b : ℕ) (x : Value) → is_block b x ≡ true → x ≡ Ptr b
block_is b (Ptr n) h = ap Ptr (is_same n b h)
block_is b Unset h = absurd (cc)
block_is b other h = absurd (cc)

-- the first of a list names the block, or the others do
pub at_head : (b : ℕ) (x : Value) (xs : List Value) → 0 < times b (x ∷ xs) → (x ≡ Ptr b) ⊎ (0 < times b xs)
at_head b x xs h = one (is_block b x) refl h
  where
    one : (c : Bool) → is_block b x ≡ c → 0 < cond c (suc (times b xs)) (times b xs) → (x ≡ Ptr b) ⊎ (0 < times b xs)
    one true e h = inl (block_is b x e)
    one false e h = inr h

pub head_in : (b : ℕ) (x : Value) (xs : List Value) → x ≡ Ptr b → 0 < times b (x ∷ xs)
head_in b x xs e = subst (λ x. 0 < times b (x ∷ xs)) (sym e) (one (b == b) (same_number b))
  where
    one : (c : Bool) → c ≡ true → 0 < cond c (suc (times b xs)) (times b xs)
    one true h = omega arith
    one false h = absurd (cc)

pub tail_in : (b : ℕ) (x : Value) (xs : List Value) → 0 < times b xs → 0 < times b (x ∷ xs)
tail_in b x xs h = one (is_block b x)
  where
    one : (c : Bool) → 0 < cond c (suc (times b xs)) (times b xs)
    one true = omega arith
    one false = h

-- a value of a list that is read at a place
pub read_in : (b : ℕ) (xs : List Value) (i : ℕ) → read xs i ≡ Ptr b → 0 < times b xs
read_in b [] i e = absurd (cc)
read_in b (x ∷ xs) zero e = head_in b x xs e
read_in b (x ∷ xs) (suc i) e = tail_in b x xs (read_in b xs i e)

-- ---- variables

-- a block among the values that are kept is that of a variable that is used
pub kept_from : (uses : ℕ → Bool) (n : ℕ) (vars : List Value) (b : ℕ) → 0 < times b (kept uses n vars) → (v : ℕ) × (uses (n + v) ≡ true) × (read vars v ≡ Ptr b)
kept_from uses n [] b h = absurd (omega (arith, h))
kept_from uses n (x ∷ vars) b h = one (λ h. kept_from uses (suc n) vars b h) (uses n) refl h
  where
    deeper : (v : ℕ) × (uses (suc n + v) ≡ true) × (read vars v ≡ Ptr b) → (v : ℕ) × (uses (n + v) ≡ true) × (read (x ∷ vars) v ≡ Ptr b)
    deeper (v, u, e) = (suc v, (let s : n + suc v ≡ suc n + v = omega arith in ap uses s ∙ u), e)

    here : ((0 < times b (kept uses (suc n) vars)) → (v : ℕ) × (uses (suc n + v) ≡ true) × (read vars v ≡ Ptr b)) → uses n ≡ true → (x ≡ Ptr b) ⊎ (0 < times b (kept uses (suc n) vars)) → (v : ℕ) × (uses (n + v) ≡ true) × (read (x ∷ vars) v ≡ Ptr b)
    here go u (inl e) = (0, (let s : n + 0 ≡ n = omega arith in ap uses s ∙ u), e)
    here go u (inr h) = deeper (go h)

    one : ((0 < times b (kept uses (suc n) vars)) → (v : ℕ) × (uses (suc n + v) ≡ true) × (read vars v ≡ Ptr b)) → (c : Bool) → uses n ≡ c → 0 < times b (cond c (x ∷ kept uses (suc n) vars) (kept uses (suc n) vars)) → (v : ℕ) × (uses (n + v) ≡ true) × (read (x ∷ vars) v ≡ Ptr b)
    one go true u h = here go u (at_head b x (kept uses (suc n) vars) h)
    one go false u h = deeper (go h)

pub kept_to : (uses : ℕ → Bool) (n : ℕ) (vars : List Value) (b v : ℕ) → uses (n + v) ≡ true → read vars v ≡ Ptr b → 0 < times b (kept uses n vars)
kept_to uses n [] b v u e = absurd (cc)
kept_to uses n (x ∷ vars) b zero u e = one (uses n) (let s : n + 0 ≡ n = omega arith in ap uses (sym s) ∙ u)
  where
    one : (c : Bool) → c ≡ true → 0 < times b (cond c (x ∷ kept uses (suc n) vars) (kept uses (suc n) vars))
    one true h = head_in b x (kept uses (suc n) vars) e
    one false h = absurd (cc)
kept_to uses n (x ∷ vars) b (suc v) u e = one (uses n) (kept_to uses (suc n) vars b v (let s : n + suc v ≡ suc n + v = omega arith in ap uses (sym s) ∙ u) e)
  where
    one : (c : Bool) → 0 < times b (kept uses (suc n) vars) → 0 < times b (cond c (x ∷ kept uses (suc n) vars) (kept uses (suc n) vars))
    one true h = tail_in b x (kept uses (suc n) vars) h
    one false h = h

-- the same from the first variable on
pub used_from : (uses : ℕ → Bool) (vars : List Value) (b : ℕ) → 0 < times b (kept uses 0 vars) → (v : ℕ) × (uses v ≡ true) × (read vars v ≡ Ptr b)
used_from uses vars b h = one (kept_from uses 0 vars b h)
  where
    one : (v : ℕ) × (uses (0 + v) ≡ true) × (read vars v ≡ Ptr b) → (v : ℕ) × (uses v ≡ true) × (read vars v ≡ Ptr b)
    one (v, u, e) = (v, (let s : 0 + v ≡ v = omega arith in ap uses (sym s) ∙ u), e)

pub used_to : (uses : ℕ → Bool) (vars : List Value) (b v : ℕ) → uses v ≡ true → read vars v ≡ Ptr b → 0 < times b (kept uses 0 vars)
used_to uses vars b v u e = kept_to uses 0 vars b v (let s : 0 + v ≡ v = omega arith in ap uses s ∙ u) e

-- where what is used is used there too, and holds the same, no more references are kept
pub kept_fewer : (uses more : ℕ → Bool) (n : ℕ) (vars others : List Value) → ((v : ℕ) → uses (n + v) ≡ true → is_reference (read vars v) ≡ true → (more (n + v) ≡ true) × (read others v ≡ read vars v)) → references (kept uses n vars) ≤ references (kept more n others)
kept_fewer uses more n [] others h = omega arith
kept_fewer uses more n (x ∷ vars) [] h = one (kept_fewer uses more (suc n) vars [] (λ v u r. (let s : n + suc v ≡ suc n + v = omega arith in let k = h (suc v) (ap uses s ∙ u) r in (ap more (sym s) ∙ k.0, k.1)))) (uses n) refl (is_reference x) refl
  where
    one : references (kept uses (suc n) vars) ≤ 0 → (c : Bool) → uses n ≡ c → (d : Bool) → is_reference x ≡ d → references (cond c (x ∷ kept uses (suc n) vars) (kept uses (suc n) vars)) ≤ 0
    one rest true u true r = absurd (let s : n + 0 ≡ n = omega arith in let k = h 0 (ap uses s ∙ u) r in let f : false ≡ true = ap is_reference k.1 ∙ r in cc)
    one rest true u false r = let g : cond (is_reference x) (suc (references (kept uses (suc n) vars))) (references (kept uses (suc n) vars)) ≡ references (kept uses (suc n) vars) = ap (λ c. cond c (suc (references (kept uses (suc n) vars))) (references (kept uses (suc n) vars))) r in let l : references (kept uses (suc n) vars) ≤ 0 = rest in omega (arith, g, l)
    one rest false u d r = rest
kept_fewer uses more n (x ∷ vars) (y ∷ others) h = one (kept_fewer uses more (suc n) vars others (λ v u r. (let s : n + suc v ≡ suc n + v = omega arith in let k = h (suc v) (ap uses s ∙ u) r in (ap more (sym s) ∙ k.0, k.1)))) (uses n) refl (is_reference x) refl
  where
    wider : references (kept uses (suc n) vars) ≤ references (kept more (suc n) others) → references (kept uses (suc n) vars) ≤ references (cond (more n) (y ∷ kept more (suc n) others) (kept more (suc n) others))
    wider rest = by (more n) (is_reference y) refl
      where
        by : (c d : Bool) → is_reference y ≡ d → references (kept uses (suc n) vars) ≤ references (cond c (y ∷ kept more (suc n) others) (kept more (suc n) others))
        by true true r = let g : cond (is_reference y) (suc (references (kept more (suc n) others))) (references (kept more (suc n) others)) ≡ suc (references (kept more (suc n) others)) = ap (λ c. cond c (suc (references (kept more (suc n) others))) (references (kept more (suc n) others))) r in let l : references (kept uses (suc n) vars) ≤ references (kept more (suc n) others) = rest in omega (arith, g, l)
        by true false r = let g : cond (is_reference y) (suc (references (kept more (suc n) others))) (references (kept more (suc n) others)) ≡ references (kept more (suc n) others) = ap (λ c. cond c (suc (references (kept more (suc n) others))) (references (kept more (suc n) others))) r in let l : references (kept uses (suc n) vars) ≤ references (kept more (suc n) others) = rest in omega (arith, g, l)
        by false d r = rest

    one : references (kept uses (suc n) vars) ≤ references (kept more (suc n) others) → (c : Bool) → uses n ≡ c → (d : Bool) → is_reference x ≡ d → references (cond c (x ∷ kept uses (suc n) vars) (kept uses (suc n) vars)) ≤ references (cond (more n) (y ∷ kept more (suc n) others) (kept more (suc n) others))
    one rest true u true r =
        let s : n + 0 ≡ n = omega arith in let k = h 0 (ap uses s ∙ u) r in let m : more n ≡ true = ap more (sym s) ∙ k.0 in
        let ry : is_reference y ≡ true = ap is_reference k.1 ∙ r in
        let gx : cond (is_reference x) (suc (references (kept uses (suc n) vars))) (references (kept uses (suc n) vars)) ≡ suc (references (kept uses (suc n) vars)) = ap (λ c. cond c (suc (references (kept uses (suc n) vars))) (references (kept uses (suc n) vars))) r in
        let gy : references (cond (more n) (y ∷ kept more (suc n) others) (kept more (suc n) others)) ≡ suc (references (kept more (suc n) others)) = ap (λ c. references (cond c (y ∷ kept more (suc n) others) (kept more (suc n) others))) m ∙ ap (λ c. cond c (suc (references (kept more (suc n) others))) (references (kept more (suc n) others))) ry in
        let l : references (kept uses (suc n) vars) ≤ references (kept more (suc n) others) = rest in omega (arith, gx, gy, l)
    one rest true u false r = let gx : cond (is_reference x) (suc (references (kept uses (suc n) vars))) (references (kept uses (suc n) vars)) ≡ references (kept uses (suc n) vars) = ap (λ c. cond c (suc (references (kept uses (suc n) vars))) (references (kept uses (suc n) vars))) r in let l : references (kept uses (suc n) vars) ≤ references (cond (more n) (y ∷ kept more (suc n) others) (kept more (suc n) others)) = wider rest in omega (arith, gx, l)
    one rest false u d r = wider rest

-- ---- operands

pub constant_apart : (c : CConst) (b : ℕ) → constant c ≡ Ptr b → ⊥
constant_apart (constant.Word n) b e = absurd (cc)
constant_apart (constant.Char n) b e = absurd (cc)
constant_apart (constant.Bool n) b e = absurd (cc)
constant_apart constant.Null b e = absurd (cc)
constant_apart (constant.Static n g) b e = absurd (cc)
constant_apart (constant.Fun f) b e = absurd (cc)

-- an operand that names a block is a variable
pub operand_from : (vars : List Value) (x : COperand) (b : ℕ) → operand vars x ≡ Ptr b → (v : ℕ) × (among v (variables_of x) ≡ true) × (read vars v ≡ Ptr b)
operand_from vars (Var v) b e = (v, or_left (v == v) false (same_number v), e)
operand_from vars (Const c) b e = absurd (constant_apart c b e)

pub operands_from : (vars : List Value) (xs : List COperand) (b : ℕ) → 0 < times b (operands vars xs) → (v : ℕ) × (among v (variables_in xs) ≡ true) × (read vars v ≡ Ptr b)
operands_from vars [] b h = absurd (omega (arith, h))
operands_from vars (x ∷ xs) b h = one (λ h. operands_from vars xs b h) (at_head b (operand vars x) (operands vars xs) h)
  where
    one : ((0 < times b (operands vars xs)) → (v : ℕ) × (among v (variables_in xs) ≡ true) × (read vars v ≡ Ptr b)) → (operand vars x ≡ Ptr b) ⊎ (0 < times b (operands vars xs)) → (v : ℕ) × (among v (variables_of x ++ variables_in xs) ≡ true) × (read vars v ≡ Ptr b)
    one go (inl e) = (let k = operand_from vars x b e in (k.0, among_append k.0 (variables_of x) (variables_in xs) ∙ or_left _ _ k.1, k.2))
    one go (inr h) = (let k = go h in (k.0, among_append k.0 (variables_of x) (variables_in xs) ∙ or_right _ _ k.1, k.2))

-- ---- variables that are set

pub set_read : (vars : List Value) (a v b : ℕ) (value : Value) → read (slice_set vars a value) v ≡ Ptr b → ((a ≡ v) × (value ≡ Ptr b)) ⊎ (((a ≡ v) → ⊥) × (read vars v ≡ Ptr b))
set_read [] a v b value e = absurd (cc)
set_read (x ∷ vars) zero zero b value e = inl (refl, e)
set_read (x ∷ vars) zero (suc v) b value e = inr ((λ i. absurd (cc)), e)
set_read (x ∷ vars) (suc a) zero b value e = inr ((λ i. absurd (cc)), e)
set_read (x ∷ vars) (suc a) (suc v) b value e = one (set_read vars a v b value e)
  where
    one : ((a ≡ v) × (value ≡ Ptr b)) ⊎ (((a ≡ v) → ⊥) × (read vars v ≡ Ptr b)) → ((suc a ≡ suc v) × (value ≡ Ptr b)) ⊎ (((suc a ≡ suc v) → ⊥) × (read vars v ≡ Ptr b))
    one (inl k) = inl (ap suc k.0, k.1)
    one (inr k) = inr ((λ i. k.0 (cc)), k.1)

-- a variable that is set with others holds one of the values
pub set_all_read : (vars : List Value) (vs : List ℕ) (values : List Value) (v b : ℕ) → length vs ≡ length values → read (set_all vars vs values) v ≡ Ptr b → (0 < times b values) ⊎ ((among v vs ≡ false) × (read vars v ≡ Ptr b))
set_all_read vars [] values v b n e = inr (refl, e)
set_all_read vars (w ∷ vs) [] v b n e = absurd (cc)
set_all_read vars (w ∷ vs) (x ∷ values) v b n e = one (set_all_read (slice_set vars w x) vs values v b (let f : length vs ≡ length values = omega (arith, n) in f) e)
  where
    here : among v vs ≡ false → ((w ≡ v) × (x ≡ Ptr b)) ⊎ (((w ≡ v) → ⊥) × (read vars v ≡ Ptr b)) → (0 < times b (x ∷ values)) ⊎ (((w == v) || among v vs ≡ false) × (read vars v ≡ Ptr b))
    here a (inl k) = inl (head_in b x values k.1)
    here a (inr k) = inr (by (w == v) refl, k.1)
      where
        by : (c : Bool) → (w == v) ≡ c → (c || among v vs) ≡ false
        by true i = absurd (k.0 (is_same w v i))
        by false i = a

    one : (0 < times b values) ⊎ ((among v vs ≡ false) × (read (slice_set vars w x) v ≡ Ptr b)) → (0 < times b (x ∷ values)) ⊎ (((w == v) || among v vs ≡ false) × (read vars v ≡ Ptr b))
    one (inl h) = inl (tail_in b x values h)
    one (inr h) = here h.0 (set_read vars w v b x h.1)

-- ---- what is held

pub held_on : (blocks : List (Option Block)) (roots more : List Value) → ((b : ℕ) → 0 < times b roots → Held blocks more b) → (b : ℕ) → Held blocks roots b → Held blocks more b
held_on blocks roots more h b (Root r) = h b r
held_on blocks roots more h b (Cycle c) = Cycle c
held_on blocks roots more h b (From a r) = From (held_on blocks roots more h _ a) r
