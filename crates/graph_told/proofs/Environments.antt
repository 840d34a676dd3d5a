-- What stands at the places of a block in the variables of a run.
use Rattle.std.proofs.Common.{◌≡◌, ℕ, zero, suc, ◌+◌, ◌<◌, ◌≤◌, inl, inr, List, [], ◌∷◌, ◌++◌, length, map, Some, None, refl, sym, ap, ◌∙◌, arith}
use Rattle.std.specs.Prelude.{cond, if◌then◌else◌}
use Rattle.std.proofs.lemmas.Bool.{cases_lt, eq-eqb, ne_eqb}
use Rattle.rpy_tree.specs.Value.{Value}
use Rattle.flow_meaning.specs.Machine.{Bound, look, and_value, values_of, bind, passed, taken}
use Rattle.flow_stands.specs.Places.{range, shift}
use Rattle.graph_told.proofs.Facts.{At, pick, with_value, values_at}

abbrev pub names : List Bound → List ℕ
names env = map (λ (b : Bound). b.variable) env

abbrev pub places : ℕ → List Bound → At
places base env j = look env (base + j)

pub passed_names : (env : List Bound) (inputs args : List ℕ) → names (passed env inputs args) ≡ inputs
passed_names env [] args = refl
passed_names env (input ∷ inputs) [] = ap (λ l. input ∷ l) (passed_names env inputs [])
passed_names env (input ∷ inputs) (v ∷ vs) = ap (λ l. input ∷ l) (passed_names env inputs vs)

pub taken_names : (inputs : List ℕ) (vs : List Value) → names (taken inputs vs) ≡ inputs
taken_names [] vs = refl
taken_names (input ∷ inputs) [] = ap (λ l. input ∷ l) (taken_names inputs [])
taken_names (input ∷ inputs) (v ∷ vs) = ap (λ l. input ∷ l) (taken_names inputs vs)

-- ---- operands

pub values_are : (base : ℕ) (env : List Bound) (args : List ℕ) → values_of env (shift base args) ≡ values_at (places base env) args
values_are base env [] = refl
values_are base env (i ∷ args) = ap (and_value (look env (base + i))) (values_are base env args)

-- ---- what is passed on

here : (b : Bound) (env : List Bound) (v : ℕ) → b.variable ≡ v → look (b ∷ env) v ≡ b.value
here b env v e = ap (λ t. cond t b.value (look env v)) (eq-eqb b.variable v e)

past : (b : Bound) (env : List Bound) (v : ℕ) → (b.variable ≡ v → ⊥) → look (b ∷ env) v ≡ look env v
past b env v ne = ap (λ t. cond t b.value (look env v)) (ne_eqb b.variable v ne)

passed_at : (env : List Bound) (to base a k : ℕ) (args : List ℕ) → length args ≡ k → (j : ℕ) → look (passed env (shift to (range a k)) (shift base args)) (to + (a + j)) ≡ pick (places base env) args j
passed_at env to base a zero [] count j = refl
passed_at env to base a zero (i ∷ args) count j = absurd (omega (arith, count))
passed_at env to base a (suc k) [] count j = absurd (omega (arith, count))
passed_at env to base a (suc k) (i ∷ args) count zero = here (bind (to + a) (look env (base + i))) (passed env (shift to (range (a + 1) k)) (shift base args)) (to + (a + 0)) (omega arith)
passed_at env to base a (suc k) (i ∷ args) count (suc j) =
    let e : to + (a + suc j) ≡ to + ((a + 1) + j) = omega arith in
    past (bind (to + a) (look env (base + i))) (passed env (shift to (range (a + 1) k)) (shift base args)) (to + (a + suc j)) (λ same. omega (arith, same))
    ∙ (ap (look (passed env (shift to (range (a + 1) k)) (shift base args))) e ∙ passed_at env to base (a + 1) k args (omega (arith, count)) j)

pub passed_is : (env : List Bound) (to base k : ℕ) (args : List ℕ) → length args ≡ k → (j : ℕ) → places to (passed env (shift to (range 0 k)) (shift base args)) j ≡ pick (places base env) args j
passed_is env to base k args count j = let e : to + j ≡ to + (0 + j) = omega arith in ap (look (passed env (shift to (range 0 k)) (shift base args))) e ∙ passed_at env to base 0 k args count j

-- ---- behind an operation

old_at : (env : List Bound) (base a k : ℕ) (x : Bound) → names env ≡ shift base (range a k) → (j : ℕ) → j < k → look (env ++ x ∷ []) (base + (a + j)) ≡ look env (base + (a + j))
old_at env base a zero x named j lt = absurd (omega (arith, lt))
old_at [] base a (suc k) x named j lt = cc
old_at (b ∷ env) base a (suc k) x named zero lt =
    let first : b.variable ≡ base + a = cc in
    here b (env ++ x ∷ []) (base + (a + 0)) (omega (arith, first)) ∙ sym (here b env (base + (a + 0)) (omega (arith, first)))
old_at (b ∷ env) base a (suc k) x named (suc j) lt =
    let first : b.variable ≡ base + a = cc in
    let rest : names env ≡ shift base (range (a + 1) k) = cc in
    let e : base + (a + suc j) ≡ base + ((a + 1) + j) = omega arith in
    past b (env ++ x ∷ []) (base + (a + suc j)) (λ same. omega (arith, same, first))
    ∙ (ap (look (env ++ x ∷ [])) e ∙ (old_at env base (a + 1) k x rest j (omega (arith, lt)) ∙ (ap (look env) (sym e) ∙ sym (past b env (base + (a + suc j)) (λ same. omega (arith, same, first))))))

new_at : (env : List Bound) (base a k : ℕ) (x : Bound) → names env ≡ shift base (range a k) → (j : ℕ) → k ≤ j → look (env ++ x ∷ []) (base + (a + j)) ≡ look (x ∷ []) (base + (a + j))
new_at [] base a k x named j le = refl
new_at (b ∷ env) base a zero x named j le = cc
new_at (b ∷ env) base a (suc k) x named zero le = absurd (omega (arith, le))
new_at (b ∷ env) base a (suc k) x named (suc j) le =
    let first : b.variable ≡ base + a = cc in
    let rest : names env ≡ shift base (range (a + 1) k) = cc in
    let e : base + (a + suc j) ≡ base + ((a + 1) + j) = omega arith in
    past b (env ++ x ∷ []) (base + (a + suc j)) (λ same. omega (arith, same, first))
    ∙ (ap (look (env ++ x ∷ [])) e ∙ (new_at env base (a + 1) k x rest j (omega (arith, le)) ∙ ap (look (x ∷ [])) (sym e)))

none_at : (env : List Bound) (base a k : ℕ) → names env ≡ shift base (range a k) → (j : ℕ) → k ≤ j → look env (base + (a + j)) ≡ None
none_at [] base a k named j le = refl
none_at (b ∷ env) base a zero named j le = cc
none_at (b ∷ env) base a (suc k) named zero le = absurd (omega (arith, le))
none_at (b ∷ env) base a (suc k) named (suc j) le =
    let first : b.variable ≡ base + a = cc in
    let rest : names env ≡ shift base (range (a + 1) k) = cc in
    let e : base + (a + suc j) ≡ base + ((a + 1) + j) = omega arith in
    past b env (base + (a + suc j)) (λ same. omega (arith, same, first)) ∙ (ap (look env) e ∙ none_at env base (a + 1) k rest j (omega (arith, le)))

pub bound_is : (env : List Bound) (base m : ℕ) (v : Value) → names env ≡ shift base (range 0 m) → (j : ℕ) → places base (env ++ bind (base + m) (Some v) ∷ []) j ≡ with_value (places base env) m v j
bound_is env base m v named j = elim (cases_lt j m) [
  | inl lt ↦ let e : base + j ≡ base + (0 + j) = omega arith in
      ap (look (env ++ x ∷ [])) e ∙ (old_at env base 0 m x named j lt ∙ (ap (look env) (sym e) ∙ sym (ap (λ t. if t then Some v else look env (base + j)) (ne_eqb j m (λ same. omega (arith, same, lt))))))
  | inr le ↦ elim (cases_lt m j) [
    | inl more ↦ let e : base + j ≡ base + (0 + j) = omega arith in
        ap (look (env ++ x ∷ [])) e ∙ (new_at env base 0 m x named j le ∙ (ap (look (x ∷ [])) (sym e) ∙ (past x [] (base + j) (λ same. omega (arith, same, more))
        ∙ (sym (none_at env base 0 m named j le) ∙ (ap (look env) (sym e) ∙ sym (ap (λ t. if t then Some v else look env (base + j)) (ne_eqb j m (λ same. omega (arith, same, more)))))))))
    | inr most ↦ let e : base + j ≡ base + (0 + j) = omega arith in let same : m ≡ j = omega (arith, le, most) in
        ap (look (env ++ x ∷ [])) e ∙ (new_at env base 0 m x named j le ∙ (ap (look (x ∷ [])) (sym e) ∙ (here x [] (base + j) (ap (λ (i : ℕ). base + i) same) ∙ sym (ap (λ t. if t then Some v else look env (base + j)) (eq-eqb j m (sym same))))))
  ]
]
  where
    x : Bound
    x = bind (base + m) (Some v)
