-- The values that calls give.
use Rattle.std.proofs.Common.{◌≡◌, ℕ, zero, suc, ◌+◌, ◌-◌, true, List, [], ◌∷◌, ◌++◌, length, map, take, drop, replicate, Some, refl, ap, ◌∙◌, arith}
use Rattle.std.specs.Prelude.{slice_get, option_map}
use Rattle.csub_tree.specs.State.{Value, Unset, Fun, Caller, Core}
use Rattle.csub_tree.specs.Statement as st
use Rattle.csub_tree.specs.Statement.{read, same_type, same_types, fun_of, last_of}
use Rattle.csub_tree.specs.declared.tree.CType.{CType}
use Rattle.csub_tree.specs.declared.tree.COperand.{COperand}
use Rattle.ll_code.specs.Machine.{c_type}
use Rattle.ll_code.specs.Typed.{all_given, all_taken, params_ok}
use Rattle.ll_code.specs.declared.program.LlType.{LlType}
use Rattle.ll_code.specs.declared.program.LlGraph.{LlGraph}
use Rattle.ll_code.specs.declared.program.LlProgram.{LlProgram}
use Rattle.ll_laws.proofs.Values.{and_left, and_right}
use Rattle.genc_lower.specs.declared.order.Order.{Order}
use Rattle.genc_lower.specs.Lower as lower
use Rattle.genc_lower.specs.Lower.{order_of, function_of, function_code, waiting_types}
use Rattle.genc_laws.specs.Same.{renamed, SameVars}
use Rattle.genc_laws.specs.Stands.{count_of}
use Rattle.genc_laws.proofs.Values.{length_map, index_map}
use Rattle.genc_laws.proofs.Operations.{given_in}
use Rattle.genc_laws.proofs.Places.{length_both, length_drop, variable_count}

-- ---- lists

pub unset_at : (n k : ℕ) → read (replicate n Unset) k ≡ Unset
unset_at zero k = refl
unset_at (suc n) zero = refl
unset_at (suc n) (suc k) = unset_at n k

pub read_filled : (values : List Value) (n k : ℕ) → read (values ++ replicate n Unset) k ≡ read values k
read_filled [] n k = unset_at n k
read_filled (v ∷ values) n zero = refl
read_filled (v ∷ values) n (suc k) = read_filled values n k

pub length_filled : (n : ℕ) → length (replicate n Unset) ≡ n
length_filled zero = refl
length_filled (suc n) = ap suc (length_filled n)

pub last_caller : (rest : List Caller) (caller : Caller) → last_of (rest ++ caller ∷ []) ≡ Some caller
last_caller rest caller = ap (slice_get (rest ++ caller ∷ [])) (let e : length (rest ++ caller ∷ []) ≡ length rest + 1 = length_both rest (caller ∷ []) in let f : length (rest ++ caller ∷ []) - 1 ≡ length rest = omega (arith, e) in f) ∙ end rest
  where
    end : (rest : List Caller) → slice_get (rest ++ caller ∷ []) (length rest) ≡ Some caller
    end [] = refl
    end (c ∷ rest) = end rest

pub but_last : (rest : List Caller) (caller : Caller) → take (length (rest ++ caller ∷ []) - 1) (rest ++ caller ∷ []) ≡ rest
but_last rest caller = ap (λ n. take n (rest ++ caller ∷ [])) (let e : length (rest ++ caller ∷ []) ≡ length rest + 1 = length_both rest (caller ∷ []) in let f : length (rest ++ caller ∷ []) - 1 ≡ length rest = omega (arith, e) in f) ∙ front rest
  where
    front : (rest : List Caller) → take (length rest) (rest ++ caller ∷ []) ≡ rest
    front [] = refl
    front (c ∷ rest) = ap (λ l. c ∷ l) (front rest)

-- ---- counts

pub given_count : (p : LlProgram) (types others : List LlType) (vs : List ℕ) (xs : List COperand) → all_given p types others vs xs ≡ true → length xs ≡ length vs
given_count p types others [] [] h = refl
given_count p types others (v ∷ vs) (x ∷ xs) h = ap suc (given_count p types others vs xs (and_right _ _ h))
given_count p types others [] (x ∷ xs) h = absurd (cc)
given_count p types others (v ∷ vs) [] h = absurd (cc)

pub taken_count : (p : LlProgram) (types ts : List LlType) (xs : List COperand) → all_taken p types ts xs ≡ true → length xs ≡ length ts
taken_count p types [] [] h = refl
taken_count p types (t ∷ ts) (x ∷ xs) h = ap suc (taken_count p types ts xs (and_right _ _ h))
taken_count p types [] (x ∷ xs) h = absurd (cc)
taken_count p types (t ∷ ts) [] h = absurd (cc)

pub same_count : (ss ts : List CType) → same_types ss ts ≡ true → length ss ≡ length ts
same_count [] [] h = refl
same_count (s ∷ ss) (t ∷ ts) h = ap suc (same_count ss ts (and_right _ _ h))
same_count [] (t ∷ ts) h = absurd (cc)
same_count (s ∷ ss) [] h = absurd (cc)

pub operands_count : (vars : List Value) (xs : List COperand) → length (st.operands vars xs) ≡ length xs
operands_count vars xs = length_map (st.operand vars) xs

pub params_short : (p : LlProgram) (graph : LlGraph) → params_ok p graph.types 0 graph.params ≡ true → length graph.params + (length graph.types - length graph.params) ≡ length graph.types
params_short p graph ok =
    let a : length graph.params + length (map c_type (drop (length graph.params) graph.types) ++ waiting_types graph) ≡ length graph.types + length (waiting_types graph) = variable_count p graph ok in
    let b : length (map c_type (drop (length graph.params) graph.types) ++ waiting_types graph) ≡ length (map c_type (drop (length graph.params) graph.types)) + length (waiting_types graph) =
    length_both (map c_type (drop (length graph.params) graph.types)) (waiting_types graph) in
    let c : length (map c_type (drop (length graph.params) graph.types)) ≡ length (drop (length graph.params) graph.types) = length_map c_type (drop (length graph.params) graph.types) in
    let d : length (drop (length graph.params) graph.types) ≡ length graph.types - length graph.params = length_drop graph.types (length graph.params) in
    omega (arith, a, b, c, d)

-- ---- values

pub fun_same : (order : Order) (x : Value) → fun_of (renamed order x) ≡ option_map (function_of order) (fun_of x)
fun_same order (Fun f) = refl
fun_same order other = refl

module _ (p : LlProgram) (types : List LlType) (all : ℕ) (core c_core : Core) (vars : SameVars (order_of p) (length types) all core.vars c_core.vars) where
  pub all_given_same : (others : List LlType) (vs : List ℕ) (xs : List COperand) → all_given p types others vs xs ≡ true
      → st.operands c_core.vars (map (lower.operand (order_of p)) xs) ≡ map (renamed (order_of p)) (st.operands core.vars xs)
  all_given_same others [] [] h = refl
  all_given_same others (v ∷ vs) (x ∷ xs) h =
      ap (λ v. v ∷ st.operands c_core.vars (map (lower.operand (order_of p)) xs)) (given_in p types all core c_core vars (slice_get others v) x (and_left _ _ h))
      ∙ ap (λ vs. renamed (order_of p) (st.operand core.vars x) ∷ vs) (all_given_same others vs xs (and_right _ _ h))
  all_given_same others [] (x ∷ xs) h = absurd (cc)
  all_given_same others (v ∷ vs) [] h = absurd (cc)

-- the variables of a function that is called
pub called_vars : (order : Order) (values c_values : List Value) (n a : ℕ) → c_values ≡ map (renamed order) values → read (c_values ++ replicate n Unset) a ≡ renamed order (read values a)
called_vars order values c_values n a e = read_filled c_values n a ∙ ap (λ l. read l a) e ∙ index_map (renamed order) values a Unset

pub called_size : (p : LlProgram) (graph : LlGraph) (c_values : List Value) → params_ok p graph.types 0 graph.params ≡ true → length c_values ≡ length graph.params
    → length (c_values ++ replicate (length (function_code (order_of p) graph).locals) Unset) ≡ count_of graph
called_size p graph c_values ok e =
    let a : length (c_values ++ replicate (length (function_code (order_of p) graph).locals) Unset) ≡ length c_values + length (replicate (length (function_code (order_of p) graph).locals) Unset) =
    length_both c_values (replicate (length (function_code (order_of p) graph).locals) Unset) in
    let b : length (replicate (length (function_code (order_of p) graph).locals) Unset) ≡ length (function_code (order_of p) graph).locals = length_filled (length (function_code (order_of p) graph).locals) in
    a ∙ ap (λ n. n + length (replicate (length (function_code (order_of p) graph).locals) Unset)) e ∙ ap (λ n. length graph.params + n) b ∙ variable_count p graph ok
