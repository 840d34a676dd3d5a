-- The C file of a body keeps the rules.
use Rattle.std.proofs.Common.{◌≡◌, ℕ, zero, suc, ◌+◌, ◌-◌, ◌<◌, ◌≤◌, Bool, true, false, cond, List, [], ◌∷◌, ◌++◌, length, Option, Some, None, refl, sym, ap, subst, ◌∙◌, arith, inl, inr}
use Rattle.std.specs.Prelude.{ℤ, pos, ◌&&◌, ◌==◌, not, nat_le, slice_get, replicate}
use Rattle.csub_tree.specs.declared.tree.CFile.{CFile}
use Rattle.csub_tree.specs.declared.tree.CType.{CType}
use Rattle.csub_tree.specs.declared.tree.CType.TheVariants.{Signed}
use Rattle.csub_tree.specs.declared.tree.CStruct.{CStruct}
use Rattle.csub_tree.specs.declared.tree.CStmt.{CStmt}
use Rattle.csub_tree.specs.declared.tree.CStmt.TheVariants as stmt
use Rattle.csub_tree.specs.declared.tree.COperand.{COperand}
use Rattle.csub_tree.specs.declared.tree.COperand.TheVariants.{Var, Const}
use Rattle.csub_tree.specs.Checked.{are_types, has_type, takes, given_takes, both_taken, call_ok, statement_ok, is_end, block_ok, is_name, function_ok, or_else, first_bad, first_unchecked, IsChecked}
use Rattle.rpy_tree.specs.Pure.{Expr, Int, Local, Binary}
use Rattle.rpy_tree.specs.declared.syntax.BinOp.{BinOp}
use Rattle.rpy_tree.specs.declared.syntax.BinOp.TheVariants.{Add, Sub, Mul}
use Rattle.rpy_first.specs.declared.body.Sum.{Sum}
use Rattle.rpy_first.specs.declared.body.Line.{Line}
use Rattle.rpy_first.specs.declared.body.Line.TheVariants.{Assign, Print}
use Rattle.rpy_first.specs.declared.body.Body.{Body}
use Rattle.rpy_first.specs.Program.{expr_of, reads_bound, is_bound_local, is_arithmetic, line_ok, lines_ok, bound_by, is_bound}
use Rattle.rpy_words.proofs.Tests.{and_left, and_right, and_both}
use Rattle.first_lower.specs.Lower.{Code, operation, expr_code, use_of, sum_of, lines_code, entry_block, entry_of, lowered, number, printer}
use Rattle.first_lower.proofs.Abstract.{lt_of, le_of, first_ok, rest_ok, at_most, eq_cases, eq_of}
use Rattle.first_lower.proofs.MeanSide.{differs}
use Rattle.first_lower.proofs.MachineSide.{grows, lines_grow}

signed_at : (n v : ℕ) → v < n → slice_get (replicate n Signed) v ≡ Some Signed
signed_at zero v lt = absurd (omega arith)
signed_at (suc n) zero lt = refl
signed_at (suc n) (suc v) lt = signed_at n v (omega arith)

signed_types : (structs : List CStruct) (n : ℕ) → are_types structs (replicate n Signed) ≡ true
signed_types structs zero = refl
signed_types structs (suc n) = signed_types structs n

module _ (file : CFile) (count : ℕ) where
  abbrev vars : List CType
  vars = replicate count Signed

  abbrev ok : CStmt → Bool
  ok s = statement_ok file vars (Some Signed) 1 s

  abbrev ends_block : CStmt → Bool
  ends_block s = is_end file vars (Some Signed) 1 s

  -- statements that end no block and keep the rules
  abbrev all_ok : List CStmt → Bool
  all_ok [] = true
  all_ok (s ∷ ss) = (not (ends_block s) && ok s) && all_ok ss

  all_of_both : (xs ys : List CStmt) → all_ok xs ≡ true → all_ok ys ≡ true → all_ok (xs ++ ys) ≡ true
  all_of_both [] ys p q = q
  all_of_both (x ∷ xs) ys p q = and_both _ _ (and_left (not (ends_block x) && ok x) (all_ok xs) p) (all_of_both xs ys (and_right (not (ends_block x) && ok x) (all_ok xs) p) q)

  block_of_all : (xs : List CStmt) (last : CStmt) → all_ok xs ≡ true → ends_block last ≡ true → ok last ≡ true → block_ok file vars (Some Signed) 1 (xs ++ last ∷ []) ≡ true
  block_of_all [] last p e o = and_both _ _ e o
  block_of_all (x ∷ []) last p e o = and_both _ _ (and_left (not (ends_block x) && ok x) true p) (and_both _ _ e o)
  block_of_all (x ∷ y ∷ xs) last p e o =
      and_both _ _ (and_left (not (ends_block x) && ok x) (all_ok (y ∷ xs)) p) (block_of_all (y ∷ xs) last (and_right (not (ends_block x) && ok x) (all_ok (y ∷ xs)) p) e o)

  takes_var : (v : ℕ) → v < count → takes file vars Signed (Var v) ≡ true
  takes_var v lt = ap (has_type Signed) (signed_at count v lt)

  takes_local : (k i free : ℕ) → is_bound_local k i ≡ true → k ≤ free → free ≤ count → takes file vars Signed (Var (i - 1)) ≡ true
  takes_local k zero free h small room = absurd cc
  takes_local k (suc i) free h small room = takes_var (suc i - 1) (omega (arith, lt_of i k h))

  operation_ok : (f : BinOp) (v : ℕ) (x y : COperand) → is_arithmetic f ≡ true → v < count → takes file vars Signed x ≡ true → takes file vars Signed y ≡ true
      → ok (stmt.Binary v (operation f) x y) ≡ true
  operation_ok Add v x y h lt p q = and_both _ _ (ap (has_type Signed) (signed_at count v lt)) (and_both _ _ p q)
  operation_ok Sub v x y h lt p q = and_both _ _ (ap (has_type Signed) (signed_at count v lt)) (and_both _ _ p q)
  operation_ok Mul v x y h lt p q = and_both _ _ (ap (has_type Signed) (signed_at count v lt)) (and_both _ _ p q)
  operation_ok f v x y h lt p q = absurd cc

  expr_ok : (e : Expr) (k free : ℕ) → reads_bound k e ≡ true → k ≤ free → (expr_code e free).free ≤ count
      → (all_ok (expr_code e free).statements ≡ true) × (takes file vars Signed (expr_code e free).value ≡ true)
  expr_ok (Int z) k free h small room = (refl, refl)
  expr_ok (Local i) k free h small room = (refl, takes_local k i free h small room)
  expr_ok (Binary f a b) k free h small room =
      let ca : Code = expr_code a free in
      let cb : Code = expr_code b ca.free in
      let up_a : free ≤ ca.free = grows a free in
      let up_b : ca.free ≤ cb.free = grows b ca.free in
      let pa = expr_ok a k free (and_left _ _ (and_right (is_arithmetic f) _ h)) small (omega arith) in
      let pb = expr_ok b k ca.free (and_right (reads_bound k a) _ (and_right (is_arithmetic f) _ h)) (omega arith) (omega arith) in (
        all_of_both (ca.statements ++ cb.statements) (stmt.Binary cb.free (operation f) ca.value cb.value ∷ []) (all_of_both ca.statements cb.statements pa.0 pb.0)
            (and_both _ _ (operation_ok f cb.free ca.value cb.value (and_left _ _ h) (omega arith) pa.1 pb.1) refl),
        takes_var cb.free (omega arith),
      )

  assign_ok : (i : ℕ) (s : Sum) (x : COperand) → takes file vars Signed x ≡ true → i < count → all_ok (use_of (Assign i s) x) ≡ true
  assign_ok i s x p inside = and_both _ _ (ap (λ t. given_takes file vars t x) (signed_at count i inside) ∙ p) refl

  print_ok : (s : Sum) (x : COperand) → takes file vars Signed x ≡ true → slice_get file.prototypes 1 ≡ Some printer → all_ok (use_of (Print s) x) ≡ true
  print_ok s x p printers = and_both _ _ (ap (λ f. call_ok file vars None f (x ∷ [])) printers ∙ and_both _ _ p refl) refl

  -- where a line binds there is a variable
  inside_of : (i k locals : ℕ) → i ≤ k → cond (i == k) (k + 1) k ≤ locals → i < locals
  inside_of i k locals small most = elim (eq_cases i k) [
    | inl e ↦ omega (arith, eq_of i k e, ap (λ b. cond b (k + 1) k) e)
    | inr e ↦ omega (arith, differs i k e, ap (λ b. cond b (k + 1) k) e)
  ]

  use_ok : (l : Line) (k locals : ℕ) (x : COperand) → line_ok k l ≡ true → bound_by k l ≤ locals → locals ≤ count → takes file vars Signed x ≡ true
      → slice_get file.prototypes 1 ≡ Some printer → all_ok (use_of l x) ≡ true
  use_ok (Assign i s) k locals x h most room p printers =
      assign_ok i s x p (omega (arith, room, inside_of i k locals (le_of i k (and_left (nat_le i k) (reads_bound k (expr_of s)) h)) most))
  use_ok (Print s) k locals x h most room p printers = print_ok s x p printers

  reads_of : (l : Line) (k : ℕ) → line_ok k l ≡ true → reads_bound k (expr_of (sum_of l)) ≡ true
  reads_of (Assign i s) k h = and_right (nat_le i k) (reads_bound k (expr_of s)) h
  reads_of (Print s) k h = h

  lines_ok_in : (ls : List Line) (result : Sum) (k locals free : ℕ) → lines_ok k ls result locals ≡ true → locals ≤ free → (lines_code ls result free).free ≤ count
      → slice_get file.prototypes 1 ≡ Some printer
      → (all_ok (lines_code ls result free).statements ≡ true) × (takes file vars Signed (lines_code ls result free).value ≡ true)
  lines_ok_in [] result k locals free h few room printers = expr_ok (expr_of result) k free (and_right _ _ h) (omega (arith, at_most [] result k locals h)) room
  lines_ok_in (l ∷ ls) result k locals free h few room printers =
      let c1 : Code = expr_code (expr_of (sum_of l)) free in
      let more : Code = lines_code ls result c1.free in
      let here : line_ok k l ≡ true = first_ok l ls result k locals h in
      let rest : lines_ok (bound_by k l) ls result locals ≡ true = rest_ok l ls result k locals h in
      let up : free ≤ c1.free = grows (expr_of (sum_of l)) free in
      let up_more : c1.free ≤ more.free = lines_grow ls result c1.free in
      let most : bound_by k l ≤ locals = at_most ls result (bound_by k l) locals rest in
      let least : k ≤ locals = at_most (l ∷ ls) result k locals h in
      let p = expr_ok (expr_of (sum_of l)) k free (reads_of l k here) (omega arith) (omega arith) in
      let q = lines_ok_in ls result (bound_by k l) locals c1.free rest (omega arith) room printers in (
        all_of_both (c1.statements ++ use_of l c1.value) more.statements
            (all_of_both c1.statements (use_of l c1.value) p.0 (use_ok l k locals c1.value here most (omega arith) p.1 printers)) q.0,
        q.1,
      )

module _ (name : List ℕ) (body : Body) (named : is_name name ≡ true) (bound : is_bound body ≡ true) where
  abbrev code : Code
  code = lines_code body.lines body.result body.locals

  abbrev file : CFile
  file = lowered name body

  entry_ok : function_ok file 2 (entry_of name code) ≡ true
  entry_ok =
      let p = lines_ok_in file code.free body.lines body.result 0 body.locals body.locals bound (omega arith) (omega arith) refl in
      let whole : block_ok file (replicate code.free Signed) (Some Signed) 1 (entry_block code) ≡ true =
      block_of_all file code.free (stmt.Step (number (pos 1)) ∷ code.statements) (stmt.Return (Some code.value)) p.0 refl p.1 in
      let types : are_types file.structs (replicate code.free Signed) ≡ true = signed_types file.structs code.free in
      and_both _ _ (and_both _ _ (and_both _ _ (and_both _ _ (and_both _ _ (and_both _ _ named refl) types) refl) refl) refl) (and_both _ _ whole refl)

  pub keeps_rules : IsChecked file
  keeps_rules = ap (λ b. or_else 4 (cond b None (Some 2)) None) entry_ok
