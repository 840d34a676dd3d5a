-- What the C machine does with the code of a body.
use Rattle.std.proofs.Common.{◌≡◌, ◌≢◌, ℕ, zero, suc, ◌+◌, ◌-◌, ◌<◌, ◌≤◌, Bool, true, false, cond, List, [], ◌∷◌, ◌++◌, length, get_or, set, drop, Option, Some, None, refl, sym, ap, subst, ◌∙◌, arith, append_assoc, inl, inr}
use Rattle.std.specs.Prelude.{ℤ, pos, nat_lt, nat_le, ◌==◌, ◌&&◌, slice_get, slice_set, replicate, map, Result, Ok}
use Rattle.std.specs.Fmt.{signed_decimal}
use Rattle.std.proofs.lemmas.List.{length-set, append-nil, get_or-set_other}
use Rattle.std.proofs.lemmas.Grind.{get_or-set_at}
use Rattle.csub_tree.specs.declared.tree.CStmt.{CStmt}
use Rattle.csub_tree.specs.declared.tree.CStmt.TheVariants as stmt
use Rattle.csub_tree.specs.declared.tree.COperand.{COperand}
use Rattle.csub_tree.specs.declared.tree.COperand.TheVariants.{Var, Const}
use Rattle.csub_tree.specs.State.{Value, Unset, Word, Core, After, Onward, Puts}
use Rattle.csub_tree.specs.Operation.{binary_of, Answer}
use Rattle.csub_tree.specs.Machine.{step, does, does_at}
use Rattle.csub_tree.specs.Statement.{operand, answered, set as set_var, call}
use Rattle.rpy_tree.specs.Pure.{Expr, Int, Local, Binary}
use Rattle.rpy_tree.specs.declared.syntax.BinOp.{BinOp}
use Rattle.rpy_tree.specs.declared.syntax.BinOp.TheVariants.{Add, Sub, Mul}
use Rattle.rpy_first.specs.declared.body.Sum.{Sum}
use Rattle.rpy_first.specs.declared.body.Line.{Line}
use Rattle.rpy_first.specs.declared.body.Line.TheVariants.{Assign, Print}
use Rattle.rpy_first.specs.Program.{expr_of, reads_bound, is_bound_local, is_arithmetic, line_ok, lines_ok}
use Rattle.rpy_words.proofs.Tests.{and_left, and_right}
use Rattle.first_lower.specs.Lower.{Code, operation, expr_code, use_of, sum_of, lines_code, entry_block, print_word, number}
use Rattle.first_lower.proofs.Abstract.{apply, eval, bind_at, lines_out, lines_result, lt_of, le_of, Shows, length_bind, shows_bind, at_most, AreWords, eval_is_word, words_bind, first_ok, rest_ok}
use Rattle.first_lower.proofs.Printing.{IsWord, frame, waiting, file, word_goes}
use Rattle.first_lower.proofs.Goes.{Goes, stays, then_goes, goes_on, puts, to_text, get_at, drop_next}
use Rattle.first_lower.proofs.MeanSide.{bound_place}

operate : (f : BinOp) (a b : ℤ) → is_arithmetic f ≡ true → binary_of (operation f) (Word a) (Word b) ≡ Ok (Word (apply f a b))
operate Add a b h = refl
operate Sub a b h = refl
operate Mul a b h = refl
operate f a b h = absurd cc

-- the first free variable only goes up
pub grows : (e : Expr) (free : ℕ) → free ≤ (expr_code e free).free
grows (Int z) free = omega arith
grows (Local i) free = omega arith
grows (Binary f a b) free = omega (arith, grows a free, grows b (expr_code a free).free)

pub lines_grow : (ls : List Line) (result : Sum) (free : ℕ) → free ≤ (lines_code ls result free).free
lines_grow [] result free = grows (expr_of result) free
lines_grow (l ∷ ls) result free = omega (arith, grows (expr_of (sum_of l)) free, lines_grow ls result (expr_code (expr_of (sum_of l)) free).free)

-- an operand that no variable from this one on changes
abbrev pub Below : ℕ → COperand → Type 0
Below n (Var v) = v < n
Below n (Const c) = Unit {0}

local_below : (k i free : ℕ) → is_bound_local k i ≡ true → k ≤ free → i - 1 < free
local_below k zero free h small = absurd cc
local_below k (suc i) free h small = omega (arith, lt_of i k h)

pub value_below : (e : Expr) (k free : ℕ) → reads_bound k e ≡ true → k ≤ free → Below (expr_code e free).free (expr_code e free).value
value_below (Int z) k free h small = tt
value_below (Local i) k free h small = local_below k i free h small
value_below (Binary f a b) k free h small = omega arith

-- the variables before this one are as they were
abbrev pub Keeps : ℕ → List Value → List Value → Type 0
Keeps n old now = (k : ℕ) → k < n → get_or now k Unset ≡ get_or old k Unset

kept_operand : (n : ℕ) (old now : List Value) (x : COperand) → Keeps n old now → Below n x → operand now x ≡ operand old x
kept_operand n old now (Var v) keeps below = keeps v below
kept_operand n old now (Const c) keeps below = refl

still_shows : (env : List ℤ) (n : ℕ) (old now : List Value) → Shows Word Unset env old → Keeps n old now → length env ≤ n → Shows Word Unset env now
still_shows env n old now shows keeps small i lt = keeps i (omega arith) ∙ shows i lt

operand_of_local : (env : List ℤ) (vars : List Value) (i : ℕ) → Shows Word Unset env vars → is_bound_local (length env) i ≡ true → get_or vars (i - 1) Unset ≡ Word (get_or env (i - 1) (pos 0))
operand_of_local env vars zero shows h = absurd cc
operand_of_local env vars (suc i) shows h = shows (suc i - 1) (omega (arith, lt_of i (length env) h))

-- the variables after a line, and what it puts
abbrev pub with_line : Line → ℤ → List Value → List Value
with_line (Assign k s) z vars = slice_set vars k (Word z)
with_line (Print s) z vars = vars

abbrev pub out_by : Line → ℤ → List ℕ
out_by (Assign k s) z = []
out_by (Print s) z = signed_decimal z ++ 10 ∷ []

module _ (args : List (List ℕ)) (name : List ℕ) (code : Code) (c : Core) where
  -- the program runs at this place, with these variables
  abbrev pub at : ℕ → List Value → Core
  at i vars = frame c 2 0 i vars []

  abbrev pub statements : List CStmt
  statements = entry_block code

  pub looks : (i : ℕ) (s : CStmt) (rest : List CStmt) (vars : List Value) → drop i statements ≡ s ∷ rest
      → step (file args name code) args (at i vars) ≡ does (file args name code) args (at i vars) s
  looks i s rest vars e = ap (does_at (file args name code) args (at i vars)) (get_at statements i s rest e)

  -- statements that compute an expression
  pub record Computed (e : Expr) (env : List ℤ) (free i : ℕ) (vars : List Value) (text : List ℕ) (rest : List CStmt) : Type 0 where
    pub place : ℕ
    pub now : List Value
    pub goes : Goes (file args name code) args (at i vars) text (at place now) text
    pub left : drop place statements ≡ rest
    pub value : operand now (expr_code e free).value ≡ Word (eval env e)
    pub same_length : length now ≡ length vars
    pub kept : Keeps free vars now

  pub computes : (e : Expr) (env : List ℤ) (free i : ℕ) (vars : List Value) (text : List ℕ) (rest : List CStmt)
      → reads_bound (length env) e ≡ true → Shows Word Unset env vars → length env ≤ free → (expr_code e free).free ≤ length vars
      → drop i statements ≡ (expr_code e free).statements ++ rest → Computed e env free i vars text rest
  computes (Int z) env free i vars text rest h shows small room e = record {
    place = i;
    now = vars;
    goes = stays (file args name code) args (at i vars) text;
    left = e;
    value = refl;
    same_length = refl;
    kept = λ k lt. refl;
  }
  computes (Local l) env free i vars text rest h shows small room e = record {
    place = i;
    now = vars;
    goes = stays (file args name code) args (at i vars) text;
    left = e;
    value = operand_of_local env vars l shows h;
    same_length = refl;
    kept = λ k lt. refl;
  }
  computes (Binary f a b) env free i vars text rest h shows small room e =
      let ca : Code = expr_code a free in
      let cb : Code = expr_code b ca.free in
      let arithmetic : is_arithmetic f ≡ true = and_left _ _ h in
      let ha : reads_bound (length env) a ≡ true = and_left _ _ (and_right (is_arithmetic f) _ h) in
      let hb : reads_bound (length env) b ≡ true = and_right (reads_bound (length env) a) _ (and_right (is_arithmetic f) _ h) in
      let last : CStmt = stmt.Binary cb.free (operation f) ca.value cb.value in
      let split : drop i statements ≡ ca.statements ++ (cb.statements ++ (last ∷ rest)) =
      e ∙ append_assoc (ca.statements ++ cb.statements) (last ∷ []) rest ∙ append_assoc ca.statements cb.statements (last ∷ rest) in
      let up_a : free ≤ ca.free = grows a free in
      let up_b : ca.free ≤ cb.free = grows b ca.free in
      let ra : Computed a env free i vars text (cb.statements ++ (last ∷ rest)) =
      computes a env free i vars text (cb.statements ++ (last ∷ rest)) ha shows small (omega arith) split in
      let rb : Computed b env ca.free ra.place ra.now text (last ∷ rest) =
      computes b env ca.free ra.place ra.now text (last ∷ rest) hb (still_shows env free vars ra.now shows ra.kept small) (omega arith) (omega (arith, ra.same_length)) ra.left in
      let x : operand rb.now ca.value ≡ Word (eval env a) = kept_operand ca.free ra.now rb.now ca.value rb.kept (value_below a (length env) free ha small) ∙ ra.value in
      let z : ℤ = apply f (eval env a) (eval env b) in
      let done : does (file args name code) args (at rb.place rb.now) last ≡ Onward (at (rb.place + 1) (slice_set rb.now cb.free (Word z))) =
      ap (λ v. answered (at rb.place rb.now) cb.free (binary_of (operation f) v (operand rb.now cb.value))) x
      ∙ ap (λ v. answered (at rb.place rb.now) cb.free (binary_of (operation f) (Word (eval env a)) v)) rb.value
      ∙ ap (answered (at rb.place rb.now) cb.free) (operate f (eval env a) (eval env b) arithmetic) in
      let inside : cb.free < length rb.now = omega (arith, ra.same_length, rb.same_length) in
      record {
        place = rb.place + 1;
        now = slice_set rb.now cb.free (Word z);
        goes = then_goes (file args name code) args _ _ _ _ _ _ ra.goes (then_goes (file args name code) args _ _ _ _ _ _ rb.goes
            (goes_on (file args name code) args _ _ text (looks rb.place last rest rb.now rb.left ∙ done)));
        left = drop_next statements rb.place last rest rb.left;
        value = get_or-set_at rb.now cb.free cb.free (Word z) Unset refl inside;
        same_length = length-set rb.now cb.free (Word z) ∙ rb.same_length ∙ ra.same_length;
        kept = λ k lt. get_or-set_other rb.now cb.free k (Word z) Unset (omega arith) ∙ rb.kept k (omega arith) ∙ ra.kept k lt;
      }

  -- the value of a line is used: it is stored, or printed with a newline
  used : (l : Line) (z : ℤ) (i : ℕ) (vars : List Value) (text : List ℕ) (x : COperand) (rest : List CStmt) → IsWord z
      → operand vars x ≡ Word z → drop i statements ≡ use_of l x ++ rest
      → (place : ℕ) × Goes (file args name code) args (at i vars) text (at place (with_line l z vars)) (text ++ out_by l z) × (drop place statements ≡ rest)
  used (Assign k s) z i vars text x rest word e left = (
    i + 1,
    to_text (file args name code) args _ _ _ _ _ (sym (append-nil text))
        (goes_on (file args name code) args _ _ text (looks i (stmt.Set k x) rest vars left ∙ ap (set_var (at i vars) k) e)),
    drop_next statements i (stmt.Set k x) rest left,
  )
  used (Print s) z i vars text x rest word e left =
      let print : CStmt = stmt.Call None 1 (x ∷ []) in
      let newline : CStmt = stmt.Put (number (pos 10)) in
      let after : drop (i + 1) statements ≡ newline ∷ rest = drop_next statements i print (newline ∷ rest) left in (
        i + 1 + 1,
        to_text (file args name code) args _ _ _ _ _ (append_assoc text (signed_decimal z) (10 ∷ []))
            (then_goes (file args name code) args _ _ _ _ _ _
            (goes_on (file args name code) args (at i vars) (frame c 1 0 0 (Word z ∷ Unset ∷ Unset ∷ []) ([] ++ waiting 2 0 (i + 1) vars ∷ [])) text
            (looks i print (newline ∷ rest) vars left ∙ ap (λ v. call (at i vars) None 1 (v ∷ []) (Some print_word)) e))
            (then_goes (file args name code) args _ _ _ _ _ _ (word_goes args name code c 2 0 (i + 1) vars [] z text word)
            (puts (file args name code) args (at (i + 1) vars) (at (i + 1 + 1) vars) (text ++ signed_decimal z) 10 (looks (i + 1) newline rest vars after)))),
        drop_next statements (i + 1) newline rest after,
      )

  -- lines, and the sum that is returned
  pub record Went (ls : List Line) (result : Sum) (env : List ℤ) (free i : ℕ) (vars : List Value) (text : List ℕ) (rest : List CStmt) : Type 0 where
    pub place : ℕ
    pub now : List Value
    pub goes : Goes (file args name code) args (at i vars) text (at place now) (text ++ lines_out env ls)
    pub left : drop place statements ≡ rest
    pub value : operand now (lines_code ls result free).value ≡ Word (lines_result env ls result)

  -- one line, and then those after it
  line_went : (l : Line) (ls : List Line) (result : Sum) (env : List ℤ) (free i : ℕ) (vars : List Value) (text : List ℕ) (rest : List CStmt)
      → IsWord (eval env (expr_of (sum_of l)))
      → (p : Computed (expr_of (sum_of l)) env free i vars text (use_of l (expr_code (expr_of (sum_of l)) free).value ++ rest))
      → (place : ℕ) × Goes (file args name code) args (at i vars) text (at place (with_line l (eval env (expr_of (sum_of l))) p.now)) (text ++ out_by l (eval env (expr_of (sum_of l)))) × (drop place statements ≡ rest)
  line_went l ls result env free i vars text rest word p =
      let u = used l (eval env (expr_of (sum_of l))) p.place p.now text (expr_code (expr_of (sum_of l)) free).value rest word p.value p.left in
      (u.0, then_goes (file args name code) args _ _ _ _ _ _ p.goes u.1, u.2)

  pub lines_go : (ls : List Line) (result : Sum) (env : List ℤ) (locals free i : ℕ) (vars : List Value) (text : List ℕ) (rest : List CStmt)
      → lines_ok (length env) ls result locals ≡ true → locals ≤ free → AreWords env → Shows Word Unset env vars → (lines_code ls result free).free ≤ length vars
      → drop i statements ≡ (lines_code ls result free).statements ++ rest → Went ls result env free i vars text rest
  lines_go [] result env locals free i vars text rest ok few words shows room e =
      let p : Computed (expr_of result) env free i vars text rest =
      computes (expr_of result) env free i vars text rest (and_right _ _ ok) shows (omega (arith, at_most [] result (length env) locals ok)) room e in
      record {
        place = p.place;
        now = p.now;
        goes = to_text (file args name code) args _ _ _ _ _ (sym (append-nil text)) p.goes;
        left = p.left;
        value = p.value;
      }
  lines_go (Assign k s ∷ ls) result env locals free i vars text rest ok few words shows room e =
      let z : ℤ = eval env (expr_of s) in
      let c1 : Code = expr_code (expr_of s) free in
      let more : Code = lines_code ls result c1.free in
      let here : line_ok (length env) (Assign k s) ≡ true = first_ok (Assign k s) ls result (length env) locals ok in
      let small : k ≤ length env = le_of k (length env) (and_left (nat_le k (length env)) (reads_bound (length env) (expr_of s)) here) in
      let reads : reads_bound (length env) (expr_of s) ≡ true = and_right (nat_le k (length env)) (reads_bound (length env) (expr_of s)) here in
      let ok1 : lines_ok (length (bind_at k z env)) ls result locals ≡ true = ap (λ n. lines_ok n ls result locals) (length_bind k z env) ∙ rest_ok (Assign k s) ls result (length env) locals ok in
      let most : length (bind_at k z env) ≤ locals = at_most ls result (length (bind_at k z env)) locals ok1 in
      let least : length env ≤ free = omega (arith, at_most (Assign k s ∷ ls) result (length env) locals ok) in
      let up : free ≤ c1.free = grows (expr_of s) free in
      let up_more : c1.free ≤ more.free = lines_grow ls result c1.free in
      let split : drop i statements ≡ c1.statements ++ (use_of (Assign k s) c1.value ++ (more.statements ++ rest)) =
      e ∙ append_assoc (c1.statements ++ use_of (Assign k s) c1.value) more.statements rest ∙ append_assoc c1.statements (use_of (Assign k s) c1.value) (more.statements ++ rest) in
      let p : Computed (expr_of s) env free i vars text (use_of (Assign k s) c1.value ++ (more.statements ++ rest)) =
      computes (expr_of s) env free i vars text (use_of (Assign k s) c1.value ++ (more.statements ++ rest)) reads shows least (omega arith) split in
      let u = line_went (Assign k s) ls result env free i vars text (more.statements ++ rest) (eval_is_word (expr_of s) env words reads) p in
      let inside : k < length p.now = bound_place k z env locals (length p.now) small most (omega (arith, p.same_length)) in
      let w : Went ls result (bind_at k z env) c1.free u.0 (slice_set p.now k (Word z)) (text ++ []) rest =
      lines_go ls result (bind_at k z env) locals c1.free u.0 (slice_set p.now k (Word z)) (text ++ []) rest ok1 (omega arith)
      (words_bind env k z words (eval_is_word (expr_of s) env words reads) small)
      (shows_bind Word Unset env p.now k z (still_shows env free vars p.now shows p.kept least) small inside)
      (omega (arith, length-set p.now k (Word z), p.same_length)) u.2 in
      record {
        place = w.place;
        now = w.now;
        goes = to_text (file args name code) args _ _ _ _ _ (append_assoc text [] (lines_out (bind_at k z env) ls)) (then_goes (file args name code) args _ _ _ _ _ _ u.1 w.goes);
        left = w.left;
        value = w.value;
      }
  lines_go (Print s ∷ ls) result env locals free i vars text rest ok few words shows room e =
      let z : ℤ = eval env (expr_of s) in
      let c1 : Code = expr_code (expr_of s) free in
      let more : Code = lines_code ls result c1.free in
      let out : List ℕ = signed_decimal z ++ 10 ∷ [] in
      let reads : reads_bound (length env) (expr_of s) ≡ true = first_ok (Print s) ls result (length env) locals ok in
      let ok1 : lines_ok (length env) ls result locals ≡ true = rest_ok (Print s) ls result (length env) locals ok in
      let least : length env ≤ free = omega (arith, at_most ls result (length env) locals ok1) in
      let up : free ≤ c1.free = grows (expr_of s) free in
      let up_more : c1.free ≤ more.free = lines_grow ls result c1.free in
      let split : drop i statements ≡ c1.statements ++ (use_of (Print s) c1.value ++ (more.statements ++ rest)) =
      e ∙ append_assoc (c1.statements ++ use_of (Print s) c1.value) more.statements rest ∙ append_assoc c1.statements (use_of (Print s) c1.value) (more.statements ++ rest) in
      let p : Computed (expr_of s) env free i vars text (use_of (Print s) c1.value ++ (more.statements ++ rest)) =
      computes (expr_of s) env free i vars text (use_of (Print s) c1.value ++ (more.statements ++ rest)) reads shows least (omega arith) split in
      let u = line_went (Print s) ls result env free i vars text (more.statements ++ rest) (eval_is_word (expr_of s) env words reads) p in
      let w : Went ls result env c1.free u.0 p.now (text ++ out) rest =
      lines_go ls result env locals c1.free u.0 p.now (text ++ out) rest ok1 (omega arith) words
      (still_shows env free vars p.now shows p.kept least) (omega (arith, p.same_length)) u.2 in
      record {
        place = w.place;
        now = w.now;
        goes = to_text (file args name code) args _ _ _ _ _ (append_assoc text out (lines_out env ls)) (then_goes (file args name code) args _ _ _ _ _ _ u.1 w.goes);
        left = w.left;
        value = w.value;
      }
