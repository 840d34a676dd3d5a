-- What the meaning of a body is, in what it computes.
use Rattle.std.proofs.Common.{◌≡◌, ◌≢◌, ℕ, zero, suc, ◌+◌, ◌-◌, ◌<◌, ◌≤◌, Bool, true, false, cond, List, [], ◌∷◌, ◌++◌, length, get_or, set, Option, Some, None, refl, sym, ap, subst, ◌∙◌, arith, append_assoc, inl, inr}
use Rattle.std.specs.Prelude.{ℤ, pos, nat_lt, ◌==◌, ◌&&◌, slice_get, slice_set, replicate, map}
use Rattle.std.specs.Fmt.{signed_decimal}
use Rattle.std.proofs.lemmas.Bool.Decides.{nat_tests}
use Rattle.std.proofs.lemmas.List.{length-set, length-replicate, append-nil}
use Rattle.std.proofs.lemmas.Option.{slice_get-get_or}
use Rattle.rpy_tree.specs.Pure.{Expr, Int, Local, Binary, none, done}
use Rattle.rpy_tree.specs.declared.syntax.BinOp.{BinOp}
use Rattle.rpy_tree.specs.declared.syntax.BinOp.TheVariants.{Add, Sub, Mul}
use Rattle.rpy_tree.specs.Value.{Value, Word, Ref, State}
use Rattle.rpy_tree.specs.Meaning.{Ending, Done, Eval, Running, then_go, add_roots, with_locals, value, values, binary, bound, set_local, put_if_any, print_line, block, Flow, Next, Returned, next_or, pure, ◌>>◌, result_of, Meant, mean, start, meant_by}
use Rattle.rpy_first.specs.declared.body.Sum.{Sum}
use Rattle.rpy_first.specs.declared.body.Line.{Line}
use Rattle.rpy_first.specs.declared.body.Line.TheVariants.{Assign, Print}
use Rattle.rpy_first.specs.declared.body.Body.{Body}
use Rattle.rpy_first.specs.Program.{expr_of, reads_bound, is_bound_local, is_arithmetic, block_of, line_ok, lines_ok, is_bound, program_of}
use Rattle.rpy_words.proofs.Tests.{and_left, and_right}
use Rattle.first_lower.proofs.Abstract.{apply, eval, bind_at, lines_out, lines_result, lt_of, le_of, Shows, length_bind, shows_bind, at_most, eq_cases}

-- a local as it is once a word is bound to it
abbrev pub as_local : ℤ → Option Value
as_local z = Some (Word z)

-- the words are the locals after the parameter
abbrev pub Agrees : List ℤ → Option Value → List (Option Value) → State → Type 0
Agrees env first locals s = (s.locals ≡ first ∷ locals) × Shows as_local None env locals × (length env ≤ length locals)

apply_is : (f : BinOp) (a b : ℤ) (s : State) → is_arithmetic f ≡ true → binary f (Word a) (Word b) s ≡ Done (Word (apply f a b)) s
apply_is Add a b s h = refl
apply_is Sub a b s h = refl
apply_is Mul a b s h = refl
apply_is f a b s h = absurd cc

local_is : (i : ℕ) (env : List ℤ) (first : Option Value) (locals : List (Option Value)) (s : State) → Agrees env first locals s → is_bound_local (length env) i ≡ true
    → bound (slice_get s.locals i) s ≡ Done (Word (get_or env (i - 1) (pos 0))) s
local_is zero env first locals s agrees h = absurd cc
local_is (suc i) env first locals s agrees h =
    let lt : i < length env = lt_of i (length env) h in
    let e : suc i - 1 ≡ i = omega arith in
    ap (λ l. bound (slice_get l (suc i)) s) agrees.0
    ∙ ap (λ o. bound o s) (slice_get-get_or locals i None (omega (arith, agrees.2)))
    ∙ ap (λ o. bound (Some o) s) (agrees.1 i lt)
    ∙ ap (λ n. Done (Word (get_or env n (pos 0))) s) (sym e)

pub value_is : (e : Expr) (env : List ℤ) (first : Option Value) (locals : List (Option Value)) (s : State) → Agrees env first locals s → reads_bound (length env) e ≡ true
    → value e s ≡ Done (Word (eval env e)) s
value_is (Int z) env first locals s agrees h = refl
value_is (Local i) env first locals s agrees h = local_is i env first locals s agrees h
value_is (Binary f a b) env first locals s agrees h =
    let ha : reads_bound (length env) a ≡ true = and_left _ _ (and_right (is_arithmetic f) _ h) in
    let hb : reads_bound (length env) b ≡ true = and_right (reads_bound (length env) a) _ (and_right (is_arithmetic f) _ h) in
    ap (λ r. then_go r (λ x. λ t. then_go (add_roots (x ∷ []) (value b t)) (binary f x))) (value_is a env first locals s agrees ha)
    ∙ ap (λ r. then_go (add_roots (Word (eval env a) ∷ []) r) (binary f (Word (eval env a)))) (value_is b env first locals s agrees hb)
    ∙ apply_is f (eval env a) (eval env b) s (and_left _ _ h)

-- the state after lines: other locals, and more output
abbrev pub later : State → List (Option Value) → List ℕ → State
later s locals text = record s { locals = locals; out = s.out ++ text }

pub differs : (m n : ℕ) → (m == n) ≡ false → m ≢ n
differs m n e q = absurd (grind (arith, nat_tests))

-- where a line binds there is room
pub bound_place : (i : ℕ) (z : ℤ) (env : List ℤ) (count room : ℕ) → i ≤ length env → length (bind_at i z env) ≤ count → count ≤ room → i < room
bound_place i z env count room small most inside = elim (eq_cases i (length env)) [
  | inl e ↦ omega (arith, length_bind i z env, ap (λ b. cond b (length env + 1) (length env)) e)
  | inr e ↦ omega (arith, length_bind i z env, ap (λ b. cond b (length env + 1) (length env)) e, differs i (length env) e)
]

pub lines_mean : (ls : List Line) (result : Sum) (env : List ℤ) (first : Option Value) (locals : List (Option Value)) (s : State) (count : ℕ)
    → Agrees env first locals s → count ≤ length locals → lines_ok (length env) ls result count ≡ true
    → (now : List (Option Value)) × (block (block_of ls result) s ≡ Done (Returned (Word (lines_result env ls result))) (later s now (lines_out env ls)))
lines_mean [] result env first locals s count agrees room h = (
  s.locals,
  ap (λ r. then_go (then_go r (λ v. pure (Returned v))) (λ flow. next_or flow (block done))) (value_is (expr_of result) env first locals s agrees (and_right _ _ h))
      ∙ ap (λ t. Done (Returned (Word (eval env (expr_of result)))) (record s { out = t })) (sym (append-nil s.out)),
)
lines_mean (Assign i sum ∷ ls) result env first locals s count agrees room h =
    let z : ℤ = eval env (expr_of sum) in
    let ok : line_ok (length env) (Assign i sum) ≡ true = and_left _ _ h in
    let small : i ≤ length env = le_of i (length env) (and_left _ _ ok) in
    let more_ok : lines_ok (length (bind_at i z env)) ls result count ≡ true = ap (λ k. lines_ok k ls result count) (length_bind i z env) ∙ and_right _ _ h in
    let most : length (bind_at i z env) ≤ count = at_most ls result (length (bind_at i z env)) count more_ok in
    let inside : i < length locals = bound_place i z env count (length locals) small most room in
    let s1 : State = record s { locals = slice_set s.locals (suc i) (Some (Word z)) } in
    let agrees1 : Agrees (bind_at i z env) first (set locals i (Some (Word z))) s1 =
    (ap (λ l. slice_set l (suc i) (Some (Word z))) agrees.0, shows_bind as_local None env locals i z agrees.1 small inside, omega (arith, most, room, length-set locals i (Some (Word z)))) in
    let rest = lines_mean ls result (bind_at i z env) first (set locals i (Some (Word z))) s1 count agrees1 (omega (arith, room, length-set locals i (Some (Word z)))) more_ok in (
      rest.0,
      ap (λ r. then_go (then_go r (λ v. set_local (suc i) v >> pure Next)) (λ flow. next_or flow (block (block_of ls result))))
          (value_is (expr_of sum) env first locals s agrees (and_right _ _ ok)) ∙ rest.1,
    )
lines_mean (Print sum ∷ ls) result env first locals s count agrees room h =
    let z : ℤ = eval env (expr_of sum) in
    let s1 : State = record s { out = s.out ++ (signed_decimal z ++ 10 ∷ []) } in
    let agrees1 : Agrees env first locals s1 = (agrees.0, agrees.1, agrees.2) in
    let rest = lines_mean ls result env first locals s1 count agrees1 room (and_right _ _ h) in (
      rest.0,
      ap (λ r. then_go (then_go (then_go r (λ v. λ t. then_go (add_roots (v ∷ []) (values none t)) (λ vs. pure (v ∷ vs)))) (λ vs. put_if_any (print_line vs) >> pure Next)) (λ flow. next_or flow (block (block_of ls result))))
          (value_is (expr_of sum) env first locals s agrees (and_left _ _ h)) ∙ rest.1
          ∙ ap (λ t. Done (Returned (Word (lines_result env ls result))) (record s { locals = rest.0; out = t })) (append_assoc s.out (signed_decimal z ++ 10 ∷ []) (lines_out env ls)),
    )

shows_none : {A : Type 0} (f : ℤ → A) (d : A) (xs : List A) → Shows f d [] xs
shows_none f d xs i lt = absurd (omega arith)

-- the body's own locals are not bound yet
abbrev own_locals : Body → List (Option Value)
own_locals body = replicate (suc body.locals - 1) None

abbrev entered_at : Body → List (List ℕ) → ℕ → State
entered_at body args n = record (start args (suc n)) { locals = Some (Ref 0) ∷ own_locals body; left = suc n - 1 }

abbrev run_of : Ending Flow → Meant
run_of r = meant_by [] (then_go (with_locals r) (λ flow. pure (result_of flow)))

-- the whole run of a body, with a step to pay
runs : (body : Body) (args : List (List ℕ)) (n : ℕ) → mean (program_of body) args (suc n) ≡ run_of (block (block_of body.lines body.result) (entered_at body args n))
runs body args n =
    let e : nat_lt (suc n) 1 ≡ false = grind (arith, nat_tests) in
    ap (λ b. meant_by [] (then_go (cond b (Running (Ref 0 ∷ []) (start args (suc n))) (Done tt (record (start args (suc n)) { left = suc n - 1 })))
    (λ u. λ s. then_go (with_locals (block (block_of body.lines body.result) (record s { locals = Some (Ref 0) ∷ own_locals body }))) (λ flow. pure (result_of flow))))) e

pub mean_is : (body : Body) (args : List (List ℕ)) (n : ℕ) → is_bound body ≡ true
    → (now : List (Option Value)) × (mean (program_of body) args (suc n)
    ≡ run_of (Done (Returned (Word (lines_result [] body.lines body.result))) (later (entered_at body args n) now (lines_out [] body.lines))))
mean_is body args n h =
    let unbound : Option Value = None in
    let many : body.locals ≤ length (own_locals body) = omega (arith, length-replicate (suc body.locals - 1) unbound) in
    let agrees : Agrees [] (Some (Ref 0)) (own_locals body) (entered_at body args n) = (refl, shows_none as_local None (own_locals body), omega arith) in
    let m = lines_mean body.lines body.result [] (Some (Ref 0)) (own_locals body) (entered_at body args n) body.locals agrees many h in
    (m.0, runs body args n ∙ ap run_of m.1)
