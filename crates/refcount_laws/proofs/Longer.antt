-- The operations of a counted program that stand for one more operation are more.
use Rattle.std.proofs.Common.{◌≡◌, ◌≤◌, ◌<◌, ℕ, zero, suc, ◌+◌, ◌∙◌, Bool, true, false, ◌||◌, List, [], ◌∷◌, length, Option, Some, None, refl, sym, ap, arith}
use Rattle.csub_tree.specs.declared.tree.COperand.{COperand}
use Rattle.csub_tree.specs.declared.tree.COperand.TheVariants.{Var}
use Rattle.ll_code.specs.State.{State, At}
use Rattle.ll_code.specs.Meaning.{Unfinished, run}
use Rattle.ll_code.specs.declared.program.LlOp.{LlOp}
use Rattle.ll_code.specs.declared.program.LlOp.TheVariants as op
use Rattle.ll_code.specs.declared.program.LlExit.{LlExit}
use Rattle.ll_code.specs.declared.program.LlProgram.{LlProgram}
use Rattle.ll_live.specs.Live.{among, live}
use Rattle.refcount_transform.specs.declared.plan.Held.{Held}
use Rattle.refcount_transform.specs.declared.slots.Slots.{Slots}
use Rattle.refcount_transform.specs.Plan.{Plan, is_counted, held_of, items_referred, own_some}
use Rattle.refcount_transform.specs.Changes.{Around, up, up_by, operand_referred, ups, down, down_by, down_unless, var_referred, nulls, header, header_by, cleared, cleared_by, emptied, emptied_by, changed, dead, touched, ops_of}
use Rattle.refcount_laws.specs.Runs.{Leads}
use Rattle.csub_tree.specs.State.{Event, Freed}
use Rattle.std.specs.Prelude.{◌++◌, map}

-- ---- operations

up_by_more : (around : Around) (x : COperand) (o : Option ℕ) (rest : List LlOp) → length rest ≤ length (up_by around x o rest)
up_by_more around x None rest = omega arith
up_by_more around x (Some n) rest = omega arith

up_more : (around : Around) (x : COperand) (rest : List LlOp) → length rest ≤ length (up around x rest)
up_more around x rest = up_by_more around x (operand_referred around x) rest

ups_more : (around : Around) (xs : List COperand) (rest : List LlOp) → length rest ≤ length (ups around xs rest)
ups_more around [] rest = omega arith
ups_more around (x ∷ xs) rest = omega (arith, ups_more around xs rest, up_more around x (ups around xs rest))

nulls_more : (v : ℕ) (held : List Held) (rest : List LlOp) → length rest ≤ length (nulls v held rest)
nulls_more v [] rest = omega arith
nulls_more v (h ∷ held) rest = omega (arith, nulls_more v held rest)

header_more : (plan : Plan) (v n : ℕ) (rest : List LlOp) → length rest ≤ length (header plan v n rest)
header_more plan v n rest = by (is_counted plan n)
  where
    by : (b : Bool) → length rest ≤ length (header_by plan v n b rest)
    by false = omega arith
    by true = omega (arith, nulls_more v (held_of plan n) rest)

cleared_more : (plan : Plan) (v n : ℕ) (x : COperand) (rest : List LlOp) → length rest ≤ length (cleared plan v n x rest)
cleared_more plan v n x rest = by (items_referred plan n)
  where
    by : (o : Option ℕ) → length rest ≤ length (cleared_by plan v n x o rest)
    by None = omega arith
    by (Some m) = omega arith

emptied_more : (slots : Slots) (rest : List LlOp) → length rest ≤ length (emptied slots rest)
emptied_more slots rest = by (own_some slots)
  where
    by : (b : Bool) → length rest ≤ length (emptied_by slots b rest)
    by false = omega arith
    by true = omega arith

changed_more : (around : Around) (o : LlOp) (rest : List LlOp) → length rest < length (changed around o rest)
changed_more around (op.Set a x) rest = omega (arith, up_more around x (op.Set a x ∷ rest))
changed_more around (op.Unary a o x) rest = omega arith
changed_more around (op.Binary a o x y) rest = omega arith
changed_more around (op.GetField a n b k) rest = omega (arith, up_more around (Var a) rest)
changed_more around (op.SetField n b k x) rest = omega arith
changed_more around (op.GetItem a n b i) rest = omega (arith, up_more around (Var a) rest)
changed_more around (op.SetItem n b i x) rest = omega arith
changed_more around (op.New a m n) rest = omega (arith, header_more around.plan a n rest)
changed_more around (op.NewArray a m n x) rest = omega (arith, cleared_more around.plan a n x rest, header_more around.plan a n (cleared around.plan a n x rest))
changed_more around (op.Free a) rest = omega arith
changed_more around (op.Step x) rest = omega arith
changed_more around (op.Call into f xs) rest = omega (arith, ups_more around xs (op.Call into f xs ∷ rest))
changed_more around (op.CallFn into result params b xs) rest = omega (arith, ups_more around xs (op.CallFn into result params b xs ∷ rest))
changed_more around (op.ExcType a n) rest = omega (arith, up_more around (Var a) rest)
changed_more around (op.ExcValue a n) rest = omega (arith, up_more around (Var a) rest)
changed_more around (op.ExcSet a b) rest =
    omega (
      arith,
      emptied_more around.plan.slots (op.ExcSet a b ∷ rest),
      up_more around (Var b) (emptied around.plan.slots (op.ExcSet a b ∷ rest)),
      up_more around (Var a) (up around (Var b) (emptied around.plan.slots (op.ExcSet a b ∷ rest))),
    )
changed_more around op.ExcClear rest = omega arith
changed_more around (op.Argc a) rest = omega arith
changed_more around (op.ArgLen a x) rest = omega arith
changed_more around (op.Arg a x y) rest = omega arith
changed_more around (op.Put x) rest = omega arith
changed_more around (op.Raise a) rest = omega arith

dead_more : (around : Around) (vs : List ℕ) (ops : List LlOp) (e : LlExit) (rest : List LlOp) → length rest ≤ length (dead around vs ops e rest)
dead_more around [] ops e rest = omega arith
dead_more around (v ∷ vs) ops e rest = omega (arith, dead_more around vs ops e rest, by (among v vs || live ops e v) (var_referred around v) (dead around vs ops e rest))
  where
    by : (b : Bool) (o : Option ℕ) (l : List LlOp) → length l ≤ length (down_unless b around v l)
    by true o l = omega arith
    by false o l = on (var_referred around v)
      where
        on : (o : Option ℕ) → length l ≤ length (down_by around v o l)
        on None = omega arith
        on (Some n) = omega arith

pub ops_more : (around : Around) (o : LlOp) (ops : List LlOp) (e : LlExit) → length (ops_of around ops e) < length (ops_of around (o ∷ ops) e)
ops_more around o ops e = omega (arith, dead_more around (touched o) ops e (ops_of around ops e), changed_more around o (dead around (touched o) ops e (ops_of around ops e)))

-- ---- steps

-- what differs is some steps on
pub moved : (q : LlProgram) (args : List (List ℕ)) (s t : State) (l : Leads q args s t) → (s ≡ t → ⊥) → 0 < l.count
unfolding run
moved q args s t l differ = by l.count refl
  where
    still : l.count ≡ 0 → s ≡ t
    still e =
        let f : run q args (0 + l.count) s [] [] ≡ run q args 0 t [] ([] ++ map Freed l.gone) = l.by 0 [] [] in
        let g : run q args (0 + l.count) s [] [] ≡ run q args 0 s [] [] = ap (λ n. run q args n s [] []) (let z : 0 + l.count ≡ 0 = omega (arith, e) in z) in
        let h : Unfinished s [] [] ≡ Unfinished t [] (map Freed l.gone) = sym g ∙ f in
        cc

    by : (n : ℕ) → l.count ≡ n → 0 < l.count
    by zero e = absurd (differ (still e))
    by (suc n) e = omega (arith, e)
