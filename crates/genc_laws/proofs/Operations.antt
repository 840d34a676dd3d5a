-- Operations that stay in their block do the same as their statements.
use Rattle.std.proofs.Common.{◌≡◌, ◌<◌, ◌≤◌, ℕ, ◌-◌, true, ◌&&◌, List, [], ◌∷◌, ◌++◌, length, map, Option, Some, None, refl, sym, ap, ◌∙◌, subst, arith, pos}
use Rattle.std.specs.Prelude.{slice_get}
use Rattle.std.proofs.lemmas.Option.{slice_get_within}
use Rattle.csub_tree.specs.State.{Value, Word, Fun, Null, Core}
use Rattle.csub_tree.specs.Layout as layout
use Rattle.csub_tree.specs.Layout.{Shape, constant, shape_over, shapes_from as c_shapes_from}
use Rattle.csub_tree.specs.Operation.{unary_of, binary_of}
use Rattle.csub_tree.specs.Statement as st
use Rattle.csub_tree.specs.Statement.{read}
use Rattle.csub_tree.specs.Machine as c_machine
use Rattle.csub_tree.specs.declared.tree.CConst.TheVariants as constant
use Rattle.csub_tree.specs.declared.tree.COperand.{COperand}
use Rattle.csub_tree.specs.declared.tree.COperand.TheVariants.{Var, Const}
use Rattle.csub_tree.specs.declared.tree.CBinary.{CBinary}
use Rattle.csub_tree.specs.declared.tree.CBinary.TheVariants as two
use Rattle.ll_code.specs.declared.program.LlType.{LlType}
use Rattle.ll_code.specs.declared.program.LlType.TheVariants as type
use Rattle.ll_code.specs.declared.program.LlOp.{LlOp}
use Rattle.ll_code.specs.declared.program.LlOp.TheVariants as op
use Rattle.ll_code.specs.declared.program.LlStruct.{LlStruct}
use Rattle.ll_code.specs.declared.program.LlProgram.{LlProgram}
use Rattle.ll_code.specs.Machine.{does, shapes_of, shapes_from, c_type}
use Rattle.ll_code.specs.Typed.{takes, given_takes, has_given, has_type, points, pointed, pointer_type, same_pointers, both_taken, all_taken, operation_ok}
use Rattle.ll_laws.specs.Fits.{Fits, CoreFits}
use Rattle.ll_laws.proofs.Values.{and_left, and_right, has_type_is, operand_fits}
use Rattle.genc_lower.specs.Lower as lower
use Rattle.genc_lower.specs.Lower.{order_of, lowered, statement, c_struct}
use Rattle.genc_laws.specs.Same.{renamed, SameVars, SameMemory, SameAfter, stays}
use Rattle.genc_laws.proofs.Values.{Known, length_map, constant_same, unary_same, binary_same}
use Rattle.genc_laws.proofs.Memory.{assigned_same, set_same, answered_same, get_field_same, set_field_same, get_item_same, set_item_same, new_block_same, new_array_same, free_same, pay_same, slots_same, exc_set_same, arg_len_same, arg_same, put_byte_same}

-- ---- structs

shapes_alike : (shapes : List Shape) (structs : List LlStruct) → c_shapes_from shapes (map c_struct structs) ≡ shapes_from shapes structs
unfolding c_shapes_from shapes_from
shapes_alike shapes [] = refl
shapes_alike shapes (s ∷ structs) =
    ap (λ n. c_shapes_from (shapes ++ shape_over (length shapes) n (layout.base_of shapes s.base) ∷ []) (map c_struct structs)) (length_map c_type s.fields)
    ∙ shapes_alike (shapes ++ shape_over (length shapes) (length s.fields) (layout.base_of shapes s.base) ∷ []) structs

pub shapes_same : (structs : List LlStruct) → layout.shapes_of (map c_struct structs) ≡ shapes_of structs
shapes_same structs = shapes_alike [] structs

-- ---- places

pub place_of : (types : List LlType) (t : LlType) (a : ℕ) → has_type t (slice_get types a) ≡ true → a < length types
place_of types t a h = slice_get_within types a t (has_type_is t (slice_get types a) h)

pub place_given : (types : List LlType) (a : ℕ) (o : Option LlType) → has_given types a o ≡ true → a < length types
place_given types a None h = absurd (cc)
place_given types a (Some t) h = place_of types t a h

pub place_pointed : (types : List LlType) (a : ℕ) (o : Option LlType) → slice_get types a ≡ o → points o ≡ true → a < length types
place_pointed types a (Some t) e h = slice_get_within types a t e
place_pointed types a None e h = absurd (cc)

-- ---- values that are known

fits_known : (p : LlProgram) (made : ℕ) (t : LlType) (x : Value) → Fits p made t x → Known (order_of p) x
fits_known p made type.Fn (Fun f) h = omega (arith, h)
fits_known p made t (Fun f) h = absurd h
fits_known p made t other h = tt

pub both_pointers : (a b : Option (Option ℕ)) → same_pointers a b ≡ true → ((q : Option ℕ) × (a ≡ Some q)) × ((r : Option ℕ) × (b ≡ Some r))
both_pointers (Some q) (Some r) h = ((q, refl), (r, refl))
both_pointers (Some (Some n)) None h = absurd (cc)
both_pointers (Some None) None h = absurd (cc)
both_pointers None b h = absurd (cc)

module _ (p : LlProgram) (types : List LlType) (all : ℕ) (core c_core : Core) (vars : SameVars (order_of p) (length types) all core.vars c_core.vars) where
  -- the operand gives the same
  abbrev pub Gives : COperand → Type 0
  Gives x = st.operand c_core.vars (lower.operand (order_of p) x) ≡ renamed (order_of p) (st.operand core.vars x)

  pub taken : (t : LlType) (x : COperand) → takes p types t x ≡ true → Gives x
  taken t (Var w) h = vars.at w (place_of types t w h)
  taken t (Const c) h = constant_same (order_of p) c

  pub given_at : (a : ℕ) (o : Option LlType) (x : COperand) → slice_get types a ≡ o → given_takes p types o x ≡ true → (a < length types) × Gives x
  given_at a None x e h = absurd (cc)
  given_at a (Some t) x e h = (slice_get_within types a t e, taken t x h)

  pub given_in : (o : Option LlType) (x : COperand) → given_takes p types o x ≡ true → Gives x
  given_in None x h = absurd (cc)
  given_in (Some t) x h = taken t x h

  pub read_same : (a : ℕ) → a < length types → read c_core.vars a ≡ renamed (order_of p) (read core.vars a)
  read_same a lt = vars.at a lt

  pub all_taken_same : (ts : List LlType) (xs : List COperand) → all_taken p types ts xs ≡ true
      → st.operands c_core.vars (map (lower.operand (order_of p)) xs) ≡ map (renamed (order_of p)) (st.operands core.vars xs)
  all_taken_same [] [] h = refl
  all_taken_same (t ∷ ts) (x ∷ xs) h =
      ap (λ v. v ∷ st.operands c_core.vars (map (lower.operand (order_of p)) xs)) (taken t x (and_left _ _ h))
      ∙ ap (λ vs. renamed (order_of p) (st.operand core.vars x) ∷ vs) (all_taken_same ts xs (and_right _ _ h))
  all_taken_same [] (x ∷ xs) h = absurd (cc)
  all_taken_same (t ∷ ts) [] h = absurd (cc)

  module _ (fit : CoreFits p types core) (memory : SameMemory (order_of p) core c_core) (le : p.entry ≤ length p.graphs - 1) where
    known : (t : LlType) (x : COperand) → takes p types t x ≡ true → Known (order_of p) (st.operand core.vars x)
    known t x h = fits_known p (length core.blocks) t (st.operand core.vars x) (operand_fits p (length core.blocks) types core.vars fit.vars t x h)

    -- both operands give the same, and values that are known
    abbrev Both : COperand → COperand → Type 0
    Both x y = Gives x × Gives y × Known (order_of p) (st.operand core.vars x) × Known (order_of p) (st.operand core.vars y)

    two_taken : (t : LlType) (x y : COperand) → (takes p types t x && takes p types t y) ≡ true → Both x y
    two_taken t x y h = (taken t x (and_left _ _ h), taken t y (and_right _ _ h), known t x (and_left _ _ h), known t y (and_right _ _ h))

    pointer_at : (a : ℕ) (o : Option LlType) (q : Option ℕ) → slice_get types a ≡ o → pointer_type o ≡ Some q → Gives (Var a) × Known (order_of p) (read core.vars a)
    pointer_at a (Some (type.Ptr n)) q e h = (vars.at a (slice_get_within types a (type.Ptr n) e), fits_known p (length core.blocks) (type.Ptr n) (read core.vars a) (fit.vars.at a (type.Ptr n) e))
    pointer_at a other q e h = absurd (cc)

    one_pointed : (x : COperand) (q : Option ℕ) → pointed p types x ≡ Some q → Gives x × Known (order_of p) (st.operand core.vars x)
    one_pointed (Var a) q h = pointer_at a (slice_get types a) q refl h
    one_pointed (Const (constant.Fun f)) q h = absurd (cc)
    one_pointed (Const c) q h = (refl, tt)

    both_pointed : (x y : COperand) → ((q : Option ℕ) × (pointed p types x ≡ Some q)) × ((r : Option ℕ) × (pointed p types y ≡ Some r)) → Both x y
    both_pointed x y ((q, e), (r, f)) = let a = one_pointed x q e in let b = one_pointed y r f in (a.0, b.0, a.1, b.1)

    both : (o : CBinary) (x y : COperand) → both_taken p types o x y ≡ true → Both x y
    both two.Beq x y h = two_taken type.Bool x y h
    both two.Peq x y h = both_pointed x y (both_pointers (pointed p types x) (pointed p types y) h)
    both two.Feq x y h = two_taken type.Fn x y h
    both o x y h = two_taken type.Signed x y h

    abbrev Same : LlOp → List (List ℕ) → Type 0
    Same o args = SameAfter (order_of p) (length types) all core c_core (does p args core o) (c_machine.does (lowered p) args c_core (statement (order_of p) o))

    pub does_same : (args : List (List ℕ)) (o : LlOp) → stays o ≡ true → operation_ok p types o ≡ true → Same o args
    does_same args (op.Set a x) s ok = let g = given_at a (slice_get types a) x refl ok in set_same (order_of p) (length types) all core c_core vars memory a _ _ g.0 g.1
    does_same args (op.Unary a o x) s ok =
        answered_same (order_of p) (length types) all core c_core vars memory a _ _ (place_of types _ a (and_left _ _ ok)) (ap (unary_of o) (taken _ x (and_right _ _ ok)) ∙ unary_same (order_of p) o (st.operand core.vars x))
    does_same args (op.Binary a o x y) s ok =
        let b = both o x y (and_right _ _ ok) in
        answered_same (order_of p) (length types) all core c_core vars memory a _ _ (place_of types _ a (and_left _ _ ok))
        (ap (λ v. binary_of o v (st.operand c_core.vars (lower.operand (order_of p) y))) b.0 ∙ ap (binary_of o (renamed (order_of p) (st.operand core.vars x))) b.1
        ∙ binary_same (order_of p) p le o (st.operand core.vars x) (st.operand core.vars y) b.2 b.3)
    does_same args (op.GetField a n b k) s ok =
        subst (λ shapes. SameAfter (order_of p) (length types) all core c_core (st.get_field core (shapes_of p.structs) a n (read core.vars b) k) (st.get_field c_core shapes a n (read c_core.vars b) k)) (sym (shapes_same p.structs))
        (get_field_same (order_of p) (length types) all core c_core vars memory (shapes_of p.structs) a n _ _ k (place_given types a _ (and_right _ _ ok)) (read_same b (place_pointed types b _ refl (and_left _ _ ok))))
    does_same args (op.SetField n b k x) s ok =
        subst (λ shapes. SameAfter (order_of p) (length types) all core c_core (st.set_field core (shapes_of p.structs) n (read core.vars b) k (st.operand core.vars x))
        (st.set_field c_core shapes n (read c_core.vars b) k (st.operand c_core.vars (lower.operand (order_of p) x)))) (sym (shapes_same p.structs))
        (set_field_same (order_of p) (length types) all core c_core vars memory (shapes_of p.structs) n _ _ k _ _ (read_same b (place_pointed types b _ refl (and_left _ _ ok))) (given_in _ x (and_right _ _ ok)))
    does_same args (op.GetItem a n b i) s ok =
        subst (λ shapes. SameAfter (order_of p) (length types) all core c_core (st.get_item core (shapes_of p.structs) a n (read core.vars b) (st.operand core.vars i))
        (st.get_item c_core shapes a n (read c_core.vars b) (st.operand c_core.vars (lower.operand (order_of p) i)))) (sym (shapes_same p.structs))
        (get_item_same (order_of p) (length types) all core c_core vars memory (shapes_of p.structs) a n _ _ _ _ (place_given types a _ (and_right _ _ ok))
        (read_same b (place_pointed types b _ refl (and_left _ _ (and_left _ _ ok)))) (taken type.Signed i (and_right _ _ (and_left _ _ ok))))
    does_same args (op.SetItem n b i x) s ok =
        subst (λ shapes. SameAfter (order_of p) (length types) all core c_core (st.set_item core (shapes_of p.structs) n (read core.vars b) (st.operand core.vars i) (st.operand core.vars x))
        (st.set_item c_core shapes n (read c_core.vars b) (st.operand c_core.vars (lower.operand (order_of p) i)) (st.operand c_core.vars (lower.operand (order_of p) x)))) (sym (shapes_same p.structs))
        (set_item_same (order_of p) (length types) all core c_core vars memory (shapes_of p.structs) n _ _ _ _ _ _
        (read_same b (place_pointed types b _ refl (and_left _ _ (and_left _ _ ok)))) (taken type.Signed i (and_right _ _ (and_left _ _ ok))) (given_in _ x (and_right _ _ ok)))
    does_same args (op.New a m n) s ok =
        subst (λ shapes. SameAfter (order_of p) (length types) all core c_core (st.new_block core (shapes_of p.structs) a n 0) (st.new_block c_core shapes a n 0)) (sym (shapes_same p.structs))
        (new_block_same (order_of p) (length types) all core c_core vars memory (shapes_of p.structs) a n 0 (place_of types (type.Ptr m) a (and_left _ _ (and_left _ _ ok))))
    does_same args (op.NewArray a m n x) s ok =
        subst (λ shapes. SameAfter (order_of p) (length types) all core c_core (st.new_array core (shapes_of p.structs) a n (st.operand core.vars x)) (st.new_array c_core shapes a n (st.operand c_core.vars (lower.operand (order_of p) x))))
        (sym (shapes_same p.structs))
        (new_array_same (order_of p) (length types) all core c_core vars memory (shapes_of p.structs) a n _ _ (place_of types (type.Ptr m) a (and_left _ _ (and_left _ _ (and_left _ _ ok)))) (taken type.Signed x (and_right _ _ ok)))
    does_same args (op.Free a) s ok = free_same (order_of p) (length types) all core c_core vars memory _ _ (read_same a (place_pointed types a _ refl (and_right _ _ ok)))
    does_same args (op.Step x) s ok = pay_same (order_of p) (length types) all core c_core vars memory _ _ (taken type.Signed x ok)
    does_same args (op.ExcType a n) s ok = assigned_same (order_of p) (length types) all core c_core vars memory a _ _ (place_of types (type.Ptr n) a (and_right _ _ ok)) memory.exc_type
    does_same args (op.ExcValue a n) s ok = assigned_same (order_of p) (length types) all core c_core vars memory a _ _ (place_of types (type.Ptr n) a (and_right _ _ ok)) memory.exc_value
    does_same args (op.ExcSet a b) s ok =
        exc_set_same (order_of p) (length types) all core c_core vars memory _ _ _ _ (read_same a (place_pointed types a _ refl (and_left _ _ ok))) (read_same b (place_pointed types b _ refl (and_right _ _ ok)))
    does_same args op.ExcClear s ok = slots_same (order_of p) (length types) all core c_core vars memory Null Null Null Null refl refl
    does_same args (op.Argc a) s ok = assigned_same (order_of p) (length types) all core c_core vars memory a (Word (pos (length args))) _ (place_of types type.Signed a ok) refl
    does_same args (op.ArgLen a x) s ok = arg_len_same (order_of p) (length types) all core c_core vars memory args a _ _ (place_of types type.Signed a (and_left _ _ ok)) (taken type.Signed x (and_right _ _ ok))
    does_same args (op.Arg a x y) s ok =
        arg_same (order_of p) (length types) all core c_core vars memory args a _ _ _ _ (place_of types type.Signed a (and_left _ _ (and_left _ _ ok))) (taken type.Signed x (and_right _ _ (and_left _ _ ok))) (taken type.Signed y (and_right _ _ ok))
    does_same args (op.Put x) s ok = put_byte_same (order_of p) (length types) all core c_core vars memory _ _ (taken type.Signed x ok)
    does_same args (op.Call into f xs) s ok = absurd (cc)
    does_same args (op.CallFn into result params b xs) s ok = absurd (cc)
    does_same args (op.Raise a) s ok = absurd (cc)
