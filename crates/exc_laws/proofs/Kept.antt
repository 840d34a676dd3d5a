-- Operations that raise nothing keep their rules in the explicit program.
use Rattle.std.proofs.Common.{◌≡◌, ℕ, Bool, true, false, List, [], ◌∷◌, ◌++◌, length, map, Option, Some, None, refl, sym, ap, ◌∙◌}
use Rattle.std.specs.Prelude.{slice_get, option_map, if◌then◌else◌}
use Rattle.csub_tree.specs.declared.tree.CConst.{CConst}
use Rattle.csub_tree.specs.declared.tree.CConst.TheVariants as constant
use Rattle.csub_tree.specs.declared.tree.COperand.{COperand}
use Rattle.csub_tree.specs.declared.tree.COperand.TheVariants.{Var, Const}
use Rattle.csub_tree.specs.declared.tree.CBinary.{CBinary}
use Rattle.csub_tree.specs.declared.tree.CBinary.TheVariants as two
use Rattle.ll_code.specs.Typed.{has_type, takes, given_takes, has_given, all_taken, all_given, points, pointer_type, pointed, same_pointers, both_taken, unary_takes, unary_gives, binary_gives, result_ok, call_ok, operation_ok, is_counted, is_of_any, field_of, items_of}
use Rattle.ll_code.specs.declared.program.LlStage.TheVariants as stage
use Rattle.ll_code.specs.declared.program.LlType.{LlType}
use Rattle.ll_code.specs.declared.program.LlType.TheVariants as type
use Rattle.ll_code.specs.declared.program.LlOp.{LlOp}
use Rattle.ll_code.specs.declared.program.LlOp.TheVariants as op
use Rattle.ll_code.specs.declared.program.LlGraph.{LlGraph}
use Rattle.ll_code.specs.declared.program.LlProgram.{LlProgram}
use Rattle.ll_laws.proofs.Values.{and_left, and_right}
use Rattle.exc_transform.specs.declared.family.Family.{Family}
use Rattle.exc_transform.specs.Explicit.{is_calm}
use Rattle.exc_transform.specs.Raising.{any_marked, raises_within}
use Rattle.exc_transform.specs.Pieces.{graph_of, test_types}
use Rattle.exc_laws.proofs.Tests.{and_both, length_map, get_map, get_left}
use Rattle.exc_laws.proofs.Statics.{with_graphs, constant_same}

-- ---- variables that are there

-- what is asked of a variable's type holds where there are more variables
pub kept : (f : Option LlType → Bool) → f None ≡ false → (types more : List LlType) (a : ℕ) → f (slice_get types a) ≡ true → f (slice_get (types ++ more) a) ≡ true
kept f none types more a h = one (slice_get types a) refl h
  where
    one : (o : Option LlType) → slice_get types a ≡ o → f o ≡ true → f (slice_get (types ++ more) a) ≡ true
    one None e h = absurd (let x : true ≡ false = sym h ∙ none in cc)
    one (Some t) e h = ap f (get_left types more a t e) ∙ h

module _ (p : LlProgram) (family : Family) (marks : List Bool) where
  abbrev pub New : LlProgram
  New = with_graphs p stage.Explicit (map (graph_of family marks) p.graphs)

  pub constants : (t : LlType) (c : CConst) → is_of_any New t c ≡ is_of_any p t c
  constants t c = constant_same p stage.Explicit (map (graph_of family marks) p.graphs) (length_map (graph_of family marks) p.graphs) (length p.statics) t c

  module _ (types more : List LlType) where
    -- ---- operands

    pub takes_kept : (t : LlType) (x : COperand) → takes p types t x ≡ true → takes New (types ++ more) t x ≡ true
    takes_kept t (Var v) h = kept (has_type t) refl types more v h
    takes_kept t (Const c) h = constants t c ∙ h

    pub type_takes_kept : (o : Option LlType) (x : COperand) → given_takes p types o x ≡ true → given_takes New (types ++ more) o x ≡ true
    type_takes_kept None x h = absurd (cc)
    type_takes_kept (Some t) x h = takes_kept t x h

    -- the variable is one of others, which may have more as well
    pub given_kept : (others behind : List LlType) (a : ℕ) (x : COperand) → given_takes p types (slice_get others a) x ≡ true → given_takes New (types ++ more) (slice_get (others ++ behind) a) x ≡ true
    given_kept others behind a x h = one (slice_get others a) refl h
      where
        one : (o : Option LlType) → slice_get others a ≡ o → given_takes p types o x ≡ true → given_takes New (types ++ more) (slice_get (others ++ behind) a) x ≡ true
        one None e h = absurd (cc)
        one (Some t) e h = ap (λ o. given_takes New (types ++ more) o x) (get_left others behind a t e) ∙ takes_kept t x h

    pub all_given_kept : (others behind : List LlType) (vs : List ℕ) (xs : List COperand) → all_given p types others vs xs ≡ true → all_given New (types ++ more) (others ++ behind) vs xs ≡ true
    all_given_kept others behind [] [] h = refl
    all_given_kept others behind [] (x ∷ xs) h = absurd (cc)
    all_given_kept others behind (v ∷ vs) [] h = absurd (cc)
    all_given_kept others behind (v ∷ vs) (x ∷ xs) h =
        and_both _ (all_given New (types ++ more) (others ++ behind) vs xs) (given_kept others behind v x (and_left _ _ h)) (all_given_kept others behind vs xs (and_right (given_takes p types (slice_get others v) x) _ h))

    all_taken_kept : (ts : List LlType) (xs : List COperand) → all_taken p types ts xs ≡ true → all_taken New (types ++ more) ts xs ≡ true
    all_taken_kept [] [] h = refl
    all_taken_kept [] (x ∷ xs) h = absurd (cc)
    all_taken_kept (t ∷ ts) [] h = absurd (cc)
    all_taken_kept (t ∷ ts) (x ∷ xs) h = and_both _ (all_taken New (types ++ more) ts xs) (takes_kept t x (and_left _ _ h)) (all_taken_kept ts xs (and_right (takes p types t x) _ h))

    type_kept : (t : LlType) (a : ℕ) → has_type t (slice_get types a) ≡ true → has_type t (slice_get (types ++ more) a) ≡ true
    type_kept t a h = kept (has_type t) refl types more a h

    has_given_kept : (a : ℕ) (o : Option LlType) → has_given types a o ≡ true → has_given (types ++ more) a o ≡ true
    has_given_kept a None h = absurd (cc)
    has_given_kept a (Some t) h = type_kept t a h

    pub points_kept : (a : ℕ) → points (slice_get types a) ≡ true → points (slice_get (types ++ more) a) ≡ true
    points_kept a h = kept points refl types more a h

    -- ---- pointers that are compared

    pointed_kept : (x : COperand) (r : Option ℕ) → pointed p types x ≡ Some r → pointed New (types ++ more) x ≡ Some r
    pointed_kept (Var v) r h = one (slice_get types v) refl h
      where
        one : (o : Option LlType) → slice_get types v ≡ o → pointer_type o ≡ Some r → pointer_type (slice_get (types ++ more) v) ≡ Some r
        one None e h = absurd (cc)
        one (Some t) e h = ap pointer_type (get_left types more v t e) ∙ h
    pointed_kept (Const constant.Null) r h = h
    pointed_kept (Const (constant.Static s g)) r h = ap (λ b. if b then Some (Some s) else None) (constants (type.Ptr s) (constant.Static s g)) ∙ h
    pointed_kept (Const c) r h = absurd (cc)

    pointers_kept : (x y : COperand) → same_pointers (pointed p types x) (pointed p types y) ≡ true → same_pointers (pointed New (types ++ more) x) (pointed New (types ++ more) y) ≡ true
    pointers_kept x y h = one (pointed p types x) (pointed p types y) refl refl h
      where
        one : (a b : Option (Option ℕ)) → pointed p types x ≡ a → pointed p types y ≡ b → same_pointers a b ≡ true → same_pointers (pointed New (types ++ more) x) (pointed New (types ++ more) y) ≡ true
        one (Some a) (Some b) e f h = ap (λ o. same_pointers o (pointed New (types ++ more) y)) (pointed_kept x a e) ∙ ap (same_pointers (Some a)) (pointed_kept y b f) ∙ h
        one (Some (Some a)) None e f h = absurd (cc)
        one (Some None) None e f h = absurd (cc)
        one None b e f h = absurd (cc)

    both_taken_kept : (o : CBinary) (x y : COperand) → both_taken p types o x y ≡ true → both_taken New (types ++ more) o x y ≡ true
    both_taken_kept two.Beq x y h = and_both _ (takes New (types ++ more) type.Bool y) (takes_kept type.Bool x (and_left _ _ h)) (takes_kept type.Bool y (and_right (takes p types type.Bool x) _ h))
    both_taken_kept two.Peq x y h = pointers_kept x y h
    both_taken_kept two.Feq x y h = and_both _ (takes New (types ++ more) type.Fn y) (takes_kept type.Fn x (and_left _ _ h)) (takes_kept type.Fn y (and_right (takes p types type.Fn x) _ h))
    both_taken_kept other x y h = and_both _ (takes New (types ++ more) type.Signed y) (takes_kept type.Signed x (and_left _ _ h)) (takes_kept type.Signed y (and_right (takes p types type.Signed x) _ h))

    -- ---- calls

    result_kept : (into : Option ℕ) (t : LlType) → result_ok types into t ≡ true → result_ok (types ++ more) into t ≡ true
    result_kept None t h = refl
    result_kept (Some a) t h = type_kept t a h

    call_kept : (into : Option ℕ) (f : ℕ) (xs : List COperand) (o : Option LlGraph) → slice_get p.graphs f ≡ o → call_ok p types into o xs ≡ true → call_ok New (types ++ more) into (slice_get (map (graph_of family marks) p.graphs) f) xs ≡ true
    call_kept into f xs None e h = absurd (cc)
    call_kept into f xs (Some g) e h =
        ap (λ o. call_ok New (types ++ more) into o xs) (get_map (graph_of family marks) p.graphs f ∙ ap (option_map (graph_of family marks)) e)
        ∙ and_both _ (all_given New (types ++ more) (g.types ++ test_types family (raises_within marks (any_marked marks) g.blocks)) g.params xs) (result_kept into g.result (and_left _ _ h))
        (all_given_kept g.types (test_types family (raises_within marks (any_marked marks) g.blocks)) g.params xs (and_right (result_ok types into g.result) _ h))

    -- ---- operations

    pub operation_kept : p.stage ≡ stage.Raw → (o : LlOp) → is_calm o ≡ true → operation_ok p types o ≡ true → operation_ok New (types ++ more) o ≡ true
    operation_kept raw (op.Set a x) c h = given_kept types more a x h
    operation_kept raw (op.Unary a o x) c h = and_both _ _ (type_kept (unary_gives o) a (and_left _ _ h)) (takes_kept (unary_takes o) x (and_right _ _ h))
    operation_kept raw (op.Binary a o x y) c h = and_both _ _ (type_kept (binary_gives o) a (and_left _ _ h)) (both_taken_kept o x y (and_right _ _ h))
    operation_kept raw (op.GetField a s b k) c h = and_both _ _ (points_kept b (and_left _ _ h)) (has_given_kept a (field_of (slice_get p.structs s) k) (and_right _ _ h))
    operation_kept raw (op.SetField s b k x) c h = and_both _ _ (points_kept b (and_left _ _ h)) (type_takes_kept (field_of (slice_get p.structs s) k) x (and_right _ _ h))
    operation_kept raw (op.GetItem a s b i) c h =
        and_both _ _ (and_both _ _ (points_kept b (and_left _ _ (and_left _ _ h))) (takes_kept type.Signed i (and_right _ _ (and_left _ _ h)))) (has_given_kept a (items_of (slice_get p.structs s)) (and_right _ _ h))
    operation_kept raw (op.SetItem s b i x) c h =
        and_both _ _ (and_both _ _ (points_kept b (and_left _ _ (and_left _ _ h))) (takes_kept type.Signed i (and_right _ _ (and_left _ _ h)))) (type_takes_kept (items_of (slice_get p.structs s)) x (and_right _ _ h))
    operation_kept raw (op.New a m s) c h = and_both _ _ (and_both _ _ (type_kept (type.Ptr m) a (and_left _ _ (and_left _ _ h))) (and_right _ _ (and_left _ _ h))) (and_right _ _ h)
    operation_kept raw (op.NewArray a m s x) c h =
        and_both _ _ (and_both _ _ (and_both _ _ (type_kept (type.Ptr m) a (and_left _ _ (and_left _ _ (and_left _ _ h)))) (and_right _ _ (and_left _ _ (and_left _ _ h)))) (and_right _ _ (and_left _ _ h)))
        (takes_kept type.Signed x (and_right _ _ h))
    operation_kept raw (op.Free a) c h = absurd (let f : true ≡ false = sym (and_left (is_counted p.stage) _ h) ∙ ap is_counted raw in cc)
    operation_kept raw (op.Step x) c h = takes_kept type.Signed x h
    operation_kept raw (op.Call into f xs) c h = call_kept into f xs (slice_get p.graphs f) refl h
    operation_kept raw (op.CallFn into given params b xs) c h =
        and_both _ _
        (and_both _ _ (and_both _ _ (and_both _ _ (type_kept type.Fn b (and_left _ _ (and_left _ _ (and_left _ _ (and_left _ _ h))))) (and_right _ _ (and_left _ _ (and_left _ _ (and_left _ _ h))))) (and_right _ _ (and_left _ _ (and_left _ _ h))))
        (result_kept into given (and_right _ _ (and_left _ _ h))))
        (all_taken_kept params xs (and_right _ _ h))
    operation_kept raw (op.ExcType a s) c h = and_both _ _ (and_left _ _ h) (type_kept (type.Ptr s) a (and_right _ _ h))
    operation_kept raw (op.ExcValue a s) c h = and_both _ _ (and_left _ _ h) (type_kept (type.Ptr s) a (and_right _ _ h))
    operation_kept raw (op.ExcSet a b) c h = and_both _ _ (points_kept a (and_left _ _ h)) (points_kept b (and_right _ _ h))
    operation_kept raw op.ExcClear c h = refl
    operation_kept raw (op.Argc a) c h = type_kept type.Signed a h
    operation_kept raw (op.ArgLen a x) c h = and_both _ _ (type_kept type.Signed a (and_left _ _ h)) (takes_kept type.Signed x (and_right _ _ h))
    operation_kept raw (op.Arg a x y) c h =
        and_both _ _ (and_both _ _ (type_kept type.Signed a (and_left _ _ (and_left _ _ h))) (takes_kept type.Signed x (and_right _ _ (and_left _ _ h)))) (takes_kept type.Signed y (and_right _ _ h))
    operation_kept raw (op.Put x) c h = takes_kept type.Signed x h
    operation_kept raw (op.Raise a) c h = absurd (cc)
