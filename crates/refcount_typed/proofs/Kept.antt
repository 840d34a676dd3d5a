-- Types, constants and operands keep their rules in the counted program.
use Rattle.std.proofs.Common.{◌≡◌, ◌≤◌, ℕ, zero, suc, true, ◌&&◌, ◌||◌, ◌==◌, List, [], ◌∷◌, length, map, Option, Some, None, refl, ap, ◌∙◌, arith}
use Rattle.std.specs.Prelude.{slice_get, nat_lt, option_map, if◌then◌else◌}
use Rattle.csub_tree.specs.Checked.{kind_of, if_any}
use Rattle.csub_tree.specs.declared.tree.CStatic.{CStatic}
use Rattle.csub_tree.specs.declared.tree.CConst.{CConst}
use Rattle.csub_tree.specs.declared.tree.CConst.TheVariants as constant
use Rattle.csub_tree.specs.declared.tree.COperand.{COperand}
use Rattle.csub_tree.specs.declared.tree.COperand.TheVariants.{Var, Const}
use Rattle.ll_code.specs.declared.program.LlType.{LlType}
use Rattle.ll_code.specs.declared.program.LlType.TheVariants as type
use Rattle.ll_code.specs.declared.program.LlProgram.{LlProgram}
use Rattle.ll_code.specs.Typed.{is_type, are_types, is_kind, are_kinds, base_of, begins_within, begins, is_cast, is_of, is_of_any, takes, all_taken, given_takes, all_given, pointed}
use Rattle.ll_laws.proofs.Values.{and_left, and_right, is_less}
use Rattle.refcount_transform.specs.Plan.{plan_of}
use Rattle.refcount_transform.specs.Made.{all_made}
use Rattle.refcount_transform.specs.Blocks.{graph_of}
use Rattle.refcount_transform.specs.Counted.{static_of, counted}
use Rattle.refcount_laws.proofs.Numbers.{length_two}
use Rattle.refcount_typed.proofs.Tests.{and_both, is_below, length_map, get_map}
use Rattle.refcount_typed.proofs.Structs.{structs_many, base_same}

module _ (p : LlProgram) where
  -- ---- types and structs

  pub type_same : (t : LlType) → is_type (counted p).structs t ≡ is_type p.structs t
  type_same (type.Ptr n) = ap (nat_lt n) (structs_many p)
  type_same t = refl

  pub types_same : (ts : List LlType) → are_types (counted p).structs ts ≡ are_types p.structs ts
  types_same [] = refl
  types_same (t ∷ ts) = ap (λ b. b && are_types (counted p).structs ts) (type_same t) ∙ ap (λ b. is_type p.structs t && b) (types_same ts)

  pub kind_same : (t : LlType) → is_kind (counted p).structs t ≡ is_kind p.structs t
  kind_same type.Void = refl
  kind_same (type.Ptr n) = type_same (type.Ptr n)
  kind_same t = refl

  pub kinds_same : (ts : List LlType) → are_kinds (counted p).structs ts ≡ are_kinds p.structs ts
  kinds_same [] = refl
  kinds_same (t ∷ ts) = ap (λ b. b && are_kinds (counted p).structs ts) (kind_same t) ∙ ap (λ b. is_kind p.structs t && b) (kinds_same ts)

  within_same : (k n m : ℕ) → begins_within (counted p).structs k n m ≡ begins_within p.structs k n m
  unfolding begins_within
  within_same zero n m = refl
  within_same (suc k) n m = ap (λ o. (n == m) || if_any (λ b. begins_within (counted p).structs k b m) o) (base_same p n) ∙ ap (λ b. (n == m) || b) (any (λ b. within_same k b m) (base_of (slice_get p.structs n)))
    where
      any : ((b : ℕ) → begins_within (counted p).structs k b m ≡ begins_within p.structs k b m) → (o : Option ℕ) → if_any (λ b. begins_within (counted p).structs k b m) o ≡ if_any (λ b. begins_within p.structs k b m) o
      any same None = refl
      any same (Some b) = same b

  pub begins_same : (n m : ℕ) → begins (counted p).structs n m ≡ begins p.structs n m
  begins_same n m = ap (λ l. nat_lt n l && begins_within (counted p).structs n n m) (structs_many p) ∙ ap (λ b. nat_lt n (length p.structs) && b) (within_same n n m)

  cast_same : (o : Option ℕ) (s : ℕ) → is_cast (counted p).structs o s ≡ is_cast p.structs o s
  cast_same None s = refl
  cast_same (Some k) s = begins_same k s

  -- ---- constants

  kind_given : (o : Option CStatic) → kind_of (option_map (static_of (plan_of p)) o) ≡ kind_of o
  kind_given None = refl
  kind_given (Some g) = refl

  static_same : (g s : ℕ) → is_cast (counted p).structs (kind_of (slice_get (counted p).statics g)) s ≡ is_cast p.structs (kind_of (slice_get p.statics g)) s
  static_same g s =
      ap (λ o. is_cast (counted p).structs (kind_of o) s) (get_map (static_of (plan_of p)) p.statics g) ∙ ap (λ o. is_cast (counted p).structs o s) (kind_given (slice_get p.statics g))
      ∙ cast_same (kind_of (slice_get p.statics g)) s

  pub graphs_more : length p.graphs ≤ length (counted p).graphs
  graphs_more = omega (arith, length_two (map (graph_of (plan_of p)) p.graphs) (all_made (plan_of p)), length_map (graph_of (plan_of p)) p.graphs)

  fun_kept : (f : ℕ) → nat_lt f (length p.graphs) ≡ true → nat_lt f (length (counted p).graphs) ≡ true
  fun_kept f h = is_below f (length (counted p).graphs) (omega (arith, is_less f (length p.graphs) h, graphs_more))

  pub pointer_same : (below n : ℕ) (c : CConst) → is_of (counted p) below (type.Ptr n) c ≡ is_of p below (type.Ptr n) c
  pointer_same below n (constant.Static s g) = ap (λ b. (n == s) && nat_lt g below && b) (static_same g s)
  pointer_same below n c = refl

  pub constant_kept : (below : ℕ) (t : LlType) (c : CConst) → is_of p below t c ≡ true → is_of (counted p) below t c ≡ true
  constant_kept below type.Fn (constant.Fun f) h = fun_kept f h
  constant_kept below (type.Ptr n) c h = pointer_same below n c ∙ h
  constant_kept below t c h = h

  many_statics : length (counted p).statics ≡ length p.statics
  many_statics = length_map (static_of (plan_of p)) p.statics

  any_kept : (t : LlType) (c : CConst) → is_of_any p t c ≡ true → is_of_any (counted p) t c ≡ true
  any_kept t c h = ap (λ n. is_of (counted p) n t c) many_statics ∙ constant_kept (length p.statics) t c h

  any_same : (n : ℕ) (c : CConst) → is_of_any (counted p) (type.Ptr n) c ≡ is_of_any p (type.Ptr n) c
  any_same n c = ap (λ k. is_of (counted p) k (type.Ptr n) c) many_statics ∙ pointer_same (length p.statics) n c

  -- ---- operands

  module _ (types : List LlType) where
    pub taken_kept : (t : LlType) (x : COperand) → takes p types t x ≡ true → takes (counted p) types t x ≡ true
    taken_kept t (Var v) h = h
    taken_kept t (Const c) h = any_kept t c h

    pub given_kept : (o : Option LlType) (x : COperand) → given_takes p types o x ≡ true → given_takes (counted p) types o x ≡ true
    given_kept None x h = h
    given_kept (Some t) x h = taken_kept t x h

    pub all_given_kept : (others : List LlType) (vs : List ℕ) (xs : List COperand) → all_given p types others vs xs ≡ true → all_given (counted p) types others vs xs ≡ true
    all_given_kept others [] [] h = refl
    all_given_kept others [] (x ∷ xs) h = absurd (cc)
    all_given_kept others (v ∷ vs) [] h = absurd (cc)
    all_given_kept others (v ∷ vs) (x ∷ xs) h =
        and_both (given_takes (counted p) types (slice_get others v) x) (all_given (counted p) types others vs xs) (given_kept (slice_get others v) x (and_left _ _ h))
        (all_given_kept others vs xs (and_right (given_takes p types (slice_get others v) x) _ h))

    pub all_taken_kept : (ts : List LlType) (xs : List COperand) → all_taken p types ts xs ≡ true → all_taken (counted p) types ts xs ≡ true
    all_taken_kept [] [] h = refl
    all_taken_kept [] (x ∷ xs) h = absurd (cc)
    all_taken_kept (t ∷ ts) [] h = absurd (cc)
    all_taken_kept (t ∷ ts) (x ∷ xs) h =
        and_both (takes (counted p) types t x) (all_taken (counted p) types ts xs) (taken_kept t x (and_left _ _ h)) (all_taken_kept ts xs (and_right (takes p types t x) _ h))

    pub pointed_same : (x : COperand) → pointed (counted p) types x ≡ pointed p types x
    pointed_same (Var v) = refl
    pointed_same (Const (constant.Static s g)) = ap (λ b. if b then Some (Some s) else None) (any_same s (constant.Static s g))
    pointed_same (Const c) = refl
