-- The statements of a C file keep its rules where the operations of its program do.
use Rattle.std.proofs.Common.{◌≡◌, ◌<◌, ℕ, zero, suc, Bool, true, false, ◌&&◌, ◌||◌, ◌==◌, List, [], ◌∷◌, length, map, Option, Some, None, refl, sym, ap, ◌∙◌, arith}
use Rattle.std.proofs.lemmas.Bool.Decides.{nat_tests}
use Rattle.std.specs.Prelude.{slice_get, nat_lt, option_map, is_none, is_some, if◌then◌else◌}
use Rattle.csub_tree.specs.Statement.{same_type, same_types, same_result}
use Rattle.csub_tree.specs.Checked as ck
use Rattle.csub_tree.specs.Checked.{kind_of, gives_bool, if_any, begins_within as c_begins_within}
use Rattle.csub_tree.specs.declared.tree.CType.{CType}
use Rattle.csub_tree.specs.declared.tree.CType.TheVariants as c
use Rattle.csub_tree.specs.declared.tree.CStatic.{CStatic}
use Rattle.csub_tree.specs.declared.tree.CConst.{CConst}
use Rattle.csub_tree.specs.declared.tree.CConst.TheVariants as constant
use Rattle.csub_tree.specs.declared.tree.COperand.{COperand}
use Rattle.csub_tree.specs.declared.tree.COperand.TheVariants.{Var, Const}
use Rattle.csub_tree.specs.declared.tree.CUnary.{CUnary}
use Rattle.csub_tree.specs.declared.tree.CUnary.TheVariants as one
use Rattle.csub_tree.specs.declared.tree.CBinary.{CBinary}
use Rattle.csub_tree.specs.declared.tree.CBinary.TheVariants as two
use Rattle.csub_tree.specs.declared.tree.CStmt.{CStmt}
use Rattle.ll_code.specs.Machine.{c_type, c_result, type_or_word}
use Rattle.ll_code.specs.Typed as typed
use Rattle.ll_code.specs.Typed.{begins_within, operation_ok}
use Rattle.ll_code.specs.declared.program.LlType.{LlType}
use Rattle.ll_code.specs.declared.program.LlType.TheVariants as type
use Rattle.ll_code.specs.declared.program.LlStruct.{LlStruct}
use Rattle.ll_code.specs.declared.program.LlOp.{LlOp}
use Rattle.ll_code.specs.declared.program.LlOp.TheVariants as op
use Rattle.ll_code.specs.declared.program.LlGraph.{LlGraph}
use Rattle.ll_code.specs.declared.program.LlProgram.{LlProgram}
use Rattle.ll_laws.proofs.Values.{and_left, and_right, has_type_is, is_less}
use Rattle.genc_lower.specs.Lower as lower
use Rattle.genc_lower.specs.Lower.{order_of, lowered, function_of, statement, c_struct, static_code, prototype, in_order}
use Rattle.genc_laws.proofs.Values.{length_map, get_map, equals}
use Rattle.genc_laws.proofs.Operations.{both_pointers}
use Rattle.genc_laws.proofs.Places.{is_below, order_at, order_count}

-- ---- tests

pub and_both : (a b : Bool) → a ≡ true → b ≡ true → (a && b) ≡ true
and_both true b e f = f
and_both false b e f = absurd (cc)

pub same_refl : (t : CType) → same_type t t ≡ true
same_refl c.Signed = refl
same_refl c.Char = refl
same_refl c.Bool = refl
same_refl c.Fn = refl
same_refl (c.Ptr n) = equals n n refl

pub all_same_refl : (ts : List CType) → same_types ts ts ≡ true
all_same_refl [] = refl
all_same_refl (t ∷ ts) = and_both (same_type t t) (same_types ts ts) (same_refl t) (all_same_refl ts)

pub result_refl : (o : Option CType) → same_result o o ≡ true
result_refl None = refl
result_refl (Some t) = same_refl t

-- ---- types and structs

module _ (structs : List LlStruct) where
  pub kind_kept : (t : LlType) → typed.is_kind structs t ≡ true → ck.is_type (map c_struct structs) (c_type t) ≡ true
  kind_kept (type.Ptr n) h = ap (nat_lt n) (length_map c_struct structs) ∙ h
  kind_kept other h = refl

  type_is_kind : (t : LlType) → typed.is_type structs t ≡ true → typed.is_kind structs t ≡ true
  type_is_kind type.Void h = refl
  type_is_kind other h = h

  pub type_kept : (t : LlType) → typed.is_type structs t ≡ true → ck.is_type (map c_struct structs) (c_type t) ≡ true
  type_kept t h = kind_kept t (type_is_kind t h)

  pub kinds_kept : (ts : List LlType) → typed.are_kinds structs ts ≡ true → ck.are_types (map c_struct structs) (map c_type ts) ≡ true
  kinds_kept [] h = refl
  kinds_kept (t ∷ ts) h = and_both _ (ck.are_types (map c_struct structs) (map c_type ts)) (kind_kept t (and_left (typed.is_kind structs t) (typed.are_kinds structs ts) h)) (kinds_kept ts (and_right (typed.is_kind structs t) _ h))

  pub types_kept : (ts : List LlType) → typed.are_types structs ts ≡ true → ck.are_types (map c_struct structs) (map c_type ts) ≡ true
  types_kept [] h = refl
  types_kept (t ∷ ts) h = and_both _ (ck.are_types (map c_struct structs) (map c_type ts)) (type_kept t (and_left (typed.is_type structs t) (typed.are_types structs ts) h)) (types_kept ts (and_right (typed.is_type structs t) _ h))

  pub result_kept : (t : LlType) → typed.is_kind structs t ≡ true → ck.is_type_if_any (map c_struct structs) (c_result t) ≡ true
  result_kept type.Void h = refl
  result_kept (type.Ptr n) h = kind_kept (type.Ptr n) h
  result_kept other h = refl

  base_same : (o : Option LlStruct) → ck.base_of (option_map c_struct o) ≡ typed.base_of o
  base_same None = refl
  base_same (Some s) = refl

  items_of_same : (o : Option LlStruct) → ck.items_of (option_map c_struct o) ≡ option_map c_type (typed.items_of o)
  items_of_same None = refl
  items_of_same (Some s) = refl

  pub items_same : (s : ℕ) → ck.items_of (slice_get (map c_struct structs) s) ≡ option_map c_type (typed.items_of (slice_get structs s))
  items_same s = ap ck.items_of (get_map c_struct structs s) ∙ items_of_same (slice_get structs s)

  own_field_same : (s : LlStruct) (base : Option ℕ) (k : ℕ) → ck.own_field (c_struct s) base k ≡ option_map c_type (typed.own_field s base k)
  own_field_same s None k = get_map c_type s.fields k
  own_field_same s (Some m) zero = refl
  own_field_same s (Some m) (suc k) = get_map c_type s.fields k

  field_of_same : (o : Option LlStruct) (k : ℕ) → ck.field_of (option_map c_struct o) k ≡ option_map c_type (typed.field_of o k)
  field_of_same None k = refl
  field_of_same (Some s) k = own_field_same s s.base k

  pub field_same : (s k : ℕ) → ck.field_of (slice_get (map c_struct structs) s) k ≡ option_map c_type (typed.field_of (slice_get structs s) k)
  field_same s k = ap (λ o. ck.field_of o k) (get_map c_struct structs s) ∙ field_of_same (slice_get structs s) k

  none_same : (o : Option LlType) → is_none (option_map c_type o) ≡ is_none o
  none_same None = refl
  none_same (Some t) = refl

  some_same : (o : Option LlType) → is_some (option_map c_type o) ≡ is_some o
  some_same None = refl
  some_same (Some t) = refl

  pub no_items_same : (s : ℕ) → is_none (ck.items_of (slice_get (map c_struct structs) s)) ≡ is_none (typed.items_of (slice_get structs s))
  no_items_same s = ap is_none (items_same s) ∙ none_same (typed.items_of (slice_get structs s))

  pub has_items_same : (s : ℕ) → is_some (ck.items_of (slice_get (map c_struct structs) s)) ≡ is_some (typed.items_of (slice_get structs s))
  has_items_same s = ap is_some (items_same s) ∙ some_same (typed.items_of (slice_get structs s))

  begins_within_same : (k n m : ℕ) → c_begins_within (map c_struct structs) k n m ≡ begins_within structs k n m
  unfolding c_begins_within begins_within
  begins_within_same zero n m = refl
  begins_within_same (suc k) n m =
      ap (λ o. (n == m) || if_any (λ b. c_begins_within (map c_struct structs) k b m) o) (ap ck.base_of (get_map c_struct structs n) ∙ base_same (slice_get structs n))
      ∙ ap (λ b. (n == m) || b) (each (typed.base_of (slice_get structs n)) (λ b. begins_within_same k b m))
    where
      each : (o : Option ℕ) → ((b : ℕ) → c_begins_within (map c_struct structs) k b m ≡ begins_within structs k b m) → if_any (λ b. c_begins_within (map c_struct structs) k b m) o ≡ if_any (λ b. begins_within structs k b m) o
      each None go = refl
      each (Some b) go = go b

  pub begins_same : (n m : ℕ) → ck.begins (map c_struct structs) n m ≡ typed.begins structs n m
  begins_same n m = ap (λ k. nat_lt n k && c_begins_within (map c_struct structs) n n m) (length_map c_struct structs) ∙ ap (λ b. nat_lt n (length structs) && b) (begins_within_same n n m)

  cast_same : (o : Option ℕ) (s : ℕ) → ck.is_cast (map c_struct structs) o s ≡ typed.is_cast structs o s
  cast_same None s = refl
  cast_same (Some kind) s = begins_same kind s

  struct_base : (n : ℕ) (base : Option ℕ) → typed.is_base structs n base ≡ true → ck.is_base (map c_struct structs) n base ≡ true
  struct_base n None h = refl
  struct_base n (Some m) h = and_both (nat_lt m n) _ (and_left (nat_lt m n) (is_none (typed.items_of (slice_get structs m))) h) (no_items_same m ∙ and_right (nat_lt m n) (is_none (typed.items_of (slice_get structs m))) h)

  struct_items : (o : Option LlType) → typed.is_type_if_any structs o ≡ true → ck.is_type_if_any (map c_struct structs) (option_map c_type o) ≡ true
  struct_items None h = refl
  struct_items (Some t) h = type_kept t h

  pub struct_kept : (n : ℕ) (s : LlStruct) → typed.struct_ok structs n s ≡ true → ck.struct_ok (map c_struct structs) n (c_struct s) ≡ true
  struct_kept n s h =
      and_both _ _ (and_both _ _ (struct_base n s.base (and_left _ _ (and_left _ _ h))) (types_kept s.fields (and_right _ _ (and_left _ _ h)))) (struct_items s.items (and_right _ _ h))

-- ---- constants and operands

pub function_within : (p : LlProgram) (f : ℕ) → f < length p.graphs → p.entry < length p.graphs → function_of (order_of p) f < length p.graphs
function_within p f lt le = grind (arith, nat_tests)

module _ (p : LlProgram) (entry : LlGraph) (is : slice_get p.graphs p.entry ≡ Some entry) (le : p.entry < length p.graphs) where
  kind_same : (o : Option CStatic) → kind_of (option_map (static_code (order_of p)) o) ≡ kind_of o
  kind_same None = refl
  kind_same (Some g) = refl

  pub is_of_kept : (below : ℕ) (t : LlType) (x : CConst) → typed.is_of p below t x ≡ true → ck.is_of (lowered p) below (c_type t) (lower.constant (order_of p) x) ≡ true
  is_of_kept below type.Signed (constant.Word z) h = refl
  is_of_kept below type.Char (constant.Char b) h = refl
  is_of_kept below type.Bool (constant.Bool b) h = refl
  is_of_kept below type.Fn constant.Null h = refl
  is_of_kept below type.Fn (constant.Fun f) h = ap (nat_lt (function_of (order_of p) f)) (order_count prototype p entry is) ∙ is_below _ _ (function_within p f (is_less f (length p.graphs) h) le)
  is_of_kept below (type.Ptr n) constant.Null h = refl
  is_of_kept below (type.Ptr n) (constant.Static s g) h =
      and_both (n == s && nat_lt g below) _ (and_left (n == s && nat_lt g below) (typed.is_cast p.structs (kind_of (slice_get p.statics g)) s) h)
      (ap (λ o. ck.is_cast (map c_struct p.structs) o s) (ap kind_of (get_map (static_code (order_of p)) p.statics g) ∙ kind_same (slice_get p.statics g)) ∙ cast_same p.structs (kind_of (slice_get p.statics g)) s
      ∙ and_right (n == s && nat_lt g below) (typed.is_cast p.structs (kind_of (slice_get p.statics g)) s) h)
  is_of_kept below t x h = absurd (cc)

  pub constant_kept : (t : LlType) (x : CConst) → typed.is_of_any p t x ≡ true → ck.is_of_any (lowered p) (c_type t) (lower.constant (order_of p) x) ≡ true
  constant_kept t x h = ap (λ n. ck.is_of (lowered p) n (c_type t) (lower.constant (order_of p) x)) (length_map (static_code (order_of p)) p.statics) ∙ is_of_kept (length p.statics) t x h

  -- ---- where the function has a variable for each of the graph

  module _ (types : List LlType) (vars : List CType) (has : (a : ℕ) (t : LlType) → slice_get types a ≡ Some t → slice_get vars a ≡ Some (c_type t)) where
    pub has_kept : (t : LlType) (a : ℕ) → typed.has_type t (slice_get types a) ≡ true → ck.has_type (c_type t) (slice_get vars a) ≡ true
    has_kept t a h = ap (ck.has_type (c_type t)) (has a t (has_type_is t (slice_get types a) h)) ∙ same_refl (c_type t)

    pub takes_kept : (t : LlType) (x : COperand) → typed.takes p types t x ≡ true → ck.takes (lowered p) vars (c_type t) (lower.operand (order_of p) x) ≡ true
    takes_kept t (Var v) h = has_kept t v h
    takes_kept t (Const x) h = constant_kept t x h

    pub all_taken_kept : (ts : List LlType) (xs : List COperand) → typed.all_taken p types ts xs ≡ true → ck.all_taken (lowered p) vars (map c_type ts) (map (lower.operand (order_of p)) xs) ≡ true
    all_taken_kept [] [] h = refl
    all_taken_kept (t ∷ ts) (x ∷ xs) h = and_both _ _ (takes_kept t x (and_left _ _ h)) (all_taken_kept ts xs (and_right (typed.takes p types t x) _ h))
    all_taken_kept [] (x ∷ xs) h = absurd (cc)
    all_taken_kept (t ∷ ts) [] h = absurd (cc)

    pub given_kept : (o : Option LlType) (x : COperand) → typed.given_takes p types o x ≡ true → ck.given_takes (lowered p) vars (option_map c_type o) (lower.operand (order_of p) x) ≡ true
    given_kept None x h = absurd (cc)
    given_kept (Some t) x h = takes_kept t x h

    given_at : (a : ℕ) (o : Option LlType) (x : COperand) → slice_get types a ≡ o → typed.given_takes p types o x ≡ true → ck.given_takes (lowered p) vars (slice_get vars a) (lower.operand (order_of p) x) ≡ true
    given_at a None x e h = absurd (cc)
    given_at a (Some t) x e h = ap (λ o. ck.given_takes (lowered p) vars o (lower.operand (order_of p) x)) (has a t e) ∙ takes_kept t x h

    has_given_kept : (a : ℕ) (o : Option LlType) → typed.has_given types a o ≡ true → ck.has_given vars a (option_map c_type o) ≡ true
    has_given_kept a None h = absurd (cc)
    has_given_kept a (Some t) h = has_kept t a h

    points_kept : (a : ℕ) (o : Option LlType) → slice_get types a ≡ o → typed.points o ≡ true → ck.points (slice_get vars a) ≡ true
    points_kept a (Some (type.Ptr n)) e h = ap ck.points (has a (type.Ptr n) e)
    points_kept a other e h = absurd (cc)

    -- ---- pointers that are compared

    variable_pointed : (a : ℕ) (o : Option LlType) (q : Option ℕ) → slice_get types a ≡ o → typed.pointer_type o ≡ Some q → ck.pointer_type (slice_get vars a) ≡ Some q
    variable_pointed a (Some (type.Ptr n)) q e h = ap ck.pointer_type (has a (type.Ptr n) e) ∙ h
    variable_pointed a other q e h = absurd (cc)

    pointed_kept : (x : COperand) (q : Option ℕ) → typed.pointed p types x ≡ Some q → ck.pointed (lowered p) vars (lower.operand (order_of p) x) ≡ Some q
    pointed_kept (Var a) q h = variable_pointed a (slice_get types a) q refl h
    pointed_kept (Const constant.Null) q h = h
    pointed_kept (Const (constant.Static s g)) q h = one (typed.is_of_any p (type.Ptr s) (constant.Static s g)) refl h
      where
        one : (b : Bool) → typed.is_of_any p (type.Ptr s) (constant.Static s g) ≡ b → (if b then Some (Some s) else None) ≡ Some q → ck.pointed (lowered p) vars (Const (constant.Static s g)) ≡ Some q
        one true e f = ap (λ b. if b then Some (Some s) else None) (constant_kept (type.Ptr s) (constant.Static s g) e) ∙ f
        one false e f = absurd (cc)
    pointed_kept (Const other) q h = absurd (cc)

    both_pointed : (x y : COperand) → typed.same_pointers (typed.pointed p types x) (typed.pointed p types y) ≡ true
        → ck.same_pointers (ck.pointed (lowered p) vars (lower.operand (order_of p) x)) (ck.pointed (lowered p) vars (lower.operand (order_of p) y)) ≡ true
    both_pointed x y h = one (both_pointers (typed.pointed p types x) (typed.pointed p types y) h)
      where
        alike : (q r : Option ℕ) → typed.same_pointers (Some q) (Some r) ≡ true → ck.same_pointers (Some q) (Some r) ≡ true
        alike (Some n) (Some m) h = h
        alike (Some n) None h = refl
        alike None (Some m) h = refl
        alike None None h = refl

        one : ((q : Option ℕ) × (typed.pointed p types x ≡ Some q)) × ((r : Option ℕ) × (typed.pointed p types y ≡ Some r))
            → ck.same_pointers (ck.pointed (lowered p) vars (lower.operand (order_of p) x)) (ck.pointed (lowered p) vars (lower.operand (order_of p) y)) ≡ true
        one ((q, e), (r, f)) =
            ap (λ o. ck.same_pointers o (ck.pointed (lowered p) vars (lower.operand (order_of p) y))) (pointed_kept x q e) ∙ ap (ck.same_pointers (Some q)) (pointed_kept y r f)
            ∙ alike q r (sym (ap (λ o. typed.same_pointers o (typed.pointed p types y)) e ∙ ap (typed.same_pointers (Some q)) f) ∙ h)

    both_kept : (o : CBinary) (x y : COperand) → typed.both_taken p types o x y ≡ true → ck.both_taken (lowered p) vars o (lower.operand (order_of p) x) (lower.operand (order_of p) y) ≡ true
    both_kept two.Beq x y h = and_both _ _ (takes_kept type.Bool x (and_left _ _ h)) (takes_kept type.Bool y (and_right (typed.takes p types type.Bool x) _ h))
    both_kept two.Peq x y h = both_pointed x y h
    both_kept two.Feq x y h = and_both _ _ (takes_kept type.Fn x (and_left _ _ h)) (takes_kept type.Fn y (and_right (typed.takes p types type.Fn x) _ h))
    both_kept o x y h = and_both _ _ (takes_kept type.Signed x (and_left _ _ h)) (takes_kept type.Signed y (and_right (typed.takes p types type.Signed x) _ h))

    unary_gives_same : (o : CUnary) → ck.unary_gives o ≡ c_type (typed.unary_gives o)
    unary_gives_same one.Not = refl
    unary_gives_same one.S2C = refl
    unary_gives_same other = refl

    unary_takes_same : (o : CUnary) → ck.unary_takes o ≡ c_type (typed.unary_takes o)
    unary_takes_same one.Neg = refl
    unary_takes_same one.Inv = refl
    unary_takes_same one.Not = refl
    unary_takes_same one.C2S = refl
    unary_takes_same one.S2C = refl
    unary_takes_same one.B2S = refl

    binary_gives_same : (b : Bool) → (if b then c.Bool else c.Signed) ≡ c_type (if b then type.Bool else type.Signed)
    binary_gives_same true = refl
    binary_gives_same false = refl

    -- ---- calls

    no_void : (o : Option LlType) → typed.has_type type.Void o ≡ true → ⊥
    no_void None h = cc
    no_void (Some t) h = let f : false ≡ true = h in cc

    result_given : (r : LlType) (a : ℕ) → typed.has_type r (slice_get types a) ≡ true → ck.has_given vars a (c_result r) ≡ true
    result_given type.Void a h = absurd (no_void (slice_get types a) h)
    result_given type.Signed a h = has_kept type.Signed a h
    result_given type.Char a h = has_kept type.Char a h
    result_given type.Bool a h = has_kept type.Bool a h
    result_given type.Fn a h = has_kept type.Fn a h
    result_given (type.Ptr n) a h = has_kept (type.Ptr n) a h

    into_kept : (into : Option ℕ) (r : LlType) → typed.result_ok types into r ≡ true → ck.result_ok vars into (c_result r) ≡ true
    into_kept None r h = refl
    into_kept (Some a) r h = result_given r a h

    all_given_kept : (others : List LlType) (vs : List ℕ) (xs : List COperand) → typed.all_given p types others vs xs ≡ true
        → ck.all_taken (lowered p) vars (map (λ v. type_or_word (slice_get others v)) vs) (map (lower.operand (order_of p)) xs) ≡ true
    all_given_kept others [] [] h = refl
    all_given_kept others (v ∷ vs) (x ∷ xs) h =
        and_both _ _ (first (slice_get others v) (and_left _ _ h)) (all_given_kept others vs xs (and_right (typed.given_takes p types (slice_get others v) x) _ h))
      where
        first : (o : Option LlType) → typed.given_takes p types o x ≡ true → ck.takes (lowered p) vars (type_or_word o) (lower.operand (order_of p) x) ≡ true
        first None h = absurd (cc)
        first (Some t) h = takes_kept t x h
    all_given_kept others [] (x ∷ xs) h = absurd (cc)
    all_given_kept others (v ∷ vs) [] h = absurd (cc)

    call_kept : (into : Option ℕ) (f : ℕ) (o : Option LlGraph) (xs : List COperand) → slice_get p.graphs f ≡ o → typed.call_ok p types into o xs ≡ true
        → ck.call_ok (lowered p) vars into (slice_get (lowered p).prototypes (function_of (order_of p) f)) (map (lower.operand (order_of p)) xs) ≡ true
    call_kept into f None xs e h = absurd (cc)
    call_kept into f (Some g) xs e h =
        ap (λ o. ck.call_ok (lowered p) vars into o (map (lower.operand (order_of p)) xs)) (order_at prototype p entry is f g e)
        ∙ and_both _ _ (into_kept into g.result (and_left _ _ h)) (all_given_kept g.types g.params xs (and_right (typed.result_ok types into g.result) _ h))

    -- ---- operations

    module _ (result : Option CType) (blocks : ℕ) (counted : typed.is_raw p.stage ≡ false) where
      abbrev Keeps : CStmt → Type 0
      Keeps s = ck.statement_ok (lowered p) vars result blocks s ≡ true

      pub operation_kept : (o : LlOp) → operation_ok p types o ≡ true → Keeps (statement (order_of p) o)
      operation_kept (op.Set a x) h = given_at a (slice_get types a) x refl h
      operation_kept (op.Unary a o x) h =
          and_both _ _ (ap (λ t. ck.has_type t (slice_get vars a)) (unary_gives_same o) ∙ has_kept (typed.unary_gives o) a (and_left _ _ h))
          (ap (λ t. ck.takes (lowered p) vars t (lower.operand (order_of p) x)) (unary_takes_same o) ∙ takes_kept (typed.unary_takes o) x (and_right (typed.has_type (typed.unary_gives o) (slice_get types a)) _ h))
      operation_kept (op.Binary a o x y) h =
          and_both _ _ (ap (λ t. ck.has_type t (slice_get vars a)) (binary_gives_same (gives_bool o)) ∙ has_kept (typed.binary_gives o) a (and_left _ _ h)) (both_kept o x y (and_right (typed.has_type (typed.binary_gives o) (slice_get types a)) _ h))
      operation_kept (op.GetField a s b k) h =
          and_both _ _ (points_kept b (slice_get types b) refl (and_left _ _ h))
          (ap (ck.has_given vars a) (field_same p.structs s k) ∙ has_given_kept a (typed.field_of (slice_get p.structs s) k) (and_right (typed.points (slice_get types b)) _ h))
      operation_kept (op.SetField s b k x) h =
          and_both _ _ (points_kept b (slice_get types b) refl (and_left _ _ h))
          (ap (λ o. ck.given_takes (lowered p) vars o (lower.operand (order_of p) x)) (field_same p.structs s k) ∙ given_kept (typed.field_of (slice_get p.structs s) k) x (and_right (typed.points (slice_get types b)) _ h))
      operation_kept (op.GetItem a s b i) h =
          and_both _ _ (and_both _ _ (points_kept b (slice_get types b) refl (and_left _ _ (and_left _ _ h))) (takes_kept type.Signed i (and_right (typed.points (slice_get types b)) _ (and_left _ _ h))))
          (ap (ck.has_given vars a) (items_same p.structs s) ∙ has_given_kept a (typed.items_of (slice_get p.structs s)) (and_right (typed.points (slice_get types b) && typed.takes p types type.Signed i) _ h))
      operation_kept (op.SetItem s b i x) h =
          and_both _ _ (and_both _ _ (points_kept b (slice_get types b) refl (and_left _ _ (and_left _ _ h))) (takes_kept type.Signed i (and_right (typed.points (slice_get types b)) _ (and_left _ _ h))))
          (ap (λ o. ck.given_takes (lowered p) vars o (lower.operand (order_of p) x)) (items_same p.structs s)
          ∙ given_kept (typed.items_of (slice_get p.structs s)) x (and_right (typed.points (slice_get types b) && typed.takes p types type.Signed i) _ h))
      operation_kept (op.New a m s) h =
          and_both _ _ (and_both _ _ (has_kept (type.Ptr m) a (and_left _ _ (and_left _ _ h))) (begins_same p.structs s m ∙ and_right (typed.has_type (type.Ptr m) (slice_get types a)) _ (and_left _ _ h)))
          (no_items_same p.structs s ∙ and_right (typed.has_type (type.Ptr m) (slice_get types a) && typed.begins p.structs s m) _ h)
      operation_kept (op.NewArray a m s x) h =
          and_both _ _
          (and_both _ _ (and_both _ _ (has_kept (type.Ptr m) a (and_left _ _ (and_left _ _ (and_left _ _ h)))) (begins_same p.structs s m ∙ and_right (typed.has_type (type.Ptr m) (slice_get types a)) _ (and_left _ _ (and_left _ _ h))))
          (has_items_same p.structs s ∙ and_right (typed.has_type (type.Ptr m) (slice_get types a) && typed.begins p.structs s m) _ (and_left _ _ h)))
          (takes_kept type.Signed x (and_right (typed.has_type (type.Ptr m) (slice_get types a) && typed.begins p.structs s m && is_some (typed.items_of (slice_get p.structs s))) _ h))
      operation_kept (op.Free a) h = points_kept a (slice_get types a) refl (and_right (typed.is_counted p.stage) _ h)
      operation_kept (op.Step x) h = takes_kept type.Signed x h
      operation_kept (op.Call into f xs) h = call_kept into f (slice_get p.graphs f) xs refl h
      operation_kept (op.CallFn into given params b xs) h =
          let t : (typed.has_type type.Fn (slice_get types b) && typed.is_kind p.structs given && typed.are_types p.structs params && typed.result_ok types into given) ≡ true = and_left _ _ h in
          let u : (typed.has_type type.Fn (slice_get types b) && typed.is_kind p.structs given && typed.are_types p.structs params) ≡ true = and_left _ _ t in
          let v : (typed.has_type type.Fn (slice_get types b) && typed.is_kind p.structs given) ≡ true = and_left _ _ u in
          and_both _ _
          (and_both _ _
          (and_both _ _ (and_both _ _ (has_kept type.Fn b (and_left _ _ v)) (result_kept p.structs given (and_right (typed.has_type type.Fn (slice_get types b)) _ v)))
          (types_kept p.structs params (and_right (typed.has_type type.Fn (slice_get types b) && typed.is_kind p.structs given) _ u)))
          (into_kept into given (and_right (typed.has_type type.Fn (slice_get types b) && typed.is_kind p.structs given && typed.are_types p.structs params) _ t)))
          (all_taken_kept params xs (and_right (typed.has_type type.Fn (slice_get types b) && typed.is_kind p.structs given && typed.are_types p.structs params && typed.result_ok types into given) _ h))
      operation_kept (op.ExcType a s) h = and_both _ _ (ap (nat_lt s) (length_map c_struct p.structs) ∙ and_left _ _ h) (has_kept (type.Ptr s) a (and_right (nat_lt s (length p.structs)) _ h))
      operation_kept (op.ExcValue a s) h = and_both _ _ (ap (nat_lt s) (length_map c_struct p.structs) ∙ and_left _ _ h) (has_kept (type.Ptr s) a (and_right (nat_lt s (length p.structs)) _ h))
      operation_kept (op.ExcSet a b) h = and_both _ _ (points_kept a (slice_get types a) refl (and_left _ _ h)) (points_kept b (slice_get types b) refl (and_right (typed.points (slice_get types a)) _ h))
      operation_kept op.ExcClear h = refl
      operation_kept (op.Argc a) h = has_kept type.Signed a h
      operation_kept (op.ArgLen a x) h = and_both _ _ (has_kept type.Signed a (and_left _ _ h)) (takes_kept type.Signed x (and_right (typed.has_type type.Signed (slice_get types a)) _ h))
      operation_kept (op.Arg a x y) h =
          and_both _ _ (and_both _ _ (has_kept type.Signed a (and_left _ _ (and_left _ _ h))) (takes_kept type.Signed x (and_right (typed.has_type type.Signed (slice_get types a)) _ (and_left _ _ h))))
          (takes_kept type.Signed y (and_right (typed.has_type type.Signed (slice_get types a) && typed.takes p types type.Signed x) _ h))
      operation_kept (op.Put x) h = takes_kept type.Signed x h
      operation_kept (op.Raise a) h = refl

      pub operation_goes_on : (o : LlOp) → ck.ends_block (statement (order_of p) o) ≡ false
      operation_goes_on (op.Set a x) = refl
      operation_goes_on other = refl
