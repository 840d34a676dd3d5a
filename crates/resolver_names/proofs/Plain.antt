-- What an expression is by the operation at its head: integer literals, minus one, and `ovfcheck`.
use Rattle.std.proofs.Common.{◌≡◌, ℕ, ℤ, pos, Bool, true, false, List, [], ◌∷◌, map, Option, Some, None, refl, sym, ap, ◌∙◌}
use Rattle.std.specs.Prelude.{if◌then◌else◌, option_map, unwrap_or}
use Rattle.std.specs.Ordering.{int_eq}
use Rattle.rpy_tree.specs.declared.syntax.UnOp.{UnOp}
use Rattle.rpy_tree.specs.declared.syntax.UnOp.TheVariants as un
use Rattle.rpy_tree.specs.declared.syntax.BinOp.{BinOp}
use Rattle.rpy_tree.specs.declared.syntax.BinOp.TheVariants as bin
use Rattle.rpy_tree.specs.declared.syntax.Expr as syntax
use Rattle.rpy_tree.specs.declared.syntax.Expr.TheOpen.{Expr-F}
use Rattle.rpy_tree.specs.declared.syntax.Expr.TheFolds.{map-Expr}
use Rattle.rpy_tree.specs.declared.syntax.Expr.TheViews.{roll-out-Expr, out-Expr, roll-Expr}
use Rattle.rpy_tree.specs.declared.syntax.Target as aim
use Rattle.rpy_tree.specs.declared.program.Builtin.{Builtin}
use Rattle.rpy_tree.specs.declared.program.Builtin.TheVariants as builtin
use Rattle.rpy_tree.specs.declared.program.Use.{Use}
use Rattle.rpy_tree.specs.declared.program.Use.TheVariants as use_of
use Rattle.rpy_meaning.specs.declared.row.RowOp.{RowOp}
use Rattle.rpy_meaning.specs.declared.row.RowOp.TheVariants as row
use Rattle.rpy_meaning.specs.Tree.{Expr, Local, Constant, Apply, And, Or, Display, Comprehension, Exprs, none, more, Subject, Over, Target}
use Rattle.rpy_meaning.specs.Resolved.{Names, Said, Part, said, node_of, target_by, value_of, values_of, meaningless, literal_of, is_minus_one, checked_of, method_of, slice_of, builtin_op, applied, binary_of, made_at, named_value, attribute_value, class_named, is_instance_of, builtin_call, function_call, named_call, method_call, call_by, call_of, range_of, range_call, range_by, subject_of, expr_step, target_step, said_by, expr_by}
use Rattle.resolved_laws.specs.Uncopied.{is_checked, copy_of, bare}
use Rattle.resolver_names.specs.Forms.{literal_in, minus_in, is_one, checked_op, is_range_use, is_range, range_args, range_or}

-- neither a literal nor the negation of something
abbrev is_other : Expr → Bool
is_other (Apply (row.Word z) es) = false
is_other (Apply (row.Unary f) es) = false
is_other e = true

others : (o : RowOp) (es : Exprs) → is_other (Apply o es) ≡ true → literal_of (Apply o es) ≡ None
others (row.Word z) es h = absurd cc
others (row.Str text) es h = refl
others (row.Bool b) es h = refl
others row.None es h = refl
others (row.Constant a) es h = refl
others row.Copy es h = refl
others (row.Unary f) es h = absurd cc
others (row.Binary f site) es h = refl
others row.AddTo es h = refl
others row.CheckedNeg es h = refl
others (row.Checked f) es h = refl
others (row.Compare f) es h = refl
others row.Not es h = refl
others row.Truth es h = refl
others row.Intmask es h = refl
others row.Min es h = refl
others row.Max es h = refl
others row.Len es h = refl
others row.Ord es h = refl
others row.Chr es h = refl
others row.ToStr es h = refl
others row.ToInt es h = refl
others row.Write es h = refl
others (row.IsInstance d) es h = refl
others (row.Index literal) es h = refl
others row.StoreIndex es h = refl
others row.DeleteIndex es h = refl
others (row.Attr name) es h = refl
others (row.StoreAttr name) es h = refl
others (row.Slice site low high) es h = refl
others (row.AllButLast site) es h = refl
others row.Tuple es h = refl
others (row.List site) es h = refl
others (row.Dict site) es h = refl
others (row.Comprehension site) es h = refl
others row.AddItem es h = refl
others (row.Call f) es h = refl
others (row.CallOf d f) es h = refl
others row.CallValue es h = refl
others (row.New d) es h = refl
others (row.Method name site) es h = refl
others row.Raise es h = refl
others row.Print es h = refl
others (row.Walk site) es h = refl
others (row.HasItem step) es h = refl
others (row.Item step) es h = refl
others (row.Advance step) es h = refl
others row.Turn es h = refl
others (row.Unpack count place) es h = refl
others row.DropNone es h = refl
others row.OnlyNone es h = refl
others row.FalseNone es h = refl
others (row.Lower d) es h = refl
others row.NonNegative es h = refl

pub no_literal : (e : Expr) → is_other e ≡ true → literal_of e ≡ None
no_literal (Local i) h = refl
no_literal (Constant v) h = refl
no_literal (Apply o es) h = others o es h
no_literal (And a b) h = refl
no_literal (Or a b) h = refl
no_literal (Display site ps) h = refl
no_literal (Comprehension site item t s c) h = refl

no_minuses : (o : RowOp) (es : Exprs) → is_other (Apply o es) ≡ true → is_minus_one (Apply o es) ≡ false
no_minuses (row.Word z) es h = absurd cc
no_minuses (row.Str text) es h = refl
no_minuses (row.Bool b) es h = refl
no_minuses row.None es h = refl
no_minuses (row.Constant a) es h = refl
no_minuses row.Copy es h = refl
no_minuses (row.Unary f) es h = absurd cc
no_minuses (row.Binary f site) es h = refl
no_minuses row.AddTo es h = refl
no_minuses row.CheckedNeg es h = refl
no_minuses (row.Checked f) es h = refl
no_minuses (row.Compare f) es h = refl
no_minuses row.Not es h = refl
no_minuses row.Truth es h = refl
no_minuses row.Intmask es h = refl
no_minuses row.Min es h = refl
no_minuses row.Max es h = refl
no_minuses row.Len es h = refl
no_minuses row.Ord es h = refl
no_minuses row.Chr es h = refl
no_minuses row.ToStr es h = refl
no_minuses row.ToInt es h = refl
no_minuses row.Write es h = refl
no_minuses (row.IsInstance d) es h = refl
no_minuses (row.Index literal) es h = refl
no_minuses row.StoreIndex es h = refl
no_minuses row.DeleteIndex es h = refl
no_minuses (row.Attr name) es h = refl
no_minuses (row.StoreAttr name) es h = refl
no_minuses (row.Slice site low high) es h = refl
no_minuses (row.AllButLast site) es h = refl
no_minuses row.Tuple es h = refl
no_minuses (row.List site) es h = refl
no_minuses (row.Dict site) es h = refl
no_minuses (row.Comprehension site) es h = refl
no_minuses row.AddItem es h = refl
no_minuses (row.Call f) es h = refl
no_minuses (row.CallOf d f) es h = refl
no_minuses row.CallValue es h = refl
no_minuses (row.New d) es h = refl
no_minuses (row.Method name site) es h = refl
no_minuses row.Raise es h = refl
no_minuses row.Print es h = refl
no_minuses (row.Walk site) es h = refl
no_minuses (row.HasItem step) es h = refl
no_minuses (row.Item step) es h = refl
no_minuses (row.Advance step) es h = refl
no_minuses row.Turn es h = refl
no_minuses (row.Unpack count place) es h = refl
no_minuses row.DropNone es h = refl
no_minuses row.OnlyNone es h = refl
no_minuses row.FalseNone es h = refl
no_minuses (row.Lower d) es h = refl
no_minuses row.NonNegative es h = refl

no_minus : (e : Expr) → is_other e ≡ true → is_minus_one e ≡ false
no_minus (Local i) h = refl
no_minus (Constant v) h = refl
no_minus (Apply o es) h = no_minuses o es h
no_minus (And a b) h = refl
no_minus (Or a b) h = refl
no_minus (Display site ps) h = refl
no_minus (Comprehension site item t s c) h = refl

-- the negation of what is no literal is not minus one
not_of : (o : RowOp) (es : Exprs) → literal_of (Apply o es) ≡ None → is_minus_one (Apply (row.Unary un.Neg) (more (Apply o es) none)) ≡ false
not_of (row.Word z) es h = absurd cc
not_of (row.Str text) es h = refl
not_of (row.Bool b) es h = refl
not_of row.None es h = refl
not_of (row.Constant a) es h = refl
not_of row.Copy es h = refl
not_of (row.Unary f) es h = refl
not_of (row.Binary f site) es h = refl
not_of row.AddTo es h = refl
not_of row.CheckedNeg es h = refl
not_of (row.Checked f) es h = refl
not_of (row.Compare f) es h = refl
not_of row.Not es h = refl
not_of row.Truth es h = refl
not_of row.Intmask es h = refl
not_of row.Min es h = refl
not_of row.Max es h = refl
not_of row.Len es h = refl
not_of row.Ord es h = refl
not_of row.Chr es h = refl
not_of row.ToStr es h = refl
not_of row.ToInt es h = refl
not_of row.Write es h = refl
not_of (row.IsInstance d) es h = refl
not_of (row.Index literal) es h = refl
not_of row.StoreIndex es h = refl
not_of row.DeleteIndex es h = refl
not_of (row.Attr name) es h = refl
not_of (row.StoreAttr name) es h = refl
not_of (row.Slice site low high) es h = refl
not_of (row.AllButLast site) es h = refl
not_of row.Tuple es h = refl
not_of (row.List site) es h = refl
not_of (row.Dict site) es h = refl
not_of (row.Comprehension site) es h = refl
not_of row.AddItem es h = refl
not_of (row.Call f) es h = refl
not_of (row.CallOf d f) es h = refl
not_of row.CallValue es h = refl
not_of (row.New d) es h = refl
not_of (row.Method name site) es h = refl
not_of row.Raise es h = refl
not_of row.Print es h = refl
not_of (row.Walk site) es h = refl
not_of (row.HasItem step) es h = refl
not_of (row.Item step) es h = refl
not_of (row.Advance step) es h = refl
not_of row.Turn es h = refl
not_of (row.Unpack count place) es h = refl
not_of row.DropNone es h = refl
not_of row.OnlyNone es h = refl
not_of row.FalseNone es h = refl
not_of (row.Lower d) es h = refl
not_of row.NonNegative es h = refl

negated : (e : Expr) → literal_of e ≡ None → is_minus_one (Apply (row.Unary un.Neg) (more e none)) ≡ false
negated (Local i) h = refl
negated (Constant v) h = refl
negated (Apply o es) h = not_of o es h
negated (And a b) h = refl
negated (Or a b) h = refl
negated (Display site ps) h = refl
negated (Comprehension site item t s c) h = refl

-- ---- `ovfcheck`

checked_others : (o : RowOp) (es : Exprs) → is_other (checked_of (Apply o es)) ≡ true
checked_others (row.Word z) es = refl
checked_others (row.Str text) es = refl
checked_others (row.Bool b) es = refl
checked_others row.None es = refl
checked_others (row.Constant a) es = refl
checked_others row.Copy es = refl
checked_others (row.Unary un.Neg) es = refl
checked_others (row.Unary un.Pos) es = refl
checked_others (row.Unary un.Invert) es = refl
checked_others (row.Binary f site) es = refl
checked_others row.AddTo es = refl
checked_others row.CheckedNeg es = refl
checked_others (row.Checked f) es = refl
checked_others (row.Compare f) es = refl
checked_others row.Not es = refl
checked_others row.Truth es = refl
checked_others row.Intmask es = refl
checked_others row.Min es = refl
checked_others row.Max es = refl
checked_others row.Len es = refl
checked_others row.Ord es = refl
checked_others row.Chr es = refl
checked_others row.ToStr es = refl
checked_others row.ToInt es = refl
checked_others row.Write es = refl
checked_others (row.IsInstance d) es = refl
checked_others (row.Index literal) es = refl
checked_others row.StoreIndex es = refl
checked_others row.DeleteIndex es = refl
checked_others (row.Attr name) es = refl
checked_others (row.StoreAttr name) es = refl
checked_others (row.Slice site low high) es = refl
checked_others (row.AllButLast site) es = refl
checked_others row.Tuple es = refl
checked_others (row.List site) es = refl
checked_others (row.Dict site) es = refl
checked_others (row.Comprehension site) es = refl
checked_others row.AddItem es = refl
checked_others (row.Call f) es = refl
checked_others (row.CallOf d f) es = refl
checked_others row.CallValue es = refl
checked_others (row.New d) es = refl
checked_others (row.Method name site) es = refl
checked_others row.Raise es = refl
checked_others row.Print es = refl
checked_others (row.Walk site) es = refl
checked_others (row.HasItem step) es = refl
checked_others (row.Item step) es = refl
checked_others (row.Advance step) es = refl
checked_others row.Turn es = refl
checked_others (row.Unpack count place) es = refl
checked_others row.DropNone es = refl
checked_others row.OnlyNone es = refl
checked_others row.FalseNone es = refl
checked_others (row.Lower d) es = refl
checked_others row.NonNegative es = refl

checked_other : (e : Expr) → is_other (checked_of e) ≡ true
checked_other (Local i) = refl
checked_other (Constant v) = refl
checked_other (Apply o es) = checked_others o es
checked_other (And a b) = refl
checked_other (Or a b) = refl
checked_other (Display site ps) = refl
checked_other (Comprehension site item t s c) = refl

-- the copy of what is checked is checked no more
checked_copies : (o : RowOp) (es : Exprs) → checked_of (copy_of (more (Apply o es) none)) ≡ meaningless
checked_copies (row.Word z) es = refl
checked_copies (row.Str text) es = refl
checked_copies (row.Bool b) es = refl
checked_copies row.None es = refl
checked_copies (row.Constant a) es = refl
checked_copies row.Copy es = refl
checked_copies (row.Unary f) es = refl
checked_copies (row.Binary f site) es = refl
checked_copies row.AddTo es = refl
checked_copies row.CheckedNeg es = refl
checked_copies (row.Checked f) es = refl
checked_copies (row.Compare f) es = refl
checked_copies row.Not es = refl
checked_copies row.Truth es = refl
checked_copies row.Intmask es = refl
checked_copies row.Min es = refl
checked_copies row.Max es = refl
checked_copies row.Len es = refl
checked_copies row.Ord es = refl
checked_copies row.Chr es = refl
checked_copies row.ToStr es = refl
checked_copies row.ToInt es = refl
checked_copies row.Write es = refl
checked_copies (row.IsInstance d) es = refl
checked_copies (row.Index literal) es = refl
checked_copies row.StoreIndex es = refl
checked_copies row.DeleteIndex es = refl
checked_copies (row.Attr name) es = refl
checked_copies (row.StoreAttr name) es = refl
checked_copies (row.Slice site low high) es = refl
checked_copies (row.AllButLast site) es = refl
checked_copies row.Tuple es = refl
checked_copies (row.List site) es = refl
checked_copies (row.Dict site) es = refl
checked_copies (row.Comprehension site) es = refl
checked_copies row.AddItem es = refl
checked_copies (row.Call f) es = refl
checked_copies (row.CallOf d f) es = refl
checked_copies row.CallValue es = refl
checked_copies (row.New d) es = refl
checked_copies (row.Method name site) es = refl
checked_copies row.Raise es = refl
checked_copies row.Print es = refl
checked_copies (row.Walk site) es = refl
checked_copies (row.HasItem step) es = refl
checked_copies (row.Item step) es = refl
checked_copies (row.Advance step) es = refl
checked_copies row.Turn es = refl
checked_copies (row.Unpack count place) es = refl
checked_copies row.DropNone es = refl
checked_copies row.OnlyNone es = refl
checked_copies row.FalseNone es = refl
checked_copies (row.Lower d) es = refl
checked_copies row.NonNegative es = refl

checked_copy : (es : Exprs) → checked_of (copy_of es) ≡ meaningless
checked_copy none = refl
checked_copy (more (Local i) none) = refl
checked_copy (more (Constant v) none) = refl
checked_copy (more (Apply o es) none) = checked_copies o es
checked_copy (more (And a b) none) = refl
checked_copy (more (Or a b) none) = refl
checked_copy (more (Display site ps) none) = refl
checked_copy (more (Comprehension site item t s c) none) = refl
checked_copy (more e (more f es)) = refl

-- an operation without `ovfcheck`
pub unchecked : (o : RowOp) (es : Exprs) → checked_op o ≡ None → checked_of (bare o es) ≡ meaningless
unchecked (row.Word z) es h = refl
unchecked (row.Str text) es h = refl
unchecked (row.Bool b) es h = refl
unchecked row.None es h = refl
unchecked (row.Constant a) es h = refl
unchecked row.Copy es h = checked_copy es
unchecked (row.Unary un.Neg) es h = absurd cc
unchecked (row.Unary un.Pos) es h = refl
unchecked (row.Unary un.Invert) es h = refl
unchecked (row.Binary f site) es h = absurd cc
unchecked row.AddTo es h = refl
unchecked row.CheckedNeg es h = refl
unchecked (row.Checked f) es h = refl
unchecked (row.Compare f) es h = refl
unchecked row.Not es h = refl
unchecked row.Truth es h = refl
unchecked row.Intmask es h = refl
unchecked row.Min es h = refl
unchecked row.Max es h = refl
unchecked row.Len es h = refl
unchecked row.Ord es h = refl
unchecked row.Chr es h = refl
unchecked row.ToStr es h = refl
unchecked row.ToInt es h = refl
unchecked row.Write es h = refl
unchecked (row.IsInstance d) es h = refl
unchecked (row.Index literal) es h = refl
unchecked row.StoreIndex es h = refl
unchecked row.DeleteIndex es h = refl
unchecked (row.Attr name) es h = refl
unchecked (row.StoreAttr name) es h = refl
unchecked (row.Slice site low high) es h = refl
unchecked (row.AllButLast site) es h = refl
unchecked row.Tuple es h = refl
unchecked (row.List site) es h = refl
unchecked (row.Dict site) es h = refl
unchecked (row.Comprehension site) es h = refl
unchecked row.AddItem es h = refl
unchecked (row.Call f) es h = refl
unchecked (row.CallOf d f) es h = refl
unchecked row.CallValue es h = refl
unchecked (row.New d) es h = refl
unchecked (row.Method name site) es h = refl
unchecked row.Raise es h = refl
unchecked row.Print es h = refl
unchecked (row.Walk site) es h = refl
unchecked (row.HasItem step) es h = refl
unchecked (row.Item step) es h = refl
unchecked (row.Advance step) es h = refl
unchecked row.Turn es h = refl
unchecked (row.Unpack count place) es h = refl
unchecked row.DropNone es h = refl
unchecked row.OnlyNone es h = refl
unchecked row.FalseNone es h = refl
unchecked (row.Lower d) es h = refl
unchecked row.NonNegative es h = refl

some_is : {A : Type 0} {a b : A} → Some a ≡ Some b → a ≡ b
some_is {A} {a} {b} h = ap (value_or a) h
  where
    value_or : A → Option A → A
    value_or other None = other
    value_or other (Some x) = x

-- one with it is that operation, of which the copy is dropped
pub checking : (o new : RowOp) (es : Exprs) → checked_op o ≡ Some new → checked_of (bare o es) ≡ copy_of (more (bare new es) none)
checking (row.Word z) new es h = absurd cc
checking (row.Str text) new es h = absurd cc
checking (row.Bool b) new es h = absurd cc
checking row.None new es h = absurd cc
checking (row.Constant a) new es h = absurd cc
checking row.Copy new es h = absurd cc
checking (row.Unary un.Neg) new es h = ap (λ (n : RowOp). copy_of (more (bare n es) none)) (some_is h)
checking (row.Unary un.Pos) new es h = absurd cc
checking (row.Unary un.Invert) new es h = absurd cc
checking (row.Binary f site) new es h = ap (λ (n : RowOp). copy_of (more (bare n es) none)) (some_is h)
checking row.AddTo new es h = absurd cc
checking row.CheckedNeg new es h = absurd cc
checking (row.Checked f) new es h = absurd cc
checking (row.Compare f) new es h = absurd cc
checking row.Not new es h = absurd cc
checking row.Truth new es h = absurd cc
checking row.Intmask new es h = absurd cc
checking row.Min new es h = absurd cc
checking row.Max new es h = absurd cc
checking row.Len new es h = absurd cc
checking row.Ord new es h = absurd cc
checking row.Chr new es h = absurd cc
checking row.ToStr new es h = absurd cc
checking row.ToInt new es h = absurd cc
checking row.Write new es h = absurd cc
checking (row.IsInstance d) new es h = absurd cc
checking (row.Index literal) new es h = absurd cc
checking row.StoreIndex new es h = absurd cc
checking row.DeleteIndex new es h = absurd cc
checking (row.Attr name) new es h = absurd cc
checking (row.StoreAttr name) new es h = absurd cc
checking (row.Slice site low high) new es h = absurd cc
checking (row.AllButLast site) new es h = absurd cc
checking row.Tuple new es h = absurd cc
checking (row.List site) new es h = absurd cc
checking (row.Dict site) new es h = absurd cc
checking (row.Comprehension site) new es h = absurd cc
checking row.AddItem new es h = absurd cc
checking (row.Call f) new es h = absurd cc
checking (row.CallOf d f) new es h = absurd cc
checking row.CallValue new es h = absurd cc
checking (row.New d) new es h = absurd cc
checking (row.Method name site) new es h = absurd cc
checking row.Raise new es h = absurd cc
checking row.Print new es h = absurd cc
checking (row.Walk site) new es h = absurd cc
checking (row.HasItem step) new es h = absurd cc
checking (row.Item step) new es h = absurd cc
checking (row.Advance step) new es h = absurd cc
checking row.Turn new es h = absurd cc
checking (row.Unpack count place) new es h = absurd cc
checking row.DropNone new es h = absurd cc
checking row.OnlyNone new es h = absurd cc
checking row.FalseNone new es h = absurd cc
checking (row.Lower d) new es h = absurd cc
checking row.NonNegative new es h = absurd cc

-- ---- expressions

module _ (names : Names) where
  named_other : (u : Use) → is_other (named_value names u) ≡ true
  named_other use_of.Nothing = refl
  named_other (use_of.Local i) = refl
  named_other (use_of.Function f) = refl
  named_other (use_of.Class c) = refl
  named_other (use_of.Value v) = refl
  named_other (use_of.Module m) = refl
  named_other (use_of.Builtin b) = refl

  attribute_other : (u : Use) (e : Expr) (name : List ℕ) → is_other (attribute_value names u e name) ≡ true
  attribute_other use_of.Nothing e name = refl
  attribute_other (use_of.Local i) e name = refl
  attribute_other (use_of.Function f) e name = refl
  attribute_other (use_of.Class c) e name = refl
  attribute_other (use_of.Value v) e name = refl
  attribute_other (use_of.Module m) e name = refl
  attribute_other (use_of.Builtin b) e name = refl

  instance_other : (c : Option ℕ) (e : Expr) → is_other (is_instance_of names c e) ≡ true
  instance_other None e = refl
  instance_other (Some c) e = refl

  builtin_other : (b : Builtin) (args : List Part) → is_other (builtin_call names b args) ≡ true
  builtin_other builtin.IsInstance [] = refl
  builtin_other builtin.IsInstance (a ∷ []) = refl
  builtin_other builtin.IsInstance (a ∷ c ∷ []) = instance_other (class_named names (names.meant (node_of c.0))) (value_of a)
  builtin_other builtin.IsInstance (a ∷ c ∷ d ∷ args) = refl
  builtin_other builtin.Ovfcheck [] = refl
  builtin_other builtin.Ovfcheck (a ∷ []) = checked_other (value_of a)
  builtin_other builtin.Ovfcheck (a ∷ c ∷ args) = refl
  builtin_other builtin.Len args = refl
  builtin_other builtin.Ord args = refl
  builtin_other builtin.Chr args = refl
  builtin_other builtin.Str args = refl
  builtin_other builtin.Int args = refl
  builtin_other builtin.Bool args = refl
  builtin_other builtin.Min args = refl
  builtin_other builtin.Max args = refl
  builtin_other builtin.Intmask args = refl
  builtin_other builtin.OsWrite args = refl
  builtin_other builtin.Range args = refl
  builtin_other builtin.Xrange args = refl

  function_other : (c : Option ℕ) (f : ℕ) (es : Exprs) → is_other (function_call names c f es) ≡ true
  function_other None f es = refl
  function_other (Some c) f es = refl

  call_other : (u : Use) (class : Option ℕ) (callee : Expr) (args : List Part) → is_other (named_call names u class callee args) ≡ true
  call_other use_of.Nothing class callee args = refl
  call_other (use_of.Local i) class callee args = refl
  call_other (use_of.Function f) class callee args = function_other class f (values_of args)
  call_other (use_of.Class c) class callee args = refl
  call_other (use_of.Value v) class callee args = refl
  call_other (use_of.Module m) class callee args = refl
  call_other (use_of.Builtin b) class callee args = builtin_other b args

  of_method : (name : List ℕ) (site : Option ℕ) (e : Expr) (args : Exprs) → is_other (method_of (row.Method name site) e args) ≡ true
  of_method name site (Local i) args = refl
  of_method name site (Constant v) args = refl
  of_method name site (Apply o none) args = refl
  of_method name site (Apply o (more e none)) args = refl
  of_method name site (Apply o (more e (more f es))) args = refl
  of_method name site (And a b) args = refl
  of_method name site (Or a b) args = refl
  of_method name site (Display s ps) args = refl
  of_method name site (Comprehension s item t u c) args = refl

  if_other : (b : Bool) (x y : Expr) → is_other x ≡ true → is_other y ≡ true → is_other (if b then x else y) ≡ true
  if_other true x y h k = h
  if_other false x y h k = k

  method_other : (u : Use) (n : ℕ) (name : List ℕ) (before : syntax.Expr) (callee : Expr) (args : List Part) → is_other (method_call names u n name before callee args) ≡ true
  method_other use_of.Nothing n name before callee args =
      if_other (names.is_method name) (method_of (row.Method name (names.site n)) callee (values_of args)) (Apply row.CallValue (more callee (values_of args))) (of_method name (names.site n) callee (values_of args)) refl
  method_other (use_of.Local i) n name before callee args = call_other (use_of.Local i) (class_named names (names.meant (node_of before))) callee args
  method_other (use_of.Function f) n name before callee args = call_other (use_of.Function f) (class_named names (names.meant (node_of before))) callee args
  method_other (use_of.Class c) n name before callee args = call_other (use_of.Class c) (class_named names (names.meant (node_of before))) callee args
  method_other (use_of.Value v) n name before callee args = call_other (use_of.Value v) (class_named names (names.meant (node_of before))) callee args
  method_other (use_of.Module m) n name before callee args = call_other (use_of.Module m) (class_named names (names.meant (node_of before))) callee args
  method_other (use_of.Builtin b) n name before callee args = call_other (use_of.Builtin b) (class_named names (names.meant (node_of before))) callee args

  calls_other : (x : Expr-F syntax.Expr aim.Target) (n : ℕ) (callee : Expr) (args : List Part) → is_other (call_by names x n callee args) ≡ true
  calls_other (Expr-F.Int m z) n callee args = refl
  calls_other (Expr-F.Str m text) n callee args = refl
  calls_other (Expr-F.Expr::Name m name) n callee args = call_other (names.meant m) None callee args
  calls_other (Expr-F.Unary m op a) n callee args = refl
  calls_other (Expr-F.Binary m op a b) n callee args = refl
  calls_other (Expr-F.Compare m op a b) n callee args = refl
  calls_other (Expr-F.Logic m is_and a b) n callee args = refl
  calls_other (Expr-F.Not m a) n callee args = refl
  calls_other (Expr-F.Call m f xs) n callee args = refl
  calls_other (Expr-F.Expr::Attr m before name) n callee args = method_other (names.meant m) n name before callee args
  calls_other (Expr-F.Index m a i) n callee args = refl
  calls_other (Expr-F.Slice m a None None) n callee args = refl
  calls_other (Expr-F.Slice m a None (Some high)) n callee args = refl
  calls_other (Expr-F.Slice m a (Some low) None) n callee args = refl
  calls_other (Expr-F.Slice m a (Some low) (Some high)) n callee args = refl
  calls_other (Expr-F.Expr::Tuple m items) n callee args = refl
  calls_other (Expr-F.List m items) n callee args = refl
  calls_other (Expr-F.Dict m pairs) n callee args = refl
  calls_other (Expr-F.Comp m item target subject condition) n callee args = refl

  slice_other : (site : ℕ) (e : Expr) (low high : Option Expr) → is_other (slice_of site e low high) ≡ true
  slice_other site e None None = refl
  slice_other site e (Some low) None = refl
  slice_other site e None (Some high) =
      if_other (is_minus_one high) (Apply (row.AllButLast site) (more e none)) (Apply (row.Slice site false true) (more e (more high none))) refl refl
  slice_other site e (Some low) (Some high) = refl

  binary_other : (n : ℕ) (op : BinOp) (es : Exprs) → is_other (Apply (binary_of names n op) es) ≡ true
  binary_other n bin.Add es = refl
  binary_other n bin.Sub es = refl
  binary_other n bin.Mul es = refl
  binary_other n bin.Div es = refl
  binary_other n bin.FloorDiv es = refl
  binary_other n bin.Mod es = refl
  binary_other n bin.Shl es = refl
  binary_other n bin.Shr es = refl
  binary_other n bin.BitAnd es = refl
  binary_other n bin.BitOr es = refl
  binary_other n bin.BitXor es = refl

  pub binary_bare : (n : ℕ) (op : BinOp) (es : Exprs) → bare (binary_of names n op) es ≡ Apply (binary_of names n op) es
  binary_bare n bin.Add es = refl
  binary_bare n bin.Sub es = refl
  binary_bare n bin.Mul es = refl
  binary_bare n bin.Div es = refl
  binary_bare n bin.FloorDiv es = refl
  binary_bare n bin.Mod es = refl
  binary_bare n bin.Shl es = refl
  binary_bare n bin.Shr es = refl
  binary_bare n bin.BitAnd es = refl
  binary_bare n bin.BitOr es = refl
  binary_bare n bin.BitXor es = refl

  -- the parts of a layer
  abbrev parts : Expr-F syntax.Expr aim.Target → Expr-F Part (aim.Target × Target)
  parts = map-Expr syntax.Expr aim.Target Part (aim.Target × Target) (λ a. (a, said_by names a)) (λ t. (t, target_by names t))

  literal_layer : (x : Expr-F syntax.Expr aim.Target) → literal_of (expr_step names (parts x)).value ≡ literal_in x
  literal_layer (Expr-F.Int m z) = refl
  literal_layer (Expr-F.Str m text) = refl
  literal_layer (Expr-F.Expr::Name m name) = no_literal (named_value names (names.meant m)) (named_other (names.meant m))
  literal_layer (Expr-F.Unary m op a) = refl
  literal_layer (Expr-F.Binary m op a b) = no_literal (Apply (binary_of names m op) (more (expr_by names a) (more (expr_by names b) none))) (binary_other m op (more (expr_by names a) (more (expr_by names b) none)))
  literal_layer (Expr-F.Compare m op a b) = refl
  literal_layer (Expr-F.Logic m is_and a b) = no_literal (if is_and then And (expr_by names a) (expr_by names b) else Or (expr_by names a) (expr_by names b)) (if_other is_and (And (expr_by names a) (expr_by names b)) (Or (expr_by names a) (expr_by names b)) refl refl)
  literal_layer (Expr-F.Not m a) = refl
  literal_layer (Expr-F.Call m f xs) = no_literal (call_by names (syntax.out-Expr f) m (expr_by names f) (map (λ a. (a, said_by names a)) xs)) (calls_other (syntax.out-Expr f) m (expr_by names f) (map (λ a. (a, said_by names a)) xs))
  literal_layer (Expr-F.Expr::Attr m before name) = no_literal (attribute_value names (names.meant m) (expr_by names before) name) (attribute_other (names.meant m) (expr_by names before) name)
  literal_layer (Expr-F.Index m a i) = refl
  literal_layer (Expr-F.Slice m a None None) = no_literal (slice_of (made_at names m) (expr_by names a) None None) (slice_other (made_at names m) (expr_by names a) None None)
  literal_layer (Expr-F.Slice m a None (Some high)) = no_literal (slice_of (made_at names m) (expr_by names a) None (Some (expr_by names high))) (slice_other (made_at names m) (expr_by names a) None (Some (expr_by names high)))
  literal_layer (Expr-F.Slice m a (Some low) None) = no_literal (slice_of (made_at names m) (expr_by names a) (Some (expr_by names low)) None) (slice_other (made_at names m) (expr_by names a) (Some (expr_by names low)) None)
  literal_layer (Expr-F.Slice m a (Some low) (Some high)) = no_literal (slice_of (made_at names m) (expr_by names a) (Some (expr_by names low)) (Some (expr_by names high))) (slice_other (made_at names m) (expr_by names a) (Some (expr_by names low)) (Some (expr_by names high)))
  literal_layer (Expr-F.Expr::Tuple m items) = refl
  literal_layer (Expr-F.List m items) = refl
  literal_layer (Expr-F.Dict m pairs) = refl
  literal_layer (Expr-F.Comp m item target subject condition) = refl

  -- an expression is what its layer is
  said_is : (e : syntax.Expr) → said_by names e ≡ expr_step names (parts (out-Expr e))
  said_is e = ap (said_by names) (sym (roll-out-Expr e)) ∙ syntax.para-roll-Expr Said Target (expr_step names) (target_step names) (out-Expr e)

  pub literal_same : (e : syntax.Expr) → literal_in (out-Expr e) ≡ literal_of (expr_by names e)
  literal_same e = sym (ap (λ (s : Said). literal_of s.value) (said_is e) ∙ literal_layer (out-Expr e))

  negated_layer : (x : Expr-F syntax.Expr aim.Target) → is_minus_one (Apply (row.Unary un.Neg) (more (expr_step names (parts x)).value none)) ≡ is_one (literal_in x)
  negated_layer (Expr-F.Int m z) = refl
  negated_layer (Expr-F.Str m text) = negated (expr_step names (parts (Expr-F.Str m text))).value (literal_layer (Expr-F.Str m text))
  negated_layer (Expr-F.Expr::Name m name) = negated (expr_step names (parts (Expr-F.Expr::Name m name))).value (literal_layer (Expr-F.Expr::Name m name))
  negated_layer (Expr-F.Unary m op a) = negated (expr_step names (parts (Expr-F.Unary m op a))).value (literal_layer (Expr-F.Unary m op a))
  negated_layer (Expr-F.Binary m op a b) = negated (expr_step names (parts (Expr-F.Binary m op a b))).value (literal_layer (Expr-F.Binary m op a b))
  negated_layer (Expr-F.Compare m op a b) = negated (expr_step names (parts (Expr-F.Compare m op a b))).value (literal_layer (Expr-F.Compare m op a b))
  negated_layer (Expr-F.Logic m is_and a b) = negated (expr_step names (parts (Expr-F.Logic m is_and a b))).value (literal_layer (Expr-F.Logic m is_and a b))
  negated_layer (Expr-F.Not m a) = negated (expr_step names (parts (Expr-F.Not m a))).value (literal_layer (Expr-F.Not m a))
  negated_layer (Expr-F.Call m f xs) = negated (expr_step names (parts (Expr-F.Call m f xs))).value (literal_layer (Expr-F.Call m f xs))
  negated_layer (Expr-F.Expr::Attr m before name) = negated (expr_step names (parts (Expr-F.Expr::Attr m before name))).value (literal_layer (Expr-F.Expr::Attr m before name))
  negated_layer (Expr-F.Index m a i) = negated (expr_step names (parts (Expr-F.Index m a i))).value (literal_layer (Expr-F.Index m a i))
  negated_layer (Expr-F.Slice m a None None) = negated (expr_step names (parts (Expr-F.Slice m a None None))).value (literal_layer (Expr-F.Slice m a None None))
  negated_layer (Expr-F.Slice m a None (Some high)) = negated (expr_step names (parts (Expr-F.Slice m a None (Some high)))).value (literal_layer (Expr-F.Slice m a None (Some high)))
  negated_layer (Expr-F.Slice m a (Some low) None) = negated (expr_step names (parts (Expr-F.Slice m a (Some low) None))).value (literal_layer (Expr-F.Slice m a (Some low) None))
  negated_layer (Expr-F.Slice m a (Some low) (Some high)) = negated (expr_step names (parts (Expr-F.Slice m a (Some low) (Some high)))).value (literal_layer (Expr-F.Slice m a (Some low) (Some high)))
  negated_layer (Expr-F.Expr::Tuple m items) = negated (expr_step names (parts (Expr-F.Expr::Tuple m items))).value (literal_layer (Expr-F.Expr::Tuple m items))
  negated_layer (Expr-F.List m items) = negated (expr_step names (parts (Expr-F.List m items))).value (literal_layer (Expr-F.List m items))
  negated_layer (Expr-F.Dict m pairs) = negated (expr_step names (parts (Expr-F.Dict m pairs))).value (literal_layer (Expr-F.Dict m pairs))
  negated_layer (Expr-F.Comp m item target subject condition) = negated (expr_step names (parts (Expr-F.Comp m item target subject condition))).value (literal_layer (Expr-F.Comp m item target subject condition))

  minus_unary : (op : UnOp) (m : ℕ) (a : syntax.Expr) → is_minus_one (Apply (row.Unary op) (more (expr_by names a) none)) ≡ minus_in (Expr-F.Unary m op a)
  minus_unary un.Neg m a = ap (λ (s : Said). is_minus_one (Apply (row.Unary un.Neg) (more s.value none))) (said_is a) ∙ negated_layer (out-Expr a)
  minus_unary un.Pos m a = refl
  minus_unary un.Invert m a = refl

  minus_layer : (x : Expr-F syntax.Expr aim.Target) → is_minus_one (expr_step names (parts x)).value ≡ minus_in x
  minus_layer (Expr-F.Int m z) = refl
  minus_layer (Expr-F.Str m text) = refl
  minus_layer (Expr-F.Expr::Name m name) = no_minus (named_value names (names.meant m)) (named_other (names.meant m))
  minus_layer (Expr-F.Unary m op a) = minus_unary op m a
  minus_layer (Expr-F.Binary m op a b) = no_minus (Apply (binary_of names m op) (more (expr_by names a) (more (expr_by names b) none))) (binary_other m op (more (expr_by names a) (more (expr_by names b) none)))
  minus_layer (Expr-F.Compare m op a b) = refl
  minus_layer (Expr-F.Logic m is_and a b) = no_minus (if is_and then And (expr_by names a) (expr_by names b) else Or (expr_by names a) (expr_by names b)) (if_other is_and (And (expr_by names a) (expr_by names b)) (Or (expr_by names a) (expr_by names b)) refl refl)
  minus_layer (Expr-F.Not m a) = refl
  minus_layer (Expr-F.Call m f xs) = no_minus (call_by names (syntax.out-Expr f) m (expr_by names f) (map (λ a. (a, said_by names a)) xs)) (calls_other (syntax.out-Expr f) m (expr_by names f) (map (λ a. (a, said_by names a)) xs))
  minus_layer (Expr-F.Expr::Attr m before name) = no_minus (attribute_value names (names.meant m) (expr_by names before) name) (attribute_other (names.meant m) (expr_by names before) name)
  minus_layer (Expr-F.Index m a i) = refl
  minus_layer (Expr-F.Slice m a None None) = no_minus (slice_of (made_at names m) (expr_by names a) None None) (slice_other (made_at names m) (expr_by names a) None None)
  minus_layer (Expr-F.Slice m a None (Some high)) = no_minus (slice_of (made_at names m) (expr_by names a) None (Some (expr_by names high))) (slice_other (made_at names m) (expr_by names a) None (Some (expr_by names high)))
  minus_layer (Expr-F.Slice m a (Some low) None) = no_minus (slice_of (made_at names m) (expr_by names a) (Some (expr_by names low)) None) (slice_other (made_at names m) (expr_by names a) (Some (expr_by names low)) None)
  minus_layer (Expr-F.Slice m a (Some low) (Some high)) = no_minus (slice_of (made_at names m) (expr_by names a) (Some (expr_by names low)) (Some (expr_by names high))) (slice_other (made_at names m) (expr_by names a) (Some (expr_by names low)) (Some (expr_by names high)))
  minus_layer (Expr-F.Expr::Tuple m items) = refl
  minus_layer (Expr-F.List m items) = refl
  minus_layer (Expr-F.Dict m pairs) = refl
  minus_layer (Expr-F.Comp m item target subject condition) = refl

  pub minus_same : (e : syntax.Expr) → minus_in (out-Expr e) ≡ is_minus_one (expr_by names e)
  minus_same e = sym (ap (λ (s : Said). is_minus_one s.value) (said_is e) ∙ minus_layer (out-Expr e))

  -- ---- what is walked

  abbrev part : syntax.Expr → Part
  part a = (a, said_by names a)

  range_there : (u : Use) (args : List Part) → is_range_use u ≡ true → range_call names u args ≡ range_of names args
  range_there use_of.Nothing args h = absurd cc
  range_there (use_of.Local i) args h = absurd cc
  range_there (use_of.Function f) args h = absurd cc
  range_there (use_of.Class c) args h = absurd cc
  range_there (use_of.Value v) args h = absurd cc
  range_there (use_of.Module m) args h = absurd cc
  range_there (use_of.Builtin builtin.Len) args h = absurd cc
  range_there (use_of.Builtin builtin.Ord) args h = absurd cc
  range_there (use_of.Builtin builtin.Chr) args h = absurd cc
  range_there (use_of.Builtin builtin.Str) args h = absurd cc
  range_there (use_of.Builtin builtin.Int) args h = absurd cc
  range_there (use_of.Builtin builtin.Bool) args h = absurd cc
  range_there (use_of.Builtin builtin.Min) args h = absurd cc
  range_there (use_of.Builtin builtin.Max) args h = absurd cc
  range_there (use_of.Builtin builtin.IsInstance) args h = absurd cc
  range_there (use_of.Builtin builtin.Ovfcheck) args h = absurd cc
  range_there (use_of.Builtin builtin.Intmask) args h = absurd cc
  range_there (use_of.Builtin builtin.OsWrite) args h = absurd cc
  range_there (use_of.Builtin builtin.Range) args h = refl
  range_there (use_of.Builtin builtin.Xrange) args h = refl

  range_not : (u : Use) (args : List Part) → is_range_use u ≡ false → range_call names u args ≡ None
  range_not use_of.Nothing args h = refl
  range_not (use_of.Local i) args h = refl
  range_not (use_of.Function f) args h = refl
  range_not (use_of.Class c) args h = refl
  range_not (use_of.Value v) args h = refl
  range_not (use_of.Module m) args h = refl
  range_not (use_of.Builtin builtin.Len) args h = refl
  range_not (use_of.Builtin builtin.Ord) args h = refl
  range_not (use_of.Builtin builtin.Chr) args h = refl
  range_not (use_of.Builtin builtin.Str) args h = refl
  range_not (use_of.Builtin builtin.Int) args h = refl
  range_not (use_of.Builtin builtin.Bool) args h = refl
  range_not (use_of.Builtin builtin.Min) args h = refl
  range_not (use_of.Builtin builtin.Max) args h = refl
  range_not (use_of.Builtin builtin.IsInstance) args h = refl
  range_not (use_of.Builtin builtin.Ovfcheck) args h = refl
  range_not (use_of.Builtin builtin.Intmask) args h = refl
  range_not (use_of.Builtin builtin.OsWrite) args h = refl
  range_not (use_of.Builtin builtin.Range) args h = absurd cc
  range_not (use_of.Builtin builtin.Xrange) args h = absurd cc

  range_value : (u : Use) (class : Option ℕ) (callee : Expr) (args : List Part) → is_range_use u ≡ true → named_call names u class callee args ≡ meaningless
  range_value use_of.Nothing class callee args h = absurd cc
  range_value (use_of.Local i) class callee args h = absurd cc
  range_value (use_of.Function f) class callee args h = absurd cc
  range_value (use_of.Class c) class callee args h = absurd cc
  range_value (use_of.Value v) class callee args h = absurd cc
  range_value (use_of.Module m) class callee args h = absurd cc
  range_value (use_of.Builtin builtin.Len) class callee args h = absurd cc
  range_value (use_of.Builtin builtin.Ord) class callee args h = absurd cc
  range_value (use_of.Builtin builtin.Chr) class callee args h = absurd cc
  range_value (use_of.Builtin builtin.Str) class callee args h = absurd cc
  range_value (use_of.Builtin builtin.Int) class callee args h = absurd cc
  range_value (use_of.Builtin builtin.Bool) class callee args h = absurd cc
  range_value (use_of.Builtin builtin.Min) class callee args h = absurd cc
  range_value (use_of.Builtin builtin.Max) class callee args h = absurd cc
  range_value (use_of.Builtin builtin.IsInstance) class callee args h = absurd cc
  range_value (use_of.Builtin builtin.Ovfcheck) class callee args h = absurd cc
  range_value (use_of.Builtin builtin.Intmask) class callee args h = absurd cc
  range_value (use_of.Builtin builtin.OsWrite) class callee args h = absurd cc
  range_value (use_of.Builtin builtin.Range) class callee args h = refl
  range_value (use_of.Builtin builtin.Xrange) class callee args h = refl

  ranges : (x : Expr-F syntax.Expr aim.Target) (args : List Part) → is_range names x ≡ true → range_by names x args ≡ range_of names args
  ranges (Expr-F.Int m z) args h = absurd cc
  ranges (Expr-F.Str m text) args h = absurd cc
  ranges (Expr-F.Expr::Name m name) args h = range_there (names.meant m) args h
  ranges (Expr-F.Unary m op a) args h = absurd cc
  ranges (Expr-F.Binary m op a b) args h = absurd cc
  ranges (Expr-F.Compare m op a b) args h = absurd cc
  ranges (Expr-F.Logic m is_and a b) args h = absurd cc
  ranges (Expr-F.Not m a) args h = absurd cc
  ranges (Expr-F.Call m f xs) args h = absurd cc
  ranges (Expr-F.Expr::Attr m before name) args h = absurd cc
  ranges (Expr-F.Index m a i) args h = absurd cc
  ranges (Expr-F.Slice m a None None) args h = absurd cc
  ranges (Expr-F.Slice m a None (Some high)) args h = absurd cc
  ranges (Expr-F.Slice m a (Some low) None) args h = absurd cc
  ranges (Expr-F.Slice m a (Some low) (Some high)) args h = absurd cc
  ranges (Expr-F.Expr::Tuple m items) args h = absurd cc
  ranges (Expr-F.List m items) args h = absurd cc
  ranges (Expr-F.Dict m pairs) args h = absurd cc
  ranges (Expr-F.Comp m item target subject condition) args h = absurd cc

  no_ranges : (x : Expr-F syntax.Expr aim.Target) (args : List Part) → is_range names x ≡ false → range_by names x args ≡ None
  no_ranges (Expr-F.Int m z) args h = refl
  no_ranges (Expr-F.Str m text) args h = refl
  no_ranges (Expr-F.Expr::Name m name) args h = range_not (names.meant m) args h
  no_ranges (Expr-F.Unary m op a) args h = refl
  no_ranges (Expr-F.Binary m op a b) args h = refl
  no_ranges (Expr-F.Compare m op a b) args h = refl
  no_ranges (Expr-F.Logic m is_and a b) args h = refl
  no_ranges (Expr-F.Not m a) args h = refl
  no_ranges (Expr-F.Call m f xs) args h = refl
  no_ranges (Expr-F.Expr::Attr m before name) args h = refl
  no_ranges (Expr-F.Index m a i) args h = refl
  no_ranges (Expr-F.Slice m a None None) args h = refl
  no_ranges (Expr-F.Slice m a None (Some high)) args h = refl
  no_ranges (Expr-F.Slice m a (Some low) None) args h = refl
  no_ranges (Expr-F.Slice m a (Some low) (Some high)) args h = refl
  no_ranges (Expr-F.Expr::Tuple m items) args h = refl
  no_ranges (Expr-F.List m items) args h = refl
  no_ranges (Expr-F.Dict m pairs) args h = refl
  no_ranges (Expr-F.Comp m item target subject condition) args h = refl

  range_values : (x : Expr-F syntax.Expr aim.Target) (n : ℕ) (callee : Expr) (args : List Part) → is_range names x ≡ true → call_by names x n callee args ≡ meaningless
  range_values (Expr-F.Int m z) n callee args h = absurd cc
  range_values (Expr-F.Str m text) n callee args h = absurd cc
  range_values (Expr-F.Expr::Name m name) n callee args h = range_value (names.meant m) None callee args h
  range_values (Expr-F.Unary m op a) n callee args h = absurd cc
  range_values (Expr-F.Binary m op a b) n callee args h = absurd cc
  range_values (Expr-F.Compare m op a b) n callee args h = absurd cc
  range_values (Expr-F.Logic m is_and a b) n callee args h = absurd cc
  range_values (Expr-F.Not m a) n callee args h = absurd cc
  range_values (Expr-F.Call m f xs) n callee args h = absurd cc
  range_values (Expr-F.Expr::Attr m before name) n callee args h = absurd cc
  range_values (Expr-F.Index m a i) n callee args h = absurd cc
  range_values (Expr-F.Slice m a None None) n callee args h = absurd cc
  range_values (Expr-F.Slice m a None (Some high)) n callee args h = absurd cc
  range_values (Expr-F.Slice m a (Some low) None) n callee args h = absurd cc
  range_values (Expr-F.Slice m a (Some low) (Some high)) n callee args h = absurd cc
  range_values (Expr-F.Expr::Tuple m items) n callee args h = absurd cc
  range_values (Expr-F.List m items) n callee args h = absurd cc
  range_values (Expr-F.Dict m pairs) n callee args h = absurd cc
  range_values (Expr-F.Comp m item target subject condition) n callee args h = absurd cc

  called : (b : Bool) (f : syntax.Expr) (n : ℕ) (xs : List syntax.Expr) → is_range names (out-Expr f) ≡ b → (site : ℕ) (args : List syntax.Expr) → (if b then Some xs else None) ≡ Some args
      → subject_of site (call_of names n (part f) (map part xs)) ≡ range_or site (range_of names (map part args))
  called true f n xs e site args h =
      ap (λ (r : Option Subject). unwrap_or r (Over site (call_by names (out-Expr f) n (expr_by names f) (map part xs)))) (ranges (out-Expr f) (map part xs) e)
      ∙ ap (λ (v : Expr). unwrap_or (range_of names (map part xs)) (Over site v)) (range_values (out-Expr f) n (expr_by names f) (map part xs) e)
      ∙ ap (λ (us : List syntax.Expr). range_or site (range_of names (map part us))) (some_is h)
  called false f n xs e site args h = absurd cc

  uncalled : (b : Bool) (f : syntax.Expr) (n : ℕ) (xs : List syntax.Expr) → is_range names (out-Expr f) ≡ b → (site : ℕ) → (if b then Some xs else None) ≡ None
      → subject_of site (call_of names n (part f) (map part xs)) ≡ Over site (call_of names n (part f) (map part xs)).value
  uncalled true f n xs e site h = absurd cc
  uncalled false f n xs e site h =
      ap (λ (r : Option Subject). unwrap_or r (Over site (call_by names (out-Expr f) n (expr_by names f) (map part xs)))) (no_ranges (out-Expr f) (map part xs) e)

  ranged_layer : (x : Expr-F syntax.Expr aim.Target) (site : ℕ) (args : List syntax.Expr) → range_args names x ≡ Some args → subject_of site (expr_step names (parts x)) ≡ range_or site (range_of names (map part args))
  ranged_layer (Expr-F.Int m z) site args h = absurd cc
  ranged_layer (Expr-F.Str m text) site args h = absurd cc
  ranged_layer (Expr-F.Expr::Name m name) site args h = absurd cc
  ranged_layer (Expr-F.Unary m op a) site args h = absurd cc
  ranged_layer (Expr-F.Binary m op a b) site args h = absurd cc
  ranged_layer (Expr-F.Compare m op a b) site args h = absurd cc
  ranged_layer (Expr-F.Logic m is_and a b) site args h = absurd cc
  ranged_layer (Expr-F.Not m a) site args h = absurd cc
  ranged_layer (Expr-F.Call m f xs) site args h = called (is_range names (out-Expr f)) f m xs refl site args h
  ranged_layer (Expr-F.Expr::Attr m before name) site args h = absurd cc
  ranged_layer (Expr-F.Index m a i) site args h = absurd cc
  ranged_layer (Expr-F.Slice m a None None) site args h = absurd cc
  ranged_layer (Expr-F.Slice m a None (Some high)) site args h = absurd cc
  ranged_layer (Expr-F.Slice m a (Some low) None) site args h = absurd cc
  ranged_layer (Expr-F.Slice m a (Some low) (Some high)) site args h = absurd cc
  ranged_layer (Expr-F.Expr::Tuple m items) site args h = absurd cc
  ranged_layer (Expr-F.List m items) site args h = absurd cc
  ranged_layer (Expr-F.Dict m pairs) site args h = absurd cc
  ranged_layer (Expr-F.Comp m item target subject condition) site args h = absurd cc

  unranged_layer : (x : Expr-F syntax.Expr aim.Target) (site : ℕ) → range_args names x ≡ None → subject_of site (expr_step names (parts x)) ≡ Over site (expr_step names (parts x)).value
  unranged_layer (Expr-F.Int m z) site h = refl
  unranged_layer (Expr-F.Str m text) site h = refl
  unranged_layer (Expr-F.Expr::Name m name) site h = refl
  unranged_layer (Expr-F.Unary m op a) site h = refl
  unranged_layer (Expr-F.Binary m op a b) site h = refl
  unranged_layer (Expr-F.Compare m op a b) site h = refl
  unranged_layer (Expr-F.Logic m is_and a b) site h = refl
  unranged_layer (Expr-F.Not m a) site h = refl
  unranged_layer (Expr-F.Call m f xs) site h = uncalled (is_range names (out-Expr f)) f m xs refl site h
  unranged_layer (Expr-F.Expr::Attr m before name) site h = refl
  unranged_layer (Expr-F.Index m a i) site h = refl
  unranged_layer (Expr-F.Slice m a None None) site h = refl
  unranged_layer (Expr-F.Slice m a None (Some high)) site h = refl
  unranged_layer (Expr-F.Slice m a (Some low) None) site h = refl
  unranged_layer (Expr-F.Slice m a (Some low) (Some high)) site h = refl
  unranged_layer (Expr-F.Expr::Tuple m items) site h = refl
  unranged_layer (Expr-F.List m items) site h = refl
  unranged_layer (Expr-F.Dict m pairs) site h = refl
  unranged_layer (Expr-F.Comp m item target subject condition) site h = refl

  pub ranged : (e : syntax.Expr) (site : ℕ) (args : List syntax.Expr) → range_args names (out-Expr e) ≡ Some args → range_or site (range_of names (map part args)) ≡ subject_of site (said_by names e)
  ranged e site args h = sym (ap (subject_of site) (said_is e) ∙ ranged_layer (out-Expr e) site args h)

  pub unranged : (e : syntax.Expr) (site : ℕ) → range_args names (out-Expr e) ≡ None → Over site (expr_by names e) ≡ subject_of site (said_by names e)
  unranged e site h =
      sym (ap (subject_of site) (said_is e) ∙ unranged_layer (out-Expr e) site h ∙ ap (λ (s : Said). Over site s.value) (sym (said_is e)))
