-- What the code's narrowings tell.
use Rattle.std.proofs.Common.{◌≡◌, ℕ, ℤ, ◌<◌, ◌≤◌, length, arith, Bool, true, false, List, [], ◌∷◌, Some, None, map, refl, sym, ap, ◌∙◌}
use Rattle.rpy_tree.specs.Value.{Value}
use Rattle.rpy_tree.specs.declared.program.Const as Const
use Rattle.rpy_tree.specs.declared.program.Const.{Const as Literal}
use Rattle.rpy_tree.specs.declared.program.Const.TheVariants as const
use Rattle.rpy_tree.specs.declared.program.Const.TheViews as views
use Rattle.rpy_tree.specs.declared.program.Const.TheOpen.{Const-F}
use Rattle.rpy_tree.specs.declared.program.Site.{Site}
use Rattle.rpy_meaning.specs.Operations.{constant_step}
use Rattle.rpy_resolved.specs.declared.tree.Expr.{Expr as Code}
use Rattle.rpy_tree.specs.declared.syntax.CmpOp.{CmpOp}
use Rattle.resolved_meaning.specs.Programs.{empty_at, value_in}
use Rattle.rpy_meaning.specs.declared.row.RowOp.{RowOp}
use Rattle.rpy_meaning.specs.declared.row.RowOp.TheVariants as row
use Rattle.rpy_meaning.specs.Tree.{Program}
use Rattle.flow_graph.specs.declared.graph.Graphs.{Graphs}
use Rattle.flow_trees.specs.Marks.{IsBefore, operands}
use Rattle.flow_trees.specs.Tells.{of_none, of_class, at_least, of_operation, is_none}
use Rattle.flow_trees.specs.Tree.{Expr, Local, Constant, Apply, Exprs}
use Rattle.flow_space.specs.declared.narrow.Kind.{Kind}
use Rattle.flow_space.specs.declared.narrow.Kind.TheVariants as kind
use Rattle.flow_space.specs.Trees.{exprs_of}
use Rattle.flow_space.specs.Placed.{AreArgs, beside_of, telling_of, local_in}

pub args_are : (k : Kind) (i : ℕ) (args : List ℕ) (m value : ℕ) → AreArgs k args i m value → args ≡ operands (telling_of (record { kind = k; local = i })) m
args_are kind.DropNone i args m value h = h
args_are kind.OnlyNone i args m value h = h
args_are kind.FalseNone i args m value h = h
args_are (kind.Lower c) i args m value h = h
args_are (kind.NonNegative s) i args m value h = h.0

pub is_before : (p : Program) (gs : Graphs) (f n : ℕ) (k : Kind) (i : ℕ) (args : List ℕ) (m value : ℕ) → AreArgs k args i m value → IsBefore p gs f n (beside_of k) m value
is_before p gs f n kind.DropNone i args m value h = tt
is_before p gs f n kind.OnlyNone i args m value h = tt
is_before p gs f n kind.FalseNone i args m value h = tt
is_before p gs f n (kind.Lower c) i args m value h = tt
is_before p gs f n (kind.NonNegative s) i args m value h = h.1

-- ---- a local, or none

pub class_some : (c i : ℕ) (e : Expr) (way : Bool) → Some i ≡ local_in e → of_class c e way ≡ of_class c (Local 0 i) way
class_some c i (Local node j) true h = let z : i ≡ j = cc in ap (λ k. of_class c (Local 0 k) true) (sym z)
class_some c i (Local node j) false h = refl
class_some c i e way h = absurd (cc h)

pub class_none : (c : ℕ) (e : Expr) (way : Bool) → None ≡ local_in e → of_class c e way ≡ None
class_none c (Local node j) way h = absurd (cc h)
class_none c e way h = refl

pub none_some : (i : ℕ) (e : Expr) (named way : Bool) → Some i ≡ local_in e → of_none e named way ≡ of_none (Local 0 i) named way
none_some i (Local node j) true true h = let z : i ≡ j = cc in ap (λ k. of_none (Local 0 k) true true) (sym z)
none_some i (Local node j) true false h = let z : i ≡ j = cc in ap (λ k. of_none (Local 0 k) true false) (sym z)
none_some i (Local node j) false way h = refl
none_some i e named way h = absurd (cc h)

pub none_none : (e : Expr) (named way : Bool) → None ≡ local_in e → of_none e named way ≡ None
none_none (Local node j) named way h = absurd (cc h)
none_none e named way h = refl

pub least_some : (i : ℕ) (e other : Expr) (place : ℕ) → Some i ≡ local_in e → at_least e other place ≡ at_least (Local 0 i) other place
least_some i (Local node j) other place h = let z : i ≡ j = cc in ap (λ k. at_least (Local 0 k) other place) (sym z)
least_some i e other place h = absurd (cc h)

pub least_none : (e other : Expr) (place : ℕ) → None ≡ local_in e → at_least e other place ≡ None
least_none (Local node j) other place h = absurd (cc h)
least_none e other place h = refl

-- an operation that is not the literal `None`
pub other_none : (o : RowOp) (node : ℕ) (value : Bool) (es : Exprs) → (o ≡ row.None → ⊥) → is_none (Apply node value o es) ≡ false
other_none row.None node value es h = absurd (h refl)
other_none o node value es h = refl

-- ---- other numbers of operands

module _ (sites : List Site) where
  pub beyond_one : (c : ℕ) (es : List Code) (way : Bool) → 2 ≤ length es → of_operation (row.IsInstance c) (exprs_of sites es) way ≡ None
  beyond_one c [] way le = absurd (omega arith)
  beyond_one c (x ∷ []) way le = absurd (omega arith)
  beyond_one c (x ∷ y ∷ es) way le = refl

  pub below_two : (o : CmpOp) (es : List Code) (way : Bool) → length es < 2 → of_operation (row.Compare o) (exprs_of sites es) way ≡ None
  below_two o [] way lt = refl
  below_two o (x ∷ []) way lt = refl
  below_two o (x ∷ y ∷ es) way lt = absurd (omega arith)

  pub beyond_two : (o : CmpOp) (es : List Code) (way : Bool) → 3 ≤ length es → of_operation (row.Compare o) (exprs_of sites es) way ≡ None
  beyond_two o [] way le = absurd (omega arith)
  beyond_two o (x ∷ []) way le = absurd (omega arith)
  beyond_two o (x ∷ y ∷ []) way le = absurd (omega arith)
  beyond_two o (x ∷ y ∷ z ∷ es) way le = refl

-- ---- constants

module _ (sites : List Site) (node : ℕ) (whole : Literal) where
  abbrev Names : Literal → Bool
  Names a = is_none (Constant node whole (value_in sites a))

  pub names_none : Names const.None ≡ true
  names_none = ap Names (sym views.rolls-None) ∙ ap (λ v. is_none (Constant node whole v)) (Const.fold-roll-Const Value (constant_step (map empty_at sites)) Const-F.None)

  pub names_word : (z : ℤ) → Names (const.Word z) ≡ false
  names_word z = ap Names (sym (views.rolls-Word z)) ∙ ap (λ v. is_none (Constant node whole v)) (Const.fold-roll-Const Value (constant_step (map empty_at sites)) (Const-F.Word z))

  pub names_bool : (b : Bool) → Names (const.Bool b) ≡ false
  names_bool b = ap Names (sym (views.rolls-Bool b)) ∙ ap (λ v. is_none (Constant node whole v)) (Const.fold-roll-Const Value (constant_step (map empty_at sites)) (Const-F.Bool b))

  pub names_text : (text : List ℕ) → Names (const.Str text) ≡ false
  names_text text = ap Names (sym (views.rolls-Str text)) ∙ ap (λ v. is_none (Constant node whole v)) (Const.fold-roll-Const Value (constant_step (map empty_at sites)) (Const-F.Str text))

  pub names_function : (f : ℕ) → Names (const.Function f) ≡ false
  names_function f = ap Names (sym (views.rolls-Function f)) ∙ ap (λ v. is_none (Constant node whole v)) (Const.fold-roll-Const Value (constant_step (map empty_at sites)) (Const-F.Function f))

  pub names_tuple : (vs : List Literal) → Names (const.Tuple vs) ≡ false
  names_tuple vs = ap Names (sym (views.rolls-Tuple vs)) ∙ ap (λ v. is_none (Constant node whole v)) (Const.fold-roll-Const Value (constant_step (map empty_at sites)) (Const-F.Tuple vs))

  pub names_list : (site : ℕ) → Names (const.List site) ≡ false
  names_list site = ap Names (sym (views.rolls-List site)) ∙ ap (λ v. is_none (Constant node whole v)) (Const.fold-roll-Const Value (constant_step (map empty_at sites)) (Const-F.List site))

  pub names_dict : (site : ℕ) → Names (const.Dict site) ≡ false
  names_dict site = ap Names (sym (views.rolls-Dict site)) ∙ ap (λ v. is_none (Constant node whole v)) (Const.fold-roll-Const Value (constant_step (map empty_at sites)) (Const-F.Dict site))
