-- What a test tells is told by an operation that hands its first operand on.
use Rattle.std.proofs.Common.{◌≡◌, ℕ, Bool, true, false, [], ◌∷◌, Option, Some, None, refl, subst}
use Rattle.std.specs.Prelude.{not, if◌then◌else◌}
use Rattle.rpy_tree.specs.Value.{Value}
use Rattle.rpy_tree.specs.declared.syntax.CmpOp.{CmpOp}
use Rattle.rpy_tree.specs.declared.syntax.CmpOp.TheVariants as cmp
use Rattle.rpy_meaning.specs.declared.row.Covers.{Covers}
use Rattle.rpy_meaning.specs.declared.row.RowOp.{RowOp}
use Rattle.rpy_meaning.specs.declared.row.RowOp.TheVariants as row
use Rattle.rpy_meaning.specs.Tree.{Program}
use Rattle.rpy_meaning.specs.World.{World, Gives}
use Rattle.rpy_meaning.specs.Operations.{op}
use Rattle.rpy_meaning.specs.Moments.{is_slight}
use Rattle.flow_trees.specs.Tells.{Telling, tells, of_truth, of_none, of_class, at_least, of_less, of_comparison, of_operation, binds, is_none}
use Rattle.flow_trees.specs.Tree.{Expr, Local, Apply, Exprs, none, more}

module _ (p : Program) (c : Covers) where
  abbrev Alone : RowOp → Type 0
  Alone o = (x : Value) (w : World) → op p c o (x ∷ []) w ≡ Gives x w

  abbrev Beside : RowOp → Type 0
  Beside o = (x y : Value) (w : World) → op p c o (x ∷ y ∷ []) w ≡ Gives x w

  abbrev pub HandsOn : Option ℕ → RowOp → Type 0
  HandsOn None o = Alone o
  HandsOn (Some place) o = Beside o

  -- one that is slight, with its operands
  abbrev pub Keeps : Telling → Type 0
  Keeps t = (is_slight t.op ≡ true) × HandsOn t.beside t.op

  abbrev Kept : Option Telling → Type 0
  Kept None = Unit {0}
  Kept (Some t) = Keeps t

  kept_some : (told : Option Telling) (t : Telling) → told ≡ Some t → Kept told → Keeps t
  kept_some (Some told) t e h = let z : told ≡ t = cc in subst (λ (x : Telling). Keeps x) z h
  kept_some None t e h = absurd (cc e)

  kept_truth : (i : ℕ) (way : Bool) → Kept (of_truth i way)
  kept_truth i true = (refl, λ x w. refl)
  kept_truth i false = (refl, λ x w. refl)

  kept_none : (e : Expr) (named way : Bool) → Kept (of_none e named way)
  kept_none (Local node i) true true = (refl, λ x w. refl)
  kept_none (Local node i) true false = (refl, λ x w. refl)
  kept_none e named way = tt

  kept_class : (d : ℕ) (e : Expr) (way : Bool) → Kept (of_class d e way)
  kept_class d (Local node i) true = (refl, λ x w. refl)
  kept_class d e way = tt

  unless : (bound : Bool) (told : Option Telling) → Kept told → Kept (if bound then None else told)
  unless true told h = tt
  unless false told h = h

  kept_least : (e other : Expr) (place : ℕ) → Kept (at_least e other place)
  kept_least (Local node i) other place = unless (binds other i) (Some (record { local = i; op = row.NonNegative; beside = Some place })) (refl, λ x y w. refl)
  kept_least e other place = tt

  kept_less : (a b : Expr) (way : Bool) → Kept (of_less a b way)
  kept_less a b true = kept_least b a 0
  kept_less a b false = kept_least a b 1

  kept_comparison : (o : CmpOp) (a b : Expr) (way : Bool) → Kept (of_comparison o a b way)
  kept_comparison cmp.Lt a b way = kept_less a b way
  kept_comparison cmp.Le a b way = kept_less a b way
  kept_comparison cmp.Gt a b way = kept_less a b (not way)
  kept_comparison cmp.Ge a b way = kept_less a b (not way)
  kept_comparison cmp.Is a b way = kept_none a (is_none b) way
  kept_comparison cmp.IsNot a b way = kept_none a (is_none b) (not way)
  kept_comparison o a b way = tt

  kept_operation : (o : RowOp) (es : Exprs) (way : Bool) → Kept (of_operation o es way)
  kept_operation (row.IsInstance d) (more a none) way = kept_class d a way
  kept_operation (row.Compare o) (more a (more b none)) way = kept_comparison o a b way
  kept_operation o es way = tt

  kept_expression : (e : Expr) (way : Bool) → Kept (tells e way)
  kept_expression (Local node i) way = kept_truth i way
  kept_expression (Apply node value o es) way = kept_operation o es way
  kept_expression e way = tt

  pub keeps_what_is_told : (e : Expr) (way : Bool) (t : Telling) → tells e way ≡ Some t → Keeps t
  keeps_what_is_told e way t h = kept_some (tells e way) t h (kept_expression e way)
