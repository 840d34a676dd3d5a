-- The local that a test tells of is one of its parts.
use Rattle.std.proofs.Common.{◌≡◌, ◌⊎◌, ℕ, Bool, true, false, Option, Some, None, inl, inr, refl, subst}
use Rattle.std.specs.Prelude.{not, if◌then◌else◌}
use Rattle.rpy_tree.specs.declared.syntax.CmpOp.{CmpOp}
use Rattle.rpy_tree.specs.declared.syntax.CmpOp.TheVariants as cmp
use Rattle.rpy_meaning.specs.declared.row.RowOp.{RowOp}
use Rattle.rpy_meaning.specs.declared.row.RowOp.TheVariants as row
use Rattle.flow_stands.specs.Stands.{Reads, is_local, some_is_local}
use Rattle.flow_trees.specs.Tells.{Telling, tells, of_truth, of_none, of_class, at_least, of_less, of_comparison, of_operation, binds, is_none}
use Rattle.flow_trees.specs.Tree.{Expr, Local, Apply, Exprs, none, more, plain, plain_exprs}

-- the local that is told of, if one is, has it
abbrev Of : (ℕ → Type 0) → Option Telling → Type 0
Of P None = Unit {0}
Of P (Some t) = P t.local

of_some : (P : ℕ → Type 0) (told : Option Telling) (t : Telling) → told ≡ Some t → Of P told → P t.local
of_some P (Some told) t e h = let z : told ≡ t = cc in subst (λ (x : Telling). P x.local) z h
of_some P None t e h = absurd (cc e)

of_map : (P Q : ℕ → Type 0) → ((i : ℕ) → P i → Q i) → (told : Option Telling) → Of P told → Of Q told
of_map P Q g (Some t) h = g t.local h
of_map P Q g None h = tt

truth_told : (P : ℕ → Type 0) (i : ℕ) (way : Bool) → P i → Of P (of_truth i way)
truth_told P i true h = h
truth_told P i false h = h

none_told : (e : Expr) (named way : Bool) → Of (is_local (plain e)) (of_none e named way)
none_told (Local node i) true true = refl
none_told (Local node i) true false = refl
none_told e named way = tt

class_told : (c : ℕ) (e : Expr) (way : Bool) → Of (is_local (plain e)) (of_class c e way)
class_told c (Local node i) true = refl
class_told c e way = tt

unless : (P : ℕ → Type 0) (bound : Bool) (told : Option Telling) → Of P told → Of P (if bound then None else told)
unless P true told h = tt
unless P false told h = h

least_told : (e other : Expr) (place : ℕ) → Of (is_local (plain e)) (at_least e other place)
least_told (Local node i) other place = unless (is_local (plain (Local node i))) (binds other i) (Some (record { local = i; op = row.NonNegative; beside = Some place })) refl
least_told e other place = tt

abbrev Either : Expr → Expr → ℕ → Type 0
Either a b i = is_local (plain a) i ⊎ is_local (plain b) i

less_told : (a b : Expr) (way : Bool) → Of (Either a b) (of_less a b way)
less_told a b true = of_map (is_local (plain b)) (Either a b) (λ i h. inr h) (at_least b a 0) (least_told b a 0)
less_told a b false = of_map (is_local (plain a)) (Either a b) (λ i h. inl h) (at_least a b 1) (least_told a b 1)

named_told : (a b : Expr) (named way : Bool) → Of (Either a b) (of_none a named way)
named_told a b named way = of_map (is_local (plain a)) (Either a b) (λ i h. inl h) (of_none a named way) (none_told a named way)

comparison_told : (o : CmpOp) (a b : Expr) (way : Bool) → Of (Either a b) (of_comparison o a b way)
comparison_told cmp.Lt a b way = less_told a b way
comparison_told cmp.Le a b way = less_told a b way
comparison_told cmp.Gt a b way = less_told a b (not way)
comparison_told cmp.Ge a b way = less_told a b (not way)
comparison_told cmp.Is a b way = named_told a b (is_none b) way
comparison_told cmp.IsNot a b way = named_told a b (is_none b) (not way)
comparison_told o a b way = tt

operation_told : (o : RowOp) (es : Exprs) (way : Bool) → Of (some_is_local (plain_exprs es)) (of_operation o es way)
operation_told (row.IsInstance c) (more a none) way = of_map (is_local (plain a)) (some_is_local (plain_exprs (more a none))) (λ i h. inl h) (of_class c a way) (class_told c a way)
operation_told (row.Compare o) (more a (more b none)) way =
    of_map (Either a b) (some_is_local (plain_exprs (more a (more b none)))) (λ i h. elim h [ inl x ↦ inl x | inr x ↦ inr (inl x) ]) (of_comparison o a b way) (comparison_told o a b way)
operation_told o es way = tt

expression_told : (e : Expr) (way : Bool) → Of (Reads (plain e)) (tells e way)
expression_told (Local node i) way = truth_told (λ j. i ≡ j) i way refl
expression_told (Apply node value o es) way = operation_told o es way
expression_told e way = tt

pub told_of_what_is_read : (e : Expr) (way : Bool) (t : Telling) → tells e way ≡ Some t → Reads (plain e) t.local
told_of_what_is_read e way t h = of_some (Reads (plain e)) (tells e way) t h (expression_told e way)
