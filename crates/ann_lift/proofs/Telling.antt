-- What tests tell: operations that narrow, and what stands beside the local.
use Rattle.std.proofs.Common.{◌≡◌, ℕ, ◌+◌, ◌-◌, ◌<◌, Bool, true, false, List, [], ◌∷◌, ◌++◌, length, get_or, map, Option, Some, None, refl, sym, ap, ◌∙◌, arith}
use Rattle.std.specs.Prelude.{◌||◌, not, is_some, if◌then◌else◌}
use Rattle.std.proofs.lemmas.Bool.{false≢true}
use Rattle.std.proofs.lemmas.List.{get_or-append-add}
use Rattle.rpy_tree.specs.declared.syntax.CmpOp.{CmpOp}
use Rattle.rpy_tree.specs.declared.syntax.CmpOp.TheVariants as cmp
use Rattle.rpy_meaning.specs.declared.row.RowOp.{RowOp}
use Rattle.rpy_meaning.specs.declared.row.RowOp.TheVariants as row
use Rattle.flow_stands.specs.Stands.{count}
use Rattle.flow_trees.specs.Tree.{Expr, Local, Apply, Exprs, none, more, plain_exprs}
use Rattle.flow_trees.specs.Tells.{Telling, tells, asks_beside, has_beside, of_truth, of_none, of_class, at_least, of_less, of_comparison, of_operation, binds, is_none}
use Rattle.flow_trees.specs.Marks.{beside_place}
use Rattle.ann_lattice.specs.Shape.{Shape, Nothing}
use Rattle.ann_rules.specs.Rules.{is_copy, is_narrowing}
use Rattle.ann_tree.specs.Annotation.{Environment}
use Rattle.ann_tree.specs.Gives.{beside}
use Rattle.ann_lift.proofs.Lists.{get_left}
use Rattle.ann_lift.proofs.States.{held_at, at_held}

-- one of so many operands
abbrev pub BesideIn : Option ℕ → ℕ → Type 0
BesideIn None c = Unit {0}
BesideIn (Some place) c = place < c

abbrev pub Good : ℕ → Option Telling → Type 0
Good c None = Unit {0}
Good c (Some t) = (is_copy t.op ≡ false) × (is_narrowing t.op ≡ true) × BesideIn t.beside c

good_truth : (c i : ℕ) (way : Bool) → Good c (of_truth i way)
good_truth c i true = (refl, refl, tt)
good_truth c i false = (refl, refl, tt)

good_none : (c : ℕ) (e : Expr) (named way : Bool) → Good c (of_none e named way)
good_none c (Local node i) true true = (refl, refl, tt)
good_none c (Local node i) true false = (refl, refl, tt)
good_none c e named way = tt

good_class : (c k : ℕ) (e : Expr) (way : Bool) → Good c (of_class k e way)
good_class c k (Local node i) true = (refl, refl, tt)
good_class c k e way = tt

good_if : (b : Bool) (i place : ℕ) → place < 2 → Good 2 (if b then None else Some (record { local = i; op = row.NonNegative; beside = Some place }))
good_if true i place lt = tt
good_if false i place lt = (refl, refl, lt)

good_least : (a e : Expr) (place : ℕ) → place < 2 → Good 2 (at_least a e place)
good_least (Local node i) e place lt = good_if (binds e i) i place lt
good_least a e place lt = tt

good_less : (a e : Expr) (way : Bool) → Good 2 (of_less a e way)
good_less a e true = good_least e a 0 (omega arith)
good_less a e false = good_least a e 1 (omega arith)

good_comparison : (o : CmpOp) (a e : Expr) (way : Bool) → Good 2 (of_comparison o a e way)
good_comparison cmp.Lt a e way = good_less a e way
good_comparison cmp.Le a e way = good_less a e way
good_comparison cmp.Gt a e way = good_less a e (not way)
good_comparison cmp.Ge a e way = good_less a e (not way)
good_comparison cmp.Is a e way = good_none 2 a (is_none e) way
good_comparison cmp.IsNot a e way = good_none 2 a (is_none e) (not way)
good_comparison o a e way = tt

pub good_operation : (o : RowOp) (es : Exprs) (way : Bool) → Good (count (plain_exprs es)) (of_operation o es way)
good_operation (row.IsInstance c) (more a none) way = good_class 1 c a way
good_operation (row.Compare o) (more a (more e none)) way = good_comparison o a e way
good_operation o es way = tt

beside_none : (o : Option ℕ) (c : ℕ) → is_some o ≡ false → BesideIn o c
beside_none None c h = tt
beside_none (Some place) c h = absurd (false≢true (sym h))

without : (c d : ℕ) (told : Option Telling) → Good c told → has_beside told ≡ false → Good d told
without c d None good h = tt
without c d (Some t) good h = (good.0, good.1, beside_none t.beside d h)

or_left : (b c : Bool) → (b || c) ≡ false → b ≡ false
or_left false c h = refl
or_left true c h = absurd (false≢true (sym h))

or_right : (b c : Bool) → (b || c) ≡ false → c ≡ false
or_right false c h = h
or_right true c h = absurd (false≢true (sym h))

good_any : (l : Expr) (way : Bool) → has_beside (tells l way) ≡ false → (d : ℕ) → Good d (tells l way)
good_any (Local node i) way h d = good_truth d i way
good_any (Apply node value o es) way h d = without (count (plain_exprs es)) d (of_operation o es way) (good_operation o es way) h
good_any l way h d = tt

-- where nothing is told of what stands beside
pub good_alone : (l : Expr) (way : Bool) (d : ℕ) → asks_beside l ≡ false → Good d (tells l way)
good_alone l true d h = good_any l true (or_left (has_beside (tells l true)) (has_beside (tells l false)) h) d
good_alone l false d h = good_any l false (or_right (has_beside (tells l true)) (has_beside (tells l false)) h) d

-- what stands beside the local, by its place
pub beside_is : (n : ℕ) (e : Environment) (held xs rest all : List Shape) (m : ℕ) (o : Option ℕ) → all ≡ held ++ (xs ++ rest) → m ≡ n + length held → BesideIn o (length xs) → map (held_at n e all) (beside_place o m) ≡ beside o xs
beside_is n e held xs rest all m None is count inside = refl
beside_is n e held xs rest all m (Some place) is count inside =
    let i : m + place - n ≡ length held + place = omega (arith, count) in
    ap (λ (x : Shape). x ∷ []) (at_held n e all (m + place) (omega (arith, count)) ∙ ap (λ (l : List Shape). get_or l (m + place - n) Nothing) is ∙ ap (λ j. get_or (held ++ (xs ++ rest)) j Nothing) i
    ∙ get_or-append-add held (xs ++ rest) place Nothing ∙ get_left xs rest Nothing place inside)
