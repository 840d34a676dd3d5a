-- How many values what is made gives at a node, form by form.
use Rattle.std.proofs.Common.{◌≡◌, ℕ, ℤ, ◌+◌, ◌%◌, ◌^◌, ◌≤◌, Bool, true, false, List, [], ◌∷◌, ◌++◌, map, Some, None, Result, Ok, Err, ap, ◌∙◌, arith}
use Rattle.std.specs.Prelude.{if◌then◌else◌, IfOk}
use Rattle.rpy_base.specs.declared.fault.NoMem.{NoMem}
use Rattle.std.proofs.lemmas.Option.{none-some, same_Some}
use Rattle.rpy_tree.specs.declared.syntax.Expr as syntax
use Rattle.rpy_tree.specs.declared.syntax.Expr.{out-Expr}
use Rattle.rpy_tree.specs.declared.syntax.Expr.TheOpen.{Expr-F}
use Rattle.rpy_tree.specs.declared.syntax.Expr.TheViews as views
use Rattle.rpy_tree.specs.declared.syntax.Target as aim
use Rattle.rpy_meaning.specs.declared.row.RowOp.{RowOp}
use Rattle.rpy_meaning.specs.Resolved.{Names, node_in, node_of}
use Rattle.rpy_resolved.specs.declared.tree.Expr.{Expr}
use Rattle.rpy_resolved.specs.declared.tree.Expr.TheVariants as m
use Rattle.rpy_resolved.specs.declared.tree.Subject.TheVariants as ms
use Rattle.rpy_resolved.specs.declared.tree.Stmt.{Stmt}
use Rattle.rpy_resolver.specs.Parts.{Put}
use Rattle.resolver_names.specs.Forms.{is_range, range_args}
use Rattle.resolver_names.specs.Nodes.{total, pair_total, one_at, values, walked_values, done_values, block_values, node_at, nodes}
use Rattle.resolver_names.proofs.Counting.{total_push, pair_push, apply_counts, from_counts, call_nodes}

given_args : (b : Bool) (es args : List syntax.Expr) → (if b then Some es else None) ≡ Some args → es ≡ args
given_args true es args h = same_Some es args h
given_args false es args h = absurd (none-some args h)

module _ (k first : ℕ) where
  -- a node of a module has its number
  pub node_is : (node n : ℕ) → node ≡ (first + n) % 2 ^ 32 → one_at k node ≡ node_at k first n
  node_is node n e = ap (one_at k) e

  -- an operation on parts
  pub apply_less : (node n : ℕ) (op : RowOp) (es : List Expr) (rest : ℕ) (new : Expr) → new ≡ m.Apply node true op es → node ≡ (first + n) % 2 ^ 32 → total (map (values k) es) ≤ rest
      → values k new ≤ node_at k first n + rest
  apply_less node n op es rest new is e le =
      let a : values k new ≡ one_at k node + total (map (values k) es) = ap (values k) is ∙ apply_counts k node true op es in
      let b = node_is node n e in
      omega (arith, a, b, le)

  -- one without parts
  pub leaf_less : (node n : ℕ) (op : RowOp) (new : Expr) → new ≡ m.Apply node true op [] → node ≡ (first + n) % 2 ^ 32 → values k new ≤ node_at k first n
  leaf_less node n op new is e = let h = apply_less node n op [] 0 new is e (omega arith) in omega (arith, h)

  -- the arguments of a range are parts of its call
  range_has : (names : Names) (x : Expr-F syntax.Expr aim.Target) (args : List syntax.Expr) → range_args names x ≡ Some args → node_at k first (node_in x) + total (map (nodes k first) args) ≤ nodes k first (views.roll-Expr x)
  range_has names (Expr-F.Int n v) args h = absurd (none-some args h)
  range_has names (Expr-F.Str n text) args h = absurd (none-some args h)
  range_has names (Expr-F.Expr::Name n name) args h = absurd (none-some args h)
  range_has names (Expr-F.Unary n op a) args h = absurd (none-some args h)
  range_has names (Expr-F.Binary n op a b) args h = absurd (none-some args h)
  range_has names (Expr-F.Compare n op a b) args h = absurd (none-some args h)
  range_has names (Expr-F.Logic n is_and a b) args h = absurd (none-some args h)
  range_has names (Expr-F.Not n a) args h = absurd (none-some args h)
  range_has names (Expr-F.Call n f es) args h =
      let e : es ≡ args = given_args (is_range names (out-Expr f)) es args h in
      let c : nodes k first (views.roll-Expr (Expr-F.Call n f es)) ≡ node_at k first n + nodes k first f + total (map (nodes k first) es) = ap (nodes k first) (views.rolls-Call n f es) ∙ call_nodes k first n f es in
      let t : total (map (nodes k first) es) ≡ total (map (nodes k first) args) = ap (λ us. total (map (nodes k first) us)) e in
      omega (arith, c, t)
  range_has names (Expr-F.Expr::Attr n a name) args h = absurd (none-some args h)
  range_has names (Expr-F.Index n a i) args h = absurd (none-some args h)
  range_has names (Expr-F.Slice n a low high) args h = absurd (none-some args h)
  range_has names (Expr-F.Expr::Tuple n items) args h = absurd (none-some args h)
  range_has names (Expr-F.List n items) args h = absurd (none-some args h)
  range_has names (Expr-F.Dict n ps) args h = absurd (none-some args h)
  range_has names (Expr-F.Comp n item target over test) args h = absurd (none-some args h)

  pub range_less : (names : Names) (e : syntax.Expr) (args : List syntax.Expr) → range_args names (out-Expr e) ≡ Some args → node_at k first (node_of e) + total (map (nodes k first) args) ≤ nodes k first e
  range_less names e args h =
      let a = range_has names (out-Expr e) args h in
      let b : nodes k first (views.roll-Expr (out-Expr e)) ≡ nodes k first e = ap (nodes k first) (views.roll-out-Expr e) in
      omega (arith, a, b)

-- one more is made, and one less is left
module _ {A B : Type 0} (g : A → ℕ) (h : B → ℕ) where
  pub one_more_counted : (old new : List A) (made : A) (x : B) (rest tail : List B) (whole : ℕ) → new ≡ old ++ made ∷ [] → g made ≤ h x → rest ≡ x ∷ tail
      → total (map g old) + total (map h rest) ≤ whole → total (map g new) + total (map h tail) ≤ whole
  one_more_counted old new made x rest tail whole is le split w =
      let a : total (map g new) ≡ total (map g old) + g made = ap (λ us. total (map g us)) is ∙ total_push g old made in
      let b : total (map h rest) ≡ h x + total (map h tail) = ap (λ us. total (map h us)) split in
      omega (arith, a, b, le, w)

  pub none_left : (new : List A) (rest : List B) (whole : ℕ) → rest ≡ [] → total (map g new) + total (map h rest) ≤ whole → total (map g new) ≤ whole
  none_left new rest whole is w = let b : total (map h rest) ≡ 0 = ap (λ us. total (map h us)) is in omega (arith, b, w)

module _ {A B : Type 0} (g : A → ℕ × ℕ) (h : B → ℕ × ℕ) where
  pub one_pair_counted : (old new : List A) (made : A) (x : B) (rest tail : List B) (whole : ℕ) → new ≡ old ++ made ∷ [] → (g made).0 + (g made).1 ≤ (h x).0 + (h x).1 → rest ≡ x ∷ tail
      → pair_total (map g old) + pair_total (map h rest) ≤ whole → pair_total (map g new) + pair_total (map h tail) ≤ whole
  one_pair_counted old new made x rest tail whole is le split w =
      let a : pair_total (map g new) ≡ pair_total (map g old) + ((g made).0 + (g made).1) = ap (λ us. pair_total (map g us)) is ∙ pair_push g old made in
      let b : pair_total (map h rest) ≡ (h x).0 + (h x).1 + pair_total (map h tail) = ap (λ us. pair_total (map h us)) split in
      omega (arith, a, b, le, w)

  pub no_pair_left : (new : List A) (rest : List B) (whole : ℕ) → rest ≡ [] → pair_total (map g new) + pair_total (map h rest) ≤ whole → pair_total (map g new) ≤ whole
  no_pair_left new rest whole is w = let b : pair_total (map h rest) ≡ 0 = ap (λ us. pair_total (map h us)) is in omega (arith, b, w)

-- a statement is put behind others, if it was made
pub put_counted : (k : ℕ) (r : Result Stmt NoMem) (old new : List Stmt) (n : ℕ) → Put r old new → IfOk r (λ made. done_values k made ≤ n) → block_values k new ≤ block_values k old + n
put_counted k (Ok made) old new n is le = let a : block_values k new ≡ block_values k old + done_values k made = ap (block_values k) is ∙ total_push (done_values k) old made in omega (arith, a, le)
put_counted k (Err x) old new n is le = absurd is

pub from_less : (k : ℕ) (a b : Expr) (step : ℤ) (x y : ℕ) → values k a ≤ x → values k b ≤ y → walked_values k (ms.FromTo a b step) ≤ x + y
from_less k a b step x y h g = let v = from_counts k a b step in omega (arith, v, h, g)
