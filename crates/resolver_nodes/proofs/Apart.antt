-- Nodes of modules one behind the other are apart.
use Rattle.std.proofs.Common.{◌≡◌, ℕ, zero, suc, ◌+◌, ◌-◌, ◌%◌, ◌<◌, ◌≤◌, ◌==◌, ◌⊎◌, inl, inr, Bool, true, false, List, [], ◌∷◌, ◌++◌, map, slice_get, ltb, Some, refl, sym, ap, ◌∙◌, arith, true≢false, flat_map}
use Rattle.std.specs.Prelude.{option_map}
use Rattle.std.proofs.lemmas.Bool.{eq-eqb, eqb-true, ltb-true, ltb-false}
use Rattle.std.proofs.lemmas.List.{map-append}
use Rattle.std.proofs.lemmas.List.Sums.{sum_by-cons}
use Rattle.std.proofs.lemmas.Option.{none-some, same_Some}
use Rattle.rpy_tree.specs.Places.{node_count}
use Rattle.rpy_tree.specs.declared.syntax.ClassDef.{ClassDef}
use Rattle.rpy_tree.specs.declared.syntax.Expr as syntax
use Rattle.rpy_tree.specs.declared.syntax.Expr.TheFolds as folds
use Rattle.rpy_tree.specs.declared.syntax.Expr.TheOpen.{Expr-F, Target-F}
use Rattle.rpy_tree.specs.declared.syntax.Member.{Member, out-Member}
use Rattle.rpy_tree.specs.declared.syntax.Member.TheOpen.{Member-F}
use Rattle.rpy_tree.specs.declared.syntax.Module.{Module}
use Rattle.rpy_tree.specs.declared.syntax.Stmt as code
use Rattle.rpy_tree.specs.declared.syntax.Stmt.TheOpen.{Stmt-F}
use Rattle.resolver_names.specs.Nodes.{total, one_if, node_at, expr_step, target_step, nodes, target_nodes, stmt_step, clause_step, stmt_nodes, block_nodes, pair_total, if_some, arms_step}
use Rattle.resolver_names.proofs.Counting.{total_append}
use Rattle.resolver_laws.specs.Made.{Source, method_source, method_sources, member_source, member_sources, sources, HaveApartNodes}
use Rattle.resolver_nodes.specs.Numbered.{count_in, IsNumbered, AreNumbered}

count_append : (k : ℕ) (xs ys : List Source) → count_in k (xs ++ ys) ≡ count_in k xs + count_in k ys
count_append k xs ys =
    ap total (map-append (λ (s : Source). block_nodes k s.0 s.1.body) xs ys) ∙ total_append (map (λ (s : Source). block_nodes k s.0 s.1.body) xs) (map (λ (s : Source). block_nodes k s.0 s.1.body) ys)

-- ---- a number of a module, counted from another first one

module _ (k first l : ℕ) (same : (n : ℕ) → node_at k first n ≡ node_at l 0 n) where
  expr_same : (x : Expr-F ℕ ℕ) → expr_step k first x ≡ expr_step l 0 x
  expr_same (Expr-F.Int n v) = same n
  expr_same (Expr-F.Str n text) = same n
  expr_same (Expr-F.Expr::Name n name) = same n
  expr_same (Expr-F.Unary n op a) = ap (λ t. t + a) (same n)
  expr_same (Expr-F.Binary n op a b) = ap (λ t. t + a + b) (same n)
  expr_same (Expr-F.Compare n op a b) = ap (λ t. t + a + b) (same n)
  expr_same (Expr-F.Logic n is_and a b) = ap (λ t. t + a + b) (same n)
  expr_same (Expr-F.Not n a) = ap (λ t. t + a) (same n)
  expr_same (Expr-F.Call n f args) = ap (λ t. t + f + total args) (same n)
  expr_same (Expr-F.Expr::Attr n a name) = ap (λ t. t + a) (same n)
  expr_same (Expr-F.Index n a i) = ap (λ t. t + a + i) (same n)
  expr_same (Expr-F.Slice n a low high) = ap (λ t. t + a + if_some low + if_some high) (same n)
  expr_same (Expr-F.Expr::Tuple n items) = ap (λ t. t + total items) (same n)
  expr_same (Expr-F.List n items) = ap (λ t. t + total items) (same n)
  expr_same (Expr-F.Dict n pairs) = ap (λ t. t + pair_total pairs) (same n)
  expr_same (Expr-F.Comp n item target over test) = ap (λ t. t + item + target + over + if_some test) (same n)

  target_same : (x : Target-F ℕ ℕ) → target_step k first x ≡ target_step l 0 x
  target_same (Target-F.Target::Name n name) = same n
  target_same (Target-F.Target::Attr n a name) = ap (λ t. t + a) (same n)
  target_same (Target-F.Item n a i) = ap (λ t. t + a + i) (same n)
  target_same (Target-F.Target::Tuple n parts) = ap (λ t. t + total parts) (same n)

  -- as functions
  nodes_alike : nodes k first ≡ nodes l 0
  nodes_alike = λ i. syntax.fold-Expr ℕ ℕ (λ x. expr_same x i) (λ x. target_same x i)

  targets_alike : target_nodes k first ≡ target_nodes l 0
  targets_alike = λ i. folds.fold-Target ℕ ℕ (λ x. expr_same x i) (λ x. target_same x i)

  arms_same : (arms : List (syntax.Expr × List ℕ)) → arms_step k first arms ≡ arms_step l 0 arms
  arms_same [] = refl
  arms_same (arm ∷ arms) = λ i. nodes_alike i arm.0 + total arm.1 + arms_same arms i

  stmt_same : (x : Stmt-F ℕ ℕ) → stmt_step k first x ≡ stmt_step l 0 x
  stmt_same (Stmt-F.Pass n) = refl
  stmt_same (Stmt-F.Break n) = refl
  stmt_same (Stmt-F.Continue n) = refl
  stmt_same (Stmt-F.Return n e) = λ i. if_some (option_map (nodes_alike i) e)
  stmt_same (Stmt-F.Raise n e) = λ i. nodes_alike i e
  stmt_same (Stmt-F.Assert n e) = λ i. nodes_alike i e
  stmt_same (Stmt-F.Del n a j) = λ i. nodes_alike i a + nodes_alike i j
  stmt_same (Stmt-F.Print n es) = λ i. total (map (nodes_alike i) es)
  stmt_same (Stmt-F.Assign n ts e) = λ i. total (map (targets_alike i) ts) + nodes_alike i e
  stmt_same (Stmt-F.Aug n t op e) = λ i. targets_alike i t + nodes_alike i e
  stmt_same (Stmt-F.Expr n e) = λ i. nodes_alike i e
  stmt_same (Stmt-F.If n arms other) = ap (λ t. t + total other) (arms_same arms)
  stmt_same (Stmt-F.While n e body) = λ i. nodes_alike i e + total body
  stmt_same (Stmt-F.For n t e body) = λ i. targets_alike i t + nodes_alike i e + total body
  stmt_same (Stmt-F.Try n body cs other last) = refl

  stmts_alike : stmt_nodes k first ≡ stmt_nodes l 0
  stmts_alike = λ i. code.fold-Stmt ℕ ℕ (λ x. stmt_same x i) (clause_step k first)

  block_same : (ss : List code.Stmt) → block_nodes k first ss ≡ block_nodes l 0 ss
  block_same ss = ap (λ (g : code.Stmt → ℕ). total (map g ss)) stmts_alike

  -- functions of a module
  count_method : (x : Member-F Member ClassDef) → count_in k (method_source first x) ≡ count_in l (method_source 0 x)
  count_method (Member-F.Def f) = ap (λ t. t + 0) (block_same f.body)
  count_method (Member-F.Import n path) = refl
  count_method (Member-F.From n path names) = refl
  count_method (Member-F.Const n name e) = refl
  count_method (Member-F.Class c) = refl

  count_methods : (ms : List Member) → count_in k (flat_map (method_sources first) ms) ≡ count_in l (flat_map (method_sources 0) ms)
  count_methods [] = refl
  count_methods (m ∷ ms) =
      count_append k (method_sources first m) (flat_map (method_sources first) ms)
      ∙ (λ i. count_method (out-Member m) i + count_methods ms i)
      ∙ sym (count_append l (method_sources 0 m) (flat_map (method_sources 0) ms))

  count_member : (x : Member-F Member ClassDef) → count_in k (member_source first x) ≡ count_in l (member_source 0 x)
  count_member (Member-F.Def f) = ap (λ t. t + 0) (block_same f.body)
  count_member (Member-F.Import n path) = refl
  count_member (Member-F.From n path names) = refl
  count_member (Member-F.Const n name e) = refl
  count_member (Member-F.Class c) = count_methods c.members

  count_members : (ms : List Member) → count_in k (flat_map (member_sources first) ms) ≡ count_in l (flat_map (member_sources 0) ms)
  count_members [] = refl
  count_members (m ∷ ms) =
      count_append k (member_sources first m) (flat_map (member_sources first) ms)
      ∙ (λ i. count_member (out-Member m) i + count_members ms i)
      ∙ sym (count_append l (member_sources 0 m) (flat_map (member_sources 0) ms))

-- ---- numbers

same_test : (a b c d : ℕ) → (a ≡ b → c ≡ d) → (c ≡ d → a ≡ b) → (a == b) ≡ (c == d)
same_test a b c d f g = by (a == b) (c == d) refl refl
  where
    by : (x y : Bool) → (a == b) ≡ x → (c == d) ≡ y → x ≡ y
    by true true h e = refl
    by true false h e = absurd (true≢false (sym (eq-eqb c d (f (eqb-true a b h))) ∙ e))
    by false true h e = absurd (true≢false (sym (eq-eqb a b (g (eqb-true c d e))) ∙ h))
    by false false h e = refl

at_same : (k first l : ℕ) → ((n : ℕ) → (first + n) % 4294967296 ≡ k → (0 + n) % 4294967296 ≡ l) → ((n : ℕ) → (0 + n) % 4294967296 ≡ l → (first + n) % 4294967296 ≡ k) → (n : ℕ) → node_at k first n ≡ node_at l 0 n
at_same k first l f g n = ap one_if (same_test ((first + n) % 4294967296) k ((0 + n) % 4294967296) l (f n) (g n))

above : (k first : ℕ) → first ≤ k → k < 4294967296 → (n : ℕ) → node_at k first n ≡ node_at (k - first) 0 n
above k first le lt = at_same k first (k - first) (λ n h. omega (arith, le, lt, h)) (λ n h. omega (arith, le, lt, h))

below : (k first : ℕ) → k < first → first ≤ 4294967296 → (n : ℕ) → node_at k first n ≡ node_at (k + 4294967296 - first) 0 n
below k first lt le = at_same k first (k + 4294967296 - first) (λ n h. omega (arith, lt, le, h)) (λ n h. omega (arith, lt, le, h))

past : (k first : ℕ) → 4294967296 ≤ k → (n : ℕ) → node_at k first n ≡ node_at k 0 n
past k first le = at_same k first k (λ n h. absurd (omega (arith, le, h))) (λ n h. absurd (omega (arith, le, h)))

less_or_not : (a b : ℕ) → (a < b) ⊎ (b ≤ a)
less_or_not a b = by (ltb a b) refl
  where
    by : (x : Bool) → ltb a b ≡ x → (a < b) ⊎ (b ≤ a)
    by true e = inl (ltb-true a b e)
    by false e = inr (ltb-false a b e)

where_is : (k first : ℕ) → (((first ≤ k) × (k < 4294967296)) ⊎ (k < first)) ⊎ (4294967296 ≤ k)
where_is k first = by (less_or_not k 4294967296) (less_or_not k first)
  where
    by : (k < 4294967296) ⊎ (4294967296 ≤ k) → (k < first) ⊎ (first ≤ k) → (((first ≤ k) × (k < 4294967296)) ⊎ (k < first)) ⊎ (4294967296 ≤ k)
    by (inr le) h = inr le
    by (inl lt) (inl h) = inl (inr h)
    by (inl lt) (inr h) = inl (inl (h, lt))

-- a number below that of the first node, or behind the last, is none of the module's; others are those of the module itself
module _ (m : Module) (numbered : IsNumbered m) (first : ℕ) (fits : first + m.nodes ≤ 4294967296) (k : ℕ) where
  abbrev there : ℕ
  there = count_in k (flat_map (member_sources first) m.members)

  by_place : (((first ≤ k) × (k < 4294967296)) ⊎ (k < first)) ⊎ (4294967296 ≤ k) → (there ≤ 1) × (k < first → there ≡ 0) × (first + m.nodes ≤ k → there ≡ 0)
  by_place (inl (inl h)) =
      let e = count_members k first (k - first) (above k first h.0 h.1) m.members in
      let n = numbered (k - first) in
      (omega (arith, e, n.0), λ lt. absurd (omega (arith, lt, h.0)), λ le. e ∙ n.1 (omega (arith, le)))
  by_place (inl (inr h)) =
      let e = count_members k first (k + 4294967296 - first) (below k first h (omega (arith, fits))) m.members in
      let n = numbered (k + 4294967296 - first) in
      let z = e ∙ n.1 (omega (arith, h, fits)) in
      (omega (arith, z), λ lt. z, λ le. z)
  by_place (inr h) =
      let e = count_members k first k (past k first h) m.members in
      let n = numbered k in
      let z = e ∙ n.1 (omega (arith, h, fits)) in
      (omega (arith, z), λ lt. z, λ le. z)

  one_at_most : (there ≤ 1) × (k < first → there ≡ 0) × (first + m.nodes ≤ k → there ≡ 0)
  one_at_most = by_place (where_is k first)

-- ---- all modules

all_counted : (modules : List Module) (first k : ℕ) → AreNumbered modules → first + node_count modules < 4294967296 → (count_in k (sources first modules) ≤ 1) × (k < first → count_in k (sources first modules) ≡ 0)
all_counted [] first k h fits = (omega arith, λ lt. refl)
all_counted (m ∷ modules) first k h fits =
    let s : node_count (m ∷ modules) ≡ m.nodes + node_count modules = sum_by-cons (λ (x : Module). x.nodes) m modules in
    let here = one_at_most m h.0 first (omega (arith, fits, s)) k in
    let e : (first + m.nodes) % 4294967296 ≡ first + m.nodes = omega (arith, fits, s) in
    let rest = all_counted modules (first + m.nodes) k h.1 (omega (arith, fits, s)) in
    let a : count_in k (sources first (m ∷ modules)) ≡ count_in k (flat_map (member_sources first) m.members) + count_in k (sources (first + m.nodes) modules) =
    count_append k (flat_map (member_sources first) m.members) (sources ((first + m.nodes) % 4294967296) modules) ∙ ap (λ n. count_in k (flat_map (member_sources first) m.members) + count_in k (sources n modules)) e in
    (both k first here rest a (less_or_not k (first + m.nodes)), λ lt. let x = here.1 lt in let y = rest.1 (omega (arith, lt)) in omega (arith, a, x, y))
  where
    both : (k first : ℕ) {x y z n : ℕ} → (x ≤ 1) × (k < first → x ≡ 0) × (n ≤ k → x ≡ 0) → (y ≤ 1) × (k < n → y ≡ 0) → z ≡ x + y → (k < n) ⊎ (n ≤ k) → z ≤ 1
    both k first p q a (inl lt) = let y = q.1 lt in omega (arith, p.0, y, a)
    both k first p q a (inr le) = let x = p.2 le in omega (arith, x, q.0, a)

-- two of a list are counted twice
counted_at : (k : ℕ) (ss : List Source) (f : ℕ) (s : Source) → slice_get ss f ≡ Some s → block_nodes k s.0 s.1.body ≤ count_in k ss
counted_at k [] f s is = absurd (none-some s is)
counted_at k (t ∷ ss) zero s is = let e = ap (λ (x : Source). block_nodes k x.0 x.1.body) (same_Some t s is) in omega (arith, e)
counted_at k (t ∷ ss) (suc f) s is = let h = counted_at k ss f s is in omega (arith, h)

once : (k : ℕ) (ss : List Source) → count_in k ss ≤ 1 → (f g : ℕ) (s t : Source) → slice_get ss f ≡ Some s → slice_get ss g ≡ Some t → 0 < block_nodes k s.0 s.1.body → 0 < block_nodes k t.0 t.1.body → f ≡ g
once k [] le f g s t at to h i = absurd (none-some s at)
once k (x ∷ ss) le zero zero s t at to h i = refl
once k (x ∷ ss) le zero (suc g) s t at to h i =
    let e = ap (λ (y : Source). block_nodes k y.0 y.1.body) (same_Some x s at) in
    let c = counted_at k ss g t to in
    absurd (omega (arith, le, e, c, h, i))
once k (x ∷ ss) le (suc f) zero s t at to h i =
    let e = ap (λ (y : Source). block_nodes k y.0 y.1.body) (same_Some x t to) in
    let c = counted_at k ss f s at in
    absurd (omega (arith, le, e, c, h, i))
once k (x ∷ ss) le (suc f) (suc g) s t at to h i = ap suc (once k ss (omega (arith, le)) f g s t at to h i)

pub are_apart : (modules : List Module) → AreNumbered modules → node_count modules < 4294967296 → HaveApartNodes modules
are_apart modules h fits f g k s t at to i j = once k (sources 0 modules) (all_counted modules 0 k h (omega (arith, fits))).0 f g s t at to i j
