-- No class declares an attribute twice.
use Rattle.std.proofs.Common.{◌≡◌, ℕ, zero, suc, Bool, true, false, List, [], ◌∷◌, ◌++◌, map, replicate, Option, Some, None, refl, sym, ap, ◌∙◌, subst}
use Rattle.std.specs.Prelude.{◌||◌, if◌then◌else◌, option_map}
use Rattle.std.specs.Str.{bytes_eq}
use Rattle.std.proofs.lemmas.Slice.Eq.{bytes_eq-Decides}
use Rattle.rpy_tree.specs.declared.syntax.Expr.{Expr, roll-Expr, fold-roll-Expr, map-Expr, ind-Expr}
use Rattle.rpy_tree.specs.declared.syntax.Expr.TheFolds.{fold-roll-Target, map-Target, ind-Target}
use Rattle.rpy_tree.specs.declared.syntax.Expr.TheOpen.{Expr-F, Target-F}
use Rattle.rpy_tree.specs.declared.syntax.Target.{Target, roll-Target}
use Rattle.rpy_tree.specs.declared.syntax.Stmt.{Stmt, roll-Stmt, fold-roll-Stmt, map-Stmt, ind-Stmt}
use Rattle.rpy_tree.specs.declared.syntax.Stmt.TheFolds.{fold-roll-Clause, map-Clause}
use Rattle.rpy_tree.specs.declared.syntax.Stmt.TheOpen.{Stmt-F, Clause-F}
use Rattle.rpy_tree.specs.declared.syntax.Clause.{Clause, roll-Clause}
use Rattle.rpy_tree.specs.declared.syntax.Param.{Param}
use Rattle.rpy_tree.specs.declared.syntax.Member.{Member, out-Member}
use Rattle.rpy_tree.specs.declared.syntax.Member.TheOpen.{Member-F}
use Rattle.rpy_tree.specs.declared.syntax.ClassDef.{ClassDef, out-ClassDef}
use Rattle.rpy_tree.specs.declared.syntax.Module.{Module}
use Rattle.class_desc.specs.declared.stores.Stores.{Stores}
use Rattle.class_desc.specs.Stores as spec
use Rattle.class_desc.specs.Stores.{has, with_name}
use Rattle.class_desc.specs.Tables.{with_member, declared_by, add_class, add_classes, add_modules, attributes, own}

-- ---- names

-- none is among those behind it
abbrev pub Distinct : List (List ℕ) → Type 0
Distinct [] = Unit {0}
Distinct (x ∷ xs) = (has xs x ≡ false) × Distinct xs

abbrev is_no : Bool → Type 0
is_no false = Unit {0}
is_no true = ⊥

not_both : (b : Bool) → b ≡ true → b ≡ false → ⊥
not_both b e f = subst is_no (sym f ∙ e) tt

by_cases : (b : Bool) → ((b ≡ true) → ⊥) → b ≡ false
by_cases true f = absurd (f refl)
by_cases false f = refl

pub same_name : (x : List ℕ) → bytes_eq x x ≡ true
same_name x = (bytes_eq-Decides x x).1 refl

pub other_name : (x y : List ℕ) → bytes_eq x y ≡ false → bytes_eq y x ≡ false
other_name x y e = by_cases (bytes_eq y x) (λ f. not_both (bytes_eq x y) ((bytes_eq-Decides x y).1 (sym ((bytes_eq-Decides y x).0 f))) e)

first_no : (a b : Bool) → (a || b) ≡ false → a ≡ false
first_no false b e = refl
first_no true b e = e

second_no : (a b : Bool) → (a || b) ≡ false → b ≡ false
second_no false b e = e
second_no true b e = absurd (not_both true refl e)

neither : (a b : Bool) → a ≡ false → b ≡ false → (a || b) ≡ false
neither false b e f = f
neither true b e f = e

not_pushed : (xs : List (List ℕ)) (x name : List ℕ) → has xs x ≡ false → bytes_eq x name ≡ false → has (xs ++ name ∷ []) x ≡ false
not_pushed [] x name e f = neither (bytes_eq x name) false f refl
not_pushed (y ∷ ys) x name e f =
    neither (bytes_eq x y) (has (ys ++ name ∷ []) x) (first_no (bytes_eq x y) (has ys x) e) (not_pushed ys x name (second_no (bytes_eq x y) (has ys x) e) f)

pushed : (xs : List (List ℕ)) (name : List ℕ) → has xs name ≡ false → Distinct xs → Distinct (xs ++ name ∷ [])
pushed [] name e h = (refl, tt)
pushed (x ∷ xs) name e h = (
  not_pushed xs x name h.0 (other_name name x (first_no (bytes_eq name x) (has xs name) e)),
  pushed xs name (second_no (bytes_eq name x) (has xs name) e) h.1,
)

pub name_keeps : (xs : List (List ℕ)) (name : List ℕ) → Distinct xs → Distinct (with_name xs name)
name_keeps xs name h = by (has xs name) refl
  where
    by : (b : Bool) → has xs name ≡ b → Distinct (if b then xs else xs ++ name ∷ [])
    by true e = h
    by false e = pushed xs name e h

-- ---- expressions

abbrev Keeps : (Stores → Stores) → Type 0
Keeps f = (s : Stores) → Distinct s.names → Distinct (f s).names

store_keeps : (name : List ℕ) → Keeps (spec.store name)
store_keeps name s h = by s.at_first
  where
    by : (b : Bool) → Distinct (if b then with_name s.names name else s.names)
    by true = name_keeps s.names name h
    by false = h

module _ {X Y : Type 0} (f : X → Stores → Stores) (g : Y → X) (each : (y : Y) → Keeps (f (g y))) where
  all_keep : (ys : List Y) → Keeps (spec.all (map f (map g ys)))
  all_keep [] s h = h
  all_keep (y ∷ ys) s h = all_keep ys (f (g y) s) (each y s h)

  optional_keeps : (o : Option Y) → Keeps (λ s. spec.optional (option_map f (option_map g o)) s)
  optional_keeps None s h = h
  optional_keeps (Some y) s h = each y s h

module _ (first : List ℕ) where
  abbrev step : Type 0
  step = Stores → Stores

  abbrev SomeExpr : Type 0
  SomeExpr = (e : Expr) × Keeps (spec.expr first e)

  abbrev SomeTarget : Type 0
  SomeTarget = (t : Target) × Keeps (spec.target first t)

  abbrev of : SomeExpr → Expr
  of p = p.0

  abbrev of_target : SomeTarget → Target
  of_target p = p.0

  exprs_keep : (ps : List SomeExpr) → Keeps (spec.all (map (spec.expr first) (map of ps)))
  exprs_keep = all_keep (spec.expr first) of (λ p. p.1)

  pairs_keep : (ps : List (SomeExpr × SomeExpr))
      → Keeps (spec.all_pairs (map (λ (p : Expr × Expr). (spec.expr first p.0, spec.expr first p.1)) (map (λ (p : SomeExpr × SomeExpr). (of p.0, of p.1)) ps)))
  pairs_keep [] s h = h
  pairs_keep (p ∷ ps) s h = pairs_keep ps (spec.expr first (of p.1) (spec.expr first (of p.0) s)) (p.1.1 (spec.expr first (of p.0) s) (p.0.1 s h))

  abbrev filled : Expr-F SomeExpr SomeTarget → Expr-F step step
  filled y = map-Expr Expr Target step step (spec.expr first) (spec.target first) (map-Expr SomeExpr SomeTarget Expr Target of of_target y)

  abbrev filled_target : Target-F SomeExpr SomeTarget → Target-F step step
  filled_target y = map-Target Expr Target step step (spec.expr first) (spec.target first) (map-Target SomeExpr SomeTarget Expr Target of of_target y)

  expr_keeps : (y : Expr-F SomeExpr SomeTarget) → Keeps (spec.expr_step first (filled y))
  expr_keeps (Expr-F.Int n v) s h = h
  expr_keeps (Expr-F.Str n text) s h = h
  expr_keeps (Expr-F.Expr::Name n name) s h = h
  expr_keeps (Expr-F.Unary n op a) s h = a.1 s h
  expr_keeps (Expr-F.Binary n op a b) s h = b.1 _ (a.1 s h)
  expr_keeps (Expr-F.Compare n op a b) s h = b.1 _ (a.1 s h)
  expr_keeps (Expr-F.Logic n is_and a b) s h = b.1 _ (a.1 s h)
  expr_keeps (Expr-F.Not n a) s h = a.1 s h
  expr_keeps (Expr-F.Call n f args) s h = exprs_keep args _ (f.1 s h)
  expr_keeps (Expr-F.Expr::Attr n a name) s h = a.1 s h
  expr_keeps (Expr-F.Index n a i) s h = i.1 _ (a.1 s h)
  expr_keeps (Expr-F.Slice n a None None) s h = a.1 s h
  expr_keeps (Expr-F.Slice n a None (Some to)) s h = to.1 _ (a.1 s h)
  expr_keeps (Expr-F.Slice n a (Some from) None) s h = from.1 _ (a.1 s h)
  expr_keeps (Expr-F.Slice n a (Some from) (Some to)) s h = to.1 _ (from.1 _ (a.1 s h))
  expr_keeps (Expr-F.Expr::Tuple n items) s h = exprs_keep items s h
  expr_keeps (Expr-F.List n items) s h = exprs_keep items s h
  expr_keeps (Expr-F.Dict n pairs) s h = pairs_keep pairs s h
  expr_keeps (Expr-F.Comp n item target over None) s h = over.1 _ (target.1 _ (item.1 s h))
  expr_keeps (Expr-F.Comp n item target over (Some test)) s h = test.1 _ (over.1 _ (target.1 _ (item.1 s h)))

  target_keeps : (y : Target-F SomeExpr SomeTarget) → Keeps (spec.target_step first (filled_target y))
  target_keeps (Target-F.Target::Name n name) s h = h
  target_keeps (Target-F.Target::Attr n a name) s h = store_keeps name (spec.expr first (of a) s) (a.1 s h)
  target_keeps (Target-F.Item n a i) s h = i.1 _ (a.1 s h)
  target_keeps (Target-F.Target::Tuple n parts) s h = all_keep (spec.target first) of_target (λ p. p.1) parts s h

  abbrev KeepsExpr : Expr → Type 0
  KeepsExpr e = Keeps (spec.expr first e)

  abbrev KeepsTarget : Target → Type 0
  KeepsTarget t = Keeps (spec.target first t)

  expr_layer : (x : Expr-F Expr Target) (y : Expr-F SomeExpr SomeTarget) → map-Expr SomeExpr SomeTarget Expr Target of of_target y ≡ x
      → spec.expr_step first (filled y) ≡ spec.expr first (roll-Expr x)
  expr_layer x y is =
      ap (λ z. spec.expr_step first (map-Expr Expr Target step step (spec.expr first) (spec.target first) z)) is
      ∙ sym (fold-roll-Expr step step (spec.expr_step first) (spec.target_step first) x)

  target_layer : (x : Target-F Expr Target) (y : Target-F SomeExpr SomeTarget) → map-Target SomeExpr SomeTarget Expr Target of of_target y ≡ x
      → spec.target_step first (filled_target y) ≡ spec.target first (roll-Target x)
  target_layer x y is =
      ap (λ z. spec.target_step first (map-Target Expr Target step step (spec.expr first) (spec.target first) z)) is
      ∙ sym (fold-roll-Target step step (spec.expr_step first) (spec.target_step first) x)

  each_expr : (e : Expr) → KeepsExpr e
  each_expr = ind-Expr KeepsExpr KeepsTarget
      (λ x y is. subst Keeps (expr_layer x y is) (expr_keeps y))
      (λ x y is. subst Keeps (target_layer x y is) (target_keeps y))

  each_target : (t : Target) → KeepsTarget t
  each_target = ind-Target KeepsExpr KeepsTarget
      (λ x y is. subst Keeps (expr_layer x y is) (expr_keeps y))
      (λ x y is. subst Keeps (target_layer x y is) (target_keeps y))

  -- ---- statements

  abbrev SomeStmt : Type 0
  SomeStmt = (s : Stmt) × Keeps (spec.stmt first s)

  abbrev SomeClause : Type 0
  SomeClause = (c : Clause) × Keeps (spec.clause first c)

  abbrev of_stmt : SomeStmt → Stmt
  of_stmt p = p.0

  abbrev of_clause : SomeClause → Clause
  of_clause p = p.0

  body_keeps : (ps : List SomeStmt) → Keeps (spec.all (map (spec.stmt first) (map of_stmt ps)))
  body_keeps = all_keep (spec.stmt first) of_stmt (λ p. p.1)

  clauses_keep : (ps : List SomeClause) → Keeps (spec.all (map (spec.clause first) (map of_clause ps)))
  clauses_keep = all_keep (spec.clause first) of_clause (λ p. p.1)

  print_keeps : (es : List Expr) → Keeps (spec.exprs first es)
  print_keeps [] s h = h
  print_keeps (e ∷ es) s h = print_keeps es (spec.expr first e s) (each_expr e s h)

  targets_keep : (ts : List Target) → Keeps (spec.targets first ts)
  targets_keep [] s h = h
  targets_keep (t ∷ ts) s h = targets_keep ts (spec.target first t s) (each_target t s h)

  arms_keep : (arms : List (Expr × List SomeStmt))
      → Keeps (spec.arm_steps first (map (λ (p : Expr × List Stmt). (p.0, map (spec.stmt first) p.1)) (map (λ (p : Expr × List SomeStmt). (p.0, map of_stmt p.1)) arms)))
  arms_keep [] s h = h
  arms_keep (arm ∷ arms) s h = arms_keep arms _ (body_keeps arm.1 (spec.expr first arm.0 s) (each_expr arm.0 s h))

  abbrev filled_stmt : Stmt-F SomeStmt SomeClause → Stmt-F step step
  filled_stmt y = map-Stmt Stmt Clause step step (spec.stmt first) (spec.clause first) (map-Stmt SomeStmt SomeClause Stmt Clause of_stmt of_clause y)

  abbrev filled_clause : Clause-F SomeStmt SomeClause → Clause-F step step
  filled_clause y = map-Clause Stmt Clause step step (spec.stmt first) (spec.clause first) (map-Clause SomeStmt SomeClause Stmt Clause of_stmt of_clause y)

  stmt_keeps : (y : Stmt-F SomeStmt SomeClause) → Keeps (spec.stmt_step first (filled_stmt y))
  stmt_keeps (Stmt-F.Pass n) s h = h
  stmt_keeps (Stmt-F.Break n) s h = h
  stmt_keeps (Stmt-F.Continue n) s h = h
  stmt_keeps (Stmt-F.Return n None) s h = h
  stmt_keeps (Stmt-F.Return n (Some e)) s h = each_expr e s h
  stmt_keeps (Stmt-F.Raise n e) s h = each_expr e s h
  stmt_keeps (Stmt-F.Assert n e) s h = each_expr e s h
  stmt_keeps (Stmt-F.Del n a i) s h = each_expr i _ (each_expr a s h)
  stmt_keeps (Stmt-F.Print n es) s h = print_keeps es s h
  stmt_keeps (Stmt-F.Assign n ts e) s h = each_expr e _ (targets_keep ts s h)
  stmt_keeps (Stmt-F.Aug n t op e) s h = each_expr e _ (each_target t s h)
  stmt_keeps (Stmt-F.Expr n e) s h = each_expr e s h
  stmt_keeps (Stmt-F.If n arms other) s h = body_keeps other _ (arms_keep arms s h)
  stmt_keeps (Stmt-F.While n e body) s h = body_keeps body _ (each_expr e s h)
  stmt_keeps (Stmt-F.For n t e body) s h = body_keeps body _ (each_expr e _ (each_target t s h))
  stmt_keeps (Stmt-F.Try n body clauses other None) s h = body_keeps other _ (clauses_keep clauses _ (body_keeps body s h))
  stmt_keeps (Stmt-F.Try n body clauses other (Some last)) s h = body_keeps last _ (body_keeps other _ (clauses_keep clauses _ (body_keeps body s h)))

  clause_keeps : (y : Clause-F SomeStmt SomeClause) → Keeps (spec.clause_step first (filled_clause y))
  clause_keeps y s h = body_keeps y.body s h

  abbrev KeepsStmt : Stmt → Type 0
  KeepsStmt s = Keeps (spec.stmt first s)

  abbrev KeepsClause : Clause → Type 0
  KeepsClause c = Keeps (spec.clause first c)

  stmt_layer : (x : Stmt-F Stmt Clause) (y : Stmt-F SomeStmt SomeClause) → map-Stmt SomeStmt SomeClause Stmt Clause of_stmt of_clause y ≡ x
      → spec.stmt_step first (filled_stmt y) ≡ spec.stmt first (roll-Stmt x)
  stmt_layer x y is =
      ap (λ z. spec.stmt_step first (map-Stmt Stmt Clause step step (spec.stmt first) (spec.clause first) z)) is
      ∙ sym (fold-roll-Stmt step step (spec.stmt_step first) (spec.clause_step first) x)

  clause_layer : (x : Clause-F Stmt Clause) (y : Clause-F SomeStmt SomeClause) → map-Clause SomeStmt SomeClause Stmt Clause of_stmt of_clause y ≡ x
      → spec.clause_step first (filled_clause y) ≡ spec.clause first (roll-Clause x)
  clause_layer x y is =
      ap (λ z. spec.clause_step first (map-Clause Stmt Clause step step (spec.stmt first) (spec.clause first) z)) is
      ∙ sym (fold-roll-Clause step step (spec.stmt_step first) (spec.clause_step first) x)

  each_stmt : (s : Stmt) → KeepsStmt s
  each_stmt = ind-Stmt KeepsStmt KeepsClause
      (λ x y is. subst Keeps (stmt_layer x y is) (stmt_keeps y))
      (λ x y is. subst Keeps (clause_layer x y is) (clause_keeps y))

  block_keeps : (ss : List Stmt) → Keeps (spec.block first ss)
  block_keeps [] s h = h
  block_keeps (x ∷ xs) s h = block_keeps xs (spec.stmt first x s) (each_stmt x s h)

-- ---- members of a class, and the classes of modules

stored_keeps : (ps : List Param) (body : List Stmt) (names : List (List ℕ)) → Distinct names → Distinct (spec.stored ps body names)
stored_keeps [] body names h = h
stored_keeps (p ∷ ps) body names h = block_keeps p.name body (spec.start names) h

member_keeps : (m : Member-F Member ClassDef) (names : List (List ℕ)) → Distinct names → Distinct (with_member m names)
member_keeps (Member-F.Const n name value) names h = name_keeps names name h
member_keeps (Member-F.Def f) names h = stored_keeps f.params f.body names h
member_keeps (Member-F.Import n path) names h = h
member_keeps (Member-F.From n path found) names h = h
member_keeps (Member-F.Class class) names h = h

members_keep : (ms : List Member) (names : List (List ℕ)) → Distinct names → Distinct (declared_by ms names)
members_keep [] names h = h
members_keep (m ∷ ms) names h = members_keep ms (with_member (out-Member m) names) (member_keeps (out-Member m) names h)

abbrev AllDistinct : List (List (List ℕ)) → Type 0
AllDistinct [] = Unit {0}
AllDistinct (names ∷ lists) = Distinct names × AllDistinct lists

one_more : (lists : List (List (List ℕ))) (names : List (List ℕ)) → AllDistinct lists → Distinct names → AllDistinct (lists ++ names ∷ [])
one_more [] names h d = (d, tt)
one_more (x ∷ xs) names h d = (h.0, one_more xs names h.1 d)

class_keeps : (m : Member-F Member ClassDef) (lists : List (List (List ℕ))) → AllDistinct lists → AllDistinct (add_class m lists)
class_keeps (Member-F.Class class) lists h = one_more lists (declared_by (out-ClassDef class).members []) h (members_keep (out-ClassDef class).members [] tt)
class_keeps (Member-F.Import n path) lists h = h
class_keeps (Member-F.From n path found) lists h = h
class_keeps (Member-F.Const n name value) lists h = h
class_keeps (Member-F.Def f) lists h = h

classes_keep : (ms : List Member) (lists : List (List (List ℕ))) → AllDistinct lists → AllDistinct (add_classes ms lists)
classes_keep [] lists h = h
classes_keep (m ∷ ms) lists h = classes_keep ms (add_class (out-Member m) lists) (class_keeps (out-Member m) lists h)

modules_keep : (ms : List Module) (lists : List (List (List ℕ))) → AllDistinct lists → AllDistinct (add_modules ms lists)
modules_keep [] lists h = h
modules_keep (m ∷ ms) lists h = modules_keep ms (add_classes m.members lists) (classes_keep m.members lists h)

none_at_first : (n : ℕ) → AllDistinct (replicate n [])
none_at_first zero = tt
none_at_first (suc n) = (tt, none_at_first n)

own_distinct : (lists : List (List (List ℕ))) (c : ℕ) → AllDistinct lists → Distinct (own lists c)
own_distinct [] c h = tt
own_distinct (x ∷ xs) zero h = h.0
own_distinct (x ∷ xs) (suc c) h = own_distinct xs c h.1

-- a class declares no attribute twice
pub declared_distinct : (ms : List Module) (c : ℕ) → Distinct (own (attributes ms) c)
declared_distinct ms c = own_distinct (attributes ms) c (modules_keep ms (replicate 13 []) (none_at_first 13))
