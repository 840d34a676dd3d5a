-- In the items of trees a name after a dot stands right after an expression, and a further name of the head of a clause, and
-- its end, right after a name of it.
use Rattle.std.proofs.Common.{◌≡◌, ℕ, List, [], ◌∷◌, ◌++◌, Option, Some, None, append_assoc, append-nil, map, sym, ap, ◌∙◌, refl, subst}
use Rattle.rpy_tree.specs.declared.syntax.BinOp.{BinOp}
use Rattle.rpy_tree.specs.declared.syntax.BinOp.TheVariants as binary
use Rattle.rpy_tree.specs.declared.syntax.Expr.{Expr, fold-roll-Expr, map-Expr, ind-Expr}
use Rattle.rpy_tree.specs.declared.syntax.Expr.TheFolds.{fold-roll-Target, map-Target, ind-Target}
use Rattle.rpy_tree.specs.declared.syntax.Expr.TheOpen.{Expr-F, Target-F}
use Rattle.rpy_tree.specs.declared.syntax.Target.{Target}
use Rattle.rpy_tree.specs.declared.syntax.Stmt.{Stmt, fold-roll-Stmt, map-Stmt, ind-Stmt}
use Rattle.rpy_tree.specs.declared.syntax.Stmt.TheFolds.{fold-roll-Clause, map-Clause, ind-Clause}
use Rattle.rpy_tree.specs.declared.syntax.Stmt.TheOpen.{Stmt-F, Clause-F}
use Rattle.rpy_tree.specs.declared.syntax.Clause.{Clause}
use Rattle.names_rules.specs.Order as order
use Rattle.names_rules.specs.Order.{Item, Items, Int, Str, Name, Attr, Unary, Binary, Call, Tuple, List_of, Dict, Slice, Comp, Other, Bind, BindAttr, Done, For, Multiply, Clause_of, Elif, Caught, CaughtOf, CaughtEnd, Catch, all, expr, target, stmt, clause, block}
use Rattle.names_rules.proofs.Layers.{expr_twice, target_twice, stmt_twice, clause_twice}

-- what stands right before: an expression, a name in the head of a clause, or something else
pub data State : Type 0 where
  Plain : State
  Ends : State
  Head : State

abbrev pub IsEnds : State → Type 0
IsEnds Plain = ⊥
IsEnds Ends = Unit {0}
IsEnds Head = ⊥

abbrev pub IsHead : State → Type 0
IsHead Plain = ⊥
IsHead Ends = ⊥
IsHead Head = Unit {0}

abbrev pub Needs : Item → State → Type 0
Needs (Attr name) st = IsEnds st
Needs (CaughtOf name) st = IsHead st
Needs CaughtEnd st = IsHead st
Needs i st = Unit {0}

abbrev pub after : Item → State
after (Int v) = Ends
after (Str text) = Ends
after (Name name) = Ends
after (Attr name) = Ends
after (Unary op) = Ends
after (Binary op) = Ends
after (Call count) = Ends
after (Tuple count) = Ends
after (List_of count) = Ends
after (Dict count) = Ends
after (Slice count) = Ends
after (Comp count) = Ends
after (Other count) = Ends
after (Caught name) = Head
after (CaughtOf name) = Head
after i = Plain

abbrev pub Well : State → Items → Type 0
Well st [] = Unit {0}
Well st (i ∷ is) = Needs i st × Well (after i) is

-- what ends as an expression, and what ends anyhow
pub record Good (xs : Items) : Type 0 where
  pub go : (st : State) (ys : Items) → Well Ends ys → Well st (xs ++ ys)

pub record Fine (xs : Items) : Type 0 where
  pub go : (st : State) (ys : Items) → ((t : State) → Well t ys) → Well st (xs ++ ys)

fine_of : {xs : Items} → Good xs → Fine xs
fine_of g = record { go = λ st ys h. g.go st ys (h Ends) }

fine_none : Fine []
fine_none = record { go = λ st ys h. h st }

fine_both : (xs ys : Items) → Fine xs → Fine ys → Fine (xs ++ ys)
fine_both xs ys f g = record { go = λ st zs h. subst (λ (is : Items). Well st is) (sym (append_assoc xs ys zs)) (f.go st (ys ++ zs) (λ t. g.go t zs h)) }

good_both : (xs ys : Items) → Fine xs → Good ys → Good (xs ++ ys)
good_both xs ys f g = record { go = λ st zs h. subst (λ (is : Items). Well st is) (sym (append_assoc xs ys zs)) (f.go st (ys ++ zs) (λ t. g.go t zs h)) }

fine_item : (i : Item) → ((st : State) → Needs i st) → (xs : Items) → Fine xs → Fine (i ∷ xs)
fine_item i needs xs f = record { go = λ st zs h. (needs st, f.go (after i) zs h) }

good_item : (i : Item) → after i ≡ Ends → ((st : State) → Needs i st) → Good (i ∷ [])
good_item i e needs = record { go = λ st zs h. (needs st, subst (λ (t : State). Well t zs) (sym e) h) }

good_attr : (xs : Items) (name : List ℕ) → Good xs → Good (xs ++ Attr name ∷ [])
good_attr xs name g = record { go = λ st zs h. subst (λ (is : Items). Well st is) (sym (append_assoc xs (Attr name ∷ []) zs)) (g.go st (Attr name ∷ zs) (tt, h)) }

fine_parts : {Y : Type 0} (f : Y → Items) → ((p : Y) → Fine (f p)) → (ps : List Y) → Fine (all (map f ps))
fine_parts f each [] = fine_none
fine_parts f each (p ∷ ps) = fine_both (f p) (all (map f ps)) (each p) (fine_parts f each ps)

-- ---- expressions

abbrev SomeExpr : Type 0
SomeExpr = (e : Expr) × Good (expr e)

abbrev SomeTarget : Type 0
SomeTarget = (t : Target) × Fine (target t)

abbrev of : SomeExpr → Items
of p = expr p.0

abbrev of_target : SomeTarget → Items
of_target p = target p.0

parts : (ps : List SomeExpr) → Fine (all (map of ps))
parts ps = fine_parts of (λ p. fine_of p.1) ps

pairs_fine : (ps : List (SomeExpr × SomeExpr)) → Fine (order.all_pairs (map (λ (p : SomeExpr × SomeExpr). (of p.0, of p.1)) ps))
pairs_fine [] = fine_none
pairs_fine (p ∷ ps) = fine_both (of p.0) _ (fine_of p.0.1) (fine_both (of p.1) _ (fine_of p.1.1) (pairs_fine ps))

abbrev filled : Expr-F SomeExpr SomeTarget → Expr-F Items Items
filled y = map-Expr SomeExpr SomeTarget Items Items of of_target y

abbrev filled_target : Target-F SomeExpr SomeTarget → Target-F Items Items
filled_target y = map-Target SomeExpr SomeTarget Items Items of of_target y

expr_ok : (y : Expr-F SomeExpr SomeTarget) → Good (order.in_expr (filled y))
expr_ok (Expr-F.Int n v) = good_item (Int v) refl (λ st. tt)
expr_ok (Expr-F.Str n text) = good_item (Str text) refl (λ st. tt)
expr_ok (Expr-F.Expr::Name n name) = good_item (Name name) refl (λ st. tt)
expr_ok (Expr-F.Unary n op a) = good_both (of a) _ (fine_of a.1) (good_item (Unary op) refl (λ st. tt))
expr_ok (Expr-F.Binary n op a b) = good_both (of a) _ (fine_of a.1) (good_both (of b) _ (fine_of b.1) (good_item (Binary op) refl (λ st. tt)))
expr_ok (Expr-F.Compare n op a b) = good_both (of a) _ (fine_of a.1) (good_both (of b) _ (fine_of b.1) (good_item (Other 2) refl (λ st. tt)))
expr_ok (Expr-F.Logic n is_and a b) = good_both (of a) _ (fine_of a.1) (good_both (of b) _ (fine_of b.1) (good_item (Other 2) refl (λ st. tt)))
expr_ok (Expr-F.Not n a) = good_both (of a) _ (fine_of a.1) (good_item (Other 1) refl (λ st. tt))
expr_ok (Expr-F.Call n f args) = good_both (of f) _ (fine_of f.1) (good_both _ _ (parts args) (good_item _ refl (λ st. tt)))
expr_ok (Expr-F.Expr::Attr n a name) = good_attr (of a) name a.1
expr_ok (Expr-F.Index n a i) = good_both (of a) _ (fine_of a.1) (good_both (of i) _ (fine_of i.1) (good_item (Other 2) refl (λ st. tt)))
expr_ok (Expr-F.Slice n a None None) = good_both (of a) _ (fine_of a.1) (good_item (Slice 1) refl (λ st. tt))
expr_ok (Expr-F.Slice n a None (Some to)) = good_both (of a) _ (fine_of a.1) (good_both (of to) _ (fine_of to.1) (good_item (Slice 2) refl (λ st. tt)))
expr_ok (Expr-F.Slice n a (Some from) None) = good_both (of a) _ (fine_of a.1) (good_both (of from) _ (fine_of from.1) (good_item (Slice 2) refl (λ st. tt)))
expr_ok (Expr-F.Slice n a (Some from) (Some to)) = good_both (of a) _ (fine_of a.1) (good_both (of from) _ (fine_of from.1) (good_both (of to) _ (fine_of to.1) (good_item (Slice 3) refl (λ st. tt))))
expr_ok (Expr-F.Expr::Tuple n items) = good_both _ _ (parts items) (good_item _ refl (λ st. tt))
expr_ok (Expr-F.List n items) = good_both _ _ (parts items) (good_item _ refl (λ st. tt))
expr_ok (Expr-F.Dict n pairs) = good_both _ _ (pairs_fine pairs) (good_item _ refl (λ st. tt))
expr_ok (Expr-F.Comp n item target over None) = good_both (of item) _ (fine_of item.1) (good_both (of_target target) _ target.1 (good_both (of over) _ (fine_of over.1) (good_item (Comp 3) refl (λ st. tt))))
expr_ok (Expr-F.Comp n item target over (Some test)) = good_both (of item) _ (fine_of item.1) (good_both (of_target target) _ target.1 (good_both (of over) _ (fine_of over.1) (good_both (of test) _ (fine_of test.1) (good_item (Comp 4) refl (λ st. tt)))))

target_ok : (y : Target-F SomeExpr SomeTarget) → Fine (order.in_target (filled_target y))
target_ok (Target-F.Target::Name n name) = fine_item (Bind name) (λ st. tt) [] fine_none
target_ok (Target-F.Target::Attr n a name) = fine_both (of a) _ (fine_of a.1) (fine_item (BindAttr name) (λ st. tt) [] fine_none)
target_ok (Target-F.Item n a i) = fine_both (of a) _ (fine_of a.1) (fine_both (of i) _ (fine_of i.1) (fine_item (Other 2) (λ st. tt) [] fine_none))
target_ok (Target-F.Target::Tuple n ts) = fine_both _ _ (fine_parts of_target (λ p. p.1) ts) (fine_item _ (λ st. tt) [] fine_none)

expr_layer : (x : Expr-F Expr Target) (y : Expr-F SomeExpr SomeTarget) → map-Expr SomeExpr SomeTarget Expr Target (λ p. p.0) (λ p. p.0) y ≡ x → order.in_expr (filled y) ≡ order.in_expr (map-Expr Expr Target Items Items expr target x)
expr_layer x y is = ap order.in_expr (sym (expr_twice SomeExpr SomeTarget Expr Target Items Items (λ p. p.0) (λ p. p.0) expr target y) ∙ ap (map-Expr Expr Target Items Items expr target) is)

target_layer : (x : Target-F Expr Target) (y : Target-F SomeExpr SomeTarget) → map-Target SomeExpr SomeTarget Expr Target (λ p. p.0) (λ p. p.0) y ≡ x → order.in_target (filled_target y) ≡ order.in_target (map-Target Expr Target Items Items expr target x)
target_layer x y is = ap order.in_target (sym (target_twice SomeExpr SomeTarget Expr Target Items Items (λ p. p.0) (λ p. p.0) expr target y) ∙ ap (map-Target Expr Target Items Items expr target) is)

pub expr_good : (e : Expr) → Good (expr e)
expr_good = ind-Expr (λ e. Good (expr e)) (λ t. Fine (target t))
    (λ x y is. subst (λ (xs : Items). Good xs) (expr_layer x y is ∙ sym (fold-roll-Expr Items Items order.in_expr order.in_target x)) (expr_ok y))
    (λ x y is. subst (λ (xs : Items). Fine xs) (target_layer x y is ∙ sym (fold-roll-Target Items Items order.in_expr order.in_target x)) (target_ok y))

pub target_fine : (t : Target) → Fine (target t)
target_fine = ind-Target (λ e. Good (expr e)) (λ t. Fine (target t))
    (λ x y is. subst (λ (xs : Items). Good xs) (expr_layer x y is ∙ sym (fold-roll-Expr Items Items order.in_expr order.in_target x)) (expr_ok y))
    (λ x y is. subst (λ (xs : Items). Fine xs) (target_layer x y is ∙ sym (fold-roll-Target Items Items order.in_expr order.in_target x)) (target_ok y))

expr_fine : (e : Expr) → Fine (expr e)
expr_fine e = fine_of (expr_good e)

-- ---- statements

abbrev SomeStmt : Type 0
SomeStmt = (s : Stmt) × Fine (stmt s)

abbrev SomeClause : Type 0
SomeClause = (c : Clause) × Fine (clause c)

abbrev of_stmt : SomeStmt → Items
of_stmt p = stmt p.0

abbrev of_clause : SomeClause → Items
of_clause p = clause p.0

body_fine : (ps : List SomeStmt) → Fine (all (map of_stmt ps))
body_fine ps = fine_parts of_stmt (λ p. p.1) ps

item_fine : (i : Item) → ((st : State) → Needs i st) → Fine (i ∷ [])
item_fine i needs = fine_item i needs [] fine_none

further_fine : (arms : List (Expr × List SomeStmt)) → Fine (order.further_arms (map (λ (p : Expr × List SomeStmt). (p.0, map of_stmt p.1)) arms))
further_fine [] = fine_none
further_fine (arm ∷ arms) = fine_both (expr arm.0) _ (expr_fine arm.0) (fine_item Elif (λ st. tt) _ (fine_both (all (map of_stmt arm.1)) _ (body_fine arm.1) (further_fine arms)))

arms_fine : (arms : List (Expr × List SomeStmt)) → Fine (order.all_arms (map (λ (p : Expr × List SomeStmt). (p.0, map of_stmt p.1)) arms))
arms_fine [] = item_fine (Done 0) (λ st. tt)
arms_fine (arm ∷ arms) = fine_both (expr arm.0) _ (expr_fine arm.0) (fine_item (Done 1) (λ st. tt) _ (fine_both (all (map of_stmt arm.1)) _ (body_fine arm.1) (further_fine arms)))

augmented_fine : (op : BinOp) → Fine (order.augmented op ∷ [])
augmented_fine binary.Mul = item_fine Multiply (λ st. tt)
augmented_fine op = item_fine (Done 2) (λ st. tt)

abbrev filled_stmt : Stmt-F SomeStmt SomeClause → Stmt-F Items Items
filled_stmt y = map-Stmt SomeStmt SomeClause Items Items of_stmt of_clause y

abbrev filled_clause : Clause-F SomeStmt SomeClause → Clause-F Items Items
filled_clause y = map-Clause SomeStmt SomeClause Items Items of_stmt of_clause y

stmt_ok : (y : Stmt-F SomeStmt SomeClause) → Fine (order.in_stmt (filled_stmt y))
stmt_ok (Stmt-F.Pass n) = item_fine (Done 0) (λ st. tt)
stmt_ok (Stmt-F.Break n) = item_fine (Done 0) (λ st. tt)
stmt_ok (Stmt-F.Continue n) = item_fine (Done 0) (λ st. tt)
stmt_ok (Stmt-F.Return n None) = item_fine (Done 0) (λ st. tt)
stmt_ok (Stmt-F.Return n (Some e)) = fine_both (expr e) _ (expr_fine e) (item_fine (Done 1) (λ st. tt))
stmt_ok (Stmt-F.Raise n e) = fine_both (expr e) _ (expr_fine e) (item_fine (Done 1) (λ st. tt))
stmt_ok (Stmt-F.Assert n e) = fine_both (expr e) _ (expr_fine e) (item_fine (Done 1) (λ st. tt))
stmt_ok (Stmt-F.Del n a i) = fine_both (expr a) _ (expr_fine a) (fine_both (expr i) _ (expr_fine i) (item_fine (Done 2) (λ st. tt)))
stmt_ok (Stmt-F.Print n es) = fine_both (all (map expr es)) _ (fine_parts expr expr_fine es) (item_fine _ (λ st. tt))
stmt_ok (Stmt-F.Assign n ts e) = fine_both (all (map target ts)) _ (fine_parts target target_fine ts) (fine_both (expr e) _ (expr_fine e) (item_fine _ (λ st. tt)))
stmt_ok (Stmt-F.Aug n t op e) = fine_both (target t) _ (target_fine t) (fine_both (expr e) _ (expr_fine e) (augmented_fine op))
stmt_ok (Stmt-F.Expr n e) = fine_both (expr e) _ (expr_fine e) (item_fine (Done 1) (λ st. tt))
stmt_ok (Stmt-F.If n arms other) = fine_both _ _ (arms_fine arms) (body_fine other)
stmt_ok (Stmt-F.While n e body) = fine_both (expr e) _ (expr_fine e) (fine_item (Done 1) (λ st. tt) _ (body_fine body))
stmt_ok (Stmt-F.For n t e body) = fine_both (target t) _ (target_fine t) (fine_both (expr e) _ (expr_fine e) (fine_item For (λ st. tt) _ (body_fine body)))
stmt_ok (Stmt-F.Try n body clauses other None) = fine_item (Done 0) (λ st. tt) _ (fine_both _ _ (body_fine body) (fine_both _ _ (fine_parts of_clause (λ p. p.1) clauses) (fine_both _ _ (body_fine other) fine_none)))
stmt_ok (Stmt-F.Try n body clauses other (Some last)) = fine_item (Done 0) (λ st. tt) _ (fine_both _ _ (body_fine body) (fine_both _ _ (fine_parts of_clause (λ p. p.1) clauses) (fine_both _ _ (body_fine other) (body_fine last))))

heads : (names : List (List ℕ)) (ys : Items) → ((t : State) → Well t ys) → Well Head ((order.further_names names ++ CaughtEnd ∷ []) ++ ys)
heads [] ys h = (tt, h Plain)
heads (name ∷ names) ys h = (tt, heads names ys h)

class_fine : (path : List (List ℕ)) → Fine (order.class_names path)
class_fine [] = fine_none
class_fine (name ∷ names) = record { go = λ st ys h. (tt, heads names ys h) }

catches_fine : (paths : List (List (List ℕ))) → Fine (order.catches paths)
catches_fine [] = fine_none
catches_fine (path ∷ paths) = fine_both (order.class_names path) (order.catches paths) (class_fine path) (catches_fine paths)

bound_fine : (o : Option (List ℕ)) → Fine (order.bound_by o)
bound_fine None = fine_none
bound_fine (Some name) = item_fine (Catch name) (λ st. tt)

clause_ok : (y : Clause-F SomeStmt SomeClause) → Fine (order.in_clause (filled_clause y))
clause_ok y = fine_both (order.catches y.classes) _ (catches_fine y.classes) (fine_both (order.bound_by y.bind) _ (bound_fine y.bind) (fine_item Clause_of (λ st. tt) _ (body_fine y.body)))

stmt_layer : (x : Stmt-F Stmt Clause) (y : Stmt-F SomeStmt SomeClause) → map-Stmt SomeStmt SomeClause Stmt Clause (λ p. p.0) (λ p. p.0) y ≡ x → order.in_stmt (filled_stmt y) ≡ order.in_stmt (map-Stmt Stmt Clause Items Items stmt clause x)
stmt_layer x y is = ap order.in_stmt (sym (stmt_twice SomeStmt SomeClause Stmt Clause Items Items (λ p. p.0) (λ p. p.0) stmt clause y) ∙ ap (map-Stmt Stmt Clause Items Items stmt clause) is)

clause_layer : (x : Clause-F Stmt Clause) (y : Clause-F SomeStmt SomeClause) → map-Clause SomeStmt SomeClause Stmt Clause (λ p. p.0) (λ p. p.0) y ≡ x → order.in_clause (filled_clause y) ≡ order.in_clause (map-Clause Stmt Clause Items Items stmt clause x)
clause_layer x y is = ap order.in_clause (sym (clause_twice SomeStmt SomeClause Stmt Clause Items Items (λ p. p.0) (λ p. p.0) stmt clause y) ∙ ap (map-Clause Stmt Clause Items Items stmt clause) is)

stmt_fine : (s : Stmt) → Fine (stmt s)
stmt_fine = ind-Stmt (λ s. Fine (stmt s)) (λ c. Fine (clause c))
    (λ x y is. subst (λ (xs : Items). Fine xs) (stmt_layer x y is ∙ sym (fold-roll-Stmt Items Items order.in_stmt order.in_clause x)) (stmt_ok y))
    (λ x y is. subst (λ (xs : Items). Fine xs) (clause_layer x y is ∙ sym (fold-roll-Clause Items Items order.in_stmt order.in_clause x)) (clause_ok y))

alone : (xs : Items) (st : State) → Fine xs → Well st xs
alone xs st f = subst (λ (is : Items). Well st is) (append-nil xs) (f.go st [] (λ t. tt))

pub expr_well : (e : Expr) → Well Plain (expr e)
expr_well e = alone (expr e) Plain (expr_fine e)

pub block_well : (body : List Stmt) → Well Plain (block body)
block_well body = alone (block body) Plain (fine_parts stmt stmt_fine body)
