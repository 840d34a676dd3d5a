-- The walk over a tree takes its items one by one.
use Rattle.std.proofs.Common.{◌≡◌, ℕ, List, [], ◌∷◌, ◌++◌, Option, Some, None, map, ap, ◌∙◌, refl}
use Rattle.std.proofs.lemmas.List.{length-map}
use Rattle.rpy_tree.specs.declared.syntax.Expr.{Expr, map-Expr}
use Rattle.rpy_tree.specs.declared.syntax.Expr.TheFolds.{map-Target}
use Rattle.rpy_tree.specs.declared.syntax.Expr.TheOpen.{Expr-F, Target-F}
use Rattle.rpy_tree.specs.declared.syntax.Target.{Target}
use Rattle.rpy_tree.specs.declared.syntax.BinOp.{BinOp}
use Rattle.rpy_tree.specs.declared.syntax.BinOp.TheVariants as binary
use Rattle.rpy_tree.specs.declared.syntax.Stmt.{Stmt, map-Stmt}
use Rattle.rpy_tree.specs.declared.syntax.Stmt.TheFolds.{map-Clause}
use Rattle.rpy_tree.specs.declared.syntax.Stmt.TheOpen.{Stmt-F, Clause-F}
use Rattle.rpy_nodes.specs.declared.event.Act.TheVariants as act
use Rattle.rpy_nodes.specs.Walk as walk
use Rattle.rpy_nodes.specs.declared.walk.Walk.{Walk}
use Rattle.names_rules.specs.Order as order
use Rattle.names_rules.specs.Order.{Items}
use Rattle.names_rules.specs.Walked.{after}
use Rattle.names_rules.proofs.Fusion.{expr_fuses, target_fuses}
use Rattle.names_rules.proofs.StmtFusion.{stmt_fuses}

abbrev Walking : Type 0
Walking = Walk → Walk

pub after_append : (xs ys : Items) (w : Walk) → after (xs ++ ys) w ≡ after ys (after xs w)
after_append [] ys w = refl
after_append (x ∷ xs) ys w = after_append xs ys _

pub after_all : (parts : List Items) (w : Walk) → after (order.all parts) w ≡ walk.all (map after parts) w
after_all [] w = refl
after_all (part ∷ parts) w = after_append part (order.all parts) w ∙ after_all parts (after part w)

after_pairs : (ps : List (Items × Items)) (w : Walk) → after (order.all_pairs ps) w ≡ walk.all_pairs (map {A = Items × Items} {B = Walking × Walking} (λ p. (after p.0, after p.1)) ps) w
after_pairs [] w = refl
after_pairs (p ∷ ps) w = after_append p.0 (p.1 ++ order.all_pairs ps) w ∙ after_append p.1 (order.all_pairs ps) (after p.0 w) ∙ after_pairs ps (after p.1 (after p.0 w))

in_expr : (x : Expr-F Items Items) (w : Walk) → after (order.in_expr x) w ≡ walk.expr_step (map-Expr Items Items Walking Walking after after x) w
in_expr (Expr-F.Int n v) w = refl
in_expr (Expr-F.Str n text) w = refl
in_expr (Expr-F.Expr::Name n name) w = refl
in_expr (Expr-F.Unary n op a) w = simp after_append
in_expr (Expr-F.Binary n op a b) w = simp after_append
in_expr (Expr-F.Compare n op a b) w = simp after_append
in_expr (Expr-F.Logic n is_and a b) w = simp after_append
in_expr (Expr-F.Not n a) w = simp after_append
in_expr (Expr-F.Call n f args) w = simp (after_append, after_all, length-map)
in_expr (Expr-F.Expr::Attr n a name) w = simp after_append
in_expr (Expr-F.Index n a i) w = simp after_append
in_expr (Expr-F.Slice n a None None) w = simp after_append
in_expr (Expr-F.Slice n a None (Some to)) w = simp after_append
in_expr (Expr-F.Slice n a (Some from) None) w = simp after_append
in_expr (Expr-F.Slice n a (Some from) (Some to)) w = simp after_append
in_expr (Expr-F.Expr::Tuple n items) w = simp (after_append, after_all, length-map)
in_expr (Expr-F.List n items) w = simp (after_append, after_all, length-map)
in_expr (Expr-F.Dict n pairs) w = simp (after_append, after_pairs, length-map)
in_expr (Expr-F.Comp n item target over None) w = simp after_append
in_expr (Expr-F.Comp n item target over (Some test)) w = simp after_append

in_target : (x : Target-F Items Items) (w : Walk) → after (order.in_target x) w ≡ walk.target_step (map-Target Items Items Walking Walking after after x) w
in_target (Target-F.Target::Name n name) w = refl
in_target (Target-F.Target::Attr n a name) w = simp after_append
in_target (Target-F.Item n a i) w = simp after_append
in_target (Target-F.Target::Tuple n parts) w = simp (after_append, after_all, length-map)

expr_path : (e : Expr) → after (order.expr e) ≡ walk.expr e
expr_path = expr_fuses Items Items Walking Walking after after order.in_expr order.in_target walk.expr_step walk.target_step (λ x i w. in_expr x w i) (λ x i w. in_target x w i)

target_path : (t : Target) → after (order.target t) ≡ walk.target t
target_path = target_fuses Items Items Walking Walking after after order.in_expr order.in_target walk.expr_step walk.target_step (λ x i w. in_expr x w i) (λ x i w. in_target x w i)

pub after_expr : (e : Expr) (w : Walk) → after (order.expr e) w ≡ walk.expr e w
after_expr e w = ap (λ f. f w) (expr_path e)

pub after_target : (t : Target) (w : Walk) → after (order.target t) w ≡ walk.target t w
after_target t w = ap (λ f. f w) (target_path t)

-- ---- statements

after_exprs : (es : List Expr) (w : Walk) → after (order.all (map order.expr es)) w ≡ walk.exprs es w
after_exprs [] w = refl
after_exprs (e ∷ es) w = simp (after_append, after_expr, after_exprs es)

after_targets : (ts : List Target) (w : Walk) → after (order.all (map order.target ts)) w ≡ walk.targets ts w
after_targets [] w = refl
after_targets (t ∷ ts) w = simp (after_append, after_target, after_targets ts)

further_arms : (arms : List (Expr × List Items)) (w : Walk) → after (order.further_arms arms) w ≡ walk.elif_steps (map {A = Expr × List Items} {B = Expr × List Walking} (λ p. (p.0, map after p.1)) arms) w
further_arms [] w = refl
further_arms (arm ∷ arms) w = simp (after_append, after_all, after_expr, further_arms arms)

all_arms : (arms : List (Expr × List Items)) (w : Walk) → after (order.all_arms arms) w ≡ walk.arm_steps (map {A = Expr × List Items} {B = Expr × List Walking} (λ p. (p.0, map after p.1)) arms) w
all_arms [] w = refl
all_arms (arm ∷ arms) w = simp (after_append, after_all, after_expr, further_arms)

augmented_walked : (op : BinOp) (w : Walk) → after (order.augmented op ∷ []) w ≡ walk.push (walk.augmented op) w
augmented_walked binary.Add w = refl
augmented_walked binary.Sub w = refl
augmented_walked binary.Mul w = refl
augmented_walked binary.Div w = refl
augmented_walked binary.FloorDiv w = refl
augmented_walked binary.Mod w = refl
augmented_walked binary.Shl w = refl
augmented_walked binary.Shr w = refl
augmented_walked binary.BitAnd w = refl
augmented_walked binary.BitOr w = refl
augmented_walked binary.BitXor w = refl

in_stmt : (x : Stmt-F Items Items) (w : Walk) → after (order.in_stmt x) w ≡ walk.stmt_step (map-Stmt Items Items Walking Walking after after x) w
in_stmt (Stmt-F.Pass n) w = refl
in_stmt (Stmt-F.Break n) w = refl
in_stmt (Stmt-F.Continue n) w = refl
in_stmt (Stmt-F.Return n None) w = refl
in_stmt (Stmt-F.Return n (Some e)) w = simp (after_append, after_expr)
in_stmt (Stmt-F.Raise n e) w = simp (after_append, after_expr)
in_stmt (Stmt-F.Assert n e) w = simp (after_append, after_expr)
in_stmt (Stmt-F.Del n a i) w = simp (after_append, after_expr)
in_stmt (Stmt-F.Print n es) w = simp (after_append, after_exprs)
in_stmt (Stmt-F.Assign n ts e) w = simp (after_append, after_targets, after_expr)
in_stmt (Stmt-F.Aug n t op e) w = simp (after_append, after_target, after_expr) (augmented_walked op (walk.expr e (walk.target t w)))
in_stmt (Stmt-F.Expr n e) w = simp (after_append, after_expr)
in_stmt (Stmt-F.If n arms other) w = simp (after_append, all_arms, after_all)
in_stmt (Stmt-F.While n e body) w = simp (after_append, after_all, after_expr)
in_stmt (Stmt-F.For n t e body) w = simp (after_append, after_all, after_expr, after_target)
in_stmt (Stmt-F.Try n body clauses other None) w = simp (after_append, after_all)
in_stmt (Stmt-F.Try n body clauses other (Some last)) w = simp (after_append, after_all)

further_names : (names : List (List ℕ)) (w : Walk) → after (order.further_names names) w ≡ walk.further names w
further_names [] w = refl
further_names (name ∷ names) w = further_names names (walk.note_name act.CaughtOf name w)

class_names : (path : List (List ℕ)) (w : Walk) → after (order.class_names path) w ≡ walk.caught path w
class_names [] w = refl
class_names (name ∷ names) w = simp (after_append, further_names)

catches : (paths : List (List (List ℕ))) (w : Walk) → after (order.catches paths) w ≡ walk.classes paths w
catches [] w = refl
catches (path ∷ paths) w = simp (after_append, class_names, catches paths)

bound_by : (name : Option (List ℕ)) (w : Walk) → after (order.bound_by name) w ≡ walk.catch_name name w
bound_by None w = refl
bound_by (Some name) w = refl

in_clause : (x : Clause-F Items Items) (w : Walk) → after (order.in_clause x) w ≡ walk.clause_step (map-Clause Items Items Walking Walking after after x) w
in_clause x w = simp (after_append, catches, bound_by, after_all)

stmt_path : (s : Stmt) → after (order.stmt s) ≡ walk.stmt s
stmt_path = stmt_fuses Items Items Walking Walking after after order.in_stmt order.in_clause walk.stmt_step walk.clause_step (λ x i w. in_stmt x w i) (λ x i w. in_clause x w i)

pub after_stmt : (s : Stmt) (w : Walk) → after (order.stmt s) w ≡ walk.stmt s w
after_stmt s w = ap (λ f. f w) (stmt_path s)

pub after_block : (body : List Stmt) (w : Walk) → after (order.block body) w ≡ walk.block body w
after_block [] w = refl
after_block (s ∷ body) w = simp (after_append, after_stmt, after_block body)
