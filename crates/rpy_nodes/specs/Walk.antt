-- The walk over the trees: each node after its parts, in the order of the text.
use Rattle.std.specs.Prelude.{ℕ, ◌+◌, suc, ℤ, List, [], ◌∷◌, ◌++◌, length, map, Option, Some, None}
use Rattle.rpy_tree.specs.declared.syntax.BinOp.{BinOp}
use Rattle.rpy_tree.specs.declared.syntax.BinOp.TheVariants as binary
use Rattle.rpy_tree.specs.declared.syntax.Expr.{Expr, fold-Expr}
use Rattle.rpy_tree.specs.declared.syntax.Expr.TheFolds.{fold-Target}
use Rattle.rpy_tree.specs.declared.syntax.Expr.TheOpen.{Expr-F, Target-F}
use Rattle.rpy_tree.specs.declared.syntax.Target.{Target}
use Rattle.rpy_tree.specs.declared.syntax.Stmt.{Stmt, fold-Stmt}
use Rattle.rpy_tree.specs.declared.syntax.Stmt.TheFolds.{fold-Clause}
use Rattle.rpy_tree.specs.declared.syntax.Stmt.TheOpen.{Stmt-F, Clause-F}
use Rattle.rpy_tree.specs.declared.syntax.Clause.{Clause}
use Rattle.rpy_nodes.specs.Names.{number, with_name}
use Rattle.rpy_nodes.specs.declared.event.Act.{Act}
use Rattle.rpy_nodes.specs.declared.event.Act.TheVariants as act
use Rattle.rpy_nodes.specs.declared.event.Event.{Event}
use Rattle.rpy_nodes.specs.declared.walk.Walk.{Walk}

abbrev pub number_in : Walk → List ℕ → ℕ
number_in w name = number w.names name

-- a name is seen
abbrev pub seen : Walk → List ℕ → Walk
seen w name = record { names = with_name w.names name; next = w.next; events = w.events }

-- a node without events
abbrev pub skip : Walk → Walk
skip w = record { names = w.names; next = w.next + 1; events = w.events }

abbrev pub push : Act → Walk → Walk
push a w = record { names = w.names; next = w.next + 1; events = w.events ++ record { node = w.next; act = a } ∷ [] }

-- what stands at the next node and is none itself
abbrev pub note : Act → Walk → Walk
note a w = record { names = w.names; next = w.next; events = w.events ++ record { node = w.next; act = a } ∷ [] }

abbrev pub cut : Walk → Walk
cut w = record { names = w.names; next = w.next; events = [] }

-- a node that is said by a name
abbrev pub push_name : (ℕ → Act) → List ℕ → Walk → Walk
push_name say name w = push (say (number w.names name)) (seen w name)

abbrev pub note_name : (ℕ → Act) → List ℕ → Walk → Walk
note_name say name w = note (say (number w.names name)) (seen w name)

-- one part after the other
abbrev pub all : List (Walk → Walk) → Walk → Walk
all [] w = w
all (part ∷ parts) w = all parts (part w)

abbrev pub optional : Option (Walk → Walk) → Walk → Walk
optional None w = w
optional (Some part) w = part w

abbrev pub count : {A : Type 0} → Option A → ℕ
count None = 0
count (Some a) = 1

abbrev pub all_pairs : List ((Walk → Walk) × (Walk → Walk)) → Walk → Walk
all_pairs [] w = w
all_pairs (p ∷ ps) w = all_pairs ps (p.1 (p.0 w))

-- ---- expressions and targets, with the walk over each part in its place

abbrev pub expr_step : Expr-F (Walk → Walk) (Walk → Walk) → Walk → Walk
expr_step (Expr-F.Int n v) w = push (act.Int v) w
expr_step (Expr-F.Str n text) w = push_name act.Str text w
expr_step (Expr-F.Expr::Name n name) w = push_name act.Name name w
expr_step (Expr-F.Unary n op a) w = push (act.Unary op) (a w)
expr_step (Expr-F.Binary n op a b) w = push (act.Binary op) (b (a w))
expr_step (Expr-F.Compare n op a b) w = push (act.Other 2) (b (a w))
expr_step (Expr-F.Logic n is_and a b) w = push (act.Other 2) (b (a w))
expr_step (Expr-F.Not n a) w = push (act.Other 1) (a w)
expr_step (Expr-F.Call n f args) w = push (act.Call (length args)) (all args (f w))
expr_step (Expr-F.Expr::Attr n a name) w = push_name act.Attr name (a w)
expr_step (Expr-F.Index n a i) w = push (act.Other 2) (i (a w))
expr_step (Expr-F.Slice n a from to) w = push (act.Slice (1 + count from + count to)) (optional to (optional from (a w)))
expr_step (Expr-F.Expr::Tuple n items) w = push (act.Tuple (length items)) (all items w)
expr_step (Expr-F.List n items) w = push (act.List (length items)) (all items w)
expr_step (Expr-F.Dict n pairs) w = push (act.Dict (length pairs)) (all_pairs pairs w)
expr_step (Expr-F.Comp n item target over test) w = push (act.Comp (3 + count test)) (optional test (over (target (item w))))

abbrev pub target_step : Target-F (Walk → Walk) (Walk → Walk) → Walk → Walk
target_step (Target-F.Target::Name n name) w = push_name act.Bind name w
target_step (Target-F.Target::Attr n a name) w = push_name act.BindAttr name (a w)
target_step (Target-F.Item n a i) w = push (act.Other 2) (i (a w))
target_step (Target-F.Target::Tuple n parts) w = push (act.Other (length parts)) (all parts w)

abbrev pub expr : Expr → Walk → Walk
expr = fold-Expr (Walk → Walk) (Walk → Walk) expr_step target_step

abbrev pub target : Target → Walk → Walk
target = fold-Target (Walk → Walk) (Walk → Walk) expr_step target_step

abbrev pub exprs : List Expr → Walk → Walk
exprs es w = all (map expr es) w

abbrev pub targets : List Target → Walk → Walk
targets ts w = all (map target ts) w

abbrev pub option_expr : Option Expr → Walk → Walk
option_expr None w = w
option_expr (Some e) w = expr e w

abbrev pub pair : Expr × Expr → Walk → Walk
pair p w = expr p.1 (expr p.0 w)

abbrev pub pairs : List (Expr × Expr) → Walk → Walk
pairs ps w = all_pairs (map (λ p. (expr p.0, expr p.1)) ps) w

-- ---- statements

abbrev pub with_expr : Expr → Walk → Walk
with_expr e w = push (act.Done 1) (expr e w)

abbrev pub return_expr : Option Expr → Walk → Walk
return_expr None w = push (act.Done 0) w
return_expr (Some e) w = with_expr e w

abbrev pub del_expr : Expr → Expr → Walk → Walk
del_expr a i w = push (act.Done 2) (expr i (expr a w))

abbrev pub print_exprs : List Expr → Walk → Walk
print_exprs es w = push (act.Done (length es)) (exprs es w)

abbrev pub assign : List Target → Expr → Walk → Walk
assign ts e w = push (act.Done (length ts + 1)) (expr e (targets ts w))

-- `*=` makes a list, the others may not
abbrev pub augmented : BinOp → Act
augmented binary.Mul = act.Multiply
augmented op = act.Done 2

abbrev pub aug : Target → BinOp → Expr → Walk → Walk
aug t op e w = push (augmented op) (expr e (target t w))

abbrev pub for_head : Target → Expr → Walk → Walk
for_head t e w = push act.For (expr e (target t w))

abbrev pub elif_test : Expr → Walk → Walk
elif_test e w = note act.Elif (expr e w)

-- the head of a clause: the classes, each by its names, then what it binds, then its node
abbrev pub further : List (List ℕ) → Walk → Walk
further [] w = w
further (name ∷ names) w = further names (note_name act.CaughtOf name w)

abbrev pub caught : List (List ℕ) → Walk → Walk
caught [] w = w
caught (name ∷ names) w = note act.CaughtEnd (further names (note_name act.Caught name w))

abbrev pub classes : List (List (List ℕ)) → Walk → Walk
classes [] w = w
classes (path ∷ paths) w = classes paths (caught path w)

abbrev pub catch_name : Option (List ℕ) → Walk → Walk
catch_name None w = w
catch_name (Some name) w = note_name act.Catch name w

abbrev pub clause_head : List (List (List ℕ)) → Option (List ℕ) → Walk → Walk
clause_head paths bind w = push act.Clause (catch_name bind (classes paths w))

-- the first test stands before the statement's node, the others before their blocks
abbrev pub elif_steps : List (Expr × List (Walk → Walk)) → Walk → Walk
elif_steps [] w = w
elif_steps (arm ∷ arms) w = elif_steps arms (all arm.1 (elif_test arm.0 w))

abbrev pub arm_steps : List (Expr × List (Walk → Walk)) → Walk → Walk
arm_steps [] w = push (act.Done 0) w
arm_steps (arm ∷ arms) w = elif_steps arms (all arm.1 (with_expr arm.0 w))

abbrev pub finally_step : Option (List (Walk → Walk)) → Walk → Walk
finally_step None w = w
finally_step (Some body) w = all body w

abbrev pub stmt_step : Stmt-F (Walk → Walk) (Walk → Walk) → Walk → Walk
stmt_step (Stmt-F.Pass n) w = push (act.Done 0) w
stmt_step (Stmt-F.Break n) w = push (act.Done 0) w
stmt_step (Stmt-F.Continue n) w = push (act.Done 0) w
stmt_step (Stmt-F.Return n e) w = return_expr e w
stmt_step (Stmt-F.Raise n e) w = with_expr e w
stmt_step (Stmt-F.Assert n e) w = with_expr e w
stmt_step (Stmt-F.Del n a i) w = del_expr a i w
stmt_step (Stmt-F.Print n es) w = print_exprs es w
stmt_step (Stmt-F.Assign n ts e) w = assign ts e w
stmt_step (Stmt-F.Aug n t op e) w = aug t op e w
stmt_step (Stmt-F.Expr n e) w = with_expr e w
stmt_step (Stmt-F.If n arms other) w = all other (arm_steps arms w)
stmt_step (Stmt-F.While n e body) w = all body (with_expr e w)
stmt_step (Stmt-F.For n t e body) w = all body (for_head t e w)
stmt_step (Stmt-F.Try n body clauses other final) w = finally_step final (all other (all clauses (all body (push (act.Done 0) w))))

abbrev pub clause_step : Clause-F (Walk → Walk) (Walk → Walk) → Walk → Walk
clause_step c w = all c.body (clause_head c.classes c.bind w)

abbrev pub stmt : Stmt → Walk → Walk
stmt = fold-Stmt (Walk → Walk) (Walk → Walk) stmt_step clause_step

abbrev pub clause : Clause → Walk → Walk
clause = fold-Clause (Walk → Walk) (Walk → Walk) stmt_step clause_step

abbrev pub block : List Stmt → Walk → Walk
block body w = all (map stmt body) w

abbrev pub clauses : List Clause → Walk → Walk
clauses cs w = all (map clause cs) w

abbrev pub finally : Option (List Stmt) → Walk → Walk
finally None w = w
finally (Some body) w = block body w

abbrev pub first_arm : Expr × List Stmt → Walk → Walk
first_arm arm w = block arm.1 (with_expr arm.0 w)

abbrev pub other_arm : Expr × List Stmt → Walk → Walk
other_arm arm w = block arm.1 (elif_test arm.0 w)

abbrev pub elifs : List (Expr × List Stmt) → Walk → Walk
elifs arms w = elif_steps (map (λ arm. (arm.0, map stmt arm.1)) arms) w

abbrev pub arms : List (Expr × List Stmt) → Walk → Walk
arms [] w = push (act.Done 0) w
arms (arm ∷ rest) w = elifs rest (first_arm arm w)
