use Rattle.std.proofs.Common.{◌∙◌, sym, ◌≡◌, OnOk, subst}
use Rattle.rpy_tree.specs.declared.syntax.Stmt.TheVariants as v
use Rattle.rpy_tree.specs.declared.syntax.Stmt.TheOpen.{Stmt-F}
use Rattle.class_desc.specs.Stores.{exprs}
use Rattle.class_desc.proofs.Displays.{stmt_said, try_said}
use Rattle.class_desc.proofs.stores.+stmt.Goals as goal

pub read_stmt-returns-in-Return : goal.read_stmt-returns-in-Return
read_stmt-returns-in-Return t c = stmt_said c.args.first.now c.args.s.now (Stmt-F.Return c.in-Return.field-0 c.in-Return.e) c.read_return.result c.read_return.new.stores c.args.stores.now (c.in-Return.is ∙ sym (v.rolls-Return c.in-Return.field-0 c.in-Return.e)) c.read_return.ensures

pub read_stmt-returns-in-Raise : goal.read_stmt-returns-in-Raise
read_stmt-returns-in-Raise t c = stmt_said c.args.first.now c.args.s.now (Stmt-F.Raise c.in-Raise.field-0 c.in-Raise.e) c.read_expr.result c.read_expr.new.stores c.args.stores.now (c.in-Raise.is ∙ sym (v.rolls-Raise c.in-Raise.field-0 c.in-Raise.e)) c.read_expr.ensures

pub read_stmt-returns-in-Assert : goal.read_stmt-returns-in-Assert
read_stmt-returns-in-Assert t c = stmt_said c.args.first.now c.args.s.now (Stmt-F.Assert c.in-Assert.field-0 c.in-Assert.e) c.read_expr-in-Assert.result c.read_expr-in-Assert.new.stores c.args.stores.now (c.in-Assert.is ∙ sym (v.rolls-Assert c.in-Assert.field-0 c.in-Assert.e)) c.read_expr-in-Assert.ensures

pub read_stmt-returns-in-Del : goal.read_stmt-returns-in-Del
read_stmt-returns-in-Del t c = stmt_said c.args.first.now c.args.s.now (Stmt-F.Del c.in-Del.field-0 c.in-Del.a c.in-Del.i) c.read_del.result c.read_del.new.stores c.args.stores.now (c.in-Del.is ∙ sym (v.rolls-Del c.in-Del.field-0 c.in-Del.a c.in-Del.i)) c.read_del.ensures

pub read_stmt-returns-in-Print : goal.read_stmt-returns-in-Print
read_stmt-returns-in-Print t c = stmt_said c.args.first.now c.args.s.now (Stmt-F.Print c.in-Print.field-0 c.in-Print.es) c.read_exprs.result c.read_exprs.new.stores c.args.stores.now (c.in-Print.is ∙ sym (v.rolls-Print c.in-Print.field-0 c.in-Print.es)) (subst (λ es. OnOk c.read_exprs.result (c.read_exprs.new.stores ≡ exprs c.args.first.now es c.args.stores.now)) c.as_slice.ensures c.read_exprs.ensures)

pub read_stmt-returns-in-Assign : goal.read_stmt-returns-in-Assign
read_stmt-returns-in-Assign t c = stmt_said c.args.first.now c.args.s.now (Stmt-F.Assign c.in-Assign.field-0 c.in-Assign.targets c.in-Assign.e) c.read_assign.result c.read_assign.new.stores c.args.stores.now (c.in-Assign.is ∙ sym (v.rolls-Assign c.in-Assign.field-0 c.in-Assign.targets c.in-Assign.e)) c.read_assign.ensures

pub read_stmt-returns-in-Aug : goal.read_stmt-returns-in-Aug
read_stmt-returns-in-Aug t c = stmt_said c.args.first.now c.args.s.now (Stmt-F.Aug c.in-Aug.field-0 c.in-Aug.target c.in-Aug.field-2 c.in-Aug.e) c.read_aimed.result c.read_aimed.new.stores c.args.stores.now (c.in-Aug.is ∙ sym (v.rolls-Aug c.in-Aug.field-0 c.in-Aug.target c.in-Aug.field-2 c.in-Aug.e)) c.read_aimed.ensures

pub read_stmt-returns-in-Expr : goal.read_stmt-returns-in-Expr
read_stmt-returns-in-Expr t c = stmt_said c.args.first.now c.args.s.now (Stmt-F.Expr c.in-Expr.field-0 c.in-Expr.e) c.read_expr-in-Expr.result c.read_expr-in-Expr.new.stores c.args.stores.now (c.in-Expr.is ∙ sym (v.rolls-Expr c.in-Expr.field-0 c.in-Expr.e)) c.read_expr-in-Expr.ensures

pub read_stmt-returns-in-If : goal.read_stmt-returns-in-If
read_stmt-returns-in-If t c = stmt_said c.args.first.now c.args.s.now (Stmt-F.If c.in-If.field-0 c.in-If.arms c.in-If.other) c.read_if.result c.read_if.new.stores c.args.stores.now (c.in-If.is ∙ sym (v.rolls-If c.in-If.field-0 c.in-If.arms c.in-If.other)) c.read_if.ensures

pub read_stmt-returns-in-While : goal.read_stmt-returns-in-While
read_stmt-returns-in-While t c = stmt_said c.args.first.now c.args.s.now (Stmt-F.While c.in-While.field-0 c.in-While.test c.in-While.body) c.read_tested.result c.read_tested.new.stores c.args.stores.now (c.in-While.is ∙ sym (v.rolls-While c.in-While.field-0 c.in-While.test c.in-While.body)) c.read_tested.ensures

pub read_stmt-returns-in-For : goal.read_stmt-returns-in-For
read_stmt-returns-in-For t c = stmt_said c.args.first.now c.args.s.now (Stmt-F.For c.in-For.field-0 c.in-For.target c.in-For.over c.in-For.body) c.read_for.result c.read_for.new.stores c.args.stores.now (c.in-For.is ∙ sym (v.rolls-For c.in-For.field-0 c.in-For.target c.in-For.over c.in-For.body)) c.read_for.ensures

pub read_stmt-returns-in-Try : goal.read_stmt-returns-in-Try
read_stmt-returns-in-Try t c = stmt_said c.args.first.now c.args.s.now (Stmt-F.Try c.in-Try.field-0 c.in-Try.body c.in-Try.clauses c.in-Try.other c.in-Try.last) c.read_try.result c.read_try.new.stores c.args.stores.now (c.in-Try.is ∙ sym (v.rolls-Try c.in-Try.field-0 c.in-Try.body c.in-Try.clauses c.in-Try.other c.in-Try.last)) (try_said c.args.first.now c.in-Try.field-0 c.in-Try.body c.in-Try.clauses c.in-Try.other c.in-Try.last c.read_try.result c.read_try.new.stores c.args.stores.now c.read_try.ensures)
