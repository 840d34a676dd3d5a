use Rattle.std.proofs.Common.{◌∙◌, sym, ap}
use Rattle.rpy_tree.specs.declared.syntax.Stmt.TheVariants as v
use Rattle.rpy_tree.specs.declared.syntax.Stmt.TheOpen.{Stmt-F}
use Rattle.rpy_kinds.specs.declared.kind.Kind.TheVariants as kind
use Rattle.rpy_kinds.specs.Search.{note}
use Rattle.rpy_kinds.proofs.Displays.{stmt_said, try_said}
use Rattle.rpy_kinds.proofs.search.+stmt.Goals as goal

pub read_stmt-returns-in-Pass : goal.read_stmt-returns-in-Pass
read_stmt-returns-in-Pass t c = stmt_said c.args.node c.args.s.now (Stmt-F.Pass c.in-Pass.n) c.note.new.self c.args.search.now (c.in-Pass.is ∙ sym (v.rolls-Pass c.in-Pass.n)) c.note.ensures

pub read_stmt-returns-in-Break : goal.read_stmt-returns-in-Break
read_stmt-returns-in-Break t c = stmt_said c.args.node c.args.s.now (Stmt-F.Break c.in-Break.n) c.note-in-Break.new.self c.args.search.now (c.in-Break.is ∙ sym (v.rolls-Break c.in-Break.n)) c.note-in-Break.ensures

pub read_stmt-returns-in-Continue : goal.read_stmt-returns-in-Continue
read_stmt-returns-in-Continue t c = stmt_said c.args.node c.args.s.now (Stmt-F.Continue c.in-Continue.n) c.note-in-Continue.new.self c.args.search.now (c.in-Continue.is ∙ sym (v.rolls-Continue c.in-Continue.n)) c.note-in-Continue.ensures

pub read_stmt-returns-in-Return : goal.read_stmt-returns-in-Return
read_stmt-returns-in-Return t c = stmt_said c.args.node c.args.s.now (Stmt-F.Return c.in-Return.n c.in-Return.e) c.note-in-Return.new.self c.args.search.now (c.in-Return.is ∙ sym (v.rolls-Return c.in-Return.n c.in-Return.e)) (c.note-in-Return.ensures ∙ ap (note c.args.node c.in-Return.n kind.Return) c.read_return.ensures)

pub read_stmt-returns-in-Raise : goal.read_stmt-returns-in-Raise
read_stmt-returns-in-Raise t c = stmt_said c.args.node c.args.s.now (Stmt-F.Raise c.in-Raise.n c.in-Raise.e) c.read_alone.new.search c.args.search.now (c.in-Raise.is ∙ sym (v.rolls-Raise c.in-Raise.n c.in-Raise.e)) c.read_alone.ensures

pub read_stmt-returns-in-Assert : goal.read_stmt-returns-in-Assert
read_stmt-returns-in-Assert t c = stmt_said c.args.node c.args.s.now (Stmt-F.Assert c.in-Assert.n c.in-Assert.e) c.read_alone-in-Assert.new.search c.args.search.now (c.in-Assert.is ∙ sym (v.rolls-Assert c.in-Assert.n c.in-Assert.e)) c.read_alone-in-Assert.ensures

pub read_stmt-returns-in-Del : goal.read_stmt-returns-in-Del
read_stmt-returns-in-Del t c = stmt_said c.args.node c.args.s.now (Stmt-F.Del c.in-Del.n c.in-Del.a c.in-Del.i) c.read_both.new.search c.args.search.now (c.in-Del.is ∙ sym (v.rolls-Del c.in-Del.n c.in-Del.a c.in-Del.i)) c.read_both.ensures

pub read_stmt-returns-in-Print : goal.read_stmt-returns-in-Print
read_stmt-returns-in-Print t c = stmt_said c.args.node c.args.s.now (Stmt-F.Print c.in-Print.n c.in-Print.es) c.read_items.new.search c.args.search.now (c.in-Print.is ∙ sym (v.rolls-Print c.in-Print.n c.in-Print.es)) c.read_items.ensures

pub read_stmt-returns-in-Assign : goal.read_stmt-returns-in-Assign
read_stmt-returns-in-Assign t c = stmt_said c.args.node c.args.s.now (Stmt-F.Assign c.in-Assign.n c.in-Assign.targets c.in-Assign.e) c.read_assign.new.search c.args.search.now (c.in-Assign.is ∙ sym (v.rolls-Assign c.in-Assign.n c.in-Assign.targets c.in-Assign.e)) c.read_assign.ensures

pub read_stmt-returns-in-Aug : goal.read_stmt-returns-in-Aug
read_stmt-returns-in-Aug t c = stmt_said c.args.node c.args.s.now (Stmt-F.Aug c.in-Aug.n c.in-Aug.target c.in-Aug.field-2 c.in-Aug.e) c.note-in-Aug.new.self c.args.search.now (c.in-Aug.is ∙ sym (v.rolls-Aug c.in-Aug.n c.in-Aug.target c.in-Aug.field-2 c.in-Aug.e)) (c.note-in-Aug.ensures ∙ ap (note c.args.node c.in-Aug.n kind.Aug) c.read_aimed.ensures)

pub read_stmt-returns-in-Expr : goal.read_stmt-returns-in-Expr
read_stmt-returns-in-Expr t c = stmt_said c.args.node c.args.s.now (Stmt-F.Expr c.in-Expr.n c.in-Expr.e) c.read_alone-in-Expr.new.search c.args.search.now (c.in-Expr.is ∙ sym (v.rolls-Expr c.in-Expr.n c.in-Expr.e)) c.read_alone-in-Expr.ensures

pub read_stmt-returns-in-If : goal.read_stmt-returns-in-If
read_stmt-returns-in-If t c = stmt_said c.args.node c.args.s.now (Stmt-F.If c.in-If.n c.in-If.arms c.in-If.other) c.read_if.new.search c.args.search.now (c.in-If.is ∙ sym (v.rolls-If c.in-If.n c.in-If.arms c.in-If.other)) c.read_if.ensures

pub read_stmt-returns-in-While : goal.read_stmt-returns-in-While
read_stmt-returns-in-While t c = stmt_said c.args.node c.args.s.now (Stmt-F.While c.in-While.n c.in-While.test c.in-While.body) c.note-in-While.new.self c.args.search.now (c.in-While.is ∙ sym (v.rolls-While c.in-While.n c.in-While.test c.in-While.body)) (c.note-in-While.ensures ∙ ap (note c.args.node c.in-While.n kind.While) c.read_tested.ensures)

pub read_stmt-returns-in-For : goal.read_stmt-returns-in-For
read_stmt-returns-in-For t c = stmt_said c.args.node c.args.s.now (Stmt-F.For c.in-For.n c.in-For.target c.in-For.over c.in-For.body) c.read_for.new.search c.args.search.now (c.in-For.is ∙ sym (v.rolls-For c.in-For.n c.in-For.target c.in-For.over c.in-For.body)) c.read_for.ensures

pub read_stmt-returns-in-Try : goal.read_stmt-returns-in-Try
read_stmt-returns-in-Try t c = stmt_said c.args.node c.args.s.now (Stmt-F.Try c.in-Try.n c.in-Try.body c.in-Try.clauses c.in-Try.other c.in-Try.last) c.read_try.new.search c.args.search.now (c.in-Try.is ∙ sym (v.rolls-Try c.in-Try.n c.in-Try.body c.in-Try.clauses c.in-Try.other c.in-Try.last)) (try_said c.args.node c.in-Try.n c.in-Try.body c.in-Try.clauses c.in-Try.other c.in-Try.last c.read_try.new.search c.args.search.now c.read_try.ensures)
