use Rattle.std.proofs.Common.{◌∙◌, sym}
use Rattle.rpy_tree.specs.declared.syntax.Expr.TheVariants as v
use Rattle.rpy_tree.specs.declared.syntax.Expr.TheOpen.{Expr-F}
use Rattle.rpy_kinds.proofs.Displays.{expr_said, slice_said, comp_said}
use Rattle.rpy_kinds.proofs.search.+expr.Goals as goal

pub read_expr-returns-in-Int : goal.read_expr-returns-in-Int
read_expr-returns-in-Int t c = expr_said c.args.node c.args.e.now (Expr-F.Int c.in-Int.n c.in-Int.field-1) c.note.new.self c.args.search.now (c.in-Int.is ∙ sym (v.rolls-Int c.in-Int.n c.in-Int.field-1)) c.note.ensures

pub read_expr-returns-in-Str : goal.read_expr-returns-in-Str
read_expr-returns-in-Str t c = expr_said c.args.node c.args.e.now (Expr-F.Str c.in-Str.n c.in-Str.field-1) c.note-in-Str.new.self c.args.search.now (c.in-Str.is ∙ sym (v.rolls-Str c.in-Str.n c.in-Str.field-1)) c.note-in-Str.ensures

pub read_expr-returns-in-Name : goal.read_expr-returns-in-Name
read_expr-returns-in-Name t c = expr_said c.args.node c.args.e.now (Expr-F.Expr::Name c.in-Name.n c.in-Name.field-1) c.note_name.new.self c.args.search.now (c.in-Name.is ∙ sym (v.rolls-Name c.in-Name.n c.in-Name.field-1)) c.note_name.ensures

pub read_expr-returns-in-Unary : goal.read_expr-returns-in-Unary
read_expr-returns-in-Unary t c = expr_said c.args.node c.args.e.now (Expr-F.Unary c.in-Unary.n c.in-Unary.field-1 c.in-Unary.a) c.read_one.new.search c.args.search.now (c.in-Unary.is ∙ sym (v.rolls-Unary c.in-Unary.n c.in-Unary.field-1 c.in-Unary.a)) c.read_one.ensures

pub read_expr-returns-in-Binary : goal.read_expr-returns-in-Binary
read_expr-returns-in-Binary t c = expr_said c.args.node c.args.e.now (Expr-F.Binary c.in-Binary.n c.in-Binary.field-1 c.in-Binary.a c.in-Binary.b) c.read_two.new.search c.args.search.now (c.in-Binary.is ∙ sym (v.rolls-Binary c.in-Binary.n c.in-Binary.field-1 c.in-Binary.a c.in-Binary.b)) c.read_two.ensures

pub read_expr-returns-in-Compare : goal.read_expr-returns-in-Compare
read_expr-returns-in-Compare t c = expr_said c.args.node c.args.e.now (Expr-F.Compare c.in-Compare.n c.in-Compare.field-1 c.in-Compare.a c.in-Compare.b) c.read_two-in-Compare.new.search c.args.search.now (c.in-Compare.is ∙ sym (v.rolls-Compare c.in-Compare.n c.in-Compare.field-1 c.in-Compare.a c.in-Compare.b)) c.read_two-in-Compare.ensures

pub read_expr-returns-in-Logic : goal.read_expr-returns-in-Logic
read_expr-returns-in-Logic t c = expr_said c.args.node c.args.e.now (Expr-F.Logic c.in-Logic.n c.in-Logic.field-1 c.in-Logic.a c.in-Logic.b) c.read_logic.new.search c.args.search.now (c.in-Logic.is ∙ sym (v.rolls-Logic c.in-Logic.n c.in-Logic.field-1 c.in-Logic.a c.in-Logic.b)) c.read_logic.ensures

pub read_expr-returns-in-Not : goal.read_expr-returns-in-Not
read_expr-returns-in-Not t c = expr_said c.args.node c.args.e.now (Expr-F.Not c.in-Not.n c.in-Not.a) c.read_one-in-Not.new.search c.args.search.now (c.in-Not.is ∙ sym (v.rolls-Not c.in-Not.n c.in-Not.a)) c.read_one-in-Not.ensures

pub read_expr-returns-in-Call : goal.read_expr-returns-in-Call
read_expr-returns-in-Call t c = expr_said c.args.node c.args.e.now (Expr-F.Call c.in-Call.n c.in-Call.callee c.in-Call.args) c.read_call.new.search c.args.search.now (c.in-Call.is ∙ sym (v.rolls-Call c.in-Call.n c.in-Call.callee c.in-Call.args)) c.read_call.ensures

pub read_expr-returns-in-Attr : goal.read_expr-returns-in-Attr
read_expr-returns-in-Attr t c = expr_said c.args.node c.args.e.now (Expr-F.Expr::Attr c.in-Attr.n c.in-Attr.a c.in-Attr.field-2) c.read_one-in-Attr.new.search c.args.search.now (c.in-Attr.is ∙ sym (v.rolls-Attr c.in-Attr.n c.in-Attr.a c.in-Attr.field-2)) c.read_one-in-Attr.ensures

pub read_expr-returns-in-Index : goal.read_expr-returns-in-Index
read_expr-returns-in-Index t c = expr_said c.args.node c.args.e.now (Expr-F.Index c.in-Index.n c.in-Index.a c.in-Index.i) c.read_two-in-Index.new.search c.args.search.now (c.in-Index.is ∙ sym (v.rolls-Index c.in-Index.n c.in-Index.a c.in-Index.i)) c.read_two-in-Index.ensures

pub read_expr-returns-in-Slice : goal.read_expr-returns-in-Slice
read_expr-returns-in-Slice t c = expr_said c.args.node c.args.e.now (Expr-F.Slice c.in-Slice.n c.in-Slice.a c.in-Slice.from c.in-Slice.to) c.read_slice.new.search c.args.search.now (c.in-Slice.is ∙ sym (v.rolls-Slice c.in-Slice.n c.in-Slice.a c.in-Slice.from c.in-Slice.to)) (slice_said c.args.node c.in-Slice.n c.in-Slice.a c.in-Slice.from c.in-Slice.to c.read_slice.new.search c.args.search.now c.read_slice.ensures)

pub read_expr-returns-in-Tuple : goal.read_expr-returns-in-Tuple
read_expr-returns-in-Tuple t c = expr_said c.args.node c.args.e.now (Expr-F.Expr::Tuple c.in-Tuple.n c.in-Tuple.items) c.read_items.new.search c.args.search.now (c.in-Tuple.is ∙ sym (v.rolls-Tuple c.in-Tuple.n c.in-Tuple.items)) c.read_items.ensures

pub read_expr-returns-in-List : goal.read_expr-returns-in-List
read_expr-returns-in-List t c = expr_said c.args.node c.args.e.now (Expr-F.List c.in-List.n c.in-List.items) c.read_items-in-List.new.search c.args.search.now (c.in-List.is ∙ sym (v.rolls-List c.in-List.n c.in-List.items)) c.read_items-in-List.ensures

pub read_expr-returns-in-Dict : goal.read_expr-returns-in-Dict
read_expr-returns-in-Dict t c = expr_said c.args.node c.args.e.now (Expr-F.Dict c.in-Dict.n c.in-Dict.pairs) c.read_dict.new.search c.args.search.now (c.in-Dict.is ∙ sym (v.rolls-Dict c.in-Dict.n c.in-Dict.pairs)) c.read_dict.ensures

pub read_expr-returns-in-Comp : goal.read_expr-returns-in-Comp
read_expr-returns-in-Comp t c = expr_said c.args.node c.args.e.now (Expr-F.Comp c.in-Comp.n c.in-Comp.item c.in-Comp.target c.in-Comp.over c.in-Comp.test) c.read_comp.new.search c.args.search.now (c.in-Comp.is ∙ sym (v.rolls-Comp c.in-Comp.n c.in-Comp.item c.in-Comp.target c.in-Comp.over c.in-Comp.test)) (comp_said c.args.node c.in-Comp.n c.in-Comp.item c.in-Comp.target c.in-Comp.over c.in-Comp.test c.read_comp.new.search c.args.search.now c.read_comp.ensures)
