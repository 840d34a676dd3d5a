use Rattle.std.proofs.Common.{◌∙◌, sym}
use Rattle.rpy_tree.specs.declared.syntax.Expr.TheVariants as v
use Rattle.rpy_tree.specs.declared.syntax.Expr.TheOpen.{Expr-F}
use Rattle.class_desc.proofs.Displays.{expr_said, slice_said, comp_said}
use Rattle.class_desc.proofs.stores.+expr.Goals as goal

pub read_expr-returns-in-Int : goal.read_expr-returns-in-Int
read_expr-returns-in-Int t c = expr_said c.args.first.now c.args.e.now (Expr-F.Int c.in-Int.field-0 c.in-Int.field-1) c.pass.result c.pass.new.self c.args.stores.now (c.in-Int.is ∙ sym (v.rolls-Int c.in-Int.field-0 c.in-Int.field-1)) c.pass.ensures

pub read_expr-returns-in-Str : goal.read_expr-returns-in-Str
read_expr-returns-in-Str t c = expr_said c.args.first.now c.args.e.now (Expr-F.Str c.in-Str.field-0 c.in-Str.field-1) c.pass-in-Str.result c.pass-in-Str.new.self c.args.stores.now (c.in-Str.is ∙ sym (v.rolls-Str c.in-Str.field-0 c.in-Str.field-1)) c.pass-in-Str.ensures

pub read_expr-returns-in-Name : goal.read_expr-returns-in-Name
read_expr-returns-in-Name t c = expr_said c.args.first.now c.args.e.now (Expr-F.Expr::Name c.in-Name.field-0 c.in-Name.name) c.read.result c.read.new.self c.args.stores.now (c.in-Name.is ∙ sym (v.rolls-Name c.in-Name.field-0 c.in-Name.name)) c.read.ensures

pub read_expr-returns-in-Unary : goal.read_expr-returns-in-Unary
read_expr-returns-in-Unary t c = expr_said c.args.first.now c.args.e.now (Expr-F.Unary c.in-Unary.field-0 c.in-Unary.field-1 c.in-Unary.a) c.read_one.result c.read_one.new.stores c.args.stores.now (c.in-Unary.is ∙ sym (v.rolls-Unary c.in-Unary.field-0 c.in-Unary.field-1 c.in-Unary.a)) c.read_one.ensures

pub read_expr-returns-in-Binary : goal.read_expr-returns-in-Binary
read_expr-returns-in-Binary t c = expr_said c.args.first.now c.args.e.now (Expr-F.Binary c.in-Binary.field-0 c.in-Binary.field-1 c.in-Binary.a c.in-Binary.b) c.read_two.result c.read_two.new.stores c.args.stores.now (c.in-Binary.is ∙ sym (v.rolls-Binary c.in-Binary.field-0 c.in-Binary.field-1 c.in-Binary.a c.in-Binary.b)) c.read_two.ensures

pub read_expr-returns-in-Compare : goal.read_expr-returns-in-Compare
read_expr-returns-in-Compare t c = expr_said c.args.first.now c.args.e.now (Expr-F.Compare c.in-Compare.field-0 c.in-Compare.field-1 c.in-Compare.a c.in-Compare.b) c.read_two-in-Compare.result c.read_two-in-Compare.new.stores c.args.stores.now (c.in-Compare.is ∙ sym (v.rolls-Compare c.in-Compare.field-0 c.in-Compare.field-1 c.in-Compare.a c.in-Compare.b)) c.read_two-in-Compare.ensures

pub read_expr-returns-in-Logic : goal.read_expr-returns-in-Logic
read_expr-returns-in-Logic t c = expr_said c.args.first.now c.args.e.now (Expr-F.Logic c.in-Logic.field-0 c.in-Logic.field-1 c.in-Logic.a c.in-Logic.b) c.read_two-in-Logic.result c.read_two-in-Logic.new.stores c.args.stores.now (c.in-Logic.is ∙ sym (v.rolls-Logic c.in-Logic.field-0 c.in-Logic.field-1 c.in-Logic.a c.in-Logic.b)) c.read_two-in-Logic.ensures

pub read_expr-returns-in-Not : goal.read_expr-returns-in-Not
read_expr-returns-in-Not t c = expr_said c.args.first.now c.args.e.now (Expr-F.Not c.in-Not.field-0 c.in-Not.a) c.read_one-in-Not.result c.read_one-in-Not.new.stores c.args.stores.now (c.in-Not.is ∙ sym (v.rolls-Not c.in-Not.field-0 c.in-Not.a)) c.read_one-in-Not.ensures

pub read_expr-returns-in-Call : goal.read_expr-returns-in-Call
read_expr-returns-in-Call t c = expr_said c.args.first.now c.args.e.now (Expr-F.Call c.in-Call.field-0 c.in-Call.callee c.in-Call.args) c.read_call.result c.read_call.new.stores c.args.stores.now (c.in-Call.is ∙ sym (v.rolls-Call c.in-Call.field-0 c.in-Call.callee c.in-Call.args)) c.read_call.ensures

pub read_expr-returns-in-Attr : goal.read_expr-returns-in-Attr
read_expr-returns-in-Attr t c = expr_said c.args.first.now c.args.e.now (Expr-F.Expr::Attr c.in-Attr.field-0 c.in-Attr.a c.in-Attr.field-2) c.read_one-in-Attr.result c.read_one-in-Attr.new.stores c.args.stores.now (c.in-Attr.is ∙ sym (v.rolls-Attr c.in-Attr.field-0 c.in-Attr.a c.in-Attr.field-2)) c.read_one-in-Attr.ensures

pub read_expr-returns-in-Index : goal.read_expr-returns-in-Index
read_expr-returns-in-Index t c = expr_said c.args.first.now c.args.e.now (Expr-F.Index c.in-Index.field-0 c.in-Index.a c.in-Index.i) c.read_two-in-Index.result c.read_two-in-Index.new.stores c.args.stores.now (c.in-Index.is ∙ sym (v.rolls-Index c.in-Index.field-0 c.in-Index.a c.in-Index.i)) c.read_two-in-Index.ensures

pub read_expr-returns-in-Slice : goal.read_expr-returns-in-Slice
read_expr-returns-in-Slice t c = expr_said c.args.first.now c.args.e.now (Expr-F.Slice c.in-Slice.field-0 c.in-Slice.a c.in-Slice.from c.in-Slice.to) c.read_slice.result c.read_slice.new.stores c.args.stores.now (c.in-Slice.is ∙ sym (v.rolls-Slice c.in-Slice.field-0 c.in-Slice.a c.in-Slice.from c.in-Slice.to)) (slice_said c.args.first.now c.in-Slice.field-0 c.in-Slice.a c.in-Slice.from c.in-Slice.to c.read_slice.result c.read_slice.new.stores c.args.stores.now c.read_slice.ensures)

pub read_expr-returns-in-Tuple : goal.read_expr-returns-in-Tuple
read_expr-returns-in-Tuple t c = expr_said c.args.first.now c.args.e.now (Expr-F.Expr::Tuple c.in-Tuple.field-0 c.in-Tuple.items) c.read_items.result c.read_items.new.stores c.args.stores.now (c.in-Tuple.is ∙ sym (v.rolls-Tuple c.in-Tuple.field-0 c.in-Tuple.items)) c.read_items.ensures

pub read_expr-returns-in-List : goal.read_expr-returns-in-List
read_expr-returns-in-List t c = expr_said c.args.first.now c.args.e.now (Expr-F.List c.in-List.field-0 c.in-List.items) c.read_items-in-List.result c.read_items-in-List.new.stores c.args.stores.now (c.in-List.is ∙ sym (v.rolls-List c.in-List.field-0 c.in-List.items)) c.read_items-in-List.ensures

pub read_expr-returns-in-Dict : goal.read_expr-returns-in-Dict
read_expr-returns-in-Dict t c = expr_said c.args.first.now c.args.e.now (Expr-F.Dict c.in-Dict.field-0 c.in-Dict.pairs) c.read_dict.result c.read_dict.new.stores c.args.stores.now (c.in-Dict.is ∙ sym (v.rolls-Dict c.in-Dict.field-0 c.in-Dict.pairs)) c.read_dict.ensures

pub read_expr-returns-in-Comp : goal.read_expr-returns-in-Comp
read_expr-returns-in-Comp t c = expr_said c.args.first.now c.args.e.now (Expr-F.Comp c.in-Comp.field-0 c.in-Comp.item c.in-Comp.target c.in-Comp.over c.in-Comp.test) c.read_comp.result c.read_comp.new.stores c.args.stores.now (c.in-Comp.is ∙ sym (v.rolls-Comp c.in-Comp.field-0 c.in-Comp.item c.in-Comp.target c.in-Comp.over c.in-Comp.test)) (comp_said c.args.first.now c.in-Comp.field-0 c.in-Comp.item c.in-Comp.target c.in-Comp.over c.in-Comp.test c.read_comp.result c.read_comp.new.stores c.args.stores.now c.read_comp.ensures)
