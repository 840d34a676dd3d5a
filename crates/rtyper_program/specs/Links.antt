-- What links pass on, and the exits of a block that raise nothing.
use Rattle.std.specs.Prelude.{ℕ, ◌+◌, ◌==◌, Bool, true, false, if◌then◌else◌, List, [], ◌∷◌, ◌++◌, slice_get, Option, Some, None}
use Rattle.ann_element.specs.declared.element.Element.{Element}
use Rattle.ann_element.specs.declared.element.Element.TheVariants as element
use Rattle.csub_tree.specs.declared.tree.COperand.{COperand}
use Rattle.csub_tree.specs.declared.tree.COperand.TheVariants.{Var, Const}
use Rattle.ll_code.specs.declared.program.LlType.{LlType}
use Rattle.ll_code.specs.declared.program.LlType.TheVariants as type
use Rattle.ll_code.specs.declared.program.LlOp.TheVariants as op
use Rattle.ll_code.specs.declared.program.LlLink.{LlLink}
use Rattle.ll_code.specs.declared.program.LlExit.{LlExit}
use Rattle.ll_code.specs.declared.program.LlExit.TheVariants as exit
use Rattle.flow_graph.specs.declared.graph.Block.{Block}
use Rattle.flow_graph.specs.declared.graph.Link.{Link}
use Rattle.rtyper_data.specs.declared.body.Body.{Body}
use Rattle.rtyper_data.specs.Building.{link_to}
use Rattle.rtyper_data.specs.Converting.{default_operand, given, value_as}
use Rattle.rtyper_data.specs.Finding.{same_type}
use Rattle.rtyper_data.specs.Seen.{Around, Operand, Writing, writing, with_op, fresh}
use Rattle.rtyper_op.specs.declared.text.Test.{Test}
use Rattle.rtyper_op.specs.declared.text.Test.TheVariants.{Known, By}
use Rattle.rtyper_op.specs.Texts.{truth_of}
use Rattle.rtyper_program.specs.declared.links.Caught.{Caught}
use Rattle.rtyper_program.specs.Seen.{Lowered, is_block_reached, operand_of, type_at}

-- ---- inputs

-- those that have a type
abbrev pub typed : Lowered → List ℕ → List ℕ
typed l [] = []
typed l (v ∷ variables) = if same_type (type_at l v) type.Void then typed l variables else v ∷ typed l variables

abbrev pub inputs_in : Option Block → List ℕ
inputs_in None = []
inputs_in (Some b) = b.inputs

-- of a block of the graph; one that is not reached has none
abbrev pub inputs_at : Lowered → ℕ → List ℕ
inputs_at l to = if is_block_reached l.known.annotation l.number to then inputs_in (slice_get l.graph.blocks to) else []

-- ---- arguments

-- the variable itself, and its type; the exception that is caught stands in a variable of its own
abbrev pub read_as : Lowered → Option Caught → ℕ → COperand × LlType
read_as l None v = (Var v, type_at l v)
read_as l (Some c) v = if c.variable == v then (Var c.exception, c.kind) else (Var v, type_at l v)

abbrev pub passed_as : Lowered → COperand × LlType → LlType → Writing → COperand × Writing
passed_as l x to w = value_as l.world.around.layout x.0 x.1 to w

-- what stands at a place of a link, as a value of a type
abbrev pub passed : Lowered → Option Caught → Option ℕ → LlType → Writing → COperand × Writing
passed l caught None to w = (default_operand to, w)
passed l caught (Some v) to w = passed_as l (read_as l caught v) to w

abbrev pub with_passed : List COperand → COperand × Writing → List COperand × Writing
with_passed xs x = (xs ++ x.0 ∷ [], x.1)

-- what has no type is not passed on
abbrev pub with_argument : Lowered → Option Caught → Option ℕ → LlType → List COperand × Writing → List COperand × Writing
with_argument l caught v to made = if same_type to type.Void then made else with_passed made.0 (passed l caught v to made.1)

-- for each input what stands at its place, from the n-th on, behind others
abbrev pub arguments : Lowered → Option Caught → List ℕ → ℕ → List ℕ → List COperand × Writing → List COperand × Writing
arguments l caught args n [] made = made
arguments l caught args n (v ∷ inputs) made = arguments l caught args (n + 1) inputs (with_argument l caught (slice_get args n) (type_at l v) made)

abbrev pub link_with : ℕ → List COperand × Writing → LlLink × Writing
link_with to args = (link_to to args.0, args.1)

unfoldable pub link_of : Lowered → Option Caught → Link → Writing → LlLink × Writing
link_of l caught link w = link_with link.to (arguments l caught link.args 0 (inputs_at l link.to) ([], w))

-- ---- exits

abbrev pub goto : LlLink × Writing → LlExit × Writing
goto link = (exit.Goto link.0, link.1)

-- a variable that holds the truth value
abbrev pub flag_of : COperand → Body → ℕ × Body
flag_of (Var v) body = (v, body)
flag_of (Const c) body = ((fresh type.Bool body).0, with_op (op.Set (fresh type.Bool body).0 (Const c)) (fresh type.Bool body).1)

abbrev pub forked : ℕ → LlLink × Writing → (Writing → LlLink × Writing) → LlExit × Writing
forked test there elsewhere = (exit.If test there.0 (elsewhere there.1).0, (elsewhere there.1).1)

abbrev pub by_flag : Lowered → Link → Link → Writing → ℕ × Body → LlExit × Writing
by_flag l there elsewhere w flag = forked flag.0 (link_of l None there (writing w.found flag.1)) (λ next. link_of l None elsewhere next)

abbrev pub by_test : Lowered → Link → Link → Test → Writing → LlExit × Writing
by_test l there elsewhere (Known true) w = goto (link_of l None there w)
by_test l there elsewhere (Known false) w = goto (link_of l None elsewhere w)
by_test l there elsewhere (By x) w = by_flag l there elsewhere w (flag_of x w.body)

-- a truth value that is known always
abbrev pub known_truth : Option Element → Option Bool
known_truth (Some element.KnownTrue) = Some true
known_truth (Some element.KnownFalse) = Some false
known_truth other = None

abbrev pub known_test : Option Bool → Around → Operand → Writing → Test × Writing
known_test (Some b) around a w = (Known b, w)
known_test None around a w = truth_of around a w

-- what is known always is not tested: the other way need not have what its block wants
abbrev pub truth_test : Around → Operand → Writing → Test × Writing
truth_test around a w = known_test (known_truth a.element) around a w

abbrev pub by_truth : Lowered → Link → Link → Test × Writing → LlExit × Writing
by_truth l there elsewhere test = by_test l there elsewhere test.0 test.1

-- by the truth of a variable
unfoldable pub branch : Lowered → ℕ → Link → Link → Writing → LlExit × Writing
branch l v there elsewhere w = by_truth l there elsewhere (truth_test l.world.around (operand_of l v) w)

abbrev pub returned : COperand × Writing → LlExit × Writing
returned x = (exit.Return (Some x.0), x.1)

abbrev pub give_as : Lowered → ℕ → LlType → Writing → LlExit × Writing
give_as l v type.Void w = (exit.Return None, w)
give_as l v to w = returned (given l.world.around (operand_of l v) to w)

-- what the graph gives
unfoldable pub give_back : Lowered → ℕ → Writing → LlExit × Writing
give_back l v w = give_as l v l.result w
