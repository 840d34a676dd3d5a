-- What an operation is written as reads what is set, and sets variables of the graph; so does what links pass on.
use Rattle.std.specs.Prelude.{◌≡◌, ◌≢◌, ◌<◌, ◌≤◌, ℕ, Bool, true, false, List, [], ◌∷◌, ◌++◌, length, map, None, Option}
use Rattle.ll_code.specs.declared.program.LlType.TheVariants as type
use Rattle.ll_code.specs.declared.program.LlOp.{LlOp}
use Rattle.ll_code.specs.declared.program.LlProgram.{LlProgram}
use Rattle.flow_graph.specs.declared.graph.Link.{Link}
use Rattle.flow_graph.specs.declared.graph.Op.{Op}
use Rattle.rtyper_data.specs.declared.found.Found.{Found}
use Rattle.rtyper_data.specs.Seen.{Operand, Writing}
use Rattle.rtyper_op.specs.Lowering.{is_never}
use Rattle.rtyper_program.specs.declared.links.Caught.{Caught}
use Rattle.rtyper_program.specs.Blocks.{op_of}
use Rattle.rtyper_program.specs.Links.{link_of, typed}
use Rattle.rtyper_program.specs.Seen.{Lowered, operand_of, place_of, type_at}
use Rattle.growth_laws.specs.Growing.{Grows}
use Rattle.throw_laws.specs.Pieces.{AllIn}
use Rattle.throw_laws.specs.Ready.{AllFit, ReadIn}
use Rattle.catch_laws.specs.Caught.{ReadsInside}
use Rattle.reading_laws.specs.Suits.{suits}
use Rattle.reading_laws.specs.Tidy.{CallsGive}

-- each of these variables has a type
abbrev pub HaveTypes : Lowered → List ℕ → Type 0
HaveTypes l [] = Unit {0}
HaveTypes l (v ∷ vs) = (type_at l v ≢ type.Void) × HaveTypes l vs

abbrev pub operands_of : Lowered → List ℕ → List Operand
operands_of l args = map (operand_of l) args

-- one of the operands is known never to come, or each has a type
abbrev pub AreTyped : Lowered → List ℕ → Type 0
AreTyped l args = is_never (operands_of l args) ≡ false → HaveTypes l args

-- the operation is one on what is known of its operands
abbrev pub Suits : Lowered → Op → Type 0
Suits l o = suits l.world o.op (place_of l o.result) (operands_of l o.args) ≡ true

-- What an operation is written as reads its operands, where they have types, and what it has set itself.
abbrev pub OperationsRead : Type 0
OperationsRead = (l : Lowered) (names : List ℕ) (o : Op) (w : Writing) (written : List LlOp) → (op_of l o w).body.ops ≡ w.body.ops ++ written → AllIn o.args names → AreTyped l o.args → ReadIn written (typed l names)

-- Where the operation is one on its operands, or its result has no type, it also sets that of the result.
abbrev pub OperationsReadInside : Type 0
OperationsReadInside = (l : Lowered) (names : List ℕ) (o : Op) (w : Writing) (written : List LlOp) → (op_of l o w).body.ops ≡ w.body.ops ++ written → AllIn o.args names → AreTyped l o.args → (type_at l o.result ≢ type.Void → Suits l o)
    → ReadsInside l names o.result written

-- It sets variables of the graph, where what it calls gives something.
abbrev pub OperationsFit : Type 0
OperationsFit = (l : Lowered) (o : Op) (w : Writing) (written : List LlOp) (p : LlProgram) (size : ℕ) (first last : Found) → (op_of l o w).body.ops ≡ w.body.ops ++ written → AreTyped l o.args → CallsGive p l.world first last
    → (type_at l o.result ≢ type.Void → o.result < size) → length (op_of l o w).body.types ≤ size → Grows first w.found → Grows (op_of l o w).found last → AllFit p size written

-- And so does what converts the arguments of a link.
abbrev pub ConversionsFit : Type 0
ConversionsFit = (l : Lowered) (caught : Option Caught) (link : Link) (w : Writing) (written : List LlOp) (p : LlProgram) (size : ℕ) (first last : Found) → (link_of l caught link w).1.body.ops ≡ w.body.ops ++ written → CallsGive p l.world first last
    → length (link_of l caught link w).1.body.types ≤ size → Grows first w.found → Grows (link_of l caught link w).1.found last → AllFit p size written
