-- The structs of a list, and the operations on them.
use Rattle.std.specs.Prelude.{ℕ, ◌+◌, [], ◌∷◌, slice_get, unwrap_or, Option, Some, None}
use Rattle.csub_tree.specs.declared.tree.COperand.{COperand}
use Rattle.csub_tree.specs.declared.tree.COperand.TheVariants.{Var}
use Rattle.ll_code.specs.declared.program.LlType.{LlType}
use Rattle.ll_code.specs.declared.program.LlType.TheVariants.{Bool}
use Rattle.ll_code.specs.declared.program.LlStruct.{LlStruct}
use Rattle.ll_code.specs.declared.program.LlOp.{LlOp}
use Rattle.ll_code.specs.declared.program.LlOp.TheVariants.{GetField, SetField}
use Rattle.ll_code.specs.declared.program.LlExit.TheVariants.{Return}
use Rattle.ll_code.specs.declared.program.LlBlock.{LlBlock}
use Rattle.ll_build.specs.Build.{block_of}
use Rattle.rtyper_layout.specs.declared.layout.Layout.{Layout}
use Rattle.rtyper_layout.specs.Types.{word}
use Rattle.rtyper_data.specs.declared.body.Body.{Body}
use Rattle.rtyper_data.specs.declared.found.Found.{Found}
use Rattle.rtyper_data.specs.declared.small.Listed.{Listed as Graph}
use Rattle.rtyper_data.specs.declared.small.Small.TheVariants.{Listed}
use Rattle.rtyper_data.specs.Finding.{small_number}
use Rattle.rtyper_data.specs.Seen.{fresh, with_op}
use Rattle.list_shape.specs.declared.shape.Shape.{Shape}

abbrev pub item_in : Option LlStruct → LlType
item_in None = Bool
item_in (Some s) = unwrap_or s.items Bool

-- the type of the items of a struct
abbrev pub item_of : Layout → ℕ → LlType
item_of layout n = item_in (slice_get layout.structs n)

-- the array of a list is the next struct
abbrev pub shape_of : Layout → ℕ → Shape
shape_of layout n = record { list = n; array = word (n + 1); item = item_of layout (word (n + 1)) }

-- ---- operations

abbrev pub length_read : ℕ → Shape → ℕ → LlOp
length_read into s list = GetField into s.list list 0

abbrev pub array_read : ℕ → Shape → ℕ → LlOp
array_read into s list = GetField into s.list list 1

abbrev pub length_set : Shape → ℕ → COperand → LlOp
length_set s list x = SetField s.list list 0 x

-- a new variable, which an operation sets
abbrev pub new_by : LlType → (ℕ → LlOp) → Body → COperand × Body
new_by t o body = (Var (fresh t body).0, with_op (o (fresh t body).0) (fresh t body).1)

-- ---- graphs

-- a block that gives its one variable
unfoldable pub gives : ℕ → LlBlock
gives v = block_of (v ∷ []) [] (Return (Some (Var v)))

-- the number of a graph of lists
abbrev pub number_of : Graph → Found → ℕ × Found
number_of graph found = small_number (Listed graph) found

-- what goes on with what was made and what that left
abbrev pub taking : {A : Type 0} → {S : Type 0} → {T : Type 0} → A × S → (A → S → T) → T
taking made rest = rest made.0 made.1
