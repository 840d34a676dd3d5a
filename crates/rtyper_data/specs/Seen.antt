-- What is known around what is written, as plain data; and what writing comes to.
use Rattle.std.specs.Prelude.{ℕ, ◌≡◌, List, [], ◌∷◌, ◌++◌, length, map, slice_get, unwrap_or, Option, None, pos}
use Rattle.std.specs.Option.{option_copied}
use Rattle.csub_tree.specs.declared.tree.CConst.TheVariants as constant
use Rattle.csub_tree.specs.declared.tree.COperand.{COperand}
use Rattle.csub_tree.specs.declared.tree.COperand.TheVariants.{Const}
use Rattle.ll_code.specs.declared.program.LlType.{LlType}
use Rattle.ll_code.specs.declared.program.LlOp.{LlOp}
use Rattle.ll_code.specs.declared.program.LlOp.TheVariants as op
use Rattle.ann_element.specs.declared.element.Element.{Element}
use Rattle.rpy_resolved.specs.declared.tree.Function.{Function}
use Rattle.rtyper_layout.specs.declared.kind.Kind.{Kind}
use Rattle.rtyper_layout.specs.declared.layout.Layout.{Layout}
use Rattle.rtyper_layout.specs.Kinds.{kind_seen}
use Rattle.rtyper_layout.specs.Types.{type_seen}
use Rattle.rtyper_data.specs.declared.body.Around.{Around as Parts}
use Rattle.rtyper_data.specs.declared.body.Body.{Body}
use Rattle.rtyper_data.specs.declared.body.Operand.{Operand as Given}
use Rattle.rtyper_data.specs.declared.body.Place.{Place as Target}
use Rattle.rtyper_data.specs.declared.found.Found.{Found}

pub record Around : Type 0 where
  pub layout : Layout
  pub numbers : List ℕ
  pub params : List (List Element)
  pub results : List Element
  pub functions : List Function

pub record Operand : Type 0 where
  pub x : COperand
  pub element : Option Element

pub record Place : Type 0 where
  pub variable : ℕ
  pub element : Option Element

abbrev pub the_around : Parts → Around
the_around a = record { layout = a.layout.now; numbers = a.numbers.now; params = a.params.now; results = a.results.now; functions = a.functions.now }

abbrev pub the_operand : Given → Operand
the_operand a = record { x = a.x; element = option_copied a.element }

abbrev pub the_operands : List Given → List Operand
the_operands args = map the_operand args

abbrev pub the_place : Target → Place
the_place p = record { variable = p.variable; element = option_copied p.element }

abbrev pub type_of : Around → Operand → LlType
type_of around a = type_seen around.layout a.element

abbrev pub type_at : Around → Place → LlType
type_at around place = type_seen around.layout place.element

abbrev pub kind_of : Operand → Kind
kind_of a = kind_seen a.element

-- where there is none, a word that is never read
abbrev pub operand_at : List Operand → ℕ → Operand
operand_at args i = unwrap_or (slice_get args i) (record { x = Const (constant.Word (pos 0)); element = None })

-- ---- what is written

abbrev pub empty : Body
empty = record { types = []; ops = [] }

abbrev pub with_op : LlOp → Body → Body
with_op o body = record body { ops = body.ops ++ o ∷ [] }

abbrev pub with_variable : LlType → Body → Body
with_variable t body = record body { types = body.types ++ t ∷ [] }

-- a new variable, and the body that has it
abbrev pub fresh : LlType → Body → ℕ × Body
fresh t body = (length body.types, with_variable t body)

pub record Writing : Type 0 where
  pub found : Found
  pub body : Body

abbrev pub writing : Found → Body → Writing
writing found body = record { found = found; body = body }

abbrev pub push : LlOp → Writing → Writing
push o w = writing w.found (with_op o w.body)

abbrev pub set : ℕ → COperand × Writing → Writing
set v made = push (op.Set v made.0) made.1

-- ---- what a writer leaves, and what it gives

pub record Leaves (w : Writing) (found : Found) (body : Body) : Type 0 where
  pub asked : found ≡ w.found
  pub written : body ≡ w.body

pub record Gives {A : Type 0} (made : A × Writing) (value : A) (found : Found) (body : Body) : Type 0 where
  pub given : value ≡ made.0
  pub asked : found ≡ made.1.found
  pub written : body ≡ made.1.body

-- of what asks for nothing
pub record Writes {A : Type 0} (made : A × Body) (value : A) (body : Body) : Type 0 where
  pub given : value ≡ made.0
  pub written : body ≡ made.1

-- of what writes nothing
pub record Asks {A : Type 0} (made : A × Found) (value : A) (found : Found) : Type 0 where
  pub given : value ≡ made.0
  pub asked : found ≡ made.1
