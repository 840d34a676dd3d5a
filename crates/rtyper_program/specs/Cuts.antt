-- Blocks that are cut behind what may raise.
use Rattle.std.specs.Prelude.{◌≡◌, ℕ, ◌-◌, ◌==◌, ◌||◌, ◌&&◌, nat_lt, Bool, true, false, if◌then◌else◌, List, [], ◌∷◌, ◌++◌, slice_get, Option, Some, None}
use Rattle.csub_tree.specs.declared.tree.COperand.{COperand}
use Rattle.ll_code.specs.declared.program.LlOp.{LlOp}
use Rattle.ll_code.specs.declared.program.LlOp.TheVariants as op
use Rattle.ll_code.specs.declared.program.LlLink.{LlLink}
use Rattle.ll_code.specs.declared.program.LlExit.{LlExit}
use Rattle.ll_code.specs.declared.program.LlExit.TheVariants as exit
use Rattle.flow_graph.specs.declared.graph.Link.{Link}
use Rattle.ll_live.specs.Live.{variables_in}
use Rattle.rpy_meaning.specs.declared.row.Covers.{Covers}
use Rattle.rtyper_layout.specs.Types.{root_of}
use Rattle.rtyper_data.specs.declared.body.Body.{Body}
use Rattle.rtyper_data.specs.declared.found.Found.{Found}
use Rattle.rtyper_data.specs.declared.small.Small.{Small}
use Rattle.rtyper_data.specs.declared.small.Small.TheVariants as small
use Rattle.rtyper_data.specs.declared.small.Listed.TheVariants as listed
use Rattle.rtyper_data.specs.declared.small.Keyed.TheVariants as keyed
use Rattle.rtyper_data.specs.Building.{block_with}
use Rattle.rtyper_data.specs.Seen.{Writing, writing, fresh}
use Rattle.rtyper_class.specs.Seen.{laid}
use Rattle.rtyper_program.specs.declared.cuts.Pieces.{Pieces}
use Rattle.rtyper_program.specs.declared.extra.Extra.{Extra}
use Rattle.rtyper_program.specs.declared.links.Caught.{Caught}
use Rattle.rtyper_program.specs.Handlers.{Work, work, added, taken}
use Rattle.rtyper_program.specs.Links.{goto, link_of}
use Rattle.rtyper_program.specs.Live.{live, operands, with_new}
use Rattle.rtyper_program.specs.Raises.{is_covered}
use Rattle.rtyper_program.specs.Seen.{Lowered}

-- ---- what may raise

abbrev pub small_raises : Small → Bool
small_raises (small.Fail raises) = raises
small_raises (small.Present t raises) = raises
small_raises (small.Attribute own place raises) = raises
small_raises (small.Raise class) = true
small_raises (small.Checked o raises) = true
small_raises small.CheckedNeg = true
small_raises small.IntOfText = true
small_raises (small.Listed (listed.Place n raises)) = raises
small_raises (small.Keyed (keyed.Entry n)) = true
small_raises other = false

abbrev pub one_raises : Option Small → Bool
one_raises None = true
one_raises (Some s) = small_raises s

-- of the graph of a helper what it was asked for to raise
abbrev pub numbered_raises : Found → ℕ → Option Covers → Bool
numbered_raises found number (Some caught) = is_covered caught
numbered_raises found number None = if nat_lt number found.first_small then true else one_raises (slice_get found.smalls (number - found.first_small))

-- whether a graph may raise, by its number; while it is only found what a program asks for, the numbers mean nothing yet
unfoldable pub graph_raises : Found → ℕ → Bool
graph_raises found number = if found.first_small == 0 then true else numbered_raises found number (slice_get found.caught number)

abbrev pub may_raise : Found → LlOp → Bool
may_raise found (op.Call into number xs) = graph_raises found number
may_raise found (op.CallFn into gives takes f xs) = true
may_raise found (op.Raise v) = true
may_raise found other = false

-- an operation behind the first so many
abbrev pub ends : Found → ℕ → LlOp → Bool
ends found least o = least == 0 && may_raise found o

abbrev pub any_raises : Found → ℕ → List LlOp → Bool
any_raises found least [] = false
any_raises found least (o ∷ ops) = ends found least o || any_raises found (least - 1) ops

-- ---- pieces

abbrev pub with_piece : LlOp → Bool → Pieces → Pieces
with_piece o true p = record { ended = p.ended ++ (p.left ++ o ∷ []) ∷ []; left = [] }
with_piece o false p = record { ended = p.ended; left = p.left ++ o ∷ [] }

abbrev pub pieces_from : Found → ℕ → List LlOp → Pieces → Pieces
pieces_from found least [] p = p
pieces_from found least (o ∷ ops) p = pieces_from found (least - 1) ops (with_piece o (ends found least o) p)

-- each operation behind the first so many that may raise ends a piece; and what is left behind the last piece
unfoldable pub pieces_of : Found → ℕ → List LlOp → Pieces
pieces_of found least ops = pieces_from found least ops (record { ended = []; left = [] })

-- ---- blocks of pieces

abbrev pub on_raise_to : ℕ → LlLink → LlLink → LlExit
on_raise_to v by next = exit.OnRaise v (Some by) next

-- the variables that a link passes on, but for the exception
abbrev pub passed_by : LlLink → ℕ → List COperand
passed_by by v = operands (with_new (variables_in by.args) (v ∷ []) [])

-- a block of the operations before a link, and the link to that; where there are none, the link itself
abbrev pub tail : List LlOp → LlLink → Extra → LlLink × Extra
tail [] next e = (next, e)
tail (o ∷ ops) next e = added (block_with (live (o ∷ ops) [] next.args) (o ∷ ops) (exit.Goto next)) e

-- a block whose last operation may raise, and the link to that
unfoldable pub piece : ℕ → LlLink → List LlOp → LlLink × Extra → LlLink × Extra
piece v by ops next = added (block_with (live ops (passed_by by v) next.0.args) ops (on_raise_to v by next.0)) next.1

-- the blocks are made from the last one on
abbrev pub pieces : ℕ → LlLink → List (List LlOp) → LlLink × Extra → LlLink × Extra
pieces v by [] next = next
pieces v by (ops ∷ more) next = piece v by ops (pieces v by more next)

-- the exit, the block that is being written, and the blocks behind
pub record Cut : Type 0 where
  pub exit : LlExit
  pub body : Body
  pub extra : Extra

pub record Cuts (made : Cut) (value : LlExit) (body : Body) (extra : Extra) : Type 0 where
  pub given : value ≡ made.exit
  pub written : body ≡ made.body
  pub behind : extra ≡ made.extra

abbrev pub cut_before : ℕ → LlLink → List LlOp → LlLink × Extra → Body → Cut
cut_before v by ops next body = record { exit = on_raise_to v by next.0; body = record body { ops = ops }; extra = next.1 }

-- the first piece ends the block that is being written, and each of the others has a block
abbrev pub cut_into : ℕ → LlLink → List (List LlOp) → LlLink × Extra → Body → Cut
cut_into v by [] next body = record { exit = exit.Goto next.0; body = body; extra = next.1 }
cut_into v by (ops ∷ more) next body = cut_before v by ops (pieces v by more next) body

abbrev pub cut_pieces : ℕ → LlLink → LlLink → List (List LlOp) → List LlOp → Body → Extra → Cut
cut_pieces v by last [] left body e = record { exit = exit.Goto last; body = record body { ops = left }; extra = e }
cut_pieces v by last (ops ∷ more) left body e = cut_into v by (ops ∷ more) (tail left last e) (record body { ops = [] })

abbrev pub cut_as : ℕ → LlLink → LlLink → Pieces → Body → Extra → Cut
cut_as v by last p body e = cut_pieces v by last p.ended p.left body e

-- each operation behind the first so many that may raise ends a block, and its exception takes the link
unfoldable pub cut : ℕ → LlLink → LlLink → ℕ → Found → Body → Extra → Cut
cut v by last least found body e = cut_as v by last (pieces_of found least body.ops) body e

-- ---- exits

abbrev pub exit_work : Found → Cut → LlExit × Work
exit_work found c = (c.exit, work (writing found c.body) c.extra)

abbrev pub cut_work : ℕ → LlLink → ℕ → LlLink × Work → LlExit × Work
cut_work v last least by = exit_work by.1.writing.found (cut v by.0 last least by.1.writing.found by.1.writing.body by.1.extra)

module _ (l : Lowered) (v : ℕ) (hands : List (ℕ × Link)) (by : Option Link) where
  -- the exception stands in a new variable
  abbrev pub caught_in : ℕ × Body → Caught
  caught_in made = record { variable = v; exception = made.0; kind = root_of (laid l.world 0) }

  abbrev pub raised_in : ℕ → LlLink → Found → ℕ × Body → Extra → LlExit × Work
  raised_in least last found made e = cut_work made.0 last least (taken l (caught_in made) hands by (work (writing found made.1) e))

  abbrev pub raised_before : ℕ → Extra → LlLink × Writing → LlExit × Work
  raised_before least e last = raised_in least last.0 last.1.found (fresh (root_of (laid l.world 0)) last.1.body) e

  abbrev pub goes_on : Extra → LlExit × Writing → LlExit × Work
  goes_on e made = (made.0, work made.1 e)

  -- an exit by the exceptions of the operations behind the first so many
  unfoldable pub on_raise : Link → ℕ → Work → LlExit × Work
  on_raise without least w =
      if any_raises w.writing.found least w.writing.body.ops then raised_before least w.extra (link_of l None without w.writing)
      else goes_on w.extra (goto (link_of l None without w.writing))
