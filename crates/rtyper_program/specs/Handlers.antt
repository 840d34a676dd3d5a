-- The ways that an exception may take. The classes of handlers are tested one after the other, in blocks of their own.
use Rattle.std.specs.Prelude.{◌≡◌, ℕ, ◌+◌, List, [], ◌∷◌, ◌++◌, length, Option, Some, None}
use Rattle.csub_tree.specs.declared.tree.COperand.TheVariants.{Var}
use Rattle.ll_code.specs.declared.program.LlType.TheVariants as type
use Rattle.ll_code.specs.declared.program.LlOp.{LlOp}
use Rattle.ll_code.specs.declared.program.LlOp.TheVariants as op
use Rattle.ll_code.specs.declared.program.LlLink.{LlLink}
use Rattle.ll_code.specs.declared.program.LlExit.TheVariants as exit
use Rattle.ll_code.specs.declared.program.LlBlock.{LlBlock}
use Rattle.flow_graph.specs.declared.graph.Link.{Link}
use Rattle.class_desc.specs.Range.{range}
use Rattle.ll_live.specs.Live.{variables_in}
use Rattle.rtyper_layout.specs.declared.classes.Laid.{Laid}
use Rattle.rtyper_layout.specs.Types.{word}
use Rattle.rtyper_data.specs.declared.body.Body.{Body}
use Rattle.rtyper_data.specs.declared.found.Found.{Found}
use Rattle.rtyper_data.specs.declared.small.Small.{Small}
use Rattle.rtyper_data.specs.declared.small.Small.TheVariants as small
use Rattle.rtyper_data.specs.Building.{block_with, link_to}
use Rattle.rtyper_data.specs.Finding.{small_number}
use Rattle.rtyper_data.specs.Seen.{Writing, writing, fresh}
use Rattle.rtyper_class.specs.Seen.{World, laid}
use Rattle.rtyper_program.specs.declared.extra.Extra.{Extra}
use Rattle.rtyper_program.specs.declared.links.Caught.{Caught}
use Rattle.rtyper_program.specs.Links.{link_of}
use Rattle.rtyper_program.specs.Live.{live, operands, with_new}
use Rattle.rtyper_program.specs.Seen.{Lowered}

-- what is written, with the blocks that are made behind those of the graph
pub record Work : Type 0 where
  pub writing : Writing
  pub extra : Extra

abbrev pub work : Writing → Extra → Work
work w e = record { writing = w; extra = e }

-- what a writer of blocks gives and leaves
pub record Works {A : Type 0} (made : A × Work) (value : A) (found : Found) (body : Body) (extra : Extra) : Type 0 where
  pub given : value ≡ made.0
  pub asked : found ≡ made.1.writing.found
  pub written : body ≡ made.1.writing.body
  pub behind : extra ≡ made.1.extra

-- of what only makes blocks
pub record Adds {A : Type 0} (made : A × Extra) (value : A) (extra : Extra) : Type 0 where
  pub given : value ≡ made.0
  pub behind : extra ≡ made.1

-- one more block, and the link to that
abbrev pub added : LlBlock → Extra → LlLink × Extra
added block e = (link_to (word (e.first + length e.blocks)) (operands block.inputs), record e { blocks = e.blocks ++ block ∷ [] })

-- ---- where an exception goes

abbrev pub landed : List LlOp → LlLink × Writing → LlBlock × Writing
landed kept link = (block_with (live link.1.body.ops [] link.0.args) link.1.body.ops (exit.Goto link.0), writing link.1.found (record link.1.body { ops = kept }))

-- what a link passes on, in a block of its own: conversions stand there
unfoldable pub landing : Lowered → Link → Caught → Writing → LlBlock × Writing
landing l link caught w = landed w.body.ops (link_of l (Some caught) link (writing w.found (record w.body { ops = [] })))

abbrev pub behind : Writing → LlLink × Extra → LlLink × Work
behind w made = (made.0, work w made.1)

abbrev pub landed_behind : Extra → LlBlock × Writing → LlLink × Work
landed_behind e block = behind block.1 (added block.0 e)

unfoldable pub land : Lowered → Link → Caught → Work → LlLink × Work
land l link caught w = landed_behind w.extra (landing l link caught w.writing)

-- where no handler takes the exception, it leaves the graph
abbrev pub leave : ℕ → Extra → LlLink × Extra
leave v e = added (block_with (v ∷ []) [] (exit.Raise v)) e

-- ---- handlers

abbrev pub structs_in : Option Laid → ℕ × ℕ
structs_in None = (0, 0)
structs_in (Some l) = (l.root, l.vtable)

abbrev pub asks : ℕ × ℕ → ℕ × ℕ → Small
asks structs numbers = small.IsInstance structs.0 structs.1 numbers.0 numbers.1

-- the small graph that tells whether an exception is below a class
unfoldable pub test_of : World → ℕ → Small
test_of world class = asks (structs_in (laid world 0)) (range world.classes.classes class)

-- the exception, and what the two ways pass on
abbrev pub test_inputs : ℕ → LlLink → LlLink → List ℕ
test_inputs v there elsewhere = with_new (variables_in elsewhere.args) (v ∷ []) (with_new (variables_in there.args) (v ∷ []) (v ∷ []))

abbrev pub test_block : ℕ → LlLink → LlLink → ℕ → ℕ → LlBlock
test_block v there elsewhere number test = block_with (test_inputs v there elsewhere) (op.Call (Some test) number (Var v ∷ []) ∷ []) (exit.If test there elsewhere)

abbrev pub tested_by : ℕ → LlLink → LlLink → ℕ × Found → ℕ × Body → Extra → LlLink × Work
tested_by v there elsewhere number test e = behind (writing number.1 test.1) (added (test_block v there elsewhere number.0 test.0) e)

unfoldable pub tested : Lowered → ℕ → ℕ → LlLink → LlLink → Work → LlLink × Work
tested l v class there elsewhere w = tested_by v there elsewhere (small_number (test_of l.world class) w.writing.found) (fresh type.Bool w.writing.body) w.extra

abbrev pub or_else : Lowered → Caught → ℕ → LlLink → LlLink × Work → LlLink × Work
or_else l caught class elsewhere there = tested l caught.exception class there.0 elsewhere there.1

-- a handler, before the further ones
unfoldable pub handler : Lowered → Caught → ℕ × Link → LlLink × Work → LlLink × Work
handler l caught hand next = or_else l caught hand.0 next.0 (land l hand.1 caught next.1)

-- the tests are made from the last one on
abbrev pub handlers : Lowered → Caught → List (ℕ × Link) → LlLink × Work → LlLink × Work
handlers l caught [] next = next
handlers l caught (hand ∷ hands) next = handler l caught hand (handlers l caught hands next)

abbrev pub any_other : Lowered → Caught → Option Link → Work → LlLink × Work
any_other l caught None w = behind w.writing (leave caught.exception w.extra)
any_other l caught (Some link) w = land l link caught w

-- the link that an exception takes
unfoldable pub taken : Lowered → Caught → List (ℕ × Link) → Option Link → Work → LlLink × Work
taken l caught hands by w = handlers l caught hands (any_other l caught by w)
