-- A helper that raises the exceptions of its failures only asks for them.
use Rattle.std.proofs.Common.{ℕ, List, [], ◌∷◌, Option, Some, None}
use Rattle.ll_code.specs.declared.program.LlBlock.{LlBlock}
use Rattle.rpy_meaning.specs.declared.row.Covers.{Covers}
use Rattle.rtyper_data.specs.declared.found.Found.{Found}
use Rattle.rtyper_data.specs.declared.small.Small.TheVariants as small
use Rattle.rtyper_raising.specs.Raising.{failing_with, raising_block, raising_blocks}
use Rattle.growth_laws.specs.Growing.{Grows}
use Rattle.growth_laws.proofs.Growing.{same_found, smalls_grow}
use Rattle.growth_laws.proofs.Data.{then_grows}

pub raising_block_grows : (block : LlBlock) (class : Option ℕ) (found : Found) → Grows found (raising_block block class found).1
raising_block_grows block None found = same_found found
raising_block_grows block (Some class) found = smalls_grow (small.Raise class) found

pub raising_blocks_grows : (covers : Covers) (blocks : List LlBlock) (found : Found) → Grows found (raising_blocks covers blocks found).1
raising_blocks_grows c [] found = same_found found
raising_blocks_grows c (block ∷ blocks) found = then_grows (raising_block_grows block (failing_with block.exit c) found) (raising_blocks_grows c blocks (raising_block block (failing_with block.exit c) found).1)
