use Rattle.std.proofs.Common.{rules, ◌∙◌, ap, set}
use Rattle.rpy_base.specs.Entries.{live_blocks}
use Rattle.rpy_base.proofs.Marking.{marked, marked_entry, entry_inside}
use Rattle.rpy_base.proofs.watch.mark.Goals as goal

pub index_mut-requires : goal.index_mut-requires
index_mut-requires c = let inside = entry_inside c.args.number c.args.entries.now.items c.args.at c.requires.stands in search rules

pub returns : goal.returns
returns c =
    ap (λ e. live_blocks (set c.args.entries.now.items c.args.at (marked_entry e))) c.index_mut.ensures.value
    ∙ marked c.args.number c.args.entries.now.items c.args.at c.index_mut.result.now c.requires.stands c.requires.distinct
