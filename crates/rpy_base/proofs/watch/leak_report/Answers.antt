use Rattle.std.proofs.Common.{rules, ◌++◌, ◌∷◌, [], get_or, ap, ◌∙◌, false}
use Rattle.rpy_base.specs.declared.watch.Entry.{Entry}
use Rattle.rpy_base.specs.Watching.{leak_lines_of}
use Rattle.rpy_base.specs.Entries.{live_blocks}
use Rattle.rpy_base.proofs.Marking.{lines_more}
use Rattle.rpy_base.proofs.watch.leak_report.Goals as goal

pub loop-entry-preserved : goal.loop-entry-preserved
loop-entry-preserved c =
    let none : Entry = record { number = 0; kind = 0; cells = 0; live = false } in
    let entry = get_or c.args.entries.now c.loop-entry.entry-index none in
    c.in_ok-push_entry.ensures ∙ ap (λ text. text ++ leak_lines_of (live_blocks (entry ∷ []))) c.loop-entry.invariant ∙ lines_more c.args.entries.now c.loop-entry.entry-index none (search rules)
