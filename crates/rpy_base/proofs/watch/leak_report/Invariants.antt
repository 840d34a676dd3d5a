use Rattle.std.proofs.Common.{◌≡◌, take}
use Rattle.rpy_base.specs.Watching.{leak_lines_of}
use Rattle.rpy_base.specs.Entries.{live_blocks}
use Rattle.rpy_base.proofs.watch.leak_report.Given as goal

abbrev pub invariant-loop-entry : goal.invariant-loop-entry
invariant-loop-entry l = l.text ≡ leak_lines_of (live_blocks (take l.entry-index l.entries))
