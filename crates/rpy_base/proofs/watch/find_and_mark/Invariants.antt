use Rattle.std.proofs.Common.{◌≡◌, take, false}
use Rattle.rpy_base.specs.Watching.{is_live}
use Rattle.rpy_base.specs.Entries.{live_blocks}
use Rattle.rpy_base.proofs.watch.find_and_mark.Given as goal

abbrev pub invariant-loop-i : goal.invariant-loop-i
invariant-loop-i l = record {
  same : l.entries.items ≡ l.initial.entries.items;
  none : is_live l.number (live_blocks (take l.i l.entries.items)) ≡ false;
}
