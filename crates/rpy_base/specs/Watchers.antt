-- What the watchers of this crate have seen.
use Rattle.std.specs.Prelude.{None, Some, codes}
use Rattle.rpy_base.specs.declared.watch.Tally.{Tally}
use Rattle.rpy_base.specs.declared.watch.Leaks.{Leaks}
use Rattle.rpy_base.specs.Entries.{live_blocks}
use Rattle.rpy_base.specs.Watching.{Seen, TallyLine, LeakLines}

abbrev pub tally_seen : Tally → Seen
tally_seen t = record { name = codes "tally"; style = TallyLine; made = t.made; gone = t.gone; live = None }

abbrev pub leaks_seen : Leaks → Seen
leaks_seen l = record { name = codes "leaks"; style = LeakLines; made = l.made; gone = l.gone; live = Some (live_blocks l.entries.items) }
