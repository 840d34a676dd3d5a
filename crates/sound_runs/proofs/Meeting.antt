-- What is closed is met.
use Rattle.std.proofs.Common.{ℕ, zero, suc, List, [], ◌∷◌}
use Rattle.std.specs.Prelude.{get_or}
use Rattle.rpy_tree.specs.declared.program.ClassInfo.{ClassInfo}
use Rattle.ann_lattice.specs.Assign.{Assignment, Need, Up, Set, Holds}
use Rattle.ann_rules.specs.Rules.{needs, no_need}
use Rattle.sound_rows.specs.Sound.{IsMet, AllMet}
use Rattle.sound_runs.specs.Closed.{IsThere, AreThere, ClosedIsMet}

held : (k : List ClassInfo) (a : Assignment) (n : Need) → Holds k a n → IsThere a n → IsMet k a n
held k a (Up c es) h t = h t
held k a (Set m) h t = h t

all_held : (k : List ClassInfo) (a : Assignment) (ns : List Need) → ((r : ℕ) → Holds k a (get_or ns r no_need)) → AreThere a ns → AllMet k a ns
all_held k a [] h t = tt
all_held k a (n ∷ ns) h t = (held k a n (h zero) t.0, all_held k a ns (λ r. h (suc r)) t.1)

pub closed_is_met : ClosedIsMet
closed_is_met p a closed there = all_held p.tables.classes a (needs p a) closed there
