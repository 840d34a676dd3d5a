use Rattle.flow_space.proofs.covers.+is_in_line.Given as goal

abbrev pub decreases-is_in_line : goal.decreases-is_in_line
decreases-is_in_line l = l.levels
