use Rattle.std.proofs.Common.{◌+◌, ◌*◌, length}
use Rattle.ann_element.specs.Size.{size, sizes}
use Rattle.ann_lattice.proofs.upper.+join.Given as goal

abbrev pub decreases-join_elements : goal.decreases-join_elements
decreases-join_elements l = 6 * size l.a.now

abbrev pub decreases-join_tuple : goal.decreases-join_tuple
decreases-join_tuple l = 6 * sizes l.parts.now + 5

abbrev pub decreases-join_tuples : goal.decreases-join_tuples
decreases-join_tuples l = 6 * sizes l.parts.now + 4

abbrev pub decreases-join_parts : goal.decreases-join_parts
decreases-join_parts l = 6 * sizes l.parts.now + 3

abbrev pub decreases-push_joins : goal.decreases-push_joins
decreases-push_joins l = 6 * sizes l.parts.now + 2

abbrev pub decreases-push_join : goal.decreases-push_join
decreases-push_join l = 6 * size l.a.now + 1
