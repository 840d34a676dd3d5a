use Rattle.std.proofs.Common.{◌+◌, ◌*◌, length}
use Rattle.rpy_parse.proofs.simple.+del.Given as goal

-- Each call has fewer tokens, or as many and a lower rank.
abbrev pub decreases-del_other : goal.decreases-del_other
decreases-del_other l = 64 * length l.tokens.now + 0

abbrev pub decreases-del_index : goal.decreases-del_index
decreases-del_index l = 64 * length l.tokens.now + 0

abbrev pub decreases-del_subscript : goal.decreases-del_subscript
decreases-del_subscript l = 64 * length l.tokens.now + 14

abbrev pub decreases-del_subscript_rest : goal.decreases-del_subscript_rest
decreases-del_subscript_rest l = 64 * length l.tokens.now + 0
