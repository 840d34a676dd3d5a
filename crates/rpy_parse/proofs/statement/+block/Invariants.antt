use Rattle.std.proofs.Common.{◌≡◌, ◌+◌, ◌*◌, ◌≤◌, ◌<◌, length}
use Rattle.rpy_parse.specs.Rows.{reading}
use Rattle.rpy_parse.specs.Shapes.{Statements, Elifs, Clauses}
use Rattle.rpy_parse.proofs.statement.+block.Given as goal

abbrev pub invariant-statements-loop-alloc : goal.invariant-statements-loop-alloc
invariant-statements-loop-alloc l = (reading Statements (l.place, l.body) l.tokens ≡ reading Statements (l.place, l.fn.body) l.fn.tokens) × (length l.tokens ≤ length l.fn.tokens)

abbrev pub decreases-statements-loop-alloc : goal.decreases-statements-loop-alloc
decreases-statements-loop-alloc l = length l.tokens

abbrev pub invariant-elifs-loop-tokens : goal.invariant-elifs-loop-tokens
invariant-elifs-loop-tokens l = (reading Elifs (l.place, l.arms) l.tokens ≡ reading Elifs (l.place, l.fn.arms) l.fn.tokens) × (length l.tokens ≤ length l.fn.tokens)

abbrev pub decreases-elifs-loop-tokens : goal.decreases-elifs-loop-tokens
decreases-elifs-loop-tokens l = length l.tokens

abbrev pub invariant-clauses-loop-alloc : goal.invariant-clauses-loop-alloc
invariant-clauses-loop-alloc l = (reading Clauses (l.place, l.x) l.tokens ≡ reading Clauses (l.place, l.fn.x) l.fn.tokens) × (length l.tokens ≤ length l.fn.tokens)

abbrev pub decreases-clauses-loop-alloc : goal.decreases-clauses-loop-alloc
decreases-clauses-loop-alloc l = length l.tokens

-- Each call has fewer tokens, or as many and a lower rank.
abbrev pub decreases-block : goal.decreases-block
decreases-block l = 64 * length l.tokens.now + 19

abbrev pub decreases-statements : goal.decreases-statements
decreases-statements l = 64 * length l.tokens.now + 20

abbrev pub decreases-statement : goal.decreases-statement
decreases-statement l = 64 * length l.tokens.now + 19

abbrev pub decreases-compound : goal.decreases-compound
decreases-compound l = 64 * length l.tokens.now + 1

abbrev pub decreases-if_word : goal.decreases-if_word
decreases-if_word l = 64 * length l.tokens.now + 0

abbrev pub decreases-if_then : goal.decreases-if_then
decreases-if_then l = 64 * length l.tokens.now + 0

abbrev pub decreases-first_arm : goal.decreases-first_arm
decreases-first_arm l = 64 * length l.tokens.now + 20

abbrev pub decreases-elifs : goal.decreases-elifs
decreases-elifs l = 64 * length l.tokens.now + 1

abbrev pub decreases-otherwise : goal.decreases-otherwise
decreases-otherwise l = 64 * length l.tokens.now + 0

abbrev pub decreases-else_body : goal.decreases-else_body
decreases-else_body l = 64 * length l.tokens.now + 0

abbrev pub decreases-elif : goal.decreases-elif
decreases-elif l = 64 * length l.tokens.now + 15

abbrev pub decreases-elif_arm : goal.decreases-elif_arm
decreases-elif_arm l = 64 * length l.tokens.now + 14

abbrev pub decreases-elif_body : goal.decreases-elif_body
decreases-elif_body l = 64 * length l.tokens.now + 0

abbrev pub decreases-while_word : goal.decreases-while_word
decreases-while_word l = 64 * length l.tokens.now + 0

abbrev pub decreases-while_body : goal.decreases-while_body
decreases-while_body l = 64 * length l.tokens.now + 0

abbrev pub decreases-for_word : goal.decreases-for_word
decreases-for_word l = 64 * length l.tokens.now + 0

abbrev pub decreases-for_in : goal.decreases-for_in
decreases-for_in l = 64 * length l.tokens.now + 0

abbrev pub decreases-for_body : goal.decreases-for_body
decreases-for_body l = 64 * length l.tokens.now + 0

abbrev pub decreases-try_word : goal.decreases-try_word
decreases-try_word l = 64 * length l.tokens.now + 0

abbrev pub decreases-try_rest : goal.decreases-try_rest
decreases-try_rest l = 64 * length l.tokens.now + 2

abbrev pub decreases-finish : goal.decreases-finish
decreases-finish l = 64 * length l.tokens.now + 1

abbrev pub decreases-clauses : goal.decreases-clauses
decreases-clauses l = 64 * length l.tokens.now + 2

abbrev pub decreases-next_clause : goal.decreases-next_clause
decreases-next_clause l = 64 * length l.tokens.now + 1

abbrev pub decreases-one_clause : goal.decreases-one_clause
decreases-one_clause l = 64 * length l.tokens.now + 0

abbrev pub decreases-handler : goal.decreases-handler
decreases-handler l = 64 * length l.tokens.now + 0

abbrev pub decreases-try_end : goal.decreases-try_end
decreases-try_end l = 64 * length l.tokens.now + 1

abbrev pub decreases-try_finally : goal.decreases-try_finally
decreases-try_finally l = 64 * length l.tokens.now + 0
