use Rattle.std.proofs.Common.{◌≡◌, ◌≤◌, ◌+◌, ◌*◌, length}
use Rattle.rpy_parse.specs.Shapes.{Items, PairList, GoalList}
use Rattle.rpy_parse.specs.Rows.{reading}
use Rattle.rpy_parse.proofs.+rules.Given as goal

-- Each call has fewer tokens, or as many and a lower rank.
abbrev pub decreases-expression::expression : goal.decreases-expression::expression
decreases-expression::expression l = 64 * length l.tokens.now + 13

abbrev pub decreases-expression::or_rest : goal.decreases-expression::or_rest
decreases-expression::or_rest l = 64 * length l.tokens.now + 0

abbrev pub decreases-expression::conjunction : goal.decreases-expression::conjunction
decreases-expression::conjunction l = 64 * length l.tokens.now + 12

abbrev pub decreases-expression::and_rest : goal.decreases-expression::and_rest
decreases-expression::and_rest l = 64 * length l.tokens.now + 0

abbrev pub decreases-expression::negation : goal.decreases-expression::negation
decreases-expression::negation l = 64 * length l.tokens.now + 11

abbrev pub decreases-expression::comparison : goal.decreases-expression::comparison
decreases-expression::comparison l = 64 * length l.tokens.now + 10

abbrev pub decreases-expression::comparison_rest : goal.decreases-expression::comparison_rest
decreases-expression::comparison_rest l = 64 * length l.tokens.now + 0

abbrev pub decreases-expression::is_rest : goal.decreases-expression::is_rest
decreases-expression::is_rest l = 64 * length l.tokens.now + 11

abbrev pub decreases-expression::compared : goal.decreases-expression::compared
decreases-expression::compared l = 64 * length l.tokens.now + 10

abbrev pub decreases-arithmetic::bit_or : goal.decreases-arithmetic::bit_or
decreases-arithmetic::bit_or l = 64 * length l.tokens.now + 9

abbrev pub decreases-arithmetic::bit_or_rest : goal.decreases-arithmetic::bit_or_rest
decreases-arithmetic::bit_or_rest l = 64 * length l.tokens.now + 0

abbrev pub decreases-arithmetic::bit_xor : goal.decreases-arithmetic::bit_xor
decreases-arithmetic::bit_xor l = 64 * length l.tokens.now + 8

abbrev pub decreases-arithmetic::bit_xor_rest : goal.decreases-arithmetic::bit_xor_rest
decreases-arithmetic::bit_xor_rest l = 64 * length l.tokens.now + 0

abbrev pub decreases-arithmetic::bit_and : goal.decreases-arithmetic::bit_and
decreases-arithmetic::bit_and l = 64 * length l.tokens.now + 7

abbrev pub decreases-arithmetic::bit_and_rest : goal.decreases-arithmetic::bit_and_rest
decreases-arithmetic::bit_and_rest l = 64 * length l.tokens.now + 0

abbrev pub decreases-arithmetic::shift : goal.decreases-arithmetic::shift
decreases-arithmetic::shift l = 64 * length l.tokens.now + 6

abbrev pub decreases-arithmetic::shift_rest : goal.decreases-arithmetic::shift_rest
decreases-arithmetic::shift_rest l = 64 * length l.tokens.now + 0

abbrev pub decreases-arithmetic::sum : goal.decreases-arithmetic::sum
decreases-arithmetic::sum l = 64 * length l.tokens.now + 5

abbrev pub decreases-arithmetic::sum_rest : goal.decreases-arithmetic::sum_rest
decreases-arithmetic::sum_rest l = 64 * length l.tokens.now + 0

abbrev pub decreases-arithmetic::term : goal.decreases-arithmetic::term
decreases-arithmetic::term l = 64 * length l.tokens.now + 4

abbrev pub decreases-arithmetic::term_rest : goal.decreases-arithmetic::term_rest
decreases-arithmetic::term_rest l = 64 * length l.tokens.now + 0

abbrev pub decreases-arithmetic::signed : goal.decreases-arithmetic::signed
decreases-arithmetic::signed l = 64 * length l.tokens.now + 3

abbrev pub decreases-atom::primary : goal.decreases-atom::primary
decreases-atom::primary l = 64 * length l.tokens.now + 2

abbrev pub decreases-atom::trailers : goal.decreases-atom::trailers
decreases-atom::trailers l = 64 * length l.tokens.now + 0

abbrev pub decreases-atom::arguments : goal.decreases-atom::arguments
decreases-atom::arguments l = 64 * length l.tokens.now + 16

abbrev pub decreases-atom::atom : goal.decreases-atom::atom
decreases-atom::atom l = 64 * length l.tokens.now + 1

abbrev pub decreases-atom::other_atom : goal.decreases-atom::other_atom
decreases-atom::other_atom l = 64 * length l.tokens.now + 0

abbrev pub decreases-atom::paren : goal.decreases-atom::paren
decreases-atom::paren l = 64 * length l.tokens.now + 15

abbrev pub decreases-expression::expressions : goal.decreases-expression::expressions
decreases-expression::expressions l = 64 * length l.tokens.now + 14

abbrev pub decreases-expression::expressions_rest : goal.decreases-expression::expressions_rest
decreases-expression::expressions_rest l = 64 * length l.tokens.now + 0

abbrev pub decreases-expression::items : goal.decreases-expression::items
decreases-expression::items l = 64 * length l.tokens.now + 15

abbrev pub decreases-expression::items_rest : goal.decreases-expression::items_rest
decreases-expression::items_rest l = 64 * length l.tokens.now + 0

abbrev pub decreases-expression::item : goal.decreases-expression::item
decreases-expression::item l = 64 * length l.tokens.now + 14

abbrev pub decreases-atom::subscript : goal.decreases-atom::subscript
decreases-atom::subscript l = 64 * length l.tokens.now + 14

abbrev pub decreases-atom::subscript_rest : goal.decreases-atom::subscript_rest
decreases-atom::subscript_rest l = 64 * length l.tokens.now + 0

abbrev pub decreases-atom::slice_end : goal.decreases-atom::slice_end
decreases-atom::slice_end l = 64 * length l.tokens.now + 14

abbrev pub decreases-display::brackets : goal.decreases-display::brackets
decreases-display::brackets l = 64 * length l.tokens.now + 14

abbrev pub decreases-display::brackets_rest : goal.decreases-display::brackets_rest
decreases-display::brackets_rest l = 64 * length l.tokens.now + 1

abbrev pub decreases-display::comprehension : goal.decreases-display::comprehension
decreases-display::comprehension l = 64 * length l.tokens.now + 3

abbrev pub decreases-display::comprehension_in : goal.decreases-display::comprehension_in
decreases-display::comprehension_in l = 64 * length l.tokens.now + 0

abbrev pub decreases-display::comprehension_over : goal.decreases-display::comprehension_over
decreases-display::comprehension_over l = 64 * length l.tokens.now + 14

abbrev pub decreases-display::comprehension_end : goal.decreases-display::comprehension_end
decreases-display::comprehension_end l = 64 * length l.tokens.now + 0

abbrev pub decreases-display::braces : goal.decreases-display::braces
decreases-display::braces l = 64 * length l.tokens.now + 16

abbrev pub decreases-display::pairs : goal.decreases-display::pairs
decreases-display::pairs l = 64 * length l.tokens.now + 15

abbrev pub decreases-display::pair : goal.decreases-display::pair
decreases-display::pair l = 64 * length l.tokens.now + 14

abbrev pub decreases-display::pair_rest : goal.decreases-display::pair_rest
decreases-display::pair_rest l = 64 * length l.tokens.now + 0

abbrev pub decreases-goal::goal : goal.decreases-goal::goal
decreases-goal::goal l = 64 * length l.tokens.now + 2

abbrev pub decreases-goal::goal_rest : goal.decreases-goal::goal_rest
decreases-goal::goal_rest l = 64 * length l.tokens.now + 0

abbrev pub decreases-goal::goals : goal.decreases-goal::goals
decreases-goal::goals l = 64 * length l.tokens.now + 3

abbrev pub decreases-goal::one_goal : goal.decreases-goal::one_goal
decreases-goal::one_goal l = 64 * length l.tokens.now + 2

abbrev pub decreases-goal::goal_part : goal.decreases-goal::goal_part
decreases-goal::goal_part l = 64 * length l.tokens.now + 1

abbrev pub decreases-goal::place_rest : goal.decreases-goal::place_rest
decreases-goal::place_rest l = 64 * length l.tokens.now + 0

abbrev pub decreases-goal::other_rest : goal.decreases-goal::other_rest
decreases-goal::other_rest l = 64 * length l.tokens.now + 0

abbrev pub decreases-goal::place_subscript : goal.decreases-goal::place_subscript
decreases-goal::place_subscript l = 64 * length l.tokens.now + 14

abbrev pub decreases-goal::place_subscript_rest : goal.decreases-goal::place_subscript_rest
decreases-goal::place_subscript_rest l = 64 * length l.tokens.now + 0

-- What is read of a list so far leaves the rest to be read.
abbrev pub invariant-expression::items-more : goal.invariant-expression::items-more
invariant-expression::items-more l = (length l.tokens ≤ length l.fn.tokens) × (reading Items l.fn.x l.fn.tokens ≡ reading Items l.x l.tokens)

abbrev pub decreases-expression::items-more : goal.decreases-expression::items-more
decreases-expression::items-more l = length l.tokens

abbrev pub invariant-display::pairs-more : goal.invariant-display::pairs-more
invariant-display::pairs-more l = (length l.tokens ≤ length l.fn.tokens) × (reading PairList l.fn.x l.fn.tokens ≡ reading PairList l.x l.tokens)

abbrev pub decreases-display::pairs-more : goal.decreases-display::pairs-more
decreases-display::pairs-more l = length l.tokens

abbrev pub invariant-goal::goals-more : goal.invariant-goal::goals-more
invariant-goal::goals-more l = (length l.tokens ≤ length l.fn.tokens) × (reading GoalList l.fn.x l.fn.tokens ≡ reading GoalList l.x l.tokens)

abbrev pub decreases-goal::goals-more : goal.decreases-goal::goals-more
decreases-goal::goals-more l = length l.tokens
