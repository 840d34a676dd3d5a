use Rattle.std.proofs.Common.{rules, Ok, ap, sym, ◌∙◌}
use Rattle.rpy_parse.specs.Input.{here}
use Rattle.rpy_parse.proofs.Untaken.{or_rest_none, and_rest_none, bit_or_rest_none, bit_xor_rest_none, bit_and_rest_none, exprs_rest_none, items_rest_none, goal_rest_none, trailers_none, paren_ends}
use Rattle.rpy_parse.proofs.+rules.Goals as goal

pub expression::or_rest-returns-then-not-eat_word-clause-reads : goal.expression::or_rest-returns-then-not-eat_word-clause-reads
expression::or_rest-returns-then-not-eat_word-clause-reads t c = or_rest_none c.args.a c.args.tokens.now c.eat_word.new.self c.if-not-eat_word.ensures.seen c.if-not-eat_word.ensures.rest

pub expression::and_rest-returns-then-not-eat_word-clause-reads : goal.expression::and_rest-returns-then-not-eat_word-clause-reads
expression::and_rest-returns-then-not-eat_word-clause-reads t c = and_rest_none c.args.a c.args.tokens.now c.eat_word.new.self c.if-not-eat_word.ensures.seen c.if-not-eat_word.ensures.rest

pub arithmetic::bit_or_rest-returns-then-not-eat-clause-reads : goal.arithmetic::bit_or_rest-returns-then-not-eat-clause-reads
arithmetic::bit_or_rest-returns-then-not-eat-clause-reads t c = bit_or_rest_none c.args.a c.args.tokens.now c.eat.new.self c.if-not-eat.ensures.seen c.if-not-eat.ensures.rest

pub arithmetic::bit_xor_rest-returns-then-not-eat-clause-reads : goal.arithmetic::bit_xor_rest-returns-then-not-eat-clause-reads
arithmetic::bit_xor_rest-returns-then-not-eat-clause-reads t c = bit_xor_rest_none c.args.a c.args.tokens.now c.eat.new.self c.if-not-eat.ensures.seen c.if-not-eat.ensures.rest

pub arithmetic::bit_and_rest-returns-then-not-eat-clause-reads : goal.arithmetic::bit_and_rest-returns-then-not-eat-clause-reads
arithmetic::bit_and_rest-returns-then-not-eat-clause-reads t c = bit_and_rest_none c.args.a c.args.tokens.now c.eat.new.self c.if-not-eat.ensures.seen c.if-not-eat.ensures.rest

pub expression::expressions_rest-returns-then-not-eat-clause-reads : goal.expression::expressions_rest-returns-then-not-eat-clause-reads
expression::expressions_rest-returns-then-not-eat-clause-reads t c = exprs_rest_none c.args.a c.args.tokens.now c.eat.new.self c.if-not-eat.ensures.seen c.if-not-eat.ensures.rest

pub expression::items_rest-returns-then-not-eat-clause-reads : goal.expression::items_rest-returns-then-not-eat-clause-reads
expression::items_rest-returns-then-not-eat-clause-reads t c = items_rest_none c.args.x c.args.tokens.now c.eat.new.self c.if-not-eat.ensures.seen c.if-not-eat.ensures.rest

pub goal::goal_rest-returns-then-not-eat-clause-reads : goal.goal::goal_rest-returns-then-not-eat-clause-reads
goal::goal_rest-returns-then-not-eat-clause-reads t c = goal_rest_none c.args.a c.args.tokens.now c.eat.new.self c.if-not-eat.ensures.seen c.if-not-eat.ensures.rest

pub atom::trailers-returns-clause-reads : goal.atom::trailers-returns-clause-reads
atom::trailers-returns-clause-reads t c = trailers_none c.args.a c.args.tokens.now c.eat.new.self c.eat-2.new.self c.eat-3.new.self c.if-eat.ensures.seen c.if-eat.ensures.rest c.if-eat-2.ensures.seen c.if-eat-2.ensures.rest c.if-eat-3.ensures.seen c.if-eat-3.ensures.rest

pub atom::paren-returns-clause-reads : goal.atom::paren-returns-clause-reads
atom::paren-returns-clause-reads t c =
    paren_ends c.args.lines c.args.line c.args.tokens.now c.eat.new.self c.expressions.new.tokens c.expect.new.self c.in_ok-a.a (here c.expressions.new.tokens) c.if-eat.ensures.seen c.if-eat.ensures.rest c.in_ok-a.ensures.reads c.in_ok-expect.ensures.reads
    ∙ ap (λ g. Ok (g, c.expect.new.self)) (sym c.bracketed.ensures)
