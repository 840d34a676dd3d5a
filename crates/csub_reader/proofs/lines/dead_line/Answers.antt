use Rattle.std.proofs.Common.{◌≡◌, ◌<◌, ◌^◌, [], refl, rules, arith, length, drop, ap, sym, length-drop}
use Rattle.csub_text.proofs.DeadLine.{lines_fit, line_len_some, line_passed, dead_here, dead_behind}
use Rattle.csub_reader.proofs.lines.dead_line.Goals as goal

pub loop-rest-init : goal.loop-rest-init
loop-rest-init c = ([], sym c.bytes-rest.ensures, refl, refl)

pub overflow_add-result : goal.overflow_add-result
overflow_add-result c =
    let few = lines_fit c.args.text.now c.loop-rest.rest.now c.loop-rest.at c.loop-rest.lines c.loop-rest.invariant in
    let small : length c.bytes-rest.result.now < 2 ^ 63 = search rules in
    omega (arith, few, small, ap length c.bytes-rest.ensures)

pub returns-in-Err-NoText : goal.returns-in-Err-NoText
returns-in-Err-NoText c =
    dead_here c.args.text.now c.loop-rest.rest.now c.split_at.result.0.now c.line_len.result c.loop-rest.at c.loop-rest.lines c.loop-rest.invariant c.requires
    c.line_len.ensures.value c.split_at.ensures.front (search rules)

pub overflow_add-lines : goal.overflow_add-lines
overflow_add-lines c =
    let few = lines_fit c.args.text.now c.loop-rest.rest.now c.loop-rest.at c.loop-rest.lines c.loop-rest.invariant in
    let small : length c.bytes-rest.result.now < 2 ^ 63 = search rules in
    omega (arith, few, small, ap length c.bytes-rest.ensures)

pub loop-rest-smaller : goal.loop-rest-smaller
loop-rest-smaller c =
    let some = line_len_some c.loop-rest.rest.now (search rules) in
    let e : length c.split_at.result.1.now ≡ length (drop c.line_len.result c.loop-rest.rest.now) = ap length c.split_at.ensures.back in
    omega (arith, some, e, c.line_len.ensures.value, c.line_len.ensures.within, length-drop c.line_len.result c.loop-rest.rest.now)

pub loop-rest-preserved : goal.loop-rest-preserved
loop-rest-preserved c =
    line_passed c.args.text.now c.loop-rest.rest.now c.split_at.result.0.now c.split_at.result.1.now c.line_len.result c.loop-rest.at c.in-Ok.next c.loop-rest.lines c.loop-rest.invariant
    c.split_at.ensures.front c.split_at.ensures.back (search rules)

pub overflow_add-result-2 : goal.overflow_add-result-2
overflow_add-result-2 c =
    let few = lines_fit c.args.text.now c.loop-rest.rest.now c.loop-rest.at c.loop-rest.lines c.loop-rest.invariant in
    let small : length c.bytes-rest.result.now < 2 ^ 63 = search rules in
    omega (arith, few, small, ap length c.bytes-rest.ensures)

pub returns : goal.returns
returns c = dead_behind c.args.text.now c.loop-rest.rest.now c.loop-rest.at c.loop-rest.lines c.loop-rest.invariant c.requires (search rules)
