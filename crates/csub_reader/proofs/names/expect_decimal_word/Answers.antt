use Rattle.std.proofs.Common.{◌≡◌, ◌++◌, rules, codes}
use Rattle.std.specs.Fmt.{signed_decimal}
use Rattle.csub_text.specs.Read.{stripped}
use Rattle.csub_reader.proofs.Strip.{strips_on}
use Rattle.csub_reader.proofs.names.expect_decimal_word.Goals as goal

pub returns-clause-reads : goal.returns-clause-reads
returns-clause-reads c =
    let e : stripped (signed_decimal c.args.z ++ codes "L") c.args.bytes.now ≡ stripped (codes "L") c.expect.new.self =
    strips_on (signed_decimal c.args.z) (codes "L") c.args.bytes.now c.expect.new.self (search rules) in
    rw e c.expect-2.ensures.reads
