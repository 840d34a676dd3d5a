use Rattle.std.proofs.Common.{ap, ◌∙◌}
use Rattle.csub_tree.specs.Spelling.{file_text}
use Rattle.first_lower.specs.Lower.{lowered}
use Rattle.first_lower.proofs.Read.{known_as}
use Rattle.first_lower.proofs.text.write_program.Goals as goal

pub returns : goal.returns
returns c =
    let e = c.in_ok-file.ensures ∙ ap (λ n. lowered n c.args.body.now) c.in_ok-entry_name.ensures in
    known_as c.write_c.result _ _ (ap file_text e) c.write_c.ensures
