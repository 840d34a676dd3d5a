use Rattle.std.proofs.Common.{rules}
use Rattle.ll_file.proofs.Made.{file_made}
use Rattle.ll_file.proofs.file.file_of.Goals as goal

-- src/file.rt:42:1
pub returns : goal.returns
returns c =
    file_made c.args.program c.in_ok-explicit.explicit c.in_ok-counted.counted c.lower.result (c.in_ok-can_raise.ensures (search rules)) c.in_ok-explicit.ensures.exact c.in_ok-explicit.ensures.kept.stage (c.in_ok-passes.ensures (search rules)) c.in_ok-counted.ensures.exact
    c.lower.ensures
