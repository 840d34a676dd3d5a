use Rattle.std.proofs.Common.{rules}
use Rattle.csub_text.proofs.Files.{none_whole}
use Rattle.csub_reader.proofs.read.read_text.Goals as goal

pub refusal-requires : goal.refusal-requires
refusal-requires c = none_whole c.args.text.now (search rules)
