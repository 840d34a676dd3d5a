use Rattle.std.proofs.Common.{rules}
use Rattle.ll_helpers.specs.StringsMake.{str_add_makes}
use Rattle.ll_helpers.proofs.strings_make.str_add_makes.Goals as goal

pub returns : goal.returns
unfolding str_add_makes
returns c = search rules
