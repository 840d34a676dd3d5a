use Rattle.std.proofs.Common.{rules, ◌∙◌, ap}
use Rattle.std.proofs.lemmas.Fn.{filter_same}
use Rattle.rpy_base.specs.Entries.{live_blocks}
use Rattle.rpy_base.proofs.Marking.{live_blocks-kept}
use Rattle.rpy_base.proofs.watch.sweep.Goals as goal

pub returns-then-len-live : goal.returns-then-len-live
returns-then-len-live c = ap live_blocks (filter_same _ _ _ (λ x b f' k. search rules) _ _ c.retain.ensures.filtered) ∙ live_blocks-kept c.args.entries.now.items
