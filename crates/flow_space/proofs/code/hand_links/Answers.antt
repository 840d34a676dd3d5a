use Rattle.std.proofs.Common.{arith}
use Rattle.std.proofs.lemmas.Grind.{common_steps}
use Rattle.flow_space.proofs.Parts.{links_map}
use Rattle.flow_space.proofs.code.hand_links.Goals as goal

pub returns : goal.returns
returns c = let e = links_map c.args.base c.args.place c.args.hands.now in grind (arith, common_steps, e)
