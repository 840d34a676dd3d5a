use Rattle.std.proofs.Common.{◌≡◌, map, ap, ◌∙◌, arith}
use Rattle.flow_space.specs.Placed.{hands_of}
use Rattle.flow_space.proofs.Hands.{hand_for, hands_are}
use Rattle.std.proofs.lemmas.Grind.{common_steps}
use Rattle.flow_space.proofs.Parts.{ok_map}
use Rattle.flow_space.proofs.statement.add_hands.Goals as goal

pub returns : goal.returns
returns c =
    let made : c.loop-class.hands ≡ map (hand_for c.args.local c.args.aim) c.args.classes.now = grind (arith, common_steps) in
    ok_map c.copy_hands.result (λ all e.
    ap hands_of e ∙ hands_are c.args.local c.args.aim c.args.classes.now c.args.others.now) (rw made at c.copy_hands.ensures)
