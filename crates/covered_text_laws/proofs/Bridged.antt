-- What is done with strings is done over the relation of objects.
use Rattle.std.proofs.Common.{◌++◌, length}
use Rattle.ll_code.specs.State.{At}
use Rattle.rpy_meaning.specs.Operations.{op as meant_op}
use Rattle.object_laws.specs.Done.{references}
use Rattle.object_laws.proofs.Bridged.{follows_high, given_low, many_given}
use Rattle.covered_text_laws.specs.Done.{CoveredIsDone}

pub covered_is_done : CoveredIsDone
covered_is_done known around o covers asks place args w law simple simple_place pays = record {
  ops = law.ops;
  new = law.new;
  asked = law.asked;
  written = law.written;
  types = law.types;
  follows = λ p numbers raised arguments rest e frames core g world vs structs has stands left room inside below given good.
      follows_high known around place simple_place p arguments (At (law.ops ++ rest) e frames core) rest e frames core g raised (length args) (references world.heap vs) (length w.body.types) (many_given known around g world.heap core args vs given) world stands
      (meant_op known.program covers o vs world) (λ v w' h. pays vs world w' v h)
      (law.follows known.program p numbers raised arguments rest e frames core world vs structs.plain has left room inside below (given_low known around g world.heap world.left core stands args vs simple given));
}
