use Rattle.std.proofs.Common.{refl}
use Rattle.exc_transform.proofs.Without.{made_calm, made_heads}
use Rattle.exc_transform.proofs.explicit.make_explicit.Goals as goal

pub returns-clause-calm : goal.returns-clause-calm
returns-clause-calm c = made_calm c.as_slice.result.now c.args.program.graphs c.in_ok-graphs.graphs c.in_ok-graphs.ensures

pub returns-clause-kept : goal.returns-clause-kept
returns-clause-kept c = record { stage = refl; structs = refl; statics = refl; entry = refl; heads = made_heads c.as_slice.result.now c.args.program.graphs c.in_ok-graphs.graphs c.in_ok-graphs.ensures }
