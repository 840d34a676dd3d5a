use Rattle.rpy_token.proofs.LinesLemmas.{skipped}
use Rattle.rpy_token.proofs.lines.Place.skip.Goals as goal

pub invariant_of-self : goal.invariant_of-self
invariant_of-self c =
    let p = c.self.inside in
    let k = skipped p.source.now p.at p.line c.args.n c.newlines-passed.result c.args.self.now c.rest.result.now c.self.view_is c.requires c.rest.ensures c.newlines-passed.ensures c.self.invariant.2 c.self.invariant.0 in
    (k.0, c.self.invariant.1, k.1)
