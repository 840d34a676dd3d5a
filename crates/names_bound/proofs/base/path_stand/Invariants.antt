use Rattle.std.proofs.Common.{◌≡◌, drop}
use Rattle.names_bound.specs.Base.{further_from, path_stand}
use Rattle.names_bound.proofs.base.path_stand.Given as goal

abbrev pub invariant-loop-name : goal.invariant-loop-name
invariant-loop-name l = further_from l.scopes l.stand (drop l.name-index l.further) ≡ path_stand l.scopes l.at l.path
