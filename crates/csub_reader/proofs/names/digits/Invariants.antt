use Rattle.std.proofs.Common.{◌≡◌, ◌<◌, ◌^◌, drop}
use Rattle.csub_text.specs.Read.{lead}
use Rattle.csub_reader.proofs.names.digits.Given as goal

abbrev pub invariant-loop-b : goal.invariant-loop-b
invariant-loop-b l = (l.n < 2 ^ 64) × (lead 0 l.bytes ≡ lead l.n (drop l.b-index l.bytes))
