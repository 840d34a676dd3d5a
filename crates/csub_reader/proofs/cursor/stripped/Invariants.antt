use Rattle.std.proofs.Common.{◌≡◌, ◌++◌, take, drop}
use Rattle.csub_text.specs.Read.{stripped}
use Rattle.csub_reader.proofs.cursor.stripped.Given as goal

abbrev pub invariant-loop-p : goal.invariant-loop-p
invariant-loop-p l = record {
  spelled : l.bytes ≡ take l.p-index l.start ++ l.rest;
  reads : stripped l.start l.bytes ≡ stripped (drop l.p-index l.start) l.rest;
}
