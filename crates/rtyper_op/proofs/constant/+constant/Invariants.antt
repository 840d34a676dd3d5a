use Rattle.std.proofs.Common.{◌≡◌, ◌++◌, drop, map}
use Rattle.rtyper_op.specs.Constants.{constant_of, parts_of}
use Rattle.rtyper_data.specs.Seen.{the_around}
use Rattle.rtyper_op.proofs.constant.+constant.Given as goal

abbrev pub invariant-tuple_cells-loop-part : goal.invariant-tuple_cells-loop-part
invariant-tuple_cells-loop-part l = record {
  given :
      l.cells ++ (parts_of (map (constant_of (the_around l.around)) (drop l.part-index l.parts)) l.rest l.found).0
      ≡ (parts_of (map (constant_of (the_around l.around)) l.parts) l.initial.rest l.initial.found).0;
  left :
      (parts_of (map (constant_of (the_around l.around)) (drop l.part-index l.parts)) l.rest l.found).1
      ≡ (parts_of (map (constant_of (the_around l.around)) l.parts) l.initial.rest l.initial.found).1;
}
