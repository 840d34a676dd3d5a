use Rattle.std.proofs.Common.{◌≡◌, drop}
use Rattle.rpy_names.specs.Tables.{classes_onto, class_infos}
use Rattle.rpy_names.proofs.tables.class_infos.Given as goal

abbrev pub invariant-loop-place : goal.invariant-loop-place
invariant-loop-place l = classes_onto l.infos l.of.names.now l.of.units.now l.of.values.now l.of.constants.now l.of.functions.now l.of.bases.now l.place (drop l.place l.classes) ≡ class_infos l.of.names.now l.of.units.now l.of.values.now l.of.constants.now l.of.functions.now l.of.bases.now l.classes
