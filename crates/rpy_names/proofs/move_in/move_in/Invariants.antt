use Rattle.std.proofs.Common.{◌≡◌, ◌+◌, ◌≤◌, ◌++◌, length, reverse, vec_len}
use Rattle.std.specs.Prelude.{vec_capacity}
use Rattle.rpy_names.specs.Place.{modules_of, names_of}
use Rattle.rpy_names.proofs.move_in.move_in.Given as goal

abbrev pub invariant-loop-name : goal.invariant-loop-name
invariant-loop-name l = record {
  named : names_of l.rest ++ reverse l.names.items ≡ names_of l.fn.modules;
  moved : modules_of l.rest ++ reverse l.all.items ≡ modules_of l.fn.modules;
  room_for_names : vec_len l.names + length l.rest ≤ vec_capacity l.names;
  room_for_modules : vec_len l.all + length l.rest ≤ vec_capacity l.all;
}

abbrev pub decreases-loop-name : goal.decreases-loop-name
decreases-loop-name l = length l.rest
