use Rattle.std.proofs.Common.{◌≡◌, ◌++◌, drop}
use Rattle.rtyper_data.specs.Seen.{the_around}
use Rattle.rtyper_class.specs.Calls.{param_types, types_of}
use Rattle.rtyper_class.proofs.call.param_types.Given as goal

abbrev pub invariant-loop-element : goal.invariant-loop-element
invariant-loop-element l =
    l.kinds ++ types_of (the_around l.around).layout (drop l.element-index l.element-items) ≡ param_types (the_around l.around) l.function
