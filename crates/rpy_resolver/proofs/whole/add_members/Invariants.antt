use Rattle.std.proofs.Common.{◌≡◌, ◌+◌, List, ◌++◌, length, map, take, drop}
use Rattle.std.specs.Prelude.{sum_by}
use Rattle.std.specs.List.{flat_map}
use Rattle.rpy_resolved.specs.Count.{member_count}
use Rattle.resolver_names.specs.Told.{the_names}
use Rattle.resolver_laws.specs.Listing.{tree_in, numbered, member_pairs}
use Rattle.resolver_laws.specs.Made.{Source, member_sources}
use Rattle.rpy_resolver.proofs.Sources.{Adds}
use Rattle.rpy_resolver.proofs.whole.add_members.Given as goal

abbrev pub invariant-loop-member : goal.invariant-loop-member
invariant-loop-member l =
    (length l.functions ≡ length l.initial.functions + sum_by member_count (take l.member-index l.members))
    × (map (tree_in l.names.program.now) l.functions ++ numbered l.names.program.now.functions (length l.functions) (flat_map (member_pairs (the_names l.names)) (drop l.member-index l.members))
    ≡ map (tree_in l.names.program.now) l.initial.functions ++ numbered l.names.program.now.functions (length l.initial.functions) (flat_map (member_pairs (the_names l.names)) l.members))
    × ((more : List Source) × Adds l.initial.functions l.functions more × (more ++ flat_map (member_sources l.names.first) (drop l.member-index l.members) ≡ flat_map (member_sources l.names.first) l.members))
