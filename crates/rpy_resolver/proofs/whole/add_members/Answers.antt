use Rattle.std.proofs.Common.{◌≡◌, ◌+◌, List, [], ◌++◌, length, map, take, drop, refl, sym, ap, ◌∙◌, subst, arith}
use Rattle.std.specs.Prelude.{sum_by}
use Rattle.std.specs.List.{flat_map}
use Rattle.resolver_names.specs.Told.{the_names}
use Rattle.resolver_laws.specs.Listing.{tree_in, numbered, member_pairs}
use Rattle.resolver_laws.proofs.Listed.{added_on}
use Rattle.rpy_resolved.specs.Count.{member_count}
use Rattle.resolver_laws.specs.Made.{Source, member_sources, AreFrom}
use Rattle.rpy_resolver.proofs.Sources.{adds_none, adds_on, left_on, all_done}
use Rattle.rpy_resolver.proofs.Forms.{drop_at, drop_all}
use Rattle.rpy_resolver.proofs.Listed.{counted}
use Rattle.rpy_resolver.proofs.whole.add_members.Goals as goal

pub loop-member-init : goal.loop-member-init
loop-member-init c = (let z : sum_by member_count (take 0 c.args.members.now) ≡ 0 = refl in omega (arith, z), refl, ([], adds_none c.args.functions.now, refl))

pub loop-member-preserved : goal.loop-member-preserved
loop-member-preserved c = (
  counted c.args.members.now c.loop-member.member-index c.member-item.result (length c.args.functions.now) (length c.loop-member.functions) (length c.add_member.new.functions) c.loop-member-test.true c.member-item.is c.loop-member.invariant.0 c.in_ok-add_member.ensures.count,
  added_on c.args.names.now.program.now c.loop-member.functions c.add_member.new.functions (member_pairs (the_names c.args.names.now) c.member-item.result) (flat_map (member_pairs (the_names c.args.names.now)) (drop (c.loop-member.member-index + 1) c.args.members.now)) c.in_ok-add_member.ensures.added
      ∙ ap (λ us. map (tree_in c.args.names.now.program.now) c.loop-member.functions ++ numbered c.args.names.now.program.now.functions (length c.loop-member.functions) (flat_map (member_pairs (the_names c.args.names.now)) us)) (sym (drop_at c.args.members.now c.loop-member.member-index c.member-item.result c.loop-member-test.true c.member-item.is))
      ∙ c.loop-member.invariant.1,
  (
    (c.loop-member.invariant.2.0 ++ member_sources c.args.names.now.first c.member-item.result),
    adds_on c.args.functions.now c.loop-member.functions c.add_member.new.functions c.loop-member.invariant.2.0 (member_sources c.args.names.now.first c.member-item.result) c.loop-member.invariant.2.1 c.in_ok-add_member.ensures.from,
    left_on (member_sources c.args.names.now.first) c.loop-member.invariant.2.0 (flat_map (member_sources c.args.names.now.first) c.args.members.now) c.member-item.result (drop c.loop-member.member-index c.args.members.now) (drop (c.loop-member.member-index + 1) c.args.members.now) (drop_at c.args.members.now c.loop-member.member-index c.member-item.result c.loop-member-test.true c.member-item.is) c.loop-member.invariant.2.2,
  ),
)

pub returns-clause-from : goal.returns-clause-from
returns-clause-from c = λ done h.
    subst (λ (ss : List Source). AreFrom c.loop-member.functions (done ++ ss))
    (all_done (member_sources c.args.names.now.first) c.loop-member.invariant.2.0 (flat_map (member_sources c.args.names.now.first) c.args.members.now) (drop c.loop-member.member-index c.args.members.now) (drop_all c.args.members.now c.loop-member.member-index (omega (arith, c.loop-member-test.false))) c.loop-member.invariant.2.2)
    (c.loop-member.invariant.2.1 done h)
