use Rattle.std.proofs.Common.{◌≡◌, ◌+◌, ◌%◌, ◌^◌, ◌++◌, ◌<◌, ◌≤◌, List, [], length, map, drop, get_or, refl, sym, ap, subst, ◌∙◌, arith, append_assoc}
use Rattle.std.specs.List.{flat_map}
use Rattle.std.proofs.lemmas.List.{append-nil}
use Rattle.rpy_tree.specs.declared.syntax.Member.{Member}
use Rattle.rpy_resolved.specs.declared.tree.Function.{Function}
use Rattle.rpy_meaning.specs.Resolved.{names_at}
use Rattle.resolved_laws.specs.Meant.{further_of}
use Rattle.resolver_laws.specs.Listing.{tree_in, numbered, member_pairs, module_pairs}
use Rattle.resolver_laws.specs.Made.{Source, member_sources, sources, AreFrom}
use Rattle.resolver_laws.proofs.Listed.{added_on}
use Rattle.rpy_resolver.proofs.Forms.{drop_at, drop_all}
use Rattle.rpy_resolver.proofs.Listed.{knows, modules_counted}
use Rattle.rpy_resolver.proofs.whole.functions_of.Goals as goal

pub add_members-requires : goal.add_members-requires
add_members-requires c = knows (record { program = c.args.program; index = c.args.index; first = c.loop-module.first; before = c.loop-module.before }) c.requires c.loop-module.invariant.1

pub loop-module-preserved : goal.loop-module-preserved
loop-module-preserved c =
    let lt = subst (λ ms. c.loop-module.module-index < length ms) c.as_slice-module-items.ensures c.loop-module-test.true in
    let at = subst (λ ms. c.module-item.result ≡ get_or ms c.loop-module.module-index c.module-item.result) c.as_slice-module-items.ensures c.module-item.is in (
      modules_counted c.args.program.now.modules c.loop-module.module-index c.module-item.result (length c.loop-module.functions) (length c.add_members.new.functions) c.as_slice.result.now lt at c.as_slice.ensures c.loop-module.invariant.0 c.in_ok-add_members.ensures.count,
      c.in_ok-before.ensures.1,
      ap (λ b. map (tree_in c.args.program.now) c.add_members.new.functions ++ numbered c.args.program.now.functions (length c.add_members.new.functions) (module_pairs c.args.program.now b (drop (c.loop-module.module-index + 1) c.args.program.now.modules))) c.in_ok-before.ensures.0
          ∙ added_on c.args.program.now c.loop-module.functions c.add_members.new.functions (flat_map (member_pairs (names_at c.args.program.now (further_of c.args.program.now) c.loop-module.before)) c.module-item.result.members) (module_pairs c.args.program.now (c.loop-module.before + c.module-item.result.nodes) (drop (c.loop-module.module-index + 1) c.args.program.now.modules))
          (c.in_ok-add_members.ensures.added ∙ ap (λ us. map (tree_in c.args.program.now) c.loop-module.functions ++ numbered c.args.program.now.functions (length c.loop-module.functions) (flat_map (member_pairs (names_at c.args.program.now (further_of c.args.program.now) c.loop-module.before)) us)) c.as_slice.ensures)
          ∙ ap (λ us. map (tree_in c.args.program.now) c.loop-module.functions ++ numbered c.args.program.now.functions (length c.loop-module.functions) (module_pairs c.args.program.now c.loop-module.before us)) (sym (drop_at c.args.program.now.modules c.loop-module.module-index c.module-item.result lt at))
          ∙ c.loop-module.invariant.2,
      (
        c.loop-module.invariant.3.0 ++ flat_map (member_sources c.loop-module.first) c.module-item.result.members,
        subst (λ (ms : List Member). AreFrom c.add_members.new.functions (c.loop-module.invariant.3.0 ++ flat_map (member_sources c.loop-module.first) ms)) c.as_slice.ensures (c.in_ok-add_members.ensures.from c.loop-module.invariant.3.0 c.loop-module.invariant.3.1),
        append_assoc c.loop-module.invariant.3.0 (flat_map (member_sources c.loop-module.first) c.module-item.result.members) (sources ((c.loop-module.first + c.module-item.result.nodes) % 2 ^ 32) (drop (c.loop-module.module-index + 1) c.args.program.now.modules))
            ∙ ap (λ us. c.loop-module.invariant.3.0 ++ sources c.loop-module.first us) (sym (drop_at c.args.program.now.modules c.loop-module.module-index c.module-item.result lt at))
            ∙ c.loop-module.invariant.3.2,
      ),
    )

pub loop-module-init : goal.loop-module-init
loop-module-init c = (
  ap (λ (fs : List Function). length fs) c.new-functions.ensures,
  omega arith,
  ap (λ fs. map (tree_in c.args.program.now) fs ++ numbered c.args.program.now.functions (length fs) (module_pairs c.args.program.now 0 c.args.program.now.modules)) c.new-functions.ensures,
  ([], subst (λ (fs : List Function). AreFrom fs []) (sym c.new-functions.ensures) tt, refl),
)

pub returns-clause-from : goal.returns-clause-from
returns-clause-from c =
    let lt = subst (λ ms. length ms ≤ c.loop-module.module-index) c.as_slice-module-items.ensures (omega (arith, c.loop-module-test.false)) in
    subst (λ (ss : List Source). AreFrom c.loop-module.functions ss)
    (sym (append-nil c.loop-module.invariant.3.0) ∙ ap (λ us. c.loop-module.invariant.3.0 ++ sources c.loop-module.first us) (sym (drop_all c.args.program.now.modules c.loop-module.module-index lt)) ∙ c.loop-module.invariant.3.2)
    c.loop-module.invariant.3.1
