use Rattle.std.proofs.Common.{◌≡◌, ℕ, List, Some, length, refl, sym, subst, ◌∙◌, arith}
use Rattle.std.specs.Prelude.{slice_get, Ok}
use Rattle.rpy_edge.specs.Edge.{Filed, filed}
use Rattle.rpy_top.specs.Answer.{AreFirst, LoadsNext}
use Rattle.rpy_top.proofs.Loading.{at_place, further, most, not_below, moved, same_filed}
use Rattle.rpy_top.proofs.building.load_all.Goals as goal

pub loop-name-preserved : goal.loop-name-preserved
loop-name-preserved g c =
    let now : Filed = filed g.F.Files.held g.F.Files.faults c.args.files.now c.load_next.new.files in
    let e = same_filed g.F.Files.held g.F.Files.faults c.loop-name.files c.args.files.now c.load_next.new.files c.loop-name.invariant.1 c.loop-name.invariant.2 in
    let n = subst (λ x. LoadsNext (Ok tt) c.in-Some.name.now x c.loop-name.sources c.load_next.new.sources) e c.in-Ok.ensures.loads in
    let s : slice_get c.args.names.now (length c.loop-name.sources) ≡ Some c.in-Some.name.now = subst (λ i. slice_get c.args.names.now i ≡ Some c.in-Some.name.now) c.len.ensures (at_place _ _ _ c.in-Some.ensures.lookup.0 (sym c.in-Some.ensures.lookup.1)) in
    (subst (λ x. AreFirst now c.args.names.now x) (sym n.0.2) (further now _ _ _ _ (moved (filed g.F.Files.held g.F.Files.faults c.args.files.now c.loop-name.files) now _ _ refl c.loop-name.invariant.0) s n.0.1), c.load_next.ensures.held ∙ c.loop-name.invariant.1, n.1)

pub returns-clause-loads : goal.returns-clause-loads
returns-clause-loads g c =
    ((c.loop-name.invariant.0, omega (arith, most (filed g.F.Files.held g.F.Files.faults c.args.files.now c.loop-name.files) _ _ c.loop-name.invariant.0, not_below _ _ c.in_default.ensures.lookup.0, c.len.ensures)), c.loop-name.invariant.2)
