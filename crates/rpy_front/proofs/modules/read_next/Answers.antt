use Rattle.std.proofs.Common.{ap, sym, subst, ◌∙◌, length}
use Rattle.rpy_front.specs.Modules.{AreFirst}
use Rattle.rpy_front.proofs.Further.{further, longer}
use Rattle.rpy_front.proofs.modules.read_next.Goals as goal

pub returns-in_ok-push-in-Ok-clause-next : goal.returns-in_ok-push-in-Ok-clause-next
returns-in_ok-push-in-Ok-clause-next c =
    let e = c.in_ok-push-in-Ok.ensures.ok in
    (ap length e ∙ longer _ _, subst (λ ms. AreFirst c.args.sources.now c.args.names.now ms) (sym e) (further _ _ _ _ _ _ c.requires.first c.requires.source c.requires.name c.in-Ok.ensures))
