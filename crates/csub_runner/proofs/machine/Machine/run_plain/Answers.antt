use Rattle.std.proofs.Common.{ap, ◌∙◌}
use Rattle.std.specs.Prelude.{slice_get}
use Rattle.csub_runner.specs.Core.{core_of}
use Rattle.csub_runner.proofs.PlainSteps.{step_there, same_block}
use Rattle.csub_runner.proofs.Runs.{leads_more}
use Rattle.csub_runner.proofs.machine.Machine.run_plain.Goals as goal
use Rattle.csub_runner.proofs.machine.Machine.run_plain.Goals.{in-On, in-Jumped}

pub loop-done-preserved : goal.loop-done-preserved
loop-done-preserved c =
    let found = c.in-Some.ensures.is ∙ c.loop-done.invariant.stmts c.loop-done.self.at in
    elim c.match-plain.branch [
      | in-On w ↦ (let on = rw w.in-On.is at c.plain.ensures.step in record {
        ok = c.plain.ensures.ok;
        leads = leads_more c.args.file.now c.args.args.now (core_of c.args.self.now) (core_of c.loop-done.self) (core_of c.plain.new.self) c.loop-done.done c.loop-done.invariant.leads
            (step_there c.args.file.now c.args.args.now (core_of c.loop-done.self) (core_of c.plain.new.self) c.in-Some.stmt.now found on.0);
        stmts = λ at. ap (λ s. slice_get s.now at) w.stmts-is ∙ c.loop-done.invariant.stmts at
            ∙ same_block c.args.file.now.functions (core_of c.loop-done.self) (core_of c.plain.new.self) at on.1 on.2;
      })
      | in-Jumped w ↦ (let jumped = rw w.in-Jumped.is at c.plain.ensures.step in record {
        ok = c.plain.ensures.ok;
        leads = leads_more c.args.file.now c.args.args.now (core_of c.args.self.now) (core_of c.loop-done.self) (core_of c.plain.new.self) c.loop-done.done c.loop-done.invariant.leads
            (step_there c.args.file.now c.args.args.now (core_of c.loop-done.self) (core_of c.plain.new.self) c.in-Some.stmt.now found jumped);
        stmts = λ at. ap (λ s. slice_get s.now at) w.stmts-is ∙ w.statements_at-stmts-in-Jumped.ensures at;
      })
    ]
