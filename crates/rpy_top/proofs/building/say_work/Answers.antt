use Rattle.std.proofs.Common.{subst, codes, ◌++◌}
use Rattle.rpy_compiled.specs.Checks.{words_of}
use Rattle.rpy_first.specs.Source.{refusal, line_at}
use Rattle.rpy_front.specs.Names.{name_refusal}
use Rattle.rpy_edge.specs.Edge.{Says, sunk}
use Rattle.rpy_edge.specs.declared.status.Status.TheVariants.{NotSource, NotProgram, Conflicting, Untyped}
use Rattle.rpy_edge.proofs.Lines.{said_line}
use Rattle.rpy_top.proofs.building.say_work.Goals as goal

pub returns-in-Refused : goal.returns-in-Refused
returns-in-Refused g c =
    let s = said_line _ _ _ _ _ c.refusal-text.ensures c.say_line.ensures in
    rw c.in-Refused.is (subst (λ f. Says NotSource c.say_line.result (refusal f c.in-Refused.line c.in-Refused.kind) (sunk g.E.Sink.faults g.E.Sink.taken c.args.err.now c.say_line.new.err)) c.file_at-in-Refused.ensures s)

pub returns-in-Misnamed : goal.returns-in-Misnamed
returns-in-Misnamed g c =
    let s = said_line _ _ _ _ _ c.name_refusal-text.ensures c.say_line-in-Misnamed.ensures in
    rw c.in-Misnamed.is (subst (λ f. Says NotProgram c.say_line-in-Misnamed.result (name_refusal f c.in-Misnamed.line c.in-Misnamed.kind) (sunk g.E.Sink.faults g.E.Sink.taken c.args.err.now c.say_line-in-Misnamed.new.err)) c.file_at-in-Misnamed.ensures s)

pub returns-in-Conflicts : goal.returns-in-Conflicts
returns-in-Conflicts g c =
    let s = said_line _ _ _ _ _ c.conflict_line-text.ensures c.say_line-in-Conflicts.ensures in
    rw c.in-Conflicts.is (subst (λ f. Says Conflicting c.say_line-in-Conflicts.result (line_at f c.in-Conflicts.line (codes "conflict: " ++ c.in-Conflicts.words)) (sunk g.E.Sink.faults g.E.Sink.taken c.args.err.now c.say_line-in-Conflicts.new.err)) c.file_at-in-Conflicts.ensures s)

pub returns-in-Untypable : goal.returns-in-Untypable
returns-in-Untypable g c =
    let s = said_line _ _ _ _ _ c.type_line-text.ensures c.say_line-in-Untypable.ensures in
    rw c.in-Untypable.is (subst (λ f. Says Untyped c.say_line-in-Untypable.result (line_at f c.in-Untypable.line (words_of c.in-Untypable.kind)) (sunk g.E.Sink.faults g.E.Sink.taken c.args.err.now c.say_line-in-Untypable.new.err)) c.file_at-in-Untypable.ensures s)
