use Rattle.std.specs.Prelude.{slice_get}
use Rattle.rpy_resolver.proofs.Forms.{on_map, none_at, some_at}
use Rattle.rpy_resolver.proofs.Listed.{no_class, class_made}
use Rattle.rpy_resolver.proofs.parts.add_class.Goals as goal

pub returns-in-None : goal.returns-in-None
returns-in-None c = no_class c.args.program.now (slice_get c.args.labels.now c.args.number) c.args.info.now c.args.classes.now (none_at c.args.labels.now c.args.number c.in-None.ensures.lookup.3)

pub returns-in_ok-class-in-Some : goal.returns-in_ok-class-in-Some
returns-in_ok-class-in-Some c =
    on_map c.push.result
    (λ is. class_made c.args.program.now (slice_get c.args.labels.now c.args.number) c.in-Some.name.now c.args.info.now c.in_ok-class-in-Some.class c.args.classes.now c.push.new.self
    (some_at c.args.labels.now c.args.number c.in-Some.name.now c.in-Some.ensures.lookup.3.0 c.in-Some.ensures.lookup.1) c.in_ok-class-in-Some.ensures.name c.in_ok-class-in-Some.ensures.base c.in_ok-class-in-Some.ensures.constants c.in_ok-class-in-Some.ensures.methods is)
    c.push.ensures.ok
