use Rattle.std.proofs.Common.{arith, refl, ap, ◌∙◌, ◌+◌, map}
use Rattle.csub_runner.specs.Core.{core_of}
use Rattle.csub_runner.proofs.Runs.{next_at, led, stopped, spent, broken, at_start}
use Rattle.csub_runner.proofs.run.run_on.Goals as goal

pub loop-done-init : goal.loop-done-init
loop-done-init g c = record {
  within = omega arith;
  at = at_start c.args.file.now c.args.args.now (core_of c.args.machine.now) (g.K.Sink.taken c.args.out.now) c.args.log.now.held.items (map (λ b. (goal.HeapWatch-dyn g (b.vtable, b.value)).seen b.value) c.args.watch.now.items) c.args.log.now.made c.args.log.now.gone
      c.requires.held c.requires.made c.requires.gone c.requires.synced;
  ok = c.requires.ok;
  calm = refl;
}

pub returns-in-Ok-Some-clause-finished : goal.returns-in-Ok-Some-clause-finished
returns-in-Ok-Some-clause-finished g c =
    let s = (rw c.in-Ok-Some.field-0-is at c.in-Ok-Some.ensures.still) in
    stopped c.args.file.now c.args.args.now (core_of c.args.machine.now) (core_of c.run_plain-done.new.self) (g.K.Sink.taken c.args.out.now) (g.K.Sink.taken c.loop-done.out) c.loop-done.log.held.items (map (λ b. (goal.HeapWatch-dyn g (b.vtable, b.value)).seen b.value) c.args.watch.now.items) (map (λ b. (goal.HeapWatch-dyn g (b.vtable, b.value)).seen b.value) c.loop-done.watch.items) c.loop-done.log.made c.loop-done.log.gone (c.loop-done.done + c.run_plain-done.result) c.loop-done.invariant.at.0 c.loop-done.invariant.at.1 (led _ _ _ _ _ _ _ _ _ _ _ _ _ _ _ _ c.run_plain-done.ensures.leads c.loop-done.invariant.at.2)
    (core_of c.advance.new.machine) c.in-Ok-Some.stop c.args.most (g.K.Sink.taken c.advance.new.out) c.advance.new.log.held.items (map (λ b. (goal.HeapWatch-dyn g (b.vtable, b.value)).seen b.value) c.advance.new.watch.items) c.advance.new.log.made c.advance.new.log.gone
    (let lt = c.if-done-most.false in omega (arith, lt)) (rw c.in-Ok-Some.field-0-is at c.in-Ok-Some.ensures.stops) s.1 (ap (λ x. x.held.items) s.0) (ap (λ x. x.made) s.0) (ap (λ x. x.gone) s.0) s.2

pub returns-in-Err-clause-broken : goal.returns-in-Err-clause-broken
returns-in-Err-clause-broken g c = broken c.args.file.now c.args.args.now (core_of c.args.machine.now) (core_of c.run_plain-done.new.self) (g.K.Sink.taken c.args.out.now) (g.K.Sink.taken c.loop-done.out) c.loop-done.log.held.items (map (λ b. (goal.HeapWatch-dyn g (b.vtable, b.value)).seen b.value) c.args.watch.now.items) (map (λ b. (goal.HeapWatch-dyn g (b.vtable, b.value)).seen b.value) c.loop-done.watch.items) c.loop-done.log.made c.loop-done.log.gone (c.loop-done.done + c.run_plain-done.result) c.loop-done.invariant.at.0 c.loop-done.invariant.at.1 (led _ _ _ _ _ _ _ _ _ _ _ _ _ _ _ _ c.run_plain-done.ensures.leads c.loop-done.invariant.at.2)
    c.in-Err.fault c.args.most (g.K.Sink.taken c.advance.new.out) (map (λ b. (goal.HeapWatch-dyn g (b.vtable, b.value)).seen b.value) c.advance.new.watch.items) (let lt = c.if-done-most.false in omega (arith, lt)) c.in-Err.ensures.some c.in-Err.ensures.watchers

pub loop-done-preserved : goal.loop-done-preserved
loop-done-preserved g c = let lt = c.if-done-most.false in let few = c.requires.most in record {
  within = omega (arith, lt);
  at = (
    _,
    _,
    next_at c.args.file.now c.args.args.now (core_of c.args.machine.now) (core_of c.run_plain-done.new.self) (g.K.Sink.taken c.args.out.now) (g.K.Sink.taken c.loop-done.out) c.loop-done.log.held.items (map (λ b. (goal.HeapWatch-dyn g (b.vtable, b.value)).seen b.value) c.args.watch.now.items) (map (λ b. (goal.HeapWatch-dyn g (b.vtable, b.value)).seen b.value) c.loop-done.watch.items) c.loop-done.log.made c.loop-done.log.gone (c.loop-done.done + c.run_plain-done.result) c.loop-done.invariant.at.0 c.loop-done.invariant.at.1 (led _ _ _ _ _ _ _ _ _ _ _ _ _ _ _ _ c.run_plain-done.ensures.leads c.loop-done.invariant.at.2)
        (core_of c.advance.new.machine) (g.K.Sink.taken c.advance.new.out) c.advance.new.log.held.items (map (λ b. (goal.HeapWatch-dyn g (b.vtable, b.value)).seen b.value) c.advance.new.watch.items) c.advance.new.log.made c.advance.new.log.gone
        (omega (arith, lt, few)) (rw c.in-Ok-None.field-0-is at c.in-Ok-None.ensures.goes),
  );
  ok = c.in-Ok-None.ensures.ok;
  calm = c.in-Ok-None.ensures.calm ∙ c.loop-done.invariant.calm;
}

pub returns-then-done-most-clause-finished : goal.returns-then-done-most-clause-finished
returns-then-done-most-clause-finished g c = let no_more = c.if-done-most.true in let few = c.run_plain-done.ensures.few in let within = c.loop-done.invariant.within in spent c.args.file.now c.args.args.now (core_of c.args.machine.now) (core_of c.run_plain-done.new.self) (g.K.Sink.taken c.args.out.now) (g.K.Sink.taken c.loop-done.out) c.loop-done.log.held.items (map (λ b. (goal.HeapWatch-dyn g (b.vtable, b.value)).seen b.value) c.args.watch.now.items) (map (λ b. (goal.HeapWatch-dyn g (b.vtable, b.value)).seen b.value) c.loop-done.watch.items) c.loop-done.log.made c.loop-done.log.gone (c.loop-done.done + c.run_plain-done.result) c.loop-done.invariant.at.0 c.loop-done.invariant.at.1 (led _ _ _ _ _ _ _ _ _ _ _ _ _ _ _ _ c.run_plain-done.ensures.leads c.loop-done.invariant.at.2) c.args.most (omega (arith, no_more, few, within))

pub returns-clause-finished : goal.returns-clause-finished
returns-clause-finished g c = let no_more = c.loop-done-test.false in let within = c.loop-done.invariant.within in spent c.args.file.now c.args.args.now (core_of c.args.machine.now) (core_of c.loop-done.machine) (g.K.Sink.taken c.args.out.now) (g.K.Sink.taken c.loop-done.out) c.loop-done.log.held.items (map (λ b. (goal.HeapWatch-dyn g (b.vtable, b.value)).seen b.value) c.args.watch.now.items) (map (λ b. (goal.HeapWatch-dyn g (b.vtable, b.value)).seen b.value) c.loop-done.watch.items) c.loop-done.log.made c.loop-done.log.gone c.loop-done.done c.loop-done.invariant.at.0 c.loop-done.invariant.at.1 c.loop-done.invariant.at.2 c.args.most (omega (arith, no_more, within))
