use Rattle.std.proofs.Common.{map}
use Rattle.csub_runner.specs.Core.{core_of}
use Rattle.csub_runner.proofs.Endings.{nothing_yet, finished_runs, flush_failed, broken_runs}
use Rattle.csub_runner.proofs.run.run_c.Goals as goal

pub returns-in-Err-clause-runs : goal.returns-in-Err-clause-runs
returns-in-Err-clause-runs g c = nothing_yet c.args.file.now c.args.args.now c.args.steps (g.K.Sink.taken c.args.out.now) (map (λ b. (goal.HeapWatch-dyn g (b.vtable, b.value)).seen b.value) c.args.watch.now.items)

pub returns-in-Err-start-clause-runs : goal.returns-in-Err-start-clause-runs
returns-in-Err-start-clause-runs g c = nothing_yet c.args.file.now c.args.args.now c.args.steps (g.K.Sink.taken c.args.out.now) (map (λ b. (goal.HeapWatch-dyn g (b.vtable, b.value)).seen b.value) c.args.watch.now.items)

pub returns-in-Ok-flush-clause-runs : goal.returns-in-Ok-flush-clause-runs
returns-in-Ok-flush-clause-runs g c = finished_runs c.args.file.now c.args.args.now c.args.steps (core_of c.in-Ok-start.machine) c.in-Ok-ran.stop (core_of c.run_on-ran.new.machine) (g.K.Sink.taken c.args.out.now) (g.K.Sink.taken c.run_on-ran.new.out) (g.K.Sink.taken c.flush.new.out)
    c.run_on-ran.new.log.held.items c.run_on-ran.new.log.made c.run_on-ran.new.log.gone (map (λ b. (goal.HeapWatch-dyn g (b.vtable, b.value)).seen b.value) c.args.watch.now.items) (map (λ b. (goal.HeapWatch-dyn g (b.vtable, b.value)).seen b.value) c.run_on-ran.new.watch.items) c.conclude.result
    c.in-Ok-start.ensures.core c.in-Ok-ran.ensures.finished c.in-Ok-flush.ensures.taken c.conclude.ensures

pub returns-in-Ok-ran-clause-runs : goal.returns-in-Ok-ran-clause-runs
returns-in-Ok-ran-clause-runs g c = flush_failed c.args.file.now c.args.args.now c.args.steps (core_of c.in-Ok-start.machine) c.in-Ok-ran.stop (core_of c.run_on-ran.new.machine) (g.K.Sink.taken c.args.out.now) (g.K.Sink.taken c.run_on-ran.new.out) (g.K.Sink.taken c.flush.new.out)
    c.run_on-ran.new.log.held.items c.run_on-ran.new.log.made c.run_on-ran.new.log.gone (map (λ b. (goal.HeapWatch-dyn g (b.vtable, b.value)).seen b.value) c.args.watch.now.items) (map (λ b. (goal.HeapWatch-dyn g (b.vtable, b.value)).seen b.value) c.run_on-ran.new.watch.items) c.in-Err-flush.fault
    c.in-Ok-start.ensures.core c.in-Ok-ran.ensures.finished c.in-Err-flush.ensures.some c.in-Err-flush.ensures.causes

pub returns-clause-runs : goal.returns-clause-runs
returns-clause-runs g c = broken_runs c.args.file.now c.args.args.now c.args.steps (core_of c.in-Ok-start.machine) c.in-Err-ran.fault (g.K.Sink.taken c.args.out.now) (g.K.Sink.taken c.run_on-ran.new.out) (map (λ b. (goal.HeapWatch-dyn g (b.vtable, b.value)).seen b.value) c.args.watch.now.items) (map (λ b. (goal.HeapWatch-dyn g (b.vtable, b.value)).seen b.value) c.run_on-ran.new.watch.items)
    c.in-Ok-start.ensures.core c.in-Err-ran.ensures.broken c.in-Err-ran.ensures.causes
