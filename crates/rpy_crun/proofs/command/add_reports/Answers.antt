use Rattle.std.proofs.Common.{rules, arith}
use Rattle.rpy_words.specs.Command.{words_of}
use Rattle.rpy_crun.proofs.Reports.{watch_next, watch_cut, watch_last}
use Rattle.rpy_crun.proofs.command.add_reports.Goals as goal

pub returns-in-Err : goal.returns-in-Err
returns-in-Err g c =
    watch_cut (λ b. (goal.HeapWatch-dyn g (b.vtable, b.value)).seen b.value) (words_of c.args.asked.now) c.args.watch.now.items c.loop-i.i c.args.text.now c.loop-i.text
    c.loop-i.invariant c.add_report.new.text c.in-Err.ensures.err

pub loop-i-preserved : goal.loop-i-preserved
loop-i-preserved g c =
    watch_next (λ b. (goal.HeapWatch-dyn g (b.vtable, b.value)).seen b.value) (words_of c.args.asked.now) c.args.watch.now.items c.loop-i.i c.args.text.now c.loop-i.text
    c.loop-i.invariant c.index.result.now c.add_report.new.text (search rules) c.index.ensures c.in-Ok.ensures.ok

pub returns : goal.returns
returns g c =
    watch_last (λ b. (goal.HeapWatch-dyn g (b.vtable, b.value)).seen b.value) (words_of c.args.asked.now) c.args.watch.now.items c.loop-i.i c.args.text.now c.loop-i.text
    c.loop-i.invariant (search rules)
