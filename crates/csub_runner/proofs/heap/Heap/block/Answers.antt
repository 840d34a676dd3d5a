use Rattle.std.proofs.Common.{arith, sym, ap, ◌∙◌, ◌≡◌}
use Rattle.std.proofs.lemmas.Bool.Decides.{nat_tests}
use Rattle.csub_runner.proofs.Blocks.{block_is, gone_is}
use Rattle.csub_runner.proofs.Stands.{same_some}
use Rattle.csub_runner.proofs.heap.Heap.block.Goals as goal

pub returns-then-entry-ptr-clause-is : goal.returns-then-entry-ptr-clause-is
returns-then-entry-ptr-clause-is c =
    let t = c.if-entry-ptr.true in
    block_is c.args.self.now c.args.ptr c.requires.sound c.requires.ptr c.in-Some.entry.now (sym c.in-Some.ensures) (grind (arith, nat_tests))

pub returns-then-entry-ptr-clause-ok : goal.returns-then-entry-ptr-clause-ok
returns-then-entry-ptr-clause-ok c =
    let t = c.if-entry-ptr.true in
    c.requires.sound.cells c.args.ptr.key c.args.ptr.number c.in-Some.entry.now (record { there = sym c.in-Some.ensures; has = grind (arith, nat_tests) })

pub returns-else-entry-ptr-clause-is : goal.returns-else-entry-ptr-clause-is
returns-else-entry-ptr-clause-is c =
    let t = c.if-entry-ptr.false in
    sym (gone_is c.args.self.now c.args.ptr c.requires.sound c.requires.ptr (λ e there has.
    let same : c.in-Some.entry.now ≡ e = same_some (c.in-Some.ensures ∙ there) in
    let number = ap (λ x. x.number) same ∙ has in absurd (grind (arith, nat_tests))))

pub returns-in-None-clause-is : goal.returns-in-None-clause-is
returns-in-None-clause-is c =
    sym (gone_is c.args.self.now c.args.ptr c.requires.sound c.requires.ptr (λ e there has. let n = c.in-None.ensures in absurd (cc)))
