use Rattle.std.proofs.Common.{refl, sym, ap, ◌∙◌}
use Rattle.csub_runner.specs.Erased.{erase}
use Rattle.csub_runner.specs.Heap.{with_field}
use Rattle.csub_runner.proofs.Stands.{written_sound, written_kept, same_some, field_ok}
use Rattle.csub_runner.proofs.Blocks.{gone_is, gone_same, writes_is, field_is}
use Rattle.csub_runner.proofs.heap.Heap.set_field.Goals as goal

pub returns-then-not-is_live-clause-blocks : goal.returns-then-not-is_live-clause-blocks
returns-then-not-is_live-clause-blocks c = gone_same (with_field c.args.at (erase c.args.value)) _ c.args.ptr.number
    (gone_is c.args.self.now c.args.ptr c.requires.sound c.requires.ptr (λ e there has. c.if-not-is_live.ensures e (record { there = there; has = has })))

pub returns-in-Some-clause-sound : goal.returns-in-Some-clause-sound
returns-in-Some-clause-sound c =
    let s = c.if-not-is_live.ensures in
    let is = ap (λ x. x.number) (same_some (c.in-Some.ensures.value ∙ s.1.there)) ∙ s.1.has in
    written_sound c.args.self.now c.args.ptr.key c.in-Some.entry.now _ (sym c.in-Some.ensures.value) refl
    (field_ok c.args.self.now c.in-Some.entry.now.cells _ c.args.at c.args.value refl refl c.put.ensures c.requires.value
    (c.requires.sound.cells c.args.ptr.key c.args.ptr.number c.in-Some.entry.now (record { there = sym c.in-Some.ensures.value; has = is }))) c.requires.sound

pub returns-in-Some-clause-pointers : goal.returns-in-Some-clause-pointers
returns-in-Some-clause-pointers c = written_kept c.args.self.now c.args.ptr.key c.in-Some.entry.now _ (sym c.in-Some.ensures.value) refl

pub returns-in-Some-clause-blocks : goal.returns-in-Some-clause-blocks
returns-in-Some-clause-blocks c =
    let s = c.if-not-is_live.ensures in
    let is = ap (λ x. x.number) (same_some (c.in-Some.ensures.value ∙ s.1.there)) ∙ s.1.has in
    writes_is c.args.self.now c.args.ptr c.requires.sound c.requires.ptr c.in-Some.entry.now _ (sym c.in-Some.ensures.value) is refl
    (field_ok c.args.self.now c.in-Some.entry.now.cells _ c.args.at c.args.value refl refl c.put.ensures c.requires.value
    (c.requires.sound.cells c.args.ptr.key c.args.ptr.number c.in-Some.entry.now (record { there = sym c.in-Some.ensures.value; has = is })))
    (with_field c.args.at (erase c.args.value)) (field_is c.in-Some.entry.now.cells (record { kind = c.in-Some.entry.now.cells.kind; fields = c.put.new.values; elements = c.in-Some.entry.now.cells.elements }) c.args.at c.args.value refl refl c.put.ensures)
