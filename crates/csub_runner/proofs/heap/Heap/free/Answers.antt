use Rattle.std.proofs.Common.{refl}
use Rattle.csub_runner.proofs.Stands.{gone_sound}
use Rattle.csub_runner.proofs.Blocks.{gone_is, live_is, free_blocks}
use Rattle.csub_runner.proofs.heap.Heap.free.Goals as goal

pub returns-then-not-is_live-clause-blocks : goal.returns-then-not-is_live-clause-blocks
returns-then-not-is_live-clause-blocks c = (gone_is c.args.self.now c.args.ptr c.requires.sound c.requires.ptr (λ e there has. c.if-not-is_live.ensures e (record { there = there; has = has })), refl)

pub returns-clause-sound : goal.returns-clause-sound
returns-clause-sound c = gone_sound c.args.self.now _ c.args.ptr.key c.try_remove.ensures.updates refl c.requires.sound

pub returns-clause-blocks : goal.returns-clause-blocks
returns-clause-blocks c =
    let s = c.if-not-is_live.ensures in (
      live_is c.args.self.now c.args.ptr c.requires.sound c.requires.ptr s.0 s.1.there s.1.has,
      free_blocks c.args.self.now _ c.args.ptr s.0 c.try_remove.ensures.updates c.requires.sound
          (gone_sound c.args.self.now _ c.args.ptr.key c.try_remove.ensures.updates refl c.requires.sound) c.requires.ptr s.1.there s.1.has refl,
    )
