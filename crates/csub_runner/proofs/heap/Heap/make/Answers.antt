use Rattle.std.proofs.Common.{refl, ap, ◌∙◌, Some, [], ◌∷◌, ◌++◌}
use Rattle.csub_runner.specs.Heap.{blocks_of}
use Rattle.csub_runner.proofs.Stands.{make_sound, put_ptr, same_sound}
use Rattle.csub_runner.proofs.Blocks.{put_blocks, made_cells}
use Rattle.csub_runner.proofs.heap.Heap.make.Goals as goal

pub returns-in_err-key-clause-sound : goal.returns-in_err-key-clause-sound
returns-in_err-key-clause-sound c = same_sound c.args.self.now _ (λ k. rw c.in_err-key.ensures.err refl) refl c.requires.sound

pub returns-clause-sound : goal.returns-clause-sound
returns-clause-sound c = make_sound c.args.self.now _ c.in_ok-key.key _ c.in_ok-key.ensures.updates c.in_ok-key.ensures.was_vacant c.requires.sound refl refl
    c.args.fields c.args.elements c.in_ok-fields.ensures c.in_ok-elements.ensures

pub returns-clause-blocks : goal.returns-clause-blocks
returns-clause-blocks c =
    put_blocks c.args.self.now _ c.in_ok-key.key _ c.in_ok-key.ensures.updates c.in_ok-key.ensures.was_vacant c.requires.sound
    (make_sound c.args.self.now _ c.in_ok-key.key _ c.in_ok-key.ensures.updates c.in_ok-key.ensures.was_vacant c.requires.sound refl refl
    c.args.fields c.args.elements c.in_ok-fields.ensures c.in_ok-elements.ensures) refl refl
    ∙ ap (λ x. blocks_of c.args.self.now ++ Some x ∷ []) (made_cells (record { kind = c.args.kind; fields = c.in_ok-fields.fields; elements = c.in_ok-elements.elements }) c.args.fields c.args.elements c.in_ok-fields.ensures c.in_ok-elements.ensures)

pub returns-clause-ptr : goal.returns-clause-ptr
returns-clause-ptr c = put_ptr c.args.self.now _ c.in_ok-key.key _ c.in_ok-key.ensures.updates c.in_ok-key.ensures.was_vacant c.requires.sound refl refl
