use Rattle.std.proofs.Common.{ap, ◌∙◌, ◌+◌, refl, ◌++◌, ◌∷◌, [], Some, replicate}
use Rattle.csub_tree.specs.State.{Unset}
use Rattle.csub_runner.specs.Heap.{blocks_of}
use Rattle.csub_runner.specs.Core.{core_of}
use Rattle.csub_tree.specs.Layout.{shape_at}
use Rattle.csub_runner.specs.declared.val.Val.TheVariants.{Ptr}
use Rattle.csub_runner.proofs.Steps.{heap_ok, set_ok, made_is}
use Rattle.csub_runner.proofs.machine.Machine.new_block.Goals as goal

pub returns-clause-ok : goal.returns-clause-ok
returns-clause-ok c = set_ok c.make.new.self c.args.self.now.vars.items c.put.new.values.items c.args.self.now.callers.items c.args.self.now.statics.items c.args.self.now.exc_type c.args.self.now.exc_value
    c.args.a (Ptr c.in_ok-ptr.ptr) c.in_ok-ptr.ensures.ptr c.put.ensures
    (heap_ok c.args.self.now.heap c.make.new.self c.args.self.now.vars.items c.args.self.now.callers.items c.args.self.now.statics.items c.args.self.now.exc_type c.args.self.now.exc_value
    c.in_ok-ptr.ensures.pointers c.in_ok-ptr.ensures.sound c.requires.ok)

pub returns-clause-step : goal.returns-clause-step
returns-clause-step c = let f = c.size_of-fields.ensures in
    made_is c.args.self.now.heap c.make.new.self c.args.self.now.vars.items c.put.new.values.items (core_of c.args.self.now) c.args.a c.args.kind (shape_at c.args.shapes.now.items c.args.kind).size c.args.items
    c.in-Some.cells c.made-number.result c.in_ok-ptr.ptr refl refl c.made-number.ensures c.in_ok-ptr.ensures.number (c.in-Some.ensures.1 ∙ ap (λ n. n + c.args.items) f) c.put.ensures
    (c.in_ok-ptr.ensures.blocks ∙ ap (λ n. blocks_of c.args.self.now.heap ++ Some (record { kind = c.args.kind; fields = replicate n Unset; items = replicate c.args.items Unset }) ∷ []) f)
