use Rattle.std.proofs.Common.{rules, refl, sym, ap, ◌∙◌, subst}
use Rattle.std.proofs.lemmas.List.Elements.{All-set}
use Rattle.csub_runner.specs.Erased.{erase, erase_cells}
use Rattle.csub_runner.specs.Heap.{CellsOk, with_field}
use Rattle.csub_runner.proofs.Stands.{field_ok}
use Rattle.csub_runner.proofs.Blocks.{field_is}
use Rattle.csub_runner.proofs.Written.{static_is, static_none}
use Rattle.csub_runner.proofs.statics.put_static_field.Goals as goal

pub returns-then-number-len-clause-is : goal.returns-then-number-len-clause-is
returns-then-number-len-clause-is c =
    static_is (with_field c.args.at (erase c.args.value)) c.args.statics.now.items c.args.number c.index_mut.result.now (record { kind = c.index_mut.result.now.kind; fields = c.put.new.values; elements = c.index_mut.result.now.elements }) (search rules)
    (field_is c.index_mut.result.now (record { kind = c.index_mut.result.now.kind; fields = c.put.new.values; elements = c.index_mut.result.now.elements }) c.args.at c.args.value refl refl c.put.ensures
    ∙ ap (λ x. with_field c.args.at (erase c.args.value) (erase_cells x)) c.index_mut.ensures.value)

pub returns-then-number-len-clause-ok : goal.returns-then-number-len-clause-ok
returns-then-number-len-clause-ok c = λ h v_ok all. All-set (CellsOk h) c.args.statics.now.items c.args.number (record { kind = c.index_mut.result.now.kind; fields = c.put.new.values; elements = c.index_mut.result.now.elements })
    (field_ok h c.index_mut.result.now (record { kind = c.index_mut.result.now.kind; fields = c.put.new.values; elements = c.index_mut.result.now.elements }) c.args.at c.args.value refl refl c.put.ensures v_ok
    (subst (CellsOk h) (sym c.index_mut.ensures.value) (all c.args.number c.index_mut.result.now (search rules)))) all

pub returns-else-number-len-clause-is : goal.returns-else-number-len-clause-is
returns-else-number-len-clause-is c = static_none (with_field c.args.at (erase c.args.value)) c.args.statics.now.items c.args.number (search rules)
