use Rattle.check_laws.proofs.texts.types_leave_texts_without_fault.Goals as goal

pub returns : goal.returns
returns c = λ sources names modules p gs n types are is.
    c.types_leave_trees_without_fault.ensures p gs n types (c.programs_of_texts_have_trees.ensures sources names modules p gs are is types.small)
