use Rattle.check_laws.proofs.texts.conflicts_leave_texts_without_annotation.Goals as goal

pub returns : goal.returns
returns c = λ sources names modules p e conflict are is.
    c.conflicts_leave_trees_without_annotation.ensures p e conflict (c.programs_of_texts_have_trees.ensures sources names modules p conflict.graphs are is conflict.small)
