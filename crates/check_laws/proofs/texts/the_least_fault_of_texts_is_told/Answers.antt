use Rattle.check_laws.proofs.texts.the_least_fault_of_texts_is_told.Goals as goal

pub returns : goal.returns
returns c = λ sources names modules p file line k fault are is.
    c.the_least_fault_of_the_trees_is_told.ensures p file line k fault (c.programs_of_texts_have_trees.ensures sources names modules p fault.graphs are is fault.small)
