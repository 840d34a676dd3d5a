use Rattle.check_laws.proofs.texts.nodes_have_the_elements_of_texts.Goals as goal

pub returns : goal.returns
returns c = λ sources names modules p gs n types are is.
    c.nodes_have_the_elements_of_the_trees.ensures p gs n types (c.programs_of_texts_have_trees.ensures sources names modules p gs are is types.small)
