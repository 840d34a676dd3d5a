use Rattle.check_laws.proofs.texts.faults_of_texts_are_of_the_least_annotation.Goals as goal

pub returns : goal.returns
returns c = λ sources names modules p e fault are is.
    c.faults_are_of_the_least_annotation_of_the_trees.ensures p e fault (c.programs_of_texts_have_trees.ensures sources names modules p fault.graphs are is fault.small)
