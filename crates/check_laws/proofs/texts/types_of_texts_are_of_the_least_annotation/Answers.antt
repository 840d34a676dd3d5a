use Rattle.check_laws.proofs.texts.types_of_texts_are_of_the_least_annotation.Goals as goal

pub returns : goal.returns
returns c = λ sources names modules p gs n types are is.
    c.types_are_of_the_least_annotation_of_the_trees.ensures p gs n types (c.programs_of_texts_have_trees.ensures sources names modules p gs are is types.small)
