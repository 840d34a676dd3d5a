use Rattle.csub_text.proofs.Files.{texts_of_one_file}
use Rattle.csub_text.proofs.spelling_is_of_one_file.Goals as goal

pub returns : goal.returns
returns c = texts_of_one_file
