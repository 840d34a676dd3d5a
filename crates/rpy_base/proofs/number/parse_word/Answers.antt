use Rattle.std.proofs.lemmas.Str.{IsUtf8-from_ascii}
use Rattle.rpy_base.proofs.Ascii.{ascii_of_word}
use Rattle.rpy_base.proofs.number.parse_word.Goals as goal

pub returns-in-Err : goal.returns-in-Err
returns-in-Err c = λ word. c.in-Err.ensures.cases.0 (rw (c.trim_back.ensures, c.trim_front.ensures) (IsUtf8-from_ascii _ (ascii_of_word _ word.0.1)))
