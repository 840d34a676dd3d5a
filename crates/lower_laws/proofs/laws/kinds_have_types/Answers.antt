use Rattle.lower_laws.proofs.Typing.{is_word, is_flag, is_byte, is_string, is_text, place_of_words, place_of_flags, place_of_bytes, place_of_strings}
use Rattle.lower_laws.proofs.laws.kinds_have_types.Goals as goal

pub returns-clause-words : goal.returns-clause-words
returns-clause-words c = is_word

pub returns-clause-flags : goal.returns-clause-flags
returns-clause-flags c = is_flag

pub returns-clause-bytes : goal.returns-clause-bytes
returns-clause-bytes c = is_byte

pub returns-clause-strings : goal.returns-clause-strings
returns-clause-strings c = is_string

pub returns-clause-texts : goal.returns-clause-texts
returns-clause-texts c = is_text

pub returns-clause-words_go : goal.returns-clause-words_go
returns-clause-words_go c = λ around place h. place_of_words around.layout place.element h

pub returns-clause-flags_go : goal.returns-clause-flags_go
returns-clause-flags_go c = λ around place h. place_of_flags around.layout place.element h

pub returns-clause-bytes_go : goal.returns-clause-bytes_go
returns-clause-bytes_go c = λ around place h. place_of_bytes around.layout place.element h

pub returns-clause-strings_go : goal.returns-clause-strings_go
returns-clause-strings_go c = λ around place h. place_of_strings around.layout place.element h
