use Rattle.std.proofs.Common.{◌≡◌, [], drop}
use Rattle.resolver_names.specs.Tables.{words_onto}
use Rattle.resolver_names.proofs.index.add_words.Given as goal

abbrev pub invariant-loop-byte : goal.invariant-loop-byte
invariant-loop-byte l = words_onto (drop l.byte-index l.words) l.word l.methods ≡ words_onto l.words [] l.initial.methods
