-- The number of the name of the entry point.
use Rattle.std.proofs.Common.{◌≡◌, ℕ, codes, List, ◌++◌, refl}
use Rattle.std.specs.Prelude.{nat_eq}
use Rattle.std.specs.Str.{bytes_eq}
use Rattle.rpy_nodes.specs.Names.{number}
use Rattle.rpy_nodes.specs.declared.listing.Named.{Named}
use Rattle.names_rules.specs.Events.{Names}
use Rattle.names_rules.specs.Listed.{names_of}
use Rattle.names_rules.specs.Words.{words}
use Rattle.names_rules.proofs.Imports.{word}
use Rattle.names_rules.proofs.Words.{texts, others, all_begin}

by_table : (ms : List Named) (begins : (rest : Names) × (names_of ms ≡ texts words ++ (others ++ rest))) (name : List ℕ) → nat_eq (number (names_of ms) name) 44 ≡ bytes_eq (codes "entry_point") name
unfolding others
by_table ms (rest, e) name = word (names_of ms) (others ++ rest) e (codes "entry_point") 44 name refl refl

pub entry_word : (ms : List Named) (name : List ℕ) → nat_eq (number (names_of ms) name) 44 ≡ bytes_eq (codes "entry_point") name
entry_word ms name = by_table ms (all_begin ms) name
