-- The classes that clauses cover, of a resolved program.
use Rattle.std.proofs.Common.{◌≡◌, List}
use Rattle.rpy_meaning.specs.Classes.{covers_within}
use Rattle.rpy_meaning.specs.declared.row.Covers.{Covers}
use Rattle.rpy_resolved.specs.declared.tree.Clause.{Clause}
use Rattle.rpy_resolved.specs.declared.tree.Resolved.{Resolved}
use Rattle.resolved_meaning.specs.Trees as bare
use Rattle.resolved_meaning.specs.Trees.{program_of}
use Rattle.flow_trees.specs.Tree.{plain_clauses}
use Rattle.flow_space.specs.Trees.{clauses_of}
use Rattle.flow_space.proofs.Plain.{clauses_same}

pub tried_covers : (r program : Resolved) (cs : List Clause) (around made : Covers) → r ≡ program
    → made ≡ covers_within (program_of program).classes (bare.clauses_of program.sites cs) around
    → made ≡ covers_within (program_of r).classes (plain_clauses (clauses_of r.sites cs)) around
tried_covers r program cs around made h e = rw (h, clauses_same) e
