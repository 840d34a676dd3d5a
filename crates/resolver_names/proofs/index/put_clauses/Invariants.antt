use Rattle.std.proofs.Common.{◌≡◌, drop}
use Rattle.resolver_names.specs.Tables.{put_clauses}
use Rattle.resolver_names.proofs.index.put_clauses.Given as goal

abbrev pub invariant-loop-clause : goal.invariant-loop-clause
invariant-loop-clause l = put_clauses l.place (drop l.clause-index l.clauses) l.table ≡ put_clauses 0 l.clauses l.initial.table
