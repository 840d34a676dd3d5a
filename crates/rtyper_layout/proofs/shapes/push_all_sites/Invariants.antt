use Rattle.std.proofs.Common.{◌≡◌, drop}
use Rattle.rtyper_layout.specs.Sites.{sites_in_rows}
use Rattle.rtyper_layout.proofs.shapes.push_all_sites.Given as goal

abbrev pub invariant-loop-row : goal.invariant-loop-row
invariant-loop-row l = sites_in_rows l.of_dicts l.sites (drop l.row-index l.rows) ≡ sites_in_rows l.of_dicts l.initial.sites l.rows
