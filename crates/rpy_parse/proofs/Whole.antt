-- The grammar passes the test, so that its reader is exact.
use Rattle.rpy_parse.specs.Rule.{Good}
use Rattle.rpy_parse.specs.Rows.{python}
use Rattle.rpy_parse.proofs.Fits.{each}
use Rattle.rpy_parse.proofs.Hand.{hand}

pub good : Good python
good = record { each = each; hand = hand }
