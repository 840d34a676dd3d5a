use Rattle.ann_grown.proofs.Meeting.{fits_grown}
use Rattle.ann_grown.proofs.laws.what_grows_without_conflict_fits.Goals as goal

pub returns : goal.returns
returns c = fits_grown
