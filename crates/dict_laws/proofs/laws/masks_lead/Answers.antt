use Rattle.dict_laws.proofs.Masked.{masks_lead}
use Rattle.dict_laws.proofs.laws.masks_lead.Goals as goal

pub returns : goal.returns
returns c = masks_lead
