use Rattle.sound_rows.proofs.Whole.{each_is_sound}
use Rattle.sound_rows.proofs.laws.rows_are_sound.Goals as goal

pub returns : goal.returns
returns c = each_is_sound
