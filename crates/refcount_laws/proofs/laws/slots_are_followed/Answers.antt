use Rattle.refcount_laws.proofs.Emptied.{exc_clear_one, exc_set_one}
use Rattle.refcount_laws.proofs.laws.slots_are_followed.Goals as goal

pub returns-clause-clear : goal.returns-clause-clear
returns-clause-clear c = λ p ok leads args types own ops rest e ex frames b at core qcore g h. exc_clear_one p ok leads args types own ops rest e ex frames b at core qcore g h

pub returns-clause-set : goal.returns-clause-set
returns-clause-set c = λ p ok leads args types own ops rest e ex frames b at core qcore g h x y. exc_set_one p ok leads args types own ops rest e ex frames b at core qcore g h x y
