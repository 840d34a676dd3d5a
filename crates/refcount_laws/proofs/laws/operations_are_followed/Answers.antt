use Rattle.refcount_laws.proofs.Dispatching.{operation_followed}
use Rattle.refcount_laws.proofs.laws.operations_are_followed.Goals as goal

pub returns : goal.returns
returns c = λ p ok leads args types own ops rest e ex frames b at core qcore g h apart o. operation_followed p ok leads args types own ops rest e ex frames b at core qcore g h apart o
