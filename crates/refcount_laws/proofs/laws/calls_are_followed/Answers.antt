use Rattle.refcount_laws.proofs.Invoked.{call_one, call_fn_one}
use Rattle.refcount_laws.proofs.laws.calls_are_followed.Goals as goal

pub returns-clause-graph : goal.returns-clause-graph
returns-clause-graph c = λ p ok leads args types own ops rest e ex frames waits b at core qcore g h into f xs. call_one p ok leads args types own ops rest e ex frames waits b at core qcore g h into f xs

pub returns-clause-value : goal.returns-clause-value
returns-clause-value c = λ p ok leads args types own ops rest e ex frames waits b at core qcore g h into result params v f xs. call_fn_one p ok leads args types own ops rest e ex frames waits b at core qcore g h into result params v f xs
