-- What is read of a call of what a variable holds.
use Rattle.std.specs.Prelude.{◌≡◌, ℕ, List, Some, None, Result, Ok, Err}
use Rattle.csub_text.specs.Read.{Got}
use Rattle.csub_text.specs.ReadStatement.{Callee}
use Rattle.csub_reader.specs.declared.fault.Stop.{Stop}
use Rattle.csub_reader.specs.declared.fault.Stop.TheVariants.{NoText, NoMem}
use Rattle.csub_reader.specs.declared.statements.IndirectCall.{IndirectCall}

abbrev pub ReadsCallee : Got Callee → Result IndirectCall Stop → List ℕ → Type 0
ReadsCallee got (Ok f) new = got ≡ Some ((f.result, f.kinds, f.variable), new)
ReadsCallee got (Err NoText) new = got ≡ None
ReadsCallee got (Err NoMem) new = Unit {0}
