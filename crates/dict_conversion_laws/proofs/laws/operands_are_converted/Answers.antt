use Rattle.object_laws.specs.Done.{Any}
use Rattle.dict_find_laws.specs.Lookups.{FirstIsThere, SecondIsThere}
use Rattle.dict_change_laws.specs.Changed.{CanStore, KeysAreThere}
use Rattle.dict_conversion_laws.proofs.Operands.{operand_converted}
use Rattle.dict_conversion_laws.proofs.laws.operands_are_converted.Goals as goal

pub returns-clause-any : goal.returns-clause-any
returns-clause-any c = operand_converted Any

pub returns-clause-first : goal.returns-clause-first
returns-clause-first c = λ m. operand_converted (FirstIsThere m)

pub returns-clause-second : goal.returns-clause-second
returns-clause-second c = λ m. operand_converted (SecondIsThere m)

pub returns-clause-keys : goal.returns-clause-keys
returns-clause-keys c = λ m. operand_converted (KeysAreThere m)

pub returns-clause-stores : goal.returns-clause-stores
returns-clause-stores c = λ m. operand_converted (CanStore m)
