-- The fault that is told is the one that was found.
use Rattle.std.proofs.Common.{◌≡◌, ℕ, Option, Some, None, refl}
use Rattle.rtyper_core.specs.Fault.{told, shown_as}
use Rattle.rtyper_core.specs.Typing.{Tells}
use Rattle.rtyper_core.specs.declared.fault.Fault.{Fault}
use Rattle.rtyper_core.specs.declared.fault.FaultKind.{FaultKind}
use Rattle.rtyper_core.specs.declared.fault.FaultKind.TheVariants as kind

tells_kind : (node : ℕ) (k : FaultKind) → Tells (Some (record { node = node; kind = k })) (told (Some (record { node = node; kind = k })))
tells_kind node kind.ConstantModified = refl
tells_kind node kind.MaybeUnbound = refl
tells_kind node kind.Family = refl
tells_kind node kind.EntryResult = refl

pub tells_told : (fault : Option Fault) → Tells fault (told fault)
tells_told None = refl
tells_told (Some f) = tells_kind f.node f.kind
