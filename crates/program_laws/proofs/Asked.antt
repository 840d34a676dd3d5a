-- What the laws of flow graphs ask, said of a program whose modules these are.
use Rattle.std.proofs.Common.{◌≡◌, ◌≤◌, ℕ, List, [], Option, Some, None, sym, ap, subst, arith}
use Rattle.std.specs.Prelude.{Result, Ok, Err}
use Rattle.rpy_tree.specs.declared.program.Program.{Program}
use Rattle.rpy_tree.specs.declared.syntax.Module.{Module}
use Rattle.rpy_nodes.specs.declared.listing.Named.{Named}
use Rattle.rpy_names.specs.Build.{build}
use Rattle.rpy_names.specs.Place.{modules_of}
use Rattle.rpy_names.specs.Resolve.{program_by, prog}
use Rattle.rpy_names.specs.declared.build.Parts.{Parts}
use Rattle.rpy_names.specs.declared.fault.NameFault.{NameFault}
use Rattle.resolver_laws.specs.Listing.{HasNoInnerClasses}

abbrev modules_in : Option Program → List Module
modules_in None = []
modules_in (Some p) = p.modules

modules_are : (ms : List Named) (parts : Result Parts NameFault) (p : Program) → program_by ms parts ≡ Some p → p.modules ≡ modules_of ms
modules_are ms (Ok parts) p h = sym (ap modules_in h)
modules_are ms (Err fault) p h = absurd cc

pub flat : (ms : List Named) (p : Program) → prog ms ≡ Some p → HasNoInnerClasses (modules_of ms) → HasNoInnerClasses p.modules
flat ms p is h = subst (λ (modules : List Module). HasNoInnerClasses modules) (sym (modules_are ms (build ms) p is)) h

pub enough : (m n : ℕ) → n ≡ m → m ≤ n
enough m n h = omega (arith, h)
