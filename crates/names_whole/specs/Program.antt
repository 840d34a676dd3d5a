-- The program that modules are, or the fault that is told.
use Rattle.std.specs.Prelude.{◌≡◌, List, Option, Some, None, Result, Ok, Err}
use Rattle.rpy_tree.specs.declared.program.Program.{Program}
use Rattle.rpy_nodes.specs.declared.listing.Named.{Named}
use Rattle.names_rules.specs.Entry.{entry}
use Rattle.names_rules.specs.Laws.{modules}
use Rattle.names_rules.specs.Least.{least}
use Rattle.names_rules.specs.Listed.{module_names}
use Rattle.names_rules.specs.Members.{members}
use Rattle.names_constants.specs.Faults.{faults}
use Rattle.rpy_names.specs.Resolve.{IsTold}
use Rattle.rpy_names.specs.declared.fault.NameFault.{NameFault}
use Rattle.rpy_names.specs.declared.fault.NameRefusal.{NameRefusal}
use Rattle.names_whole.specs.Classes.{classes}
use Rattle.names_whole.specs.Clauses.{clauses}
use Rattle.names_whole.specs.Functions.{functions, entry_number}
use Rattle.names_whole.specs.Sites.{sites}
use Rattle.names_whole.specs.Uses.{uses}
use Rattle.names_whole.specs.Whole.{tells}

-- each part by its rule
abbrev pub program : List Named → Program
program ms = record {
  names = module_names ms;
  modules = modules ms;
  uses = uses ms;
  functions = functions ms;
  classes = classes ms;
  sites = sites ms;
  clauses = clauses ms;
  entry = entry_number (entry (members ms));
}

-- the least of all faults of names and constants; no entry point only where no other stands
abbrev pub namefault : List Named → Option NameFault
namefault ms = tells (least (faults ms)) (entry (members ms))

abbrev pub unless : Option NameFault → Program → Option Program
unless None p = Some p
unless (Some fault) p = None

-- modules are a program exactly where nothing is told
abbrev pub prog : List Named → Option Program
prog ms = unless (namefault ms) (program ms)

-- the answer: this program, where nothing is told; or what is told, with the modules as they were. Memory may fail at any time.
abbrev pub IsAnswer : List Named → Result Program NameRefusal → Type 0
IsAnswer ms (Ok p) = (namefault ms ≡ None) × (p ≡ program ms)
IsAnswer ms (Err refusal) = (refusal.modules ≡ ms) × IsTold (namefault ms) refusal.fault
