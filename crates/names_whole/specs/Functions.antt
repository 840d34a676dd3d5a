-- The functions of a program, in node order.
use Rattle.std.specs.Prelude.{ℕ, List, [], ◌∷◌, ◌++◌, length, Option, Some, None}
use Rattle.rpy_tree.specs.declared.program.FunInfo.{FunInfo}
use Rattle.rpy_nodes.specs.declared.listing.Named.{Named}
use Rattle.names_bound.specs.Declare.{class_here}
use Rattle.names_rules.specs.Bindings.{Counts, none_before, count}
use Rattle.names_rules.specs.Entry.{EntryPoint}
use Rattle.names_rules.specs.Locals.{locals}
use Rattle.names_rules.specs.Members.{What, Def, Placed, members}
use Rattle.names_value.specs.Machine.{narrow}

abbrev pub as_number : Option ℕ → Option ℕ
as_number None = None
as_number (Some n) = Some (narrow n)

-- its node, its file, the class in whose body it stands, and how many locals it has
abbrev pub function : Option ℕ → Placed → What → List FunInfo
function class p (Def name ps star b) = record { node = p.node; file = narrow p.file; class = as_number class; locals = narrow (length (locals ps b.of)) } ∷ []
function class p other = []

abbrev pub functions_from : Counts → List Placed → List FunInfo
functions_from c [] = []
functions_from c (p ∷ ps) = function (class_here p.inside c.classes) p p.what ++ functions_from (count p.what c) ps

abbrev pub functions : List Named → List FunInfo
functions ms = functions_from none_before (members ms)

abbrev pub entry_number : Option EntryPoint → ℕ
entry_number None = 0
entry_number (Some e) = narrow e.function
