-- What imports bind.
use Rattle.std.specs.Prelude.{ℕ, ◌+◌, if◌then◌else◌, ◌&&◌, List, [], ◌∷◌, codes, Option, Some, None}
use Rattle.std.specs.Str.{bytes_eq}
use Rattle.rpy_tree.specs.declared.program.Builtin.TheVariants as builtin
use Rattle.names_bound.specs.declared.imports.Source.{Source}
use Rattle.names_bound.specs.declared.imports.Source.TheVariants as source
use Rattle.names_bound.specs.declared.stand.Stand.{Stand}
use Rattle.names_bound.specs.declared.stand.Stand.TheVariants as stand

-- a thing, or a name of a module from which it is taken
pub data Bound : Type 0 where
  Is : Stand → Bound
  From : ℕ → List ℕ → Bound

abbrev pub file_from : ℕ → List (List ℕ) → List ℕ → Option ℕ
file_from file [] name = None
file_from file (m ∷ ms) name = if bytes_eq m name then Some file else file_from (file + 1) ms name

-- the place of the given module of a name
abbrev pub file_of : List (List ℕ) → List ℕ → Option ℕ
file_of modules name = file_from 0 modules name

abbrev pub module_or : Option ℕ → Stand
module_or None = stand.Missing
module_or (Some file) = stand.Module file

-- `import name`
abbrev pub import_stand : List (List ℕ) → List ℕ → Stand
import_stand modules name =
    if bytes_eq (codes "os") name then stand.Os else
    if bytes_eq (codes "sys") name then stand.Sys else module_or (file_of modules name)

abbrev pub source_or : Option ℕ → Source
source_or None = source.Missing
source_or (Some file) = source.Module file

-- a given module, or rpython.rlib.rarithmetic
abbrev pub source_of : List (List ℕ) → List (List ℕ) → Source
source_of modules (name ∷ []) = source_or (file_of modules name)
source_of modules (a ∷ b ∷ c ∷ []) = if bytes_eq (codes "rpython") a && bytes_eq (codes "rlib") b && bytes_eq (codes "rarithmetic") c then source.Arithmetic else source.Missing
source_of modules path = source.Missing

abbrev pub arithmetic : List ℕ → Stand
arithmetic name =
    if bytes_eq (codes "ovfcheck") name then stand.Builtin builtin.Ovfcheck else
    if bytes_eq (codes "intmask") name then stand.Builtin builtin.Intmask else stand.Missing

-- `from path import name`
abbrev pub taken : Source → List ℕ → Bound
taken (source.Module file) name = From file name
taken source.Arithmetic name = Is (arithmetic name)
taken source.Missing name = Is stand.Missing
