-- What the files, sinks and watchers in memory hold.
use Rattle.std.specs.Prelude.{ℕ, List, [], ◌∷◌, Option, Some, None, cond}
use Rattle.std.specs.Str.{bytes_eq}
use Rattle.rpy_base.specs.declared.sink.MemSink.{MemSink}
use Rattle.rpy_base.specs.declared.files.MemFiles.{MemFiles}
use Rattle.rpy_base.specs.declared.files.Stored.{Stored}

abbrev pub sink_bytes : MemSink → List ℕ
sink_bytes sink = sink.bytes.items

-- the bytes of the first file of the name
abbrev pub stored_under : List Stored → List ℕ → Option (List ℕ)
stored_under [] name = None
stored_under (file ∷ files) name = cond (bytes_eq file.name name) (Some file.bytes) (stored_under files name)

abbrev pub disk_of : MemFiles → List ℕ → Option (List ℕ)
disk_of files name = stored_under files.files.items name
