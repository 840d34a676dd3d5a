-- When a call answers each status, and what then stands in the sinks.
use Rattle.std.specs.Prelude.{◌≡◌, ◌⊎◌, nat_le, Bool, true, false, ℕ, ◌+◌, List, [], ◌∷◌, ◌++◌, length, map, slice_get, unwrap_or, codes, Option, Some, None, Result, Ok, Err}
use Rattle.rpy_base.specs.Causes.{Rose}
use Rattle.csub_tree.specs.Spelling.{file_text}
use Rattle.rpy_first.specs.FirstPath.{first_path}
use Rattle.rpy_first.specs.Gives.{Gives}
use Rattle.rpy_first.specs.Program.{program_of}
use Rattle.first_lower.specs.Lower.{text_of}
use Rattle.first_lower.specs.Built.{Built}
use Rattle.csub_tree.specs.declared.tree.CFile.{CFile}
use Rattle.ll_code.specs.declared.program.LlProgram.{LlProgram}
use Rattle.rpy_first.specs.declared.fault.TranslateFault.{TranslateFault as FrontFault}
use Rattle.rpy_first.specs.declared.fault.TranslateFault.TheVariants as front
use Rattle.rpy_compiled.specs.Checks as check
use Rattle.rpy_compiled.specs.Checks.{CheckFault, HasTypes, HasConflict, HasFault, IsOfSome, words_of as type_words}
use Rattle.ann_text.specs.AnnotationText.{annotation_text}
use Rattle.ann_element.specs.declared.annotation.Annotation.{Annotation}
use Rattle.rpy_top.specs.declared.fault.TranslateFault.{TranslateFault}
use Rattle.rpy_top.specs.declared.fault.TranslateFault.TheVariants.{Source as Refused, Name as NoProgram, Conflict as InConflict, Typing as NoTypes, NoMem as NoMemory}
use Rattle.rpy_first.specs.declared.fault.NameKind.{NameKind}
use Rattle.rpy_first.specs.Source.{refusal, line_at}
use Rattle.rpy_nodes.specs.declared.listing.Named.{Named}
use Rattle.rpy_names.specs.Resolve.{prog}
use Rattle.rpy_front.specs.Modules.{AreModules, StopsAt as IsRefusedAt}
use Rattle.rpy_front.specs.Names.{IsMisnamed, name_refusal}
use Rattle.rpy_tree.specs.declared.program.Program.{Program}
use Rattle.rpy_top.specs.declared.building.BuildWork.{BuildWork}
use Rattle.rpy_top.specs.declared.building.BuildWork.TheVariants.{Ended, AtFile, Refused as RefusedAt, Misnamed, Conflicts, Untypable}
use Rattle.rpy_words.specs.Command.{Brought, Writing, Running as RunningFile, RunningProgram, RunningLow, Sampling, NotThere, module_name}
use Rattle.rpy_words.specs.declared.job.Task.{Task}
use Rattle.rpy_words.specs.declared.job.Task.TheVariants.{Build, Check, Annotate, Flow}
use Rattle.rpy_resolved.specs.Label.{class_labels, function_labels}
use Rattle.flow_graph.specs.GraphText.{graphs_text}
use Rattle.flow_graph.specs.declared.graph.Graphs.{Graphs}
use Rattle.rpy_first.specs.declared.body.Body.{Body}
use Rattle.rpy_edge.specs.Edge.{Sunk, Filed, Took, TookPart, IsQuiet, AllRead, AreBytes, IsMissing, IsTooLong, Says, line}
use Rattle.rpy_edge.specs.declared.status.Status.{Status}
use Rattle.rpy_edge.specs.declared.status.Status.TheVariants.{Done, Usage, NotSource, NotProgram, Conflicting, Untyped, TooMany, NoFile, NotRead, WriteFault, NoMem, TooLong}

-- how many bytes a source may have
abbrev pub limit : ℕ
limit = 1048576

-- these are the bytes of the first files
abbrev pub AreFirst : Filed → List (List ℕ) → List (List ℕ) → Type 0
AreFirst files names [] = Unit {0}
AreFirst files (name ∷ names) (bytes ∷ sources) = AreBytes limit files name bytes × AreFirst files names sources
AreFirst files [] sources = ⊥

-- and there are no further files
abbrev pub AreSources : Filed → List (List ℕ) → List (List ℕ) → Type 0
AreSources files names sources = AreFirst files names sources × (length sources ≡ length names)

-- this holds of the file at this place, and those before it were read
abbrev pub StopsAt : (List ℕ → Type 0) → Filed → List (List ℕ) → ℕ → Type 0
StopsAt Why files names file = (sources : List (List ℕ)) × AreFirst files names sources × (file ≡ length sources) × ((name : List ℕ) × (slice_get names file ≡ Some name) × Why name)

-- ---- translation

-- the body of the only module, where there is one alone and it is of the first path
abbrev pub only_body : List Named → Option Body
only_body (m ∷ []) = first_path m.module
only_body modules = None

-- the sources are modules with these names, and these make a program
pub record AreProgram (sources names : List (List ℕ)) (modules : List Named) : Type 0 where
  pub are : AreModules sources names modules
  pub program : Program
  pub is : prog modules ≡ Some program

-- there is such a program
pub record HasProgram (sources names : List (List ℕ)) : Type 0 where
  pub modules : List Named
  pub make : AreProgram sources names modules

-- the text does what the only body of the modules means
pub record OfBody (modules : List Named) (text : List ℕ) : Type 0 where
  pub body : Body
  pub is : only_body modules ≡ Some body
  pub built : Built (program_of body) text

-- the text is the spelling of a C file that keeps the rules, which the passes make of a low-level program and which means what that means
pub record Emits (text : List ℕ) : Type 0 where
  pub file : CFile
  pub is_file : IsOfSome file
  pub spells : text ≡ file_text file

-- and the program has types
pub record Compiles (program : Program) (text : List ℕ) : Type 0 where
  pub graphs : Graphs
  pub annotation : Annotation
  pub types : HasTypes program graphs annotation
  pub emits : Emits text

-- the text is a translation of modules that make this program: where they are one of the first path, it does what its body means
abbrev pub TranslatesModules : Program → List Named → List ℕ → Type 0
TranslatesModules program modules text = OfBody modules text ⊎ ((only_body modules ≡ None) × Compiles program text)

-- and the modules are the program that the sources are
pub record Translates (sources names : List (List ℕ)) (text : List ℕ) : Type 0 where
  pub modules : List Named
  pub make : AreProgram sources names modules
  pub is : TranslatesModules make.program modules text

-- the text is that of graphs by which the program has types, one for each of its functions in their order
pub record DrawsProgram (program : Program) (text : List ℕ) : Type 0 where
  pub graphs : Graphs
  pub annotation : Annotation
  pub types : HasTypes program graphs annotation
  pub is : text ≡ graphs_text (function_labels program) (class_labels program) graphs

-- and the program is what the sources are
pub record Draws (sources names : List (List ℕ)) (text : List ℕ) : Type 0 where
  pub modules : List Named
  pub make : AreProgram sources names modules
  pub draws : DrawsProgram make.program text

-- the text says that the program has types
abbrev pub approval : List ℕ
approval = codes "ok\n"

pub record ApprovesProgram (program : Program) (text : List ℕ) : Type 0 where
  pub graphs : Graphs
  pub annotation : Annotation
  pub types : HasTypes program graphs annotation
  pub is : text ≡ approval

-- and the program is what the sources are
pub record Approves (sources names : List (List ℕ)) (text : List ℕ) : Type 0 where
  pub modules : List Named
  pub make : AreProgram sources names modules
  pub approves : ApprovesProgram make.program text

-- the text is that of the annotation by which the program has types
pub record AnnotatesProgram (program : Program) (text : List ℕ) : Type 0 where
  pub graphs : Graphs
  pub annotation : Annotation
  pub types : HasTypes program graphs annotation
  pub is : text ≡ annotation_text program graphs annotation

-- and the program is what the sources are
pub record Annotates (sources names : List (List ℕ)) (text : List ℕ) : Type 0 where
  pub modules : List Named
  pub make : AreProgram sources names modules
  pub annotates : AnnotatesProgram make.program text

-- what is written of the program that the sources are
abbrev pub Writes : Task → List (List ℕ) → List (List ℕ) → List ℕ → Type 0
Writes Build sources names text = Translates sources names text
Writes Check sources names text = Approves sources names text
Writes Annotate sources names text = Annotates sources names text
Writes Flow sources names text = Draws sources names text

-- whether this is asked of modules that are checked first: a C text of one module of the first path is written at once
abbrev pub IsChecked : Task → List Named → Type 0
IsChecked Build ms = only_body ms ≡ None
IsChecked task ms = Unit {0}

-- the program is refused by its checks, or there was no memory
abbrev pub IsCheck : Program → TranslateFault → Type 0
IsCheck program (InConflict file line words) = HasConflict program (check.Conflict file line words)
IsCheck program (NoTypes file line kind) = HasFault program (check.Typing file line kind)
IsCheck program NoMemory = Unit {0}
IsCheck program fault = ⊥

-- the sources are a program that is refused so
pub record AreRefused (fault : TranslateFault) (sources names : List (List ℕ)) : Type 0 where
  pub modules : List Named
  pub make : AreProgram sources names modules
  pub refused : IsCheck make.program fault

-- and that is checked first
pub record AreChecked (task : Task) (fault : TranslateFault) (sources names : List (List ℕ)) : Type 0 where
  pub modules : List Named
  pub make : AreProgram sources names modules
  pub refused : IsCheck make.program fault
  pub checked : IsChecked task modules

-- the sources are modules, which make no program
pub record AreNoProgram (sources names : List (List ℕ)) (file line : ℕ) (kind : NameKind) : Type 0 where
  pub modules : List Named
  pub are : AreModules sources names modules
  pub misnamed : IsMisnamed modules file line kind

-- causes why nothing is written, from those of the layers below; modules are read whatever their path
abbrev pub front_fault : FrontFault → TranslateFault
front_fault (front.Source file line kind) = Refused file line kind
front_fault (front.Name file line kind) = NoProgram file line kind
front_fault front.NotFirst = NoMemory
front_fault front.NoMem = NoMemory

abbrev pub check_fault : CheckFault → TranslateFault
check_fault (check.Conflict file line words) = InConflict file line words
check_fault (check.Typing file line kind) = NoTypes file line kind
check_fault check.NoMem = NoMemory

-- what a function ensures that gives the only body
abbrev pub OnlyBody : List Named → Result Body FrontFault → Type 0
OnlyBody ms found = Gives (only_body ms) found

-- what a call answers that writes the C text of a program by its low-level program
abbrev pub CompilesProgram : Program → Result (List ℕ) TranslateFault → Type 0
CompilesProgram p (Ok text) = Compiles p text
CompilesProgram p (Err fault) = IsCheck p fault

-- and one that gives its low-level program
abbrev pub LowersProgram : Program → Result LlProgram TranslateFault → Type 0
LowersProgram p (Ok typed) = Unit {0}
LowersProgram p (Err fault) = IsCheck p fault

-- what a call answers that writes the C text of a program, whose only body was asked for
abbrev pub BuildsProgram : List ℕ → Program → Result Body FrontFault → Result (List ℕ) TranslateFault → Type 0
BuildsProgram name p (Ok body) (Ok text) = text ≡ text_of name body
BuildsProgram name p (Ok body) (Err NoMemory) = Unit {0}
BuildsProgram name p (Ok body) (Err fault) = ⊥
BuildsProgram name p (Err front.NotFirst) result = CompilesProgram p result
BuildsProgram name p (Err fault) (Ok text) = ⊥
BuildsProgram name p (Err fault) (Err NoMemory) = Unit {0}
BuildsProgram name p (Err fault) (Err other) = ⊥

-- and one that writes something else of a program
abbrev pub ShowsProgram : Program → (List ℕ → Type 0) → Result (List ℕ) TranslateFault → Type 0
ShowsProgram p Shows (Ok text) = Shows text
ShowsProgram p Shows (Err fault) = IsCheck p fault

abbrev pub WritesProgram : Task → List ℕ → Program → Result Body FrontFault → Result (List ℕ) TranslateFault → Type 0
WritesProgram Build name p found result = BuildsProgram name p found result
WritesProgram Check name p found result = ShowsProgram p (ApprovesProgram p) result
WritesProgram Annotate name p found result = ShowsProgram p (AnnotatesProgram p) result
WritesProgram Flow name p found result = ShowsProgram p (DrawsProgram p) result

-- what is written of the program that modules are
abbrev pub WritesOf : Task → List Named → Program → List ℕ → Type 0
WritesOf Build ms p text = TranslatesModules p ms text
WritesOf Check ms p text = ApprovesProgram p text
WritesOf Annotate ms p text = AnnotatesProgram p text
WritesOf Flow ms p text = DrawsProgram p text

-- what a call answers that writes this of modules
abbrev pub WritesModules : Task → List Named → Result (List ℕ) TranslateFault → Type 0
WritesModules task ms (Ok text) = (p : Program) × (prog ms ≡ Some p) × WritesOf task ms p text
WritesModules task ms (Err (Refused file line kind)) = ⊥
WritesModules task ms (Err (NoProgram file line kind)) = IsMisnamed ms file line kind
WritesModules task ms (Err (InConflict file line words)) = (p : Program) × (prog ms ≡ Some p) × IsCheck p (InConflict file line words) × IsChecked task ms
WritesModules task ms (Err (NoTypes file line kind)) = (p : Program) × (prog ms ≡ Some p) × IsCheck p (NoTypes file line kind) × IsChecked task ms
WritesModules task ms (Err NoMemory) = Unit {0}

-- what a call answers that writes this of the program that sources are
abbrev pub WritesTo : Task → List (List ℕ) → List (List ℕ) → Result (List ℕ) TranslateFault → Type 0
WritesTo task sources names (Ok text) = Writes task sources names text
WritesTo task sources names (Err (Refused file line kind)) = IsRefusedAt sources names file line kind
WritesTo task sources names (Err (NoProgram file line kind)) = AreNoProgram sources names file line kind
WritesTo task sources names (Err (InConflict file line words)) = AreChecked task (InConflict file line words) sources names
WritesTo task sources names (Err (NoTypes file line kind)) = AreChecked task (NoTypes file line kind) sources names
WritesTo task sources names (Err NoMemory) = Unit {0}

-- what a call answers that gives the low-level program of modules
abbrev pub LowersModules : List Named → Result LlProgram TranslateFault → Type 0
LowersModules ms (Ok typed) = (p : Program) × (prog ms ≡ Some p)
LowersModules ms (Err (Refused file line kind)) = ⊥
LowersModules ms (Err (NoProgram file line kind)) = IsMisnamed ms file line kind
LowersModules ms (Err NoMemory) = Unit {0}
LowersModules ms (Err fault) = (p : Program) × (prog ms ≡ Some p) × IsCheck p fault

-- and of sources
abbrev pub LowersTo : List (List ℕ) → List (List ℕ) → Result LlProgram TranslateFault → Type 0
LowersTo sources names (Ok typed) = HasProgram sources names
LowersTo sources names (Err (Refused file line kind)) = IsRefusedAt sources names file line kind
LowersTo sources names (Err (NoProgram file line kind)) = AreNoProgram sources names file line kind
LowersTo sources names (Err NoMemory) = Unit {0}
LowersTo sources names (Err fault) = AreRefused fault sources names

-- ---- the work

-- the files were read, and this holds of their bytes and the names of their modules
abbrev pub OfSources : (List (List ℕ) → List (List ℕ) → Type 0) → List (List ℕ) → Filed → Type 0
OfSources Holds names files = (sources : List (List ℕ)) × AreSources files names sources × Holds sources (map module_name names)

-- which file is not read, and why
abbrev pub StopsLoading : BuildWork → List (List ℕ) → Filed → Type 0
StopsLoading (AtFile file NoFile) names files = StopsAt (IsMissing files) files names file × AllRead files
StopsLoading (AtFile file NotRead) names files = StopsAt (λ name. Rose files.faults_before files.faults) files names file
StopsLoading (AtFile file TooLong) names files = StopsAt (IsTooLong limit files) files names file × AllRead files
StopsLoading (Ended NoMem) names files = AllRead files
StopsLoading work names files = ⊥

-- the work on files that stops before something is made: what is known of sources that are refused by their checks
abbrev pub Stops : (TranslateFault → List (List ℕ) → List (List ℕ) → Type 0) → BuildWork → List (List ℕ) → Filed → Type 0
Stops Checked (Ended status) names files = StopsLoading (Ended status) names files
Stops Checked (AtFile file status) names files = StopsLoading (AtFile file status) names files
Stops Checked (RefusedAt file line kind) names files = OfSources (λ sources modules. IsRefusedAt sources modules file line kind) names files × AllRead files
Stops Checked (Conflicts file line words) names files = OfSources (Checked (InConflict file line words)) names files × AllRead files
Stops Checked (Untypable file line kind) names files = OfSources (Checked (NoTypes file line kind)) names files × AllRead files
Stops Checked (Misnamed file line kind) names files = OfSources (λ sources modules. AreNoProgram sources modules file line kind) names files × AllRead files

-- the text that is made of files, of which there are at most 64
abbrev pub MakesText : Task → Bool → Result (List ℕ) BuildWork → List (List ℕ) → Filed → Type 0
MakesText task true (Ok text) names files = OfSources (λ sources modules. Writes task sources modules text) names files × AllRead files
MakesText task true (Err work) names files = Stops (AreChecked task) work names files
MakesText task false result names files = (result ≡ Err (Ended TooMany)) × AllRead files

-- the low-level program
abbrev pub MakesCode : Bool → Result LlProgram BuildWork → List (List ℕ) → Filed → Type 0
MakesCode true (Ok typed) names files = OfSources HasProgram names files × AllRead files
MakesCode true (Err work) names files = Stops AreRefused work names files
MakesCode false result names files = (result ≡ Err (Ended TooMany)) × AllRead files

-- when the work on files ends in each way
abbrev pub BuildsTo : Task → BuildWork → List (List ℕ) → Filed → Sunk → Type 0
BuildsTo task (Ended Done) names files out = OfSources (λ sources modules. (text : List ℕ) × Writes task sources modules text × Took out text) names files × AllRead files
BuildsTo task (Ended WriteFault) names files out = OfSources (λ sources modules. (text : List ℕ) × Writes task sources modules text × TookPart out text) names files × AllRead files
BuildsTo task work names files out = Stops (AreChecked task) work names files × IsQuiet out

-- at most 64 files make a program
abbrev pub Builds : Task → Bool → BuildWork → List (List ℕ) → Filed → Sunk → Type 0
Builds task true work names files out = BuildsTo task work names files out
Builds task false work names files out = (work ≡ Ended TooMany) × IsQuiet out × AllRead files

-- when the work of a call ends in each way
abbrev pub Works : BuildWork → Brought → Filed → Sunk → Type 0
Works work NotThere files out = (work ≡ Ended Usage) × IsQuiet out × AllRead files
Works work (Writing task names) files out = Builds task (nat_le (length names) 64) work names files out
Works work other files out = ⊥

-- the files that the words name
abbrev pub files_of : Brought → List (List ℕ)
files_of NotThere = []
files_of (Writing task names) = names
files_of (RunningFile file words) = file ∷ []
files_of (RunningProgram words) = words.files
files_of (RunningLow words) = words.files
files_of (Sampling k) = codes "sample" ∷ []

-- the file at a place
abbrev pub file_at : List (List ℕ) → ℕ → List ℕ
file_at names file = unwrap_or (slice_get names file) []

abbrev pub Said : BuildWork → Status → List (List ℕ) → Sunk → Type 0
Said (Ended worked) answered names err = Says worked answered (line worked []) err
Said (AtFile file worked) answered names err = Says worked answered (line worked (file_at names file)) err
Said (RefusedAt file at kind) answered names err = Says NotSource answered (refusal (file_at names file) at kind) err
Said (Misnamed file at kind) answered names err = Says NotProgram answered (name_refusal (file_at names file) at kind) err
Said (Conflicts file at words) answered names err = Says Conflicting answered (line_at (file_at names file) at (codes "conflict: " ++ words)) err
Said (Untypable file at kind) answered names err = Says Untyped answered (line_at (file_at names file) at (type_words kind)) err

-- the whole call
abbrev pub Answers : Status → Brought → Filed → Sunk → Sunk → Type 0
Answers answered what files out err = (work : BuildWork) × Works work what files out × Said work answered (files_of what) err

-- why this file, which is the next one, is not read
abbrev pub StopsAtNext : BuildWork → List ℕ → Filed → ℕ → Type 0
StopsAtNext (AtFile file NoFile) name files at = (file ≡ at) × IsMissing files name × AllRead files
StopsAtNext (AtFile file NotRead) name files at = (file ≡ at) × Rose files.faults_before files.faults
StopsAtNext (AtFile file TooLong) name files at = (file ≡ at) × IsTooLong limit files name × AllRead files
StopsAtNext (Ended NoMem) name files at = AllRead files
StopsAtNext work name files at = ⊥

-- what a function ensures that loads one more file
abbrev pub LoadsNext : Result (Unit {0}) BuildWork → List ℕ → Filed → List (List ℕ) → List (List ℕ) → Type 0
LoadsNext (Ok done) name files old new = ((bytes : List ℕ) × AreBytes limit files name bytes × (new ≡ old ++ bytes ∷ [])) × AllRead files
LoadsNext (Err work) name files old new = StopsAtNext work name files (length old)

-- what a function ensures that loads all files
abbrev pub LoadsAll : Result (List (List ℕ)) BuildWork → List (List ℕ) → Filed → Type 0
LoadsAll (Ok sources) names files = AreSources files names sources × AllRead files
LoadsAll (Err work) names files = StopsLoading work names files

-- what the status of one file is for the work on all
abbrev pub stopped : ℕ → Status → BuildWork
stopped file NoMem = Ended NoMem
stopped file status = AtFile file status

-- what came of sources that have no text
abbrev pub untranslated : TranslateFault → BuildWork
untranslated (Refused file line kind) = RefusedAt file line kind
untranslated (NoProgram file line kind) = Misnamed file line kind
untranslated (InConflict file line words) = Conflicts file line words
untranslated (NoTypes file line kind) = Untypable file line kind
untranslated NoMemory = Ended NoMem

abbrev pub WritesFiles : Task → List (List ℕ) → List (List ℕ) → Result (List ℕ) BuildWork → Type 0
WritesFiles task sources names (Ok text) = Writes task sources (map module_name names) text
WritesFiles task sources names (Err work) = (work ≡ Ended NoMem) ⊎ ((fault : TranslateFault) × (work ≡ untranslated fault) × WritesTo task sources (map module_name names) (Err fault))

abbrev pub LowersFiles : List (List ℕ) → List (List ℕ) → Result LlProgram BuildWork → Type 0
LowersFiles sources names (Ok typed) = HasProgram sources (map module_name names)
LowersFiles sources names (Err work) = (work ≡ Ended NoMem) ⊎ ((fault : TranslateFault) × (work ≡ untranslated fault) × LowersTo sources (map module_name names) (Err fault))
