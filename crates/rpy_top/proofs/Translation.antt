-- The text of a first-path source is a translation of its program.
use Rattle.std.proofs.Common.{◌≡◌, ℕ, true, List, [], ◌∷◌, Some, None, Result, Ok, Err, sym, subst, inl, inr}
use Rattle.rpy_words.specs.Command.{is_name}
use Rattle.rpy_first.specs.Program.{program_of}
use Rattle.first_lower.specs.Built.{Built}
use Rattle.first_lower.proofs.Translation.{built}
use Rattle.rpy_nodes.specs.declared.listing.Named.{Named}
use Rattle.rpy_front.specs.Modules.{AreModules}
use Rattle.rpy_first.specs.declared.fault.TranslateFault.{TranslateFault as FrontFault}
use Rattle.rpy_first.specs.declared.fault.TranslateFault.TheVariants as front
use Rattle.rpy_top.specs.declared.fault.TranslateFault.{TranslateFault}
use Rattle.rpy_top.specs.declared.fault.TranslateFault.TheVariants.{Source, Name, Conflict, Typing, NoMem}
use Rattle.rpy_first.specs.Gives.{Gives}
use Rattle.rpy_names.specs.Resolve.{prog}
use Rattle.rpy_tree.specs.declared.program.Program.{Program}
use Rattle.ll_code.specs.declared.program.LlProgram.{LlProgram}
use Rattle.rpy_compiled.specs.Checks as check
use Rattle.rpy_compiled.specs.Checks.{CheckFault, IsRefused}
use Rattle.first_lower.specs.Lower.{text_of}
use Rattle.rpy_top.specs.Answer.{IsCheck, IsChecked, check_fault, LowersProgram, LowersModules, LowersTo, WritesProgram, only_body, WritesModules, WritesTo}
use Rattle.rpy_words.specs.declared.job.Task.{Task}
use Rattle.rpy_words.specs.declared.job.Task.TheVariants.{Build, Check, Annotate, Flow}
use Rattle.rpy_first.specs.declared.body.Body.{Body}

none_some : (body : Body) → None ≡ Some body → ⊥
none_some body e = cc

pub built_only : (name : List ℕ) (ms : List Named) (body : Body) (text : List ℕ) → is_name name ≡ true → only_body ms ≡ Some body → text ≡ text_of name body → Built (program_of body) text
built_only name [] body text named is_path is = absurd (none_some body is_path)
built_only name (m ∷ []) body text named is_path is = built name m.module body text named is_path is
built_only name (m ∷ n ∷ ms) body text named is_path is = absurd (none_some body is_path)

-- what becomes of sources is what becomes of their modules
pub written : (task : Task) (sources names : List (List ℕ)) (ms : List Named) (r : Result (List ℕ) TranslateFault) → AreModules sources names ms → WritesModules task ms r → WritesTo task sources names r
written Build sources names ms (Ok text) are t = record { modules = ms; make = record { are = are; program = t.0; is = t.1 }; is = t.2 }
written Check sources names ms (Ok text) are t = record { modules = ms; make = record { are = are; program = t.0; is = t.1 }; approves = t.2 }
written Annotate sources names ms (Ok text) are t = record { modules = ms; make = record { are = are; program = t.0; is = t.1 }; annotates = t.2 }
written Flow sources names ms (Ok text) are t = record { modules = ms; make = record { are = are; program = t.0; is = t.1 }; draws = t.2 }
written task sources names ms (Err (Source file line kind)) are t = absurd t
written task sources names ms (Err (Name file line kind)) are t = record { modules = ms; are = are; misnamed = t }
written task sources names ms (Err (Conflict file line words)) are t = record { modules = ms; make = record { are = are; program = t.0; is = t.1 }; refused = t.2; checked = t.3 }
written task sources names ms (Err (Typing file line kind)) are t = record { modules = ms; make = record { are = are; program = t.0; is = t.1 }; refused = t.2; checked = t.3 }
written task sources names ms (Err NoMem) are t = tt

-- a refusal by the checks
of_check : (task : Task) (ms : List Named) (p : Program) (fault : TranslateFault) → prog ms ≡ Some p → IsChecked task ms → IsCheck p fault → WritesModules task ms (Err fault)
of_check task ms p (Source file line kind) is checked t = absurd t
of_check task ms p (Name file line kind) is checked t = absurd t
of_check task ms p (Conflict file line words) is checked t = (p, is, t, checked)
of_check task ms p (Typing file line kind) is checked t = (p, is, t, checked)
of_check task ms p NoMem is checked t = tt

-- what becomes of modules that make a program is what becomes of the program
pub of_program : (task : Task) (name : List ℕ) (ms : List Named) (p : Program) (found : Result Body FrontFault) (r : Result (List ℕ) TranslateFault) → is_name name ≡ true → prog ms ≡ Some p → Gives (only_body ms) found → WritesProgram task name p found r → WritesModules task ms r
of_program Build name ms p (Ok body) (Ok text) named is gives t = (p, is, inl (record { body = body; is = gives; built = built_only name ms body text named gives t }))
of_program Build name ms p (Ok body) (Err NoMem) named is gives t = tt
of_program Build name ms p (Ok body) (Err (Source file line kind)) named is gives t = absurd t
of_program Build name ms p (Ok body) (Err (Name file line kind)) named is gives t = absurd t
of_program Build name ms p (Ok body) (Err (Conflict file line words)) named is gives t = absurd t
of_program Build name ms p (Ok body) (Err (Typing file line kind)) named is gives t = absurd t
of_program Build name ms p (Err front.NotFirst) (Ok text) named is gives t = (p, is, inr (gives, t))
of_program Build name ms p (Err front.NotFirst) (Err (Source file line kind)) named is gives t = absurd t
of_program Build name ms p (Err front.NotFirst) (Err (Name file line kind)) named is gives t = absurd t
of_program Build name ms p (Err front.NotFirst) (Err (Conflict file line words)) named is gives t = (p, is, t, gives)
of_program Build name ms p (Err front.NotFirst) (Err (Typing file line kind)) named is gives t = (p, is, t, gives)
of_program Build name ms p (Err front.NotFirst) (Err NoMem) named is gives t = tt
of_program Build name ms p (Err front.NoMem) (Ok text) named is gives t = absurd t
of_program Build name ms p (Err front.NoMem) (Err (Source file line kind)) named is gives t = absurd t
of_program Build name ms p (Err front.NoMem) (Err (Name file line kind)) named is gives t = absurd t
of_program Build name ms p (Err front.NoMem) (Err (Conflict file line words)) named is gives t = absurd t
of_program Build name ms p (Err front.NoMem) (Err (Typing file line kind)) named is gives t = absurd t
of_program Build name ms p (Err front.NoMem) (Err NoMem) named is gives t = tt
of_program Build name ms p (Err (front.Source file line kind)) r named is gives t = absurd gives
of_program Build name ms p (Err (front.Name file line kind)) r named is gives t = absurd gives
of_program Check name ms p found (Ok text) named is gives t = (p, is, t)
of_program Check name ms p found (Err fault) named is gives t = of_check Check ms p fault is tt t
of_program Annotate name ms p found (Ok text) named is gives t = (p, is, t)
of_program Annotate name ms p found (Err fault) named is gives t = of_check Annotate ms p fault is tt t
of_program Flow name ms p found (Ok text) named is gives t = (p, is, t)
of_program Flow name ms p found (Err fault) named is gives t = of_check Flow ms p fault is tt t

-- the low-level program of modules that make a program
pub of_lowered : (ms : List Named) (p : Program) (r : Result LlProgram TranslateFault) → prog ms ≡ Some p → LowersProgram p r → LowersModules ms r
of_lowered ms p (Ok typed) is t = (p, is)
of_lowered ms p (Err (Source file line kind)) is t = absurd t
of_lowered ms p (Err (Name file line kind)) is t = absurd t
of_lowered ms p (Err (Conflict file line words)) is t = (p, is, t)
of_lowered ms p (Err (Typing file line kind)) is t = (p, is, t)
of_lowered ms p (Err NoMem) is t = tt

-- and of sources
pub lowered_of : (sources names : List (List ℕ)) (ms : List Named) (r : Result LlProgram TranslateFault) → AreModules sources names ms → LowersModules ms r → LowersTo sources names r
lowered_of sources names ms (Ok typed) are t = record { modules = ms; make = record { are = are; program = t.0; is = t.1 } }
lowered_of sources names ms (Err (Source file line kind)) are t = absurd t
lowered_of sources names ms (Err (Name file line kind)) are t = record { modules = ms; are = are; misnamed = t }
lowered_of sources names ms (Err (Conflict file line words)) are t = record { modules = ms; make = record { are = are; program = t.0; is = t.1 }; refused = t.2 }
lowered_of sources names ms (Err (Typing file line kind)) are t = record { modules = ms; make = record { are = are; program = t.0; is = t.1 }; refused = t.2 }
lowered_of sources names ms (Err NoMem) are t = tt

-- what the checks refuse
pub refused : (p : Program) (fault : CheckFault) (told : TranslateFault) → IsRefused p fault → told ≡ check_fault fault → IsCheck p told
refused p (check.Conflict file line words) told h e = subst (IsCheck p) (sym e) h
refused p (check.Typing file line kind) told h e = subst (IsCheck p) (sym e) h
refused p check.NoMem told h e = subst (IsCheck p) (sym e) tt
