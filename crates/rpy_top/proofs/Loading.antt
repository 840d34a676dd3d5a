-- One more file after the first ones.
use Rattle.std.proofs.Common.{◌≡◌, ℕ, zero, suc, ◌+◌, ◌≤◌, Bool, List, [], ◌∷◌, ◌++◌, length, get_or, Option, Some, None, Result, Ok, Err, refl, sym, ap, subst, ◌∙◌, arith, true, false, inl, inr}
use Rattle.std.specs.Prelude.{slice_get, nat_lt, nat_le, map, IfSome}
use Rattle.rpy_top.specs.declared.fault.TranslateFault.{TranslateFault}
use Rattle.rpy_top.specs.declared.fault.TranslateFault.TheVariants as fault
use Rattle.rpy_words.specs.Command.{module_name}
use Rattle.std.proofs.lemmas.Bool.Decides.{nat_tests}
use Rattle.rpy_base.specs.Reading.{Disk}
use Rattle.rpy_front.specs.Modules.{are_short}
use Rattle.ll_code.specs.declared.program.LlProgram.{LlProgram}
use Rattle.rpy_edge.specs.Edge.{Filed, filed, Sunk, AllRead, AreBytes, Took, IsQuiet, PutEnds}
use Rattle.rpy_top.specs.Answer.{AreFirst, AreSources, AreChecked, AreRefused, WritesTo, WritesFiles, LowersTo, LowersFiles, MakesText, MakesCode, Stops, untranslated, Builds, StopsAtNext, StopsLoading, limit}
use Rattle.rpy_words.proofs.Tests.{and_both}
use Rattle.rpy_top.specs.declared.building.BuildWork.{BuildWork}
use Rattle.rpy_top.specs.declared.building.BuildWork.TheVariants.{Ended, AtFile}
use Rattle.rpy_words.specs.declared.job.Task.{Task}
use Rattle.rpy_edge.specs.declared.status.Status.{Status}
use Rattle.rpy_edge.specs.declared.status.Status.TheVariants as status

same : {A : Type 0} (a b : A) → Some a ≡ Some b → a ≡ b
same a b e = cc

pub further : (files : Filed) (names sources : List (List ℕ)) (name bytes : List ℕ) → AreFirst files names sources → slice_get names (length sources) ≡ Some name → AreBytes limit files name bytes → AreFirst files names (sources ++ bytes ∷ [])
further files [] [] name bytes first s are = absurd cc
further files (n ∷ names) [] name bytes first s are = (subst (λ x. AreBytes limit files x bytes) (sym (same n name s)) are, tt)
further files [] (b ∷ sources) name bytes first s are = absurd first
further files (n ∷ names) (b ∷ sources) name bytes first s are = (first.0, further files names sources name bytes first.1 s are)

pub most : (files : Filed) (names sources : List (List ℕ)) → AreFirst files names sources → length sources ≤ length names
most files names [] first = omega arith
most files [] (b ∷ sources) first = absurd first
most files (n ∷ names) (b ∷ sources) first = omega (arith, most files names sources first.1)

le_true : (a b : ℕ) → a ≤ b → nat_le a b ≡ true
le_true a b h = grind (arith, nat_tests)

pub not_below : (a b : ℕ) → false ≡ nat_lt a b → b ≤ a
not_below a b h = grind (arith, nat_tests)

less : (a b : ℕ) → true ≡ nat_lt (suc a) (suc b) → true ≡ nat_lt a b
less a b h = grind (arith, nat_tests)

none_below : (a : ℕ) → true ≡ nat_lt a 0 → ⊥
none_below a h = grind (arith, nat_tests)

-- what is looked up below the length is the file there
pub at_place : (names : List (List ℕ)) (i : ℕ) (name : List ℕ) → true ≡ nat_lt i (length names) → get_or names i name ≡ name → slice_get names i ≡ Some name
at_place [] i name h e = absurd (none_below i h)
at_place (n ∷ names) zero name h e = ap Some e
at_place (n ∷ names) (suc i) name h e = at_place names i name (less i (length names) h) e

-- the same files of another call that hold the same
pub moved : (old new : Filed) (names sources : List (List ℕ)) → new.held ≡ old.held → AreFirst old names sources → AreFirst new names sources
moved old new names [] e first = tt
moved old new [] (b ∷ sources) e first = absurd first
moved old new (n ∷ names) (b ∷ sources) e first = ((first.0.0, subst (λ h. IfSome h (λ disk. disk n ≡ Some b)) (sym e) first.0.1), moved old new names sources e first.1)

-- why the next file is not read is why the files are not
pub stops : (files : Filed) (names sources : List (List ℕ)) (name : List ℕ) (work : BuildWork) → AreFirst files names sources → slice_get names (length sources) ≡ Some name → StopsAtNext work name files (length sources) → StopsLoading work names files
stops files names sources name (Ended status.NoMem) first s w = w
stops files names sources name (AtFile file status.NoFile) first s w = ((sources, first, w.0, (name, subst (λ i. slice_get names i ≡ Some name) (sym w.0) s, w.1)), w.2)
stops files names sources name (AtFile file status.NotRead) first s w = (sources, first, w.0, (name, subst (λ i. slice_get names i ≡ Some name) (sym w.0) s, w.1))
stops files names sources name (AtFile file status.TooLong) first s w = ((sources, first, w.0, (name, subst (λ i. slice_get names i ≡ Some name) (sym w.0) s, w.1)), w.2)
stops files names sources name work first s w = absurd w

-- ---- one state of the files for another that holds the same

pub same_filed : {S : Type 0} (held : S → Option Disk) (faults : S → ℕ) (a b c : S) → held a ≡ held b → faults a ≡ faults b → filed held faults a c ≡ filed held faults b c
same_filed held faults a b c e f =
    let first : ℕ → Option Disk → Filed = λ x h. record { held = h; faults_before = x; faults = faults c } in
    ap (first (faults a)) e ∙ ap (λ x. first x (held b)) f

pub shorts : (files : Filed) (names sources : List (List ℕ)) → AreFirst files names sources → are_short sources ≡ true
shorts files names [] first = refl
shorts files [] (b ∷ sources) first = absurd first
shorts files (n ∷ names) (b ∷ sources) first = and_both _ _ (le_true (length b) 1048576 first.0.0) (shorts files names sources first.1)

-- ---- what is made of the files

text_by_fault : (task : Task) (names sources : List (List ℕ)) (files : Filed) (f : TranslateFault) → AreSources files names sources → WritesTo task sources (map module_name names) (Err f) → AllRead files → Stops (AreChecked task) (untranslated f) names files
text_by_fault task names sources files (fault.Source file line kind) are t read = ((sources, are, t), read)
text_by_fault task names sources files (fault.Name file line kind) are t read = ((sources, are, t), read)
text_by_fault task names sources files (fault.Conflict file line words) are t read = ((sources, are, t), read)
text_by_fault task names sources files (fault.Typing file line kind) are t read = ((sources, are, t), read)
text_by_fault task names sources files fault.NoMem are t read = read

pub text_made : (task : Task) (names sources : List (List ℕ)) (files : Filed) (r : Result (List ℕ) BuildWork) → AreSources files names sources → WritesFiles task sources names r → AllRead files → MakesText task true r names files
text_made task names sources files (Ok text) are w read = ((sources, are, w), read)
text_made task names sources files (Err work) are w read = elim w [
  | inl e ↦ subst (λ x. Stops (AreChecked task) x names files) (sym e) read
  | inr f ↦ subst (λ x. Stops (AreChecked task) x names files) (sym f.1) (text_by_fault task names sources files f.0 are f.2 read)
]

code_by_fault : (names sources : List (List ℕ)) (files : Filed) (f : TranslateFault) → AreSources files names sources → LowersTo sources (map module_name names) (Err f) → AllRead files → Stops AreRefused (untranslated f) names files
code_by_fault names sources files (fault.Source file line kind) are t read = ((sources, are, t), read)
code_by_fault names sources files (fault.Name file line kind) are t read = ((sources, are, t), read)
code_by_fault names sources files (fault.Conflict file line words) are t read = ((sources, are, t), read)
code_by_fault names sources files (fault.Typing file line kind) are t read = ((sources, are, t), read)
code_by_fault names sources files fault.NoMem are t read = read

pub code_made : (names sources : List (List ℕ)) (files : Filed) (r : Result LlProgram BuildWork) → AreSources files names sources → LowersFiles sources names r → AllRead files → MakesCode true r names files
code_made names sources files (Ok typed) are w read = ((sources, are, w), read)
code_made names sources files (Err work) are w read = elim w [
  | inl e ↦ subst (λ x. Stops AreRefused x names files) (sym e) read
  | inr f ↦ subst (λ x. Stops AreRefused x names files) (sym f.1) (code_by_fault names sources files f.0 are f.2 read)
]

-- a file that is not read stops the work
pub load_stops : (Checked : TranslateFault → List (List ℕ) → List (List ℕ) → Type 0) (work : BuildWork) (names : List (List ℕ)) (files : Filed) → StopsLoading work names files → Stops Checked work names files
load_stops Checked (Ended s) names files w = w
load_stops Checked (AtFile file s) names files w = w
load_stops Checked work names files w = absurd w

pub too_many_text : (task : Task) (names : List (List ℕ)) (files : Filed) (few : Bool) → few ≡ false → AllRead files → MakesText task few (Err (Ended status.TooMany)) names files
too_many_text task names files true e read = absurd cc
too_many_text task names files false e read = (refl, read)

pub too_many_code : (names : List (List ℕ)) (files : Filed) (few : Bool) → few ≡ false → AllRead files → MakesCode few (Err (Ended status.TooMany)) names files
too_many_code names files true e read = absurd cc
too_many_code names files false e read = (refl, read)

-- ---- the text is put, or not

no_text : (text : List ℕ) (work : BuildWork) → Ok text ≡ Err work → ⊥
no_text text work e = cc

same_work : (a b : BuildWork) (r : Result (List ℕ) BuildWork) → r ≡ Err a → r ≡ Err b → a ≡ b
same_work a b r e f = cc

pub put_fails : (task : Task) (few : Bool) (names : List (List ℕ)) (files : Filed) (text : List ℕ) (out : Sunk) (s : Status) → MakesText task few (Ok text) names files → PutEnds (Err s) text out → Builds task few (Ended s) names files out
put_fails task true names files text out status.WriteFault of ends = ((of.0.0, of.0.1, (text, of.0.2, ends)), of.1)
put_fails task true names files text out status.NoMem of ends = (of.1, ends)
put_fails task true names files text out s of ends = absurd ends
put_fails task false names files text out s of ends = absurd (no_text text (Ended status.TooMany) of.0)

-- or it is whole
pub put_ends : (task : Task) (few : Bool) (names : List (List ℕ)) (files : Filed) (text : List ℕ) (out : Sunk) → MakesText task few (Ok text) names files → Took out text → Builds task few (Ended status.Done) names files out
put_ends task true names files text out of took = ((of.0.0, of.0.1, (text, of.0.2, took)), of.1)
put_ends task false names files text out of took = absurd (no_text text (Ended status.TooMany) of.0)

-- or there is none
pub not_made : (task : Task) (few : Bool) (names : List (List ℕ)) (files : Filed) (work : BuildWork) (out : Sunk) → MakesText task few (Err work) names files → IsQuiet out → Builds task few work names files out
not_made task true names files (Ended status.Done) out w quiet = absurd w
not_made task true names files (Ended status.WriteFault) out w quiet = absurd w
not_made task true names files (Ended s) out w quiet = (w, quiet)
not_made task true names files work out w quiet = (w, quiet)
not_made task false names files work out w quiet = (same_work work (Ended status.TooMany) (Err work) refl w.0, quiet, w.1)
