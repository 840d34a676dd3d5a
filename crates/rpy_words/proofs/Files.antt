-- Files whose modules have names.
use Rattle.std.proofs.Common.{◌≡◌, ℕ, ◌<◌, true, List, [], ◌∷◌, length, codes, refl, ap, arith}
use Rattle.std.specs.Prelude.{◌&&◌, not, map}
use Rattle.rpy_words.specs.Names.{name_len, is_keyword}
use Rattle.rpy_words.specs.Command.{is_name, is_file, begins_as_file, is_module_name, are_module_names, module_name, are_sources, are_files, names_module}
use Rattle.rpy_words.proofs.Tests.{and_left, and_right, and_both}

pub module_named : (name : List ℕ) → is_module_name name ≡ true → is_name name ≡ true
module_named name h = and_left (is_name name) _ (and_left (is_name name && not (is_keyword name)) _ h)

pub first_named : (name : List ℕ) (names : List (List ℕ)) → are_module_names (name ∷ names) ≡ true → is_name name ≡ true
first_named name names h = module_named name (and_left (is_module_name name) _ h)

-- the names of files of modules are names of modules
file_named : (file : List ℕ) → is_file file ≡ true → is_module_name (module_name file) ≡ true
file_named file h = and_right (begins_as_file file) _ h

pub files_named : (files : List (List ℕ)) → are_files files ≡ true → are_module_names (map module_name files) ≡ true
files_named [] h = refl
files_named (f ∷ files) h =
    let first : (is_file f && not (names_module (module_name f) files)) ≡ true = and_left (is_file f && not (names_module (module_name f) files)) _ h in
    and_both _ _ (file_named f (and_left (is_file f) _ first)) (files_named files (and_right (is_file f && not (names_module (module_name f) files)) _ h))

pub sources_named : (files : List (List ℕ)) → are_sources files ≡ true → are_module_names (map module_name files) ≡ true
sources_named [] h = refl
sources_named (f ∷ files) h = files_named (f ∷ files) h

pub some_sources : (files : List (List ℕ)) → are_sources files ≡ true → 0 < length files
some_sources [] h = absurd cc
some_sources (f ∷ files) h = omega arith

-- the module of the sample program
pub sample_named : (names : List (List ℕ)) → names ≡ codes "sample" ∷ [] → are_module_names names ≡ true
unfolding name_len
sample_named names e = ap are_module_names e
