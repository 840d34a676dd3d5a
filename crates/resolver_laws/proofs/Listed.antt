-- The functions, the classes and the sites of a program are those of the program that the meaning makes of it.
use Rattle.std.proofs.Common.{◌≡◌, ℕ, zero, suc, ◌+◌, ◌<◌, ◌≤◌, ◌&&◌, Bool, true, false, List, [], ◌∷◌, ◌++◌, map, length, slice_get, Option, Some, None, refl, sym, ap, ◌∙◌, subst, arith, append_assoc, length-append, zip, sum_by, flat_map, codes}
use Rattle.std.specs.Prelude.{option_map, unwrap_or, if◌then◌else◌}
use Rattle.std.specs.List.{list_all}
use Rattle.std.proofs.lemmas.List.{map-append, append-nil, length-map}
use Rattle.std.proofs.lemmas.List.Sums.{sum_by-cons}
use Rattle.std.proofs.lemmas.Bool.{and_parts}
use Rattle.rpy_tree.specs.declared.program.ClassInfo.{ClassInfo}
use Rattle.rpy_tree.specs.declared.program.Const.{Const}
use Rattle.rpy_tree.specs.declared.program.Const.TheVariants as const
use Rattle.rpy_tree.specs.declared.program.FunInfo.{FunInfo}
use Rattle.rpy_tree.specs.declared.program.Program as program
use Rattle.rpy_tree.specs.declared.program.Program.{Program}
use Rattle.rpy_tree.specs.declared.program.Site.{Site}
use Rattle.rpy_tree.specs.declared.program.Use.{Use}
use Rattle.rpy_tree.specs.declared.program.Use.TheVariants as use_of
use Rattle.rpy_tree.specs.declared.syntax.ClassDef.{ClassDef}
use Rattle.rpy_tree.specs.declared.syntax.Function as syntax
use Rattle.rpy_tree.specs.declared.syntax.Member.{Member, out-Member, map-Member, fold_out-Member}
use Rattle.rpy_tree.specs.declared.syntax.Member.TheFolds.{fold-ClassDef, fold_out-ClassDef}
use Rattle.rpy_tree.specs.declared.syntax.Member.TheOpen.{Member-F}
use Rattle.rpy_tree.specs.declared.syntax.Module.{Module}
use Rattle.rpy_tree.specs.declared.syntax.Param.{Param}
use Rattle.rpy_tree.specs.Value.{Value, Object}
use Rattle.rpy_meaning.specs.Resolved as meaning
use Rattle.rpy_meaning.specs.Resolved.{Names, default_of, joined, stmt_by, function_by, functions_of, functions_step, functions_from, class_names_of, names_step, class_names_from, builtin_names, names_at}
use Rattle.rpy_meaning.specs.Tree as tree
use Rattle.rpy_resolved.specs.Count as count
use Rattle.rpy_resolved.specs.Count.{function_count, member_count, method_count}
use Rattle.rpy_resolved.specs.Label.{under, class_in, member_class, of_modules, builtin_classes, class_labels}
use Rattle.rpy_resolved.specs.declared.tree.Class as code_class
use Rattle.rpy_resolved.specs.declared.tree.Function.{Function}
use Rattle.rpy_resolved.specs.declared.tree.Resolved.{Resolved}
use Rattle.resolved_meaning.specs.Programs.{value_in, object_at, sites_of, contents, class_of}
use Rattle.resolved_meaning.specs.Trees.{function_of, program_of, block_of}
use Rattle.resolved_laws.specs.Meant.{further_of, meant_by, constant_in}
use Rattle.resolved_laws.specs.Uncopied.{uncopied, uncopied_function, uncopied_block}
use Rattle.resolver_names.specs.declared.names.Names as code
use Rattle.resolver_names.specs.Forms.{default_in}
use Rattle.resolver_names.specs.Told.{the_names, block_tree}
use Rattle.resolver_laws.specs.Listing.{locals_in, locals_of, tree_in, function_tree, function_with, numbered, method_in, method_pairs, member_in, member_pairs, module_pairs, class_with, named_from, is_no_class, is_flat, HasNoInnerClasses}

-- ---- defaults

constant_same : (o : Option Use) → default_in (unwrap_or o use_of.Nothing) ≡ constant_in o
constant_same None = refl
constant_same (Some use_of.Nothing) = refl
constant_same (Some (use_of.Local i)) = refl
constant_same (Some (use_of.Function f)) = refl
constant_same (Some (use_of.Class c)) = refl
constant_same (Some (use_of.Value c)) = refl
constant_same (Some (use_of.Module m)) = refl
constant_same (Some (use_of.Builtin b)) = refl

pub default_same : (names : code.Names) (n : ℕ) (c : Const) → c ≡ default_in ((the_names names).meant n) → value_in names.program.now.sites c ≡ (the_names names).constant n
default_same names n c e =
    ap (value_in names.program.now.sites) (e ∙ constant_same (slice_get names.program.now.uses (names.before + n)))

-- ---- functions

pub function_made : (names : code.Names) (f : Function) (locals : ℕ) (src : syntax.Function)
    → map (option_map (value_in names.program.now.sites)) f.defaults ≡ map (λ (p : Param). default_of (the_names names) p.default) src.params
    → f.takes_more ≡ src.star → f.locals ≡ locals → block_tree names f.body ≡ joined (the_names names) (map (stmt_by (the_names names)) src.body)
    → function_tree names f ≡ function_with locals (the_names names, src)
function_made names f locals src d t l b = λ i. record { defaults = d i; takes_more = t i; locals = l i; body = b i }

module _ (p : Program) where
  abbrev infos : List FunInfo
  infos = p.functions

  abbrev trees : List Function → List tree.Function
  trees fs = map (tree_in p) fs

  numbered_append : (n : ℕ) (xs ys : List (Names × syntax.Function)) → numbered infos n (xs ++ ys) ≡ numbered infos n xs ++ numbered infos (n + length xs) ys
  numbered_append n [] ys = let e : n ≡ n + 0 = omega arith in ap (λ k. numbered infos k ys) e
  numbered_append n (x ∷ xs) ys =
      let e : (n + 1) + length xs ≡ n + length (x ∷ xs) = omega arith in
      ap (λ us. function_with (locals_in infos n) x ∷ us) (numbered_append (n + 1) xs ys ∙ ap (λ k. numbered infos (n + 1) xs ++ numbered infos k ys) e)

  numbered_long : (n : ℕ) (xs : List (Names × syntax.Function)) → length (numbered infos n xs) ≡ length xs
  numbered_long n [] = refl
  numbered_long n (x ∷ xs) = ap suc (numbered_long (n + 1) xs)

  -- functions that were added, and those that follow
  pub added_on : (old new : List Function) (xs ys : List (Names × syntax.Function)) → trees new ≡ trees old ++ numbered infos (length old) xs
      → trees new ++ numbered infos (length new) ys ≡ trees old ++ numbered infos (length old) (xs ++ ys)
  added_on old new xs ys e =
      let long : length new ≡ length old + length xs =
      sym (length-map new (tree_in p)) ∙ ap length e ∙ length-append (trees old) (numbered infos (length old) xs)
      ∙ (λ i. length-map old (tree_in p) i + numbered_long (length old) xs i) in
      ap (λ us. us ++ numbered infos (length new) ys) e
      ∙ append_assoc (trees old) (numbered infos (length old) xs) (numbered infos (length new) ys)
      ∙ ap (λ k. trees old ++ (numbered infos (length old) xs ++ numbered infos k ys)) long
      ∙ ap (λ us. trees old ++ us) (sym (numbered_append (length old) xs ys))

  pub none_added : (old : List Function) → trees old ++ numbered infos (length old) [] ≡ trees old
  none_added old = append-nil (trees old)

  pub one_added : (old : List Function) (f : Function) (x : Names × syntax.Function) → tree_in p f ≡ function_with (locals_in infos (length old)) x
      → trees (old ++ f ∷ []) ≡ trees old ++ numbered infos (length old) (x ∷ [])
  one_added old f x e = map-append (tree_in p) old (f ∷ []) ∙ ap (λ t. trees old ++ t ∷ []) e

-- ---- by their numbers

at_length : {A : Type 0} (before rest : List A) (x : A) → slice_get (before ++ x ∷ rest) (length before) ≡ Some x
at_length [] rest x = refl
at_length (y ∷ before) rest x = at_length before rest x

numbered_zip : (before rest : List FunInfo) (xs : List (Names × syntax.Function)) → length xs ≤ length rest
    → numbered (before ++ rest) (length before) xs ≡ map (λ (f : FunInfo × (Names × syntax.Function)). function_by f.1.0 f.0 f.1.1) (zip rest xs)
numbered_zip before [] [] le = refl
numbered_zip before (i ∷ rest) [] le = refl
numbered_zip before [] (x ∷ xs) le = absurd (omega (arith, le))
numbered_zip before (i ∷ rest) (x ∷ xs) le =
    let e : before ++ i ∷ rest ≡ (before ++ i ∷ []) ++ rest = sym (append_assoc before (i ∷ []) rest) in
    let n : length before + 1 ≡ length (before ++ i ∷ []) = sym (length-append before (i ∷ [])) in
    (λ j. function_with (locals_of (at_length before rest i j)) x ∷ numbered (e j) (n j) xs)
    ∙ ap (λ us. function_by x.0 i x.1 ∷ us) (numbered_zip (before ++ i ∷ []) rest xs (omega (arith, le)))

-- ---- those of members

abbrev class_functions : ClassDef → List syntax.Function
class_functions = fold-ClassDef (List syntax.Function) (List syntax.Function) functions_step (λ c. flat_map (λ fs. fs) c.members)

functions_are : (m : Member) → functions_of m ≡ functions_step (map-Member Member ClassDef (List syntax.Function) (List syntax.Function) functions_of class_functions (out-Member m))
functions_are m = fold_out-Member (List syntax.Function) (List syntax.Function) functions_step (λ c. flat_map (λ fs. fs) c.members) m

flattened : (ms : List Member) → flat_map (λ (fs : List syntax.Function). fs) (map functions_of ms) ≡ flat_map functions_of ms
flattened [] = refl
flattened (m ∷ ms) = ap (λ us. functions_of m ++ us) (flattened ms)

class_is : (c : ClassDef) → class_functions c ≡ flat_map functions_of c.members
class_is c = fold_out-ClassDef (List syntax.Function) (List syntax.Function) functions_step (λ d. flat_map (λ fs. fs) d.members) c ∙ flattened c.members

module _ (names : Names) where
  abbrev with_names : List syntax.Function → List (Names × syntax.Function)
  with_names fs = map (λ f. (names, f)) fs

  method_layer : (x : Member-F Member ClassDef) → is_no_class x ≡ true → method_in names x ≡ with_names (functions_step (map-Member Member ClassDef (List syntax.Function) (List syntax.Function) functions_of class_functions x))
  method_layer (Member-F.Import n path) h = refl
  method_layer (Member-F.From n path of) h = refl
  method_layer (Member-F.Const n name v) h = refl
  method_layer (Member-F.Def f) h = refl
  method_layer (Member-F.Class c) h = absurd cc

  method_is : (m : Member) → is_no_class (out-Member m) ≡ true → method_pairs names m ≡ with_names (functions_of m)
  method_is m h = method_layer (out-Member m) h ∙ ap with_names (sym (functions_are m))

  methods_are : (ms : List Member) → list_all (λ m. is_no_class (out-Member m)) ms ≡ true → flat_map (method_pairs names) ms ≡ with_names (flat_map functions_of ms)
  methods_are [] h = refl
  methods_are (m ∷ ms) h =
      let k = and_parts (is_no_class (out-Member m)) (list_all (λ a. is_no_class (out-Member a)) ms) h in
      (λ i. method_is m k.0 i ++ methods_are ms k.1 i) ∙ sym (map-append (λ f. (names, f)) (functions_of m) (flat_map functions_of ms))

  member_layer : (x : Member-F Member ClassDef) → is_flat x ≡ true → member_in names x ≡ with_names (functions_step (map-Member Member ClassDef (List syntax.Function) (List syntax.Function) functions_of class_functions x))
  member_layer (Member-F.Import n path) h = refl
  member_layer (Member-F.From n path of) h = refl
  member_layer (Member-F.Const n name v) h = refl
  member_layer (Member-F.Def f) h = refl
  member_layer (Member-F.Class c) h = methods_are c.members h ∙ ap with_names (sym (class_is c))

  members_are : (ms : List Member) → list_all (λ a. is_flat (out-Member a)) ms ≡ true → flat_map (member_pairs names) ms ≡ with_names (flat_map functions_of ms)
  members_are [] h = refl
  members_are (m ∷ ms) h =
      let k = and_parts (is_flat (out-Member m)) (list_all (λ a. is_flat (out-Member a)) ms) h in
      (λ i. (member_layer (out-Member m) k.0 ∙ ap with_names (sym (functions_are m))) i ++ members_are ms k.1 i)
      ∙ sym (map-append (λ f. (names, f)) (functions_of m) (flat_map functions_of ms))

modules_are : (p : Program) (first : ℕ) (modules : List Module) → HasNoInnerClasses modules → module_pairs p first modules ≡ functions_from p (further_of p) first modules
modules_are p first [] h = refl
modules_are p first (m ∷ modules) h =
    let k = and_parts (list_all (λ a. is_flat (out-Member a)) m.members) (list_all (λ n. list_all (λ a. is_flat (out-Member a)) n.members) modules) h in
    λ i. members_are (names_at p (further_of p) first) m.members k.0 i ++ modules_are p (first + m.nodes) modules k.1 i

-- ---- how many they are

module _ (names : Names) where
  methods_count : (ms : List Member) → length (flat_map (method_pairs names) ms) ≡ sum_by method_count ms
  methods_count [] = refl
  methods_count (m ∷ ms) =
      length-append (method_pairs names m) (flat_map (method_pairs names) ms)
      ∙ (λ i. one (out-Member m) i + methods_count ms i)
      ∙ sym (sum_by-cons method_count m ms)
    where
      one : (x : Member-F Member ClassDef) → length (method_in names x) ≡ count.method_in x
      one (Member-F.Import n path) = refl
      one (Member-F.From n path of) = refl
      one (Member-F.Const n name v) = refl
      one (Member-F.Def f) = refl
      one (Member-F.Class c) = refl

  member_count_is : (x : Member-F Member ClassDef) → length (member_in names x) ≡ count.functions_in x
  member_count_is (Member-F.Import n path) = refl
  member_count_is (Member-F.From n path of) = refl
  member_count_is (Member-F.Const n name v) = refl
  member_count_is (Member-F.Def f) = refl
  member_count_is (Member-F.Class c) = methods_count c.members

  members_count : (ms : List Member) → length (flat_map (member_pairs names) ms) ≡ sum_by member_count ms
  members_count [] = refl
  members_count (m ∷ ms) =
      length-append (member_pairs names m) (flat_map (member_pairs names) ms)
      ∙ (λ i. member_count_is (out-Member m) i + members_count ms i)
      ∙ sym (sum_by-cons member_count m ms)

pub modules_count : (p : Program) (first : ℕ) (modules : List Module) → length (module_pairs p first modules) ≡ function_count modules
modules_count p first [] = refl
modules_count p first (m ∷ modules) =
    length-append (flat_map (member_pairs (names_at p (further_of p) first)) m.members) (module_pairs p (first + m.nodes) modules)
    ∙ (λ i. members_count (names_at p (further_of p) first) m.members i + modules_count p (first + m.nodes) modules i)
    ∙ sym (sum_by-cons (λ (n : Module). sum_by member_count n.members) m modules)

-- ---- classes

names_layer : (file : List ℕ) (x : Member-F Member ClassDef) → class_in file x ≡ map (λ class. under file class) (names_step (map-Member Member ClassDef (List (List ℕ)) (List (List ℕ)) class_names_of (fold-ClassDef (List (List ℕ)) (List (List ℕ)) names_step (λ c. c.name ∷ [])) x))
names_layer file (Member-F.Import n path) = refl
names_layer file (Member-F.From n path of) = refl
names_layer file (Member-F.Const n name v) = refl
names_layer file (Member-F.Def f) = refl
names_layer file (Member-F.Class c) = ap (map (λ class. under file class)) (sym (fold_out-ClassDef (List (List ℕ)) (List (List ℕ)) names_step (λ d. d.name ∷ []) c))

class_names_are : (file : List ℕ) (ms : List Member) → flat_map (member_class file) ms ≡ map (λ class. under file class) (flat_map class_names_of ms)
class_names_are file [] = refl
class_names_are file (m ∷ ms) =
    (λ i. (names_layer file (out-Member m) ∙ ap (map (λ class. under file class)) (sym (fold_out-Member (List (List ℕ)) (List (List ℕ)) names_step (λ c. c.name ∷ []) m))) i ++ class_names_are file ms i)
    ∙ sym (map-append (λ class. under file class) (class_names_of m) (flat_map class_names_of ms))

labels_from : (p : Program) (names : List (List ℕ)) (modules : List Module) → of_modules member_class names modules ≡ class_names_from p (further_of p) names modules
labels_from p [] modules = refl
labels_from p (name ∷ names) [] = refl
labels_from p (name ∷ names) (m ∷ modules) = λ i. class_names_are name m.members i ++ labels_from p names modules i

module _ (p : Program) where
  past : (labels : List (List ℕ)) (n : ℕ) → length labels ≤ n → slice_get labels n ≡ None
  past [] n le = refl
  past (l ∷ labels) zero le = absurd (omega (arith, le))
  past (l ∷ labels) (suc n) le = past labels n (omega (arith, le))

  none_named : (labels : List (List ℕ)) (n : ℕ) (infos : List ClassInfo) → length labels ≤ n → named_from p labels n infos ≡ []
  none_named labels n [] le = refl
  none_named labels n (i ∷ infos) le =
      (λ j. class_with p (past labels n le j) i ++ named_from p labels (n + 1) infos) ∙ none_named labels (n + 1) infos (omega (arith, le))

  named_zip : (before rest : List (List ℕ)) (infos : List ClassInfo)
      → named_from p (before ++ rest) (length before) infos ≡ map (λ (c : List ℕ × ClassInfo). meaning.class_by p (further_of p) c.0 c.1) (zip rest infos)
  named_zip before [] [] = refl
  named_zip before (l ∷ rest) [] = refl
  named_zip before [] (i ∷ infos) = none_named (before ++ []) (length before) (i ∷ infos) (let e : length (before ++ []) ≡ length before = ap length (append-nil before) in omega (arith, e))
  named_zip before (l ∷ rest) (i ∷ infos) =
      let e : before ++ l ∷ rest ≡ (before ++ l ∷ []) ++ rest = sym (append_assoc before (l ∷ []) rest) in
      let n : length before + 1 ≡ length (before ++ l ∷ []) = sym (length-append before (l ∷ [])) in
      (λ j. class_with p (at_length before rest l j) i ++ named_from p (e j) (n j) infos)
      ∙ ap (λ us. meaning.class_by p (further_of p) l i ∷ us) (named_zip (before ++ l ∷ []) rest infos)

-- ---- sites

site_same : (p : Program) (s : Site) → object_at p.sites s ≡ meaning.object_at p (further_of p) s
site_same p s = by s.prebuilt s.dict
  where
    by : (o : Option (List (Const × Const))) (dict : Bool) → option_map (contents (value_in p.sites) dict) o ≡ meaning.items_of_site p (further_of p) dict o (value_in p.sites)
    by None true = refl
    by None false = refl
    by (Some pairs) true = refl
    by (Some pairs) false = refl

sites_same : (p : Program) (sites : List Site) → map (object_at p.sites) sites ≡ map (meaning.object_at p (further_of p)) sites
sites_same p [] = refl
sites_same p (s ∷ sites) = λ i. site_same p s i ∷ sites_same p sites i

-- ---- whole programs

functions_meant : (p : Program) → HasNoInnerClasses p.modules → function_count p.modules ≤ length p.functions
    → numbered p.functions 0 (module_pairs p 0 p.modules) ≡ (meant_by p).functions
functions_meant p h le =
    numbered_zip [] p.functions (module_pairs p 0 p.modules) (let e : length (module_pairs p 0 p.modules) ≡ function_count p.modules = modules_count p 0 p.modules in omega (arith, e, le))
    ∙ ap (λ xs. map (λ (f : FunInfo × (Names × syntax.Function)). function_by f.1.0 f.0 f.1.1) (zip p.functions xs)) (modules_are p 0 p.modules h)

classes_meant : (p : Program) → named_from p (class_labels p) 0 p.classes ≡ (meant_by p).classes
classes_meant p =
    named_zip p [] (class_labels p) p.classes
    ∙ ap (λ names. map (λ (c : List ℕ × ClassInfo). meaning.class_by p (further_of p) c.0 c.1) (zip (builtin_names ++ names) p.classes)) (labels_from p p.names p.modules)

uncopied_all : (sites : List Site) (fs : List Function) → map uncopied_function (map (function_of sites) fs) ≡ map (λ f. uncopied_function (function_of sites f)) fs
uncopied_all sites [] = refl
uncopied_all sites (f ∷ fs) = ap (λ us. uncopied_function (function_of sites f) ∷ us) (uncopied_all sites fs)

program_there : (r : Resolved) → uncopied (program_of r) ≡ record { functions = map uncopied_function (map (function_of r.sites) r.functions); classes = map (class_of r.sites) r.classes; sites = map (object_at r.sites) r.sites; entry = r.entry }
unfolding program_of
program_there r = refl

pub resolved_same : (p : Program) (r : Resolved) → map (tree_in p) r.functions ≡ numbered p.functions 0 (module_pairs p 0 p.modules)
    → map (class_of p.sites) r.classes ≡ named_from p (class_labels p) 0 p.classes → r.sites ≡ p.sites → r.entry ≡ p.entry
    → HasNoInnerClasses p.modules → function_count p.modules ≤ length p.functions → uncopied (program_of r) ≡ meant_by p
resolved_same p r f c s e h le =
    program_there r
    ∙ (λ i. record {
      functions = (ap (λ sites. map uncopied_function (map (function_of sites) r.functions)) s ∙ uncopied_all p.sites r.functions ∙ f ∙ functions_meant p h le) i;
      classes = (ap (λ sites. map (class_of sites) r.classes) s ∙ c ∙ classes_meant p) i;
      sites = (ap (λ sites. map (object_at sites) sites) s ∙ sites_same p p.sites) i;
      entry = e i;
    })
