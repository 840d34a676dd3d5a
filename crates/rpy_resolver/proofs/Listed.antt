-- What the defaults, functions and classes that are made mean.
use Rattle.std.proofs.Common.{◌≡◌, ℕ, zero, suc, ◌+◌, ◌<◌, ◌^◌, List, [], ◌∷◌, ◌++◌, map, length, take, get_or, Option, Some, None, refl, sym, ap, ◌∙◌, arith}
use Rattle.std.proofs.lemmas.List.{map-append, append-nil}
use Rattle.std.specs.Prelude.{option_map, sum_by}
use Rattle.std.proofs.lemmas.List.Sums.{sum_by-cons}
use Rattle.rpy_tree.specs.declared.syntax.Member.{Member}
use Rattle.rpy_tree.specs.declared.syntax.Module.{Module}
use Rattle.rpy_resolved.specs.Count.{member_count, method_count, function_count}
use Rattle.rpy_tree.specs.declared.program.ClassInfo.{ClassInfo}
use Rattle.rpy_tree.specs.declared.program.Const.{Const}
use Rattle.rpy_tree.specs.declared.program.Program.{Program}
use Rattle.rpy_tree.specs.declared.syntax.Expr as syntax
use Rattle.rpy_meaning.specs.Resolved as meaning
use Rattle.rpy_meaning.specs.Resolved.{class_by, joined, stmt_by}
use Rattle.rpy_meaning.specs.Tree as tree
use Rattle.rpy_resolved.specs.declared.tree.Class.{Class}
use Rattle.resolved_meaning.specs.Programs.{value_in, class_of, constants_in}
use Rattle.resolved_laws.specs.Meant.{further_of}
use Rattle.resolver_names.specs.declared.names.Names as code
use Rattle.resolver_names.specs.Told.{IsTold, Knows, the_names}
use Rattle.resolver_names.specs.Forms.{default_in}
use Rattle.resolver_laws.specs.Listing.{class_with}
use Rattle.resolver_laws.proofs.Listed.{default_same}

pub default_made : (names : code.Names) (d : Option syntax.Expr) (e : syntax.Expr) (c : Const) → d ≡ Some e → c ≡ default_in ((the_names names).meant (meaning.node_of e))
    → option_map (value_in names.program.now.sites) (Some c) ≡ meaning.default_of (the_names names) d
default_made names d e c is h = ap Some (default_same names (meaning.node_of e) c h) ∙ ap (meaning.default_of (the_names names)) (sym is)

pub class_made : (p : Program) (label : Option (List ℕ)) (name : List ℕ) (info : ClassInfo) (c : Class) (old new : List Class)
    → label ≡ Some name → c.name ≡ name → c.base ≡ info.base → c.constants ≡ info.constants → c.methods ≡ info.methods → new ≡ old ++ c ∷ []
    → map (class_of p.sites) new ≡ map (class_of p.sites) old ++ class_with p label info
class_made p label name info c old new l n b cs ms is =
    let one : class_of p.sites c ≡ class_by p (further_of p) name info = λ i. record { name = n i; base = b i; constants = constants_in p.sites (cs i); methods = ms i } in
    ap (map (class_of p.sites)) is
    ∙ map-append (class_of p.sites) old (c ∷ [])
    ∙ ap (λ (x : tree.Class). map (class_of p.sites) old ++ x ∷ []) one
    ∙ ap (λ x. map (class_of p.sites) old ++ class_with p x info) (sym l)

pub no_class : (p : Program) (label : Option (List ℕ)) (info : ClassInfo) (old : List Class) → label ≡ None → map (class_of p.sites) old ≡ map (class_of p.sites) old ++ class_with p label info
no_class p label info old l = sym (append-nil (map (class_of p.sites) old)) ∙ ap (λ x. map (class_of p.sites) old ++ class_with p x info) (sym l)

-- ---- loops

taken : {A : Type 0} (f : A → ℕ) (xs : List A) (i : ℕ) (x : A) → i < length xs → x ≡ get_or xs i x → sum_by f (take (i + 1) xs) ≡ sum_by f (take i xs) + f x
taken {A = A} f [] i x lt e = absurd (omega (arith, lt))
taken {A = A} f (y ∷ xs) zero x lt e =
    let a : sum_by f (take 1 (y ∷ xs)) ≡ f y + sum_by f [] = sum_by-cons f y [] in
    let b : sum_by f [] ≡ 0 = refl in
    let c : f y ≡ f x = ap f (sym e) in
    omega (arith, a, b, c)
taken {A = A} f (y ∷ xs) (suc i) x lt e =
    let next : suc i + 1 ≡ suc (i + 1) = omega arith in
    let a : sum_by f (take (suc i + 1) (y ∷ xs)) ≡ f y + sum_by f (take (i + 1) xs) = ap (λ k. sum_by f (take k (y ∷ xs))) next ∙ sum_by-cons f y (take (i + 1) xs) in
    let b : sum_by f (take (suc i) (y ∷ xs)) ≡ f y + sum_by f (take i xs) = sum_by-cons f y (take i xs) in
    let c = taken f xs i x (omega (arith, lt)) e in
    omega (arith, a, b, c)

pub counted : (members : List Member) (i : ℕ) (m : Member) (first old new : ℕ) → i < length members → m ≡ get_or members i m
    → old ≡ first + sum_by member_count (take i members) → new ≡ old + member_count m → new ≡ first + sum_by member_count (take (i + 1) members)
counted members i m first old new lt e h n = let t = taken member_count members i m lt e in omega (arith, t, h, n)

pub methods_counted : (members : List Member) (i : ℕ) (m : Member) (first old new : ℕ) → i < length members → m ≡ get_or members i m
    → old ≡ first + sum_by method_count (take i members) → new ≡ old + method_count m → new ≡ first + sum_by method_count (take (i + 1) members)
methods_counted members i m first old new lt e h n = let t = taken method_count members i m lt e in omega (arith, t, h, n)

abbrev module_count : Module → ℕ
module_count m = sum_by member_count m.members

pub modules_counted : (modules : List Module) (i : ℕ) (m : Module) (old new : ℕ) (members : List Member) → i < length modules → m ≡ get_or modules i m → members ≡ m.members
    → old ≡ function_count (take i modules) → new ≡ old + sum_by member_count members → new ≡ function_count (take (i + 1) modules)
modules_counted modules i m old new members lt e s h n =
    let t : sum_by module_count (take (i + 1) modules) ≡ sum_by module_count (take i modules) + module_count m = taken module_count modules i m lt e in
    let k : sum_by member_count members ≡ module_count m = ap (sum_by member_count) s in
    let o : old ≡ sum_by module_count (take i modules) = h in
    let w : new ≡ sum_by module_count (take (i + 1) modules) = omega (arith, t, k, o, n) in
    w

pub knows : (names : code.Names) → IsTold names.program.now names.index.now → names.before < 2 ^ 63 → Knows names
unfolding Knows
knows names told few = (told, few)
