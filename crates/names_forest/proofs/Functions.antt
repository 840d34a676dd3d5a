-- A program has a function for each that its modules define.
use Rattle.std.proofs.Common.{◌≡◌, ℕ, ◌+◌, true, false, List, [], ◌∷◌, length, length-append, Option, Some, sym, ap, ◌∙◌, refl, arith, subst}
use Rattle.std.specs.Prelude.{sum_by}
use Rattle.std.proofs.lemmas.List.Sums.{sum_by-append, sum_by-cons}
use Rattle.rpy_tree.specs.declared.program.Program as tree
use Rattle.rpy_tree.specs.declared.syntax.ClassDef.{ClassDef}
use Rattle.rpy_tree.specs.declared.syntax.Member.{Member, out-Member}
use Rattle.rpy_tree.specs.declared.syntax.Member.TheOpen.{Member-F}
use Rattle.rpy_tree.specs.declared.syntax.Module.{Module}
use Rattle.rpy_resolved.specs.Count.{method_in, method_count, functions_in, member_count, function_count}
use Rattle.rpy_nodes.specs.declared.listing.Named.{Named}
use Rattle.names_bound.specs.Declare.{class_here}
use Rattle.names_rules.specs.Bindings.{Counts, none_before, count}
use Rattle.names_rules.specs.Laws.{modules}
use Rattle.names_rules.specs.Members.{What, Import, From, Constant, Def, Class, Placed, what, placed, member_nodes, body_in, inside_of, inside_nodes, members_of, module_nodes, modules_from, members}
use Rattle.names_whole.specs.Functions.{function, functions_from, functions}
use Rattle.names_whole.proofs.Program.{program_is}
use Rattle.rpy_names.specs.Resolve.{prog}

-- ---- functions are the definitions among all members

abbrev def_in : What → ℕ
def_in (Def name ps star b) = 1
def_in other = 0

abbrev def_at : Placed → ℕ
def_at p = def_in p.what

one_of : (class : Option ℕ) (p : Placed) (w : What) → length (function class p w) ≡ def_in w
one_of class p (Import names) = refl
one_of class p (From path names) = refl
one_of class p (Constant name v) = refl
one_of class p (Def name ps star b) = refl
one_of class p (Class name base) = refl

all_of : (c : Counts) (ps : List Placed) → length (functions_from c ps) ≡ sum_by def_at ps
all_of c [] = refl
all_of c (p ∷ ps) =
    length-append (function (class_here p.inside c.classes) p p.what) (functions_from (count p.what c) ps)
    ∙ (λ j. one_of (class_here p.inside c.classes) p p.what j + all_of (count p.what c) ps j)
    ∙ sym (sum_by-cons def_at p ps)

-- ---- and these are those that modules define

method_is : (n : ℕ) (m : Member-F Member ClassDef) → def_in (what n m) ≡ method_in m
method_is n (Member-F.Import k names) = refl
method_is n (Member-F.From k path names) = refl
method_is n (Member-F.Const k name e) = refl
method_is n (Member-F.Def f) = refl
method_is n (Member-F.Class c) = refl

inside_many : (file place n : ℕ) (ms : List Member) → sum_by def_at (inside_of file place n ms) ≡ sum_by method_count ms
inside_many file place n [] = refl
inside_many file place n (m ∷ ms) =
    sum_by-cons def_at (placed file place true n (out-Member m)) (inside_of file place (n + member_nodes (out-Member m)) ms)
    ∙ (λ j. method_is n (out-Member m) j + inside_many file place (n + member_nodes (out-Member m)) ms j)
    ∙ sym (sum_by-cons method_count m ms)

one_many : (file place n k : ℕ) (m : Member-F Member ClassDef) → def_in (what n m) + sum_by def_at (inside_of file place k (body_in m)) ≡ functions_in m
one_many file place n k (Member-F.Import l names) = refl
one_many file place n k (Member-F.From l path names) = refl
one_many file place n k (Member-F.Const l name e) = refl
one_many file place n k (Member-F.Def f) = refl
one_many file place n k (Member-F.Class c) = none_more (inside_many file place k c.members) where
  none_more : {a b : ℕ} → a ≡ b → 0 + a ≡ b
  none_more h = omega (arith, h)

members_many : (file place n : ℕ) (ms : List Member) → sum_by def_at (members_of file place n ms) ≡ sum_by member_count ms
members_many file place n [] = refl
members_many file place n (m ∷ ms) =
    let k : ℕ = n + member_nodes (out-Member m) in
    let rest : List Placed = members_of file (place + 1) (n + (member_nodes (out-Member m) + inside_nodes (body_in (out-Member m)))) ms in
    let first : Placed = placed file place false n (out-Member m) in
    let inner : List Placed = inside_of file place k (body_in (out-Member m)) in
    sum_by-append def_at (first ∷ inner) rest
    ∙ ap (λ x. x + sum_by def_at rest) (sum_by-cons def_at first inner)
    ∙ (λ j. one_many file place n k (out-Member m) j + members_many file (place + 1) (n + (member_nodes (out-Member m) + inside_nodes (body_in (out-Member m)))) ms j)
    ∙ sym (sum_by-cons member_count m ms)

modules_many : (file n : ℕ) (ms : List Named) → sum_by def_at (modules_from file n ms) ≡ function_count (modules ms)
modules_many file n [] = refl
modules_many file n (m ∷ ms) =
    sum_by-append def_at (members_of file 0 n m.module.members) (modules_from (file + 1) (n + module_nodes m.module.members) ms)
    ∙ (λ j. members_many file 0 n m.module.members j + modules_many (file + 1) (n + module_nodes m.module.members) ms j)
    ∙ sym (sum_by-cons (λ (m : Module). sum_by member_count m.members) m.module (modules ms))

all_many : (ms : List Named) → length (functions ms) ≡ function_count (modules ms)
all_many ms = all_of none_before (members ms) ∙ modules_many 0 0 ms

pub program_functions : (ms : List Named) (p : tree.Program) → prog ms ≡ Some p → length p.functions ≡ function_count p.modules
program_functions ms p h = subst (λ (q : tree.Program). length q.functions ≡ function_count q.modules) (sym (program_is ms p h)) (all_many ms)
