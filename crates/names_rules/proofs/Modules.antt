-- The code lists the members of all modules.
use Rattle.std.proofs.Common.{◌≡◌, ℕ, ◌+◌, List, [], ◌∷◌, ◌++◌, map, append_assoc, append-nil, sym, ap, ◌∙◌, refl, arith}
use Rattle.std.specs.Prelude.{Bool, true, false}
use Rattle.rpy_tree.specs.declared.syntax.Member.{Member, out-Member}
use Rattle.rpy_tree.specs.declared.syntax.Member.TheOpen.{Member-F}
use Rattle.rpy_tree.specs.declared.syntax.ClassDef.{ClassDef}
use Rattle.rpy_nodes.specs.Listing as code
use Rattle.rpy_nodes.specs.declared.listing.Named.{Named}
use Rattle.rpy_nodes.specs.declared.unit.Unit.{Unit as Listed}
use Rattle.names_rules.specs.Events.{Names, see}
use Rattle.names_rules.specs.Members.{Placed, placed, member_nodes, member_said, body_in, inside_of, inside_nodes, inside_said, members_of, module_nodes, module_said, modules_from, modules_nodes, modules_said, members}
use Rattle.names_rules.specs.Listed.{standing, listed, module_names, names_of, whole, numbers}
use Rattle.names_rules.proofs.Names.{see_append}
use Rattle.names_rules.proofs.Listed.{said_is, numbers_is, see_rest, see_first, sum_three, no_more}

-- the units so far, and the walk between members
abbrev At : List Listed → Names → ℕ → code.Units
At units names n = (units, standing names n)

map_append : {A B : Type 0} (f : A → B) (xs ys : List A) → map f xs ++ map f ys ≡ map f (xs ++ ys)
map_append f [] ys = refl
map_append f (x ∷ xs) ys = ap (λ zs. f x ∷ zs) (map_append f xs ys)

-- one member, then others: tables, counts and lists come together
abbrev After : (later : Names) (names : Names) (n : ℕ) → List Listed → List Placed → Names → ℕ → code.Units → Type 0
After later names n units new say count end = end ≡ At (units ++ map (listed (see later (see say names))) new) (see say names) (n + count)

then : (later names : Names) (n : ℕ) (units : List Listed) (new : List Placed) (say : Names) (count : ℕ) (more : List Placed) (next_say : Names) (next_count : ℕ)
    → At ((units ++ map (listed (see (next_say ++ later) (see say names))) new) ++ map (listed (see later (see next_say (see say names)))) more) (see next_say (see say names)) ((n + count) + next_count)
    ≡ At (units ++ map (listed (see later (see (say ++ next_say) names))) (new ++ more)) (see (say ++ next_say) names) (n + (count + next_count))
then later names n units new say count more next_say next_count =
    (λ j. At ((units ++ map (listed (see_first say next_say later names j)) new) ++ map (listed (see_rest say next_say later names j)) more) (sym (see_append say next_say names) j) (sum_three n count next_count j))
    ∙ (λ j. At (append_assoc units (map (listed (see later (see (say ++ next_say) names))) new) (map (listed (see later (see (say ++ next_say) names))) more) j) (see (say ++ next_say) names) (n + (count + next_count)))
    ∙ (λ j. At (units ++ map_append (listed (see later (see (say ++ next_say) names))) new more j) (see (say ++ next_say) names) (n + (count + next_count)))

one_is : (file place : ℕ) (inside : Bool) (m : Member) (units : List Listed) (later names : Names) (n : ℕ)
    → After later names n units (placed file place inside n (out-Member m) ∷ []) (member_said (out-Member m)) (member_nodes (out-Member m)) (code.list_said file place inside units (code.member m (standing names n)))
one_is file place inside m units later names n = ap (code.list_said file place inside units) (said_is (out-Member m) later names n)

nothing_is : (later names : Names) (n : ℕ) (units : List Listed) → After later names n units [] [] 0 (At units names n)
nothing_is later names n units = λ j. At (sym (append-nil units) j) names (no_more n j)

inside_is : (ms : List Member) (file place : ℕ) (units : List Listed) (later names : Names) (n : ℕ)
    → After later names n units (inside_of file place n ms) (inside_said ms) (inside_nodes ms) (code.list_inside file place ms (At units names n))
inside_is [] file place units later names n = nothing_is later names n units
inside_is (m ∷ ms) file place units later names n =
    ap (code.list_inside file place ms) (one_is file place true m units (inside_said ms ++ later) names n)
    ∙ inside_is ms file place _ later (see (member_said (out-Member m)) names) (n + member_nodes (out-Member m))
    ∙ then later names n units (placed file place true n (out-Member m) ∷ []) (member_said (out-Member m)) (member_nodes (out-Member m)) (inside_of file place (n + member_nodes (out-Member m)) ms) (inside_said ms) (inside_nodes ms)

same_body : (m : Member-F Member ClassDef) → code.inside_of m ≡ body_in m
same_body (Member-F.Import k names) = refl
same_body (Member-F.From k path names) = refl
same_body (Member-F.Const k name e) = refl
same_body (Member-F.Def f) = refl
same_body (Member-F.Class c) = refl

whole_is : (m : Member) (file place : ℕ) (units : List Listed) (later names : Names) (n : ℕ)
    → After later names n units (placed file place false n (out-Member m) ∷ inside_of file place (n + member_nodes (out-Member m)) (body_in (out-Member m))) (member_said (out-Member m) ++ inside_said (body_in (out-Member m))) (member_nodes (out-Member m) + inside_nodes (body_in (out-Member m))) (code.list_whole file place m (At units names n))
whole_is m file place units later names n =
    ap (λ body. code.list_inside file place body (code.list_said file place false units (code.member m (standing names n)))) (same_body (out-Member m))
    ∙ ap (code.list_inside file place (body_in (out-Member m))) (one_is file place false m units (inside_said (body_in (out-Member m)) ++ later) names n)
    ∙ inside_is (body_in (out-Member m)) file place _ later (see (member_said (out-Member m)) names) (n + member_nodes (out-Member m))
    ∙ then later names n units (placed file place false n (out-Member m) ∷ []) (member_said (out-Member m)) (member_nodes (out-Member m)) (inside_of file place (n + member_nodes (out-Member m)) (body_in (out-Member m))) (inside_said (body_in (out-Member m))) (inside_nodes (body_in (out-Member m)))

members_is : (ms : List Member) (file place : ℕ) (units : List Listed) (later names : Names) (n : ℕ)
    → After later names n units (members_of file place n ms) (module_said ms) (module_nodes ms) (code.list_members file place ms (At units names n))
members_is [] file place units later names n = nothing_is later names n units
members_is (m ∷ ms) file place units later names n =
    let say : Names = member_said (out-Member m) ++ inside_said (body_in (out-Member m)) in
    let count : ℕ = member_nodes (out-Member m) + inside_nodes (body_in (out-Member m)) in
    ap (code.list_members file (place + 1) ms) (whole_is m file place units (module_said ms ++ later) names n)
    ∙ members_is ms file (place + 1) _ later (see say names) (n + count)
    ∙ then later names n units (placed file place false n (out-Member m) ∷ inside_of file place (n + member_nodes (out-Member m)) (body_in (out-Member m))) say count (members_of file (place + 1) (n + count) ms) (module_said ms) (module_nodes ms)

modules_is : (ms : List Named) (file : ℕ) (units : List Listed) (later names : Names) (n : ℕ)
    → After later names n units (modules_from file n ms) (modules_said ms) (modules_nodes ms) (code.list_modules file ms (At units names n))
modules_is [] file units later names n = nothing_is later names n units
modules_is (m ∷ ms) file units later names n =
    ap (code.list_modules (file + 1) ms) (members_is m.module.members file 0 units (modules_said ms ++ later) names n)
    ∙ modules_is ms (file + 1) _ later (see (module_said m.module.members) names) (n + module_nodes m.module.members)
    ∙ then later names n units (members_of file 0 n m.module.members) (module_said m.module.members) (module_nodes m.module.members) (modules_from (file + 1) (n + module_nodes m.module.members) ms) (modules_said ms) (modules_nodes ms)

from_zero : (n : ℕ) → 0 + n ≡ n
from_zero n = omega arith

pub listing_is : (ms : List Named) → code.listing ms ≡ whole ms
listing_is ms =
    ap (code.list_named ms) (numbers_is (module_names ms) (modules_said ms) code.known 0)
    ∙ ap (code.listing_of (numbers (names_of ms) (module_names ms))) (modules_is ms 0 [] [] (see (module_names ms) code.known) 0)
    ∙ (λ j. record { names = names_of ms; modules = numbers (names_of ms) (module_names ms); nodes = from_zero (modules_nodes ms) j; units = map (listed (names_of ms)) (members ms) })
