-- All names that members say stand in the table of the program.
use Rattle.std.proofs.Common.{◌≡◌, ℕ, ◌+◌, List, [], ◌∷◌, ◌++◌, Option, Some, None, Bool, true, false, map, sym, ap, refl, cond, subst}
use Rattle.std.specs.List.{AllByRecursion, list_any}
use Rattle.std.specs.Str.{bytes_eq}
use Rattle.rpy_tree.specs.declared.syntax.Param.{Param}
use Rattle.rpy_tree.specs.declared.syntax.Expr.{Expr}
use Rattle.rpy_tree.specs.declared.syntax.Member.{Member, out-Member}
use Rattle.rpy_tree.specs.declared.syntax.Member.TheOpen.{Member-F}
use Rattle.rpy_tree.specs.declared.syntax.ClassDef.{ClassDef}
use Rattle.rpy_nodes.specs.Listing.{known}
use Rattle.rpy_nodes.specs.Names.{with_name}
use Rattle.rpy_nodes.specs.declared.listing.Named.{Named}
use Rattle.names_rules.specs.Order.{Items, Str, Name, Attr, Bind, BindAttr, Caught, CaughtOf, Catch, block}
use Rattle.names_rules.specs.Numbering.{said}
use Rattle.names_rules.specs.Events.{Names, see}
use Rattle.names_rules.specs.Members.{Formal, What, Def, Placed, placed, what, default_at, default_items, formal_nodes, formals, formals_said, value_said, params_said, what_said, member_nodes, member_said, body_in, inside_of, inside_said, inside_nodes, members_of, module_said, module_nodes, modules_from, modules_said, members}
use Rattle.names_rules.specs.Listed.{module_names, names_of}
use Rattle.names_rules.specs.Locals.{Has, bound, IsKnown, HasLocals, AreLocals}
use Rattle.names_rules.proofs.Listed.{see_rest, see_first}
use Rattle.names_rules.proofs.Locals.{all_first, all_rest, locals_are}
use Rattle.names_rules.proofs.Names.{same_name, has_last, has_more}

pub all_both : {A : Type 0} (P : A → Type 0) (xs ys : List A) → AllByRecursion P xs → AllByRecursion P ys → AllByRecursion P (xs ++ ys)
all_both P [] ys h k = k
all_both P (x ∷ xs) ys h k = (h.0, all_both P xs ys h.1 k)

-- ---- names that are seen stay

stays_by : (b : Bool) (names : Names) (x y : List ℕ) → Has names x → Has (cond b names (names ++ y ∷ [])) x
stays_by true names x y has = has
stays_by false names x y has = has_more (bytes_eq x) names (y ∷ []) has

pub stays_seen : (later names : Names) (x : List ℕ) → Has names x → Has (see later names) x
stays_seen [] names x has = has
stays_seen (y ∷ later) names x has = stays_seen later (with_name names y) x (stays_by (list_any (bytes_eq y) names) names x y has)

here_by : (b : Bool) (names : Names) (x : List ℕ) → list_any (bytes_eq x) names ≡ b → Has (cond b names (names ++ x ∷ [])) x
here_by true names x e = e
here_by false names x e = has_last (bytes_eq x) names x (same_name x)

pub all_seen : (xs later names : Names) → AllByRecursion (Has (see later (see xs names))) xs
all_seen [] later names = tt
all_seen (x ∷ xs) later names = (stays_seen later (see xs (with_name names x)) x (stays_seen xs (with_name names x) x (here_by (list_any (bytes_eq x) names) names x refl)), all_seen xs later (with_name names x))

-- ---- members

default_same : (d : Option Expr) (n : ℕ) → value_said (default_at n d) ≡ said (default_items d)
default_same None n = refl
default_same (Some e) n = refl

params_same : (ps : List Param) (n : ℕ) → params_said (formals n ps) ≡ formals_said ps
params_same [] n = refl
params_same (p ∷ ps) n = λ j. (p.name ∷ default_same p.default (n + 1) j) ++ params_same ps (n + formal_nodes p) j

what_same : (m : Member-F Member ClassDef) (n : ℕ) → what_said (what n m) ≡ member_said m
what_same (Member-F.Import k names) n = refl
what_same (Member-F.From k path names) n = refl
what_same (Member-F.Const k name e) n = refl
what_same (Member-F.Def f) n = ap (λ ps. f.name ∷ (ps ++ said (block f.body))) (params_same f.params (n + 1))
what_same (Member-F.Class c) n = refl

one_known : (file place : ℕ) (inside : Bool) (n : ℕ) (m : Member-F Member ClassDef) (later names : Names) → IsKnown (see later (see (member_said m) names)) (placed file place inside n m)
one_known file place inside n m later names = subst (λ (xs : Names). AllByRecursion (Has (see later (see (member_said m) names))) xs) (sym (what_same m n)) (all_seen (member_said m) later names)

first_known : (ps : List Placed) (xs ys later names : Names) → AllByRecursion (IsKnown (see (ys ++ later) (see xs names))) ps → AllByRecursion (IsKnown (see later (see (xs ++ ys) names))) ps
first_known ps xs ys later names h = subst (λ (t : Names). AllByRecursion (IsKnown t) ps) (see_first xs ys later names) h

rest_known : (ps : List Placed) (xs ys later names : Names) → AllByRecursion (IsKnown (see later (see ys (see xs names)))) ps → AllByRecursion (IsKnown (see later (see (xs ++ ys) names))) ps
rest_known ps xs ys later names h = subst (λ (t : Names). AllByRecursion (IsKnown t) ps) (see_rest xs ys later names) h

inside_known : (ms : List Member) (file place n : ℕ) (later names : Names) → AllByRecursion (IsKnown (see later (see (inside_said ms) names))) (inside_of file place n ms)
inside_known [] file place n later names = tt
inside_known (m ∷ ms) file place n later names = (
  (first_known (placed file place true n (out-Member m) ∷ []) (member_said (out-Member m)) (inside_said ms) later names (one_known file place true n (out-Member m) (inside_said ms ++ later) names, tt)).0,
  rest_known (inside_of file place (n + member_nodes (out-Member m)) ms) (member_said (out-Member m)) (inside_said ms) later names (inside_known ms file place (n + member_nodes (out-Member m)) later (see (member_said (out-Member m)) names)),
)

whole_known : (m : Member) (file place n : ℕ) (later names : Names) → AllByRecursion (IsKnown (see later (see (member_said (out-Member m) ++ inside_said (body_in (out-Member m))) names))) (placed file place false n (out-Member m) ∷ inside_of file place (n + member_nodes (out-Member m)) (body_in (out-Member m)))
whole_known m file place n later names = (
  (first_known (placed file place false n (out-Member m) ∷ []) (member_said (out-Member m)) (inside_said (body_in (out-Member m))) later names (one_known file place false n (out-Member m) (inside_said (body_in (out-Member m)) ++ later) names, tt)).0,
  rest_known (inside_of file place (n + member_nodes (out-Member m)) (body_in (out-Member m))) (member_said (out-Member m)) (inside_said (body_in (out-Member m))) later names (inside_known (body_in (out-Member m)) file place (n + member_nodes (out-Member m)) later (see (member_said (out-Member m)) names)),
)

module_known : (ms : List Member) (file place n : ℕ) (later names : Names) → AllByRecursion (IsKnown (see later (see (module_said ms) names))) (members_of file place n ms)
module_known [] file place n later names = tt
module_known (m ∷ ms) file place n later names =
    let say : Names = member_said (out-Member m) ++ inside_said (body_in (out-Member m)) in
    let count : ℕ = member_nodes (out-Member m) + inside_nodes (body_in (out-Member m)) in
    let one : List Placed = placed file place false n (out-Member m) ∷ inside_of file place (n + member_nodes (out-Member m)) (body_in (out-Member m)) in
    all_both (IsKnown (see later (see (say ++ module_said ms) names))) one (members_of file (place + 1) (n + count) ms)
    (first_known one say (module_said ms) later names (whole_known m file place n (module_said ms ++ later) names))
    (rest_known (members_of file (place + 1) (n + count) ms) say (module_said ms) later names (module_known ms file (place + 1) (n + count) later (see say names)))

modules_known : (ms : List Named) (file n : ℕ) (later names : Names) → AllByRecursion (IsKnown (see later (see (modules_said ms) names))) (modules_from file n ms)
modules_known [] file n later names = tt
modules_known (m ∷ ms) file n later names =
    all_both (IsKnown (see later (see (module_said m.module.members ++ modules_said ms) names))) (members_of file 0 n m.module.members) (modules_from (file + 1) (n + module_nodes m.module.members) ms)
    (first_known (members_of file 0 n m.module.members) (module_said m.module.members) (modules_said ms) later names (module_known m.module.members file 0 n (modules_said ms ++ later) names))
    (rest_known (modules_from (file + 1) (n + module_nodes m.module.members) ms) (module_said m.module.members) (modules_said ms) later names (modules_known ms (file + 1) (n + module_nodes m.module.members) later (see (module_said m.module.members) names)))

pub members_known : (ms : List Named) → AllByRecursion (IsKnown (names_of ms)) (members ms)
members_known ms = modules_known ms 0 0 [] (see (module_names ms) known)

-- ---- locals

items_bound : (names : Names) (is : Items) → AllByRecursion (Has names) (said is) → AllByRecursion (Has names) (bound is)
items_bound names [] h = tt
items_bound names (Str text ∷ is) h = items_bound names is h.1
items_bound names (Name name ∷ is) h = items_bound names is h.1
items_bound names (Attr name ∷ is) h = items_bound names is h.1
items_bound names (Bind name ∷ is) h = (h.0, items_bound names is h.1)
items_bound names (BindAttr name ∷ is) h = items_bound names is h.1
items_bound names (Caught name ∷ is) h = items_bound names is h.1
items_bound names (CaughtOf name ∷ is) h = items_bound names is h.1
items_bound names (Catch name ∷ is) h = (h.0, items_bound names is h.1)
items_bound names (i ∷ is) h = items_bound names is h

params_bound : (names : Names) (ps : List Formal) → AllByRecursion (Has names) (params_said ps) → AllByRecursion (Has names) (map (λ p. p.name) ps)
params_bound names [] h = tt
params_bound names (p ∷ ps) h = (h.0, params_bound names ps (all_rest (Has names) (value_said p.default) (params_said ps) h.1))

what_locals : (names : Names) (w : What) → AllByRecursion (Has names) (what_said w) → AreLocals names w
what_locals names (Def name params star body) h =
    locals_are names params body (all_both (Has names) (map (λ p. p.name) params) (bound (block body.of))
    (params_bound names params (all_first (Has names) (params_said params) (said (block body.of)) h.1))
    (items_bound names (block body.of) (all_rest (Has names) (params_said params) (said (block body.of)) h.1)))
what_locals names other h = tt

all_locals : (names : Names) (ps : List Placed) → AllByRecursion (IsKnown names) ps → AllByRecursion (HasLocals names) ps
all_locals names [] h = tt
all_locals names (p ∷ ps) h = (what_locals names p.what h.0, all_locals names ps h.1)

pub members_locals : (ms : List Named) → AllByRecursion (HasLocals (names_of ms)) (members ms)
members_locals ms = all_locals (names_of ms) (members ms) (members_known ms)
