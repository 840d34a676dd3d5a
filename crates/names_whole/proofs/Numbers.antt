-- Numbers of programs with few nodes are kept.
use Rattle.std.proofs.Common.{◌≡◌, ℕ, ◌+◌, ◌-◌, ◌*◌, ◌^◌, ◌<◌, ◌≤◌, zero, suc, List, [], ◌∷◌, ◌++◌, length, length-append, Bool, true, false, Option, Some, None, sym, ap, ◌∙◌, refl, arith, subst, cond}
use Rattle.std.specs.Prelude.{nat_lt}
use Rattle.std.proofs.lemmas.Grind.{common_steps}
use Rattle.rpy_tree.specs.declared.program.Const.{Const}
use Rattle.rpy_tree.specs.declared.syntax.ClassDef.{ClassDef}
use Rattle.rpy_tree.specs.declared.syntax.Member.{Member, out-Member}
use Rattle.rpy_tree.specs.declared.syntax.Member.TheOpen.{Member-F}
use Rattle.rpy_tree.specs.declared.syntax.BinOp.{BinOp}
use Rattle.rpy_tree.specs.declared.syntax.BinOp.TheVariants as binary
use Rattle.rpy_tree.specs.declared.syntax.Expr.{Expr}
use Rattle.rpy_tree.specs.declared.syntax.Param.{Param}
use Rattle.rpy_nodes.specs.declared.event.Act.TheVariants as act
use Rattle.rpy_nodes.specs.declared.listing.Named.{Named}
use Rattle.names_bound.specs.Declare.{class_here}
use Rattle.names_found.specs.Finder.{add_sites, site_count, call_seen}
use Rattle.names_found.specs.Part.{operator_sites, is_dict, part_under}
use Rattle.names_found.specs.declared.part.Part.{Part}
use Rattle.names_found.specs.declared.step.Called.{Called}
use Rattle.names_found.specs.declared.step.Called.TheVariants as called
use Rattle.names_found.specs.declared.step.SiteAt.{SiteAt}
use Rattle.names_rules.specs.Bindings.{Binding, Counts, none_before, count}
use Rattle.names_rules.specs.Events.{act_of}
use Rattle.names_rules.specs.Locals.{locals}
use Rattle.names_rules.specs.Members as member
use Rattle.names_rules.specs.Members.{Body, What, Placed, members, modules_from, modules_nodes, module_nodes, members_of, member_nodes, inside_of, inside_nodes, body_in, formals, formal_nodes, formals_nodes, default_items, default_at, what}
use Rattle.names_rules.specs.Numbering.{count_one, nodes}
use Rattle.names_rules.specs.Order.{Item, Items, Call, Binary, expr, block}
use Rattle.names_rules.specs.Program.{module_bindings, body_bindings, bases}
use Rattle.names_rules.proofs.Runs.{run}
use Rattle.names_value.specs.Machine.{narrow}
use Rattle.names_constants.specs.Constants as rule
use Rattle.names_constants.specs.Faults.{constant_values, first_sites}
use Rattle.names_constants.specs.Faults as fault
use Rattle.names_constants.specs.Stands.{name_part, bound_part, attr_part}
use Rattle.names_constants.specs.Value.{Piece, Kept, from_node, at_node}
use Rattle.names_constants.specs.Visit as visit
use Rattle.names_constants.proofs.Block.{block_seen}
use Rattle.names_constants.proofs.Sight as sight
use Rattle.names_constants.proofs.Sight.{Sight, expr_seen}
use Rattle.names_whole.specs.Classes.{builtins_to, stated, classes_from, classes}
use Rattle.names_whole.specs.Functions.{function, functions_from, functions}
use Rattle.names_whole.specs.Sites.{contents, made, sites_from, sites}
use Rattle.names_value.specs.Machine.{Pairs}

is_below : (a b : ℕ) → a < b → nat_lt a b ≡ true
is_below a b h = grind (arith, common_steps)

pub kept : (n : ℕ) → n < 2 ^ 32 - 1 → narrow n ≡ n
kept n h = ap (λ b. cond b n (2 ^ 32 - 1)) (is_below n (2 ^ 32 - 1) h)

-- ---- each member has a node

a_node : (m : Member-F Member ClassDef) → 1 ≤ member_nodes m
a_node (Member-F.Import k of) = omega arith
a_node (Member-F.From k path of) = omega arith
a_node (Member-F.Const k name e) = omega arith
a_node (Member-F.Def f) = omega arith
a_node (Member-F.Class c) = omega arith

inside_few : (file place : ℕ) (ms : List Member) (n : ℕ) → length (inside_of file place n ms) ≤ inside_nodes ms
inside_few file place [] n = omega arith
inside_few file place (m ∷ ms) n = omega (arith, a_node (out-Member m), inside_few file place ms (n + member_nodes (out-Member m)))

outside_few : (file : ℕ) (ms : List Member) (place n : ℕ) → length (members_of file place n ms) ≤ module_nodes ms
outside_few file [] place n = omega arith
outside_few file (m ∷ ms) place n =
    let body : List Placed = inside_of file place (n + member_nodes (out-Member m)) (body_in (out-Member m)) in
    let rest : List Placed = members_of file (place + 1) (n + (member_nodes (out-Member m) + inside_nodes (body_in (out-Member m)))) ms in
    omega (arith, a_node (out-Member m), inside_few file place (body_in (out-Member m)) (n + member_nodes (out-Member m)), outside_few file ms (place + 1) (n + (member_nodes (out-Member m) + inside_nodes (body_in (out-Member m)))), length-append body rest)

modules_few : (ms : List Named) (file n : ℕ) → length (modules_from file n ms) ≤ modules_nodes ms
modules_few [] file n = omega arith
modules_few (m ∷ ms) file n =
    omega (arith, outside_few file m.module.members 0 n, modules_few ms (file + 1) (n + module_nodes m.module.members), length-append (members_of file 0 n m.module.members) (modules_from (file + 1) (n + module_nodes m.module.members) ms))

one_function : (class : Option ℕ) (p : Placed) (w : What) → length (function class p w) ≤ 1
one_function class p (member.Import of) = omega arith
one_function class p (member.From path of) = omega arith
one_function class p (member.Constant name v) = omega arith
one_function class p (member.Def name ps star b) = omega arith
one_function class p (member.Class name base) = omega arith

functions_few : (ps : List Placed) (c : Counts) → length (functions_from c ps) ≤ length ps
functions_few [] c = omega arith
functions_few (p ∷ ps) c =
    let class : Option ℕ = class_here p.inside c.classes in
    omega (arith, one_function class p p.what, functions_few ps (count p.what c), length-append (function class p p.what) (functions_from (count p.what c) ps))

pub few_functions : (ms : List Named) → length (functions ms) ≤ modules_nodes ms
few_functions ms = omega (arith, functions_few (members ms) none_before, modules_few ms 0 0)

one_class : (bases : List (Option ℕ)) (values : List (Option Const)) (c : Counts) (p : Placed) (behind : List Placed) (w : What) → length (stated bases values c p behind w) ≤ 1
one_class bases values c p behind (member.Import of) = omega arith
one_class bases values c p behind (member.From path of) = omega arith
one_class bases values c p behind (member.Constant name v) = omega arith
one_class bases values c p behind (member.Def name ps star b) = omega arith
one_class bases values c p behind (member.Class name base) = omega arith

classes_few : (bases : List (Option ℕ)) (values : List (Option Const)) (ps : List Placed) (c : Counts) → length (classes_from bases values c ps) ≤ length ps
classes_few bases values [] c = omega arith
classes_few bases values (p ∷ ps) c = omega (arith, one_class bases values c p ps p.what, classes_few bases values ps (count p.what c), length-append (stated bases values c p ps p.what) (classes_from bases values (count p.what c) ps))

pub builtins_many : (bases : List (Option ℕ)) (n : ℕ) → length (builtins_to bases n) ≡ n
builtins_many bases zero = refl
builtins_many bases (suc n) = length-append (builtins_to bases n) _ ∙ ap (λ k. k + 1) (builtins_many bases n) ∙ one_more n where
  one_more : (n : ℕ) → n + 1 ≡ suc n
  one_more n = omega arith

pub few_classes : (ms : List Named) → length (classes ms) ≤ 13 + modules_nodes ms
few_classes ms = omega (arith, classes_few (bases ms) (constant_values ms) (members ms) none_before, modules_few ms 0 0, builtins_many (bases ms) 13, length-append (builtins_to (bases ms) 13) (classes_from (bases ms) (constant_values ms) none_before (members ms)))

-- ---- a node has two sites at most

few_operator : (op : BinOp) → operator_sites op ≤ 2
few_operator binary.Add = omega arith
few_operator binary.Mul = omega arith
few_operator op = omega arith

few_called : (n : ℕ) (c : Called) → site_count (act.Call n) c ≤ 2
few_called n called.Makes = omega arith
few_called n called.Plain = omega arith
few_called n called.Range = omega arith
few_called n called.Write = omega arith

module _ (np bp : List ℕ → Part) (dotted : Part → List ℕ → Part) (whole : Bool) (V : List (Option Const)) where
  abbrev one : Item → Sight → Sight
  one = sight.one [] np bp dotted whole V

  abbrev count_at : Item → Sight → ℕ
  count_at i s = site_count (act_of [] i) (sight.called_at [] np bp dotted whole V i s.parts)

  few_at : (i : Item) (s : Sight) → count_at i s ≤ 2 * count_one i
  few_at (Call n) s = few_called n (call_seen (part_under s.parts n) n).called
  few_at (Binary op) s = few_operator op
  few_at i s = omega arith

  added : (n : ℕ) (s : SiteAt) (ss : List SiteAt) → length (add_sites n s ss) ≡ length ss + n
  added zero s ss = none_more (length ss) where
    none_more : (n : ℕ) → n ≡ n + 0
    none_more n = omega arith
  added (suc n) s ss = added n s (ss ++ s ∷ []) ∙ ap (λ m. m + n) (length-append ss (s ∷ [])) ∙ one_less (length ss) n where
    one_less : (m n : ℕ) → (m + 1) + n ≡ m + suc n
    one_less m n = omega arith

  one_few : (i : Item) (s : Sight) → length (one i s).kept.sites ≤ length s.kept.sites + 2 * count_one i
  one_few i s = omega (arith, few_at i s, added (count_at i s) (record { node = s.kept.node; dict = is_dict (act_of [] i) }) s.kept.sites)

  run_few : (is : Items) (s : Sight) → length (run Sight one is s).kept.sites ≤ length s.kept.sites + 2 * nodes is
  run_few [] s = omega arith
  run_few (i ∷ is) s = omega (arith, one_few i s, run_few is (one i s))

  abbrev begin : ℕ → List SiteAt → Sight
  begin n ss = record { parts = []; slots = []; kept = from_node n ss }

  value_few : (e : Expr) (n : ℕ) (ss : List SiteAt) → length (visit.expr Piece Kept (at_node np bp dotted whole V) e (from_node n ss)).1.sites ≤ length ss + 2 * nodes (expr e)
  value_few e n ss = subst (λ (s : Sight). length s.kept.sites ≤ length ss + 2 * nodes (expr e)) (expr_seen [] np bp dotted whole V e (begin n ss)) (run_few (expr e) (begin n ss))

  body_few : (b : Body) (ss : List SiteAt) → length (visit.block Piece Kept (at_node np bp dotted whole V) b.of (from_node b.first ss)).sites ≤ length ss + 2 * nodes (block b.of)
  body_few b ss = subst (λ (s : Sight). length s.kept.sites ≤ length ss + 2 * nodes (block b.of)) (block_seen [] np bp dotted whole V b.of (begin b.first ss)) (run_few (block b.of) (begin b.first ss))

module _ (bs cs : List Binding) (bases : List (Option ℕ)) where
  default_few : (file place n : ℕ) (o : Option Expr) (ss : List SiteAt) → length (rule.after_default bs cs bases file place (default_at n o) ss) ≤ length ss + 2 * nodes (default_items o)
  default_few file place n None ss = omega arith
  default_few file place n (Some e) ss = value_few (name_part bs cs bases file place []) (bound_part bs cs bases file place []) (attr_part bs cs bases file place []) true [] e n ss

  formals_few : (file place : ℕ) (ps : List Param) (n : ℕ) (ss : List SiteAt) → length (rule.after_formals bs cs bases file place (formals n ps) ss) ≤ length ss + 2 * formals_nodes ps
  formals_few file place [] n ss = omega arith
  formals_few file place (p ∷ ps) n ss =
      omega (arith, default_few file place (n + 1) p.default ss, formals_few file place ps (n + formal_nodes p) (rule.after_default bs cs bases file place (default_at (n + 1) p.default) ss))

  member_few : (m : Member-F Member ClassDef) (file place n : ℕ) (ss : List SiteAt) → length (rule.after_what bs cs bases file place (what n m) ss) ≤ length ss + 2 * member_nodes m
  member_few (Member-F.Import k of) file place n ss = omega arith
  member_few (Member-F.From k path of) file place n ss = omega arith
  member_few (Member-F.Const k name e) file place n ss = omega (arith, value_few (name_part bs cs bases file place []) (bound_part bs cs bases file place []) (attr_part bs cs bases file place []) true [] e n ss)
  member_few (Member-F.Def f) file place n ss =
      let own : List (List ℕ) = locals (formals (n + 1) f.params) f.body in
      let after : List SiteAt = rule.after_formals bs cs bases file place (formals (n + 1) f.params) ss in
      omega (arith, formals_few file place f.params (n + 1) ss, body_few (name_part bs cs bases file place own) (bound_part bs cs bases file place own) (attr_part bs cs bases file place own) false [] (record { first = n + 1 + formals_nodes f.params; of = f.body }) after)
  member_few (Member-F.Class c) file place n ss = omega arith

  abbrev after : List Placed → List SiteAt → List SiteAt
  after ps ss = rule.after_members bs cs bases ps ss

  after_both : (ps qs : List Placed) (ss : List SiteAt) → after (ps ++ qs) ss ≡ after qs (after ps ss)
  after_both [] qs ss = refl
  after_both (p ∷ ps) qs ss = after_both ps qs (rule.after bs cs bases p ss)

  inside_sites : (file place : ℕ) (ms : List Member) (n : ℕ) (ss : List SiteAt) → length (after (inside_of file place n ms) ss) ≤ length ss + 2 * inside_nodes ms
  inside_sites file place [] n ss = omega arith
  inside_sites file place (m ∷ ms) n ss =
      omega (arith, member_few (out-Member m) file place n ss, inside_sites file place ms (n + member_nodes (out-Member m)) (rule.after_what bs cs bases file place (what n (out-Member m)) ss))

  outside_sites : (file : ℕ) (ms : List Member) (place n : ℕ) (ss : List SiteAt) → length (after (members_of file place n ms) ss) ≤ length ss + 2 * module_nodes ms
  outside_sites file [] place n ss = omega arith
  outside_sites file (m ∷ ms) place n ss =
      let body : List Placed = inside_of file place (n + member_nodes (out-Member m)) (body_in (out-Member m)) in
      let next : ℕ = n + (member_nodes (out-Member m) + inside_nodes (body_in (out-Member m))) in
      let own : List SiteAt = rule.after_what bs cs bases file place (what n (out-Member m)) ss in
      subst (λ (xs : List SiteAt). length xs ≤ length ss + 2 * module_nodes (m ∷ ms)) (sym (after_both body (members_of file (place + 1) next ms) own))
      (omega (arith, member_few (out-Member m) file place n ss, inside_sites file place (body_in (out-Member m)) (n + member_nodes (out-Member m)) own, outside_sites file ms (place + 1) next (after body own)))

  modules_sites : (ms : List Named) (file n : ℕ) (ss : List SiteAt) → length (after (modules_from file n ms) ss) ≤ length ss + 2 * modules_nodes ms
  modules_sites [] file n ss = omega arith
  modules_sites (m ∷ ms) file n ss =
      let first : List Placed = members_of file 0 n m.module.members in
      let rest : List Placed = modules_from (file + 1) (n + module_nodes m.module.members) ms in
      subst (λ (xs : List SiteAt). length xs ≤ length ss + 2 * modules_nodes (m ∷ ms)) (sym (after_both first rest ss))
      (omega (arith, outside_sites file m.module.members 0 n ss, modules_sites ms (file + 1) (n + module_nodes m.module.members) (after first ss)))

sites_many : (held : ℕ → Option Pairs) (n : ℕ) (ss : List SiteAt) → length (sites_from held n ss) ≡ length ss
sites_many held n [] = refl
sites_many held n (s ∷ ss) = ap suc (sites_many held (n + 1) ss)

pub few_sites : (ms : List Named) → length (sites ms) ≤ 1 + 2 * modules_nodes ms
few_sites ms = omega (arith, sites_many (contents (made ms)) 0 (fault.sites ms), modules_sites (module_bindings ms) (body_bindings ms) (bases ms) ms 0 0 (first_sites ms))
