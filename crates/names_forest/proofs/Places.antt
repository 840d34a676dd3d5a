-- A program has a site, of the list of arguments: no member takes one away. It has no more classes than
-- nodes and the builtin ones.
use Rattle.std.proofs.Common.{◌≡◌, ℕ, ◌+◌, ◌<◌, ◌≤◌, zero, suc, List, [], ◌∷◌, ◌++◌, length, length-append, Bool, true, false, Option, Some, None, sym, ap, ◌∙◌, refl, arith, subst}
use Rattle.std.proofs.lemmas.List.{length-map}
use Rattle.rpy_tree.specs.declared.program.Const.{Const}
use Rattle.rpy_tree.specs.declared.program.Program as tree
use Rattle.rpy_tree.specs.declared.program.Site.{Site}
use Rattle.rpy_tree.specs.declared.syntax.Expr.{Expr}
use Rattle.rpy_meaning.specs.Resolved.{Further, object_at, program_of}
use Rattle.rpy_nodes.specs.declared.listing.Named.{Named}
use Rattle.names_found.specs.Finder.{add_sites, site_count}
use Rattle.names_found.specs.Part.{is_dict}
use Rattle.names_found.specs.declared.part.Part.{Part}
use Rattle.names_found.specs.declared.step.SiteAt.{SiteAt}
use Rattle.names_rules.specs.Bindings.{Binding}
use Rattle.names_rules.specs.Events.{act_of}
use Rattle.names_rules.specs.Locals.{locals}
use Rattle.names_rules.specs.Members as member
use Rattle.names_rules.specs.Members.{Body, Formal, What, Placed, members, modules_nodes}
use Rattle.names_rules.specs.Order.{Item, Items, expr, block}
use Rattle.names_rules.specs.Program.{module_bindings, body_bindings, bases}
use Rattle.names_rules.proofs.Runs.{run}
use Rattle.names_value.specs.Machine.{Pairs}
use Rattle.names_constants.specs.Constants as rule
use Rattle.names_constants.specs.Faults as fault
use Rattle.names_constants.specs.Faults.{first_sites}
use Rattle.names_constants.specs.Stands.{name_part, bound_part, attr_part}
use Rattle.names_constants.specs.Value.{Piece, Kept, from_node, at_node}
use Rattle.names_constants.specs.Visit as visit
use Rattle.names_constants.proofs.Block.{block_seen}
use Rattle.names_constants.proofs.Sight as sight
use Rattle.names_constants.proofs.Sight.{Sight, expr_seen}
use Rattle.names_whole.specs.Sites.{contents, made, sites_from, sites}
use Rattle.names_whole.proofs.Numbers.{few_classes}
use Rattle.names_whole.proofs.Program.{program_is}
use Rattle.rpy_names.specs.Resolve.{prog}

module _ (np bp : List ℕ → Part) (dotted : Part → List ℕ → Part) (whole : Bool) (V : List (Option Const)) where
  abbrev one : Item → Sight → Sight
  one = sight.one [] np bp dotted whole V

  abbrev count_at : Item → Sight → ℕ
  count_at i s = site_count (act_of [] i) (sight.called_at [] np bp dotted whole V i s.parts)

  added : (n : ℕ) (s : SiteAt) (ss : List SiteAt) → length (add_sites n s ss) ≡ length ss + n
  added zero s ss = none_more (length ss) where
    none_more : (n : ℕ) → n ≡ n + 0
    none_more n = omega arith
  added (suc n) s ss = added n s (ss ++ s ∷ []) ∙ ap (λ m. m + n) (length-append ss (s ∷ [])) ∙ one_less (length ss) n where
    one_less : (m n : ℕ) → (m + 1) + n ≡ m + suc n
    one_less m n = omega arith

  one_more : (i : Item) (s : Sight) → length s.kept.sites ≤ length (one i s).kept.sites
  one_more i s = omega (arith, added (count_at i s) (record { node = s.kept.node; dict = is_dict (act_of [] i) }) s.kept.sites)

  run_more : (is : Items) (s : Sight) → length s.kept.sites ≤ length (run Sight one is s).kept.sites
  run_more [] s = omega arith
  run_more (i ∷ is) s = omega (arith, one_more i s, run_more is (one i s))

  abbrev begin : ℕ → List SiteAt → Sight
  begin n ss = record { parts = []; slots = []; kept = from_node n ss }

  value_more : (e : Expr) (n : ℕ) (ss : List SiteAt) → length ss ≤ length (visit.expr Piece Kept (at_node np bp dotted whole V) e (from_node n ss)).1.sites
  value_more e n ss = subst (λ (s : Sight). length ss ≤ length s.kept.sites) (expr_seen [] np bp dotted whole V e (begin n ss)) (run_more (expr e) (begin n ss))

  body_more : (b : Body) (ss : List SiteAt) → length ss ≤ length (visit.block Piece Kept (at_node np bp dotted whole V) b.of (from_node b.first ss)).sites
  body_more b ss = subst (λ (s : Sight). length ss ≤ length s.kept.sites) (block_seen [] np bp dotted whole V b.of (begin b.first ss)) (run_more (block b.of) (begin b.first ss))

module _ (bs cs : List Binding) (bases : List (Option ℕ)) where
  default_more : (file place : ℕ) (o : Option member.Value) (ss : List SiteAt) → length ss ≤ length (rule.after_default bs cs bases file place o ss)
  default_more file place None ss = omega arith
  default_more file place (Some v) ss = value_more (name_part bs cs bases file place []) (bound_part bs cs bases file place []) (attr_part bs cs bases file place []) true [] v.of v.first ss

  formals_more : (file place : ℕ) (ps : List Formal) (ss : List SiteAt) → length ss ≤ length (rule.after_formals bs cs bases file place ps ss)
  formals_more file place [] ss = omega arith
  formals_more file place (p ∷ ps) ss = omega (arith, default_more file place p.default ss, formals_more file place ps (rule.after_default bs cs bases file place p.default ss))

  what_more : (file place : ℕ) (w : What) (ss : List SiteAt) → length ss ≤ length (rule.after_what bs cs bases file place w ss)
  what_more file place (member.Import of) ss = omega arith
  what_more file place (member.From path of) ss = omega arith
  what_more file place (member.Constant name v) ss = value_more (name_part bs cs bases file place []) (bound_part bs cs bases file place []) (attr_part bs cs bases file place []) true [] v.of v.first ss
  what_more file place (member.Def name ps star b) ss =
      let own : List (List ℕ) = locals ps b.of in
      let after : List SiteAt = rule.after_formals bs cs bases file place ps ss in
      omega (arith, formals_more file place ps ss, body_more (name_part bs cs bases file place own) (bound_part bs cs bases file place own) (attr_part bs cs bases file place own) false [] b after)
  what_more file place (member.Class name base) ss = omega arith

  members_more : (ps : List Placed) (ss : List SiteAt) → length ss ≤ length (rule.after_members bs cs bases ps ss)
  members_more [] ss = omega arith
  members_more (p ∷ ps) ss = omega (arith, what_more p.file p.place p.what ss, members_more ps (rule.after bs cs bases p ss))

sites_many : (held : ℕ → Option Pairs) (n : ℕ) (ss : List SiteAt) → length (sites_from held n ss) ≡ length ss
sites_many held n [] = refl
sites_many held n (s ∷ ss) = ap suc (sites_many held (n + 1) ss)

some_site : (ms : List Named) → 0 < length (sites ms)
some_site ms = omega (arith, sites_many (contents (made ms)) 0 (fault.sites ms), members_more (module_bindings ms) (body_bindings ms) (bases ms) (members ms) (first_sites ms))

pub program_sites : (ms : List Named) (p : tree.Program) → prog ms ≡ Some p → 0 < length p.sites
program_sites ms p h = subst (λ (xs : List Site). 0 < length xs) (sym (ap (λ (q : tree.Program). q.sites) (program_is ms p h))) (some_site ms)

pub meant_sites : (ms : List Named) (p : tree.Program) → prog ms ≡ Some p → (further : Further) → 0 < length (program_of p further).sites
meant_sites ms p h further = omega (arith, program_sites ms p h, length-map p.sites (object_at p further))

pub program_classes : (ms : List Named) (p : tree.Program) → prog ms ≡ Some p → length p.classes ≤ 13 + modules_nodes ms
program_classes ms p h = subst (λ (q : tree.Program). length q.classes ≤ 13 + modules_nodes ms) (sym (program_is ms p h)) (few_classes ms)
