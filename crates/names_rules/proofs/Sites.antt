-- The sites that the code sees are those of the rules.
use Rattle.std.proofs.Common.{◌≡◌, ℕ, ◌+◌, zero, suc, List, [], ◌∷◌, ◌++◌, Option, Some, None, append_assoc, append-nil, length, map, sym, ap, ◌∙◌, refl, arith}
use Rattle.std.specs.Prelude.{Bool, true, false, cond, ◌==◌}
use Rattle.std.proofs.lemmas.List.{length-map}
use Rattle.rpy_tree.specs.declared.program.Builtin.{Builtin}
use Rattle.rpy_tree.specs.declared.program.Builtin.TheVariants as builtin
use Rattle.rpy_tree.specs.declared.syntax.BinOp.{BinOp}
use Rattle.rpy_tree.specs.declared.syntax.BinOp.TheVariants as binary
use Rattle.rpy_tree.specs.declared.syntax.Expr.{Expr, map-Expr}
use Rattle.rpy_tree.specs.declared.syntax.Expr.TheFolds.{map-Target}
use Rattle.rpy_tree.specs.declared.syntax.Expr.TheOpen.{Expr-F, Target-F}
use Rattle.rpy_tree.specs.declared.syntax.Target.{Target}
use Rattle.rpy_nodes.specs.Names.{number}
use Rattle.rpy_nodes.specs.declared.event.Act.TheVariants as act
use Rattle.names_bound.specs.declared.scopes.Scopes.{Scopes}
use Rattle.names_bound.specs.declared.stand.Stand.{Stand}
use Rattle.names_bound.specs.declared.stand.Stand.TheVariants as stand
use Rattle.names_found.specs.Finder.{add_part, add_sites, site_count, call_seen, called_by, builtin_called, local_or, bind_seen}
use Rattle.names_found.specs.Part.{without, without_last, part_under, no_part, is_dict}
use Rattle.names_found.specs.declared.finder.Place.{Place}
use Rattle.names_found.specs.declared.part.Part.{Part}
use Rattle.names_found.specs.declared.step.Called.TheVariants as called
use Rattle.names_found.specs.declared.step.SiteAt.{SiteAt}
use Rattle.names_rules.specs.Order as order
use Rattle.names_rules.specs.Order.{Item, Items}
use Rattle.names_rules.specs.Numbering.{next}
use Rattle.names_rules.specs.Events.{Names, act_of}
use Rattle.names_rules.specs.Parts.{both, expr_parts, target_parts, expr_item, target_item}
use Rattle.names_rules.specs.Seen.{Sight, see_item, seen_by, name_part, bound_part, attr_part}
use Rattle.names_rules.specs.Sites as rule
use Rattle.names_rules.specs.Sites.{Found}
use Rattle.names_rules.proofs.Fusion.{expr_fuses, target_fuses}
use Rattle.names_rules.proofs.Runs.{expr_parts_mapped, target_parts_mapped, expr_item_mapped, target_item_mapped, run, run_all, expr_moves, target_moves, run_expr, run_target}
use Rattle.names_rules.proofs.Stack.{drops, under}

-- ---- parts side by side

abbrev pub parts_of : List Found → List Part
parts_of ds = map (λ d. d.part) ds

abbrev pub push : Found → Sight → Sight
push d s = record { next = s.next + d.nodes; parts = s.parts ++ d.part ∷ []; sites = s.sites ++ d.sites s.next }

abbrev pub pushed : List Found → Sight → Sight
pushed ds s = record { next = s.next + (rule.all ds).nodes; parts = s.parts ++ parts_of ds; sites = s.sites ++ (rule.all ds).sites s.next }

pub no_more : (n : ℕ) → n ≡ n + 0
no_more n = omega arith

pub sum_three : (n a b : ℕ) → (n + a) + b ≡ n + (a + b)
sum_three n a b = omega arith

pub run_pushed : (one : Item → Sight → Sight) (ds : List Found) (s : Sight) → run_all Sight one (map push ds) s ≡ pushed ds s
run_pushed one [] s = λ j. record { next = no_more s.next j; parts = sym (append-nil s.parts) j; sites = sym (append-nil s.sites) j }
run_pushed one (d ∷ ds) s = run_pushed one ds (push d s) ∙ (λ j. record {
  next = sum_three s.next d.nodes (rule.all ds).nodes j;
  parts = append_assoc s.parts (d.part ∷ []) (parts_of ds) j;
  sites = append_assoc s.sites (d.sites s.next) ((rule.all ds).sites (s.next + d.nodes)) j;
})

-- ---- what is called

call_part : (s : Stand) (makes : Bool) (count : ℕ) → (called_by s makes count).part ≡ no_part
call_part (stand.Builtin b) makes count = refl
call_part other true count = refl
call_part other false count = refl

plain_range : (three : Bool) (count : ℕ) → site_count (act.Call count) (cond three called.Range called.Plain) ≡ 0
plain_range true count = refl
plain_range false count = refl

plain_write : (none : Bool) (count : ℕ) → site_count (act.Call count) (cond none called.Plain called.Write) ≡ 0
plain_write true count = refl
plain_write false count = refl

builtin_sites : (b : Builtin) (count : ℕ) → site_count (act.Call count) (builtin_called b count) ≡ 0
builtin_sites builtin.Range count = plain_range (count == 3) count
builtin_sites builtin.Xrange count = plain_range (count == 3) count
builtin_sites builtin.OsWrite count = plain_write (count == 0) count
builtin_sites other count = refl

pub call_sites : (s : Stand) (makes : Bool) (count n : ℕ) (ss : List SiteAt) → add_sites (site_count (act.Call count) (called_by s makes count).called) (rule.list_at n) ss ≡ ss ++ rule.call_by s makes n
call_sites (stand.Builtin b) makes count n ss = ap (λ k. add_sites k (rule.list_at n) ss) (builtin_sites b count) ∙ sym (append-nil ss)
call_sites other true count n ss = refl
call_sites other false count n ss = sym (append-nil ss)

name_sites : (o : Option ℕ) (s : Stand) (late : Bool) (name : ℕ) (site : SiteAt) (ss : List SiteAt) → add_sites (site_count (act.Name name) (local_or o s late).called) site ss ≡ ss ++ []
name_sites (Some local) s late name site ss = sym (append-nil ss)
name_sites None s late name site ss = sym (append-nil ss)

bind_sites : (o : Option ℕ) (name : ℕ) (site : SiteAt) (ss : List SiteAt) → add_sites (site_count (act.Bind name) (bind_seen o).called) site ss ≡ ss ++ []
bind_sites (Some local) name site ss = sym (append-nil ss)
bind_sites None name site ss = sym (append-nil ss)

pub operator_sites : (op : BinOp) (n : ℕ) (ss : List SiteAt) → add_sites (site_count (act.Binary op) called.Plain) (rule.list_at n) ss ≡ ss ++ rule.operator op n
operator_sites binary.Add n ss = refl
operator_sites binary.Mul n ss = refl
operator_sites other n ss = sym (append-nil ss)

pushed_call : (ps qs : List Part) (p q : Part) (count : ℕ) → count ≡ length qs → without 1 (without count (ps ++ (p ∷ qs))) ++ q ∷ [] ≡ ps ++ q ∷ []
pushed_call ps qs p q count e = ap (λ k. without 1 (without k (ps ++ (p ∷ qs))) ++ q ∷ []) e
    ∙ ap (λ zs. without 1 (without (length qs) zs) ++ q ∷ []) (sym (append_assoc ps (p ∷ []) qs))
    ∙ ap (λ zs. without 1 zs ++ q ∷ []) (drops qs (ps ++ p ∷ []))
    ∙ ap (λ zs. zs ++ q ∷ []) (drops (p ∷ []) ps)

pushed_some : (ps qs : List Part) (q : Part) (count : ℕ) → count ≡ length qs → without count (ps ++ qs) ++ q ∷ [] ≡ ps ++ q ∷ []
pushed_some ps qs q count e = ap (λ k. without k (ps ++ qs) ++ q ∷ []) e ∙ ap (λ zs. zs ++ q ∷ []) (drops qs ps)

from_zero : (a : ℕ) → a ≡ 0 + a
from_zero a = omega arith

suc_out : (b a : ℕ) → suc (b + a) ≡ suc b + a
suc_out b a = omega arith

without_sum : (b a : ℕ) (zs : List Part) → without a (without b zs) ≡ without (b + a) zs
without_sum zero a zs = ap (λ k. without k zs) (from_zero a)
without_sum (suc b) a zs = without_sum b a (without_last zs) ∙ ap (λ k. without k zs) (suc_out b a)

two_more : (n m : ℕ) → m ≡ n + n → suc (suc m) ≡ suc n + suc n
two_more n m e = omega arith

both_length : (ps : List (Found × Found)) → length (parts_of (both ps)) ≡ length ps + length ps
both_length [] = refl
both_length (p ∷ ps) = two_more (length ps) (length (parts_of (both ps))) (both_length ps)

pushed_pairs : (ps : List Part) (pairs : List (Found × Found)) (q : Part) → without (length pairs) (without (length pairs) (ps ++ parts_of (both pairs))) ++ q ∷ [] ≡ ps ++ q ∷ []
pushed_pairs ps pairs q = ap (λ zs. zs ++ q ∷ []) (without_sum (length pairs) (length pairs) (ps ++ parts_of (both pairs)))
    ∙ pushed_some ps (parts_of (both pairs)) q (length pairs + length pairs) (sym (both_length pairs))

module _ (names : Names) (scopes : Scopes) (locals : List ℕ) (at : Place) where
  abbrev one : Item → Sight → Sight
  one = see_item names scopes locals at

  abbrev np : List ℕ → Part
  np = name_part names scopes locals at

  abbrev bp : List ℕ → Part
  bp = bound_part names scopes locals at

  abbrev dotted : Part → List ℕ → Part
  dotted = attr_part names scopes locals at

  -- a node takes its parts and waits for what takes it
  close : (i : Item) (ds : List Found) (own : ℕ → List SiteAt) (p : Part) (s : Sight)
      → next i (s.next + (rule.all ds).nodes) ≡ (s.next + (rule.all ds).nodes) + 1
      → add_part (act_of names i) (seen_by names scopes locals at (s.parts ++ parts_of ds) i).part (s.parts ++ parts_of ds) ≡ s.parts ++ p ∷ []
      → add_sites (site_count (act_of names i) (seen_by names scopes locals at (s.parts ++ parts_of ds) i).called) (record { node = s.next + (rule.all ds).nodes; dict = is_dict (act_of names i) }) (s.sites ++ (rule.all ds).sites s.next) ≡ (s.sites ++ (rule.all ds).sites s.next) ++ own (s.next + (rule.all ds).nodes)
      → one i (pushed ds s) ≡ push (rule.node ds own p) s
  close i ds own p s n ps ss = λ j. record {
    next = (n ∙ sum_three s.next (rule.all ds).nodes 1) j;
    parts = ps j;
    sites = (ss ∙ append_assoc s.sites ((rule.all ds).sites s.next) (own (s.next + (rule.all ds).nodes))) j;
  }

  abbrev ExprCloses : Expr-F Found Found → Sight → Type 0
  ExprCloses x s = one (expr_item x) (pushed (expr_parts x) s) ≡ push (rule.in_expr np bp dotted x) s

  expr_closes : (x : Expr-F Found Found) (s : Sight) → ExprCloses x s
  expr_closes (Expr-F.Int n v) s = close (order.Int v) [] rule.no_site no_part s refl (pushed_some s.parts [] no_part 0 refl) (sym (append-nil _))
  expr_closes (Expr-F.Str n text) s = close (order.Str text) [] rule.no_site no_part s refl (pushed_some s.parts [] no_part 0 refl) (sym (append-nil _))
  expr_closes (Expr-F.Expr::Name n name) s = close (order.Name name) [] rule.no_site (np name) s refl (pushed_some s.parts [] (np name) 0 refl) (name_sites _ _ _ (number names name) _ _)
  expr_closes (Expr-F.Unary n op a) s = close (order.Unary op) (a ∷ []) rule.no_site no_part s refl (pushed_some s.parts (a.part ∷ []) no_part 1 refl) (sym (append-nil _))
  expr_closes (Expr-F.Binary n op a b) s = close (order.Binary op) (a ∷ b ∷ []) (rule.operator op) no_part s refl (pushed_some s.parts (a.part ∷ b.part ∷ []) no_part 2 refl) (operator_sites op _ _)
  expr_closes (Expr-F.Compare n op a b) s = close (order.Other 2) (a ∷ b ∷ []) rule.no_site no_part s refl (pushed_some s.parts (a.part ∷ b.part ∷ []) no_part 2 refl) (sym (append-nil _))
  expr_closes (Expr-F.Logic n is_and a b) s = close (order.Other 2) (a ∷ b ∷ []) rule.no_site no_part s refl (pushed_some s.parts (a.part ∷ b.part ∷ []) no_part 2 refl) (sym (append-nil _))
  expr_closes (Expr-F.Not n a) s = close (order.Other 1) (a ∷ []) rule.no_site no_part s refl (pushed_some s.parts (a.part ∷ []) no_part 1 refl) (sym (append-nil _))
  expr_closes (Expr-F.Call n f args) s =
      let qs : List Part = parts_of args in
      let count : ℕ = length args in
      let same : count ≡ length qs = simp length-map in
      let callee : part_under (s.parts ++ (f.part ∷ qs)) count ≡ f.part = ap (part_under (s.parts ++ (f.part ∷ qs))) same ∙ under s.parts qs f.part in
      let called_at : Part = part_under (s.parts ++ (f.part ∷ qs)) count in
      close (order.Call count) (f ∷ args) (rule.call f.part) no_part s refl
      (ap (λ q. without 1 (without count (s.parts ++ (f.part ∷ qs))) ++ q ∷ []) (call_part called_at.stand called_at.makes count) ∙ pushed_call s.parts qs f.part no_part count same)
      (ap (λ c. add_sites (site_count (act.Call count) (call_seen c count).called) (rule.list_at (s.next + (rule.all (f ∷ args)).nodes)) (s.sites ++ (rule.all (f ∷ args)).sites s.next)) callee ∙ call_sites f.part.stand f.part.makes count _ _)
  expr_closes (Expr-F.Expr::Attr n a name) s = close (order.Attr name) (a ∷ []) rule.no_site (dotted a.part name) s refl (ap (λ b. without 1 (s.parts ++ a.part ∷ []) ++ dotted b name ∷ []) (under s.parts [] a.part) ∙ pushed_some s.parts (a.part ∷ []) (dotted a.part name) 1 refl) (sym (append-nil _))
  expr_closes (Expr-F.Index n a i) s = close (order.Other 2) (a ∷ i ∷ []) rule.no_site no_part s refl (pushed_some s.parts (a.part ∷ i.part ∷ []) no_part 2 refl) (sym (append-nil _))
  expr_closes (Expr-F.Slice n a None None) s = close (order.Slice 1) (a ∷ []) rule.a_list no_part s refl (pushed_some s.parts (a.part ∷ []) no_part 1 refl) refl
  expr_closes (Expr-F.Slice n a None (Some to)) s = close (order.Slice 2) (a ∷ to ∷ []) rule.a_list no_part s refl (pushed_some s.parts (a.part ∷ to.part ∷ []) no_part 2 refl) refl
  expr_closes (Expr-F.Slice n a (Some from) None) s = close (order.Slice 2) (a ∷ from ∷ []) rule.a_list no_part s refl (pushed_some s.parts (a.part ∷ from.part ∷ []) no_part 2 refl) refl
  expr_closes (Expr-F.Slice n a (Some from) (Some to)) s = close (order.Slice 3) (a ∷ from ∷ to ∷ []) rule.a_list no_part s refl (pushed_some s.parts (a.part ∷ from.part ∷ to.part ∷ []) no_part 3 refl) refl
  expr_closes (Expr-F.Expr::Tuple n items) s = close (order.Tuple (length items)) items rule.no_site no_part s refl (pushed_some s.parts (parts_of items) no_part (length items) (simp length-map)) (sym (append-nil _))
  expr_closes (Expr-F.List n items) s = close (order.List_of (length items)) items rule.a_list no_part s refl (pushed_some s.parts (parts_of items) no_part (length items) (simp length-map)) refl
  expr_closes (Expr-F.Dict n pairs) s = close (order.Dict (length pairs)) (both pairs) rule.a_dict no_part s refl (pushed_pairs s.parts pairs no_part) refl
  expr_closes (Expr-F.Comp n item target over None) s = close (order.Comp 3) (item ∷ target ∷ over ∷ []) rule.two_lists no_part s refl (pushed_some s.parts (item.part ∷ target.part ∷ over.part ∷ []) no_part 3 refl) (append_assoc _ (rule.list_at _ ∷ []) (rule.list_at _ ∷ []))
  expr_closes (Expr-F.Comp n item target over (Some test)) s = close (order.Comp 4) (item ∷ target ∷ over ∷ test ∷ []) rule.two_lists no_part s refl (pushed_some s.parts (item.part ∷ target.part ∷ over.part ∷ test.part ∷ []) no_part 4 refl) (append_assoc _ (rule.list_at _ ∷ []) (rule.list_at _ ∷ []))

  abbrev TargetCloses : Target-F Found Found → Sight → Type 0
  TargetCloses x s = one (target_item x) (pushed (target_parts x) s) ≡ push (rule.in_target np bp dotted x) s

  target_closes : (x : Target-F Found Found) (s : Sight) → TargetCloses x s
  target_closes (Target-F.Target::Name n name) s = close (order.Bind name) [] rule.no_site (bp name) s refl (pushed_some s.parts [] (bp name) 0 refl) (bind_sites _ (number names name) _ _)
  target_closes (Target-F.Target::Attr n a name) s = close (order.BindAttr name) (a ∷ []) rule.no_site no_part s refl (pushed_some s.parts (a.part ∷ []) no_part 1 refl) (sym (append-nil _))
  target_closes (Target-F.Item n a i) s = close (order.Other 2) (a ∷ i ∷ []) rule.no_site no_part s refl (pushed_some s.parts (a.part ∷ i.part ∷ []) no_part 2 refl) (sym (append-nil _))
  target_closes (Target-F.Target::Tuple n parts) s = close (order.Other (length parts)) parts rule.no_site no_part s refl (pushed_some s.parts (parts_of parts) no_part (length parts) (simp length-map)) (sym (append-nil _))

  abbrev Move : Type 0
  Move = Sight → Sight

  expr_layer : (x : Expr-F Found Found) (s : Sight) → push (rule.in_expr np bp dotted x) s ≡ expr_moves Sight one (map-Expr Found Found Move Move push push x) s
  expr_layer x s = sym (expr_closes x s)
      ∙ ap (one (expr_item x)) (sym (run_pushed one (expr_parts x) s) ∙ ap (λ ps. run_all Sight one ps s) (sym (expr_parts_mapped push x)))
      ∙ ap (λ i. one i (run_all Sight one (expr_parts (map-Expr Found Found Move Move push push x)) s)) (sym (expr_item_mapped push x))

  target_layer : (x : Target-F Found Found) (s : Sight) → push (rule.in_target np bp dotted x) s ≡ target_moves Sight one (map-Target Found Found Move Move push push x) s
  target_layer x s = sym (target_closes x s)
      ∙ ap (one (target_item x)) (sym (run_pushed one (target_parts x) s) ∙ ap (λ ps. run_all Sight one ps s) (sym (target_parts_mapped push x)))
      ∙ ap (λ i. one i (run_all Sight one (target_parts (map-Target Found Found Move Move push push x)) s)) (sym (target_item_mapped push x))

  expr_path : (e : Expr) → push (rule.expr np bp dotted e) ≡ run Sight one (order.expr e)
  expr_path e = expr_fuses Found Found Move Move push push (rule.in_expr np bp dotted) (rule.in_target np bp dotted) (expr_moves Sight one) (target_moves Sight one) (λ x i s. expr_layer x s i) (λ x i s. target_layer x s i) e ∙ sym (run_expr Sight one e)

  target_path : (t : Target) → push (rule.target np bp dotted t) ≡ run Sight one (order.target t)
  target_path t = target_fuses Found Found Move Move push push (rule.in_expr np bp dotted) (rule.in_target np bp dotted) (expr_moves Sight one) (target_moves Sight one) (λ x i s. expr_layer x s i) (λ x i s. target_layer x s i) t ∙ sym (run_target Sight one t)

  -- what the code sees over the items of an expression is what the rules give for it
  pub expr_seen : (e : Expr) (s : Sight) → run Sight one (order.expr e) s ≡ push (rule.expr np bp dotted e) s
  expr_seen e s = sym (ap (λ f. f s) (expr_path e))

  pub target_seen : (t : Target) (s : Sight) → run Sight one (order.target t) s ≡ push (rule.target np bp dotted t) s
  target_seen t s = sym (ap (λ f. f s) (target_path t))
