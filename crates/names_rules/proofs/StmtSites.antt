-- The sites that the code sees in statements are those of the rules.
use Rattle.std.proofs.Common.{◌≡◌, ℕ, ◌+◌, List, [], ◌∷◌, ◌++◌, Option, Some, None, append_assoc, append-nil, length, map, sym, ap, ◌∙◌, refl, arith, false}
use Rattle.std.proofs.lemmas.List.{length-map}
use Rattle.rpy_tree.specs.declared.syntax.BinOp.{BinOp}
use Rattle.rpy_tree.specs.declared.syntax.BinOp.TheVariants as binary
use Rattle.rpy_tree.specs.declared.syntax.Expr.{Expr}
use Rattle.rpy_tree.specs.declared.syntax.Target.{Target}
use Rattle.rpy_tree.specs.declared.syntax.Stmt.{Stmt, map-Stmt}
use Rattle.rpy_tree.specs.declared.syntax.Stmt.TheFolds.{map-Clause}
use Rattle.rpy_tree.specs.declared.syntax.Stmt.TheOpen.{Stmt-F, Clause-F}
use Rattle.rpy_nodes.specs.Names.{number}
use Rattle.rpy_nodes.specs.declared.event.Act.TheVariants as act
use Rattle.names_bound.specs.declared.scopes.Scopes.{Scopes}
use Rattle.names_found.specs.Finder.{add_part, add_sites, site_count, bind_seen, local_in}
use Rattle.names_found.specs.Part.{without, no_part, is_dict}
use Rattle.names_found.specs.declared.finder.Place.{Place}
use Rattle.names_found.specs.declared.part.Part.{Part}
use Rattle.names_found.specs.declared.step.SiteAt.{SiteAt}
use Rattle.names_rules.specs.Order as order
use Rattle.names_rules.specs.Order.{Item, Items}
use Rattle.names_rules.specs.Numbering.{next}
use Rattle.names_rules.specs.Events.{Names, act_of}
use Rattle.names_rules.specs.Seen.{Sight, see_item, seen_by, name_part, bound_part, attr_part}
use Rattle.names_rules.specs.Sites as rule
use Rattle.names_rules.specs.Sites.{Found}
use Rattle.names_rules.proofs.Runs.{run, run_all, run_append, run_parts}
use Rattle.names_rules.proofs.Stack.{drops}
use Rattle.names_rules.proofs.Sites.{push, pushed, parts_of, run_pushed, no_more, sum_three, expr_seen, target_seen}
use Rattle.names_rules.proofs.StmtFusion.{stmt_fuses}

-- a statement leaves no part
abbrev pub settle : Found → Sight → Sight
settle d s = record { next = s.next + d.nodes; parts = s.parts; sites = s.sites ++ d.sites s.next }

settle_nothing : (s : Sight) → settle rule.nothing s ≡ s
settle_nothing s = λ j. record { next = sym (no_more s.next) j; parts = s.parts; sites = append-nil s.sites j }

settle_beside : (a b : Found) (s : Sight) → settle (rule.beside a b) s ≡ settle b (settle a s)
settle_beside a b s = λ j. record { next = sym (sum_three s.next a.nodes b.nodes) j; parts = s.parts; sites = sym (append_assoc s.sites (a.sites s.next) (b.sites (s.next + a.nodes))) j }

module _ (names : Names) (scopes : Scopes) (locals : List ℕ) (at : Place) where
  abbrev one : Item → Sight → Sight
  one = see_item names scopes locals at

  abbrev moves : Items → Sight → Sight
  moves = run Sight one

  abbrev all_moves : List (Sight → Sight) → Sight → Sight
  all_moves = run_all Sight one

  abbrev np : List ℕ → Part
  np = name_part names scopes locals at

  abbrev bp : List ℕ → Part
  bp = bound_part names scopes locals at

  abbrev dotted : Part → List ℕ → Part
  dotted = attr_part names scopes locals at

  abbrev in_expr : Expr → Found
  in_expr = rule.expr np bp dotted

  abbrev in_target : Target → Found
  in_target = rule.target np bp dotted

  settle_all : (ds : List Found) (s : Sight) → settle (rule.all ds) s ≡ all_moves (map settle ds) s
  settle_all [] s = settle_nothing s
  settle_all (d ∷ ds) s = settle_beside d (rule.all ds) s ∙ settle_all ds (settle d s)

  -- a statement's node takes its parts
  ends : (i : Item) (ds : List Found) (own : ℕ → List SiteAt) (s : Sight)
      → next i (s.next + (rule.all ds).nodes) ≡ (s.next + (rule.all ds).nodes) + 1
      → add_part (act_of names i) (seen_by names scopes locals at (s.parts ++ parts_of ds) i).part (s.parts ++ parts_of ds) ≡ s.parts
      → add_sites (site_count (act_of names i) (seen_by names scopes locals at (s.parts ++ parts_of ds) i).called) (record { node = s.next + (rule.all ds).nodes; dict = is_dict (act_of names i) }) (s.sites ++ (rule.all ds).sites s.next) ≡ (s.sites ++ (rule.all ds).sites s.next) ++ own (s.next + (rule.all ds).nodes)
      → one i (pushed ds s) ≡ settle (rule.node ds own no_part) s
  ends i ds own s n ps ss = λ j. record {
    next = (n ∙ sum_three s.next (rule.all ds).nodes 1) j;
    parts = ps j;
    sites = (ss ∙ append_assoc s.sites ((rule.all ds).sites s.next) (own (s.next + (rule.all ds).nodes))) j;
  }

  taken : (ps qs : List Part) (count : ℕ) → count ≡ length qs → without count (ps ++ qs) ≡ ps
  taken ps qs count e = ap (λ k. without k (ps ++ qs)) e ∙ drops qs ps

  done : (count : ℕ) (ds : List Found) (s : Sight) → count ≡ length (parts_of ds) → one (order.Done count) (pushed ds s) ≡ settle (rule.node ds rule.no_site no_part) s
  done count ds s e = ends (order.Done count) ds rule.no_site s refl (taken s.parts (parts_of ds) count e) (sym (append-nil _))

  exprs_moved : (es : List Expr) (s : Sight) → moves (order.all (map order.expr es)) s ≡ all_moves (map push (map in_expr es)) s
  exprs_moved [] s = refl
  exprs_moved (e ∷ es) s = run_append Sight one (order.expr e) (order.all (map order.expr es)) s ∙ ap (moves (order.all (map order.expr es))) (expr_seen names scopes locals at e s) ∙ exprs_moved es (push (in_expr e) s)

  exprs_pushed : (es : List Expr) (s : Sight) → moves (order.all (map order.expr es)) s ≡ pushed (map in_expr es) s
  exprs_pushed es s = exprs_moved es s ∙ run_pushed one (map in_expr es) s

  targets_moved : (ts : List Target) (s : Sight) → moves (order.all (map order.target ts)) s ≡ all_moves (map push (map in_target ts)) s
  targets_moved [] s = refl
  targets_moved (t ∷ ts) s = run_append Sight one (order.target t) (order.all (map order.target ts)) s ∙ ap (moves (order.all (map order.target ts))) (target_seen names scopes locals at t s) ∙ targets_moved ts (push (in_target t) s)

  moves_append : (xs ys : List (Sight → Sight)) (s : Sight) → all_moves (xs ++ ys) s ≡ all_moves ys (all_moves xs s)
  moves_append [] ys s = refl
  moves_append (x ∷ xs) ys s = moves_append xs ys (x s)

  map_end : (ds : List Found) (d : Found) → map push (ds ++ d ∷ []) ≡ map push ds ++ push d ∷ []
  map_end [] d = refl
  map_end (x ∷ ds) d = ap (λ rest. push x ∷ rest) (map_end ds d)

  -- one part, or two, before a node
  one_part : (i : Item) (e : Expr) (s : Sight) → one i (moves (order.expr e) s) ≡ one i (pushed (in_expr e ∷ []) s)
  one_part i e s = ap (one i) (expr_seen names scopes locals at e s ∙ run_pushed one (in_expr e ∷ []) s)

  two_parts : (i : Item) (t : Target) (e : Expr) (s : Sight) → one i (moves (order.expr e) (moves (order.target t) s)) ≡ one i (pushed (in_target t ∷ in_expr e ∷ []) s)
  two_parts i t e s = ap (one i) (ap (moves (order.expr e)) (target_seen names scopes locals at t s) ∙ expr_seen names scopes locals at e (push (in_target t) s) ∙ run_pushed one (in_target t ∷ in_expr e ∷ []) s)

  with_expr : (e : Expr) (s : Sight) → one (order.Done 1) (moves (order.expr e) s) ≡ settle (rule.node (in_expr e ∷ []) rule.no_site no_part) s
  with_expr e s = one_part (order.Done 1) e s ∙ done 1 (in_expr e ∷ []) s refl

  no_parts : (s : Sight) → one (order.Done 0) s ≡ settle (rule.node [] rule.no_site no_part) s
  no_parts s = ap (one (order.Done 0)) (run_pushed one [] s) ∙ done 0 [] s refl

  of_for : (t : Target) (e : Expr) (s : Sight) → one order.For (moves (order.expr e) (moves (order.target t) s)) ≡ settle (rule.node (in_target t ∷ in_expr e ∷ []) rule.a_list no_part) s
  of_for t e s = two_parts order.For t e s ∙ ends order.For (in_target t ∷ in_expr e ∷ []) rule.a_list s refl (taken s.parts (parts_of (in_target t ∷ in_expr e ∷ [])) 2 refl) refl

  of_aug : (op : BinOp) (t : Target) (e : Expr) (s : Sight) → one (order.augmented op) (pushed (in_target t ∷ in_expr e ∷ []) s) ≡ settle (rule.node (in_target t ∷ in_expr e ∷ []) (rule.augmented op) no_part) s
  of_aug binary.Mul t e s = ends order.Multiply (in_target t ∷ in_expr e ∷ []) rule.a_list s refl (taken s.parts (parts_of (in_target t ∷ in_expr e ∷ [])) 2 refl) refl
  of_aug other t e s = done 2 (in_target t ∷ in_expr e ∷ []) s refl

  of_elif : (e : Expr) (s : Sight) → one order.Elif (moves (order.expr e) s) ≡ settle (in_expr e) s
  of_elif e s = ap (one order.Elif) (expr_seen names scopes locals at e s) ∙ (λ j. record { next = s.next + (in_expr e).nodes; parts = drops ((in_expr e).part ∷ []) s.parts j; sites = s.sites ++ (in_expr e).sites s.next })

  -- ---- what each layer does

  abbrev Move : Type 0
  Move = Sight → Sight

  abbrev further_moves : List (Expr × List Move) → Move
  further_moves [] s = s
  further_moves (arm ∷ arms) s = further_moves arms (all_moves arm.1 (one order.Elif (moves (order.expr arm.0) s)))

  abbrev arm_moves : List (Expr × List Move) → Move
  arm_moves [] s = one (order.Done 0) s
  arm_moves (arm ∷ arms) s = further_moves arms (all_moves arm.1 (one (order.Done 1) (moves (order.expr arm.0) s)))

  abbrev finally_moves : Option (List Move) → Move
  finally_moves None s = s
  finally_moves (Some body) s = all_moves body s

  abbrev stmt_moves : Stmt-F Move Move → Move
  stmt_moves (Stmt-F.If n arms other) s = all_moves other (arm_moves arms s)
  stmt_moves (Stmt-F.While n e body) s = all_moves body (one (order.Done 1) (moves (order.expr e) s))
  stmt_moves (Stmt-F.For n t e body) s = all_moves body (one order.For (moves (order.expr e) (moves (order.target t) s)))
  stmt_moves (Stmt-F.Try n body clauses other final) s = finally_moves final (all_moves other (all_moves clauses (all_moves body (one (order.Done 0) s))))
  stmt_moves (Stmt-F.Pass n) s = moves (order.in_stmt (Stmt-F.Pass n)) s
  stmt_moves (Stmt-F.Break n) s = moves (order.in_stmt (Stmt-F.Break n)) s
  stmt_moves (Stmt-F.Continue n) s = moves (order.in_stmt (Stmt-F.Continue n)) s
  stmt_moves (Stmt-F.Return n e) s = moves (order.returned e) s
  stmt_moves (Stmt-F.Raise n e) s = moves (order.in_stmt (Stmt-F.Raise n e)) s
  stmt_moves (Stmt-F.Assert n e) s = moves (order.in_stmt (Stmt-F.Assert n e)) s
  stmt_moves (Stmt-F.Del n a i) s = moves (order.in_stmt (Stmt-F.Del n a i)) s
  stmt_moves (Stmt-F.Print n es) s = moves (order.in_stmt (Stmt-F.Print n es)) s
  stmt_moves (Stmt-F.Assign n ts e) s = moves (order.in_stmt (Stmt-F.Assign n ts e)) s
  stmt_moves (Stmt-F.Aug n t op e) s = moves (order.in_stmt (Stmt-F.Aug n t op e)) s
  stmt_moves (Stmt-F.Expr n e) s = moves (order.in_stmt (Stmt-F.Expr n e)) s

  abbrev clause_moves : Clause-F Move Move → Move
  clause_moves c s = all_moves c.body (one order.Clause_of (moves (order.catches c.classes ++ order.bound_by c.bind) s))

  -- ---- items

  further_ran : (arms : List (Expr × List Items)) (s : Sight) → moves (order.further_arms arms) s ≡ further_moves (map {A = Expr × List Items} {B = Expr × List Move} (λ p. (p.0, map moves p.1)) arms) s
  further_ran [] s = refl
  further_ran (arm ∷ arms) s = run_append Sight one (order.expr arm.0) (order.Elif ∷ (order.all arm.1 ++ order.further_arms arms)) s
      ∙ run_append Sight one (order.all arm.1) (order.further_arms arms) (one order.Elif (moves (order.expr arm.0) s))
      ∙ further_ran arms (moves (order.all arm.1) (one order.Elif (moves (order.expr arm.0) s)))
      ∙ ap (further_moves (map {A = Expr × List Items} {B = Expr × List Move} (λ p. (p.0, map moves p.1)) arms)) (run_parts Sight one arm.1 (one order.Elif (moves (order.expr arm.0) s)))

  arms_ran : (arms : List (Expr × List Items)) (s : Sight) → moves (order.all_arms arms) s ≡ arm_moves (map {A = Expr × List Items} {B = Expr × List Move} (λ p. (p.0, map moves p.1)) arms) s
  arms_ran [] s = refl
  arms_ran (arm ∷ arms) s = run_append Sight one (order.expr arm.0) (order.Done 1 ∷ (order.all arm.1 ++ order.further_arms arms)) s
      ∙ run_append Sight one (order.all arm.1) (order.further_arms arms) (one (order.Done 1) (moves (order.expr arm.0) s))
      ∙ further_ran arms (moves (order.all arm.1) (one (order.Done 1) (moves (order.expr arm.0) s)))
      ∙ ap (further_moves (map {A = Expr × List Items} {B = Expr × List Move} (λ p. (p.0, map moves p.1)) arms)) (run_parts Sight one arm.1 (one (order.Done 1) (moves (order.expr arm.0) s)))

  try_ran : (body clauses other : List Items) (s : Sight) → moves (order.all other) (moves (order.all clauses) (moves (order.all body) s)) ≡ all_moves (map moves other) (all_moves (map moves clauses) (all_moves (map moves body) s))
  try_ran body clauses other s = run_parts Sight one other _ ∙ ap (all_moves (map moves other)) (run_parts Sight one clauses _ ∙ ap (all_moves (map moves clauses)) (run_parts Sight one body s))

  in_stmt_ran : (x : Stmt-F Items Items) (s : Sight) → moves (order.in_stmt x) s ≡ stmt_moves (map-Stmt Items Items Move Move moves moves x) s
  in_stmt_ran (Stmt-F.Pass n) s = refl
  in_stmt_ran (Stmt-F.Break n) s = refl
  in_stmt_ran (Stmt-F.Continue n) s = refl
  in_stmt_ran (Stmt-F.Return n e) s = refl
  in_stmt_ran (Stmt-F.Raise n e) s = refl
  in_stmt_ran (Stmt-F.Assert n e) s = refl
  in_stmt_ran (Stmt-F.Del n a i) s = refl
  in_stmt_ran (Stmt-F.Print n es) s = refl
  in_stmt_ran (Stmt-F.Assign n ts e) s = refl
  in_stmt_ran (Stmt-F.Aug n t op e) s = refl
  in_stmt_ran (Stmt-F.Expr n e) s = refl
  in_stmt_ran (Stmt-F.If n arms other) s = run_append Sight one (order.all_arms arms) (order.all other) s ∙ run_parts Sight one other (moves (order.all_arms arms) s) ∙ ap (all_moves (map moves other)) (arms_ran arms s)
  in_stmt_ran (Stmt-F.While n e body) s = run_append Sight one (order.expr e) (order.Done 1 ∷ order.all body) s ∙ run_parts Sight one body (one (order.Done 1) (moves (order.expr e) s))
  in_stmt_ran (Stmt-F.For n t e body) s = run_append Sight one (order.target t) (order.expr e ++ (order.For ∷ order.all body)) s ∙ run_append Sight one (order.expr e) (order.For ∷ order.all body) (moves (order.target t) s) ∙ run_parts Sight one body (one order.For (moves (order.expr e) (moves (order.target t) s)))
  in_stmt_ran (Stmt-F.Try n body clauses other None) s = run_append Sight one (order.all body) (order.all clauses ++ (order.all other ++ [])) (one (order.Done 0) s)
      ∙ run_append Sight one (order.all clauses) (order.all other ++ []) (moves (order.all body) (one (order.Done 0) s))
      ∙ run_append Sight one (order.all other) [] (moves (order.all clauses) (moves (order.all body) (one (order.Done 0) s)))
      ∙ try_ran body clauses other (one (order.Done 0) s)
  in_stmt_ran (Stmt-F.Try n body clauses other (Some last)) s = run_append Sight one (order.all body) (order.all clauses ++ (order.all other ++ order.all last)) (one (order.Done 0) s)
      ∙ run_append Sight one (order.all clauses) (order.all other ++ order.all last) (moves (order.all body) (one (order.Done 0) s))
      ∙ run_append Sight one (order.all other) (order.all last) (moves (order.all clauses) (moves (order.all body) (one (order.Done 0) s)))
      ∙ run_parts Sight one last (moves (order.all other) (moves (order.all clauses) (moves (order.all body) (one (order.Done 0) s))))
      ∙ ap (all_moves (map moves last)) (try_ran body clauses other (one (order.Done 0) s))

  in_clause_ran : (c : Clause-F Items Items) (s : Sight) → moves (order.in_clause c) s ≡ clause_moves (map-Clause Items Items Move Move moves moves c) s
  in_clause_ran c s = ap (λ is. moves is s) (sym (append_assoc (order.catches c.classes) (order.bound_by c.bind) (order.Clause_of ∷ order.all c.body)))
      ∙ run_append Sight one (order.catches c.classes ++ order.bound_by c.bind) (order.Clause_of ∷ order.all c.body) s
      ∙ run_parts Sight one c.body (one order.Clause_of (moves (order.catches c.classes ++ order.bound_by c.bind) s))

  -- ---- the rules

  with_expr_ran : (e : Expr) (s : Sight) → moves (order.expr e ++ order.Done 1 ∷ []) s ≡ settle (rule.node (in_expr e ∷ []) rule.no_site no_part) s
  with_expr_ran e s = run_append Sight one (order.expr e) (order.Done 1 ∷ []) s ∙ with_expr e s

  returned_ran : (e : Option Expr) (s : Sight) → moves (order.returned e) s ≡ settle (rule.returned np bp dotted e) s
  returned_ran None s = no_parts s
  returned_ran (Some e) s = with_expr_ran e s

  del_ran : (a i : Expr) (s : Sight) → moves (order.expr a ++ (order.expr i ++ order.Done 2 ∷ [])) s ≡ settle (rule.node (in_expr a ∷ in_expr i ∷ []) rule.no_site no_part) s
  del_ran a i s = run_append Sight one (order.expr a) (order.expr i ++ order.Done 2 ∷ []) s ∙ run_append Sight one (order.expr i) (order.Done 2 ∷ []) (moves (order.expr a) s)
      ∙ ap (one (order.Done 2)) (ap (moves (order.expr i)) (expr_seen names scopes locals at a s) ∙ expr_seen names scopes locals at i (push (in_expr a) s) ∙ run_pushed one (in_expr a ∷ in_expr i ∷ []) s)
      ∙ done 2 (in_expr a ∷ in_expr i ∷ []) s refl

  print_ran : (es : List Expr) (s : Sight) → moves (order.all (map order.expr es) ++ order.Done (length es) ∷ []) s ≡ settle (rule.node (map in_expr es) rule.no_site no_part) s
  print_ran es s = run_append Sight one (order.all (map order.expr es)) (order.Done (length es) ∷ []) s ∙ ap (one (order.Done (length es))) (exprs_pushed es s) ∙ done (length es) (map in_expr es) s (simp length-map)

  one_longer : (ts : List Target) (d : Found) → length ts + 1 ≡ length (parts_of (map in_target ts ++ d ∷ []))
  one_longer [] d = refl
  one_longer (t ∷ ts) d = let e : length ts + 1 ≡ length (parts_of (map in_target ts ++ d ∷ [])) = one_longer ts d in omega arith

  assign_ran : (ts : List Target) (e : Expr) (s : Sight) → moves (order.all (map order.target ts) ++ (order.expr e ++ order.Done (length ts + 1) ∷ [])) s ≡ settle (rule.node (map in_target ts ++ in_expr e ∷ []) rule.no_site no_part) s
  assign_ran ts e s = run_append Sight one (order.all (map order.target ts)) (order.expr e ++ order.Done (length ts + 1) ∷ []) s
      ∙ run_append Sight one (order.expr e) (order.Done (length ts + 1) ∷ []) (moves (order.all (map order.target ts)) s)
      ∙ ap (one (order.Done (length ts + 1))) (ap (moves (order.expr e)) (targets_moved ts s) ∙ expr_seen names scopes locals at e (all_moves (map push (map in_target ts)) s)
      ∙ sym (moves_append (map push (map in_target ts)) (push (in_expr e) ∷ []) s) ∙ ap (λ ms. all_moves ms s) (sym (map_end (map in_target ts) (in_expr e))) ∙ run_pushed one (map in_target ts ++ in_expr e ∷ []) s)
      ∙ done (length ts + 1) (map in_target ts ++ in_expr e ∷ []) s (one_longer ts (in_expr e))

  aug_ran : (op : BinOp) (t : Target) (e : Expr) (s : Sight) → moves (order.target t ++ (order.expr e ++ order.augmented op ∷ [])) s ≡ settle (rule.node (in_target t ∷ in_expr e ∷ []) (rule.augmented op) no_part) s
  aug_ran op t e s = run_append Sight one (order.target t) (order.expr e ++ order.augmented op ∷ []) s ∙ run_append Sight one (order.expr e) (order.augmented op ∷ []) (moves (order.target t) s)
      ∙ two_parts (order.augmented op) t e s ∙ of_aug op t e s

  further_settled : (arms : List (Expr × List Found)) (s : Sight) → settle (rule.further_arms np bp dotted arms) s ≡ further_moves (map {A = Expr × List Found} {B = Expr × List Move} (λ p. (p.0, map settle p.1)) arms) s
  further_settled [] s = settle_nothing s
  further_settled (arm ∷ arms) s = settle_beside (in_expr arm.0) (rule.beside (rule.all arm.1) (rule.further_arms np bp dotted arms)) s
      ∙ settle_beside (rule.all arm.1) (rule.further_arms np bp dotted arms) (settle (in_expr arm.0) s)
      ∙ further_settled arms (settle (rule.all arm.1) (settle (in_expr arm.0) s))
      ∙ ap (further_moves (map {A = Expr × List Found} {B = Expr × List Move} (λ p. (p.0, map settle p.1)) arms)) (settle_all arm.1 (settle (in_expr arm.0) s) ∙ ap (all_moves (map settle arm.1)) (sym (of_elif arm.0 s)))

  arms_settled : (arms : List (Expr × List Found)) (s : Sight) → settle (rule.all_arms np bp dotted arms) s ≡ arm_moves (map {A = Expr × List Found} {B = Expr × List Move} (λ p. (p.0, map settle p.1)) arms) s
  arms_settled [] s = sym (no_parts s)
  arms_settled (arm ∷ arms) s = settle_beside (rule.node (in_expr arm.0 ∷ []) rule.no_site no_part) (rule.beside (rule.all arm.1) (rule.further_arms np bp dotted arms)) s
      ∙ settle_beside (rule.all arm.1) (rule.further_arms np bp dotted arms) (settle (rule.node (in_expr arm.0 ∷ []) rule.no_site no_part) s)
      ∙ further_settled arms (settle (rule.all arm.1) (settle (rule.node (in_expr arm.0 ∷ []) rule.no_site no_part) s))
      ∙ ap (further_moves (map {A = Expr × List Found} {B = Expr × List Move} (λ p. (p.0, map settle p.1)) arms)) (settle_all arm.1 (settle (rule.node (in_expr arm.0 ∷ []) rule.no_site no_part) s) ∙ ap (all_moves (map settle arm.1)) (sym (with_expr arm.0 s)))

  try_settled : (body clauses other : List Found) (rest : Found) (s : Sight) → settle (rule.beside (rule.node [] rule.no_site no_part) (rule.beside (rule.all body) (rule.beside (rule.all clauses) (rule.beside (rule.all other) rest)))) s
      ≡ settle rest (all_moves (map settle other) (all_moves (map settle clauses) (all_moves (map settle body) (one (order.Done 0) s))))
  try_settled body clauses other rest s = settle_beside (rule.node [] rule.no_site no_part) (rule.beside (rule.all body) (rule.beside (rule.all clauses) (rule.beside (rule.all other) rest))) s
      ∙ ap (settle (rule.beside (rule.all body) (rule.beside (rule.all clauses) (rule.beside (rule.all other) rest)))) (sym (no_parts s))
      ∙ settle_beside (rule.all body) (rule.beside (rule.all clauses) (rule.beside (rule.all other) rest)) (one (order.Done 0) s)
      ∙ ap (settle (rule.beside (rule.all clauses) (rule.beside (rule.all other) rest))) (settle_all body (one (order.Done 0) s))
      ∙ settle_beside (rule.all clauses) (rule.beside (rule.all other) rest) _
      ∙ ap (settle (rule.beside (rule.all other) rest)) (settle_all clauses _)
      ∙ settle_beside (rule.all other) rest _
      ∙ ap (settle rest) (settle_all other _)

  in_stmt_settled : (x : Stmt-F Found Found) (s : Sight) → settle (rule.in_stmt np bp dotted x) s ≡ stmt_moves (map-Stmt Found Found Move Move settle settle x) s
  in_stmt_settled (Stmt-F.Pass n) s = sym (no_parts s)
  in_stmt_settled (Stmt-F.Break n) s = sym (no_parts s)
  in_stmt_settled (Stmt-F.Continue n) s = sym (no_parts s)
  in_stmt_settled (Stmt-F.Return n e) s = sym (returned_ran e s)
  in_stmt_settled (Stmt-F.Raise n e) s = sym (with_expr_ran e s)
  in_stmt_settled (Stmt-F.Assert n e) s = sym (with_expr_ran e s)
  in_stmt_settled (Stmt-F.Del n a i) s = sym (del_ran a i s)
  in_stmt_settled (Stmt-F.Print n es) s = sym (print_ran es s)
  in_stmt_settled (Stmt-F.Assign n ts e) s = sym (assign_ran ts e s)
  in_stmt_settled (Stmt-F.Aug n t op e) s = sym (aug_ran op t e s)
  in_stmt_settled (Stmt-F.Expr n e) s = sym (with_expr_ran e s)
  in_stmt_settled (Stmt-F.If n arms other) s = settle_beside (rule.all_arms np bp dotted arms) (rule.all other) s ∙ settle_all other (settle (rule.all_arms np bp dotted arms) s) ∙ ap (all_moves (map settle other)) (arms_settled arms s)
  in_stmt_settled (Stmt-F.While n e body) s = settle_beside (rule.node (in_expr e ∷ []) rule.no_site no_part) (rule.all body) s ∙ settle_all body _ ∙ ap (all_moves (map settle body)) (sym (with_expr e s))
  in_stmt_settled (Stmt-F.For n t e body) s = settle_beside (rule.node (in_target t ∷ in_expr e ∷ []) rule.a_list no_part) (rule.all body) s ∙ settle_all body _ ∙ ap (all_moves (map settle body)) (sym (of_for t e s))
  in_stmt_settled (Stmt-F.Try n body clauses other None) s = try_settled body clauses other rule.nothing s ∙ settle_nothing _
  in_stmt_settled (Stmt-F.Try n body clauses other (Some last)) s = try_settled body clauses other (rule.all last) s ∙ settle_all last _

  -- the head of a clause has no sites
  further_heads : (of : List (List ℕ)) (s : Sight) → moves (order.further_names of) s ≡ s
  further_heads [] s = refl
  further_heads (name ∷ of) s = further_heads of s

  class_heads : (path : List (List ℕ)) (s : Sight) → moves (order.class_names path) s ≡ s
  class_heads [] s = refl
  class_heads (name ∷ of) s = run_append Sight one (order.further_names of) (order.CaughtEnd ∷ []) s ∙ ap (one order.CaughtEnd) (further_heads of s)

  heads : (paths : List (List (List ℕ))) (s : Sight) → moves (order.catches paths) s ≡ s
  heads [] s = refl
  heads (path ∷ paths) s = run_append Sight one (order.class_names path) (order.catches paths) s ∙ ap (moves (order.catches paths)) (class_heads path s) ∙ heads paths s

  catch_sites : (o : Option ℕ) (name : ℕ) (site : SiteAt) (ss : List SiteAt) → add_sites (site_count (act.Catch name) (bind_seen o).called) site ss ≡ ss
  catch_sites (Some local) name site ss = refl
  catch_sites None name site ss = refl

  bound_head : (name : Option (List ℕ)) (s : Sight) → moves (order.bound_by name) s ≡ s
  bound_head None s = refl
  bound_head (Some name) s = λ j. record { next = s.next; parts = s.parts; sites = catch_sites (local_in locals at (number names name)) (number names name) (record { node = s.next; dict = false }) s.sites j }

  head : (c : List (List (List ℕ))) (name : Option (List ℕ)) (s : Sight) → moves (order.catches c ++ order.bound_by name) s ≡ s
  head c name s = run_append Sight one (order.catches c) (order.bound_by name) s ∙ ap (moves (order.bound_by name)) (heads c s) ∙ bound_head name s

  clause_node : (s : Sight) → one order.Clause_of s ≡ settle (rule.node [] rule.no_site no_part) s
  clause_node s = ap (one order.Clause_of) (run_pushed one [] s) ∙ ends order.Clause_of [] rule.no_site s refl (append-nil s.parts) (sym (append-nil _))

  in_clause_settled : (c : Clause-F Found Found) (s : Sight) → settle (rule.in_clause np bp dotted c) s ≡ clause_moves (map-Clause Found Found Move Move settle settle c) s
  in_clause_settled c s = settle_beside (rule.node [] rule.no_site no_part) (rule.all c.body) s ∙ settle_all c.body _ ∙ ap (all_moves (map settle c.body)) (sym (clause_node s) ∙ ap (one order.Clause_of) (sym (head c.classes c.bind s)))

  stmt_path : (st : Stmt) → moves (order.stmt st) ≡ settle (rule.stmt np bp dotted st)
  stmt_path st = stmt_fuses Items Items Move Move moves moves order.in_stmt order.in_clause stmt_moves clause_moves (λ x i s. in_stmt_ran x s i) (λ x i s. in_clause_ran x s i) st
      ∙ sym (stmt_fuses Found Found Move Move settle settle (rule.in_stmt np bp dotted) (rule.in_clause np bp dotted) stmt_moves clause_moves (λ x i s. in_stmt_settled x s i) (λ x i s. in_clause_settled x s i) st)

  -- what the code sees over the items of a block is what the rules give for it
  pub block_seen : (body : List Stmt) (s : Sight) → moves (order.block body) s ≡ settle (rule.block np bp dotted body) s
  block_seen [] s = sym (settle_nothing s)
  block_seen (st ∷ body) s = run_append Sight one (order.stmt st) (order.block body) s ∙ ap (moves (order.block body)) (ap (λ f. f s) (stmt_path st)) ∙ block_seen body (settle (rule.stmt np bp dotted st) s) ∙ sym (settle_beside (rule.stmt np bp dotted st) (rule.block np bp dotted body) s)
