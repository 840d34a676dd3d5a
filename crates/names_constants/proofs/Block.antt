-- The items of statements, one by one, give what the visit of them gives.
use Rattle.std.proofs.Common.{◌≡◌, ℕ, ◌+◌, suc, List, [], ◌∷◌, ◌++◌, append_assoc, append-nil, length, map, Bool, Option, Some, None, sym, ap, ◌∙◌, refl, arith}
use Rattle.rpy_tree.specs.declared.program.Const.{Const}
use Rattle.rpy_tree.specs.declared.syntax.BinOp.{BinOp}
use Rattle.rpy_tree.specs.declared.syntax.BinOp.TheVariants as binary
use Rattle.rpy_tree.specs.declared.syntax.Expr.{Expr}
use Rattle.rpy_tree.specs.declared.syntax.Target.{Target}
use Rattle.rpy_tree.specs.declared.syntax.Stmt.{Stmt, map-Stmt}
use Rattle.rpy_tree.specs.declared.syntax.Stmt.TheFolds.{map-Clause}
use Rattle.rpy_tree.specs.declared.syntax.Stmt.TheOpen.{Stmt-F, Clause-F}
use Rattle.names_found.specs.Finder.{add_part}
use Rattle.names_found.specs.Part as parts
use Rattle.names_found.specs.declared.part.Part.{Part}
use Rattle.names_found.specs.declared.step.SiteAt.{SiteAt}
use Rattle.names_rules.specs.Order as order
use Rattle.names_rules.specs.Order.{Item, Items}
use Rattle.names_rules.specs.Events.{Names, act_of}
use Rattle.names_rules.proofs.Runs.{run, run_all, run_append, run_parts}
use Rattle.names_rules.proofs.StmtFusion.{stmt_fuses}
use Rattle.names_value.specs.Slots.{without}
use Rattle.names_value.specs.declared.slots.Slot.{Slot}
use Rattle.names_constants.specs.Value.{Piece, Kept, sites, made, arguments, at_node}
use Rattle.names_constants.specs.Visit as visit
use Rattle.names_constants.proofs.Slots.{slots}
use Rattle.names_constants.proofs.Sight as sight
use Rattle.names_constants.proofs.Sight.{Sight}

module _ (names : Names) (np bp : List ℕ → Part) (dotted : Part → List ℕ → Part) (whole : Bool) (constants : List (Option Const)) where
  abbrev one : Item → Sight → Sight
  one = sight.one names np bp dotted whole constants

  abbrev at : Item → List Piece → Kept → Piece × Kept
  at = at_node np bp dotted whole constants

  abbrev moves : Items → Sight → Sight
  moves = run Sight one

  abbrev all_moves : List (Sight → Sight) → Sight → Sight
  all_moves = run_all Sight one

  abbrev Visit : Type 0
  Visit = Kept → Piece × Kept

  abbrev visited : List Visit → Kept → List Piece × Kept
  visited vs k = visit.parts Piece Kept at vs k

  abbrev push : Visit → Sight → Sight
  push = sight.push names np bp dotted whole constants

  abbrev pushed : List Visit → Sight → Sight
  pushed = sight.pushed names np bp dotted whole constants

  abbrev expr : Expr → Visit
  expr = visit.expr Piece Kept at

  abbrev target : Target → Visit
  target = visit.target Piece Kept at

  abbrev closed : Item → List Visit → Kept → Kept
  closed = visit.closed Piece Kept at

  -- a statement leaves no part
  abbrev pub settle : (Kept → Kept) → Sight → Sight
  settle f s = record { parts = s.parts; slots = s.slots; kept = f s.kept }

  expr_seen : (e : Expr) (s : Sight) → moves (order.expr e) s ≡ push (expr e) s
  expr_seen = sight.expr_seen names np bp dotted whole constants

  target_seen : (t : Target) (s : Sight) → moves (order.target t) s ≡ push (target t) s
  target_seen = sight.target_seen names np bp dotted whole constants

  run_pushed : (vs : List Visit) (s : Sight) → all_moves (map push vs) s ≡ pushed vs s
  run_pushed = sight.run_pushed names np bp dotted whole constants

  settle_all : (fs : List (Kept → Kept)) (s : Sight) → settle (visit.all Piece Kept at fs) s ≡ all_moves (map settle fs) s
  settle_all [] s = refl
  settle_all (f ∷ fs) s = settle_all fs (settle f s)

  -- a statement's node takes its parts
  ends : (i : Item) (ps : List Piece) (Ps : List Part) (Qs : List Slot) (k : Kept)
      → add_part (act_of names i) (sight.part_at names np bp dotted whole constants i (Ps ++ sight.parts_of names np bp dotted whole constants ps)) (Ps ++ sight.parts_of names np bp dotted whole constants ps) ≡ Ps
      → sight.slots_at names np bp dotted whole constants i k.node (length k.sites) (sight.part_at names np bp dotted whole constants i (Ps ++ sight.parts_of names np bp dotted whole constants ps)) (Qs ++ slots ps) ≡ Qs
      → (one i (record { parts = Ps ++ sight.parts_of names np bp dotted whole constants ps; slots = Qs ++ slots ps; kept = k })).kept ≡ (at i ps k).1
      → one i (record { parts = Ps ++ sight.parts_of names np bp dotted whole constants ps; slots = Qs ++ slots ps; kept = k }) ≡ record { parts = Ps; slots = Qs; kept = (at i ps k).1 }
  ends i ps Ps Qs k p q e = λ j. record { parts = p j; slots = q j; kept = e j }

  done : (count : ℕ) (vs : List Visit) (s : Sight) → count ≡ length (visited vs s.kept).0 → one (order.Done count) (pushed vs s) ≡ settle (closed (order.Done count) vs) s
  done count vs s e = let r : List Piece × Kept = visited vs s.kept in
      ends (order.Done count) r.0 s.parts s.slots r.1
      (sight.no_parts_left names np bp dotted whole constants s.parts r.0 count e)
      (sight.no_slots_left names np bp dotted whole constants s.slots r.0 count e)
      (λ j. record { node = r.1.node + 1; sites = sym (append-nil r.1.sites) j; made = r.1.made ++ []; arguments = r.1.arguments ++ [] })

  exprs_pushed : (es : List Expr) (s : Sight) → moves (order.all (map order.expr es)) s ≡ all_moves (map push (map expr es)) s
  exprs_pushed [] s = refl
  exprs_pushed (e ∷ es) s = run_append Sight one (order.expr e) (order.all (map order.expr es)) s ∙ ap (moves (order.all (map order.expr es))) (expr_seen e s) ∙ exprs_pushed es (push (expr e) s)

  targets_pushed : (ts : List Target) (s : Sight) → moves (order.all (map order.target ts)) s ≡ all_moves (map push (map target ts)) s
  targets_pushed [] s = refl
  targets_pushed (t ∷ ts) s = run_append Sight one (order.target t) (order.all (map order.target ts)) s ∙ ap (moves (order.all (map order.target ts))) (target_seen t s) ∙ targets_pushed ts (push (target t) s)

  moves_append : (xs ys : List (Sight → Sight)) (s : Sight) → all_moves (xs ++ ys) s ≡ all_moves ys (all_moves xs s)
  moves_append [] ys s = refl
  moves_append (x ∷ xs) ys s = moves_append xs ys (x s)

  map_end : (vs : List Visit) (v : Visit) → map push (vs ++ v ∷ []) ≡ map push vs ++ push v ∷ []
  map_end [] v = refl
  map_end (x ∷ vs) v = ap (λ rest. push x ∷ rest) (map_end vs v)

  one_part : (i : Item) (e : Expr) (s : Sight) → one i (moves (order.expr e) s) ≡ one i (pushed (expr e ∷ []) s)
  one_part i e s = ap (one i) (expr_seen e s)

  two_parts : (i : Item) (t : Target) (e : Expr) (s : Sight) → one i (moves (order.expr e) (moves (order.target t) s)) ≡ one i (pushed (target t ∷ expr e ∷ []) s)
  two_parts i t e s = ap (one i) (ap (moves (order.expr e)) (target_seen t s) ∙ expr_seen e (push (target t) s) ∙ run_pushed (target t ∷ expr e ∷ []) s)

  no_parts : (s : Sight) → one (order.Done 0) s ≡ settle (closed (order.Done 0) []) s
  no_parts s = ap (one (order.Done 0)) (run_pushed [] s) ∙ done 0 [] s refl

  with_expr : (e : Expr) (s : Sight) → one (order.Done 1) (moves (order.expr e) s) ≡ settle (closed (order.Done 1) (expr e ∷ [])) s
  with_expr e s = one_part (order.Done 1) e s ∙ done 1 (expr e ∷ []) s refl

  of_elif : (e : Expr) (s : Sight) → one order.Elif (moves (order.expr e) s) ≡ settle (closed order.Elif (expr e ∷ [])) s
  of_elif e s = let r : List Piece × Kept = visited (expr e ∷ []) s.kept in
      one_part order.Elif e s ∙ ends order.Elif r.0 s.parts s.slots r.1
      (sight.no_parts_left names np bp dotted whole constants s.parts r.0 1 refl)
      (sight.no_slots_left names np bp dotted whole constants s.slots r.0 1 refl)
      (λ j. record { node = r.1.node; sites = sym (append-nil r.1.sites) j; made = r.1.made ++ []; arguments = r.1.arguments ++ [] })

  of_two : (i : Item) (a b : Visit) (s : Sight)
      → add_part (act_of names i) (sight.part_at names np bp dotted whole constants i (s.parts ++ sight.parts_of names np bp dotted whole constants (visited (a ∷ b ∷ []) s.kept).0)) (s.parts ++ sight.parts_of names np bp dotted whole constants (visited (a ∷ b ∷ []) s.kept).0) ≡ s.parts
      → sight.slots_at names np bp dotted whole constants i (visited (a ∷ b ∷ []) s.kept).1.node (length (visited (a ∷ b ∷ []) s.kept).1.sites) (sight.part_at names np bp dotted whole constants i (s.parts ++ sight.parts_of names np bp dotted whole constants (visited (a ∷ b ∷ []) s.kept).0)) (s.slots ++ slots (visited (a ∷ b ∷ []) s.kept).0) ≡ s.slots
      → (one i (pushed (a ∷ b ∷ []) s)).kept ≡ closed i (a ∷ b ∷ []) s.kept
      → one i (pushed (a ∷ b ∷ []) s) ≡ settle (closed i (a ∷ b ∷ [])) s
  of_two i a b s p q e = ends i (visited (a ∷ b ∷ []) s.kept).0 s.parts s.slots (visited (a ∷ b ∷ []) s.kept).1 p q e

  none_left : (a b : Visit) (s : Sight) → parts.without 2 (s.parts ++ sight.parts_of names np bp dotted whole constants (visited (a ∷ b ∷ []) s.kept).0) ≡ s.parts
  none_left a b s = sight.no_parts_left names np bp dotted whole constants s.parts (visited (a ∷ b ∷ []) s.kept).0 2 refl

  no_slot_left : (a b : Visit) (s : Sight) → without 2 (s.slots ++ slots (visited (a ∷ b ∷ []) s.kept).0) ≡ s.slots
  no_slot_left a b s = sight.no_slots_left names np bp dotted whole constants s.slots (visited (a ∷ b ∷ []) s.kept).0 2 refl

  for_ends : (t : Target) (e : Expr) (s : Sight) → one order.For (moves (order.expr e) (moves (order.target t) s)) ≡ settle (closed order.For (target t ∷ expr e ∷ [])) s
  for_ends t e s = two_parts order.For t e s ∙ of_two order.For (target t) (expr e) s (none_left (target t) (expr e) s) (no_slot_left (target t) (expr e) s) refl

  aug_ends : (op : BinOp) (t : Target) (e : Expr) (s : Sight) → one (order.augmented op) (pushed (target t ∷ expr e ∷ []) s) ≡ settle (closed (order.augmented op) (target t ∷ expr e ∷ [])) s
  aug_ends binary.Mul t e s = of_two order.Multiply (target t) (expr e) s (none_left (target t) (expr e) s) (no_slot_left (target t) (expr e) s) refl
  aug_ends other t e s = done 2 (target t ∷ expr e ∷ []) s refl

  -- ---- what each layer does

  abbrev Move : Type 0
  Move = Sight → Sight

  abbrev further_moves : List (Expr × List Move) → Move
  further_moves [] s = s
  further_moves (arm ∷ arms) s = further_moves arms (all_moves arm.1 (one order.Elif (moves (order.expr arm.0) s)))

  abbrev arm_moves : List (Expr × List Move) → Move
  arm_moves [] s = one (order.Done 0) s
  arm_moves (arm ∷ arms) s = further_moves arms (all_moves arm.1 (one (order.Done 1) (moves (order.expr arm.0) s)))

  abbrev finally_moves : Option (List Move) → Move
  finally_moves None s = s
  finally_moves (Some body) s = all_moves body s

  abbrev stmt_moves : Stmt-F Move Move → Move
  stmt_moves (Stmt-F.If n arms other) s = all_moves other (arm_moves arms s)
  stmt_moves (Stmt-F.While n e body) s = all_moves body (one (order.Done 1) (moves (order.expr e) s))
  stmt_moves (Stmt-F.For n t e body) s = all_moves body (one order.For (moves (order.expr e) (moves (order.target t) s)))
  stmt_moves (Stmt-F.Try n body clauses other final) s = finally_moves final (all_moves other (all_moves clauses (all_moves body (one (order.Done 0) s))))
  stmt_moves (Stmt-F.Pass n) s = moves (order.in_stmt (Stmt-F.Pass n)) s
  stmt_moves (Stmt-F.Break n) s = moves (order.in_stmt (Stmt-F.Break n)) s
  stmt_moves (Stmt-F.Continue n) s = moves (order.in_stmt (Stmt-F.Continue n)) s
  stmt_moves (Stmt-F.Return n e) s = moves (order.returned e) s
  stmt_moves (Stmt-F.Raise n e) s = moves (order.in_stmt (Stmt-F.Raise n e)) s
  stmt_moves (Stmt-F.Assert n e) s = moves (order.in_stmt (Stmt-F.Assert n e)) s
  stmt_moves (Stmt-F.Del n a i) s = moves (order.in_stmt (Stmt-F.Del n a i)) s
  stmt_moves (Stmt-F.Print n es) s = moves (order.in_stmt (Stmt-F.Print n es)) s
  stmt_moves (Stmt-F.Assign n ts e) s = moves (order.in_stmt (Stmt-F.Assign n ts e)) s
  stmt_moves (Stmt-F.Aug n t op e) s = moves (order.in_stmt (Stmt-F.Aug n t op e)) s
  stmt_moves (Stmt-F.Expr n e) s = moves (order.in_stmt (Stmt-F.Expr n e)) s

  abbrev clause_moves : Clause-F Move Move → Move
  clause_moves c s = all_moves c.body (one order.Clause_of (moves (order.catches c.classes ++ order.bound_by c.bind) s))

  -- ---- items

  further_ran : (arms : List (Expr × List Items)) (s : Sight) → moves (order.further_arms arms) s ≡ further_moves (map {A = Expr × List Items} {B = Expr × List Move} (λ p. (p.0, map moves p.1)) arms) s
  further_ran [] s = refl
  further_ran (arm ∷ arms) s = run_append Sight one (order.expr arm.0) (order.Elif ∷ (order.all arm.1 ++ order.further_arms arms)) s
      ∙ run_append Sight one (order.all arm.1) (order.further_arms arms) (one order.Elif (moves (order.expr arm.0) s))
      ∙ further_ran arms (moves (order.all arm.1) (one order.Elif (moves (order.expr arm.0) s)))
      ∙ ap (further_moves (map {A = Expr × List Items} {B = Expr × List Move} (λ p. (p.0, map moves p.1)) arms)) (run_parts Sight one arm.1 (one order.Elif (moves (order.expr arm.0) s)))

  arms_ran : (arms : List (Expr × List Items)) (s : Sight) → moves (order.all_arms arms) s ≡ arm_moves (map {A = Expr × List Items} {B = Expr × List Move} (λ p. (p.0, map moves p.1)) arms) s
  arms_ran [] s = refl
  arms_ran (arm ∷ arms) s = run_append Sight one (order.expr arm.0) (order.Done 1 ∷ (order.all arm.1 ++ order.further_arms arms)) s
      ∙ run_append Sight one (order.all arm.1) (order.further_arms arms) (one (order.Done 1) (moves (order.expr arm.0) s))
      ∙ further_ran arms (moves (order.all arm.1) (one (order.Done 1) (moves (order.expr arm.0) s)))
      ∙ ap (further_moves (map {A = Expr × List Items} {B = Expr × List Move} (λ p. (p.0, map moves p.1)) arms)) (run_parts Sight one arm.1 (one (order.Done 1) (moves (order.expr arm.0) s)))

  try_ran : (body clauses other : List Items) (s : Sight) → moves (order.all other) (moves (order.all clauses) (moves (order.all body) s)) ≡ all_moves (map moves other) (all_moves (map moves clauses) (all_moves (map moves body) s))
  try_ran body clauses other s = run_parts Sight one other _ ∙ ap (all_moves (map moves other)) (run_parts Sight one clauses _ ∙ ap (all_moves (map moves clauses)) (run_parts Sight one body s))

  in_stmt_ran : (x : Stmt-F Items Items) (s : Sight) → moves (order.in_stmt x) s ≡ stmt_moves (map-Stmt Items Items Move Move moves moves x) s
  in_stmt_ran (Stmt-F.Pass n) s = refl
  in_stmt_ran (Stmt-F.Break n) s = refl
  in_stmt_ran (Stmt-F.Continue n) s = refl
  in_stmt_ran (Stmt-F.Return n e) s = refl
  in_stmt_ran (Stmt-F.Raise n e) s = refl
  in_stmt_ran (Stmt-F.Assert n e) s = refl
  in_stmt_ran (Stmt-F.Del n a i) s = refl
  in_stmt_ran (Stmt-F.Print n es) s = refl
  in_stmt_ran (Stmt-F.Assign n ts e) s = refl
  in_stmt_ran (Stmt-F.Aug n t op e) s = refl
  in_stmt_ran (Stmt-F.Expr n e) s = refl
  in_stmt_ran (Stmt-F.If n arms other) s = run_append Sight one (order.all_arms arms) (order.all other) s ∙ run_parts Sight one other (moves (order.all_arms arms) s) ∙ ap (all_moves (map moves other)) (arms_ran arms s)
  in_stmt_ran (Stmt-F.While n e body) s = run_append Sight one (order.expr e) (order.Done 1 ∷ order.all body) s ∙ run_parts Sight one body (one (order.Done 1) (moves (order.expr e) s))
  in_stmt_ran (Stmt-F.For n t e body) s = run_append Sight one (order.target t) (order.expr e ++ (order.For ∷ order.all body)) s ∙ run_append Sight one (order.expr e) (order.For ∷ order.all body) (moves (order.target t) s) ∙ run_parts Sight one body (one order.For (moves (order.expr e) (moves (order.target t) s)))
  in_stmt_ran (Stmt-F.Try n body clauses other None) s = run_append Sight one (order.all body) (order.all clauses ++ (order.all other ++ [])) (one (order.Done 0) s)
      ∙ run_append Sight one (order.all clauses) (order.all other ++ []) (moves (order.all body) (one (order.Done 0) s))
      ∙ run_append Sight one (order.all other) [] (moves (order.all clauses) (moves (order.all body) (one (order.Done 0) s)))
      ∙ try_ran body clauses other (one (order.Done 0) s)
  in_stmt_ran (Stmt-F.Try n body clauses other (Some last)) s = run_append Sight one (order.all body) (order.all clauses ++ (order.all other ++ order.all last)) (one (order.Done 0) s)
      ∙ run_append Sight one (order.all clauses) (order.all other ++ order.all last) (moves (order.all body) (one (order.Done 0) s))
      ∙ run_append Sight one (order.all other) (order.all last) (moves (order.all clauses) (moves (order.all body) (one (order.Done 0) s)))
      ∙ run_parts Sight one last (moves (order.all other) (moves (order.all clauses) (moves (order.all body) (one (order.Done 0) s))))
      ∙ ap (all_moves (map moves last)) (try_ran body clauses other (one (order.Done 0) s))

  in_clause_ran : (c : Clause-F Items Items) (s : Sight) → moves (order.in_clause c) s ≡ clause_moves (map-Clause Items Items Move Move moves moves c) s
  in_clause_ran c s = ap (λ is. moves is s) (sym (append_assoc (order.catches c.classes) (order.bound_by c.bind) (order.Clause_of ∷ order.all c.body)))
      ∙ run_append Sight one (order.catches c.classes ++ order.bound_by c.bind) (order.Clause_of ∷ order.all c.body) s
      ∙ run_parts Sight one c.body (one order.Clause_of (moves (order.catches c.classes ++ order.bound_by c.bind) s))

  -- ---- visits

  with_expr_ran : (e : Expr) (s : Sight) → moves (order.expr e ++ order.Done 1 ∷ []) s ≡ settle (closed (order.Done 1) (expr e ∷ [])) s
  with_expr_ran e s = run_append Sight one (order.expr e) (order.Done 1 ∷ []) s ∙ with_expr e s

  returned_ran : (e : Option Expr) (s : Sight) → moves (order.returned e) s ≡ settle (visit.returned Piece Kept at e) s
  returned_ran None s = no_parts s
  returned_ran (Some e) s = with_expr_ran e s

  del_ran : (a i : Expr) (s : Sight) → moves (order.expr a ++ (order.expr i ++ order.Done 2 ∷ [])) s ≡ settle (closed (order.Done 2) (expr a ∷ expr i ∷ [])) s
  del_ran a i s = run_append Sight one (order.expr a) (order.expr i ++ order.Done 2 ∷ []) s ∙ run_append Sight one (order.expr i) (order.Done 2 ∷ []) (moves (order.expr a) s)
      ∙ ap (one (order.Done 2)) (ap (moves (order.expr i)) (expr_seen a s) ∙ expr_seen i (push (expr a) s) ∙ run_pushed (expr a ∷ expr i ∷ []) s)
      ∙ done 2 (expr a ∷ expr i ∷ []) s refl

  mapped_length : (vs : List Visit) (k : Kept) → length vs ≡ length (visited vs k).0
  mapped_length = sight.visited_length names np bp dotted whole constants

  print_ran : (es : List Expr) (s : Sight) → moves (order.all (map order.expr es) ++ order.Done (length es) ∷ []) s ≡ settle (closed (order.Done (length es)) (map expr es)) s
  print_ran es s = run_append Sight one (order.all (map order.expr es)) (order.Done (length es) ∷ []) s ∙ ap (one (order.Done (length es))) (exprs_pushed es s ∙ run_pushed (map expr es) s)
      ∙ done (length es) (map expr es) s (as_many es ∙ mapped_length (map expr es) s.kept) where
        next_one : (n m : ℕ) → n ≡ m → suc n ≡ suc m
        next_one n m e = ap suc e

        as_many : (es : List Expr) → length es ≡ length (map expr es)
        as_many [] = refl
        as_many (e ∷ es) = next_one (length es) (length (map expr es)) (as_many es)

  one_longer : (ts : List Target) (v : Visit) → length ts + 1 ≡ length (map target ts ++ v ∷ [])
  one_longer [] v = refl
  one_longer (t ∷ ts) v = let e : length ts + 1 ≡ length (map target ts ++ v ∷ []) = one_longer ts v in omega arith

  assign_ran : (ts : List Target) (e : Expr) (s : Sight) → moves (order.all (map order.target ts) ++ (order.expr e ++ order.Done (length ts + 1) ∷ [])) s ≡ settle (closed (order.Done (length ts + 1)) (map target ts ++ expr e ∷ [])) s
  assign_ran ts e s = run_append Sight one (order.all (map order.target ts)) (order.expr e ++ order.Done (length ts + 1) ∷ []) s
      ∙ run_append Sight one (order.expr e) (order.Done (length ts + 1) ∷ []) (moves (order.all (map order.target ts)) s)
      ∙ ap (one (order.Done (length ts + 1))) (ap (moves (order.expr e)) (targets_pushed ts s) ∙ expr_seen e (all_moves (map push (map target ts)) s)
      ∙ sym (moves_append (map push (map target ts)) (push (expr e) ∷ []) s) ∙ ap (λ ms. all_moves ms s) (sym (map_end (map target ts) (expr e))) ∙ run_pushed (map target ts ++ expr e ∷ []) s)
      ∙ done (length ts + 1) (map target ts ++ expr e ∷ []) s (one_longer ts (expr e) ∙ mapped_length (map target ts ++ expr e ∷ []) s.kept)

  aug_ran : (op : BinOp) (t : Target) (e : Expr) (s : Sight) → moves (order.target t ++ (order.expr e ++ order.augmented op ∷ [])) s ≡ settle (closed (order.augmented op) (target t ∷ expr e ∷ [])) s
  aug_ran op t e s = run_append Sight one (order.target t) (order.expr e ++ order.augmented op ∷ []) s ∙ run_append Sight one (order.expr e) (order.augmented op ∷ []) (moves (order.target t) s)
      ∙ two_parts (order.augmented op) t e s ∙ aug_ends op t e s

  further_settled : (arms : List (Expr × List (Kept → Kept))) (s : Sight) → settle (visit.further_arms Piece Kept at arms) s ≡ further_moves (map {A = Expr × List (Kept → Kept)} {B = Expr × List Move} (λ p. (p.0, map settle p.1)) arms) s
  further_settled [] s = refl
  further_settled (arm ∷ arms) s = further_settled arms (settle (visit.all Piece Kept at arm.1) (settle (closed order.Elif (expr arm.0 ∷ [])) s))
      ∙ ap (further_moves (map {A = Expr × List (Kept → Kept)} {B = Expr × List Move} (λ p. (p.0, map settle p.1)) arms)) (settle_all arm.1 (settle (closed order.Elif (expr arm.0 ∷ [])) s) ∙ ap (all_moves (map settle arm.1)) (sym (of_elif arm.0 s)))

  arms_settled : (arms : List (Expr × List (Kept → Kept))) (s : Sight) → settle (visit.all_arms Piece Kept at arms) s ≡ arm_moves (map {A = Expr × List (Kept → Kept)} {B = Expr × List Move} (λ p. (p.0, map settle p.1)) arms) s
  arms_settled [] s = sym (no_parts s)
  arms_settled (arm ∷ arms) s = further_settled arms (settle (visit.all Piece Kept at arm.1) (settle (closed (order.Done 1) (expr arm.0 ∷ [])) s))
      ∙ ap (further_moves (map {A = Expr × List (Kept → Kept)} {B = Expr × List Move} (λ p. (p.0, map settle p.1)) arms)) (settle_all arm.1 (settle (closed (order.Done 1) (expr arm.0 ∷ [])) s) ∙ ap (all_moves (map settle arm.1)) (sym (with_expr arm.0 s)))

  try_settled : (body clauses other : List (Kept → Kept)) (s : Sight) → settle (λ k. visit.all Piece Kept at other (visit.all Piece Kept at clauses (visit.all Piece Kept at body (closed (order.Done 0) [] k)))) s
      ≡ all_moves (map settle other) (all_moves (map settle clauses) (all_moves (map settle body) (one (order.Done 0) s)))
  try_settled body clauses other s = settle_all other _ ∙ ap (all_moves (map settle other)) (settle_all clauses _ ∙ ap (all_moves (map settle clauses)) (settle_all body _ ∙ ap (all_moves (map settle body)) (sym (no_parts s))))

  in_stmt_settled : (x : Stmt-F (Kept → Kept) (Kept → Kept)) (s : Sight) → settle (visit.in_stmt Piece Kept at x) s ≡ stmt_moves (map-Stmt (Kept → Kept) (Kept → Kept) Move Move settle settle x) s
  in_stmt_settled (Stmt-F.Pass n) s = sym (no_parts s)
  in_stmt_settled (Stmt-F.Break n) s = sym (no_parts s)
  in_stmt_settled (Stmt-F.Continue n) s = sym (no_parts s)
  in_stmt_settled (Stmt-F.Return n e) s = sym (returned_ran e s)
  in_stmt_settled (Stmt-F.Raise n e) s = sym (with_expr_ran e s)
  in_stmt_settled (Stmt-F.Assert n e) s = sym (with_expr_ran e s)
  in_stmt_settled (Stmt-F.Del n a i) s = sym (del_ran a i s)
  in_stmt_settled (Stmt-F.Print n es) s = sym (print_ran es s)
  in_stmt_settled (Stmt-F.Assign n ts e) s = sym (assign_ran ts e s)
  in_stmt_settled (Stmt-F.Aug n t op e) s = sym (aug_ran op t e s)
  in_stmt_settled (Stmt-F.Expr n e) s = sym (with_expr_ran e s)
  in_stmt_settled (Stmt-F.If n arms other) s = settle_all other (settle (visit.all_arms Piece Kept at arms) s) ∙ ap (all_moves (map settle other)) (arms_settled arms s)
  in_stmt_settled (Stmt-F.While n e body) s = settle_all body (settle (closed (order.Done 1) (expr e ∷ [])) s) ∙ ap (all_moves (map settle body)) (sym (with_expr e s))
  in_stmt_settled (Stmt-F.For n t e body) s = settle_all body (settle (closed order.For (target t ∷ expr e ∷ [])) s) ∙ ap (all_moves (map settle body)) (sym (for_ends t e s))
  in_stmt_settled (Stmt-F.Try n body clauses other None) s = try_settled body clauses other s
  in_stmt_settled (Stmt-F.Try n body clauses other (Some last)) s = settle_all last _ ∙ ap (all_moves (map settle last)) (try_settled body clauses other s)

  -- the head of a clause keeps what is kept
  head_kept : (s : Sight) (ss : List SiteAt) → ss ≡ s.kept.sites → record { parts = s.parts; slots = s.slots; kept = record { node = s.kept.node; sites = ss; made = s.kept.made ++ []; arguments = s.kept.arguments ++ [] } } ≡ s
  head_kept s ss e = λ j. record { parts = s.parts; slots = s.slots; kept = record { node = s.kept.node; sites = e j; made = append-nil s.kept.made j; arguments = append-nil s.kept.arguments j } }

  further_heads : (of : List (List ℕ)) (s : Sight) → moves (order.further_names of) s ≡ s
  further_heads [] s = refl
  further_heads (name ∷ of) s = ap (moves (order.further_names of)) (head_kept s s.kept.sites refl) ∙ further_heads of s

  class_heads : (path : List (List ℕ)) (s : Sight) → moves (order.class_names path) s ≡ s
  class_heads [] s = refl
  class_heads (name ∷ of) s = ap (moves (order.further_names of ++ order.CaughtEnd ∷ [])) (head_kept s s.kept.sites refl) ∙ run_append Sight one (order.further_names of) (order.CaughtEnd ∷ []) s ∙ ap (one order.CaughtEnd) (further_heads of s) ∙ head_kept s s.kept.sites refl

  heads : (paths : List (List (List ℕ))) (s : Sight) → moves (order.catches paths) s ≡ s
  heads [] s = refl
  heads (path ∷ paths) s = run_append Sight one (order.class_names path) (order.catches paths) s ∙ ap (moves (order.catches paths)) (class_heads path s) ∙ heads paths s

  bound_head : (name : Option (List ℕ)) (s : Sight) → moves (order.bound_by name) s ≡ s
  bound_head None s = refl
  bound_head (Some name) s = head_kept s s.kept.sites refl

  head : (c : List (List (List ℕ))) (name : Option (List ℕ)) (s : Sight) → moves (order.catches c ++ order.bound_by name) s ≡ s
  head c name s = run_append Sight one (order.catches c) (order.bound_by name) s ∙ ap (moves (order.bound_by name)) (heads c s) ∙ bound_head name s

  clause_node : (s : Sight) → one order.Clause_of s ≡ settle (closed order.Clause_of []) s
  clause_node s = λ j. record { parts = s.parts; slots = s.slots; kept = record { node = s.kept.node + 1; sites = sym (append-nil s.kept.sites) j; made = s.kept.made ++ []; arguments = s.kept.arguments ++ [] } }

  in_clause_settled : (c : Clause-F (Kept → Kept) (Kept → Kept)) (s : Sight) → settle (visit.in_clause Piece Kept at c) s ≡ clause_moves (map-Clause (Kept → Kept) (Kept → Kept) Move Move settle settle c) s
  in_clause_settled c s = settle_all c.body (settle (closed order.Clause_of []) s) ∙ ap (all_moves (map settle c.body)) (sym (clause_node s) ∙ ap (one order.Clause_of) (sym (head c.classes c.bind s)))

  stmt_path : (st : Stmt) → moves (order.stmt st) ≡ settle (visit.stmt Piece Kept at st)
  stmt_path st = stmt_fuses Items Items Move Move moves moves order.in_stmt order.in_clause stmt_moves clause_moves (λ x i s. in_stmt_ran x s i) (λ x i s. in_clause_ran x s i) st
      ∙ sym (stmt_fuses (Kept → Kept) (Kept → Kept) Move Move settle settle (visit.in_stmt Piece Kept at) (visit.in_clause Piece Kept at) stmt_moves clause_moves (λ x i s. in_stmt_settled x s i) (λ x i s. in_clause_settled x s i) st)

  pub block_seen : (body : List Stmt) (s : Sight) → moves (order.block body) s ≡ settle (visit.block Piece Kept at body) s
  block_seen [] s = refl
  block_seen (st ∷ body) s = run_append Sight one (order.stmt st) (order.block body) s ∙ ap (moves (order.block body)) (ap (λ f. f s) (stmt_path st)) ∙ block_seen body (settle (visit.stmt Piece Kept at st) s)
