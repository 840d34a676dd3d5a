-- Items that change a state one by one, as a fold over the tree.
use Rattle.std.proofs.Common.{◌≡◌, ◌+◌, List, [], ◌∷◌, ◌++◌, Some, None, append_assoc, append-nil, length, map, sym, ap, ◌∙◌, refl}
use Rattle.std.proofs.lemmas.List.{length-map}
use Rattle.rpy_tree.specs.declared.syntax.Expr.{Expr, map-Expr, fold-Expr}
use Rattle.rpy_tree.specs.declared.syntax.Expr.TheFolds.{map-Target, fold-Target}
use Rattle.rpy_tree.specs.declared.syntax.Expr.TheOpen.{Expr-F, Target-F}
use Rattle.rpy_tree.specs.declared.syntax.Target.{Target}
use Rattle.names_rules.specs.Order as order
use Rattle.names_rules.specs.Order.{Item, Items}
use Rattle.names_rules.specs.Parts.{listed, both, expr_parts, target_parts, expr_item, target_item}
use Rattle.names_rules.proofs.Fusion.{expr_fuses, target_fuses}

pairs_all : (ps : List (Items × Items)) → order.all_pairs ps ≡ order.all (both ps)
pairs_all [] = refl
pairs_all (p ∷ ps) = ap (λ rest. p.0 ++ (p.1 ++ rest)) (pairs_all ps)

pub in_expr_parts : (x : Expr-F Items Items) → order.in_expr x ≡ order.all (expr_parts x) ++ expr_item x ∷ []
in_expr_parts (Expr-F.Int n v) = refl
in_expr_parts (Expr-F.Str n text) = refl
in_expr_parts (Expr-F.Expr::Name n name) = refl
in_expr_parts (Expr-F.Unary n op a) = simp append-nil
in_expr_parts (Expr-F.Binary n op a b) = simp (append-nil, append_assoc)
in_expr_parts (Expr-F.Compare n op a b) = simp (append-nil, append_assoc)
in_expr_parts (Expr-F.Logic n is_and a b) = simp (append-nil, append_assoc)
in_expr_parts (Expr-F.Not n a) = simp append-nil
in_expr_parts (Expr-F.Call n f args) = sym (append_assoc f (order.all args) (order.Call (length args) ∷ []))
in_expr_parts (Expr-F.Expr::Attr n a name) = simp append-nil
in_expr_parts (Expr-F.Index n a i) = simp (append-nil, append_assoc)
in_expr_parts (Expr-F.Slice n a None None) = simp append-nil
in_expr_parts (Expr-F.Slice n a None (Some to)) = simp (append-nil, append_assoc)
in_expr_parts (Expr-F.Slice n a (Some from) None) = simp (append-nil, append_assoc)
in_expr_parts (Expr-F.Slice n a (Some from) (Some to)) = simp (append-nil, append_assoc)
in_expr_parts (Expr-F.Expr::Tuple n items) = refl
in_expr_parts (Expr-F.List n items) = refl
in_expr_parts (Expr-F.Dict n pairs) = simp pairs_all
in_expr_parts (Expr-F.Comp n item target over None) = simp (append-nil, append_assoc)
in_expr_parts (Expr-F.Comp n item target over (Some test)) = simp (append-nil, append_assoc)

in_target_parts : (x : Target-F Items Items) → order.in_target x ≡ order.all (target_parts x) ++ target_item x ∷ []
in_target_parts (Target-F.Target::Name n name) = refl
in_target_parts (Target-F.Target::Attr n a name) = simp append-nil
in_target_parts (Target-F.Item n a i) = simp (append-nil, append_assoc)
in_target_parts (Target-F.Target::Tuple n parts) = refl

module _ {X Y : Type 0} (f : X → Y) where
  both_mapped : (ps : List (X × X)) → both (map {A = X × X} {B = Y × Y} (λ p. (f p.0, f p.1)) ps) ≡ map f (both ps)
  both_mapped [] = refl
  both_mapped (p ∷ ps) = ap (λ rest. f p.0 ∷ f p.1 ∷ rest) (both_mapped ps)

  pub expr_parts_mapped : (x : Expr-F X X) → expr_parts (map-Expr X X Y Y f f x) ≡ map f (expr_parts x)
  expr_parts_mapped (Expr-F.Int n v) = refl
  expr_parts_mapped (Expr-F.Str n text) = refl
  expr_parts_mapped (Expr-F.Expr::Name n name) = refl
  expr_parts_mapped (Expr-F.Unary n op a) = refl
  expr_parts_mapped (Expr-F.Binary n op a b) = refl
  expr_parts_mapped (Expr-F.Compare n op a b) = refl
  expr_parts_mapped (Expr-F.Logic n is_and a b) = refl
  expr_parts_mapped (Expr-F.Not n a) = refl
  expr_parts_mapped (Expr-F.Call n g args) = refl
  expr_parts_mapped (Expr-F.Expr::Attr n a name) = refl
  expr_parts_mapped (Expr-F.Index n a i) = refl
  expr_parts_mapped (Expr-F.Slice n a None None) = refl
  expr_parts_mapped (Expr-F.Slice n a None (Some to)) = refl
  expr_parts_mapped (Expr-F.Slice n a (Some from) None) = refl
  expr_parts_mapped (Expr-F.Slice n a (Some from) (Some to)) = refl
  expr_parts_mapped (Expr-F.Expr::Tuple n items) = refl
  expr_parts_mapped (Expr-F.List n items) = refl
  expr_parts_mapped (Expr-F.Dict n pairs) = both_mapped pairs
  expr_parts_mapped (Expr-F.Comp n item target over None) = refl
  expr_parts_mapped (Expr-F.Comp n item target over (Some test)) = refl

  pub target_parts_mapped : (x : Target-F X X) → target_parts (map-Target X X Y Y f f x) ≡ map f (target_parts x)
  target_parts_mapped (Target-F.Target::Name n name) = refl
  target_parts_mapped (Target-F.Target::Attr n a name) = refl
  target_parts_mapped (Target-F.Item n a i) = refl
  target_parts_mapped (Target-F.Target::Tuple n parts) = refl

  pub expr_item_mapped : (x : Expr-F X X) → expr_item (map-Expr X X Y Y f f x) ≡ expr_item x
  expr_item_mapped (Expr-F.Int n v) = refl
  expr_item_mapped (Expr-F.Str n text) = refl
  expr_item_mapped (Expr-F.Expr::Name n name) = refl
  expr_item_mapped (Expr-F.Unary n op a) = refl
  expr_item_mapped (Expr-F.Binary n op a b) = refl
  expr_item_mapped (Expr-F.Compare n op a b) = refl
  expr_item_mapped (Expr-F.Logic n is_and a b) = refl
  expr_item_mapped (Expr-F.Not n a) = refl
  expr_item_mapped (Expr-F.Call n g args) = simp length-map
  expr_item_mapped (Expr-F.Expr::Attr n a name) = refl
  expr_item_mapped (Expr-F.Index n a i) = refl
  expr_item_mapped (Expr-F.Slice n a None None) = refl
  expr_item_mapped (Expr-F.Slice n a None (Some to)) = refl
  expr_item_mapped (Expr-F.Slice n a (Some from) None) = refl
  expr_item_mapped (Expr-F.Slice n a (Some from) (Some to)) = refl
  expr_item_mapped (Expr-F.Expr::Tuple n items) = simp length-map
  expr_item_mapped (Expr-F.List n items) = simp length-map
  expr_item_mapped (Expr-F.Dict n pairs) = simp length-map
  expr_item_mapped (Expr-F.Comp n item target over None) = refl
  expr_item_mapped (Expr-F.Comp n item target over (Some test)) = refl

  pub target_item_mapped : (x : Target-F X X) → target_item (map-Target X X Y Y f f x) ≡ target_item x
  target_item_mapped (Target-F.Target::Name n name) = refl
  target_item_mapped (Target-F.Target::Attr n a name) = refl
  target_item_mapped (Target-F.Item n a i) = refl
  target_item_mapped (Target-F.Target::Tuple n parts) = simp length-map

module _ (S : Type 0) (one : Item → S → S) where
  abbrev pub Moving : Type 0
  Moving = S → S

  abbrev pub run : Items → S → S
  run [] s = s
  run (i ∷ is) s = run is (one i s)

  abbrev pub run_all : List (S → S) → S → S
  run_all [] s = s
  run_all (part ∷ parts) s = run_all parts (part s)

  pub run_append : (xs ys : Items) (s : S) → run (xs ++ ys) s ≡ run ys (run xs s)
  run_append [] ys s = refl
  run_append (x ∷ xs) ys s = run_append xs ys (one x s)

  pub run_parts : (parts : List Items) (s : S) → run (order.all parts) s ≡ run_all (map run parts) s
  run_parts [] s = refl
  run_parts (part ∷ parts) s = run_append part (order.all parts) s ∙ run_parts parts (run part s)

  -- a node after its parts
  abbrev pub expr_moves : Expr-F (S → S) (S → S) → S → S
  expr_moves x s = one (expr_item x) (run_all (expr_parts x) s)

  abbrev pub target_moves : Target-F (S → S) (S → S) → S → S
  target_moves x s = one (target_item x) (run_all (target_parts x) s)

  in_expr : (x : Expr-F Items Items) (s : S) → run (order.in_expr x) s ≡ expr_moves (map-Expr Items Items (S → S) (S → S) run run x) s
  in_expr x s = ap (λ is. run is s) (in_expr_parts x) ∙ run_append (order.all (expr_parts x)) (expr_item x ∷ []) s
      ∙ ap (one (expr_item x)) (run_parts (expr_parts x) s ∙ ap (λ ps. run_all ps s) (sym (expr_parts_mapped run x)))
      ∙ ap (λ i. one i (run_all (expr_parts (map-Expr Items Items (S → S) (S → S) run run x)) s)) (sym (expr_item_mapped run x))

  in_target : (x : Target-F Items Items) (s : S) → run (order.in_target x) s ≡ target_moves (map-Target Items Items (S → S) (S → S) run run x) s
  in_target x s = ap (λ is. run is s) (in_target_parts x) ∙ run_append (order.all (target_parts x)) (target_item x ∷ []) s
      ∙ ap (one (target_item x)) (run_parts (target_parts x) s ∙ ap (λ ps. run_all ps s) (sym (target_parts_mapped run x)))
      ∙ ap (λ i. one i (run_all (target_parts (map-Target Items Items (S → S) (S → S) run run x)) s)) (sym (target_item_mapped run x))

  pub run_expr : (e : Expr) → run (order.expr e) ≡ fold-Expr (S → S) (S → S) expr_moves target_moves e
  run_expr = expr_fuses Items Items (S → S) (S → S) run run order.in_expr order.in_target expr_moves target_moves (λ x i s. in_expr x s i) (λ x i s. in_target x s i)

  pub run_target : (t : Target) → run (order.target t) ≡ fold-Target (S → S) (S → S) expr_moves target_moves t
  run_target = target_fuses Items Items (S → S) (S → S) run run order.in_expr order.in_target expr_moves target_moves (λ x i s. in_expr x s i) (λ x i s. in_target x s i)
