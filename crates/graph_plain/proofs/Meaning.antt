-- The meaning of modules narrows nothing.
use Rattle.std.proofs.Common.{◌≡◌, ℕ, zero, suc, ◌+◌, Bool, true, false, List, [], ◌∷◌, map, Option, Some, None, refl, sym, ap, ◌∙◌, subst}
use Rattle.std.specs.Prelude.{option_map, unwrap_or, if◌then◌else◌, slice_get}
use Rattle.std.proofs.lemmas.Option.{none-some, same_Some, slice_get-map}
use Rattle.rpy_tree.specs.declared.program.Builtin.{Builtin}
use Rattle.rpy_tree.specs.declared.program.Builtin.TheVariants as builtin
use Rattle.rpy_tree.specs.declared.program.FunInfo.{FunInfo}
use Rattle.rpy_tree.specs.declared.program.Use.{Use}
use Rattle.rpy_tree.specs.declared.program.Use.TheVariants as use_of
use Rattle.rpy_tree.specs.declared.syntax.BinOp.{BinOp}
use Rattle.rpy_tree.specs.declared.syntax.BinOp.TheVariants as bin
use Rattle.rpy_tree.specs.declared.syntax.Clause as source_clause
use Rattle.rpy_tree.specs.declared.syntax.Expr as syntax
use Rattle.rpy_tree.specs.declared.syntax.Expr.TheOpen.{Expr-F, Target-F}
use Rattle.rpy_tree.specs.declared.syntax.Expr.TheFolds.{para-roll-Target, map-Target, ind-Target}
use Rattle.rpy_tree.specs.declared.syntax.Function as source
use Rattle.rpy_tree.specs.declared.syntax.Stmt.{Stmt, fold-roll-Stmt, map-Stmt, ind-Stmt}
use Rattle.rpy_tree.specs.declared.syntax.Stmt.TheFolds.{fold-Clause, fold-roll-Clause, map-Clause}
use Rattle.rpy_tree.specs.declared.syntax.Stmt.TheOpen.{Stmt-F}
use Rattle.rpy_tree.specs.declared.syntax.Target as aim
use Rattle.rpy_tree.specs.declared.syntax.UnOp.TheVariants as un
use Rattle.rpy_meaning.specs.declared.row.RowOp.TheVariants as row
use Rattle.rpy_meaning.specs.Resolved as meaning
use Rattle.rpy_meaning.specs.Resolved.{Names, Said, Part, value_of, values_of, exprs, pairs_of, targets_of, subject_of, expr_step, target_step, said_by, expr_by, target_by, named_value, attribute_value, bound_name, binary_of, augmented, slice_of, is_minus_one, named_call, builtin_call, method_call, method_of, call_by, range_call, range_of, range_by, checked_of, is_instance_of, class_named, raised_by, name_in, function_call, Caught, onto, joined, stmt_step, clause_step, stmt_by, if_of, try_of, clauses_of}
use Rattle.rpy_meaning.specs.Tree as meant
use Rattle.rpy_meaning.specs.Tree.{none, more}
use Rattle.resolver_laws.specs.Listing.{tree_in, function_with, locals_in, numbered, module_pairs}
use Rattle.resolved_laws.specs.Meant.{meant_by}
use Rattle.resolved_laws.specs.Uncopied.{uncopied_block}
use Rattle.flow_trees.specs.Tree as tree
use Rattle.flow_trees.specs.Tree.{plain_block}
use Rattle.flow_space.specs.Trees.{function_of}
use Rattle.flow_space.proofs.Plain.{function_plain}
use Rattle.ann_sound.proofs.Callees.{map_inside}
use Rattle.ann_sound.proofs.Twice.{text_twice, head_twice}
use Rattle.graph_told.specs.Plain.{narrows}
use Rattle.graph_told.proofs.Whole.{narrowings_tell_the_truth}
use Rattle.graph_plain.specs.Made.{MadeTreesArePlain, ProgramsTellTheTruth}
use Rattle.graph_plain.proofs.Fine.{FineExpr, FineExprs, FinePairs, FineSubject, FineTarget, FineTargets, FineBlock, FineClauses, block_plain}

-- ---- layers that are mapped twice

module _ {A B C : Type 0} (g : A → B) (h : B → C) where
  map_twice : (xs : List A) → map h (map g xs) ≡ map (λ x. h (g x)) xs
  map_twice [] = refl
  map_twice (x ∷ xs) = ap (λ ys. h (g x) ∷ ys) (map_twice xs)

  pairs_twice : (xs : List (A × A)) → map {A = B × B} {B = C × C} (λ p. (h p.0, h p.1)) (map {A = A × A} {B = B × B} (λ p. (g p.0, g p.1)) xs) ≡ map {A = A × A} {B = C × C} (λ p. (h (g p.0), h (g p.1))) xs
  pairs_twice [] = refl
  pairs_twice (x ∷ xs) = ap (λ ys. (h (g x.0), h (g x.1)) ∷ ys) (pairs_twice xs)

module _ (A A' B B' C C' : Type 0) (g : A → B) (g' : A' → B') (h : B → C) (h' : B' → C') where
  expr_twice : (x : Expr-F A A') → syntax.map-Expr B B' C C' h h' (syntax.map-Expr A A' B B' g g' x) ≡ syntax.map-Expr A A' C C' (λ a. h (g a)) (λ a. h' (g' a)) x
  expr_twice (Expr-F.Int n v) = refl
  expr_twice (Expr-F.Str n text) = refl
  expr_twice (Expr-F.Expr::Name n name) = refl
  expr_twice (Expr-F.Unary n op a) = refl
  expr_twice (Expr-F.Binary n op a b) = refl
  expr_twice (Expr-F.Compare n op a b) = refl
  expr_twice (Expr-F.Logic n is_and a b) = refl
  expr_twice (Expr-F.Not n a) = refl
  expr_twice (Expr-F.Call n f args) = ap (λ xs. Expr-F.Call n (h (g f)) xs) (map_twice g h args)
  expr_twice (Expr-F.Expr::Attr n a name) = refl
  expr_twice (Expr-F.Index n a i) = refl
  expr_twice (Expr-F.Slice n a None None) = refl
  expr_twice (Expr-F.Slice n a None (Some to)) = refl
  expr_twice (Expr-F.Slice n a (Some from) None) = refl
  expr_twice (Expr-F.Slice n a (Some from) (Some to)) = refl
  expr_twice (Expr-F.Expr::Tuple n items) = ap (λ xs. Expr-F.Expr::Tuple n xs) (map_twice g h items)
  expr_twice (Expr-F.List n items) = ap (λ xs. Expr-F.List n xs) (map_twice g h items)
  expr_twice (Expr-F.Dict n pairs) = ap (λ xs. Expr-F.Dict n xs) (pairs_twice g h pairs)
  expr_twice (Expr-F.Comp n item target over None) = refl
  expr_twice (Expr-F.Comp n item target over (Some test)) = refl

  target_twice : (x : Target-F A A') → map-Target B B' C C' h h' (map-Target A A' B B' g g' x) ≡ map-Target A A' C C' (λ a. h (g a)) (λ a. h' (g' a)) x
  target_twice (Target-F.Target::Name n name) = refl
  target_twice (Target-F.Target::Attr n a name) = refl
  target_twice (Target-F.Item n a i) = refl
  target_twice (Target-F.Target::Tuple n parts) = ap (λ xs. Target-F.Target::Tuple n xs) (map_twice g' h' parts)

-- ---- what parts say

abbrev FineRange : Option meant.Subject → Type 0
FineRange None = Unit {0}
FineRange (Some subject) = FineSubject subject

abbrev FineSaid : Said → Type 0
FineSaid s = FineExpr s.value × FineRange s.range

abbrev AllFine : List Part → Type 0
AllFine [] = Unit {0}
AllFine (p ∷ ps) = FineSaid p.1 × AllFine ps

values_fine : (ps : List Part) → AllFine ps → FineExprs (values_of ps)
values_fine [] h = tt
values_fine (p ∷ ps) h = (h.0.0, values_fine ps h.1)

subject_fine : (site : ℕ) (s : Said) → FineSaid s → FineSubject (subject_of site s)
subject_fine site s h = by s.range h.1
  where
    by : (o : Option meant.Subject) → FineRange o → FineSubject (unwrap_or o (meant.Over site s.value))
    by None g = h.0
    by (Some subject) g = g

checked_fine : (e : meant.Expr) → FineExpr e → FineExpr (checked_of e)
checked_fine (meant.Apply (row.Unary un.Neg) es) h = (refl, h.1)
checked_fine (meant.Apply (row.Binary op site) es) h = (refl, h.1)
checked_fine e h = (refl, tt)

method_fine : (name : List ℕ) (site : Option ℕ) (e : meant.Expr) (args : meant.Exprs) → FineExpr e → FineExprs args → FineExpr (method_of (row.Method name site) e args)
method_fine name site (meant.Apply o (more e none)) args h g = (refl, (h.1.0, g))
method_fine name site e args h g = (refl, tt)

either_fine : (b : Bool) (x y : meant.Expr) → FineExpr x → FineExpr y → FineExpr (if b then x else y)
either_fine true x y h g = h
either_fine false x y h g = g

module _ (names : Names) where
  named_fine : (u : Use) → FineExpr (named_value names u)
  named_fine (use_of.Local i) = tt
  named_fine (use_of.Function f) = tt
  named_fine (use_of.Value c) = tt
  named_fine u = (refl, tt)

  attribute_fine : (u : Use) (e : meant.Expr) (name : List ℕ) → FineExpr e → FineExpr (attribute_value names u e name)
  attribute_fine use_of.Nothing e name h = (refl, (h, tt))
  attribute_fine (use_of.Local i) e name h = named_fine (use_of.Local i)
  attribute_fine (use_of.Function f) e name h = named_fine (use_of.Function f)
  attribute_fine (use_of.Class c) e name h = named_fine (use_of.Class c)
  attribute_fine (use_of.Value c) e name h = named_fine (use_of.Value c)
  attribute_fine (use_of.Module m) e name h = named_fine (use_of.Module m)
  attribute_fine (use_of.Builtin b) e name h = named_fine (use_of.Builtin b)

  binary_fine : (n : ℕ) (op : BinOp) → narrows (binary_of names n op) ≡ false
  binary_fine n bin.Add = refl
  binary_fine n bin.Mul = refl
  binary_fine n op = refl

  augmented_fine : (n : ℕ) (op : BinOp) → narrows (augmented names n op) ≡ false
  augmented_fine n bin.Add = refl
  augmented_fine n bin.Mul = refl
  augmented_fine n op = refl

  instance_fine : (c : Option ℕ) (e : meant.Expr) → FineExpr e → FineExpr (is_instance_of names c e)
  instance_fine None e h = (refl, tt)
  instance_fine (Some c) e h = (refl, (h, tt))

  function_fine : (c : Option ℕ) (f : ℕ) (es : meant.Exprs) → FineExprs es → FineExpr (function_call names c f es)
  function_fine None f es h = (refl, h)
  function_fine (Some c) f es h = (refl, h)

  builtin_fine : (b : Builtin) (args : List Part) → AllFine args → FineExpr (builtin_call names b args)
  builtin_fine builtin.Len args h = (refl, values_fine args h)
  builtin_fine builtin.Ord args h = (refl, values_fine args h)
  builtin_fine builtin.Chr args h = (refl, values_fine args h)
  builtin_fine builtin.Str args h = (refl, values_fine args h)
  builtin_fine builtin.Int args h = (refl, values_fine args h)
  builtin_fine builtin.Bool args h = (refl, values_fine args h)
  builtin_fine builtin.Min args h = (refl, values_fine args h)
  builtin_fine builtin.Max args h = (refl, values_fine args h)
  builtin_fine builtin.IsInstance [] h = (refl, tt)
  builtin_fine builtin.IsInstance (a ∷ []) h = (refl, tt)
  builtin_fine builtin.IsInstance (a ∷ c ∷ []) h = instance_fine (class_named names (names.meant (meaning.node_of c.0))) (value_of a) h.0.0
  builtin_fine builtin.IsInstance (a ∷ c ∷ d ∷ args) h = (refl, tt)
  builtin_fine builtin.Ovfcheck [] h = (refl, tt)
  builtin_fine builtin.Ovfcheck (a ∷ []) h = checked_fine (value_of a) h.0.0
  builtin_fine builtin.Ovfcheck (a ∷ c ∷ args) h = (refl, tt)
  builtin_fine builtin.Intmask args h = (refl, values_fine args h)
  builtin_fine builtin.OsWrite args h = (refl, values_fine args h)
  builtin_fine builtin.Range args h = (refl, tt)
  builtin_fine builtin.Xrange args h = (refl, tt)

  call_fine : (u : Use) (c : Option ℕ) (callee : meant.Expr) (args : List Part) → FineExpr callee → AllFine args → FineExpr (named_call names u c callee args)
  call_fine (use_of.Function f) c callee args h g = function_fine c f (values_of args) (values_fine args g)
  call_fine (use_of.Class k) c callee args h g = (refl, values_fine args g)
  call_fine (use_of.Builtin b) c callee args h g = builtin_fine b args g
  call_fine (use_of.Module m) c callee args h g = (refl, tt)
  call_fine use_of.Nothing c callee args h g = (refl, (h, values_fine args g))
  call_fine (use_of.Local i) c callee args h g = (refl, (h, values_fine args g))
  call_fine (use_of.Value v) c callee args h g = (refl, (h, values_fine args g))

  method_call_fine : (u : Use) (n : ℕ) (name : List ℕ) (before : syntax.Expr) (callee : meant.Expr) (args : List Part) → FineExpr callee → AllFine args → FineExpr (method_call names u n name before callee args)
  method_call_fine use_of.Nothing n name before callee args h g =
      either_fine (names.is_method name) (method_of (row.Method name (names.site n)) callee (values_of args)) (meant.Apply row.CallValue (more callee (values_of args))) (method_fine name (names.site n) callee (values_of args) h (values_fine args g)) (refl, (h, values_fine args g))
  method_call_fine (use_of.Local i) n name before callee args h g = call_fine (use_of.Local i) (class_named names (names.meant (meaning.node_of before))) callee args h g
  method_call_fine (use_of.Function f) n name before callee args h g = call_fine (use_of.Function f) (class_named names (names.meant (meaning.node_of before))) callee args h g
  method_call_fine (use_of.Class c) n name before callee args h g = call_fine (use_of.Class c) (class_named names (names.meant (meaning.node_of before))) callee args h g
  method_call_fine (use_of.Value v) n name before callee args h g = call_fine (use_of.Value v) (class_named names (names.meant (meaning.node_of before))) callee args h g
  method_call_fine (use_of.Module m) n name before callee args h g = call_fine (use_of.Module m) (class_named names (names.meant (meaning.node_of before))) callee args h g
  method_call_fine (use_of.Builtin b) n name before callee args h g = call_fine (use_of.Builtin b) (class_named names (names.meant (meaning.node_of before))) callee args h g

  call_by_fine : (x : Expr-F syntax.Expr aim.Target) (n : ℕ) (callee : meant.Expr) (args : List Part) → FineExpr callee → AllFine args → FineExpr (call_by names x n callee args)
  call_by_fine (Expr-F.Expr::Name m name) n callee args h g = call_fine (names.meant m) None callee args h g
  call_by_fine (Expr-F.Expr::Attr m before name) n callee args h g = method_call_fine (names.meant m) n name before callee args h g
  call_by_fine x n callee args h g = (refl, (h, values_fine args g))

  range_of_fine : (args : List Part) → AllFine args → FineRange (range_of names args)
  range_of_fine [] h = tt
  range_of_fine (a ∷ []) h = h.0.0
  range_of_fine (a ∷ b ∷ []) h = (h.0.0, h.1.0.0)
  range_of_fine (a ∷ b ∷ s ∷ []) h = (h.0.0, h.1.0.0)
  range_of_fine (a ∷ b ∷ s ∷ t ∷ args) h = tt

  range_call_fine : (u : Use) (args : List Part) → AllFine args → FineRange (range_call names u args)
  range_call_fine (use_of.Builtin builtin.Range) args h = range_of_fine args h
  range_call_fine (use_of.Builtin builtin.Xrange) args h = range_of_fine args h
  range_call_fine u args h = tt

  range_by_fine : (x : Expr-F syntax.Expr aim.Target) (args : List Part) → AllFine args → FineRange (range_by names x args)
  range_by_fine (Expr-F.Expr::Name m name) args h = range_call_fine (names.meant m) args h
  range_by_fine x args h = tt

  -- ---- expressions

  abbrev SomeExpr : Type 0
  SomeExpr = (e : syntax.Expr) × FineSaid (said_by names e)

  abbrev SomeTarget : Type 0
  SomeTarget = (t : aim.Target) × FineTarget (target_by names t)

  abbrev with_said : syntax.Expr → Part
  with_said e = (e, said_by names e)

  abbrev with_target : aim.Target → aim.Target × meant.Target
  with_target t = (t, target_by names t)

  abbrev part : SomeExpr → Part
  part p = with_said p.0

  abbrev aimed : SomeTarget → aim.Target × meant.Target
  aimed p = with_target p.0

  parts_fine : (ps : List SomeExpr) → AllFine (map part ps)
  parts_fine [] = tt
  parts_fine (p ∷ ps) = (p.1, parts_fine ps)

  pairs_fine : (ps : List (SomeExpr × SomeExpr)) → FinePairs (pairs_of (map (λ (p : Part × Part). (p.0.1, p.1.1)) (map {A = SomeExpr × SomeExpr} {B = Part × Part} (λ p. (part p.0, part p.1)) ps)))
  pairs_fine [] = tt
  pairs_fine (p ∷ ps) = (p.0.1.0, p.1.1.0, pairs_fine ps)

  targets_fine : (ts : List SomeTarget) → FineTargets (targets_of (map (λ (p : aim.Target × meant.Target). p.1) (map aimed ts)))
  targets_fine [] = tt
  targets_fine (t ∷ ts) = (t.1, targets_fine ts)

  expr_ok : (y : Expr-F SomeExpr SomeTarget) → FineSaid (expr_step names (syntax.map-Expr SomeExpr SomeTarget Part (aim.Target × meant.Target) part aimed y))
  expr_ok (Expr-F.Int n z) = ((refl, tt), tt)
  expr_ok (Expr-F.Str n text) = ((refl, tt), tt)
  expr_ok (Expr-F.Expr::Name n name) = (named_fine (names.meant n), tt)
  expr_ok (Expr-F.Unary n op a) = ((refl, (a.1.0, tt)), tt)
  expr_ok (Expr-F.Binary n op a b) = ((binary_fine n op, (a.1.0, (b.1.0, tt))), tt)
  expr_ok (Expr-F.Compare n op a b) = ((refl, (a.1.0, (b.1.0, tt))), tt)
  expr_ok (Expr-F.Logic n is_and a b) = (either_fine is_and (meant.And (expr_by names a.0) (expr_by names b.0)) (meant.Or (expr_by names a.0) (expr_by names b.0)) (a.1.0, b.1.0) (a.1.0, b.1.0), tt)
  expr_ok (Expr-F.Not n a) = ((refl, (a.1.0, tt)), tt)
  expr_ok (Expr-F.Call n f args) = (call_by_fine (syntax.out-Expr f.0) n (expr_by names f.0) (map part args) f.1.0 (parts_fine args), range_by_fine (syntax.out-Expr f.0) (map part args) (parts_fine args))
  expr_ok (Expr-F.Expr::Attr n a name) = (attribute_fine (names.meant n) (expr_by names a.0) name a.1.0, tt)
  expr_ok (Expr-F.Index n a i) = ((refl, (a.1.0, (i.1.0, tt))), tt)
  expr_ok (Expr-F.Slice n a None None) = ((refl, (a.1.0, tt)), tt)
  expr_ok (Expr-F.Slice n a (Some low) None) = ((refl, (a.1.0, (low.1.0, tt))), tt)
  expr_ok (Expr-F.Slice n a None (Some high)) =
      (either_fine (is_minus_one (expr_by names high.0)) (meaning.one_of (row.AllButLast (meaning.made_at names n)) (expr_by names a.0)) (meaning.two_of (row.Slice (meaning.made_at names n) false true) (expr_by names a.0) (expr_by names high.0)) (refl, (a.1.0, tt)) (refl, (a.1.0, (high.1.0, tt))), tt)
  expr_ok (Expr-F.Slice n a (Some low) (Some high)) = ((refl, (a.1.0, (low.1.0, (high.1.0, tt)))), tt)
  expr_ok (Expr-F.Expr::Tuple n items) = ((refl, values_fine (map part items) (parts_fine items)), tt)
  expr_ok (Expr-F.List n items) = ((refl, values_fine (map part items) (parts_fine items)), tt)
  expr_ok (Expr-F.Dict n pairs) = (pairs_fine pairs, tt)
  expr_ok (Expr-F.Comp n item target subject None) = ((item.1.0, target.1, subject_fine (names.walk n) (said_by names subject.0) subject.1, tt), tt)
  expr_ok (Expr-F.Comp n item target subject (Some test)) = ((item.1.0, target.1, subject_fine (names.walk n) (said_by names subject.0) subject.1, test.1.0), tt)

  bound_fine : (u : Use) → FineTarget (bound_name names u)
  bound_fine (use_of.Local i) = tt
  bound_fine u = tt

  target_ok : (y : Target-F SomeExpr SomeTarget) → FineTarget (target_step names (map-Target SomeExpr SomeTarget Part (aim.Target × meant.Target) part aimed y))
  target_ok (Target-F.Target::Name n name) = bound_fine (names.meant n)
  target_ok (Target-F.Target::Attr n a name) = a.1.0
  target_ok (Target-F.Item n a i) = (a.1.0, i.1.0)
  target_ok (Target-F.Target::Tuple n ts) = targets_fine ts

  expr_layer : (x : Expr-F syntax.Expr aim.Target) (y : Expr-F SomeExpr SomeTarget) → syntax.map-Expr SomeExpr SomeTarget syntax.Expr aim.Target (λ p. p.0) (λ p. p.0) y ≡ x
      → expr_step names (syntax.map-Expr SomeExpr SomeTarget Part (aim.Target × meant.Target) part aimed y) ≡ expr_step names (syntax.map-Expr syntax.Expr aim.Target Part (aim.Target × meant.Target) with_said with_target x)
  expr_layer x y is = ap (expr_step names) (sym (expr_twice SomeExpr SomeTarget syntax.Expr aim.Target Part (aim.Target × meant.Target) (λ p. p.0) (λ p. p.0) with_said with_target y) ∙ ap (syntax.map-Expr syntax.Expr aim.Target Part (aim.Target × meant.Target) with_said with_target) is)

  target_layer : (x : Target-F syntax.Expr aim.Target) (y : Target-F SomeExpr SomeTarget) → map-Target SomeExpr SomeTarget syntax.Expr aim.Target (λ p. p.0) (λ p. p.0) y ≡ x
      → target_step names (map-Target SomeExpr SomeTarget Part (aim.Target × meant.Target) part aimed y) ≡ target_step names (map-Target syntax.Expr aim.Target Part (aim.Target × meant.Target) with_said with_target x)
  target_layer x y is = ap (target_step names) (sym (target_twice SomeExpr SomeTarget syntax.Expr aim.Target Part (aim.Target × meant.Target) (λ p. p.0) (λ p. p.0) with_said with_target y) ∙ ap (map-Target syntax.Expr aim.Target Part (aim.Target × meant.Target) with_said with_target) is)

  expr_fine : (e : syntax.Expr) → FineSaid (said_by names e)
  expr_fine = syntax.ind-Expr (λ e. FineSaid (said_by names e)) (λ t. FineTarget (target_by names t))
      (λ x y is. subst FineSaid (expr_layer x y is ∙ sym (syntax.para-roll-Expr Said meant.Target (expr_step names) (target_step names) x)) (expr_ok y))
      (λ x y is. subst FineTarget (target_layer x y is ∙ sym (para-roll-Target Said meant.Target (expr_step names) (target_step names) x)) (target_ok y))

  target_fine : (t : aim.Target) → FineTarget (target_by names t)
  target_fine = ind-Target (λ e. FineSaid (said_by names e)) (λ t. FineTarget (target_by names t))
      (λ x y is. subst FineSaid (expr_layer x y is ∙ sym (syntax.para-roll-Expr Said meant.Target (expr_step names) (target_step names) x)) (expr_ok y))
      (λ x y is. subst FineTarget (target_layer x y is ∙ sym (para-roll-Target Said meant.Target (expr_step names) (target_step names) x)) (target_ok y))

  -- ---- statements

  exprs_fine : (es : List syntax.Expr) → FineExprs (exprs (map (expr_by names) es))
  exprs_fine [] = tt
  exprs_fine (e ∷ es) = ((expr_fine e).0, exprs_fine es)

  all_targets_fine : (ts : List aim.Target) → FineTargets (targets_of (map (target_by names) ts))
  all_targets_fine [] = tt
  all_targets_fine (t ∷ ts) = (target_fine t, all_targets_fine ts)

  raised_fine : (c : Option ℕ) (e : meant.Expr) → FineExpr e → FineExpr (raised_by names c e)
  raised_fine None e h = h
  raised_fine (Some c) e h = (refl, tt)

  onto_fine : (a b : meant.Block) → FineBlock a → FineBlock b → FineBlock (onto names a b)
  onto_fine meant.done b h g = g
  onto_fine (meant.line s a) b h g = (h.0, onto_fine a b h.1 g)

  abbrev SomeStmt : Type 0
  SomeStmt = (s : Stmt) × FineBlock (stmt_by names s)

  abbrev caught : source_clause.Clause → Caught names
  caught = fold-Clause meant.Block (Caught names) (stmt_step names) (clause_step names)

  abbrev SomeClause : Type 0
  SomeClause = (c : source_clause.Clause) × FineBlock (caught c).2

  abbrev of_stmt : SomeStmt → meant.Block
  of_stmt p = stmt_by names p.0

  abbrev of_clause : SomeClause → Caught names
  of_clause p = caught p.0

  body_fine : (ps : List SomeStmt) → FineBlock (joined names (map of_stmt ps))
  body_fine [] = tt
  body_fine (p ∷ ps) = onto_fine (of_stmt p) (joined names (map of_stmt ps)) p.1 (body_fine ps)

  arms_fine : (arms : List (syntax.Expr × List SomeStmt)) (other : List SomeStmt) → FineBlock (if_of names (map (λ (q : syntax.Expr × List SomeStmt). (q.0, map of_stmt q.1)) arms) (map of_stmt other))
  arms_fine [] other = body_fine other
  arms_fine (arm ∷ arms) other = (((expr_fine arm.0).0, body_fine arm.1, arms_fine arms other), tt)

  clauses_fine : (cs : List SomeClause) → FineClauses (clauses_of names (map of_clause cs))
  clauses_fine [] = tt
  clauses_fine (c ∷ cs) = (c.1, clauses_fine cs)

  try_fine : (body : meant.Block) (cs : List SomeClause) (other : meant.Block) → FineBlock body → FineBlock other → FineBlock (try_of names body (map of_clause cs) other)
  try_fine body [] other h g = h
  try_fine body (c ∷ cs) other h g = ((h, clauses_fine (c ∷ cs), g), tt)

  abbrev filled : Stmt-F SomeStmt SomeClause → Stmt-F meant.Block (Caught names)
  filled y = map-Stmt SomeStmt SomeClause meant.Block (Caught names) of_stmt of_clause y

  stmt_ok : (y : Stmt-F SomeStmt SomeClause) → FineBlock (stmt_step names (filled y))
  stmt_ok (Stmt-F.Pass n) = (tt, tt)
  stmt_ok (Stmt-F.Break n) = (tt, tt)
  stmt_ok (Stmt-F.Continue n) = (tt, tt)
  stmt_ok (Stmt-F.Return n None) = ((refl, tt), tt)
  stmt_ok (Stmt-F.Return n (Some e)) = ((expr_fine e).0, tt)
  stmt_ok (Stmt-F.Raise n e) = ((refl, (raised_fine (class_named names (name_in names (syntax.out-Expr e))) (expr_by names e) (expr_fine e).0, tt)), tt)
  stmt_ok (Stmt-F.Assert n e) = (((expr_fine e).0, tt, ((refl, ((refl, tt), tt)), tt)), tt)
  stmt_ok (Stmt-F.Del n a i) = ((refl, ((expr_fine a).0, ((expr_fine i).0, tt))), tt)
  stmt_ok (Stmt-F.Print n es) = ((refl, exprs_fine es), tt)
  stmt_ok (Stmt-F.Assign n ts e) = ((all_targets_fine ts, (expr_fine e).0), tt)
  stmt_ok (Stmt-F.Aug n t op e) = ((augmented_fine n op, target_fine t, (expr_fine e).0), tt)
  stmt_ok (Stmt-F.Expr n e) = ((expr_fine e).0, tt)
  stmt_ok (Stmt-F.If n arms other) = arms_fine arms other
  stmt_ok (Stmt-F.While n e body) = (((expr_fine e).0, body_fine body), tt)
  stmt_ok (Stmt-F.For n t e body) = ((target_fine t, subject_fine (names.walk n) (said_by names e) (expr_fine e), body_fine body), tt)
  stmt_ok (Stmt-F.Try n body cs other None) = try_fine (joined names (map of_stmt body)) cs (joined names (map of_stmt other)) (body_fine body) (body_fine other)
  stmt_ok (Stmt-F.Try n body cs other (Some last)) =
      ((try_fine (joined names (map of_stmt body)) cs (joined names (map of_stmt other)) (body_fine body) (body_fine other), body_fine last), tt)

  stmt_fine : (s : Stmt) → FineBlock (stmt_by names s)
  stmt_fine = ind-Stmt (λ s. FineBlock (stmt_by names s)) (λ c. FineBlock (caught c).2)
      (λ x y is. subst FineBlock (ap (stmt_step names) (sym (text_twice SomeStmt SomeClause Stmt source_clause.Clause meant.Block (Caught names) (λ p. p.0) (λ p. p.0) (stmt_by names) caught y) ∙ ap (map-Stmt Stmt source_clause.Clause meant.Block (Caught names) (stmt_by names) caught) is) ∙ sym (fold-roll-Stmt meant.Block (Caught names) (stmt_step names) (clause_step names) x)) (stmt_ok y))
      (λ x y is. subst (λ (c : Caught names). FineBlock c.2) (ap (clause_step names) (sym (head_twice SomeStmt SomeClause Stmt source_clause.Clause meant.Block (Caught names) (λ p. p.0) (λ p. p.0) (stmt_by names) caught y) ∙ ap (map-Clause Stmt source_clause.Clause meant.Block (Caught names) (stmt_by names) caught) is) ∙ sym (fold-roll-Clause meant.Block (Caught names) (stmt_step names) (clause_step names) x)) (body_fine y.body))

  joined_fine : (ss : List Stmt) → FineBlock (joined names (map (stmt_by names) ss))
  joined_fine [] = tt
  joined_fine (s ∷ ss) = onto_fine (stmt_by names s) (joined names (map (stmt_by names) ss)) (stmt_fine s) (joined_fine ss)

-- ---- functions

numbered_fine : (infos : List FunInfo) (n : ℕ) (xs : List (Names × source.Function)) (f : ℕ) (t : meant.Function) → slice_get (numbered infos n xs) f ≡ Some t → FineBlock t.body
numbered_fine infos n [] f t is = absurd (none-some t is)
numbered_fine infos n (x ∷ xs) zero t is = subst (λ (g : meant.Function). FineBlock g.body) (same_Some (function_with (locals_in infos n) x) t is) (joined_fine x.0 x.1.body)
numbered_fine infos n (x ∷ xs) (suc f) t is = numbered_fine infos (n + 1) xs f t is

pub made_trees_are_plain : MadeTreesArePlain
made_trees_are_plain p r made f function is =
    let at = map_inside (function_of r.sites) r.functions f function is in
    let there : slice_get (numbered p.functions 0 (module_pairs p 0 p.modules)) f ≡ Some (tree_in p at.0) =
    ap (λ (us : List meant.Function). slice_get us f) (sym made.functions) ∙ slice_get-map (tree_in p) r.functions f ∙ ap (option_map (tree_in p)) at.1 in
    let same : (tree_in p at.0).body ≡ uncopied_block (plain_block function.body) =
    ap (λ (g : meant.Function). uncopied_block g.body) (sym (function_plain p.sites at.0))
    ∙ ap (λ sites. uncopied_block (plain_block (function_of sites at.0).body)) (sym made.sites)
    ∙ ap (λ (g : tree.Function). uncopied_block (plain_block g.body)) at.2 in
    block_plain function.body (subst FineBlock same (numbered_fine p.functions 0 (module_pairs p 0 p.modules) f (tree_in p at.0) there))

pub programs_tell_the_truth : ProgramsTellTheTruth
programs_tell_the_truth p gs stand flat few args n f o ops e env instead frames w reaches vs g =
    narrowings_tell_the_truth stand.resolved gs stand.nodes (made_trees_are_plain p stand.resolved stand.made) (meant_by p) (ap (λ (q : meant.Program). q.sites) (sym (stand.meant flat few))) args n f o ops e env instead frames w reaches vs g
