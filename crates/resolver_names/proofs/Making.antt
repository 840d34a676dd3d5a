-- What the trees that are made mean, without copies, and what the meaning makes of their sources.
use Rattle.std.proofs.Common.{◌≡◌, ℕ, ℤ, Bool, true, false, List, [], ◌∷◌, map, Option, Some, None, Result, Ok, Err, refl, sym, ap, ◌∙◌}
use Rattle.std.specs.Prelude.{if◌then◌else◌, option_map, IfOk}
use Rattle.rpy_tree.specs.declared.program.Const.{Const}
use Rattle.rpy_tree.specs.declared.program.Site.{Site}
use Rattle.rpy_tree.specs.declared.syntax.Expr as syntax
use Rattle.rpy_tree.specs.declared.syntax.Expr.TheOpen.{Expr-F, Target-F}
use Rattle.rpy_tree.specs.declared.syntax.Expr.TheFolds.{para-roll-Target}
use Rattle.rpy_tree.specs.declared.syntax.Expr.TheVariants as e
use Rattle.rpy_tree.specs.declared.syntax.Expr.TheViews as views
use Rattle.rpy_tree.specs.declared.syntax.Target as aim
use Rattle.rpy_tree.specs.declared.syntax.Target.TheVariants as at
use Rattle.rpy_meaning.specs.declared.row.RowOp.{RowOp}
use Rattle.rpy_meaning.specs.Tree as tree
use Rattle.rpy_meaning.specs.Resolved as meaning
use Rattle.rpy_meaning.specs.Resolved.{Names, Said, Part, value_of, values_of, said_by, expr_by, target_by, expr_step, target_step}
use Rattle.rpy_resolved.specs.declared.tree.Expr.{Expr}
use Rattle.rpy_resolved.specs.declared.tree.Expr.TheVariants as made
use Rattle.rpy_resolved.specs.declared.tree.Subject.{Subject}
use Rattle.rpy_resolved.specs.declared.tree.Subject.TheVariants as made_subject
use Rattle.rpy_resolved.specs.declared.tree.Target.{Target}
use Rattle.rpy_resolved.specs.declared.tree.Target.TheVariants as made_target
use Rattle.resolved_meaning.specs.Programs.{value_in}
use Rattle.resolved_meaning.specs.Trees.{expr_of, subject_of, target_of, exprs_of, pairs_of, targets_of, condition_of, pairs, condition}
use Rattle.resolved_meaning.proofs.Layers.{local_is, constant_is, apply_is, and_is, or_is, display_is, comprehension_is, over_is, up_is, from_is, name_is, attr_is, item_is, parts_is}
use Rattle.resolved_laws.specs.Uncopied.{bare, copy_of, uncopied_expr, uncopied_exprs, uncopied_pairs, uncopied_subject, uncopied_condition, uncopied_target, uncopied_targets}
use Rattle.resolver_names.specs.Forms.{both, checked_op}
use Rattle.resolver_names.proofs.Plain.{checking, unchecked}
use Rattle.rpy_meaning.specs.declared.row.RowOp.TheVariants as row

pub ok_map : {A E : Type 0} {P Q : A → Type 0} (result : Result A E) → ((a : A) → P a → Q a) → IfOk result P → IfOk result Q
ok_map (Ok a) g h = g a h
ok_map (Err x) g h = h

-- ---- what is made

module _ (sites : List Site) where
  abbrev whole : Expr → tree.Expr
  whole a = uncopied_expr (expr_of sites a)

  abbrev walked : Subject → tree.Subject
  walked s = uncopied_subject (subject_of sites s)

  abbrev aimed : Target → tree.Target
  aimed t = uncopied_target (target_of sites t)

  all_made : (es : List Expr) → uncopied_exprs (exprs_of sites es) ≡ meaning.exprs (map whole es)
  all_made [] = refl
  all_made (a ∷ es) = ap (tree.more (whole a)) (all_made es)

  pub apply_made : (n : ℕ) (v : Bool) (o : RowOp) (es : List Expr) → whole (made.Apply n v o es) ≡ bare o (meaning.exprs (map whole es))
  apply_made n v o es = ap uncopied_expr (apply_is sites n v o es) ∙ ap (bare o) (all_made es)

  pub local_made : (n i : ℕ) → whole (made.Local n i) ≡ tree.Local i
  local_made n i = ap uncopied_expr (local_is sites n i)

  pub constant_made : (n : ℕ) (a : Const) → whole (made.Constant n a) ≡ tree.Constant (value_in sites a)
  constant_made n a = ap uncopied_expr (constant_is sites n a)

  pub and_made : (n : ℕ) (a b : Expr) → whole (made.And n a b) ≡ tree.And (whole a) (whole b)
  and_made n a b = ap uncopied_expr (and_is sites n a b)

  pub or_made : (n : ℕ) (a b : Expr) → whole (made.Or n a b) ≡ tree.Or (whole a) (whole b)
  or_made n a b = ap uncopied_expr (or_is sites n a b)

  pairs_made : (ps : List (Expr × Expr)) → uncopied_pairs (pairs_of sites ps) ≡ pairs (map (both whole) ps)
  pairs_made [] = refl
  pairs_made (p ∷ ps) = ap (tree.pair (whole p.0) (whole p.1)) (pairs_made ps)

  pub display_made : (n site : ℕ) (ps : List (Expr × Expr)) → whole (made.Display n site ps) ≡ tree.Display site (pairs (map (both whole) ps))
  display_made n site ps = ap uncopied_expr (display_is sites n site ps) ∙ ap (tree.Display site) (pairs_made ps)

  condition_made : (c : Option Expr) → uncopied_condition (condition_of sites c) ≡ condition (option_map whole c)
  condition_made None = refl
  condition_made (Some c) = refl

  pub comprehension_made : (n site : ℕ) (item : Expr) (t : Target) (s : Subject) (c : Option Expr)
      → whole (made.Comprehension n site item t s c) ≡ tree.Comprehension site (whole item) (aimed t) (walked s) (condition (option_map whole c))
  comprehension_made n site item t s c =
      ap uncopied_expr (comprehension_is sites n site item t s c)
      ∙ ap (tree.Comprehension site (whole item) (aimed t) (walked s)) (condition_made c)

  pub over_made : (site : ℕ) (a : Expr) → walked (made_subject.Over site a) ≡ tree.Over site (whole a)
  over_made site a = ap uncopied_subject (over_is sites site a)

  pub up_made : (a : Expr) → walked (made_subject.UpTo a) ≡ tree.UpTo (whole a)
  up_made a = ap uncopied_subject (up_is sites a)

  pub from_made : (a b : Expr) (step : ℤ) → walked (made_subject.FromTo a b step) ≡ tree.FromTo (whole a) (whole b) step
  from_made a b step = ap uncopied_subject (from_is sites a b step)

  pub name_made : (n i : ℕ) → aimed (made_target.Name n i) ≡ tree.Name i
  name_made n i = ap uncopied_target (name_is sites n i)

  pub attr_made : (n : ℕ) (a : Expr) (name : List ℕ) → aimed (made_target.Attr n a name) ≡ tree.Attribute (whole a) name
  attr_made n a name = ap uncopied_target (attr_is sites n a name)

  pub item_made : (n : ℕ) (a i : Expr) → aimed (made_target.Item n a i) ≡ tree.Item (whole a) (whole i)
  item_made n a i = ap uncopied_target (item_is sites n a i)

  targets_made : (ts : List Target) → uncopied_targets (targets_of sites ts) ≡ meaning.targets_of (map aimed ts)
  targets_made [] = refl
  targets_made (t ∷ ts) = ap (tree.more_targets (aimed t)) (targets_made ts)

  pub parts_made : (n : ℕ) (ts : List Target) → aimed (made_target.Parts n ts) ≡ tree.Parts (meaning.targets_of (map aimed ts))
  parts_made n ts = ap uncopied_target (parts_is sites n ts) ∙ ap tree.Parts (targets_made ts)

-- ---- what the meaning makes

module _ (names : Names) where
  abbrev part : syntax.Expr → Part
  part a = (a, said_by names a)

  pub values_are : (es : List syntax.Expr) → values_of (map part es) ≡ meaning.exprs (map (expr_by names) es)
  values_are [] = refl
  values_are (a ∷ es) = ap (tree.more (expr_by names a)) (values_are es)

  pairs_are : (ps : List (syntax.Expr × syntax.Expr)) → meaning.pairs_of (map (λ (p : Part × Part). (p.0.1, p.1.1)) (map (λ p. (part p.0, part p.1)) ps)) ≡ pairs (map (both (expr_by names)) ps)
  pairs_are [] = refl
  pairs_are (p ∷ ps) = ap (tree.pair (expr_by names p.0) (expr_by names p.1)) (pairs_are ps)

  pub dict_said : (n : ℕ) (ps : List (syntax.Expr × syntax.Expr)) → expr_by names (e.Dict n ps) ≡ tree.Display (meaning.made_at names n) (pairs (map (both (expr_by names)) ps))
  dict_said n ps =
      ap (λ (a : syntax.Expr). expr_by names a) (sym (views.rolls-Dict n ps))
      ∙ ap (λ (s : Said). s.value) (syntax.para-roll-Expr Said tree.Target (expr_step names) (target_step names) (Expr-F.Dict n ps))
      ∙ ap (tree.Display (meaning.made_at names n)) (pairs_are ps)

  pub comp_said : (n : ℕ) (item : syntax.Expr) (t : aim.Target) (s : syntax.Expr) (c : Option syntax.Expr)
      → expr_by names (e.Comp n item t s c) ≡ tree.Comprehension (meaning.made_at names n) (expr_by names item) (target_by names t) (meaning.subject_of (names.walk n) (said_by names s)) (condition (option_map (expr_by names) c))
  comp_said n item t s None =
      ap (λ (a : syntax.Expr). expr_by names a) (sym (views.rolls-Comp n item t s None))
      ∙ ap (λ (s : Said). s.value) (syntax.para-roll-Expr Said tree.Target (expr_step names) (target_step names) (Expr-F.Comp n item t s None))
  comp_said n item t s (Some c) =
      ap (λ (a : syntax.Expr). expr_by names a) (sym (views.rolls-Comp n item t s (Some c)))
      ∙ ap (λ (s : Said). s.value) (syntax.para-roll-Expr Said tree.Target (expr_step names) (target_step names) (Expr-F.Comp n item t s (Some c)))

  pub target_name : (n : ℕ) (name : List ℕ) → target_by names (at.Name n name) ≡ meaning.bound_name names (names.meant n)
  target_name n name = ap (target_by names) (sym (views.rolls-Target::Name n name)) ∙ para-roll-Target Said tree.Target (expr_step names) (target_step names) (Target-F.Target::Name n name)

  pub target_attr : (n : ℕ) (a : syntax.Expr) (name : List ℕ) → target_by names (at.Attr n a name) ≡ tree.Attribute (expr_by names a) name
  target_attr n a name = ap (target_by names) (sym (views.rolls-Target::Attr n a name)) ∙ para-roll-Target Said tree.Target (expr_step names) (target_step names) (Target-F.Target::Attr n a name)

  pub target_item : (n : ℕ) (a i : syntax.Expr) → target_by names (at.Item n a i) ≡ tree.Item (expr_by names a) (expr_by names i)
  target_item n a i = ap (target_by names) (sym (views.rolls-Item n a i)) ∙ para-roll-Target Said tree.Target (expr_step names) (target_step names) (Target-F.Item n a i)

  seconds : (ts : List aim.Target) → map (λ (p : aim.Target × tree.Target). p.1) (map (λ t. (t, target_by names t)) ts) ≡ map (target_by names) ts
  seconds [] = refl
  seconds (t ∷ ts) = ap (λ (us : List tree.Target). target_by names t ∷ us) (seconds ts)

  pub target_tuple : (n : ℕ) (ts : List aim.Target) → target_by names (at.Tuple n ts) ≡ tree.Parts (meaning.targets_of (map (target_by names) ts))
  target_tuple n ts =
      ap (target_by names) (sym (views.rolls-Target::Tuple n ts))
      ∙ para-roll-Target Said tree.Target (expr_step names) (target_step names) (Target-F.Target::Tuple n ts)
      ∙ ap (λ (us : List tree.Target). tree.Parts (meaning.targets_of us)) (seconds ts)

-- ---- `ovfcheck`

pub checked_made : (sites : List Site) (of new : Expr) (n inner : ℕ) (v : Bool) (o check : RowOp) (es : List Expr)
    → of ≡ made.Apply inner v o es → checked_op o ≡ Some check → new ≡ made.Apply n true row.Copy (made.Apply inner v check es ∷ [])
    → uncopied_expr (expr_of sites new) ≡ meaning.checked_of (uncopied_expr (expr_of sites of))
checked_made sites of new n inner v o check es of_is c new_is =
    ap (whole sites) new_is
    ∙ apply_made sites n true row.Copy (made.Apply inner v check es ∷ [])
    ∙ ap (λ (e : tree.Expr). copy_of (tree.more e tree.none)) (apply_made sites inner v check es)
    ∙ sym (checking o check (meaning.exprs (map (whole sites) es)) c)
    ∙ ap meaning.checked_of (sym (apply_made sites inner v o es) ∙ ap (whole sites) (sym of_is))

pub unchecked_made : (sites : List Site) (of : Expr) (inner : ℕ) (v : Bool) (o : RowOp) (es : List Expr)
    → of ≡ made.Apply inner v o es → checked_op o ≡ None → meaning.meaningless ≡ meaning.checked_of (uncopied_expr (expr_of sites of))
unchecked_made sites of inner v o es of_is c =
    sym (unchecked o (meaning.exprs (map (whole sites) es)) c)
    ∙ ap meaning.checked_of (sym (apply_made sites inner v o es) ∙ ap (whole sites) (sym of_is))
