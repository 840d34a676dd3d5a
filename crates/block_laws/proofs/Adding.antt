-- What is written for links and exits only adds operations and variables.
use Rattle.std.proofs.Common.{◌≡◌, ℕ, ◌+◌, ◌==◌, ◌&&◌, Bool, true, false, List, [], ◌∷◌, ◌++◌, Option, Some, None, refl, sym, ap, ◌∙◌, append_assoc}
use Rattle.std.specs.Prelude.{slice_get, if◌then◌else◌}
use Rattle.std.proofs.lemmas.List.{append-nil}
use Rattle.csub_tree.specs.declared.tree.COperand.{COperand}
use Rattle.csub_tree.specs.declared.tree.COperand.TheVariants.{Var, Const}
use Rattle.ll_code.specs.declared.program.LlOp.{LlOp}
use Rattle.ll_code.specs.declared.program.LlType.{LlType}
use Rattle.ll_code.specs.declared.program.LlType.TheVariants as type
use Rattle.flow_graph.specs.declared.graph.Link.{Link}
use Rattle.rtyper_layout.specs.declared.kind.Kind.{Kind}
use Rattle.rtyper_layout.specs.declared.kind.Kind.TheVariants as kind
use Rattle.rtyper_layout.specs.declared.layout.Layout.{Layout}
use Rattle.rtyper_layout.specs.Layout.{is_tuple}
use Rattle.rtyper_op.specs.declared.text.Test.{Test}
use Rattle.rtyper_op.specs.declared.text.Test.TheVariants.{Known as IsKnown, By}
use Rattle.rtyper_op.specs.Texts.{dict_truth, list_truth, truth_by, truth_of}
use Rattle.rtyper_data.specs.Comparing.{opposite_if}
use Rattle.rtyper_data.specs.Converting.{converted, helped, by_small, value_as}
use Rattle.rtyper_data.specs.Finding.{same_type}
use Rattle.rtyper_data.specs.Seen.{Around, Operand, Writing, writing, type_of, kind_of}
use Rattle.rtyper_program.specs.declared.links.Caught.{Caught}
use Rattle.rtyper_program.specs.Links.{arguments, branch, by_test, flag_of, give_as, give_back, inputs_at, known_truth, link_of, passed, read_as, truth_test, known_test, with_passed}
use Rattle.rtyper_program.specs.Seen.{Lowered, operand_of, type_at}

pub record Adds (before after : Writing) : Type 0 where
  pub ops : List LlOp
  pub new : List LlType
  pub written : after.body.ops ≡ before.body.ops ++ ops
  pub types : after.body.types ≡ before.body.types ++ new

pub same_adds : (w : Writing) → Adds w w
same_adds w = record { ops = []; new = []; written = sym (append-nil w.body.ops); types = sym (append-nil w.body.types) }

pub then_adds : {a b c : Writing} → Adds a b → Adds b c → Adds a c
then_adds {a = a} {b = b} {c = c} h k = record {
  ops = h.ops ++ k.ops;
  new = h.new ++ k.new;
  written = k.written ∙ ap (λ (ops : List LlOp). ops ++ k.ops) h.written ∙ append_assoc a.body.ops h.ops k.ops;
  types = k.types ∙ ap (λ (ts : List LlType). ts ++ k.new) h.types ∙ append_assoc a.body.types h.new k.new;
}

-- ---- conversions

if_adds : (b : Bool) (w : Writing) (x : COperand) (made : COperand × Writing) → Adds w made.1 → Adds w (if b then made else (x, w)).1
if_adds true w x made h = h
if_adds false w x made h = same_adds w

converted_adds : (layout : Layout) (x : COperand) (from to : LlType) (w : Writing) → Adds w (converted layout x from to w).1
unfolding helped by_small
converted_adds layout x type.Char (type.Ptr n) w = if_adds (n == 0) w _ _ (record { ops = _ ∷ []; new = _ ∷ []; written = refl; types = refl })
converted_adds layout x (type.Ptr m) (type.Ptr n) w = if_adds (is_tuple layout m && is_tuple layout n) w _ _ (record { ops = _ ∷ []; new = _ ∷ []; written = refl; types = refl })
converted_adds layout x type.Char type.Signed w = same_adds w
converted_adds layout x type.Char type.Void w = same_adds w
converted_adds layout x type.Char type.Char w = same_adds w
converted_adds layout x type.Char type.Bool w = same_adds w
converted_adds layout x type.Char type.Fn w = same_adds w
converted_adds layout x (type.Ptr m) type.Signed w = same_adds w
converted_adds layout x (type.Ptr m) type.Void w = same_adds w
converted_adds layout x (type.Ptr m) type.Char w = same_adds w
converted_adds layout x (type.Ptr m) type.Bool w = same_adds w
converted_adds layout x (type.Ptr m) type.Fn w = same_adds w
converted_adds layout x type.Signed to w = same_adds w
converted_adds layout x type.Void to w = same_adds w
converted_adds layout x type.Bool to w = same_adds w
converted_adds layout x type.Fn to w = same_adds w

pub value_adds : (layout : Layout) (x : COperand) (from to : LlType) (w : Writing) → Adds w (value_as layout x from to w).1
unfolding value_as
value_adds layout x from to w = by (same_type from to)
  where
    by : (b : Bool) → Adds w (if b then (x, w) else converted layout x from to w).1
    by true = same_adds w
    by false = converted_adds layout x from to w

-- ---- links

passed_adds : (l : Lowered) (caught : Option Caught) (o : Option ℕ) (to : LlType) (w : Writing) → Adds w (passed l caught o to w).1
passed_adds l caught None to w = same_adds w
passed_adds l caught (Some v) to w = value_adds l.world.around.layout (read_as l caught v).0 (read_as l caught v).1 to w

arguments_add : (l : Lowered) (caught : Option Caught) (args : List ℕ) (n : ℕ) (inputs : List ℕ) (xs : List COperand) (w : Writing) → Adds w (arguments l caught args n inputs (xs, w)).1
arguments_add l caught args n [] xs w = same_adds w
arguments_add l caught args n (v ∷ inputs) xs w = by (same_type (type_at l v) type.Void) (λ ys u. arguments_add l caught args (n + 1) inputs ys u)
  where
    one : COperand × Writing
    one = passed l caught (slice_get args n) (type_at l v) w

    by : (b : Bool) → ((ys : List COperand) (u : Writing) → Adds u (arguments l caught args (n + 1) inputs (ys, u)).1) → Adds w (arguments l caught args (n + 1) inputs (if b then (xs, w) else with_passed xs one)).1
    by true go = go xs w
    by false go = then_adds (passed_adds l caught (slice_get args n) (type_at l v) w) (go (xs ++ one.0 ∷ []) one.1)

pub link_adds : (l : Lowered) (caught : Option Caught) (link : Link) (w : Writing) → Adds w (link_of l caught link w).1
unfolding link_of
link_adds l caught link w = arguments_add l caught link.args 0 (inputs_at l link.to) [] w

-- ---- tests

list_truth_adds : (t : LlType) (x : COperand) (w : Writing) → Adds w (list_truth t x w).1
unfolding by_small
list_truth_adds (type.Ptr n) x w = record { ops = _ ∷ []; new = _ ∷ []; written = refl; types = refl }
list_truth_adds type.Signed x w = same_adds w
list_truth_adds type.Void x w = same_adds w
list_truth_adds type.Char x w = same_adds w
list_truth_adds type.Bool x w = same_adds w
list_truth_adds type.Fn x w = same_adds w

dict_truth_adds : (t : LlType) (x : COperand) (w : Writing) → Adds w (dict_truth t x w).1
unfolding by_small
dict_truth_adds (type.Ptr n) x w = record { ops = _ ∷ []; new = _ ∷ []; written = refl; types = refl }
dict_truth_adds type.Signed x w = same_adds w
dict_truth_adds type.Void x w = same_adds w
dict_truth_adds type.Char x w = same_adds w
dict_truth_adds type.Bool x w = same_adds w
dict_truth_adds type.Fn x w = same_adds w

truth_by_adds : (k : Kind) (around : Around) (a : Operand) (w : Writing) → Adds w (truth_by k around a w).1
unfolding helped opposite_if
truth_by_adds kind.Word around a w = record { ops = _ ∷ []; new = _ ∷ []; written = refl; types = refl }
truth_by_adds kind.Flag around a w = same_adds w
truth_by_adds kind.Byte around a w = same_adds w
truth_by_adds kind.Text around a w = record { ops = _ ∷ []; new = _ ∷ []; written = refl; types = refl }
truth_by_adds kind.MaybeText around a w = record { ops = _ ∷ []; new = _ ∷ []; written = refl; types = refl }
truth_by_adds kind.Nothing around a w = same_adds w
truth_by_adds kind.Tuple around a w = same_adds w
truth_by_adds kind.Instance around a w = same_adds w
truth_by_adds kind.MaybeInstance around a w = record { ops = _ ∷ _ ∷ []; new = _ ∷ _ ∷ []; written = append_assoc w.body.ops (_ ∷ []) (_ ∷ []); types = append_assoc w.body.types (_ ∷ []) (_ ∷ []) }
truth_by_adds kind.Function around a w = same_adds w
truth_by_adds kind.MaybeFunction around a w = record { ops = _ ∷ _ ∷ []; new = _ ∷ _ ∷ []; written = append_assoc w.body.ops (_ ∷ []) (_ ∷ []); types = append_assoc w.body.types (_ ∷ []) (_ ∷ []) }
truth_by_adds kind.List around a w = list_truth_adds (type_of around a) a.x w
truth_by_adds kind.MaybeList around a w = list_truth_adds (type_of around a) a.x w
truth_by_adds kind.Dict around a w = dict_truth_adds (type_of around a) a.x w
truth_by_adds kind.MaybeDict around a w = dict_truth_adds (type_of around a) a.x w
truth_by_adds kind.Never around a w = same_adds w
truth_by_adds kind.Other around a w = same_adds w

truth_adds : (around : Around) (a : Operand) (w : Writing) → Adds w (truth_of around a w).1
unfolding truth_of
truth_adds around a w = truth_by_adds (kind_of a) around a w

pub known_adds : (around : Around) (a : Operand) (w : Writing) → Adds w (truth_test around a w).1
known_adds around a w = by (known_truth a.element)
  where
    by : (o : Option Bool) → Adds w (known_test o around a w).1
    by None = truth_adds around a w
    by (Some b) = same_adds w

-- ---- exits

flag_adds : (x : COperand) (w : Writing) → Adds w (writing w.found (flag_of x w.body).1)
flag_adds (Var v) w = same_adds w
flag_adds (Const c) w = record { ops = _ ∷ []; new = _ ∷ []; written = refl; types = refl }

test_adds : (l : Lowered) (there elsewhere : Link) (t : Test) (w : Writing) → Adds w (by_test l there elsewhere t w).1
test_adds l there elsewhere (IsKnown true) w = link_adds l None there w
test_adds l there elsewhere (IsKnown false) w = link_adds l None elsewhere w
test_adds l there elsewhere (By x) w =
    then_adds (flag_adds x w) (then_adds (link_adds l None there (writing w.found (flag_of x w.body).1)) (link_adds l None elsewhere (link_of l None there (writing w.found (flag_of x w.body).1)).1))

pub branch_adds : (l : Lowered) (v : ℕ) (there elsewhere : Link) (w : Writing) → Adds w (branch l v there elsewhere w).1
unfolding branch
branch_adds l v there elsewhere w = then_adds (known_adds l.world.around (operand_of l v) w) (test_adds l there elsewhere (truth_test l.world.around (operand_of l v) w).0 (truth_test l.world.around (operand_of l v) w).1)

give_adds : (l : Lowered) (v : ℕ) (to : LlType) (w : Writing) → Adds w (give_as l v to w).1
give_adds l v type.Void w = same_adds w
give_adds l v type.Signed w = value_adds l.world.around.layout (Var v) (type_at l v) type.Signed w
give_adds l v type.Char w = value_adds l.world.around.layout (Var v) (type_at l v) type.Char w
give_adds l v type.Bool w = value_adds l.world.around.layout (Var v) (type_at l v) type.Bool w
give_adds l v type.Fn w = value_adds l.world.around.layout (Var v) (type_at l v) type.Fn w
give_adds l v (type.Ptr n) w = value_adds l.world.around.layout (Var v) (type_at l v) (type.Ptr n) w

pub give_back_adds : (l : Lowered) (v : ℕ) (w : Writing) → Adds w (give_back l v w).1
unfolding give_back
give_back_adds l v w = give_adds l v l.result w
