-- What is known to be `None`.
use Rattle.std.proofs.Common.{◌≡◌, ◌⊎◌, inl, inr, ℕ, not, Bool, true, false, List, [], ◌∷◌, Option, Some, refl, sym, ap, ◌∙◌, subst}
use Rattle.ann_element.specs.declared.element.Element.{Element}
use Rattle.ann_element.specs.declared.element.Element.TheVariants as element
use Rattle.ann_lattice.specs.Row.{false_none}
use Rattle.ann_lattice.specs.Shape.{One, Any, OrNone, Shape, Nothing, NoneOnly, Truth, Num, Str, Tup, Lst, Dct, Inst, Fun, Clash, shape}
use Rattle.csub_tree.specs.State.{Value, Flag, Core}
use Rattle.csub_tree.specs.Statement.{operand as value_of}
use Rattle.csub_tree.specs.declared.tree.CConst.TheVariants as constant
use Rattle.csub_tree.specs.declared.tree.COperand.{COperand}
use Rattle.csub_tree.specs.declared.tree.COperand.TheVariants.{Const, Var}
use Rattle.flow_graph.specs.declared.graph.Graph.{Graph}
use Rattle.flow_graph.specs.declared.graph.Op.{Op}
use Rattle.ll_code.specs.declared.program.LlOp.TheVariants as op
use Rattle.ll_code.specs.declared.program.LlType.{LlType}
use Rattle.ll_code.specs.declared.program.LlType.TheVariants as type
use Rattle.lower_laws.proofs.Coming.{Comes, one_comes}
use Rattle.lower_laws.proofs.Typing.{place_of_none}
use Rattle.object_laws.specs.Ghost.{Ghost}
use Rattle.object_laws.specs.Known.{Known}
use Rattle.object_laws.specs.Values.{Holds, Plain, Alone, Items, Listed, Mapped, Made, Function, Missing, Stands, may_be_missing}
use Rattle.object_laws.specs.Values as values
use Rattle.object_laws.proofs.Valued.{OfFunction, Gone, function_or_none, function_type, instance_type, simple_is_there}
use Rattle.conversion_laws.specs.Ordered.{IsLaid}
use Rattle.conversion_laws.specs.Ordered as laid
use Rattle.rpy_meaning.specs.Operations.{op as meant_op, truth_in}
use Rattle.rpy_meaning.specs.World.{World as MeantWorld, Gives}
use Rattle.rpy_meaning.specs.declared.row.Covers.{Covers}
use Rattle.rpy_meaning.specs.declared.row.RowOp.{RowOp}
use Rattle.rpy_meaning.specs.declared.row.RowOp.TheVariants as row
use Rattle.rpy_tree.specs.Value.{Value as Meant, Nothing as MeantNothing, Flag as MeantFlag, Tuple, Fun as MeantFun, Ref}
use Rattle.rtyper_class.specs.Lowering.{lowered as class_lowered, of_some as class_of_some, of_one as class_of_one}
use Rattle.rtyper_class.specs.Seen.{World}
use Rattle.rtyper_data.specs.Converting.{give, give_to, value_as}
use Rattle.rtyper_data.specs.Seen.{Around, Operand, Place, type_at, with_op, Writing, writing}
use Rattle.rtyper_layout.specs.declared.kind.Kind.{Kind}
use Rattle.rtyper_layout.specs.declared.kind.Kind.TheVariants as kind
use Rattle.rtyper_layout.specs.declared.layout.Layout.{Layout}
use Rattle.rtyper_layout.specs.Kinds.{kind_of as kind_of_element, kind_seen}
use Rattle.rtyper_layout.specs.Types.{root_of, type_of}
use Rattle.rtyper_list.specs.Lowering.{lowered as list_lowered, of_some as list_of_some, first_of_one}
use Rattle.rtyper_op.specs.Lowering.{of_one, of_some, same as same_value}
use Rattle.rtyper_program.specs.Blocks.{lowered}
use Rattle.rtyper_program.specs.Seen.{element_at, operand_of, place_of}
use Rattle.rtyped_runs.specs.Laws.{before}
use Rattle.rtyped_runs.proofs.Conditions.{conditions_hold}
use Rattle.class_laws.specs.Instances as classes
use Rattle.class_laws.proofs.Lowered.{one_plain}
use Rattle.flow_runs.specs.Good.{OfFirst}
use Rattle.typed_rows.specs.Programs.{Typed, IsTyped, layout, same, setting, world}
use Rattle.typed_rows.specs.Rows.{IsOp, IsWritten, RowIsWrittenWhere, lowered_in}
use Rattle.typed_rows.proofs.Going.{elements_pass}
use Rattle.value_rows.specs.Kinds.{FalseIsNone, ResultIs, is_none, is_unmade}
use Rattle.value_rows.proofs.Copies.{comes, first_is, goes_there, held_by, typed_by}
use Rattle.value_rows.proofs.Giving.{GivesIt, below_so, is_given}
use Rattle.value_rows.proofs.Laid.{class_laid, function_laid}
use Rattle.value_rows.proofs.Lowering.{no_dict}
use Rattle.value_rows.proofs.Operands.{Above, IsOperand, OneIsWritten, rows_of_one, with_args}
use Rattle.value_rows.proofs.Placing.{Whenever, set_is_written}
use Rattle.value_rows.proofs.Shaped.{kind_in}

-- ---- what is written

-- what of a type is a truth value is the operand, and what is else is false
abbrev pub none_operand : LlType → COperand → COperand
none_operand type.Bool x = x
none_operand t x = Const (constant.Bool false)

none_goes : (around : Around) (at : Place) (x : COperand) (w : Writing) (t : LlType) → type_at around at ≡ type.Bool → give around at x t w ≡ writing w.found (with_op (op.Set at.variable (none_operand t x)) w.body)
unfolding give value_as
none_goes around at x w type.Bool e = ap (λ u. give_to around at x type.Bool u w) e
none_goes around at x w type.Void e = ap (λ u. give_to around at x type.Void u w) e
none_goes around at x w type.Signed e = ap (λ u. give_to around at x type.Signed u w) e
none_goes around at x w type.Char e = ap (λ u. give_to around at x type.Char u w) e
none_goes around at x w type.Fn e = ap (λ u. give_to around at x type.Fn u w) e
none_goes around at x w (type.Ptr n) e = ap (λ u. give_to around at x (type.Ptr n) u w) e

-- ---- what is held

module _ (l : Layout) (s : List ℕ) where
  no_flag : {e : Element} → IsLaid l s e → may_be_missing (kind_of_element e) ≡ true → type_of l e ≡ type.Bool → ⊥
  no_flag (laid.Nowhere k) may h = absurd (let f : false ≡ true = sym (ap may_be_missing k) ∙ may in cc)
  no_flag {e = e} (laid.Simple k) may h = simple_is_there (kind_of_element e) may k
  no_flag (laid.Listed n site r led typed) may h = absurd (let f : type.Ptr n ≡ type.Bool = sym typed ∙ h in cc)
  no_flag (laid.Mapped n site r led typed) may h = absurd (let f : type.Ptr n ≡ type.Bool = sym typed ∙ h in cc)
  no_flag (laid.Instanced class r m at) may h = absurd (let f : type.Ptr m.root ≡ type.Bool = sym (ap root_of at) ∙ sym (instance_type l class r) ∙ h in cc)
  no_flag (laid.Called fs r) may h = absurd (let f : type.Fn ≡ type.Bool = sym (function_type l fs r) ∙ h in cc)
  no_flag (laid.Items n parts it all) may h = absurd (let f : false ≡ true = may in cc)

stands_so : {g : Ghost} {t : LlType} {y : Value} {v : Meant} → Stands g t y v → t ≡ type.Bool → v ≡ MeantNothing → ⊥
stands_so (values.word z f) t v = absurd (cc)
stands_so (values.flag b) t v = absurd (let f : MeantFlag b ≡ MeantNothing = v in cc)
stands_so (values.byte b f) t v = absurd (cc)
stands_so (values.text y bytes f) t v = absurd (cc)
stands_so values.missing t v = absurd (cc)

none_is_false : (l : Layout) (s : List ℕ) (known : Known) (g : Ghost) (e : Element) (y : Value) (v : Meant) → IsLaid l s e → type_of l e ≡ type.Bool → v ≡ MeantNothing → Holds l known g (Some e) y v → y ≡ Flag false
none_is_false l s known g e y v it t none (Plain is stands) = absurd (stands_so stands t none)
none_is_false l s known g e y v it t none (Alone is low high) = low
none_is_false l s known g e y v it t none (Items parts n xs vs is high u used all) = absurd (let f : MeantNothing ≡ Tuple _ = sym none ∙ high in cc)
none_is_false l s known g e y v it t none (Listed n i is high u st home) = absurd (let f : MeantNothing ≡ Ref i = sym none ∙ high in cc)
none_is_false l s known g e y v it t none (Mapped n i m is high u st home) = absurd (let f : MeantNothing ≡ Ref i = sym none ∙ high in cc)
none_is_false l s known g e y v it t none (Made class r c i is high below home) = absurd (let f : MeantNothing ≡ Ref i = sym none ∙ high in cc)
none_is_false l s known g e y v it t none (Function fs r f n is high one graph low) = absurd (let f : MeantNothing ≡ MeantFun f = sym none ∙ high in cc)
none_is_false l s known g e y v it t none (Missing may low high) = absurd (no_flag l s it may t)

-- what is set is `None`
none_held : (l : Layout) (s : List ℕ) (known : Known) (g : Ghost) (e : Element) (core : Core) (a : ℕ) (v : Meant) (z : Option Element) → kind_seen z ≡ kind.Nothing → IsLaid l s e → v ≡ MeantNothing → Holds l known g (Some e) (value_of core.vars (Var a)) v → (t : LlType) → type_of l e ≡ t
    → Holds l known g z (value_of core.vars (none_operand t (Var a))) v
none_held l s known g e core a v z nothing it none held type.Bool h = Alone nothing (none_is_false l s known g e (value_of core.vars (Var a)) v it h none held) none
none_held l s known g e core a v z nothing it none held type.Void h = Alone nothing refl none
none_held l s known g e core a v z nothing it none held type.Signed h = Alone nothing refl none
none_held l s known g e core a v z nothing it none held type.Char h = Alone nothing refl none
none_held l s known g e core a v z nothing it none held type.Fn h = Alone nothing refl none
none_held l s known g e core a v z nothing it none held (type.Ptr n) h = Alone nothing refl none

pub none_kind : (k : Kind) → is_none k ≡ true → k ≡ kind.Nothing
none_kind kind.Nothing h = refl
none_kind k h = absurd (let f : false ≡ true = h in cc)

-- an operation that gives its operand, which is `None` then
module _ (r : RowOp) (lowers : (world : World) (place : Place) (a : Operand) (w : Writing) → Comes a → lowered world r place (a ∷ []) w ≡ same_value world.around place a w)
    (means : (t : Typed) (c : Covers) (v : Meant) (w : MeantWorld) → meant_op t.seen.program c r (v ∷ []) w ≡ Gives v w) where
  none_written : (t : Typed) → IsTyped t → (n : ℕ) (graph : Graph) (q : Op) (a : ℕ) (x : Element) → IsOp t n (with_args r (a ∷ []) q) → IsOperand t n a x → ResultIs is_none t n (with_args r (a ∷ []) q)
      → Whenever t n graph (with_args r (a ∷ []) q) (λ g core w vs. (v : Meant) → vs ≡ v ∷ [] → v ≡ MeantNothing) → IsWritten t n graph (with_args r (a ∷ []) q)
  none_written t typed n graph q a x is operand nothing none w early late room =
      let o : Op = with_args r (a ∷ []) q in
      let k : kind_seen (element_at t.known.annotation n q.result) ≡ kind.Nothing = none_kind _ nothing in
      set_is_written t typed n graph o is w room (none_operand (type_of (layout t) x) (Var a))
      (lowers (world t) (place_of (lowered_in t n graph) q.result) (operand_of (lowered_in t n graph) a) (before o w) (comes t n graph a x operand)
      ∙ ap (λ u. give (world t).around (place_of (lowered_in t n graph) q.result) (Var a) u (before o w)) (typed_by t n graph a x operand)
      ∙ none_goes (world t).around (place_of (lowered_in t n graph) q.result) (Var a) (before o w) (type_of (layout t) x) (place_of_none (layout t) (element_at t.known.annotation n q.result) k)) (gives k)
    where
      gives : kind_seen (element_at t.known.annotation n q.result) ≡ kind.Nothing
          → Whenever t n graph (with_args r (a ∷ []) q) (λ g core w vs. (v : Meant) × (meant_op t.seen.program q.covered r vs w ≡ Gives v w) × Holds (layout t) t.seen g (element_at t.known.annotation n q.result) (value_of core.vars (none_operand (type_of (layout t) x) (Var a))) v)
      gives k g core w [] memory given good = absurd given
      gives k g core w (v ∷ []) memory given good = (v, means t q.covered v w, none_held (layout t) (same t) t.seen g x core a v (element_at t.known.annotation n q.result) k operand.laid (none g core w (v ∷ []) memory given good v refl) (held_by t n graph g core a x v operand given.0) (type_of (layout t) x) refl)
      gives k g core w (v ∷ u ∷ vs) memory given good = absurd given.1

-- ---- `None`

only_lowers : (world : World) (place : Place) (a : Operand) (w : Writing) → Comes a → lowered world row.OnlyNone place (a ∷ []) w ≡ same_value world.around place a w
unfolding class_lowered class_of_some class_of_one list_lowered list_of_some first_of_one of_some of_one
only_lowers world place a w h = no_dict world row.OnlyNone place (a ∷ []) w refl ∙ one_plain world row.OnlyNone place a w h refl refl refl refl ∙ one_comes world.around row.OnlyNone place a w h

pub nothings : RowIsWrittenWhere (ResultIs is_none) row.OnlyNone
nothings = rows_of_one (ResultIs is_none) row.OnlyNone (record { asks = λ p a g node xs. refl; fits = λ tables xs. refl }) refl (λ tables x y. refl) (λ x y z. refl) written
  where
    written : OneIsWritten (ResultIs is_none) row.OnlyNone
    written t typed n graph q a x is operand met told = none_written row.OnlyNone only_lowers (λ t c v w. refl) t typed n graph q a x is operand told (λ g core w vs memory given good v e. subst (OfFirst (λ v. v ≡ MeantNothing)) e good.told)

-- ---- what counts as false

false_lowers : (world : World) (place : Place) (a : Operand) (w : Writing) → Comes a → lowered world row.FalseNone place (a ∷ []) w ≡ same_value world.around place a w
unfolding class_lowered class_of_some class_of_one list_lowered list_of_some first_of_one of_some of_one
false_lowers world place a w h = no_dict world row.FalseNone place (a ∷ []) w refl ∙ one_plain world row.FalseNone place a w h refl refl refl refl ∙ one_comes world.around row.FalseNone place a w h

-- an instance or a function
abbrev may_be_none : Shape → Bool
may_be_none (Inst c r) = true
may_be_none (Fun fs r) = true
may_be_none s = false

module _ (t : Typed) (typed : IsTyped t) (n : ℕ) (graph : Graph) (q : Op) (a : ℕ) (x : Element) (is : IsOp t n (with_args row.FalseNone (a ∷ []) q)) (operand : IsOperand t n a x) where
  abbrev false_op : Op
  false_op = with_args row.FalseNone (a ∷ []) q

  as_it_is : false_none (shape x) ≡ shape x → Above t n row.FalseNone false_op is (false_none (shape x)) → IsWritten t n graph false_op
  as_it_is so met w early late room =
      is_given t typed n graph false_op is a x is.under.0 w late room (goes_there t n graph false_op is x (elements_pass t typed x is.result operand.laid is.result_laid (below_so t typed (shape x) (shape is.result) (subst (λ s. Above t n row.FalseNone false_op is s) so met)))) (typed_by t n graph a x operand)
      (false_lowers (world t) (place_of (lowered_in t n graph) q.result) (operand_of (lowered_in t n graph) a) (before false_op w) (comes t n graph a x operand)) gives
    where
      gives : GivesIt t n graph false_op a x
      gives g core w [] memory given good = absurd given
      gives g core w (v ∷ []) memory given good = (v, refl, held_by t n graph g core a x v operand given.0)
      gives g core w (v ∷ u ∷ vs) memory given good = absurd given.1

  instance_none : (c : ℕ) (r : Bool) → shape x ≡ Inst c r → Whenever t n graph false_op (λ g core w vs. (v : Meant) → vs ≡ v ∷ [] → v ≡ MeantNothing)
  instance_none c r e g core w vs memory given good v eq =
      let h = class_laid (layout t) (same t) c r operand.laid e in
      subst (classes.IsNothing w) eq ((conditions_hold (setting t) (lowered_in t n graph) false_op).instances_false a c r refl refl (operand.is ∙ ap (λ e. Some e) h.is) g core w vs memory given good)

  function_none : (fs : List ℕ) (r : Bool) → shape x ≡ Fun fs r → Whenever t n graph false_op (λ g core w vs. (v : Meant) → vs ≡ v ∷ [] → v ≡ MeantNothing)
  function_none fs r e g core w [] memory given good v eq = absurd given
  function_none fs r e g core w (u ∷ []) memory given good v eq =
      let h : x ≡ element.Func fs r = function_laid (layout t) (same t) fs r operand.laid e in
      by (function_or_none fs r (operand.is ∙ ap (λ e. Some e) h) given.0)
    where
      by : OfFunction t.seen fs (value_of core.vars (Var a)) u ⊎ ((r ≡ true) × Gone kind.MaybeFunction (element_at t.known.annotation n a) (value_of core.vars (Var a)) u) → v ≡ MeantNothing
      by (inl it) = absurd (let f : Some true ≡ Some false = sym (ap (truth_in w) it.high) ∙ good.told in cc)
      by (inr gone) = (let k : u ∷ [] ≡ v ∷ [] = eq in let m : u ≡ v = cc in sym m ∙ gone.1.high)
  function_none fs r e g core w (u ∷ s ∷ vs) memory given good v eq = absurd given.1

  false_by : Above t n row.FalseNone false_op is (false_none (shape x)) → ResultIs is_none t n false_op ⊎ (may_be_none (shape x) ≡ false) → (s : Shape) → shape x ≡ s → IsWritten t n graph false_op
  false_by met (inl nothing) (Inst c r) e = none_written row.FalseNone false_lowers (λ t c v w. refl) t typed n graph q a x is operand nothing (instance_none c r e)
  false_by met (inl nothing) (Fun fs r) e = none_written row.FalseNone false_lowers (λ t c v w. refl) t typed n graph q a x is operand nothing (function_none fs r e)
  false_by met (inr other) (Inst c r) e = absurd (let f : true ≡ false = sym (ap may_be_none e) ∙ other in cc)
  false_by met (inr other) (Fun fs r) e = absurd (let f : true ≡ false = sym (ap may_be_none e) ∙ other in cc)
  false_by met so Nothing e = as_it_is (ap false_none e ∙ sym e) met
  false_by met so NoneOnly e = as_it_is (ap false_none e ∙ sym e) met
  false_by met so (Truth b) e = as_it_is (ap false_none e ∙ sym e) met
  false_by met so (Num b) e = as_it_is (ap false_none e ∙ sym e) met
  false_by met so (Str b) e = as_it_is (ap false_none e ∙ sym e) met
  false_by met so (Tup xs) e = as_it_is (ap false_none e ∙ sym e) met
  false_by met so (Lst s r) e = as_it_is (ap false_none e ∙ sym e) met
  false_by met so (Dct s r) e = as_it_is (ap false_none e ∙ sym e) met
  false_by met so (Clash o p) e = as_it_is (ap false_none e ∙ sym e) met

unmade : (s : Shape) → is_unmade (kind_in s) ≡ not (may_be_none s)
unmade Nothing = refl
unmade NoneOnly = refl
unmade (Truth b) = refl
unmade (Num b) = refl
unmade (Str One) = refl
unmade (Str Any) = refl
unmade (Str OrNone) = refl
unmade (Tup xs) = refl
unmade (Lst s true) = refl
unmade (Lst s false) = refl
unmade (Dct s true) = refl
unmade (Dct s false) = refl
unmade (Inst c true) = refl
unmade (Inst c false) = refl
unmade (Fun fs true) = refl
unmade (Fun fs false) = refl
unmade (Clash o p) = refl

flipped : (b : Bool) → not b ≡ true → b ≡ false
flipped false e = refl
flipped true e = absurd (let f : false ≡ true = e in cc)

-- an instance or a function counts as false where it is `None`, and then the result is `None` alone
pub falses : RowIsWrittenWhere FalseIsNone row.FalseNone
falses = rows_of_one FalseIsNone row.FalseNone (record { asks = λ p a g node xs. refl; fits = λ tables xs. refl }) refl (λ tables x y. refl) (λ x y z. refl) written
  where
    written : OneIsWritten FalseIsNone row.FalseNone
    written t typed n graph q a x is operand met told = false_by t typed n graph q a x is operand met (told_so told) (shape x) refl
      where
        told_so : FalseIsNone t n (with_args row.FalseNone (a ∷ []) q) → ResultIs is_none t n (with_args row.FalseNone (a ∷ []) q) ⊎ (may_be_none (shape x) ≡ false)
        told_so (inl r) = inl r
        told_so (inr f) = inr (flipped (may_be_none (shape x)) (sym (unmade (shape x)) ∙ first_is is_unmade t n row.FalseNone q a [] x operand f))
