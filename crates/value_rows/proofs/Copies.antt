-- Copies, and what is known not to be below zero.
use Rattle.std.proofs.Common.{◌≡◌, ℕ, Bool, true, false, List, [], ◌∷◌, Some, refl, sym, ap, ◌∙◌, subst}
use Rattle.std.specs.Prelude.{◌&&◌, if◌then◌else◌}
use Rattle.ann_element.specs.declared.element.Element.{Element}
use Rattle.ann_lattice.specs.Kind.{is_int, is_nothing, is_positive}
use Rattle.ann_lattice.specs.Shape.{One, Any as AnyWidth, OrNone, Shape, Nothing, NoneOnly, Truth, Num, Str, Tup, Lst, Dct, Inst, Fun, Clash, shape}
use Rattle.conversion_laws.specs.Going.{Goes, Staying}
use Rattle.csub_tree.specs.State.{Core}
use Rattle.csub_tree.specs.Statement.{operand}
use Rattle.csub_tree.specs.declared.tree.COperand.TheVariants.{Var}
use Rattle.flow_graph.specs.declared.graph.Graph.{Graph}
use Rattle.flow_graph.specs.declared.graph.Op.{Op}
use Rattle.lower_laws.specs.Tuples.{Same}
use Rattle.lower_laws.proofs.Coming.{Comes, one_comes, two_come}
use Rattle.object_laws.specs.Staying.{Plainly}
use Rattle.object_laws.specs.Ghost.{Ghost}
use Rattle.object_laws.specs.Values.{Holds}
use Rattle.rpy_meaning.specs.Operations.{op}
use Rattle.rpy_meaning.specs.declared.row.RowOp.{RowOp}
use Rattle.rpy_meaning.specs.declared.row.RowOp.TheVariants as row
use Rattle.rpy_tree.specs.Value.{Value as Meant}
use Rattle.rtyper_class.specs.Lowering.{lowered as class_lowered, of_some as class_of_some, of_one as class_of_one, of_two as class_of_two}
use Rattle.rtyper_class.specs.Seen.{World}
use Rattle.rtyper_data.specs.Seen.{Operand, Place, type_of as type_of_operand, Writing}
use Rattle.rtyper_layout.specs.declared.kind.Kind.{Kind}
use Rattle.rtyper_layout.specs.declared.kind.Kind.TheVariants as kind
use Rattle.rtyper_layout.specs.Kinds.{kind_seen}
use Rattle.rtyper_layout.specs.Types.{type_of, type_seen}
use Rattle.rtyper_list.specs.Lowering.{lowered as list_lowered, of_some as list_of_some, first_of_one, first_of_two, second_of_two}
use Rattle.rtyper_op.specs.Lowering.{never_comes, of_one, of_some, of_two, same as same_value}
use Rattle.rtyper_program.specs.Blocks.{lowered}
use Rattle.rtyper_program.specs.Seen.{operand_of, place_of}
use Rattle.rtyped_runs.specs.Laws.{before}
use Rattle.class_laws.proofs.Lowered.{one_plain, two_plain}
use Rattle.typed_rows.specs.Programs.{Typed, IsTyped, layout, world}
use Rattle.typed_rows.specs.Rows.{FirstIs, IsOp, RowIsWritten, kind_at, lowered_in}
use Rattle.typed_rows.proofs.Going.{elements_pass}
use Rattle.value_rows.proofs.Giving.{GivesIt, below_so, is_given}
use Rattle.value_rows.proofs.Lowering.{no_dict}
use Rattle.value_rows.proofs.Operands.{Above, Any, IsOperand, OneIsWritten, TwoAreWritten, rows_of_one, rows_of_two, whatever, with_args}
use Rattle.value_rows.proofs.Shaped.{kind_in, kind_is, num_above, word_kind}

-- ---- operands come

never_test : (s : Shape) → never_comes (kind_in s) ≡ is_nothing s
never_test Nothing = refl
never_test NoneOnly = refl
never_test (Truth b) = refl
never_test (Num b) = refl
never_test (Str One) = refl
never_test (Str AnyWidth) = refl
never_test (Str OrNone) = refl
never_test (Tup xs) = refl
never_test (Lst s true) = refl
never_test (Lst s false) = refl
never_test (Dct s true) = refl
never_test (Dct s false) = refl
never_test (Inst c true) = refl
never_test (Inst c false) = refl
never_test (Fun fs true) = refl
never_test (Fun fs false) = refl
never_test (Clash o p) = refl

pub comes : (t : Typed) (n : ℕ) (graph : Graph) (v : ℕ) (x : Element) → IsOperand t n v x → Comes (operand_of (lowered_in t n graph) v)
comes t n graph v x operand = ap (λ e. never_comes (kind_seen e)) operand.is ∙ ap never_comes (kind_is x) ∙ never_test (shape x) ∙ operand.some

-- the kind of the first operand
pub first_is : (of : Kind → Bool) (t : Typed) (n : ℕ) (r : RowOp) (o : Op) (a : ℕ) (more : List ℕ) (x : Element) → IsOperand t n a x → FirstIs of t n (with_args r (a ∷ more) o) → of (kind_in (shape x)) ≡ true
first_is of t n r o a more x operand told =
    let q : Some a ≡ Some told.0 = told.1 in
    let v : a ≡ told.0 = cc in
    ap of (sym (kind_is x)) ∙ ap (λ e. of (kind_seen e)) (sym operand.is) ∙ ap (λ v. of (kind_at t n v)) v ∙ told.2

-- what is held by an operand
pub held_by : (t : Typed) (n : ℕ) (graph : Graph) (g : Ghost) (core : Core) (v : ℕ) (x : Element) (value : Meant) → IsOperand t n v x → Holds (layout t) t.seen g (operand_of (lowered_in t n graph) v).element (operand core.vars (Var v)) value → Holds (layout t) t.seen g (Some x) (operand core.vars (Var v)) value
held_by t n graph g core v x value op held = subst (λ e. Holds (layout t) t.seen g e (operand core.vars (Var v)) value) op.is held

pub typed_by : (t : Typed) (n : ℕ) (graph : Graph) (v : ℕ) (x : Element) → IsOperand t n v x → type_of_operand (world t).around (operand_of (lowered_in t n graph) v) ≡ type_of (layout t) x
typed_by t n graph v x op = ap (type_seen (layout t)) op.is

pub goes_there : (t : Typed) (n : ℕ) (graph : Graph) (o : Op) (is : IsOp t n o) (from : Element) → Goes (layout t) t.seen (Some from) (Some is.result) → Goes (layout t) t.seen (Some from) (place_of (lowered_in t n graph) o.result).element
goes_there t n graph o is from goes = subst (λ e. Goes (layout t) t.seen (Some from) e) (sym is.result_is) goes

-- ---- copies

copy_lowers : (world : World) (place : Place) (a : Operand) (w : Writing) → Comes a → lowered world row.Copy place (a ∷ []) w ≡ same_value world.around place a w
unfolding class_lowered class_of_some class_of_one list_lowered list_of_some first_of_one of_some of_one
copy_lowers world place a w h = no_dict world row.Copy place (a ∷ []) w refl ∙ one_plain world row.Copy place a w h refl refl refl refl ∙ one_comes world.around row.Copy place a w h

pub copies : RowIsWritten row.Copy
copies = whatever row.Copy (rows_of_one Any row.Copy (record { asks = λ p a g node xs. refl; fits = λ tables xs. refl }) refl (λ tables x y. refl) (λ x y z. refl) written)
  where
    written : OneIsWritten Any row.Copy
    written t typed n graph q a x is operand met told w early late room =
        let o : Op = with_args row.Copy (a ∷ []) q in
        is_given t typed n graph o is a x is.under.0 w late room (goes_there t n graph o is x (elements_pass t typed x is.result operand.laid is.result_laid (below_so t typed (shape x) (shape is.result) met))) (typed_by t n graph a x operand)
        (copy_lowers (world t) (place_of (lowered_in t n graph) o.result) (operand_of (lowered_in t n graph) a) (before o w) (comes t n graph a x operand)) gives
      where
        gives : GivesIt t n graph (with_args row.Copy (a ∷ []) q) a x
        gives g core w [] memory given good = absurd given
        gives g core w (v ∷ []) memory given good = (v, refl, held_by t n graph g core a x v operand given.0)
        gives g core w (v ∷ u ∷ vs) memory given good = absurd given.1

-- ---- what is known not to be below zero

non_negative_lowers : (world : World) (place : Place) (a b : Operand) (w : Writing) → Comes a → Comes b → lowered world row.NonNegative place (a ∷ b ∷ []) w ≡ same_value world.around place a w
unfolding class_lowered class_of_some class_of_two list_lowered list_of_some first_of_two second_of_two of_some of_two
non_negative_lowers world place a b w h k = no_dict world row.NonNegative place (a ∷ b ∷ []) w refl ∙ two_plain world row.NonNegative place a b w h k refl refl refl refl refl ∙ two_come world.around row.NonNegative place a b w h k

pub non_negatives : RowIsWritten row.NonNegative
non_negatives = whatever row.NonNegative (rows_of_two Any row.NonNegative (record { asks = λ p a g node xs. refl; fits = λ tables xs. refl }) refl (λ tables x. refl) (λ x y z. refl) written)
  where
    goes : (t : Typed) → IsTyped t → (n : ℕ) (graph : Graph) (o : Op) (is : IsOp t n o) (a : ℕ) (x : Element) → IsOperand t n a x → (p i : Bool) → is_int (shape x) ≡ i → Above t n row.NonNegative o is (if p && i then Num false else shape x) → Goes (layout t) t.seen (Some x) (Some is.result)
    goes t typed n graph o is a x operand true true e met =
        Staying (Plainly (Same kind.Word refl (word_kind x e) (word_kind is.result (num_above t.whole.tables.classes t.assigned.same false (shape is.result) met is.fits.free))))
    goes t typed n graph o is a x operand true false e met = elements_pass t typed x is.result operand.laid is.result_laid (below_so t typed (shape x) (shape is.result) met)
    goes t typed n graph o is a x operand false i e met = elements_pass t typed x is.result operand.laid is.result_laid (below_so t typed (shape x) (shape is.result) met)

    written : TwoAreWritten Any row.NonNegative
    written t typed n graph q a b x y is first second met told w early late room =
        let o : Op = with_args row.NonNegative (a ∷ b ∷ []) q in
        is_given t typed n graph o is a x is.under.0 w late room (goes_there t n graph o is x (goes t typed n graph o is a x first (is_positive (shape y)) (is_int (shape x)) refl met)) (typed_by t n graph a x first)
        (non_negative_lowers (world t) (place_of (lowered_in t n graph) o.result) (operand_of (lowered_in t n graph) a) (operand_of (lowered_in t n graph) b) (before o w) (comes t n graph a x first) (comes t n graph b y second)) gives
      where
        gives : GivesIt t n graph (with_args row.NonNegative (a ∷ b ∷ []) q) a x
        gives g core w [] memory given good = absurd given
        gives g core w (v ∷ []) memory given good = absurd given.1
        gives g core w (v ∷ u ∷ []) memory given good = (v, refl, held_by t n graph g core a x v first given.0)
        gives g core w (v ∷ u ∷ r ∷ vs) memory given good = absurd given.1.1
