-- What is known of a value that a test has told of.
use Rattle.std.proofs.Common.{◌≡◌, ℕ, [], ◌∷◌, Some, refl, sym, ap, ◌∙◌, subst}
use Rattle.ann_element.specs.declared.element.Element.{Element}
use Rattle.ann_lattice.specs.Order.{Below}
use Rattle.ann_lattice.specs.Row.{drop_none}
use Rattle.ann_lattice.specs.Shape.{Shape, Nothing, NoneOnly, Truth, Num, Str, Tup, Lst, Dct, Inst, Fun, Clash, shape}
use Rattle.csub_tree.specs.declared.tree.COperand.TheVariants.{Var}
use Rattle.flow_graph.specs.declared.graph.Graph.{Graph}
use Rattle.flow_graph.specs.declared.graph.Op.{Op}
use Rattle.ll_code.specs.declared.program.LlType.TheVariants as type
use Rattle.lower_laws.proofs.Coming.{Comes, one_comes}
use Rattle.lower_laws.proofs.Typing.{place_of_none}
use Rattle.object_laws.proofs.Nothings.{nothing_held}
use Rattle.rpy_meaning.specs.declared.row.RowOp.TheVariants as row
use Rattle.rtyper_class.specs.Lowering.{lowered as class_lowered, of_some as class_of_some, of_one as class_of_one}
use Rattle.rtyper_class.specs.Seen.{World}
use Rattle.rtyper_data.specs.Converting.{give}
use Rattle.rtyper_data.specs.Seen.{Operand, Place, Writing}
use Rattle.rtyper_list.specs.Lowering.{lowered as list_lowered, of_some as list_of_some, first_of_one}
use Rattle.rtyper_op.specs.Lowering.{of_one, of_some, same as same_value}
use Rattle.rtyper_program.specs.Blocks.{lowered}
use Rattle.rtyper_program.specs.Seen.{operand_of, place_of}
use Rattle.rtyped_runs.specs.Laws.{before}
use Rattle.class_laws.proofs.Lowered.{one_plain}
use Rattle.typed_rows.specs.Programs.{Typed, IsTyped, layout, same, world}
use Rattle.typed_rows.specs.Rows.{IsOp, IsWritten, RowIsWritten, lowered_in}
use Rattle.typed_rows.proofs.Going.{elements_pass}
use Rattle.value_rows.proofs.Copies.{comes, goes_there, held_by, typed_by}
use Rattle.value_rows.proofs.Dropping.{Dropped, dropped}
use Rattle.value_rows.proofs.Giving.{GivesIt, below_so, is_given}
use Rattle.value_rows.proofs.Lowering.{no_dict}
use Rattle.value_rows.proofs.Operands.{Above, Any, IsOperand, OneIsWritten, rows_of_one, whatever, with_args}
use Rattle.value_rows.proofs.Placing.{Added, Whenever, flag_given, never_written}
use Rattle.value_rows.proofs.Shaped.{kind_at}

-- ---- not `None`

drop_lowers : (world : World) (place : Place) (a : Operand) (w : Writing) → Comes a → lowered world row.DropNone place (a ∷ []) w ≡ same_value world.around place a w
unfolding class_lowered class_of_some class_of_one list_lowered list_of_some first_of_one of_some of_one
drop_lowers world place a w h = no_dict world row.DropNone place (a ∷ []) w refl ∙ one_plain world row.DropNone place a w h refl refl refl refl ∙ one_comes world.around row.DropNone place a w h

module _ (t : Typed) (typed : IsTyped t) (n : ℕ) (graph : Graph) (q : Op) (a : ℕ) (x : Element) (operand : IsOperand t n a x) where
  abbrev dropping : Op
  dropping = with_args row.DropNone (a ∷ []) q

  -- of what is `None` alone nothing ever comes
  drop_never : IsOp t n dropping → shape x ≡ NoneOnly → IsWritten t n graph dropping
  drop_never is e w early late room =
      let k = kind_at x NoneOnly e in
      let made = drop_lowers (world t) (place_of (lowered_in t n graph) dropping.result) (operand_of (lowered_in t n graph) a) (before dropping w) (comes t n graph a x operand)
      ∙ ap (λ u. give (world t).around (place_of (lowered_in t n graph) dropping.result) (Var a) u (before dropping w)) (typed_by t n graph a x operand ∙ place_of_none (layout t) (Some x) k) in
      let more : Added (give (world t).around (place_of (lowered_in t n graph) dropping.result) (Var a) type.Bool (before dropping w)) (before dropping w) = flag_given (world t).around (place_of (lowered_in t n graph) dropping.result) (Var a) (before dropping w) in
      never_written t typed n graph dropping is w room more.ops [] (ap (λ (m : Writing). m.body.ops) made ∙ more.written) (ap (λ (m : Writing). m.body.types) made ∙ more.types) never
    where
      never : Whenever t n graph dropping (λ g core w vs. ⊥)
      never g core w [] memory given good = absurd given
      never g core w (v ∷ []) memory given good = good.told (nothing_held (kind_at x NoneOnly e) (held_by t n graph g core a x v operand given.0))
      never g core w (v ∷ u ∷ vs) memory given good = absurd given.1

  drop_given : (is : IsOp t n dropping) → Above t n row.DropNone dropping is (drop_none (shape x)) → (shape x ≡ NoneOnly → ⊥) → IsWritten t n graph dropping
  drop_given is met some w early late room =
      let d : Dropped (layout t) (same t) t.seen x = dropped (layout t) (same t) t.seen x (shape x) operand.laid refl some in
      is_given t typed n graph dropping is a d.from is.under.0 w late room
      (goes_there t n graph dropping is d.from (elements_pass t typed d.from is.result d.laid is.result_laid (subst (λ s. Below t.classes.classes (same t) s (shape is.result)) (sym d.shaped) (below_so t typed (drop_none (shape x)) (shape is.result) met))))
      (typed_by t n graph a x operand ∙ sym d.typed)
      (drop_lowers (world t) (place_of (lowered_in t n graph) dropping.result) (operand_of (lowered_in t n graph) a) (before dropping w) (comes t n graph a x operand)) (gives d)
    where
      gives : (d : Dropped (layout t) (same t) t.seen x) → GivesIt t n graph dropping a d.from
      gives d g core w [] memory given good = absurd given
      gives d g core w (v ∷ []) memory given good = (v, refl, d.holds g _ v good.told (held_by t n graph g core a x v operand given.0))
      gives d g core w (v ∷ u ∷ vs) memory given good = absurd given.1

  drop_by : (is : IsOp t n dropping) → Above t n row.DropNone dropping is (drop_none (shape x)) → (s : Shape) → shape x ≡ s → IsWritten t n graph dropping
  drop_by is met NoneOnly e = drop_never is e
  drop_by is met Nothing e = drop_given is met (λ k. (let f : Nothing ≡ NoneOnly = sym e ∙ k in absurd (cc)))
  drop_by is met (Truth b) e = drop_given is met (λ k. (let f : Truth b ≡ NoneOnly = sym e ∙ k in absurd (cc)))
  drop_by is met (Num b) e = drop_given is met (λ k. (let f : Num b ≡ NoneOnly = sym e ∙ k in absurd (cc)))
  drop_by is met (Str b) e = drop_given is met (λ k. (let f : Str b ≡ NoneOnly = sym e ∙ k in absurd (cc)))
  drop_by is met (Tup xs) e = drop_given is met (λ k. (let f : Tup xs ≡ NoneOnly = sym e ∙ k in absurd (cc)))
  drop_by is met (Lst s r) e = drop_given is met (λ k. (let f : Lst s r ≡ NoneOnly = sym e ∙ k in absurd (cc)))
  drop_by is met (Dct s r) e = drop_given is met (λ k. (let f : Dct s r ≡ NoneOnly = sym e ∙ k in absurd (cc)))
  drop_by is met (Inst s r) e = drop_given is met (λ k. (let f : Inst s r ≡ NoneOnly = sym e ∙ k in absurd (cc)))
  drop_by is met (Fun s r) e = drop_given is met (λ k. (let f : Fun s r ≡ NoneOnly = sym e ∙ k in absurd (cc)))
  drop_by is met (Clash o p) e = drop_given is met (λ k. (let f : Clash o p ≡ NoneOnly = sym e ∙ k in absurd (cc)))

pub drops : RowIsWritten row.DropNone
drops = whatever row.DropNone (rows_of_one Any row.DropNone (record { asks = λ p a g node xs. refl; fits = λ tables xs. refl }) refl (λ tables x y. refl) (λ x y z. refl) written)
  where
    written : OneIsWritten Any row.DropNone
    written t typed n graph q a x is operand met told = drop_by t typed n graph q a x operand is met (shape x) refl
