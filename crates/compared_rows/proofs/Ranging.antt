-- What is left of a range, and its item.
use Rattle.std.proofs.Common.{◌≡◌, ℕ, ℤ, pos, Bool, true, false, [], ◌∷◌, Some, None, refl, ap, ◌∙◌}
use Rattle.std.specs.Prelude.{◌&&◌, int_lt, not, if◌then◌else◌}
use Rattle.ann_lattice.specs.Kind.{given, is_int, is_positive, misfit}
use Rattle.ann_lattice.specs.Row.{both_int}
use Rattle.ann_lattice.specs.Shape.{Num, Truth, shape}
use Rattle.flow_graph.specs.declared.graph.Graph.{Graph}
use Rattle.flow_graph.specs.declared.graph.Op.{Op}
use Rattle.lower_laws.specs.Values.{is_plain}
use Rattle.lower_laws.proofs.Bridged.{followed_is_done}
use Rattle.lower_laws.proofs.Copied.{reached_is_done}
use Rattle.lower_laws.proofs.Inline.{range_has_is_followed}
use Rattle.lower_laws.proofs.Typing.{is_word, place_of_flags}
use Rattle.rpy_meaning.specs.Walks.{has_item, item}
use Rattle.rpy_tree.specs.Value.{Value, Word}
use Rattle.rpy_meaning.specs.declared.row.RowOp.TheVariants as row
use Rattle.rtyper_class.specs.Lowering.{lowered as class_lowered, of_some as class_of_some, of_two as class_of_two}
use Rattle.rtyper_class.specs.Seen.{World}
use Rattle.rtyper_data.specs.Seen.{Operand, Place, kind_of, Writing}
use Rattle.rtyper_layout.specs.declared.kind.Kind.TheVariants as kind
use Rattle.rtyper_list.specs.Lowering.{lowered as list_lowered, of_some as list_of_some, second_of_two}
use Rattle.rtyper_op.specs.Lowering.{lower_op, never_comes}
use Rattle.rtyper_program.specs.Blocks.{lowered}
use Rattle.rtyper_program.specs.Raises.{is_covered}
use Rattle.typed_rows.specs.Programs.{Typed}
use Rattle.typed_rows.specs.Rows.{IsWritten, RowIsWritten}
use Rattle.value_rows.proofs.Lowering.{two_unlisted}
use Rattle.value_rows.proofs.Operands.{Above, Any, TwoAreWritten, misfits, rows_of_two, whatever, with_args}
use Rattle.value_rows.proofs.Premises.{Few, nothing_stands}
use Rattle.value_rows.proofs.Shaped.{flag_kind, num_above, truth_above, word_kind}
use Rattle.value_rows.proofs.Throwing.{Fine, two_fine}
use Rattle.value_rows.proofs.Words.{IsTwoRow, and_left, and_right, not_listed, two_written}

module _ (step : ℤ) where
  has_fine : (may : Bool) (x y : Value) → Fine may (has_item (Some step) x y)
  has_fine may (Word a) (Word b) = λ w. tt
  has_fine may (Word a) y = λ w. tt
  has_fine may x y = λ w. tt

  has_few : (t : Typed) (n : ℕ) (graph : Graph) (q : Op) (a b : ℕ) → Few t n graph (with_args (row.HasItem (Some step)) (a ∷ b ∷ []) q)
  has_few t n graph q a b g core vs w given = two_fine (is_covered q.covered) (has_item (Some step)) (has_fine (is_covered q.covered)) vs w

  takes_few : (t : Typed) (n : ℕ) (graph : Graph) (q : Op) (a b : ℕ) → Few t n graph (with_args (row.Item (Some step)) (a ∷ b ∷ []) q)
  takes_few t n graph q a b g core vs w given = two_fine (is_covered q.covered) (item (Some step)) (λ x y w. tt) vs w

  has_lowers : (world : World) (place : Place) (a b : Operand) (w : Writing) → kind_of a ≡ kind.Word → kind_of b ≡ kind.Word → lowered world (row.HasItem (Some step)) place (a ∷ b ∷ []) w ≡ lower_op world.around (row.HasItem (Some step)) place (a ∷ b ∷ []) w
  unfolding class_lowered class_of_some class_of_two list_lowered list_of_some second_of_two
  has_lowers world place a b w ka kb = two_unlisted world (row.HasItem (Some step)) place a b w (ap never_comes ka) (ap never_comes kb) (not_listed a ka) refl refl refl refl refl

  takes_lowers : (world : World) (place : Place) (a b : Operand) (w : Writing) → kind_of a ≡ kind.Word → kind_of b ≡ kind.Word → lowered world (row.Item (Some step)) place (a ∷ b ∷ []) w ≡ lower_op world.around (row.Item (Some step)) place (a ∷ b ∷ []) w
  unfolding class_lowered class_of_some class_of_two list_lowered list_of_some second_of_two
  takes_lowers world place a b w ka kb = two_unlisted world (row.Item (Some step)) place a b w (ap never_comes ka) (ap never_comes kb) (not_listed a ka) refl refl refl refl refl

  has_row : IsTwoRow kind.Word kind.Word kind.Flag (row.HasItem (Some step)) (λ c. [])
  has_row = record {
    law = λ around place a b w ka kb kc.
        followed_is_done around (row.HasItem (Some step)) place (a ∷ b ∷ []) w (range_has_is_followed step around place a b w (is_word around a ka) (is_word around b kb) (place_of_flags around.layout place.element kc)) (ap is_plain kc)
        (ap (λ c. c && (is_plain (kind_of b) && true)) (ap is_plain ka) ∙ ap (λ c. c && true) (ap is_plain kb)) w.found.covered;
    lowers = has_lowers;
    stand = λ c. nothing_stands;
    few = has_few;
    simple = (refl, refl, refl);
  }

  takes_row : IsTwoRow kind.Word kind.Word kind.Word (row.Item (Some step)) (λ c. [])
  takes_row = record {
    law = λ around place a b w ka kb kc. reached_is_done step around place a b w w.found.covered ka kb kc;
    lowers = takes_lowers;
    stand = λ c. nothing_stands;
    few = takes_few;
    simple = (refl, refl, refl);
  }

  pub left_written : RowIsWritten (row.HasItem (Some step))
  left_written = whatever (row.HasItem (Some step)) (rows_of_two Any (row.HasItem (Some step)) (record { asks = λ p a g node xs. refl; fits = λ tables xs. refl }) refl (λ tables x. refl) (λ x y z. refl) written)
    where
      written : TwoAreWritten Any (row.HasItem (Some step))
      written t typed n graph q a b x y is first second met told = by (both_int (shape x) (shape y)) refl met
        where
          by : (c : Bool) → both_int (shape x) (shape y) ≡ c → Above t n (row.HasItem (Some step)) (with_args (row.HasItem (Some step)) (a ∷ b ∷ []) q) is (given c (Truth None)) → IsWritten t n graph (with_args (row.HasItem (Some step)) (a ∷ b ∷ []) q)
          by true e met =
              two_written kind.Word kind.Word kind.Flag (row.HasItem (Some step)) (λ c. []) has_row t typed n graph q a b x y is first second (word_kind x (and_left (is_int (shape x)) (is_int (shape y)) e)) (word_kind y (and_right (is_int (shape x)) (is_int (shape y)) e))
              (flag_kind is.result (truth_above t.whole.tables.classes t.assigned.same None (shape is.result) met is.fits.free))
          by false e met = absurd (misfits t n (row.HasItem (Some step)) (with_args (row.HasItem (Some step)) (a ∷ b ∷ []) q) is misfit refl met)

  pub item_written : RowIsWritten (row.Item (Some step))
  item_written = whatever (row.Item (Some step)) (rows_of_two Any (row.Item (Some step)) (record { asks = λ p a g node xs. refl; fits = λ tables xs. refl }) refl (λ tables x. refl) (λ x y z. refl) written)
    where
      written : TwoAreWritten Any (row.Item (Some step))
      written t typed n graph q a b x y is first second met told = by (both_int (shape x) (shape y)) refl met
        where
          low : Bool
          low = not (is_positive (if int_lt (pos 0) step then shape y else shape x))

          by : (c : Bool) → both_int (shape x) (shape y) ≡ c → Above t n (row.Item (Some step)) (with_args (row.Item (Some step)) (a ∷ b ∷ []) q) is (given c (Num low)) → IsWritten t n graph (with_args (row.Item (Some step)) (a ∷ b ∷ []) q)
          by true e met =
              two_written kind.Word kind.Word kind.Word (row.Item (Some step)) (λ c. []) takes_row t typed n graph q a b x y is first second (word_kind x (and_left (is_int (shape x)) (is_int (shape y)) e)) (word_kind y (and_right (is_int (shape x)) (is_int (shape y)) e))
              (word_kind is.result (num_above t.whole.tables.classes t.assigned.same low (shape is.result) met is.fits.free))
          by false e met = absurd (misfits t n (row.Item (Some step)) (with_args (row.Item (Some step)) (a ∷ b ∷ []) q) is misfit refl met)
