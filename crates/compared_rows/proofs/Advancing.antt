-- The next number of a range whose step is neither one nor minus one.
use Rattle.std.proofs.Common.{◌≡◌, ℕ, ℤ, pos, Bool, true, false, [], ◌∷◌, Some, refl, ap, ◌∙◌}
use Rattle.std.specs.Prelude.{◌&&◌, int_lt, not}
use Rattle.ann_lattice.specs.Kind.{given, is_int, is_positive, misfit}
use Rattle.ann_lattice.specs.Row.{both_int}
use Rattle.ann_lattice.specs.Shape.{Num, shape}
use Rattle.flow_graph.specs.declared.graph.Graph.{Graph}
use Rattle.flow_graph.specs.declared.graph.Op.{Op}
use Rattle.ll_build.specs.declared.needs.Helper.{Helper}
use Rattle.ll_build.specs.declared.needs.Helper.TheVariants as helper
use Rattle.ll_code.specs.declared.program.LlType.TheVariants as type
use Rattle.lower_laws.specs.Asked.{Help}
use Rattle.lower_laws.specs.Done.{IsDone as IsPlainlyDone}
use Rattle.lower_laws.specs.Follows.{IsWord}
use Rattle.lower_laws.specs.Helped.{IsLong, OnTwo}
use Rattle.lower_laws.specs.Values.{is_plain}
use Rattle.lower_laws.proofs.Bridged.{helped_is_done}
use Rattle.lower_laws.proofs.Others.{falling_is_helped, rising_is_helped}
use Rattle.lower_laws.proofs.Typing.{is_word as is_a_word, place_of_words}
use Rattle.rpy_base.specs.Word.{Fits}
use Rattle.rpy_meaning.specs.Classes.{no_covers}
use Rattle.rpy_meaning.specs.Walks.{advance}
use Rattle.rpy_tree.specs.Value.{Value, Word}
use Rattle.rpy_meaning.specs.declared.row.RowOp.TheVariants as row
use Rattle.rtyper_class.specs.Lowering.{lowered as class_lowered, of_some as class_of_some, of_two as class_of_two}
use Rattle.rtyper_class.specs.Seen.{World}
use Rattle.rtyper_data.specs.Numbers.{rises}
use Rattle.rtyper_data.specs.Seen.{Around, Operand, Place, kind_of, Writing}
use Rattle.rtyper_layout.specs.Kinds.{kind_seen}
use Rattle.rtyper_layout.specs.declared.kind.Kind.TheVariants as kind
use Rattle.rtyper_list.specs.Lowering.{lowered as list_lowered, of_some as list_of_some, second_of_two}
use Rattle.rtyper_op.specs.Lowering.{lower_op, never_comes}
use Rattle.rtyper_program.specs.Blocks.{lowered}
use Rattle.rtyper_program.specs.Raises.{is_covered}
use Rattle.typed_rows.specs.Programs.{Typed}
use Rattle.typed_rows.specs.Rows.{IsWritten, RowIsWritten}
use Rattle.value_rows.proofs.Lowering.{two_unlisted}
use Rattle.value_rows.proofs.Operands.{Above, Any, TwoAreWritten, misfits, rows_of_two, whatever, with_args}
use Rattle.value_rows.proofs.Premises.{AsksStand, Few, helps_stand}
use Rattle.value_rows.proofs.Shaped.{num_above, word_kind}
use Rattle.value_rows.proofs.Throwing.{Fine, two_fine}
use Rattle.value_rows.proofs.Words.{IsTwoRow, and_left, and_right, not_listed, two_written}

module _ (step : ℤ) where
  next_fine : (may : Bool) (x y : Value) → Fine may (advance (Some step) x y)
  next_fine may (Word a) (Word b) = λ w. tt
  next_fine may (Word a) y = λ w. tt
  next_fine may x y = λ w. tt

  next_few : (t : Typed) (n : ℕ) (graph : Graph) (q : Op) (a b : ℕ) → Few t n graph (with_args (row.Advance (Some step)) (a ∷ b ∷ []) q)
  next_few t n graph q a b g core vs w given = two_fine (is_covered q.covered) (advance (Some step)) (next_fine (is_covered q.covered)) vs w

  next_lowers : (world : World) (place : Place) (a b : Operand) (w : Writing) → kind_of a ≡ kind.Word → kind_of b ≡ kind.Word → lowered world (row.Advance (Some step)) place (a ∷ b ∷ []) w ≡ lower_op world.around (row.Advance (Some step)) place (a ∷ b ∷ []) w
  unfolding class_lowered class_of_some class_of_two list_lowered list_of_some second_of_two
  next_lowers world place a b w ka kb = two_unlisted world (row.Advance (Some step)) place a b w (ap never_comes ka) (ap never_comes kb) (not_listed a ka) refl refl refl refl refl

  module _ (h : Helper) (law : OnTwo IsWord IsWord h (row.Advance (Some step)) type.Signed) (stand : AsksStand (Help h ∷ [])) where
    helped_words : (around : Around) (place : Place) (a b : Operand) (w : Writing) → kind_of a ≡ kind.Word → kind_of b ≡ kind.Word → kind_seen place.element ≡ kind.Word → IsPlainlyDone around (row.Advance (Some step)) no_covers (Help h ∷ []) place (a ∷ b ∷ []) w
    helped_words around place a b w ka kb kc =
        helped_is_done around (row.Advance (Some step)) h place (a ∷ b ∷ []) w (law around place a b w (is_a_word around a ka) (is_a_word around b kb) (place_of_words around.layout place.element kc)) (ap is_plain kc)
        (ap (λ c. c && (is_plain (kind_of b) && true)) (ap is_plain ka) ∙ ap (λ c. c && true) (ap is_plain kb))

    next_row : IsTwoRow kind.Word kind.Word kind.Word (row.Advance (Some step)) (λ c. Help h ∷ [])
    next_row = record {
      law = λ around place a b w ka kb kc. (let d = helped_words around place a b w ka kb kc in record { ops = d.ops; new = d.new; asked = d.asked; written = d.written; types = d.types; follows = d.follows });
      lowers = next_lowers;
      stand = λ c. stand;
      few = next_few;
      simple = (refl, refl, refl);
    }

    next_written : RowIsWritten (row.Advance (Some step))
    next_written = whatever (row.Advance (Some step)) (rows_of_two Any (row.Advance (Some step)) (record { asks = λ p a g node xs. refl; fits = λ tables xs. refl }) refl (λ tables x. refl) (λ x y z. refl) written)
      where
        written : TwoAreWritten Any (row.Advance (Some step))
        written t typed n graph q a b x y is first second met told = by (both_int (shape x) (shape y)) refl met
          where
            low : Bool
            low = not (int_lt (pos 0) step && is_positive (shape y))

            by : (c : Bool) → both_int (shape x) (shape y) ≡ c → Above t n (row.Advance (Some step)) (with_args (row.Advance (Some step)) (a ∷ b ∷ []) q) is (given c (Num low)) → IsWritten t n graph (with_args (row.Advance (Some step)) (a ∷ b ∷ []) q)
            by true e met =
                two_written kind.Word kind.Word kind.Word (row.Advance (Some step)) (λ c. Help h ∷ []) next_row t typed n graph q a b x y is first second (word_kind x (and_left (is_int (shape x)) (is_int (shape y)) e)) (word_kind y (and_right (is_int (shape x)) (is_int (shape y)) e))
                (word_kind is.result (num_above t.whole.tables.classes t.assigned.same low (shape is.result) met is.fits.free))
            by false e met = absurd (misfits t n (row.Advance (Some step)) (with_args (row.Advance (Some step)) (a ∷ b ∷ []) q) is misfit refl met)

  pub rising_written : Fits step → IsLong step → rises step ≡ true → RowIsWritten (row.Advance (Some step))
  rising_written fits long r = next_written helper.RangeUp (rising_is_helped step fits long r) (helps_stand helper.RangeUp (λ c. refl))

  pub falling_written : Fits step → IsLong step → int_lt step (pos 0) ≡ true → RowIsWritten (row.Advance (Some step))
  falling_written fits long r = next_written helper.RangeDown (falling_is_helped step fits long r) (helps_stand helper.RangeDown (λ c. refl))
