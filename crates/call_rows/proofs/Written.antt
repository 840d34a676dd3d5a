-- What is written for a call, where what its law asks for stands.
use Rattle.std.proofs.Common.{◌≡◌, ◌≤◌, ℕ, zero, suc, ◌+◌, false, List, [], ◌∷◌, ◌++◌, length, Option, Some, sym, ap, ◌∙◌, subst}
use Rattle.std.specs.Prelude.{slice_get}
use Rattle.ann_element.specs.declared.element.Element.{Element}
use Rattle.flow_graph.specs.declared.graph.Graph.{Graph}
use Rattle.flow_graph.specs.declared.graph.Op.{Op}
use Rattle.ll_code.specs.declared.program.LlProgram.{LlProgram}
use Rattle.rpy_meaning.specs.declared.row.RowOp.{RowOp}
use Rattle.rtyper_class.specs.Lowering.{lower_class_op}
use Rattle.rtyper_data.specs.declared.found.Found.{Found}
use Rattle.rtyper_data.specs.Seen.{Around, Operand, Place, Writing}
use Rattle.rtyper_dict.specs.Lowering.{is_of_dicts}
use Rattle.rtyper_layout.specs.Types.{type_of, type_seen}
use Rattle.rtyper_op.specs.Calls.{stand_in}
use Rattle.rtyper_program.specs.Blocks.{lowered, op_of}
use Rattle.rtyper_program.specs.Graphs.{variables}
use Rattle.rtyper_program.specs.Seen.{Lowered, place_of}
use Rattle.rpy_resolved.specs.declared.tree.Function.{Function}
use Rattle.lower_laws.specs.Asked.{Ask, all_asked}
use Rattle.object_laws.specs.Done.{Any}
use Rattle.call_conversion_laws.specs.Called.{IsCalled, IsCalledWhere}
use Rattle.call_conversion_laws.specs.Defaults.{stood_in}
use Rattle.conversion_laws.specs.Asked.{asks_for}
use Rattle.conversion_laws.specs.Constants.{AreKept}
use Rattle.converted_runs.proofs.Writing.{called_operations_are_written}
use Rattle.growth_laws.specs.Growing.{Grows}
use Rattle.growth_laws.proofs.Growing.{growth_is_one, same_found}
use Rattle.growth_laws.proofs.Operating.{stand_in_grows}
use Rattle.passing_laws.specs.Passing.{pass_asks}
use Rattle.rtyped_runs.specs.Laws.{ThrowsObjects, args_of, before}
use Rattle.rtyped_runs.specs.Parts.{OpIsWritten}
use Rattle.typed_rows.specs.Programs.{Typed, IsTyped, first, last, layout, numbers, setting, world}
use Rattle.typed_rows.specs.Rows.{IsOp, lowered_in}
use Rattle.typed_rows.proofs.Going.{inside}
use Rattle.class_rows.proofs.Common.{as_class, early_before, late_made}
use Rattle.class_rows.proofs.Standing.{AllAlways, asks_grow, both_always, converts_always, stood_so}

-- ---- what is asked for

pub passing_always : (t : Typed) (args : List Operand) (es : List Element) → AllAlways (pass_asks (layout t) args es)
passing_always t [] es = tt
passing_always t (a ∷ args) [] = tt
passing_always t (a ∷ args) (e ∷ es) = both_always (asks_for (layout t) (type_seen (layout t) a.element) (type_of (layout t) e)) (pass_asks (layout t) args es) (converts_always (layout t) (type_seen (layout t) a.element) (type_of (layout t) e)) (passing_always t args es)

pub stood_in_grows : (around : Around) (function : Option Function) (i : ℕ) (es : List Element) (found : Found) → Grows found (stood_in around function i es found)
stood_in_grows around function i [] found = same_found found
stood_in_grows around function i (e ∷ es) found = growth_is_one found (stand_in around function i (type_of around.layout e) found).1 (stood_in around function i (e ∷ es) found) (stand_in_grows around function i (type_of around.layout e) found) (stood_in_grows around function (i + 1) es (stand_in around function i (type_of around.layout e) found).1)

-- ---- statics that stay

front_at : {A : Type 0} (xs ys : List A) (i : ℕ) (x : A) → slice_get xs i ≡ Some x → slice_get (xs ++ ys) i ≡ Some x
front_at [] ys i x h = absurd (cc)
front_at (y ∷ xs) ys zero x h = h
front_at (y ∷ xs) ys (suc i) x h = front_at xs ys i x h

pub kept_before : (t : Typed) (found : Found) → Grows found (last t) → AreKept t.p (layout t) t.seen (last t) → AreKept t.p (layout t) t.seen found
kept_before t found grows kept s static there settled = kept s static (subst (λ statics. slice_get statics s ≡ Some static) grows.statics.1 (front_at found.statics grows.statics.0 s static there)) settled

-- ---- one call

module _ (r : RowOp) (t : Typed) (typed : IsTyped t) (n : ℕ) (graph : Graph) (o : Op) (row_is : o.op ≡ r) (is : IsOp t n o) (args : List Operand) (args_is : args_of (lowered_in t n graph) o ≡ args) (plain : is_of_dicts r args ≡ false)
    (w : Writing) (early : Grows (first t) w.found) (late : Grows (op_of (lowered_in t n graph) o w).found (last t)) (enough : length (variables t.known (world t) n) ≤ length w.body.types) (throws : ThrowsObjects (setting t) (lowered_in t n graph) o) (stay : AreKept t.p (layout t) t.seen (last t)) where
  abbrev l : Lowered
  l = lowered_in t n graph

  abbrev place : Place
  place = place_of l o.result

  abbrev found : Found
  found = (before o w).found

  abbrev made : Writing
  made = lowered (world t) o.op place (args_of l o) (before o w)

  made_is : made ≡ lower_class_op (world t) r place args (before o w)
  made_is = ap (λ r. lowered (world t) r place (args_of l o) (before o w)) row_is ∙ ap (λ args. lowered (world t) r place args (before o w)) args_is ∙ as_class (world t) r place args (before o w) plain

  same_lowered : made ≡ lower_class_op (world t) o.op place (args_of l o) (before o w)
  same_lowered = as_class (world t) o.op place (args_of l o) (before o w) (subst (λ args. is_of_dicts o.op args ≡ false) (sym args_is) (subst (λ r. is_of_dicts r args ≡ false) (sym row_is) plain))

  -- what is asked for before the constants, and behind them
  pub called_so : (blocks more : ℕ) (its_asks later : List Ask) (function : Option Function) (count : ℕ) (missing : List Element) → AllAlways its_asks → AllAlways later
      → IsCalled blocks more (world t) t.seen r o.covered its_asks (stood_in (world t).around function count missing) later place args (before o w) → OpIsWritten (setting t) l o w
  called_so blocks more its_asks later function count missing always later_always law =
      called_operations_are_written (λ (p : LlProgram). Any) l t.seen t.graphs t.p t.arguments (numbers t) blocks more o its_asks later (stood_in (world t).around function count missing) w typed.small.has (inside t n graph o is w enough) throws (λ g core meant vs stands given good. tt)
      (stood_so t typed its_asks found always (early_before t typed n graph o w early late) late_asks)
      (stood_so t typed later (stood_in (world t).around function count missing (all_asked its_asks found)) later_always early_constants late_all)
      (kept_before t (lower_class_op (world t) o.op place (args_of l o) (before o w)).found (subst (λ (m : Writing). Grows m.found (last t)) same_lowered (late_made t typed n graph o w early late)) stay)
      same_lowered law_here
    where
      late_all : Grows (all_asked later (stood_in (world t).around function count missing (all_asked its_asks found))) (last t)
      late_all = subst (λ g. Grows g (last t)) (ap (λ (m : Writing). m.found) made_is ∙ law.asked) (late_made t typed n graph o w early late)

      late_constants : Grows (stood_in (world t).around function count missing (all_asked its_asks found)) (last t)
      late_constants = growth_is_one (stood_in (world t).around function count missing (all_asked its_asks found)) (all_asked later (stood_in (world t).around function count missing (all_asked its_asks found))) (last t) (asks_grow later (stood_in (world t).around function count missing (all_asked its_asks found))) late_all

      late_asks : Grows (all_asked its_asks found) (last t)
      late_asks = growth_is_one (all_asked its_asks found) (stood_in (world t).around function count missing (all_asked its_asks found)) (last t) (stood_in_grows (world t).around function count missing (all_asked its_asks found)) late_constants

      early_asks : Grows (first t) (all_asked its_asks found)
      early_asks = growth_is_one (first t) found (all_asked its_asks found) (early_before t typed n graph o w early late) (asks_grow its_asks found)

      early_constants : Grows (first t) (stood_in (world t).around function count missing (all_asked its_asks found))
      early_constants = growth_is_one (first t) (all_asked its_asks found) (stood_in (world t).around function count missing (all_asked its_asks found)) early_asks (stood_in_grows (world t).around function count missing (all_asked its_asks found))

      law_here : IsCalledWhere (λ (p : LlProgram). Any) blocks more (world t) t.seen o.op o.covered its_asks (stood_in (world t).around function count missing) later place (args_of l o) (before o w)
      law_here = subst (λ args. IsCalledWhere (λ (p : LlProgram). Any) blocks more (world t) t.seen o.op o.covered its_asks (stood_in (world t).around function count missing) later place args (before o w)) (sym args_is)
          (subst (λ r. IsCalledWhere (λ (p : LlProgram). Any) blocks more (world t) t.seen r o.covered its_asks (stood_in (world t).around function count missing) later place args (before o w)) (sym row_is) law)
