-- Operations whose operands are converted are written as their laws say, in a program that has types.
use Rattle.std.proofs.Common.{◌≡◌, ◌≤◌, ℕ, List, length, sym, subst}
use Rattle.csub_tree.specs.State.{Core}
use Rattle.flow_graph.specs.declared.graph.Graph.{Graph}
use Rattle.flow_graph.specs.declared.graph.Op.{Op}
use Rattle.rpy_tree.specs.Value.{Value as Meant}
use Rattle.rpy_meaning.specs.declared.row.RowOp.{RowOp}
use Rattle.rpy_meaning.specs.Operations.{op}
use Rattle.rpy_meaning.specs.World.{World as MeantWorld}
use Rattle.rtyper_class.specs.Seen.{World}
use Rattle.rtyper_data.specs.declared.found.Found.{Found}
use Rattle.rtyper_data.specs.Seen.{Operand, Writing}
use Rattle.rtyper_program.specs.Blocks.{lowered, op_of}
use Rattle.rtyper_program.specs.Graphs.{variables}
use Rattle.rtyper_program.specs.Raises.{has_exceptions}
use Rattle.rtyper_program.specs.Seen.{Lowered, place_of}
use Rattle.lower_laws.specs.Asked.{Ask, all_asked}
use Rattle.object_laws.specs.Done.{IsDoneWhere}
use Rattle.object_laws.specs.Ghost.{Ghost}
use Rattle.object_laws.specs.Represents.{Represents}
use Rattle.object_laws.specs.Values.{Given}
use Rattle.growth_laws.specs.Growing.{Grows}
use Rattle.passing_laws.specs.Done.{IsDoneBehindWhere}
use Rattle.passing_laws.specs.Standing.{HasOne, Stood}
use Rattle.converted_runs.proofs.Writing.{behind_operations_are_written}
use Rattle.rtyped_runs.specs.Laws.{AreAlways, StandsSo, Standing, args_of, before}
use Rattle.rtyped_runs.proofs.Operations.{told_operations_are_written}
use Rattle.rtyped_runs.specs.Parts.{OpIsWritten}
use Rattle.typed_rows.specs.Programs.{IsTyped, Typed, first, last, layout, numbers, setting, world}
use Rattle.typed_rows.specs.Rows.{IsOp, lowered_in}
use Rattle.typed_rows.proofs.Going.{inside}
use Rattle.list_rows.proofs.Throwing.{Only}
use Rattle.list_rows.proofs.Writing.{covered_later, covered_sooner, throws}

module _ (t : Typed) (typed : IsTyped t) (n : ℕ) (graph : Graph) (o : Op) (is : IsOp t n o) (w : Writing) (from : Grows (first t) w.found) (to : Grows (op_of (lowered_in t n graph) o w).found (last t)) (room : length (variables t.known (world t) n) ≤ length w.body.types) where
  abbrev pub l : Lowered
  l = lowered_in t n graph

  pub early : Grows (first t) (before o w).found
  early = covered_later (first t) w.found o.covered from

  -- by a law of this row with these operands
  pub by_behind : (Has : World → HasOne) (Good : MeantWorld → List Meant → Type 0) (most : MeantWorld → List Meant → ℕ) (blocks more count : ℕ) (asks : List Ask) (r : RowOp) (args : List Operand) (made : Writing) → o.op ≡ r → args_of l o ≡ args
      → (Grows (all_asked asks (before o w).found) (last t) → Stood (layout t) t.seen (Has (world t) t.p (numbers t) t.seen.exception) asks (before o w).found)
      → lowered (world t) r (place_of l o.result) args (before o w) ≡ made
      → ((g : Ghost) (core : Core) (meant : MeantWorld) (vs : List Meant) → Represents (layout t) t.seen g meant.heap meant.left core.blocks core.statics → Given t.seen (world t).around g core args vs → Only (has_exceptions t.known.annotation n o) (op t.seen.program o.covered r vs meant))
      → AreAlways (setting t) l o Good
      → IsDoneBehindWhere Good (Has (world t)) most blocks more count t.seen (world t).around r o.covered asks made (place_of l o.result) args (before o w)
      → OpIsWritten (setting t) l o w
  unfolding op_of
  by_behind Has Good most blocks more count asks r args made is_row are stood is_lowered only always law =
      let there : IsDoneBehindWhere Good (Has (world t)) most blocks more count t.seen (world t).around o.op o.covered asks (lowered (world t) o.op (place_of l o.result) (args_of l o) (before o w)) (place_of l o.result) (args_of l o) (before o w) =
      subst (λ (q : RowOp). IsDoneBehindWhere Good (Has (world t)) most blocks more count t.seen (world t).around q o.covered asks (lowered (world t) q (place_of l o.result) (args_of l o) (before o w)) (place_of l o.result) (args_of l o) (before o w)) (sym is_row)
      (subst (λ (xs : List Operand). IsDoneBehindWhere Good (Has (world t)) most blocks more count t.seen (world t).around r o.covered asks (lowered (world t) r (place_of l o.result) xs (before o w)) (place_of l o.result) xs (before o w)) (sym are)
      (subst (λ (m : Writing). IsDoneBehindWhere Good (Has (world t)) most blocks more count t.seen (world t).around r o.covered asks m (place_of l o.result) args (before o w)) (sym is_lowered) law)) in
      let late : Grows (all_asked asks (before o w).found) (last t) = subst (λ (f : Found). Grows f (last t)) there.asked (covered_sooner (lowered (world t) o.op (place_of l o.result) (args_of l o) (before o w)).found (last t) _ to) in
      behind_operations_are_written Has Good l t.seen t.graphs t.p t.arguments (numbers t) most blocks more count o asks w typed.small.has (inside t n graph o is w room)
      (throws t typed n graph o is (λ g core meant vs memory given.
      subst (λ (q : RowOp). Only (has_exceptions t.known.annotation n o) (op t.seen.program o.covered q vs meant)) (sym is_row)
      (only g core meant vs memory (subst (λ xs. Given t.seen (world t).around g core xs vs) are given))))
      always (stood late) there

  -- by a law without conversions
  pub by_told : (Has : Standing) (Good : MeantWorld → List Meant → Type 0) (blocks : ℕ) (asks : List Ask) (r : RowOp) (args : List Operand) (made : Writing) → o.op ≡ r → args_of l o ≡ args
      → (Grows (all_asked asks (before o w).found) (last t) → StandsSo (setting t) (Has (world t) t.p (numbers t) t.seen.exception) asks (before o w).found)
      → lowered (world t) r (place_of l o.result) args (before o w) ≡ made
      → ((g : Ghost) (core : Core) (meant : MeantWorld) (vs : List Meant) → Represents (layout t) t.seen g meant.heap meant.left core.blocks core.statics → Given t.seen (world t).around g core args vs → Only (has_exceptions t.known.annotation n o) (op t.seen.program o.covered r vs meant))
      → AreAlways (setting t) l o Good
      → IsDoneWhere Good (Has (world t)) blocks t.seen (world t).around r o.covered asks made (place_of l o.result) args (before o w)
      → OpIsWritten (setting t) l o w
  unfolding op_of
  by_told Has Good blocks asks r args made is_row are stood is_lowered only always law =
      let there : IsDoneWhere Good (Has (world t)) blocks t.seen (world t).around o.op o.covered asks (lowered (world t) o.op (place_of l o.result) (args_of l o) (before o w)) (place_of l o.result) (args_of l o) (before o w) =
      subst (λ (q : RowOp). IsDoneWhere Good (Has (world t)) blocks t.seen (world t).around q o.covered asks (lowered (world t) q (place_of l o.result) (args_of l o) (before o w)) (place_of l o.result) (args_of l o) (before o w)) (sym is_row)
      (subst (λ (xs : List Operand). IsDoneWhere Good (Has (world t)) blocks t.seen (world t).around r o.covered asks (lowered (world t) r (place_of l o.result) xs (before o w)) (place_of l o.result) xs (before o w)) (sym are)
      (subst (λ (m : Writing). IsDoneWhere Good (Has (world t)) blocks t.seen (world t).around r o.covered asks m (place_of l o.result) args (before o w)) (sym is_lowered) law)) in
      let late : Grows (all_asked asks (before o w).found) (last t) = subst (λ (f : Found). Grows f (last t)) there.asked (covered_sooner (lowered (world t) o.op (place_of l o.result) (args_of l o) (before o w)).found (last t) _ to) in
      told_operations_are_written Has Good l t.seen t.graphs t.p t.arguments (numbers t) blocks o asks w typed.small.has (inside t n graph o is w room)
      (throws t typed n graph o is (λ g core meant vs memory given.
      subst (λ (q : RowOp). Only (has_exceptions t.known.annotation n o) (op t.seen.program o.covered q vs meant)) (sym is_row)
      (only g core meant vs memory (subst (λ xs. Given t.seen (world t).around g core xs vs) are given))))
      always (stood late) there
