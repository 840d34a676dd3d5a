-- What laws of operations take of each operation on values: what it throws, what it asks for, and how it is lowered.
use Rattle.std.proofs.Common.{◌≡◌, ◌<◌, ◌≤◌, ℕ, not, Bool, true, false, List, [], ◌∷◌, length, refl, sym, ap, ◌∙◌, subst, arith}
use Rattle.csub_tree.specs.State.{Core}
use Rattle.csub_tree.specs.declared.tree.CBinary.{CBinary}
use Rattle.rtyper_data.specs.declared.small.Small.TheVariants as small
use Rattle.flow_graph.specs.declared.graph.Graph.{Graph}
use Rattle.flow_graph.specs.declared.graph.Op.{Op}
use Rattle.growth_laws.specs.Growing.{Grows}
use Rattle.ll_build.specs.declared.needs.Helper.{Helper}
use Rattle.helper_stands.specs.Asks.{MayBeAsked}
use Rattle.helper_stands.proofs.Asks.{class_asks_stand, dict_asks_stand, list_asks_stand, text_asks_stand}
use Rattle.helper_stands.specs.Asks.{IsNone}
use Rattle.rtyped_laws.specs.Objects.{OfClasses, OfDicts, OfLists}
use Rattle.lower_laws.specs.Asked.{Ask, Help, Make, Raise, all_asked}
use Rattle.object_laws.specs.Done.{AllAsked, IsDone}
use Rattle.lower_laws.specs.Done.{Any, IsDone as IsPlainlyDone}
use Rattle.lower_laws.specs.Values.{is_simple}
use Rattle.object_laws.specs.Bridged.{AreSimple, OnlyPays}
use Rattle.object_laws.specs.Ghost.{Ghost}
use Rattle.object_laws.specs.Known.{Known as Seen}
use Rattle.object_laws.proofs.Bridged.{plain_is_done}
use Rattle.rtyper_layout.specs.Kinds.{kind_seen}
use Rattle.rtyper_op.specs.Lowering.{lower_op}
use Rattle.object_laws.specs.Values.{Given}
use Rattle.rpy_base.specs.declared.outcome.FailName.{FailName}
use Rattle.rpy_meaning.specs.declared.row.Covers.{Covers}
use Rattle.rpy_meaning.specs.contracts.row.CoversPartialEq.TheImpl.{eq-value as equal_covers}
use Rattle.rpy_meaning.specs.Laws.{OnLater}
use Rattle.rpy_meaning.specs.declared.row.RowOp.{RowOp}
use Rattle.rpy_meaning.proofs.Lawful.{lawful}
use Rattle.rpy_meaning.specs.Operations.{builtin_classes, op}
use Rattle.rpy_meaning.specs.World.{World as MeantWorld, Answer, Throws, failure}
use Rattle.rpy_tree.specs.Value.{Value as Meant}
use Rattle.rtyper_data.specs.declared.found.Found.{Found}
use Rattle.rtyper_data.specs.Finding.{failures_of, nothing}
use Rattle.rtyper_data.specs.Seen.{Writing}
use Rattle.rtyper_program.specs.Blocks.{lowered, op_of}
use Rattle.rtyper_program.specs.Graphs.{variables}
use Rattle.rtyper_program.specs.Raises.{has_exceptions, is_covered}
use Rattle.rtyper_program.specs.Seen.{place_of}
use Rattle.covered_runs.specs.Writing.{StandsWhile, of_texts}
use Rattle.covered_runs.proofs.Writing.{operations_are_written_while}
use Rattle.rtyped_runs.specs.Laws.{Standing, ThrowsObjects, args_of, before, of_classes, of_dicts, of_lists, of_values}
use Rattle.rtyped_runs.specs.Parts.{OpIsWritten}
use Rattle.typed_rows.specs.Programs.{Typed, IsTyped, first, last, numbers, setting, world}
use Rattle.typed_rows.specs.Rows.{IsOp, lowered_in}
use Rattle.typed_rows.proofs.Going.{inside}
use Rattle.value_rows.proofs.Asking.{grows_from}
use Rattle.value_rows.proofs.Conversions.{exceptions_are}

-- ---- what is thrown

-- an answer that throws no exception but those of builtin classes, where exceptions may be thrown
abbrev pub ThrowsFew : Bool → Answer → Type 0
ThrowsFew may (Throws r w) = (r < builtin_classes) × (may ≡ true)
ThrowsFew may other = Unit {0}

thrown : (may : Bool) (answer : Answer) (r : ℕ) (w : MeantWorld) → ThrowsFew may answer → answer ≡ Throws r w → (r < builtin_classes) × (may ≡ true)
thrown may answer r w few e = subst (ThrowsFew may) e few

-- the operation throws no other, of operands that are held
abbrev pub Few : Typed → ℕ → Graph → Op → Type 0
Few t n graph o = (g : Ghost) (core : Core) (vs : List Meant) (w : MeantWorld) → Given t.seen (world t).around g core (args_of (lowered_in t n graph) o) vs → ThrowsFew (has_exceptions t.known.annotation n o) (op t.seen.program o.covered o.op vs w)

pub throws_objects : (t : Typed) (n : ℕ) (graph : Graph) (o : Op) → IsOp t n o → Few t n graph o → ThrowsObjects (setting t) (lowered_in t n graph) o
throws_objects t n graph o is few g core w w' vs r memory given e =
    let h = thrown (has_exceptions t.known.annotation n o) (op t.seen.program o.covered o.op vs w) r w' (few g core vs w given) e in
    let l = is.raising h.1 r h.0 in
    record { class = r; home = memory.exceptions r l.1.0 h.0 l.1.1; above = l.0 }

same_covers : (a b : Covers) → equal_covers.it a b ≡ true → a ≡ b
same_covers a b h = grind (arith, h)

-- what is covered of one failure is covered
pub covered_by : (c : Covers) (part : Covers → Bool) → part nothing ≡ false → part c ≡ true → is_covered c ≡ true
covered_by c part none some = by (equal_covers.it c nothing) refl
  where
    by : (b : Bool) → equal_covers.it c nothing ≡ b → not b ≡ true
    by true e = absurd (let q : true ≡ false = sym some ∙ ap part (same_covers c nothing e) ∙ none in cc)
    by false e = refl

pub fails_few : (may b : Bool) (class : ℕ) (name : FailName) (w : MeantWorld) → class < builtin_classes → (b ≡ true → may ≡ true) → ThrowsFew may (failure b class name w)
fails_few may true class name w few so = (few, so refl)
fails_few may false class name w few so = tt

-- ---- what is asked for stands

module _ (t : Typed) (typed : IsTyped t) (asks : List Ask) (found : Found) (early : Grows (first t) found) (late : Grows (all_asked asks found) (last t)) where
  pub lists_stand : AllAsked (MayBeAsked OfLists) asks found → StandsWhile (setting t) (of_lists (world t) t.p (numbers t) t.seen.exception) asks found
  lists_stand may core g heap memory =
      subst (λ raised. AllAsked (of_lists (world t) t.p (numbers t) raised core) asks found) (exceptions_are t typed)
      (list_asks_stand t.known t.classes t.p t.made t.seen typed.small.graphs typed.small.structs typed.small.texts asks found may early late g heap core memory)

  pub classes_stand : AllAsked (MayBeAsked OfClasses) asks found → StandsWhile (setting t) (of_classes (world t) t.p (numbers t) t.seen.exception) asks found
  classes_stand may core g heap memory =
      subst (λ raised. AllAsked (of_classes (world t) t.p (numbers t) raised core) asks found) (exceptions_are t typed)
      (class_asks_stand t.known t.classes t.p t.made t.seen typed.small.graphs typed.small.structs typed.small.texts asks found may early late g heap core memory)

  pub dicts_stand : AllAsked (MayBeAsked OfDicts) asks found → StandsWhile (setting t) (of_dicts (world t) t.p (numbers t) t.seen.exception) asks found
  dicts_stand may core g heap memory =
      subst (λ raised. AllAsked (of_dicts (world t) t.p (numbers t) raised core) asks found) (exceptions_are t typed)
      (dict_asks_stand t.known t.classes t.p t.made t.seen typed.small.graphs typed.small.structs typed.small.texts asks found may early late g heap core memory)

  pub texts_stand : AllAsked (MayBeAsked IsNone) asks found → StandsWhile (setting t) (of_texts (world t) t.p (numbers t) t.seen.exception) asks found
  texts_stand may core g heap memory =
      subst (λ raised. AllAsked (of_texts (world t) t.p (numbers t) raised core) asks found) (exceptions_are t typed)
      (text_asks_stand t.known t.classes t.p t.made t.seen typed.small.graphs typed.small.structs typed.small.texts asks found may early late g heap core memory)

only_pays : (known : Seen) (o : RowOp) (covers : Covers) → OnlyPays known o covers
only_pays known o covers vs world after v e = (subst (OnLater world) e ((lawful known.program covers o vs).law world)).steps

-- whenever it is asked for
abbrev pub AsksStand : List Ask → Type 0
AsksStand asks = (t : Typed) → IsTyped t → (found : Found) → Grows (first t) found → Grows (all_asked asks found) (last t) → StandsWhile (setting t) (of_values (world t) t.p (numbers t) t.seen.exception) asks found

pub nothing_stands : AsksStand []
nothing_stands t typed found early late core g heap memory = tt

pub helps_stand : (h : Helper) → ((c : Covers) → failures_of h c ≡ nothing) → AsksStand (Help h ∷ [])
helps_stand h free t typed found early late = lists_stand t typed (Help h ∷ []) found early late (free found.covered, tt)

pub raises_stand : (h : Helper) → AsksStand (Raise h ∷ [])
raises_stand h t typed found early late = lists_stand t typed (Raise h ∷ []) found early late (tt, tt)

pub checks_stand : (o : CBinary) (raises : Bool) → AsksStand (Make (small.Checked o raises) ∷ [])
checks_stand o raises t typed found early late = lists_stand t typed (Make (small.Checked o raises) ∷ []) found early late (refl, tt)

pub negations_stand : AsksStand (Make small.CheckedNeg ∷ [])
negations_stand t typed found early late = lists_stand t typed (Make small.CheckedNeg ∷ []) found early late (refl, tt)

-- ---- an operation is written where a law says that it is done

-- between the moments of the operation
pub asked_late : (t : Typed) (n : ℕ) (graph : Graph) (o : Op) (w : Writing) (asks : List Ask) → (lowered (world t) o.op (place_of (lowered_in t n graph) o.result) (args_of (lowered_in t n graph) o) (before o w)).found ≡ all_asked asks (before o w).found
    → Grows (op_of (lowered_in t n graph) o w).found (last t) → Grows (all_asked asks (before o w).found) (last t)
unfolding op_of
asked_late t n graph o w asks is late = subst (λ f. Grows f (last t)) is (grows_from nothing late)

module _ (Has : Standing) (t : Typed) (typed : IsTyped t) (n : ℕ) (graph : Graph) (o : Op) (is : IsOp t n o) (few : Few t n graph o) (w : Writing) (late : Grows (op_of (lowered_in t n graph) o w).found (last t)) (room : length (variables t.known (world t) n) ≤ length w.body.types) where
  -- by a law of the operation as it is lowered, where what it asks for stands from when it is asked for
  pub is_written : (blocks : ℕ) (asks : List Ask) → (Grows (all_asked asks (before o w).found) (last t) → StandsWhile (setting t) (Has (world t) t.p (numbers t) t.seen.exception) asks (before o w).found) → (made : Writing) → lowered (world t) o.op (place_of (lowered_in t n graph) o.result) (args_of (lowered_in t n graph) o) (before o w) ≡ made
      → IsDone (Has (world t)) blocks t.seen (world t).around o.op o.covered asks made (place_of (lowered_in t n graph) o.result) (args_of (lowered_in t n graph) o) (before o w)
      → OpIsWritten (setting t) (lowered_in t n graph) o w
  is_written blocks asks stands made so law =
      operations_are_written_while Has (lowered_in t n graph) t.seen t.graphs t.p t.arguments (numbers t) blocks o asks w typed.small.has (inside t n graph o is w room) (throws_objects t n graph o is few)
      (stands (asked_late t n graph o w asks (ap (λ (made : Writing). made.found) so ∙ law.asked) late))
      (subst (λ made. IsDone (Has (world t)) blocks t.seen (world t).around o.op o.covered asks made (place_of (lowered_in t n graph) o.result) (args_of (lowered_in t n graph) o) (before o w)) (sym so) law)

module _ (t : Typed) (typed : IsTyped t) (n : ℕ) (graph : Graph) (o : Op) (is : IsOp t n o) (few : Few t n graph o) (w : Writing) (late : Grows (op_of (lowered_in t n graph) o w).found (last t)) (room : length (variables t.known (world t) n) ≤ length w.body.types) where
  -- by a law of operations on values that holds whatever memory is
  pub is_plainly_written : (asks : List Ask) → (Grows (all_asked asks (before o w).found) (last t) → StandsWhile (setting t) (of_values (world t) t.p (numbers t) t.seen.exception) asks (before o w).found)
      → lowered (world t) o.op (place_of (lowered_in t n graph) o.result) (args_of (lowered_in t n graph) o) (before o w) ≡ lower_op (world t).around o.op (place_of (lowered_in t n graph) o.result) (args_of (lowered_in t n graph) o) (before o w)
      → AreSimple (args_of (lowered_in t n graph) o) → is_simple (kind_seen (place_of (lowered_in t n graph) o.result).element) ≡ true
      → IsPlainlyDone (world t).around o.op o.covered asks (place_of (lowered_in t n graph) o.result) (args_of (lowered_in t n graph) o) (before o w) → OpIsWritten (setting t) (lowered_in t n graph) o w
  is_plainly_written asks stands so simple simple_place law =
      is_written of_values t typed n graph o is few w late room 1 asks stands (lower_op (world t).around o.op (place_of (lowered_in t n graph) o.result) (args_of (lowered_in t n graph) o) (before o w)) so
      (plain_is_done Any t.seen (world t).around o.op o.covered asks (place_of (lowered_in t n graph) o.result) (args_of (lowered_in t n graph) o) (before o w) law simple simple_place (only_pays t.seen o.op o.covered))
