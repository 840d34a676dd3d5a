-- Values of operands, the first of which is a list.
use Rattle.std.proofs.Common.{◌≡◌, ℕ, true, List, [], ◌∷◌, map, refl}
use Rattle.csub_tree.specs.State.{Core}
use Rattle.flow_graph.specs.declared.graph.Graph.{Graph}
use Rattle.rpy_tree.specs.Value.{Value as Meant, Heap}
use Rattle.rpy_meaning.specs.declared.row.Covers.{Covers}
use Rattle.rpy_meaning.specs.World.{Op as Does, World}
use Rattle.rtyper_list.specs.Operands.{of_list}
use Rattle.rtyper_program.specs.Raises.{is_covered}
use Rattle.rtyper_program.specs.Seen.{operand_of}
use Rattle.object_laws.specs.Ghost.{Ghost}
use Rattle.object_laws.specs.Represents.{Represents}
use Rattle.object_laws.specs.Values.{Given}
use Rattle.typed_rows.specs.Programs.{IsTyped, Typed, layout, world}
use Rattle.typed_rows.specs.Rows.{kind_at, lowered_in}
use Rattle.list_rows.proofs.Lists.{listed as is_listed}
use Rattle.list_rows.proofs.Throwing.{IsListed, Only, Quiet}

module _ (t : Typed) (typed : IsTyped t) (n : ℕ) (graph : Graph) (v : ℕ) (c : Covers) (f : List Meant → Does) (kind : of_list (kind_at t n v) ≡ true) where
  -- it throws but what is covered, of values of these variables
  abbrev pub OnlyThrows : List ℕ → Type 0
  OnlyThrows us = (g : Ghost) (core : Core) (meant : World) (xs : List Meant) → Represents (layout t) t.seen g meant.heap meant.left core.blocks core.statics → Given t.seen (world t).around g core (map (operand_of (lowered_in t n graph)) (v ∷ us)) xs → Only (is_covered c) (f xs meant)

  pub of_one_listed : ((heap : Heap) (x : Meant) → IsListed heap x → Quiet (is_covered c) heap (f (x ∷ []))) → OnlyThrows []
  of_one_listed quiet g core meant (x ∷ []) memory given = quiet meant.heap x (is_listed t typed n g meant.heap meant.left core v _ x memory kind given.0) meant refl
  of_one_listed quiet g core meant [] memory given = absurd given
  of_one_listed quiet g core meant (x ∷ i ∷ xs) memory given = absurd given.1

  pub of_two_listed : (u : ℕ) → ((heap : Heap) (x i : Meant) → IsListed heap x → Quiet (is_covered c) heap (f (x ∷ i ∷ []))) → OnlyThrows (u ∷ [])
  of_two_listed u quiet g core meant (x ∷ i ∷ []) memory given = quiet meant.heap x i (is_listed t typed n g meant.heap meant.left core v _ x memory kind given.0) meant refl
  of_two_listed u quiet g core meant [] memory given = absurd given
  of_two_listed u quiet g core meant (x ∷ []) memory given = absurd given.1
  of_two_listed u quiet g core meant (x ∷ i ∷ y ∷ xs) memory given = absurd given.1.1

  pub of_three_listed : (u r : ℕ) → ((heap : Heap) (x i y : Meant) → IsListed heap x → Quiet (is_covered c) heap (f (x ∷ i ∷ y ∷ []))) → OnlyThrows (u ∷ r ∷ [])
  of_three_listed u r quiet g core meant (x ∷ i ∷ y ∷ []) memory given = quiet meant.heap x i y (is_listed t typed n g meant.heap meant.left core v _ x memory kind given.0) meant refl
  of_three_listed u r quiet g core meant [] memory given = absurd given
  of_three_listed u r quiet g core meant (x ∷ []) memory given = absurd given.1
  of_three_listed u r quiet g core meant (x ∷ i ∷ []) memory given = absurd given.1.1
  of_three_listed u r quiet g core meant (x ∷ i ∷ y ∷ z ∷ xs) memory given = absurd given.1.1.1

  -- whatever follows the list
  pub of_some_listed : (us : List ℕ) → ((heap : Heap) (x : Meant) (xs : List Meant) → IsListed heap x → Quiet (is_covered c) heap (f (x ∷ xs))) → OnlyThrows us
  of_some_listed us quiet g core meant (x ∷ xs) memory given = quiet meant.heap x xs (is_listed t typed n g meant.heap meant.left core v _ x memory kind given.0) meant refl
  of_some_listed us quiet g core meant [] memory given = absurd given
