-- The links of a graph, and the ways that an exception may take, only ask for more.
use Rattle.std.proofs.Common.{ℕ, ◌+◌, Bool, true, false, List, [], ◌∷◌, slice_get, Option, Some, None}
use Rattle.std.specs.Prelude.{if◌then◌else◌}
use Rattle.csub_tree.specs.declared.tree.COperand.{COperand}
use Rattle.ll_code.specs.declared.program.LlType.{LlType}
use Rattle.ll_code.specs.declared.program.LlType.TheVariants as type
use Rattle.ll_code.specs.declared.program.LlLink.{LlLink}
use Rattle.flow_graph.specs.declared.graph.Link.{Link}
use Rattle.rtyper_data.specs.declared.body.Body.{Body}
use Rattle.rtyper_data.specs.declared.found.Found.{Found}
use Rattle.rtyper_data.specs.Finding.{same_type}
use Rattle.rtyper_data.specs.Seen.{Around, Operand, Writing, type_of, writing}
use Rattle.rtyper_op.specs.declared.text.Test.{Test}
use Rattle.rtyper_op.specs.declared.text.Test.TheVariants.{Known, By}
use Rattle.rtyper_program.specs.declared.links.Caught.{Caught}
use Rattle.rtyper_program.specs.Handlers.{Work, any_other, handler, handlers, land, landing, taken, test_of, tested}
use Rattle.rtyper_program.specs.Links.{arguments, branch, by_flag, by_test, flag_of, give_as, give_back, inputs_at, known_truth, link_of, passed, read_as, known_test, truth_test, with_argument, with_passed}
use Rattle.rtyper_program.specs.Seen.{Lowered, operand_of, type_at}
use Rattle.growth_laws.specs.Growing.{Grows}
use Rattle.growth_laws.proofs.Data.{then_grows, value_as_grows}
use Rattle.growth_laws.proofs.Growing.{same_found, smalls_grow}
use Rattle.growth_laws.proofs.Operating.{truth_of_grows}

-- by whichever is taken
pub either : {A : Type 0} (before : Found) (f : A → Found) (b : Bool) (x y : A) → Grows before (f x) → Grows before (f y) → Grows before (f (if b then x else y))
either before f true x y g h = g
either before f false x y g h = h

module _ (l : Lowered) where
  -- ---- links

  passed_grows : (caught : Option Caught) (v : Option ℕ) (to : LlType) (w : Writing) → Grows w.found (passed l caught v to w).1.found
  passed_grows caught None to w = same_found w.found
  passed_grows caught (Some v) to w = value_as_grows l.world.around.layout (read_as l caught v).0 (read_as l caught v).1 to w

  pub argument_grows : (caught : Option Caught) (v : Option ℕ) (to : LlType) (made : List COperand × Writing) → Grows made.1.found (with_argument l caught v to made).1.found
  argument_grows caught v to made =
      either made.1.found (λ m. m.1.found) (same_type to type.Void) made (with_passed made.0 (passed l caught v to made.1)) (same_found made.1.found) (passed_grows caught v to made.1)

  pub arguments_grow : (caught : Option Caught) (args : List ℕ) (n : ℕ) (inputs : List ℕ) (made : List COperand × Writing) → Grows made.1.found (arguments l caught args n inputs made).1.found
  arguments_grow caught args n [] made = same_found made.1.found
  arguments_grow caught args n (v ∷ inputs) made =
      then_grows (argument_grows caught (slice_get args n) (type_at l v) made) (arguments_grow caught args (n + 1) inputs (with_argument l caught (slice_get args n) (type_at l v) made))

  pub link_grows : (caught : Option Caught) (link : Link) (w : Writing) → Grows w.found (link_of l caught link w).1.found
  unfolding link_of
  link_grows caught link w = arguments_grow caught link.args 0 (inputs_at l link.to) ([], w)

  -- ---- exits that raise nothing

  flag_grows : (there elsewhere : Link) (w : Writing) (flag : ℕ × Body) → Grows w.found (by_flag l there elsewhere w flag).1.found
  flag_grows there elsewhere w flag = then_grows (link_grows None there (writing w.found flag.1)) (link_grows None elsewhere (link_of l None there (writing w.found flag.1)).1)

  test_grows : (there elsewhere : Link) (t : Test) (w : Writing) → Grows w.found (by_test l there elsewhere t w).1.found
  test_grows there elsewhere (Known true) w = link_grows None there w
  test_grows there elsewhere (Known false) w = link_grows None elsewhere w
  test_grows there elsewhere (By x) w = flag_grows there elsewhere w (flag_of x w.body)

  known_grows : (around : Around) (a : Operand) (w : Writing) → Grows w.found (truth_test around a w).1.found
  known_grows around a w = by (known_truth a.element)
    where
      by : (o : Option Bool) → Grows w.found (known_test o around a w).1.found
      by None = truth_of_grows around a w
      by (Some b) = same_found w.found

  pub branch_grows : (v : ℕ) (there elsewhere : Link) (w : Writing) → Grows w.found (branch l v there elsewhere w).1.found
  unfolding branch
  branch_grows v there elsewhere w =
      then_grows (known_grows l.world.around (operand_of l v) w) (test_grows there elsewhere (truth_test l.world.around (operand_of l v) w).0 (truth_test l.world.around (operand_of l v) w).1)

  give_as_grows : (v : ℕ) (to : LlType) (w : Writing) → Grows w.found (give_as l v to w).1.found
  give_as_grows v type.Void w = same_found w.found
  give_as_grows v to w = value_as_grows l.world.around.layout (operand_of l v).x (type_of l.world.around (operand_of l v)) to w

  pub give_back_grows : (v : ℕ) (w : Writing) → Grows w.found (give_back l v w).1.found
  unfolding give_back
  give_back_grows v w = give_as_grows v l.result w

  -- ---- ways of exceptions

  land_grows : (link : Link) (caught : Caught) (w : Work) → Grows w.writing.found (land l link caught w).1.writing.found
  unfolding land landing
  land_grows link caught w = link_grows (Some caught) link (writing w.writing.found (record w.writing.body { ops = [] }))

  tested_grows : (v class : ℕ) (there elsewhere : LlLink) (w : Work) → Grows w.writing.found (tested l v class there elsewhere w).1.writing.found
  unfolding tested
  tested_grows v class there elsewhere w = smalls_grow (test_of l.world class) w.writing.found

  handler_grows : (caught : Caught) (hand : ℕ × Link) (next : LlLink × Work) → Grows next.1.writing.found (handler l caught hand next).1.writing.found
  unfolding handler
  handler_grows caught hand next =
      then_grows (land_grows hand.1 caught next.1) (tested_grows caught.exception hand.0 (land l hand.1 caught next.1).0 next.0 (land l hand.1 caught next.1).1)

  handlers_grow : (caught : Caught) (hands : List (ℕ × Link)) (next : LlLink × Work) → Grows next.1.writing.found (handlers l caught hands next).1.writing.found
  handlers_grow caught [] next = same_found next.1.writing.found
  handlers_grow caught (hand ∷ hands) next = then_grows (handlers_grow caught hands next) (handler_grows caught hand (handlers l caught hands next))

  any_other_grows : (caught : Caught) (by : Option Link) (w : Work) → Grows w.writing.found (any_other l caught by w).1.writing.found
  any_other_grows caught None w = same_found w.writing.found
  any_other_grows caught (Some link) w = land_grows link caught w

  pub taken_grows : (caught : Caught) (hands : List (ℕ × Link)) (by : Option Link) (w : Work) → Grows w.writing.found (taken l caught hands by w).1.writing.found
  unfolding taken
  taken_grows caught hands by w = then_grows (any_other_grows caught by w) (handlers_grow caught hands (any_other l caught by w))
