-- The tests of handlers stand.
use Rattle.std.proofs.Common.{◌≡◌, ◌<◌, ◌^◌, ℕ, Bool, true, false, List, [], ◌∷◌, length, Some, None, refl, sym, subst}
use Rattle.std.specs.Prelude.{if◌then◌else◌}
use Rattle.csub_tree.specs.State.{Value}
use Rattle.ll_code.specs.declared.program.LlExit.{LlExit}
use Rattle.ll_code.specs.declared.program.LlLink.{LlLink}
use Rattle.ll_code.specs.declared.program.LlProgram.{LlProgram}
use Rattle.class_desc.specs.Tables.{Tables}
use Rattle.flow_graph.specs.declared.graph.Link.{Link}
use Rattle.rtyper_layout.specs.declared.layout.Layout.{Layout}
use Rattle.rtyper_data.specs.declared.found.Found.{Found}
use Rattle.rtyper_data.specs.Finding.{small_number}
use Rattle.rtyper_data.specs.Seen.{writing}
use Rattle.rtyper_class.specs.Seen.{World}
use Rattle.rtyper_program.specs.declared.links.Caught.{Caught}
use Rattle.rtyper_program.specs.Cuts.{any_raises, goes_on, on_raise, raised_before}
use Rattle.rtyper_program.specs.Handlers.{Work, any_other, handler, handlers, land, landing, taken, test_of, tested}
use Rattle.rtyper_program.specs.Links.{goto, link_of}
use Rattle.rtyper_program.specs.Program.{IsSettled}
use Rattle.rtyper_program.specs.Seen.{Known, Lowered}
use Rattle.growth_laws.specs.Growing.{Grows}
use Rattle.growth_laws.proofs.Data.{then_grows}
use Rattle.growth_laws.proofs.Growing.{smalls_grow}
use Rattle.program_asks.specs.Standing.{last_in, world_in}
use Rattle.program_asks.proofs.WritingLinks.{link_grows}
use Rattle.class_laws.specs.Asked.{HasClass}
use Rattle.catch_laws.specs.Exits.{excepting, the_caught}
use Rattle.told_graphs.specs.Told.{AreTested, HandlersAreTested}
use Rattle.told_graphs.proofs.Programs.{tests_stand}

module _ (p : LlProgram) (raised : ℕ → Value) (l : Lowered) (last : Found)
    (stand : (class : ℕ) (found : Found) → Grows (small_number (test_of l.world class) found).1 last → HasClass p l.world raised (test_of l.world class) (small_number (test_of l.world class) found).0) (caught : Caught) where
  land_grows : (link : Link) (w : Work) → Grows w.writing.found (land l link caught w).1.writing.found
  unfolding land landing
  land_grows link w = link_grows l (Some caught) link (writing w.writing.found (record w.writing.body { ops = [] }))

  -- the last that a handler asks for is its test
  asks_last : (hand : ℕ × Link) (next : LlLink × Work) → (handler l caught hand next).1.writing.found ≡ (small_number (test_of l.world hand.0) (land l hand.1 caught next.1).1.writing.found).1
  unfolding handler tested
  asks_last hand next = refl

  tested_all : (hands : List (ℕ × Link)) (next : LlLink × Work) → Grows (handlers l caught hands next).1.writing.found last → AreTested p raised l caught hands next
  tested_all [] next late = tt
  tested_all (hand ∷ hands) next late =
      let before : LlLink × Work = handlers l caught hands next in
      let landed : Found = (land l hand.1 caught before.1).1.writing.found in
      let asked : Grows (small_number (test_of l.world hand.0) landed).1 last = subst (λ f. Grows f last) (asks_last hand before) late in
      (tested_all hands next (then_grows (land_grows hand.1 before.1) (then_grows (smalls_grow (test_of l.world hand.0) landed) asked)), stand hand.0 landed asked)

stand_in : (known : Known) (classes : Tables) (layout : Layout) (p : LlProgram) (r : IsSettled known classes layout p) → length p.graphs < 2 ^ 64 → (raised : ℕ → Value) (world : World) → world ≡ world_in known classes layout p r
    → (class : ℕ) (found : Found) → Grows (small_number (test_of world class) found).1 (last_in known classes layout p r) → HasClass p world raised (test_of world class) (small_number (test_of world class) found).0
stand_in known classes layout p r few raised world same =
    subst (λ (world : World). (class : ℕ) (found : Found) → Grows (small_number (test_of world class) found).1 (last_in known classes layout p r) → HasClass p world raised (test_of world class) (small_number (test_of world class) found).0) (sym same)
    (λ class found late. tests_stand known classes layout p r few raised class found late)

-- what the exit asks for is what the ways of the exception ask for
by_which : (last : Found) (b : Bool) (x y : LlExit × Work) → b ≡ true → Grows (if b then x else y).1.writing.found last → Grows x.1.writing.found last
by_which last true x y h g = g
by_which last false x y h g = absurd (cc)

pub handlers_are_tested : HandlersAreTested
unfolding on_raise taken
handlers_are_tested known classes layout p r few raised s numbers l names o v hands any without w e least same raises late =
    let caught : Caught = the_caught s numbers l names o v hands any without w e in
    let start : Work = excepting s numbers l names o v hands any without w e in
    tested_all p raised l (last_in known classes layout p r) (stand_in known classes layout p r few raised l.world same) caught hands (any_other l caught any start)
    (by_which (last_in known classes layout p r) (any_raises w.found least w.body.ops) (raised_before l v hands any least e (link_of l None without w)) (goes_on l v hands any e (goto (link_of l None without w))) raises late)
