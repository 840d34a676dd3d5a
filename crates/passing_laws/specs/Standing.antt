-- What is asked for stands at its numbers, conversions among it.
use Rattle.std.specs.Prelude.{◌≡◌, ℕ, List}
use Rattle.csub_tree.specs.State.{Value, Core}
use Rattle.ll_code.specs.declared.program.LlProgram.{LlProgram}
use Rattle.ll_build.specs.declared.needs.Numbers.{Numbers}
use Rattle.ll_strings.specs.Laws.{HasHelper}
use Rattle.rpy_tree.specs.Value.{Heap}
use Rattle.rtyper_layout.specs.declared.layout.Layout.{Layout}
use Rattle.rtyper_data.specs.declared.found.Found.{Found}
use Rattle.rtyper_data.specs.declared.small.Small.TheVariants as small
use Rattle.rtyper_data.specs.Finding.{helper_number}
use Rattle.lower_laws.specs.Asked.{Ask, Help, Make}
use Rattle.object_laws.specs.Done.{AllAsked}
use Rattle.object_laws.specs.Ghost.{Ghost}
use Rattle.object_laws.specs.Known.{Known}
use Rattle.object_laws.specs.Represents.{Represents}
use Rattle.conversion_laws.specs.Asked.{Has as HasConversion}

-- when one of those that an operation asks for itself stands at its number
abbrev pub HasOne : Type 1
HasOne = LlProgram → Numbers → (ℕ → Value) → Core → Ask → Found → Type 0

-- a helper; the graph that makes a tuple of one struct one of another, with what that asks for itself; and what the operation asks for itself
abbrev pub With : HasOne → Layout → HasOne
With Other layout p numbers raised core (Help h) found = HasHelper p numbers h (helper_number h found).0 core
With Other layout p numbers raised core (Make (small.Cast m n)) found = HasConversion p layout numbers raised core (Make (small.Cast m n)) found
With Other layout p numbers raised core ask found = Other p numbers raised core ask found

-- it is asked for in turn and stands, over all memory that represents a heap, with as many steps left
abbrev pub Stood : Layout → Known → (Core → Ask → Found → Type 0) → List Ask → Found → Type 0
Stood layout known Has asks found = (core : Core) (g : Ghost) (heap : Heap) (left : ℕ) → Represents layout known g heap left core.blocks core.statics → left ≡ core.steps → AllAsked (Has core) asks found
