-- At the start of a run the list of arguments is given.
use Rattle.std.proofs.Common.{◌≡◌, ℕ, ◌+◌, List, [], ◌∷◌, length, Option, Some, refl, ap, subst, sym, arith}
use Rattle.csub_tree.specs.State.{Value, Core}
use Rattle.ll_code.specs.State.{Frame, Calling}
use Rattle.ll_code.specs.Machine as machine
use Rattle.ll_held.specs.Roots.{core_of}
use Rattle.ll_leads.specs.Memory.{forgotten}
use Rattle.ll_texts.specs.Follows.{text_blocks}
use Rattle.rpy_tree.specs.Value.{Value as Meant}
use Rattle.rpy_meaning.specs.Evaluation.{parameters}
use Rattle.rpy_meaning.specs.Meaning.{prebuilt}
use Rattle.object_laws.specs.Done.{HasLayout}
use Rattle.object_laws.specs.Values.{Listed}
use Rattle.run_laws.specs.Points.{Setting}
use Rattle.entry_laws.specs.Begins.{ArgumentsAreGiven, Comes, first_list}
use Rattle.argument_laws.specs.Arguments.{ArgumentsAreGivenAtStart, Begins, CanBeGiven, HasArguments, TakesTexts}
use Rattle.argument_laws.proofs.Giving.{comes_back, ghost, items, list, mem_of, new_home, represents}

-- one parameter takes one argument
one_taken : (defaults : List (Option Meant)) (v : Meant) → length defaults ≡ 1 → parameters defaults (v ∷ []) ≡ Some (v ∷ [])
one_taken [] v h = absurd (omega (arith, h))
one_taken (d ∷ []) v h = refl
one_taken (d ∷ e ∷ defaults) v h = absurd (omega (arith, h))

module _ (s : Setting) (n f steps : ℕ) (structs : HasLayout s.low s.around.layout) (has : HasArguments s.low s.around.layout n f) (takes : TakesTexts s n) (given : CanBeGiven s.arguments steps) (begun : Begins s steps) where
  abbrev first : Core
  first = core_of (machine.start s.low steps)

  -- whatever waits and wherever that stands
  abbrev moved : Core → Core
  moved c = record first { function = c.function; block = c.block; at = c.at; vars = c.vars }

  abbrev memory : Core
  memory = record first {
    blocks = mem_of s.low s.around.layout s.known s.arguments n f [] first begun.ghost (prebuilt s.known.program) steps structs has takes.texts given begun.stands
        (items s.low s.around.layout s.known s.arguments n f [] first begun.ghost (prebuilt s.known.program) steps structs has takes.texts given begun.stands) (text_blocks s.arguments);
  }

  abbrev x : Value
  x = list s.low s.around.layout s.known s.arguments n f [] first begun.ghost (prebuilt s.known.program) steps structs has takes.texts given begun.stands

  comes : (frame : Frame) (c : Core) → Comes s (Calling f [] (frame ∷ []) (moved c)) x frame memory
  comes frame c =
      let it = comes_back s.low s.around.layout s.known s.arguments n f (frame ∷ []) (moved c) begun.ghost (prebuilt s.known.program) steps structs has takes.texts given begun.stands in
      record { end = it.end; same = it.same; way = record { most = length s.arguments + 1; leads = it.leads } }

  where_it_stands : (core : Core) → forgotten core ≡ forgotten first → core ≡ moved core
  where_it_stands core same = ap (λ (c : Core). record c { function = core.function; block = core.block; at = core.at; vars = core.vars }) same

  at_start : ArgumentsAreGiven s f steps
  at_start = record {
    x = x;
    memory = memory;
    gives = λ frame core same. subst (λ c. Comes s (Calling f [] (frame ∷ []) c) x frame memory) (sym (where_it_stands core same)) (comes frame core);
    ghost = ghost s.low s.around.layout s.known s.arguments n f [] first begun.ghost (prebuilt s.known.program) steps structs has takes.texts given begun.stands;
    stands = represents s.low s.around.layout s.known s.arguments n f [] first begun.ghost (prebuilt s.known.program) steps structs has takes.texts given begun.stands;
    left = refl;
    param = takes.param;
    takes = takes.takes;
    one = λ function is. one_taken function.defaults (first_list s) (takes.one function is);
    holds = Listed n (length (prebuilt s.known.program)) takes.list refl takes.typed takes.texts.struct (new_home s.low s.around.layout s.known s.arguments n f [] first begun.ghost (prebuilt s.known.program) steps structs has takes.texts given begun.stands);
  }

pub arguments_are_given : ArgumentsAreGivenAtStart
arguments_are_given s n f steps structs has takes given begun = at_start s n f steps structs has takes given begun
