-- The graph that gives the place of a key which has to be there, and raises where it is missing.
use Rattle.std.proofs.Common.{◌≡◌, ℕ, ◌||◌, false, List, [], ◌∷◌, Option, Some, None, pos, refl, ap, ◌∙◌, arith}
use Rattle.std.specs.Prelude.{slice_get}
use Rattle.csub_tree.specs.State.{Value, Word, Flag, Core}
use Rattle.csub_tree.specs.Operation.{is_unset}
use Rattle.ll_code.specs.State.{Frame, Calling}
use Rattle.ll_code.specs.declared.program.LlOp.TheVariants as op
use Rattle.ll_code.specs.declared.program.LlExit.TheVariants as exit
use Rattle.ll_code.specs.declared.program.LlProgram.{LlProgram}
use Rattle.ll_build.specs.Build.{block_of}
use Rattle.ll_leads.proofs.Ways.{Comes, on, many, enter, gives}
use Rattle.ll_texts.proofs.Numbers.{less_false}
use Rattle.list_shape.specs.Shapes.{gives as gives_block}
use Rattle.rtyper_dict.specs.declared.parts.DictShape.{DictShape}
use Rattle.rtyper_dict.specs.Looking.{entry_asks, entry_blocks, entry_graph}
use Rattle.lower_laws.specs.Asked.{Raises}
use Rattle.lower_laws.proofs.Small.{Flies, flies_on, flown, same_memory}
use Rattle.object_laws.proofs.Passing.{calls_at}
use Rattle.dict_find_laws.specs.Finding.{place_word}

-- what the call comes to
abbrev pub Enters : LlProgram → List (List ℕ) → ℕ → List Value → Core → Value → Option ℕ → Type 0
Enters p args f xs core raised (Some i) = (waits : List Frame) → Comes p args (Calling f xs waits core) [] (Word (pos i)) waits core
Enters p args f xs core raised None = (waits : List Frame) → Flies p args (Calling f xs waits core) raised waits core

module _ (p : LlProgram) (args : List (List ℕ)) (f finds raises : ℕ) (d : DictShape) (graph : slice_get p.graphs f ≡ Some (entry_graph finds (block_of [] (op.Call None raises [] ∷ []) (exit.Fail 1)) d)) (core : Core) (head x raised : Value)
    (head_set : is_unset head ≡ false) (x_set : is_unset x ≡ false) (raise : Raises p raises raised) where
  abbrev Finds : Option ℕ → Type 0
  Finds o = (function block at : ℕ) (vars : List Value) (waits : List Frame) → Comes p args (Calling finds (head ∷ x ∷ []) waits (record core { function = function; block = block; at = at; vars = vars })) [] (place_word o) waits (record core { function = function; block = block; at = at; vars = vars })

  sets : is_unset head || (is_unset x || false) ≡ false
  sets = ap (λ b. b || (is_unset x || false)) head_set ∙ ap (λ b. b || false) x_set

  pub enters : (o : Option ℕ) → Finds o → Enters p args f (head ∷ x ∷ []) core raised o
  unfolding entry_graph entry_blocks entry_asks gives_block
  enters (Some i) found = λ waits. record { end = _; same = refl; leads = on (enter graph refl) (on (calls_at refl sets (λ waits. found _ _ _ _ waits)) (on (gives (Flag false) (less_false i 0 (omega arith))) (many 2 graph refl refl))) }
  enters None found = λ waits. same_memory refl (flies_on (on (enter graph refl) (on (calls_at refl sets (λ waits. found _ _ _ _ waits)) (many 2 graph refl refl))) (flown raise))
