-- What operations on dicts ask for stands.
use Rattle.std.proofs.Common.{◌≡◌, ℕ, Bool, true, false, List, [], ◌∷◌, refl, sym, subst}
use Rattle.csub_tree.specs.State.{Value}
use Rattle.ll_code.specs.declared.program.LlType.{LlType}
use Rattle.rpy_meaning.specs.declared.row.Covers.{Covers}
use Rattle.rtyper_data.specs.declared.found.Found.{Found}
use Rattle.rtyper_data.specs.Seen.{Around, Operand, kind_of, type_of}
use Rattle.rtyper_dict.specs.Operands.{of_dict_or_none}
use Rattle.lower_laws.specs.Asked.{Ask, Help, Make, Raise, all_asked, number_of}
use Rattle.object_laws.specs.Done.{AllAsked}
use Rattle.object_laws.specs.Represents.{Represents}
use Rattle.dict_op_laws.specs.Dicts.{if_missing, there_asks}
use Rattle.growth_laws.specs.Growing.{Grows}
use Rattle.rtyped_laws.specs.Having.{raised_in}
use Rattle.rtyped_laws.specs.Objects.{OfDicts}
use Rattle.helper_stands.specs.Asks.{MayBeAsked}
use Rattle.helper_stands.proofs.Asks.{dict_asks_stand}
use Rattle.rtyped_runs.specs.Laws.{StandsSo, of_dicts}
use Rattle.typed_rows.specs.Programs.{IsTyped, Typed, first, last, layout, numbers, setting, world}

-- graphs of dicts
abbrev pub AllMade : List Ask → Type 0
AllMade [] = Unit {0}
AllMade (Make s ∷ asks) = OfDicts s × AllMade asks
AllMade (Help h ∷ asks) = ⊥
AllMade (Raise h ∷ asks) = ⊥

missing_made : (b : Bool) (u : LlType) (c : Covers) → AllMade (if_missing b u c)
missing_made true u c = (refl, tt)
missing_made false u c = tt

pub there_made : (around : Around) (a : Operand) (c : Covers) → AllMade (there_asks around a c)
there_made around a c = missing_made (of_dict_or_none (kind_of a)) (type_of around a) c

made_so : (asks : List Ask) (found : Found) → AllMade asks → AllAsked (MayBeAsked OfDicts) asks found
made_so [] found h = tt
made_so (Make s ∷ asks) found h = (h.0, made_so asks (number_of (Make s) found).1 h.1)
made_so (Help a ∷ asks) found h = absurd h
made_so (Raise a ∷ asks) found h = absurd h

module _ (t : Typed) (typed : IsTyped t) where
  raised_is : raised_in (world t) ≡ t.seen.exception
  raised_is = λ i class. (sym (typed.classes.is_of.exception class)) i

  pub dicts_stand : (asks : List Ask) (found : Found) → AllMade asks → Grows (first t) found → Grows (all_asked asks found) (last t) → StandsSo (setting t) (of_dicts (world t) t.p (numbers t) t.seen.exception) asks found
  dicts_stand asks found made early late core g heap left memory same_left =
      subst (λ (raised : ℕ → Value). AllAsked (of_dicts (world t) t.p (numbers t) raised core) asks found) raised_is
      (dict_asks_stand t.known t.classes t.p t.made t.seen typed.small.graphs typed.small.structs typed.small.texts asks found (made_so asks found made) early late
      g heap core (subst (λ (left : ℕ). Represents (layout t) t.seen g heap left core.blocks core.statics) same_left memory))
