-- What is asked for in parts, and calls without a result.
use Rattle.std.proofs.Common.{◌≡◌, ◌<◌, ◌≤◌, ℕ, ◌+◌, Bool, true, false, List, [], ◌∷◌, ◌++◌, length, Option, None, refl, sym, ◌∙◌, subst, arith, append_assoc}
use Rattle.std.proofs.lemmas.List.{append-nil, length-set}
use Rattle.csub_tree.specs.State.{Value, Unset, Block, Core}
use Rattle.csub_tree.specs.Operation.{is_unset}
use Rattle.csub_tree.specs.Statement.{operand, operands, any_unset}
use Rattle.csub_tree.specs.declared.tree.COperand.{COperand}
use Rattle.ll_code.specs.State.{Frame, Calling, At}
use Rattle.ll_code.specs.declared.program.LlOp.{LlOp}
use Rattle.ll_code.specs.declared.program.LlOp.TheVariants as op
use Rattle.ll_code.specs.declared.program.LlExit.{LlExit}
use Rattle.ll_code.specs.declared.program.LlProgram.{LlProgram}
use Rattle.ll_build.specs.declared.needs.Numbers.{Numbers}
use Rattle.ll_leads.specs.Path.{Leads}
use Rattle.ll_leads.proofs.Joined.{leads_then, leads_more}
use Rattle.rpy_tree.specs.Value.{Value as Meant, Heap}
use Rattle.rpy_meaning.specs.declared.row.Covers.{Covers}
use Rattle.rpy_meaning.specs.World.{World}
use Rattle.rtyper_data.specs.declared.found.Found.{Found}
use Rattle.rtyper_data.specs.Seen.{Around, Operand, Place, kind_of, type_of}
use Rattle.rtyper_dict.specs.Operands.{of_dict_or_none}
use Rattle.lower_laws.specs.Asked.{Ask, all_asked, number_of}
use Rattle.lower_laws.proofs.Doing.{after}
use Rattle.lower_laws.proofs.Single.{sets}
use Rattle.object_laws.specs.Done.{Came}
use Rattle.object_laws.specs.Ghost.{Ghost, Grown}
use Rattle.object_laws.specs.Known.{Known}
use Rattle.object_laws.specs.Represents.{Represents}
use Rattle.object_laws.specs.Values.{Holds}
use Rattle.object_laws.proofs.Calling.{Returns, back, calls_back}
use Rattle.object_laws.proofs.Passing.{is_set_at, is_kept_at}
use Rattle.dict_op_laws.specs.Dicts.{if_missing, there_asks}
use Rattle.dict_find_laws.specs.Asked.{HasAll as HasLooking}
use Rattle.dict_change_laws.specs.Asked.{HasAll}

module _ (p : LlProgram) (around : Around) (numbers : Numbers) (raised : ℕ → Value) (core : Core) where
  pub has_first : (asks more : List Ask) (found : Found) → HasAll p around.layout numbers raised core (asks ++ more) found → HasAll p around.layout numbers raised core asks found
  has_first [] more found h = tt
  has_first (a ∷ asks) more found h = (h.0, has_first asks more (number_of a found).1 h.1)

  pub has_more : (asks more : List Ask) (found : Found) → HasAll p around.layout numbers raised core (asks ++ more) found → HasAll p around.layout numbers raised core more (all_asked asks found)
  has_more [] more found h = h
  has_more (a ∷ asks) more found h = has_more asks more (number_of a found).1 h.1

  -- that a dict is there is asked as where one is looked into
  pub there_has : (a : Operand) (c : Covers) (found : Found) → HasAll p around.layout numbers raised core (there_asks around a c) found → HasLooking p around.layout numbers raised core (there_asks around a c) found
  there_has a c found h = by (of_dict_or_none (kind_of a)) h
    where
      by : (b : Bool) → HasAll p around.layout numbers raised core (if_missing b (type_of around a) c) found → HasLooking p around.layout numbers raised core (if_missing b (type_of around a) c) found
      by true h = (h.0, tt)
      by false h = tt

-- a call without a result; the place takes what is there
module _ (count : ℕ) (known : Known) (around : Around) (place : Place) (p : LlProgram) (arguments : List (List ℕ)) (rest : List LlOp) (e : LlExit) (frames : List Frame) (core : Core) (g ghost : Ghost) (below : ℕ) (world : World) (heap : Heap) (left : ℕ) (blocks : List (Option Block)) (statics : List Block) where
  pub nothing_given : {f : ℕ} {xs : List COperand} {values : List Value} {z : COperand} (many most : ℕ) (value : Value) (v : Meant) → many ≤ most → operands core.vars xs ≡ values → any_unset values ≡ false → place.variable < length core.vars
      → Grown g ghost → Represents around.layout known ghost heap left blocks statics → length blocks ≤ length core.blocks + count
      → ((waits : List Frame) → Returns p arguments many (Calling f values waits core) Unset waits (record core { blocks = blocks; statics = statics; steps = left }))
      → operand core.vars z ≡ value → is_unset value ≡ false → Holds around.layout known ghost place.element value v
      → Came count known around place p arguments (At (op.Call None f xs ∷ op.Set place.variable z ∷ rest) e frames core) rest e frames core g most below world v (record world { heap = heap; left = left })
  nothing_given {f = f} {xs = xs} {z = z} many most value v fits same set inside grown stands few returns z_is value_set held =
      let mid : Core = back core (record core { blocks = blocks; statics = statics; steps = left }) None Unset in
      let way : Leads p arguments many (At (op.Call None f xs ∷ op.Set place.variable z ∷ rest) e frames core) [] (At (op.Set place.variable z ∷ rest) e frames mid) = calls_back many same set returns in
      let way2 : Leads p arguments 0 (At (op.Set place.variable z ∷ rest) e frames mid) [] (At rest e frames (after mid place.variable value)) = sets value z_is value_set in
      record {
        end = after mid place.variable value;
        text = [];
        leads = leads_more (many + 0) most (omega (arith, fits)) (leads_then way way2);
        ghost = ghost;
        grown = grown;
        stands = stands;
        holds = subst (λ x. Holds around.layout known ghost place.element x v) (sym (is_set_at mid place.variable value inside)) held;
        few = few;
        memory = refl;
        others = λ k under other. is_kept_at mid place.variable k value other;
        room = length-set core.vars place.variable value;
        function = refl;
        block = refl;
        out = sym (append-nil world.out);
      }

-- three lists and more, one behind the other
pub three_parts : {A : Type 0} (xs ys zs : List A) (a : A) → ((xs ++ ys) ++ zs) ++ a ∷ [] ≡ xs ++ (ys ++ (zs ++ a ∷ []))
three_parts xs ys zs a = append_assoc (xs ++ ys) zs (a ∷ []) ∙ append_assoc xs ys (zs ++ a ∷ [])

pub six_parts : {A : Type 0} (xs ys zs : List A) (a b c : A) → ((((xs ++ ys) ++ zs) ++ a ∷ []) ++ b ∷ []) ++ c ∷ [] ≡ xs ++ (ys ++ (zs ++ (a ∷ b ∷ c ∷ [])))
six_parts xs ys zs a b c =
    append_assoc (((xs ++ ys) ++ zs) ++ a ∷ []) (b ∷ []) (c ∷ []) ∙ append_assoc ((xs ++ ys) ++ zs) (a ∷ []) (b ∷ c ∷ []) ∙ append_assoc (xs ++ ys) zs (a ∷ b ∷ c ∷ []) ∙ append_assoc xs ys (zs ++ (a ∷ b ∷ c ∷ []))
