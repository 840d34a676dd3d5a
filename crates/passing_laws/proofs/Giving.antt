-- A result is converted on the way to its place.
use Rattle.std.proofs.Common.{◌≡◌, ◌<◌, ℕ, ◌+◌, Bool, false, true, List, [], ◌∷◌, ◌++◌, length, Option, refl, sym, ap, ◌∙◌, subst, arith, append_assoc}
use Rattle.std.proofs.lemmas.List.{append-nil, length-set}
use Rattle.ann_element.specs.declared.element.Element.{Element}
use Rattle.csub_tree.specs.State.{Value, Core}
use Rattle.csub_tree.specs.Statement.{operand}
use Rattle.csub_tree.specs.declared.tree.COperand.{COperand}
use Rattle.ll_code.specs.State.{Frame, State, At}
use Rattle.ll_code.specs.declared.program.LlType.{LlType}
use Rattle.ll_code.specs.declared.program.LlType.TheVariants as type
use Rattle.ll_code.specs.declared.program.LlOp.{LlOp}
use Rattle.ll_code.specs.declared.program.LlOp.TheVariants as op
use Rattle.ll_code.specs.declared.program.LlExit.{LlExit}
use Rattle.ll_code.specs.declared.program.LlProgram.{LlProgram}
use Rattle.ll_leads.proofs.Joined.{leads_then, leads_more}
use Rattle.rpy_tree.specs.Value.{Value as Meant, Heap}
use Rattle.rtyper_layout.specs.declared.layout.Layout.{Layout}
use Rattle.rtyper_layout.specs.Layout.{is_tuple}
use Rattle.rtyper_layout.specs.Types.{type_seen}
use Rattle.rtyper_data.specs.Converting.{give, give_to, value_as}
use Rattle.rtyper_data.specs.Finding.{same_type}
use Rattle.rtyper_data.specs.Seen.{Around, Place, type_at, Writing, writing, set}
use Rattle.lower_laws.specs.Asked.{all_asked}
use Rattle.lower_laws.proofs.Doing.{after}
use Rattle.lower_laws.proofs.Single.{sets}
use Rattle.object_laws.specs.Ghost.{Ghost}
use Rattle.object_laws.specs.Known.{Known}
use Rattle.object_laws.specs.Values.{Holds}
use Rattle.object_laws.proofs.Passing.{is_set_at, is_kept_at}
use Rattle.object_laws.proofs.Valued.{held_set}
use Rattle.conversion_laws.specs.Asked.{Has, asks_for}
use Rattle.conversion_laws.specs.Converted.{Came, IsConverted, tuples_in, items_in}
use Rattle.conversion_laws.specs.Going.{Goes}
use Rattle.conversion_laws.proofs.Converting.{values_are_converted}
use Rattle.conversion_laws.proofs.Turning.{same_is}
use Rattle.conversion_laws.proofs.Valued.{never_held, to_typed}
use Rattle.passing_laws.specs.Given.{Placed, IsGiven, ResultsAreGiven}
use Rattle.passing_laws.proofs.Operands.{made_is}

-- ---- types

-- to what is never there nothing is converted
pub no_asks : (layout : Layout) (s : LlType) → asks_for layout s type.Void ≡ []
no_asks layout type.Signed = refl
no_asks layout type.Void = refl
no_asks layout type.Char = refl
no_asks layout type.Bool = refl
no_asks layout type.Fn = refl
no_asks layout (type.Ptr n) = refl

gives_to : (around : Around) (place : Place) (x : COperand) (s t : LlType) (w : Writing) → (t ≡ type.Void → ⊥) → give_to around place x s t w ≡ set place.variable (value_as around.layout x s t w)
gives_to around place x s type.Void w there = absurd (there refl)
gives_to around place x s type.Signed w there = refl
gives_to around place x s type.Char w there = refl
gives_to around place x s type.Bool w there = refl
gives_to around place x s type.Fn w there = refl
gives_to around place x s (type.Ptr n) w there = refl

-- the value of a variable is set behind
pub sets_behind : {known : Known} {around : Around} {place : Place} {p : LlProgram} {arguments : List (List ℕ)} {s : State} {rest : List LlOp} {e : LlExit} {frames : List Frame} {core : Core} {g : Ghost} {heap : Heap} {left below : ℕ} {y : COperand}
    → (v : Meant) → place.variable < length core.vars → Came around.layout known (λ ghost x. Holds around.layout known ghost place.element x v) p arguments s (op.Set place.variable y ∷ rest) e frames core g heap left below place.element y
    → Placed known around place p arguments s rest e frames core g heap left below (items_in place.element) (tuples_in place.element) v
sets_behind {known = known} {around = around} {place = place} {y = y} v inside c =
    let value : Value = operand c.end.vars y in
    let room = c.room in
    record {
      end = after c.end place.variable value;
      leads = leads_more (items_in place.element + 0) (items_in place.element) (omega arith) (leads_then c.leads (sets value refl (held_set c.stands c.fine)));
      ghost = c.ghost;
      grown = c.grown;
      stands = c.stands;
      holds = subst (λ x. Holds around.layout known c.ghost place.element x v) (sym (is_set_at c.end place.variable value (omega (arith, inside, room)))) c.fine;
      few = c.few;
      memory = c.memory;
      others = λ n under other. is_kept_at c.end place.variable n value other ∙ c.others n under;
      room = length-set c.end.vars place.variable value ∙ c.room;
      function = c.function;
      block = c.block;
    }

module _ (known : Known) (around : Around) (place : Place) (from : Option Element) (x : COperand) (w : Writing) (apart : is_tuple around.layout 0 ≡ false) (go : Goes around.layout known from place.element) where
  abbrev s : LlType
  s = type_seen around.layout from

  abbrev t : LlType
  t = type_at around place

  c : IsConverted (λ p. Has p around.layout) known around.layout from place.element (asks_for around.layout s t) x w
  c = values_are_converted known around.layout from place.element x w apart go

  abbrev y : COperand
  y = (value_as around.layout x s t w).0

  abbrev sets_place : LlOp
  sets_place = op.Set place.variable y

  -- the place has no type, and so nothing ever comes to it
  nowhere : t ≡ type.Void → IsGiven known around place from x w
  unfolding give
  nowhere h = record {
    ops = [];
    new = [];
    is = ap (λ u. give_to around place x s u w) h ∙ ap (λ asks. writing (all_asked asks w.found) w.body) (sym (ap (asks_for around.layout s) h ∙ no_asks around.layout s))
        ∙ ap (λ ts. writing (all_asked (asks_for around.layout s t) w.found) (record { types = ts; ops = w.body.ops })) (sym (append-nil w.body.types))
        ∙ ap (λ os. writing (all_asked (asks_for around.layout s t) w.found) (record { types = w.body.types ++ []; ops = os })) (sym (append-nil w.body.ops));
    follows = λ p numbers raised arguments rest e frames core g heap left v structs stood stands steps room inside below held. absurd (to_typed go (λ k. never_held k held) h);
  }

  somewhere : (t ≡ type.Void → ⊥) → IsGiven known around place from x w
  unfolding give
  somewhere there = record {
    ops = c.ops ++ sets_place ∷ [];
    new = c.new;
    is = gives_to around place x s t w there
        ∙ ap (λ made. set place.variable made) (made_is (value_as around.layout x s t w) (all_asked (asks_for around.layout s t) w.found) (w.body.types ++ c.new) (w.body.ops ++ c.ops) c.asked c.types c.written)
        ∙ ap (λ os. writing (all_asked (asks_for around.layout s t) w.found) (record { types = w.body.types ++ c.new; ops = os })) (append_assoc w.body.ops c.ops (sets_place ∷ []));
    follows = λ p numbers raised arguments rest e frames core g heap left v structs stood stands steps room inside below held.
        subst (λ os. Placed known around place p arguments (At os e frames core) rest e frames core g heap left (length w.body.types) (items_in place.element) (tuples_in place.element) v) (sym (append_assoc c.ops (sets_place ∷ []) rest))
        (sets_behind v inside (c.follows p numbers raised arguments (sets_place ∷ rest) e frames core g heap left v structs (stood core g heap left stands steps) stands steps room below held));
  }

  pub given : IsGiven known around place from x w
  given = by (same_type t type.Void) refl
    where
      by : (b : Bool) → same_type t type.Void ≡ b → IsGiven known around place from x w
      by true h = nowhere (same_is t type.Void h)
      by false h = somewhere (λ k. (let q : same_type type.Void type.Void ≡ false = sym (ap (λ u. same_type u type.Void) k) ∙ h in absurd (cc)))

pub results_are_given : ResultsAreGiven
results_are_given known around place from x w apart go = given known around place from x w apart go
