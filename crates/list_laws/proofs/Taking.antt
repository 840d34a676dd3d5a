-- The call that takes an item out of a list, and what the place takes then.
use Rattle.std.proofs.Common.{◌≡◌, ◌<◌, ◌≤◌, ℕ, ◌+◌, Bool, true, false, ◌||◌, List, [], ◌∷◌, length, pos, refl, sym, ap, ◌∙◌, subst, arith, Some}
use Rattle.std.specs.Prelude.{None, slice_get, slice_set, remove}
use Rattle.std.proofs.lemmas.List.{append-nil, length-set}
use Rattle.rpy_base.specs.declared.outcome.FailName.TheVariants as fail
use Rattle.csub_tree.specs.State.{Value, Unset, Word, Core}
use Rattle.csub_tree.specs.Operation.{is_unset}
use Rattle.csub_tree.specs.Statement.{operand, operands, any_unset}
use Rattle.csub_tree.specs.declared.tree.COperand.{COperand}
use Rattle.rpy_tree.specs.Value.{Value as Meant, Listed}
use Rattle.rpy_meaning.specs.World.{World, Gives, failure}
use Rattle.ll_code.specs.State.{Frame, State, At}
use Rattle.ll_code.specs.declared.program.LlOp.{LlOp}
use Rattle.ll_code.specs.declared.program.LlOp.TheVariants as op
use Rattle.ll_code.specs.declared.program.LlExit.{LlExit}
use Rattle.ll_code.specs.declared.program.LlProgram.{LlProgram}
use Rattle.ll_leads.specs.Path.{Leads}
use Rattle.ll_leads.proofs.Joined.{leads_then, leads_more}
use Rattle.rtyper_layout.specs.Layout.{is_list}
use Rattle.rtyper_data.specs.Seen.{Around, Place}
use Rattle.lower_laws.proofs.Doing.{after}
use Rattle.lower_laws.proofs.Single.{sets}
use Rattle.list_laws.specs.Asked.{HasRemove}
use Rattle.list_laws.proofs.Removing.{removed}
use Rattle.object_laws.specs.Known.{Known}
use Rattle.object_laws.specs.Done.{Follows, HasLayout}
use Rattle.object_laws.specs.Ghost.{Ghost, ListOf}
use Rattle.object_laws.specs.Represents.{Represents, ListAt}
use Rattle.object_laws.specs.Values.{Holds}
use Rattle.object_laws.proofs.Blocks.{found_set}
use Rattle.object_laws.proofs.Calling.{back, calls_back}
use Rattle.object_laws.proofs.Growing.{grown_none}
use Rattle.object_laws.proofs.Passing.{is_set_at, is_kept_at}

-- a failure makes no block
module _ (known : Known) (around : Around) (place : Place) (p : LlProgram) (args : List (List ℕ)) (s : State) (rest : List LlOp) (e : LlExit) (frames : List Frame) (core : Core) (g : Ghost) (raised : ℕ → Value) (most below : ℕ) (w : World) where
  pub no_block : (c : Bool) → Follows 2 known around place p args s rest e frames core g raised most below w (failure c 9 fail.Attribute w) → Follows 0 known around place p args s rest e frames core g raised most below w (failure c 9 fail.Attribute w)
  no_block true h = h
  no_block false h = h

-- ---- the call, and the place

module _ (known : Known) (around : Around) (place : Place) (p : LlProgram) (raised : ℕ → Value) (arguments : List (List ℕ)) (rest : List LlOp) (e : LlExit) (frames : List Frame) (core : Core) (g : Ghost) (most below : ℕ) (world : World)
    (structs : HasLayout p around.layout) (n f : ℕ) (struct : is_list around.layout n ≡ true) (has : HasRemove p around.layout raised n f)
    (stands : Represents around.layout known g world.heap world.left core.blocks core.statics) (left : world.left ≡ core.steps) (inside : place.variable < length core.vars)
    (x y z : COperand) (head value : Value) (k i : ℕ) (v : Meant) (x_is : operand core.vars x ≡ head) (y_is : operand core.vars y ≡ Word (pos k)) (z_is : operand core.vars z ≡ value) (home : slice_get g.homes i ≡ Some (record { sort = ListOf n; head = head }))
    (value_set : is_unset value ≡ false) (held : Holds around.layout known g place.element value v) where
  abbrev here : ListAt around.layout known g world.heap world.left core.blocks core.statics n i head
  here = stands.lists n i head home struct

  -- the place has its value from before the call
  pub takes : k < length here.items → length here.items ≤ most
      → Follows 0 known around place p arguments (At (op.Call None f (x ∷ y ∷ []) ∷ op.Set place.variable z ∷ rest) e frames core) rest e frames core g raised most below world (Gives v (record world { heap = slice_set world.heap i (Listed (remove here.items k)) }))
  takes within many =
      let same : operands core.vars (x ∷ y ∷ []) ≡ head ∷ Word (pos k) ∷ [] = ap (λ u. u ∷ operand core.vars y ∷ []) x_is ∙ ap (λ u. head ∷ u ∷ []) y_is in
      let set : any_unset (head ∷ Word (pos k) ∷ []) ≡ false = ap (λ b. b || (false || false)) (found_set core.blocks core.statics head _ here.head_is) in
      let it = removed p arguments around.layout known raised structs n struct f has g world.heap world.left core stands i head home here k within in
      let mid : Core = back core (record core { blocks = it.blocks; statics = it.statics }) None Unset in
      let way : Leads p arguments (length here.items) (At (op.Call None f (x ∷ y ∷ []) ∷ op.Set place.variable z ∷ rest) e frames core) [] (At (op.Set place.variable z ∷ rest) e frames mid) = calls_back (length here.items) same set it.returns in
      let way2 : Leads p arguments 0 (At (op.Set place.variable z ∷ rest) e frames mid) [] (At rest e frames (after mid place.variable value)) = sets value z_is value_set in
      record {
        end = after mid place.variable value;
        text = [];
        leads = leads_more (length here.items + 0) most (omega (arith, many)) (leads_then way way2);
        ghost = g;
        grown = grown_none;
        stands = it.stands;
        holds = subst (λ x. Holds around.layout known g place.element x v) (sym (is_set_at mid place.variable value inside)) held;
        few = (let q = it.few in omega (arith, q));
        memory = ap (λ s. record core { function = 0; block = 0; at = 0; vars = []; blocks = it.blocks; statics = it.statics; steps = s }) (sym left);
        others = λ j under other. is_kept_at mid place.variable j value other;
        room = length-set core.vars place.variable value;
        function = refl;
        block = refl;
        out = sym (append-nil world.out);
      }
