-- An item is appended to a list.
use Rattle.std.proofs.Common.{◌≡◌, ◌<◌, ◌≤◌, ℕ, ◌+◌, ◌-◌, Bool, true, false, ◌||◌, List, [], ◌∷◌, ◌++◌, length, Some, None, refl, sym, ap, ◌∙◌, subst, arith}
use Rattle.std.specs.Prelude.{slice_get, slice_set, nat_lt, if◌then◌else◌, cond}
use Rattle.std.proofs.lemmas.Bool.Decides.{nat_tests}
use Rattle.std.proofs.lemmas.List.{append-nil, length-set}
use Rattle.csub_tree.specs.State.{Value, Unset, Flag, Core}
use Rattle.csub_tree.specs.Operation.{is_unset}
use Rattle.csub_tree.specs.Statement.{operand, operands, any_unset}
use Rattle.csub_tree.specs.declared.stuck.StuckReason.TheVariants.{Unset as IsUnset}
use Rattle.csub_tree.specs.declared.tree.COperand.{COperand}
use Rattle.rpy_tree.specs.Value.{Value as Meant, Nothing, Listed}
use Rattle.rpy_meaning.specs.World.{World, Answer, Gives, Lacks}
use Rattle.ll_code.specs.State.{Frame, State, Calling, At, Goes, Sticks}
use Rattle.ll_code.specs.Machine.{waiting}
use Rattle.ll_code.specs.declared.program.LlType.TheVariants as type
use Rattle.ll_code.specs.declared.program.LlOp.{LlOp}
use Rattle.ll_code.specs.declared.program.LlOp.TheVariants as op
use Rattle.ll_code.specs.declared.program.LlExit.{LlExit}
use Rattle.ll_code.specs.declared.program.LlProgram.{LlProgram}
use Rattle.ll_held.specs.Held.{times}
use Rattle.ll_held.specs.Roots.{roots}
use Rattle.ll_leads.specs.Path.{Leads}
use Rattle.ll_leads.proofs.Joined.{leads_then, leads_more}
use Rattle.ll_leads.proofs.Ways.{on, one}
use Rattle.rtyper_layout.specs.declared.kind.Kind.TheVariants as kind
use Rattle.rtyper_layout.specs.Kinds.{kind_seen}
use Rattle.rtyper_layout.specs.Layout.{is_list}
use Rattle.rtyper_data.specs.Seen.{Around, Place}
use Rattle.lower_laws.proofs.Doing.{after}
use Rattle.lower_laws.proofs.Single.{sets}
use Rattle.rtyper_data.specs.Converting.{default_operand}
use Rattle.list_laws.specs.Asked.{HasAppend}
use Rattle.object_laws.specs.Known.{Known}
use Rattle.object_laws.specs.Done.{Follows, HasLayout}
use Rattle.object_laws.specs.Ghost.{Ghost, ListOf}
use Rattle.object_laws.specs.Represents.{Represents, ListAt}
use Rattle.object_laws.specs.Values.{Holds, Alone}
use Rattle.list_laws.proofs.Appended.{appended, append_lacks}
use Rattle.object_laws.proofs.Blocks.{found_set}
use Rattle.object_laws.proofs.Calling.{back, calls_back}
use Rattle.object_laws.proofs.Held.{call_holds}
use Rattle.object_laws.proofs.Passing.{is_set_at, is_kept_at}
use Rattle.object_laws.proofs.Valued.{held_set}

-- the steps that an append costs
abbrev pub after_append : World → ℕ → List Meant → Meant → Answer
after_append w i items v = if nat_lt w.left 1 then Lacks else Gives Nothing (record w { heap = slice_set w.heap i (Listed (items ++ v ∷ [])); left = w.left - 1 })

-- the call of the graph, and `None` for the place
module _ (known : Known) (around : Around) (place : Place) (p : LlProgram) (raised : ℕ → Value) (arguments : List (List ℕ)) (rest : List LlOp) (e : LlExit) (frames : List Frame) (core : Core) (g : Ghost) (most below : ℕ) (world : World)
    (structs : HasLayout p around.layout) (n f : ℕ) (struct : is_list around.layout n ≡ true) (has : HasAppend p around.layout raised n f)
    (stands : Represents around.layout known g world.heap world.left core.blocks core.statics) (left : world.left ≡ core.steps) (inside : place.variable < length core.vars) (nothing : kind_seen place.element ≡ kind.Nothing)
    (x y : COperand) (head value : Value) (v : Meant) (x_is : operand core.vars x ≡ head) (y_is : operand core.vars y ≡ value) (i : ℕ) (home : slice_get g.homes i ≡ Some (record { sort = ListOf n; head = head })) (held : Holds around.layout known g (known.items n) value v) where
  abbrev pub calls : LlOp
  calls = op.Call None f (x ∷ y ∷ [])

  abbrev puts : LlOp
  puts = op.Set place.variable (default_operand type.Bool)

  abbrev Here : State
  Here = At (calls ∷ puts ∷ rest) e frames core

  abbrev pub here : ListAt around.layout known g world.heap world.left core.blocks core.statics n i head
  here = stands.lists n i head home struct

  same : operands core.vars (x ∷ y ∷ []) ≡ head ∷ value ∷ []
  same = ap (λ u. u ∷ operand core.vars y ∷ []) x_is ∙ ap (λ u. head ∷ u ∷ []) y_is

  set : any_unset (head ∷ value ∷ []) ≡ false
  set = ap (λ b. b || (is_unset value || false)) (found_set core.blocks core.statics head _ here.head_is) ∙ ap (λ b. b || false) (held_set stands held)

  lacking : world.left < 1 → Follows 2 known around place p arguments Here rest e frames core g raised most below world Lacks
  lacking short =
      let frame : Frame = waiting core None (puts ∷ rest) e in
      let it = append_lacks p arguments around.layout known raised structs n struct f has g world.heap world.left core stands left i head home here value v held short (frame ∷ frames) in
      record {
        last = it.last;
        leads = on (one (ap (λ vs. cond (any_unset vs) (Sticks IsUnset) (Goes (Calling f vs (frame ∷ frames) core))) same ∙ ap (λ b. cond b (Sticks IsUnset) (Goes (Calling f (head ∷ value ∷ []) (frame ∷ frames) core))) set) refl) it.leads;
        ends = it.ends;
        blocks = it.blocks;
        holds = λ placed b h. call_holds p (puts ∷ rest) e frames core None f (x ∷ y ∷ []) placed b (subst (λ vs. 0 < times b (roots p (Calling f vs (frame ∷ frames) core))) (sym same) (it.holds b h));
      }

  gives : 1 ≤ world.left → length here.items + 3 ≤ most → Follows 2 known around place p arguments Here rest e frames core g raised most below world (Gives Nothing (record world { heap = slice_set world.heap i (Listed (here.items ++ v ∷ [])); left = world.left - 1 }))
  gives enough many =
      let it = appended p arguments around.layout known raised structs n struct f has g world.heap world.left core stands left i head home here value v held enough in
      let mid : Core = back core (record core { blocks = it.blocks; statics = it.statics; steps = world.left - 1 }) None Unset in
      let way : Leads p arguments (length here.items + 3) Here [] (At (puts ∷ rest) e frames mid) = calls_back (length here.items + 3) same set it.returns in
      let way2 : Leads p arguments 0 (At (puts ∷ rest) e frames mid) [] (At rest e frames (after mid place.variable (Flag false))) = sets (Flag false) refl refl in
      record {
        end = after mid place.variable (Flag false);
        text = [];
        leads = leads_more ((length here.items + 3) + 0) most (omega (arith, many)) (leads_then way way2);
        ghost = it.ghost;
        grown = it.grown;
        stands = it.stands;
        holds = Alone nothing (is_set_at mid place.variable (Flag false) inside) refl;
        few = (let q = it.few in omega (arith, q));
        memory = refl;
        others = λ k under other. is_kept_at mid place.variable k (Flag false) other;
        room = length-set core.vars place.variable (Flag false);
        function = refl;
        block = refl;
        out = sym (append-nil world.out);
      }

  pub does : length here.items + 3 ≤ most → Follows 2 known around place p arguments Here rest e frames core g raised most below world (after_append world i here.items v)
  does many = by (nat_lt world.left 1) refl
    where
      by : (c : Bool) → nat_lt world.left 1 ≡ c → Follows 2 known around place p arguments Here rest e frames core g raised most below world (if c then Lacks else Gives Nothing (record world { heap = slice_set world.heap i (Listed (here.items ++ v ∷ [])); left = world.left - 1 }))
      by true h = lacking (grind (arith, nat_tests, h))
      by false h = gives (grind (arith, nat_tests, h)) many
