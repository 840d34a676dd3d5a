-- What is given back, and what is raised.
use Rattle.std.proofs.Common.{◌≡◌, ◌≤◌, ◌⊎◌, inl, inr, ℕ, ◌+◌, Bool, true, false, List, [], length, Option, Some, None, refl, sym, ap, ◌∙◌, subst, arith}
use Rattle.std.specs.Prelude.{slice_get, cond}
use Rattle.std.proofs.lemmas.List.{append-nil}
use Rattle.ann_element.specs.declared.element.Element.{Element}
use Rattle.ann_element.specs.declared.element.Element.TheVariants as element
use Rattle.csub_tree.specs.Statement.{read, operand}
use Rattle.csub_tree.specs.declared.stuck.StuckReason.TheVariants.{Unset as IsUnset}
use Rattle.csub_tree.specs.declared.tree.COperand.{COperand}
use Rattle.csub_tree.specs.declared.tree.COperand.TheVariants.{Var}
use Rattle.ll_code.specs.State.{At, Returning, Throwing, Goes, Sticks}
use Rattle.ll_code.specs.declared.program.LlType.{LlType}
use Rattle.ll_code.specs.declared.program.LlType.TheVariants as type
use Rattle.ll_code.specs.declared.program.LlOp.{LlOp}
use Rattle.ll_code.specs.declared.program.LlExit.{LlExit}
use Rattle.ll_code.specs.declared.program.LlExit.TheVariants as made
use Rattle.ll_code.specs.declared.program.LlProgram.{LlProgram}
use Rattle.ll_build.specs.declared.needs.Numbers.{Numbers}
use Rattle.ll_leads.proofs.Ways.{one}
use Rattle.rpy_tree.specs.Value.{Ref}
use Rattle.flow_graph.specs.declared.graph.Exit.TheVariants as exit
use Rattle.flow_graph.specs.declared.graph.Graphs.{Graphs}
use Rattle.rtyper_layout.specs.Types.{type_seen}
use Rattle.rtyper_data.specs.Converting.{given, value_as}
use Rattle.rtyper_data.specs.Seen.{Writing}
use Rattle.rtyper_program.specs.Blocks.{raise_as}
use Rattle.rtyper_program.specs.Links.{give_as, give_back, returned}
use Rattle.rtyper_program.specs.Seen.{Lowered, element_at, operand_of, type_at}
use Rattle.rtyper_data.specs.Finding.{same_type}
use Rattle.rtyper_layout.specs.declared.kind.Kind.TheVariants as kind
use Rattle.object_laws.specs.Done.{HasLayout}
use Rattle.object_laws.specs.Known.{Known}
use Rattle.object_laws.specs.Values.{Holds}
use Rattle.object_laws.proofs.Growing.{grown_none}
use Rattle.object_laws.proofs.Valued.{Gone, Instancing, held_set, instance_or_none}
use Rattle.run_laws.specs.Points.{Setting, is_conflict, Way}
use Rattle.run_laws.specs.Does.{Does, Leaves}
use Rattle.run_laws.proofs.Steps.{way_then}
use Rattle.block_laws.specs.Exits.{AreExceptions, IsGiven, ResultsAreGiven, ExceptionsLeave}
use Rattle.block_laws.specs.Links.{setting, Converts, Ends}
use Rattle.block_laws.specs.Operations.{HasTypes}
use Rattle.block_laws.proofs.Passing.{is_void, moved, no_void}

-- ---- results

module _ (l : Lowered) (known : Known) (graphs : Graphs) (p : LlProgram) (arguments : List (List ℕ)) (numbers : Numbers) (below : ℕ) (names : List ℕ) (v : ℕ) (w : Writing)
    (has : HasLayout p l.world.around.layout) (types : HasTypes (setting l known graphs p arguments) l.number below) (it : IsGiven (setting l known graphs p arguments) numbers l v w) where
  abbrev s : Setting
  s = setting l known graphs p arguments

  abbrev seen : Option Element
  seen = slice_get s.around.results l.number

  abbrev converted : COperand × Writing
  converted = value_as l.world.around.layout (Var v) (type_at l v) (type_seen l.world.around.layout seen) w

  module _ (there : l.result ≡ type.Void → ⊥) where
    by : Converts s numbers (s.element l.number v) seen (Var v) w
    by = it.converts there

    gives : length w.body.types + length by.is.new ≤ s.size l.number → Does s l.number names [] (exit.Return v) by.is.ops (made.Return (Some converted.0))
    gives enters frames core g env world at told x h =
        let m = moved l known graphs p arguments numbers below has types (λ ghost y. Holds l.world.around.layout known ghost seen y x) at.left
        (by.is.follows p numbers known.exception arguments [] (made.Return (Some converted.0)) frames core g world.heap world.left x has (by.stood core g world.heap world.left at.stands at.left) at.stands at.left (let r = at.room in omega (arith, r, enters)) it.inside (at.variables.bound v x h it.free)) in
        record {
          x = operand m.end.vars converted.0;
          end = m.end;
          way = subst (λ (ops : List LlOp). Way s (At ops (made.Return (Some converted.0)) frames core) [] (Returning (operand m.end.vars converted.0) frames m.end)) (append-nil by.is.ops)
              (way_then s m.way (record { most = 0; leads = one (ap (λ b. cond b (Sticks IsUnset) (Goes (Returning (operand m.end.vars converted.0) frames m.end))) (held_set m.stands m.fine)) refl }));
          ghost = m.ghost;
          grown = m.grown;
          holds = m.fine;
          stands = m.stands;
          left = m.same;
        }

  -- one without a type is never given
  nothing_given : l.result ≡ type.Void → Does s l.number names [] (exit.Return v) [] (made.Return None)
  nothing_given void frames core g env world at told x h = absurd (types.typed g v (read core.vars v) x (at.variables.bound v x h it.free) (it.never void))

  gives_as : (t : LlType) → (t ≡ type.Void → ⊥) → give_as l v t w ≡ returned (given l.world.around (operand_of l v) t w)
  gives_as type.Signed there = refl
  gives_as type.Void there = absurd (there refl)
  gives_as type.Char there = refl
  gives_as type.Bool there = refl
  gives_as type.Fn there = refl
  gives_as (type.Ptr n) there = refl

  ends_there : (l.result ≡ type.Void → ⊥) → Ends s l names (exit.Return v) w (returned (given l.world.around (operand_of l v) l.result w))
  ends_there there = subst (λ t. Ends s l names (exit.Return v) w (returned (given l.world.around (operand_of l v) t w))) (sym it.result)
      (record { ops = (by there).is.ops; new = (by there).is.new; written = (by there).is.written; types = (by there).is.types; does = gives there })

  ends_nowhere : l.result ≡ type.Void → Ends s l names (exit.Return v) w (made.Return None, w)
  ends_nowhere void = record { ops = []; new = []; written = sym (append-nil w.body.ops); types = sym (append-nil w.body.types); does = λ enters. nothing_given void }

  void_gives : l.result ≡ type.Void → give_back l v w ≡ (made.Return None, w)
  unfolding give_back
  void_gives void = ap (λ t. give_as l v t w) void

  there_gives : (l.result ≡ type.Void → ⊥) → give_back l v w ≡ returned (given l.world.around (operand_of l v) l.result w)
  unfolding give_back
  there_gives there = gives_as l.result there

  decided : (b : Bool) → same_type l.result type.Void ≡ b → Ends s l names (exit.Return v) w (give_back l v w)
  decided true h = subst (λ (m : LlExit × Writing). Ends s l names (exit.Return v) w m) (sym (void_gives (is_void l.result h))) (ends_nowhere (is_void l.result h))
  decided false h = subst (λ (m : LlExit × Writing). Ends s l names (exit.Return v) w m) (sym (there_gives (no_void l.result h))) (ends_there (no_void l.result h))

  given_back : Ends s l names (exit.Return v) w (give_back l v w)
  given_back = decided (same_type l.result type.Void) refl

pub results_are_given : ResultsAreGiven
results_are_given l known graphs p arguments numbers below names v w has types it = given_back l known graphs p arguments numbers below names v w has types it

-- ---- exceptions

module _ (l : Lowered) (known : Known) (graphs : Graphs) (p : LlProgram) (arguments : List (List ℕ)) (below : ℕ) (names : List ℕ) (v class : ℕ) (w : Writing) (types : HasTypes (setting l known graphs p arguments) l.number below)
    (is : element_at l.known.annotation l.number v ≡ Some (element.Instance class false)) (all : AreExceptions known class) where
  raises : Does (setting l known graphs p arguments) l.number names [] (exit.Raise v) [] (raise_as v (type_at l v))
  raises frames core g env world at told r h = by (instance_or_none class false is held)
    where
      held : Holds l.world.around.layout known g (element_at l.known.annotation l.number v) (read core.vars v) (Ref r)
      held = at.variables.bound v (Ref r) h (ap is_conflict is)

      typed : type_at l v ≡ type.Void → ⊥
      typed = types.typed g v (read core.vars v) (Ref r) held

      raises_it : (t : LlType) → (t ≡ type.Void → ⊥) → raise_as v t ≡ made.Raise v
      raises_it type.Signed there = refl
      raises_it type.Void there = absurd (there refl)
      raises_it type.Char there = refl
      raises_it type.Bool there = refl
      raises_it type.Fn there = refl
      raises_it (type.Ptr n) there = refl

      goes : Way (setting l known graphs p arguments) (At [] (raise_as v (type_at l v)) frames core) [] (Throwing (read core.vars v) frames core)
      goes = subst (λ (e : LlExit). Way (setting l known graphs p arguments) (At [] e frames core) [] (Throwing (read core.vars v) frames core)) (sym (raises_it (type_at l v) typed))
          (record { most = 0; leads = one (ap (λ b. cond b (Sticks IsUnset) (Goes (Throwing (read core.vars v) frames core))) (held_set at.stands held)) refl })

      by : Instancing known g class (read core.vars v) (Ref r) ⊎ ((false ≡ true) × Gone kind.MaybeInstance (element_at l.known.annotation l.number v) (read core.vars v) (Ref r)) → Leaves (setting l known graphs p arguments) r world g frames (At [] (raise_as v (type_at l v)) frames core)
      by (inl it) =
          let i : r ≡ it.i = (let q : Ref r ≡ Ref it.i = it.high in cc) in
          record {
            x = read core.vars v;
            end = core;
            way = goes;
            ghost = g;
            grown = grown_none;
            is = record { class = it.c; home = ap (λ n. slice_get g.homes n) i ∙ it.home; above = all it.c it.below };
            stands = at.stands;
            left = at.left;
          }
      by (inr (bad, gone)) = absurd (cc)

pub exceptions_leave : ExceptionsLeave
exceptions_leave l known graphs p arguments below names v class w types is all = record {
  ops = [];
  new = [];
  written = sym (append-nil w.body.ops);
  types = sym (append-nil w.body.types);
  does = λ enters. raises l known graphs p arguments below names v class w types is all;
}
