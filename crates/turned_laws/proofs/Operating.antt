-- Operations and calls do the same.
use Rattle.std.proofs.Common.{◌≡◌, ◌<◌, ℕ, zero, suc, ◌+◌, ◌-◌, Bool, true, false, ◌||◌, ◌&&◌, not, ◌==◌, cond, List, [], ◌∷◌, ◌++◌, length, map, replicate, Option, Some, None, refl, sym, ap, ◌∙◌, subst, arith}
use Rattle.std.specs.Prelude.{slice_get, slice_set, option_map}
use Rattle.csub_tree.specs.State.{Value, Unset, Core, After, Onward, Puts as PutsByte, Told, Over, Stuck}
use Rattle.csub_tree.specs.Operation.{is_unset}
use Rattle.csub_tree.specs.Statement.{read, operand, operands, any_unset, taken_by, fun_of, same_result, same_types}
use Rattle.csub_tree.specs.declared.stuck.StuckReason.TheVariants.{Unset as IsUnset, Signature}
use Rattle.csub_tree.specs.declared.tree.COperand.TheVariants.{Var}
use Rattle.csub_tree.specs.declared.tree.CType.{CType}
use Rattle.ll_code.specs.State.{Frame, State, Calling, At, Returning, Next, Goes, Sticks}
use Rattle.ll_code.specs.Machine.{does, goes_on, caught, waiting, called, called_as, called_value, param_types, type_or_word, c_result, c_type, enters, entered, given, operates}
use Rattle.ll_code.specs.Typed.{exit_ok}
use Rattle.ll_code.specs.declared.program.LlOp.{LlOp}
use Rattle.ll_code.specs.declared.program.LlOp.TheVariants as op
use Rattle.ll_code.specs.declared.program.LlExit.{LlExit}
use Rattle.ll_code.specs.declared.program.LlBlock.{LlBlock}
use Rattle.ll_code.specs.declared.program.LlGraph.{LlGraph}
use Rattle.ll_code.specs.declared.program.LlProgram.{LlProgram}
use Rattle.ll_live.specs.Live.{among, variables_in, reads, set_by, sets, handler_variable, exit_variables, live}
use Rattle.ll_joined.specs.Named.{Naming, name_of, value_of, operand_by, named, number_of}
use Rattle.joined_laws.specs.Renamed.{Alike, Wrote, SameAfter, Finds, asked}
use Rattle.joined_laws.proofs.Renaming.{renamed_do_the_same}
use Rattle.turned_laws.specs.Ordered.{IsOrdered}
use Rattle.turned_laws.specs.Turned.{asked_of, AreVariables, KeepsNames, Turned, IsTurned, MayTurn, GraphTurned, MayTurnGraph, AreTurned}
use Rattle.turned_laws.proofs.Lists.{both, is_not, or_left, or_right, set_size}
use Rattle.turned_laws.proofs.Stuttering.{SameNext}
use Rattle.turned_laws.proofs.Relation.{own_name, FindsAll, among_first, operands_same, taken_stands, InGraph, Text, FrameTurned, FramesTurned, AtTurned, StateTurned}
use Rattle.turned_laws.proofs.Leaving.{same_choice, caught_same, given_same}

pub taken_size : (vars : List Value) (into : Option ℕ) (value : Value) → length (taken_by vars into value) ≡ length vars
taken_size vars None value = refl
taken_size vars (Some a) value = set_size vars a value

module _ (p : LlProgram) (made : List LlGraph) (ordered : IsOrdered p) (turned : AreTurned p made) (args : List (List ℕ)) where
  abbrev q : LlProgram
  q = record p { graphs = made }

  abbrev Same : Next → Next → Type 0
  Same x y = SameNext (StateTurned p made) x y

  -- ---- calls

  called_same : (g : ℕ) (values : List Value) (frames behind : List Frame) (core other : Core) → FramesTurned p made frames behind → Alike core other → Same (called g values frames core) (called g values behind other)
  called_same g values frames behind core other waits alike = same_choice p made ordered (any_unset values) (Sticks IsUnset) (Goes (Calling g values frames core)) (Sticks IsUnset) (Goes (Calling g values behind other)) refl (0, (refl, refl, waits, alike))

  params_same : (graph made_graph : LlGraph) → GraphTurned graph made_graph → param_types made_graph ≡ param_types graph
  params_same graph made_graph t = ap (λ ps. map (λ v. type_or_word (slice_get made_graph.types v)) ps) t.params ∙ ap (λ ts. map (λ v. type_or_word (slice_get ts v)) graph.params) t.types

  called_as_same : (result : Option CType) (params : List CType) (g : ℕ) (values : List Value) (frames behind : List Frame) (core other : Core) → FramesTurned p made frames behind → Alike core other → (o o2 : Option LlGraph) → MayTurnGraph o o2
      → Same (called_as result params g values frames core o) (called_as result params g values behind other o2)
  called_as_same result params g values frames behind core other waits alike None None t = refl
  called_as_same result params g values frames behind core other waits alike None (Some graph) t = elim t [ ]
  called_as_same result params g values frames behind core other waits alike (Some graph) None t = elim t [ ]
  called_as_same result params g values frames behind core other waits alike (Some graph) (Some made_graph) t =
      subst (λ r. Same (called_as result params g values frames core (Some graph)) (cond (same_result (c_result r) result && same_types (param_types made_graph) params) (Goes (Calling g values behind other)) (Sticks Signature))) (sym t.result)
      (subst (λ ts. Same (called_as result params g values frames core (Some graph)) (cond (same_result (c_result graph.result) result && same_types ts params) (Goes (Calling g values behind other)) (Sticks Signature))) (sym (params_same graph made_graph t))
      (same_choice p made ordered (same_result (c_result graph.result) result && same_types (param_types graph) params) (Goes (Calling g values frames core)) (Sticks Signature) (Goes (Calling g values behind other)) (Sticks Signature) (0, (refl, refl, waits, alike)) refl))

  called_value_same : (result : Option CType) (params : List CType) (o : Option ℕ) (values : List Value) (frames behind : List Frame) (core other : Core) → FramesTurned p made frames behind → Alike core other
      → Same (called_value p result params o values frames core) (called_value q result params o values behind other)
  called_value_same result params None values frames behind core other waits alike = refl
  called_value_same result params (Some g) values frames behind core other waits alike = called_as_same result params g values frames behind core other waits alike (slice_get p.graphs g) (slice_get made g) (turned g)

  -- ---- operations

  module _ (f : ℕ) (at : InGraph p made f) (frames behind : List Frame) (waits : FramesTurned p made frames behind) (core other : Core) (is : core.function ≡ f) (alike : Alike core other) (size : length other.vars ≡ length core.vars) (whole : length core.vars ≡ length at.graph.types)
      (n : ℕ) (names : Naming) (ops left : List LlOp) (e ends : LlExit) (text : Text p made f at n names ops e left ends) where
    abbrev Finding : LlOp → Type 0
    Finding o = (v : ℕ) → live (o ∷ ops) e v ≡ true → operand other.vars (value_of names v) ≡ read core.vars v

    abbrev Within : LlOp → Type 0
    Within o = (a : ℕ) → set_by o ≡ Some a → a < length core.vars

    reading : (o : LlOp) → Finding o → FindsAll names (reads o) core.vars other.vars
    reading o finds v l = finds v (or_left (among v (reads o)) _ l)

    behind_it : (o : LlOp) → Finding o → (v : ℕ) → live ops e v ≡ true → sets (set_by o) v ≡ false → operand other.vars (value_of names v) ≡ read core.vars v
    behind_it o finds v l s = finds v (or_right (among v (reads o)) _ (both (not (sets (set_by o) v)) (live ops e v) (is_not (sets (set_by o) v) s) l))

    named_set : (into : Option ℕ) → KeepsNames names into (λ v. live ops e v) → option_map (name_of names) into ≡ into
    named_set None keeps = refl
    named_set (Some a) keeps = ap Some (own_name names a keeps.own)

    waits_same : (o : LlOp) (into : Option ℕ) → set_by o ≡ into → Finding o → KeepsNames names (set_by o) (λ v. live ops e v) → FrameTurned p made (waiting core into ops e) (waiting other (option_map (name_of names) into) left ends)
    waits_same o into same finds keeps = record {
      f = f;
      is_in = is;
      graph = alike.function;
      into = named_set into (subst (λ s. KeepsNames names s (λ v. live ops e v)) same keeps);
      at = at;
      moves = n;
      names = names;
      text = text;
      size = size;
      stands = λ v l s. behind_it o finds v l (ap (λ t. sets t v) same ∙ s);
      own = subst (λ s. KeepsNames names s (λ v. live ops e v)) same keeps;
    }

    -- an operation that stays in its block
    ordinary : (o : LlOp) → ((v : ℕ) → among v (asked o) ≡ true → value_of names v ≡ Var (name_of names v)) → Finding o → KeepsNames names (set_by o) (λ v. live ops e v) → Within o
        → Same (goes_on (At ops e frames) (does p args core o)) (goes_on (At left ends behind) (does q args other (named names o)))
    ordinary o asks finds keeps within = after (does p args core o) (does q args other (named names o)) (renamed_do_the_same p made args names o core other alike (record { values = reading o finds; variables = asks }))
      where
        now : (next next2 : Core) → Wrote (set_by o) (option_map (name_of names) (set_by o)) core other next next2 → (m : ℕ) × StateTurned p made m (At ops e frames next) (At left ends behind next2)
        now next next2 w = (
          n,
          (
            record {
              alike = w.alike;
              f = f;
              is_in = w.graph ∙ is;
              at = at;
              names = names;
              text = text;
              size = ap length w.other_vars ∙ taken_size other.vars (option_map (name_of names) (set_by o)) w.written ∙ size ∙ sym (ap length w.vars ∙ taken_size core.vars (set_by o) w.written);
              stands = λ v l.
                  ap (λ vs. operand vs (value_of names v)) (w.other_vars ∙ ap (λ s. taken_by other.vars s w.written) (named_set (set_by o) keeps))
                  ∙ taken_stands names (set_by o) w.written (λ v. live ops e v) core.vars other.vars keeps within size (behind_it o finds) v l
                  ∙ sym (ap (λ vs. read vs v) w.vars);
            },
            waits,
          ),
        )

        after : (a b : After) → SameAfter (set_by o) (option_map (name_of names) (set_by o)) core other a b → Same (goes_on (At ops e frames) a) (goes_on (At left ends behind) b)
        after (Onward next) (Onward next2) w = now next next2 w
        after (PutsByte byte next) (PutsByte byte2 next2) (s, w) = (s, now next next2 w)
        after (Told event next) (Told event2 next2) (s, w) = (s, now next next2 w)
        after (Over outcome next) (Over outcome2 next2) (s, k) = (s, k)
        after (Stuck reason) (Stuck reason2) s = s
        after a b w = elim w [ ]

    pub operates_same : (o : LlOp) → AreVariables names (asked_of o) → Finding o → KeepsNames names (set_by o) (λ v. live ops e v) → Within o → exit_ok p at.graph e ≡ true
        → Same (operates p args o ops e frames core) (operates q args (named names o) left ends behind other)
    operates_same (op.Call into g xs) asks finds keeps within typed =
        subst (λ vs. Same (operates p args (op.Call into g xs) ops e frames core) (called g vs (waiting other (option_map (name_of names) into) left ends ∷ behind) other)) (sym (operands_same names core.vars other.vars xs (reading (op.Call into g xs) finds)))
        (called_same g (operands core.vars xs) (waiting core into ops e ∷ frames) (waiting other (option_map (name_of names) into) left ends ∷ behind) core other (waits_same (op.Call into g xs) into refl finds keeps, waits) alike)
    operates_same (op.CallFn into result params b xs) asks finds keeps within typed =
        subst (λ w. Same (operates p args (op.CallFn into result params b xs) ops e frames core) (ends_so w (operands other.vars (map (operand_by names) xs)))) (sym (ap (operand other.vars) (sym (asks b (among_first b []))) ∙ finds b (or_left _ _ (among_first b (variables_in xs)))))
        (subst (λ vs. Same (operates p args (op.CallFn into result params b xs) ops e frames core) (ends_so (read core.vars b) vs)) (sym (operands_same names core.vars other.vars xs (λ v l. finds v (or_left _ _ (or_right (b == v) (among v (variables_in xs)) l)))))
        (same_choice p made ordered (is_unset (read core.vars b) || any_unset (operands core.vars xs)) (Sticks IsUnset) _ (Sticks IsUnset) _ refl
        (called_value_same (c_result result) (map c_type params) (fun_of (read core.vars b)) (operands core.vars xs) (waiting core into ops e ∷ frames) (waiting other (option_map (name_of names) into) left ends ∷ behind) core other (waits_same (op.CallFn into result params b xs) into refl finds keeps, waits) alike)))
      where
        ends_so : Value → List Value → Next
        ends_so w vs = cond (is_unset w || any_unset vs) (Sticks IsUnset) (called_value q (c_result result) (map c_type params) (fun_of w) vs (waiting other (option_map (name_of names) into) left ends ∷ behind) other)
    operates_same (op.Raise a) asks finds keeps within typed =
        given_same p made ordered f at frames behind waits core other is alike size names (read core.vars a) (read other.vars (name_of names a)) (λ value. caught p value ops e frames core) (λ value. caught q value left ends behind other)
        (ap (operand other.vars) (sym (asks a (among_first a []))) ∙ finds a (or_left _ _ (among_first a [])))
        (caught_same p made ordered f at frames behind waits core other is alike size whole (read core.vars a) n names ops left e ends text typed
        (λ none v h. finds v (or_right (among v (a ∷ [])) _ (subst (λ ops. live ops e v ≡ true) (sym none) (or_right (among v (exit_variables e)) (handler_variable e v) h)))))
    operates_same (op.Set a x) asks finds keeps within typed = ordinary (op.Set a x) asks finds keeps within
    operates_same (op.Unary a o x) asks finds keeps within typed = ordinary (op.Unary a o x) asks finds keeps within
    operates_same (op.Binary a o x y) asks finds keeps within typed = ordinary (op.Binary a o x y) asks finds keeps within
    operates_same (op.GetField a m b k) asks finds keeps within typed = ordinary (op.GetField a m b k) asks finds keeps within
    operates_same (op.SetField m b k x) asks finds keeps within typed = ordinary (op.SetField m b k x) asks finds keeps within
    operates_same (op.GetItem a m b i) asks finds keeps within typed = ordinary (op.GetItem a m b i) asks finds keeps within
    operates_same (op.SetItem m b i x) asks finds keeps within typed = ordinary (op.SetItem m b i x) asks finds keeps within
    operates_same (op.New a k m) asks finds keeps within typed = ordinary (op.New a k m) asks finds keeps within
    operates_same (op.NewArray a k m x) asks finds keeps within typed = ordinary (op.NewArray a k m x) asks finds keeps within
    operates_same (op.Free a) asks finds keeps within typed = ordinary (op.Free a) asks finds keeps within
    operates_same (op.Step x) asks finds keeps within typed = ordinary (op.Step x) asks finds keeps within
    operates_same (op.ExcType a m) asks finds keeps within typed = ordinary (op.ExcType a m) asks finds keeps within
    operates_same (op.ExcValue a m) asks finds keeps within typed = ordinary (op.ExcValue a m) asks finds keeps within
    operates_same (op.ExcSet a b) asks finds keeps within typed = ordinary (op.ExcSet a b) asks finds keeps within
    operates_same op.ExcClear asks finds keeps within typed = ordinary op.ExcClear asks finds keeps within
    operates_same (op.Argc a) asks finds keeps within typed = ordinary (op.Argc a) asks finds keeps within
    operates_same (op.ArgLen a x) asks finds keeps within typed = ordinary (op.ArgLen a x) asks finds keeps within
    operates_same (op.Arg a x y) asks finds keeps within typed = ordinary (op.Arg a x y) asks finds keeps within
    operates_same (op.Put x) asks finds keeps within typed = ordinary (op.Put x) asks finds keeps within

  -- ---- calls that begin and come back

  pub entered_same : (g : ℕ) (values : List Value) (frames behind : List Frame) (core other : Core) → FramesTurned p made frames behind → Alike core other → (o o2 : Option LlGraph) → slice_get p.graphs g ≡ o → slice_get made g ≡ o2 → MayTurnGraph o o2
      → Same (entered g values frames core o) (entered g values behind other o2)
  entered_same g values frames behind core other waits alike None None e e2 t = refl
  entered_same g values frames behind core other waits alike None (Some made_graph) e e2 t = elim t [ ]
  entered_same g values frames behind core other waits alike (Some graph) None e e2 t = elim t [ ]
  entered_same g values frames behind core other waits alike (Some graph) (Some made_graph) e e2 t =
      one (slice_get graph.blocks 0) (slice_get made_graph.blocks 0) refl (subst (λ n. MayTurn graph.types graph.blocks t.numbers t.heads (slice_get graph.blocks 0) (slice_get made_graph.blocks n)) t.first_number (t.blocks 0 t.first))
    where
      vars : values ++ replicate (length made_graph.types - length made_graph.params) Unset ≡ values ++ replicate (length graph.types - length graph.params) Unset
      vars = ap (λ ts. values ++ replicate (length ts - length made_graph.params) Unset) t.types ∙ ap (λ ps. values ++ replicate (length graph.types - length ps) Unset) t.params

      one : (o o2 : Option LlBlock) → slice_get graph.blocks 0 ≡ o → MayTurn graph.types graph.blocks t.numbers t.heads o o2 → Same (enters g values frames core graph o) (enters g values behind other made_graph o2)
      one None None k b = refl
      one None (Some block) k b = elim b [ ]
      one (Some block) None k b = elim b [ ]
      one (Some block) (Some block2) k b = (
        b.moves,
        (
          record {
            alike = record { function = refl; blocks = alike.blocks; statics = alike.statics; exc_type = alike.exc_type; exc_value = alike.exc_value; steps = alike.steps };
            f = g;
            is_in = refl;
            at = record { graph = graph; other = made_graph; of = e; other_of = e2; turned = t };
            names = b.names;
            text = b.text;
            size = ap length vars;
            stands = λ v l. ap (λ vs. operand vs (value_of b.names v)) vars ∙ ap (operand (values ++ replicate (length graph.types - length graph.params) Unset)) (b.own v (ordered.reads g graph e 0 block k v l));
          },
          waits,
        ),
      )
