-- Links, exceptions and exits lead to the same.
use Rattle.std.proofs.Common.{◌≡◌, ◌<◌, ℕ, zero, suc, Bool, true, false, ◌||◌, ◌&&◌, not, ◌==◌, cond, List, [], ◌∷◌, ◌++◌, length, map, Option, Some, None, Result, Ok, Err, refl, sym, ap, ◌∙◌, subst, arith, ◌⊎◌, inl, inr}
use Rattle.std.specs.Prelude.{slice_get, slice_set, slice_index_or, option_map}
use Rattle.csub_tree.specs.State.{Value, Unset, Ptr, Static, Block, Core}
use Rattle.csub_tree.specs.Layout.{Shape}
use Rattle.csub_tree.specs.Operation.{is_unset, flag_of}
use Rattle.csub_tree.specs.Statement as st
use Rattle.csub_tree.specs.Statement.{read, operand, operands, any_unset, reached, on_block, as_struct, block_at, fail_name_of}
use Rattle.csub_tree.specs.declared.stuck.StuckReason.{StuckReason}
use Rattle.csub_tree.specs.declared.stuck.StuckReason.TheVariants.{Unset as IsUnset}
use Rattle.csub_tree.specs.declared.tree.COperand.{COperand}
use Rattle.csub_tree.specs.declared.tree.CType.{CType}
use Rattle.csub_tree.specs.declared.tree.CType.TheVariants as c
use Rattle.ll_code.specs.State.{Frame, State, At, Returning, Throwing, Next, Goes, Sticks}
use Rattle.ll_code.specs.Machine.{goes_on, set_all, block_in, begins, jump, branch, caught_by, caught, given, type_in, leaves, shapes_of, c_type}
use Rattle.ll_code.specs.Typed as rules
use Rattle.ll_code.specs.Typed.{link_ok, exit_ok, points}
use Rattle.ll_code.specs.declared.program.LlType.{LlType}
use Rattle.ll_code.specs.declared.program.LlLink.{LlLink}
use Rattle.ll_code.specs.declared.program.LlOp.{LlOp}
use Rattle.ll_code.specs.declared.program.LlExit.{LlExit}
use Rattle.ll_code.specs.declared.program.LlExit.TheVariants as exit
use Rattle.ll_code.specs.declared.program.LlBlock.{LlBlock}
use Rattle.ll_code.specs.declared.program.LlGraph.{LlGraph}
use Rattle.ll_code.specs.declared.program.LlProgram.{LlProgram}
use Rattle.ll_laws.proofs.Values.{and_left, and_right}
use Rattle.ll_live.specs.Live.{among, variables_of, variables_in, handler_variable, exit_variables, exit_reads, live}
use Rattle.ll_joined.specs.Named.{Naming, name_of, value_of, operand_by, number_of, link_by, exit_by}
use Rattle.ll_joined.specs.Counted.{are_some}
use Rattle.ll_joined.specs.Joined.{constants_of}
use Rattle.joined_laws.specs.Renamed.{Alike}
use Rattle.turned_laws.specs.Ordered.{IsOrdered}
use Rattle.turned_laws.specs.Turned.{asked_at, AreVariables, KeepsName, KeepsCaught, KeepsType, catches, leads_if, leads, Turned, Ended, Kept, Copied, Joined, IsTurned, MayTurn, GraphTurned}
use Rattle.turned_laws.proofs.Lists.{both, none_true, known, or_left, or_right, is_not, set_size, within_list, all_size, all_same, all_given_size}
use Rattle.turned_laws.proofs.Stuttering.{SameNext}
use Rattle.turned_laws.proofs.Relation.{own_name, FindsAll, among_left, among_right, among_first, operand_same, operands_same, set_stands, InGraph, Text, FramesTurned, AtTurned, StateTurned}

-- ---- where exceptions are caught

some_behind : (xs ys : List LlOp) → are_some ys ≡ true → are_some (xs ++ ys) ≡ true
some_behind [] ys h = h
some_behind (x ∷ xs) ys h = refl

catches_named : (names : Naming) (numbers : List ℕ) (e : LlExit) → catches (exit_by names numbers e) ≡ catches e
catches_named names numbers (exit.Goto link) = refl
catches_named names numbers (exit.If a one two) = refl
catches_named names numbers (exit.OnRaise a by without) = refl
catches_named names numbers (exit.Return x) = refl
catches_named names numbers (exit.Raise a) = refl
catches_named names numbers (exit.Fail n) = refl
catches_named names numbers (exit.Raised a) = refl

module _ (types : List LlType) (blocks : List LlBlock) (numbers : List ℕ) (heads : ℕ → Bool) where
  -- nothing is caught that was not
  abbrev IsQuiet : List LlOp → LlExit → Type 0
  IsQuiet ops e = (are_some ops ≡ true) ⊎ (catches e ≡ false)

  from_test : (ops : List LlOp) (e : LlExit) → (catches e ≡ true → are_some ops ≡ true) → IsQuiet ops e
  from_test ops e h = one (known (catches e))
    where
      one : (catches e ≡ true) ⊎ (catches e ≡ false) → IsQuiet ops e
      one (inl k) = inl (h k)
      one (inr k) = inr k

  pub stays_quiet : (n : ℕ) (names : Naming) (ops left : List LlOp) (e ends : LlExit) → Turned types blocks numbers heads n names ops e left ends → IsQuiet ops e → IsQuiet left ends
  stays_quiet n names ops left e ends (Ended names2 e2 l v k t) (inl h) = none_true (sym h)
  stays_quiet n names ops left e ends (Ended names2 e2 l v k t) (inr h) = inr (catches_named names2 numbers e2 ∙ h)
  stays_quiet n names ops left e ends (Kept m names2 o rest made e2 ends2 v k t) h = inl refl
  stays_quiet n names ops left e ends (Copied m names2 next a x rest made e2 ends2 c v k t) h = stays_quiet m next rest made e2 ends2 t (from_test rest e2 c)
  stays_quiet n names ops left e ends (Joined m names2 next link block made ends2 at c k t) h = one (stays_quiet m next block.ops made block.exit ends2 t (from_test block.ops block.exit c))
    where
      one : IsQuiet made ends2 → IsQuiet (constants_of block.inputs link.args ++ made) ends2
      one (inl s) = inl (some_behind (constants_of block.inputs link.args) made s)
      one (inr s) = inr s

pub not_caught : (q : LlProgram) (value : Value) (ops : List LlOp) (e : LlExit) (frames : List Frame) (core : Core) → (are_some ops ≡ true) ⊎ (catches e ≡ false) → caught q value ops e frames core ≡ Goes (Throwing value frames core)
not_caught q value (o ∷ ops) e frames core h = refl
not_caught q value [] e frames core (inl h) = none_true (sym h)
not_caught q value [] (exit.OnRaise a by without) frames core (inr h) = none_true h
not_caught q value [] (exit.Goto link) frames core (inr h) = refl
not_caught q value [] (exit.If a one two) frames core (inr h) = refl
not_caught q value [] (exit.Return x) frames core (inr h) = refl
not_caught q value [] (exit.Raise a) frames core (inr h) = refl
not_caught q value [] (exit.Fail n) frames core (inr h) = refl
not_caught q value [] (exit.Raised a) frames core (inr h) = refl

-- ---- one graph

module _ (p : LlProgram) (made : List LlGraph) (ordered : IsOrdered p) where
  abbrev q : LlProgram
  q = record p { graphs = made }

  abbrev Same : Next → Next → Type 0
  Same x y = SameNext (StateTurned p made) x y

  pub same_choice : (b : Bool) (x y x2 y2 : Next) → Same x x2 → Same y y2 → Same (cond b x y) (cond b x2 y2)
  same_choice true x y x2 y2 h k = h
  same_choice false x y x2 y2 h k = k

  module _ (f : ℕ) (at : InGraph p made f) (frames behind : List Frame) (waits : FramesTurned p made frames behind) where
    abbrev numbers : List ℕ
    numbers = at.turned.numbers

    abbrev heads : ℕ → Bool
    heads = at.turned.heads

    -- ---- links

    mapped : (vars : List Value) (xs : List COperand) → length (operands vars xs) ≡ length xs
    mapped vars [] = refl
    mapped vars (x ∷ xs) = ap suc (mapped vars xs)

    begins_same : (core other : Core) → core.function ≡ f → Alike core other → length other.vars ≡ length core.vars → (link : LlLink) → link_ok p at.graph link ≡ true → (o o2 : Option LlBlock) → slice_get at.graph.blocks link.to ≡ o → MayTurn at.graph.types at.graph.blocks numbers heads o o2
        → Same (begins frames core link.to (operands core.vars link.args) o) (begins behind other (number_of numbers link.to) (operands core.vars link.args) o2)
    begins_same core other is alike size link typed None None e t = refl
    begins_same core other is alike size link typed None (Some block) e t = elim t [ ]
    begins_same core other is alike size link typed (Some block) None e t = elim t [ ]
    begins_same core other is alike size link typed (Some block) (Some turned) e t = (
      t.moves,
      (
        record {
          alike = record { function = alike.function; blocks = alike.blocks; statics = alike.statics; exc_type = alike.exc_type; exc_value = alike.exc_value; steps = alike.steps };
          f = f;
          is_in = is;
          at = at;
          names = t.names;
          text = t.text;
          size = all_size other.vars turned.inputs values ∙ size ∙ sym (all_size core.vars block.inputs values);
          stands = λ v l. stands v (ordered.reads f at.graph at.of link.to block e v l);
        },
        waits,
      ),
    )
      where
        values : List Value
        values = operands core.vars link.args

        enough : length block.inputs ≡ length values
        enough = all_given_size p at.graph.types at.graph.types block.inputs link.args (subst (λ o. rules.enters p at.graph.types o link.args ≡ true) e typed) ∙ sym (mapped core.vars link.args)

        stands : (v : ℕ) → among v block.inputs ≡ true → operand (set_all other.vars turned.inputs values) (value_of t.names v) ≡ read (set_all core.vars block.inputs values) v
        stands v i =
            ap (operand (set_all other.vars turned.inputs values)) (t.own v i)
            ∙ ap (λ vs. read (set_all other.vars vs values) v) t.inputs
            ∙ all_same other.vars core.vars block.inputs values enough size v i

    pub jump_same : (core other : Core) → core.function ≡ f → Alike core other → length other.vars ≡ length core.vars → (names : Naming) (link : LlLink) → heads link.to ≡ true → link_ok p at.graph link ≡ true → FindsAll names (variables_in link.args) core.vars other.vars
        → Same (jump p frames core link) (jump q behind other (link_by names numbers link))
    jump_same core other is alike size names link head typed finds =
        subst (λ xs. Same (jump p frames core link) (cond (any_unset xs) (Sticks IsUnset) (begins behind other to xs (block_in (slice_get made other.function) to)))) (sym (operands_same names core.vars other.vars link.args finds))
        (subst (λ o. Same (jump p frames core link) (cond (any_unset values) (Sticks IsUnset) (begins behind other to values o))) (sym there)
        (subst (λ o. Same (cond (any_unset values) (Sticks IsUnset) (begins frames core link.to values o)) (cond (any_unset values) (Sticks IsUnset) (begins behind other to values (slice_get at.other.blocks to)))) (sym here)
        (same_choice (any_unset values) (Sticks IsUnset) (begins frames core link.to values (slice_get at.graph.blocks link.to)) (Sticks IsUnset) (begins behind other to values (slice_get at.other.blocks to)) refl
        (begins_same core other is alike size link typed (slice_get at.graph.blocks link.to) (slice_get at.other.blocks to) refl (at.turned.blocks link.to head)))))
      where
        to : ℕ
        to = number_of numbers link.to

        values : List Value
        values = operands core.vars link.args

        here : block_in (slice_get p.graphs core.function) link.to ≡ slice_get at.graph.blocks link.to
        here = ap (λ g. block_in (slice_get p.graphs g) link.to) is ∙ ap (λ o. block_in o link.to) at.of

        there : block_in (slice_get made other.function) to ≡ slice_get at.other.blocks to
        there = ap (λ g. block_in (slice_get made g) to) (alike.function ∙ is) ∙ ap (λ o. block_in o to) at.other_of

    -- ---- exceptions

    pointed_within : (types : List LlType) (a : ℕ) → points (slice_get types a) ≡ true → a < length types
    pointed_within types a h = one (slice_get types a) refl h
      where
        one : (o : Option LlType) → slice_get types a ≡ o → points o ≡ true → a < length types
        one None e h = none_true (sym h)
        one (Some t) e h = within_list types a t e

    module _ (core other : Core) (is : core.function ≡ f) (alike : Alike core other) (size : length other.vars ≡ length core.vars) (whole : length core.vars ≡ length at.graph.types) (value : Value) where
      thrown_same : Same (Goes (Throwing value frames core)) (Goes (Throwing value behind other))
      thrown_same = (0, (refl, waits, alike))

      caught_by_same : (names : Naming) (e : LlExit) → leads heads e ≡ true → KeepsCaught names e → exit_ok p at.graph e ≡ true → ((v : ℕ) → handler_variable e v ≡ true → operand other.vars (value_of names v) ≡ read core.vars v)
          → Same (caught_by p value frames core e) (caught_by q value behind other (exit_by names numbers e))
      caught_by_same names (exit.OnRaise a (Some by) without) head keeps typed finds =
          subst (λ b. Same (jump p frames (record core { vars = slice_set core.vars a value }) by) (jump q behind (record other { vars = slice_set other.vars b value }) (link_by names numbers by))) (sym (own_name names a keeps.own))
          (jump_same (record core { vars = slice_set core.vars a value }) (record other { vars = slice_set other.vars a value }) is
          (record { function = alike.function; blocks = alike.blocks; statics = alike.statics; exc_type = alike.exc_type; exc_value = alike.exc_value; steps = alike.steps })
          (set_size other.vars a value ∙ size ∙ sym (set_size core.vars a value)) names by (and_left _ _ head) (and_right _ _ (and_left _ _ typed))
          (set_stands names a value (λ v. among v (variables_in by.args)) core.vars other.vars keeps (let lt : a < length at.graph.types = pointed_within at.graph.types a (and_right _ _ (and_left _ _ (and_left _ _ typed))) in omega (arith, lt, whole)) size
          (λ v g ne. finds v (both (not (a == v)) (among v (variables_in by.args)) (is_not (a == v) ne) g))))
      caught_by_same names (exit.OnRaise a None without) head keeps typed finds = thrown_same
      caught_by_same names (exit.Goto link) head keeps typed finds = thrown_same
      caught_by_same names (exit.If a one two) head keeps typed finds = thrown_same
      caught_by_same names (exit.Return x) head keeps typed finds = thrown_same
      caught_by_same names (exit.Raise a) head keeps typed finds = thrown_same
      caught_by_same names (exit.Fail n) head keeps typed finds = thrown_same
      caught_by_same names (exit.Raised a) head keeps typed finds = thrown_same

      pub caught_same : (n : ℕ) (names : Naming) (ops left : List LlOp) (e ends : LlExit) → Text p made f at n names ops e left ends → exit_ok p at.graph e ≡ true → (ops ≡ [] → (v : ℕ) → handler_variable e v ≡ true → operand other.vars (value_of names v) ≡ read core.vars v)
          → Same (caught p value ops e frames core) (caught q value left ends behind other)
      caught_same n names ops left e ends (Ended names2 e2 l v k t) typed finds = caught_by_same names2 e2 l k typed (finds refl)
      caught_same n names ops left e ends (Kept m names2 o rest made2 e2 ends2 v k t) typed finds = thrown_same
      caught_same n names ops left e ends (Copied m names2 next a x rest made2 e2 ends2 c v k t) typed finds =
          subst (Same (Goes (Throwing value frames core))) (sym (not_caught q value left ends behind other (stays_quiet at.graph.types at.graph.blocks numbers heads n names ops left e ends (Copied m names2 next a x rest made2 e2 ends2 c v k t) (inl refl)))) thrown_same
      caught_same n names ops left e ends (Joined m names2 next link block made2 ends2 b c k t) typed finds =
          subst (Same (Goes (Throwing value frames core))) (sym (not_caught q value left ends behind other (stays_quiet at.graph.types at.graph.blocks numbers heads n names ops left e ends (Joined m names2 next link block made2 ends2 b c k t) (inr refl)))) thrown_same

    -- ---- exits

    module _ (core other : Core) (is : core.function ≡ f) (alike : Alike core other) (size : length other.vars ≡ length core.vars) (names : Naming) where
      block_same : (w : Value) → block_at other w ≡ block_at core w
      block_same (Ptr n) = ap (λ bs. slice_index_or bs n None) alike.blocks
      block_same (Static g) = ap (λ s. slice_get s g) alike.statics
      block_same w = refl

      pub given_same : (value value2 : Value) (go go2 : Value → Next) → value2 ≡ value → Same (go value) (go2 value) → Same (given value go) (given value2 go2)
      given_same value value2 go go2 e h = subst (λ w. Same (given value go) (given w go2)) (sym e) (same_choice (is_unset value) (Sticks IsUnset) (go value) (Sticks IsUnset) (go2 value) refl h)

      raised_same : (a : ℕ) (o : Option CType) (w : Value) → Same (goes_on (At [] (exit.Raised a) frames) (st.raised core (shapes_of p.structs) o w)) (goes_on (At [] (exit.Raised (name_of names a)) behind) (st.raised other (shapes_of p.structs) o w))
      raised_same a None w = refl
      raised_same a (Some c.Signed) w = refl
      raised_same a (Some c.Char) w = refl
      raised_same a (Some c.Bool) w = refl
      raised_same a (Some c.Fn) w = refl
      raised_same a (Some (c.Ptr n)) w =
          subst (λ r. Same (ends core frames a (reached core (shapes_of p.structs) n w)) (ends other behind (name_of names a) r)) (sym (ap (λ o. cond (is_unset w) (Err IsUnset) (as_struct (shapes_of p.structs) n o)) (block_same w))) (found (reached core (shapes_of p.structs) n w))
        where
          ends : Core → List Frame → ℕ → Result Block StuckReason → Next
          ends core frames a r = goes_on (At [] (exit.Raised a) frames) (on_block (λ block. st.raised_as core (st.bytes_of block.items)) r)

          name : (o : Option (List ℕ)) → Same (goes_on (At [] (exit.Raised a) frames) (st.raised_as core o)) (goes_on (At [] (exit.Raised (name_of names a)) behind) (st.raised_as other o))
          name None = refl
          name (Some bytes) = (refl, alike.steps)

          found : (r : Result Block StuckReason) → Same (ends core frames a r) (ends other behind (name_of names a) r)
          found (Ok block) = name (st.bytes_of block.items)
          found (Err reason) = refl

      pub leaves_same : (e : LlExit) → leads heads e ≡ true → AreVariables names (asked_at e) → KeepsType at.graph.types names e → exit_ok p at.graph e ≡ true → FindsAll names (exit_variables e) core.vars other.vars
          → Same (leaves p e frames core) (leaves q (exit_by names numbers e) behind other)
      leaves_same (exit.Goto link) head asks kinds typed finds = jump_same core other is alike size names link head typed finds
      leaves_same (exit.If a one two) head asks kinds typed finds =
          subst (λ w. Same (branch p frames core one two (flag_of (read core.vars a))) (branch q behind other (link_by names numbers one) (link_by names numbers two) (flag_of w))) (sym (ap (operand other.vars) (sym (asks a (among_first a []))) ∙ finds a (among_first a _)))
          (by (flag_of (read core.vars a)))
        where
          by : (o : Option Bool) → Same (branch p frames core one two o) (branch q behind other (link_by names numbers one) (link_by names numbers two) o)
          by None = refl
          by (Some true) = jump_same core other is alike size names one (and_left _ _ head) (and_right _ _ (and_left _ _ typed)) (λ v l. finds v (or_right (a == v) _ (among_left v (variables_in one.args) (variables_in two.args) l)))
          by (Some false) = jump_same core other is alike size names two (and_right _ _ head) (and_right _ _ typed) (λ v l. finds v (or_right (a == v) _ (among_right v (variables_in one.args) (variables_in two.args) l)))
      leaves_same (exit.OnRaise a by without) head asks kinds typed finds = jump_same core other is alike size names without (and_right _ _ head) (and_right _ _ typed) finds
      leaves_same (exit.Return None) head asks kinds typed finds = (0, (refl, waits, alike))
      leaves_same (exit.Return (Some x)) head asks kinds typed finds =
          given_same (operand core.vars x) (operand other.vars (operand_by names x)) (λ value. Goes (Returning value frames core)) (λ value. Goes (Returning value behind other)) (operand_same names core.vars other.vars x finds) (0, (refl, waits, alike))
      leaves_same (exit.Raise a) head asks kinds typed finds =
          given_same (read core.vars a) (read other.vars (name_of names a)) (λ value. Goes (Throwing value frames core)) (λ value. Goes (Throwing value behind other)) (ap (operand other.vars) (sym (asks a (among_first a []))) ∙ finds a (among_first a [])) (0, (refl, waits, alike))
      leaves_same (exit.Fail n) head asks kinds typed finds = one (fail_name_of n)
        where
          one : (o : Option _) → Same (goes_on (At [] (exit.Fail n) frames) (st.fail core o)) (goes_on (At [] (exit.Fail n) behind) (st.fail other o))
          one None = refl
          one (Some name) = (refl, alike.steps)
      leaves_same (exit.Raised a) head asks kinds typed finds =
          subst (λ w. Same (leaves p (exit.Raised a) frames core) (goes_on (At [] (exit.Raised (name_of names a)) behind) (st.raised other (shapes_of p.structs) (type_in (slice_get made other.function) (name_of names a)) w))) (sym (ap (operand other.vars) (sym (asks a (among_first a []))) ∙ finds a (among_first a [])))
          (subst (λ o. Same (leaves p (exit.Raised a) frames core) (goes_on (At [] (exit.Raised (name_of names a)) behind) (st.raised other (shapes_of p.structs) o (read core.vars a)))) (sym kind)
          (raised_same a (type_in (slice_get p.graphs core.function) a) (read core.vars a)))
        where
          kind : type_in (slice_get made other.function) (name_of names a) ≡ type_in (slice_get p.graphs core.function) a
          kind =
              ap (λ g. type_in (slice_get made g) (name_of names a)) (alike.function ∙ is) ∙ ap (λ o. type_in o (name_of names a)) at.other_of ∙ ap (λ ts. option_map c_type (slice_get ts (name_of names a))) at.turned.types ∙ ap (option_map c_type) kinds
              ∙ sym (ap (λ g. type_in (slice_get p.graphs g) a) is ∙ ap (λ o. type_in o a) at.of)
