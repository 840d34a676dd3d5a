-- What sets, tests and clears the exception slots, in a run of an explicit program.
use Rattle.std.proofs.Common.{◌≡◌, ◌<◌, ◌≤◌, ℕ, zero, suc, ◌+◌, Bool, true, false, ◌||◌, List, [], ◌∷◌, ◌++◌, length, Option, Some, None, Ok, refl, sym, ap, ◌∙◌, subst, arith}
use Rattle.std.specs.Prelude.{slice_set, slice_index_or, cond}
use Rattle.csub_tree.specs.State.{Value, Unset, Flag, Null, Ptr, Static, Block, Core, Event, Onward, Stuck}
use Rattle.csub_tree.specs.Layout.{shape_at, place}
use Rattle.csub_tree.specs.Operation.{is_unset, flag_of, compared}
use Rattle.csub_tree.specs.Statement as st
use Rattle.csub_tree.specs.Statement.{read, operand, reached, on_block}
use Rattle.csub_tree.specs.declared.stuck.StuckReason.TheVariants.{Unset as IsUnset}
use Rattle.csub_tree.specs.declared.tree.COperand.TheVariants.{Var}
use Rattle.ll_code.specs.State.{Frame, State, At, Goes}
use Rattle.ll_code.specs.Machine.{step, goes_on, shapes_of}
use Rattle.ll_code.specs.Meaning.{run, follow}
use Rattle.ll_code.specs.declared.program.LlType.{LlType}
use Rattle.ll_code.specs.declared.program.LlOp.{LlOp}
use Rattle.ll_code.specs.declared.program.LlOp.TheVariants as op
use Rattle.ll_code.specs.declared.program.LlExit.{LlExit}
use Rattle.ll_code.specs.declared.program.LlProgram.{LlProgram}
use Rattle.ll_laws.proofs.Operations.{length_set}
use Rattle.exc_transform.specs.declared.family.Family.{Family}
use Rattle.exc_transform.specs.Explicit.{raising_by, raising, testing, taking}
use Rattle.exc_transform.specs.Pieces.{explicit}
use Rattle.exc_laws.specs.Ready.{exceptions_of, is_pointer, IsWholeOf, IsWhole}
use Rattle.exc_laws.specs.Stands.{Beside}
use Rattle.ll_held.specs.Held.{Held, Root}
use Rattle.ll_held.specs.Quiet.{Calm, Stay, Go, is_quiet, StaticsAreApart}
use Rattle.ll_held.proofs.Keeping.{head_in}
use Rattle.ll_held.proofs.Calming.{reached_there, field_held}
use Rattle.exc_laws.specs.Follows.{Leads}
use Rattle.exc_laws.proofs.Operations.{reached_same}

-- ---- variables

pub set_here : {A : Type 0} (xs : List A) (a : ℕ) (x d : A) → a < length xs → slice_index_or (slice_set xs a x) a d ≡ x
set_here [] a x d lt = absurd (omega (arith, lt))
set_here (y ∷ xs) zero x d lt = refl
set_here (y ∷ xs) (suc a) x d lt = set_here xs a x d (omega (arith, lt))

pub set_elsewhere : {A : Type 0} (xs : List A) (a b : ℕ) (x d : A) → (a ≡ b → ⊥) → slice_index_or (slice_set xs a x) b d ≡ slice_index_or xs b d
set_elsewhere [] a b x d ne = refl
set_elsewhere (y ∷ xs) zero zero x d ne = absurd (ne refl)
set_elsewhere (y ∷ xs) zero (suc b) x d ne = refl
set_elsewhere (y ∷ xs) (suc a) zero x d ne = refl
set_elsewhere (y ∷ xs) (suc a) (suc b) x d ne = set_elsewhere xs a b x d (λ e. ne (ap suc e))

pub above : (a b : ℕ) → a < b → b ≡ a → ⊥
above a b lt e = absurd (omega (arith, lt, e))

-- ---- runs

module _ (x : LlProgram) (args : List (List ℕ)) where
  pub nothing : (s : State) → Leads x args s s 0
  nothing s = record { by = λ k text events. (let e : k + 0 ≡ k = omega arith in ap (λ j. run x args j s text events) e); calm = Stay s }

  pub one_more : (k : ℕ) (s : State) (text : List ℕ) (events : List Event) → run x args (suc k) s text events ≡ follow (run x args k) text events (step x args s)
  unfolding run
  one_more k s text events = refl

  pub one : (s t : State) → step x args s ≡ Goes t → is_quiet s ≡ true → Leads x args s t 1
  one s t e q = record { calm = Go s t t e q (Stay t); by = λ k text events. (let f : k + 1 ≡ suc k = omega arith in ap (λ j. run x args j s text events) f) ∙ one_more k s text events ∙ ap (follow (run x args k) text events) e }

  calm_on : {s t u : State} → Calm x args s t → Calm x args t u → Calm x args s u
  calm_on (Stay s) k = k
  calm_on {u = u} (Go s r t e q h) k = Go s r u e q (calm_on h k)

  pub then : (s t u : State) (m n : ℕ) → Leads x args s t m → Leads x args t u n → Leads x args s u (n + m)
  then s t u m n h k = record { calm = calm_on h.calm k.calm; by = λ i text events. (let e : i + (n + m) ≡ i + n + m = omega arith in ap (λ j. run x args j s text events) e) ∙ h.by (i + n) text events ∙ k.by i text events }

  -- ---- a core after the slots were set, tested or cleared: the first variables are what they were

  module _ (own : ℕ) where
    pub record Kept (old core : Core) : Type 0 where
      pub beside : Beside old core
      pub size : length core.vars ≡ length old.vars
      pub vars : (v : ℕ) → v < own → read core.vars v ≡ read old.vars v

    module _ (ops : List LlOp) (e : LlExit) (frames : List Frame) (core : Core) where
      -- ---- the slots are tested

      pub record Tested (b : Bool) : Type 0 where
        pub core_after : Core
        pub count : ℕ
        pub leads : Leads x args (At ops e frames core) (At [] e frames core_after) count
        pub kept : Kept core core_after
        pub kind : core_after.exc_type ≡ core.exc_type
        pub value : core_after.exc_value ≡ core.exc_value
        pub flag : flag_of (read core_after.vars (own + 1)) ≡ Some b

      abbrev first : Core
      first = record core { at = core.at + 1; vars = slice_set core.vars own core.exc_type }

      abbrev second : Bool → Core
      second b = record core { at = core.at + 1 + 1; vars = slice_set (slice_set core.vars own core.exc_type) (own + 1) (Flag b) }

      pub tests_run : (family : Family) (b : Bool) → ops ≡ testing family own (own + 1) → own + 1 < length core.vars → compared core.exc_type Null ≡ Ok (Flag b) → Tested b
      tests_run family b is lt same = record {
        core_after = second b;
        count = 1 + 1;
        leads = subst (λ ops. Leads x args (At ops e frames core) (At [] e frames (second b)) (1 + 1)) (sym is)
            (then (At (testing family own (own + 1)) e frames core) (At (op.Binary (own + 1) _ (Var own) _ ∷ []) e frames first) (At [] e frames (second b)) 1 1
            (one (At (testing family own (own + 1)) e frames core) (At (op.Binary (own + 1) _ (Var own) _ ∷ []) e frames first) refl refl)
            (one (At (op.Binary (own + 1) _ (Var own) _ ∷ []) e frames first) (At [] e frames (second b)) stepped refl));
        kept = record {
          beside = record { function = refl; blocks = refl; statics = refl; steps = refl };
          size = length_set first.vars (own + 1) (Flag b) ∙ length_set core.vars own core.exc_type;
          vars = λ v le. set_elsewhere first.vars (own + 1) v (Flag b) Unset (above v (own + 1) (omega (arith, le))) ∙ set_elsewhere core.vars own v core.exc_type Unset (above v own le);
        };
        kind = refl;
        value = refl;
        flag = ap flag_of (set_here first.vars (own + 1) (Flag b) Unset (let s : length first.vars ≡ length core.vars = length_set core.vars own core.exc_type in omega (arith, s, lt)));
      }
        where
          stepped : goes_on (At [] e frames) (st.answered first (own + 1) (compared (read first.vars own) Null)) ≡ Goes (At [] e frames (second b))
          stepped = ap (λ a. goes_on (At [] e frames) (st.answered first (own + 1) a)) (ap (λ w. compared w Null) (set_here core.vars own core.exc_type Unset (omega (arith, lt))) ∙ same)

    module _ (e : LlExit) (frames : List Frame) (core : Core) where
      -- ---- an exception is set into them

      pub record Raised (value : Value) (ops : List LlOp) (rest : List LlOp) : Type 0 where
        pub core_after : Core
        pub count : ℕ
        pub leads : Leads x args (At ops e frames core) (At rest e frames core_after) count
        pub some : 1 ≤ count
        pub kept : Kept core core_after
        pub slot : core_after.exc_value ≡ value
        pub kind : is_pointer core_after.exc_type ≡ true
        pub known : StaticsAreApart core → (b : ℕ) → core_after.exc_type ≡ Ptr b → Held core.blocks (value ∷ []) b

      pointer_set : (w : Value) → is_pointer w ≡ true → is_unset w ≡ false
      pointer_set (Ptr n) h = refl
      pointer_set (Static g) h = refl
      pointer_set other h = absurd (cc)

      both_set : (s t : Value) (core : Core) → is_unset s ≡ false → is_unset t ≡ false → st.exc_set core s t ≡ Onward (record core { at = core.at + 1; exc_type = s; exc_value = t })
      both_set s t core h k =
          ap (λ b. cond (b || is_unset t) (Stuck IsUnset) (Onward (record core { at = core.at + 1; exc_type = s; exc_value = t }))) h ∙ ap (λ b. cond b (Stuck IsUnset) (Onward (record core { at = core.at + 1; exc_type = s; exc_value = t }))) k

      same_set : (v : ℕ) (value : Value) (rest : List LlOp) → read core.vars v ≡ value → is_pointer value ≡ true → Raised value (op.ExcSet v v ∷ rest) rest
      same_set v value rest is pointer = record {
        core_after = record core { at = core.at + 1; exc_type = value; exc_value = value };
        count = 1;
        leads = one (At (op.ExcSet v v ∷ rest) e frames core) (At rest e frames (record core { at = core.at + 1; exc_type = value; exc_value = value }))
            (ap (λ w. goes_on (At rest e frames) (st.exc_set core w w)) is ∙ ap (goes_on (At rest e frames)) (both_set value value core (pointer_set value pointer) (pointer_set value pointer))) refl;
        some = omega arith;
        kept = record { beside = record { function = refl; blocks = refl; statics = refl; steps = refl }; size = refl; vars = λ v le. refl };
        slot = refl;
        kind = pointer;
        known = λ apart b e. Root {b = b} (head_in b value [] e);
      }

      abbrev kind_in : ℕ → Block → Value
      kind_in root block = read block.fields (place (shape_at (shapes_of x.structs) root) 0)

      abbrev got_core : Value → Core
      got_core kind = record core { at = core.at + 1; vars = slice_set core.vars own kind }

      abbrev put_core : Value → Value → Core
      put_core kind value = record core { at = core.at + 1 + 1; vars = slice_set core.vars own kind; exc_type = kind; exc_value = value }

      field_set : (root v : ℕ) (value : Value) (block : Block) (rest : List LlOp) → v < own → own < length core.vars → read core.vars v ≡ value → is_unset value ≡ false → reached core (shapes_of x.structs) root value ≡ Ok block
          → is_pointer (read block.fields (place (shape_at (shapes_of x.structs) root) 0)) ≡ true → Raised value (op.GetField own root v 0 ∷ op.ExcSet own v ∷ rest) rest
      field_set root v value block rest within room is set found pointer = record {
        core_after = put_core (kind_in root block) value;
        count = 1 + 1;
        leads = then (At (op.GetField own root v 0 ∷ op.ExcSet own v ∷ rest) e frames core) (At (op.ExcSet own v ∷ rest) e frames (got_core (kind_in root block))) (At rest e frames (put_core (kind_in root block) value)) 1 1
            (one (At (op.GetField own root v 0 ∷ op.ExcSet own v ∷ rest) e frames core) (At (op.ExcSet own v ∷ rest) e frames (got_core (kind_in root block))) got refl)
            (one (At (op.ExcSet own v ∷ rest) e frames (got_core (kind_in root block))) (At rest e frames (put_core (kind_in root block) value)) put refl);
        some = omega arith;
        kept = record {
          beside = record { function = refl; blocks = refl; statics = refl; steps = refl };
          size = length_set core.vars own (kind_in root block);
          vars = λ w le. set_elsewhere core.vars own w (kind_in root block) Unset (above w own le);
        };
        slot = refl;
        kind = pointer;
        known = λ apart b e. field_held core (value ∷ []) value block apart (reached_there core (shapes_of x.structs) root value block found) (λ m i. Root {b = m} (head_in m value [] i)) b (place (shape_at (shapes_of x.structs) root) 0) e;
      }
        where
          got : goes_on (At (op.ExcSet own v ∷ rest) e frames) (st.get_field core (shapes_of x.structs) own root (read core.vars v) 0) ≡ Goes (At (op.ExcSet own v ∷ rest) e frames (got_core (kind_in root block)))
          got =
              ap (λ w. goes_on (At (op.ExcSet own v ∷ rest) e frames) (st.get_field core (shapes_of x.structs) own root w 0)) is
              ∙ ap (λ r. goes_on (At (op.ExcSet own v ∷ rest) e frames) (on_block (λ block. st.set core own (read block.fields (place (shape_at (shapes_of x.structs) root) 0))) r)) found
              ∙ ap (λ b. goes_on (At (op.ExcSet own v ∷ rest) e frames) (cond b (Stuck IsUnset) (st.assigned core own (kind_in root block)))) (pointer_set (kind_in root block) pointer)

          put : goes_on (At rest e frames) (st.exc_set (got_core (kind_in root block)) (read (got_core (kind_in root block)).vars own) (read (got_core (kind_in root block)).vars v)) ≡ Goes (At rest e frames (put_core (kind_in root block) value))
          put =
              ap (λ w. goes_on (At rest e frames) (st.exc_set (got_core (kind_in root block)) w (read (got_core (kind_in root block)).vars v))) (set_here core.vars own (kind_in root block) Unset room)
              ∙ ap (λ w. goes_on (At rest e frames) (st.exc_set (got_core (kind_in root block)) (kind_in root block) w)) (set_elsewhere core.vars own v (kind_in root block) Unset (above v own within) ∙ is)
              ∙ ap (goes_on (At rest e frames)) (both_set (kind_in root block) value (got_core (kind_in root block)) (pointer_set (kind_in root block) pointer) set)

      -- ---- and is taken out of them

      pub taking_run : (family : Family) (types : List LlType) (a : ℕ) → Leads x args (At (taking family types a) e frames core) (At [] e frames (record core { at = core.at + 1 + 1; vars = slice_set core.vars a core.exc_value; exc_type = Null; exc_value = Null })) (1 + 1)
      taking_run family types a =
          then (At (taking family types a) e frames core) (At (op.ExcClear ∷ []) e frames (record core { at = core.at + 1; vars = slice_set core.vars a core.exc_value }))
          (At [] e frames (record core { at = core.at + 1 + 1; vars = slice_set core.vars a core.exc_value; exc_type = Null; exc_value = Null })) 1 1
          (one (At (taking family types a) e frames core) (At (op.ExcClear ∷ []) e frames (record core { at = core.at + 1; vars = slice_set core.vars a core.exc_value })) refl refl)
          (one (At (op.ExcClear ∷ []) e frames (record core { at = core.at + 1; vars = slice_set core.vars a core.exc_value }))
          (At [] e frames (record core { at = core.at + 1 + 1; vars = slice_set core.vars a core.exc_value; exc_type = Null; exc_value = Null })) refl refl)

-- an exception that is whole is set into the slots, by a core beside the one that raises it
pub raising_run : (p : LlProgram) (args : List (List ℕ)) (core x_core : Core) → Beside core x_core → (own : ℕ) (e : LlExit) (frames : List Frame) (v : ℕ) (value : Value) (rest : List LlOp) → v < own → own + 1 < length x_core.vars
    → read x_core.vars v ≡ value → is_unset value ≡ false → IsWhole p core value → Raised (explicit p) args own e frames x_core value (raising (exceptions_of p) own v ++ rest) rest
raising_run p args core x_core beside own e frames v value rest within room is set whole = by (exceptions_of p).kind whole
  where
    by : (o : Option ℕ) → IsWholeOf p (exceptions_of p).root o core value → Raised (explicit p) args own e frames x_core value (raising_by (exceptions_of p).root o own v ++ rest) rest
    by None pointer = same_set (explicit p) args own e frames x_core v value rest is pointer
    by (Some n) (block, found, pointer) =
        field_set (explicit p) args own e frames x_core (exceptions_of p).root v value block rest within (omega (arith, room)) is set (reached_same core x_core beside (shapes_of p.structs) (exceptions_of p).root value ∙ found) pointer

-- the same where nothing stands behind
pub raising_end : (p : LlProgram) (args : List (List ℕ)) (core x_core : Core) → Beside core x_core → (own : ℕ) (e : LlExit) (frames : List Frame) (v : ℕ) (value : Value) → v < own → own + 1 < length x_core.vars
    → read x_core.vars v ≡ value → is_unset value ≡ false → IsWhole p core value → Raised (explicit p) args own e frames x_core value (raising (exceptions_of p) own v) []
raising_end p args core x_core beside own e frames v value within room is set whole = by (exceptions_of p).kind whole
  where
    by : (o : Option ℕ) → IsWholeOf p (exceptions_of p).root o core value → Raised (explicit p) args own e frames x_core value (raising_by (exceptions_of p).root o own v) []
    by None pointer = same_set (explicit p) args own e frames x_core v value [] is pointer
    by (Some n) (block, found, pointer) =
        field_set (explicit p) args own e frames x_core (exceptions_of p).root v value block [] within (omega (arith, room)) is set (reached_same core x_core beside (shapes_of p.structs) (exceptions_of p).root value ∙ found) pointer
