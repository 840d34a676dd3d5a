-- Each operation is followed, where it stands.
use Rattle.std.proofs.Common.{◌≡◌, ◌≢◌, ◌<◌, ℕ, ◌+◌, true, List, [], ◌∷◌, ◌++◌, length, Option, Some, None, refl, sym, ap, ◌∙◌}
use Rattle.std.specs.Prelude.{slice_get, slice_set}
use Rattle.csub_tree.specs.State.{Value, Unset, Ptr, Static, Block, Core}
use Rattle.csub_tree.specs.Layout.{begins_with}
use Rattle.csub_tree.specs.Statement.{read, operand}
use Rattle.csub_tree.specs.declared.tree.COperand.{COperand}
use Rattle.ll_code.specs.State.{Frame, At}
use Rattle.ll_code.specs.Machine.{shapes_of}
use Rattle.ll_code.specs.declared.program.LlOp.{LlOp}
use Rattle.ll_code.specs.declared.program.LlOp.TheVariants as op
use Rattle.ll_code.specs.declared.program.LlExit.{LlExit}
use Rattle.ll_code.specs.declared.program.LlType.{LlType}
use Rattle.ll_code.specs.declared.program.LlProgram.{LlProgram}
use Rattle.refcount_transform.specs.Plan.{plan_of, is_counted, reference_given}
use Rattle.refcount_transform.specs.Changes.{around_of, var_referred, touched, dead}
use Rattle.refcount_transform.specs.Counted.{counted}
use Rattle.refcount_laws.specs.Graphs.{Counting}
use Rattle.refcount_laws.specs.Made.{counts_of}
use Rattle.refcount_laws.specs.Ghost.{Ghost, count, memory}
use Rattle.refcount_laws.specs.Runs.{here}
use Rattle.refcount_laws.specs.Matches.{PointsTo}
use Rattle.refcount_laws.proofs.Numbers.{Based}
use Rattle.ll_code.specs.Typed.{operation_ok}
use Rattle.ll_laws.proofs.Values.{and_left}
use Rattle.csub_tree.specs.Layout.{shape_at, place}
use Rattle.ll_code.specs.Typed.{field_of, items_of, structs_ok}
use Rattle.ll_code.specs.declared.program.LlStruct.{LlStruct}
use Rattle.refcount_laws.specs.Made.{shapes_counted}
use Rattle.refcount_laws.proofs.Copying.{exc_type_followed, exc_value_followed, set_followed}
use Rattle.std.specs.Prelude.{replicate}
use Rattle.refcount_transform.specs.Plan.{field_referred}
use Rattle.refcount_laws.proofs.Ghosts.{inside}
use Rattle.csub_tree.specs.State.{Made, Static}
use Rattle.ll_code.specs.State.{Tells}
use Rattle.ll_code.specs.Typed.{IsWellTyped}
use Rattle.refcount_transform.specs.Changes.{header}
use Rattle.refcount_laws.specs.Made.{leads_to_roots}
use Rattle.refcount_laws.specs.Before as told
use Rattle.refcount_laws.specs.Before.{Before, is_of_words, MayStand, SetsUnread, MayTakeField, MayTakeItem, NoBlocksIn}
use Rattle.refcount_laws.proofs.Numbers.{all_based}
use Rattle.refcount_laws.proofs.Places.{counted_counting}
use Rattle.refcount_laws.proofs.Operating.{unary_followed, binary_followed, argc_followed, arg_len_followed, arg_followed, step_followed, put_followed}
use Rattle.refcount_laws.proofs.Getting.{get_field_followed, get_item_followed}
use Rattle.refcount_laws.proofs.Storage.{set_plain_followed, set_reference_followed}
use Rattle.refcount_laws.specs.Ready.{KeepsNumber}
use Rattle.refcount_laws.proofs.Making.{made_followed, no_rest}

pub structs_typed : (p : LlProgram) → IsWellTyped p → structs_ok p.structs 0 p.structs ≡ true
structs_typed p ok = and_left _ _ (and_left _ _ (and_left _ _ ok))

module _ (p : LlProgram) (ok : IsWellTyped p) (leads : leads_to_roots p ≡ true) (args : List (List ℕ)) (types : List LlType) (own : Value → ℕ) (ops rest : List LlOp) (e ex : LlExit) (frames : List Frame) (b at : ℕ) (core qcore : Core) (g : Ghost)
    (h : List (Option Block)) where
  abbrev pub Here : LlOp → Type 0
  Here o = Before p types own o ops e core qcore g h → told.IsFollowed p args types own o ops rest e ex frames b at core qcore g h

  based : Based p.structs
  based = all_based p.structs (structs_typed p ok)

  counting : Counting (counted p) (counts_of (plan_of p))
  counting = counted_counting p ok leads

  pub words_one : (o : LlOp) → operation_ok p types o ≡ true → is_of_words o ≡ true → Here o
  words_one (op.Unary a o x) typed w d = unary_followed p based counting args types d.roots own ops rest e ex frames b core qcore g h at d.fits d.stands a o x typed d.pointing d.counts
  words_one (op.Binary a o x y) typed w d = binary_followed p based counting args types d.roots own ops rest e ex frames b core qcore g h at d.fits d.stands a o x y typed d.pointing d.counts
  words_one (op.Step x) typed w d = step_followed p based counting args types d.roots own ops rest e ex frames b core qcore g h at d.fits d.stands x d.pointing d.counts
  words_one (op.Argc a) typed w d = argc_followed p based counting args types d.roots own ops rest e ex frames b core qcore g h at d.fits d.stands a typed d.pointing d.counts
  words_one (op.ArgLen a x) typed w d = arg_len_followed p based counting args types d.roots own ops rest e ex frames b core qcore g h at d.fits d.stands a x typed d.pointing d.counts
  words_one (op.Arg a x y) typed w d = arg_followed p based counting args types d.roots own ops rest e ex frames b core qcore g h at d.fits d.stands a x y typed d.pointing d.counts
  words_one (op.Put x) typed w d = put_followed p based counting args types d.roots own ops rest e ex frames b core qcore g h at d.fits d.stands x d.pointing d.counts
  words_one other typed w d = absurd (cc)

  pub set_one : (a : ℕ) (x : COperand) → operation_ok p types (op.Set a x) ≡ true → SetsUnread p types a (op.Set a x) → MayStand p types core a (operand core.vars x) → Here (op.Set a x)
  set_one a x typed unread may d =
      set_followed p based counting args types d.roots own ops rest e ex frames b core qcore g h at d.fits d.stands 0 d.room a x typed unread (record { points = may.points; refers = may.refers }) d.pointing d.counts

  pub exc_type_one : (a n : ℕ) → a < length core.vars → MayStand p types core a core.exc_type → ((m : ℕ) → core.exc_type ≡ Ptr m → 0 < own (Ptr m)) → Here (op.ExcType a n)
  exc_type_one a n inside may held d =
      exc_type_followed p based counting args types d.roots own ops rest e ex frames b core qcore g h at d.fits d.stands 0 d.room a n inside (record { points = may.points; refers = may.refers }) held d.pointing d.counts

  pub exc_value_one : (a n : ℕ) → a < length core.vars → MayStand p types core a core.exc_value → ((m : ℕ) → core.exc_value ≡ Ptr m → 0 < own (Ptr m)) → Here (op.ExcValue a n)
  exc_value_one a n inside may held d =
      exc_value_followed p based counting args types d.roots own ops rest e ex frames b core qcore g h at d.fits d.stands 0 d.room a n inside (record { points = may.points; refers = may.refers }) held d.pointing d.counts

  pub get_field_one : (a n v i : ℕ) (t : LlType) → field_of (slice_get p.structs n) i ≡ Some t → slice_get types a ≡ Some t → SetsUnread p types a (op.GetField a n v i) → NoBlocksIn core.statics → MayTakeField p types core a n v i → Here (op.GetField a n v i)
  get_field_one a n v i t f typed unread apart may d =
      get_field_followed p based counting args types d.roots own ops rest e ex frames b core qcore g h at d.fits d.stands 0 d.room (structs_typed p ok) apart a n v i t f typed unread
      (λ block found set. (let m : MayStand p types core a (read block.fields (place (shape_at (shapes_of p.structs) n) i)) = may block found set in record { points = m.points; refers = m.refers })) d.pointing d.counts

  pub get_item_one : (a n v : ℕ) (x : COperand) (t : LlType) → items_of (slice_get p.structs n) ≡ Some t → slice_get types a ≡ Some t → SetsUnread p types a (op.GetItem a n v x) → NoBlocksIn core.statics → MayTakeItem p types core a n v → Here (op.GetItem a n v x)
  get_item_one a n v x t f typed unread apart may d =
      get_item_followed p based counting args types d.roots own ops rest e ex frames b core qcore g h at d.fits d.stands 0 d.room (structs_typed p ok) apart a n v x t f typed unread
      (λ block i found set. (let m : MayStand p types core a (read block.items i) = may block i found set in record { points = m.points; refers = m.refers })) d.pointing d.counts

  pub set_plain_one : (n v i : ℕ) (x : COperand) (t : LlType) → field_of (slice_get p.structs n) i ≡ Some t → KeepsNumber p core n v i x
      → field_referred (plan_of p) n i ≡ None → is_counted (plan_of p) n ≡ true → Here (op.SetField n v i x)
  set_plain_one n v i x t f keeps none cn d = set_plain_followed p based counting args types d.roots own ops rest e ex frames b core qcore g h at d.fits d.stands 0 d.room n v i x t f keeps none cn d.pointing d.counts

  pub set_reference_one : (n v i : ℕ) (x : COperand) (t : LlType) → field_of (slice_get p.structs n) i ≡ Some t → KeepsNumber p core n v i x
      → (m : ℕ) → field_referred (plan_of p) n i ≡ Some m → ((s : ℕ) → read core.vars v ≡ Static s → ⊥) → PointsTo p core.blocks core.statics m (operand core.vars x) → ((z : ℕ) → operand core.vars x ≡ Ptr z → 0 < count g.blocks z) → Here (op.SetField n v i x)
  set_reference_one n v i x t f keeps m refers in_block points alive d =
      set_reference_followed p based counting args types d.roots own ops rest e ex frames b core qcore g h at d.fits d.stands 0 d.room n v i x t f keeps leads m refers in_block points alive d.pointing d.counts

  pub new_one : (a m n to : ℕ) (s : LlStruct) → slice_get p.structs n ≡ Some s → is_counted (plan_of p) n ≡ true → var_referred (around_of (plan_of p) types) a ≡ Some to → begins_with (shapes_of p.structs) n to ≡ true → a < length core.vars
      → reference_given (plan_of p).counted (items_of (slice_get p.structs n)) ≡ None → Here (op.New a m n)
  new_one a m n to s is_s cn refers begins_m inside no_items d =
      made_followed p based counting args types d.roots own ops rest e ex frames b core qcore g h at d.fits d.stands (op.New a m n) a n 0 s is_s cn refl to refers begins_m refl inside (dead (around_of (plan_of p) types) (touched (op.New a m n)) ops e rest) _ _
      (no_rest p based counting args types d.roots own ops rest e ex frames b core qcore g h at d.fits d.stands (op.New a m n) a n 0 s is_s cn refl to refers begins_m refl inside no_items) refl
      (ap (λ k. Tells (Made k n ((shape_at (shapes_counted (plan_of p)) n).size + 0))
      (At (header (plan_of p) a n (dead (around_of (plan_of p) types) (touched (op.New a m n)) ops e rest)) ex frames (here qcore core.function b (at + 1) (slice_set core.vars a (Ptr k)) (h ++ Some (record { kind = n; fields = replicate (shape_at (shapes_counted (plan_of p)) n).size Unset; items = [] }) ∷ []) (memory g))))
      (d.stands.shown.size ∙ sym d.stands.near.size)) d.pointing d.counts
