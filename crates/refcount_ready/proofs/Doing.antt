-- What operations keep: blocks that are made are counted, no static comes to name a block, and a pointer that is set is no unset value.
use Rattle.std.proofs.Common.{◌≡◌, ◌≢◌, ◌⊎◌, inl, inr, ⊎_elim, ◌<◌, ℕ, zero, suc, ◌+◌, ◌-◌, ℤ, pos, negsuc, Bool, true, false, ◌||◌, ◌==◌, List, [], ◌∷◌, ◌++◌, length, replicate, Option, Some, None, refl, sym, ap, ◌∙◌, subst, arith}
use Rattle.std.specs.Prelude.{slice_get, slice_set, slice_index_or, cond, nat_lt, nat_le, Result, Ok, Err, if◌then◌else◌}
use Rattle.csub_tree.specs.State.{Value, Unset, Word, Byte, Flag, Fun, Null, Ptr, Static, Block, Core, After, Onward, Puts as PutsByte, Told, Over, Stuck}
use Rattle.csub_tree.specs.Layout.{shape_at, place}
use Rattle.csub_tree.specs.Operation.{Answer, is_unset, word_of, unary_of, binary_of}
use Rattle.csub_tree.specs.Checked.{gives_bool}
use Rattle.csub_tree.specs.Statement as st
use Rattle.csub_tree.specs.Statement.{read, operand, reached, block_at, on_block}
use Rattle.csub_tree.specs.declared.stuck.StuckReason.{StuckReason}
use Rattle.csub_tree.specs.declared.stuck.StuckReason.TheVariants.{Outside, Unset as IsUnset}
use Rattle.csub_tree.specs.declared.tree.COperand.{COperand}
use Rattle.csub_tree.specs.declared.tree.CUnary.{CUnary}
use Rattle.csub_tree.specs.declared.tree.CUnary.TheVariants as unary
use Rattle.ll_code.specs.Machine.{does, shapes_of}
use Rattle.ll_code.specs.Typed.{IsWellTyped, takes, given_takes, field_of, own_field, items_of, operation_ok, unary_gives, binary_gives}
use Rattle.ll_code.specs.declared.program.LlType.{LlType}
use Rattle.ll_code.specs.declared.program.LlType.TheVariants as type
use Rattle.ll_code.specs.declared.program.LlStruct.{LlStruct}
use Rattle.ll_code.specs.declared.program.LlOp.{LlOp}
use Rattle.ll_code.specs.declared.program.LlOp.TheVariants as op
use Rattle.ll_code.specs.declared.program.LlProgram.{LlProgram}
use Rattle.ll_held.proofs.Calming.{reached_there}
use Rattle.ll_held.proofs.Keeping.{same_number}
use Rattle.ll_laws.specs.Fits.{AllFit, CoreFits}
use Rattle.ll_laws.proofs.Cells.{new_at, old_at, is_new}
use Rattle.ll_laws.proofs.Operations.{set_at}
use Rattle.ll_laws.proofs.Values.{and_left, and_right, has_type_is, operand_fits}
use Rattle.ll_live.specs.Live.{set_by, sets}
use Rattle.ll_points.specs.Points.{AllLead, StaticsStand}
use Rattle.refcount_transform.specs.Plan.{Plan, plan_of, is_counted, made_by, reference_to, reference_given, base_at, fields_of, place_of, place_behind, field_referred, items_referred}
use Rattle.refcount_transform.specs.Changes.{around_of, var_referred}
use Rattle.refcount_laws.specs.Ready.{InBlock}
use Rattle.refcount_laws.proofs.Cells.{set_here, set_other}
use Rattle.refcount_laws.proofs.Numbers.{Based}
use Rattle.refcount_ready.specs.Along.{WritesBlocks}
use Rattle.refcount_ready.proofs.Pointers.{block_refers, var_refers, operand_leads}
use Rattle.refcount_ready.proofs.Keeps.{CoreKeeps}

-- ---- fields

-- what a field refers to, by its type
pub field_is : (p : LlProgram) (n k : ℕ) (t : LlType) → field_of (slice_get p.structs n) k ≡ Some t → field_referred (plan_of p) n k ≡ reference_to (plan_of p).counted t
field_is p n k t h = by (slice_get p.structs n) refl h
  where
    own : (s : LlStruct) (b : Option ℕ) (k : ℕ) → own_field s b k ≡ Some t → slice_get s.fields (place_behind b k) ≡ Some t
    own s None k h = h
    own s (Some m) zero h = absurd (cc)
    own s (Some m) (suc k) h = h

    by : (o : Option LlStruct) → slice_get p.structs n ≡ o → field_of o k ≡ Some t → field_referred (plan_of p) n k ≡ reference_to (plan_of p).counted t
    by None e h = absurd (cc)
    by (Some s) e h =
        ap (λ o. reference_given (plan_of p).counted (slice_get (Rattle.refcount_transform.specs.Plan.fields_given o) (place_behind (Rattle.ll_code.specs.Typed.base_of o) k))) e
        ∙ ap (reference_given (plan_of p).counted) (own s s.base k h)

pub items_is : (p : LlProgram) (n : ℕ) (t : LlType) → items_of (slice_get p.structs n) ≡ Some t → items_referred (plan_of p) n ≡ reference_to (plan_of p).counted t
items_is p n t h = ap (reference_given (plan_of p).counted) h

-- ---- after an operation

pub record Done (p : LlProgram) (types : List LlType) (o : LlOp) (old core : Core) : Type 0 where
  pub function : core.function ≡ old.function
  pub keeps : CoreKeeps p core
  pub same : (v : ℕ) → sets (set_by o) v ≡ false → read core.vars v ≡ read old.vars v
  pub new : (a n : ℕ) → set_by o ≡ Some a → slice_get types a ≡ Some (type.Ptr n) → is_unset (read core.vars a) ≡ false

abbrev pub AfterDone : LlProgram → List LlType → LlOp → Core → After → Type 0
AfterDone p types o old (Onward core) = Done p types o old core
AfterDone p types o old (PutsByte byte core) = Done p types o old core
AfterDone p types o old (Told event core) = Done p types o old core
AfterDone p types o old (Over outcome core) = Unit {0}
AfterDone p types o old (Stuck reason) = Unit {0}

-- what is known of the operation: what it makes is counted, it frees nothing, writes references into blocks, and sets the slots to what they refer to
pub record Known (p : LlProgram) (types : List LlType) (core : Core) (o : LlOp) : Type 0 where
  pub made : (n : ℕ) → made_by o ≡ Some n → is_counted (plan_of p) n ≡ true
  pub frees : (a : ℕ) → o ≡ op.Free a → ⊥
  pub writes : WritesBlocks p core o
  pub kind : (a b : ℕ) → o ≡ op.ExcSet a b → var_referred (around_of (plan_of p) types) a ≡ (plan_of p).slots.kind
  pub value : (a b : ℕ) → o ≡ op.ExcSet a b → var_referred (around_of (plan_of p) types) b ≡ (plan_of p).slots.value

differs : (a v : ℕ) → (a == v) ≡ false → a ≢ v
differs a v h e = let x : (a == v) ≡ true = ap (λ k. k == v) e ∙ same_number v in cc

type_inside : (types : List LlType) (a : ℕ) (t : LlType) → slice_get types a ≡ Some t → a < length types
type_inside [] a t e = absurd (cc)
type_inside (x ∷ types) zero t e = omega arith
type_inside (x ∷ types) (suc a) t e = omega (arith, type_inside types a t e)

get_set : {A : Type 0} (xs : List A) (a b : ℕ) (x y : A) → slice_get (slice_set xs a x) b ≡ Some y → (slice_get xs b ≡ Some y) ⊎ ((a ≡ b) × (x ≡ y))
get_set [] a b x y e = absurd (cc)
get_set (z ∷ xs) zero zero x y e = inr (refl, (cc))
get_set (z ∷ xs) zero (suc b) x y e = inl e
get_set (z ∷ xs) (suc a) zero x y e = inl e
get_set (z ∷ xs) (suc a) (suc b) x y e = ⊎_elim (λ q. inl q) (λ q. inr (ap suc q.0, q.1)) (get_set xs a b x y e)

no_pointer : (o : CUnary) (n : ℕ) → unary_gives o ≡ type.Ptr n → ⊥
no_pointer unary.Neg n e = cc
no_pointer unary.Inv n e = cc
no_pointer unary.Not n e = cc
no_pointer unary.C2S n e = cc
no_pointer unary.S2C n e = cc
no_pointer unary.B2S n e = cc

no_pointer_either : (b : Bool) (n : ℕ) → (if b then type.Bool else type.Signed) ≡ type.Ptr n → ⊥
no_pointer_either true n e = cc
no_pointer_either false n e = cc

module _ (p : LlProgram) (ok : IsWellTyped p) (based : Based p.structs) (types : List LlType) (core : Core) (fit : CoreFits p types core) (lead : AllLead p core.blocks core.statics types core.vars) (stand : StaticsStand p core.statics) (keeps : CoreKeeps p core) (o : LlOp) where
  abbrev After_ : After → Type 0
  After_ after = AfterDone p types o core after

  choice : (b : Bool) (x y : After) → After_ x → After_ y → After_ (cond b x y)
  choice true x y h k = h
  choice false x y h k = k

  with_option : {X : Type 0} (go : X → After) → ((x : X) → After_ (go x)) → (w : Option X) → After_ (st.on go w)
  with_option go h None = tt
  with_option go h (Some x) = h x

  -- ---- variables

  assigned_done : (a : ℕ) (value : Value) → set_by o ≡ Some a → ((n : ℕ) → slice_get types a ≡ Some (type.Ptr n) → is_unset value ≡ false) → After_ (st.assigned core a value)
  assigned_done a value e set = record {
    function = refl;
    keeps = keeps;
    same = λ v h. set_other core.vars a v value Unset (differs a v (ap (λ s. sets s v) (sym e) ∙ h));
    new = λ b n f t. let g : a ≡ b = (let z : Some a ≡ Some b = sym e ∙ f in cc) in
        let i : slice_get types a ≡ Some (type.Ptr n) = ap (slice_get types) g ∙ t in
        ap (λ b. is_unset (read (slice_set core.vars a value) b)) (sym g) ∙ ap is_unset (set_here core.vars a value Unset (let l : a < length types = type_inside types a (type.Ptr n) i in omega (arith, l, fit.vars.count))) ∙ set n i;
  }

  set_done : (a : ℕ) (value : Value) → set_by o ≡ Some a → After_ (st.set core a value)
  set_done a value e = by (is_unset value) refl
    where
      by : (b : Bool) → is_unset value ≡ b → After_ (cond b (Stuck IsUnset) (st.assigned core a value))
      by true h = tt
      by false h = assigned_done a value e (λ n t. h)

  answered_done : (a : ℕ) (answer : Answer) → set_by o ≡ Some a → ((n : ℕ) → slice_get types a ≡ Some (type.Ptr n) → ⊥) → After_ (st.answered core a answer)
  answered_done a (Ok value) e none = assigned_done a value e (λ n t. absurd (none n t))
  answered_done a (Err reason) e none = tt

  typed_other : (a : ℕ) (t : LlType) → slice_get types a ≡ Some t → ((n : ℕ) → t ≡ type.Ptr n → ⊥) → (n : ℕ) → slice_get types a ≡ Some (type.Ptr n) → ⊥
  typed_other a t e none n f = none n (let z : Some t ≡ Some (type.Ptr n) = sym e ∙ f in cc)

  -- the variables stay
  still : (new : Core) → set_by o ≡ None → new.function ≡ core.function → new.vars ≡ core.vars → CoreKeeps p new → Done p types o core new
  still new e function vars kept = record { function = function; keeps = kept; same = λ v h. ap (λ l. read l v) vars; new = λ a n f t. absurd (let z : None ≡ Some a = sym e ∙ f in cc) }

  in_range_done : (a : ℕ) (w : Option ℕ) → set_by o ≡ Some a → After_ (st.in_range core a w)
  in_range_done a None e = tt
  in_range_done a (Some n) e = assigned_done a (Word (pos n)) e (λ m t. refl)

  -- ---- blocks

  found_done : (go : Block → After) (n : ℕ) (pointer : Value) → ((block : Block) → block_at core pointer ≡ Some block → After_ (go block)) → After_ (on_block go (reached core (shapes_of p.structs) n pointer))
  found_done go n pointer h = by (reached core (shapes_of p.structs) n pointer) refl
    where
      by : (r : Result Block StuckReason) → reached core (shapes_of p.structs) n pointer ≡ r → After_ (on_block go r)
      by (Ok block) e = h block (reached_there core (shapes_of p.structs) n pointer block e)
      by (Err reason) e = tt

  -- another block of the same struct in the place of one, which names no block where that is a static
  stored_done : (pointer : Value) (old block : Block) → set_by o ≡ None → block_at core pointer ≡ Some old → block.kind ≡ old.kind
      → ((s : ℕ) → pointer ≡ Static s → ((j m : ℕ) → read block.fields j ≡ Ptr m → ⊥) × ((j m : ℕ) → read block.items j ≡ Ptr m → ⊥)) → After_ (st.stored core pointer block)
  stored_done (Ptr number) old block e there kind apart =
      still (record core { at = core.at + 1; blocks = slice_set core.blocks number (Some block) }) e refl refl
      (record { counted = λ b other h. each b other h (set_at core.blocks number b (Some block) None); apart = keeps.apart; set_type = keeps.set_type; set_value = keeps.set_value; slot_type = keeps.slot_type; slot_value = keeps.slot_value })
    where
      each : (b : ℕ) (other : Block) → slice_index_or (slice_set core.blocks number (Some block)) b None ≡ Some other
          → (slice_index_or (slice_set core.blocks number (Some block)) b None ≡ slice_index_or core.blocks b None) ⊎ ((number ≡ b) × (slice_index_or (slice_set core.blocks number (Some block)) b None ≡ Some block)) → is_counted (plan_of p) other.kind ≡ true
      each b other h (inl same) = keeps.counted b other (sym same ∙ h)
      each b other h (inr new) =
          let f : block ≡ other = (let z : Some block ≡ Some other = sym new.1 ∙ h in cc) in
          ap (λ b. is_counted (plan_of p) b.kind) (sym f) ∙ ap (is_counted (plan_of p)) kind ∙ keeps.counted number old there
  stored_done (Static g) old block e there kind apart =
      still (record core { at = core.at + 1; statics = slice_set core.statics g block }) e refl refl
      (record { counted = keeps.counted; apart = λ s other h. each s other (get_set core.statics g s block other h); set_type = keeps.set_type; set_value = keeps.set_value; slot_type = keeps.slot_type; slot_value = keeps.slot_value })
    where
      each : (s : ℕ) (other : Block) → (slice_get core.statics s ≡ Some other) ⊎ ((g ≡ s) × (block ≡ other)) → ((j m : ℕ) → read other.fields j ≡ Ptr m → ⊥) × ((j m : ℕ) → read other.items j ≡ Ptr m → ⊥)
      each s other (inl h) = keeps.apart s other h
      each s other (inr (h, f)) = subst (λ b. ((j m : ℕ) → read b.fields j ≡ Ptr m → ⊥) × ((j m : ℕ) → read b.items j ≡ Ptr m → ⊥)) f (apart g refl)
  stored_done Unset old block e there kind apart = tt
  stored_done (Word z) old block e there kind apart = tt
  stored_done (Byte z) old block e there kind apart = tt
  stored_done (Flag z) old block e there kind apart = tt
  stored_done (Fun z) old block e there kind apart = tt
  stored_done Null old block e there kind apart = tt

  -- a static that is there names no block
  static_apart : (pointer : Value) (old : Block) (s : ℕ) → block_at core pointer ≡ Some old → pointer ≡ Static s → ((j m : ℕ) → read old.fields j ≡ Ptr m → ⊥) × ((j m : ℕ) → read old.items j ≡ Ptr m → ⊥)
  static_apart pointer old s there e = keeps.apart s old (ap (block_at core) (sym e) ∙ there)

  -- nor does it once something else is written
  set_apart : (values : List Value) (k : ℕ) (value : Value) → ((j m : ℕ) → read values j ≡ Ptr m → ⊥) → ((m : ℕ) → value ≡ Ptr m → ⊥) → (j m : ℕ) → read (slice_set values k value) j ≡ Ptr m → ⊥
  set_apart values k value none other j m h = ⊎_elim (λ q. none j m (sym q ∙ h)) (λ q. other m (sym q.1 ∙ h)) (set_at values k j value Unset)

  -- what is written, if it is a block, is referred to by the type
  written_refers : (t : LlType) (x : COperand) → takes p types t x ≡ true → (m : ℕ) → operand core.vars x ≡ Ptr m → (n : ℕ) × (reference_to (plan_of p).counted t ≡ Some n)
  written_refers t x h m e =
      block_refers p core.blocks core.statics based keeps.counted t m (subst (Rattle.ll_laws.specs.Fits.Fits p (length core.blocks) t) e (operand_fits p (length core.blocks) types core.vars fit.vars t x h))
      (subst (Rattle.ll_points.specs.Points.LeadsBy p core.blocks core.statics t) e (operand_leads p ok core.blocks core.statics stand types core.vars lead t x h))

  set_field_done : (n v k : ℕ) (x : COperand) → set_by o ≡ None → (w : Option LlType) → field_of (slice_get p.structs n) k ≡ w → given_takes p types w x ≡ true → InBlock core v (field_referred (plan_of p) n k)
      → After_ (st.set_field core (shapes_of p.structs) n (read core.vars v) k (operand core.vars x))
  set_field_done n v k x e None f h writes = absurd (cc)
  set_field_done n v k x e (Some t) f h writes =
      choice (is_unset (operand core.vars x)) (Stuck IsUnset) _ tt
      (found_done _ n (read core.vars v) (λ old there. stored_done (read core.vars v) old (record old { fields = slice_set old.fields (place (shape_at (shapes_of p.structs) n) k) (operand core.vars x) }) e there refl
      (λ s is. (let w : ((j m : ℕ) → read old.fields j ≡ Ptr m → ⊥) × ((j m : ℕ) → read old.items j ≡ Ptr m → ⊥) = static_apart (read core.vars v) old s there is in
      (set_apart old.fields (place (shape_at (shapes_of p.structs) n) k) (operand core.vars x) w.0 (λ m q. (let r : (n : ℕ) × (reference_to (plan_of p).counted t ≡ Some n) = written_refers t x h m q in writes r.0 s (field_is p n k t f ∙ r.1) is)), w.1)))))

  put_item_done : (n v : ℕ) (x : COperand) (t : LlType) → set_by o ≡ None → items_of (slice_get p.structs n) ≡ Some t → takes p types t x ≡ true → InBlock core v (items_referred (plan_of p) n)
      → (old : Block) → block_at core (read core.vars v) ≡ Some old → (i : ℤ) → After_ (st.put_item core (read core.vars v) old i (operand core.vars x))
  put_item_done n v x t e f h writes old there (pos i) =
      choice (nat_lt i (length old.items)) _ (Stuck Outside)
      (stored_done (read core.vars v) old (record old { items = slice_set old.items i (operand core.vars x) }) e there refl
      (λ s is. (let w : ((j m : ℕ) → read old.fields j ≡ Ptr m → ⊥) × ((j m : ℕ) → read old.items j ≡ Ptr m → ⊥) = static_apart (read core.vars v) old s there is in
      (w.0, set_apart old.items i (operand core.vars x) w.1 (λ m q. (let r : (n : ℕ) × (reference_to (plan_of p).counted t ≡ Some n) = written_refers t x h m q in writes r.0 s (items_is p n t f ∙ r.1) is)))))) tt
  put_item_done n v x t e f h writes old there (negsuc i) = tt

  set_item_done : (n v : ℕ) (i x : COperand) → set_by o ≡ None → (w : Option LlType) → items_of (slice_get p.structs n) ≡ w → given_takes p types w x ≡ true → InBlock core v (items_referred (plan_of p) n)
      → After_ (st.set_item core (shapes_of p.structs) n (read core.vars v) (operand core.vars i) (operand core.vars x))
  set_item_done n v i x e None f h writes = absurd (cc)
  set_item_done n v i x e (Some t) f h writes =
      choice (is_unset (operand core.vars x)) (Stuck IsUnset) _ tt
      (with_option _ (λ j. found_done _ n (read core.vars v) (λ old there. put_item_done n v x t e f h writes old there j)) (word_of (operand core.vars i)))

  item_done : (a : ℕ) (items : List Value) (i : ℤ) → set_by o ≡ Some a → After_ (st.item core a items i)
  item_done a items (pos i) e = choice (nat_lt i (length items)) (st.set core a (read items i)) (Stuck Outside) (set_done a (read items i) e) tt
  item_done a items (negsuc i) e = tt

  -- ---- new blocks

  new_done : (a n items : ℕ) → set_by o ≡ Some a → is_counted (plan_of p) n ≡ true → After_ (st.new_block core (shapes_of p.structs) a n items)
  new_done a n items e c = record {
    function = refl;
    keeps = record { counted = λ b other h. each b other h (is_new b (length core.blocks)); apart = keeps.apart; set_type = keeps.set_type; set_value = keeps.set_value; slot_type = keeps.slot_type; slot_value = keeps.slot_value };
    same = λ v h. set_other core.vars a v (Ptr (length core.blocks)) Unset (differs a v (ap (λ s. sets s v) (sym e) ∙ h));
    new = λ b m f t. let g : a ≡ b = (let z : Some a ≡ Some b = sym e ∙ f in cc) in
        let i : slice_get types a ≡ Some (type.Ptr m) = ap (slice_get types) g ∙ t in
        ap (λ b. is_unset (read (slice_set core.vars a (Ptr (length core.blocks))) b)) (sym g)
        ∙ ap is_unset (set_here core.vars a (Ptr (length core.blocks)) Unset (let l : a < length types = type_inside types a (type.Ptr m) i in omega (arith, l, fit.vars.count)));
  }
    where
      block : Block
      block = record { kind = n; fields = replicate (shape_at (shapes_of p.structs) n).size Unset; items = replicate items Unset }

      each : (b : ℕ) (other : Block) → slice_index_or (core.blocks ++ Some block ∷ []) b None ≡ Some other → (b ≡ length core.blocks) ⊎ (b ≢ length core.blocks) → is_counted (plan_of p) other.kind ≡ true
      each b other h (inl q) =
          let f : block ≡ other = (let z : Some block ≡ Some other = sym (new_at core.blocks (Some block) None) ∙ ap (λ b. slice_index_or (core.blocks ++ Some block ∷ []) b None) (sym q) ∙ h in cc) in
          ap (λ b. is_counted (plan_of p) b.kind) (sym f) ∙ c
      each b other h (inr q) = keeps.counted b other (sym (old_at core.blocks (Some block) None b q) ∙ h)

  new_items_done : (a n : ℕ) (i : ℤ) → set_by o ≡ Some a → is_counted (plan_of p) n ≡ true → After_ (st.new_items core (shapes_of p.structs) a n i)
  new_items_done a n (pos items) e c = new_done a n items e c
  new_items_done a n (negsuc items) e c = tt

  -- ---- steps, output and slots

  pay_done : (i : ℤ) → set_by o ≡ None → After_ (st.pay_steps core i)
  pay_done (pos cost) e = choice (nat_le cost core.steps) (Onward (record core { at = core.at + 1; steps = core.steps - cost })) (Over _ core) (still (record core { at = core.at + 1; steps = core.steps - cost }) e refl refl keeps) tt
  pay_done (negsuc cost) e = tt

  put_done : (i : ℤ) → set_by o ≡ None → After_ (st.put_word core i)
  put_done (pos byte) e = choice (nat_lt byte 256) (PutsByte byte (record core { at = core.at + 1 })) _ (still (record core { at = core.at + 1 }) e refl refl keeps) tt
  put_done (negsuc n) e = tt

  exc_set_done : (a b : ℕ) → set_by o ≡ None → var_referred (around_of (plan_of p) types) a ≡ (plan_of p).slots.kind → var_referred (around_of (plan_of p) types) b ≡ (plan_of p).slots.value
      → After_ (st.exc_set core (read core.vars a) (read core.vars b))
  exc_set_done a b e kind value = by (is_unset (read core.vars a)) (is_unset (read core.vars b)) refl refl
    where
      refers : (v : ℕ) (slot : Option ℕ) → var_referred (around_of (plan_of p) types) v ≡ slot → (m : ℕ) → read core.vars v ≡ Ptr m → (n : ℕ) × (slot ≡ Some n)
      refers v slot is m h = let w : (n : ℕ) × (var_referred (around_of (plan_of p) types) v ≡ Some n) = var_refers p based core.blocks core.statics keeps.counted types core.vars fit.vars lead v m h in (w.0, sym is ∙ w.1)

      by : (x y : Bool) → is_unset (read core.vars a) ≡ x → is_unset (read core.vars b) ≡ y → After_ (cond (x || y) (Stuck IsUnset) (Onward (record core { at = core.at + 1; exc_type = read core.vars a; exc_value = read core.vars b })))
      by true y f g = tt
      by false true f g = tt
      by false false f g =
          still (record core { at = core.at + 1; exc_type = read core.vars a; exc_value = read core.vars b }) e refl refl
          (record { counted = keeps.counted; apart = keeps.apart; set_type = f; set_value = g; slot_type = refers a (plan_of p).slots.kind kind; slot_value = refers b (plan_of p).slots.value value })

  exc_clear_done : set_by o ≡ None → After_ (st.exc_clear core)
  exc_clear_done e =
      still (record core { at = core.at + 1; exc_type = Null; exc_value = Null }) e refl refl
      (record { counted = keeps.counted; apart = keeps.apart; set_type = refl; set_value = refl; slot_type = λ m h. absurd (cc); slot_value = λ m h. absurd (cc) })

module _ (p : LlProgram) (ok : IsWellTyped p) (based : Based p.structs) (types : List LlType) (core : Core) (fit : CoreFits p types core) (lead : AllLead p core.blocks core.statics types core.vars) (stand : StaticsStand p core.statics) (keeps : CoreKeeps p core) (args : List (List ℕ)) where
  abbrev Whole : LlOp → Type 0
  Whole o = operation_ok p types o ≡ true → Known p types core o → AfterDone p types o core (does p args core o)

  pub does_done : (o : LlOp) → Whole o
  does_done (op.Set a x) h known = set_done p ok based types core fit lead stand keeps (op.Set a x) a (operand core.vars x) refl
  does_done (op.Unary a o x) h known =
      answered_done p ok based types core fit lead stand keeps (op.Unary a o x) a (unary_of o (operand core.vars x)) refl
      (typed_other p ok based types core fit lead stand keeps (op.Unary a o x) a (unary_gives o) (has_type_is (unary_gives o) (slice_get types a) (and_left _ _ h)) (no_pointer o))
  does_done (op.Binary a o x y) h known =
      answered_done p ok based types core fit lead stand keeps (op.Binary a o x y) a (binary_of o (operand core.vars x) (operand core.vars y)) refl
      (typed_other p ok based types core fit lead stand keeps (op.Binary a o x y) a (binary_gives o) (has_type_is (binary_gives o) (slice_get types a) (and_left _ _ h)) (no_pointer_either (gives_bool o)))
  does_done (op.GetField a n b k) h known =
      found_done p ok based types core fit lead stand keeps (op.GetField a n b k) _ n (read core.vars b) (λ block there. set_done p ok based types core fit lead stand keeps (op.GetField a n b k) a (read block.fields (place (shape_at (shapes_of p.structs) n) k)) refl)
  does_done (op.SetField n b k x) h known = set_field_done p ok based types core fit lead stand keeps (op.SetField n b k x) n b k x refl (field_of (slice_get p.structs n) k) refl (and_right _ _ h) known.writes
  does_done (op.GetItem a n b i) h known =
      with_option p ok based types core fit lead stand keeps (op.GetItem a n b i) _
      (λ j. found_done p ok based types core fit lead stand keeps (op.GetItem a n b i) _ n (read core.vars b) (λ block there. item_done p ok based types core fit lead stand keeps (op.GetItem a n b i) a block.items j refl)) (word_of (operand core.vars i))
  does_done (op.SetItem n b i x) h known = set_item_done p ok based types core fit lead stand keeps (op.SetItem n b i x) n b i x refl (items_of (slice_get p.structs n)) refl (and_right _ _ h) known.writes
  does_done (op.New a m n) h known = new_done p ok based types core fit lead stand keeps (op.New a m n) a n 0 refl (known.made n refl)
  does_done (op.NewArray a m n x) h known =
      with_option p ok based types core fit lead stand keeps (op.NewArray a m n x) _ (λ i. new_items_done p ok based types core fit lead stand keeps (op.NewArray a m n x) a n i refl (known.made n refl)) (word_of (operand core.vars x))
  does_done (op.Free a) h known = absurd (known.frees a refl)
  does_done (op.Step x) h known = with_option p ok based types core fit lead stand keeps (op.Step x) _ (λ i. pay_done p ok based types core fit lead stand keeps (op.Step x) i refl) (word_of (operand core.vars x))
  does_done (op.ExcType a n) h known = assigned_done p ok based types core fit lead stand keeps (op.ExcType a n) a core.exc_type refl (λ m t. keeps.set_type)
  does_done (op.ExcValue a n) h known = assigned_done p ok based types core fit lead stand keeps (op.ExcValue a n) a core.exc_value refl (λ m t. keeps.set_value)
  does_done (op.ExcSet a b) h known = exc_set_done p ok based types core fit lead stand keeps (op.ExcSet a b) a b refl (known.kind a b refl) (known.value a b refl)
  does_done op.ExcClear h known = exc_clear_done p ok based types core fit lead stand keeps op.ExcClear refl
  does_done (op.Argc a) h known = assigned_done p ok based types core fit lead stand keeps (op.Argc a) a (Word (pos (length args))) refl (λ m t. refl)
  does_done (op.ArgLen a x) h known = with_option p ok based types core fit lead stand keeps (op.ArgLen a x) _ (λ i. in_range_done p ok based types core fit lead stand keeps (op.ArgLen a x) a _ refl) (word_of (operand core.vars x))
  does_done (op.Arg a x y) h known =
      with_option p ok based types core fit lead stand keeps (op.Arg a x y) _
      (λ i. with_option p ok based types core fit lead stand keeps (op.Arg a x y) _ (λ j. in_range_done p ok based types core fit lead stand keeps (op.Arg a x y) a _ refl) (word_of (operand core.vars y))) (word_of (operand core.vars x))
  does_done (op.Put x) h known = with_option p ok based types core fit lead stand keeps (op.Put x) _ (λ i. put_done p ok based types core fit lead stand keeps (op.Put x) i refl) (word_of (operand core.vars x))
  does_done (op.Call into f xs) h known = tt
  does_done (op.CallFn into result params b xs) h known = tt
  does_done (op.Raise a) h known = tt
