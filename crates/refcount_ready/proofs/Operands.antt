-- Operands, fields and items lead where they should, and may be taken by the variables that they are given to.
use Rattle.std.proofs.Common.{◌≡◌, ℕ, Bool, true, false, ◌||◌, ◌==◌, List, [], ◌∷◌, ◌++◌, length, Some, refl, sym, ap, ◌∙◌, subst}
use Rattle.std.specs.Prelude.{slice_get, Ok}
use Rattle.csub_tree.specs.State.{Value, Ptr, Static, Block, Core}
use Rattle.csub_tree.specs.Layout.{shape_at, place, begins_with}
use Rattle.csub_tree.specs.Operation.{is_unset}
use Rattle.csub_tree.specs.Statement.{read, operand, reached, block_at}
use Rattle.csub_tree.specs.declared.tree.CConst.TheVariants as constant
use Rattle.csub_tree.specs.declared.tree.COperand.{COperand}
use Rattle.csub_tree.specs.declared.tree.COperand.TheVariants.{Var, Const}
use Rattle.ll_code.specs.Machine.{shapes_of}
use Rattle.ll_code.specs.Typed.{IsWellTyped, takes, field_of, items_of}
use Rattle.ll_code.specs.declared.program.LlType.{LlType}
use Rattle.ll_code.specs.declared.program.LlType.TheVariants as type
use Rattle.ll_code.specs.declared.program.LlProgram.{LlProgram}
use Rattle.ll_held.proofs.Calming.{reached_there}
use Rattle.ll_held.proofs.Keeping.{or_left, or_right, same_number}
use Rattle.ll_laws.specs.Fits.{Fits, BlockFits, CoreFits}
use Rattle.ll_laws.specs.Fields.{fields_of, fields_from}
use Rattle.ll_laws.proofs.Cells.{Laid, all_laid}
use Rattle.ll_laws.proofs.Values.{and_left, is_same, has_type_is}
use Rattle.ll_live.specs.Live.{among, variables_of}
use Rattle.ll_points.specs.Agrees.{Slots}
use Rattle.ll_points.specs.Points.{AllLead, LeadsBy, BlockLeads, MemoryLeads}
use Rattle.refcount_transform.specs.Plan.{plan_of, root_of, reference_to, reference_given}
use Rattle.refcount_transform.specs.Changes.{around_of, operand_referred}
use Rattle.refcount_laws.specs.Before.{MayStand}
use Rattle.refcount_laws.specs.Matches.{PointsTo}
use Rattle.refcount_laws.proofs.Getting.{reached_begins}
use Rattle.refcount_laws.proofs.Numbers.{Based}
use Rattle.refcount_ready.proofs.Pointers.{Sound, AreCounted, sound_points, block_refers, operand_sound, constant_set}

-- ---- variables of operands

pub among_first : (v : ℕ) (xs ys : List ℕ) → among v xs ≡ true → among v (xs ++ ys) ≡ true
among_first v [] ys h = absurd (cc)
among_first v (x ∷ xs) ys h = by (x == v) h (λ h. among_first v xs ys h)
  where
    by : (b : Bool) → (b || among v xs) ≡ true → (among v xs ≡ true → among v (xs ++ ys) ≡ true) → (b || among v (xs ++ ys)) ≡ true
    by true h go = refl
    by false h go = go h

pub among_second : (v : ℕ) (xs ys : List ℕ) → among v ys ≡ true → among v (xs ++ ys) ≡ true
among_second v [] ys h = h
among_second v (x ∷ xs) ys h = or_right (x == v) (among v (xs ++ ys)) (among_second v xs ys h)

pub among_one : (v : ℕ) → among v (v ∷ []) ≡ true
among_one v = or_left (v == v) false (same_number v)

module _ (p : LlProgram) (ok : IsWellTyped p) (based : Based p.structs) (slots : Slots) (types : List LlType) (core : Core) (fit : CoreFits p types core) (lead : AllLead p core.blocks core.statics types core.vars) (memory : MemoryLeads p slots core) (counted : AreCounted p core.blocks) where
  abbrev Sound_ : LlType → Value → Type 0
  Sound_ t value = Sound p core.blocks core.statics t value

  -- ---- what a variable may take

  pub may_stand : (a : ℕ) (t : LlType) (value : Value) → slice_get types a ≡ Some t → Sound p core.blocks core.statics t value → MayStand p types core a value
  may_stand a t value e sound = record {
    points = λ n r. sound_points p core.blocks core.statics t value sound n (sym (ap (reference_given (plan_of p).counted) e) ∙ r);
    refers = λ m is. (let w : (n : ℕ) × (reference_to (plan_of p).counted t ≡ Some n) = block_refers p core.blocks core.statics based counted t m (subst (Fits p (length core.blocks) t) is sound.fits) (subst (LeadsBy p core.blocks core.statics t) is sound.leads) in
        (w.0, ap (reference_given (plan_of p).counted) e ∙ w.1));
  }

  -- ---- operands

  -- each variable that is read and is a pointer is set
  abbrev pub ReadsSet : List ℕ → Type 0
  ReadsSet read_ = (v n : ℕ) → among v read_ ≡ true → slice_get types v ≡ Some (type.Ptr n) → is_unset (read core.vars v) ≡ false

  pub operand_is_sound : (t : LlType) (x : COperand) → takes p types t x ≡ true → ReadsSet (variables_of x) → Sound p core.blocks core.statics t (operand core.vars x)
  operand_is_sound t x h set = operand_sound p ok core.blocks core.statics memory.stand types core.vars fit.vars lead t x h (by x h set)
    where
      by : (x : COperand) → takes p types t x ≡ true → ReadsSet (variables_of x) → (n : ℕ) → t ≡ type.Ptr n → is_unset (operand core.vars x) ≡ false
      by (Var v) h set n e = set v n (among_one v) (has_type_is t (slice_get types v) h ∙ ap Some e)
      by (Const c) h set n e = constant_set p ok core.blocks core.statics memory.stand c

  -- what an operand refers to, its type does
  pub type_refers : (t : LlType) (x : COperand) → takes p types t x ≡ true → (n : ℕ) → operand_referred (around_of (plan_of p) types) x ≡ Some n → reference_to (plan_of p).counted t ≡ Some n
  type_refers t (Var v) h n r = sym (ap (reference_given (plan_of p).counted) (has_type_is t (slice_get types v) h)) ∙ r
  type_refers (type.Ptr k) (Const (constant.Static s g)) h n r = ap (λ k. reference_to (plan_of p).counted (type.Ptr k)) (is_same k s (and_left _ _ (and_left _ _ h))) ∙ r
  type_refers type.Signed (Const (constant.Static s g)) h n r = absurd (cc)
  type_refers type.Char (Const (constant.Static s g)) h n r = absurd (cc)
  type_refers type.Bool (Const (constant.Static s g)) h n r = absurd (cc)
  type_refers type.Void (Const (constant.Static s g)) h n r = absurd (cc)
  type_refers type.Fn (Const (constant.Static s g)) h n r = absurd (cc)
  type_refers t (Const (constant.Word z)) h n r = absurd (cc)
  type_refers t (Const (constant.Char z)) h n r = absurd (cc)
  type_refers t (Const (constant.Bool z)) h n r = absurd (cc)
  type_refers t (Const constant.Null) h n r = absurd (cc)
  type_refers t (Const (constant.Fun z)) h n r = absurd (cc)

  -- an operand that is a reference points there, and to a root where its type does
  pub operand_points : (t : LlType) (x : COperand) → takes p types t x ≡ true → ReadsSet (variables_of x) → ((n : ℕ) → reference_to (plan_of p).counted t ≡ Some n → root_of (plan_of p) n ≡ n)
      → (n : ℕ) → operand_referred (around_of (plan_of p) types) x ≡ Some n → (root_of (plan_of p) n ≡ n) × PointsTo p core.blocks core.statics n (operand core.vars x)
  operand_points t x h set roots n r =
      let e : reference_to (plan_of p).counted t ≡ Some n = type_refers t x h n r in
      (roots n e, sound_points p core.blocks core.statics t (operand core.vars x) (operand_is_sound t x h set) n e)

  -- ---- fields and items

  abbrev laid : Laid p.structs (shapes_of p.structs) (Rattle.ll_laws.specs.Fields.fields_from [] p.structs)
  laid = all_laid p.structs (and_left _ _ (and_left _ _ (and_left _ _ ok)))

  block_fits : (pointer : Value) (block : Block) → block_at core pointer ≡ Some block → BlockFits p (length core.blocks) block
  block_fits (Ptr number) block e = fit.memory.each number block e
  block_fits (Static g) block e = fit.memory.each_static g block e
  block_fits other block e = absurd (cc)

  block_leads : (pointer : Value) (block : Block) → block_at core pointer ≡ Some block → BlockLeads p core.blocks core.statics block
  block_leads (Ptr number) block e = memory.each number block e
  block_leads (Static g) block e = memory.each_static g block e
  block_leads other block e = absurd (cc)

  pub field_sound : (n k : ℕ) (pointer : Value) (block : Block) (t : LlType) → field_of (slice_get p.structs n) k ≡ Some t → reached core (shapes_of p.structs) n pointer ≡ Ok block → is_unset (read block.fields (place (shape_at (shapes_of p.structs) n) k)) ≡ false
      → Sound p core.blocks core.statics t (read block.fields (place (shape_at (shapes_of p.structs) n) k))
  field_sound n k pointer block t f found set =
      let there : block_at core pointer ≡ Some block = reached_there core (shapes_of p.structs) n pointer block found in
      let begins : begins_with (shapes_of p.structs) block.kind n ≡ true = reached_begins p core n pointer block found in
      let typed : slice_get (fields_of p.structs block.kind) (place (shape_at (shapes_of p.structs) n) k) ≡ Some t = laid.field block.kind n k t begins f in
      record {
        fits = (block_fits pointer block there).fields.at (place (shape_at (shapes_of p.structs) n) k) t typed;
        leads = (block_leads pointer block there).fields (place (shape_at (shapes_of p.structs) n) k) t typed;
        set = λ m e. set;
      }

  pub item_sound : (n i : ℕ) (pointer : Value) (block : Block) (t : LlType) → items_of (slice_get p.structs n) ≡ Some t → reached core (shapes_of p.structs) n pointer ≡ Ok block → is_unset (read block.items i) ≡ false → Sound p core.blocks core.statics t (read block.items i)
  item_sound n i pointer block t f found set =
      let there : block_at core pointer ≡ Some block = reached_there core (shapes_of p.structs) n pointer block found in
      let begins : begins_with (shapes_of p.structs) block.kind n ≡ true = reached_begins p core n pointer block found in
      let typed : items_of (slice_get p.structs block.kind) ≡ Some t = ap (λ n. items_of (slice_get p.structs n)) (sym (laid.items block.kind n t begins f)) ∙ f in
      record { fits = (block_fits pointer block there).items i t typed; leads = (block_leads pointer block there).items i t typed; set = λ m e. set }
