-- Values that fit and lead where their type says point there once they are set; and what a value refers to is counted.
use Rattle.std.proofs.Common.{◌≡◌, ◌<◌, ℕ, zero, suc, Bool, true, false, List, [], ◌∷◌, length, Option, Some, None, refl, sym, ap, ◌∙◌, subst, arith}
use Rattle.std.specs.Prelude.{slice_get, slice_index_or}
use Rattle.csub_tree.specs.State.{Value, Unset, Word, Byte, Flag, Fun, Null, Ptr, Static, Block}
use Rattle.csub_tree.specs.Layout.{begins_with}
use Rattle.csub_tree.specs.Operation.{is_unset}
use Rattle.csub_tree.specs.Statement.{read, operand}
use Rattle.csub_tree.specs.declared.tree.CConst.{CConst}
use Rattle.csub_tree.specs.declared.tree.CConst.TheVariants as constant
use Rattle.csub_tree.specs.declared.tree.COperand.{COperand}
use Rattle.csub_tree.specs.declared.tree.COperand.TheVariants.{Var, Const}
use Rattle.csub_tree.specs.declared.tree.CStatic.{CStatic}
use Rattle.ll_code.specs.Machine.{shapes_of}
use Rattle.ll_code.specs.Typed.{IsWellTyped, takes, is_of_any, is_cast}
use Rattle.csub_tree.specs.Checked.{kind_of}
use Rattle.ll_code.specs.declared.program.LlType.{LlType}
use Rattle.ll_code.specs.declared.program.LlType.TheVariants as type
use Rattle.ll_code.specs.declared.program.LlProgram.{LlProgram}
use Rattle.ll_laws.specs.Fits.{Fits, AllFit}
use Rattle.ll_laws.proofs.Values.{and_left, and_right, is_same, has_type_is, operand_fits}
use Rattle.ll_points.specs.Points.{Leads, LeadsBy, AllLead, StaticsStand}
use Rattle.refcount_transform.specs.Plan.{plan_of, is_counted, where_marked, reference_to, reference_given}
use Rattle.refcount_transform.specs.Changes.{around_of, var_referred}
use Rattle.refcount_laws.specs.Matches.{PointsTo, Pointing}
use Rattle.refcount_laws.proofs.Numbers.{Based}
use Rattle.refcount_laws.proofs.Places.{counted_base, earlier}
use Rattle.refcount_laws.proofs.Shapes.{Begins, Itself, ByBase, begins_by}
use Rattle.refcount_laws.proofs.Standing.{StructAt}
use Rattle.refcount_typed.proofs.Fields.{reference_is, given_is}
use Rattle.ll_points.proofs.Shapes.{begins_so}

-- ---- what is counted

module _ (p : LlProgram) (based : Based p.structs) where
  begun : (f k n : ℕ) → k < f → is_counted (plan_of p) k ≡ true → begins_with (shapes_of p.structs) k n ≡ true → is_counted (plan_of p) n ≡ true
  begun zero k n lt c h = absurd (omega (arith, lt))
  begun (suc f) k n lt c h = by (λ m l d x. begun f m n l d x) (begins_by p.structs based k n h)
    where
      by : ((m : ℕ) → m < f → is_counted (plan_of p) m ≡ true → begins_with (shapes_of p.structs) m n ≡ true → is_counted (plan_of p) n ≡ true) → Begins p.structs based k n → is_counted (plan_of p) n ≡ true
      by go (Itself s e q) = subst (λ n. is_counted (plan_of p) n ≡ true) (sym q) c
      by go (ByBase m b l x) =
          let w : StructAt p.structs m = earlier p.structs k m b.s b.is l in
          go m (omega (arith, l, lt)) (sym (counted_base p based k m b w.s w.is) ∙ c) x

  -- what a struct that is counted begins with is counted
  pub begins_counted : (k n : ℕ) → is_counted (plan_of p) k ≡ true → begins_with (shapes_of p.structs) k n ≡ true → is_counted (plan_of p) n ≡ true
  begins_counted k n c h = begun (suc k) k n (omega arith) c h

pub counted_refers : (p : LlProgram) (n : ℕ) → is_counted (plan_of p) n ≡ true → reference_to (plan_of p).counted (type.Ptr n) ≡ Some n
counted_refers p n c = ap (where_marked n) c

-- ---- values

-- a value of this type, which is set where the type is that of a pointer
pub record Sound (p : LlProgram) (blocks : List (Option Block)) (statics : List Block) (t : LlType) (value : Value) : Type 0 where
  pub fits : Fits p (length blocks) t value
  pub leads : LeadsBy p blocks statics t value
  pub set : (n : ℕ) → t ≡ type.Ptr n → is_unset value ≡ false

-- blocks that are there are counted
abbrev pub AreCounted : LlProgram → List (Option Block) → Type 0
AreCounted p blocks = (b : ℕ) (block : Block) → slice_index_or blocks b None ≡ Some block → is_counted (plan_of p) block.kind ≡ true

module _ (p : LlProgram) (blocks : List (Option Block)) (statics : List Block) where
  pub points : (n : ℕ) (value : Value) → Fits p (length blocks) (type.Ptr n) value → Leads p blocks statics n value → is_unset value ≡ false → PointsTo p blocks statics n value
  points n Unset fit lead set = absurd (cc)
  points n (Word z) fit lead set = absurd fit
  points n (Byte b) fit lead set = absurd fit
  points n (Flag b) fit lead set = absurd fit
  points n (Fun f) fit lead set = absurd fit
  points n Null fit lead set = tt
  points n (Ptr b) fit lead set = lead
  points n (Static s) fit lead set = lead

  -- where the type refers to something that is counted, the value points there
  pub sound_points : (t : LlType) (value : Value) → Sound p blocks statics t value → (n : ℕ) → reference_to (plan_of p).counted t ≡ Some n → PointsTo p blocks statics n value
  sound_points t value sound n r =
      let e : t ≡ type.Ptr n = reference_is (plan_of p).counted t n r in
      points n value (subst (λ t. Fits p (length blocks) t value) e sound.fits) (subst (λ t. LeadsBy p blocks statics t value) e sound.leads) (sound.set n e)

  -- a block is referred to by types that refer to something that is counted
  pub block_refers : Based p.structs → AreCounted p blocks → (t : LlType) (m : ℕ) → Fits p (length blocks) t (Ptr m) → LeadsBy p blocks statics t (Ptr m) → (n : ℕ) × (reference_to (plan_of p).counted t ≡ Some n)
  block_refers based counted type.Signed m fit lead = absurd fit
  block_refers based counted type.Char m fit lead = absurd fit
  block_refers based counted type.Bool m fit lead = absurd fit
  block_refers based counted type.Void m fit lead = absurd fit
  block_refers based counted type.Fn m fit lead = absurd fit
  block_refers based counted (type.Ptr n) m fit (block, e, h) = (n, counted_refers p n (begins_counted p based block.kind n (counted m block e) h))

-- ---- variables

pub read_past : (vars : List Value) (v : ℕ) → length vars ≡ 0 → read vars v ≡ Unset
read_past [] v e = refl
read_past (x ∷ vars) v e = absurd (omega (arith, e))

-- a variable that holds something has a type
pub typed_at : (types : List LlType) (vars : List Value) (v : ℕ) → length vars ≡ length types → is_unset (read vars v) ≡ false → (t : LlType) × (slice_get types v ≡ Some t)
typed_at [] [] v same set = absurd (cc)
typed_at [] (x ∷ vars) v same set = absurd (omega (arith, same))
typed_at (t ∷ types) [] v same set = absurd (omega (arith, same))
typed_at (t ∷ types) (x ∷ vars) zero same set = (t, refl)
typed_at (t ∷ types) (x ∷ vars) (suc v) same set = typed_at types vars v (omega (arith, same)) set

module _ (p : LlProgram) (based : Based p.structs) (blocks : List (Option Block)) (statics : List Block) (counted : AreCounted p blocks) (types : List LlType) (vars : List Value) (fit : AllFit p (length blocks) types vars) (lead : AllLead p blocks statics types vars) where
  pub var_points : (v n : ℕ) → is_unset (read vars v) ≡ false → var_referred (around_of (plan_of p) types) v ≡ Some n → PointsTo p blocks statics n (read vars v)
  var_points v n set r =
      let e : slice_get types v ≡ Some (type.Ptr n) = given_is (plan_of p).counted (slice_get types v) n r in
      points p blocks statics n (read vars v) (fit.at v (type.Ptr n) e) (lead v (type.Ptr n) e) set

  pub var_refers : (v m : ℕ) → read vars v ≡ Ptr m → (n : ℕ) × (var_referred (around_of (plan_of p) types) v ≡ Some n)
  var_refers v m e =
      let w : (t : LlType) × (slice_get types v ≡ Some t) = typed_at types vars v fit.count (ap is_unset e) in
      let r : (n : ℕ) × (reference_to (plan_of p).counted w.0 ≡ Some n) = block_refers p blocks statics based counted w.0 m (subst (Fits p (length blocks) w.0) e (fit.at v w.0 w.1)) (subst (LeadsBy p blocks statics w.0) e (lead v w.0 w.1)) in
      (r.0, ap (reference_given (plan_of p).counted) w.1 ∙ r.1)

  -- variables that are used and are pointers are set
  abbrev pub AreSet : (ℕ → Bool) → Type 0
  AreSet uses = (v n : ℕ) → uses v ≡ true → slice_get types v ≡ Some (type.Ptr n) → is_unset (read vars v) ≡ false

  pub pointing : (uses : ℕ → Bool) → AreSet uses → Pointing p types blocks statics uses vars
  pointing uses set = record {
    at = λ v n u r. var_points v n (set v n u (given_is (plan_of p).counted (slice_get types v) n r)) r;
    refers = λ v m u e. var_refers v m e;
  }

-- ---- operands

module _ (p : LlProgram) (structs : IsWellTyped p) (blocks : List (Option Block)) (statics : List Block) (kinds : StaticsStand p statics) where
  static_leads : (n g : ℕ) → is_of_any p (type.Ptr n) (constant.Static n g) ≡ true → Leads p blocks statics n (Static g)
  static_leads n g h = by (slice_get p.statics g) refl (and_right _ _ h)
    where
      by : (o : Option CStatic) → slice_get p.statics g ≡ o → is_cast p.structs (kind_of o) n ≡ true → Leads p blocks statics n (Static g)
      by None e c = absurd (cc)
      by (Some static) e c =
          let w : (block : Block) × (slice_get statics g ≡ Some block) × (block.kind ≡ static.kind) = kinds g static e in
          (w.0, w.1, ap (λ k. begins_with (shapes_of p.structs) k n) w.2 ∙ begins_so p.structs (and_left _ _ (and_left _ _ (and_left _ _ structs))) static.kind n c)

  constant_leads : (t : LlType) (c : CConst) → is_of_any p t c ≡ true → LeadsBy p blocks statics t (Rattle.csub_tree.specs.Layout.constant c)
  constant_leads (type.Ptr n) (constant.Static s g) h =
      let e : n ≡ s = is_same n s (and_left _ _ (and_left _ _ h)) in
      static_leads n g (subst (λ s. is_of_any p (type.Ptr n) (constant.Static s g) ≡ true) (sym e) h)
  constant_leads (type.Ptr n) (constant.Word z) h = tt
  constant_leads (type.Ptr n) (constant.Char z) h = tt
  constant_leads (type.Ptr n) (constant.Bool z) h = tt
  constant_leads (type.Ptr n) constant.Null h = tt
  constant_leads (type.Ptr n) (constant.Fun z) h = tt
  constant_leads type.Signed c h = tt
  constant_leads type.Char c h = tt
  constant_leads type.Bool c h = tt
  constant_leads type.Void c h = tt
  constant_leads type.Fn c h = tt

  pub constant_set : (c : CConst) → is_unset (Rattle.csub_tree.specs.Layout.constant c) ≡ false
  constant_set (constant.Word z) = refl
  constant_set (constant.Char z) = refl
  constant_set (constant.Bool z) = refl
  constant_set constant.Null = refl
  constant_set (constant.Static s g) = refl
  constant_set (constant.Fun z) = refl

  pub operand_leads : (types : List LlType) (vars : List Value) → AllLead p blocks statics types vars → (t : LlType) (x : COperand) → takes p types t x ≡ true → LeadsBy p blocks statics t (operand vars x)
  operand_leads types vars lead t (Var v) h = lead v t (has_type_is t (slice_get types v) h)
  operand_leads types vars lead t (Const c) h = constant_leads t c h

  module _ (types : List LlType) (vars : List Value) (fit : AllFit p (length blocks) types vars) (lead : AllLead p blocks statics types vars) where
    -- an operand of a type is sound, if it is set
    pub operand_sound : (t : LlType) (x : COperand) → takes p types t x ≡ true → ((n : ℕ) → t ≡ type.Ptr n → is_unset (operand vars x) ≡ false) → Sound p blocks statics t (operand vars x)
    operand_sound t x h set = record { fits = operand_fits p (length blocks) types vars fit t x h; leads = operand_leads types vars lead t x h; set = set }
