-- Whether two instances are the same, and whether one is `None`.
use Rattle.std.proofs.Common.{◌≡◌, ◌<◌, ◌≤◌, ℕ, ◌+◌, ◌==◌, ◌⊎◌, inl, inr, Bool, true, false, List, [], ◌∷◌, ◌++◌, length, Some, Ok, refl, sym, ap, ◌∙◌, subst, arith, append_assoc, length-append}
use Rattle.std.specs.Prelude.{slice_get, not, if◌then◌else◌}
use Rattle.std.proofs.lemmas.Bool.{cases_eq}
use Rattle.std.proofs.lemmas.Bool.Decides.{nat_tests}
use Rattle.ann_element.specs.declared.element.Element.TheVariants as element
use Rattle.csub_tree.specs.State.{Value, Flag, Null, Ptr, Static, Core}
use Rattle.csub_tree.specs.Operation.{compared, unary_of}
use Rattle.csub_tree.specs.Statement.{operand}
use Rattle.csub_tree.specs.declared.tree.CBinary.TheVariants as binary
use Rattle.csub_tree.specs.declared.tree.CUnary.TheVariants as unary
use Rattle.csub_tree.specs.declared.tree.COperand.{COperand}
use Rattle.csub_tree.specs.declared.tree.COperand.TheVariants.{Var}
use Rattle.rpy_tree.specs.declared.syntax.CmpOp.TheVariants as compare_op
use Rattle.rpy_tree.specs.Value.{Value as Meant, Flag as MeantFlag, Nothing, Ref}
use Rattle.rpy_meaning.specs.declared.row.Covers.{Covers}
use Rattle.rpy_meaning.specs.declared.row.RowOp.TheVariants as row
use Rattle.rpy_meaning.specs.Compare.{identical as meant_identical}
use Rattle.rpy_meaning.specs.Operations.{op as meant_op, opposite}
use Rattle.rpy_meaning.specs.World.{World as MeantWorld, Gives, flag_if_any}
use Rattle.ll_code.specs.State.{Frame, State, At}
use Rattle.ll_code.specs.declared.program.LlType.TheVariants as type
use Rattle.ll_code.specs.declared.program.LlOp.{LlOp}
use Rattle.ll_code.specs.declared.program.LlOp.TheVariants as op
use Rattle.ll_code.specs.declared.program.LlExit.{LlExit}
use Rattle.ll_code.specs.declared.program.LlProgram.{LlProgram}
use Rattle.ll_leads.specs.Path.{Leads}
use Rattle.ll_leads.proofs.Ways.{on, gives, turns}
use Rattle.rtyper_layout.specs.declared.kind.Kind.TheVariants as kind
use Rattle.rtyper_layout.specs.Kinds.{kind_seen}
use Rattle.rtyper_data.specs.declared.body.Body.{Body}
use Rattle.rtyper_data.specs.Comparing.{null, alone, binary_in, identical, identical_by, same_pointer_of, both_null, beside_none_of, compare, opposite_if, opposite_of}
use Rattle.rtyper_data.specs.Converting.{give_made}
use Rattle.rtyper_op.specs.Lowering.{never_comes, of_some, of_two}
use Rattle.rtyper_data.specs.Seen.{Operand, Place, type_of, type_at, kind_of, Writing, writing}
use Rattle.rtyper_list.specs.Lowering.{lowered as list_lowered, of_some as list_of_some, first_of_two, second_of_two}
use Rattle.rtyper_class.specs.Lowering.{lowered as class_lowered, of_some as class_of_some, of_two as class_of_two, lower_class_op}
use Rattle.rtyper_class.specs.Seen.{World}
use Rattle.lower_laws.specs.Values.{is_plain}
use Rattle.lower_laws.proofs.Coming.{Comes, two_come}
use Rattle.lower_laws.proofs.Doing.{after}
use Rattle.lower_laws.proofs.Single.{sets, gives_flag}
use Rattle.lower_laws.proofs.Typing.{place_of_flags}
use Rattle.object_laws.specs.Done.{Follows, references}
use Rattle.object_laws.specs.Ghost.{Ghost, Home, Use, Whole, use_of}
use Rattle.object_laws.specs.Known.{Known}
use Rattle.object_laws.specs.Represents.{Represents}
use Rattle.object_laws.specs.Values.{Plain, Stands, flag, Given}
use Rattle.object_laws.proofs.Blocks.{found_there}
use Rattle.object_laws.proofs.Passing.{Passed, none_passed, sets_more, sets_last, is_set_at}
use Rattle.object_laws.proofs.Valued.{Instancing, Gone, instance_or_none, missing_instance}
use Rattle.object_laws.proofs.Nothings.{nothing_held}
use Rattle.class_laws.specs.Done.{IsDone}
use Rattle.class_laws.specs.Instances.{IsIdentity, IsBesideNone}
use Rattle.class_laws.proofs.Copied.{instance_comes}
use Rattle.class_laws.proofs.Lowered.{two_plain}

-- ---- a truth value is given

module _ (world : World) {known : Known} {place : Place} {p : LlProgram} {args : List (List ℕ)} {rest : List LlOp} {e : LlExit} {frames : List Frame} {core : Core} {g : Ghost} (raised : ℕ → Value) {s : State} {meant : MeantWorld} (flags : kind_seen place.element ≡ kind.Flag) where
  pub gives_flags : (most below : ℕ) (mid : Core) (t : Bool) → Represents world.around.layout known g meant.heap meant.left core.blocks core.statics → meant.left ≡ core.steps → Passed below core mid → place.variable < length core.vars
      → Leads p args 0 s [] (At rest e frames (after mid place.variable (Flag t))) → Follows 0 known world.around place p args s rest e frames core g raised most below meant (Gives (MeantFlag t) meant)
  gives_flags most below mid t stands left passed inside way =
      sets_last most below mid (Flag t) (MeantFlag t) stands left passed inside way (Plain (ap is_plain flags) (subst (λ k. Stands g k (Flag t) (MeantFlag t)) (sym (place_of_flags world.around.layout place.element flags)) (flag t)))

-- ---- values that name blocks

same_itself : (n : ℕ) → (n == n) ≡ true
same_itself n = grind (arith, nat_tests)

not_same : (m n : ℕ) → (m ≡ n → ⊥) → (m == n) ≡ false
not_same m n h = grind (arith, nat_tests, h)

names_itself : (g : Ghost) (x : Value) (i : ℕ) → use_of g x ≡ Some (Whole i) → compared x x ≡ Ok (Flag true)
names_itself g (Ptr n) i h = ap (λ b. Ok (Flag b)) (same_itself n)
names_itself g (Static n) i h = ap (λ b. Ok (Flag b)) (same_itself n)
names_itself g _ i h = absurd (cc)

names_other : (g : Ghost) (x y : Value) (i j : ℕ) → use_of g x ≡ Some (Whole i) → use_of g y ≡ Some (Whole j) → (x ≡ y → ⊥) → compared x y ≡ Ok (Flag false)
names_other g (Ptr m) (Ptr n) i j h k apart = ap (λ b. Ok (Flag b)) (not_same m n (λ e. apart (ap Ptr e)))
names_other g (Static m) (Static n) i j h k apart = ap (λ b. Ok (Flag b)) (not_same m n (λ e. apart (ap Static e)))
names_other g (Ptr m) (Static n) i j h k apart = refl
names_other g (Static m) (Ptr n) i j h k apart = refl
names_other g (Ptr m) _ i j h k apart = absurd (cc)
names_other g (Static m) _ i j h k apart = absurd (cc)
names_other g _ y i j h k apart = absurd (cc)

flipped : (x y : Value) (t : Bool) → x ≡ Null → compared y Null ≡ Ok (Flag t) → compared y x ≡ Ok (Flag t)
flipped x y t e h = ap (compared y) e ∙ h

-- ---- a comparison

-- what the test of two operands tells
pub record Tests (known : Known) (world : World) (a b : Operand) (x y : COperand) (core : Core) (g : Ghost) (meant : MeantWorld) (vs : List Meant) : Type 0 where
  pub truth : Bool
  pub low : compared (operand core.vars x) (operand core.vars y) ≡ Ok (Flag truth)
  pub first : Meant
  pub second : Meant
  pub values : vs ≡ first ∷ second ∷ []
  pub high : meant_identical first second ≡ Some truth

module _ (world : World) (known : Known) (place : Place) (a b : Operand) (w : Writing) (covers : Covers) (flags : kind_seen place.element ≡ kind.Flag) (ha : Comes a) (hb : Comes b) (x y : COperand)
    (written : identical world.around a b w.body ≡ binary_in binary.Peq type.Bool x y w.body)
    (tests : (core : Core) (g : Ghost) (meant : MeantWorld) (vs : List Meant) → Represents world.around.layout known g meant.heap meant.left core.blocks core.statics → Given known world.around g core (a ∷ b ∷ []) vs → Tests known world a b x y core g meant vs) where
  abbrev m : ℕ
  m = length w.body.types

  abbrev m2 : ℕ
  m2 = length (w.body.types ++ type.Bool ∷ [])

  abbrev asks_it : LlOp
  asks_it = op.Binary m binary.Peq x y

  abbrev turns_it : LlOp
  turns_it = op.Unary m2 unary.Not (Var m)

  ht : type_at world.around place ≡ type.Bool
  ht = place_of_flags world.around.layout place.element flags

  m2_is : m2 ≡ m + 1
  m2_is = length-append w.body.types (type.Bool ∷ [])

  -- whether they are the same

  abbrev asked_writing : Writing
  asked_writing = writing w.found (record { types = w.body.types ++ type.Bool ∷ []; ops = w.body.ops ++ asks_it ∷ [] })

  is_written : lower_class_op world (row.Compare compare_op.Is) place (a ∷ b ∷ []) w ≡ writing w.found (record { types = w.body.types ++ type.Bool ∷ []; ops = (w.body.ops ++ asks_it ∷ []) ++ op.Set place.variable (Var m) ∷ [] })
  unfolding class_lowered class_of_some class_of_two list_lowered list_of_some first_of_two second_of_two of_some of_two compare opposite_if
  is_written =
      two_plain world (row.Compare compare_op.Is) place a b w ha hb refl refl refl refl refl
      ∙ two_come world.around (row.Compare compare_op.Is) place a b w ha hb
      ∙ ap (λ made. give_made world.around place type.Bool (opposite_of false (alone w.found made))) written
      ∙ gives_flag world.around place (Var m) asked_writing ht

  is_not_written : lower_class_op world (row.Compare compare_op.IsNot) place (a ∷ b ∷ []) w ≡ writing w.found (record { types = (w.body.types ++ type.Bool ∷ []) ++ type.Bool ∷ []; ops = ((w.body.ops ++ asks_it ∷ []) ++ turns_it ∷ []) ++ op.Set place.variable (Var m2) ∷ [] })
  unfolding class_lowered class_of_some class_of_two list_lowered list_of_some first_of_two second_of_two of_some of_two compare opposite_if
  is_not_written =
      two_plain world (row.Compare compare_op.IsNot) place a b w ha hb refl refl refl refl refl
      ∙ two_come world.around (row.Compare compare_op.IsNot) place a b w ha hb
      ∙ ap (λ made. give_made world.around place type.Bool (opposite_of true (alone w.found made))) written
      ∙ gives_flag world.around place (Var m2) (writing w.found (record { types = (w.body.types ++ type.Bool ∷ []) ++ type.Bool ∷ []; ops = (w.body.ops ++ asks_it ∷ []) ++ turns_it ∷ [] })) ht

  module _ (p : LlProgram) (raised : ℕ → Value) (arguments : List (List ℕ)) (rest : List LlOp) (e : LlExit) (frames : List Frame) (core : Core) (g : Ghost) (meant : MeantWorld) (most : ℕ)
      (stands : Represents world.around.layout known g meant.heap meant.left core.blocks core.statics) (left : meant.left ≡ core.steps) (inside : place.variable < m) (vs : List Meant) (given : Given known world.around g core (a ∷ b ∷ []) vs) where
    it : Tests known world a b x y core g meant vs
    it = tests core g meant vs stands given

    is_follows : m + 1 ≤ length core.vars → Follows 0 known world.around place p arguments (At (asks_it ∷ op.Set place.variable (Var m) ∷ rest) e frames core) rest e frames core g raised most m meant (meant_op known.program covers (row.Compare compare_op.Is) vs meant)
    is_follows room =
        let above : meant_op known.program covers (row.Compare compare_op.Is) vs meant ≡ Gives (MeantFlag it.truth) meant = ap (λ vs. meant_op known.program covers (row.Compare compare_op.Is) vs meant) it.values ∙ ap (λ o. flag_if_any o meant) it.high in
        subst (λ answer. Follows 0 known world.around place p arguments (At (asks_it ∷ op.Set place.variable (Var m) ∷ rest) e frames core) rest e frames core g raised most m meant answer) (sym above)
        (gives_flags world raised flags most m (after core m (Flag it.truth)) it.truth stands left (sets_more m (Flag it.truth) (omega arith) none_passed) (omega (arith, inside, room))
        (on (gives (Flag it.truth) it.low) (sets (Flag it.truth) (is_set_at core m (Flag it.truth) (omega (arith, room))) refl)))

    is_not_follows : m + 2 ≤ length core.vars → Follows 0 known world.around place p arguments (At (asks_it ∷ turns_it ∷ op.Set place.variable (Var m2) ∷ rest) e frames core) rest e frames core g raised most m meant (meant_op known.program covers (row.Compare compare_op.IsNot) vs meant)
    is_not_follows room =
        let t : Bool = not it.truth in
        let core1 : Core = after core m (Flag it.truth) in
        let passed = sets_more m (Flag it.truth) (omega arith) (none_passed {below = m} {core = core}) in
        let above : meant_op known.program covers (row.Compare compare_op.IsNot) vs meant ≡ Gives (MeantFlag t) meant = ap (λ vs. meant_op known.program covers (row.Compare compare_op.IsNot) vs meant) it.values ∙ ap (λ o. flag_if_any (opposite o) meant) it.high in
        subst (λ answer. Follows 0 known world.around place p arguments (At (asks_it ∷ turns_it ∷ op.Set place.variable (Var m2) ∷ rest) e frames core) rest e frames core g raised most m meant answer) (sym above)
        (gives_flags world raised flags most m (after core1 m2 (Flag t)) t stands left (sets_more m2 (Flag t) (omega (arith, m2_is)) passed) (omega (arith, inside, room))
        (on (gives (Flag it.truth) it.low)
        (on (turns (Flag t) (ap (unary_of unary.Not) (is_set_at core m (Flag it.truth) (omega (arith, room)))))
        (sets (Flag t) (is_set_at core1 m2 (Flag t) (let q = passed.room in omega (arith, room, m2_is, q))) refl))))

  pub is_done : IsDone 0 world known (row.Compare compare_op.Is) covers [] place (a ∷ b ∷ []) w
  is_done = record {
    ops = asks_it ∷ op.Set place.variable (Var m) ∷ [];
    new = type.Bool ∷ [];
    asked = ap (λ (r : Writing). r.found) is_written;
    written = ap (λ (r : Writing). r.body.ops) is_written ∙ append_assoc w.body.ops (asks_it ∷ []) (op.Set place.variable (Var m) ∷ []);
    types = ap (λ (r : Writing). r.body.types) is_written;
    follows = λ p numbers raised arguments rest e frames core g meant vs structs has stands left room inside below given good. is_follows p raised arguments rest e frames core g meant (references meant.heap vs) stands left inside vs given room;
  }

  pub is_not_done : IsDone 0 world known (row.Compare compare_op.IsNot) covers [] place (a ∷ b ∷ []) w
  is_not_done = record {
    ops = asks_it ∷ turns_it ∷ op.Set place.variable (Var m2) ∷ [];
    new = type.Bool ∷ type.Bool ∷ [];
    asked = ap (λ (r : Writing). r.found) is_not_written;
    written = ap (λ (r : Writing). r.body.ops) is_not_written ∙ append_assoc (w.body.ops ++ asks_it ∷ []) (turns_it ∷ []) (op.Set place.variable (Var m2) ∷ []) ∙ append_assoc w.body.ops (asks_it ∷ []) (turns_it ∷ op.Set place.variable (Var m2) ∷ []);
    types = ap (λ (r : Writing). r.body.types) is_not_written ∙ append_assoc w.body.types (type.Bool ∷ []) (type.Bool ∷ []);
    follows = λ p numbers raised arguments rest e frames core g meant vs structs has stands left room inside below given good. is_not_follows p raised arguments rest e frames core g meant (references meant.heap vs) stands left inside vs given room;
  }

-- ---- two instances

pub kind_is : (a : Operand) (c : ℕ) (r : Bool) → a.element ≡ Some (element.Instance c r) → kind_of a ≡ missing_instance r
kind_is a c true h = ap kind_seen h
kind_is a c false h = ap kind_seen h

by_pointers : (r s : Bool) (world : World) (a b : Operand) (body : Body) → identical_by (missing_instance r) (missing_instance s) world.around a b body ≡ same_pointer_of (type_of world.around a) (type_of world.around b) a.x b.x body
by_pointers true true world a b body = refl
by_pointers true false world a b body = refl
by_pointers false true world a b body = refl
by_pointers false false world a b body = refl

pointers_written : (world : World) (a b : Operand) (body : Body) (c d n : ℕ) (r s : Bool) → a.element ≡ Some (element.Instance c r) → b.element ≡ Some (element.Instance d s) → type_of world.around a ≡ type.Ptr n → type_of world.around b ≡ type.Ptr n
    → identical world.around a b body ≡ binary_in binary.Peq type.Bool a.x b.x body
unfolding identical
pointers_written world a b body c d n r s ha hb ta tb =
    ap (λ k. identical_by k (kind_of b) world.around a b body) (kind_is a c r ha)
    ∙ ap (λ k. identical_by (missing_instance r) k world.around a b body) (kind_is b d s hb)
    ∙ by_pointers r s world a b body
    ∙ ap (λ t. same_pointer_of t (type_of world.around b) a.x b.x body) ta
    ∙ ap (λ t. same_pointer_of (type.Ptr n) t a.x b.x body) tb
    ∙ ap (λ c. if c then binary_in binary.Peq type.Bool a.x b.x body else both_null a.x b.x body) (same_itself n)

module _ (world : World) (known : Known) (a b : Operand) (c d : ℕ) (r s : Bool) (ha : a.element ≡ Some (element.Instance c r)) (hb : b.element ≡ Some (element.Instance d s)) (core : Core) (g : Ghost) (meant : MeantWorld)
    (stands : Represents world.around.layout known g meant.heap meant.left core.blocks core.statics) where
  abbrev X : Value
  X = operand core.vars a.x

  abbrev Y : Value
  Y = operand core.vars b.x

  one_home : {x y : Home} → Some x ≡ Some y → x ≡ y
  one_home h = cc

  both_there : (u v : Meant) → Instancing known g c X u → Instancing known g d Y v → Tests known world a b a.x b.x core g meant (u ∷ v ∷ [])
  both_there u v p q = by (cases_eq p.i q.i)
    where
      use_x : use_of g X ≡ Some (Whole p.i)
      use_x = (stands.instances p.c p.i X p.home).head_use

      use_y : use_of g Y ≡ Some (Whole q.i)
      use_y = (stands.instances q.c q.i Y q.home).head_use

      means : (t : Bool) → (p.i == q.i) ≡ t → meant_identical u v ≡ Some t
      means t e = ap (λ u. meant_identical u v) p.high ∙ ap (meant_identical (Ref p.i)) q.high ∙ ap Some e

      by : (p.i ≡ q.i) ⊎ (p.i ≡ q.i → ⊥) → Tests known world a b a.x b.x core g meant (u ∷ v ∷ [])
      by (inl e) =
          let same : X ≡ Y = ap (λ (h : Home). h.head) (one_home (sym p.home ∙ ap (λ k. slice_get g.homes k) e ∙ q.home)) in
          record { truth = true; low = ap (λ y. compared X y) (sym same) ∙ names_itself g X p.i use_x; first = u; second = v; values = refl; high = means true (ap (λ k. p.i == k) (sym e) ∙ same_itself p.i) }
      by (inr apart) = record {
        truth = false;
        low = names_other g X Y p.i q.i use_x use_y (λ e. apart (one_whole (sym use_x ∙ ap (use_of g) e ∙ use_y)));
        first = u;
        second = v;
        values = refl;
        high = means false (not_same p.i q.i apart);
      }
        where
          one_whole : {i j : ℕ} → Some (Whole i) ≡ Some (Whole j) → i ≡ j
          one_whole h = cc

  first_there : (u v : Meant) → Instancing known g c X u → Y ≡ Null → v ≡ Nothing → Tests known world a b a.x b.x core g meant (u ∷ v ∷ [])
  first_there u v p low high = record {
    truth = false;
    low = ap (compared X) low ∙ found_there core.blocks core.statics X _ (stands.instances p.c p.i X p.home).block_is;
    first = u;
    second = v;
    values = refl;
    high = ap (λ u. meant_identical u v) p.high ∙ ap (meant_identical (Ref p.i)) high;
  }

  second_there : (u v : Meant) → X ≡ Null → u ≡ Nothing → Instancing known g d Y v → Tests known world a b a.x b.x core g meant (u ∷ v ∷ [])
  second_there u v low high q = record {
    truth = false;
    low = ap (λ x. compared x Y) low ∙ null_first Y (Whole q.i) (stands.instances q.c q.i Y q.home).head_use;
    first = u;
    second = v;
    values = refl;
    high = ap (λ u. meant_identical u v) high ∙ ap (meant_identical Nothing) q.high;
  }
    where
      null_first : (y : Value) (u : Use) → use_of g y ≡ Some u → compared Null y ≡ Ok (Flag false)
      null_first (Ptr n) u h = refl
      null_first (Static n) u h = refl
      null_first _ u h = absurd (cc)

  tests_both : (vs : List Meant) → Given known world.around g core (a ∷ b ∷ []) vs → Tests known world a b a.x b.x core g meant vs
  tests_both [] given = absurd given
  tests_both (u ∷ []) given = absurd given.1
  tests_both (u ∷ v ∷ []) given = by (instance_or_none c r ha given.0) (instance_or_none d s hb given.1.0)
    where
      by : Instancing known g c X u ⊎ ((r ≡ true) × Gone (missing_instance true) a.element X u) → Instancing known g d Y v ⊎ ((s ≡ true) × Gone (missing_instance true) b.element Y v) → Tests known world a b a.x b.x core g meant (u ∷ v ∷ [])
      by (inl p) (inl q) = both_there u v p q
      by (inl p) (inr q) = first_there u v p q.1.low q.1.high
      by (inr p) (inl q) = second_there u v p.1.low p.1.high q
      by (inr p) (inr q) = record { truth = true; low = ap (λ x. compared x Y) p.1.low ∙ ap (compared Null) q.1.low; first = u; second = v; values = refl; high = ap (λ u. meant_identical u v) p.1.high ∙ ap (meant_identical Nothing) q.1.high }
  tests_both (u ∷ v ∷ z ∷ vs) given = absurd given.1.1

pub identity_is_done : IsIdentity compare_op.Is
identity_is_done world known place a b w c d n r s covers ha hb ta tb flags =
    is_done world known place a b w covers flags (instance_comes a c r ha) (instance_comes b d s hb) a.x b.x (pointers_written world a b w.body c d n r s ha hb ta tb) (λ core g meant vs stands given. tests_both world known a b c d r s ha hb core g meant stands vs given)

pub difference_is_done : IsIdentity compare_op.IsNot
difference_is_done world known place a b w c d n r s covers ha hb ta tb flags =
    is_not_done world known place a b w covers flags (instance_comes a c r ha) (instance_comes b d s hb) a.x b.x (pointers_written world a b w.body c d n r s ha hb ta tb) (λ core g meant vs stands given. tests_both world known a b c d r s ha hb core g meant stands vs given)

-- ---- an instance beside `None`

none_comes : (a : Operand) → kind_of a ≡ kind.Nothing → Comes a
none_comes a h = ap never_comes h

first_is : (r : Bool) (world : World) (a b : Operand) (body : Body) (n : ℕ) → type_of world.around a ≡ type.Ptr n → identical_by (missing_instance r) kind.Nothing world.around a b body ≡ binary_in binary.Peq type.Bool a.x null body
first_is true world a b body n h = ap (λ t. beside_none_of t a.x body) h
first_is false world a b body n h = ap (λ t. beside_none_of t a.x body) h

second_is : (r : Bool) (world : World) (a b : Operand) (body : Body) (n : ℕ) → type_of world.around b ≡ type.Ptr n → identical_by kind.Nothing (missing_instance r) world.around a b body ≡ binary_in binary.Peq type.Bool b.x null body
second_is true world a b body n h = ap (λ t. beside_none_of t b.x body) h
second_is false world a b body n h = ap (λ t. beside_none_of t b.x body) h

first_written : (world : World) (a b : Operand) (body : Body) (c n : ℕ) (r : Bool) → a.element ≡ Some (element.Instance c r) → type_of world.around a ≡ type.Ptr n → kind_of b ≡ kind.Nothing → identical world.around a b body ≡ binary_in binary.Peq type.Bool a.x null body
unfolding identical
first_written world a b body c n r ha ta hb =
    ap (λ k. identical_by k (kind_of b) world.around a b body) (kind_is a c r ha) ∙ ap (λ k. identical_by (missing_instance r) k world.around a b body) hb ∙ first_is r world a b body n ta

second_written : (world : World) (a b : Operand) (body : Body) (c n : ℕ) (r : Bool) → kind_of a ≡ kind.Nothing → b.element ≡ Some (element.Instance c r) → type_of world.around b ≡ type.Ptr n → identical world.around a b body ≡ binary_in binary.Peq type.Bool b.x null body
unfolding identical
second_written world a b body c n r ha hb tb =
    ap (λ k. identical_by k (kind_of b) world.around a b body) ha ∙ ap (λ k. identical_by kind.Nothing k world.around a b body) (kind_is b c r hb) ∙ second_is r world a b body n tb

module _ (world : World) (known : Known) (a b : Operand) (c : ℕ) (r : Bool) (core : Core) (g : Ghost) (meant : MeantWorld) (stands : Represents world.around.layout known g meant.heap meant.left core.blocks core.statics) where
  tests_first : a.element ≡ Some (element.Instance c r) → kind_of b ≡ kind.Nothing → (vs : List Meant) → Given known world.around g core (a ∷ b ∷ []) vs → Tests known world a b a.x null core g meant vs
  tests_first ha hb [] given = absurd given
  tests_first ha hb (u ∷ []) given = absurd given.1
  tests_first ha hb (u ∷ v ∷ []) given = by (instance_or_none c r ha given.0)
    where
      by : Instancing known g c (operand core.vars a.x) u ⊎ ((r ≡ true) × Gone (missing_instance true) a.element (operand core.vars a.x) u) → Tests known world a b a.x null core g meant (u ∷ v ∷ [])
      by (inl p) = record {
        truth = false;
        low = found_there core.blocks core.statics (operand core.vars a.x) _ (stands.instances p.c p.i (operand core.vars a.x) p.home).block_is;
        first = u;
        second = v;
        values = refl;
        high = ap (λ u. meant_identical u v) p.high ∙ ap (meant_identical (Ref p.i)) (nothing_held hb given.1.0);
      }
      by (inr p) = record { truth = true; low = ap (λ x. compared x Null) p.1.low; first = u; second = v; values = refl; high = ap (λ u. meant_identical u v) p.1.high ∙ ap (meant_identical Nothing) (nothing_held hb given.1.0) }
  tests_first ha hb (u ∷ v ∷ z ∷ vs) given = absurd given.1.1

  tests_second : kind_of a ≡ kind.Nothing → b.element ≡ Some (element.Instance c r) → (vs : List Meant) → Given known world.around g core (a ∷ b ∷ []) vs → Tests known world a b b.x null core g meant vs
  tests_second ha hb [] given = absurd given
  tests_second ha hb (u ∷ []) given = absurd given.1
  tests_second ha hb (u ∷ v ∷ []) given = by (instance_or_none c r hb given.1.0)
    where
      by : Instancing known g c (operand core.vars b.x) v ⊎ ((r ≡ true) × Gone (missing_instance true) b.element (operand core.vars b.x) v) → Tests known world a b b.x null core g meant (u ∷ v ∷ [])
      by (inl p) = record {
        truth = false;
        low = found_there core.blocks core.statics (operand core.vars b.x) _ (stands.instances p.c p.i (operand core.vars b.x) p.home).block_is;
        first = u;
        second = v;
        values = refl;
        high = ap (λ u. meant_identical u v) (nothing_held ha given.0) ∙ ap (meant_identical Nothing) p.high;
      }
      by (inr p) = record { truth = true; low = ap (λ x. compared x Null) p.1.low; first = u; second = v; values = refl; high = ap (λ u. meant_identical u v) (nothing_held ha given.0) ∙ ap (meant_identical Nothing) p.1.high }
  tests_second ha hb (u ∷ v ∷ z ∷ vs) given = absurd given.1.1

pub beside_none_is_done : IsBesideNone compare_op.Is
beside_none_is_done world known place a b w c n r covers flags (inl (ha, ta, hb)) =
    is_done world known place a b w covers flags (instance_comes a c r ha) (none_comes b hb) a.x null (first_written world a b w.body c n r ha ta hb) (λ core g meant vs stands given. tests_first world known a b c r core g meant stands ha hb vs given)
beside_none_is_done world known place a b w c n r covers flags (inr (ha, hb, tb)) =
    is_done world known place a b w covers flags (none_comes a ha) (instance_comes b c r hb) b.x null (second_written world a b w.body c n r ha hb tb) (λ core g meant vs stands given. tests_second world known a b c r core g meant stands ha hb vs given)

pub beside_none_is_not_done : IsBesideNone compare_op.IsNot
beside_none_is_not_done world known place a b w c n r covers flags (inl (ha, ta, hb)) =
    is_not_done world known place a b w covers flags (instance_comes a c r ha) (none_comes b hb) a.x null (first_written world a b w.body c n r ha ta hb) (λ core g meant vs stands given. tests_first world known a b c r core g meant stands ha hb vs given)
beside_none_is_not_done world known place a b w c n r covers flags (inr (ha, hb, tb)) =
    is_not_done world known place a b w covers flags (none_comes a ha) (instance_comes b c r hb) b.x null (second_written world a b w.body c n r ha hb tb) (λ core g meant vs stands given. tests_second world known a b c r core g meant stands ha hb vs given)
