-- Whether two lists are the same, and whether one is `None`.
use Rattle.std.proofs.Common.{◌≡◌, ◌<◌, ◌≤◌, ℕ, ◌+◌, ◌==◌, ◌⊎◌, inl, inr, Bool, true, false, List, [], ◌∷◌, ◌++◌, length, Some, Ok, refl, sym, ap, ◌∙◌, subst, arith, append_assoc, length-append}
use Rattle.std.specs.Prelude.{slice_get, not, if◌then◌else◌}
use Rattle.std.proofs.lemmas.Bool.{cases_eq}
use Rattle.std.proofs.lemmas.Bool.Decides.{nat_tests}
use Rattle.csub_tree.specs.State.{Value, Flag, Null, Ptr, Static, Core}
use Rattle.csub_tree.specs.Operation.{compared, unary_of}
use Rattle.csub_tree.specs.Statement.{operand}
use Rattle.csub_tree.specs.declared.tree.CBinary.TheVariants as binary
use Rattle.csub_tree.specs.declared.tree.CUnary.TheVariants as unary
use Rattle.csub_tree.specs.declared.tree.COperand.{COperand}
use Rattle.csub_tree.specs.declared.tree.COperand.TheVariants.{Var}
use Rattle.rpy_tree.specs.declared.syntax.CmpOp.TheVariants as compare_op
use Rattle.rpy_tree.specs.Value.{Value as Meant, Flag as MeantFlag, Nothing, Ref}
use Rattle.rpy_meaning.specs.declared.row.Covers.{Covers}
use Rattle.rpy_meaning.specs.declared.row.RowOp.TheVariants as row
use Rattle.rpy_meaning.specs.Compare.{identical as meant_identical}
use Rattle.rpy_meaning.specs.Operations.{op as meant_op, opposite}
use Rattle.rpy_meaning.specs.World.{World, Gives, flag_if_any}
use Rattle.ll_code.specs.State.{Frame, At}
use Rattle.ll_code.specs.declared.program.LlType.TheVariants as type
use Rattle.ll_code.specs.declared.program.LlOp.{LlOp}
use Rattle.ll_code.specs.declared.program.LlOp.TheVariants as op
use Rattle.ll_code.specs.declared.program.LlExit.{LlExit}
use Rattle.ll_code.specs.declared.program.LlProgram.{LlProgram}
use Rattle.ll_leads.proofs.Ways.{on, gives, turns}
use Rattle.rtyper_layout.specs.declared.kind.Kind.{Kind}
use Rattle.rtyper_layout.specs.declared.kind.Kind.TheVariants as kind
use Rattle.rtyper_layout.specs.Kinds.{kind_seen}
use Rattle.rtyper_data.specs.declared.body.Body.{Body}
use Rattle.rtyper_data.specs.Comparing.{null, alone, binary_in, identical, identical_by, same_pointer_of, both_null, beside_none_of, compare, opposite_if, opposite_of}
use Rattle.rtyper_data.specs.Converting.{give_made}
use Rattle.rtyper_data.specs.Seen.{Around, Operand, Place, type_of, type_at, kind_of, Writing, writing}
use Rattle.rtyper_op.specs.Lowering.{never_comes, of_some, of_two}
use Rattle.rtyper_list.specs.Lowering.{lowered as list_lowered, of_some as list_of_some, first_of_two, second_of_two, lower_list_op}
use Rattle.rtyper_list.specs.Operands.{of_list}
use Rattle.lower_laws.proofs.Coming.{Comes, two_come}
use Rattle.lower_laws.proofs.Doing.{after}
use Rattle.lower_laws.proofs.Single.{sets, gives_flag}
use Rattle.lower_laws.proofs.Typing.{place_of_flags}
use Rattle.list_laws.specs.Presence.{IsTold, ListsAreCompared, ListsAreBesideNone}
use Rattle.list_laws.proofs.Lowered.{list_comes}
use Rattle.object_laws.proofs.Nothings.{nothing_held}
use Rattle.list_laws.proofs.Told.{two_plain, gives_flags}
use Rattle.object_laws.specs.Done.{Follows, references}
use Rattle.object_laws.specs.Ghost.{Ghost, Home, Use, Head, use_of}
use Rattle.object_laws.specs.Known.{Known}
use Rattle.object_laws.specs.Represents.{Represents}
use Rattle.object_laws.specs.Values.{Given}
use Rattle.object_laws.proofs.Blocks.{found_there}
use Rattle.object_laws.proofs.Passing.{none_passed, sets_more, is_set_at}
use Rattle.object_laws.proofs.Valued.{Listing, Absent, list_or_none}

-- ---- values that name blocks

pub same_itself : (n : ℕ) → (n == n) ≡ true
same_itself n = grind (arith, nat_tests)

pub not_same : (m n : ℕ) → (m ≡ n → ⊥) → (m == n) ≡ false
not_same m n h = grind (arith, nat_tests, h)

pub names_itself : (g : Ghost) (x : Value) (u : Use) → use_of g x ≡ Some u → compared x x ≡ Ok (Flag true)
names_itself g (Ptr n) u h = ap (λ b. Ok (Flag b)) (same_itself n)
names_itself g (Static n) u h = ap (λ b. Ok (Flag b)) (same_itself n)
names_itself g _ u h = absurd (cc)

pub names_other : (g : Ghost) (x y : Value) (u v : Use) → use_of g x ≡ Some u → use_of g y ≡ Some v → (x ≡ y → ⊥) → compared x y ≡ Ok (Flag false)
names_other g (Ptr m) (Ptr n) u v h k apart = ap (λ b. Ok (Flag b)) (not_same m n (λ e. apart (ap Ptr e)))
names_other g (Static m) (Static n) u v h k apart = ap (λ b. Ok (Flag b)) (not_same m n (λ e. apart (ap Static e)))
names_other g (Ptr m) (Static n) u v h k apart = refl
names_other g (Static m) (Ptr n) u v h k apart = refl
names_other g (Ptr m) _ u v h k apart = absurd (cc)
names_other g (Static m) _ u v h k apart = absurd (cc)
names_other g _ y u v h k apart = absurd (cc)

pub null_first : (g : Ghost) (y : Value) (u : Use) → use_of g y ≡ Some u → compared Null y ≡ Ok (Flag false)
null_first g (Ptr n) u h = refl
null_first g (Static n) u h = refl
null_first g _ u h = absurd (cc)

-- ---- a comparison

-- what the test of two operands tells
pub record Tests (x y : COperand) (core : Core) (vs : List Meant) : Type 0 where
  pub truth : Bool
  pub low : compared (operand core.vars x) (operand core.vars y) ≡ Ok (Flag truth)
  pub first : Meant
  pub second : Meant
  pub values : vs ≡ first ∷ second ∷ []
  pub high : meant_identical first second ≡ Some truth

module _ (around : Around) (known : Known) (place : Place) (a b : Operand) (w : Writing) (covers : Covers) (flags : kind_seen place.element ≡ kind.Flag) (ha : Comes a) (hb : Comes b) (x y : COperand)
    (written : identical around a b w.body ≡ binary_in binary.Peq type.Bool x y w.body)
    (tests : (core : Core) (g : Ghost) (world : World) (vs : List Meant) → Represents around.layout known g world.heap world.left core.blocks core.statics → Given known around g core (a ∷ b ∷ []) vs → Tests x y core vs) where
  abbrev m : ℕ
  m = length w.body.types

  abbrev m2 : ℕ
  m2 = length (w.body.types ++ type.Bool ∷ [])

  abbrev asks_it : LlOp
  asks_it = op.Binary m binary.Peq x y

  abbrev turns_it : LlOp
  turns_it = op.Unary m2 unary.Not (Var m)

  ht : type_at around place ≡ type.Bool
  ht = place_of_flags around.layout place.element flags

  m2_is : m2 ≡ m + 1
  m2_is = length-append w.body.types (type.Bool ∷ [])

  abbrev asked_writing : Writing
  asked_writing = writing w.found (record { types = w.body.types ++ type.Bool ∷ []; ops = w.body.ops ++ asks_it ∷ [] })

  is_written : lower_list_op around (row.Compare compare_op.Is) place (a ∷ b ∷ []) w ≡ writing w.found (record { types = w.body.types ++ type.Bool ∷ []; ops = (w.body.ops ++ asks_it ∷ []) ++ op.Set place.variable (Var m) ∷ [] })
  unfolding list_lowered list_of_some first_of_two second_of_two of_some of_two compare opposite_if
  is_written =
      two_plain around (row.Compare compare_op.Is) place a b w ha hb refl refl refl refl
      ∙ two_come around (row.Compare compare_op.Is) place a b w ha hb
      ∙ ap (λ made. give_made around place type.Bool (opposite_of false (alone w.found made))) written
      ∙ gives_flag around place (Var m) asked_writing ht

  is_not_written : lower_list_op around (row.Compare compare_op.IsNot) place (a ∷ b ∷ []) w ≡ writing w.found (record { types = (w.body.types ++ type.Bool ∷ []) ++ type.Bool ∷ []; ops = ((w.body.ops ++ asks_it ∷ []) ++ turns_it ∷ []) ++ op.Set place.variable (Var m2) ∷ [] })
  unfolding list_lowered list_of_some first_of_two second_of_two of_some of_two compare opposite_if
  is_not_written =
      two_plain around (row.Compare compare_op.IsNot) place a b w ha hb refl refl refl refl
      ∙ two_come around (row.Compare compare_op.IsNot) place a b w ha hb
      ∙ ap (λ made. give_made around place type.Bool (opposite_of true (alone w.found made))) written
      ∙ gives_flag around place (Var m2) (writing w.found (record { types = (w.body.types ++ type.Bool ∷ []) ++ type.Bool ∷ []; ops = (w.body.ops ++ asks_it ∷ []) ++ turns_it ∷ [] })) ht

  module _ (p : LlProgram) (raised : ℕ → Value) (arguments : List (List ℕ)) (rest : List LlOp) (e : LlExit) (frames : List Frame) (core : Core) (g : Ghost) (world : World) (most : ℕ)
      (stands : Represents around.layout known g world.heap world.left core.blocks core.statics) (left : world.left ≡ core.steps) (inside : place.variable < m) (vs : List Meant) (given : Given known around g core (a ∷ b ∷ []) vs) where
    it : Tests x y core vs
    it = tests core g world vs stands given

    is_follows : m + 1 ≤ length core.vars → Follows 0 known around place p arguments (At (asks_it ∷ op.Set place.variable (Var m) ∷ rest) e frames core) rest e frames core g raised most m world (meant_op known.program covers (row.Compare compare_op.Is) vs world)
    is_follows room =
        let above : meant_op known.program covers (row.Compare compare_op.Is) vs world ≡ Gives (MeantFlag it.truth) world = ap (λ vs. meant_op known.program covers (row.Compare compare_op.Is) vs world) it.values ∙ ap (λ o. flag_if_any o world) it.high in
        subst (λ answer. Follows 0 known around place p arguments (At (asks_it ∷ op.Set place.variable (Var m) ∷ rest) e frames core) rest e frames core g raised most m world answer) (sym above)
        (gives_flags around raised flags most m (after core m (Flag it.truth)) it.truth stands left (sets_more m (Flag it.truth) (omega arith) none_passed) (omega (arith, inside, room))
        (on (gives (Flag it.truth) it.low) (sets (Flag it.truth) (is_set_at core m (Flag it.truth) (omega (arith, room))) refl)))

    is_not_follows : m + 2 ≤ length core.vars → Follows 0 known around place p arguments (At (asks_it ∷ turns_it ∷ op.Set place.variable (Var m2) ∷ rest) e frames core) rest e frames core g raised most m world (meant_op known.program covers (row.Compare compare_op.IsNot) vs world)
    is_not_follows room =
        let t : Bool = not it.truth in
        let core1 : Core = after core m (Flag it.truth) in
        let passed = sets_more m (Flag it.truth) (omega arith) (none_passed {below = m} {core = core}) in
        let above : meant_op known.program covers (row.Compare compare_op.IsNot) vs world ≡ Gives (MeantFlag t) world = ap (λ vs. meant_op known.program covers (row.Compare compare_op.IsNot) vs world) it.values ∙ ap (λ o. flag_if_any (opposite o) world) it.high in
        subst (λ answer. Follows 0 known around place p arguments (At (asks_it ∷ turns_it ∷ op.Set place.variable (Var m2) ∷ rest) e frames core) rest e frames core g raised most m world answer) (sym above)
        (gives_flags around raised flags most m (after core1 m2 (Flag t)) t stands left (sets_more m2 (Flag t) (omega (arith, m2_is)) passed) (omega (arith, inside, room))
        (on (gives (Flag it.truth) it.low)
        (on (turns (Flag t) (ap (unary_of unary.Not) (is_set_at core m (Flag it.truth) (omega (arith, room)))))
        (sets (Flag t) (is_set_at core1 m2 (Flag t) (let q = passed.room in omega (arith, room, m2_is, q))) refl))))

  pub is_done : IsTold known around (row.Compare compare_op.Is) covers [] place (a ∷ b ∷ []) w
  is_done = record {
    ops = asks_it ∷ op.Set place.variable (Var m) ∷ [];
    new = type.Bool ∷ [];
    asked = ap (λ (r : Writing). r.found) is_written;
    written = ap (λ (r : Writing). r.body.ops) is_written ∙ append_assoc w.body.ops (asks_it ∷ []) (op.Set place.variable (Var m) ∷ []);
    types = ap (λ (r : Writing). r.body.types) is_written;
    follows = λ p numbers raised arguments rest e frames core g world vs structs has stands left room inside below given good. is_follows p raised arguments rest e frames core g world (references world.heap vs) stands left inside vs given room;
  }

  pub is_not_done : IsTold known around (row.Compare compare_op.IsNot) covers [] place (a ∷ b ∷ []) w
  is_not_done = record {
    ops = asks_it ∷ turns_it ∷ op.Set place.variable (Var m2) ∷ [];
    new = type.Bool ∷ type.Bool ∷ [];
    asked = ap (λ (r : Writing). r.found) is_not_written;
    written = ap (λ (r : Writing). r.body.ops) is_not_written ∙ append_assoc (w.body.ops ++ asks_it ∷ []) (turns_it ∷ []) (op.Set place.variable (Var m2) ∷ []) ∙ append_assoc w.body.ops (asks_it ∷ []) (turns_it ∷ op.Set place.variable (Var m2) ∷ []);
    types = ap (λ (r : Writing). r.body.types) is_not_written ∙ append_assoc w.body.types (type.Bool ∷ []) (type.Bool ∷ []);
    follows = λ p numbers raised arguments rest e frames core g world vs structs has stands left room inside below given good. is_not_follows p raised arguments rest e frames core g world (references world.heap vs) stands left inside vs given room;
  }

-- ---- two lists

pub by_pointers : (k l : Kind) → of_list k ≡ true → of_list l ≡ true → (around : Around) (a b : Operand) (body : Body) → identical_by k l around a b body ≡ same_pointer_of (type_of around a) (type_of around b) a.x b.x body
by_pointers kind.List kind.List h k around a b body = refl
by_pointers kind.List kind.MaybeList h k around a b body = refl
by_pointers kind.MaybeList kind.List h k around a b body = refl
by_pointers kind.MaybeList kind.MaybeList h k around a b body = refl
by_pointers kind.List _ h k around a b body = absurd (cc)
by_pointers kind.MaybeList _ h k around a b body = absurd (cc)
by_pointers _ l h k around a b body = absurd (cc)

pointers_written : (around : Around) (a b : Operand) (body : Body) (n : ℕ) → of_list (kind_of a) ≡ true → of_list (kind_of b) ≡ true → type_of around a ≡ type.Ptr n → type_of around b ≡ type.Ptr n → identical around a b body ≡ binary_in binary.Peq type.Bool a.x b.x body
unfolding identical
pointers_written around a b body n ha hb ta tb =
    by_pointers (kind_of a) (kind_of b) ha hb around a b body
    ∙ ap (λ t. same_pointer_of t (type_of around b) a.x b.x body) ta
    ∙ ap (λ t. same_pointer_of (type.Ptr n) t a.x b.x body) tb
    ∙ ap (λ c. if c then binary_in binary.Peq type.Bool a.x b.x body else both_null a.x b.x body) (same_itself n)

module _ (around : Around) (known : Known) (a b : Operand) (core : Core) (g : Ghost) (world : World) (stands : Represents around.layout known g world.heap world.left core.blocks core.statics) where
  abbrev X : Value
  X = operand core.vars a.x

  abbrev Y : Value
  Y = operand core.vars b.x

  one_home : {x y : Home} → Some x ≡ Some y → x ≡ y
  one_home h = cc

  one_head : {i j : ℕ} → Some (Head i) ≡ Some (Head j) → i ≡ j
  one_head h = cc

  both_there : (u v : Meant) → Listing around.layout known g a.element X u → Listing around.layout known g b.element Y v → Tests a.x b.x core (u ∷ v ∷ [])
  both_there u v p q = by (cases_eq p.i q.i)
    where
      use_x : use_of g X ≡ Some (Head p.i)
      use_x = (stands.lists p.n p.i X p.home p.struct).head_use

      use_y : use_of g Y ≡ Some (Head q.i)
      use_y = (stands.lists q.n q.i Y q.home q.struct).head_use

      means : (t : Bool) → (p.i == q.i) ≡ t → meant_identical u v ≡ Some t
      means t e = ap (λ u. meant_identical u v) p.high ∙ ap (meant_identical (Ref p.i)) q.high ∙ ap Some e

      by : (p.i ≡ q.i) ⊎ (p.i ≡ q.i → ⊥) → Tests a.x b.x core (u ∷ v ∷ [])
      by (inl e) =
          let same : X ≡ Y = ap (λ (h : Home). h.head) (one_home (sym p.home ∙ ap (λ k. slice_get g.homes k) e ∙ q.home)) in
          record { truth = true; low = ap (λ y. compared X y) (sym same) ∙ names_itself g X (Head p.i) use_x; first = u; second = v; values = refl; high = means true (ap (λ k. p.i == k) (sym e) ∙ same_itself p.i) }
      by (inr apart) = record {
        truth = false;
        low = names_other g X Y (Head p.i) (Head q.i) use_x use_y (λ e. apart (one_head (sym use_x ∙ ap (use_of g) e ∙ use_y)));
        first = u;
        second = v;
        values = refl;
        high = means false (not_same p.i q.i apart);
      }

  first_there : (u v : Meant) → Listing around.layout known g a.element X u → Y ≡ Null → v ≡ Nothing → Tests a.x b.x core (u ∷ v ∷ [])
  first_there u v p low high = record {
    truth = false;
    low = ap (compared X) low ∙ found_there core.blocks core.statics X _ (stands.lists p.n p.i X p.home p.struct).head_is;
    first = u;
    second = v;
    values = refl;
    high = ap (λ u. meant_identical u v) p.high ∙ ap (meant_identical (Ref p.i)) high;
  }

  second_there : (u v : Meant) → X ≡ Null → u ≡ Nothing → Listing around.layout known g b.element Y v → Tests a.x b.x core (u ∷ v ∷ [])
  second_there u v low high q = record {
    truth = false;
    low = ap (λ x. compared x Y) low ∙ null_first g Y (Head q.i) (stands.lists q.n q.i Y q.home q.struct).head_use;
    first = u;
    second = v;
    values = refl;
    high = ap (λ u. meant_identical u v) high ∙ ap (meant_identical Nothing) q.high;
  }

  tests_both : of_list (kind_of a) ≡ true → of_list (kind_of b) ≡ true → (vs : List Meant) → Given known around g core (a ∷ b ∷ []) vs → Tests a.x b.x core vs
  tests_both ha hb [] given = absurd given
  tests_both ha hb (u ∷ []) given = absurd given.1
  tests_both ha hb (u ∷ v ∷ []) given = by (list_or_none ha given.0) (list_or_none hb given.1.0)
    where
      by : Listing around.layout known g a.element X u ⊎ Absent a.element X u → Listing around.layout known g b.element Y v ⊎ Absent b.element Y v → Tests a.x b.x core (u ∷ v ∷ [])
      by (inl p) (inl q) = both_there u v p q
      by (inl p) (inr q) = first_there u v p q.low q.high
      by (inr p) (inl q) = second_there u v p.low p.high q
      by (inr p) (inr q) = record { truth = true; low = ap (λ x. compared x Y) p.low ∙ ap (compared Null) q.low; first = u; second = v; values = refl; high = ap (λ u. meant_identical u v) p.high ∙ ap (meant_identical Nothing) q.high }
  tests_both ha hb (u ∷ v ∷ z ∷ vs) given = absurd given.1.1

  -- ---- a list beside `None`

  tests_first : of_list (kind_of a) ≡ true → kind_of b ≡ kind.Nothing → (vs : List Meant) → Given known around g core (a ∷ b ∷ []) vs → Tests a.x null core vs
  tests_first ha hb [] given = absurd given
  tests_first ha hb (u ∷ []) given = absurd given.1
  tests_first ha hb (u ∷ v ∷ []) given = by (list_or_none ha given.0)
    where
      by : Listing around.layout known g a.element X u ⊎ Absent a.element X u → Tests a.x null core (u ∷ v ∷ [])
      by (inl p) = record {
        truth = false;
        low = found_there core.blocks core.statics X _ (stands.lists p.n p.i X p.home p.struct).head_is;
        first = u;
        second = v;
        values = refl;
        high = ap (λ u. meant_identical u v) p.high ∙ ap (meant_identical (Ref p.i)) (nothing_held hb given.1.0);
      }
      by (inr p) = record { truth = true; low = ap (λ x. compared x Null) p.low; first = u; second = v; values = refl; high = ap (λ u. meant_identical u v) p.high ∙ ap (meant_identical Nothing) (nothing_held hb given.1.0) }
  tests_first ha hb (u ∷ v ∷ z ∷ vs) given = absurd given.1.1

  tests_second : kind_of a ≡ kind.Nothing → of_list (kind_of b) ≡ true → (vs : List Meant) → Given known around g core (a ∷ b ∷ []) vs → Tests b.x null core vs
  tests_second ha hb [] given = absurd given
  tests_second ha hb (u ∷ []) given = absurd given.1
  tests_second ha hb (u ∷ v ∷ []) given = by (list_or_none hb given.1.0)
    where
      by : Listing around.layout known g b.element Y v ⊎ Absent b.element Y v → Tests b.x null core (u ∷ v ∷ [])
      by (inl p) = record {
        truth = false;
        low = found_there core.blocks core.statics Y _ (stands.lists p.n p.i Y p.home p.struct).head_is;
        first = u;
        second = v;
        values = refl;
        high = ap (λ u. meant_identical u v) (nothing_held ha given.0) ∙ ap (meant_identical Nothing) p.high;
      }
      by (inr p) = record { truth = true; low = ap (λ x. compared x Null) p.low; first = u; second = v; values = refl; high = ap (λ u. meant_identical u v) (nothing_held ha given.0) ∙ ap (meant_identical Nothing) p.high }
  tests_second ha hb (u ∷ v ∷ z ∷ vs) given = absurd given.1.1

pub identity_is_done : ListsAreCompared compare_op.Is
identity_is_done known around place a b w covers n ha hb ta tb flags =
    is_done around known place a b w covers flags (list_comes a ha) (list_comes b hb) a.x b.x (pointers_written around a b w.body n ha hb ta tb) (λ core g world vs stands given. tests_both around known a b core g world stands ha hb vs given)

pub difference_is_done : ListsAreCompared compare_op.IsNot
difference_is_done known around place a b w covers n ha hb ta tb flags =
    is_not_done around known place a b w covers flags (list_comes a ha) (list_comes b hb) a.x b.x (pointers_written around a b w.body n ha hb ta tb) (λ core g world vs stands given. tests_both around known a b core g world stands ha hb vs given)

-- ---- what is written beside `None`

none_comes : (a : Operand) → kind_of a ≡ kind.Nothing → Comes a
none_comes a h = ap never_comes h

first_is : (k : Kind) → of_list k ≡ true → (around : Around) (a b : Operand) (body : Body) (n : ℕ) → type_of around a ≡ type.Ptr n → identical_by k kind.Nothing around a b body ≡ binary_in binary.Peq type.Bool a.x null body
first_is kind.List h around a b body n t = ap (λ t. beside_none_of t a.x body) t
first_is kind.MaybeList h around a b body n t = ap (λ t. beside_none_of t a.x body) t
first_is _ h around a b body n t = absurd (cc)

second_is : (k : Kind) → of_list k ≡ true → (around : Around) (a b : Operand) (body : Body) (n : ℕ) → type_of around b ≡ type.Ptr n → identical_by kind.Nothing k around a b body ≡ binary_in binary.Peq type.Bool b.x null body
second_is kind.List h around a b body n t = ap (λ t. beside_none_of t b.x body) t
second_is kind.MaybeList h around a b body n t = ap (λ t. beside_none_of t b.x body) t
second_is _ h around a b body n t = absurd (cc)

first_written : (around : Around) (a b : Operand) (body : Body) (n : ℕ) → of_list (kind_of a) ≡ true → type_of around a ≡ type.Ptr n → kind_of b ≡ kind.Nothing → identical around a b body ≡ binary_in binary.Peq type.Bool a.x null body
unfolding identical
first_written around a b body n ha ta hb = ap (λ k. identical_by (kind_of a) k around a b body) hb ∙ first_is (kind_of a) ha around a b body n ta

second_written : (around : Around) (a b : Operand) (body : Body) (n : ℕ) → kind_of a ≡ kind.Nothing → of_list (kind_of b) ≡ true → type_of around b ≡ type.Ptr n → identical around a b body ≡ binary_in binary.Peq type.Bool b.x null body
unfolding identical
second_written around a b body n ha hb tb = ap (λ k. identical_by k (kind_of b) around a b body) ha ∙ second_is (kind_of b) hb around a b body n tb

pub beside_none_is_done : ListsAreBesideNone compare_op.Is
beside_none_is_done known around place a b w covers n flags (inl (ha, ta, hb)) =
    is_done around known place a b w covers flags (list_comes a ha) (none_comes b hb) a.x null (first_written around a b w.body n ha ta hb) (λ core g world vs stands given. tests_first around known a b core g world stands ha hb vs given)
beside_none_is_done known around place a b w covers n flags (inr (ha, hb, tb)) =
    is_done around known place a b w covers flags (none_comes a ha) (list_comes b hb) b.x null (second_written around a b w.body n ha hb tb) (λ core g world vs stands given. tests_second around known a b core g world stands ha hb vs given)

pub beside_none_is_not_done : ListsAreBesideNone compare_op.IsNot
beside_none_is_not_done known around place a b w covers n flags (inl (ha, ta, hb)) =
    is_not_done around known place a b w covers flags (list_comes a ha) (none_comes b hb) a.x null (first_written around a b w.body n ha ta hb) (λ core g world vs stands given. tests_first around known a b core g world stands ha hb vs given)
beside_none_is_not_done known around place a b w covers n flags (inr (ha, hb, tb)) =
    is_not_done around known place a b w covers flags (none_comes a ha) (list_comes b hb) b.x null (second_written around a b w.body n ha hb tb) (λ core g world vs stands given. tests_second around known a b core g world stands ha hb vs given)
