-- Whether two dicts are the same, and whether one is `None`.
use Rattle.std.proofs.Common.{◌≡◌, ℕ, ◌==◌, ◌⊎◌, inl, inr, Bool, true, false, List, [], ◌∷◌, Some, refl, sym, ap, ◌∙◌}
use Rattle.std.specs.Prelude.{slice_get, if◌then◌else◌}
use Rattle.std.proofs.lemmas.Bool.{cases_eq}
use Rattle.csub_tree.specs.State.{Value, Null, Core}
use Rattle.csub_tree.specs.Operation.{compared}
use Rattle.csub_tree.specs.Statement.{operand}
use Rattle.csub_tree.specs.declared.tree.CBinary.TheVariants as binary
use Rattle.rpy_tree.specs.declared.syntax.CmpOp.TheVariants as compare_op
use Rattle.rpy_tree.specs.Value.{Value as Meant, Nothing, Ref}
use Rattle.rpy_meaning.specs.Compare.{identical as meant_identical}
use Rattle.rpy_meaning.specs.World.{World}
use Rattle.ll_code.specs.declared.program.LlType.TheVariants as type
use Rattle.rtyper_layout.specs.declared.kind.Kind.{Kind}
use Rattle.rtyper_layout.specs.declared.kind.Kind.TheVariants as kind
use Rattle.rtyper_data.specs.declared.body.Body.{Body}
use Rattle.rtyper_data.specs.Comparing.{null, binary_in, identical, identical_by, same_pointer_of, both_null, beside_none_of}
use Rattle.rtyper_data.specs.Seen.{Around, Operand, type_of, kind_of}
use Rattle.rtyper_op.specs.Lowering.{never_comes}
use Rattle.rtyper_dict.specs.Operands.{of_dict}
use Rattle.lower_laws.proofs.Coming.{Comes}
use Rattle.list_laws.proofs.Identity.{Tests, is_done, is_not_done, names_itself, names_other, not_same, null_first, same_itself}
use Rattle.dict_op_laws.specs.Dicts.{DictsAreBesideNone, DictsAreCompared}
use Rattle.dict_op_laws.proofs.Lengths.{same_kind}
use Rattle.dict_op_laws.proofs.Truths.{dict_comes}
use Rattle.object_laws.proofs.Nothings.{nothing_held}
use Rattle.object_laws.specs.Ghost.{Ghost, Home, Table, use_of}
use Rattle.object_laws.specs.Known.{Known}
use Rattle.object_laws.specs.Represents.{Represents}
use Rattle.object_laws.specs.Values.{Given}
use Rattle.object_laws.proofs.Blocks.{found_there}
use Rattle.object_laws.proofs.Valued.{Dicting, Gone, dict_or_none}

-- ---- two dicts

pub by_pointers : (k l : Kind) → of_dict k ≡ true → of_dict l ≡ true → (around : Around) (a b : Operand) (body : Body) → identical_by k l around a b body ≡ same_pointer_of (type_of around a) (type_of around b) a.x b.x body
by_pointers kind.Dict kind.Dict h k around a b body = refl
by_pointers kind.Dict kind.MaybeDict h k around a b body = refl
by_pointers kind.MaybeDict kind.Dict h k around a b body = refl
by_pointers kind.MaybeDict kind.MaybeDict h k around a b body = refl
by_pointers kind.Dict _ h k around a b body = absurd (cc)
by_pointers kind.MaybeDict _ h k around a b body = absurd (cc)
by_pointers _ l h k around a b body = absurd (cc)

pointers_written : (around : Around) (a b : Operand) (body : Body) (n : ℕ) → of_dict (kind_of a) ≡ true → of_dict (kind_of b) ≡ true → type_of around a ≡ type.Ptr n → type_of around b ≡ type.Ptr n → identical around a b body ≡ binary_in binary.Peq type.Bool a.x b.x body
unfolding identical
pointers_written around a b body n ha hb ta tb =
    by_pointers (kind_of a) (kind_of b) ha hb around a b body
    ∙ ap (λ t. same_pointer_of t (type_of around b) a.x b.x body) ta
    ∙ ap (λ t. same_pointer_of (type.Ptr n) t a.x b.x body) tb
    ∙ ap (λ c. if c then binary_in binary.Peq type.Bool a.x b.x body else both_null a.x b.x body) (same_itself n)

module _ (around : Around) (known : Known) (a b : Operand) (core : Core) (g : Ghost) (world : World) (stands : Represents around.layout known g world.heap world.left core.blocks core.statics) where
  abbrev X : Value
  X = operand core.vars a.x

  abbrev Y : Value
  Y = operand core.vars b.x

  one_home : {x y : Home} → Some x ≡ Some y → x ≡ y
  one_home h = cc

  one_head : {i j : ℕ} → Some (Table i) ≡ Some (Table j) → i ≡ j
  one_head h = cc

  both_there : (u v : Meant) → Dicting around.layout known g a.element X u → Dicting around.layout known g b.element Y v → Tests a.x b.x core (u ∷ v ∷ [])
  both_there u v p q = by (cases_eq p.i q.i)
    where
      use_x : use_of g X ≡ Some (Table p.i)
      use_x = (stands.dicts p.n p.i X p.m p.home p.struct).head_use

      use_y : use_of g Y ≡ Some (Table q.i)
      use_y = (stands.dicts q.n q.i Y q.m q.home q.struct).head_use

      means : (t : Bool) → (p.i == q.i) ≡ t → meant_identical u v ≡ Some t
      means t e = ap (λ u. meant_identical u v) p.high ∙ ap (meant_identical (Ref p.i)) q.high ∙ ap Some e

      by : (p.i ≡ q.i) ⊎ (p.i ≡ q.i → ⊥) → Tests a.x b.x core (u ∷ v ∷ [])
      by (inl e) =
          let same : X ≡ Y = ap (λ (h : Home). h.head) (one_home (sym p.home ∙ ap (λ k. slice_get g.homes k) e ∙ q.home)) in
          record { truth = true; low = ap (λ y. compared X y) (sym same) ∙ names_itself g X (Table p.i) use_x; first = u; second = v; values = refl; high = means true (ap (λ k. p.i == k) (sym e) ∙ same_itself p.i) }
      by (inr apart) = record {
        truth = false;
        low = names_other g X Y (Table p.i) (Table q.i) use_x use_y (λ e. apart (one_head (sym use_x ∙ ap (use_of g) e ∙ use_y)));
        first = u;
        second = v;
        values = refl;
        high = means false (not_same p.i q.i apart);
      }

  first_there : (u v : Meant) → Dicting around.layout known g a.element X u → Y ≡ Null → v ≡ Nothing → Tests a.x b.x core (u ∷ v ∷ [])
  first_there u v p low high = record {
    truth = false;
    low = ap (compared X) low ∙ found_there core.blocks core.statics X _ (stands.dicts p.n p.i X p.m p.home p.struct).head_is;
    first = u;
    second = v;
    values = refl;
    high = ap (λ u. meant_identical u v) p.high ∙ ap (meant_identical (Ref p.i)) high;
  }

  second_there : (u v : Meant) → X ≡ Null → u ≡ Nothing → Dicting around.layout known g b.element Y v → Tests a.x b.x core (u ∷ v ∷ [])
  second_there u v low high q = record {
    truth = false;
    low = ap (λ x. compared x Y) low ∙ null_first g Y (Table q.i) (stands.dicts q.n q.i Y q.m q.home q.struct).head_use;
    first = u;
    second = v;
    values = refl;
    high = ap (λ u. meant_identical u v) high ∙ ap (meant_identical Nothing) q.high;
  }

  tests_both : of_dict (kind_of a) ≡ true → of_dict (kind_of b) ≡ true → (vs : List Meant) → Given known around g core (a ∷ b ∷ []) vs → Tests a.x b.x core vs
  tests_both ha hb [] given = absurd given
  tests_both ha hb (u ∷ []) given = absurd given.1
  tests_both ha hb (u ∷ v ∷ []) given = by (dict_or_none (sym (same_kind (kind_of a)) ∙ ha) given.0) (dict_or_none (sym (same_kind (kind_of b)) ∙ hb) given.1.0)
    where
      by : Dicting around.layout known g a.element X u ⊎ Gone kind.MaybeDict a.element X u → Dicting around.layout known g b.element Y v ⊎ Gone kind.MaybeDict b.element Y v → Tests a.x b.x core (u ∷ v ∷ [])
      by (inl p) (inl q) = both_there u v p q
      by (inl p) (inr q) = first_there u v p q.low q.high
      by (inr p) (inl q) = second_there u v p.low p.high q
      by (inr p) (inr q) = record { truth = true; low = ap (λ x. compared x Y) p.low ∙ ap (compared Null) q.low; first = u; second = v; values = refl; high = ap (λ u. meant_identical u v) p.high ∙ ap (meant_identical Nothing) q.high }
  tests_both ha hb (u ∷ v ∷ z ∷ vs) given = absurd given.1.1

  -- ---- a dict beside `None`

  tests_first : of_dict (kind_of a) ≡ true → kind_of b ≡ kind.Nothing → (vs : List Meant) → Given known around g core (a ∷ b ∷ []) vs → Tests a.x null core vs
  tests_first ha hb [] given = absurd given
  tests_first ha hb (u ∷ []) given = absurd given.1
  tests_first ha hb (u ∷ v ∷ []) given = by (dict_or_none (sym (same_kind (kind_of a)) ∙ ha) given.0)
    where
      by : Dicting around.layout known g a.element X u ⊎ Gone kind.MaybeDict a.element X u → Tests a.x null core (u ∷ v ∷ [])
      by (inl p) = record {
        truth = false;
        low = found_there core.blocks core.statics X _ (stands.dicts p.n p.i X p.m p.home p.struct).head_is;
        first = u;
        second = v;
        values = refl;
        high = ap (λ u. meant_identical u v) p.high ∙ ap (meant_identical (Ref p.i)) (nothing_held hb given.1.0);
      }
      by (inr p) = record { truth = true; low = ap (λ x. compared x Null) p.low; first = u; second = v; values = refl; high = ap (λ u. meant_identical u v) p.high ∙ ap (meant_identical Nothing) (nothing_held hb given.1.0) }
  tests_first ha hb (u ∷ v ∷ z ∷ vs) given = absurd given.1.1

  tests_second : kind_of a ≡ kind.Nothing → of_dict (kind_of b) ≡ true → (vs : List Meant) → Given known around g core (a ∷ b ∷ []) vs → Tests b.x null core vs
  tests_second ha hb [] given = absurd given
  tests_second ha hb (u ∷ []) given = absurd given.1
  tests_second ha hb (u ∷ v ∷ []) given = by (dict_or_none (sym (same_kind (kind_of b)) ∙ hb) given.1.0)
    where
      by : Dicting around.layout known g b.element Y v ⊎ Gone kind.MaybeDict b.element Y v → Tests b.x null core (u ∷ v ∷ [])
      by (inl p) = record {
        truth = false;
        low = found_there core.blocks core.statics Y _ (stands.dicts p.n p.i Y p.m p.home p.struct).head_is;
        first = u;
        second = v;
        values = refl;
        high = ap (λ u. meant_identical u v) (nothing_held ha given.0) ∙ ap (meant_identical Nothing) p.high;
      }
      by (inr p) = record { truth = true; low = ap (λ x. compared x Null) p.low; first = u; second = v; values = refl; high = ap (λ u. meant_identical u v) (nothing_held ha given.0) ∙ ap (meant_identical Nothing) p.high }
  tests_second ha hb (u ∷ v ∷ z ∷ vs) given = absurd given.1.1

pub identity_is_done : DictsAreCompared compare_op.Is
identity_is_done known around place a b w covers n m ha hb flags =
    is_done around known place a b w covers flags (dict_comes a ha.dicts) (dict_comes b hb.dicts) a.x b.x (pointers_written around a b w.body n ha.dicts hb.dicts ha.typed hb.typed) (λ core g world vs stands given. tests_both around known a b core g world stands ha.dicts hb.dicts vs given)

pub difference_is_done : DictsAreCompared compare_op.IsNot
difference_is_done known around place a b w covers n m ha hb flags =
    is_not_done around known place a b w covers flags (dict_comes a ha.dicts) (dict_comes b hb.dicts) a.x b.x (pointers_written around a b w.body n ha.dicts hb.dicts ha.typed hb.typed) (λ core g world vs stands given. tests_both around known a b core g world stands ha.dicts hb.dicts vs given)

-- ---- what is written beside `None`

none_comes : (a : Operand) → kind_of a ≡ kind.Nothing → Comes a
none_comes a h = ap never_comes h

first_is : (k : Kind) → of_dict k ≡ true → (around : Around) (a b : Operand) (body : Body) (n : ℕ) → type_of around a ≡ type.Ptr n → identical_by k kind.Nothing around a b body ≡ binary_in binary.Peq type.Bool a.x null body
first_is kind.Dict h around a b body n t = ap (λ t. beside_none_of t a.x body) t
first_is kind.MaybeDict h around a b body n t = ap (λ t. beside_none_of t a.x body) t
first_is _ h around a b body n t = absurd (cc)

second_is : (k : Kind) → of_dict k ≡ true → (around : Around) (a b : Operand) (body : Body) (n : ℕ) → type_of around b ≡ type.Ptr n → identical_by kind.Nothing k around a b body ≡ binary_in binary.Peq type.Bool b.x null body
second_is kind.Dict h around a b body n t = ap (λ t. beside_none_of t b.x body) t
second_is kind.MaybeDict h around a b body n t = ap (λ t. beside_none_of t b.x body) t
second_is _ h around a b body n t = absurd (cc)

first_written : (around : Around) (a b : Operand) (body : Body) (n : ℕ) → of_dict (kind_of a) ≡ true → type_of around a ≡ type.Ptr n → kind_of b ≡ kind.Nothing → identical around a b body ≡ binary_in binary.Peq type.Bool a.x null body
unfolding identical
first_written around a b body n ha ta hb = ap (λ k. identical_by (kind_of a) k around a b body) hb ∙ first_is (kind_of a) ha around a b body n ta

second_written : (around : Around) (a b : Operand) (body : Body) (n : ℕ) → kind_of a ≡ kind.Nothing → of_dict (kind_of b) ≡ true → type_of around b ≡ type.Ptr n → identical around a b body ≡ binary_in binary.Peq type.Bool b.x null body
unfolding identical
second_written around a b body n ha hb tb = ap (λ k. identical_by k (kind_of b) around a b body) ha ∙ second_is (kind_of b) hb around a b body n tb

pub beside_none_is_done : DictsAreBesideNone compare_op.Is
beside_none_is_done known around place a b w covers n m flags (inl (ha, hb)) =
    is_done around known place a b w covers flags (dict_comes a ha.dicts) (none_comes b hb) a.x null (first_written around a b w.body n ha.dicts ha.typed hb) (λ core g world vs stands given. tests_first around known a b core g world stands ha.dicts hb vs given)
beside_none_is_done known around place a b w covers n m flags (inr (ha, hb)) =
    is_done around known place a b w covers flags (none_comes a ha) (dict_comes b hb.dicts) b.x null (second_written around a b w.body n ha hb.dicts hb.typed) (λ core g world vs stands given. tests_second around known a b core g world stands ha hb.dicts vs given)

pub beside_none_is_not_done : DictsAreBesideNone compare_op.IsNot
beside_none_is_not_done known around place a b w covers n m flags (inl (ha, hb)) =
    is_not_done around known place a b w covers flags (dict_comes a ha.dicts) (none_comes b hb) a.x null (first_written around a b w.body n ha.dicts ha.typed hb) (λ core g world vs stands given. tests_first around known a b core g world stands ha.dicts hb vs given)
beside_none_is_not_done known around place a b w covers n m flags (inr (ha, hb)) =
    is_not_done around known place a b w covers flags (none_comes a ha) (dict_comes b hb.dicts) b.x null (second_written around a b w.body n ha hb.dicts hb.typed) (λ core g world vs stands given. tests_second around known a b core g world stands ha hb.dicts vs given)
