-- What operations on lists throw: builtin exceptions, and only where their failures are covered.
use Rattle.std.proofs.Common.{◌≡◌, ◌<◌, ◌⊎◌, inl, inr, ℕ, Bool, true, false, List, Option, Some, None, refl, sym, ap, ◌∙◌, subst, arith}
use Rattle.std.specs.Prelude.{ℤ, if◌then◌else◌, nat_lt, ◌-◌, not, slice_get}
use Rattle.rpy_base.specs.declared.outcome.FailName.{FailName}
use Rattle.rpy_tree.specs.Value.{Value, Word, Ref, Nothing, Object, Listed, Mapped, Instance, Heap}
use Rattle.rpy_meaning.specs.contracts.row.CoversPartialEq.TheImpl.{eq-value as equal_covers}
use Rattle.rpy_meaning.specs.declared.row.Covers.{Covers}
use Rattle.rpy_meaning.specs.Arithmetic.{on_word}
use Rattle.rpy_meaning.specs.Operations.{builtin_classes}
use Rattle.rpy_meaning.specs.World.{World, Answer, Gives, Throws, Fails, Lacks, Enters, Bad, Op, at_object, attribute_error, failure, if_some, index_error, on_list, paying, with_list}
use Rattle.rtyper_data.specs.Finding.{nothing}
use Rattle.rtyper_program.specs.Raises.{is_covered}

-- an exception is builtin, and this is so
abbrev pub Only : Bool → Answer → Type 0
Only raises (Throws r w) = (raises ≡ true) × (r < builtin_classes)
Only raises other = Unit {0}

-- in every world with this heap
abbrev pub Quiet : Bool → Heap → Op → Type 0
Quiet raises heap o = (w : World) → w.heap ≡ heap → Only raises (o w)

pub only_thrown : (raises : Bool) (a : Answer) (r : ℕ) (w : World) → Only raises a → a ≡ Throws r w → (raises ≡ true) × (r < builtin_classes)
only_thrown raises a r w h e = subst (Only raises) e h

pub raised_only : (raises covers : Bool) (a : Answer) → (covers ≡ true → raises ≡ true) → Only covers a → Only raises a
raised_only raises covers (Throws r w) so h = (so h.0, h.1)
raised_only raises covers (Gives v w) so h = tt
raised_only raises covers (Fails name) so h = tt
raised_only raises covers Lacks so h = tt
raised_only raises covers (Enters f vs instead w) so h = tt
raised_only raises covers Bad so h = tt

-- ---- what is covered

same_covers : (a b : Covers) → equal_covers.it a b ≡ true → a ≡ b
same_covers a b h = grind (arith, h)

uncovered : (c : Covers) → is_covered c ≡ false → c ≡ nothing
uncovered c h = same_covers c nothing (flipped (equal_covers.it c nothing) h)
  where
    flipped : (b : Bool) → not b ≡ false → b ≡ true
    flipped true e = refl
    flipped false e = absurd (let q : true ≡ false = e in cc)

-- where one failure is covered, something is
covered_so : (c : Covers) (of : Covers → Bool) → of nothing ≡ false → of c ≡ true → is_covered c ≡ true
covered_so c of none h = by (is_covered c) refl
  where
    by : (b : Bool) → is_covered c ≡ b → is_covered c ≡ true
    by true e = e
    by false e = absurd (let q : false ≡ true = sym none ∙ ap of (sym (uncovered c e)) ∙ h in cc)

-- ---- failures

module _ (c : Covers) (heap : Heap) where
  failure_quiet : (b : Bool) (class : ℕ) (name : FailName) → class < builtin_classes → (b ≡ true → is_covered c ≡ true) → Quiet (is_covered c) heap (failure b class name)
  failure_quiet true class name few covers w e = (covers refl, few)
  failure_quiet false class name few covers w e = tt

  pub attribute_quiet : Quiet (is_covered c) heap (attribute_error c)
  attribute_quiet = failure_quiet c.attribute 9 _ (omega arith) (covered_so c (λ (c : Covers). c.attribute) refl)

  pub index_quiet : Quiet (is_covered c) heap (index_error c)
  index_quiet = failure_quiet c.index 6 _ (omega arith) (covered_so c (λ (c : Covers). c.index) refl)

module _ (raises : Bool) (heap : Heap) where
  pub paying_quiet : (cost : ℕ) (go : Op) → Quiet raises heap go → Quiet raises heap (paying cost go)
  paying_quiet cost go h w e = by (nat_lt w.left cost)
    where
      by : (b : Bool) → Only raises (if b then Lacks else go (record w { left = w.left - cost }))
      by true = tt
      by false = h (record w { left = w.left - cost }) e

  pub if_some_quiet : {A : Type 0} (missing : Op) (a : Option A) (f : A → Op) → Quiet raises heap missing → ((x : A) → Quiet raises heap (f x)) → Quiet raises heap (if_some missing a f)
  if_some_quiet missing None f h k = h
  if_some_quiet missing (Some x) f h k = k x

-- ---- lists

-- the value is a list, or missing
abbrev pub IsListed : Heap → Value → Type 0
IsListed heap v = (v ≡ Nothing) ⊎ ((i : ℕ) × ((items : List Value) × ((v ≡ Ref i) × (slice_get heap i ≡ Some (Listed items)))))

module _ (raises : Bool) (heap : Heap) where
  pub listed_quiet : (f : Value → Op) (x : Value) → IsListed heap x → Quiet raises heap (f Nothing) → ((r : ℕ) (items : List Value) → slice_get heap r ≡ Some (Listed items) → Quiet raises heap (f (Ref r))) → Quiet raises heap (f x)
  listed_quiet f x (inl e) none some = subst (λ (y : Value). Quiet raises heap (f y)) (sym e) none
  listed_quiet f x (inr it) none some = subst (λ (y : Value). Quiet raises heap (f y)) (sym it.1.1.0) (some it.0 it.1.0 it.1.1.1)

  pub at_listed : (r : ℕ) (items : List Value) (f : Option Object → Op) → slice_get heap r ≡ Some (Listed items) → Quiet raises heap (f (Some (Listed items))) → Quiet raises heap (at_object r f)
  at_listed r items f at h w e = subst (λ (o : Option Object). Only raises (f o w)) (sym (ap (λ (k : Heap). slice_get k r) e ∙ at)) (h w e)

  pub word_quiet : (f : ℤ → Op) (i : Value) → ((z : ℤ) → Quiet raises heap (f z)) → Quiet raises heap (on_word f i)
  word_quiet f (Word z) h w e = h z w e
  word_quiet f other h w e = tt

  pub with_list_quiet : (r : ℕ) (f : List Value → Op) → ((items : List Value) → Quiet raises heap (f items)) → Quiet raises heap (with_list r f)
  with_list_quiet r f h w e = by (slice_get w.heap r)
    where
      by : (o : Option Object) → Only raises (on_list f o w)
      by (Some (Listed items)) = h items w e
      by (Some (Mapped pairs)) = tt
      by (Some (Instance class attributes)) = tt
      by None = tt
