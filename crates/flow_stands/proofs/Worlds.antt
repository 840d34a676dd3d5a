-- Worlds before and after a part of a run, and what operations answer.
use Rattle.std.proofs.Common.{◌≡◌, ℕ, zero, suc, ◌+◌, ◌<◌, ◌≤◌, List, [], ◌∷◌, ◌++◌, true, Some, None, Option, refl, sym, ap, ◌∙◌, arith}
use Rattle.std.specs.Prelude.{slice_get, slice_set}
use Rattle.rpy_tree.specs.Value.{Value, Fun, Object, Instance, Heap}
use Rattle.rpy_meaning.specs.Tree.{Program}
use Rattle.rpy_meaning.specs.World.{World, Answer, Gives, Throws, Fails, Lacks, Enters, Bad}
use Rattle.rpy_meaning.specs.Classes.{is_below}
use Rattle.rpy_meaning.specs.Operations.{builtin_classes}
use Rattle.flow_meaning.specs.Roots.{and_some}

-- what values weigh together
abbrev pub total : (Value → ℕ) → List Value → ℕ
total weight [] = 0
total weight (v ∷ vs) = weight v + total weight vs

pub total_append : (wt : Value → ℕ) (a b : List Value) → total wt (a ++ b) ≡ total wt a + total wt b
total_append wt [] b = omega arith
total_append wt (v ∷ a) b = omega (arith, total_append wt a b)

-- a weight that functions do not have
pub record Weight : Type 0 where
  pub of : Value → ℕ
  pub functions : (f : ℕ) → of (Fun f) ≡ 0

-- the class of an instance
abbrev pub class_of : Option Object → Option ℕ
class_of (Some (Instance class attributes)) = Some class
class_of other = None

abbrev pub class_at : Heap → ℕ → Option ℕ
class_at heap r = class_of (slice_get heap r)

-- no more steps are left, and each instance is one of its class
pub record Later (w u : World) : Type 0 where
  pub left : u.left ≤ w.left
  pub kinds : (r c : ℕ) → class_at w.heap r ≡ Some c → class_at u.heap r ≡ Some c

pub same : (w : World) → Later w w
same w = record { left = omega arith; kinds = λ r c e. e }

pub later_on : {w u x : World} → Later w u → Later u x → Later w x
later_on a b = record { left = omega (arith, a.left, b.left); kinds = λ r c e. b.kinds r c (a.kinds r c e) }

-- the first objects are the instances of the builtin exception classes
pub record Sound (heap : Heap) : Type 0 where
  pub builtin : (i : ℕ) → i < builtin_classes → class_at heap i ≡ Some i

pub sound_on : {w u : World} → Later w u → Sound w.heap → Sound u.heap
sound_on a s = record { builtin = λ i lt. a.kinds i i (s.builtin i lt) }

-- an exception: an instance of a class below `Exception`
pub record Thrown (p : Program) (heap : Heap) (r : ℕ) : Type 0 where
  pub class : ℕ
  pub is : class_at heap r ≡ Some class
  pub below : is_below p.classes class 0 ≡ true

pub thrown_on : {p : Program} {w u : World} {r : ℕ} → Later w u → Thrown p w.heap r → Thrown p u.heap r
thrown_on {r = r} a t = record { class = t.class; is = a.kinds r t.class t.is; below = t.below }

-- a call passes its operands on, and an instance besides that stands in place of its result
abbrev pub Passes : List Value → List Value → Option Value → Type 0
Passes vs args instead = (wt : Weight) → total wt.of vs + total wt.of (and_some instead []) ≤ total wt.of args

abbrev pub Fine : Program → List Value → World → Answer → Type 0
Fine p vs w (Gives v u) = Later w u
Fine p vs w (Throws r u) = Later w u × Thrown p u.heap r
Fine p vs w (Enters f args instead u) = Later w u × Passes vs args instead
Fine p vs w (Fails name) = Unit {0}
Fine p vs w Lacks = Unit {0}
Fine p vs w Bad = Unit {0}

-- ---- heaps

pub set_kinds : (heap : Heap) (r i : ℕ) (o n : Object) → slice_get heap r ≡ Some o → class_of (Some o) ≡ class_of (Some n) → class_at (slice_set heap r n) i ≡ class_at heap i
set_kinds [] r i o n e k = refl
set_kinds (x ∷ heap) zero zero o n e k = sym k ∙ ap class_of (sym e)
set_kinds (x ∷ heap) zero (suc i) o n e k = refl
set_kinds (x ∷ heap) (suc r) zero o n e k = refl
set_kinds (x ∷ heap) (suc r) (suc i) o n e k = set_kinds heap r i o n e k

pub new_kinds : (heap : Heap) (o : Object) (i c : ℕ) → class_at heap i ≡ Some c → class_at (heap ++ o ∷ []) i ≡ Some c
new_kinds [] o i c e = absurd (cc e)
new_kinds (x ∷ heap) o zero c e = e
new_kinds (x ∷ heap) o (suc i) c e = new_kinds heap o i c e

pub fine_on : (p : Program) (vs : List Value) (w u : World) (a : Answer) → Later w u → Fine p vs u a → Fine p vs w a
fine_on p vs w u (Gives v x) l h = later_on l h
fine_on p vs w u (Throws r x) l h = (later_on l h.0, h.1)
fine_on p vs w u (Enters f args instead x) l h = (later_on l h.0, h.1)
fine_on p vs w u (Fails name) l h = tt
fine_on p vs w u Lacks l h = tt
fine_on p vs w u Bad l h = tt
