-- One more turn of a walk along bases, and one more class.
use Rattle.std.proofs.Common.{◌≡◌, ℕ, suc, ◌-◌, ◌+◌, ◌<◌, List, ◌∷◌, arith, refl, ◌++◌, [], length, Option, Some}
use Rattle.rpy_tree.specs.declared.program.ClassInfo.{ClassInfo}
use Rattle.class_desc.specs.Line.{base, onward, line, above}
use Rattle.class_desc.specs.Range.{bumps, sizes_to, slot, lay, laid_to, range_by, ranges_to}

pub line_turn : (classes : List ClassInfo) (n i c : ℕ) → i < n → line classes (n - i) c ≡ c ∷ onward (line classes (n - (i + 1))) (base classes c)
line_turn classes n i c lt = let e : n - i ≡ suc (n - (i + 1)) = omega arith in rw e refl

pub sizes_next : (classes : List ClassInfo) (i : ℕ) → sizes_to classes (i + 1) ≡ bumps (above classes i) (sizes_to classes i)
sizes_next classes i = let e : i + 1 ≡ suc i = omega arith in rw e refl

pub laid_next : (classes : List ClassInfo) (sizes : List ℕ) (i : ℕ) → laid_to classes sizes (i + 1) ≡ lay classes sizes i (laid_to classes sizes i)
laid_next classes sizes i = let e : i + 1 ≡ suc i = omega arith in rw e refl

pub one_more : (classes : List ClassInfo) → length classes + 1 ≡ suc (length classes)
one_more classes = omega arith

pub ranges_next : (classes : List ClassInfo) (sizes offsets : List ℕ) (i : ℕ) → ranges_to classes sizes offsets (i + 1) ≡ ranges_to classes sizes offsets i ++ range_by classes sizes offsets i ∷ []
ranges_next classes sizes offsets i = let e : i + 1 ≡ suc i = omega arith in rw e refl

pub slot_is : (b : ℕ) → slot (Some b) ≡ b + 1
slot_is b = omega arith
