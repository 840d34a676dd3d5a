-- Numbers of classes, such that those below a class have the numbers of a range: a class comes before the classes below it, and these come before
-- what comes after.
use Rattle.std.specs.Prelude.{◌≡◌, ◌<◌, ◌≤◌, ◌↔◌, ℕ, zero, suc, ◌+◌, nat_lt, if◌then◌else◌, Bool, true, false, IsTrue, List, [], ◌∷◌, ◌++◌, length, replicate, slice_set, get_or, Option, Some, None}
use Rattle.rpy_tree.specs.declared.program.ClassInfo.{ClassInfo}
use Rattle.class_desc.specs.Line.{base, above, is_below}
use Rattle.class_desc.specs.declared.range.Laid.{Laid}

-- the bases from here on come to an end within so many
abbrev pub ends : List ClassInfo → ℕ → Option ℕ → Bool
ends classes k None = true
ends classes zero (Some c) = false
ends classes (suc k) (Some c) = ends classes k (base classes c)

-- bases are classes, and those of each class come to an end
pub record IsForest (classes : List ClassInfo) : Type 0 where
  pub bases : (c b : ℕ) → base classes c ≡ Some b → b < length classes
  pub ending : (c : ℕ) → c < length classes → ends classes (length classes) (Some c) ≡ true

-- ---- how many classes are below each

abbrev pub bump : ℕ → ℕ → List ℕ → List ℕ
bump place by counts = if nat_lt place (length counts) then slice_set counts place (get_or counts place 0 + by) else counts

abbrev pub bumps : List ℕ → List ℕ → List ℕ
bumps [] counts = counts
bumps (c ∷ cs) counts = bumps cs (bump c 1 counts)

-- of the first so many classes
abbrev pub sizes_to : List ClassInfo → ℕ → List ℕ
sizes_to classes zero = replicate (length classes) 0
sizes_to classes (suc k) = bumps (above classes k) (sizes_to classes k)

abbrev pub sizes : List ClassInfo → List ℕ
sizes classes = sizes_to classes (length classes)

-- ---- by how much the number of a class is above that of its base: one more than what is below its elder siblings

-- 0 stands for no base
abbrev pub slot : Option ℕ → ℕ
slot None = 0
slot (Some b) = suc b

abbrev pub parent : List ClassInfo → ℕ → ℕ
parent classes c = slot (base classes c)

abbrev pub lay : List ClassInfo → List ℕ → ℕ → Laid → Laid
lay classes sizes c l = record {
  offsets = l.offsets ++ (get_or l.taken (parent classes c) 0 + 1) ∷ [];
  taken = bump (parent classes c) (get_or sizes c 0) l.taken;
}

abbrev pub laid_to : List ClassInfo → List ℕ → ℕ → Laid
laid_to classes sizes zero = record { offsets = []; taken = replicate (suc (length classes)) 0 }
laid_to classes sizes (suc k) = lay classes sizes k (laid_to classes sizes k)

abbrev pub offsets : List ClassInfo → List ℕ
offsets classes = (laid_to classes (sizes classes) (length classes)).offsets

-- ---- numbers and ranges

abbrev pub summed : List ℕ → List ℕ → ℕ → ℕ
summed offsets [] sum = sum
summed offsets (c ∷ cs) sum = summed offsets cs (sum + get_or offsets c 0)

abbrev pub number : List ClassInfo → List ℕ → ℕ → ℕ
number classes offsets c = summed offsets (above classes c) 0

abbrev pub range_by : List ClassInfo → List ℕ → List ℕ → ℕ → ℕ × ℕ
range_by classes sizes offsets c = (number classes offsets c, number classes offsets c + get_or sizes c 0)

abbrev pub ranges_to : List ClassInfo → List ℕ → List ℕ → ℕ → List (ℕ × ℕ)
ranges_to classes sizes offsets zero = []
ranges_to classes sizes offsets (suc k) = ranges_to classes sizes offsets k ++ range_by classes sizes offsets k ∷ []

abbrev pub ranges : List ClassInfo → List (ℕ × ℕ)
ranges classes = ranges_to classes (sizes classes) (offsets classes) (length classes)

-- the number of a class, and the end of the numbers of those below it
abbrev pub range : List ClassInfo → ℕ → ℕ × ℕ
range classes c = get_or (ranges classes) c (0, 0)

-- a class is below another exactly where its number lies in the other's range
abbrev pub IsExact : List ClassInfo → Type 0
IsExact classes = (c d : ℕ) → c < length classes → d < length classes
    → IsTrue (is_below classes c d) ↔ (((range classes d).0 ≤ (range classes c).0) × ((range classes c).0 < (range classes d).1))
