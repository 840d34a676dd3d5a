-- When blocks of memory are the objects, tuples and strings of a heap: each object has its own blocks, at most three.
use Rattle.std.specs.Prelude.{◌≡◌, ◌⊎◌, ◌<◌, ◌≤◌, ℕ, ◌+◌, ◌*◌, true, sum_by, List, [], ◌∷◌, length, Option}
use Rattle.std.specs.List.{flat_map}
use Rattle.csub_tree.specs.State.{Value, Ptr, Block}
use Rattle.rpy_tree.specs.Value.{Value as Meant, Text, Tuple, Ref, Values, none, more, Heap}
use Rattle.rpy_tree.specs.Held.{refs, texts, values_at}
use Rattle.rpy_meaning.specs.Moments.{held}
use Rattle.ll_held.specs.Held.{times, cells_at, Refers, are_distinct, AllHeld}

abbrev pub IsIn : ℕ → List ℕ → Type 0
IsIn a [] = ⊥
IsIn a (b ∷ bs) = (a ≡ b) ⊎ IsIn a bs

abbrev pub parts_list : Values → List Meant
parts_list none = []
parts_list (more v vs) = v ∷ parts_list vs

-- a value at low level is a value of a program, as far as blocks go: what leads to no block may be any
mutual
  pub data Stands (blocks : List (Option Block)) (own : ℕ → List ℕ) : Value → Meant → Type 0 where
    elsewhere : {x : Value} {v : Meant} → ((b : ℕ) → x ≡ Ptr b → ⊥) → Stands blocks own x v
    -- a string refers to nothing
    string : {b : ℕ} {bytes : List ℕ} → ((i : ℕ) → IsIn b (own i) → ⊥) → ((c : ℕ) → Refers blocks b c → ⊥) → Stands blocks own (Ptr b) (Text bytes)
    -- a tuple has what stands for its parts in its fields
    tuple : {b : ℕ} {parts : Values} → ((i : ℕ) → IsIn b (own i) → ⊥) → AllStand blocks own (cells_at blocks b) (parts_list parts) → Stands blocks own (Ptr b) (Tuple parts)
    object : {b i : ℕ} → IsIn b (own i) → Stands blocks own (Ptr b) (Ref i)

  pub data AllStand (blocks : List (Option Block)) (own : ℕ → List ℕ) : List Value → List Meant → Type 0 where
    nil : AllStand blocks own [] []
    cons : {x : Value} {v : Meant} {xs : List Value} {vs : List Meant} → Stands blocks own x v → AllStand blocks own xs vs → AllStand blocks own (x ∷ xs) (v ∷ vs)

-- Each object has at most three blocks of its own, which are no other's, and what is kept in it; the objects that are there from the
-- start have none. A block of an object refers to what is kept in it, or on to another of its blocks, of less rank. Whatever refers to a
-- block, this is an object's, or stands for a value: so nothing refers to a block that was replaced.
pub record Represents (prebuilt : ℕ) (heap : Heap) (blocks : List (Option Block)) (own : ℕ → List ℕ) (kept : ℕ → List Value) (rank : ℕ → ℕ) : Type 0 where
  pub few : (i : ℕ) → length (own i) ≤ 3
  pub apart : (b i j : ℕ) → IsIn b (own i) → IsIn b (own j) → i ≡ j
  pub none : (b i : ℕ) → IsIn b (own i) → prebuilt ≤ i
  pub there : (b i : ℕ) → IsIn b (own i) → i < length heap
  pub stand : (i : ℕ) → AllStand blocks own (kept i) (values_at heap i)
  pub from : (i b c : ℕ) → IsIn b (own i) → Refers blocks b c → (IsIn c (own i) × (rank c < rank b)) ⊎ (0 < times c (kept i))
  pub to : (a b : ℕ) → Refers blocks a b → ((i : ℕ) × IsIn b (own i)) ⊎ ((v : Meant) × Stands blocks own (Ptr b) v)

-- ---- the heap

abbrev pub kept_refs : Heap → ℕ → List ℕ
kept_refs heap i = flat_map refs (values_at heap i)

abbrev pub HeapRefers : Heap → ℕ → ℕ → Type 0
HeapRefers heap i j = IsIn j (kept_refs heap i)

-- one or more references lead from the one object to the other
pub data HeapReaches (heap : Heap) : ℕ → ℕ → Type 0 where
  Next : {i j : ℕ} → HeapRefers heap i j → HeapReaches heap i j
  Then : {i j k : ℕ} → HeapReaches heap i j → HeapRefers heap j k → HeapReaches heap i k

pub data HeapHeld (heap : Heap) (roots : List Meant) : ℕ → Type 0 where
  Root : {i : ℕ} → IsIn i (flat_map refs roots) → HeapHeld heap roots i
  Cycle : {i : ℕ} → HeapReaches heap i i → HeapHeld heap roots i
  From : {i j : ℕ} → HeapHeld heap roots i → HeapRefers heap i j → HeapHeld heap roots j

-- ---- how many

-- each block that the roots name is named by one of the values that stand for these
pub record RootsStand (blocks : List (Option Block)) (own : ℕ → List ℕ) (roots : List Value) (holds : List Meant) : Type 0 where
  pub values : List Value
  pub stand : AllStand blocks own values holds
  pub among : (b : ℕ) → 0 < times b roots → 0 < times b values

-- However many blocks are held, there are at most three for each object, string and tuple that is held. `objects` has each object that
-- roots or cycles reach, but for those that are there from the start.
abbrev pub FewBlocks : ℕ → Heap → List (Option Block) → List Value → List Meant → Type 0
FewBlocks prebuilt heap blocks roots holds =
    (objects : List ℕ) → ((i : ℕ) → HeapHeld heap holds i → prebuilt ≤ i → i < length heap → IsIn i objects)
    → (bs : List ℕ) → are_distinct bs ≡ true → AllHeld blocks roots bs → length bs ≤ 3 * length objects + (sum_by texts holds + sum_by (λ i. sum_by texts (values_at heap i)) objects)

-- no reference leads out of the heap
pub record IsWhole (heap : Heap) (holds : List Meant) : Type 0 where
  pub kept : (i j : ℕ) → HeapRefers heap i j → j < length heap
  pub held : (j : ℕ) → IsIn j (flat_map refs holds) → j < length heap

-- by the number of values that are held
abbrev pub AtMostThree : ℕ → Heap → List (Option Block) → List Value → List Meant → Type 0
AtMostThree prebuilt heap blocks roots holds = (bs : List ℕ) → are_distinct bs ≡ true → AllHeld blocks roots bs → length bs ≤ 3 * held prebuilt holds heap
