-- What blocks and statics are for, and where objects stand. All of it only grows: whatever is written into blocks, nothing else stands for
-- other values than before.
use Rattle.std.specs.Prelude.{◌≡◌, ℕ, List, ◌++◌, Option, None, slice_get}
use Rattle.csub_tree.specs.State.{Value, Ptr, Static, Block}

-- It stays what it is, as a string, a tuple and a vtable do. It is the first one of the list of this number, or an array of it; the one of
-- the instance of this number; or the first one of the dict of this number, or one of its two arrays. Or it is none of these.
pub data Use : Type 0 where
  Stays : Block → Use
  Head : ℕ → Use
  Array : ℕ → Use
  Whole : ℕ → Use
  Table : ℕ → Use
  First : ℕ → Use
  Second : ℕ → Use
  Other : Use

-- what an object is: a list of this struct, an instance of this class, a dict of this struct, or nothing that is known here
pub data Sort : Type 0 where
  ListOf : ℕ → Sort
  InstanceOf : ℕ → Sort
  DictOf : ℕ → Sort
  Unseen : Sort

-- where an object stands: what it is, and its first block or static
pub record Home : Type 0 where
  pub sort : Sort
  pub head : Value

-- of each block that was made, of each static and of each object
pub record Ghost : Type 0 where
  pub blocks : List Use
  pub statics : List Use
  pub homes : List Home

abbrev pub use_of : Ghost → Value → Option Use
use_of g (Ptr b) = slice_get g.blocks b
use_of g (Static s) = slice_get g.statics s
use_of g value = None

-- more blocks and more objects
pub record Grown (old new : Ghost) : Type 0 where
  pub uses : List Use
  pub objects : List Home
  pub blocks : new.blocks ≡ old.blocks ++ uses
  pub statics : new.statics ≡ old.statics
  pub homes : new.homes ≡ old.homes ++ objects

-- How many blocks stand for an object that can be reached: a head and an array for a list, one for an instance, as for a string and a tuple,
-- and a head and two arrays for a dict.
abbrev pub blocks_of : Sort → ℕ
blocks_of (ListOf n) = 2
blocks_of (InstanceOf class) = 1
blocks_of (DictOf n) = 3
blocks_of Unseen = 0
