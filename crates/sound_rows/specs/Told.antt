-- What is known of the operands of some operations, besides their elements: by a test that stands before, or by how graphs are made.
use Rattle.std.specs.Prelude.{◌≡◌, ◌≢◌, ℕ, ◌+◌, pos, Bool, true, false, List, [], ◌∷◌, length, Some, None}
use Rattle.rpy_tree.specs.declared.syntax.BinOp.TheVariants as bin
use Rattle.rpy_tree.specs.Value.{Value, Word, Flag, Nothing, Ref}
use Rattle.rpy_meaning.specs.declared.row.RowOp.{RowOp}
use Rattle.rpy_meaning.specs.declared.row.RowOp.TheVariants as row
use Rattle.rpy_meaning.specs.Tree.{Program}
use Rattle.rpy_meaning.specs.World.{World, Gives}
use Rattle.rpy_meaning.specs.Classes.{no_covers}
use Rattle.rpy_meaning.specs.Operations.{truth_in, is_instance}
use Rattle.rpy_meaning.specs.Walks.{has_item}
use Rattle.sound_rows.specs.Seen.{is_there}

abbrev pub one_if : Bool → ℕ
one_if true = 1
one_if false = 0

-- a place that a walk has come to
pub record IsPlace (v : Value) : Type 0 where
  pub place : ℕ
  pub is : v ≡ Word (pos place)

-- what is walked is not `None`, and its place is one
pub record IsWalk (x i : Value) : Type 0 where
  pub some : x ≢ Nothing
  pub place : IsPlace i

-- A narrowing stands behind its test; the literal of an index is its value; `os.write` writes to 1; what is walked by place is no `None`, and an item
-- is asked for where there is one; a slice has the bounds that it says; the sum of two lists has a site; and the list of a comprehension is one.
abbrev pub IsTold : Program → World → RowOp → List Value → Type 0
IsTold q w row.DropNone (v ∷ []) = v ≢ Nothing
IsTold q w row.OnlyNone (v ∷ []) = v ≡ Nothing
IsTold q w row.FalseNone (v ∷ []) = truth_in w v ≡ Some false
IsTold q w (row.Lower class) (v ∷ []) = is_instance q no_covers class v w ≡ Gives (Flag true) w
IsTold q w (row.Index (Some z)) (x ∷ i ∷ []) = i ≡ Word z
IsTold q w row.Write (x ∷ y ∷ []) = x ≡ Word (pos 1)
IsTold q w (row.HasItem None) (x ∷ i ∷ []) = IsWalk x i
IsTold q w (row.Item None) (x ∷ i ∷ []) = has_item None x i w ≡ Gives (Flag true) w
IsTold q w (row.Advance None) (x ∷ i ∷ []) = IsPlace i
IsTold q w (row.Slice site low high) (x ∷ bounds) = length bounds ≡ one_if low + one_if high
IsTold q w (row.Binary bin.Add None) (Ref r ∷ vs) = ⊥
IsTold q w row.AddItem (x ∷ vs) = x ≢ Nothing
IsTold q w (row.Constant c) vs = is_there q.sites c ≡ true
IsTold q w o vs = Unit {0}
