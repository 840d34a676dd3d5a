-- The conditions of laws of operations hold in runs whose operations are as these laws ask.
use Rattle.std.specs.Prelude.{◌≡◌, ℕ, Bool, true, false, ◌∷◌, [], Some}
use Rattle.ann_element.specs.declared.element.Element.TheVariants as element
use Rattle.flow_graph.specs.declared.graph.Op.{Op}
use Rattle.rpy_tree.specs.declared.syntax.CmpOp.TheVariants as cmp
use Rattle.rpy_meaning.specs.declared.row.RowOp.{RowOp}
use Rattle.rpy_meaning.specs.declared.row.RowOp.TheVariants as row
use Rattle.rtyper_layout.specs.declared.dicts.Mapping.{Mapping}
use Rattle.rtyper_program.specs.Seen.{Lowered, element_at}
use Rattle.class_laws.specs.Instances as classes
use Rattle.list_laws.specs.Presence as lists
use Rattle.dict_find_laws.specs.Lookups.{FirstIsThere, SecondIsThere}
use Rattle.dict_change_laws.specs.Changed.{CanStore, KeysAreThere}
use Rattle.run_laws.specs.Points.{Setting, is_keyed}
use Rattle.rtyped_runs.specs.Laws.{AreAlways}

-- an operation on a dict whose second operand is a key, and one whose first operand is
abbrev pub has_key_second : RowOp → Bool
has_key_second (row.Index literal) = true
has_key_second row.StoreIndex = true
has_key_second row.DeleteIndex = true
has_key_second (row.Method name site) = true
has_key_second other = false

abbrev pub has_key_first : RowOp → Bool
has_key_first (row.Compare cmp.Within) = true
has_key_first (row.Compare cmp.NotWithin) = true
has_key_first other = false

-- What is looked up in a dict is not `None`, nor is a key that it has, and it has few entries, for its operation is known to be on a dict; and a
-- narrowing has found what it says.
pub record ConditionsHoldOf (s : Setting) (l : Lowered) (o : Op) : Type 0 where
  pub first_keys : (m : Mapping) → has_key_first o.op ≡ true → is_keyed s l.number o ≡ true → AreAlways s l o (FirstIsThere m)
  pub second_keys : (m : Mapping) → has_key_second o.op ≡ true → is_keyed s l.number o ≡ true → AreAlways s l o (SecondIsThere m)
  pub stores : (m : Mapping) → has_key_second o.op ≡ true → is_keyed s l.number o ≡ true → AreAlways s l o (CanStore m)
  pub deletions : (m : Mapping) → has_key_second o.op ≡ true → is_keyed s l.number o ≡ true → AreAlways s l o (KeysAreThere m)
  pub lists_there : o.op ≡ row.DropNone → AreAlways s l o lists.IsThere
  pub lists_missing : o.op ≡ row.OnlyNone → AreAlways s l o lists.IsMissing
  pub instances_there : o.op ≡ row.DropNone → AreAlways s l o classes.IsThere
  pub instances_missing : o.op ≡ row.OnlyNone → AreAlways s l o classes.IsNothing
  -- an instance, or `None`, that counts as false is `None`
  pub instances_false : (v class : ℕ) (r : Bool) → o.op ≡ row.FalseNone → o.args ≡ v ∷ [] → element_at l.known.annotation l.number v ≡ Some (element.Instance class r) → AreAlways s l o classes.IsNothing
  pub classed : (d v : ℕ) → o.op ≡ row.Lower d → o.args ≡ v ∷ [] → AreAlways s l o (classes.AreOfClass s.known d)

-- whatever the operation is, of a graph that is lowered
abbrev pub ConditionsHold : Type 0
ConditionsHold = (s : Setting) (l : Lowered) (o : Op) → ConditionsHoldOf s l o
