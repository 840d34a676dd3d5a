-- What is known of the keys of dicts.
use Rattle.std.specs.Prelude.{◌≡◌, ℕ, true}
use Rattle.rpy_tree.specs.declared.program.Program.{Program}
use Rattle.flow_graph.specs.declared.graph.Graphs.{Graphs}
use Rattle.class_desc.specs.Tables.{tables}
use Rattle.ann_element.specs.declared.annotation.Annotation.{Annotation}
use Rattle.ann_lattice.specs.Assign.{Assignment}
use Rattle.ann_lattice.specs.Order.{is_key}
use Rattle.ann_rules.specs.Asks.{keys_of}
use Rattle.ann_rules.specs.Program.{Whole}
use Rattle.ann_needs.specs.View.{assignment, whole}
use Rattle.ann_layout.specs.Layout.{plan}
use Rattle.rpy_checked.specs.Settles.{HasTypes}

-- the element of the keys of each class of dicts can be that of keys: no string, list, dict, instance or function that may be `None`, at any depth
abbrev pub KeysAreKeys : Whole → Assignment → Type 0
KeysAreKeys w a = (s : ℕ) → is_key (keys_of w a s) ≡ true

-- So it is in the annotation of a program that has types: it grew step by step, and what can be no key puts a conflict there.
abbrev pub ProgramsHaveKeys : Type 0
ProgramsHaveKeys = (p : Program) (gs : Graphs) (n : Annotation) (types : HasTypes p gs n) → KeysAreKeys (whole (plan p gs (tables p))) (assignment types.state)
