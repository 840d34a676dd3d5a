use Rattle.layout_laws.proofs.Rows.{has_shapes, has_classes, has_attributes, is_known, is_started}
use Rattle.layout_laws.proofs.laws.two_classes_have_a_layout.Goals as goal

pub returns-clause-shapes : goal.returns-clause-shapes
returns-clause-shapes c = has_shapes

pub returns-clause-classes : goal.returns-clause-classes
returns-clause-classes c = has_classes

pub returns-clause-attributes : goal.returns-clause-attributes
returns-clause-attributes c = has_attributes

pub returns-clause-known : goal.returns-clause-known
returns-clause-known c = is_known

pub returns-clause-starts : goal.returns-clause-starts
returns-clause-starts c = is_started
