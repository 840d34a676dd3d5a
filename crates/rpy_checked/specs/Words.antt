-- The words for faults of types, and for conflicts.
use Rattle.std.specs.Prelude.{ℕ, List, ◌++◌, codes, Option, Some, None}
use Rattle.std.specs.List.{flat_map}
use Rattle.rpy_tree.specs.declared.program.Program.{Program}
use Rattle.rpy_resolved.specs.Label.{function_labels, class_labels}
use Rattle.rpy_resolved.specs.declared.label.Labels.{Labels}
use Rattle.rpy_kinds.specs.Places.{kind_at}
use Rattle.rpy_kinds.specs.Words.{word}
use Rattle.rpy_kinds.specs.declared.kind.Kind.{Kind}
use Rattle.ann_element.specs.Sites.{alone}
use Rattle.ann_element.specs.declared.element.Element.{Element}
use Rattle.ann_element.specs.declared.annotation.SpotKind.{SpotKind}
use Rattle.ann_element.specs.declared.annotation.SpotKind.TheVariants as spot
use Rattle.ann_text.specs.ElementText.{element}
use Rattle.ann_shown.specs.declared.told.Told.{Told}
use Rattle.rpy_checked.specs.declared.fault.TypeKind.{TypeKind}
use Rattle.rpy_checked.specs.declared.fault.TypeKind.TheVariants.{ConstantModified, MaybeUnbound, Family, EntryResult}

abbrev pub words_of : TypeKind → List ℕ
words_of ConstantModified = codes "constant modified"
words_of MaybeUnbound = codes "maybe unbound"
words_of Family = codes "family"
words_of EntryResult = codes "entry point result"

-- ---- conflicts

-- the word for what stands at a node
abbrev pub node_word : Option Kind → List ℕ
node_word None = codes "expr"
node_word (Some kind) = word kind

abbrev pub spot_word : SpotKind → Option Kind → List ℕ
spot_word spot.Node found = node_word found
spot_word spot.Param found = codes "param"
spot_word spot.Result found = codes "result"
spot_word (spot.Attr name) found = codes "attr"
spot_word spot.Keys found = codes "keys"
spot_word spot.Items found = codes "items"

abbrev pub labels : Program → Labels
labels p = record { functions = function_labels p; classes = class_labels p }

-- an element behind a space
abbrev pub operand_text : Labels → List ℕ → Element → List ℕ
operand_text names same e = codes " " ++ element names same e

-- the word for the place of a conflict, and the elements of its operands
abbrev pub conflict_words : Program → Told → List ℕ
conflict_words p t = spot_word t.spot.kind (kind_at p.modules t.spot.node) ++ flat_map (operand_text (labels p) (alone p.sites)) t.operands
