-- A program of two classes, one below the other, and its layout; and one of builtin exceptions alone.
use Rattle.std.specs.Prelude.{◌≡◌, ℕ, true, false, List, [], ◌∷◌, ◌++◌, replicate, Option, Some, None}
use Rattle.ann_element.specs.declared.annotation.Annotation.{Annotation}
use Rattle.ann_element.specs.declared.element.Element.TheVariants as element
use Rattle.ll_code.specs.declared.program.LlProgram.{LlProgram}
use Rattle.ll_code.specs.declared.program.LlStage.TheVariants as stage
use Rattle.rpy_meaning.specs.Meaning.{exceptions_from}
use Rattle.rpy_meaning.specs.Operations.{builtin_classes}
use Rattle.rpy_meaning.specs.Tree.{Class, Program}
use Rattle.rpy_resolved.specs.declared.tree.Class.{Class as Resolving}
use Rattle.rpy_resolved.specs.declared.tree.Resolved.{Resolved}
use Rattle.rpy_tree.specs.declared.program.ClassInfo.{ClassInfo}
use Rattle.rtyper_layout.specs.declared.layout.Layout.{Layout}
use Rattle.rtyper_layout.specs.Layout.{layout_of}
use Rattle.rtyper_class.specs.Seen.{World}
use Rattle.rtyper_class.specs.Vtables.{vtables, exceptions}
use Rattle.object_laws.specs.Known.{Known}
use Rattle.object_laws.specs.Represents.{Represents, shapes}
use Rattle.class_laws.specs.Classes.{IsLaidOut, IsOf}
use Rattle.class_laws.specs.Starting.{Starts}
use Rattle.layout_laws.specs.Beginning.{first_ghost}
use Rattle.layout_laws.specs.Knowing.{known_of}
use Rattle.layout_laws.specs.Statics.{statics_of}

-- class 1 is below class 0, which has a method
abbrev pub info : Option ℕ → ClassInfo
info base = record { node = 0; file = 0; base = base; constants = []; methods = [] }

abbrev pub infos : List ClassInfo
infos = info None ∷ info (Some 0) ∷ []

abbrev pub resolving : Option ℕ → List (List ℕ × ℕ) → Resolving
resolving base methods = record { node = 0; name = 67 ∷ []; base = base; constants = []; methods = methods }

abbrev pub program : Resolved
program = record { functions = []; classes = resolving None ((109 ∷ [], 0) ∷ []) ∷ resolving (Some 0) [] ∷ []; sites = []; entry = 0 }

abbrev pub x : List ℕ
x = 120 ∷ []

abbrev pub y : List ℕ
y = 121 ∷ []

-- instances of class 1 are made; class 0 declares a word, and class 1 an instance of class 0, or none
abbrev pub annotation : Annotation
annotation = record {
  nodes = [];
  unbound = [];
  params = [];
  results = [];
  reached = true ∷ [];
  attributes = (0, x, element.Int) ∷ (1, y, element.Instance 0 true) ∷ [];
  items = [];
  keys = [];
  made = false ∷ true ∷ [];
  same = [];
  vars = [];
  blocks = [];
}

abbrev pub layout : Layout
layout = layout_of program infos annotation false

abbrev pub world : World
world = record {
  around = record { layout = layout; numbers = 7 ∷ []; params = []; results = []; functions = [] };
  classes = record { classes = infos; attributes = (x ∷ []) ∷ (y ∷ []) ∷ [] };
  made = annotation.made;
  attributes = annotation.attributes;
  first_vtable = 0;
  first_exception = 2;
}

abbrev pub class : Option ℕ → Class
class base = record { name = 67 ∷ []; base = base; constants = []; methods = [] }

abbrev pub meant : Program
meant = record { functions = []; classes = class None ∷ class (Some 0) ∷ []; sites = []; entry = 0 }

abbrev pub known : Known
known = known_of world program annotation.reached meant (λ n. None) (λ n. None) (λ s. None) (λ s. None)

-- strings, the vtables, the two classes, and the list of the program's arguments with its array
abbrev pub HasShapes : Type 0
HasShapes = shapes layout
    ≡ record { size = 1; own = 0; first = 0; bases = 0 ∷ [] } ∷ record { size = 2; own = 0; first = 0; bases = 1 ∷ [] }
    ∷ record { size = 3; own = 0; first = 0; bases = 2 ∷ [] } ∷ record { size = 5; own = 3; first = 1; bases = 3 ∷ 2 ∷ [] }
    ∷ record { size = 2; own = 0; first = 0; bases = 4 ∷ [] } ∷ record { size = 1; own = 0; first = 0; bases = 5 ∷ [] } ∷ []

abbrev pub HasClasses : Type 0
HasClasses = layout.classes ≡ Some (record { own = 2; root = 2; vtable = 1; place = 0 }) ∷ Some (record { own = 3; root = 2; vtable = 1; place = 1 }) ∷ []

-- the one below has both
abbrev pub HasAttributes : Type 0
HasAttributes = (known.attribute 1 x ≡ Some (record { own = 2; place = 0; element = element.Int })) × (known.attribute 1 y ≡ Some (record { own = 3; place = 0; element = element.Instance 0 true }))

abbrev pub IsKnown : Type 0
IsKnown = IsLaidOut world known × IsOf world known

-- new instances of the one below
abbrev pub IsStarted : Type 0
IsStarted = Starts world known 1

-- ---- builtin exceptions

-- the thirteen classes, each below the first, and an annotation without attributes
abbrev pub builtin : List ClassInfo
builtin = info None ∷ replicate 12 (info (Some 0))

abbrev pub bare : Annotation
bare = record annotation { attributes = []; made = [] }

abbrev pub resolved : Resolved
resolved = record { functions = []; classes = []; sites = []; entry = 0 }

abbrev pub raising : World
raising = record {
  around = record { layout = layout_of resolved builtin bare true; numbers = []; params = []; results = []; functions = [] };
  classes = record { classes = builtin; attributes = [] };
  made = [];
  attributes = [];
  first_vtable = 0;
  first_exception = 13;
}

-- it has nothing but their vtables and instances
abbrev pub raised : LlProgram
raised = record { stage = stage.Raw; structs = raising.around.layout.structs; statics = vtables raising resolved [] ++ exceptions raising; graphs = []; entry = 0 }

abbrev pub ExceptionsBegin : Type 0
ExceptionsBegin = Represents raising.around.layout (known_of raising resolved [] meant (λ n. None) (λ n. None) (λ s. None) (λ s. None)) (first_ghost raising raised 0) (exceptions_from 0 builtin_classes ++ []) 1000 [] (statics_of raised)
