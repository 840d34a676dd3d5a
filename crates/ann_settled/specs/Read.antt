-- The annotation that stands in the cells and marks.
use Rattle.std.specs.Prelude.{ℕ, suc, ◌==◌, if◌then◌else◌, Bool, false, List, [], ◌∷◌, ◌++◌, map, slice_get, unwrap_or, Option, Some, None}
use Rattle.class_desc.specs.Tables.{Tables, home}
use Rattle.ann_element.specs.declared.element.Element.{Element}
use Rattle.ann_element.specs.declared.element.Element.TheVariants as element
use Rattle.ann_element.specs.declared.annotation.Annotation.{Annotation}
use Rattle.ann_needs.specs.declared.plan.Places.{Places}
use Rattle.ann_needs.specs.declared.state.State.{State}
use Rattle.ann_settled.specs.declared.read.Filled.{Filled}
use Rattle.ann_settled.specs.declared.read.Marked.{Marked}

abbrev pub element_at : List Element → ℕ → Element
element_at cells place = unwrap_or (slice_get cells place) element.Unreached

abbrev pub mark_at : List Bool → ℕ → Bool
mark_at marks place = unwrap_or (slice_get marks place) false

-- the class is the attribute's home
abbrev pub at_home : ℕ → Option ℕ → Bool
at_home c None = false
at_home c (Some h) = h == c

module _ (s : State) where
  abbrev pub cell : ℕ → Element
  cell place = element_at s.cells place

  abbrev pub mark : ℕ → Bool
  mark place = mark_at s.marks place

  abbrev pub cells : List ℕ → List Element
  cells row = map cell row

  abbrev pub marks : List ℕ → List Bool
  marks row = map mark row

  -- an attribute stands at its home
  abbrev pub own : Tables → ℕ → List ℕ × ℕ → List (ℕ × List ℕ × Element)
  own t c entry = if at_home c (home t c entry.0) then (c, entry.0, cell entry.1) ∷ [] else []

  abbrev pub attributes_of : Tables → ℕ → List (List ℕ × ℕ) → List (ℕ × List ℕ × Element)
  attributes_of t c [] = []
  attributes_of t c (entry ∷ entries) = own t c entry ++ attributes_of t c entries

  -- the attributes of classes from c on
  abbrev pub attributes : Tables → ℕ → List (List (List ℕ × ℕ)) → List (ℕ × List ℕ × Element)
  attributes t c [] = []
  attributes t c (row ∷ rows) = attributes_of t c row ++ attributes t (suc c) rows

  -- with the elements that nodes have
  abbrev pub annotation : Tables → List Element → Places → Annotation
  annotation t nodes p = record {
    nodes = nodes;
    unbound = marks p.unbound;
    params = map cells p.params;
    results = cells p.results;
    reached = marks p.reached;
    attributes = attributes t 0 p.attributes;
    items = cells p.items;
    keys = cells p.keys;
    made = marks p.made;
    same = s.same;
    vars = map cells p.variables;
    blocks = map marks p.blocks;
  }

  -- its lists that have elements, and those that have marks
  abbrev pub filled : Tables → Places → Filled
  filled t p = record {
    params = map cells p.params;
    results = cells p.results;
    attributes = attributes t 0 p.attributes;
    items = cells p.items;
    keys = cells p.keys;
    vars = map cells p.variables;
  }

  abbrev pub marked : Places → Marked
  marked p = record { unbound = marks p.unbound; reached = marks p.reached; made = marks p.made; blocks = map marks p.blocks }

  abbrev pub with_lists : List Element → Marked → Filled → Annotation
  with_lists nodes marked filled = record {
    nodes = nodes;
    unbound = marked.unbound;
    params = filled.params;
    results = filled.results;
    reached = marked.reached;
    attributes = filled.attributes;
    items = filled.items;
    keys = filled.keys;
    made = marked.made;
    same = s.same;
    vars = filled.vars;
    blocks = marked.blocks;
  }
