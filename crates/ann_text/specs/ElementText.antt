-- The texts of elements.
use Rattle.std.specs.Prelude.{ℕ, Bool, true, false, List, [], ◌∷◌, ◌++◌, slice_get, unwrap_or, codes}
use Rattle.std.specs.List.{flat_map}
use Rattle.std.specs.Fmt.{decimal}
use Rattle.rpy_resolved.specs.declared.label.Labels.{Labels}
use Rattle.ann_element.specs.Sites.{leader}
use Rattle.ann_element.specs.declared.element.Element.{Element, fold-Element}
use Rattle.ann_element.specs.declared.element.Element.TheOpen.{Element-F}

-- a form that may also be None is marked
abbrev pub mark : Bool → List ℕ
mark true = codes "?"
mark false = []

abbrev pub name_at : List (List ℕ) → ℕ → List ℕ
name_at names n = unwrap_or (slice_get names n) []

abbrev pub site_text : List ℕ → ℕ → Bool → List ℕ
site_text word site none = word ++ decimal site ++ mark none

abbrev pub instance_text : Labels → ℕ → Bool → List ℕ
instance_text labels class none = name_at labels.classes class ++ mark none

abbrev pub next_name : List (List ℕ) → ℕ → List ℕ
next_name names n = codes ", " ++ name_at names n

abbrev pub names_text : List (List ℕ) → List ℕ → List ℕ
names_text names [] = []
names_text names (n ∷ ns) = name_at names n ++ flat_map (next_name names) ns

abbrev pub functions_text : Labels → List ℕ → Bool → List ℕ
functions_text labels functions none = codes "func{" ++ names_text labels.functions functions ++ codes "}" ++ mark none

abbrev pub next_text : List ℕ → List ℕ
next_text text = codes ", " ++ text

-- texts with a comma between
abbrev pub commas : List (List ℕ) → List ℕ
commas [] = []
commas (text ∷ texts) = text ++ flat_map next_text texts

module _ (labels : Labels) (same : List ℕ) where
  -- in a tuple stand the texts of its parts
  abbrev pub element_step : Element-F (List ℕ) → List ℕ
  element_step Element-F.Unreached = codes "unreached"
  element_step Element-F.NoneOnly = codes "None"
  element_step Element-F.KnownTrue = codes "True"
  element_step Element-F.KnownFalse = codes "False"
  element_step Element-F.Bool = codes "bool"
  element_step Element-F.IntPos = codes "int+"
  element_step Element-F.Int = codes "int"
  element_step Element-F.Char = codes "char"
  element_step Element-F.Str = codes "str"
  element_step Element-F.StrOrNone = codes "str?"
  element_step (Element-F.Tuple parts) = codes "tuple(" ++ commas parts ++ codes ")"
  element_step (Element-F.List site none) = site_text (codes "list#") (leader same site) none
  element_step (Element-F.Dict site none) = site_text (codes "dict#") (leader same site) none
  element_step (Element-F.Instance class none) = instance_text labels class none
  element_step (Element-F.Func functions none) = functions_text labels functions none
  element_step (Element-F.Conflict lists dicts) = codes "conflict"

  abbrev pub element : Element → List ℕ
  element = fold-Element (List ℕ) element_step

  abbrev pub next_element : Element → List ℕ
  next_element e = next_text (element e)

  -- elements with a comma between
  abbrev pub elements : List Element → List ℕ
  elements [] = []
  elements (e ∷ es) = element e ++ flat_map next_element es
