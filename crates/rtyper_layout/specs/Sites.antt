-- Which lists, dicts and tuples an annotation speaks of.
use Rattle.std.specs.Prelude.{ℕ, Bool, true, false, if◌then◌else◌, List, [], ◌∷◌, ◌++◌, map, is_some}
use Rattle.std.specs.List.{flat_map}
use Rattle.ann_element.specs.declared.annotation.Annotation.{Annotation}
use Rattle.ann_element.specs.declared.element.Element.{Element, fold-Element, roll-Element, map-Element}
use Rattle.ann_element.specs.declared.element.Element.TheOpen.{Element-F}
use Rattle.rtyper_layout.specs.declared.layout.Layout.{Layout}
use Rattle.rtyper_layout.specs.Types.{site_from, shape_from, shape}

abbrev pub same : {A : Type 0} → A → A
same a = a

-- ---- sites

abbrev pub list_site : Bool → ℕ → List ℕ
list_site of_dicts site = if of_dicts then [] else site ∷ []

abbrev pub dict_site : Bool → ℕ → List ℕ
dict_site of_dicts site = if of_dicts then site ∷ [] else []

-- the sites of lists in an element, or of dicts
abbrev pub sites_step : Bool → Element-F (List ℕ) → List ℕ
sites_step of_dicts (Element-F.Tuple parts) = flat_map same parts
sites_step of_dicts (Element-F.List site none) = list_site of_dicts site
sites_step of_dicts (Element-F.Dict site none) = dict_site of_dicts site
sites_step of_dicts other = []

abbrev pub sites_of : Bool → Element → List ℕ
sites_of of_dicts = fold-Element (List ℕ) (sites_step of_dicts)

abbrev pub with_site : List ℕ → ℕ → List ℕ
with_site sites site = if is_some (site_from 0 sites site) then sites else sites ++ site ∷ []

-- those that are not there yet, in order
abbrev pub with_sites : List ℕ → List ℕ → List ℕ
with_sites sites [] = sites
with_sites sites (s ∷ ss) = with_sites (with_site sites s) ss

-- those of elements, of rows of elements, of attributes
abbrev pub sites_in : Bool → List ℕ → List Element → List ℕ
sites_in of_dicts sites [] = sites
sites_in of_dicts sites (e ∷ es) = sites_in of_dicts (with_sites sites (sites_of of_dicts e)) es

abbrev pub sites_in_rows : Bool → List ℕ → List (List Element) → List ℕ
sites_in_rows of_dicts sites [] = sites
sites_in_rows of_dicts sites (row ∷ rows) = sites_in_rows of_dicts (sites_in of_dicts sites row) rows

abbrev pub sites_in_attributes : Bool → List ℕ → List (ℕ × List ℕ × Element) → List ℕ
sites_in_attributes of_dicts sites [] = sites
sites_in_attributes of_dicts sites (a ∷ more) = sites_in_attributes of_dicts (with_sites sites (sites_of of_dicts a.2)) more

-- of all that an annotation says
abbrev pub all_sites : Bool → List ℕ → Annotation → List ℕ
all_sites d sites a = sites_in d (sites_in d (sites_in_attributes d (sites_in_rows d (sites_in d (sites_in_rows d sites a.params) a.results) a.vars) a.attributes) a.items) a.keys

-- the arguments of the program are a list of site 0
abbrev pub lists : Annotation → List ℕ
lists a = all_sites false (0 ∷ []) a

abbrev pub dicts : Annotation → List ℕ
dicts a = all_sites true [] a

-- ---- tuples

-- an element once more, and the tuples in it, the inner ones first
abbrev pub tuples_at : Element-F (Element × List (List Element)) → List (List Element)
tuples_at (Element-F.Tuple parts) = flat_map (λ p. p.1) parts ++ map (λ p. p.0) parts ∷ []
tuples_at other = []

abbrev pub tuples_step : Element-F (Element × List (List Element)) → Element × List (List Element)
tuples_step x = (roll-Element (map-Element (Element × List (List Element)) Element (λ p. p.0) x), tuples_at x)

abbrev pub tuples_with : Element → Element × List (List Element)
tuples_with = fold-Element (Element × List (List Element)) tuples_step

abbrev pub tuples_of : Element → List (List Element)
tuples_of e = (tuples_with e).1

abbrev pub with_shape : Layout → List Element → Layout
with_shape layout parts = if is_some (shape_from 0 layout.shapes (shape layout parts)) then layout else record layout { shapes = layout.shapes ++ shape layout parts ∷ [] }

-- a shape for each tuple, where there is none of its types yet
abbrev pub with_shapes : Layout → List (List Element) → Layout
with_shapes layout [] = layout
with_shapes layout (parts ∷ more) = with_shapes (with_shape layout parts) more

abbrev pub shapes_in : Layout → List Element → Layout
shapes_in layout [] = layout
shapes_in layout (e ∷ es) = shapes_in (with_shapes layout (tuples_of e)) es

abbrev pub shapes_in_rows : Layout → List (List Element) → Layout
shapes_in_rows layout [] = layout
shapes_in_rows layout (row ∷ rows) = shapes_in_rows (shapes_in layout row) rows

abbrev pub shapes_in_attributes : Layout → List (ℕ × List ℕ × Element) → Layout
shapes_in_attributes layout [] = layout
shapes_in_attributes layout (a ∷ more) = shapes_in_attributes (with_shapes layout (tuples_of a.2)) more

abbrev pub all_shapes : Layout → Annotation → Layout
all_shapes l a = shapes_in (shapes_in (shapes_in_attributes (shapes_in_rows (shapes_in (shapes_in_rows l a.params) a.results) a.vars) a.attributes) a.items) a.keys
