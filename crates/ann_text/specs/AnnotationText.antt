-- The text of an annotation: a line for each reached function, for each attribute at its home, and for each class of sites in which one is reached
-- or prebuilt.
use Rattle.std.specs.Prelude.{ℕ, ◌+◌, ◌==◌, ◌||◌, ◌&&◌, not, nat_lt, Bool, true, false, if◌then◌else◌, List, [], ◌∷◌, ◌++◌, length, map, replicate, slice_get, slice_set, unwrap_or, Option, Some, None, is_some, codes}
use Rattle.std.specs.Fmt.{decimal}
use Rattle.rpy_tree.specs.declared.syntax.Param.{Param}
use Rattle.rpy_tree.specs.declared.syntax.Member.{Member, out-Member}
use Rattle.rpy_tree.specs.declared.syntax.Member.TheOpen.{Member-F}
use Rattle.rpy_tree.specs.declared.syntax.ClassDef.{ClassDef, out-ClassDef}
use Rattle.rpy_tree.specs.declared.syntax.Module.{Module}
use Rattle.rpy_tree.specs.declared.program.Program.{Program}
use Rattle.rpy_tree.specs.declared.program.Site.{Site}
use Rattle.rpy_meaning.specs.declared.row.RowOp.{RowOp}
use Rattle.rpy_meaning.specs.declared.row.RowOp.TheVariants as row
use Rattle.rpy_resolved.specs.declared.label.Labels.{Labels}
use Rattle.rpy_resolved.specs.Label.{function_labels, class_labels}
use Rattle.flow_graph.specs.declared.graph.Op.{Op}
use Rattle.flow_graph.specs.declared.graph.Block.{Block}
use Rattle.flow_graph.specs.declared.graph.Graph.{Graph}
use Rattle.flow_graph.specs.declared.graph.Graphs.{Graphs}
use Rattle.ann_element.specs.Sites.{leader}
use Rattle.ann_element.specs.declared.element.Element.{Element, out-Element}
use Rattle.ann_element.specs.declared.element.Element.TheOpen.{Element-F}
use Rattle.ann_element.specs.declared.annotation.Annotation.{Annotation}
use Rattle.ann_text.specs.declared.site.Walked.{Walked}
use Rattle.ann_text.specs.ElementText.{name_at, element}

-- what each part gives by its number, after what is there
abbrev pub onto : {A B : Type 0} → (ℕ → A → List B) → List B → ℕ → List A → List B
onto f done k [] = done
onto f done k (x ∷ xs) = onto f (done ++ f k x) (k + 1) xs

abbrev pub is_marked : List Bool → ℕ → Bool
is_marked marks n = unwrap_or (slice_get marks n) false

abbrev pub element_text : Labels → List ℕ → Option Element → List ℕ
element_text labels same None = codes "unreached"
element_text labels same (Some e) = element labels same e

abbrev pub elements_at : List (List Element) → ℕ → List Element
elements_at lists n = unwrap_or (slice_get lists n) []

-- ---- functions: the names of the parameters of each, in node order

abbrev pub name_of : Param → List ℕ
name_of p = p.name

abbrev pub with_method : Member-F Member ClassDef → List (List (List ℕ)) → List (List (List ℕ))
with_method (Member-F.Def f) lists = lists ++ map name_of f.params ∷ []
with_method other lists = lists

abbrev pub with_methods : List Member → List (List (List ℕ)) → List (List (List ℕ))
with_methods [] lists = lists
with_methods (m ∷ ms) lists = with_methods ms (with_method (out-Member m) lists)

abbrev pub with_member : Member-F Member ClassDef → List (List (List ℕ)) → List (List (List ℕ))
with_member (Member-F.Class class) lists = with_methods (out-ClassDef class).members lists
with_member other lists = with_method other lists

abbrev pub with_members : List Member → List (List (List ℕ)) → List (List (List ℕ))
with_members [] lists = lists
with_members (m ∷ ms) lists = with_members ms (with_member (out-Member m) lists)

abbrev pub with_modules : List Module → List (List (List ℕ)) → List (List (List ℕ))
with_modules [] lists = lists
with_modules (m ∷ ms) lists = with_modules ms (with_members m.members lists)

abbrev pub params : List Module → List (List (List ℕ))
params modules = with_modules modules []

abbrev pub comma : ℕ → List ℕ
comma place = if place == 0 then [] else codes ", "

abbrev pub named : Labels → List ℕ → List ℕ → Element → List ℕ
named labels same name e = name ++ codes ": " ++ element labels same e

abbrev pub parameter_text : Labels → List ℕ → Option Element → ℕ → List ℕ → List ℕ
parameter_text labels same None place name = []
parameter_text labels same (Some e) place name = comma place ++ named labels same name e

-- a parameter with its element; the starred one has none
abbrev pub parameter : Labels → List ℕ → List Element → ℕ → List ℕ → List ℕ
parameter labels same elements place name = parameter_text labels same (slice_get elements place) place name

-- the line of a function, after the text so far
abbrev pub with_signature : Labels → Annotation → ℕ → List (List ℕ) → List ℕ → List ℕ
with_signature labels a n names text =
    ((onto (parameter labels a.same (elements_at a.params n)) ((text ++ name_at labels.functions n) ++ codes "(") 0 names ++ codes ") -> ")
    ++ element_text labels a.same (slice_get a.results n)) ++ codes "\n"

abbrev pub with_function : Labels → Annotation → ℕ → List (List ℕ) → List ℕ → List ℕ
with_function labels a n names text = if is_marked a.reached n then with_signature labels a n names text else text

abbrev pub with_functions : Labels → Annotation → ℕ → List (List (List ℕ)) → List ℕ → List ℕ
with_functions labels a n [] text = text
with_functions labels a n (names ∷ lists) text = with_functions labels a (n + 1) lists (with_function labels a n names text)

-- ---- attributes

abbrev pub attribute_line : Labels → List ℕ → ℕ × List ℕ × Element → List ℕ
attribute_line labels same at = name_at labels.classes at.0 ++ codes "." ++ at.1 ++ codes ": " ++ element labels same at.2 ++ codes "\n"

abbrev pub attribute_lines : Labels → List ℕ → List (ℕ × List ℕ × Element) → List ℕ → List ℕ
attribute_lines labels same [] text = text
attribute_lines labels same (at ∷ rest) text = attribute_lines labels same rest (text ++ attribute_line labels same at)

-- ---- sites

abbrev pub with_mark : ℕ → List Bool → List Bool
with_mark n marks = if nat_lt n (length marks) then slice_set marks n true else marks

abbrev pub is_dict_in : Element-F Element → Bool
is_dict_in (Element-F.Dict site none) = true
is_dict_in other = false

abbrev pub is_dict : Element → Bool
is_dict e = is_dict_in (out-Element e)

abbrev pub is_dict_at : Option Element → Bool
is_dict_at None = false
is_dict_at (Some e) = is_dict e

abbrev pub is_over_dict : List Element → List ℕ → Bool
is_over_dict es [] = false
is_over_dict es (v ∷ vs) = is_dict_at (slice_get es v)

-- a walk at a site, perhaps over a dict
abbrev pub with_walk : ℕ → Bool → Walked → Walked
with_walk site over_dict w = record { walks = with_mark site w.walks; dicts = if over_dict then with_mark site w.dicts else w.dicts }

abbrev pub with_row : List Element → List ℕ → RowOp → Walked → Walked
with_row es args (row.Walk site) w = with_walk site (is_over_dict es args) w
with_row es args other w = w

abbrev pub with_op : List Element → Op → Walked → Walked
with_op es op w = with_row es op.args op.op w

abbrev pub with_ops : List Element → List Op → Walked → Walked
with_ops es [] w = w
with_ops es (op ∷ ops) w = with_ops es ops (with_op es op w)

abbrev pub with_blocks : List Element → List Block → Walked → Walked
with_blocks es [] w = w
with_blocks es (b ∷ bs) w = with_blocks es bs (with_ops es b.ops w)

abbrev pub with_elements : Option (List Element) → Graph → Walked → Walked
with_elements None g w = w
with_elements (Some es) g w = with_blocks es g.blocks w

abbrev pub with_graph : List (List Element) → ℕ → Graph → Walked → Walked
with_graph lists n g w = with_elements (slice_get lists n) g w

abbrev pub with_graphs : List (List Element) → ℕ → List Graph → Walked → Walked
with_graphs lists n [] w = w
with_graphs lists n (g ∷ gs) w = with_graphs lists (n + 1) gs (with_graph lists n g w)

-- by site, whether it is that of a walk, and whether such a walk goes over a dict
abbrev pub walked_by : ℕ → List (List Element) → List Graph → Walked
walked_by count lists gs = with_graphs lists 0 gs (record { walks = replicate count false; dicts = replicate count false })

abbrev pub own_in : List ℕ → Bool → ℕ → Element-F Element → Bool
own_in same dict n (Element-F.List site none) = not dict && (leader same site == leader same n)
own_in same dict n (Element-F.Dict site none) = dict && (leader same site == leader same n)
own_in same dict n other = false

-- a list or a dict of the site's own class
abbrev pub is_own : List ℕ → Bool → ℕ → Element → Bool
is_own same dict n e = own_in same dict n (out-Element e)

abbrev pub is_own_at : List ℕ → Bool → ℕ → Option Element → Bool
is_own_at same dict n None = false
is_own_at same dict n (Some e) = is_own same dict n e

-- a site is reached where its node has a list or dict of its class, that of a walk where the walk goes over a dict, and site 0 always
abbrev pub is_there : Annotation → Walked → ℕ → Site → Bool
is_there a w n site =
    if (n == 0) || is_some site.prebuilt then true
    else if is_marked w.walks n then is_marked w.dicts n
    else is_own_at a.same site.dict n (slice_get a.nodes site.node)

abbrev pub with_shown : Annotation → Walked → ℕ → Site → List Bool → List Bool
with_shown a w n site shown = if is_there a w n site then with_mark (leader a.same n) shown else shown

abbrev pub shown_from : Annotation → Walked → ℕ → List Site → List Bool → List Bool
shown_from a w n [] shown = shown
shown_from a w n (site ∷ sites) shown = shown_from a w (n + 1) sites (with_shown a w n site shown)

-- the leaders of the classes of sites in which one is reached or prebuilt
abbrev pub shown_sites : List Graph → Annotation → List Site → List Bool
shown_sites gs a sites = shown_from a (walked_by (length sites) a.vars gs) 0 sites (replicate (length sites) false)

abbrev pub list_text : Labels → Annotation → ℕ → List ℕ
list_text labels a n = codes "list#" ++ decimal n ++ codes ": " ++ element_text labels a.same (slice_get a.items n) ++ codes "\n"

abbrev pub dict_text : Labels → Annotation → ℕ → List ℕ
dict_text labels a n =
    codes "dict#" ++ decimal n ++ codes ": " ++ element_text labels a.same (slice_get a.keys n) ++ codes " -> "
    ++ element_text labels a.same (slice_get a.items n) ++ codes "\n"

abbrev pub list_line : Labels → Annotation → List Bool → ℕ → Site → List ℕ
list_line labels a shown n site = if site.dict || not (is_marked shown n) then [] else list_text labels a n

abbrev pub dict_line : Labels → Annotation → List Bool → ℕ → Site → List ℕ
dict_line labels a shown n site = if not site.dict || not (is_marked shown n) then [] else dict_text labels a n

-- ---- the whole: the functions, the attributes, the lists and the dicts

abbrev pub text_by : Labels → Program → Graphs → Annotation → List ℕ
text_by labels p gs a =
    let shown = shown_sites gs.graphs a p.sites in
    onto (dict_line labels a shown)
    (onto (list_line labels a shown)
    (attribute_lines labels a.same a.attributes (with_functions labels a 0 (params p.modules) []))
    0 p.sites)
    0 p.sites

abbrev pub annotation_text : Program → Graphs → Annotation → List ℕ
annotation_text p gs a = text_by (record { functions = function_labels p; classes = class_labels p }) p gs a
