-- Operations that modify lists and dicts, of which some may be prebuilt.
use Rattle.std.specs.Prelude.{ℕ, ◌+◌, ◌||◌, ◌&&◌, nat_lt, Bool, true, false, if◌then◌else◌, List, [], ◌∷◌, length, replicate, slice_get, slice_set, unwrap_or, Option, Some, None, is_some, codes}
use Rattle.std.specs.Str.{bytes_eq}
use Rattle.rpy_tree.specs.declared.program.Site.{Site}
use Rattle.rpy_meaning.specs.declared.row.RowOp.{RowOp}
use Rattle.rpy_meaning.specs.declared.row.RowOp.TheVariants as row
use Rattle.flow_graph.specs.declared.graph.Op.{Op}
use Rattle.ann_element.specs.Sites.{leader}
use Rattle.ann_element.specs.declared.element.Element.{Element, out-Element}
use Rattle.ann_element.specs.declared.element.Element.TheOpen.{Element-F}

abbrev pub element_of : List Element → Option ℕ → Option Element
element_of es None = None
element_of es (Some v) = slice_get es v

-- the element of an operand
abbrev pub operand : List Element → List ℕ → ℕ → Option Element
operand es args place = element_of es (slice_get args place)

abbrev pub is_marked : List Bool → ℕ → Bool
is_marked marks n = unwrap_or (slice_get marks n) false

abbrev pub with_mark : ℕ → List Bool → List Bool
with_mark n marks = if nat_lt n (length marks) then slice_set marks n true else marks

abbrev pub with_prebuilt : List ℕ → ℕ → Site → List Bool → List Bool
with_prebuilt same n site marks = if is_some site.prebuilt then with_mark (leader same n) marks else marks

abbrev pub prebuilt_from : List ℕ → ℕ → List Site → List Bool → List Bool
prebuilt_from same n [] marks = marks
prebuilt_from same n (site ∷ sites) marks = prebuilt_from same (n + 1) sites (with_prebuilt same n site marks)

-- the leaders of the classes of sites that hold a prebuilt one
abbrev pub prebuilt : List ℕ → List Site → List Bool
prebuilt same sites = prebuilt_from same 0 sites (replicate (length sites) false)

abbrev pub is_prebuilt : List Bool → List ℕ → ℕ → Bool
is_prebuilt marks same site = is_marked marks (leader same site)

abbrev pub prebuilt_in : List Bool → List ℕ → Element-F Element → Bool
prebuilt_in marks same (Element-F.List site none) = is_prebuilt marks same site
prebuilt_in marks same (Element-F.Dict site none) = is_prebuilt marks same site
prebuilt_in marks same other = false

abbrev pub may_be_prebuilt : List Bool → List ℕ → Element → Bool
may_be_prebuilt marks same e = prebuilt_in marks same (out-Element e)

abbrev pub may_be_prebuilt_at : List Bool → List ℕ → Option Element → Bool
may_be_prebuilt_at marks same None = false
may_be_prebuilt_at marks same (Some e) = may_be_prebuilt marks same e

abbrev pub list_in : Element-F Element → Bool
list_in (Element-F.List site none) = true
list_in other = false

abbrev pub is_list : Element → Bool
is_list e = list_in (out-Element e)

abbrev pub is_list_at : Option Element → Bool
is_list_at None = false
is_list_at (Some e) = is_list e

-- the methods of lists that modify their list; `extend` does so by another list
abbrev pub modifies_by : List ℕ → Bool → Bool
modifies_by name by_list =
    if bytes_eq name (codes "extend") then by_list
    else bytes_eq name (codes "append") || bytes_eq name (codes "insert") || bytes_eq name (codes "reverse") || bytes_eq name (codes "pop")

abbrev pub modifies_row : List Element → List ℕ → Bool → RowOp → Bool
modifies_row es args value row.StoreIndex = value
modifies_row es args value row.DeleteIndex = true
modifies_row es args value row.AddTo = is_list_at (operand es args 0) && is_list_at (operand es args 1)
modifies_row es args value (row.Method name site) = is_list_at (operand es args 0) && modifies_by name (is_list_at (operand es args 1))
modifies_row es args value other = false

-- an operation modifies its first operand; the stores of a display, whose result is no value of a node, do not count
abbrev pub modifies : List Element → Op → Bool
modifies es op = modifies_row es op.args op.value op.op

abbrev pub modifies_prebuilt : List Bool → List ℕ → List Element → Op → Bool
modifies_prebuilt marks same es op = modifies es op && may_be_prebuilt_at marks same (operand es op.args 0)
