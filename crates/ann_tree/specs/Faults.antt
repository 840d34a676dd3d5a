-- Faults of types that a reached operation shows, by the elements of its operands and by the parts of the program.
use Rattle.std.specs.Prelude.{ℕ, suc, ◌+◌, ◌-◌, ◌==◌, ◌&&◌, ◌||◌, not, nat_le, Bool, true, false, List, [], ◌∷◌, length, map, slice_get, count_by, unwrap_or, is_none, is_some, Option, Some, None}
use Rattle.std.specs.List.{list_all}
use Rattle.rpy_tree.specs.declared.program.Site.{Site}
use Rattle.rpy_meaning.specs.declared.row.RowOp.{RowOp}
use Rattle.rpy_meaning.specs.declared.row.RowOp.TheVariants as row
use Rattle.class_desc.specs.Line as line
use Rattle.ann_element.specs.Sites.{leader}
use Rattle.ann_lattice.specs.declared.method.Method.{Method}
use Rattle.ann_lattice.specs.declared.method.Method.TheVariants as m
use Rattle.ann_lattice.specs.Methods.{method_named}
use Rattle.ann_lattice.specs.Shape.{Shape, Lst, Dct, Inst, Fun}
use Rattle.ann_lattice.specs.Assign.{Assignment}
use Rattle.ann_rules.specs.Program.{Callee, Whole}
use Rattle.ann_rules.specs.Asks.{methods}

-- it modifies a list or dict that may be a constant, or calls functions that do not take its arguments
pub data Flaw : Type 0 where
  OfConstant : Flaw
  OfFamily : Flaw

-- ---- functions and their arguments

-- parameters without a default must be given, and no more than there are may be; what has a starred one is not called
abbrev pub takes : Callee → ℕ → Bool
takes c n = not c.star && (nat_le (count_by is_none c.defaults) n && nat_le n (length c.defaults))

abbrev pub callee_at : List Callee → ℕ → Callee
callee_at callees f = unwrap_or (slice_get callees f) (record { defaults = []; star = false })

-- one of these functions takes n arguments; where there is another one beside it, all its parameters are given
abbrev pub takes_beside : List Callee → List ℕ → ℕ → ℕ → Bool
takes_beside callees fs n f = takes (callee_at callees f) n && ((length (callee_at callees f).defaults == n) || list_all (λ g. g == f) fs)

abbrev pub fit : List Callee → List ℕ → ℕ → Bool
fit callees fs n = list_all (λ f. takes_beside callees fs n f) fs

-- ---- what operations modify

abbrev pub is_list : Shape → Bool
is_list (Lst s none) = true
is_list other = false

abbrev pub some_first : (Shape → Bool) → List Shape → Bool
some_first holds [] = false
some_first holds (x ∷ xs) = holds x

abbrev pub some_second : (Shape → Bool) → List Shape → Bool
some_second holds [] = false
some_second holds (x ∷ xs) = some_first holds xs

-- a method of lists; `extend` modifies by another list
abbrev pub modifying : Method → Bool → Bool
modifying m.Append by_list = true
modifying m.Pop by_list = true
modifying m.Insert by_list = true
modifying m.Extend by_list = by_list
modifying m.Reverse by_list = true
modifying _ by_list = false

-- an operation modifies its first operand; the stores of a display, whose result is no value of a node, do not count
abbrev pub modifies : Bool → RowOp → List Shape → Bool
modifies value row.StoreIndex xs = value
modifies value row.DeleteIndex xs = true
modifies value row.AddTo xs = some_first is_list xs && some_second is_list xs
modifies value (row.Method name site) xs = some_first is_list xs && modifying (method_named name) (some_second is_list xs)
modifies value other xs = false

-- ---- what operations call

abbrev pub functions_in : Shape → List ℕ
functions_in (Fun fs none) = fs
functions_in other = []

abbrev pub of_first : (Shape → List ℕ) → List Shape → List ℕ
of_first functions [] = []
of_first functions (x ∷ xs) = functions x

abbrev pub single : Option ℕ → List ℕ
single None = []
single (Some f) = f ∷ []

-- how many arguments are given: a new instance counts, and the value that is called does not
abbrev pub given : RowOp → List Shape → ℕ
given (row.Call f) xs = length xs
given (row.CallOf c f) xs = length xs
given row.CallValue xs = length xs - 1
given (row.New c) xs = length xs + 1
given (row.Method name site) xs = length xs
given other xs = 0

module _ (p : Whole) (a : Assignment) where
  -- one of the sites from the n-th on is prebuilt, and of the class of site s
  abbrev pub prebuilt_from : ℕ → ℕ → List Site → Bool
  prebuilt_from s n [] = false
  prebuilt_from s n (site ∷ sites) = (is_some site.prebuilt && (leader a.same n == leader a.same s)) || prebuilt_from s (suc n) sites

  abbrev pub may_be_constant : Shape → Bool
  may_be_constant (Lst s none) = prebuilt_from s 0 p.sites
  may_be_constant (Dct s none) = prebuilt_from s 0 p.sites
  may_be_constant other = false

  abbrev pub methods_in : List ℕ → Shape → List ℕ
  methods_in name (Inst c none) = map (λ f. f.1) (methods p a c name)
  methods_in name other = []

  -- the functions that are called
  abbrev pub called : RowOp → List Shape → List ℕ
  called (row.Call f) xs = f ∷ []
  called (row.CallOf c f) xs = f ∷ []
  called row.CallValue xs = of_first functions_in xs
  called (row.New c) xs = single (line.init p.tables.classes c)
  called (row.Method name site) xs = of_first (methods_in name) xs
  called other xs = []

  abbrev pub shows : Flaw → Bool → RowOp → List Shape → Bool
  shows OfConstant value o xs = modifies value o xs && some_first may_be_constant xs
  shows OfFamily value o xs = not (fit p.callees (called o xs) (given o xs))
