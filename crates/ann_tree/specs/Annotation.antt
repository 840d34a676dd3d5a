-- Annotations of trees, and the environments before and after the parts of a tree.
use Rattle.std.specs.Prelude.{◌≡◌, ◌<◌, ℕ, ◌==◌, ◌&&◌, not, nat_lt, nat_le, if◌then◌else◌, Bool, true, false, List, [], ◌∷◌, Option, Some, None}
use Rattle.rpy_tree.specs.declared.program.ClassInfo.{ClassInfo}
use Rattle.ann_lattice.specs.Shape.{Shape, Nothing, Inst}
use Rattle.ann_lattice.specs.Order.{Below}
use Rattle.ann_lattice.specs.Join.{is_clash}
use Rattle.ann_lattice.specs.Laws.{IsFormed}
use Rattle.ann_lattice.specs.Assign.{Assignment, at}
use Rattle.ann_rules.specs.Program.{Places}
use Rattle.ann_tree.specs.Faults.{Flaw}

-- the parts of a program, each at its place (parameters, results, attributes, items, keys, and what is reached, made, loaded or read unbound), the
-- classes of sites, an element for each node, and the nodes at which operations show faults of types
pub record Annotation : Type 0 where
  pub parts : Assignment
  pub element : ℕ → Shape
  pub faulty : Flaw → ℕ → Bool

-- no part is in conflict
pub record IsFree (places : Places) (a : Annotation) : Type 0 where
  pub params : (f i : ℕ) → is_clash (at a.parts (places.param f i)) ≡ false
  pub results : (f : ℕ) → is_clash (at a.parts (places.result f)) ≡ false
  pub attributes : (c : ℕ) (name : List ℕ) → is_clash (at a.parts (places.attribute c name)) ≡ false
  pub items : (s : ℕ) → is_clash (at a.parts (places.item s)) ≡ false
  pub keys : (s : ℕ) → is_clash (at a.parts (places.key s)) ≡ false

-- ---- environments

-- each local has an element, and may be unbound
pub record Environment : Type 0 where
  pub element : ℕ → Shape
  pub unbound : ℕ → Bool

-- a point between parts is not reached, or reached with an environment
pub data Point : Type 0 where
  Never : Point
  With : Environment → Point

-- where a statement leaves for: a point, or out of the function, where nothing is asked of it
pub data Goal : Type 0 where
  Away : Goal
  Towards : Point → Goal

abbrev pub elements_with : (ℕ → Shape) → ℕ → Shape → ℕ → Shape
elements_with elements i x j = if j == i then x else elements j

-- the local is bound
abbrev pub bind : Environment → ℕ → Shape → Environment
bind e i x = record { element = elements_with e.element i x; unbound = λ j. not (j == i) && e.unbound j }

-- the local is known better, and may be unbound as before
abbrev pub narrow : Environment → ℕ → Shape → Environment
narrow e i x = record { element = elements_with e.element i x; unbound = e.unbound }

-- before the body of a function: the parameters are bound, and so is a starred one, which is given nothing
abbrev pub at_start : (ℕ → Shape) → ℕ → ℕ → Environment
at_start params count bound = record { element = λ i. if nat_lt i count then params i else Nothing; unbound = nat_le bound }

-- where the point is reached
abbrev pub At : Point → (Environment → Type 0) → Type 0
At Never holds = Unit {0}
At (With e) holds = holds e

-- ---- where statements and exceptions go

-- where a statement goes on to: the next point, behind the loop, the next turn of the loop, and with a value out of the function
pub record Exits : Type 0 where
  pub next : Point
  pub broken : Goal
  pub continued : Goal
  pub returned : Goal

-- in a loop
abbrev pub within : Exits → Point → Point → Exits
within t turn behind = record { next = turn; broken = Towards behind; continued = Towards turn; returned = t.returned }

-- the point before what takes an exception, perhaps with a local that is bound to it and the class that it has then
pub record Handler : Type 0 where
  pub point : Point
  pub bound : Option (ℕ × ℕ)

abbrev pub caught : Option (ℕ × ℕ) → Environment → Environment
caught None e = e
caught (Some b) e = bind e b.0 (Inst b.1 false)

abbrev pub with_class : Option ℕ → ℕ → Option (ℕ × ℕ)
with_class None c = None
with_class (Some i) c = Some (i, c)

-- one for each class of a clause
abbrev pub handlers : Point → Option ℕ → List ℕ → List Handler
handlers begin local [] = []
handlers begin local (c ∷ cs) = record { point = begin; bound = with_class local c } ∷ handlers begin local cs

-- ---- the order

-- an element passes to one that is above it, and that is well-formed where it is so itself
abbrev pub Passes : List ClassInfo → List ℕ → Shape → Shape → Type 0
Passes k same x y = Below k same x y × (IsFormed x → IsFormed y)

-- of n locals
module _ (k : List ClassInfo) (same : List ℕ) (n : ℕ) where
  abbrev pub IsBelow : Environment → Environment → Type 0
  IsBelow e g = (i : ℕ) → i < n → Passes k same (e.element i) (g.element i) × (e.unbound i ≡ true → g.unbound i ≡ true)

  -- the point is reached, and above the environment
  abbrev pub Leads : Environment → Point → Type 0
  Leads e Never = ⊥
  Leads e (With g) = IsBelow e g

  abbrev pub LeavesFor : Environment → Goal → Type 0
  LeavesFor e Away = Unit {0}
  LeavesFor e (Towards q) = Leads e q

  -- an exception may come here: each handler is above
  abbrev pub Seen : List Handler → Environment → Type 0
  Seen [] e = Unit {0}
  Seen (h ∷ hs) e = Leads (caught h.bound e) h.point × Seen hs e
