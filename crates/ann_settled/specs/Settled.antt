-- The least annotation that is closed under all that its program's graphs ask and free of conflict.
use Rattle.std.specs.Prelude.{◌≡◌, ◌<◌, ◌==◌, ◌&&◌, ℕ, Bool, true, length, Result, Ok, Err}
use Rattle.rpy_tree.specs.declared.program.Program.{Program}
use Rattle.flow_graph.specs.declared.graph.Graphs.{Graphs}
use Rattle.class_desc.specs.Tables.{Tables}
use Rattle.ann_element.specs.declared.annotation.Annotation.{Annotation}
use Rattle.ann_lattice.specs.Assign.{Assignment, Closed, Free, Fits, IsLeast}
use Rattle.ann_laws.specs.Rows.{HasClasses}
use Rattle.ann_rules.specs.Rules.{rules}
use Rattle.ann_grown.specs.Partial as partial
use Rattle.ann_needs.specs.View.{assignment, whole}
use Rattle.ann_needs.specs.declared.state.State.{State}
use Rattle.ann_layout.specs.Layout.{planned}
use Rattle.ann_layout.specs.declared.layout.Planned.{Planned}
use Rattle.ann_places.specs.Spots.{among, spot_cells, spots, empty, start}
use Rattle.ann_settled.specs.Read.{annotation}
use Rattle.ann_settled.specs.Nodes.{AreNodes}
use Rattle.ann_settled.specs.declared.settle.Unsettled.{Unsettled}
use Rattle.ann_settled.specs.declared.settle.Unsettled.TheVariants as unsettled
use Rattle.ann_meets.specs.declared.stop.Stop.{Stop}
use Rattle.ann_meets.specs.declared.stop.Stop.TheVariants as stop
use Rattle.ann_shown.specs.Told.{HasLeaders, IsTold, IsMet}

-- each cell and each mark is there
abbrev pub is_complete : Planned → State → Bool
is_complete q s = (length s.cells == q.cells) && (length s.marks == q.marks)

-- all that the rules of the graphs ask holds, and no parameter, result, attribute, item, key or result of an operation is in conflict
pub record IsClosed (q : Planned) (s : State) : Type 0 where
  pub complete : is_complete q s ≡ true
  pub closed : Closed q.plan.classes.classes (rules (whole q.plan)) (assignment s)
  pub free : Free (spots q.plan) (assignment s)

-- ---- while it grows

abbrev pub begin : Program → Planned → Assignment
begin p q = empty q.cells q.marks p.sites

abbrev pub Basis : Program → Planned → Type 0
Basis p q = partial.Basis (whole q.plan) (spots q.plan) (begin p q)

abbrev pub IsGrown : Program → Planned → State → Type 0
IsGrown p q s = Basis p q → partial.IsPartial (whole q.plan) (spots q.plan) (begin p q) (assignment s)

-- Steps led from the start to an assignment without conflict, each of which met one need that was asked of the assignment as it was then; and what
-- stands in the state is that assignment, its elements written with the least site of each class.
pub record Grew (q : Planned) (start : Assignment) (s : State) : Type 0 where
  pub grown : Assignment
  pub is_grown : partial.IsGrown (whole q.plan) (spots q.plan) start grown
  pub named : assignment s ≡ partial.with_leaders grown

abbrev pub NoneFree : Program → Planned → Type 0
NoneFree p q = Basis p q → partial.NoneFree (whole q.plan) (spots q.plan) (begin p q)

-- all that the rules ask holds, in cells and marks that are all there
pub record IsAllThere (q : Planned) (s : State) : Type 0 where
  pub complete : is_complete q s ≡ true
  pub closed : Closed q.plan.classes.classes (rules (whole q.plan)) (assignment s)

-- so it is where the elements are written with the least site of each class
pub record IsNamed (q : Planned) (a : Assignment) (s : State) : Type 0 where
  pub named : assignment s ≡ partial.with_leaders a
  pub all : IsAllThere q s

-- what grew without conflict is closed, once it is written so
pub record IsSettling (q : Planned) (free : ℕ → Bool) (start : Assignment) (s : State) : Type 0 where
  pub grown : Assignment
  pub is_grown : partial.IsGrown (whole q.plan) free start grown
  pub named : IsNamed q grown s

-- what grew to a without conflict is settled in the state
abbrev pub Settles : Planned → (ℕ → Bool) → Assignment → State → Type 0
Settles q free a s = (start : Assignment) → partial.IsGrown (whole q.plan) free start a → IsSettling q free start s

-- the conflict in the cell at which growing stopped is told
abbrev pub Tells : Program → Planned → Assignment → Stop → Unsettled → Type 0
Tells p q a e (unsettled.Conflict t) = (c : ℕ) × ((e ≡ stop.Conflict c) × IsTold p (whole q.plan) a c t)
Tells p q a e unsettled.NoMem = Unit {0}

-- what telling it rests on: it stands in the cell of a part or of the result of an operation, and the least site of each class is a site
abbrev pub IsTellable : Program → Planned → Assignment → Stop → Type 0
IsTellable p q a (stop.Conflict c) = (among c (spot_cells q.plan) ≡ true) × HasLeaders p a.same
IsTellable p q a stop.NoMem = Unit {0}

-- closed and free, grown step by step, and below each that is closed and free; or none is, and growing meets the conflict that is told
abbrev pub Ends : Program → Planned → Result State Unsettled → Type 0
Ends p q (Ok s) = IsClosed q s × (IsGrown p q s × Grew q (begin p q) s)
Ends p q (Err (unsettled.Conflict t)) = NoneFree p q × IsMet p q.plan (begin p q) t
Ends p q (Err unsettled.NoMem) = Unit {0}

-- ---- the annotation

-- the annotation is what stands in these cells and marks, one for each part of the program; a node has the element of the first operation that
-- gives its value and has one
abbrev pub IsRead : Planned → State → Annotation → Type 0
IsRead q s n = (n ≡ annotation s q.plan.classes n.nodes q.plan.places) × AreNodes q.plan s n.nodes

abbrev pub Closes : Program → Planned → Result Annotation Unsettled → Type 0
Closes p q (Ok n) = (s : State) × (IsRead q s n × (IsClosed q s × (IsGrown p q s × Grew q (begin p q) s)))
Closes p q (Err (unsettled.Conflict t)) = NoneFree p q × IsMet p q.plan (begin p q) t
Closes p q (Err unsettled.NoMem) = Unit {0}

-- The annotation is what stands in these cells and marks, one for each part of the program; all that the rules of its graphs ask holds there; no
-- parameter, result, attribute, item, key or result of an operation is in conflict; it grew step by step from the annotation in which nothing is reached,
-- and is written with the least site of each class; its elements are well-formed; and it is below each assignment of which that holds. What is said of
-- others, and of elements that are well-formed, rests on classes that are a tree and on a site, which each program has.
pub record IsSettled (p : Program) (gs : Graphs) (t : Tables) (n : Annotation) (s : State) : Type 0 where
  pub read : IsRead (planned p gs t) s n
  pub closed : IsClosed (planned p gs t) s
  pub grew : Grew (planned p gs t) (start (planned p gs t)) s
  pub fits : HasClasses t → 0 < length p.sites → Fits t.classes (start (planned p gs t)) (assignment s)
  pub least : HasClasses t → 0 < length p.sites → IsLeast t.classes (rules (whole (planned p gs t).plan)) (spots (planned p gs t).plan) (start (planned p gs t)) (assignment s)

-- no assignment is closed under them and free of conflict
abbrev pub NoneSettled : Program → Graphs → Tables → Type 0
NoneSettled p gs t = HasClasses t → 0 < length p.sites → partial.NoneFree (whole (planned p gs t).plan) (spots (planned p gs t).plan) (start (planned p gs t))
