-- The least element above two others, and the sites that it brings into one class.
use Rattle.std.specs.Prelude.{ℕ, suc, ◌&&◌, ◌||◌, not, nat_lt, nat_le, max, Bool, true, false, if◌then◌else◌, List, [], ◌∷◌, ◌++◌, map, Option, Some, None}
use Rattle.rpy_tree.specs.declared.program.ClassInfo.{ClassInfo}
use Rattle.class_desc.specs.Line as line
use Rattle.ann_element.specs.Sites.{Same, unite}
use Rattle.ann_lattice.specs.Shape.{Width, One, Any, OrNone, Shape, Nothing, NoneOnly, Truth, Num, Str, Tup, Lst, Dct, Inst, Fun, Clash, Shapes, end, more}
use Rattle.ann_lattice.specs.Order.{lists, dicts}

-- ---- classes of sites

-- pairs of sites become one class each
abbrev pub unites : List ℕ → List (ℕ × ℕ) → List ℕ
unites t [] = t
unites t (p ∷ ps) = unites (unite t p.0 p.1) ps

-- they are one class each
abbrev pub AllSame : List ℕ → List (ℕ × ℕ) → Type 0
AllSame t [] = Unit {0}
AllSame t (p ∷ ps) = Same t p.0 p.1 × AllSame t ps

-- the classes of one table lie within those of another
pub record Within (t u : List ℕ) : Type 0 where
  pub by : (s v : ℕ) → Same t s v → Same u s v

-- the first with each other one
abbrev pub chain : List ℕ → List (ℕ × ℕ)
chain [] = []
chain (s ∷ ss) = map (λ u. (s, u)) ss

abbrev pub first : List ℕ → Option ℕ
first [] = None
first (s ∷ ss) = Some s

-- ---- joins of each kind

abbrev pub max_width : Width → Width → Width
max_width One b = b
max_width Any One = Any
max_width Any Any = Any
max_width Any OrNone = OrNone
max_width OrNone b = OrNone

abbrev pub max_known : Option Bool → Option Bool → Option Bool
max_known (Some true) (Some true) = Some true
max_known (Some false) (Some false) = Some false
max_known (Some true) (Some false) = None
max_known (Some false) (Some true) = None
max_known (Some a) None = None
max_known None b = None

abbrev pub join_inst : Option ℕ → Bool → Shape
join_inst (Some c) n = Inst c n
join_inst None n = Clash None None

-- functions in rising order, those of both lists: the first of one list, put among the others, with what is left
abbrev pub put : ℕ → (List ℕ → List ℕ) → List ℕ → List ℕ
put f rest [] = f ∷ rest []
put f rest (g ∷ gs) = if nat_lt f g then f ∷ rest (g ∷ gs) else if nat_lt g f then g ∷ put f rest gs else f ∷ rest gs

abbrev pub union : List ℕ → List ℕ → List ℕ
union [] gs = gs
union (f ∷ fs) gs = put f (union fs) gs

-- ---- tuples

abbrev pub is_clash : Shape → Bool
is_clash (Clash o p) = true
is_clash other = false

abbrev pub no_clash : Shapes → Bool
no_clash end = true
no_clash (more x xs) = not (is_clash x) && no_clash xs

abbrev pub equal_count : Shapes → Shapes → Bool
equal_count end end = true
equal_count end (more y ys) = false
equal_count (more x xs) end = false
equal_count (more x xs) (more y ys) = equal_count xs ys

-- how many tuples stand inside one another
abbrev mutual
  pub depth : Shape → ℕ
  depth (Tup xs) = suc (depths xs)
  depth other = 0

  pub depths : Shapes → ℕ
  depths end = 0
  depths (more x xs) = max (depth x) (depths xs)

-- ---- the join

-- the conflict of two elements keeps their lists, which become one class, and their dicts
abbrev pub conflict : Shape → Shape → Shape
conflict x y = Clash (first (lists x ++ lists y)) (first (dicts x ++ dicts y))

-- what two tuples join to, if their items join to these
abbrev pub stays : Shapes → Shapes → Shapes → Bool
stays xs ys zs = equal_count xs ys && (no_clash zs && nat_le (depths zs) 7)

abbrev mutual
  pub join : List ClassInfo → Shape → Shape → Shape
  join k Nothing y = y
  join k x Nothing = x
  join k NoneOnly NoneOnly = NoneOnly
  join k NoneOnly (Str b) = Str OrNone
  join k (Str a) NoneOnly = Str OrNone
  join k NoneOnly (Lst s b) = Lst s true
  join k (Lst s a) NoneOnly = Lst s true
  join k NoneOnly (Dct s b) = Dct s true
  join k (Dct s a) NoneOnly = Dct s true
  join k NoneOnly (Inst c b) = Inst c true
  join k (Inst c a) NoneOnly = Inst c true
  join k NoneOnly (Fun fs b) = Fun fs true
  join k (Fun fs a) NoneOnly = Fun fs true
  join k (Truth a) (Truth b) = Truth (max_known a b)
  join k (Num a) (Num b) = Num (a || b)
  join k (Str a) (Str b) = Str (max_width a b)
  join k (Lst s a) (Lst u b) = Lst s (a || b)
  join k (Dct s a) (Dct u b) = Dct s (a || b)
  join k (Inst c a) (Inst d b) = join_inst (line.common_base k c d) (a || b)
  join k (Fun fs a) (Fun gs b) = Fun (union fs gs) (a || b)
  join k (Tup xs) (Tup ys) = if stays xs ys (joins k xs ys) then Tup (joins k xs ys) else conflict (Tup xs) (Tup ys)
  join k x y = conflict x y

  -- item by item, up to the end of the shorter
  pub joins : List ClassInfo → Shapes → Shapes → Shapes
  joins k end ys = end
  joins k (more x xs) end = end
  joins k (more x xs) (more y ys) = more (join k x y) (joins k xs ys)

-- all lists of both, and all dicts
abbrev pub all_tied : Shape → Shape → List (ℕ × ℕ)
all_tied x y = chain (lists x ++ lists y) ++ chain (dicts x ++ dicts y)

-- the sites that a join brings into one class
abbrev mutual
  pub tied : List ClassInfo → Shape → Shape → List (ℕ × ℕ)
  tied k (Lst s a) (Lst u b) = (s, u) ∷ []
  tied k (Dct s a) (Dct u b) = (s, u) ∷ []
  tied k (Tup xs) (Tup ys) = (if equal_count xs ys then all_each k xs ys else []) ++ (if stays xs ys (joins k xs ys) then [] else all_tied (Tup xs) (Tup ys))
  tied k x y = if is_clash (join k x y) then all_tied x y else []

  pub all_each : List ClassInfo → Shapes → Shapes → List (ℕ × ℕ)
  all_each k end ys = []
  all_each k (more x xs) end = []
  all_each k (more x xs) (more y ys) = tied k x y ++ all_each k xs ys

-- the classes after a join
abbrev pub classes_after : List ClassInfo → List ℕ → Shape → Shape → List ℕ
classes_after k t x y = unites t (tied k x y)
