-- The order of elements, under classes of sites.
use Rattle.std.specs.Prelude.{◌≡◌, ℕ, ◌==◌, ◌&&◌, ◌||◌, not, if◌then◌else◌, Bool, true, false, List, [], ◌∷◌, ◌++◌, Option, Some, None}
use Rattle.std.specs.List.{list_any}
use Rattle.rpy_tree.specs.declared.program.ClassInfo.{ClassInfo}
use Rattle.class_desc.specs.Line as line
use Rattle.ann_element.specs.Sites.{leader, Same}
use Rattle.ann_lattice.specs.Shape.{Width, One, Any, OrNone, Shape, Nothing, NoneOnly, Truth, Num, Str, Tup, Lst, Dct, Inst, Fun, Clash, Shapes, end, more}

-- ---- the sites in an element, at any depth: of its dicts, or of its lists

abbrev pub kept : Option ℕ → List ℕ
kept None = []
kept (Some s) = s ∷ []

abbrev mutual
  pub lists : Shape → List ℕ
  lists (Lst s none) = s ∷ []
  lists (Tup xs) = all_lists xs
  lists (Clash o p) = kept o
  lists other = []

  pub all_lists : Shapes → List ℕ
  all_lists end = []
  all_lists (more x xs) = lists x ++ all_lists xs

abbrev mutual
  pub dicts : Shape → List ℕ
  dicts (Dct s none) = s ∷ []
  dicts (Tup xs) = all_dicts xs
  dicts (Clash o p) = kept p
  dicts other = []

  pub all_dicts : Shapes → List ℕ
  all_dicts end = []
  all_dicts (more x xs) = dicts x ++ all_dicts xs

-- a site is of the class that a conflict keeps
abbrev pub In : List ℕ → Option ℕ → ℕ → Type 0
In t None s = ⊥
In t (Some a) s = Same t s a

-- each of them is
abbrev pub Held : List ℕ → Option ℕ → List ℕ → Type 0
Held t o [] = Unit {0}
Held t o (s ∷ ss) = In t o s × Held t o ss

-- ---- the order of each kind

abbrev pub Implies : Bool → Bool → Type 0
Implies true false = ⊥
Implies true true = Unit {0}
Implies false b = Unit {0}

abbrev pub Wider : Width → Width → Type 0
Wider One b = Unit {0}
Wider Any One = ⊥
Wider Any Any = Unit {0}
Wider Any OrNone = Unit {0}
Wider OrNone One = ⊥
Wider OrNone Any = ⊥
Wider OrNone OrNone = Unit {0}

abbrev pub LessKnown : Option Bool → Option Bool → Type 0
LessKnown (Some true) (Some true) = Unit {0}
LessKnown (Some false) (Some false) = Unit {0}
LessKnown (Some true) (Some false) = ⊥
LessKnown (Some false) (Some true) = ⊥
LessKnown a None = Unit {0}
LessKnown None (Some b) = ⊥

-- d is c or a base of c
abbrev pub Sub : List ClassInfo → ℕ → ℕ → Type 0
Sub classes c d = line.is_below classes c d ≡ true

abbrev pub has : List ℕ → ℕ → Bool
has fs f = list_any (λ g. g == f) fs

abbrev pub Among : List ℕ → List ℕ → Type 0
Among [] gs = Unit {0}
Among (f ∷ fs) gs = (has gs f ≡ true) × Among fs gs

-- ---- the order

mutual
  pub data Below (classes : List ClassInfo) (t : List ℕ) : Shape → Shape → Type 0 where
    least : (y : Shape) → Below classes t Nothing y
    none : Below classes t NoneOnly NoneOnly
    none_str : Below classes t NoneOnly (Str OrNone)
    none_list : (s : ℕ) → Below classes t NoneOnly (Lst s true)
    none_dict : (s : ℕ) → Below classes t NoneOnly (Dct s true)
    none_inst : (c : ℕ) → Below classes t NoneOnly (Inst c true)
    none_fun : (fs : List ℕ) → Below classes t NoneOnly (Fun fs true)
    truth : (a b : Option Bool) → LessKnown a b → Below classes t (Truth a) (Truth b)
    num : (a b : Bool) → Implies a b → Below classes t (Num a) (Num b)
    str : (a b : Width) → Wider a b → Below classes t (Str a) (Str b)
    tuple : (xs ys : Shapes) → Each classes t xs ys → Below classes t (Tup xs) (Tup ys)
    list : (s u : ℕ) (a b : Bool) → Same t s u → Implies a b → Below classes t (Lst s a) (Lst u b)
    dict : (s u : ℕ) (a b : Bool) → Same t s u → Implies a b → Below classes t (Dct s a) (Dct u b)
    inst : (c d : ℕ) (a b : Bool) → Sub classes c d → Implies a b → Below classes t (Inst c a) (Inst d b)
    fun : (fs gs : List ℕ) (a b : Bool) → Among fs gs → Implies a b → Below classes t (Fun fs a) (Fun gs b)
    clash : (x : Shape) (o p : Option ℕ) → Held t o (lists x) → Held t p (dicts x) → Below classes t x (Clash o p)

  -- item by item
  pub data Each (classes : List ClassInfo) (t : List ℕ) : Shapes → Shapes → Type 0 where
    no_more : Each classes t end end
    and_more : (x y : Shape) (xs ys : Shapes) → Below classes t x y → Each classes t xs ys → Each classes t (more x xs) (more y ys)

-- ---- the test of it

abbrev pub implies : Bool → Bool → Bool
implies a b = not a || b

abbrev pub same : List ℕ → ℕ → ℕ → Bool
same t s u = leader t s == leader t u

abbrev pub is_in : List ℕ → Option ℕ → ℕ → Bool
is_in t None s = false
is_in t (Some a) s = same t s a

abbrev pub kept_in : List ℕ → Option ℕ → Option ℕ → Bool
kept_in t o None = true
kept_in t o (Some s) = is_in t o s

-- the lists of an element are of one class, and its dicts of another
abbrev mutual
  pub are_held : List ℕ → Option ℕ → Option ℕ → Shape → Bool
  are_held t o p (Lst s n) = is_in t o s
  are_held t o p (Dct s n) = is_in t p s
  are_held t o p (Tup xs) = all_held t o p xs
  are_held t o p (Clash q r) = kept_in t o q && kept_in t p r
  are_held t o p other = true

  pub all_held : List ℕ → Option ℕ → Option ℕ → Shapes → Bool
  all_held t o p end = true
  all_held t o p (more x xs) = are_held t o p x && all_held t o p xs

abbrev pub wider : Width → Width → Bool
wider One b = true
wider Any One = false
wider Any b = true
wider OrNone OrNone = true
wider OrNone b = false

abbrev pub less_known : Option Bool → Option Bool → Bool
less_known a None = true
less_known (Some a) (Some b) = if a then b else not b
less_known None (Some b) = false

abbrev pub are_among : List ℕ → List ℕ → Bool
are_among [] gs = true
are_among (f ∷ fs) gs = has gs f && are_among fs gs

-- what is above an element of each kind

abbrev pub takes_none : Shape → Bool
takes_none NoneOnly = true
takes_none (Str OrNone) = true
takes_none (Lst s n) = n
takes_none (Dct s n) = n
takes_none (Inst c n) = n
takes_none (Fun fs n) = n
takes_none (Clash o p) = true
takes_none other = false

abbrev pub above_truth : Option Bool → Shape → Bool
above_truth a (Truth b) = less_known a b
above_truth a (Clash o p) = true
above_truth a other = false

abbrev pub above_num : Bool → Shape → Bool
above_num a (Num b) = implies a b
above_num a (Clash o p) = true
above_num a other = false

abbrev pub above_str : Width → Shape → Bool
above_str a (Str b) = wider a b
above_str a (Clash o p) = true
above_str a other = false

abbrev pub above_list : List ℕ → ℕ → Bool → Shape → Bool
above_list t s a (Lst u b) = same t s u && implies a b
above_list t s a (Clash o p) = is_in t o s
above_list t s a other = false

abbrev pub above_dict : List ℕ → ℕ → Bool → Shape → Bool
above_dict t s a (Dct u b) = same t s u && implies a b
above_dict t s a (Clash o p) = is_in t p s
above_dict t s a other = false

abbrev pub above_inst : List ClassInfo → ℕ → Bool → Shape → Bool
above_inst classes c a (Inst d b) = line.is_below classes c d && implies a b
above_inst classes c a (Clash o p) = true
above_inst classes c a other = false

abbrev pub above_fun : List ℕ → Bool → Shape → Bool
above_fun fs a (Fun gs b) = are_among fs gs && implies a b
above_fun fs a (Clash o p) = true
above_fun fs a other = false

abbrev pub above_clash : List ℕ → Option ℕ → Option ℕ → Shape → Bool
above_clash t q r (Clash o p) = kept_in t o q && kept_in t p r
above_clash t q r other = false

abbrev mutual
  pub is_below : List ClassInfo → List ℕ → Shape → Shape → Bool
  is_below classes t Nothing y = true
  is_below classes t NoneOnly y = takes_none y
  is_below classes t (Truth a) y = above_truth a y
  is_below classes t (Num a) y = above_num a y
  is_below classes t (Str a) y = above_str a y
  is_below classes t (Tup xs) (Tup ys) = each_below classes t xs ys
  is_below classes t (Tup xs) (Clash o p) = all_held t o p xs
  is_below classes t (Tup xs) other = false
  is_below classes t (Lst s a) y = above_list t s a y
  is_below classes t (Dct s a) y = above_dict t s a y
  is_below classes t (Inst c a) y = above_inst classes c a y
  is_below classes t (Fun fs a) y = above_fun fs a y
  is_below classes t (Clash q r) y = above_clash t q r y

  pub each_below : List ClassInfo → List ℕ → Shapes → Shapes → Bool
  each_below classes t end end = true
  each_below classes t end (more y ys) = false
  each_below classes t (more x xs) end = false
  each_below classes t (more x xs) (more y ys) = is_below classes t x y && each_below classes t xs ys

-- the element can be the key of a dict
abbrev mutual
  pub is_key : Shape → Bool
  is_key Nothing = true
  is_key (Truth a) = true
  is_key (Num a) = true
  is_key (Str One) = true
  is_key (Str Any) = true
  is_key (Tup xs) = are_keys xs
  is_key other = false

  pub are_keys : Shapes → Bool
  are_keys end = true
  are_keys (more x xs) = is_key x && are_keys xs
