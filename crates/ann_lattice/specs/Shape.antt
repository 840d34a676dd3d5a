-- Elements by their kinds: plain data on which their order and their join are defined.
use Rattle.std.specs.Prelude.{ℕ, Bool, true, false, List, [], ◌∷◌, map, Option, Some, None}
use Rattle.ann_element.specs.declared.element.Element.{Element, fold-Element}
use Rattle.ann_element.specs.declared.element.Element.TheOpen.{Element-F}

-- strings of length one, strings, strings or `None`
pub data Width : Type 0 where
  One : Width
  Any : Width
  OrNone : Width

-- The truth value that is known, if one is; whether a word may be below zero; the bool of a list, dict, instance or function says that it may be
-- `None`; what a conflict keeps of the lists and of the dicts in it.
mutual
  pub data Shape : Type 0 where
    Nothing : Shape
    NoneOnly : Shape
    Truth : Option Bool → Shape
    Num : Bool → Shape
    Str : Width → Shape
    Tup : Shapes → Shape
    Lst : ℕ → Bool → Shape
    Dct : ℕ → Bool → Shape
    Inst : ℕ → Bool → Shape
    Fun : List ℕ → Bool → Shape
    Clash : Option ℕ → Option ℕ → Shape

  pub data Shapes : Type 0 where
    end : Shapes
    more : Shape → Shapes → Shapes

abbrev pub shapes_of : List Shape → Shapes
shapes_of [] = end
shapes_of (x ∷ xs) = more x (shapes_of xs)

abbrev pub items : Shapes → List Shape
items end = []
items (more x xs) = x ∷ items xs

abbrev pub shape_step : Element-F Shape → Shape
shape_step Element-F.Unreached = Nothing
shape_step Element-F.NoneOnly = NoneOnly
shape_step Element-F.KnownTrue = Truth (Some true)
shape_step Element-F.KnownFalse = Truth (Some false)
shape_step Element-F.Bool = Truth None
shape_step Element-F.IntPos = Num false
shape_step Element-F.Int = Num true
shape_step Element-F.Char = Str One
shape_step Element-F.Str = Str Any
shape_step Element-F.StrOrNone = Str OrNone
shape_step (Element-F.Tuple parts) = Tup (shapes_of parts)
shape_step (Element-F.List site none) = Lst site none
shape_step (Element-F.Dict site none) = Dct site none
shape_step (Element-F.Instance class none) = Inst class none
shape_step (Element-F.Func functions none) = Fun functions none
shape_step (Element-F.Conflict lists dicts) = Clash lists dicts

abbrev pub shape : Element → Shape
shape = fold-Element Shape shape_step

abbrev pub shapes : List Element → Shapes
shapes es = shapes_of (map shape es)
