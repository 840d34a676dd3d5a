-- Operations that are no moments change nothing.
use Rattle.std.proofs.Common.{◌≡◌, ℕ, Bool, true, false, List, [], ◌∷◌, length, Option, Some, None, refl}
use Rattle.std.specs.Prelude.{◌==◌, slice_get, if◌then◌else◌, not, option_map, is_some}
use Rattle.rpy_tree.specs.Value.{Value, Word, Flag, Text, Nothing, Fun, Tuple, Ref, Object, Listed, Mapped, Instance}
use Rattle.rpy_tree.specs.declared.syntax.CmpOp.{CmpOp}
use Rattle.rpy_tree.specs.declared.syntax.CmpOp.TheVariants as cmp
use Rattle.rpy_meaning.specs.declared.row.Covers.{Covers}
use Rattle.rpy_meaning.specs.declared.row.RowOp.{RowOp}
use Rattle.rpy_meaning.specs.declared.row.RowOp.TheVariants as row
use Rattle.rpy_meaning.specs.Classes.{is_below}
use Rattle.rpy_meaning.specs.Tree.{Program}
use Rattle.rpy_meaning.specs.World.{World, Op, give, flag, flag_if_any, bad, failure, throw, if_some}
use Rattle.rpy_base.specs.declared.outcome.FailName.{FailName}
use Rattle.rpy_base.specs.declared.outcome.FailName.TheVariants as fail
use Rattle.rpy_meaning.specs.Compare.{equal, identical, less, is_among}
use Rattle.rpy_meaning.specs.Sequences.{items_of, is_in_object}
use Rattle.rpy_meaning.specs.Methods.{place_of}
use Rattle.rpy_meaning.specs.Operations.{op, constant, with_none, with_one, with_two, is_true, is_not_true, truth_in, opposite, unpack, raise, raise_object, compare, within}
use Rattle.rpy_meaning.specs.Moments.{is_slight}
use Rattle.flow_laws.specs.Slight.{Leaves, Tells}

-- ---- answers

module _ (w : World) where
  flagged : (found : Option Bool) → Leaves w (flag_if_any found w)
  flagged None = tt
  flagged (Some b) = refl

  told : (found : Option Bool) → Tells w (flag_if_any found w)
  told None = tt
  told (Some b) = (refl, (b, refl))

  failed : (covered : Bool) (class : ℕ) (name : FailName) → Leaves w (failure covered class name w)
  failed true class name = refl
  failed false class name = tt

  failed_so : (covered : Bool) (class : ℕ) (name : FailName) → Tells w (failure covered class name w)
  failed_so true class name = refl
  failed_so false class name = tt

  -- ---- operands

  none_left : (f : Op) → Leaves w (f w) → (vs : List Value) → Leaves w (with_none f vs w)
  none_left f h [] = h
  none_left f h (x ∷ xs) = tt

  one_left : (f : Value → Op) → ((x : Value) → Leaves w (f x w)) → (vs : List Value) → Leaves w (with_one f vs w)
  one_left f h [] = tt
  one_left f h (x ∷ []) = h x
  one_left f h (x ∷ y ∷ xs) = tt

  two_left : (f : Value → Value → Op) → ((x y : Value) → Leaves w (f x y w)) → (vs : List Value) → Leaves w (with_two f vs w)
  two_left f h [] = tt
  two_left f h (x ∷ []) = tt
  two_left f h (x ∷ y ∷ []) = h x y
  two_left f h (x ∷ y ∷ z ∷ xs) = tt

  two_told : (f : Value → Value → Op) → ((x y : Value) → Tells w (f x y w)) → (vs : List Value) → Tells w (with_two f vs w)
  two_told f h [] = tt
  two_told f h (x ∷ []) = tt
  two_told f h (x ∷ y ∷ []) = h x y
  two_told f h (x ∷ y ∷ z ∷ xs) = tt

  -- ---- operations

  given : (x : Value) → Leaves w (give x w)
  given x = refl

  item_given : (found : Option Value) → Leaves w (if_some bad found give w)
  item_given None = tt
  item_given (Some x) = refl

  unpacked : (count place : ℕ) (x : Value) → Leaves w (unpack count place x w)
  unpacked count place (Word z) = tt
  unpacked count place (Flag b) = tt
  unpacked count place (Text t) = tt
  unpacked count place Nothing = tt
  unpacked count place (Fun f) = tt
  unpacked count place (Ref r) = tt
  unpacked count place (Tuple vs) = by (length (items_of vs) == count)
    where
      by : (t : Bool) → Leaves w ((if t then if_some bad (slice_get (items_of vs) place) give else bad) w)
      by true = item_given (slice_get (items_of vs) place)
      by false = tt

  module _ (p : Program) (c : Covers) where
    thrown : (r : ℕ) (t : Bool) → Leaves w ((if t then throw r else bad) w)
    thrown r true = refl
    thrown r false = tt

    object_raised : (r : ℕ) (found : Option Object) → Leaves w (raise_object p c r found w)
    object_raised r None = tt
    object_raised r (Some (Listed vs)) = tt
    object_raised r (Some (Mapped pairs)) = tt
    object_raised r (Some (Instance class attributes)) = thrown r (is_below p.classes class 0)

    raised : (x : Value) → Leaves w (raise p c x w)
    raised (Word z) = tt
    raised (Flag b) = tt
    raised (Text t) = tt
    raised Nothing = failed c.attribute 9 fail.Attribute
    raised (Tuple vs) = tt
    raised (Fun f) = tt
    raised (Ref r) = object_raised r (slice_get w.heap r)

  -- ---- comparisons

  module _ (c : Covers) (f : Bool → Bool) where
    -- `in` a list, a dict or a tuple, of whatever
    in_object : (x : Value) (r : ℕ) → Tells w (within c f x (Ref r) w)
    in_object (Word z) r = told (option_map f (is_in_object (Word z) (slice_get w.heap r)))
    in_object (Flag b) r = told (option_map f (is_in_object (Flag b) (slice_get w.heap r)))
    in_object (Text t) r = told (option_map f (is_in_object (Text t) (slice_get w.heap r)))
    in_object Nothing r = told (option_map f (is_in_object Nothing (slice_get w.heap r)))
    in_object (Tuple vs) r = told (option_map f (is_in_object (Tuple vs) (slice_get w.heap r)))
    in_object (Fun g) r = told (option_map f (is_in_object (Fun g) (slice_get w.heap r)))
    in_object (Ref s) r = told (option_map f (is_in_object (Ref s) (slice_get w.heap r)))

    in_tuple : (x : Value) (vs : _) → Tells w (within c f x (Tuple vs) w)
    in_tuple (Word z) vs = (refl, (f (is_among (Word z) (items_of vs)), refl))
    in_tuple (Flag b) vs = (refl, (f (is_among (Flag b) (items_of vs)), refl))
    in_tuple (Text t) vs = (refl, (f (is_among (Text t) (items_of vs)), refl))
    in_tuple Nothing vs = (refl, (f (is_among Nothing (items_of vs)), refl))
    in_tuple (Tuple us) vs = (refl, (f (is_among (Tuple us) (items_of vs)), refl))
    in_tuple (Fun g) vs = (refl, (f (is_among (Fun g) (items_of vs)), refl))
    in_tuple (Ref s) vs = (refl, (f (is_among (Ref s) (items_of vs)), refl))

    in_none : (x : Value) → Tells w (within c f x Nothing w)
    in_none (Word z) = failed_so c.attribute 9 fail.Attribute
    in_none (Flag b) = failed_so c.attribute 9 fail.Attribute
    in_none (Text t) = failed_so c.attribute 9 fail.Attribute
    in_none Nothing = failed_so c.attribute 9 fail.Attribute
    in_none (Tuple us) = failed_so c.attribute 9 fail.Attribute
    in_none (Fun g) = failed_so c.attribute 9 fail.Attribute
    in_none (Ref s) = failed_so c.attribute 9 fail.Attribute

    in_text : (x : Value) (text : List ℕ) → Tells w (within c f x (Text text) w)
    in_text (Text part) text = (refl, (f (is_some (place_of part 0 text)), refl))
    in_text (Word z) text = tt
    in_text (Flag b) text = tt
    in_text Nothing text = tt
    in_text (Tuple us) text = tt
    in_text (Fun g) text = tt
    in_text (Ref s) text = tt

    among_told : (x y : Value) → Tells w (within c f x y w)
    among_told x (Ref r) = in_object x r
    among_told x (Tuple vs) = in_tuple x vs
    among_told x Nothing = in_none x
    among_told x (Text text) = in_text x text
    among_told (Word z) (Word y) = tt
    among_told (Flag b) (Word y) = tt
    among_told (Text t) (Word y) = tt
    among_told Nothing (Word y) = tt
    among_told (Tuple us) (Word y) = tt
    among_told (Fun g) (Word y) = tt
    among_told (Ref s) (Word y) = tt
    among_told (Word z) (Flag y) = tt
    among_told (Flag b) (Flag y) = tt
    among_told (Text t) (Flag y) = tt
    among_told Nothing (Flag y) = tt
    among_told (Tuple us) (Flag y) = tt
    among_told (Fun g) (Flag y) = tt
    among_told (Ref s) (Flag y) = tt
    among_told (Word z) (Fun y) = tt
    among_told (Flag b) (Fun y) = tt
    among_told (Text t) (Fun y) = tt
    among_told Nothing (Fun y) = tt
    among_told (Tuple us) (Fun y) = tt
    among_told (Fun g) (Fun y) = tt
    among_told (Ref s) (Fun y) = tt

  compared_told : (c : Covers) (f : CmpOp) (x y : Value) → Tells w (compare c f x y w)
  compared_told c cmp.Lt x y = told (less x y)
  compared_told c cmp.Le x y = told (opposite (less y x))
  compared_told c cmp.Gt x y = told (less y x)
  compared_told c cmp.Ge x y = told (opposite (less x y))
  compared_told c cmp.Eq x y = told (equal x y)
  compared_told c cmp.Ne x y = told (opposite (equal x y))
  compared_told c cmp.Within x y = among_told c (λ b. b) x y
  compared_told c cmp.NotWithin x y = among_told c not x y
  compared_told c cmp.Is x y = told (identical x y)
  compared_told c cmp.IsNot x y = told (opposite (identical x y))

-- ---- the laws

pub compared : (p : Program) (c : Covers) (f : CmpOp) (vs : List Value) (w : World) → Tells w (op p c (row.Compare f) vs w)
compared p c f vs w = two_told w (compare c f) (compared_told w c f) vs

pub slight : (p : Program) (c : Covers) (o : RowOp) (vs : List Value) (w : World) → is_slight o ≡ true → Leaves w (op p c o vs w)
slight p c (row.Word z) vs w h = none_left w (give (Word z)) refl vs
slight p c (row.Str text) vs w h = none_left w (give (Text text)) refl vs
slight p c (row.Bool b) vs w h = none_left w (flag b) refl vs
slight p c row.None vs w h = none_left w (give Nothing) refl vs
slight p c (row.Constant a) vs w h = none_left w (give (constant p.sites a)) refl vs
slight p c row.Copy vs w h = one_left w give (given w) vs
slight p c row.Not vs w h = one_left w is_not_true (λ x. flagged w (opposite (truth_in w x))) vs
slight p c row.Truth vs w h = one_left w is_true (λ x. flagged w (truth_in w x)) vs
slight p c (row.Unpack count place) vs w h = one_left w (unpack count place) (unpacked w count place) vs
slight p c row.Raise vs w h = one_left w (raise p c) (raised w p c) vs
slight p c row.DropNone vs w h = one_left w give (given w) vs
slight p c row.OnlyNone vs w h = one_left w give (given w) vs
slight p c row.FalseNone vs w h = one_left w give (given w) vs
slight p c (row.Lower d) vs w h = one_left w give (given w) vs
slight p c row.NonNegative vs w h = two_left w (λ x y. give x) (λ x y. refl) vs
slight p c (row.Unary f) vs w h = absurd (cc h)
slight p c (row.Binary f site) vs w h = absurd (cc h)
slight p c row.AddTo vs w h = absurd (cc h)
slight p c row.CheckedNeg vs w h = absurd (cc h)
slight p c (row.Checked f) vs w h = absurd (cc h)
slight p c (row.Compare f) vs w h = absurd (cc h)
slight p c row.Intmask vs w h = absurd (cc h)
slight p c row.Min vs w h = absurd (cc h)
slight p c row.Max vs w h = absurd (cc h)
slight p c row.Len vs w h = absurd (cc h)
slight p c row.Ord vs w h = absurd (cc h)
slight p c row.Chr vs w h = absurd (cc h)
slight p c row.ToStr vs w h = absurd (cc h)
slight p c row.ToInt vs w h = absurd (cc h)
slight p c row.Write vs w h = absurd (cc h)
slight p c (row.IsInstance d) vs w h = absurd (cc h)
slight p c (row.Index literal) vs w h = absurd (cc h)
slight p c row.StoreIndex vs w h = absurd (cc h)
slight p c row.DeleteIndex vs w h = absurd (cc h)
slight p c (row.Attr name) vs w h = absurd (cc h)
slight p c (row.StoreAttr name) vs w h = absurd (cc h)
slight p c (row.Slice site low high) vs w h = absurd (cc h)
slight p c (row.AllButLast site) vs w h = absurd (cc h)
slight p c row.Tuple vs w h = absurd (cc h)
slight p c (row.List site) vs w h = absurd (cc h)
slight p c (row.Dict site) vs w h = absurd (cc h)
slight p c (row.Comprehension site) vs w h = absurd (cc h)
slight p c row.AddItem vs w h = absurd (cc h)
slight p c (row.Call f) vs w h = absurd (cc h)
slight p c (row.CallOf d f) vs w h = absurd (cc h)
slight p c row.CallValue vs w h = absurd (cc h)
slight p c (row.New d) vs w h = absurd (cc h)
slight p c (row.Method name site) vs w h = absurd (cc h)
slight p c row.Print vs w h = absurd (cc h)
slight p c (row.Walk site) vs w h = absurd (cc h)
slight p c (row.HasItem step) vs w h = absurd (cc h)
slight p c (row.Item step) vs w h = absurd (cc h)
slight p c (row.Advance step) vs w h = absurd (cc h)
slight p c row.Turn vs w h = absurd (cc h)
