-- What tests tell is true where they are true, and where they are false.
use Rattle.std.proofs.Common.{◌≡◌, ◌⊎◌, ℕ, ◌+◌, inl, inr, Bool, true, false, List, [], ◌∷◌, Option, Some, None, is_some, refl, sym, ap, ◌∙◌, subst, arith, ℤ, pos, negsuc}
use Rattle.std.specs.Prelude.{int_lt, not, if◌then◌else◌, slice_get}
use Rattle.std.proofs.lemmas.Bool.{false≢true}
use Rattle.std.proofs.lemmas.Bool.Decides.{nat_tests}
use Rattle.rpy_tree.specs.Value.{Value, Word, Flag, Text, Nothing, Ref, Instance, Object}
use Rattle.rpy_tree.specs.declared.syntax.CmpOp.{CmpOp}
use Rattle.rpy_tree.specs.declared.syntax.CmpOp.TheVariants as cmp
use Rattle.rpy_meaning.specs.declared.row.Covers.{Covers}
use Rattle.rpy_meaning.specs.declared.row.RowOp.TheVariants as row
use Rattle.rpy_meaning.specs.Compare.{less, identical}
use Rattle.rpy_meaning.specs.Operations.{op, opposite, is_instance_object, truth_in}
use Rattle.rpy_meaning.specs.Tree.{Program}
use Rattle.rpy_meaning.specs.Classes.{is_below}
use Rattle.rpy_meaning.specs.World.{World, Gives, flag_if_any}
use Rattle.flow_meaning.specs.Machine.{and_value, truth_of}
use Rattle.flow_trees.specs.Tells.{Telling, of_truth, of_none, of_class, at_least, of_less, of_comparison, binds, is_none}
use Rattle.flow_trees.specs.Tree.{Expr, Local, Constant, Apply, Exprs, none}
use Rattle.flow_trees.specs.Marks.{operands}
use Rattle.graph_told.specs.Told.{IsOf, AreOrdered, IsTold}
use Rattle.graph_told.proofs.Facts.{At, values_at}
use Rattle.graph_told.proofs.Moves.{one_value, two_values}

-- ---- answers

pub flagged : (o : Option Bool) (w : World) (v : Value) (w' : World) → flag_if_any o w ≡ Gives v w' → (b : Bool) × (o ≡ Some b) × (v ≡ Flag b) × (w' ≡ w)
flagged None w v w' e = cc
flagged (Some b) w v w' e = let one : Flag b ≡ v = cc in let same : w ≡ w' = cc in (b, refl, sym one, sym same)

-- the truth of a truth value
pub flag_truth : (b way : Bool) (v : Value) (w : World) → v ≡ Flag b → truth_of w (Some v) ≡ Some way → b ≡ way
flag_truth b way v w e t = let s : truth_in w (Flag b) ≡ Some way = subst (λ (x : Value). truth_in w x ≡ Some way) e t in by s
  where
    by : truth_in w (Flag b) ≡ Some way → b ≡ way
    by s = cc

opposed : (o : Option Bool) (way : Bool) → opposite o ≡ Some way → o ≡ Some (not way)
opposed None way e = cc
opposed (Some true) true e = cc
opposed (Some true) false e = refl
opposed (Some false) true e = refl
opposed (Some false) false e = cc

-- ---- orders

after : (a b : ℤ) → int_lt b a ≡ true → int_lt a b ≡ false
after (pos a) (pos b) e = grind (arith, nat_tests, e)
after (pos a) (negsuc b) e = refl
after (negsuc a) (pos b) e = cc
after (negsuc a) (negsuc b) e = grind (arith, nat_tests, e)

not_less : (x y : Value) → less x y ≡ Some false → AreOrdered x y
not_less (Word a) (Word b) e = by e
  where
    by : Some (int_lt a b) ≡ Some false → int_lt a b ≡ false
    by e = cc
not_less (Text a) (Text b) e = tt
not_less x y e = absurd (cc)

more_than : (y x : Value) → less y x ≡ Some true → AreOrdered x y
more_than (Word b) (Word a) e = after a b (by e)
  where
    by : Some (int_lt b a) ≡ Some true → int_lt b a ≡ true
    by e = cc
more_than (Text b) (Text a) e = tt
more_than y x e = absurd (cc)

is_more : (x y : Value) → less y x ≡ Some true → AreOrdered x y
is_more x y e = more_than y x e

is_nothing : (x : Value) → identical x Nothing ≡ Some true → x ≡ Nothing
is_nothing Nothing e = refl
is_nothing x e = absurd (cc)

is_thing : (x : Value) → identical x Nothing ≡ Some false → x ≡ Nothing → ⊥
is_thing x e same = let s : identical Nothing Nothing ≡ Some false = subst (λ (y : Value). identical y Nothing ≡ Some false) same e in cc

module _ (p : Program) where
  -- ---- truth

  pub truth_told : (i : ℕ) (way : Bool) (t : Telling) → of_truth i way ≡ Some t → (w : World) (at : At) (x : Value) → at i ≡ Some x → truth_of w (Some x) ≡ Some way → (m : ℕ) (vs : List Value) → values_at at (operands t m) ≡ Some vs → IsTold p t.op w vs
  truth_told i true t e w at x there true_is m vs given =
      let same : record { local = i; op = row.DropNone; beside = None } ≡ t = cc in
      subst (λ (u : Telling). values_at at (operands u m) ≡ Some vs → IsTold p u.op w vs) same (λ g. by g) given
    where
      by : values_at at (i ∷ []) ≡ Some vs → IsTold p row.DropNone w vs
      by g =
          let one = one_value (at i) vs g in
          let is : one.0 ≡ x = some_same (sym one.1 ∙ there) in
          (one.0, one.2, λ nothing. let s : truth_of w (Some Nothing) ≡ Some true = subst (λ (y : Value). truth_of w (Some y) ≡ Some true) (sym is ∙ nothing) true_is in cc)
        where
          some_same : {a b : Value} → Some a ≡ Some b → a ≡ b
          some_same e = cc
  truth_told i false t e w at x there false_is m vs given =
      let same : record { local = i; op = row.FalseNone; beside = None } ≡ t = cc in
      subst (λ (u : Telling). values_at at (operands u m) ≡ Some vs → IsTold p u.op w vs) same (λ g. by g) given
    where
      by : values_at at (i ∷ []) ≡ Some vs → IsTold p row.FalseNone w vs
      by g =
          let one = one_value (at i) vs g in
          let is : x ≡ one.0 = some_same (sym there ∙ one.1) in
          (one.0, one.2, subst (λ (y : Value). truth_in w y ≡ Some false) is false_is)
        where
          some_same : {a b : Value} → Some a ≡ Some b → a ≡ b
          some_same e = cc

  -- ---- comparisons

  -- what stands for the left side, where the right one has not bound it; and for the right side
  abbrev pub LeftIs : Expr → Expr → Value → At → Type 0
  LeftIs (Local node i) e x at = binds e i ≡ false → at i ≡ Some x
  LeftIs a e x at = Unit {0}

  abbrev pub RightIs : Expr → Value → At → Type 0
  RightIs (Local node i) y at = at i ≡ Some y
  RightIs (Constant node k v) y at = y ≡ v
  RightIs (Apply node value row.None es) y at = (y ≡ Nothing) × (es ≡ none)
  RightIs e y at = Unit {0}

  -- the sides stand from m on, where one of them is asked for
  abbrev pub Beside : Telling → At → ℕ → Value → Value → Type 0
  Beside t at m x y = (is_some t.beside ≡ false) ⊎ ((at (m + 0) ≡ Some x) × (at (m + 1) ≡ Some y))

  some_same : {a b : Value} → Some a ≡ Some b → a ≡ b
  some_same e = cc

  least_told : (e other : Expr) (place : ℕ) (t : Telling) → at_least e other place ≡ Some t → (w : World) (x y : Value) (at : At) (m : ℕ) → LeftIs e other x at → (is_some t.beside ≡ false) ⊎ (at (m + place) ≡ Some y) → AreOrdered x y
      → (vs : List Value) → values_at at (operands t m) ≡ Some vs → IsTold p t.op w vs
  least_told (Local node i) other place t e w x y at m left side ordered vs given = by (binds other i) refl e
    where
      told : Telling
      told = record { local = i; op = row.NonNegative; beside = Some place }

      found : at i ≡ Some x → (is_some told.beside ≡ false) ⊎ (at (m + place) ≡ Some y) → values_at at (operands told m) ≡ Some vs → IsTold p row.NonNegative w vs
      found there (inl alone) g = absurd (false≢true (sym alone))
      found there (inr beside) g =
          let two = two_values (at i) (at (m + place)) vs g in
          let first : two.0 ≡ x = some_same (sym two.2 ∙ there) in
          let second : two.1 ≡ y = some_same (sym two.3 ∙ beside) in
          (two.0, two.1, two.4, subst (λ (a : Value). AreOrdered a two.1) (sym first) (subst (λ (b : Value). AreOrdered x b) (sym second) ordered))

      by : (b : Bool) → binds other i ≡ b → (if b then None else Some told) ≡ Some t → IsTold p t.op w vs
      by true bound f = cc
      by false free f =
          let same : told ≡ t = cc in
          subst (λ (u : Telling). (is_some u.beside ≡ false) ⊎ (at (m + place) ≡ Some y) → values_at at (operands u m) ≡ Some vs → IsTold p u.op w vs) same (found (left free)) side given
  least_told e other place t is w x y at m left side ordered vs given = absurd (cc)

  -- the right side, as one that nothing behind it binds
  pub as_left : (e other : Expr) (y : Value) (at : At) → RightIs e y at → LeftIs e other y at
  as_left (Local node i) other y at right = λ free. right
  as_left e other y at right = tt

  first_side : (t : Telling) (at : At) (m : ℕ) (x y : Value) → Beside t at m x y → (is_some t.beside ≡ false) ⊎ (at (m + 0) ≡ Some x)
  first_side t at m x y (inl alone) = inl alone
  first_side t at m x y (inr both) = inr both.0

  second_side : (t : Telling) (at : At) (m : ℕ) (x y : Value) → Beside t at m x y → (is_some t.beside ≡ false) ⊎ (at (m + 1) ≡ Some y)
  second_side t at m x y (inl alone) = inl alone
  second_side t at m x y (inr both) = inr both.1

  less_told : (a e : Expr) (way : Bool) (t : Telling) → of_less a e way ≡ Some t → (w : World) (x y : Value) (at : At) (m : ℕ) → LeftIs a e x at → RightIs e y at → Beside t at m x y → (way ≡ true → AreOrdered y x) → (way ≡ false → AreOrdered x y)
      → (vs : List Value) → values_at at (operands t m) ≡ Some vs → IsTold p t.op w vs
  less_told a e true t told w x y at m left right sides so other vs given = least_told e a 0 t told w y x at m (as_left e a y at right) (first_side t at m x y sides) (so refl) vs given
  less_told a e false t told w x y at m left right sides so other vs given = least_told a e 1 t told w x y at m left (second_side t at m x y sides) (other refl) vs given

  by_less : (a e : Expr) (way : Bool) (t : Telling) → of_less a e way ≡ Some t → (w : World) (x y : Value) (at : At) (m : ℕ) → LeftIs a e x at → RightIs e y at → Beside t at m x y → less x y ≡ Some way
      → (vs : List Value) → values_at at (operands t m) ≡ Some vs → IsTold p t.op w vs
  by_less a e way t told w x y at m left right sides answer vs given =
      less_told a e way t told w x y at m left right sides (λ is. is_more y x (answer ∙ ap Some is)) (λ is. not_less x y (answer ∙ ap Some is)) vs given

  by_more : (a e : Expr) (way : Bool) (t : Telling) → of_less a e way ≡ Some t → (w : World) (x y : Value) (at : At) (m : ℕ) → LeftIs a e x at → RightIs e y at → Beside t at m x y → less y x ≡ Some (not way)
      → (vs : List Value) → values_at at (operands t m) ≡ Some vs → IsTold p t.op w vs
  by_more a e way t told w x y at m left right sides answer vs given =
      less_told a e way t told w x y at m left right sides (λ is. not_less y x (answer ∙ ap (λ b. Some (not b)) is)) (λ is. is_more x y (answer ∙ ap (λ b. Some (not b)) is)) vs given

  -- `None` on the right
  none_named : (e : Expr) (y : Value) (at : At) → is_none e ≡ true → RightIs e y at → (y ≡ Nothing) × ((i : ℕ) → binds e i ≡ false)
  none_named (Constant node k Nothing) y at named right = (right, λ i. refl)
  none_named (Apply node value row.None es) y at named right = (right.0, λ i. ap (λ (l : Exprs). binds (Apply node value row.None l) i) right.1)
  none_named e y at named right = absurd (cc)

  none_told : (a e : Expr) (way : Bool) (t : Telling) → of_none a (is_none e) way ≡ Some t → (w : World) (x y : Value) (at : At) (m : ℕ) → LeftIs a e x at → RightIs e y at → identical x y ≡ Some way
      → (vs : List Value) → values_at at (operands t m) ≡ Some vs → IsTold p t.op w vs
  none_told (Local node i) e way t told w x y at m left right answer vs given = by (is_none e) refl way told answer
    where
      here : is_none e ≡ true → (vs : List Value) → and_value (at i) (Some []) ≡ Some vs → vs ≡ x ∷ []
      here named vs g =
          let one = one_value (at i) vs g in
          let is : one.0 ≡ x = some_same (sym one.1 ∙ left ((none_named e y at named right).1 i)) in
          one.2 ∙ ap (λ (z : Value). z ∷ []) is

      at_nothing : is_none e ≡ true → (b : Bool) → identical x y ≡ Some b → identical x Nothing ≡ Some b
      at_nothing named b answer = subst (λ (z : Value). identical x z ≡ Some b) (none_named e y at named right).0 answer

      by : (named : Bool) → is_none e ≡ named → (way : Bool) → of_none (Local node i) named way ≡ Some t → identical x y ≡ Some way → IsTold p t.op w vs
      by true is true f answer =
          let same : record { local = i; op = row.OnlyNone; beside = None } ≡ t = cc in
          subst (λ (u : Telling). values_at at (operands u m) ≡ Some vs → IsTold p u.op w vs) same
          (λ g. here is vs g ∙ ap (λ (z : Value). z ∷ []) (is_nothing x (at_nothing is true answer))) given
      by true is false f answer =
          let same : record { local = i; op = row.DropNone; beside = None } ≡ t = cc in
          subst (λ (u : Telling). values_at at (operands u m) ≡ Some vs → IsTold p u.op w vs) same
          (λ g. (x, here is vs g, is_thing x (at_nothing is false answer))) given
      by false is way f answer = absurd (cc)
  none_told a e way t told w x y at m left right answer vs given = absurd (cc)

  answered : (o : Option Bool) (w : World) (v : Value) (w' : World) (way : Bool) → flag_if_any o w ≡ Gives v w' → truth_of w' (Some v) ≡ Some way → o ≡ Some way
  answered o w v w' way gives true_is = let x = flagged o w v w' gives in x.1 ∙ ap Some (flag_truth x.0 way v w' x.2 true_is)

  twice : (way : Bool) → Some way ≡ Some (not (not way))
  twice true = refl
  twice false = refl

  pub compared : (c : Covers) (o : CmpOp) (a e : Expr) (way : Bool) (t : Telling) → of_comparison o a e way ≡ Some t → (x y v : Value) (w w' : World) → op p c (row.Compare o) (x ∷ y ∷ []) w ≡ Gives v w' → truth_of w' (Some v) ≡ Some way
      → (at : At) (m : ℕ) → LeftIs a e x at → RightIs e y at → Beside t at m x y → (vs : List Value) → values_at at (operands t m) ≡ Some vs → IsTold p t.op w' vs
  compared c cmp.Lt a e way t told x y v w w' gives true_is at m left right sides vs given = by_less a e way t told w' x y at m left right sides (answered (less x y) w v w' way gives true_is) vs given
  compared c cmp.Le a e way t told x y v w w' gives true_is at m left right sides vs given = by_more a e way t told w' x y at m left right sides (opposed (less y x) way (answered (opposite (less y x)) w v w' way gives true_is)) vs given
  compared c cmp.Gt a e way t told x y v w w' gives true_is at m left right sides vs given = by_more a e (not way) t told w' x y at m left right sides (answered (less y x) w v w' way gives true_is ∙ twice way) vs given
  compared c cmp.Ge a e way t told x y v w w' gives true_is at m left right sides vs given = by_less a e (not way) t told w' x y at m left right sides (opposed (less x y) way (answered (opposite (less x y)) w v w' way gives true_is)) vs given
  compared c cmp.Is a e way t told x y v w w' gives true_is at m left right sides vs given = none_told a e way t told w' x y at m left right (answered (identical x y) w v w' way gives true_is) vs given
  compared c cmp.IsNot a e way t told x y v w w' gives true_is at m left right sides vs given = none_told a e (not way) t told w' x y at m left right (opposed (identical x y) way (answered (opposite (identical x y)) w v w' way gives true_is)) vs given
  compared c o a e way t told x y v w w' gives true_is at m left right sides vs given = absurd (cc)

  -- ---- `isinstance`

  of_object : (c : Covers) (d r : ℕ) (o : Option Object) (w : World) (v : Value) (w' : World) → slice_get w.heap r ≡ o → is_instance_object p c d o w ≡ Gives v w' → truth_of w' (Some v) ≡ Some true → IsOf p d w' (Ref r)
  of_object c d r (Some (Instance class attributes)) w v w' e gives true_is =
      let x = flagged (Some (is_below p.classes class d)) w v w' gives in
      let is : is_below p.classes class d ≡ true = some_flag x.1 ∙ flag_truth x.0 true v w' x.2 true_is in
      record { object = r; is = refl; of = class; attributes = attributes; there = ap (λ (u : World). slice_get u.heap r) x.3 ∙ e; below = is }
    where
      some_flag : {a b : Bool} → Some a ≡ Some b → a ≡ b
      some_flag e = cc
  of_object c d r other w v w' e gives true_is = absurd (cc)

  instance_told : (c : Covers) (d : ℕ) (x v : Value) (w w' : World) → op p c (row.IsInstance d) (x ∷ []) w ≡ Gives v w' → truth_of w' (Some v) ≡ Some true → IsOf p d w' x
  instance_told c d (Ref r) v w w' gives true_is = of_object c d r (slice_get w.heap r) w v w' refl gives true_is
  instance_told c d Nothing v w w' gives true_is = let x = flagged (Some false) w v w' gives in absurd (false≢true (some_flag x.1 ∙ flag_truth x.0 true v w' x.2 true_is))
    where
      some_flag : {a b : Bool} → Some a ≡ Some b → a ≡ b
      some_flag e = cc
  instance_told c d x v w w' gives true_is = absurd (cc)

  pub class_told : (c : Covers) (d : ℕ) (e : Expr) (way : Bool) (t : Telling) → of_class d e way ≡ Some t → (x v : Value) (w w' : World) → op p c (row.IsInstance d) (x ∷ []) w ≡ Gives v w' → truth_of w' (Some v) ≡ Some way
      → (at : At) (m : ℕ) → RightIs e x at → (vs : List Value) → values_at at (operands t m) ≡ Some vs → IsTold p t.op w' vs
  class_told c d (Local node i) true t told x v w w' gives true_is at m copy vs given =
      let same : record { local = i; op = row.Lower d; beside = None } ≡ t = cc in
      subst (λ (u : Telling). values_at at (operands u m) ≡ Some vs → IsTold p u.op w' vs) same
      (λ g. let one = one_value (at i) vs g in let is : x ≡ one.0 = some_same (sym copy ∙ one.1) in (one.0, one.2, subst (λ (y : Value). IsOf p d w' y) is (instance_told c d x v w w' gives true_is))) given
  class_told c d e way t told x v w w' gives true_is at m copy vs given = absurd (cc)
