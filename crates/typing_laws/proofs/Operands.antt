-- Operands of an operation: by their elements as data, and as the rules of graphs see them.
use Rattle.std.proofs.Common.{◌≡◌, ◌+◌, ◌<◌, ℕ, zero, suc, Bool, true, false, List, [], ◌∷◌, length, map, Option, Some, None, refl, sym, ap, ◌∙◌, subst, arith}
use Rattle.std.specs.Prelude.{◌==◌, ◌&&◌, ◌||◌, slice_get, slice_set, replicate, codes, is_some, if◌then◌else◌}
use Rattle.std.specs.Str.{bytes_eq}
use Rattle.std.proofs.lemmas.Bool.{eqb-true, eqb-false, eq-eqb, ne_eqb, lt-ltb}
use Rattle.std.proofs.lemmas.Slice.Eq.{bytes_eq-Decides}
use Rattle.rpy_tree.specs.declared.program.Site.{Site}
use Rattle.rpy_meaning.specs.declared.row.RowOp.{RowOp}
use Rattle.rpy_meaning.specs.declared.row.RowOp.TheVariants as row
use Rattle.ann_element.specs.Sites.{leader}
use Rattle.ann_element.specs.declared.element.Element.{Element, out-Element}
use Rattle.ann_element.specs.declared.element.Element.TheOpen.{Element-F}
use Rattle.ann_element.specs.declared.element.Element.TheFolds.{fold-roll-Element, map-Element}
use Rattle.ann_element.specs.declared.element.Element.TheViews.{roll-out-Element}
use Rattle.ann_lattice.specs.declared.method.Method.{Method}
use Rattle.ann_lattice.specs.declared.method.Method.TheVariants as m
use Rattle.ann_lattice.specs.Kind.{is_nothing, some_nothing}
use Rattle.ann_lattice.specs.Methods.{method_named, dict_method_named}
use Rattle.ann_lattice.specs.Shape.{Shape, Nothing, shape, shape_step}
use Rattle.ann_lattice.specs.Assign.{Assignment}
use Rattle.ann_rules.specs.Program.{Whole}
use Rattle.ann_tree.specs.Faults.{is_list, some_first, some_second, modifying, modifies, prebuilt_from, may_be_constant}
use Rattle.rtyper_core.specs.Modify as code
use Rattle.rtyper_core.specs.Modify.{operand, element_of, is_list_at, modifies_by, modifies_row, is_marked, with_mark, with_prebuilt, prebuilt, may_be_prebuilt_at}
use Rattle.rtyper_core.specs.Typing.{unreached_in, is_unreached_at, some_unreached}

-- what is not there is unreached
abbrev pub seen : Option Element → Shape
seen None = Nothing
seen (Some e) = shape e

-- ---- an element by its kind

-- what is the same of each kind is the same of each element
pub by_kind : {A : Type 0} → (f : Element-F Element → A) (g : Shape → A) → ((x : Element-F Element) → f x ≡ g (shape_step (map-Element Element Shape shape x))) → (e : Element) → f (out-Element e) ≡ g (shape e)
by_kind f g h e = h (out-Element e) ∙ ap g (sym (fold-roll-Element Shape shape_step (out-Element e)) ∙ ap shape (roll-out-Element e))

pub related_by_kind : {A B : Type 0} → (R : A → B → Type 0) (f : Element-F Element → A) (g : Shape → B) → ((x : Element-F Element) → R (f x) (g (shape_step (map-Element Element Shape shape x)))) → (e : Element) → R (f (out-Element e)) (g (shape e))
related_by_kind R f g h e = subst (λ y. R (f (out-Element e)) (g y)) (sym (fold-roll-Element Shape shape_step (out-Element e)) ∙ ap shape (roll-out-Element e)) (h (out-Element e))

-- ---- kinds of elements

pub unreached_is : (o : Option Element) → is_unreached_at o ≡ is_nothing (seen o)
unreached_is None = refl
unreached_is (Some e) = by_kind unreached_in is_nothing of_kind e
  where
    of_kind : (x : Element-F Element) → unreached_in x ≡ is_nothing (shape_step (map-Element Element Shape shape x))
    of_kind Element-F.Unreached = refl
    of_kind _ = refl

list_is : (o : Option Element) → is_list_at o ≡ is_list (seen o)
list_is None = refl
list_is (Some e) = by_kind code.list_in is_list of_kind e
  where
    of_kind : (x : Element-F Element) → code.list_in x ≡ is_list (shape_step (map-Element Element Shape shape x))
    of_kind (Element-F.List s n) = refl
    of_kind _ = refl

-- ---- the first operand, and the second

module _ (es : List Element) where
  abbrev pub reads : List ℕ → List Shape
  reads args = map (λ v. seen (slice_get es v)) args

  pub first_is : (one : Option Element → Bool) (test : Shape → Bool) → one None ≡ false → ((o : Option Element) → one o ≡ test (seen o)) → (args : List ℕ) → one (operand es args 0) ≡ some_first test (reads args)
  first_is one test none same [] = none
  first_is one test none same (v ∷ vs) = same (slice_get es v)

  pub second_is : (one : Option Element → Bool) (test : Shape → Bool) → one None ≡ false → ((o : Option Element) → one o ≡ test (seen o)) → (args : List ℕ) → one (operand es args 1) ≡ some_second test (reads args)
  second_is one test none same [] = none
  second_is one test none same (v ∷ []) = none
  second_is one test none same (v ∷ u ∷ vs) = same (slice_get es u)

  if_or : (b c : Bool) → (if b then true else c) ≡ (b || c)
  if_or true c = refl
  if_or false c = refl

  pub unreached_are : (args : List ℕ) → some_unreached es args ≡ some_nothing (reads args)
  unreached_are [] = refl
  unreached_are (v ∷ vs) = if_or (is_unreached_at (slice_get es v)) (some_unreached es vs) ∙ (λ j. unreached_is (slice_get es v) j || unreached_are vs j)

-- ---- methods that modify

at_word : (name word : List ℕ) (P : List ℕ → Type 0) → P word → (bytes_eq name word ≡ false → P name) → P name
at_word name word P here other = by (bytes_eq name word) refl
  where
    by : (c : Bool) → bytes_eq name word ≡ c → P name
    by true e = subst P (sym ((bytes_eq-Decides name word).0 e)) here
    by false e = other e

no_list_method : (a b c d by_list : Bool) → modifying (if a then m.Get else if b then m.Keys else if c then m.Values else if d then m.Items else m.Other) by_list ≡ false
no_list_method true b c d by_list = refl
no_list_method false true c d by_list = refl
no_list_method false false true d by_list = refl
no_list_method false false false true by_list = refl
no_list_method false false false false by_list = refl

-- the method by its name, by the tests of the name
abbrev by_tests : Bool → Bool → Bool → Bool → Bool → Bool → Bool → Bool → Bool → Bool → Bool → Bool → Bool → Bool → Method → Method
by_tests e1 e2 e3 e4 e5 e6 e7 e8 e9 a1 a2 a3 a4 a5 other =
    if e1 then m.Join
    else if e2 then m.Split
    else if e3 then m.Find
    else if e4 then m.StartsWith
    else if e5 then m.EndsWith
    else if e6 then m.Strip
    else if e7 then m.IsDigit
    else if e8 then m.IsAlpha
    else if e9 then m.IsSpace
    else if a1 then m.Append
    else if a2 then m.Pop
    else if a3 then m.Insert
    else if a4 then m.Extend
    else if a5 then m.Reverse
    else other

pub modifies_by_is : (name : List ℕ) (by_list : Bool) → modifies_by name by_list ≡ modifying (method_named name) by_list
modifies_by_is name by_list =
    at_word name (codes "join") P refl (λ e1.
    at_word name (codes "split") P refl (λ e2.
    at_word name (codes "find") P refl (λ e3.
    at_word name (codes "startswith") P refl (λ e4.
    at_word name (codes "endswith") P refl (λ e5.
    at_word name (codes "strip") P refl (λ e6.
    at_word name (codes "isdigit") P refl (λ e7.
    at_word name (codes "isalpha") P refl (λ e8.
    at_word name (codes "isspace") P refl (λ e9.
    at_word name (codes "append") P refl (λ a1.
    at_word name (codes "pop") P refl (λ a2.
    at_word name (codes "insert") P refl (λ a3.
    at_word name (codes "extend") P refl (λ a4.
    at_word name (codes "reverse") P refl (λ a5.
    last e1 e2 e3 e4 e5 e6 e7 e8 e9 a1 a2 a3 a4 a5))))))))))))))
  where
    P : List ℕ → Type 0
    P word = modifies_by word by_list ≡ modifying (method_named word) by_list

    last : bytes_eq name (codes "join") ≡ false → bytes_eq name (codes "split") ≡ false → bytes_eq name (codes "find") ≡ false → bytes_eq name (codes "startswith") ≡ false → bytes_eq name (codes "endswith") ≡ false → bytes_eq name (codes "strip") ≡ false → bytes_eq name (codes "isdigit") ≡ false → bytes_eq name (codes "isalpha") ≡ false → bytes_eq name (codes "isspace") ≡ false → bytes_eq name (codes "append") ≡ false → bytes_eq name (codes "pop") ≡ false → bytes_eq name (codes "insert") ≡ false → bytes_eq name (codes "extend") ≡ false → bytes_eq name (codes "reverse") ≡ false → P name
    last e1 e2 e3 e4 e5 e6 e7 e8 e9 a1 a2 a3 a4 a5 =
        (λ j. if a4 j then by_list else a1 j || a3 j || a5 j || a2 j)
        ∙ (sym (no_list_method (bytes_eq name (codes "get")) (bytes_eq name (codes "keys") || bytes_eq name (codes "iterkeys")) (bytes_eq name (codes "values") || bytes_eq name (codes "itervalues")) (bytes_eq name (codes "items") || bytes_eq name (codes "iteritems")) by_list)
        ∙ sym (λ j. modifying (by_tests (e1 j) (e2 j) (e3 j) (e4 j) (e5 j) (e6 j) (e7 j) (e8 j) (e9 j) (a1 j) (a2 j) (a3 j) (a4 j) (a5 j) (dict_method_named name)) by_list))

pub modifies_is : (es : List Element) (value : Bool) (o : RowOp) (args : List ℕ) → modifies_row es args value o ≡ modifies value o (reads es args)
modifies_is es value row.StoreIndex args = refl
modifies_is es value row.DeleteIndex args = refl
modifies_is es value row.AddTo args = λ j. first_is es is_list_at is_list refl list_is args j && second_is es is_list_at is_list refl list_is args j
modifies_is es value (row.Method name site) args =
    (λ j. first_is es is_list_at is_list refl list_is args j && modifies_by name (second_is es is_list_at is_list refl list_is args j))
    ∙ ap (λ b. some_first is_list (reads es args) && b) (modifies_by_is name (some_second is_list (reads es args)))
modifies_is es value _ args = refl

-- ---- what may be a constant

suc_same : (a b : ℕ) → (suc a == suc b) ≡ (a == b)
suc_same a b = by (a == b) refl
  where
    by : (c : Bool) → (a == b) ≡ c → (suc a == suc b) ≡ c
    by true e = eq-eqb (suc a) (suc b) (ap suc (eqb-true a b e))
    by false e = ne_eqb (suc a) (suc b) (λ h. let ne = eqb-false a b e in ne (omega (arith, h)))

set_long : (marks : List Bool) (n : ℕ) → n < length marks → length (slice_set marks n true) ≡ length marks
set_long [] n lt = absurd (omega (arith, lt))
set_long (x ∷ xs) zero lt = refl
set_long (x ∷ xs) (suc n) lt = ap suc (set_long xs n (omega (arith, lt)))

set_marked : (marks : List Bool) (n l : ℕ) → n < length marks → is_marked (slice_set marks n true) l ≡ ((n == l) || is_marked marks l)
set_marked [] n l lt = absurd (omega (arith, lt))
set_marked (x ∷ xs) zero zero lt = refl
set_marked (x ∷ xs) zero (suc l) lt = ap (λ b. b || is_marked xs l) (sym (ne_eqb zero (suc l) (λ h. omega (arith, h))))
set_marked (x ∷ xs) (suc n) zero lt = ap (λ b. b || x) (sym (ne_eqb (suc n) zero (λ h. omega (arith, h))))
set_marked (x ∷ xs) (suc n) (suc l) lt = set_marked xs n l (omega (arith, lt)) ∙ ap (λ b. b || is_marked xs l) (sym (suc_same n l))

none_marked : (n l : ℕ) → is_marked (replicate n false) l ≡ false
none_marked zero l = refl
none_marked (suc n) zero = refl
none_marked (suc n) (suc l) = none_marked n l

replicate_long : (n : ℕ) → length (replicate n false) ≡ n
replicate_long zero = refl
replicate_long (suc n) = ap suc (replicate_long n)

turned : (a b c : Bool) → (a || (b || c)) ≡ ((b || a) || c)
turned true true c = refl
turned true false c = refl
turned false true c = refl
turned false false c = refl

end_false : (a : Bool) → (a || false) ≡ a
end_false true = refl
end_false false = refl

module _ (p : Whole) (w : Assignment) (inside : (s : ℕ) → leader w.same s < length p.sites) where
  with_site : (s n : ℕ) (site : Site) (marks : List Bool) → length marks ≡ length p.sites
      → is_marked (with_prebuilt w.same n site marks) (leader w.same s) ≡ ((is_some site.prebuilt && (leader w.same n == leader w.same s)) || is_marked marks (leader w.same s))
  with_site s n site marks long = by (is_some site.prebuilt)
    where
      lt : leader w.same n < length marks
      lt = let i = inside n in omega (arith, i, long)

      by : (b : Bool) → is_marked (if b then with_mark (leader w.same n) marks else marks) (leader w.same s) ≡ ((b && (leader w.same n == leader w.same s)) || is_marked marks (leader w.same s))
      by false = refl
      by true = ap (λ c. is_marked (if c then slice_set marks (leader w.same n) true else marks) (leader w.same s)) (lt-ltb (leader w.same n) (length marks) lt) ∙ set_marked marks (leader w.same n) (leader w.same s) lt

  site_long : (n : ℕ) (site : Site) (marks : List Bool) → length marks ≡ length p.sites → length (with_prebuilt w.same n site marks) ≡ length p.sites
  site_long n site marks long = by (is_some site.prebuilt)
    where
      lt : leader w.same n < length marks
      lt = let i = inside n in omega (arith, i, long)

      by : (b : Bool) → length (if b then with_mark (leader w.same n) marks else marks) ≡ length p.sites
      by false = long
      by true = ap (λ c. length (if c then slice_set marks (leader w.same n) true else marks)) (lt-ltb (leader w.same n) (length marks) lt) ∙ (set_long marks (leader w.same n) lt ∙ long)

  all_sites : (s n : ℕ) (sites : List Site) (marks : List Bool) → length marks ≡ length p.sites
      → is_marked (code.prebuilt_from w.same n sites marks) (leader w.same s) ≡ (prebuilt_from p w s n sites || is_marked marks (leader w.same s))
  all_sites s n [] marks long = refl
  all_sites s n (site ∷ sites) marks long =
      let next : n + 1 ≡ suc n = omega arith in
      let with_it = with_prebuilt w.same n site marks in
      let rest = prebuilt_from p w s (suc n) sites in
      ap (λ i. is_marked (code.prebuilt_from w.same i sites with_it) (leader w.same s)) next
      ∙ (all_sites s (suc n) sites with_it (site_long n site marks long)
      ∙ (ap (λ b. rest || b) (with_site s n site marks long) ∙ turned rest (is_some site.prebuilt && (leader w.same n == leader w.same s)) (is_marked marks (leader w.same s))))

  prebuilt_is : (s : ℕ) → is_marked (prebuilt w.same p.sites) (leader w.same s) ≡ prebuilt_from p w s 0 p.sites
  prebuilt_is s =
      all_sites s 0 p.sites (replicate (length p.sites) false) (replicate_long (length p.sites))
      ∙ (ap (λ b. prebuilt_from p w s 0 p.sites || b) (none_marked (length p.sites) (leader w.same s)) ∙ end_false (prebuilt_from p w s 0 p.sites))

  pub constant_is : (o : Option Element) → may_be_prebuilt_at (prebuilt w.same p.sites) w.same o ≡ may_be_constant p w (seen o)
  constant_is None = refl
  constant_is (Some e) = by_kind (code.prebuilt_in (prebuilt w.same p.sites) w.same) (may_be_constant p w) of_kind e
    where
      of_kind : (x : Element-F Element) → code.prebuilt_in (prebuilt w.same p.sites) w.same x ≡ may_be_constant p w (shape_step (map-Element Element Shape shape x))
      of_kind (Element-F.List s n) = prebuilt_is s
      of_kind (Element-F.Dict s n) = prebuilt_is s
      of_kind _ = refl
