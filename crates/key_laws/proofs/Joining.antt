-- The join of elements of keys is one, or a conflict.
use Rattle.std.proofs.Common.{◌≡◌, ℕ, Bool, true, false, List, refl, ap, ◌∙◌}
use Rattle.std.specs.Prelude.{◌&&◌, ◌||◌, not, nat_le, if◌then◌else◌}
use Rattle.rpy_tree.specs.declared.program.ClassInfo.{ClassInfo}
use Rattle.ann_lattice.specs.Join.{is_clash, no_clash, join, joins, stays, conflict, depths, equal_count}
use Rattle.ann_lattice.specs.Kind.{given}
use Rattle.ann_lattice.specs.Laws.{named, all_named}
use Rattle.ann_lattice.specs.Order.{is_key, are_keys}
use Rattle.ann_lattice.specs.Shape.{One, Any, OrNone, Shape, Nothing, NoneOnly, Truth, Num, Str, Tup, Lst, Dct, Inst, Fun, Clash, Shapes, end, more}

-- it can be a key, or is in conflict
abbrev pub is_keyish : Shape → Bool
is_keyish x = is_key x || is_clash x

no : {A : Type 0} → false ≡ true → A
no h = absurd (cc)

both_on : (b c : Bool) → (b && c) ≡ true → (b ≡ true) × (c ≡ true)
both_on true c h = (refl, h)
both_on false c h = no h

both_back : (b c : Bool) → b ≡ true → c ≡ true → (b && c) ≡ true
both_back true c h i = i
both_back false c h i = no h

left_on : (b c : Bool) → b ≡ true → (b || c) ≡ true
left_on true c h = refl
left_on false c h = no h

-- what is not in conflict can be a key
pub key_of : (b c : Bool) → (b || c) ≡ true → c ≡ false → b ≡ true
key_of true c h i = refl
key_of false true h i = absurd (cc)
key_of false false h i = h

pub given_keyish : (b : Bool) (x : Shape) → is_key x ≡ b → is_keyish (given b x) ≡ true
given_keyish true x h = left_on (is_key x) (is_clash x) h
given_keyish false x h = refl

off : (b : Bool) → not b ≡ true → b ≡ false
off false h = refl
off true h = absurd (cc)

module _ (k : List ClassInfo) where
  tuple_by : (xs ys : Shapes) (b : Bool) → stays xs ys (joins k xs ys) ≡ b → (no_clash (joins k xs ys) ≡ true → are_keys (joins k xs ys) ≡ true)
      → is_keyish (if b then Tup (joins k xs ys) else conflict (Tup xs) (Tup ys)) ≡ true
  tuple_by xs ys true h go =
      let one = both_on (equal_count xs ys) (no_clash (joins k xs ys) && nat_le (depths (joins k xs ys)) 7) h in
      left_on (are_keys (joins k xs ys)) false (go (both_on (no_clash (joins k xs ys)) (nat_le (depths (joins k xs ys)) 7) one.1).0)
  tuple_by xs ys false h go = refl

  mutual
    pub join_keyish : (x y : Shape) → is_keyish x ≡ true → is_keyish y ≡ true → is_keyish (join k x y) ≡ true
    join_keyish Nothing y h i = i
    join_keyish NoneOnly y h i = no h
    join_keyish (Lst s n) y h i = no h
    join_keyish (Dct s n) y h i = no h
    join_keyish (Inst c n) y h i = no h
    join_keyish (Fun fs n) y h i = no h
    join_keyish (Str OrNone) y h i = no h
    join_keyish (Truth a) Nothing h i = refl
    join_keyish (Truth a) (Truth b) h i = refl
    join_keyish (Truth a) y h i = refl
    join_keyish (Num a) Nothing h i = refl
    join_keyish (Num a) (Num b) h i = refl
    join_keyish (Num a) y h i = refl
    join_keyish (Str One) Nothing h i = refl
    join_keyish (Str One) NoneOnly h i = no i
    join_keyish (Str One) (Str One) h i = refl
    join_keyish (Str One) (Str Any) h i = refl
    join_keyish (Str One) (Str OrNone) h i = no i
    join_keyish (Str One) y h i = refl
    join_keyish (Str Any) Nothing h i = refl
    join_keyish (Str Any) NoneOnly h i = no i
    join_keyish (Str Any) (Str One) h i = refl
    join_keyish (Str Any) (Str Any) h i = refl
    join_keyish (Str Any) (Str OrNone) h i = no i
    join_keyish (Str Any) y h i = refl
    join_keyish (Tup xs) Nothing h i = h
    join_keyish (Tup xs) (Tup ys) h i = tuple_by xs ys (stays xs ys (joins k xs ys)) refl (joins_keys xs ys (key_of (are_keys xs) false h refl) (key_of (are_keys ys) false i refl))
    join_keyish (Tup xs) y h i = refl
    join_keyish (Clash o p) Nothing h i = refl
    join_keyish (Clash o p) y h i = refl

    joins_keys : (xs ys : Shapes) → are_keys xs ≡ true → are_keys ys ≡ true → no_clash (joins k xs ys) ≡ true → are_keys (joins k xs ys) ≡ true
    joins_keys end ys h i c = refl
    joins_keys (more x xs) end h i c = refl
    joins_keys (more x xs) (more y ys) h i c =
        let hs = both_on (is_key x) (are_keys xs) h in
        let gs = both_on (is_key y) (are_keys ys) i in
        let cs = both_on (not (is_clash (join k x y))) (no_clash (joins k xs ys)) c in
        both_back (is_key (join k x y)) (are_keys (joins k xs ys))
        (key_of (is_key (join k x y)) (is_clash (join k x y)) (join_keyish x y (left_on (is_key x) (is_clash x) hs.0) (left_on (is_key y) (is_clash y) gs.0)) (off (is_clash (join k x y)) cs.0))
        (joins_keys xs ys hs.1 gs.1 cs.1)

-- names of sites change nothing of it
mutual
  pub named_key : (t : List ℕ) (x : Shape) → is_key (named t x) ≡ is_key x
  named_key t (Tup xs) = named_keys t xs
  named_key t (Lst s n) = refl
  named_key t (Dct s n) = refl
  named_key t (Clash o p) = refl
  named_key t Nothing = refl
  named_key t NoneOnly = refl
  named_key t (Truth b) = refl
  named_key t (Num b) = refl
  named_key t (Str w) = refl
  named_key t (Inst c n) = refl
  named_key t (Fun fs n) = refl

  named_keys : (t : List ℕ) (xs : Shapes) → are_keys (all_named t xs) ≡ are_keys xs
  named_keys t end = refl
  named_keys t (more x xs) = ap (λ b. b && are_keys (all_named t xs)) (named_key t x) ∙ ap (λ b. is_key x && b) (named_keys t xs)
