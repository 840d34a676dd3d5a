-- The items of an array that stand for values, before a place, there, and behind it.
use Rattle.std.proofs.Common.{◌≡◌, suc, List, [], ◌∷◌, ◌++◌, length, Option, refl, ap}
use Rattle.ann_element.specs.declared.element.Element.{Element}
use Rattle.csub_tree.specs.State.{Value}
use Rattle.rpy_tree.specs.Value.{Value as Meant}
use Rattle.rtyper_layout.specs.declared.layout.Layout.{Layout}
use Rattle.object_laws.specs.Ghost.{Ghost}
use Rattle.object_laws.specs.Known.{Known}
use Rattle.object_laws.specs.Values.{Holds, EachHolds, Empty, More}
use Rattle.list_laws.proofs.Copying.{AllSet}

pub record Parted (layout : Layout) (known : Known) (g : Ghost) (seen : Option Element) (xs : List Value) (before : List Meant) (behind : List Meant) : Type 0 where
  pub pre : List Value
  pub gap : Value
  pub post : List Value
  pub are : xs ≡ pre ++ gap ∷ post
  pub long : length pre ≡ length before
  pub post_long : length post ≡ length behind
  pub without : EachHolds layout known g seen (pre ++ post) (before ++ behind)
  pub with : (x : Value) (v : Meant) → Holds layout known g seen x v → EachHolds layout known g seen (pre ++ x ∷ post) (before ++ v ∷ behind)

each_long : {layout : Layout} {known : Known} {g : Ghost} {seen : Option Element} {xs : List Value} {vs : List Meant} → EachHolds layout known g seen xs vs → length xs ≡ length vs
each_long Empty = refl
each_long (More held each) = ap suc (each_long each)

pub parted : {layout : Layout} {known : Known} {g : Ghost} {seen : Option Element} {xs : List Value} (before : List Meant) (w : Meant) (behind : List Meant) → EachHolds layout known g seen xs (before ++ w ∷ behind) → Parted layout known g seen xs before behind
parted [] w behind (More {x = x} {xs = xs} held each) = record { pre = []; gap = x; post = xs; are = refl; long = refl; post_long = each_long each; without = each; with = λ y v other. More other each }
parted (u ∷ before) w behind (More {x = x} held each) = (let s = parted before w behind each in record {
  pre = x ∷ s.pre;
  gap = s.gap;
  post = s.post;
  are = ap (λ l. x ∷ l) s.are;
  long = ap suc s.long;
  post_long = s.post_long;
  without = More held s.without;
  with = λ y v other. More held (s.with y v other);
})

pub set_behind : (xs ys : List Value) → AllSet (xs ++ ys) → AllSet ys
set_behind [] ys h = h
set_behind (x ∷ xs) ys h = set_behind xs ys h.1
