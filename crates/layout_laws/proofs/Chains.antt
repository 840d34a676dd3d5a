-- A struct begins with those of the classes above its own, and its attributes stand behind theirs.
use Rattle.std.proofs.Common.{◌≡◌, ◌<◌, ◌≤◌, ℕ, ◌+◌, ◌-◌, Bool, true, false, List, [], ◌∷◌, Some, None, refl, sym, ap, ◌∙◌, arith}
use Rattle.std.specs.Prelude.{◌^◌, ◌*◌, cond, ◌==◌}
use Rattle.ann_element.specs.declared.element.Element.{Element}
use Rattle.csub_tree.specs.Layout.{Shape, shape_at, shape_over, is_among, begins_with, place}
use Rattle.rpy_tree.specs.declared.program.ClassInfo.{ClassInfo}
use Rattle.class_desc.specs.Line.{base}
use Rattle.class_desc.specs.Range.{IsForest}
use Rattle.class_desc.proofs.Sums.{same_is}
use Rattle.rtyper_layout.specs.declared.classes.Laid.{Laid}
use Rattle.rtyper_layout.specs.declared.layout.Layout.{Layout}
use Rattle.rtyper_layout.specs.Types.{laid_in}
use Rattle.object_laws.specs.Represents.{shapes, value_field, set_field}
use Rattle.layout_laws.proofs.Attributes.{declared}
use Rattle.layout_laws.proofs.Facts.{Facts, Sort, OnTop, OnBase}
use Rattle.layout_laws.proofs.Lines.{Under, Here, Up, Topped, topped}
use Rattle.layout_laws.proofs.Places.{same_some, no_some}

pub value_field_is : (n : ℕ) → n < 2 ^ 63 - 1 → value_field n ≡ 2 * n + 1
value_field_is n lt = omega (arith, lt)

pub set_field_is : (n : ℕ) → n < 2 ^ 63 - 1 → set_field n ≡ 2 * n + 2
set_field_is n lt = omega (arith, lt)

module _ (infos : List ClassInfo) (attributes : List (ℕ × List ℕ × Element)) (layout : Layout) (facts : Facts infos attributes layout) where
  abbrev shape : Laid → Shape
  shape l = shape_at (shapes layout) l.own

  -- ---- what a struct begins with

  pub among_first : (n : ℕ) (ms : List ℕ) → is_among n (n ∷ ms) ≡ true
  among_first n ms = ap (λ b. cond b true (is_among n ms)) (same_is n n refl)

  among_later : (b : Bool) (t : Bool) → t ≡ true → cond b true t ≡ true
  among_later true t e = refl
  among_later false t e = e

  pub begins_itself : (c : ℕ) (l : Laid) → laid_in layout.classes c ≡ Some l → begins_with (shapes layout) l.own l.own ≡ true
  begins_itself c l h = by (facts.sort c l h)
    where
      by : Sort infos attributes layout c l → begins_with (shapes layout) l.own l.own ≡ true
      by (OnTop e root is) = ap (λ (s : Shape). is_among l.own s.bases) is ∙ among_first l.own []
      by (OnBase b m e at root vtable is) = ap (λ (s : Shape). is_among l.own s.bases) is ∙ among_first l.own (shape m).bases

  pub record Chain (d : ℕ) (l : Laid) : Type 0 where
    pub m : Laid
    pub is : laid_in layout.classes d ≡ Some m
    pub root : l.root ≡ m.root
    pub vtable : l.vtable ≡ m.vtable
    pub begins : begins_with (shapes layout) l.own m.own ≡ true
    pub size : (shape m).size ≤ (shape l).size

  longer : (d c b : ℕ) (l m : Laid) → l.root ≡ m.root → l.vtable ≡ m.vtable → shape l ≡ shape_over l.own (2 * declared c attributes) (Some (shape m)) → Chain d m → Chain d l
  longer d c b l m root vtable is on = record {
    m = on.m;
    is = on.is;
    root = root ∙ on.root;
    vtable = vtable ∙ on.vtable;
    begins = ap (λ (s : Shape). is_among on.m.own s.bases) is ∙ among_later (l.own == on.m.own) (is_among on.m.own (shape m).bases) on.begins;
    size = (let z : (shape l).size ≡ (shape m).size + 2 * declared c attributes = ap (λ (s : Shape). s.size) is in omega (arith, z, on.size));
  }

  -- a class above one that has structs has some
  pub chain : (d c : ℕ) (l : Laid) → Under infos d c → laid_in layout.classes c ≡ Some l → Chain d l
  chain d _ l (Here c e) h = record {
    m = l;
    is = ap (laid_in layout.classes) (sym e) ∙ h;
    root = refl;
    vtable = refl;
    begins = begins_itself c l h;
    size = omega arith;
  }
  chain d _ l (Up c b p u) h = by (λ m k. chain d b m u k) (facts.sort c l h)
    where
      by : ((m : Laid) → laid_in layout.classes b ≡ Some m → Chain d m) → Sort infos attributes layout c l → Chain d l
      by go (OnTop e root is) = absurd (no_some (sym e ∙ p))
      by go (OnBase a m e at root vtable is) = longer d c b l m root vtable is (go m (ap (laid_in layout.classes) (same_some (sym p ∙ e)) ∙ at))

  module _ (tree : IsForest infos) where
    pub record Topmost (l : Laid) : Type 0 where
      pub class : ℕ
      pub m : Laid
      pub is : laid_in layout.classes class ≡ Some m
      pub on : Chain class l
      pub root : l.root ≡ m.own
      pub shape_is : shape m ≡ shape_over m.own (1 + 2 * declared class attributes) None
      pub begins : begins_with (shapes layout) l.own m.own ≡ true
      pub size : 0 < (shape l).size

    pub topmost_of : (c : ℕ) (l : Laid) → laid_in layout.classes c ≡ Some l → Topmost l
    topmost_of c l h = by (topped infos tree c (facts.within c l h))
      where
        by : Topped infos tree c → Topmost l
        by up = on (chain up.top c l up.under h)
          where
            on : Chain up.top l → Topmost l
            on k = at (facts.sort up.top k.m k.is)
              where
                at : Sort infos attributes layout up.top k.m → Topmost l
                at (OnTop e root is) = record {
                  class = up.top;
                  m = k.m;
                  is = k.is;
                  on = k;
                  root = k.root ∙ root;
                  shape_is = is;
                  begins = k.begins;
                  size = (let z : (shape k.m).size ≡ 1 + 2 * declared up.top attributes = ap (λ (s : Shape). s.size) is in omega (arith, z, k.size));
                }
                at (OnBase b m e laid root vtable is) = absurd (no_some (sym up.none ∙ e))

    -- ---- where the attributes of a class stand

    pub record Fields (c : ℕ) (l : Laid) : Type 0 where
      pub start : ℕ
      pub some : 0 < start
      pub end : (shape l).size ≡ start + 2 * declared c attributes
      pub value : (k : ℕ) → k < 2 ^ 63 - 1 → place (shape l) (value_field k) ≡ start + 2 * k
      pub set : (k : ℕ) → k < 2 ^ 63 - 1 → place (shape l) (set_field k) ≡ start + 2 * k + 1
      pub behind : (b : ℕ) (m : Laid) → base infos c ≡ Some b → laid_in layout.classes b ≡ Some m → (shape m).size ≡ start

    pub fields_of : (c : ℕ) (l : Laid) → laid_in layout.classes c ≡ Some l → Fields c l
    fields_of c l h = by (facts.sort c l h)
      where
        by : Sort infos attributes layout c l → Fields c l
        by (OnTop e root is) = record {
          start = 1;
          some = omega arith;
          end = ap (λ (s : Shape). s.size) is;
          value = λ k lt. ap (λ s. place s (value_field k)) is ∙ (let z = value_field_is k lt in omega (arith, z));
          set = λ k lt. ap (λ s. place s (set_field k)) is ∙ (let z = set_field_is k lt in omega (arith, z));
          behind = λ b m p at. absurd (no_some (sym e ∙ p));
        }
        by (OnBase b m e at root vtable is) =
            let some : 0 < (shape m).size = (topmost_of b m at).size in
            record {
              start = (shape m).size;
              some = some;
              end = ap (λ (s : Shape). s.size) is;
              value = λ k lt. ap (λ s. place s (value_field k)) is ∙ (let z = value_field_is k lt in omega (arith, z));
              set = λ k lt. ap (λ s. place s (set_field k)) is ∙ (let z = set_field_is k lt in omega (arith, z));
              behind = λ d n p to. ap (λ (x : Laid). (shape x).size) (same_some (sym to ∙ ap (laid_in layout.classes) (same_some (sym p ∙ e)) ∙ at));
            }
