-- What stands for a value still does when blocks and objects are made.
use Rattle.std.proofs.Common.{◌≡◌, ℕ, zero, suc, List, [], ◌∷◌, ◌++◌, Option, Some, None, refl, sym, ap, ◌∙◌}
use Rattle.std.proofs.lemmas.List.{append-nil}
use Rattle.std.specs.Prelude.{slice_get}
use Rattle.ann_element.specs.declared.element.Element.{Element}
use Rattle.csub_tree.specs.State.{Value, Ptr, Static}
use Rattle.ll_code.specs.declared.program.LlType.{LlType}
use Rattle.rpy_tree.specs.Value.{Value as Meant}
use Rattle.rtyper_layout.specs.declared.layout.Layout.{Layout}
use Rattle.object_laws.specs.Ghost.{Ghost, Grown, Home, Use, use_of}
use Rattle.object_laws.specs.Known.{Known}
use Rattle.object_laws.specs.Represents.{Shows}
use Rattle.object_laws.specs.Values.{Stands, word, flag, byte, text, missing, Holds, Plain, Alone, Items, Listed, Mapped, Made, Function, Missing, AllHold, End, Next, EachHolds, Empty, More}

pub get_more : {A : Type 0} (xs more : List A) (i : ℕ) (x : A) → slice_get xs i ≡ Some x → slice_get (xs ++ more) i ≡ Some x
get_more [] more i x h = absurd (cc)
get_more (y ∷ xs) more zero x h = h
get_more (y ∷ xs) more (suc i) x h = get_more xs more i x h

pub grown_none : {g : Ghost} → Grown g g
grown_none {g = g} = record { uses = []; objects = []; blocks = sym (append-nil g.blocks); statics = refl; homes = sym (append-nil g.homes) }

module _ {old new : Ghost} (grown : Grown old new) where
  pub use_grows : (x : Value) (u : Use) → use_of old x ≡ Some u → use_of new x ≡ Some u
  use_grows (Ptr b) u h = ap (λ us. slice_get us b) grown.blocks ∙ get_more old.blocks grown.uses b u h
  use_grows (Static s) u h = ap (λ us. slice_get us s) grown.statics ∙ h
  use_grows _ u h = absurd (cc)

  pub home_grows : (i : ℕ) (home : Home) → slice_get old.homes i ≡ Some home → slice_get new.homes i ≡ Some home
  home_grows i home h = ap (λ hs. slice_get hs i) grown.homes ∙ get_more old.homes grown.objects i home h

  stands_grows : {t : LlType} {x : Value} {v : Meant} → Stands old t x v → Stands new t x v
  stands_grows (word z f) = word z f
  stands_grows (flag b) = flag b
  stands_grows (byte b h) = byte b h
  stands_grows (text x bytes t) = text x bytes (record { is = use_grows x _ t.is; short = t.short; small = t.small })
  stands_grows missing = missing

  mutual
    pub holds_grows : {layout : Layout} {known : Known} {seen : Option Element} {x : Value} {v : Meant} → Holds layout known old seen x v → Holds layout known new seen x v
    holds_grows (Plain p s) = Plain p (stands_grows s)
    holds_grows (Alone k e f) = Alone k e f
    holds_grows {x = x} (Items parts n xs vs e f t is all) = Items parts n xs vs e f t (use_grows x _ is) (all_grow all)
    holds_grows (Listed n i k f t s home) = Listed n i k f t s (home_grows i _ home)
    holds_grows (Mapped n i m k f t s home) = Mapped n i m k f t s (home_grows i _ home)
    holds_grows (Made class or_none c i e f b home) = Made class or_none c i e f b (home_grows i _ home)
    holds_grows (Function fs or_none f n e h b k l) = Function fs or_none f n e h b k l
    holds_grows (Missing k e f) = Missing k e f

    all_grow : {layout : Layout} {known : Known} {parts : List Element} {xs : List Value} {vs : List Meant} → AllHold layout known old parts xs vs → AllHold layout known new parts xs vs
    all_grow End = End
    all_grow (Next held all) = Next (holds_grows held) (all_grow all)

  pub each_grows : {layout : Layout} {known : Known} {seen : Option Element} {xs : List Value} {vs : List Meant} → EachHolds layout known old seen xs vs → EachHolds layout known new seen xs vs
  each_grows Empty = Empty
  each_grows (More held each) = More (holds_grows held) (each_grows each)

  pub shows_grows : (layout : Layout) (known : Known) (e : Element) (o : Option Meant) (x y : Value) → Shows layout known old e o x y → Shows layout known new e o x y
  shows_grows layout known e (Some v) x y h = (h.0, holds_grows h.1)
  shows_grows layout known e None x y h = h
