-- Memory represents the builtin exceptions at the start.
use Rattle.std.proofs.Common.{◌≡◌, ◌<◌, ◌⊎◌, inl, inr, ℕ, zero, suc, ◌+◌, Bool, true, false, List, [], ◌∷◌, ◌++◌, length, Option, Some, None, refl, sym, ap, ◌∙◌, subst, arith, length-append}
use Rattle.std.specs.Prelude.{◌^◌, ◌-◌, ◌&&◌, nat_le, nat_lt, slice_get, replicate, option_map, if◌then◌else◌}
use Rattle.std.proofs.lemmas.Bool.{ltb-true, ltb-false, leb-true, leb-false}
use Rattle.std.proofs.lemmas.List.{length-replicate, length-map}
use Rattle.ann_element.specs.declared.annotation.Annotation.{Annotation}
use Rattle.ann_element.specs.declared.element.Element.{Element}
use Rattle.csub_tree.specs.State.{Value, Unset, Word, Byte, Flag, Fun, Null, Ptr, Static, Block}
use Rattle.csub_tree.specs.Layout.{constant, shape_at}
use Rattle.ll_code.specs.declared.program.LlProgram.{LlProgram}
use Rattle.ll_texts.specs.Texts.{found}
use Rattle.rpy_tree.specs.Value.{Heap, Instance}
use Rattle.rpy_meaning.specs.Meaning.{exceptions_from}
use Rattle.rpy_meaning.specs.Operations.{builtin_classes}
use Rattle.rpy_meaning.specs.Tree.{Program}
use Rattle.rpy_resolved.specs.declared.tree.Resolved.{Resolved}
use Rattle.rtyper_layout.specs.declared.classes.Laid.{Laid}
use Rattle.rtyper_layout.specs.declared.layout.Layout.{Layout}
use Rattle.rtyper_layout.specs.Layout.{layout_of}
use Rattle.rtyper_layout.specs.Types.{word, laid_in}
use Rattle.rtyper_class.specs.Seen.{World, laid}
use Rattle.rtyper_class.specs.Vtables.{vtable, vtables, exceptions, vtable_at}
use Rattle.object_laws.specs.Ghost.{Use, Stays, Whole, ListOf, InstanceOf, DictOf, Unseen, Home, Ghost, use_of}
use Rattle.object_laws.specs.Known.{Known, Standing, vtable_block}
use Rattle.object_laws.specs.Represents.{Represents, InstanceAt, shapes, is_settled}
use Rattle.layout_laws.specs.Beginning.{class_if, exception_of, use_for, uses_from, unseen, home_for, homes_from, first_ghost, AreBuiltin, AreStatics, MemoryBegins}
use Rattle.layout_laws.specs.Knowing.{known_of, vtable_in, vtable_known}
use Rattle.layout_laws.specs.Layouts.{IsWorldOf, IsNumbered}
use Rattle.layout_laws.specs.Statics.{statics_of, HasStatics}
use Rattle.layout_laws.proofs.Attributes.{declared}
use Rattle.layout_laws.proofs.Chains.{chain}
use Rattle.layout_laws.proofs.Classes.{of_world, spot, above}
use Rattle.layout_laws.proofs.Exceptions.{exceptions_stand, none_declared}
use Rattle.layout_laws.proofs.Facts.{Facts}
use Rattle.layout_laws.proofs.Lines.{Under, is_under, below_of}
use Rattle.layout_laws.proofs.Numbers.{own_numbers, unsettled}
use Rattle.layout_laws.proofs.Places.{same_some, no_some, not_true, get_left, get_right, get_within, get_replicate}
use Rattle.layout_laws.proofs.Structs.{word_same}
use Rattle.layout_laws.proofs.Vtables.{vtables_stand}

-- ---- which statics are builtin exceptions

module _ (world : World) where
  exception_in : (class : ℕ) (l : Laid) → class < builtin_classes → laid world class ≡ Some l → exception_of world (world.first_exception + class) ≡ Some class
  exception_in class l lt is = by (nat_le world.first_exception (world.first_exception + class)) (nat_lt (world.first_exception + class - world.first_exception) builtin_classes) refl refl
    where
      back : world.first_exception + class - world.first_exception ≡ class
      back = omega arith

      by : (b c : Bool) → nat_le world.first_exception (world.first_exception + class) ≡ b → nat_lt (world.first_exception + class - world.first_exception) builtin_classes ≡ c
          → (if b && c then class_if (world.first_exception + class - world.first_exception) (laid world (world.first_exception + class - world.first_exception)) else None) ≡ Some class
      by true true e f = ap (λ n. class_if n (laid world n)) back ∙ ap (class_if class) is
      by true false e f = absurd (omega (arith, lt, back, ltb-false (world.first_exception + class - world.first_exception) builtin_classes f))
      by false c e f = absurd (omega (arith, leb-false world.first_exception (world.first_exception + class) e))

  record Exceptional (s class : ℕ) : Type 0 where
    l : Laid
    is : laid world class ≡ Some l
    lt : class < builtin_classes
    at : s ≡ world.first_exception + class

  exception_is : (s class : ℕ) → exception_of world s ≡ Some class → Exceptional s class
  exception_is s class h = by (nat_le world.first_exception s) (nat_lt (s - world.first_exception) builtin_classes) refl refl (laid world (s - world.first_exception)) refl h
    where
      by : (b c : Bool) → nat_le world.first_exception s ≡ b → nat_lt (s - world.first_exception) builtin_classes ≡ c → (o : Option Laid) → laid world (s - world.first_exception) ≡ o
          → (if b && c then class_if (s - world.first_exception) o else None) ≡ Some class → Exceptional s class
      by true true e f None is h = absurd (no_some h)
      by true true e f (Some l) is h =
          let same : s - world.first_exception ≡ class = same_some h in
          record {
            l = l;
            is = ap (laid world) (sym same) ∙ is;
            lt = (let z = ltb-true (s - world.first_exception) builtin_classes f in omega (arith, z, same));
            at = (let z = leb-true world.first_exception s e in omega (arith, z, same));
          }
      by true false e f o is h = absurd (no_some h)
      by false c e f o is h = absurd (no_some h)

  before_none : (s : ℕ) → s < world.first_exception → exception_of world s ≡ None
  before_none s lt = by (nat_le world.first_exception s) refl
    where
      by : (b : Bool) → nat_le world.first_exception s ≡ b → (if b && nat_lt (s - world.first_exception) builtin_classes then class_if (s - world.first_exception) (laid world (s - world.first_exception)) else None) ≡ None
      by true e = absurd (omega (arith, lt, leb-true world.first_exception s e))
      by false e = refl

  -- ---- uses and homes

  length_uses : (n : ℕ) (blocks : List Block) → length (uses_from world n blocks) ≡ length blocks
  length_uses n [] = refl
  length_uses n (b ∷ blocks) = ap suc (length_uses (n + 1) blocks)

  get_uses : (n i : ℕ) (blocks : List Block) → slice_get (uses_from world n blocks) i ≡ option_map (use_for (exception_of world (n + i))) (slice_get blocks i)
  get_uses n i [] = refl
  get_uses n zero (b ∷ blocks) = ap (λ k. Some (use_for (exception_of world k) b)) (let z : n ≡ n + 0 = omega arith in z)
  get_uses n (suc i) (b ∷ blocks) = get_uses (n + 1) i blocks ∙ ap (λ k. option_map (use_for (exception_of world k)) (slice_get blocks i)) (let z : n + 1 + i ≡ n + suc i = omega arith in z)

  length_homes : (class n : ℕ) → length (homes_from world class n) ≡ n
  length_homes class zero = refl
  length_homes class (suc n) = ap suc (length_homes (suc class) n)

  get_homes : (class n i : ℕ) → i < n → slice_get (homes_from world class n) i ≡ Some (home_for world (class + i) (laid world (class + i)))
  get_homes class zero i lt = absurd (omega (arith, lt))
  get_homes class (suc n) zero lt = ap (λ k. Some (home_for world k (laid world k))) (let z : class ≡ class + 0 = omega arith in z)
  get_homes class (suc n) (suc i) lt = get_homes (suc class) n i (omega (arith, lt)) ∙ ap (λ k. Some (home_for world k (laid world k))) (let z : suc class + i ≡ class + suc i = omega arith in z)

length_exceptions : (class n : ℕ) → length (exceptions_from class n) ≡ n
length_exceptions class zero = refl
length_exceptions class (suc n) = ap suc (length_exceptions (suc class) n)

get_exceptions : (class n i : ℕ) → i < n → slice_get (exceptions_from class n) i ≡ Some (Instance (class + i) [])
get_exceptions class zero i lt = absurd (omega (arith, lt))
get_exceptions class (suc n) zero lt = ap (λ k. Some (Instance k [])) (let z : class ≡ class + 0 = omega arith in z)
get_exceptions class (suc n) (suc i) lt = get_exceptions (suc class) n i (omega (arith, lt)) ∙ ap (λ k. Some (Instance k [])) (let z : suc class + i ≡ class + suc i = omega arith in z)

same_stays : {a b : Block} → Stays a ≡ Stays b → a ≡ b
same_stays h = cc

not_whole : {n : ℕ} {b : Block} → Whole n ≡ Stays b → ⊥
not_whole h = cc

-- ---- the whole

module _ (program : Resolved) (annotation : Annotation) (raises : Bool) (world : World) (reached : List Bool) (p : LlProgram) (meant : Program) (items keys : ℕ → Option Element) (static : ℕ → Option Block) (others : Heap) (left : ℕ)
    (made : IsWorldOf program annotation raises world) (counted : IsNumbered world) (small : length world.around.layout.structs < 2 ^ 64) (has : HasStatics world program reached p) (are : AreBuiltin world) (statics_are : AreStatics world p static) (few : left < 2 ^ 62) where
  abbrev layout : Layout
  layout = world.around.layout

  abbrev known : Known
  known = known_of world program reached meant items keys static (λ s. None)

  abbrev ghost : Ghost
  ghost = first_ghost world p (length others)

  abbrev heap : Heap
  heap = exceptions_from 0 builtin_classes ++ others

  of : Facts world.classes.classes world.attributes layout
  of = of_world program annotation raises world made counted

  first_is : world.first_exception ≡ world.first_vtable + length layout.order
  first_is =
      let all : length p.statics ≡ length has.before + length (vtables world program reached ++ (exceptions world ++ has.rest)) = ap length has.statics ∙ length-append has.before (vtables world program reached ++ (exceptions world ++ has.rest)) in
      let some : length (vtables world program reached ++ (exceptions world ++ has.rest)) ≡ length (vtables world program reached) + length (exceptions world ++ has.rest) = length-append (vtables world program reached) (exceptions world ++ has.rest) in
      let many : length (vtables world program reached) ≡ length layout.order = length-map layout.order (vtable world program reached) in
      has.next ∙ word_same (world.first_vtable + length layout.order) (omega (arith, all, some, many, has.first, has.few))

  -- a static has its use, and only that
  use_at : (s : ℕ) (block : Block) → slice_get (statics_of p) s ≡ Some block → slice_get ghost.statics s ≡ Some (use_for (exception_of world s) block)
  use_at s block h = get_uses world 0 s (statics_of p) ∙ ap (λ k. option_map (use_for (exception_of world k)) (slice_get (statics_of p) s)) (let z : 0 + s ≡ s = omega arith in z) ∙ ap (option_map (use_for (exception_of world s))) h

  stays_at : (s : ℕ) (block : Block) → slice_get (statics_of p) s ≡ Some block → exception_of world s ≡ None → slice_get ghost.statics s ≡ Some (Stays block)
  stays_at s block h none = use_at s block h ∙ ap (λ o. Some (use_for o block)) none

  use_from : (s : ℕ) (u : Use) → slice_get ghost.statics s ≡ Some u → (block : Block) × (slice_get (statics_of p) s ≡ Some block) × (u ≡ use_for (exception_of world s) block)
  use_from s u h = by (slice_get (statics_of p) s) refl (sym (ap (λ k. option_map (use_for (exception_of world k)) (slice_get (statics_of p) s)) (let z : 0 + s ≡ s = omega arith in z)) ∙ sym (get_uses world 0 s (statics_of p)) ∙ h)
    where
      by : (o : Option Block) → slice_get (statics_of p) s ≡ o → option_map (use_for (exception_of world s)) o ≡ Some u → (block : Block) × (slice_get (statics_of p) s ≡ Some block) × (u ≡ use_for (exception_of world s) block)
      by None e k = absurd (no_some k)
      by (Some block) e k = (block, e, sym (same_some k))

  stays_so : (s : ℕ) (block : Block) → slice_get ghost.statics s ≡ Some (Stays block) → slice_get (statics_of p) s ≡ Some block
  stays_so s block h = (let it = use_from s (Stays block) h in by it.0 it.1 (exception_of world s) it.2)
    where
      by : (b : Block) → slice_get (statics_of p) s ≡ Some b → (o : Option ℕ) → Stays block ≡ use_for o b → slice_get (statics_of p) s ≡ Some block
      by b e None k = e ∙ ap Some (sym (same_stays k))
      by b e (Some class) k = absurd (not_whole (sym k))

  stays : (x : Value) (block : Block) → use_of ghost x ≡ Some (Stays block) → found [] (statics_of p) x ≡ Some block
  stays (Static s) block h = stays_so s block h
  stays (Ptr n) block h = absurd (no_some h)
  stays Unset block h = absurd (no_some h)
  stays (Word z) block h = absurd (no_some h)
  stays (Byte b) block h = absurd (no_some h)
  stays (Flag b) block h = absurd (no_some h)
  stays (Fun f) block h = absurd (no_some h)
  stays Null block h = absurd (no_some h)

  -- ---- builtin exceptions

  own_above : (class : ℕ) (l : Laid) → laid world class ≡ Some l → is_settled layout l.own ≡ false
  own_above class l h =
      subst (λ (x : Layout). is_settled x l.own ≡ false) (sym made.layout)
      (let own = own_numbers program world.classes.classes annotation raises (subst (λ (x : Layout). length x.structs < 2 ^ 64) made.layout small) class l (ap (λ (x : Layout). laid_in x.classes class) (sym made.layout) ∙ h) in
      unsettled (layout_of program world.classes.classes annotation raises) l.own own.0 own.1)

  -- an instance of a builtin exception class
  record Stood (class : ℕ) (l : Laid) : Type 0 where
    size : (shape_at (shapes layout) l.own).size ≡ 1
    number : word (world.first_exception + class) ≡ world.first_exception + class
    block : slice_get (statics_of p) (world.first_exception + class) ≡ Some (record { kind = l.own; fields = constant (vtable_at world l) ∷ []; items = [] })

  stood : (class : ℕ) (l : Laid) → class < builtin_classes → laid world class ≡ Some l → Stood class l
  stood class l lt h =
      let top = chain world.classes.classes world.attributes layout of 0 class l (is_under world.classes.classes class 0 (are.below class lt)) h in
      let is_so = exceptions_stand program annotation raises world reached p made counted has class l top.m lt h top.is (are.bare class lt) in
      let within : word (world.first_exception + class) < length (statics_of p) = get_within (statics_of p) (word (world.first_exception + class)) _ is_so.1 in
      let count : length (statics_of p) ≡ length p.statics = length-map p.statics _ in
      let number : word (world.first_exception + class) ≡ world.first_exception + class = omega (arith, within, count, has.few) in
      record { size = is_so.0; number = number; block = ap (slice_get (statics_of p)) (sym number) ∙ is_so.1 }

  settled : (x : Value) (block : Block) → found [] (statics_of p) x ≡ Some block → is_settled layout block.kind ≡ true → use_of ghost x ≡ Some (Stays block)
  settled (Static s) block h e = by (exception_of world s) refl
    where
      by : (o : Option ℕ) → exception_of world s ≡ o → slice_get ghost.statics s ≡ Some (Stays block)
      by None none = stays_at s block h none
      by (Some class) some =
          let it = exception_is world s class some in
          let here = stood class it.l it.lt it.is in
          let same : record { kind = it.l.own; fields = constant (vtable_at world it.l) ∷ []; items = [] } ≡ block = same_some (sym here.block ∙ ap (slice_get (statics_of p)) (sym it.at) ∙ h) in
          absurd (not_true (sym (own_above class it.l it.is) ∙ ap (λ (b : Block). is_settled layout b.kind) same ∙ e))
  settled (Ptr n) block h e = absurd (no_some h)
  settled Unset block h e = absurd (no_some h)
  settled (Word z) block h e = absurd (no_some h)
  settled (Byte b) block h e = absurd (no_some h)
  settled (Flag b) block h e = absurd (no_some h)
  settled (Fun f) block h e = absurd (no_some h)
  settled Null block h e = absurd (no_some h)

  -- ---- vtables

  vtable_stays : (class : ℕ) (l : Laid) → laid world class ≡ Some l → use_of ghost (vtable_known world program reached class).at ≡ Some (Stays (vtable_block l.vtable (vtable_known world program reached class)))
  vtable_stays class l h =
      let at : (vtable_known world program reached class).at ≡ Static (word (world.first_vtable + l.place)) = ap (vtable_in world) h in
      let block : slice_get (statics_of p) (word (world.first_vtable + l.place)) ≡ Some (vtable_block l.vtable (vtable_known world program reached class)) =
      ap (found [] (statics_of p)) (sym at) ∙ vtables_stand program annotation raises world reached p made counted has class l h in
      let within : l.place < length layout.order = get_within layout.order l.place class (of.order class l h) in
      let low : word (world.first_vtable + l.place) < world.first_exception = omega (arith, within, first_is) in
      ap (use_of ghost) at ∙ stays_at (word (world.first_vtable + l.place)) _ block (before_none world (word (world.first_vtable + l.place)) low)

  -- ---- homes

  home_at : (class : ℕ) → class < builtin_classes → slice_get ghost.homes class ≡ Some (home_for world class (laid world class))
  home_at class lt =
      get_left (homes_from world 0 builtin_classes) (replicate (length others) unseen) class (home_for world class (laid world class))
      (get_homes world 0 builtin_classes class lt ∙ ap (λ k. Some (home_for world k (laid world k))) (let z : 0 + class ≡ class = omega arith in z))

  -- an object that is seen is a builtin exception
  record Seen (i : ℕ) (h : Home) : Type 0 where
    lt : i < builtin_classes
    l : Laid
    is : laid world i ≡ Some l
    home : home_for world i (Some l) ≡ h

  seen : (i : ℕ) (h : Home) → slice_get ghost.homes i ≡ Some h → (unseen ≡ h) ⊎ Seen i h
  seen i h e = by (nat_lt i builtin_classes) refl
    where
      one : i < builtin_classes → (o : Option Laid) → laid world i ≡ o → home_for world i o ≡ h → (unseen ≡ h) ⊎ Seen i h
      one lt None f k = inl k
      one lt (Some l) f k = inr (record { lt = lt; l = l; is = f; home = k })

      by : (b : Bool) → nat_lt i builtin_classes ≡ b → (unseen ≡ h) ⊎ Seen i h
      by true f = (let lt = ltb-true i builtin_classes f in one lt (laid world i) refl (same_some (sym (home_at i lt) ∙ e)))
      by false f =
          let low = ltb-false i builtin_classes f in
          let many = length_homes world 0 builtin_classes in
          inl (get_replicate (length others) (i - builtin_classes) unseen h (sym (get_right (homes_from world 0 builtin_classes) (replicate (length others) unseen) i (i - builtin_classes) (omega (arith, low, many))) ∙ e))

  no_list : (n i : ℕ) (head : Value) → slice_get ghost.homes i ≡ Some (record { sort = ListOf n; head = head }) → ⊥
  no_list n i head e = by (seen i _ e)
    where
      by : (unseen ≡ record { sort = ListOf n; head = head }) ⊎ Seen i (record { sort = ListOf n; head = head }) → ⊥
      by (inl h) = (let f : Unseen ≡ ListOf n = ap (λ (x : Home). x.sort) h in cc)
      by (inr s) = (let f : InstanceOf i ≡ ListOf n = ap (λ (x : Home). x.sort) s.home in cc)

  no_dict : (n i : ℕ) (head : Value) → slice_get ghost.homes i ≡ Some (record { sort = DictOf n; head = head }) → ⊥
  no_dict n i head e = by (seen i _ e)
    where
      by : (unseen ≡ record { sort = DictOf n; head = head }) ⊎ Seen i (record { sort = DictOf n; head = head }) → ⊥
      by (inl h) = (let f : Unseen ≡ DictOf n = ap (λ (x : Home). x.sort) h in cc)
      by (inr s) = (let f : InstanceOf i ≡ DictOf n = ap (λ (x : Home). x.sort) s.home in cc)

  -- no attribute is known of them
  no_attribute : (class : ℕ) (name : List ℕ) (s : Standing) (l : Laid) → class < builtin_classes → laid world class ≡ Some l → known.attribute class name ≡ Some s → ⊥
  no_attribute class name s l lt h k =
      let at = spot world known counted (λ c n. refl) of class name s k in
      let under : Under world.classes.classes at.it.home class = above world known counted (λ c n. refl) of class name s at in
      let none : declared at.it.home world.attributes ≡ 0 =
      none_declared at.it.home world.attributes (λ i n e q. not_true (sym (are.bare class lt i at.it.home n e q) ∙ below_of world.classes.classes counted.forest at.it.home class (of.within class l h) under)) in
      omega (arith, at.within, none)

  instance_at : (class i : ℕ) (head : Value) → slice_get ghost.homes i ≡ Some (record { sort = InstanceOf class; head = head }) → InstanceAt layout known ghost heap [] (statics_of p) class i head
  instance_at class i head e = by (seen i _ e)
    where
      by : (unseen ≡ record { sort = InstanceOf class; head = head }) ⊎ Seen i (record { sort = InstanceOf class; head = head }) → InstanceAt layout known ghost heap [] (statics_of p) class i head
      by (inl h) = absurd (let f : Unseen ≡ InstanceOf class = ap (λ (x : Home). x.sort) h in cc)
      by (inr s) =
          let sorts : InstanceOf i ≡ InstanceOf class = ap (λ (x : Home). x.sort) s.home in
          let same : i ≡ class = cc in
          let heads : Static (word (world.first_exception + i)) ≡ head = ap (λ (x : Home). x.head) s.home in
          let here = stood i s.l s.lt s.is in
          let at : head ≡ Static (world.first_exception + i) = sym heads ∙ ap Static here.number in
          let object : slice_get heap i ≡ Some (Instance i []) = get_left (exceptions_from 0 builtin_classes) others i (Instance i []) (get_exceptions 0 builtin_classes i s.lt ∙ ap (λ k. Some (Instance k [])) (let z : 0 + i ≡ i = omega arith in z)) in
          let block : Block = record { kind = s.l.own; fields = constant (vtable_at world s.l) ∷ []; items = [] } in
          let done : InstanceAt layout known ghost heap [] (statics_of p) i i head = record {
            attributes = [];
            object = object;
            laid = s.l;
            is_laid = s.is;
            fields = constant (vtable_at world s.l) ∷ [];
            head_use = ap (use_of ghost) at ∙ use_at (world.first_exception + i) block here.block ∙ ap (λ o. Some (use_for o block)) (exception_in world i s.l s.lt s.is);
            block_is = ap (found [] (statics_of p)) at ∙ here.block;
            size = sym here.size;
            vtable = sym (ap (vtable_in world) s.is);
            shows = λ name t k. absurd (no_attribute i name t s.l s.lt s.is k);
          } in
          subst (λ c. InstanceAt layout known ghost heap [] (statics_of p) c i head) same done

  begins : Represents layout known ghost heap left [] (statics_of p)
  begins = record {
    made = refl;
    fixed = length_uses world 0 (statics_of p);
    homes = length-append (homes_from world 0 builtin_classes) (replicate (length others) unseen)
        ∙ (let a = length_homes world 0 builtin_classes in let b = length-replicate (length others) unseen in let c = length_exceptions 0 builtin_classes in let d = length-append (exceptions_from 0 builtin_classes) others in omega (arith, a, b, c, d));
    few = few;
    stays = stays;
    settled = settled;
    constants = λ s block h. (let it = statics_are s block h in stays_at s block it.0 it.1);
    vtables = vtable_stays;
    exceptions = λ class l lt h. home_at class lt ∙ ap (λ o. Some (home_for world class o)) h;
    sites = λ site home h. absurd (no_some h);
    lists = λ n i head h e. absurd (no_list n i head h);
    instances = instance_at;
    dicts = λ n i head m h e. absurd (no_dict n i head h);
  }

pub memory_begins : MemoryBegins
memory_begins program annotation raises world reached p meant items keys static others left is counted small has are statics_are few =
    begins program annotation raises world reached p meant items keys static others left is counted small has are statics_are few
