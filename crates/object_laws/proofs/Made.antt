-- A list is made, in two blocks, or an instance or a dict without entries, in one, and all else is what it was.
use Rattle.std.proofs.Common.{◌≡◌, ◌<◌, ◌≤◌, ◌⊎◌, inl, inr, ℕ, zero, suc, ◌+◌, ◌^◌, true, false, List, [], ◌∷◌, ◌++◌, length, Option, Some, None, refl, sym, ap, ◌∙◌, subst, arith, append_assoc, length-append}
use Rattle.std.specs.Prelude.{slice_get, slice_index_or}
use Rattle.std.proofs.lemmas.List.{append-nil}
use Rattle.csub_tree.specs.State.{Value, Ptr, Static, Null, Block}
use Rattle.csub_tree.specs.Layout.{shape_at}
use Rattle.csub_tree.specs.Statement.{read}
use Rattle.ll_texts.specs.Texts.{found}
use Rattle.rpy_tree.specs.Value.{Value as Meant, Object, Listed, Mapped, Instance, Heap}
use Rattle.rpy_meaning.specs.Classes.{named}
use Rattle.rtyper_layout.specs.declared.classes.Laid.{Laid}
use Rattle.rtyper_layout.specs.declared.layout.Layout.{Layout}
use Rattle.rtyper_layout.specs.Types.{word, laid_in}
use Rattle.rtyper_layout.specs.declared.dicts.Mapping.{Mapping}
use Rattle.rtyper_layout.specs.Layout.{is_list, mapping_at}
use Rattle.object_laws.specs.Dicts.{DictAt, dict_block}
use Rattle.object_laws.specs.Known.{Known, Standing}
use Rattle.object_laws.specs.Ghost.{Ghost, Grown, Home, Sort, ListOf, InstanceOf, DictOf, Use, Stays, Head, Array, Whole, Table, use_of}
use Rattle.object_laws.specs.Represents.{Represents, ListAt, InstanceAt, Shows, HasRoom, Settled, is_settled, head_block, array_block, shapes, value_at, set_at}
use Rattle.object_laws.specs.Values.{EachHolds}
use Rattle.object_laws.proofs.Changing.{list_kept, instance_kept, dict_kept}
use Rattle.object_laws.proofs.Growing.{get_more, use_grows, home_grows, each_grows, shows_grows}

-- ---- lists with more behind

module _ {A : Type 0} where
  pub get_first : (xs ys : List A) (a : A) (n : ℕ) → n ≡ length xs → slice_get (xs ++ a ∷ ys) n ≡ Some a
  get_first [] ys a zero h = refl
  get_first [] ys a (suc n) h = absurd (omega (arith, h))
  get_first (x ∷ xs) ys a zero h = absurd (omega (arith, h))
  get_first (x ∷ xs) ys a (suc n) h = get_first xs ys a n (omega (arith, h))

  pub get_second : (xs : List A) (a b : A) (n : ℕ) → n ≡ length xs + 1 → slice_get (xs ++ a ∷ b ∷ []) n ≡ Some b
  get_second [] a b zero h = absurd (omega (arith, h))
  get_second [] a b (suc zero) h = refl
  get_second [] a b (suc (suc n)) h = absurd (omega (arith, h))
  get_second (x ∷ xs) a b zero h = absurd (omega (arith, h))
  get_second (x ∷ xs) a b (suc n) h = get_second xs a b n (omega (arith, h))

  -- what stands there stood there, or is the last
  pub last_one : (xs : List A) (a : A) (n : ℕ) (u : A) → slice_get (xs ++ a ∷ []) n ≡ Some u → (slice_get xs n ≡ Some u) ⊎ ((n ≡ length xs) × (u ≡ a))
  last_one [] a zero u h = inr (refl, (let q : a ≡ u = cc in sym q))
  last_one [] a (suc n) u h = absurd (cc)
  last_one (x ∷ xs) a zero u h = inl h
  last_one (x ∷ xs) a (suc n) u h = next (last_one xs a n u h)
    where
      next : (slice_get xs n ≡ Some u) ⊎ ((n ≡ length xs) × (u ≡ a)) → (slice_get xs n ≡ Some u) ⊎ ((suc n ≡ suc (length xs)) × (u ≡ a))
      next (inl k) = inl k
      next (inr k) = inr (ap suc k.0, k.1)

  last_two : (xs : List A) (a b : A) (n : ℕ) (u : A) → slice_get (xs ++ a ∷ b ∷ []) n ≡ Some u → (slice_get xs n ≡ Some u) ⊎ ((u ≡ a) ⊎ (u ≡ b))
  last_two [] a b zero u h = inr (inl (let q : a ≡ u = cc in sym q))
  last_two [] a b (suc zero) u h = inr (inr (let q : b ≡ u = cc in sym q))
  last_two [] a b (suc (suc n)) u h = absurd (cc)
  last_two (x ∷ xs) a b zero u h = inl h
  last_two (x ∷ xs) a b (suc n) u h = last_two xs a b n u h

index_first : (bs more : List (Option Block)) (b : Option Block) (n : ℕ) → n ≡ length bs → slice_index_or (bs ++ b ∷ more) n None ≡ b
index_first [] more b zero h = refl
index_first [] more b (suc n) h = absurd (omega (arith, h))
index_first (x ∷ bs) more b zero h = absurd (omega (arith, h))
index_first (x ∷ bs) more b (suc n) h = index_first bs more b n (omega (arith, h))

index_second : (bs : List (Option Block)) (a b : Option Block) (n : ℕ) → n ≡ length bs + 1 → slice_index_or (bs ++ a ∷ b ∷ []) n None ≡ b
index_second [] a b zero h = absurd (omega (arith, h))
index_second [] a b (suc zero) h = refl
index_second [] a b (suc (suc n)) h = absurd (omega (arith, h))
index_second (x ∷ bs) a b zero h = absurd (omega (arith, h))
index_second (x ∷ bs) a b (suc n) h = index_second bs a b n (omega (arith, h))

index_more : (bs more : List (Option Block)) (n : ℕ) (b : Block) → slice_index_or bs n None ≡ Some b → slice_index_or (bs ++ more) n None ≡ Some b
index_more [] more n b h = absurd (cc)
index_more (x ∷ bs) more zero b h = h
index_more (x ∷ bs) more (suc n) b h = index_more bs more n b h

-- a block that is found was there, or is the last
index_last : (bs : List (Option Block)) (a : Option Block) (n : ℕ) (b : Block) → slice_index_or (bs ++ a ∷ []) n None ≡ Some b → (slice_index_or bs n None ≡ Some b) ⊎ ((n ≡ length bs) × (Some b ≡ a))
index_last [] a zero b h = inr (refl, sym h)
index_last [] a (suc n) b h = absurd (cc)
index_last (x ∷ bs) a zero b h = inl h
index_last (x ∷ bs) a (suc n) b h = next (index_last bs a n b h)
  where
    next : (slice_index_or bs n None ≡ Some b) ⊎ ((n ≡ length bs) × (Some b ≡ a)) → (slice_index_or bs n None ≡ Some b) ⊎ ((suc n ≡ suc (length bs)) × (Some b ≡ a))
    next (inl k) = inl k
    next (inr k) = inr (ap suc k.0, k.1)

pub found_more : (blocks more : List (Option Block)) (statics : List Block) (x : Value) (b : Block) → found blocks statics x ≡ Some b → found (blocks ++ more) statics x ≡ Some b
found_more blocks more statics (Ptr n) b h = index_more blocks more n b h
found_more blocks more statics (Static g) b h = h
found_more blocks more statics _ b h = absurd (cc)

-- ---- what stays

-- one block more, which stays where it is a string or a tuple
pub settled_more : (layout : Layout) (us : List Use) (statics_used : List Use) (homes homes2 : List Home) (blocks : List (Option Block)) (statics : List Block) (u : Use) (block : Block) → length us ≡ length blocks
    → Settled layout (record { blocks = us; statics = statics_used; homes = homes }) blocks statics → (is_settled layout block.kind ≡ true → u ≡ Stays block)
    → Settled layout (record { blocks = us ++ u ∷ []; statics = statics_used; homes = homes2 }) (blocks ++ Some block ∷ []) statics
settled_more layout us statics_used homes homes2 blocks statics u block same settled new (Ptr n) b is h = by (index_last blocks (Some block) n b is)
  where
    by : (slice_index_or blocks n None ≡ Some b) ⊎ ((n ≡ length blocks) × (Some b ≡ Some block)) → slice_get (us ++ u ∷ []) n ≡ Some (Stays b)
    by (inl k) = get_more us (u ∷ []) n (Stays b) (settled (Ptr n) b k h)
    by (inr (at, e)) =
        let q : b ≡ block = cc in
        get_first us [] u n (at ∙ sym same) ∙ ap Some (new (ap (λ (b : Block). is_settled layout b.kind) (sym q) ∙ h) ∙ ap Stays (sym q))
settled_more layout us statics_used homes homes2 blocks statics u block same settled new (Static s) b is h = settled (Static s) b is h
settled_more layout us statics_used homes homes2 blocks statics u block same settled new _ b is h = absurd (cc)

pub never_settled : (layout : Layout) (u : Use) (block : Block) → is_settled layout block.kind ≡ false → is_settled layout block.kind ≡ true → u ≡ Stays block
never_settled layout u block h k = absurd (let q : false ≡ true = sym h ∙ k in cc)

-- ---- one object more

abbrev pub with_object : Ghost → List Use → Home → Ghost
with_object g uses home = record { blocks = g.blocks ++ uses; statics = g.statics; homes = g.homes ++ home ∷ [] }

pub object_grown : (g : Ghost) (uses : List Use) (home : Home) → Grown g (with_object g uses home)
object_grown g uses home = record { uses = uses; objects = home ∷ []; blocks = refl; statics = refl; homes = refl }

-- ---- an object is made

-- A new object; what was there is found as before, and stays.
pub object_made : {layout : Layout} {known : Known} {g : Ghost} {heap : Heap} {left fewer : ℕ} {blocks : List (Option Block)} {statics : List Block} (object : Object) (uses : List Use) (home : Home) (more : List (Option Block))
    → Represents layout known g heap left blocks statics → fewer ≤ left → length uses ≡ length more
    → ((x : Value) (block : Block) → use_of (with_object g uses home) x ≡ Some (Stays block) → use_of g x ≡ Some (Stays block))
    → Settled layout (with_object g uses home) (blocks ++ more) statics
    → ((n : ℕ) (head : Value) → home ≡ record { sort = ListOf n; head = head } → is_list layout n ≡ true → ListAt layout known (with_object g uses home) (heap ++ object ∷ []) fewer (blocks ++ more) statics n (length heap) head)
    → ((class : ℕ) (head : Value) → home ≡ record { sort = InstanceOf class; head = head } → InstanceAt layout known (with_object g uses home) (heap ++ object ∷ []) (blocks ++ more) statics class (length heap) head)
    → ((n : ℕ) (head : Value) (m : Mapping) → home ≡ record { sort = DictOf n; head = head } → mapping_at layout.mappings n ≡ Some m → DictAt layout known (with_object g uses home) (heap ++ object ∷ []) (blocks ++ more) statics m (length heap) head)
    → Represents layout known (with_object g uses home) (heap ++ object ∷ []) fewer (blocks ++ more) statics
object_made {layout = layout} {known = known} {g = g} {heap = heap} {left = left} {fewer = fewer} {blocks = blocks} {statics = statics} object uses home more r less same stays settled list_here instance_here dict_here = record {
  made = length-append g.blocks uses ∙ ap (λ k. k + length uses) r.made ∙ ap (λ k. length blocks + k) same ∙ sym (length-append blocks more);
  fixed = r.fixed;
  homes = length-append g.homes (home ∷ []) ∙ ap (λ k. k + 1) r.homes ∙ sym (length-append heap (object ∷ []));
  few = (let f = r.few in omega (arith, f, less));
  stays = λ x block h. found_more blocks more statics x block (r.stays x block (stays x block h));
  settled = settled;
  constants = λ s block h. use_grows grown (Static s) _ (r.constants s block h);
  vtables = λ class l h. use_grows grown (known.vtable class).at _ (r.vtables class l h);
  exceptions = λ class l h k. home_grows grown class _ (r.exceptions class l h k);
  sites = λ site home h. home_grows grown _ _ (r.sites site home h);
  lists = λ n j head h struct. list_at n j head struct (last_one g.homes home j _ h);
  instances = λ class j head h. instance_at class j head (last_one g.homes home j _ h);
  dicts = λ n j head m h is. dict_at n j head m is (last_one g.homes home j _ h);
}
  where
    grown : Grown g (with_object g uses home)
    grown = object_grown g uses home

    object_is : (j : ℕ) (o : Object) → slice_get heap j ≡ Some o → slice_get (heap ++ object ∷ []) j ≡ Some o
    object_is j o h = get_more heap (object ∷ []) j o h

    list_at : (n j : ℕ) (head : Value) → is_list layout n ≡ true → (slice_get g.homes j ≡ Some (record { sort = ListOf n; head = head })) ⊎ ((j ≡ length g.homes) × (record { sort = ListOf n; head = head } ≡ home)) → ListAt layout known (with_object g uses home) (heap ++ object ∷ []) fewer (blocks ++ more) statics n j head
    list_at n j head struct (inl k) = list_kept grown j head (object_is j) (λ x u b h of is. found_more blocks more statics x b is) n less (r.lists n j head k struct)
    list_at n j head struct (inr (at, e)) = subst (λ k. ListAt layout known (with_object g uses home) (heap ++ object ∷ []) fewer (blocks ++ more) statics n k head) (sym (at ∙ r.homes)) (list_here n head (sym e) struct)

    instance_at : (class j : ℕ) (head : Value) → (slice_get g.homes j ≡ Some (record { sort = InstanceOf class; head = head })) ⊎ ((j ≡ length g.homes) × (record { sort = InstanceOf class; head = head } ≡ home)) → InstanceAt layout known (with_object g uses home) (heap ++ object ∷ []) (blocks ++ more) statics class j head
    instance_at class j head (inl k) = instance_kept grown j head (object_is j) (λ x u b h of is. found_more blocks more statics x b is) class (r.instances class j head k)
    instance_at class j head (inr (at, e)) = subst (λ k. InstanceAt layout known (with_object g uses home) (heap ++ object ∷ []) (blocks ++ more) statics class k head) (sym (at ∙ r.homes)) (instance_here class head (sym e))

    dict_at : (n j : ℕ) (head : Value) (m : Mapping) → mapping_at layout.mappings n ≡ Some m → (slice_get g.homes j ≡ Some (record { sort = DictOf n; head = head })) ⊎ ((j ≡ length g.homes) × (record { sort = DictOf n; head = head } ≡ home)) → DictAt layout known (with_object g uses home) (heap ++ object ∷ []) (blocks ++ more) statics m j head
    dict_at n j head m is (inl k) = dict_kept grown j head (object_is j) (λ x u b h of is. found_more blocks more statics x b is) m (r.dicts n j head m k is)
    dict_at n j head m is (inr (at, e)) = subst (λ k. DictAt layout known (with_object g uses home) (heap ++ object ∷ []) (blocks ++ more) statics m k head) (sym (at ∙ r.homes)) (dict_here n head m (sym e) is)

-- ---- a list is made

abbrev list_in : Sort → ℕ
list_in (ListOf n) = n
list_in other = 0

no_instance : {n class : ℕ} {x y : Value} {home : Home} → home ≡ record { sort = ListOf n; head = x } → home ≡ record { sort = InstanceOf class; head = y } → ⊥
no_instance {n = n} {class = class} h k = (let q : ListOf n ≡ InstanceOf class = ap (λ (x : Home). x.sort) (sym h ∙ k) in absurd (cc))

no_dict : {n m : ℕ} {x y : Value} {home : Home} → home ≡ record { sort = ListOf n; head = x } → home ≡ record { sort = DictOf m; head = y } → ⊥
no_dict {n = n} {m = m} h k = (let q : ListOf n ≡ DictOf m = ap (λ (x : Home). x.sort) (sym h ∙ k) in absurd (cc))

no_dict_made : {class m : ℕ} {x y : Value} {home : Home} → home ≡ record { sort = InstanceOf class; head = x } → home ≡ record { sort = DictOf m; head = y } → ⊥
no_dict_made {class = class} {m = m} h k = (let q : InstanceOf class ≡ DictOf m = ap (λ (x : Home). x.sort) (sym h ∙ k) in absurd (cc))

-- an array and a head, for the next object
abbrev pub list_home : Ghost → ℕ → Home
list_home g n = record { sort = ListOf n; head = Ptr (length g.blocks + 1) }

abbrev pub with_list : Ghost → ℕ → ℕ → Ghost
with_list g n i = with_object g (Array i ∷ Head i ∷ []) (list_home g n)

pub list_grown : (g : Ghost) (n i : ℕ) → Grown g (with_list g n i)
list_grown g n i = object_grown g (Array i ∷ Head i ∷ []) (list_home g n)

module _ {layout : Layout} {known : Known} {g : Ghost} {heap : Heap} {left : ℕ} {blocks : List (Option Block)} {statics : List Block} (r : Represents layout known g heap left blocks statics) (n fewer : ℕ) (xs : List Value) (vs : List Meant)
    (less : fewer ≤ left) (struct : is_list layout n ≡ true) (each : EachHolds layout known g (known.items n) xs vs) (short : length xs < 2 ^ 63) (room : HasRoom (length vs) fewer) (apart : (is_settled layout n ≡ false) × (is_settled layout (word (n + 1)) ≡ false)) where
  abbrev i : ℕ
  i = length heap

  abbrev ghost : Ghost
  ghost = with_list g n i

  abbrev blocks2 : List (Option Block)
  blocks2 = blocks ++ Some (array_block n xs) ∷ Some (head_block n (length vs) (Ptr (length blocks))) ∷ []

  kept_stays : (x : Value) (block : Block) → use_of ghost x ≡ Some (Stays block) → use_of g x ≡ Some (Stays block)
  kept_stays (Ptr b) block h = by (last_two g.blocks (Array i) (Head i) b (Stays block) h)
    where
      by : (slice_get g.blocks b ≡ Some (Stays block)) ⊎ ((Stays block ≡ Array i) ⊎ (Stays block ≡ Head i)) → slice_get g.blocks b ≡ Some (Stays block)
      by (inl k) = k
      by (inr (inl k)) = absurd (cc)
      by (inr (inr k)) = absurd (cc)
  kept_stays (Static s) block h = h
  kept_stays _ block h = absurd (cc)

  new_list : ListAt layout known ghost (heap ++ Listed vs ∷ []) fewer blocks2 statics n i (Ptr (length g.blocks + 1))
  new_list = record {
    items = vs;
    object = get_first heap [] (Listed vs) i refl;
    array = Ptr (length blocks);
    values = xs;
    spare = [];
    head_use = get_second g.blocks (Array i) (Head i) (length g.blocks + 1) refl;
    array_use = get_first g.blocks (Head i ∷ []) (Array i) (length blocks) (sym r.made);
    head_is = index_second blocks (Some (array_block n xs)) (Some (head_block n (length vs) (Ptr (length blocks)))) (length g.blocks + 1) (ap (λ k. k + 1) r.made);
    array_is = index_first blocks (Some (head_block n (length vs) (Ptr (length blocks))) ∷ []) (Some (array_block n xs)) (length blocks) refl ∙ ap (λ l. Some (array_block n l)) (sym (append-nil xs));
    each = each_grows (list_grown g n i) each;
    empty = tt;
    long = subst (λ l. length l < 2 ^ 63) (sym (append-nil xs)) short;
    room = room;
  }

  settled : Settled layout ghost blocks2 statics
  settled = subst (λ bs. Settled layout ghost bs statics) (append_assoc blocks (Some (array_block n xs) ∷ []) (Some (head_block n (length vs) (Ptr (length blocks))) ∷ []))
      (subst (λ us. Settled layout (record { blocks = us; statics = g.statics; homes = ghost.homes }) ((blocks ++ Some (array_block n xs) ∷ []) ++ Some (head_block n (length vs) (Ptr (length blocks))) ∷ []) statics) (append_assoc g.blocks (Array i ∷ []) (Head i ∷ []))
      (settled_more layout (g.blocks ++ Array i ∷ []) g.statics g.homes ghost.homes (blocks ++ Some (array_block n xs) ∷ []) statics (Head i) (head_block n (length vs) (Ptr (length blocks)))
      (length-append g.blocks (Array i ∷ []) ∙ ap (λ k. k + 1) r.made ∙ sym (length-append blocks (Some (array_block n xs) ∷ [])))
      (settled_more layout g.blocks g.statics g.homes g.homes blocks statics (Array i) (array_block n xs) r.made r.settled (never_settled layout (Array i) (array_block n xs) apart.1)) (never_settled layout (Head i) (head_block n (length vs) (Ptr (length blocks))) apart.0)))

  pub list_made : Represents layout known ghost (heap ++ Listed vs ∷ []) fewer blocks2 statics
  list_made = object_made (Listed vs) (Array i ∷ Head i ∷ []) (list_home g n) (Some (array_block n xs) ∷ Some (head_block n (length vs) (Ptr (length blocks))) ∷ []) r less refl kept_stays settled here (λ class head h. absurd (no_instance refl h)) (λ k head m h is. absurd (no_dict refl h))
    where
      here : (m : ℕ) (head : Value) → list_home g n ≡ record { sort = ListOf m; head = head } → is_list layout m ≡ true → ListAt layout known ghost (heap ++ Listed vs ∷ []) fewer blocks2 statics m i head
      here m head e is =
          subst (λ y. ListAt layout known ghost (heap ++ Listed vs ∷ []) fewer blocks2 statics m i y) (ap (λ (x : Home). x.head) e)
          (subst (λ l. ListAt layout known ghost (heap ++ Listed vs ∷ []) fewer blocks2 statics l i (Ptr (length g.blocks + 1))) (ap (λ (x : Home). list_in x.sort) e) new_list)

-- ---- an instance is made

-- one block, for the next object
abbrev pub instance_home : Ghost → ℕ → Home
instance_home g class = record { sort = InstanceOf class; head = Ptr (length g.blocks) }

abbrev pub with_instance : Ghost → ℕ → ℕ → Ghost
with_instance g class i = with_object g (Whole i ∷ []) (instance_home g class)

pub instance_grown : (g : Ghost) (class i : ℕ) → Grown g (with_instance g class i)
instance_grown g class i = object_grown g (Whole i ∷ []) (instance_home g class)

abbrev class_of : Sort → ℕ
class_of (InstanceOf class) = class
class_of other = 0

module _ {layout : Layout} {known : Known} {g : Ghost} {heap : Heap} {left : ℕ} {blocks : List (Option Block)} {statics : List Block} (r : Represents layout known g heap left blocks statics) (class fewer : ℕ) (laid : Laid) (fields : List Value) (attributes : List (List ℕ × Meant))
    (apart : is_settled layout laid.own ≡ false) (less : fewer ≤ left) (is_laid : laid_in layout.classes class ≡ Some laid) (size : length fields ≡ (shape_at (shapes layout) laid.own).size) (vtable : read fields 0 ≡ (known.vtable class).at)
    (shows : (name : List ℕ) (s : Standing) → known.attribute class name ≡ Some s → Shows layout known g s.element (named name attributes) (read fields (value_at layout s)) (read fields (set_at layout s))) where
  abbrev at : ℕ
  at = length heap

  abbrev then : Ghost
  then = with_instance g class at

  abbrev block : Block
  block = record { kind = laid.own; fields = fields; items = [] }

  instance_stays : (x : Value) (b : Block) → use_of then x ≡ Some (Stays b) → use_of g x ≡ Some (Stays b)
  instance_stays (Ptr n) b h = by (last_one g.blocks (Whole at) n (Stays b) h)
    where
      by : (slice_get g.blocks n ≡ Some (Stays b)) ⊎ ((n ≡ length g.blocks) × (Stays b ≡ Whole at)) → slice_get g.blocks n ≡ Some (Stays b)
      by (inl k) = k
      by (inr (k, e)) = absurd (cc)
  instance_stays (Static s) b h = h
  instance_stays _ b h = absurd (cc)

  new_instance : InstanceAt layout known then (heap ++ Instance class attributes ∷ []) (blocks ++ Some block ∷ []) statics class at (Ptr (length g.blocks))
  new_instance = record {
    attributes = attributes;
    object = get_first heap [] (Instance class attributes) at refl;
    laid = laid;
    is_laid = is_laid;
    fields = fields;
    head_use = get_first g.blocks [] (Whole at) (length g.blocks) refl;
    block_is = index_first blocks [] (Some block) (length g.blocks) r.made;
    size = size;
    vtable = vtable;
    shows = λ name s h. shows_grows (instance_grown g class at) layout known s.element (named name attributes) (read fields (value_at layout s)) (read fields (set_at layout s)) (shows name s h);
  }

  pub instance_made : Represents layout known then (heap ++ Instance class attributes ∷ []) fewer (blocks ++ Some block ∷ []) statics
  instance_made = object_made (Instance class attributes) (Whole at ∷ []) (instance_home g class) (Some block ∷ []) r less refl instance_stays (settled_more layout g.blocks g.statics g.homes then.homes blocks statics (Whole at) block r.made r.settled (never_settled layout (Whole at) block apart)) (λ n head h struct. absurd (no_instance h refl)) here (λ k head m h is. absurd (no_dict_made refl h))
    where
      here : (c : ℕ) (head : Value) → instance_home g class ≡ record { sort = InstanceOf c; head = head } → InstanceAt layout known then (heap ++ Instance class attributes ∷ []) (blocks ++ Some block ∷ []) statics c at head
      here c head e =
          subst (λ y. InstanceAt layout known then (heap ++ Instance class attributes ∷ []) (blocks ++ Some block ∷ []) statics c at y) (ap (λ (x : Home). x.head) e)
          (subst (λ l. InstanceAt layout known then (heap ++ Instance class attributes ∷ []) (blocks ++ Some block ∷ []) statics l at (Ptr (length g.blocks))) (ap (λ (x : Home). class_of x.sort) e) new_instance)

-- ---- a dict without entries is made

-- one block, for the next object
abbrev pub dict_home : Ghost → ℕ → Home
dict_home g n = record { sort = DictOf n; head = Ptr (length g.blocks) }

abbrev pub with_dict : Ghost → ℕ → ℕ → Ghost
with_dict g n i = with_object g (Table i ∷ []) (dict_home g n)

pub dict_grown : (g : Ghost) (n i : ℕ) → Grown g (with_dict g n i)
dict_grown g n i = object_grown g (Table i ∷ []) (dict_home g n)

abbrev dict_in : Sort → ℕ
dict_in (DictOf n) = n
dict_in other = 0

one_mapping : {a b : Mapping} → Some a ≡ Some b → a ≡ b
one_mapping h = cc

module _ {layout : Layout} {known : Known} {g : Ghost} {heap : Heap} {left : ℕ} {blocks : List (Option Block)} {statics : List Block} (r : Represents layout known g heap left blocks statics) (n fewer : ℕ) (m : Mapping)
    (apart : is_settled layout m.dict ≡ false) (less : fewer ≤ left) (is_mapping : mapping_at layout.mappings n ≡ Some m) where
  abbrev place : ℕ
  place = length heap

  abbrev with_one : Ghost
  with_one = with_dict g n place

  abbrev empty_dict : Block
  empty_dict = dict_block m.dict 0 0 Null Null

  dict_stays : (x : Value) (b : Block) → use_of with_one x ≡ Some (Stays b) → use_of g x ≡ Some (Stays b)
  dict_stays (Ptr k) b h = by (last_one g.blocks (Table place) k (Stays b) h)
    where
      by : (slice_get g.blocks k ≡ Some (Stays b)) ⊎ ((k ≡ length g.blocks) × (Stays b ≡ Table place)) → slice_get g.blocks k ≡ Some (Stays b)
      by (inl h) = h
      by (inr (h, e)) = absurd (cc)
  dict_stays (Static s) b h = h
  dict_stays _ b h = absurd (cc)

  new_dict : DictAt layout known with_one (heap ++ Mapped [] ∷ []) (blocks ++ Some empty_dict ∷ []) statics m place (Ptr (length g.blocks))
  new_dict = record {
    pairs = [];
    object = get_first heap [] (Mapped []) place refl;
    places = 0;
    one = Null;
    two = Null;
    head_use = get_first g.blocks [] (Table place) (length g.blocks) refl;
    head_is = index_first blocks [] (Some empty_dict) (length g.blocks) r.made;
    arrays = inl (record { empty = refl; no_places = refl; first_null = refl; second_null = refl });
    apart = λ i j v w h k e. absurd (cc);
    few = omega arith;
  }

  pub dict_made : Represents layout known with_one (heap ++ Mapped [] ∷ []) fewer (blocks ++ Some empty_dict ∷ []) statics
  dict_made = object_made (Mapped []) (Table place ∷ []) (dict_home g n) (Some empty_dict ∷ []) r less refl dict_stays (settled_more layout g.blocks g.statics g.homes with_one.homes blocks statics (Table place) empty_dict r.made r.settled (never_settled layout (Table place) empty_dict apart)) (λ k head h struct. absurd (no_dict h refl)) (λ class head h. absurd (no_dict_made h refl)) here
    where
      here : (k : ℕ) (head : Value) (o : Mapping) → dict_home g n ≡ record { sort = DictOf k; head = head } → mapping_at layout.mappings k ≡ Some o → DictAt layout known with_one (heap ++ Mapped [] ∷ []) (blocks ++ Some empty_dict ∷ []) statics o place head
      here k head o e is =
          let number : n ≡ k = ap (λ (x : Home). dict_in x.sort) e in
          let same : m ≡ o = one_mapping (sym is_mapping ∙ ap (mapping_at layout.mappings) number ∙ is) in
          subst (λ y. DictAt layout known with_one (heap ++ Mapped [] ∷ []) (blocks ++ Some empty_dict ∷ []) statics o place y) (ap (λ (x : Home). x.head) e)
          (subst (λ l. DictAt layout known with_one (heap ++ Mapped [] ∷ []) (blocks ++ Some empty_dict ∷ []) statics l place (Ptr (length g.blocks))) same new_dict)
