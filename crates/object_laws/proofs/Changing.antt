-- One object changes, and all else is what it was.
use Rattle.std.proofs.Common.{◌≡◌, ◌≤◌, ◌⊎◌, inl, inr, ℕ, zero, suc, true, false, List, [], ◌∷◌, length, Option, Some, None, refl, sym, ap, ◌∙◌, subst, arith}
use Rattle.std.specs.Prelude.{slice_get, slice_set, slice_index_or}
use Rattle.std.proofs.lemmas.Bool.{cases_eq}
use Rattle.std.proofs.lemmas.List.{get_or-set_other, length-set}
use Rattle.csub_tree.specs.State.{Value, Ptr, Static, Block}
use Rattle.csub_tree.specs.Statement.{read}
use Rattle.ll_texts.specs.Texts.{found}
use Rattle.rpy_meaning.specs.Operations.{object_of}
use Rattle.rpy_tree.specs.Value.{Value as Meant, Object, Listed, Mapped, Instance, Heap}
use Rattle.rpy_meaning.specs.Classes.{named}
use Rattle.rtyper_layout.specs.declared.layout.Layout.{Layout}
use Rattle.rtyper_layout.specs.declared.dicts.Mapping.{Mapping}
use Rattle.rtyper_layout.specs.Layout.{is_list, mapping_at}
use Rattle.object_laws.specs.Dicts.{DictAt, Arrays, Lacks}
use Rattle.object_laws.specs.Known.{Known}
use Rattle.object_laws.specs.Ghost.{Ghost, Grown, Home, Sort, ListOf, InstanceOf, DictOf, Use, Stays, Head, Array, Whole, Table, First, Second, use_of}
use Rattle.object_laws.specs.Represents.{Represents, ListAt, InstanceAt, HasRoom, Settled, is_settled, value_at, set_at}
use Rattle.object_laws.proofs.Growing.{use_grows, each_grows, shows_grows, grown_none}

-- ---- lists of objects

pub get_set_other : {A : Type 0} (xs : List A) (i j : ℕ) (x : A) → (j ≡ i → ⊥) → slice_get (slice_set xs i x) j ≡ slice_get xs j
get_set_other [] i j x h = refl
get_set_other (y ∷ xs) zero zero x h = absurd (h refl)
get_set_other (y ∷ xs) zero (suc j) x h = refl
get_set_other (y ∷ xs) (suc i) zero x h = refl
get_set_other (y ∷ xs) (suc i) (suc j) x h = get_set_other xs i j x (λ e. h (ap suc e))

pub get_set_here : {A : Type 0} (xs : List A) (i : ℕ) (x y : A) → slice_get xs i ≡ Some y → slice_get (slice_set xs i x) i ≡ Some x
get_set_here [] i x y h = absurd (cc)
get_set_here (z ∷ xs) zero x y h = refl
get_set_here (z ∷ xs) (suc i) x y h = get_set_here xs i x y h

-- ---- a block is another

-- the block that a pointer names is this one, and each other is what it was
pub record Wrote (blocks : List (Option Block)) (statics : List Block) (at : Value) (block : Block) (blocks2 : List (Option Block)) (statics2 : List Block) : Type 0 where
  pub there : found blocks2 statics2 at ≡ Some block
  pub others : (x : Value) → (x ≡ at → ⊥) → found blocks2 statics2 x ≡ found blocks statics x
  pub made : length blocks2 ≡ length blocks
  pub fixed : length statics2 ≡ length statics

index_set_here : (bs : List (Option Block)) (n : ℕ) (b c : Block) → slice_index_or bs n None ≡ Some b → slice_index_or (slice_set bs n (Some c)) n None ≡ Some c
index_set_here [] n b c h = absurd (cc)
index_set_here (x ∷ bs) zero b c h = refl
index_set_here (x ∷ bs) (suc n) b c h = index_set_here bs n b c h

-- of a block
pub wrote_block : (blocks : List (Option Block)) (statics : List Block) (n : ℕ) (old block : Block) → found blocks statics (Ptr n) ≡ Some old → Wrote blocks statics (Ptr n) block (slice_set blocks n (Some block)) statics
wrote_block blocks statics n old block h = record { there = index_set_here blocks n old block h; others = others; made = length-set blocks n (Some block); fixed = refl }
  where
    others : (x : Value) → (x ≡ Ptr n → ⊥) → found (slice_set blocks n (Some block)) statics x ≡ found blocks statics x
    others (Ptr m) other = get_or-set_other blocks n m (Some block) None (λ e. other (ap Ptr e))
    others (Static s) other = refl
    others _ other = refl

-- of a static
pub wrote_static : (blocks : List (Option Block)) (statics : List Block) (s : ℕ) (old block : Block) → found blocks statics (Static s) ≡ Some old → Wrote blocks statics (Static s) block blocks (slice_set statics s block)
wrote_static blocks statics s old block h = record { there = get_set_here statics s block old h; others = others; made = refl; fixed = length-set statics s block }
  where
    others : (x : Value) → (x ≡ Static s → ⊥) → found blocks (slice_set statics s block) x ≡ found blocks statics x
    others (Static t) other = get_set_other statics s t block (λ e. other (ap Static e))
    others (Ptr m) other = refl
    others _ other = refl

-- what is there then
abbrev pub put_block : Value → Block → List (Option Block) → List (Option Block)
put_block (Ptr n) block blocks = slice_set blocks n (Some block)
put_block _ block blocks = blocks

abbrev pub put_static : Value → Block → List Block → List Block
put_static (Static s) block statics = slice_set statics s block
put_static _ block statics = statics

pub wrote_at : (blocks : List (Option Block)) (statics : List Block) (at : Value) (old block : Block) → found blocks statics at ≡ Some old → Wrote blocks statics at block (put_block at block blocks) (put_static at block statics)
wrote_at blocks statics (Ptr n) old block h = wrote_block blocks statics n old block h
wrote_at blocks statics (Static s) old block h = wrote_static blocks statics s old block h
wrote_at blocks statics _ old block h = absurd (cc)

-- ---- what stays

-- a value that names a block is another, or it is not
names_one : (blocks : List (Option Block)) (statics : List Block) (x y : Value) (b : Block) → found blocks statics x ≡ Some b → (x ≡ y) ⊎ (x ≡ y → ⊥)
names_one blocks statics (Ptr n) (Ptr m) b h = by (cases_eq n m)
  where
    by : (n ≡ m) ⊎ (n ≡ m → ⊥) → (Ptr n ≡ Ptr m) ⊎ (Ptr n ≡ Ptr m → ⊥)
    by (inl e) = inl (ap Ptr e)
    by (inr apart) = inr (λ e. apart (let q : n ≡ m = cc in q))
names_one blocks statics (Static n) (Static m) b h = by (cases_eq n m)
  where
    by : (n ≡ m) ⊎ (n ≡ m → ⊥) → (Static n ≡ Static m) ⊎ (Static n ≡ Static m → ⊥)
    by (inl e) = inl (ap Static e)
    by (inr apart) = inr (λ e. apart (let q : n ≡ m = cc in q))
names_one blocks statics (Ptr n) _ b h = inr (λ e. absurd (cc))
names_one blocks statics (Static n) _ b h = inr (λ e. absurd (cc))
names_one blocks statics _ y b h = absurd (cc)

-- where the block that is written is no string and no tuple
pub settled_wrote : (layout : Layout) (g : Ghost) {blocks blocks2 : List (Option Block)} {statics statics2 : List Block} {at : Value} {block : Block} → Settled layout g blocks statics → Wrote blocks statics at block blocks2 statics2 → is_settled layout block.kind ≡ false → Settled layout g blocks2 statics2
settled_wrote layout g {blocks = blocks} {blocks2 = blocks2} {statics = statics} {statics2 = statics2} {at = at} {block = block} settled wrote other x b is h = by (names_one blocks2 statics2 x at b is)
  where
    one_block : {b c : Block} → Some b ≡ Some c → b ≡ c
    one_block h = cc

    by : (x ≡ at) ⊎ (x ≡ at → ⊥) → use_of g x ≡ Some (Stays b)
    by (inl e) = (let q : b ≡ block = one_block (sym is ∙ ap (λ x. found blocks2 statics2 x) e ∙ wrote.there) in let k : true ≡ false = sym h ∙ ap (λ (b : Block). is_settled layout b.kind) q ∙ other in absurd (cc))
    by (inr apart) = settled x b (sym (wrote.others x apart) ∙ is) h

-- ---- one object is another

-- it is for this object
abbrev pub IsOf : ℕ → Use → Type 0
IsOf i (Head j) = j ≡ i
IsOf i (Array j) = j ≡ i
IsOf i (Whole j) = j ≡ i
IsOf i (Table j) = j ≡ i
IsOf i (First j) = j ≡ i
IsOf i (Second j) = j ≡ i
IsOf i _ = ⊥

pub less_room : (count left fewer : ℕ) → fewer ≤ left → HasRoom count left → HasRoom count fewer
less_room count left fewer h room = omega (arith, h, room)

one_home : {x y : Home} → Some x ≡ Some y → x ≡ y
one_home h = cc

-- an object that is found as before is what it was
module _ {layout : Layout} {known : Known} {g ghost : Ghost} {heap heap2 : Heap} {blocks blocks2 : List (Option Block)} {statics statics2 : List Block} (grown : Grown g ghost) (j : ℕ) (other : Value)
    (object : (o : Object) → slice_get heap j ≡ Some o → slice_get heap2 j ≡ Some o) (others : (x : Value) (u : Use) (b : Block) → use_of g x ≡ Some u → IsOf j u → found blocks statics x ≡ Some b → found blocks2 statics2 x ≡ Some b) where
  pub list_kept : {left fewer : ℕ} (m : ℕ) → fewer ≤ left → ListAt layout known g heap left blocks statics m j other → ListAt layout known ghost heap2 fewer blocks2 statics2 m j other
  list_kept {left = left} {fewer = fewer} m less l = record {
    items = l.items;
    object = object (Listed l.items) l.object;
    array = l.array;
    values = l.values;
    spare = l.spare;
    head_use = use_grows grown other _ l.head_use;
    array_use = use_grows grown l.array _ l.array_use;
    head_is = others other (Head j) _ l.head_use refl l.head_is;
    array_is = others l.array (Array j) _ l.array_use refl l.array_is;
    each = each_grows grown l.each;
    empty = l.empty;
    long = l.long;
    room = less_room (length l.items) left fewer less l.room;
  }

  pub instance_kept : (class : ℕ) → InstanceAt layout known g heap blocks statics class j other → InstanceAt layout known ghost heap2 blocks2 statics2 class j other
  instance_kept class l = record {
    attributes = l.attributes;
    object = object (Instance class l.attributes) l.object;
    laid = l.laid;
    is_laid = l.is_laid;
    fields = l.fields;
    head_use = use_grows grown other _ l.head_use;
    block_is = others other (Whole j) _ l.head_use refl l.block_is;
    size = l.size;
    vtable = l.vtable;
    shows = λ name s h. shows_grows grown layout known s.element (named name l.attributes) (read l.fields (value_at layout s)) (read l.fields (set_at layout s)) (l.shows name s h);
  }

  pub dict_kept : (m : Mapping) → DictAt layout known g heap blocks statics m j other → DictAt layout known ghost heap2 blocks2 statics2 m j other
  dict_kept m l = record {
    pairs = l.pairs;
    object = object (Mapped l.pairs) l.object;
    places = l.places;
    one = l.one;
    two = l.two;
    head_use = use_grows grown other _ l.head_use;
    head_is = others other (Table j) _ l.head_use refl l.head_is;
    arrays = arrays l.arrays;
    apart = l.apart;
    few = l.few;
  }
    where
      arrays : Lacks layout known g blocks statics m j l.pairs l.places l.one l.two ⊎ Arrays layout known g blocks statics m j l.pairs l.places l.one l.two → Lacks layout known ghost blocks2 statics2 m j l.pairs l.places l.one l.two ⊎ Arrays layout known ghost blocks2 statics2 m j l.pairs l.places l.one l.two
      arrays (inl a) = inl (record { empty = a.empty; no_places = a.no_places; first_null = a.first_null; second_null = a.second_null })
      arrays (inr a) = inr (record {
        keys = a.keys;
        values = a.values;
        spare_keys = a.spare_keys;
        spare_values = a.spare_values;
        index = a.index;
        first_use = use_grows grown l.one _ a.first_use;
        second_use = use_grows grown l.two _ a.second_use;
        first_is = others l.one (First j) _ a.first_use refl a.first_is;
        second_is = others l.two (Second j) _ a.second_use refl a.second_is;
        each_key = each_grows grown a.each_key;
        each_value = each_grows grown a.each_value;
        no_keys = a.no_keys;
        no_values = a.no_values;
        key_places = a.key_places;
        value_places = a.value_places;
        indexed = a.indexed;
      })

-- One object is another; blocks may be made for it. What is for something else is found as before.
pub object_changes : {layout : Layout} {known : Known} {g ghost : Ghost} {heap : Heap} {left fewer : ℕ} {blocks blocks2 : List (Option Block)} {statics statics2 : List Block} (i : ℕ) (object : Object)
    → Represents layout known g heap left blocks statics → Grown g ghost → ghost.homes ≡ g.homes → fewer ≤ left
    → length ghost.blocks ≡ length blocks2 → length statics2 ≡ length statics
    → ((x : Value) (block : Block) → use_of ghost x ≡ Some (Stays block) → use_of g x ≡ Some (Stays block))
    → ((x : Value) (u : Use) → use_of g x ≡ Some u → (IsOf i u → ⊥) → found blocks2 statics2 x ≡ found blocks statics x)
    → Settled layout ghost blocks2 statics2
    → ((n : ℕ) (head : Value) → slice_get g.homes i ≡ Some (record { sort = ListOf n; head = head }) → is_list layout n ≡ true → ListAt layout known ghost (slice_set heap i object) fewer blocks2 statics2 n i head)
    → ((class : ℕ) (head : Value) → slice_get g.homes i ≡ Some (record { sort = InstanceOf class; head = head }) → InstanceAt layout known ghost (slice_set heap i object) blocks2 statics2 class i head)
    → ((n : ℕ) (head : Value) (m : Mapping) → slice_get g.homes i ≡ Some (record { sort = DictOf n; head = head }) → mapping_at layout.mappings n ≡ Some m → DictAt layout known ghost (slice_set heap i object) blocks2 statics2 m i head)
    → Represents layout known ghost (slice_set heap i object) fewer blocks2 statics2
object_changes {layout = layout} {known = known} {g = g} {ghost = ghost} {heap = heap} {left = left} {fewer = fewer} {blocks = blocks} {blocks2 = blocks2} {statics = statics} {statics2 = statics2} i object r grown same less made fixed stays others settled list_here instance_here dict_here = record {
  made = made;
  fixed = ap length grown.statics ∙ r.fixed ∙ sym fixed;
  few = (let f = r.few in omega (arith, f, less));
  homes = ap length same ∙ r.homes ∙ sym (length-set heap i object);
  stays = λ x block h. others x (Stays block) (stays x block h) (λ e. e) ∙ r.stays x block (stays x block h);
  settled = settled;
  constants = λ s block h. use_grows grown (Static s) _ (r.constants s block h);
  vtables = λ class l h. use_grows grown (known.vtable class).at _ (r.vtables class l h);
  exceptions = λ class l h k. ap (λ hs. slice_get hs class) same ∙ r.exceptions class l h k;
  sites = λ site home h. ap (λ hs. slice_get hs (object_of known.program.sites site)) same ∙ r.sites site home h;
  lists = λ m j other h struct. list_at m j other (ap (λ hs. slice_get hs j) (sym same) ∙ h) struct (cases_eq j i);
  instances = λ class j other h. instance_at class j other (ap (λ hs. slice_get hs j) (sym same) ∙ h) (cases_eq j i);
  dicts = λ n j other m h is. dict_at n j other m (ap (λ hs. slice_get hs j) (sym same) ∙ h) is (cases_eq j i);
}
  where
    object_is : (j : ℕ) → (j ≡ i → ⊥) → (o : Object) → slice_get heap j ≡ Some o → slice_get (slice_set heap i object) j ≡ Some o
    object_is j apart o h = get_set_other heap i j object apart ∙ h

    of_other : (j : ℕ) → (j ≡ i → ⊥) → (u : Use) → IsOf j u → IsOf i u → ⊥
    of_other j apart (Head k) h e = apart (sym h ∙ e)
    of_other j apart (Array k) h e = apart (sym h ∙ e)
    of_other j apart (Whole k) h e = apart (sym h ∙ e)
    of_other j apart (Table k) h e = apart (sym h ∙ e)
    of_other j apart (First k) h e = apart (sym h ∙ e)
    of_other j apart (Second k) h e = apart (sym h ∙ e)
    of_other j apart _ h e = e

    found_is : (j : ℕ) → (j ≡ i → ⊥) → (x : Value) (u : Use) (b : Block) → use_of g x ≡ Some u → IsOf j u → found blocks statics x ≡ Some b → found blocks2 statics2 x ≡ Some b
    found_is j apart x u b h of is = others x u h (of_other j apart u of) ∙ is

    list_at : (m j : ℕ) (other : Value) → slice_get g.homes j ≡ Some (record { sort = ListOf m; head = other }) → is_list layout m ≡ true → (j ≡ i) ⊎ (j ≡ i → ⊥) → ListAt layout known ghost (slice_set heap i object) fewer blocks2 statics2 m j other
    list_at m j other h struct (inl e) = subst (λ k. ListAt layout known ghost (slice_set heap i object) fewer blocks2 statics2 m k other) (sym e) (list_here m other (ap (λ k. slice_get g.homes k) (sym e) ∙ h) struct)
    list_at m j other h struct (inr apart) = list_kept grown j other (object_is j apart) (found_is j apart) m less (r.lists m j other h struct)

    instance_at : (class j : ℕ) (other : Value) → slice_get g.homes j ≡ Some (record { sort = InstanceOf class; head = other }) → (j ≡ i) ⊎ (j ≡ i → ⊥) → InstanceAt layout known ghost (slice_set heap i object) blocks2 statics2 class j other
    instance_at class j other h (inl e) = subst (λ k. InstanceAt layout known ghost (slice_set heap i object) blocks2 statics2 class k other) (sym e) (instance_here class other (ap (λ k. slice_get g.homes k) (sym e) ∙ h))
    instance_at class j other h (inr apart) = instance_kept grown j other (object_is j apart) (found_is j apart) class (r.instances class j other h)

    dict_at : (n j : ℕ) (other : Value) (m : Mapping) → slice_get g.homes j ≡ Some (record { sort = DictOf n; head = other }) → mapping_at layout.mappings n ≡ Some m → (j ≡ i) ⊎ (j ≡ i → ⊥) → DictAt layout known ghost (slice_set heap i object) blocks2 statics2 m j other
    dict_at n j other m h is (inl e) = subst (λ k. DictAt layout known ghost (slice_set heap i object) blocks2 statics2 m k other) (sym e) (dict_here n other m (ap (λ k. slice_get g.homes k) (sym e) ∙ h) is)
    dict_at n j other m h is (inr apart) = dict_kept grown j other (object_is j apart) (found_is j apart) m (r.dicts n j other m h is)

-- ---- a list is another

abbrev list_in : Sort → ℕ
list_in (ListOf n) = n
list_in other = 0

no_instance : {n class : ℕ} {x y : Value} {o : Option Home} → o ≡ Some (record { sort = ListOf n; head = x }) → o ≡ Some (record { sort = InstanceOf class; head = y }) → ⊥
no_instance {n = n} {class = class} h k = (let q : ListOf n ≡ InstanceOf class = ap (λ (x : Home). x.sort) (one_home (sym h ∙ k)) in absurd (cc))

no_dict : {n m : ℕ} {x y : Value} {o : Option Home} → o ≡ Some (record { sort = ListOf n; head = x }) → o ≡ Some (record { sort = DictOf m; head = y }) → ⊥
no_dict {n = n} {m = m} h k = (let q : ListOf n ≡ DictOf m = ap (λ (x : Home). x.sort) (one_home (sym h ∙ k)) in absurd (cc))

no_dict_made : {class m : ℕ} {x y : Value} {o : Option Home} → o ≡ Some (record { sort = InstanceOf class; head = x }) → o ≡ Some (record { sort = DictOf m; head = y }) → ⊥
no_dict_made {class = class} {m = m} h k = (let q : InstanceOf class ≡ DictOf m = ap (λ (x : Home). x.sort) (one_home (sym h ∙ k)) in absurd (cc))

-- The list of one object is another.
pub list_changes : {layout : Layout} {known : Known} {g ghost : Ghost} {heap : Heap} {left fewer : ℕ} {blocks blocks2 : List (Option Block)} {statics statics2 : List Block} (n i : ℕ) (head : Value) (items : List Meant)
    → Represents layout known g heap left blocks statics → Grown g ghost → ghost.homes ≡ g.homes → fewer ≤ left → slice_get g.homes i ≡ Some (record { sort = ListOf n; head = head })
    → length ghost.blocks ≡ length blocks2 → length statics2 ≡ length statics
    → ((x : Value) (block : Block) → use_of ghost x ≡ Some (Stays block) → use_of g x ≡ Some (Stays block))
    → ((x : Value) (u : Use) → use_of g x ≡ Some u → (IsOf i u → ⊥) → found blocks2 statics2 x ≡ found blocks statics x)
    → Settled layout ghost blocks2 statics2
    → ListAt layout known ghost (slice_set heap i (Listed items)) fewer blocks2 statics2 n i head
    → Represents layout known ghost (slice_set heap i (Listed items)) fewer blocks2 statics2
list_changes {layout = layout} {known = known} {g = g} {ghost = ghost} {heap = heap} {fewer = fewer} {blocks2 = blocks2} {statics2 = statics2} n i head items r grown same less home made fixed stays others settled changed =
    object_changes i (Listed items) r grown same less made fixed stays others settled here (λ class other h. absurd (no_instance home h)) (λ k other m h is. absurd (no_dict home h))
  where
    here : (m : ℕ) (other : Value) → slice_get g.homes i ≡ Some (record { sort = ListOf m; head = other }) → is_list layout m ≡ true → ListAt layout known ghost (slice_set heap i (Listed items)) fewer blocks2 statics2 m i other
    here m other h struct =
        let q = one_home (sym h ∙ home) in
        let number : m ≡ n = ap (λ (x : Home). list_in x.sort) q in
        subst (λ y. ListAt layout known ghost (slice_set heap i (Listed items)) fewer blocks2 statics2 m i y) (sym (ap (λ (x : Home). x.head) q))
        (subst (λ l. ListAt layout known ghost (slice_set heap i (Listed items)) fewer blocks2 statics2 l i head) (sym number) changed)

-- ---- an instance is another

abbrev class_of : Sort → ℕ
class_of (InstanceOf class) = class
class_of other = 0

-- The attributes of one instance are others.
pub instance_changes : {layout : Layout} {known : Known} {g : Ghost} {heap : Heap} {left : ℕ} {blocks blocks2 : List (Option Block)} {statics statics2 : List Block} (class i : ℕ) (head : Value) (attributes : List (List ℕ × Meant))
    → Represents layout known g heap left blocks statics → slice_get g.homes i ≡ Some (record { sort = InstanceOf class; head = head })
    → length blocks2 ≡ length blocks → length statics2 ≡ length statics
    → ((x : Value) (u : Use) → use_of g x ≡ Some u → (IsOf i u → ⊥) → found blocks2 statics2 x ≡ found blocks statics x)
    → Settled layout g blocks2 statics2
    → InstanceAt layout known g (slice_set heap i (Instance class attributes)) blocks2 statics2 class i head
    → Represents layout known g (slice_set heap i (Instance class attributes)) left blocks2 statics2
instance_changes {layout = layout} {known = known} {g = g} {heap = heap} {blocks2 = blocks2} {statics2 = statics2} class i head attributes r home made fixed others settled changed =
    object_changes i (Instance class attributes) r grown_none refl (omega arith) (r.made ∙ sym made) fixed (λ x block h. h) others settled (λ m other h struct. absurd (no_instance h home)) here (λ k other m h is. absurd (no_dict_made home h))
  where
    here : (c : ℕ) (other : Value) → slice_get g.homes i ≡ Some (record { sort = InstanceOf c; head = other }) → InstanceAt layout known g (slice_set heap i (Instance class attributes)) blocks2 statics2 c i other
    here c other h =
        let q = one_home (sym h ∙ home) in
        let number : c ≡ class = ap (λ (x : Home). class_of x.sort) q in
        subst (λ y. InstanceAt layout known g (slice_set heap i (Instance class attributes)) blocks2 statics2 c i y) (sym (ap (λ (x : Home). x.head) q))
        (subst (λ l. InstanceAt layout known g (slice_set heap i (Instance class attributes)) blocks2 statics2 l i head) (sym number) changed)

-- ---- a dict is another

abbrev dict_in : Sort → ℕ
dict_in (DictOf n) = n
dict_in other = 0

one_mapping : {a b : Mapping} → Some a ≡ Some b → a ≡ b
one_mapping h = cc

-- The dict of one object is another.
pub dict_changes : {layout : Layout} {known : Known} {g ghost : Ghost} {heap : Heap} {left fewer : ℕ} {blocks blocks2 : List (Option Block)} {statics statics2 : List Block} (n i : ℕ) (head : Value) (m : Mapping) (pairs : List (Meant × Meant))
    → Represents layout known g heap left blocks statics → Grown g ghost → ghost.homes ≡ g.homes → fewer ≤ left → slice_get g.homes i ≡ Some (record { sort = DictOf n; head = head }) → mapping_at layout.mappings n ≡ Some m
    → length ghost.blocks ≡ length blocks2 → length statics2 ≡ length statics
    → ((x : Value) (block : Block) → use_of ghost x ≡ Some (Stays block) → use_of g x ≡ Some (Stays block))
    → ((x : Value) (u : Use) → use_of g x ≡ Some u → (IsOf i u → ⊥) → found blocks2 statics2 x ≡ found blocks statics x)
    → Settled layout ghost blocks2 statics2
    → DictAt layout known ghost (slice_set heap i (Mapped pairs)) blocks2 statics2 m i head
    → Represents layout known ghost (slice_set heap i (Mapped pairs)) fewer blocks2 statics2
dict_changes {layout = layout} {known = known} {g = g} {ghost = ghost} {heap = heap} {blocks2 = blocks2} {statics2 = statics2} n i head m pairs r grown same less home is made fixed stays others settled changed =
    object_changes i (Mapped pairs) r grown same less made fixed stays others settled (λ k other h struct. absurd (no_dict h home)) (λ class other h. absurd (no_dict_made h home)) here
  where
    here : (k : ℕ) (other : Value) (o : Mapping) → slice_get g.homes i ≡ Some (record { sort = DictOf k; head = other }) → mapping_at layout.mappings k ≡ Some o → DictAt layout known ghost (slice_set heap i (Mapped pairs)) blocks2 statics2 o i other
    here k other o h found_so =
        let q = one_home (sym h ∙ home) in
        let number : k ≡ n = ap (λ (x : Home). dict_in x.sort) q in
        let same_mapping : o ≡ m = one_mapping (sym found_so ∙ ap (mapping_at layout.mappings) number ∙ is) in
        subst (λ y. DictAt layout known ghost (slice_set heap i (Mapped pairs)) blocks2 statics2 o i y) (sym (ap (λ (x : Home). x.head) q))
        (subst (λ l. DictAt layout known ghost (slice_set heap i (Mapped pairs)) blocks2 statics2 l i head) (sym same_mapping) changed)

-- ---- what is apart

-- two that are for different things are different
pub uses_apart : (g : Ghost) (x y : Value) (u v : Use) → use_of g x ≡ Some u → use_of g y ≡ Some v → (u ≡ v → ⊥) → x ≡ y → ⊥
uses_apart g x y u v h k apart e = apart (let q : Some u ≡ Some v = sym h ∙ ap (use_of g) e ∙ k in cc)
