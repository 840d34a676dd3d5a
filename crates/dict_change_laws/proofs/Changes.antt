-- Memory in which the blocks of one dict were written represents the heap with that dict changed.
use Rattle.std.proofs.Common.{◌≡◌, ◌≤◌, ℕ, List, length, Option, Some, refl, sym, ap, ◌∙◌, subst, arith}
use Rattle.std.specs.Prelude.{slice_get, slice_set}
use Rattle.csub_tree.specs.State.{Value, Block}
use Rattle.ll_texts.specs.Texts.{found}
use Rattle.rpy_tree.specs.Value.{Value as Meant, Mapped, Heap}
use Rattle.rtyper_layout.specs.declared.dicts.Mapping.{Mapping}
use Rattle.rtyper_layout.specs.declared.layout.Layout.{Layout}
use Rattle.rtyper_layout.specs.Layout.{mapping_at}
use Rattle.object_laws.specs.Dicts.{DictAt}
use Rattle.object_laws.specs.Ghost.{Ghost, Grown, Use, Stays, Table, First, Second, DictOf, use_of}
use Rattle.object_laws.specs.Known.{Known}
use Rattle.object_laws.specs.Represents.{Represents, Settled, is_settled}
use Rattle.object_laws.proofs.Changing.{IsOf, dict_changes, list_kept, uses_apart}
use Rattle.object_laws.proofs.Growing.{grown_none}
use Rattle.dict_change_laws.proofs.Rewriting.{Rewrote, Three}

-- ---- fewer steps

pub fewer_steps : {layout : Layout} {known : Known} {g : Ghost} {heap : Heap} {left fewer : ℕ} {blocks : List (Option Block)} {statics : List Block} → fewer ≤ left → Represents layout known g heap left blocks statics → Represents layout known g heap fewer blocks statics
fewer_steps {left = left} {fewer = fewer} less r = record {
  made = r.made;
  fixed = r.fixed;
  homes = r.homes;
  few = (let f = r.few in omega (arith, f, less));
  stays = r.stays;
  settled = r.settled;
  constants = r.constants;
  vtables = r.vtables;
  exceptions = r.exceptions;
  sites = r.sites;
  lists = λ n i head h struct. list_kept grown_none i head (λ o h. h) (λ x u b h of is. is) n less (r.lists n i head h struct);
  instances = r.instances;
  dicts = r.dicts;
}

-- ---- what is of one object

abbrev pub Mine : Ghost → ℕ → Value → Type 0
Mine g i x = (u : Use) × ((use_of g x ≡ Some u) × IsOf i u)

one_use : {u v : Use} → Some u ≡ Some v → u ≡ v
one_use h = cc

pub not_mine : (g : Ghost) (i : ℕ) (x : Value) (u : Use) → use_of g x ≡ Some u → (IsOf i u → ⊥) → Mine g i x → ⊥
not_mine g i x u h other mine = other (subst (IsOf i) (one_use (sym mine.1.0 ∙ h)) mine.1.1)

stays_other : (g : Ghost) (i : ℕ) (x : Value) (block : Block) → use_of g x ≡ Some (Stays block) → Mine g i x → ⊥
stays_other g i x block h mine = not_mine g i x (Stays block) h (λ e. e) mine

pub three_mine : (g : Ghost) (i : ℕ) (head one two : Value) → use_of g head ≡ Some (Table i) → use_of g one ≡ Some (First i) → use_of g two ≡ Some (Second i) → Three (Mine g i) head one two
three_mine g i head one two h f s = record {
  head_mine = (Table i, (h, refl));
  first_mine = (First i, (f, refl));
  second_mine = (Second i, (s, refl));
  head_first = uses_apart g head one (Table i) (First i) h f (λ q. absurd (cc));
  head_second = uses_apart g head two (Table i) (Second i) h s (λ q. absurd (cc));
  first_second = uses_apart g one two (First i) (Second i) f s (λ q. absurd (cc));
}

same_some : {a b : Block} → Some a ≡ Some b → a ≡ b
same_some h = cc

pub settled_rewrote : (layout : Layout) (g : Ghost) (i : ℕ) {blocks blocks2 : List (Option Block)} {statics statics2 : List Block} → Settled layout g blocks statics → Rewrote (Mine g i) blocks statics blocks2 statics2 → Settled layout g blocks2 statics2
settled_rewrote layout g i {blocks = blocks} {blocks2 = blocks2} {statics = statics} {statics2 = statics2} settled wrote x block h is =
    let k = wrote.kinds x block h in
    let used : use_of g x ≡ Some (Stays k.0) = settled x k.0 k.1.0 (ap (is_settled layout) k.1.1 ∙ is) in
    let q : k.0 ≡ block = same_some (sym k.1.0 ∙ sym (wrote.others x (stays_other g i x k.0 used)) ∙ h) in
    used ∙ ap (λ b. Some (Stays b)) q

-- The dict of one object is another. Blocks may have been made for it before.
pub dict_rewritten : {layout : Layout} {known : Known} {g ghost : Ghost} {heap : Heap} {left : ℕ} {blocks blocks1 blocks2 : List (Option Block)} {statics statics2 : List Block} (n i : ℕ) (head : Value) (m : Mapping) (pairs : List (Meant × Meant))
    → Represents layout known g heap left blocks statics → Grown g ghost → ghost.homes ≡ g.homes → slice_get g.homes i ≡ Some (record { sort = DictOf n; head = head }) → mapping_at layout.mappings n ≡ Some m
    → length ghost.blocks ≡ length blocks1
    → ((x : Value) (block : Block) → use_of ghost x ≡ Some (Stays block) → use_of g x ≡ Some (Stays block))
    → ((x : Value) (u : Use) → use_of g x ≡ Some u → found blocks1 statics x ≡ found blocks statics x)
    → Settled layout ghost blocks1 statics
    → ((x : Value) (u : Use) → use_of g x ≡ Some u → use_of ghost x ≡ Some u)
    → Rewrote (Mine ghost i) blocks1 statics blocks2 statics2
    → DictAt layout known ghost (slice_set heap i (Mapped pairs)) blocks2 statics2 m i head
    → Represents layout known ghost (slice_set heap i (Mapped pairs)) left blocks2 statics2
dict_rewritten {layout = layout} {ghost = ghost} n i head m pairs r grown same home is made stays before settled uses wrote changed =
    dict_changes n i head m pairs r grown same (omega arith) home is (made ∙ sym wrote.made) wrote.fixed stays (λ x u h other. wrote.others x (not_mine ghost i x u (uses x u h) other) ∙ before x u h) (settled_rewrote layout ghost i settled wrote) changed
