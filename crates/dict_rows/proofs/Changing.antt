-- Graphs that change dicts stand at their numbers, with those that they call.
use Rattle.std.proofs.Common.{◌≡◌, ℕ, Bool, true, false, List, [], ◌∷◌, ◌++◌, Some, refl, sym, ap, subst}
use Rattle.std.specs.Prelude.{not}
use Rattle.csub_tree.specs.State.{Value, Core}
use Rattle.ll_build.specs.declared.needs.Helper.TheVariants as helper
use Rattle.rpy_tree.specs.Value.{Heap}
use Rattle.list_shape.specs.Shapes.{number_of}
use Rattle.rtyper_data.specs.declared.found.Found.{Found}
use Rattle.rtyper_data.specs.declared.small.Keyed.{Keyed}
use Rattle.rtyper_data.specs.declared.small.Keyed.TheVariants as keyed
use Rattle.rtyper_data.specs.declared.small.Listed.TheVariants.{Copy}
use Rattle.rtyper_data.specs.declared.small.Small.TheVariants as small
use Rattle.rtyper_data.specs.Finding.{helper_number}
use Rattle.rtyper_layout.specs.declared.dicts.Mapping.{Mapping}
use Rattle.rtyper_layout.specs.Layout.{mapping_at}
use Rattle.rtyper_dict.specs.declared.parts.DictShape.{DictShape}
use Rattle.rtyper_dict.specs.Changing.{add_entry, remove, store}
use Rattle.rtyper_dict.specs.Graphs.{changing, dict_graph}
use Rattle.rtyper_dict.specs.Growing.{copied, counted, ended, fill_number, grow, grow_blocks, is_pointer}
use Rattle.rtyper_dict.specs.Indexing.{enter, index}
use Rattle.rtyper_dict.specs.Parts.{dict_at, first_item, keyed_number, number_if, second_item}
use Rattle.lower_laws.specs.Asked as asked
use Rattle.lower_laws.specs.Asked.{Ask, Make, all_asked}
use Rattle.object_laws.specs.Done.{AllAsked}
use Rattle.object_laws.specs.Ghost.{Ghost}
use Rattle.object_laws.specs.Represents.{Represents}
use Rattle.list_laws.specs.Asked.{HasList}
use Rattle.dict_find_laws.specs.Asked.{HasFind}
use Rattle.dict_change_laws.specs.Asked as changes
use Rattle.dict_change_laws.specs.Asked.{HasAdd, HasEnter, HasGrow, HasIndex, HasRemove, HasStore, when_copied, when_counted, when_filled, when_one_filled}
use Rattle.dict_op_laws.specs.Dicts.{if_missing, there_asks}
use Rattle.ll_code.specs.declared.program.LlType.{LlType}
use Rattle.rpy_meaning.specs.declared.row.Covers.{Covers}
use Rattle.rtyper_data.specs.Seen.{Around, Operand, kind_of, type_of}
use Rattle.rtyper_dict.specs.Operands.{of_dict_or_none}
use Rattle.growth_laws.specs.Growing.{Grows}
use Rattle.growth_laws.proofs.Data.{then_grows}
use Rattle.growth_laws.proofs.Growing.{smalls_grow}
use Rattle.rtyped_laws.proofs.Asking.{all_have}
use Rattle.rtyped_laws.proofs.Objects.{lists_have}
use Rattle.rtyped_laws.specs.Having.{raised_in}
use Rattle.rtyped_runs.specs.Laws.{StandsSo, of_changes}
use Rattle.typed_rows.specs.Programs.{IsTyped, Typed, first, last, layout, numbers, setting, world}
use Rattle.value_rows.proofs.Asking.{helper_stands}
use Rattle.dict_rows.proofs.Finding.{KeyOf, asked_stands, dict_is, has_find, has_hash, keyed_stands, one_lookup, plain_stands}

if_late : (end : Found) (b : Bool) (k : Keyed) (found : Found) → Grows (number_if b k found).1 end → Grows found end × (b ≡ true → Grows (keyed_number k found).1 end)
unfolding number_if
if_late end true k found late = (then_grows (smalls_grow (small.Keyed k) found) late, λ e. late)
if_late end false k found late = (late, λ e. absurd (let q : false ≡ true = e in cc))

-- when each was asked for by the graph that makes room
record GrowLate (d : DictShape) (made end : Found) : Type 0 where
  least : Grows (helper_number helper.WordMin made).1 end
  sizes : d.is_indexed ≡ true → Grows (keyed_number keyed.Size (helper_number helper.WordMin made).1).1 end
  copies : Grows (number_of (Copy d.first d.first) (when_counted d made)).1 end
  second : Grows (number_of (Copy d.second d.second) (number_of (Copy d.first d.first) (when_counted d made)).1).1 end
  fills : is_pointer (first_item d) ≡ false → Grows (keyed_number (keyed.Fill d.first) (when_copied d made)).1 end
  fills_second : is_pointer (second_item d) ≡ false → Grows (keyed_number (keyed.Fill d.second) (when_one_filled d made)).1 end
  indexes : d.is_indexed ≡ true → Grows (keyed_number (keyed.Index d.dict) (when_filled d made)).1 end

grow_late : (d : DictShape) (made end : Found) → Grows (grow d made).1 end → GrowLate d made end
unfolding grow grow_blocks counted copied ended fill_number
grow_late d made end late =
    let least : Found = (helper_number helper.WordMin made).1 in
    let i = if_late end d.is_indexed (keyed.Index d.dict) (when_filled d made) late in
    let f2 = if_late end (not (is_pointer (second_item d))) (keyed.Fill d.second) (when_one_filled d made) i.0 in
    let f1 = if_late end (not (is_pointer (first_item d))) (keyed.Fill d.first) (when_copied d made) f2.0 in
    let one = then_grows (smalls_grow (small.Listed (Copy d.second d.second)) (number_of (Copy d.first d.first) (when_counted d made)).1) f1.0 in
    let s = if_late end d.is_indexed keyed.Size (helper_number helper.WordMin made).1 (then_grows (smalls_grow (small.Listed (Copy d.first d.first)) (when_counted d made)) one) in
    record { least = s.0; sizes = s.1; copies = one; second = f1.0; fills = λ e. f1.1 (ap not e); fills_second = λ e. f2.1 (ap not e); indexes = i.1 }

module _ (t : Typed) (typed : IsTyped t) (n : ℕ) (m : Mapping) (is : mapping_at (layout t).mappings n ≡ Some m) where
  abbrev d : DictShape
  d = dict_at (layout t) n

  own : (dict_at (layout t) n).dict ≡ n
  own = dict_is t n m is

  enter_late : (made : Found) → Grows (dict_graph (layout t) (keyed.Enter n) made).1 (last t) → Grows (keyed_number (keyed.Hash d.stored_key) made).1 (last t)
  unfolding dict_graph changing enter
  enter_late made late = late

  has_enter : (found : Found) → Grows (keyed_number (keyed.Enter n) found).1 (last t) → HasEnter t.p (layout t) n (keyed_number (keyed.Enter n) found).0
  has_enter found late = (let s = keyed_stands t typed (keyed.Enter n) found late in record { made = s.made; graph = s.graph; hashes = has_hash t typed d.stored_key s.made (enter_late s.made s.grows) })

  -- the same by the number of its dict
  enter_own : (found : Found) → Grows (keyed_number (keyed.Enter d.dict) found).1 (last t) → HasEnter t.p (layout t) n (keyed_number (keyed.Enter d.dict) found).0
  enter_own found late = subst (λ (k : ℕ). HasEnter t.p (layout t) n (keyed_number (keyed.Enter k) found).0) (sym own) (has_enter found (subst (λ (k : ℕ). Grows (keyed_number (keyed.Enter k) found).1 (last t)) own late))

  index_late : (made : Found) → Grows (dict_graph (layout t) (keyed.Index n) made).1 (last t) → Grows (keyed_number (keyed.Enter d.dict) made).1 (last t)
  unfolding dict_graph changing index
  index_late made late = late

  has_index : (found : Found) → Grows (keyed_number (keyed.Index n) found).1 (last t) → HasIndex t.p (layout t) n (keyed_number (keyed.Index n) found).0
  has_index found late = (let s = keyed_stands t typed (keyed.Index n) found late in record { made = s.made; graph = s.graph; enters = enter_own s.made (index_late s.made s.grows) })

  index_own : (found : Found) → Grows (keyed_number (keyed.Index d.dict) found).1 (last t) → HasIndex t.p (layout t) n (keyed_number (keyed.Index d.dict) found).0
  index_own found late = subst (λ (k : ℕ). HasIndex t.p (layout t) n (keyed_number (keyed.Index k) found).0) (sym own) (has_index found (subst (λ (k : ℕ). Grows (keyed_number (keyed.Index k) found).1 (last t)) own late))

  add_late : (made : Found) → Grows (dict_graph (layout t) (keyed.Add n) made).1 (last t) → d.is_indexed ≡ true → Grows (keyed_number (keyed.Enter d.dict) made).1 (last t)
  unfolding dict_graph changing add_entry
  add_late made late = (if_late (last t) d.is_indexed (keyed.Enter d.dict) made late).1

  has_add : (found : Found) → Grows (keyed_number (keyed.Add n) found).1 (last t) → HasAdd t.p (layout t) n (keyed_number (keyed.Add n) found).0
  has_add found late = (let s = keyed_stands t typed (keyed.Add n) found late in record { made = s.made; graph = s.graph; enters = λ e. enter_own s.made (add_late s.made s.grows e) })

  module _ (core : Core) (g : Ghost) (heap : Heap) (memory : Represents (layout t) t.seen g heap core.steps core.blocks core.statics) where
    raised_is : raised_in (world t) ≡ t.seen.exception
    raised_is = λ i class. (sym (typed.classes.is_of.exception class)) i

    copy_stands : (a b : ℕ) (found : Found) → Grows (number_of (Copy a b) found).1 (last t) → HasList t.p (layout t) t.seen.exception (Copy a b) (number_of (Copy a b) found).0
    copy_stands a b found late =
        subst (λ (raised : ℕ → Value). HasList t.p (layout t) raised (Copy a b) (number_of (Copy a b) found).0) raised_is
        (lists_have t.p t.known (world t) (numbers t) (first t) (last t) (asked_stands t typed) typed.small.graphs core (Copy a b) tt found late)

    grows_of : (made : Found) → Grows (dict_graph (layout t) (keyed.Grow n) made).1 (last t) → GrowLate d made (last t)
    unfolding dict_graph changing
    grows_of made late = grow_late (dict_at (layout t) n) made (last t) late

    has_grow : (found : Found) → Grows (keyed_number (keyed.Grow n) found).1 (last t) → HasGrow t.p (layout t) (numbers t) t.seen.exception core n (keyed_number (keyed.Grow n) found).0
    has_grow found late =
        let s = keyed_stands t typed (keyed.Grow n) found late in
        let l = grows_of s.made s.grows in
        record {
          made = s.made;
          graph = s.graph;
          least = helper_stands t.known t.classes t.p t.made t.seen typed.small.graphs typed.small.structs typed.small.texts helper.WordMin s.made refl refl l.least g heap core memory;
          sizes = λ e. plain_stands t typed keyed.Size (helper_number helper.WordMin s.made).1 (l.sizes e);
          copies = copy_stands d.first d.first (when_counted d s.made) l.copies;
          copies_second = copy_stands d.second d.second (number_of (Copy d.first d.first) (when_counted d s.made)).1 l.second;
          fills = λ e. plain_stands t typed (keyed.Fill d.first) (when_copied d s.made) (l.fills e);
          fills_second = λ e. plain_stands t typed (keyed.Fill d.second) (when_one_filled d s.made) (l.fills_second e);
          indexes = λ e. index_own (when_filled d s.made) (l.indexes e);
        }

    store_late : (made : Found) → Grows (dict_graph (layout t) (keyed.Store n) made).1 (last t) → Grows (keyed_number (keyed.Add d.dict) (keyed_number (keyed.Grow d.dict) (keyed_number (keyed.Find d.dict) made).1).1).1 (last t)
    unfolding dict_graph changing store
    store_late made late = late

    pub has_store : KeyOf t n → (found : Found) → Grows (keyed_number (keyed.Store n) found).1 (last t) → HasStore t.p (layout t) (numbers t) t.seen.exception core n (keyed_number (keyed.Store n) found).0
    has_store key found late =
        let s = keyed_stands t typed (keyed.Store n) found late in
        let a = store_late s.made s.grows in
        let finding : Found = (keyed_number (keyed.Find d.dict) s.made).1 in
        let growing : Found = (keyed_number (keyed.Grow d.dict) finding).1 in
        let b = then_grows (smalls_grow (small.Keyed (keyed.Add d.dict)) growing) a in
        let c = then_grows (smalls_grow (small.Keyed (keyed.Grow d.dict)) finding) b in
        record {
          made = s.made;
          graph = s.graph;
          finds = subst (λ (k : ℕ). HasFind t.p (layout t) (numbers t) t.seen.exception core n (keyed_number (keyed.Find k) s.made).0) (sym own) (has_find t typed core g heap memory n key.1.1 s.made (subst (λ (k : ℕ). Grows (keyed_number (keyed.Find k) s.made).1 (last t)) own c));
          grows = subst (λ (k : ℕ). HasGrow t.p (layout t) (numbers t) t.seen.exception core n (keyed_number (keyed.Grow k) finding).0) (sym own) (has_grow finding (subst (λ (k : ℕ). Grows (keyed_number (keyed.Grow k) finding).1 (last t)) own b));
          adds = subst (λ (k : ℕ). HasAdd t.p (layout t) n (keyed_number (keyed.Add k) growing).0) (sym own) (has_add growing (subst (λ (k : ℕ). Grows (keyed_number (keyed.Add k) growing).1 (last t)) own a));
        }

    remove_late : (made : Found) → Grows (dict_graph (layout t) (keyed.Remove n) made).1 (last t)
        → Grows (number_of (Copy d.second d.second) (number_of (Copy d.first d.first) made).1).1 (last t)
        × (d.is_indexed ≡ true → Grows (keyed_number (keyed.Index d.dict) (number_of (Copy d.second d.second) (number_of (Copy d.first d.first) made).1).1).1 (last t))
    unfolding dict_graph changing remove
    remove_late made late = if_late (last t) d.is_indexed (keyed.Index d.dict) (number_of (Copy d.second d.second) (number_of (Copy d.first d.first) made).1).1 late

    pub has_remove : (found : Found) → Grows (keyed_number (keyed.Remove n) found).1 (last t) → HasRemove t.p (layout t) t.seen.exception n (keyed_number (keyed.Remove n) found).0
    has_remove found late =
        let s = keyed_stands t typed (keyed.Remove n) found late in
        let l = remove_late s.made s.grows in
        let one : Found = (number_of (Copy d.first d.first) s.made).1 in
        record {
          made = s.made;
          graph = s.graph;
          moves = copy_stands d.first d.first s.made (then_grows (smalls_grow (small.Listed (Copy d.second d.second)) one) l.0);
          moves_second = copy_stands d.second d.second one l.0;
          indexes = λ e. index_own (number_of (Copy d.second d.second) one).1 (l.1 e);
        }

-- ---- what operations that change dicts ask for

abbrev pub Alters : Typed → Ask → Type 0
Alters t (Make (small.Present u c)) = Unit {0}
Alters t (Make (small.Keyed (keyed.Entry n))) = KeyOf t n
Alters t (Make (small.Keyed (keyed.Store n))) = KeyOf t n
Alters t (Make (small.Keyed (keyed.Remove n))) = KeyOf t n
Alters t other = ⊥

abbrev pub AllAlter : Typed → List Ask → Type 0
AllAlter t [] = Unit {0}
AllAlter t (a ∷ asks) = Alters t a × AllAlter t asks

pub alter_both : (t : Typed) (asks more : List Ask) → AllAlter t asks → AllAlter t more → AllAlter t (asks ++ more)
alter_both t [] more h k = k
alter_both t (a ∷ asks) more h k = (h.0, alter_both t asks more h.1 k)

missing_alters : (t : Typed) (b : Bool) (u : LlType) (c : Covers) → AllAlter t (if_missing b u c)
missing_alters t true u c = (tt, tt)
missing_alters t false u c = tt

pub there_alters : (t : Typed) (around : Around) (a : Operand) (c : Covers) → AllAlter t (there_asks around a c)
there_alters t around a c = missing_alters t (of_dict_or_none (kind_of a)) (type_of around a) c

module _ (t : Typed) (typed : IsTyped t) where
  one_change : (core : Core) (g : Ghost) (heap : Heap) → Represents (layout t) t.seen g heap core.steps core.blocks core.statics → (a : Ask) (found : Found) → Alters t a → Grows (first t) found → Grows (asked.number_of a found).1 (last t) → changes.Has t.p (layout t) (numbers t) t.seen.exception core a found
  one_change core g heap memory (Make (small.Present u c)) found good early late = one_lookup t typed core g heap memory (Make (small.Present u c)) found tt early late
  one_change core g heap memory (Make (small.Keyed (keyed.Entry n))) found good early late = one_lookup t typed core g heap memory (Make (small.Keyed (keyed.Entry n))) found good early late
  one_change core g heap memory (Make (small.Keyed (keyed.Store n))) found good early late = has_store t typed n good.0 good.1.0 core g heap memory good found late
  one_change core g heap memory (Make (small.Keyed (keyed.Remove n))) found good early late = has_remove t typed n good.0 good.1.0 core g heap memory found late
  one_change core g heap memory _ found good early late = absurd good

  good_all : (asks : List Ask) (found : Found) → AllAlter t asks → AllAsked (λ a f. Alters t a) asks found
  good_all [] found h = tt
  good_all (a ∷ asks) found h = (h.0, good_all asks (asked.number_of a found).1 h.1)

  pub changes_stand : (asks : List Ask) (found : Found) → AllAlter t asks → Grows (first t) found → Grows (all_asked asks found) (last t) → StandsSo (setting t) (of_changes (world t) t.p (numbers t) t.seen.exception) asks found
  changes_stand asks found alter early late core g heap left memory same =
      all_have (first t) (last t) (λ a f. Alters t a) (changes.Has t.p (layout t) (numbers t) t.seen.exception core) (one_change core g heap (subst (λ (k : ℕ). Represents (layout t) t.seen g heap k core.blocks core.statics) same memory))
      asks found (good_all asks found alter) early late
