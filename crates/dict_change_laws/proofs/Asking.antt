-- What stands at its numbers is what the graphs that change dicts call.
use Rattle.std.proofs.Common.{◌≡◌, ℕ, Bool, true, false, not, List, Option, Some, refl, ap, ◌∙◌, subst}
use Rattle.std.specs.Prelude.{slice_get}
use Rattle.csub_tree.specs.State.{Value, Core}
use Rattle.ll_code.specs.declared.program.LlProgram.{LlProgram}
use Rattle.ll_build.specs.declared.needs.Helper.TheVariants as helper
use Rattle.ll_build.specs.declared.needs.Numbers.{Numbers}
use Rattle.rtyper_layout.specs.declared.dicts.Mapping.{Mapping}
use Rattle.rtyper_layout.specs.declared.layout.Layout.{Layout}
use Rattle.rtyper_layout.specs.Dicts.{is_indexed, first, second, stored_key}
use Rattle.rtyper_layout.specs.Layout.{mapping_at}
use Rattle.rtyper_data.specs.declared.found.Found.{Found}
use Rattle.rtyper_data.specs.declared.small.Keyed.TheVariants as keyed
use Rattle.rtyper_data.specs.declared.small.Listed.TheVariants.{Copy}
use Rattle.rtyper_data.specs.Finding.{helper_number}
use Rattle.list_shape.specs.Shapes.{item_of, number_of}
use Rattle.rtyper_dict.specs.declared.parts.DictShape.{DictShape}
use Rattle.rtyper_dict.specs.Changing.{add_entry, add_graph, remove, store}
use Rattle.rtyper_dict.specs.Graphs.{changing, dict_graph}
use Rattle.rtyper_dict.specs.Growing.{copied, counted, ended, fill_number, grow, grow_blocks, is_pointer}
use Rattle.rtyper_dict.specs.Indexing.{enter, enter_graph, index, index_graph}
use Rattle.rtyper_dict.specs.Parts.{dict_at, dict_or, first_item, keyed_number, number_if, second_item, shape_of}
use Rattle.object_laws.specs.Done.{HasLayout}
use Rattle.object_laws.specs.Known.{Known}
use Rattle.list_copy_laws.proofs.Between.{copy_is, the_copy}
use Rattle.dict_op_laws.specs.Asked.{HasKeyed}
use Rattle.dict_find_laws.specs.Asked.{HasFind, HasHash}
use Rattle.dict_find_laws.proofs.Hashed.{key_hashed}
use Rattle.list_laws.specs.Asked.{HasList}
use Rattle.dict_find_laws.specs.Finding.{HasKeys}
use Rattle.dict_change_laws.specs.Asked.{HasEnter, HasIndex, HasAdd, HasGrow, HasStore, HasRemove, when_copied, when_one_filled, when_filled}
use Rattle.dict_change_laws.proofs.Adding.{EntersBy}
use Rattle.dict_change_laws.proofs.Counting.{SizesBy}
use Rattle.dict_change_laws.proofs.Ending.{FillsBy}
use Rattle.dict_change_laws.proofs.Growing.{GrowsBy, IndexesBy}
use Rattle.dict_change_laws.proofs.Keyed.{Hashes}
use Rattle.dict_change_laws.proofs.Removing.{RemovesBy}
use Rattle.dict_change_laws.proofs.Standing.{the_shape}
use Rattle.dict_change_laws.proofs.Storing.{StoresBy}

-- ---- the shape of a mapping

module _ (layout : Layout) (n : ℕ) (m : Mapping) (mapping : mapping_at layout.mappings n ≡ Some m) where
  pub shape_so : dict_at layout n ≡ the_shape m
  unfolding dict_at shape_of
  shape_so = ap (dict_or n) mapping

  module _ (p : LlProgram) where
    -- ---- the graphs

    enter_is : (f : ℕ) (h : HasEnter p layout n f) → slice_get p.graphs f ≡ Some (enter_graph (keyed_number (keyed.Hash (stored_key m)) h.made).0 (the_shape m))
    unfolding dict_graph changing enter
    enter_is f h = h.graph ∙ ap (λ (d : DictShape). Some (enter d h.made).0) shape_so

    index_is : (f : ℕ) (h : HasIndex p layout n f) → slice_get p.graphs f ≡ Some (index_graph (keyed_number (keyed.Enter m.dict) h.made).0 (the_shape m))
    unfolding dict_graph changing index
    index_is f h = h.graph ∙ ap (λ (d : DictShape). Some (index d h.made).0) shape_so

    add_is : (f : ℕ) (h : HasAdd p layout n f) → slice_get p.graphs f ≡ Some (add_graph (number_if (is_indexed m) (keyed.Enter m.dict) h.made).0 (the_shape m))
    unfolding dict_graph changing add_entry
    add_is f h = h.graph ∙ ap (λ (d : DictShape). Some (add_entry d h.made).0) shape_so

  module _ (p : LlProgram) (args : List (List ℕ)) (known : Known) (keys : HasKeys layout known m) (structs : HasLayout p layout) where
    -- ---- hashes

    -- a key is hashed, wherever what stays is what it is
    hashes_so : (f : ℕ) → HasHash p layout (stored_key m) f → Hashes p args layout known m f
    hashes_so f has g core waits x v stays held there = key_hashed layout known p args f m core g x v keys structs has stays held there waits

    -- ---- the index

    enter_hashes : (f : ℕ) (h : HasEnter p layout n f) → Hashes p args layout known m (keyed_number (keyed.Hash (stored_key m)) h.made).0
    enter_hashes f h = hashes_so (keyed_number (keyed.Hash (stored_key m)) h.made).0 (subst (λ (d : DictShape). HasHash p layout d.stored_key (keyed_number (keyed.Hash d.stored_key) h.made).0) shape_so h.hashes)

    enters_by : (c : Bool) (made : Found) → (c ≡ true → HasEnter p layout n (keyed_number (keyed.Enter m.dict) made).0) → EntersBy p args layout known m c (number_if c (keyed.Enter m.dict) made).0
    unfolding number_if shape_of
    enters_by true made h = (let it = h refl in ((keyed_number (keyed.Hash (stored_key m)) it.made).0, (enter_is p (keyed_number (keyed.Enter m.dict) made).0 it, enter_hashes (keyed_number (keyed.Enter m.dict) made).0 it)))
    enters_by false made h = refl

    index_enters : (f : ℕ) (h : HasIndex p layout n f) → HasEnter p layout n (keyed_number (keyed.Enter m.dict) h.made).0
    index_enters f h = subst (λ (d : DictShape). HasEnter p layout n (keyed_number (keyed.Enter d.dict) h.made).0) shape_so h.enters

    indexes_by : (c : Bool) (made : Found) → (c ≡ true → HasIndex p layout n (keyed_number (keyed.Index m.dict) made).0) → IndexesBy p args layout known m c (number_if c (keyed.Index m.dict) made).0
    unfolding number_if
    indexes_by true made h =
        let it = h refl in
        let f : ℕ = (keyed_number (keyed.Index m.dict) made).0 in
        let en = index_enters f it in
        let e : ℕ = (keyed_number (keyed.Enter m.dict) it.made).0 in
        (e, ((keyed_number (keyed.Hash (stored_key m)) en.made).0, (index_is p f it, (enter_is p e en, enter_hashes e en))))
    indexes_by false made h = refl

    -- ---- arrays

    sizes_by : (c : Bool) (made : Found) → (c ≡ true → HasKeyed p layout keyed.Size (keyed_number keyed.Size made).0) → SizesBy p c (number_if c keyed.Size made).0
    unfolding number_if dict_graph changing
    sizes_by true made h = (h refl).graph
    sizes_by false made h = refl

    fills_by : (c : Bool) (a : ℕ) (made : Found) → (c ≡ false → HasKeyed p layout (keyed.Fill a) (keyed_number (keyed.Fill a) made).0) → FillsBy p a (number_if (not c) (keyed.Fill a) made).0
    unfolding number_if dict_graph changing
    fills_by true a made h = tt
    fills_by false a made h = (item_of layout a, (h refl).graph)

    copies_by : (raised : ℕ → Value) (a f : ℕ) → HasList p layout raised (Copy a a) f → slice_get p.graphs f ≡ Some (the_copy a a (item_of layout a))
    copies_by raised a f h = h.graph ∙ ap Some (copy_is layout a a h.made refl)

    -- ---- room

    pub grows_by : (numbers : Numbers) (raised : ℕ → Value) (core : Core) (f : ℕ) → HasGrow p layout numbers raised core n f → GrowsBy p args layout known m f
    unfolding dict_graph changing grow grow_blocks counted copied ended fill_number
    grows_by numbers raised core f has =
        let d : DictShape = the_shape m in
        let made : Found = has.made in
        record {
          least = (helper_number helper.WordMin made).0;
          sizes = (number_if (is_indexed m) keyed.Size (helper_number helper.WordMin made).1).0;
          copies = (number_of (Copy (first m) (first m)) (counted d made).1).0;
          copies2 = (number_of (Copy (second m) (second m)) (number_of (Copy (first m) (first m)) (counted d made).1).1).0;
          fills = (fill_number (first_item d) (first m) (when_copied d made)).0;
          fills2 = (fill_number (second_item d) (second m) (when_one_filled d made)).0;
          indexer = (number_if (is_indexed m) (keyed.Index m.dict) (when_filled d made)).0;
          t1 = item_of layout (first m);
          t2 = item_of layout (second m);
          graph = has.graph ∙ ap (λ (d : DictShape). Some (grow d made).0) shape_so;
          least_is = has.least.graph;
          sizing = sizes_by (is_indexed m) (helper_number helper.WordMin made).1 (subst (λ (d : DictShape). d.is_indexed ≡ true → HasKeyed p layout keyed.Size (keyed_number keyed.Size (helper_number helper.WordMin made).1).0) shape_so has.sizes);
          copying = copies_by raised (first m) (number_of (Copy (first m) (first m)) (counted d made).1).0 (subst (λ (d : DictShape). HasList p layout raised (Copy d.first d.first) (number_of (Copy d.first d.first) (counted d made).1).0) shape_so has.copies);
          copying2 = copies_by raised (second m) (number_of (Copy (second m) (second m)) (number_of (Copy (first m) (first m)) (counted d made).1).1).0
              (subst (λ (d : DictShape). HasList p layout raised (Copy d.second d.second) (number_of (Copy d.second d.second) (number_of (Copy d.first d.first) (counted d made).1).1).0) shape_so has.copies_second);
          filling = fills_by (is_pointer (first_item d)) (first m) (when_copied d made) (subst (λ (d : DictShape). is_pointer (first_item d) ≡ false → HasKeyed p layout (keyed.Fill d.first) (keyed_number (keyed.Fill d.first) (when_copied d made)).0) shape_so has.fills);
          filling2 = fills_by (is_pointer (second_item d)) (second m) (when_one_filled d made) (subst (λ (d : DictShape). is_pointer (second_item d) ≡ false → HasKeyed p layout (keyed.Fill d.second) (keyed_number (keyed.Fill d.second) (when_one_filled d made)).0) shape_so has.fills_second);
          indexing = indexes_by (is_indexed m) (when_filled d made) (subst (λ (d : DictShape). d.is_indexed ≡ true → HasIndex p layout n (keyed_number (keyed.Index d.dict) (when_filled d made)).0) shape_so has.indexes);
        }

    -- ---- an entry more

    pub adds_by : (f : ℕ) → HasAdd p layout n f → (o : Option ℕ) × ((slice_get p.graphs f ≡ Some (add_graph o (shape_of m))) × EntersBy p args layout known m (is_indexed m) o)
    unfolding shape_of
    adds_by f has =
        ((number_if (is_indexed m) (keyed.Enter m.dict) has.made).0, (add_is p f has, enters_by (is_indexed m) has.made (subst (λ (d : DictShape). d.is_indexed ≡ true → HasEnter p layout n (keyed_number (keyed.Enter d.dict) has.made).0) shape_so has.enters)))

    -- ---- storing and taking out

    pub stores_by : (numbers : Numbers) (raised : ℕ → Value) (core : Core) (f : ℕ) → HasStore p layout numbers raised core n f → StoresBy p args layout known m f
    unfolding dict_graph changing store shape_of
    stores_by numbers raised core f has =
        let d : DictShape = the_shape m in
        let made : Found = has.made in
        let finds : ℕ × Found = keyed_number (keyed.Find m.dict) made in
        let grows : ℕ × Found = keyed_number (keyed.Grow m.dict) finds.1 in
        let adds : ℕ = (keyed_number (keyed.Add m.dict) grows.1).0 in
        let adding : HasAdd p layout n adds = subst (λ (d : DictShape). HasAdd p layout n (keyed_number (keyed.Add d.dict) (keyed_number (keyed.Grow d.dict) (keyed_number (keyed.Find d.dict) made).1).1).0) shape_so has.adds in
        record {
          finds = finds.0;
          grows = grows.0;
          adds = adds;
          enterer = (number_if (is_indexed m) (keyed.Enter m.dict) adding.made).0;
          graph = has.graph ∙ ap (λ (d : DictShape). Some (store d made).0) shape_so;
          growing = grows_by numbers raised core grows.0 (subst (λ (d : DictShape). HasGrow p layout numbers raised core n (keyed_number (keyed.Grow d.dict) (keyed_number (keyed.Find d.dict) made).1).0) shape_so has.grows);
          adding = add_is p adds adding;
          entering = enters_by (is_indexed m) adding.made (subst (λ (d : DictShape). d.is_indexed ≡ true → HasEnter p layout n (keyed_number (keyed.Enter d.dict) adding.made).0) shape_so adding.enters);
        }

    pub stores_finds : (numbers : Numbers) (raised : ℕ → Value) (core : Core) (f : ℕ) (has : HasStore p layout numbers raised core n f) → HasFind p layout numbers raised core n (stores_by numbers raised core f has).finds
    unfolding stores_by
    stores_finds numbers raised core f has = subst (λ (d : DictShape). HasFind p layout numbers raised core n (keyed_number (keyed.Find d.dict) has.made).0) shape_so has.finds

    pub removes_by : (raised : ℕ → Value) (f : ℕ) → HasRemove p layout raised n f → RemovesBy p args layout known m f
    unfolding dict_graph changing remove
    removes_by raised f has =
        let made : Found = has.made in
        let one : ℕ × Found = number_of (Copy (first m) (first m)) made in
        let two : ℕ × Found = number_of (Copy (second m) (second m)) one.1 in
        record {
          moves = one.0;
          moves2 = two.0;
          indexer = (number_if (is_indexed m) (keyed.Index m.dict) two.1).0;
          t1 = item_of layout (first m);
          t2 = item_of layout (second m);
          graph = has.graph ∙ ap (λ (d : DictShape). Some (remove d made).0) shape_so;
          moving = copies_by raised (first m) one.0 (subst (λ (d : DictShape). HasList p layout raised (Copy d.first d.first) (number_of (Copy d.first d.first) made).0) shape_so has.moves);
          moving2 = copies_by raised (second m) two.0 (subst (λ (d : DictShape). HasList p layout raised (Copy d.second d.second) (number_of (Copy d.second d.second) (number_of (Copy d.first d.first) made).1).0) shape_so has.moves_second);
          indexing = indexes_by (is_indexed m) two.1 (subst (λ (d : DictShape). d.is_indexed ≡ true → HasIndex p layout n (keyed_number (keyed.Index d.dict) (number_of (Copy d.second d.second) (number_of (Copy d.first d.first) made).1).1).0) shape_so has.indexes);
        }
