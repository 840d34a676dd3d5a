-- The graphs that read dicts call only graphs that are told not to raise, and so do all graphs of dicts that raise nothing.
use Rattle.std.proofs.Common.{◌≡◌, ℕ, Bool, true, false, not, [], ◌∷◌, Some, refl}
use Rattle.csub_tree.specs.declared.tree.COperand.{COperand}
use Rattle.csub_tree.specs.declared.tree.COperand.TheVariants.{Var}
use Rattle.ll_code.specs.declared.program.LlType.{LlType}
use Rattle.ll_code.specs.declared.program.LlType.TheVariants as type
use Rattle.ll_code.specs.declared.program.LlOp.TheVariants as op
use Rattle.rtyper_layout.specs.declared.layout.Layout.{Layout}
use Rattle.rtyper_data.specs.declared.body.Body.{Body}
use Rattle.rtyper_data.specs.declared.found.Found.{Found}
use Rattle.rtyper_data.specs.declared.small.Keyed.{Keyed}
use Rattle.rtyper_data.specs.declared.small.Keyed.TheVariants as keyed
use Rattle.rtyper_data.specs.declared.small.Listed.TheVariants as listed
use Rattle.rtyper_data.specs.declared.small.Small.TheVariants as small
use Rattle.rtyper_data.specs.Converting.{value_as}
use Rattle.rtyper_data.specs.Graphs.{body_of}
use Rattle.rtyper_data.specs.Seen.{Writing, with_op, writing}
use Rattle.list_shape.specs.declared.shape.Shape.{Shape}
use Rattle.list_shape.specs.Shapes.{gives, new_by, number_of, shape_of}
use Rattle.rtyper_dict.specs.declared.lists.Part.{Part}
use Rattle.rtyper_dict.specs.declared.lists.Part.TheVariants as part
use Rattle.rtyper_dict.specs.declared.parts.DictShape.{DictShape}
use Rattle.rtyper_dict.specs.Parts.{dict_at, keyed_number, unstored}
use Rattle.rtyper_dict.specs.Listing.{array_item, field_at, get, get_asks, get_blocks, get_given, get_graph, get_types, got, item_of, item_set, key_as, list, list_asks, list_blocks, list_graph, list_makes, list_reads, list_turn, list_types, list_walks, paid, pair, pair_as, read, truth, truth_asks, truth_blocks, truth_counts, tuple_of, value, value_in_first, value_in_second, value_of, value_ops, value_read}
use Rattle.rtyper_dict.specs.Graphs.{dict_graph}
use Rattle.rtyper_program.specs.Cuts.{small_raises}
use Rattle.growth_laws.specs.Growing.{Grows}
use Rattle.growth_laws.proofs.Data.{then_grows}
use Rattle.growth_laws.proofs.DictGraphs.{keyed_grows, listed_grows}
use Rattle.throw_laws.specs.Pieces.{AreQuiet, is_quiet}
use Rattle.told_graphs.proofs.Keeping.{Calm, Keeps, Quiet, Telling, all_calm, calm, chain, kept, more, pushed, writes}
use Rattle.told_graphs.proofs.QuietData.{value_as_keeps}
use Rattle.told_graphs.proofs.QuietDicts.{changing_calm, find_calm, hash_calm, if_ops, unstored_keeps}

module _ (t : Telling) where
  value_calm : (d : DictShape) (found : Found) → Calm t (value d, found)
  unfolding value value_read value_ops
  value_calm d found late = (record { ops = if_ops t d.keys_last (value_in_first d) (value_in_second d) (refl, (refl, tt)) (refl, (refl, (refl, (refl, (refl, (refl, tt)))))); exit = tt }, tt)

  -- ---- the value of a key, or another

  got_ops : (layout : Layout) (d : DictShape) (kind : LlType) (w : Writing) → Grows (got layout d kind w).1.found t.last → Quiet t w.body → Quiet t (got layout d kind w).1.body
  unfolding got
  got_ops layout d kind w late q =
      let values : ℕ × Found = keyed_number (keyed.Value d.dict) w.found in
      let v : Writing = writing values.1 (with_op (op.Call (Some 5) values.0 (Var 0 ∷ Var 3 ∷ [])) w.body) in
      let x : COperand × Body = unstored d.stored_value d.value (Var 5) v.body in
      let stays : Keeps t v (value_as layout x.0 d.value kind (writing values.1 x.1)).1 = chain t (unstored_keeps t d.stored_value d.value (Var 5) v) (value_as_keeps t layout x.0 d.value kind (writing values.1 x.1)) in
      stays.stays late (more t w.body.ops _ q (t.smalls (small.Keyed (keyed.Value d.dict)) w.found refl (then_grows stays.grows late)))

  get_calm : (layout : Layout) (d : DictShape) (kind : LlType) (found : Found) → Calm t (get layout d kind found)
  unfolding get get_graph get_blocks get_asks get_given gives
  get_calm layout d kind found late =
      let w : Writing = writing found (body_of (get_types d kind)) in
      let x : COperand × Writing = got layout d kind w in (
        calm t _ refl (t.smalls (small.Keyed (keyed.Find d.dict)) x.1.found refl late, tt),
        (
          calm t _ refl tt,
          (
            record { ops = got_ops layout d kind w (then_grows (keyed_grows (keyed.Find d.dict) x.1.found) late) tt; exit = tt },
            tt,
          ),
        ),
      )

  -- ---- lists

  array_item_quiet : (b : Bool) (d : DictShape) (into : ℕ) → is_quiet t.quiet (array_item b d into) ≡ true
  array_item_quiet true d into = refl
  array_item_quiet false d into = refl

  read_keeps : (b : Bool) (item kind : LlType) (d : DictShape) (w : Writing) → Keeps t w (writing w.found (read b item kind d w.body).1)
  unfolding read
  read_keeps b item kind d w =
      let x : COperand × Body = new_by item (array_item b d) w.body in
      chain t (writes t w x.1 (λ q. more t w.body.ops _ q (array_item_quiet b d _))) (unstored_keeps t item kind x.0 (writing w.found x.1))

  key_as_keeps : (layout : Layout) (d : DictShape) (to : LlType) (w : Writing) → Keeps t w (key_as layout d to w).1
  unfolding key_as
  key_as_keeps layout d to w =
      let x : COperand × Body = read d.keys_last d.stored_key d.key d w.body in
      chain t (read_keeps d.keys_last d.stored_key d.key d w) (value_as_keeps t layout x.0 d.key to (writing w.found x.1))

  value_of_keeps : (layout : Layout) (d : DictShape) (to : LlType) (w : Writing) → Keeps t w (value_of layout d to w).1
  unfolding value_of
  value_of_keeps layout d to w =
      let x : COperand × Body = read (not d.keys_last) d.stored_value d.value d w.body in
      chain t (read_keeps (not d.keys_last) d.stored_value d.value d w) (value_as_keeps t layout x.0 d.value to (writing w.found x.1))

  tuple_keeps : (n : ℕ) (x y : COperand) (w : Writing) → Keeps t w (writing w.found (tuple_of n x y w.body).1)
  unfolding tuple_of
  tuple_keeps n x y w = writes t w _ (λ q. more t _ _ (more t _ _ (more t w.body.ops _ q refl) refl) refl)

  pair_keeps : (layout : Layout) (d : DictShape) (n : ℕ) (w : Writing) → Keeps t w (pair layout d n w).1
  unfolding pair
  pair_keeps layout d n w =
      let k : COperand × Writing = key_as layout d (field_at layout n 0) w in
      let v : COperand × Writing = value_of layout d (field_at layout n 1) k.1 in
      chain t (key_as_keeps layout d (field_at layout n 0) w) (chain t (value_of_keeps layout d (field_at layout n 1) k.1) (tuple_keeps n k.0 v.0 v.1))

  pair_as_keeps : (layout : Layout) (d : DictShape) (to : LlType) (w : Writing) → Keeps t w (pair_as layout d to w).1
  pair_as_keeps layout d (type.Ptr n) w = pair_keeps layout d n w
  pair_as_keeps layout d _ w = kept t w

  item_of_keeps : (layout : Layout) (d : DictShape) (to : LlType) (of : Part) (w : Writing) → Keeps t w (item_of layout d to of w).1
  unfolding item_of
  item_of_keeps layout d to part.Key w = key_as_keeps layout d to w
  item_of_keeps layout d to part.Value w = value_of_keeps layout d to w
  item_of_keeps layout d to part.Both w = pair_as_keeps layout d to w

  item_set_keeps : (layout : Layout) (d : DictShape) (to : Shape) (of : Part) (w : Writing) → Keeps t w (item_set layout d to of w)
  unfolding item_set
  item_set_keeps layout d to of w = chain t (item_of_keeps layout d to.item of w) (pushed t _ (item_of layout d to.item of w).1 refl)

  paid_quiet : (of : Part) (d : DictShape) → AreQuiet t.quiet (paid of d)
  unfolding paid
  paid_quiet part.Key d = (refl, (refl, (refl, tt)))
  paid_quiet part.Value d = (refl, (refl, (refl, tt)))
  paid_quiet part.Both d = (refl, (refl, (refl, (refl, tt))))

  list_calm : (layout : Layout) (d : DictShape) (to : Shape) (of : Part) (found : Found) → Calm t (list layout d to of found)
  unfolding list list_graph list_blocks list_makes list_walks list_asks list_turn list_reads gives
  list_calm layout d to of found late =
      let w : Writing = writing found (record { types = list_types d to; ops = list_reads }) in
      let set : Writing = item_set layout d to of w in
      let makes : t.quiet (number_of (listed.Make to.list) set.found).0 ≡ true = t.smalls (small.Listed (listed.Make to.list)) set.found refl late in (
        record { ops = more t _ _ (more t _ _ (more t (paid of d) _ (paid_quiet of d) makes) refl) refl; exit = tt },
        (
          calm t _ refl tt,
          (
            calm t _ refl tt,
            (
              record { ops = (item_set_keeps layout d to of w).stays (then_grows (listed_grows (listed.Make to.list) set.found) late) (refl, (refl, tt)); exit = tt },
              (calm t _ refl tt, tt),
            ),
          ),
        ),
      )

  -- ---- all

  pub dict_graph_calm : (layout : Layout) (graph : Keyed) (found : Found) → small_raises (small.Keyed graph) ≡ false → Calm t (dict_graph layout graph found)
  unfolding dict_graph truth truth_asks truth_counts truth_blocks
  dict_graph_calm layout (keyed.Hash kind) found h = hash_calm t layout kind found
  dict_graph_calm layout (keyed.Find d) found h = find_calm t layout (dict_at layout d) found
  dict_graph_calm layout (keyed.Entry d) found h = absurd (cc)
  dict_graph_calm layout (keyed.Value d) found h = value_calm (dict_at layout d) found
  dict_graph_calm layout (keyed.Get d kind) found h = get_calm layout (dict_at layout d) kind found
  dict_graph_calm layout (keyed.Truth d) found h = λ late. all_calm t (truth (dict_at layout d)).blocks refl tt
  dict_graph_calm layout (keyed.Keys d l) found h = list_calm layout (dict_at layout d) (shape_of layout l) part.Key found
  dict_graph_calm layout (keyed.Values d l) found h = list_calm layout (dict_at layout d) (shape_of layout l) part.Value found
  dict_graph_calm layout (keyed.Items d l) found h = list_calm layout (dict_at layout d) (shape_of layout l) part.Both found
  dict_graph_calm layout other found h = changing_calm t layout other found
