-- A dict and a key of an operation, once the dict is known to be there and the key was converted.
use Rattle.std.proofs.Common.{◌≡◌, ◌≤◌, ℕ, ◌+◌, List, [], ◌∷◌, ◌++◌, length, Option, Some, refl, sym, ap, ◌∙◌, subst, arith}
use Rattle.ann_element.specs.declared.element.Element.{Element}
use Rattle.csub_tree.specs.State.{Value, Core}
use Rattle.csub_tree.specs.declared.tree.COperand.{COperand}
use Rattle.rpy_tree.specs.Value.{Value as Meant}
use Rattle.rpy_meaning.specs.declared.row.Covers.{Covers}
use Rattle.rpy_meaning.specs.declared.row.RowOp.{RowOp}
use Rattle.rpy_meaning.specs.Operations.{op as meant_op}
use Rattle.rpy_meaning.specs.World.{World}
use Rattle.ll_code.specs.State.{At}
use Rattle.ll_code.specs.declared.program.LlProgram.{LlProgram}
use Rattle.ll_code.specs.declared.program.LlType.TheVariants as type
use Rattle.ll_build.specs.declared.needs.Numbers.{Numbers}
use Rattle.rtyper_layout.specs.declared.dicts.Mapping.{Mapping}
use Rattle.rtyper_layout.specs.declared.kind.Kind.TheVariants as kind
use Rattle.rtyper_layout.specs.declared.layout.Layout.{Layout}
use Rattle.rtyper_layout.specs.Kinds.{kind_seen}
use Rattle.rtyper_layout.specs.Types.{type_seen}
use Rattle.rtyper_data.specs.declared.found.Found.{Found}
use Rattle.rtyper_data.specs.declared.small.Keyed.{Keyed}
use Rattle.rtyper_data.specs.declared.small.Small.TheVariants as small
use Rattle.rtyper_data.specs.Converting.{by_small, present, value_as}
use Rattle.rtyper_data.specs.Seen.{Around, Operand, kind_of, Place, type_of, Writing}
use Rattle.rtyper_dict.specs.Operands.{beside, dict_of, entry_in, key_in, of_dict_or_none, stored_in, there, dict_pointed, shape_in}
use Rattle.rtyper_dict.specs.Parts.{shape_of}
use Rattle.list_shape.specs.Shapes.{taking}
use Rattle.lower_laws.specs.Asked.{Ask}
use Rattle.lower_laws.specs.Tuples.{Same, Whole}
use Rattle.object_laws.specs.Done.{AllAsked, references}
use Rattle.object_laws.specs.Done as objects
use Rattle.object_laws.specs.Known.{Known}
use Rattle.object_laws.specs.Staying.{Stays, Plainly}
use Rattle.object_laws.proofs.Valued.{plain_is_simple}
use Rattle.conversion_laws.specs.Converted.{IsConverted}
use Rattle.conversion_laws.proofs.Converting.{values_are_converted}
use Rattle.conversion_laws.specs.Asked.{Has as HasConversion}
use Rattle.dict_op_laws.specs.Dicts.{if_missing, there_asks}
use Rattle.dict_find_laws.specs.Finding.{HasKeys}
use Rattle.dict_find_laws.specs.Keys.{AreKeys}
use Rattle.dict_find_laws.specs.Keys as sorts
use Rattle.dict_find_laws.specs.Lookups.{IsAskedFor as IsAskedAsItIs}
use Rattle.dict_find_laws.proofs.Arriving.{same_value}
use Rattle.conversion_laws.proofs.Moving.{stays_here}
use Rattle.dict_conversion_laws.specs.Asked.{HasAll}
use Rattle.dict_conversion_laws.specs.Done.{IsDoneWhere}
use Rattle.dict_conversion_laws.specs.Lookups.{IsAskedFor}
use Rattle.dict_conversion_laws.specs.Operands.{operand_as, operand_asks, written_for}
use Rattle.dict_conversion_laws.proofs.Composed.{follows_so, then_follows}
use Rattle.dict_conversion_laws.proofs.Covered.{asks_cover}
use Rattle.dict_conversion_laws.proofs.Dicts.{dict, dict_written, is_dict, r, c}
use Rattle.rpy_base.specs.declared.outcome.FailName.TheVariants as fail
use Rattle.rpy_tree.specs.Value.{Nothing}
use Rattle.rpy_meaning.specs.World.{failure}
use Rattle.object_laws.specs.Ghost.{Ghost}
use Rattle.object_laws.specs.Values.{Given}
use Rattle.dict_conversion_laws.specs.Lookups.{key_asks, key_blocks, key_references}
use Rattle.dict_conversion_laws.proofs.Dicts.{dict_tested}
use Rattle.dict_conversion_laws.proofs.Operands.{one_of, operand_converted}

-- ---- an operation that is done, over memory that may grow

pub standing_so : (Good : World → List Meant → Type 0) (Had : LlProgram → Numbers → (ℕ → Value) → Core → Ask → Found → Type 0) (blocks : ℕ) (known : Known) (around : Around) (o : RowOp) (covers : Covers) (asks : List Ask) (lowered : Writing) (place : Place) (args : List Operand) (w : Writing)
    → ((p : LlProgram) (numbers : Numbers) (raised : ℕ → Value) (core : Core) → HasAll p around.layout numbers raised core asks w.found → AllAsked (Had p numbers raised core) asks w.found)
    → objects.IsDoneWhere Good Had blocks known around o covers asks lowered place args w → IsDoneWhere Good blocks 0 known around o covers asks lowered place args w
standing_so Good Had blocks known around o covers asks lowered place args w had done = record {
  ops = done.ops;
  new = done.new;
  asked = done.asked;
  written = done.written;
  types = done.types;
  follows = λ p numbers raised arguments rest e frames core g world vs structs has stands left room inside below given good.
      follows_so known around place p arguments rest e frames raised world blocks (references world.heap vs + 0) (length w.body.types) (At (done.ops ++ rest) e frames core) core stands (meant_op known.program covers o vs world)
      (subst (λ k. objects.Follows blocks known around place p arguments (At (done.ops ++ rest) e frames core) rest e frames core g raised k (length w.body.types) world (meant_op known.program covers o vs world)) (let q : references world.heap vs ≡ references world.heap vs + 0 = omega arith in q)
      (done.follows p numbers raised arguments rest e frames core g world vs structs (had p numbers raised core has) stands left room inside below given good));
}

-- it may make and write more
pub at_most : {Good : World → List Meant → Type 0} {known : Known} {around : Around} {o : RowOp} {covers : Covers} {asks : List Ask} {lowered : Writing} {place : Place} {args : List Operand} {w : Writing} (blocks more count most : ℕ) → blocks ≤ count → more ≤ most
    → IsDoneWhere Good blocks more known around o covers asks lowered place args w → IsDoneWhere Good count most known around o covers asks lowered place args w
at_most {known = known} {around = around} {o = o} {covers = covers} {place = place} {w = w} blocks more count most few fits done = record {
  ops = done.ops;
  new = done.new;
  asked = done.asked;
  written = done.written;
  types = done.types;
  follows = λ p numbers raised arguments rest e frames core g world vs structs has stands left room inside below given good.
      then_follows known around place p arguments rest e frames raised world 0 0 (references world.heap vs + more) (references world.heap vs + most) blocks count (length w.body.types) (length w.body.types)
      (stays_here stands) (omega arith) (omega (arith, fits)) (omega (arith, few)) (meant_op known.program covers o vs world)
      (done.follows p numbers raised arguments rest e frames core g world vs structs has stands left room inside below given good);
}

-- ---- keys

keys_typed : {layout : Layout} {known : Known} {m : Mapping} → HasKeys layout known m → type_seen layout (known.keys m.dict) ≡ m.key
keys_typed {layout = layout} keys = ap (type_seen layout) keys.key_is ∙ keys.typed

-- a key stays a key
key_stays : {layout : Layout} {known : Known} {seen : Option Element} → AreKeys layout seen → Stays layout known seen seen
key_stays {seen = seen} (sorts.Plain p) = Plainly (Same (kind_seen seen) (plain_is_simple (kind_seen seen) p) refl refl)
key_stays (sorts.Items n parts apart is all) = Plainly (Whole n refl (ap kind_seen is.is) is.typed)

keys_stay : {layout : Layout} {known : Known} {m : Mapping} → HasKeys layout known m → Stays layout known (known.keys m.dict) (known.keys m.dict)
keys_stay {layout = layout} {known = known} keys = subst (λ seen. Stays layout known seen seen) (sym keys.key_is) (key_stays keys.are)

-- ---- both

module _ (known : Known) (around : Around) (a b : Operand) (n : ℕ) (m : Mapping) (is : IsAskedFor around known a b n m) (w : Writing) where
  abbrev pub w1 : Writing
  w1 = dict_written known around a w n m is.dict

  abbrev pub the_dict : Operand
  the_dict = dict known around a w n m is.dict

  abbrev pub w2 : Writing
  w2 = written_for around b (known.keys m.dict) w1

  abbrev pub the_key : Operand
  the_key = operand_as around b (known.keys m.dict) w1

  pub as_it_is : IsAskedAsItIs around known the_dict the_key n m
  as_it_is = record { dict = is_dict known around a w n m is.dict; keys = is.keys; stays = keys_stay is.keys }

  -- ---- what is written

  pub dict_first : there around a w ≡ (the_dict.x, w1)
  unfolding there
  dict_first = (r known around a w n m is.dict).written

  pub dict_again : there around the_dict w2 ≡ (the_dict.x, w2)
  unfolding there
  dict_again = ap (λ k. present around the_dict (of_dict_or_none k) w2) (c known around a w n m is.dict).kind_is

  abbrev stored : Writing → COperand × Writing
  stored w = stored_in m.key (shape_of m).stored_key (the_key.x, w)

  pub key_first : key_in around (shape_of m) b w1 ≡ stored w2
  unfolding key_in shape_of
  key_first = ap (λ t. stored_in m.key (shape_of m).stored_key (value_as around.layout b.x (type_of around b) t w1)) (sym (keys_typed is.keys))

  pub key_again : key_in around (shape_of m) the_key w2 ≡ stored w2
  unfolding key_in shape_of
  key_again = ap (stored_in m.key (shape_of m).stored_key) (same_value around the_key m.key w2 (keys_typed is.keys))

  pub entry_same : (graph : Keyed) → entry_in around (shape_of m) a b graph w ≡ entry_in around (shape_of m) the_dict the_key graph w2
  unfolding entry_in
  entry_same graph =
      ap (λ made. taking made (λ x next. taking (key_in around (shape_of m) b next) (λ k last. beside x (by_small (small.Keyed graph) type.Signed (x ∷ k ∷ []) last)))) dict_first
      ∙ ap (λ made. taking made (λ k last. beside the_dict.x (by_small (small.Keyed graph) type.Signed (the_dict.x ∷ k ∷ []) last))) (key_first ∙ sym key_again)
      ∙ ap (λ made. taking made (λ x next. taking (key_in around (shape_of m) the_key next) (λ k last. beside x (by_small (small.Keyed graph) type.Signed (x ∷ k ∷ []) last)))) (sym dict_again)

  pub shape_first : dict_of around a ≡ Some (shape_of m)
  unfolding dict_of
  shape_first = ap (dict_pointed around.layout) is.dict.typed ∙ ap shape_in is.dict.mapping

  pub shape_again : dict_of around the_dict ≡ Some (shape_of m)
  unfolding dict_of
  shape_again = ap (dict_pointed around.layout) as_it_is.dict.typed ∙ ap shape_in as_it_is.dict.mapping

  pub kind_sure : kind_of the_dict ≡ kind.Dict
  kind_sure = (c known around a w n m is.dict).kind_is

  -- ---- what is asked for

  pub none_asked : (covers : Covers) → there_asks around the_dict covers ≡ []
  none_asked covers = ap (λ k. if_missing (of_dict_or_none k) (type_of around the_dict) covers) (c known around a w n m is.dict).kind_is

  conversion : IsConverted (λ p. HasConversion p around.layout) known around.layout b.element (known.keys m.dict) (operand_asks around b (known.keys m.dict)) b.x w1
  conversion = values_are_converted known around.layout b.element (known.keys m.dict) b.x w1 is.apart is.goes

  pub same_covers : w2.found.covered ≡ w.found.covered
  same_covers = ap (λ (f : Found). f.covered) conversion.asked ∙ asks_cover (operand_asks around b (known.keys m.dict)) w1.found ∙ asks_cover (there_asks around a w.found.covered) w.found

  pub first_covers : w1.found.covered ≡ w.found.covered
  first_covers = asks_cover (there_asks around a w.found.covered) w.found

  -- ---- the operation

  -- as it is done of these
  pub as_before : (Good : World → List Meant → Type 0) (Had : LlProgram → Numbers → (ℕ → Value) → Core → Ask → Found → Type 0) (blocks : ℕ) (o : RowOp) (asks : List Ask) (lowered again : Writing) (place : Place) (args : List Operand) → lowered ≡ again
      → ((p : LlProgram) (numbers : Numbers) (raised : ℕ → Value) (core : Core) → HasAll p around.layout numbers raised core asks w2.found → AllAsked (Had p numbers raised core) asks w2.found)
      → objects.IsDoneWhere Good Had blocks known around o w2.found.covered (there_asks around the_dict w2.found.covered ++ asks) again place args w2 → IsDoneWhere Good blocks 0 known around o w.found.covered asks lowered place args w2
  as_before Good Had blocks o asks lowered again place args same had done =
      standing_so Good Had blocks known around o w.found.covered asks lowered place args w2 had
      (subst (λ l. objects.IsDoneWhere Good Had blocks known around o w.found.covered asks l place args w2) (sym same)
      (subst (λ c. objects.IsDoneWhere Good Had blocks known around o c asks again place args w2) same_covers
      (subst (λ more. objects.IsDoneWhere Good Had blocks known around o w2.found.covered (more ++ asks) again place args w2) (none_asked w2.found.covered) done)))

  module _ (Good : World → List Meant → Type 0) (blocks more : ℕ) (o : RowOp) (asks : List Ask) (lowered : Writing) (place : Place) where
    abbrev Fails : List Meant → Type 0
    Fails vs = (world : World) → meant_op known.program w.found.covered o vs world ≡ failure w.found.covered.attribute 9 fail.Attribute world

    -- where the dict comes first
    pub dict_comes_first : (behind : List Operand) → ((g : Ghost) (core : Core) (v : Meant) (vs : List Meant) → Given known around g core behind vs → Fails (Nothing ∷ v ∷ vs)) → IsDoneWhere Good blocks more known around o w.found.covered asks lowered place (the_dict ∷ the_key ∷ behind) w2
        → IsDoneWhere Good (key_blocks known m + blocks) (key_references known m + more) known around o w.found.covered (key_asks around known a b m w.found.covered asks) lowered place (a ∷ b ∷ behind) w
    unfolding one_of
    dict_comes_first behind fails done =
        dict_tested known around a w n m is.dict Good (key_blocks known m + blocks) (key_references known m + more) o (operand_asks around b (known.keys m.dict) ++ asks) lowered place [] (b ∷ behind) missing
        (operand_converted Good blocks more known around o w.found.covered asks lowered place (the_dict ∷ []) behind b (known.keys m.dict) w1 is.apart is.goes done)
      where
        missing : (g : Ghost) (core : Core) (world : World) (vs : List Meant) (given : Given known around g core (a ∷ b ∷ behind) vs) → (one_of known around g core [] (b ∷ behind) a vs given).value ≡ Nothing → meant_op known.program w.found.covered o vs world ≡ failure w.found.covered.attribute 9 fail.Attribute world
        missing g core world [] given none = absurd given
        missing g core world (u ∷ []) given none = absurd given.1
        missing g core world (u ∷ v ∷ vs) given none = ap (λ u. meant_op known.program w.found.covered o (u ∷ v ∷ vs) world) none ∙ fails g core v vs given.1.1 world

    -- where the key does
    pub key_comes_first : ((v : Meant) → Fails (v ∷ Nothing ∷ [])) → IsDoneWhere Good blocks more known around o w.found.covered asks lowered place (the_key ∷ the_dict ∷ []) w2
        → IsDoneWhere Good (key_blocks known m + blocks) (key_references known m + more) known around o w.found.covered (key_asks around known a b m w.found.covered asks) lowered place (b ∷ a ∷ []) w
    unfolding one_of
    key_comes_first fails done =
        dict_tested known around a w n m is.dict Good (key_blocks known m + blocks) (key_references known m + more) o (operand_asks around b (known.keys m.dict) ++ asks) lowered place (b ∷ []) [] missing
        (operand_converted Good blocks more known around o w.found.covered asks lowered place [] (the_dict ∷ []) b (known.keys m.dict) w1 is.apart is.goes done)
      where
        missing : (g : Ghost) (core : Core) (world : World) (vs : List Meant) (given : Given known around g core (b ∷ a ∷ []) vs) → (one_of known around g core (b ∷ []) [] a vs given).value ≡ Nothing → meant_op known.program w.found.covered o vs world ≡ failure w.found.covered.attribute 9 fail.Attribute world
        missing g core world [] given none = absurd given
        missing g core world (v ∷ []) given none = absurd given.1
        missing g core world (v ∷ u ∷ []) given none = ap (λ u. meant_op known.program w.found.covered o (v ∷ u ∷ []) world) none ∙ fails v world
        missing g core world (v ∷ u ∷ s ∷ vs) given none = absurd given.1.1
