-- The graph that lists tuples of the keys and the values of a dict gives them, as they stand or from words.
use Rattle.std.proofs.Common.{◌≡◌, ◌≤◌, ◌⊎◌, inl, inr, ℕ, ◌+◌, ◌-◌, ◌*◌, ◌&&◌, false, true, Bool, List, [], ◌∷◌, ◌++◌, length, Some, None, pos, refl, sym, ap, ◌∙◌, arith}
use Rattle.std.specs.Prelude.{slice_get, if◌then◌else◌, nat_lt, not}
use Rattle.csub_tree.specs.State.{Value, Unset, Word, Byte, Flag, Ptr, Core}
use Rattle.csub_tree.specs.Layout.{shape_at, shape_over}
use Rattle.csub_tree.specs.Operation.{is_unset, binary_of, unary_of}
use Rattle.csub_tree.specs.declared.tree.CBinary.TheVariants as binary
use Rattle.csub_tree.specs.declared.tree.CUnary.TheVariants as unary
use Rattle.csub_tree.specs.declared.tree.COperand.{COperand}
use Rattle.csub_tree.specs.declared.tree.COperand.TheVariants.{Var}
use Rattle.ll_code.specs.Machine.{shapes_of}
use Rattle.ll_code.specs.State.{Frame, Calling}
use Rattle.ll_code.specs.declared.program.LlType.{LlType}
use Rattle.ll_code.specs.declared.program.LlType.TheVariants as type
use Rattle.ll_code.specs.declared.program.LlOp.{LlOp}
use Rattle.ll_code.specs.declared.program.LlOp.TheVariants as op
use Rattle.ll_code.specs.declared.program.LlProgram.{LlProgram}
use Rattle.ll_build.specs.Build.{word as word_operand}
use Rattle.ll_leads.proofs.Ways.{on, enter, gives, turns}
use Rattle.ll_texts.specs.Texts.{found}
use Rattle.rtyper_layout.specs.declared.layout.Layout.{Layout}
use Rattle.rtyper_layout.specs.Dicts.{is_plain}
use Rattle.rtyper_layout.specs.Types.{word}
use Rattle.rtyper_data.specs.declared.found.Found.{Found}
use Rattle.rtyper_data.specs.declared.small.Listed.TheVariants.{Make}
use Rattle.list_shape.specs.Shapes.{number_of, shape_of}
use Rattle.list_loops.specs.Making.{make}
use Rattle.rtyper_dict.specs.declared.lists.Part.TheVariants as part
use Rattle.rtyper_dict.specs.declared.parts.DictShape.{DictShape}
use Rattle.rtyper_dict.specs.Listing.{list_blocks, list_graph, list_makes, list_over, list_reads, list_types, paid}
use Rattle.lower_laws.proofs.Doing.{same_type_is}
use Rattle.object_laws.specs.Dicts.{as_item, as_word, dict_block}
use Rattle.object_laws.proofs.Calling.{Returns}
use Rattle.dict_find_laws.proofs.Zipped.{Pairs, SetPair, There, as_ops, as_types, byte_key, byte_value, fetch, flag_key, flag_value, listed_blocks, same_pair, turned_key_ops, turned_key_types, turned_value_ops, turned_value_types, zipped, zipped_get, zipped_long}
use Rattle.dict_find_laws.proofs.Paired.{OnlyDict, Starts, all_paired, making, none_paired, pairs_lack}
use Rattle.ll_leads.specs.Memory.{forgotten}
use Rattle.std.proofs.lemmas.Bool.Decides.{nat_tests}
use Rattle.list_laws.proofs.Copying.{array_with}
use Rattle.object_laws.specs.Represents.{head_block}
use Rattle.dict_find_laws.proofs.Pairing.{Gets, Graph, Puts, pair_blocks, pointers}
use Rattle.dict_find_laws.proofs.Worth.{as_item_set}
use Rattle.dict_find_laws.proofs.Restored.{IsOf, byte_back, flag_back}

-- what is read of the arrays, as what it is
module _ (p : LlProgram) (args : List (List ℕ)) (layout : Layout) (l : ℕ) (d : DictShape) (t : ℕ) (last : Bool) (f : ℕ) (made : Found) (core : Core) (left : ℕ) (head one two : Value) (k places : ℕ) (xs us : List Value)
    (firsts : shape_at (shapes_of p.structs) d.first ≡ shape_over d.first 1 None) (seconds : shape_at (shapes_of p.structs) d.second ≡ shape_over d.second 1 None) (heads : shape_at (shapes_of p.structs) d.dict ≡ shape_over d.dict 4 None) (list_heads : shape_at (shapes_of p.structs) l ≡ shape_over l 2 None)
    (arrays : shape_at (shapes_of p.structs) (word (l + 1)) ≡ shape_over (word (l + 1)) 1 None) (tuples : shape_at (shapes_of p.structs) t ≡ shape_over t 2 None) (made_graph : slice_get p.graphs (number_of (Make l) made).0 ≡ Some (make (shape_of layout l)))
    (head_is : found core.blocks core.statics head ≡ Some (dict_block d.dict k places one two)) (steps : left ≡ core.steps) (keys_set : (j : ℕ) (x : Value) → slice_get xs j ≡ Some x → is_unset x ≡ false) (values_set : (j : ℕ) (u : Value) → slice_get us j ≡ Some u → is_unset u ≡ false) (keys_long : length xs ≡ k) (values_long : length us ≡ k) where
  abbrev makes : ℕ
  makes = (number_of (Make l) made).0

  abbrev zs : List (Value × Value)
  zs = zipped xs us

  abbrev paid_now : ℕ
  paid_now = left - (1 + 2 * k)

  zs_long : length zs ≡ k
  zs_long = zipped_long xs us (keys_long ∙ sym values_long) ∙ keys_long

  both_set : (j : ℕ) (z : Value × Value) → slice_get zs j ≡ Some z → (is_unset z.0 ≡ false) × (is_unset z.1 ≡ false)
  both_set j z h = (let q = zipped_get xs us j z h in (keys_set j z.0 q.0, values_set j z.1 q.1))

  no_pairs : (zs : List (Value × Value)) → length zs ≡ 0 → [] ≡ pair_blocks t zs
  no_pairs [] h = refl
  no_pairs (z ∷ zs) h = absurd (omega (arith, h))

  module _ (key_item key value_item value : LlType) (m_ops : List LlOp) (yk yv : COperand) (tv : ℕ) (types : List LlType) (Rest : Type 0) (rest_of : Rest → List Value) (put : Rest → Value → Rest) (begun : Rest)
      (graph : Graph p args f makes d (shape_of layout l) t m_ops yk yv tv types core paid_now head one two k 0 Rest rest_of put)
      (starts : Starts p args layout f makes l d t m_ops yk yv tv types core left head one two k places Rest rest_of put begun)
      (only : OnlyDict p args layout f makes l d t m_ops yk yv tv types core left head one two k places Rest rest_of put begun (op.Step (word_operand (pos 1)) ∷ op.Step (Var 1) ∷ op.Step (Var 1) ∷ making p args layout f makes l d t m_ops yk yv tv types core left head one two k places Rest rest_of put begun))
      (only2 : OnlyDict p args layout f makes l d t m_ops yk yv tv types core left head one two k places Rest rest_of put begun (op.Step (Var 1) ∷ op.Step (Var 1) ∷ making p args layout f makes l d t m_ops yk yv tv types core left head one two k places Rest rest_of put begun))
      (only3 : OnlyDict p args layout f makes l d t m_ops yk yv tv types core left head one two k places Rest rest_of put begun (op.Step (Var 1) ∷ making p args layout f makes l d t m_ops yk yv tv types core left head one two k places Rest rest_of put begun))
      (puts : (size : ℕ) → Puts p args f makes d (shape_of layout l) t m_ops yk yv tv types core paid_now head one two k size Rest rest_of put)
      (gets : (there : There p args layout l d t last f made core left head one two k places key_item key value_item value xs us) → Gets p args f makes d (shape_of layout l) t m_ops yk yv tv types core paid_now head one two k (length there.index) Rest rest_of put zs) where
    pairs_by : (k ≡ 0) ⊎ There p args layout l d t last f made core left head one two k places key_item key value_item value xs us → Pairs p args layout l d t last f made core left head one two k places key_item key value_item value xs us
    pairs_by where_so = (
      pairs_lack p args layout f makes l d t m_ops yk yv tv types core left head one two k places Rest rest_of put begun starts only only2 only3 heads head_is steps,
      λ enough waits. by where_so enough waits,
    )
      where
        none_so : k ≡ 0 → 1 + 2 * k ≤ left → (waits : List Frame) → Returns p args (3 * k + 1) (Calling f (head ∷ []) waits core) (Ptr (length core.blocks + 1)) waits (record core { blocks = listed_blocks p args layout l d t last f made core left head one two k places key_item key value_item value xs us; steps = paid_now })
        none_so none enough waits =
            let it = none_paired p args layout f makes l d t m_ops yk yv tv types core left head one two k places Rest rest_of put begun starts only only2 only3 heads head_is steps enough graph list_heads arrays made_graph none waits in
            record {
              end = it.end;
              same = it.same ∙ ap (λ items. forgotten (record core { blocks = core.blocks ++ Some (array_with (word (l + 1)) (Word (pos k) ∷ []) items) ∷ Some (head_block l k (Ptr (length core.blocks))) ∷ []; steps = paid_now })) (ap (pointers (length core.blocks) 0) (sym none))
                  ∙ ap (λ ts. forgotten (record core { blocks = core.blocks ++ Some (array_with (word (l + 1)) (Word (pos k) ∷ []) (pointers (length core.blocks) 0 k)) ∷ Some (head_block l k (Ptr (length core.blocks))) ∷ ts; steps = paid_now })) (no_pairs zs (zs_long ∙ none));
              leads = it.leads;
            }

        by : (k ≡ 0) ⊎ There p args layout l d t last f made core left head one two k places key_item key value_item value xs us → 1 + 2 * k ≤ left → (waits : List Frame)
            → Returns p args (3 * k + 1) (Calling f (head ∷ []) waits core) (Ptr (length core.blocks + 1)) waits (record core { blocks = listed_blocks p args layout l d t last f made core left head one two k places key_item key value_item value xs us; steps = paid_now })
        by (inl none) enough waits = none_so none enough waits
        by (inr there) enough waits = or_none (nat_lt 0 k) refl
          where
            or_none : (c : Bool) → nat_lt 0 k ≡ c → Returns p args (3 * k + 1) (Calling f (head ∷ []) waits core) (Ptr (length core.blocks + 1)) waits (record core { blocks = listed_blocks p args layout l d t last f made core left head one two k places key_item key value_item value xs us; steps = paid_now })
            or_none true h =
                let it = all_paired p args layout f makes l d t m_ops yk yv tv types core left head one two k places Rest rest_of put begun starts only only2 only3 heads head_is steps enough graph list_heads arrays made_graph (grind (arith, nat_tests, h)) (length there.index) there.items there.items_long there.fits there.enough there.one_set seconds there.second_is tuples zs zs_long
                (gets there) (puts (length there.index)) both_set waits in
                record {
                  end = it.end;
                  same = it.same ∙ ap (λ n. forgotten (record core { blocks = core.blocks ++ Some (array_with (word (l + 1)) (Word (pos k) ∷ []) (pointers (length core.blocks) 0 n)) ∷ Some (head_block l k (Ptr (length core.blocks))) ∷ pair_blocks t zs; steps = paid_now })) zs_long;
                  leads = it.leads;
                }
            or_none false h = none_so (grind (arith, nat_tests, h)) enough waits

  -- variables behind the first so many
  abbrev Three : Type 0
  Three = Value × Value × Value

  abbrev three : Three → List Value
  three r = r.0 ∷ r.1 ∷ r.2 ∷ []

  abbrev put3 : Three → Value → Three
  put3 r y = (r.0, r.1, y)

  abbrev Four : Type 0
  Four = Value × Value × Value × Value

  abbrev four : Four → List Value
  four r = r.0 ∷ r.1 ∷ r.2 ∷ r.3 ∷ []

  abbrev put4 : Four → Value → Four
  put4 r y = (r.0, r.1, r.2, y)

  abbrev pub GraphFor : LlType → LlType → LlType → LlType → Type 0
  GraphFor key_item key value_item value = slice_get p.graphs f ≡ Some (list_over part.Both d (shape_of layout l) (SetPair layout l d t made last key_item key key value_item value value)).0

  abbrev pub Answer : LlType → LlType → LlType → LlType → Type 0
  Answer key_item key value_item value = (k ≡ 0) ⊎ There p args layout l d t last f made core left head one two k places key_item key value_item value xs us → Pairs p args layout l d t last f made core left head one two k places key_item key value_item value xs us

  kept_same : (t : LlType) (x : Value) → as_item t t x ≡ x
  kept_same t x = ap (λ b. if b then x else as_word x) (same_type_is t)

  abbrev pub AllOf : LlType → List Value → Type 0
  AllOf t ys = (j : ℕ) (x : Value) → slice_get ys j ≡ Some x → IsOf t x

  -- as they stand
  same_pairs : (key value : LlType) → GraphFor key key value value → Answer key key value value
  unfolding list_graph list_blocks list_makes list_types list_reads paid
  same_pairs key value graph = pairs_by key key value value (as_ops layout l d t made last key value) (Var 13) (Var 14) 15 (as_types layout l d t made last key value) Three three put3 (Unset, Unset, Unset) graph_is (λ waits. enter graph_is refl) (λ waits b h. h) (λ waits b h. h) (λ waits b h. h) (λ size j r y. (refl, refl))
      (λ there j z h r at items ts ops e waits. (let q = zipped_get xs us j z h in record { rest = (as_item key key z.0, as_item value value z.1, r.rest.2); place = 4; way = on (fetch p args layout l d t last f made core left head one two k places key key value value xs us firsts seconds last 13 (λ x. as_item key key x) xs there.spare_keys there.index there.keys_in _ 2 j z.0 q.0 (as_item_set key key z.0 (keys_set j z.0 q.0)) _ refl refl at refl paid_now _ e waits) (fetch p args layout l d t last f made core left head one two k places key key value value xs us firsts seconds (not last) 14 (λ x. as_item value value x) us there.spare_values there.index there.values_in _ 3 j z.1 q.1 (as_item_set value value z.1 (values_set j z.1 q.1)) _ refl refl at refl paid_now _ e waits); key = λ y. kept_same key z.0; value = λ y. kept_same value z.1 }))
    where
      graph_is : Graph p args f makes d (shape_of layout l) t (as_ops layout l d t made last key value) (Var 13) (Var 14) 15 (as_types layout l d t made last key value) core paid_now head one two k 0 Three three put3
      graph_is = graph ∙ ap (λ w. Some (list_over part.Both d (shape_of layout l) w).0) (same_pair layout l d t made last key value)

  -- keys that are truth values, from words
  flag_key_pairs : (value : LlType) → AllOf type.Bool xs → GraphFor type.Signed type.Bool value value → Answer type.Signed type.Bool value value
  unfolding list_graph list_blocks list_makes list_types list_reads paid
  flag_key_pairs value of_all graph = pairs_by type.Signed type.Bool value value (turned_key_ops layout l d t made last value (op.Binary 14 binary.Ne (Var 13) (word_operand (pos 0)))) (Var 14) (Var 15) 16 (turned_key_types layout l d t made last value type.Bool) Four four put4 (Unset, Unset, Unset, Unset) graph_is (λ waits. enter graph_is refl) (λ waits b h. h) (λ waits b h. h) (λ waits b h. h) (λ size j r y. (refl, refl))
      (λ there j z h r at items ts ops e waits. (let q = zipped_get xs us j z h in (let it = (of_all j z.0 q.0).flags refl in record { rest = (as_item type.Bool type.Signed z.0, Flag it.0, as_item value value z.1, r.rest.3); place = 5; way = on (fetch p args layout l d t last f made core left head one two k places type.Signed type.Bool value value xs us firsts seconds last 13 (λ x. as_item type.Bool type.Signed x) xs there.spare_keys there.index there.keys_in _ 2 j z.0 q.0 (as_item_set type.Bool type.Signed z.0 (keys_set j z.0 q.0)) _ refl refl at refl paid_now _ e waits) (on (gives (Flag it.0) (ap (λ x. binary_of binary.Ne (as_item type.Bool type.Signed x) (Word (pos 0))) it.1 ∙ flag_back it.0)) (fetch p args layout l d t last f made core left head one two k places type.Signed type.Bool value value xs us firsts seconds (not last) 15 (λ x. as_item value value x) us there.spare_values there.index there.values_in _ 4 j z.1 q.1 (as_item_set value value z.1 (values_set j z.1 q.1)) _ refl refl at refl paid_now _ e waits)); key = λ y. sym it.1; value = λ y. kept_same value z.1 })))
    where
      graph_is : Graph p args f makes d (shape_of layout l) t (turned_key_ops layout l d t made last value (op.Binary 14 binary.Ne (Var 13) (word_operand (pos 0)))) (Var 14) (Var 15) 16 (turned_key_types layout l d t made last value type.Bool) core paid_now head one two k 0 Four four put4
      graph_is = graph ∙ ap (λ w. Some (list_over part.Both d (shape_of layout l) w).0) (flag_key layout l d t made last value)

  -- keys that are bytes, from words
  byte_key_pairs : (value : LlType) → AllOf type.Char xs → GraphFor type.Signed type.Char value value → Answer type.Signed type.Char value value
  unfolding list_graph list_blocks list_makes list_types list_reads paid
  byte_key_pairs value of_all graph = pairs_by type.Signed type.Char value value (turned_key_ops layout l d t made last value (op.Unary 14 unary.S2C (Var 13))) (Var 14) (Var 15) 16 (turned_key_types layout l d t made last value type.Char) Four four put4 (Unset, Unset, Unset, Unset) graph_is (λ waits. enter graph_is refl) (λ waits b h. h) (λ waits b h. h) (λ waits b h. h) (λ size j r y. (refl, refl))
      (λ there j z h r at items ts ops e waits. (let q = zipped_get xs us j z h in (let it = (of_all j z.0 q.0).bytes refl in record { rest = (as_item type.Char type.Signed z.0, Byte it.0, as_item value value z.1, r.rest.3); place = 5; way = on (fetch p args layout l d t last f made core left head one two k places type.Signed type.Char value value xs us firsts seconds last 13 (λ x. as_item type.Char type.Signed x) xs there.spare_keys there.index there.keys_in _ 2 j z.0 q.0 (as_item_set type.Char type.Signed z.0 (keys_set j z.0 q.0)) _ refl refl at refl paid_now _ e waits) (on (turns (Byte it.0) (ap (λ x. unary_of unary.S2C (as_item type.Char type.Signed x)) it.2 ∙ byte_back it.0 it.1)) (fetch p args layout l d t last f made core left head one two k places type.Signed type.Char value value xs us firsts seconds (not last) 15 (λ x. as_item value value x) us there.spare_values there.index there.values_in _ 4 j z.1 q.1 (as_item_set value value z.1 (values_set j z.1 q.1)) _ refl refl at refl paid_now _ e waits)); key = λ y. sym it.2; value = λ y. kept_same value z.1 })))
    where
      graph_is : Graph p args f makes d (shape_of layout l) t (turned_key_ops layout l d t made last value (op.Unary 14 unary.S2C (Var 13))) (Var 14) (Var 15) 16 (turned_key_types layout l d t made last value type.Char) core paid_now head one two k 0 Four four put4
      graph_is = graph ∙ ap (λ w. Some (list_over part.Both d (shape_of layout l) w).0) (byte_key layout l d t made last value)

  -- values that are truth values, from words
  flag_value_pairs : (key : LlType) → AllOf type.Bool us → GraphFor key key type.Signed type.Bool → Answer key key type.Signed type.Bool
  unfolding list_graph list_blocks list_makes list_types list_reads paid
  flag_value_pairs key of_all graph = pairs_by key key type.Signed type.Bool (turned_value_ops layout l d t made last key (op.Binary 15 binary.Ne (Var 14) (word_operand (pos 0)))) (Var 13) (Var 15) 16 (turned_value_types layout l d t made last key type.Bool) Four four put4 (Unset, Unset, Unset, Unset) graph_is (λ waits. enter graph_is refl) (λ waits b h. h) (λ waits b h. h) (λ waits b h. h) (λ size j r y. (refl, refl))
      (λ there j z h r at items ts ops e waits. (let q = zipped_get xs us j z h in (let it = (of_all j z.1 q.1).flags refl in record { rest = (as_item key key z.0, as_item type.Bool type.Signed z.1, Flag it.0, r.rest.3); place = 5; way = on (fetch p args layout l d t last f made core left head one two k places key key type.Signed type.Bool xs us firsts seconds last 13 (λ x. as_item key key x) xs there.spare_keys there.index there.keys_in _ 2 j z.0 q.0 (as_item_set key key z.0 (keys_set j z.0 q.0)) _ refl refl at refl paid_now _ e waits) (on (fetch p args layout l d t last f made core left head one two k places key key type.Signed type.Bool xs us firsts seconds (not last) 14 (λ x. as_item type.Bool type.Signed x) us there.spare_values there.index there.values_in _ 3 j z.1 q.1 (as_item_set type.Bool type.Signed z.1 (values_set j z.1 q.1)) _ refl refl at refl paid_now _ e waits) (gives (Flag it.0) (ap (λ x. binary_of binary.Ne (as_item type.Bool type.Signed x) (Word (pos 0))) it.1 ∙ flag_back it.0))); key = λ y. kept_same key z.0; value = λ y. sym it.1 })))
    where
      graph_is : Graph p args f makes d (shape_of layout l) t (turned_value_ops layout l d t made last key (op.Binary 15 binary.Ne (Var 14) (word_operand (pos 0)))) (Var 13) (Var 15) 16 (turned_value_types layout l d t made last key type.Bool) core paid_now head one two k 0 Four four put4
      graph_is = graph ∙ ap (λ w. Some (list_over part.Both d (shape_of layout l) w).0) (flag_value layout l d t made last key)

  -- values that are bytes, from words
  byte_value_pairs : (key : LlType) → AllOf type.Char us → GraphFor key key type.Signed type.Char → Answer key key type.Signed type.Char
  unfolding list_graph list_blocks list_makes list_types list_reads paid
  byte_value_pairs key of_all graph = pairs_by key key type.Signed type.Char (turned_value_ops layout l d t made last key (op.Unary 15 unary.S2C (Var 14))) (Var 13) (Var 15) 16 (turned_value_types layout l d t made last key type.Char) Four four put4 (Unset, Unset, Unset, Unset) graph_is (λ waits. enter graph_is refl) (λ waits b h. h) (λ waits b h. h) (λ waits b h. h) (λ size j r y. (refl, refl))
      (λ there j z h r at items ts ops e waits. (let q = zipped_get xs us j z h in (let it = (of_all j z.1 q.1).bytes refl in record { rest = (as_item key key z.0, as_item type.Char type.Signed z.1, Byte it.0, r.rest.3); place = 5; way = on (fetch p args layout l d t last f made core left head one two k places key key type.Signed type.Char xs us firsts seconds last 13 (λ x. as_item key key x) xs there.spare_keys there.index there.keys_in _ 2 j z.0 q.0 (as_item_set key key z.0 (keys_set j z.0 q.0)) _ refl refl at refl paid_now _ e waits) (on (fetch p args layout l d t last f made core left head one two k places key key type.Signed type.Char xs us firsts seconds (not last) 14 (λ x. as_item type.Char type.Signed x) us there.spare_values there.index there.values_in _ 3 j z.1 q.1 (as_item_set type.Char type.Signed z.1 (values_set j z.1 q.1)) _ refl refl at refl paid_now _ e waits) (turns (Byte it.0) (ap (λ x. unary_of unary.S2C (as_item type.Char type.Signed x)) it.2 ∙ byte_back it.0 it.1))); key = λ y. kept_same key z.0; value = λ y. sym it.2 })))
    where
      graph_is : Graph p args f makes d (shape_of layout l) t (turned_value_ops layout l d t made last key (op.Unary 15 unary.S2C (Var 14))) (Var 13) (Var 15) 16 (turned_value_types layout l d t made last key type.Char) core paid_now head one two k 0 Four four put4
      graph_is = graph ∙ ap (λ w. Some (list_over part.Both d (shape_of layout l) w).0) (byte_value layout l d t made last key)

  keys_from_words : (key value : LlType) → is_plain key ≡ true → AllOf key xs → GraphFor type.Signed key value value → Answer type.Signed key value value
  keys_from_words type.Signed value h of_all graph = same_pairs type.Signed value graph
  keys_from_words type.Bool value h of_all graph = flag_key_pairs value of_all graph
  keys_from_words type.Char value h of_all graph = byte_key_pairs value of_all graph
  keys_from_words type.Void value h of_all graph = absurd (cc)
  keys_from_words type.Fn value h of_all graph = absurd (cc)
  keys_from_words (type.Ptr n) value h of_all graph = absurd (cc)

  values_from_words : (key value : LlType) → is_plain value ≡ true → AllOf value us → GraphFor key key type.Signed value → Answer key key type.Signed value
  values_from_words key type.Signed h of_all graph = same_pairs key type.Signed graph
  values_from_words key type.Bool h of_all graph = flag_value_pairs key of_all graph
  values_from_words key type.Char h of_all graph = byte_value_pairs key of_all graph
  values_from_words key type.Void h of_all graph = absurd (cc)
  values_from_words key type.Fn h of_all graph = absurd (cc)
  values_from_words key (type.Ptr n) h of_all graph = absurd (cc)

  -- keys as words, values as words, or neither
  pub pairs_all : (b c : Bool) (key value : LlType) → (b ≡ true → is_plain key ≡ true) → (c ≡ true → is_plain value ≡ true) → AllOf key xs → AllOf value us → GraphFor (if b then type.Signed else key) key (if not b && c then type.Signed else value) value → Answer (if b then type.Signed else key) key (if not b && c then type.Signed else value) value
  pairs_all true c key value h q all_keys all_values graph = keys_from_words key value (h refl) all_keys graph
  pairs_all false true key value h q all_keys all_values graph = values_from_words key value (q refl) all_values graph
  pairs_all false false key value h q all_keys all_values graph = same_pairs key value graph
