-- What the graph is that lists tuples of the keys and the values of a dict, and that it gives them.
use Rattle.std.proofs.Common.{◌≡◌, ◌<◌, ◌≤◌, ℕ, zero, suc, ◌+◌, ◌-◌, ◌*◌, ◌^◌, false, true, Bool, List, [], ◌∷◌, ◌++◌, length, map, Option, Some, None, pos, refl, ap, ◌∙◌, arith, length-append}
use Rattle.std.specs.Prelude.{slice_get, slice_set, if◌then◌else◌, not}
use Rattle.std.proofs.lemmas.List.{length-map}
use Rattle.csub_tree.specs.State.{Value, Word, Ptr, Block, Core}
use Rattle.csub_tree.specs.Layout.{shape_at, shape_over}
use Rattle.csub_tree.specs.Operation.{is_unset}
use Rattle.csub_tree.specs.Statement.{read as read_var}
use Rattle.csub_tree.specs.declared.tree.CBinary.TheVariants as binary
use Rattle.csub_tree.specs.declared.tree.CUnary.TheVariants as unary
use Rattle.csub_tree.specs.declared.tree.COperand.{COperand}
use Rattle.csub_tree.specs.declared.tree.COperand.TheVariants.{Var}
use Rattle.ll_code.specs.Machine.{shapes_of}
use Rattle.ll_code.specs.State.{Frame, Calling, At}
use Rattle.ll_code.specs.declared.program.LlType.{LlType}
use Rattle.ll_code.specs.declared.program.LlType.TheVariants as type
use Rattle.ll_code.specs.declared.program.LlOp.{LlOp}
use Rattle.ll_code.specs.declared.program.LlOp.TheVariants as op
use Rattle.ll_code.specs.declared.program.LlExit.{LlExit}
use Rattle.ll_code.specs.declared.program.LlProgram.{LlProgram}
use Rattle.ll_build.specs.Build.{word as word_operand}
use Rattle.ll_leads.specs.Path.{Leads}
use Rattle.ll_texts.specs.Follows.{Lacked}
use Rattle.ll_texts.specs.Texts.{found}
use Rattle.ll_texts.proofs.Reading.{below_length}
use Rattle.rtyper_layout.specs.declared.layout.Layout.{Layout}
use Rattle.rtyper_layout.specs.Types.{word}
use Rattle.rtyper_data.specs.declared.body.Body.{Body}
use Rattle.rtyper_data.specs.declared.found.Found.{Found}
use Rattle.rtyper_data.specs.declared.small.Listed.TheVariants.{Make}
use Rattle.rtyper_data.specs.Seen.{Writing, writing}
use Rattle.list_shape.specs.Shapes.{number_of, shape_of, taking}
use Rattle.rtyper_dict.specs.declared.parts.DictShape.{DictShape}
use Rattle.rtyper_dict.specs.Listing.{array_item, asking as asking_for, list_reads, list_types, read, read_as, set_in, tuple_of}
use Rattle.rtyper_dict.specs.Parts.{from_word, unstored}
use Rattle.lower_laws.proofs.Doing.{same_type_is}
use Rattle.object_laws.specs.Dicts.{as_item, index_values, items_block}
use Rattle.object_laws.proofs.Blocks.{reads_item}
use Rattle.object_laws.proofs.Calling.{Returns}
use Rattle.object_laws.proofs.Made.{found_more}
use Rattle.dict_find_laws.proofs.Got.{value_as_it_is}
use Rattle.dict_find_laws.proofs.Columns.{read_stored}
use Rattle.list_laws.proofs.Copying.{array_with}
use Rattle.object_laws.specs.Represents.{head_block}
use Rattle.dict_find_laws.proofs.Pairing.{pair_blocks, pointers}
use Rattle.dict_find_laws.proofs.Probing.{read_behind}
use Rattle.dict_find_laws.proofs.Read.{same_some}

-- ---- what is written

module _ (layout : Layout) (l : ℕ) (d : DictShape) (t : ℕ) (made : Found) where
  abbrev begun_body : Body
  begun_body = record { types = list_types d (shape_of layout l); ops = list_reads }

  -- a key of the one type as one of the other, and a value
  abbrev pub SetPair : Bool → LlType → LlType → LlType → LlType → LlType → LlType → Writing
  SetPair last key_item key key_to value_item value value_to =
      set_in (shape_of layout l) (taking (read_as layout key key_to made (read last key_item key d begun_body)) (λ k next. taking (read_as layout value value_to next.found (read (not last) value_item value d next.body)) (λ v last. asking_for last.found (tuple_of t k v last.body))))

  abbrev pub ends_with : ℕ → COperand → COperand → List LlOp
  ends_with tv yk yv = op.New tv t t ∷ op.SetField t tv 0 yk ∷ op.SetField t tv 1 yv ∷ op.SetItem (word (l + 1)) 3 (Var 4) (Var tv) ∷ []

  -- neither is turned
  module _ (last : Bool) (key value : LlType) where
    abbrev pub as_types : List LlType
    as_types = ((list_types d (shape_of layout l) ++ key ∷ []) ++ value ∷ []) ++ type.Ptr t ∷ []

    abbrev pub as_ops : List LlOp
    as_ops = array_item last d 13 ∷ array_item (not last) d 14 ∷ []

    pub same_pair : SetPair last key key key value value value ≡ writing made (record { types = as_types; ops = list_reads ++ (as_ops ++ ends_with 15 (Var 13) (Var 14)) })
    unfolding read unstored list_types list_reads tuple_of
    same_pair = ap (λ b. goes (if b then (Var 13, one) else from_word key (Var 13) one)) (same_type_is key)
        ∙ ap goes_on (value_as_it_is layout (Var 13) key key (writing made one) refl)
        ∙ ap (λ b. ends (if b then (Var 14, two_read) else from_word value (Var 14) two_read)) (same_type_is value)
        ∙ ap last_of (value_as_it_is layout (Var 14) value value (writing made two_read) refl)
      where
        one : Body
        one = record { types = list_types d (shape_of layout l) ++ key ∷ []; ops = list_reads ++ array_item last d 13 ∷ [] }

        two_read : Body
        two_read = record { types = (list_types d (shape_of layout l) ++ key ∷ []) ++ value ∷ []; ops = (list_reads ++ array_item last d 13 ∷ []) ++ array_item (not last) d 14 ∷ [] }

        last_of : COperand × Writing → Writing
        last_of made = set_in (shape_of layout l) (taking made (λ v last. asking_for last.found (tuple_of t (Var 13) v last.body)))

        ends : COperand × Body → Writing
        ends x = last_of (read_as layout value value made x)

        goes_on : COperand × Writing → Writing
        goes_on made = set_in (shape_of layout l) (taking made (λ k next. taking (read_as layout value value next.found (read (not last) value value d next.body)) (λ v last. asking_for last.found (tuple_of t k v last.body))))

        goes : COperand × Body → Writing
        goes x = goes_on (read_as layout key key made x)

  -- once the value is there, and once the key is
  abbrev last_of : COperand → COperand × Writing → Writing
  last_of k made = set_in (shape_of layout l) (taking made (λ v last. asking_for last.found (tuple_of t k v last.body)))

  abbrev from_key : Bool → LlType → LlType → COperand × Writing → Writing
  from_key last item value made = set_in (shape_of layout l) (taking made (λ k next. taking (read_as layout value value next.found (read (not last) item value d next.body)) (λ v last. asking_for last.found (tuple_of t k v last.body))))

  module _ (last : Bool) (value : LlType) where
    abbrev pub turned_key_types : LlType → List LlType
    turned_key_types key = (((list_types d (shape_of layout l) ++ type.Signed ∷ []) ++ key ∷ []) ++ value ∷ []) ++ type.Ptr t ∷ []

    abbrev pub turned_key_ops : LlOp → List LlOp
    turned_key_ops turn = array_item last d 13 ∷ turn ∷ array_item (not last) d 15 ∷ []

    abbrev key_body : LlType → LlOp → Body
    key_body key turn = record { types = (list_types d (shape_of layout l) ++ type.Signed ∷ []) ++ key ∷ []; ops = (list_reads ++ array_item last d 13 ∷ []) ++ turn ∷ [] }

    abbrev value_body : LlType → LlOp → Body
    value_body key turn = record { types = ((list_types d (shape_of layout l) ++ type.Signed ∷ []) ++ key ∷ []) ++ value ∷ []; ops = ((list_reads ++ array_item last d 13 ∷ []) ++ turn ∷ []) ++ array_item (not last) d 15 ∷ [] }

    pub flag_key : SetPair last type.Signed type.Bool type.Bool value value value ≡ writing made (record { types = turned_key_types type.Bool; ops = list_reads ++ (turned_key_ops (op.Binary 14 binary.Ne (Var 13) (word_operand (pos 0))) ++ ends_with 16 (Var 14) (Var 15)) })
    unfolding read unstored list_types list_reads tuple_of
    flag_key = ap (from_key last value value) (value_as_it_is layout (Var 14) type.Bool type.Bool (writing made (key_body type.Bool (op.Binary 14 binary.Ne (Var 13) (word_operand (pos 0))))) refl)
        ∙ ap (λ b. last_of (Var 14) (read_as layout value value made (if b then (Var 15, value_body type.Bool (op.Binary 14 binary.Ne (Var 13) (word_operand (pos 0)))) else from_word value (Var 15) (value_body type.Bool (op.Binary 14 binary.Ne (Var 13) (word_operand (pos 0))))))) (same_type_is value)
        ∙ ap (last_of (Var 14)) (value_as_it_is layout (Var 15) value value (writing made (value_body type.Bool (op.Binary 14 binary.Ne (Var 13) (word_operand (pos 0))))) refl)

    pub byte_key : SetPair last type.Signed type.Char type.Char value value value ≡ writing made (record { types = turned_key_types type.Char; ops = list_reads ++ (turned_key_ops (op.Unary 14 unary.S2C (Var 13)) ++ ends_with 16 (Var 14) (Var 15)) })
    unfolding read unstored list_types list_reads tuple_of
    byte_key = ap (from_key last value value) (value_as_it_is layout (Var 14) type.Char type.Char (writing made (key_body type.Char (op.Unary 14 unary.S2C (Var 13)))) refl)
        ∙ ap (λ b. last_of (Var 14) (read_as layout value value made (if b then (Var 15, value_body type.Char (op.Unary 14 unary.S2C (Var 13))) else from_word value (Var 15) (value_body type.Char (op.Unary 14 unary.S2C (Var 13)))))) (same_type_is value)
        ∙ ap (last_of (Var 14)) (value_as_it_is layout (Var 15) value value (writing made (value_body type.Char (op.Unary 14 unary.S2C (Var 13)))) refl)

  module _ (last : Bool) (key : LlType) where
    abbrev pub turned_value_types : LlType → List LlType
    turned_value_types value = (((list_types d (shape_of layout l) ++ key ∷ []) ++ type.Signed ∷ []) ++ value ∷ []) ++ type.Ptr t ∷ []

    abbrev pub turned_value_ops : LlOp → List LlOp
    turned_value_ops turn = array_item last d 13 ∷ array_item (not last) d 14 ∷ turn ∷ []

    abbrev first_body : Body
    first_body = record { types = list_types d (shape_of layout l) ++ key ∷ []; ops = list_reads ++ array_item last d 13 ∷ [] }

    abbrev whole_body : LlType → LlOp → Body
    whole_body value turn = record { types = ((list_types d (shape_of layout l) ++ key ∷ []) ++ type.Signed ∷ []) ++ value ∷ []; ops = ((list_reads ++ array_item last d 13 ∷ []) ++ array_item (not last) d 14 ∷ []) ++ turn ∷ [] }

    pub flag_value : SetPair last key key key type.Signed type.Bool type.Bool ≡ writing made (record { types = turned_value_types type.Bool; ops = list_reads ++ (turned_value_ops (op.Binary 15 binary.Ne (Var 14) (word_operand (pos 0))) ++ ends_with 16 (Var 13) (Var 15)) })
    unfolding read unstored list_types list_reads tuple_of
    flag_value = ap (λ b. from_key last type.Signed type.Bool (read_as layout key key made (if b then (Var 13, first_body) else from_word key (Var 13) first_body))) (same_type_is key)
        ∙ ap (from_key last type.Signed type.Bool) (value_as_it_is layout (Var 13) key key (writing made first_body) refl)
        ∙ ap (last_of (Var 13)) (value_as_it_is layout (Var 15) type.Bool type.Bool (writing made (whole_body type.Bool (op.Binary 15 binary.Ne (Var 14) (word_operand (pos 0))))) refl)

    pub byte_value : SetPair last key key key type.Signed type.Char type.Char ≡ writing made (record { types = turned_value_types type.Char; ops = list_reads ++ (turned_value_ops (op.Unary 15 unary.S2C (Var 14)) ++ ends_with 16 (Var 13) (Var 15)) })
    unfolding read unstored list_types list_reads tuple_of
    byte_value = ap (λ b. from_key last type.Signed type.Char (read_as layout key key made (if b then (Var 13, first_body) else from_word key (Var 13) first_body))) (same_type_is key)
        ∙ ap (from_key last type.Signed type.Char) (value_as_it_is layout (Var 13) key key (writing made first_body) refl)
        ∙ ap (last_of (Var 13)) (value_as_it_is layout (Var 15) type.Char type.Char (writing made (whole_body type.Char (op.Unary 15 unary.S2C (Var 14)))) refl)

-- ---- keys beside values

abbrev pub zipped : List Value → List Value → List (Value × Value)
zipped [] us = []
zipped (x ∷ xs) [] = []
zipped (x ∷ xs) (u ∷ us) = (x, u) ∷ zipped xs us

pub zipped_long : (xs us : List Value) → length xs ≡ length us → length (zipped xs us) ≡ length xs
zipped_long [] us h = refl
zipped_long (x ∷ xs) [] h = absurd (omega (arith, h))
zipped_long (x ∷ xs) (u ∷ us) h = ap suc (zipped_long xs us (omega (arith, h)))

pub zipped_get : (xs us : List Value) (j : ℕ) (z : Value × Value) → slice_get (zipped xs us) j ≡ Some z → (slice_get xs j ≡ Some z.0) × (slice_get us j ≡ Some z.1)
zipped_get [] us j z h = absurd (cc)
zipped_get (x ∷ xs) [] j z h = absurd (cc)
zipped_get (x ∷ xs) (u ∷ us) zero z h = (let q : (x, u) ≡ z = same_some (x, u) z h in (ap (λ (z : Value × Value). Some z.0) q, ap (λ (z : Value × Value). Some z.1) q))
zipped_get (x ∷ xs) (u ∷ us) (suc j) z h = zipped_get xs us j z h

-- ---- what it does

module _ (p : LlProgram) (args : List (List ℕ)) (layout : Layout) (l : ℕ) (d : DictShape) (t : ℕ) (last : Bool) (f : ℕ) (made : Found) (core : Core) (left : ℕ) (head one two : Value) (k places : ℕ) (key_item key value_item value : LlType) (xs us : List Value) where
  abbrev makes : ℕ
  makes = (number_of (Make l) made).0

  abbrev kept_key : Value → Value
  kept_key x = as_item key key_item x

  abbrev kept_value : Value → Value
  kept_value u = as_item value value_item u

  abbrev zs : List (Value × Value)
  zs = zipped xs us

  abbrev pub In : Bool → List ℕ → List Value → Type 0
  In true index stored = found core.blocks core.statics two ≡ Some (items_block d.second (index_values index ++ stored))
  In false index stored = found core.blocks core.statics one ≡ Some (items_block d.first stored)

  -- where they stand
  pub record There : Type 0 where
    pub index : List ℕ
    pub spare_keys : List Value
    pub spare_values : List Value
    pub items : List Value
    pub items_long : length items ≡ length index + places
    pub fits : length index + places < 2 ^ 63
    pub enough : k ≤ places
    pub one_set : is_unset one ≡ false
    pub second_is : found core.blocks core.statics two ≡ Some (items_block d.second items)
    pub keys_in : In last index (map kept_key xs ++ spare_keys)
    pub values_in : In (not last) index (map kept_value us ++ spare_values)

  abbrev pub paid_now : ℕ
  paid_now = left - (1 + 2 * k)

  -- memory with the list and its tuples
  abbrev pub listed_blocks : List (Option Block)
  listed_blocks = core.blocks ++ Some (array_with (word (l + 1)) (Word (pos k) ∷ []) (pointers (length core.blocks) 0 k)) ∷ Some (head_block l k (Ptr (length core.blocks))) ∷ pair_blocks t zs

  -- the call lacks steps, or gives the list
  abbrev pub Pairs : Type 0
  Pairs = (left < 1 + 2 * k → (waits : List Frame) → Lacked p args (Calling f (head ∷ []) waits core) core)
      × (1 + 2 * k ≤ left → (waits : List Frame) → Returns p args (3 * k + 1) (Calling f (head ∷ []) waits core) (Ptr (length core.blocks + 1)) waits (record core { blocks = listed_blocks; steps = paid_now }))

  -- an item of either array
  module _ (firsts : shape_at (shapes_of p.structs) d.first ≡ shape_over d.first 1 None) (seconds : shape_at (shapes_of p.structs) d.second ≡ shape_over d.second 1 None) where
    pub fetch : (b : Bool) (into : ℕ) (g : Value → Value) (ys spare : List Value) (index : List ℕ) → In b index (map g ys ++ spare) → (more : List (Option Block)) (place j : ℕ) (y : Value) → slice_get ys j ≡ Some y → is_unset (g y) ≡ false → (vs : List Value) → read_var vs 7 ≡ one → read_var vs 8 ≡ two → read_var vs 12 ≡ Word (pos (length index + j)) → read_var vs 4 ≡ Word (pos j)
        → (steps : ℕ) (ops : List LlOp) (e : LlExit) (waits : List Frame) → Leads p args 0 (At (array_item b d into ∷ ops) e waits (record core { function = f; block = 3; at = place; vars = vs; blocks = core.blocks ++ more; steps = steps })) []
        (At ops e waits (record core { function = f; block = 3; at = place + 1; vars = slice_set vs into (g y); blocks = core.blocks ++ more; steps = steps }))
    fetch true into g ys spare index is more place j y h set vs at_one at_two at_place at_j steps ops e waits =
        reads_item 1 (items_block d.second (index_values index ++ (map g ys ++ spare))) (g y) seconds (ap (found (core.blocks ++ more) core.statics) at_two ∙ found_more core.blocks more core.statics two _ is) refl set (length index + j) at_place
        (let a = length-append (index_values index) (map g ys ++ spare) in let b = length-map index (λ (n : ℕ). Word (pos n)) in let c = length-append (map g ys) spare in let m = length-map ys g in let lt = below_length ys j y h in omega (arith, a, b, c, m, lt))
        (read_behind index (map g ys ++ spare) j ∙ read_stored g ys spare j y h)
    fetch false into g ys spare index is more place j y h set vs at_one at_two at_place at_j steps ops e waits =
        reads_item 1 (items_block d.first (map g ys ++ spare)) (g y) firsts (ap (found (core.blocks ++ more) core.statics) at_one ∙ found_more core.blocks more core.statics one _ is) refl set j at_j
        (let c = length-append (map g ys) spare in let m = length-map ys g in let lt = below_length ys j y h in omega (arith, c, m, lt)) (read_stored g ys spare j y h)
