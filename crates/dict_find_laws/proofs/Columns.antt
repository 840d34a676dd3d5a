-- What the graph is that lists the keys or the values of a dict, and that it gives them, as they stand or as words.
use Rattle.std.proofs.Common.{◌≡◌, ◌<◌, ◌≤◌, ◌⊎◌, inl, inr, ℕ, zero, suc, ◌+◌, ◌-◌, ◌^◌, false, true, Bool, List, [], ◌∷◌, ◌++◌, length, map, Some, None, pos, refl, sym, ap, ◌∙◌, subst, arith, length-append}
use Rattle.std.specs.Prelude.{slice_get, if◌then◌else◌, nat_lt}
use Rattle.std.proofs.lemmas.Bool.Decides.{nat_tests}
use Rattle.std.proofs.lemmas.List.{length-map}
use Rattle.csub_tree.specs.State.{Value, Unset, Word, Byte, Flag, Core}
use Rattle.csub_tree.specs.Layout.{shape_at, shape_over}
use Rattle.csub_tree.specs.Operation.{is_unset, binary_of, unary_of}
use Rattle.csub_tree.specs.Statement.{operand, read as read_var}
use Rattle.csub_tree.specs.declared.tree.CBinary.TheVariants as binary
use Rattle.csub_tree.specs.declared.tree.CUnary.TheVariants as unary
use Rattle.csub_tree.specs.declared.tree.COperand.{COperand}
use Rattle.csub_tree.specs.declared.tree.COperand.TheVariants.{Var}
use Rattle.ll_code.specs.Machine.{shapes_of}
use Rattle.ll_code.specs.State.{Frame, Calling, At}
use Rattle.ll_code.specs.declared.program.LlType.{LlType}
use Rattle.ll_code.specs.declared.program.LlType.TheVariants as type
use Rattle.ll_code.specs.declared.program.LlOp.{LlOp}
use Rattle.ll_code.specs.declared.program.LlOp.TheVariants as op
use Rattle.ll_code.specs.declared.program.LlExit.{LlExit}
use Rattle.ll_code.specs.declared.program.LlProgram.{LlProgram}
use Rattle.ll_build.specs.Build.{fork, word as word_operand}
use Rattle.ll_leads.specs.Path.{Leads}
use Rattle.ll_leads.proofs.Ways.{on, enter, gives, rests, turns}
use Rattle.ll_texts.specs.Follows.{Lacked}
use Rattle.ll_texts.specs.Texts.{found}
use Rattle.ll_texts.proofs.Reading.{below_length}
use Rattle.rtyper_layout.specs.declared.layout.Layout.{Layout}
use Rattle.rtyper_layout.specs.Dicts.{is_plain}
use Rattle.rtyper_layout.specs.Types.{word}
use Rattle.rtyper_data.specs.declared.body.Body.{Body}
use Rattle.rtyper_data.specs.declared.found.Found.{Found}
use Rattle.rtyper_data.specs.declared.small.Listed.TheVariants.{Make}
use Rattle.rtyper_data.specs.Seen.{Writing, writing}
use Rattle.list_shape.specs.Shapes.{number_of, shape_of}
use Rattle.list_loops.specs.Making.{make}
use Rattle.rtyper_dict.specs.declared.lists.Part.{Part}
use Rattle.rtyper_dict.specs.declared.parts.DictShape.{DictShape}
use Rattle.rtyper_dict.specs.Listing.{array_item, list_graph, list_over, list_blocks, list_makes, list_reads, list_types, paid, read, read_as, set_in}
use Rattle.rtyper_dict.specs.Parts.{from_word, unstored}
use Rattle.lower_laws.proofs.Doing.{same_type_is}
use Rattle.object_laws.specs.Dicts.{as_item, as_word, dict_block, index_values, items_block}
use Rattle.object_laws.proofs.Blocks.{reads_item}
use Rattle.object_laws.proofs.Calling.{Returns}
use Rattle.list_copy_laws.proofs.Fresh.{head_of, old_found, raw, two_more}
use Rattle.dict_find_laws.proofs.Filling.{Gets, Graph, Others, over, vars}
use Rattle.dict_find_laws.proofs.Got.{value_as_it_is}
use Rattle.dict_find_laws.proofs.Listing.{Starts, all_listed, list_lacks, none_listed, start_vars}
use Rattle.dict_find_laws.proofs.Probing.{read_behind}
use Rattle.dict_find_laws.proofs.Restored.{IsOf, byte_back, flag_back}
use Rattle.dict_find_laws.proofs.Worth.{as_item_set}

pub read_stored : (f : Value → Value) (xs spare : List Value) (j : ℕ) (x : Value) → slice_get xs j ≡ Some x → read_var (map f xs ++ spare) j ≡ f x
read_stored f [] spare j x h = absurd (cc)
read_stored f (z ∷ xs) spare zero x h = (let q : z ≡ x = cc in ap f q)
read_stored f (z ∷ xs) spare (suc j) x h = read_stored f xs spare j x h

no_items : (xs : List Value) → length xs ≡ 0 → [] ≡ xs
no_items [] h = refl
no_items (x ∷ xs) h = absurd (omega (arith, h))

-- ---- what is written

module _ (layout : Layout) (l : ℕ) (d : DictShape) (in_second : Bool) (made : Found) where
  abbrev begun_body : Body
  begun_body = record { types = list_types d (shape_of layout l); ops = list_reads }

  -- an item of the one type, as a value of the other
  abbrev pub Set : LlType → LlType → Writing
  Set item t = set_in (shape_of layout l) (read_as layout t (shape_of layout l).item made (read in_second item t d begun_body))

  abbrev pub gets : LlOp
  gets = array_item in_second d 13

  abbrev pub filled : COperand → List LlOp → List LlType → Writing
  filled y r_ops types = writing made (record { types = types; ops = ((list_reads ++ gets ∷ []) ++ r_ops) ++ op.SetItem (word (l + 1)) 3 (Var 4) y ∷ [] })

  abbrev one_more : LlType → Body
  one_more t = record { types = list_types d (shape_of layout l) ++ t ∷ []; ops = list_reads ++ gets ∷ [] }

  pub same_set : (t : LlType) → t ≡ (shape_of layout l).item → Set t t ≡ filled (Var 13) [] (list_types d (shape_of layout l) ++ t ∷ [])
  unfolding read unstored list_types list_reads
  same_set t h = ap (λ b. set_in (shape_of layout l) (read_as layout t (shape_of layout l).item made (if b then (Var 13, one_more t) else (from_word t (Var 13) (one_more t))))) (same_type_is t)
      ∙ ap (set_in (shape_of layout l)) (value_as_it_is layout (Var 13) t (shape_of layout l).item (writing made (one_more t)) h)

  pub flag_set : type.Bool ≡ (shape_of layout l).item → Set type.Signed type.Bool ≡ filled (Var 14) (op.Binary 14 binary.Ne (Var 13) (word_operand (pos 0)) ∷ []) ((list_types d (shape_of layout l) ++ type.Signed ∷ []) ++ type.Bool ∷ [])
  unfolding read unstored list_types list_reads
  flag_set h = ap (set_in (shape_of layout l)) (value_as_it_is layout (Var 14) type.Bool (shape_of layout l).item (writing made (record { types = (list_types d (shape_of layout l) ++ type.Signed ∷ []) ++ type.Bool ∷ []; ops = (list_reads ++ gets ∷ []) ++ op.Binary 14 binary.Ne (Var 13) (word_operand (pos 0)) ∷ [] })) h)

  pub byte_set : type.Char ≡ (shape_of layout l).item → Set type.Signed type.Char ≡ filled (Var 14) (op.Unary 14 unary.S2C (Var 13) ∷ []) ((list_types d (shape_of layout l) ++ type.Signed ∷ []) ++ type.Char ∷ [])
  unfolding read unstored list_types list_reads
  byte_set h = ap (set_in (shape_of layout l)) (value_as_it_is layout (Var 14) type.Char (shape_of layout l).item (writing made (record { types = (list_types d (shape_of layout l) ++ type.Signed ∷ []) ++ type.Char ∷ []; ops = (list_reads ++ gets ∷ []) ++ op.Unary 14 unary.S2C (Var 13) ∷ [] })) h)

-- ---- what it does

module _ (p : LlProgram) (args : List (List ℕ)) (layout : Layout) (l : ℕ) (d : DictShape) (of : Part) (in_second : Bool) (f : ℕ) (made : Found) (core : Core) (left : ℕ) (head one two : Value) (k places : ℕ) (item t : LlType) (xs : List Value) where
  abbrev makes : ℕ
  makes = (number_of (Make l) made).0

  abbrev kept : Value → Value
  kept x = as_item t item x

  -- where they stand
  abbrev pub In : Bool → List ℕ → List Value → Type 0
  In true index spare = found core.blocks core.statics two ≡ Some (items_block d.second (index_values index ++ (map kept xs ++ spare)))
  In false index spare = found core.blocks core.statics one ≡ Some (items_block d.first (map kept xs ++ spare))

  pub record There : Type 0 where
    pub index : List ℕ
    pub spare : List Value
    pub items : List Value
    pub items_long : length items ≡ length index + places
    pub fits : length index + places < 2 ^ 63
    pub enough : k ≤ places
    pub one_set : is_unset one ≡ false
    pub second_is : found core.blocks core.statics two ≡ Some (items_block d.second items)
    pub stands : In in_second index spare

  -- the call lacks steps, or gives the list
  abbrev pub Lists : Type 0
  Lists = (left < 1 + k → (waits : List Frame) → Lacked p args (Calling f (head ∷ []) waits core) core)
      × (1 + k ≤ left → (waits : List Frame) → Returns p args (k + 1) (Calling f (head ∷ []) waits core) (head_of core.blocks l k (raw k)) waits (record core { blocks = two_more core.blocks l k xs; steps = left - (1 + k) }))

  module _ (r_ops : List LlOp) (y : COperand) (types : List LlType) (paid size : ℕ) (Rest : Type 0) (rest_of : Rest → List Value) (index : List ℕ) (spare : List Value) (size_is : length index ≡ size) (firsts : shape_at (shapes_of p.structs) d.first ≡ shape_over d.first 1 None) (seconds : shape_at (shapes_of p.structs) d.second ≡ shape_over d.second 1 None)
      (set : (j : ℕ) (x : Value) → slice_get xs j ≡ Some x → is_unset (kept x) ≡ false) where
    fetch : (b : Bool) → In b index spare → (j : ℕ) (x : Value) → slice_get xs j ≡ Some x → (r : Others p args f makes d of (shape_of layout l) (array_item b d 13) r_ops y types core paid head one two k size Rest rest_of) → r.v12 ≡ Word (pos (size + j)) → (items : List Value) (ops : List LlOp) (e : LlExit) (waits : List Frame)
        → Leads p args 0 (At (array_item b d 13 ∷ ops) e waits (over p args f makes d of (shape_of layout l) (array_item b d 13) r_ops y types core paid head one two k size Rest rest_of 3 2 j r items)) []
        (At ops e waits (over p args f makes d of (shape_of layout l) (array_item b d 13) r_ops y types core paid head one two k size Rest rest_of 3 3 j (record r { v13 = kept x }) items))
    fetch true is j x h r at items ops e waits =
        reads_item 1 (items_block d.second (index_values index ++ (map kept xs ++ spare))) (kept x) seconds (old_found core.blocks l k items core.statics two _ is) refl (set j x h) (size + j) at
        (let a = length-append (index_values index) (map kept xs ++ spare) in let b = length-map index (λ (n : ℕ). Word (pos n)) in let c = length-append (map kept xs) spare in let m = length-map xs kept in let lt = below_length xs j x h in omega (arith, a, b, c, m, lt, size_is))
        (ap (λ n. read_var (index_values index ++ (map kept xs ++ spare)) (n + j)) (sym size_is) ∙ read_behind index (map kept xs ++ spare) j ∙ read_stored kept xs spare j x h)
    fetch false is j x h r at items ops e waits =
        reads_item 1 (items_block d.first (map kept xs ++ spare)) (kept x) firsts (old_found core.blocks l k items core.statics one _ is) refl (set j x h) j refl
        (let c = length-append (map kept xs) spare in let m = length-map xs kept in let lt = below_length xs j x h in omega (arith, c, m, lt)) (read_stored kept xs spare j x h)

  module _ (firsts : shape_at (shapes_of p.structs) d.first ≡ shape_over d.first 1 None) (seconds : shape_at (shapes_of p.structs) d.second ≡ shape_over d.second 1 None) (heads : shape_at (shapes_of p.structs) d.dict ≡ shape_over d.dict 4 None) (list_heads : shape_at (shapes_of p.structs) l ≡ shape_over l 2 None)
      (arrays : shape_at (shapes_of p.structs) (word (l + 1)) ≡ shape_over (word (l + 1)) 1 None) (made_graph : slice_get p.graphs makes ≡ Some (make (shape_of layout l))) (head_is : found core.blocks core.statics head ≡ Some (dict_block d.dict k places one two)) (steps : left ≡ core.steps)
      (set : (j : ℕ) (x : Value) → slice_get xs j ≡ Some x → is_unset x ≡ false) (kept_set : (j : ℕ) (x : Value) → slice_get xs j ≡ Some x → is_unset (kept x) ≡ false) (long : length xs ≡ k)
      (r_ops : List LlOp) (y : COperand) (types : List LlType) (Rest : Type 0) (rest_of : Rest → List Value) (begun : Rest) (begun_is : (rest_of begun ≡ []) ⊎ (rest_of begun ≡ Unset ∷ []))
      (graph : Graph p args f makes d of (shape_of layout l) (array_item in_second d 13) r_ops y types core (left - (1 + k)) head one two k 0 Rest rest_of)
      (starts : Starts p args layout f makes l d of (array_item in_second d 13) r_ops y types core left head one two k places Rest rest_of begun)
      (restores : (size j : ℕ) (x : Value) → slice_get xs j ≡ Some x → (r : Others p args f makes d of (shape_of layout l) (array_item in_second d 13) r_ops y types core (left - (1 + k)) head one two k size Rest rest_of) (items : List Value) (ops : List LlOp) (e : LlExit) (waits : List Frame)
      → (rest : Rest) × (place : ℕ) × (Leads p args 0 (At (r_ops ++ ops) e waits (over p args f makes d of (shape_of layout l) (array_item in_second d 13) r_ops y types core (left - (1 + k)) head one two k size Rest rest_of 3 3 j (record r { v13 = kept x }) items)) []
      (At ops e waits (over p args f makes d of (shape_of layout l) (array_item in_second d 13) r_ops y types core (left - (1 + k)) head one two k size Rest rest_of 3 place j (record r { v13 = kept x; rest = rest }) items)))
      × (operand (vars p args f makes d of (shape_of layout l) (array_item in_second d 13) r_ops y types core (left - (1 + k)) head one two k size Rest rest_of j (record r { v13 = kept x; rest = rest })) y ≡ x)) where
    pub lists_by : (k ≡ 0) ⊎ There → Lists
    lists_by (inl none) = (
      list_lacks p args layout f makes l d of (array_item in_second d 13) r_ops y types core left head one two k places Rest rest_of begun starts heads head_is steps begun_is,
      λ enough waits. subst (λ xs. Returns p args (k + 1) (Calling f (head ∷ []) waits core) (head_of core.blocks l k (raw k)) waits (record core { blocks = two_more core.blocks l k xs; steps = left - (1 + k) })) (no_items xs (long ∙ none))
          (none_listed p args layout f makes l d of (array_item in_second d 13) r_ops y types core left head one two k places Rest rest_of begun starts heads head_is steps begun_is enough graph list_heads arrays made_graph none waits),
    )
    lists_by (inr there) = (
      list_lacks p args layout f makes l d of (array_item in_second d 13) r_ops y types core left head one two k places Rest rest_of begun starts heads head_is steps begun_is,
      λ enough waits. by (nat_lt 0 k) refl enough waits,
    )
      where
        gets_all : Gets p args f makes d of (shape_of layout l) (array_item in_second d 13) r_ops y types core (left - (1 + k)) head one two k (length there.index) Rest rest_of xs
        gets_all j x h r at items ops e waits =
            let it = restores (length there.index) j x h r items ops e waits in
            record { v13 = kept x; rest = it.0; place = it.1; way = on (fetch r_ops y types (left - (1 + k)) (length there.index) Rest rest_of there.index there.spare refl firsts seconds kept_set in_second there.stands j x h r at items (r_ops ++ ops) e waits) it.2; is = it.3 }

        by : (c : Bool) → nat_lt 0 k ≡ c → 1 + k ≤ left → (waits : List Frame) → Returns p args (k + 1) (Calling f (head ∷ []) waits core) (head_of core.blocks l k (raw k)) waits (record core { blocks = two_more core.blocks l k xs; steps = left - (1 + k) })
        by true h enough = all_listed p args layout f makes l d of (array_item in_second d 13) r_ops y types core left head one two k places Rest rest_of begun starts heads head_is steps begun_is enough graph list_heads arrays made_graph (grind (arith, nat_tests, h)) (length there.index) there.items there.items_long there.fits there.enough there.one_set seconds there.second_is xs long gets_all set
        by false h enough = λ waits. (let none : k ≡ 0 = grind (arith, nat_tests, h) in subst (λ xs. Returns p args (k + 1) (Calling f (head ∷ []) waits core) (head_of core.blocks l k (raw k)) waits (record core { blocks = two_more core.blocks l k xs; steps = left - (1 + k) })) (no_items xs (long ∙ none))
            (none_listed p args layout f makes l d of (array_item in_second d 13) r_ops y types core left head one two k places Rest rest_of begun starts heads head_is steps begun_is enough graph list_heads arrays made_graph none waits))

module _ (p : LlProgram) (args : List (List ℕ)) (layout : Layout) (l : ℕ) (d : DictShape) (of : Part) (in_second : Bool) (f : ℕ) (made : Found) (core : Core) (left : ℕ) (head one two : Value) (k places : ℕ) (xs : List Value)
    (firsts : shape_at (shapes_of p.structs) d.first ≡ shape_over d.first 1 None) (seconds : shape_at (shapes_of p.structs) d.second ≡ shape_over d.second 1 None) (heads : shape_at (shapes_of p.structs) d.dict ≡ shape_over d.dict 4 None) (list_heads : shape_at (shapes_of p.structs) l ≡ shape_over l 2 None)
    (arrays : shape_at (shapes_of p.structs) (word (l + 1)) ≡ shape_over (word (l + 1)) 1 None) (made_graph : slice_get p.graphs (number_of (Make l) made).0 ≡ Some (make (shape_of layout l))) (head_is : found core.blocks core.statics head ≡ Some (dict_block d.dict k places one two)) (steps : left ≡ core.steps)
    (set : (j : ℕ) (x : Value) → slice_get xs j ≡ Some x → is_unset x ≡ false) (long : length xs ≡ k) (paid_is : paid of d ≡ op.GetField 1 d.dict 0 0 ∷ op.Step (word_operand (pos 1)) ∷ op.Step (Var 1) ∷ []) where
  abbrev number : ℕ
  number = (number_of (Make l) made).0

  abbrev item_op : LlOp
  item_op = array_item in_second d 13

  abbrev GraphFor : LlType → LlType → Type 0
  GraphFor item t = slice_get p.graphs f ≡ Some (list_over of d (shape_of layout l) (Set layout l d in_second made item t)).0

  abbrev Answer : LlType → LlType → Type 0
  Answer item t = (k ≡ 0) ⊎ There p args layout l d of in_second f made core left head one two k places item t xs → Lists p args layout l d of in_second f made core left head one two k places item t xs

  all_kept : (item t : LlType) (j : ℕ) (x : Value) → slice_get xs j ≡ Some x → is_unset (as_item t item x) ≡ false
  all_kept item t j x h = as_item_set t item x (set j x h)

  kept_same : (t : LlType) (x : Value) → as_item t t x ≡ x
  kept_same t x = ap (λ b. if b then x else as_word x) (same_type_is t)

  -- as they stand
  as_they_are : (t : LlType) → t ≡ (shape_of layout l).item → GraphFor t t → Answer t t
  unfolding list_graph list_blocks list_makes list_types list_reads
  as_they_are t target graph = lists_by p args layout l d of in_second f made core left head one two k places t t xs firsts seconds heads list_heads arrays made_graph head_is steps set (all_kept t t) long [] (Var 13) (list_types d (shape_of layout l) ++ t ∷ []) (Unit {0}) (λ r. []) tt (inl refl)
      graph_is
      (λ waits. subst (λ ps. Leads p args 0 (Calling f (head ∷ []) waits core) [] (At (((ps ++ op.Call (Some 2) number (Var 1 ∷ []) ∷ []) ++ op.GetField 3 l 2 1 ∷ []) ++ op.Binary 5 binary.Eq (Var 1) (word_operand (pos 0)) ∷ []) (fork 5 4 (Var 2 ∷ []) 1 (Var 0 ∷ Var 1 ∷ Var 2 ∷ Var 3 ∷ [])) waits (record core { function = f; block = 0; at = 0; vars = start_vars p args layout f number l d of item_op [] (Var 13) (list_types d (shape_of layout l) ++ t ∷ []) core left head one two k places (Unit {0}) (λ r. []) tt Unset Unset Unset }))) paid_is (enter graph_is refl))
      (λ size j x h r items ops e waits. (tt, 3, rests, kept_same t x))
    where
      graph_is : Graph p args f number d of (shape_of layout l) item_op [] (Var 13) (list_types d (shape_of layout l) ++ t ∷ []) core (left - (1 + k)) head one two k 0 (Unit {0}) (λ r. [])
      graph_is = graph ∙ ap (λ w. Some (list_over of d (shape_of layout l) w).0) (same_set layout l d in_second made t target)

  -- a variable more
  abbrev with_one : Value → List Value
  with_one v = v ∷ []

  -- truth values, from words
  flags_from_words : type.Bool ≡ (shape_of layout l).item → ((j : ℕ) (x : Value) → slice_get xs j ≡ Some x → IsOf type.Bool x) → GraphFor type.Signed type.Bool → Answer type.Signed type.Bool
  unfolding list_graph list_blocks list_makes list_types list_reads
  flags_from_words target of_all graph = lists_by p args layout l d of in_second f made core left head one two k places type.Signed type.Bool xs firsts seconds heads list_heads arrays made_graph head_is steps set (all_kept type.Signed type.Bool) long
      (op.Binary 14 binary.Ne (Var 13) (word_operand (pos 0)) ∷ []) (Var 14) ((list_types d (shape_of layout l) ++ type.Signed ∷ []) ++ type.Bool ∷ []) Value with_one Unset (inr refl)
      graph_is
      (λ waits. subst (λ ps. Leads p args 0 (Calling f (head ∷ []) waits core) [] (At (((ps ++ op.Call (Some 2) number (Var 1 ∷ []) ∷ []) ++ op.GetField 3 l 2 1 ∷ []) ++ op.Binary 5 binary.Eq (Var 1) (word_operand (pos 0)) ∷ []) (fork 5 4 (Var 2 ∷ []) 1 (Var 0 ∷ Var 1 ∷ Var 2 ∷ Var 3 ∷ [])) waits (record core { function = f; block = 0; at = 0; vars = start_vars p args layout f number l d of item_op (op.Binary 14 binary.Ne (Var 13) (word_operand (pos 0)) ∷ []) (Var 14) ((list_types d (shape_of layout l) ++ type.Signed ∷ []) ++ type.Bool ∷ []) core left head one two k places Value with_one Unset Unset Unset Unset }))) paid_is (enter graph_is refl))
      (λ size j x h r items ops e waits. (let it = (of_all j x h).flags refl in (Flag it.0, 4, gives (Flag it.0) (ap (λ z. binary_of binary.Ne (as_item type.Bool type.Signed z) (Word (pos 0))) it.1 ∙ flag_back it.0), sym it.1)))
    where
      graph_is : Graph p args f number d of (shape_of layout l) item_op (op.Binary 14 binary.Ne (Var 13) (word_operand (pos 0)) ∷ []) (Var 14) ((list_types d (shape_of layout l) ++ type.Signed ∷ []) ++ type.Bool ∷ []) core (left - (1 + k)) head one two k 0 Value with_one
      graph_is = graph ∙ ap (λ w. Some (list_over of d (shape_of layout l) w).0) (flag_set layout l d in_second made target)

  -- bytes, from words
  bytes_from_words : type.Char ≡ (shape_of layout l).item → ((j : ℕ) (x : Value) → slice_get xs j ≡ Some x → IsOf type.Char x) → GraphFor type.Signed type.Char → Answer type.Signed type.Char
  unfolding list_graph list_blocks list_makes list_types list_reads
  bytes_from_words target of_all graph = lists_by p args layout l d of in_second f made core left head one two k places type.Signed type.Char xs firsts seconds heads list_heads arrays made_graph head_is steps set (all_kept type.Signed type.Char) long
      (op.Unary 14 unary.S2C (Var 13) ∷ []) (Var 14) ((list_types d (shape_of layout l) ++ type.Signed ∷ []) ++ type.Char ∷ []) Value with_one Unset (inr refl)
      graph_is
      (λ waits. subst (λ ps. Leads p args 0 (Calling f (head ∷ []) waits core) [] (At (((ps ++ op.Call (Some 2) number (Var 1 ∷ []) ∷ []) ++ op.GetField 3 l 2 1 ∷ []) ++ op.Binary 5 binary.Eq (Var 1) (word_operand (pos 0)) ∷ []) (fork 5 4 (Var 2 ∷ []) 1 (Var 0 ∷ Var 1 ∷ Var 2 ∷ Var 3 ∷ [])) waits (record core { function = f; block = 0; at = 0; vars = start_vars p args layout f number l d of item_op (op.Unary 14 unary.S2C (Var 13) ∷ []) (Var 14) ((list_types d (shape_of layout l) ++ type.Signed ∷ []) ++ type.Char ∷ []) core left head one two k places Value with_one Unset Unset Unset Unset }))) paid_is (enter graph_is refl))
      (λ size j x h r items ops e waits. (let it = (of_all j x h).bytes refl in (Byte it.0, 4, turns (Byte it.0) (ap (λ z. unary_of unary.S2C (as_item type.Char type.Signed z)) it.2 ∙ byte_back it.0 it.1), sym it.2)))
    where
      graph_is : Graph p args f number d of (shape_of layout l) item_op (op.Unary 14 unary.S2C (Var 13) ∷ []) (Var 14) ((list_types d (shape_of layout l) ++ type.Signed ∷ []) ++ type.Char ∷ []) core (left - (1 + k)) head one two k 0 Value with_one
      graph_is = graph ∙ ap (λ w. Some (list_over of d (shape_of layout l) w).0) (byte_set layout l d in_second made target)

  from_words : (t : LlType) → is_plain t ≡ true → t ≡ (shape_of layout l).item → ((j : ℕ) (x : Value) → slice_get xs j ≡ Some x → IsOf t x) → GraphFor type.Signed t → Answer type.Signed t
  from_words type.Signed h target of_all graph = as_they_are type.Signed target graph
  from_words type.Bool h target of_all graph = flags_from_words target of_all graph
  from_words type.Char h target of_all graph = bytes_from_words target of_all graph
  from_words type.Void h target of_all graph = absurd (cc)
  from_words type.Fn h target of_all graph = absurd (cc)
  from_words (type.Ptr n) h target of_all graph = absurd (cc)

  -- either
  pub lists_all : (q : Bool) (t : LlType) → (q ≡ true → is_plain t ≡ true) → t ≡ (shape_of layout l).item → ((j : ℕ) (x : Value) → slice_get xs j ≡ Some x → IsOf t x) → GraphFor (if q then type.Signed else t) t → Answer (if q then type.Signed else t) t
  lists_all true t h target of_all graph = from_words t (h refl) target of_all graph
  lists_all false t h target of_all graph = as_they_are t target graph
