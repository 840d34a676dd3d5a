-- The loop that fills a list with tuples of the keys and the values of a dict.
use Rattle.std.proofs.Common.{◌≡◌, ◌<◌, ◌≤◌, ℕ, zero, suc, ◌+◌, ◌*◌, ◌^◌, ◌||◌, false, true, List, [], ◌∷◌, ◌++◌, length, Option, Some, None, pos, refl, sym, ap, ◌∙◌, subst, arith, append_assoc, length-append}
use Rattle.std.specs.Prelude.{slice_get, slice_set, slice_index_or, cond, nat_lt}
use Rattle.std.proofs.lemmas.Bool.Decides.{nat_tests}
use Rattle.std.proofs.lemmas.List.{append-nil}
use Rattle.csub_tree.specs.State.{Value, Unset, Word, Flag, Ptr, Block, Core, Onward, Stuck}
use Rattle.csub_tree.specs.Layout.{shape_at, shape_over}
use Rattle.csub_tree.specs.Operation.{is_unset, word_of}
use Rattle.csub_tree.specs.Statement.{read, operand, on as on_value, on_block, reached, put_item, set_item, stored as stores}
use Rattle.csub_tree.specs.declared.stuck.StuckReason.TheVariants.{Outside, Unset as IsUnset}
use Rattle.csub_tree.specs.declared.tree.COperand.{COperand}
use Rattle.csub_tree.specs.declared.tree.COperand.TheVariants.{Var}
use Rattle.ll_code.specs.State.{Frame, State, At, Goes}
use Rattle.ll_code.specs.Machine.{step, goes_on, shapes_of}
use Rattle.ll_code.specs.declared.program.LlType.{LlType}
use Rattle.ll_code.specs.declared.program.LlOp.{LlOp}
use Rattle.ll_code.specs.declared.program.LlOp.TheVariants as op
use Rattle.ll_code.specs.declared.program.LlExit.{LlExit}
use Rattle.ll_code.specs.declared.program.LlProgram.{LlProgram}
use Rattle.ll_leads.specs.Memory.{forgotten}
use Rattle.ll_leads.specs.Path.{Leads, Stay, Go, reference_in}
use Rattle.ll_leads.proofs.Joined.{leads_then, leads_more}
use Rattle.ll_leads.proofs.Ways.{on, many, gives}
use Rattle.ll_texts.proofs.Numbers.{adds, less_true, less_false}
use Rattle.ll_texts.proofs.Reading.{below_length, get_mid}
use Rattle.ll_texts.proofs.Writing.{put_mid}
use Rattle.rtyper_layout.specs.Types.{word}
use Rattle.list_shape.specs.Shapes.{gives as gives_block}
use Rattle.list_shape.specs.declared.shape.Shape.{Shape}
use Rattle.rtyper_dict.specs.declared.lists.Part.TheVariants as part
use Rattle.rtyper_dict.specs.declared.parts.DictShape.{DictShape}
use Rattle.rtyper_dict.specs.Listing.{list_asks, list_blocks, list_graph, list_reads, list_turn}
use Rattle.list_laws.proofs.Copying.{array_with}
use Rattle.list_laws.proofs.Making.{makes_plain, writes_newest}
use Rattle.object_laws.specs.Represents.{head_block}
use Rattle.object_laws.proofs.Blocks.{reach_own}
use Rattle.object_laws.proofs.Calling.{Returns}
use Rattle.list_copy_laws.proofs.Fresh.{raw}

put_between : (bs : List (Option Block)) (x y : Option Block) (zs : List (Option Block)) → slice_set (bs ++ x ∷ zs) (length bs) y ≡ bs ++ y ∷ zs
put_between [] x y zs = refl
put_between (b ∷ bs) x y zs = ap (λ l. b ∷ l) (put_between bs x y zs)

between_is : (bs : List (Option Block)) (x : Option Block) (zs : List (Option Block)) → slice_index_or (bs ++ x ∷ zs) (length bs) None ≡ x
between_is [] x zs = refl
between_is (b ∷ bs) x zs = between_is bs x zs

at_most_one : (y : Value) → reference_in y ≤ 1
at_most_one (Ptr m) = omega arith
at_most_one _ = omega arith

-- an item of a block between others
module _ {p : LlProgram} {args : List (List ℕ)} {ops : List LlOp} {e : LlExit} {frames : List Frame} {core : Core} {n b : ℕ} {i x : COperand} where
  pub writes_between : (k : ℕ) (bs zs : List (Option Block)) (fields pre post : List Value) (old v : Value) → shape_at (shapes_of p.structs) n ≡ shape_over n k None → core.blocks ≡ bs ++ Some (array_with n fields (pre ++ old ∷ post)) ∷ zs → read core.vars b ≡ Ptr (length bs) → operand core.vars i ≡ Word (pos (length pre))
      → operand core.vars x ≡ v → is_unset v ≡ false → Leads p args 1 (At (op.SetItem n b i x ∷ ops) e frames core) [] (At ops e frames (record core { at = core.at + 1; blocks = bs ++ Some (array_with n fields (pre ++ v ∷ post)) ∷ zs }))
  writes_between k bs zs fields pre post old v shape is at place_is value set =
      let items : List Value = pre ++ old ∷ post in
      let block : Block = array_with n fields items in
      let inside : nat_lt (length pre) (length items) ≡ true = (let m : length pre < length items = below_length items (length pre) old (get_mid pre old post (length pre) refl) in grind (arith, nat_tests, m)) in
      let does : set_item core (shapes_of p.structs) n (read core.vars b) (operand core.vars i) (operand core.vars x) ≡ Onward (record core { at = core.at + 1; blocks = bs ++ Some (array_with n fields (pre ++ v ∷ post)) ∷ zs }) =
      ap (λ y. set_item core (shapes_of p.structs) n y (operand core.vars i) (operand core.vars x)) at
      ∙ ap (λ y. set_item core (shapes_of p.structs) n (Ptr (length bs)) (operand core.vars i) y) value
      ∙ ap (λ y. set_item core (shapes_of p.structs) n (Ptr (length bs)) y v) place_is
      ∙ ap (λ c. cond c (Stuck IsUnset) (on_value (λ i. on_block (λ block. put_item core (Ptr (length bs)) block i v) (reached core (shapes_of p.structs) n (Ptr (length bs)))) (word_of (Word (pos (length pre)))))) set
      ∙ ap (on_block (λ block. put_item core (Ptr (length bs)) block (pos (length pre)) v)) (reach_own p core (Ptr (length bs)) n k block shape (ap (λ l. slice_index_or l (length bs) None) is ∙ between_is bs (Some block) zs) refl)
      ∙ ap (λ c. cond c (stores core (Ptr (length bs)) (array_with n fields (slice_set items (length pre) v))) (Stuck Outside)) inside
      ∙ ap (λ l. stores core (Ptr (length bs)) (array_with n fields l)) (put_mid pre old post (length pre) v refl)
      ∙ ap (λ l. Onward (record core { at = core.at + 1; blocks = l })) (ap (λ l. slice_set l (length bs) (Some (array_with n fields (pre ++ v ∷ post)))) is ∙ put_between bs (Some block) (Some (array_with n fields (pre ++ v ∷ post))) zs) in
      let goes : step p args (At (op.SetItem n b i x ∷ ops) e frames core) ≡ Goes (At ops e frames (record core { at = core.at + 1; blocks = bs ++ Some (array_with n fields (pre ++ v ∷ post)) ∷ zs })) = ap (goes_on (At ops e frames)) does in
      let few = at_most_one (operand core.vars x) in
      record { path = Go goes (Stay (At ops e frames (record core { at = core.at + 1; blocks = bs ++ Some (array_with n fields (pre ++ v ∷ post)) ∷ zs }))); few = omega (arith, few) }

-- a tuple of two
abbrev pub pair_block : ℕ → Value × Value → Block
pair_block t z = record { kind = t; fields = z.0 ∷ z.1 ∷ []; items = [] }

abbrev pub pair_blocks : ℕ → List (Value × Value) → List (Option Block)
pair_blocks t [] = []
pair_blocks t (z ∷ zs) = Some (pair_block t z) ∷ pair_blocks t zs

-- pointers to so many blocks, behind an array and a head, from a number on
abbrev pub pointers : ℕ → ℕ → ℕ → List Value
pointers base j zero = []
pointers base j (suc n) = Ptr (base + 2 + j) ∷ pointers base (suc j) n

module _ (p : LlProgram) (args : List (List ℕ)) (f makes : ℕ) (d : DictShape) (to : Shape) (t : ℕ) (m_ops : List LlOp) (yk yv : COperand) (tv : ℕ) (types : List LlType)
    (core : Core) (paid : ℕ) (head one two : Value) (k size : ℕ) (Rest : Type 0) (rest_of : Rest → List Value) (put : Rest → Value → Rest) where
  abbrev pub making : List LlOp
  making = op.New tv t t ∷ op.SetField t tv 0 yk ∷ op.SetField t tv 1 yv ∷ op.SetItem (word (to.list + 1)) 3 (Var 4) (Var tv) ∷ []

  abbrev pub body_ops : List LlOp
  body_ops = list_reads ++ (m_ops ++ making)

  abbrev pub Graph : Type 0
  Graph = slice_get p.graphs f ≡ Some (list_graph makes part.Both d to (record { types = types; ops = body_ops }))

  abbrev pub bs : List (Option Block)
  bs = core.blocks

  abbrev pub array : Value
  array = Ptr (length bs)

  -- memory with so many items and these tuples
  abbrev pub mem : List Value → List (Option Block) → List (Option Block)
  mem items ts = bs ++ Some (array_with (word (to.list + 1)) (Word (pos k) ∷ []) items) ∷ Some (head_block to.list k (Ptr (length bs))) ∷ ts

  abbrev pub list : Value
  list = Ptr (length bs + 1)

  abbrev tuple_at : ℕ → Value
  tuple_at j = Ptr (length bs + 2 + j)

  abbrev pub tuples_from : ℕ → ℕ → List Value
  tuples_from j n = pointers (length bs) j n

  abbrev pub tuple_blocks : List (Value × Value) → List (Option Block)
  tuple_blocks zs = pair_blocks t zs

  -- what stands in the other variables
  pub record Others : Type 0 where
    pub v5 : Value
    pub v6 : Value
    pub v9 : Value
    pub v10 : Value
    pub v12 : Value
    pub rest : Rest

  abbrev pub vars : ℕ → Others → List Value
  vars j r = head ∷ Word (pos k) ∷ list ∷ array ∷ Word (pos j) ∷ r.v5 ∷ r.v6 ∷ one ∷ two ∷ r.v9 ∷ r.v10 ∷ Word (pos size) ∷ r.v12 ∷ rest_of r.rest

  abbrev pub over : ℕ → ℕ → ℕ → Others → List (Option Block) → Core
  over block at j r blocks = record core { function = f; block = block; at = at; vars = vars j r; blocks = blocks; steps = paid }

  abbrev pub asking : ℕ → Others → List Value → List (Option Block) → List Frame → State
  asking j r items ts waits = At list_asks.ops list_asks.exit waits (over 2 0 j r (mem items ts))

  -- the key and the value at a place are read, as what they are
  pub record Got (j : ℕ) (z : Value × Value) (r : Others) (items : List Value) (ts : List (Option Block)) (ops : List LlOp) (e : LlExit) (waits : List Frame) : Type 0 where
    pub rest : Rest
    pub place : ℕ
    pub way : Leads p args 0 (At (m_ops ++ ops) e waits (over 3 2 j r (mem items ts))) [] (At ops e waits (over 3 place j (record r { rest = rest }) (mem items ts)))
    pub key : (y : Value) → operand (vars j (record r { rest = put rest y })) yk ≡ z.0
    pub value : (y : Value) → operand (vars j (record r { rest = put rest y })) yv ≡ z.1

  abbrev pub Gets : List (Value × Value) → Type 0
  Gets zs = (j : ℕ) (z : Value × Value) → slice_get zs j ≡ Some z → (r : Others) → r.v12 ≡ Word (pos (size + j)) → (items : List Value) (ts : List (Option Block)) (ops : List LlOp) (e : LlExit) (waits : List Frame) → Got j z r items ts ops e waits

  -- a tuple in its variable
  abbrev pub Puts : Type 0
  Puts = (j : ℕ) (r : Others) (y : Value) → (slice_set (vars j r) tv y ≡ vars j (record r { rest = put r.rest y })) × (read (vars j (record r { rest = put r.rest y })) tv ≡ y)

  module _ (graph : Graph) (arrays : shape_at (shapes_of p.structs) (word (to.list + 1)) ≡ shape_over (word (to.list + 1)) 1 None) (tuples : shape_at (shapes_of p.structs) t ≡ shape_over t 2 None) (one_set : is_unset one ≡ false) (two_set : is_unset two ≡ false) (all : List (Value × Value)) (long : length all ≡ k) (small : size + k < 2 ^ 63) (gets : Gets all) (puts : Puts)
      (set : (j : ℕ) (z : Value × Value) → slice_get all j ≡ Some z → (is_unset z.0 ≡ false) × (is_unset z.1 ≡ false)) (waits : List Frame) where
    sets : is_unset one || (is_unset two || false) ≡ false
    sets = ap (λ b. b || (is_unset two || false)) one_set ∙ ap (λ b. b || false) two_set

    -- the tuple is made
    makes_pair : (j : ℕ) (z : Value × Value) (r : Others) (place : ℕ) (items : List Value) (ts : List (Option Block)) (ops : List LlOp) (e : LlExit) → is_unset z.0 ≡ false → is_unset z.1 ≡ false → ((y : Value) → operand (vars j (record r { rest = put r.rest y })) yk ≡ z.0) → ((y : Value) → operand (vars j (record r { rest = put r.rest y })) yv ≡ z.1)
        → Leads p args 2 (At (op.New tv t t ∷ op.SetField t tv 0 yk ∷ op.SetField t tv 1 yv ∷ ops) e waits (over 3 place j r (mem items ts))) []
        (At ops e waits (over 3 (place + 1 + 1 + 1) j (record r { rest = put r.rest (Ptr (length (mem items ts))) }) (mem items ts ++ Some (pair_block t z) ∷ [])))
    makes_pair j z r place items ts ops e key_set value_set key value =
        let m : List (Option Block) = mem items ts in
        let y : Value = Ptr (length m) in
        let made = puts j r y in
        let after : Others = record r { rest = put r.rest y } in
        let begins : Leads p args 0 (At (op.New tv t t ∷ op.SetField t tv 0 yk ∷ op.SetField t tv 1 yv ∷ ops) e waits (over 3 place j r m)) [] (At (op.SetField t tv 0 yk ∷ op.SetField t tv 1 yv ∷ ops) e waits (over 3 (place + 1) j after (m ++ Some (record { kind = t; fields = Unset ∷ Unset ∷ []; items = [] }) ∷ []))) =
        subst (λ vs. Leads p args 0 (At (op.New tv t t ∷ op.SetField t tv 0 yk ∷ op.SetField t tv 1 yv ∷ ops) e waits (over 3 place j r m)) [] (At (op.SetField t tv 0 yk ∷ op.SetField t tv 1 yv ∷ ops) e waits (record core { function = f; block = 3; at = place + 1; vars = vs; blocks = m ++ Some (record { kind = t; fields = Unset ∷ Unset ∷ []; items = [] }) ∷ []; steps = paid }))) made.0 (makes_plain 2 tuples) in
        let a = at_most_one z.0 in
        let b = at_most_one z.1 in
        leads_more (0 + (reference_in z.0 + reference_in z.1)) 2 (omega (arith, a, b))
        (leads_then begins
        (leads_then (writes_newest 2 m (record { kind = t; fields = Unset ∷ Unset ∷ []; items = [] }) z.0 tuples refl refl made.1 (key y) key_set)
        (writes_newest 2 m (record { kind = t; fields = z.0 ∷ Unset ∷ []; items = [] }) z.1 tuples refl refl made.1 (value y) value_set)))

    from_next : {most : ℕ} {s : State} (j : ℕ) (r : Others) (before after : List Value) (ts : List (Option Block)) → j + 1 ≡ suc j → before ≡ after → Leads p args most (asking (suc j) r before ts waits) [] s → Leads p args most (asking (j + 1) r after ts waits) [] s
    from_next {most = most} {s = s} j r before after ts h e way = subst (λ n. Leads p args most (asking n r after ts waits) [] s) (sym h) (subst (λ l. Leads p args most (asking (suc j) r l ts waits) [] s) e way)

    -- so many blocks stand before the next tuple
    place_of : (items : List Value) (ts : List (Option Block)) (j : ℕ) → length ts ≡ j → length (mem items ts) ≡ length bs + 2 + j
    place_of items ts j h = (let q = length-append bs (Some (array_with (word (to.list + 1)) (Word (pos k) ∷ []) items) ∷ Some (head_block to.list k (Ptr (length bs))) ∷ ts) in omega (arith, q, h))

    turn : (done : List Value) (before : List (Value × Value)) (z : Value × Value) (zs : List (Value × Value)) (j : ℕ) (r : Others) (ts : List (Option Block)) → all ≡ before ++ z ∷ zs → j ≡ length before → length done ≡ j → length ts ≡ j
        → ((r : Others) → Returns p args (3 * length zs) (asking (suc j) r ((done ++ tuple_at j ∷ []) ++ raw (length zs)) (ts ++ Some (pair_block t z) ∷ []) waits) list waits (record core { blocks = mem ((done ++ tuple_at j ∷ []) ++ tuples_from (suc j) (length zs)) ((ts ++ Some (pair_block t z) ∷ []) ++ tuple_blocks zs); steps = paid }))
        → Returns p args (3 * length (z ∷ zs)) (asking j r (done ++ raw (length (z ∷ zs))) ts waits) list waits (record core { blocks = mem (done ++ tuples_from j (length (z ∷ zs))) (ts ++ tuple_blocks (z ∷ zs)); steps = paid })
    unfolding list_graph list_blocks list_asks list_turn list_reads
    turn done before z zs j r ts are at done_long ts_long after =
        let total = length-append before (z ∷ zs) in
        let whole = ap length are in
        let lt : j < k = omega (arith, total, whole, long, at) in
        let here : slice_get all j ≡ Some z = ap (λ l. slice_get l j) are ∙ get_mid before z zs j at in
        let items : List Value = done ++ raw (length (z ∷ zs)) in
        let ready : Others = record r { v5 = Flag true; v6 = Word (pos (j + 1)); v12 = Word (pos (size + j)) } in
        let got = gets j z here ready refl items ts making (list_turn body_ops).exit waits in
        let y : Value = Ptr (length (mem items ts)) in
        let y_is : y ≡ tuple_at j = ap Ptr (place_of items ts j ts_long) in
        let there : Others = record ready { rest = put got.rest y } in
        let ends = after there in
        let both = set j z here in
        let one_more : j + 1 ≡ suc j = omega arith in
        let same : (done ++ tuple_at j ∷ []) ++ raw (length zs) ≡ done ++ tuple_at j ∷ raw (length zs) = append_assoc done (tuple_at j ∷ []) (raw (length zs)) in
        let grown : mem items ts ++ Some (pair_block t z) ∷ [] ≡ mem items (ts ++ Some (pair_block t z) ∷ []) = append_assoc bs (Some (array_with (word (to.list + 1)) (Word (pos k) ∷ []) items) ∷ Some (head_block to.list k (Ptr (length bs))) ∷ ts) (Some (pair_block t z) ∷ []) in
        let made_at : read (vars j there) tv ≡ tuple_at j = (puts j (record ready { rest = got.rest }) y).1 ∙ y_is in
        let writes : Leads p args 1 (At (op.SetItem (word (to.list + 1)) 3 (Var 4) (Var tv) ∷ []) (list_turn body_ops).exit waits (over 3 (got.place + 1 + 1 + 1) j there (mem items ts ++ Some (pair_block t z) ∷ []))) [] (At [] (list_turn body_ops).exit waits (over 3 (got.place + 1 + 1 + 1 + 1) j there (mem (done ++ tuple_at j ∷ raw (length zs)) (ts ++ Some (pair_block t z) ∷ [])))) =
        writes_between 1 bs (Some (head_block to.list k (Ptr (length bs))) ∷ (ts ++ Some (pair_block t z) ∷ [])) (Word (pos k) ∷ []) done (raw (length zs)) Unset (tuple_at j) arrays grown refl (ap (λ n. Word (pos n)) (sym done_long)) made_at refl in
        record {
          end = ends.end;
          same = ends.same ∙ ap (λ l. forgotten (record core { blocks = l; steps = paid }))
              (ap (λ l. mem l ((ts ++ Some (pair_block t z) ∷ []) ++ tuple_blocks zs)) (append_assoc done (tuple_at j ∷ []) (tuples_from (suc j) (length zs))) ∙ ap (mem (done ++ tuple_at j ∷ tuples_from (suc j) (length zs))) (append_assoc ts (Some (pair_block t z) ∷ []) (tuple_blocks zs)));
          leads = leads_more (0 + (2 + (1 + (0 + 3 * length zs)))) (3 * length (z ∷ zs)) (omega arith)
              (leads_then (on (gives (Flag true) (less_true j k lt)) (on (many 1 graph refl (simp sets)) (on (gives (Word (pos (size + j))) (adds size j (omega (arith, lt, small)))) (on (gives (Word (pos (j + 1))) (adds j 1 (omega (arith, lt, small)))) got.way))))
              (leads_then (makes_pair j z (record ready { rest = got.rest }) got.place items ts (op.SetItem (word (to.list + 1)) 3 (Var 4) (Var tv) ∷ []) (list_turn body_ops).exit both.0 both.1 got.key got.value)
              (leads_then writes
              (leads_then {t = asking (j + 1) there (done ++ tuple_at j ∷ raw (length zs)) (ts ++ Some (pair_block t z) ∷ []) waits} (many {t = asking (j + 1) there (done ++ tuple_at j ∷ raw (length zs)) (ts ++ Some (pair_block t z) ∷ []) waits} 1 graph refl (simp sets)) (from_next j there ((done ++ tuple_at j ∷ []) ++ raw (length zs)) (done ++ tuple_at j ∷ raw (length zs)) (ts ++ Some (pair_block t z) ∷ []) one_more same ends.leads)))));
        }

    pub fills : (done : List Value) (before zs : List (Value × Value)) (j : ℕ) (r : Others) (ts : List (Option Block)) → all ≡ before ++ zs → j ≡ length before → length done ≡ j → length ts ≡ j → Returns p args (3 * length zs) (asking j r (done ++ raw (length zs)) ts waits) list waits (record core { blocks = mem (done ++ tuples_from j (length zs)) (ts ++ tuple_blocks zs); steps = paid })
    unfolding list_graph list_blocks list_asks list_turn list_reads gives_block
    fills done before [] j r ts are at done_long ts_long = record {
      end = _;
      same = ap (λ l. forgotten (record core { blocks = mem (done ++ []) l; steps = paid })) (sym (append-nil ts));
      leads = on (gives (Flag false) (less_false j k (let total = length-append before [] in let whole = ap length are in omega (arith, total, whole, long, at)))) (many 2 graph refl refl);
    }
    fills done before (z ∷ zs) j r ts are at done_long ts_long =
        turn done before z zs j r ts are at done_long ts_long (λ r. fills (done ++ tuple_at j ∷ []) (before ++ z ∷ []) zs (suc j) r (ts ++ Some (pair_block t z) ∷ []) (are ∙ sym (append_assoc before (z ∷ []) zs)) (let q = length-append before (z ∷ []) in omega (arith, q, at)) (let q = length-append done (tuple_at j ∷ []) in omega (arith, q, done_long))
        (let q = length-append ts (Some (pair_block t z) ∷ []) in omega (arith, q, ts_long)))
