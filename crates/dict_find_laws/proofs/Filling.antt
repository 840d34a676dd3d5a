-- The loop that fills a list with the keys or the values of a dict.
use Rattle.std.proofs.Common.{◌≡◌, ◌<◌, ◌≤◌, ℕ, ◌+◌, ◌^◌, ◌||◌, false, true, List, [], ◌∷◌, ◌++◌, length, Option, Some, None, pos, refl, sym, ap, ◌∙◌, subst, arith, append_assoc, length-append}
use Rattle.std.specs.Prelude.{slice_get, slice_set, slice_index_or, cond, nat_lt}
use Rattle.std.proofs.lemmas.Bool.Decides.{nat_tests}
use Rattle.csub_tree.specs.State.{Value, Unset, Word, Flag, Ptr, Block, Core, Onward, Stuck}
use Rattle.csub_tree.specs.Layout.{shape_at, shape_over}
use Rattle.csub_tree.specs.Operation.{is_unset, word_of}
use Rattle.csub_tree.specs.Statement.{read, operand, on as on_value, on_block, reached, put_item, set_item, stored as stores}
use Rattle.csub_tree.specs.declared.stuck.StuckReason.TheVariants.{Outside, Unset as IsUnset}
use Rattle.csub_tree.specs.declared.tree.COperand.{COperand}
use Rattle.csub_tree.specs.declared.tree.COperand.TheVariants.{Var}
use Rattle.ll_code.specs.State.{Frame, State, At, Goes}
use Rattle.ll_code.specs.Machine.{step, goes_on, shapes_of}
use Rattle.ll_code.specs.declared.program.LlType.{LlType}
use Rattle.ll_code.specs.declared.program.LlOp.{LlOp}
use Rattle.ll_code.specs.declared.program.LlOp.TheVariants as op
use Rattle.ll_code.specs.declared.program.LlExit.{LlExit}
use Rattle.ll_code.specs.declared.program.LlProgram.{LlProgram}
use Rattle.ll_leads.specs.Memory.{forgotten}
use Rattle.ll_leads.specs.Path.{Leads, Stay, Go, reference_in}
use Rattle.ll_leads.proofs.Joined.{leads_then, leads_more}
use Rattle.ll_leads.proofs.Ways.{on, many, gives}
use Rattle.ll_texts.proofs.Numbers.{adds, less_true, less_false}
use Rattle.ll_texts.proofs.Reading.{below_length, get_mid}
use Rattle.ll_texts.proofs.Writing.{put_mid}
use Rattle.rtyper_layout.specs.Types.{word}
use Rattle.list_shape.specs.Shapes.{gives as gives_block}
use Rattle.list_shape.specs.declared.shape.Shape.{Shape}
use Rattle.rtyper_dict.specs.declared.lists.Part.{Part}
use Rattle.rtyper_dict.specs.declared.parts.DictShape.{DictShape}
use Rattle.rtyper_dict.specs.Listing.{list_asks, list_blocks, list_graph, list_reads, list_turn}
use Rattle.list_laws.proofs.Copying.{array_with}
use Rattle.object_laws.proofs.Blocks.{reach_own}
use Rattle.object_laws.proofs.Calling.{Returns}
use Rattle.list_copy_laws.proofs.Fresh.{head_of, raw, two_more}

put_inner : (bs : List (Option Block)) (x y z : Option Block) → slice_set ((bs ++ x ∷ []) ++ z ∷ []) (length bs) y ≡ (bs ++ y ∷ []) ++ z ∷ []
put_inner [] x y z = refl
put_inner (b ∷ bs) x y z = ap (λ l. b ∷ l) (put_inner bs x y z)

inner_is : (bs : List (Option Block)) (x z : Option Block) → slice_index_or ((bs ++ x ∷ []) ++ z ∷ []) (length bs) None ≡ x
inner_is [] x z = refl
inner_is (b ∷ bs) x z = inner_is bs x z

-- an item of the newest block but one
module _ {p : LlProgram} {args : List (List ℕ)} {ops : List LlOp} {e : LlExit} {frames : List Frame} {core : Core} {n b : ℕ} {i x : COperand} where
  writes_inner : (k : ℕ) (bs : List (Option Block)) (z : Option Block) (fields pre post : List Value) (old v : Value) → shape_at (shapes_of p.structs) n ≡ shape_over n k None → core.blocks ≡ (bs ++ Some (array_with n fields (pre ++ old ∷ post)) ∷ []) ++ z ∷ [] → read core.vars b ≡ Ptr (length bs) → operand core.vars i ≡ Word (pos (length pre))
      → operand core.vars x ≡ v → is_unset v ≡ false → Leads p args 1 (At (op.SetItem n b i x ∷ ops) e frames core) [] (At ops e frames (record core { at = core.at + 1; blocks = (bs ++ Some (array_with n fields (pre ++ v ∷ post)) ∷ []) ++ z ∷ [] }))
  writes_inner k bs z fields pre post old v shape is at place_is value set =
      let items : List Value = pre ++ old ∷ post in
      let block : Block = array_with n fields items in
      let inside : nat_lt (length pre) (length items) ≡ true = (let m : length pre < length items = below_length items (length pre) old (get_mid pre old post (length pre) refl) in grind (arith, nat_tests, m)) in
      let does : set_item core (shapes_of p.structs) n (read core.vars b) (operand core.vars i) (operand core.vars x) ≡ Onward (record core { at = core.at + 1; blocks = (bs ++ Some (array_with n fields (pre ++ v ∷ post)) ∷ []) ++ z ∷ [] }) =
      ap (λ y. set_item core (shapes_of p.structs) n y (operand core.vars i) (operand core.vars x)) at
      ∙ ap (λ y. set_item core (shapes_of p.structs) n (Ptr (length bs)) (operand core.vars i) y) value
      ∙ ap (λ y. set_item core (shapes_of p.structs) n (Ptr (length bs)) y v) place_is
      ∙ ap (λ c. cond c (Stuck IsUnset) (on_value (λ i. on_block (λ block. put_item core (Ptr (length bs)) block i v) (reached core (shapes_of p.structs) n (Ptr (length bs)))) (word_of (Word (pos (length pre)))))) set
      ∙ ap (on_block (λ block. put_item core (Ptr (length bs)) block (pos (length pre)) v)) (reach_own p core (Ptr (length bs)) n k block shape (ap (λ l. slice_index_or l (length bs) None) is ∙ inner_is bs (Some block) z) refl)
      ∙ ap (λ c. cond c (stores core (Ptr (length bs)) (array_with n fields (slice_set items (length pre) v))) (Stuck Outside)) inside
      ∙ ap (λ l. stores core (Ptr (length bs)) (array_with n fields l)) (put_mid pre old post (length pre) v refl)
      ∙ ap (λ l. Onward (record core { at = core.at + 1; blocks = l })) (ap (λ l. slice_set l (length bs) (Some (array_with n fields (pre ++ v ∷ post)))) is ∙ put_inner bs (Some block) (Some (array_with n fields (pre ++ v ∷ post))) z) in
      let goes : step p args (At (op.SetItem n b i x ∷ ops) e frames core) ≡ Goes (At ops e frames (record core { at = core.at + 1; blocks = (bs ++ Some (array_with n fields (pre ++ v ∷ post)) ∷ []) ++ z ∷ [] })) = ap (goes_on (At ops e frames)) does in
      let few = at_most_one (operand core.vars x) in
      record { path = Go goes (Stay (At ops e frames (record core { at = core.at + 1; blocks = (bs ++ Some (array_with n fields (pre ++ v ∷ post)) ∷ []) ++ z ∷ [] }))); few = omega (arith, few) }
    where
      at_most_one : (y : Value) → reference_in y ≤ 1
      at_most_one (Ptr m) = omega arith
      at_most_one _ = omega arith

module _ (p : LlProgram) (args : List (List ℕ)) (f makes : ℕ) (d : DictShape) (of : Part) (to : Shape) (get_op : LlOp) (r_ops : List LlOp) (y : COperand) (types : List LlType)
    (core : Core) (paid : ℕ) (head one two : Value) (k size : ℕ) (Rest : Type 0) (rest_of : Rest → List Value) where
  abbrev pub body_ops : List LlOp
  body_ops = ((list_reads ++ get_op ∷ []) ++ r_ops) ++ op.SetItem (word (to.list + 1)) 3 (Var 4) y ∷ []

  abbrev pub Graph : Type 0
  Graph = slice_get p.graphs f ≡ Some (list_graph makes of d to (record { types = types; ops = body_ops }))

  abbrev pub bs : List (Option Block)
  bs = core.blocks

  abbrev pub array : Value
  array = Ptr (length bs)

  abbrev pub list : Value
  list = head_of bs to.list k (raw k)

  -- what stands in the other variables
  pub record Others : Type 0 where
    pub v5 : Value
    pub v6 : Value
    pub v9 : Value
    pub v10 : Value
    pub v12 : Value
    pub v13 : Value
    pub rest : Rest

  abbrev pub vars : ℕ → Others → List Value
  vars j r = head ∷ Word (pos k) ∷ list ∷ array ∷ Word (pos j) ∷ r.v5 ∷ r.v6 ∷ one ∷ two ∷ r.v9 ∷ r.v10 ∷ Word (pos size) ∷ r.v12 ∷ r.v13 ∷ rest_of r.rest

  abbrev pub over : ℕ → ℕ → ℕ → Others → List Value → Core
  over block at j r items = record core { function = f; block = block; at = at; vars = vars j r; blocks = two_more bs to.list k items; steps = paid }

  abbrev pub asking : ℕ → Others → List Value → List Frame → State
  asking j r items waits = At list_asks.ops list_asks.exit waits (over 2 0 j r items)

  -- the item at a place is read, as what it is
  pub record Got (j : ℕ) (x : Value) (r : Others) (items : List Value) (ops : List LlOp) (e : LlExit) (waits : List Frame) : Type 0 where
    pub v13 : Value
    pub rest : Rest
    pub place : ℕ
    pub way : Leads p args 0 (At (get_op ∷ (r_ops ++ ops)) e waits (over 3 2 j r items)) [] (At ops e waits (over 3 place j (record r { v13 = v13; rest = rest }) items))
    pub is : operand (vars j (record r { v13 = v13; rest = rest })) y ≡ x

  abbrev pub Gets : List Value → Type 0
  Gets xs = (j : ℕ) (x : Value) → slice_get xs j ≡ Some x → (r : Others) → r.v12 ≡ Word (pos (size + j)) → (items : List Value) (ops : List LlOp) (e : LlExit) (waits : List Frame) → Got j x r items ops e waits

  module _ (graph : Graph) (arrays : shape_at (shapes_of p.structs) (word (to.list + 1)) ≡ shape_over (word (to.list + 1)) 1 None) (one_set : is_unset one ≡ false) (two_set : is_unset two ≡ false) (all : List Value) (long : length all ≡ k) (small : size + k < 2 ^ 63) (gets : Gets all) (set : (j : ℕ) (x : Value) → slice_get all j ≡ Some x → is_unset x ≡ false) (waits : List Frame) where
    sets : is_unset one || (is_unset two || false) ≡ false
    sets = ap (λ b. b || (is_unset two || false)) one_set ∙ ap (λ b. b || false) two_set

    from_same : {most : ℕ} {before after : List Value} {t : State} (j : ℕ) (r : Others) → before ≡ after → Leads p args most (asking j r before waits) [] t → Leads p args most (asking j r after waits) [] t
    from_same {most = most} {t = t} j r e way = subst (λ l. Leads p args most (asking j r l waits) [] t) e way

    turn : (done : List Value) (x : Value) (xs : List Value) (j : ℕ) (r : Others) → all ≡ done ++ x ∷ xs → j ≡ length done
        → ((r : Others) → Returns p args (length xs) (asking (j + 1) r ((done ++ x ∷ []) ++ raw (length xs)) waits) list waits (record core { blocks = two_more bs to.list k ((done ++ x ∷ []) ++ xs); steps = paid }))
        → Returns p args (length (x ∷ xs)) (asking j r (done ++ raw (length (x ∷ xs))) waits) list waits (record core { blocks = two_more bs to.list k (done ++ x ∷ xs); steps = paid })
    unfolding list_graph list_blocks list_asks list_turn list_reads
    turn done x xs j r are at after =
        let total = length-append done (x ∷ xs) in
        let whole = ap length are in
        let lt : j < k = omega (arith, total, whole, long, at) in
        let here : slice_get all j ≡ Some x = ap (λ l. slice_get l j) are ∙ get_mid done x xs j at in
        let ready : Others = record r { v5 = Flag true; v6 = Word (pos (j + 1)); v12 = Word (pos (size + j)) } in
        let got = gets j x here ready refl (done ++ raw (length (x ∷ xs))) (op.SetItem (word (to.list + 1)) 3 (Var 4) y ∷ []) (list_turn body_ops).exit waits in
        let there : Others = record ready { v13 = got.v13; rest = got.rest } in
        let ends = after there in
        let same : (done ++ x ∷ []) ++ raw (length xs) ≡ done ++ x ∷ raw (length xs) = append_assoc done (x ∷ []) (raw (length xs)) in
        let same_end : (done ++ x ∷ []) ++ xs ≡ done ++ x ∷ xs = append_assoc done (x ∷ []) xs in
        record {
          end = ends.end;
          same = ends.same ∙ ap (λ l. forgotten (record core { blocks = two_more bs to.list k l; steps = paid })) same_end;
          leads = leads_more (0 + (1 + (0 + length xs))) (length (x ∷ xs)) (omega arith)
              (leads_then (on (gives (Flag true) (less_true j k lt)) (on (many 1 graph refl (simp sets)) (on (gives (Word (pos (size + j))) (adds size j (omega (arith, lt, small)))) (on (gives (Word (pos (j + 1))) (adds j 1 (omega (arith, lt, small)))) got.way))))
              (leads_then (writes_inner 1 bs _ (Word (pos k) ∷ []) done (raw (length xs)) Unset x arrays refl refl (ap (λ n. Word (pos n)) at) got.is (set j x here))
              (leads_then (many 1 graph refl (simp sets)) (from_same (j + 1) there same ends.leads))));
        }

    pub fills : (done xs : List Value) (j : ℕ) (r : Others) → all ≡ done ++ xs → j ≡ length done → Returns p args (length xs) (asking j r (done ++ raw (length xs)) waits) list waits (record core { blocks = two_more bs to.list k (done ++ xs); steps = paid })
    unfolding list_graph list_blocks list_asks list_turn list_reads gives_block
    fills done [] j r are at = record {
      end = _;
      same = refl;
      leads = on (gives (Flag false) (less_false j k (let total = length-append done [] in let whole = ap length are in omega (arith, total, whole, long, at)))) (many 2 graph refl refl);
    }
    fills done (x ∷ xs) j r are at =
        turn done x xs j r are at (λ r. fills (done ++ x ∷ []) xs (j + 1) r (are ∙ sym (append_assoc done (x ∷ []) xs)) (let q = length-append done (x ∷ []) in omega (arith, q, at)))
