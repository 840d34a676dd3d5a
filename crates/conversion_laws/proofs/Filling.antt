-- A block is made, and its fields are set; and a call that comes back.
use Rattle.std.proofs.Common.{◌≡◌, ◌≤◌, ℕ, ◌+◌, Bool, true, false, List, [], ◌∷◌, ◌++◌, length, map, Option, Some, None, refl, sym, ap, ◌∙◌, subst, arith, append_assoc, length-append}
use Rattle.std.specs.Prelude.{slice_set, slice_index_or, cond, replicate}
use Rattle.csub_tree.specs.State.{Value, Unset, Ptr, Block, Core, Made, Onward, Stuck}
use Rattle.csub_tree.specs.Layout.{Shape, shape_at, place as place_in}
use Rattle.csub_tree.specs.Operation.{is_unset}
use Rattle.csub_tree.specs.Statement.{read, operand, operands, any_unset, reached, on_block, stored as stores, set_field}
use Rattle.csub_tree.specs.declared.stuck.StuckReason.TheVariants.{Unset as IsUnset}
use Rattle.csub_tree.specs.declared.tree.COperand.{COperand}
use Rattle.ll_code.specs.State.{Frame, Calling, At, Returning, Goes, Sticks, Tells}
use Rattle.ll_code.specs.Machine.{step, goes_on, shapes_of, waiting}
use Rattle.ll_code.specs.declared.program.LlOp.{LlOp}
use Rattle.ll_code.specs.declared.program.LlOp.TheVariants as op
use Rattle.ll_code.specs.declared.program.LlExit.{LlExit}
use Rattle.ll_code.specs.declared.program.LlProgram.{LlProgram}
use Rattle.ll_held.specs.Held.{is_reference}
use Rattle.ll_leads.specs.Memory.{forgotten}
use Rattle.ll_leads.specs.Path.{Leads, Stay, Go}
use Rattle.ll_leads.proofs.Joined.{leads_then, leads_more}
use Rattle.ll_leads.proofs.Ways.{rests, one, tell}
use Rattle.ll_texts.proofs.Writing.{newest, put_newest, put_mid}
use Rattle.lower_laws.proofs.Tupled.{tuple_block, own_shape, reach_tuple, place_is_own}
use Rattle.object_laws.proofs.Calling.{back}
use Rattle.conversion_laws.proofs.Rows.{sets_of}

-- ---- the block

at_most_one : (b : Bool) → cond b 1 0 ≤ 1
at_most_one true = omega arith
at_most_one false = omega arith

module _ {p : LlProgram} {args : List (List ℕ)} where
  pub makes_block : {ops : List LlOp} {e : LlExit} {frames : List Frame} {core : Core} {a n : ℕ} (k : ℕ) → shape_at (shapes_of p.structs) n ≡ own_shape n k
      → Leads p args 0 (At (op.New a n n ∷ ops) e frames core) [] (At ops e frames (record core {
        at = core.at + 1;
        vars = slice_set core.vars a (Ptr (length core.blocks));
        blocks = core.blocks ++ Some (tuple_block n (replicate k Unset)) ∷ [];
      }))
  makes_block {ops = ops} {e = e} {frames = frames} {core = core} {a = a} {n = n} k h =
      tell (ap (λ (s : Shape). Tells (Made (length core.blocks) n (s.size + 0)) (At ops e frames (record core {
        at = core.at + 1;
        vars = slice_set core.vars a (Ptr (length core.blocks));
        blocks = core.blocks ++ Some (tuple_block n (replicate s.size Unset)) ∷ [];
      }))) h) refl

  -- one field of the newest block
  writes_field : {ops : List LlOp} {e : LlExit} {frames : List Frame} {core : Core} {m n : ℕ} {x : COperand} (k : ℕ) (bs : List (Option Block)) (pre post : List Value) (old v : Value) → shape_at (shapes_of p.structs) n ≡ own_shape n k
      → core.blocks ≡ bs ++ Some (tuple_block n (pre ++ old ∷ post)) ∷ [] → read core.vars m ≡ Ptr (length bs) → operand core.vars x ≡ v → is_unset v ≡ false
      → Leads p args 1 (At (op.SetField n m (length pre) x ∷ ops) e frames core) [] (At ops e frames (record core { at = core.at + 1; blocks = bs ++ Some (tuple_block n (pre ++ v ∷ post)) ∷ [] }))
  writes_field {ops = ops} {e = e} {frames = frames} {core = core} {m = m} {n = n} {x = x} k bs pre post old v h at to is set =
      let block : Block = tuple_block n (pre ++ old ∷ post) in
      let does : set_field core (shapes_of p.structs) n (read core.vars m) (length pre) (operand core.vars x) ≡ Onward (record core { at = core.at + 1; blocks = bs ++ Some (tuple_block n (pre ++ v ∷ post)) ∷ [] }) =
      ap (λ y. set_field core (shapes_of p.structs) n y (length pre) (operand core.vars x)) to
      ∙ ap (λ y. set_field core (shapes_of p.structs) n (Ptr (length bs)) (length pre) y) is
      ∙ ap (λ b. cond b (Stuck IsUnset) (on_block (λ block. stores core (Ptr (length bs)) (record block { fields = slice_set block.fields (place_in (shape_at (shapes_of p.structs) n) (length pre)) v })) (reached core (shapes_of p.structs) n (Ptr (length bs))))) set
      ∙ ap (on_block (λ block. stores core (Ptr (length bs)) (record block { fields = slice_set block.fields (place_in (shape_at (shapes_of p.structs) n) (length pre)) v })))
      (reach_tuple p core (Ptr (length bs)) n k (pre ++ old ∷ post) refl (ap (λ l. slice_index_or l (length bs) None) at ∙ newest bs (Some block) None) h)
      ∙ ap (λ i. stores core (Ptr (length bs)) (tuple_block n (slice_set (pre ++ old ∷ post) i v))) (place_is_own (shape_at (shapes_of p.structs) n) n k (length pre) h)
      ∙ ap (λ l. stores core (Ptr (length bs)) (tuple_block n l)) (put_mid pre old post (length pre) v refl)
      ∙ ap (λ l. Onward (record core { at = core.at + 1; blocks = l })) (ap (λ l. slice_set l (length bs) (Some (tuple_block n (pre ++ v ∷ post)))) at ∙ put_newest bs (Some block) (Some (tuple_block n (pre ++ v ∷ post)))) in
      let goes : step p args (At (op.SetField n m (length pre) x ∷ ops) e frames core) ≡ Goes (At ops e frames (record core { at = core.at + 1; blocks = bs ++ Some (tuple_block n (pre ++ v ∷ post)) ∷ [] })) = ap (goes_on (At ops e frames)) does in
      let few = at_most_one (is_reference (operand core.vars x)) in
      record { path = Go goes (Stay (At ops e frames (record core { at = core.at + 1; blocks = bs ++ Some (tuple_block n (pre ++ v ∷ post)) ∷ [] }))); few = omega (arith, few) }

-- ---- all fields

abbrev pub values_of : List Value → List COperand → List Value
values_of vars xs = map (λ x. operand vars x) xs

-- each is set
abbrev pub AllSet : List Value → List COperand → Type 0
AllSet vars [] = Unit {0}
AllSet vars (x ∷ xs) = (is_unset (operand vars x) ≡ false) × AllSet vars xs

pub record Filled (p : LlProgram) (arguments : List (List ℕ)) (n m i : ℕ) (xs : List COperand) (rest : List LlOp) (e : LlExit) (frames : List Frame) (core : Core) (bs : List (Option Block)) (fields : List Value) : Type 0 where
  pub end : Core
  pub leads : Leads p arguments (length xs) (At (sets_of n m i xs ++ rest) e frames core) [] (At rest e frames end)
  pub memory : forgotten end ≡ forgotten (record core { blocks = bs ++ Some (tuple_block n fields) ∷ [] })
  pub vars : end.vars ≡ core.vars
  pub function : end.function ≡ core.function
  pub block : end.block ≡ core.block

pub filled : (p : LlProgram) (arguments : List (List ℕ)) (n m k i : ℕ) (pre : List Value) (xs : List COperand) (rest : List LlOp) (e : LlExit) (frames : List Frame) (core : Core) (bs : List (Option Block)) → shape_at (shapes_of p.structs) n ≡ own_shape n k → i ≡ length pre
    → core.blocks ≡ bs ++ Some (tuple_block n (pre ++ replicate (length xs) Unset)) ∷ [] → read core.vars m ≡ Ptr (length bs) → AllSet core.vars xs → Filled p arguments n m i xs rest e frames core bs (pre ++ values_of core.vars xs)
filled p arguments n m k i pre [] rest e frames core bs h j at to set = record {
  end = core;
  leads = rests;
  memory = ap (λ l. forgotten (record core { blocks = l })) at;
  vars = refl;
  function = refl;
  block = refl;
}
filled p arguments n m k i pre (x ∷ xs) rest e frames core bs h j at to set =
    let v : Value = operand core.vars x in
    let later : List Value = replicate (length xs) Unset in
    let next : Core = record core { at = core.at + 1; blocks = bs ++ Some (tuple_block n (pre ++ v ∷ later)) ∷ [] } in
    let long : length (pre ++ v ∷ []) ≡ length pre + 1 = length-append pre (v ∷ []) in
    let more = filled p arguments n m k (i + 1) (pre ++ v ∷ []) xs rest e frames next bs h (omega (arith, j, long)) (ap (λ l. bs ++ Some (tuple_block n l) ∷ []) (sym (append_assoc pre (v ∷ []) later))) to set.1 in
    let first : Leads p arguments 1 (At (op.SetField n m i x ∷ sets_of n m (i + 1) xs ++ rest) e frames core) [] (At (sets_of n m (i + 1) xs ++ rest) e frames next) =
    subst (λ i2. Leads p arguments 1 (At (op.SetField n m i2 x ∷ sets_of n m (i + 1) xs ++ rest) e frames core) [] (At (sets_of n m (i + 1) xs ++ rest) e frames next)) (sym j)
    (writes_field k bs pre later Unset v h at to refl set.0) in
    record {
      end = more.end;
      leads = leads_more (1 + length xs) (length (x ∷ xs)) (omega arith) (leads_then first more.leads);
      memory = more.memory ∙ ap (λ l. forgotten (record core { blocks = bs ++ Some (tuple_block n l) ∷ [] })) (append_assoc pre (v ∷ []) (values_of core.vars xs));
      vars = more.vars;
      function = more.function;
      block = more.block;
    }

-- ---- a call

module _ {p : LlProgram} {args : List (List ℕ)} {into : Option ℕ} {f : ℕ} {xs : List COperand} {ops : List LlOp} {e : LlExit} {frames : List Frame} {core end : Core} {values : List Value} {value : Value} where
  pub comes_back : (most : ℕ) → operands core.vars xs ≡ values → any_unset values ≡ false → Leads p args most (Calling f values (waiting core into ops e ∷ frames) core) [] (Returning value (waiting core into ops e ∷ frames) end)
      → Leads p args most (At (op.Call into f xs ∷ ops) e frames core) [] (At ops e frames (back core end into value))
  comes_back most same set go =
      let enters : Leads p args 0 (At (op.Call into f xs ∷ ops) e frames core) [] (Calling f values (waiting core into ops e ∷ frames) core) =
      one (ap (λ vs. cond (any_unset vs) (Sticks IsUnset) (Goes (Calling f vs (waiting core into ops e ∷ frames) core))) same ∙ ap (λ b. cond b (Sticks IsUnset) (Goes (Calling f values (waiting core into ops e ∷ frames) core))) set) refl in
      let leaves : Leads p args 0 (Returning value (waiting core into ops e ∷ frames) end) [] (At ops e frames (back core end into value)) = one refl refl in
      leads_more (0 + (most + 0)) most (omega arith) (leads_then enters (leads_then go leaves))
