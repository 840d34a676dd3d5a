-- A tuple is made: a block whose fields are its items.
use Rattle.std.proofs.Common.{◌≡◌, ◌<◌, ◌≤◌, ℕ, suc, ◌+◌, ◌-◌, ◌==◌, Bool, true, false, List, [], ◌∷◌, ◌++◌, length, map, Option, Some, None, Ok, Err, pos, refl, sym, ap, ◌∙◌, subst, arith, append_assoc, length-append}
use Rattle.std.specs.Prelude.{slice_get, slice_set, slice_index_or, cond, replicate, nat_lt, if◌then◌else◌, unwrap_or}
use Rattle.std.proofs.lemmas.Bool.Decides.{nat_tests}
use Rattle.std.proofs.lemmas.List.{append-nil, get_or-set_same, get_or-set_other, length-set}
use Rattle.ann_element.specs.declared.element.Element.{Element}
use Rattle.csub_tree.specs.State.{Value, Unset, Ptr, Block, Core, Made, Onward, Stuck}
use Rattle.csub_tree.specs.Layout.{Shape, shape_at, shape_over, begins_with, is_among, place as place_in}
use Rattle.csub_tree.specs.Operation.{is_unset}
use Rattle.csub_tree.specs.Statement.{read, operand, block_at, as_struct, reached, on_block, stored as stores, set_field}
use Rattle.csub_tree.specs.declared.stuck.StuckReason.TheVariants.{Kind as BadKind, Unset as IsUnset}
use Rattle.csub_tree.specs.declared.tree.COperand.{COperand}
use Rattle.csub_tree.specs.declared.tree.COperand.TheVariants.{Var, Const}
use Rattle.rpy_tree.specs.Value.{Value as Meant}
use Rattle.rpy_meaning.specs.declared.row.Covers.{Covers}
use Rattle.rpy_meaning.specs.declared.row.RowOp.TheVariants as row
use Rattle.rpy_meaning.specs.Operations.{op as meant_op}
use Rattle.rpy_meaning.specs.Sequences.{tuple}
use Rattle.rpy_meaning.specs.World.{World, Gives, Lacks}
use Rattle.ll_code.specs.State.{Frame, State, At, Goes, Tells}
use Rattle.ll_code.specs.Machine.{step, goes_on, shapes_of}
use Rattle.ll_code.specs.declared.program.LlType.{LlType}
use Rattle.ll_code.specs.declared.program.LlType.TheVariants as type
use Rattle.ll_code.specs.declared.program.LlOp.{LlOp}
use Rattle.ll_code.specs.declared.program.LlOp.TheVariants as op
use Rattle.ll_code.specs.declared.program.LlExit.{LlExit}
use Rattle.ll_code.specs.declared.program.LlProgram.{LlProgram}
use Rattle.ll_held.specs.Held.{is_reference}
use Rattle.ll_leads.specs.Memory.{forgotten}
use Rattle.ll_leads.specs.Path.{Leads, Stay, Go}
use Rattle.ll_leads.proofs.Joined.{leads_then, leads_more}
use Rattle.ll_leads.proofs.Ways.{on, rests, tell, pays, lacks}
use Rattle.ll_texts.proofs.Reading.{get_mid}
use Rattle.ll_texts.proofs.Writing.{newest, put_newest, put_mid}
use Rattle.rtyper_layout.specs.declared.layout.Layout.{Layout}
use Rattle.rtyper_layout.specs.Types.{type_of as element_type, field_type, shape}
use Rattle.rtyper_data.specs.declared.body.Body.{Body}
use Rattle.rtyper_data.specs.Converting.{converted, given, value_as}
use Rattle.rtyper_op.specs.Lowering.{lower_op, lowered, is_never}
use Rattle.rtyper_data.specs.Numbers.{word as word_operand}
use Rattle.rtyper_op.specs.Placing.{says_nothing}
use Rattle.rtyper_data.specs.Seen.{Around, Operand, Place, type_of, with_op, Writing, writing, push}
use Rattle.rtyper_data.specs.Tuples.{fields_of, field_type_of, with_first, parts_from, set_fields, tuple_with, tuple_made, put_tuple, tuple_to}
use Rattle.lower_laws.specs.Done.{Follows, HasTuples, IsDone}
use Rattle.lower_laws.specs.Tuples.{AllStay, IsTuple}
use Rattle.lower_laws.specs.Values.{Holds, Items, AllHold, End, Next, Given, IsBelow, AllBelow}
use Rattle.lower_laws.proofs.Doing.{after, same_type_is}
use Rattle.lower_laws.proofs.Single.{sets}
use Rattle.lower_laws.proofs.Stayed.{field_is, stays_typed, stays_there, stays_comes, stays_held, held_set, all_more}

-- ---- what is written

-- an operand of the type that is asked is given as it is
pub given_same : (around : Around) (a : Operand) (t : LlType) (w : Writing) → type_of around a ≡ t → given around a t w ≡ (a.x, w)
unfolding value_as
given_same around a t w h = ap (λ s. value_as around.layout a.x s t w) h ∙ ap (λ b. if b then (a.x, w) else converted around.layout a.x t t w) (same_type_is t)

-- the operands have the types of the fields from a place on
abbrev FieldsFrom : Around → ℕ → ℕ → List Operand → Type 0
FieldsFrom around n i [] = Unit {0}
FieldsFrom around n i (a ∷ args) = (type_of around a ≡ field_type_of around n i) × FieldsFrom around n (i + 1) args

abbrev operands_of : List Operand → List COperand
operands_of args = map (λ (a : Operand). a.x) args

parts_are : (around : Around) (n i : ℕ) (args : List Operand) (w : Writing) → FieldsFrom around n i args → parts_from around n i args w ≡ (operands_of args, w)
parts_are around n i [] w h = refl
parts_are around n i (a ∷ args) w h =
    ap (λ made. with_first made (λ next. parts_from around n (i + 1) args next)) (given_same around a (field_type_of around n i) w h.0)
    ∙ ap (λ (r : List COperand × Writing). (a.x ∷ r.0, r.1)) (parts_are around n (i + 1) args w h.1)

fields_go : (around : Around) (n : ℕ) (pre : List LlType) (args : List Operand) (parts : List Element) → fields_of around n ≡ pre ++ shape around.layout parts → AllStay around.layout args parts → FieldsFrom around n (length pre) args
fields_go around n pre [] parts h stay = tt
fields_go around n pre (a ∷ args) [] h stay = absurd stay
fields_go around n pre (a ∷ args) (part ∷ parts) h stay =
    let t : LlType = field_type (element_type around.layout part) in
    let there : field_type_of around n (length pre) ≡ t = ap (λ o. unwrap_or o type.Void) (ap (λ ts. slice_get ts (length pre)) h ∙ get_mid pre t (shape around.layout parts) (length pre) refl) in
    let next : fields_of around n ≡ (pre ++ t ∷ []) ++ shape around.layout parts = h ∙ sym (append_assoc pre (t ∷ []) (shape around.layout parts)) in
    let at : length (pre ++ t ∷ []) ≡ length pre + 1 = length-append pre (t ∷ []) in
    (stays_typed stay.0 ∙ sym (field_is (element_type around.layout part) (stays_there stay.0)) ∙ sym there, subst (λ i. FieldsFrom around n i args) at (fields_go around n (pre ++ t ∷ []) args parts next stay.1))

-- the fields from a place on are set
abbrev sets_of : ℕ → ℕ → ℕ → List COperand → List LlOp
sets_of n m i [] = []
sets_of n m i (x ∷ xs) = op.SetField n m i x ∷ sets_of n m (i + 1) xs

set_fields_is : (n m i : ℕ) (xs : List COperand) (body : Body) → set_fields n m i xs body ≡ record body { ops = body.ops ++ sets_of n m i xs }
set_fields_is n m i [] body = ap (λ ops. record body { ops = ops }) (sym (append-nil body.ops))
set_fields_is n m i (x ∷ xs) body = set_fields_is n m (i + 1) xs (with_op (op.SetField n m i x) body) ∙ ap (λ ops. record body { ops = ops }) (append_assoc body.ops (op.SetField n m i x ∷ []) (sets_of n m (i + 1) xs))

all_come : (layout : Layout) (args : List Operand) (parts : List Element) → AllStay layout args parts → is_never args ≡ false
all_come layout [] parts stay = refl
all_come layout (a ∷ args) [] stay = absurd stay
all_come layout (a ∷ args) (part ∷ parts) stay = ap (λ c. if c then true else is_never args) (stays_comes stay.0) ∙ all_come layout args parts stay.1

-- ---- the block

abbrev pub tuple_block : ℕ → List Value → Block
tuple_block n fields = record { kind = n; fields = fields; items = [] }

-- the shape of a struct of so many fields, without a base
abbrev pub own_shape : ℕ → ℕ → Shape
own_shape n k = shape_over n k None

begins_itself : (shapes : List Shape) (n k : ℕ) → shape_at shapes n ≡ own_shape n k → begins_with shapes n n ≡ true
begins_itself shapes n k h = ap (λ (s : Shape). is_among n s.bases) h ∙ ap (λ b. cond b true false) (let e : (n == n) ≡ true = grind (arith, nat_tests) in e)

pub reach_tuple : (p : LlProgram) (core : Core) (x : Value) (n k : ℕ) (fields : List Value) → is_unset x ≡ false → block_at core x ≡ Some (tuple_block n fields) → shape_at (shapes_of p.structs) n ≡ own_shape n k → reached core (shapes_of p.structs) n x ≡ Ok (tuple_block n fields)
reach_tuple p core x n k fields u is h =
    ap (λ b. cond b (Err IsUnset) (as_struct (shapes_of p.structs) n (block_at core x))) u ∙ ap (as_struct (shapes_of p.structs) n) is
    ∙ ap (λ b. cond b (Ok (tuple_block n fields)) (Err BadKind)) (begins_itself (shapes_of p.structs) n k h)

pub place_is_own : (s : Shape) (n k i : ℕ) → s ≡ own_shape n k → place_in s i ≡ i
place_is_own s n k i h = ap (λ s. place_in s i) h ∙ (let e : 0 + (i - 0) ≡ i = omega arith in e)

at_most_one : (b : Bool) → cond b 1 0 ≤ 1
at_most_one true = omega arith
at_most_one false = omega arith

module _ {p : LlProgram} {args : List (List ℕ)} where
  makes_block : {ops : List LlOp} {e : LlExit} {frames : List Frame} {core : Core} {a n : ℕ} (k : ℕ) → shape_at (shapes_of p.structs) n ≡ own_shape n k
      → Leads p args 0 (At (op.New a n n ∷ ops) e frames core) [] (At ops e frames (record core {
        at = core.at + 1;
        vars = slice_set core.vars a (Ptr (length core.blocks));
        blocks = core.blocks ++ Some (tuple_block n (replicate k Unset)) ∷ [];
      }))
  makes_block {ops = ops} {e = e} {frames = frames} {core = core} {a = a} {n = n} k h =
      tell (ap (λ (s : Shape). Tells (Made (length core.blocks) n (s.size + 0)) (At ops e frames (record core {
        at = core.at + 1;
        vars = slice_set core.vars a (Ptr (length core.blocks));
        blocks = core.blocks ++ Some (tuple_block n (replicate s.size Unset)) ∷ [];
      }))) h) refl

  -- one field of the newest block
  writes_field : {ops : List LlOp} {e : LlExit} {frames : List Frame} {core : Core} {m n : ℕ} {x : COperand} (k : ℕ) (bs : List (Option Block)) (pre post : List Value) (old v : Value) → shape_at (shapes_of p.structs) n ≡ own_shape n k
      → core.blocks ≡ bs ++ Some (tuple_block n (pre ++ old ∷ post)) ∷ [] → read core.vars m ≡ Ptr (length bs) → operand core.vars x ≡ v → is_unset v ≡ false
      → Leads p args 1 (At (op.SetField n m (length pre) x ∷ ops) e frames core) [] (At ops e frames (record core { at = core.at + 1; blocks = bs ++ Some (tuple_block n (pre ++ v ∷ post)) ∷ [] }))
  writes_field {ops = ops} {e = e} {frames = frames} {core = core} {m = m} {n = n} {x = x} k bs pre post old v h at to is set =
      let block : Block = tuple_block n (pre ++ old ∷ post) in
      let does : set_field core (shapes_of p.structs) n (read core.vars m) (length pre) (operand core.vars x) ≡ Onward (record core { at = core.at + 1; blocks = bs ++ Some (tuple_block n (pre ++ v ∷ post)) ∷ [] }) =
      ap (λ y. set_field core (shapes_of p.structs) n y (length pre) (operand core.vars x)) to
      ∙ ap (λ y. set_field core (shapes_of p.structs) n (Ptr (length bs)) (length pre) y) is
      ∙ ap (λ b. cond b (Stuck IsUnset) (on_block (λ block. stores core (Ptr (length bs)) (record block { fields = slice_set block.fields (place_in (shape_at (shapes_of p.structs) n) (length pre)) v })) (reached core (shapes_of p.structs) n (Ptr (length bs))))) set
      ∙ ap (on_block (λ block. stores core (Ptr (length bs)) (record block { fields = slice_set block.fields (place_in (shape_at (shapes_of p.structs) n) (length pre)) v })))
      (reach_tuple p core (Ptr (length bs)) n k (pre ++ old ∷ post) refl (ap (λ l. slice_index_or l (length bs) None) at ∙ newest bs (Some block) None) h)
      ∙ ap (λ i. stores core (Ptr (length bs)) (tuple_block n (slice_set (pre ++ old ∷ post) i v))) (place_is_own (shape_at (shapes_of p.structs) n) n k (length pre) h)
      ∙ ap (λ l. stores core (Ptr (length bs)) (tuple_block n l)) (put_mid pre old post (length pre) v refl)
      ∙ ap (λ l. Onward (record core { at = core.at + 1; blocks = l })) (ap (λ l. slice_set l (length bs) (Some (tuple_block n (pre ++ v ∷ post)))) at ∙ put_newest bs (Some block) (Some (tuple_block n (pre ++ v ∷ post)))) in
      let goes : step p args (At (op.SetField n m (length pre) x ∷ ops) e frames core) ≡ Goes (At ops e frames (record core { at = core.at + 1; blocks = bs ++ Some (tuple_block n (pre ++ v ∷ post)) ∷ [] })) = ap (goes_on (At ops e frames)) does in
      let few = at_most_one (is_reference (operand core.vars x)) in
      record { path = Go goes (Stay (At ops e frames (record core { at = core.at + 1; blocks = bs ++ Some (tuple_block n (pre ++ v ∷ post)) ∷ [] }))); few = omega (arith, few) }

-- ---- all fields

abbrev values_of : Core → List Operand → List Value
values_of core args = map (λ (a : Operand). operand core.vars a.x) args

-- each operand is set
abbrev AllSet : Core → List Operand → Type 0
AllSet core [] = Unit {0}
AllSet core (a ∷ args) = (is_unset (operand core.vars a.x) ≡ false) × AllSet core args

record Filled (p : LlProgram) (arguments : List (List ℕ)) (n m i : ℕ) (args : List Operand) (rest : List LlOp) (e : LlExit) (frames : List Frame) (core : Core) (bs : List (Option Block)) (fields : List Value) : Type 0 where
  end : Core
  leads : Leads p arguments (length args) (At (sets_of n m i (operands_of args) ++ rest) e frames core) [] (At rest e frames end)
  memory : forgotten end ≡ forgotten (record core { blocks = bs ++ Some (tuple_block n fields) ∷ [] })
  vars : end.vars ≡ core.vars
  function : end.function ≡ core.function
  block : end.block ≡ core.block

filled : (p : LlProgram) (arguments : List (List ℕ)) (n m k i : ℕ) (pre : List Value) (args : List Operand) (rest : List LlOp) (e : LlExit) (frames : List Frame) (core : Core) (bs : List (Option Block)) → shape_at (shapes_of p.structs) n ≡ own_shape n k → i ≡ length pre
    → core.blocks ≡ bs ++ Some (tuple_block n (pre ++ replicate (length args) Unset)) ∷ [] → read core.vars m ≡ Ptr (length bs) → AllSet core args → Filled p arguments n m i args rest e frames core bs (pre ++ values_of core args)
filled p arguments n m k i pre [] rest e frames core bs h j at to set = record {
  end = core;
  leads = rests;
  memory = ap (λ l. forgotten (record core { blocks = l })) at;
  vars = refl;
  function = refl;
  block = refl;
}
filled p arguments n m k i pre (a ∷ args) rest e frames core bs h j at to set =
    let v : Value = operand core.vars a.x in
    let later : List Value = replicate (length args) Unset in
    let next : Core = record core { at = core.at + 1; blocks = bs ++ Some (tuple_block n (pre ++ v ∷ later)) ∷ [] } in
    let long : length (pre ++ v ∷ []) ≡ length pre + 1 = length-append pre (v ∷ []) in
    let more = filled p arguments n m k (i + 1) (pre ++ v ∷ []) args rest e frames next bs h (omega (arith, j, long)) (ap (λ l. bs ++ Some (tuple_block n l) ∷ []) (sym (append_assoc pre (v ∷ []) later))) to set.1 in
    let first : Leads p arguments 1 (At (op.SetField n m i a.x ∷ sets_of n m (i + 1) (operands_of args) ++ rest) e frames core) [] (At (sets_of n m (i + 1) (operands_of args) ++ rest) e frames next) =
    subst (λ i2. Leads p arguments 1 (At (op.SetField n m i2 a.x ∷ sets_of n m (i + 1) (operands_of args) ++ rest) e frames core) [] (At (sets_of n m (i + 1) (operands_of args) ++ rest) e frames next)) (sym j)
    (writes_field k bs pre later Unset v h at to refl set.0) in
    record {
      end = more.end;
      leads = leads_more (1 + length args) (length (a ∷ args)) (omega arith) (leads_then first more.leads);
      memory = more.memory ∙ ap (λ l. forgotten (record core { blocks = bs ++ Some (tuple_block n l) ∷ [] })) (append_assoc pre (v ∷ []) (values_of core args));
      vars = more.vars;
      function = more.function;
      block = more.block;
    }

-- ---- values

all_set : (around : Around) (core : Core) (args : List Operand) (vs : List Meant) → Given around core args vs → AllSet core args
all_set around core [] vs given = tt
all_set around core (a ∷ args) [] given = absurd given
all_set around core (a ∷ args) (v ∷ vs) given = (held_set given.0, all_set around core args vs given.1)

all_held : (around : Around) (core : Core) (args : List Operand) (parts : List Element) (vs : List Meant) → AllStay around.layout args parts → Given around core args vs → AllHold around.layout core.blocks core.statics parts (values_of core args) vs
all_held around core [] [] [] stay given = End
all_held around core [] [] (v ∷ vs) stay given = absurd given
all_held around core [] (part ∷ parts) vs stay given = absurd stay
all_held around core (a ∷ args) [] vs stay given = absurd stay
all_held around core (a ∷ args) (part ∷ parts) [] stay given = absurd given
all_held around core (a ∷ args) (part ∷ parts) (v ∷ vs) stay given = Next (stays_held stay.0 given.0) (all_held around core args parts vs stay.1 given.1)

shape_long : (layout : Layout) (args : List Operand) (parts : List Element) → AllStay layout args parts → length (shape layout parts) ≡ length args
shape_long layout [] [] stay = refl
shape_long layout [] (part ∷ parts) stay = absurd stay
shape_long layout (a ∷ args) [] stay = absurd stay
shape_long layout (a ∷ args) (part ∷ parts) stay = ap suc (shape_long layout args parts stay.1)

one_kept : (old new : List Value) (below : ℕ) → ((v : ℕ) → v < below → read new v ≡ read old v) → (x : COperand) → IsBelow below x → operand new x ≡ operand old x
one_kept old new below others (Var v) h = others v h
one_kept old new below others (Const c) h = refl

values_kept : (old new : Core) (below : ℕ) → ((v : ℕ) → v < below → read new.vars v ≡ read old.vars v) → (args : List Operand) → AllBelow below args → values_of new args ≡ values_of old args
values_kept old new below others [] under = refl
values_kept old new below others (a ∷ args) under = ap (λ x. x ∷ values_of new args) (one_kept old.vars new.vars below others a.x under.0) ∙ ap (λ xs. operand old.vars a.x ∷ xs) (values_kept old new below others args under.1)

sets_kept : (old new : Core) (below : ℕ) → ((v : ℕ) → v < below → read new.vars v ≡ read old.vars v) → (args : List Operand) → AllBelow below args → AllSet old args → AllSet new args
sets_kept old new below others [] under set = tt
sets_kept old new below others (a ∷ args) under set = (ap is_unset (one_kept old.vars new.vars below others a.x under.0) ∙ set.0, sets_kept old new below others args under.1 set.1)

-- ---- a display

module _ (around : Around) (place : Place) (args : List Operand) (w : Writing) (covers : Covers) (n : ℕ) (parts : List Element) (of : IsTuple around place.element n parts) (stay : AllStay around.layout args parts) where
  -- the variable of the block
  abbrev made : ℕ
  made = length w.body.types

  abbrev display : List LlOp
  display = op.Step (word_operand (pos 1)) ∷ op.New made n n ∷ sets_of n made 0 (operands_of args) ++ op.Set place.variable (Var made) ∷ []

  abbrev begun : Body
  begun = record { types = w.body.types ++ type.Ptr n ∷ []; ops = (w.body.ops ++ op.Step (word_operand (pos 1)) ∷ []) ++ op.New made n n ∷ [] }

  is_made : tuple_made around n args (push (op.Step (word_operand (pos 1))) w) ≡ (made, writing w.found (record begun { ops = begun.ops ++ sets_of n made 0 (operands_of args) }))
  unfolding tuple_made
  is_made = ap (tuple_with n) (parts_are around n 0 args (push (op.Step (word_operand (pos 1))) w) (fields_go around n [] args parts of.fields stay)) ∙ ap (λ body. (made, writing w.found body)) (set_fields_is n made 0 (operands_of args) begun)

  all_ops : (xs ys : List LlOp) (a b c : LlOp) → (((xs ++ a ∷ []) ++ b ∷ []) ++ ys) ++ c ∷ [] ≡ xs ++ (a ∷ b ∷ ys ++ c ∷ [])
  all_ops xs ys a b c = append_assoc ((xs ++ a ∷ []) ++ b ∷ []) ys (c ∷ []) ∙ append_assoc (xs ++ a ∷ []) (b ∷ []) (ys ++ c ∷ []) ∙ append_assoc xs (a ∷ []) (b ∷ ys ++ c ∷ [])

  is_written : lower_op around row.Tuple place args w ≡ writing w.found (record { types = w.body.types ++ type.Ptr n ∷ []; ops = (begun.ops ++ sets_of n made 0 (operands_of args)) ++ op.Set place.variable (Var made) ∷ [] })
  is_written = ap (λ c. if c then says_nothing around place w else lowered around place row.Tuple args w) (all_come around.layout args parts stay)
      ∙ ap (λ t. tuple_to around place args t (push (op.Step (word_operand (pos 1))) w)) of.typed
      ∙ ap (λ c. if c then put_tuple place (tuple_made around n args (push (op.Step (word_operand (pos 1))) w)) else push (op.Step (word_operand (pos 1))) w) of.struct
      ∙ ap (put_tuple place) is_made

  module _ (p : LlProgram) (arguments : List (List ℕ)) (raised : ℕ → Value) (rest : List LlOp) (e : LlExit) (frames : List Frame) (core : Core) (world : World) (vs : List Meant) (tuples : HasTuples p around.layout) (left : world.left ≡ core.steps) (room : length w.body.types + 1 ≤ length core.vars) (inside : place.variable < length w.body.types) (below : AllBelow (length w.body.types) args) (given : Given around core args vs) where
    abbrev Here : State
    Here = At (op.Step (word_operand (pos 1)) ∷ op.New made n n ∷ sets_of n made 0 (operands_of args) ++ (op.Set place.variable (Var made) ∷ rest)) e frames core

    shaped : shape_at (shapes_of p.structs) n ≡ own_shape n (length args)
    shaped = tuples n of.struct ∙ ap (λ k. shape_over n k None) (ap length of.fields ∙ shape_long around.layout args parts stay)

    paid : (c : Bool) → nat_lt world.left 1 ≡ c → Follows around place p arguments Here rest e frames core raised (length args) (length w.body.types) world (if c then Lacks else Gives (tuple vs) (record world { left = world.left - 1 }))
    paid true c = record {
      last = Here;
      leads = rests;
      ends = lacks p arguments (op.New made n n ∷ sets_of n made 0 (operands_of args) ++ (op.Set place.variable (Var made) ∷ rest)) e frames core (word_operand (pos 1)) 1 refl (let few : world.left < 1 = grind (arith, nat_tests, c) in omega (arith, few, left));
      blocks = refl;
      holds = λ placed b h. h;
    }
    paid false c =
        let enough : 1 ≤ world.left = grind (arith, nat_tests, c) in
        let stepped : Core = record core { at = core.at + 1; steps = world.left - 1 } in
        let there : made < length core.vars = omega (arith, room) in
        let pointer : Value = Ptr (length core.blocks) in
        let fresh : Core = record stepped { at = stepped.at + 1; vars = slice_set core.vars made pointer; blocks = core.blocks ++ Some (tuple_block n (replicate (length args) Unset)) ∷ [] } in
        let others : (v : ℕ) → v < length w.body.types → read fresh.vars v ≡ read core.vars v = λ v under. get_or-set_other core.vars made v pointer _ (λ same. absurd (omega (arith, under, same))) in
        let same_values = values_kept core fresh (length w.body.types) others args below in
        let set = sets_kept core fresh (length w.body.types) others args below (all_set around core args vs given) in
        let f = filled p arguments n made (length args) 0 [] args (op.Set place.variable (Var made) ∷ rest) e frames fresh core.blocks shaped refl refl (get_or-set_same core.vars made pointer Unset there) set in
        let long : length fresh.vars ≡ length core.vars = length-set core.vars made pointer in
        let held : read f.end.vars made ≡ pointer = ap (λ l. read l made) f.vars ∙ get_or-set_same core.vars made pointer Unset there in
        let end : Core = after f.end place.variable pointer in
        let block : Block = tuple_block n (values_of core args) in
        let memory : forgotten end ≡ forgotten (record core { blocks = core.blocks ++ Some block ∷ []; steps = world.left - 1 }) = f.memory ∙ ap (λ l. forgotten (record core { blocks = core.blocks ++ Some (tuple_block n l) ∷ []; steps = world.left - 1 })) same_values in
        let result : read end.vars place.variable ≡ pointer = get_or-set_same f.end.vars place.variable pointer Unset (let l : length f.end.vars ≡ length fresh.vars = ap length f.vars in omega (arith, l, long, room, inside)) in
        let items : AllHold around.layout (core.blocks ++ Some block ∷ []) core.statics parts (values_of core args) vs = all_more (Some block ∷ []) (all_held around core args parts vs stay given) in
        record {
          end = end;
          text = [];
          leads = leads_more (0 + (length args + 0)) (length args) (omega arith) (leads_then (on (pays 1 (world.left - 1) refl (omega (arith, left, enough))) (makes_block (length args) shaped)) (leads_then f.leads (sets pointer held refl)));
          made = block ∷ [];
          few = omega arith;
          memory = memory;
          holds = subst (λ x. Holds around.layout end.blocks end.statics place.element x (tuple vs)) (sym result)
              (subst (λ (c : Core). Holds around.layout c.blocks c.statics place.element pointer (tuple vs)) (sym memory) (Items parts n (values_of core args) vs of.is refl of.typed (newest core.blocks (Some block) None) items));
          others = λ v under other. get_or-set_other f.end.vars place.variable v pointer _ other ∙ ap (λ l. read l v) f.vars ∙ others v under;
          room = length-set f.end.vars place.variable pointer ∙ ap length f.vars ∙ long;
          function = f.function;
          block = f.block;
          out = sym (append-nil world.out);
          heap = refl;
        }

  pub tuple_is_done : IsDone around row.Tuple covers [] place args w
  tuple_is_done = record {
    ops = display;
    new = type.Ptr n ∷ [];
    asked = ap (λ (r : Writing). r.found) is_written;
    written = ap (λ (r : Writing). r.body.ops) is_written ∙ all_ops w.body.ops (sets_of n made 0 (operands_of args)) (op.Step (word_operand (pos 1))) (op.New made n n) (op.Set place.variable (Var made));
    types = ap (λ (r : Writing). r.body.types) is_written;
    follows = λ program p numbers raised arguments rest e frames core world vs structs has left room inside below given good.
        subst (λ ops. Follows around place p arguments (At (op.Step (word_operand (pos 1)) ∷ op.New made n n ∷ ops) e frames core) rest e frames core raised (length args) (length w.body.types) world (meant_op program covers row.Tuple vs world)) (sym (append_assoc (sets_of n made 0 (operands_of args)) (op.Set place.variable (Var made) ∷ []) rest))
        (paid p arguments raised rest e frames core world vs structs.tuples left room inside below given (nat_lt world.left 1) refl);
  }
