-- A tuple is made of items that are converted.
use Rattle.std.proofs.Common.{◌≡◌, ◌<◌, ◌≤◌, ℕ, suc, ◌+◌, ◌-◌, Bool, true, false, List, [], ◌∷◌, ◌++◌, length, map, pos, Option, Some, None, refl, sym, ap, ◌∙◌, subst, arith, append_assoc, length-append}
use Rattle.std.specs.Prelude.{slice_get, slice_set, cond, nat_lt, replicate, unwrap_or, if◌then◌else◌}
use Rattle.std.proofs.lemmas.Bool.Decides.{nat_tests}
use Rattle.std.proofs.lemmas.List.{append-nil, get_or-set_same, get_or-set_other, length-set}
use Rattle.ann_element.specs.declared.element.Element.{Element}
use Rattle.csub_tree.specs.State.{Value, Ptr, Unset, Block, Core}
use Rattle.csub_tree.specs.Layout.{shape_at, shape_over}
use Rattle.csub_tree.specs.Operation.{is_unset}
use Rattle.csub_tree.specs.Statement.{read, operand, operands}
use Rattle.csub_tree.specs.declared.tree.COperand.{COperand}
use Rattle.csub_tree.specs.declared.tree.COperand.TheVariants.{Var, Const}
use Rattle.ll_code.specs.Machine.{shapes_of}
use Rattle.ll_code.specs.State.{Frame, State, At}
use Rattle.ll_code.specs.declared.program.LlType.{LlType}
use Rattle.ll_code.specs.declared.program.LlType.TheVariants as type
use Rattle.ll_code.specs.declared.program.LlOp.{LlOp}
use Rattle.ll_code.specs.declared.program.LlOp.TheVariants as op
use Rattle.ll_code.specs.declared.program.LlExit.{LlExit}
use Rattle.ll_code.specs.declared.program.LlProgram.{LlProgram}
use Rattle.ll_leads.specs.Memory.{forgotten}
use Rattle.ll_leads.specs.Path.{Leads}
use Rattle.ll_leads.proofs.Joined.{leads_then, leads_more}
use Rattle.ll_leads.proofs.Ways.{rests, pays, lacks}
use Rattle.ll_build.specs.Build.{word as word_operand}
use Rattle.ll_build.specs.declared.needs.Numbers.{Numbers}
use Rattle.ll_texts.proofs.Reading.{get_mid}
use Rattle.rpy_meaning.specs.declared.row.Covers.{Covers}
use Rattle.rpy_meaning.specs.declared.row.RowOp.TheVariants as row
use Rattle.rpy_meaning.specs.Operations.{op as meant_op}
use Rattle.rpy_meaning.specs.Sequences.{tuple}
use Rattle.rpy_meaning.specs.World.{World, Answer, Gives, Lacks}
use Rattle.rpy_tree.specs.Value.{Value as Meant, Heap}
use Rattle.rtyper_layout.specs.declared.layout.Layout.{Layout}
use Rattle.rtyper_layout.specs.Layout.{is_tuple}
use Rattle.rtyper_layout.specs.Types.{type_of as type_of_element, type_seen, shape, field_type}
use Rattle.rtyper_op.specs.Lowering.{is_never, lower_op, lowered}
use Rattle.rtyper_op.specs.Placing.{says_nothing}
use Rattle.rtyper_data.specs.declared.body.Body.{Body}
use Rattle.rtyper_data.specs.declared.found.Found.{Found}
use Rattle.rtyper_data.specs.Converting.{given}
use Rattle.rtyper_data.specs.Seen.{Around, Operand, Place, type_at, with_op, Writing, writing, push, set}
use Rattle.rtyper_data.specs.Tuples.{fields_of, field_type_of, with_first, parts_from, set_fields, tuple_with, tuple_made, put_tuple, tuple_to}
use Rattle.lower_laws.specs.Asked.{Ask, all_asked, Has as HasOther}
use Rattle.lower_laws.specs.Values.{AllBelow, IsBelow}
use Rattle.lower_laws.proofs.Doing.{after}
use Rattle.lower_laws.proofs.Single.{sets}
use Rattle.lower_laws.proofs.Stayed.{field_is}
use Rattle.lower_laws.proofs.Tupled.{tuple_block, own_shape}
use Rattle.object_laws.specs.Done.{Came, Follows, HasLayout, references}
use Rattle.object_laws.specs.Ghost.{Ghost, Grown, Stays, use_of}
use Rattle.object_laws.specs.Known.{Known}
use Rattle.object_laws.specs.Represents.{Represents}
use Rattle.object_laws.specs.Values.{Holds, Items, AllHold, End, Next, Given}
use Rattle.object_laws.proofs.Made.{get_first}
use Rattle.object_laws.proofs.Valued.{held_set}
use Rattle.conversion_laws.specs.Asked.{Has as HasConversion}
use Rattle.conversion_laws.specs.Going.{Goes, IsTuple}
use Rattle.conversion_laws.proofs.Filling.{makes_block, AllSet, Filled, filled, values_of}
use Rattle.conversion_laws.proofs.Moving.{grown_both, with_block, block_grown, more}
use Rattle.conversion_laws.proofs.Rows.{sets_of}
use Rattle.conversion_laws.proofs.Turns.{fewer_left}
use Rattle.conversion_laws.proofs.Valued.{all_grow}
use Rattle.passing_laws.specs.Done.{Behind, IsDoneBehind}
use Rattle.passing_laws.specs.Passed.{Moved, ArePassed}
use Rattle.passing_laws.specs.Passing.{AllPass, each_given, pass_asks, tuples_of, items_of, AllUnder}
use Rattle.passing_laws.specs.Standing.{Stood}
use Rattle.passing_laws.proofs.Asking.{passes_stood}
use Rattle.passing_laws.proofs.Behind.{at_once}
use Rattle.passing_laws.proofs.Coming.{AllTo, all_to, pass_long}
use Rattle.passing_laws.proofs.Operands.{operands_are_passed, kept_operand}
use Rattle.tuple_conversion_laws.specs.Tuples.{HasTuples, references_made, TuplesAreMade}

-- ---- what is written

parts_given : (around : Around) (n : ℕ) (pre : List LlType) (args : List Operand) (parts : List Element) (w : Writing) → fields_of around n ≡ pre ++ shape around.layout parts → AllTo around.layout parts → length args ≡ length parts → parts_from around n (length pre) args w ≡ each_given around args parts w
parts_given around n pre [] [] w fields to long = refl
parts_given around n pre [] (part ∷ parts) w fields to long = absurd (let z : 0 ≡ suc (length parts) = long in omega (arith, z))
parts_given around n pre (a ∷ args) [] w fields to long = absurd (let z : suc (length args) ≡ 0 = long in omega (arith, z))
parts_given around n pre (a ∷ args) (part ∷ parts) w fields to long =
    let t : LlType = field_type (type_of_element around.layout part) in
    let there : field_type_of around n (length pre) ≡ type_of_element around.layout part = ap (λ o. unwrap_or o type.Void) (ap (λ ts. slice_get ts (length pre)) fields ∙ get_mid pre t (shape around.layout parts) (length pre) refl) ∙ field_is (type_of_element around.layout part) to.0 in
    let next : fields_of around n ≡ (pre ++ t ∷ []) ++ shape around.layout parts = fields ∙ sym (append_assoc pre (t ∷ []) (shape around.layout parts)) in
    let at : length (pre ++ t ∷ []) ≡ length pre + 1 = length-append pre (t ∷ []) in
    let made : COperand × Writing = given around a (type_of_element around.layout part) w in
    ap (λ t. with_first (given around a t w) (λ next. parts_from around n (length pre + 1) args next)) there
    ∙ ap (λ i. with_first made (λ next. parts_from around n i args next)) (sym at)
    ∙ ap (λ (r : List COperand × Writing). (made.0 ∷ r.0, r.1)) (parts_given around n (pre ++ t ∷ []) args parts made.1 next to.1 (let z : suc (length args) ≡ suc (length parts) = long in omega (arith, z)))

set_fields_is : (n m i : ℕ) (xs : List COperand) (body : Body) → set_fields n m i xs body ≡ record body { ops = body.ops ++ sets_of n m i xs }
set_fields_is n m i [] body = ap (λ ops. record body { ops = ops }) (sym (append-nil body.ops))
set_fields_is n m i (x ∷ xs) body = set_fields_is n m (i + 1) xs (with_op (op.SetField n m i x) body) ∙ ap (λ ops. record body { ops = ops }) (append_assoc body.ops (op.SetField n m i x ∷ []) (sets_of n m (i + 1) xs))

-- ---- values

each_set : {layout : Layout} {known : Known} {g : Ghost} {heap : Heap} {left : ℕ} {blocks : List (Option Block)} {statics : List Block} {parts : List Element} {vs : List Meant} (vars : List Value) (xs : List COperand) → Represents layout known g heap left blocks statics → AllHold layout known g parts (operands vars xs) vs → AllSet vars xs
each_set vars [] r all = tt
each_set vars (x ∷ xs) r (Next held all) = (held_set r held, each_set vars xs r all)

each_long : {layout : Layout} {known : Known} {g : Ghost} {parts : List Element} {vs : List Meant} (vars : List Value) (xs : List COperand) → AllHold layout known g parts (operands vars xs) vs → length xs ≡ length parts
each_long vars [] End = refl
each_long vars (x ∷ xs) (Next held all) = ap suc (each_long vars xs all)

values_kept : (old new : Core) (below : ℕ) → ((v : ℕ) → v < below → read new.vars v ≡ read old.vars v) → (xs : List COperand) → AllUnder below xs → operands new.vars xs ≡ operands old.vars xs
values_kept old new below others [] under = refl
values_kept old new below others (x ∷ xs) under = ap (λ y. y ∷ operands new.vars xs) (kept_operand below old new others x under.0) ∙ ap (λ ys. operand old.vars x ∷ ys) (values_kept old new below others xs under.1)

shape_long : (layout : Layout) (parts : List Element) → length (shape layout parts) ≡ length parts
shape_long layout [] = refl
shape_long layout (part ∷ parts) = ap suc (shape_long layout parts)

vs_long : (known : Known) (around : Around) (g : Ghost) (core : Core) (args : List Operand) (vs : List Meant) → Given known around g core args vs → length args ≡ length vs
vs_long known around g core [] [] h = refl
vs_long known around g core [] (v ∷ vs) h = absurd h
vs_long known around g core (a ∷ args) [] h = absurd h
vs_long known around g core (a ∷ args) (v ∷ vs) h = ap suc (vs_long known around g core args vs h.1)

many_references : (heap : Heap) (vs : List Meant) → length vs + 1 ≤ references heap vs
many_references heap [] = omega arith
many_references heap (v ∷ vs) = (let k = many_references heap vs in omega (arith, k))

too_few : (n : ℕ) → nat_lt n 1 ≡ true → n < 1
too_few n h = grind (arith, nat_tests, h)

are_enough : (n : ℕ) → nat_lt n 1 ≡ false → 1 ≤ n
are_enough n h = grind (arith, nat_tests, h)

-- ---- a display

module _ (known : Known) (around : Around) (place : Place) (args : List Operand) (w : Writing) (covers : Covers) (n : ℕ) (parts : List Element) (apart : is_tuple around.layout 0 ≡ false) (comes : is_never args ≡ false) (of : IsTuple around.layout place.element n parts) (pass : AllPass around.layout known args parts) where
  abbrev steps : LlOp
  steps = op.Step (word_operand (pos 1))

  abbrev paid_for : Writing
  paid_for = push steps w

  them : ArePassed known around args parts paid_for
  them = operands_are_passed known around args parts paid_for apart pass

  abbrev asks : List Ask
  asks = pass_asks around.layout args parts

  abbrev next : Writing
  next = writing (all_asked asks w.found) (record { types = w.body.types ++ them.new; ops = paid_for.body.ops ++ them.ops })

  -- the variable of the block
  abbrev made : ℕ
  made = length next.body.types

  abbrev news : LlOp
  news = op.New made n n

  abbrev puts : LlOp
  puts = op.Set place.variable (Var made)

  made_is : made ≡ length w.body.types + length them.new
  made_is = length-append w.body.types them.new

  abbrev begun : Body
  begun = record { types = next.body.types ++ type.Ptr n ∷ []; ops = next.body.ops ++ news ∷ [] }

  is_made : tuple_made around n args paid_for ≡ (made, writing next.found (record begun { ops = begun.ops ++ sets_of n made 0 them.xs }))
  unfolding tuple_made
  is_made = ap (tuple_with n) (parts_given around n [] args parts paid_for of.fields (all_to around.layout known args parts comes pass) (pass_long around.layout known args parts pass) ∙ them.is) ∙ ap (λ body. (made, writing next.found body)) (set_fields_is n made 0 them.xs begun)

  is_written : lower_op around row.Tuple place args w ≡ writing next.found (record { types = begun.types; ops = (begun.ops ++ sets_of n made 0 them.xs) ++ puts ∷ [] })
  is_written = ap (λ c. if c then says_nothing around place w else lowered around place row.Tuple args w) comes
      ∙ ap (λ t. tuple_to around place args t paid_for) of.typed
      ∙ ap (λ c. if c then put_tuple place (tuple_made around n args paid_for) else paid_for) of.struct
      ∙ ap (put_tuple place) is_made

  abbrev ops : List LlOp
  ops = steps ∷ (them.ops ++ (news ∷ (sets_of n made 0 them.xs ++ puts ∷ [])))

  abbrev new : List LlType
  new = them.new ++ type.Ptr n ∷ []

  new_long : length new ≡ length them.new + 1
  new_long = length-append them.new (type.Ptr n ∷ [])

  all_ops : (xs os ss : List LlOp) (a b c : LlOp) → ((((xs ++ a ∷ []) ++ os) ++ b ∷ []) ++ ss) ++ c ∷ [] ≡ xs ++ (a ∷ (os ++ (b ∷ (ss ++ c ∷ []))))
  all_ops xs os ss a b c = append_assoc (((xs ++ a ∷ []) ++ os) ++ b ∷ []) ss (c ∷ []) ∙ append_assoc ((xs ++ a ∷ []) ++ os) (b ∷ []) (ss ++ c ∷ []) ∙ append_assoc (xs ++ a ∷ []) os (b ∷ (ss ++ c ∷ [])) ∙ append_assoc xs (a ∷ []) (os ++ (b ∷ (ss ++ c ∷ [])))

  regroup : (rest : List LlOp) → ops ++ rest ≡ steps ∷ (them.ops ++ (news ∷ (sets_of n made 0 them.xs ++ (puts ∷ rest))))
  regroup rest = ap (λ os. steps ∷ os) (append_assoc them.ops (news ∷ (sets_of n made 0 them.xs ++ puts ∷ [])) rest ∙ ap (λ os. them.ops ++ (news ∷ os)) (append_assoc (sets_of n made 0 them.xs) (puts ∷ []) rest))

  module _ (p : LlProgram) (numbers : Numbers) (raised : ℕ → Value) (structs : HasLayout p around.layout) (stood : Stood around.layout known (HasTuples around.layout p numbers raised) asks w.found)
      (arguments : List (List ℕ)) (rest : List LlOp) (e : LlExit) (frames : List Frame) (core : Core) (g : Ghost) (world : World) (vs : List Meant) (stands : Represents around.layout known g world.heap world.left core.blocks core.statics) (left : world.left ≡ core.steps)
      (room : length w.body.types + length new ≤ length core.vars) (inside : place.variable < length w.body.types) (below : AllBelow (length w.body.types) args) (given : Given known around g core args vs) where
    abbrev Behind_step : List LlOp
    Behind_step = them.ops ++ (news ∷ (sets_of n made 0 them.xs ++ (puts ∷ rest)))

    abbrev Here : State
    Here = At (steps ∷ Behind_step) e frames core

    abbrev Done : Answer → Type 0
    Done answer = Follows (1 + tuples_of parts) known around place p arguments Here rest e frames core g raised (references_made parts world vs) (length w.body.types) world answer

    abbrev world2 : World
    world2 = record world { left = world.left - 1 }

    abbrev stepped : Core
    stepped = record core { at = core.at + 1; steps = world.left - 1 }

    gives_it : 1 ≤ world.left → (m : Moved around.layout known p arguments (At Behind_step e frames stepped) (news ∷ (sets_of n made 0 them.xs ++ (puts ∷ rest))) e frames stepped g world2.heap world2.left (length w.body.types) (items_of parts) (tuples_of parts) (λ ghost end. AllHold around.layout known ghost parts (operands end.vars them.xs) vs)) → Done (Gives (tuple vs) world2)
    gives_it enough m =
        let mid : Core = m.end in
        let xs : List COperand = them.xs in
        let pointer : Value = Ptr (length mid.blocks) in
        let room_then = m.room in
        let there : made < length mid.vars = omega (arith, room, new_long, made_is, room_then) in
        let long : length xs ≡ length parts = each_long mid.vars xs m.fine in
        let shaped : shape_at (shapes_of p.structs) n ≡ own_shape n (length xs) = structs.plain.tuples n of.struct ∙ ap (λ k. shape_over n k None) (ap length of.fields ∙ shape_long around.layout parts ∙ sym long) in
        let fresh : Core = record mid { at = mid.at + 1; vars = slice_set mid.vars made pointer; blocks = mid.blocks ++ Some (tuple_block n (replicate (length xs) Unset)) ∷ [] } in
        let others : (v : ℕ) → v < made → read fresh.vars v ≡ read mid.vars v = λ v under. get_or-set_other mid.vars made v pointer _ (λ same. absurd (omega (arith, under, same))) in
        let under : AllUnder made xs = subst (λ k. AllUnder k xs) (sym made_is) (them.under below) in
        let same_values : operands fresh.vars xs ≡ operands mid.vars xs = values_kept mid fresh made others xs under in
        let held_there : AllHold around.layout known m.ghost parts (operands fresh.vars xs) vs = subst (λ ys. AllHold around.layout known m.ghost parts ys vs) (sym same_values) m.fine in
        let f : Filled p arguments n made 0 xs (puts ∷ rest) e frames fresh mid.blocks (values_of fresh.vars xs) =
        filled p arguments n made (length xs) 0 [] xs (puts ∷ rest) e frames fresh mid.blocks shaped refl refl (get_or-set_same mid.vars made pointer Unset there) (each_set fresh.vars xs m.stands held_there) in
        let fresh_long : length fresh.vars ≡ length mid.vars = length-set mid.vars made pointer in
        let held : read f.end.vars made ≡ pointer = ap (λ l. read l made) f.vars ∙ get_or-set_same mid.vars made pointer Unset there in
        let end : Core = after f.end place.variable pointer in
        let block : Block = tuple_block n (values_of fresh.vars xs) in
        let ghost : Ghost = with_block m.ghost block in
        let memory : forgotten f.end ≡ forgotten (record stepped { blocks = mid.blocks ++ Some block ∷ [] }) = f.memory ∙ ap (λ (k : Core). record k { blocks = mid.blocks ++ Some block ∷ [] }) m.memory in
        let blocks_are : f.end.blocks ≡ mid.blocks ++ Some block ∷ [] = ap (λ (k : Core). k.blocks) memory in
        let statics_are : f.end.statics ≡ mid.statics = ap (λ (k : Core). k.statics) f.memory in
        let used : use_of ghost pointer ≡ Some (Stays block) = get_first m.ghost.blocks [] (Stays block) (length mid.blocks) (sym m.stands.made) in
        let many = many_references world.heap vs in
        let vs_are = vs_long known around g core args vs given in
        let args_are = pass_long around.layout known args parts pass in
        record {
          end = end;
          text = [];
          leads = leads_more (0 + (items_of parts + (0 + (length xs + 0)))) (references_made parts world vs) (omega (arith, many, long, vs_are, args_are))
              (leads_then (pays 1 (world.left - 1) refl (omega (arith, left, enough))) (leads_then m.leads (leads_then (makes_block (length xs) shaped) (leads_then f.leads (sets pointer held refl)))));
          ghost = ghost;
          grown = grown_both m.grown (block_grown m.ghost block);
          stands = subst (λ bs. Represents around.layout known ghost world2.heap world2.left bs f.end.statics) (sym blocks_are) (subst (λ ss. Represents around.layout known ghost world2.heap world2.left (mid.blocks ++ Some block ∷ []) ss) (sym statics_are) (more m.stands block));
          holds = subst (λ x. Holds around.layout known ghost place.element x (tuple vs)) (sym (get_or-set_same f.end.vars place.variable pointer Unset (let l : length f.end.vars ≡ length fresh.vars = ap length f.vars in omega (arith, l, fresh_long, room_then, room, inside))))
              (Items parts n (values_of fresh.vars xs) vs of.is refl of.typed used (all_grow (block_grown m.ghost block) held_there));
          few = (let one : length f.end.blocks ≡ length mid.blocks + 1 = ap length blocks_are ∙ length-append mid.blocks (Some block ∷ []) in let k = m.few in omega (arith, one, k));
          memory = memory ∙ ap (λ bs. forgotten (record stepped { blocks = bs })) (sym blocks_are) ∙ ap (λ ss. forgotten (record stepped { blocks = f.end.blocks; statics = ss })) (sym (statics_are ∙ ap (λ (k : Core). k.statics) m.memory));
          others = λ v lower other. get_or-set_other f.end.vars place.variable v pointer _ other ∙ ap (λ l. read l v) f.vars ∙ others v (omega (arith, lower, made_is)) ∙ m.others v lower;
          room = length-set f.end.vars place.variable pointer ∙ ap length f.vars ∙ fresh_long ∙ m.room;
          function = f.function ∙ m.function;
          block = f.block ∙ m.block;
          out = sym (append-nil world.out);
        }

    paid : (c : Bool) → nat_lt world.left 1 ≡ c → Done (if c then Lacks else Gives (tuple vs) world2)
    paid true c = record {
      last = Here;
      leads = rests;
      ends = lacks p arguments Behind_step e frames core (word_operand (pos 1)) 1 refl (let few = too_few world.left c in omega (arith, few, left));
      blocks = refl;
      holds = λ placed b h. h;
    }
    paid false c =
        let enough : 1 ≤ world.left = are_enough world.left c in
        gives_it enough (them.follows p numbers raised arguments (news ∷ (sets_of n made 0 them.xs ++ (puts ∷ rest))) e frames stepped g world2.heap world2.left vs structs (passes_stood (λ p. HasOther p around.layout) around.layout p numbers raised known args parts w.found stood) (fewer_left (omega arith) stands) refl
        (omega (arith, room, new_long)) below given)

  pub made_so : IsDoneBehind (HasTuples around.layout) (references_made parts) (1 + tuples_of parts) 0 0 known around row.Tuple covers asks (lower_op around row.Tuple place args w) place args w
  made_so = record {
    ops = ops;
    new = new;
    asked = ap (λ (r : Writing). r.found) is_written;
    written = ap (λ (r : Writing). r.body.ops) is_written ∙ all_ops w.body.ops them.ops (sets_of n made 0 them.xs) steps news puts;
    types = ap (λ (r : Writing). r.body.types) is_written ∙ append_assoc w.body.types them.new (type.Ptr n ∷ []);
    follows = λ p numbers raised structs stood arguments rest e frames core g world vs stands left room inside below given good.
        at_once 0 0 stands (subst (λ os. Follows (1 + tuples_of parts) known around place p arguments (At os e frames core) rest e frames core g raised (references_made parts world vs) (length w.body.types) world (meant_op known.program covers row.Tuple vs world)) (sym (regroup rest))
        (paid p numbers raised structs stood arguments rest e frames core g world vs stands left room inside below given (nat_lt world.left 1) refl));
  }

pub tuples_are_made : TuplesAreMade
tuples_are_made known around place args w covers n parts apart comes of pass = made_so known around place args w covers n parts apart comes of pass
