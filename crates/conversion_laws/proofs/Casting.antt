-- A tuple is made one of another struct: its items are read and converted in turn, and a block is made of them.
use Rattle.std.proofs.Common.{◌≡◌, ◌<◌, ◌≤◌, ℕ, zero, suc, ◌+◌, true, false, ◌||◌, List, [], ◌∷◌, ◌++◌, length, map, sum, Option, Some, None, refl, sym, ap, ◌∙◌, subst, arith, append_assoc, length-append}
use Rattle.std.specs.Prelude.{slice_get, slice_set, replicate}
use Rattle.std.proofs.lemmas.List.{append-nil, get_or-set_same, get_or-set_other, length-replicate, length-set}
use Rattle.std.proofs.lemmas.List.Sums.{sum_by-cons}
use Rattle.ann_element.specs.declared.element.Element.{Element, fold-Element, fold-roll-Element}
use Rattle.ann_element.specs.declared.element.Element.TheOpen.{Element-F}
use Rattle.ann_element.specs.declared.element.Element.TheVariants as element
use Rattle.csub_tree.specs.State.{Value, Unset, Flag, Ptr, Block, Core}
use Rattle.csub_tree.specs.Layout.{shape_at, shape_over}
use Rattle.csub_tree.specs.Operation.{is_unset}
use Rattle.csub_tree.specs.Statement.{read, operand}
use Rattle.csub_tree.specs.declared.tree.COperand.{COperand}
use Rattle.csub_tree.specs.declared.tree.COperand.TheVariants.{Var}
use Rattle.ll_code.specs.State.{Frame, State, Calling, At, Returning, Goes}
use Rattle.ll_code.specs.Machine.{given, shapes_of, waiting}
use Rattle.ll_code.specs.declared.program.LlType.{LlType}
use Rattle.ll_code.specs.declared.program.LlType.TheVariants as type
use Rattle.ll_code.specs.declared.program.LlOp.{LlOp}
use Rattle.ll_code.specs.declared.program.LlOp.TheVariants as op
use Rattle.ll_code.specs.declared.program.LlExit.{LlExit}
use Rattle.ll_code.specs.declared.program.LlExit.TheVariants as exit
use Rattle.ll_code.specs.declared.program.LlProgram.{LlProgram}
use Rattle.ll_leads.specs.Memory.{forgotten}
use Rattle.ll_leads.specs.Path.{Leads}
use Rattle.ll_leads.proofs.Joined.{leads_then, leads_more}
use Rattle.ll_leads.proofs.Ways.{one}
use Rattle.ll_build.specs.declared.needs.Numbers.{Numbers}
use Rattle.ll_texts.specs.Texts.{found}
use Rattle.rpy_tree.specs.Value.{Value as Meant, Heap}
use Rattle.rpy_meaning.specs.Sequences.{tuple}
use Rattle.rtyper_layout.specs.declared.layout.Layout.{Layout}
use Rattle.rtyper_layout.specs.Layout.{is_tuple}
use Rattle.rtyper_layout.specs.Types.{shape}
use Rattle.rtyper_data.specs.declared.found.Found.{Found}
use Rattle.rtyper_data.specs.declared.small.Small.TheVariants as small
use Rattle.rtyper_data.specs.Finding.{same_type, small_number}
use Rattle.rtyper_data.specs.Graphs.{fields_at, field_at, shared_fields}
use Rattle.rtyper_data.specs.Seen.{Writing}
use Rattle.lower_laws.specs.Values.{IsBelow}
use Rattle.lower_laws.proofs.Doing.{after}
use Rattle.lower_laws.proofs.Kept.{below_more}
use Rattle.lower_laws.proofs.Tupled.{tuple_block, own_shape}
use Rattle.object_laws.specs.Done.{HasLayout, AllAsked}
use Rattle.object_laws.specs.Ghost.{Ghost, Stays, use_of}
use Rattle.object_laws.specs.Known.{Known}
use Rattle.object_laws.specs.Represents.{Represents}
use Rattle.object_laws.specs.Values.{Holds, Items, AllHold, End, Next}
use Rattle.object_laws.proofs.Blocks.{found_set, found_there, reads_field}
use Rattle.object_laws.proofs.Calling.{back}
use Rattle.object_laws.proofs.Growing.{holds_grows, use_grows}
use Rattle.object_laws.proofs.Made.{get_first}
use Rattle.object_laws.proofs.Valued.{held_set}
use Rattle.conversion_laws.specs.Asked.{HasCast, HasTo, asks_for, fields_asks, cast_asks}
use Rattle.conversion_laws.specs.Converted.{tuples_in, tuples_step, items_in, items_step}
use Rattle.conversion_laws.specs.Going.{AllGo, IsTuple}
use Rattle.conversion_laws.specs.Going as goes
use Rattle.conversion_laws.proofs.Filling.{AllSet, Filled, comes_back, filled, makes_block, values_of}
use Rattle.conversion_laws.proofs.Moving.{Moved, all_kept, block_grown, grown_both, has_first, has_second, more, more_moved, operand_kept, sets_one, stays_here, then_moved, with_block}
use Rattle.conversion_laws.proofs.Rows.{all_ops, first, first_asked, graph_is, item_below, items as cast_operands, items_from, items_long, made_at, new_from, new_long, new_types, next, next_long, ops_from, reads, sets_of, shared_is, start, the_graph, turn_at}
use Rattle.conversion_laws.proofs.Turned.{Means, Turned, entered_at, tuple_enters}
use Rattle.conversion_laws.proofs.Turning.{Turn, Casts, cast_asked, operand_of, ops_of}
use Rattle.conversion_laws.proofs.Valued.{TupleAt, all_grow, tuple_held}

-- ---- how many

abbrev pub all_items : List Element → ℕ
all_items [] = 0
all_items (e ∷ es) = items_in (Some e) + all_items es

abbrev pub all_tuples : List Element → ℕ
all_tuples [] = 0
all_tuples (e ∷ es) = tuples_in (Some e) + all_tuples es

sum_items : (es : List Element) → sum (map (fold-Element ℕ items_step) es) ≡ all_items es
sum_items [] = refl
sum_items (e ∷ es) = sum_by-cons (λ k. k) (fold-Element ℕ items_step e) (map (fold-Element ℕ items_step) es) ∙ ap (λ k. items_in (Some e) + k) (sum_items es)

sum_tuples : (es : List Element) → sum (map (fold-Element ℕ tuples_step) es) ≡ all_tuples es
sum_tuples [] = refl
sum_tuples (e ∷ es) = sum_by-cons (λ k. k) (fold-Element ℕ tuples_step e) (map (fold-Element ℕ tuples_step) es) ∙ ap (λ k. tuples_in (Some e) + k) (sum_tuples es)

map_long : {A B : Type 0} (f : A → B) (xs : List A) → length (map f xs) ≡ length xs
map_long f [] = refl
map_long f (x ∷ xs) = ap suc (map_long f xs)

pub items_are : (es : List Element) → items_in (Some (element.Tuple es)) ≡ length es + all_items es
items_are es =
    ap (fold-Element ℕ items_step) (sym (element.rolls-Tuple es)) ∙ fold-roll-Element ℕ items_step (Element-F.Tuple es)
    ∙ ap (λ k. k + sum (map (fold-Element ℕ items_step) es)) (map_long (fold-Element ℕ items_step) es) ∙ ap (λ k. length es + k) (sum_items es)

pub tuples_are : (es : List Element) → tuples_in (Some (element.Tuple es)) ≡ 1 + all_tuples es
tuples_are es = ap (fold-Element ℕ tuples_step) (sym (element.rolls-Tuple es)) ∙ fold-roll-Element ℕ tuples_step (Element-F.Tuple es) ∙ ap (λ k. 1 + k) (sum_tuples es)

-- ---- items

pub read_mid : (pre : List Value) (x : Value) (post : List Value) (i : ℕ) → i ≡ length pre → read (pre ++ x ∷ post) i ≡ x
read_mid [] x post zero h = refl
read_mid [] x post (suc i) h = absurd (omega (arith, h))
read_mid (y ∷ pre) x post zero h = absurd (omega (arith, h))
read_mid (y ∷ pre) x post (suc i) h = read_mid pre x post i (omega (arith, h))

-- the operands of items
abbrev pub AllUnder : ℕ → List COperand → Type 0
AllUnder below [] = Unit {0}
AllUnder below (x ∷ xs) = IsBelow below x × AllUnder below xs

all_under : (n m : ℕ) → n ≤ m → (xs : List COperand) → AllUnder n xs → AllUnder m xs
all_under n m h [] a = tt
all_under n m h (x ∷ xs) a = (below_more h x a.0, all_under n m h xs a.1)

values_kept : (old new : Core) (below : ℕ) → ((v : ℕ) → v < below → read new.vars v ≡ read old.vars v) → (xs : List COperand) → AllUnder below xs → values_of new.vars xs ≡ values_of old.vars xs
values_kept old new below others [] under = refl
values_kept old new below others (x ∷ xs) under = ap (λ y. y ∷ values_of new.vars xs) (operand_kept old new below others x under.0) ∙ ap (λ ys. operand old.vars x ∷ ys) (values_kept old new below others xs under.1)

sets_kept : (old new : Core) (below : ℕ) → ((v : ℕ) → v < below → read new.vars v ≡ read old.vars v) → (xs : List COperand) → AllUnder below xs → AllSet old.vars xs → AllSet new.vars xs
sets_kept old new below others [] under set = tt
sets_kept old new below others (x ∷ xs) under set = (ap is_unset (operand_kept old new below others x under.0) ∙ set.0, sets_kept old new below others xs under.1 set.1)

pub items_under : (layout : Layout) (m : ℕ) (to : List LlType) (i : ℕ) (ts : List LlType) (w : Writing) → AllUnder (length w.body.types + length (new_from layout m to i ts)) (items_from layout m to i ts w)
items_under layout m to i [] w = tt
items_under layout m to i (t ∷ ts) w =
    let a = next_long layout m to i t w in
    let b = new_long layout m to i t ts in (
      below_more (omega (arith, a, b)) (operand_of (turn_at layout m to i t) (Var (length w.body.types)) (first layout m to i t w)) (item_below layout m to i t w),
      all_under (length (next layout m to i t w).body.types + length (new_from layout m to (i + 1) ts)) (length w.body.types + length (new_from layout m to i (t ∷ ts))) (omega (arith, a, b)) (items_from layout m to (i + 1) ts (next layout m to i t w)) (items_under layout m to (i + 1) ts (next layout m to i t w)),
    )

-- they are read and converted
pub record Taken (layout : Layout) (known : Known) (p : LlProgram) (arguments : List (List ℕ)) (s : State) (rest : List LlOp) (e : LlExit) (frames : List Frame) (core : Core) (g : Ghost) (heap : Heap) (left below most count : ℕ) (parts : List Element) (ys : List COperand) (vs : List Meant) : Type 0 where
  pub end : Core
  pub ghost : Ghost
  pub moved : Moved layout known p arguments s rest e frames core g heap left below most count end ghost
  pub held : AllHold layout known ghost parts (values_of end.vars ys) vs

abbrev pub ItemsMean : Layout → Known → ℕ → ℕ → List LlType → ℕ → List LlType → List Element → List Element → Type 0
ItemsMean layout known k m to i ts parts others =
    (w : Writing) (before xs : List Value) (vs : List Meant) (x : Value) (p : LlProgram) (numbers : Numbers) (raised : ℕ → Value) (arguments : List (List ℕ)) (rest : List LlOp) (e : LlExit) (frames : List Frame) (core : Core) (g : Ghost) (heap : Heap) (left : ℕ)
    → HasLayout p layout → is_tuple layout m ≡ true → AllAsked (HasTo p layout numbers raised core k) (fields_asks layout to i ts) w.found → Represents layout known g heap left core.blocks core.statics → left ≡ core.steps
    → length w.body.types + length (new_from layout m to i ts) ≤ length core.vars → 0 < length w.body.types → read core.vars 0 ≡ x → use_of g x ≡ Some (Stays (tuple_block m (before ++ xs))) → i ≡ length before → AllHold layout known g parts xs vs
    → Taken layout known p arguments (At (ops_from layout m to i ts w ++ rest) e frames core) rest e frames core g heap left (length w.body.types) (all_items others) (all_tuples others) others (items_from layout m to i ts w) vs

-- one item, and the others
module _ (layout : Layout) (known : Known) (k m : ℕ) (to : List LlType) (i : ℕ) (part other : Element) (parts others : List Element) (t : LlType) (ts : List LlType) (w : Writing) (before xs : List Value) (a : Value) (v : Meant) (vs : List Meant) (x : Value)
    (p : LlProgram) (numbers : Numbers) (raised : ℕ → Value) (arguments : List (List ℕ)) (rest : List LlOp) (e : LlExit) (frames : List Frame) (core : Core) (g : Ghost) (heap : Heap) (left : ℕ) where
  abbrev tn : Turn layout t (field_at to i)
  tn = turn_at layout m to i t

  abbrev M : ℕ
  M = length w.body.types

  abbrev w1 : Writing
  w1 = first layout m to i t w

  abbrev w2 : Writing
  w2 = next layout m to i t w

  abbrev y : COperand
  y = operand_of tn (Var M) w1

  abbrev behind : List LlOp
  behind = ops_from layout m to (i + 1) ts w2 ++ rest

  abbrev core1 : Core
  core1 = after core M a

  abbrev OneTurned : Type 0
  OneTurned = Turned layout known p arguments (At (ops_of tn (Var M) w1 ++ behind) e frames core1) behind e frames core1 g heap left (length w1.body.types) (items_in (Some other)) (tuples_in (Some other)) (λ g y. Holds layout known g (Some other) y v) y

  abbrev AllTaken : Type 0
  AllTaken = Taken layout known p arguments (At (ops_from layout m to i (t ∷ ts) w ++ rest) e frames core) rest e frames core g heap left M (all_items (other ∷ others)) (all_tuples (other ∷ others)) (other ∷ others) (items_from layout m to i (t ∷ ts) w) (v ∷ vs)

  -- what was done with the one, and with the others
  item_done : Represents layout known g heap left core.blocks core.statics → Leads p arguments 0 (At (op.GetField M m 0 i ∷ (ops_of tn (Var M) w1 ++ behind)) e frames core) [] (At (ops_of tn (Var M) w1 ++ behind) e frames core1) → (T : OneTurned)
      → Taken layout known p arguments (At behind e frames T.end) rest e frames T.end T.ghost heap left (length w2.body.types) (all_items others) (all_tuples others) others (items_from layout m to (i + 1) ts w2) vs → AllTaken
  item_done r way T R =
      let l1 : length w1.body.types ≡ M + 1 = length-append w.body.types (t ∷ []) in
      let l2 = next_long layout m to i t w in
      let moved1 : Moved layout known p arguments (At (op.GetField M m 0 i ∷ (ops_of tn (Var M) w1 ++ behind)) e frames core) (ops_of tn (Var M) w1 ++ behind) e frames core g heap left M 0 0 core1 g = sets_one M a (omega arith) r way in
      let ops_are : (ops_of tn (Var M) w1 ++ ops_from layout m to (i + 1) ts w2) ++ rest ≡ ops_of tn (Var M) w1 ++ behind = append_assoc (ops_of tn (Var M) w1) (ops_from layout m to (i + 1) ts w2) rest in
      record {
        end = R.end;
        ghost = R.ghost;
        moved = subst (λ ops. Moved layout known p arguments (At (op.GetField M m 0 i ∷ ops) e frames core) rest e frames core g heap left M (all_items (other ∷ others)) (all_tuples (other ∷ others)) R.end R.ghost) (sym ops_are)
            (more_moved (omega arith) (omega arith) (then_moved (omega arith) moved1 (then_moved (omega (arith, l1, l2)) T.moved R.moved)));
        held = Next (subst (λ z. Holds layout known R.ghost (Some other) z v) (sym (operand_kept T.end R.end (length w2.body.types) R.moved.others y (item_below layout m to i t w))) (holds_grows R.moved.grown T.fine)) R.held;
      }

  -- the others behind the one
  others_done : ItemsMean layout known k m to (i + 1) ts parts others → HasLayout p layout → is_tuple layout m ≡ true → AllAsked (HasTo p layout numbers raised core k) (fields_asks layout to i (t ∷ ts)) w.found → Represents layout known g heap left core.blocks core.statics → left ≡ core.steps
      → M + length (new_from layout m to i (t ∷ ts)) ≤ length core.vars → 0 < M → read core.vars 0 ≡ x → use_of g x ≡ Some (Stays (tuple_block m (before ++ a ∷ xs))) → i ≡ length before → AllHold layout known g parts xs vs
      → Leads p arguments 0 (At (op.GetField M m 0 i ∷ (ops_of tn (Var M) w1 ++ behind)) e frames core) [] (At (ops_of tn (Var M) w1 ++ behind) e frames core1) → OneTurned → AllTaken
  others_done later has tuple asked r steps room under at is_use j all way T =
      let l1 : length w1.body.types ≡ M + 1 = length-append w.body.types (t ∷ []) in
      let l2 = next_long layout m to i t w in
      let l3 = new_long layout m to i t ts in
      let long1 : length core1.vars ≡ length core.vars = length-set core.vars M a in
      let memory : forgotten T.end ≡ forgotten (record core1 { blocks = T.end.blocks }) = T.moved.memory in
      let statics2 : T.end.statics ≡ core.statics = ap (λ (c : Core). c.statics) memory in
      let steps2 : T.end.steps ≡ core.steps = ap (λ (c : Core). c.steps) memory in
      let at2 : read T.end.vars 0 ≡ x = T.moved.others 0 (omega (arith, l1)) ∙ get_or-set_other core.vars M 0 a Unset (λ same. absurd (omega (arith, under, same))) ∙ at in
      let room2 : length T.end.vars ≡ length core1.vars = T.moved.room in
      let longer : length (before ++ a ∷ []) ≡ length before + 1 = length-append before (a ∷ []) in
      item_done r way T (later w2 (before ++ a ∷ []) xs vs x p numbers raised arguments rest e frames T.end T.ghost heap left has tuple
      (all_kept p layout numbers raised core T.end statics2 steps2 k (fields_asks layout to (i + 1) ts) w2.found
      (subst (λ made. AllAsked (HasTo p layout numbers raised core k) (fields_asks layout to (i + 1) ts) made) (sym (first_asked layout m to i t w)) (has_second (HasTo p layout numbers raised core k) (asks_for layout t (field_at to i)) (fields_asks layout to (i + 1) ts) w.found asked)))
      T.moved.stands (steps ∙ sym steps2) (omega (arith, room, l2, l3, long1, room2)) (omega (arith, under, l2)) at2
      (subst (λ fields. use_of T.ghost x ≡ Some (Stays (tuple_block m fields))) (sym (append_assoc before (a ∷ []) xs)) (use_grows T.moved.grown x (Stays (tuple_block m (before ++ a ∷ xs))) is_use))
      (omega (arith, j, longer)) (all_grow T.moved.grown all))

module _ (layout : Layout) (known : Known) (k m : ℕ) (to : List LlType) (i : ℕ) where
  pub no_items : ItemsMean layout known k m to i [] [] []
  no_items w before xs vs x p numbers raised arguments rest e frames core g heap left has tuple asked r steps room under at is_use j End = record { end = core; ghost = g; moved = stays_here r; held = End }

  pub next_item : (part other : Element) (parts others : List Element) (t : LlType) (ts : List LlType)
      → ((v : Meant) → Means layout known k (turn_at layout m to i t) (items_in (Some other)) (tuples_in (Some other)) (λ g x. Holds layout known g (Some part) x v) (λ g y. Holds layout known g (Some other) y v))
      → ItemsMean layout known k m to (i + 1) ts parts others → ItemsMean layout known k m to i (t ∷ ts) (part ∷ parts) (other ∷ others)
  next_item part other parts others t ts one later w before _ _ x p numbers raised arguments rest e frames core g heap left has tuple asked r steps room under at is_use j (Next {x = a} {xs = xs} {v = v} {vs = vs} held all) =
      let n : ℕ = length w.body.types in
      let next_w : Writing = first layout m to i t w in
      let l1 : length next_w.body.types ≡ n + 1 = length-append w.body.types (t ∷ []) in
      let l3 = new_long layout m to i t ts in
      let later_ops : List LlOp = ops_from layout m to (i + 1) ts (next layout m to i t w) ++ rest in
      let mid : Core = after core n a in
      let block : Block = tuple_block m (before ++ a ∷ xs) in
      let is : found core.blocks core.statics (read core.vars 0) ≡ Some block = ap (λ y. found core.blocks core.statics y) at ∙ r.stays x block is_use in
      let there : read mid.vars n ≡ a = get_or-set_same core.vars n a Unset (omega (arith, room, l3)) in
      let long1 : length mid.vars ≡ length core.vars = length-set core.vars n a in
      others_done layout known k m to i part other parts others t ts w before xs a v vs x p numbers raised arguments rest e frames core g heap left later has tuple asked r steps room under at is_use j all
      (reads_field (length (fields_at layout m)) block a (has.plain.tuples m tuple) is refl (held_set r held) i (read_mid before a xs i j))
      (one v (Var n) next_w p numbers raised arguments later_ops e frames mid g heap left has
      (all_kept p layout numbers raised core mid refl refl k (asks_for layout t (field_at to i)) w.found (has_first (HasTo p layout numbers raised core k) (asks_for layout t (field_at to i)) (fields_asks layout to (i + 1) ts) w.found asked))
      r steps (omega (arith, room, l1, l3, long1)) (omega (arith, l1)) (subst (λ y. Holds layout known g (Some part) y v) (sym there) held))

-- ---- the tuple

-- the items are set
items_set : {layout : Layout} {known : Known} {g : Ghost} {heap : Heap} {left : ℕ} {blocks : List (Option Block)} {statics : List Block} {parts : List Element} {vs : List Meant} (vars : List Value) (ys : List COperand)
    → Represents layout known g heap left blocks statics → AllHold layout known g parts (values_of vars ys) vs → AllSet vars ys
items_set vars [] r all = tt
items_set vars (y ∷ ys) r (Next held all) = (held_set r held, items_set vars ys r all)

pub all_long : {layout : Layout} {known : Known} {parts others : List Element} → AllGo layout known parts others → length (shape layout parts) ≡ length (shape layout others)
all_long goes.End = refl
all_long (goes.Next go all) = ap suc (all_long all)

shape_long : (layout : Layout) (parts : List Element) → length (shape layout parts) ≡ length parts
shape_long layout [] = refl
shape_long layout (part ∷ parts) = ap suc (shape_long layout parts)

-- the block is made of them, in the call that reads them
module _ (layout : Layout) (known : Known) (m n : ℕ) (parts others : List Element) (to : Option Element) (b : IsTuple layout to n others) (made : Found) (x : COperand) (w : Writing) (X : Value) (v : Meant) (vs : List Meant) (high : v ≡ tuple vs) (f : ℕ)
    (p : LlProgram) (arguments : List (List ℕ)) (rest : List LlOp) (e : LlExit) (frames : List Frame) (core : Core) (g : Ghost) (heap : Heap) (left : ℕ) where
  abbrev N : ℕ
  N = length w.body.types

  abbrev waits : Frame
  waits = waiting core (Some N) rest e

  abbrev at : ℕ
  at = made_at layout m n made

  abbrev ys : List COperand
  ys = cast_operands layout m n made

  abbrev sets : List LlOp
  sets = sets_of n at 0 ys

  abbrev leaves : LlExit
  leaves = exit.Return (Some (Var at))

  abbrev inner : Core
  inner = record core { function = f; block = 2; at = 0; vars = X ∷ Flag false ∷ replicate (length (new_types layout m n made ++ type.Ptr n ∷ [])) Unset }

  abbrev AllRead : Type 0
  AllRead = Taken layout known p arguments (At (reads layout m n made ++ op.New at n n ∷ sets) leaves (waits ∷ frames) inner) (op.New at n n ∷ sets) leaves (waits ∷ frames) inner g heap left 2 (all_items others) (all_tuples others) others ys vs

  abbrev CastDone : Type 0
  CastDone = Turned layout known p arguments (At (op.Call (Some N) f (x ∷ []) ∷ rest) e frames core) rest e frames core g heap left N (items_in to) (tuples_in to) (λ g y. Holds layout known g to y v) (Var N)

  -- the core when the block is there, and nothing in it
  abbrev with_new : Core → Core
  with_new mid = record mid { at = mid.at + 1; vars = slice_set mid.vars at (Ptr (length mid.blocks)); blocks = mid.blocks ++ Some (tuple_block n (replicate (length ys) Unset)) ∷ [] }

  block_done : is_unset X ≡ false → operand core.vars x ≡ X → N + 1 ≤ length core.vars → length ys ≡ length others → Leads p arguments 0 (Calling f (X ∷ []) (waits ∷ frames) core) [] (At (all_ops layout m n made) leaves (waits ∷ frames) inner) → (T : AllRead)
      → Leads p arguments 0 (At (op.New at n n ∷ sets) leaves (waits ∷ frames) T.end) [] (At sets leaves (waits ∷ frames) (with_new T.end)) → read (with_new T.end).vars at ≡ Ptr (length T.end.blocks) → values_of (with_new T.end).vars ys ≡ values_of T.end.vars ys
      → Filled p arguments n at 0 ys [] leaves (waits ∷ frames) (with_new T.end) T.end.blocks (values_of (with_new T.end).vars ys) → CastDone
  block_done set is room many enters T makes held3 same_values F =
      let pointer : Value = Ptr (length T.end.blocks) in
      let values : List Value = values_of T.end.vars ys in
      let tuple_is : Block = tuple_block n values in
      let memory2 : forgotten T.end ≡ forgotten (record inner { blocks = T.end.blocks }) = T.moved.memory in
      let held4 : read F.end.vars at ≡ pointer = ap (λ l. read l at) F.vars ∙ held3 in
      let gives_back : Leads p arguments 0 (At [] leaves (waits ∷ frames) F.end) [] (Returning pointer (waits ∷ frames) F.end) = one (ap (λ y. given y (λ value. Goes (Returning value (waits ∷ frames) F.end))) held4) refl in
      let memory4 : forgotten F.end ≡ forgotten (record core { blocks = T.end.blocks ++ Some tuple_is ∷ [] }) =
      F.memory ∙ ap (λ l. forgotten (record (with_new T.end) { blocks = T.end.blocks ++ Some (tuple_block n l) ∷ [] })) same_values ∙ ap (λ (c : Core). record c { blocks = T.end.blocks ++ Some tuple_is ∷ [] }) memory2 in
      let blocks4 : F.end.blocks ≡ T.end.blocks ++ Some tuple_is ∷ [] = ap (λ (c : Core). c.blocks) memory4 in
      let statics4 : F.end.statics ≡ core.statics = ap (λ (c : Core). c.statics) memory4 in
      let statics2 : T.end.statics ≡ core.statics = ap (λ (c : Core). c.statics) memory2 in
      let ops_are : all_ops layout m n made ≡ reads layout m n made ++ op.New at n n ∷ sets = append_assoc (reads layout m n made) (op.New at n n ∷ []) sets in
      let reads_way : Leads p arguments (all_items others) (At (all_ops layout m n made) leaves (waits ∷ frames) inner) [] (At (op.New at n n ∷ sets) leaves (waits ∷ frames) T.end) =
      subst (λ ops. Leads p arguments (all_items others) (At ops leaves (waits ∷ frames) inner) [] (At (op.New at n n ∷ sets) leaves (waits ∷ frames) T.end)) (sym ops_are) T.moved.leads in
      let fills : Leads p arguments (length ys) (At sets leaves (waits ∷ frames) (with_new T.end)) [] (At [] leaves (waits ∷ frames) F.end) =
      subst (λ ops. Leads p arguments (length ys) (At ops leaves (waits ∷ frames) (with_new T.end)) [] (At [] leaves (waits ∷ frames) F.end)) (append-nil sets) F.leads in
      let many_items : items_in to ≡ length others + all_items others = ap items_in b.is ∙ items_are others in
      let many_tuples : tuples_in to ≡ 1 + all_tuples others = ap tuples_in b.is ∙ tuples_are others in
      let goes_through : Leads p arguments (items_in to) (Calling f (X ∷ []) (waits ∷ frames) core) [] (Returning pointer (waits ∷ frames) F.end) =
      leads_more (0 + (all_items others + (0 + (length ys + 0)))) (items_in to) (omega (arith, many_items, many)) (leads_then enters (leads_then reads_way (leads_then makes (leads_then fills gives_back)))) in
      let end : Core = back core F.end (Some N) pointer in
      let ghost : Ghost = with_block T.ghost tuple_is in
      let there : read end.vars N ≡ pointer = get_or-set_same core.vars N pointer Unset (omega (arith, room)) in
      let used : use_of ghost pointer ≡ Some (Stays tuple_is) = get_first T.ghost.blocks [] (Stays tuple_is) (length T.end.blocks) (sym T.moved.stands.made) in
      let few_blocks : length (T.end.blocks ++ Some tuple_is ∷ []) ≡ length T.end.blocks + 1 = length-append T.end.blocks (Some tuple_is ∷ []) in
      let few2 : length T.end.blocks ≤ length core.blocks + all_tuples others = T.moved.few in
      let few_is : length F.end.blocks ≡ length T.end.blocks + 1 = ap length blocks4 ∙ few_blocks in
      record {
        end = end;
        ghost = ghost;
        moved = record {
          leads = comes_back (items_in to) (ap (λ y. y ∷ []) is) (ap (λ c. c || false) set) goes_through;
          grown = grown_both T.moved.grown (block_grown T.ghost tuple_is);
          stands = subst (λ bs. Represents layout known ghost heap left bs F.end.statics) (sym blocks4) (subst (λ ss. Represents layout known ghost heap left (T.end.blocks ++ Some tuple_is ∷ []) ss) (statics2 ∙ sym statics4) (more T.moved.stands tuple_is));
          few = omega (arith, few2, few_is, many_tuples);
          memory = memory4 ∙ ap (λ bs. forgotten (record core { blocks = bs })) (sym blocks4);
          others = λ u under. get_or-set_other core.vars N u pointer _ (λ same. absurd (omega (arith, under, same)));
          room = length-set core.vars N pointer;
          function = refl;
          block = refl;
        };
        fine = subst (λ y. Holds layout known ghost to y v) (sym there) (Items others n values vs b.is high b.typed used (all_grow (block_grown T.ghost tuple_is) T.held));
      }

  items_done : is_unset X ≡ false → operand core.vars x ≡ X → N + 1 ≤ length core.vars → length ys ≡ length others → shape_at (shapes_of p.structs) n ≡ own_shape n (length ys)
      → Leads p arguments 0 (Calling f (X ∷ []) (waits ∷ frames) core) [] (At (all_ops layout m n made) leaves (waits ∷ frames) inner) → AllRead → CastDone
  items_done set is room many shaped enters T =
      let types_long : length (new_types layout m n made ++ type.Ptr n ∷ []) ≡ length (new_types layout m n made) + 1 = length-append (new_types layout m n made) (type.Ptr n ∷ []) in
      let filled_long : length (replicate (length (new_types layout m n made ++ type.Ptr n ∷ [])) Unset) ≡ length (new_types layout m n made ++ type.Ptr n ∷ []) = length-replicate (length (new_types layout m n made ++ type.Ptr n ∷ [])) Unset in
      let long2 : length T.end.vars ≡ length inner.vars = T.moved.room in
      let inside : at < length T.end.vars = omega (arith, long2, filled_long, types_long) in
      let pointer : Value = Ptr (length T.end.blocks) in
      let core3 : Core = with_new T.end in
      let others3 : (u : ℕ) → u < at → read core3.vars u ≡ read T.end.vars u = λ u under. get_or-set_other T.end.vars at u pointer _ (λ same. absurd (omega (arith, under, same))) in
      let unders : AllUnder at ys = all_under (2 + length (new_types layout m n made)) at (omega arith) ys (items_under layout m (fields_at layout n) 0 (shared_fields layout m n) (start layout m n made)) in
      let held3 : read core3.vars at ≡ pointer = get_or-set_same T.end.vars at pointer Unset inside in
      block_done set is room many enters T (makes_block (length ys) shaped) held3 (values_kept T.end core3 at others3 ys unders)
      (filled p arguments n at (length ys) 0 [] ys [] leaves (waits ∷ frames) core3 T.end.blocks shaped refl refl held3 (sets_kept T.end core3 at others3 ys unders (items_set T.end.vars ys T.moved.stands T.held)))

module _ (layout : Layout) (known : Known) (k m n : ℕ) (parts others : List Element) (from to : Option Element) (a : IsTuple layout from m parts) (b : IsTuple layout to n others) (same : length (shape layout parts) ≡ length (shape layout others))
    (o : same_type (type.Ptr m) (type.Ptr n) ≡ false) (ic : is_tuple layout m ≡ true) (jc : is_tuple layout n ≡ true) (each : ItemsMean layout known k m (fields_at layout n) 0 (shared_fields layout m n) parts others) where
  -- the call reads them
  call_done : (v : Meant) (x : COperand) (w : Writing) (p : LlProgram) (numbers : Numbers) (raised : ℕ → Value) (arguments : List (List ℕ)) (rest : List LlOp) (e : LlExit) (frames : List Frame) (core : Core) (g : Ghost) (heap : Heap) (left : ℕ)
      → HasLayout p layout → Represents layout known g heap left core.blocks core.statics → left ≡ core.steps → length w.body.types + 1 ≤ length core.vars → (it : TupleAt layout known g m parts (operand core.vars x) v)
      → HasCast (HasTo p layout numbers raised core k) p layout m n (small_number (small.Cast m n) w.found).0
      → Turned layout known p arguments (At (op.Call (Some (length w.body.types)) (small_number (small.Cast m n) w.found).0 (x ∷ []) ∷ rest) e frames core) rest e frames core g heap left (length w.body.types) (items_in to) (tuples_in to) (λ g y. Holds layout known g to y v) (Var (length w.body.types))
  call_done v x w p numbers raised arguments rest e frames core g heap left has r steps room it own =
      let X : Value = operand core.vars x in
      let f : ℕ = (small_number (small.Cast m n) w.found).0 in
      let made : Found = own.made in
      let block : Block = tuple_block m it.xs in
      let is : found core.blocks core.statics X ≡ Some block = r.stays X block it.is in
      let behind_call : List Frame = waiting core (Some (length w.body.types)) rest e ∷ frames in
      let into : ℕ = made_at layout m n made in
      let zs : List COperand = cast_operands layout m n made in
      let graph : slice_get p.graphs f ≡ Some (the_graph layout m n made) = own.graph ∙ ap Some (graph_is layout m n made) in
      let core1 : Core = entered_at p layout m n made f core graph 2 X (Flag false) in
      let types_long : length (new_types layout m n made ++ type.Ptr n ∷ []) ≡ length (new_types layout m n made) + 1 = length-append (new_types layout m n made) (type.Ptr n ∷ []) in
      let filled_long : length (replicate (length (new_types layout m n made ++ type.Ptr n ∷ [])) Unset) ≡ length (new_types layout m n made ++ type.Ptr n ∷ []) = length-replicate (length (new_types layout m n made ++ type.Ptr n ∷ [])) Unset in
      let shared : shared_fields layout m n ≡ fields_at layout m = shared_is layout m n (ap length a.fields ∙ same ∙ sym (ap length b.fields)) in
      let zs_long : length zs ≡ length (fields_at layout m) = items_long layout m (fields_at layout n) 0 (shared_fields layout m n) (start layout m n made) ∙ ap length shared in
      let fields_long : length (fields_at layout n) ≡ length zs = ap length b.fields ∙ sym same ∙ sym (ap length a.fields) ∙ sym zs_long in
      items_done layout known m n parts others to b made x w X v it.vs it.high f p arguments rest e frames core g heap left (found_set core.blocks core.statics X block is) refl room (sym fields_long ∙ ap length b.fields ∙ shape_long layout others)
      (has.plain.tuples n jc ∙ ap (λ k. shape_over n k None) fields_long)
      (tuple_enters p layout m n made f core graph X behind_call (found_set core.blocks core.statics X block is) (found_there core.blocks core.statics X block is))
      (each (start layout m n made) [] it.xs it.vs X p numbers raised arguments (op.New into n n ∷ sets_of n into 0 zs) (exit.Return (Some (Var into))) behind_call core1 g heap left has ic
      (all_kept p layout numbers raised core core1 refl refl k (cast_asks layout m n) made own.parts) r steps (omega (arith, filled_long, types_long)) (omega arith) refl it.is refl it.all)

  pub cast_means : (v : Meant) → Means layout known (suc k) (Casts m n o ic jc) (items_in to) (tuples_in to) (λ g x. Holds layout known g from x v) (λ g y. Holds layout known g to y v)
  cast_means v x w p numbers raised arguments rest e frames core g heap left has asked r steps room below pre =
      call_done v x w p numbers raised arguments rest e frames core g heap left has r steps room (tuple_held m parts a pre) (subst (λ asks. AllAsked (HasTo p layout numbers raised core (suc k)) asks w.found) (cast_asked layout m n o ic jc) asked).0
