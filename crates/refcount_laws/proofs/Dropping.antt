-- The last reference to a block is dropped: the block is freed, and so is what it alone held.
use Rattle.std.proofs.Common.{◌≡◌, ⊎_elim, ◌<◌, ◌≤◌, ℕ, zero, suc, ◌+◌, true, false, List, [], ◌∷◌, ◌++◌, length, replicate, Option, Some, None, refl, sym, ap, ◌∙◌, subst, arith}
use Rattle.std.specs.Prelude.{slice_set, slice_get, pos}
use Rattle.csub_tree.specs.State.{Value, Unset, Word, Flag, Byte, Fun, Null, Ptr, Static, Block, Core}
use Rattle.csub_tree.specs.Layout.{begins_with}
use Rattle.csub_tree.specs.Operation.{is_unset}
use Rattle.csub_tree.specs.Statement.{read, operand}
use Rattle.csub_tree.specs.declared.tree.COperand.{COperand}
use Rattle.csub_tree.specs.declared.tree.COperand.TheVariants.{Var}
use Rattle.ll_code.specs.State.{Frame, State, At}
use Rattle.ll_code.specs.Machine.{shapes_of}
use Rattle.ll_code.specs.declared.program.LlType.{LlType}
use Rattle.ll_code.specs.declared.program.LlType.TheVariants as type
use Rattle.ll_code.specs.declared.program.LlOp.{LlOp}
use Rattle.ll_code.specs.declared.program.LlOp.TheVariants as op
use Rattle.ll_code.specs.declared.program.LlExit.{LlExit}
use Rattle.ll_code.specs.declared.program.LlExit.TheVariants as exit
use Rattle.ll_code.specs.declared.program.LlBlock.{LlBlock}
use Rattle.ll_code.specs.declared.program.LlProgram.{LlProgram}
use Rattle.refcount_laws.specs.Graphs.{Reference, Counts, Counting, Stands, IsRoot, AllFields, gets, drops, link, word, given, test, first, release_blocks, item_blocks, blocks_for, types_for, held_types, loop_types, AreItems}
use Rattle.refcount_laws.specs.Ghost.{memory, one, hit, occurs, S, count_of, bare, slot_at, count, bare_at, field_references, item_references, references, inner, weight, Ghost, F, IsFixed, fixed_at, FieldsLead, ItemsLead, IsWhole, IsCounted}
use Rattle.refcount_laws.specs.Runs.{Leads, here}
use Rattle.refcount_laws.specs.Touched.{block_in, Shows, Touched, Moved}
use Rattle.refcount_laws.proofs.Cells.{set_here, set_other, set_length}
use Rattle.refcount_laws.proofs.Steps.{leads_on, get_step, free_step, call_fn_step, return_step, goto_step, wait}
use Rattle.refcount_laws.proofs.Touching.{none_or_some, set_twice, there_inside, shows_after, shows_gone, shows_beside, touched_on, touched_beside}
use Rattle.refcount_laws.proofs.Leading.{all_kept, fields_kept}
use Rattle.refcount_laws.proofs.Variables.{AllSet, set_next, none_unset_behind, last_set, has_same}
use Rattle.refcount_laws.proofs.Moving.{own_same, before, behind, moved_on}
use Rattle.refcount_laws.proofs.Release.{Down, Drops, Loops, Looped, fewer, whole_block, cell, slot_now, first_touch, bare_same, fewer_counted, inner_less, weight_less, field_count, length_both, alive, falls, has_all, first_drops, more_drops, down_null, down_static, down_shared}
use Rattle.refcount_laws.proofs.Emptying.{release_stands, at_test, first_loops, more_loops}
use Rattle.refcount_laws.proofs.Ghosts.{occurs_both, There, there, one_self}
use Rattle.refcount_laws.proofs.Reading.{along, Got, gets_run, references_set}
use Rattle.refcount_laws.proofs.Falling.{falls_to, none_remain, waiting_, seen_none}

held_count : (held : List Reference) (ts : List LlType) → length (held_types held ++ ts) ≡ length held + length ts
held_count [] ts = omega arith
held_count (r ∷ held) ts = omega (arith, held_count held ts)

unset_count : (n : ℕ) → length (replicate n Unset) ≡ n
unset_count zero = refl
unset_count (suc n) = ap suc (unset_count n)

-- the first block of the graph that releases
abbrev pub first_of : Counts → ℕ → Option ℕ → LlBlock
first_of c n None = record { inputs = 0 ∷ []; ops = gets (c.held n) 1 ++ op.Free 0 ∷ drops c (c.held n) 1; exit = exit.Return None }
first_of c n (Some m) = first c n (length (c.held n))

first_there : (c : Counts) (n : ℕ) (o : Option ℕ) → slice_get (blocks_for c n o) 0 ≡ Some (first_of c n o)
first_there c n None = refl
first_there c n (Some m) = refl

module _ (q : LlProgram) (args : List (List ℕ)) (c : Counts) (counting : Counting q c) (n : ℕ) (drop : Drops q args c counting n) (loop : Loops q args c counting n) (g : Ghost) (h : List (Option Block)) (own : Value → ℕ) (a kind : ℕ)
    (fields items : List Value) (is : slot_at g.blocks a ≡ S 1 kind fields items) (sh : Shows c h g.blocks) (counts : IsCounted q c g (λ r. hit r (Ptr a) + own r)) (light : weight c g.blocks ≤ n) (core : Core) where
  abbrev held : List Reference
  held = c.held kind

  abbrev k : ℕ
  k = length held

  abbrev rel : ℕ
  rel = c.release kind

  abbrev frefs : List Value
  frefs = field_references held fields

  abbrev empty_block : Block
  empty_block = record { kind = kind; fields = Word (pos 0) ∷ Fun rel ∷ fields; items = items }

  -- the block before it is freed, and after
  abbrev pub emptied : List (Option Block)
  emptied = slice_set h a (Some empty_block)

  abbrev without : List (Option Block)
  without = slice_set h a None

  abbrev left : Ghost
  left = fewer q args c counting g h own a 0 kind fields items is sh counts

  whole : IsWhole q c g (record { kind = kind; fields = fields; items = items })
  whole = whole_block q args c counting g h own a 0 kind fields items is sh counts

  all_fields : AllFields q c kind held
  all_fields = counting.held kind whole.counted

  a_inside : a < length h
  a_inside = there_inside h a (record { kind = kind; fields = Word (pos 1) ∷ Fun rel ∷ fields; items = items }) (cell q args c counting g h own a 0 kind fields items is sh counts)

  found : block_in emptied a ≡ Some empty_block
  found = set_here h a (Some empty_block) None a_inside

  freed_is : slice_set emptied a None ≡ without
  freed_is = set_twice h a (Some empty_block) None

  gone : count left.blocks a ≡ 0
  gone = ap count_of (slot_now q args c counting g h own a 0 kind fields items is sh counts)

  touched : Touched c g.blocks left.blocks h without
  touched = first_touch q args c counting g h own a 0 kind fields items is sh counts

  same : (b : ℕ) → bare_at left.blocks b ≡ bare_at g.blocks b
  same = bare_same q args c counting g h own a 0 kind fields items is sh counts

  lead_left : FieldsLead q left held fields
  lead_left = fields_kept q c g left same (λ s. refl) held fields whole.fields

  -- the references of the block, by what its items are
  refs_are : (o : Option ℕ) → c.items kind ≡ o → references c (record { kind = kind; fields = fields; items = items }) ≡ frefs ++ item_references o items
  refs_are o e = ap (λ o. frefs ++ item_references o items) e

  left_counts : (o : Option ℕ) → c.items kind ≡ o → IsCounted q c left (λ r. occurs r (frefs ++ item_references o items) + own r)
  left_counts o e =
      own_same q args c left (λ r. occurs r (references c (record { kind = kind; fields = fields; items = items })) + own r) (λ r. occurs r (frefs ++ item_references o items) + own r) (λ r. ap (λ l. occurs r l + own r) (refs_are o e))
      (fewer_counted q args c counting g h own a 0 kind fields items is sh counts (λ r. occurs r (references c (record { kind = kind; fields = fields; items = items })))
      (λ r. omega (arith, inner_less q args c counting g h own a 0 kind fields items is sh counts r)))

  lighter : (o : Option ℕ) → c.items kind ≡ o → weight c left.blocks + (k + length (item_references o items)) ≤ n
  lighter o e = omega (arith, light, weight_less q args c counting g h own a 0 kind fields items is sh counts, ap length (refs_are o e), length_both frefs (item_references o items), field_count held fields)

  -- after the graph that releases
  pub record Emptied (frames : List Frame) (from : State) : Type 0 where
    pub place : ℕ
    pub at : ℕ
    pub vars : List Value
    pub moved : Moved q args c g h own from (λ h' s'. At [] (exit.Return None) frames (here core rel place at vars h' s'))

  abbrev entry : List Frame → Option ℕ → State
  entry frames o = At (first_of c kind o).ops (first_of c kind o).exit frames (here core rel 0 0 (Ptr a ∷ replicate (length (held_types held ++ types_for o)) Unset) emptied (memory g))

  plain_emptied : (frames : List Frame) → c.items kind ≡ None → Emptied frames (entry frames None)
  plain_emptied frames e =
      let vars : List Value = Ptr a ∷ replicate (length (held_types held ++ [])) Unset in
      let room : 1 + length held ≤ length vars = omega (arith, unset_count (length (held_types held ++ [])), held_count held []) in
      let mid : List Value → List (Option Block) → List Block → State = λ now h s. At (drops c held 1) (exit.Return None) frames (here core rel 0 (along 0 held + 1) now h s) in
      let to : List Value → List (Option Block) → List Block → State = λ now h s. At [] (exit.Return None) frames (here core rel 0 (along (along 0 held + 1) held) now h s) in
      let got : Got q args (entry frames None) (λ now. At (op.Free 0 ∷ drops c held 1) (exit.Return None) frames (here core rel 0 (along 0 held) now emptied (memory g))) vars 1 frefs =
      gets_run q args c g core rel 0 (exit.Return None) frames (op.Free 0 ∷ drops c held 1) emptied (memory g) a empty_block found (Word (pos 0)) (Fun rel) fields refl held 1 0 vars (omega arith) room refl all_fields whole.fields in
      let leads : Leads q args (entry frames None) (mid got.now without (memory g)) =
      subst (λ h. Leads q args (entry frames None) (mid got.now h (memory g))) freed_is
      (leads_on q args got.leads (free_step q args core rel 0 (exit.Return None) frames 0 (along 0 held) a (drops c held 1) got.now emptied (memory g) empty_block (got.same 0 (omega arith)) found)) in
      let fields_own : Value → ℕ = λ r. occurs r frefs + own r in
      let counts_left : IsCounted q c left fields_own =
      own_same q args c left (λ r. occurs r (frefs ++ []) + own r) fields_own (λ r. ap (λ n. n + own r) (occurs_both r frefs [] ∙ (let z : occurs r frefs + 0 ≡ occurs r frefs = omega arith in z))) (left_counts None e) in
      let x : Moved q args c g h fields_own (entry frames None) (mid got.now) = record {
        later = left;
        blocks = without;
        same = same;
        same_statics = λ s. refl;
        size = set_length g.blocks a (S 0 kind fields items);
        size_statics = refl;
        weighs = omega (arith, weight_less q args c counting g h own a 0 kind fields items is sh counts);
        inners = λ r. omega (arith, inner_less q args c counting g h own a 0 kind fields items is sh counts r);
        counted = counts_left;
        touched = touched;
        leads = leads;
      } in
      record {
        place = 0;
        at = along (along 0 held + 1) held;
        vars = got.now;
        moved = moved_on q args c g h fields_own own (entry frames None) (mid got.now) (to got.now) x
            (drop kind held fields 1 left without own core rel 0 frames (along 0 held + 1) got.now (omega (arith, lighter None e)) (shows_after c g.blocks left.blocks h without touched) all_fields lead_left got.has counts_left);
      }

  item_emptied : (frames : List Frame) (m : ℕ) → c.items kind ≡ Some m → Emptied frames (entry frames (Some m))
  item_emptied frames m e =
      let types : List LlType = type.Ptr (c.root kind) ∷ (held_types held ++ types_for (Some m)) in
      let vars : List Value = Ptr a ∷ replicate (length (held_types held ++ loop_types m)) Unset in
      let size : length vars ≡ suc (k + 4) = omega (arith, unset_count (length (held_types held ++ loop_types m)), held_count held (loop_types m)) in
      let stands : Stands q rel types (item_blocks c kind m) = release_stands q args c counting kind m whole.counted e in
      let are : AreItems q c kind m = counting.items kind m whole.counted e in
      let lead : ItemsLead q c g (Some m) (record { kind = kind; fields = fields; items = items }) = subst (λ o. ItemsLead q c g o (record { kind = kind; fields = fields; items = items })) e whole.items in
      let leaving : LlExit = exit.Goto (link 1 (given 0 (suc (suc k)) ++ word 0 ∷ [])) in
      let number : List LlOp = op.GetField (suc k) kind 0 (c.number kind) ∷ [] in
      let total : Value = Word (pos (length items)) in
      let got : Got q args (entry frames (Some m)) (λ now. At number leaving frames (here core rel 0 (along 0 held) now emptied (memory g))) vars 1 frefs =
      gets_run q args c g core rel 0 leaving frames number emptied (memory g) a empty_block found (Word (pos 0)) (Fun rel) fields refl held 1 0 vars (omega arith) (omega (arith, size)) refl all_fields whole.fields in
      let pointer : read got.now 0 ≡ Ptr a = got.same 0 (omega arith) in
      let set0 : AllSet got.now (suc k) = record {
        at = λ i lt. ⊎_elim (λ z. subst (λ i. is_unset (read got.now i) ≡ false) (sym z) (ap is_unset pointer)) (λ p. references_set q g held fields got.now 1 whole.fields got.has i (omega (arith, p)) (omega (arith, lt))) (none_or_some i);
      } in
      let now1 : List Value = slice_set got.now (suc k) total in
      let now2 : List Value = slice_set now1 (suc (suc k)) (Word (pos 0)) in
      let size1 : length now1 ≡ length got.now = set_length got.now (suc k) total in
      let size2 : length now2 ≡ length now1 = set_length now1 (suc (suc k)) (Word (pos 0)) in
      let set1 : AllSet now1 (suc (suc k)) = set_next got.now (suc k) total (omega (arith, got.size, size)) set0 refl in
      let set2 : AllSet now2 (suc (suc (suc k))) = set_next now1 (suc (suc k)) (Word (pos 0)) (omega (arith, size1, got.size, size)) set1 refl in
      let pointer2 : read now2 0 ≡ Ptr a = set_other now1 (suc (suc k)) 0 (Word (pos 0)) Unset (λ q. absurd (omega (arith, q))) ∙ set_other got.now (suc k) 0 total Unset (λ q. absurd (omega (arith, q))) ∙ pointer in
      let total2 : read now2 (suc k) ≡ total = set_other now1 (suc (suc k)) (suc k) (Word (pos 0)) Unset (λ q. absurd (omega (arith, q))) ∙ set_here got.now (suc k) total Unset (omega (arith, got.size, size)) in
      let place2 : read now2 (suc (suc k)) ≡ Word (pos 0) = set_here now1 (suc (suc k)) (Word (pos 0)) Unset (omega (arith, size1, got.size, size)) in
      let below : (i : ℕ) → i < suc k → read now2 i ≡ read got.now i = λ i lt. set_other now1 (suc (suc k)) i (Word (pos 0)) Unset (λ q. absurd (omega (arith, lt, q))) ∙ set_other got.now (suc k) i total Unset (λ q. absurd (omega (arith, lt, q))) in
      let to_loop : Leads q args (entry frames (Some m)) (at_test q args c counting kind m a (Word (pos 0)) (Fun rel) fields items core frames whole.counted e now2 emptied (memory g)) =
      leads_on q args got.leads
      (leads_on q args {t = At [] leaving frames (here core rel 0 (along 0 held + 1) now1 emptied (memory g))}
      (get_step q args core rel 0 leaving frames (suc k) kind 0 (c.number kind) (along 0 held) [] got.now emptied (memory g) (Ptr a) total empty_block pointer refl found are.of (ap (read empty_block.fields) are.place ∙ lead.1) refl)
      (goto_step q args core rel 0 frames (along 0 held + 1) (link 1 (given 0 (suc (suc k)) ++ word 0 ∷ [])) now1 now2 emptied (memory g) types (item_blocks c kind m) (test k) stands refl (none_unset_behind now1 (suc (suc k)) (word 0) set1 refl)
      (last_set now1 (suc (suc k)) (word 0)))) in
      let fields_own : Value → ℕ = λ r. occurs r frefs + own r in
      let y : Looped q args c counting left emptied fields_own kind core frames now2 =
      loop kind m a (Word (pos 0)) (Fun rel) fields items items 0 left emptied fields_own core frames now2 (omega (arith, lighter (Some m) e))
      (shows_beside c left.blocks h a (Some empty_block) gone shows_left) whole.counted e found gone
      (all_kept q c g left same (λ s. refl) m items lead.0) (has_all items) (omega arith) lead.2 (omega (arith, size, got.size, size1, size2)) set2 pointer2 total2 place2
      (own_same q args c left (λ r. occurs r (frefs ++ items) + own r) (λ r. occurs r items + fields_own r) (λ r. omega (arith, occurs_both r frefs items)) (left_counts (Some m) e)) in
      let later : Ghost = y.moved.later in
      let final : List (Option Block) = slice_set y.moved.blocks a None in
      let mid : List (Option Block) → List Block → State = λ h s. At (drops c held 1) (exit.Return None) frames (here core rel 3 1 y.now h s) in
      let to : List (Option Block) → List Block → State = λ h s. At [] (exit.Return None) frames (here core rel 3 (along 1 held) y.now h s) in
      let all_touched : Touched c g.blocks later.blocks h final =
      touched_on c g.blocks left.blocks later.blocks h without final touched
      (subst (λ h. Touched c left.blocks later.blocks h final) freed_is (touched_beside c left.blocks later.blocks emptied y.moved.blocks a None y.moved.touched gone (omega (arith, a_inside, set_length h a (Some empty_block))))) in
      let x : Moved q args c g h fields_own (entry frames (Some m)) mid = record {
        later = later;
        blocks = final;
        same = λ b. y.moved.same b ∙ same b;
        same_statics = y.moved.same_statics;
        size = y.moved.size ∙ set_length g.blocks a (S 0 kind fields items);
        size_statics = y.moved.size_statics;
        weighs = omega (arith, y.moved.weighs, weight_less q args c counting g h own a 0 kind fields items is sh counts);
        inners = λ r. omega (arith, y.moved.inners r, inner_less q args c counting g h own a 0 kind fields items is sh counts r);
        counted = y.moved.counted;
        touched = all_touched;
        leads = leads_on q args to_loop (leads_on q args y.moved.leads
            (free_step q args core rel 3 (exit.Return None) frames 0 0 a (drops c held 1) y.now y.moved.blocks (memory later) empty_block (y.same 0 (omega arith) ∙ pointer2) (y.moved.touched.dead a gone ∙ found)));
      } in
      record {
        place = 3;
        at = along 1 held;
        vars = y.now;
        moved = moved_on q args c g h fields_own own (entry frames (Some m)) mid to x
            (drop kind held fields 1 later final own core rel 3 frames 1 y.now (omega (arith, lighter (Some m) e, y.moved.weighs)) (shows_after c g.blocks later.blocks h final all_touched) all_fields
            (fields_kept q c left later y.moved.same y.moved.same_statics held fields lead_left)
            (has_same got.now y.now 1 frefs (λ i le lt. y.same i (omega (arith, lt, field_count held fields)) ∙ below i (omega (arith, lt, field_count held fields))) got.has) y.moved.counted);
      }
    where
      shows_left : Shows c h left.blocks
      shows_left = shows_gone c g.blocks h a (S 0 kind fields items) refl (alive q args c counting g h own a 0 kind fields items is sh counts) sh

  both_emptied : (frames : List Frame) (o : Option ℕ) → c.items kind ≡ o → Emptied frames (entry frames o)
  both_emptied frames None e = plain_emptied frames e
  both_emptied frames (Some m) e = item_emptied frames m e

  -- the whole call
  pub down_last : (to : ℕ) (root : IsRoot c to) (f b : ℕ) (ex : LlExit) (frames : List Frame) (x : COperand) (at : ℕ) (ops : List LlOp) (vars : List Value) → begins_with (shapes_of q.structs) kind to ≡ true → operand vars x ≡ Ptr a
      → Moved q args c g h own (At (op.Call None (c.down to) (x ∷ []) ∷ ops) ex frames (here core f b at vars h (memory g))) (λ h' s'. At ops ex frames (here core f b (at + 1) vars h' s'))
  down_last to root f b ex frames x at ops vars of e =
      let caller : Frame = waiting_ q args c counting core f b ex frames to root x at ops vars in
      let seen : List Value = seen_none q args c counting core f b ex frames to root x at ops vars (Ptr a) in
      let seen2 : List Value = slice_set seen 4 (Fun rel) in
      let ret : LlExit = exit.Return None in
      let call_op : LlOp = op.CallFn None type.Void (type.Ptr to ∷ []) 4 (Var 0 ∷ []) in
      let waiter : Frame = wait q args core (c.down to) 3 ret (caller ∷ frames) 1 seen2 [] in
      let start : State = At (op.Call None (c.down to) (x ∷ []) ∷ ops) ex frames (here core f b at vars h (memory g)) in
      let end : List (Option Block) → List Block → State = λ h' s'. At ops ex frames (here core f b (at + 1) vars h' s') in
      let from : State = entry (waiter ∷ caller ∷ frames) (c.items kind) in
      let w : Emptied (waiter ∷ caller ∷ frames) from = both_emptied (waiter ∷ caller ∷ frames) (c.items kind) refl in
      let stands : Stands q rel (type.Ptr to ∷ (held_types held ++ types_for (c.items kind))) (release_blocks c kind) =
      subst (λ r. Stands q rel (type.Ptr r ∷ (held_types held ++ types_for (c.items kind))) (release_blocks c kind)) (counting.root kind to root of).1 (counting.release kind whole.counted) in
      let last : List (Option Block) → List Block → State = λ h' s'. At [] ret (waiter ∷ caller ∷ frames) (here core rel w.place w.at w.vars h' s') in
      let leads : Leads q args start from =
      leads_on q args {t = falls_to q args c counting core f b ex frames to root x at ops vars (Ptr a) 0 emptied (memory g)} (falls q args c counting g h own a 0 kind fields items is sh counts core f b ex frames to root x at ops vars of e)
      (leads_on q args {t = At (op.GetField 4 to 0 1 ∷ call_op ∷ []) ret (caller ∷ frames) (here core (c.down to) 3 0 seen emptied (memory g))} (none_remain q args c counting core f b ex frames to root x at ops vars emptied (memory g) (Ptr a) refl)
      (leads_on q args {t = At (call_op ∷ []) ret (caller ∷ frames) (here core (c.down to) 3 1 seen2 emptied (memory g))}
      (get_step q args core (c.down to) 3 ret (caller ∷ frames) 4 to 0 1 0 (call_op ∷ []) seen emptied (memory g) (Ptr a) (Fun rel) empty_block refl refl found of (ap (read empty_block.fields) (counting.first to 1 root)) refl)
      (call_fn_step q args core (c.down to) 3 ret (caller ∷ frames) 4 rel 1 to (Var 0) [] seen2 emptied (memory g) (Ptr a) (held_types held ++ types_for (c.items kind)) (release_blocks c kind) (first_of c kind (c.items kind)) refl refl refl stands
      (first_there c kind (c.items kind))))) in
      let back : (h : List (Option Block)) (s : List Block) → Leads q args (last h s) (end h s) = λ h s.
      leads_on q args {t = At [] ret (caller ∷ frames) (here core (c.down to) 3 2 seen2 h s)} (return_step q args core (c.down to) 3 ret (caller ∷ frames) rel w.place 1 w.at [] seen2 w.vars h s)
      (return_step q args core f b ex frames (c.down to) 3 at 2 ops vars seen2 h s) in
      before q args c g h own start from end leads (behind q args c g h own from last end w.moved back)

module _ (q : LlProgram) (args : List (List ℕ)) (c : Counts) (counting : Counting q c) where
  down_block : (n : ℕ) → Drops q args c counting n → Loops q args c counting n → (g : Ghost) (h : List (Option Block)) (own : Value → ℕ) (to a : ℕ) (core : Core) (f b : ℕ) (ex : LlExit) (frames : List Frame) (x : COperand) (at : ℕ) (ops : List LlOp)
      (vars : List Value) → weight c g.blocks ≤ n → Shows c h g.blocks → IsRoot c to → begins_with (shapes_of q.structs) (bare_at g.blocks a).kind to ≡ true → IsCounted q c g (λ r. hit r (Ptr a) + own r) → operand vars x ≡ Ptr a
      → (m kind : ℕ) (fields items : List Value) → slot_at g.blocks a ≡ S (suc m) kind fields items
      → Moved q args c g h own (At (op.Call None (c.down to) (x ∷ []) ∷ ops) ex frames (here core f b at vars h (memory g))) (λ h' s'. At ops ex frames (here core f b (at + 1) vars h' s'))
  down_block n drop loop g h own to a core f b ex frames x at ops vars light sh root of counts e zero kind fields items is =
      down_last q args c counting n drop loop g h own a kind fields items is sh counts light core to root f b ex frames x at ops vars (ap (λ d. begins_with (shapes_of q.structs) (bare d).kind to) (sym is) ∙ of) e
  down_block n drop loop g h own to a core f b ex frames x at ops vars light sh root of counts e (suc m) kind fields items is =
      down_shared q args c counting g h own a m kind fields items is sh counts to root core f b ex frames x at ops vars (ap (λ d. begins_with (shapes_of q.structs) (bare d).kind to) (sym is) ∙ of) e

  down_fixed : (g : Ghost) (h : List (Option Block)) (own : Value → ℕ) (to s : ℕ) (core : Core) (f b : ℕ) (ex : LlExit) (frames : List Frame) (x : COperand) (at : ℕ) (ops : List LlOp) (vars : List Value) → Shows c h g.blocks → IsRoot c to
      → IsCounted q c g (λ r. hit r (Static s) + own r) → operand vars x ≡ Static s → (n kind : ℕ) (fields items : List Value) → fixed_at g.statics s ≡ F n kind fields items → begins_with (shapes_of q.structs) kind to ≡ true
      → Moved q args c g h own (At (op.Call None (c.down to) (x ∷ []) ∷ ops) ex frames (here core f b at vars h (memory g))) (λ h' s'. At ops ex frames (here core f b (at + 1) vars h' s'))
  down_fixed g h own to s core f b ex frames x at ops vars sh root counts e zero kind fields items is of =
      let k : 0 ≡ suc (inner c g.blocks (Static s) + (one s s + own (Static s))) = subst (λ d. IsFixed c d (inner c g.blocks (Static s) + (one s s + own (Static s)))) is (counts.statics s) in absurd (omega (arith, k))
  down_fixed g h own to s core f b ex frames x at ops vars sh root counts e (suc zero) kind fields items is of =
      let k : 1 ≡ suc (inner c g.blocks (Static s) + (one s s + own (Static s))) = subst (λ d. IsFixed c d (inner c g.blocks (Static s) + (one s s + own (Static s)))) is (counts.statics s) in absurd (omega (arith, k, one_self s))
  down_fixed g h own to s core f b ex frames x at ops vars sh root counts e (suc (suc m)) kind fields items is of = down_static q args c counting g h own to s m kind fields items is of sh root counts core f b ex frames x at ops vars e

  down_value : (n : ℕ) → Drops q args c counting n → Loops q args c counting n → Down q args c counting n
  down_value n drop loop g h own to Unset core f b ex frames x at ops vars light sh root lead counts e = absurd lead
  down_value n drop loop g h own to (Word z) core f b ex frames x at ops vars light sh root lead counts e = absurd lead
  down_value n drop loop g h own to (Byte z) core f b ex frames x at ops vars light sh root lead counts e = absurd lead
  down_value n drop loop g h own to (Flag z) core f b ex frames x at ops vars light sh root lead counts e = absurd lead
  down_value n drop loop g h own to (Fun z) core f b ex frames x at ops vars light sh root lead counts e = absurd lead
  down_value n drop loop g h own to Null core f b ex frames x at ops vars light sh root lead counts e = down_null q args c counting n g h own to core f b ex frames x at ops vars sh root counts e
  down_value n drop loop g h own to (Ptr a) core f b ex frames x at ops vars light sh root lead counts e =
      let w : There g.blocks a = there g.blocks a (omega (arith, counts.blocks a, one_self a)) in
      down_block n drop loop g h own to a core f b ex frames x at ops vars light sh root lead counts e w.n w.kind w.fields w.items w.is
  down_value n drop loop g h own to (Static s) core f b ex frames x at ops vars light sh root (n', kind, fields, items, is, of) counts e = down_fixed g h own to s core f b ex frames x at ops vars sh root counts e n' kind fields items is of

  -- for each bound
  bounded : (n : ℕ) → Drops q args c counting n × Loops q args c counting n
  bounded zero = (first_drops q args c counting, first_loops q args c counting)
  bounded (suc n) =
      let b : Drops q args c counting n × Loops q args c counting n = bounded n in
      let d : Down q args c counting n = down_value n b.0 b.1 in (more_drops q args c counting n d b.0, more_loops q args c counting n d b.1)

  pub dropped : (n : ℕ) → Down q args c counting n
  dropped n = let b : Drops q args c counting n × Loops q args c counting n = bounded n in down_value n b.0 b.1
