-- An item that is a reference is written, and the items of a new block are emptied.
use Rattle.std.proofs.Common.{◌≡◌, ◌<◌, ℕ, zero, suc, ◌+◌, true, false, ◌||◌, List, [], ◌∷◌, length, Option, Some, None, refl, sym, ap, ◌∙◌, subst, arith}
use Rattle.std.specs.Prelude.{slice_set, pos, cond, nat_lt}
use Rattle.csub_tree.specs.State.{Stuck, Value, Unset, Word, Fun, Ptr, Block, Core}
use Rattle.csub_tree.specs.Layout.{begins_with}
use Rattle.csub_tree.specs.Operation.{is_unset}
use Rattle.csub_tree.specs.Statement.{read, operand, operands, any_unset, stored, block_at, reached, on_block}
use Rattle.csub_tree.specs.Statement as st
use Rattle.csub_tree.specs.declared.stuck.StuckReason.TheVariants.{Outside, Unset as IsUnset}
use Rattle.csub_tree.specs.declared.tree.COperand.{COperand}
use Rattle.csub_tree.specs.declared.tree.COperand.TheVariants.{Var}
use Rattle.ll_code.specs.State.{Frame, State, At, Goes}
use Rattle.ll_code.specs.Machine.{shapes_of, goes_on}
use Rattle.ll_code.specs.declared.program.LlOp.{LlOp}
use Rattle.ll_code.specs.declared.program.LlOp.TheVariants as op
use Rattle.ll_code.specs.declared.program.LlExit.{LlExit}
use Rattle.ll_code.specs.declared.program.LlExit.TheVariants as exit
use Rattle.ll_code.specs.declared.program.LlProgram.{LlProgram}
use Rattle.refcount_laws.specs.Graphs.{Counts, Counting, StandsWith, AreItems, put_item_block, put_item_types}
use Rattle.refcount_laws.specs.Ghost.{memory, hit, occurs, Slot, S, count_of, bare, shown, slot_at, bare_at, field_references, item_references, references, Ghost, HasRoom, LeadsTo, AllLead, ItemsLead, IsWhole, IsCounted, written}
use Rattle.refcount_laws.specs.Runs.{Leads, here}
use Rattle.refcount_laws.specs.Touched.{block_in, Shown, Done}
use Rattle.refcount_laws.proofs.Cells.{set_length}
use Rattle.refcount_laws.proofs.Ghosts.{occurs_both, There, there}
use Rattle.refcount_laws.proofs.Steps.{leads_on, goes, wait, item_step, reached_ok, return_step}
use Rattle.refcount_laws.proofs.Leading.{lead_set, lead_kept, lead_by_kind, fields_by_kind, items_by_kind, whole_kept}
use Rattle.refcount_laws.proofs.Doing.{down_done, up_done}
use Rattle.std.proofs.lemmas.Bool.Decides.{nat_tests}
use Rattle.refcount_laws.proofs.Writing.{kinds_then, inner_then, written_counted, written_shown, same_written, call_all_step}

less_is : (m n : ℕ) → m < n → nat_lt m n ≡ true
less_is m n lt = grind (arith, nat_tests)

item_counts : (items : List Value) (i : ℕ) (w r : Value) → i < length items → occurs r (slice_set items i w) + hit r (read items i) ≡ occurs r items + hit r w
item_counts [] i w r lt = absurd (omega (arith, lt))
item_counts (x ∷ items) zero w r lt = omega arith
item_counts (x ∷ items) (suc i) w r lt = omega (arith, item_counts items i w r (omega (arith, lt)))

item_leads : (q : LlProgram) (g : Ghost) (m : ℕ) (items : List Value) (i : ℕ) (w : Value) → LeadsTo q g m w → AllLead q g m items → AllLead q g m (slice_set items i w)
item_leads q g m [] i w l all = tt
item_leads q g m (x ∷ items) zero w l all = (l, all.1)
item_leads q g m (x ∷ items) (suc i) w l all = (all.0, item_leads q g m items i w l all.1)

one_leads : (q : LlProgram) (g : Ghost) (m : ℕ) (items : List Value) (i : ℕ) → AllLead q g m items → i < length items → LeadsTo q g m (read items i)
one_leads q g m [] i all lt = absurd (omega (arith, lt))
one_leads q g m (x ∷ items) zero all lt = all.0
one_leads q g m (x ∷ items) (suc i) all lt = one_leads q g m items i all.1 (omega (arith, lt))

module _ (q : LlProgram) (args : List (List ℕ)) (core : Core) (f b : ℕ) (ex : LlExit) (frames : List Frame) where
  pub store_step : (n w at i : ℕ) (x y : COperand) (ops : List LlOp) (vars : List Value) (h : List (Option Block)) (s : List Block) (pointer value : Value) (block : Block) (to : State) → read vars w ≡ pointer → is_unset pointer ≡ false
      → operand vars x ≡ Word (pos i) → i < length block.items → operand vars y ≡ value → is_unset value ≡ false
      → block_at (here core f b at vars h s) pointer ≡ Some block → begins_with (shapes_of q.structs) block.kind n ≡ true
      → goes_on (At ops ex frames) (stored (here core f b at vars h s) pointer (record block { items = slice_set block.items i value })) ≡ Goes to
      → Leads q args (At (op.SetItem n w x y ∷ ops) ex frames (here core f b at vars h s)) to
  store_step n w at i x y ops vars h s pointer value block to is set index within is_value value_set found of e =
      goes q args (At (op.SetItem n w x y ∷ ops) ex frames (here core f b at vars h s)) to
      (ap (λ p. goes_on (At ops ex frames) (st.set_item (here core f b at vars h s) (shapes_of q.structs) n p (operand vars x) (operand vars y))) is
      ∙ ap (λ v. goes_on (At ops ex frames) (st.set_item (here core f b at vars h s) (shapes_of q.structs) n pointer v (operand vars y))) index
      ∙ ap (λ v. goes_on (At ops ex frames) (st.set_item (here core f b at vars h s) (shapes_of q.structs) n pointer (Word (pos i)) v)) is_value
      ∙ ap (λ u. goes_on (At ops ex frames) (cond u (Stuck IsUnset) (on_block (λ block. st.put_item (here core f b at vars h s) pointer block (pos i) value) (reached (here core f b at vars h s) (shapes_of q.structs) n pointer)))) value_set
      ∙ ap (λ r. goes_on (At ops ex frames) (on_block (λ block. st.put_item (here core f b at vars h s) pointer block (pos i) value) r)) (reached_ok q args (here core f b at vars h s) n pointer block set found of)
      ∙ ap (λ u. goes_on (At ops ex frames) (cond u (stored (here core f b at vars h s) pointer (record block { items = slice_set block.items i value })) (Stuck Outside))) (less_is i (length block.items) within)
      ∙ e)

-- ---- an item

module _ (q : LlProgram) (args : List (List ℕ)) (c : Counts) (counting : Counting q c) (m put : ℕ) (g : Ghost) (h : List (Option Block)) (own : Value → ℕ) (a n kind : ℕ) (fields items : List Value)
    (stands : StandsWith q put (0 ∷ 1 ∷ 2 ∷ []) (put_item_types c kind m) (put_item_block c kind m ∷ [])) (is : slot_at g.blocks a ≡ S (suc n) kind fields items) (refers : c.items kind ≡ Some m) (i : ℕ) (within : i < length items) (w : Value)
    (sh : Shown c h g.blocks) (counted : IsCounted q c g own) (owned : 0 < own (Ptr a)) (lead : LeadsTo q g m w) (room : HasRoom g w) where
  abbrev items2 : List Value
  items2 = slice_set items i w

  abbrev old : Value
  old = read items i

  was_whole : IsWhole q c g (record { kind = kind; fields = fields; items = items })
  was_whole = subst (IsWhole q c g) (ap bare is) (counted.whole a (omega (arith, ap count_of is)))

  were : ItemsLead q c g (Some m) (record { kind = kind; fields = fields; items = items })
  were = subst (λ o. ItemsLead q c g o (record { kind = kind; fields = fields; items = items })) refers was_whole.items

  are : AreItems q c kind m
  are = counting.items kind m was_whole.counted refers

  old_leads : LeadsTo q g m old
  old_leads = one_leads q g m items i were.0 within

  whole2 : (g1 : Ghost) (k : ℕ) (is1 : slot_at g1.blocks a ≡ S (suc k) kind fields items) → LeadsTo q g1 m w → IsWhole q c g1 (record { kind = kind; fields = fields; items = items })
      → IsWhole q c (written g1 a (S (suc k) kind fields items2)) (record { kind = kind; fields = fields; items = items2 })
  whole2 g1 k is1 lead1 whole1 =
      let g2 : Ghost = written g1 a (S (suc k) kind fields items2) in
      let kinds : (b : ℕ) → (bare_at g2.blocks b).kind ≡ (bare_at g1.blocks b).kind = kinds_then q args c g1 own a k kind fields items fields items2 is1 old w in
      let long : length items2 ≡ length items = set_length items i w in
      let w1 : ItemsLead q c g1 (Some m) (record { kind = kind; fields = fields; items = items }) = subst (λ o. ItemsLead q c g1 o (record { kind = kind; fields = fields; items = items })) refers whole1.items in
      let now : ItemsLead q c g1 (Some m) (record { kind = kind; fields = fields; items = items2 }) = (item_leads q g1 m items i w lead1 w1.0, w1.1 ∙ ap (λ k. Word (pos k)) (sym long), omega (arith, long, w1.2)) in
      record {
        counted = whole1.counted;
        fields = fields_by_kind q c g1 g2 kinds (λ s. refl) (c.held kind) fields whole1.fields;
        items = items_by_kind q c g1 g2 kinds (λ s. refl) (c.items kind) (record { kind = kind; fields = fields; items = items2 }) (subst (λ o. ItemsLead q c g1 o (record { kind = kind; fields = fields; items = items2 })) (sym refers) now);
      }

  pub put_item_done : (core : Core) (f b : ℕ) (ex : LlExit) (frames : List Frame) (x y z : COperand) (at : ℕ) (ops : List LlOp) (vars : List Value) → operand vars x ≡ Ptr a → operand vars y ≡ Word (pos i) → operand vars z ≡ w
      → Done q args c (written g a (S (suc n) kind fields items2)) own (At (op.Call None put (x ∷ y ∷ z ∷ []) ∷ ops) ex frames (here core f b at vars h (memory g))) (λ h' s'. At ops ex frames (here core f b (at + 1) vars h' s'))
  put_item_done core f b ex frames x y z at ops vars is_x is_y is_z =
      let ret : LlExit = exit.Return None in
      let waiter : Frame = wait q args core f b ex frames at vars ops in
      let start : State = At (op.Call None put (x ∷ y ∷ z ∷ []) ∷ ops) ex frames (here core f b at vars h (memory g)) in
      let vars1 : List Value = Ptr a ∷ Word (pos i) ∷ w ∷ Unset ∷ [] in
      let vars2 : List Value = Ptr a ∷ Word (pos i) ∷ w ∷ old ∷ [] in
      let last : List LlOp = op.Call None (c.down m) (Var 3 ∷ []) ∷ [] in
      let set : List LlOp = op.SetItem kind 0 (Var 1) (Var 2) ∷ last in
      let get : List LlOp = op.GetItem 3 kind 0 (Var 1) ∷ set in
      let w_set : is_unset w ≡ false = lead_set q g m w lead in
      let all_set : any_unset (Ptr a ∷ Word (pos i) ∷ w ∷ []) ≡ false = ap (λ u. u || false) w_set in
      let at_ups : State = At (op.Call None (c.up m) (Var 2 ∷ []) ∷ get) ret (waiter ∷ frames) (here core put 0 0 vars1 h (memory g)) in
      let behind_up : List (Option Block) → List Block → State = λ h s. At get ret (waiter ∷ frames) (here core put 0 1 vars1 h s) in
      let call : Leads q args start at_ups =
      call_all_step q args core f b ex frames put at (x ∷ y ∷ z ∷ []) ops vars (Ptr a ∷ Word (pos i) ∷ w ∷ []) h (memory g) (0 ∷ 1 ∷ 2 ∷ []) (put_item_types c kind m) (put_item_block c kind m ∷ []) (put_item_block c kind m)
      (ap (λ v. v ∷ operand vars y ∷ operand vars z ∷ []) is_x ∙ ap (λ v. Ptr a ∷ v ∷ operand vars z ∷ []) is_y ∙ ap (λ v. Ptr a ∷ Word (pos i) ∷ v ∷ []) is_z) all_set stands refl in
      let up : Done q args c g (λ r. hit r w + own r) at_ups behind_up = up_done q args c counting g h own m w core put 0 ret (waiter ∷ frames) (Var 2) 0 get vars1 sh are.to lead room counted refl in
      let g1 : Ghost = up.later in
      let t : There g1.blocks a = there g1.blocks a (omega (arith, up.counted.blocks a, owned)) in
      let bare1 : bare_at g1.blocks a ≡ record { kind = kind; fields = fields; items = items } = up.same a ∙ ap bare is in
      let is1 : slot_at g1.blocks a ≡ S (suc t.n) kind fields items =
      t.is ∙ (let e1 : t.kind ≡ kind = ap (λ d. (bare d).kind) (sym t.is) ∙ ap (λ d. d.kind) bare1 in let e2 : t.fields ≡ fields = ap (λ d. (bare d).fields) (sym t.is) ∙ ap (λ d. d.fields) bare1 in
      let e3 : t.items ≡ items = ap (λ d. (bare d).items) (sym t.is) ∙ ap (λ d. d.items) bare1 in
      ap (λ k. S (suc t.n) k t.fields t.items) e1 ∙ ap (λ l. S (suc t.n) kind l t.items) e2 ∙ ap (λ l. S (suc t.n) kind fields l) e3) in
      let lead1 : LeadsTo q g1 m w = lead_kept q c g g1 up.same up.same_statics m w lead in
      let old1 : LeadsTo q g1 m old = lead_kept q c g g1 up.same up.same_statics m old old_leads in
      let whole1 : IsWhole q c g1 (record { kind = kind; fields = fields; items = items }) = whole_kept q c g g1 up.same up.same_statics (record { kind = kind; fields = fields; items = items }) was_whole in
      let block1 : Block = record { kind = kind; fields = Word (pos (suc t.n)) ∷ Fun (c.release kind) ∷ fields; items = items } in
      let cell1 : block_in up.blocks a ≡ Some block1 = up.shown.at a ∙ ap (shown c) is1 in
      let slot2 : Slot = S (suc t.n) kind fields items2 in
      let g2 : Ghost = written g1 a slot2 in
      let h2 : List (Option Block) = slice_set up.blocks a (shown c slot2) in
      let moves : Leads q args (behind_up up.blocks (memory g1)) (At last ret (waiter ∷ frames) (here core put 0 3 vars2 h2 (memory g2))) =
      leads_on q args {t = At set ret (waiter ∷ frames) (here core put 0 2 vars2 up.blocks (memory g1))}
      (item_step q args core put 0 ret (waiter ∷ frames) 3 kind 0 1 i (Var 1) set vars1 up.blocks (memory g1) (Ptr a) old block1 refl refl refl within cell1 are.of refl (lead_set q g m old old_leads))
      (store_step q args core put 0 ret (waiter ∷ frames) kind 0 2 i (Var 1) (Var 2) last vars2 up.blocks (memory g1) (Ptr a) w block1 (At last ret (waiter ∷ frames) (here core put 0 3 vars2 h2 (memory g2))) refl refl refl within refl w_set cell1 are.of refl) in
      let refs1 : (v : Value) → occurs v (references c (record { kind = kind; fields = fields; items = items })) ≡ occurs v (field_references (c.held kind) fields) + occurs v items = λ v.
      occurs_both v (field_references (c.held kind) fields) (item_references (c.items kind) items) ∙ ap (λ o. occurs v (field_references (c.held kind) fields) + occurs v (item_references o items)) refers in
      let refs2 : (v : Value) → occurs v (references c (record { kind = kind; fields = fields; items = items2 })) ≡ occurs v (field_references (c.held kind) fields) + occurs v items2 = λ v.
      occurs_both v (field_references (c.held kind) fields) (item_references (c.items kind) items2) ∙ ap (λ o. occurs v (field_references (c.held kind) fields) + occurs v (item_references o items2)) refers in
      let change : (v : Value) → occurs v (references c (record { kind = kind; fields = fields; items = items2 })) + hit v old ≡ occurs v (references c (record { kind = kind; fields = fields; items = items })) + hit v w = λ v.
      omega (arith, refs1 v, refs2 v, item_counts items i w v within) in
      let counted2 : IsCounted q c g2 (λ r. hit r old + own r) = written_counted q args c g1 own a t.n kind fields items fields items2 is1 old w up.counted change (whole2 g1 t.n is1 lead1 whole1) in
      let kinds2 : (b : ℕ) → (bare_at g2.blocks b).kind ≡ (bare_at g1.blocks b).kind = kinds_then q args c g1 own a t.n kind fields items fields items2 is1 old w in
      let down : Done q args c g2 own (At last ret (waiter ∷ frames) (here core put 0 3 vars2 h2 (memory g2))) (λ h' s'. At [] ret (waiter ∷ frames) (here core put 0 4 vars2 h' s')) =
      down_done q args c counting g2 h2 own m old core put 0 ret (waiter ∷ frames) (Var 3) 3 [] vars2 (written_shown q args c g1 own a t.n kind fields items fields items2 is1 old w up.blocks up.shown) are.to
      (lead_by_kind q c g1 g2 kinds2 (λ s. refl) m old old1) counted2 refl in
      record {
        later = down.later;
        blocks = down.blocks;
        same = λ v. down.same v ∙ same_written q args c g g1 own a n t.n kind fields items fields items2 is is1 old w up.same v;
        same_statics = λ s. down.same_statics s ∙ up.same_statics s;
        size = down.size ∙ set_length g1.blocks a slot2 ∙ up.size ∙ sym (set_length g.blocks a (S (suc n) kind fields items2));
        size_statics = down.size_statics ∙ up.size_statics;
        inners = λ v. omega (arith, down.inners v, up.inners v, inner_then q args c g1 own a t.n kind fields items fields items2 is1 old w v, inner_then q args c g own a n kind fields items fields items2 is old w v);
        counted = down.counted;
        shown = down.shown;
        leads = leads_on q args call (leads_on q args up.leads (leads_on q args moves (leads_on q args down.leads (return_step q args core f b ex frames put 0 at 4 ops vars vars2 down.blocks (memory down.later)))));
      }
