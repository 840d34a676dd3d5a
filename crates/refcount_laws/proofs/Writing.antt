-- A field or an item that is a reference is written.
use Rattle.std.proofs.Common.{◌≡◌, ◌≢◌, inl, inr, ⊎_elim, ◌<◌, ℕ, zero, suc, ◌+◌, ◌-◌, false, ◌||◌, List, [], ◌∷◌, ◌++◌, length, replicate, Option, Some, None, refl, sym, ap, ◌∙◌, subst, arith}
use Rattle.std.specs.Prelude.{slice_set, slice_get, pos, cond}
use Rattle.csub_tree.specs.State.{Value, Unset, Word, Fun, Ptr, Static, Block, Core}
use Rattle.csub_tree.specs.Layout.{shape_at, place}
use Rattle.csub_tree.specs.Operation.{is_unset}
use Rattle.csub_tree.specs.Statement.{read, operand, operands, any_unset, stored}
use Rattle.csub_tree.specs.declared.stuck.StuckReason.TheVariants.{Unset as IsUnset}
use Rattle.csub_tree.specs.declared.tree.COperand.{COperand}
use Rattle.csub_tree.specs.declared.tree.COperand.TheVariants.{Var}
use Rattle.ll_code.specs.State.{Frame, State, Calling, At, Goes, Sticks}
use Rattle.ll_code.specs.Machine.{shapes_of, goes_on, waiting, called, entered, enters}
use Rattle.ll_code.specs.declared.program.LlType.{LlType}
use Rattle.ll_code.specs.declared.program.LlOp.{LlOp}
use Rattle.ll_code.specs.declared.program.LlOp.TheVariants as op
use Rattle.ll_code.specs.declared.program.LlExit.{LlExit}
use Rattle.ll_code.specs.declared.program.LlExit.TheVariants as exit
use Rattle.ll_code.specs.declared.program.LlBlock.{LlBlock}
use Rattle.ll_code.specs.declared.program.LlProgram.{LlProgram}
use Rattle.refcount_laws.specs.Graphs.{Reference, Counts, Counting, StandsWith, IsField, put_block, put_types}
use Rattle.refcount_laws.specs.Ghost.{memory, one, hit, occurs, Slot, S, no_slot, count_of, bare, shown, slot_at, count, bare_at, field_references, item_references, references, held_by, inner, fixed_at, Ghost, IsFixed, HasRoom, LeadsTo, FieldsLead, ItemsLead, IsWhole, IsCounted, Apart, OnceIn, written}
use Rattle.refcount_laws.specs.Runs.{Leads, here}
use Rattle.refcount_laws.specs.Touched.{block_in, Shown, Done}
use Rattle.refcount_laws.proofs.Cells.{set_here, set_other, set_length}
use Rattle.refcount_laws.proofs.Ghosts.{occurs_both, There, there, inside, set_inner}
use Rattle.refcount_laws.proofs.Steps.{leads_on, goes, wait, get_step, put_step, return_step}
use Rattle.refcount_laws.proofs.Touching.{is_or_not}
use Rattle.refcount_laws.proofs.Leading.{lead_set, lead_kept, lead_by_kind, fields_by_kind, items_by_kind, whole_by_kind, whole_kept}
use Rattle.refcount_laws.proofs.Doing.{down_done, up_done}

pub apart_same : (h : Reference) (held : List Reference) (fields : List Value) (w : Value) → Apart h held → field_references held (slice_set fields h.at w) ≡ field_references held fields
apart_same h [] fields w a = refl
apart_same h (k ∷ held) fields w a =
    ap (λ v. v ∷ field_references held (slice_set fields h.at w)) (set_other fields h.at k.at w Unset (λ e. a.0 (sym e))) ∙ ap (λ l. read fields k.at ∷ l) (apart_same h held fields w a.1)

-- the references in the fields, with one of them new
once_counts : (h : Reference) (held : List Reference) (fields : List Value) (w r : Value) → OnceIn h held → h.at < length fields
    → occurs r (field_references held (slice_set fields h.at w)) + hit r (read fields h.at) ≡ occurs r (field_references held fields) + hit r w
once_counts h [] fields w r o lt = absurd o
once_counts h (k ∷ held) fields w r (inl (e, a)) lt =
    let now : read (slice_set fields h.at w) k.at ≡ w = ap (λ k. read (slice_set fields h.at w) k.at) e ∙ set_here fields h.at w Unset lt in
    let was : read fields k.at ≡ read fields h.at = ap (λ k. read fields k.at) e in
    omega (arith, ap (hit r) now, ap (hit r) was, ap (occurs r) (apart_same h held fields w a))
once_counts h (k ∷ held) fields w r (inr (ne, o)) lt = omega (arith, ap (hit r) (set_other fields h.at k.at w Unset (λ e. ne (sym e))), once_counts h held fields w r o lt)

module _ (q : LlProgram) (g : Ghost) (h : Reference) (fields : List Value) (w : Value) (lead : LeadsTo q g h.to w) (lt : h.at < length fields) where
  pub apart_lead : (held : List Reference) → Apart h held → FieldsLead q g held fields → FieldsLead q g held (slice_set fields h.at w)
  apart_lead [] a f = tt
  apart_lead (k ∷ held) a f = (subst (LeadsTo q g k.to) (sym (set_other fields h.at k.at w Unset (λ e. a.0 (sym e)))) f.0, apart_lead held a.1 f.1)

  once_lead : (held : List Reference) → OnceIn h held → FieldsLead q g held fields → FieldsLead q g held (slice_set fields h.at w)
  once_lead [] o f = absurd o
  once_lead (k ∷ held) (inl (e, a)) f =
      (subst (λ k. LeadsTo q g k.to (read (slice_set fields h.at w) k.at)) (sym e) (subst (LeadsTo q g h.to) (sym (set_here fields h.at w Unset lt)) lead), apart_lead held a f.1)
  once_lead (k ∷ held) (inr (ne, o)) f = (subst (LeadsTo q g k.to) (sym (set_other fields h.at k.at w Unset (λ e. ne (sym e)))) f.0, once_lead held o f.1)

old_lead : (q : LlProgram) (g : Ghost) (h : Reference) (held : List Reference) (fields : List Value) → OnceIn h held → FieldsLead q g held fields → LeadsTo q g h.to (read fields h.at)
old_lead q g h [] fields o f = absurd o
old_lead q g h (k ∷ held) fields (inl (e, a)) f = subst (λ k. LeadsTo q g k.to (read fields k.at)) e f.0
old_lead q g h (k ∷ held) fields (inr (ne, o)) f = old_lead q g h held fields o f.1

-- a value that leads somewhere stands inside
pub read_inside : (fields : List Value) (k : ℕ) → is_unset (read fields k) ≡ false → k < length fields
read_inside [] k e = absurd (cc)
read_inside (x ∷ fields) zero e = omega arith
read_inside (x ∷ fields) (suc k) e = omega (arith, read_inside fields k e)

module _ (q : LlProgram) (args : List (List ℕ)) (c : Counts) (g : Ghost) (own : Value → ℕ) (a n kind : ℕ) (fields items fields2 items2 : List Value) (is : slot_at g.blocks a ≡ S (suc n) kind fields items) (old new : Value) where
  abbrev block1 : Block
  block1 = record { kind = kind; fields = fields; items = items }

  abbrev block2 : Block
  block2 = record { kind = kind; fields = fields2; items = items2 }

  abbrev slot2 : Slot
  slot2 = S (suc n) kind fields2 items2

  abbrev then_ : Ghost
  then_ = written g a slot2

  live : 0 < count g.blocks a
  live = omega (arith, ap count_of is)

  pub slot_then : slot_at then_.blocks a ≡ slot2
  slot_then = set_here g.blocks a slot2 no_slot (inside g.blocks a live)

  slot_else : (b : ℕ) → a ≢ b → slot_at then_.blocks b ≡ slot_at g.blocks b
  slot_else b ne = set_other g.blocks a b slot2 no_slot ne

  pub kinds_then : (b : ℕ) → (bare_at then_.blocks b).kind ≡ (bare_at g.blocks b).kind
  kinds_then b = ⊎_elim (λ e. subst (λ b. (bare_at then_.blocks b).kind ≡ (bare_at g.blocks b).kind) e (ap (λ d. (bare d).kind) slot_then ∙ sym (ap (λ d. (bare d).kind) is))) (λ ne. ap (λ d. (bare d).kind) (slot_else b ne)) (is_or_not a b)

  pub counts_then : (b : ℕ) → count then_.blocks b ≡ count g.blocks b
  counts_then b = ⊎_elim (λ e. subst (λ b. count then_.blocks b ≡ count g.blocks b) e (ap count_of slot_then ∙ sym (ap count_of is))) (λ ne. ap count_of (slot_else b ne)) (is_or_not a b)

  pub inner_then : (r : Value) → inner c then_.blocks r + occurs r (references c block1) ≡ inner c g.blocks r + occurs r (references c block2)
  inner_then r = omega (arith, set_inner c g.blocks a slot2 live r, ap (λ d. held_by c d r) is)

  -- where one reference is new
  pub written_counted : IsCounted q c g (λ r. hit r new + own r) → ((r : Value) → occurs r (references c block2) + hit r old ≡ occurs r (references c block1) + hit r new) → IsWhole q c then_ block2 → IsCounted q c then_ (λ r. hit r old + own r)
  written_counted counted change whole = record {
    blocks = λ b. omega (arith, counted.blocks b, counts_then b, inner_then (Ptr b), change (Ptr b));
    statics = λ s. subst (IsFixed c (fixed_at g.statics s)) (let k : inner c g.blocks (Static s) + (hit (Static s) new + own (Static s)) ≡ inner c then_.blocks (Static s) + (hit (Static s) old + own (Static s)) = omega (arith, inner_then (Static s), change (Static s)) in k) (counted.statics s);
    small = λ b. omega (arith, counted.small b, counts_then b);
    small_static = counted.small_static;
    whole = λ b lt. ⊎_elim
        (λ e. subst (λ b. IsWhole q c then_ (bare_at then_.blocks b)) e (subst (IsWhole q c then_) (sym (ap bare slot_then)) whole))
        (λ ne. subst (IsWhole q c then_) (sym (ap bare (slot_else b ne))) (whole_by_kind q c g then_ kinds_then (λ s. refl) (bare_at g.blocks b) (counted.whole b (omega (arith, lt, counts_then b)))))
        (is_or_not a b);
  }

  pub written_shown : (h : List (Option Block)) → Shown c h g.blocks → Shown c (slice_set h a (shown c slot2)) then_.blocks
  written_shown h sh = record {
    at = λ b. ⊎_elim
        (λ e. subst (λ b. block_in (slice_set h a (shown c slot2)) b ≡ shown c (slot_at then_.blocks b)) e (set_here h a (shown c slot2) None (omega (arith, sh.size, inside g.blocks a live)) ∙ sym (ap (shown c) slot_then)))
        (λ ne. set_other h a b (shown c slot2) None ne ∙ sh.at b ∙ sym (ap (shown c) (slot_else b ne))) (is_or_not a b);
    size = set_length h a (shown c slot2) ∙ sh.size ∙ sym (set_length g.blocks a slot2);
  }

-- the same block is written, whatever the counts
pub same_written : (q : LlProgram) (args : List (List ℕ)) (c : Counts) (g g1 : Ghost) (own : Value → ℕ) (a n m kind : ℕ) (fields items fields2 items2 : List Value) (is : slot_at g.blocks a ≡ S (suc n) kind fields items) (is1 : slot_at g1.blocks a ≡ S (suc m) kind fields items)
    (old new : Value) → ((b : ℕ) → bare_at g1.blocks b ≡ bare_at g.blocks b) → (b : ℕ) → bare_at (written g1 a (S (suc m) kind fields2 items2)).blocks b ≡ bare_at (written g a (S (suc n) kind fields2 items2)).blocks b
same_written q args c g g1 own a n m kind fields items fields2 items2 is is1 old new same b =
    ⊎_elim
    (λ e. subst (λ b. bare_at (written g1 a (S (suc m) kind fields2 items2)).blocks b ≡ bare_at (written g a (S (suc n) kind fields2 items2)).blocks b) e
    (ap bare (slot_then q args c g1 own a m kind fields items fields2 items2 is1 old new) ∙ sym (ap bare (slot_then q args c g own a n kind fields items fields2 items2 is old new))))
    (λ ne. ap bare (set_other g1.blocks a b (S (suc m) kind fields2 items2) no_slot ne) ∙ same b ∙ sym (ap bare (set_other g.blocks a b (S (suc n) kind fields2 items2) no_slot ne))) (is_or_not a b)

-- ---- a call with two or three operands

module _ (q : LlProgram) (args : List (List ℕ)) (core : Core) (f b : ℕ) (ex : LlExit) (frames : List Frame) where
  pub call_all_step : (g at : ℕ) (xs : List COperand) (ops : List LlOp) (vars values : List Value) (h : List (Option Block)) (s : List Block) (params : List ℕ) (types : List LlType) (blocks : List LlBlock) (first : LlBlock) → operands vars xs ≡ values
      → any_unset values ≡ false → StandsWith q g params types blocks → slice_get blocks 0 ≡ Some first
      → Leads q args (At (op.Call None g xs ∷ ops) ex frames (here core f b at vars h s)) (At first.ops first.exit (wait q args core f b ex frames at vars ops ∷ frames) (here core g 0 0 (values ++ replicate (length types - length params) Unset) h s))
  call_all_step g at xs ops vars values h s params types blocks first is set stands one =
      let waiter : Frame = wait q args core f b ex frames at vars ops in
      let calling : State = Calling g values (waiter ∷ frames) (here core f b at vars h s) in
      let target : State = At first.ops first.exit (waiter ∷ frames) (here core g 0 0 (values ++ replicate (length types - length params) Unset) h s) in
      leads_on q args {t = calling}
      (goes q args (At (op.Call None g xs ∷ ops) ex frames (here core f b at vars h s)) calling
      (ap (λ l. called g l (waiting (here core f b at vars h s) None ops ex ∷ frames) (here core f b at vars h s)) is ∙ ap (λ u. cond u (Sticks IsUnset) (Goes calling)) set))
      (goes q args calling target
      (ap (entered g values (waiter ∷ frames) (here core f b at vars h s)) stands.there
      ∙ ap (λ l. enters g values (waiter ∷ frames) (here core f b at vars h s) stands.graph (slice_get l 0)) stands.laid
      ∙ ap (enters g values (waiter ∷ frames) (here core f b at vars h s) stands.graph) one
      ∙ ap (λ n. Goes (At first.ops first.exit (waiter ∷ frames) (here core g 0 0 (values ++ replicate (n - length stands.graph.params) Unset) h s))) (ap length stands.typed)
      ∙ ap (λ l. Goes (At first.ops first.exit (waiter ∷ frames) (here core g 0 0 (values ++ replicate (length types - length l) Unset) h s))) stands.taken))

-- ---- a field

module _ (q : LlProgram) (args : List (List ℕ)) (c : Counts) (counting : Counting q c) (r : Reference) (put : ℕ) (stands : StandsWith q put (0 ∷ 1 ∷ []) (put_types c r) (put_block c r ∷ [])) (g : Ghost) (h : List (Option Block)) (own : Value → ℕ) (a n kind : ℕ)
    (fields items : List Value) (is : slot_at g.blocks a ≡ S (suc n) kind fields items) (field : IsField q c kind r) (once : OnceIn r (c.held kind)) (beside : (m : ℕ) → c.items kind ≡ Some m → c.number_at kind ≢ r.at) (w : Value)
    (sh : Shown c h g.blocks) (counted : IsCounted q c g own) (owned : 0 < own (Ptr a)) (lead : LeadsTo q g r.to w) (room : HasRoom g w) where
  abbrev fields2 : List Value
  fields2 = slice_set fields r.at w

  abbrev old : Value
  old = read fields r.at

  was_whole : IsWhole q c g (record { kind = kind; fields = fields; items = items })
  was_whole = subst (IsWhole q c g) (ap bare is) (counted.whole a (omega (arith, ap count_of is)))

  old_leads : LeadsTo q g r.to old
  old_leads = old_lead q g r (c.held kind) fields once was_whole.fields

  room_in : r.at < length fields
  room_in = read_inside fields r.at (lead_set q g r.to old old_leads)

  -- the block is whole with the new value, whatever the counts
  whole2 : (g1 : Ghost) (m : ℕ) (is1 : slot_at g1.blocks a ≡ S (suc m) kind fields items) → LeadsTo q g1 r.to w → IsWhole q c g1 (record { kind = kind; fields = fields; items = items })
      → IsWhole q c (written g1 a (S (suc m) kind fields2 items)) (record { kind = kind; fields = fields2; items = items })
  whole2 g1 m is1 lead1 whole1 =
      let g2 : Ghost = written g1 a (S (suc m) kind fields2 items) in
      let kinds : (b : ℕ) → (bare_at g2.blocks b).kind ≡ (bare_at g1.blocks b).kind = kinds_then q args c g1 own a m kind fields items fields2 items is1 old w in
      record {
        counted = whole1.counted;
        fields = fields_by_kind q c g1 g2 kinds (λ s. refl) (c.held kind) fields2 (once_lead q g1 r fields w lead1 room_in (c.held kind) once whole1.fields);
        items = items_by_kind q c g1 g2 kinds (λ s. refl) (c.items kind) (record { kind = kind; fields = fields2; items = items }) (number_kept (c.items kind) refl whole1.items);
      }
    where
      number_kept : (o : Option ℕ) → c.items kind ≡ o → ItemsLead q c g1 o (record { kind = kind; fields = fields; items = items }) → ItemsLead q c g1 o (record { kind = kind; fields = fields2; items = items })
      number_kept None e i = tt
      number_kept (Some m) e i = (i.0, set_other fields r.at (c.number_at kind) w Unset (λ q. beside m e (sym q)) ∙ i.1, i.2)

  pub put_done : (core : Core) (f b : ℕ) (ex : LlExit) (frames : List Frame) (x y : COperand) (at : ℕ) (ops : List LlOp) (vars : List Value) → operand vars x ≡ Ptr a → operand vars y ≡ w
      → Done q args c (written g a (S (suc n) kind fields2 items)) own (At (op.Call None put (x ∷ y ∷ []) ∷ ops) ex frames (here core f b at vars h (memory g))) (λ h' s'. At ops ex frames (here core f b (at + 1) vars h' s'))
  put_done core f b ex frames x y at ops vars is_x is_y =
      let ret : LlExit = exit.Return None in
      let waiter : Frame = wait q args core f b ex frames at vars ops in
      let start : State = At (op.Call None put (x ∷ y ∷ []) ∷ ops) ex frames (here core f b at vars h (memory g)) in
      let end : List (Option Block) → List Block → State = λ h' s'. At ops ex frames (here core f b (at + 1) vars h' s') in
      let vars1 : List Value = Ptr a ∷ w ∷ Unset ∷ [] in
      let vars2 : List Value = Ptr a ∷ w ∷ old ∷ [] in
      let last : List LlOp = op.Call None (c.down r.to) (Var 2 ∷ []) ∷ [] in
      let set : List LlOp = op.SetField r.owner 0 r.number (Var 1) ∷ last in
      let get : List LlOp = op.GetField 2 r.owner 0 r.number ∷ set in
      let w_set : is_unset w ≡ false = lead_set q g r.to w lead in
      let both_set : any_unset (Ptr a ∷ w ∷ []) ≡ false = ap (λ u. u || false) w_set in
      let at_ups : State = At (op.Call None (c.up r.to) (Var 1 ∷ []) ∷ get) ret (waiter ∷ frames) (here core put 0 0 vars1 h (memory g)) in
      let behind_up : List (Option Block) → List Block → State = λ h s. At get ret (waiter ∷ frames) (here core put 0 1 vars1 h s) in
      let call : Leads q args start at_ups =
      call_all_step q args core f b ex frames put at (x ∷ y ∷ []) ops vars (Ptr a ∷ w ∷ []) h (memory g) (0 ∷ 1 ∷ []) (put_types c r) (put_block c r ∷ []) (put_block c r)
      (ap (λ v. v ∷ operand vars y ∷ []) is_x ∙ ap (λ v. Ptr a ∷ v ∷ []) is_y) both_set stands refl in
      let up : Done q args c g (λ r. hit r w + own r) at_ups behind_up = up_done q args c counting g h own r.to w core put 0 ret (waiter ∷ frames) (Var 1) 0 get vars1 sh field.to lead room counted refl in
      let g1 : Ghost = up.later in
      let alive1 : 0 < count g1.blocks a = omega (arith, up.counted.blocks a, owned) in
      let t : There g1.blocks a = there g1.blocks a alive1 in
      let bare1 : bare_at g1.blocks a ≡ record { kind = kind; fields = fields; items = items } = up.same a ∙ ap bare is in
      let is1 : slot_at g1.blocks a ≡ S (suc t.n) kind fields items =
      t.is ∙ (let e1 : t.kind ≡ kind = ap (λ d. (bare d).kind) (sym t.is) ∙ ap (λ d. d.kind) bare1 in let e2 : t.fields ≡ fields = ap (λ d. (bare d).fields) (sym t.is) ∙ ap (λ d. d.fields) bare1 in
      let e3 : t.items ≡ items = ap (λ d. (bare d).items) (sym t.is) ∙ ap (λ d. d.items) bare1 in
      ap (λ k. S (suc t.n) k t.fields t.items) e1 ∙ ap (λ l. S (suc t.n) kind l t.items) e2 ∙ ap (λ l. S (suc t.n) kind fields l) e3) in
      let lead1 : LeadsTo q g1 r.to w = lead_kept q c g g1 up.same up.same_statics r.to w lead in
      let old1 : LeadsTo q g1 r.to old = lead_kept q c g g1 up.same up.same_statics r.to old old_leads in
      let whole1 : IsWhole q c g1 (record { kind = kind; fields = fields; items = items }) = whole_kept q c g g1 up.same up.same_statics (record { kind = kind; fields = fields; items = items }) was_whole in
      let block1 : Block = record { kind = kind; fields = Word (pos (suc t.n)) ∷ Fun (c.release kind) ∷ fields; items = items } in
      let cell1 : block_in up.blocks a ≡ Some block1 = up.shown.at a ∙ ap (shown c) is1 in
      let slot2 : Slot = S (suc t.n) kind fields2 items in
      let g2 : Ghost = written g1 a slot2 in
      let h2 : List (Option Block) = slice_set up.blocks a (shown c slot2) in
      let place_is : place (shape_at (shapes_of q.structs) r.owner) r.number ≡ suc (suc r.at) = field.place in
      let moves : Leads q args (behind_up up.blocks (memory g1)) (At last ret (waiter ∷ frames) (here core put 0 3 vars2 h2 (memory g2))) =
      leads_on q args {t = At set ret (waiter ∷ frames) (here core put 0 2 vars2 up.blocks (memory g1))}
      (get_step q args core put 0 ret (waiter ∷ frames) 2 r.owner 0 r.number 1 set vars1 up.blocks (memory g1) (Ptr a) old block1 refl refl cell1 field.of (ap (read block1.fields) place_is) (lead_set q g r.to old old_leads))
      (put_step q args core put 0 ret (waiter ∷ frames) r.owner 0 r.number 2 (Var 1) last vars2 up.blocks (memory g1) (Ptr a) w block1 (At last ret (waiter ∷ frames) (here core put 0 3 vars2 h2 (memory g2))) refl refl refl w_set cell1 field.of
      (ap (λ k. goes_on (At last ret (waiter ∷ frames)) (stored (here core put 0 2 vars2 up.blocks (memory g1)) (Ptr a) (record block1 { fields = slice_set block1.fields k w }))) place_is)) in
      let change : (v : Value) → occurs v (references c (record { kind = kind; fields = fields2; items = items })) + hit v old ≡ occurs v (references c (record { kind = kind; fields = fields; items = items })) + hit v w = λ v.
      omega (arith, occurs_both v (field_references (c.held kind) fields2) (item_references (c.items kind) items), occurs_both v (field_references (c.held kind) fields) (item_references (c.items kind) items), once_counts r (c.held kind) fields w v once room_in) in
      let counted2 : IsCounted q c g2 (λ r. hit r old + own r) = written_counted q args c g1 own a t.n kind fields items fields2 items is1 old w up.counted change (whole2 g1 t.n is1 lead1 whole1) in
      let kinds2 : (b : ℕ) → (bare_at g2.blocks b).kind ≡ (bare_at g1.blocks b).kind = kinds_then q args c g1 own a t.n kind fields items fields2 items is1 old w in
      let down : Done q args c g2 own (At last ret (waiter ∷ frames) (here core put 0 3 vars2 h2 (memory g2))) (λ h' s'. At [] ret (waiter ∷ frames) (here core put 0 4 vars2 h' s')) =
      down_done q args c counting g2 h2 own r.to old core put 0 ret (waiter ∷ frames) (Var 2) 3 [] vars2 (written_shown q args c g1 own a t.n kind fields items fields2 items is1 old w up.blocks up.shown) field.to
      (lead_by_kind q c g1 g2 kinds2 (λ s. refl) r.to old old1) counted2 refl in
      let g3 : Ghost = written g a (S (suc n) kind fields2 items) in
      record {
        later = down.later;
        blocks = down.blocks;
        same = λ v. down.same v ∙ same_written q args c g g1 own a n t.n kind fields items fields2 items is is1 old w up.same v;
        same_statics = λ s. down.same_statics s ∙ up.same_statics s;
        size = down.size ∙ set_length g1.blocks a slot2 ∙ up.size ∙ sym (set_length g.blocks a (S (suc n) kind fields2 items));
        size_statics = down.size_statics ∙ up.size_statics;
        inners = λ v. omega (arith, down.inners v, up.inners v, inner_then q args c g1 own a t.n kind fields items fields2 items is1 old w v, inner_then q args c g own a n kind fields items fields2 items is old w v);
        counted = down.counted;
        shown = down.shown;
        leads = leads_on q args call (leads_on q args up.leads (leads_on q args moves (leads_on q args down.leads (return_step q args core f b ex frames put 0 at 4 ops vars vars2 down.blocks (memory down.later)))));
      }
