-- A new block has one reference, and refers to nothing.
use Rattle.std.proofs.Common.{◌≡◌, ◌≢◌, ◌⊎◌, inl, inr, ⊎_elim, ◌<◌, ◌≤◌, ℕ, zero, suc, ◌+◌, true, false, List, [], ◌∷◌, ◌++◌, ◌^◌, length, map, Option, Some, None, refl, sym, ap, ◌∙◌, subst, arith}
use Rattle.std.specs.Prelude.{slice_get, slice_set, ◌==◌}
use Rattle.csub_tree.specs.State.{Value, Unset, Word, Byte, Flag, Fun, Null, Ptr, Static, Block, Core, Told}
use Rattle.csub_tree.specs.Layout.{begins_with}
use Rattle.csub_tree.specs.Operation.{is_unset}
use Rattle.csub_tree.specs.Statement.{read, operand}
use Rattle.csub_tree.specs.declared.tree.COperand.{COperand}
use Rattle.csub_tree.specs.declared.tree.COperand.TheVariants.{Const}
use Rattle.ll_code.specs.State.{Frame, State, At, Goes}
use Rattle.ll_code.specs.Machine.{step, goes_on, shapes_of}
use Rattle.ll_code.specs.declared.program.LlOp.{LlOp}
use Rattle.ll_code.specs.declared.program.LlOp.TheVariants as op
use Rattle.ll_code.specs.declared.program.LlExit.{LlExit}
use Rattle.ll_code.specs.declared.program.LlType.{LlType}
use Rattle.ll_code.specs.declared.program.LlProgram.{LlProgram}
use Rattle.ll_live.specs.Live.{among, reads, set_by, live}
use Rattle.refcount_transform.specs.Plan.{Plan, plan_of, is_counted, root_of, reference_given}
use Rattle.refcount_transform.specs.Changes.{Around, around_of, var_referred, touched, dead}
use Rattle.refcount_transform.specs.Counted.{counted}
use Rattle.refcount_laws.specs.Graphs.{Counts, Counting}
use Rattle.refcount_laws.specs.Made.{counts_of}
use Rattle.refcount_laws.specs.Ghost.{Ghost, Slot, fixed_at, bare_at, count, memory, hit, LeadsTo, IsCounted}
use Rattle.refcount_laws.specs.Runs.{Leads, here}
use Rattle.refcount_laws.specs.Touched.{block_in, Shown}
use Rattle.refcount_laws.specs.Owned.{owned, hits_by}
use Rattle.refcount_laws.specs.Matches.{Near, NearBlock, NearMemory, PointsTo, Pointing, AllRoots, Stands, Follows}
use Rattle.refcount_laws.proofs.Cells.{set_here, set_other, set_length}
use Rattle.refcount_laws.proofs.Steps.{stays, leads_on}
use Rattle.refcount_laws.proofs.Touching.{is_or_not, there_inside}
use Rattle.refcount_laws.proofs.Moving.{own_same}
use Rattle.refcount_laws.proofs.Numbers.{Based}
use Rattle.std.specs.Prelude.{pos}
use Rattle.refcount_transform.specs.Changes.{changed}
use Rattle.refcount_laws.proofs.Following.{comes_before, value_end}
use Rattle.csub_tree.specs.declared.tree.CConst.TheVariants as const
use Rattle.ll_laws.proofs.Values.{is_same}
use Rattle.refcount_laws.specs.Ghost.{one, inner}
use Rattle.refcount_laws.proofs.Ghosts.{one_self}
use Rattle.csub_tree.specs.Layout.{shape_at, place}
use Rattle.ll_code.specs.Typed.{items_of}
use Rattle.ll_code.specs.declared.program.LlStruct.{LlStruct}
use Rattle.refcount_transform.specs.Plan.{held_of}
use Rattle.refcount_laws.specs.Made.{shapes_counted, reference_of}
use Rattle.refcount_laws.specs.Ghost.{S, bare, shown, slot_at, occurs, field_references, item_references, references, IsWhole}
use Rattle.refcount_laws.proofs.Cells.{past}
use Rattle.refcount_laws.proofs.Ghosts.{occurs_both}
use Rattle.refcount_laws.proofs.Standing.{StructAt, marked_there}
use Rattle.refcount_laws.proofs.Members.{inner_has}
use Rattle.refcount_laws.proofs.Copying.{no_null}
use Rattle.std.specs.Prelude.{replicate}
use Rattle.csub_tree.specs.Statement.{stored}
use Rattle.refcount_laws.specs.Graphs.{Reference}
use Rattle.refcount_laws.specs.Ghost.{no_slot, count_of, FieldsLead, ItemsLead}
use Rattle.refcount_laws.proofs.Steps.{put_step}
use Rattle.csub_tree.specs.State.{Made}
use Rattle.ll_code.specs.State.{Tells}
use Rattle.ll_laws.proofs.Cells.{new_at, old_at}
use Rattle.ll_laws.proofs.Heap.{length_unset, unset_at}
use Rattle.refcount_transform.specs.declared.plan.Held.{Held}
use Rattle.refcount_transform.specs.Plan.{root, has_count}
use Rattle.std.specs.Prelude.{is_none}
use Rattle.refcount_transform.specs.Counted.{struct_by, structs_of}
use Rattle.refcount_laws.specs.Graphs.{IsRoot}
use Rattle.refcount_laws.specs.Made.{place_in}
use Rattle.refcount_laws.proofs.Numbers.{is_own_root}
use Rattle.refcount_laws.proofs.Shapes.{HasBase, begins_itself, begins_on}
use Rattle.refcount_laws.proofs.Touching.{set_twice}
use Rattle.refcount_laws.proofs.Places.{counted_based, counted_base, base_there, root_of_base, earlier, struct_there}
use Rattle.refcount_transform.specs.Changes.{header, header_by, nulls}
use Rattle.refcount_transform.specs.Made as made
use Rattle.refcount_laws.specs.Graphs.{AllFields}
use Rattle.refcount_laws.specs.Ghost.{AllLead, IsFixed, held_by}
use Rattle.refcount_laws.proofs.Ghosts.{one_other}
use Rattle.refcount_laws.proofs.Numbers.{length_two}
use Rattle.refcount_laws.proofs.Spread.{High, held_high}
use Rattle.refcount_laws.proofs.Alike.{size_fuel}
use Rattle.ll_held.specs.Held.{is_reference}
use Rattle.ll_code.specs.declared.program.LlType.TheVariants as type
use Rattle.csub_tree.specs.declared.tree.COperand.TheVariants.{Var}
use Rattle.refcount_transform.specs.Plan.{items_referred, counts_at}
use Rattle.refcount_laws.specs.Graphs.{AreItems}
use Rattle.refcount_laws.specs.Ghost.{Apart}
use Rattle.refcount_laws.proofs.Cells.{both_again}
use Rattle.refcount_laws.proofs.Writing.{apart_same}
use Rattle.refcount_laws.proofs.Spread.{begin, own_at, field_apart, inside_n}
use Rattle.refcount_laws.proofs.Putting.{clear_stands}
use Rattle.refcount_laws.proofs.Clearing.{filled, clear_run}

-- these fields are NULL
abbrev pub nulled : List Reference → List Value → List Value
nulled [] fields = fields
nulled (r ∷ held) fields = nulled held (slice_set fields r.at Null)

nulled_size : (held : List Reference) (fields : List Value) → length (nulled held fields) ≡ length fields
nulled_size [] fields = refl
nulled_size (r ∷ held) fields = nulled_size held (slice_set fields r.at Null) ∙ set_length fields r.at Null

nulled_stays : (held : List Reference) (fields : List Value) (k : ℕ) → read fields k ≡ Null → read (nulled held fields) k ≡ Null
nulled_stays [] fields k e = e
nulled_stays (r ∷ held) fields k e = nulled_stays held (slice_set fields r.at Null) k (⊎_elim (λ f. subst (λ k. read (slice_set fields r.at Null) k ≡ Null) f (here fields r.at (ap (read fields) f ∙ e))) (λ ne. set_other fields r.at k Null Unset ne ∙ e) (is_or_not r.at k))
  where
    here : (fields : List Value) (a : ℕ) → read fields a ≡ Null → read (slice_set fields a Null) a ≡ Null
    here [] a e = e
    here (x ∷ fields) zero e = refl
    here (x ∷ fields) (suc a) e = here fields a e

-- each of them is NULL then, or stands nowhere
all_null : (held : List Reference) (fields : List Value) (high : ℕ) → High high held → high ≤ length fields → (r : Value) → occurs r (field_references held (nulled held fields)) ≡ 0
all_null [] fields high below le r = refl
all_null (t ∷ held) fields high below le r =
    let lt : t.at < high = below.0 in
    let here : read (nulled held (slice_set fields t.at Null)) t.at ≡ Null = nulled_stays held (slice_set fields t.at Null) t.at (set_here fields t.at Null Unset (omega (arith, lt, le))) in
    let rest : occurs r (field_references held (nulled held (slice_set fields t.at Null))) ≡ 0 = all_null held (slice_set fields t.at Null) high below.1 (omega (arith, le, set_length fields t.at Null)) r in
    omega (arith, ap (hit r) here, no_null r, rest)

nulls_lead : (q : LlProgram) (g : Ghost) (held : List Reference) (fields : List Value) (high : ℕ) → High high held → high ≤ length fields → FieldsLead q g held (nulled held fields)
nulls_lead q g [] fields high below le = tt
nulls_lead q g (t ∷ held) fields high below le =
    let lt : t.at < high = below.0 in
    let here : read (nulled held (slice_set fields t.at Null)) t.at ≡ Null = nulled_stays held (slice_set fields t.at Null) t.at (set_here fields t.at Null Unset (omega (arith, lt, le))) in
    (subst (LeadsTo q g t.to) (sym here) tt, nulls_lead q g held (slice_set fields t.at Null) high below.1 (omega (arith, le, set_length fields t.at Null)))

-- what was unset is unset, or NULL
nulled_near : (held : List Reference) (n : ℕ) (fields : List Value) → ((k : ℕ) → Near (read (replicate n Unset) k) (read fields k)) → (k : ℕ) → Near (read (replicate n Unset) k) (read (nulled held fields) k)
nulled_near [] n fields near k = near k
nulled_near (r ∷ held) n fields near k = nulled_near held n (slice_set fields r.at Null) (λ j. one j (is_or_not r.at j)) k
  where
    same_or : (fields : List Value) (a : ℕ) → (read (slice_set fields a Null) a ≡ read fields a) ⊎ (read (slice_set fields a Null) a ≡ Null)
    same_or [] a = inl refl
    same_or (x ∷ fields) zero = inr refl
    same_or (x ∷ fields) (suc a) = same_or fields a

    at_it : (read (slice_set fields r.at Null) r.at ≡ read fields r.at) ⊎ (read (slice_set fields r.at Null) r.at ≡ Null) → Near (read (replicate n Unset) r.at) (read (slice_set fields r.at Null) r.at)
    at_it (inl e) = subst (λ y. Near (read (replicate n Unset) r.at) y) (sym e) (near r.at)
    at_it (inr e) = inr (unset_at n r.at, ap is_reference e)

    one : (j : ℕ) → (r.at ≡ j) ⊎ (r.at ≢ j) → Near (read (replicate n Unset) j) (read (slice_set fields r.at Null) j)
    one j (inl e) = subst (λ j. Near (read (replicate n Unset) j) (read (slice_set fields r.at Null) j)) e (at_it (same_or fields r.at))
    one j (inr ne) = subst (λ y. Near (read (replicate n Unset) j) y) (sym (set_other fields r.at j Null Unset ne)) (near j)

-- ---- the ghost with one block more

abbrev pub grown : Ghost → Slot → Ghost
grown g d = record g { blocks = g.blocks ++ d ∷ [] }

inner_grown : (c : Counts) (g : List Slot) (d : Slot) (r : Value) → inner c (g ++ d ∷ []) r ≡ inner c g r + held_by c d r
inner_grown c [] d r = omega arith
inner_grown c (x ∷ g) d r = omega (arith, inner_grown c g d r)

one_more : (g : List Slot) (d : Slot) → length (g ++ d ∷ []) ≡ suc (length g)
one_more g d = omega (arith, length_two g (d ∷ []))

module _ (q : LlProgram) (c : Counts) (g : Ghost) (d : Slot) (own : Value → ℕ) (counts : IsCounted q c g own) where
  abbrev size : ℕ
  size = length g.blocks

  abbrev more : Ghost
  more = grown g d

  none_yet : count g.blocks size ≡ 0
  none_yet = ap count_of (past g.blocks size no_slot (omega arith))

  slot_last : slot_at more.blocks size ≡ d
  slot_last = new_at g.blocks d no_slot

  slot_old : (b : ℕ) → b ≢ size → slot_at more.blocks b ≡ slot_at g.blocks b
  slot_old b ne = old_at g.blocks d no_slot b ne

  -- nothing leads to it yet
  lead_on : (to : ℕ) (v : Value) → hit (Ptr size) v ≡ 0 → LeadsTo q g to v → LeadsTo q more to v
  lead_on to Unset z l = absurd l
  lead_on to (Word x) z l = absurd l
  lead_on to (Byte x) z l = absurd l
  lead_on to (Flag x) z l = absurd l
  lead_on to (Fun x) z l = absurd l
  lead_on to Null z l = tt
  lead_on to (Static s) z l = l
  lead_on to (Ptr b) z l =
      ⊎_elim (λ e. absurd (let o : one size size ≡ 0 = ap (λ b. one b size) (sym e) ∙ z in omega (arith, o, one_self size))) (λ ne. ap (λ d. begins_with (shapes_of q.structs) (bare d).kind to) (slot_old b ne) ∙ l) (is_or_not b size)

  all_on : (to : ℕ) (vs : List Value) → occurs (Ptr size) vs ≡ 0 → AllLead q g to vs → AllLead q more to vs
  all_on to [] z l = tt
  all_on to (v ∷ vs) z l = (lead_on to v (omega (arith, z)) l.0, all_on to vs (omega (arith, z)) l.1)

  fields_on : (held : List Reference) (fields : List Value) → occurs (Ptr size) (field_references held fields) ≡ 0 → FieldsLead q g held fields → FieldsLead q more held fields
  fields_on [] fields z l = tt
  fields_on (r ∷ held) fields z l = (lead_on r.to (read fields r.at) (omega (arith, z)) l.0, fields_on held fields (omega (arith, z)) l.1)

  items_on : (o : Option ℕ) (block : Block) → occurs (Ptr size) (item_references o block.items) ≡ 0 → ItemsLead q c g o block → ItemsLead q c more o block
  items_on None block z l = tt
  items_on (Some m) block z l = (all_on m block.items z l.0, l.1, l.2)

  whole_on : (b : ℕ) → b ≢ size → 0 < count g.blocks b → IsWhole q c more (bare_at more.blocks b)
  whole_on b ne lt =
      let w : IsWhole q c g (bare_at g.blocks b) = counts.whole b lt in
      let none : occurs (Ptr size) (references c (bare_at g.blocks b)) ≡ 0 = omega (arith, inner_has c g.blocks b (Ptr size) lt, counts.blocks size, none_yet) in
      let block : Block = bare_at g.blocks b in
      let two : occurs (Ptr size) (references c block) ≡ occurs (Ptr size) (field_references (c.held block.kind) block.fields) + occurs (Ptr size) (item_references (c.items block.kind) block.items) =
      occurs_both (Ptr size) (field_references (c.held block.kind) block.fields) (item_references (c.items block.kind) block.items) in
      subst (IsWhole q c more) (sym (ap bare (slot_old b ne)))
      (record {
        counted = w.counted;
        fields = fields_on (c.held block.kind) block.fields (omega (arith, none, two)) w.fields;
        items = items_on (c.items block.kind) block (omega (arith, none, two)) w.items;
      })

  pub grown_counted : count_of d ≡ 1 → ((r : Value) → held_by c d r ≡ 0) → IsWhole q c more (bare d) → IsCounted q c more (λ r. hit r (Ptr size) + own r)
  grown_counted first nothing whole = record {
    blocks = λ b. ⊎_elim
        (λ e. subst (λ b. count more.blocks b ≡ inner c more.blocks (Ptr b) + (one size b + own (Ptr b))) (sym e) (omega (arith, ap count_of slot_last, first, inner_grown c g.blocks d (Ptr size), nothing (Ptr size), counts.blocks size, none_yet, one_self size)))
        (λ ne. omega (arith, ap count_of (slot_old b ne), inner_grown c g.blocks d (Ptr b), nothing (Ptr b), counts.blocks b, one_other size b (λ q. ne (sym q)))) (is_or_not b size);
    statics = λ s. subst (IsFixed c (fixed_at g.statics s)) (let k : inner c g.blocks (Static s) + own (Static s) ≡ inner c more.blocks (Static s) + (0 + own (Static s)) = omega (arith, inner_grown c g.blocks d (Static s), nothing (Static s)) in k) (counts.statics s);
    small = λ b. ⊎_elim (λ e. subst (λ b. count more.blocks b < 2 ^ 63) (sym e) (omega (arith, ap count_of slot_last, first))) (λ ne. omega (arith, ap count_of (slot_old b ne), counts.small b)) (is_or_not b size);
    small_static = counts.small_static;
    whole = λ b lt. ⊎_elim
        (λ e. subst (λ b. IsWhole q c more (bare_at more.blocks b)) (sym e) (subst (IsWhole q c more) (sym (ap bare slot_last)) whole))
        (λ ne. whole_on b ne (omega (arith, lt, ap count_of (slot_old b ne)))) (is_or_not b size);
  }

  pub grown_shown : (h : List (Option Block)) → Shown c h g.blocks → Shown c (h ++ shown c d ∷ []) more.blocks
  grown_shown h sh = record {
    at = λ b. ⊎_elim
        (λ e. subst (λ b. block_in (h ++ shown c d ∷ []) b ≡ shown c (slot_at more.blocks b)) (sym e) (ap (λ n. block_in (h ++ shown c d ∷ []) n) (sym sh.size) ∙ new_at h (shown c d) None ∙ sym (ap (shown c) slot_last)))
        (λ ne. old_at h (shown c d) None b (λ q. ne (q ∙ sh.size)) ∙ sh.at b ∙ sym (ap (shown c) (slot_old b ne))) (is_or_not b size);
    size = omega (arith, length_two h (shown c d ∷ []), length_two g.blocks (d ∷ []), sh.size);
  }

-- ---- the root of a struct

record RootOf (p : LlProgram) (n : ℕ) : Type 0 where
  counted_root : is_counted (plan_of p) (root_of (plan_of p) n) ≡ true
  own_root : root_of (plan_of p) (root_of (plan_of p) n) ≡ root_of (plan_of p) n
  begins_root : (k : ℕ) → begins_with (shapes_counted (plan_of p)) k n ≡ true → begins_with (shapes_counted (plan_of p)) k (root_of (plan_of p) n) ≡ true

module _ (p : LlProgram) (based : Based p.structs) where
  root_facts : (f n : ℕ) → n < f → is_counted (plan_of p) n ≡ true → RootOf p n
  root_facts zero n lt cn = absurd (omega (arith, lt))
  root_facts (suc f) n lt cn = by w.s.base refl (λ m l d. root_facts f m l d)
    where
      w : StructAt p.structs n
      w = marked_there p.structs p.graphs 0 p.structs n cn

      by : (o : Option ℕ) → w.s.base ≡ o → ((m : ℕ) → m < f → is_counted (plan_of p) m ≡ true → RootOf p m) → RootOf p n
      by None e go =
          let own : (root p.structs n == n) ≡ is_none w.s.base = is_own_root p.structs based n w.s w.is in
          let same : root_of (plan_of p) n ≡ n = is_same (root p.structs n) n (own ∙ ap is_none e) in
          record {
            counted_root = subst (λ r. is_counted (plan_of p) r ≡ true) (sym same) cn;
            own_root = ap (root_of (plan_of p)) same;
            begins_root = λ k h. subst (λ r. begins_with (shapes_counted (plan_of p)) k r ≡ true) (sym same) h;
          }
      by (Some m) e go =
          let less : m < n = based.before n m w.s w.is e in
          let back : HasBase p.structs based n m = record { s = w.s; is = w.is; base = e } in
          let t : StructAt p.structs m = earlier p.structs n m w.s w.is less in
          let cm : is_counted (plan_of p) m ≡ true = sym (counted_base p based n m back t.s t.is) ∙ cn in
          let d : RootOf p m = go m (omega (arith, less, lt)) cm in
          let same : root_of (plan_of p) n ≡ root_of (plan_of p) m = root_of_base p.structs based n m back in
          record {
            counted_root = subst (λ r. is_counted (plan_of p) r ≡ true) (sym same) d.counted_root;
            own_root = ap (root_of (plan_of p)) same ∙ d.own_root ∙ sym same;
            begins_root = λ k h. subst (λ r. begins_with (shapes_counted (plan_of p)) k r ≡ true) (sym same) (d.begins_root k (begins_on (structs_of (plan_of p)) (counted_based p based) k n m h (base_there p based n m w.s w.is e)));
          }

-- ---- what is written into a new block

module _ (p : LlProgram) (based : Based p.structs) (counting : Counting (counted p) (counts_of (plan_of p))) (args : List (List ℕ)) (qcore : Core) (f b : ℕ) (ex : LlExit) (frames : List Frame) (vars : List Value) (s : List Block) (a n new : ℕ)
    (is_new : read vars a ≡ Ptr new) (cn : is_counted (plan_of p) n ≡ true) (of_n : begins_with (shapes_counted (plan_of p)) n n ≡ true) (items : List Value) where
  abbrev plan : Plan
  plan = plan_of p

  abbrev q : LlProgram
  q = counted p

  abbrev with_fields : List Value → Option Block
  with_fields fields = Some (record { kind = n; fields = fields; items = items })

  store_one : (to number k : ℕ) (x : COperand) (v : Value) (at : ℕ) (rest : List LlOp) (h : List (Option Block)) (fields : List Value) → new < length h → operand vars x ≡ v → is_unset v ≡ false → begins_with (shapes_counted plan) n to ≡ true
      → place (shape_at (shapes_counted plan) to) number ≡ k
      → Leads q args (At (op.SetField to a number x ∷ rest) ex frames (here qcore f b at vars (slice_set h new (with_fields fields)) s)) (At rest ex frames (here qcore f b (at + 1) vars (slice_set h new (with_fields (slice_set fields k v))) s))
  store_one to number k x v at rest h fields lt is set of where_ =
      put_step q args qcore f b ex frames to a number at x rest vars (slice_set h new (with_fields fields)) s (Ptr new) v (record { kind = n; fields = fields; items = items })
      (At rest ex frames (here qcore f b (at + 1) vars (slice_set h new (with_fields (slice_set fields k v))) s)) is_new refl is set (set_here h new (with_fields fields) None lt) of
      (ap (λ j. goes_on (At rest ex frames) (stored (here qcore f b at vars (slice_set h new (with_fields fields)) s) (Ptr new) (record { kind = n; fields = slice_set fields j v; items = items }))) where_
      ∙ ap (λ l. Goes (At rest ex frames (here qcore f b (at + 1) vars l s))) (set_twice h new (with_fields fields) (with_fields (slice_set fields k v))))

  -- after some writes
  record Written (from : State) (rest : List LlOp) (h : List (Option Block)) (fields : List Value) : Type 0 where
    at : ℕ
    leads : Leads q args from (At rest ex frames (here qcore f b at vars (slice_set h new (with_fields fields)) s))

  nulls_run : (held : List Held) (at : ℕ) (rest : List LlOp) (h : List (Option Block)) (w0 w1 : Value) (fields : List Value) → new < length h → AllFields q (counts_of plan) n (map (reference_of plan) held)
      → Written (At (nulls a held rest) ex frames (here qcore f b at vars (slice_set h new (with_fields (w0 ∷ w1 ∷ fields))) s)) rest h (w0 ∷ w1 ∷ nulled (map (reference_of plan) held) fields)
  nulls_run [] at rest h w0 w1 fields lt all = record { at = at; leads = stays q args (At rest ex frames (here qcore f b at vars (slice_set h new (with_fields (w0 ∷ w1 ∷ fields))) s)) }
  nulls_run (t ∷ held) at rest h w0 w1 fields lt all =
      let k : ℕ = place_in plan t.owner t.number in
      let d : Written (At (nulls a held rest) ex frames (here qcore f b (at + 1) vars (slice_set h new (with_fields (w0 ∷ w1 ∷ slice_set fields k Null))) s)) rest h (w0 ∷ w1 ∷ nulled (map (reference_of plan) held) (slice_set fields k Null)) =
      nulls_run held (at + 1) rest h w0 w1 (slice_set fields k Null) lt all.1 in
      record { at = d.at; leads = leads_on q args (store_one t.owner t.number (suc (suc k)) made.null Null at (nulls a held rest) h (w0 ∷ w1 ∷ fields) lt refl refl all.0.of all.0.place) d.leads }

  header_run : (at : ℕ) (rest : List LlOp) (h : List (Option Block)) (w0 w1 : Value) (fields : List Value) → new < length h
      → Written (At (header plan a n rest) ex frames (here qcore f b at vars (slice_set h new (with_fields (w0 ∷ w1 ∷ fields))) s)) rest h (Word (pos 1) ∷ Fun ((counts_of plan).release n) ∷ nulled ((counts_of plan).held n) fields)
  header_run at rest h w0 w1 fields lt =
      let r : RootOf p n = root_facts p based (suc n) n (omega arith) cn in
      let to : ℕ = root_of plan n in
      let is_root : IsRoot (counts_of plan) to = (r.counted_root, r.own_root) in
      let of : begins_with (shapes_counted plan) n to ≡ true = r.begins_root n of_n in
      let d : Written (At (nulls a (held_of plan n) rest) ex frames (here qcore f b (at + 1 + 1) vars (slice_set h new (with_fields (Word (pos 1) ∷ Fun ((counts_of plan).release n) ∷ fields))) s)) rest h (Word (pos 1) ∷ Fun ((counts_of plan).release n) ∷ nulled ((counts_of plan).held n) fields) =
      nulls_run (held_of plan n) (at + 1 + 1) rest h (Word (pos 1)) (Fun ((counts_of plan).release n)) fields lt (counting.held n cn) in
      let start : State = At (header_by plan a n true rest) ex frames (here qcore f b at vars (slice_set h new (with_fields (w0 ∷ w1 ∷ fields))) s) in
      let l : Leads q args start (At rest ex frames (here qcore f b d.at vars (slice_set h new (with_fields (Word (pos 1) ∷ Fun ((counts_of plan).release n) ∷ nulled ((counts_of plan).held n) fields))) s)) =
      leads_on q args (store_one to 0 0 (made.word 1) (Word (pos 1)) at (op.SetField to a 1 (Const (const.Fun ((counts_of plan).release n))) ∷ nulls a (held_of plan n) rest) h (w0 ∷ w1 ∷ fields) lt refl refl of (counting.first to 0 is_root))
      (leads_on q args (store_one to 1 1 (Const (const.Fun ((counts_of plan).release n))) (Fun ((counts_of plan).release n)) (at + 1) (nulls a (held_of plan n) rest) h (Word (pos 1) ∷ w1 ∷ fields) lt refl refl of (counting.first to 1 is_root)) d.leads) in
      record {
        at = d.at;
        leads = subst (λ y. Leads q args (At (header_by plan a n y rest) ex frames (here qcore f b at vars (slice_set h new (with_fields (w0 ∷ w1 ∷ fields))) s)) (At rest ex frames (here qcore f b d.at vars (slice_set h new (with_fields (Word (pos 1) ∷ Fun ((counts_of plan).release n) ∷ nulled ((counts_of plan).held n) fields))) s))) (sym cn) l;
      }

-- ---- memory with one block more

set_last : {A : Type 0} (xs : List A) (x y : A) → slice_set (xs ++ x ∷ []) (length xs) y ≡ xs ++ y ∷ []
set_last [] x y = refl
set_last (z ∷ xs) x y = ap (λ l. z ∷ l) (set_last xs x y)

near_grown : (p : LlProgram) (blocks : List (Option Block)) (statics : List Block) (g : Ghost) (d : Slot) (block : Block) → NearMemory (plan_of p) blocks statics g → NearBlock block (bare d) → NearMemory (plan_of p) (blocks ++ Some block ∷ []) statics (grown g d)
near_grown p blocks statics g d block near here_ = record {
  size = omega (arith, length_two blocks (Some block ∷ []), length_two g.blocks (d ∷ []), near.size);
  each = λ a lt. ⊎_elim
      (λ e. (block, ap (block_in (blocks ++ Some block ∷ [])) e ∙ new_at blocks (Some block) None, subst (λ x. NearBlock block (bare x)) (sym (ap (slot_at (g.blocks ++ d ∷ [])) (e ∙ near.size) ∙ new_at g.blocks d no_slot)) here_))
      (λ ne. (let w : (block : Block) × (block_in blocks a ≡ Some block) × NearBlock block (bare_at g.blocks a) = near.each a (let z : length (blocks ++ Some block ∷ []) ≡ length blocks + 1 = length_two blocks (Some block ∷ []) in let c : (a < length blocks) ⊎ (length blocks ≤ a) = grind arith in ⊎_elim (λ l. l) (λ l. absurd (ne (omega (arith, l, lt, z)))) c) in
      (w.0, old_at blocks (Some block) None a ne ∙ w.1, subst (λ x. NearBlock w.0 (bare x)) (sym (old_at g.blocks d no_slot a (λ q. ne (q ∙ sym near.size)))) w.2)))
      (is_or_not a (length blocks));
  size_statics = near.size_statics;
  each_static = near.each_static;
}

points_grown : (p : LlProgram) (blocks : List (Option Block)) (statics : List Block) (block : Block) (m : ℕ) (v : Value) → PointsTo p blocks statics m v → PointsTo p (blocks ++ Some block ∷ []) statics m v
points_grown p blocks statics block m Unset h = absurd h
points_grown p blocks statics block m (Word z) h = absurd h
points_grown p blocks statics block m (Byte z) h = absurd h
points_grown p blocks statics block m (Flag z) h = absurd h
points_grown p blocks statics block m (Fun z) h = absurd h
points_grown p blocks statics block m Null h = tt
points_grown p blocks statics block m (Static s) h = h
points_grown p blocks statics block m (Ptr a) (other, is, of) = (other, old_at blocks (Some block) None a (λ q. absurd (let lt : a < length blocks = there_inside blocks a other is in omega (arith, lt, q))) ∙ is, of)

-- ---- items that are NULL

set_middle : (pre rest : List Value) (x y : Value) → slice_set (pre ++ x ∷ rest) (length pre) y ≡ pre ++ y ∷ rest
set_middle [] rest x y = refl
set_middle (z ∷ pre) rest x y = ap (λ l. z ∷ l) (set_middle pre rest x y)

filled_all : (n : ℕ) (pre : List Value) (i : ℕ) → i ≡ length pre → filled n i (pre ++ replicate n Unset) ≡ pre ++ replicate n Null
filled_all zero pre i e = refl
filled_all (suc n) pre i e =
    ap (filled n (suc i)) (ap (λ k. slice_set (pre ++ Unset ∷ replicate n Unset) k Null) e ∙ set_middle pre (replicate n Unset) Unset Null ∙ sym (both_again pre (Null ∷ []) (replicate n Unset)))
    ∙ filled_all n (pre ++ Null ∷ []) (suc i) (omega (arith, e, length_two pre (Null ∷ []))) ∙ both_again pre (Null ∷ []) (replicate n Null)

length_null : (n : ℕ) → length (replicate n Null) ≡ n
length_null zero = refl
length_null (suc n) = ap suc (length_null n)

null_near : (n k : ℕ) → Near (read (replicate n Unset) k) (read (replicate n Null) k)
null_near zero k = inl refl
null_near (suc n) zero = inr (refl, refl)
null_near (suc n) (suc k) = null_near n k

none_null : (n : ℕ) (r : Value) → occurs r (replicate n Null) ≡ 0
none_null zero r = refl
none_null (suc n) r = omega (arith, no_null r, none_null n r)

nulls_all : (q : LlProgram) (g : Ghost) (to n : ℕ) → AllLead q g to (replicate n Null)
nulls_all q g to zero = tt
nulls_all q g to (suc n) = (tt, nulls_all q g to n)

-- ---- a block is made

module _ (p : LlProgram) (based : Based p.structs) (counting : Counting (counted p) (counts_of (plan_of p))) (args : List (List ℕ)) (types : List LlType) (roots : AllRoots p types) (own : Value → ℕ) (ops rest : List LlOp) (e : LlExit) (ex : LlExit)
    (frames : List Frame) (b : ℕ) (core qcore : Core) (g : Ghost) (h : List (Option Block)) (at : ℕ) (fits : length core.vars ≡ length types) (stands : Stands p core qcore g h) where
  abbrev the_plan : Plan
  the_plan = plan_of p

  abbrev the_q : LlProgram
  the_q = counted p

  abbrev around : Around
  around = around_of the_plan types

  module _ (o : LlOp) (a n count : ℕ) (s : LlStruct) (is_s : slice_get p.structs n ≡ Some s) (cn : is_counted the_plan n ≡ true) (sets_it : set_by o ≡ Some a) (m : ℕ) (refers : var_referred around a ≡ Some m) (begins_m : begins_with (shapes_of p.structs) n m ≡ true)
      (unread : among a (reads o) ≡ false) (inside : a < length core.vars) where
    abbrev behind : List LlOp
    behind = dead around (touched o) ops e rest

    abbrev the_c : Counts
    the_c = counts_of the_plan

    abbrev plain_size : ℕ
    plain_size = (shape_at (shapes_of p.structs) n).size

    abbrev wide_size : ℕ
    wide_size = (shape_at (shapes_counted the_plan) n).size

    abbrev unset_items : List Value
    unset_items = replicate count Unset

    abbrev made_block : Block
    made_block = record { kind = n; fields = replicate plain_size Unset; items = unset_items }

    -- the fields behind the header
    abbrev plain_fields : List Value
    plain_fields = nulled (the_c.held n) (replicate plain_size Unset)

    abbrev core1 : Core
    core1 = record core { blocks = core.blocks ++ Some made_block ∷ [] }

    abbrev number : ℕ
    number = length core.blocks

    abbrev vars2 : List Value
    vars2 = slice_set core.vars a (Ptr number)

    abbrev first_block : Option Block
    first_block = Some (record { kind = n; fields = replicate wide_size Unset; items = unset_items })

    -- memory in which the new block has these fields and items
    abbrev memory_with : List Value → List Value → List (Option Block)
    memory_with fields items = slice_set (h ++ first_block ∷ []) number (shown the_c (S 1 n fields items))

    abbrev at_ops : ℕ → List LlOp → List (Option Block) → State
    at_ops j l blocks = At l ex frames (here qcore core.function b j vars2 blocks (memory g))

    wide : wide_size ≡ suc (suc plain_size)
    wide = size_fuel p based (suc n) n s (omega arith) is_s cn

    pub size_h : length h ≡ number
    size_h = stands.shown.size ∙ sym stands.near.size

    longer : number < length (h ++ first_block ∷ [])
    longer = omega (arith, length_two h (first_block ∷ []), size_h)

    of_n : begins_with (shapes_counted the_plan) n n ≡ true
    of_n = begins_itself (structs_of the_plan) (counted_based p based) n (struct_by (has_count the_plan n) s) (struct_there p based n s is_s)

    is_new : read vars2 a ≡ Ptr number
    is_new = set_here core.vars a (Ptr number) Unset inside

    highs : High plain_size (the_c.held n)
    highs = held_high p based p.structs n cn

    long_enough : plain_size ≤ length (replicate plain_size Unset)
    long_enough = omega (arith, length_unset plain_size)

    -- what stands behind the header, and what it makes of the new block
    pub record Rest (tail : List LlOp) (fields items : List Value) : Type 0 where
      pub run : (k : ℕ) → (j : ℕ) × Leads the_q args (at_ops k tail (memory_with plain_fields unset_items)) (at_ops j behind (memory_with fields items))
      pub near : NearBlock made_block (record { kind = n; fields = fields; items = items })
      pub nothing : (r : Value) → held_by the_c (S 1 n fields items) r ≡ 0
      pub whole : IsWhole the_q the_c (grown g (S 1 n fields items)) (record { kind = n; fields = fields; items = items })

    -- ---- items that are no references

    pub no_rest : reference_given the_plan.counted (items_of (slice_get p.structs n)) ≡ None → Rest behind plain_fields unset_items
    no_rest no_items = record {
      run = λ k. (k, stays the_q args (at_ops k behind (memory_with plain_fields unset_items)));
      near = record {
        kind = refl;
        fields = record {
          size = sym (nulled_size (the_c.held n) (replicate plain_size Unset));
          at = λ k. nulled_near (the_c.held n) plain_size (replicate plain_size Unset) (λ j. inl refl) k;
        };
        items = record { size = refl; at = λ k. inl refl };
      };
      nothing = λ r.
          occurs_both r (field_references (the_c.held n) plain_fields) (item_references (the_c.items n) unset_items)
          ∙ (let x : occurs r (field_references (the_c.held n) plain_fields) ≡ 0 = all_null (the_c.held n) (replicate plain_size Unset) plain_size highs long_enough r in
          let y : occurs r (item_references (the_c.items n) unset_items) ≡ 0 = ap (λ o. occurs r (item_references o unset_items)) no_items in omega (arith, x, y));
      whole = record {
        counted = cn;
        fields = nulls_lead the_q (grown g (S 1 n plain_fields unset_items)) (the_c.held n) (replicate plain_size Unset) plain_size highs long_enough;
        items = subst (λ o. ItemsLead the_q the_c (grown g (S 1 n plain_fields unset_items)) o (record { kind = n; fields = plain_fields; items = unset_items })) (sym no_items) tt;
      };
    }

    -- ---- items that are: their number is set, and they are NULL

    module _ (x : COperand) (t : ℕ) (are_items : items_referred the_plan n ≡ Some t) (first : slice_get s.fields 0 ≡ Some type.Signed) (x_is : operand vars2 x ≡ Word (pos count)) (short : count < 2 ^ 63) where
      abbrev number_at : ℕ
      number_at = the_c.number_at n

      abbrev array_fields : List Value
      array_fields = slice_set plain_fields number_at (Word (pos count))

      abbrev null_items : List Value
      null_items = replicate count Null

      abbrev clear : List LlOp
      clear = made.call ((counts_at the_plan n).items + 1) (Var a ∷ x ∷ []) ∷ behind

      abbrev slot_a : Slot
      slot_a = S 1 n array_fields null_items

      -- the number among the fields
      abbrev spot : Reference
      spot = record { owner = n; number = 0; at = number_at; to = 0 }

      spot_at : spot.at ≡ begin p based n s is_s cn + 0
      spot_at = own_at p based n s is_s cn 0

      low_spot : number_at < plain_size
      low_spot = inside_n p based n s is_s cn spot 0 type.Signed spot_at first

      apart : Apart spot (the_c.held n)
      apart = field_apart p based n s is_s cn spot 0 type.Signed spot_at first n cn of_n refl

      inside_spot : number_at < length plain_fields
      inside_spot = omega (arith, low_spot, nulled_size (the_c.held n) (replicate plain_size Unset), length_unset plain_size)

      are : AreItems the_q the_c n t
      are = counting.items n t cn are_items

      set_number : (k : ℕ) → Leads the_q args (at_ops k (op.SetField n a (the_c.number n) x ∷ clear) (memory_with plain_fields unset_items)) (at_ops (k + 1) clear (memory_with array_fields unset_items))
      set_number k =
          store_one p based counting args qcore core.function b ex frames vars2 (memory g) a n number is_new cn of_n unset_items n (the_c.number n) (suc (suc number_at)) x (Word (pos count)) k clear (h ++ first_block ∷ []) (Word (pos 1) ∷ Fun (the_c.release n) ∷ plain_fields) longer x_is refl of_n
          are.place

      set_null : (k : ℕ) → Leads the_q args (at_ops k clear (memory_with array_fields unset_items)) (at_ops (k + 1) behind (memory_with array_fields (filled count 0 unset_items)))
      set_null k =
          clear_run the_q args qcore core.function b ex frames ((counts_at the_plan n).items + 1) n (root_of the_plan n) number n count k (Word (pos 1) ∷ Fun (the_c.release n) ∷ array_fields) unset_items (Var a) x behind vars2 (h ++ first_block ∷ []) (memory g)
          (clear_stands p based n cn t are_items) of_n short (length_unset count) longer is_new x_is

      filled_is : filled count 0 unset_items ≡ null_items
      filled_is = filled_all count [] 0 refl

      fields_near : (k : ℕ) → Near (read (replicate plain_size Unset) k) (read array_fields k)
      fields_near k = ⊎_elim
          (λ e. subst (λ k. Near (read (replicate plain_size Unset) k) (read array_fields k)) e (inr (unset_at plain_size number_at, ap is_reference (set_here plain_fields number_at (Word (pos count)) Unset inside_spot))))
          (λ ne. subst (λ y. Near (read (replicate plain_size Unset) k) y) (sym (set_other plain_fields number_at k (Word (pos count)) Unset ne)) (nulled_near (the_c.held n) plain_size (replicate plain_size Unset) (λ j. inl refl) k)) (is_or_not number_at k)

      fields_lead : (gg : Ghost) (held : List Reference) → Apart spot held → FieldsLead the_q gg held plain_fields → FieldsLead the_q gg held array_fields
      fields_lead gg [] a f = tt
      fields_lead gg (r ∷ held) a f = (subst (LeadsTo the_q gg r.to) (sym (set_other plain_fields number_at r.at (Word (pos count)) Unset (λ e. a.0 (sym e)))) f.0, fields_lead gg held a.1 f.1)

      pub array_rest : Rest (op.SetField n a (the_c.number n) x ∷ clear) array_fields null_items
      array_rest = record {
        run = λ k. (k + 1 + 1, subst (λ l. Leads the_q args (at_ops k (op.SetField n a (the_c.number n) x ∷ clear) (memory_with plain_fields unset_items)) (at_ops (k + 1 + 1) behind (memory_with array_fields l))) filled_is (leads_on the_q args (set_number k) (set_null (k + 1))));
        near = record {
          kind = refl;
          fields = record { size = sym (set_length plain_fields number_at (Word (pos count)) ∙ nulled_size (the_c.held n) (replicate plain_size Unset)); at = fields_near };
          items = record { size = length_unset count ∙ sym (length_null count); at = null_near count };
        };
        nothing = λ r.
            occurs_both r (field_references (the_c.held n) array_fields) (item_references (the_c.items n) null_items)
            ∙ (let x : occurs r (field_references (the_c.held n) array_fields) ≡ 0 = ap (occurs r) (apart_same spot (the_c.held n) plain_fields (Word (pos count)) apart) ∙ all_null (the_c.held n) (replicate plain_size Unset) plain_size highs long_enough r in
            let y : occurs r (item_references (the_c.items n) null_items) ≡ 0 = ap (λ o. occurs r (item_references o null_items)) are_items ∙ none_null count r in omega (arith, x, y));
        whole = record {
          counted = cn;
          fields = fields_lead (grown g slot_a) (the_c.held n) apart (nulls_lead the_q (grown g slot_a) (the_c.held n) (replicate plain_size Unset) plain_size highs long_enough);
          items = subst (λ o. ItemsLead the_q the_c (grown g slot_a) o (record { kind = n; fields = array_fields; items = null_items })) (sym are_items)
              (nulls_all the_q (grown g slot_a) t count, set_here plain_fields number_at (Word (pos count)) Unset inside_spot ∙ ap (λ k. Word (pos k)) (sym (length_null count)), omega (arith, length_null count, short));
        };
      }

    -- ---- the whole operation

    module _ (tail : List LlOp) (fields items : List Value) (r : Rest tail fields items) where
      abbrev new_slot : Slot
      new_slot = S 1 n fields items

      abbrev pub made_state : State
      made_state = At (header the_plan a n tail) ex frames (here qcore core.function b (at + 1) vars2 (h ++ first_block ∷ []) (memory g))

      d : Written p based counting args qcore core.function b ex frames vars2 (memory g) a n number is_new cn of_n unset_items
          (At (header the_plan a n tail) ex frames (here qcore core.function b (at + 1) vars2 (slice_set (h ++ first_block ∷ []) number (Some (record { kind = n; fields = Unset ∷ Unset ∷ replicate plain_size Unset; items = unset_items }))) (memory g)))
          tail (h ++ first_block ∷ []) (Word (pos 1) ∷ Fun (the_c.release n) ∷ plain_fields)
      d = header_run p based counting args qcore core.function b ex frames vars2 (memory g) a n number is_new cn of_n unset_items (at + 1) tail (h ++ first_block ∷ []) Unset Unset (replicate plain_size Unset) longer

      -- the memory is what the writes begin with, and what they come to
      begins_as : slice_set (h ++ first_block ∷ []) number (Some (record { kind = n; fields = Unset ∷ Unset ∷ replicate plain_size Unset; items = unset_items })) ≡ h ++ first_block ∷ []
      begins_as =
          ap (λ k. slice_set (h ++ first_block ∷ []) k (Some (record { kind = n; fields = Unset ∷ Unset ∷ replicate plain_size Unset; items = unset_items }))) (sym size_h)
          ∙ set_last h first_block (Some (record { kind = n; fields = Unset ∷ Unset ∷ replicate plain_size Unset; items = unset_items }))
          ∙ ap (λ k. h ++ Some (record { kind = n; fields = replicate k Unset; items = unset_items }) ∷ []) (sym wide)

      ends_as : memory_with fields items ≡ h ++ shown the_c new_slot ∷ []
      ends_as = ap (λ k. slice_set (h ++ first_block ∷ []) k (shown the_c new_slot)) (sym size_h) ∙ set_last h first_block (shown the_c new_slot)

      abbrev end_at : ℕ
      end_at = (r.run d.at).0

      written_down : Leads the_q args made_state (at_ops end_at behind (h ++ shown the_c new_slot ∷ []))
      written_down =
          subst (λ l. Leads the_q args (At (header the_plan a n tail) ex frames (here qcore core.function b (at + 1) vars2 l (memory g))) (at_ops end_at behind (h ++ shown the_c new_slot ∷ []))) begins_as
          (subst (λ l. Leads the_q args (At (header the_plan a n tail) ex frames (here qcore core.function b (at + 1) vars2 (slice_set (h ++ first_block ∷ []) number (Some (record { kind = n; fields = Unset ∷ Unset ∷ replicate plain_size Unset; items = unset_items }))) (memory g)))
          (at_ops end_at behind l)) ends_as (leads_on the_q args d.leads (r.run d.at).1))

      pub made_followed : changed around o behind ≡ o ∷ header the_plan a n tail
          → step the_q args (At (o ∷ header the_plan a n tail) ex frames (here qcore core.function b at core.vars h (memory g))) ≡ Tells (Made number n (wide_size + count)) made_state
          → Pointing p types core.blocks core.statics (live (o ∷ ops) e) core.vars → IsCounted the_q the_c g (λ r. owned around (live (o ∷ ops) e) core.vars r + own r)
          → Follows p args types (live ops e) own (At (changed around o behind) ex frames (here qcore core.function b at core.vars h (memory g))) rest ex frames b (Told (Made number n (plain_size + count)) (record core1 { at = core.at + 1; vars = vars2 }))
      made_followed plain moves pointing counts =
          subst (λ l. Follows p args types (live ops e) own (At l ex frames (here qcore core.function b at core.vars h (memory g))) rest ex frames b (Told (Made number n (plain_size + count)) (record core1 { at = core.at + 1; vars = vars2 }))) (sym plain) (
            At (o ∷ header the_plan a n tail) ex frames (here qcore core.function b at core.vars h (memory g)),
            made_state,
            stays the_q args (At (o ∷ header the_plan a n tail) ex frames (here qcore core.function b at core.vars h (memory g))),
            moves ∙ ap (λ k. Tells (Made number n k) made_state) (let z : wide_size + count ≡ plain_size + count + 2 = omega (arith, wide) in z),
            comes_before p based counting args types roots own o ops rest e ex frames b (live ops e) made_state (at_ops end_at behind (h ++ shown the_c new_slot ∷ []))
                (record core1 { at = core.at + 1; vars = vars2 }) written_down
                (value_end p based counting args types roots own o ops rest e ex frames b a sets_it core1 qcore (grown g new_slot) (h ++ shown the_c new_slot ∷ []) end_at (Ptr number) inside fits (λ n r. unread)
                (record {
                  near = near_grown p core.blocks core.statics g new_slot made_block stands.near r.near;
                  shown = grown_shown the_q the_c g new_slot (λ r. owned around (live (o ∷ ops) e) core.vars r + own r) counts h stands.shown;
                  steps = stands.steps;
                  exc_type = stands.exc_type;
                  exc_value = stands.exc_value;
                })
                (record { at = λ v k u r. points_grown p core.blocks core.statics made_block k (read core.vars v) (pointing.at v k u r); refers = pointing.refers })
                (λ k r. (made_block, new_at core.blocks (Some made_block) None, (let f : Some m ≡ Some k = sym refers ∙ r in let j : m ≡ k = cc in subst (λ k. begins_with (shapes_of p.structs) n k ≡ true) j begins_m))) (λ j r. (m, refers))
                (own_same the_q args the_c (grown g new_slot) (λ r. hit r (Ptr (length g.blocks)) + (owned around (live (o ∷ ops) e) core.vars r + own r)) (λ r. hits_by (var_referred around a) (Ptr number) r + (owned around (live (o ∷ ops) e) core.vars r + own r))
                (λ r. ap (λ k. hit r (Ptr k) + (owned around (live (o ∷ ops) e) core.vars r + own r)) (sym stands.near.size) ∙ ap (λ k. hits_by k (Ptr number) r + (owned around (live (o ∷ ops) e) core.vars r + own r)) (sym refers))
                (grown_counted the_q the_c g new_slot (λ r. owned around (live (o ∷ ops) e) core.vars r + own r) counts refl r.nothing r.whole))),
          )
