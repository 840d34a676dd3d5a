-- The graphs that drop a reference and release a block keep the counts.
use Rattle.std.proofs.Common.{◌≡◌, ◌≢◌, ⊎_elim, ◌<◌, ◌≤◌, ◌^◌, ℕ, suc, ◌+◌, true, List, [], ◌∷◌, ◌++◌, length, Option, Some, None, refl, sym, ap, ◌∙◌, subst, arith}
use Rattle.std.specs.Prelude.{slice_set, pos}
use Rattle.csub_tree.specs.State.{Value, Unset, Word, Byte, Flag, Fun, Null, Ptr, Static, Block, Core}
use Rattle.csub_tree.specs.Layout.{begins_with}
use Rattle.csub_tree.specs.Statement.{read, operand}
use Rattle.csub_tree.specs.declared.tree.COperand.{COperand}
use Rattle.csub_tree.specs.declared.tree.COperand.TheVariants.{Var}
use Rattle.ll_code.specs.State.{Frame, State, At}
use Rattle.ll_code.specs.Machine.{shapes_of}
use Rattle.ll_code.specs.declared.program.LlOp.{LlOp}
use Rattle.ll_code.specs.declared.program.LlOp.TheVariants as op
use Rattle.ll_code.specs.declared.program.LlExit.{LlExit}
use Rattle.ll_code.specs.declared.program.LlExit.TheVariants as exit
use Rattle.ll_code.specs.declared.program.LlProgram.{LlProgram}
use Rattle.refcount_laws.specs.Graphs.{Reference, Counts, Counting, IsRoot, AllFields, drops, test, freed}
use Rattle.refcount_laws.specs.Ghost.{memory, one, hit, occurs, Slot, S, no_slot, count_of, bare, shown, slot_at, count, bare_at, field_references, references, held_by, inner, size_of, weight, Fixed, Alone, F, shown_fixed, as_first, fixed_at, Ghost, IsFixed, IsSmall, LeadsTo, AllLead, FieldsLead, IsWhole, IsCounted}
use Rattle.refcount_laws.specs.Runs.{Leads, here}
use Rattle.refcount_laws.specs.Touched.{block_in, Shows, Touched, Moved}
use Rattle.refcount_laws.proofs.Cells.{set_here, set_other, set_length}
use Rattle.refcount_laws.proofs.Ghosts.{one_self, one_other, inside, set_down, set_inner, set_weight}
use Rattle.refcount_laws.proofs.Steps.{stays, leads_on}
use Rattle.refcount_laws.proofs.Touching.{is_or_not, shows_after, touched_one}
use Rattle.refcount_laws.proofs.Leading.{static_there, static_inside, set_statics, fields_kept, all_whole}
use Rattle.refcount_laws.proofs.Variables.{AllSet, HasFrom}
use Rattle.refcount_laws.proofs.Moving.{own_same, moved_on, unmoved}
use Rattle.refcount_laws.proofs.Falling.{null_down, count_falls, some_remain, falls_to}
use Rattle.refcount_laws.proofs.Reading.{along}

-- the items from one place on
pub has_all : (items : List Value) → HasFrom items 0 items
has_all [] = tt
has_all (x ∷ items) = (refl, shift x items 0 items (has_all items))
  where
    shift : (x : Value) (vars : List Value) (v : ℕ) (xs : List Value) → HasFrom vars v xs → HasFrom (x ∷ vars) (suc v) xs
    shift x vars v [] h = tt
    shift x vars v (y ∷ xs) h = (h.0, shift x vars (suc v) xs h.1)

pub field_count : (held : List Reference) (fields : List Value) → length (field_references held fields) ≡ length held
field_count [] fields = refl
field_count (r ∷ held) fields = ap suc (field_count held fields)

pub length_both : {A : Type 0} (xs ys : List A) → length (xs ++ ys) ≡ length xs + length ys
length_both [] ys = omega arith
length_both (x ∷ xs) ys = omega (arith, length_both xs ys)

module _ (q : LlProgram) (args : List (List ℕ)) (c : Counts) (counting : Counting q c) where
  -- one reference is dropped
  abbrev pub Down : ℕ → Type 0
  Down n = (g : Ghost) (h : List (Option Block)) (own : Value → ℕ) (to : ℕ) (v : Value) (core : Core) (f b : ℕ) (ex : LlExit) (frames : List Frame) (x : COperand) (at : ℕ) (ops : List LlOp) (vars : List Value)
      → weight c g.blocks ≤ n → Shows c h g.blocks → IsRoot c to → LeadsTo q g to v → IsCounted q c g (λ r. hit r v + own r) → operand vars x ≡ v
      → Moved q args c g h own (At (op.Call None (c.down to) (x ∷ []) ∷ ops) ex frames (here core f b at vars h (memory g))) (λ h' s'. At ops ex frames (here core f b (at + 1) vars h' s'))

  -- the fields of a block are dropped
  abbrev pub Drops : ℕ → Type 0
  Drops n = (kind : ℕ) (held : List Reference) (fields : List Value) (v : ℕ) (g : Ghost) (h : List (Option Block)) (own : Value → ℕ) (core : Core) (f b : ℕ) (frames : List Frame) (at : ℕ) (vars : List Value)
      → weight c g.blocks + length held ≤ n → Shows c h g.blocks → AllFields q c kind held → FieldsLead q g held fields → HasFrom vars v (field_references held fields)
      → IsCounted q c g (λ r. occurs r (field_references held fields) + own r)
      → Moved q args c g h own (At (drops c held v) (exit.Return None) frames (here core f b at vars h (memory g))) (λ h' s'. At [] (exit.Return None) frames (here core f b (along at held) vars h' s'))

  -- after the loop over the items
  pub record Looped (g : Ghost) (h : List (Option Block)) (own : Value → ℕ) (kind : ℕ) (core : Core) (frames : List Frame) (vars : List Value) : Type 0 where
    pub now : List Value
    pub same : (i : ℕ) → i < suc (length (c.held kind)) → read now i ≡ read vars i
    pub moved : Moved q args c g h own (At (test (length (c.held kind))).ops (test (length (c.held kind))).exit frames (here core (c.release kind) 1 0 vars h (memory g)))
        (λ h' s'. At (freed c kind).ops (freed c kind).exit frames (here core (c.release kind) 3 0 now h' s'))

  -- the items of a block are dropped that no reference leads to any more
  abbrev pub Loops : ℕ → Type 0
  Loops n = (kind m z : ℕ) (w0 w1 : Value) (fields items vs : List Value) (i : ℕ) (g : Ghost) (h : List (Option Block)) (own : Value → ℕ) (core : Core) (frames : List Frame) (vars : List Value)
      → weight c g.blocks + length vs ≤ n → Shows c h g.blocks → c.counted kind ≡ true → c.items kind ≡ Some m → block_in h z ≡ Some (record { kind = kind; fields = w0 ∷ w1 ∷ fields; items = items }) → count g.blocks z ≡ 0
      → AllLead q g m vs → HasFrom items i vs → i + length vs ≡ length items → length items < 2 ^ 63 → suc (suc (suc (suc (length (c.held kind))))) < length vars → AllSet vars (suc (suc (suc (length (c.held kind)))))
      → read vars 0 ≡ Ptr z → read vars (suc (length (c.held kind))) ≡ Word (pos (length items)) → read vars (suc (suc (length (c.held kind)))) ≡ Word (pos i)
      → IsCounted q c g (λ r. occurs r vs + own r) → Looped g h own kind core frames vars

  no_drops : (kind : ℕ) (fields : List Value) (v : ℕ) (g : Ghost) (h : List (Option Block)) (own : Value → ℕ) (core : Core) (f b : ℕ) (frames : List Frame) (at : ℕ) (vars : List Value) → Shows c h g.blocks → IsCounted q c g (λ r. 0 + own r)
      → Moved q args c g h own (At [] (exit.Return None) frames (here core f b at vars h (memory g))) (λ h' s'. At [] (exit.Return None) frames (here core f b at vars h' s'))
  no_drops kind fields v g h own core f b frames at vars sh counted =
      unmoved q args c g h own (At [] (exit.Return None) frames (here core f b at vars h (memory g))) (λ h' s'. At [] (exit.Return None) frames (here core f b at vars h' s')) sh
      (own_same q args c g (λ r. 0 + own r) own (λ r. omega arith) counted) (stays q args (At [] (exit.Return None) frames (here core f b at vars h (memory g))))

  pub first_drops : Drops 0
  first_drops kind [] fields v g h own core f b frames at vars le sh all lead has counted = no_drops kind fields v g h own core f b frames at vars sh counted
  first_drops kind (r ∷ held) fields v g h own core f b frames at vars le sh all lead has counted = absurd (omega (arith, le))

  pub more_drops : (n : ℕ) → Down n → Drops n → Drops (suc n)
  more_drops n down ih kind [] fields v g h own core f b frames at vars le sh all lead has counted = no_drops kind fields v g h own core f b frames at vars sh counted
  more_drops n down ih kind (t ∷ held) fields v g h own core f b frames at vars le sh all lead has counted =
      let x : Value = read fields t.at in
      let rest : Value → ℕ = λ r. occurs r (field_references held fields) + own r in
      let mid : List (Option Block) → List Block → State = λ h' s'. At (drops c held (suc v)) (exit.Return None) frames (here core f b (at + 1) vars h' s') in
      let a : Moved q args c g h rest (At (drops c (t ∷ held) v) (exit.Return None) frames (here core f b at vars h (memory g))) mid =
      down g h rest t.to x core f b (exit.Return None) frames (Var v) at (drops c held (suc v)) vars (omega (arith, le)) sh all.0.to lead.0
      (own_same q args c g (λ r. occurs r (field_references (t ∷ held) fields) + own r) (λ r. hit r x + rest r) (λ r. omega arith) counted) has.0 in
      moved_on q args c g h rest own (At (drops c (t ∷ held) v) (exit.Return None) frames (here core f b at vars h (memory g))) mid (λ h' s'. At [] (exit.Return None) frames (here core f b (along (at + 1) held) vars h' s')) a
      (ih kind held fields (suc v) a.later a.blocks own core f b frames (at + 1) vars (omega (arith, le, a.weighs)) (shows_after c g.blocks a.later.blocks h a.blocks a.touched) all.1
      (fields_kept q c g a.later a.same a.same_statics held fields lead.1) has.1 a.counted)

  -- ---- one reference of several

  pub down_null : (n : ℕ) (g : Ghost) (h : List (Option Block)) (own : Value → ℕ) (to : ℕ) (core : Core) (f b : ℕ) (ex : LlExit) (frames : List Frame) (x : COperand) (at : ℕ) (ops : List LlOp) (vars : List Value) → Shows c h g.blocks → IsRoot c to
      → IsCounted q c g (λ r. hit r Null + own r) → operand vars x ≡ Null
      → Moved q args c g h own (At (op.Call None (c.down to) (x ∷ []) ∷ ops) ex frames (here core f b at vars h (memory g))) (λ h' s'. At ops ex frames (here core f b (at + 1) vars h' s'))
  down_null n g h own to core f b ex frames x at ops vars sh root counted e =
      unmoved q args c g h own (At (op.Call None (c.down to) (x ∷ []) ∷ ops) ex frames (here core f b at vars h (memory g))) (λ h' s'. At ops ex frames (here core f b (at + 1) vars h' s')) sh
      (own_same q args c g (λ r. hit r Null + own r) own (no_hit own) counted) (null_down q args c counting core f b ex frames to root x at ops vars h (memory g) e)
    where
      no_hit : (own : Value → ℕ) (r : Value) → hit r Null + own r ≡ own r
      no_hit own Unset = omega arith
      no_hit own (Word z) = omega arith
      no_hit own (Byte b) = omega arith
      no_hit own (Flag b) = omega arith
      no_hit own (Fun f) = omega arith
      no_hit own Null = omega arith
      no_hit own (Ptr b) = omega arith
      no_hit own (Static s) = omega arith

  -- of a static, which keeps its own
  module _ (g : Ghost) (h : List (Option Block)) (own : Value → ℕ) (to s m kind : ℕ) (fields items : List Value) (is : fixed_at g.statics s ≡ F (suc (suc m)) kind fields items) (of : begins_with (shapes_of q.structs) kind to ≡ true)
      (sh : Shows c h g.blocks) (root : IsRoot c to) (counted : IsCounted q c g (λ r. hit r (Static s) + own r)) where
    abbrev lower : Fixed
    lower = F (suc m) kind fields items

    abbrev fallen : Ghost
    fallen = record g { statics = slice_set g.statics s lower }

    now : fixed_at fallen.statics s ≡ lower
    now = set_here g.statics s lower (Alone (record { kind = 0; fields = []; items = [] })) (static_inside g.statics s (suc (suc m)) kind fields items is)

    others : (t : ℕ) → s ≢ t → fixed_at fallen.statics t ≡ fixed_at g.statics t
    others t ne = set_other g.statics s t lower (Alone (record { kind = 0; fields = []; items = [] })) ne

    firsts : (t : ℕ) → as_first (fixed_at fallen.statics t) ≡ as_first (fixed_at g.statics t)
    firsts t = ⊎_elim (λ e. subst (λ t. as_first (fixed_at fallen.statics t) ≡ as_first (fixed_at g.statics t)) e (ap as_first now ∙ sym (ap as_first is))) (λ ne. ap as_first (others t ne)) (is_or_not s t)

    small_is : suc (suc m) < 2 ^ 63
    small_is = subst IsSmall is (counted.small_static s)

    static_counted : IsCounted q c fallen own
    static_counted = record {
      blocks = λ b. omega (arith, counted.blocks b);
      statics = λ t. ⊎_elim
          (λ e. subst (λ t. IsFixed c (fixed_at fallen.statics t) (inner c g.blocks (Static t) + own (Static t))) e
          (subst (λ d. IsFixed c d (inner c g.blocks (Static s) + own (Static s))) (sym now)
          (let k : suc (suc m) ≡ suc (inner c g.blocks (Static s) + (one s s + own (Static s))) = subst (λ d. IsFixed c d (inner c g.blocks (Static s) + (one s s + own (Static s)))) is (counted.statics s) in
          let l : suc m ≡ suc (inner c g.blocks (Static s) + own (Static s)) = omega (arith, k, one_self s) in l)))
          (λ ne. subst (λ d. IsFixed c d (inner c g.blocks (Static t) + own (Static t))) (sym (others t ne))
          (subst (IsFixed c (fixed_at g.statics t)) (let k : inner c g.blocks (Static t) + (one s t + own (Static t)) ≡ inner c g.blocks (Static t) + own (Static t) = omega (arith, one_other s t ne) in k) (counted.statics t)))
          (is_or_not s t);
      small = counted.small;
      small_static = λ t. ⊎_elim
          (λ e. subst (λ t. IsSmall (fixed_at fallen.statics t)) e (subst IsSmall (sym now) (let k : suc m < 2 ^ 63 = omega (arith, small_is) in k)))
          (λ ne. subst IsSmall (sym (others t ne)) (counted.small_static t))
          (is_or_not s t);
      whole = all_whole q c g fallen (λ b. refl) firsts counted.whole (λ b. omega arith);
    }

    pub down_static : (core : Core) (f b : ℕ) (ex : LlExit) (frames : List Frame) (x : COperand) (at : ℕ) (ops : List LlOp) (vars : List Value) → operand vars x ≡ Static s
        → Moved q args c g h own (At (op.Call None (c.down to) (x ∷ []) ∷ ops) ex frames (here core f b at vars h (memory g))) (λ h' s'. At ops ex frames (here core f b (at + 1) vars h' s'))
    down_static core f b ex frames x at ops vars e =
        let low : List Block = slice_set (memory g) s (shown_fixed lower) in
        let target : List Block → State = λ s'. At ops ex frames (here core f b (at + 1) vars h s') in
        let l : Leads q args (At (op.Call None (c.down to) (x ∷ []) ∷ ops) ex frames (here core f b at vars h (memory g))) (target low) =
        leads_on q args {t = falls_to q args c counting core f b ex frames to root x at ops vars (Static s) (suc m) h low}
        (count_falls q args c counting core f b ex frames to root x at ops vars h h (memory g) low (Static s) (suc m) kind Null fields items e refl refl of small_is
        (λ b at vars. static_there g.statics s (suc (suc m)) kind fields items is) (λ b at vars. refl))
        (some_remain q args c counting core f b ex frames to root x at ops vars h low (Static s) m) in
        record {
          later = fallen;
          blocks = h;
          same = λ b. refl;
          same_statics = firsts;
          size = refl;
          size_statics = set_length g.statics s lower;
          weighs = omega arith;
          inners = λ r. omega arith;
          counted = static_counted;
          touched = record { dead = λ a z. refl; live = λ a lt. sh.at a lt; size = refl; less = λ a. omega arith };
          leads = subst (λ s'. Leads q args (At (op.Call None (c.down to) (x ∷ []) ∷ ops) ex frames (here core f b at vars h (memory g))) (target s')) (set_statics g.statics s lower) l;
        }

  -- a block that is there loses one
  module _ (g : Ghost) (h : List (Option Block)) (own : Value → ℕ) (a m kind : ℕ) (fields items : List Value) (is : slot_at g.blocks a ≡ S (suc m) kind fields items) (sh : Shows c h g.blocks) (counted : IsCounted q c g (λ r. hit r (Ptr a) + own r)) where
    abbrev pub bare_block : Block
    bare_block = record { kind = kind; fields = fields; items = items }

    abbrev pub less_slot : Slot
    less_slot = S m kind fields items

    abbrev pub fewer : Ghost
    fewer = record g { blocks = slice_set g.blocks a less_slot }

    pub alive : 0 < count g.blocks a
    alive = omega (arith, ap count_of is)

    pub slot_now : slot_at fewer.blocks a ≡ less_slot
    slot_now = set_here g.blocks a less_slot no_slot (inside g.blocks a alive)

    pub bare_same : (b : ℕ) → bare_at fewer.blocks b ≡ bare_at g.blocks b
    bare_same b = ⊎_elim (λ e. subst (λ b. bare_at fewer.blocks b ≡ bare_at g.blocks b) e (ap bare slot_now ∙ sym (ap bare is))) (λ ne. ap bare (set_other g.blocks a b less_slot no_slot ne)) (is_or_not a b)

    pub count_less : (b : ℕ) → count g.blocks b ≡ count fewer.blocks b + one a b
    count_less b = set_down g.blocks a less_slot (ap count_of is) b

    pub cell : block_in h a ≡ Some (record { kind = kind; fields = Word (pos (suc m)) ∷ Fun (c.release kind) ∷ fields; items = items })
    cell = sh.at a alive ∙ ap (shown c) is

    pub inner_less : (r : Value) → inner c fewer.blocks r + occurs r (references c bare_block) ≡ inner c g.blocks r + held_by c less_slot r
    inner_less r = omega (arith, set_inner c g.blocks a less_slot alive r, ap (λ d. held_by c d r) is)

    pub weight_less : weight c fewer.blocks + length (references c bare_block) ≡ weight c g.blocks + size_of c less_slot
    weight_less = omega (arith, set_weight c g.blocks a less_slot alive, ap (size_of c) is)

    pub whole_block : IsWhole q c g bare_block
    whole_block = subst (IsWhole q c g) (ap bare is) (counted.whole a alive)

    -- what the block held is owned, where it is gone
    pub fewer_counted : (more : Value → ℕ) → ((r : Value) → inner c g.blocks r + own r ≡ inner c fewer.blocks r + (more r + own r)) → IsCounted q c fewer (λ r. more r + own r)
    fewer_counted more e = record {
      blocks = λ b. omega (arith, counted.blocks b, count_less b, e (Ptr b));
      statics = λ s. subst (IsFixed c (fixed_at g.statics s)) (let k : inner c g.blocks (Static s) + (0 + own (Static s)) ≡ inner c fewer.blocks (Static s) + (more (Static s) + own (Static s)) = omega (arith, e (Static s)) in k) (counted.statics s);
      small = λ b. omega (arith, counted.small b, count_less b);
      small_static = counted.small_static;
      whole = all_whole q c g fewer bare_same (λ s. refl) counted.whole (λ b. omega (arith, count_less b));
    }

    pub first_touch : Touched c g.blocks fewer.blocks h (slice_set h a (shown c less_slot))
    first_touch = touched_one c g.blocks h a less_slot (record { kind = kind; fields = Word (pos (suc m)) ∷ Fun (c.release kind) ∷ fields; items = items }) sh cell alive (omega (arith, ap count_of is))

    -- up to where the count is tested
    pub falls : (core : Core) (f b : ℕ) (ex : LlExit) (frames : List Frame) (to : ℕ) (root : IsRoot c to) (x : COperand) (at : ℕ) (ops : List LlOp) (vars : List Value) → begins_with (shapes_of q.structs) kind to ≡ true → operand vars x ≡ Ptr a
        → Leads q args (At (op.Call None (c.down to) (x ∷ []) ∷ ops) ex frames (here core f b at vars h (memory g)))
        (falls_to q args c counting core f b ex frames to root x at ops vars (Ptr a) m (slice_set h a (Some (record { kind = kind; fields = Word (pos m) ∷ Fun (c.release kind) ∷ fields; items = items }))) (memory g))
    falls core f b ex frames to root x at ops vars of e =
        count_falls q args c counting core f b ex frames to root x at ops vars h (slice_set h a (Some (record { kind = kind; fields = Word (pos m) ∷ Fun (c.release kind) ∷ fields; items = items }))) (memory g) (memory g) (Ptr a) m kind
        (Fun (c.release kind)) fields items e refl refl of (subst (λ n. n < 2 ^ 63) (ap count_of is) (counted.small a)) (λ b at vars. cell) (λ b at vars. refl)

  pub down_shared : (g : Ghost) (h : List (Option Block)) (own : Value → ℕ) (a m kind : ℕ) (fields items : List Value) (is : slot_at g.blocks a ≡ S (suc (suc m)) kind fields items) (sh : Shows c h g.blocks) (counted : IsCounted q c g (λ r. hit r (Ptr a) + own r))
      (to : ℕ) (root : IsRoot c to) (core : Core) (f b : ℕ) (ex : LlExit) (frames : List Frame) (x : COperand) (at : ℕ) (ops : List LlOp) (vars : List Value) → begins_with (shapes_of q.structs) kind to ≡ true → operand vars x ≡ Ptr a
      → Moved q args c g h own (At (op.Call None (c.down to) (x ∷ []) ∷ ops) ex frames (here core f b at vars h (memory g))) (λ h' s'. At ops ex frames (here core f b (at + 1) vars h' s'))
  down_shared g h own a m kind fields items is sh counted to root core f b ex frames x at ops vars of e =
      let d : Slot = S (suc m) kind fields items in
      let g1 : Ghost = record g { blocks = slice_set g.blocks a d } in
      let h1 : List (Option Block) = slice_set h a (shown c d) in
      record {
        later = g1;
        blocks = h1;
        same = bare_same g h own a (suc m) kind fields items is sh counted;
        same_statics = λ s. refl;
        size = set_length g.blocks a d;
        size_statics = refl;
        weighs = omega (arith, weight_less g h own a (suc m) kind fields items is sh counted);
        inners = λ r. omega (arith, inner_less g h own a (suc m) kind fields items is sh counted r);
        counted = own_same q args c g1 (λ r. 0 + own r) own (λ r. omega arith) (fewer_counted g h own a (suc m) kind fields items is sh counted (λ r. 0) (λ r. omega (arith, inner_less g h own a (suc m) kind fields items is sh counted r)));
        touched = first_touch g h own a (suc m) kind fields items is sh counted;
        leads = leads_on q args {t = falls_to q args c counting core f b ex frames to root x at ops vars (Ptr a) (suc m) h1 (memory g)} (falls g h own a (suc m) kind fields items is sh counted core f b ex frames to root x at ops vars of e)
            (some_remain q args c counting core f b ex frames to root x at ops vars h1 (memory g) (Ptr a) m);
      }
