-- In each state of a run of a program that passes the test of classes, each exception that is there names its class, but for one that was
-- just made.
use Rattle.std.proofs.Common.{◌≡◌, ◌≢◌, ◌<◌, ℕ, zero, suc, ◌+◌, ◌-◌, Bool, true, false, ◌||◌, ◌==◌, List, [], ◌∷◌, ◌++◌, length, replicate, Option, Some, None, Result, Ok, Err, refl, sym, ap, ◌∙◌, subst, ℤ, pos, negsuc, arith, ◌⊎◌, inl, inr}
use Rattle.std.specs.Prelude.{slice_get, slice_set, slice_index_or, cond, not, nat_lt, nat_le}
use Rattle.std.proofs.lemmas.Option.{slice_get_within}
use Rattle.csub_tree.specs.State.{Value, Unset, Word, Ptr, Static, Block, Core, After, Onward, Puts as PutsByte, Told, Over, Stuck}
use Rattle.csub_tree.specs.Layout.{shape_at, place, begins_with}
use Rattle.csub_tree.specs.Operation.{Answer, is_unset}
use Rattle.csub_tree.specs.Statement as st
use Rattle.csub_tree.specs.Statement.{read, operand, block_at, as_struct, reached, on_block, stored}
use Rattle.csub_tree.specs.declared.stuck.StuckReason.{StuckReason}
use Rattle.csub_tree.specs.declared.stuck.StuckReason.TheVariants.{Unset as IsUnset, Outside, Kind}
use Rattle.csub_tree.specs.declared.tree.CConst.TheVariants as constant
use Rattle.csub_tree.specs.declared.tree.COperand.{COperand}
use Rattle.csub_tree.specs.declared.tree.COperand.TheVariants.{Var, Const}
use Rattle.ll_code.specs.Machine.{shapes_of}
use Rattle.ll_code.specs.Typed.{has_type, field_of, structs_ok}
use Rattle.ll_code.specs.declared.program.LlType.{LlType}
use Rattle.ll_code.specs.declared.program.LlType.TheVariants as type
use Rattle.ll_code.specs.declared.program.LlOp.{LlOp}
use Rattle.ll_code.specs.declared.program.LlOp.TheVariants as op
use Rattle.ll_code.specs.declared.program.LlProgram.{LlProgram}
use Rattle.ll_laws.specs.Fields.{fields_of, fields_from}
use Rattle.ll_laws.specs.Fits.{BlockFits, CoreFits}
use Rattle.ll_laws.proofs.Cells.{Laid, all_laid, new_at, old_at, is_new}
use Rattle.ll_laws.proofs.Values.{and_left, and_right, is_same}
use Rattle.exc_laws.specs.Ready.{is_pointer}
use Rattle.exc_laws.proofs.Tests.{and_both, equals}
use Rattle.exc_laws.proofs.Slots.{set_here, set_elsewhere}
use Rattle.exc_ready.specs.Raisable.{root_of}
use Rattle.exc_ready.specs.Classes.{class_place, is_exception_struct, is_class_field, is_static, names_class}

-- ---- lists

index_within : (xs : List (Option Block)) (b : ℕ) (block : Block) → slice_index_or xs b None ≡ Some block → b < length xs
index_within [] b block e = absurd (cc)
index_within (x ∷ xs) zero block e = omega arith
index_within (x ∷ xs) (suc b) block e = let lt : b < length xs = index_within xs b block e in omega (arith, lt)

get_here : {A : Type 0} (xs : List A) (a : ℕ) (x y : A) → slice_get (slice_set xs a x) a ≡ Some y → x ≡ y
get_here [] a x y e = absurd (cc)
get_here (z ∷ xs) zero x y e = cc
get_here (z ∷ xs) (suc a) x y e = get_here xs a x y e

get_elsewhere : {A : Type 0} (xs : List A) (a b : ℕ) (x : A) → (a ≡ b → ⊥) → slice_get (slice_set xs a x) b ≡ slice_get xs b
get_elsewhere [] a b x h = refl
get_elsewhere (z ∷ xs) zero zero x h = absurd (h refl)
get_elsewhere (z ∷ xs) zero (suc b) x h = refl
get_elsewhere (z ∷ xs) (suc a) zero x h = refl
get_elsewhere (z ∷ xs) (suc a) (suc b) x h = get_elsewhere xs a b x (λ e. h (ap suc e))

read_here : (values : List Value) (a : ℕ) (x : Value) → a < length values → read (slice_set values a x) a ≡ x
read_here values a x lt = set_here values a x Unset lt

static_points : (vars : List Value) (x : COperand) → is_static x ≡ true → is_pointer (operand vars x) ≡ true
static_points vars (Const (constant.Static s g)) h = refl
static_points vars (Const other) h = absurd (cc)
static_points vars (Var v) h = absurd (cc)

pub implied : (a b : Bool) → (not a || b) ≡ true → a ≡ true → b ≡ true
implied true b h e = h
implied false b h e = absurd (cc)

module _ (p : LlProgram) (kind : ℕ) where
  -- ---- memory

  abbrev pub Named : Block → Type 0
  Named block = is_exception_struct p block.kind ≡ true → is_pointer (read block.fields (class_place p)) ≡ true

  abbrev pub StaticsNamed : List Block → Type 0
  StaticsNamed statics = (g : ℕ) (block : Block) → slice_get statics g ≡ Some block → Named block

  abbrev pub AllNamed : Core → Type 0
  AllNamed core = ((b : ℕ) (block : Block) → slice_index_or core.blocks b None ≡ Some block → Named block) × StaticsNamed core.statics

  -- the next operation names the class of this block
  abbrev Pending : List LlOp → Core → ℕ → Type 0
  Pending ops core b = (a : ℕ) × (names_class (root_of p) a ops ≡ true) × (read core.vars a ≡ Ptr b)

  abbrev pub AlmostNamed : List LlOp → Core → Type 0
  AlmostNamed ops core = ((b : ℕ) (block : Block) → slice_index_or core.blocks b None ≡ Some block → Named block ⊎ Pending ops core b) × StaticsNamed core.statics

  pub almost : (ops : List LlOp) (core : Core) → AllNamed core → AlmostNamed ops core
  almost ops core h = (λ b block e. inl (h.0 b block e), h.1)

  pub certain : (ops : List LlOp) (core : Core) → ((a : ℕ) → names_class (root_of p) a ops ≡ true → ⊥) → AlmostNamed ops core → AllNamed core
  certain ops core never h = (λ b block e. by b block (h.0 b block e), h.1)
    where
      by : (b : ℕ) (block : Block) → Named block ⊎ Pending ops core b → Named block
      by b block (inl n) = n
      by b block (inr (a, names, r)) = absurd (never a names)

  abbrev pub AfterNamed : List LlOp → After → Type 0
  AfterNamed ops (Onward core) = AlmostNamed ops core
  AfterNamed ops (PutsByte byte core) = AlmostNamed ops core
  AfterNamed ops (Told event core) = AlmostNamed ops core
  AfterNamed ops (Over outcome core) = Unit {0}
  AfterNamed ops (Stuck reason) = Unit {0}

  module _ (ops : List LlOp) where
    pub choice : (b : Bool) (x y : After) → AfterNamed ops x → AfterNamed ops y → AfterNamed ops (cond b x y)
    choice true x y h k = h
    choice false x y h k = k

    pub on_option : {X : Type 0} (go : X → After) → ((x : X) → AfterNamed ops (go x)) → (x : Option X) → AfterNamed ops (st.on go x)
    on_option go h None = tt
    on_option go h (Some x) = h x

    pub found_named : (go : Block → After) → ((block : Block) → AfterNamed ops (go block)) → (r : Result Block StuckReason) → AfterNamed ops (on_block go r)
    found_named go h (Ok block) = h block
    found_named go h (Err reason) = tt

    -- the block that is reached is there, and begins so
    pub reached_named : (core : Core) (n : ℕ) (pointer : Value) (go : Block → After) → ((block : Block) → block_at core pointer ≡ Some block → begins_with (shapes_of p.structs) block.kind n ≡ true → AfterNamed ops (go block))
        → AfterNamed ops (on_block go (reached core (shapes_of p.structs) n pointer))
    reached_named core n pointer go h = unset (is_unset pointer)
      where
        begun : (block : Block) (b : Bool) → block_at core pointer ≡ Some block → begins_with (shapes_of p.structs) block.kind n ≡ b → AfterNamed ops (on_block go (cond b (Ok block) (Err Kind)))
        begun block true e f = h block e f
        begun block false e f = tt

        there : (o : Option Block) → block_at core pointer ≡ o → AfterNamed ops (on_block go (as_struct (shapes_of p.structs) n o))
        there None e = tt
        there (Some block) e = begun block (begins_with (shapes_of p.structs) block.kind n) e refl

        unset : (b : Bool) → AfterNamed ops (on_block go (cond b (Err IsUnset) (as_struct (shapes_of p.structs) n (block_at core pointer))))
        unset true = tt
        unset false = there (block_at core pointer) refl

    -- ---- where memory stays

    module _ (core : Core) (named : AllNamed core) where
      pub set_named : (a : ℕ) (w : Value) → AfterNamed ops (st.set core a w)
      set_named a w = choice (is_unset w) (Stuck IsUnset) (st.assigned core a w) tt (almost ops (record core { at = core.at + 1; vars = slice_set core.vars a w }) named)

      pub answered_named : (a : ℕ) (answer : Answer) → AfterNamed ops (st.answered core a answer)
      answered_named a (Ok w) = almost ops (record core { at = core.at + 1; vars = slice_set core.vars a w }) named
      answered_named a (Err reason) = tt

      pub item_named : (a : ℕ) (items : List Value) (i : ℤ) → AfterNamed ops (st.item core a items i)
      item_named a items (pos i) = choice (nat_lt i (length items)) (st.set core a (read items i)) (Stuck Outside) (set_named a (read items i)) tt
      item_named a items (negsuc i) = tt

      pub pay_named : (i : ℤ) → AfterNamed ops (st.pay_steps core i)
      pay_named (pos cost) = choice (nat_le cost core.steps) (Onward (record core { at = core.at + 1; steps = core.steps - cost })) (Over _ core) (almost ops (record core { at = core.at + 1; steps = core.steps - cost }) named) tt
      pay_named (negsuc cost) = tt

      pub in_range_named : (a : ℕ) (x : Option ℕ) → AfterNamed ops (st.in_range core a x)
      in_range_named a None = tt
      in_range_named a (Some n) = almost ops (record core { at = core.at + 1; vars = slice_set core.vars a (Word (pos n)) }) named

      pub put_named : (i : ℤ) → AfterNamed ops (st.put_word core i)
      put_named (pos byte) = choice (nat_lt byte 256) (PutsByte byte (record core { at = core.at + 1 })) _ (almost ops (record core { at = core.at + 1 }) named) tt
      put_named (negsuc n) = tt

      -- a block with the same fields in the place of one
      stored_same : (pointer : Value) (old block : Block) → block_at core pointer ≡ Some old → block.kind ≡ old.kind → block.fields ≡ old.fields → AfterNamed ops (stored core pointer block)
      stored_same (Ptr number) old block e same fields = almost ops (record core { at = core.at + 1; blocks = slice_set core.blocks number (Some block) }) (each, named.1)
        where
          own : Named block
          own h = ap (λ f. is_pointer (read f (class_place p))) fields ∙ named.0 number old e (ap (is_exception_struct p) (sym same) ∙ h)

          each : (b : ℕ) (other : Block) → slice_index_or (slice_set core.blocks number (Some block)) b None ≡ Some other → Named other
          each b other f = by (is_new number b)
            where
              by : (number ≡ b) ⊎ (number ≢ b) → Named other
              by (inl s) =
                  let i : slice_index_or (slice_set core.blocks number (Some block)) number None ≡ Some block = set_here core.blocks number (Some block) None (index_within core.blocks number old e) in
                  let j : Some block ≡ Some other = sym i ∙ ap (λ b. slice_index_or (slice_set core.blocks number (Some block)) b None) s ∙ f in let k : block ≡ other = cc in subst Named k own
              by (inr d) = named.0 b other (sym (set_elsewhere core.blocks number b (Some block) None d) ∙ f)
      stored_same (Static g) old block e same fields = almost ops (record core { at = core.at + 1; statics = slice_set core.statics g block }) (named.0, each)
        where
          own : Named block
          own h = ap (λ f. is_pointer (read f (class_place p))) fields ∙ named.1 g old e (ap (is_exception_struct p) (sym same) ∙ h)

          each : StaticsNamed (slice_set core.statics g block)
          each b other f = by (is_new g b)
            where
              by : (g ≡ b) ⊎ (g ≢ b) → Named other
              by (inl s) = let k : block ≡ other = get_here core.statics g block other (ap (slice_get (slice_set core.statics g block)) s ∙ f) in subst Named k own
              by (inr d) = named.1 b other (sym (get_elsewhere core.statics g b block d) ∙ f)
      stored_same other old block e same fields = absurd (cc)

      pub put_item_named : (pointer : Value) (block : Block) (i : ℤ) (x : Value) → block_at core pointer ≡ Some block → AfterNamed ops (st.put_item core pointer block i x)
      put_item_named pointer block (pos i) x e =
          choice (nat_lt i (length block.items)) (stored core pointer (record block { items = slice_set block.items i x })) (Stuck Outside) (stored_same pointer block (record block { items = slice_set block.items i x }) e refl refl) tt
      put_item_named pointer block (negsuc i) x e = tt

      -- ---- a block that is made

      abbrev fresh : ℕ → ℕ → Block
      fresh n items = record { kind = n; fields = replicate (shape_at (shapes_of p.structs) n).size Unset; items = replicate items Unset }

      pub made_named : (a n items : ℕ) → a < length core.vars → (is_exception_struct p n ≡ true → names_class (root_of p) a ops ≡ true) → AfterNamed ops (st.new_block core (shapes_of p.structs) a n items)
      made_named a n items lt names = (each, named.1)
        where
          own : (b : Bool) → is_exception_struct p n ≡ b → Named (fresh n items) ⊎ Pending ops (record core { vars = slice_set core.vars a (Ptr (length core.blocks)) }) (length core.blocks)
          own true h = inr (a, names h, read_here core.vars a (Ptr (length core.blocks)) lt)
          own false h = inl (λ k. absurd (let f : true ≡ false = sym k ∙ h in cc))

          each : (b : ℕ) (block : Block) → slice_index_or (core.blocks ++ Some (fresh n items) ∷ []) b None ≡ Some block → Named block ⊎ Pending ops (record core { vars = slice_set core.vars a (Ptr (length core.blocks)) }) b
          each b block e = by (is_new b (length core.blocks))
            where
              by : (b ≡ length core.blocks) ⊎ (b ≢ length core.blocks) → Named block ⊎ Pending ops (record core { vars = slice_set core.vars a (Ptr (length core.blocks)) }) b
              by (inl s) =
                  let i : Some (fresh n items) ≡ Some block = sym (new_at core.blocks (Some (fresh n items)) None) ∙ ap (λ b. slice_index_or (core.blocks ++ Some (fresh n items) ∷ []) b None) (sym s) ∙ e in let k : fresh n items ≡ block = cc in
                  subst (λ b. Named block ⊎ Pending ops (record core { vars = slice_set core.vars a (Ptr (length core.blocks)) }) b) (sym s)
                  (subst (λ block. Named block ⊎ Pending ops (record core { vars = slice_set core.vars a (Ptr (length core.blocks)) }) (length core.blocks)) k (own (is_exception_struct p n) refl))
              by (inr d) = inl (named.0 b block (sym (old_at core.blocks (Some (fresh n items)) None b d) ∙ e))

      pub items_named : (a n : ℕ) (i : ℤ) → a < length core.vars → is_exception_struct p n ≡ false → AfterNamed ops (st.new_items core (shapes_of p.structs) a n i)
      items_named a n (pos items) lt h = made_named a n items lt (λ k. absurd (let f : true ≡ false = sym k ∙ h in cc))
      items_named a n (negsuc items) lt h = tt

  -- ---- a field is written

  module _ (structs : structs_ok p.structs 0 p.structs ≡ true) (first : field_of (slice_get p.structs (root_of p)) 0 ≡ Some (type.Ptr kind)) (types : List LlType) (core : Core) (fits : CoreFits p types core) where
    laid : Laid p.structs (shapes_of p.structs) (fields_from [] p.structs)
    laid = all_laid p.structs structs

    block_fits : (pointer : Value) (block : Block) → block_at core pointer ≡ Some block → BlockFits p (length core.blocks) block
    block_fits (Ptr number) block e = fits.memory.each number block e
    block_fits (Static g) block e = fits.memory.each_static g block e
    block_fits other block e = absurd (cc)

    module _ (n v k : ℕ) (x : COperand) (ops : List LlOp) (test : (not (is_class_field p kind n k) || is_static x) ≡ true) (typed : (t : LlType) × (field_of (slice_get p.structs n) k ≡ Some t)) (named : AlmostNamed (op.SetField n v k x ∷ ops) core) where
      abbrev at : ℕ
      at = place (shape_at (shapes_of p.structs) n) k

      abbrev put : Block → Block
      put block = record block { fields = slice_set block.fields at (operand core.vars x) }

      -- where the class stands, a static is written
      class_written : (block : Block) → begins_with (shapes_of p.structs) block.kind n ≡ true → is_exception_struct p block.kind ≡ true → at ≡ class_place p → is_static x ≡ true
      class_written block begins root same =
          let here : slice_get (fields_of p.structs block.kind) at ≡ Some typed.0 = laid.field block.kind n k typed.0 begins typed.1 in
          let class : slice_get (fields_of p.structs block.kind) (class_place p) ≡ Some (type.Ptr kind) = laid.field block.kind (root_of p) 0 (type.Ptr kind) root first in
          let both : Some typed.0 ≡ Some (type.Ptr kind) = sym here ∙ ap (slice_get (fields_of p.structs block.kind)) same ∙ class in
          implied (is_class_field p kind n k) (is_static x) test
          (and_both (at == class_place p) (has_type (type.Ptr kind) (field_of (slice_get p.structs n) k)) (equals at (class_place p) same) (ap (has_type (type.Ptr kind)) (typed.1 ∙ both) ∙ equals kind kind refl))

      written_named : (pointer : Value) (block : Block) → block_at core pointer ≡ Some block → begins_with (shapes_of p.structs) block.kind n ≡ true → (Named block ⊎ (at ≡ class_place p)) → Named (put block)
      written_named pointer block e begins old root = by (is_new at (class_place p))
        where
          kept : Named block ⊎ (at ≡ class_place p) → (at ≡ class_place p → ⊥) → is_pointer (read block.fields (class_place p)) ≡ true
          kept (inl h) d = h root
          kept (inr s) d = absurd (d s)

          by : (at ≡ class_place p) ⊎ (at ≢ class_place p) → is_pointer (read (slice_set block.fields at (operand core.vars x)) (class_place p)) ≡ true
          by (inl s) =
              let lt : class_place p < length (fields_of p.structs block.kind) = slice_get_within (fields_of p.structs block.kind) (class_place p) (type.Ptr kind) (laid.field block.kind (root_of p) 0 (type.Ptr kind) root first) in
              let count : length block.fields ≡ length (fields_of p.structs block.kind) = (block_fits pointer block e).fields.count in
              ap (λ a. is_pointer (read (slice_set block.fields a (operand core.vars x)) (class_place p))) s ∙ ap is_pointer (read_here block.fields (class_place p) (operand core.vars x) (omega (arith, lt, count)))
              ∙ static_points core.vars x (class_written block begins root s)
          by (inr d) = ap is_pointer (set_elsewhere block.fields at (class_place p) (operand core.vars x) Unset d) ∙ kept old d

      -- who waits for its class gets it
      pending_place : (b : ℕ) → Pending (op.SetField n v k x ∷ ops) core b → (at ≡ class_place p) × (read core.vars v ≡ Ptr b)
      pending_place b (a, names, r) =
          let same_n : n ≡ root_of p = is_same n (root_of p) (and_left _ _ (and_left _ _ (and_left _ _ names))) in
          let same_v : v ≡ a = is_same v a (and_right _ _ (and_left _ _ (and_left _ _ names))) in
          let same_k : k ≡ 0 = is_same k 0 (and_right _ _ (and_left _ _ names)) in
          (ap (λ n. place (shape_at (shapes_of p.structs) n) k) same_n ∙ ap (place (shape_at (shapes_of p.structs) (root_of p))) same_k, ap (read core.vars) same_v ∙ r)

      old_status : (b : ℕ) (block : Block) → Named block ⊎ Pending (op.SetField n v k x ∷ ops) core b → Named block ⊎ (at ≡ class_place p)
      old_status b block (inl h) = inl h
      old_status b block (inr w) = inr (pending_place b w).0

      put_stored : (pointer : Value) (block : Block) → read core.vars v ≡ pointer → block_at core pointer ≡ Some block → begins_with (shapes_of p.structs) block.kind n ≡ true → AfterNamed ops (stored core pointer (put block))
      put_stored (Ptr number) block r e begins = almost ops (record core { at = core.at + 1; blocks = slice_set core.blocks number (Some (put block)) }) (each, named.1)
        where
          each : (b : ℕ) (other : Block) → slice_index_or (slice_set core.blocks number (Some (put block))) b None ≡ Some other → Named other
          each b other f = by (is_new number b)
            where
              elsewhere : (number ≡ b → ⊥) → Named other ⊎ Pending (op.SetField n v k x ∷ ops) core b → Named other
              elsewhere d (inl h) = h
              elsewhere d (inr w) = absurd (let i : Ptr number ≡ Ptr b = sym r ∙ (pending_place b w).1 in d (cc))

              by : (number ≡ b) ⊎ (number ≢ b) → Named other
              by (inl s) =
                  let i : slice_index_or (slice_set core.blocks number (Some (put block))) number None ≡ Some (put block) = set_here core.blocks number (Some (put block)) None (index_within core.blocks number block e) in
                  let j : Some (put block) ≡ Some other = sym i ∙ ap (λ b. slice_index_or (slice_set core.blocks number (Some (put block))) b None) s ∙ f in let k : put block ≡ other = cc in
                  subst Named k (written_named (Ptr number) block e begins (old_status number block (named.0 number block e)))
              by (inr d) = elsewhere d (named.0 b other (sym (set_elsewhere core.blocks number b (Some (put block)) None d) ∙ f))
      put_stored (Static g) block r e begins = (λ b other f. elsewhere b other (named.0 b other f), each)
        where
          elsewhere : (b : ℕ) (other : Block) → Named other ⊎ Pending (op.SetField n v k x ∷ ops) core b → Named other ⊎ Pending ops (record core { at = core.at + 1; statics = slice_set core.statics g (put block) }) b
          elsewhere b other (inl h) = inl h
          elsewhere b other (inr w) = absurd (let i : Static g ≡ Ptr b = sym r ∙ (pending_place b w).1 in cc)

          each : StaticsNamed (slice_set core.statics g (put block))
          each b other f = by (is_new g b)
            where
              by : (g ≡ b) ⊎ (g ≢ b) → Named other
              by (inl s) = let k : put block ≡ other = get_here core.statics g (put block) other (ap (slice_get (slice_set core.statics g (put block))) s ∙ f) in subst Named k (written_named (Static g) block e begins (inl (named.1 g block e)))
              by (inr d) = named.1 b other (sym (get_elsewhere core.statics g b (put block) d) ∙ f)
      put_stored other block r e begins = absurd (cc)

      pub field_named : AfterNamed ops (st.set_field core (shapes_of p.structs) n (read core.vars v) k (operand core.vars x))
      field_named =
          choice ops (is_unset (operand core.vars x)) (Stuck IsUnset) _ tt
          (reached_named ops core n (read core.vars v) (λ block. stored core (read core.vars v) (put block)) (λ block e begins. put_stored (read core.vars v) block refl e begins))
