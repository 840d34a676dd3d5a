-- Operations that stay in their block lead from a core whose pointers lead to one whose do.
use Rattle.std.proofs.Common.{◌≡◌, ◌≢◌, ℕ, zero, suc, ◌+◌, Bool, true, false, List, [], ◌∷◌, ◌++◌, length, replicate, Option, Some, None, Ok, Err, refl, sym, ap, ◌∙◌, subst, ℤ, pos, negsuc, ◌⊎◌, inl, inr}
use Rattle.std.specs.Prelude.{slice_get, slice_set, slice_index_or, nat_lt, nat_le, cond, option_map}
use Rattle.csub_tree.specs.State.{Value, Unset, Word, Null, Ptr, Static, Block, Core, After, Onward, Puts as PutsByte, Told, Over, Stuck}
use Rattle.csub_tree.specs.Layout.{shape_at, begins_with, place}
use Rattle.csub_tree.specs.Operation.{Answer, unary_of, binary_of, word_of, is_unset}
use Rattle.csub_tree.specs.Statement.{read, operand, set, assigned, answered, on, pay_steps, in_range, argument, byte_in, put_word, block_at, as_struct, reached, on_block, get_field, stored, set_field, item, get_item, put_item, set_item, new_block, new_items}
use Rattle.csub_tree.specs.declared.stuck.StuckReason.TheVariants.{Unset as IsUnset, Word as BadWord, Outside, Kind}
use Rattle.csub_tree.specs.declared.tree.COperand.{COperand}
use Rattle.ll_code.specs.declared.program.LlType.{LlType}
use Rattle.ll_code.specs.declared.program.LlType.TheVariants as type
use Rattle.ll_code.specs.declared.program.LlOp.{LlOp}
use Rattle.ll_code.specs.declared.program.LlOp.TheVariants as op
use Rattle.ll_code.specs.declared.program.LlProgram.{LlProgram}
use Rattle.ll_code.specs.Typed.{operation_ok, given_takes, takes, has_given, has_type, begins, field_of, items_of, structs_ok}
use Rattle.ll_code.specs.Machine.{does, shapes_of}
use Rattle.ll_laws.specs.Fields.{fields_of, fields_from}
use Rattle.ll_laws.proofs.Values.{and_left, and_right, is_same, has_type_is}
use Rattle.ll_laws.proofs.Cells.{Laid, all_laid, new_at, old_at, is_new}
use Rattle.ll_laws.proofs.Operations.{set_at}
use Rattle.ll_laws.proofs.Heap.{unset_at}
use Rattle.ll_points.specs.Agrees.{Slots, op_agrees}
use Rattle.ll_points.specs.Points.{Leads, LeadsBy, AllLead, BlockLeads, SlotsLead, MemoryLeads}
use Rattle.ll_points.proofs.Shapes.{begins_so}
use Rattle.ll_points.proofs.Leading.{Kept, Grows, grows_same, all_more, block_more, stand_more, slots_more, same_memory, vars_set, unset_leads, unary_leads, binary_leads, operand_leads}

-- ---- lists

-- a static is what it was, or the one that was set
set_static : {A : Type 0} (xs : List A) (a b : ℕ) (x y : A) → slice_get xs b ≡ Some y → (slice_get (slice_set xs a x) b ≡ Some y) ⊎ ((a ≡ b) × (slice_get (slice_set xs a x) b ≡ Some x))
set_static [] a b x y e = absurd (cc)
set_static (z ∷ xs) zero zero x y e = inr (refl, refl)
set_static (z ∷ xs) zero (suc b) x y e = inl e
set_static (z ∷ xs) (suc a) zero x y e = inl e
set_static (z ∷ xs) (suc a) (suc b) x y e = deeper (set_static xs a b x y e)
  where
    deeper : (slice_get (slice_set xs a x) b ≡ Some y) ⊎ ((a ≡ b) × (slice_get (slice_set xs a x) b ≡ Some x)) → (slice_get (slice_set xs a x) b ≡ Some y) ⊎ ((suc a ≡ suc b) × (slice_get (slice_set xs a x) b ≡ Some x))
    deeper (inl f) = inl f
    deeper (inr f) = inr (ap suc f.0, f.1)

get_set : {A : Type 0} (xs : List A) (a b : ℕ) (x y : A) → slice_get (slice_set xs a x) b ≡ Some y → (slice_get xs b ≡ Some y) ⊎ (x ≡ y)
get_set [] a b x y e = absurd (cc)
get_set (z ∷ xs) zero zero x y e = inr (cc)
get_set (z ∷ xs) zero (suc b) x y e = inl e
get_set (z ∷ xs) (suc a) zero x y e = inl e
get_set (z ∷ xs) (suc a) (suc b) x y e = get_set xs a b x y e

kept_at : (xs : List (Option Block)) (x : Option Block) (b : ℕ) (block : Block) → slice_index_or xs b None ≡ Some block → slice_index_or (xs ++ x ∷ []) b None ≡ Some block
kept_at [] x b block e = absurd (cc)
kept_at (y ∷ xs) x zero block e = e
kept_at (y ∷ xs) x (suc b) block e = kept_at xs x b block e

-- ---- cores

module _ (p : LlProgram) (slots : Slots) (types : List LlType) where
  pub record CoreLeads (core : Core) : Type 0 where
    pub vars : AllLead p core.blocks core.statics types core.vars
    pub memory : MemoryLeads p slots core

  -- a core that comes after one: the same graph runs on, and what was there is there, of the same struct
  pub record Follows (old core : Core) : Type 0 where
    pub graph : core.function ≡ old.function
    pub grows : Grows old.blocks old.statics core.blocks core.statics
    pub leads : CoreLeads core

  abbrev pub AfterLeads : Core → After → Type 0
  AfterLeads old (Onward core) = Follows old core
  AfterLeads old (PutsByte byte core) = Follows old core
  AfterLeads old (Told event core) = Follows old core
  AfterLeads old (Over outcome core) = Unit {0}
  AfterLeads old (Stuck reason) = Unit {0}

  module _ (core : Core) (fit : CoreLeads core) where
    choice_leads : (b : Bool) (x y : After) → AfterLeads core x → AfterLeads core y → AfterLeads core (cond b x y)
    choice_leads true x y h k = h
    choice_leads false x y h k = k

    on_leads : {X : Type 0} (go : X → After) (o : Option X) → ((x : X) → AfterLeads core (go x)) → AfterLeads core (on go o)
    on_leads go None h = tt
    on_leads go (Some x) h = h x

    same : Grows core.blocks core.statics core.blocks core.statics
    same = grows_same core.blocks core.statics

    -- nothing changes but the place, the variables and the steps left
    moved : (at : ℕ) (vars : List Value) (steps : ℕ) → AllLead p core.blocks core.statics types vars → Follows core (record core { at = at; vars = vars; steps = steps })
    moved at vars steps h = record { graph = refl; grows = same; leads = record { vars = h; memory = same_memory p slots core core.function core.block at vars steps fit.memory } }

    assigned_leads : (a : ℕ) (t : LlType) (value : Value) → slice_get types a ≡ Some t → LeadsBy p core.blocks core.statics t value → AfterLeads core (assigned core a value)
    assigned_leads a t value is h = moved (core.at + 1) (slice_set core.vars a value) core.steps (vars_set p core.blocks core.statics types core.vars a t value fit.vars is h)

    set_leads : (a : ℕ) (t : LlType) (value : Value) → slice_get types a ≡ Some t → LeadsBy p core.blocks core.statics t value → AfterLeads core (set core a value)
    set_leads a t value is h = choice_leads (is_unset value) (Stuck IsUnset) (assigned core a value) tt (assigned_leads a t value is h)

    answered_leads : (a : ℕ) (t : LlType) (answer : Answer) → slice_get types a ≡ Some t → ((value : Value) → LeadsBy p core.blocks core.statics t value) → AfterLeads core (answered core a answer)
    answered_leads a t (Ok value) is h = assigned_leads a t value is (h value)
    answered_leads a t (Err reason) is h = tt

    in_range_leads : (a : ℕ) (o : Option ℕ) → slice_get types a ≡ Some type.Signed → AfterLeads core (in_range core a o)
    in_range_leads a None is = tt
    in_range_leads a (Some n) is = assigned_leads a type.Signed (Word (pos n)) is tt

    pay_leads : (z : ℤ) → AfterLeads core (pay_steps core z)
    pay_leads (pos n) = choice_leads (nat_le n core.steps) _ (Over _ core) (moved _ core.vars _ fit.vars) tt
    pay_leads (negsuc n) = tt

    byte_leads : (z : ℤ) → AfterLeads core (put_word core z)
    byte_leads (pos n) = choice_leads (nat_lt n 256) (PutsByte n (record core { at = core.at + 1 })) (Stuck BadWord) (moved (core.at + 1) core.vars core.steps fit.vars) tt
    byte_leads (negsuc n) = tt

    -- ---- exception slots

    slots_set : (type value : Value) → SlotsLead p slots (record core { at = core.at + 1; exc_type = type; exc_value = value }) → Follows core (record core { at = core.at + 1; exc_type = type; exc_value = value })
    slots_set type value h = record {
      graph = refl;
      grows = same;
      leads = record { vars = fit.vars; memory = record { each = fit.memory.each; each_static = fit.memory.each_static; stand = fit.memory.stand; held = h } };
    }

    null_slots : (s : Slots) → SlotsLead p s (record core { at = core.at + 1; exc_type = Null; exc_value = Null })
    null_slots None = (refl, refl)
    null_slots (Some (k, v)) = (tt, tt)

    type_leads : (s : Slots) (a n : ℕ) → SlotsLead p s core → op_agrees s types (op.ExcType a n) ≡ true → Leads p core.blocks core.statics n core.exc_type
    type_leads None a n held h = subst (Leads p core.blocks core.statics n) (sym held.0) tt
    type_leads (Some (k, v)) a n held h = subst (λ n. Leads p core.blocks core.statics n core.exc_type) (sym (is_same n k h)) held.0

    value_leads : (s : Slots) (a n : ℕ) → SlotsLead p s core → op_agrees s types (op.ExcValue a n) ≡ true → Leads p core.blocks core.statics n core.exc_value
    value_leads None a n held h = subst (Leads p core.blocks core.statics n) (sym held.1) tt
    value_leads (Some (k, v)) a n held h = subst (λ n. Leads p core.blocks core.statics n core.exc_value) (sym (is_same n v h)) held.1

    set_slots : (s : Slots) (a b : ℕ) → op_agrees s types (op.ExcSet a b) ≡ true → SlotsLead p s (record core { at = core.at + 1; exc_type = read core.vars a; exc_value = read core.vars b })
    set_slots None a b h = absurd (cc)
    set_slots (Some (k, v)) a b h = (
      fit.vars a (type.Ptr k) (has_type_is (type.Ptr k) (slice_get types a) (and_left _ _ h)),
      fit.vars b (type.Ptr v) (has_type_is (type.Ptr v) (slice_get types b) (and_right (has_type (type.Ptr k) (slice_get types a)) _ h)),
    )

    -- ---- blocks

    module _ (structs : structs_ok p.structs 0 p.structs ≡ true) where
      laid : Laid p.structs (shapes_of p.structs) (fields_from [] p.structs)
      laid = all_laid p.structs structs

      given : (t : LlType) (x : COperand) → takes p types t x ≡ true → LeadsBy p core.blocks core.statics t (operand core.vars x)
      given t x h = operand_leads p core.blocks core.statics structs fit.memory.stand types core.vars fit.vars t x h

      given_at : (a : ℕ) (o : Option LlType) (x : COperand) → slice_get types a ≡ o → given_takes p types o x ≡ true → AfterLeads core (set core a (operand core.vars x))
      given_at a None x e h = absurd (cc)
      given_at a (Some t) x e h = set_leads a t (operand core.vars x) e (given t x h)

      block_leads : (pointer : Value) (block : Block) → block_at core pointer ≡ Some block → BlockLeads p core.blocks core.statics block
      block_leads (Ptr number) block e = fit.memory.each number block e
      block_leads (Static g) block e = fit.memory.each_static g block e
      block_leads other block e = absurd (cc)

      reached_leads : (n : ℕ) (pointer : Value) (go : Block → After)
          → ((block : Block) → block_at core pointer ≡ Some block → begins_with (shapes_of p.structs) block.kind n ≡ true → AfterLeads core (go block))
          → AfterLeads core (on_block go (reached core (shapes_of p.structs) n pointer))
      reached_leads n pointer go h = unset (is_unset pointer)
        where
          kind : (block : Block) (b : Bool) → block_at core pointer ≡ Some block → begins_with (shapes_of p.structs) block.kind n ≡ b → AfterLeads core (on_block go (cond b (Ok block) (Err Kind)))
          kind block true e f = h block e f
          kind block false e f = tt

          there : (o : Option Block) → block_at core pointer ≡ o → AfterLeads core (on_block go (as_struct (shapes_of p.structs) n o))
          there None e = tt
          there (Some block) e = kind block (begins_with (shapes_of p.structs) block.kind n) e refl

          unset : (b : Bool) → AfterLeads core (on_block go (cond b (Err IsUnset) (as_struct (shapes_of p.structs) n (block_at core pointer))))
          unset true = tt
          unset false = there (block_at core pointer) refl

      -- with a block in the place of one of its struct
      put_leads : (number : ℕ) (old block : Block) → slice_index_or core.blocks number None ≡ Some old → block.kind ≡ old.kind → BlockLeads p core.blocks core.statics block
          → Follows core (record core { at = core.at + 1; blocks = slice_set core.blocks number (Some block) })
      put_leads number old block is kind h = record {
        graph = refl;
        grows = grows;
        leads = record {
          vars = all_more p core.blocks core.statics more core.statics grows types core.vars fit.vars;
          memory = record {
            each = λ b other e. block_more p core.blocks core.statics more core.statics grows other (each b other e (set_at core.blocks number b (Some block) None));
            each_static = λ s other e. block_more p core.blocks core.statics more core.statics grows other (fit.memory.each_static s other e);
            stand = fit.memory.stand;
            held = slots_more p slots core (record core { at = core.at + 1; blocks = more }) grows refl refl fit.memory.held;
          };
        };
      }
        where
          more : List (Option Block)
          more = slice_set core.blocks number (Some block)

          kept : (b : ℕ) (other : Block) → slice_index_or core.blocks b None ≡ Some other
              → (slice_index_or (slice_set core.blocks number (Some block)) b None ≡ slice_index_or core.blocks b None) ⊎ ((number ≡ b) × (slice_index_or (slice_set core.blocks number (Some block)) b None ≡ Some block))
              → Kept (slice_index_or (slice_set core.blocks number (Some block)) b None) other.kind
          kept b other e (inl same) = record { block = other; is = same ∙ e; same = refl }
          kept b other e (inr new) =
              let f : Some old ≡ Some other = sym is ∙ ap (λ n. slice_index_or core.blocks n None) new.0 ∙ e in let g : old ≡ other = cc in record { block = block; is = new.1; same = kind ∙ ap (λ x. x.kind) g }

          grows : Grows core.blocks core.statics (slice_set core.blocks number (Some block)) core.statics
          grows = record { each = λ b other e. kept b other e (set_at core.blocks number b (Some block) None); each_static = λ s other e. record { block = other; is = e; same = refl } }

          each : (b : ℕ) (other : Block) → slice_index_or (slice_set core.blocks number (Some block)) b None ≡ Some other
              → (slice_index_or (slice_set core.blocks number (Some block)) b None ≡ slice_index_or core.blocks b None) ⊎ ((number ≡ b) × (slice_index_or (slice_set core.blocks number (Some block)) b None ≡ Some block))
              → BlockLeads p core.blocks core.statics other
          each b other e (inl same) = fit.memory.each b other (sym same ∙ e)
          each b other e (inr new) = let f : Some block ≡ Some other = sym new.1 ∙ e in let g : block ≡ other = cc in subst (BlockLeads p core.blocks core.statics) g h

      put_static : (g : ℕ) (old block : Block) → slice_get core.statics g ≡ Some old → block.kind ≡ old.kind → BlockLeads p core.blocks core.statics block
          → Follows core (record core { at = core.at + 1; statics = slice_set core.statics g block })
      put_static g old block is kind h = record {
        graph = refl;
        grows = grows;
        leads = record {
          vars = all_more p core.blocks core.statics core.blocks after grows types core.vars fit.vars;
          memory = record {
            each = λ b other e. block_more p core.blocks core.statics core.blocks after grows other (fit.memory.each b other e);
            each_static = λ s other e. block_more p core.blocks core.statics core.blocks after grows other (each s other (get_set core.statics g s block other e));
            stand = stand_more p core.blocks core.statics core.blocks after grows fit.memory.stand;
            held = slots_more p slots core (record core { at = core.at + 1; statics = after }) grows refl refl fit.memory.held;
          };
        };
      }
        where
          after : List Block
          after = slice_set core.statics g block

          kept : (s : ℕ) (other : Block) → slice_get core.statics s ≡ Some other → (slice_get (slice_set core.statics g block) s ≡ Some other) ⊎ ((g ≡ s) × (slice_get (slice_set core.statics g block) s ≡ Some block))
              → Kept (slice_get (slice_set core.statics g block) s) other.kind
          kept s other e (inl same) = record { block = other; is = same; same = refl }
          kept s other e (inr new) =
              let f : Some old ≡ Some other = sym is ∙ ap (slice_get core.statics) new.0 ∙ e in let i : old ≡ other = cc in record { block = block; is = new.1; same = kind ∙ ap (λ x. x.kind) i }

          grows : Grows core.blocks core.statics core.blocks (slice_set core.statics g block)
          grows = record { each = λ b other e. record { block = other; is = e; same = refl }; each_static = λ s other e. kept s other e (set_static core.statics g s block other e) }

          each : (s : ℕ) (other : Block) → (slice_get core.statics s ≡ Some other) ⊎ (block ≡ other) → BlockLeads p core.blocks core.statics other
          each s other (inl e) = fit.memory.each_static s other e
          each s other (inr e) = subst (BlockLeads p core.blocks core.statics) e h

      stored_leads : (pointer : Value) (old block : Block) → block_at core pointer ≡ Some old → block.kind ≡ old.kind → BlockLeads p core.blocks core.statics block → AfterLeads core (stored core pointer block)
      stored_leads (Ptr number) old block is kind h = put_leads number old block is kind h
      stored_leads (Static g) old block is kind h = put_static g old block is kind h
      stored_leads other old block is kind h = tt

      -- ---- fields and items

      get_field_leads : (a n k : ℕ) (pointer : Value) (o : Option LlType) → field_of (slice_get p.structs n) k ≡ o → has_given types a o ≡ true → AfterLeads core (get_field core (shapes_of p.structs) a n pointer k)
      get_field_leads a n k pointer None e h = absurd (cc)
      get_field_leads a n k pointer (Some t) e h =
          reached_leads n pointer (λ block. set core a (read block.fields (place (shape_at (shapes_of p.structs) n) k)))
          (λ block there begins. set_leads a t (read block.fields (place (shape_at (shapes_of p.structs) n) k)) (has_type_is t (slice_get types a) h)
          ((block_leads pointer block there).fields (place (shape_at (shapes_of p.structs) n) k) t (laid.field block.kind n k t begins e)))

      set_field_leads : (n k : ℕ) (pointer : Value) (x : COperand) (o : Option LlType) → field_of (slice_get p.structs n) k ≡ o → given_takes p types o x ≡ true
          → AfterLeads core (set_field core (shapes_of p.structs) n pointer k (operand core.vars x))
      set_field_leads n k pointer x None e h = absurd (cc)
      set_field_leads n k pointer x (Some t) e h = choice_leads (is_unset value) (Stuck IsUnset) (on_block go (reached core (shapes_of p.structs) n pointer)) tt (reached_leads n pointer go goes)
        where
          value : Value
          value = operand core.vars x

          go : Block → After
          go block = stored core pointer (record block { fields = slice_set block.fields (place (shape_at (shapes_of p.structs) n) k) value })

          goes : (block : Block) → block_at core pointer ≡ Some block → begins_with (shapes_of p.structs) block.kind n ≡ true → AfterLeads core (go block)
          goes block there begins =
              let old : BlockLeads p core.blocks core.statics block = block_leads pointer block there in
              stored_leads pointer block (record block { fields = slice_set block.fields (place (shape_at (shapes_of p.structs) n) k) value }) there refl (record {
                fields = vars_set p core.blocks core.statics (fields_of p.structs block.kind) block.fields (place (shape_at (shapes_of p.structs) n) k) t value old.fields (laid.field block.kind n k t begins e) (given t x h);
                items = old.items;
              })

      items_are : (kind n : ℕ) (t : LlType) → begins_with (shapes_of p.structs) kind n ≡ true → items_of (slice_get p.structs n) ≡ Some t → items_of (slice_get p.structs kind) ≡ Some t
      items_are kind n t begins e = ap (λ n. items_of (slice_get p.structs n)) (sym (laid.items kind n t begins e)) ∙ e

      item_leads : (a : ℕ) (t : LlType) (items : List Value) (i : ℤ) → slice_get types a ≡ Some t → ((k : ℕ) → LeadsBy p core.blocks core.statics t (read items k)) → AfterLeads core (item core a items i)
      item_leads a t items (pos i) is h = choice_leads (nat_lt i (length items)) (set core a (read items i)) (Stuck Outside) (set_leads a t (read items i) is (h i)) tt
      item_leads a t items (negsuc i) is h = tt

      get_item_leads : (a n : ℕ) (pointer i : Value) (o : Option LlType) → items_of (slice_get p.structs n) ≡ o → has_given types a o ≡ true → AfterLeads core (get_item core (shapes_of p.structs) a n pointer i)
      get_item_leads a n pointer i None e h = absurd (cc)
      get_item_leads a n pointer i (Some t) e h =
          on_leads (λ i. on_block (λ block. item core a block.items i) (reached core (shapes_of p.structs) n pointer)) (word_of i)
          (λ i. reached_leads n pointer (λ block. item core a block.items i)
          (λ block there begins. item_leads a t block.items i (has_type_is t (slice_get types a) h) (λ k. (block_leads pointer block there).items k t (items_are block.kind n t begins e))))

      items_set : (block : Block) (i : ℕ) (t : LlType) (value : Value) → items_of (slice_get p.structs block.kind) ≡ Some t → LeadsBy p core.blocks core.statics t value → BlockLeads p core.blocks core.statics block
          → BlockLeads p core.blocks core.statics (record block { items = slice_set block.items i value })
      items_set block i t value is h old = record { fields = old.fields; items = λ k u e. at k u e (set_at block.items i k value Unset) }
        where
          at : (k : ℕ) (u : LlType) → items_of (slice_get p.structs block.kind) ≡ Some u
              → (slice_index_or (slice_set block.items i value) k Unset ≡ slice_index_or block.items k Unset) ⊎ ((i ≡ k) × (slice_index_or (slice_set block.items i value) k Unset ≡ value))
              → LeadsBy p core.blocks core.statics u (read (slice_set block.items i value) k)
          at k u e (inl same) = subst (LeadsBy p core.blocks core.statics u) (sym same) (old.items k u e)
          at k u e (inr new) = let f : Some t ≡ Some u = sym is ∙ e in let g : t ≡ u = cc in subst (LeadsBy p core.blocks core.statics u) (sym new.1) (subst (λ t. LeadsBy p core.blocks core.statics t value) g h)

      put_item_leads : (pointer : Value) (block : Block) (i : ℤ) (t : LlType) (value : Value) → block_at core pointer ≡ Some block → items_of (slice_get p.structs block.kind) ≡ Some t → LeadsBy p core.blocks core.statics t value
          → AfterLeads core (put_item core pointer block i value)
      put_item_leads pointer block (pos i) t value there is h =
          choice_leads (nat_lt i (length block.items)) (stored core pointer (record block { items = slice_set block.items i value })) (Stuck Outside)
          (stored_leads pointer block (record block { items = slice_set block.items i value }) there refl (items_set block i t value is h (block_leads pointer block there))) tt
      put_item_leads pointer block (negsuc i) t value there is h = tt

      set_item_leads : (n : ℕ) (pointer i : Value) (x : COperand) (o : Option LlType) → items_of (slice_get p.structs n) ≡ o → given_takes p types o x ≡ true
          → AfterLeads core (set_item core (shapes_of p.structs) n pointer i (operand core.vars x))
      set_item_leads n pointer i x None e h = absurd (cc)
      set_item_leads n pointer i x (Some t) e h =
          choice_leads (is_unset value) (Stuck IsUnset) (on (λ i. on_block (go i) (reached core (shapes_of p.structs) n pointer)) (word_of i)) tt
          (on_leads (λ i. on_block (go i) (reached core (shapes_of p.structs) n pointer)) (word_of i)
          (λ i. reached_leads n pointer (go i) (λ block there begins. put_item_leads pointer block i t value there (items_are block.kind n t begins e) (given t x h))))
        where
          value : Value
          value = operand core.vars x

          go : ℤ → Block → After
          go i block = put_item core pointer block i value

      -- ---- new blocks

      abbrev fresh : ℕ → ℕ → Block
      fresh n items = record { kind = n; fields = replicate (shape_at (shapes_of p.structs) n).size Unset; items = replicate items Unset }

      fresh_leads : (blocks : List (Option Block)) (n items : ℕ) → BlockLeads p blocks core.statics (fresh n items)
      fresh_leads blocks n items = record {
        fields = λ a t e. subst (LeadsBy p blocks core.statics t) (sym (unset_at (shape_at (shapes_of p.structs) n).size a)) (unset_leads p blocks core.statics t);
        items = λ i t e. subst (LeadsBy p blocks core.statics t) (sym (unset_at items i)) (unset_leads p blocks core.statics t);
      }

      new_leads : (a m n items : ℕ) → begins p.structs n m ≡ true → slice_get types a ≡ Some (type.Ptr m) → AfterLeads core (new_block core (shapes_of p.structs) a n items)
      new_leads a m n items h is = record {
        graph = refl;
        grows = grows;
        leads = record {
          vars = vars_set p more core.statics types core.vars a (type.Ptr m) (Ptr (length core.blocks)) (all_more p core.blocks core.statics more core.statics grows types core.vars fit.vars) is
              (fresh n items, new_at core.blocks (Some (fresh n items)) None, begins_so p.structs structs n m h);
          memory = record {
            each = λ b other e. each b other e (is_new b (length core.blocks));
            each_static = λ s other e. block_more p core.blocks core.statics more core.statics grows other (fit.memory.each_static s other e);
            stand = fit.memory.stand;
            held = slots_more p slots core (record core { at = core.at + 1; vars = slice_set core.vars a (Ptr (length core.blocks)); blocks = more }) grows refl refl fit.memory.held;
          };
        };
      }
        where
          more : List (Option Block)
          more = core.blocks ++ Some (fresh n items) ∷ []

          grows : Grows core.blocks core.statics (core.blocks ++ Some (fresh n items) ∷ []) core.statics
          grows = record { each = λ b other e. record { block = other; is = kept_at core.blocks (Some (fresh n items)) b other e; same = refl }; each_static = λ s other e. record { block = other; is = e; same = refl } }

          each : (b : ℕ) (other : Block) → slice_index_or (core.blocks ++ Some (fresh n items) ∷ []) b None ≡ Some other → (b ≡ length core.blocks) ⊎ (b ≢ length core.blocks)
              → BlockLeads p (core.blocks ++ Some (fresh n items) ∷ []) core.statics other
          each b other e (inl at) =
              let f : Some (fresh n items) ≡ Some other = sym (new_at core.blocks (Some (fresh n items)) None) ∙ ap (λ b. slice_index_or (core.blocks ++ Some (fresh n items) ∷ []) b None) (sym at) ∙ e in
              let g : fresh n items ≡ other = cc in subst (BlockLeads p (core.blocks ++ Some (fresh n items) ∷ []) core.statics) g (fresh_leads (core.blocks ++ Some (fresh n items) ∷ []) n items)
          each b other e (inr ne) = block_more p core.blocks core.statics (core.blocks ++ Some (fresh n items) ∷ []) core.statics grows other (fit.memory.each b other (sym (old_at core.blocks (Some (fresh n items)) None b ne) ∙ e))

      new_items_leads : (a m n : ℕ) (items : ℤ) → begins p.structs n m ≡ true → slice_get types a ≡ Some (type.Ptr m) → AfterLeads core (new_items core (shapes_of p.structs) a n items)
      new_items_leads a m n (pos items) h is = new_leads a m n items h is
      new_items_leads a m n (negsuc items) h is = tt

      -- ---- all of them

      free_never : (s : Slots) (a : ℕ) → op_agrees s types (op.Free a) ≡ true → ⊥
      free_never None a h = cc
      free_never (Some (k, v)) a h = cc

      pub operation_leads : (args : List (List ℕ)) (o : LlOp) → operation_ok p types o ≡ true → op_agrees slots types o ≡ true → AfterLeads core (does p args core o)
      operation_leads args (op.Set a x) ok h = given_at a (slice_get types a) x refl ok
      operation_leads args (op.Unary a o x) ok h = answered_leads a _ (unary_of o (operand core.vars x)) (has_type_is _ _ (and_left _ _ ok)) (unary_leads p core.blocks core.statics o)
      operation_leads args (op.Binary a o x y) ok h = answered_leads a _ (binary_of o (operand core.vars x) (operand core.vars y)) (has_type_is _ _ (and_left _ _ ok)) (binary_leads p core.blocks core.statics o)
      operation_leads args (op.GetField a n b k) ok h = get_field_leads a n k (read core.vars b) (field_of (slice_get p.structs n) k) refl (and_right _ _ ok)
      operation_leads args (op.SetField n b k x) ok h = set_field_leads n k (read core.vars b) x (field_of (slice_get p.structs n) k) refl (and_right _ _ ok)
      operation_leads args (op.GetItem a n b i) ok h = get_item_leads a n (read core.vars b) (operand core.vars i) (items_of (slice_get p.structs n)) refl (and_right _ _ ok)
      operation_leads args (op.SetItem n b i x) ok h = set_item_leads n (read core.vars b) (operand core.vars i) x (items_of (slice_get p.structs n)) refl (and_right _ _ ok)
      operation_leads args (op.New a m n) ok h = new_leads a m n 0 (and_right _ _ (and_left _ _ ok)) (has_type_is _ _ (and_left _ _ (and_left _ _ ok)))
      operation_leads args (op.NewArray a m n x) ok h =
          on_leads (new_items core (shapes_of p.structs) a n) (word_of (operand core.vars x))
          (λ items. new_items_leads a m n items (and_right _ _ (and_left _ _ (and_left _ _ ok))) (has_type_is _ _ (and_left _ _ (and_left _ _ (and_left _ _ ok)))))
      operation_leads args (op.Free a) ok h = absurd (free_never slots a h)
      operation_leads args (op.Step x) ok h = on_leads (pay_steps core) (word_of (operand core.vars x)) pay_leads
      operation_leads args (op.ExcType a n) ok h = assigned_leads a (type.Ptr n) core.exc_type (has_type_is _ _ (and_right _ _ ok)) (type_leads slots a n fit.memory.held h)
      operation_leads args (op.ExcValue a n) ok h = assigned_leads a (type.Ptr n) core.exc_value (has_type_is _ _ (and_right _ _ ok)) (value_leads slots a n fit.memory.held h)
      operation_leads args (op.ExcSet a b) ok h =
          choice_leads _ (Stuck IsUnset) (Onward (record core { at = core.at + 1; exc_type = read core.vars a; exc_value = read core.vars b })) tt (slots_set (read core.vars a) (read core.vars b) (set_slots slots a b h))
      operation_leads args op.ExcClear ok h = slots_set Null Null (null_slots slots)
      operation_leads args (op.Argc a) ok h = assigned_leads a type.Signed (Word (pos (length args))) (has_type_is _ _ ok) tt
      operation_leads args (op.ArgLen a x) ok h =
          on_leads (λ i. in_range core a (option_map length (argument args i))) (word_of (operand core.vars x)) (λ i. in_range_leads a (option_map length (argument args i)) (has_type_is _ _ (and_left _ _ ok)))
      operation_leads args (op.Arg a x y) ok h =
          on_leads (λ i. on (λ j. in_range core a (byte_in (argument args i) j)) (word_of (operand core.vars y))) (word_of (operand core.vars x))
          (λ i. on_leads (λ j. in_range core a (byte_in (argument args i) j)) (word_of (operand core.vars y))
          (λ j. in_range_leads a (byte_in (argument args i) j) (has_type_is _ _ (and_left _ _ (and_left _ _ ok)))))
      operation_leads args (op.Put x) ok h = on_leads (put_word core) (word_of (operand core.vars x)) byte_leads
      operation_leads args (op.Call into f xs) ok h = tt
      operation_leads args (op.CallFn into result params b xs) ok h = tt
      operation_leads args (op.Raise a) ok h = tt
