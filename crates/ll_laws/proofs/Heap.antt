-- Operations on blocks lead from a core that fits to one that fits.
use Rattle.std.proofs.Common.{◌≡◌, ◌<◌, ◌≢◌, ◌≤◌, ℕ, zero, suc, ◌+◌, Bool, true, false, List, [], ◌∷◌, ◌++◌, length, replicate, Option, Some, None, Ok, Err, refl, sym, ap, ◌∙◌, subst, arith, ℤ, pos, negsuc, ◌⊎◌, inl, inr}
use Rattle.std.specs.Prelude.{slice_get, slice_set, slice_index_or, nat_lt, cond, is_some}
use Rattle.csub_tree.specs.State.{Value, Unset, Ptr, Static, Block, Core, After, Stuck}
use Rattle.csub_tree.specs.Layout.{shape_at, begins_with, place}
use Rattle.csub_tree.specs.Operation.{word_of, is_unset}
use Rattle.csub_tree.specs.Statement.{read, operand, set, block_at, on, as_struct, reached, on_block, get_field, stored, set_field, item, get_item, put_item, set_item, new_block, new_items, free_block, free}
use Rattle.csub_tree.specs.declared.stuck.StuckReason.TheVariants.{Unset as IsUnset, Outside, Kind}
use Rattle.csub_tree.specs.declared.tree.COperand.{COperand}
use Rattle.ll_code.specs.declared.program.LlType.{LlType}
use Rattle.ll_code.specs.declared.program.LlType.TheVariants as type
use Rattle.ll_code.specs.declared.program.LlOp.{LlOp}
use Rattle.ll_code.specs.declared.program.LlOp.TheVariants as op
use Rattle.ll_code.specs.declared.program.LlProgram.{LlProgram}
use Rattle.ll_code.specs.Typed.{operation_ok, given_takes, has_given, field_of, items_of, structs_ok}
use Rattle.ll_code.specs.Machine.{does, shapes_of}
use Rattle.ll_laws.specs.Fields.{fields_of, fields_from}
use Rattle.ll_laws.specs.Fits.{Fits, exception, AllFit, BlockFits, MemoryFits, CoreFits, Follows, AfterFits}
use Rattle.ll_laws.proofs.Values.{is_less, and_left, and_right, has_type_is, operand_fits}
use Rattle.ll_laws.proofs.Cells.{Laid, all_laid, new_at, old_at, is_new}
use Rattle.ll_laws.proofs.Operations.{length_set, set_at, vars_set, choice_fits, set_fits, on_fits, plain_fits}

-- ---- with more blocks made

module _ (p : LlProgram) (made more : ℕ) (le : made ≤ more) where
  pub fits_more : (t : LlType) (value : Value) → Fits p made t value → Fits p more t value
  fits_more t Unset h = tt
  fits_more (type.Ptr n) (Ptr b) h = omega (arith, le, h)
  fits_more t value h = h

  pub all_more : (types : List LlType) (values : List Value) → AllFit p made types values → AllFit p more types values
  all_more types values fit = record { count = fit.count; at = λ a t e. fits_more t (read values a) (fit.at a t e) }

  pub block_more : (block : Block) → BlockFits p made block → BlockFits p more block
  block_more block fit = record { of = fit.of; fields = all_more _ block.fields fit.fields; items = λ i t e. fits_more t (read block.items i) (fit.items i t e); none = fit.none }

  pub memory_more : (blocks more_blocks : List (Option Block)) (statics : List Block) (exc_type exc_value : Value) → length blocks ≡ made → length more_blocks ≡ more
      → ((k : ℕ) (block : Block) → slice_index_or more_blocks k None ≡ Some block → BlockFits p more block) → MemoryFits p blocks statics exc_type exc_value
      → MemoryFits p more_blocks statics exc_type exc_value
  memory_more blocks more_blocks statics exc_type exc_value was is each fit = record {
    each = λ k block e. subst (λ n. BlockFits p n block) (sym is) (each k block e);
    static_count = fit.static_count;
    each_static = λ g block e. subst (λ n. BlockFits p n block) (sym is) (block_more block (subst (λ n. BlockFits p n block) was (fit.each_static g block e)));
    slot_type = subst (λ n. Fits p n exception exc_type) (sym is) (fits_more exception exc_type (subst (λ n. Fits p n exception exc_type) was fit.slot_type));
    slot_value = subst (λ n. Fits p n exception exc_value) (sym is) (fits_more exception exc_value (subst (λ n. Fits p n exception exc_value) was fit.slot_value));
  }

pub length_unset : (n : ℕ) → length (replicate n Unset) ≡ n
length_unset zero = refl
length_unset (suc n) = ap suc (length_unset n)

length_new : {A : Type 0} (xs : List A) (x : A) → length (xs ++ x ∷ []) ≡ suc (length xs)
length_new [] x = refl
length_new (y ∷ xs) x = ap suc (length_new xs x)

-- what is read of unset places, and of a list with one place set
pub unset_at : (n k : ℕ) → read (replicate n Unset) k ≡ Unset
unset_at zero k = refl
unset_at (suc n) zero = refl
unset_at (suc n) (suc k) = unset_at n k

get_set : {A : Type 0} (xs : List A) (a b : ℕ) (x y : A) → slice_get (slice_set xs a x) b ≡ Some y → (slice_get xs b ≡ Some y) ⊎ (x ≡ y)
get_set [] a b x y e = absurd (cc)
get_set (z ∷ xs) zero zero x y e = inr (cc)
get_set (z ∷ xs) zero (suc b) x y e = inl e
get_set (z ∷ xs) (suc a) zero x y e = inl e
get_set (z ∷ xs) (suc a) (suc b) x y e = get_set xs a b x y e

module _ (p : LlProgram) (types : List LlType) (core : Core) (fit : CoreFits p types core) (ok : structs_ok p.structs 0 p.structs ≡ true) where
  laid : Laid p.structs (shapes_of p.structs) (fields_from [] p.structs)
  laid = all_laid p.structs ok

  made : ℕ
  made = length core.blocks

  -- ---- the block that a pointer names

  block_fits : (pointer : Value) (block : Block) → block_at core pointer ≡ Some block → BlockFits p (length core.blocks) block
  block_fits (Ptr number) block e = fit.memory.each number block e
  block_fits (Static g) block e = fit.memory.each_static g block e
  block_fits other block e = absurd (cc)

  pub reached_fits : (n : ℕ) (pointer : Value) (go : Block → After)
      → ((block : Block) → block_at core pointer ≡ Some block → begins_with (shapes_of p.structs) block.kind n ≡ true → AfterFits p types core (go block))
      → AfterFits p types core (on_block go (reached core (shapes_of p.structs) n pointer))
  reached_fits n pointer go h = unset (is_unset pointer)
    where
      kind : (block : Block) (b : Bool) → block_at core pointer ≡ Some block → begins_with (shapes_of p.structs) block.kind n ≡ b → AfterFits p types core (on_block go (cond b (Ok block) (Err Kind)))
      kind block true e f = h block e f
      kind block false e f = tt

      there : (o : Option Block) → block_at core pointer ≡ o → AfterFits p types core (on_block go (as_struct (shapes_of p.structs) n o))
      there None e = tt
      there (Some block) e = kind block (begins_with (shapes_of p.structs) block.kind n) e refl

      unset : (b : Bool) → AfterFits p types core (on_block go (cond b (Err IsUnset) (as_struct (shapes_of p.structs) n (block_at core pointer))))
      unset true = tt
      unset false = there (block_at core pointer) refl

  -- ---- a block in the place of another

  put_fits : (number : ℕ) (o : Option Block) → ((block : Block) → o ≡ Some block → BlockFits p (length core.blocks) block) → Follows p types core (record core { at = core.at + 1; blocks = slice_set core.blocks number o })
  put_fits number o h = record {
    graph = refl;
    grows = omega (arith, length_set core.blocks number o);
    fits = record {
      vars = subst (λ n. AllFit p n types core.vars) (sym (length_set core.blocks number o)) fit.vars;
      memory = memory_more p (length core.blocks) (length core.blocks) (omega arith) core.blocks (slice_set core.blocks number o) core.statics core.exc_type core.exc_value refl (length_set core.blocks number o)
          (λ k block e. each k block e (set_at core.blocks number k o None)) fit.memory;
    };
  }
    where
      each : (k : ℕ) (block : Block) → slice_index_or (slice_set core.blocks number o) k None ≡ Some block
          → (slice_index_or (slice_set core.blocks number o) k None ≡ slice_index_or core.blocks k None) ⊎ ((number ≡ k) × (slice_index_or (slice_set core.blocks number o) k None ≡ o)) → BlockFits p (length core.blocks) block
      each k block e (inl same) = fit.memory.each k block (sym same ∙ e)
      each k block e (inr new) = h block (sym new.1 ∙ e)

  stored_fits : (pointer : Value) (block : Block) → BlockFits p (length core.blocks) block → AfterFits p types core (stored core pointer block)
  stored_fits (Ptr number) block h = put_fits number (Some block) (λ other e. let f : block ≡ other = cc in subst (BlockFits p (length core.blocks)) f h)
  stored_fits (Static g) block h = record {
    graph = refl;
    grows = omega arith;
    fits = record {
      vars = fit.vars;
      memory = record { each = fit.memory.each; static_count = length_set core.statics g block ∙ fit.memory.static_count; each_static = λ k other e. each k other (get_set core.statics g k block other e); slot_type = fit.memory.slot_type; slot_value = fit.memory.slot_value };
    };
  }
    where
      each : (k : ℕ) (other : Block) → (slice_get core.statics k ≡ Some other) ⊎ (block ≡ other) → BlockFits p (length core.blocks) other
      each k other (inl e) = fit.memory.each_static k other e
      each k other (inr e) = subst (BlockFits p (length core.blocks)) e h
  stored_fits other block h = tt

  -- ---- fields and items

  get_field_fits : (a n k : ℕ) (pointer : Value) (o : Option LlType) → field_of (slice_get p.structs n) k ≡ o → has_given types a o ≡ true → AfterFits p types core (get_field core (shapes_of p.structs) a n pointer k)
  get_field_fits a n k pointer None e h = absurd (cc)
  get_field_fits a n k pointer (Some t) e h =
      reached_fits n pointer (λ block. set core a (read block.fields (place (shape_at (shapes_of p.structs) n) k)))
      (λ block there begins. set_fits p types core fit a t (read block.fields (place (shape_at (shapes_of p.structs) n) k)) (has_type_is t (slice_get types a) h)
      ((block_fits pointer block there).fields.at (place (shape_at (shapes_of p.structs) n) k) t (laid.field block.kind n k t begins e)))

  set_field_fits : (n k : ℕ) (pointer : Value) (x : COperand) (o : Option LlType) → field_of (slice_get p.structs n) k ≡ o → given_takes p types o x ≡ true
      → AfterFits p types core (set_field core (shapes_of p.structs) n pointer k (operand core.vars x))
  set_field_fits n k pointer x None e h = absurd (cc)
  set_field_fits n k pointer x (Some t) e h = choice_fits p types core fit (is_unset value) (Stuck IsUnset) (on_block go (reached core (shapes_of p.structs) n pointer)) tt (reached_fits n pointer go goes)
    where
      value : Value
      value = operand core.vars x

      go : Block → After
      go block = stored core pointer (record block { fields = slice_set block.fields (place (shape_at (shapes_of p.structs) n) k) value })

      goes : (block : Block) → block_at core pointer ≡ Some block → begins_with (shapes_of p.structs) block.kind n ≡ true → AfterFits p types core (go block)
      goes block there begins =
          let old : BlockFits p (length core.blocks) block = block_fits pointer block there in
          stored_fits pointer (record block { fields = slice_set block.fields (place (shape_at (shapes_of p.structs) n) k) value })
          (record {
            of = old.of;
            fields = vars_set p (length core.blocks) (fields_of p.structs block.kind) block.fields (place (shape_at (shapes_of p.structs) n) k) t value old.fields (laid.field block.kind n k t begins e)
                (operand_fits p (length core.blocks) types core.vars fit.vars t x h);
            items = old.items;
            none = old.none;
          })

  items_are : (kind n : ℕ) (t : LlType) → begins_with (shapes_of p.structs) kind n ≡ true → items_of (slice_get p.structs n) ≡ Some t → items_of (slice_get p.structs kind) ≡ Some t
  items_are kind n t begins e = ap (λ n. items_of (slice_get p.structs n)) (sym (laid.items kind n t begins e)) ∙ e

  item_fits : (a : ℕ) (t : LlType) (items : List Value) (i : ℤ) → slice_get types a ≡ Some t → ((k : ℕ) → Fits p (length core.blocks) t (read items k)) → AfterFits p types core (item core a items i)
  item_fits a t items (pos i) is h = choice_fits p types core fit (nat_lt i (length items)) (set core a (read items i)) (Stuck Outside) (set_fits p types core fit a t (read items i) is (h i)) tt
  item_fits a t items (negsuc i) is h = tt

  get_item_fits : (a n : ℕ) (pointer i : Value) (o : Option LlType) → items_of (slice_get p.structs n) ≡ o → has_given types a o ≡ true → AfterFits p types core (get_item core (shapes_of p.structs) a n pointer i)
  get_item_fits a n pointer i None e h = absurd (cc)
  get_item_fits a n pointer i (Some t) e h =
      on_fits p types core fit (λ i. on_block (λ block. item core a block.items i) (reached core (shapes_of p.structs) n pointer)) (word_of i)
      (λ i. reached_fits n pointer (λ block. item core a block.items i)
      (λ block there begins. item_fits a t block.items i (has_type_is t (slice_get types a) h) (λ k. (block_fits pointer block there).items k t (items_are block.kind n t begins e))))

  items_set : (block : Block) (i : ℕ) (t : LlType) (value : Value) → items_of (slice_get p.structs block.kind) ≡ Some t → Fits p (length core.blocks) t value → BlockFits p (length core.blocks) block
      → BlockFits p (length core.blocks) (record block { items = slice_set block.items i value })
  items_set block i t value is h old = record { of = old.of; fields = old.fields; items = λ k u e. at k u e (set_at block.items i k value Unset); none = λ e. length_set block.items i value ∙ old.none e }
    where
      at : (k : ℕ) (u : LlType) → items_of (slice_get p.structs block.kind) ≡ Some u
          → (slice_index_or (slice_set block.items i value) k Unset ≡ slice_index_or block.items k Unset) ⊎ ((i ≡ k) × (slice_index_or (slice_set block.items i value) k Unset ≡ value))
          → Fits p (length core.blocks) u (read (slice_set block.items i value) k)
      at k u e (inl same) = subst (Fits p (length core.blocks) u) (sym same) (old.items k u e)
      at k u e (inr new) = let f : Some t ≡ Some u = sym is ∙ e in let g : t ≡ u = cc in subst (Fits p (length core.blocks) u) (sym new.1) (subst (λ t. Fits p (length core.blocks) t value) g h)

  put_item_fits : (pointer : Value) (block : Block) (i : ℤ) (t : LlType) (value : Value) → items_of (slice_get p.structs block.kind) ≡ Some t → Fits p (length core.blocks) t value → BlockFits p (length core.blocks) block
      → AfterFits p types core (put_item core pointer block i value)
  put_item_fits pointer block (pos i) t value is h old =
      choice_fits p types core fit (nat_lt i (length block.items)) (stored core pointer (record block { items = slice_set block.items i value })) (Stuck Outside)
      (stored_fits pointer (record block { items = slice_set block.items i value }) (items_set block i t value is h old)) tt
  put_item_fits pointer block (negsuc i) t value is h old = tt

  set_item_fits : (n : ℕ) (pointer i : Value) (x : COperand) (o : Option LlType) → items_of (slice_get p.structs n) ≡ o → given_takes p types o x ≡ true
      → AfterFits p types core (set_item core (shapes_of p.structs) n pointer i (operand core.vars x))
  set_item_fits n pointer i x None e h = absurd (cc)
  set_item_fits n pointer i x (Some t) e h =
      choice_fits p types core fit (is_unset value) (Stuck IsUnset) (on (λ i. on_block (go i) (reached core (shapes_of p.structs) n pointer)) (word_of i)) tt
      (on_fits p types core fit (λ i. on_block (go i) (reached core (shapes_of p.structs) n pointer)) (word_of i)
      (λ i. reached_fits n pointer (go i)
      (λ block there begins. put_item_fits pointer block i t value (items_are block.kind n t begins e) (operand_fits p (length core.blocks) types core.vars fit.vars t x h) (block_fits pointer block there))))
    where
      value : Value
      value = operand core.vars x

      go : ℤ → Block → After
      go i block = put_item core pointer block i value

  -- ---- new blocks, and blocks that go

  fresh_fits : (kind items more : ℕ) → kind < length p.structs → (items_of (slice_get p.structs kind) ≡ None → items ≡ 0) → BlockFits p more (record { kind = kind; fields = replicate (shape_at (shapes_of p.structs) kind).size Unset; items = replicate items Unset })
  fresh_fits kind items more lt empty = record {
    of = lt;
    none = λ e. length_unset items ∙ empty e;
    fields = record {
      count = length_unset (shape_at (shapes_of p.structs) kind).size ∙ laid.size kind;
      at = λ i t e. subst (Fits p more t) (sym (unset_at (shape_at (shapes_of p.structs) kind).size i)) tt;
    };
    items = λ i t e. subst (Fits p more t) (sym (unset_at items i)) tt;
  }

  last_fits : (block : Block) (k : ℕ) (other : Block) → BlockFits p (suc (length core.blocks)) block → (k ≡ length core.blocks) ⊎ (k ≢ length core.blocks)
      → slice_index_or (core.blocks ++ Some block ∷ []) k None ≡ Some other → BlockFits p (suc (length core.blocks)) other
  last_fits block k other h (inl e) f =
      let g : Some block ≡ Some other = sym (new_at core.blocks (Some block) None) ∙ ap (λ k. slice_index_or (core.blocks ++ Some block ∷ []) k None) (sym e) ∙ f in
      let same : block ≡ other = cc in subst (BlockFits p (suc (length core.blocks))) same h
  last_fits block k other h (inr ne) f = block_more p (length core.blocks) (suc (length core.blocks)) (omega arith) other (fit.memory.each k other (sym (old_at core.blocks (Some block) None k ne) ∙ f))

  new_fits : (a m n items : ℕ) → n < length p.structs → (items_of (slice_get p.structs n) ≡ None → items ≡ 0) → slice_get types a ≡ Some (type.Ptr m) → AfterFits p types core (new_block core (shapes_of p.structs) a n items)
  new_fits a m n items lt empty is = record {
    graph = refl;
    grows = omega (arith, length_new core.blocks (Some block));
    fits = record {
      vars = subst (λ n. AllFit p n types (slice_set core.vars a (Ptr (length core.blocks)))) (sym (length_new core.blocks (Some block)))
          (vars_set p (suc (length core.blocks)) types core.vars a (type.Ptr m) (Ptr (length core.blocks)) (all_more p (length core.blocks) (suc (length core.blocks)) (omega arith) types core.vars fit.vars) is (omega arith));
      memory = memory_more p (length core.blocks) (suc (length core.blocks)) (omega arith) core.blocks (core.blocks ++ Some block ∷ []) core.statics core.exc_type core.exc_value refl (length_new core.blocks (Some block))
          (λ k other e. last_fits block k other (fresh_fits n items (suc (length core.blocks)) lt empty) (is_new k (length core.blocks)) e) fit.memory;
    };
  }
    where
      block : Block
      block = record { kind = n; fields = replicate (shape_at (shapes_of p.structs) n).size Unset; items = replicate items Unset }

  given_items : (o : Option LlType) → is_some o ≡ true → o ≡ None → ⊥
  given_items None h e = cc
  given_items (Some t) h e = cc

  new_items_fits : (a m n : ℕ) (items : ℤ) → n < length p.structs → is_some (items_of (slice_get p.structs n)) ≡ true → slice_get types a ≡ Some (type.Ptr m) → AfterFits p types core (new_items core (shapes_of p.structs) a n items)
  new_items_fits a m n (pos items) lt some is = new_fits a m n items lt (λ e. absurd (given_items (items_of (slice_get p.structs n)) some e)) is
  new_items_fits a m n (negsuc items) lt some is = tt

  free_fits : (number : ℕ) (o : Option Block) → AfterFits p types core (free_block core number o)
  free_fits number None = tt
  free_fits number (Some block) = put_fits number None (λ block e. absurd (cc))

  freed_fits : (value : Value) → AfterFits p types core (free core value)
  freed_fits Unset = tt
  freed_fits (Ptr number) = free_fits number (slice_index_or core.blocks number None)
  freed_fits other = tt

  pub operation_fits : (args : List (List ℕ)) (o : LlOp) → operation_ok p types o ≡ true → AfterFits p types core (does p args core o)
  operation_fits args (op.GetField a n b k) h = get_field_fits a n k (read core.vars b) (field_of (slice_get p.structs n) k) refl (and_right _ _ h)
  operation_fits args (op.SetField n b k x) h = set_field_fits n k (read core.vars b) x (field_of (slice_get p.structs n) k) refl (and_right _ _ h)
  operation_fits args (op.GetItem a n b i) h = get_item_fits a n (read core.vars b) (operand core.vars i) (items_of (slice_get p.structs n)) refl (and_right _ _ h)
  operation_fits args (op.SetItem n b i x) h = set_item_fits n (read core.vars b) (operand core.vars i) x (items_of (slice_get p.structs n)) refl (and_right _ _ h)
  operation_fits args (op.New a m n) h = new_fits a m n 0 (is_less n _ (and_left _ _ (and_right _ _ (and_left _ _ h)))) (λ e. refl) (has_type_is _ _ (and_left _ _ (and_left _ _ h)))
  operation_fits args (op.NewArray a m n x) h =
      on_fits p types core fit (new_items core (shapes_of p.structs) a n) (word_of (operand core.vars x)) (λ items. new_items_fits a m n items (is_less n _ (and_left _ _ (and_right _ _ (and_left _ _ (and_left _ _ h))))) (and_right _ _ (and_left _ _ h)) (has_type_is _ _ (and_left _ _ (and_left _ _ (and_left _ _ h)))))
  operation_fits args (op.Free a) h = freed_fits (read core.vars a)
  operation_fits args (op.Call into f xs) h = tt
  operation_fits args (op.CallFn into result params b xs) h = tt
  operation_fits args (op.Raise a) h = tt
  operation_fits args other h = plain_fits p types core fit args other refl h
