-- Each statement keeps a watcher in step with the blocks, once it was told.
use Rattle.std.proofs.Common.{◌≡◌, ℕ, zero, suc, ◌+◌, Bool, true, false, cond, List, [], ◌∷◌, length, map, get_or, set, replicate, refl, sym, ap, ◌∙◌, Some, None, Ok, Err, subst, pos, negsuc, ◌||◌, ◌&&◌}
use Rattle.std.specs.Prelude.{Option, Result, IfSome, IsSome, is_some, option_map, nat_lt, nat_le, slice_get, ℤ}
use Rattle.std.proofs.lemmas.List.{length-set}
use Rattle.rpy_base.specs.Watching.{Seen}
use Rattle.rpy_base.specs.declared.outcome.FailName.{FailName}
use Rattle.csub_tree.specs.State.{Value, Unset, Word, Byte, Flag, Fun, Null, Ptr, Static, Block, Caller, Core, Made, Freed, After, Onward, Puts, Told, Over, Stuck}
use Rattle.csub_tree.specs.Operation.{Answer, word_of, flag_of, is_unset, unary_of, binary_of}
use Rattle.csub_tree.specs.Layout.{Shape, shape_at, place, shapes_of}
use Rattle.csub_tree.specs.Statement.{read, operand, operands, any_unset, block_at, on, on_block, reached, answered, item, put_item, stored, fun_of, same_result, same_types, last_of, argument, byte_in, bytes_of, fail_name_of, type_in, set as set_var, new_block, new_items, free_block, free, pay_steps, enter, call_value, enter_as, in_range, put_word, back_to, give_back, fail, raised_as, raised}
use Rattle.csub_tree.specs.Machine.{does, does_at, step, stmt_at}
use Rattle.csub_tree.specs.declared.stuck.StuckReason.{StuckReason}
use Rattle.csub_tree.specs.declared.tree.CFile.{CFile}
use Rattle.csub_tree.specs.declared.tree.CType.{CType}
use Rattle.csub_tree.specs.declared.tree.CType.TheVariants.{Signed, Char, Bool as CBool, Fn, Ptr as CPtr}
use Rattle.csub_tree.specs.declared.tree.COperand.{COperand}
use Rattle.csub_tree.specs.declared.tree.CFunction.{CFunction}
use Rattle.csub_tree.specs.declared.tree.CStmt.{CStmt}
use Rattle.csub_tree.specs.declared.tree.CStmt.TheVariants.{Set, Unary, Binary, GetField, SetField, GetItem, SetItem, New, NewArray, Free, Step, Call, CallFn, ExcType, ExcValue, ExcSet, ExcClear, Argc, ArgLen, Arg, Put, Goto, If, Return, Fail, Raised}
use Rattle.csub_runner.specs.Synced.{Synced, numbers_from, gone_among, number_of}
use Rattle.csub_runner.specs.Run.{told}
use Rattle.csub_runner.proofs.InStep.{made_synced, gone_synced}
use Rattle.csub_runner.proofs.Reached.{reached_block}

abbrev pub Good : Core → After → Type 0
Good core (Onward next) = (s : Seen) → Synced core.blocks s → Synced next.blocks s
Good core (Puts byte next) = (s : Seen) → Synced core.blocks s → Synced next.blocks s
Good core (Told (Made number kind cells) next) = (number ≡ length core.blocks) × ((s : Seen) → Synced core.blocks s → Synced next.blocks (told (Made number kind cells) s))
Good core (Told (Freed number) next) = IsSome (get_or core.blocks number None) × ((s : Seen) → Synced core.blocks s → Synced next.blocks (told (Freed number) s))
Good core (Over outcome next) = Unit {0}
Good core (Stuck reason) = Unit {0}

module _ {X : Type 0} where
  some_numbers : (i k : ℕ) (blocks : List (Option X)) (x : X) → IsSome (get_or blocks k None) → numbers_from i (set blocks k (Some x)) ≡ numbers_from i blocks
  some_numbers i k [] x h = absurd (cc)
  some_numbers i zero (None ∷ blocks) x h = absurd (cc)
  some_numbers i zero (Some c ∷ blocks) x h = refl
  some_numbers i (suc k) (None ∷ blocks) x h = some_numbers (i + 1) k blocks x h
  some_numbers i (suc k) (Some c ∷ blocks) x h = ap (λ ns. i ∷ ns) (some_numbers (i + 1) k blocks x h)

  some_gone_same : (k : ℕ) (blocks : List (Option X)) (x : X) → IsSome (get_or blocks k None) → gone_among (set blocks k (Some x)) ≡ gone_among blocks
  some_gone_same k [] x h = absurd (cc)
  some_gone_same zero (None ∷ blocks) x h = absurd (cc)
  some_gone_same zero (Some c ∷ blocks) x h = refl
  some_gone_same (suc k) (None ∷ blocks) x h = ap (λ n. n + 1) (some_gone_same k blocks x h)
  some_gone_same (suc k) (Some c ∷ blocks) x h = some_gone_same k blocks x h

  some_synced : (k : ℕ) (blocks : List (Option X)) (x : X) → IsSome (get_or blocks k None) → (s : Seen) → Synced blocks s → Synced (set blocks k (Some x)) s
  some_synced k blocks x h s y = record {
    made = y.made ∙ sym (length-set blocks k (Some x));
    gone = y.gone ∙ sym (some_gone_same k blocks x h);
    live = subst (λ ns. IfSome s.live (λ live. map number_of live ≡ ns)) (sym (some_numbers 0 k blocks x h)) y.live;
  }

module _ (core : Core) where
  cond_good : (t : Bool) (a b : After) → Good core a → Good core b → Good core (cond t a b)
  cond_good true a b g h = g
  cond_good false a b g h = h

  on_good : {X : Type 0} (go : X → After) (o : Option X) → ((x : X) → Good core (go x)) → Good core (on go o)
  on_good go None g = tt
  on_good go (Some x) g = g x

  on_block_good : (go : Block → After) (r : Result Block StuckReason) → ((b : Block) → r ≡ Ok b → Good core (go b)) → Good core (on_block go r)
  on_block_good go (Ok b) g = g b refl
  on_block_good go (Err reason) g = tt

  same_good : (next : Core) → next.blocks ≡ core.blocks → Good core (Onward next)
  same_good next e = λ s h. subst (λ bs. Synced bs s) (sym e) h

  answered_good : (a : ℕ) (r : Answer) → Good core (answered core a r)
  answered_good a (Ok v) = λ s h. h
  answered_good a (Err reason) = tt

  set_good : (a : ℕ) (v : Value) → Good core (set_var core a v)
  set_good a v = cond_good (is_unset v) _ _ tt (λ s h. h)

  there : (o : Option Block) (b : Block) → o ≡ Some b → IsSome o
  there o b e = ap is_some e

  stored_good : (pointer : Value) (b now : Block) → block_at core pointer ≡ Some b → Good core (stored core pointer now)
  stored_good Unset b now e = tt
  stored_good (Word n) b now e = tt
  stored_good (Byte n) b now e = tt
  stored_good (Flag n) b now e = tt
  stored_good (Fun n) b now e = tt
  stored_good Null b now e = tt
  stored_good (Ptr n) b now e = some_synced n core.blocks now (there (get_or core.blocks n None) b e)
  stored_good (Static g) b now e = λ s h. h

  item_good : (a : ℕ) (items : List Value) (i : ℤ) → Good core (item core a items i)
  item_good a items (pos i) = cond_good (nat_lt i (length items)) _ _ (set_good a (read items i)) tt
  item_good a items (negsuc i) = tt

  put_item_good : (pointer : Value) (b : Block) (i : ℤ) (x : Value) → block_at core pointer ≡ Some b → Good core (put_item core pointer b i x)
  put_item_good pointer b (pos i) x e = cond_good (nat_lt i (length b.items)) _ _ (stored_good pointer b (record b { items = set b.items i x }) e) tt
  put_item_good pointer b (negsuc i) x e = tt

  new_good : (shapes : List Shape) (a n items : ℕ) → Good core (new_block core shapes a n items)
  new_good shapes a n items = (refl, made_synced core.blocks n ((shape_at shapes n).size + items) (record { kind = n; fields = replicate (shape_at shapes n).size Unset; items = replicate items Unset }))

  new_items_good : (shapes : List Shape) (a n : ℕ) (x : ℤ) → Good core (new_items core shapes a n x)
  new_items_good shapes a n (pos k) = new_good shapes a n k
  new_items_good shapes a n (negsuc k) = tt

  free_block_good : (n : ℕ) (o : Option Block) → get_or core.blocks n None ≡ o → Good core (free_block core n o)
  free_block_good n None e = tt
  free_block_good n (Some b) e = (there (get_or core.blocks n None) b e, gone_synced core.blocks n (there (get_or core.blocks n None) b e))

  free_good : (v : Value) → Good core (free core v)
  free_good Unset = tt
  free_good (Word n) = tt
  free_good (Byte n) = tt
  free_good (Flag n) = tt
  free_good (Fun n) = tt
  free_good Null = tt
  free_good (Ptr n) = free_block_good n (get_or core.blocks n None) refl
  free_good (Static g) = tt

  pay_good : (x : ℤ) → Good core (pay_steps core x)
  pay_good (pos n) = cond_good (nat_le n core.steps) _ _ (λ s h. h) tt
  pay_good (negsuc n) = tt

  enter_good : (into : Option ℕ) (f : ℕ) (values : List Value) (o : Option CFunction) → Good core (enter core into f values o)
  enter_good into f values None = tt
  enter_good into f values (Some function) = λ s h. h

  enter_as_good : (into : Option ℕ) (result : Option CType) (params : List CType) (f : ℕ) (values : List Value) (o : Option CFunction) → Good core (enter_as core into result params f values o)
  enter_as_good into result params f values None = tt
  enter_as_good into result params f values (Some function) = cond_good (same_result function.result result && same_types function.params params) _ _ (λ s h. h) tt

  call_value_good : (functions : List CFunction) (into : Option ℕ) (result : Option CType) (params : List CType) (o : Option ℕ) (values : List Value) → Good core (call_value functions core into result params o values)
  call_value_good functions into result params None values = tt
  call_value_good functions into result params (Some f) values = enter_as_good into result params f values (slice_get functions f)

  back_good : (v : Value) (o : Option Caller) → Good core (back_to core v o)
  back_good v None = on_good _ (word_of v) (λ n. tt)
  back_good v (Some c) = λ s h. h

  give_back_good : (x : Option COperand) → Good core (give_back core x)
  give_back_good None = back_good Unset (last_of core.callers)
  give_back_good (Some x) = cond_good (is_unset (operand core.vars x)) _ _ tt (back_good (operand core.vars x) (last_of core.callers))

  in_range_good : (a : ℕ) (o : Option ℕ) → Good core (in_range core a o)
  in_range_good a None = tt
  in_range_good a (Some n) = λ s h. h

  put_word_good : (x : ℤ) → Good core (put_word core x)
  put_word_good (pos n) = cond_good (nat_lt n 256) _ _ (λ s h. h) tt
  put_word_good (negsuc n) = tt

  fail_good : (o : Option FailName) → Good core (fail core o)
  fail_good None = tt
  fail_good (Some name) = tt

  raised_as_good : (o : Option (List ℕ)) → Good core (raised_as core o)
  raised_as_good None = tt
  raised_as_good (Some name) = tt

  raised_good : (shapes : List Shape) (t : Option CType) (v : Value) → Good core (raised core shapes t v)
  raised_good shapes None v = tt
  raised_good shapes (Some Signed) v = tt
  raised_good shapes (Some Char) v = tt
  raised_good shapes (Some CBool) v = tt
  raised_good shapes (Some Fn) v = tt
  raised_good shapes (Some (CPtr n)) v = on_block_good _ (reached core shapes n v) (λ b e. raised_as_good (bytes_of b.items))

  does_good : (file : CFile) (args : List (List ℕ)) (stmt : CStmt) → Good core (does file args core stmt)
  does_good file args (Set a x) = set_good a (operand core.vars x)
  does_good file args (Unary a op x) = answered_good a (unary_of op (operand core.vars x))
  does_good file args (Binary a op x y) = answered_good a (binary_of op (operand core.vars x) (operand core.vars y))
  does_good file args (GetField a n b k) = on_block_good _ (reached core (shapes_of file.structs) n (read core.vars b)) (λ c e. set_good a (read c.fields (place (shape_at (shapes_of file.structs) n) k)))
  does_good file args (SetField n b k x) = cond_good (is_unset (operand core.vars x)) _ _ tt
      (on_block_good _ (reached core (shapes_of file.structs) n (read core.vars b)) (λ c e. stored_good (read core.vars b) c _ (reached_block core (shapes_of file.structs) n (read core.vars b) c e)))
  does_good file args (GetItem a n b i) = on_good _ (word_of (operand core.vars i)) (λ j. on_block_good _ (reached core (shapes_of file.structs) n (read core.vars b)) (λ c e. item_good a c.items j))
  does_good file args (SetItem n b i x) = cond_good (is_unset (operand core.vars x)) _ _ tt
      (on_good _ (word_of (operand core.vars i)) (λ j. on_block_good _ (reached core (shapes_of file.structs) n (read core.vars b))
      (λ c e. put_item_good (read core.vars b) c j (operand core.vars x) (reached_block core (shapes_of file.structs) n (read core.vars b) c e))))
  does_good file args (New a cast n) = new_good (shapes_of file.structs) a n 0
  does_good file args (NewArray a cast n x) = on_good _ (word_of (operand core.vars x)) (new_items_good (shapes_of file.structs) a n)
  does_good file args (Free a) = free_good (read core.vars a)
  does_good file args (Step x) = on_good _ (word_of (operand core.vars x)) pay_good
  does_good file args (Call into f xs) = cond_good (any_unset (operands core.vars xs)) _ _ tt (enter_good into f (operands core.vars xs) (slice_get file.functions f))
  does_good file args (CallFn into result params b xs) = cond_good (is_unset (read core.vars b) || any_unset (operands core.vars xs)) _ _ tt
      (call_value_good file.functions into result params (fun_of (read core.vars b)) (operands core.vars xs))
  does_good file args (ExcType a cast) = λ s h. h
  does_good file args (ExcValue a cast) = λ s h. h
  does_good file args (ExcSet a b) = cond_good (is_unset (read core.vars a) || is_unset (read core.vars b)) _ _ tt (λ s h. h)
  does_good file args ExcClear = λ s h. h
  does_good file args (Argc a) = λ s h. h
  does_good file args (ArgLen a x) = on_good _ (word_of (operand core.vars x)) (λ i. in_range_good a (option_map length (argument args i)))
  does_good file args (Arg a x y) = on_good _ (word_of (operand core.vars x)) (λ i. on_good _ (word_of (operand core.vars y)) (λ j. in_range_good a (byte_in (argument args i) j)))
  does_good file args (Put x) = on_good _ (word_of (operand core.vars x)) put_word_good
  does_good file args (Goto block) = λ s h. h
  does_good file args (If a there elsewhere) = on_good _ (flag_of (read core.vars a)) (λ b s h. h)
  does_good file args (Return x) = give_back_good x
  does_good file args (Fail number) = fail_good (fail_name_of number)
  does_good file args (Raised a) = raised_good (shapes_of file.structs) (type_in (slice_get file.functions core.function) a) (read core.vars a)

  does_at_good : (file : CFile) (args : List (List ℕ)) (o : Option CStmt) → Good core (does_at file args core o)
  does_at_good file args None = tt
  does_at_good file args (Some stmt) = does_good file args stmt

  -- each step of the machine is good
  pub step_good : (file : CFile) (args : List (List ℕ)) → Good core (step file args core)
  step_good file args = does_at_good file args (stmt_at file.functions core)
