-- What each statement does. One that could be stuck for several reasons is stuck for the first of these: a variable that is unset, a
-- block that is gone, another struct, an index outside, a field or an item that is unset, and last a reason of its own. In a file that
-- keeps its rules each number is declared and each value has the type that is asked; elsewhere a value of another kind counts as
-- unset, and what is not declared as outside.
use Rattle.std.specs.Prelude.{ℕ, zero, suc, ◌+◌, ◌-◌, ℤ, pos, negsuc, List, [], ◌∷◌, ◌++◌, length, take, map, replicate, slice_index_or, slice_get, slice_set, Option, Some, None, Result, Ok, Err, option_map, Bool, true, false, cond, ◌==◌, ◌&&◌, ◌||◌, nat_lt, nat_le}
use Rattle.rpy_base.specs.declared.outcome.Outcome.TheVariants.{Returned, Raised as RaisedAs, Failed, Running}
use Rattle.rpy_base.specs.declared.outcome.FailName.{FailName}
use Rattle.rpy_base.specs.declared.outcome.FailName.TheVariants.{Index, ZeroDivision, Value as ValueFails, Attribute, NegativeSlice}
use Rattle.csub_tree.specs.State.{Value, Unset, Word, Fun, Null, Ptr, Static, Block, Caller, Core, Made, Freed, After, Onward, Puts, Told, Over, Stuck}
use Rattle.csub_tree.specs.Layout.{Shape, shape_at, begins_with, place, constant}
use Rattle.csub_tree.specs.Operation.{Answer, word_of, flag_of, byte_of, is_unset, unary_of, binary_of}
use Rattle.csub_tree.specs.declared.stuck.StuckReason.{StuckReason}
use Rattle.csub_tree.specs.declared.stuck.StuckReason.TheVariants.{Gone, Kind, Outside, Unset as IsUnset, BadFree, Signature, Word as BadWord, Length, Cost, Argument}
use Rattle.csub_tree.specs.declared.tree.COperand.{COperand}
use Rattle.csub_tree.specs.declared.tree.COperand.TheVariants.{Var, Const}
use Rattle.csub_tree.specs.declared.tree.CUnary.{CUnary}
use Rattle.csub_tree.specs.declared.tree.CBinary.{CBinary}
use Rattle.csub_tree.specs.declared.tree.CType.{CType}
use Rattle.csub_tree.specs.declared.tree.CType.TheVariants.{Signed, Char, Bool as CBool, Fn, Ptr as CPtr}
use Rattle.csub_tree.specs.declared.tree.CFunction.{CFunction}

-- ---- reading

abbrev pub read : List Value → ℕ → Value
read vars a = slice_index_or vars a Unset

abbrev pub operand : List Value → COperand → Value
operand vars (Var a) = read vars a
operand vars (Const c) = constant c

abbrev pub operands : List Value → List COperand → List Value
operands vars xs = map (operand vars) xs

abbrev pub any_unset : List Value → Bool
any_unset [] = false
any_unset (value ∷ values) = is_unset value || any_unset values

-- the block or static that a pointer names, where it is there
abbrev pub block_at : Core → Value → Option Block
block_at core (Ptr number) = slice_index_or core.blocks number None
block_at core (Static g) = slice_get core.statics g
block_at core value = None

-- ---- going on

abbrev pub onward : Core → After
onward core = Onward (record core { at = core.at + 1 })

abbrev pub assigned : Core → ℕ → Value → After
assigned core a value = Onward (record core { at = core.at + 1; vars = slice_set core.vars a value })

abbrev pub set : Core → ℕ → Value → After
set core a value = cond (is_unset value) (Stuck IsUnset) (assigned core a value)

-- what is done with an operand, seen as what is asked
abbrev pub on : {X : Type 0} → (X → After) → Option X → After
on go None = Stuck IsUnset
on go (Some x) = go x

abbrev pub answered : Core → ℕ → Answer → After
answered core a (Ok value) = assigned core a value
answered core a (Err reason) = Stuck reason

abbrev pub unary : Core → ℕ → CUnary → Value → After
unary core a op x = answered core a (unary_of op x)

abbrev pub binary : Core → ℕ → CBinary → Value → Value → After
binary core a op x y = answered core a (binary_of op x y)

-- ---- blocks

-- the block, where it is struct n or begins with it
abbrev pub as_struct : List Shape → ℕ → Option Block → Result Block StuckReason
as_struct shapes n None = Err Gone
as_struct shapes n (Some block) = cond (begins_with shapes block.kind n) (Ok block) (Err Kind)

-- the block that a pointer names, seen as struct n
abbrev pub reached : Core → List Shape → ℕ → Value → Result Block StuckReason
reached core shapes n pointer = cond (is_unset pointer) (Err IsUnset) (as_struct shapes n (block_at core pointer))

abbrev pub on_block : (Block → After) → Result Block StuckReason → After
on_block go (Ok block) = go block
on_block go (Err reason) = Stuck reason

abbrev pub get_field : Core → List Shape → ℕ → ℕ → Value → ℕ → After
get_field core shapes a n pointer k = on_block (λ block. set core a (read block.fields (place (shape_at shapes n) k))) (reached core shapes n pointer)

-- the state with this block in the place of the one that the pointer names
abbrev pub stored : Core → Value → Block → After
stored core (Ptr number) block = Onward (record core { at = core.at + 1; blocks = slice_set core.blocks number (Some block) })
stored core (Static g) block = Onward (record core { at = core.at + 1; statics = slice_set core.statics g block })
stored core pointer block = Stuck Gone

abbrev pub set_field : Core → List Shape → ℕ → Value → ℕ → Value → After
set_field core shapes n pointer k x = cond (is_unset x) (Stuck IsUnset)
    (on_block (λ block. stored core pointer (record block { fields = slice_set block.fields (place (shape_at shapes n) k) x })) (reached core shapes n pointer))

abbrev pub item : Core → ℕ → List Value → ℤ → After
item core a items (pos i) = cond (nat_lt i (length items)) (set core a (read items i)) (Stuck Outside)
item core a items (negsuc i) = Stuck Outside

abbrev pub get_item : Core → List Shape → ℕ → ℕ → Value → Value → After
get_item core shapes a n pointer i = on (λ i. on_block (λ block. item core a block.items i) (reached core shapes n pointer)) (word_of i)

abbrev pub put_item : Core → Value → Block → ℤ → Value → After
put_item core pointer block (pos i) x = cond (nat_lt i (length block.items)) (stored core pointer (record block { items = slice_set block.items i x })) (Stuck Outside)
put_item core pointer block (negsuc i) x = Stuck Outside

abbrev pub set_item : Core → List Shape → ℕ → Value → Value → Value → After
set_item core shapes n pointer i x = cond (is_unset x) (Stuck IsUnset)
    (on (λ i. on_block (λ block. put_item core pointer block i x) (reached core shapes n pointer)) (word_of i))

-- a block's number is the count of those made before it
abbrev pub new_block : Core → List Shape → ℕ → ℕ → ℕ → After
new_block core shapes a n items = Told (Made (length core.blocks) n ((shape_at shapes n).size + items)) (record core {
  at = core.at + 1;
  vars = slice_set core.vars a (Ptr (length core.blocks));
  blocks = core.blocks ++ Some (record { kind = n; fields = replicate (shape_at shapes n).size Unset; items = replicate items Unset }) ∷ [];
})

abbrev pub new_items : Core → List Shape → ℕ → ℕ → ℤ → After
new_items core shapes a n (pos items) = new_block core shapes a n items
new_items core shapes a n (negsuc items) = Stuck Length

abbrev pub new_array : Core → List Shape → ℕ → ℕ → Value → After
new_array core shapes a n x = on (new_items core shapes a n) (word_of x)

abbrev pub free_block : Core → ℕ → Option Block → After
free_block core number None = Stuck BadFree
free_block core number (Some block) = Told (Freed number) (record core { at = core.at + 1; blocks = slice_set core.blocks number None })

abbrev pub free : Core → Value → After
free core Unset = Stuck IsUnset
free core (Ptr number) = free_block core number (slice_index_or core.blocks number None)
free core other = Stuck BadFree

-- ---- steps and exception slots

abbrev pub pay_steps : Core → ℤ → After
pay_steps core (pos cost) = cond (nat_le cost core.steps) (Onward (record core { at = core.at + 1; steps = core.steps - cost })) (Over Running core)
pay_steps core (negsuc cost) = Stuck Cost

abbrev pub pay : Core → Value → After
pay core x = on (pay_steps core) (word_of x)

abbrev pub exc_set : Core → Value → Value → After
exc_set core type value = cond (is_unset type || is_unset value) (Stuck IsUnset) (Onward (record core { at = core.at + 1; exc_type = type; exc_value = value }))

abbrev pub exc_clear : Core → After
exc_clear core = Onward (record core { at = core.at + 1; exc_type = Null; exc_value = Null })

-- ---- calls

-- a call: the caller waits, and the values stand in the first variables of the function
abbrev pub entered : Core → Option ℕ → ℕ → List Value → CFunction → Core
entered core into f values function = record core {
  function = f;
  block = 0;
  at = 0;
  vars = values ++ replicate (length function.locals) Unset;
  callers = core.callers ++ record { function = core.function; block = core.block; at = core.at + 1; vars = core.vars; into = into } ∷ [];
}

abbrev pub enter : Core → Option ℕ → ℕ → List Value → Option CFunction → After
enter core into f values None = Stuck Outside
enter core into f values (Some function) = Onward (entered core into f values function)

abbrev pub call : Core → Option ℕ → ℕ → List Value → Option CFunction → After
call core into f values function = cond (any_unset values) (Stuck IsUnset) (enter core into f values function)

abbrev pub same_type : CType → CType → Bool
same_type Signed Signed = true
same_type Char Char = true
same_type CBool CBool = true
same_type Fn Fn = true
same_type (CPtr m) (CPtr n) = m == n
same_type s t = false

abbrev pub same_types : List CType → List CType → Bool
same_types [] [] = true
same_types (s ∷ ss) (t ∷ ts) = same_type s t && same_types ss ts
same_types ss ts = false

abbrev pub same_result : Option CType → Option CType → Bool
same_result None None = true
same_result (Some s) (Some t) = same_type s t
same_result s t = false

abbrev pub enter_as : Core → Option ℕ → Option CType → List CType → ℕ → List Value → Option CFunction → After
enter_as core into result params f values None = Stuck Signature
enter_as core into result params f values (Some function) =
    cond (same_result function.result result && same_types function.params params) (Onward (entered core into f values function)) (Stuck Signature)

abbrev pub fun_of : Value → Option ℕ
fun_of (Fun f) = Some f
fun_of other = None

abbrev pub call_value : List CFunction → Core → Option ℕ → Option CType → List CType → Option ℕ → List Value → After
call_value functions core into result params None values = Stuck Signature
call_value functions core into result params (Some f) values = enter_as core into result params f values (slice_get functions f)

abbrev pub call_fn : List CFunction → Core → Option ℕ → Option CType → List CType → Value → List Value → After
call_fn functions core into result params value values = cond (is_unset value || any_unset values) (Stuck IsUnset) (call_value functions core into result params (fun_of value) values)

-- the innermost caller
abbrev pub last_of : List Caller → Option Caller
last_of callers = slice_get callers (length callers - 1)

abbrev pub taken_by : List Value → Option ℕ → Value → List Value
taken_by vars None value = vars
taken_by vars (Some a) value = slice_set vars a value

-- out of the first call, which ends the run
abbrev pub ended : Core → Value → After
ended core value = on (λ n. Over (Returned n) (record core { vars = [] })) (word_of value)

-- back to who waits
abbrev pub back_to : Core → Value → Option Caller → After
back_to core value None = ended core value
back_to core value (Some caller) = Onward (record core {
  function = caller.function;
  block = caller.block;
  at = caller.at;
  vars = taken_by caller.vars caller.into value;
  callers = take (length core.callers - 1) core.callers;
})

abbrev pub back_with : Core → Value → After
back_with core value = cond (is_unset value) (Stuck IsUnset) (back_to core value (last_of core.callers))

abbrev pub give_back : Core → Option COperand → After
give_back core None = back_to core Unset (last_of core.callers)
give_back core (Some x) = back_with core (operand core.vars x)

abbrev pub goes_to : Core → ℕ → After
goes_to core block = Onward (record core { block = block; at = 0 })

abbrev pub branch : Core → Value → ℕ → ℕ → After
branch core test there elsewhere = on (λ b. goes_to core (cond b there elsewhere)) (flag_of test)

-- ---- the outside

abbrev pub argument : List (List ℕ) → ℤ → Option (List ℕ)
argument args (pos i) = slice_get args i
argument args (negsuc i) = None

abbrev pub byte_in : Option (List ℕ) → ℤ → Option ℕ
byte_in None j = None
byte_in (Some text) (pos j) = slice_get text j
byte_in (Some text) (negsuc j) = None

abbrev pub in_range : Core → ℕ → Option ℕ → After
in_range core a None = Stuck Argument
in_range core a (Some n) = assigned core a (Word (pos n))

abbrev pub arg_len : Core → List (List ℕ) → ℕ → Value → After
arg_len core args a i = on (λ i. in_range core a (option_map length (argument args i))) (word_of i)

abbrev pub arg : Core → List (List ℕ) → ℕ → Value → Value → After
arg core args a i j = on (λ i. on (λ j. in_range core a (byte_in (argument args i) j)) (word_of j)) (word_of i)

abbrev pub put_word : Core → ℤ → After
put_word core (pos byte) = cond (nat_lt byte 256) (Puts byte (record core { at = core.at + 1 })) (Stuck BadWord)
put_word core (negsuc n) = Stuck BadWord

abbrev pub put_byte : Core → Value → After
put_byte core x = on (put_word core) (word_of x)

abbrev pub fail_name_of : ℕ → Option FailName
fail_name_of (suc zero) = Some Index
fail_name_of (suc (suc zero)) = Some ZeroDivision
fail_name_of (suc (suc (suc zero))) = Some ValueFails
fail_name_of (suc (suc (suc (suc zero)))) = Some Attribute
fail_name_of (suc (suc (suc (suc (suc zero))))) = Some NegativeSlice
fail_name_of other = None

abbrev pub fail : Core → Option FailName → After
fail core None = Stuck Outside
fail core (Some name) = Over (Failed name) core

abbrev pub before : Option ℕ → Option (List ℕ) → Option (List ℕ)
before None bytes = None
before (Some byte) None = None
before (Some byte) (Some bytes) = Some (byte ∷ bytes)

-- the bytes that these items hold, where each is set
abbrev pub bytes_of : List Value → Option (List ℕ)
bytes_of [] = Some []
bytes_of (item ∷ items) = before (byte_of item) (bytes_of items)

abbrev pub raised_as : Core → Option (List ℕ) → After
raised_as core None = Stuck IsUnset
raised_as core (Some name) = Over (RaisedAs name) core

-- the type of a variable
abbrev pub type_in : Option CFunction → ℕ → Option CType
type_in None a = None
type_in (Some function) a = slice_get (function.params ++ function.locals) a

abbrev pub raised : Core → List Shape → Option CType → Value → After
raised core shapes (Some (CPtr n)) pointer = on_block (λ block. raised_as core (bytes_of block.items)) (reached core shapes n pointer)
raised core shapes other pointer = Stuck Outside
