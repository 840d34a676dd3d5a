-- The world that an operation acts on, and what it answers.
use Rattle.std.specs.Prelude.{ℕ, ◌-◌, nat_lt, Bool, true, false, List, [], ◌∷◌, ◌++◌, length, slice_get, slice_set, Option, Some, None, if◌then◌else◌}
use Rattle.rpy_base.specs.declared.outcome.FailName.{FailName}
use Rattle.rpy_base.specs.declared.outcome.FailName.TheVariants as fail
use Rattle.rpy_tree.specs.Value.{Value, Flag, Text, Ref, Object, Listed, Heap}
use Rattle.rpy_meaning.specs.declared.row.Covers.{Covers}
use Rattle.rpy_meaning.specs.Costs.{text_cost, list_cost}

-- the objects, what was printed, and the steps left
pub record World : Type 0 where
  pub heap : Heap
  pub out : List ℕ
  pub left : ℕ

-- An operation gives a value, throws an exception, fails, or lacks the steps that it costs. It may be a call of a function: then the
-- function's result is given, or a value instead. `Bad` answers values that no operation is for.
pub data Answer : Type 0 where
  Gives : Value → World → Answer
  Throws : (exception : ℕ) → World → Answer
  Fails : FailName → Answer
  Lacks : Answer
  Enters : (function : ℕ) → (args : List Value) → (instead : Option Value) → World → Answer
  Bad : Answer

abbrev pub Op : Type 0
Op = World → Answer

abbrev pub bad : Op
bad = λ w. Bad

abbrev pub give : Value → Op
give v = λ w. Gives v w

abbrev pub throw : ℕ → Op
throw exception = λ w. Throws exception w

abbrev pub flag : Bool → Op
flag b = give (Flag b)

abbrev pub flag_if_any : Option Bool → Op
flag_if_any None = bad
flag_if_any (Some b) = flag b

-- pays a cost before what it is for
abbrev pub paying : ℕ → Op → Op
paying cost go = λ w. if nat_lt w.left cost then Lacks else go (record w { left = w.left - cost })

abbrev pub write : List ℕ → Value → Op
write text v = λ w. Gives v (record w { out = w.out ++ text })

-- ---- objects

abbrev pub new_object : Object → Op
new_object object = λ w. Gives (Ref (length w.heap)) (record w { heap = w.heap ++ object ∷ [] })

-- an object that stands in the place of another, and the value that is given then
abbrev pub set_object : ℕ → Object → Value → Op
set_object r object v = λ w. Gives v (record w { heap = slice_set w.heap r object })

-- what is done with the object of a reference
abbrev pub at_object : ℕ → (Option Object → Op) → Op
at_object r f = λ w. f (slice_get w.heap r) w

abbrev pub on_list : (List Value → Op) → Option Object → Op
on_list f (Some (Listed vs)) = f vs
on_list f other = bad

abbrev pub with_list : ℕ → (List Value → Op) → Op
with_list r f = at_object r (on_list f)

abbrev pub new_text : List ℕ → Op
new_text text = paying (text_cost (length text)) (give (Text text))

abbrev pub new_list : List Value → Op
new_list vs = paying (list_cost (length vs)) (new_object (Listed vs))

-- ---- failures

-- a failure of a class: it is raised where the operation is covered for the class. The one instance of a builtin exception class is the
-- object with the number of the class
abbrev pub failure : Bool → ℕ → FailName → Op
failure true class name = throw class
failure false class name = λ w. Fails name

abbrev pub index_error : Covers → Op
index_error c = failure c.index 6 fail.Index

abbrev pub division_error : Covers → Op
division_error c = failure c.zero 4 fail.ZeroDivision

abbrev pub value_error : Covers → Op
value_error c = failure c.number 8 fail.Value

abbrev pub attribute_error : Covers → Op
attribute_error c = failure c.attribute 9 fail.Attribute

-- a slice bound, or the place of an insertion, that wrapped below zero
abbrev pub negative_slice : Op
negative_slice = λ w. Fails fail.NegativeSlice

-- what is raised whether it is covered or not
abbrev pub overflow : Op
overflow = throw 3

abbrev pub no_key : Op
no_key = throw 7

abbrev pub no_number : Op
no_number = throw 8

-- what is done with what is there
abbrev pub if_some : {A : Type 0} → Op → Option A → (A → Op) → Op
if_some missing None f = missing
if_some missing (Some a) f = f a
