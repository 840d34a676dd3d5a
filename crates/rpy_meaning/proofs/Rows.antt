-- Worked runs, which compute.
use Rattle.std.proofs.Common.{◌≡◌, ℕ, List, [], ◌∷◌, Some, None, codes, refl}
use Rattle.std.specs.Prelude.{pos, true, false}
use Rattle.std.specs.Fmt.{digits}
use Rattle.std.specs.Int.{int_wrap}
use Rattle.rpy_base.specs.declared.outcome.Outcome.TheVariants.{Returned, Raised, Failed, Running}
use Rattle.rpy_base.specs.declared.outcome.FailName.TheVariants as fail
use Rattle.rpy_tree.specs.declared.syntax.BinOp.TheVariants.{Add, Mul, FloorDiv, Mod}
use Rattle.rpy_tree.specs.declared.syntax.CmpOp.TheVariants.{Lt, Gt}
use Rattle.rpy_meaning.specs.declared.row.RowOp.TheVariants as row
use Rattle.rpy_tree.specs.Value.{Text, Fun, Ref, Mapped}
use Rattle.rpy_meaning.specs.Tree.{Expr, Local, Constant, Apply, Display, Comprehension, none, Over, UpTo, Where, Name, Attribute, Item, Parts, no_targets, more_targets, Stmt, Return, Do, Assign, Augment, If, While, For, Try, Finally, Block, done, line, no_clauses, clause, Class, Program}
use Rattle.rpy_meaning.specs.Meaning.{mean}
use Rattle.rpy_meaning.specs.Moments.{held_by, moment}
use Rattle.rpy_meaning.proofs.Build.{exprs, lines, targets, pairs, num, minus, text, apply_one, apply_two, binary, compare, index, call, new, list, len, print, raise, set, function, builtins, program, alone, running}

-- return 0
returns : running (alone (Return (num 0) ∷ [])) 1 ≡ (Some (Returned (pos 0)), [], 0)
returns = refl

-- print 9223372036854775807 + 1
wraps : running (alone (print (binary Add (num 9223372036854775807) (num 1) ∷ []) ∷ Return (num 0) ∷ [])) 1
    ≡ (Some (Returned (pos 0)), codes "-9223372036854775808\n", 0)
unfolding digits int_wrap
wraps = refl

-- try: x = ovfcheck(9223372036854775807 + 1)
overflows : running (alone (
    Try (lines (set 1 (apply_two (row.Checked Add) (num 9223372036854775807) (num 1)) ∷ []))
    (clause (Some (3 ∷ [])) None (lines (print (text (codes "ovf") ∷ []) ∷ Return (num 1) ∷ [])) no_clauses)
    done
    ∷ Return (Local 1) ∷ [])) 1
    ≡ (Some (Returned (pos 1)), codes "ovf\n", 0)
unfolding int_wrap
overflows = refl

-- print -7 // 2, -7 % 2, 7 % -2
floors : running (alone (print (binary FloorDiv (minus 7) (num 2) ∷ binary Mod (minus 7) (num 2) ∷ binary Mod (num 7) (minus 2) ∷ []) ∷ Return (num 0) ∷ [])) 1
    ≡ (Some (Returned (pos 0)), codes "-4 1 -1\n", 0)
unfolding digits int_wrap
floors = refl

-- l = [1, 2]; print l[5]
outside : running (alone (set 1 (list (num 1 ∷ num 2 ∷ [])) ∷ print (index (Local 1) (num 5) ∷ []) ∷ Return (num 0) ∷ [])) 10
    ≡ (Some (Failed fail.Index), [], 6)
outside = refl

-- the same in a `try` with `except IndexError`
outside_covered : running (alone (
    set 1 (list (num 1 ∷ num 2 ∷ []))
    ∷ Try (lines (print (index (Local 1) (num 5) ∷ []) ∷ []))
    (clause (Some (6 ∷ [])) None (lines (print (text (codes "no") ∷ []) ∷ [])) no_clauses)
    done
    ∷ Return (num 0) ∷ [])) 10
    ≡ (Some (Returned (pos 0)), codes "no\n", 6)
outside_covered = refl

-- i = 0; while i < 3: l = [i, i]; i += 1
looping : Program
looping = alone (
    set 1 (num 0)
    ∷ While (compare Lt (Local 1) (num 3)) (lines (set 2 (list (Local 1 ∷ Local 1 ∷ [])) ∷ Augment (Name 1) row.AddTo (num 1) ∷ []))
    ∷ Return (Local 1) ∷ [])

turns_paid : running looping 13 ≡ (Some (Returned (pos 3)), [], 0)
unfolding looping int_wrap
turns_paid = refl

turns_not_paid : running looping 12 ≡ (Some Running, [], 2)
unfolding looping int_wrap
turns_not_paid = refl

-- def f(a, b, c): return len(a) + len(b) + c
-- def g(n): if n > 0: raise ValueError
-- try: return f(str(100), [1, 2], g(1))
-- except ValueError: print 'caught'
raises_in_arguments : running (program [] (
    function 1 1 (
    Try (lines (Return (call 1 (apply_one row.ToStr (num 100) ∷ list (num 1 ∷ num 2 ∷ []) ∷ call 2 (num 1 ∷ []) ∷ [])) ∷ []))
    (clause (Some (8 ∷ [])) None (lines (print (text (codes "caught") ∷ []) ∷ [])) no_clauses)
    done
    ∷ Return (num 0) ∷ [])
    ∷ function 3 3 (Return (binary Add (binary Add (len (Local 0)) (len (Local 1))) (Local 2)) ∷ [])
    ∷ function 1 1 (If (compare Gt (Local 0) (num 0)) (lines (raise (new 8) ∷ [])) done ∷ Return (Local 0) ∷ [])
    ∷ [])) 10
    ≡ (Some (Returned (pos 0)), codes "caught\n", 1)
unfolding digits
raises_in_arguments = refl

-- d = {'a': 1, 'b': 2, 'c': 3}; d['a'] = 10; del d['b']; d['b'] = 20
-- for k, v in d.items(): print k, v
ordered : Program
ordered = alone (
    set 1 (Display 1 (pairs ((text (codes "a"), num 1) ∷ (text (codes "b"), num 2) ∷ (text (codes "c"), num 3) ∷ [])))
    ∷ Assign (more_targets (Item (Local 1) (text (codes "a"))) no_targets) (num 10)
    ∷ Do (apply_two row.DeleteIndex (Local 1) (text (codes "b")))
    ∷ Assign (more_targets (Item (Local 1) (text (codes "b"))) no_targets) (num 20)
    ∷ For (Parts (targets (Name 2 ∷ Name 3 ∷ []))) (Over 2 (apply_one (row.Method (codes "items") (Some 3)) (Local 1)))
    (lines (print (Local 2 ∷ Local 3 ∷ []) ∷ []))
    ∷ Return (len (Local 1)) ∷ [])

keeps_order : running ordered 16 ≡ (Some (Returned (pos 3)), codes "a 10\nc 3\nb 20\n", 0)
unfolding ordered digits
keeps_order = refl

stops_in_the_last_turn : running ordered 15 ≡ (Some Running, codes "a 10\nc 3\n", 0)
unfolding ordered digits
stops_in_the_last_turn = refl

-- class Bad(Exception): pass
-- try: raise Bad()
-- finally: print 'end'
raised_past_finally : running (program (record { name = codes "a.Bad"; base = Some 0; constants = []; methods = [] } ∷ []) (
    function 1 1 (Finally (lines (raise (new 13) ∷ [])) (lines (print (text (codes "end") ∷ []) ∷ [])) ∷ Return (num 0) ∷ []) ∷ [])) 2
    ≡ (Some (Raised (codes "a.Bad")), codes "end\n", 0)
raised_past_finally = refl

-- n = 9223372036854775807; n = n + len(argv); print 'abc'[:n]
bound_that_wrapped : running (alone (
    set 1 (num 9223372036854775807)
    ∷ set 1 (binary Add (Local 1) (len (Local 0)))
    ∷ print (apply_two (row.Slice 1 false true) (text (codes "abc")) (Local 1) ∷ [])
    ∷ Return (num 0) ∷ [])) 10
    ≡ (Some (Failed fail.NegativeSlice), [], 9)
unfolding int_wrap
bound_that_wrapped = refl

-- l = [0] * 1000000000000000000
list_too_long : running (alone (set 1 (apply_two (row.Binary Mul None) (list (num 0 ∷ [])) (num 1000000000000000000)) ∷ Return (len (Local 1)) ∷ [])) 1000
    ≡ (Some Running, [], 997)
list_too_long = refl

-- ---- what is held

args : List (List ℕ)
args = codes "program" ∷ []

-- before the entry: the list of arguments and its string
held_at_entry : held_by looping (mean looping args 0) ≡ 2
unfolding looping args
held_at_entry = refl

-- after two turns: one list besides
held_in_third_turn : held_by looping (mean looping args 12) ≡ 3
unfolding looping args int_wrap
held_in_third_turn = refl

held_at_end : held_by looping (mean looping args 13) ≡ 0
unfolding looping args int_wrap
held_at_end = refl

-- each moment of `return [1, 2]`, up to the end: at the entry, before and behind the operation
made : Program
made = alone (Do (list (num 1 ∷ num 2 ∷ [])) ∷ Return (num 0) ∷ [])

-- before the display is paid, the two words and the list of arguments are held
held_before_list : held_by made (moment made args 9 1) ≡ 2
unfolding made args
held_before_list = refl

-- after it the list is held that no local has
held_after_list : held_by made (moment made args 9 2) ≡ 3
unfolding made args
held_after_list = refl

-- for x in [1, 2]: pass, and [1, 2][0] += 1: the list that no local has is held behind each question that the loop asks of it, and behind
-- the reading of the old item
walked : Program
walked = alone (For (Name 1) (Over 0 (list (num 1 ∷ num 2 ∷ []))) done ∷ Return (num 0) ∷ [])

held_behind_question : held_by walked (moment walked args 9 6) ≡ 3
unfolding walked args
held_behind_question = refl

added_to : Program
added_to = alone (Augment (Item (list (num 1 ∷ num 2 ∷ [])) (num 0)) (row.Binary Add None) (num 1) ∷ Return (num 0) ∷ [])

held_behind_old_item : held_by added_to (moment added_to args 9 4) ≡ 3
unfolding added_to args
held_behind_old_item = refl

-- past the last moment stands the run's end
held_past_the_end : held_by made (moment made args 9 100) ≡ 0
unfolding made args
held_past_the_end = refl

-- class N: `__init__` sets o to None
-- a = N(); b = N(); a.o = b; and, where there is a ring, b.o = a
node : Class
node = record { name = codes "a.N"; base = None; constants = []; methods = (codes "__init__", 1) ∷ [] }

set_attribute : Expr → List ℕ → Expr → Stmt
set_attribute e name v = Assign (more_targets (Attribute e name) no_targets) v

linked : Block → Program
linked ring = program (node ∷ []) (
    record {
      defaults = None ∷ [];
      takes_more = false;
      locals = 3;
      body = line (set 1 (new 13)) (line (set 2 (new 13)) (line (set_attribute (Local 1) (codes "o") (Local 2)) ring));
    }
    ∷ function 1 1 (set_attribute (Local 0) (codes "o") (Apply row.None none) ∷ [])
    ∷ [])

ring : Program
ring = linked (line (set_attribute (Local 2) (codes "o") (Local 1)) (line (Return (num 0)) done))

-- the two instances of the ring are held after the end
ring_is_held : held_by ring (mean ring args 5) ≡ 2
unfolding ring linked set_attribute node args
ring_is_held = refl

chain_is_not_held : held_by (linked (line (Return (num 0)) done)) (mean (linked (line (Return (num 0)) done)) args 5) ≡ 0
unfolding linked set_attribute node args
chain_is_not_held = refl

-- def f(a): return a
-- TABLE = {'f': f}
-- h = TABLE['f']; return h(1)
table : Program
table = record {
  functions =
      function 1 2 (set 1 (index (Constant (Ref 13)) (text (codes "f"))) ∷ Return (Apply row.CallValue (exprs (Local 1 ∷ num 1 ∷ []))) ∷ [])
      ∷ function 1 1 (Return (Local 0) ∷ []) ∷ [];
  classes = builtins;
  sites = None ∷ Some (Mapped ((Text (codes "f"), Fun 1) ∷ [])) ∷ [];
  entry = 0;
}

calls_what_a_table_holds : running table 2 ≡ (Some (Returned (pos 1)), [], 0)
unfolding table
calls_what_a_table_holds = refl

-- print [x * x for x in range(5) if x > 2]: two items are added
squares : Program
squares = alone (
    set 1 (Comprehension 1 (binary Mul (Local 2) (Local 2)) (Name 2) (UpTo (num 5)) (Where (compare Gt (Local 2) (num 2))))
    ∷ print (index (Local 1) (num 0) ∷ index (Local 1) (minus 1) ∷ []) ∷ Return (len (Local 1)) ∷ [])

adds_items : running squares 9 ≡ (Some (Returned (pos 2)), codes "9 16\n", 0)
unfolding squares digits int_wrap
adds_items = refl
