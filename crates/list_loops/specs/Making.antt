-- Lists that are made: all is paid before.
use Rattle.std.specs.Prelude.{ℕ, ℤ, List, [], ◌∷◌, ◌++◌, pos, Some, None, codes}
use Rattle.csub_tree.specs.declared.tree.CBinary.TheVariants.{Add, Sub, Mul, Lt, Gt, MulOvf}
use Rattle.csub_tree.specs.declared.tree.COperand.{COperand}
use Rattle.csub_tree.specs.declared.tree.COperand.TheVariants.{Var}
use Rattle.ll_code.specs.declared.program.LlType.{LlType}
use Rattle.ll_code.specs.declared.program.LlType.TheVariants.{Signed, Bool, Ptr}
use Rattle.ll_code.specs.declared.program.LlOp.{LlOp}
use Rattle.ll_code.specs.declared.program.LlOp.TheVariants.{Binary, SetField, New, NewArray, Step, Call}
use Rattle.ll_code.specs.declared.program.LlExit.TheVariants.{Goto, Return, Fail}
use Rattle.ll_code.specs.declared.program.LlBlock.{LlBlock}
use Rattle.ll_code.specs.declared.program.LlGraph.{LlGraph}
use Rattle.ll_build.specs.Build.{word, to, fork, block_of, graph_of, fails}
use Rattle.rtyper_data.specs.declared.found.Found.{Found}
use Rattle.rtyper_data.specs.declared.small.Listed.TheVariants.{Make, Copy, Slice}
use Rattle.list_shape.specs.declared.shape.Shape.{Shape}
use Rattle.list_shape.specs.Shapes.{length_read, array_read, length_set, number_of, taking, gives}

-- what a graph of three variables passes on
abbrev pub three : List COperand
three = Var 0 ∷ Var 1 ∷ Var 2 ∷ []

-- ---- a list of so many items, which are still to be set

unfoldable pub make_given : Shape → LlBlock
make_given s = block_of (0 ∷ []) (
    NewArray 1 s.array s.array (Var 0)
    ∷ SetField s.array 1 0 (Var 0)
    ∷ New 2 s.list s.list
    ∷ length_set s 2 (Var 0)
    ∷ SetField s.list 2 1 (Var 1) ∷ []) (Return (Some (Var 2)))

unfoldable pub make : Shape → LlGraph
make s = graph_of (codes "list_make") (0 ∷ []) (Ptr s.list) (Signed ∷ Ptr s.array ∷ Ptr s.list ∷ []) (make_given s ∷ [])

-- ---- the items of two lists in a third, by the graphs that make it and copy items of each

unfoldable pub concat_types : Shape → Shape → Shape → List LlType
concat_types a b r = Ptr a.list ∷ Ptr b.list ∷ Signed ∷ Signed ∷ Signed ∷ Ptr r.list ∷ Ptr r.array ∷ Ptr a.array ∷ Ptr b.array ∷ []

unfoldable pub concat_given : ℕ → ℕ → ℕ → Shape → Shape → Shape → LlBlock
concat_given makes copies_a copies_b a b r = block_of (0 ∷ 1 ∷ []) (
    length_read 2 a 0
    ∷ length_read 3 b 1
    ∷ Step (word (pos 1))
    ∷ Step (Var 2)
    ∷ Step (Var 3)
    ∷ Binary 4 Add (Var 2) (Var 3)
    ∷ Call (Some 5) makes (Var 4 ∷ [])
    ∷ array_read 6 r 5
    ∷ array_read 7 a 0
    ∷ Call None copies_a (Var 7 ∷ word (pos 0) ∷ Var 6 ∷ word (pos 0) ∷ Var 2 ∷ [])
    ∷ array_read 8 b 1
    ∷ Call None copies_b (Var 8 ∷ word (pos 0) ∷ Var 6 ∷ Var 2 ∷ Var 3 ∷ []) ∷ []) (Return (Some (Var 5)))

unfoldable pub concat_graph : ℕ → ℕ → ℕ → Shape → Shape → Shape → LlGraph
concat_graph makes copies_a copies_b a b r = graph_of (codes "list_concat") (0 ∷ 1 ∷ []) (Ptr r.list) (concat_types a b r) (concat_given makes copies_a copies_b a b r ∷ [])

unfoldable pub concat : Shape → Shape → Shape → Found → LlGraph × Found
concat a b r found =
    taking (number_of (Make r.list) found) (λ makes next.
    taking (number_of (Copy a.array r.array) next) (λ copies_a last.
    taking (number_of (Copy b.array r.array) last) (λ copies_b all. (concat_graph makes copies_a copies_b a b r, all))))

-- ---- a list so many times

-- more than any bound on steps
abbrev pub too_much : ℤ
too_much = pos 4611686018427387904

unfoldable pub repeat_types : Shape → Shape → List LlType
repeat_types a r = Ptr a.list ∷ Signed ∷ Signed ∷ Bool ∷ Signed ∷ Ptr r.list ∷ Ptr r.array ∷ Ptr a.array ∷ Signed ∷ Signed ∷ []

-- less than no times is none
unfoldable pub repeat_start : Shape → LlBlock
repeat_start a = block_of (0 ∷ 1 ∷ []) (length_read 2 a 0 ∷ Binary 3 Lt (Var 1) (word (pos 0)) ∷ []) (fork 3 1 (Var 0 ∷ word (pos 0) ∷ Var 2 ∷ []) 1 three)

-- whether the new length is a word
unfoldable pub repeat_asks : LlBlock
repeat_asks = block_of (0 ∷ 1 ∷ 2 ∷ []) (Binary 3 MulOvf (Var 2) (Var 1) ∷ []) (fork 3 2 [] 3 three)

unfoldable pub repeat_beyond : LlBlock
repeat_beyond = block_of [] (Step (word too_much) ∷ []) (Fail 5)

unfoldable pub repeat_paid : ℕ → Shape → Shape → LlBlock
repeat_paid makes a r = block_of (0 ∷ 1 ∷ 2 ∷ []) (
    Binary 4 Mul (Var 2) (Var 1)
    ∷ Step (word (pos 1))
    ∷ Step (Var 4)
    ∷ Call (Some 5) makes (Var 4 ∷ [])
    ∷ array_read 6 r 5
    ∷ array_read 7 a 0 ∷ []) (Goto (to 5 (Var 5 ∷ Var 6 ∷ Var 7 ∷ Var 4 ∷ Var 2 ∷ word (pos 0) ∷ [])))

unfoldable pub repeat_turn : ℕ → LlBlock
repeat_turn copies = block_of (5 ∷ 6 ∷ 7 ∷ 4 ∷ 2 ∷ 8 ∷ []) (
    Call None copies (Var 7 ∷ word (pos 0) ∷ Var 6 ∷ Var 8 ∷ Var 2 ∷ [])
    ∷ Binary 9 Add (Var 8) (Var 2) ∷ []) (Goto (to 5 (Var 5 ∷ Var 6 ∷ Var 7 ∷ Var 4 ∷ Var 2 ∷ Var 9 ∷ [])))

unfoldable pub repeat_more : LlBlock
repeat_more = block_of (5 ∷ 6 ∷ 7 ∷ 4 ∷ 2 ∷ 8 ∷ []) (Binary 3 Lt (Var 8) (Var 4) ∷ []) (fork 3 4 (Var 5 ∷ Var 6 ∷ Var 7 ∷ Var 4 ∷ Var 2 ∷ Var 8 ∷ []) 6 (Var 5 ∷ []))

-- the new length and its cost, and the list
unfoldable pub repeat_makes : ℕ → Shape → Shape → List LlBlock
repeat_makes makes a r = repeat_start a ∷ repeat_asks ∷ repeat_beyond ∷ repeat_paid makes a r ∷ []

-- and its items
unfoldable pub repeat_copies : ℕ → List LlBlock
repeat_copies copies = repeat_turn copies ∷ repeat_more ∷ gives 5 ∷ []

unfoldable pub repeat_graph : ℕ → ℕ → Shape → Shape → LlGraph
repeat_graph makes copies a r = graph_of (codes "list_repeat") (0 ∷ 1 ∷ []) (Ptr r.list) (repeat_types a r) (repeat_makes makes a r ++ repeat_copies copies)

unfoldable pub repeat : Shape → Shape → Found → LlGraph × Found
repeat a r found =
    taking (number_of (Make r.list) found) (λ makes next.
    taking (number_of (Copy a.array r.array) next) (λ copies all. (repeat_graph makes copies a r, all)))

-- ---- the items between two bounds, which are cut at the length

unfoldable pub slice_types : Shape → Shape → List LlType
slice_types a r = Ptr a.list ∷ Signed ∷ Signed ∷ Signed ∷ Bool ∷ Ptr r.list ∷ Ptr r.array ∷ Ptr a.array ∷ Signed ∷ []

-- a test of the bounds, which goes on at one of two blocks
unfoldable pub bound : LlOp → ℕ → List COperand → ℕ → LlBlock
bound test there xs elsewhere = block_of (0 ∷ 1 ∷ 2 ∷ []) (test ∷ []) (fork 4 there xs elsewhere three)

-- whether the end lies within the list
unfoldable pub slice_end : Shape → LlBlock
slice_end a = block_of (0 ∷ 1 ∷ 2 ∷ []) (length_read 3 a 0 ∷ Binary 4 Lt (Var 3) (Var 2) ∷ []) (fork 4 3 (Var 0 ∷ Var 1 ∷ Var 3 ∷ []) 3 three)

unfoldable pub slice_cut : ℕ → ℕ → Shape → Shape → LlBlock
slice_cut makes copies a r = block_of (0 ∷ 1 ∷ 2 ∷ []) (
    Binary 8 Sub (Var 2) (Var 1)
    ∷ Step (word (pos 1))
    ∷ Step (Var 8)
    ∷ Call (Some 5) makes (Var 8 ∷ [])
    ∷ array_read 6 r 5
    ∷ array_read 7 a 0
    ∷ Call None copies (Var 7 ∷ Var 1 ∷ Var 6 ∷ word (pos 0) ∷ Var 8 ∷ []) ∷ []) (Return (Some (Var 5)))

-- a bound that wrapped below zero fails, which is never raised
unfoldable pub slice_graph : ℕ → ℕ → Shape → Shape → LlGraph
slice_graph makes copies a r = graph_of (codes "list_slice") (0 ∷ 1 ∷ 2 ∷ []) (Ptr r.list) (slice_types a r) (
    bound (Binary 4 Lt (Var 1) (word (pos 0))) 5 [] 1
    ∷ bound (Binary 4 Lt (Var 2) (word (pos 0))) 5 [] 2
    ∷ slice_end a
    ∷ bound (Binary 4 Lt (Var 2) (Var 1)) 4 (Var 0 ∷ Var 2 ∷ Var 2 ∷ []) 4
    ∷ slice_cut makes copies a r
    ∷ fails 5
    ∷ [])

unfoldable pub slice : Shape → Shape → Found → LlGraph × Found
slice a r found =
    taking (number_of (Make r.list) found) (λ makes next.
    taking (number_of (Copy a.array r.array) next) (λ copies all. (slice_graph makes copies a r, all)))

-- ---- all items but the last

unfoldable pub but_last_start : Shape → LlBlock
but_last_start a = block_of (0 ∷ []) (length_read 1 a 0 ∷ Binary 2 Gt (Var 1) (word (pos 0)) ∷ []) (fork 2 1 (Var 0 ∷ Var 1 ∷ []) 2 (Var 0 ∷ word (pos 0) ∷ []))

unfoldable pub but_last_shorter : LlBlock
but_last_shorter = block_of (0 ∷ 1 ∷ []) (Binary 3 Sub (Var 1) (word (pos 1)) ∷ []) (Goto (to 2 (Var 0 ∷ Var 3 ∷ [])))

unfoldable pub but_last_given : ℕ → LlBlock
but_last_given slices = block_of (0 ∷ 3 ∷ []) (Call (Some 4) slices (Var 0 ∷ word (pos 0) ∷ Var 3 ∷ []) ∷ []) (Return (Some (Var 4)))

unfoldable pub but_last_graph : ℕ → Shape → Shape → LlGraph
but_last_graph slices a r = graph_of (codes "list_but_last") (0 ∷ []) (Ptr r.list) (Ptr a.list ∷ Signed ∷ Bool ∷ Signed ∷ Ptr r.list ∷ []) (
    but_last_start a ∷ but_last_shorter ∷ but_last_given slices ∷ [])

unfoldable pub but_last : Shape → Shape → Found → LlGraph × Found
but_last a r found = taking (number_of (Slice a.list r.list) found) (λ slices all. (but_last_graph slices a r, all))
