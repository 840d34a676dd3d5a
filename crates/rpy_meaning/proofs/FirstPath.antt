-- A program of the first path means what it means as a program of the whole language.
use Rattle.std.proofs.Common.{◌≡◌, ℕ, zero, suc, ◌+◌, ◌-◌, List, [], ◌∷◌, ◌++◌, Bool, true, false, Some, None, refl, sym, ap, ◌∙◌, subst, Option}
use Rattle.std.specs.Prelude.{map, replicate, slice_get, slice_set, option_map, nat_lt, if◌then◌else◌}
use Rattle.rpy_tree.specs.declared.syntax.BinOp.{BinOp}
use Rattle.rpy_tree.specs.declared.syntax.BinOp.TheVariants.{Add, Sub, Mul}
use Rattle.rpy_tree.specs.Pure as first
use Rattle.rpy_tree.specs.Value as v
use Rattle.rpy_tree.specs.Value.{Value, Heap}
use Rattle.rpy_tree.specs.Meaning as old
use Rattle.rpy_meaning.specs.declared.row.Covers.{Covers}
use Rattle.rpy_meaning.specs.declared.row.RowOp.TheVariants as row
use Rattle.rpy_meaning.specs.Tree.{Program}
use Rattle.rpy_meaning.specs.Classes.{no_covers}
use Rattle.rpy_meaning.specs.Evaluation.{State, Ending, Done, Raised, Failed, Running, Wrong, Eval, Flow, Next, Returned, next_or, then_go, add_held, bound, leaving, wrong}
use Rattle.rpy_meaning.specs.Operations.{write_if_any}
use Rattle.rpy_meaning.specs.Meaning.{Sem, Body, ended, start, called, unwatched, answered, perform, value, values, statement, block, within, mean, prebuilt}
use Rattle.rpy_meaning.specs.FirstPath as path
use Rattle.rpy_meaning.specs.FirstPath.{Agrees}

-- objects stand behind the instances of the builtin exceptions
abbrev shift : Value → Value
shift (v.Ref n) = v.Ref (n + 13)
shift (v.Word z) = v.Word z
shift (v.Flag b) = v.Flag b
shift (v.Text text) = v.Text text
shift v.Nothing = v.Nothing
shift (v.Tuple parts) = v.Tuple parts
shift (v.Fun f) = v.Fun f

abbrev shift_flow : old.Flow → Flow
shift_flow old.Next = Next
shift_flow (old.Returned x) = Returned (shift x)

get_map : {A B : Type 0} (f : A → B) (xs : List A) (i : ℕ) → slice_get (map f xs) i ≡ option_map f (slice_get xs i)
get_map f [] i = refl
get_map f (x ∷ xs) zero = refl
get_map f (x ∷ xs) (suc i) = get_map f xs i

set_map : {A B : Type 0} (f : A → B) (xs : List A) (i : ℕ) (a : A) → map f (slice_set xs i a) ≡ slice_set (map f xs) i (f a)
set_map f [] i a = refl
set_map f (x ∷ xs) zero a = refl
set_map f (x ∷ xs) (suc i) a = ap (λ ys. f x ∷ ys) (set_map f xs i a)

printed_shift : (x : Value) → old.printed (shift x) ≡ old.printed x
printed_shift (v.Ref n) = refl
printed_shift (v.Word z) = refl
printed_shift (v.Flag b) = refl
printed_shift (v.Text text) = refl
printed_shift v.Nothing = refl
printed_shift (v.Tuple parts) = refl
printed_shift (v.Fun f) = refl

line_shift : (xs : List Value) → old.print_line (map shift xs) ≡ old.print_line xs
line_shift [] = refl
line_shift (x ∷ []) = ap old.ended (printed_shift x)
line_shift (x ∷ y ∷ xs) = ap (λ t. old.spaced t (old.print_line (map shift (y ∷ xs)))) (printed_shift x) ∙ ap (old.spaced (old.printed x)) (line_shift (y ∷ xs))

module _ (H : Heap) (p : Program) (prev : Sem) (c : Covers) where
  abbrev shifted : v.State → State
  shifted s = record { locals = map (option_map shift) s.locals; world = record { heap = H; out = s.out; left = s.left }; moments = 0 }

  -- a first ending that is no failure, exception or stop has its counterpart
  abbrev Matches : {A B : Type 0} → (A → B) → old.Ending A → Ending B → Type 0
  Matches f (old.Done a s) e = e ≡ Done (f a) (shifted s)
  Matches f (old.Raised r s) e = ⊥
  Matches f (old.Failed name s) e = ⊥
  Matches f (old.Running roots s) e = ⊥
  Matches f old.Wrong e = Unit {0}

  local_matches : (x : Option (Option Value)) (s : v.State) → Matches shift (old.bound x s) (bound (option_map (option_map shift) x) (shifted s))
  local_matches None s = tt
  local_matches (Some None) s = tt
  local_matches (Some (Some x)) s = refl

  op_matches : (op : BinOp) (x y : Value) (s : v.State) → Matches shift (old.binary op x y s) (perform p unwatched prev c (row.Binary op None) (shift x ∷ shift y ∷ []) (shifted s))
  op_matches Add (v.Word a) (v.Word b) s = refl
  op_matches Sub (v.Word a) (v.Word b) s = refl
  op_matches Mul (v.Word a) (v.Word b) s = refl
  op_matches op x y s = tt

  -- ---- expressions

  -- an operand, and then what is done with it and the operands after it
  first_operand : {A B : Type 0} (f : A → B) (m : old.Ending Value) (e : Ending Value) (k : Value → old.Eval A) (l : Value → Eval B)
      → Matches shift m e → ((x : Value) (s : v.State) → Matches f (k x s) (l (shift x) (shifted s))) → Matches f (old.then_go m k) (then_go e l)
  first_operand f (old.Done a s) e k l h go = subst (λ e. Matches f (k a s) (then_go e l)) (sym h) (go a s)
  first_operand f (old.Raised r s) e k l h go = absurd h
  first_operand f (old.Failed name s) e k l h go = absurd h
  first_operand f (old.Running roots s) e k l h go = absurd h
  first_operand f old.Wrong e k l h go = tt

  -- the same of operands as a list
  first_operands : {A B : Type 0} (f : A → B) (m : old.Ending (List Value)) (e : Ending (List Value)) (k : List Value → old.Eval A) (l : List Value → Eval B)
      → Matches (map shift) m e → ((xs : List Value) (s : v.State) → Matches f (k xs s) (l (map shift xs) (shifted s))) → Matches f (old.then_go m k) (then_go e l)
  first_operands f (old.Done a s) e k l h go = subst (λ e. Matches f (k a s) (then_go e l)) (sym h) (go a s)
  first_operands f (old.Raised r s) e k l h go = absurd h
  first_operands f (old.Failed name s) e k l h go = absurd h
  first_operands f (old.Running roots s) e k l h go = absurd h
  first_operands f old.Wrong e k l h go = tt

  held_matches : {A B : Type 0} (f : A → B) (m : old.Ending A) (e : Ending B) (roots held : List Value) → Matches f m e → Matches f (old.add_roots roots m) (add_held held e)
  held_matches f (old.Done a s) e roots held h = ap (add_held held) h
  held_matches f (old.Raised r s) e roots held h = absurd h
  held_matches f (old.Failed name s) e roots held h = absurd h
  held_matches f (old.Running rs s) e roots held h = absurd h
  held_matches f old.Wrong e roots held h = tt

  then_assoc : {A B C : Type 0} (e : Ending A) (f : A → Eval B) (g : B → Eval C) → then_go (then_go e f) g ≡ then_go e (λ a s. then_go (f a s) g)
  then_assoc (Done a s) f g = refl
  then_assoc (Raised r s) f g = refl
  then_assoc (Failed name s) f g = refl
  then_assoc (Running held s) f g = refl
  then_assoc Wrong f g = refl

  -- the second operand, while the first is held
  second_operand : (op : BinOp) (x : Value) (m : old.Ending Value) (e : Ending Value) → Matches shift m e
      → Matches shift (old.then_go (old.add_roots (x ∷ []) m) (λ y. old.binary op x y))
      (then_go (then_go (add_held (shift x ∷ []) (then_go e (λ y s. Done (y ∷ []) s))) (λ ys s. Done (shift x ∷ ys) s)) (perform p unwatched prev c (row.Binary op None)))
  second_operand op x (old.Done y s) e h =
      subst (λ e. Matches shift (old.binary op x y s)
      (then_go (then_go (add_held (shift x ∷ []) (then_go e (λ y s. Done (y ∷ []) s))) (λ ys s. Done (shift x ∷ ys) s)) (perform p unwatched prev c (row.Binary op None))))
      (sym h) (op_matches op x y s)
  second_operand op x (old.Raised r s) e h = absurd h
  second_operand op x (old.Failed name s) e h = absurd h
  second_operand op x (old.Running roots s) e h = absurd h
  second_operand op x old.Wrong e h = tt

  value_matches : (e : first.Expr) (s : v.State) → Matches shift (old.value e s) (value p unwatched prev c (path.expr e) (shifted s))
  value_matches (first.Int z) s = refl
  value_matches (first.Local i) s =
      subst (λ x. Matches shift (old.bound (slice_get s.locals i) s) (bound x (shifted s))) (sym (get_map (option_map shift) s.locals i)) (local_matches (slice_get s.locals i) s)
  value_matches (first.Binary op a b) s =
      rw (then_assoc (value p unwatched prev c (path.expr a) (shifted s)))
      (first_operand shift (old.value a s) (value p unwatched prev c (path.expr a) (shifted s)) _ _ (value_matches a s)
      (λ x s1. second_operand op x (old.value b s1) (value p unwatched prev c (path.expr b) (shifted s1)) (value_matches b s1)))

  -- the rest of a list, while its first value is held
  rest_matches : (x : Value) (m : old.Ending (List Value)) (e : Ending (List Value)) → Matches (map shift) m e
      → Matches (map shift) (old.then_go (old.add_roots (x ∷ []) m) (λ xs s. old.Done (x ∷ xs) s)) (then_go (add_held (shift x ∷ []) e) (λ xs s. Done (shift x ∷ xs) s))
  rest_matches x (old.Done xs s) e h = ap (λ e. then_go (add_held (shift x ∷ []) e) (λ xs s. Done (shift x ∷ xs) s)) h
  rest_matches x (old.Raised r s) e h = absurd h
  rest_matches x (old.Failed name s) e h = absurd h
  rest_matches x (old.Running roots s) e h = absurd h
  rest_matches x old.Wrong e h = tt

  values_match : (es : first.Exprs) (s : v.State) → Matches (map shift) (old.values es s) (values p unwatched prev c (path.exprs es) (shifted s))
  values_match first.none s = refl
  values_match (first.more e es) s =
      first_operand (map shift) (old.value e s) (value p unwatched prev c (path.expr e) (shifted s)) _ _ (value_matches e s)
      (λ x s1. rest_matches x (old.values es s1) (values p unwatched prev c (path.exprs es) (shifted s1)) (values_match es s1))

  -- ---- statements

  -- what is printed, and the statement's end
  text_matches : (t : Option (List ℕ)) (vs : List Value) (s : v.State) → Matches shift_flow (old.then_go (old.put_if_any t s) (λ _ s. old.Done old.Next s))
      (then_go (then_go (answered p unwatched prev (write_if_any t (shifted s).world) vs (shifted s)) (λ x s. Done x s)) (λ _ s. Done Next s))
  text_matches None vs s = tt
  text_matches (Some t) vs s = refl

  print_matches : (vs : List Value) (s : v.State) → Matches shift_flow (old.then_go (old.put_if_any (old.print_line vs) s) (λ _ s. old.Done old.Next s))
      (then_go (perform p unwatched prev c row.Print (map shift vs) (shifted s)) (λ _ s. Done Next s))
  print_matches vs s =
      subst (λ t. Matches shift_flow (old.then_go (old.put_if_any (old.print_line vs) s) (λ _ s. old.Done old.Next s))
      (then_go (then_go (answered p unwatched prev (write_if_any t (shifted s).world) (map shift vs) (shifted s)) (λ x s. Done x s)) (λ _ s. Done Next s)))
      (sym (line_shift vs)) (text_matches (old.print_line vs) (map shift vs) s)

  statement_matches : (s : first.Stmt) (st : v.State) → Matches shift_flow (old.statement s st) (statement p unwatched prev c (path.stmt s) (shifted st))
  statement_matches (first.Assign (first.Name i) e) st =
      first_operand shift_flow (old.value e st) (value p unwatched prev c (path.expr e) (shifted st)) _ _ (value_matches e st)
      (λ x s. ap (λ ls. Done Next (record { locals = ls; world = record { heap = H; out = s.out; left = s.left }; moments = 0 })) (sym (set_map (option_map shift) s.locals i (Some x))))
  statement_matches (first.Print es) st =
      rw (then_assoc (values p unwatched prev c (path.exprs es) (shifted st)))
      (first_operands shift_flow (old.values es st) (values p unwatched prev c (path.exprs es) (shifted st)) _ _ (values_match es st) print_matches)
  statement_matches (first.Return e) st =
      first_operand shift_flow (old.value e st) (value p unwatched prev c (path.expr e) (shifted st)) _ _ (value_matches e st) (λ x s. refl)

  -- a statement, and then the others
  lines_match : (m : old.Ending old.Flow) (e : Ending Flow) (k : v.State → old.Ending old.Flow) (l : State → Ending Flow)
      → Matches shift_flow m e → ((s : v.State) → Matches shift_flow (k s) (l (shifted s)))
      → Matches shift_flow (old.then_go m (λ flow. old.next_or flow k)) (then_go e (λ flow. next_or flow l))
  lines_match (old.Done old.Next s) e k l h go = subst (λ e. Matches shift_flow (k s) (then_go e (λ flow. next_or flow l))) (sym h) (go s)
  lines_match (old.Done (old.Returned x) s) e k l h go = ap (λ e. then_go e (λ flow. next_or flow l)) h
  lines_match (old.Raised r s) e k l h go = absurd h
  lines_match (old.Failed name s) e k l h go = absurd h
  lines_match (old.Running roots s) e k l h go = absurd h
  lines_match old.Wrong e k l h go = tt

  block_matches : (b : first.Block) (s : v.State) → Matches shift_flow (old.block b s) (block p unwatched prev c (path.block b) (shifted s))
  block_matches first.done s = refl
  block_matches (first.line st rest) s =
      lines_match (old.statement st s) (statement p unwatched prev c (path.stmt st) (shifted s)) (old.block rest) (block p unwatched prev c (path.block rest)) (statement_matches st s) (block_matches rest)

-- ---- a run

nones : (k : ℕ) → map (option_map shift) (replicate k None) ≡ replicate k None
nones zero = refl
nones (suc k) = ap (λ xs. None ∷ xs) (nones k)

module _ (q : first.Program) where
  abbrev whole : Program
  whole = path.program q

  abbrev Shows : old.Ending Value → Ending Value → Type 0
  Shows m e = Agrees (old.meant_by q.classes m) (ended whole e)

  value_shown : (H : Heap) (x : Value) (s : v.State) (ls : List (Option Value)) (args : List Value)
      → Shows (old.Done x s) (leaving ls args None (Done (Returned (shift x)) (shifted H whole (λ _. wrong) no_covers s)))
  value_shown H (v.Word z) s ls args = (refl, refl)
  value_shown H (v.Flag b) s ls args = tt
  value_shown H (v.Text text) s ls args = tt
  value_shown H v.Nothing s ls args = tt
  value_shown H (v.Tuple parts) s ls args = tt
  value_shown H (v.Fun f) s ls args = tt
  value_shown H (v.Ref n) s ls args = tt

  body_shown : (H : Heap) (m : old.Ending old.Flow) (e : Ending Flow) (ls : List (Option Value)) (args : List Value)
      → Matches H whole (λ _. wrong) no_covers shift_flow m e
      → Shows (old.then_go (old.with_locals m) (λ flow. old.pure (old.result_of flow))) (leaving ls args None e)
  body_shown H (old.Done old.Next s) e ls args h = tt
  body_shown H (old.Done (old.Returned x) s) e ls args h = subst (λ e. Shows (old.Done x s) (leaving ls args None e)) (sym h) (value_shown H x s ls args)
  body_shown H (old.Raised r s) e ls args h = absurd h
  body_shown H (old.Failed name s) e ls args h = absurd h
  body_shown H (old.Running roots s) e ls args h = absurd h
  body_shown H old.Wrong e ls args h = tt

  -- the heap at the start, behind which nothing is made
  abbrev objects : List (List ℕ) → Heap
  objects args = prebuilt whole ++ v.Listed (map v.Text args) ∷ []

  -- the state of the entry point's body
  abbrev begun : List (List ℕ) → ℕ → first.Function → v.State
  begun args left f = record {
    locals = Some (v.Ref 0) ∷ replicate (f.locals - 1) None;
    heap = v.Listed (map v.Text args) ∷ [];
    out = [];
    left = left;
  }

  abbrev framed : List (List ℕ) → ℕ → first.Function → List (Option Value) → State
  framed args left f rest = record {
    locals = Some (v.Ref 13) ∷ rest;
    world = record { heap = objects args; out = []; left = left };
    moments = 0;
  }

  task_shown : (args : List (List ℕ)) (n left : ℕ) (f : first.Function)
      → Shows (old.then_go (old.with_locals (old.block f.body (begun args left f))) (λ flow. old.pure (old.result_of flow)))
      (leaving [] (v.Ref 13 ∷ []) None (within whole unwatched n (Body (path.block f.body)) (framed args left f (replicate (f.locals - 1) None))))
  task_shown args zero left f =
      body_shown (objects args) (old.block f.body (begun args left f)) _ [] (v.Ref 13 ∷ [])
      (subst (λ ls. Matches (objects args) whole (λ _. wrong) no_covers shift_flow (old.block f.body (begun args left f)) (block whole unwatched (λ asked. wrong) no_covers (path.block f.body) (framed args left f ls)))
      (nones (f.locals - 1)) (block_matches (objects args) whole (λ asked. wrong) no_covers f.body (begun args left f)))
  task_shown args (suc n) left f =
      body_shown (objects args) (old.block f.body (begun args left f)) _ [] (v.Ref 13 ∷ [])
      (subst (λ ls. Matches (objects args) whole (λ _. wrong) no_covers shift_flow (old.block f.body (begun args left f)) (block whole unwatched (within whole unwatched n) no_covers (path.block f.body) (framed args left f ls)))
      (nones (f.locals - 1)) (block_matches (objects args) whole (within whole unwatched n) no_covers f.body (begun args left f)))

  -- either way at the entry
  entry_shown : (b : Bool) (roots held : List Value) (s s1 : v.State) (t t1 : State) (k : Unit {0} → old.Eval Value) (l : Unit {0} → Eval Value)
      → t.world.out ≡ s.out → Shows (k tt s1) (l tt t1)
      → Shows (old.then_go (if b then old.Running roots s else old.Done tt s1) k) (then_go (if b then Running held t else Done tt t1) l)
  entry_shown true roots held s s1 t t1 k l e h = (refl, e)
  entry_shown false roots held s s1 t t1 k l e h = h

  call_shown : (args : List (List ℕ)) (n : ℕ) (f : Option first.Function)
      → Shows (old.call f (v.Ref 0 ∷ []) (old.start args n))
      (called whole unwatched (within whole unwatched n) (option_map path.function f) (v.Ref 13 ∷ []) None (start whole args n 0))
  call_shown args n None = tt
  call_shown args n (Some f) = entry_shown (nat_lt n 1) _ _ _ _ _ _ _ _ refl (task_shown args n (n - 1) f)

pub agrees : (q : first.Program) (args : List (List ℕ)) (n : ℕ) → Agrees (old.mean q args n) (mean (path.program q) args n)
agrees q args n =
    subst (λ f. Shows q (old.call (slice_get q.functions q.entry) (v.Ref 0 ∷ []) (old.start args n))
    (called (path.program q) unwatched (within (path.program q) unwatched n) f (v.Ref 13 ∷ []) None (start (path.program q) args n 0)))
    (sym (get_map path.function q.functions q.entry)) (call_shown q args n (slice_get q.functions q.entry))
