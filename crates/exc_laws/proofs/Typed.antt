-- What operations and exits that keep their rules read has a type, and may be passed by a link.
use Rattle.std.proofs.Common.{◌≡◌, ℕ, Bool, true, false, ◌&&◌, ◌||◌, List, [], ◌∷◌, ◌++◌, Option, Some, None, refl}
use Rattle.std.specs.Prelude.{slice_get, cond}
use Rattle.csub_tree.specs.declared.tree.CBinary.{CBinary}
use Rattle.csub_tree.specs.declared.tree.CBinary.TheVariants as two
use Rattle.csub_tree.specs.declared.tree.COperand.{COperand}
use Rattle.csub_tree.specs.declared.tree.COperand.TheVariants.{Var, Const}
use Rattle.ll_code.specs.Typed.{has_type, same_type, takes, given_takes, all_taken, all_given, points, pointer_type, pointed, same_pointers, both_taken, call_ok, operation_ok, operations_ok, exit_ok, link_ok, enters, names_chars, result_ok, unary_takes, field_of, items_of}
use Rattle.ll_code.specs.declared.program.LlType.{LlType}
use Rattle.ll_code.specs.declared.program.LlType.TheVariants as type
use Rattle.ll_code.specs.declared.program.LlLink.{LlLink}
use Rattle.ll_code.specs.declared.program.LlOp.{LlOp}
use Rattle.ll_code.specs.declared.program.LlOp.TheVariants as op
use Rattle.ll_code.specs.declared.program.LlExit.{LlExit}
use Rattle.ll_code.specs.declared.program.LlExit.TheVariants as exit
use Rattle.ll_code.specs.declared.program.LlBlock.{LlBlock}
use Rattle.ll_code.specs.declared.program.LlGraph.{LlGraph}
use Rattle.ll_code.specs.declared.program.LlProgram.{LlProgram}
use Rattle.ll_laws.proofs.Values.{and_left, and_right}
use Rattle.exc_transform.specs.Raising.{may_raise}
use Rattle.ll_live.specs.Live.{among, variables_of, variables_in, reads, set_by, exit_variables}
use Rattle.exc_transform.specs.Live.{new_ones, handler_reads, exit_reads, and_this, live_from}
use Rattle.exc_laws.proofs.Tests.{and_both, equals}

-- ---- variables that have a type

abbrev pub is_there : Option LlType → Bool
is_there None = false
is_there (Some type.Void) = false
is_there (Some t) = true

abbrev pub all_there : List LlType → List ℕ → Bool
all_there types [] = true
all_there types (v ∷ vs) = is_there (slice_get types v) && all_there types vs

pub typed_there : (t : LlType) (o : Option LlType) → has_type t o ≡ true → is_there o ≡ true
typed_there t None h = absurd (cc)
typed_there t (Some type.Signed) h = refl
typed_there t (Some type.Char) h = refl
typed_there t (Some type.Bool) h = refl
typed_there t (Some type.Fn) h = refl
typed_there t (Some (type.Ptr n)) h = refl
typed_there type.Signed (Some type.Void) h = absurd (cc)
typed_there type.Char (Some type.Void) h = absurd (cc)
typed_there type.Bool (Some type.Void) h = absurd (cc)
typed_there type.Void (Some type.Void) h = absurd (cc)
typed_there type.Fn (Some type.Void) h = absurd (cc)
typed_there (type.Ptr m) (Some type.Void) h = absurd (cc)

pub pointer_there : (o : Option LlType) → points o ≡ true → is_there o ≡ true
pointer_there (Some (type.Ptr n)) h = refl
pointer_there other h = absurd (cc)

pub own_type : (o : Option LlType) → is_there o ≡ true → (t : LlType) × (o ≡ Some t) × (same_type t t ≡ true)
own_type None h = absurd (cc)
own_type (Some type.Signed) h = (type.Signed, refl, refl)
own_type (Some type.Char) h = (type.Char, refl, refl)
own_type (Some type.Bool) h = (type.Bool, refl, refl)
own_type (Some type.Void) h = absurd (cc)
own_type (Some type.Fn) h = (type.Fn, refl, refl)
own_type (Some (type.Ptr n)) h = (type.Ptr n, refl, equals n n refl)

module _ (types : List LlType) where
  pub both_there : (vs ws : List ℕ) → all_there types vs ≡ true → all_there types ws ≡ true → all_there types (vs ++ ws) ≡ true
  both_there [] ws h k = k
  both_there (v ∷ vs) ws h k = and_both (is_there (slice_get types v)) (all_there types (vs ++ ws)) (and_left _ _ h) (both_there vs ws (and_right (is_there (slice_get types v)) _ h) k)

  one_there : (v : ℕ) → is_there (slice_get types v) ≡ true → all_there types (v ∷ []) ≡ true
  one_there v h = and_both (is_there (slice_get types v)) true h refl

  pub new_there : (vs set into : List ℕ) → all_there types vs ≡ true → all_there types into ≡ true → all_there types (new_ones vs set into) ≡ true
  new_there [] set into h k = k
  new_there (v ∷ vs) set into h k = one (λ into. new_there vs set into (and_right (is_there (slice_get types v)) _ h)) (among v set || among v into)
    where
      one : ((into : List ℕ) → all_there types into ≡ true → all_there types (new_ones vs set into) ≡ true) → (b : Bool) → all_there types (new_ones vs set (cond b into (into ++ v ∷ []))) ≡ true
      one go true = go into k
      one go false = go (into ++ v ∷ []) (both_there into (v ∷ []) k (one_there v (and_left _ _ h)))

module _ (p : LlProgram) (types : List LlType) where
  -- ---- operands

  taken_there : (t : LlType) (x : COperand) → takes p types t x ≡ true → all_there types (variables_of x) ≡ true
  taken_there t (Var v) h = one_there types v (typed_there t (slice_get types v) h)
  taken_there t (Const c) h = refl

  given_there : (o : Option LlType) (x : COperand) → given_takes p types o x ≡ true → all_there types (variables_of x) ≡ true
  given_there None x h = absurd (cc)
  given_there (Some t) x h = taken_there t x h

  pub all_given_there : (others : List LlType) (vs : List ℕ) (xs : List COperand) → all_given p types others vs xs ≡ true → all_there types (variables_in xs) ≡ true
  all_given_there others [] [] h = refl
  all_given_there others [] (x ∷ xs) h = absurd (cc)
  all_given_there others (v ∷ vs) [] h = absurd (cc)
  all_given_there others (v ∷ vs) (x ∷ xs) h =
      both_there types (variables_of x) (variables_in xs) (given_there (slice_get others v) x (and_left _ _ h)) (all_given_there others vs xs (and_right (given_takes p types (slice_get others v) x) _ h))

  all_taken_there : (ts : List LlType) (xs : List COperand) → all_taken p types ts xs ≡ true → all_there types (variables_in xs) ≡ true
  all_taken_there [] [] h = refl
  all_taken_there [] (x ∷ xs) h = absurd (cc)
  all_taken_there (t ∷ ts) [] h = absurd (cc)
  all_taken_there (t ∷ ts) (x ∷ xs) h =
      both_there types (variables_of x) (variables_in xs) (taken_there t x (and_left _ _ h)) (all_taken_there ts xs (and_right (takes p types t x) _ h))

  compared_there : (x : COperand) (r : Option ℕ) → pointed p types x ≡ Some r → all_there types (variables_of x) ≡ true
  compared_there (Var v) r h = one_there types v (one (slice_get types v) h)
    where
      one : (o : Option LlType) → pointer_type o ≡ Some r → is_there o ≡ true
      one (Some (type.Ptr n)) e = refl
      one other e = absurd (cc)
  compared_there (Const c) r h = refl

  both_compared : (x y : COperand) (a b : Option (Option ℕ)) → pointed p types x ≡ a → pointed p types y ≡ b → same_pointers a b ≡ true → all_there types (variables_of x ++ variables_of y) ≡ true
  both_compared x y (Some a) (Some b) e f h = both_there types (variables_of x) (variables_of y) (compared_there x a e) (compared_there y b f)
  both_compared x y (Some (Some a)) None e f h = absurd (cc)
  both_compared x y (Some None) None e f h = absurd (cc)
  both_compared x y None b e f h = absurd (cc)

  two_there : (t : LlType) (x y : COperand) → (takes p types t x && takes p types t y) ≡ true → all_there types (variables_of x ++ variables_of y) ≡ true
  two_there t x y h = both_there types (variables_of x) (variables_of y) (taken_there t x (and_left _ _ h)) (taken_there t y (and_right (takes p types t x) _ h))

  both_taken_there : (o : CBinary) (x y : COperand) → both_taken p types o x y ≡ true → all_there types (variables_of x ++ variables_of y) ≡ true
  both_taken_there two.Beq x y h = two_there type.Bool x y h
  both_taken_there two.Peq x y h = both_compared x y (pointed p types x) (pointed p types y) refl refl h
  both_taken_there two.Feq x y h = two_there type.Fn x y h
  both_taken_there other x y h = two_there type.Signed x y h

  pointer_and : (b : ℕ) (vs : List ℕ) → points (slice_get types b) ≡ true → all_there types vs ≡ true → all_there types (b ∷ vs) ≡ true
  pointer_and b vs h k = and_both (is_there (slice_get types b)) (all_there types vs) (pointer_there (slice_get types b) h) k

  -- ---- operations

  called_there : (into : Option ℕ) (o : Option LlGraph) (xs : List COperand) → call_ok p types into o xs ≡ true → all_there types (variables_in xs) ≡ true
  called_there into None xs h = absurd (cc)
  called_there into (Some g) xs h = all_given_there g.types g.params xs (and_right (result_ok types into g.result) _ h)

  pub reads_there : (o : LlOp) → operation_ok p types o ≡ true → all_there types (reads o) ≡ true
  reads_there (op.Set a x) h = given_there (slice_get types a) x h
  reads_there (op.Unary a o x) h = taken_there (unary_takes o) x (and_right _ _ h)
  reads_there (op.Binary a o x y) h = both_taken_there o x y (and_right _ _ h)
  reads_there (op.GetField a s b k) h = pointer_and b [] (and_left _ _ h) refl
  reads_there (op.SetField s b k x) h = pointer_and b (variables_of x) (and_left _ _ h) (given_there (field_of (slice_get p.structs s) k) x (and_right _ _ h))
  reads_there (op.GetItem a s b i) h = pointer_and b (variables_of i) (and_left _ _ (and_left _ _ h)) (taken_there type.Signed i (and_right _ _ (and_left _ _ h)))
  reads_there (op.SetItem s b i x) h =
      pointer_and b (variables_of i ++ variables_of x) (and_left _ _ (and_left _ _ h))
      (both_there types (variables_of i) (variables_of x) (taken_there type.Signed i (and_right _ _ (and_left _ _ h))) (given_there (items_of (slice_get p.structs s)) x (and_right _ _ h)))
  reads_there (op.New a m s) h = refl
  reads_there (op.NewArray a m s x) h = taken_there type.Signed x (and_right _ _ h)
  reads_there (op.Free a) h = pointer_and a [] (and_right _ _ h) refl
  reads_there (op.Step x) h = taken_there type.Signed x h
  reads_there (op.Call into f xs) h = called_there into (slice_get p.graphs f) xs h
  reads_there (op.CallFn into given params b xs) h =
      and_both (is_there (slice_get types b)) (all_there types (variables_in xs)) (typed_there type.Fn (slice_get types b) (and_left _ _ (and_left _ _ (and_left _ _ (and_left _ _ h))))) (all_taken_there params xs (and_right _ _ h))
  reads_there (op.ExcType a s) h = refl
  reads_there (op.ExcValue a s) h = refl
  reads_there (op.ExcSet a b) h = pointer_and a (b ∷ []) (and_left _ _ h) (pointer_and b [] (and_right _ _ h) refl)
  reads_there op.ExcClear h = refl
  reads_there (op.Argc a) h = refl
  reads_there (op.ArgLen a x) h = taken_there type.Signed x (and_right _ _ h)
  reads_there (op.Arg a x y) h =
      both_there types (variables_of x) (variables_of y) (taken_there type.Signed x (and_right _ _ (and_left _ _ h))) (taken_there type.Signed y (and_right _ _ h))
  reads_there (op.Put x) h = taken_there type.Signed x h
  reads_there (op.Raise a) h = pointer_and a [] (and_right _ _ h) refl

module _ (p : LlProgram) (g : LlGraph) where
  -- ---- exits

  pub link_there : (l : LlLink) → link_ok p g l ≡ true → all_there g.types (variables_in l.args) ≡ true
  link_there l h = one (slice_get g.blocks l.to) h
    where
      one : (o : Option LlBlock) → enters p g.types o l.args ≡ true → all_there g.types (variables_in l.args) ≡ true
      one None h = absurd (cc)
      one (Some b) h = all_given_there p g.types g.types b.inputs l.args h

  exit_there : (e : LlExit) → exit_ok p g e ≡ true → all_there g.types (exit_variables e) ≡ true
  exit_there (exit.Goto l) h = link_there l h
  exit_there (exit.If a there elsewhere) h =
      and_both (is_there (slice_get g.types a)) (all_there g.types (variables_in there.args ++ variables_in elsewhere.args)) (typed_there type.Bool (slice_get g.types a) (and_left _ _ (and_left _ _ h)))
      (both_there g.types (variables_in there.args) (variables_in elsewhere.args) (link_there there (and_right _ _ (and_left _ _ h))) (link_there elsewhere (and_right _ _ h)))
  exit_there (exit.OnRaise a by without) h = link_there without (and_right _ _ h)
  exit_there (exit.Return None) h = refl
  exit_there (exit.Return (Some x)) h = taken_there p g.types g.result x h
  exit_there (exit.Raise a) h = pointer_and p g.types a [] (and_right _ _ h) refl
  exit_there (exit.Fail n) h = refl
  exit_there (exit.Raised a) h = one_there g.types a (one (slice_get g.types a) h)
    where
      one : (o : Option LlType) → names_chars p.structs o ≡ true → is_there o ≡ true
      one (Some (type.Ptr n)) e = refl
      one other e = absurd (cc)

  pub handler_there : (rest : List LlOp) (e : LlExit) → exit_ok p g e ≡ true → all_there g.types (handler_reads rest e) ≡ true
  handler_there [] (exit.OnRaise a (Some by) without) h = new_there g.types (variables_in by.args) (a ∷ []) [] (link_there by (and_right _ _ (and_left _ _ h))) refl
  handler_there [] (exit.OnRaise a None without) h = refl
  handler_there [] (exit.Goto l) h = refl
  handler_there [] (exit.If a there elsewhere) h = refl
  handler_there [] (exit.Return x) h = refl
  handler_there [] (exit.Raise a) h = refl
  handler_there [] (exit.Fail n) h = refl
  handler_there [] (exit.Raised a) h = refl
  handler_there (o ∷ rest) e h = refl

  pub exit_reads_there : (raises : Bool) (e : LlExit) → exit_ok p g e ≡ true → all_there g.types (exit_reads raises e) ≡ true
  exit_reads_there true e h = both_there g.types (handler_reads [] e) (exit_variables e) (handler_there [] e h) (exit_there e h)
  exit_reads_there false e h = exit_there e h

  -- ---- what is live

  pub live_there : (marks : List Bool) (any raises : Bool) (set live : List ℕ) (ops : List LlOp) (e : LlExit) → all_there g.types live ≡ true → operations_ok p g.types ops ≡ true → exit_ok p g e ≡ true
      → all_there g.types (live_from marks any raises set live ops e) ≡ true
  live_there marks any raises set live [] e k h i = new_there g.types (exit_reads raises e) set live (exit_reads_there raises e i) k
  live_there marks any raises set live (o ∷ ops) e k h i =
      live_there marks any (may_raise marks any o) (and_this set (set_by o)) (new_ones (reads o) set live) ops e (new_there g.types (reads o) set live (reads_there p g.types o (and_left _ _ h)) k) (and_right _ _ h) i
