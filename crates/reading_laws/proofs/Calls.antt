-- Calls of functions are tidy.
use Rattle.std.proofs.Common.{◌≡◌, ℕ, ◌+◌, Bool, true, false, List, [], ◌∷◌, ◌++◌, slice_get, Option, Some, None, refl}
use Rattle.std.specs.Prelude.{◌≢◌}
use Rattle.csub_tree.specs.declared.tree.COperand.{COperand}
use Rattle.csub_tree.specs.declared.tree.COperand.TheVariants.{Var, Const}
use Rattle.ll_code.specs.declared.program.LlType.{LlType}
use Rattle.ll_code.specs.declared.program.LlType.TheVariants as type
use Rattle.ll_code.specs.declared.program.LlOp.TheVariants as op
use Rattle.ann_element.specs.declared.element.Element.{Element}
use Rattle.rpy_resolved.specs.declared.tree.Function.{Function}
use Rattle.rpy_tree.specs.declared.program.Const.{Const as Constant}
use Rattle.rtyper_layout.specs.Types.{type_of as type_of_element, type_seen}
use Rattle.rtyper_data.specs.declared.found.Found.{Found}
use Rattle.rtyper_data.specs.Converting.{default_constant, default_operand, given, landed, landing}
use Rattle.rtyper_data.specs.Seen.{Operand, with_op, Writing, writing}
use Rattle.rtyper_op.specs.Calls.{argument, argument_if, arguments, arguments_for, arguments_from, call, call_giving, constant_for, number_of, stand_in}
use Rattle.rtyper_op.specs.Constants.{constant_of}
use Rattle.growth_laws.proofs.Growing.{same_found}
use Rattle.growth_laws.proofs.Operating.{stand_in_grows}
use Rattle.reading_laws.specs.Tidy.{AreSet, AreThere, GivesAt, IsSet, Setup, Stands, Tidy, Wider, taken}
use Rattle.reading_laws.proofs.Steps.{AreGiven, IsGivenIf, all_given, all_more, as_tidy, asked, both_set, given_at, given_more, held, nothing, pushed, sets_in, takes_none, then_tidy}
use Rattle.reading_laws.proofs.Values.{call_fits, give_nothing_tidy, given_tidy, landed_tidy}

constant_for_set : (s : List ℕ) (f : Setup) (k : Option (Option Constant)) (to : LlType) (found : Found) → IsSet (constant_for f.world.around k to found).0 s
constant_for_set s f (Some (Some k)) to found = held (constant_of f.world.around k to found).0 s
constant_for_set s f (Some None) to found = held (default_constant to) s
constant_for_set s f None to found = held (default_constant to) s

stand_in_set : (s : List ℕ) (f : Setup) (g : Option Function) (i : ℕ) (to : LlType) (found : Found) → IsSet (stand_in f.world.around g i to found).0 s
unfolding stand_in
stand_in_set s f None i to found = held (default_constant to) s
stand_in_set s f (Some g) i to found = constant_for_set s f (slice_get g.defaults i) to found

module _ {f : Setup} (c : Stands f) where
  argument_tidy : {s : List ℕ} (g : Option Function) (i : ℕ) (a : Option Operand) (to : LlType) (w : Writing) → IsGivenIf a s → Tidy f s ((argument f.world.around g i a to w).0 ∷ []) w (argument f.world.around g i a to w).1
  argument_tidy g i (Some a) to w h = given_tidy c a to w h
  argument_tidy g i None to w h = as_tidy _ (asked (stand_in f.world.around g i to w.found).1 w (stand_in_grows f.world.around g i to w.found)) (λ t m k. (stand_in_set t f g i to w.found, tt))

  argument_if_tidy : {s : List ℕ} (g : Option Function) (i : ℕ) (a : Option Operand) (to : LlType) (w : Writing) → IsGivenIf a s → Tidy f s (argument_if f.world.around g i a to w).0 w (argument_if f.world.around g i a to w).1
  unfolding argument_if
  argument_if_tidy g i a type.Void w h = nothing
  argument_if_tidy g i a type.Signed w h = argument_tidy g i a type.Signed w h
  argument_if_tidy g i a type.Char w h = argument_tidy g i a type.Char w h
  argument_if_tidy g i a type.Bool w h = argument_tidy g i a type.Bool w h
  argument_if_tidy g i a type.Fn w h = argument_tidy g i a type.Fn w h
  argument_if_tidy g i a (type.Ptr n) w h = argument_tidy g i a (type.Ptr n) w h

  arguments_from_tidy : {s : List ℕ} {w : Writing} (g : Option Function) (args : List Operand) (i : ℕ) (params : List Element) (done : List COperand × Writing) → AreGiven args s → Tidy f s done.0 w done.1
      → Tidy f s (arguments_from f.world.around g args i params done).0 w (arguments_from f.world.around g args i params done).1
  arguments_from_tidy g args i [] done h one = one
  arguments_from_tidy g args i (p ∷ params) done h one =
      arguments_from_tidy g args (i + 1) params (done.0 ++ (argument_if f.world.around g i (slice_get args i) (type_of_element f.world.around.layout p) done.1).0, (argument_if f.world.around g i (slice_get args i) (type_of_element f.world.around.layout p) done.1).1) h
      (then_tidy one (λ t m k. as_tidy _ (argument_if_tidy g i (slice_get args i) (type_of_element f.world.around.layout p) done.1 (given_at t args i (given_more args m h))) (λ u n j. both_set u done.0 _ (all_more done.0 n k) j)))

  arguments_for_tidy : {s : List ℕ} (params : Option (List Element)) (number : ℕ) (args : List Operand) (w : Writing) → AreGiven args s → Tidy f s (arguments_for f.world.around params number args w).0 w (arguments_for f.world.around params number args w).1
  arguments_for_tidy None number args w h = nothing
  arguments_for_tidy (Some params) number args w h = arguments_from_tidy (slice_get f.world.around.functions number) args 0 params ([], w) h nothing

  pub arguments_tidy : {s : List ℕ} (number : ℕ) (args : List Operand) (w : Writing) → AreGiven args s → Tidy f s (arguments f.world.around number args w).0 w (arguments f.world.around number args w).1
  unfolding arguments
  arguments_tidy number args w h = arguments_for_tidy (slice_get f.world.around.params number) number args w h

  -- a call that gives nothing, and the place is given nothing
  called_for_nothing : {s : List ℕ} (number : ℕ) (xs : List COperand) (w : Writing) → AreSet xs s → Tidy f s [] w (writing w.found (with_op (op.Call None number xs) w.body))
  called_for_nothing {s} number xs w h = pushed [] (op.Call None number xs) w.found w (sets_in xs s h) tt (same_found w.found) (λ a i. takes_none f.program f.size _)

  lands : {s : List ℕ} (number : ℕ) (gives : LlType) (xs : List COperand) (w : Writing) → gives ≢ type.Void → GivesAt f.program number → AreSet xs s
      → Tidy f s (taken true f) w (landed f.world.around f.place gives (λ v. op.Call (Some v) number xs) w.found (landing f.world.around f.place gives w.body))
  lands {s} number gives xs w there g h = landed_tidy c gives (λ v. op.Call (Some v) number xs) w.found w there (λ v. sets_in xs s h) (λ v. refl) (same_found w.found) (λ a i v j. call_fits c number v xs g j)

  pub call_giving_tidy : {s : List ℕ} (number : ℕ) (gives : LlType) (xs : List COperand × Writing) → (gives ≢ type.Void → GivesAt f.program number) → AreSet xs.0 s → Tidy f s (taken true f) xs.1 (call_giving f.world.around f.place number gives xs)
  unfolding call_giving
  call_giving_tidy number type.Void xs g h = then_tidy (called_for_nothing number xs.0 xs.1 h) (λ t m k. give_nothing_tidy c (writing xs.1.found (with_op (op.Call None number xs.0) xs.1.body)))
  call_giving_tidy number type.Signed xs g h = lands number type.Signed xs.0 xs.1 (λ e. absurd (cc)) (g (λ e. absurd (cc))) h
  call_giving_tidy number type.Char xs g h = lands number type.Char xs.0 xs.1 (λ e. absurd (cc)) (g (λ e. absurd (cc))) h
  call_giving_tidy number type.Bool xs g h = lands number type.Bool xs.0 xs.1 (λ e. absurd (cc)) (g (λ e. absurd (cc))) h
  call_giving_tidy number type.Fn xs g h = lands number type.Fn xs.0 xs.1 (λ e. absurd (cc)) (g (λ e. absurd (cc))) h
  call_giving_tidy number (type.Ptr n) xs g h = lands number (type.Ptr n) xs.0 xs.1 (λ e. absurd (cc)) (g (λ e. absurd (cc))) h

  pub call_tidy : {s : List ℕ} (g : ℕ) (args : List Operand) (w : Writing) → AreGiven args s → Tidy f s (taken true f) w (call f.world.around f.place g args w)
  call_tidy g args w h = then_tidy (arguments_tidy g args w h) (λ t m k. call_giving_tidy (number_of f.world.around g) (type_seen f.world.around.layout (slice_get f.world.around.results g)) (arguments f.world.around g args w) (c.calls.functions g) k)
