-- What is written by the base of lowering is tidy: conversions, and where results go.
use Rattle.std.proofs.Common.{◌≡◌, ◌<◌, ℕ, ◌==◌, ◌&&◌, Bool, true, false, List, [], ◌∷◌, ◌++◌, length, Option, Some, None, refl, sym, ap, ◌∙◌, subst, arith}
use Rattle.std.specs.Prelude.{if◌then◌else◌, slice_get, ◌≢◌}
use Rattle.std.proofs.lemmas.Bool.Decides.{nat_tests}
use Rattle.csub_tree.specs.declared.tree.COperand.{COperand}
use Rattle.csub_tree.specs.declared.tree.COperand.TheVariants.{Var}
use Rattle.ll_code.specs.declared.program.LlType.{LlType}
use Rattle.ll_code.specs.declared.program.LlType.TheVariants as type
use Rattle.ll_code.specs.declared.program.LlOp.{LlOp}
use Rattle.ll_code.specs.declared.program.LlOp.TheVariants as op
use Rattle.ll_code.specs.declared.program.LlGraph.{LlGraph}
use Rattle.ll_code.specs.declared.program.LlProgram.{LlProgram}
use Rattle.ll_build.specs.declared.needs.Helper.{Helper}
use Rattle.ll_build.specs.declared.needs.Helper.TheVariants as helper
use Rattle.ll_live.specs.Live.{among, reads, set_by}
use Rattle.rtyper_layout.specs.declared.layout.Layout.{Layout}
use Rattle.rtyper_layout.specs.Layout.{is_tuple}
use Rattle.rtyper_data.specs.declared.body.Body.{Body}
use Rattle.rtyper_data.specs.declared.found.Found.{Found}
use Rattle.rtyper_data.specs.declared.small.Small.{Small}
use Rattle.rtyper_data.specs.declared.small.Small.TheVariants as small
use Rattle.rtyper_data.specs.Seen.{Around, Operand, Place, type_of, type_at, with_op, fresh, Writing, writing, push, set}
use Rattle.rtyper_data.specs.Finding.{same_type, helper_number, small_number}
use Rattle.rtyper_data.specs.Converting.{by_small, converted, default_constant, default_operand, give, give_called, give_helped, give_made, give_nothing, give_op, give_to, given, helped, land, landed, landing, nothing_to, present, value_as}
use Rattle.growth_laws.specs.Growing.{Grows}
use Rattle.growth_laws.proofs.Growing.{helpers_grow, same_found, smalls_grow}
use Rattle.throw_laws.specs.Pieces.{AllIn}
use Rattle.throw_laws.specs.Ready.{OpFits, TakesOf, with_set}
use Rattle.catch_laws.proofs.Reading.{here_in, right_in}
use Rattle.reading_laws.specs.Results.{helper_gives, SmallGives}
use Rattle.reading_laws.specs.Tidy.{AreSet, GivesAt, IsSet, IsThere, Setup, Stands, Tidy, Wider, taken, target}
use Rattle.reading_laws.proofs.Steps.{as_tidy, asked, held, if_given, if_tidy, more, nothing, pushed, set_fresh, sets_in, still, target_set, then_tidy, variable}

pub is_void_too : (t u : LlType) → same_type t u ≡ true → t ≡ type.Void → u ≡ type.Void
is_void_too t u e h = on u (sym (ap (λ t. same_type t u) h) ∙ e)
  where
    on : (t : LlType) → same_type type.Void t ≡ true → t ≡ type.Void
    on type.Void e = refl
    on type.Signed e = absurd (cc)
    on type.Char e = absurd (cc)
    on type.Bool e = absurd (cc)
    on type.Fn e = absurd (cc)
    on (type.Ptr n) e = absurd (cc)

-- a call takes what its graph gives
takes : (p : LlProgram) (n number a : ℕ) (o : Option LlGraph) → slice_get p.graphs number ≡ o → ((graph : LlGraph) → slice_get p.graphs number ≡ Some graph → graph.result ≢ type.Void) → a < n → TakesOf p n (Some a) o
takes p n number a None e g h = h
takes p n number a (Some graph) e g h = (h, g graph e)

module _ {f : Setup} (c : Stands f) where
  pub call_fits : (number a : ℕ) (xs : List COperand) → GivesAt f.program number → a < f.size → OpFits f.program f.size (op.Call (Some a) number xs)
  call_fits number a xs g h = takes f.program f.size number a (slice_get f.program.graphs number) refl g h

  -- ---- calls whose results have variables of their own

  pub helped_tidy : {s : List ℕ} (h : Helper) (gives : LlType) (xs : List COperand) (w : Writing) → helper_gives h ≡ true → AreSet xs s → Tidy f s ((helped h gives xs w).0 ∷ []) w (helped h gives xs w).1
  unfolding helped
  helped_tidy {s} h gives xs w g k =
      set_fresh gives (λ v. op.Call (Some v) (helper_number h w.found).0 xs) (helper_number h w.found).1 w (λ v. sets_in xs s k) (λ v. refl) (helpers_grow h w.found) (λ a i v j. call_fits (helper_number h w.found).0 v xs (c.calls.helpers h g w.found a i) j)

  pub by_small_tidy : {s : List ℕ} (small : Small) (gives : LlType) (xs : List COperand) (w : Writing) → SmallGives f.world small → AreSet xs s → Tidy f s ((by_small small gives xs w).0 ∷ []) w (by_small small gives xs w).1
  unfolding by_small
  by_small_tidy {s} small gives xs w g k =
      set_fresh gives (λ v. op.Call (Some v) (small_number small w.found).0 xs) (small_number small w.found).1 w (λ v. sets_in xs s k) (λ v. refl) (smalls_grow small w.found) (λ a i v j. call_fits (small_number small w.found).0 v xs (c.calls.smalls small g w.found i) j)

  -- ---- conversions

  default_tidy : {s : List ℕ} (t : LlType) (w : Writing) → Tidy f s (default_operand t ∷ []) w w
  default_tidy {s} t w = still (default_operand t ∷ []) (held (default_constant t) s, tt)

  pub converted_tidy : {s : List ℕ} (layout : Layout) (x : COperand) (from to : LlType) (w : Writing) → IsSet x s → Tidy f s ((converted layout x from to w).0 ∷ []) w (converted layout x from to w).1
  converted_tidy layout x type.Char (type.Ptr n) w h = if_given (n == 0) _ _ (helped_tidy helper.StrOfChar (type.Ptr n) (x ∷ []) w refl (h, tt)) (default_tidy (type.Ptr n) w)
  converted_tidy layout x (type.Ptr m) (type.Ptr n) w h = if_given (is_tuple layout m && is_tuple layout n) _ _ (by_small_tidy (small.Cast m n) (type.Ptr n) (x ∷ []) w tt (h, tt)) (default_tidy (type.Ptr n) w)
  converted_tidy layout x from to w h = default_tidy to w

  pub value_as_tidy : {s : List ℕ} (layout : Layout) (x : COperand) (from to : LlType) (w : Writing) → IsSet x s → Tidy f s ((value_as layout x from to w).0 ∷ []) w (value_as layout x from to w).1
  unfolding value_as
  value_as_tidy layout x from to w h = if_given (same_type from to) (x, w) (converted layout x from to w) (still (x ∷ []) (h, tt)) (converted_tidy layout x from to w h)

  pub given_tidy : {s : List ℕ} (a : Operand) (to : LlType) (w : Writing) → IsSet a.x s → Tidy f s ((given f.world.around a to w).0 ∷ []) w (given f.world.around a to w).1
  given_tidy a to w h = value_as_tidy f.world.around.layout a.x (type_of f.world.around a) to w h

  pub present_tidy : {s : List ℕ} (a : Operand) (or_none : Bool) (w : Writing) → IsThere f a s → Tidy f s ((present f.world.around a or_none w).0 ∷ []) w (present f.world.around a or_none w).1
  present_tidy a or_none w h =
      if_given or_none _ (a.x, w) (by_small_tidy (small.Present (type_of f.world.around a) w.found.covered.attribute) (type_of f.world.around a) (a.x ∷ []) w h.typed (h.inside, tt)) (still (a.x ∷ []) (h.inside, tt))

  -- ---- results

  -- an operation that sets the place
  pub set_place : {s : List ℕ} (t : LlType) (x : COperand) (w : Writing) → t ≢ type.Void → type_at f.world.around f.place ≡ t → IsSet x s → Tidy f s (target t f.place.variable) w (push (op.Set f.place.variable x) w)
  set_place {s} t x w there is h =
      pushed (target t f.place.variable) (op.Set f.place.variable x) w.found w h.it (target_set (s ++ f.place.variable ∷ []) t f.place.variable (variable f.place.variable (s ++ f.place.variable ∷ []) (right_in f.place.variable s (f.place.variable ∷ []) (here_in f.place.variable [])))) (same_found w.found)
      (λ a i. (refl, c.under (λ e. there (sym is ∙ e))))

  pub typed_tidy : {s : List ℕ} (x : COperand) (t : LlType) (w : Writing) → t ≢ type.Void → type_at f.world.around f.place ≡ t → IsSet x s → Tidy f s (taken true f) w (set f.place.variable (x, w))
  typed_tidy {s} x t w there is h = subst (λ (t : LlType). Tidy f s (target t f.place.variable) w (push (op.Set f.place.variable x) w)) (sym is) (set_place t x w there is h)

  as_place : {s : List ℕ} (x : COperand) (from t : LlType) (w : Writing) → t ≢ type.Void → type_at f.world.around f.place ≡ t → IsSet x s → Tidy f s (target t f.place.variable) w (set f.place.variable (value_as f.world.around.layout x from t w))
  as_place x from t w there is h = then_tidy (value_as_tidy f.world.around.layout x from t w h) (λ u m k. set_place t (value_as f.world.around.layout x from t w).0 (value_as f.world.around.layout x from t w).1 there is k.0)

  give_to_tidy : {s : List ℕ} (x : COperand) (from t : LlType) (w : Writing) → type_at f.world.around f.place ≡ t → IsSet x s → Tidy f s (target t f.place.variable) w (give_to f.world.around f.place x from t w)
  give_to_tidy x from type.Void w is h = nothing
  give_to_tidy x from type.Signed w is h = as_place x from type.Signed w (λ e. absurd (cc)) is h
  give_to_tidy x from type.Char w is h = as_place x from type.Char w (λ e. absurd (cc)) is h
  give_to_tidy x from type.Bool w is h = as_place x from type.Bool w (λ e. absurd (cc)) is h
  give_to_tidy x from type.Fn w is h = as_place x from type.Fn w (λ e. absurd (cc)) is h
  give_to_tidy x from (type.Ptr n) w is h = as_place x from (type.Ptr n) w (λ e. absurd (cc)) is h

  pub give_tidy : {s : List ℕ} (x : COperand) (from : LlType) (w : Writing) → IsSet x s → Tidy f s (taken true f) w (give f.world.around f.place x from w)
  unfolding give
  give_tidy x from w h = give_to_tidy x from (type_at f.world.around f.place) w refl h

  pub give_made_tidy : {s : List ℕ} (from : LlType) (w : Writing) (made : COperand × Writing) → Tidy f s (made.0 ∷ []) w made.1 → Tidy f s (taken true f) w (give_made f.world.around f.place from made)
  give_made_tidy from w made one = then_tidy one (λ t m k. give_tidy made.0 from made.1 k.0)

  nothing_to_tidy : {s : List ℕ} (t : LlType) (w : Writing) → type_at f.world.around f.place ≡ t → Tidy f s (target t f.place.variable) w (writing w.found (nothing_to f.place t w.body))
  nothing_to_tidy type.Void w is = nothing
  nothing_to_tidy {s} type.Signed w is = set_place type.Signed (default_operand type.Signed) w (λ e. absurd (cc)) is (held (default_constant type.Signed) s)
  nothing_to_tidy {s} type.Char w is = set_place type.Char (default_operand type.Char) w (λ e. absurd (cc)) is (held (default_constant type.Char) s)
  nothing_to_tidy {s} type.Bool w is = set_place type.Bool (default_operand type.Bool) w (λ e. absurd (cc)) is (held (default_constant type.Bool) s)
  nothing_to_tidy {s} type.Fn w is = set_place type.Fn (default_operand type.Fn) w (λ e. absurd (cc)) is (held (default_constant type.Fn) s)
  nothing_to_tidy {s} (type.Ptr n) w is = set_place (type.Ptr n) (default_operand (type.Ptr n)) w (λ e. absurd (cc)) is (held (default_constant (type.Ptr n)) s)

  pub give_nothing_tidy : {s : List ℕ} (w : Writing) → Tidy f s (taken true f) w (writing w.found (give_nothing f.world.around f.place w.body))
  give_nothing_tidy w = nothing_to_tidy (type_at f.world.around f.place) w refl

  -- ---- operations whose variable may be the place

  -- what was set lands in the place
  land_tidy : {s : List ℕ} (v : ℕ) (gives : LlType) (w : Writing) → IsSet (Var v) s → Tidy f s (taken true f) w (land f.world.around f.place v gives w)
  land_tidy {s} v gives w h = on (v == f.place.variable) refl
    where
      on : (b : Bool) → (v == f.place.variable) ≡ b → Tidy f s (taken true f) w (if b then w else give f.world.around f.place (Var v) gives w)
      on true e = let q : v ≡ f.place.variable = grind (arith, nat_tests, e) in still (taken true f) (target_set s (type_at f.world.around f.place) f.place.variable (subst (λ (n : ℕ). IsSet (Var n) s) q h))
      on false e = give_tidy (Var v) gives w h

  -- the operation reads what is set, sets its variable, and fits
  pub landed_tidy : {s : List ℕ} (gives : LlType) (o : ℕ → LlOp) (found : Found) (w : Writing) → gives ≢ type.Void → ((v : ℕ) → AllIn (reads (o v)) s) → ((v : ℕ) → set_by (o v) ≡ Some v) → Grows w.found found
      → (Grows f.first w.found → Grows found f.last → (v : ℕ) → v < f.size → OpFits f.program f.size (o v)) → Tidy f s (taken true f) w (landed f.world.around f.place gives o found (landing f.world.around f.place gives w.body))
  landed_tidy {s} gives o found w there r sets g fit = on (same_type (type_at f.world.around f.place) gives) refl
    where
      own : type_at f.world.around f.place ≢ type.Void → Tidy f s (Var f.place.variable ∷ []) w (writing found (with_op (o f.place.variable) w.body))
      own t = pushed (Var f.place.variable ∷ []) (o f.place.variable) found w (r f.place.variable)
          (subst (λ (by : Option ℕ). IsSet (Var f.place.variable) (with_set by s)) (sym (sets f.place.variable)) (variable f.place.variable (s ++ f.place.variable ∷ []) (right_in f.place.variable s (f.place.variable ∷ []) (here_in f.place.variable []))), tt)
          g (λ a i. fit a i f.place.variable (c.under t))

      on : (b : Bool) → same_type (type_at f.world.around f.place) gives ≡ b → Tidy f s (taken true f) w (landed f.world.around f.place gives o found (if b then (f.place.variable, w.body) else fresh gives w.body))
      on true e = then_tidy (own (λ h. there (is_void_too (type_at f.world.around f.place) gives e h))) (λ t m k. land_tidy f.place.variable gives (writing found (with_op (o f.place.variable) w.body)) k.0)
      on false e = then_tidy (set_fresh gives o found w r sets g fit) (λ t m k. land_tidy (fresh gives w.body).0 gives (writing found (with_op (o (fresh gives w.body).0) (fresh gives w.body).1)) k.0)

  pub give_op_tidy : {s : List ℕ} (gives : LlType) (o : ℕ → LlOp) (w : Writing) → gives ≢ type.Void → ((v : ℕ) → AllIn (reads (o v)) s) → ((v : ℕ) → set_by (o v) ≡ Some v) → ((v : ℕ) → v < f.size → OpFits f.program f.size (o v))
      → Tidy f s (taken true f) w (give_op f.world.around f.place gives o w)
  give_op_tidy gives o w there r sets fit = landed_tidy gives o w.found w there r sets (same_found w.found) (λ a i v j. fit v j)

  pub give_helped_tidy : {s : List ℕ} (h : Helper) (gives : LlType) (xs : List COperand) (w : Writing) → helper_gives h ≡ true → gives ≢ type.Void → AreSet xs s → Tidy f s (taken true f) w (give_helped f.world.around f.place h gives xs w)
  unfolding give_helped
  give_helped_tidy {s} h gives xs w g there k =
      landed_tidy gives (λ v. op.Call (Some v) (helper_number h w.found).0 xs) (helper_number h w.found).1 w there (λ v. sets_in xs s k) (λ v. refl) (helpers_grow h w.found) (λ a i v j. call_fits (helper_number h w.found).0 v xs (c.calls.helpers h g w.found a i) j)
