-- Operations that stay in their block are followed.
use Rattle.std.proofs.Common.{◌≡◌, ◌<◌, ℕ, zero, suc, ◌+◌, Bool, true, false, ◌||◌, List, [], ◌∷◌, ◌++◌, length, Option, Some, None, refl, sym, ap, ◌∙◌, arith}
use Rattle.std.specs.Prelude.{slice_get, slice_set, ◌==◌}
use Rattle.csub_tree.specs.State.{Value, Unset, Ptr, Block, Core}
use Rattle.csub_tree.specs.Statement as st
use Rattle.csub_tree.specs.Statement.{read, operand}
use Rattle.csub_tree.specs.declared.tree.COperand.{COperand}
use Rattle.csub_tree.specs.declared.tree.COperand.TheVariants.{Var, Const}
use Rattle.ll_code.specs.State.{Frame, At}
use Rattle.ll_code.specs.Machine.{goes_on, shapes_of}
use Rattle.ll_code.specs.declared.program.LlOp.{LlOp}
use Rattle.ll_code.specs.declared.program.LlOp.TheVariants as op
use Rattle.ll_code.specs.declared.program.LlExit.{LlExit}
use Rattle.ll_code.specs.declared.program.LlType.{LlType}
use Rattle.ll_code.specs.declared.program.LlProgram.{LlProgram}
use Rattle.ll_live.specs.Live.{among, sets, live}
use Rattle.refcount_transform.specs.Plan.{plan_of, reference_given}
use Rattle.refcount_transform.specs.Changes.{around_of, var_referred, touched, dead}
use Rattle.refcount_transform.specs.Counted.{counted}
use Rattle.refcount_laws.specs.Graphs.{Counting}
use Rattle.refcount_laws.specs.Made.{counts_of}
use Rattle.refcount_laws.specs.Ghost.{Ghost, count, memory, IsCounted}
use Rattle.refcount_laws.specs.Runs.{here}
use Rattle.refcount_laws.specs.Owned.{owned}
use Rattle.refcount_laws.specs.Matches.{Pointing, Follows}
use Rattle.refcount_laws.proofs.Numbers.{Based}
use Rattle.std.specs.Prelude.{ℤ, pos, negsuc}
use Rattle.csub_tree.specs.Operation.{word_of}
use Rattle.ll_code.specs.Typed.{operation_ok}
use Rattle.ll_code.specs.declared.program.LlType.TheVariants as type
use Rattle.ll_laws.proofs.Values.{and_right, has_type_is}
use Rattle.refcount_transform.specs.Changes.{changed}
use Rattle.std.specs.Prelude.{not, ◌&&◌}
use Rattle.csub_tree.specs.declared.tree.CConst.TheVariants as const
use Rattle.ll_code.specs.Typed.{given_takes, takes}
use Rattle.ll_live.specs.Live.{variables_of}
use Rattle.refcount_laws.proofs.Dead.{same_is}
use Rattle.csub_tree.specs.Layout.{shape_at}
use Rattle.csub_tree.specs.Statement.{block_at, reached, as_struct, on_block}
use Rattle.ll_code.specs.Typed.{field_of, items_of, has_given}
use Rattle.refcount_laws.specs.Made.{shapes_counted}
use Rattle.refcount_laws.proofs.Copying.{owned_has}
use Rattle.std.specs.Prelude.{replicate}
use Rattle.csub_tree.specs.Statement.{stored}
use Rattle.refcount_transform.specs.Plan.{field_referred}
use Rattle.csub_tree.specs.State.{Made}
use Rattle.ll_code.specs.State.{Tells}
use Rattle.ll_code.specs.Typed.{IsWellTyped}
use Rattle.refcount_transform.specs.Changes.{header}
use Rattle.refcount_laws.specs.Made.{leads_to_roots}
use Rattle.refcount_laws.specs.Before as told
use Rattle.refcount_laws.specs.Before.{Before, is_of_words, MayStand, SetsUnread, MayTakeField, MayTakeItem, NoBlocksIn}
use Rattle.refcount_laws.proofs.Numbers.{all_based}
use Rattle.refcount_laws.proofs.Places.{counted_counting}
use Rattle.refcount_laws.proofs.Making.{made_followed, no_rest, array_rest}
use Rattle.refcount_transform.specs.Plan.{items_referred}
use Rattle.refcount_transform.specs.Changes.{cleared_by}
use Rattle.ll_code.specs.Typed.{points, has_type, begins}
use Rattle.std.specs.Prelude.{is_none}
use Rattle.std.proofs.Common.{subst}
use Rattle.csub_tree.specs.State.{Word, Byte, Flag, Fun, Null, Static}
use Rattle.ll_code.specs.Machine.{step}
use Rattle.ll_live.specs.Live.{reads}
use Rattle.refcount_transform.specs.Plan.{fields_given}
use Rattle.refcount_laws.proofs.Cells.{set_other}
use Rattle.refcount_laws.specs.Ready.{MayBeGiven, Ready}
use Rattle.refcount_laws.proofs.Putting.{put_item_stands}
use Rattle.refcount_laws.proofs.ItemWrites.{set_plain_item_followed, set_reference_item_followed}
use Rattle.refcount_laws.proofs.Operations.{structs_typed, words_one, set_one, exc_type_one, exc_value_one, get_field_one, get_item_one, set_plain_one, set_reference_one, new_one}

module _ (p : LlProgram) (ok : IsWellTyped p) (leads : leads_to_roots p ≡ true) (args : List (List ℕ)) (types : List LlType) (own : Value → ℕ) (ops rest : List LlOp) (e ex : LlExit) (frames : List Frame) (b at : ℕ) (core qcore : Core) (g : Ghost)
    (h : List (Option Block)) (apart : NoBlocksIn core.statics) where
  abbrev pub Followed : LlOp → Type 0
  Followed o = operation_ok p types o ≡ true → Ready p types own core o → Before p types own o ops e core qcore g h → told.IsFollowed p args types own o ops rest e ex frames b at core qcore g h

  based : Based p.structs
  based = all_based p.structs (structs_typed p ok)

  counting : Counting (counted p) (counts_of (plan_of p))
  counting = counted_counting p ok leads

  -- a type that is given
  record Given (o : Option LlType) (a : ℕ) : Type 0 where
    t : LlType
    is : o ≡ Some t
    typed : slice_get types a ≡ Some t

  given_by : (o : Option LlType) (a : ℕ) → has_given types a o ≡ true → Given o a
  given_by None a f = absurd (cc)
  given_by (Some t) a f = record { t = t; is = refl; typed = has_type_is t (slice_get types a) f }

  record Taken (o : Option LlType) : Type 0 where
    t : LlType
    is : o ≡ Some t

  taken_from : (o : Option LlType) (x : COperand) → given_takes p types o x ≡ true → Taken o
  taken_from None x f = absurd (cc)
  taken_from (Some t) x f = record { t = t; is = refl }

  -- an operand that a live variable holds leads to a block that is there
  operand_alive : (uses : ℕ → Bool) (x : COperand) → ((w : ℕ) → among w (variables_of x) ≡ true → uses w ≡ true) → length core.vars ≡ length types → Pointing p types core.blocks core.statics uses core.vars
      → IsCounted (counted p) (counts_of (plan_of p)) g (λ r. owned (around_of (plan_of p) types) uses core.vars r + own r) → (z : ℕ) → operand core.vars x ≡ Ptr z → 0 < count g.blocks z
  operand_alive uses (Var w) u fits pointing counts z is =
      let used : uses w ≡ true = u w (ap (λ b. b || false) (same_is w)) in
      let d : (n : ℕ) × (var_referred (around_of (plan_of p) types) w ≡ Some n) = pointing.refers w z used is in
      let lt : w < length core.vars = (let l : w < length types = inside types w d.0 d.1 in omega (arith, l, fits)) in
      let has : 0 < owned (around_of (plan_of p) types) uses core.vars (Ptr z) = owned_has (around_of (plan_of p) types) 0 uses core.vars w d.0 z lt used d.1 is in
      omega (arith, has, counts.blocks z)
    where
      inside : (ts : List LlType) (v n : ℕ) → reference_given (plan_of p).counted (slice_get ts v) ≡ Some n → v < length ts
      inside [] v n e = absurd (cc)
      inside (t ∷ ts) zero n e = omega arith
      inside (t ∷ ts) (suc v) n e = omega (arith, inside ts v n e)
  operand_alive uses (Const (const.Word y)) u fits pointing counts z is = absurd (cc)
  operand_alive uses (Const (const.Char y)) u fits pointing counts z is = absurd (cc)
  operand_alive uses (Const (const.Bool y)) u fits pointing counts z is = absurd (cc)
  operand_alive uses (Const const.Null) u fits pointing counts z is = absurd (cc)
  operand_alive uses (Const (const.Static s y)) u fits pointing counts z is = absurd (cc)
  operand_alive uses (Const (const.Fun y)) u fits pointing counts z is = absurd (cc)

  or_some : (a b : Bool) → b ≡ true → (a || b) ≡ true
  or_some true b f = refl
  or_some false b f = f

  or_first : (a b : Bool) → a ≡ true → (a || b) ≡ true
  or_first true b f = refl
  or_first false b f = absurd (cc)

  in_second : (w : ℕ) (xs ys : List ℕ) → among w ys ≡ true → among w (xs ++ ys) ≡ true
  in_second w [] ys f = f
  in_second w (x ∷ xs) ys f = or_some (x == w) (among w (xs ++ ys)) (in_second w xs ys f)

  set_field_any : (n v i : ℕ) (x : COperand) → Followed (op.SetField n v i x)
  set_field_any n v i x typed (in_block, keeps, may, cn) d = by (taken_from (field_of (slice_get p.structs n) i) x (and_right (points (slice_get types v)) (given_takes p types (field_of (slice_get p.structs n) i) x) typed)) (field_referred (plan_of p) n i) refl may
    where
      by : Taken (field_of (slice_get p.structs n) i) → (o : Option ℕ) → field_referred (plan_of p) n i ≡ o → MayBeGiven p core o x → told.IsFollowed p args types own (op.SetField n v i x) ops rest e ex frames b at core qcore g h
      by taken None f may = set_plain_one p ok leads args types own ops rest e ex frames b at core qcore g h n v i x taken.t taken.is keeps f cn d
      by taken (Some m) f may =
          set_reference_one p ok leads args types own ops rest e ex frames b at core qcore g h n v i x taken.t taken.is keeps m f (λ s is. in_block m s f is) may
          (operand_alive (live (op.SetField n v i x ∷ ops) e) x (λ w u. or_first (among w (v ∷ variables_of x)) (not (sets None w) && live ops e w) (or_some (v == w) (among w (variables_of x)) u)) d.fits d.pointing d.counts) d

  set_item_any : (n v : ℕ) (y x : COperand) → Followed (op.SetItem n v y x)
  set_item_any n v y x typed (in_block, may, c) d =
      by (taken_from (items_of (slice_get p.structs n)) x (and_right (points (slice_get types v) && takes p types type.Signed y) (given_takes p types (items_of (slice_get p.structs n)) x) typed)) (items_referred (plan_of p) n) refl may
    where
      alive : (z : ℕ) → operand core.vars x ≡ Ptr z → 0 < count g.blocks z
      alive = operand_alive (live (op.SetItem n v y x ∷ ops) e) x (λ w u. or_first (among w (v ∷ variables_of y ++ variables_of x)) (not (sets None w) && live ops e w) (or_some (v == w) (among w (variables_of y ++ variables_of x)) (in_second w (variables_of y) (variables_of x) u))) d.fits d.pointing d.counts

      by : Taken (items_of (slice_get p.structs n)) → (o : Option ℕ) → items_referred (plan_of p) n ≡ o → MayBeGiven p core o x → told.IsFollowed p args types own (op.SetItem n v y x) ops rest e ex frames b at core qcore g h
      by taken None f may = set_plain_item_followed p based counting args types d.roots own ops rest e ex frames b core qcore g h at d.fits d.stands 0 d.room (structs_typed p ok) n v y x taken.t taken.is f c d.pointing d.counts
      by taken (Some m) f may =
          set_reference_item_followed p based counting args types d.roots own ops rest e ex frames b core qcore g h at d.fits d.stands 0 d.room (structs_typed p ok) n v y x taken.t taken.is m f (put_item_stands p based n c m f) (λ s is. in_block m s f is) may
          (counting.items n m c f).to.1 (counting.items n m c f).to.0 alive d.pointing d.counts

  is_nothing : {A : Type 0} (o : Option A) → is_none o ≡ true → o ≡ None
  is_nothing None f = refl
  is_nothing (Some x) f = absurd (cc)

  -- an array, whether its items are references or not
  module _ (a m n : ℕ) (x : COperand) where
    abbrev behind : List LlOp
    behind = dead (around_of (plan_of p) types) (touched (op.NewArray a m n x)) ops e rest

    abbrev tail_by : Option ℕ → List LlOp
    tail_by o = cleared_by (plan_of p) a n x o behind

    abbrev ArrayFollows : Option ℤ → Type 0
    ArrayFollows w = Follows p args types (live ops e) own (At (changed (around_of (plan_of p) types) (op.NewArray a m n x) behind) ex frames (here qcore core.function b at core.vars h (memory g))) rest ex frames b (st.on (st.new_items core (shapes_of p.structs) a n) w)

    word_is : (u : Value) (i : ℕ) → word_of u ≡ Some (pos i) → u ≡ Word (pos i)
    word_is (Word z) i f = let g : z ≡ pos i = cc in ap Word g
    word_is Unset i f = absurd (cc)
    word_is (Byte z) i f = absurd (cc)
    word_is (Flag z) i f = absurd (cc)
    word_is (Fun z) i f = absurd (cc)
    word_is Null i f = absurd (cc)
    word_is (Ptr z) i f = absurd (cc)
    word_is (Static z) i f = absurd (cc)

    kept_operand : (x : COperand) (v : Value) → among a (variables_of x) ≡ false → operand (slice_set core.vars a v) x ≡ operand core.vars x
    kept_operand (Var w) v ne = set_other core.vars a w v Unset (λ e. absurd (let z : among a (w ∷ []) ≡ true = subst (λ w. among a (w ∷ []) ≡ true) e (ap (λ b. b || false) (same_is a)) in let y : true ≡ false = sym z ∙ ne in cc))
    kept_operand (Const k) v ne = refl

    new_array_any : Followed (op.NewArray a m n x)
    new_array_any typed (make, unread, fill) d = by (word_of (operand core.vars x)) refl
      where
        not_read : among a (reads (op.NewArray a m n x)) ≡ false
        not_read = unread make.to make.refers

        moves : (k : ℕ) (tail : List LlOp) → word_of (operand core.vars x) ≡ Some (pos k)
            → step (counted p) args (At (op.NewArray a m n x ∷ header (plan_of p) a n tail) ex frames (here qcore core.function b at core.vars h (memory g)))
            ≡ Tells (Made (length core.blocks) n ((shape_at (shapes_counted (plan_of p)) n).size + k))
            (At (header (plan_of p) a n tail) ex frames (here qcore core.function b (at + 1) (slice_set core.vars a (Ptr (length core.blocks))) (h ++ Some (record { kind = n; fields = replicate (shape_at (shapes_counted (plan_of p)) n).size Unset; items = replicate k Unset }) ∷ []) (memory g)))
        moves k tail f =
            ap (λ w. goes_on (At (header (plan_of p) a n tail) ex frames) (st.on (st.new_items (here qcore core.function b at core.vars h (memory g)) (shapes_counted (plan_of p)) a n) w)) f
            ∙ ap (λ j. Tells (Made j n ((shape_at (shapes_counted (plan_of p)) n).size + k))
            (At (header (plan_of p) a n tail) ex frames (here qcore core.function b (at + 1) (slice_set core.vars a (Ptr j)) (h ++ Some (record { kind = n; fields = replicate (shape_at (shapes_counted (plan_of p)) n).size Unset; items = replicate k Unset }) ∷ []) (memory g))))
            (d.stands.shown.size ∙ sym d.stands.near.size)

        one : (k : ℕ) → word_of (operand core.vars x) ≡ Some (pos k) → (o : Option ℕ) → items_referred (plan_of p) n ≡ o → ArrayFollows (Some (pos k))
        one k f None none =
            made_followed p based counting args types d.roots own ops rest e ex frames b core qcore g h at d.fits d.stands (op.NewArray a m n x) a n k make.struct make.there make.counted refl make.to make.refers make.begins not_read make.inside behind _ _
            (no_rest p based counting args types d.roots own ops rest e ex frames b core qcore g h at d.fits d.stands (op.NewArray a m n x) a n k make.struct make.there make.counted refl make.to make.refers make.begins not_read make.inside none)
            (ap (λ o. op.NewArray a m n x ∷ header (plan_of p) a n (tail_by o)) none) (moves k behind f) d.pointing d.counts
        one k f (Some t) some =
            let x_is : operand core.vars x ≡ Word (pos k) = word_is (operand core.vars x) k f in
            made_followed p based counting args types d.roots own ops rest e ex frames b core qcore g h at d.fits d.stands (op.NewArray a m n x) a n k make.struct make.there make.counted refl make.to make.refers make.begins not_read make.inside (tail_by (Some t)) _ _
            (array_rest p based counting args types d.roots own ops rest e ex frames b core qcore g h at d.fits d.stands (op.NewArray a m n x) a n k make.struct make.there make.counted refl make.to make.refers make.begins not_read make.inside x t some
            (sym (ap (λ l. slice_get l 0) (ap fields_given make.there)) ∙ fill.number t some) (kept_operand x (Ptr (length core.blocks)) not_read ∙ x_is) (fill.short t k some x_is))
            (ap (λ o. op.NewArray a m n x ∷ header (plan_of p) a n (tail_by o)) some) (moves k (tail_by (Some t)) f) d.pointing d.counts

        by : (w : Option ℤ) → word_of (operand core.vars x) ≡ w → ArrayFollows w
        by None f = tt
        by (Some (negsuc k)) f = tt
        by (Some (pos k)) f = one k f (items_referred (plan_of p) n) refl

  pub operation_followed : (o : LlOp) → Followed o
  operation_followed (op.Set a x) typed (unread, may) d = set_one p ok leads args types own ops rest e ex frames b at core qcore g h a x typed unread may d
  operation_followed (op.GetField a n v i) typed (unread, may) d =
      let t : Given (field_of (slice_get p.structs n) i) a = given_by (field_of (slice_get p.structs n) i) a (and_right (points (slice_get types v)) (has_given types a (field_of (slice_get p.structs n) i)) typed) in
      get_field_one p ok leads args types own ops rest e ex frames b at core qcore g h a n v i t.t t.is t.typed unread apart may d
  operation_followed (op.GetItem a n v x) typed (unread, may) d =
      let t : Given (items_of (slice_get p.structs n)) a = given_by (items_of (slice_get p.structs n)) a (and_right (points (slice_get types v) && takes p types type.Signed x) (has_given types a (items_of (slice_get p.structs n))) typed) in
      get_item_one p ok leads args types own ops rest e ex frames b at core qcore g h a n v x t.t t.is t.typed unread apart may d
  operation_followed (op.SetField n v i x) typed ready d = set_field_any n v i x typed ready d
  operation_followed (op.SetItem n v y x) typed ready d = set_item_any n v y x typed ready d
  operation_followed (op.New a m n) typed make d = new_one p ok leads args types own ops rest e ex frames b at core qcore g h a m n make.to make.struct make.there make.counted make.refers make.begins make.inside (ap (reference_given (plan_of p).counted) (is_nothing (items_of (slice_get p.structs n)) (and_right (has_type (type.Ptr m) (slice_get types a) && begins p.structs n m) _ typed))) d
  operation_followed (op.NewArray a m n x) typed ready d = new_array_any a m n x typed ready d
  operation_followed (op.ExcType a n) typed take d = exc_type_one p ok leads args types own ops rest e ex frames b at core qcore g h a n take.inside take.may take.held d
  operation_followed (op.ExcValue a n) typed take d = exc_value_one p ok leads args types own ops rest e ex frames b at core qcore g h a n take.inside take.may take.held d
  operation_followed (op.Unary a o x) typed ready d = words_one p ok leads args types own ops rest e ex frames b at core qcore g h (op.Unary a o x) typed refl d
  operation_followed (op.Binary a o x y) typed ready d = words_one p ok leads args types own ops rest e ex frames b at core qcore g h (op.Binary a o x y) typed refl d
  operation_followed (op.Step x) typed ready d = words_one p ok leads args types own ops rest e ex frames b at core qcore g h (op.Step x) typed refl d
  operation_followed (op.Argc a) typed ready d = words_one p ok leads args types own ops rest e ex frames b at core qcore g h (op.Argc a) typed refl d
  operation_followed (op.ArgLen a x) typed ready d = words_one p ok leads args types own ops rest e ex frames b at core qcore g h (op.ArgLen a x) typed refl d
  operation_followed (op.Arg a x y) typed ready d = words_one p ok leads args types own ops rest e ex frames b at core qcore g h (op.Arg a x y) typed refl d
  operation_followed (op.Put x) typed ready d = words_one p ok leads args types own ops rest e ex frames b at core qcore g h (op.Put x) typed refl d
  operation_followed other typed ready d = absurd ready
