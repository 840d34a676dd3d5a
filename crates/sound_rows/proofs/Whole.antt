-- Each operation is sound.
use Rattle.std.proofs.Common.{◌≡◌, ℕ, Bool, true, false, List, [], ◌∷◌, ◌++◌, Option, Some, None, refl, ap, sym, subst, ◌∙◌, arith}
use Rattle.std.specs.Prelude.{ℤ, pos, ◌||◌, not, int_le, if◌then◌else◌}
use Rattle.rpy_tree.specs.declared.syntax.BinOp.{BinOp}
use Rattle.rpy_tree.specs.declared.syntax.BinOp.TheVariants as bin
use Rattle.rpy_tree.specs.Value.{Value, Word, Flag, Text, Nothing, Tuple, Fun, Ref, Listed, Mapped}
use Rattle.rpy_meaning.specs.declared.row.Covers.{Covers}
use Rattle.rpy_meaning.specs.declared.row.RowOp.{RowOp}
use Rattle.rpy_meaning.specs.declared.row.RowOp.TheVariants as row
use Rattle.rpy_meaning.specs.World.{World, Op, give, flag, paying, new_object}
use Rattle.rpy_meaning.specs.Costs.{turn_cost, dict_cost, comprehension_cost}
use Rattle.rpy_meaning.specs.Arithmetic as arithmetic
use Rattle.rpy_meaning.specs.Sequences as sequences
use Rattle.rpy_meaning.specs.Methods as methods
use Rattle.rpy_meaning.specs.Walks as walks
use Rattle.rpy_meaning.specs.Operations as operations
use Rattle.rpy_meaning.specs.Operations.{op, with_none, with_one, with_two, with_three}
use Rattle.ann_lattice.specs.Shape.{Shape, NoneOnly, Truth, Num}
use Rattle.ann_lattice.specs.Shape as shape
use Rattle.ann_lattice.specs.Join.{is_clash}
use Rattle.ann_lattice.specs.Kind.{misfit, is_positive, some_nothing, some_clash, all_positive}
use Rattle.ann_lattice.specs.Row as rows
use Rattle.ann_lattice.specs.Row.{of_none, of_one, of_two, of_three, counted, fitting, pieces}
use Rattle.ann_rules.specs.Asks.{asks, parts}
use Rattle.ann_rules.specs.Rules.{is_unfit, pieces_for}
use Rattle.sound_values.specs.Values as values
use Rattle.sound_rows.specs.Told.{IsTold}
use Rattle.sound_rows.specs.Sound.{Fits, Sound, IsSound, is_raise}
use Rattle.sound_rows.proofs.Tools.{yes, Setting, Sounds, Has, Have, Under, misfits, fits, give_ok, give_of, paying_ok}
use Rattle.sound_rows.proofs.Operands.{IsWord, and_left, and_right, word_of, three_values, zero_ok, misfits_by}
use Rattle.sound_rows.proofs.Words.{num_ok, unary_ok, checked_neg_ok, checked_ok, intmask_ok, least_ok, greatest_ok}
use Rattle.sound_rows.proofs.Tests.{reached, is_true_ok, is_not_true_ok, compare_ok}
use Rattle.sound_rows.proofs.Texts.{len_ok, ord_ok, chr_ok, to_text_ok, to_word_ok, os_write_ok, print_ok}
use Rattle.sound_rows.proofs.Containers.{Met, IsLiteral, index_is_ok, store_index_ok, delete_index_ok, part_ok, but_last_keeps, part_between_ok}
use Rattle.sound_rows.proofs.Making.{HasSite, binary_ok, add_to_ok, new_tuple_ok, unpack_ok, new_list_is_ok, new_dict_ok, comprehension_ok, add_item_ok}
use Rattle.sound_rows.proofs.Walks.{Walking, Going, Placed, walk_ok, has_item_ok, item_ok, advance_ok, drop_none_ok, only_none_ok, false_none_ok, non_negative_ok}
use Rattle.sound_rows.proofs.Instances.{is_instance_ok, lower_ok, attribute_ok, store_attribute_ok, raise_ok}
use Rattle.sound_rows.proofs.Constants.{text_value, flag_is, constant_goes}
use Rattle.sound_rows.proofs.Calls.{call_ok, call_of_fits, call_value_ok, new_ok}
use Rattle.sound_rows.proofs.Receivers.{positive_int, Pieces, Parted, each_first, method_ok}

-- ---- what fits

or_first : (a b : Bool) → (a || b) ≡ false → a ≡ false
or_first false b e = refl
or_first true b e = absurd (yes e)

or_second : (a b : Bool) → (a || b) ≡ false → b ≡ false
or_second false b e = e
or_second true b e = absurd (yes e)

module _ (s : Setting) where
  pub all_reached : (xs : List Shape) (vs : List Value) → Have s xs vs → some_nothing xs ≡ false
  all_reached [] vs h = refl
  all_reached (x ∷ xs) [] h = absurd h
  all_reached (x ∷ xs) (v ∷ vs) h = ap (λ b. b || some_nothing xs) (reached s x v h.0) ∙ all_reached xs vs h.1

  under_split : (xs ys : List Shape) → Pieces s (xs ++ ys) → Pieces s xs × Pieces s ys
  under_split [] ys h = (tt, h)
  under_split (x ∷ xs) ys h = let r = under_split xs ys h.1 in ((h.0, r.0), r.1)

  pieces_by : (b c : Bool) (ys : List Shape) → b ≡ false → Pieces s (if b then [] else if c then misfit ∷ [] else ys) → (c ≡ false) × Pieces s ys
  pieces_by true c ys e h = absurd (yes e)
  pieces_by false true ys e h = absurd (misfits s h.0)
  pieces_by false false ys e h = (refl, h)

  fitting_for : (o : RowOp) (xs : List Shape) (q : Shape) → some_nothing xs ≡ false → Pieces s (pieces s.p.tables o xs q) → (some_clash xs ≡ false) × Pieces s (fitting s.p.tables o xs q)
  fitting_for o xs q e h = pieces_by (some_nothing xs) (some_clash xs) (fitting s.p.tables o xs q) e h

  fitting_each : (g : ℕ) (o : RowOp) (xs qs : List Shape) → some_nothing xs ≡ false → Pieces s (pieces_for s.p s.a g o xs qs) → Parted s (fitting s.p.tables o xs) qs
  fitting_each g o xs [] e h = tt
  fitting_each g o xs (q ∷ qs) e h =
      let hs = under_split (pieces s.p.tables o xs q) (pieces_for s.p s.a g o xs qs) h in
      ((fitting_for o xs q e hs.0).1, fitting_each g o xs qs e hs.1)

  module _ (w : World) (same : w.heap ≡ s.heap) where
    -- what is known where an operation is done
    pub record Facts (o : RowOp) (xs : List Shape) (vs : List Value) : Type 0 where
      pub clear : some_clash xs ≡ false
      pub plain : Pieces s (fitting s.p.tables o xs shape.Nothing)
      pub parted : Parted s (fitting s.p.tables o xs) (parts s.p s.a o xs)
      pub met : Met s (asks s.p s.a o xs)
      pub told : IsTold s.q w o vs

    asked_by : (g : ℕ) (o : RowOp) (xs : List Shape) (b : Bool) → Pieces s (if b then misfit ∷ [] else pieces_for s.p s.a g o xs (shape.Nothing ∷ parts s.p s.a o xs))
        → Pieces s (pieces_for s.p s.a g o xs (shape.Nothing ∷ parts s.p s.a o xs))
    asked_by g o xs true h = absurd (misfits s h.0)
    asked_by g o xs false h = h

    facts_of : (g node : ℕ) (o : RowOp) (xs : List Shape) (vs : List Value) → Have s xs vs → IsTold s.q w o vs → Fits s.p s.a g o node xs s.z → Facts o xs vs
    facts_of g node o xs vs h t f =
        let all = asked_by g o xs (is_unfit s.p s.a g o xs node) f.above in
        let e = all_reached xs vs h in
        let hs = under_split (pieces s.p.tables o xs shape.Nothing) (pieces_for s.p s.a g o xs (parts s.p s.a o xs)) all in
        let plain = fitting_for o xs shape.Nothing e hs.0 in
        record { clear = plain.0; plain = plain.1; parted = fitting_each g o xs (parts s.p s.a o xs) e hs.1; met = f.met; told = t }

    abbrev Now : Op → Type 0
    Now f = Sound s.p s.a s.q s.raises s.sorts s.z (f w)

    -- ---- by how many operands there are

    one_now : (f : Value → Op) (x : Shape) (vs : List Value) → Have s (x ∷ []) vs → (P : List Value → Type 0) → P vs → ((v : Value) → Has s x v → P (v ∷ []) → Now (f v)) → Now (with_one f vs)
    one_now f x [] h P t go = absurd h
    one_now f x (v ∷ []) h P t go = go v h.0 t
    one_now f x (v ∷ u ∷ vs) h P t go = absurd h.1

    two_now : (f : Value → Value → Op) (x y : Shape) (vs : List Value) → Have s (x ∷ y ∷ []) vs → (P : List Value → Type 0) → P vs → ((v u : Value) → Has s x v → Has s y u → P (v ∷ u ∷ []) → Now (f v u)) → Now (with_two f vs)
    two_now f x y [] h P t go = absurd h
    two_now f x y (v ∷ []) h P t go = absurd h.1
    two_now f x y (v ∷ u ∷ []) h P t go = go v u h.0 h.1.0 t
    two_now f x y (v ∷ u ∷ r ∷ vs) h P t go = absurd h.1.1

    one : (o : RowOp) (f : Value → Op) (xs : List Shape) (vs : List Value) → Have s xs vs → Facts o xs vs → Under s (counted s.p.tables o xs shape.Nothing)
        → of_none o ≡ misfit → ((x y : Shape) → of_two s.p.tables o x y shape.Nothing ≡ misfit) → ((x y z : Shape) → of_three o x y z ≡ misfit)
        → ((x : Shape) (v : Value) → Has s x v → Under s (of_one s.p.tables o x shape.Nothing) → Facts o (x ∷ []) (v ∷ []) → Now (f v)) → Now (with_one f vs)
    one o f [] vs h k b zero two three go = absurd (misfits_by s _ zero b)
    one o f (x ∷ []) vs h k b zero two three go = one_now f x vs h (Facts o (x ∷ [])) k (λ v i l. go x v i b l)
    one o f (x ∷ y ∷ []) vs h k b zero two three go = absurd (misfits_by s _ (two x y) b)
    one o f (x ∷ y ∷ z ∷ []) vs h k b zero two three go = absurd (misfits_by s _ (three x y z) b)
    one o f (x ∷ y ∷ z ∷ u ∷ xs) vs h k b zero two three go = absurd (misfits s b)

    two : (o : RowOp) (f : Value → Value → Op) (xs : List Shape) (vs : List Value) → Have s xs vs → Facts o xs vs → Under s (counted s.p.tables o xs shape.Nothing)
        → of_none o ≡ misfit → ((x : Shape) → of_one s.p.tables o x shape.Nothing ≡ misfit) → ((x y z : Shape) → of_three o x y z ≡ misfit)
        → ((x y : Shape) (v u : Value) → Has s x v → Has s y u → Under s (of_two s.p.tables o x y shape.Nothing) → Facts o (x ∷ y ∷ []) (v ∷ u ∷ []) → Now (f v u)) → Now (with_two f vs)
    two o f [] vs h k b zero one three go = absurd (misfits_by s _ zero b)
    two o f (x ∷ []) vs h k b zero one three go = absurd (misfits_by s _ (one x) b)
    two o f (x ∷ y ∷ []) vs h k b zero one three go = two_now f x y vs h (Facts o (x ∷ y ∷ [])) k (λ v u i j l. go x y v u i j b l)
    two o f (x ∷ y ∷ z ∷ []) vs h k b zero one three go = absurd (misfits_by s _ (three x y z) b)
    two o f (x ∷ y ∷ z ∷ u ∷ xs) vs h k b zero one three go = absurd (misfits s b)

    three : (o : RowOp) (f : Value → Value → Value → Op) (xs : List Shape) (vs : List Value) → Have s xs vs → Facts o xs vs → Under s (counted s.p.tables o xs shape.Nothing)
        → of_none o ≡ misfit → ((x : Shape) → of_one s.p.tables o x shape.Nothing ≡ misfit) → ((x y : Shape) → of_two s.p.tables o x y shape.Nothing ≡ misfit)
        → ((x y z : Shape) (v u t : Value) → Has s x v → Has s y u → Has s z t → Under s (of_three o x y z) → Met s (asks s.p s.a o (x ∷ y ∷ z ∷ [])) → Sounds s (f v u t)) → Now (with_three f vs)
    three o f [] vs h k b zero one two go = absurd (misfits_by s _ zero b)
    three o f (x ∷ []) vs h k b zero one two go = absurd (misfits_by s _ (one x) b)
    three o f (x ∷ y ∷ []) vs h k b zero one two go = absurd (misfits_by s _ (two x y) b)
    three o f (x ∷ y ∷ z ∷ []) vs h k b zero one two go = three_values s f x y z vs h (λ v u t i j l. go x y z v u t i j l b k.met) w same
    three o f (x ∷ y ∷ z ∷ u ∷ xs) vs h k b zero one two go = absurd (misfits s b)

    -- ---- what is told

    literal_told : (l : Option ℤ) (v u : Value) → IsTold s.q w (row.Index l) (v ∷ u ∷ []) → IsLiteral s l u
    literal_told None v u t = tt
    literal_told (Some z) v u t = t

    walk_told : (step : Option ℤ) (v u : Value) → IsTold s.q w (row.HasItem step) (v ∷ u ∷ []) → Walking s step v u
    walk_told None v u t = t
    walk_told (Some step) v u t = tt

    item_told : (step : Option ℤ) (v u : Value) → IsTold s.q w (row.Item step) (v ∷ u ∷ []) → Going s step v u w
    item_told None v u t = t
    item_told (Some step) v u t = tt

    place_told : (step : Option ℤ) (v u : Value) → IsTold s.q w (row.Advance step) (v ∷ u ∷ []) → Placed s step u
    place_told None v u t = t
    place_told (Some step) v u t = tt

    site_told : (o : BinOp) (site : Option ℕ) (v u : Value) → IsTold s.q w (row.Binary o site) (v ∷ u ∷ []) → o ≡ bin.Add → HasSite s site v
    site_told o (Some site) v u t e = tt
    site_told o None v u t e = bare v (subst (λ p. IsTold s.q w (row.Binary p None) (v ∷ u ∷ [])) e t)
      where
        bare : (v : Value) → IsTold s.q w (row.Binary bin.Add None) (v ∷ u ∷ []) → HasSite s None v
        bare (Word z) t = tt
        bare (Flag z) t = tt
        bare (Text z) t = tt
        bare Nothing t = tt
        bare (Tuple z) t = tt
        bare (Fun z) t = tt
        bare (Ref r) t = t

    -- ---- slices

    bound_of : (x : Shape) (v : Value) → Has s x v → is_positive x ≡ true → IsWord v
    bound_of x v h e = word_of s x v h (positive_int x e)

    slice_ok : (c : Covers) (site : ℕ) (low high : Bool) (xs : List Shape) (vs : List Value) → Have s xs vs → Under s (rows.bounded_slice site xs) → IsTold s.q w (row.Slice site low high) vs
        → Met s (asks s.p s.a (row.Slice site low high) xs) → Sounds s (sequences.slice c low high vs)
    slice_ok c site low high [] vs h b t m = absurd (misfits s b)
    slice_ok c site low high (x ∷ xs) [] h b t m = absurd h
    slice_ok c site false false (x ∷ xs) (v ∷ []) h b t m = part_between_ok s c site None None x v h.0 (fits s (all_positive xs) (rows.slice site x) b).1 m
    slice_ok c site false false (x ∷ xs) (v ∷ u ∷ us) h b t m = absurd (omega (arith, t))
    slice_ok c site true false (x ∷ xs) (v ∷ []) h b t m = absurd (omega (arith, t))
    slice_ok c site true false (x ∷ []) (v ∷ u ∷ us) h b t m = absurd h.1
    slice_ok c site true false (x ∷ y ∷ xs) (v ∷ u ∷ []) h b t m =
        let g = fits s (all_positive (y ∷ xs)) (rows.slice site x) b in
        let n = bound_of y u h.1.0 (and_left (is_positive y) (all_positive xs) g.0) in
        subst (λ p. Sounds s (sequences.slice c true false (v ∷ p ∷ []))) (sym n.is) (part_between_ok s c site (Some n.number) None x v h.0 g.1 m)
    slice_ok c site true false (x ∷ xs) (v ∷ u ∷ r ∷ us) h b t m = absurd (omega (arith, t))
    slice_ok c site false true (x ∷ xs) (v ∷ []) h b t m = absurd (omega (arith, t))
    slice_ok c site false true (x ∷ []) (v ∷ u ∷ us) h b t m = absurd h.1
    slice_ok c site false true (x ∷ y ∷ xs) (v ∷ u ∷ []) h b t m =
        let g = fits s (all_positive (y ∷ xs)) (rows.slice site x) b in
        let n = bound_of y u h.1.0 (and_left (is_positive y) (all_positive xs) g.0) in
        subst (λ p. Sounds s (sequences.slice c false true (v ∷ p ∷ []))) (sym n.is) (part_between_ok s c site None (Some n.number) x v h.0 g.1 m)
    slice_ok c site false true (x ∷ xs) (v ∷ u ∷ r ∷ us) h b t m = absurd (omega (arith, t))
    slice_ok c site true true (x ∷ xs) (v ∷ []) h b t m = absurd (omega (arith, t))
    slice_ok c site true true (x ∷ xs) (v ∷ u ∷ []) h b t m = absurd (omega (arith, t))
    slice_ok c site true true (x ∷ []) (v ∷ u ∷ r ∷ us) h b t m = absurd h.1
    slice_ok c site true true (x ∷ y ∷ []) (v ∷ u ∷ r ∷ us) h b t m = absurd h.1.1
    slice_ok c site true true (x ∷ y ∷ z ∷ xs) (v ∷ u ∷ r ∷ []) h b t m =
        let g = fits s (all_positive (y ∷ z ∷ xs)) (rows.slice site x) b in
        let rest = and_right (is_positive y) (all_positive (z ∷ xs)) g.0 in
        let n = bound_of y u h.1.0 (and_left (is_positive y) (all_positive (z ∷ xs)) g.0) in
        let l = bound_of z r h.1.1.0 (and_left (is_positive z) (all_positive xs) rest) in
        subst (λ p. Sounds s (sequences.slice c true true (v ∷ p ∷ r ∷ []))) (sym n.is)
        (subst (λ p. Sounds s (sequences.slice c true true (v ∷ Word n.number ∷ p ∷ []))) (sym l.is) (part_between_ok s c site (Some n.number) (Some l.number) x v h.0 g.1 m))
    slice_ok c site true true (x ∷ xs) (v ∷ u ∷ r ∷ q ∷ us) h b t m = absurd (omega (arith, t))

    -- ---- all operations

    op_ok : (c : Covers) (o : RowOp) (xs : List Shape) (vs : List Value) → Have s xs vs → Facts o xs vs → s.raises ≡ is_raise o → Now (op s.q c o vs)
    op_ok c (row.Word z) xs vs h k r = zero_ok s (row.Word z) shape.Nothing (give (Word z)) xs vs h k.plain.0 (λ x. refl) (λ x y. refl) (λ x y z. refl) (λ b. num_ok s (not (int_le (pos 0) z)) z b) w same
    op_ok c (row.Str bytes) xs vs h k r = zero_ok s (row.Str bytes) shape.Nothing (give (Text bytes)) xs vs h k.plain.0 (λ x. refl) (λ x y. refl) (λ x y z. refl) (λ b. give_of s _ (Text bytes) b (text_value s.p s.a s.q s.sees s.sorts s.typed.prebuilt bytes)) w same
    op_ok c (row.Bool n) xs vs h k r = zero_ok s (row.Bool n) shape.Nothing (flag n) xs vs h k.plain.0 (λ x. refl) (λ x y. refl) (λ x y z. refl) (λ b. give_of s (Truth (Some n)) (Flag n) b (flag_is s.p s.a s.q s.sees s.sorts s.typed.prebuilt n)) w same
    op_ok c row.None xs vs h k r = zero_ok s row.None shape.Nothing (give Nothing) xs vs h k.plain.0 (λ x. refl) (λ x y. refl) (λ x y z. refl) (λ b. give_of s NoneOnly Nothing b values.none) w same
    op_ok c (row.Constant a) xs vs h k r = zero_ok s (row.Constant a) shape.Nothing (give (operations.constant s.q.sites a)) xs vs h k.plain.0 (λ x. refl) (λ x y. refl) (λ x y z. refl) (λ b. give_ok s (operations.constant s.q.sites a) (constant_goes s.p s.a s.q s.sees s.sorts s.typed.prebuilt a s.z k.told k.met b)) w same
    op_ok c row.Copy xs vs h k r = one row.Copy give xs vs h k k.plain.0 refl (λ x y. refl) (λ x y z. refl) (λ x v i b l. give_of s x v b i w same)
    op_ok c (row.Unary n) xs vs h k r = one (row.Unary n) (arithmetic.unary n) xs vs h k k.plain.0 refl (λ x y. refl) (λ x y z. refl) (λ x v i b l. unary_ok s n x v i b w same)
    op_ok c (row.Binary n site) xs vs h k r = two (row.Binary n site) (sequences.binary c n) xs vs h k k.plain.0 refl (λ x. refl) (λ x y z. refl) (λ x y v u i j b l. binary_ok s c n site x y v u i j (site_told n site v u l.told) b l.met w same)
    op_ok c row.AddTo xs vs h k r = two row.AddTo (sequences.add_to c) xs vs h k k.plain.0 refl (λ x. refl) (λ x y z. refl) (λ x y v u i j b l. add_to_ok s c x y v u i j b l.met w same)
    op_ok c row.CheckedNeg xs vs h k r = one row.CheckedNeg arithmetic.checked_neg xs vs h k k.plain.0 refl (λ x y. refl) (λ x y z. refl) (λ x v i b l. checked_neg_ok s x v i b w same)
    op_ok c (row.Checked n) xs vs h k r = two (row.Checked n) (arithmetic.checked c n) xs vs h k k.plain.0 refl (λ x. refl) (λ x y z. refl) (λ x y v u i j b l. checked_ok s c n x y v u i j b w same)
    op_ok c (row.Compare n) xs vs h k r = two (row.Compare n) (operations.compare c n) xs vs h k k.plain.0 refl (λ x. refl) (λ x y z. refl) (λ x y v u i j b l. compare_ok s c n x y v u i j (or_first (is_clash x) (is_clash y || false) l.clear) (or_first (is_clash y) false (or_second (is_clash x) (is_clash y || false) l.clear)) b w same)
    op_ok c row.Not xs vs h k r = one row.Not operations.is_not_true xs vs h k k.plain.0 refl (λ x y. refl) (λ x y z. refl) (λ x v i b l. is_not_true_ok s x v i b w same)
    op_ok c row.Truth xs vs h k r = one row.Truth operations.is_true xs vs h k k.plain.0 refl (λ x y. refl) (λ x y z. refl) (λ x v i b l. is_true_ok s x v i b w same)
    op_ok c row.Intmask xs vs h k r = one row.Intmask (arithmetic.on_word (λ z. give (Word z))) xs vs h k k.plain.0 refl (λ x y. refl) (λ x y z. refl) (λ x v i b l. intmask_ok s x v i b w same)
    op_ok c row.Min xs vs h k r = two row.Min arithmetic.least xs vs h k k.plain.0 refl (λ x. refl) (λ x y z. refl) (λ x y v u i j b l. least_ok s x y v u i j b w same)
    op_ok c row.Max xs vs h k r = two row.Max arithmetic.greatest xs vs h k k.plain.0 refl (λ x. refl) (λ x y z. refl) (λ x y v u i j b l. greatest_ok s x y v u i j b w same)
    op_ok c row.Len xs vs h k r = one row.Len (methods.len c) xs vs h k k.plain.0 refl (λ x y. refl) (λ x y z. refl) (λ x v i b l. len_ok s c x v i b w same)
    op_ok c row.Ord xs vs h k r = one row.Ord methods.ord xs vs h k k.plain.0 refl (λ x y. refl) (λ x y z. refl) (λ x v i b l. ord_ok s x v i b w same)
    op_ok c row.Chr xs vs h k r = one row.Chr (methods.chr c) xs vs h k k.plain.0 refl (λ x y. refl) (λ x y z. refl) (λ x v i b l. chr_ok s c x v i b w same)
    op_ok c row.ToStr xs vs h k r = one row.ToStr methods.to_text xs vs h k k.plain.0 refl (λ x y. refl) (λ x y z. refl) (λ x v i b l. to_text_ok s x v i b w same)
    op_ok c row.ToInt xs vs h k r = one row.ToInt methods.to_word xs vs h k k.plain.0 refl (λ x y. refl) (λ x y z. refl) (λ x v i b l. to_word_ok s x v i b w same)
    op_ok c row.Write xs vs h k r = two row.Write operations.os_write xs vs h k k.plain.0 refl (λ x. refl) (λ x y z. refl) (λ x y v u i j b l. os_write_ok s x y v u j l.told b w same)
    op_ok c (row.IsInstance d) xs vs h k r = one (row.IsInstance d) (operations.is_instance s.q c d) xs vs h k k.plain.0 refl (λ x y. refl) (λ x y z. refl) (λ x v i b l. is_instance_ok s c d x v i b w same)
    op_ok c (row.Index n) xs vs h k r = two (row.Index n) (sequences.index c) xs vs h k k.plain.0 refl (λ x. refl) (λ x y z. refl) (λ x y v u i j b l. index_is_ok s c n x y v u i j (literal_told n v u l.told) b (each_first s (rows.index n x y) (parts s.p s.a (row.Index n) (x ∷ y ∷ [])) l.parted) w same)
    op_ok c row.StoreIndex xs vs h k r = three row.StoreIndex (sequences.store_index c) xs vs h k k.plain.0 refl (λ x. refl) (λ x y. refl) (λ x y z v u t i j l b m. store_index_ok s c x y z v u t i j l b m)
    op_ok c row.DeleteIndex xs vs h k r = two row.DeleteIndex (sequences.delete_index c) xs vs h k k.plain.0 refl (λ x. refl) (λ x y z. refl) (λ x y v u i j b l. delete_index_ok s c x y v u i j b w same)
    op_ok c (row.Attr name) xs vs h k r = one (row.Attr name) (operations.attribute s.q c name) xs vs h k k.plain.0 refl (λ x y. refl) (λ x y z. refl) (λ x v i b l. attribute_ok s c name x v i b (each_first s (rows.attribute s.p.tables name x) (parts s.p s.a (row.Attr name) (x ∷ [])) l.parted) w same)
    op_ok c (row.StoreAttr name) xs vs h k r = two (row.StoreAttr name) (operations.store_attribute s.q c name) xs vs h k k.plain.0 refl (λ x. refl) (λ x y z. refl) (λ x y v u i j b l. store_attribute_ok s c name x y v u i j b l.met w same)
    op_ok c (row.Slice site low high) xs vs h k r = slice_ok c site low high xs vs h k.plain.0 k.told k.met w same
    op_ok c (row.AllButLast site) xs vs h k r = one (row.AllButLast site) (sequences.all_but_last c) xs vs h k k.plain.0 refl (λ x y. refl) (λ x y z. refl) (λ x v i b l. part_ok s c site sequences.but_last (but_last_keeps s) x v i b l.met w same)
    op_ok c row.Tuple xs vs h k r = new_tuple_ok s xs vs h k.plain.0 w same
    op_ok c (row.List site) xs vs h k r = new_list_is_ok s site xs vs h k.plain.0 k.met w same
    op_ok c (row.Dict site) xs vs h k r = zero_ok s (row.Dict site) shape.Nothing (paying dict_cost (new_object (Mapped []))) xs vs h k.plain.0 (λ x. refl) (λ x y. refl) (λ x y z. refl) (λ b. new_dict_ok s site b) w same
    op_ok c (row.Comprehension site) xs vs h k r = zero_ok s (row.Comprehension site) shape.Nothing (paying comprehension_cost (new_object (Listed []))) xs vs h k.plain.0 (λ x. refl) (λ x y. refl) (λ x y z. refl) (λ b. comprehension_ok s site b) w same
    op_ok c row.AddItem xs vs h k r = two row.AddItem operations.add_item xs vs h k k.plain.0 refl (λ x. refl) (λ x y z. refl) (λ x y v u i j b l. add_item_ok s x y v u i j l.told b l.met w same)
    op_ok c (row.Call f) xs vs h k r = call_ok s f xs vs h k.met k.parted.0.0 w same
    op_ok c (row.CallOf d f) xs vs h k r = call_ok s f xs vs h k.met (call_of_fits s d xs _ k.parted.0.0) w same
    op_ok c row.CallValue xs vs h k r = call_value_ok s c xs vs h k.plain.0 (each_first s (rows.call_value xs) (parts s.p s.a row.CallValue xs) k.parted) k.met w same
    op_ok c (row.New d) xs vs h k r = new_ok s c d xs vs h k.plain.0 k.met w same
    op_ok c (row.Method name site) xs vs h k r = method_ok s c name site xs vs h k.plain k.parted k.met w same
    op_ok c row.Raise xs vs h k r = one row.Raise (operations.raise s.q c) xs vs h k k.plain.0 refl (λ x y. refl) (λ x y z. refl) (λ x v i b l. raise_ok s c x v i r b w same)
    op_ok c row.Print xs vs h k r = print_ok s xs vs h k.plain.0 w same
    op_ok c (row.Walk site) xs vs h k r = one (row.Walk site) (walks.walk c) xs vs h k k.plain.0 refl (λ x y. refl) (λ x y z. refl) (λ x v i b l. walk_ok s c site x v i b l.met w same)
    op_ok c (row.HasItem step) xs vs h k r = two (row.HasItem step) (walks.has_item step) xs vs h k k.plain.0 refl (λ x. refl) (λ x y z. refl) (λ x y v u i j b l. has_item_ok s step x y v u i j (walk_told step v u l.told) b w same)
    op_ok c (row.Item step) xs vs h k r = two (row.Item step) (walks.item step) xs vs h k k.plain.0 refl (λ x. refl) (λ x y z. refl) (λ x y v u i j b l. item_ok s step x y v u w same i j (item_told step v u l.told) b (each_first s (rows.item step x y) (parts s.p s.a (row.Item step) (x ∷ y ∷ [])) l.parted))
    op_ok c (row.Advance step) xs vs h k r = two (row.Advance step) (walks.advance step) xs vs h k k.plain.0 refl (λ x. refl) (λ x y z. refl) (λ x y v u i j b l. advance_ok s step x y v u i j (place_told step v u l.told) b w same)
    op_ok c row.Turn xs vs h k r = zero_ok s row.Turn shape.Nothing (paying turn_cost (give Nothing)) xs vs h k.plain.0 (λ x. refl) (λ x y. refl) (λ x y z. refl) (λ b. paying_ok s turn_cost (give Nothing) (give_of s NoneOnly Nothing b values.none)) w same
    op_ok c (row.Unpack n place) xs vs h k r = one (row.Unpack n place) (operations.unpack n place) xs vs h k k.plain.0 refl (λ x y. refl) (λ x y z. refl) (λ x v i b l. unpack_ok s n place x v i b w same)
    op_ok c row.DropNone xs vs h k r = one row.DropNone give xs vs h k k.plain.0 refl (λ x y. refl) (λ x y z. refl) (λ x v i b l. drop_none_ok s x v i l.told b w same)
    op_ok c row.OnlyNone xs vs h k r = one row.OnlyNone give xs vs h k k.plain.0 refl (λ x y. refl) (λ x y z. refl) (λ x v i b l. only_none_ok s v l.told b w same)
    op_ok c row.FalseNone xs vs h k r = one row.FalseNone give xs vs h k k.plain.0 refl (λ x y. refl) (λ x y z. refl) (λ x v i b l. false_none_ok s x v w same i l.told b)
    op_ok c (row.Lower d) xs vs h k r = one (row.Lower d) give xs vs h k k.plain.0 refl (λ x y. refl) (λ x y z. refl) (λ x v i b l. lower_ok s d x v w same i l.told b)
    op_ok c row.NonNegative xs vs h k r = two row.NonNegative (λ x y. give x) xs vs h k k.plain.0 refl (λ x. refl) (λ x y z. refl) (λ x y v u i j b l. non_negative_ok s x y v i b w same)

pub each_is_sound : (o : RowOp) → IsSound o
each_is_sound o p a q sees c g node xs vs sorts w z typed h t f =
    let s : Setting = record { p = p; a = a; q = q; sees = sees; sorts = sorts; heap = w.heap; typed = typed; raises = is_raise o; z = z; free = f.free } in
    op_ok s w refl c o xs vs h (facts_of s w refl g node o xs vs h t f) refl
