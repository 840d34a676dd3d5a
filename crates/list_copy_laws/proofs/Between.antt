-- The loop that copies items from an array into another, or behind them into the same one.
use Rattle.std.proofs.Common.{◌≡◌, ◌<◌, ℕ, zero, suc, ◌+◌, ◌^◌, ◌||◌, Bool, true, false, List, [], ◌∷◌, ◌++◌, length, Option, Some, None, pos, refl, sym, ap, ◌∙◌, arith, append_assoc, length-append}
use Rattle.std.specs.Prelude.{slice_get, slice_set, slice_index_or, if◌then◌else◌}
use Rattle.csub_tree.specs.State.{Value, Unset, Word, Flag, Ptr, Static, Block, Core}
use Rattle.csub_tree.specs.Layout.{shape_at, shape_over}
use Rattle.csub_tree.specs.Operation.{is_unset}
use Rattle.csub_tree.specs.Statement.{read}
use Rattle.csub_tree.specs.declared.tree.CBinary.TheVariants as binary
use Rattle.csub_tree.specs.declared.tree.COperand.TheVariants.{Var}
use Rattle.ll_code.specs.State.{Frame, State, Calling, At}
use Rattle.ll_code.specs.Machine.{shapes_of}
use Rattle.ll_code.specs.declared.program.LlType.{LlType}
use Rattle.ll_code.specs.declared.program.LlOp.{LlOp}
use Rattle.ll_code.specs.declared.program.LlOp.TheVariants as op
use Rattle.ll_code.specs.declared.program.LlGraph.{LlGraph}
use Rattle.ll_code.specs.declared.program.LlProgram.{LlProgram}
use Rattle.ll_leads.specs.Memory.{forgotten}
use Rattle.ll_leads.proofs.Joined.{leads_then, leads_more}
use Rattle.ll_leads.proofs.Ways.{many, enter, gives}
use Rattle.ll_texts.specs.Texts.{found}
use Rattle.ll_texts.proofs.Numbers.{adds, subs}
use Rattle.ll_texts.proofs.Writing.{put_mid}
use Rattle.rtyper_layout.specs.declared.layout.Layout.{Layout}
use Rattle.rtyper_data.specs.declared.found.Found.{Found}
use Rattle.rtyper_data.specs.Converting.{value_as, converted}
use Rattle.rtyper_data.specs.Numbers.{word as word_operand}
use Rattle.rtyper_data.specs.Seen.{Writing, writing}
use Rattle.list_shape.specs.Shapes.{item_of}
use Rattle.list_loops.specs.Loops.{copy_types, copy_set, copied, copy_start, copy_asks, copy_turn, copy_graph, copy_items}
use Rattle.lower_laws.proofs.Doing.{same_type_is}
use Rattle.list_laws.proofs.Copying.{AllSet, array_with, read_mid, more_than}
use Rattle.list_laws.proofs.Moving.{puts_item}
use Rattle.object_laws.proofs.Blocks.{found_set, reads_item}
use Rattle.object_laws.proofs.Calling.{Returns}
use Rattle.object_laws.proofs.Changing.{Wrote, put_block, put_static, wrote_at}
use Rattle.object_laws.proofs.Writing.{with_item}

-- ---- the graph, where the items of both arrays have one type

abbrev pub turn_ops : ℕ → ℕ → List LlOp
turn_ops a b = op.GetItem 9 a 0 (Var 1) ∷ op.SetItem b 2 (Var 3) (Var 9) ∷ op.Binary 6 binary.Add (Var 1) (word_operand (pos 1)) ∷ op.Binary 7 binary.Add (Var 3) (word_operand (pos 1)) ∷ op.Binary 8 binary.Sub (Var 4) (word_operand (pos 1)) ∷ []

abbrev pub the_copy : ℕ → ℕ → LlType → LlGraph
the_copy a b t = copy_graph (record { types = copy_types a b ++ t ∷ []; ops = turn_ops a b })

pub copy_is : (layout : Layout) (a b : ℕ) (found : Found) → item_of layout a ≡ item_of layout b → (copy_items layout a b found).0 ≡ the_copy a b (item_of layout a)
unfolding copy_items copied copy_types value_as
copy_is layout a b found same =
    ap (λ (t : LlType). copy_graph (copy_set b (value_as layout (Var 9) (item_of layout a) t last)).body) (sym same)
    ∙ ap (λ (c : Bool). copy_graph (copy_set b (if c then (Var 9, last) else converted layout (Var 9) (item_of layout a) (item_of layout a) last)).body) (same_type_is (item_of layout a))
  where
    last : Writing
    last = writing found (record { types = copy_types a b ++ item_of layout a ∷ []; ops = op.GetItem 9 a 0 (Var 1) ∷ [] })

-- ---- what is written twice

set_twice : {A : Type 0} (xs : List A) (n : ℕ) (x y : A) → slice_set (slice_set xs n x) n y ≡ slice_set xs n y
set_twice [] n x y = refl
set_twice (z ∷ xs) zero x y = refl
set_twice (z ∷ xs) (suc n) x y = ap (λ l. z ∷ l) (set_twice xs n x y)

set_there : (bs : List (Option Block)) (n : ℕ) (b : Block) → slice_index_or bs n None ≡ Some b → slice_set bs n (Some b) ≡ bs
set_there [] n b h = refl
set_there (x ∷ bs) zero b h = ap (λ y. y ∷ bs) (sym h)
set_there (x ∷ bs) (suc n) b h = ap (λ l. x ∷ l) (set_there bs n b h)

set_same : (bs : List Block) (n : ℕ) (b : Block) → slice_get bs n ≡ Some b → slice_set bs n b ≡ bs
set_same [] n b h = refl
set_same (x ∷ bs) zero b h = (let q : x ≡ b = cc in ap (λ y. y ∷ bs) (sym q))
set_same (x ∷ bs) (suc n) b h = ap (λ l. x ∷ l) (set_same bs n b h)

pub put_blocks_twice : (y : Value) (b c : Block) (bs : List (Option Block)) → put_block y c (put_block y b bs) ≡ put_block y c bs
put_blocks_twice (Ptr n) b c bs = set_twice bs n (Some b) (Some c)
put_blocks_twice _ b c bs = refl

pub put_statics_twice : (y : Value) (b c : Block) (ss : List Block) → put_static y c (put_static y b ss) ≡ put_static y c ss
put_statics_twice (Static s) b c ss = set_twice ss s b c
put_statics_twice _ b c ss = refl

pub put_block_there : (y : Value) (b : Block) (bs : List (Option Block)) (ss : List Block) → found bs ss y ≡ Some b → put_block y b bs ≡ bs
put_block_there (Ptr n) b bs ss h = set_there bs n b h
put_block_there _ b bs ss h = refl

pub put_static_there : (y : Value) (b : Block) (bs : List (Option Block)) (ss : List Block) → found bs ss y ≡ Some b → put_static y b ss ≡ ss
put_static_there (Static s) b bs ss h = set_same ss s b h
put_static_there _ b bs ss h = refl

-- ---- one item

module _ (p : LlProgram) (args : List (List ℕ)) (a b f : ℕ) (t : LlType) (shape : shape_at (shapes_of p.structs) a ≡ shape_over a 1 None) (shape2 : shape_at (shapes_of p.structs) b ≡ shape_over b 1 None) (graph : slice_get p.graphs f ≡ Some (the_copy a b t)) (source target : Value) (fields : List Value) where
  abbrev asks : Core → ℕ → ℕ → ℕ → List Value → List Frame → State
  asks core i j k rest waits = At copy_asks.ops copy_asks.exit waits (record core { function = f; block = 1; at = 0; vars = source ∷ Word (pos i) ∷ target ∷ Word (pos j) ∷ Word (pos k) ∷ rest })

  -- the core whose array has these items
  abbrev pub filled : Core → List Value → Core
  filled core items = record core { blocks = put_block target (array_with b fields items) core.blocks; statics = put_static target (array_with b fields items) core.statics }

  -- what is left to copy is copied
  Copies : Core → List Value → List Value → List Value → ℕ → ℕ → List Value → Type 0
  Copies core xs pre post i j rest = (waits : List Frame) → Returns p args (length xs) (asks core i j (length xs) rest waits) Unset waits (filled core (pre ++ (xs ++ post)))

  Holding : Core → List Value → Type 0
  Holding core items = found core.blocks core.statics target ≡ Some (array_with b fields items)

  module _ (core : Core) (x : Value) (xs pre : List Value) (y : Value) (ys post : List Value) (i j : ℕ) (old : Block) (ej : j ≡ length pre) (is : found core.blocks core.statics target ≡ Some (array_with b fields (pre ++ (y ∷ ys ++ post))))
      (there : found core.blocks core.statics source ≡ Some old) (kind : old.kind ≡ a) (within : i < length old.items) (at : read old.items i ≡ x) (set : is_unset x ≡ false) (long : length ys ≡ length xs) (small : length old.items < 2 ^ 63) (small2 : length (pre ++ (y ∷ ys ++ post)) < 2 ^ 63) where
    abbrev whole : Block
    whole = array_with b fields (pre ++ (y ∷ ys ++ post))

    abbrev next_core : Core
    next_core = record core { blocks = put_block target (with_item whole j x) core.blocks; statics = put_static target (with_item whole j x) core.statics }

    wrote : Wrote core.blocks core.statics target (with_item whole j x) next_core.blocks next_core.statics
    wrote = wrote_at core.blocks core.statics target whole (with_item whole j x) is

    items_are : slice_set (pre ++ (y ∷ ys ++ post)) j x ≡ (pre ++ x ∷ []) ++ (ys ++ post)
    items_are = put_mid pre y (ys ++ post) j x ej ∙ sym (append_assoc pre (x ∷ []) (ys ++ post))

    next_holds : Holding next_core ((pre ++ x ∷ []) ++ (ys ++ post))
    unfolding Holding
    next_holds = wrote.there ∙ ap (λ l. Some (array_with b fields l)) items_are

    whole_long : length (pre ++ (y ∷ ys ++ post)) ≡ length pre + suc (length xs + length post)
    whole_long = length-append pre (y ∷ ys ++ post) ∙ ap (λ l. length pre + suc l) (length-append ys post ∙ ap (λ k. k + length post) long)

    next_small : length ((pre ++ x ∷ []) ++ (ys ++ post)) < 2 ^ 63
    next_small = (let l : length ((pre ++ x ∷ []) ++ (ys ++ post)) ≡ length (pre ++ x ∷ []) + length (ys ++ post) = length-append (pre ++ x ∷ []) (ys ++ post) in let k : length (pre ++ x ∷ []) ≡ length pre + 1 = length-append pre (x ∷ []) in let q : length (ys ++ post) ≡ length ys + length post = length-append ys post in omega (arith, l, k, q, long, whole_long, small2))

    same_filled : forgotten (filled next_core ((pre ++ x ∷ []) ++ (xs ++ post))) ≡ forgotten (filled core (pre ++ (x ∷ xs ++ post)))
    same_filled =
        ap (λ l. forgotten (record core { blocks = put_block target (array_with b fields l) next_core.blocks; statics = put_static target (array_with b fields l) next_core.statics })) (append_assoc pre (x ∷ []) (xs ++ post))
        ∙ ap (λ bs. forgotten (record core { blocks = bs; statics = put_static target (array_with b fields (pre ++ (x ∷ xs ++ post))) next_core.statics })) (put_blocks_twice target (with_item whole j x) (array_with b fields (pre ++ (x ∷ xs ++ post))) core.blocks)
        ∙ ap (λ ss. forgotten (record core { blocks = put_block target (array_with b fields (pre ++ (x ∷ xs ++ post))) core.blocks; statics = ss })) (put_statics_twice target (with_item whole j x) (array_with b fields (pre ++ (x ∷ xs ++ post))) core.statics)

    sets_go : is_unset source || (is_unset target || false) ≡ false
    sets_go = ap (λ c. c || (is_unset target || false)) (found_set core.blocks core.statics source old there) ∙ ap (λ c. c || false) (found_set core.blocks core.statics target whole is)

    turn : (t5 t6 t7 t8 t9 : Value) → Copies next_core xs (pre ++ x ∷ []) post (i + 1) (j + 1) (Flag true ∷ Word (pos (i + 1)) ∷ Word (pos (j + 1)) ∷ Word (pos (length xs)) ∷ x ∷ []) → Copies core (x ∷ xs) pre post i j (t5 ∷ t6 ∷ t7 ∷ t8 ∷ t9 ∷ [])
    unfolding Copies copy_graph copy_start copy_asks copy_turn copy_types
    turn t5 t6 t7 t8 t9 next waits = record {
      end = (next waits).end;
      same = (next waits).same ∙ same_filled;
      leads = leads_more (0 + (0 + (0 + (1 + (0 + (0 + (0 + (0 + length xs)))))))) (suc (length xs)) (omega arith)
          (leads_then (gives (Flag true) (more_than (length xs)))
          (leads_then (many 1 graph refl sets_go)
          (leads_then (reads_item 1 old x shape there kind set i refl within at)
          (leads_then (puts_item p args _ _ waits _ b 2 (Var 3) (Var 9) 1 whole j x shape2 refl refl (omega (arith, ej, whole_long)) refl set target refl is)
          (leads_then (gives (Word (pos (i + 1))) (adds i 1 (omega (arith, small, within))))
          (leads_then (gives (Word (pos (j + 1))) (adds j 1 (omega (arith, small2, whole_long, ej))))
          (leads_then (gives (Word (pos (length xs))) (subs (suc (length xs)) 1 (length xs) (omega arith) (omega (arith, small2, whole_long))))
          (leads_then (many 1 graph refl sets_go) (next waits).leads))))))));
    }

  none_left : (core : Core) (pre post : List Value) (i j : ℕ) (t5 t6 t7 t8 t9 : Value) → Holding core (pre ++ post) → Copies core [] pre post i j (t5 ∷ t6 ∷ t7 ∷ t8 ∷ t9 ∷ [])
  unfolding Holding Copies copy_graph copy_start copy_asks copy_turn copy_types
  none_left core pre post i j t5 t6 t7 t8 t9 is waits = record {
    end = _;
    same = ap (λ bs. forgotten (record core { blocks = bs })) (sym (put_block_there target (array_with b fields (pre ++ post)) core.blocks core.statics is))
        ∙ ap (λ ss. forgotten (record core { blocks = put_block target (array_with b fields (pre ++ post)) core.blocks; statics = ss })) (sym (put_static_there target (array_with b fields (pre ++ post)) core.blocks core.statics is));
    leads = leads_more (0 + 0) 0 (omega arith) (leads_then (gives (Flag false) refl) (many 2 graph refl refl));
  }

  -- the call
  abbrev pub CopiesAll : Core → List Value → List Value → List Value → ℕ → ℕ → Type 0
  CopiesAll core xs pre post i j = (waits : List Frame) → Returns p args (length xs) (Calling f (source ∷ Word (pos i) ∷ target ∷ Word (pos j) ∷ Word (pos (length xs)) ∷ []) waits core) Unset waits (filled core (pre ++ (xs ++ post)))

  calls : (core : Core) (xs pre post : List Value) (i j : ℕ) → is_unset source ≡ false → is_unset target ≡ false → Copies core xs pre post i j (Unset ∷ Unset ∷ Unset ∷ Unset ∷ Unset ∷ []) → CopiesAll core xs pre post i j
  unfolding Copies copy_graph copy_start copy_asks copy_turn copy_types
  calls core xs pre post i j set set2 go waits = record {
    end = (go waits).end;
    same = (go waits).same;
    leads = leads_more (0 + (0 + length xs)) (length xs) (omega arith)
        (leads_then (enter graph refl)
        (leads_then (many 1 graph refl (ap (λ c. c || (is_unset target || false)) set ∙ ap (λ c. c || false) set2)) (go waits).leads));
  }

  -- ---- from another array

  module _ (old : Block) (kind : old.kind ≡ a) (apart : source ≡ target → ⊥) (small : length old.items < 2 ^ 63) where
    loops : (core : Core) (xs ys pre0 post0 pre post : List Value) (i j : ℕ) (t5 t6 t7 t8 t9 : Value) → i ≡ length pre0 → j ≡ length pre → length ys ≡ length xs → found core.blocks core.statics source ≡ Some old → old.items ≡ pre0 ++ (xs ++ post0) → AllSet xs
        → Holding core (pre ++ (ys ++ post)) → length (pre ++ (ys ++ post)) < 2 ^ 63 → Copies core xs pre post i j (t5 ∷ t6 ∷ t7 ∷ t8 ∷ t9 ∷ [])
    unfolding Holding
    loops core [] [] pre0 post0 pre post i j t5 t6 t7 t8 t9 ei ej long there items set is small2 = none_left core pre post i j t5 t6 t7 t8 t9 is
    loops core [] (y ∷ ys) pre0 post0 pre post i j t5 t6 t7 t8 t9 ei ej long there items set is small2 = absurd (omega (arith, long))
    loops core (x ∷ xs) [] pre0 post0 pre post i j t5 t6 t7 t8 t9 ei ej long there items set is small2 = absurd (omega (arith, long))
    loops core (x ∷ xs) (y ∷ ys) pre0 post0 pre post i j t5 t6 t7 t8 t9 ei ej long there items set is small2 =
        let within : i < length old.items = (let l : length old.items ≡ length pre0 + suc (length (xs ++ post0)) = ap length items ∙ length-append pre0 (x ∷ xs ++ post0) in omega (arith, l, ei)) in
        let at : read old.items i ≡ x = ap (λ l. read l i) items ∙ read_mid pre0 x (xs ++ post0) i ei in
        let shorter : length ys ≡ length xs = omega (arith, long) in
        turn core x xs pre y ys post i j old ej is there kind within at set.0 shorter small small2 t5 t6 t7 t8 t9
        (loops (next_core core x xs pre y ys post i j old ej is there kind within at set.0 shorter small small2) xs ys (pre0 ++ x ∷ []) post0 (pre ++ x ∷ []) post (i + 1) (j + 1) (Flag true) (Word (pos (i + 1))) (Word (pos (j + 1))) (Word (pos (length xs))) x
        (ap (λ k. k + 1) ei ∙ sym (length-append pre0 (x ∷ []))) (ap (λ k. k + 1) ej ∙ sym (length-append pre (x ∷ []))) shorter
        ((wrote core x xs pre y ys post i j old ej is there kind within at set.0 shorter small small2).others source apart ∙ there) (items ∙ sym (append_assoc pre0 (x ∷ []) (xs ++ post0))) set.1
        (next_holds core x xs pre y ys post i j old ej is there kind within at set.0 shorter small small2) (next_small core x xs pre y ys post i j old ej is there kind within at set.0 shorter small small2))

    -- items of the one, from a place on, are those of the other, from a place on
    pub copied_over : (core : Core) (xs ys pre0 post0 pre post : List Value) → length ys ≡ length xs → found core.blocks core.statics source ≡ Some old → old.items ≡ pre0 ++ (xs ++ post0) → AllSet xs
        → found core.blocks core.statics target ≡ Some (array_with b fields (pre ++ (ys ++ post))) → length (pre ++ (ys ++ post)) < 2 ^ 63 → CopiesAll core xs pre post (length pre0) (length pre)
    unfolding Holding
    copied_over core xs ys pre0 post0 pre post long there items set is small2 = calls core xs pre post (length pre0) (length pre) (found_set core.blocks core.statics source old there) (found_set core.blocks core.statics target _ is)
        (loops core xs ys pre0 post0 pre post (length pre0) (length pre) Unset Unset Unset Unset Unset refl refl long there items set is small2)

-- ---- behind, in the same array

module _ (p : LlProgram) (args : List (List ℕ)) (a f : ℕ) (t : LlType) (shape : shape_at (shapes_of p.structs) a ≡ shape_over a 1 None) (graph : slice_get p.graphs f ≡ Some (the_copy a a t)) (target : Value) (fields : List Value) where
  loops_behind : (core : Core) (xs ys pre0 mid pre post : List Value) (i j : ℕ) (t5 t6 t7 t8 t9 : Value) → i ≡ length pre0 → j ≡ length pre → length ys ≡ length xs → pre ≡ pre0 ++ (xs ++ mid) → AllSet xs
      → found core.blocks core.statics target ≡ Some (array_with a fields (pre ++ (ys ++ post))) → length (pre ++ (ys ++ post)) < 2 ^ 63 → Copies p args a a f t shape shape graph target target fields core xs pre post i j (t5 ∷ t6 ∷ t7 ∷ t8 ∷ t9 ∷ [])
  unfolding Holding
  loops_behind core [] [] pre0 mid pre post i j t5 t6 t7 t8 t9 ei ej long parts set is small = none_left p args a a f t shape shape graph target target fields core pre post i j t5 t6 t7 t8 t9 is
  loops_behind core [] (y ∷ ys) pre0 mid pre post i j t5 t6 t7 t8 t9 ei ej long parts set is small = absurd (omega (arith, long))
  loops_behind core (x ∷ xs) [] pre0 mid pre post i j t5 t6 t7 t8 t9 ei ej long parts set is small = absurd (omega (arith, long))
  loops_behind core (x ∷ xs) (y ∷ ys) pre0 mid pre post i j t5 t6 t7 t8 t9 ei ej long parts set is small =
      let items : List Value = pre ++ (y ∷ ys ++ post) in
      let old : Block = array_with a fields items in
      let before : items ≡ pre0 ++ x ∷ ((xs ++ mid) ++ (y ∷ ys ++ post)) = ap (λ l. l ++ (y ∷ ys ++ post)) parts ∙ append_assoc pre0 (x ∷ xs ++ mid) (y ∷ ys ++ post) in
      let within : i < length items = (let l : length items ≡ length pre0 + suc (length ((xs ++ mid) ++ (y ∷ ys ++ post))) = ap length before ∙ length-append pre0 (x ∷ ((xs ++ mid) ++ (y ∷ ys ++ post))) in omega (arith, l, ei)) in
      let at : read items i ≡ x = ap (λ l. read l i) before ∙ read_mid pre0 x ((xs ++ mid) ++ (y ∷ ys ++ post)) i ei in
      let shorter : length ys ≡ length xs = omega (arith, long) in
      let next_parts : pre ++ x ∷ [] ≡ (pre0 ++ x ∷ []) ++ (xs ++ (mid ++ x ∷ [])) =
      ap (λ l. l ++ x ∷ []) parts ∙ append_assoc pre0 (x ∷ xs ++ mid) (x ∷ []) ∙ ap (λ l. pre0 ++ x ∷ l) (append_assoc xs mid (x ∷ [])) ∙ sym (append_assoc pre0 (x ∷ []) (xs ++ (mid ++ x ∷ []))) in
      turn p args a a f t shape shape graph target target fields core x xs pre y ys post i j old ej is is refl within at set.0 shorter small small t5 t6 t7 t8 t9
      (loops_behind (next_core p args a a f t shape shape graph target target fields core x xs pre y ys post i j old ej is is refl within at set.0 shorter small small) xs ys (pre0 ++ x ∷ []) (mid ++ x ∷ []) (pre ++ x ∷ []) post (i + 1) (j + 1)
      (Flag true) (Word (pos (i + 1))) (Word (pos (j + 1))) (Word (pos (length xs))) x
      (ap (λ k. k + 1) ei ∙ sym (length-append pre0 (x ∷ []))) (ap (λ k. k + 1) ej ∙ sym (length-append pre (x ∷ []))) shorter next_parts set.1
      (next_holds p args a a f t shape shape graph target target fields core x xs pre y ys post i j old ej is is refl within at set.0 shorter small small) (next_small p args a a f t shape shape graph target target fields core x xs pre y ys post i j old ej is is refl within at set.0 shorter small small))

  -- items from a place on come once more, behind
  pub copied_behind : (core : Core) (xs ys pre0 mid pre post : List Value) → length ys ≡ length xs → pre ≡ pre0 ++ (xs ++ mid) → AllSet xs
      → found core.blocks core.statics target ≡ Some (array_with a fields (pre ++ (ys ++ post))) → length (pre ++ (ys ++ post)) < 2 ^ 63 → CopiesAll p args a a f t shape shape graph target target fields core xs pre post (length pre0) (length pre)
  copied_behind core xs ys pre0 mid pre post long parts set is small =
      let there : is_unset target ≡ false = found_set core.blocks core.statics target _ is in
      calls p args a a f t shape shape graph target target fields core xs pre post (length pre0) (length pre) there there
      (loops_behind core xs ys pre0 mid pre post (length pre0) (length pre) Unset Unset Unset Unset Unset refl refl long parts set is small)
