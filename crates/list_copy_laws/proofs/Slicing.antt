-- The graphs that make a list of the items of another between two bounds, and of all but the last, at their cost.
use Rattle.std.proofs.Common.{◌≡◌, ◌<◌, ◌≤◌, ℕ, zero, suc, ◌+◌, ◌-◌, ◌^◌, ◌||◌, min, Bool, true, false, List, [], ◌∷◌, ◌++◌, length, Option, Some, None, Ok, pos, negsuc, refl, sym, ap, ◌∙◌, subst, arith, append_assoc, length-append}
use Rattle.std.specs.Prelude.{nat_lt, take, drop}
use Rattle.std.proofs.lemmas.List.{append-nil}
use Rattle.ann_element.specs.declared.element.Element.{Element}
use Rattle.rpy_base.specs.declared.outcome.FailName.TheVariants as fail
use Rattle.csub_tree.specs.State.{Value, Unset, Word, Flag, Ptr, Block, Core}
use Rattle.csub_tree.specs.Operation.{is_unset, binary_of}
use Rattle.csub_tree.specs.declared.tree.CBinary.TheVariants as binary
use Rattle.csub_tree.specs.declared.tree.COperand.TheVariants.{Var}
use Rattle.ll_code.specs.State.{Frame, Calling, At}
use Rattle.ll_code.specs.declared.program.LlOp.{LlOp}
use Rattle.ll_code.specs.declared.program.LlOp.TheVariants as op
use Rattle.ll_code.specs.declared.program.LlExit.TheVariants as exit
use Rattle.ll_code.specs.declared.program.LlProgram.{LlProgram}
use Rattle.ll_leads.specs.Path.{Leads}
use Rattle.ll_leads.proofs.Joined.{leads_then, leads_more}
use Rattle.ll_leads.proofs.Ways.{on, many, enter, gives, pays, lacks}
use Rattle.ll_build.specs.Build.{word as word_operand}
use Rattle.ll_texts.specs.Follows.{Lacked, FailedAs}
use Rattle.ll_texts.proofs.Following.{failed}
use Rattle.ll_texts.proofs.Numbers.{subs, less_true, less_false}
use Rattle.rpy_tree.specs.Value.{Value as Meant, Heap}
use Rattle.rtyper_layout.specs.declared.layout.Layout.{Layout}
use Rattle.rtyper_layout.specs.Layout.{is_list}
use Rattle.rtyper_layout.specs.Types.{word}
use Rattle.rtyper_data.specs.declared.small.Listed.TheVariants.{Make, Copy}
use Rattle.rtyper_data.specs.declared.small.Small.TheVariants as small
use Rattle.rtyper_data.specs.Finding.{small_number}
use Rattle.list_shape.specs.Shapes.{item_of, shape_of}
use Rattle.list_loops.specs.Making.{slice, slice_graph, slice_cut, slice_end, slice_types, bound}
use Rattle.list_laws.specs.Asked.{HasSlice}
use Rattle.list_laws.proofs.Copying.{AllSet}
use Rattle.list_laws.proofs.Making.{made_list}
use Rattle.list_laws.proofs.Roomed.{all_set}
use Rattle.object_laws.specs.Known.{Known}
use Rattle.object_laws.specs.Done.{HasLayout}
use Rattle.object_laws.specs.Ghost.{Ghost, Array}
use Rattle.object_laws.specs.Represents.{Represents, ListAt, HasRoom, head_block, array_block}
use Rattle.object_laws.specs.Values.{EachHolds, Empty, More}
use Rattle.object_laws.proofs.Blocks.{found_set, reads_field}
use Rattle.object_laws.proofs.Calling.{Returns, calls_back}
use Rattle.object_laws.proofs.Valued.{each_long}
use Rattle.list_copy_laws.proofs.Between.{copy_is}
use Rattle.list_copy_laws.proofs.Fresh.{raw, raw_long, two_more, head_of, head_found, old_found, fills, MadeList, made_so}
use Rattle.list_copy_laws.proofs.Tests.{is_less, not_less}

-- ---- the items between two places

abbrev pub cut : {A : Type 0} → ℕ → ℕ → List A → List A
cut low high xs = drop low (take high xs)

-- the values before the first place, between, and behind
record Parts (layout : Layout) (known : Known) (g : Ghost) (seen : Option Element) (xs : List Value) (vs : List Meant) (low high : ℕ) : Type 0 where
  pre : List Value
  mid : List Value
  post : List Value
  are : xs ≡ pre ++ (mid ++ post)
  at : length pre ≡ low
  long : length mid ≡ high - low
  each : EachHolds layout known g seen mid (cut low high vs)

first_parts : {layout : Layout} {known : Known} {g : Ghost} {seen : Option Element} {xs : List Value} {vs : List Meant} (high : ℕ) → EachHolds layout known g seen xs vs → high ≤ length vs → Parts layout known g seen xs vs 0 high
first_parts zero Empty h = record { pre = []; mid = []; post = []; are = refl; at = refl; long = refl; each = Empty }
first_parts zero (More {x = x} {xs = xs} held each) h = record { pre = []; mid = []; post = x ∷ xs; are = refl; at = refl; long = refl; each = Empty }
first_parts (suc high) Empty h = absurd (omega (arith, h))
first_parts (suc high) (More {x = x} held each) h = (let s = first_parts high each (omega (arith, h)) in let q = s.long in let z = s.at in record {
  pre = [];
  mid = x ∷ s.mid;
  post = s.post;
  are = ap (λ l. x ∷ l) (s.are ∙ ap (λ l. l ++ (s.mid ++ s.post)) (none_of s.pre s.at));
  at = refl;
  long = omega (arith, q);
  each = More held s.each;
})
  where
    none_of : (l : List Value) → length l ≡ 0 → l ≡ []
    none_of [] h = refl
    none_of (x ∷ l) h = absurd (omega (arith, h))

parts_of : {layout : Layout} {known : Known} {g : Ghost} {seen : Option Element} {xs : List Value} {vs : List Meant} (low high : ℕ) → EachHolds layout known g seen xs vs → low ≤ high → high ≤ length vs → Parts layout known g seen xs vs low high
parts_of zero high each less h = first_parts high each h
parts_of (suc low) zero each less h = absurd (omega (arith, less))
parts_of (suc low) (suc high) Empty less h = absurd (omega (arith, h))
parts_of (suc low) (suc high) (More {x = x} held each) less h = (let s = parts_of low high each (omega (arith, less)) (omega (arith, h)) in let q = s.long in record {
  pre = x ∷ s.pre;
  mid = s.mid;
  post = s.post;
  are = ap (λ l. x ∷ l) s.are;
  at = ap suc s.at;
  long = omega (arith, q);
  each = s.each;
})

set_between : (xs ys zs : List Value) → AllSet (xs ++ (ys ++ zs)) → AllSet ys
set_between [] [] zs h = tt
set_between [] (y ∷ ys) zs h = (h.0, set_between [] ys zs h.1)
set_between (x ∷ xs) ys zs h = set_between xs ys zs h.1

pub take_whole : {A : Type 0} (n : ℕ) (vs : List A) → length vs ≤ n → take n vs ≡ vs
take_whole zero [] h = refl
take_whole (suc n) [] h = refl
take_whole zero (v ∷ vs) h = absurd (omega (arith, h))
take_whole (suc n) (v ∷ vs) h = ap (λ l. v ∷ l) (take_whole n vs (omega (arith, h)))

pub drop_none : {A : Type 0} (vs : List A) → drop 0 vs ≡ vs
drop_none [] = refl
drop_none (v ∷ vs) = refl

-- bounds past the end are cut there, which leaves the same items
take_least : {A : Type 0} (high : ℕ) (vs : List A) → take (min high (length vs)) vs ≡ take high vs
take_least high vs = by (nat_lt high (length vs)) refl
  where
    by : (c : Bool) → nat_lt high (length vs) ≡ c → take (min high (length vs)) vs ≡ take high vs
    by true h = (let m : high < length vs = is_less high (length vs) h in let q : min high (length vs) ≡ high = omega (arith, m) in ap (λ k. take k vs) q)
    by false h = (let m : length vs ≤ high = not_less high (length vs) h in let q : min high (length vs) ≡ length vs = omega (arith, m) in ap (λ k. take k vs) q ∙ take_whole (length vs) vs (omega arith) ∙ sym (take_whole high vs m))

drop_all : {A : Type 0} (n : ℕ) (vs : List A) → length vs ≤ n → drop n vs ≡ []
drop_all zero [] h = refl
drop_all (suc n) [] h = refl
drop_all zero (v ∷ vs) h = absurd (omega (arith, h))
drop_all (suc n) (v ∷ vs) h = drop_all n vs (omega (arith, h))

take_long : {A : Type 0} (n : ℕ) (vs : List A) → length (take n vs) ≤ n
take_long zero [] = omega arith
take_long zero (v ∷ vs) = omega arith
take_long (suc n) [] = omega arith
take_long (suc n) (v ∷ vs) = (let q = take_long n vs in omega (arith, q))

module _ (p : LlProgram) (args : List (List ℕ)) (layout : Layout) (known : Known) (raised : ℕ → Value) (structs : HasLayout p layout) (l n : ℕ) (struct : is_list layout l ≡ true) (struct2 : is_list layout n ≡ true) (f : ℕ) (has : HasSlice p layout raised l n f)
    (typed : item_of layout (word (l + 1)) ≡ item_of layout (word (n + 1))) (each_as : (xs : List Value) (vs : List Meant) (g : Ghost) → EachHolds layout known g (known.items l) xs vs → EachHolds layout known g (known.items n) xs vs)
    (g : Ghost) (heap : Heap) (left : ℕ) (core : Core) (r : Represents layout known g heap left core.blocks core.statics) (steps : left ≡ core.steps)
    (i : ℕ) (head : Value) (s : ListAt layout known g heap left core.blocks core.statics l i head) where
  abbrev a : ℕ
  a = word (n + 1)

  abbrev makes : ℕ
  makes = (small_number (small.Listed (Make n)) has.made).0

  abbrev copies : ℕ
  copies = (small_number (small.Listed (Copy (word (l + 1)) a)) (small_number (small.Listed (Make n)) has.made).1).0

  abbrev count : ℕ
  count = length s.items

  head_set : is_unset head ≡ false
  head_set = found_set core.blocks core.statics head _ s.head_is

  passes : is_unset head || false ≡ false
  passes = ap (λ b. b || false) head_set

  -- ---- below zero

  pub slice_fails_low : (z : ℕ) (y : Value) (waits : List Frame) → FailedAs p args (Calling f (head ∷ Word (negsuc z) ∷ y ∷ []) waits core) fail.NegativeSlice
  unfolding slice slice_graph slice_cut slice_end slice_types bound
  slice_fails_low z y waits = failed (on (enter has.graph refl) (on (gives (Flag true) refl) (many 1 has.graph refl refl))) refl

  pub slice_fails_high : (low z : ℕ) (waits : List Frame) → FailedAs p args (Calling f (head ∷ Word (pos low) ∷ Word (negsuc z) ∷ []) waits core) fail.NegativeSlice
  unfolding slice slice_graph slice_cut slice_end slice_types bound
  slice_fails_high low z waits = failed (on (enter has.graph refl) (on (gives (Flag false) (less_false low 0 (omega arith))) (on (many 1 has.graph refl passes) (on (gives (Flag true) refl) (many 1 has.graph refl refl))))) refl

  -- ---- the bounds

  abbrev vars : ℕ → ℕ → Value → Value → Value → Value → Value → List Value
  vars low high flag v5 v6 v7 v8 = head ∷ Word (pos low) ∷ Word (pos high) ∷ Word (pos count) ∷ flag ∷ v5 ∷ v6 ∷ v7 ∷ v8 ∷ []

  abbrev bounded : ℕ → ℕ → Value → Core
  bounded low high flag = record core { function = f; block = 4; at = 0; vars = vars low high flag Unset Unset Unset Unset }

  abbrev Cuts : ℕ → ℕ → ℕ → ℕ → Type 0
  Cuts from to low high = (flag : Value) × ((waits : List Frame) → Leads p args 0 (Calling f (head ∷ Word (pos from) ∷ Word (pos to) ∷ []) waits core) [] (At (slice_cut makes copies (shape_of layout l) (shape_of layout n)).ops (exit.Return (Some (Var 5))) waits (bounded low high flag)))

  module _ (from to : ℕ) where
    -- the end is cut at the length
    abbrev at_end : ℕ → Value → Core
    at_end high flag = record core { function = f; block = 3; at = 0; vars = vars from high flag Unset Unset Unset Unset }

    ends_at : (t : Bool) (high : ℕ) → binary_of binary.Lt (Word (pos count)) (Word (pos to)) ≡ Ok (Flag t)
        → ((waits : List Frame) → Leads p args 0 (At [] (slice_end (shape_of layout l)).exit waits (record core { function = f; block = 2; at = 2; vars = vars from to (Flag t) Unset Unset Unset Unset })) [] (At (bound (op.Binary 4 binary.Lt (Var 2) (Var 1)) 4 (Var 0 ∷ Var 2 ∷ Var 2 ∷ []) 4).ops (bound (op.Binary 4 binary.Lt (Var 2) (Var 1)) 4 (Var 0 ∷ Var 2 ∷ Var 2 ∷ []) 4).exit waits (at_end high (Flag t))))
        → (waits : List Frame) → Leads p args 0 (Calling f (head ∷ Word (pos from) ∷ Word (pos to) ∷ []) waits core) [] (At (bound (op.Binary 4 binary.Lt (Var 2) (Var 1)) 4 (Var 0 ∷ Var 2 ∷ Var 2 ∷ []) 4).ops (bound (op.Binary 4 binary.Lt (Var 2) (Var 1)) 4 (Var 0 ∷ Var 2 ∷ Var 2 ∷ []) 4).exit waits (at_end high (Flag t)))
    unfolding slice slice_graph slice_cut slice_end slice_types bound
    ends_at t high less next waits = on (enter has.graph refl)
        (on (gives (Flag false) (less_false from 0 (omega arith))) (on (many 1 has.graph refl passes)
        (on (gives (Flag false) (less_false to 0 (omega arith))) (on (many 1 has.graph refl passes)
        (on (reads_field 2 (head_block l count s.array) (Word (pos count)) (structs.heads l struct) s.head_is refl refl 0 refl)
        (on (gives (Flag t) less) (next waits)))))))

    past_end : count < to → (waits : List Frame) → Leads p args 0 (Calling f (head ∷ Word (pos from) ∷ Word (pos to) ∷ []) waits core) [] (At (bound (op.Binary 4 binary.Lt (Var 2) (Var 1)) 4 (Var 0 ∷ Var 2 ∷ Var 2 ∷ []) 4).ops (bound (op.Binary 4 binary.Lt (Var 2) (Var 1)) 4 (Var 0 ∷ Var 2 ∷ Var 2 ∷ []) 4).exit waits (at_end count (Flag true)))
    unfolding slice slice_graph slice_cut slice_end slice_types bound
    past_end h = ends_at true count (less_true count to h) (λ waits. many 1 has.graph refl passes)

    in_list : to ≤ count → (waits : List Frame) → Leads p args 0 (Calling f (head ∷ Word (pos from) ∷ Word (pos to) ∷ []) waits core) [] (At (bound (op.Binary 4 binary.Lt (Var 2) (Var 1)) 4 (Var 0 ∷ Var 2 ∷ Var 2 ∷ []) 4).ops (bound (op.Binary 4 binary.Lt (Var 2) (Var 1)) 4 (Var 0 ∷ Var 2 ∷ Var 2 ∷ []) 4).exit waits (at_end to (Flag false)))
    unfolding slice slice_graph slice_cut slice_end slice_types bound
    in_list h = ends_at false to (less_false count to h) (λ waits. many 1 has.graph refl passes)

    -- and the start at the end
    starts : (high : ℕ) (flag : Value) → ((waits : List Frame) → Leads p args 0 (Calling f (head ∷ Word (pos from) ∷ Word (pos to) ∷ []) waits core) [] (At (bound (op.Binary 4 binary.Lt (Var 2) (Var 1)) 4 (Var 0 ∷ Var 2 ∷ Var 2 ∷ []) 4).ops (bound (op.Binary 4 binary.Lt (Var 2) (Var 1)) 4 (Var 0 ∷ Var 2 ∷ Var 2 ∷ []) 4).exit waits (at_end high flag)))
        → Cuts from to (min from high) high
    unfolding slice slice_graph slice_cut slice_end slice_types bound
    starts high flag way = by (nat_lt high from) refl
      where
        by : (c : Bool) → nat_lt high from ≡ c → Cuts from to (min from high) high
        by true h = (let m : high < from = is_less high from h in let q : high ≡ min from high = omega (arith, m) in (
          Flag true,
          λ waits. subst (λ k. Leads p args 0 (Calling f (head ∷ Word (pos from) ∷ Word (pos to) ∷ []) waits core) [] (At (slice_cut makes copies (shape_of layout l) (shape_of layout n)).ops (exit.Return (Some (Var 5))) waits (bounded k high (Flag true)))) q
              (on (way waits) (on (gives (Flag true) (less_true high from m)) (many 1 has.graph refl passes))),
        ))
        by false h = (let m : from ≤ high = not_less high from h in let q : from ≡ min from high = omega (arith, m) in (
          Flag false,
          λ waits. subst (λ k. Leads p args 0 (Calling f (head ∷ Word (pos from) ∷ Word (pos to) ∷ []) waits core) [] (At (slice_cut makes copies (shape_of layout l) (shape_of layout n)).ops (exit.Return (Some (Var 5))) waits (bounded k high (Flag false)))) q
              (on (way waits) (on (gives (Flag false) (less_false high from m)) (many 1 has.graph refl passes))),
        ))

    abbrev high : ℕ
    high = min to count

    abbrev low : ℕ
    low = min from high

    cuts : Cuts from to low high
    cuts = by (nat_lt count to) refl
      where
        by : (c : Bool) → nat_lt count to ≡ c → Cuts from to low high
        by true h = (let m : count < to = is_less count to h in let q : count ≡ high = omega (arith, m) in subst (λ k. Cuts from to (min from k) k) q (starts count (Flag true) (past_end m)))
        by false h = (let m : to ≤ count = not_less count to h in let q : to ≡ high = omega (arith, m) in subst (λ k. Cuts from to (min from k) k) q (starts to (Flag false) (in_list m)))

    flag : Value
    flag = cuts.0

    abbrev k : ℕ
    k = high - low

    parts : Parts layout known g (known.items l) s.values s.items low high
    parts = parts_of low high s.each (omega arith) (omega arith)

    -- these are the items
    items_are : cut low high s.items ≡ cut from to s.items
    items_are = ap (drop low) (take_least to s.items) ∙ by (nat_lt high from) refl
      where
        by : (c : Bool) → nat_lt high from ≡ c → drop low (take to s.items) ≡ drop from (take to s.items)
        by true h = (let m : high < from = is_less high from h in let q : low ≡ high = omega (arith, m) in ap (λ k. drop k (take to s.items)) q ∙ drop_all high (take to s.items) short ∙ sym (drop_all from (take to s.items) (omega (arith, m, short))))
          where
            short : length (take to s.items) ≤ high
            short = subst (λ l. length l ≤ high) (take_least to s.items) (take_long high s.items)
        by false h = (let m : from ≤ high = not_less high from h in let q : low ≡ from = omega (arith, m) in ap (λ k. drop k (take to s.items)) q)

    abbrev vs : List Meant
    vs = cut from to s.items

    each : EachHolds layout known g (known.items l) parts.mid vs
    each = subst (λ vs. EachHolds layout known g (known.items l) parts.mid vs) items_are parts.each

    vs_long : length vs ≡ k
    vs_long = sym (each_long each) ∙ parts.long

    mid_long : length parts.mid ≡ k
    mid_long = parts.long

    -- ---- paying

    abbrev at_step : ℕ → ℕ → Core
    at_step at left = record core { function = f; block = 4; at = at; vars = vars low high flag Unset Unset Unset (Word (pos k)); steps = left }

    abbrev cutting : List LlOp
    cutting = op.Call (Some 5) makes (Var 8 ∷ []) ∷ op.GetField 6 n 5 1 ∷ op.GetField 7 l 0 1 ∷ op.Call None copies (Var 7 ∷ Var 1 ∷ Var 6 ∷ word_operand (pos 0) ∷ Var 8 ∷ []) ∷ []

    small_count : count < 2 ^ 63
    small_count = (let q : length (s.values ++ s.spare) ≡ length s.values + length s.spare = length-append s.values s.spare in let t = s.long in let u = each_long s.each in omega (arith, q, t, u))

    sized : (waits : List Frame) → Leads p args 0 (Calling f (head ∷ Word (pos from) ∷ Word (pos to) ∷ []) waits core) [] (At (op.Step (word_operand (pos 1)) ∷ op.Step (Var 8) ∷ cutting) (exit.Return (Some (Var 5))) waits (record (at_step 1 left) { steps = core.steps }))
    unfolding slice slice_graph slice_cut slice_end slice_types bound flag
    sized waits = on (cuts.1 waits) (gives (Word (pos k)) (subs high low k (omega arith) (omega (arith, small_count))))

    lacks_one : left < 1 → (waits : List Frame) → Lacked p args (Calling f (head ∷ Word (pos from) ∷ Word (pos to) ∷ []) waits core) core
    lacks_one short waits = record {
      last = At (op.Step (word_operand (pos 1)) ∷ op.Step (Var 8) ∷ cutting) (exit.Return (Some (Var 5))) waits (record (at_step 1 left) { steps = core.steps });
      leads = sized waits;
      ends = lacks p args (op.Step (Var 8) ∷ cutting) (exit.Return (Some (Var 5))) waits (record (at_step 1 left) { steps = core.steps }) (word_operand (pos 1)) 1 refl (omega (arith, short, steps));
      blocks = refl;
      holds = λ b h. h;
    }

    lacks_two : 1 ≤ left → left < 1 + k → (waits : List Frame) → Lacked p args (Calling f (head ∷ Word (pos from) ∷ Word (pos to) ∷ []) waits core) core
    lacks_two enough short waits = record {
      last = At (op.Step (Var 8) ∷ cutting) (exit.Return (Some (Var 5))) waits (at_step 2 (left - 1));
      leads = on (sized waits) (pays 1 (left - 1) refl (omega (arith, enough, steps)));
      ends = lacks p args cutting (exit.Return (Some (Var 5))) waits (at_step 2 (left - 1)) (Var 8) k refl (omega (arith, short, enough));
      blocks = refl;
      holds = λ b h. h;
    }

    pub slice_lacks : left < 1 + length vs → (waits : List Frame) → Lacked p args (Calling f (head ∷ Word (pos from) ∷ Word (pos to) ∷ []) waits core) core
    slice_lacks short waits = by (nat_lt left 1) refl
      where
        by : (c : Bool) → nat_lt left 1 ≡ c → Lacked p args (Calling f (head ∷ Word (pos from) ∷ Word (pos to) ∷ []) waits core) core
        by true h = lacks_one (is_less left 1 h) waits
        by false h = lacks_two (not_less left 1 h) (omega (arith, short, vs_long)) waits

    -- ---- the list

    module _ (enough : 1 + k ≤ left) where
      abbrev paid : ℕ
      paid = left - (1 + k)

      abbrev bs : List (Option Block)
      bs = core.blocks

      abbrev array : Value
      array = Ptr (length bs)

      abbrev new_head : Value
      new_head = head_of bs n k (raw k)

      abbrev made_core : Core
      made_core = record core { function = f; block = 4; at = 6; vars = vars low high flag new_head array s.array (Word (pos k)); blocks = two_more bs n k (raw k); steps = paid }

      array_set : is_unset s.array ≡ false
      array_set = found_set bs core.statics s.array _ s.array_is

      whole_is : s.values ++ s.spare ≡ parts.pre ++ (parts.mid ++ (parts.post ++ s.spare))
      whole_is = ap (λ l. l ++ s.spare) parts.are ∙ append_assoc parts.pre (parts.mid ++ parts.post) s.spare ∙ ap (λ l. parts.pre ++ l) (append_assoc parts.mid parts.post s.spare)

      filling : (waits : List Frame) → Returns p args (length parts.mid) (Calling copies (s.array ∷ Word (pos (length parts.pre)) ∷ array ∷ Word (pos 0) ∷ Word (pos (length parts.mid)) ∷ []) waits made_core) Unset waits (record made_core { blocks = two_more bs n k (parts.mid ++ []) })
      filling = fills p args (word (l + 1)) n copies (item_of layout (word (l + 1))) (structs.arrays l struct) (structs.arrays n struct2) (has.copies.graph ∙ ap Some (copy_is layout (word (l + 1)) a has.copies.made typed)) g bs r.made s.array (Array i) s.array_use (array_block l (s.values ++ s.spare)) refl s.long k (omega (arith, small_count))
          made_core parts.mid (raw k) parts.pre (parts.post ++ s.spare) [] [] (ap (two_more bs n k) (sym (append-nil (raw k)))) s.array_is whole_is (set_between parts.pre parts.mid parts.post (subst AllSet parts.are (all_set r s.each))) (raw_long k ∙ sym mid_long)
          (ap length (append-nil (raw k)) ∙ raw_long k)

      filling_so : (waits : List Frame) → Returns p args (length parts.mid) (Calling copies (s.array ∷ Word (pos (length parts.pre)) ∷ array ∷ Word (pos 0) ∷ Word (pos (length parts.mid)) ∷ []) waits made_core) Unset waits (record made_core { blocks = two_more bs n k parts.mid })
      filling_so = subst (λ l. (waits : List Frame) → Returns p args (length parts.mid) (Calling copies (s.array ∷ Word (pos (length parts.pre)) ∷ array ∷ Word (pos 0) ∷ Word (pos (length parts.mid)) ∷ []) waits made_core) Unset waits (record made_core { blocks = two_more bs n k l })) (append-nil parts.mid) filling

      comes_back : (waits : List Frame) → Returns p args (count + 1) (Calling f (head ∷ Word (pos from) ∷ Word (pos to) ∷ []) waits core) new_head waits (record core { blocks = two_more bs n k parts.mid; steps = paid })
      unfolding slice slice_graph slice_cut slice_end slice_types bound
      comes_back waits = record {
        end = _;
        same = refl;
        leads = leads_more (0 + (0 + (0 + (1 + (0 + (0 + (length parts.mid + 0))))))) (count + 1) (omega (arith, mid_long))
            (leads_then (sized waits)
            (leads_then (pays 1 (left - 1) refl (omega (arith, enough, steps)))
            (leads_then (pays k paid refl (omega (arith, enough)))
            (leads_then (calls_back {core = at_step 3 paid} 1 refl refl (λ waits. made_list p args layout n makes k (structs.heads n struct2) (structs.arrays n struct2) has.makes.graph (at_step 3 paid) waits))
            (leads_then (reads_field 2 (head_block n k array) array (structs.heads n struct2) (head_found bs n k (raw k) core.statics) refl refl 1 refl)
            (leads_then (reads_field 2 (head_block l count s.array) s.array (structs.heads l struct) (old_found bs n k (raw k) core.statics head (head_block l count s.array) s.head_is) refl array_set 1 refl)
            (leads_then (calls_back {core = made_core} (length parts.mid) (ap (λ q. s.array ∷ Word (pos q) ∷ array ∷ Word (pos 0) ∷ Word (pos k) ∷ []) (sym parts.at) ∙ ap (λ q. s.array ∷ Word (pos (length parts.pre)) ∷ array ∷ Word (pos 0) ∷ Word (pos q) ∷ []) (sym mid_long)) (ap (λ b. b || false) array_set) filling_so)
            (many 1 has.graph refl refl))))))));
      }

      sliced_so : MadeList p args layout known g heap (left - (1 + length vs)) n vs (count + 1) (λ waits. Calling f (head ∷ Word (pos from) ∷ Word (pos to) ∷ []) waits core) core
      sliced_so = subst (λ q. MadeList p args layout known g heap (left - (1 + q)) n vs (count + 1) (λ waits. Calling f (head ∷ Word (pos from) ∷ Word (pos to) ∷ []) waits core) core) (sym vs_long)
          (made_so p args layout known g heap left paid n vs (count + 1) (λ waits. Calling f (head ∷ Word (pos from) ∷ Word (pos to) ∷ []) waits core) core parts.mid (raw k) k r (omega arith) struct2
          (each_as parts.mid vs g each) (sym vs_long) (omega (arith, mid_long, small_count))
          (subst (λ q. HasRoom q paid) (sym vs_long) (let q = r.few in omega (arith, q, enough))) (structs.lists_apart n struct2) comes_back)

    pub sliced : 1 + length vs ≤ left → MadeList p args layout known g heap (left - (1 + length vs)) n vs (count + 1) (λ waits. Calling f (head ∷ Word (pos from) ∷ Word (pos to) ∷ []) waits core) core
    sliced enough = sliced_so (omega (arith, enough, vs_long))
