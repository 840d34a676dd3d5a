-- Where no place is free, longer arrays are made, and the entries go into them.
use Rattle.std.proofs.Common.{◌≡◌, ◌<◌, ◌≤◌, ◌⊎◌, inl, inr, ℕ, zero, suc, ◌+◌, ◌-◌, ◌^◌, ◌||◌, true, false, List, [], ◌∷◌, ◌++◌, length, Option, Some, None, Ok, pos, refl, sym, ap, ◌∙◌, subst, arith, length-append}
use Rattle.std.specs.Prelude.{slice_get, slice_index_or, replicate}
use Rattle.std.specs.Ordering.{int_eq}
use Rattle.std.proofs.lemmas.Bool.Decides.{nat_tests}
use Rattle.std.proofs.lemmas.List.{append-nil}
use Rattle.csub_tree.specs.State.{Value, Unset, Word, Flag, Ptr, Block, Core}
use Rattle.csub_tree.specs.Layout.{Shape, shape_at, shape_over}
use Rattle.csub_tree.specs.Operation.{is_unset, binary_of}
use Rattle.csub_tree.specs.declared.tree.CBinary.TheVariants as binary
use Rattle.ll_code.specs.State.{Frame, Calling, At}
use Rattle.ll_code.specs.Machine.{shapes_of}
use Rattle.ll_code.specs.declared.program.LlType.{LlType}
use Rattle.ll_code.specs.declared.program.LlProgram.{LlProgram}
use Rattle.ll_leads.specs.Path.{Leads}
use Rattle.ll_leads.proofs.Joined.{leads_then, leads_more}
use Rattle.ll_leads.proofs.Ways.{many, gives, makes}
use Rattle.ll_texts.specs.Texts.{found}
use Rattle.ll_texts.proofs.Numbers.{adds, subs, same_true}
use Rattle.ll_texts.proofs.Writing.{newest}
use Rattle.rtyper_dict.specs.declared.parts.DictShape.{DictShape}
use Rattle.rtyper_dict.specs.Growing.{grow_asks, grow_counts, grow_makes, grow_copies, grow_ends, grow_types}
use Rattle.list_laws.proofs.Copying.{AllSet}
use Rattle.list_laws.proofs.Making.{writes_newest}
use Rattle.list_copy_laws.proofs.Between.{the_copy, copied_over}
use Rattle.object_laws.specs.Dicts.{dict_block, items_block, index_values}
use Rattle.object_laws.proofs.Blocks.{found_set, reads_field}
use Rattle.object_laws.proofs.Calling.{Returns, calls_back}
use Rattle.object_laws.proofs.Changing.{Wrote, wrote_at}
use Rattle.object_laws.proofs.Made.{found_more}
use Rattle.dict_change_laws.proofs.Counting.{the_grow}
use Rattle.dict_change_laws.proofs.Entering.{index_long}
use Rattle.dict_change_laws.proofs.Putting.{put, array_of}
use Rattle.dict_change_laws.proofs.Rewriting.{Have, Three, have_first, have_second, rewrote_none}

abbrev pub raw : ℕ → List Value
raw n = replicate n Unset

pub raw_both : (m n : ℕ) → raw (m + n) ≡ raw m ++ raw n
raw_both zero n = ap raw (let e : 0 + n ≡ n = omega arith in e)
raw_both (suc m) n = ap raw (let e : suc m + n ≡ suc (m + n) = omega arith in e) ∙ ap (λ l. Unset ∷ l) (raw_both m n)

pub raw_long : (n : ℕ) → length (raw n) ≡ n
raw_long zero = refl
raw_long (suc n) = ap suc (raw_long n)

index_below : (bs : List (Option Block)) (n : ℕ) (b : Block) → slice_index_or bs n None ≡ Some b → n < length bs
index_below [] n b h = absurd (cc)
index_below (x ∷ bs) zero b h = omega arith
index_below (x ∷ bs) (suc n) b h = omega (arith, index_below bs n b h)

-- what is there is no block that is made later
pub not_new : (bs : List (Option Block)) (ss : List Block) (x : Value) (b : Block) (n : ℕ) → found bs ss x ≡ Some b → length bs ≤ n → x ≡ Ptr n → ⊥
not_new bs ss (Ptr k) b n h le e = (let q : k ≡ n = cc in let l = index_below bs k b h in omega (arith, q, l, le))
not_new bs ss _ b n h le e = absurd (cc)

not_same : (n : ℕ) → 0 < n → binary_of binary.Eq (Word (pos n)) (Word (pos 0)) ≡ Ok (Flag false)
not_same n h = let e : int_eq (pos n) (pos 0) ≡ false = grind (arith, nat_tests, h) in ap (λ b. Ok (Flag b)) e

module _ (p : LlProgram) (args : List (List ℕ)) (d : DictShape) (f least : ℕ) (sizes : Option ℕ) (c1 c2 : ℕ) (f1 f2 ix : Option ℕ) (graph : slice_get p.graphs f ≡ Some (the_grow least sizes c1 c2 f1 f2 ix d)) (t1 t2 : LlType) (first_copies : slice_get p.graphs c1 ≡ Some (the_copy d.first d.first t1)) (second_copies : slice_get p.graphs c2 ≡ Some (the_copy d.second d.second t2))
    (head_shape : shape_at (shapes_of p.structs) d.dict ≡ shape_over d.dict 4 None) (first_shape : shape_at (shapes_of p.structs) d.first ≡ shape_over d.first 1 None) (second_shape : shape_at (shapes_of p.structs) d.second ≡ shape_over d.second 1 None)
    (Mine : Value → Type 0) (core : Core) (head one two : Value) (count places : ℕ) (head_is : found core.blocks core.statics head ≡ Some (dict_block d.dict count places one two)) (firsts seconds : List Value) (firsts_set : AllSet firsts) (seconds_set : AllSet seconds) (firsts_long : length firsts ≡ places) (seconds_long : length seconds ≡ places) (words : List ℕ)
    (places2 size : ℕ) (grows : places < places2) (small : places2 < 2 ^ 62) (short : size ≤ 2 ^ 62) where
  abbrev total : ℕ
  total = size + places2

  abbrev spare : ℕ
  spare = places2 - places

  abbrev first0 : Block
  first0 = array_of d.first (Word (pos places2) ∷ []) (raw places2)

  abbrev second0 : Block
  second0 = array_of d.second (Word (pos total) ∷ []) (raw total)

  abbrev blocks0 : List (Option Block)
  blocks0 = core.blocks ++ Some first0 ∷ []

  abbrev pub blocks1 : List (Option Block)
  blocks1 = blocks0 ++ Some second0 ∷ []

  abbrev pub new1 : Value
  new1 = Ptr (length core.blocks)

  abbrev pub new2 : Value
  new2 = Ptr (length blocks0)

  abbrev pub first1 : Block
  first1 = array_of d.first (Word (pos places2) ∷ []) (firsts ++ raw spare)

  abbrev pub second1 : Block
  second1 = array_of d.second (Word (pos total) ∷ []) (raw size ++ (seconds ++ raw spare))

  abbrev vars : Value → Value → Value → Value → Value → Value → Value → Value → Value → Value → Value → List Value
  vars v1 v3 v4 v7 v8 v9 v10 v11 v12 v13 v14 = head ∷ v1 ∷ Word (pos places) ∷ v3 ∷ v4 ∷ Word (pos places2) ∷ Word (pos size) ∷ v7 ∷ v8 ∷ v9 ∷ v10 ∷ v11 ∷ v12 ∷ v13 ∷ v14 ∷ []

  abbrev begun : Value → Value → Value → Value → Core
  begun v1 v3 v4 v14 = record core { function = f; block = 3; at = 0; vars = vars v1 v3 v4 Unset Unset Unset Unset Unset Unset Unset v14 }

  pieces : places2 ≡ places + spare
  pieces = omega (arith, grows)

  raw_first : raw places2 ≡ raw places ++ raw spare
  raw_first = ap raw pieces ∙ raw_both places spare

  raw_second : raw total ≡ raw size ++ (raw places ++ raw spare)
  raw_second = raw_both size places2 ∙ ap (λ l. raw size ++ l) raw_first

  first_there : found blocks1 core.statics new1 ≡ Some first0
  first_there = found_more blocks0 (Some second0 ∷ []) core.statics new1 first0 (newest core.blocks (Some first0) None)

  second_there : found blocks1 core.statics new2 ≡ Some second0
  second_there = newest blocks0 (Some second0) None

  more_there : (x : Value) (b : Block) → found core.blocks core.statics x ≡ Some b → found blocks1 core.statics x ≡ Some b
  more_there x b h = found_more blocks0 (Some second0 ∷ []) core.statics x b (found_more core.blocks (Some first0 ∷ []) core.statics x b h)

  have0 : Have Mine head new1 new2 blocks1 core.statics blocks1 core.statics (dict_block d.dict count places one two) first0 second0
  have0 = record { rewrote = rewrote_none; head_is = more_there head _ head_is; first_is = first_there; second_is = second_there }

  -- ---- what is copied

  pub record Enlarged (v1 v4 v14 : Value) : Type 0 where
    pub blocks : List (Option Block)
    pub statics : List Block
    pub v3 : Value
    pub v10 : Value
    pub v11 : Value
    pub v12 : Value
    pub v13 : Value
    pub have : Have Mine head new1 new2 blocks1 core.statics blocks statics (dict_block d.dict count places one two) first1 second1
    pub leads : (v3old : Value) (waits : List Frame) → Leads p args (places + places) (At (grow_makes d).ops (grow_makes d).exit waits (begun v1 v3old v4 v14)) [] (At (grow_ends f1 f2 ix d).ops (grow_ends f1 f2 ix d).exit waits (record core { function = f; block = 5; at = 0; vars = vars v1 v3 v4 (Word (pos total)) new1 new2 v10 v11 v12 v13 v14; blocks = blocks; statics = statics }))

  head_set : is_unset head ≡ false
  head_set = found_set core.blocks core.statics head _ head_is

  total_fits : total < 2 ^ 63
  total_fits = omega (arith, small, short)

  -- there was no place
  nothing : (v1 v4 v14 : Value) → places ≡ 0 → Enlarged v1 v4 v14
  unfolding grow_asks grow_counts grow_makes grow_copies grow_ends grow_types
  nothing v1 v4 v14 zero_so = record {
    blocks = blocks1;
    statics = core.statics;
    v3 = Flag true;
    v10 = Unset;
    v11 = Unset;
    v12 = Unset;
    v13 = Unset;
    have = subst (λ fs. Have Mine head new1 new2 blocks1 core.statics blocks1 core.statics (dict_block d.dict count places one two) (array_of d.first (Word (pos places2) ∷ []) fs) second1) (first_is firsts firsts_long)
        (subst (λ ss. Have Mine head new1 new2 blocks1 core.statics blocks1 core.statics (dict_block d.dict count places one two) first0 (array_of d.second (Word (pos total) ∷ []) ss)) (second_is seconds seconds_long) have0);
    leads = λ v3old waits. leads_more (0 + (0 + (0 + (0 + (0 + (0 + 0)))))) (places + places) (omega arith)
        (leads_then (gives (Word (pos total)) (adds size places2 total_fits))
        (leads_then (makes places2 1 refl (ap (λ (s : Shape). s.size) first_shape))
        (leads_then (writes_newest 1 core.blocks (record { kind = d.first; fields = Unset ∷ []; items = raw places2 }) (Word (pos places2)) first_shape refl refl refl refl refl)
        (leads_then (makes total 1 refl (ap (λ (s : Shape). s.size) second_shape))
        (leads_then (writes_newest 1 blocks0 (record { kind = d.second; fields = Unset ∷ []; items = raw total }) (Word (pos total)) second_shape refl refl refl refl refl)
        (leads_then (gives (Flag true) (same_true places 0 zero_so)) (many 1 graph refl (ap (λ b. b || (false || (false || (false || (false || (false || false)))))) head_set))))))));
  }
    where
      spare_is : places2 ≡ spare
      spare_is = omega (arith, zero_so)

      first_is : (fs : List Value) → length fs ≡ places → raw places2 ≡ fs ++ raw spare
      first_is [] h = ap raw spare_is
      first_is (x ∷ fs) h = absurd (omega (arith, h, zero_so))

      second_is : (fs : List Value) → length fs ≡ places → raw total ≡ raw size ++ (fs ++ raw spare)
      second_is [] h = raw_both size places2 ∙ ap (λ n. raw size ++ raw n) spare_is
      second_is (x ∷ fs) h = absurd (omega (arith, h, zero_so))

  -- there were some
  module _ (first_is : found core.blocks core.statics one ≡ Some (items_block d.first firsts)) (second_is : found core.blocks core.statics two ≡ Some (items_block d.second (index_values words ++ seconds))) (old_fits : length words + places < 2 ^ 63) (three : Three Mine head new1 new2) where
    one_set : is_unset one ≡ false
    one_set = found_set core.blocks core.statics one _ first_is

    two_set : is_unset two ≡ false
    two_set = found_set core.blocks core.statics two _ second_is

    one_apart : (n : ℕ) → length core.blocks ≤ n → one ≡ Ptr n → ⊥
    one_apart n h = not_new core.blocks core.statics one _ n first_is h

    two_apart : (n : ℕ) → length core.blocks ≤ n → two ≡ Ptr n → ⊥
    two_apart n h = not_new core.blocks core.statics two _ n second_is h

    old_total : length (index_values words ++ seconds) ≡ length words + places
    old_total = length-append (index_values words) seconds ∙ ap (λ n. n + length seconds) (index_long words) ∙ ap (λ n. length words + n) seconds_long

    abbrev after1 : Core
    after1 = put (record core { blocks = blocks1 }) new1 first1

    abbrev after2 : Core
    after2 = put after1 new2 second1

    wrote1 : Wrote blocks1 core.statics new1 first1 after1.blocks after1.statics
    wrote1 = wrote_at blocks1 core.statics new1 first0 first1 first_there

    have1 : Have Mine head new1 new2 blocks1 core.statics after1.blocks after1.statics (dict_block d.dict count places one two) first1 second0
    have1 = have_first three have0 refl wrote1

    have2 : Have Mine head new1 new2 blocks1 core.statics after2.blocks after2.statics (dict_block d.dict count places one two) first1 second1
    have2 = have_second three have1 refl (wrote_at after1.blocks after1.statics new2 second0 second1 have1.second_is)

    blocks0_long : length core.blocks ≤ length blocks0
    blocks0_long = (let l = length-append core.blocks (Some first0 ∷ []) in omega (arith, l))

    copies_first : (c : Core) → c.blocks ≡ blocks1 → c.statics ≡ core.statics → (waits : List Frame) → Returns p args places (Calling c1 (one ∷ Word (pos 0) ∷ new1 ∷ Word (pos 0) ∷ Word (pos places) ∷ []) waits c) Unset waits (put c new1 first1)
    copies_first c same same2 waits = subst (λ n. Returns p args n (Calling c1 (one ∷ Word (pos 0) ∷ new1 ∷ Word (pos 0) ∷ Word (pos n) ∷ []) waits c) Unset waits (put c new1 first1)) firsts_long
        (copied_over p args d.first d.first c1 t1 first_shape first_shape first_copies one new1 (Word (pos places2) ∷ []) (items_block d.first firsts) refl (one_apart (length core.blocks) (omega arith)) (omega (arith, firsts_long, small, grows)) c firsts (raw places) [] [] [] (raw spare) (raw_long places ∙ sym firsts_long)
        (ap (λ bs. found bs c.statics one) same ∙ ap (λ ss. found blocks1 ss one) same2 ∙ more_there one _ first_is) (sym (append-nil firsts)) firsts_set
        (ap (λ bs. found bs c.statics new1) same ∙ ap (λ ss. found blocks1 ss new1) same2 ∙ first_there ∙ ap (λ l. Some (array_of d.first (Word (pos places2) ∷ []) l)) raw_first) (subst (λ l. length l < 2 ^ 63) raw_first (let l = raw_long places2 in omega (arith, l, small))) waits)

    copies_second : (c : Core) → c.blocks ≡ after1.blocks → c.statics ≡ after1.statics → (waits : List Frame) → Returns p args places (Calling c2 (two ∷ Word (pos (length words)) ∷ new2 ∷ Word (pos size) ∷ Word (pos places) ∷ []) waits c) Unset waits (put c new2 second1)
    copies_second c same same2 waits = subst (λ n. Returns p args places (Calling c2 (two ∷ Word (pos n) ∷ new2 ∷ Word (pos size) ∷ Word (pos places) ∷ []) waits c) Unset waits (put c new2 second1)) (index_long words)
        (subst (λ n. Returns p args places (Calling c2 (two ∷ Word (pos (length (index_values words))) ∷ new2 ∷ Word (pos n) ∷ Word (pos places) ∷ []) waits c) Unset waits (put c new2 second1)) (raw_long size)
        (subst (λ n. Returns p args n (Calling c2 (two ∷ Word (pos (length (index_values words))) ∷ new2 ∷ Word (pos (length (raw size))) ∷ Word (pos n) ∷ []) waits c) Unset waits (put c new2 second1)) seconds_long
        (copied_over p args d.second d.second c2 t2 second_shape second_shape second_copies two new2 (Word (pos total) ∷ []) (items_block d.second (index_values words ++ seconds)) refl (two_apart (length blocks0) blocks0_long) (omega (arith, old_total, old_fits)) c seconds (raw places) (index_values words) [] (raw size) (raw spare) (raw_long places ∙ sym seconds_long)
        (ap (λ bs. found bs c.statics two) same ∙ ap (λ ss. found after1.blocks ss two) same2 ∙ wrote1.others two (two_apart (length core.blocks) (omega arith)) ∙ more_there two _ second_is) (ap (λ l. index_values words ++ l) (sym (append-nil seconds))) seconds_set
        (ap (λ bs. found bs c.statics new2) same ∙ ap (λ ss. found after1.blocks ss new2) same2 ∙ have1.second_is ∙ ap (λ l. Some (array_of d.second (Word (pos total) ∷ []) l)) raw_second) (subst (λ l. length l < 2 ^ 63) raw_second (let l = raw_long total in let t = total_fits in omega (arith, l, t))) waits)))

    copied : (v1 v4 v14 : Value) → 0 < places → Enlarged v1 v4 v14
    unfolding grow_asks grow_counts grow_makes grow_copies grow_ends grow_types
    copied v1 v4 v14 some = record {
      blocks = after2.blocks;
      statics = after2.statics;
      v3 = Flag false;
      v10 = one;
      v11 = two;
      v12 = Word (pos (length (index_values words ++ seconds)));
      v13 = Word (pos (length words));
      have = have2;
      leads = λ v3old waits. leads_more (0 + (0 + (0 + (0 + (0 + (0 + (0 + (0 + (0 + (0 + (0 + (places + (places + 0))))))))))))) (places + places) (omega arith)
          (leads_then (gives (Word (pos total)) (adds size places2 total_fits))
          (leads_then (makes places2 1 refl (ap (λ (s : Shape). s.size) first_shape))
          (leads_then (writes_newest 1 core.blocks (record { kind = d.first; fields = Unset ∷ []; items = raw places2 }) (Word (pos places2)) first_shape refl refl refl refl refl)
          (leads_then (makes total 1 refl (ap (λ (s : Shape). s.size) second_shape))
          (leads_then (writes_newest 1 blocks0 (record { kind = d.second; fields = Unset ∷ []; items = raw total }) (Word (pos total)) second_shape refl refl refl refl refl)
          (leads_then (gives (Flag false) (not_same places some))
          (leads_then (many 1 graph refl (ap (λ b. b || (false || (false || (false || (false || (false || false)))))) head_set))
          (leads_then (reads_field 4 (dict_block d.dict count places one two) one head_shape have0.head_is refl one_set 2 refl)
          (leads_then (reads_field 4 (dict_block d.dict count places one two) two head_shape have0.head_is refl two_set 3 refl)
          (leads_then (reads_field 1 (items_block d.second (index_values words ++ seconds)) (Word (pos (length (index_values words ++ seconds)))) second_shape (more_there two _ second_is) refl refl 0 refl)
          (leads_then (gives (Word (pos (length words))) (subs (length (index_values words ++ seconds)) places (length words) (omega (arith, old_total)) (omega (arith, old_total, old_fits))))
          (leads_then (calls_back places refl (ap (λ b. b || false) one_set) (λ waits. copies_first _ refl refl waits))
          (leads_then (calls_back places refl (ap (λ b. b || false) two_set) (λ waits. copies_second _ refl refl waits))
          (many 1 graph refl (ap (λ b. b || (false || (false || (false || (false || (false || false)))))) head_set)))))))))))))));
    }

  abbrev pub Source : Type 0
  Source = (places ≡ 0) ⊎ ((found core.blocks core.statics one ≡ Some (items_block d.first firsts)) × ((found core.blocks core.statics two ≡ Some (items_block d.second (index_values words ++ seconds))) × (length words + places < 2 ^ 63)))

  pub enlarged : Three Mine head new1 new2 → Source → (v1 v4 v14 : Value) → Enlarged v1 v4 v14
  enlarged three (inl none) v1 v4 v14 = nothing v1 v4 v14 none
  enlarged three (inr it) v1 v4 v14 = by places refl
    where
      by : (k : ℕ) → places ≡ k → Enlarged v1 v4 v14
      by zero e = nothing v1 v4 v14 e
      by (suc k) e = copied it.0 it.1.0 it.1.1 three v1 v4 v14 (omega (arith, e))
