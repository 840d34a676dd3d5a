-- Room for further items: where there is none, the items go into another array.
use Rattle.std.proofs.Common.{◌≡◌, ◌<◌, ◌≤◌, ◌⊎◌, inl, inr, ℕ, zero, suc, ◌+◌, ◌/◌, ◌^◌, ◌||◌, Bool, true, false, List, [], ◌∷◌, ◌++◌, length, Option, Some, None, Ok, pos, refl, sym, ap, ◌∙◌, subst, arith, length-append}
use Rattle.std.specs.Prelude.{slice_get, slice_set, slice_index_or, replicate, nat_le, int_le}
use Rattle.std.proofs.lemmas.Bool.Decides.{nat_tests}
use Rattle.std.proofs.lemmas.List.{append-nil}
use Rattle.ann_element.specs.declared.element.Element.{Element}
use Rattle.csub_tree.specs.State.{Value, Unset, Word, Flag, Ptr, Static, Block, Core}
use Rattle.csub_tree.specs.Operation.{is_unset, binary_of}
use Rattle.csub_tree.specs.Layout.{Shape}
use Rattle.csub_tree.specs.declared.tree.CBinary.TheVariants as binary
use Rattle.csub_tree.specs.declared.tree.COperand.TheVariants.{Var}
use Rattle.ll_code.specs.State.{Frame, Calling}
use Rattle.ll_code.specs.declared.program.LlOp.TheVariants as op
use Rattle.ll_code.specs.declared.program.LlExit.TheVariants as exit
use Rattle.ll_code.specs.declared.program.LlProgram.{LlProgram}
use Rattle.ll_leads.specs.Memory.{forgotten}
use Rattle.ll_leads.proofs.Joined.{leads_then, leads_more}
use Rattle.ll_leads.proofs.Ways.{many, enter, gives, makes}
use Rattle.ll_texts.specs.Texts.{found}
use Rattle.ll_texts.proofs.Numbers.{adds}
use Rattle.ll_texts.proofs.Reading.{below_length}
use Rattle.ll_texts.proofs.Writing.{newest}
use Rattle.rpy_tree.specs.Value.{Value as Meant, Listed, Heap}
use Rattle.rtyper_layout.specs.declared.layout.Layout.{Layout}
use Rattle.rtyper_layout.specs.Layout.{is_list}
use Rattle.rtyper_layout.specs.Types.{word}
use Rattle.rtyper_data.specs.declared.small.Listed.TheVariants.{Copy}
use Rattle.rtyper_data.specs.declared.small.Small.TheVariants as small
use Rattle.rtyper_data.specs.Finding.{small_number}
use Rattle.list_shape.specs.Shapes.{item_of}
use Rattle.list_loops.specs.Changing.{room, room_graph, room_asks, room_grows, room_types}
use Rattle.list_laws.specs.Asked.{MakesRoom}
use Rattle.object_laws.specs.Known.{Known}
use Rattle.object_laws.specs.Done.{HasLayout}
use Rattle.object_laws.specs.Ghost.{Ghost, Grown, Use, Stays, Head, Array, use_of, ListOf}
use Rattle.object_laws.specs.Represents.{Represents, ListAt, head_block, array_block, Settled}
use Rattle.object_laws.specs.Values.{EachHolds, Empty, More, AreEmpty}
use Rattle.object_laws.proofs.Blocks.{found_set, reads_field}
use Rattle.object_laws.proofs.Calling.{Returns, calls_back}
use Rattle.object_laws.proofs.Changing.{IsOf, Wrote, put_block, put_static, wrote_at, list_changes, settled_wrote, get_set_here, uses_apart}
use Rattle.list_laws.proofs.Copying.{AllSet, array_with, copy_is, copies}
use Rattle.object_laws.proofs.Growing.{use_grows, each_grows}
use Rattle.object_laws.proofs.Made.{found_more, last_one, get_first, settled_more, never_settled}
use Rattle.list_laws.proofs.Making.{writes_newest}
use Rattle.object_laws.proofs.Growing.{grown_none}
use Rattle.object_laws.proofs.Valued.{held_set, each_long}
use Rattle.object_laws.proofs.Writing.{Written, writes_field}

-- ---- lists

replicate_both : (m n : ℕ) → replicate (m + n) Unset ≡ replicate m Unset ++ replicate n Unset
replicate_both zero n = ap (λ k. replicate k Unset) (let e : 0 + n ≡ n = omega arith in e)
replicate_both (suc m) n = ap (λ k. replicate k Unset) (let e : suc m + n ≡ suc (m + n) = omega arith in e) ∙ ap (λ l. Unset ∷ l) (replicate_both m n)

replicate_long : (n : ℕ) → length (replicate n Unset) ≡ n
replicate_long zero = refl
replicate_long (suc n) = ap suc (replicate_long n)

raw_empty : (n : ℕ) → AreEmpty (replicate n Unset)
raw_empty zero = tt
raw_empty (suc n) = (refl, raw_empty n)

set_same : {A : Type 0} (xs : List A) (i : ℕ) (x : A) → slice_get xs i ≡ Some x → slice_set xs i x ≡ xs
set_same [] i x h = refl
set_same (y ∷ xs) zero x h = (let q : y ≡ x = cc in ap (λ y. y ∷ xs) (sym q))
set_same (y ∷ xs) (suc i) x h = ap (λ l. y ∷ l) (set_same xs i x h)

index_same : (bs more : List (Option Block)) (n : ℕ) → n < length bs → slice_index_or (bs ++ more) n None ≡ slice_index_or bs n None
index_same [] more n h = absurd (omega (arith, h))
index_same (b ∷ bs) more zero h = refl
index_same (b ∷ bs) more (suc n) h = index_same bs more n (omega (arith, h))

-- what has a use is no block that is made later
found_same : (g : Ghost) (bs more : List (Option Block)) (statics : List Block) (x : Value) (u : Use) → length g.blocks ≡ length bs → use_of g x ≡ Some u → found (bs ++ more) statics x ≡ found bs statics x
found_same g bs more statics (Ptr n) u same h = index_same bs more n (let l = below_length g.blocks n u h in omega (arith, l, same))
found_same g bs more statics (Static s) u same h = refl
found_same g bs more statics _ u same h = absurd (cc)

pub all_set : {layout : Layout} {known : Known} {g : Ghost} {heap : Heap} {left : ℕ} {blocks : List (Option Block)} {statics : List Block} {seen : Option Element} {xs : List Value} {vs : List Meant} → Represents layout known g heap left blocks statics → EachHolds layout known g seen xs vs → AllSet xs
all_set r Empty = tt
all_set r (More held each) = (held_set r held, all_set r each)

at_most : (m n : ℕ) → m ≤ n → binary_of binary.Le (Word (pos m)) (Word (pos n)) ≡ Ok (Flag true)
at_most m n h = let e : int_le (pos m) (pos n) ≡ true = grind (arith, nat_tests, h) in ap (λ b. Ok (Flag b)) e

more_than : (m n : ℕ) → n < m → binary_of binary.Le (Word (pos m)) (Word (pos n)) ≡ Ok (Flag false)
more_than m n h = let e : int_le (pos m) (pos n) ≡ false = grind (arith, nat_tests, h) in ap (λ b. Ok (Flag b)) e

no_more : (m n : ℕ) → nat_le m n ≡ true → m ≤ n
no_more m n h = grind (arith, nat_tests, h)

is_more : (m n : ℕ) → nat_le m n ≡ false → n < m
is_more m n h = grind (arith, nat_tests, h)

-- ---- memory with room

-- the same lists, and this one has so many spare places
pub record Roomy (layout : Layout) (known : Known) (g : Ghost) (heap : Heap) (left : ℕ) (blocks : List (Option Block)) (statics : List Block) (n i : ℕ) (head : Value) (items : List Meant) (more : ℕ) : Type 0 where
  pub stands : Represents layout known g heap left blocks statics
  pub list : ListAt layout known g heap left blocks statics n i head
  pub same : list.items ≡ items
  pub wide : more ≤ length list.spare

pub record Roomed (p : LlProgram) (args : List (List ℕ)) (layout : Layout) (known : Known) (g : Ghost) (heap : Heap) (left n i : ℕ) (head : Value) (items : List Meant) (more f : ℕ) (core : Core) : Type 0 where
  pub blocks : List (Option Block)
  pub statics : List Block
  pub ghost : Ghost
  pub grown : Grown g ghost
  pub homes : ghost.homes ≡ g.homes
  pub roomy : Roomy layout known ghost heap left blocks statics n i head items more
  pub few : length blocks ≤ length core.blocks + 1
  pub returns : (waits : List Frame) → Returns p args (length items + 1) (Calling f (head ∷ Word (pos more) ∷ []) waits core) Unset waits (record core { blocks = blocks; statics = statics })

module _ (p : LlProgram) (args : List (List ℕ)) (layout : Layout) (known : Known) (raised : ℕ → Value) (structs : HasLayout p layout) (n : ℕ) (struct : is_list layout n ≡ true) (f : ℕ) (has : MakesRoom p layout raised n f)
    (g : Ghost) (heap : Heap) (left : ℕ) (core : Core) (r : Represents layout known g heap left core.blocks core.statics) (i : ℕ) (head : Value) (home : slice_get g.homes i ≡ Some (record { sort = ListOf n; head = head })) (l : ListAt layout known g heap left core.blocks core.statics n i head) (more : ℕ) where
  abbrev count : ℕ
  count = length l.items

  abbrev a : ℕ
  a = word (n + 1)

  abbrev whole : List Value
  whole = l.values ++ l.spare

  long : length l.values ≡ count
  long = each_long l.each

  whole_long : length whole ≡ count + length l.spare
  whole_long = length-append l.values l.spare ∙ ap (λ k. k + length l.spare) long

  head_set : is_unset head ≡ false
  head_set = found_set core.blocks core.statics head _ l.head_is

  array_set : is_unset l.array ≡ false
  array_set = found_set core.blocks core.statics l.array _ l.array_is

  -- ---- where there is room

  enough : count + more < 2 ^ 63 → count + more ≤ length whole → Roomed p args layout known g heap left n i head l.items more f core
  unfolding room room_graph room_asks room_grows room_types
  enough fits there = record {
    blocks = core.blocks;
    statics = core.statics;
    ghost = g;
    grown = grown_none;
    homes = refl;
    roomy = record { stands = r; list = l; same = refl; wide = omega (arith, there, whole_long) };
    few = omega arith;
    returns = λ waits. record {
      end = _;
      same = refl;
      leads = leads_more (0 + (0 + (0 + (0 + (0 + (0 + 0)))))) (count + 1) (omega arith)
          (leads_then (enter has.graph refl)
          (leads_then (reads_field 2 (head_block n count l.array) (Word (pos count)) (structs.heads n struct) l.head_is refl refl 0 refl)
          (leads_then (reads_field 2 (head_block n count l.array) l.array (structs.heads n struct) l.head_is refl array_set 1 refl)
          (leads_then (reads_field 1 (array_block n whole) (Word (pos (length whole))) (structs.arrays n struct) l.array_is refl refl 0 refl)
          (leads_then (gives (Word (pos (count + more))) (adds count more fits))
          (leads_then (gives (Flag true) (at_most (count + more) (length whole) there)) (many 2 has.graph refl refl)))))));
    };
  }

  -- ---- where there is none

  abbrev half : ℕ
  half = count / 2

  abbrev size : ℕ
  size = count + more + half + 3

  abbrev extra : ℕ
  extra = more + half + 3

  abbrev new_array : Block
  new_array = array_with a (Word (pos size) ∷ []) (l.values ++ replicate extra Unset)

  abbrev blocks1 : List (Option Block)
  blocks1 = core.blocks ++ Some new_array ∷ []

  abbrev ghost : Ghost
  ghost = record { blocks = g.blocks ++ Array i ∷ []; statics = g.statics; homes = g.homes }

  ghost_grown : Grown g ghost
  ghost_grown = record { uses = Array i ∷ []; objects = []; blocks = refl; statics = refl; homes = sym (append-nil g.homes) }

  size_is : size ≡ length l.values + extra
  size_is = omega (arith, long)

  items_long : length (l.values ++ replicate extra Unset) ≡ size
  items_long = length-append l.values (replicate extra Unset) ∙ ap (λ k. length l.values + k) (replicate_long extra) ∙ sym size_is

  kept_stays : (x : Value) (block : Block) → use_of ghost x ≡ Some (Stays block) → use_of g x ≡ Some (Stays block)
  kept_stays (Ptr b) block h = by (last_one g.blocks (Array i) b (Stays block) h)
    where
      by : (slice_get g.blocks b ≡ Some (Stays block)) ⊎ ((b ≡ length g.blocks) × (Stays block ≡ Array i)) → slice_get g.blocks b ≡ Some (Stays block)
      by (inl k) = k
      by (inr k) = (let q = k.1 in absurd (cc))
  kept_stays (Static s) block h = h
  kept_stays _ block h = absurd (cc)

  new_apart : head ≡ Ptr (length core.blocks) → ⊥
  new_apart e = (let q : slice_get g.blocks (length core.blocks) ≡ Some (Head i) = ap (use_of g) (sym e) ∙ l.head_use in let m = below_length g.blocks (length core.blocks) (Head i) q in let s = r.made in omega (arith, m, s))

  -- the head has the new array
  represents : (blocks2 : List (Option Block)) (statics2 : List Block) → size < 2 ^ 63 → Wrote blocks1 core.statics head (head_block n count (Ptr (length core.blocks))) blocks2 statics2 → Roomy layout known ghost heap left blocks2 statics2 n i head l.items more
  represents blocks2 statics2 small wrote = subst (λ hp. Roomy layout known ghost hp left blocks2 statics2 n i head l.items more) (set_same heap i (Listed l.items) l.object) (record {
    stands = list_changes n i head l.items r ghost_grown refl (omega arith) home (length-append g.blocks (Array i ∷ []) ∙ ap (λ k. k + 1) r.made ∙ sym (length-append core.blocks (Some new_array ∷ [])) ∙ sym wrote.made) wrote.fixed kept_stays others settled changed;
    list = changed;
    same = refl;
    wide = (let q = replicate_long extra in omega (arith, q));
  })
    where
      others : (x : Value) (u : Use) → use_of g x ≡ Some u → (IsOf i u → ⊥) → found blocks2 statics2 x ≡ found core.blocks core.statics x
      others x u h apart = wrote.others x (uses_apart g x head u (Head i) h l.head_use (λ q. apart (subst (IsOf i) (sym q) refl))) ∙ found_same g core.blocks (Some new_array ∷ []) core.statics x u r.made h

      settled : Settled layout ghost blocks2 statics2
      settled = settled_wrote layout ghost (settled_more layout g.blocks g.statics g.homes g.homes core.blocks core.statics (Array i) new_array r.made r.settled (never_settled layout (Array i) new_array (structs.lists_apart n struct).1)) wrote (structs.lists_apart n struct).0

      changed : ListAt layout known ghost (slice_set heap i (Listed l.items)) left blocks2 statics2 n i head
      changed = record {
        items = l.items;
        object = get_set_here heap i (Listed l.items) (Listed l.items) l.object;
        array = Ptr (length core.blocks);
        values = l.values;
        spare = replicate extra Unset;
        head_use = use_grows ghost_grown head _ l.head_use;
        array_use = get_first g.blocks [] (Array i) (length core.blocks) (sym r.made);
        head_is = wrote.there;
        array_is = wrote.others (Ptr (length core.blocks)) (λ e. new_apart (sym e)) ∙ newest core.blocks (Some new_array) None ∙ ap (λ k. Some (array_with a (Word (pos k) ∷ []) (l.values ++ replicate extra Unset))) (sym items_long);
        each = each_grows ghost_grown l.each;
        empty = raw_empty extra;
        long = subst (λ k. k < 2 ^ 63) (sym items_long) small;
        room = l.room;
      }

  -- the list has the new array, and what was copied into it
  abbrev head2 : Block
  head2 = head_block n count (Ptr (length core.blocks))

  abbrev before_copies : Core
  before_copies = record core { function = f; block = 2; at = 5; vars = head ∷ Word (pos more) ∷ Word (pos count) ∷ l.array ∷ Word (pos (length whole)) ∷ Word (pos (count + more)) ∷ Flag false ∷ Word (pos size) ∷ Ptr (length core.blocks) ∷ []; blocks = core.blocks ++ Some (array_with a (Word (pos size) ∷ []) (replicate size Unset)) ∷ [] }

  abbrev copied_core : Core
  copied_core = record before_copies { at = 6; blocks = blocks1 }

  written : (waits : List Frame) → Written p args 1 (op.SetField n 0 1 (Var 8)) [] (exit.Return None) waits copied_core head head2
  written waits = writes_field p args [] (exit.Return None) waits copied_core n 0 1 (Var 8) 2 (head_block n count l.array) (Ptr (length core.blocks)) (structs.heads n struct) refl refl refl head refl (found_more core.blocks (Some new_array ∷ []) core.statics head (head_block n count l.array) l.head_is)

  raw_items : replicate size Unset ≡ replicate (length l.values) Unset ++ replicate extra Unset
  raw_items = ap (λ k. replicate k Unset) size_is ∙ replicate_both (length l.values) extra

  comes_back : size < 2 ^ 63 → length whole < count + more → (waits : List Frame) → Returns p args (count + 1) (Calling f (head ∷ Word (pos more) ∷ []) waits core) Unset waits (record core { blocks = put_block head head2 blocks1; statics = put_static head head2 core.statics })
  unfolding room room_graph room_asks room_grows room_types
  comes_back fitting none waits = record {
    end = w.end;
    same = w.memory ∙ ap (λ bs. forgotten (record core { blocks = bs; statics = w.end.statics })) w.blocks ∙ ap (λ ss. forgotten (record core { blocks = put_block head head2 blocks1; statics = ss })) w.statics;
    leads = leads_more (0 + (0 + (0 + (0 + (0 + (0 + (0 + (0 + (0 + (0 + (0 + (0 + (length l.values + (1 + 0)))))))))))))) (count + 1) (omega (arith, long))
        (leads_then (enter has.graph refl)
        (leads_then (reads_field 2 (head_block n count l.array) (Word (pos count)) (structs.heads n struct) l.head_is refl refl 0 refl)
        (leads_then (reads_field 2 (head_block n count l.array) l.array (structs.heads n struct) l.head_is refl array_set 1 refl)
        (leads_then (reads_field 1 (array_block n whole) (Word (pos (length whole))) (structs.arrays n struct) l.array_is refl refl 0 refl)
        (leads_then (gives (Word (pos (count + more))) (adds count more (omega (arith, fitting))))
        (leads_then (gives (Flag false) (more_than (count + more) (length whole) none))
        (leads_then (many 1 has.graph refl (ap (λ b. b || (is_unset l.array || false)) head_set ∙ ap (λ b. b || false) array_set))
        (leads_then (gives (Word (pos half)) refl)
        (leads_then (gives (Word (pos (count + more + half))) (adds (count + more) half (omega (arith, fitting))))
        (leads_then (gives (Word (pos size)) (adds (count + more + half) 3 fitting))
        (leads_then (makes size 1 refl (ap (λ (s : Shape). s.size) (structs.arrays n struct)))
        (leads_then (writes_newest 1 core.blocks (record { kind = a; fields = Unset ∷ []; items = replicate size Unset }) (Word (pos size)) (structs.arrays n struct) refl refl refl refl refl)
        (leads_then (calls_back {core = before_copies} (length l.values) (ap (λ k. l.array ∷ Word (pos 0) ∷ Ptr (length core.blocks) ∷ Word (pos 0) ∷ Word (pos k) ∷ []) (sym long)) (ap (λ b. b || false) array_set) copying)
        (leads_then w.way (many 1 (ap (slice_get p.graphs) w.function ∙ has.graph) refl refl)))))))))))))));
  }
    where
      w : Written p args 1 (op.SetField n 0 1 (Var 8)) [] (exit.Return None) waits copied_core head head2
      w = written waits

      copying : (frames : List Frame) → Returns p args (length l.values) (Calling (small_number (small.Listed (Copy a a)) has.made).0 (l.array ∷ Word (pos 0) ∷ Ptr (length core.blocks) ∷ Word (pos 0) ∷ Word (pos (length l.values)) ∷ []) frames before_copies) Unset frames (record before_copies { blocks = blocks1 })
      copying frames = copies p args a (small_number (small.Listed (Copy a a)) has.made).0 (item_of layout a) (structs.arrays n struct) (has.copies.graph ∙ ap Some (copy_is layout a has.copies.made)) frames core.blocks l.array (array_block n whole) refl (Word (pos size) ∷ []) before_copies l.values l.spare (replicate extra Unset)
          (ap (λ items. core.blocks ++ Some (array_with a (Word (pos size) ∷ []) items) ∷ []) raw_items) l.array_is refl (all_set r l.each) l.long

  grows : size < 2 ^ 63 → length whole < count + more → Roomed p args layout known g heap left n i head l.items more f core
  grows fitting none = record {
    blocks = put_block head head2 blocks1;
    statics = put_static head head2 core.statics;
    ghost = ghost;
    grown = ghost_grown;
    homes = refl;
    roomy = represents (put_block head head2 blocks1) (put_static head head2 core.statics) fitting wrote;
    few = (let m = wrote.made in let k = length-append core.blocks (Some new_array ∷ []) in omega (arith, m, k));
    returns = comes_back fitting none;
  }
    where
      wrote : Wrote blocks1 core.statics head head2 (put_block head head2 blocks1) (put_static head head2 core.statics)
      wrote = wrote_at blocks1 core.statics head (head_block n count l.array) head2 (found_more core.blocks (Some new_array ∷ []) core.statics head (head_block n count l.array) l.head_is)

  pub makes_room : size < 2 ^ 63 → Roomed p args layout known g heap left n i head l.items more f core
  makes_room fitting = by (nat_le (count + more) (length whole)) refl
    where
      by : (c : Bool) → nat_le (count + more) (length whole) ≡ c → Roomed p args layout known g heap left n i head l.items more f core
      by true h = enough (omega (arith, fitting)) (no_more (count + more) (length whole) h)
      by false h = grows fitting (is_more (count + more) (length whole) h)
