-- The graph that puts the items of a list behind those of another, or of itself, at its cost.
use Rattle.std.proofs.Common.{◌≡◌, ◌<◌, ◌≤◌, ◌⊎◌, inl, inr, ℕ, zero, suc, ◌+◌, ◌-◌, ◌^◌, ◌||◌, true, false, List, [], ◌∷◌, ◌++◌, length, Option, Some, None, pos, refl, sym, ap, ◌∙◌, subst, arith, append_assoc, length-append}
use Rattle.std.specs.Prelude.{slice_get, slice_set}
use Rattle.std.proofs.lemmas.Bool.{cases_eq}
use Rattle.std.proofs.lemmas.List.{append-nil}
use Rattle.std.proofs.Math.Nat.{div-mul-le_self}
use Rattle.ann_element.specs.declared.element.Element.{Element}
use Rattle.csub_tree.specs.State.{Value, Unset, Word, Block, Core}
use Rattle.csub_tree.specs.Operation.{is_unset}
use Rattle.csub_tree.specs.declared.tree.CBinary.TheVariants as binary
use Rattle.csub_tree.specs.declared.tree.COperand.TheVariants.{Var}
use Rattle.ll_code.specs.State.{Frame, Calling, At}
use Rattle.ll_code.specs.declared.program.LlOp.TheVariants as op
use Rattle.ll_code.specs.declared.program.LlExit.TheVariants as exit
use Rattle.ll_code.specs.declared.program.LlProgram.{LlProgram}
use Rattle.ll_leads.specs.Memory.{forgotten}
use Rattle.ll_leads.proofs.Joined.{leads_then, leads_more}
use Rattle.ll_leads.proofs.Ways.{on, many, enter, gives, pays, lacks}
use Rattle.ll_build.specs.Build.{word as word_operand}
use Rattle.ll_texts.specs.Follows.{Lacked}
use Rattle.ll_texts.specs.Texts.{found}
use Rattle.ll_texts.proofs.Numbers.{adds}
use Rattle.rpy_tree.specs.Value.{Value as Meant, Object, Listed, Heap}
use Rattle.rtyper_layout.specs.declared.layout.Layout.{Layout}
use Rattle.rtyper_layout.specs.Layout.{is_list}
use Rattle.rtyper_layout.specs.Types.{word}
use Rattle.rtyper_data.specs.declared.small.Listed.TheVariants.{Room, Copy}
use Rattle.rtyper_data.specs.declared.small.Small.TheVariants as small
use Rattle.rtyper_data.specs.Finding.{small_number}
use Rattle.list_shape.specs.Shapes.{item_of}
use Rattle.list_loops.specs.Changing.{extend, extend_graph, extend_done, extend_types}
use Rattle.list_laws.specs.Asked.{HasExtend}
use Rattle.list_laws.proofs.Copying.{array_with}
use Rattle.list_laws.proofs.Roomed.{Roomed, makes_room, all_set}
use Rattle.object_laws.specs.Known.{Known}
use Rattle.object_laws.specs.Done.{HasLayout}
use Rattle.object_laws.specs.Ghost.{Ghost, Grown, Home, Sort, Use, Head, Array, use_of, ListOf}
use Rattle.object_laws.specs.Represents.{Represents, ListAt, HasRoom, head_block, array_block}
use Rattle.object_laws.specs.Values.{EachHolds, Empty, More, AreEmpty}
use Rattle.object_laws.proofs.Blocks.{found_set, reads_field}
use Rattle.object_laws.proofs.Calling.{Returns, calls_back}
use Rattle.object_laws.proofs.Changing.{IsOf, Wrote, put_block, put_static, wrote_at, list_changes, settled_wrote, get_set_here, uses_apart}
use Rattle.object_laws.proofs.Growing.{grown_none}
use Rattle.object_laws.proofs.Valued.{each_long}
use Rattle.object_laws.proofs.Writing.{Written, other_field, writes_field}
use Rattle.list_copy_laws.proofs.Between.{the_copy, copy_is, copied_over, copied_behind}

-- ---- lists

pub each_both : {layout : Layout} {known : Known} {g : Ghost} {seen : Option Element} {xs ys : List Value} {vs us : List Meant} → EachHolds layout known g seen xs vs → EachHolds layout known g seen ys us → EachHolds layout known g seen (xs ++ ys) (vs ++ us)
each_both Empty other = other
each_both (More held each) other = More held (each_both each other)

-- the first so many, and the others
pub record Split (k : ℕ) (xs : List Value) : Type 0 where
  pub first : List Value
  pub others : List Value
  pub are : xs ≡ first ++ others
  pub long : length first ≡ k

pub split : (k : ℕ) (xs : List Value) → k ≤ length xs → Split k xs
split zero xs h = record { first = []; others = xs; are = refl; long = refl }
split (suc k) [] h = absurd (omega (arith, h))
split (suc k) (x ∷ xs) h = (let s = split k xs (omega (arith, h)) in record { first = x ∷ s.first; others = s.others; are = ap (λ l. x ∷ l) s.are; long = ap suc s.long })

empty_behind : (xs ys : List Value) → AreEmpty (xs ++ ys) → AreEmpty ys
empty_behind [] ys h = h
empty_behind (x ∷ xs) ys h = empty_behind xs ys h.1

pub items_same : {o : Option Object} {xs ys : List Meant} → o ≡ Some (Listed xs) → o ≡ Some (Listed ys) → xs ≡ ys
items_same h k = (let q : Some (Listed _) ≡ Some (Listed _) = sym h ∙ k in cc)

abbrev list_in : Sort → ℕ
list_in (ListOf n) = n
list_in other = 0

abbrev home_of : ℕ → Value → Home
home_of n x = record { sort = ListOf n; head = x }

one_home : {x y : Home} → Some x ≡ Some y → x ≡ y
one_home h = cc

-- what the call leaves
pub record Extended (p : LlProgram) (args : List (List ℕ)) (layout : Layout) (known : Known) (g : Ghost) (heap : Heap) (left i : ℕ) (head head2 : Value) (items more : List Meant) (f : ℕ) (core : Core) : Type 0 where
  pub blocks : List (Option Block)
  pub statics : List Block
  pub ghost : Ghost
  pub grown : Grown g ghost
  pub stands : Represents layout known ghost (slice_set heap i (Listed (items ++ more))) (left - length more) blocks statics
  pub few : length blocks ≤ length core.blocks + 1
  pub returns : (waits : List Frame) → Returns p args (length items + (length more + 1)) (Calling f (head ∷ head2 ∷ []) waits core) Unset waits (record core { blocks = blocks; statics = statics; steps = left - length more })

module _ (p : LlProgram) (args : List (List ℕ)) (layout : Layout) (known : Known) (raised : ℕ → Value) (structs : HasLayout p layout) (n m : ℕ) (struct : is_list layout n ≡ true) (struct2 : is_list layout m ≡ true) (f : ℕ) (has : HasExtend p layout raised n m f)
    (typed : item_of layout (word (m + 1)) ≡ item_of layout (word (n + 1))) (each_as : (g : Ghost) (xs : List Value) (vs : List Meant) → EachHolds layout known g (known.items m) xs vs → EachHolds layout known g (known.items n) xs vs)
    (g : Ghost) (heap : Heap) (left : ℕ) (core : Core) (r : Represents layout known g heap left core.blocks core.statics) (steps : left ≡ core.steps)
    (i : ℕ) (head : Value) (home : slice_get g.homes i ≡ Some (record { sort = ListOf n; head = head })) (l : ListAt layout known g heap left core.blocks core.statics n i head)
    (j : ℕ) (head2 : Value) (home2 : slice_get g.homes j ≡ Some (record { sort = ListOf m; head = head2 })) (by : ListAt layout known g heap left core.blocks core.statics m j head2) where
  abbrev makes : ℕ
  makes = (small_number (small.Listed (Room n)) has.made).0

  abbrev a : ℕ
  a = word (n + 1)

  abbrev a2 : ℕ
  a2 = word (m + 1)

  abbrev copies : ℕ
  copies = (small_number (small.Listed (Copy a2 a)) (small_number (small.Listed (Room n)) has.made).1).0

  abbrev more : ℕ
  more = length by.items

  head_set : is_unset head ≡ false
  head_set = found_set core.blocks core.statics head _ l.head_is

  abbrev paid_vars : List Value
  paid_vars = head ∷ head2 ∷ Word (pos more) ∷ Unset ∷ Unset ∷ Unset ∷ Unset ∷ []

  graph : slice_get p.graphs copies ≡ Some (the_copy a2 a (item_of layout a2))
  graph = has.copies.graph ∙ ap Some (copy_is layout a2 a has.copies.made typed)

  -- ---- the steps do not suffice

  abbrev read_core : Core
  read_core = record core { function = f; block = 0; at = 1; vars = paid_vars }

  pub extend_lacks : left < more → (waits : List Frame) → Lacked p args (Calling f (head ∷ head2 ∷ []) waits core) core
  unfolding extend extend_graph extend_done extend_types
  extend_lacks short waits = record {
    last = At (op.Step (Var 2) ∷ op.Call None makes (Var 0 ∷ Var 2 ∷ []) ∷ op.GetField 3 n 0 0 ∷ op.GetField 4 n 0 1 ∷ op.GetField 5 m 1 1 ∷ op.Call None copies (Var 5 ∷ word_operand (pos 0) ∷ Var 4 ∷ Var 3 ∷ Var 2 ∷ []) ∷ op.Binary 6 binary.Add (Var 3) (Var 2) ∷ op.SetField n 0 0 (Var 6) ∷ []) (exit.Return None) waits read_core;
    leads = on (enter has.graph refl) (reads_field 2 (head_block m more by.array) (Word (pos more)) (structs.heads m struct2) by.head_is refl refl 0 refl);
    ends = lacks p args _ _ waits read_core (Var 2) more refl (omega (arith, short, steps));
    blocks = refl;
    holds = λ b k. k;
  }

  -- ---- they do

  module _ (enough : more ≤ left) where
    abbrev inner : Core
    inner = record core { function = f; block = 0; at = 2; vars = paid_vars; steps = left - more }

    roomed : Roomed p args layout known g heap left n i head l.items more makes inner
    roomed = makes_room p args layout known raised structs n struct makes has.room g heap left inner r i head home l more (let half = div-mul-le_self (length l.items) 2 in let room = l.room in omega (arith, half, room, enough))

    s : ListAt layout known roomed.ghost heap left roomed.blocks roomed.statics n i head
    s = roomed.roomy.list

    abbrev count : ℕ
    count = length s.items

    same_items : s.items ≡ l.items
    unfolding s
    same_items = roomed.roomy.same

    wide : more ≤ length s.spare
    unfolding s
    wide = roomed.roomy.wide

    spare : Split more s.spare
    spare = split more s.spare wide

    abbrev whole : List Value
    whole = s.values ++ s.spare

    abbrev fields : List Value
    fields = Word (pos (length whole)) ∷ []

    long : length s.values ≡ count
    long = each_long s.each

    whole_is : whole ≡ s.values ++ (spare.first ++ spare.others)
    whole_is = ap (λ l. s.values ++ l) spare.are

    whole_long : length whole ≡ count + (more + length spare.others)
    whole_long = ap length whole_is ∙ length-append s.values (spare.first ++ spare.others) ∙ ap (λ k. k + length (spare.first ++ spare.others)) long ∙ ap (λ k. count + k) (length-append spare.first spare.others ∙ ap (λ k. k + length spare.others) spare.long)

    small_whole : length whole < 2 ^ 63
    small_whole = s.long

    array_is : found roomed.blocks roomed.statics s.array ≡ Some (array_with a fields (s.values ++ (spare.first ++ spare.others)))
    array_is = s.array_is ∙ ap (λ items. Some (record { kind = a; fields = fields; items = items })) whole_is

    array_set : is_unset s.array ≡ false
    array_set = found_set roomed.blocks roomed.statics s.array _ s.array_is

    apart : head ≡ s.array → ⊥
    apart e = uses_apart roomed.ghost head s.array (Head i) (Array i) s.head_use s.array_use (λ q. absurd (cc)) e

    home_there : slice_get roomed.ghost.homes i ≡ Some (record { sort = ListOf n; head = head })
    home_there = ap (λ hs. slice_get hs i) roomed.homes ∙ home

    home2_there : slice_get roomed.ghost.homes j ≡ Some (record { sort = ListOf m; head = head2 })
    home2_there = ap (λ hs. slice_get hs j) roomed.homes ∙ home2

    -- ---- the items are copied

    abbrev before_copies : Value → Core
    before_copies array = record inner { at = 6; vars = head ∷ head2 ∷ Word (pos more) ∷ Word (pos count) ∷ s.array ∷ array ∷ Unset ∷ []; blocks = roomed.blocks; statics = roomed.statics }

    abbrev array_then : List Value → Block
    array_then xs = array_with a fields (s.values ++ (xs ++ spare.others))

    -- where the second list is then, with what is to be copied
    record From : Type 0 where
      array : Value
      values : List Value
      head_is : found roomed.blocks roomed.statics head2 ≡ Some (head_block m more array)
      set : is_unset array ≡ false
      each : EachHolds layout known roomed.ghost (known.items n) values by.items
      copying : (waits : List Frame) → Returns p args (length values) (Calling copies (array ∷ Word (pos 0) ∷ s.array ∷ Word (pos (length s.values)) ∷ Word (pos (length values)) ∷ []) waits (before_copies array)) Unset waits
          (record (before_copies array) { blocks = put_block s.array (array_then values) roomed.blocks; statics = put_static s.array (array_then values) roomed.statics })

    other_list : (i ≡ j → ⊥) → From
    other_list other = record {
      array = t.array;
      values = t.values;
      head_is = t.head_is ∙ ap (λ vs. Some (head_block m (length vs) t.array)) same;
      set = found_set roomed.blocks roomed.statics t.array _ t.array_is;
      each = subst (λ vs. EachHolds layout known roomed.ghost (known.items n) t.values vs) same (each_as roomed.ghost t.values t.items t.each);
      copying = copied_over p args a2 a copies (item_of layout a2) (structs.arrays m struct2) (structs.arrays n struct) graph t.array s.array fields (array_block m (t.values ++ t.spare)) refl arrays_apart t.long (before_copies t.array) t.values spare.first [] t.spare s.values spare.others
          (spare.long ∙ sym (each_long t.each ∙ ap length same)) t.array_is refl (all_set roomed.roomy.stands t.each) array_is (subst (λ k. k < 2 ^ 63) (ap length whole_is) small_whole);
    }
      where
        t : ListAt layout known roomed.ghost heap left roomed.blocks roomed.statics m j head2
        t = roomed.roomy.stands.lists m j head2 home2_there struct2

        same : t.items ≡ by.items
        same = items_same t.object by.object

        arrays_apart : t.array ≡ s.array → ⊥
        arrays_apart e = uses_apart roomed.ghost t.array s.array (Array j) (Array i) t.array_use s.array_use (λ q. other (let q2 : j ≡ i = cc in sym q2)) e

    same_list : i ≡ j → From
    same_list e = record {
      array = s.array;
      values = s.values;
      head_is = ap (found roomed.blocks roomed.statics) (sym heads) ∙ s.head_is ∙ ap (λ k. Some (head_block k count s.array)) (sym numbers) ∙ ap (λ vs. Some (head_block m (length vs) s.array)) same;
      set = array_set;
      each = subst (λ vs. EachHolds layout known roomed.ghost (known.items n) s.values vs) same s.each;
      copying = copied_behind p args a copies (item_of layout a) (structs.arrays n struct) graph_so s.array fields (before_copies s.array) s.values spare.first [] [] s.values spare.others
          (spare.long ∙ sym (long ∙ ap length same)) (sym (append-nil s.values)) (all_set roomed.roomy.stands s.each) array_is (subst (λ k. k < 2 ^ 63) (ap length whole_is) small_whole);
    }
      where
        homes_same : home_of n head ≡ home_of m head2
        homes_same = one_home (sym home ∙ ap (λ k. slice_get g.homes k) e ∙ home2)

        numbers : m ≡ n
        numbers = sym (ap (λ (x : Home). list_in x.sort) homes_same)

        heads : head ≡ head2
        heads = ap (λ (x : Home). x.head) homes_same

        same : s.items ≡ by.items
        same = items_same (s.object) (ap (λ k. slice_get heap k) e ∙ by.object)

        graph_so : slice_get p.graphs copies ≡ Some (the_copy a a (item_of layout a))
        graph_so = graph ∙ ap (λ k. Some (the_copy (word (k + 1)) a (item_of layout (word (k + 1))))) numbers

    -- ---- the length is that of both

    module _ (from : From) where
      abbrev values : List Value
      values = from.values

      abbrev total : ℕ
      total = count + more

      abbrev head_then : Block
      head_then = other_field (head_block n count s.array) 0 (Word (pos total))

      abbrev blocks1 : List (Option Block)
      blocks1 = put_block s.array (array_then values) roomed.blocks

      abbrev statics1 : List Block
      statics1 = put_static s.array (array_then values) roomed.statics

      abbrev blocks2 : List (Option Block)
      blocks2 = put_block head head_then blocks1

      abbrev statics2 : List Block
      statics2 = put_static head head_then statics1

      values_long : length values ≡ more
      values_long = each_long from.each

      wrote1 : Wrote roomed.blocks roomed.statics s.array (array_then values) blocks1 statics1
      wrote1 = wrote_at roomed.blocks roomed.statics s.array (array_block n whole) (array_then values) s.array_is

      head_there : found blocks1 statics1 head ≡ Some (head_block n count s.array)
      head_there = wrote1.others head apart ∙ s.head_is

      wrote2 : Wrote blocks1 statics1 head head_then blocks2 statics2
      wrote2 = wrote_at blocks1 statics1 head (head_block n count s.array) head_then head_there

      abbrev items2 : List Meant
      items2 = s.items ++ by.items

      items_long : length items2 ≡ total
      items_long = length-append s.items by.items

      same_long : length whole ≡ length ((s.values ++ values) ++ spare.others)
      same_long = whole_long ∙ (let q : count + (more + length spare.others) ≡ length s.values + length values + length spare.others = omega (arith, long, values_long) in q) ∙ sym (length-append (s.values ++ values) spare.others ∙ ap (λ k. k + length spare.others) (length-append s.values values))

      changed : ListAt layout known roomed.ghost (slice_set heap i (Listed items2)) (left - more) blocks2 statics2 n i head
      changed = record {
        items = items2;
        object = get_set_here heap i (Listed items2) (Listed s.items) s.object;
        array = s.array;
        values = s.values ++ values;
        spare = spare.others;
        head_use = s.head_use;
        array_use = s.array_use;
        head_is = wrote2.there ∙ ap (λ k. Some (head_block n k s.array)) (sym items_long);
        array_is = wrote2.others s.array (λ e. apart (sym e)) ∙ wrote1.there ∙ ap (λ items. Some (record { kind = a; fields = fields; items = items })) (sym (append_assoc s.values values spare.others))
            ∙ ap (λ k. Some (record { kind = a; fields = Word (pos k) ∷ []; items = (s.values ++ values) ++ spare.others })) same_long;
        each = each_both s.each from.each;
        empty = empty_behind spare.first spare.others (subst AreEmpty spare.are s.empty);
        long = subst (λ k. k < 2 ^ 63) same_long s.long;
        room = subst (λ k. HasRoom k (left - more)) (sym items_long) (let room = s.room in omega (arith, room, enough));
      }

      represents : Represents layout known roomed.ghost (slice_set heap i (Listed items2)) (left - more) blocks2 statics2
      represents = list_changes n i head items2 roomed.roomy.stands grown_none refl (omega arith) home_there (roomed.roomy.stands.made ∙ sym (wrote2.made ∙ wrote1.made)) (wrote2.fixed ∙ wrote1.fixed) (λ x block h. h) others
          (settled_wrote layout roomed.ghost (settled_wrote layout roomed.ghost roomed.roomy.stands.settled wrote1 (structs.lists_apart n struct).1) wrote2 (structs.lists_apart n struct).0) changed
        where
          others : (x : Value) (u : Use) → use_of roomed.ghost x ≡ Some u → (IsOf i u → ⊥) → found blocks2 statics2 x ≡ found roomed.blocks roomed.statics x
          others x u h other =
              wrote2.others x (uses_apart roomed.ghost x head u (Head i) h s.head_use (λ q. other (subst (IsOf i) (sym q) refl)))
              ∙ wrote1.others x (uses_apart roomed.ghost x s.array u (Array i) h s.array_use (λ q. other (subst (IsOf i) (sym q) refl)))

      -- ---- the way

      abbrev added_core : Core
      added_core = record (before_copies from.array) { at = 8; vars = head ∷ head2 ∷ Word (pos more) ∷ Word (pos count) ∷ s.array ∷ from.array ∷ Word (pos total) ∷ []; blocks = blocks1; statics = statics1 }

      lengthens : (waits : List Frame) → Written p args 0 (op.SetField n 0 0 (Var 6)) [] (exit.Return None) waits added_core head head_then
      lengthens waits = writes_field p args [] (exit.Return None) waits added_core n 0 0 (Var 6) 2 (head_block n count s.array) (Word (pos total)) (structs.heads n struct) refl refl refl head refl head_there

      module _ (waits : List Frame) (w2 : Written p args 0 (op.SetField n 0 0 (Var 6)) [] (exit.Return None) waits added_core head head_then) where
        comes_back : Returns p args (length l.items + (more + 1)) (Calling f (head ∷ head2 ∷ []) waits core) Unset waits (record core { blocks = blocks2; statics = statics2; steps = left - more })
        unfolding extend extend_graph extend_done extend_types
        comes_back = record {
          end = w2.end;
          same = w2.memory ∙ ap (λ bs. forgotten (record core { blocks = bs; statics = w2.end.statics; steps = left - more })) w2.blocks ∙ ap (λ ss. forgotten (record core { blocks = blocks2; statics = ss; steps = left - more })) w2.statics;
          leads = leads_more (0 + (0 + (0 + ((length l.items + 1) + (0 + (0 + (0 + (length values + (0 + (0 + 0)))))))))) (length l.items + (more + 1)) (omega (arith, values_long))
              (leads_then (enter has.graph refl)
              (leads_then (reads_field 2 (head_block m more by.array) (Word (pos more)) (structs.heads m struct2) by.head_is refl refl 0 refl)
              (leads_then (pays more (left - more) refl (omega (arith, enough, steps)))
              (leads_then (calls_back {core = inner} (length l.items + 1) refl (ap (λ b. b || (false || false)) head_set) roomed.returns)
              (leads_then (reads_field 2 (head_block n count s.array) (Word (pos count)) (structs.heads n struct) s.head_is refl refl 0 refl)
              (leads_then (reads_field 2 (head_block n count s.array) s.array (structs.heads n struct) s.head_is refl array_set 1 refl)
              (leads_then (reads_field 2 (head_block m more from.array) from.array (structs.heads m struct2) from.head_is refl from.set 1 refl)
              (leads_then (calls_back {core = before_copies from.array} (length values) copies_what (ap (λ b. b || (false || (is_unset s.array || (false || (false || false))))) from.set ∙ ap (λ b. b || false) array_set) from.copying)
              (leads_then (gives (Word (pos total)) (adds count more (omega (arith, whole_long, small_whole))))
              (leads_then w2.way (many 1 (ap (slice_get p.graphs) w2.function ∙ has.graph) refl refl)))))))))));
        }
          where
            copies_what : from.array ∷ Word (pos 0) ∷ s.array ∷ Word (pos count) ∷ Word (pos more) ∷ [] ≡ from.array ∷ Word (pos 0) ∷ s.array ∷ Word (pos (length s.values)) ∷ Word (pos (length values)) ∷ []
            copies_what = ap (λ k. from.array ∷ Word (pos 0) ∷ s.array ∷ Word (pos k) ∷ Word (pos more) ∷ []) (sym long) ∙ ap (λ k. from.array ∷ Word (pos 0) ∷ s.array ∷ Word (pos (length s.values)) ∷ Word (pos k) ∷ []) (sym values_long)

      extended_so : Extended p args layout known g heap left i head head2 l.items by.items f core
      extended_so = record {
        blocks = blocks2;
        statics = statics2;
        ghost = roomed.ghost;
        grown = roomed.grown;
        stands = subst (λ items. Represents layout known roomed.ghost (slice_set heap i (Listed (items ++ by.items))) (left - more) blocks2 statics2) same_items represents;
        few = (let x = wrote2.made in let y = wrote1.made in let z = roomed.few in omega (arith, x, y, z));
        returns = λ waits. comes_back waits (lengthens waits);
      }

    pub extended : Extended p args layout known g heap left i head head2 l.items by.items f core
    extended = either (cases_eq i j)
      where
        either : (i ≡ j) ⊎ (i ≡ j → ⊥) → Extended p args layout known g heap left i head head2 l.items by.items f core
        either (inl e) = extended_so (same_list e)
        either (inr other) = extended_so (other_list other)
