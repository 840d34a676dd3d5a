-- The graph that inserts an item into a list, at its cost.
use Rattle.std.proofs.Common.{◌≡◌, ◌<◌, ◌≤◌, ℕ, zero, suc, ◌+◌, ◌-◌, ◌^◌, ◌||◌, min, Bool, true, false, List, [], ◌∷◌, ◌++◌, length, Option, Some, None, Ok, pos, negsuc, refl, sym, ap, ◌∙◌, subst, arith, append_assoc, length-append}
use Rattle.std.specs.Prelude.{slice_get, slice_set, insert, nat_lt}
use Rattle.std.proofs.Math.Nat.{div-mul-le_self}
use Rattle.ann_element.specs.declared.element.Element.{Element}
use Rattle.rpy_base.specs.declared.outcome.FailName.TheVariants as fail
use Rattle.csub_tree.specs.State.{Value, Unset, Word, Flag, Block, Core}
use Rattle.csub_tree.specs.Operation.{is_unset, binary_of}
use Rattle.csub_tree.specs.declared.tree.CBinary.TheVariants as binary
use Rattle.csub_tree.specs.declared.tree.COperand.TheVariants.{Var}
use Rattle.ll_code.specs.State.{Frame, Calling, At}
use Rattle.ll_code.specs.declared.program.LlOp.{LlOp}
use Rattle.ll_code.specs.declared.program.LlOp.TheVariants as op
use Rattle.ll_code.specs.declared.program.LlExit.TheVariants as exit
use Rattle.ll_code.specs.declared.program.LlProgram.{LlProgram}
use Rattle.ll_leads.specs.Memory.{forgotten}
use Rattle.ll_leads.specs.Path.{Leads}
use Rattle.ll_leads.proofs.Joined.{leads_then, leads_more}
use Rattle.ll_leads.proofs.Ways.{on, many, enter, gives, pays, lacks}
use Rattle.ll_build.specs.Build.{word as word_operand}
use Rattle.ll_texts.specs.Follows.{Lacked, FailedAs}
use Rattle.ll_texts.specs.Texts.{found}
use Rattle.ll_texts.proofs.Following.{failed}
use Rattle.ll_texts.proofs.Numbers.{adds, subs, less_true, less_false}
use Rattle.ll_texts.proofs.Writing.{put_mid}
use Rattle.rpy_tree.specs.Value.{Value as Meant, Listed, Heap}
use Rattle.rtyper_layout.specs.declared.layout.Layout.{Layout}
use Rattle.rtyper_layout.specs.Layout.{is_list}
use Rattle.rtyper_layout.specs.Types.{word}
use Rattle.rtyper_data.specs.declared.small.Listed.TheVariants.{Room, MoveUp}
use Rattle.rtyper_data.specs.declared.small.Small.TheVariants as small
use Rattle.rtyper_data.specs.Finding.{small_number}
use Rattle.list_shape.specs.Shapes.{shape_of}
use Rattle.list_loops.specs.Changing.{insert as inserts, insert_graph, insert_low, insert_room, insert_done, insert_types}
use Rattle.list_laws.specs.Asked.{HasInsert}
use Rattle.list_laws.proofs.Copying.{AllSet, array_with}
use Rattle.list_laws.proofs.Moving.{puts_item}
use Rattle.list_laws.proofs.Roomed.{Roomed, makes_room, all_set}
use Rattle.object_laws.specs.Known.{Known}
use Rattle.object_laws.specs.Done.{HasLayout}
use Rattle.object_laws.specs.Ghost.{Ghost, Grown, Use, Head, Array, use_of, ListOf}
use Rattle.object_laws.specs.Represents.{Represents, ListAt, HasRoom, head_block}
use Rattle.object_laws.specs.Values.{Holds, EachHolds, Empty, More, AreEmpty}
use Rattle.object_laws.proofs.Blocks.{found_set, reads_field}
use Rattle.object_laws.proofs.Calling.{Returns, calls_back}
use Rattle.object_laws.proofs.Changing.{IsOf, Wrote, put_block, put_static, wrote_at, list_changes, settled_wrote, get_set_here, uses_apart}
use Rattle.object_laws.proofs.Growing.{grown_none, holds_grows}
use Rattle.object_laws.proofs.Valued.{each_long, held_set}
use Rattle.object_laws.proofs.Writing.{Written, with_item, other_field, writes_field}
use Rattle.list_copy_laws.proofs.Tests.{is_less, not_less}
use Rattle.list_copy_laws.proofs.Upward.{Raised, raised}

-- ---- the items, and one more

-- the values before a place and behind it, with one between them
record Parted (layout : Layout) (known : Known) (g : Ghost) (seen : Option Element) (xs : List Value) (vs : List Meant) (k : ℕ) : Type 0 where
  pre : List Value
  post : List Value
  are : xs ≡ pre ++ post
  at : length pre ≡ k
  each : (x : Value) (v : Meant) → Holds layout known g seen x v → EachHolds layout known g seen (pre ++ x ∷ post) (insert vs k v)

parted : {layout : Layout} {known : Known} {g : Ghost} {seen : Option Element} {xs : List Value} {vs : List Meant} (k : ℕ) → EachHolds layout known g seen xs vs → k ≤ length vs → Parted layout known g seen xs vs k
parted zero Empty h = record { pre = []; post = []; are = refl; at = refl; each = λ x v held. More held Empty }
parted zero (More {x = y} {xs = ys} held each) h = record { pre = []; post = y ∷ ys; are = refl; at = refl; each = λ x v other. More other (More held each) }
parted (suc k) Empty h = absurd (omega (arith, h))
parted (suc k) (More {x = x} held each) h = (let s = parted k each (omega (arith, h)) in record { pre = x ∷ s.pre; post = s.post; are = ap (λ l. x ∷ l) s.are; at = ap suc s.at; each = λ y v other. More held (s.each y v other) })

set_behind : (xs ys : List Value) → AllSet (xs ++ ys) → AllSet ys
set_behind [] ys h = h
set_behind (x ∷ xs) ys h = set_behind xs ys h.1

-- the first spare place
record First (xs : List Value) : Type 0 where
  first : Value
  others : List Value
  is : xs ≡ first ∷ others

first_of : (xs : List Value) → 1 ≤ length xs → First xs
first_of [] h = absurd (omega (arith, h))
first_of (x ∷ xs) h = record { first = x; others = xs; is = refl }

-- what the call leaves
pub record Inserted (p : LlProgram) (args : List (List ℕ)) (layout : Layout) (known : Known) (g : Ghost) (heap : Heap) (left i : ℕ) (head value : Value) (items : List Meant) (at : ℕ) (v : Meant) (f : ℕ) (core : Core) : Type 0 where
  pub blocks : List (Option Block)
  pub statics : List Block
  pub ghost : Ghost
  pub grown : Grown g ghost
  pub stands : Represents layout known ghost (slice_set heap i (Listed (insert items (min at (length items)) v))) (left - 1) blocks statics
  pub few : length blocks ≤ length core.blocks + 1
  pub returns : (waits : List Frame) → Returns p args (length items + (length items + 3)) (Calling f (head ∷ Word (pos at) ∷ value ∷ []) waits core) Unset waits (record core { blocks = blocks; statics = statics; steps = left - 1 })

module _ (p : LlProgram) (args : List (List ℕ)) (layout : Layout) (known : Known) (raised_as : ℕ → Value) (structs : HasLayout p layout) (n : ℕ) (struct : is_list layout n ≡ true) (f : ℕ) (has : HasInsert p layout raised_as n f)
    (g : Ghost) (heap : Heap) (left : ℕ) (core : Core) (r : Represents layout known g heap left core.blocks core.statics) (steps : left ≡ core.steps) (i : ℕ) (head : Value) (home : slice_get g.homes i ≡ Some (record { sort = ListOf n; head = head })) (l : ListAt layout known g heap left core.blocks core.statics n i head)
    (value : Value) (v : Meant) (held : Holds layout known g (known.items n) value v) where
  abbrev makes : ℕ
  makes = (small_number (small.Listed (Room n)) has.made).0

  abbrev a : ℕ
  a = word (n + 1)

  abbrev moves : ℕ
  moves = (small_number (small.Listed (MoveUp a)) (small_number (small.Listed (Room n)) has.made).1).0

  head_set : is_unset head ≡ false
  head_set = found_set core.blocks core.statics head _ l.head_is

  value_set : is_unset value ≡ false
  value_set = held_set r held

  passes_on : is_unset head || (false || (is_unset value || false)) ≡ false
  passes_on = ap (λ b. b || (false || (is_unset value || false))) head_set ∙ ap (λ b. b || false) value_set

  -- ---- below zero

  pub insert_fails : (z : ℕ) (waits : List Frame) → FailedAs p args (Calling f (head ∷ Word (negsuc z) ∷ value ∷ []) waits core) fail.NegativeSlice
  unfolding inserts insert_graph insert_low insert_room insert_done insert_types
  insert_fails z waits = failed (on (enter has.graph refl) (on (gives (Flag true) refl) (many 1 has.graph refl refl))) refl

  module _ (at : ℕ) where
    abbrev room_vars : List Value
    room_vars = head ∷ Word (pos at) ∷ value ∷ Unset ∷ Flag false ∷ Unset ∷ Unset ∷ Unset ∷ []

    -- ---- the steps do not suffice

    pub insert_lacks : left < 1 → (waits : List Frame) → Lacked p args (Calling f (head ∷ Word (pos at) ∷ value ∷ []) waits core) core
    unfolding inserts insert_graph insert_low insert_room insert_done insert_types
    insert_lacks short waits = record {
      last = At (insert_room makes (shape_of layout n)).ops (insert_room makes (shape_of layout n)).exit waits (record core { function = f; block = 1; at = 0; vars = room_vars });
      leads = on (enter has.graph refl) (on (gives (Flag false) (less_false at 0 (omega arith))) (many 1 has.graph refl passes_on));
      ends = lacks p args _ _ waits (record core { function = f; block = 1; at = 0; vars = room_vars }) (word_operand (pos 1)) 1 refl (omega (arith, short, steps));
      blocks = refl;
      holds = λ b k. k;
    }

    -- ---- they do

    module _ (enough : 1 ≤ left) where
      abbrev inner : Core
      inner = record core { function = f; block = 1; at = 1; vars = room_vars; steps = left - 1 }

      roomed : Roomed p args layout known g heap left n i head l.items 1 makes inner
      roomed = makes_room p args layout known raised_as structs n struct makes has.room g heap left inner r i head home l 1 (let half = div-mul-le_self (length l.items) 2 in let room = l.room in omega (arith, half, room, enough))

      m : ListAt layout known roomed.ghost heap left roomed.blocks roomed.statics n i head
      m = roomed.roomy.list

      abbrev count : ℕ
      count = length m.items

      same_items : m.items ≡ l.items
      unfolding m
      same_items = roomed.roomy.same

      wide : 1 ≤ length m.spare
      unfolding m
      wide = roomed.roomy.wide

      spare : First m.spare
      spare = first_of m.spare wide

      abbrev k : ℕ
      k = min at count

      part : Parted layout known roomed.ghost (known.items n) m.values m.items k
      part = parted k m.each (omega arith)

      abbrev pre : List Value
      pre = part.pre

      abbrev post : List Value
      post = part.post

      abbrev whole : List Value
      whole = m.values ++ m.spare

      abbrev fields : List Value
      fields = Word (pos (length whole)) ∷ []

      pre_long : length pre ≡ k
      pre_long = part.at

      whole_is : whole ≡ pre ++ (post ++ spare.first ∷ spare.others)
      whole_is = ap (λ xs. xs ++ m.spare) part.are ∙ append_assoc pre post m.spare ∙ ap (λ s. pre ++ (post ++ s)) spare.is

      count_is : count ≡ length pre + length post
      count_is = sym (each_long m.each) ∙ ap length part.are ∙ length-append pre post

      whole_long : length whole ≡ length pre + (length post + suc (length spare.others))
      whole_long = ap length whole_is ∙ length-append pre (post ++ spare.first ∷ spare.others) ∙ ap (λ q. length pre + q) (length-append post (spare.first ∷ spare.others))

      small_whole : length whole < 2 ^ 63
      small_whole = m.long

      post_set : AllSet post
      post_set = set_behind pre post (subst AllSet part.are (all_set roomed.roomy.stands m.each))

      array_set : is_unset m.array ≡ false
      array_set = found_set roomed.blocks roomed.statics m.array _ m.array_is

      apart : head ≡ m.array → ⊥
      apart e = uses_apart roomed.ghost head m.array (Head i) (Array i) m.head_use m.array_use (λ q. absurd (cc)) e

      -- ---- the items behind the place are moved

      module _ (t : Bool) where
        abbrev done_core : Core
        done_core = record inner { block = 2; at = 0; vars = head ∷ Word (pos k) ∷ value ∷ Word (pos count) ∷ Flag t ∷ Unset ∷ Unset ∷ Unset ∷ []; blocks = roomed.blocks; statics = roomed.statics }

        abbrev moves_core : Core
        moves_core = record done_core { at = 2; vars = head ∷ Word (pos k) ∷ value ∷ Word (pos count) ∷ Flag t ∷ m.array ∷ Word (pos (length post)) ∷ Unset ∷ [] }

        moving : Raised p args (length post) (λ waits. Calling moves (m.array ∷ Word (pos (length pre)) ∷ Word (pos (length post)) ∷ []) waits moves_core) moves_core m.array a fields pre post spare.others
        moving = raised p args layout a moves (structs.arrays n struct) has.moves.graph m.array fields moves_core pre post spare.first spare.others (m.array_is ∙ ap (λ items. Some (record { kind = a; fields = fields; items = items })) whole_is) post_set (subst (λ q. q < 2 ^ 63) (ap length whole_is) small_whole)

        abbrev array1 : Block
        array1 = array_with a fields (pre ++ moving.first ∷ (post ++ spare.others))

        abbrev array2 : Block
        array2 = with_item array1 k value

        abbrev head2 : Block
        head2 = other_field (head_block n count m.array) 0 (Word (pos (count + 1)))

        abbrev blocks1 : List (Option Block)
        blocks1 = put_block m.array array2 moving.blocks

        abbrev statics1 : List Block
        statics1 = put_static m.array array2 moving.statics

        abbrev blocks2 : List (Option Block)
        blocks2 = put_block head head2 blocks1

        abbrev statics2 : List Block
        statics2 = put_static head head2 statics1

        wrote1 : Wrote moving.blocks moving.statics m.array array2 blocks1 statics1
        wrote1 = wrote_at moving.blocks moving.statics m.array array1 array2 moving.wrote.there

        head_there : found blocks1 statics1 head ≡ Some (head_block n count m.array)
        head_there = wrote1.others head apart ∙ moving.wrote.others head apart ∙ m.head_is

        wrote2 : Wrote blocks1 statics1 head head2 blocks2 statics2
        wrote2 = wrote_at blocks1 statics1 head (head_block n count m.array) head2 head_there

        items_are : slice_set (pre ++ moving.first ∷ (post ++ spare.others)) k value ≡ (pre ++ value ∷ post) ++ spare.others
        items_are = put_mid pre moving.first (post ++ spare.others) k value (sym pre_long) ∙ sym (append_assoc pre (value ∷ post) spare.others)

        same_long : length whole ≡ length ((pre ++ value ∷ post) ++ spare.others)
        same_long = whole_long ∙ (let q : length pre + (length post + suc (length spare.others)) ≡ length pre + suc (length post) + length spare.others = omega arith in q) ∙ sym (length-append (pre ++ value ∷ post) spare.others ∙ ap (λ q. q + length spare.others) (length-append pre (value ∷ post)))

        abbrev items2 : List Meant
        items2 = insert m.items k v

        each : EachHolds layout known roomed.ghost (known.items n) (pre ++ value ∷ post) items2
        each = part.each value v (holds_grows roomed.grown held)

        items_long : length items2 ≡ count + 1
        items_long = sym (each_long each) ∙ length-append pre (value ∷ post) ∙ (let q : length pre + suc (length post) ≡ count + 1 = omega (arith, count_is) in q)

        changed : ListAt layout known roomed.ghost (slice_set heap i (Listed items2)) (left - 1) blocks2 statics2 n i head
        changed = record {
          items = items2;
          object = get_set_here heap i (Listed items2) (Listed m.items) m.object;
          array = m.array;
          values = pre ++ value ∷ post;
          spare = spare.others;
          head_use = m.head_use;
          array_use = m.array_use;
          head_is = wrote2.there ∙ ap (λ q. Some (head_block n q m.array)) (sym items_long);
          array_is = wrote2.others m.array (λ e. apart (sym e)) ∙ wrote1.there ∙ ap (λ items. Some (record { kind = a; fields = fields; items = items })) items_are
              ∙ ap (λ q. Some (record { kind = a; fields = Word (pos q) ∷ []; items = (pre ++ value ∷ post) ++ spare.others })) same_long;
          each = each;
          empty = (subst AreEmpty spare.is m.empty).1;
          long = subst (λ q. q < 2 ^ 63) same_long m.long;
          room = subst (λ q. HasRoom q (left - 1)) (sym items_long) (let room = m.room in omega (arith, room, enough));
        }

        represents : Represents layout known roomed.ghost (slice_set heap i (Listed items2)) (left - 1) blocks2 statics2
        represents = list_changes n i head items2 roomed.roomy.stands grown_none refl (omega arith) (ap (λ hs. slice_get hs i) roomed.homes ∙ home) (roomed.roomy.stands.made ∙ sym (wrote2.made ∙ wrote1.made ∙ moving.wrote.made)) (wrote2.fixed ∙ wrote1.fixed ∙ moving.wrote.fixed) (λ x block h. h) others
            (settled_wrote layout roomed.ghost (settled_wrote layout roomed.ghost (settled_wrote layout roomed.ghost roomed.roomy.stands.settled moving.wrote (structs.lists_apart n struct).1) wrote1 (structs.lists_apart n struct).1) wrote2 (structs.lists_apart n struct).0) changed
          where
            others : (x : Value) (u : Use) → use_of roomed.ghost x ≡ Some u → (IsOf i u → ⊥) → found blocks2 statics2 x ≡ found roomed.blocks roomed.statics x
            others x u h other =
                let away : x ≡ m.array → ⊥ = uses_apart roomed.ghost x m.array u (Array i) h m.array_use (λ q. other (subst (IsOf i) (sym q) refl)) in
                wrote2.others x (uses_apart roomed.ghost x head u (Head i) h m.head_use (λ q. other (subst (IsOf i) (sym q) refl))) ∙ wrote1.others x away ∙ moving.wrote.others x away

        -- ---- the way

        abbrev moved_core : Core
        moved_core = record moves_core { at = 3; blocks = moving.blocks; statics = moving.statics }

        abbrev adds_one : LlOp
        adds_one = op.Binary 7 binary.Add (Var 3) (word_operand (pos 1))

        abbrev sets_length : LlOp
        sets_length = op.SetField n 0 0 (Var 7)

        abbrev stored_core : Core
        stored_core = record moved_core { at = 4; blocks = blocks1; statics = statics1 }

        abbrev added_core : Core
        added_core = record stored_core { at = 5; vars = head ∷ Word (pos k) ∷ value ∷ Word (pos count) ∷ Flag t ∷ m.array ∷ Word (pos (length post)) ∷ Word (pos (count + 1)) ∷ [] }

        storing : (waits : List Frame) → Leads p args 1 (At (op.SetItem a 5 (Var 1) (Var 2) ∷ adds_one ∷ sets_length ∷ []) (exit.Return None) waits moved_core) [] (At (adds_one ∷ sets_length ∷ []) (exit.Return None) waits stored_core)
        storing waits = puts_item p args (adds_one ∷ sets_length ∷ []) (exit.Return None) waits moved_core a 5 (Var 1) (Var 2) 1 array1 k value (structs.arrays n struct) refl refl
            (let s : length (pre ++ moving.first ∷ (post ++ spare.others)) ≡ length pre + suc (length (post ++ spare.others)) = length-append pre (moving.first ∷ (post ++ spare.others)) in omega (arith, s, pre_long))
            refl value_set m.array refl moving.wrote.there

        lengthens : (waits : List Frame) → Written p args 0 sets_length [] (exit.Return None) waits added_core head head2
        lengthens waits = writes_field p args [] (exit.Return None) waits added_core n 0 0 (Var 7) 2 (head_block n count m.array) (Word (pos (count + 1))) (structs.heads n struct) refl refl refl head refl head_there

        module _ (waits : List Frame) (w2 : Written p args 0 sets_length [] (exit.Return None) waits added_core head head2)
            (way : Leads p args (length l.items + 1) (Calling f (head ∷ Word (pos at) ∷ value ∷ []) waits core) [] (At (insert_done moves (shape_of layout n)).ops (exit.Return None) waits done_core)) where
          comes_back : Returns p args (length l.items + (length l.items + 3)) (Calling f (head ∷ Word (pos at) ∷ value ∷ []) waits core) Unset waits (record core { blocks = blocks2; statics = statics2; steps = left - 1 })
          unfolding inserts insert_graph insert_low insert_room insert_done insert_types
          comes_back = record {
            end = w2.end;
            same = w2.memory ∙ ap (λ bs. forgotten (record core { blocks = bs; statics = w2.end.statics; steps = left - 1 })) w2.blocks ∙ ap (λ ss. forgotten (record core { blocks = blocks2; statics = ss; steps = left - 1 })) w2.statics;
            leads = leads_more ((length l.items + 1) + (0 + (0 + (length post + (1 + (0 + (0 + 0))))))) (length l.items + (length l.items + 3)) (let q : length m.items ≡ length l.items = ap length same_items in omega (arith, count_is, q))
                (leads_then way
                (leads_then (reads_field 2 (head_block n count m.array) m.array (structs.heads n struct) m.head_is refl array_set 1 refl)
                (leads_then (gives (Word (pos (length post))) (subs count k (length post) (omega (arith, count_is, pre_long)) (omega (arith, count_is, whole_long, small_whole))))
                (leads_then (calls_back {core = moves_core} (length post) moves_what (ap (λ b. b || false) array_set) moving.returns)
                (leads_then (storing waits)
                (leads_then (gives (Word (pos (count + 1))) (adds count 1 (omega (arith, count_is, whole_long, small_whole))))
                (leads_then w2.way (many 1 (ap (slice_get p.graphs) w2.function ∙ has.graph) refl refl))))))));
          }
            where
              moves_what : m.array ∷ Word (pos k) ∷ Word (pos (length post)) ∷ [] ≡ m.array ∷ Word (pos (length pre)) ∷ Word (pos (length post)) ∷ []
              moves_what = ap (λ q. m.array ∷ Word (pos q) ∷ Word (pos (length post)) ∷ []) (sym pre_long)

        inserted_so : ((waits : List Frame) → Leads p args (length l.items + 1) (Calling f (head ∷ Word (pos at) ∷ value ∷ []) waits core) [] (At (insert_done moves (shape_of layout n)).ops (exit.Return None) waits done_core)) → Inserted p args layout known g heap left i head value l.items at v f core
        inserted_so way = record {
          blocks = blocks2;
          statics = statics2;
          ghost = roomed.ghost;
          grown = roomed.grown;
          stands = subst (λ items. Represents layout known roomed.ghost (slice_set heap i (Listed (insert items (min at (length items)) v))) (left - 1) blocks2 statics2) same_items represents;
          few = (let x = wrote2.made in let y = wrote1.made in let q = moving.wrote.made in let z = roomed.few in omega (arith, x, y, q, z));
          returns = λ waits. comes_back waits (lengthens waits) (way waits);
        }

      -- ---- the place

      module _ (t : Bool) (less : binary_of binary.Lt (Word (pos at)) (Word (pos count)) ≡ Ok (Flag t)) where
        abbrev asked_core : Core
        asked_core = record inner { at = 4; vars = head ∷ Word (pos at) ∷ value ∷ Word (pos count) ∷ Flag t ∷ Unset ∷ Unset ∷ Unset ∷ []; blocks = roomed.blocks; statics = roomed.statics }

        to_place : (waits : List Frame) → Leads p args (length l.items + 1) (Calling f (head ∷ Word (pos at) ∷ value ∷ []) waits core) [] (At [] (insert_room makes (shape_of layout n)).exit waits asked_core)
        unfolding inserts insert_graph insert_low insert_room insert_done insert_types
        to_place waits = leads_more (0 + (0 + (0 + (0 + ((length l.items + 1) + (0 + 0)))))) (length l.items + 1) (omega arith)
            (leads_then (enter has.graph refl)
            (leads_then (gives (Flag false) (less_false at 0 (omega arith)))
            (leads_then (many 1 has.graph refl passes_on)
            (leads_then (pays 1 (left - 1) refl (omega (arith, enough, steps)))
            (leads_then (calls_back {core = inner} (length l.items + 1) refl (ap (λ b. b || (false || false)) head_set) roomed.returns)
            (leads_then (reads_field 2 (head_block n count m.array) (Word (pos count)) (structs.heads n struct) m.head_is refl refl 0 refl)
            (gives (Flag t) less)))))))

      before_end : at < count → (waits : List Frame) → Leads p args (length l.items + 1) (Calling f (head ∷ Word (pos at) ∷ value ∷ []) waits core) [] (At (insert_done moves (shape_of layout n)).ops (exit.Return None) waits (done_core true))
      unfolding inserts insert_graph insert_low insert_room insert_done insert_types
      before_end inside waits =
          let same : at ≡ k = omega (arith, inside) in
          subst (λ q. Leads p args (length l.items + 1) (Calling f (head ∷ Word (pos at) ∷ value ∷ []) waits core) [] (At (insert_done moves (shape_of layout n)).ops (exit.Return None) waits (record (done_core true) { vars = head ∷ Word (pos q) ∷ value ∷ Word (pos count) ∷ Flag true ∷ Unset ∷ Unset ∷ Unset ∷ [] }))) same
          (leads_more ((length l.items + 1) + 0) (length l.items + 1) (omega arith) (leads_then (to_place true (less_true at count inside) waits) (many 1 has.graph refl (ap (λ b. b || (false || (is_unset value || (false || false)))) head_set ∙ ap (λ b. b || false) value_set))))

      at_end : count ≤ at → (waits : List Frame) → Leads p args (length l.items + 1) (Calling f (head ∷ Word (pos at) ∷ value ∷ []) waits core) [] (At (insert_done moves (shape_of layout n)).ops (exit.Return None) waits (done_core false))
      unfolding inserts insert_graph insert_low insert_room insert_done insert_types
      at_end outside waits =
          let same : count ≡ k = omega (arith, outside) in
          subst (λ q. Leads p args (length l.items + 1) (Calling f (head ∷ Word (pos at) ∷ value ∷ []) waits core) [] (At (insert_done moves (shape_of layout n)).ops (exit.Return None) waits (record (done_core false) { vars = head ∷ Word (pos q) ∷ value ∷ Word (pos count) ∷ Flag false ∷ Unset ∷ Unset ∷ Unset ∷ [] }))) same
          (leads_more ((length l.items + 1) + 0) (length l.items + 1) (omega arith) (leads_then (to_place false (less_false at count outside) waits) (many 1 has.graph refl (ap (λ b. b || (false || (is_unset value || (false || false)))) head_set ∙ ap (λ b. b || false) value_set))))

      pub inserted : Inserted p args layout known g heap left i head value l.items at v f core
      inserted = by (nat_lt at count) refl
        where
          by : (c : Bool) → nat_lt at count ≡ c → Inserted p args layout known g heap left i head value l.items at v f core
          by true h = inserted_so true (before_end (is_less at count h))
          by false h = inserted_so false (at_end (not_less at count h))
