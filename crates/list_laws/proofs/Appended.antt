-- The graph that appends an item to a list, at its cost.
use Rattle.std.proofs.Common.{◌≡◌, ◌<◌, ◌≤◌, ℕ, ◌+◌, ◌-◌, ◌^◌, ◌||◌, true, false, List, [], ◌∷◌, ◌++◌, length, Option, Some, None, pos, refl, sym, ap, ◌∙◌, subst, arith, append_assoc, length-append}
use Rattle.std.specs.Prelude.{slice_get, slice_set}
use Rattle.std.proofs.Math.Nat.{div-mul-le_self}
use Rattle.csub_tree.specs.State.{Value, Unset, Word, Block, Core}
use Rattle.csub_tree.specs.Operation.{is_unset, binary_of}
use Rattle.csub_tree.specs.Statement.{read, operand}
use Rattle.csub_tree.specs.declared.tree.CBinary.TheVariants as binary
use Rattle.csub_tree.specs.declared.tree.COperand.TheVariants.{Var}
use Rattle.ll_code.specs.State.{Frame, Calling, At}
use Rattle.ll_code.specs.declared.program.LlOp.{LlOp}
use Rattle.ll_code.specs.declared.program.LlOp.TheVariants as op
use Rattle.ll_code.specs.declared.program.LlExit.TheVariants as exit
use Rattle.ll_code.specs.declared.program.LlProgram.{LlProgram}
use Rattle.ll_leads.specs.Memory.{forgotten}
use Rattle.ll_leads.specs.Path.{Leads}
use Rattle.ll_leads.proofs.Joined.{leads_then, leads_more}
use Rattle.ll_leads.proofs.Ways.{many, enter, gives, pays, lacks}
use Rattle.ll_build.specs.Build.{word as word_operand}
use Rattle.ll_texts.specs.Follows.{Lacked}
use Rattle.ll_texts.specs.Texts.{found}
use Rattle.ll_texts.proofs.Numbers.{adds}
use Rattle.ll_texts.proofs.Writing.{put_mid}
use Rattle.rpy_tree.specs.Value.{Value as Meant, Listed, Heap}
use Rattle.rtyper_layout.specs.declared.layout.Layout.{Layout}
use Rattle.rtyper_layout.specs.Layout.{is_list}
use Rattle.rtyper_layout.specs.Types.{word}
use Rattle.rtyper_data.specs.declared.small.Listed.TheVariants.{Room}
use Rattle.rtyper_data.specs.declared.small.Small.TheVariants as small
use Rattle.rtyper_data.specs.Finding.{small_number}
use Rattle.ann_element.specs.declared.element.Element.{Element}
use Rattle.list_loops.specs.Changing.{append, append_graph, append_done, append_types}
use Rattle.lower_laws.proofs.Doing.{after}
use Rattle.list_laws.specs.Asked.{HasAppend}
use Rattle.object_laws.specs.Known.{Known}
use Rattle.object_laws.specs.Done.{HasLayout}
use Rattle.object_laws.specs.Ghost.{Ghost, Grown, Use, Head, Array, use_of, ListOf}
use Rattle.object_laws.specs.Represents.{Represents, ListAt, HasRoom, head_block, array_block}
use Rattle.object_laws.specs.Values.{Holds, EachHolds, Empty, More, AreEmpty}
use Rattle.object_laws.proofs.Blocks.{found_set, reads_field}
use Rattle.object_laws.proofs.Calling.{Returns, calls_back}
use Rattle.object_laws.proofs.Changing.{IsOf, Wrote, put_block, put_static, wrote_at, list_changes, settled_wrote, get_set_here, uses_apart}
use Rattle.object_laws.proofs.Growing.{holds_grows}
use Rattle.object_laws.proofs.Growing.{grown_none}
use Rattle.list_laws.proofs.Roomed.{Roomed, makes_room}
use Rattle.object_laws.proofs.Valued.{each_long, held_set}
use Rattle.object_laws.proofs.Writing.{Written, with_item, other_field, writes_item, writes_field}

pub each_more : {layout : Layout} {known : Known} {g : Ghost} {seen : Option Element} {xs : List Value} {vs : List Meant} (x : Value) (v : Meant) → EachHolds layout known g seen xs vs → Holds layout known g seen x v → EachHolds layout known g seen (xs ++ x ∷ []) (vs ++ v ∷ [])
each_more x v Empty held = More held Empty
each_more x v (More other each) held = More other (each_more x v each held)

-- what the call leaves
pub record Appended (p : LlProgram) (args : List (List ℕ)) (layout : Layout) (known : Known) (g : Ghost) (heap : Heap) (left i : ℕ) (head value : Value) (items : List Meant) (v : Meant) (f : ℕ) (core : Core) : Type 0 where
  pub blocks : List (Option Block)
  pub statics : List Block
  pub ghost : Ghost
  pub grown : Grown g ghost
  pub stands : Represents layout known ghost (slice_set heap i (Listed (items ++ v ∷ []))) (left - 1) blocks statics
  pub few : length blocks ≤ length core.blocks + 1
  pub returns : (waits : List Frame) → Returns p args (length items + 3) (Calling f (head ∷ value ∷ []) waits core) Unset waits (record core { blocks = blocks; statics = statics; steps = left - 1 })

-- the first spare place
record First (xs : List Value) : Type 0 where
  first : Value
  others : List Value
  is : xs ≡ first ∷ others

first_of : (xs : List Value) → 1 ≤ length xs → First xs
first_of [] h = absurd (omega (arith, h))
first_of (x ∷ xs) h = record { first = x; others = xs; is = refl }

module _ (p : LlProgram) (args : List (List ℕ)) (layout : Layout) (known : Known) (raised : ℕ → Value) (structs : HasLayout p layout) (n : ℕ) (struct : is_list layout n ≡ true) (f : ℕ) (has : HasAppend p layout raised n f)
    (g : Ghost) (heap : Heap) (left : ℕ) (core : Core) (r : Represents layout known g heap left core.blocks core.statics) (steps : left ≡ core.steps) (i : ℕ) (head : Value) (home : slice_get g.homes i ≡ Some (record { sort = ListOf n; head = head })) (l : ListAt layout known g heap left core.blocks core.statics n i head)
    (value : Value) (v : Meant) (held : Holds layout known g (known.items n) value v) where
  abbrev makes : ℕ
  makes = (small_number (small.Listed (Room n)) has.made).0

  -- ---- the steps do not suffice

  pub append_lacks : left < 1 → (waits : List Frame) → Lacked p args (Calling f (head ∷ value ∷ []) waits core) core
  unfolding append append_graph append_done append_types
  append_lacks none waits = record {
    last = At (op.Step (word_operand (pos 1)) ∷ op.Call None makes (Var 0 ∷ word_operand (pos 1) ∷ []) ∷ op.GetField 2 n 0 0 ∷ op.GetField 3 n 0 1 ∷ op.SetItem (word (n + 1)) 3 (Var 2) (Var 1) ∷ op.Binary 4 binary.Add (Var 2) (word_operand (pos 1)) ∷ op.SetField n 0 0 (Var 4) ∷ []) (exit.Return None) waits (record core { function = f; block = 0; at = 0; vars = head ∷ value ∷ Unset ∷ Unset ∷ Unset ∷ [] });
    leads = enter has.graph refl;
    ends = lacks p args _ _ waits (record core { function = f; block = 0; at = 0; vars = head ∷ value ∷ Unset ∷ Unset ∷ Unset ∷ [] }) (word_operand (pos 1)) 1 refl (omega (arith, none, steps));
    blocks = refl;
    holds = λ b k. k;
  }

  -- ---- they do

  module _ (enough : 1 ≤ left) where
    abbrev inner : Core
    inner = record core { function = f; block = 0; at = 1; vars = head ∷ value ∷ Unset ∷ Unset ∷ Unset ∷ []; steps = left - 1 }

    roomed : Roomed p args layout known g heap left n i head l.items 1 makes inner
    roomed = makes_room p args layout known raised structs n struct makes has.room g heap left inner r i head home l 1 (let half = div-mul-le_self (length l.items) 2 in let room = l.room in omega (arith, half, room, enough))

    m : ListAt layout known roomed.ghost heap left roomed.blocks roomed.statics n i head
    m = roomed.roomy.list

    abbrev a : ℕ
    a = word (n + 1)

    abbrev count : ℕ
    count = length m.items

    wide : 1 ≤ length m.spare
    unfolding m
    wide = roomed.roomy.wide

    same_items : m.items ≡ l.items
    unfolding m
    same_items = roomed.roomy.same

    spare : First m.spare
    spare = first_of m.spare wide

    abbrev whole : List Value
    whole = m.values ++ m.spare

    long : length m.values ≡ count
    long = each_long m.each

    small_count : count + 1 < 2 ^ 63
    small_count = (let s : length whole ≡ length m.values + length m.spare = length-append m.values m.spare in let w = wide in let b = m.long in omega (arith, s, w, b, long))

    -- the item stands in the first spare place, and the length is one more
    abbrev array2 : Block
    array2 = with_item (array_block n whole) count value

    abbrev head2 : Block
    head2 = other_field (head_block n count m.array) 0 (Word (pos (count + 1)))

    abbrev blocks1 : List (Option Block)
    blocks1 = put_block m.array array2 roomed.blocks

    abbrev statics1 : List Block
    statics1 = put_static m.array array2 roomed.statics

    abbrev blocks2 : List (Option Block)
    blocks2 = put_block head head2 blocks1

    abbrev statics2 : List Block
    statics2 = put_static head head2 statics1

    apart : head ≡ m.array → ⊥
    apart e = uses_apart roomed.ghost head m.array (Head i) (Array i) m.head_use m.array_use (λ q. absurd (cc)) e

    wrote1 : Wrote roomed.blocks roomed.statics m.array array2 blocks1 statics1
    wrote1 = wrote_at roomed.blocks roomed.statics m.array (array_block n whole) array2 m.array_is

    head_there : found blocks1 statics1 head ≡ Some (head_block n count m.array)
    head_there = wrote1.others head apart ∙ m.head_is

    wrote2 : Wrote blocks1 statics1 head head2 blocks2 statics2
    wrote2 = wrote_at blocks1 statics1 head (head_block n count m.array) head2 head_there

    items_are : slice_set whole count value ≡ (m.values ++ value ∷ []) ++ spare.others
    items_are = ap (λ s. slice_set (m.values ++ s) count value) spare.is ∙ put_mid m.values spare.first spare.others count value (sym long) ∙ sym (append_assoc m.values (value ∷ []) spare.others)

    whole_long : length whole ≡ length ((m.values ++ value ∷ []) ++ spare.others)
    whole_long = ap (λ s. length (m.values ++ s)) spare.is ∙ length-append m.values (spare.first ∷ spare.others) ∙ sym (ap length (append_assoc m.values (value ∷ []) spare.others) ∙ length-append m.values (value ∷ spare.others))

    items_long : length (m.items ++ v ∷ []) ≡ count + 1
    items_long = length-append m.items (v ∷ [])

    changed : ListAt layout known roomed.ghost (slice_set heap i (Listed (m.items ++ v ∷ []))) (left - 1) blocks2 statics2 n i head
    changed = record {
      items = m.items ++ v ∷ [];
      object = get_set_here heap i (Listed (m.items ++ v ∷ [])) (Listed m.items) m.object;
      array = m.array;
      values = m.values ++ value ∷ [];
      spare = spare.others;
      head_use = m.head_use;
      array_use = m.array_use;
      head_is = wrote2.there ∙ ap (λ k. Some (head_block n k m.array)) (sym items_long);
      array_is = wrote2.others m.array (λ e. apart (sym e)) ∙ wrote1.there ∙ ap (λ items. Some (record { kind = a; fields = Word (pos (length whole)) ∷ []; items = items })) items_are
          ∙ ap (λ k. Some (record { kind = a; fields = Word (pos k) ∷ []; items = (m.values ++ value ∷ []) ++ spare.others })) whole_long;
      each = each_more value v m.each (holds_grows roomed.grown held);
      empty = (subst AreEmpty spare.is m.empty).1;
      long = subst (λ k. k < 2 ^ 63) whole_long m.long;
      room = subst (λ k. HasRoom k (left - 1)) (sym items_long) (let room = m.room in omega (arith, room, enough));
    }

    represents : Represents layout known roomed.ghost (slice_set heap i (Listed (m.items ++ v ∷ []))) (left - 1) blocks2 statics2
    represents = list_changes n i head (m.items ++ v ∷ []) roomed.roomy.stands grown_none refl (omega arith) (ap (λ hs. slice_get hs i) roomed.homes ∙ home) (roomed.roomy.stands.made ∙ sym (wrote2.made ∙ wrote1.made)) (wrote2.fixed ∙ wrote1.fixed) (λ x block h. h) others (settled_wrote layout roomed.ghost (settled_wrote layout roomed.ghost roomed.roomy.stands.settled wrote1 (structs.lists_apart n struct).1) wrote2 (structs.lists_apart n struct).0) changed
      where
        others : (x : Value) (u : Use) → use_of roomed.ghost x ≡ Some u → (IsOf i u → ⊥) → found blocks2 statics2 x ≡ found roomed.blocks roomed.statics x
        others x u h other =
            wrote2.others x (uses_apart roomed.ghost x head u (Head i) h m.head_use (λ q. other (subst (IsOf i) (sym q) refl)))
            ∙ wrote1.others x (uses_apart roomed.ghost x m.array u (Array i) h m.array_use (λ q. other (subst (IsOf i) (sym q) refl)))

    head_set : is_unset head ≡ false
    head_set = found_set core.blocks core.statics head _ l.head_is

    array_set : is_unset m.array ≡ false
    array_set = found_set roomed.blocks roomed.statics m.array _ m.array_is

    -- ---- the way

    abbrev roomy_core : Core
    roomy_core = record inner { at = 2; blocks = roomed.blocks; statics = roomed.statics }

    abbrev read_core : Core
    read_core = record roomy_core { at = 4; vars = head ∷ value ∷ Word (pos count) ∷ m.array ∷ Unset ∷ [] }

    abbrev adds_one : LlOp
    adds_one = op.Binary 4 binary.Add (Var 2) (word_operand (pos 1))

    abbrev sets_length : LlOp
    sets_length = op.SetField n 0 0 (Var 4)

    sets_item : (waits : List Frame) → Written p args 1 (op.SetItem a 3 (Var 2) (Var 1)) (adds_one ∷ sets_length ∷ []) (exit.Return None) waits read_core m.array array2
    sets_item waits = writes_item p args (adds_one ∷ sets_length ∷ []) (exit.Return None) waits read_core a 3 (Var 2) (Var 1) 1 (array_block n whole) count value (structs.arrays n struct) refl refl
        (let s : length whole ≡ length m.values + length m.spare = length-append m.values m.spare in let w = wide in omega (arith, s, w, long)) refl (held_set r held) m.array refl m.array_is

    module _ (waits : List Frame) (w1 : Written p args 1 (op.SetItem a 3 (Var 2) (Var 1)) (adds_one ∷ sets_length ∷ []) (exit.Return None) waits read_core m.array array2) where
      abbrev added_core : Core
      added_core = after w1.end 4 (Word (pos (count + 1)))

      adding : Leads p args 0 (At (adds_one ∷ sets_length ∷ []) (exit.Return None) waits w1.end) [] (At (sets_length ∷ []) (exit.Return None) waits added_core)
      adding = gives (Word (pos (count + 1))) (ap (λ vars. binary_of binary.Add (operand vars (Var 2)) (Word (pos 1))) w1.vars ∙ adds count 1 small_count)

      w2 : Written p args 0 sets_length [] (exit.Return None) waits added_core head head2
      w2 = writes_field p args [] (exit.Return None) waits added_core n 0 0 (Var 4) 2 (head_block n count m.array) (Word (pos (count + 1))) (structs.heads n struct) refl (ap (λ vars. operand (slice_set vars 4 (Word (pos (count + 1)))) (Var 4)) w1.vars) refl head (ap (λ vars. read (slice_set vars 4 (Word (pos (count + 1)))) 0) w1.vars) (w1.wrote.others head apart ∙ m.head_is)

      comes_back : Returns p args (length l.items + 3) (Calling f (head ∷ value ∷ []) waits core) Unset waits (record core { blocks = blocks2; statics = statics2; steps = left - 1 })
      unfolding append append_graph append_done append_types
      comes_back = record {
        end = w2.end;
        same = w2.memory ∙ ap (λ (c : Core). record c { blocks = w2.end.blocks; statics = w2.end.statics }) w1.memory
            ∙ ap (λ bs. forgotten (record core { blocks = bs; statics = w2.end.statics; steps = left - 1 })) (w2.blocks ∙ ap (put_block head head2) w1.blocks)
            ∙ ap (λ ss. forgotten (record core { blocks = blocks2; statics = ss; steps = left - 1 })) (w2.statics ∙ ap (put_static head head2) w1.statics);
        leads = leads_more (0 + (0 + ((length l.items + 1) + (0 + (0 + (1 + (0 + (0 + 0)))))))) (length l.items + 3) (omega arith)
            (leads_then (enter has.graph refl)
            (leads_then (pays 1 (left - 1) refl (omega (arith, enough, steps)))
            (leads_then (calls_back {core = inner} (length l.items + 1) refl (ap (λ b. b || (false || false)) head_set) roomed.returns)
            (leads_then (reads_field 2 (head_block n count m.array) (Word (pos count)) (structs.heads n struct) m.head_is refl refl 0 refl)
            (leads_then (reads_field 2 (head_block n count m.array) m.array (structs.heads n struct) m.head_is refl array_set 1 refl)
            (leads_then w1.way
            (leads_then adding
            (leads_then w2.way (many 1 (ap (slice_get p.graphs) (w2.function ∙ w1.function) ∙ has.graph) refl refl)))))))));
      }

    pub appended : Appended p args layout known g heap left i head value l.items v f core
    appended = record {
      blocks = blocks2;
      statics = statics2;
      ghost = roomed.ghost;
      grown = roomed.grown;
      stands = subst (λ items. Represents layout known roomed.ghost (slice_set heap i (Listed (items ++ v ∷ []))) (left - 1) blocks2 statics2) same_items represents;
      few = (let x = wrote2.made in let y = wrote1.made in let z = roomed.few in omega (arith, x, y, z));
      returns = λ waits. comes_back waits (sets_item waits);
    }
