-- The graph that takes the item at a place out of a list.
use Rattle.std.proofs.Common.{◌≡◌, ◌<◌, ℕ, zero, suc, ◌+◌, ◌^◌, ◌||◌, true, false, List, [], ◌∷◌, ◌++◌, length, Option, Some, None, pos, refl, sym, ap, ◌∙◌, subst, arith, append_assoc, length-append}
use Rattle.std.specs.Prelude.{slice_get, slice_set, remove}
use Rattle.ann_element.specs.declared.element.Element.{Element}
use Rattle.csub_tree.specs.State.{Value, Unset, Word, Block, Core}
use Rattle.csub_tree.specs.Operation.{is_unset, binary_of}
use Rattle.csub_tree.specs.Statement.{operand}
use Rattle.csub_tree.specs.declared.tree.CBinary.TheVariants as binary
use Rattle.csub_tree.specs.declared.tree.COperand.TheVariants.{Var}
use Rattle.ll_code.specs.State.{Frame, Calling, At}
use Rattle.ll_code.specs.declared.program.LlType.{LlType}
use Rattle.ll_code.specs.declared.program.LlType.TheVariants as type
use Rattle.ll_code.specs.declared.program.LlOp.{LlOp}
use Rattle.ll_code.specs.declared.program.LlOp.TheVariants as op
use Rattle.ll_code.specs.declared.program.LlExit.TheVariants as exit
use Rattle.ll_code.specs.declared.program.LlProgram.{LlProgram}
use Rattle.ll_held.specs.Held.{is_reference}
use Rattle.ll_leads.specs.Memory.{forgotten}
use Rattle.ll_leads.specs.Path.{Leads}
use Rattle.ll_leads.proofs.Joined.{leads_then, leads_more}
use Rattle.ll_leads.proofs.Ways.{many, enter, gives}
use Rattle.ll_texts.specs.Texts.{found}
use Rattle.ll_texts.proofs.Numbers.{adds, subs}
use Rattle.ll_texts.proofs.Writing.{put_mid}
use Rattle.rpy_tree.specs.Value.{Value as Meant, Listed, Heap}
use Rattle.rtyper_layout.specs.declared.layout.Layout.{Layout}
use Rattle.rtyper_layout.specs.Layout.{is_list}
use Rattle.rtyper_layout.specs.Types.{word}
use Rattle.rtyper_data.specs.declared.small.Listed.TheVariants.{Copy}
use Rattle.rtyper_data.specs.declared.small.Small.TheVariants as small
use Rattle.rtyper_data.specs.Converting.{default_operand}
use Rattle.rtyper_data.specs.Finding.{small_number}
use Rattle.list_shape.specs.Shapes.{item_of}
use Rattle.list_loops.specs.Changing.{remove as removes, remove_graph, remove_done, remove_types}
use Rattle.list_laws.specs.Asked.{HasRemove}
use Rattle.list_laws.proofs.Copying.{AllSet, array_with, the_copy, copy_is}
use Rattle.list_laws.proofs.Moving.{Moved, moved, puts_item}
use Rattle.list_laws.proofs.Roomed.{all_set}
use Rattle.object_laws.specs.Known.{Known}
use Rattle.object_laws.specs.Done.{HasLayout}
use Rattle.object_laws.specs.Ghost.{Ghost, Use, Head, Array, use_of, ListOf}
use Rattle.object_laws.specs.Represents.{Represents, ListAt, HasRoom, head_block}
use Rattle.object_laws.specs.Values.{EachHolds, Empty, More}
use Rattle.object_laws.proofs.Blocks.{found_set, reads_field}
use Rattle.object_laws.proofs.Calling.{Returns, calls_back}
use Rattle.object_laws.proofs.Changing.{IsOf, Wrote, put_block, put_static, wrote_at, list_changes, settled_wrote, get_set_here, uses_apart}
use Rattle.object_laws.proofs.Growing.{grown_none}
use Rattle.object_laws.proofs.Valued.{each_long}
use Rattle.object_laws.proofs.Writing.{Written, with_item, other_field, writes_field}

-- ---- a default

default_set : (t : LlType) (vars : List Value) → is_unset (operand vars (default_operand t)) ≡ false
default_set type.Signed vars = refl
default_set type.Void vars = refl
default_set type.Char vars = refl
default_set type.Bool vars = refl
default_set type.Fn vars = refl
default_set (type.Ptr n) vars = refl

abbrev default_of : LlType → Value
default_of t = operand [] (default_operand t)

default_empty : (t : LlType) → is_reference (default_of t) ≡ false
default_empty type.Signed = refl
default_empty type.Void = refl
default_empty type.Char = refl
default_empty type.Bool = refl
default_empty type.Fn = refl
default_empty (type.Ptr n) = refl

default_is : (t : LlType) (vars : List Value) → operand vars (default_operand t) ≡ default_of t
default_is t vars = refl

-- ---- the items but one

-- the values before a place, there, and behind it
record Parted (layout : Layout) (known : Known) (g : Ghost) (seen : Option Element) (xs : List Value) (vs : List Meant) (k : ℕ) : Type 0 where
  pre : List Value
  gap : Value
  post : List Value
  are : xs ≡ pre ++ gap ∷ post
  at : length pre ≡ k
  each : EachHolds layout known g seen (pre ++ post) (remove vs k)

parted : {layout : Layout} {known : Known} {g : Ghost} {seen : Option Element} {xs : List Value} {vs : List Meant} (k : ℕ) → EachHolds layout known g seen xs vs → k < length vs → Parted layout known g seen xs vs k
parted k Empty h = absurd (omega (arith, h))
parted zero (More {x = x} {xs = xs} held each) h = record { pre = []; gap = x; post = xs; are = refl; at = refl; each = each }
parted (suc k) (More {x = x} held each) h = (let s = parted k each (omega (arith, h)) in record { pre = x ∷ s.pre; gap = s.gap; post = s.post; are = ap (λ l. x ∷ l) s.are; at = ap suc s.at; each = More held s.each })

set_behind : (xs ys : List Value) → AllSet (xs ++ ys) → AllSet ys
set_behind [] ys h = h
set_behind (x ∷ xs) ys h = set_behind xs ys h.1

-- what the call leaves
pub record Removed (p : LlProgram) (args : List (List ℕ)) (layout : Layout) (known : Known) (g : Ghost) (heap : Heap) (left i : ℕ) (head : Value) (items : List Meant) (k f : ℕ) (core : Core) : Type 0 where
  pub blocks : List (Option Block)
  pub statics : List Block
  pub stands : Represents layout known g (slice_set heap i (Listed (remove items k))) left blocks statics
  pub few : length blocks ≡ length core.blocks
  pub returns : (waits : List Frame) → Returns p args (length items) (Calling f (head ∷ Word (pos k) ∷ []) waits core) Unset waits (record core { blocks = blocks; statics = statics })

module _ (p : LlProgram) (args : List (List ℕ)) (layout : Layout) (known : Known) (raised : ℕ → Value) (structs : HasLayout p layout) (n : ℕ) (struct : is_list layout n ≡ true) (f : ℕ) (has : HasRemove p layout raised n f)
    (g : Ghost) (heap : Heap) (left : ℕ) (core : Core) (r : Represents layout known g heap left core.blocks core.statics) (i : ℕ) (head : Value) (home : slice_get g.homes i ≡ Some (record { sort = ListOf n; head = head })) (l : ListAt layout known g heap left core.blocks core.statics n i head)
    (k : ℕ) (within : k < length l.items) where
  abbrev a : ℕ
  a = word (n + 1)

  abbrev t : LlType
  t = item_of layout a

  abbrev copies : ℕ
  copies = (small_number (small.Listed (Copy a a)) has.made).0

  copy_graph_is : slice_get p.graphs copies ≡ Some (the_copy a t)
  copy_graph_is = has.moves.graph ∙ ap Some (copy_is layout a has.moves.made)

  part : Parted layout known g (known.items n) l.values l.items k
  part = parted k l.each within

  abbrev pre : List Value
  pre = part.pre

  abbrev post : List Value
  post = part.post

  abbrev count : ℕ
  count = length l.items

  abbrev whole : List Value
  whole = l.values ++ l.spare

  abbrev fields : List Value
  fields = Word (pos (length whole)) ∷ []

  whole_is : whole ≡ pre ++ part.gap ∷ (post ++ l.spare)
  whole_is = ap (λ xs. xs ++ l.spare) part.are ∙ append_assoc pre (part.gap ∷ post) l.spare

  count_is : count ≡ length pre + suc (length post)
  count_is = sym (each_long l.each) ∙ ap length part.are ∙ length-append pre (part.gap ∷ post)

  whole_long : length whole ≡ length pre + suc (length post + length l.spare)
  whole_long = ap length whole_is ∙ length-append pre (part.gap ∷ (post ++ l.spare)) ∙ ap (λ m. length pre + suc m) (length-append post l.spare)

  pre_long : length pre ≡ k
  pre_long = part.at

  small_whole : length whole < 2 ^ 63
  small_whole = l.long

  abbrev left_count : ℕ
  left_count = length pre + length post

  items_long : length (remove l.items k) ≡ left_count
  items_long = sym (each_long part.each) ∙ length-append pre post

  post_set : AllSet post
  post_set = set_behind (pre ++ part.gap ∷ []) post (subst AllSet (part.are ∙ sym (append_assoc pre (part.gap ∷ []) post)) (all_set r l.each))

  apart : head ≡ l.array → ⊥
  apart e = uses_apart g head l.array (Head i) (Array i) l.head_use l.array_use (λ q. absurd (cc)) e

  head_set : is_unset head ≡ false
  head_set = found_set core.blocks core.statics head _ l.head_is

  array_set : is_unset l.array ≡ false
  array_set = found_set core.blocks core.statics l.array _ l.array_is

  -- ---- the items behind it are moved

  abbrev inner : Core
  inner = record core { function = f; block = 0; at = 5; vars = head ∷ Word (pos k) ∷ Word (pos count) ∷ l.array ∷ Word (pos left_count) ∷ Word (pos (length pre + 1)) ∷ Word (pos (length post)) ∷ [] }

  moving : Moved p args (length post) (λ waits. Calling copies (l.array ∷ Word (pos (length pre + 1)) ∷ l.array ∷ Word (pos (length pre)) ∷ Word (pos (length post)) ∷ []) waits inner) inner l.array a fields pre post l.spare
  moving = moved p args a copies t (structs.arrays n struct) copy_graph_is l.array fields inner post pre part.gap l.spare (l.array_is ∙ ap (λ items. Some (record { kind = a; fields = fields; items = items })) whole_is) post_set (subst (λ m. m < 2 ^ 63) (ap length whole_is) small_whole)

  -- ---- the last place holds nothing, and the length is one less

  abbrev array1 : Block
  array1 = array_with a fields (pre ++ (post ++ moving.last ∷ l.spare))

  abbrev array2 : Block
  array2 = with_item array1 left_count (default_of t)

  abbrev head2 : Block
  head2 = other_field (head_block n count l.array) 0 (Word (pos left_count))

  abbrev blocks1 : List (Option Block)
  blocks1 = put_block l.array array2 moving.blocks

  abbrev statics1 : List Block
  statics1 = put_static l.array array2 moving.statics

  abbrev blocks2 : List (Option Block)
  blocks2 = put_block head head2 blocks1

  abbrev statics2 : List Block
  statics2 = put_static head head2 statics1

  wrote1 : Wrote moving.blocks moving.statics l.array array2 blocks1 statics1
  wrote1 = wrote_at moving.blocks moving.statics l.array array1 array2 moving.wrote.there

  head_there : found blocks1 statics1 head ≡ Some (head_block n count l.array)
  head_there = wrote1.others head apart ∙ moving.wrote.others head apart ∙ l.head_is

  wrote2 : Wrote blocks1 statics1 head head2 blocks2 statics2
  wrote2 = wrote_at blocks1 statics1 head (head_block n count l.array) head2 head_there

  items_are : slice_set (pre ++ (post ++ moving.last ∷ l.spare)) left_count (default_of t) ≡ (pre ++ post) ++ default_of t ∷ l.spare
  items_are = ap (λ s. slice_set s left_count (default_of t)) (sym (append_assoc pre post (moving.last ∷ l.spare))) ∙ put_mid (pre ++ post) moving.last l.spare left_count (default_of t) (sym (length-append pre post))

  same_long : length whole ≡ length ((pre ++ post) ++ default_of t ∷ l.spare)
  same_long = whole_long ∙ (let q : length pre + suc (length post + length l.spare) ≡ length pre + length post + suc (length l.spare) = omega arith in q) ∙ sym (length-append (pre ++ post) (default_of t ∷ l.spare) ∙ ap (λ m. m + suc (length l.spare)) (length-append pre post))

  changed : ListAt layout known g (slice_set heap i (Listed (remove l.items k))) left blocks2 statics2 n i head
  changed = record {
    items = remove l.items k;
    object = get_set_here heap i (Listed (remove l.items k)) (Listed l.items) l.object;
    array = l.array;
    values = pre ++ post;
    spare = default_of t ∷ l.spare;
    head_use = l.head_use;
    array_use = l.array_use;
    head_is = wrote2.there ∙ ap (λ m. Some (head_block n m l.array)) (sym items_long);
    array_is = wrote2.others l.array (λ e. apart (sym e)) ∙ wrote1.there ∙ ap (λ items. Some (record { kind = a; fields = fields; items = items })) items_are
        ∙ ap (λ m. Some (record { kind = a; fields = Word (pos m) ∷ []; items = (pre ++ post) ++ default_of t ∷ l.spare })) same_long;
    each = part.each;
    empty = (default_empty t, l.empty);
    long = subst (λ m. m < 2 ^ 63) same_long l.long;
    room = subst (λ m. HasRoom m left) (sym items_long) fewer;
  }
    where
      fewer : HasRoom left_count left
      fewer = (let room = l.room in omega (arith, room, count_is))

  represents : Represents layout known g (slice_set heap i (Listed (remove l.items k))) left blocks2 statics2
  represents = list_changes n i head (remove l.items k) r grown_none refl (omega arith) home (r.made ∙ sym (wrote2.made ∙ wrote1.made ∙ moving.wrote.made)) (wrote2.fixed ∙ wrote1.fixed ∙ moving.wrote.fixed) (λ x block h. h) others
      (settled_wrote layout g (settled_wrote layout g (settled_wrote layout g r.settled moving.wrote (structs.lists_apart n struct).1) wrote1 (structs.lists_apart n struct).1) wrote2 (structs.lists_apart n struct).0) changed
    where
      others : (x : Value) (u : Use) → use_of g x ≡ Some u → (IsOf i u → ⊥) → found blocks2 statics2 x ≡ found core.blocks core.statics x
      others x u h other =
          let away : x ≡ l.array → ⊥ = uses_apart g x l.array u (Array i) h l.array_use (λ q. other (subst (IsOf i) (sym q) refl)) in
          wrote2.others x (uses_apart g x head u (Head i) h l.head_use (λ q. other (subst (IsOf i) (sym q) refl))) ∙ wrote1.others x away ∙ moving.wrote.others x away

  -- ---- the way

  abbrev moved_core : Core
  moved_core = record inner { at = 6; blocks = moving.blocks; statics = moving.statics }

  abbrev clears : LlOp
  clears = op.SetItem a 3 (Var 4) (default_operand t)

  abbrev sets_length : LlOp
  sets_length = op.SetField n 0 0 (Var 4)

  abbrev cleared_core : Core
  cleared_core = record moved_core { at = 7; blocks = blocks1; statics = statics1 }

  clearing : (waits : List Frame) → Leads p args 1 (At (clears ∷ sets_length ∷ []) (exit.Return None) waits moved_core) [] (At (sets_length ∷ []) (exit.Return None) waits cleared_core)
  clearing waits = puts_item p args (sets_length ∷ []) (exit.Return None) waits moved_core a 3 (Var 4) (default_operand t) 1 array1 left_count (default_of t) (structs.arrays n struct) refl refl
      (let s : length (pre ++ (post ++ moving.last ∷ l.spare)) ≡ length pre + length (post ++ moving.last ∷ l.spare) = length-append pre (post ++ moving.last ∷ l.spare) in let m : length (post ++ moving.last ∷ l.spare) ≡ length post + suc (length l.spare) = length-append post (moving.last ∷ l.spare) in omega (arith, s, m))
      refl (default_set t []) l.array refl moving.wrote.there

  shortens : (waits : List Frame) → Written p args 0 sets_length [] (exit.Return None) waits cleared_core head head2
  shortens waits = writes_field p args [] (exit.Return None) waits cleared_core n 0 0 (Var 4) 2 (head_block n count l.array) (Word (pos left_count)) (structs.heads n struct) refl refl refl head refl head_there

  module _ (waits : List Frame) (w2 : Written p args 0 sets_length [] (exit.Return None) waits cleared_core head head2) where
    comes_back : Returns p args count (Calling f (head ∷ Word (pos k) ∷ []) waits core) Unset waits (record core { blocks = blocks2; statics = statics2 })
    unfolding removes remove_graph remove_done remove_types
    comes_back = record {
      end = w2.end;
      same = w2.memory ∙ ap (λ bs. forgotten (record core { blocks = bs; statics = w2.end.statics })) w2.blocks ∙ ap (λ ss. forgotten (record core { blocks = blocks2; statics = ss })) w2.statics;
      leads = leads_more (0 + (0 + (0 + (0 + (0 + (0 + (length post + (1 + (0 + 0))))))))) count (omega (arith, count_is))
          (leads_then (enter has.graph refl)
          (leads_then (reads_field 2 (head_block n count l.array) (Word (pos count)) (structs.heads n struct) l.head_is refl refl 0 refl)
          (leads_then (reads_field 2 (head_block n count l.array) l.array (structs.heads n struct) l.head_is refl array_set 1 refl)
          (leads_then (gives (Word (pos left_count)) (subs count 1 left_count (omega (arith, count_is)) few_items))
          (leads_then (gives (Word (pos (length pre + 1))) (ap (λ m. binary_of binary.Add (Word (pos m)) (Word (pos 1))) (sym pre_long) ∙ adds (length pre) 1 (omega (arith, few_items, count_is))))
          (leads_then (gives (Word (pos (length post))) (subs left_count k (length post) (omega (arith, pre_long)) (omega (arith, few_items, count_is))))
          (leads_then (calls_back {core = inner} (length post) moves_what (ap (λ b. b || (b || false)) array_set) moving.returns)
          (leads_then (clearing waits)
          (leads_then w2.way (many 1 (ap (slice_get p.graphs) w2.function ∙ has.graph) refl refl))))))))));
    }
      where
        few_items : count < 2 ^ 63
        few_items = omega (arith, count_is, whole_long, small_whole)

        moves_what : l.array ∷ Word (pos (length pre + 1)) ∷ l.array ∷ Word (pos k) ∷ Word (pos (length post)) ∷ [] ≡ l.array ∷ Word (pos (length pre + 1)) ∷ l.array ∷ Word (pos (length pre)) ∷ Word (pos (length post)) ∷ []
        moves_what = ap (λ m. l.array ∷ Word (pos (length pre + 1)) ∷ l.array ∷ Word (pos m) ∷ Word (pos (length post)) ∷ []) (sym pre_long)

  pub removed : Removed p args layout known g heap left i head l.items k f core
  removed = record {
    blocks = blocks2;
    statics = statics2;
    stands = represents;
    few = wrote2.made ∙ wrote1.made ∙ moving.wrote.made;
    returns = λ waits. comes_back waits (shortens waits);
  }
