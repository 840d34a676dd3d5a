-- The graph that says whether a tuple is among the items of a list.
use Rattle.std.proofs.Common.{◌≡◌, ◌<◌, ℕ, ◌+◌, ◌^◌, ◌||◌, Bool, true, false, List, [], ◌∷◌, ◌++◌, length, Some, pos, refl, ap, ◌∙◌, arith, length-append}
use Rattle.std.specs.Prelude.{slice_get}
use Rattle.csub_tree.specs.State.{Value, Unset, Word, Flag, Core}
use Rattle.csub_tree.specs.Operation.{is_unset}
use Rattle.csub_tree.specs.declared.tree.COperand.TheVariants.{Var}
use Rattle.ll_code.specs.State.{Frame, Calling}
use Rattle.ll_code.specs.declared.program.LlType.TheVariants as type
use Rattle.ll_code.specs.declared.program.LlOp.TheVariants as op
use Rattle.ll_code.specs.declared.program.LlProgram.{LlProgram}
use Rattle.ll_leads.proofs.Ways.{Comes, on, many, enter, gives, call}
use Rattle.ll_texts.proofs.Numbers.{adds}
use Rattle.rpy_tree.specs.Value.{Value as Meant, Heap}
use Rattle.rpy_meaning.specs.Compare.{is_equal, is_among}
use Rattle.rtyper_layout.specs.declared.layout.Layout.{Layout}
use Rattle.rtyper_layout.specs.Layout.{is_list}
use Rattle.rtyper_layout.specs.Types.{word}
use Rattle.rtyper_data.specs.declared.body.Body.{Body}
use Rattle.rtyper_data.specs.declared.found.Found.{Found}
use Rattle.rtyper_data.specs.Comparing.{equal}
use Rattle.rtyper_data.specs.Seen.{writing}
use Rattle.rtyper_data.specs.Tuples.{variable_of}
use Rattle.list_shape.specs.Shapes.{item_of, shape_of}
use Rattle.list_loops.specs.Loops.{contains, contains_types, contains_graph, contains_start, contains_asks, contains_turn, contains_made, same_item}
use Rattle.object_laws.specs.Known.{Known}
use Rattle.object_laws.specs.Done.{HasLayout}
use Rattle.object_laws.specs.Ghost.{Ghost}
use Rattle.object_laws.specs.Represents.{Represents, ListAt, head_block, array_block}
use Rattle.object_laws.specs.Values.{Holds}
use Rattle.object_laws.proofs.Blocks.{found_set, reads_field, reads_item}
use Rattle.object_laws.proofs.Valued.{each_long, held_set}
use Rattle.std.proofs.Common.{false}
use Rattle.rtyper_layout.specs.Layout.{is_tuple}
use Rattle.rtyper_data.specs.declared.small.Small.TheVariants as small
use Rattle.rtyper_data.specs.Finding.{small_number}
use Rattle.rtyper_data.specs.Seen.{Writing}
use Rattle.conversion_laws.proofs.Equality.{tuples_tested}
use Rattle.conversion_laws.proofs.Testing.{Tuples, equal_is, left_by, operand_of}
use Rattle.list_copy_laws.proofs.Containing.{Tells, loops, made_for, read_ops, two}

abbrev pub tuple_body : Layout → ℕ → ℕ → ℕ → ℕ → Body
tuple_body layout n q r number = record { types = (contains_types (type.Ptr q) (shape_of layout n) ++ type.Ptr r ∷ []) ++ type.Bool ∷ []; ops = read_ops (word (n + 1)) ++ op.Call (Some 8) number (Var 7 ∷ Var 0 ∷ []) ∷ [] }

module _ (layout : Layout) (n q r : ℕ) (apart : is_tuple layout 0 ≡ false) (tuple_q : is_tuple layout q ≡ true) (tuple_r : is_tuple layout r ≡ true) (found : Found) where
  abbrev number : ℕ
  number = (small_number (small.Equal r q) found).0

  abbrev read_first : Writing
  read_first = writing found (record { types = contains_types (type.Ptr q) (shape_of layout n) ++ type.Ptr r ∷ []; ops = read_ops (word (n + 1)) })

  compared_so : equal layout (Var 7) (type.Ptr r) (Var 0) (type.Ptr q) read_first ≡ (operand_of (Tuples r q) read_first, left_by (Tuples r q) (Var 7) (Var 0) read_first)
  compared_so = equal_is layout (type.Ptr r) (type.Ptr q) (Var 7) (Var 0) read_first ∙ ap (λ t. (operand_of t read_first, left_by t (Var 7) (Var 0) read_first)) (tuples_tested layout apart r q tuple_r tuple_q)

  pub tuples_are : item_of layout (word (n + 1)) ≡ type.Ptr r → (contains layout (type.Ptr q) (shape_of layout n) found).0 ≡ contains_graph (shape_of layout n) (8, tuple_body layout n q r number)
  unfolding contains same_item variable_of contains_types
  tuples_are h = ap (made_for layout n found (type.Ptr q)) h ∙ ap (λ made. (contains_made (shape_of layout n) made).0) compared_so

module _ (p : LlProgram) (args : List (List ℕ)) (layout : Layout) (known : Known) (structs : HasLayout p layout) (n : ℕ) (struct : is_list layout n ≡ true) (f : ℕ)
    (g : Ghost) (heap : Heap) (left : ℕ) (core : Core) (r : Represents layout known g heap left core.blocks core.statics) (i : ℕ) (head : Value) (s : ListAt layout known g heap left core.blocks core.statics n i head)
    (x : Value) (v : Meant) (x_set : is_unset x ≡ false) (q t number : ℕ) (graph : slice_get p.graphs f ≡ Some (contains_graph (shape_of layout n) (8, tuple_body layout n q t number)))
    (told : (y : Value) (w : Meant) (b : Bool) → Holds layout known g (known.items n) y w → is_equal w v ≡ b → (function block at : ℕ) (vs : List Value) (waits : List Frame)
    → Comes p args (Calling number (y ∷ x ∷ []) waits (record core { function = function; block = block; at = at; vars = vs })) [] (Flag b) waits (record core { function = function; block = block; at = at; vars = vs })) where
  abbrev count : ℕ
  count = length s.items

  abbrev whole : List Value
  whole = s.values ++ s.spare

  whole_long : length whole ≡ count + length s.spare
  whole_long = length-append s.values s.spare ∙ ap (λ k. k + length s.spare) (each_long s.each)

  small_list : length whole < 2 ^ 63
  small_list = s.long

  array_set : is_unset s.array ≡ false
  array_set = found_set core.blocks core.statics s.array _ s.array_is

  sets : is_unset x || (is_unset s.array || false) ≡ false
  sets = ap (λ b. b || (is_unset s.array || false)) x_set ∙ ap (λ b. b || false) array_set

  passes_both : (y : Value) (w : Meant) → Holds layout known g (known.items n) y w → is_unset y || (is_unset x || false) ≡ false
  passes_both y w held = ap (λ b. b || (is_unset x || false)) (held_set r held) ∙ ap (λ b. b || false) x_set

  tells_tuples : Tells p args layout known structs n struct f g heap left core r i head s x v x_set 8 (tuple_body layout n q t number) graph (Value × Value) two
  unfolding contains_graph contains_start contains_asks contains_turn contains_types
  tells_tuples = record {
    finds = λ j v6 y w rest inside at held h waits. (
      _,
      on (reads_item 1 (array_block n whole) y (structs.arrays n struct) s.array_is refl (held_set r held) j refl (omega (arith, inside, whole_long)) at)
          (on (gives (Word (pos (j + 1))) (adds j 1 (omega (arith, inside, whole_long, small_list)))) (on (call (passes_both y w held) (λ waits. told y w true held h _ _ _ _ waits)) (many 1 graph refl refl))),
    );
    passes = λ j v6 y w rest inside at held h waits. (
      (y, Flag false),
      on (reads_item 1 (array_block n whole) y (structs.arrays n struct) s.array_is refl (held_set r held) j refl (omega (arith, inside, whole_long)) at)
          (on (gives (Word (pos (j + 1))) (adds j 1 (omega (arith, inside, whole_long, small_list)))) (on (call (passes_both y w held) (λ waits. told y w false held h _ _ _ _ waits)) (many 1 graph refl sets))),
    );
  }

  pub contains_tuples : (waits : List Frame) → Comes p args (Calling f (x ∷ head ∷ []) waits core) [] (Flag (is_among v s.items)) waits core
  unfolding contains_graph contains_start contains_asks contains_turn contains_types
  contains_tuples waits = (let it = loops p args layout known structs n struct f g heap left core r i head s x v x_set 8 (tuple_body layout n q t number) graph (Value × Value) two tells_tuples waits [] Unset Unset (Unset, Unset) s.each refl in record {
    end = it.end;
    same = it.same;
    leads = on (enter graph refl) (on (reads_field 2 (head_block n count s.array) (Word (pos count)) (structs.heads n struct) s.head_is refl refl 0 refl) (on (reads_field 2 (head_block n count s.array) s.array (structs.heads n struct) s.head_is refl array_set 1 refl) (on (many 1 graph refl sets) it.leads)));
  })
