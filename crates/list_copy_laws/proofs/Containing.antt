-- The graph that says whether a value is among the items of a list, for words, truth values, bytes and strings.
use Rattle.std.proofs.Common.{◌≡◌, ◌<◌, ℕ, suc, ◌+◌, ◌^◌, ◌||◌, Bool, true, false, List, [], ◌∷◌, ◌++◌, length, Some, Ok, pos, refl, sym, ap, ◌∙◌, subst, arith, append_assoc, length-append}
use Rattle.std.specs.Prelude.{slice_get}
use Rattle.csub_tree.specs.State.{Value, Unset, Word, Byte, Flag, Core}
use Rattle.csub_tree.specs.Operation.{is_unset, binary_of, unary_of}
use Rattle.csub_tree.specs.Statement.{read}
use Rattle.csub_tree.specs.declared.tree.CBinary.{CBinary}
use Rattle.csub_tree.specs.declared.tree.CBinary.TheVariants as binary
use Rattle.csub_tree.specs.declared.tree.CUnary.TheVariants as unary
use Rattle.csub_tree.specs.declared.tree.COperand.TheVariants.{Var}
use Rattle.ll_code.specs.State.{Frame, State, Calling, At, Returning}
use Rattle.ll_code.specs.declared.program.LlType.{LlType}
use Rattle.ll_code.specs.declared.program.LlType.TheVariants as type
use Rattle.ll_code.specs.declared.program.LlOp.{LlOp}
use Rattle.ll_code.specs.declared.program.LlOp.TheVariants as op
use Rattle.ll_code.specs.declared.program.LlGraph.{LlGraph}
use Rattle.ll_code.specs.declared.program.LlProgram.{LlProgram}
use Rattle.ll_leads.specs.Path.{Leads}
use Rattle.ll_leads.proofs.Ways.{Comes, on, many, enter, gives, turns, call}
use Rattle.ll_build.specs.declared.needs.Helper.TheVariants as helper
use Rattle.ll_build.specs.Build.{word as word_operand, flag as flag_operand, answer}
use Rattle.ll_texts.proofs.Numbers.{adds, less_true, less_false}
use Rattle.rpy_tree.specs.Value.{Value as Meant, Heap}
use Rattle.rpy_meaning.specs.Compare.{is_equal, is_among}
use Rattle.rtyper_layout.specs.declared.layout.Layout.{Layout}
use Rattle.rtyper_layout.specs.Layout.{is_list}
use Rattle.rtyper_layout.specs.Types.{word}
use Rattle.rtyper_data.specs.declared.body.Body.{Body}
use Rattle.rtyper_data.specs.declared.found.Found.{Found}
use Rattle.rtyper_data.specs.Comparing.{equal}
use Rattle.rtyper_data.specs.Converting.{helped}
use Rattle.rtyper_data.specs.Finding.{helper_number}
use Rattle.rtyper_data.specs.Seen.{writing}
use Rattle.rtyper_data.specs.Tuples.{variable_of}
use Rattle.list_shape.specs.Shapes.{item_of, shape_of}
use Rattle.list_loops.specs.Loops.{contains, contains_types, contains_graph, contains_start, contains_asks, contains_turn, contains_made, same_item}
use Rattle.list_laws.proofs.Copying.{read_mid}
use Rattle.object_laws.specs.Known.{Known}
use Rattle.object_laws.specs.Done.{HasLayout}
use Rattle.object_laws.specs.Ghost.{Ghost}
use Rattle.object_laws.specs.Represents.{Represents, ListAt, head_block, array_block}
use Rattle.object_laws.specs.Values.{Holds, EachHolds, Empty, More}
use Rattle.object_laws.proofs.Blocks.{found_set, reads_field, reads_item}
use Rattle.object_laws.proofs.Valued.{each_long, held_set}

-- ---- the graph, where the value and the items have one such type

abbrev pub read_ops : ℕ → List LlOp
read_ops a = op.GetItem 7 a 2 (Var 4) ∷ op.Binary 6 binary.Add (Var 4) (word_operand (pos 1)) ∷ []

abbrev pub ops_by : CBinary → ℕ → List LlOp
ops_by o a = read_ops a ++ op.Binary 8 o (Var 7) (Var 0) ∷ []

abbrev pub ops_of_bytes : ℕ → List LlOp
ops_of_bytes a = ((read_ops a ++ op.Unary 8 unary.C2S (Var 7) ∷ []) ++ op.Unary 9 unary.C2S (Var 0) ∷ []) ++ op.Binary 10 binary.Eq (Var 8) (Var 9) ∷ []

abbrev pub one_body : Layout → ℕ → LlType → CBinary → Body
one_body layout n t o = record { types = (contains_types t (shape_of layout n) ++ t ∷ []) ++ type.Bool ∷ []; ops = ops_by o (word (n + 1)) }

abbrev pub byte_body : Layout → ℕ → Body
byte_body layout n = record { types = (((contains_types type.Char (shape_of layout n) ++ type.Char ∷ []) ++ type.Signed ∷ []) ++ type.Signed ∷ []) ++ type.Bool ∷ []; ops = ops_of_bytes (word (n + 1)) }

abbrev pub text_body : Layout → ℕ → ℕ → Body
text_body layout n number = record { types = (contains_types (type.Ptr 0) (shape_of layout n) ++ type.Ptr 0 ∷ []) ++ type.Bool ∷ []; ops = read_ops (word (n + 1)) ++ op.Call (Some 8) number (Var 7 ∷ Var 0 ∷ []) ∷ [] }

module _ (layout : Layout) (n : ℕ) (found : Found) where
  abbrev pub made_for : LlType → LlType → LlGraph
  made_for kind t = (contains_made (shape_of layout n) (equal layout (Var 7) t (Var 0) kind (writing found (record { types = contains_types kind (shape_of layout n) ++ t ∷ []; ops = read_ops (word (n + 1)) })))).0

  pub words_are : item_of layout (word (n + 1)) ≡ type.Signed → (contains layout type.Signed (shape_of layout n) found).0 ≡ contains_graph (shape_of layout n) (8, one_body layout n type.Signed binary.Eq)
  unfolding contains same_item equal variable_of contains_types
  words_are h = ap (made_for type.Signed) h

  pub flags_are : item_of layout (word (n + 1)) ≡ type.Bool → (contains layout type.Bool (shape_of layout n) found).0 ≡ contains_graph (shape_of layout n) (8, one_body layout n type.Bool binary.Beq)
  unfolding contains same_item equal variable_of contains_types
  flags_are h = ap (made_for type.Bool) h

  pub bytes_are : item_of layout (word (n + 1)) ≡ type.Char → (contains layout type.Char (shape_of layout n) found).0 ≡ contains_graph (shape_of layout n) (10, byte_body layout n)
  unfolding contains same_item equal variable_of contains_types
  bytes_are h = ap (made_for type.Char) h

  pub texts_are : item_of layout (word (n + 1)) ≡ type.Ptr 0 → (contains layout (type.Ptr 0) (shape_of layout n) found).0 ≡ contains_graph (shape_of layout n) (8, text_body layout n (helper_number helper.StrEqual found).0)
  unfolding contains same_item equal variable_of contains_types helped
  texts_are h = ap (made_for (type.Ptr 0)) h

abbrev pub two : Value × Value → List Value
two rest = rest.0 ∷ rest.1 ∷ []

-- ---- the loop

module _ (p : LlProgram) (args : List (List ℕ)) (layout : Layout) (known : Known) (structs : HasLayout p layout) (n : ℕ) (struct : is_list layout n ≡ true) (f : ℕ)
    (g : Ghost) (heap : Heap) (left : ℕ) (core : Core) (r : Represents layout known g heap left core.blocks core.statics) (i : ℕ) (head : Value) (s : ListAt layout known g heap left core.blocks core.statics n i head)
    (x : Value) (v : Meant) (x_set : is_unset x ≡ false) where
  abbrev count : ℕ
  count = length s.items

  abbrev whole : List Value
  whole = s.values ++ s.spare

  values_long : length s.values ≡ count
  values_long = each_long s.each

  whole_long : length whole ≡ count + length s.spare
  whole_long = length-append s.values s.spare ∙ ap (λ k. k + length s.spare) values_long

  small : length whole < 2 ^ 63
  small = s.long

  head_set : is_unset head ≡ false
  head_set = found_set core.blocks core.statics head _ s.head_is

  array_set : is_unset s.array ≡ false
  array_set = found_set core.blocks core.statics s.array _ s.array_is

  sets : is_unset x || (is_unset s.array || false) ≡ false
  sets = ap (λ b. b || (is_unset s.array || false)) x_set ∙ ap (λ b. b || false) array_set

  module _ (same : ℕ) (body : Body) (graph : slice_get p.graphs f ≡ Some (contains_graph (shape_of layout n) (same, body))) (Rest : Type 0) (rest_of : Rest → List Value) where
    abbrev vars : ℕ → Value → Value → Rest → List Value
    vars j v5 v6 rest = x ∷ head ∷ s.array ∷ Word (pos count) ∷ Word (pos j) ∷ v5 ∷ v6 ∷ rest_of rest

    abbrev asking : ℕ → Value → Value → Rest → List Frame → State
    asking j v5 v6 rest waits = At contains_asks.ops contains_asks.exit waits (record core { function = f; block = 1; at = 0; vars = vars j v5 v6 rest })

    abbrev turning : ℕ → Value → Rest → List Frame → State
    turning j v6 rest waits = At (contains_turn same body.ops).ops (contains_turn same body.ops).exit waits (record core { function = f; block = 2; at = 0; vars = vars j (Flag true) v6 rest })

    -- the item at a place is the value, or it is not and the next one is asked
    pub record Tells : Type 0 where
      pub finds : (j : ℕ) (v6 y : Value) (w : Meant) (rest : Rest) → j < count → read whole j ≡ y → Holds layout known g (known.items n) y w → is_equal w v ≡ true → (waits : List Frame)
          → (vs : List Value) × Leads p args 0 (turning j v6 rest waits) [] (At (answer (flag_operand true)).ops (answer (flag_operand true)).exit waits (record core { function = f; block = 3; at = 0; vars = vs }))
      pub passes : (j : ℕ) (v6 y : Value) (w : Meant) (rest : Rest) → j < count → read whole j ≡ y → Holds layout known g (known.items n) y w → is_equal w v ≡ false → (waits : List Frame)
          → (next : Rest) × Leads p args 0 (turning j v6 rest waits) [] (asking (j + 1) (Flag true) (Word (pos (j + 1))) next waits)

    module _ (tells : Tells) (waits : List Frame) where
      turn : (xs ys : List Value) (y : Value) (w : Meant) (ws : List Meant) (v5 v6 : Value) (rest : Rest) → Holds layout known g (known.items n) y w → s.values ≡ xs ++ y ∷ ys
          → ((rest : Rest) → Comes p args (asking (length (xs ++ y ∷ [])) (Flag true) (Word (pos (length xs + 1))) rest waits) [] (Flag (is_among v ws)) waits core) → Comes p args (asking (length xs) v5 v6 rest waits) [] (Flag (is_among v (w ∷ ws))) waits core
      unfolding contains_graph contains_start contains_asks contains_turn contains_types
      turn xs ys y w ws v5 v6 rest held are after = by (is_equal w v) refl
        where
          long : length s.values ≡ length xs + suc (length ys)
          long = ap length are ∙ length-append xs (y ∷ ys)

          inside : length xs < count
          inside = omega (arith, long, values_long)

          at : read whole (length xs) ≡ y
          at = ap (λ l. read (l ++ s.spare) (length xs)) are ∙ ap (λ l. read l (length xs)) (append_assoc xs (y ∷ ys) s.spare) ∙ read_mid xs y (ys ++ s.spare) (length xs) refl

          begins : Leads p args 0 (asking (length xs) v5 v6 rest waits) [] (turning (length xs) v6 rest waits)
          begins = on (gives (Flag true) (less_true (length xs) count inside)) (many 1 graph refl sets)

          by : (t : Bool) → is_equal w v ≡ t → Comes p args (asking (length xs) v5 v6 rest waits) [] (Flag (is_equal w v || is_among v ws)) waits core
          by true h = (let it = tells.finds (length xs) v6 y w rest inside at held h waits in
              subst (λ t. Comes p args (asking (length xs) v5 v6 rest waits) [] (Flag (t || is_among v ws)) waits core) (sym h) (record { end = _; same = refl; leads = on begins (on it.1 (many 1 graph refl refl)) }))
          by false h = (let it = tells.passes (length xs) v6 y w rest inside at held h waits in
              let next = after it.0 in
              let at_next : length (xs ++ y ∷ []) ≡ length xs + 1 = length-append xs (y ∷ []) in
              let go : Leads p args 0 (asking (length xs + 1) (Flag true) (Word (pos (length xs + 1))) it.0 waits) [] (Returning (Flag (is_among v ws)) waits next.end) =
              subst (λ k. Leads p args 0 (asking k (Flag true) (Word (pos (length xs + 1))) it.0 waits) [] (Returning (Flag (is_among v ws)) waits next.end)) at_next next.leads in
              subst (λ t. Comes p args (asking (length xs) v5 v6 rest waits) [] (Flag (t || is_among v ws)) waits core) (sym h) (record { end = next.end; same = next.same; leads = on begins (on it.1 go) }))

      pub loops : {xs : List Value} {ws : List Meant} (pre : List Value) (v5 v6 : Value) (rest : Rest) → EachHolds layout known g (known.items n) xs ws → s.values ≡ pre ++ xs → Comes p args (asking (length pre) v5 v6 rest waits) [] (Flag (is_among v ws)) waits core
      unfolding contains_graph contains_start contains_asks contains_turn contains_types
      loops pre v5 v6 rest Empty are = record {
        end = _;
        same = refl;
        leads = on (gives (Flag false) (less_false (length pre) count (let q : length s.values ≡ length pre + 0 = ap length are ∙ length-append pre [] in omega (arith, q, values_long)))) (many 2 graph refl refl);
      }
      loops pre v5 v6 rest (More {x = y} {xs = xs} {v = w} {vs = ws} held each) are =
          turn pre xs y w ws v5 v6 rest held are (λ next. loops (pre ++ y ∷ []) (Flag true) (Word (pos (length pre + 1))) next each (are ∙ sym (append_assoc pre (y ∷ []) xs)))

  -- ---- one operator tells

  module _ (t : LlType) (o : CBinary) (graph : slice_get p.graphs f ≡ Some (contains_graph (shape_of layout n) (8, one_body layout n t o))) (told : (y : Value) (w : Meant) (b : Bool) → Holds layout known g (known.items n) y w → is_equal w v ≡ b → binary_of o y x ≡ Ok (Flag b)) where
    tells_one : Tells 8 (one_body layout n t o) graph (Value × Value) two
    unfolding contains_graph contains_start contains_asks contains_turn contains_types
    tells_one = record {
      finds = λ j v6 y w rest inside at held h waits. (
        _,
        on (reads_item 1 (array_block n whole) y (structs.arrays n struct) s.array_is refl (held_set r held) j refl (omega (arith, inside, whole_long)) at)
            (on (gives (Word (pos (j + 1))) (adds j 1 (omega (arith, inside, whole_long, small)))) (on (gives (Flag true) (told y w true held h)) (many 1 graph refl refl))),
      );
      passes = λ j v6 y w rest inside at held h waits. (
        (y, Flag false),
        on (reads_item 1 (array_block n whole) y (structs.arrays n struct) s.array_is refl (held_set r held) j refl (omega (arith, inside, whole_long)) at)
            (on (gives (Word (pos (j + 1))) (adds j 1 (omega (arith, inside, whole_long, small)))) (on (gives (Flag false) (told y w false held h)) (many 1 graph refl sets))),
      );
    }

    pub contains_one : (waits : List Frame) → Comes p args (Calling f (x ∷ head ∷ []) waits core) [] (Flag (is_among v s.items)) waits core
    unfolding contains_graph contains_start contains_asks contains_turn contains_types
    contains_one waits = (let it = loops 8 (one_body layout n t o) graph (Value × Value) two tells_one waits [] Unset Unset (Unset, Unset) s.each refl in record {
      end = it.end;
      same = it.same;
      leads = on (enter graph refl) (on (reads_field 2 (head_block n count s.array) (Word (pos count)) (structs.heads n struct) s.head_is refl refl 0 refl) (on (reads_field 2 (head_block n count s.array) s.array (structs.heads n struct) s.head_is refl array_set 1 refl) (on (many 1 graph refl sets) it.leads)));
    })

  -- ---- bytes by their numbers

  module _ (graph : slice_get p.graphs f ≡ Some (contains_graph (shape_of layout n) (10, byte_body layout n))) (number : ℕ) (x_is : x ≡ Byte number)
      (told : (y : Value) (w : Meant) (b : Bool) → Holds layout known g (known.items n) y w → is_equal w v ≡ b → (c : ℕ) × (y ≡ Byte c) × (binary_of binary.Eq (Word (pos c)) (Word (pos number)) ≡ Ok (Flag b))) where
    abbrev Four : Type 0
    Four = (Value × Value) × (Value × Value)

    abbrev four : Four → List Value
    four rest = rest.0.0 ∷ rest.0.1 ∷ rest.1.0 ∷ rest.1.1 ∷ []

    tells_bytes : Tells 10 (byte_body layout n) graph Four four
    unfolding contains_graph contains_start contains_asks contains_turn contains_types
    tells_bytes = record {
      finds = λ j v6 y w rest inside at held h waits. (let it = told y w true held h in (
        _,
        on (reads_item 1 (array_block n whole) y (structs.arrays n struct) s.array_is refl (held_set r held) j refl (omega (arith, inside, whole_long)) at)
            (on (gives (Word (pos (j + 1))) (adds j 1 (omega (arith, inside, whole_long, small))))
            (on (turns (Word (pos it.0)) (ap (unary_of unary.C2S) it.1)) (on (turns (Word (pos number)) (ap (unary_of unary.C2S) x_is)) (on (gives (Flag true) it.2) (many 1 graph refl refl))))),
      ));
      passes = λ j v6 y w rest inside at held h waits. (let it = told y w false held h in (
        ((y, Word (pos it.0)), (Word (pos number), Flag false)),
        on (reads_item 1 (array_block n whole) y (structs.arrays n struct) s.array_is refl (held_set r held) j refl (omega (arith, inside, whole_long)) at)
            (on (gives (Word (pos (j + 1))) (adds j 1 (omega (arith, inside, whole_long, small))))
            (on (turns (Word (pos it.0)) (ap (unary_of unary.C2S) it.1)) (on (turns (Word (pos number)) (ap (unary_of unary.C2S) x_is)) (on (gives (Flag false) it.2) (many 1 graph refl sets))))),
      ));
    }

    pub contains_bytes : (waits : List Frame) → Comes p args (Calling f (x ∷ head ∷ []) waits core) [] (Flag (is_among v s.items)) waits core
    unfolding contains_graph contains_start contains_asks contains_turn contains_types
    contains_bytes waits = (let it = loops 10 (byte_body layout n) graph Four four tells_bytes waits [] Unset Unset ((Unset, Unset), (Unset, Unset)) s.each refl in record {
      end = it.end;
      same = it.same;
      leads = on (enter graph refl) (on (reads_field 2 (head_block n count s.array) (Word (pos count)) (structs.heads n struct) s.head_is refl refl 0 refl) (on (reads_field 2 (head_block n count s.array) s.array (structs.heads n struct) s.head_is refl array_set 1 refl) (on (many 1 graph refl sets) it.leads)));
    })

  -- ---- strings by a helper

  module _ (number : ℕ) (graph : slice_get p.graphs f ≡ Some (contains_graph (shape_of layout n) (8, text_body layout n number)))
      (told : (y : Value) (w : Meant) (b : Bool) → Holds layout known g (known.items n) y w → is_equal w v ≡ b → (function block at : ℕ) (vs : List Value) (waits : List Frame)
      → Comes p args (Calling number (y ∷ x ∷ []) waits (record core { function = function; block = block; at = at; vars = vs })) [] (Flag b) waits (record core { function = function; block = block; at = at; vars = vs })) where
    passes_both : (y : Value) (w : Meant) → Holds layout known g (known.items n) y w → is_unset y || (is_unset x || false) ≡ false
    passes_both y w held = ap (λ b. b || (is_unset x || false)) (held_set r held) ∙ ap (λ b. b || false) x_set

    tells_texts : Tells 8 (text_body layout n number) graph (Value × Value) two
    unfolding contains_graph contains_start contains_asks contains_turn contains_types
    tells_texts = record {
      finds = λ j v6 y w rest inside at held h waits. (
        _,
        on (reads_item 1 (array_block n whole) y (structs.arrays n struct) s.array_is refl (held_set r held) j refl (omega (arith, inside, whole_long)) at)
            (on (gives (Word (pos (j + 1))) (adds j 1 (omega (arith, inside, whole_long, small)))) (on (call (passes_both y w held) (λ waits. told y w true held h _ _ _ _ waits)) (many 1 graph refl refl))),
      );
      passes = λ j v6 y w rest inside at held h waits. (
        (y, Flag false),
        on (reads_item 1 (array_block n whole) y (structs.arrays n struct) s.array_is refl (held_set r held) j refl (omega (arith, inside, whole_long)) at)
            (on (gives (Word (pos (j + 1))) (adds j 1 (omega (arith, inside, whole_long, small)))) (on (call (passes_both y w held) (λ waits. told y w false held h _ _ _ _ waits)) (many 1 graph refl sets))),
      );
    }

    pub contains_texts : (waits : List Frame) → Comes p args (Calling f (x ∷ head ∷ []) waits core) [] (Flag (is_among v s.items)) waits core
    unfolding contains_graph contains_start contains_asks contains_turn contains_types
    contains_texts waits = (let it = loops 8 (text_body layout n number) graph (Value × Value) two tells_texts waits [] Unset Unset (Unset, Unset) s.each refl in record {
      end = it.end;
      same = it.same;
      leads = on (enter graph refl) (on (reads_field 2 (head_block n count s.array) (Word (pos count)) (structs.heads n struct) s.head_is refl refl 0 refl) (on (reads_field 2 (head_block n count s.array) s.array (structs.heads n struct) s.head_is refl array_set 1 refl) (on (many 1 graph refl sets) it.leads)));
    })
