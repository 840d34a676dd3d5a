-- Looking from the front, where there is no index.
use Rattle.std.proofs.Common.{◌≡◌, ◌<◌, ◌≤◌, ℕ, suc, ◌+◌, ◌^◌, Bool, true, false, List, [], ◌∷◌, ◌++◌, length, Some, None, pos, refl, sym, ap, ◌∙◌, subst, arith, append_assoc, length-append}
use Rattle.std.specs.Prelude.{slice_get, if◌then◌else◌}
use Rattle.csub_tree.specs.State.{Value, Unset, Word, Flag, Core}
use Rattle.csub_tree.specs.Layout.{shape_at, shape_over}
use Rattle.csub_tree.specs.Operation.{is_unset}
use Rattle.csub_tree.specs.Statement.{read}
use Rattle.ll_code.specs.Machine.{shapes_of}
use Rattle.ll_code.specs.State.{Frame, State, Calling, At}
use Rattle.ll_code.specs.declared.program.LlType.TheVariants as type
use Rattle.ll_code.specs.declared.program.LlOp.{LlOp}
use Rattle.ll_code.specs.declared.program.LlProgram.{LlProgram}
use Rattle.ll_leads.specs.Path.{Leads}
use Rattle.ll_leads.proofs.Ways.{Comes, on, many, enter, gives}
use Rattle.ll_texts.specs.Texts.{found}
use Rattle.ll_texts.proofs.Numbers.{adds, less_true, less_false}
use Rattle.ll_texts.proofs.Reading.{get_mid}
use Rattle.rpy_tree.specs.Value.{Value as Meant}
use Rattle.rpy_meaning.specs.Compare.{is_equal}
use Rattle.rtyper_dict.specs.declared.parts.DictShape.{DictShape}
use Rattle.rtyper_dict.specs.Looking.{scan_graph, scan_blocks, scan_starts, scan_asks, scan_reads, scan_compares, scan_types}
use Rattle.list_shape.specs.Shapes.{gives as gives_block}
use Rattle.dict_laws.specs.Keys.{position_from}
use Rattle.object_laws.specs.Dicts.{dict_block, items_block}
use Rattle.object_laws.proofs.Blocks.{reads_field, reads_item}
use Rattle.dict_find_laws.specs.Finding.{place_word}
use Rattle.dict_find_laws.proofs.Keyed.{Tests}

module _ (p : LlProgram) (args : List (List ℕ)) (f : ℕ) (d : DictShape) (test : ℕ → ℕ → LlOp) (core : Core) (head x one two : Value) (places : ℕ) (all : List Meant) (v : Meant)
    (graph : slice_get p.graphs f ≡ Some (scan_graph 8 d (record { types = scan_types d ++ type.Bool ∷ []; ops = scan_reads d ++ test 6 8 ∷ [] })))
    (x_set : is_unset x ≡ false) (one_set : is_unset one ≡ false) (heads : shape_at (shapes_of p.structs) d.dict ≡ shape_over d.dict 4 None) (head_is : found core.blocks core.statics head ≡ Some (dict_block d.dict (length all) places one two)) (waits : List Frame) where
  -- before the key at a place is read
  abbrev asking : ℕ → Value → Value → Value → Value → State
  asking i v3 v6 v7 v8 = At scan_asks.ops scan_asks.exit waits (record core { function = f; block = 2; at = 0; vars = head ∷ x ∷ Word (pos (length all)) ∷ v3 ∷ one ∷ Word (pos i) ∷ v6 ∷ v7 ∷ v8 ∷ [] })

  start : Leads p args 0 (Calling f (head ∷ x ∷ []) waits core) [] (asking 0 Unset Unset Unset Unset)
  unfolding scan_graph scan_blocks scan_starts scan_asks scan_reads scan_compares scan_types
  start =
      on (enter graph refl) (on (reads_field 4 (dict_block d.dict (length all) places one two) one heads head_is refl one_set 2 refl)
      (on (reads_field 4 (dict_block d.dict (length all) places one two) (Word (pos (length all))) heads head_is refl refl 0 refl) (many 1 graph refl (simp (x_set, one_set)))))

  -- no entry has a key
  pub none_scanned : all ≡ [] → Comes p args (Calling f (head ∷ x ∷ []) waits core) [] (place_word None) waits core
  unfolding scan_graph scan_blocks scan_starts scan_asks scan_reads scan_compares
  none_scanned none = record { end = _; same = refl; leads = on start (on (gives (Flag false) (less_false 0 (length all) (let q = ap length none in omega (arith, q)))) (many 2 graph refl refl)) }

  module _ (keys : List Value) (long : length all ≤ length keys) (small : length all < 2 ^ 62) (firsts : shape_at (shapes_of p.structs) d.first ≡ shape_over d.first 1 None) (first_is : found core.blocks core.statics one ≡ Some (items_block d.first keys))
      (tests : (entry : ℕ) (w : Meant) → slice_get all entry ≡ Some w → Tests p args core test x (read keys entry) (is_equal w v)) (sets : (entry : ℕ) → entry < length all → is_unset (read keys entry) ≡ false) where
    abbrev tested : ℕ → Value → Bool → State
    tested i y b = At [] (scan_compares 8 (scan_reads d ++ test 6 8 ∷ [])).exit waits (record core { function = f; block = 3; at = 3; vars = head ∷ x ∷ Word (pos (length all)) ∷ Flag true ∷ one ∷ Word (pos i) ∷ y ∷ Word (pos (i + 1)) ∷ Flag b ∷ [] })

    to_test : (i : ℕ) (w : Meant) (v3 v6 v7 v8 : Value) → i < length all → slice_get all i ≡ Some w → Leads p args 0 (asking i v3 v6 v7 v8) [] (tested i (read keys i) (is_equal w v))
    unfolding scan_graph scan_blocks scan_starts scan_asks scan_reads scan_compares
    to_test i w v3 v6 v7 v8 lt is =
        on (gives (Flag true) (less_true i (length all) lt)) (on (many 1 graph refl (simp (x_set, one_set)))
        (on (reads_item 1 (items_block d.first keys) (read keys i) firsts first_is refl (sets i lt) i refl (omega (arith, lt, long)) refl)
        (on (gives (Word (pos (i + 1))) (adds i 1 (omega (arith, lt, small)))) (tests i w is 6 8 _ _ waits _ _ _ _ refl refl))))

    abbrev From : ℕ → List Meant → Value → Value → Value → Value → Type 0
    From i vs v3 v6 v7 v8 = Comes p args (asking i v3 v6 v7 v8) [] (place_word (position_from is_equal i vs v)) waits core

    turn : (pre : List Meant) (w : Meant) (vs : List Meant) (i : ℕ) (v3 v6 v7 v8 : Value) → all ≡ pre ++ w ∷ vs → i ≡ length pre → From (suc i) vs (Flag true) (read keys i) (Word (pos (i + 1))) (Flag false) → From i (w ∷ vs) v3 v6 v7 v8
    unfolding scan_graph scan_blocks scan_starts scan_asks scan_reads scan_compares gives_block
    turn pre w vs i v3 v6 v7 v8 are at rest = by (is_equal w v) refl
      where
        inside : i < length all
        inside = (let q = ap length are in let r = length-append pre (w ∷ vs) in omega (arith, q, r, at))

        is : slice_get all i ≡ Some w
        is = ap (λ l. slice_get l i) are ∙ get_mid pre w vs i at

        way : (b : Bool) → is_equal w v ≡ b → Leads p args 0 (asking i v3 v6 v7 v8) [] (tested i (read keys i) b)
        way b h = subst (λ b. Leads p args 0 (asking i v3 v6 v7 v8) [] (tested i (read keys i) b)) h (to_test i w v3 v6 v7 v8 inside is)

        one_more : i + 1 ≡ suc i
        one_more = omega arith

        by : (b : Bool) → is_equal w v ≡ b → Comes p args (asking i v3 v6 v7 v8) [] (place_word (if is_equal w v then Some i else position_from is_equal (suc i) vs v)) waits core
        by true h = subst (λ b. Comes p args (asking i v3 v6 v7 v8) [] (place_word (if b then Some i else position_from is_equal (suc i) vs v)) waits core) (sym h) (record { end = _; same = refl; leads = on (way true h) (many 2 graph refl refl) })
        by false h =
            let go = subst (λ n. Comes p args (asking n (Flag true) (read keys i) (Word (pos (i + 1))) (Flag false)) [] (place_word (position_from is_equal (suc i) vs v)) waits core) (sym one_more) rest in
            subst (λ b. Comes p args (asking i v3 v6 v7 v8) [] (place_word (if b then Some i else position_from is_equal (suc i) vs v)) waits core) (sym h) (record { end = go.end; same = go.same; leads = on (way false h) (on (many 1 graph refl (simp (x_set, one_set))) go.leads) })

    scans : (pre vs : List Meant) (i : ℕ) (v3 v6 v7 v8 : Value) → all ≡ pre ++ vs → i ≡ length pre → From i vs v3 v6 v7 v8
    unfolding scan_graph scan_blocks scan_starts scan_asks scan_reads scan_compares
    scans pre [] i v3 v6 v7 v8 are at = record {
      end = _;
      same = refl;
      leads = on (gives (Flag false) (less_false i (length all) (let q = ap length are in let r = length-append pre [] in omega (arith, q, r, at)))) (many 2 graph refl refl);
    }
    scans pre (w ∷ vs) i v3 v6 v7 v8 are at =
        turn pre w vs i v3 v6 v7 v8 are at (scans (pre ++ w ∷ []) vs (suc i) (Flag true) (read keys i) (Word (pos (i + 1))) (Flag false) (are ∙ sym (append_assoc pre (w ∷ []) vs)) (let r = length-append pre (w ∷ []) in omega (arith, r, at)))

    pub key_scanned : Comes p args (Calling f (head ∷ x ∷ []) waits core) [] (place_word (position_from is_equal 0 all v)) waits core
    key_scanned = (let it = scans [] all 0 Unset Unset Unset Unset refl refl in record { end = it.end; same = it.same; leads = on start it.leads })
